-- No two records within the bounds have the same bytes. Assumes nothing.
use Prim.Native.Nat.{ℕ, suc, ◌+◌, ◌*◌, ◌^◌, ◌<◌, ◌≤◌}
use mathlib.Core.Path.{◌≡◌, refl, sym, ap, ◌∙◌, subst}
use mathlib.Core.Bool.{Bool, true, false, cond}
use mathlib.Core.List.{List, [], ◌∷◌, ◌++◌, append_assoc, append-nil}
use mathlib.Core.Option.{Option, none, some}
use native.Mathlib.Omega.{arith}
use lib.Dec.{ltb}
use lib.ListN.{length, get_or, length-append}
use Rattle.record_fields.specs.Fields.{number_field, part_field, Most, Later}
use Rattle.record_format.specs.Records.{Header, HeaderWithin, header_bytes, hyperdrive, Stat, StatWithin, stat_bytes, rows_of, rows_bytes, most_of, RowsWithin}
use Rattle.record_format.specs.Records.{Writer, WriterWithin, writer_bytes, Node, NodeWithin, node_bytes, stat_part, writers_bytes, ValueWithin}
use Rattle.record_format.specs.Records.{WritersWithin}
use Rattle.record_format.specs.Theorems.{Restored, EachRestored}
use Rattle.record_fields.proofs.Fields.{part_tag, later_nil, later_later, later_number, later_part}
use Rattle.record_fields.proofs.Unique.{number_unique, given_unique, Sized, part_unique, longest_sized, number_size, part_size, part_within}

-- ---- lengths: each part is far shorter than its length can say

rows_size : (k : ℕ) (os : List (Option ℕ)) → k + length os ≤ 16 → length (rows_bytes k os) ≤ 11 * length os
unfolding rows_bytes
rows_size k [] h = omega arith
rows_size k (o ∷ os) h = omega (arith, length-append (number_field k o) (rows_bytes (suc k) os), number_size k o (omega arith), rows_size (suc k) os (omega arith))

pub stat_size : (s : Stat) → length (stat_bytes s) ≤ 99
unfolding stat_bytes
stat_size s = rows_size 1 (rows_of s) (omega arith)

pub writer_size : (w : Writer) → WriterWithin w → length (writer_bytes w) ≤ 70
unfolding writer_bytes
writer_size w h =
    omega (arith, length-append (part_field 1 (some w.key)) (part_field 2 w.permission), part_size 1 w.key (omega arith), part_within 2 16 w.permission (omega arith) h.permission, h.key)

-- ---- Stat

most_word : (k : ℕ) → most_of k ≤ 18446744073709551615
unfolding most_of
most_word k = go (ltb k 4)
  where
    go : (b : Bool) → cond b 4294967295 18446744073709551615 ≤ 18446744073709551615
    go true = omega arith
    go false = omega arith

pub row_word : (k : ℕ) (o : Option ℕ) → Most (most_of k) o → Most 18446744073709551615 o
row_word k none h = tt
row_word k (some x) h = omega (arith, most_word k)

pub rows_later : (k m : ℕ) (os : List (Option ℕ)) → k < m → m + length os ≤ 16 → Later k (rows_bytes m os)
unfolding rows_bytes
rows_later k m [] h l = later_nil k (omega arith)
rows_later k m (o ∷ os) h l = later_number k m o (rows_bytes (suc m) os) h (omega arith) (rows_later m (suc m) os (omega arith) (omega arith))

rows_unique : (k : ℕ) (os ps : List (Option ℕ)) → length os ≡ length ps → k + length os ≤ 16 → RowsWithin k os → RowsWithin k ps
    → rows_bytes k os ≡ rows_bytes k ps → os ≡ ps
unfolding rows_bytes RowsWithin
rows_unique k [] [] l h v w e = refl
rows_unique k [] (p ∷ ps) l h v w e = absurd (omega arith)
rows_unique k (o ∷ os) [] l h v w e = absurd (omega arith)
rows_unique k (o ∷ os) (p ∷ ps) l h v w e =
    let q = number_unique k o p (rows_bytes (suc k) os) (rows_bytes (suc k) ps) (omega arith) (row_word k o v.0) (row_word k p w.0)
    (rows_later k (suc k) os (omega arith) (omega arith)) (rows_later k (suc k) ps (omega arith) (omega arith)) e in
    let r = rows_unique (suc k) os ps (omega arith) (omega arith) v.1 w.1 q.1 in
    ap (λ (x : Option ℕ). x ∷ os) q.0 ∙ ap (λ (xs : List (Option ℕ)). p ∷ xs) r

stat_of : (mode uid gid size blocks offset byte_offset mtime ctime : Option ℕ) → Stat
stat_of a b c d e f g h i = record { mode = a; uid = b; gid = c; size = d; blocks = e; offset = f; byte_offset = g; mtime = h; ctime = i }

same_rows : (s r : Stat) → rows_of s ≡ rows_of r → s ≡ r
unfolding stat_of
same_rows s r e = go e
  where
    go : rows_of s ≡ rows_of r → stat_of s.mode s.uid s.gid s.size s.blocks s.offset s.byte_offset s.mtime s.ctime
        ≡ stat_of r.mode r.uid r.gid r.size r.blocks r.offset r.byte_offset r.mtime r.ctime
    go q = cc

pub stat_unique : (s r : Stat) → StatWithin s → StatWithin r → stat_bytes s ≡ stat_bytes r → s ≡ r
unfolding stat_bytes
stat_unique s r v w e = same_rows s r (rows_unique 1 (rows_of s) (rows_of r) refl (omega arith) v.rows w.rows e)

-- ---- Writer

writer_of : List ℕ → Option (List ℕ) → Writer
writer_of k p = record { key = k; permission = p }

pub same_writer : (w v : Writer) → w.key ≡ v.key → w.permission ≡ v.permission → w ≡ v
unfolding writer_of
same_writer w v p q = ap (λ (k : List ℕ). writer_of k w.permission) p ∙ ap (writer_of v.key) q

pub writer_unique : (w v : Writer) → WriterWithin w → WriterWithin v → writer_bytes w ≡ writer_bytes v → w ≡ v
unfolding writer_bytes
writer_unique w v g h e =
    let q = given_unique 1 w.key v.key (part_field 2 w.permission) (part_field 2 v.permission) (omega arith) (omega (arith, g.key)) (omega (arith, h.key)) e in
    let p = part_unique 2 w.permission v.permission [] [] (omega arith) (longest_sized 16 w.permission (omega arith) g.permission)
    (longest_sized 16 v.permission (omega arith) h.permission)
    (later_nil 2 (omega arith)) (later_nil 2 (omega arith)) (append-nil (part_field 2 w.permission) ∙ q.1 ∙ sym (append-nil (part_field 2 v.permission))) in
    same_writer w v q.0 p.0

-- writers one behind the other, and what follows them
pub writers_later : (k : ℕ) (ws : List Writer) (t : List ℕ) → k < 4 → Later 4 t → Later k (writers_bytes ws ++ t)
unfolding writers_bytes
writers_later k [] t h f = later_later k 4 t h f
writers_later k (w ∷ ws) t h f =
    subst (Later k) (sym (append_assoc (part_field 4 (some (writer_bytes w))) (writers_bytes ws) t ∙ part_tag 4 (writer_bytes w) (writers_bytes ws ++ t) (omega arith))) (omega arith)

-- what begins with no tag of a Writer
abbrev pub Untagged : List ℕ → Type 0
Untagged s = get_or s 0 256 ≡ 34 → ⊥

pub later_untagged : (s : List ℕ) → Later 4 s → Untagged s
later_untagged s l e = omega arith

pub writer_tag : (w : Writer) (ws : List Writer) (t : List ℕ) → get_or (writers_bytes (w ∷ ws) ++ t) 0 256 ≡ 34
unfolding writers_bytes
writer_tag w ws t =
    ap (λ (s : List ℕ). get_or s 0 256) (append_assoc (part_field 4 (some (writer_bytes w))) (writers_bytes ws) t ∙ part_tag 4 (writer_bytes w) (writers_bytes ws ++ t) (omega arith))

-- the first of two rows of Writers is the same, and what follows it
pub first_same : (w v : Writer) (ws vs : List Writer) (s t : List ℕ) → WriterWithin w → WriterWithin v → writers_bytes (w ∷ ws) ++ s ≡ writers_bytes (v ∷ vs) ++ t
    → (w ≡ v) × (writers_bytes ws ++ s ≡ writers_bytes vs ++ t)
unfolding writers_bytes
first_same w v ws vs s t g h e =
    let p = sym (append_assoc (part_field 4 (some (writer_bytes w))) (writers_bytes ws) s) ∙ e ∙ append_assoc (part_field 4 (some (writer_bytes v))) (writers_bytes vs) t in
    let q = given_unique 4 (writer_bytes w) (writer_bytes v) (writers_bytes ws ++ s) (writers_bytes vs ++ t) (omega arith) (omega (arith, writer_size w g)) (omega (arith, writer_size v h)) p in
    (writer_unique w v g h q.0, q.1)

pub writers_unique : (ws vs : List Writer) (s t : List ℕ) → WritersWithin ws → WritersWithin vs → Untagged s → Untagged t
    → writers_bytes ws ++ s ≡ writers_bytes vs ++ t → (ws ≡ vs) × (s ≡ t)
unfolding writers_bytes WritersWithin
writers_unique [] [] s t g h f l e = (refl, e)
writers_unique [] (v ∷ vs) s t g h f l e = absurd (f (ap (λ (x : List ℕ). get_or x 0 256) e ∙ writer_tag v vs t))
writers_unique (w ∷ ws) [] s t g h f l e = absurd (l (ap (λ (x : List ℕ). get_or x 0 256) (sym e) ∙ writer_tag w ws s))
writers_unique (w ∷ ws) (v ∷ vs) s t g h f l e =
    let q = first_same w v ws vs s t g.0 h.0 e in
    let r = writers_unique ws vs s t g.1 h.1 f l q.1 in
    (ap (λ (x : Writer). x ∷ ws) q.0 ∙ ap (λ (xs : List Writer). v ∷ xs) r.0, r.1)

-- ---- Header

header_of : List ℕ → List ℕ → Header
header_of t c = record { type = t; content = c }

pub same_header : (h g : Header) → h.type ≡ g.type → h.content ≡ g.content → h ≡ g
unfolding header_of
same_header h g p q = ap (λ (t : List ℕ). header_of t h.content) p ∙ ap (header_of g.type) q

ten : length hyperdrive ≡ 10
unfolding hyperdrive
ten = refl

pub named : (h : Header) → HeaderWithin h → length h.type < 2 ^ 64
named h u = omega (arith, ap length u.named, ten)

pub header_unique : (h g : Header) → HeaderWithin h → HeaderWithin g → header_bytes h ≡ header_bytes g → h ≡ g
unfolding header_bytes
header_unique h g v w e =
    let q = given_unique 1 h.type g.type (part_field 2 (some h.content)) (part_field 2 (some g.content)) (omega arith) (named h v) (named g w) e in
    let p = given_unique 2 h.content g.content [] [] (omega arith) (omega (arith, v.sized)) (omega (arith, w.sized))
    (append-nil (part_field 2 (some h.content)) ∙ q.1 ∙ sym (append-nil (part_field 2 (some g.content)))) in
    same_header h g q.0 p.0

-- ---- Node

pub value_sized : (o : Option Stat) → Sized (stat_part o)
value_sized none = tt
value_sized (some s) = omega (arith, stat_size s)

no_some : {A : Type 0} {x : A} → none ≡ some x → ⊥
no_some e = let z : ◌≡◌ {A = ℕ} 0 1 = cc in omega arith

some_eq : {A : Type 0} {x y : A} → some x ≡ some y → x ≡ y
some_eq e = cc

value_unique : (o p : Option Stat) → ValueWithin o → ValueWithin p → stat_part o ≡ stat_part p → o ≡ p
value_unique none none v w e = refl
value_unique none (some r) v w e = absurd (no_some e)
value_unique (some s) none v w e = absurd (no_some (sym e))
value_unique (some s) (some r) v w e = ap {B = Option Stat} some (stat_unique s r v w (some_eq e))

node_of : List ℕ → Option Stat → Option (List ℕ) → List Writer → Option ℕ → Node
node_of p v t w s = record { path = p; value = v; trie = t; writers = w; writers_sequence = s }

pub same_node : (n m : Node) → n.path ≡ m.path → n.value ≡ m.value → n.trie ≡ m.trie → n.writers ≡ m.writers → n.writers_sequence ≡ m.writers_sequence → n ≡ m
unfolding node_of
same_node n m a b c d e = go
  where
    go : node_of n.path n.value n.trie n.writers n.writers_sequence ≡ node_of m.path m.value m.trie m.writers m.writers_sequence
    go = cc

-- what stands behind each field of a Node
pub last_later : (o : Option ℕ) → Later 4 (number_field 5 o)
last_later o = subst (Later 4) (append-nil (number_field 5 o)) (later_number 4 5 o [] (omega arith) (omega arith) (later_nil 5 (omega arith)))

pub trie_later : (n : Node) → Later 3 (writers_bytes n.writers ++ number_field 5 n.writers_sequence)
trie_later n = writers_later 3 n.writers (number_field 5 n.writers_sequence) (omega arith) (last_later n.writers_sequence)

pub value_later : (n : Node) → Later 2 (part_field 3 n.trie ++ (writers_bytes n.writers ++ number_field 5 n.writers_sequence))
value_later n = later_part 2 3 n.trie (writers_bytes n.writers ++ number_field 5 n.writers_sequence) (omega arith) (omega arith) (trie_later n)

pub node_unique : (n m : Node) → NodeWithin n → NodeWithin m → node_bytes n ≡ node_bytes m → n ≡ m
unfolding node_bytes
node_unique n m v w e =
    let p = given_unique 1 n.path m.path _ _ (omega arith) (omega (arith, v.path.short)) (omega (arith, w.path.short)) e in
    let a = part_unique 2 (stat_part n.value) (stat_part m.value) _ _ (omega arith) (value_sized n.value) (value_sized m.value) (value_later n) (value_later m) p.1 in
    let t = part_unique 3 n.trie m.trie _ _ (omega arith) (longest_sized 1024 n.trie (omega arith) v.trie) (longest_sized 1024 m.trie (omega arith) w.trie)
    (trie_later n) (trie_later m) a.1 in
    let r = writers_unique n.writers m.writers _ _ v.writers w.writers (later_untagged (number_field 5 n.writers_sequence) (last_later n.writers_sequence))
    (later_untagged (number_field 5 m.writers_sequence) (last_later m.writers_sequence)) t.1 in
    let q = number_unique 5 n.writers_sequence m.writers_sequence [] [] (omega arith) v.writers_sequence w.writers_sequence (later_nil 5 (omega arith)) (later_nil 5 (omega arith))
    (append-nil (number_field 5 n.writers_sequence) ∙ r.1 ∙ sym (append-nil (number_field 5 m.writers_sequence))) in
    same_node n m p.0 (value_unique n.value m.value v.value w.value a.0) t.0 r.0 q.0

-- ---- the theorems

restored : {A : Type 0} (write : A → List ℕ) (Within : A → Type 0) → ((a b : A) → Within a → Within b → write a ≡ write b → a ≡ b) → Restored write Within
restored write Within one = record {
  read = λ a b v h. one b a h.within v h.bytes;
  one = one;
}

pub each_restored : EachRestored
each_restored = record {
  headers = restored header_bytes HeaderWithin header_unique;
  stats = restored stat_bytes StatWithin stat_unique;
  writers = restored writer_bytes WriterWithin writer_unique;
  nodes = restored node_bytes NodeWithin node_unique;
}
