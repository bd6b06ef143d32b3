-- The parts of a Node lie where its fields do; so what was read is written back. Assumes nothing.
use Prim.Native.Nat.{ℕ, zero, suc, ◌+◌, ◌-◌, ◌<◌, ◌≤◌}
use mathlib.Core.Path.{◌≡◌, refl, sym, ap, ◌∙◌, subst}
use mathlib.Core.List.{List, [], ◌∷◌, ◌++◌, append_assoc}
use mathlib.Core.Option.{Option, none, some}
use native.Mathlib.Omega.{arith}
use lib.ListN.{length, get_or, replicate, length-append, get_or-append}
use Rattle.answer_types.specs.Verdict as verdicts
use Rattle.byte_strings.specs.Lists.{put}
use Rattle.byte_strings.proofs.Lists.{run_ext, run_get_or}
use Rattle.record_fields.specs.Fields.{number_field, part_field, given_field}
use Rattle.record_fields.specs.Inner.{head_of, bytes_placed, number_of, number_told}
use Rattle.record_fields.proofs.Placed.{field_head, part_inside, part_bytes, Lying, lying}
use Rattle.record_format.specs.Records.{Stat, Writer, writer_bytes, writers_bytes, Node, NodeWithin, node_bytes, stat_part}
use Rattle.record_format.specs.From.{node_from}
use Rattle.record_format.specs.Post.{stat_of, stat_told}
use Rattle.std.specs.Prelude.{Result, Ok}
use Rattle.answer_types.specs.declared.Refusal.{Refusal}
use Rattle.record_format.proofs.Unique.{same_writer, same_node}
use Rattle.record_format.proofs.From.{each_read}
use Rattle.record_format.proofs.Whole.{told_some, written_whole}
use Rattle.record_node.specs.Post.{writer_of, no_writer, writers_of, value_of, node_of, WriterInside, WritersInside, NodeInside, NodeFits, writer_placed}
use Rattle.record_node.specs.Post.{writers_placed, all_placed, trie_at, writers_at, value_told, node_placed, no_node}
use Rattle.record_node.specs.Theorems.{Placed, NodesPlaced, NodesWrittenBack, RoomForAny}
use Rattle.record_node.specs.declared.writers.Writer.{Writer as CodeWriter}
use Rattle.record_node.proofs.Listed.{placed_length}
use Rattle.record_node.proofs.Placed.{node_size}

-- ---- Writers

nobody : Writer
nobody = record { key = []; permission = none }

-- a Writer lies in the bytes and is the one written
abbrev Right : List ℕ → CodeWriter → Writer → Type 0
Right d c w = WriterInside d c × (writer_of d c ≡ w)

module _ (d : List ℕ) where
  writer_lying : (front t : List ℕ) (at : ℕ) (w : Writer) → length front ≡ at → d ≡ front ++ (writer_bytes w ++ t) → Right d (writer_placed at w) w
  unfolding writer_bytes
  writer_lying front t at w l e =
      let key = part_field 1 (some w.key) in
      let rest = part_field 2 w.permission in
      let one : d ≡ front ++ (key ++ (rest ++ t)) = e ∙ ap (λ (x : List ℕ). front ++ x) (append_assoc key rest t) in
      let two : d ≡ (front ++ key) ++ (rest ++ t) = one ∙ sym (append_assoc front key (rest ++ t)) in
      let p : Lying d (bytes_placed (at + length key) 2 w.permission) w.permission =
      lying d (front ++ key) t (at + length key) 2 (length-append front key ∙ ap (λ (n : ℕ). n + length key) l) w.permission two in (
        record { key = part_inside d front (rest ++ t) at 1 l w.key one; permission = p.inside },
        same_writer (writer_of d (writer_placed at w)) w (part_bytes d front (rest ++ t) at 1 l w.key one) p.bytes,
      )

  writers_lying : (front t : List ℕ) (at : ℕ) (ws : List Writer) → length front ≡ at → d ≡ front ++ (writers_bytes ws ++ t)
      → (j : ℕ) → j < length ws → Right d (get_or (writers_placed at ws) j no_writer) (get_or ws j nobody)
  unfolding writers_bytes writers_placed
  writers_lying front t at [] l e j h = absurd (omega arith)
  writers_lying front t at (w ∷ ws) l e zero h =
      let head = head_of 4 (writer_bytes w) in
      let rest = writers_bytes ws ++ t in
      writer_lying (front ++ head) rest (at + length head) w (length-append front head ∙ ap (λ (n : ℕ). n + length head) l)
      (e ∙ ap (λ (x : List ℕ). front ++ x) (append_assoc (given_field 4 (writer_bytes w)) (writers_bytes ws) t ∙ ap (λ (x : List ℕ). x ++ rest) (field_head 4 (writer_bytes w))
      ∙ append_assoc head (writer_bytes w) rest)
      ∙ sym (append_assoc front head (writer_bytes w ++ rest)))
  writers_lying front t at (w ∷ ws) l e (suc j) h =
      let field = given_field 4 (writer_bytes w) in
      writers_lying (front ++ field) t (at + length field) ws (length-append front field ∙ ap (λ (n : ℕ). n + length field) l)
      (e ∙ ap (λ (x : List ℕ). front ++ x) (append_assoc field (writers_bytes ws) t) ∙ sym (append_assoc front field (writers_bytes ws ++ t))) j (omega arith)

  module _ (front t : List ℕ) (at : ℕ) (ws : List Writer) (l : length front ≡ at) (e : d ≡ front ++ (writers_bytes ws ++ t)) where
    listed_at : (j : ℕ) → j < length ws → get_or (all_placed at ws).list j no_writer ≡ get_or (writers_placed at ws) j no_writer
    listed_at j h = get_or-append (writers_placed at ws) (replicate (8 - length ws) no_writer) no_writer j (omega (arith, placed_length at ws))

    all_inside : length ws ≤ 8 → WritersInside d (all_placed at ws)
    all_inside few = record { count = few; each = λ j h. subst (WriterInside d) (sym (listed_at j h)) (writers_lying front t at ws l e j h).0 }

    all_same : writers_of d (all_placed at ws) ≡ ws
    all_same =
        run_ext (λ j. writer_of d (get_or (all_placed at ws).list j no_writer)) (λ j. get_or ws j nobody) 0 (length ws)
        (λ j a b. ap (writer_of d) (listed_at j (omega (arith, b))) ∙ (writers_lying front t at ws l e j (omega (arith, b))).1)
        ∙ run_get_or ws (length ws) nobody refl

-- ---- numbers and the Stat

number_there : (o : Option ℕ) → number_of (number_told o) ≡ o
number_there none = refl
number_there (some x) = refl

stat_fields : (a b c d e f g h i : Option ℕ) → Stat
stat_fields a b c d e f g h i = record { mode = a; uid = b; gid = c; size = d; blocks = e; offset = f; byte_offset = g; mtime = h; ctime = i }

stat_there : (s : Stat) → stat_of (stat_told s) ≡ s
unfolding stat_fields
stat_there s = go (number_there s.mode) (number_there s.uid) (number_there s.gid) (number_there s.size) (number_there s.blocks) (number_there s.offset)
    (number_there s.byte_offset) (number_there s.mtime) (number_there s.ctime)
  where
    go : {a b c d e f g h i j k l m n o p q r : Option ℕ} → a ≡ j → b ≡ k → c ≡ l → d ≡ m → e ≡ n → f ≡ o → g ≡ p → h ≡ q → i ≡ r → stat_fields a b c d e f g h i ≡ stat_fields j k l m n o p q r
    go t1 t2 t3 t4 t5 t6 t7 t8 t9 = cc

value_there : (o : Option Stat) → value_of (value_told o) ≡ o
value_there none = refl
value_there (some s) = ap {B = Option Stat} some (stat_there s)

-- ---- the Node

module _ (d : List ℕ) (n : Node) (w : NodeWithin n) (e : node_bytes n ≡ d) where
  one : List ℕ
  one = part_field 1 (some n.path)

  two : List ℕ
  two = part_field 2 (stat_part n.value)

  three : List ℕ
  three = part_field 3 n.trie

  last : List ℕ
  last = number_field 5 n.writers_sequence

  made : d ≡ one ++ (two ++ (three ++ (writers_bytes n.writers ++ last)))
  unfolding one two three last node_bytes
  made = sym e

  trie_made : d ≡ (one ++ two) ++ (three ++ (writers_bytes n.writers ++ last))
  trie_made = made ∙ sym (append_assoc one two (three ++ (writers_bytes n.writers ++ last)))

  writers_made : d ≡ (one ++ (two ++ three)) ++ (writers_bytes n.writers ++ last)
  writers_made =
      made ∙ ap (λ (x : List ℕ). one ++ x) (sym (append_assoc two three (writers_bytes n.writers ++ last))) ∙ sym (append_assoc one (two ++ three) (writers_bytes n.writers ++ last))

  trie_lying : Lying d (bytes_placed (trie_at n) 3 n.trie) n.trie
  unfolding one two three
  trie_lying = lying d (one ++ two) (writers_bytes n.writers ++ last) (trie_at n) 3 refl n.trie trie_made

  pub node_inside : NodeInside d (node_placed n)
  unfolding one two three
  node_inside = record {
    path = part_inside d [] (two ++ (three ++ (writers_bytes n.writers ++ last))) 0 1 refl n.path made;
    trie = trie_lying.inside;
    writers = all_inside d (one ++ (two ++ three)) last (writers_at n) n.writers refl writers_made w.few;
  }

  pub node_same : node_of d (node_placed n) ≡ n
  unfolding one two three
  node_same =
      same_node (node_of d (node_placed n)) n (part_bytes d [] (two ++ (three ++ (writers_bytes n.writers ++ last))) 0 1 refl n.path made) (value_there n.value) trie_lying.bytes
      (all_same d (one ++ (two ++ three)) last (writers_at n) n.writers refl writers_made) (number_there n.writers_sequence)

  pub node_placed_lem : Placed d n
  node_placed_lem = record { fits = record { inside = node_inside; within = subst NodeWithin (sym node_same) w }; fields = node_same }

pub nodes_placed : NodesPlaced
nodes_placed d n e = let a = each_read.nodes.gives d n e in node_placed_lem d n a.within a.bytes

pub room_for_any : RoomForAny
room_for_any n w =
    let p = node_placed_lem (node_bytes n) n w refl in
    subst (λ (m : Node). length (node_bytes m) ≤ 2070) p.fields (node_size p.fits)

pub nodes_written_back : NodesWrittenBack
nodes_written_back d c e out answer after g room =
    let t = told_some verdicts.none verdicts.none no_node node_placed (node_from d) c e in
    let n : Node = t.0 in
    let p = nodes_placed d n t.1.0 in
    let fits : NodeFits d c = subst (NodeFits d) (sym t.1.1) p.fits in
    let bytes : node_bytes (node_of d c) ≡ d = ap (λ (x : _). node_bytes (node_of d x)) t.1.1 ∙ ap node_bytes p.fields ∙ (each_read.nodes.gives d n t.1.0).bytes in
    let r = written_whole (NodeFits d c) (node_bytes (node_of d c)) out answer after fits g (omega (arith, ap length bytes)) in
    (r.0 ∙ ap {B = Result ℕ Refusal} (λ (x : List ℕ). Ok (length x)) bytes, r.1 ∙ ap (put out 0) bytes)
