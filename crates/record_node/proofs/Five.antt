-- The five fields of a Node, as its reader takes them. Assumes nothing.
use Prim.Native.Nat.{ℕ, ◌+◌, ◌-◌, ◌<◌, ◌≤◌}
use mathlib.Core.Path.{◌≡◌, refl, sym, ap, ◌∙◌, subst}
use mathlib.Core.List.{List, [], ◌++◌, append_assoc, append-nil}
use mathlib.Core.Option.{Option, none, some}
use native.Mathlib.Omega.{arith}
use lib.ListN.{length, take, drop, length-append, length-drop, drop_of_length-le}
use Rattle.std.specs.Prelude.{ok_or, Option as Maybe, None, Some}
use Rattle.answer_types.specs.Verdict.{Verdict, refused}
use Rattle.answer_types.specs.Verdict as verdicts
use Rattle.answer_types.specs.declared.Refusal.{Refusal}
use Rattle.answer_types.specs.Meaning.{refusal_of}
use Rattle.byte_strings.specs.Lists.{part}
use Rattle.record_fields.specs.Reading.{BeginsNot, both, Both}
use Rattle.record_fields.specs.Fields.{number_field, part_field, Most, Longest, Later}
use Rattle.record_fields.specs.Inner.{Upto, PartUpto, BytesRead, NumberRead, number_of, number_told, part_of, bytes_of, BytesInside, bytes_placed}
use Rattle.record_fields.specs.declared.rows.Part.{Part}
use Rattle.record_fields.proofs.Reading.{Leads, first_not, then_not, then_read}
use Rattle.record_fields.proofs.Fields.{later_nil, later_part, later_number}
use Rattle.record_fields.proofs.Placed.{upto_next, bytes_placed_lem}
use Rattle.record_format.specs.Records.{Stat, stat_bytes, writers_bytes, Node, NodeWithin, node_bytes, stat_part}
use Rattle.record_format.specs.Theorems.{Rejected}
use Rattle.record_format.specs.Post.{stat_of, stat_told, told_of, StatReadAs}
use Rattle.record_format.specs.declared.stats.Stat.{Stat as CodeStat}
use Rattle.record_format.proofs.Unique.{stat_size, writers_later}
use Rattle.record_format.proofs.From.{each_read}
use Rattle.record_node.specs.Post.{writers_of, value_of, node_of, all_placed, value_told, node_placed, no_node, node_told, read_node}
use Rattle.record_node.specs.Inner.{WritersFew, WritersUpto, WritersRead, three_parts, PartsLongest, PartsUpto, PartsRead, tail_bytes, TailWithin, TailAt}
use Rattle.record_node.specs.Inner.{TailRead, RawFields, raw_bytes, RawWithin, RawAt, RawRead, WithPathAs, ValueReadAs, NodeAt, NodeFound}
use Rattle.record_node.proofs.Keyed.{given_part}
use Rattle.record_node.specs.declared.writers.Writers.{Writers}
use Rattle.record_node.specs.declared.reading.Node.{Node as CodeNode}

-- ---- the first three fields

abbrev last_two : Option (List ℕ) × Option (List ℕ) → List ℕ
last_two = both (part_field 2) (part_field 3)

abbrev LastLongest : Option (List ℕ) × Option (List ℕ) → Type 0
LastLongest = Both (Longest 99) (Longest 1024)

second_leads : Leads (part_field 2) (Longest 99) (Later 2) (part_field 3) (Longest 1024) (Later 3)
second_leads o t w f = later_part 2 3 o t (omega arith) (omega arith) f

first_leads : Leads (part_field 1) (Longest 255) (Later 1) last_two LastLongest (Later 3)
first_leads p t w f =
    subst (Later 1) (sym (append_assoc (part_field 2 p.0) (part_field 3 p.1) t))
    (later_part 1 2 p.0 (part_field 3 p.1 ++ t) (omega arith) (omega arith) (later_part 2 3 p.1 t (omega arith) (omega arith) f))

module _ (d : List ℕ) where
  pub parts_first : BytesRead d 0 1 255 None → PartsRead d None
  parts_first g = first_not (part_field 1) (Longest 255) (Later 1) last_two LastLongest (Later 3) first_leads g.none

  module _ {path : Maybe Part} {second : ℕ} (one : PartUpto d 0 1 255 path second) where
    pub parts_second : BytesRead d second 2 99 None → PartsRead d None
    parts_second h =
        then_not (part_field 1) (Longest 255) (Later 1) last_two LastLongest (Later 3) first_leads d 0 one.read
        (first_not (part_field 2) (Longest 99) (Later 2) (part_field 3) (Longest 1024) (Later 3) second_leads h.none)

    module _ {value : Maybe Part} {third : ℕ} (two : PartUpto d second 2 99 value third) where
      pub parts_third : BytesRead d third 3 1024 None → PartsRead d None
      parts_third j =
          then_not (part_field 1) (Longest 255) (Later 1) last_two LastLongest (Later 3) first_leads d 0 one.read
          (then_not (part_field 2) (Longest 99) (Later 2) (part_field 3) (Longest 1024) (Later 3) second_leads d second two.read j.none)

      pub parts_read : {trie : Maybe Part} {fourth : ℕ} → PartUpto d third 3 1024 trie fourth → PartsUpto d path value trie fourth
      parts_read {trie} {fourth} three =
          record {
            inside = (one.inside, (two.inside, three.inside));
            read =
                then_read (part_field 1) (Longest 255) (Later 1) last_two LastLongest (Later 3) first_leads d 0 one.read
                (then_read (part_field 2) (Longest 99) (Later 2) (part_field 3) (Longest 1024) (Later 3) second_leads d second two.read three.read);
            first = bytes_placed_lem d 0 1 255 path second (omega arith) one;
            third = bytes_placed_lem d third 3 1024 trie fourth two.read.inside three ∙ ap (λ (n : ℕ). bytes_placed n 3 (bytes_of d trie)) reached;
          }
        where
          reached : third ≡ length (part_field 1 (bytes_of d path) ++ part_field 2 (bytes_of d value))
          reached =
              let none : 0 ≤ length d = omega arith in
              omega (arith, upto_next none one.read, upto_next one.read.inside two.read, length-append (part_field 1 (bytes_of d path)) (part_field 2 (bytes_of d value)))

-- ---- the last two fields

fifth_leads : Leads writers_bytes WritersFew (Later 4) (number_field 5) (Most 18446744073709551615) (Later 5)
fifth_leads o t w f = later_number 4 5 o t (omega arith) (omega arith) f

-- nothing is left where nothing follows
ends : {A : Type 0} (write : A → List ℕ) (Within : A → Type 0) (k : ℕ) (s : List ℕ) → k < 16 → BeginsNot write Within (Later k) s → (a : A) → Within a → s ≡ write a → ⊥
ends write Within k s h n a w e = n a [] w (later_nil k h) (e ∙ sym (append-nil (write a)))

module _ (d : List ℕ) (at : ℕ) where
  pub tail_writers : WritersRead d at None → TailRead d at None
  tail_writers g =
      ends tail_bytes TailWithin 5 (drop at d) (omega arith)
      (first_not writers_bytes WritersFew (Later 4) (number_field 5) (Most 18446744073709551615) (Later 5) fifth_leads g)

  module _ {ws : Writers} {fifth : ℕ} (read : WritersUpto d at ws fifth) where
    pub tail_number : NumberRead d fifth 5 18446744073709551615 None → TailRead d at None
    tail_number h =
        ends tail_bytes TailWithin 5 (drop at d) (omega arith)
        (then_not writers_bytes WritersFew (Later 4) (number_field 5) (Most 18446744073709551615) (Later 5) fifth_leads d at read.read h)

    module _ {sequence : Option ℕ} {end : ℕ} (h : Upto (number_field 5) (Most 18446744073709551615) (Later 5) d fifth sequence end) where
      both_of : Upto tail_bytes TailWithin (Later 5) d at (writers_of d ws, sequence) end
      both_of =
          then_read writers_bytes WritersFew (Later 4) (number_field 5) (Most 18446744073709551615) (Later 5) fifth_leads d at read.read h

      pub tail_left : end < length d → TailRead d at None
      tail_left l t w q =
          omega (arith, ap length (both_of.begins.only t [] w (later_nil 5 (omega arith)) (q ∙ sym (append-nil (tail_bytes t)))).1, length-drop end d)

      pub tail_read : length d ≤ end → TailAt d at ws sequence
      tail_read l =
          let q : end ≡ length d = omega (arith, both_of.inside) in
          record { inside = read.inside; read = subst (λ (n : ℕ). Upto tail_bytes TailWithin (Later 5) d at (writers_of d ws, sequence) n) q both_of; placed = read.placed }

-- ---- all five

tail_leads : Leads three_parts PartsLongest (Later 3) tail_bytes TailWithin (Later 5)
tail_leads p t w f =
    subst (Later 3) (sym (append_assoc (writers_bytes p.0) (number_field 5 p.1) t))
    (writers_later 3 p.0 (number_field 5 p.1 ++ t) (omega arith) (later_number 4 5 p.1 t (omega arith) (omega arith) f))

module _ (d : List ℕ) where
  pub raw_first : PartsRead d None → RawRead d None
  raw_first g r w q =
      ends raw_bytes RawWithin 5 d (omega arith)
      (first_not three_parts PartsLongest (Later 3) tail_bytes TailWithin (Later 5) tail_leads g) r w (sym q)

  module _ {path value trie : Maybe Part} {fourth : ℕ} (three : PartsUpto d path value trie fourth) where
    pub raw_tail : TailRead d fourth None → RawRead d None
    raw_tail n r w q =
        let o = three.read.begins.only r.0 (tail_bytes r.1) w.0
        (subst (Later 3) (append-nil (tail_bytes r.1)) (tail_leads r.1 [] w.1 (later_nil 5 (omega arith)))) (sym q) in
        n r.1 w.1 (sym o.1)

    pub raw_read : {ws : Writers} {sequence : Option ℕ} → TailAt d fourth ws sequence → RawAt d path value trie ws sequence
    raw_read {ws} {sequence} tail =
        record {
          parts =
              three.inside;
          writers = tail.inside;
          accepted = record { within = all.begins.within; bytes = sym bytes };
          only = only;
          first = three.first;
          third = three.third;
          fourth = placed;
        }
      where
        found : RawFields
        found = ((bytes_of d path, (bytes_of d value, bytes_of d trie)), (writers_of d ws, sequence))

        all : Upto raw_bytes RawWithin (Later 5) d 0 found (length d)
        all = then_read three_parts PartsLongest (Later 3) tail_bytes TailWithin (Later 5) tail_leads d 0 three.read tail.read

        placed : ws ≡ all_placed (length (three_parts (bytes_of d path, (bytes_of d value, bytes_of d trie)))) (writers_of d ws)
        placed =
            let none : 0 ≤ length d = omega arith in
            let n : fourth ≡ length (three_parts (bytes_of d path, (bytes_of d value, bytes_of d trie))) = omega (arith, upto_next none three.read) in
            tail.placed ∙ ap (λ (m : ℕ). all_placed m (writers_of d ws)) n

        whole : length d ≤ length d
        whole = omega arith

        bytes : d ≡ raw_bytes found
        bytes = all.begins.made ∙ ap (λ (t : List ℕ). raw_bytes found ++ t) (drop_of_length-le d whole) ∙ append-nil (raw_bytes found)

        only : (r : RawFields) → RawWithin r → raw_bytes r ≡ d → r ≡ found
        only r w q = (all.begins.only r [] w (later_nil 5 (omega arith)) (sym q ∙ sym (append-nil (raw_bytes r)))).0

-- ---- what the fields of a Node are

raw_of : Node → RawFields
raw_of n = ((some n.path, (stat_part n.value, n.trie)), (n.writers, n.writers_sequence))

raw_bytes_lem : (n : Node) → raw_bytes (raw_of n) ≡ node_bytes n
unfolding node_bytes raw_of
raw_bytes_lem n = simp append_assoc

value_short : (o : Option Stat) → Longest 99 (stat_part o)
value_short none = tt
value_short (some s) = stat_size s

raw_within : (n : Node) → NodeWithin n → RawWithin (raw_of n)
unfolding raw_of
raw_within n w = ((w.path.short, (value_short n.value, w.trie)), ((w.writers, w.few), w.writers_sequence))

pub raw_rejected : {d : List ℕ} → Rejected raw_bytes RawWithin d → Rejected node_bytes NodeWithin d
raw_rejected x n w e = x (raw_of n) (raw_within n w) (raw_bytes_lem n ∙ e)

-- ---- the path and the Stat judged

module _ (d : List ℕ) (field : Maybe Part) where
  module _ {p : Part} (e : field ≡ Some p) (i : BytesInside d field) where
    cut : take (p.at + p.len - p.at) (drop p.at d) ≡ part_of d p
    unfolding part
    cut = let n : p.at + p.len - p.at ≡ p.len = omega arith in ap (λ (k : ℕ). take k (drop p.at d)) n

    pub value_wrong : {b : List ℕ} → b ≡ take (p.at + p.len - p.at) (drop p.at d) → StatReadAs b None → ValueReadAs d field None
    value_wrong q g none w h = let z : none ≡ some (part_of d p) = h ∙ ap (bytes_of d) e in let y : ◌≡◌ {A = ℕ} 0 1 = cc in omega arith
    value_wrong {b} q g (some s) w h =
        let z : some (stat_bytes s) ≡ some (part_of d p) = h ∙ ap (bytes_of d) e in
        let y : stat_bytes s ≡ part_of d p = cc in
        g s w (y ∙ sym cut ∙ sym q)

    pub value_right : {b : List ℕ} (s : CodeStat) → b ≡ take (p.at + p.len - p.at) (drop p.at d) → StatReadAs b (Some s)
        → ValueReadAs d field (Some (Some s))
    value_right {b} s q a =
        (a.within, ap {B = Option (List ℕ)} some (a.bytes ∙ q ∙ cut) ∙ sym (ap (bytes_of d) e))

code_node : Part → Maybe CodeStat → Maybe Part → Writers → Maybe ℕ → CodeNode
code_node p v t w s = record { path = p; value = v; trie = t; writers = w; sequence = s }

same_fields : (n m : CodeNode) → n.path ≡ m.path → n.value ≡ m.value → n.trie ≡ m.trie → n.writers ≡ m.writers → n.sequence ≡ m.sequence → n ≡ m
unfolding code_node
same_fields n m a b c d e = go
  where
    go : code_node n.path n.value n.trie n.writers n.sequence ≡ code_node m.path m.value m.trie m.writers m.sequence
    go = cc

number_back : (o : Maybe ℕ) → number_told (number_of o) ≡ o
number_back None = refl
number_back (Some x) = refl

code_stat : (a b c d e f g h i : Maybe ℕ) → CodeStat
code_stat a b c d e f g h i = record { mode = a; uid = b; gid = c; size = d; blocks = e; offset = f; byte_offset = g; mtime = h; ctime = i }

stat_back : (s : CodeStat) → stat_told (stat_of s) ≡ s
unfolding code_stat
stat_back s = go (number_back s.mode) (number_back s.uid) (number_back s.gid) (number_back s.size) (number_back s.blocks) (number_back s.offset)
    (number_back s.byte_offset) (number_back s.mtime) (number_back s.ctime)
  where
    go : {a b c d e f g h i j k l m n o p q r : Maybe ℕ} → a ≡ j → b ≡ k → c ≡ l → d ≡ m → e ≡ n → f ≡ o → g ≡ p → h ≡ q → i ≡ r → code_stat a b c d e f g h i ≡ code_stat j k l m n o p q r
    go t1 t2 t3 t4 t5 t6 t7 t8 t9 = cc

value_back : (v : Maybe CodeStat) → value_told (value_of v) ≡ v
value_back None = refl
value_back (Some s) = ap {B = Maybe CodeStat} Some (stat_back s)

module _ {d : List ℕ} {path value trie : Maybe Part} {ws : Writers} (sequence : Maybe ℕ) (g : RawAt d path value trie ws (number_of sequence)) where
  same : (n : Node) → NodeWithin n → node_bytes n ≡ d → raw_of n ≡ ((bytes_of d path, (bytes_of d value, bytes_of d trie)), (writers_of d ws, number_of sequence))
  same n w e = g.only (raw_of n) (raw_within n w) (raw_bytes_lem n ∙ e)

  pub no_path : WithPathAs d path None → Rejected node_bytes NodeWithin d
  unfolding raw_of
  no_path h n w e =
      h n.path w.path (sym (ap (λ (x : RawFields). x.0.0) (same n w e)))

  module _ (q : Part) (p : WithPathAs d path (Some q)) where
    pub no_value : ValueReadAs d value None → Rejected node_bytes NodeWithin d
    unfolding raw_of
    no_value j n w e =
        j n.value w.value (ap (λ (x : RawFields). x.0.1.0) (same n w e))

    pub all_right : (v : Maybe CodeStat) → ValueReadAs d value (Some v)
        → NodeAt d (record { path = q; value = v; trie = trie; writers = ws; sequence = sequence })
    unfolding raw_of
    all_right v s =
        let named : bytes_of d path ≡ some (part_of d q) = ap (bytes_of d) p.1 in
        let fields : CodeNode = record { path = q; value = v; trie = trie; writers = ws; sequence = sequence } in
        record {
          inside = record { path = p.0.inside; trie = g.parts.1.1; writers = g.writers };
          accepted = record {
            within = record {
              path = p.0.within;
              value = s.0;
              trie = g.accepted.within.0.1.1;
              few = g.accepted.within.1.0.1;
              writers = g.accepted.within.1.0.0;
              writers_sequence = g.accepted.within.1.1;
            };
            bytes =
                sym (raw_bytes_lem (node_of d fields))
                ∙ ap (λ (a : Option (List ℕ)). raw_bytes ((a, (stat_part (value_of v), bytes_of d trie)), (writers_of d ws, number_of sequence))) (sym named)
                ∙ ap (λ (a : Option (List ℕ)). raw_bytes ((bytes_of d path, (a, bytes_of d trie)), (writers_of d ws, number_of sequence))) s.1
                ∙ g.accepted.bytes;
          };
          placed =
              same_fields fields (node_placed (node_of d fields)) (given_part (sym p.1 ∙ g.first ∙ ap (bytes_placed 0 1) named)) (sym (value_back v))
              (g.third ∙ ap (λ (a : Option (List ℕ)). bytes_placed (length (part_field 1 a ++ part_field 2 (bytes_of d value))) 3 (bytes_of d trie)) named
              ∙ ap (λ (a : Option (List ℕ)). bytes_placed (length (part_field 1 (some (part_of d q)) ++ part_field 2 a)) 3 (bytes_of d trie)) (sym s.1))
              (g.fourth ∙ ap (λ (a : Option (List ℕ)). all_placed (length (three_parts (a, (bytes_of d value, bytes_of d trie)))) (writers_of d ws)) named
              ∙ ap (λ (a : Option (List ℕ)). all_placed (length (three_parts (some (part_of d q), (a, bytes_of d trie)))) (writers_of d ws)) (sym s.1))
              (sym (number_back sequence));
        }

-- ---- a refusal, or a Node

pub node_answered : (d : List ℕ) (o : Maybe CodeNode) (r : Refusal) → NodeFound d o → refusal_of r ≡ refused 15 verdicts.none → node_told (ok_or o r) ≡ read_node verdicts.none d
node_answered d None r h e =
    ap {B = Verdict × CodeNode} (λ (v : Verdict). (v, no_node)) e ∙ ap (told_of verdicts.none no_node node_placed) (sym (each_read.nodes.rejects d h))
node_answered d (Some n) r h e =
    ap {B = Verdict × CodeNode} (λ (m : CodeNode). (verdicts.done, m)) h.placed
    ∙ ap (told_of verdicts.none no_node node_placed) (sym (each_read.nodes.accepts d (node_of d n) h.accepted))
