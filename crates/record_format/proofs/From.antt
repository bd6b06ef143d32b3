-- The record that bytes are, as a function of them. Assumes nothing.
use Prim.Native.Nat.{ℕ, zero, suc, ◌+◌, ◌^◌, ◌<◌, ◌≤◌}
use mathlib.Core.Path.{◌≡◌, refl, sym, ap, ◌∙◌, subst}
use mathlib.Core.Bool.{Bool, true, false, cond, ◌&&◌}
use mathlib.Core.List.{List, [], ◌∷◌, ◌++◌, append_assoc, append-nil}
use mathlib.Core.Option.{Option, none, some}
use native.Mathlib.Omega.{arith}
use lib.ListN.{length}
use Rattle.byte_strings.specs.Lists.{same_list}
use Rattle.byte_strings.proofs.Lists.{same_refl, same_eq}
use Rattle.byte_strings.proofs.Bools.{both_true, true_both}
use Rattle.record_fields.specs.Fields.{number_field, part_field, Most, Longest}
use Rattle.record_fields.specs.Fronts.{front_number, front_part, or_nothing}
use Rattle.record_fields.proofs.Fields.{later_nil}
use Rattle.record_fields.proofs.Unique.{longest_sized}
use Rattle.record_fields.proofs.Fronts.{number_front, given_front, part_front, part_absent}
use Rattle.record_format.specs.Records.{Header, HeaderWithin, header_bytes, Stat, StatWithin, stat_bytes, rows_of, rows_bytes, RowsWithin, Writer}
use Rattle.record_format.specs.Records.{WriterWithin, writer_bytes, Node, NodeWithin, node_bytes, stat_part, writers_bytes, ValueWithin, WritersWithin}
use Rattle.record_format.specs.From.{front_header, front_rows, stat_of_rows, front_stat, front_value, front_writer, one_more, front_writers, behind_path}
use Rattle.record_format.specs.From.{behind_value, behind_trie, behind_writers, front_node, header_test, node_test, as_written, header_from, node_from}
use Rattle.record_format.specs.Theorems.{Accepted, Rejected, Reads, EachRead}
use Rattle.record_format.proofs.Tests.{header_in_lem, in_header, node_in_lem, in_node}
use Rattle.record_format.proofs.Unique.{row_word, rows_later, writer_size, Untagged, later_untagged, same_header, same_writer, same_node, named}
use Rattle.record_format.proofs.Unique.{value_sized, value_later, trie_later, last_later}

-- ---- the front of what was written

front_last : (k : ℕ) (o : Option (List ℕ)) → k < 16 → (l : ℕ) → l < 2 ^ 64 → Longest l o → front_part k (part_field k o) ≡ (o, [])
front_last k o h l b w =
    ap (front_part k) (sym (append-nil (part_field k o))) ∙ part_front k o [] h (longest_sized l o b w) (later_nil k h)

number_last : (k : ℕ) (o : Option ℕ) → k < 16 → Most 18446744073709551615 o → front_number k (number_field k o) ≡ (o, [])
number_last k o h w = ap (front_number k) (sym (append-nil (number_field k o))) ∙ number_front k o [] h w (later_nil k h)

header_front : (h : Header) → HeaderWithin h → front_header (header_bytes h) ≡ h
unfolding header_bytes
header_front h w =
    let a = given_front 1 h.type (part_field 2 (some h.content)) (omega arith) (named h w) in
    let b = front_last 2 (some h.content) (omega arith) 32 (omega arith) (omega (arith, w.sized)) in
    same_header (front_header (header_bytes h)) h (ap (λ (p : Option (List ℕ) × List ℕ). or_nothing p.0) a)
    (ap (λ (p : Option (List ℕ) × List ℕ). or_nothing (front_part 2 p.1).0) a ∙ ap (λ (p : Option (List ℕ) × List ℕ). or_nothing p.0) b)

rows_front : (k : ℕ) (os : List (Option ℕ)) → k + length os ≤ 16 → RowsWithin k os → front_rows k (length os) (rows_bytes k os) ≡ os
unfolding front_rows rows_bytes RowsWithin
rows_front k [] h w = refl
rows_front k (o ∷ os) h w =
    let e = number_front k o (rows_bytes (suc k) os) (omega arith) (row_word k o w.0) (rows_later k (suc k) os (omega arith) (omega arith)) in
    ap (λ (p : Option ℕ × List ℕ). p.0 ∷ front_rows (suc k) (length os) p.1) e ∙ ap (λ (xs : List (Option ℕ)). o ∷ xs) (rows_front (suc k) os (omega arith) w.1)

stat_front : (s : Stat) → StatWithin s → front_stat (stat_bytes s) ≡ s
unfolding stat_bytes
stat_front s w = ap stat_of_rows (rows_front 1 (rows_of s) (omega arith) w.rows)

value_front : (o : Option Stat) → ValueWithin o → front_value (stat_part o) ≡ o
value_front none w = refl
value_front (some s) w = ap {B = Option Stat} some (stat_front s w)

writer_front : (w : Writer) → WriterWithin w → front_writer (writer_bytes w) ≡ w
unfolding writer_bytes
writer_front v w =
    let a = given_front 1 v.key (part_field 2 v.permission) (omega arith) (omega (arith, w.key)) in
    let b = front_last 2 v.permission (omega arith) 16 (omega arith) w.permission in
    same_writer (front_writer (writer_bytes v)) v (ap (λ (p : Option (List ℕ) × List ℕ). or_nothing p.0) a)
    (ap (λ (p : Option (List ℕ) × List ℕ). (front_part 2 p.1).0) a ∙ ap (λ (p : Option (List ℕ) × List ℕ). p.0) b)

writers_front : (m : ℕ) (ws : List Writer) (t : List ℕ) → length ws ≤ m → WritersWithin ws → Untagged t → front_writers m (writers_bytes ws ++ t) ≡ (ws, t)
unfolding front_writers writers_bytes WritersWithin
writers_front zero [] t h w f = refl
writers_front zero (v ∷ ws) t h w f = absurd (omega arith)
writers_front (suc m) [] t h w f = ap (λ (p : Option (List ℕ) × List ℕ). one_more p.0 t (front_writers m p.1)) (part_absent 4 t f)
writers_front (suc m) (v ∷ ws) t h w f =
    let s = (part_field 4 (some (writer_bytes v)) ++ writers_bytes ws) ++ t in
    let e = ap (front_part 4) (append_assoc (part_field 4 (some (writer_bytes v))) (writers_bytes ws) t) ∙ given_front 4 (writer_bytes v) (writers_bytes ws ++ t) (omega arith)
    (omega (arith, writer_size v w.0)) in
    ap (λ (p : Option (List ℕ) × List ℕ). one_more p.0 s (front_writers m p.1)) e
    ∙ ap (λ (p : List Writer × List ℕ). one_more (some (writer_bytes v)) s p) (writers_front m ws t (omega arith) w.1 f)
    ∙ ap {B = List Writer × List ℕ} (λ (x : Writer). (x ∷ ws, t)) (writer_front v w.0)

node_front : (n : Node) → NodeWithin n → front_node (node_bytes n) ≡ n
unfolding node_bytes
node_front n w =
    let last = number_field 5 n.writers_sequence in
    let four = writers_bytes n.writers ++ last in
    let three = part_field 3 n.trie ++ four in
    let two = part_field 2 (stat_part n.value) ++ three in
    let s = node_bytes n in
    let a : front_part 1 s ≡ (some n.path, two) = given_front 1 n.path two (omega arith) (omega (arith, w.path.short)) in
    let b : front_part 2 (behind_path s) ≡ (stat_part n.value, three) =
    ap (λ (p : Option (List ℕ) × List ℕ). front_part 2 p.1) a ∙ part_front 2 (stat_part n.value) three (omega arith) (value_sized n.value) (value_later n) in
    let c : front_part 3 (behind_value s) ≡ (n.trie, four) =
    ap (λ (p : Option (List ℕ) × List ℕ). front_part 3 p.1) b ∙ part_front 3 n.trie four (omega arith) (longest_sized 1024 n.trie (omega arith) w.trie) (trie_later n) in
    let e : front_writers 8 (behind_trie s) ≡ (n.writers, last) =
    ap (λ (p : Option (List ℕ) × List ℕ). front_writers 8 p.1) c ∙ writers_front 8 n.writers last w.few w.writers (later_untagged last (last_later n.writers_sequence)) in
    let f : front_number 5 (behind_writers s) ≡ (n.writers_sequence, []) =
    ap (λ (p : List Writer × List ℕ). front_number 5 p.1) e ∙ number_last 5 n.writers_sequence (omega arith) w.writers_sequence in
    same_node (front_node s) n (ap (λ (p : Option (List ℕ) × List ℕ). or_nothing p.0) a)
    (ap (λ (p : Option (List ℕ) × List ℕ). front_value p.0) b ∙ value_front n.value w.value)
    (ap (λ (p : Option (List ℕ) × List ℕ). p.0) c) (ap (λ (p : List Writer × List ℕ). p.0) e) (ap (λ (p : Option ℕ × List ℕ). p.0) f)

-- ---- so the function reads

module _ {A : Type 0} (write : A → List ℕ) (Within : A → Type 0) (test : A → Bool) (front : List ℕ → A)
    (passes : (a : A) → Within a → test a ≡ true) (passed : (a : A) → test a ≡ true → Within a) (said : (a : A) → Within a → front (write a) ≡ a) where
  abbrev from : List ℕ → Option A
  from d = as_written write test d (front d)

  accepts : (d : List ℕ) (a : A) → Accepted write Within d a → from d ≡ some a
  accepts d a h =
      let e : front d ≡ a = ap front (sym h.bytes) ∙ said a h.within in
      ap (as_written write test d) e
      ∙ ap (λ (b : Bool). cond b (some a) none) (true_both (test a) (same_list (write a) d) (passes a h.within) (ap (λ (x : List ℕ). same_list x d) h.bytes ∙ same_refl d))

  gives : (d : List ℕ) (a : A) → from d ≡ some a → Accepted write Within d a
  gives d a e = go (test (front d) && same_list (write (front d)) d) refl e
    where
      go : (b : Bool) → test (front d) && same_list (write (front d)) d ≡ b → cond b (some (front d)) none ≡ some a → Accepted write Within d a
      go true p q =
          let t = both_true (test (front d)) (same_list (write (front d)) d) p in
          let x : front d ≡ a = cc in
          record { within = subst Within x (passed (front d) t.0); bytes = ap write (sym x) ∙ same_eq (write (front d)) d t.1 }
      go false p q = absurd (let z : ◌≡◌ {A = ℕ} 0 1 = cc in omega arith)

  rejects : (d : List ℕ) → Rejected write Within d → from d ≡ none
  rejects d n = go (from d) refl
    where
      go : (o : Option A) → from d ≡ o → from d ≡ none
      go none e = e
      go (some a) e = let h = gives d a e in absurd (n a h.within h.bytes)

  reads : Reads write Within from
  reads = record { accepts = accepts; gives = gives; rejects = rejects }

pub each_read : EachRead
unfolding header_from node_from
each_read = record {
  headers = reads header_bytes HeaderWithin header_test front_header in_header header_in_lem header_front;
  nodes = reads node_bytes NodeWithin node_test front_node in_node node_in_lem node_front;
}
