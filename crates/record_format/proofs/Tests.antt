-- The tests decide the bounds. Assumes nothing.
use Prim.Native.Nat.{ℕ, suc}
use mathlib.Core.Path.{◌≡◌, refl, ap, ◌∙◌}
use mathlib.Core.Bool.{true, ◌&&◌}
use mathlib.Core.List.{List, [], ◌∷◌}
use mathlib.Core.Option.{Option, none, some}
use native.Mathlib.Omega.{arith}
use lib.Dec.{leb, eqb}
use lib.ListN.{length, get_or}
use borrow.Author.Tests.{leb-true, le-leb, eqb-true, eq-eqb}
use Rattle.byte_strings.specs.Lists.{same_list}
use Rattle.byte_strings.proofs.Lists.{same_refl, same_eq}
use Rattle.byte_strings.proofs.Bools.{both_true, true_both}
use Rattle.record_fields.specs.Fields.{Most, Longest}
use Rattle.record_format.specs.Records.{Header, HeaderWithin, hyperdrive, Stat, rows_of, most_of, RowsWithin, Given, Writer, WritersWithin, Node, NodeWithin, PathWithin, ValueWithin}
use Rattle.record_format.specs.From.{number_test, part_test, header_test, path_test, given_test, rows_test, value_test, writers_test, node_test}

-- ---- from a test that is passed

number_in : (most : ℕ) (o : Option ℕ) → number_test most o ≡ true → Most most o
number_in most none e = tt
number_in most (some x) e = leb-true x most e

part_in_lem : (longest : ℕ) (o : Option (List ℕ)) → part_test longest o ≡ true → Longest longest o
part_in_lem longest none e = tt
part_in_lem longest (some bs) e = leb-true (length bs) longest e

pub header_in_lem : (h : Header) → header_test h ≡ true → HeaderWithin h
header_in_lem h e =
    let t = both_true (same_list h.type hyperdrive) (eqb (length h.content) 32) e in
    record { named = same_eq h.type hyperdrive t.0; sized = eqb-true (length h.content) 32 t.1 }

path_in_lem : (path : List ℕ) → path_test path ≡ true → PathWithin path
path_in_lem path e =
    let t = both_true (leb 1 (length path)) (leb (length path) 255 && eqb (get_or path 0 0) 47) e in
    let u = both_true (leb (length path) 255) (eqb (get_or path 0 0) 47) t.1 in
    record { some = leb-true 1 (length path) t.0; short = leb-true (length path) 255 u.0; slash = eqb-true (get_or path 0 0) 47 u.1 }

rows_in : (k : ℕ) (os : List (Option ℕ)) → rows_test k os ≡ true → RowsWithin k os
unfolding rows_test RowsWithin
rows_in k [] e = tt
rows_in k (o ∷ os) e =
    let t = both_true (number_test (most_of k) o) (rows_test (suc k) os) e in
    (number_in (most_of k) o t.0, rows_in (suc k) os t.1)

given_in : (o : Option ℕ) → given_test o ≡ true → Given o
given_in none e = absurd (let z : ◌≡◌ {A = ℕ} 0 1 = cc in omega arith)
given_in (some x) e = tt

value_in_lem : (o : Option Stat) → value_test o ≡ true → ValueWithin o
value_in_lem none e = tt
value_in_lem (some s) e =
    let t = both_true (given_test s.mode) (rows_test 1 (rows_of s)) e in
    record { mode = given_in s.mode t.0; rows = rows_in 1 (rows_of s) t.1 }

writers_in_lem : (ws : List Writer) → writers_test ws ≡ true → WritersWithin ws
unfolding writers_test WritersWithin
writers_in_lem [] e = tt
writers_in_lem (w ∷ ws) e =
    let t = both_true (eqb (length w.key) 32 && part_test 16 w.permission) (writers_test ws) e in
    let u = both_true (eqb (length w.key) 32) (part_test 16 w.permission) t.0 in
    (record { key = eqb-true (length w.key) 32 u.0; permission = part_in_lem 16 w.permission u.1 }, writers_in_lem ws t.1)

pub node_in_lem : (n : Node) → node_test n ≡ true → NodeWithin n
node_in_lem n e =
    let a = both_true (path_test n.path) _ e in
    let b = both_true (value_test n.value) _ a.1 in
    let c = both_true (part_test 1024 n.trie) _ b.1 in
    let f = both_true (leb (length n.writers) 8) _ c.1 in
    let g = both_true (writers_test n.writers) _ f.1 in
    record {
      path = path_in_lem n.path a.0;
      value = value_in_lem n.value b.0;
      trie = part_in_lem 1024 n.trie c.0;
      few = leb-true (length n.writers) 8 f.0;
      writers = writers_in_lem n.writers g.0;
      writers_sequence = number_in 18446744073709551615 n.writers_sequence g.1;
    }

-- ---- fields within the bounds pass

in_number : (most : ℕ) (o : Option ℕ) → Most most o → number_test most o ≡ true
in_number most none w = refl
in_number most (some x) w = le-leb x most w

in_part : (longest : ℕ) (o : Option (List ℕ)) → Longest longest o → part_test longest o ≡ true
in_part longest none w = refl
in_part longest (some bs) w = le-leb (length bs) longest w

pub in_header : (h : Header) → HeaderWithin h → header_test h ≡ true
in_header h w =
    true_both (same_list h.type hyperdrive) (eqb (length h.content) 32)
    (ap (λ (t : List ℕ). same_list t hyperdrive) w.named ∙ same_refl hyperdrive) (eq-eqb (length h.content) 32 w.sized)

in_path : (path : List ℕ) → PathWithin path → path_test path ≡ true
in_path path w =
    true_both (leb 1 (length path)) _ (le-leb 1 (length path) w.some) (true_both (leb (length path) 255) _ (le-leb (length path) 255 w.short) (eq-eqb (get_or path 0 0) 47 w.slash))

in_rows : (k : ℕ) (os : List (Option ℕ)) → RowsWithin k os → rows_test k os ≡ true
unfolding rows_test RowsWithin
in_rows k [] w = refl
in_rows k (o ∷ os) w = true_both (number_test (most_of k) o) _ (in_number (most_of k) o w.0) (in_rows (suc k) os w.1)

in_given : (o : Option ℕ) → Given o → given_test o ≡ true
in_given none w = absurd w
in_given (some x) w = refl

in_value : (o : Option Stat) → ValueWithin o → value_test o ≡ true
in_value none w = refl
in_value (some s) w = true_both (given_test s.mode) _ (in_given s.mode w.mode) (in_rows 1 (rows_of s) w.rows)

in_writers : (ws : List Writer) → WritersWithin ws → writers_test ws ≡ true
unfolding writers_test WritersWithin
in_writers [] w = refl
in_writers (v ∷ ws) w =
    true_both (eqb (length v.key) 32 && part_test 16 v.permission) _
    (true_both (eqb (length v.key) 32) _ (eq-eqb (length v.key) 32 w.0.key) (in_part 16 v.permission w.0.permission)) (in_writers ws w.1)

pub in_node : (n : Node) → NodeWithin n → node_test n ≡ true
in_node n w =
    true_both (path_test n.path) _ (in_path n.path w.path)
    (true_both (value_test n.value) _ (in_value n.value w.value)
    (true_both (part_test 1024 n.trie) _ (in_part 1024 n.trie w.trie)
    (true_both (leb (length n.writers) 8) _ (le-leb (length n.writers) 8 w.few)
    (true_both (writers_test n.writers) _ (in_writers n.writers w.writers) (in_number 18446744073709551615 n.writers_sequence w.writers_sequence)))))
