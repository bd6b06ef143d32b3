-- A copy with each buffer cut to its used size: which of its entries are known, and the checks of a call. Assumes nothing.
use Prim.Native.Nat.{ℕ, suc, ◌+◌, ◌-◌, ◌*◌, ◌/◌, ◌%◌, ◌<◌}
use mathlib.Core.Path.{◌≡◌, refl, sym, ap, ◌∙◌}
use mathlib.Core.Bool.{Bool, true, cond}
use mathlib.Core.List.{List, [], ◌∷◌}
use native.Mathlib.Omega.{arith}
use lib.Dec.{eqb}
use lib.ListN.{length, take, get_or}
use lib.Seq.{get_or-take}
use Rattle.answer_types.specs.Verdict.{Verdict, tree}
use Rattle.byte_strings.specs.Lowest.{first}
use Rattle.tree_index.specs.Tree.{filled, roots, entries}
use Rattle.tree_index.proofs.Filled.{filled_below}
use Rattle.tree_index.proofs.Roots.{root_filled}
use Rattle.bitfield.specs.Bits.{digit, bit_at}
use Rattle.bitfield.specs.Image.{entry_count}
use Rattle.bitfield.specs.Append.{bits_place}
use Rattle.bitfield.specs.Known.{stored_known}
use Rattle.file_format.specs.Headers.{tree_header, bitfield_header}
use Rattle.file_format.specs.Sizes.{used_tree, used_bitfield}
use Rattle.checks.specs.Checks.{Check, judged, count_right}
use Rattle.audit.specs.Audit.{refused_at}
use Rattle.theorem_used_bytes.proofs.Cut.{holds_cut, headed_cut, tree_32, bitfield_32, adds_cut}
use Rattle.copy_checks.specs.Copy.{Copy, known}
use Rattle.lookup.specs.Unknown.{first_unknown}
use Rattle.copy_checks.specs.Checks.{lent_checks, unknown_root, size_check, passed_over, copy_judged, partly_judged}
use Rattle.theorem_copy_used_bytes.specs.UsedBytes.{SameUsed}

abbrev pub cut_copy : Copy → Copy
cut_copy c =
    record {
      tree = take (used_tree c.n) c.tree;
      bitfield = take (used_bitfield c.n) c.bitfield;
      content = take c.size c.content;
      n = c.n;
      size = c.size;
    }

-- copies with the same used bytes are the same then
pub same_cut : (a b : Copy) → SameUsed a b → cut_copy a ≡ cut_copy b
same_cut a b h =
    let t : take (used_tree a.n) a.tree ≡ take (used_tree b.n) b.tree = h.tree ∙ ap (λ (n : ℕ). take (used_tree n) b.tree) h.n in
    let f : take (used_bitfield a.n) a.bitfield ≡ take (used_bitfield b.n) b.bitfield =
    h.bitfield ∙ ap (λ (n : ℕ). take (used_bitfield n) b.bitfield) h.n in
    let c : take a.size a.content ≡ take b.size b.content = h.content ∙ ap (λ (z : ℕ). take z b.content) h.size in
    λ i. record { tree = t i; bitfield = f i; content = c i; n = h.n i; size = h.size i }

-- and copies that are the same then have the same used bytes
pub of_cut : (a b : Copy) → cut_copy a ≡ cut_copy b → SameUsed a b
of_cut a b e =
    let n : a.n ≡ b.n = ap (λ (c : Copy). c.n) e in
    let size : a.size ≡ b.size = ap (λ (c : Copy). c.size) e in
    record {
      n = n;
      size = size;
      tree = ap (λ (c : Copy). c.tree) e ∙ ap (λ (k : ℕ). take (used_tree k) b.tree) (sym n);
      bitfield = ap (λ (c : Copy). c.bitfield) e ∙ ap (λ (k : ℕ). take (used_bitfield k) b.bitfield) (sym n);
      content = ap (λ (c : Copy). c.content) e ∙ ap (λ (k : ℕ). take k b.content) (sym size);
    }

-- ---- which entries are known

pub known_cut : (bits : List ℕ) (n i : ℕ) → filled n i ≡ true → stored_known (take (used_bitfield n) bits) i ≡ stored_known bits i
unfolding stored_known bit_at bits_place used_bitfield entry_count entries
known_cut bits n i f =
    let h : i < entries n = filled_below n i f in
    ap (λ (x : ℕ). eqb (digit x (7 - i % 16384 % 8)) 1)
    (get_or-take (used_bitfield n) bits (32 + 3328 * (i / 16384) + 1024 + i % 16384 / 8) 0 (omega (arith, h)))

-- tests that agree on the indexes of a list find the same
pub unknown_same : (f g : ℕ → Bool) (is : List ℕ) → ((j : ℕ) → j < length is → f (get_or is j 0) ≡ g (get_or is j 0)) → first_unknown f is ≡ first_unknown g is
unfolding first_unknown
unknown_same f g [] h = refl
unknown_same f g (i ∷ is) h =
    let e = h 0 (omega arith) in
    let r = unknown_same f g is (λ j l. h (suc j) (omega arith)) in
    λ k. cond (e k) (r k) (first i)

-- ---- the checks

module _ (c : Copy) where
  root_known_cut : unknown_root (cut_copy c) ≡ unknown_root c
  unfolding unknown_root
  root_known_cut =
      unknown_same (known (cut_copy c)) (known c) (roots c.n) (λ j l. known_cut c.bitfield c.n (get_or (roots c.n) j 0) (root_filled c.n j l))

  tests : (a b d e f : Bool) → List Check
  tests a b d e f =
      record { number = 2; right = count_right c.n } ∷ record { number = 4; right = a } ∷ record { number = 4; right = b }
      ∷ record { number = 4; right = d } ∷ record { number = 5; right = e } ∷ record { number = 5; right = f } ∷ []

  lent_cut : lent_checks (cut_copy c) ≡ lent_checks c
  unfolding lent_checks tests
  lent_cut =
      λ i. tests (holds_cut c.tree (used_tree c.n) i) (holds_cut c.bitfield (used_bitfield c.n) i) (holds_cut c.content c.size i)
      (headed_cut c.tree (used_tree c.n) tree_header (tree_32 c.n) i)
      (headed_cut c.bitfield (used_bitfield c.n) bitfield_header (bitfield_32 c.n) i)

  pub judged_cut : (next : Verdict) → copy_judged (cut_copy c) next ≡ copy_judged c next
  unfolding copy_judged
  judged_cut next =
      λ i. judged (lent_cut i) (refused_at 20 tree (root_known_cut i) (judged (size_check (adds_cut c.tree c.n c.size i)) next))

  -- the checks of the audit and of the taking in
  pub partly_cut : (next : Verdict) → partly_judged (cut_copy c) next ≡ partly_judged c next
  unfolding partly_judged
  partly_cut next =
      λ i. judged (lent_cut i) (judged (size_check (passed_over (root_known_cut i) (adds_cut c.tree c.n c.size i))) next)
