-- The search for a chunk that is not held and the release of one get the same of a register and of the same cut to its used sizes.
-- Assumes nothing.
use Prim.Native.Nat.{ℕ, ◌+◌, ◌-◌, ◌*◌, ◌/◌, ◌%◌, ◌<◌}
use mathlib.Core.Path.{◌≡◌, refl, sym, ap, ◌∙◌}
use mathlib.Core.Bool.{◌||◌}
use mathlib.Core.List.{List}
use native.Mathlib.Omega.{arith}
use lib.Dec.{eqb}
use lib.ListN.{take, length-replicate}
use lib.Seq.{get_or-take}
use Rattle.answer_types.specs.Verdict.{done}
use Rattle.byte_strings.specs.Lists.{zeros}
use Rattle.byte_strings.proofs.Lowest.{lowest_agree}
use Rattle.tree_index.specs.Tree.{index}
use Rattle.bitfield.specs.Image.{entry_count}
use Rattle.bitfield.specs.Append.{bits_place}
use Rattle.bitfield.specs.Release.{released_bits}
use Rattle.file_format.specs.Sizes.{used_tree, used_signatures, used_bitfield}
use Rattle.file_format.specs.Stored.{stored_size}
use Rattle.file_format.specs.Belongs.{Register}
use Rattle.checks.specs.Checks.{judged}
use Rattle.lookup.specs.Descent.{always}
use Rattle.lookup.specs.Lookup.{held_place_of}
use Rattle.lookup.specs.Read.{verdict_found}
use Rattle.release.specs.Release.{bytes_cleared, release_verdict, released_register}
use Rattle.release.proofs.Bits.{bits_front}
use Rattle.release.proofs.Calls.{Clearing, clearing}
use Rattle.release.proofs.Answers.{front_put}
use Rattle.search.specs.Search.{stored_tuples, tuple_in, stored_tuple, passed_over, not_missing, first_missing, sought_unless, search_for}
use Rattle.theorem_used_bytes.specs.UsedBytes.{SameUsed}
use Rattle.theorem_used_bytes.proofs.Cut.{cut, same_cut, held_cut, checks_cut}
use Rattle.theorem_used_bytes.proofs.Lookups.{place_in_cut, held_place_cut}

-- ---- the search

module _ (bits : List ℕ) (n : ℕ) where
  -- the Index of n chunks lies within the used bytes, as their data bits do
  tuples_cut : (k : ℕ) → k < n → stored_tuples (take (used_bitfield n) bits) (k / 16 / 4) ≡ stored_tuples bits (k / 16 / 4)
  unfolding stored_tuples bits_place used_bitfield entry_count
  tuples_cut k h = get_or-take (used_bitfield n) bits (32 + 3328 * (k / 16 / 4 / 128) + 3072 + 2 * (k / 16 / 4 % 128)) 0 (omega arith)

  missing_cut : (k : ℕ) → k < n → not_missing (take (used_bitfield n) bits) k ≡ not_missing bits k
  unfolding not_missing passed_over stored_tuple
  missing_cut k h = λ i. eqb (tuple_in (tuples_cut k h i) (k / 16)) 3 || held_cut bits n k h i

  pub first_cut : (from : ℕ) → first_missing (take (used_bitfield n) bits) n from ≡ first_missing bits n from
  unfolding first_missing
  first_cut from =
      lowest_agree (not_missing (take (used_bitfield n) bits)) (not_missing bits) from (n - from) (λ j p q before. missing_cut j (omega arith))

pub search_cut : (r : Register) (from : ℕ) → search_for (cut r) from ≡ search_for r from
unfolding search_for
search_cut r from = λ i. sought_unless (judged (checks_cut r i) done) (first_cut r.bitfield r.n from i)

-- ---- the release

-- registers that are the same once cut have the same used bytes
of_cut : (a b : Register) → cut a ≡ cut b → SameUsed a b
of_cut a b e =
    let n : a.n ≡ b.n = ap (λ (r : Register). r.n) e in
    let s : a.s ≡ b.s = ap (λ (r : Register). r.s) e in
    let size : a.size ≡ b.size = ap (λ (r : Register). r.size) e in
    record {
      n = n;
      s = s;
      size = size;
      tree = ap (λ (r : Register). r.tree) e ∙ ap (λ (k : ℕ). take (used_tree k) b.tree) (sym n);
      signatures = ap (λ (r : Register). r.signatures) e ∙ ap (λ (k : ℕ). take (used_signatures k) b.signatures) (sym s);
      bitfield = ap (λ (r : Register). r.bitfield) e ∙ ap (λ (k : ℕ). take (used_bitfield k) b.bitfield) (sym n);
      content = ap (λ (r : Register). r.content) e ∙ ap (λ (k : ℕ). take k b.content) (sym size);
    }

module _ (r : Register) (c : ℕ) where
  says_cut : release_verdict (cut r) c ≡ release_verdict r c
  unfolding release_verdict
  says_cut = ap verdict_found (held_place_cut r c)

  module _ (e : verdict_found (held_place_of r c) ≡ done) where
    clears : Clearing r c
    clears = clearing r c e

    abbrev size : ℕ
    size = stored_size r.tree (index 0 c)

    bits : take (used_bitfield r.n) (released_bits r.bitfield c) ≡ released_bits (cut r).bitfield c
    bits = let p = clears.placing in bits_front r.bitfield r.n c p.passed.bitfield p.below

    bytes : take r.size (released_register r c).content ≡ (released_register (cut r) c).content
    unfolding released_register
    bytes =
        let p = clears.placing in
        ap (take r.size) clears.content
        ∙ front_put r.content r.size clears.start (zeros size) p.passed.content (omega (arith, p.inside, length-replicate {A = ℕ} size 0))
        ∙ sym (ap (bytes_cleared (cut r).content) (place_in_cut always always r.tree r.n c (λ j f. refl) ∙ p.place))

    pub released_cut : cut (released_register r c) ≡ released_register (cut r) c
    unfolding released_register
    released_cut =
        λ i. record { tree = (cut r).tree; signatures = (cut r).signatures; bitfield = bits i; content = bytes i; n = r.n; s = r.s; size = r.size }

pub release_same : (a b : Register) (c : ℕ) → SameUsed a b → release_verdict a c ≡ release_verdict b c
release_same a b c h = sym (says_cut a c) ∙ ap (λ (r : Register). release_verdict r c) (same_cut a b h) ∙ says_cut b c

pub released_same : (a b : Register) (c : ℕ) → SameUsed a b → release_verdict a c ≡ done → SameUsed (released_register a c) (released_register b c)
unfolding release_verdict
released_same a b c h e =
    of_cut (released_register a c) (released_register b c)
    (released_cut a c e ∙ ap (λ (r : Register). released_register r c) (same_cut a b h) ∙ sym (released_cut b c (sym (release_same a b c h) ∙ e)))
