-- What is brought to files that have it already: neither the tree nor a tree bit changes. Assumes nothing.
use Prim.Native.Nat.{ℕ, ◌+◌, ◌≤◌}
use mathlib.Core.Path.{◌≡◌, refl, sym, ap, ◌∙◌}
use mathlib.Core.Bool.{Bool, true, false, ◌||◌}
use mathlib.Core.Logic.{inl, inr}
use mathlib.Core.List.{List, [], ◌∷◌, ◌++◌, map}
use native.Mathlib.Omega.{arith}
use lib.ListN.{length, take, drop}
use Rattle.byte_strings.specs.Lists.{part, put, among}
use Rattle.byte_strings.specs.Lowest.{nowhere}
use Rattle.byte_strings.proofs.Lists.{around, length_part}
use Rattle.byte_strings.proofs.Bools.{or_none}
use Rattle.tree_index.specs.Tree.{filled, entries}
use Rattle.tree_index.proofs.Filled.{filled_below}
use Rattle.bitfield.specs.Image.{entry_count}
use Rattle.bitfield.specs.Known.{stored_known}
use Rattle.bitfield.proofs.Append.{or_among, Under}
use Rattle.file_format.specs.Sizes.{entry_place}
use Rattle.file_format.specs.Entries.{entry_bytes}
use Rattle.copy_checks.specs.Least.{least_of}
use Rattle.copy_checks.proofs.Least.{lower_none}
use Rattle.copy_take_in.specs.TakeIn.{Given, contradicts, with_given, with_known}
use Rattle.copy_take_in.proofs.Contradicted.{entry_alike}
use Rattle.byte_strings.proofs.Members.{In}
use Rattle.theorem_taking_laws.proofs.Given.{among_in}
use Rattle.file_format.proofs.Shown.{shown, shown_ext, more_known}

-- ---- nothing is contradicted

module _ (t bits : List ℕ) where
  -- what no packet contradicts and is known is what it brings
  pub none_contradicts : (gs : List Given) → least_of (map (contradicts t bits) gs) ≡ nowhere → (g : Given) → In g gs → stored_known bits g.at ≡ true
      → part t (entry_place g.at) 40 ≡ entry_bytes g.entry
  unfolding least_of In
  none_contradicts [] e g i k = absurd i
  none_contradicts (x ∷ gs) e g (inl q) k =
      entry_alike t bits g (ap (contradicts t bits) (sym q) ∙ (lower_none (contradicts t bits x) (least_of (map (contradicts t bits) gs)) e).0) k
  none_contradicts (x ∷ gs) e g (inr i) k =
      none_contradicts gs (lower_none (contradicts t bits x) (least_of (map (contradicts t bits) gs)) e).1 g i k

-- ---- the tree

pub put_part_lem : (xs : List ℕ) (a k : ℕ) → a + k ≤ length xs → put xs a (part xs a k) ≡ xs
unfolding put
put_part_lem xs a k h = ap (λ (m : ℕ). take a xs ++ (part xs a k ++ drop (a + m) xs)) (length_part xs a k h) ∙ around xs a k

pub tree_stays : (t : List ℕ) (gs : List Given) → ((g : Given) → In g gs → entry_place g.at + 40 ≤ length t)
    → ((g : Given) → In g gs → part t (entry_place g.at) 40 ≡ entry_bytes g.entry) → with_given t gs ≡ t
unfolding with_given In
tree_stays t [] room same = refl
tree_stays t (x ∷ gs) room same =
    ap (λ (l : List ℕ). with_given l gs)
    (ap (put t (entry_place x.at)) (sym (same x (inl refl))) ∙ put_part_lem t (entry_place x.at) 40 (room x (inl refl)))
    ∙ tree_stays t gs (λ g i. room g (inr i)) (λ g i. same g (inr i))

-- ---- the tree bits

-- tree indexes of n chunks have their bits in the entries of n chunks
pub under_filled : (n : ℕ) (is : List ℕ) → ((i : ℕ) → In i is → filled n i ≡ true) → Under (entry_count n) is
unfolding Under In entry_count entries
under_filled n [] f = tt
under_filled n (i ∷ is) f = (omega (arith, filled_below n i (f i (inl refl))), under_filled n is (λ j l. f j (inr l)))

pub known_stays : (held : ℕ → Bool) (n : ℕ) (tail : List ℕ) (gs : List Given) → ((i : ℕ) → In i (map (λ (g : Given). g.at) gs) → filled n i ≡ true)
    → with_known (shown held (filled n) n tail) gs ≡ shown held (filled n) n tail
unfolding with_known
known_stays held n tail gs f =
    more_known held n tail (filled n) (map (λ (g : Given). g.at) gs) (under_filled n (map (λ (g : Given). g.at) gs) f)
    ∙ shown_ext held held (or_among (filled n) (map (λ (g : Given). g.at) gs)) (filled n) n tail (λ j. refl) (λ j. pick j (among j (map (λ (g : Given). g.at) gs)) refl)
  where
    or_true : (b : Bool) → b ≡ true → (b || true) ≡ b
    or_true true e = refl
    or_true false e = sym e

    pick : (j : ℕ) (b : Bool) → among j (map (λ (g : Given). g.at) gs) ≡ b → (filled n j || among j (map (λ (g : Given). g.at) gs)) ≡ filled n j
    pick j true e = ap (λ (b : Bool). filled n j || b) e ∙ or_true (filled n j) (f j (among_in j (map (λ (g : Given). g.at) gs) e))
    pick j false e = ap (λ (b : Bool). filled n j || b) e ∙ or_none (filled n j)
