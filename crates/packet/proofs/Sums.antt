-- Lengths added up to the bound.
-- Assumes nothing.
use Prim.Native.Nat.{ℕ, ◌+◌, ◌-◌, ◌*◌, ◌≤◌, ◌<◌}
use mathlib.Core.Path.{◌≡◌, sym, ap, ◌∙◌, subst}
use mathlib.Core.List.{List}
use native.Mathlib.Nat.{zero-add}
use native.Mathlib.Omega.{arith}
use lib.ListN.{length, get_or, take}
use lib.Seq.{take_all, take-length}
use Rattle.byte_strings.specs.Lists.{total}
use Rattle.byte_strings.proofs.Lists.{length_run, get_or_run}
use Rattle.file_format.proofs.ByValue.{total_next, total_more}
use Rattle.packet.specs.Check.{entry_in}
use Rattle.packet.specs.Inner.{sizes_in, Summed}

-- the first j of the lengths are added
pub record Adding (xs : List ℕ) (from j sum : ℕ) : Type 0 where
  pub exact : sum ≡ from + total (take j xs)
  pub small : sum ≤ 68719476737

-- the lengths of a row of entries
length_sizes : (p : List ℕ) (at k : ℕ) → length (sizes_in p at k) ≡ k
unfolding sizes_in
length_sizes p at k = length_run _ 0 k

size_at_lem : (p : List ℕ) (at k j : ℕ) → j < k → get_or (sizes_in p at k) j 0 ≡ (entry_in p (at + 40 * j)).size
unfolding sizes_in
size_at_lem p at k j h = get_or_run (λ i. (entry_in p (at + 40 * i)).size) 0 k j 0 h ∙ ap (λ (i : ℕ). (entry_in p (at + 40 * i)).size) (zero-add j)

module _ (p : List ℕ) (at count from : ℕ) where
  abbrev xs : List ℕ
  xs = sizes_in p at count

  pub adding_none : from ≤ 68719476737 → Adding xs from 0 from
  unfolding total
  adding_none h = record { exact = omega arith; small = h }

  module _ (j sum here : ℕ) (a : Adding xs from j sum) (h : j < count) (e : here ≡ (entry_in p (at + 40 * j)).size) where
    next : total (take (j + 1) xs) ≡ total (take j xs) + here
    next =
        let l : j < length xs = omega (arith, length_sizes p at count) in
        total_next xs j l ∙ ap (λ (x : ℕ). total (take j xs) + x) (size_at_lem p at count j h ∙ sym e)

    pub adding_next : here < 68719476737 - sum → Adding xs from (j + 1) (sum + here)
    adding_next l = record { exact = omega (arith, next, a.exact); small = omega arith }

    pub adding_over : 68719476737 - sum ≤ here → Summed (from + total xs) 68719476737
    adding_over l =
        let m : total (take (j + 1) xs) ≤ total xs =
        subst (λ (ys : List ℕ). total (take (j + 1) xs) ≤ total ys) (take-length xs)
        (total_more xs (j + 1) (length xs) (omega (arith, length_sizes p at count))) in
        let g : 68719476736 < from + total xs = omega (arith, next, a.exact, a.small) in
        record { within = λ w. absurd (omega arith); over = λ w. omega arith; small = omega arith }

  pub adding_all : (j sum : ℕ) → Adding xs from j sum → count ≤ j → Summed (from + total xs) sum
  adding_all j sum a h =
      let e : sum ≡ from + total xs = a.exact ∙ ap (λ (ys : List ℕ). from + total ys) (take_all j xs (omega (arith, length_sizes p at count))) in
      record { within = λ w. e; over = λ w. omega arith; small = a.small }
