-- Input of over 4,356 bytes is other input, so a program may stop reading behind the first 4,357.
-- Assumes nothing.
use Prim.Native.Nat.{ℕ, zero, suc, ◌+◌, ◌-◌, ◌*◌, ◌≤◌, ◌<◌}
use mathlib.Core.Path.{◌≡◌, refl, sym, ap, ◌∙◌}
use mathlib.Core.Bool.{Bool, true, false, ◌&&◌}
use mathlib.Core.List.{List, []}
use native.Mathlib.Omega.{arith}
use borrow.Author.Tests.{leb-true, leb-false, ne_eqb}
use lib.Dec.{leb}
use lib.ListN.{length, take, drop, length-drop}
use lib.Seq.{take_all, length-take-le}
use Rattle.byte_strings.specs.Lists.{part}
use Rattle.byte_strings.specs.Numbers.{number}
use Rattle.byte_strings.proofs.Bools.{both_true}
use Rattle.listing_lines.specs.Input.{other, chunks, before, next_length, chunk_stands, chunks_in, input_of}
use Rattle.listing_lines.specs.Lines.{lines_for, listing}
use Rattle.listing_lines.specs.Limits.{Limits}
use Rattle.listing_lines.proofs.Chunks.{one_more_lem, none_more}
use Rattle.listing_lines.proofs.Begun.{input_many, input_counted}

shorter : (k : ℕ) (xs : List ℕ) (left : ℕ) → 4 * suc k + left < length xs → chunk_stands xs left ≡ true
    → 4 * k + (left - next_length xs) < length (drop (4 + next_length xs) xs)
unfolding chunk_stands
shorter k xs left h e =
    let a = both_true (leb 4 (length xs)) (leb (next_length xs) left && leb (4 + next_length xs) (length xs)) e in
    let b = both_true (leb (next_length xs) left) (leb (4 + next_length xs) (length xs)) a.1 in
    omega (arith, length-drop (4 + next_length xs) xs, leb-true (next_length xs) left b.0, leb-true (4 + next_length xs) (length xs) b.1)

long_step : (k : ℕ) (xs : List ℕ) (left : ℕ) → ((ys : List ℕ) (m : ℕ) → 4 * k + m < length ys → chunks_in k ys m ≡ other)
    → 4 * suc k + left < length xs → (b : Bool) → chunk_stands xs left ≡ b → chunks_in (suc k) xs left ≡ other
long_step k xs left fewer h true e =
    one_more_lem k xs left e
    ∙ ap (before (part xs 4 (next_length xs))) (fewer (drop (4 + next_length xs) xs) (left - next_length xs) (shorter k xs left h e))
long_step k xs left fewer h false e = none_more k xs left e

-- k chunks with at most `left` bytes of their own take no more than 4 k + left
long_chunks : (k : ℕ) (xs : List ℕ) (left : ℕ) → 4 * k + left < length xs → chunks_in k xs left ≡ other
unfolding chunks_in
long_chunks zero xs left h =
    ap (λ (b : Bool). elim b [ true ↦ chunks [] | false ↦ other ]) (ne_eqb (length xs) 0 (λ e. omega arith))
long_chunks (suc k) xs left h = long_step k xs left (long_chunks k) h (chunk_stands xs left) refl

counted : (xs : List ℕ) → 4356 < length xs → (b : Bool) → leb (number (part xs 0 4)) 64 ≡ b → input_of xs ≡ other
counted xs h true e =
    let l : number (part xs 0 4) ≤ 64 = leb-true (number (part xs 0 4)) 64 e in
    input_counted xs (number (part xs 0 4)) (omega arith) refl l
    ∙ long_chunks (number (part xs 0 4)) (drop 4 xs) 4096 (omega (arith, length-drop 4 xs))
counted xs h false e = input_many xs (number (part xs 0 4)) (omega arith) refl (omega (arith, leb-false (number (part xs 0 4)) 64 e))

long_other : (xs : List ℕ) → 4356 < length xs → input_of xs ≡ other
long_other xs h = counted xs h (leb (number (part xs 0 4)) 64) refl

cut_by : (xs : List ℕ) (b : Bool) → leb (length xs) 4357 ≡ b → listing (take 4357 xs) ≡ listing xs
unfolding listing
cut_by xs true e = ap (λ (l : List ℕ). lines_for (input_of l)) (take_all 4357 xs (leb-true (length xs) 4357 e))
cut_by xs false e =
    let l : 4357 < length xs = leb-false (length xs) 4357 e in
    ap lines_for (long_other (take 4357 xs) (omega (arith, length-take-le 4357 xs (omega arith))) ∙ sym (long_other xs (omega arith)))

-- what is listed of the first 4,357 bytes is the listing of all
pub cut_listing : (xs : List ℕ) → listing (take 4357 xs) ≡ listing xs
cut_listing xs = cut_by xs (leb (length xs) 4357) refl

pub limits : Limits
limits = record { longer = λ xs h. long_other xs (omega arith); cut = cut_listing }
