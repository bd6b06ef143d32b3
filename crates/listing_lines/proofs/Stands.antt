-- Whether a chunk stands at a place of the input.
-- Assumes nothing.
use Prim.Native.Nat.{ℕ, ◌+◌, ◌-◌, ◌≤◌, ◌<◌}
use mathlib.Core.Path.{◌≡◌, sym, ap, ◌∙◌}
use mathlib.Core.Bool.{Bool, true, false, not, ◌&&◌}
use mathlib.Core.List.{List}
use native.Mathlib.Omega.{arith}
use borrow.Author.Tests.{leb-true, le-leb, lt-leb, not-false}
use lib.Dec.{leb}
use lib.ListN.{length, drop, length-drop}
use Rattle.byte_strings.specs.Lists.{part}
use Rattle.byte_strings.specs.Numbers.{number}
use Rattle.byte_strings.proofs.Bools.{both_true}
use Rattle.listing_lines.specs.Input.{next_length, chunk_stands}

module _ (input : List ℕ) (at room : ℕ) (h : at ≤ length input) where
  stood : chunk_stands (drop at input) room
      ≡ (leb 4 (length input - at) && (leb (number (part input at 4)) room && leb (4 + number (part input at 4)) (length input - at)))
  unfolding chunk_stands next_length part
  stood =
      ap (λ (k : ℕ). leb 4 k && (leb (number (part input at 4)) room && leb (4 + number (part input at 4)) k)) (length-drop at input)

  pub stands_short : length input - at < 4 → false ≡ chunk_stands (drop at input) room
  stands_short l =
      sym (stood
      ∙ ap (λ (b : Bool). b && (leb (number (part input at 4)) room && leb (4 + number (part input at 4)) (length input - at))) (lt-leb 4 (length input - at) l))

  long : 4 ≤ length input - at → chunk_stands (drop at input) room
      ≡ (leb (number (part input at 4)) room && leb (4 + number (part input at 4)) (length input - at))
  long l =
      stood ∙ ap (λ (b : Bool). b && (leb (number (part input at 4)) room && leb (4 + number (part input at 4)) (length input - at))) (le-leb 4 (length input - at) l)

  pub stands_large : (len : ℕ) → 4 ≤ length input - at → len ≡ number (part input at 4) → room < len → false ≡ chunk_stands (drop at input) room
  stands_large len l e g =
      sym (long l ∙ ap (λ (b : Bool). b && leb (4 + number (part input at 4)) (length input - at)) (lt-leb (number (part input at 4)) room (omega arith)))

  pub stands_last : (len : ℕ) → 4 ≤ length input - at → len ≡ number (part input at 4) → len ≤ room
      → leb (4 + len) (length input - at) ≡ chunk_stands (drop at input) room
  stands_last len l e g =
      ap (λ (k : ℕ). leb (4 + k) (length input - at)) e
      ∙ sym (long l ∙ ap (λ (b : Bool). b && leb (4 + number (part input at 4)) (length input - at)) (le-leb (number (part input at 4)) room (omega arith)))

-- what is there where a chunk stands
pub stands_facts : (input : List ℕ) (at room : ℕ) → at ≤ length input → chunk_stands (drop at input) room ≡ true
    → (4 ≤ length input - at) × (number (part input at 4) ≤ room) × (4 + number (part input at 4) ≤ length input - at)
stands_facts input at room h e =
    let a = both_true _ _ (sym (stood input at room h) ∙ e) in
    let b = both_true _ _ a.1 in
    (leb-true _ _ a.0, leb-true _ _ b.0, leb-true _ _ b.1)

-- where the test of a chunk did not fail: the chunk ends within the input, and within 4,096 bytes
pub stood_room : (input : List ℕ) (at size len : ℕ) (r : Bool) → at ≤ length input → size ≤ 4096 → r ≡ chunk_stands (drop at input) (4096 - size)
    → not r ≡ false → len ≡ number (part input at 4) → (at + 4 + len ≤ length input) × (size + len ≤ 4096)
stood_room input at size len r h l e f q =
    let g = stands_facts input at (4096 - size) h (sym e ∙ not-false r f) in
    (omega (arith, g.2), omega (arith, g.1))
