-- The entries that a packet brings stand in the files of n chunks. Assumes nothing.
use Prim.Native.Nat.{ℕ, ◌+◌, ◌-◌, ◌*◌, ◌/◌, ◌^◌, ◌≤◌, ◌<◌}
use mathlib.Core.Path.{◌≡◌, sym, ap, ◌∙◌, subst}
use mathlib.Core.Bool.{true}
use mathlib.Core.List.{List}
use native.Mathlib.Nat.{zero-add, mul-one, mul_assoc, mul-le-mul_right, div-lt_iff_lt-mul, le_trans}
use lib.Pow.{pow-add, pow_pos}
use native.Mathlib.Numerals.{add-one}
use native.Mathlib.Omega.{arith}
use borrow.Author.Tests.{leb-true}
use lib.ListN.{length, get_or, replicate, get_or-append}
use Rattle.byte_strings.proofs.Lists.{length_run, get_or_run}
use Rattle.tree_index.specs.Tree.{index, depth, block, filled, roots}
use Rattle.tree_index.proofs.Filled.{end_filled}
use Rattle.tree_index.proofs.Roots.{root_filled}
use Rattle.bitfield.specs.Append.{bits_place}
use Rattle.bitfield.specs.Image.{entry_count}
use Rattle.file_format.specs.Sizes.{most_chunks, used_tree, used_bitfield}
use Rattle.file_format.specs.RootsByValue.{padded}
use Rattle.lookup.proofs.Visits.{filled_entry}
use Rattle.packet.specs.Packet.{root_above, siblings, place_above}
use Rattle.packet.specs.Inner.{ChunkOf, RowIn}
use Rattle.packet.proofs.Above.{place_root, place_below, root_spans}
use Rattle.packet.proofs.Rows.{Filled}
use Rattle.copy_checks.proofs.Roots.{tree_bit}
use Rattle.copy_take_in.specs.Inner.{KnowableIn, RowFor, above_row}

filled_ends : (n i : ℕ) → filled n i ≡ true → (block i + 1) * 2 ^ depth i ≤ n
unfolding filled
filled_ends n i f = leb-true ((block i + 1) * 2 ^ depth i) n f

module _ (n c : ℕ) (h : ChunkOf n c) where
  -- each block above a chunk, up to its root, is filled
  above_filled : (d : ℕ) → d ≤ length (siblings n c) → filled n (index d (c / 2 ^ d)) ≡ true
  unfolding siblings
  above_filled d l =
      let r : ℕ = root_above (roots n) c in
      let deep : d ≤ depth r = subst (λ (x : ℕ). d ≤ x) (length_run _ 0 (depth r)) l in
      let m : ℕ = depth r - d in
      let w : 2 ^ depth r ≡ 2 ^ m * 2 ^ d = ap (λ (x : ℕ). 2 ^ x) (let q : depth r ≡ m + d = omega arith in q) ∙ pow-add 2 m d in
      let f : filled n r ≡ true = subst (λ (x : ℕ). filled n x ≡ true) (sym (place_root (roots n) c)) (root_filled n (place_above (roots n) c) (place_below n c h)) in
      let e : (block r + 1) * 2 ^ depth r ≤ n = filled_ends n r f in
      let g : (block r + 1) * 2 ^ depth r ≡ (block r + 1) * 2 ^ m * 2 ^ d =
      ap (λ (x : ℕ). (block r + 1) * x) w ∙ sym (mul_assoc (block r + 1) (2 ^ m) (2 ^ d)) in
      let q : c / 2 ^ d < (block r + 1) * 2 ^ m =
      (div-lt_iff_lt-mul (pow_pos d)).1 (subst (λ (x : ℕ). c < x) g (root_spans n c h).to) in
      end_filled n d (c / 2 ^ d)
      (le_trans (mul-le-mul_right (2 ^ d) (subst (λ (x : ℕ). x ≤ (block r + 1) * 2 ^ m) (sym (add-one (c / 2 ^ d))) q)) (subst (λ (x : ℕ). x ≤ n) g e))

  pub leaf_filled : filled n (index 0 c) ≡ true
  leaf_filled = end_filled n 0 c (omega (arith, mul-one (c + 1), h.below))

  pub aboves_filled : Filled n (above_row c (length (siblings n c)))
  unfolding above_row
  aboves_filled j l =
      let u : ℕ = length (siblings n c) in
      let g : j < u = subst (λ (x : ℕ). j < x) (length_run _ 0 u) l in
      subst (λ (x : ℕ). filled n x ≡ true)
      (sym (get_or_run (λ d. index (d + 1) (c / 2 ^ (d + 1))) 0 u j 0 g ∙ ap (λ (d : ℕ). index (d + 1) (c / 2 ^ (d + 1))) (zero-add j)))
      (above_filled (j + 1) (omega arith))

module _ (t bits : List ℕ) (n : ℕ) (count : n ≤ most_chunks) (nodes : used_tree n ≤ length t) (field : used_bitfield n ≤ length bits) where
  pub knowable : (i : ℕ) → filled n i ≡ true → KnowableIn t bits i
  knowable i f = record { entry = filled_entry t n i count nodes f; bit = tree_bit bits n i (record { count = count; inside = field }) f }

  pub row_for : (row : List ℕ) (at : ℕ) (xs is : List ℕ) (k : ℕ) → RowIn row at k → Filled n xs → is ≡ padded 0 (length xs) xs → k ≡ length xs
      → RowFor t bits row at is k
  unfolding padded
  row_for row at xs is k r f e g =
      record {
        inside = r;
        each =
            λ j h.
            let l : j < length xs = subst (λ (x : ℕ). j < x) g h in
            subst (KnowableIn t bits) (sym (ap (λ (y : List ℕ). get_or y j 0) e ∙ get_or-append xs (replicate (20 - length xs) 0) 0 j l))
            (knowable (get_or xs j 0) (f j l));
      }

  pub data_bit : (c : ℕ) → c < n → bits_place (c / 8192 + 1) ≤ length bits
  unfolding used_bitfield bits_place entry_count
  data_bit c h = omega (arith, field)
