-- Bytes that say, place by place, what an image has there are that image.
-- Assumes nothing.
use Prim.Native.Nat.{ℕ, ◌+◌, ◌*◌, ◌≤◌, ◌<◌}
use mathlib.Core.Path.{◌≡◌, refl, sym, ap, ap₂, ◌∙◌}
use mathlib.Core.List.{List, ◌++◌}
use native.Mathlib.Omega.{arith}
use lib.ListN.{length, take, drop}
use lib.Seq.{take-add, take_at, drop_at, length-take-le}
use Rattle.byte_strings.specs.Lists.{part, run, joined, zeros}
use Rattle.byte_strings.specs.Numbers.{be}
use Rattle.byte_strings.proofs.Lists.{parts_joined, run_ext}
use Rattle.tree_index.specs.Tree.{entries}
use Rattle.file_format.specs.Headers.{tree_header}
use Rattle.file_format.specs.Sizes.{entry_place, used_tree}
use Rattle.file_format.specs.Entries.{hole, entry_bytes, entry_at, tree_entries}
use Rattle.file_format.specs.Images.{tree_image, leaves}
use Rattle.file_format.specs.Slots.{Slot}
use Rattle.file_format.proofs.Slots.{leaves_length}

-- used bytes that are a header and what follows it, cut behind the header
pub header_cut : (xs hs ys : List ℕ) (m k : ℕ) → length hs ≡ m → m ≤ length xs → take (m + k) xs ≡ hs ++ ys → (take m xs ≡ hs) × (part xs m k ≡ ys)
unfolding part
header_cut xs hs ys m k e l h =
    let q : take m xs ++ take k (drop m xs) ≡ hs ++ ys = sym (take-add m k xs) ∙ h in
    let f : length (take m xs) ≡ m = length-take-le m xs l in (
      sym (take_at (take m xs) (take k (drop m xs)) m f) ∙ ap (take m) q ∙ take_at hs ys m e,
      sym (drop_at (take m xs) (take k (drop m xs)) m f) ∙ ap (drop m) q ∙ drop_at hs ys m e,
    )

-- a hole's bytes
pub hole_zeros : entry_bytes hole ≡ zeros 40
unfolding entry_bytes hole be
hole_zeros = refl

-- a tree file with the header and with every entry
pub tree_of_entries : (F : List ℕ → List ℕ) (ss : List Slot) (xs : List ℕ) (n : ℕ) → n ≡ length ss → take 32 xs ≡ tree_header
    → ((i : ℕ) → i < entries n → part xs (entry_place i) 40 ≡ entry_bytes (entry_at F (leaves F ss) i)) → take (used_tree n) xs ≡ tree_image F ss
unfolding used_tree tree_image tree_entries entry_place part
tree_of_entries F ss xs n e front each =
    take-add 32 (40 * entries n) xs
    ∙ ap₂ ◌++◌ front
    (sym (parts_joined xs 32 40 (entries n))
    ∙ ap joined (run_ext (λ i. part xs (32 + 40 * i) 40) (λ i. entry_bytes (entry_at F (leaves F ss) i)) 0 (entries n) (λ i p q. each i (omega arith))
    ∙ ap (λ (m : ℕ). run (λ i. entry_bytes (entry_at F (leaves F ss) i)) 0 (entries m)) (e ∙ sym (leaves_length F ss))))
