-- The first m of some chunks: their bytes, which of them are held, and that they are chunks as well. Assumes nothing.
use Prim.Native.Nat.{ℕ, zero, suc, ◌≤◌, ◌<◌}
use mathlib.Core.Path.{◌≡◌, sym, ap, ◌∙◌, subst}
use mathlib.Core.Bool.{Bool, false}
use mathlib.Core.List.{List, [], ◌∷◌, map}
use native.Mathlib.Omega.{arith}
use lib.ListN.{length, get_or, take}
use lib.Seq.{length-take-le, get_or-take}
use Rattle.byte_strings.specs.Lists.{Bytes, total}
use Rattle.byte_strings.proofs.Lists.{run_ext}
use Rattle.file_format.specs.Sizes.{longest_chunk}
use Rattle.file_format.specs.Slots.{Slot, held, is_held, slot_bytes, contents, held_in, Handed, Within}
use Rattle.file_format.proofs.Spans.{span}
use Rattle.prefix_root.proofs.First.{map_take}

-- what holds of each element of a list, and of what stands for those behind the last, holds of each of its first m
each_first : {A : Type 0} (P : A → Type 0) (xs : List A) (d : A) (m k : ℕ) → ((j : ℕ) → P (get_or xs j d)) → P d → P (get_or (take m xs) k d)
each_first P xs d zero k p q = q
each_first P [] d (suc m) k p q = q
each_first P (x ∷ xs) d (suc m) zero p q = p 0
each_first P (x ∷ xs) d (suc m) (suc k) p q = each_first P xs d m k (λ j. p (suc j)) q

module _ (ss : List Slot) (m : ℕ) where
  contents_first : contents (take m ss) ≡ take m (contents ss)
  unfolding contents
  contents_first = map_take slot_bytes m ss

  pub chunk_first : (i : ℕ) → i < m → get_or (contents (take m ss)) i [] ≡ get_or (contents ss) i []
  chunk_first i h = ap (λ (cs : List (List ℕ)). get_or cs i []) contents_first ∙ get_or-take m (contents ss) i [] h

  pub held_first : (i : ℕ) → i < m → held_in (take m ss) i ≡ held_in ss i
  unfolding held_in
  held_first i h = ap (λ (bs : List Bool). get_or bs i false) (map_take is_held m ss) ∙ get_or-take m (map is_held ss) i false h

  pub span_first : (k : ℕ) → k ≤ m → span (contents (take m ss)) 0 k ≡ span (contents ss) 0 k
  unfolding span
  span_first k h =
      ap total (run_ext (λ j. length (get_or (contents (take m ss)) j [])) (λ j. length (get_or (contents ss) j [])) 0 k (λ j p q. ap length (chunk_first j (omega arith))))

  -- what holds of each chunk, and of an empty one, holds of each of the first m
  chunks_first : (P : List ℕ → Type 0) → ((k : ℕ) → P (get_or (contents ss) k [])) → P [] → (k : ℕ) → P (get_or (contents (take m ss)) k [])
  chunks_first P h e k = subst (λ (cs : List (List ℕ)). P (get_or cs k [])) (sym contents_first) (each_first P (contents ss) [] m k h e)

  pub within_first : m ≤ length ss → Within ss → Within (take m ss)
  within_first few w =
      record {
        count = omega (arith, w.count, length-take-le m ss few);
        short = chunks_first (λ c. length c ≤ longest_chunk) w.short (omega arith);
        bytes = chunks_first Bytes w.bytes (λ i. omega arith);
        handed = λ k. each_first Handed ss (held []) m k w.handed tt;
      }
