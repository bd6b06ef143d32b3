-- One slot replaced by a released one with the same leaf entry, whatever else is released. Assumes nothing.
use Prim.Native.Nat.{ℕ, zero, suc, ◌+◌, ◌≤◌, ◌<◌}
use mathlib.Core.Path.{◌≡◌, refl, sym, ap, ◌∙◌, subst}
use mathlib.Core.Bool.{Bool, true, false, ◌&&◌, not}
use mathlib.Core.Logic.{⊎_elim}
use mathlib.Core.List.{List, [], ◌∷◌, ◌++◌, map}
use native.Mathlib.Omega.{arith}
use lib.Dec.{eqb}
use lib.ListN.{length, get_or, set, length-set, length-map, length-replicate}
use lib.Seq.{drop_at, map-set_same, get_or-set_same, get_or-set_other}
use borrow.Author.Tests.{eq-eqb}
use Rattle.byte_strings.specs.Lists.{put, joined, total, zeros, Bytes}
use Rattle.byte_strings.proofs.Lists.{bytes_zeros}
use Rattle.bitfield.proofs.Bits.{without_one, clears}
use Rattle.bitfield.proofs.Levels.{same_or}
use Rattle.bitfield.proofs.Image.{put_local}
use Rattle.file_format.specs.Headers.{tree_header}
use Rattle.file_format.specs.Sizes.{longest_chunk}
use Rattle.file_format.specs.Entries.{Entry, tree_entries}
use Rattle.file_format.specs.Images.{data_size, data_image, leaves, tree_image}
use Rattle.file_format.specs.Slots.{Slot, held, released, is_held, slot_bytes, slot_entry, contents, held_in, Handed, Within}
use Rattle.file_format.proofs.Spans.{span, span_none, span_cons}
use Rattle.file_format.proofs.Slots.{slot_at}

-- ---- lists with one element replaced

pub map_set : {A B : Type 0} (f : A → B) (l : List A) (i : ℕ) (y : A) → map f (set l i y) ≡ set (map f l) i (f y)
map_set f [] i y = refl
map_set f (x ∷ xs) zero y = refl
map_set {A} {B} f (x ∷ xs) (suc i) y = ap (λ (l : List B). f x ∷ l) (map_set f xs i y)

-- what holds of each element, and of the new one
pub each_set : {A : Type 0} (P : A → Type 0) (xs : List A) (i : ℕ) (y d : A) → ((k : ℕ) → P (get_or xs k d)) → P y → (k : ℕ) → P (get_or (set xs i y) k d)
each_set P [] i y d h p k = h k
each_set P (x ∷ xs) zero y d h p zero = p
each_set P (x ∷ xs) zero y d h p (suc k) = h (suc k)
each_set P (x ∷ xs) (suc i) y d h p zero = h zero
each_set P (x ∷ xs) (suc i) y d h p (suc k) = each_set P xs i y d (λ j. h (suc j)) p k

-- byte strings one behind the other, one of them replaced by one as long
pub data_set : (cs : List (List ℕ)) (c : ℕ) (z : List ℕ) → c < length cs → length z ≡ length (get_or cs c [])
    → data_image (set cs c z) ≡ put (data_image cs) (span cs 0 c) z
unfolding data_image joined put
data_set [] c z h e = absurd (omega arith)
data_set (x ∷ cs) zero z h e =
    ap (λ (l : List ℕ). z ++ l) (sym (drop_at x (joined cs) (0 + length z) (omega arith)))
    ∙ ap (λ (a : ℕ). put (x ++ joined cs) a z) (sym (span_none (x ∷ cs) 0))
data_set (x ∷ cs) (suc c) z h e =
    ap (λ (l : List ℕ). x ++ l) (data_set cs c z (omega arith) e)
    ∙ sym ((put_local z).behind x (joined cs) (length x) (span cs 0 c) refl)
    ∙ ap (λ (a : ℕ). put (x ++ joined cs) a z) (sym (span_cons x cs c))

pub size_set : (cs : List (List ℕ)) (c : ℕ) (z : List ℕ) → length z ≡ length (get_or cs c []) → data_size (set cs c z) ≡ data_size cs
unfolding data_size
size_set cs c z e = ap total (map-set_same length cs c z [] e)

-- ---- slots

and_none : (a b : Bool) → b ≡ true → (a && not b) ≡ false
and_none true b e = ap not e
and_none false b e = refl

module _ (ss : List Slot) (c : ℕ) (e : Entry) where
  abbrev ts : List Slot
  ts = set ss c (released e)

  pub length_ts : length ts ≡ length ss
  length_ts = length-set ss c (released e)

  pub contents_ts : contents ts ≡ set (contents ss) c (zeros e.size)
  unfolding contents
  contents_ts = map_set slot_bytes ss c (released e)

  -- the chunk is held no longer, the others as before
  pub held_ts : c < length ss → (j : ℕ) → without_one (held_in ss) c j ≡ held_in ts j
  unfolding held_in
  held_ts h j =
      ⊎_elim
      (λ f. and_none (get_or (map is_held ss) j false) (eqb j c) (eq-eqb j c f)
      ∙ sym (ap (λ (l : List Bool). get_or l j false) (map_set is_held ss c (released e)) ∙ ap (λ (i : ℕ). get_or (set (map is_held ss) c false) i false) f
      ∙ get_or-set_same (map is_held ss) c false false (subst (λ (m : ℕ). c < m) (sym (length-map ss is_held)) h)))
      (λ f. sym (clears.other (λ i. get_or (map is_held ss) i false) c j f)
      ∙ sym (ap (λ (l : List Bool). get_or l j false) (map_set is_held ss c (released e)) ∙ get_or-set_other (map is_held ss) c j false false f))
      (same_or j c)

  -- no tree entry is another
  pub tree_ts : (F : List ℕ → List ℕ) → e ≡ slot_entry F (slot_at ss c) → tree_image F ts ≡ tree_image F ss
  unfolding tree_image leaves
  tree_ts F f = ap (λ (l : List Entry). tree_header ++ tree_entries F l) (map-set_same (slot_entry F) ss c (released e) (held []) f)

  pub within_ts : Within ss → length e.hash ≡ 32 → Bytes e.hash → e.size ≤ longest_chunk → Within ts
  within_ts w long bytes short =
      record {
        count = omega (arith, w.count, length_ts);
        short = λ k. subst (λ (l : List (List ℕ)). length (get_or l k []) ≤ longest_chunk) (sym contents_ts)
            (each_set (λ (x : List ℕ). length x ≤ longest_chunk) (contents ss) c (zeros e.size) [] w.short (omega (arith, length-replicate {A = ℕ} e.size 0)) k);
        bytes = λ k. subst (λ (l : List (List ℕ)). Bytes (get_or l k [])) (sym contents_ts)
            (each_set Bytes (contents ss) c (zeros e.size) [] w.bytes (bytes_zeros e.size) k);
        handed = each_set Handed ss c (released e) (held []) w.handed (long, bytes);
      }
