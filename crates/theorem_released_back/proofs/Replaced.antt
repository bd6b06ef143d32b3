-- One slot replaced by a held chunk with the same leaf entry, whatever else is released: the mirror image of a release. Assumes nothing.
use Prim.Native.Nat.{ℕ, ◌≤◌, ◌<◌}
use mathlib.Core.Path.{◌≡◌, sym, ap, ◌∙◌, subst}
use mathlib.Core.Bool.{Bool, true, false}
use mathlib.Core.Logic.{⊎_elim}
use mathlib.Core.List.{List, [], ◌++◌, map}
use native.Mathlib.Omega.{arith}
use lib.Dec.{eqb}
use lib.ListN.{length, get_or, set, length-set, length-map}
use lib.Seq.{map-set_same, get_or-set_same, get_or-set_other}
use borrow.Author.Tests.{eq-eqb}
use Rattle.byte_strings.specs.Lists.{Bytes}
use Rattle.byte_strings.proofs.Bools.{or_right}
use Rattle.bitfield.proofs.Bits.{with_one_lem, sets}
use Rattle.bitfield.proofs.Levels.{same_or}
use Rattle.file_format.specs.Headers.{tree_header}
use Rattle.file_format.specs.Sizes.{longest_chunk}
use Rattle.file_format.specs.Entries.{Entry, leaf, tree_entries}
use Rattle.file_format.specs.Images.{leaves, tree_image}
use Rattle.file_format.specs.Slots.{Slot, held, is_held, slot_bytes, slot_entry, contents, held_in, Handed, Within}
use Rattle.file_format.proofs.Slots.{slot_at}
use Rattle.release.proofs.Replaced.{map_set, each_set}

module _ (ss : List Slot) (c : ℕ) (x : List ℕ) where
  abbrev ts : List Slot
  ts = set ss c (held x)

  pub length_ts : length ts ≡ length ss
  length_ts = length-set ss c (held x)

  pub contents_ts : contents ts ≡ set (contents ss) c x
  unfolding contents
  contents_ts = map_set slot_bytes ss c (held x)

  -- the chunk is held, the others as before
  pub held_ts : c < length ss → (j : ℕ) → with_one_lem (held_in ss) c j ≡ held_in ts j
  unfolding held_in
  held_ts h j =
      ⊎_elim
      (λ f. or_right (get_or (map is_held ss) j false) (eqb j c) (eq-eqb j c f)
      ∙ sym (ap (λ (l : List Bool). get_or l j false) (map_set is_held ss c (held x)) ∙ ap (λ (i : ℕ). get_or (set (map is_held ss) c true) i false) f
      ∙ get_or-set_same (map is_held ss) c true false (subst (λ (m : ℕ). c < m) (sym (length-map ss is_held)) h)))
      (λ f. sym (sets.other (λ i. get_or (map is_held ss) i false) c j f)
      ∙ sym (ap (λ (l : List Bool). get_or l j false) (map_set is_held ss c (held x)) ∙ get_or-set_other (map is_held ss) c j true false f))
      (same_or j c)

  -- no tree entry is another
  pub tree_ts : (F : List ℕ → List ℕ) → leaf F x ≡ slot_entry F (slot_at ss c) → tree_image F ts ≡ tree_image F ss
  unfolding tree_image leaves
  tree_ts F f = ap (λ (l : List Entry). tree_header ++ tree_entries F l) (map-set_same (slot_entry F) ss c (held x) (held []) f)

  pub within_ts : Within ss → length x ≤ longest_chunk → Bytes x → Within ts
  within_ts w short bytes =
      record {
        count = omega (arith, w.count, length_ts);
        short = λ k. subst (λ (l : List (List ℕ)). length (get_or l k []) ≤ longest_chunk) (sym contents_ts)
            (each_set (λ (y : List ℕ). length y ≤ longest_chunk) (contents ss) c x [] w.short short k);
        bytes = λ k. subst (λ (l : List (List ℕ)). Bytes (get_or l k [])) (sym contents_ts) (each_set Bytes (contents ss) c x [] w.bytes bytes k);
        handed = each_set Handed ss c (held x) (held []) w.handed tt;
      }
