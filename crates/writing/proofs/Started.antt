-- What a start leaves: a register that belongs to the empty sequence.
-- Assumes nothing.
use Prim.Native.Nat.{ℕ}
use mathlib.Core.Path.{◌≡◌, refl, sym, ap, ◌∙◌}
use mathlib.Core.Bool.{Bool, true, false, cond}
use mathlib.Core.List.{List, [], append-nil}
use borrow.Author.Tests.{leb-true, le-leb}
use lib.Dec.{leb}
use lib.ListN.{length, take, drop}
use Rattle.answer_types.specs.Verdict.{none, done, refused}
use Rattle.byte_strings.specs.Lists.{put, run, joined, total}
use Rattle.tree_index.specs.Tree.{entries}
use Rattle.bitfield.specs.Image.{entry_count, entries_for}
use Rattle.file_format.specs.Headers.{tree_header, signatures_header, bitfield_header}
use Rattle.file_format.specs.Sizes.{used_tree, used_signatures, used_bitfield}
use Rattle.file_format.specs.Entries.{tree_entries}
use Rattle.file_format.specs.Images.{data_size, data_image, signatures_image, tree_image, leaves, bitfield_image, bitfield_of}
use Rattle.file_format.specs.Slots.{contents, held_in}
use Rattle.file_format.specs.Belongs.{Buffers, Belongs}
use Rattle.file_format.proofs.OfImage.{tree_header_length, signatures_header_length, bitfield_header_length}
use Rattle.checks.specs.Checks.{judged}
use Rattle.checks.proofs.Passed.{all_pass}
use Rattle.writing.specs.Start.{start_checks, start_verdict, started, started_register}
use Rattle.writing.specs.Conditions.{StartFits}
use Rattle.writing.proofs.Written.{take_header, drop_header}

pub fits_start : (b : Buffers) → StartFits b → start_verdict b ≡ done
unfolding start_verdict start_checks
fits_start b h =
    all_pass (start_checks b) done
    (le-leb 32 (length b.tree) h.tree, (le-leb 32 (length b.signatures) h.signatures, (le-leb 32 (length b.bitfield) h.bitfield, tt)))

-- "its one refusal is 14"
pub start_refused : (b : Buffers) → (StartFits b → ⊥) → start_verdict b ≡ refused 14 none
unfolding start_verdict start_checks judged
start_refused b h =
    split (leb 32 (length b.tree)) refl (leb 32 (length b.signatures)) refl (leb 32 (length b.bitfield)) refl
  where
    split : (x : Bool) → leb 32 (length b.tree) ≡ x → (y : Bool) → leb 32 (length b.signatures) ≡ y → (z : Bool) → leb 32 (length b.bitfield) ≡ z
        → cond x (cond y (cond z done (refused 14 none)) (refused 14 none)) (refused 14 none) ≡ refused 14 none
    split false e y f z g = refl
    split true e false f z g = refl
    split true e true f false g = refl
    split true e true f true g =
        absurd (h (record {
          tree = leb-true 32 (length b.tree) e;
          signatures = leb-true 32 (length b.signatures) f;
          bitfield = leb-true 32 (length b.bitfield) g;
        }))

-- ---- the images of nothing are the headers

none_tree : (F : List ℕ → List ℕ) → tree_image F [] ≡ tree_header
unfolding tree_image tree_entries leaves entries run joined
none_tree F = append-nil tree_header

none_bitfield : bitfield_image (held_in []) 0 ≡ bitfield_header
unfolding bitfield_of entries_for entry_count run joined
none_bitfield = append-nil bitfield_header

none_signatures : signatures_image [] ≡ signatures_header
unfolding signatures_image joined
none_signatures = append-nil signatures_header

pub used_tree_none : used_tree 0 ≡ 32
unfolding used_tree entries
used_tree_none = refl

pub used_signatures_none : used_signatures 0 ≡ 32
unfolding used_signatures
used_signatures_none = refl

pub used_bitfield_none : used_bitfield 0 ≡ 32
unfolding used_bitfield entry_count
used_bitfield_none = refl

pub started_belongs : (F : List ℕ → List ℕ) (b : Buffers) → Belongs F (started_register b) []
unfolding started_register started contents data_size data_image total joined
started_belongs F b =
    record {
      count = refl;
      total = refl;
      tree = ap (λ (m : ℕ). take m (put b.tree 0 tree_header)) used_tree_none ∙ take_header b.tree tree_header 32 tree_header_length ∙ sym (none_tree F);
      bitfield = ap (λ (m : ℕ). take m (put b.bitfield 0 bitfield_header)) used_bitfield_none
          ∙ take_header b.bitfield bitfield_header 32 bitfield_header_length ∙ sym none_bitfield;
      content = refl;
    }

pub started_signatures : (b : Buffers) → take (used_signatures 0) (started_register b).signatures ≡ signatures_image []
unfolding started_register started
started_signatures b =
    ap (λ (m : ℕ). take m (put b.signatures 0 signatures_header)) used_signatures_none
    ∙ take_header b.signatures signatures_header 32 signatures_header_length ∙ sym none_signatures

-- the bytes behind the headers
pub start_tree_rest : (b : Buffers) → drop (used_tree 0) (started_register b).tree ≡ drop (used_tree 0) b.tree
unfolding started_register started used_tree entries
start_tree_rest b = drop_header b.tree tree_header 32 tree_header_length

pub start_signatures_rest : (b : Buffers) → drop (used_signatures 0) (started_register b).signatures ≡ drop (used_signatures 0) b.signatures
unfolding started_register started used_signatures
start_signatures_rest b = drop_header b.signatures signatures_header 32 signatures_header_length

pub start_bitfield_rest : (b : Buffers) → drop (used_bitfield 0) (started_register b).bitfield ≡ drop (used_bitfield 0) b.bitfield
unfolding started_register started used_bitfield entry_count
start_bitfield_rest b = drop_header b.bitfield bitfield_header 32 bitfield_header_length
