-- An append to a register that belongs to a chunk sequence gives one that belongs to the sequence with the chunk at its end, and answers
-- that sequence's root hash; an append to any register leaves the bytes behind the used ones.
-- Assumes nothing.
use Prim.Native.Nat.{ℕ, ◌+◌, ◌*◌, ◌≤◌, ◌<◌}
use mathlib.Core.Path.{◌≡◌, refl, sym, ap, ap₂, ◌∙◌, subst}
use mathlib.Core.Bool.{Bool}
use mathlib.Core.List.{List, [], ◌∷◌, ◌++◌}
use native.Mathlib.Nat.{le_refl}
use native.Mathlib.Omega.{arith}
use lib.ListN.{length, take, drop}
use Rattle.byte_strings.specs.Lists.{part, put, Bytes}
use Rattle.byte_strings.proofs.Lists.{drop_put, take_put_end}
use Rattle.tree_index.specs.Tree.{depth}
use Rattle.bitfield.specs.Image.{entry_count, entries_of}
use Rattle.bitfield.specs.Append.{appended, bits_place}
use Rattle.bitfield.proofs.Image.{length_entries}
use Rattle.bitfield.proofs.Bits.{with_one_lem}
use Rattle.bitfield.proofs.Append.{NoneFrom, entries_ext, entries_after, appended_image}
use Rattle.file_format.specs.Headers.{bitfield_header}
use Rattle.file_format.specs.Sizes.{most_chunks, used_tree, used_bitfield}
use Rattle.file_format.specs.Messages.{HashFunction}
use Rattle.file_format.specs.Entries.{leaf}
use Rattle.file_format.specs.Images.{data_size, data_image, root_hash_for, bitfield_image, bitfield_of}
use Rattle.file_format.specs.Stored.{stored_root_message}
use Rattle.file_format.specs.Slots.{Slot, held, contents, held_in, Within}
use Rattle.file_format.specs.Belongs.{Register, Belongs}
use Rattle.file_format.proofs.Slots.{contents_snoc, held_behind_lem, held_snoc}
use Rattle.file_format.proofs.OfImage.{bitfield_header_length, stored_root_message_lem}
use Rattle.file_format.proofs.ToImage.{header_cut}
use Rattle.writing.specs.Append.{appended_register}
use Rattle.writing.specs.Conditions.{AppendFits}
use Rattle.writing.proofs.Written.{length_snoc, data_size_snoc, data_image_snoc, within_snoc}
use Rattle.writing.specs.Inner.{made}
use Rattle.writing.proofs.Made.{new_made, made_long}
use Rattle.writing.proofs.Bits.{bits_rest}
use Rattle.writing.proofs.Tree.{appended_tree_lem, tree_rest}

-- ---- the bitfield

module _ (xs : List ℕ) (was : ℕ → Bool) (n : ℕ) (none : NoneFrom was n) (few : n < most_chunks) (room : used_bitfield (n + 1) ≤ length xs)
    (image : take (used_bitfield n) xs ≡ bitfield_image was n) where
  cut : (take 32 xs ≡ bitfield_header) × (part xs 32 (3328 * entry_count n) ≡ entries_of was n)
  unfolding used_bitfield bitfield_of
  cut = header_cut xs bitfield_header (entries_of was n) 32 (3328 * entry_count n) bitfield_header_length (omega arith) image

  pub bits_put : appended xs n ≡ put xs 32 (entries_of (with_one_lem was n) (n + 1))
  unfolding used_bitfield bits_place
  bits_put = appended_image xs was n none few (omega (arith, entries_after n)) cut.1

  pub bits_image : (now : ℕ → Bool) → ((j : ℕ) → with_one_lem was n j ≡ now j) → take (used_bitfield (n + 1)) (appended xs n) ≡ bitfield_image now (n + 1)
  unfolding used_bitfield bitfield_of
  bits_image now same =
      ap (take (32 + 3328 * entry_count (n + 1))) bits_put
      ∙ take_put_end xs 32 (3328 * entry_count (n + 1)) (entries_of (with_one_lem was n) (n + 1)) (length_entries (with_one_lem was n) (n + 1)) (omega arith)
      ∙ ap₂ ◌++◌ cut.0 (entries_ext (with_one_lem was n) now (n + 1) same)

-- ---- the register

module _ (F : List ℕ → List ℕ) (ss : List Slot) (r : Register) (b : Belongs F r ss) where
  -- none behind the last is held
  pub none_from : NoneFrom (held_in ss) r.n
  none_from j h = held_behind_lem ss j (subst (λ (n : ℕ). n ≤ j) b.count h)

module _ (F : List ℕ → List ℕ) (hf : HashFunction F) (ss : List Slot) (w : Within ss) (r : Register) (b : Belongs F r ss) (c : List ℕ) (p : Bytes c)
    (a : AppendFits r c) where
  pub longer_within : Within (ss ++ (held c ∷ []))
  longer_within = within_snoc ss c w (subst (λ (n : ℕ). n < most_chunks) b.count a.fewer) a.short p

  pub append_belongs : Belongs F (appended_register F r c) (ss ++ (held c ∷ []))
  unfolding appended_register
  append_belongs =
      record {
        count = ap (λ (m : ℕ). m + 1) b.count ∙ sym (length_snoc ss (held c));
        total = ap (λ (m : ℕ). m + length c) b.total ∙ sym (ap data_size (contents_snoc ss c) ∙ data_size_snoc (contents ss) c);
        tree = appended_tree_lem F hf ss w r b c longer_within a.tree;
        bitfield = bits_image r.bitfield (held_in ss) r.n (none_from F ss r b) a.fewer a.bitfield b.bitfield (held_in (ss ++ (held c ∷ [])))
            (λ j. ap (λ (n : ℕ). with_one_lem (held_in ss) n j) b.count ∙ held_snoc ss c j);
        content =
            take_put_end r.content r.size (length c) c refl (omega (arith, a.content)) ∙ ap (λ (h : List ℕ). h ++ c) b.content ∙ sym
            (ap data_image (contents_snoc ss c) ∙ data_image_snoc (contents ss) c);
      }

  -- the answer is the new root hash
  pub append_root_lem : F (stored_root_message (appended_register F r c).tree (appended_register F r c).n) ≡ root_hash_for F (ss ++ (held c ∷ []))
  unfolding root_hash_for
  append_root_lem = ap F (stored_root_message_lem F hf (ss ++ (held c ∷ [])) longer_within (appended_register F r c) append_belongs)

-- ---- any register

-- the bytes behind the used ones stay
module _ (F : List ℕ → List ℕ) (hf : HashFunction F) (r : Register) (t : Bytes r.tree) (c : List ℕ) (p : Bytes c) (a : AppendFits r c) where
  pub append_tree_rest : drop (used_tree (r.n + 1)) (appended_register F r c).tree ≡ drop (used_tree (r.n + 1)) r.tree
  unfolding appended_register
  append_tree_rest =
      tree_rest F r.tree r.n c (λ i. made F r.tree r.n (leaf F c) (depth i)) (λ i. made_long F hf r.tree r.n c t p (depth i))
      (new_made F r.tree r.n c) a.fewer a.tree

  pub append_bitfield_rest : drop (used_bitfield (r.n + 1)) (appended_register F r c).bitfield ≡ drop (used_bitfield (r.n + 1)) r.bitfield
  unfolding appended_register
  append_bitfield_rest = bits_rest r.bitfield r.n a.fewer a.bitfield

  pub append_content_rest : drop (r.size + length c) (appended_register F r c).content ≡ drop (r.size + length c) r.content
  unfolding appended_register
  append_content_rest = drop_put (r.size + length c) r.content r.size c (le_refl (r.size + length c)) (omega (arith, a.content))
