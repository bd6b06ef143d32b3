-- A register that belongs to some chunks, held or released, and whose signatures have the right count, room and header, is accepted.
-- Assumes nothing.
use Prim.Native.Nat.{ℕ, zero, suc, ◌+◌, ◌*◌, ◌≤◌, ◌<◌}
use mathlib.Core.Path.{◌≡◌, refl, sym, ap, ap₂, ◌∙◌, subst}
use mathlib.Core.Bool.{Bool, true, false, ◌&&◌, ◌||◌}
use mathlib.Core.List.{List, [], ◌++◌}
use native.Mathlib.Nat.{mul-one}
use native.Mathlib.Omega.{arith}
use borrow.Author.Tests.{eq-eqb, ltb-true, ltb-false}
use lib.Dec.{eqb, ltb}
use lib.ListN.{length, get_or, take, length-append, length-replicate}
use lib.Seq.{take_at, take-take, take_all, get_or-take}
use Rattle.byte_strings.specs.Lists.{run, joined, Bytes, zeros, all_zero}
use Rattle.byte_strings.proofs.Lists.{length_joined, bytes_zeros}
use Rattle.tree_index.specs.Tree.{index, filled, entries}
use Rattle.tree_index.proofs.Index.{by_coordinates}
use Rattle.tree_index.proofs.Filled.{filled_end, filled_left, filled_right}
use Rattle.bitfield.specs.Release.{stored_held}
use Rattle.file_format.specs.Headers.{tree_header, signatures_header, bitfield_header}
use Rattle.file_format.specs.Sizes.{most_chunks, longest_chunk, used_tree, used_signatures, used_bitfield}
use Rattle.file_format.specs.Messages.{HashFunction, leaf_message}
use Rattle.file_format.specs.Entries.{Entry, entry_bytes, leaf, parent_of, node, tree_entries}
use Rattle.file_format.specs.Slots.{Slot, held, released, is_held, slot_bytes, contents, held_in, Within}
use Rattle.file_format.specs.Images.{data_size, data_image, signatures_image, tree_image, leaves, bitfield_image, bitfield_of}
use Rattle.file_format.specs.Stored.{stored_chunk}
use Rattle.file_format.specs.Belongs.{Register, Lent, Belongs}
use Rattle.file_format.proofs.Spans.{span, chunk_inside, joined_length}
use Rattle.file_format.proofs.Slots.{slot_at, contents_length, contents_at, held_at, held_behind_lem, leaves_length, leaf_held}
use Rattle.file_format.proofs.Nodes.{entry_at_hole}
use Rattle.file_format.proofs.OfImage.{tree_header_length, bitfield_header_length, signatures_header_length, bitfield_image_length, tree_image_length, overs, size_at_lem, hash_at}
use Rattle.file_format.proofs.OfImage.{stored_entry_lem, stored_leaf_size, stored_start_lem, stored_chunk_lem, stored_total}
pub use Rattle.file_format.proofs.Held.{front_long}
use Rattle.file_format.proofs.Held.{stored_held_lem}
use Rattle.file_format.proofs.ToImage.{hole_zeros}
use Rattle.file_format.proofs.ImageBytes.{tree_image_bytes, signatures_image_bytes, bitfield_image_bytes, data_image_bytes}
use Rattle.checks.specs.Checks.{signed_right}
use Rattle.checks.proofs.Passed.{Passed}
use Rattle.audit.specs.Audit.{entry_right, held_bits, Accepted}
use Rattle.audit.proofs.Audited.{LeafRight, ParentRight, zeros_zero, audited_accepted, says_leaf, says_parent, says_hole}
use Rattle.bitfield.specs.Image.{entries_of}

-- what 3, 4 and 5 ask of the signatures
pub record Signed (r : Register) : Type 0 where
  pub count : signed_right r.n r.s ≡ true
  pub long : used_signatures r.s ≤ length r.signatures
  pub front : take 32 r.signatures ≡ signatures_header

-- ---- a list whose front is an image

pub front_header_lem : (xs hs ys : List ℕ) (m : ℕ) → take m xs ≡ hs ++ ys → length hs ≡ 32 → 32 ≤ m → take 32 xs ≡ hs
front_header_lem xs hs ys m e l h = sym (take-take 32 m xs h) ∙ ap (take 32) e ∙ take_at hs ys 32 l

-- ---- the chunks that are held

-- two tests that agree give one image
pub image_ext : (p q : ℕ → Bool) (n : ℕ) → ((k : ℕ) → p k ≡ q k) → bitfield_image p n ≡ bitfield_image q n
image_ext p q n h = λ i. bitfield_image (λ k. h k i) n

-- what the stored data bits say, where they are those of some chunks
pub held_bits_lem : (xs : List ℕ) (ss : List Slot) (n : ℕ) → n ≡ length ss → ((k : ℕ) → k < n → stored_held xs k ≡ held_in ss k) → (k : ℕ) → held_in ss k ≡ held_bits xs n k
unfolding held_bits
held_bits_lem xs ss n e h k = split (ltb k n) refl
  where
    split : (b : Bool) → ltb k n ≡ b → held_in ss k ≡ (ltb k n && stored_held xs k)
    split true q = sym (h k (ltb-true k n q)) ∙ ap (λ (b : Bool). b && stored_held xs k) (sym q)
    split false q = held_behind_lem ss k (omega (arith, ltb-false k n q)) ∙ ap (λ (b : Bool). b && stored_held xs k) (sym q)

-- the bytes of a released chunk
released_zero : (s : Slot) → is_held s ≡ false → all_zero (slot_bytes s) ≡ true
released_zero (held c) e = let z : ◌≡◌ {A = ℕ} 0 1 = cc in absurd (omega arith)
released_zero (released x) e = zeros_zero x.size

module _ (F : List ℕ → List ℕ) (hf : HashFunction F) (ss : List Slot) (w : Within ss) (r : Register) (b : Belongs F r ss) where
  -- ---- the entries

  leaf_is : (k : ℕ) → k < r.n → filled r.n (index zero k) ≡ true → LeafRight F r.tree r.content r.size (stored_held r.bitfield k) k
  unfolding index node leaf
  leaf_is k l h =
      record {
        short = subst (λ (z : ℕ). z ≤ longest_chunk) (sym (stored_leaf_size F hf ss w r b k l)) (w.short k);
        inside = subst (λ (z : ℕ). z ≤ r.size) (sym (ap₂ ◌+◌ (stored_start_lem F hf ss w r b k (omega arith)) (stored_leaf_size F hf ss w r b k l)))
            (subst (λ (z : ℕ). span (contents ss) 0 k + length (get_or (contents ss) k []) ≤ z) (sym b.total) (chunk_inside (contents ss) k (omega (arith, below, contents_length ss))));
        hash = λ e. hash_at F hf ss w r b zero k h ∙ ap (λ (x : Entry). x.hash) (leaf_held F ss k below (told ∙ e)) ∙ ap (λ (c : List ℕ). F (leaf_message c)) (sym chunk);
        cleared = λ e. ap all_zero (chunk ∙ contents_at ss k) ∙ released_zero (slot_at ss k) (sym (held_at ss k below) ∙ told ∙ e);
      }
    where
      below : k < length ss
      below = subst (λ (n : ℕ). k < n) b.count l

      told : held_in ss k ≡ stored_held r.bitfield k
      told = sym (stored_held_lem F ss r b k l)

      chunk : stored_chunk r.tree r.content k ≡ get_or (contents ss) k []
      chunk = stored_chunk_lem F hf ss w r b k l

  parent_is : (d k : ℕ) → filled r.n (index (suc d) k) ≡ true → ParentRight F r.tree r.content (index (suc d) k) (index d (2 * k)) (index d (2 * k + 1))
  unfolding node parent_of
  parent_is d k h =
      let f : filled r.n (index d (2 * k)) ≡ true = filled_left r.n d k h in
      let g : filled r.n (index d (2 * k + 1)) ≡ true = filled_right r.n d k h in
      record {
        sum = size_at_lem F hf ss w r b (suc d) k h ∙ sym (ap₂ ◌+◌ (size_at_lem F hf ss w r b d (2 * k) f) (size_at_lem F hf ss w r b d (2 * k + 1) g));
        hash = hash_at F hf ss w r b (suc d) k h ∙ ap F
            (sym (overs (size_at_lem F hf ss w r b d (2 * k) f) (size_at_lem F hf ss w r b d (2 * k + 1) g) (hash_at F hf ss w r b d (2 * k) f) (hash_at F hf ss w r b d (2 * k + 1) g)));
      }

  entry_is : (i : ℕ) → i < entries r.n → entry_right F r.tree r.bitfield r.content r.n r.size i ≡ true
  entry_is i l = split (filled r.n i) refl
    where
      known : (d k : ℕ) → filled r.n (index d k) ≡ true → entry_right F r.tree r.bitfield r.content r.n r.size (index d k) ≡ true
      known zero k h = says_leaf F r.tree r.content r.bitfield r.n r.size k h (leaf_is k (omega (arith, filled_end r.n zero k h, mul-one (k + 1))) h)
      known (suc d) k h = says_parent F r.tree r.content r.bitfield r.n r.size d k h (parent_is d k h)

      split : (f : Bool) → filled r.n i ≡ f → entry_right F r.tree r.bitfield r.content r.n r.size i ≡ true
      split true h = by_coordinates (λ j. filled r.n j ≡ true → entry_right F r.tree r.bitfield r.content r.n r.size j ≡ true) known i h
      split false h =
          says_hole F r.tree r.content r.bitfield r.n r.size i h
          (stored_entry_lem F hf ss w r b i l
          ∙ ap entry_bytes (entry_at_hole F (leaves F ss) i (ap (λ (n : ℕ). filled n i) (leaves_length F ss ∙ sym b.count) ∙ h)) ∙ hole_zeros)

  -- ---- the numbers 2 to 6

  passed_is : Signed r → Passed r
  unfolding tree_image bitfield_of used_tree used_bitfield
  passed_is s =
      record {
        count = subst (λ (n : ℕ). n ≤ most_chunks) (sym b.count) w.count;
        signed = s.count;
        tree = front_long r.tree (tree_image F ss) (used_tree r.n) b.tree (tree_image_length F hf ss w ∙ ap used_tree (sym b.count));
        signatures = s.long;
        bitfield = front_long r.bitfield (bitfield_image (held_in ss) r.n) (used_bitfield r.n) b.bitfield (bitfield_image_length (held_in ss) r.n);
        content = front_long r.content (data_image (contents ss)) r.size b.content (joined_length (contents ss) ∙ sym b.total);
        tree_front_lem = front_header_lem r.tree tree_header (tree_entries F (leaves F ss)) (used_tree r.n) b.tree tree_header_length (omega arith);
        signatures_front = s.front;
        bitfield_front = front_header_lem r.bitfield bitfield_header (entries_of (held_in ss) r.n) (used_bitfield r.n) b.bitfield bitfield_header_length (omega arith);
        adds = stored_total F hf ss w r b;
      }

  pub belongs_accepted : Signed r → Accepted F r
  belongs_accepted s =
      audited_accepted F r
      (record {
        checked = passed_is s;
        entry = entry_is;
        byte = λ i l h. sym (get_or-take (used_bitfield r.n) r.bitfield i 0 h) ∙ ap (λ (xs : List ℕ). get_or xs i 0)
            (b.bitfield ∙ image_ext (held_in ss) (held_bits r.bitfield r.n) r.n (held_bits_lem r.bitfield ss r.n b.count (stored_held_lem F ss r b)));
      })

-- ---- all chunks within the limits, held or released, have an accepted register: their images, and zeros for signatures

zeros_each : (i m k : ℕ) → Bytes (get_or (run (λ j. zeros 64) i m) k [])
unfolding run
zeros_each i zero k = λ j. omega arith
zeros_each i (suc m) zero = bytes_zeros 64
zeros_each i (suc m) (suc k) = zeros_each (suc i) m k

module _ (F : List ℕ → List ℕ) (ss : List Slot) where
  unfoldable pub register_of : Register
  register_of =
      record {
        tree = tree_image F ss;
        signatures = signatures_image (run (λ i. zeros 64) 0 (length ss));
        bitfield = bitfield_image (held_in ss) (length ss);
        content = data_image (contents ss);
        n = length ss;
        s = length ss;
        size = data_size (contents ss);
      }

  pub of_belongs : HashFunction F → Within ss → Belongs F register_of ss
  unfolding register_of
  of_belongs hf w =
      record {
        count = refl;
        total = refl;
        tree = take_all (used_tree (length ss)) (tree_image F ss) (omega (arith, tree_image_length F hf ss w));
        bitfield = take_all (used_bitfield (length ss)) (bitfield_image (held_in ss) (length ss)) (omega (arith, bitfield_image_length (held_in ss) (length ss)));
        content = take_all (data_size (contents ss)) (data_image (contents ss)) (omega (arith, joined_length (contents ss)));
      }

  pub of_signed : Signed register_of
  unfolding register_of signatures_image used_signatures
  of_signed =
      record {
        count = ap (λ (t : Bool). t || eqb (length ss + 1) (length ss)) (eq-eqb (length ss) (length ss) refl);
        long = omega (
          arith,
          length-append signatures_header (joined (run (λ i. zeros 64) 0 (length ss))),
          signatures_header_length,
          length_joined (λ i. zeros 64) 64 (λ j. length-replicate {A = ℕ} 64 0) 0 (length ss),
        );
        front = take_at signatures_header (joined (run (λ i. zeros 64) 0 (length ss))) 32 signatures_header_length;
      }

  of_lent : HashFunction F → Within ss → Lent register_of
  unfolding register_of
  of_lent hf w =
      record {
        tree = tree_image_bytes F hf ss w;
        signatures = signatures_image_bytes (run (λ i. zeros 64) 0 (length ss)) (zeros_each 0 (length ss));
        bitfield = bitfield_image_bytes (held_in ss) (length ss);
        content = data_image_bytes ss w;
      }

  pub has_register : HashFunction F → Within ss → (r : Register) × Lent r × Accepted F r × Belongs F r ss
  has_register hf w = (register_of, of_lent hf w, belongs_accepted F hf ss w register_of (of_belongs hf w) of_signed, of_belongs hf w)
