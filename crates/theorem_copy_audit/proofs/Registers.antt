-- A register that its audit accepts is accepted as a copy, and the other way where its signatures pass and every entry but the holes is known.
-- Assumes nothing.
use Prim.Native.Nat.{ℕ, zero, suc, ◌+◌, ◌*◌, ◌≤◌, ◌<◌}
use mathlib.Core.Path.{◌≡◌, refl, sym, ap, ap₂, ◌∙◌, subst}
use mathlib.Core.Bool.{Bool, true, false, ◌&&◌}
use mathlib.Core.List.{List, [], ◌++◌}
use native.Mathlib.Nat.{mul-one}
use native.Mathlib.Omega.{arith}
use borrow.Author.Tests.{leb-true, le-leb, eqb-true, eq-eqb}
use lib.ListN.{length, get_or, take, drop}
use lib.Seq.{take-add, get_or-take}
use Rattle.answer_types.specs.Verdict.{done}
use Rattle.byte_strings.specs.Lists.{part, joined, total, all_zero, zeros}
use Rattle.byte_strings.specs.Lowest.{Lowest}
use Rattle.byte_strings.proofs.Lists.{length_part, run_ext, same_eq, same_of}
use Rattle.byte_strings.proofs.Bools.{clash}
use Rattle.tree_index.specs.Tree.{index, filled, entries}
use Rattle.tree_index.proofs.Index.{by_coordinates}
use Rattle.tree_index.proofs.Filled.{filled_below, filled_end, filled_left, filled_right}
use Rattle.bitfield.specs.Release.{stored_held}
use Rattle.bitfield.specs.Known.{stored_known}
use Rattle.bitfield.specs.Image.{entry, entry_count, entries_for, entries_of}
use Rattle.bitfield.proofs.Image.{entry_ext, length_entries}
use Rattle.file_format.specs.Headers.{bitfield_header}
use Rattle.file_format.specs.Sizes.{most_chunks, used_bitfield}
use Rattle.file_format.specs.Messages.{leaf_message}
use Rattle.file_format.specs.Stored.{stored_size, stored_start, stored_chunk, stored_root_sizes}
use Rattle.file_format.specs.Belongs.{Register}
use Rattle.checks.specs.Checks.{adds_up}
use Rattle.checks.proofs.Passed.{Passed}
use Rattle.audit.specs.Audit.{held_bits, entry_right, Accepted}
use Rattle.audit.proofs.Audited.{LeafRight, ParentRight, Audited, audited_accepted, leaf_says_lem, says_leaf, parent_says, says_parent, hole_says, says_hole, all_zero_lem, zeros_zero}
use Rattle.lookup.specs.Descent.{reached, unknown, always, chunk_within, descent}
use Rattle.lookup.specs.Lookup.{found, to_chunk, place_in}
use Rattle.lookup.proofs.Lookups.{place_reaches, one_start}
use Rattle.short_lookup.specs.Theorems.{LeavesFit, LengthsRight}
use Rattle.short_lookup.proofs.Walks.{place_there}
use Rattle.short_lookup.proofs.Answers.{fits_right, place_at}
use Rattle.short_lookup.proofs.Agree.{agree_in}
use Rattle.short_lookup.proofs.Accepted.{entries_cut}
use Rattle.copy_checks.specs.Copy.{Copy, known, lent_as_copy}
use Rattle.copy_checks.specs.Descents.{copy_to_chunk}
use Rattle.copy_checks.specs.Checks.{unknown_root, passed_over}
use Rattle.copy_checks.proofs.Steps.{Lent, partly_passed, partly_passes}
use Rattle.copy_checks.proofs.Descents.{chunk_same}
use Rattle.copy_audit.specs.Audit.{known_bits}
use Rattle.file_format.proofs.Shown.{used_shown, shown_known}
use Rattle.theorem_copies_agree.specs.Theorems.{AllKnown}
use Rattle.theorem_copies_agree.proofs.Known.{root_known, chunk_known}
use Rattle.theorem_copy_audit.specs.Theorems.{leaf_data, LeafSound, ParentSound, Sound, SignaturesPass}
use Rattle.theorem_copy_audit.proofs.Sound.{bits_are, passed_too, comes_to, leaf_filled}
use Rattle.file_format.specs.Images.{bitfield_image, bitfield_of}

-- ---- where every length is right a chunk begins at the sum of the leaf lengths before it

module _ (t : List ℕ) (n : ℕ) (few : n ≤ most_chunks) (right : LengthsRight t n) (k : ℕ) (below : k < n) where
  told : place_in always t n k ≡ found (stored_start t k) (stored_size t (index 0 k))
  unfolding LengthsRight LeavesFit
  told =
      let fit : LeavesFit t (k + 1) = λ j h. right 0 j (filled_at j (omega arith)) in
      sym ((agree_in t n (total (stored_root_sizes t n)) few refl right).place k) ∙ sym (place_at always t k (fits_right t (k + 1) fit) ∙ place_there always t n k below)
    where
      filled_at : (j : ℕ) → j < n → filled n (index 0 j) ≡ true
      filled_at j h = leaf_filled (λ l. l) (record { tree = t; bitfield = []; content = []; n = n; size = 0 }) j h

  pub comes_at : descent always (chunk_within k) t n ≡ reached k (stored_start t k)
  comes_at =
      let q = place_reaches always t n k told in
      q.comes ∙ ap (λ (j : ℕ). reached j (stored_start t k)) (comes_to always t n k q.chunk (stored_start t k) few below q.comes)

-- ---- the bitfield file of a register

module _ (r : Register) where
  abbrev c : Copy
  c = lent_as_copy r

  abbrev held_of : ℕ → Bool
  held_of = held_bits r.bitfield r.n

  abbrev known_of : ℕ → Bool
  known_of = known_bits r.bitfield r.n

  image_used : Passed r → ((b : ℕ) → 32 ≤ b → b < used_bitfield r.n → get_or r.bitfield b 0 ≡ get_or (bitfield_image held_of r.n) b 0)
      → take (used_bitfield r.n) r.bitfield ≡ bitfield_header ++ entries_of held_of r.n
  unfolding used_bitfield bitfield_of part
  image_used p same =
      let m : ℕ = 3328 * entry_count r.n in
      take-add 32 m r.bitfield
      ∙ ap₂ ◌++◌ p.bitfield_front (entries_cut r.bitfield (entries_of held_of r.n) m p.bitfield (length_entries held_of r.n) same)

  -- every entry but the holes is known
  image_known : take (used_bitfield r.n) r.bitfield ≡ bitfield_header ++ entries_of held_of r.n → AllKnown c
  unfolding AllKnown entries entry_count
  image_known e i h f =
      ap (λ (l : List ℕ). stored_known l i) (used_shown r.bitfield held_of (filled r.n) r.n e)
      ∙ shown_known held_of (filled r.n) r.n (drop (used_bitfield r.n) r.bitfield) i (omega arith) ∙ f

  -- which are those whose tree bits are 1
  known_filled : AllKnown c → (i : ℕ) → known_of i ≡ filled r.n i
  unfolding AllKnown known_bits
  known_filled all i = pick (filled r.n i) refl
    where
      pick : (b : Bool) → filled r.n i ≡ b → (b && stored_known r.bitfield i) ≡ b
      pick true f = all i (filled_below r.n i f) f
      pick false f = refl

  images_same : AllKnown c → bitfield_of held_of known_of r.n ≡ bitfield_header ++ entries_of held_of r.n
  unfolding bitfield_of entries_for
  images_same all =
      ap (λ (l : List (List ℕ)). bitfield_header ++ joined l)
      (run_ext (entry held_of known_of) (entry held_of (filled r.n)) 0 (entry_count r.n) (λ e a b. entry_ext held_of held_of known_of (filled r.n) (λ j. refl) (known_filled all) e))

-- ---- an accepted register

module _ (F : List ℕ → List ℕ) (r : Register) (a : Audited F r) where
  abbrev t : List ℕ
  t = r.tree

  leaf_of : (k : ℕ) → k < r.n → LeafRight F t r.content r.size (stored_held r.bitfield k) k
  leaf_of k h =
      let f = leaf_filled F (lent_as_copy r) k h in
      leaf_says_lem F t r.content r.bitfield r.n r.size k f (a.entry (index 0 k) (filled_below r.n (index 0 k) f))

  parent_of : (d k : ℕ) → filled r.n (index (suc d) k) ≡ true → ParentRight F t r.content (index (suc d) k) (index d (2 * k)) (index d (2 * k + 1))
  parent_of d k f =
      parent_says F t r.content r.bitfield r.n r.size d k f (a.entry (index (suc d) k) (filled_below r.n (index (suc d) k) f))

  lengths : LengthsRight t r.n
  unfolding LengthsRight index
  lengths zero k f = (leaf_of k (omega (arith, mul-one (k + 1), filled_end r.n 0 k f))).short
  lengths (suc d) k f = (parent_of d k f).sum

  used : take (used_bitfield r.n) r.bitfield ≡ bitfield_header ++ entries_of (held_bits r.bitfield r.n) r.n
  used = image_used r a.checked a.byte

  pub all_known : AllKnown (lent_as_copy r)
  all_known = image_known r used

  comes : (k : ℕ) → k < r.n → copy_to_chunk (lent_as_copy r) k ≡ reached k (stored_start t k)
  unfolding to_chunk
  comes k h = chunk_same (lent_as_copy r) k (chunk_known (lent_as_copy r) all_known k) ∙ comes_at t r.n a.checked.count lengths k h

  lent_leaf : (k : ℕ) → k < r.n → LeafSound F (lent_as_copy r) k
  unfolding index stored_chunk
  lent_leaf k h =
      let l = leaf_of k h in
      record {
        start = stored_start t k;
        comes = comes k h;
        short = l.short;
        inside = l.inside;
        held = l.hash;
        released = λ e.
            let room : stored_start t k + stored_size t (2 * k) ≤ length r.content = omega (arith, l.inside, a.checked.content) in
            all_zero_lem (stored_chunk t r.content k) (l.cleared e)
            ∙ ap zeros (length_part r.content (stored_start t k) (stored_size t (2 * k)) room);
      }

  lent_lent : Lent (lent_as_copy r)
  lent_lent =
      let p = a.checked in
      record {
        count = p.count;
        tree = p.tree;
        bitfield = p.bitfield;
        content = p.content;
        tree_front_lem = p.tree_front_lem;
        bitfield_front = p.bitfield_front;
      }

  adds_up_lem : adds_up t r.n r.size ≡ true
  unfolding adds_up
  adds_up_lem = eq-eqb (total (stored_root_sizes t r.n)) r.size a.checked.adds

  known_all : (i : ℕ) → filled r.n i ≡ true → known (lent_as_copy r) i ≡ true
  unfolding AllKnown
  known_all i f = all_known i (filled_below r.n i f) f

  pub lent_sound : Sound F (lent_as_copy r)
  lent_sound =
      record {
        checks = partly_passes (lent_as_copy r) done lent_lent (passed_too (unknown_root (lent_as_copy r)) (adds_up t r.n r.size) adds_up_lem);
        hole = λ i h f. hole_says F t r.content r.bitfield r.n r.size i f (a.entry i h);
        unknown = λ i f e. clash (known (lent_as_copy r) i) (known_all i f) e;
        held_known = λ k h e. known_all (index 0 k) (leaf_filled F (lent_as_copy r) k h);
        leaf = λ k h e. lent_leaf k h;
        parent = λ d k f e l m. let p = parent_of d k f in record { size = p.sum; hash = p.hash };
        bits = used ∙ sym (images_same r all_known) ∙ bits_are (lent_as_copy r);
      }

  pub lent_signed : SignaturesPass r
  lent_signed =
      let p = a.checked in
      record { count = p.signed; long = le-leb _ _ p.signatures; front = same_of _ _ p.signatures_front }

-- ---- and the other way

module _ (F : List ℕ → List ℕ) (r : Register) (s : Sound F (lent_as_copy r)) (all : AllKnown (lent_as_copy r)) (g : SignaturesPass r) where
  abbrev u : List ℕ
  u = r.tree

  lent : Lent (lent_as_copy r)
  lent = (partly_passed (lent_as_copy r) done s.checks).0

  adds : total (stored_root_sizes u r.n) ≡ r.size
  unfolding adds_up
  adds =
      eqb-true (total (stored_root_sizes u r.n)) r.size
      (sym (ap (λ (l : Lowest). passed_over l (adds_up u r.n r.size)) (root_known (lent_as_copy r) all)) ∙ (partly_passed (lent_as_copy r) done s.checks).1.0)

  passed : Passed r
  passed =
      record {
        count = lent.count;
        signed = g.count;
        tree = lent.tree;
        signatures = leb-true _ _ g.long;
        bitfield = lent.bitfield;
        content = lent.content;
        tree_front_lem = lent.tree_front_lem;
        signatures_front = same_eq _ _ g.front;
        bitfield_front = lent.bitfield_front;
        adds = adds;
      }

  knows : (i : ℕ) → filled r.n i ≡ true → known (lent_as_copy r) i ≡ true
  unfolding AllKnown
  knows i f = all i (filled_below r.n i f) f

  leaf_at : (k : ℕ) → filled r.n (index 0 k) ≡ true → LeafSound F (lent_as_copy r) k
  leaf_at k f = s.leaf k (omega (arith, mul-one (k + 1), filled_end r.n 0 k f)) (knows (index 0 k) f)

  parent_at : (d k : ℕ) → filled r.n (index (suc d) k) ≡ true → ParentSound F u d k
  parent_at d k f =
      s.parent d k f (knows (index (suc d) k) f) (knows (index d (2 * k)) (filled_left r.n d k f)) (knows (index d (2 * k + 1)) (filled_right r.n d k f))

  sizes : LengthsRight u r.n
  unfolding LengthsRight
  sizes zero k f = (leaf_at k f).short
  sizes (suc d) k f = (parent_at d k f).size

  starts : (k : ℕ) → k < r.n → (l : LeafSound F (lent_as_copy r) k) → l.start ≡ stored_start u k
  unfolding to_chunk
  starts k h l = one_start (sym l.comes ∙ chunk_same (lent_as_copy r) k (chunk_known (lent_as_copy r) all k) ∙ comes_at u r.n lent.count sizes k h)

  right_leaf : (k : ℕ) → filled r.n (index 0 k) ≡ true → LeafRight F u r.content r.size (stored_held r.bitfield k) k
  unfolding index stored_chunk
  right_leaf k f =
      let l = leaf_at k f in
      let e : l.start ≡ stored_start u k = starts k (omega (arith, mul-one (k + 1), filled_end r.n 0 k f)) l in
      let same : leaf_data (lent_as_copy r) k l.start ≡ stored_chunk u r.content k = ap (λ (x : ℕ). part r.content x (stored_size u (2 * k))) e in
      record {
        short = l.short;
        inside = subst (λ (x : ℕ). x + stored_size u (2 * k) ≤ r.size) e l.inside;
        hash = λ h. l.held h ∙ ap (λ (x : List ℕ). F (leaf_message x)) same;
        cleared = λ h. ap all_zero (sym same ∙ l.released h) ∙ zeros_zero (stored_size u (2 * k));
      }

  right_entry : (i : ℕ) → i < entries r.n → entry_right F u r.bitfield r.content r.n r.size i ≡ true
  right_entry =
      by_coordinates (λ i. i < entries r.n → entry_right F u r.bitfield r.content r.n r.size i ≡ true)
      (λ d k h. pick d k h (filled r.n (index d k)) refl)
    where
      pick : (d k : ℕ) → index d k < entries r.n → (b : Bool) → filled r.n (index d k) ≡ b
          → entry_right F u r.bitfield r.content r.n r.size (index d k) ≡ true
      pick d k h false f = says_hole F u r.content r.bitfield r.n r.size (index d k) f (s.hole (index d k) h f)
      pick zero k h true f = says_leaf F u r.content r.bitfield r.n r.size k f (right_leaf k f)
      pick (suc d) k h true f =
          let p = parent_at d k f in
          says_parent F u r.content r.bitfield r.n r.size d k f (record { sum = p.size; hash = p.hash })

  right_byte : (b : ℕ) → 32 ≤ b → b < used_bitfield r.n → get_or r.bitfield b 0 ≡ get_or (bitfield_image (held_bits r.bitfield r.n) r.n) b 0
  unfolding bitfield_of
  right_byte b l h =
      sym (get_or-take (used_bitfield r.n) r.bitfield b 0 h) ∙ ap (λ (x : List ℕ). get_or x b 0) (s.bits ∙ sym (bits_are (lent_as_copy r)) ∙ images_same r all)

  pub sound_register : Accepted F r
  sound_register = audited_accepted F r (record { checked = passed; entry = right_entry; byte = right_byte })
