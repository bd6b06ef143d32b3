-- The bitfield file as the code judges it: byte by byte in an entry, and entry by entry.
-- Assumes nothing.
use Prim.Native.Nat.{ℕ, ◌+◌, ◌-◌, ◌*◌, ◌/◌, ◌≤◌, ◌<◌}
use mathlib.Core.Path.{◌≡◌, refl, sym, ap, ap₂, ◌∙◌}
use mathlib.Core.Bool.{Bool, true, false, cond, ◌&&◌}
use mathlib.Core.List.{List, ◌++◌}
use native.Mathlib.Nat.{add-zero, zero-add}
use native.Mathlib.Decide.{dec_lt}
use native.Mathlib.Omega.{arith}
use borrow.Author.Tests.{eq-eqb, ne_eqb, eqb-true}
use lib.ListN.{length, get_or, take, drop, get_or-append}
use lib.Seq.{ext_get_or}
use lib.Dec.{eqb}
use Rattle.answer_types.specs.Verdict.{Verdict, bitfield, done, refused, and_then}
use Rattle.byte_strings.specs.Lists.{part}
use Rattle.byte_strings.proofs.Lists.{get_or_behind, get_d_part, length_part, part_joined}
use Rattle.tree_index.specs.Tree.{filled, entries}
use Rattle.tree_index.proofs.Filled.{filled_below}
use Rattle.bitfield.specs.Bits.{byte_of}
use Rattle.bitfield.specs.Append.{bits_place}
use Rattle.bitfield.specs.Index.{index_bytes}
use Rattle.bitfield.specs.Known.{stored_known}
use Rattle.bitfield.specs.Image.{data_bytes, tree_bytes, entry, entry_count, entries_for}
use Rattle.bitfield.proofs.Bits.{get_or_bytes_of}
use Rattle.bitfield.proofs.Image.{length_data, length_tree, length_entry}
use Rattle.file_format.specs.Sizes.{used_bitfield}
use Rattle.file_format.specs.Headers.{bitfield_header}
use Rattle.file_format.proofs.OfImage.{bitfield_header_length}
use Rattle.audit.specs.Audit.{Lowest, lowest, held_bits, refused_at, byte_right, byte_right_by}
use Rattle.audit.specs.BitfieldEntries.{tree_bits, entry_with, BitsIn, AtBits}
use Rattle.audit.proofs.Search.{lowest_on, lowest_off, lowest_end, lowest_agree, search_parts}
use Rattle.file_format.specs.Images.{bitfield_of}

-- ---- the bytes of an entry

module _ (held known : ℕ → Bool) (e : ℕ) (ix : List ℕ) where
  pub with_data : (j : ℕ) → j < 1024 → byte_of held (8192 * e + 8 * j) ≡ get_or (entry_with held known e ix) j 0
  unfolding entry_with data_bytes
  with_data j h =
      sym (get_or-append (data_bytes held e) (tree_bytes known e ++ ix) 0 j (omega (arith, length_data held e))
      ∙ get_or_bytes_of held (8192 * e) 1024 j h)

  behind_data : (j : ℕ) → get_or (entry_with held known e ix) (1024 + j) 0 ≡ get_or (tree_bytes known e ++ ix) j 0
  unfolding entry_with
  behind_data j = get_or_behind (data_bytes held e) (tree_bytes known e ++ ix) 1024 j 0 (length_data held e)

  pub with_tree : (j : ℕ) → 1024 ≤ j → j < 3072 → byte_of known (16384 * e + 8 * (j - 1024)) ≡ get_or (entry_with held known e ix) j 0
  unfolding tree_bytes
  with_tree j h g =
      let k : ℕ = j - 1024 in
      let q : 1024 + k ≡ j = omega arith in
      sym (ap (λ (x : ℕ). get_or (entry_with held known e ix) x 0) (sym q) ∙ behind_data k
      ∙ get_or-append (tree_bytes known e) ix 0 k (omega (arith, length_tree known e))
      ∙ get_or_bytes_of known (16384 * e) 2048 k (omega arith))

  pub with_index : (j : ℕ) → 3072 ≤ j → get_or ix (j - 3072) 0 ≡ get_or (entry_with held known e ix) j 0
  with_index j h =
      let k : ℕ = j - 3072 in
      let q : 1024 + (2048 + k) ≡ j = omega arith in
      sym (ap (λ (x : ℕ). get_or (entry_with held known e ix) x 0) (sym q) ∙ behind_data (2048 + k)
      ∙ get_or_behind (tree_bytes known e) ix 2048 k 0 (length_tree known e))

-- entries that differ in their Index bytes are the same before them
with_before : (held known : ℕ → Bool) (e : ℕ) (ix iy : List ℕ) (j : ℕ) → j < 3072 → get_or (entry_with held known e ix) j 0 ≡ get_or (entry_with held known e iy) j 0
with_before held known e ix iy j h = elim (dec_lt j 1024) [
  | yes l ↦ sym (with_data held known e ix j l) ∙ with_data held known e iy j l
  | no l ↦ sym (with_tree held known e ix j (omega arith) h) ∙ with_tree held known e iy j (omega arith) h
]

-- ---- the image's bytes

image_byte : (held known : ℕ → Bool) (n e j : ℕ) → e < entry_count n → j < 3328
    → get_or (bitfield_of held known n) (32 + 3328 * e + j) 0 ≡ get_or (entry_with held known e (index_bytes (data_bytes held e))) j 0
unfolding entry entry_with bitfield_of entries_for
image_byte held known n e j h g =
    let q : 32 + 3328 * e + j ≡ 32 + (e * 3328 + j) = omega arith in
    ap (λ (x : ℕ). get_or (bitfield_of held known n) x 0) q
    ∙ get_or_behind bitfield_header (entries_for held known n) 32 (e * 3328 + j) 0 bitfield_header_length
    ∙ sym (get_d_part (entries_for held known n) (e * 3328) 3328 j 0 g)
    ∙ ap (λ (xs : List ℕ). get_or xs j 0)
    (part_joined (entry held known) 3328 (length_entry held known) 0 (entry_count n) e h
    ∙ ap (entry held known) (zero-add e))

-- a register's tree bits are those of its filled entries
pub whole_right : (xs : List ℕ) (n : ℕ) → byte_right_by (tree_bits false xs n) xs n ≡ byte_right xs n
unfolding byte_right_by bitfield_of entries_for tree_bits
whole_right xs n = refl

-- ---- which tree bits are to be 1

cond_same : (b x : Bool) → cond b x x ≡ x
cond_same true x = refl
cond_same false x = refl

module _ (partly : Bool) (xs : List ℕ) (n i : ℕ) where
  pub bits_hole : filled n i ≡ false → false ≡ tree_bits partly xs n i
  unfolding tree_bits
  bits_hole f = sym (ap (λ (b : Bool). cond partly (b && stored_known xs i) b) f ∙ cond_same partly false)

  module _ (f : filled n i ≡ true) where
    pub bits_whole : partly ≡ false → true ≡ tree_bits partly xs n i
    unfolding tree_bits
    bits_whole p = sym (ap₂ (λ (a b : Bool). cond a (b && stored_known xs i) b) p f)

    pub bits_partly : partly ≡ true → (r : Bool) → r ≡ stored_known xs i → r ≡ tree_bits partly xs n i
    unfolding tree_bits
    bits_partly p r e = e ∙ sym (ap₂ (λ (a b : Bool). cond a (b && stored_known xs i) b) p f)

-- where those of filled entries lie

pub tree_bit : (bits : List ℕ) (n i : ℕ) → BitsIn bits n → filled n i ≡ true → bits_place (i / 16384 + 1) ≤ length bits
unfolding used_bitfield bits_place entry_count entries
tree_bit bits n i b f = omega (arith, b.inside, filled_below n i f)

-- ---- an entry judged by the Index of its stored data bytes

-- an entry of the file is one of few, and lies within it
pub entry_room : {xs : List ℕ} {n e : ℕ} → AtBits xs n e → (e < 128) × (32 + 3328 * e + 3328 ≤ length xs)
unfolding used_bitfield entry_count
entry_room w = (omega (arith, w.entry, w.file.count), omega (arith, w.entry, w.file.inside))

-- the same from where the entry begins
pub entry_within : {xs : List ℕ} {n e at : ℕ} → AtBits xs n e → at ≡ 32 + 3328 * e → (at < 1048576) × (at + 3328 ≤ length xs)
entry_within w p = let room = entry_room w in (omega (arith, room.0, p), omega (arith, room.1, p))

pub part_long : (xs : List ℕ) (at m : ℕ) → at + 1024 ≤ length xs → m ≡ 1024 → length (take m (drop at xs)) ≡ 1024
unfolding part
part_long xs at m h e = ap (λ (k : ℕ). length (take k (drop at xs))) e ∙ length_part xs at 1024 h

pub index_by : (xs : List ℕ) (e m : ℕ) {at : ℕ} {r : List ℕ} → at ≡ 32 + 3328 * e → r ≡ index_bytes (take m (drop at xs)) → m ≡ 1024
    → r ≡ index_bytes (part xs (32 + 3328 * e) 1024)
unfolding part
index_by xs e m p q h = q ∙ ap₂ (λ (k b : ℕ). index_bytes (take k (drop b xs))) h p

-- the test that the code makes of the byte at place b of the file
abbrev pub by_stored : (ℕ → Bool) → List ℕ → ℕ → ℕ → ℕ → Bool
by_stored known xs n e b = eqb (get_or xs b 0) (get_or (entry_with (held_bits xs n) known e (index_bytes (part xs (32 + 3328 * e) 1024))) (b - (32 + 3328 * e)) 0)

module _ (known : ℕ → Bool) (xs : List ℕ) (n e : ℕ) (w : AtBits xs n e) where
  abbrev at : ℕ
  at = 32 + 3328 * e

  -- where all data bytes are right, they are the image's
  data_right : ((m : ℕ) → at ≤ m → m < at + 1024 → byte_right_by known xs n m ≡ true) → part xs at 1024 ≡ data_bytes (held_bits xs n) e
  unfolding byte_right_by entry_with
  data_right h =
      let long : length (part xs at 1024) ≡ 1024 = length_part xs at 1024 (omega (arith, (entry_room w).1)) in
      ext_get_or 0 (part xs at 1024) (data_bytes (held_bits xs n) e) (long ∙ sym (length_data (held_bits xs n) e))
      (λ j l. get_d_part xs at 1024 j 0 (omega (arith, long))
      ∙ eqb-true (get_or xs (at + j) 0) (get_or (bitfield_of (held_bits xs n) known n) (at + j) 0) (h (at + j) (omega arith) (omega (arith, long)))
      ∙ image_byte (held_bits xs n) known n e j w.entry (omega (arith, long))
      ∙ get_or-append (data_bytes (held_bits xs n) e) (tree_bytes known e ++ index_bytes (data_bytes (held_bits xs n) e)) 0 j
      (omega (arith, long, length_data (held_bits xs n) e)))

  -- the code's test and the definition's find the same byte
  agree : (b : ℕ) → at ≤ b → b < at + 3328 → ((m : ℕ) → at ≤ m → m < b → byte_right_by known xs n m ≡ true) → by_stored known xs n e b ≡ byte_right_by known xs n b
  unfolding byte_right_by
  agree b l h before =
      let j : ℕ = b - at in
      let q : at + j ≡ b = omega arith in
      let own : get_or (bitfield_of (held_bits xs n) known n) b 0 ≡ get_or (entry_with (held_bits xs n) known e (index_bytes (data_bytes (held_bits xs n) e))) j 0 =
      ap (λ (x : ℕ). get_or (bitfield_of (held_bits xs n) known n) x 0) (sym q) ∙ image_byte (held_bits xs n) known n e j w.entry (omega arith) in
      ap (λ (y : ℕ). eqb (get_or xs b 0) y)
      (elim (dec_lt j 3072) [
        | yes f ↦ with_before (held_bits xs n) known e (index_bytes (part xs at 1024)) (index_bytes (data_bytes (held_bits xs n) e)) j f
        | no f ↦ ap (λ (d : List ℕ). get_or (entry_with (held_bits xs n) known e (index_bytes d)) j 0) (data_right (λ m s t. before m s (omega arith)))
      ] ∙ sym own)

  pub entry_agrees : lowest (by_stored known xs n e) at 3328 ≡ lowest (byte_right_by known xs n) at 3328
  entry_agrees = lowest_agree (by_stored known xs n e) (byte_right_by known xs n) at 3328 agree

-- ---- the walk over the bytes of an entry

-- at the byte j of entry e: what is left from there decides
pub record Passing (known : ℕ → Bool) (xs : List ℕ) (n e at j : ℕ) (index : List ℕ) : Type 0 where
  pub place : at ≡ 32 + 3328 * e
  pub below : j ≤ 3328
  pub by : index ≡ index_bytes (part xs (32 + 3328 * e) 1024)
  pub rest : lowest (by_stored known xs n e) at 3328 ≡ lowest (by_stored known xs n e) (at + j) (at + 3328 - (at + j))

module _ {known : ℕ → Bool} {xs : List ℕ} {n e at : ℕ} {index : List ℕ} where
  pub passing_start : at ≡ 32 + 3328 * e → index ≡ index_bytes (part xs (32 + 3328 * e) 1024) → Passing known xs n e at 0 index
  passing_start p i =
      record {
        place = p;
        below = omega arith;
        by = i;
        rest = ap₂ (lowest (by_stored known xs n e)) (sym (add-zero at)) (omega arith);
      }

  module _ {j : ℕ} (w : Passing known xs n e at j index) where
    -- what the code compares
    tested : (b : Bool) → eqb (get_or xs (at + j) 0) (get_or (entry_with (held_bits xs n) known e index) j 0) ≡ b → by_stored known xs n e (at + j) ≡ b
    tested b h =
        (λ i. eqb (get_or xs (at + j) 0) (get_or (entry_with (held_bits xs n) known e (sym w.by i)) (k i) 0)) ∙ h
      where
        k : at + j - (32 + 3328 * e) ≡ j
        k = omega (arith, w.place)

    pub passing_next : j < 3328 → get_or xs (at + j) 0 ≡ get_or (entry_with (held_bits xs n) known e index) j 0 → Passing known xs n e at (j + 1) index
    passing_next h r =
        let q : at + j + 1 ≡ at + (j + 1) = omega arith in
        record {
          place = w.place;
          below = omega arith;
          by = w.by;
          rest = w.rest ∙ lowest_on (by_stored known xs n e) (at + j) (at + 3328) (omega arith) (tested true (eq-eqb _ _ r))
              ∙ ap (λ (x : ℕ). lowest (by_stored known xs n e) x (at + 3328 - x)) q;
        }

    module _ (b : AtBits xs n e) where
      agreed : lowest (byte_right_by known xs n) (32 + 3328 * e) 3328 ≡ lowest (by_stored known xs n e) (at + j) (at + 3328 - (at + j))
      agreed = sym (entry_agrees known xs n e b) ∙ ap (λ (x : ℕ). lowest (by_stored known xs n e) x 3328) (sym w.place) ∙ w.rest

      pub passing_found : {v : Verdict} → j < 3328 → (get_or xs (at + j) 0 ≡ get_or (entry_with (held_bits xs n) known e index) j 0 → ⊥) → v ≡ refused 11 (bitfield (at + j))
          → v ≡ refused_at 11 bitfield (lowest (byte_right_by known xs n) (32 + 3328 * e) 3328) done
      unfolding refused_at
      passing_found h r q =
          q ∙ ap (λ (l : Lowest). refused_at 11 bitfield l done)
          (sym (agreed ∙ lowest_off (by_stored known xs n e) (at + j) (at + 3328) (omega arith) (tested false (ne_eqb _ _ r))))

      pub passing_done : 3328 ≤ j → done ≡ refused_at 11 bitfield (lowest (byte_right_by known xs n) (32 + 3328 * e) 3328) done
      unfolding refused_at
      passing_done h =
          ap (λ (l : Lowest). refused_at 11 bitfield l done)
          (sym (agreed ∙ lowest_end (by_stored known xs n e) (at + j) (at + 3328) (omega arith)))

-- ---- the walk over the entries

module _ (known : ℕ → Bool) (xs : List ℕ) (n : ℕ) where
  -- what is found from entry e on
  abbrev pub from_entry : ℕ → ℕ → Verdict
  from_entry e k = refused_at 11 bitfield (lowest (byte_right_by known xs n) (32 + 3328 * e) (3328 * k)) done

  abbrev pub whole : Verdict
  whole = refused_at 11 bitfield (lowest (byte_right_by known xs n) 32 (used_bitfield n - 32)) done

  -- at the entry e of those from `from` on and before `end`: what is left from there decides
  pub record Entering (from end e : ℕ) : Type 0 where
    pub rest : from_entry from (end - from) ≡ from_entry e (end - e)

  -- all entries
  pub entering_all : {v : Verdict} {end : ℕ} → end ≡ entry_count n → v ≡ from_entry 0 (end - 0) → v ≡ whole
  unfolding used_bitfield
  entering_all q e =
      e ∙ ap (λ (k : ℕ). refused_at 11 bitfield (lowest (byte_right_by known xs n) 32 k) done) (omega arith)

module _ {known : ℕ → Bool} {xs : List ℕ} {n : ℕ} where
  pub entering_start : {from end : ℕ} → Entering known xs n from end from
  entering_start = record { rest = refl }

  module _ {from count e : ℕ} (w : Entering known xs n from count e) where
    -- what is found from entry e on, and in one entry
    abbrev found : ℕ → ℕ → Verdict
    found = from_entry known xs n

    abbrev here : Verdict
    here = refused_at 11 bitfield (lowest (byte_right_by known xs n) (32 + 3328 * e) 3328) done

    pub entering_entry : BitsIn xs n → count ≤ entry_count n → e < count → AtBits xs n e
    entering_entry p k h = record { file = p; entry = omega arith }

    one_entry : e < count → found from (count - from) ≡ and_then here (found (e + 1) (count - (e + 1)))
    one_entry h =
        let k : 3328 * (count - e) ≡ 3328 + 3328 * (count - (e + 1)) = omega arith in
        let p : 32 + 3328 * e + 3328 ≡ 32 + 3328 * (e + 1) = omega arith in
        w.rest
        ∙ ap (λ (x : ℕ). refused_at 11 bitfield (lowest (byte_right_by known xs n) (32 + 3328 * e) x) done) k
        ∙ search_parts (byte_right_by known xs n) 11 bitfield (32 + 3328 * e) 3328 (3328 * (count - (e + 1)))
        ∙ ap (λ (x : ℕ). and_then here (refused_at 11 bitfield (lowest (byte_right_by known xs n) x (3328 * (count - (e + 1)))) done)) p

    -- the verdict on one entry, and what it makes of the whole
    pub entering_next : {v : Verdict} → e < count → v ≡ here → v ≡ done → Entering known xs n from count (e + 1)
    entering_next h q d = record { rest = one_entry h ∙ ap (λ (x : Verdict). and_then x (found (e + 1) (count - (e + 1)))) (sym q ∙ d) }

    pub entering_found : {v : Verdict} → e < count → v ≡ here → ((next : Verdict) → and_then v next ≡ v) → v ≡ found from (count - from)
    entering_found h q stop =
        sym (one_entry h ∙ ap (λ (x : Verdict). and_then x (found (e + 1) (count - (e + 1)))) (sym q) ∙ stop (found (e + 1) (count - (e + 1))))

    pub entering_done : count ≤ e → done ≡ found from (count - from)
    unfolding lowest refused_at
    entering_done h =
        let k : 3328 * (count - e) ≡ 0 = omega arith in
        sym (w.rest ∙ ap (λ (x : ℕ). refused_at 11 bitfield (lowest (byte_right_by known xs n) (32 + 3328 * e) x) done) k)
