-- All calls: copies that have the same known entries differ in their tree files alone. Assumes nothing.
use Prim.Native.Nat.{ℕ}
use mathlib.Core.Path.{◌≡◌, refl, sym, ap, ap₂, ◌∙◌, subst}
use mathlib.Core.List.{List}
use Rattle.answer_types.specs.Verdict.{Verdict, done}
use Rattle.record_find.specs.ChunkRecords.{header_after, node_after}
use Rattle.release.specs.Release.{bytes_cleared, released_register}
use Rattle.release.proofs.Bits.{bit_room}
use Rattle.copy_checks.specs.Copy.{Copy}
use Rattle.copy_checks.specs.Checks.{copy_judged}
use Rattle.copy_release.specs.Release.{copy_release_verdict, released_copy}
use Rattle.copy_lookup.specs.Reading.{copy_read_verdict, copy_read_part}
use Rattle.copy_records.specs.Records.{copy_find}
use Rattle.theorem_used_bytes.proofs.Records.{find_same}
use Rattle.theorem_copy_reads.specs.Theorems.{SameKnown, KnownAlone, KnownAloneForAll}
use Rattle.theorem_copy_reads.proofs.Checks.{Agreed, one, two, copy_same}
use Rattle.theorem_copy_reads.proofs.Lookups.{held_reached, place_same, held_place_same, byte_same, lies_same, read_says_lem, read_same, read_finds_lem}
use Rattle.theorem_copy_reads.proofs.Short.{short_place_same, short_byte_same}
use Rattle.theorem_copy_reads.proofs.Roots.{root_says_lem, root_same_lem, old_says_lem, old_same, search_same, short_search_same}
use Rattle.theorem_copy_reads.proofs.Packets.{make_says_lem, after_same, made_length_same, release_says}
use Rattle.theorem_copy_reads.proofs.Leaves.{leaf_says_lem, leaf_hashes_lem, leaf_lengths_lem}
use Rattle.theorem_copy_reads.proofs.Released.{known_released}
use Rattle.theorem_copy_reads.proofs.Taking.{take_says, taken_same, written_same}

module _ (t u bits : List ℕ) (n : ℕ) (g : Agreed t u bits n) (content : List ℕ) (size : ℕ) (F : List ℕ → List ℕ) where
  abbrev a : Copy
  a = one t u bits n g content size

  abbrev b : Copy
  b = two t u bits n g content size

  -- what is told of a chunk follows from its read alone, and what is found from that, the checks and n
  told_same : {A : Type 0} (told : Verdict → List ℕ → A) (i : ℕ)
      → told (copy_read_verdict F a i) (copy_read_part F a i) ≡ told (copy_read_verdict F b i) (copy_read_part F b i)
  told_same told i = ap₂ told (read_says_lem t u bits n g content size i F) (read_same t u bits n g content size i F)

  found_same : (path : List ℕ) → copy_find F a path ≡ copy_find F b path
  found_same path =
      find_same (copy_read_verdict F a) (copy_read_verdict F b) (copy_read_part F a) (copy_read_part F b) (λ i. read_says_lem t u bits n g content size i F)
      (λ i. read_same t u bits n g content size i F) (copy_judged a done) (copy_judged b done) (copy_same t u bits n g content size done) n path

  -- a release leaves the tree bits, and the entries that they make known
  released_same : (i : ℕ) → copy_release_verdict a i ≡ done → SameKnown (released_copy a i) (released_copy b i)
  unfolding copy_release_verdict released_copy released_register
  released_same i e =
      let r = held_reached a i e in
      record {
        n = refl;
        size = refl;
        bitfield = refl;
        content = ap (bytes_cleared content) (lies_same t u bits n g content size i e);
        long = g.long;
        header = g.header;
        entries = λ j f k. g.entries j f (sym (known_released bits i (bit_room bits n i r.knows.lent.bitfield r.chunk.below) j) ∙ k);
      }

  both : KnownAlone F a b
  both =
      record {
        reads =
            record {
              place = place_same t u bits n g content size;
              held_place = held_place_same t u bits n g content size;
              byte = byte_same t u bits n g content size;
              read_says = λ i. read_says_lem t u bits n g content size i F;
              read = λ i. read_same t u bits n g content size i F;
              read_finds = λ i. read_finds_lem t u bits n g content size i F;
              short_place = short_place_same t u bits n g content size;
              short_byte = short_byte_same t u bits n g content size;
              short_search = short_search_same t u bits n g content size;
              search = search_same t u bits n g content size;
              root_says = root_says_lem t u bits n g content size;
              root = root_same_lem t u bits n g content size F;
              old_says = old_says_lem t u bits n g content size;
              old = λ m. old_same t u bits n g content size m F;
              make_says = λ i. make_says_lem t u bits n g content size i F;
              make_length = λ i. made_length_same t u bits n g content size i F;
              packet = λ i. after_same t u bits n g content size i F;
              headed = λ i. told_same (λ v d. header_after v d i) i;
              node = λ i. told_same (λ v d. node_after v d i) i;
              found = found_same;
              leaf_says = λ k. leaf_says_lem t u bits n g content size k;
              leaf_hashes = λ k. leaf_hashes_lem t u bits n g content size k;
              leaf_lengths = λ k. leaf_lengths_lem t u bits n g content size k;
            };
        writes =
            record {
              release = release_says t u bits n g content size;
              released = released_same;
              take = take_says t u bits n g content size F;
              taken = λ H p B i root e. taken_same t u bits n g content size F p i root H B e;
              written = λ H p B i root e. written_same t u bits n g content size F p i root H B e;
            };
      }

pub known_alone : KnownAloneForAll
known_alone F x y h =
    let g : Agreed x.tree y.tree x.bitfield x.n = record { long = h.long; header = h.header; entries = h.entries } in
    let q : two x.tree y.tree x.bitfield x.n g x.content x.size ≡ y =
    λ j. record { tree = y.tree; bitfield = h.bitfield j; content = h.content j; n = h.n j; size = h.size j } in
    subst (KnownAlone F x) q (both x.tree y.tree x.bitfield x.n g x.content x.size F)
