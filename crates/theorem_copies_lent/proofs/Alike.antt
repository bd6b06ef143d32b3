-- The proof of `LentForAll`, call by call. Assumes nothing.
use Prim.Native.Nat.{ℕ, ◌-◌}
use mathlib.Core.Path.{◌≡◌, refl, sym, ap, ap₂, ◌∙◌}
use mathlib.Core.List.{List}
use borrow.Author.Tests.{leb-true}
use lib.ListN.{length}
use Rattle.answer_types.specs.Verdict.{Verdict, tree, done, refused, unless_refused, and_then}
use Rattle.byte_strings.specs.Lists.{part, zeros, put}
use Rattle.byte_strings.specs.Lowest.{Lowest, lowest}
use Rattle.tree_index.specs.Tree.{roots}
use Rattle.bitfield.specs.Release.{stored_held}
use Rattle.file_format.specs.Stored.{stored_root_message}
use Rattle.file_format.specs.Belongs.{Register, Buffers, buffers_of}
use Rattle.checks.specs.Checks.{holds}
use Rattle.checks.proofs.Judged.{judged_same}
use Rattle.writing.specs.Append.{root_unless_refused}
use Rattle.writing.specs.RootHash.{root_verdict, root_answer}
use Rattle.audit.specs.Audit.{refused_at}
use Rattle.audit.proofs.Audited.{accepted_audited}
use Rattle.prefix_root.specs.PrefixRoot.{own_checks, prefix_verdict, prefix_root, root_unless}
use Rattle.lookup.specs.Descent.{always}
use Rattle.lookup.specs.Lookup.{found_behind, to_chunk, to_byte, place_of, held_place_of, byte_at}
use Rattle.lookup.specs.Read.{verdict_found, bytes_found, chunk_bytes, hash_judged, read_found, read_verdict, read_part}
use Rattle.lookup.proofs.Lookups.{place_same, held_same, byte_same}
use Rattle.release.specs.Release.{release_verdict, released_register, after_release}
use Rattle.stored_leaf.specs.StoredLeaf.{leaf_verdict, leaf_hash, leaf_length}
use Rattle.stored_leaf.proofs.Calls.{leaf_same}
use Rattle.search.specs.Search.{sought_unless, first_missing, search_for}
use Rattle.short_lookup.specs.ShortLookup.{short_place_of, short_byte_at, short_search_for}
use Rattle.record_find.specs.ChunkRecords.{header_after, node_after, path_after, header_in, path_in}
use Rattle.record_find.specs.Finding.{find_by, find_in}
use Rattle.packet.specs.Packet.{packet_of, room_or14, make_verdict, after_make, made_length, packet_with}
use Rattle.copy_checks.specs.Copy.{Copy, known, files_of, unsigned, lent_as_copy}
use Rattle.copy_checks.specs.Checks.{copy_judged}
use Rattle.lookup.specs.Unknown.{first_unknown}
use Rattle.copy_checks.specs.Descents.{copy_to_chunk, copy_to_byte}
use Rattle.copy_lookup.specs.Lookups.{copy_place_of, copy_held_place_of, copy_byte_at}
use Rattle.copy_lookup.specs.Reading.{copy_read_verdict, copy_read_part, copy_read_found}
use Rattle.copy_roots.specs.Roots.{copy_root_verdict, copy_root_answer, copy_prefix_verdict, copy_prefix_root, copy_search}
use Rattle.copy_short_lookup.specs.Short.{copy_short_place_of, copy_short_byte_at, copy_short_search}
use Rattle.copy_packet.specs.Making.{copy_make_verdict, copy_after_make, copy_made_length}
use Rattle.copy_release.specs.Release.{copy_release_verdict, released_copy, copy_after_release}
use Rattle.copy_stored_leaf.specs.StoredLeaf.{copy_leaf_verdict}
use Rattle.copy_records.specs.Records.{copy_header, copy_path, copy_find}
use Rattle.theorem_copies_agree.specs.Theorems.{AllKnown}
use Rattle.theorem_copies_agree.proofs.Known.{short_place_known, short_byte_known}
use Rattle.theorem_copy_audit.specs.Theorems.{SignaturesPass}
use Rattle.theorem_copy_audit.proofs.Registers.{all_known, lent_sound, lent_signed}
use Rattle.theorem_copy_audit.proofs.Sound.{sound_accepted}
use Rattle.theorem_copies_lent.specs.Theorems.{files_in, LentAlike, LentForAll}
use Rattle.theorem_copies_lent.proofs.Checked.{to_chunk_lem, to_byte_lem, roots_known_lem, leaf_known, checks_same, behind_same}

module _ (F : List ℕ → List ℕ) (r : Register) (all : AllKnown (lent_as_copy r)) (g : SignaturesPass r) where
  abbrev c : Copy
  c = lent_as_copy r

  -- ---- lookups

  same_place : (i : ℕ) → copy_place_of c i ≡ place_of r i
  unfolding copy_place_of place_of copy_to_chunk to_chunk
  same_place i = ap₂ found_behind (checks_same r all g done) (place_same (known c) always r.tree r.tree r.n i (to_chunk_lem r all i) (λ k s h e. refl))

  same_held_place : (i : ℕ) → copy_held_place_of c i ≡ held_place_of r i
  unfolding copy_held_place_of held_place_of copy_to_chunk to_chunk
  same_held_place i =
      ap₂ found_behind (checks_same r all g done)
      (held_same (known c) always r.tree r.tree r.n i (to_chunk_lem r all i) (λ k s h e. refl) r.bitfield r.bitfield (λ h. refl))

  same_byte : (b : ℕ) → copy_byte_at c b ≡ byte_at r b
  unfolding copy_byte_at byte_at copy_to_byte to_byte
  same_byte b = ap₂ found_behind (checks_same r all g done) (byte_same (known c) always r.tree r.tree r.n r.size b (to_byte_lem r all b))

  same_search : (from : ℕ) → copy_search c from ≡ search_for r from
  unfolding copy_search search_for
  same_search from = ap (λ (v : Verdict). sought_unless v (first_missing r.bitfield r.n from)) (checks_same r all g done)

  same_short_search : (from : ℕ) → copy_short_search c from ≡ short_search_for r from
  unfolding copy_short_search short_search_for
  same_short_search from = ap (λ (v : Verdict). sought_unless v (lowest (stored_held r.bitfield) from (r.n - from))) (checks_same r all g done)

  same_short_place : (i : ℕ) → copy_short_place_of c i ≡ short_place_of r i
  unfolding copy_short_place_of short_place_of
  same_short_place i = ap₂ found_behind (checks_same r all g done) (short_place_known c all i)

  same_short_byte : (b : ℕ) → copy_short_byte_at c b ≡ short_byte_at r b
  unfolding copy_short_byte_at short_byte_at
  same_short_byte b = ap₂ found_behind (checks_same r all g done) (short_byte_known c all b)

  -- ---- hashes and bytes

  same_root : copy_root_verdict c ≡ root_verdict r
  unfolding copy_root_verdict root_verdict
  same_root = checks_same r all g done

  unless_same : (v : Verdict) → root_unless F v r.tree r.n ≡ root_unless_refused F v r
  unless_same done = refl
  unless_same (refused m at) = refl

  same_root_hash : copy_root_answer F c ≡ root_answer F r
  unfolding copy_root_answer root_answer
  same_root_hash = ap (λ (v : Verdict). root_unless F v r.tree r.n) same_root ∙ unless_same (root_verdict r)

  same_old : (m : ℕ) → copy_prefix_verdict c m ≡ prefix_verdict r m
  unfolding copy_prefix_verdict prefix_verdict refused_at
  same_old m =
      ap (copy_judged c)
      (judged_same (own_checks r.n m) (refused_at 20 tree (first_unknown (known c) (roots m)) done) done
      (λ p. ap (λ (l : Lowest). refused_at 20 tree l done) (roots_known_lem r all m (leb-true m r.n p.0))))
      ∙ behind_same r all g (own_checks r.n m) done

  same_old_root : (m : ℕ) → copy_prefix_root F c m ≡ prefix_root F r m
  unfolding copy_prefix_root prefix_root
  same_old_root m = ap (λ (v : Verdict). unless_refused v (F (stored_root_message r.tree m)) (zeros 32)) (same_old m)

  same_found : (i : ℕ) → copy_read_found F c i ≡ read_found F r i
  unfolding copy_read_found read_found
  same_found i = ap (hash_judged F r.tree r.content i) (same_held_place i)

  same_read : (i : ℕ) → copy_read_verdict F c i ≡ read_verdict F r i
  unfolding copy_read_verdict read_verdict
  same_read i = ap verdict_found (same_found i)

  same_part : (i : ℕ) → copy_read_part F c i ≡ read_part F r i
  unfolding copy_read_part read_part
  same_part i = ap (bytes_found r.content) (same_found i)

  -- ---- what is written

  same_release : (i : ℕ) → copy_release_verdict c i ≡ release_verdict r i
  unfolding copy_release_verdict release_verdict
  same_release i = ap verdict_found (same_held_place i)

  same_released : (i : ℕ) → released_copy c i ≡ lent_as_copy (released_register r i)
  unfolding released_copy released_register
  same_released i = refl

  files_of_lem : (v : Verdict) (a b : Buffers) → unless_refused v (files_in a) (files_in b) ≡ files_in (unless_refused v a b)
  files_of_lem done a b = refl
  files_of_lem (refused m at) a b = refl

  same_files : (i : ℕ) → copy_after_release c i ≡ files_in (after_release r i)
  unfolding copy_after_release after_release
  same_files i =
      ap₂ (λ (v : Verdict) (d : Copy). unless_refused v (files_of d) (files_of c)) (same_release i) (same_released i)
      ∙ files_of_lem (release_verdict r i) (buffers_of (released_register r i)) (buffers_of r)

  same_packet : (i : ℕ) → packet_of (unsigned c) i ≡ packet_of r i
  unfolding packet_of packet_with chunk_bytes
  same_packet i = refl

  same_make : (i : ℕ) (out : List ℕ) → copy_make_verdict F c i out ≡ make_verdict F r i out
  unfolding copy_make_verdict make_verdict
  same_make i out = ap₂ (λ (v : Verdict) (p : List ℕ). and_then v (room_or14 (holds out (length p)))) (same_read i) (same_packet i)

  same_long : (i : ℕ) (out : List ℕ) → copy_made_length F c i out ≡ made_length F r i out
  unfolding copy_made_length made_length
  same_long i out = ap₂ (λ (v : Verdict) (q : List ℕ). unless_refused v (length q) 0) (same_make i out) (same_packet i)

  same_made : (i : ℕ) (out : List ℕ) → copy_after_make F c i out ≡ after_make F r i out
  unfolding copy_after_make after_make
  same_made i out = ap₂ (λ (v : Verdict) (p : List ℕ). unless_refused v (put out 0 p) out) (same_make i out) (same_packet i)

  -- ---- records

  same_header : (i : ℕ) → copy_header F c i ≡ header_in F r i
  same_header i = ap₂ (λ (v : Verdict) (d : List ℕ). header_after v d i) (same_read i) (same_part i)

  same_path : (i : ℕ) (path : List ℕ) → copy_path F c i path ≡ path_in F r i path
  same_path i path = ap₂ (λ (v : Verdict) (d : List ℕ). path_after v d i path) (same_read i) (same_part i)

  same_find : (path : List ℕ) → copy_find F c path ≡ find_in F r path
  same_find path = (λ j. find_by (λ i. same_path i path j) (checks_same r all g done j) (same_header 0 j).0 r.n)

  same_leaf : (k : ℕ) → copy_leaf_verdict c k ≡ leaf_verdict r k
  unfolding copy_leaf_verdict leaf_verdict
  same_leaf k = ap₂ and_then (checks_same r all g done) (leaf_same (known c) always r.n k (λ h. leaf_known r all k h))

  pub alike : LentAlike F r
  alike =
      record {
        lookups =
            record {
              place = same_place;
              held_place = same_held_place;
              byte = same_byte;
              search = same_search;
              short_place = same_short_place;
              short_byte = same_short_byte;
              short_search = same_short_search;
            };
        reads =
            record {
              root_verdicts = same_root;
              root = same_root_hash;
              old_verdicts = same_old;
              old_root = same_old_root;
              verdict = same_read;
              part = same_part;
              found = same_found;
              leaf_verdicts = same_leaf;
              leaf_hashes = λ k out. ap (λ (v : Verdict). leaf_hash v r.tree k out) (same_leaf k);
              leaf_lengths = λ k. ap (λ (v : Verdict). leaf_length v r.tree k) (same_leaf k);
            };
        writes =
            record {
              release_verdicts = same_release;
              released = same_released;
              files = same_files;
              make_verdicts = same_make;
              long = same_long;
              packet = same_made;
            };
        records =
            record {
              header = same_header;
              node = λ i. ap₂ (λ (v : Verdict) (d : List ℕ). node_after v d i) (same_read i) (same_part i);
              path = same_path;
              find = same_find;
            };
      }

pub lent_for_all : LentForAll
lent_for_all =
    record {
      every = alike;
      accepted = λ F r e.
          let a = accepted_audited F r e in (alike F r (all_known F r a) (lent_signed F r a), sound_accepted F (lent_as_copy r) (lent_sound F r a) ∙ sym e);
    }
