-- An accepted copy has what a packet made from it brings. Assumes nothing.
use Prim.Native.Nat.{ℕ, suc, ◌+◌, ◌*◌, ◌/◌, ◌^◌, ◌≤◌, ◌<◌}
use mathlib.Core.Path.{◌≡◌, refl, sym, ap, ap₂, ◌∙◌, subst}
use mathlib.Core.Bool.{true}
use mathlib.Core.List.{List, []}
use native.Mathlib.Decide.{dec_lt}
use native.Mathlib.Omega.{arith}
use borrow.Author.Tests.{lt-ltb, eqb-true}
use lib.Dec.{ltb}
use lib.ListN.{length, drop}
use Rattle.answer_types.specs.Verdict.{Verdict, tree, done, unless_refused}
use Rattle.byte_strings.specs.Lists.{total, Bytes}
use Rattle.tree_index.specs.Tree.{index, roots}
use Rattle.bitfield.specs.Release.{stored_held}
use Rattle.bitfield.specs.Known.{held_again}
use Rattle.blake2b.specs.Hash.{node_hash}
use Rattle.file_format.specs.Sizes.{used_bitfield}
use Rattle.file_format.specs.Messages.{HashFunction}
use Rattle.file_format.specs.Stored.{stored_root_sizes, stored_root_message}
use Rattle.file_format.proofs.Hashed.{hash_function}
use Rattle.checks.specs.Checks.{adds_up}
use Rattle.audit.specs.Audit.{held_bits}
use Rattle.lookup.specs.Descent.{reached}
use Rattle.lookup.specs.Lookup.{to_chunk}
use Rattle.lookup.specs.Read.{chunk_bytes}
use Rattle.lookup.proofs.Answers.{stays_inside}
use Rattle.lookup.proofs.Calls.{done_first, reading}
use Rattle.packet.specs.Packet.{siblings, packet_of}
use Rattle.packet.specs.Check.{packet_chunk, packet_verdict, checked_chunk}
use Rattle.packet.specs.Inner.{Readable}
use Rattle.packet.proofs.Makes.{readable}
use Rattle.copy_checks.specs.Copy.{Copy, files_of, known, unsigned}
use Rattle.copy_checks.specs.Descents.{copy_to_chunk}
use Rattle.copy_checks.specs.Checks.{unknown_root}
use Rattle.copy_checks.proofs.Signed.{signed, signed_passes}
use Rattle.copy_lookup.specs.Reading.{copy_read_verdict}
use Rattle.copy_lookup.proofs.AsRegister.{read_held, read_as}
use Rattle.copy_checks.proofs.Descents.{chunk_same}
use Rattle.copy_roots.specs.Roots.{copy_root_answer}
use Rattle.copy_packet.specs.Making.{copy_make_verdict}
use Rattle.copy_release.specs.Release.{copy_release_verdict, released_copy}
use Rattle.copy_take_in.specs.TakeIn.{take_verdict, after_taking}
use Rattle.copy_audit.specs.Audit.{AcceptedCopy}
use Rattle.byte_strings.proofs.Members.{In}
use Rattle.byte_strings.proofs.Bools.{true_both}
use Rattle.theorem_taking_laws.proofs.Ways.{way_index, way_filled, top_root, above_root}
use Rattle.theorem_taking_laws.proofs.Halves.{Half, in_left_lem, in_right_lem, halves}
use Rattle.file_format.proofs.Shown.{shown}
use Rattle.theorem_taken_in.proofs.Has.{Has, reads_piece, root_done_lem, root_is, release_done_lem, taken_again, comes_back}
use Rattle.theorem_packet_returns.proofs.Made.{Sound, sound_has}
use Rattle.theorem_packet_returns.proofs.ComesBack.{shown_again}
use Rattle.theorem_copies_whole.proofs.Alike.{all_known}
use Rattle.theorem_copies_whole.proofs.Known.{KnownBelow, descent_known, brought_known}
use Rattle.theorem_copies_whole.proofs.Releases.{Releasing, releasing}
use Rattle.theorem_copy_packets.specs.CopyPackets.{HandsOn, HandsOnForAll}
use Rattle.theorem_copy_packets.proofs.Audited.{parent_follows, held_of, known_of, bits_shown}

-- ---- a read that is done

module _ (F : List ℕ → List ℕ) (c : Copy) (i : ℕ) (e : copy_read_verdict F c i ≡ done) where
  r : Releasing c i
  unfolding copy_release_verdict
  r = releasing c i (read_held F c i e)

  pub read_there : Readable c.tree c.n i (chunk_bytes (unsigned c) i)
  unfolding chunk_bytes
  read_there = readable F (signed c) i (sym (read_as F c i e)) (chunk_bytes (signed c) i) refl

  pub below_there : KnownBelow (known c) c.tree i (length (siblings c.n i))
  unfolding copy_to_chunk
  below_there = descent_known (known c) c.tree i c.n i r.start read_there.chunk r.comes

  pub roots_there : (x : ℕ) → In x (roots c.n) → known c x ≡ true
  unfolding unknown_root
  roots_there x m = all_known (known c) (roots c.n) r.knowing.rooted x m

  way_there : (d : ℕ) → d ≤ length (siblings c.n i) → Dec (d < length (siblings c.n i)) → known c (way_index i d) ≡ true
  way_there d l (yes b) = (below_there d b).0
  way_there d l (no b) =
      let q : d ≡ length (siblings c.n i) = omega arith in
      roots_there (way_index i d)
      (subst (λ (x : ℕ). In x (roots c.n)) (sym (ap (way_index i) q ∙ top_root c.n i read_there.chunk)) (above_root c.n i read_there.chunk))

  module _ (a : AcceptedCopy F c) (bt : Bytes c.tree) (bd : Bytes c.content) (small : c.size ≤ 68719476736) where
    parents_right : (d : ℕ) → d < length (siblings c.n i) → Half i d (i / 2 ^ suc d)
        → (known c (index d (2 * (i / 2 ^ suc d))) ≡ true) × (known c (index d (2 * (i / 2 ^ suc d) + 1)) ≡ true)
    parents_right d l (in_left_lem q x y w) = (ap (known c) x ∙ (below_there d l).0, ap (known c) y ∙ (below_there d l).1)
    parents_right d l (in_right_lem q x y w) = (ap (known c) x ∙ (below_there d l).1, ap (known c) y ∙ (below_there d l).0)

    indexed : held_again c.bitfield i ≡ c.bitfield
    unfolding held_bits
    indexed =
        let tail : List ℕ = drop (used_bitfield c.n) c.bitfield in
        let bits : c.bitfield ≡ shown (held_of F c a) (known_of F c a) c.n (drop (used_bitfield c.n) c.bitfield) = bits_shown F c a in
        ap (λ (x : List ℕ). held_again x i) bits
        ∙ shown_again (held_of F c a) (known_of F c a) c.n tail i r.below
        (true_both (ltb i c.n) (stored_held c.bitfield i) (lt-ltb i c.n r.below) r.holds)
        ∙ sym bits

    sound : Sound F c i
    unfolding adds_up chunk_bytes to_chunk
    sound =
        let k = r.knowing in
        let below = r.below in
        let lands : to_chunk (signed c) i ≡ reached i r.start = sym (chunk_same c i r.unknown) ∙ r.comes in
        record {
          lent = k.lent;
          tree_bytes = bt;
          content_bytes_lem = bd;
          read = read_there;
          adds = eqb-true (total (stored_root_sizes c.tree c.n)) c.size k.adds;
          small = small;
          leaf_size_lem = sym ((stays_inside (signed c) (signed_passes c k)).read i below i r.start lands);
          leaf_hash = (reading F (signed c) i (read_as F c i e)).hash;
          parents = λ d l.
              let p = parents_right d l (halves i d (i / 2 ^ suc d) refl) in
              parent_follows F c a d (i / 2 ^ suc d) (way_filled c.n i read_there.chunk (suc d) l)
              (way_there (suc d) l (dec_lt (suc d) (length (siblings c.n i)))) p.0 p.1;
          knows = brought_known (known c) c.tree i F (packet_of (unsigned c) i) c.n read_there.chunk below_there roots_there;
          held = r.holds;
          indexed = indexed;
        }

-- ---- the theorem

module _ (F : List ℕ → List ℕ) (H : HashFunction F) (c : Copy) (i : ℕ) (p : List ℕ) (h : Has F c p i (F (stored_root_message c.tree c.n))) where
  abbrev hash : List ℕ
  hash = F (stored_root_message c.tree c.n)

  own_root : copy_root_answer F c ≡ F (stored_root_message c.tree c.n)
  own_root = root_is F H c p i hash h

  again : take_verdict F (released_copy c i) p i (copy_root_answer F c) ≡ done
  again = ap (take_verdict F (released_copy c i) p i) own_root ∙ taken_again F H c p i hash h

  pub hands_on : HandsOn F c i p
  unfolding checked_chunk after_taking
  hands_on =
      let passes : packet_verdict F p c.n i (copy_root_answer F c) ≡ done = ap (packet_verdict F p c.n i) own_root ∙ h.packet in
      record {
        root_done = root_done_lem F H c p i hash h;
        passes = passes;
        gives = ap (λ (v : Verdict). unless_refused v (packet_chunk p) []) passes ∙ sym (reads_piece F H c p i hash h);
        release_done = release_done_lem F H c p i hash h;
        taken_done = again;
        taken = ap₂ (λ (v : Verdict) (d : Copy). unless_refused v (files_of d) (files_of (released_copy c i))) again (comes_back F H c p i hash h);
        back = comes_back F H c p i hash h;
      }

pub hands_on_for_all : HandsOnForAll
unfolding copy_make_verdict
hands_on_for_all F H c bt bd a small i out e =
    hands_on F H c i (packet_of (unsigned c) i) (sound_has F c i (sound F c i (done_first (copy_read_verdict F c i) _ e) a bt bd small))

-- ---- at the hash of the calls

pub hands_on_of_the_calls : (c : Copy) → Bytes c.tree → Bytes c.content → AcceptedCopy node_hash c → c.size ≤ 68719476736
    → (i : ℕ) (out : List ℕ) → copy_make_verdict node_hash c i out ≡ done → HandsOn node_hash c i (packet_of (unsigned c) i)
hands_on_of_the_calls = hands_on_for_all node_hash hash_function
