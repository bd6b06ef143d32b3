-- A copy that took in a packet has all that it brings. Assumes nothing.
use Prim.Native.Nat.{ℕ, suc, ◌+◌, ◌/◌, ◌^◌, ◌≤◌, ◌<◌}
use mathlib.Core.Path.{◌≡◌, refl, sym, ap, ap₂, ◌∙◌, subst}
use mathlib.Core.Bool.{Bool, true, false, ◌||◌}
use mathlib.Core.List.{List, ◌++◌, map, map-append}
use native.Mathlib.Nat.{zero-add}
use native.Mathlib.Omega.{arith}
use borrow.Author.Tests.{eq-eqb, ne_eqb}
use lib.Dec.{eqb}
use lib.ListN.{length}
use lib.Seq.{ext_get_or}
use Rattle.answer_types.specs.Verdict.{done}
use Rattle.byte_strings.specs.Lists.{part, run, among, Bytes}
use Rattle.byte_strings.proofs.Lists.{length_run, get_or_run, part_put}
use Rattle.tree_index.specs.Tree.{index}
use Rattle.bitfield.specs.Append.{bits_place}
use Rattle.bitfield.specs.Release.{stored_held}
use Rattle.bitfield.specs.Known.{stored_known}
use Rattle.blake2b.specs.Hash.{node_hash}
use Rattle.file_format.specs.Sizes.{entry_place}
use Rattle.file_format.specs.Messages.{HashFunction}
use Rattle.file_format.proofs.Hashed.{hash_function}
use Rattle.packet.specs.Packet.{siblings, other_roots}
use Rattle.packet.specs.Check.{packet_chunk, sibling_entries, other_entries, steps}
use Rattle.packet.proofs.Rows.{siblings_count}
use Rattle.packet_compare.proofs.Stands.{stands}
use Rattle.copy_checks.specs.Copy.{Copy, known}
use Rattle.copy_take_in.specs.TakeIn.{Given, given_at, lying, led_to, packet_start, with_known, brought, take_verdict, taken_in}
use Rattle.copy_take_in.specs.Inner.{Fits}
use Rattle.copy_take_in.proofs.Stages.{fits}
use Rattle.byte_strings.proofs.Members.{map_in}
use Rattle.bitfield.proofs.StoredBits.{RoomFor}
use Rattle.theorem_taking_laws.proofs.Given.{places_of, AllFitting, AllRoom, in_among, given_keeps, given_other, length_known}
use Rattle.theorem_taking_laws.proofs.Brought.{others_count}
use Rattle.theorem_taking_laws.proofs.RowMembers.{given_indexes, led_indexes, led_many}
use Rattle.theorem_packets_commute.proofs.Clear.{known_after, known_now}
use Rattle.theorem_packets_commute.proofs.Turns.{Takes, takes, fitting, room, bit_room, own_agree, bytes_inside, lent_after, held_after}
use Rattle.theorem_packets_commute.proofs.Chunks.{written}
use Rattle.theorem_taken_in.specs.TakenIn.{brought_indexes, TakenIn, TakenInForAll}
use Rattle.theorem_taken_in.proofs.Bits.{held_twice}
use Rattle.theorem_taken_in.proofs.Has.{Has, read_done_lem, reads_piece, root_done_lem, root_is, made_done_lem, made_out, made_long, release_done_lem, taken_again, comes_back}

-- ---- where the entries stand that are brought

way_places : (F : List ℕ → List ℕ) (p : List ℕ) (n i : ℕ) → places_of (map led_to (steps F p n i)) ≡ run (λ d. index d (i / 2 ^ d)) 0 (suc (length (siblings n i)))
way_places F p n i =
    let s = stands F p n i in
    let l = led_many (steps F p n i) in
    ext_get_or 0 (places_of (map led_to (steps F p n i))) (run (λ d. index d (i / 2 ^ d)) 0 (suc (length (siblings n i))))
    (l ∙ s.count ∙ sym (length_run (λ d. index d (i / 2 ^ d)) 0 (suc (length (siblings n i)))))
    (λ j m.
    let k : j < length (steps F p n i) = omega arith in
    let b : j < suc (length (siblings n i)) = omega (arith, s.count) in
    led_indexes (steps F p n i) j k ∙ s.at j k
    ∙ sym (get_or_run (λ d. index d (i / 2 ^ d)) 0 (suc (length (siblings n i))) j 0 b ∙ ap (λ (d : ℕ). index d (i / 2 ^ d)) (zero-add j)))

pub brought_places : (F : List ℕ → List ℕ) (p : List ℕ) (n i : ℕ) → places_of (brought F p n i) ≡ brought_indexes n i
unfolding brought lying brought_indexes
brought_places F p n i =
    map-append (λ (g : Given). g.at) (map led_to (steps F p n i)) (lying p n i)
    ∙ ap₂ ◌++◌ (way_places F p n i)
    (map-append (λ (g : Given). g.at) (given_at (siblings n i) (sibling_entries p n i)) (given_at (other_roots n i) (other_entries p n i))
    ∙ ap₂ ◌++◌ (given_indexes (siblings n i) (sibling_entries p n i) (siblings_count p n i))
    (given_indexes (other_roots n i) (other_entries p n i) (others_count p n i)))

module _ (F : List ℕ → List ℕ) (H : HashFunction F) (c : Copy) (p : List ℕ) (b : Bytes p) (i : ℕ) (root : List ℕ) (w : Takes F c p i root) where
  abbrev gs : List Given
  gs = brought F p c.n i

  abbrev fit : Fits p c.n i
  fit = fits F c p i root (sym w.passes.packet)

  abbrev all_room : AllRoom c.bitfield gs
  all_room = room F H c p i w.passes.lent b fit

  abbrev own_room : RoomFor c.bitfield (i / 8192)
  own_room = bit_room F H c p i w.passes.lent b fit

  abbrev all_fit : AllFitting c.tree gs
  all_fit = fitting F H c p i w.passes.lent b fit

  or_same : (a b : Bool) → a ≡ true → (a || b) ≡ true
  or_same a b e = ap (λ (x : Bool). x || b) e

  pub has_taken : Has F (taken_in F c p i) p i root
  unfolding taken_in
  has_taken =
      record {
        lent = lent_after F H c p i root b w.passes;
        bytes = b;
        packet = w.passes.packet;
        total = w.passes.total;
        entries = written c.tree gs all_fit (own_agree F H c p i w.passes.lent b fit);
        knows = λ g m. known_now c.bitfield gs i all_room own_room g.at (map_in (λ (h : Given). h.at) g gs m);
        held = held_after F H c p i root b w.passes i ∙ or_same (eqb i i) (stored_held c.bitfield i) (eq-eqb i i refl);
        piece =
            part_put c.content (packet_start p c.n i) (length (packet_chunk p)) (packet_chunk p) refl
            (omega (arith, bytes_inside F H c p i w.passes.lent b fit w.passes.total));
        index =
            held_twice (with_known c.bitfield gs) i
            (subst (λ (x : ℕ). bits_place (i / 8192 + 1) ≤ x) (sym (length_known c.bitfield gs)) own_room);
      }

  known_is : (j : ℕ) → known (taken_in F c p i) j ≡ (among j (brought_indexes c.n i) || known c j)
  unfolding taken_in
  known_is j =
      known_after c.bitfield gs i all_room own_room j ∙ ap (λ (l : List ℕ). among j l || stored_known c.bitfield j) (brought_places F p c.n i)

  others_stay : (j : ℕ) → among j (brought_indexes c.n i) ≡ false → part (taken_in F c p i).tree (entry_place j) 40 ≡ part c.tree (entry_place j) 40
  unfolding taken_in
  others_stay j e =
      given_other c.tree gs j all_fit
      (λ m.
      let f : true ≡ false = sym (in_among j (places_of gs) m) ∙ ap (among j) (brought_places F p c.n i) ∙ e in
      let z : ◌≡◌ {A = ℕ} 0 1 = cc in omega arith)

  known_stay_lem : (j : ℕ) → known c j ≡ true → part (taken_in F c p i).tree (entry_place j) 40 ≡ part c.tree (entry_place j) 40
  unfolding taken_in
  known_stay_lem j k =
      given_keeps j (part c.tree (entry_place j) 40) c.tree gs all_fit
      (λ g m e. sym (w.entries g m (subst (λ (x : ℕ). stored_known c.bitfield x ≡ true) (sym e) k)) ∙ ap (λ (x : ℕ). part c.tree (entry_place x) 40) e) refl

  pub taken_in_lem : TakenIn F c p i root (taken_in F c p i)
  taken_in_lem =
      let d : Copy = taken_in F c p i in
      let h : Has F (taken_in F c p i) p i root = has_taken in
      record {
        read_done = read_done_lem F H d p i root h;
        reads = reads_piece F H d p i root h;
        root_done = root_done_lem F H d p i root h;
        root_same = root_is F H d p i root h;
        made_done = made_done_lem F H d p i root h;
        made = made_out F H d p i root h;
        long = made_long F H d p i root h;
        release_done = release_done_lem F H d p i root h;
        again_done = taken_again F H d p i root h;
        again = comes_back F H d p i root h;
        holds = h.held;
        held_stay = λ j e.
            held_after F H c p i root b w.passes j ∙ ap (λ (x : Bool). x || stored_held c.bitfield j) (ne_eqb j i e);
        knows = known_is;
        entries_stay = others_stay;
        known_stay = known_stay_lem;
      }

pub taken_in_for_all : TakenInForAll
taken_in_for_all F H c p b i root e = taken_in_lem F H c p b i root (takes F c p i root e)

-- ---- at the hash of the calls

pub taken_in_of_the_call : (c : Copy) (p : List ℕ) → Bytes p → (i : ℕ) (root : List ℕ) → take_verdict node_hash c p i root ≡ done
    → TakenIn node_hash c p i root (taken_in node_hash c p i)
taken_in_of_the_call = taken_in_for_all node_hash hash_function
