-- A packet of the sequence, taken in. Assumes nothing.
use Prim.Native.Nat.{ℕ, ◌+◌, ◌≤◌, ◌<◌}
use mathlib.Core.Path.{◌≡◌, refl, sym, ap, ap₂, ◌∙◌, subst}
use mathlib.Core.Bool.{Bool, true, false}
use mathlib.Core.Logic.{◌⊎◌, ⊎_elim}
use mathlib.Core.List.{List, []}
use native.Mathlib.Omega.{arith}
use lib.Dec.{eqb, ltb}
use lib.ListN.{length, get_or}
use borrow.Author.Tests.{eqb-true, ltb-true, ltb-false}
use lib.Arith.{lt_of_le-ne}
use Rattle.byte_strings.specs.Lists.{part, put, among, zeros}
use Rattle.byte_strings.proofs.Lists.{length_put, part_put, part_put_before, part_put_behind}
use Rattle.tree_index.specs.Tree.{filled, entries}
use Rattle.bitfield.specs.Known.{held_again}
use Rattle.bitfield.proofs.Bits.{with_one_lem}
use Rattle.bitfield.proofs.Levels.{same_or}
use Rattle.bitfield.proofs.Append.{or_among}
use Rattle.file_format.specs.Sizes.{entry_place, used_tree}
use Rattle.file_format.specs.Messages.{HashFunction}
use Rattle.file_format.specs.Entries.{Entry, entry_bytes, node_at}
use Rattle.file_format.specs.Images.{leaves}
use Rattle.file_format.specs.Slots.{all_held, Within}
use Rattle.file_format.proofs.Spans.{span, chunk_inside}
use Rattle.file_format.proofs.Slots.{all_length}
use Rattle.file_format.proofs.Nodes.{entry_bytes_length, node_at_proper}
use Rattle.lookup.proofs.Visits.{filled_entry}
use Rattle.packet.specs.Check.{packet_chunk}
use Rattle.packet.specs.Inner.{ChunkOf}
use Rattle.copy_checks.specs.Copy.{Copy}
use Rattle.copy_take_in.specs.TakeIn.{Given, packet_start, with_given, with_known, brought, taken_in}
use Rattle.byte_strings.proofs.Members.{In, in_map, map_in}
use Rattle.theorem_taking_laws.proofs.Ways.{way_index}
use Rattle.theorem_taking_laws.proofs.Brought.{way_brought}
use Rattle.theorem_taking_laws.proofs.Among.{brought_filled}
use Rattle.theorem_taking_laws.proofs.Given.{places_of, AllFitting, among_in, in_among, length_given, front_given, AllSaying, given_keeps, given_gives, given_other}
use Rattle.file_format.proofs.Shown.{shown, more_known, held_more}
use Rattle.theorem_released_back.proofs.Stays.{under_filled}
use Rattle.theorem_released_back.proofs.Took.{Took}
use Rattle.byte_strings.proofs.Bools.{or_left, or_right, or_split, clash}
use Rattle.byte_strings.proofs.Tests.{neither}
use Rattle.theorem_copies_whole.proofs.ChunkSpans.{span_before}
use Rattle.theorem_copies_whole.proofs.WayUp.{way_up_to}
use Rattle.theorem_copies_whole.proofs.Partly.{Partly}

module _ (F : List ℕ → List ℕ) (cs : List (List ℕ)) where
  abbrev es : List Entry
  es = leaves F (all_held cs)

  module _ (hf : HashFunction F) (w : Within (all_held cs)) (c : Copy) (has knows : ℕ → Bool) (tail : List ℕ) (q : Partly F cs c has knows tail) (p : List ℕ) (i : ℕ)
      (t : Took F c p i) (nodes : (g : Given) → In g (brought F p c.n i) → g.entry ≡ node_at F es g.at)
      (start : packet_start p c.n i ≡ span cs 0 i) (piece : packet_chunk p ≡ get_or cs i []) where
    abbrev gs : List Given
    gs = brought F p c.n i

    abbrev own : ChunkOf c.n i
    own = t.packet.shaped.chunk

    abbrev knows' : ℕ → Bool
    knows' = or_among knows (places_of gs)

    abbrev has' : ℕ → Bool
    has' = with_one_lem has i

    filled_each : (g : Given) → In g gs → filled c.n g.at ≡ true
    filled_each g l = brought_filled c.n i own F p g l

    filled_places : (j : ℕ) → In j (places_of gs) → filled c.n j ≡ true
    filled_places j l = let x = in_map (λ (g : Given). g.at) j gs l in subst (λ (y : ℕ). filled c.n y ≡ true) x.2 (filled_each x.0 x.1)

    in_all : (j : ℕ) → filled c.n j ≡ true → filled (length (all_held cs)) j ≡ true
    in_all j f = ap (λ (n : ℕ). filled n j) (all_length cs ∙ sym q.count) ∙ f

    fitting : AllFitting c.tree gs
    fitting g l =
        record {
          inside = (filled_entry c.tree c.n g.at own.count q.nodes (filled_each g l)).inside;
          long = ap (λ (e : Entry). length (entry_bytes e)) (nodes g l)
              ∙ entry_bytes_length (node_at F es g.at) (node_at_proper F hf (all_held cs) w g.at (in_all g.at (filled_each g l))).long;
        }

    saying : (j : ℕ) → AllSaying j (entry_bytes (node_at F es j)) gs
    saying j g l e = ap entry_bytes (nodes g l ∙ ap (node_at F es) e)

    entry_now : (j : ℕ) → knows' j ≡ true → part (with_given c.tree gs) (entry_place j) 40 ≡ entry_bytes (node_at F es j)
    entry_now j e =
        ⊎_elim (λ f. given_keeps j (entry_bytes (node_at F es j)) c.tree gs fitting (saying j) (q.entry j f))
        (λ f. given_gives j (entry_bytes (node_at F es j)) c.tree gs fitting (saying j) (among_in j (places_of gs) f))
        (or_split (knows j) (among j (places_of gs)) e)

    empty_now : (j : ℕ) → j < entries c.n → knows' j ≡ false → part (with_given c.tree gs) (entry_place j) 40 ≡ zeros 40
    empty_now j l e =
        let x = neither (knows j) (among j (places_of gs)) e in
        given_other c.tree gs j fitting
        (λ m. clash (among j (places_of gs)) (in_among j (places_of gs) m) x.1)
        ∙ q.empty j l x.0

    bits_now : held_again (with_known c.bitfield gs) i ≡ shown has' knows' c.n tail
    unfolding with_known
    bits_now =
        ap (λ (l : List ℕ). held_again (with_known l gs) i) q.bits
        ∙ ap (λ (l : List ℕ). held_again l i) (more_known has c.n tail knows (places_of gs) (under_filled c.n (places_of gs) filled_places))
        ∙ held_more has knows' c.n tail i own.below

    at_end : span cs 0 i + length (get_or cs i []) ≤ length c.content
    at_end = omega (arith, chunk_inside cs i (subst (λ (n : ℕ). i < n) q.count own.below), q.bytes, q.total)

    content_is : put c.content (packet_start p c.n i) (packet_chunk p) ≡ put c.content (span cs 0 i) (get_or cs i [])
    content_is = ap₂ (put c.content) start piece

    chunk_now : (k : ℕ) → has' k ≡ true → part (put c.content (packet_start p c.n i) (packet_chunk p)) (span cs 0 k) (length (get_or cs k [])) ≡ get_or cs k []
    chunk_now k e =
        ap (λ (l : List ℕ). part l (span cs 0 k) (length (get_or cs k []))) content_is
        ∙ ⊎_elim
        (λ f. ap (λ (j : ℕ). part (put c.content (span cs 0 i) (get_or cs i [])) (span cs 0 j) (length (get_or cs j []))) f
        ∙ part_put c.content (span cs 0 i) (length (get_or cs i [])) (get_or cs i []) refl (omega (arith, at_end)) ∙ ap (λ (j : ℕ). get_or cs j []) (sym f))
        (λ f. apart k f (before f) (ltb k i) refl) (same_or k i)
      where
        before : (k ≡ i → ⊥) → has k ≡ true
        before f = ⊎_elim (λ a. a) (λ a. absurd (f (eqb-true k i a))) (or_split (has k) (eqb k i) e)

        apart : (k : ℕ) → (k ≡ i → ⊥) → has k ≡ true → (b : Bool) → ltb k i ≡ b
            → part (put c.content (span cs 0 i) (get_or cs i [])) (span cs 0 k) (length (get_or cs k [])) ≡ get_or cs k []
        apart k f h true l =
            part_put_before c.content (span cs 0 i) (get_or cs i []) (span cs 0 k) (length (get_or cs k [])) (span_before cs k i (ltb-true k i l)) (omega (arith, at_end))
            ∙ q.chunk k h
        apart k f h false l =
            part_put_behind c.content (span cs 0 i) (get_or cs i []) (span cs 0 k) (length (get_or cs k []))
            (span_before cs i k (lt_of_le-ne (ltb-false k i l) (λ z. f (sym z)))) (omega (arith, at_end))
            ∙ q.chunk k h

    way_now : (k : ℕ) → has' k ≡ true → (d : ℕ) → filled c.n (way_index k d) ≡ true → knows' (way_index k d) ≡ true
    way_now k e d f =
        ⊎_elim (λ a. or_left (knows (way_index k d)) (among (way_index k d) (places_of gs)) (q.way k a d f))
        (λ a. or_right (knows (way_index k d)) (among (way_index k d) (places_of gs)) (here (eqb-true k i a)))
        (or_split (has k) (eqb k i) e)
      where
        here : k ≡ i → among (way_index k d) (places_of gs) ≡ true
        here z =
            subst (λ (x : ℕ). among (way_index x d) (places_of gs) ≡ true) (sym z)
            (in_among (way_index i d) (places_of gs)
            (map_in (λ (g : Given). g.at) _ gs (way_brought F p c.n i d (way_up_to c.n i own d (subst (λ (x : ℕ). filled c.n (way_index x d) ≡ true) z f)))))

    pub took_partly : Partly F cs (taken_in F c p i) has' knows' tail
    unfolding taken_in
    took_partly =
        record {
          count = q.count;
          total = q.total;
          front = front_given c.tree gs fitting ∙ q.front;
          nodes = subst (λ (m : ℕ). used_tree c.n ≤ m) (sym (length_given c.tree gs fitting)) q.nodes;
          bytes = subst (λ (m : ℕ). c.size ≤ m)
              (sym (ap length content_is ∙ length_put c.content (span cs 0 i) (get_or cs i []) at_end)) q.bytes;
          bits = bits_now;
          known_only = λ j e. ⊎_elim (q.known_only j) (λ f. filled_places j (among_in j (places_of gs) f)) (or_split (knows j) (among j (places_of gs)) e);
          entry = entry_now;
          empty = empty_now;
          has_only = λ k e. ⊎_elim (q.has_only k) (λ f. subst (λ (x : ℕ). x < c.n) (sym (eqb-true k i f)) own.below) (or_split (has k) (eqb k i) e);
          chunk = chunk_now;
          way = way_now;
        }
