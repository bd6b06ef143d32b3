-- Taking in a packet: two copies that agree on what is known say the same of it, and the same bytes are written into both. Assumes nothing.
use Prim.Native.Nat.{ℕ, ◌+◌, ◌-◌, ◌/◌, ◌≤◌, ◌<◌}
use mathlib.Core.Path.{◌≡◌, refl, sym, ap, ◌∙◌, subst}
use mathlib.Core.Bool.{Bool, true, false, ◌&&◌, ◌||◌, not}
use mathlib.Core.Logic.{inl, inr}
use mathlib.Core.List.{List, [], ◌∷◌}
use native.Mathlib.Decide.{dec_lt}
use native.Mathlib.Omega.{arith}
use lib.Dec.{leb}
use lib.ListN.{length, get_or}
use Rattle.answer_types.specs.Verdict.{Verdict, tree, done, and_then}
use Rattle.byte_strings.specs.Lists.{part, put, among, same_list, Bytes}
use Rattle.byte_strings.specs.Lowest.{Lowest}
use Rattle.byte_strings.proofs.Lists.{part_put, get_d_part}
use Rattle.tree_index.specs.Tree.{index, filled}
use Rattle.bitfield.specs.Append.{bits_place}
use Rattle.bitfield.specs.Known.{stored_known, held_again}
use Rattle.file_format.specs.Sizes.{entry_place, used_tree}
use Rattle.file_format.specs.Messages.{HashFunction}
use Rattle.file_format.specs.Entries.{entry_bytes}
use Rattle.checks.specs.Checks.{judged}
use Rattle.audit.specs.Audit.{refused_at}
use Rattle.packet.specs.Check.{packet_chunk, packet_verdict}
use Rattle.packet.specs.Inner.{ChunkOf}
use Rattle.copy_checks.specs.Copy.{Copy}
use Rattle.copy_checks.specs.Checks.{partly_judged}
use Rattle.copy_checks.specs.Least.{lower_of, least_of}
use Rattle.copy_take_in.specs.TakeIn.{Given, packet_start, contradicted, bytes_contradicted, index_if, contradicts, with_given, with_known, brought, contradiction, take_verdict, taken_in}
use Rattle.copy_take_in.proofs.Stages.{Passes, total_check, staged_passes, fits}
use Rattle.byte_strings.proofs.Members.{In, in_map}
use Rattle.bitfield.proofs.StoredBits.{RoomFor, known_again}
use Rattle.theorem_taking_laws.proofs.Given.{bytes_for, places_of, Fitting, AllFitting, among_in, in_among, length_given, still_given, front_given, given_gives, given_other, length_known, known_given}
use Rattle.byte_strings.proofs.Puts.{get_d_beside}
use Rattle.theorem_taking_laws.proofs.Among.{brought_filled}
use Rattle.theorem_packets_commute.proofs.Turns.{fitting, room, bit_room, own_agree}
use Rattle.theorem_used_bytes.proofs.Lookups.{then_same}
use Rattle.theorem_copy_used_bytes.proofs.Taking.{map_same}
use Rattle.theorem_copy_reads.specs.Theorems.{SameKnown, SameWritten}
use Rattle.theorem_copy_reads.proofs.Checks.{Agreed, one, two, partly_same}

-- ---- the same bytes

put_same : (t u : List ℕ) (g : Given) → Fitting t g → Fitting u g → (x : ℕ)
    → SameWritten t u (put t (entry_place g.at) (bytes_for g)) (put u (entry_place g.at) (bytes_for g)) x
put_same t u g f w x =
    elim (dec_lt x at) [
      | yes l ↦ inr (get_d_beside t at ys x (inl l) (omega arith), get_d_beside u at ys x (inl l) (omega arith))
      | no l ↦ elim (dec_lt x (at + 40)) [
        | yes m ↦ inl (there t (omega arith) (omega arith) (omega arith) ∙ sym (there u (omega arith) (omega arith) (omega arith)))
        | no m ↦ inr (get_d_beside t at ys x (inr (omega arith)) (omega arith), get_d_beside u at ys x (inr (omega arith)) (omega arith))
      ]
    ]
  where
    at : ℕ
    at = entry_place g.at

    ys : List ℕ
    ys = bytes_for g

    there : (v : List ℕ) → at ≤ length v → at ≤ x → x < at + 40 → get_or (put v at ys) x 0 ≡ get_or ys (x - at) 0
    there v h l m =
        let e : x ≡ at + (x - at) = omega arith in
        ap (λ (k : ℕ). get_or (put v at ys) k 0) e ∙ sym (get_d_part (put v at ys) at 40 (x - at) 0 (omega arith))
        ∙ ap (λ (k : List ℕ). get_or k (x - at) 0) (part_put v at 40 ys f.long h)

given_same : (t u : List ℕ) (gs : List Given) → AllFitting t gs → AllFitting u gs → (x : ℕ) → SameWritten t u (with_given t gs) (with_given u gs) x
unfolding with_given In
given_same t u [] f w x = inr (refl, refl)
given_same t u (g ∷ gs) f w x =
    step (put_same t u g (f g (inl refl)) (w g (inl refl)) x)
    (given_same (written t) (written u) gs (later t f) (later u w) x)
  where
    written : List ℕ → List ℕ
    written v = put v (entry_place g.at) (bytes_for g)

    later : (v : List ℕ) → AllFitting v (g ∷ gs) → AllFitting (written v) gs
    later v h = still_given v (g ∷ []) gs (λ y m. elim m [ inl e ↦ h y (inl e) | inr e ↦ absurd e ]) (λ y m. h y (inr m))

    step : SameWritten t u (written t) (written u) x → SameWritten (written t) (written u) (with_given (written t) gs) (with_given (written u) gs) x
        → SameWritten t u (with_given (written t) gs) (with_given (written u) gs) x
    step y (inl e) = inl e
    step (inl e) (inr q) = inl (q.0 ∙ e ∙ sym q.1)
    step (inr e) (inr q) = inr (q.0 ∙ e.0, q.1 ∙ e.1)

-- ---- both copies

module _ (t u bits : List ℕ) (n : ℕ) (g : Agreed t u bits n) (content : List ℕ) (size : ℕ) (F : List ℕ → List ℕ) (p : List ℕ) (i : ℕ) where
  abbrev a : Copy
  a = one t u bits n g content size

  abbrev b : Copy
  b = two t u bits n g content size

  abbrev gs : List Given
  gs = brought F p n i

  -- a brought entry contradicts in both or in neither
  entry_same : (x : Given) → filled n x.at ≡ true → contradicts t bits x ≡ contradicts u bits x
  unfolding contradicted
  entry_same x f = pick (stored_known bits x.at) refl
    where
      by : Bool → List ℕ → Lowest
      by k y = index_if (k && not (same_list y (entry_bytes x.entry))) x.at

      pick : (k : Bool) → stored_known bits x.at ≡ k → by k (part t (entry_place x.at) 40) ≡ by k (part u (entry_place x.at) 40)
      pick true e = ap (by true) (g.entries x.at f e)
      pick false e = refl

  contradiction_same : ChunkOf n i → contradiction F a p i ≡ contradiction F b p i
  unfolding contradiction
  contradiction_same h =
      ap (λ (l : List Lowest). lower_of (index_if (bytes_contradicted bits content i (packet_start p n i) (packet_chunk p)) (index 0 i)) (least_of l))
      (map_same (contradicts t bits) (contradicts u bits) gs (λ x m. entry_same x (brought_filled n i h F p x m)))

  module _ (root : List ℕ) where
    abbrev behind : Copy → Verdict
    behind c = judged (total_check c p i) (refused_at 19 tree (contradiction F c p i) done)

    pub take_says : take_verdict F a p i root ≡ take_verdict F b p i root
    unfolding take_verdict
    take_says =
        ap (partly_judged a)
        (then_same (packet_verdict F p n i root) (behind a) (behind b)
        (λ e. ap (λ (l : Lowest). judged (total_check a p i) (refused_at 19 tree l done)) (contradiction_same (fits F a p i root (sym e)).shaped.chunk)))
        ∙ partly_same t u bits n g content size (and_then (packet_verdict F p n i root) (behind b))

    module _ (H : HashFunction F) (B : Bytes p) (e : take_verdict F a p i root ≡ done) where
      passes : (c : Copy) → take_verdict F c p i root ≡ done → Passes F c p i root
      unfolding take_verdict
      passes c q = (staged_passes F c p i root (refused_at 19 tree (contradiction F c p i) done) q).0

      pa : Passes F a p i root
      pa = passes a e

      pb : Passes F b p i root
      pb = passes b (sym take_says ∙ e)

      fa : AllFitting t gs
      fa = fitting F H a p i pa.lent B (fits F a p i root (sym pa.packet))

      fb : AllFitting u gs
      fb = fitting F H b p i pb.lent B (fits F b p i root (sym pb.packet))

      bit_there : RoomFor (with_known bits gs) (i / 8192)
      bit_there =
          subst (λ (x : ℕ). bits_place (i / 8192 + 1) ≤ x) (sym (length_known bits gs))
          (bit_room F H a p i pa.lent B (fits F a p i root (sym pa.packet)))

      known_then : (j : ℕ) → stored_known (held_again (with_known bits gs) i) j ≡ (among j (places_of gs) || stored_known bits j)
      known_then j =
          known_again (with_known bits gs) i bit_there j
          ∙ known_given bits gs (room F H a p i pa.lent B (fits F a p i root (sym pa.packet))) j

      entry_then : (j : ℕ) → filled n j ≡ true → stored_known (held_again (with_known bits gs) i) j ≡ true
          → part (with_given t gs) (entry_place j) 40 ≡ part (with_given u gs) (entry_place j) 40
      entry_then j f k = pick (among j (places_of gs)) refl (sym (known_then j) ∙ k)
        where
          agrees : (x : Given) → In x gs → x.at ≡ j → (y : Given) → In y gs → y.at ≡ j → bytes_for y ≡ bytes_for x
          agrees x l q y m r = own_agree F H a p i pa.lent B (fits F a p i root (sym pa.packet)) y x m l (r ∙ sym q)

          pick : (x : Bool) → among j (places_of gs) ≡ x → (x || stored_known bits j) ≡ true
              → part (with_given t gs) (entry_place j) 40 ≡ part (with_given u gs) (entry_place j) 40
          pick true m q =
              let w : In j (places_of gs) = among_in j (places_of gs) m in
              let r = in_map (λ (x : Given). x.at) j gs w in
              given_gives j (bytes_for r.0) t gs fa (agrees r.0 r.1 r.2) w
              ∙ sym (given_gives j (bytes_for r.0) u gs fb (agrees r.0 r.1 r.2) w)
          pick false m q =
              let none : In j (places_of gs) → ⊥ = λ w. (let y = in_among j (places_of gs) w in let z : ◌≡◌ {A = ℕ} 0 1 = cc in omega arith) in
              given_other t gs j fa none ∙ g.entries j f q ∙ sym (given_other u gs j fb none)

      pub taken_same : SameKnown (taken_in F a p i) (taken_in F b p i)
      unfolding taken_in
      taken_same =
          record {
            n = refl;
            size = refl;
            bitfield = refl;
            content = refl;
            long =
                ap (leb (used_tree n)) (length_given t gs fa) ∙ g.long ∙ sym (ap (leb (used_tree n)) (length_given u gs fb));
            header = front_given t gs fa ∙ g.header ∙ sym (front_given u gs fb);
            entries = entry_then;
          }

      pub written_same : (x : ℕ) → SameWritten t u (taken_in F a p i).tree (taken_in F b p i).tree x
      unfolding taken_in
      written_same = given_same t u gs fa fb
