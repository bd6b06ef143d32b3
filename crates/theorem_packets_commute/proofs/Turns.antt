-- Two packets taken in, in either order, where it is known how their chunks lie. Assumes nothing.
use Prim.Native.Nat.{ℕ, ◌+◌, ◌/◌, ◌≤◌}
use mathlib.Core.Path.{◌≡◌, refl, sym, ap, ◌∙◌, subst}
use mathlib.Core.Logic.{◌⊎◌}
use mathlib.Core.Bool.{Bool, true, ◌||◌}
use mathlib.Core.List.{List}
use native.Mathlib.Omega.{arith}
use borrow.Author.Tests.{eq-eqb}
use lib.Dec.{eqb}
use lib.ListN.{length}
use Rattle.answer_types.specs.Verdict.{tree, done}
use Rattle.byte_strings.specs.Lists.{put, total, Bytes}
use Rattle.byte_strings.specs.Lowest.{Lowest, nowhere, first}
use Rattle.byte_strings.proofs.Lists.{length_put}
use Rattle.bitfield.specs.Append.{bits_place}
use Rattle.bitfield.specs.Release.{stored_held}
use Rattle.bitfield.specs.Known.{held_again}
use Rattle.file_format.specs.Messages.{HashFunction}
use Rattle.file_format.specs.Sizes.{used_tree, used_bitfield}
use Rattle.file_format.specs.Stored.{stored_root_sizes}
use Rattle.file_format.proofs.Nodes.{entry_bytes_length}
use Rattle.checks.specs.Checks.{adds_up}
use Rattle.audit.specs.Audit.{refused_at}
use Rattle.packet.specs.Check.{packet_chunk, packet_total}
use Rattle.copy_checks.specs.Copy.{Copy}
use Rattle.copy_checks.specs.Checks.{unknown_root, passed_over}
use Rattle.copy_checks.proofs.Steps.{Lent}
use Rattle.copy_take_in.specs.TakeIn.{Given, packet_start, with_given, with_known, brought, contradiction, take_verdict, taken_in}
use Rattle.copy_take_in.specs.Inner.{Fits}
use Rattle.copy_take_in.proofs.Stages.{Passes, staged_passes, passes_staged, fits}
use Rattle.copy_take_in.proofs.Knowable.{knowable, data_bit}
use Rattle.copy_take_in.proofs.Places.{chunk_long}
use Rattle.copy_take_in.proofs.Start.{start_inside}
use Rattle.bitfield.proofs.StoredBits.{RoomFor, length_held, front_held, held_again_lem, held_turn}
use Rattle.theorem_taking_laws.proofs.Given.{AllFitting, AllRoom, Agree, length_given, front_given, given_turn, length_known, front_known, held_given, known_turn, known_held}
use Rattle.theorem_taking_laws.proofs.Among.{brought_filled, brought_distinct}
use Rattle.theorem_taking_laws.proofs.Starts.{brought_proper}
use Rattle.theorem_packets_commute.specs.Commute.{BothTaken, Commute}
use Rattle.theorem_packets_commute.proofs.Clear.{AllClear, ClearBytes, lower_clear, clear_lower, distinct_agree, agree, later_clear, earlier_clear, later_bytes, earlier_bytes, bytes_turn}

-- ---- the verdict, taken apart

none_refused : (l : Lowest) → refused_at 19 tree l done ≡ done → l ≡ nowhere
unfolding refused_at
none_refused nowhere e = refl
none_refused (first i) e = absurd (let z : ◌≡◌ {A = ℕ} 0 1 = cc in omega arith)

module _ (F : List ℕ → List ℕ) (c : Copy) (p : List ℕ) (i : ℕ) (a : List ℕ) where
  pub record Takes : Type 0 where
    pub passes : Passes F c p i a
    pub bytes : ClearBytes (stored_held c.bitfield i) c.content (packet_start p c.n i) (packet_chunk p)
    pub entries : AllClear c.tree c.bitfield (brought F p c.n i)

  pub takes : take_verdict F c p i a ≡ done → Takes
  unfolding take_verdict contradiction
  takes e =
      let s = staged_passes F c p i a (refused_at 19 tree (contradiction F c p i) done) e in
      let q = lower_clear c.tree c.bitfield c.content i (packet_start p c.n i) (packet_chunk p) (brought F p c.n i)
      (none_refused (contradiction F c p i) s.1) in
      record { passes = s.0; bytes = q.0; entries = q.1 }

  pub taken : Takes → take_verdict F c p i a ≡ done
  unfolding take_verdict contradiction refused_at
  taken w =
      passes_staged F c p i a (refused_at 19 tree (contradiction F c p i) done) w.passes
      ∙ ap (λ (l : Lowest). refused_at 19 tree l done)
      (clear_lower c.tree c.bitfield c.content i (packet_start p c.n i) (packet_chunk p) (brought F p c.n i) w.bytes w.entries)

-- ---- room for what a packet brings

module _ (F : List ℕ → List ℕ) (H : HashFunction F) (c : Copy) (p : List ℕ) (i : ℕ) (l : Lent c) (b : Bytes p) (f : Fits p c.n i) where
  pub fitting : AllFitting c.tree (brought F p c.n i)
  fitting g m =
      let k = knowable c.tree c.bitfield c.n l.count l.tree l.bitfield g.at (brought_filled c.n i f.shaped.chunk F p g m) in
      record {
        inside = k.entry.inside;
        long = entry_bytes_length g.entry (brought_proper F H p b c.n i f g m).long;
      }

  pub room : AllRoom c.bitfield (brought F p c.n i)
  room g m =
      (knowable c.tree c.bitfield c.n l.count l.tree l.bitfield g.at (brought_filled c.n i f.shaped.chunk F p g m)).bit

  pub bit_room : RoomFor c.bitfield (i / 8192)
  bit_room = data_bit c.tree c.bitfield c.n l.count l.tree l.bitfield i f.shaped.chunk.below

  pub own_agree : Agree (brought F p c.n i) (brought F p c.n i)
  own_agree = distinct_agree (brought F p c.n i) (brought_distinct c.n i f.shaped.chunk F p)

  pub bytes_inside : packet_total p c.n i ≡ c.size → packet_start p c.n i + length (packet_chunk p) ≤ length c.content
  bytes_inside e = omega (arith, l.content, start_inside p c.n i, chunk_long p c.n i f.shaped)

-- ---- what a taking in leaves of the checks

module _ (F : List ℕ → List ℕ) (H : HashFunction F) (c : Copy) (p : List ℕ) (i : ℕ) (a : List ℕ) (b : Bytes p) (w : Passes F c p i a) where
  abbrev fit : Fits p c.n i
  fit = fits F c p i a (sym w.packet)

  abbrev given : List Given
  given = brought F p c.n i

  bit_there : RoomFor (with_known c.bitfield given) (i / 8192)
  bit_there =
      subst (λ (x : ℕ). bits_place (i / 8192 + 1) ≤ x) (sym (length_known c.bitfield given)) (bit_room F H c p i w.lent b fit)

  pub lent_after : Lent (taken_in F c p i)
  unfolding taken_in
  lent_after =
      let l = w.lent in
      let ff = fitting F H c p i l b fit in
      let x : length (with_given c.tree given) ≡ length c.tree = length_given c.tree given ff in
      let y : length (held_again (with_known c.bitfield given) i) ≡ length c.bitfield =
      length_held (with_known c.bitfield given) i bit_there ∙ length_known c.bitfield given in
      let z : length (put c.content (packet_start p c.n i) (packet_chunk p)) ≡ length c.content =
      length_put c.content (packet_start p c.n i) (packet_chunk p) (bytes_inside F H c p i l b fit w.total) in
      record {
        count = l.count;
        tree = subst (λ (k : ℕ). used_tree c.n ≤ k) (sym x) l.tree;
        bitfield = subst (λ (k : ℕ). used_bitfield c.n ≤ k) (sym y) l.bitfield;
        content = subst (λ (k : ℕ). c.size ≤ k) (sym z) l.content;
        tree_front_lem = front_given c.tree given ff ∙ l.tree_front_lem;
        bitfield_front =
            front_held (with_known c.bitfield given) i bit_there ∙ front_known c.bitfield given ∙ l.bitfield_front;
      }

  pub held_after : (k : ℕ) → stored_held (taken_in F c p i).bitfield k ≡ (eqb k i || stored_held c.bitfield k)
  unfolding taken_in
  held_after k =
      held_again_lem (with_known c.bitfield given) i bit_there k ∙ ap (λ (x : Bool). eqb k i || x) (held_given c.bitfield given k)

  pub roots_after : total (stored_root_sizes (taken_in F c p i).tree c.n) ≡ packet_total p c.n i
      → passed_over (unknown_root (taken_in F c p i)) (adds_up (taken_in F c p i).tree (taken_in F c p i).n (taken_in F c p i).size) ≡ true
  unfolding adds_up taken_in
  roots_after e = pick (unknown_root (taken_in F c p i))
    where
      adds : eqb (total (stored_root_sizes (with_given c.tree given) c.n)) c.size ≡ true
      adds = eq-eqb _ c.size (e ∙ w.total)

      pick : (l : Lowest) → passed_over l (eqb (total (stored_root_sizes (with_given c.tree given) c.n)) c.size) ≡ true
      pick nowhere = adds
      pick (first k) = refl

-- ---- both

-- how two chunks lie: at one place where they are one, and otherwise one behind the other
pub record Lying (n : ℕ) (p : List ℕ) (i : ℕ) (q : List ℕ) (j : ℕ) : Type 0 where
  pub same : i ≡ j → (packet_start p n i ≡ packet_start q n j) × (length (packet_chunk p) ≡ length (packet_chunk q))
  pub apart : (i ≡ j → ⊥)
      → (packet_start p n i + length (packet_chunk p) ≤ packet_start q n j) ⊎ (packet_start q n j + length (packet_chunk q) ≤ packet_start p n i)

-- the bits of both, the data bits first
bits_both : (bits : List ℕ) (ps qs : List Given) (i j : ℕ) → AllRoom bits ps → AllRoom bits qs → RoomFor bits (i / 8192) → RoomFor bits (j / 8192)
    → held_again (with_known (held_again (with_known bits ps) i) qs) j ≡ with_known (with_known (held_again (held_again bits i) j) ps) qs
bits_both bits ps qs i j rp rq bi bj =
    let one : List ℕ = held_again (with_known bits ps) i in
    let k : length (held_again bits i) ≡ length bits = length_held bits i bi in
    let l : length one ≡ length bits =
    length_held (with_known bits ps) i (subst (λ (x : ℕ). bits_place (i / 8192 + 1) ≤ x) (sym (length_known bits ps)) bi) ∙ length_known bits ps in
    known_held one qs j (subst (λ (x : ℕ). bits_place (j / 8192 + 1) ≤ x) (sym l) bj)
    (λ g m. subst (λ (x : ℕ). bits_place (g.at / 16384 + 1) ≤ x) (sym l) (rq g m))
    ∙ ap (λ (xs : List ℕ). with_known (held_again xs j) qs) (known_held bits ps i bi rp)
    ∙ ap (λ (xs : List ℕ). with_known xs qs)
    (known_held (held_again bits i) ps j (subst (λ (x : ℕ). bits_place (j / 8192 + 1) ≤ x) (sym k) bj)
    (λ g m. subst (λ (x : ℕ). bits_place (g.at / 16384 + 1) ≤ x) (sym k) (rp g m)))

module _ (F : List ℕ → List ℕ) (H : HashFunction F) (c : Copy) (p : List ℕ) (i : ℕ) (a q : List ℕ) (j : ℕ) (b : List ℕ) (bp : Bytes p) (bq : Bytes q)
    (t : BothTaken F c p i a q j b) where
  one : Takes F c p i a
  one = takes F c p i a t.earlier

  two : Takes F (taken_in F c p i) q j b
  two = takes F (taken_in F c p i) q j b t.later

  abbrev ps : List Given
  ps = brought F p c.n i

  abbrev qs : List Given
  qs = brought F q c.n j

  -- the later packet's checks on the copy that has not taken in the earlier one
  pub later_passes : Passes F c q j b
  unfolding taken_in
  later_passes = record { lent = one.passes.lent; roots = one.passes.roots; packet = two.passes.packet; total = two.passes.total }

  abbrev lent : Lent c
  lent = one.passes.lent

  pub fits_p : Fits p c.n i
  fits_p = fits F c p i a (sym one.passes.packet)

  pub fits_q : Fits q c.n j
  fits_q = fits F c q j b (sym later_passes.packet)

  abbrev fp : AllFitting c.tree ps
  fp = fitting F H c p i lent bp fits_p

  abbrev fq : AllFitting c.tree qs
  fq = fitting F H c q j lent bq fits_q

  abbrev rp : AllRoom c.bitfield ps
  rp = room F H c p i lent bp fits_p

  abbrev rq : AllRoom c.bitfield qs
  rq = room F H c q j lent bq fits_q

  abbrev bi : RoomFor c.bitfield (i / 8192)
  bi = bit_room F H c p i lent bp fits_p

  abbrev bj : RoomFor c.bitfield (j / 8192)
  bj = bit_room F H c q j lent bq fits_q

  clear_two : AllClear (with_given c.tree ps) (held_again (with_known c.bitfield ps) i) qs
  unfolding taken_in
  clear_two = two.entries

  -- the two packets agree wherever they meet
  pub both_agree : Agree ps qs
  both_agree = agree c.tree c.bitfield ps qs i j fp fq rp rq bi bj (own_agree F H c p i lent bp fits_p) one.entries clear_two

  module _ (lying : Lying c.n p i q j) (sum : total (stored_root_sizes (taken_in F c q j).tree c.n) ≡ packet_total q c.n j) where
    abbrev sp : ℕ
    sp = packet_start p c.n i

    abbrev sq : ℕ
    sq = packet_start q c.n j

    in_p : sp + length (packet_chunk p) ≤ length c.content
    in_p = bytes_inside F H c p i lent bp fits_p one.passes.total

    in_q : sq + length (packet_chunk q) ≤ length c.content
    in_q = bytes_inside F H c q j lent bq fits_q later_passes.total

    bytes_two : ClearBytes (eqb j i || stored_held c.bitfield j) (put c.content sp (packet_chunk p)) sq (packet_chunk q)
    unfolding taken_in
    bytes_two k = two.bytes (held_after F H c p i a bp one.passes j ∙ k)

    first_round : Takes F c q j b
    first_round =
        record {
          passes = later_passes;
          bytes =
              later_bytes c.content i j sp sq (packet_chunk p) (packet_chunk q) (stored_held c.bitfield) in_p in_q lying.same lying.apart one.bytes bytes_two;
          entries = later_clear c.tree c.bitfield ps qs i j fp fq rp rq bi bj (own_agree F H c p i lent bp fits_p) one.entries clear_two;
        }

    second_round : Takes F (taken_in F c q j) p i a
    unfolding taken_in
    second_round =
        record {
          passes =
              record {
                lent = lent_after F H c q j b bq later_passes;
                roots = roots_after F H c q j b bq later_passes sum;
                packet = one.passes.packet;
                total = one.passes.total;
              };
          bytes =
              λ k.
              earlier_bytes c.content i j sp sq (packet_chunk p) (packet_chunk q) (stored_held c.bitfield) in_p in_q lying.same lying.apart one.bytes bytes_two
              (sym (held_after F H c q j b bq later_passes i) ∙ k);
          entries = earlier_clear c.tree c.bitfield ps qs i j fp fq rp rq bi bj (own_agree F H c p i lent bp fits_p) one.entries clear_two;
        }

    images : taken_in F (taken_in F c p i) q j ≡ taken_in F (taken_in F c q j) p i
    unfolding taken_in
    images =
        let x : with_given (with_given c.tree ps) qs ≡ with_given (with_given c.tree qs) ps = given_turn c.tree ps qs fp fq both_agree in
        let y : held_again (with_known (held_again (with_known c.bitfield ps) i) qs) j ≡ held_again (with_known (held_again (with_known c.bitfield qs) j) ps) i =
        bits_both c.bitfield ps qs i j rp rq bi bj
        ∙ ap (λ (xs : List ℕ). with_known (with_known xs ps) qs) (held_turn c.bitfield i j bi bj)
        ∙ known_turn (held_again (held_again c.bitfield j) i) ps qs ∙ sym (bits_both c.bitfield qs ps j i rq rp bj bi) in
        let z : put (put c.content sp (packet_chunk p)) sq (packet_chunk q) ≡ put (put c.content sq (packet_chunk q)) sp (packet_chunk p) =
        bytes_turn c.content i j sp sq (packet_chunk p) (packet_chunk q) (stored_held c.bitfield) in_p in_q lying.same lying.apart one.bytes bytes_two in
        cc

    pub commutes : Commute F c p i a q j b
    commutes =
        record {
          round = record { earlier = taken F c q j b first_round; later = taken F (taken_in F c q j) p i a second_round };
          images = images;
        }
