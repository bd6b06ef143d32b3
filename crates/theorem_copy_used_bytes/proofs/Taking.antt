-- Taking in a packet gets the same of a copy and of the same cut to its used sizes, and leaves what lies behind them. Assumes nothing.
use Prim.Native.Nat.{ℕ, ◌+◌, ◌/◌, ◌≤◌, ◌<◌}
use mathlib.Core.Path.{◌≡◌, refl, sym, ap, ap₂, ◌∙◌, subst}
use mathlib.Core.Bool.{Bool, true, ◌&&◌, not}
use mathlib.Core.Logic.{inl, inr}
use mathlib.Core.List.{List, [], ◌∷◌, map}
use native.Mathlib.Omega.{arith}
use borrow.Author.Tests.{eqb-true}
use lib.ListN.{length, take}
use Rattle.answer_types.specs.Verdict.{Verdict, tree, done, and_then}
use Rattle.byte_strings.specs.Lists.{put, same_list, Bytes}
use Rattle.byte_strings.specs.Lowest.{Lowest}
use Rattle.byte_strings.proofs.Lists.{length_put, drop_put, part_take}
use Rattle.tree_index.specs.Tree.{index, filled}
use Rattle.tree_index.proofs.Filled.{filled_below}
use Rattle.bitfield.specs.Append.{bits_place}
use Rattle.bitfield.specs.Known.{held_again}
use Rattle.file_format.specs.Sizes.{entry_place, used_tree, used_bitfield}
use Rattle.file_format.specs.Messages.{HashFunction}
use Rattle.file_format.specs.Entries.{entry_bytes}
use Rattle.file_format.proofs.OfImage.{entry_inside}
use Rattle.checks.specs.Checks.{judged}
use Rattle.checks.proofs.Judged.{judged_same}
use Rattle.audit.specs.Audit.{refused_at}
use Rattle.packet.specs.Check.{packet_chunk, packet_total, packet_verdict}
use Rattle.release.proofs.Answers.{front_put}
use Rattle.copy_checks.specs.Copy.{Copy}
use Rattle.copy_checks.specs.Checks.{partly_judged}
use Rattle.copy_checks.specs.Least.{lower_of, least_of}
use Rattle.copy_take_in.specs.TakeIn.{Given, packet_start, contradicted, bytes_contradicted, index_if, contradicts, with_given, with_known, brought, contradiction, take_verdict, taken_in}
use Rattle.copy_take_in.specs.Inner.{Fits}
use Rattle.copy_take_in.proofs.Stages.{Passes, total_check, staged_passes, fits}
use Rattle.copy_take_in.proofs.Start.{start_inside}
use Rattle.copy_take_in.proofs.Places.{chunk_long}
use Rattle.byte_strings.proofs.Members.{In}
use Rattle.bitfield.proofs.StoredBits.{RoomFor, length_held}
use Rattle.theorem_taking_laws.proofs.Given.{bytes_for, AllFitting, length_given, still_given, behind_given, length_known}
use Rattle.theorem_taking_laws.proofs.Among.{brought_filled}
use Rattle.theorem_packets_commute.proofs.Turns.{fitting, room, bit_room, bytes_inside}
use Rattle.theorem_used_bytes.proofs.Cut.{held_cut, entry_cut}
use Rattle.theorem_used_bytes.proofs.Lookups.{then_same}
use Rattle.theorem_copy_used_bytes.specs.UsedBytes.{SameUsed}
use Rattle.theorem_copy_used_bytes.specs.Behind.{KeptBehind}
use Rattle.theorem_copy_used_bytes.proofs.Cut.{cut_copy, same_cut, of_cut, known_cut, partly_cut}
use Rattle.theorem_copy_used_bytes.proofs.Bits.{taken_front, taken_rest}

-- entries that lie in the first m bytes of a tree file
given_front : (m : ℕ) (t : List ℕ) (gs : List Given) → AllFitting t gs → ((g : Given) → In g gs → entry_place g.at + 40 ≤ m) → m ≤ length t
    → take m (with_given t gs) ≡ with_given (take m t) gs
unfolding with_given In
given_front m t [] f b h = refl
given_front m t (g ∷ gs) f b h =
    let w = f g (inl refl) in
    let long : length (put t (entry_place g.at) (bytes_for g)) ≡ length t = length_put t (entry_place g.at) (bytes_for g) (omega (arith, w.inside, w.long)) in
    given_front m (put t (entry_place g.at) (bytes_for g)) gs
    (still_given t (g ∷ []) gs (λ y l. elim l [ inl e ↦ f y (inl e) | inr e ↦ absurd e ]) (λ y l. f y (inr l))) (λ y l. b y (inr l)) (omega arith)
    ∙ ap (λ (v : List ℕ). with_given v gs) (front_put t m (entry_place g.at) (bytes_for g) h (omega (arith, w.long, b g (inl refl))))

-- functions that agree on the elements of a list
pub map_same : {A B : Type 0} (f g : A → B) (xs : List A) → ((x : A) → In x xs → f x ≡ g x) → map f xs ≡ map g xs
unfolding In
map_same f g [] h = refl
map_same f g (x ∷ xs) h = ap₂ ◌∷◌ (h x (inl refl)) (map_same f g xs (λ y m. h y (inr m)))

module _ (F : List ℕ → List ℕ) (c : Copy) (p : List ℕ) (i : ℕ) where
  abbrev gs : List Given
  gs = brought F p c.n i

  abbrev chunk : List ℕ
  chunk = packet_chunk p

  abbrev start : ℕ
  start = packet_start p c.n i

  -- ---- what contradicts

  entry_same : (x : Given) → filled c.n x.at ≡ true → contradicts (cut_copy c).tree (cut_copy c).bitfield x ≡ contradicts c.tree c.bitfield x
  unfolding contradicted
  entry_same x f =
      let k = known_cut c.bitfield c.n x.at f in
      let e = entry_cut c.tree c.n x.at (filled_below c.n x.at f) in
      λ j. index_if (k j && not (same_list (e j) (entry_bytes x.entry))) x.at

  bytes_same : i < c.n → start + length chunk ≤ c.size
      → bytes_contradicted (cut_copy c).bitfield (cut_copy c).content i start chunk ≡ bytes_contradicted c.bitfield c.content i start chunk
  unfolding bytes_contradicted
  bytes_same h l =
      let k = held_cut c.bitfield c.n i h in
      let e = part_take c.content c.size start (length chunk) l in
      λ j. k j && not (same_list (e j) chunk)

  contradiction_cut : Fits p c.n i → packet_total p c.n i ≡ c.size → contradiction F (cut_copy c) p i ≡ contradiction F c p i
  unfolding contradiction
  contradiction_cut f e =
      ap₂ (λ (x : Bool) (l : List Lowest). lower_of (index_if x (index 0 i)) (least_of l))
      (bytes_same f.shaped.chunk.below (omega (arith, start_inside p c.n i, chunk_long p c.n i f.shaped)))
      (map_same (contradicts (cut_copy c).tree (cut_copy c).bitfield) (contradicts c.tree c.bitfield) gs
      (λ x m. entry_same x (brought_filled c.n i f.shaped.chunk F p x m)))

  module _ (root : List ℕ) where
    abbrev own : Copy → Verdict
    own d = refused_at 19 tree (contradiction F d p i) done

    pub take_cut : take_verdict F (cut_copy c) p i root ≡ take_verdict F c p i root
    unfolding take_verdict
    take_cut =
        partly_cut c (and_then (packet_verdict F p c.n i root) (judged (total_check c p i) (own (cut_copy c))))
        ∙ ap (partly_judged c)
        (then_same (packet_verdict F p c.n i root) (judged (total_check c p i) (own (cut_copy c))) (judged (total_check c p i) (own c))
        (λ e. judged_same (total_check c p i) (own (cut_copy c)) (own c)
        (λ r. ap (λ (l : Lowest). refused_at 19 tree l done)
        (contradiction_cut (fits F c p i root (sym e)) (eqb-true (packet_total p c.n i) c.size r.0)))))

    -- ---- what is written

    module _ (H : HashFunction F) (B : Bytes p) (e : take_verdict F c p i root ≡ done) where
      passes : (d : Copy) → take_verdict F d p i root ≡ done → Passes F d p i root
      unfolding take_verdict
      passes d q = (staged_passes F d p i root (refused_at 19 tree (contradiction F d p i) done) q).0

      pc : Passes F c p i root
      pc = passes c e

      fit : Fits p c.n i
      fit = fits F c p i root (sym pc.packet)

      ff : AllFitting c.tree gs
      ff = fitting F H c p i pc.lent B fit

      -- and of the copy cut
      pk : Passes F (cut_copy c) p i root
      pk = passes (cut_copy c) (take_cut ∙ e)

      inside : (g : Given) → In g gs → entry_place g.at + 40 ≤ used_tree c.n
      inside g m = entry_inside g.at c.n (filled_below c.n g.at (brought_filled c.n i fit.shaped.chunk F p g m))

      bytes_in_lem : start + length chunk ≤ c.size
      bytes_in_lem = omega (arith, start_inside p c.n i, chunk_long p c.n i fit.shaped, pc.total)

      bits_front : take (used_bitfield c.n) (held_again (with_known c.bitfield gs) i) ≡ held_again (with_known (cut_copy c).bitfield gs) i
      bits_front =
          taken_front c.bitfield (used_bitfield c.n) pc.lent.bitfield gs i (room F H (cut_copy c) p i pk.lent B fit)
          (bit_room F H (cut_copy c) p i pk.lent B fit)

      taken_cut : cut_copy (taken_in F c p i) ≡ taken_in F (cut_copy c) p i
      unfolding taken_in
      taken_cut =
          let t = given_front (used_tree c.n) c.tree gs ff inside pc.lent.tree in
          let d = front_put c.content c.size start chunk pc.lent.content bytes_in_lem in
          λ j. record { tree = t j; bitfield = bits_front j; content = d j; n = c.n; size = c.size }

      bit_there : RoomFor (with_known c.bitfield gs) (i / 8192)
      bit_there =
          subst (λ (x : ℕ). bits_place (i / 8192 + 1) ≤ x) (sym (length_known c.bitfield gs)) (bit_room F H c p i pc.lent B fit)

      pub taken_behind : KeptBehind c (taken_in F c p i)
      unfolding taken_in
      taken_behind =
          record {
            tree = record { long = length_given c.tree gs ff; behind = behind_given (used_tree c.n) c.tree gs ff inside };
            bitfield =
                record {
                  long = length_held (with_known c.bitfield gs) i bit_there ∙ length_known c.bitfield gs;
                  behind =
                      taken_rest c.bitfield (used_bitfield c.n) pc.lent.bitfield gs i (room F H (cut_copy c) p i pk.lent B fit)
                      (bit_room F H (cut_copy c) p i pk.lent B fit);
                };
            content =
                record {
                  long = length_put c.content start chunk (bytes_inside F H c p i pc.lent B fit pc.total);
                  behind = drop_put c.size c.content start chunk bytes_in_lem (omega (arith, bytes_in_lem, pc.lent.content));
                };
          }

pub take_same : (F : List ℕ → List ℕ) (a b : Copy) → SameUsed a b → (p : List ℕ) (i : ℕ) (root : List ℕ) → take_verdict F a p i root ≡ take_verdict F b p i root
take_same F a b h p i root = sym (take_cut F a p i root) ∙ ap (λ (c : Copy). take_verdict F c p i root) (same_cut a b h) ∙ take_cut F b p i root

pub taken_same : (F : List ℕ → List ℕ) (a b : Copy) → SameUsed a b → HashFunction F → (p : List ℕ) → Bytes p → (i : ℕ) (root : List ℕ)
    → take_verdict F a p i root ≡ done → SameUsed (taken_in F a p i) (taken_in F b p i)
taken_same F a b h H p B i root e =
    of_cut (taken_in F a p i) (taken_in F b p i)
    (taken_cut F a p i root H B e ∙ ap (λ (c : Copy). taken_in F c p i) (same_cut a b h)
    ∙ sym (taken_cut F b p i root H B (sym (take_same F a b h p i root) ∙ e)))
