-- The calls that write say the same of registers with the same used bytes, where both have room or both lack it.
-- Assumes nothing.
use Prim.Native.Nat.{ℕ, ◌+◌, ◌-◌, ◌≤◌, ◌<◌}
use mathlib.Core.Path.{◌≡◌, refl, sym, ap, ◌∙◌, subst}
use mathlib.Core.Bool.{Bool, true, false, cond, not, ◌&&◌}
use mathlib.Core.Logic.{◌↔◌}
use mathlib.Core.List.{List}
use borrow.Author.Tests.{leb-true, ltb-true, eqb-true, eqb-false, le-leb, not-true}
use lib.Dec.{leb, ltb, eqb}
use lib.ListN.{length}
use Rattle.answer_types.specs.Verdict.{Verdict, none, done, refused}
use Rattle.file_format.specs.Sizes.{most_chunks, longest_chunk, used_tree, used_signatures, used_bitfield}
use Rattle.file_format.specs.Belongs.{Buffers, Register}
use Rattle.checks.specs.Checks.{Check, judged, later_checks, register_checks}
use Rattle.checks.proofs.Judged.{AllRight, judged_same}
use Rattle.checks.proofs.Passed.{right_all}
use Rattle.compare.proofs.Local.{cond_same}
use Rattle.writing.specs.Start.{start_checks, start_verdict}
use Rattle.writing.specs.Append.{own_checks, append_verdict}
use Rattle.writing.specs.Sign.{own_sign_checks, sign_verdict}
use Rattle.writing.specs.Conditions.{StartFits, AppendFits, SignFits}
use Rattle.writing.proofs.Orders.{append_order, sign_order}
use Rattle.writing.proofs.Verdicts.{one_owed}
use Rattle.byte_strings.specs.Lists.{total}
use Rattle.byte_strings.proofs.Bools.{both_true, true_both}
use Rattle.checks.specs.Lengths.{most_listed}
use Rattle.checks.proofs.Lengths.{short_at}
use Rattle.append_list.specs.Append.{list_checks, room_checks, list_verdict}
use Rattle.append_list.specs.Inner.{own_verdict}
use Rattle.append_list.specs.Conditions.{ListFits}
use Rattle.append_list.proofs.Orders.{list_order}
use Rattle.theorem_used_bytes.specs.UsedBytes.{SameUsed}
use Rattle.theorem_used_bytes.proofs.Cut.{same_cut, later_cut, checks_cut}

-- ---- verdicts

later_same : (a b : Register) → SameUsed a b → later_checks a ≡ later_checks b
later_same a b h = sym (later_cut a) ∙ ap later_checks (same_cut a b h) ∙ later_cut b

checks_same : (a b : Register) → SameUsed a b → register_checks a ≡ register_checks b
checks_same a b h = sym (checks_cut a) ∙ ap register_checks (same_cut a b h) ∙ checks_cut b

same_test : (p q : Bool) → (p ≡ true → q ≡ true) → (q ≡ true → p ≡ true) → p ≡ q
same_test true q f g = sym (f refl)
same_test false true f g = g refl
same_test false false f g = refl

-- room in three buffers
abbrev rooms : Bool → Bool → Bool → Verdict
rooms x y z = cond x (cond y (cond z done (refused 14 none)) (refused 14 none)) (refused 14 none)

rooms_all : (x y z : Bool) → rooms x y z ≡ cond (x && (y && z)) done (refused 14 none)
rooms_all true true true = refl
rooms_all true true false = refl
rooms_all true false z = refl
rooms_all false y z = refl

rooms_same : (x y z u v w : Bool) → (x && (y && z)) ≡ (u && (v && w)) → rooms x y z ≡ rooms u v w
rooms_same x y z u v w e = rooms_all x y z ∙ ap (λ (t : Bool). cond t done (refused 14 none)) e ∙ sym (rooms_all u v w)

-- three buffers are long enough
three : (k l m a b c : ℕ) → (leb k a && (leb l b && leb m c)) ≡ true → (k ≤ a) × (l ≤ b) × (m ≤ c)
three k l m a b c e =
    let p = both_true (leb k a) (leb l b && leb m c) e in
    let q = both_true (leb l b) (leb m c) p.1 in
    (leb-true k a p.0, leb-true l b q.0, leb-true m c q.1)

all_three : (k l m a b c : ℕ) → k ≤ a → l ≤ b → m ≤ c → (leb k a && (leb l b && leb m c)) ≡ true
all_three k l m a b c x y z =
    true_both (leb k a) (leb l b && leb m c) (le-leb k a x) (true_both (leb l b) (leb m c) (le-leb l b y) (le-leb m c z))

-- ---- a start

start_fits : (b : Buffers) → (leb 32 (length b.tree) && (leb 32 (length b.signatures) && leb 32 (length b.bitfield))) ≡ true → StartFits b
start_fits b e = let p = three 32 32 32 (length b.tree) (length b.signatures) (length b.bitfield) e in record { tree = p.0; signatures = p.1; bitfield = p.2 }

fits_start : (b : Buffers) → StartFits b → (leb 32 (length b.tree) && (leb 32 (length b.signatures) && leb 32 (length b.bitfield))) ≡ true
fits_start b f = all_three 32 32 32 (length b.tree) (length b.signatures) (length b.bitfield) f.tree f.signatures f.bitfield

pub start_same : (a b : Buffers) → StartFits a ↔ StartFits b → start_verdict a ≡ start_verdict b
unfolding start_verdict start_checks judged
start_same a b f =
    rooms_same (leb 32 (length a.tree)) (leb 32 (length a.signatures)) (leb 32 (length a.bitfield)) (leb 32 (length b.tree))
    (leb 32 (length b.signatures)) (leb 32 (length b.bitfield))
    (same_test _ _ (λ e. fits_start b (f.0 (start_fits a e))) (λ e. fits_start a (f.1 (start_fits b e))))

-- ---- a stored signature

module _ (a b : Register) (h : SameUsed a b) where
  pub sign_same : SignFits a ↔ SignFits b → sign_verdict a ≡ sign_verdict b
  unfolding own_sign_checks judged
  sign_same f =
      sign_order a ∙ ap (λ (cs : List Check). judged cs (own a)) (checks_same a b h) ∙ judged_same (register_checks b) (own a) (own b) decided ∙ sym (sign_order b)
    where
      own : Register → Verdict
      own r = judged (own_sign_checks r.signatures r.n r.s) done

      room : Register → Bool
      room r = leb (used_signatures (r.s + 1)) (length r.signatures)

      decided : AllRight (register_checks b) → own a ≡ own b
      decided p =
          (λ i. cond (not (eqb (h.s i) (h.n i))) (cond (room a) done (refused 14 none)) (refused 8 none))
          ∙ cond_same (not (eqb b.s b.n)) (cond (room a) done (refused 14 none)) (cond (room b) done (refused 14 none)) (refused 8 none)
          (λ e.
          let owed : b.s + 1 ≡ b.n = one_owed b.n b.s (right_all b p).signed (eqb-false b.s b.n (not-true (eqb b.s b.n) e)) in
          let owes : a.s + 1 ≡ a.n = ap (λ (k : ℕ). k + 1) h.s ∙ owed ∙ sym h.n in
          ap (λ (t : Bool). cond t done (refused 14 none))
          (same_test (room a) (room b)
          (λ t. le-leb (used_signatures (b.s + 1)) (length b.signatures) (f.0 (record { owed = owes; room = leb-true (used_signatures (a.s + 1)) (length a.signatures) t })).room)
          (λ t. le-leb (used_signatures (a.s + 1)) (length a.signatures) (f.1 (record { owed = owed; room = leb-true (used_signatures (b.s + 1)) (length b.signatures) t })).room)))

-- ---- an append

module _ (r : Register) (chunk : List ℕ) where
  -- room for its result
  room : Bool
  room =
      leb (used_tree (r.n + 1)) (length r.tree)
      && (leb (used_bitfield (r.n + 1)) (length r.bitfield) && leb (r.size + length chunk) (length r.content))

  room_fits : r.n < most_chunks → length chunk ≤ longest_chunk → r.s ≡ r.n → room ≡ true → AppendFits r chunk
  unfolding room
  room_fits few short paid e =
      let p = three (used_tree (r.n + 1)) (used_bitfield (r.n + 1)) (r.size + length chunk) (length r.tree) (length r.bitfield) (length r.content) e in
      record { fewer = few; short = short; paid = paid; tree = p.0; bitfield = p.1; content = p.2 }

  fits_room : AppendFits r chunk → room ≡ true
  unfolding room
  fits_room f =
      all_three (used_tree (r.n + 1)) (used_bitfield (r.n + 1)) (r.size + length chunk) (length r.tree) (length r.bitfield) (length r.content) f.tree
      f.bitfield f.content

  -- 7, 8 and 14
  own_verdict_lem : judged (own_checks r chunk) done
      ≡ cond (leb (length chunk) longest_chunk) (cond (eqb r.s r.n) (cond room done (refused 14 none)) (refused 8 none)) (refused 7 none)
  unfolding own_checks judged room
  own_verdict_lem =
      ap (λ (v : Verdict). cond (leb (length chunk) longest_chunk) (cond (eqb r.s r.n) v (refused 8 none)) (refused 7 none))
      (rooms_all (leb (used_tree (r.n + 1)) (length r.tree)) (leb (used_bitfield (r.n + 1)) (length r.bitfield)) (leb (r.size + length chunk) (length r.content)))

module _ (a b : Register) (chunk : List ℕ) (h : SameUsed a b) where
  pub append_same : AppendFits a chunk ↔ AppendFits b chunk → append_verdict a chunk ≡ append_verdict b chunk
  append_same f =
      append_order a chunk
      ∙ (λ i. cond (ltb (h.n i) most_chunks) (judged (later_same a b h i) (judged (own_checks a chunk) done)) (refused 2 none))
      ∙ cond_same (ltb b.n most_chunks) (judged (later_checks b) (judged (own_checks a chunk) done)) (judged (later_checks b) (judged (own_checks b chunk) done))
      (refused 2 none)
      (λ e. ap (judged (later_checks b)) (own (ltb-true b.n most_chunks e)))
      ∙ sym (append_order b chunk)
    where
      rest : Bool → Verdict
      rest t = cond t done (refused 14 none)

      own : b.n < most_chunks → judged (own_checks a chunk) done ≡ judged (own_checks b chunk) done
      own few =
          own_verdict_lem a chunk
          ∙ (λ i. cond (leb (length chunk) longest_chunk) (cond (eqb (h.s i) (h.n i)) (rest (room a chunk)) (refused 8 none)) (refused 7 none))
          ∙ cond_same (leb (length chunk) longest_chunk) (cond (eqb b.s b.n) (rest (room a chunk)) (refused 8 none))
          (cond (eqb b.s b.n) (rest (room b chunk)) (refused 8 none)) (refused 7 none)
          (λ e. cond_same (eqb b.s b.n) (rest (room a chunk)) (rest (room b chunk)) (refused 8 none)
          (λ g. ap rest (rooms_agree (leb-true (length chunk) longest_chunk e) (eqb-true b.s b.n g))))
          ∙ sym (own_verdict_lem b chunk)
        where
          rooms_agree : length chunk ≤ longest_chunk → b.s ≡ b.n → room a chunk ≡ room b chunk
          rooms_agree short paid =
              same_test (room a chunk) (room b chunk)
              (λ t. fits_room b chunk (f.0 (room_fits a chunk (subst (λ (n : ℕ). n < most_chunks) (sym h.n) few) short (h.s ∙ paid ∙ sym h.n) t)))
              (λ t. fits_room a chunk (f.1 (room_fits b chunk few short paid t)))

-- ---- a list

-- room in four buffers
rooms_four : (x y z w : Bool) → cond x (cond y (cond z (cond w done (refused 14 none)) (refused 14 none)) (refused 14 none)) (refused 14 none) ≡ cond (x && (y && (z && w))) done (refused 14 none)
rooms_four true y z w = rooms_all y z w
rooms_four false y z w = refl

module _ (r : Register) (ls bs : List ℕ) where
  abbrev k : ℕ
  k = length ls

  -- room for its result
  list_room : Bool
  list_room =
      leb (used_tree (r.n + k)) (length r.tree)
      && (leb (used_signatures (r.n + k - 1)) (length r.signatures)
      && (leb (used_bitfield (r.n + k)) (length r.bitfield) && leb (r.size + length bs) (length r.content)))

  -- 8 and 14
  list_own : judged (room_checks r k (length bs)) done ≡ cond (eqb r.s r.n) (cond list_room done (refused 14 none)) (refused 8 none)
  unfolding room_checks judged list_room
  list_own =
      ap (λ (v : Verdict). cond (eqb r.s r.n) v (refused 8 none))
      (rooms_four (leb (used_tree (r.n + k)) (length r.tree)) (leb (used_signatures (r.n + k - 1)) (length r.signatures))
      (leb (used_bitfield (r.n + k)) (length r.bitfield)) (leb (r.size + length bs) (length r.content)))

  list_room_fits : r.n + k ≤ most_chunks → AllRight (list_checks ls bs) → r.s ≡ r.n → list_room ≡ true → ListFits r ls bs
  unfolding list_checks list_room
  list_room_fits few p paid e =
      let a = both_true (leb (used_tree (r.n + k)) (length r.tree)) _ e in
      let b = three (used_signatures (r.n + k - 1)) (used_bitfield (r.n + k)) (r.size + length bs) (length r.signatures) (length r.bitfield) (length r.content) a.1 in
      record {
        fewer = few;
        some = ltb-true 0 k p.0;
        most = leb-true k most_listed p.1.0;
        adds = eqb-true (total ls) (length bs) p.1.1.0;
        short = λ i. short_at ls i p.1.1.1.0;
        paid = paid;
        tree = leb-true (used_tree (r.n + k)) (length r.tree) a.0;
        signatures = b.0;
        bitfield = b.1;
        content = b.2;
      }

  fits_list_room : ListFits r ls bs → list_room ≡ true
  unfolding list_room
  fits_list_room f =
      true_both (leb (used_tree (r.n + k)) (length r.tree)) _ (le-leb (used_tree (r.n + k)) (length r.tree) f.tree)
      (all_three (used_signatures (r.n + k - 1)) (used_bitfield (r.n + k)) (r.size + length bs) (length r.signatures) (length r.bitfield) (length r.content)
      f.signatures f.bitfield f.content)

module _ (a b : Register) (ls bs : List ℕ) (h : SameUsed a b) (f : ListFits a ls bs ↔ ListFits b ls bs) where
  list_rooms : b.n + length ls ≤ most_chunks → AllRight (list_checks ls bs) → b.s ≡ b.n → list_room a ls bs ≡ list_room b ls bs
  list_rooms few p paid =
      same_test (list_room a ls bs) (list_room b ls bs)
      (λ t. fits_list_room b ls bs (f.0 (list_room_fits a ls bs (subst (λ (n : ℕ). n + length ls ≤ most_chunks) (sym h.n) few) p (h.s ∙ paid ∙ sym h.n) t)))
      (λ t. fits_list_room a ls bs (f.1 (list_room_fits b ls bs few p paid t)))

  list_owns : b.n + length ls ≤ most_chunks → AllRight (list_checks ls bs)
      → judged (room_checks a (length ls) (length bs)) done ≡ judged (room_checks b (length ls) (length bs)) done
  list_owns few p =
      list_own a ls bs
      ∙ (λ i. cond (eqb (h.s i) (h.n i)) (cond (list_room a ls bs) done (refused 14 none)) (refused 8 none))
      ∙ cond_same (eqb b.s b.n) (cond (list_room a ls bs) done (refused 14 none)) (cond (list_room b ls bs) done (refused 14 none)) (refused 8 none)
      (λ g. ap (λ (t : Bool). cond t done (refused 14 none)) (list_rooms few p (eqb-true b.s b.n g)))
      ∙ sym (list_own b ls bs)

  pub list_same : list_verdict a ls bs ≡ list_verdict b ls bs
  unfolding own_verdict
  list_same =
      let w : Register → Verdict = λ r. judged (list_checks ls bs) (judged (room_checks r (length ls) (length bs)) done) in
      list_order a ls bs
      ∙ (λ i. cond (ltb (h.n i) most_chunks) (cond (leb (h.n i + length ls) most_chunks) (judged (later_same a b h i) (w a)) (refused 2 none)) (refused 2 none))
      ∙ ap (λ (v : Verdict). cond (ltb b.n most_chunks) v (refused 2 none))
      (cond_same (leb (b.n + length ls) most_chunks) (judged (later_checks b) (w a)) (judged (later_checks b) (w b)) (refused 2 none)
      (λ e. ap (judged (later_checks b)) (judged_same (list_checks ls bs) _ _ (list_owns (leb-true (b.n + length ls) most_chunks e)))))
      ∙ sym (list_order b ls bs)
