-- Begin, put and end make the encoding. Assumes nothing.
use Rattle.std.specs.Prelude.{Ok, is_ok}
use Prim.Native.Nat.{ℕ, ◌+◌, ◌≤◌, ◌<◌}
use native.Mathlib.Omega.{arith}
use mathlib.Core.Path.{◌≡◌, refl, sym, ap, ap₂, ◌∙◌, subst}
use mathlib.Core.Bool.{true}
use mathlib.Core.List.{List, [], ◌∷◌, ◌++◌, append_assoc, append-nil, Memᴰ}
use lib.ListN.{length, take, drop, length-append}
use lib.Seq.{take_at, drop_at}
use lib.Dec.{eqb, leb}
use borrow.Author.Tests.{eq-eqb, le-leb}
use Rattle.byte_strings.specs.Lists.{put, zeros}
use Rattle.byte_strings.specs.Numbers.{be}
use Rattle.byte_strings.proofs.Lists.{drop_behind, length_put, take_put, put_front}
use Rattle.byte_strings.proofs.Numbers.{length_be}
use Rattle.byte_strings.proofs.Bools.{true_both}
use Rattle.journal.specs.Ranges.{Range, replaced, fresh, blank, witness, start, Placed}
use Rattle.journal.specs.Form.{Journal, WellFormed, kind_of, size_of, payload, header, encode, encode_all, magic, words, long_of, body, journal_bytes}
use Rattle.journal.specs.Places.{length_right}
use Rattle.journal.specs.Reading.{table}
use Rattle.journal.proofs.Answers.{done_written}
use Rattle.journal.proofs.Lengths.{words_length}
use Rattle.journal_making.specs.Making.{begin_said, begun, fitting, room_for, range_bytes, put_after, end_said, sealed, end_after}
use Rattle.journal_making.proofs.Answers.{begin_done, put_done, end_done}
use Rattle.journal_making.proofs.Puts.{put_next}
use Rattle.theorem_journal_exact.specs.Exact.{Hashed}
use Rattle.theorem_journal_exact.proofs.Made.{Alike, header_long}
use Rattle.theorem_journal_exact.proofs.Passes.{one_encoded}
use Rattle.theorem_journal_exact.proofs.Laid.{below_ten, encodable, laid_front, laid_table}
use Rattle.theorem_journal_exact.proofs.Encoded.{body_long}
use Rattle.theorem_journal_whole.specs.Making.{old_bytes, new_bytes, says_put, after_put, PutsDone, put_all, filled, ranges_end, Makes, MakesForAll}

-- ---- one range

all_bytes : (r : Range) → old_bytes r ++ new_bytes r ≡ payload r
all_bytes (replaced at o n) = refl
all_bytes (fresh at n) = refl
all_bytes (blank at k) = refl
all_bytes (witness at w) = append-nil w

-- a range has as many bytes as its kind asks
fits : (r : Range) → Alike r → fitting (kind_of r) (size_of r) (length (old_bytes r)) (length (new_bytes r)) ≡ true
unfolding fitting
fits (replaced at o n) a = true_both (eqb (length o) (length n)) (eqb (length n) (length n)) (eq-eqb (length o) (length n) a) (eq-eqb (length n) (length n) refl)
fits (fresh at n) a = eq-eqb (length n) (length n) refl
fits (blank at k) a = refl
fits (witness at w) a = true_both (eqb (length w) (length w)) true (eq-eqb (length w) (length w) refl) refl

module _ (p : Placed) where
  abbrev r : Range
  r = p.range

  encoded : range_bytes p.file (kind_of r) (start r) (size_of r) (old_bytes r) (new_bytes r) ≡ encode p
  unfolding range_bytes encode
  encoded = ap (λ (z : List ℕ). header p.file (kind_of r) (start r) (size_of r) ++ z) (all_bytes r)

  encoded_long : length (encode p) ≡ 18 + (length (old_bytes r) + length (new_bytes r))
  unfolding encode
  encoded_long =
      let x : length (payload r) ≡ length (old_bytes r) + length (new_bytes r) = ap length (sym (all_bytes r)) ∙ length-append (old_bytes r) (new_bytes r) in
      length-append (header p.file (kind_of r) (start r) (size_of r)) (payload r) ∙ omega (arith, header_long p.file (kind_of r) (start r) (size_of r))

module _ (j : List ℕ) (q : ℕ) (p : Placed) (low : p.file < 10) (a : Alike p.range) (room : q + length (encode p) + 32 ≤ length j) where
  has_room : room_for (length j) q (length (old_bytes p.range)) (length (new_bytes p.range)) ≡ true
  unfolding room_for
  has_room = let x = encoded_long p in le-leb (q + 18 + (length (old_bytes p.range) + length (new_bytes p.range)) + 32) (length j) (omega arith)

  put_says : says_put j q p ≡ Ok (q + length (encode p))
  put_says =
      let x = encoded_long p in
      let d : q + 18 + (length (old_bytes p.range) + length (new_bytes p.range)) ≡ q + length (encode p) = omega arith in
      sym (put_done j q p.file (kind_of p.range) (size_of p.range) (old_bytes p.range) (new_bytes p.range) low (fits p.range a) has_room) ∙ ap Ok d

  put_gives : after_put j q p ≡ put j q (encode p)
  unfolding put_after
  put_gives = sym (done_written _ (says_put j q p) _ j refl (sym put_says)) ∙ ap (put j q) (encoded p)

-- ---- ranges one behind another

module _ (j : List ℕ) where
  pub record Filled (front : List ℕ) (q : ℕ) (ps : List Placed) : Type 0 where
    pub done : PutsDone (put j 0 front) q ps
    pub gives : put_all (put j 0 front) q ps ≡ put j 0 (front ++ encode_all ps)

  nothing : (front : List ℕ) → front ++ encode_all [] ≡ front
  unfolding encode_all
  nothing front = append-nil front

  fill : (ps : List Placed) (front : List ℕ) (q : ℕ) → q ≡ length front → length front + length (encode_all ps) + 32 ≤ length j
      → ((p : Placed) → Memᴰ p ps → (p.file < 10) × Alike p.range) → Filled front q ps
  fill [] front q e room each = record { done = tt; gives = ap (put j 0) (sym (nothing front)) }
  fill (p ∷ ps) front q e room each =
      let n : length (encode_all (p ∷ ps)) ≡ length (encode p) + length (encode_all ps) = ap length (one_encoded p ps) ∙ length-append (encode p) (encode_all ps) in
      let l : length (put j 0 front) ≡ length j = length_put j 0 front (omega arith) in
      let h = each p (Memᴰ.head refl) in
      let y = length-append front (encode p) in
      let g : after_put (put j 0 front) q p ≡ put j 0 (front ++ encode p) =
      put_gives (put j 0 front) q p h.0 h.1 (omega arith) ∙ put_next j 0 front (encode p) q (omega arith) (omega arith) in
      let rest : Filled (front ++ encode p) (q + length (encode p)) ps = fill ps (front ++ encode p) (q + length (encode p)) (omega arith) (omega arith) (λ z k. each z (Memᴰ.tail k)) in
      record {
        done = (put_says (put j 0 front) q p h.0 h.1 (omega arith), subst (λ (b : List ℕ). PutsDone b (q + length (encode p)) ps) (sym g) rest.done);
        gives = ap (λ (b : List ℕ). put_all b (q + length (encode p)) ps) g ∙ rest.gives
            ∙ ap (put j 0) (append_assoc front (encode p) (encode_all ps) ∙ ap (λ (z : List ℕ). front ++ z) (sym (one_encoded p ps)));
      }

-- ---- all of it

-- the own length, over whatever stood there
module _ (own zs rest : List ℕ) (ol : length own ≡ 8) (zl : length zs ≡ 8) where
  owned : put (magic ++ (zs ++ rest)) 16 own ≡ magic ++ (own ++ rest)
  unfolding put
  owned =
      ap₂ (λ (a b : List ℕ). a ++ (own ++ b)) (take_at magic (zs ++ rest) 16 refl)
      (ap (λ (n : ℕ). drop (16 + n) (magic ++ (zs ++ rest))) ol ∙ drop_behind magic (zs ++ rest) 16 8 refl ∙ drop_at zs rest 8 zl)

-- a hash behind what is hashed
hashed : (xs tail h : List ℕ) (q : ℕ) → length xs ≡ q → length h ≡ 32 → take (q + 32) (put (xs ++ tail) q h) ≡ xs ++ h
unfolding put
hashed xs tail h q e hl =
    ap (λ (z : List ℕ). take (q + 32) (z ++ (h ++ drop (q + length h) (xs ++ tail)))) (take_at xs tail q e)
    ∙ ap (take (q + 32)) (sym (append_assoc xs h (drop (q + length h) (xs ++ tail))))
    ∙ take_at (xs ++ h) (drop (q + length h) (xs ++ tail)) (q + 32) (length-append xs h ∙ omega arith)

-- what the end writes, where a well_formed journal was laid, whatever stood for its own length and behind it
module _ (F : List ℕ → List ℕ) (x : Journal) (w : WellFormed x) (zs tail : List ℕ) (zl : length zs ≡ 8) where
  abbrev pub laid_end : ℕ
  laid_end = 184 + length (encode_all x.ranges)

  abbrev pub laid : List ℕ
  laid = magic ++ (zs ++ (words x.states ++ (encode_all x.ranges ++ tail)))

  long_is : long_of x ≡ laid_end + 32
  unfolding long_of
  long_is = refl

  own : put laid 16 (be 8 (laid_end + 32)) ≡ body x ++ tail
  unfolding body
  own =
      owned (be 8 (laid_end + 32)) zs (words x.states ++ (encode_all x.ranges ++ tail)) (length_be 8 (laid_end + 32)) zl
      ∙ ap (λ (n : ℕ). magic ++ (be 8 n ++ (words x.states ++ (encode_all x.ranges ++ tail)))) (sym long_is)
      ∙ ap (λ (z : List ℕ). magic ++ (be 8 (long_of x) ++ z)) (sym (append_assoc (words x.states) (encode_all x.ranges) tail))
      ∙ ap (λ (z : List ℕ). magic ++ z) (sym (append_assoc (be 8 (long_of x)) (words x.states ++ encode_all x.ranges) tail))
      ∙ sym (append_assoc magic (be 8 (long_of x) ++ (words x.states ++ encode_all x.ranges)) tail)

  pub owned_body : take laid_end (put laid 16 (be 8 (laid_end + 32))) ≡ body x
  owned_body = ap (take laid_end) own ∙ take_at (body x) tail laid_end (body_long F x w)

  pub sealed_front : take laid_end (sealed F laid laid_end) ≡ body x
  unfolding sealed
  sealed_front =
      let l = length-append (body x) tail in
      let m : length (body x) ≡ laid_end = body_long F x w in
      let n : length (put laid 16 (be 8 (laid_end + 32))) ≡ length (body x ++ tail) = ap length own in
      take_put laid_end (put laid 16 (be 8 (laid_end + 32))) laid_end (F (take laid_end (put laid 16 (be 8 (laid_end + 32))))) (omega arith) (omega arith) ∙ owned_body

  pub sealed_is : Hashed F x → take (laid_end + 32) (sealed F laid laid_end) ≡ journal_bytes F x
  unfolding sealed journal_bytes
  sealed_is fl =
      let l : length (body x) ≡ laid_end = body_long F x w in
      ap (λ (z : List ℕ). take (laid_end + 32) (put z laid_end (F (take laid_end z)))) own
      ∙ ap (λ (z : List ℕ). take (laid_end + 32) (put (body x ++ tail) laid_end (F z))) (take_at (body x) tail laid_end l)
      ∙ hashed (body x) tail (F (body x)) laid_end l fl

module _ (F : List ℕ → List ℕ) (x : Journal) (w : WellFormed x) (fl : Hashed F x) (j : List ℕ) (room : long_of x ≤ length j) where
  abbrev start_bytes : List ℕ
  start_bytes = magic ++ (zeros 8 ++ words x.states)

  abbrev q : ℕ
  q = 184 + length (encode_all x.ranges)

  end_is : ranges_end x ≡ q
  end_is = let l = long_is F x w (zeros 8) [] refl in omega arith

  start_long : length start_bytes ≡ 184
  start_long =
      let t = w.ten in
      let l = words_length x.states in
      length-append magic (zeros 8 ++ words x.states) ∙ omega (arith, length-append (zeros 8) (words x.states))

  begin_says : begin_said j ≡ Ok 184
  begin_says = let l = long_is F x w (zeros 8) [] refl in sym (begin_done j (omega arith))

  begin_gives : begun x.states j ≡ put j 0 start_bytes
  unfolding begun
  begin_gives = sym (done_written _ (begin_said j) (put j 0 start_bytes) j refl (sym begin_says))

  all_put : Filled j start_bytes 184 x.ranges
  all_put =
      let l = long_is F x w (zeros 8) [] refl in
      let s = start_long in
      fill j x.ranges start_bytes 184 (sym s) (omega arith) (λ p k. (below_ten 0 x.ranges p w.files k, (encodable x w p k).alike))

  abbrev tail : List ℕ
  tail = drop (length (start_bytes ++ encode_all x.ranges)) j

  abbrev rest : List ℕ
  rest = words x.states ++ (encode_all x.ranges ++ tail)

  abbrev full : List ℕ
  full = magic ++ (zeros 8 ++ rest)

  filled_is : filled x j ≡ full
  filled_is =
      ap (λ (b : List ℕ). put_all b 184 x.ranges) begin_gives ∙ all_put.gives ∙ put_front j (start_bytes ++ encode_all x.ranges)
      ∙ append_assoc start_bytes (encode_all x.ranges) tail ∙ append_assoc magic (zeros 8 ++ words x.states) (encode_all x.ranges ++ tail)
      ∙ ap (λ (z : List ℕ). magic ++ z) (append_assoc (zeros 8) (words x.states) (encode_all x.ranges ++ tail))

  full_long : length full ≡ length j
  full_long =
      let l = long_is F x w (zeros 8) [] refl in
      let s = start_long in
      let n = length-append start_bytes (encode_all x.ranges) in
      ap length (sym filled_is ∙ ap (λ (b : List ℕ). put_all b 184 x.ranges) begin_gives ∙ all_put.gives) ∙ length_put j 0 (start_bytes ++ encode_all x.ranges) (omega arith)

  right : length_right (q + 32) ≡ true
  unfolding length_right
  right =
      let l = long_is F x w (zeros 8) [] refl in
      let b = w.bound in
      true_both (leb 216 (q + 32)) (leb (q + 32) 268435456) (le-leb 216 (q + 32) (omega arith)) (le-leb (q + 32) 268435456 (omega arith))

  end_says : end_said full q ≡ Ok (q + 32)
  end_says =
      let l = long_is F x w (zeros 8) [] refl in
      let n = full_long in
      sym (end_done full q (omega arith) right (laid_front x w full (zeros 8) tail refl refl) (table full q) refl (ap is_ok (laid_table x w full (zeros 8) tail refl refl)))

  end_gives : end_after F full q ≡ sealed F full q
  unfolding end_after
  end_gives = sym (done_written _ (end_said full q) (sealed F full q) full refl (sym end_says))

  all_made : Makes F x j
  all_made =
      record {
        begins = begin_says;
        puts = subst (λ (b : List ℕ). PutsDone b 184 x.ranges) (sym begin_gives) all_put.done;
        ends = ap₂ end_said filled_is end_is ∙ end_says ∙ ap Ok (sym (long_is F x w (zeros 8) tail refl));
        bytes =
            ap (λ (n : ℕ). take n (end_after F (filled x j) (ranges_end x))) (long_is F x w (zeros 8) tail refl)
            ∙ ap (take (q + 32)) (ap₂ (end_after F) filled_is end_is ∙ end_gives) ∙ sealed_is F x w (zeros 8) tail refl fl;
      }

pub made : MakesForAll
made = all_made
