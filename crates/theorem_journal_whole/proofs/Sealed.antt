-- What the end seals is a well_formed journal, and reading accepts it. Assumes nothing.
use Rattle.std.specs.Prelude.{Ok, is_ok}
use Prim.Native.Nat.{ℕ, zero, suc, ◌+◌, ◌≤◌}
use native.Mathlib.Omega.{arith}
use mathlib.Core.Path.{◌≡◌, refl, sym, ap, ap₂, ◌∙◌, subst}
use mathlib.Core.Bool.{true}
use mathlib.Core.List.{List, [], ◌∷◌, ◌++◌, append_assoc}
use lib.ListN.{length, take, drop, length-drop}
use Rattle.byte_strings.specs.Lists.{part, put, Bytes}
use Rattle.byte_strings.specs.Numbers.{be}
use Rattle.byte_strings.proofs.Lists.{length_part, bytes_take, bytes_put, same_eq}
use Rattle.byte_strings.proofs.Numbers.{bytes_be}
use Rattle.journal.specs.Form.{Journal, WellFormed, magic, words, encode_all, long_of, body, journal_bytes}
use Rattle.journal.specs.Places.{body_length}
use Rattle.journal.specs.Reading.{Said, table, read}
use Rattle.journal.proofs.Answers.{done_written, read_done_lem}
use Rattle.journal_making.specs.Making.{end_said, sealed, end_after}
use Rattle.journal_making.proofs.Answers.{Ended, end_has}
use Rattle.theorem_journal_exact.specs.Exact.{Hashed}
use Rattle.theorem_journal_exact.proofs.Exact.{passed, split, journal_in, well_formed, longs, front_is}
use Rattle.theorem_journal_exact.proofs.Encoded.{encoded_done, of_function}
use Rattle.theorem_journal_whole.specs.Making.{sealed_bytes, Seals, SealsForAll}
use Rattle.theorem_journal_whole.proofs.Making.{laid_end, laid, owned_body, sealed_front, sealed_is}

take-take : (n k : ℕ) (xs : List ℕ) → n ≤ k → take n (take k xs) ≡ take n xs
take-take zero k xs h = refl
take-take (suc n) zero xs h = absurd (omega arith)
take-take (suc n) (suc k) [] h = refl
take-take (suc n) (suc k) (x ∷ xs) h = ap (λ (ys : List ℕ). x ∷ ys) (take-take n k xs (omega arith))

module _ (F : List ℕ → List ℕ) (j : List ℕ) (q : ℕ) (b : Bytes j) (e : is_ok (end_said j q) ≡ true) where
  found : Ended j q
  found = end_has j q e

  inside : q ≤ length j
  inside = omega (arith, found.room)

  abbrev x : Journal
  x = journal_in j b q found.least found.most inside found.table_done

  w : WellFormed x
  w = well_formed j b q found.least found.most inside found.table_done

  own_bytes : length (part j 16 8) ≡ 8
  own_bytes = length_part j 16 8 (omega (arith, found.least, found.room))

  long : long_of x ≡ q + 32
  long = longs j b q found.least found.most inside found.table_done

  ends : laid_end F x w (part j 16 8) (drop q j) own_bytes ≡ q
  unfolding long_of
  ends = omega (arith, long)

  is_laid : j ≡ laid F x w (part j 16 8) (drop q j) own_bytes
  is_laid =
      sym (split q j)
      ∙ ap (λ (z : List ℕ). z ++ drop q j) (front_is j b q found.least found.most inside found.table_done found.first)
      ∙ append_assoc magic (part j 16 8 ++ (words x.states ++ encode_all x.ranges)) (drop q j)
      ∙ ap (λ (z : List ℕ). magic ++ z)
      (append_assoc (part j 16 8) (words x.states ++ encode_all x.ranges) (drop q j)
      ∙ ap (λ (z : List ℕ). part j 16 8 ++ z) (append_assoc (words x.states) (encode_all x.ranges) (drop q j)))

  written : end_after F j q ≡ sealed F j q
  unfolding end_after
  written = sym (done_written _ (end_said j q) (sealed F j q) j refl (sym found.says))

  laid_written : end_after F j q ≡ sealed F (laid F x w (part j 16 8) (drop q j) own_bytes) (laid_end F x w (part j 16 8) (drop q j) own_bytes)
  laid_written = written ∙ ap₂ (sealed F) is_laid (sym ends)

  front : take q (end_after F j q) ≡ body x
  front = ap₂ take (sym ends) laid_written ∙ sealed_front F x w (part j 16 8) (drop q j) own_bytes

  all : Hashed F x → sealed_bytes F j q ≡ journal_bytes F x
  all h = ap₂ (λ (n : ℕ) (z : List ℕ). take (n + 32) z) (sym ends) laid_written ∙ sealed_is F x w (part j 16 8) (drop q j) own_bytes h

  accepts : Hashed F x → read F (sealed_bytes F j q) ≡ Ok (q + 32)
  accepts h = ap (read F) (all h) ∙ encoded_done F x w h ∙ ap Ok long

  same_long : (n m : ℕ) → ◌≡◌ {A = Said} (Ok n) (Ok m) → n ≡ m
  same_long n m d = cc

  -- what reading compared has 32 bytes
  only : read F (sealed_bytes F j q) ≡ Ok (q + 32) → Hashed F x
  only r =
      let z = sealed_bytes F j q in
      let p = passed F z (ap is_ok r) in
      let n : length z ≡ q + 32 = same_long (length z) (q + 32) (read_done_lem F z p.long p.front p.own (table z (body_length z)) refl p.tabled p.hashed ∙ r) in
      let m : body_length z ≡ q = omega arith in
      let t : take (body_length z) z ≡ body x = ap (λ (k : ℕ). take k z) m ∙ take-take q (q + 32) (end_after F j q) (omega arith) ∙ front in
      ap (λ (y : List ℕ). length (F y)) (sym t) ∙ ap length (same_eq (F (take (body_length z) z)) (drop (body_length z) z) p.hashed) ∙ length-drop (body_length z) z ∙ omega arith

  of_bytes_lem : Bytes (body x)
  of_bytes_lem =
      subst Bytes
      (ap₂ (λ (n : ℕ) (z : List ℕ). take n (put z 16 (be 8 (n + 32)))) (sym ends) is_laid ∙ owned_body F x w (part j 16 8) (drop q j) own_bytes)
      (bytes_take q (put j 16 (be 8 (q + 32))) (bytes_put j 16 (be 8 (q + 32)) b (bytes_be 8 (q + 32))))

  seals : Seals F j q
  seals =
      record {
        journal = x;
        formed = w;
        before = front;
        bytes = all;
        exactly = (only, accepts);
        accepted = λ hf. accepts (of_function F hf x of_bytes_lem);
      }

pub end_seals : SealsForAll
end_seals = seals
