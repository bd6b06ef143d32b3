-- The encoding of a well_formed journal is accepted. Assumes nothing.
use Rattle.std.specs.Prelude.{Ok, is_ok}
use Prim.Native.Nat.{ℕ, ◌+◌, ◌-◌, ◌<◌}
use native.Mathlib.Omega.{arith}
use mathlib.Core.Path.{◌≡◌, refl, sym, ap, ap₂, ◌∙◌, subst}
use mathlib.Core.Bool.{true}
use mathlib.Core.List.{List, ◌++◌, append_assoc}
use lib.ListN.{length, take, drop, length-append}
use lib.Seq.{take_at, drop_at}
use lib.Dec.{leb}
use borrow.Author.Tests.{eq-eqb, le-leb}
use Rattle.byte_strings.specs.Lists.{part, same_list, Bytes}
use Rattle.byte_strings.specs.Numbers.{be, number}
use Rattle.byte_strings.proofs.Lists.{part_at, same_refl, bytes_take}
use Rattle.byte_strings.proofs.Numbers.{length_be, number_be}
use Rattle.byte_strings.proofs.Bools.{true_both}
use Rattle.file_format.specs.Messages.{HashFunction}
use Rattle.journal.specs.Form.{Journal, WellFormed, magic, words, encode_all, long_of, body, journal_bytes, old_state, new_state}
use Rattle.journal.specs.Places.{old_at, new_at, length_right, body_length}
use Rattle.journal.specs.Reading.{table, begins, own_length, read}
use Rattle.journal.proofs.Answers.{read_done_lem}
use Rattle.journal.proofs.Lengths.{words_length}
use Rattle.theorem_journal_exact.specs.Exact.{Hashed, AcceptsForAll, ExactForAll}
use Rattle.theorem_journal_exact.proofs.Exact.{passed, journal_read, read_formed, read_hashed, encodes}
use Rattle.theorem_journal_exact.proofs.Laid.{eight, laid_front, laid_old, laid_new, laid_ranges, laid_table}

module _ (F : List ℕ → List ℕ) (x : Journal) (w : WellFormed x) where
  abbrev j : List ℕ
  j = journal_bytes F x

  abbrev rest : List ℕ
  rest = encode_all x.ranges ++ F (body x)

  long_is : long_of x ≡ 184 + length (encode_all x.ranges) + 32
  unfolding long_of
  long_is = refl

  pub body_long : length (body x) ≡ 184 + length (encode_all x.ranges)
  unfolding body
  body_long =
      let a = words_length x.states in
      let t = w.ten in
      length-append magic (be 8 (long_of x) ++ (words x.states ++ encode_all x.ranges))
      ∙ omega (arith, length-append (be 8 (long_of x)) (words x.states ++ encode_all x.ranges), length_be 8 (long_of x), length-append (words x.states) (encode_all x.ranges))

  laid : j ≡ magic ++ (be 8 (long_of x) ++ (words x.states ++ rest))
  unfolding journal_bytes body
  laid =
      append_assoc magic (be 8 (long_of x) ++ (words x.states ++ encode_all x.ranges)) (F (body x))
      ∙ ap (λ (z : List ℕ). magic ++ z)
      (append_assoc (be 8 (long_of x)) (words x.states ++ encode_all x.ranges) (F (body x))
      ∙ ap (λ (z : List ℕ). be 8 (long_of x) ++ z) (append_assoc (words x.states) (encode_all x.ranges) (F (body x))))

  -- ---- the front

  front_is : begins j ≡ true
  front_is = laid_front x w j (be 8 (long_of x)) (F (body x)) (length_be 8 (long_of x)) laid

  pub own_long : own_length j ≡ long_of x
  own_long =
      let b = w.bound in
      let p = eight in
      ap number (ap (λ (z : List ℕ). part z 16 8) laid ∙ part_at magic (be 8 (long_of x)) (words x.states ++ rest) 16 8 refl (length_be 8 (long_of x)))
      ∙ number_be 8 (long_of x) (omega arith)

  -- whatever stands behind it, the body is as long as the journal says
  pub body_taken : take (own_length j - 32) j ≡ body x
  unfolding journal_bytes
  body_taken = take_at (body x) (F (body x)) (own_length j - 32) (omega (arith, own_long, long_is, body_long))

  -- ---- the table

  pub old_is : (i : ℕ) → i < 10 → old_at j i ≡ old_state x i
  old_is = laid_old x w j (be 8 (long_of x)) (F (body x)) (length_be 8 (long_of x)) laid

  pub new_is : (i : ℕ) → i < 10 → new_at j i ≡ new_state x i
  new_is = laid_new x w j (be 8 (long_of x)) (F (body x)) (length_be 8 (long_of x)) laid

  -- ---- with a hash of 32 bytes

  module _ (fl : Hashed F x) where
    all_long : length j ≡ long_of x
    unfolding journal_bytes
    all_long = length-append (body x) (F (body x)) ∙ omega (arith, body_long, fl, long_is)

    pub body_length_lem : body_length j ≡ length (body x)
    body_length_lem = omega (arith, all_long, long_is, body_long)

    taken : take (body_length j) j ≡ body x
    unfolding journal_bytes
    taken = take_at (body x) (F (body x)) (body_length j) (sym body_length_lem)

    dropped : drop (body_length j) j ≡ F (body x)
    unfolding journal_bytes
    dropped = drop_at (body x) (F (body x)) (body_length j) (sym body_length_lem)

    body_end : 184 + length (encode_all x.ranges) ≡ body_length j
    body_end = omega (arith, body_length_lem, body_long)

    pub ranges_are : part j 184 (body_length j - 184) ≡ encode_all x.ranges
    ranges_are = ap (λ (n : ℕ). part j 184 (n - 184)) (sym body_end) ∙ laid_ranges x w j (be 8 (long_of x)) (F (body x)) (length_be 8 (long_of x)) laid

    table_done : table j (body_length j) ≡ Ok (body_length j)
    table_done = subst (λ (n : ℕ). table j n ≡ Ok n) body_end (laid_table x w j (be 8 (long_of x)) (F (body x)) (length_be 8 (long_of x)) laid)

    pub long_right_lem : length_right (length j) ≡ true
    unfolding length_right
    long_right_lem =
        let b = w.bound in
        true_both (leb 216 (length j)) (leb (length j) 268435456) (le-leb 216 (length j) (omega (arith, all_long, long_is))) (le-leb (length j) 268435456 (omega (arith, all_long)))

    pub encoded_done : read F j ≡ Ok (long_of x)
    encoded_done =
        sym (read_done_lem F j long_right_lem front_is (eq-eqb (own_length j) (length j) (own_long ∙ sym all_long)) (table j (body_length j)) refl (ap is_ok table_done)
        (ap₂ same_list (ap F taken) dropped ∙ same_refl (F (body x)))) ∙ ap Ok all_long

    pub encoded_accepted : is_ok (read F j) ≡ true
    encoded_accepted = ap is_ok encoded_done

-- a hash function gives 32 bytes for a journal of bytes
pub of_function : (F : List ℕ → List ℕ) → HashFunction F → (x : Journal) → Bytes (body x) → Hashed F x
of_function F hf x b = hf.size (body x) b

front_bytes_lem : (xs ys : List ℕ) → Bytes (xs ++ ys) → Bytes xs
front_bytes_lem xs ys b = subst Bytes (take_at xs ys (length xs) refl) (bytes_take (length xs) (xs ++ ys) b)

body_bytes : (F : List ℕ → List ℕ) (x : Journal) → Bytes (journal_bytes F x) → Bytes (body x)
unfolding journal_bytes
body_bytes F x b = front_bytes_lem (body x) (F (body x)) b

pub reading_accepts : AcceptsForAll
reading_accepts F =
    record {
      encodings = λ j b e. let p = passed F j e in (journal_read F j b p, read_formed F j b p, encodes F j b p);
      hashed = λ j b. (
        λ e. let p = passed F j e in (journal_read F j b p, read_formed F j b p, read_hashed F j b p, encodes F j b p),
        λ e. subst (λ (y : List ℕ). is_ok (read F y) ≡ true) (sym e.3) (encoded_accepted F e.0 e.1 e.2),
      );
    }

pub reading_exact : ExactForAll
reading_exact F hf =
    record {
      exactly = λ j b. (
        (reading_accepts F).encodings j b,
        λ e. ((reading_accepts F).hashed j b).1 (e.0, e.1, of_function F hf e.0 (body_bytes F e.0 (subst Bytes e.2 b)), e.2),
      );
    }
