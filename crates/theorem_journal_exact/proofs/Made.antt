-- What stands at a place where a range was encoded. Assumes nothing.
use Prim.Native.Nat.{ℕ, suc, ◌+◌, ◌-◌, ◌*◌, ◌^◌, ◌≤◌, ◌<◌}
use native.Mathlib.Omega.{arith}
use native.Mathlib.Nat.{add-zero}
use mathlib.Core.Path.{◌≡◌, refl, sym, ap, ap₂, ◌∙◌}
use mathlib.Core.Bool.{true, ◌&&◌}
use mathlib.Core.List.{List, [], ◌∷◌, ◌++◌, append_assoc, append-nil}
use lib.ListN.{length, get_or, length-append}
use lib.Dec.{leb}
use borrow.Author.Tests.{le-leb}
use Rattle.byte_strings.specs.Lists.{part}
use Rattle.byte_strings.specs.Numbers.{be, number}
use Rattle.byte_strings.proofs.Lists.{length_part, get_d_part, part_part, part_left, part_at, part_front}
use Rattle.byte_strings.proofs.Numbers.{length_be, number_be}
use Rattle.byte_strings.proofs.Bools.{true_both}
use Rattle.journal.specs.Ranges.{Range, replaced, fresh, blank, witness, start, Placed}
use Rattle.journal.specs.Form.{kind_of, size_of, payload, header, encode}
use Rattle.journal.specs.Places.{file_at, kind_at, start_at, size_at, times_long, behind, whole, range_of, range_at}
use Rattle.journal.proofs.Behind.{end_twice, end_bare, end_once}
use Rattle.journal_meeting.proofs.Ranges.{is_replaced, is_fresh, is_blank, is_witness}

-- a range that can be encoded: its numbers fit in eight bytes, and it has as many old bytes as new ones
abbrev pub Alike : Range → Type 0
Alike (replaced at o n) = length o ≡ length n
Alike (fresh at n) = Unit {0}
Alike (blank at k) = Unit {0}
Alike (witness at w) = Unit {0}

pub record Encodable (r : Range) : Type 0 where
  pub offset : start r < 256 ^ 8
  pub size : size_of r < 256 ^ 8
  pub alike : Alike r

-- ---- a header

module _ (f k a l : ℕ) where
  pub header_long : length (header f k a l) ≡ 18
  unfolding header
  header_long = ap (λ (n : ℕ). suc (suc n)) (length-append (be 8 a) (be 8 l) ∙ ap₂ (λ (m n : ℕ). m + n) (length_be 8 a) (length_be 8 l))

  header_offset : part (header f k a l) 2 8 ≡ be 8 a
  unfolding header
  header_offset = part_at (f ∷ k ∷ []) (be 8 a) (be 8 l) 2 8 refl (length_be 8 a)

  header_size : part (header f k a l) 10 8 ≡ be 8 l
  unfolding header
  header_size =
      ap (λ (r : List ℕ). part (f ∷ k ∷ (be 8 a ++ r)) 10 8) (sym (append-nil (be 8 l)))
      ∙ part_at (f ∷ k ∷ be 8 a) (be 8 l) [] 10 8 (ap (λ (n : ℕ). suc (suc n)) (length_be 8 a)) (length_be 8 l)

  header_file : (z : List ℕ) → get_or (header f k a l ++ z) 0 0 ≡ f
  unfolding header
  header_file z = refl

  header_kind : (z : List ℕ) → get_or (header f k a l ++ z) 1 0 ≡ k
  unfolding header
  header_kind z = refl

-- a range's bytes are so many times its length
payload_long : (r : Range) → Alike r → length (payload r) ≡ times_long (kind_of r) * size_of r
payload_long (replaced at o n) a = let x = end_twice 1 (length n) 0 refl in let y = length-append o n in omega arith
payload_long (fresh at n) a = let x = end_once 2 (length n) 0 (omega arith) (omega arith) in omega arith
payload_long (blank at k) a = let x = end_bare 3 k 0 (omega arith) refl in omega arith
payload_long (witness at w) a = let x = end_once 4 (length w) 0 (omega arith) (omega arith) in omega arith

-- ---- what stands there

pub record Stands (j : List ℕ) (m q : ℕ) (p : Placed) : Type 0 where
  pub file : file_at j q ≡ p.file
  pub kind : kind_at j q ≡ kind_of p.range
  pub begins : start_at j q ≡ start p.range
  pub size : size_at j q ≡ size_of p.range
  pub range : range_at j q ≡ p.range
  pub ends : behind j q ≡ q + length (encode p)
  pub is_whole : whole j m q ≡ true

module _ (j : List ℕ) (m q : ℕ) (qm : q ≤ m) (ml : m ≤ length j) (p : Placed) (e : Encodable p.range) (rest : List ℕ) (h : part j q (m - q) ≡ encode p ++ rest) where
  abbrev head : List ℕ
  head = header p.file (kind_of p.range) (start p.range) (size_of p.range)

  long : length head ≡ 18
  long = header_long p.file (kind_of p.range) (start p.range) (size_of p.range)

  whole_part : part j q (m - q) ≡ head ++ (payload p.range ++ rest)
  unfolding encode
  whole_part = h ∙ append_assoc head (payload p.range) rest

  encode_long : length (encode p) ≡ 18 + length (payload p.range)
  unfolding encode
  encode_long = length-append head (payload p.range) ∙ ap (λ (n : ℕ). n + length (payload p.range)) long

  room : q + 18 + length (payload p.range) ≤ m
  room =
      let x : length (part j q (m - q)) ≡ m - q = length_part j q (m - q) (omega arith) in
      let y : length (part j q (m - q)) ≡ length (encode p) + length rest = ap length h ∙ length-append (encode p) rest in
      let z = encode_long in
      omega arith

  byte : (a v : ℕ) → a < m - q → get_or (head ++ (payload p.range ++ rest)) a 0 ≡ v → get_or j (q + a) 0 ≡ v
  byte a v l d = sym (get_d_part j q (m - q) a 0 l) ∙ ap (λ (z : List ℕ). get_or z a 0) whole_part ∙ d

  cut : (a k : ℕ) (v : List ℕ) → a + k ≤ m - q → part (head ++ (payload p.range ++ rest)) a k ≡ v → part j (q + a) k ≡ v
  cut a k v l d = sym (part_part j q (m - q) a k l) ∙ ap (λ (z : List ℕ). part z a k) whole_part ∙ d

  file_is : file_at j q ≡ p.file
  file_is =
      let r = room in
      ap (λ (n : ℕ). get_or j n 0) (sym (add-zero q))
      ∙ byte 0 p.file (omega arith) (header_file p.file (kind_of p.range) (start p.range) (size_of p.range) (payload p.range ++ rest))

  kind_is : kind_at j q ≡ kind_of p.range
  kind_is =
      let r = room in
      byte 1 (kind_of p.range) (omega arith) (header_kind p.file (kind_of p.range) (start p.range) (size_of p.range) (payload p.range ++ rest))

  start_is : start_at j q ≡ start p.range
  start_is =
      let r = room in
      ap number
      (cut 2 8 (be 8 (start p.range)) (omega arith)
      (part_left head (payload p.range ++ rest) 2 8 (omega (arith, long)) ∙ header_offset p.file (kind_of p.range) (start p.range) (size_of p.range)))
      ∙ number_be 8 (start p.range) e.offset

  size_is : size_at j q ≡ size_of p.range
  size_is =
      let r = room in
      ap number
      (cut 10 8 (be 8 (size_of p.range)) (omega arith)
      (part_left head (payload p.range ++ rest) 10 8 (omega (arith, long)) ∙ header_size p.file (kind_of p.range) (start p.range) (size_of p.range)))
      ∙ number_be 8 (size_of p.range) e.size

  -- the bytes of the range, and any part of them
  bytes_are : part j (q + 18) (length (payload p.range)) ≡ payload p.range
  bytes_are =
      let r = room in
      cut 18 (length (payload p.range)) (payload p.range) (omega arith) (part_at head (payload p.range) rest 18 (length (payload p.range)) long refl)

  part_is : (a k : ℕ) → a + k ≤ length (payload p.range) → part j (q + 18 + a) k ≡ part (payload p.range) a k
  part_is a k l = sym (part_part j (q + 18) (length (payload p.range)) a k l) ∙ ap (λ (z : List ℕ). part z a k) bytes_are

  behind_is : behind j q ≡ q + length (encode p)
  unfolding behind
  behind_is =
      let x = payload_long p.range e.alike in
      let y : times_long (kind_at j q) * size_at j q ≡ times_long (kind_of p.range) * size_of p.range = ap₂ (λ (a b : ℕ). times_long a * b) kind_is size_is in
      let z = encode_long in
      omega arith

  kind_right : (r : Range) → (1 ≤ kind_of r) × (kind_of r ≤ 4)
  kind_right (replaced at o n) = (omega arith, omega arith)
  kind_right (fresh at n) = (omega arith, omega arith)
  kind_right (blank at k) = (omega arith, omega arith)
  kind_right (witness at w) = (omega arith, omega arith)

  whole_is : whole j m q ≡ true
  unfolding whole
  whole_is =
      let r = room in
      let k = kind_right p.range in
      let c = kind_is in
      let b = behind_is in
      let z = encode_long in
      true_both (leb (q + 18) m) _ (le-leb (q + 18) m (omega arith))
      (true_both (leb 1 (kind_at j q) && leb (kind_at j q) 4) _
      (true_both (leb 1 (kind_at j q)) (leb (kind_at j q) 4) (le-leb 1 (kind_at j q) (omega arith)) (le-leb (kind_at j q) 4 (omega arith))) (le-leb (behind j q) m (omega arith)))

  -- the range that is read is the one that was encoded
  of_kind : (r : Range) → p.range ≡ r → Alike r → range_of j (kind_of r) (start r) (size_of r) (q + 18) ≡ r
  of_kind (replaced at o n) d a =
      let l = length-append o n in
      let y : payload p.range ≡ o ++ n = ap payload d in
      let w : length (payload p.range) ≡ length o + length n = ap length y ∙ l in
      is_replaced j 1 at (length n) (q + 18) refl
      ∙ ap₂ (replaced at)
      (ap (λ (s : ℕ). part j s (length n)) (sym (add-zero (q + 18))) ∙ part_is 0 (length n) (omega arith) ∙ ap (λ (z : List ℕ). part z 0 (length n)) y ∙ part_front o n (length n) a)
      (part_is (length n) (length n) (omega arith) ∙ ap (λ (z : List ℕ). part z (length n) (length n)) y
      ∙ ap (λ (z : List ℕ). part (o ++ z) (length n) (length n)) (sym (append-nil n)) ∙ part_at o n [] (length n) (length n) a refl)
  of_kind (fresh at n) d a =
      let y : payload p.range ≡ n = ap payload d in
      is_fresh j 2 at (length n) (q + 18) (omega arith) refl ∙ ap (fresh at) (ap (λ (z : List ℕ). part j (q + 18) (length z)) (sym y) ∙ bytes_are ∙ y)
  of_kind (blank at k) d a = is_blank j 3 at k (q + 18) (omega arith) (omega arith) refl
  of_kind (witness at w) d a =
      let y : payload p.range ≡ w = ap payload d in
      is_witness j 4 at (length w) (q + 18) (omega arith) (omega arith) (omega arith) ∙ ap (witness at) (ap (λ (z : List ℕ). part j (q + 18) (length z)) (sym y) ∙ bytes_are ∙ y)

  range_is : range_at j q ≡ p.range
  unfolding range_at
  range_is =
      ap (λ (k : ℕ). range_of j k (start_at j q) (size_at j q) (q + 18)) kind_is
      ∙ ap₂ (λ (a s : ℕ). range_of j (kind_of p.range) a s (q + 18)) start_is size_is ∙ of_kind p.range refl e.alike

  pub stands : Stands j m q p
  stands = record { file = file_is; kind = kind_is; begins = start_is; size = size_is; range = range_is; ends = behind_is; is_whole = whole_is }
