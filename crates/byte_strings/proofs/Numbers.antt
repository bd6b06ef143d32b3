-- Laws of big-endian numbers. Assumes nothing.
use mathlib.Core.Path.{◌≡◌, refl, sym, ap, ◌∙◌, subst}
use Prim.Native.Nat.{ℕ, zero, suc, ◌+◌, ◌*◌, ◌/◌, ◌%◌, ◌^◌, ◌<◌, ◌≤◌}
use native.Mathlib.Nat.{add_assoc, mul_assoc, zero-add, add-mul, pow-suc, pow-succ', suc_inj, div-add-mod', div-lt_iff_lt-mul, suc-ne-zero}
use native.Mathlib.Omega.{arith}
use mathlib.Core.List.{List, [], ◌∷◌, ◌++◌}
use lib.ListN.{length, get_or, length-append}
use native.Mathlib.Numerals.{add-one, add-two, add-three, add-four, add_five, add_six, add_seven}
use lib.Dec.{lit<}
use lib.Arith.{digits_div, digits_mod, digits_lt}
use Rattle.std.specs.Int.{w32, w64, from_be_bytes, to_be_bytes, bytes_high_first}
use Rattle.std.proofs.lemmas.Nat.{from_be_bytes-to_be_bytes_4, from_be_bytes-to_be_bytes_8}
use Rattle.byte_strings.specs.Lists.{Bytes, part, run}
use Rattle.byte_strings.specs.Numbers.{be, number, number_from}
use Rattle.byte_strings.proofs.Lists.{bytes_append, bytes_part, length_part, part_run, run_get_or}

-- ---- the bytes of a number

pub length_be : (k x : ℕ) → length (be k x) ≡ k
unfolding be
length_be zero x = refl
length_be (suc k) x =
    length-append (be k (x / 256)) (x % 256 ∷ []) ∙ ap (λ (n : ℕ). n + 1) (length_be k (x / 256)) ∙ omega arith

pub bytes_one : (b : ℕ) → b < 256 → Bytes (b ∷ [])
bytes_one b h zero = h
bytes_one b h (suc i) = omega arith

pub bytes_be : (k x : ℕ) → Bytes (be k x)
unfolding be
bytes_be zero x i = omega arith
bytes_be (suc k) x i = bytes_append (be k (x / 256)) (x % 256 ∷ []) (bytes_be k (x / 256)) (bytes_one (x % 256) (omega arith)) i

-- ---- the number of bytes

pub from_snoc : (a : ℕ) (xs : List ℕ) (x : ℕ) → number_from a (xs ++ (x ∷ [])) ≡ number_from a xs * 256 + x
unfolding number_from
from_snoc a [] x = refl
from_snoc a (y ∷ xs) x = from_snoc (a * 256 + y) xs x

below_quotient : (k x : ℕ) → x < 256 ^ suc k → x / 256 < 256 ^ k
below_quotient k x h = (div-lt_iff_lt-mul {k = 256} {x = x} {y = 256 ^ k} (lit< tt)).1 (subst (λ (n : ℕ). x < n) (pow-suc 256 k) h)

pub number_be : (k x : ℕ) → x < 256 ^ k → number (be k x) ≡ x
unfolding be number number_from
number_be zero x h = omega arith
number_be (suc k) x h =
    from_snoc 0 (be k (x / 256)) (x % 256) ∙ ap (λ (n : ℕ). n * 256 + x % 256) (number_be k (x / 256) (below_quotient k x h))
    ∙ div-add-mod' x 256

carried : (a x n r : ℕ) → (a * 256 + x) * 256 ^ n + r ≡ a * 256 ^ suc n + (x * 256 ^ n + r)
carried a x n r =
    ap (λ (t : ℕ). t + r) (add-mul (a * 256) x (256 ^ n) ∙ ap (λ (t : ℕ). t + x * 256 ^ n) (mul_assoc a 256 (256 ^ n) ∙ ap (λ (t : ℕ). a * t) (sym (pow-succ' 256 n))))
    ∙ add_assoc (a * 256 ^ suc n) (x * 256 ^ n) r

pub from_eq : (a : ℕ) (xs : List ℕ) → number_from a xs ≡ a * 256 ^ length xs + number xs
unfolding number_from number
from_eq a [] = omega arith
from_eq a (x ∷ xs) =
    from_eq (a * 256 + x) xs ∙ carried a x (length xs) (number xs)
    ∙ ap (λ (t : ℕ). a * 256 ^ suc (length xs) + t) (ap (λ (t : ℕ). t * 256 ^ length xs + number xs) (sym (zero-add x)) ∙ sym (from_eq (0 + x) xs))

-- the first byte counts most
pub number_cons : (x : ℕ) (xs : List ℕ) → number (x ∷ xs) ≡ x * 256 ^ length xs + number xs
unfolding number_from number
number_cons x xs = from_eq (0 + x) xs ∙ ap (λ (t : ℕ). t * 256 ^ length xs + number xs) (zero-add x)

pub number_lt : (xs : List ℕ) → Bytes xs → number xs < 256 ^ length xs
unfolding number number_from
number_lt [] p = omega arith
number_lt (x ∷ xs) p =
    subst (λ (t : ℕ). t < 256 ^ suc (length xs)) (sym (number_cons x xs))
    (subst (λ (t : ℕ). x * 256 ^ length xs + number xs < t) (sym (pow-succ' 256 (length xs)))
    (digits_lt (p zero) (number_lt xs (λ i. p (suc i)))))

-- bytes of one length with one number are the same bytes
pub number_inj : (xs ys : List ℕ) → Bytes xs → Bytes ys → length xs ≡ length ys → number xs ≡ number ys → xs ≡ ys
number_inj [] [] p q l e = refl
number_inj [] (y ∷ ys) p q l e = absurd (suc-ne-zero (length ys) (sym l))
number_inj (x ∷ xs) [] p q l e = absurd (suc-ne-zero (length xs) l)
number_inj (x ∷ xs) (y ∷ ys) p q l e =
    let n : ℕ = 256 ^ length xs in
    let m : length xs ≡ length ys = suc_inj l in
    let hx : number xs < n = number_lt xs (λ i. p (suc i)) in
    let hy : number ys < n = subst (λ (k : ℕ). number ys < 256 ^ k) (sym m) (number_lt ys (λ i. q (suc i))) in
    let f : x * n + number xs ≡ y * n + number ys = sym (number_cons x xs) ∙ e ∙ number_cons y ys ∙ ap (λ (k : ℕ). y * 256 ^ k + number ys) (sym m) in
    let a : x ≡ y = sym (digits_div x hx) ∙ ap (λ (t : ℕ). t / n) f ∙ digits_div y hy in
    let b : number xs ≡ number ys = sym (digits_mod x hx) ∙ ap (λ (t : ℕ). t % n) f ∙ digits_mod y hy in
    ap (λ (t : ℕ). t ∷ xs) a ∙ ap (λ (r : List ℕ). y ∷ r) (number_inj xs ys (λ i. p (suc i)) (λ i. q (suc i)) m b)

pub be_number : (k : ℕ) (xs : List ℕ) → Bytes xs → length xs ≡ k → be k (number xs) ≡ xs
be_number k xs p l =
    number_inj (be k (number xs)) xs (bytes_be k (number xs)) p (length_be k (number xs) ∙ sym l)
    (number_be k (number xs) (subst (λ (n : ℕ). number xs < 256 ^ n) l (number_lt xs p)))

from_append : (a : ℕ) (xs ys : List ℕ) → number_from a (xs ++ ys) ≡ number_from (number_from a xs) ys
unfolding number_from
from_append a [] ys = refl
from_append a (x ∷ xs) ys = from_append (a * 256 + x) xs ys

pub number_append : (xs ys : List ℕ) → number (xs ++ ys) ≡ number xs * 256 ^ length ys + number ys
unfolding number
number_append xs ys = from_append 0 xs ys ∙ from_eq (number_from 0 xs) ys

-- what std reads from four bytes and from eight, and writes as them
bytes_high : (k x : ℕ) → Bytes (bytes_high_first k x)
bytes_high zero x i = omega arith
bytes_high (suc zero) x zero = omega arith
bytes_high (suc (suc k)) x zero = omega arith
bytes_high (suc k) x (suc i) = bytes_high k x i

worth_4 : (xs : List ℕ) → from_be_bytes w32 xs ≡ number (run (λ j. get_or xs j 0) 0 4)
unfolding number number_from run
worth_4 xs = omega arith

from_4 : (xs : List ℕ) → length xs ≡ 4 → from_be_bytes w32 xs ≡ number xs
from_4 xs e = worth_4 xs ∙ ap number (run_get_or xs 4 0 e)

four_run : (xs : List ℕ) (at : ℕ) → run (λ j. get_or xs j 0) at 4 ≡ get_or xs at 0 ∷ get_or xs (at + 1) 0 ∷ get_or xs (at + 2) 0 ∷ get_or xs (at + 3) 0 ∷ []
unfolding run
four_run xs at = simp (add-one, add-two, add-three)

pub read_4 : (xs : List ℕ) (at : ℕ) → at + 4 ≤ length xs
    → from_be_bytes w32 (get_or xs at 0 ∷ get_or xs (at + 1) 0 ∷ get_or xs (at + 2) 0 ∷ get_or xs (at + 3) 0 ∷ []) ≡ number (part xs at 4)
read_4 xs at h = from_4 _ refl ∙ ap number (sym (part_run xs at 4 0 h ∙ four_run xs at))

pub written_4 : (x : ℕ) → x < 2 ^ 32 → to_be_bytes w32 x ≡ be 4 x
written_4 x h =
    let xs : List ℕ = to_be_bytes w32 x in
    sym (be_number 4 xs (bytes_high 4 x) refl) ∙ ap (be 4) (sym (from_4 xs refl) ∙ from_be_bytes-to_be_bytes_4 x h)

worth_8 : (xs : List ℕ) → from_be_bytes w64 xs ≡ number (run (λ j. get_or xs j 0) 0 8)
unfolding number number_from run
worth_8 xs = omega arith

from_8 : (xs : List ℕ) → length xs ≡ 8 → from_be_bytes w64 xs ≡ number xs
from_8 xs e = worth_8 xs ∙ ap number (run_get_or xs 8 0 e)

eight_run : (xs : List ℕ) (at : ℕ) → run (λ j. get_or xs j 0) at 8
    ≡ get_or xs at 0 ∷ get_or xs (at + 1) 0 ∷ get_or xs (at + 2) 0 ∷ get_or xs (at + 3) 0
    ∷ get_or xs (at + 4) 0 ∷ get_or xs (at + 5) 0 ∷ get_or xs (at + 6) 0 ∷ get_or xs (at + 7) 0 ∷ []
unfolding run
eight_run xs at = simp (add-one, add-two, add-three, add-four, add_five, add_six, add_seven)

pub read_8 : (xs : List ℕ) (at : ℕ) → at + 8 ≤ length xs
    → from_be_bytes w64
    (get_or xs at 0 ∷ get_or xs (at + 1) 0 ∷ get_or xs (at + 2) 0 ∷ get_or xs (at + 3) 0
    ∷ get_or xs (at + 4) 0 ∷ get_or xs (at + 5) 0 ∷ get_or xs (at + 6) 0 ∷ get_or xs (at + 7) 0 ∷ [])
    ≡ number (part xs at 8)
read_8 xs at h = from_8 _ refl ∙ ap number (sym (part_run xs at 8 0 h ∙ eight_run xs at))

pub written_8 : (x : ℕ) → x < 2 ^ 64 → to_be_bytes w64 x ≡ be 8 x
written_8 x h =
    let xs : List ℕ = to_be_bytes w64 x in
    sym (be_number 8 xs (bytes_high 8 x) refl) ∙ ap (be 8) (sym (from_8 xs refl) ∙ from_be_bytes-to_be_bytes_8 x h)

pub four_lt : (xs : List ℕ) (at : ℕ) → Bytes xs → at + 4 ≤ length xs → number (part xs at 4) < 4294967296
four_lt xs at p h =
    subst (λ (k : ℕ). number (part xs at 4) < 256 ^ k) (length_part xs at 4 h) (number_lt (part xs at 4) (bytes_part xs at 4 p))

pub eight_lt : (xs : List ℕ) (at : ℕ) → Bytes xs → at + 8 ≤ length xs → number (part xs at 8) < 2 ^ 64
eight_lt xs at p h =
    subst (λ (k : ℕ). number (part xs at 8) < 256 ^ k) (length_part xs at 8 h) (number_lt (part xs at 8) (bytes_part xs at 8 p))
