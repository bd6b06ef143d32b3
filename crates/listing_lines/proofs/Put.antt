-- Texts put one behind the other, and the digits of a number.
-- Assumes nothing.
use Prim.Native.Nat.{ℕ, zero, suc, ◌+◌, ◌-◌, ◌/◌, ◌%◌, ◌≤◌, ◌<◌}
use mathlib.Core.Path.{◌≡◌, refl, sym, ap, ◌∙◌, subst}
use mathlib.Core.List.{List, [], ◌∷◌, ◌++◌, append_assoc, append-nil}
use native.Mathlib.Nat.{le_refl, add-zero, div-eq_of_lt}
use native.Mathlib.Omega.{arith}
use lib.ListN.{length, take, length-append}
use Rattle.byte_strings.specs.Lists.{put}
use Rattle.byte_strings.proofs.Lists.{length_put, take_put_end}
use Rattle.listing_lines.specs.Lines.{digits, decimal, line, chunks_word, bytes_word, roots_word}
use Rattle.listing_lines.specs.Inner.{Put, roots_of, first_of}

pub text_put : (xs : List ℕ) (at : ℕ) (ys after : List ℕ) → at + length ys ≤ length xs → after ≡ put xs at ys
    → Put xs at (length ys) ys (at + length ys) after
text_put xs at ys after h e =
    record {
      few = le_refl (length ys);
      next = refl;
      front = ap (take (at + length ys)) e ∙ take_put_end xs at (length ys) ys refl (omega arith);
      same = ap length e ∙ length_put xs at ys h;
    }

pub nothing_put : (xs : List ℕ) (at k : ℕ) → Put xs at k [] at xs
nothing_put xs at k =
    record { few = omega arith; next = sym (add-zero at); front = sym (append-nil (take at xs)); same = refl }

pub both_put : {xs ys zs t u : List ℕ} {at r s j k : ℕ} → Put xs at j t r ys → Put ys r k u s zs → Put xs at (j + k) (t ++ u) s zs
both_put {xs} {ys} {zs} {t} {u} {at} {r} {s} {j} {k} p q =
    record {
      few = omega (arith, length-append t u, p.few, q.few);
      next = omega (arith, length-append t u, p.next, q.next);
      front = q.front ∙ ap (λ (l : List ℕ). l ++ u) p.front ∙ append_assoc (take at xs) t u;
      same = q.same ∙ p.same;
    }

pub wider_put : {xs ys t : List ℕ} {at r j : ℕ} (k : ℕ) → j ≤ k → Put xs at j t r ys → Put xs at k t r ys
wider_put k h p = record { few = omega (arith, p.few); next = p.next; front = p.front; same = p.same }

pub same_put : {xs ys t u : List ℕ} {at r k : ℕ} → t ≡ u → Put xs at k t r ys → Put xs at k u r ys
same_put {xs} {ys} {t} {u} {at} {r} {k} e p = subst (λ (l : List ℕ). Put xs at k l r ys) e p

-- ---- digits

-- the digits where the quotient is none, and where it is not
abbrev chosen : ℕ → ℕ → ℕ → List ℕ
chosen k x q = elim q [ zero ↦ (48 + x % 10) ∷ [] | suc p ↦ digits k (x / 10) ++ ((48 + x % 10) ∷ []) ]

pub digits_one : (k x : ℕ) → 0 < k → x < 10 → (48 + x % 10) ∷ [] ≡ digits k x
unfolding digits
digits_one zero x h l = absurd (omega arith)
digits_one (suc k) x h l = sym (ap (chosen k x) (div-eq_of_lt l))

pub digits_more : (k x : ℕ) → 0 < k → 10 ≤ x → digits (k - 1) (x / 10) ++ ((48 + x % 10) ∷ []) ≡ digits k x
unfolding digits
digits_more zero x h l = absurd (omega arith)
digits_more (suc k) x h l =
    let e : x / 10 ≡ suc (x / 10 - 1) = omega arith in
    let s : suc k - 1 ≡ k = omega arith in
    ap (λ (m : ℕ). digits m (x / 10) ++ ((48 + x % 10) ∷ [])) s ∙ sym (ap (chosen k x) e)

pub none_digits : (xs : List ℕ) (at k x : ℕ) → k ≡ 0 → Put xs at k (digits k x) at xs
unfolding digits
none_digits xs at zero x e = nothing_put xs at 0
none_digits xs at (suc k) x e = absurd (omega arith)

pub one_digit : {xs ys : List ℕ} {at r : ℕ} (k x : ℕ) → (k ≡ 0 → ⊥) → x < 10 → Put xs at 1 ((48 + x % 10) ∷ []) r ys → Put xs at k (digits k x) r ys
one_digit k x h l p = same_put (digits_one k x (omega arith) l) (wider_put k (omega arith) p)

pub more_digits : {xs ys zs : List ℕ} {at r s : ℕ} (k x : ℕ) → (k ≡ 0 → ⊥) → 10 ≤ x → Put xs at (k - 1) (digits (k - 1) (x / 10)) r ys
    → Put ys r 1 ((48 + x % 10) ∷ []) s zs → Put xs at k (digits k x) s zs
more_digits k x h l p q = same_put (digits_more k x (omega arith) l) (wider_put k (omega arith) (both_put p q))

-- ---- lines

pub line_put : {b m₁ m₂ m₃ m₄ m₅ m₆ word : List ℕ} {at r₁ r₂ r₃ r₄ r₅ r₆ k : ℕ} (i start len : ℕ) → k ≤ 8
    → Put b at 20 (decimal i) r₁ m₁ → Put m₁ r₁ k word r₂ m₂ → Put m₂ r₂ 20 (decimal start) r₃ m₃ → Put m₃ r₃ 1 (32 ∷ []) r₄ m₄
    → Put m₄ r₄ 20 (decimal len) r₅ m₅ → Put m₅ r₅ 1 (10 ∷ []) r₆ m₆ → Put b at 70 (line i word start len) r₆ m₆
unfolding line
line_put i start len h p₁ p₂ p₃ p₄ p₅ p₆ =
    wider_put 70 (omega arith) (both_put p₁ (both_put p₂ (both_put p₃ (both_put p₄ (both_put p₅ p₆)))))

pub first_put : {b m₁ m₂ m₃ m₄ m₅ m₆ m₇ : List ℕ} {at r₁ r₂ r₃ r₄ r₅ r₆ r₇ : ℕ} (n size : ℕ)
    → Put b at 7 chunks_word r₁ m₁ → Put m₁ r₁ 20 (decimal n) r₂ m₂ → Put m₂ r₂ 7 bytes_word r₃ m₃ → Put m₃ r₃ 20 (decimal size) r₄ m₄
    → Put m₄ r₄ 6 roots_word r₅ m₅ → Put m₅ r₅ 420 (roots_of n) r₆ m₆ → Put m₆ r₆ 1 (10 ∷ []) r₇ m₇ → Put b at 481 (first_of n size) r₇ m₇
unfolding first_of
first_put n size p₁ p₂ p₃ p₄ p₅ p₆ p₇ = both_put p₁ (both_put p₂ (both_put p₃ (both_put p₄ (both_put p₅ (both_put p₆ p₇)))))
