-- A block that is filled from a slice.
-- Assumes nothing.
use mathlib.Core.Path.{◌≡◌, sym, ap, ◌∙◌}
use mathlib.Core.Logic.{◌⊎◌, inl, inr, ⊎_elim}
use mathlib.Core.List.{List, ◌++◌}
use Prim.Native.Nat.{ℕ, ◌+◌, ◌-◌, ◌≤◌, ◌<◌, min}
use native.Mathlib.Nat.{zero-add}
use native.Mathlib.Decide.{dec_lt}
use native.Mathlib.Omega.{arith}
use lib.ListN.{length, get_or, take, drop, get_or-eq_default, get_or-append}
use lib.Seq.{get_or-append-add, get_or-take, get_or-drop, drop_at, length-take-le}
use borrow.Rule.Slice.PartMut.{put_mid, mid_len, same_len_mid, take_put, drop_put}
use Rattle.blake2b.specs.Inner.{Blank, Filled, Piece}

-- n bytes of s from place p on stand in b from place `from` on
pub record Copied (b : List ℕ) (from : ℕ) (s : List ℕ) (p n : ℕ) (out : List ℕ) : Type 0 where
  pub long : length out ≡ 128
  pub kept : (k : ℕ) → k < from → get_or out k 0 ≡ get_or b k 0
  pub passed : (i : ℕ) → i < n → get_or out (from + i) 0 ≡ get_or s (p + i) 0
  pub ahead : (k : ℕ) → from + n ≤ k → get_or out k 0 ≡ get_or b k 0

pub copied_part : (b : List ℕ) (from : ℕ) (s : List ℕ) (p n : ℕ) (ys : List ℕ) → length b ≡ 128 → from + n ≤ 128 → p + n ≤ length s
    → ys ≡ take (p + n - p) (drop p s) → Copied b from s p n (put_mid from (from + n - from) b ys)
copied_part b from s p n ys l h g e =
    let m : ℕ = from + n - from in
    let r : List ℕ = put_mid from m b ys in
    let zs : List ℕ = drop m (drop from b) in
    let i : m ≡ n = omega arith in
    let o : length ys ≡ n = ap length e ∙ mid_len p (p + n) s g ∙ omega arith in
    record {
      long = same_len_mid from m b ys (o ∙ sym i ∙ sym (mid_len from (from + n) b (omega arith))) ∙ l;
      kept =
          λ k a.
          sym (get_or-take from r k 0 a) ∙ ap (λ (us : List ℕ). get_or us k 0) (take_put from m b ys (omega arith)) ∙ get_or-take from b k 0 a;
      passed =
          λ j a.
          sym (get_or-drop from r j 0) ∙ ap (λ (us : List ℕ). get_or us j 0) (drop_at (take from b) (ys ++ zs) from (length-take-le from b (omega arith)))
          ∙ get_or-append ys zs 0 j (omega arith) ∙ ap (λ (us : List ℕ). get_or us j 0) e
          ∙ get_or-take (p + n - p) (drop p s) j 0 (omega arith) ∙ get_or-drop p s j 0;
      ahead =
          λ k a.
          let q : ℕ = k - (from + n) in
          let f : from + n + q ≡ k = omega arith in
          ap (λ (x : ℕ). get_or r x 0) (sym f) ∙ sym (get_or-drop (from + n) r q 0)
          ∙ ap (λ (us : List ℕ). get_or us q 0) (drop_put from (from + n) b ys (omega arith) (omega arith) (o ∙ sym i))
          ∙ get_or-drop (from + n) b q 0 ∙ ap (λ (x : ℕ). get_or b x 0) f;
    }

-- which of two numbers is the smaller
order : (a b : ℕ) → (a < b) ⊎ (b ≤ a)
order a b = elim (dec_lt a b) [ yes h ↦ inl h | no h ↦ inr (omega arith) ]

-- all bytes that there are and that fit have gone in
pub copied_all : (b : List ℕ) (from : ℕ) (s : List ℕ) (p n : ℕ) (out : List ℕ) → min (128 - from) (length s - p) ≤ n → Blank b from
    → Copied b from s p n out → Filled b from s p out
copied_all b from s p n out e blank g =
    record {
      long = g.long;
      kept = g.kept;
      filled =
          λ j h.
          ⊎_elim (λ (l : j < n). g.passed j l)
          (λ (l : n ≤ j).
          g.ahead (from + j) (omega arith) ∙ blank.zeros (from + j) (omega arith) h ∙ sym (get_or-eq_default s 0 (omega arith)))
          (order j n);
    }

-- the message's bytes from p on, where p is in the body
pub piece_body : (x y : List ℕ) (p : ℕ) (b r : List ℕ) → length x ≤ p → Filled b 0 y (p - length x) r → Piece (x ++ y) p r
piece_body x y p b r h f =
    record {
      long = f.long;
      holds =
          λ j l.
          let e : length x + (p - length x + j) ≡ p + j = omega arith in
          ap (λ (i : ℕ). get_or r i 0) (sym (zero-add j)) ∙ f.filled j (omega arith) ∙ sym (get_or-append-add x y (p - length x + j) 0)
          ∙ ap (λ (i : ℕ). get_or (x ++ y) i 0) e;
    }

-- the message's bytes from p on, where p is in the prefix, of which m bytes have gone into q
module _ (x y : List ℕ) (p : ℕ) (b q : List ℕ) (m : ℕ) (h : p < length x) (f : Filled b 0 x p q) (e : m ≡ min (length x - p) 128) where
  in_prefix : (k : ℕ) → k < 128 → get_or q k 0 ≡ get_or x (p + k) 0
  in_prefix k l = ap (λ (i : ℕ). get_or q i 0) (sym (zero-add k)) ∙ f.filled k (omega arith)

  -- what the prefix leaves of the block is blank
  pub blank_after : Blank q m
  blank_after = record { long = f.long; zeros = λ k l u. in_prefix k u ∙ get_or-eq_default x 0 (omega arith) }

  pub piece_prefix : (r : List ℕ) → Filled q m y 0 r → Piece (x ++ y) p r
  piece_prefix r g =
      record {
        long = g.long;
        holds =
            λ j l.
            ⊎_elim
            (λ (u : j < m). g.kept j u ∙ in_prefix j l ∙ sym (get_or-append x y 0 (p + j) (omega arith)))
            (λ (u : m ≤ j).
            let e₁ : j ≡ m + (j - m) = omega arith in
            let e₂ : length x + (0 + (j - m)) ≡ p + j = omega arith in
            ap (λ (i : ℕ). get_or r i 0) e₁ ∙ g.filled (j - m) (omega arith) ∙ sym (get_or-append-add x y (0 + (j - m)) 0)
            ∙ ap (λ (i : ℕ). get_or (x ++ y) i 0) e₂)
            (order j m);
      }
