-- Changes at two places of a list, in any order, of which one may be a bit. Assumes nothing.
use Prim.Native.Nat.{ℕ, ◌+◌, ◌-◌, ◌/◌, ◌%◌, ◌≤◌, ◌<◌}
use mathlib.Core.Path.{◌≡◌, sym, ap, ◌∙◌}
use mathlib.Core.Logic.{◌⊎◌, inl, inr}
use mathlib.Core.List.{List, ◌++◌}
use native.Mathlib.Nat.{add-zero}
use native.Mathlib.Omega.{arith}
use lib.Dec.{eqb}
use lib.ListN.{length, get_or, set, take, drop, length-set, take-append-drop}
use lib.Seq.{length-take-le, take-set-le, drop-set-lt, drop-set-add}
use Rattle.byte_strings.specs.Lists.{part, put}
use Rattle.byte_strings.proofs.Lists.{length_put}
use Rattle.bitfield.specs.Bits.{digit, bit_at, change_bit}
use Rattle.bitfield.proofs.Image.{Local, bit_local, put_local}
use Rattle.byte_strings.proofs.Puts.{get_d_beside}

-- two changes, of which one ends before the other begins
apart : (op op' : List ℕ → ℕ → List ℕ) (w w' : ℕ) → Local op w → Local op' w' → (xs : List ℕ) (a b : ℕ) → a + w ≤ b → b ≤ length xs
    → length (op (take b xs) a) ≡ b → op' (op xs a) b ≡ op (op' xs b) a
apart op op' w w' l l' xs a b h r k =
    let u : List ℕ = take b xs in
    let v : List ℕ = drop b xs in
    let e : u ++ v ≡ xs = take-append-drop b xs in
    let n : length u ≡ b = length-take-le b xs r in
    let z : b + 0 ≡ b = add-zero b in
    let there : op' (op xs a) b ≡ op u a ++ op' v 0 =
    ap (λ (ys : List ℕ). op' (op ys a) b) (sym e) ∙ ap (λ (ys : List ℕ). op' ys b) (l.within u v a (omega arith))
    ∙ ap (op' (op u a ++ v)) (sym z) ∙ l'.behind (op u a) v b 0 k in
    let back : op (op' xs b) a ≡ op u a ++ op' v 0 =
    ap (λ (ys : List ℕ). op (op' ys b) a) (sym e) ∙ ap (λ (i : ℕ). op (op' (u ++ v) i) a) (sym z) ∙ ap (λ (ys : List ℕ). op ys a) (l'.behind u v b 0 n)
    ∙ l.within u (op' v 0) a (omega arith) in
    there ∙ sym back

length_change : (f : ℕ → ℕ → ℕ) (xs : List ℕ) (p b : ℕ) → length (change_bit f xs p b) ≡ length xs
unfolding change_bit
length_change f xs p b = length-set xs (p + b / 8) _

module _ (xs : List ℕ) where
  puts_apart : (a : ℕ) (ys : List ℕ) (b : ℕ) (zs : List ℕ) → a + length ys ≤ b → b ≤ length xs → put (put xs a ys) b zs ≡ put (put xs b zs) a ys
  puts_apart a ys b zs h r =
      let n : length (take b xs) ≡ b = length-take-le b xs r in
      apart (λ us p. put us p ys) (λ us p. put us p zs) (length ys) (length zs) (put_local ys) (put_local zs) xs a b h r
      (length_put (take b xs) a ys (omega arith) ∙ n)

  pub puts_turn : (a : ℕ) (ys : List ℕ) (b : ℕ) (zs : List ℕ) → (a + length ys ≤ b) ⊎ (b + length zs ≤ a) → a ≤ length xs → b ≤ length xs
      → put (put xs a ys) b zs ≡ put (put xs b zs) a ys
  puts_turn a ys b zs w h r = elim w [ inl l ↦ puts_apart a ys b zs l r | inr l ↦ sym (puts_apart b zs a ys l h) ]

  -- a bit, and what is put beside it
  pub bit_put : (f : ℕ → ℕ → ℕ) (p b at : ℕ) (ys : List ℕ) → (p + (b / 8 + 1) ≤ at) ⊎ (at + length ys ≤ p) → p ≤ length xs → at ≤ length xs
      → put (change_bit f xs p b) at ys ≡ change_bit f (put xs at ys) p b
  bit_put f p b at ys w h r =
      elim w [
        | inl l ↦
            let n : length (take at xs) ≡ at = length-take-le at xs r in
            apart (λ us q. change_bit f us q b) (λ us q. put us q ys) (b / 8 + 1) (length ys) (bit_local f b) (put_local ys) xs p at l r (length_change f (take at xs) p b ∙ n)
        | inr l ↦
            let n : length (take p xs) ≡ p = length-take-le p xs h in
            sym
            (apart (λ us q. put us q ys) (λ us q. change_bit f us q b) (length ys) (b / 8 + 1) (put_local ys) (bit_local f b) xs at p l h
            (length_put (take p xs) at ys (omega arith) ∙ n))
      ]

  -- a part beside a bit
  pub part_bit : (f : ℕ → ℕ → ℕ) (p b at k : ℕ) → (p + b / 8 < at) ⊎ (at + k ≤ p) → part (change_bit f xs p b) at k ≡ part xs at k
  unfolding change_bit part
  part_bit f p b at k w =
      elim w [
        | inl l ↦ ap (take k) (drop-set-lt at xs (p + b / 8) _ l)
        | inr l ↦
            let i : ℕ = p + b / 8 - at in
            let e : p + b / 8 ≡ at + i = omega arith in
            ap (λ (j : ℕ). take k (drop at (set xs j (f (get_or xs (p + b / 8) 0) (7 - b % 8))))) e ∙ ap (take k) (drop-set-add at xs i _)
            ∙ take-set-le k (drop at xs) i _ (omega arith)
      ]

  -- a bit beside what is put
  pub bit_beside : (at : ℕ) (ys : List ℕ) (p b : ℕ) → (p + b / 8 < at) ⊎ (at + length ys ≤ p + b / 8) → at ≤ length xs
      → bit_at (put xs at ys) p b ≡ bit_at xs p b
  unfolding bit_at
  bit_beside at ys p b w r = ap (λ (x : ℕ). eqb (digit x (7 - b % 8)) 1) (get_d_beside xs at ys (p + b / 8) w r)
