-- The array of roots, as it is filled from the highest bit downward.
-- Assumes nothing.
use Prim.Native.Nat.{ℕ, zero, suc, ◌+◌, ◌-◌, ◌/◌, ◌%◌, ◌^◌, ◌≤◌, ◌<◌}
use mathlib.Core.Path.{◌≡◌, refl, sym, ap, ap₂, ◌∙◌}
use mathlib.Core.List.{List, [], ◌∷◌, ◌++◌, append-nil}
use native.Mathlib.Omega.{arith}
use lib.ListN.{length, set, replicate, length-append}
use lib.Seq.{set_at, append_snoc}
use Rattle.tree_index.specs.Tree.{index, root_of, roots_below, roots}
use Rattle.tree_index.proofs.Roots.{roots_above, above_snoc, roots_split, no_root, one_root, length_roots_le}

-- the bits of n from d upward are seen: their roots, count in number, and zeros behind them
pub record Gathered (n d count : ℕ) (found : List ℕ) : Type 0 where
  pub low : d ≤ 21
  pub list : found ≡ roots_above (21 - d) d n ++ replicate (20 - count) 0
  pub many : count ≡ length (roots_above (21 - d) d n)

pub gathered_none : {n : ℕ} → Gathered n 21 0 (replicate 20 0)
unfolding roots_above
gathered_none = record { low = omega arith; list = refl; many = refl }

-- one bit more
seen : (n d : ℕ) → 0 < d → d ≤ 21 → roots_above (21 - (d - 1)) (d - 1) n ≡ roots_above (21 - d) d n ++ root_of (d - 1) n
seen n d p l =
    let count : 21 - (d - 1) ≡ suc (21 - d) = omega arith in
    let next : suc (d - 1) ≡ d = omega arith in
    ap (λ (x : ℕ). roots_above x (d - 1) n) count
    ∙ above_snoc (21 - d) (d - 1) n
    ∙ ap (λ (x : ℕ). roots_above (21 - d) x n ++ root_of (d - 1) n) next

pub gathered_skip : {n d count : ℕ} {found : List ℕ} → Gathered n d count found → 0 < d → n / 2 ^ (d - 1) % 2 ≡ 0 → Gathered n (d - 1) count found
gathered_skip {n} {d} {count} g p e =
    let same : roots_above (21 - (d - 1)) (d - 1) n ≡ roots_above (21 - d) d n =
    seen n d p g.low ∙ ap (λ (l : List ℕ). roots_above (21 - d) d n ++ l) (no_root (d - 1) n e) ∙ append-nil (roots_above (21 - d) d n)
    in
    record {
      low = omega arith;
      list = g.list ∙ ap (λ (l : List ℕ). l ++ replicate (20 - count) 0) (sym same);
      many = g.many ∙ ap length (sym same);
    }

-- a root that is still to come has room
pub gathered_room : {n d count : ℕ} {found : List ℕ} → Gathered n d count found → n ≤ 2 ^ 20 → 0 < d → n / 2 ^ (d - 1) % 2 ≡ 1 → count < 20
unfolding roots roots_below
gathered_room {n} {d} g h p e =
    let next : d ≡ suc (d - 1) = omega arith in
    let all : (21 - d) + d ≡ 21 = omega (arith, g.low) in
    let first : roots_below d n ≡ root_of (d - 1) n ++ roots_below (d - 1) n = ap (λ (x : ℕ). roots_below x n) next in
    let ahead : length (roots_below d n) ≡ 1 + length (roots_below (d - 1) n) =
    ap length first ∙ length-append (root_of (d - 1) n) (roots_below (d - 1) n)
    ∙ ap (λ (l : List ℕ). length l + length (roots_below (d - 1) n)) (one_root (d - 1) n e)
    in
    let whole : length (roots_below 21 n) ≡ length (roots_above (21 - d) d n) + length (roots_below d n) =
    ap (λ (x : ℕ). length (roots_below x n)) (sym all) ∙ ap length (roots_split (21 - d) d n)
    ∙ length-append (roots_above (21 - d) d n) (roots_below d n)
    in
    omega (arith, length_roots_le n h, g.many)

pub gathered_root : {n d count v : ℕ} {found : List ℕ} → Gathered n d count found → n ≤ 2 ^ 20 → 0 < d → n / 2 ^ (d - 1) % 2 ≡ 1
    → v ≡ index (d - 1) (n / 2 ^ (d - 1) - 1) → Gathered n (d - 1) (count + 1) (set found count v)
gathered_root {n} {d} {count} {v} g h p e q =
    let done : List ℕ = roots_above (21 - d) d n in
    let rest : List ℕ = replicate (20 - (count + 1)) 0 in
    let more : roots_above (21 - (d - 1)) (d - 1) n ≡ roots_above (21 - d) d n ++ (v ∷ []) =
    seen n d p g.low
    ∙ ap (λ (l : List ℕ). roots_above (21 - d) d n ++ l) (one_root (d - 1) n e ∙ ap (λ (x : ℕ). x ∷ []) (sym q))
    in
    let room : 20 - count ≡ suc (20 - (count + 1)) = omega (arith, gathered_room g h p e) in
    record {
      low = omega (arith, g.low);
      list =
          ap (λ (l : List ℕ). set l count v) (g.list ∙ ap (λ (x : ℕ). done ++ replicate x 0) room)
          ∙ set_at done 0 rest v count (sym g.many)
          ∙ sym (ap (λ (l : List ℕ). l ++ rest) more ∙ append_snoc done v rest);
      many =
          ap (λ (x : ℕ). x + 1) g.many ∙ sym (ap length more ∙ length-append done (v ∷ []));
    }

pub gathered_all : {n d count : ℕ} {found : List ℕ} → Gathered n d count found → d ≤ 0 → found ≡ roots n ++ replicate (20 - length (roots n)) 0
unfolding roots roots_below
gathered_all {n} {d = zero} g h =
    let whole : roots_above 21 0 n ≡ roots_below 21 n = sym (roots_split 21 0 n ∙ append-nil (roots_above 21 0 n)) in
    g.list ∙ ap₂ (λ (l : List ℕ) (x : ℕ). l ++ replicate (20 - x) 0) whole (g.many ∙ ap length whole)
gathered_all {d = suc d} g h = absurd (omega arith)
