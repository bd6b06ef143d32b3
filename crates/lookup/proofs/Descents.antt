-- Where a descent ends, and by which way it came there. Two things vary: the order in which what is sought is met (a chunk number, a byte
-- offset), and what is known of where blocks begin (nothing of any tree file; their starts in one that belongs to a chunk sequence). An unknown entry
-- that a descent names is not known.
-- Assumes nothing.
use Prim.Native.Nat.{ℕ, zero, suc, ◌+◌, ◌-◌, ◌*◌, ◌/◌, ◌%◌, ◌^◌, ◌≤◌, ◌<◌}
use mathlib.Core.Path.{◌≡◌, refl, sym, ap, ap₂, ◌∙◌, subst}
use mathlib.Core.Bool.{Bool, true, false}
use mathlib.Core.Logic.{◌⊎◌, inl, inr}
use mathlib.Core.List.{List, [], ◌∷◌, ◌++◌, append-nil, append_assoc, map, map-append}
use native.Mathlib.Nat.{mul-one, mul_assoc, zero-mul, one-mul, add-zero, div-mul-le_self, div-one, div-eq_of_lt, pow-succ'}
use native.Mathlib.Omega.{arith}
use borrow.Author.Tests.{ltb-true, ltb-false, leb-true, leb-false, eqb-true, eqb-false}
use lib.Dec.{leb, eqb}
use Rattle.byte_strings.specs.Lists.{total}
use Rattle.byte_strings.proofs.Lists.{total_append}
use Rattle.tree_index.specs.Tree.{index, root_of, roots_below, roots}
use Rattle.tree_index.proofs.Index.{depth_index, block_index, pow_twice}
use Rattle.tree_index.proofs.Filled.{block_end}
use Rattle.tree_index.proofs.Roots.{bit, no_root, one_root}
use Rattle.tree_index.proofs.Cover.{high_bits}
use Rattle.file_format.specs.Sizes.{longest_chunk}
use Rattle.file_format.specs.Stored.{stored_size, stored_root_sizes}
use Rattle.lookup.specs.Descent.{Ending, stopped, reached, unknown, if_known, chunk_within, byte_within, descend, from_roots, descent}
use Rattle.lookup.specs.Theorems.{Right, Visits, from_root, to_left, to_right}

-- What is sought is met from a place on (`Lo p s`: not before chunk p, whose bytes begin at s), and before one (`Hi p s`).
pub record Order (within : ℕ → ℕ → ℕ → ℕ → Bool) (Lo Hi : ℕ → ℕ → Type 0) : Type 0 where
  pub yes : (d k s z : ℕ) → within d k s z ≡ true → Hi ((k + 1) * 2 ^ d) (s + z)
  pub no : (d k s z : ℕ) → within d k s z ≡ false → Lo ((k + 1) * 2 ^ d) (s + z)
  pub never : (p s : ℕ) → Lo p s → Hi p s → ⊥

-- what holds of the start of each block in turn (`At p s`)
abbrev pub Steps : List ℕ → ℕ → (ℕ → ℕ → Type 0) → Type 0
Steps t n At = (d k s : ℕ) → (k + 1) * 2 ^ d ≤ n → At (k * 2 ^ d) s → At ((k + 1) * 2 ^ d) (s + stored_size t (index d k))

-- a block that a descent comes to, its bytes beginning at s
pub record Met (t : List ℕ) (n : ℕ) (Lo Hi At : ℕ → ℕ → Type 0) (d k s : ℕ) : Type 0 where
  pub inside : (k + 1) * 2 ^ d ≤ n
  pub at : At (k * 2 ^ d) s
  pub low : Lo (k * 2 ^ d) s
  pub high : Hi ((k + 1) * 2 ^ d) (s + stored_size t (index d k))
  pub to : s + stored_size t (index d k) ≤ total (stored_root_sizes t n)
  pub visited : Visits t n d k s

-- where it ends: at a leaf that is right, or at a block that is not
pub record Landed (t : List ℕ) (n : ℕ) (Lo Hi At : ℕ → ℕ → Type 0) (k s : ℕ) : Type 0 where
  pub met : Met t n Lo Hi At 0 k s
  pub fits : Right t 0 k

pub record Halted (t : List ℕ) (n : ℕ) (Lo Hi At : ℕ → ℕ → Type 0) (i : ℕ) : Type 0 where
  pub d : ℕ
  pub k : ℕ
  pub start : ℕ
  pub here : i ≡ index d k
  pub met : Met t n Lo Hi At d k start
  pub wrong : Right t d k → ⊥

abbrev pub Ends : (known : ℕ → Bool) (t : List ℕ) (n : ℕ) (Lo Hi At : ℕ → ℕ → Type 0) → Ending → Type 0
Ends known t n Lo Hi At (stopped i) = Halted t n Lo Hi At i
Ends known t n Lo Hi At (reached k start) = Landed t n Lo Hi At k start
Ends known t n Lo Hi At (unknown i) = known i ≡ false

-- the children of a block: where they begin and end
pub left_first : (d k : ℕ) → 2 * k * 2 ^ d ≡ k * 2 ^ suc d
left_first d k = mul_assoc 2 k (2 ^ d) ∙ sym (pow_twice k d)

pub right_end : (d k : ℕ) → (2 * k + 1 + 1) * 2 ^ d ≡ (k + 1) * 2 ^ suc d
right_end d k = ap (λ (x : ℕ). x * 2 ^ d) (omega arith) ∙ left_first d (k + 1)

pub left_inside : (d k n : ℕ) → (k + 1) * 2 ^ suc d ≤ n → (2 * k + 1) * 2 ^ d ≤ n
left_inside d k n h = omega (arith, right_end d k, block_end d (2 * k + 1))

pub twice : (d : ℕ) → 2 ^ suc d ≡ 2 ^ d + 2 ^ d
twice d = omega (arith, pow-succ' 2 d)

module _ (known : ℕ → Bool) (within : ℕ → ℕ → ℕ → ℕ → Bool) (t : List ℕ) (n : ℕ) (Lo Hi At : ℕ → ℕ → Type 0) (order : Order within Lo Hi) (step : Steps t n At) where
  abbrev size : ℕ → ℕ → ℕ
  size d k = stored_size t (index d k)

  abbrev Here : Ending → Type 0
  Here = Ends known t n Lo Hi At

  -- an entry is read, and what follows holds where it is known
  read : (i : ℕ) (e : Ending) → Here e → Here (if_known (known i) i e)
  read i e h = go (known i) refl
    where
      go : (b : Bool) → known i ≡ b → Here (if_known b i e)
      go true f = h
      go false f = f

  abbrev Down : ℕ → Type 0
  Down d = (k s : ℕ) → Met t n Lo Hi At d k s → Here (descend known within t d k s)

  down : (d : ℕ) → Down d
  unfolding descend
  down zero k s m = pick (leb (size 0 k) longest_chunk) refl
    where
      pick : (b : Bool) → leb (size 0 k) longest_chunk ≡ b → Here (elim b [ true ↦ reached k s | false ↦ stopped (index 0 k) ])
      pick true e = record { met = m; fits = leb-true (size 0 k) longest_chunk e }
      pick false e =
          record { d = 0; k = k; start = s; here = refl; met = m; wrong = λ f. omega (arith, leb-false (size 0 k) longest_chunk e) }
  down (suc d) k s m =
      let sum : Bool = eqb (size (suc d) k) (size d (2 * k) + size d (2 * k + 1)) in
      let e : Ending = elim sum [ true ↦ child (within d (2 * k) s (size d (2 * k))) | false ↦ stopped (index (suc d) k) ] in
      read (index d (2 * k)) (if_known (known (index d (2 * k + 1))) (index d (2 * k + 1)) e) (read (index d (2 * k + 1)) e (pick (down d) sum refl))
    where
      child : Bool → Ending
      child b = elim b [ true ↦ descend known within t d (2 * k) s | false ↦ descend known within t d (2 * k + 1) (s + size d (2 * k)) ]

      first : At (2 * k * 2 ^ d) s
      first = subst (λ (x : ℕ). At x s) (sym (left_first d k)) m.at

      choose : Down d → Right t (suc d) k → (b : Bool) → within d (2 * k) s (size d (2 * k)) ≡ b → Here (child b)
      choose rec e true w =
          rec (2 * k) s
          (record {
            inside = left_inside d k n m.inside;
            at = first;
            low = subst (λ (x : ℕ). Lo x s) (sym (left_first d k)) m.low;
            high = order.yes d (2 * k) s (size d (2 * k)) w;
            to = omega (arith, m.to);
            visited = to_left d k s m.visited e;
          })
      choose rec e false w =
          let next : ℕ = s + size d (2 * k) in
          let sum : s + size (suc d) k ≡ next + size d (2 * k + 1) = omega arith in
          rec (2 * k + 1) next
          (record {
            inside = subst (λ (x : ℕ). x ≤ n) (sym (right_end d k)) m.inside;
            at = step d (2 * k) s (left_inside d k n m.inside) first;
            low = order.no d (2 * k) s (size d (2 * k)) w;
            high = subst (λ (x : ℕ). Hi x (next + size d (2 * k + 1))) (sym (right_end d k)) (subst (Hi ((k + 1) * 2 ^ suc d)) sum m.high);
            to = omega (arith, m.to);
            visited = to_right d k s m.visited e;
          })

      pick : Down d → (b : Bool) → eqb (size (suc d) k) (size d (2 * k) + size d (2 * k + 1)) ≡ b
          → Here (elim b [ true ↦ child (within d (2 * k) s (size d (2 * k))) | false ↦ stopped (index (suc d) k) ])
      pick rec true e = choose rec (eqb-true (size (suc d) k) (size d (2 * k) + size d (2 * k + 1)) e) (within d (2 * k) s (size d (2 * k))) refl
      pick rec false e =
          record {
            d = suc d;
            k = k;
            start = s;
            here = refl;
            met = m;
            wrong = eqb-false (size (suc d) k) (size d (2 * k) + size d (2 * k + 1)) e;
          }

  -- a root and those behind it
  abbrev or_else : Bool → Ending → Ending → Ending
  or_else b x y = elim b [ true ↦ x | false ↦ y ]

  first_root : (d k s : ℕ) (is : List ℕ) → from_roots known within t (index d k ∷ is) s
      ≡ if_known (known (index d k)) (index d k) (or_else (within d k s (size d k)) (descend known within t d k s) (from_roots known within t is (s + size d k)))
  unfolding from_roots
  first_root d k s is =
      ap₂ (λ (e b : ℕ). if_known (known (index d k)) (index d k) (or_else (within e b s (size d k)) (descend known within t e b s) (from_roots known within t is (s + size d k))))
      (depth_index d k) (block_index d k)

  abbrev sum : List ℕ → ℕ
  sum is = total (map (stored_size t) is)

  sum_append : (is js : List ℕ) → sum (is ++ js) ≡ sum is + sum js
  sum_append is js = ap total (map-append (stored_size t) is js) ∙ total_append (map (stored_size t) is) (map (stored_size t) js)

  -- what is left of the roots, behind those before
  abbrev Among : ℕ → Type 0
  Among d = (before : List ℕ) → roots n ≡ before ++ roots_below d n → At (n / 2 ^ d * 2 ^ d) (sum before) → Lo (n / 2 ^ d * 2 ^ d) (sum before)
      → Here (from_roots known within t (roots_below d n) (sum before))

  among_roots : Hi n (sum (roots n)) → (d : ℕ) → Among d
  unfolding roots_below total stored_root_sizes
  among_roots hi zero before same at lo =
      let all : sum (roots n) ≡ sum before = ap sum (same ∙ append-nil before) in
      absurd (order.never n (sum before) (subst (λ (x : ℕ). Lo x (sum before)) (mul-one (n / 1) ∙ div-one n) lo) (subst (Hi n) all hi))
  among_roots hi (suc d) before same at lo = pick (among_roots hi d) (bit (n / 2 ^ d))
    where
      q : ℕ
      q = n / 2 ^ d

      rest : List ℕ
      rest = roots_below d n

      s : ℕ
      s = sum before

      choose : Among d → (k : ℕ) → k + 1 ≡ q → k * 2 ^ d ≡ n / 2 ^ suc d * 2 ^ suc d → roots n ≡ before ++ (index d k ∷ rest)
          → (b : Bool) → within d k s (size d k) ≡ b → Here (or_else b (descend known within t d k s) (from_roots known within t rest (s + size d k)))
      choose rec k e f these b w = go b w
        where
          inside : (k + 1) * 2 ^ d ≤ n
          inside = subst (λ (x : ℕ). x * 2 ^ d ≤ n) (sym e) (div-mul-le_self n (2 ^ d))

          at_k : At (k * 2 ^ d) s
          at_k = subst (λ (x : ℕ). At x s) (sym f) at

          next : sum (before ++ (index d k ∷ [])) ≡ s + size d k
          next = sum_append before (index d k ∷ []) ∙ ap (λ (x : ℕ). s + x) (add-zero (size d k))

          go : (b : Bool) → within d k s (size d k) ≡ b → Here (or_else b (descend known within t d k s) (from_roots known within t rest (s + size d k)))
          go true w =
              down d k s
              (record {
                inside = inside;
                at = at_k;
                low = subst (λ (x : ℕ). Lo x s) (sym f) lo;
                high = order.yes d k s (size d k) w;
                to = omega (arith, ap sum these, sum_append before (index d k ∷ rest));
                visited = from_root before rest d k these;
              })
          go false w =
              subst (λ (x : ℕ). Here (from_roots known within t rest x)) next
              (rec (before ++ (index d k ∷ [])) (these ∙ sym (append_assoc before (index d k ∷ []) rest))
              (subst (At (q * 2 ^ d)) (sym next) (subst (λ (x : ℕ). At (x * 2 ^ d) (s + size d k)) e (step d k s inside at_k)))
              (subst (Lo (q * 2 ^ d)) (sym next) (subst (λ (x : ℕ). Lo (x * 2 ^ d) (s + size d k)) e (order.no d k s (size d k) w))))

      pick : Among d → (q % 2 ≡ 0) ⊎ (q % 2 ≡ 1) → Here (from_roots known within t (root_of d n ++ rest) s)
      pick rec (inl e) =
          let high : n / 2 ^ suc d * 2 ^ suc d ≡ q * 2 ^ d = omega (arith, high_bits d n, ap (λ (x : ℕ). x * 2 ^ d) e, zero-mul (2 ^ d)) in
          let none : root_of d n ++ rest ≡ rest = ap (λ (l : List ℕ). l ++ rest) (no_root d n e) in
          subst (λ (l : List ℕ). Here (from_roots known within t l s)) (sym none)
          (rec before (same ∙ ap (λ (l : List ℕ). before ++ l) none) (subst (λ (x : ℕ). At x s) high at) (subst (λ (x : ℕ). Lo x s) high lo))
      pick rec (inr e) =
          let k : ℕ = q - 1 in
          let one : root_of d n ++ rest ≡ index d k ∷ rest = ap (λ (l : List ℕ). l ++ rest) (one_root d n e) in
          let up : k + 1 ≡ q = omega arith in
          let begins : k * 2 ^ d ≡ n / 2 ^ suc d * 2 ^ suc d =
          omega (arith, high_bits d n, ap (λ (x : ℕ). x * 2 ^ d) e, one-mul (2 ^ d), ap (λ (x : ℕ). x * 2 ^ d) up, block_end d k)
          in
          subst (λ (l : List ℕ). Here (from_roots known within t l s)) (sym one)
          (subst Here (sym (first_root d k s rest))
          (read (index d k) (or_else (within d k s (size d k)) (descend known within t d k s) (from_roots known within t rest (s + size d k)))
          (choose rec k up begins (same ∙ ap (λ (l : List ℕ). before ++ l) one) (within d k s (size d k)) refl)))

  -- a descent among the roots of n chunks
  pub ends : n < 2 ^ 21 → At 0 0 → Lo 0 0 → Hi n (total (stored_root_sizes t n)) → Here (descent known within t n)
  unfolding descent roots stored_root_sizes total
  ends h at lo hi =
      let first : n / 2 ^ 21 * 2 ^ 21 ≡ 0 = ap (λ (x : ℕ). x * 2 ^ 21) (div-eq_of_lt h) ∙ zero-mul (2 ^ 21) in
      among_roots hi 21 [] refl (subst (λ (x : ℕ). At x 0) (sym first) at) (subst (λ (x : ℕ). Lo x 0) (sym first) lo)

-- the two orders
pub chunk_order : (c : ℕ) → Order (chunk_within c) (λ p s. p ≤ c) (λ p s. c < p)
unfolding chunk_within
chunk_order c =
    record {
      yes = λ d k s z e. ltb-true c ((k + 1) * 2 ^ d) e;
      no = λ d k s z e. ltb-false c ((k + 1) * 2 ^ d) e;
      never = λ p s l h. omega arith;
    }

pub byte_order : (b : ℕ) → Order (byte_within b) (λ p s. s ≤ b) (λ p s. b < s)
unfolding byte_within
byte_order b =
    record {
      yes = λ d k s z e. ltb-true b (s + z) e;
      no = λ d k s z e. ltb-false b (s + z) e;
      never = λ p s l h. omega arith;
    }
