-- Root messages told apart: by the roots themselves, and item by item.
-- Assumes nothing.
use Rattle.std.proofs.Common.{◌≡◌, ℕ, zero, suc, ◌^◌, ◌<◌, true, List, [], ◌∷◌, map, length, sym, refl, ap, ◌∙◌, arith, lit<, length-append}
use mathlib.Core.List.{tail-eq_of_cons-eq}
use Rattle.byte_strings.specs.Lists.{joined}
use Rattle.byte_strings.proofs.Lists.{length_run, length_part}
use Rattle.tree_index.specs.Tree.{filled, entries, roots}
use Rattle.tree_index.proofs.Filled.{filled_below}
use Rattle.tree_index.proofs.Roots.{root_filled}
use Rattle.tree_index.proofs.Cover.{in_block, roots_cover}
use Rattle.file_format.specs.Messages.{root_item, root_message}
use Rattle.file_format.specs.Stored.{stored_hash, stored_size, stored_root_message}
use Rattle.file_format.specs.Inner.{RootsIn}
use Rattle.file_format.proofs.ByValue.{item_length}
use Rattle.audit.proofs.Entries.{entry_in_lem}
use Rattle.compare.proofs.Local.{split_append, Every}
use Rattle.compare.proofs.Apart.{be_injective, item_injective}

-- the roots tell how many chunks lie under them
pub roots_injective : (n m : ℕ) → n < 2 ^ 21 → m < 2 ^ 21 → roots n ≡ roots m → n ≡ m
roots_injective n m h g e =
    sym (under n h) ∙ ap (λ (is : List ℕ). length (joined (map (in_block (λ (j : ℕ). j)) is))) e ∙ under m g
  where
    under : (k : ℕ) → k < 2 ^ 21 → length (joined (map (in_block (λ (j : ℕ). j)) (roots k))) ≡ k
    under k l = ap length (roots_cover (λ (j : ℕ). j) k l) ∙ length_run (λ (j : ℕ). j) 0 k

-- items of one width w, one behind the other, are told apart item by item, and so are the numbers that they are made of
module _ (f g : ℕ → List ℕ) (P Q : ℕ → Type 0) (w : ℕ) (some : 0 < w) (wide-f : (i : ℕ) → P i → length (f i) ≡ w)
    (wide-g : (i : ℕ) → Q i → length (g i) ≡ w) (tell : (i j : ℕ) → P i → Q j → f i ≡ g j → i ≡ j) where
  pub items_injective : (is js : List ℕ) → Every P is → Every Q js → joined (map f is) ≡ joined (map g js) → (is ≡ js) × Every (λ i. f i ≡ g i) is
  unfolding joined
  items_injective [] [] p q e = (refl, λ j l. absurd (omega arith))
  items_injective [] (j ∷ js) p q e =
      absurd (omega (arith, ap length e, length-append (g j) (joined (map g js)), wide-g j (q zero (omega arith))))
  items_injective (i ∷ is) [] p q e =
      absurd (omega (arith, ap length e, length-append (f i) (joined (map f is)), wide-f i (p zero (omega arith))))
  items_injective (i ∷ is) (j ∷ js) p q e = go (items_injective is js (λ k l. p (suc k) (omega arith)) (λ k l. q (suc k) (omega arith)) s.1)
    where
      pi : P i
      pi = p zero (omega arith)

      qj : Q j
      qj = q zero (omega arith)

      s : (f i ≡ g j) × (joined (map f is) ≡ joined (map g js))
      s = split_append (f i) (g j) (joined (map f is)) (joined (map g js)) (wide-f i pi ∙ sym (wide-g j qj)) e

      t : i ≡ j
      t = tell i j pi qj s.0

      each : Every (λ x. f x ≡ g x) is → Every (λ x. f x ≡ g x) (i ∷ is)
      each r zero l = s.0 ∙ ap g (sym t)
      each r (suc k) l = r k (omega arith)

      go : (is ≡ js) × Every (λ x. f x ≡ g x) is → (i ∷ is ≡ j ∷ js) × Every (λ x. f x ≡ g x) (i ∷ is)
      go r = ((λ x. t x ∷ r.0 x), each r.1)

-- ---- stored root messages

stored_long : (t : List ℕ) (n i : ℕ) → RootsIn t n → filled n i ≡ true → length (stored_hash t i) ≡ 32
unfolding stored_hash
stored_long t n i p f = length_part t _ 32 (omega (arith, (entry_in_lem p (filled_below n i f)).inside))

-- equal root messages have one number of chunks
pub same_count : (t u : List ℕ) (n m : ℕ) → RootsIn t n → RootsIn u m → stored_root_message t n ≡ stored_root_message u m → n ≡ m
unfolding stored_root_message root_message entries
same_count t u n m p q e = roots_injective n m (omega (arith, p.count)) (omega (arith, q.count)) r.0
  where
    item : List ℕ → ℕ → List ℕ
    item x i = root_item (stored_hash x i) i (stored_size x i)

    wide : (x : List ℕ) (k : ℕ) → RootsIn x k → (i : ℕ) → filled k i ≡ true → length (item x i) ≡ 48
    wide x k w i f = item_length (stored_hash x i) i (stored_size x i) (stored_long x k i w f)

    tell : (i j : ℕ) → filled n i ≡ true → filled m j ≡ true → item t i ≡ item u j → i ≡ j
    tell i j f g s =
        be_injective 8 i j (omega (arith, filled_below n i f, p.count)) (omega (arith, filled_below m j g, q.count))
        (item_injective (stored_hash t i) (stored_hash u j) i j (stored_size t i) (stored_size u j) (stored_long t n i p f) (stored_long u m j q g) s).place

    r : (roots n ≡ roots m) × Every (λ i. item t i ≡ item u i) (roots n)
    r = items_injective (item t) (item u) (λ i. filled n i ≡ true) (λ i. filled m i ≡ true) 48 (lit< tt) (wide t n p) (wide u m q) tell (roots n) (roots m)
        (root_filled n) (root_filled m) (tail-eq_of_cons-eq e)
