-- What the lookups and the hash behind them find, number by number, whatever entries are known: of a register and of a copy alike.
-- Assumes nothing.
use Prim.Native.Nat.{ℕ, ◌+◌, ◌-◌, ◌≤◌, ◌<◌}
use mathlib.Core.Path.{◌≡◌, refl, sym, ap, ◌∙◌}
use mathlib.Core.Bool.{Bool, true, false, cond}
use mathlib.Core.List.{List}
use native.Mathlib.Omega.{arith}
use borrow.Author.Tests.{lt-ltb, le-ltb, ltb-true, eq-eqb, ne_eqb}
use lib.Dec.{ltb, eqb}
use Rattle.answer_types.specs.Verdict.{Spot, Verdict, none, tree, done, refused}
use Rattle.byte_strings.specs.Lists.{part, same_list}
use Rattle.byte_strings.proofs.Lists.{same_eq, same_of}
use Rattle.tree_index.specs.Tree.{index}
use Rattle.bitfield.specs.Release.{stored_held}
use Rattle.file_format.specs.Messages.{leaf_message}
use Rattle.file_format.specs.Stored.{stored_size, stored_hash}
use Rattle.lookup.specs.Descent.{Ending, stopped, reached, unknown, chunk_within, byte_within, descent}
use Rattle.lookup.specs.Lookup.{Found, refusal, found, found_behind, place_from, byte_from, place_in, held_place_in, byte_in}
use Rattle.lookup.specs.Read.{verdict_found, bytes_found, hash_judged}

-- what is found is not refused
pub not_found : {a b m : ℕ} {at : Spot} → refusal m at ≡ found a b → ⊥
not_found e = let z : ◌≡◌ {A = ℕ} 0 1 = cc in omega arith

pub found_done : (f : Found) → verdict_found f ≡ done → (a : ℕ) × (b : ℕ) × (f ≡ found a b)
found_done (found a b) e = (a, b, refl)
found_done (refusal m at) e = let z : ◌≡◌ {A = ℕ} 0 1 = cc in absurd (omega arith)

-- a descent ends at one start
pub one_start : {j k s u : ℕ} → reached j s ≡ reached k u → s ≡ u
one_start e = cc

-- ---- behind the checks

pub behind_done : {v : Verdict} (f : Found) → v ≡ done → found_behind v f ≡ f
behind_done f e = ap (λ (w : Verdict). found_behind w f) e

pub behind_same : (v : Verdict) {f g : Found} → (v ≡ done → f ≡ g) → found_behind v f ≡ found_behind v g
behind_same done h = h refl
behind_same (refused m at) h = refl

pub behind_found : (v : Verdict) {f : Found} {a b : ℕ} → found_behind v f ≡ found a b → (v ≡ done) × (f ≡ found a b)
behind_found done e = (refl, e)
behind_found (refused m at) e = absurd (not_found e)

-- ---- the place lookup

module _ (known : ℕ → Bool) (t : List ℕ) (n c : ℕ) where
  abbrev ending : Ending
  ending = descent known (chunk_within c) t n

  pub place_above_lem : n ≤ c → place_in known t n c ≡ refusal 9 none
  unfolding place_in
  place_above_lem h = ap (λ (b : Bool). cond b (place_from t c ending) (refusal 9 none)) (le-ltb c n h)

  pub place_below : c < n → place_in known t n c ≡ place_from t c ending
  unfolding place_in
  place_below h = ap (λ (b : Bool). cond b (place_from t c ending) (refusal 9 none)) (lt-ltb c n h)

  -- a chunk that the descent comes to
  pub place_at : {k s : ℕ} → c < n → ending ≡ reached k s → place_in known t n c ≡ found s (stored_size t (index 0 c))
  place_at h e = place_below h ∙ ap (place_from t c) e

  -- and no other is found
  pub record Reaches (start size : ℕ) : Type 0 where
    pub below : c < n
    pub chunk : ℕ
    pub comes : ending ≡ reached chunk start
    pub long : size ≡ stored_size t (index 0 c)

  pub place_reaches : {start size : ℕ} → place_in known t n c ≡ found start size → Reaches start size
  unfolding place_in
  place_reaches {start} {size} = go (ltb c n) refl ending refl
    where
      go : (b : Bool) → ltb c n ≡ b → (x : Ending) → ending ≡ x → cond b (place_from t c x) (refusal 9 none) ≡ found start size → Reaches start size
      go true f (reached k s) g e = let z : s ≡ start = cc in record { below = ltb-true c n f; chunk = k; comes = g ∙ ap (reached k) z; long = cc }
      go true f (stopped i) g e = absurd (not_found e)
      go true f (unknown i) g e = absurd (not_found e)
      go false f x g e = absurd (not_found e)

  -- ---- of a chunk that must be held
  module _ (bits : List ℕ) where
    abbrev gone : Bool → Found
    gone b = cond b (place_from t c ending) (refusal 18 (tree (index 0 c)))

    pub held_above : n ≤ c → held_place_in known t n bits c ≡ refusal 9 none
    unfolding held_place_in
    held_above h = ap (λ (b : Bool). cond b (gone (stored_held bits c)) (refusal 9 none)) (le-ltb c n h)

    held_below_lem : c < n → held_place_in known t n bits c ≡ gone (stored_held bits c)
    unfolding held_place_in
    held_below_lem h = ap (λ (b : Bool). cond b (gone (stored_held bits c)) (refusal 9 none)) (lt-ltb c n h)

    pub held_gone : c < n → stored_held bits c ≡ false → held_place_in known t n bits c ≡ refusal 18 (tree (index 0 c))
    held_gone h e = held_below_lem h ∙ ap gone e

    pub held_here : c < n → stored_held bits c ≡ true → held_place_in known t n bits c ≡ place_in known t n c
    held_here h e = held_below_lem h ∙ ap gone e ∙ sym (place_below h)

    pub held_found : {start size : ℕ} → held_place_in known t n bits c ≡ found start size → (stored_held bits c ≡ true) × (place_in known t n c ≡ found start size)
    unfolding held_place_in
    held_found {start} {size} = go (ltb c n) refl (stored_held bits c) refl
      where
        go : (b : Bool) → ltb c n ≡ b → (h : Bool) → stored_held bits c ≡ h → cond b (gone h) (refusal 9 none) ≡ found start size
            → (stored_held bits c ≡ true) × (place_in known t n c ≡ found start size)
        go true f true g e = (g, place_below (ltb-true c n f) ∙ e)
        go true f false g e = absurd (not_found e)
        go false f h g e = absurd (not_found e)

-- ---- the byte lookup

module _ (known : ℕ → Bool) (t : List ℕ) (n size b : ℕ) where
  abbrev walked : Found
  walked = byte_from b (descent known (byte_within b) t n)

  pub byte_above : size < b → byte_in known t n size b ≡ refusal 9 none
  unfolding byte_in
  byte_above h = ap (λ (x : Bool). cond x (refusal 9 none) (cond (eqb b size) (found n 0) walked)) (lt-ltb size b h)

  at_most : b ≤ size → byte_in known t n size b ≡ cond (eqb b size) (found n 0) walked
  unfolding byte_in
  at_most h = ap (λ (x : Bool). cond x (refusal 9 none) (cond (eqb b size) (found n 0) walked)) (le-ltb size b h)

  pub byte_end : b ≡ size → byte_in known t n size b ≡ found n 0
  byte_end e = at_most (omega arith) ∙ ap (λ (x : Bool). cond x (found n 0) walked) (eq-eqb b size e)

  pub byte_below : b < size → byte_in known t n size b ≡ walked
  byte_below h = at_most (omega arith) ∙ ap (λ (x : Bool). cond x (found n 0) walked) (ne_eqb b size (λ e. omega arith))

-- ---- a place that is judged by the hash of its bytes

module _ (F : List ℕ → List ℕ) (t content : List ℕ) (c : ℕ) where
  pub hash_right : (start size : ℕ) → stored_hash t (index 0 c) ≡ F (leaf_message (part content start size))
      → hash_judged F t content c (found start size) ≡ found start (start + size)
  hash_right start size e = ap (λ (b : Bool). cond b (found start (start + size)) (refusal 10 (tree (index 0 c)))) (same_of _ _ e)

  -- a place that passes
  pub record Hashed (f : Found) (from end : ℕ) : Type 0 where
    pub size : ℕ
    pub place : f ≡ found from size
    pub to : end ≡ from + size
    pub hash : stored_hash t (index 0 c) ≡ F (leaf_message (part content from size))

  pub hashed : (f : Found) {from end : ℕ} → hash_judged F t content c f ≡ found from end → Hashed f from end
  hashed (refusal m at) e = absurd (not_found e)
  hashed (found start size) {from} {end} e = go (same_list (stored_hash t (index 0 c)) (F (leaf_message (part content start size)))) refl e
    where
      go : (b : Bool) → same_list (stored_hash t (index 0 c)) (F (leaf_message (part content start size))) ≡ b
          → cond b (found start (start + size)) (refusal 10 (tree (index 0 c))) ≡ found from end → Hashed (found start size) from end
      go true f e =
          let z : start ≡ from = cc in
          record { size = size; place = ap (λ (x : ℕ). found x size) z; to = cc; hash = same_eq _ _ f ∙ ap (λ (x : ℕ). F (leaf_message (part content x size))) z }
      go false f e = absurd (not_found e)

-- ---- two tree files of which the descents end alike

module _ (f g : ℕ → Bool) (t u : List ℕ) (n : ℕ) where
  module _ (c : ℕ) (same : descent f (chunk_within c) t n ≡ descent g (chunk_within c) u n)
      (long : (k s : ℕ) → c < n → descent f (chunk_within c) t n ≡ reached k s → stored_size t (index 0 c) ≡ stored_size u (index 0 c)) where
    from_same : c < n → place_from t c (descent f (chunk_within c) t n) ≡ place_from u c (descent g (chunk_within c) u n)
    from_same h = go (descent f (chunk_within c) t n) refl ∙ ap (place_from u c) same
      where
        go : (x : Ending) → descent f (chunk_within c) t n ≡ x → place_from t c x ≡ place_from u c x
        go (stopped i) e = refl
        go (unknown i) e = refl
        go (reached k s) e = ap (found s) (long k s h e)

    pub place_same : place_in f t n c ≡ place_in g u n c
    unfolding place_in
    place_same = go (ltb c n) refl
      where
        go : (b : Bool) → ltb c n ≡ b
            → cond b (place_from t c (descent f (chunk_within c) t n)) (refusal 9 none) ≡ cond b (place_from u c (descent g (chunk_within c) u n)) (refusal 9 none)
        go true e = from_same (ltb-true c n e)
        go false e = refl

    pub held_same : (bits ones : List ℕ) → (c < n → stored_held bits c ≡ stored_held ones c) → held_place_in f t n bits c ≡ held_place_in g u n ones c
    unfolding held_place_in
    held_same bits ones held = go (ltb c n) refl
      where
        behind : Bool → Found → Found
        behind b x = cond b x (refusal 18 (tree (index 0 c)))

        go : (b : Bool) → ltb c n ≡ b
            → cond b (behind (stored_held bits c) (place_from t c (descent f (chunk_within c) t n))) (refusal 9 none)
            ≡ cond b (behind (stored_held ones c) (place_from u c (descent g (chunk_within c) u n))) (refusal 9 none)
        go true e = let h = ltb-true c n e in λ i. behind (held h i) (from_same h i)
        go false e = refl

  pub byte_same : (size b : ℕ) → descent f (byte_within b) t n ≡ descent g (byte_within b) u n → byte_in f t n size b ≡ byte_in g u n size b
  unfolding byte_in
  byte_same size b e = ap (λ (x : Ending). cond (ltb size b) (refusal 9 none) (cond (eqb b size) (found n 0) (byte_from b x))) e

-- a place at which both have the same bytes and hash
pub hash_same : (F : List ℕ → List ℕ) (t u xs ys : List ℕ) (c : ℕ) (f : Found)
    → ((s z : ℕ) → f ≡ found s z → (stored_hash t (index 0 c) ≡ stored_hash u (index 0 c)) × (part xs s z ≡ part ys s z))
    → hash_judged F t xs c f ≡ hash_judged F u ys c f
hash_same F t u xs ys c (refusal m at) h = refl
hash_same F t u xs ys c (found s z) h =
    let e = h s z refl in
    λ i. cond (same_list (e.0 i) (F (leaf_message (e.1 i)))) (found s (s + z)) (refusal 10 (tree (index 0 c)))

pub bytes_same : (xs ys : List ℕ) (f : Found) → ((s e : ℕ) → f ≡ found s e → part xs s (e - s) ≡ part ys s (e - s)) → bytes_found xs f ≡ bytes_found ys f
bytes_same xs ys (refusal m at) h = refl
bytes_same xs ys (found s e) h = h s e refl

-- a part that is given by its start and its end
pub as_part_lem : (xs : List ℕ) (start size : ℕ) → bytes_found xs (found start (start + size)) ≡ part xs start size
as_part_lem xs start size =
    let e : start + size - start ≡ size = omega arith in
    ap (part xs start) e
