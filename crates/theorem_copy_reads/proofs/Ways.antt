-- Where a descent meets an unknown entry: at a root that is not right of the sought one, or at a child of a parent that it visits. Assumes nothing.
use Prim.Native.Nat.{ℕ, zero, suc, ◌+◌, ◌-◌, ◌*◌, ◌/◌, ◌^◌, ◌≤◌, ◌<◌}
use mathlib.Core.Path.{◌≡◌, refl, sym, ap, ◌∙◌, subst}
use mathlib.Core.Bool.{Bool, true, false, cond, ◌||◌}
use mathlib.Core.Logic.{◌⊎◌, inl, inr}
use mathlib.Core.List.{List, [], ◌∷◌, ◌++◌, append_assoc, map, map-append}
use native.Mathlib.Nat.{add-zero}
use native.Mathlib.Omega.{arith}
use borrow.Author.Tests.{leb-true, ltb-true, ltb-false, eqb-true, eq-eqb, lt-ltb, le-ltb}
use lib.Dec.{leb, ltb, eqb}
use Rattle.answer_types.specs.Verdict.{Spot, Verdict, none, tree, done, refused, and_then}
use Rattle.byte_strings.specs.Lists.{total, among}
use Rattle.byte_strings.specs.Lowest.{Lowest, nowhere, first, lowest}
use Rattle.byte_strings.proofs.Lists.{total_append}
use Rattle.byte_strings.proofs.Bools.{or_true, chosen}
use Rattle.tree_index.specs.Tree.{index, depth, block, roots}
use Rattle.tree_index.proofs.Index.{index_of}
use Rattle.bitfield.specs.Release.{stored_held}
use Rattle.file_format.specs.Sizes.{longest_chunk, most_chunks}
use Rattle.file_format.specs.Stored.{stored_size, stored_start}
use Rattle.checks.specs.Checks.{Check, judged, adds_up}
use Rattle.checks.proofs.Judged.{AllRight, judged_right}
use Rattle.audit.specs.Audit.{refused_at}
use Rattle.lookup.specs.Descent.{Ending, stopped, reached, unknown, if_known, chunk_within, byte_within, descend, from_roots, descent}
use Rattle.lookup.specs.Lookup.{Found, refusal, found, found_behind, place_from, byte_from, place_in, held_place_in, byte_in}
use Rattle.lookup.specs.Unknown.{first_unknown}
use Rattle.lookup.specs.Theorems.{Right, Visits, from_root, to_left, to_right, HoldsChunk, HoldsByte}
use Rattle.packet.specs.Packet.{root_above}
use Rattle.packet.specs.Inner.{ChunkOf}
use Rattle.theorem_taking_laws.proofs.Halves.{Half, in_left_lem, in_right_lem, halves}
use Rattle.theorem_taking_laws.proofs.ReadsNear.{block_above}
use Rattle.stored_leaf.specs.StoredLeaf.{leaf_in}
use Rattle.copy_checks.specs.Copy.{Copy, known}
use Rattle.copy_checks.specs.Checks.{lent_checks, unknown_root, size_check, copy_judged}
use Rattle.copy_checks.specs.Descents.{copy_to_chunk, copy_to_byte}
use Rattle.copy_checks.proofs.Steps.{lent_passed, copy_passed}
use Rattle.copy_lookup.specs.Lookups.{copy_place_of, copy_held_place_of, copy_byte_at}
use Rattle.short_lookup.specs.ShortLookup.{leaf_right, leaf_refused, leaf_passed, place_by_leaves, byte_by_leaves, short_place_in, short_byte_in}
use Rattle.short_lookup.proofs.Answers.{lowest_says}
use Rattle.copy_short_lookup.specs.Short.{copy_short_place_of, copy_short_byte_at}
use Rattle.copy_roots.specs.Roots.{copy_prefix_verdict}
use Rattle.copy_stored_leaf.specs.StoredLeaf.{copy_leaf_verdict}
use Rattle.theorem_copy_reads.specs.Ways.{ChunkBehind, ByteBehind, RootOnWay, ChildOnWay, Met, Meets, FromLeft, RootsKnown, Twenty, LeafBelow, Twenties, MeetsForAll}

-- ---- a descent, for what is sought by any test

-- what holds of the blocks that a descent comes to (`Has`), and of the roots that it passed (`Behind`)
pub record Sought (within : ℕ → ℕ → ℕ → ℕ → Bool) (t : List ℕ) (n : ℕ) (Behind : List ℕ → Type 0) (Has : ℕ → ℕ → ℕ → Type 0) : Type 0 where
  pub left : (d k s : ℕ) → Has (suc d) k s → within d (2 * k) s (stored_size t (index d (2 * k))) ≡ true → Has d (2 * k) s
  pub right : (d k s : ℕ) → Right t (suc d) k → Has (suc d) k s → within d (2 * k) s (stored_size t (index d (2 * k))) ≡ false
      → Has d (2 * k + 1) (s + stored_size t (index d (2 * k)))
  pub none : Behind []
  pub past : (before : List ℕ) (i : ℕ) → Behind before → within (depth i) (block i) (total (map (stored_size t) before)) (stored_size t i) ≡ false
      → Behind (before ++ (i ∷ []))
  pub top : (before : List ℕ) (i : ℕ) (after : List ℕ) → roots n ≡ before ++ (i ∷ after) → Behind before
      → within (depth i) (block i) (total (map (stored_size t) before)) (stored_size t i) ≡ true → Has (depth i) (block i) (total (map (stored_size t) before))

module _ (known : ℕ → Bool) (within : ℕ → ℕ → ℕ → ℕ → Bool) (t : List ℕ) (n : ℕ) (Behind : List ℕ → Type 0) (Has : ℕ → ℕ → ℕ → Type 0)
    (sought : Sought within t n Behind Has) where
  abbrev Way : ℕ → Type 0
  Way j = RootOnWay n Behind j ⊎ ChildOnWay t n Has j

  abbrev On : Ending → Type 0
  On (stopped i) = Unit {0}
  On (reached k s) = Unit {0}
  On (unknown j) = (known j ≡ false) × Way j

  -- an entry of the way is read
  read : (i : ℕ) (e : Ending) → Way i → On e → On (if_known (known i) i e)
  read i e w h = go (known i) refl
    where
      go : (b : Bool) → known i ≡ b → On (if_known b i e)
      go true f = h
      go false f = (f, w)

  below : (d k s : ℕ) → Visits t n d k s → Has d k s → On (descend known within t d k s)
  unfolding descend
  below zero k s v h = pick (leb (stored_size t (index 0 k)) longest_chunk)
    where
      pick : (b : Bool) → On (chosen b (reached k s) (stopped (index 0 k)))
      pick true = tt
      pick false = tt
  below (suc d) k s v h =
      read l (if_known (known r) r (on sum)) (inr (record { d = d; k = k; start = s; visited = v; has = h; here = inl refl }))
      (read r (on sum) (inr (record { d = d; k = k; start = s; visited = v; has = h; here = inr refl })) (pick (below d) sum refl))
    where
      l : ℕ
      l = index d (2 * k)

      r : ℕ
      r = index d (2 * k + 1)

      sum : Bool
      sum = eqb (stored_size t (index (suc d) k)) (stored_size t l + stored_size t r)

      child : Bool → Ending
      child b = chosen b (descend known within t d (2 * k) s) (descend known within t d (2 * k + 1) (s + stored_size t l))

      on : Bool → Ending
      on b = chosen b (child (within d (2 * k) s (stored_size t l))) (stopped (index (suc d) k))

      turn : ((k s : ℕ) → Visits t n d k s → Has d k s → On (descend known within t d k s)) → Right t (suc d) k → (b : Bool)
          → within d (2 * k) s (stored_size t l) ≡ b → On (child b)
      turn rec e true w = rec (2 * k) s (to_left d k s v e) (sought.left d k s h w)
      turn rec e false w = rec (2 * k + 1) (s + stored_size t l) (to_right d k s v e) (sought.right d k s e h w)

      pick : ((k s : ℕ) → Visits t n d k s → Has d k s → On (descend known within t d k s)) → (b : Bool) → sum ≡ b → On (on b)
      pick rec true e =
          turn rec (eqb-true (stored_size t (index (suc d) k)) (stored_size t l + stored_size t r) e) (within d (2 * k) s (stored_size t l)) refl
      pick rec false e = tt

  abbrev len : List ℕ → ℕ
  len before = total (map (stored_size t) before)

  from : (is before : List ℕ) → roots n ≡ before ++ is → Behind before → On (from_roots known within t is (len before))
  unfolding from_roots total
  from [] before e p = tt
  from (i ∷ is) before e p =
      read i (on (within (depth i) (block i) (len before) (stored_size t i))) (inl (record { before = before; after = is; here = e; behind = p }))
      (pick (from is) (within (depth i) (block i) (len before) (stored_size t i)) refl)
    where
      on : Bool → Ending
      on b = chosen b (descend known within t (depth i) (block i) (len before)) (from_roots known within t is (len before + stored_size t i))

      sum : len (before ++ (i ∷ [])) ≡ len before + stored_size t i
      sum =
          ap total (map-append (stored_size t) before (i ∷ [])) ∙ total_append (map (stored_size t) before) (stored_size t i ∷ [])
          ∙ ap (λ (x : ℕ). len before + x) (add-zero (stored_size t i))

      pick : ((before : List ℕ) → roots n ≡ before ++ is → Behind before → On (from_roots known within t is (len before))) → (b : Bool)
          → within (depth i) (block i) (len before) (stored_size t i) ≡ b → On (on b)
      pick rec true w =
          below (depth i) (block i) (len before)
          (from_root before is (depth i) (block i) (e ∙ ap (λ (x : ℕ). before ++ (x ∷ is)) (sym (index_of i)))) (sought.top before i is e p w)
      pick rec false w =
          subst (λ (x : ℕ). On (from_roots known within t is x)) sum
          (rec (before ++ (i ∷ [])) (e ∙ sym (append_assoc before (i ∷ []) is)) (sought.past before i p w))

  pub descent_on : (j : ℕ) → descent known within t n ≡ unknown j → (known j ≡ false) × Way j
  unfolding descent total
  descent_on j e = subst On e (from (roots n) [] refl sought.none)

-- ---- a chunk, and a byte

behind_more : (c : ℕ) (before : List ℕ) (i : ℕ) → ChunkBehind c before → (block i + 1) * 2 ^ depth i ≤ c → ChunkBehind c (before ++ (i ∷ []))
behind_more c [] i p h = (h, tt)
behind_more c (x ∷ before) i p h = (p.0, behind_more c before i p.1 h)

-- the root above a chunk is the first that ends behind it
above_is : (c : ℕ) (before : List ℕ) (i : ℕ) (after : List ℕ) → ChunkBehind c before → c < (block i + 1) * 2 ^ depth i
    → root_above (before ++ (i ∷ after)) c ≡ i
unfolding root_above
above_is c [] i after p h = ap (λ (b : Bool). elim b [ true ↦ i | false ↦ root_above after c ]) (lt-ltb c ((block i + 1) * 2 ^ depth i) h)
above_is c (x ∷ before) i after p h =
    ap (λ (b : Bool). elim b [ true ↦ x | false ↦ root_above (before ++ (i ∷ after)) c ]) (le-ltb c ((block x + 1) * 2 ^ depth x) p.0)
    ∙ above_is c before i after p.1 h

chunk_sought : (t : List ℕ) (n c : ℕ) → ChunkOf n c → Sought (chunk_within c) t n (ChunkBehind c) (HoldsChunk c)
unfolding chunk_within
chunk_sought t n c h =
    record {
      left = λ d k s e w. pick_left d k (halves c d k e) (ltb-true c ((2 * k + 1) * 2 ^ d) w);
      right = λ d k s r e w. pick_right d k (halves c d k e) (ltb-false c ((2 * k + 1) * 2 ^ d) w);
      none = tt;
      past = λ before i p w. behind_more c before i p (ltb-false c ((block i + 1) * 2 ^ depth i) w);
      top = λ before i after e p w.
          let q : root_above (roots n) c ≡ i =
          ap (λ (l : List ℕ). root_above l c) e ∙ above_is c before i after p (ltb-true c ((block i + 1) * 2 ^ depth i) w) in
          subst (λ (x : ℕ). block x ≡ c / 2 ^ depth x) q (block_above t c n h);
    }
  where
    pick_left : (d k : ℕ) → Half c d k → c < (2 * k + 1) * 2 ^ d → 2 * k ≡ c / 2 ^ d
    pick_left d k (in_left_lem p l r w) m = sym p
    pick_left d k (in_right_lem p l r w) m = absurd (omega arith)

    pick_right : (d k : ℕ) → Half c d k → (2 * k + 1) * 2 ^ d ≤ c → 2 * k + 1 ≡ c / 2 ^ d
    pick_right d k (in_left_lem p l r w) m = absurd (omega arith)
    pick_right d k (in_right_lem p l r w) m = sym p

byte_sought : (t : List ℕ) (n b : ℕ) → Sought (byte_within b) t n (ByteBehind t b) (HoldsByte t b)
unfolding byte_within total
byte_sought t n b =
    record {
      left = λ d k s h w. (h.0, ltb-true b (s + stored_size t (index d (2 * k))) w);
      right = λ d k s r h w. (ltb-false b (s + stored_size t (index d (2 * k))) w, omega (arith, h.1, r));
      none = omega arith;
      past = λ before i p w.
          let q : total (map (stored_size t) (before ++ (i ∷ []))) ≡ total (map (stored_size t) before) + stored_size t i =
          ap total (map-append (stored_size t) before (i ∷ [])) ∙ total_append (map (stored_size t) before) (stored_size t i ∷ [])
          ∙ ap (λ (x : ℕ). total (map (stored_size t) before) + x) (add-zero (stored_size t i)) in
          omega (arith, q, ltb-false b (total (map (stored_size t) before) + stored_size t i) w);
      top = λ before i after e p w.
          (p, subst (λ (x : ℕ). b < total (map (stored_size t) before) + stored_size t x) (sym (index_of i)) (ltb-true b (total (map (stored_size t) before) + stored_size t i) w));
    }

meets : (c : Copy) → Meets c
unfolding copy_to_chunk copy_to_byte
meets c =
    record {
      chunk = λ i few below j e.
          let q = descent_on (known c) (chunk_within i) c.tree c.n (ChunkBehind i) (HoldsChunk i)
          (chunk_sought c.tree c.n i (record { count = few; below = below })) j e in
          record { unknown = q.0; way = q.1 };
      byte = λ b j e.
          let q = descent_on (known c) (byte_within b) c.tree c.n (ByteBehind c.tree b) (HoldsByte c.tree b) (byte_sought c.tree c.n b) j e in
          record { unknown = q.0; way = q.1 };
    }

-- ---- a call's 20

-- no check has this number
abbrev Others : ℕ → List Check → Type 0
Others m [] = Unit {0}
Others m (c ∷ cs) = (c.number ≡ m → ⊥) × Others m cs

-- so it comes from behind them
behind_others : (m : ℕ) (at : Spot) (cs : List Check) (next : Verdict) → Others m cs → judged cs next ≡ refused m at → AllRight cs × (next ≡ refused m at)
unfolding judged
behind_others m at [] next o e = (tt, e)
behind_others m at (c ∷ cs) next o e = pick c.right refl e (behind_others m at cs next o.1)
  where
    pick : (b : Bool) → c.right ≡ b → cond b (judged cs next) (refused c.number none) ≡ refused m at
        → (judged cs next ≡ refused m at → AllRight cs × (next ≡ refused m at)) → ((c.right ≡ true) × AllRight cs) × (next ≡ refused m at)
    pick true f g rec = let r = rec g in ((f, r.0), r.1)
    pick false f g rec = let z : c.number ≡ m = cc in absurd (o.0 z)

first_unknown_lem : (f : ℕ → Bool) (is : List ℕ) (j : ℕ) → first_unknown f is ≡ first j → (f j ≡ false) × (among j is ≡ true)
unfolding first_unknown among
first_unknown_lem f [] j e = let z : ◌≡◌ {A = ℕ} 0 1 = cc in absurd (omega arith)
first_unknown_lem f (i ∷ is) j e = pick (f i) refl e (first_unknown_lem f is j)
  where
    pick : (b : Bool) → f i ≡ b → cond b (first_unknown f is) (first i) ≡ first j → (first_unknown f is ≡ first j → (f j ≡ false) × (among j is ≡ true))
        → (f j ≡ false) × ((eqb j i || among j is) ≡ true)
    pick true p q rec = let r = rec q in (r.0, ap (λ (b : Bool). eqb j i || b) r.1 ∙ or_true (eqb j i))
    pick false p q rec =
        let s : i ≡ j = cc in (subst (λ (x : ℕ). f x ≡ false) s p, ap (λ (b : Bool). b || among j is) (eq-eqb j i (sym s)))

in_middle : (j : ℕ) (before after : List ℕ) → among j (before ++ (j ∷ after)) ≡ true
unfolding among
in_middle j [] after = ap (λ (b : Bool). b || among j after) (eq-eqb j j refl)
in_middle j (x ∷ before) after = ap (λ (b : Bool). eqb j x || b) (in_middle j before after) ∙ or_true (eqb j x)

none_listed : {A : Type 0} (j : ℕ) → among j [] ≡ true → A
unfolding among
none_listed j e = let z : ◌≡◌ {A = ℕ} 0 1 = cc in absurd (omega arith)

-- what holds of the first of a list, and of each behind it, holds of each
each_of : (f : ℕ → Bool) (x : ℕ) (is : List ℕ) → f x ≡ true → ((i : ℕ) → among i is ≡ true → f i ≡ true) → (i : ℕ) → among i (x ∷ is) ≡ true → f i ≡ true
unfolding among
each_of f x is p rest i m = pick (eqb i x) refl m
  where
    pick : (b : Bool) → eqb i x ≡ b → (b || among i is) ≡ true → f i ≡ true
    pick true e m = ap f (eqb-true i x e) ∙ p
    pick false e m = rest i m

-- the first that is not known stands behind known ones
pub record Split (f : ℕ → Bool) (is : List ℕ) (j : ℕ) : Type 0 where
  pub before : List ℕ
  pub after : List ℕ
  pub here : is ≡ before ++ (j ∷ after)
  pub left : (i : ℕ) → among i before ≡ true → f i ≡ true

first_split : (f : ℕ → Bool) (is : List ℕ) (j : ℕ) → first_unknown f is ≡ first j → Split f is j
unfolding first_unknown
first_split f [] j e = let z : ◌≡◌ {A = ℕ} 0 1 = cc in absurd (omega arith)
first_split f (i ∷ is) j e = pick (f i) refl e (first_split f is j)
  where
    pick : (b : Bool) → f i ≡ b → cond b (first_unknown f is) (first i) ≡ first j → (first_unknown f is ≡ first j → Split f is j) → Split f (i ∷ is) j
    pick true p q rec =
        let r = rec q in
        record { before = i ∷ r.before; after = r.after; here = ap (λ (l : List ℕ). i ∷ l) r.here; left = each_of f i r.before p r.left }
    pick false p q rec = let s : i ≡ j = cc in record { before = []; after = is; here = ap (λ (x : ℕ). x ∷ is) s; left = λ k m. none_listed k m }

all_known : (f : ℕ → Bool) (is : List ℕ) → first_unknown f is ≡ nowhere → (i : ℕ) → among i is ≡ true → f i ≡ true
unfolding first_unknown
all_known f [] e = λ i m. none_listed i m
all_known f (x ∷ is) e = pick (f x) refl e (all_known f is)
  where
    pick : (b : Bool) → f x ≡ b → cond b (first_unknown f is) (first x) ≡ nowhere → (first_unknown f is ≡ nowhere → (i : ℕ) → among i is ≡ true → f i ≡ true)
        → (i : ℕ) → among i (x ∷ is) ≡ true → f i ≡ true
    pick true p q rec = each_of f x is p (rec q)
    pick false p q rec = let z : ◌≡◌ {A = ℕ} 0 1 = cc in absurd (omega arith)

roots_known_lem : (c : Copy) → unknown_root c ≡ nowhere → RootsKnown c
unfolding unknown_root
roots_known_lem c e = all_known (known c) (roots c.n) e

-- the first unknown root, or what comes behind the checks, which all roots pass
abbrev AtRoot : Copy → Spot → Type 0
AtRoot c at = (j : ℕ) × (at ≡ tree j) × (known c j ≡ false) × FromLeft c j

abbrev Behind20 : Copy → Verdict → Spot → Type 0
Behind20 c next at = (c.n ≤ most_chunks) × RootsKnown c × (next ≡ refused 20 at)

copy_twenty : (c : Copy) (next : Verdict) (at : Spot) → copy_judged c next ≡ refused 20 at → AtRoot c at ⊎ Behind20 c next at
unfolding copy_judged lent_checks unknown_root refused_at
copy_twenty c next at e =
    let six : List Check = size_check (adds_up c.tree c.n c.size) in
    let a = behind_others 20 at (lent_checks c) (refused_at 20 tree (unknown_root c) (judged six next))
    (λ e. omega arith, (λ e. omega arith, (λ e. omega arith, (λ e. omega arith, (λ e. omega arith, (λ e. omega arith, tt)))))) e in
    pick (unknown_root c) refl a.1 (lent_passed c done (judged_right (lent_checks c) done a.0)).0.count
  where
    pick : (l : Lowest) → unknown_root c ≡ l → refused_at 20 tree l (judged (size_check (adds_up c.tree c.n c.size)) next) ≡ refused 20 at → c.n ≤ most_chunks
        → AtRoot c at ⊎ Behind20 c next at
    pick nowhere p q few = inr (few, roots_known_lem c p, (behind_others 20 at (size_check (adds_up c.tree c.n c.size)) next (λ e. omega arith, tt) q).1)
    pick (first j) p q few =
        let r = first_unknown_lem (known c) (roots c.n) j p in
        let l = first_split (known c) (roots c.n) j p in
        let here : at ≡ tree j = cc in inl (j, here, r.0, record { before = l.before; after = l.after; here = l.here; left = l.left })

-- a descent's 20 is an ending at an unknown entry
abbrev Stopped : Spot → Ending → Type 0
Stopped at e = (j : ℕ) × (at ≡ tree j) × (e ≡ unknown j)

place_stopped : (t : List ℕ) (i : ℕ) (e : Ending) (at : Spot) → place_from t i e ≡ refusal 20 at → Stopped at e
place_stopped t i (stopped k) at q = let z : ◌≡◌ {A = ℕ} 10 20 = cc in absurd (omega arith)
place_stopped t i (reached k s) at q = let z : ◌≡◌ {A = ℕ} 0 1 = cc in absurd (omega arith)
place_stopped t i (unknown j) at q = let here : at ≡ tree j = cc in (j, here, refl)

byte_stopped : (b : ℕ) (e : Ending) (at : Spot) → byte_from b e ≡ refusal 20 at → Stopped at e
byte_stopped b (stopped k) at q = let z : ◌≡◌ {A = ℕ} 10 20 = cc in absurd (omega arith)
byte_stopped b (reached k s) at q = let z : ◌≡◌ {A = ℕ} 0 1 = cc in absurd (omega arith)
byte_stopped b (unknown j) at q = let here : at ≡ tree j = cc in (j, here, refl)

module _ (c : Copy) (at : Spot) where
  place_twenty : (i : ℕ) → place_in (known c) c.tree c.n i ≡ refusal 20 at → (i < c.n) × Stopped at (copy_to_chunk c i)
  unfolding place_in copy_to_chunk
  place_twenty i = pick (ltb i c.n) refl
    where
      pick : (x : Bool) → ltb i c.n ≡ x → cond x (place_from c.tree i (copy_to_chunk c i)) (refusal 9 none) ≡ refusal 20 at
          → (i < c.n) × Stopped at (copy_to_chunk c i)
      pick true f q = (ltb-true i c.n f, place_stopped c.tree i (copy_to_chunk c i) at q)
      pick false f q = let z : ◌≡◌ {A = ℕ} 9 20 = cc in absurd (omega arith)

  held_twenty : (i : ℕ) → held_place_in (known c) c.tree c.n c.bitfield i ≡ refusal 20 at → (i < c.n) × Stopped at (copy_to_chunk c i)
  unfolding held_place_in copy_to_chunk
  held_twenty i = pick (ltb i c.n) refl (stored_held c.bitfield i)
    where
      pick : (x : Bool) → ltb i c.n ≡ x → (h : Bool)
          → cond x (cond h (place_from c.tree i (copy_to_chunk c i)) (refusal 18 (tree (index 0 i)))) (refusal 9 none) ≡ refusal 20 at
          → (i < c.n) × Stopped at (copy_to_chunk c i)
      pick true f true q = (ltb-true i c.n f, place_stopped c.tree i (copy_to_chunk c i) at q)
      pick true f false q = let z : ◌≡◌ {A = ℕ} 18 20 = cc in absurd (omega arith)
      pick false f h q = let z : ◌≡◌ {A = ℕ} 9 20 = cc in absurd (omega arith)

  byte_twenty : (b : ℕ) → byte_in (known c) c.tree c.n c.size b ≡ refusal 20 at → Stopped at (copy_to_byte c b)
  unfolding byte_in copy_to_byte
  byte_twenty b = pick (ltb c.size b) (eqb b c.size)
    where
      pick : (x y : Bool) → cond x (refusal 9 none) (cond y (found c.n 0) (byte_from b (copy_to_byte c b))) ≡ refusal 20 at → Stopped at (copy_to_byte c b)
      pick true y q = let z : ◌≡◌ {A = ℕ} 9 20 = cc in absurd (omega arith)
      pick false true q = let z : ◌≡◌ {A = ℕ} 0 1 = cc in absurd (omega arith)
      pick false false q = byte_stopped b (copy_to_byte c b) at q

-- what a call comes to where every root is known is none
other_way : (c : Copy) (Other : ℕ → Type 0) (j : ℕ) → known c j ≡ false → RootsKnown c → (among j (roots c.n) ≡ true) ⊎ Other j → RootsKnown c × Other j
other_way c Other j u k (inl a) = let z : false ≡ true = sym u ∙ k j a in let w : ◌≡◌ {A = ℕ} 0 1 = cc in absurd (omega arith)
other_way c Other j u k (inr o) = (k, o)

-- an unknown root, or what a call comes to behind the checks and its own
called : (c : Copy) (Other : ℕ → Type 0) (at : Spot) (right : Bool) (next : Verdict)
    → (c.n ≤ most_chunks → right ≡ true → next ≡ refused 20 at → (j : ℕ) × (at ≡ tree j) × (known c j ≡ false) × ((among j (roots c.n) ≡ true) ⊎ Other j))
    → copy_judged c (judged (record { number = 9; right = right } ∷ []) next) ≡ refused 20 at → Twenty c Other at
called c Other at right next come q = pick (copy_twenty c (judged (record { number = 9; right = right } ∷ []) next) at q)
  where
    pick : AtRoot c at ⊎ Behind20 c (judged (record { number = 9; right = right } ∷ []) next) at → Twenty c Other at
    pick (inl r) = record { j = r.0; here = r.1; unknown = r.2; way = inl r.3 }
    pick (inr r) =
        let a = behind_others 20 at (record { number = 9; right = right } ∷ []) next (λ e. omega arith, tt) r.2 in
        let d = come r.0 a.0.0 a.1 in record { j = d.0; here = d.1; unknown = d.2; way = inr (other_way c Other d.0 d.2 r.1 d.3) }

-- a descent's
met : (c : Copy) (Behind : List ℕ → Type 0) (Has : ℕ → ℕ → ℕ → Type 0) (at : Spot) (e : Ending) → Stopped at e
    → ((j : ℕ) → e ≡ unknown j → Met c Behind Has j)
    → (j : ℕ) × (at ≡ tree j) × (known c j ≡ false) × ((among j (roots c.n) ≡ true) ⊎ ChildOnWay c.tree c.n Has j)
met c Behind Has at e d meet =
    let m = meet d.0 d.2 in (d.0, d.1, m.unknown, pick d.0 m.way)
  where
    pick : (j : ℕ) → RootOnWay c.n Behind j ⊎ ChildOnWay c.tree c.n Has j → (among j (roots c.n) ≡ true) ⊎ ChildOnWay c.tree c.n Has j
    pick j (inl r) = inl (ap (among j) r.here ∙ in_middle j r.before r.after)
    pick j (inr r) = inr r

-- that of a list
listed : (c : Copy) (Other : ℕ → Type 0) (at : Spot) (is : List ℕ) → refused_at 20 tree (first_unknown (known c) is) done ≡ refused 20 at
    → ((j : ℕ) → among j is ≡ true → Other j)
    → (j : ℕ) × (at ≡ tree j) × (known c j ≡ false) × ((among j (roots c.n) ≡ true) ⊎ Other j)
unfolding refused_at
listed c Other at is q other = pick (first_unknown (known c) is) refl q
  where
    pick : (l : Lowest) → first_unknown (known c) is ≡ l → refused_at 20 tree l done ≡ refused 20 at
        → (j : ℕ) × (at ≡ tree j) × (known c j ≡ false) × ((among j (roots c.n) ≡ true) ⊎ Other j)
    pick nowhere e r = let z : ◌≡◌ {A = ℕ} 0 1 = cc in absurd (omega arith)
    pick (first j) e r =
        let u = first_unknown_lem (known c) is j e in
        let here : at ≡ tree j = cc in (j, here, u.0, inr (other j u.1))

-- that of a walk over leaves, at one of the first m chunks
module _ (c : Copy) (m : ℕ) (at : Spot) where
  abbrev Come : Type 0
  Come = (j : ℕ) × (at ≡ tree j) × (known c j ≡ false) × LeafBelow m j

  leaf_come : (k : ℕ) → k < m → leaf_refused (known c) c.tree k ≡ refusal 20 at → Come
  unfolding leaf_refused
  leaf_come k h e = pick (known c (index 0 k)) refl e
    where
      pick : (x : Bool) → known c (index 0 k) ≡ x → refusal (cond x 10 20) (tree (index 0 k)) ≡ refusal 20 at → Come
      pick true f q = let z : ◌≡◌ {A = ℕ} 10 20 = cc in absurd (omega arith)
      pick false f q = let here : at ≡ tree (index 0 k) = cc in (index 0 k, here, f, (k, h, refl))

-- an unknown root
rooted : (c : Copy) (Other : ℕ → Type 0) (at : Spot) → AtRoot c at ⊎ Behind20 c done at → Twenty c Other at
rooted c Other at (inl r) = record { j = r.0; here = r.1; unknown = r.2; way = inl r.3 }
rooted c Other at (inr r) = let e = r.2 in let z : ◌≡◌ {A = ℕ} 0 1 = cc in absurd (omega arith)

-- behind the checks: an unknown root, or what the lookup comes to
found_twenty : (c : Copy) (Other : ℕ → Type 0) (at : Spot) (x : Found)
    → (c.n ≤ most_chunks → x ≡ refusal 20 at → (j : ℕ) × (at ≡ tree j) × (known c j ≡ false) × ((among j (roots c.n) ≡ true) ⊎ Other j))
    → found_behind (copy_judged c done) x ≡ refusal 20 at → Twenty c Other at
found_twenty c Other at x come e = pick (copy_judged c done) refl e
  where
    pick : (v : Verdict) → copy_judged c done ≡ v → found_behind v x ≡ refusal 20 at → Twenty c Other at
    pick done f q =
        let k = (copy_passed c done f).0 in
        let r = come k.lent.count q in
        record { j = r.0; here = r.1; unknown = r.2; way = inr (other_way c Other r.0 r.2 (roots_known_lem c k.rooted) r.3) }
    pick (refused k s) f q = let g : refused k s ≡ refused 20 at = cc in rooted c Other at (copy_twenty c done at (f ∙ g))

walked_twenty : (c : Copy) (m : ℕ) (at : Spot) (x : Found) → (x ≡ refusal 20 at → Come c m at) → found_behind (copy_judged c done) x ≡ refusal 20 at
    → Twenty c (LeafBelow m) at
walked_twenty c m at x come = found_twenty c (LeafBelow m) at x (λ few q. let r = come q in (r.0, r.1, r.2, inr r.3))

place_come : (c : Copy) (i : ℕ) (at : Spot) → short_place_in (known c) c.tree c.n i ≡ refusal 20 at → Come c (i + 1) at
unfolding short_place_in place_by_leaves
place_come c i at e = pick (ltb i c.n) (lowest (leaf_right (known c) c.tree) 0 (i + 1)) refl e
  where
    pick : (x : Bool) (l : Lowest) → lowest (leaf_right (known c) c.tree) 0 (i + 1) ≡ l
        → cond x (elim l [ nowhere ↦ found (stored_start c.tree i) (stored_size c.tree (index 0 i)) | first k ↦ leaf_refused (known c) c.tree k ]) (refusal 9 none)
        ≡ refusal 20 at
        → Come c (i + 1) at
    pick false l f q = let z : ◌≡◌ {A = ℕ} 9 20 = cc in absurd (omega arith)
    pick true nowhere f q = let z : ◌≡◌ {A = ℕ} 0 1 = cc in absurd (omega arith)
    pick true (first k) f q =
        leaf_come c (i + 1) at k (omega (arith, (lowest_says (leaf_right (known c) c.tree) 0 (i + 1) k f).below)) q

byte_come : (c : Copy) (b : ℕ) (at : Spot) → short_byte_in (known c) c.tree c.n c.size b ≡ refusal 20 at → Come c c.n at
unfolding short_byte_in byte_by_leaves
byte_come c b at e = pick (ltb c.size b) (eqb b c.size) (lowest (leaf_passed (known c) c.tree b) 0 c.n) refl e
  where
    here : ℕ → Bool → Found
    here k x = cond x (found k (b - stored_start c.tree k)) (leaf_refused (known c) c.tree k)

    at_leaf : (k : ℕ) → k < c.n → (x : Bool) → here k x ≡ refusal 20 at → Come c c.n at
    at_leaf k h true q = let z : ◌≡◌ {A = ℕ} 0 1 = cc in absurd (omega arith)
    at_leaf k h false q = leaf_come c c.n at k h q

    pick : (x y : Bool) (l : Lowest) → lowest (leaf_passed (known c) c.tree b) 0 c.n ≡ l
        → cond x (refusal 9 none) (cond y (found c.n 0)
        (elim l [ nowhere ↦ refusal 10 (tree (index 0 (c.n - 1))) | first k ↦ here k (leaf_right (known c) c.tree k) ])) ≡ refusal 20 at
        → Come c c.n at
    pick true y l f q = let z : ◌≡◌ {A = ℕ} 9 20 = cc in absurd (omega arith)
    pick false true l f q = let z : ◌≡◌ {A = ℕ} 0 1 = cc in absurd (omega arith)
    pick false false nowhere f q = let z : ◌≡◌ {A = ℕ} 10 20 = cc in absurd (omega arith)
    pick false false (first k) f q =
        at_leaf k (omega (arith, (lowest_says (leaf_passed (known c) c.tree b) 0 c.n k f).below)) (leaf_right (known c) c.tree k) q

twenties : (c : Copy) → Twenties c
unfolding copy_place_of copy_held_place_of copy_byte_at copy_short_place_of copy_short_byte_at copy_prefix_verdict copy_leaf_verdict leaf_in
twenties c =
    record {
      place = λ i at.
          found_twenty c (Child i) at (place_in (known c) c.tree c.n i) (λ few q. by_chunk i at few (place_twenty c at i q));
      held = λ i at.
          found_twenty c (Child i) at (held_place_in (known c) c.tree c.n c.bitfield i) (λ few q. by_chunk i at few (held_twenty c at i q));
      byte = λ b at.
          found_twenty c (ChildOnWay c.tree c.n (HoldsByte c.tree b)) at (byte_in (known c) c.tree c.n c.size b)
          (λ few q. met c (ByteBehind c.tree b) (HoldsByte c.tree b) at (copy_to_byte c b) (byte_twenty c at b q) ((meets c).byte b));
      short_place = λ i at e. walked_twenty c (i + 1) at _ (place_come c i at) e;
      short_byte = λ b at e. walked_twenty c c.n at _ (byte_come c b at) e;
      old = λ m at e.
          called c (λ j. (m ≤ c.n) × (among j (roots m) ≡ true)) at (leb m c.n) (refused_at 20 tree (first_unknown (known c) (roots m)) done)
          (λ few r q. listed c (λ j. (m ≤ c.n) × (among j (roots m) ≡ true)) at (roots m) q (λ j a. (leb-true m c.n r, a))) e;
      leaf = λ k at e. leafed k at (copy_judged c done) refl e;
      checks = λ at e. rooted c (λ j. ⊥) at (copy_twenty c done at e);
    }
  where
    Child : ℕ → ℕ → Type 0
    Child i = ChildOnWay c.tree c.n (HoldsChunk i)

    by_chunk : (i : ℕ) (at : Spot) → c.n ≤ most_chunks → (i < c.n) × Stopped at (copy_to_chunk c i)
        → (j : ℕ) × (at ≡ tree j) × (known c j ≡ false) × ((among j (roots c.n) ≡ true) ⊎ Child i j)
    by_chunk i at few d = met c (ChunkBehind i) (HoldsChunk i) at (copy_to_chunk c i) d.1 ((meets c).chunk i few d.0)

    -- a leaf that is not known
    leaf_twenty : (k : ℕ) (at : Spot) (b : Bool) → known c (index 0 k) ≡ b → cond b done (refused 20 (tree (index 0 k))) ≡ refused 20 at
        → (at ≡ tree (index 0 k)) × (known c (index 0 k) ≡ false)
    leaf_twenty k at true p q = let z : ◌≡◌ {A = ℕ} 0 1 = cc in absurd (omega arith)
    leaf_twenty k at false p q = let here : at ≡ tree (index 0 k) = cc in (here, p)

    leafed : (k : ℕ) (at : Spot) (v : Verdict) → copy_judged c done ≡ v → and_then v (leaf_in (known c) c.n k) ≡ refused 20 at → Twenty c (λ j. (k < c.n) × (j ≡ index 0 k)) at
    leafed k at done p q =
        let w = (copy_passed c done p).0 in
        let a = behind_others 20 at (record { number = 9; right = ltb k c.n } ∷ []) (cond (known c (index 0 k)) done (refused 20 (tree (index 0 k)))) (λ e. omega arith, tt)
        q in
        let d = leaf_twenty k at (known c (index 0 k)) refl a.1 in
        record { j = index 0 k; here = d.0; unknown = d.1; way = inr (roots_known_lem c w.rooted, (ltb-true k c.n a.0.0, refl)) }
    leafed k at (refused m spot) p q = rooted c (λ j. (k < c.n) × (j ≡ index 0 k)) at (copy_twenty c done at (p ∙ q))

pub meets_all : MeetsForAll
meets_all c = (meets c, twenties c)
