-- What is among the entries that a packet brings, and what is not. Assumes nothing.
use Prim.Native.Nat.{ℕ, suc, ◌+◌, ◌/◌, ◌^◌, ◌≤◌, ◌<◌}
use mathlib.Core.Path.{◌≡◌, refl, sym, ap, ap₂, ◌∙◌, subst}
use mathlib.Core.Bool.{Bool, true, false}
use mathlib.Core.Logic.{◌⊎◌, inl, inr}
use mathlib.Core.List.{List, ◌++◌, map, map-append}
use native.Mathlib.Nat.{zero-add}
use native.Mathlib.Omega.{arith}
use borrow.Author.Tests.{leb-true, leb-false}
use lib.Dec.{leb}
use lib.ListN.{length}
use Rattle.byte_strings.proofs.Bools.{clash}
use Rattle.tree_index.specs.Tree.{depth, parent, filled, roots}
use Rattle.tree_index.proofs.Index.{depth_index}
use Rattle.file_format.specs.Entries.{Entry}
use Rattle.packet.specs.Packet.{root_above, beside, siblings, other_roots}
use Rattle.packet.specs.Check.{sibling_entries, other_entries, steps}
use Rattle.packet.specs.Inner.{ChunkOf}
use Rattle.packet.proofs.Above.{Distinct, roots_distinct}
use Rattle.packet.proofs.Rows.{others_filled, siblings_count}
use Rattle.packet_compare.proofs.Stands.{stands, sibling_is}
use Rattle.copy_take_in.specs.TakeIn.{Given, given_at, lying, led_to, brought}
use Rattle.byte_strings.proofs.Members.{In, in_either, in_place, in_map}
use Rattle.theorem_taking_laws.proofs.Distinct.{in_without, distinct_append, distinct_without, distinct_by}
use Rattle.theorem_taking_laws.proofs.Siblings.{sibling}
use Rattle.theorem_taking_laws.proofs.Roots.{root_hole}
use Rattle.theorem_taking_laws.proofs.RowMembers.{given_in, given_indexes, led_in, led_indexes, led_many}
use Rattle.theorem_taking_laws.proofs.Ways.{way_index, side_index, side_parent, way_parent, way_sibling, side_sibling, side_off, top_root, above_root, way_filled, side_filled}
use Rattle.theorem_taking_laws.proofs.Ways.{other_root, other_off, other_beside}
use Rattle.theorem_taking_laws.proofs.Brought.{way_entry, side_entry_lem, other_entry_lem, Brings, on_way, beside_way, other_root_lem, others_count, way_brought, lying_brought, side_brought}
use Rattle.theorem_taking_laws.proofs.Brought.{other_brought, brings}

module _ (n c : ℕ) (h : ChunkOf n c) where
  -- "every root of n is among them"
  pub root_brought : (F : List ℕ → List ℕ) (p : List ℕ) (i : ℕ) → In i (roots n) → (e : Entry) × In (record { at = i; entry = e }) (brought F p n c)
  unfolding other_roots
  root_brought F p i r = pick (in_without i (root_above (roots n) c) (roots n) r)
    where
      pick : (i ≡ root_above (roots n) c) ⊎ In i (other_roots n c) → (e : Entry) × In (record { at = i; entry = e }) (brought F p n c)
      pick (inl e) = (
        way_entry F p n c (length (siblings n c)),
        subst (λ (x : ℕ). In (record { at = x; entry = way_entry F p n c (length (siblings n c)) }) (brought F p n c)) (top_root n c h ∙ sym e)
            (way_brought F p n c (length (siblings n c)) (omega arith)),
      )
      pick (inr l) =
          let q = in_place 0 i (other_roots n c) l in (
            other_entry_lem p n c q.0,
            subst (λ (x : ℕ). In (record { at = x; entry = other_entry_lem p n c q.0 }) (brought F p n c)) q.2 (other_brought F p n c q.0 q.1),
          )

  module _ (F : List ℕ → List ℕ) (p : List ℕ) where
    pub brought_filled : (g : Given) → In g (brought F p n c) → filled n g.at ≡ true
    brought_filled g i = pick (brings F p n c g i)
      where
        pick : Brings F p n c g → filled n g.at ≡ true
        pick (on_way d l a e) = ap (filled n) a ∙ way_filled n c h d l
        pick (beside_way d l a e) = ap (filled n) a ∙ side_filled n c h d l
        pick (other_root_lem j l a e) = ap (filled n) a ∙ others_filled n c h j l

    -- an entry brought that is no root stands under one of the way
    pub record Under (i : ℕ) : Type 0 where
      pub d : ℕ
      pub low : d < length (siblings n c)
      pub at : (i ≡ way_index c d) ⊎ (i ≡ side_index c d)

    pub under_parent : (i : ℕ) (u : Under i) → parent i ≡ way_index c (suc u.d)
    under_parent i u = pick u.at
      where
        pick : (i ≡ way_index c u.d) ⊎ (i ≡ side_index c u.d) → parent i ≡ way_index c (suc u.d)
        pick (inl e) = ap parent e ∙ way_parent c u.d
        pick (inr e) = ap parent e ∙ side_parent c u.d

    pub brought_under : (g : Given) → In g (brought F p n c) → filled n (parent g.at) ≡ true → Under g.at
    brought_under g i f = pick (brings F p n c g i)
      where
        rootly : In g.at (roots n) → Under g.at
        rootly r = clash (filled n (parent g.at)) f (root_hole n g.at r)

        pick : Brings F p n c g → Under g.at
        pick (on_way d l a e) = below (leb (suc d) (length (siblings n c))) refl
          where
            below : (b : Bool) → leb (suc d) (length (siblings n c)) ≡ b → Under g.at
            below true q = record { d = d; low = leb-true (suc d) (length (siblings n c)) q; at = inl a }
            below false q =
                let s : d ≡ length (siblings n c) = omega (arith, leb-false (suc d) (length (siblings n c)) q) in
                rootly (subst (λ (x : ℕ). In x (roots n)) (sym (a ∙ ap (way_index c) s ∙ top_root n c h)) (above_root n c h))
        pick (beside_way d l a e) = record { d = d; low = l; at = inr a }
        pick (other_root_lem j l a e) = rootly (subst (λ (x : ℕ). In x (roots n)) (sym a) (other_root n c h j l).0)

    -- "each that is not a root has its sibling and its parent among them"
    pub parent_brought : (g : Given) → In g (brought F p n c) → filled n (parent g.at) ≡ true
        → (e : Entry) × In (record { at = parent g.at; entry = e }) (brought F p n c)
    parent_brought g i f =
        let u = brought_under g i f in (
          way_entry F p n c (suc u.d),
          subst (λ (x : ℕ). In (record { at = x; entry = way_entry F p n c (suc u.d) }) (brought F p n c)) (sym (under_parent g.at u))
              (way_brought F p n c (suc u.d) u.low),
        )

    pub sibling_brought : (g : Given) → In g (brought F p n c) → filled n (parent g.at) ≡ true
        → (e : Entry) × In (record { at = sibling g.at; entry = e }) (brought F p n c)
    sibling_brought g i f = let u = brought_under g i f in pick u u.at
      where
        pick : (u : Under g.at) → (g.at ≡ way_index c u.d) ⊎ (g.at ≡ side_index c u.d)
            → (e : Entry) × In (record { at = sibling g.at; entry = e }) (brought F p n c)
        pick u (inl a) = (
          side_entry_lem p n c u.d,
          subst (λ (x : ℕ). In (record { at = x; entry = side_entry_lem p n c u.d }) (brought F p n c)) (sym (ap sibling a ∙ way_sibling c u.d))
              (side_brought F p n c u.d u.low),
        )
        pick u (inr a) = (
          way_entry F p n c u.d,
          subst (λ (x : ℕ). In (record { at = x; entry = way_entry F p n c u.d }) (brought F p n c)) (sym (ap sibling a ∙ side_sibling c u.d))
              (way_brought F p n c u.d (omega (arith, u.low))),
        )

    -- what lies in the packet stands off the way
    pub lying_off : (g : Given) → In g (lying p n c) → (d : ℕ) → d ≤ length (siblings n c) → g.at ≡ way_index c d → ⊥
    unfolding lying
    lying_off g i d m e = pick (in_either g (given_at (siblings n c) (sibling_entries p n c)) (given_at (other_roots n c) (other_entries p n c)) i)
      where
        pick : In g (given_at (siblings n c) (sibling_entries p n c)) ⊎ In g (given_at (other_roots n c) (other_entries p n c)) → ⊥
        pick (inl a) =
            let q = given_in g (siblings n c) (sibling_entries p n c) a in
            side_off c q.0 d (sym (q.2 ∙ sibling_is F p n c q.0 q.1) ∙ e)
        pick (inr a) = let q = given_in g (other_roots n c) (other_entries p n c) a in other_off n c h q.0 d q.1 m (sym q.2 ∙ e)

    -- "each brought parent that is not on the way has no child brought"
    pub lying_childless : (g k : Given) → In g (lying p n c) → In k (brought F p n c) → parent k.at ≡ g.at → ⊥
    lying_childless g k i j e =
        let f : filled n (parent k.at) ≡ true = ap (filled n) e ∙ brought_filled g (lying_brought F p n c g i) in
        let u = brought_under k j f in lying_off g i (suc u.d) u.low (sym e ∙ under_parent k.at u)

    -- pairwise distinct
    pub brought_distinct : Distinct (map (λ (g : Given). g.at) (brought F p n c))
    unfolding brought other_roots lying
    brought_distinct =
        subst Distinct (sym (map-append (λ (g : Given). g.at) (map led_to (steps F p n c)) (lying p n c)))
        (distinct_append (map (λ (g : Given). g.at) (map led_to (steps F p n c))) (map (λ (g : Given). g.at) (lying p n c)) ways lie
        (λ x a b.
        let q = in_map (λ (g : Given). g.at) x (map led_to (steps F p n c)) a in
        let r = in_map (λ (g : Given). g.at) x (lying p n c) b in
        let w = led_in q.0 (steps F p n c) q.1 in
        lying_off r.0 r.1 w.0 (omega (arith, w.1, (stands F p n c).count))
        (r.2 ∙ sym q.2 ∙ ap (λ (y : Given). y.at) w.2 ∙ (stands F p n c).at w.0 w.1)))
      where
        ways : Distinct (map (λ (g : Given). g.at) (map led_to (steps F p n c)))
        ways =
            distinct_by depth 0 (map (λ (g : Given). g.at) (map led_to (steps F p n c)))
            (λ j l. let m : j < length (steps F p n c) = omega (arith, led_many (steps F p n c)) in
            ap depth (led_indexes (steps F p n c) j m ∙ (stands F p n c).at j m) ∙ depth_index j (c / 2 ^ j) ∙ sym (zero-add j))

        sides : Distinct (siblings n c)
        sides =
            distinct_by depth 0 (siblings n c)
            (λ j l. ap depth (sibling_is F p n c j l) ∙ depth_index j (beside (c / 2 ^ j)) ∙ sym (zero-add j))

        others : Distinct (other_roots n c)
        others = distinct_without (root_above (roots n) c) (roots n) (roots_distinct n)

        lie : Distinct (map (λ (g : Given). g.at) (lying p n c))
        lie =
            subst Distinct
            (sym (map-append (λ (g : Given). g.at) (given_at (siblings n c) (sibling_entries p n c)) (given_at (other_roots n c) (other_entries p n c))
            ∙ ap₂ (λ (x y : List ℕ). x ++ y) (given_indexes (siblings n c) (sibling_entries p n c) (siblings_count p n c))
            (given_indexes (other_roots n c) (other_entries p n c) (others_count p n c))))
            (distinct_append (siblings n c) (other_roots n c) sides others
            (λ x a b.
            let q = in_place 0 x (siblings n c) a in
            let r = in_place 0 x (other_roots n c) b in
            other_beside n c h r.0 q.0 r.1 q.1 (r.2 ∙ sym q.2 ∙ sibling_is F p n c q.0 q.1)))
