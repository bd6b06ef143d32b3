-- The short lookups of a copy case by case, as those of a register: the proof of `CopyShortLookupsForAll`. Assumes nothing.
use Prim.Native.Nat.{ℕ, ◌+◌, ◌≤◌, ◌<◌}
use mathlib.Core.Path.{◌≡◌, refl, sym, ◌∙◌}
use mathlib.Core.Bool.{true, false}
use mathlib.Core.List.{List}
use native.Mathlib.Omega.{arith}
use Rattle.answer_types.specs.Verdict.{tree, done}
use Rattle.tree_index.specs.Tree.{index}
use Rattle.lookup.specs.Lookup.{Found, refusal}
use Rattle.short_lookup.specs.ShortLookup.{leaf_right, leaf_refused, place_by_leaves, byte_by_leaves}
use Rattle.short_lookup.specs.Theorems.{LeavesFit, FirstLong}
use Rattle.short_lookup.proofs.Walks.{leaf_right_lem, leaf_long, leaf_unknown, refused_by, place_nine, place_there, byte_nine, byte_end, byte_there}
use Rattle.short_lookup.proofs.Answers.{Right, byte_at_lem, byte_stops_lem, byte_ends, byte_has_lem, place_at, place_stops}
use Rattle.copy_checks.specs.Copy.{Copy, known}
use Rattle.copy_checks.specs.Checks.{copy_judged}
use Rattle.copy_short_lookup.specs.Short.{copy_short_place_of, copy_short_byte_at}
use Rattle.copy_short_lookup.proofs.Calls.{place_by, byte_by}
use Rattle.theorem_copies_agree.specs.ShortLookups.{LeavesKnown, FirstUnknownLeaf, CopyShortLookups, CopyShortLookupsForAll}

module _ (c : Copy) where
  abbrev t : List ℕ
  t = c.tree

  -- a walk goes on from leaves that are known and fit
  right : (m : ℕ) → LeavesKnown c m → LeavesFit t m → Right (known c) t m
  unfolding LeavesKnown LeavesFit
  right m a p k h = leaf_right_lem (known c) t k (a k h) (p k h)

  -- not from one that is long
  long : (k : ℕ) → LeavesKnown c (k + 1) → FirstLong t k
      → Right (known c) t k × (leaf_right (known c) t k ≡ false) × (refusal 10 (tree (index 0 k)) ≡ leaf_refused (known c) t k)
  unfolding LeavesKnown
  long k a p =
      let e : known c (index 0 k) ≡ true = a k (omega arith) in
      (right k (λ j h. a j (omega arith)) p.before, leaf_long (known c) t k e p.long, refused_by (known c) t k true e)

  -- nor from one that is not known
  gone : (k : ℕ) → FirstUnknownLeaf c k → LeavesFit t k
      → Right (known c) t k × (leaf_right (known c) t k ≡ false) × (refusal 20 (tree (index 0 k)) ≡ leaf_refused (known c) t k)
  gone k u p = (right k u.before p, leaf_unknown (known c) t k u.unknown, refused_by (known c) t k false u.unknown)

module _ (c : Copy) (e : copy_judged c done ≡ done) where
  placed : (i : ℕ) (x : Found) → i < c.n → x ≡ place_by_leaves (known c) c.tree i → copy_short_place_of c i ≡ x
  placed i x h p = sym (p ∙ place_there (known c) c.tree c.n i h ∙ place_by c done (sym e) i)

  located : (b : ℕ) (x : Found) → b < c.size → x ≡ byte_by_leaves (known c) c.tree c.n b → copy_short_byte_at c b ≡ x
  located b x h p =
      sym (p ∙ byte_there (known c) c.tree c.n c.size b (omega arith) (λ q. omega arith) ∙ byte_by c done (sym e) b)

  place_from_lem : (i k : ℕ) (x : Found) → i < c.n → k ≤ i → Right (known c) c.tree k × (leaf_right (known c) c.tree k ≡ false) × (x ≡ leaf_refused (known c) c.tree k)
      → copy_short_place_of c i ≡ x
  place_from_lem i k x h l a = placed i x h (a.2 ∙ place_stops (known c) c.tree i k l a.0 a.1)

  answers : CopyShortLookups c
  answers =
      record {
        place = λ i h k p. placed i _ h (place_at (known c) c.tree i (right c _ k p));
        place_long = λ i k h l a p. place_from_lem i k _ h l (long c k a p);
        place_unknown = λ i k h l u p. place_from_lem i k _ h l (gone c k u p);
        no_place = λ i h. sym (place_nine (known c) c.tree c.n i h ∙ place_by c done (sym e) i);
        byte = λ b k h l a p s g. located b _ h (byte_at_lem (known c) c.tree c.n b k l s (right c _ a p) g);
        byte_long = λ b k h l a p s. let q = long c k a p in located b _ h (q.2 ∙ byte_stops_lem (known c) c.tree c.n b k l s q.0 q.1);
        byte_unknown = λ b k h l u p s. let q = gone c k u p in located b _ h (q.2 ∙ byte_stops_lem (known c) c.tree c.n b k l s q.0 q.1);
        byte_none = λ b h a p s. located b _ h (byte_ends (known c) c.tree c.n b (right c _ a p) s);
        byte_has = λ b k x h g. byte_has_lem (known c) c.tree c.n b k x (sym (located b _ h refl) ∙ g);
        end = sym (byte_end (known c) c.tree c.n c.size c.size refl ∙ byte_by c done (sym e) c.size);
        no_byte = λ b h. sym (byte_nine (known c) c.tree c.n c.size b h ∙ byte_by c done (sym e) b);
      }

pub copy_short_lookups : CopyShortLookupsForAll
copy_short_lookups c e = answers c e
