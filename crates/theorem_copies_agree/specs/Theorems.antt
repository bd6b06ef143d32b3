-- Where the short way and the quick one agree on copies.
--
-- The notions in it: `filled` and `entries` (tree_index, Tree), `LengthsRight` (short_lookup, Theorems), `Copy` and `known` (copy_checks, Copy), `copy_judged` (copy_checks,
-- Checks), `AcceptedCopy` (copy_audit, Audit), `copy_place_of` and `copy_byte_at` (copy_lookup, Lookups), `copy_search` (copy_roots, Roots), and the short versions
-- (copy_short_lookup, Short).
use Rattle.std.specs.Prelude.{ℕ, ◌<◌, ◌≡◌, true, List}
use Rattle.tree_index.specs.Tree.{filled, entries}
use Rattle.search.specs.Theorems.{IndexFollows}
use Rattle.short_lookup.specs.Theorems.{LengthsRight}
use Rattle.copy_checks.specs.Copy.{Copy, known}
use Rattle.copy_audit.specs.Audit.{AcceptedCopy}
use Rattle.copy_lookup.specs.Lookups.{copy_place_of, copy_byte_at}
use Rattle.copy_roots.specs.Roots.{copy_search}
use Rattle.copy_short_lookup.specs.Short.{copy_short_place_of, copy_short_byte_at, copy_short_search}

-- "where every entry but the holes is known"
unfoldable pub AllKnown : Copy → Type 0
AllKnown c = (i : ℕ) → i < entries c.n → filled c.n i ≡ true → known c i ≡ true

-- for every chunk number and every offset
pub record CopyLookupsAgree (c : Copy) : Type 0 where
  pub place : (i : ℕ) → copy_short_place_of c i ≡ copy_place_of c i
  pub byte : (b : ℕ) → copy_short_byte_at c b ≡ copy_byte_at c b

-- they agree on every such copy whose filled entries are right as to their lengths, refused or not
abbrev pub CopyLookupsAgreeForAll : Type 0
CopyLookupsAgreeForAll = (c : Copy) → AllKnown c → LengthsRight c.tree c.n → CopyLookupsAgree c

-- and the searches wherever the Index follows from the data bits, known or not
abbrev pub CopySearchAgreesForAll : Type 0
CopySearchAgreesForAll =
    (c : Copy) → IndexFollows c.bitfield c.n → (from : ℕ) → copy_short_search c from ≡ copy_search c from

-- "On an accepted copy the short lookups agree where every entry but the holes is known."
pub record CopyShortAgrees (c : Copy) : Type 0 where
  pub lookups : AllKnown c → CopyLookupsAgree c
  -- the search wherever it is accepted
  pub search : (from : ℕ) → copy_short_search c from ≡ copy_search c from

-- whatever function stands in for BLAKE2b in the audit
abbrev pub CopyShortAgreesForAll : Type 0
CopyShortAgreesForAll = (F : List ℕ → List ℕ) (c : Copy) → AcceptedCopy F c → CopyShortAgrees c
