-- What the calls need of the definitions: how the checks of a copy and the inner lookups come together.
-- Assumes nothing.
use Prim.Native.Nat.{ℕ, ◌-◌, ◌^◌, ◌≤◌, ◌<◌}
use mathlib.Core.Path.{◌≡◌, refl, sym, ap}
use mathlib.Core.Bool.{true}
use mathlib.Core.List.{List, []}
use lib.ListN.{length, take, drop}
use Rattle.answer_types.specs.Verdict.{Spot, Verdict, done, refused}
use Rattle.byte_strings.specs.Lists.{part}
use Rattle.checks.proofs.Passed.{passes}
use Rattle.lookup.specs.Lookup.{Found, refusal, found, found_behind, place_in, held_place_in, byte_in}
use Rattle.lookup.specs.Inner.{SearchedFor, SearchedHeld}
use Rattle.lookup.specs.Read.{verdict_found, bytes_found, hash_judged}
use Rattle.lookup.specs.Meaning.{PartIn, PlacedIn}
use Rattle.lookup.proofs.Calls.{searched, placed_in, lying}
use Rattle.copy_checks.specs.Copy.{Copy, known}
use Rattle.copy_checks.specs.Checks.{copy_judged}
use Rattle.copy_checks.proofs.Steps.{copy_passed}
use Rattle.copy_checks.proofs.Signed.{signed, signed_passes}
use Rattle.copy_lookup.specs.Lookups.{copy_place_of, copy_held_place_of, copy_byte_at}
use Rattle.copy_lookup.specs.Reading.{copy_read_verdict, copy_read_part, copy_read_found}
use Rattle.copy_lookup.proofs.AsRegister.{held_place_as, read_found_as}

-- ---- behind the checks of a copy

module _ (c : Copy) (v : Verdict) (e : v ≡ copy_judged c done) where
  pub place_by : (i : ℕ) → found_behind v (place_in (known c) c.tree c.n i) ≡ copy_place_of c i
  unfolding copy_place_of
  place_by i = ap (λ (w : Verdict). found_behind w (place_in (known c) c.tree c.n i)) e

  pub held_by : (i : ℕ) → found_behind v (held_place_in (known c) c.tree c.n c.bitfield i) ≡ copy_held_place_of c i
  unfolding copy_held_place_of
  held_by i = ap (λ (w : Verdict). found_behind w (held_place_in (known c) c.tree c.n c.bitfield i)) e

  pub byte_by : (b : ℕ) → found_behind v (byte_in (known c) c.tree c.n c.size b) ≡ copy_byte_at c b
  unfolding copy_byte_at
  byte_by b = ap (λ (w : Verdict). found_behind w (byte_in (known c) c.tree c.n c.size b)) e

-- what passes them may be searched
pub copy_searched : (c : Copy) → done ≡ copy_judged c done → c.size < 2 ^ 64 → SearchedFor true c.tree c.bitfield c.n c.size
copy_searched c e h =
    let p = signed_passes c (copy_passed c done (sym e)).0 in
    let s = searched (signed c) (sym (passes (signed c) done p)) h in
    record {
      searched = record { files = record { roots = s.searched.files.roots; bitfield = λ _. p.bitfield }; fits = s.searched.fits };
      adds = s.adds;
    }

pub copy_searched_held : (c : Copy) → done ≡ copy_judged c done → c.size < 2 ^ 64 → SearchedHeld true c.tree c.bitfield c.n
copy_searched_held c e h =
    let s = (copy_searched c e h).searched in
    record { searched = s; held = s.files.bitfield refl }

-- ---- the read

pub copy_placed_in : (c : Copy) (i : ℕ) (p : Found) → p ≡ copy_held_place_of c i → PlacedIn c.tree c.content i p
copy_placed_in c i (refusal m at) e = tt
copy_placed_in c i (found start size) e = placed_in (signed c) i (found start size) (held_place_as c i start size e)

module _ (F : List ℕ → List ℕ) (c : Copy) (i : ℕ) where
  pub copy_verified : (p : Found) → p ≡ copy_held_place_of c i → hash_judged F c.tree c.content i p ≡ copy_read_found F c i
  unfolding copy_read_found
  copy_verified p e = ap (hash_judged F c.tree c.content i) e

  -- what was verified, p, is what the read answers and hands back
  pub read_says_lem : (p : Found) → p ≡ copy_read_found F c i → verdict_found p ≡ copy_read_verdict F c i
  unfolding copy_read_verdict
  read_says_lem p e = ap verdict_found e

  pub read_bytes : (p : Found) → p ≡ copy_read_found F c i → bytes_found c.content p ≡ copy_read_part F c i
  unfolding copy_read_part
  read_bytes p e = ap (bytes_found c.content) e

  -- the part that was verified lies within the data
  pub record Read (from end : ℕ) : Type 0 where
    pub ordered : from ≤ end
    pub inside : end ≤ length c.content
    pub verdict : done ≡ copy_read_verdict F c i
    pub same : take (end - from) (drop from c.content) ≡ copy_read_part F c i

  pub copy_lying : (from end : ℕ) → found from end ≡ copy_read_found F c i → Read from end
  unfolding part
  copy_lying from end e =
      let l = lying F (signed c) i from end (read_found_as F c i from end e) in
      record { ordered = l.ordered; inside = l.inside; verdict = read_says_lem (found from end) e; same = read_bytes (found from end) e }

  pub copy_nothing : (m : ℕ) (at : Spot) → refusal m at ≡ copy_read_found F c i → (refused m at ≡ copy_read_verdict F c i) × ([] ≡ copy_read_part F c i)
  copy_nothing m at e = (read_says_lem (refusal m at) e, read_bytes (refusal m at) e)

  pub read_in_lem : (p : Found) → p ≡ copy_read_found F c i → PartIn c.content p
  read_in_lem (refusal m at) e = tt
  read_in_lem (found from end) e = let l = copy_lying from end e in (l.ordered, l.inside)
