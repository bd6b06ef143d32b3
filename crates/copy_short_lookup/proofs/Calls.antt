-- What the calls need of the definitions: the checks of a copy, and what comes behind them. Assumes nothing.
use Prim.Native.Nat.{ℕ, ◌-◌, ◌≤◌}
use mathlib.Core.Path.{◌≡◌, sym, ap}
use mathlib.Core.Bool.{true}
use lib.ListN.{length}
use Rattle.answer_types.specs.Verdict.{Verdict, done}
use Rattle.byte_strings.specs.Lowest.{lowest}
use Rattle.bitfield.specs.Image.{entry_count}
use Rattle.bitfield.specs.Append.{bits_place}
use Rattle.bitfield.specs.Release.{stored_held}
use Rattle.file_format.specs.Sizes.{used_bitfield}
use Rattle.lookup.specs.Inner.{FilesIn}
use Rattle.search.specs.Search.{sought_unless}
use Rattle.lookup.specs.Lookup.{found_behind}
use Rattle.short_lookup.specs.ShortLookup.{short_place_in, short_byte_in}
use Rattle.copy_checks.specs.Copy.{Copy, known}
use Rattle.copy_checks.specs.Checks.{copy_judged}
use Rattle.copy_checks.proofs.Steps.{copy_passed, roots_in}
use Rattle.copy_short_lookup.specs.Short.{copy_short_place_of, copy_short_byte_at, copy_short_search}

module _ (c : Copy) (v : Verdict) (e : v ≡ copy_judged c done) where
  pub place_by : (i : ℕ) → found_behind v (short_place_in (known c) c.tree c.n i) ≡ copy_short_place_of c i
  unfolding copy_short_place_of
  place_by i = ap (λ (w : Verdict). found_behind w (short_place_in (known c) c.tree c.n i)) e

  pub byte_by : (b : ℕ) → found_behind v (short_byte_in (known c) c.tree c.n c.size b) ≡ copy_short_byte_at c b
  unfolding copy_short_byte_at
  byte_by b = ap (λ (w : Verdict). found_behind w (short_byte_in (known c) c.tree c.n c.size b)) e

  pub search_by : (from : ℕ) → sought_unless v (lowest (stored_held c.bitfield) from (c.n - from)) ≡ copy_short_search c from
  unfolding copy_short_search
  search_by from = ap (λ (w : Verdict). sought_unless w (lowest (stored_held c.bitfield) from (c.n - from))) e

-- the files hold what the loops read
module _ (c : Copy) (e : done ≡ copy_judged c done) where
  pub files_in_lem : FilesIn true c.tree c.bitfield c.n
  files_in_lem = let p = (copy_passed c done (sym e)).0.lent in record { roots = roots_in c p; bitfield = λ _. p.bitfield }

  pub bits_room : bits_place (entry_count c.n) ≤ length c.bitfield
  unfolding bits_place used_bitfield
  bits_room = (copy_passed c done (sym e)).0.lent.bitfield
