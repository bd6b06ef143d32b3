-- What the calls need of the definitions: the checks 2 to 6, and what comes behind them. Assumes nothing.
use Prim.Native.Nat.{ℕ, ◌-◌, ◌≤◌}
use mathlib.Core.Path.{◌≡◌, sym, ap}
use mathlib.Core.Bool.{false}
use lib.ListN.{length}
use Rattle.answer_types.specs.Verdict.{Verdict, done}
use Rattle.byte_strings.specs.Lowest.{lowest}
use Rattle.bitfield.specs.Image.{entry_count}
use Rattle.bitfield.specs.Append.{bits_place}
use Rattle.bitfield.specs.Release.{stored_held}
use Rattle.file_format.specs.Sizes.{used_bitfield}
use Rattle.file_format.specs.Belongs.{Register}
use Rattle.checks.specs.Checks.{judged, register_checks}
use Rattle.checks.proofs.Passed.{passed}
use Rattle.lookup.specs.Descent.{always}
use Rattle.lookup.specs.Inner.{FilesIn}
use Rattle.search.specs.Search.{sought_unless}
use Rattle.lookup.specs.Lookup.{found_behind}
use Rattle.short_lookup.specs.ShortLookup.{short_place_in, short_byte_in, short_place_of, short_byte_at, short_search_for}

module _ (r : Register) (v : Verdict) (e : v ≡ judged (register_checks r) done) where
  pub place_by : (c : ℕ) → found_behind v (short_place_in always r.tree r.n c) ≡ short_place_of r c
  unfolding short_place_of
  place_by c = ap (λ (w : Verdict). found_behind w (short_place_in always r.tree r.n c)) e

  pub byte_by : (b : ℕ) → found_behind v (short_byte_in always r.tree r.n r.size b) ≡ short_byte_at r b
  unfolding short_byte_at
  byte_by b = ap (λ (w : Verdict). found_behind w (short_byte_in always r.tree r.n r.size b)) e

  pub search_by : (from : ℕ) → sought_unless v (lowest (stored_held r.bitfield) from (r.n - from)) ≡ short_search_for r from
  unfolding short_search_for
  search_by from = ap (λ (w : Verdict). sought_unless w (lowest (stored_held r.bitfield) from (r.n - from))) e

-- the files hold what the loops read
module _ (r : Register) (e : done ≡ judged (register_checks r) done) where
  pub files_in_lem : FilesIn false r.tree r.bitfield r.n
  files_in_lem =
      let p = (passed r done (sym e)).0 in
      record { roots = record { count = p.count; inside = p.tree }; bitfield = λ _. p.bitfield }

  pub bits_room : bits_place (entry_count r.n) ≤ length r.bitfield
  unfolding bits_place used_bitfield
  bits_room = (passed r done (sym e)).0.bitfield
