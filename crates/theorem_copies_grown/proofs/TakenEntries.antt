-- What a taking in leaves of the tree: the entries that are brought, and those that were known. Assumes nothing.
use Prim.Native.Nat.{ℕ}
use mathlib.Core.Path.{◌≡◌, refl, sym, ap, ◌∙◌}
use mathlib.Core.Bool.{true}
use mathlib.Core.List.{List}
use Rattle.byte_strings.specs.Lists.{part, Bytes}
use Rattle.bitfield.specs.Known.{stored_known}
use Rattle.file_format.specs.Sizes.{entry_place}
use Rattle.file_format.specs.Messages.{HashFunction}
use Rattle.file_format.specs.Entries.{entry_bytes}
use Rattle.file_format.specs.Stored.{stored_hash, stored_size}
use Rattle.file_format.proofs.Nodes.{Proper, entry_bytes_length}
use Rattle.lookup.proofs.Visits.{filled_entry}
use Rattle.packet.specs.Inner.{ChunkOf}
use Rattle.copy_checks.specs.Copy.{Copy}
use Rattle.copy_take_in.specs.TakeIn.{Given, with_given, brought}
use Rattle.byte_strings.proofs.Members.{In, map_in}
use Rattle.theorem_taking_laws.proofs.Given.{bytes_for, AllFitting, given_keeps, given_gives}
use Rattle.theorem_taking_laws.proofs.Among.{brought_filled, brought_distinct}
use Rattle.theorem_taking_laws.proofs.Starts.{HoldsAll, brought_proper}
use Rattle.theorem_released_back.proofs.Took.{Took}
use Rattle.theorem_released_back.proofs.Stays.{none_contradicts}
use Rattle.theorem_copies_grown.proofs.Grows.{Grows, filled_known}
use Rattle.theorem_copies_grown.proofs.Entries.{entry_same, entry_held, distinct_one}

-- a packet that a copy takes in
pub record Taking (F : List ℕ → List ℕ) (c : Copy) (p : List ℕ) (i : ℕ) : Type 0 where
  pub hash : HashFunction F
  pub grows : Grows F c
  pub bytes : Bytes p
  pub took : Took F c p i

module _ {F : List ℕ → List ℕ} {c : Copy} {p : List ℕ} {i : ℕ} (tg : Taking F c p i) where
  abbrev g : Grows F c
  g = tg.grows

  abbrev gs : List Given
  gs = brought F p c.n i

  abbrev t : List ℕ
  t = c.tree

  abbrev u : List ℕ
  u = with_given c.tree (brought F p c.n i)

  pub there : ChunkOf c.n i
  there = tg.took.packet.shaped.chunk

  proper : (x : Given) → In x gs → Proper x.entry
  proper = brought_proper F tg.hash p tg.bytes c.n i tg.took.packet

  pub fitting : AllFitting t gs
  fitting x m =
      record {
        inside = (filled_entry t c.n x.at g.lent.count g.lent.tree (brought_filled c.n i there F p x m)).inside;
        long = entry_bytes_length x.entry (proper x m).long;
      }

  given_at_lem : (x : Given) → In x gs → part u (entry_place x.at) 40 ≡ entry_bytes x.entry
  given_at_lem x m =
      given_gives x.at (entry_bytes x.entry) t gs fitting
      (λ y l e. ap (λ (z : Given). bytes_for z) (distinct_one gs (brought_distinct c.n i there F p) y x l m e)) (map_in (λ (z : Given). z.at) x gs m)

  pub holds : HoldsAll u gs
  holds x m = entry_held u x (proper x m) (given_at_lem x m)

  -- an entry that was known stays
  kept : (j : ℕ) → g.knows_of j ≡ true → part u (entry_place j) 40 ≡ part t (entry_place j) 40
  kept j k =
      given_keeps j (part t (entry_place j) 40) t gs fitting
      (λ x m e.
      sym (none_contradicts t c.bitfield gs tg.took.entries x m (ap (stored_known c.bitfield) e ∙ filled_known F c g j k)) ∙ ap (λ (y : ℕ). part t (entry_place y) 40) e)
      refl

  pub hash_kept : (j : ℕ) → g.knows_of j ≡ true → stored_hash u j ≡ stored_hash t j
  hash_kept j k = (entry_same t u j (kept j k)).0

  pub size_kept : (j : ℕ) → g.knows_of j ≡ true → stored_size u j ≡ stored_size t j
  size_kept j k = (entry_same t u j (kept j k)).1
