-- What a packet brings: the leaf and the parents on the way up to the root above it, the siblings of all but that root, and the other roots.
-- Assumes nothing.
use Prim.Native.Nat.{ℕ, ◌≤◌, ◌<◌}
use mathlib.Core.Path.{◌≡◌, ap, ◌∙◌, subst}
use mathlib.Core.Logic.{◌⊎◌, inl, inr}
use mathlib.Core.List.{List, map}
use native.Mathlib.Omega.{arith}
use lib.ListN.{length, get_or}
use Rattle.byte_strings.proofs.Lists.{length_run}
use Rattle.file_format.specs.Entries.{Entry, hole}
use Rattle.packet.specs.Packet.{siblings, other_roots}
use Rattle.packet.specs.Check.{entries_in, sibling_entries, other_entries, steps}
use Rattle.packet.proofs.Rows.{siblings_count}
use Rattle.packet_compare.specs.Theorems.{step_at}
use Rattle.packet_compare.proofs.Stands.{stands, sibling_is}
use Rattle.copy_take_in.specs.TakeIn.{Given, given_at, lying, led_to, brought}
use Rattle.byte_strings.proofs.Members.{In, in_left, in_right, in_either}
use Rattle.theorem_taking_laws.proofs.RowMembers.{in_given, given_in, in_led, led_in}
use Rattle.theorem_taking_laws.proofs.Ways.{way_index, side_index}

-- the entry that the packet leads to at depth d on the way up, and the siblings' and other roots' entries that it gives
abbrev pub way_entry : (List ℕ → List ℕ) → List ℕ → ℕ → ℕ → ℕ → Entry
way_entry F p n c d = (step_at (steps F p n c) d).entry

abbrev pub side_entry_lem : List ℕ → ℕ → ℕ → ℕ → Entry
side_entry_lem p n c d = get_or (sibling_entries p n c) d hole

abbrev pub other_entry_lem : List ℕ → ℕ → ℕ → ℕ → Entry
other_entry_lem p n c j = get_or (other_entries p n c) j hole

-- what is brought: an entry of the way, a sibling, or another root
pub data Brings (F : List ℕ → List ℕ) (p : List ℕ) (n c : ℕ) (g : Given) : Type 0 where
  on_way : (d : ℕ) → d ≤ length (siblings n c) → g.at ≡ way_index c d → g.entry ≡ way_entry F p n c d → Brings F p n c g
  beside_way : (d : ℕ) → d < length (siblings n c) → g.at ≡ side_index c d → g.entry ≡ side_entry_lem p n c d → Brings F p n c g
  other_root_lem : (j : ℕ) → j < length (other_roots n c) → g.at ≡ get_or (other_roots n c) j 0 → g.entry ≡ other_entry_lem p n c j → Brings F p n c g

pub others_count : (p : List ℕ) (n c : ℕ) → length (other_entries p n c) ≡ length (other_roots n c)
unfolding other_entries entries_in
others_count p n c = length_run _ 0 (length (other_roots n c))

module _ (F : List ℕ → List ℕ) (p : List ℕ) (n c : ℕ) where
  abbrev tops : ℕ
  tops = length (siblings n c)

  abbrev all : List Given
  all = brought F p n c

  pub way_brought : (d : ℕ) → d ≤ length (siblings n c) → In (record { at = way_index c d; entry = way_entry F p n c d }) (brought F p n c)
  unfolding brought
  way_brought d l =
      let m : d < length (steps F p n c) = omega (arith, (stands F p n c).count) in
      in_left _ (map led_to (steps F p n c)) (lying p n c)
      (subst (λ (x : ℕ). In (record { at = x; entry = way_entry F p n c d }) (map led_to (steps F p n c))) ((stands F p n c).at d m) (in_led (steps F p n c) d m))

  pub side_lies : (d : ℕ) → d < length (siblings n c) → In (record { at = side_index c d; entry = side_entry_lem p n c d }) (lying p n c)
  unfolding lying
  side_lies d l =
      in_left _ (given_at (siblings n c) (sibling_entries p n c)) (given_at (other_roots n c) (other_entries p n c))
      (subst (λ (x : ℕ). In (record { at = x; entry = side_entry_lem p n c d }) (given_at (siblings n c) (sibling_entries p n c))) (sibling_is F p n c d l)
      (in_given (siblings n c) (sibling_entries p n c) d (siblings_count p n c) l))

  pub other_lies : (j : ℕ) → j < length (other_roots n c) → In (record { at = get_or (other_roots n c) j 0; entry = other_entry_lem p n c j }) (lying p n c)
  unfolding lying
  other_lies j l =
      in_right _ (given_at (siblings n c) (sibling_entries p n c)) (given_at (other_roots n c) (other_entries p n c))
      (in_given (other_roots n c) (other_entries p n c) j (others_count p n c) l)

  pub lying_brought : (g : Given) → In g (lying p n c) → In g (brought F p n c)
  unfolding brought
  lying_brought g h = in_right g (map led_to (steps F p n c)) (lying p n c) h

  pub side_brought : (d : ℕ) → d < length (siblings n c) → In (record { at = side_index c d; entry = side_entry_lem p n c d }) (brought F p n c)
  side_brought d l = lying_brought _ (side_lies d l)

  pub other_brought : (j : ℕ) → j < length (other_roots n c) → In (record { at = get_or (other_roots n c) j 0; entry = other_entry_lem p n c j }) (brought F p n c)
  other_brought j l = lying_brought _ (other_lies j l)

  pub lying_brings : (g : Given) → In g (lying p n c) → Brings F p n c g
  unfolding lying
  lying_brings g h = pick (in_either g (given_at (siblings n c) (sibling_entries p n c)) (given_at (other_roots n c) (other_entries p n c)) h)
    where
      pick : In g (given_at (siblings n c) (sibling_entries p n c)) ⊎ In g (given_at (other_roots n c) (other_entries p n c)) → Brings F p n c g
      pick (inl a) =
          let q = given_in g (siblings n c) (sibling_entries p n c) a in
          beside_way q.0 q.1 (q.2 ∙ sibling_is F p n c q.0 q.1) q.3
      pick (inr a) = let q = given_in g (other_roots n c) (other_entries p n c) a in other_root_lem q.0 q.1 q.2 q.3

  pub brings : (g : Given) → In g (brought F p n c) → Brings F p n c g
  unfolding brought
  brings g h = pick (in_either g (map led_to (steps F p n c)) (lying p n c) h)
    where
      pick : In g (map led_to (steps F p n c)) ⊎ In g (lying p n c) → Brings F p n c g
      pick (inl a) =
          let q = led_in g (steps F p n c) a in
          on_way q.0 (omega (arith, q.1, (stands F p n c).count)) (ap (λ (y : Given). y.at) q.2 ∙ (stands F p n c).at q.0 q.1)
          (ap (λ (y : Given). y.entry) q.2)
      pick (inr a) = lying_brings g a
