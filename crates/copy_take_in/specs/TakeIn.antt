-- "Taking in a packet checks it against the root hash. It then writes leaf, siblings, parents on the way and roots with their tree bits, which make an
-- entry known, and the chunk at the start found from left siblings and left roots, sets its data bit and regenerates that entry's Index."
use Rattle.std.specs.Prelude.{ℕ, Bool, cond, ◌&&◌, not, List, [], ◌∷◌, ◌++◌, map, ltb, eqb, length}
use Rattle.answer_types.specs.Verdict.{Verdict, tree, done, unless_refused, and_then}
use Rattle.byte_strings.specs.Lists.{part, put, total, same_list}
use Rattle.byte_strings.specs.Lowest.{Lowest, nowhere, first}
use Rattle.tree_index.specs.Tree.{index}
use Rattle.bitfield.specs.Append.{set_tree_bits}
use Rattle.bitfield.specs.Release.{stored_held}
use Rattle.bitfield.specs.Known.{stored_known, held_again}
use Rattle.file_format.specs.Sizes.{entry_place}
use Rattle.file_format.specs.Entries.{Entry, entry_bytes}
use Rattle.checks.specs.Checks.{judged}
use Rattle.audit.specs.Audit.{refused_at}
use Rattle.packet.specs.Packet.{siblings, other_roots}
use Rattle.packet.specs.Check.{packet_chunk, sibling_entries, other_entries, packet_total, Step, steps, packet_verdict}
use Rattle.copy_checks.specs.Copy.{Copy, Files, files_of}
use Rattle.copy_checks.specs.Least.{lower_of, least_of}
use Rattle.copy_checks.specs.Checks.{partly_judged}

-- an entry, and the tree index where it stands
pub record Given : Type 0 where
  pub at : ℕ
  pub entry : Entry

-- entries at their tree indexes
unfoldable pub given_at : List ℕ → List Entry → List Given
given_at [] es = []
given_at (i ∷ is) [] = []
given_at (i ∷ is) (e ∷ es) = record { at = i; entry = e } ∷ given_at is es

-- the entries that lie in a packet: its siblings, and the roots but the one above the chunk
unfoldable pub lying : List ℕ → ℕ → ℕ → List Given
lying p n c = given_at (siblings n c) (sibling_entries p n c) ++ given_at (other_roots n c) (other_entries p n c)

-- the entry that a step of the way up leads to: "leaf", and "parents on the way"
abbrev pub led_to : Step → Given
led_to s = record { at = s.at; entry = s.entry }

-- "the start found from left siblings and left roots": what a given entry adds to it, where it stands left of the leaf
unfoldable pub left_size : ℕ → Given → ℕ
left_size leaf g = cond (ltb g.at leaf) g.entry.size 0

unfoldable pub packet_start : List ℕ → ℕ → ℕ → ℕ
packet_start p n c = total (map (left_size (index 0 c)) (lying p n c))

-- "a packet that contradicts a known entry": what is given is known, and stored with other bytes
unfoldable pub contradicted : List ℕ → List ℕ → Given → Bool
contradicted t bits g = stored_known bits g.at && not (same_list (part t (entry_place g.at) 40) (entry_bytes g.entry))

-- "or, where chunk i is held, the bytes at its start"
unfoldable pub bytes_contradicted : List ℕ → List ℕ → ℕ → ℕ → List ℕ → Bool
bytes_contradicted bits content i start chunk = stored_held bits i && not (same_list (part content start (length chunk)) chunk)

-- the tree index of what is contradicted, where it is
abbrev pub index_if : Bool → ℕ → Lowest
index_if test i = cond test (first i) nowhere

abbrev pub contradicts : List ℕ → List ℕ → Given → Lowest
contradicts t bits g = index_if (contradicted t bits g) g.at

-- given entries written into a tree file
unfoldable pub with_given : List ℕ → List Given → List ℕ
with_given t [] = t
with_given t (g ∷ gs) = with_given (put t (entry_place g.at) (entry_bytes g.entry)) gs

-- "with their tree bits"
unfoldable pub with_known : List ℕ → List Given → List ℕ
with_known bits gs = set_tree_bits bits (map (λ (g : Given). g.at) gs)

module _ (F : List ℕ → List ℕ) where
  -- "leaf, siblings, parents on the way and roots": what the packet of chunk i leads to, the last of which is the root above the chunk, and what it gives
  unfoldable pub brought : List ℕ → ℕ → ℕ → List Given
  brought p n i = map led_to (steps F p n i) ++ lying p n i

  -- "the place being the lowest such tree index": the bytes count at the chunk's leaf
  unfoldable pub contradiction : Copy → List ℕ → ℕ → Lowest
  contradiction c p i =
      lower_of (index_if (bytes_contradicted c.bitfield c.content i (packet_start p c.n i) (packet_chunk p)) (index 0 i))
      (least_of (map (contradicts c.tree c.bitfield) (brought p c.n i)))

  -- 2, 4, 5 and 6, which is passed over while a root is unknown; the packet's 9, 12 and 13; "A packet total other than the data size gives 6, judged after
  -- 13. It refuses with 19, after that 6"
  unfoldable pub take_verdict : Copy → List ℕ → ℕ → List ℕ → Verdict
  take_verdict c p i root =
      partly_judged c
      (and_then (packet_verdict F p c.n i root)
      (judged (record { number = 6; right = eqb (packet_total p c.n i) c.size } ∷ [])
      (refused_at 19 tree (contradiction c p i) done)))

  -- the copy that has taken in the packet of chunk i
  unfoldable pub taken_in : Copy → List ℕ → ℕ → Copy
  taken_in c p i =
      record {
        tree = with_given c.tree (brought p c.n i);
        bitfield = held_again (with_known c.bitfield (brought p c.n i)) i;
        content = put c.content (packet_start p c.n i) (packet_chunk p);
        n = c.n;
        size = c.size;
      }

  unfoldable pub after_taking : Copy → List ℕ → ℕ → List ℕ → Files
  after_taking c p i root = unless_refused (take_verdict c p i root) (files_of (taken_in c p i)) (files_of c)
