-- Rows of entries, as the code goes through them, and what its inner functions require and ensure.
use Rattle.std.specs.Prelude.{ℕ, ◌+◌, ◌*◌, ◌/◌, ◌^◌, ◌≤◌, ◌<◌, ◌≡◌, List, length, get_or}
use Rattle.byte_strings.specs.Lists.{run, total}
use Rattle.tree_index.specs.Tree.{index}
use Rattle.tree_index.specs.Numbers.{numbers}
use Rattle.bitfield.specs.Append.{bits_place}
use Rattle.file_format.specs.Sizes.{used_tree, used_bitfield}
use Rattle.blake2b.specs.Hash.{node_hash}
use Rattle.file_format.specs.Entries.{entry_bytes, leaf}
use Rattle.file_format.specs.Inner.{EntryIn}
use Rattle.file_format.specs.RootsByValue.{padded}
use Rattle.packet.specs.Packet.{siblings, other_roots}
use Rattle.packet.specs.Check.{packet_chunk, entry_in, sibling_entries, packet_total, steps_above}
use Rattle.packet.specs.Inner.{RowIn, sizes_in, path_row, Shaped}
use Rattle.copy_take_in.specs.TakeIn.{Given, packet_start, with_given, with_known}
use Rattle.copy_take_in.specs.declared.way.Way.{Way}

-- the entry that lies at a place of a row, at a tree index
abbrev pub lies : List ℕ → ℕ → ℕ → Given
lies row at i = record { at = i; entry = entry_in row at }

-- the entries of a row from a place on, at the first k of the indexes is
unfoldable pub row_given : List ℕ → ℕ → List ℕ → ℕ → List Given
row_given row at is k = run (λ j. lies row (at + 40 * j) (get_or is j 0)) 0 k

-- a tree entry and its bit lie within the files
pub record KnowableIn (t bits : List ℕ) (i : ℕ) : Type 0 where
  pub entry : EntryIn t i
  pub bit : bits_place (i / 16384 + 1) ≤ length bits

-- the entries of a row, and those in the files that they stand for
pub record RowFor (t bits row : List ℕ) (at : ℕ) (is : List ℕ) (k : ℕ) : Type 0 where
  pub inside : RowIn row at k
  pub each : (j : ℕ) → j < k → KnowableIn t bits (get_or is j 0)

-- both files after given entries were written
pub record WithGiven (t bits : List ℕ) (gs : List Given) (t' bits' : List ℕ) : Type 0 where
  pub tree : t' ≡ with_given t gs
  pub bitfield : bits' ≡ with_known bits gs

-- lengths of a row that may be added to a sum
pub record Addable (row : List ℕ) (at k from : ℕ) : Type 0 where
  pub inside : RowIn row at k
  pub sum : from + total (sizes_in row at k) ≤ 68719476736

-- the parents on the way up from chunk c, in the first k depths above its leaf
unfoldable pub above_row : ℕ → ℕ → List ℕ
above_row c k = run (λ h. index (h + 1) (c / 2 ^ (h + 1))) 0 k

-- the way of chunk c as the code holds it: parents, siblings and other roots
pub record WayOf (n c : ℕ) (w : Way) : Type 0 where
  pub up : w.up ≡ length (siblings n c)
  pub above : numbers w.above ≡ padded 0 (length (siblings n c)) (above_row c (length (siblings n c)))
  pub beside : numbers w.beside ≡ padded 0 (length (siblings n c)) (siblings n c)
  pub others : w.others ≡ length (other_roots n c)
  pub roots : numbers w.roots ≡ padded 0 (length (other_roots n c)) (other_roots n c)

-- a packet that passed the check
pub record Fits (p : List ℕ) (n c : ℕ) : Type 0 where
  pub shaped : Shaped p n c
  pub small : packet_total p n c ≤ 68719476736

-- and files with room for what it brings
pub record Room (t bits content p : List ℕ) (n c : ℕ) : Type 0 where
  pub packet : Fits p n c
  pub nodes : used_tree n ≤ length t
  pub field : used_bitfield n ≤ length bits
  pub bytes : packet_total p n c ≤ length content

-- bytes of chunk c at a start
pub record Held (bits content : List ℕ) (c start : ℕ) (bytes : List ℕ) : Type 0 where
  pub small : c < 2097152
  pub bit : bits_place (c / 8192 + 1) ≤ length bits
  pub inside : start + length bytes ≤ length content

-- what the packet of chunk c leads to: a row of the leaf, and a row of the parents on the way
pub record LedRows (p : List ℕ) (n c : ℕ) (row path : List ℕ) : Type 0 where
  pub own : row ≡ entry_bytes (leaf node_hash (packet_chunk p))
  pub upward : path ≡ path_row (steps_above node_hash 0 c (leaf node_hash (packet_chunk p)) (sibling_entries p n c))

-- all that is known when a packet is compared and written
pub record Ready (t bits content p : List ℕ) (n c : ℕ) (w : Way) (start : ℕ) (row path : List ℕ) : Type 0 where
  pub room : Room t bits content p n c
  pub way : WayOf n c w
  pub begins : start ≡ packet_start p n c
  pub led : LedRows p n c row path
