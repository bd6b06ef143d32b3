-- The check of a packet: "takes packet, n, i and root hash; it answers the chunk's part of the packet unless 2, 9, 12 or 13 holds".
use Rattle.std.specs.Prelude.{ℕ, zero, suc, ◌+◌, ◌*◌, ◌/◌, ◌%◌, Bool, ◌&&◌, List, [], ◌∷◌, ◌++◌, map, length, get_or, take, drop, leb, ltb, eqb}
use Rattle.answer_types.specs.Verdict.{Verdict, done, unless_refused}
use Rattle.byte_strings.specs.Lists.{part, run, total, same_list}
use Rattle.byte_strings.specs.Numbers.{number}
use Rattle.tree_index.specs.Tree.{index, roots}
use Rattle.file_format.specs.Sizes.{longest_chunk}
use Rattle.file_format.specs.Messages.{leaf_message, parent_message, root_item, root_message}
use Rattle.file_format.specs.Entries.{Entry, leaf, parent_of}
use Rattle.checks.specs.Checks.{judged, count_right}
use Rattle.packet.specs.Packet.{place_above, siblings, other_roots}

-- the chunk's length as the packet gives it, and where its parts begin
unfoldable pub chunk_length : List ℕ → ℕ
chunk_length p = number (part p 0 4)

unfoldable pub siblings_place : List ℕ → ℕ
siblings_place p = 4 + chunk_length p

unfoldable pub others_place : List ℕ → ℕ → ℕ → ℕ
others_place p n c = siblings_place p + 1 + 40 * length (siblings n c)

unfoldable pub whole_length : List ℕ → ℕ → ℕ → ℕ
whole_length p n c = others_place p n c + 1 + 40 * length (other_roots n c)

-- "12. The packet's counts aren't those of n and i, its chunk is over 65,536, or bytes lack or remain."
unfoldable pub shape_right : List ℕ → ℕ → ℕ → Bool
shape_right p n c =
    leb 4 (length p)
    && (leb (chunk_length p) longest_chunk
    && (eqb (length p) (whole_length p n c)
    && (eqb (get_or p (siblings_place p) 0) (length (siblings n c)) && eqb (get_or p (others_place p n c) 0) (length (other_roots n c)))))

-- the chunk's part of the packet
unfoldable pub packet_chunk : List ℕ → List ℕ
packet_chunk p = part p 4 (chunk_length p)

-- the entry in the 40 bytes at a place
unfoldable pub entry_in : List ℕ → ℕ → Entry
entry_in p at = record { hash = part p at 32; size = number (part p (at + 32) 8) }

-- k entries from a place on
unfoldable pub entries_in : List ℕ → ℕ → ℕ → List Entry
entries_in p at k = run (λ j. entry_in p (at + 40 * j)) 0 k

unfoldable pub sibling_entries : List ℕ → ℕ → ℕ → List Entry
sibling_entries p n c = entries_in p (siblings_place p + 1) (length (siblings n c))

unfoldable pub other_entries : List ℕ → ℕ → ℕ → List Entry
other_entries p n c = entries_in p (others_place p n c + 1) (length (other_roots n c))

-- the sum of all lengths in the packet: the chunk's, the siblings', the other roots'
unfoldable pub packet_total : List ℕ → ℕ → ℕ → ℕ
packet_total p n c =
    chunk_length p
    + (total (map (λ (e : Entry). e.size) (sibling_entries p n c)) + total (map (λ (e : Entry). e.size) (other_entries p n c)))

-- the entry of a block and that of the block beside it, in their order: the block k is the left one where k is even
unfoldable pub ordered : {A : Type 0} → ℕ → (Entry → Entry → A) → Entry → Entry → A
ordered k f e s = elim (k % 2) [ zero ↦ f e s | suc b ↦ f s e ]

-- the entry x in its turn among the others: at place k
unfoldable pub in_turn : ℕ → Entry → List Entry → List Entry
in_turn k x es = take k es ++ (x ∷ drop k es)

-- the root items of roots and their entries
unfoldable pub items : List ℕ → List Entry → List (List ℕ)
items [] es = []
items (i ∷ is) [] = []
items (i ∷ is) (e ∷ es) = root_item e.hash i e.size ∷ items is es

-- what is hashed on the way from the leaf up to the root: tree index, message, and the entry that it gives
pub record Step : Type 0 where
  pub at : ℕ
  pub message : List ℕ
  pub entry : Entry

-- the message of the parent of two nodes
abbrev pub parent_message_of : Entry → Entry → List ℕ
parent_message_of l r = parent_message (l.size + r.size) l.hash r.hash

-- the entry of the last step: the root above the chunk
unfoldable pub last_entry : Entry → List Step → Entry
last_entry e [] = e
last_entry e (s ∷ ss) = last_entry s.entry ss

module _ (F : List ℕ → List ℕ) where
  -- the steps above the block k of 2^d chunks, whose entry is e, by its siblings
  unfoldable pub steps_above : ℕ → ℕ → Entry → List Entry → List Step
  steps_above d k e [] = []
  steps_above d k e (s ∷ ss) =
      record {
        at = index (d + 1) (k / 2);
        message = ordered k parent_message_of e s;
        entry = ordered k (parent_of F) e s;
      }
      ∷ steps_above (d + 1) (k / 2) (ordered k (parent_of F) e s) ss

  -- all steps, from the leaf of chunk c upward
  unfoldable pub steps : List ℕ → ℕ → ℕ → List Step
  steps p n c =
      record { at = index 0 c; message = leaf_message (packet_chunk p); entry = leaf F (packet_chunk p) }
      ∷ steps_above 0 c (leaf F (packet_chunk p)) (sibling_entries p n c)

  unfoldable pub packet_root : List ℕ → ℕ → ℕ → Entry
  packet_root p n c = last_entry (leaf F (packet_chunk p)) (steps p n c)

  -- the root message that the packet gives
  unfoldable pub packet_root_message : List ℕ → ℕ → ℕ → List ℕ
  packet_root_message p n c =
      root_message (items (roots n) (in_turn (place_above (roots n) c) (packet_root p n c) (other_entries p n c)))

  -- "13. The packet's lengths add up to over 68,719,476,736, or its root hash is another."
  unfoldable pub root_right : List ℕ → ℕ → ℕ → List ℕ → Bool
  root_right p n c root =
      leb (packet_total p n c) 68719476736 && same_list (F (packet_root_message p n c)) root

  unfoldable pub packet_verdict : List ℕ → ℕ → ℕ → List ℕ → Verdict
  packet_verdict p n c root =
      judged
      (record { number = 2; right = count_right n } ∷ record { number = 9; right = ltb c n }
      ∷ record { number = 12; right = shape_right p n c }
      ∷ record { number = 13; right = root_right p n c root } ∷ [])
      done

  -- the chunk's part of the packet; nothing after a refusal
  unfoldable pub checked_chunk : List ℕ → ℕ → ℕ → List ℕ → List ℕ
  checked_chunk p n c root = unless_refused (packet_verdict p n c root) (packet_chunk p) []
