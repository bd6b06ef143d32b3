-- An append: "adds one chunk, writes the leaf, every completed parent and the new hole, if any, sets the bits, regenerates the Index of
-- the new chunk's bitfield entry (zeroed first if it is new), and answers the new root hash".
use Rattle.std.specs.Prelude.{ℕ, zero, suc, ◌+◌, ◌-◌, ◌*◌, ◌/◌, ◌^◌, cond, List, [], ◌∷◌, ◌++◌, length, leb, ltb, eqb}
use Rattle.answer_types.specs.Verdict.{Verdict, done, refused, unless_refused}
use Rattle.byte_strings.specs.Lists.{put, zeros}
use Rattle.tree_index.specs.Tree.{index, filled, completed, filled_by}
use Rattle.bitfield.specs.Append.{appended}
use Rattle.file_format.specs.Sizes.{most_chunks, longest_chunk, entry_place, used_tree, used_bitfield}
use Rattle.file_format.specs.Entries.{Entry, entry_bytes, leaf, parent_of}
use Rattle.file_format.specs.Stored.{stored_hash, stored_size, stored_root_message}
use Rattle.file_format.specs.Belongs.{Buffers, Register, buffers_of}
use Rattle.checks.specs.Checks.{Check, judged, later_checks, holds}

-- the numbers behind 6: 7, 8, and 14 for the buffers that are written: the tree with the new entries, the bitfield, the data with the chunk
unfoldable pub own_checks : Register → List ℕ → List Check
own_checks r chunk =
    record { number = 7; right = leb (length chunk) longest_chunk }
    ∷ record { number = 8; right = eqb r.s r.n }
    ∷ record { number = 14; right = holds r.tree (used_tree (r.n + 1)) }
    ∷ record { number = 14; right = holds r.bitfield (used_bitfield (r.n + 1)) }
    ∷ record { number = 14; right = holds r.content (r.size + length chunk) } ∷ []

-- "2. .. or an append finds n at 1,048,576", then 3 to 6, then its own
unfoldable pub append_checks : Register → List ℕ → List Check
append_checks r chunk = record { number = 2; right = ltb r.n most_chunks } ∷ (later_checks r ++ own_checks r chunk)

unfoldable pub append_verdict : Register → List ℕ → Verdict
append_verdict r chunk = judged (append_checks r chunk) done

-- the entry stored at tree index i
unfoldable pub stored_entry : List ℕ → ℕ → Entry
stored_entry tree i = record { hash = stored_hash tree i; size = stored_size tree i }

-- the left sibling, at depth d, of the block that the chunk n completes there
unfoldable pub sibling : ℕ → ℕ → ℕ
sibling n d = index d ((n + 1) / 2 ^ d - 2)

-- the new hole, if any: the entry 2n − 1 is new, and a hole where the chunk n does not fill it
unfoldable pub with_hole : List ℕ → ℕ → List ℕ
with_hole tree n = cond (filled (n + 1) (2 * n - 1)) tree (put tree (entry_place (2 * n - 1)) (zeros 40))

-- entries put at tree indexes
unfoldable pub with_entries : List ℕ → List ℕ → List Entry → List ℕ
with_entries tree [] es = tree
with_entries tree (i ∷ is) [] = tree
with_entries tree (i ∷ is) (e ∷ es) = with_entries (put tree (entry_place i) (entry_bytes e)) is es

module _ (F : List ℕ → List ℕ) where
  -- the entry e at depth d, and the k parents above it that the chunk n completes
  unfoldable pub climb : List ℕ → ℕ → ℕ → ℕ → Entry → List Entry
  climb tree n d zero e = e ∷ []
  climb tree n d (suc k) e = e ∷ climb tree n (d + 1) k (parent_of F (stored_entry tree (sibling n d)) e)

  -- the new entries, in the order of `filled_by n`
  unfoldable pub new_entries : List ℕ → ℕ → List ℕ → List Entry
  new_entries tree n chunk = climb tree n 0 (completed n) (leaf F chunk)

  -- the tree file with the chunk n appended
  unfoldable pub appended_tree : List ℕ → ℕ → List ℕ → List ℕ
  appended_tree tree n chunk = with_entries (with_hole tree n) (filled_by n) (new_entries tree n chunk)

  -- the register after one append
  unfoldable pub appended_register : Register → List ℕ → Register
  appended_register r chunk =
      record {
        tree = appended_tree r.tree r.n chunk;
        signatures = r.signatures;
        bitfield = appended r.bitfield r.n;
        content = put r.content r.size chunk;
        n = r.n + 1;
        s = r.s;
        size = r.size + length chunk;
      }

  -- the new root hash; zeros after a refusal
  abbrev pub root_unless_refused : Verdict → Register → List ℕ
  root_unless_refused done r = F (stored_root_message r.tree r.n)
  root_unless_refused (refused m at) r = zeros 32

  unfoldable pub append_root : Register → List ℕ → List ℕ
  append_root r chunk = root_unless_refused (append_verdict r chunk) (appended_register r chunk)

  unfoldable pub after_append : Register → List ℕ → Buffers
  after_append r chunk = unless_refused (append_verdict r chunk) (buffers_of (appended_register r chunk)) (buffers_of r)
