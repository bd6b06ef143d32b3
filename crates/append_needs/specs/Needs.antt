-- "From n, the data size and a list of 0 to 256 chunk lengths, give the four file sizes afterwards, each signature counted, and the number of
-- compression runs of BLAKE2b for new leaves, completed parents and the final root hash."
use Rattle.std.specs.Prelude.{ℕ, ◌+◌, ◌*◌, List, [], ◌∷◌, map, length, leb}
use Rattle.answer_types.specs.Verdict.{Verdict, done, unless_refused}
use Rattle.byte_strings.specs.Lists.{run, total}
use Rattle.tree_index.specs.Tree.{completed, roots}
use Rattle.blake2b.specs.Hash.{blocks}
use Rattle.file_format.specs.Sizes.{most_chunks, longest_chunk, used_tree, used_signatures, used_bitfield}
use Rattle.checks.specs.Checks.{Check, judged}
use Rattle.checks.specs.Lengths.{most_listed, all_short}

-- the four sizes, and the three counts
pub record Need : Type 0 where
  pub tree : ℕ
  pub signatures : ℕ
  pub bitfield : ℕ
  pub content : ℕ
  pub leaves : ℕ
  pub parents : ℕ
  pub root : ℕ

-- The runs of a message are the blocks of its length. That the messages which the appends hash take as many is said in Theorems.

-- of the leaf of a chunk of l bytes: the type byte, 8 bytes of the length, the chunk
unfoldable pub leaf_runs : ℕ → ℕ
leaf_runs l = blocks (9 + l)

-- of a parent: the type byte, 8 bytes of the sum, two hashes
unfoldable pub parent_runs : ℕ
parent_runs = blocks 73

-- of the root hash of n chunks: the type byte, and for each root a hash, its index and its length
unfoldable pub root_runs : ℕ → ℕ
root_runs n = blocks (1 + 48 * length (roots n))

-- what chunks of the lengths ls behind n others need
unfoldable pub need_of : ℕ → ℕ → List ℕ → Need
need_of n size ls =
    record {
      tree = used_tree (n + length ls);
      signatures = used_signatures (n + length ls);
      bitfield = used_bitfield (n + length ls);
      content = size + total ls;
      leaves = total (map leaf_runs ls);
      parents = total (run (λ i. completed i * parent_runs) n (length ls));
      root = root_runs (n + length ls);
    }

-- "It refuses, in this order, with 2 where n and the list together pass 1,048,576, with 16 a list above 256, with 7 .., with 9 a data size
-- above 65,536 times n."
unfoldable pub need_checks : ℕ → ℕ → List ℕ → List Check
need_checks n size ls =
    record { number = 2; right = leb (n + length ls) most_chunks } ∷ record { number = 16; right = leb (length ls) most_listed }
    ∷ record { number = 7; right = all_short ls } ∷ record { number = 9; right = leb size (longest_chunk * n) } ∷ []

unfoldable pub need_verdict : ℕ → ℕ → List ℕ → Verdict
need_verdict n size ls = judged (need_checks n size ls) done

-- zeros alone
unfoldable pub nothing : Need
nothing = record { tree = 0; signatures = 0; bitfield = 0; content = 0; leaves = 0; parents = 0; root = 0 }

-- what the call gives: zeros after a refusal
unfoldable pub need_given : ℕ → ℕ → List ℕ → Need
need_given n size ls = unless_refused (need_verdict n size ls) (need_of n size ls) nothing
