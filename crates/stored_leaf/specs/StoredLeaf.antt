-- The entry of a chunk's leaf as it is stored: hash and length, at tree index 2k. Nothing is audited: no hash is made and no length judged, so of a register
-- that was not audited the entry is what stands there. Of a released chunk it is there as of a held one.
use Rattle.std.specs.Prelude.{ℕ, Bool, cond, List, [], ◌∷◌, ltb}
use Rattle.answer_types.specs.Verdict.{Verdict, tree, done, refused, unless_refused, and_then}
use Rattle.tree_index.specs.Tree.{index}
use Rattle.file_format.specs.Stored.{stored_hash, stored_size}
use Rattle.file_format.specs.Belongs.{Register}
use Rattle.checks.specs.Checks.{judged, register_checks}
use Rattle.lookup.specs.Descent.{always}

-- behind the checks of a call: "9. The chunk number is not below n"; then, of a copy, "20 another call on such a copy that would read an unknown entry, which
-- is the place"
unfoldable pub leaf_in : (ℕ → Bool) → ℕ → ℕ → Verdict
leaf_in known n k =
    judged (record { number = 9; right = ltb k n } ∷ []) (cond (known (index 0 k)) done (refused 20 (tree (index 0 k))))

-- the checks 2 to 6, and then 9: in a register every entry is known
unfoldable pub leaf_verdict : Register → ℕ → Verdict
leaf_verdict r k = and_then (judged (register_checks r) done) (leaf_in always r.n k)

-- what a call with this verdict leaves in the 32 bytes lent for the hash, and the length that it tells, which is 0 after a refusal
module _ (v : Verdict) (t : List ℕ) (k : ℕ) where
  unfoldable pub leaf_hash : List ℕ → List ℕ
  leaf_hash out = unless_refused v (stored_hash t (index 0 k)) out

  unfoldable pub leaf_length : ℕ
  leaf_length = unless_refused v (stored_size t (index 0 k)) 0
