-- Which failure an answer names: the first check that is not passed, the lowest wrong entry or byte, and which of two registers.
--
-- The notions in it: `Check`, `judged` and `register_checks` (checks, Checks), the checks and verdicts of an append and of a signature (writing, Append
-- and Sign), of a list (append_list, Append), of the root hash and of an old one (writing, RootHash; prefix_root, PrefixRoot), `entry_right`, `byte_right` and
-- `audit` (audit, Audit), `IsLowest` (byte_strings, Lowest), `whole_verdict` and `compare` (compare, Walk).
use Rattle.std.specs.Prelude.{ℕ, ◌-◌, ◌<◌, ◌≡◌, ◌↔◌, Bool, true, false, List, length, get_or}
use Rattle.answer_types.specs.Verdict.{Spot, Verdict, none, tree, bitfield, done, refused}
use Rattle.byte_strings.specs.Lowest.{nowhere, first, IsLowest}
use Rattle.tree_index.specs.Tree.{entries}
use Rattle.file_format.specs.Sizes.{used_bitfield}
use Rattle.file_format.specs.Belongs.{Register}
use Rattle.checks.specs.Checks.{Check, judged, register_checks}
use Rattle.writing.specs.Append.{append_checks, append_verdict}
use Rattle.writing.specs.Sign.{sign_checks, sign_verdict}
use Rattle.writing.specs.RootHash.{root_verdict}
use Rattle.append_list.specs.Append.{append_list_checks, list_verdict}
use Rattle.prefix_root.specs.PrefixRoot.{prefix_verdict}
use Rattle.audit.specs.Audit.{entry_right, audit, byte_right}
use Rattle.compare.specs.Walk.{first_refused, second_refused, whole_verdict, compare}

-- ---- "Checks apply to what the call is given, in this order."

-- a check beyond the last
abbrev pub beyond : Check
beyond = record { number = 0; right = true }

abbrev pub passes : List Check → ℕ → Bool
passes cs k = (get_or cs k beyond).right

-- the answer is the number of the first check that is not passed, with no place
pub record FirstFails (cs : List Check) (v : Verdict) : Type 0 where
  pub first : (k : ℕ) → k < length cs → ((j : ℕ) → j < k → passes cs j ≡ true) → passes cs k ≡ false → v ≡ refused (get_or cs k beyond).number none
  pub none : ((j : ℕ) → j < length cs → passes cs j ≡ true) → v ≡ done

pub record FirstFailsOfCalls : Type 0 where
  pub append : (r : Register) (chunk : List ℕ) → FirstFails (append_checks r chunk) (append_verdict r chunk)
  pub sign : (r : Register) → FirstFails (sign_checks r) (sign_verdict r)
  pub list : (r : Register) (lengths bytes : List ℕ) → FirstFails (append_list_checks r lengths bytes) (list_verdict r lengths bytes)
  -- what refuses the root hash refuses each old one in the same way
  pub old : (r : Register) (m k : ℕ) (at : Spot) → root_verdict r ≡ refused k at → prefix_verdict r m ≡ refused k at

-- ---- "10. .. the audit finds a wrong tree entry; the place is the tree index, the lowest for the audit", and "11. The audit finds a wrong bitfield byte; the place is
-- the lowest."

module _ (F : List ℕ → List ℕ) (r : Register) where
  abbrev pub entry : ℕ → Bool
  entry = entry_right F r.tree r.bitfield r.content r.n r.size

  abbrev pub byte : ℕ → Bool
  byte = byte_right r.bitfield r.n

  pub record AuditNames : Type 0 where
    pub ten : (i : ℕ) → (audit F r ≡ refused 10 (tree i)) ↔ IsLowest entry 0 (entries r.n) (first i)
    pub eleven : (b : ℕ) → (audit F r ≡ refused 11 (bitfield b)) ↔ (IsLowest entry 0 (entries r.n) nowhere × IsLowest byte 32 (used_bitfield r.n - 32) (first b))

-- of every register that passes 2 to 6, for every F
abbrev pub AuditNamesForAll : Type 0
AuditNamesForAll = (F : List ℕ → List ℕ) (r : Register) → judged (register_checks r) done ≡ done → AuditNames F r

-- ---- "The comparing walk audits the first register, then the second, and a refusal says which"

pub record CompareNames (F : List ℕ → List ℕ) (a b : Register) : Type 0 where
  pub first : (m : ℕ) (at : Spot) → whole_verdict F a ≡ refused m at → compare F a b ≡ first_refused m at
  pub second : (m : ℕ) (at : Spot) → whole_verdict F a ≡ done → whole_verdict F b ≡ refused m at → compare F a b ≡ second_refused m at

abbrev pub CompareNamesForAll : Type 0
CompareNamesForAll = (F : List ℕ → List ℕ) (a b : Register) → CompareNames F a b
