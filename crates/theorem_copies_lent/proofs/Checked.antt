-- The checks of a call on a register that is lent as a copy, and its descents. Assumes nothing.
use Prim.Native.Nat.{ℕ, suc, ◌+◌, ◌≤◌, ◌<◌}
use mathlib.Core.Path.{◌≡◌, refl, sym, ap, ◌∙◌, subst}
use mathlib.Core.Bool.{Bool, true, cond}
use mathlib.Core.List.{List, [], ◌∷◌, ◌++◌}
use native.Mathlib.Nat.{mul-one}
use native.Mathlib.Omega.{arith}
use lib.ListN.{length, get_or}
use Rattle.answer_types.specs.Verdict.{Verdict, tree}
use Rattle.byte_strings.specs.Lowest.{Lowest, nowhere, first}
use Rattle.tree_index.specs.Tree.{index, depth, block, filled, roots}
use Rattle.tree_index.proofs.Index.{index_of}
use Rattle.tree_index.proofs.Filled.{end_filled, filled_end, filled_below}
use Rattle.tree_index.proofs.Roots.{root_filled}
use Rattle.file_format.specs.Headers.{tree_header, bitfield_header}
use Rattle.file_format.specs.Sizes.{used_tree, used_bitfield}
use Rattle.file_format.specs.Belongs.{Register}
use Rattle.checks.specs.Checks.{Check, judged, count_right, holds, headed, adds_up, later_checks, register_checks}
use Rattle.checks.proofs.Judged.{judged_append}
use Rattle.audit.specs.Audit.{refused_at}
use Rattle.lookup.specs.Lookup.{to_chunk, to_byte}
use Rattle.lookup.specs.Unknown.{first_unknown}
use Rattle.copy_checks.specs.Copy.{known, lent_as_copy}
use Rattle.copy_checks.specs.Descents.{copy_to_chunk, copy_to_byte}
use Rattle.copy_checks.specs.Checks.{lent_checks, size_check, copy_judged}
use Rattle.copy_checks.proofs.Descents.{chunk_same, byte_same}
use Rattle.theorem_copies_agree.specs.Theorems.{AllKnown}
use Rattle.theorem_copies_agree.proofs.Known.{root_known, chunk_known, byte_known}
use Rattle.theorem_copy_audit.specs.Theorems.{SignaturesPass}

-- a list of entries that are known
listed : (knows : ℕ → Bool) (is : List ℕ) → ((j : ℕ) → j < length is → knows (get_or is j 0) ≡ true) → first_unknown knows is ≡ nowhere
unfolding first_unknown
listed knows [] h = refl
listed knows (i ∷ is) h =
    ap (λ (b : Bool). cond b (first_unknown knows is) (first i)) (h 0 (omega arith)) ∙ listed knows is (λ j l. h (suc j) (omega arith))

module _ (r : Register) (all : AllKnown (lent_as_copy r)) where
  pub to_chunk_lem : (i : ℕ) → copy_to_chunk (lent_as_copy r) i ≡ to_chunk r i
  unfolding to_chunk
  to_chunk_lem i = chunk_same (lent_as_copy r) i (chunk_known (lent_as_copy r) all i)

  pub to_byte_lem : (b : ℕ) → copy_to_byte (lent_as_copy r) b ≡ to_byte r b
  unfolding to_byte
  to_byte_lem b = byte_same (lent_as_copy r) b (byte_known (lent_as_copy r) all b)

  -- the roots of the first chunks are entries of all
  pub roots_known_lem : (m : ℕ) → m ≤ r.n → first_unknown (known (lent_as_copy r)) (roots m) ≡ nowhere
  unfolding AllKnown
  roots_known_lem m h =
      listed (known (lent_as_copy r)) (roots m)
      (λ j l. let x : ℕ = get_or (roots m) j 0 in let f : filled r.n x ≡ true = more x (root_filled m j l) in all x (filled_below r.n x f) f)
    where
      more : (x : ℕ) → filled m x ≡ true → filled r.n x ≡ true
      more x f =
          subst (λ (y : ℕ). filled r.n y ≡ true) (index_of x)
          (end_filled r.n (depth x) (block x)
          (omega (arith, filled_end m (depth x) (block x) (subst (λ (y : ℕ). filled m y ≡ true) (sym (index_of x)) f))))

  -- and so is every leaf
  pub leaf_known : (k : ℕ) → k < r.n → known (lent_as_copy r) (index 0 k) ≡ true
  unfolding AllKnown
  leaf_known k h =
      let f : filled r.n (index 0 k) ≡ true = end_filled r.n 0 k (omega (arith, mul-one (k + 1))) in
      all (index 0 k) (filled_below r.n (index 0 k) f) f

  module _ (g : SignaturesPass r) where
    -- 2 to 6, by the tests that look at the signatures
    by : Bool → Bool → Bool → Verdict → Verdict
    by x y z next =
        judged
        (record { number = 2; right = count_right r.n } ∷ record { number = 3; right = x }
        ∷ record { number = 4; right = holds r.tree (used_tree r.n) }
        ∷ record { number = 4; right = y }
        ∷ record { number = 4; right = holds r.bitfield (used_bitfield r.n) }
        ∷ record { number = 4; right = holds r.content r.size }
        ∷ record { number = 5; right = headed r.tree tree_header }
        ∷ record { number = 5; right = z }
        ∷ record { number = 5; right = headed r.bitfield bitfield_header }
        ∷ record { number = 6; right = adds_up r.tree r.n r.size } ∷ [])
        next

    without : (next : Verdict) → judged (lent_checks (lent_as_copy r)) (judged (size_check (adds_up r.tree r.n r.size)) next) ≡ by true true true next
    unfolding by judged lent_checks
    without next = refl

    pub checks_same : (next : Verdict) → copy_judged (lent_as_copy r) next ≡ judged (register_checks r) next
    unfolding copy_judged refused_at register_checks later_checks by
    checks_same next =
        ap (λ (l : Lowest). judged (lent_checks (lent_as_copy r)) (refused_at 20 tree l (judged (size_check (adds_up r.tree r.n r.size)) next)))
        (root_known (lent_as_copy r) all)
        ∙ without next ∙ sym (λ j. by (g.count j) (g.long j) (g.front j) next)

    -- and the checks of a call behind them
    pub behind_same : (own : List Check) (next : Verdict) → copy_judged (lent_as_copy r) (judged own next) ≡ judged (register_checks r ++ own) next
    behind_same own next = checks_same (judged own next) ∙ sym (judged_append (register_checks r) own next)
