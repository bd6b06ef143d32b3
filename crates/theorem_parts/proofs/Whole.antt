-- Parts that cover the files give what the whole call gives. Assumes nothing.
use Prim.Native.Nat.{ℕ, ◌-◌}
use mathlib.Core.Path.{◌≡◌, refl, sym, ap, ap₂, ◌∙◌}
use mathlib.Core.Bool.{Bool, true, false, cond}
use mathlib.Core.List.{List, [], ◌∷◌, map}
use native.Mathlib.Omega.{arith}
use borrow.Author.Tests.{eq-eqb}
use lib.Dec.{ltb, eqb}
use Rattle.answer_types.specs.Verdict.{Verdict, tree, bitfield, done, refused, and_then}
use Rattle.byte_strings.specs.Lowest.{Lowest, nowhere, first, lowest}
use Rattle.tree_index.specs.Tree.{entries}
use Rattle.file_format.specs.Belongs.{Register}
use Rattle.checks.specs.Checks.{judged, register_checks}
use Rattle.checks.proofs.Passed.{Passed, passes, passed}
use Rattle.audit.specs.Audit.{entry_right, wrong_entry, wrong_byte, refused_at, images_verdict, audit, Accepted, byte_right}
use Rattle.audit.proofs.Search.{judged_then}
use Rattle.compare.specs.Walk.{Comparison, first_refused, second_refused, roots_differ, at_roots, at_index, equal, found, missing, held_then, whole_verdict, unless_refused, unless_told, compare}
use Rattle.compare.proofs.Whole.{at_leaf_lem, held_then_lem, whole_accepted}
use Rattle.compare.proofs.Walked.{free, top, top_count, walked, walk_parts}
use Rattle.copy_checks.specs.Least.{lower_of, least_of}
use Rattle.copy_checks.specs.Checks.{partly_judged}
use Rattle.copy_audit.specs.Audit.{wrong_by, wrong_entry_of_copy, wrong_byte_of_copy, audit_copy, copy_byte_right}
use Rattle.parts_audit.specs.Range.{within}
use Rattle.parts_audit.specs.Part.{tree_part, bitfield_part}
use Rattle.parts_audit.specs.Together.{comes_before, earlier, together}
use Rattle.parts_copy_audit.specs.Part.{copy_tree_part, copy_bitfield_part}
use Rattle.parts_copy_audit.proofs.Laws.{partly_then}
use Rattle.parts_compare.specs.Part.{roots_part, data_of, walked_entries, walk_part}
use Rattle.theorem_parts.specs.Cover.{Part, tree_entries, bitfield_entries, Range, Covers, CoversIndexes}
use Rattle.theorem_parts.specs.Whole.{answer, answer_of_copy, answers, answers_of_copy, named, walked_by, compared_by, AuditInPartsForAll, CopyAuditInPartsForAll, CompareInPartsForAll}
use Rattle.theorem_parts.proofs.Least.{wrong_at, lowest_least}
use Rattle.theorem_parts.proofs.Cut.{free_cut}
use Rattle.theorem_parts.proofs.Covered.{map_same, tree_finds, tree_found, row_finds, row_found, walk_found}

-- ---- answers put together

-- 10, then 11
abbrev both : Lowest → Lowest → Verdict
both l k = refused_at 10 tree l (refused_at 11 bitfield k done)

earlier_both : (l k l' k' : Lowest) → earlier (both l k) (both l' k') ≡ both (lower_of l l') (lower_of k k')
unfolding refused_at earlier comes_before lower_of
earlier_both (first i) k (first j) k' = go (ltb i j)
  where
    go : (b : Bool) → cond b (refused 10 (tree i)) (refused 10 (tree j)) ≡ refused_at 10 tree (cond b (first i) (first j)) (refused_at 11 bitfield (lower_of k k') done)
    go true = refl
    go false = refl
earlier_both (first i) k nowhere nowhere = refl
earlier_both (first i) k nowhere (first y) = refl
earlier_both nowhere nowhere (first j) k' = refl
earlier_both nowhere (first x) (first j) k' = refl
earlier_both nowhere nowhere nowhere k' = refl
earlier_both nowhere (first x) nowhere nowhere = refl
earlier_both nowhere (first x) nowhere (first y) = go (ltb x y)
  where
    go : (b : Bool) → cond b (refused 11 (bitfield x)) (refused 11 (bitfield y)) ≡ refused_at 11 bitfield (cond b (first x) (first y)) done
    go true = refl
    go false = refl

earlier_same : (v : Verdict) → earlier v v ≡ v
unfolding earlier
earlier_same done = refl
earlier_same (refused m at) = go (comes_before m at m at)
  where
    go : (b : Bool) → cond b (refused m at) (refused m at) ≡ refused m at
    go true = refl
    go false = refl

earlier_done : (v : Verdict) → earlier v done ≡ v
unfolding earlier
earlier_done done = refl
earlier_done (refused m at) = refl

module _ (g : Part → Verdict) where
  -- answers that are all the same
  together_same : (v : Verdict) → ((p : Part) → g p ≡ v) → (ps : List Part) → (ps ≡ [] → ⊥) → together (map g ps) ≡ v
  unfolding together
  together_same v h [] s = absurd (s refl)
  together_same v h (p ∷ []) s = earlier_done (g p) ∙ h p
  together_same v h (p ∷ (q ∷ qs)) s =
      ap₂ earlier (h p) (together_same v h (q ∷ qs) (λ e. let z : ◌≡◌ {A = ℕ} 0 1 = cc in omega arith)) ∙ earlier_same v

  module _ (tl bl : Part → Lowest) where
    together_both : ((p : Part) → g p ≡ both (tl p) (bl p)) → (ps : List Part) → together (map g ps) ≡ both (least_of (map tl ps)) (least_of (map bl ps))
    unfolding together least_of refused_at
    together_both h [] = refl
    together_both h (p ∷ ps) =
        ap₂ earlier (h p) (together_both h ps) ∙ earlier_both (tl p) (bl p) (least_of (map tl ps)) (least_of (map bl ps))

    -- the checks, which all parts make, and then what they find
    in_parts : (v : Verdict) → ((p : Part) → g p ≡ and_then v (both (tl p) (bl p))) → (ps : List Part) → (ps ≡ [] → ⊥) → (l k : Lowest)
        → least_of (map tl ps) ≡ l → least_of (map bl ps) ≡ k → together (map g ps) ≡ and_then v (both l k)
    in_parts done h ps s l k e f = together_both h ps ∙ ap₂ both e f
    in_parts (refused m at) h ps s l k e f = together_same (refused m at) h ps s

-- ---- a register

pub audit_in_parts : AuditInPartsForAll
unfolding answers audit images_verdict wrong_entry wrong_byte tree_part bitfield_part refused_at
audit_in_parts F r ps c =
    in_parts (answer F r) (tree_finds r.n ps c (wrong_at right)) (row_finds r.n ps c row_right) (judged (register_checks r) done) each ps c.some _ _
    (tree_found r.n ps c (wrong_at right) ∙ sym (lowest_least right 0 (entries r.n))) (row_found r.n ps c row_right)
    ∙ sym (judged_then (register_checks r) (images_verdict F r))
  where
    right : ℕ → Bool
    right = entry_right F r.tree r.bitfield r.content r.n r.size

    row_right : ℕ → Bool
    row_right = byte_right r.bitfield r.n

    each : (p : Part) → answer F r p ≡ and_then (judged (register_checks r) done) (both (tree_finds r.n ps c (wrong_at right) p) (row_finds r.n ps c row_right p))
    each (tree_entries a b) =
        judged_then (register_checks r) (refused_at 10 tree (lowest right a (within (entries r.n) a b)) done)
        ∙ ap (λ (l : Lowest). and_then (judged (register_checks r) done) (refused_at 10 tree l done)) (lowest_least right a (within (entries r.n) a b))
    each (bitfield_entries a b) = judged_then (register_checks r) _

-- ---- a copy

pub copy_audit_in_parts : CopyAuditInPartsForAll
unfolding answers_of_copy audit_copy wrong_entry_of_copy wrong_byte_of_copy copy_tree_part copy_bitfield_part refused_at
copy_audit_in_parts F c ps k =
    in_parts (answer_of_copy F c) (tree_finds c.n ps k (wrong_by F c)) (row_finds c.n ps k row_right) (partly_judged c done) each ps k.some _ _
    (tree_found c.n ps k (wrong_by F c)) (row_found c.n ps k row_right)
    ∙ sym (partly_then c (both (wrong_entry_of_copy F c) (wrong_byte_of_copy c)))
  where
    row_right : ℕ → Bool
    row_right = copy_byte_right c.bitfield c.n

    each : (p : Part) → answer_of_copy F c p ≡ and_then (partly_judged c done) (both (tree_finds c.n ps k (wrong_by F c) p) (row_finds c.n ps k row_right p))
    each (tree_entries a b) = partly_then c _
    each (bitfield_entries a b) = partly_then c _

-- ---- two registers

-- one of them: its checks and 18, then its parts
whole_in_parts : (F : List ℕ → List ℕ) (r : Register) (ps : List Part) → Covers r.n ps → and_then (held_then r done) (answers F r ps) ≡ whole_verdict F r
unfolding whole_verdict audit
whole_in_parts F r ps c = ap (and_then (held_then r done)) (audit_in_parts F r ps c) ∙ go (held_then r done) refl ∙ sym (held_then_lem r (images_verdict F r))
  where
    go : (v : Verdict) → held_then r done ≡ v → and_then v (judged (register_checks r) (images_verdict F r)) ≡ and_then v (images_verdict F r)
    go done e = passes r (images_verdict F r) (passed r (refused_at 18 at_leaf_lem (missing r) done) e).0
    go (refused m at) e = refl

whole_checked : (F : List ℕ → List ℕ) (r : Register) → whole_verdict F r ≡ done → Passed r
unfolding whole_verdict
whole_checked F r e = (passed r (refused_at 18 at_leaf_lem (missing r) (images_verdict F r)) e).0

-- what comes behind both matters only where both pass
pass_same : (u v : Verdict) (x y : Comparison) → (u ≡ done → v ≡ done → x ≡ y) → unless_refused u v x ≡ unless_refused u v y
pass_same done done x y h = h refl refl
pass_same done (refused m at) x y h = refl
pass_same (refused m at) v x y h = refl

-- and what comes behind the roots only where they say "equal"
told_same : (t x y : Comparison) → (equal ≡ t → x ≡ y) → unless_told t x ≡ unless_told t y
told_same equal x y h = h refl
told_same roots_differ x y h = refl
told_same at_roots x y h = refl
told_same (at_index i) x y h = refl
told_same (first_refused m at) x y h = refl
told_same (second_refused m at) x y h = refl

named_found : (l : Lowest) → named (found l) ≡ l
named_found nowhere = refl
named_found (first i) = refl

module _ (F : List ℕ → List ℕ) (a b : Register) (p : Passed a) (q : Passed b) (u : Accepted F a) (v : Accepted F b) where
  checked : (next : Comparison) → unless_refused (judged (register_checks a) done) (judged (register_checks b) done) next ≡ next
  checked next = ap₂ (λ (u v : Verdict). unless_refused u v next) (passes a done p) (passes b done q)

  no_collision : ℕ → Bool
  no_collision = free a.tree a.content b.tree b.content a.n

  -- as the parts look for it
  in_used : ℕ → Bool
  in_used = free a.tree (data_of a) b.tree (data_of b) a.n

  roots_are : roots_part F a b ≡ top F a.tree b.tree a.n b.n equal
  unfolding roots_part
  roots_are = checked _

  module _ (rs : List Range) (c : CoversIndexes a.n rs) where
    walked_in_parts : a.n ≡ b.n → walked_by a b rs ≡ found (lowest no_collision 0 (entries a.n))
    unfolding walked_by walk_part no_collision in_used
    walked_in_parts s =
        ap (λ (ls : List Lowest). found (least_of ls))
        (map_same (λ (r : Range). named (walk_part a b r.from r.to)) (λ r. lowest in_used r.from (within (entries a.n) r.from r.to)) each rs)
        ∙ ap found (walk_found a.n rs c in_used ∙ free_cut F a b u v s 0 (entries a.n))
      where
        each : (r : Range) → named (walk_part a b r.from r.to) ≡ lowest in_used r.from (within (entries a.n) r.from r.to)
        each r =
            ap named (checked (found (lowest in_used r.from (within (walked_entries a b) r.from r.to))))
            ∙ named_found (lowest in_used r.from (within (walked_entries a b) r.from r.to))
            ∙ ap (λ (t : Bool). lowest in_used r.from (within (cond t (entries a.n) 0) r.from r.to)) (eq-eqb a.n b.n s)

    behind_checks : unless_told (roots_part F a b) (walked_by a b rs) ≡ walked F a.tree a.content b.tree b.content a.n b.n
    unfolding no_collision
    behind_checks =
        ap (λ (t : Comparison). unless_told t (walked_by a b rs)) roots_are
        ∙ told_same (top F a.tree b.tree a.n b.n equal) (walked_by a b rs) (found (lowest no_collision 0 (entries a.n)))
        (λ e.
        walked_in_parts
        (top_count F a.tree b.tree a.n b.n (record { count = p.count; inside = p.tree }) (record { count = q.count; inside = q.tree }) e))
        ∙ sym (walk_parts F a.tree a.content b.tree b.content a.n b.n)

pub compare_in_parts : CompareInPartsForAll
unfolding compared_by compare
compare_in_parts F a b ps qs rs c d e =
    ap₂ (λ (u v : Verdict). unless_refused u v (unless_told (roots_part F a b) (walked_by a b rs))) (whole_in_parts F a ps c) (whole_in_parts F b qs d)
    ∙ pass_same (whole_verdict F a) (whole_verdict F b) (unless_told (roots_part F a b) (walked_by a b rs)) (walked F a.tree a.content b.tree b.content a.n b.n)
    (λ u v. behind_checks F a b (whole_checked F a u) (whole_checked F b v) (whole_accepted F a u) (whole_accepted F b v) rs e)
