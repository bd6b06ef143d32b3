-- What an accepted copy is: each parent that is known with its children follows from them, and its bitfield file shows its bits. Assumes nothing.
use Prim.Native.Nat.{ℕ, zero, suc, ◌+◌, ◌-◌, ◌*◌, ◌≤◌, ◌<◌}
use mathlib.Core.Path.{◌≡◌, refl, sym, ap, ap₂, ◌∙◌, subst₂}
use mathlib.Core.Bool.{Bool, true, cond, ◌&&◌}
use mathlib.Core.List.{List, [], ◌++◌}
use native.Mathlib.Nat.{zero-add}
use native.Mathlib.Decide.{dec_lt}
use native.Mathlib.Omega.{arith}
use borrow.Author.Tests.{eqb-true}
use lib.Dec.{eqb}
use lib.ListN.{length, get_or, take, drop, get_or-append}
use lib.Seq.{ext_get_or, get_or-take, length-take-le}
use Rattle.answer_types.specs.Verdict.{Verdict, tree, bitfield, done}
use Rattle.byte_strings.specs.Lowest.{Lowest, nowhere}
use Rattle.byte_strings.proofs.Bools.{where_true}
use Rattle.byte_strings.proofs.Lowest.{nowhere_right}
use Rattle.tree_index.specs.Tree.{index, depth, block, left_child, right_child, filled, entries}
use Rattle.tree_index.proofs.Index.{depth_index, left_child_index, right_child_index}
use Rattle.tree_index.proofs.Filled.{filled_below}
use Rattle.file_format.specs.Headers.{bitfield_header}
use Rattle.file_format.specs.Sizes.{used_bitfield}
use Rattle.file_format.proofs.OfImage.{bitfield_header_length}
use Rattle.audit.specs.Audit.{parent_right, hole_right, held_bits, refused_at, byte_right_by}
use Rattle.audit.proofs.Audited.{at_must, ParentRight, parent_right_lem}
use Rattle.copy_checks.specs.Copy.{Copy, known}
use Rattle.copy_checks.proofs.Least.{least_each}
use Rattle.copy_checks.proofs.Steps.{Lent, partly_passed}
use Rattle.copy_audit.specs.Audit.{wrong_unless, both_known, wrong_by_leaf, wrong_by_parent, wrong_by_known, wrong_by_unknown, wrong_by, wrong_entry_of_copy, known_bits}
use Rattle.copy_audit.specs.Audit.{wrong_byte_of_copy, audit_copy, AcceptedCopy, copy_byte_right}
use Rattle.copy_audit.proofs.Judged.{unless_right}
use Rattle.file_format.proofs.Shown.{shown, shown_used, shown_long, used_shown}
use Rattle.file_format.specs.Images.{bitfield_of}
use Rattle.bitfield.specs.Image.{entries_for}

-- ---- each entry

module _ (F : List ℕ → List ℕ) (c : Copy) (a : AcceptedCopy F c) where
  passed : Lent c × ((wrong_entry_of_copy F c ≡ nowhere) × (wrong_byte_of_copy c ≡ nowhere))
  unfolding audit_copy
  passed =
      let last : Verdict = refused_at 11 bitfield (wrong_byte_of_copy c) done in
      let x = partly_passed c (refused_at 10 tree (wrong_entry_of_copy F c) last) a in
      let y = at_must 10 tree (wrong_entry_of_copy F c) last x.1.1 in
      let z = at_must 11 bitfield (wrong_byte_of_copy c) done y.1 in
      (x.0, (y.0, z.0))

  entry_none : (x : ℕ) → x < entries c.n → wrong_by F c x ≡ nowhere
  unfolding wrong_entry_of_copy
  entry_none x l = ap (wrong_by F c) (sym (zero-add x)) ∙ least_each (wrong_by F c) 0 (entries c.n) passed.1.0 x l

  -- a parent that is known, and its children
  pub parent_follows : (d k : ℕ) → filled c.n (index (suc d) k) ≡ true → known c (index (suc d) k) ≡ true → known c (index d (2 * k)) ≡ true
      → known c (index d (2 * k + 1)) ≡ true
      → ParentRight F c.tree c.content (index (suc d) k) (index d (2 * k)) (index d (2 * k + 1))
  unfolding wrong_by wrong_by_known wrong_by_parent both_known
  parent_follows d k f here left right =
      let x : ℕ = index (suc d) k in
      let judge : ℕ → Lowest = λ e. elim e [ zero ↦ wrong_by_leaf F c (block x) | suc m ↦ wrong_by_parent F c x ] in
      let found : Bool → Bool → Lowest = λ p q. cond p (cond q (judge (depth x)) (wrong_by_unknown F c x)) (wrong_unless (hole_right F c.tree x) x) in
      let none : wrong_by_parent F c x ≡ nowhere =
      sym (ap₂ found f here ∙ ap judge (depth_index (suc d) k)) ∙ entry_none x (filled_below c.n x f) in
      let both : (known c (left_child x) && known c (right_child x)) ≡ true =
      ap₂ (λ (p q : Bool). p && q) (ap (known c) (left_child_index d k) ∙ left) (ap (known c) (right_child_index d k) ∙ right) in
      subst₂ (ParentRight F c.tree c.content x) (left_child_index d k) (right_child_index d k)
      (parent_right_lem F c.tree c.content x
      (where_true (known c (left_child x) && known c (right_child x)) (parent_right F c.tree x) both (unless_right _ x none)))

  -- ---- the bitfield file

  abbrev pub held_of : ℕ → Bool
  held_of = held_bits c.bitfield c.n

  abbrev pub known_of : ℕ → Bool
  known_of = known_bits c.bitfield c.n

  abbrev image : List ℕ
  image = bitfield_header ++ entries_for (held_bits c.bitfield c.n) (known_bits c.bitfield c.n) c.n

  image_is : bitfield_of held_of known_of c.n ≡ image
  unfolding bitfield_of entries_for
  image_is = refl

  image_long : length image ≡ used_bitfield c.n
  image_long =
      ap length (sym (shown_used held_of known_of c.n []))
      ∙ length-take-le (used_bitfield c.n) (shown held_of known_of c.n []) (omega (arith, shown_long held_of known_of c.n []))

  byte_is : (b : ℕ) → 32 ≤ b → b < used_bitfield c.n → get_or c.bitfield b 0 ≡ get_or image b 0
  unfolding wrong_byte_of_copy byte_right_by
  byte_is b l h =
      let j : ℕ = b - 32 in
      let e : 32 + j ≡ b = omega arith in
      eqb-true (get_or c.bitfield b 0) (get_or image b 0)
      (ap (λ (x : List ℕ). eqb (get_or c.bitfield b 0) (get_or x b 0)) (sym image_is)
      ∙ ap (copy_byte_right c.bitfield c.n) (sym e)
      ∙ nowhere_right (copy_byte_right c.bitfield c.n) 32 (used_bitfield c.n - 32) passed.1.1 j (omega arith))

  front_is : (b : ℕ) → b < 32 → get_or c.bitfield b 0 ≡ get_or image b 0
  front_is b l =
      sym (get_or-take 32 c.bitfield b 0 l) ∙ ap (λ (x : List ℕ). get_or x b 0) passed.0.bitfield_front
      ∙ sym (get_or-append bitfield_header _ 0 b (omega (arith, bitfield_header_length)))

  pub bits_shown : c.bitfield ≡ shown held_of known_of c.n (drop (used_bitfield c.n) c.bitfield)
  bits_shown =
      let used : ℕ = used_bitfield c.n in
      let long : length (take used c.bitfield) ≡ used = length-take-le used c.bitfield passed.0.bitfield in
      used_shown c.bitfield held_of known_of c.n
      (ext_get_or 0 (take used c.bitfield) image (long ∙ sym image_long)
      (λ b l. let m : b < used = omega arith in get_or-take used c.bitfield b 0 m ∙ each b m (dec_lt b 32)))
    where
      each : (b : ℕ) → b < used_bitfield c.n → Dec (b < 32) → get_or c.bitfield b 0 ≡ get_or image b 0
      each b m (yes l) = front_is b l
      each b m (no l) = byte_is b (omega arith) m
