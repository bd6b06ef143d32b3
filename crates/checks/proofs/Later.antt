-- The checks 3 to 6 number by number. Assumes nothing.
use mathlib.Core.Path.{◌≡◌, refl, ap}
use mathlib.Core.Bool.{Bool, true, false, cond, ◌&&◌}
use Rattle.answer_types.specs.Verdict.{Verdict, none, refused}
use Rattle.file_format.specs.Headers.{tree_header, signatures_header, bitfield_header}
use Rattle.file_format.specs.Sizes.{used_tree, used_signatures, used_bitfield}
use Rattle.file_format.specs.Belongs.{Register}
use Rattle.checks.specs.Checks.{judged, signed_right, holds, headed, adds_up, later_checks}
use Rattle.checks.specs.Lent.{long_right, heads_right}

-- 3, 4, 5 and 6 as four tests
abbrev pub ladder : Bool → Bool → Bool → Bool → Verdict → Verdict
ladder a b c d next = cond a (cond b (cond c (cond d next (refused 6 none)) (refused 5 none)) (refused 4 none)) (refused 3 none)

four : (b₁ b₂ b₃ b₄ c₁ c₂ c₃ : Bool) (v : Verdict)
    → cond b₁ (cond b₂ (cond b₃ (cond b₄ (cond c₁ (cond c₂ (cond c₃ v (refused 5 none)) (refused 5 none)) (refused 5 none)) (refused 4 none)) (refused 4 none)) (refused 4 none)) (refused 4 none)
    ≡ cond (b₁ && (b₂ && (b₃ && b₄))) (cond (c₁ && (c₂ && c₃)) v (refused 5 none)) (refused 4 none)
four false b₂ b₃ b₄ c₁ c₂ c₃ v = refl
four true false b₃ b₄ c₁ c₂ c₃ v = refl
four true true false b₄ c₁ c₂ c₃ v = refl
four true true true false c₁ c₂ c₃ v = refl
four true true true true false c₂ c₃ v = refl
four true true true true true false c₃ v = refl
four true true true true true true c₃ v = refl

pub by_number : (r : Register) (next : Verdict)
    → judged (later_checks r) next
    ≡ ladder (signed_right r.n r.s) (long_right r) (heads_right r.tree r.signatures r.bitfield) (adds_up r.tree r.n r.size) next
unfolding judged later_checks long_right heads_right
by_number r next =
    ap (λ (v : Verdict). cond (signed_right r.n r.s) v (refused 3 none))
    (four (holds r.tree (used_tree r.n)) (holds r.signatures (used_signatures r.s)) (holds r.bitfield (used_bitfield r.n))
    (holds r.content r.size) (headed r.tree tree_header) (headed r.signatures signatures_header) (headed r.bitfield bitfield_header)
    (cond (adds_up r.tree r.n r.size) next (refused 6 none)))
