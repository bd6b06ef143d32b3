-- A part as the code makes it. Assumes nothing.
use Rattle.std.specs.Prelude.{Result, Err, ⊤}
use Prim.Native.Nat.{ℕ, ◌+◌, ◌-◌, ◌*◌, ◌≤◌, ◌<◌}
use mathlib.Core.Path.{◌≡◌, refl, sym, ap, ap₂, ◌∙◌}
use mathlib.Core.Bool.{Bool, true, false, cond, ◌&&◌, ◌||◌}
use mathlib.Core.List.{List}
use native.Mathlib.Omega.{arith}
use borrow.Author.Tests.{ltb-true, lt-ltb, le-ltb, eq-eqb, ne_eqb}
use lib.Dec.{ltb, eqb}
use Rattle.answer_types.specs.Verdict.{Spot, Verdict, tree, bitfield, done}
use Rattle.answer_types.specs.Meaning.{said}
use Rattle.answer_types.specs.declared.Refusal.{Refusal}
use Rattle.tree_index.specs.Tree.{entries}
use Rattle.bitfield.specs.Image.{entry_count}
use Rattle.file_format.specs.Belongs.{Register}
use Rattle.checks.specs.Checks.{judged, register_checks}
use Rattle.audit.specs.Audit.{lowest, entry_right, refused_at, byte_right, byte_right_by}
use Rattle.audit.specs.BitfieldEntries.{tree_bits}
use Rattle.audit.proofs.Bytes.{whole_right}
use Rattle.audit.proofs.Whole.{checks_refuse, checks_pass}
use Rattle.parts_audit.specs.Range.{lesser, within}
use Rattle.parts_audit.specs.Part.{tree_part, bitfield_part}
use Rattle.parts_audit.specs.Together.{place_number, comes_before}

-- ---- the ends of ranges

pub lesser_low : (a b : ℕ) → a < b → a ≡ lesser a b
lesser_low a b h = sym (ap (λ (x : Bool). cond x a b) (lt-ltb a b h))

pub lesser_high : (a b : ℕ) → b ≤ a → b ≡ lesser a b
lesser_high a b h = sym (ap (λ (x : Bool). cond x a b) (le-ltb a b h))

pub lesser_most : (a b : ℕ) → lesser a b ≤ b
lesser_most a b = go (ltb a b) refl
  where
    go : (x : Bool) → ltb a b ≡ x → cond x a b ≤ b
    go true e = let l = ltb-true a b e in omega arith
    go false e = omega arith

-- the end of a range that is cut at a count
pub end_most : (end to k n : ℕ) → end ≡ lesser to k → k ≡ n → end ≤ n
end_most end to k n e q = omega (arith, lesser_most to k)

-- ---- which refusal comes before

module _ (m k : ℕ) (at to : Spot) where
  pub before_number : m < k → true ≡ comes_before m at k to
  unfolding comes_before
  before_number h = sym (ap (λ (x : Bool). x || (eqb m k && ltb (place_number at) (place_number to))) (lt-ltb m k h))

  pub before_other : k ≤ m → (m ≡ k → ⊥) → false ≡ comes_before m at k to
  unfolding comes_before
  before_other h d = sym (ap₂ (λ (x y : Bool). x || (y && ltb (place_number at) (place_number to))) (le-ltb m k h) (ne_eqb m k d))

  pub before_place : k ≤ m → m ≡ k → (x y : ℕ) (r : Bool) → x ≡ place_number at → y ≡ place_number to → r ≡ ltb x y → r ≡ comes_before m at k to
  unfolding comes_before
  before_place h e x y r p q s =
      s ∙ ap₂ ltb p q ∙ sym (ap₂ (λ (u v : Bool). u || (v && ltb (place_number at) (place_number to))) (le-ltb m k h) (eq-eqb m k e))

-- ---- the checks, then the range

module _ (F : List ℕ → List ℕ) (r : Register) (a b : ℕ) (x : Result ⊤ Refusal) (checked : said x ≡ judged (register_checks r) done) where
  pub tree_refused : (m : Refusal) → x ≡ Err m → said x ≡ tree_part F r a b
  unfolding tree_part
  tree_refused = checks_refuse r _ x checked

  pub tree_says : said x ≡ done → (v : Verdict) (end k : ℕ) → k ≡ entries r.n → end ≡ lesser b k
      → v ≡ refused_at 10 tree (lowest (entry_right F r.tree r.bitfield r.content r.n r.size) a (end - a)) done → v ≡ tree_part F r a b
  unfolding tree_part
  tree_says ok v end k q e u =
      checks_pass r (refused_at 10 tree (lowest (entry_right F r.tree r.bitfield r.content r.n r.size) a (within (entries r.n) a b)) done) x checked ok v
      (u ∙ ap (λ (m : ℕ). refused_at 10 tree (lowest (entry_right F r.tree r.bitfield r.content r.n r.size) a (m - a)) done) (e ∙ ap (lesser b) q))

module _ (r : Register) (a b : ℕ) (x : Result ⊤ Refusal) (checked : said x ≡ judged (register_checks r) done) where
  pub bitfield_refused : (m : Refusal) → x ≡ Err m → said x ≡ bitfield_part r a b
  unfolding bitfield_part
  bitfield_refused = checks_refuse r _ x checked

  pub bitfield_says : said x ≡ done → (v : Verdict) (end k : ℕ) → k ≡ entry_count r.n → end ≡ lesser b k
      → v ≡ refused_at 11 bitfield (lowest (byte_right_by (tree_bits false r.bitfield r.n) r.bitfield r.n) (32 + 3328 * a) (3328 * (end - a))) done
      → v ≡ bitfield_part r a b
  unfolding bitfield_part
  bitfield_says ok v end k q e u =
      checks_pass r (refused_at 11 bitfield (lowest (byte_right r.bitfield r.n) (32 + 3328 * a) (3328 * within (entry_count r.n) a b)) done) x checked ok v
      (u ∙ ap₂ (λ (right : ℕ → Bool) (m : ℕ). refused_at 11 bitfield (lowest right (32 + 3328 * a) (3328 * (m - a))) done) (whole_right r.bitfield r.n)
      (e ∙ ap (lesser b) q))
