-- The audit's verdict as the code makes it. Assumes nothing.
use Prim.Native.Nat.{ℕ, ◌-◌}
use mathlib.Core.Path.{◌≡◌, refl, sym, ap, ◌∙◌}
use mathlib.Core.Bool.{Bool, true}
use mathlib.Core.List.{List}
use Rattle.answer_types.specs.Verdict.{Spot, Verdict, tree, bitfield, done, refused}
use Rattle.byte_strings.specs.Lowest.{Lowest, nowhere, first, lowest}
use Rattle.file_format.specs.Sizes.{used_bitfield}
use Rattle.audit.specs.Audit.{refused_at, byte_right_by}
use Rattle.audit.specs.BitfieldEntries.{tree_bits}
use Rattle.audit.specs.TreeWalk.{FilesIn}
use Rattle.copy_checks.specs.Copy.{Copy}
use Rattle.copy_checks.specs.Checks.{partly_judged}
use Rattle.copy_checks.proofs.Steps.{bits_in, roots_in, partly_passed, partly_passes, partly_refused_by}
use Rattle.copy_audit.specs.Audit.{wrong_entry_of_copy, known_bits, wrong_byte_of_copy, audit_copy, copy_byte_right}
use Rattle.file_format.specs.Images.{bitfield_of}
use Rattle.bitfield.specs.Image.{entries_for}

-- the bytes of the bitfield file, judged by the register's function
pub partly_right : (xs : List ℕ) (n : ℕ) → byte_right_by (tree_bits true xs n) xs n ≡ copy_byte_right xs n
unfolding byte_right_by tree_bits bitfield_of entries_for known_bits
partly_right xs n = refl

module _ (F : List ℕ → List ℕ) (c : Copy) where
  abbrev on_bitfield : Verdict
  on_bitfield = refused_at 11 bitfield (wrong_byte_of_copy c) done

  abbrev on_tree : Verdict
  on_tree = refused_at 10 tree (wrong_entry_of_copy F c) on_bitfield

  pub audit_refused : (m : ℕ) (at : Spot) → refused m at ≡ partly_judged c done → refused m at ≡ audit_copy F c
  unfolding audit_copy
  audit_refused m at e = sym (partly_refused_by c on_tree m at (sym e))

  module _ (e : done ≡ partly_judged c done) where
    pub files_in_lem : FilesIn c.tree c.bitfield c.content c.n c.size
    files_in_lem =
        let p = (partly_passed c done (sym e)).0 in
        record { nodes = roots_in c p; field = bits_in c p; bytes = p.content }

    judges : audit_copy F c ≡ on_tree
    unfolding audit_copy
    judges = let p = partly_passed c done (sym e) in partly_passes c on_tree p.0 p.1.0

    pub audit_entry : (i : ℕ) → first i ≡ wrong_entry_of_copy F c → refused 10 (tree i) ≡ audit_copy F c
    unfolding refused_at
    audit_entry i f = ap (λ (l : Lowest). refused_at 10 tree l on_bitfield) f ∙ sym judges

    pub audit_byte : (v : Verdict) → nowhere ≡ wrong_entry_of_copy F c
        → v ≡ refused_at 11 bitfield (lowest (byte_right_by (tree_bits true c.bitfield c.n) c.bitfield c.n) 32 (used_bitfield c.n - 32)) done
        → v ≡ audit_copy F c
    unfolding refused_at wrong_byte_of_copy
    audit_byte v f q =
        q
        ∙ ap (λ (right : ℕ → Bool). refused_at 11 bitfield (lowest right 32 (used_bitfield c.n - 32)) done) (partly_right c.bitfield c.n)
        ∙ ap (λ (l : Lowest). refused_at 10 tree l on_bitfield) f ∙ sym judges
