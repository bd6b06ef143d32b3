-- The audit as the code makes it: three verdicts one after the other.
-- Assumes nothing.
use Rattle.std.specs.Prelude.{Result, Err, ⊤}
use Prim.Native.Nat.{ℕ, ◌-◌}
use mathlib.Core.Path.{◌≡◌, refl, sym, ap, ◌∙◌}
use mathlib.Core.List.{List, []}
use Rattle.answer_types.specs.Verdict.{Verdict, tree, bitfield, done, and_then}
use Rattle.answer_types.specs.Meaning.{said}
use Rattle.answer_types.specs.declared.Refusal.{Refusal}
use Rattle.tree_index.specs.Tree.{entries}
use Rattle.file_format.specs.Sizes.{used_bitfield}
use Rattle.file_format.specs.Belongs.{Register}
use Rattle.checks.specs.Checks.{judged, register_checks}
use Rattle.checks.specs.Lent.{register_of}
use Rattle.checks.proofs.Passed.{Passed, passed}
use Rattle.audit.specs.Audit.{lowest, entry_right, wrong_entry, wrong_byte, refused_at, images_verdict, byte_right}
use Rattle.audit.specs.TreeWalk.{FilesIn}
use Rattle.audit.proofs.Search.{stops, judged_then, refused_then}

-- ---- the checks 2 to 6, and what comes next

module _ (r : Register) (next : Verdict) (x : Result ⊤ Refusal) (checked : said x ≡ judged (register_checks r) done) where
  then_next : judged (register_checks r) next ≡ and_then (said x) next
  then_next = judged_then (register_checks r) next ∙ ap (λ (v : Verdict). and_then v next) (sym checked)

  pub checks_refuse : (m : Refusal) → x ≡ Err m → said x ≡ judged (register_checks r) next
  checks_refuse m e = sym (then_next ∙ stops x m e next)

  pub checks_pass : said x ≡ done → (v : Verdict) → v ≡ next → v ≡ judged (register_checks r) next
  checks_pass ok v e = e ∙ sym (then_next ∙ ap (λ (w : Verdict). and_then w next) ok)

  -- a register that passes them
  pub files_in_lem : said x ≡ done → FilesIn r.tree r.bitfield r.content r.n r.size
  files_in_lem ok =
      record {
        nodes = record { count = p.count; inside = p.tree };
        field = record { count = p.count; inside = p.bitfield };
        bytes = p.content;
      }
    where
      p : Passed r
      p = (passed r done (sym checked ∙ ok)).0

-- ---- 10 and 11

module _ (F : List ℕ → List ℕ) (r : Register) where
  -- the verdicts on the tree file and on the bitfield file
  abbrev on_tree : Verdict
  on_tree = refused_at 10 tree (lowest (entry_right F r.tree r.bitfield r.content r.n r.size) 0 (entries r.n)) done

  abbrev on_bitfield : Verdict
  on_bitfield = refused_at 11 bitfield (lowest (byte_right r.bitfield r.n) 32 (used_bitfield r.n - 32)) done

  module _ (y : Result ⊤ Refusal) (q : said y ≡ on_tree) where
    parts : images_verdict F r ≡ and_then (said y) on_bitfield
    unfolding images_verdict wrong_entry wrong_byte
    parts = refused_then 10 tree (wrong_entry F r) on_bitfield ∙ ap (λ (v : Verdict). and_then v on_bitfield) (sym q)

    pub tree_refuses : (m : Refusal) → y ≡ Err m → said y ≡ images_verdict F r
    tree_refuses m e = sym (parts ∙ stops y m e on_bitfield)

    pub bitfield_says : said y ≡ done → (v : Verdict) → v ≡ on_bitfield → v ≡ images_verdict F r
    bitfield_says e v b = b ∙ sym (parts ∙ ap (λ (w : Verdict). and_then w on_bitfield) e)

  -- no signature is looked at
  pub images_of : images_verdict F (register_of r.tree [] r.bitfield r.content r.n 0 r.size) ≡ images_verdict F r
  unfolding images_verdict wrong_entry wrong_byte
  images_of = refl
