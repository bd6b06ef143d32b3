-- What is told of a chunk of a copy, from its read, and what is found behind the checks of a copy. Assumes nothing.
use Prim.Native.Nat.{ℕ, suc, ◌^◌, ◌<◌}
use mathlib.Core.Path.{◌≡◌, refl, sym, ◌∙◌, subst}
use mathlib.Core.Bool.{true}
use mathlib.Core.List.{List}
use lib.ListN.{length}
use Rattle.answer_types.specs.Verdict.{Verdict, done}
use Rattle.lookup.specs.Lookup.{Found}
use Rattle.record_find.specs.Finding.{find_by}
use Rattle.record_find.specs.Inner.{ReadIn, Readable, read_behind, find_behind}
use Rattle.record_find.specs.Theorems.{Highest}
use Rattle.record_find.proofs.Chunk.{judged_in}
use Rattle.record_find.proofs.Search.{reads_same}
use Rattle.record_find.proofs.Highest.{finds_highest}
use Rattle.copy_checks.specs.Copy.{Copy}
use Rattle.copy_checks.specs.Checks.{copy_judged}
use Rattle.copy_lookup.specs.Lookups.{copy_held_place_of}
use Rattle.copy_lookup.specs.Reading.{copy_read_verdict, copy_read_part, copy_read_found}
use Rattle.copy_lookup.proofs.Calls.{held_by, copy_searched_held, copy_placed_in, copy_verified, read_says_lem, read_bytes}
use Rattle.copy_records.specs.Records.{copy_header, copy_judge, copy_find}
use Rattle.copy_records.specs.Theorems.{CopyFindsHighest}

-- the part that was read
pub copy_read_in : (F : List ℕ → List ℕ) (c : Copy) (i : ℕ) {f : Found} → f ≡ copy_read_found F c i → ReadIn c.content i f
copy_read_in F c i e =
    let p = copy_held_place_of c i in
    subst (ReadIn c.content i) (copy_verified F c i p refl ∙ sym e) (judged_in F c.tree c.content i p (copy_placed_in c i p refl))

-- a copy, whose checks say v
module _ (c : Copy) {v : Verdict} (e : v ≡ copy_judged c done) where
  pub copy_readable : c.size < 2 ^ 64 → v ≡ done → Readable true c.tree c.bitfield c.content c.n
  copy_readable h p =
      let q = sym p ∙ e in
      record { searched = copy_searched_held c q h; placed = λ i. copy_placed_in c i _ (held_by c done q i) }

  pub copy_found_by : (F : List ℕ → List ℕ) (path : List ℕ) → find_behind true c.tree c.bitfield c.content c.n F v path ≡ copy_find F c path
  copy_found_by F path =
      let read : ℕ → Found = read_behind true c.tree c.bitfield c.content c.n F v in
      let same : (i : ℕ) → read i ≡ copy_read_found F c i = λ i. copy_verified F c i _ (held_by c v e i) in
      reads_same (λ i. read_says_lem F c i (read i) (same i)) (λ i. read_bytes F c i (read i) (same i)) e path c.n

pub copy_finds_highest : CopyFindsHighest
copy_finds_highest F c h ns reading n checked path =
    subst (λ (k : ℕ). Highest path ns (find_by (copy_judge F c path) (copy_judged c done) (copy_header F c 0).0 k)) (sym n)
    (subst (λ (v : Verdict). Highest path ns (find_by (copy_judge F c path) v (copy_header F c 0).0 (suc (length ns)))) (sym checked)
    (finds_highest (copy_read_verdict F c) (copy_read_part F c) h ns reading path))
