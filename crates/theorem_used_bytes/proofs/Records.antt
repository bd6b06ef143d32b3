-- Records and paths: what is told of a chunk follows from its read alone, and what is found from that, the checks and n. Assumes nothing.
use Prim.Native.Nat.{ℕ, zero, suc}
use mathlib.Core.Path.{◌≡◌, refl, sym, ap, ap₂, ◌∙◌}
use mathlib.Core.Bool.{Bool}
use mathlib.Core.List.{List}
use Rattle.answer_types.specs.Verdict.{Verdict, done}
use Rattle.file_format.specs.Belongs.{Register}
use Rattle.checks.specs.Checks.{Check, judged, register_checks}
use Rattle.lookup.specs.Read.{read_verdict, read_part}
use Rattle.record_find.specs.ChunkRecords.{header_after, node_after, path_after, header_in}
use Rattle.record_find.specs.Finding.{Outcome, unless_failed, goes, find_down, find_among, find_by, judge_in}
use Rattle.theorem_used_bytes.specs.UsedBytes.{SameUsed, ReadAlike}
use Rattle.theorem_used_bytes.specs.Records.{RecordsUsed}
use Rattle.theorem_used_bytes.proofs.Cut.{same_cut, checks_cut}
use Rattle.theorem_used_bytes.proofs.Reading.{reads}

-- two that tell the same of each chunk find the same
module _ (judge other : ℕ → Verdict × Bool) (same : (c : ℕ) → judge c ≡ other c) where
  down_same : (k : ℕ) → find_down judge k ≡ find_down other k
  unfolding find_down
  down_same zero = refl
  down_same (suc k) = ap₂ (λ (t : Verdict × Bool) (o : Outcome). goes (suc k) t o) (same (suc k)) (down_same k)

  among_same : (head : Verdict) (n : ℕ) → find_among judge head n ≡ find_among other head n
  among_same head zero = refl
  among_same head (suc k) = ap (unless_failed head) (down_same k)

-- two whose chunks read the same find the same, behind the same checks
pub find_same : (v w : ℕ → Verdict) (d e : ℕ → List ℕ) → ((c : ℕ) → v c ≡ w c) → ((c : ℕ) → d c ≡ e c) → (x y : Verdict) → x ≡ y → (n : ℕ) (path : List ℕ)
    → find_by (λ c. path_after (v c) (d c) c path) x (header_after (v 0) (d 0) 0).0 n ≡ find_by (λ c. path_after (w c) (e c) c path) y (header_after (w 0) (e 0) 0).0 n
find_same v w d e f g x y h n path =
    ap₂ (λ (checks head : Verdict). find_by (λ c. path_after (v c) (d c) c path) checks head n) h (ap₂ (λ (a : Verdict) (b : List ℕ). (header_after a b 0).0) (f 0) (g 0))
    ∙ ap (unless_failed y)
    (among_same (λ c. path_after (v c) (d c) c path) (λ c. path_after (w c) (e c) c path) (λ c. ap₂ (λ (a : Verdict) (b : List ℕ). path_after a b c path) (f c) (g c))
    (header_after (w 0) (e 0) 0).0 n)

checks_same : (a b : Register) → SameUsed a b → judged (register_checks a) done ≡ judged (register_checks b) done
checks_same a b h = ap (λ (cs : List Check). judged cs done) (sym (checks_cut a) ∙ ap register_checks (same_cut a b h) ∙ checks_cut b)

pub records_used : RecordsUsed
records_used F a b h =
    let r : ReadAlike F a b = (reads F).one a b h in
    record {
      header = λ c. ap₂ (λ (v : Verdict) (d : List ℕ). header_after v d c) (r.read_says c) (r.read c);
      node = λ c. ap₂ (λ (v : Verdict) (d : List ℕ). node_after v d c) (r.read_says c) (r.read c);
      found = λ path.
          ap (λ (n : ℕ). find_by (judge_in F a path) (judged (register_checks a) done) (header_in F a 0).0 n) h.n
          ∙ find_same (read_verdict F a) (read_verdict F b) (read_part F a) (read_part F b) r.read_says r.read (judged (register_checks a) done)
          (judged (register_checks b) done) (checks_same a b h) b.n path;
    }
