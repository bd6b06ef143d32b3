-- The search from the latest chunk down. Assumes nothing.
use Prim.Native.Nat.{ℕ, suc, ◌-◌, ◌^◌, ◌<◌, ◌≤◌}
use mathlib.Core.Path.{◌≡◌, sym, ap, ◌∙◌}
use mathlib.Core.Bool.{Bool, false}
use mathlib.Core.List.{List}
use native.Mathlib.Omega.{arith}
use Rattle.answer_types.specs.Verdict.{Verdict, done}
use Rattle.file_format.specs.Belongs.{Register}
use Rattle.checks.specs.Checks.{judged, register_checks}
use Rattle.lookup.specs.Lookup.{Found}
use Rattle.lookup.specs.Read.{read_found}
use Rattle.lookup.proofs.Calls.{held_by, searched_held, placed_in, verified, read_says_lem, read_bytes}
use Rattle.record_find.specs.ChunkRecords.{compared_told, header_after, path_after}
use Rattle.record_find.specs.Finding.{nowhere, unless_failed, goes, find_down, find_among, find_by, find_in}
use Rattle.record_find.specs.Inner.{Readable, read_behind, find_behind}
use Rattle.answer_types.specs.declared.Refusal.{Refusal}
use Rattle.std.specs.Prelude.{Result}

-- ---- whatever `judge` tells of the chunks

-- the chunks from k up were looked at, and decide nothing
pub record Left (judge : ℕ → Verdict × Bool) (n k : ℕ) : Type 0 where
  pub most : k ≤ n
  pub rest : find_down judge (k - 1) ≡ find_down judge (n - 1)

module _ {judge : ℕ → Verdict × Bool} {n k : ℕ} where
  pub left_all : k ≡ n → Left judge n k
  left_all e = record { most = omega arith; rest = ap (λ (m : ℕ). find_down judge (m - 1)) e }

  module _ (l : Left judge n k) where
    pub left_none : k ≤ 1 → nowhere ≡ find_down judge (n - 1)
    unfolding find_down
    left_none h = let z : 0 ≡ k - 1 = omega arith in ap (find_down judge) z ∙ l.rest

    -- what is told of chunk k - 1 decides, or leaves those below it
    pub left_told : 1 < k → {x y : Result Bool Refusal} → compared_told x ≡ judge (k - 1) → x ≡ y → goes (k - 1) (compared_told y) (find_down judge (k - 1 - 1)) ≡ find_down judge (n - 1)
    unfolding find_down
    left_told more p e =
        let below : k - 1 ≡ suc (k - 1 - 1) = omega arith in
        ap (λ (t : Verdict × Bool). goes (k - 1) t (find_down judge (k - 1 - 1))) (sym (ap compared_told e) ∙ p)
        ∙ ap (λ (j : ℕ). goes j (judge j) (find_down judge (k - 1 - 1))) below ∙ sym (ap (find_down judge) below) ∙ l.rest

-- chunk 0 comes first
pub with_head : (judge : ℕ → Verdict × Bool) {n : ℕ} {w head : Verdict} → (n ≡ 0 → ⊥) → w ≡ head → unless_failed w (find_down judge (n - 1)) ≡ find_among judge head n
with_head judge {n} {w} {head} some e =
    let begun : suc (n - 1) ≡ n = omega arith in
    ap (λ (u : Verdict). unless_failed u (find_down judge (n - 1))) e ∙ ap (find_among judge head) begun

-- what is found depends on no more than what the checks and the reads answer and give
pub reads_same : {v w : ℕ → Verdict} {d e : ℕ → List ℕ} {x y : Verdict} → ((c : ℕ) → v c ≡ w c) → ((c : ℕ) → d c ≡ e c) → x ≡ y → (path : List ℕ) (n : ℕ)
    → find_by (λ c. path_after (v c) (d c) c path) x (header_after (v 0) (d 0) 0).0 n ≡ find_by (λ c. path_after (w c) (e c) c path) y (header_after (w 0) (e 0) 0).0 n
reads_same f g h path n = λ j. find_by (λ c. path_after (f c j) (g c j) c path) (h j) (header_after (f 0 j) (g 0 j) 0).0 n

-- ---- a register, whose checks 2 to 6 say v

module _ (r : Register) {v : Verdict} (e : v ≡ judged (register_checks r) done) where
  pub readable : r.size < 2 ^ 64 → v ≡ done → Readable false r.tree r.bitfield r.content r.n
  readable h p =
      let q = sym p ∙ e in
      record { searched = searched_held r q h; placed = λ c. placed_in r c _ (held_by r done q c) }

  pub found_by : (F : List ℕ → List ℕ) (path : List ℕ) → find_behind false r.tree r.bitfield r.content r.n F v path ≡ find_in F r path
  found_by F path =
      let read : ℕ → Found = read_behind false r.tree r.bitfield r.content r.n F v in
      let same : (c : ℕ) → read c ≡ read_found F r c = λ c. verified F r c _ (held_by r v e c) in
      reads_same (λ c. read_says_lem F r c (read c) (same c)) (λ c. read_bytes F r c (read c) (same c)) e path r.n
