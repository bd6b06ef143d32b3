-- What is found where the chunks are records. Assumes nothing.
use Prim.Native.Nat.{ℕ, zero, suc, ◌<◌, ◌≤◌}
use mathlib.Core.Path.{◌≡◌, refl, sym, ap, ◌∙◌, subst}
use mathlib.Core.Logic.{⊎_elim}
use mathlib.Core.Bool.{Bool, true, false}
use mathlib.Core.List.{List, [], ◌∷◌, map}
use mathlib.Core.Option.{some}
use borrow.Author.Tests.{lt-ltb}
use native.Mathlib.Omega.{arith}
use lib.ListN.{length, get_or}
use Rattle.answer_types.specs.Verdict.{Verdict, tree, done}
use Rattle.byte_strings.specs.Lists.{same_list}
use Rattle.byte_strings.proofs.Lists.{same_eq, same_refl}
use Rattle.tree_index.specs.Tree.{index}
use Rattle.file_format.specs.Slots.{all_held, held_in}
use Rattle.file_format.proofs.Slots.{all_length, all_contents, all_held_lem}
use Rattle.checks.specs.Checks.{judged, register_checks}
use Rattle.lookup.specs.Read.{read_verdict, read_part}
use Rattle.lookup.specs.Theorems.{Answers}
use Rattle.lookup.proofs.Answers.{answers}
use Rattle.record_fields.proofs.Digits.{two}
use Rattle.record_format.specs.Records.{Header, header_bytes, Node, node_bytes}
use Rattle.record_format.specs.From.{header_from, node_from}
use Rattle.record_format.specs.Post.{told_of, no_part, content_part, read_header}
use Rattle.record_format.proofs.From.{each_read}
use Rattle.record_find.specs.ChunkRecords.{read_path, after_read, header_after, path_after, header_in}
use Rattle.record_find.specs.Finding.{Outcome, failed, at, nowhere, goes, find_down, find_among, find_by, judge_in}
use Rattle.record_find.specs.Theorems.{beyond, path_at, Highest, Reading, FindsHighest, RegisterFindsHighest}

-- ---- the highest number

-- of the first k Nodes
abbrev Below : List ℕ → List Node → ℕ → Outcome → Type 0
Below path ns k (failed m spot) = ⊥
Below path ns k (at c) = (i : ℕ) × ((c ≡ suc i) × ((i < k) × ((path_at ns i ≡ path) × ((j : ℕ) → i < j → j < k → path_at ns j ≡ path → ⊥))))
Below path ns k nowhere = (j : ℕ) → j < k → path_at ns j ≡ path → ⊥

-- one more, which has another path
one_more_lem : (path : List ℕ) (ns : List Node) (k : ℕ) → (path_at ns k ≡ path → ⊥) → (o : Outcome) → Below path ns k o → Below path ns (suc k) o
one_more_lem path ns k n (failed m spot) h = h
one_more_lem path ns k n (at c) h = (
  h.0,
  (
    h.1.0,
    (
      omega (arith, h.1.1.0),
      (h.1.1.1.0, λ j l m q. ⊎_elim (λ (a : j < k). h.1.1.1.1 j l a q) (λ (b : k ≤ j). let z : j ≡ k = omega arith in n (sym (ap (path_at ns) z) ∙ q)) (two j k)),
    ),
  ),
)
one_more_lem path ns k n nowhere h =
    λ j l q. ⊎_elim (λ (a : j < k). h j a q) (λ (b : k ≤ j). let z : j ≡ k = omega arith in n (sym (ap (path_at ns) z) ∙ q)) (two j k)

node_at_lem : (ns : List Node) (j : ℕ) → j < length ns → get_or (map node_bytes ns) j [] ≡ node_bytes (get_or ns j beyond)
node_at_lem [] j h = absurd (omega arith)
node_at_lem (n ∷ ns) zero h = refl
node_at_lem (n ∷ ns) (suc j) h = node_at_lem ns j (omega arith)

pub map_long : (ns : List Node) → length (map node_bytes ns) ≡ length ns
map_long [] = refl
map_long (n ∷ ns) = ap suc (map_long ns)

-- the search by any judge that tells of each chunk of a Node whether its path is the one sought: of a judge with a definition two of its values that
-- differ would be computed before they are told apart
module _ (judge : ℕ → Verdict × Bool) (ns : List Node) (path : List ℕ)
    (told : (j : ℕ) → j < length ns → judge (suc j) ≡ (done, same_list (path_at ns j) path)) where
  down : (k : ℕ) → k ≤ length ns → Below path ns k (find_down judge k)
  unfolding find_down
  down zero l = λ j m. absurd (omega arith)
  down (suc k) l =
      subst (λ (t : Verdict × Bool). Below path ns (suc k) (goes (suc k) t (find_down judge k))) (sym (told k (omega arith)))
      (by (same_list (path_at ns k) path) refl (down k (omega arith)))
    where
      by : (b : Bool) → same_list (path_at ns k) path ≡ b → Below path ns k (find_down judge k) → Below path ns (suc k) (goes (suc k) (done, b) (find_down judge k))
      by true e below = (k, (refl, (omega arith, (same_eq (path_at ns k) path e, λ j m q. absurd (omega arith)))))
      by false e below = one_more_lem path ns k (λ q. no (sym e ∙ ap (λ (x : List ℕ). same_list x path) q ∙ same_refl path)) (find_down judge k) below
        where
          no : false ≡ true → ⊥
          no x = let z : ◌≡◌ {A = ℕ} 0 1 = cc in omega arith

module _ (verdict : ℕ → Verdict) (bytes : ℕ → List ℕ) (h : Header) (ns : List Node) (r : Reading verdict bytes h ns) (path : List ℕ) where
  judge : ℕ → Verdict × Bool
  judge c = path_after (verdict c) (bytes c) c path

  -- what is told of the chunk of a Node is whether its path is the one sought
  told : (j : ℕ) → j < length ns → judge (suc j) ≡ (done, same_list (path_at ns j) path)
  unfolding judge
  told j l =
      let a = r.reads (suc j) (omega arith) in
      let read : node_from (bytes (suc j)) ≡ some (get_or ns j beyond) =
      each_read.nodes.accepts (bytes (suc j)) (get_or ns j beyond) (record { within = r.nodes j l; bytes = sym (a.1 ∙ node_at_lem ns j l) }) in
      ap (λ (v : Verdict). after_read false v (read_path path (tree (index 0 (suc j))) (bytes (suc j)))) a.0
      ∙ ap (told_of (tree (index 0 (suc j))) false (λ (n : Node). same_list n.path path)) read

  whole : (o : Outcome) → Below path ns (length ns) o → Highest path ns o
  whole (failed m spot) b = b
  whole (at c) b = b
  whole nowhere b = b

  first : (header_after (verdict 0) (bytes 0) 0).0 ≡ done
  first =
      let a = r.reads 0 (omega arith) in
      let read : header_from (bytes 0) ≡ some h = each_read.headers.accepts (bytes 0) h (record { within = r.header; bytes = sym a.1 }) in
      ap (λ (v : Verdict). (after_read no_part v (read_header (tree (index 0 0)) (bytes 0))).0) a.0
      ∙ ap (λ (o : _). (told_of (tree (index 0 0)) no_part (λ (x : Header). content_part) o).0) read

  highest : Highest path ns (find_by judge done (header_after (verdict 0) (bytes 0) 0).0 (suc (length ns)))
  highest =
      subst (λ (v : Verdict). Highest path ns (find_among judge v (suc (length ns)))) (sym first)
      (whole (find_down judge (length ns)) (down judge ns path told (length ns) (omega arith)))

pub finds_highest : FindsHighest
unfolding judge
finds_highest verdict bytes h ns r path = highest verdict bytes h ns r path

pub register_finds_highest : RegisterFindsHighest
register_finds_highest F hash h hw ns w within r b checked path =
    let cs : List (List ℕ) = header_bytes h ∷ map node_bytes ns in
    let a : Answers F r (all_held cs) cs = subst (Answers F r (all_held cs)) (all_contents cs) (answers F hash (all_held cs) within r b checked) in
    let is_held_lem : (i : ℕ) → i < length cs → held_in (all_held cs) i ≡ true = λ i l. all_held_lem cs i ∙ lt-ltb i (length cs) l in
    let n : r.n ≡ suc (length ns) = b.count ∙ all_length cs ∙ ap suc (map_long ns) in
    let reading : Reading (read_verdict F r) (read_part F r) h ns = record {
      header = hw;
      nodes = w;
      reads = λ i l. (let m : i < length cs = omega (arith, map_long ns) in (a.read_done i (is_held_lem i m), a.read i (is_held_lem i m)));
    } in
    subst (λ (k : ℕ). Highest path ns (find_by (judge_in F r path) (judged (register_checks r) done) (header_in F r 0).0 k)) (sym n)
    (subst (λ (v : Verdict). Highest path ns (find_by (judge_in F r path) v (header_in F r 0).0 (suc (length ns)))) (sym checked) (finds_highest (read_verdict F r) (read_part F r) h ns reading path))
