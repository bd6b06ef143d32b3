-- What is told of a chunk, from its read and its bytes. Assumes nothing.
use Prim.Native.Nat.{ℕ, ◌+◌, ◌-◌, ◌≤◌}
use mathlib.Core.Path.{◌≡◌, refl, sym, ap, ap₂, ◌∙◌, subst}
use mathlib.Core.Bool.{Bool, true, false, cond}
use mathlib.Core.List.{List}
use mathlib.Core.Option.{Option, none, some}
use native.Mathlib.Omega.{arith}
use lib.ListN.{length, take, drop}
use Rattle.answer_types.specs.Verdict.{Spot, Verdict, tree, done, refused}
use Rattle.answer_types.specs.Verdict as verdicts
use Rattle.answer_types.specs.Meaning.{refusal_of, said, spot_of}
use Rattle.answer_types.specs.declared.Refusal.{Refusal}
use Rattle.byte_strings.specs.Lists.{part, same_list}
use Rattle.tree_index.specs.Tree.{index}
use Rattle.file_format.specs.Messages.{leaf_message}
use Rattle.file_format.specs.Stored.{stored_hash}
use Rattle.file_format.specs.Belongs.{Register}
use Rattle.lookup.specs.Lookup.{Found, refusal, found, held_place_of, held_place_in}
use Rattle.lookup.specs.Inner.{known_if}
use Rattle.lookup.specs.Read.{hash_judged, read_found}
use Rattle.lookup.specs.Meaning.{PlacedIn}
use Rattle.lookup.proofs.Calls.{placed_in, verified}
use Rattle.record_fields.specs.Inner.{part_of}
use Rattle.record_fields.specs.declared.rows.Part.{Part}
use Rattle.record_format.specs.Records.{Header, Node}
use Rattle.record_format.specs.From.{header_from, node_from}
use Rattle.record_format.specs.Post.{told_of, no_part, content_part, header_told, read_header}
use Rattle.std.specs.Prelude.{Result, Ok, Err, ⊤}
use Rattle.record_format.proofs.Whole.{told_done, told_some}
use Rattle.record_node.specs.Post.{node_placed, no_node, node_told, read_node}
use Rattle.record_node.specs.Theorems.{Placed}
use Rattle.record_node.specs.declared.reading.Node.{Node as CodeNode}
use Rattle.record_node.proofs.Lying.{nodes_placed}
use Rattle.record_find.specs.ChunkRecords.{compared_told, after_read, node_after, path_after}
use Rattle.record_find.specs.Inner.{ReadIn, Readable, read_behind}

-- ---- the bytes of a chunk

-- a refusal gets another place
moved : {A P : Type 0} (spot other : Spot) (beside : P) (tell : A → P) (o : Option A) {v : Verdict} {m : ℕ} {at : Spot} {p : P}
    → ◌≡◌ {A = Verdict × P} (refused m at, p) (told_of spot beside tell o) → v ≡ refused 15 other → ◌≡◌ {A = Verdict × P} (v, p) (told_of other beside tell o)
moved {P} spot other beside tell none e q = ap₂ {C = Verdict × P} (λ (w : Verdict) (x : P). (w, x)) q (ap (λ (x : Verdict × P). x.1) e)
moved {P} spot other beside tell (some a) {m} {at} e q =
    let r : refused m at ≡ done = ap (λ (x : Verdict × P). x.0) e in let z : ◌≡◌ {A = ℕ} 0 1 = cc in absurd (omega arith)

module _ (d : List ℕ) (i : ℕ) where
  abbrev content : Header → Part
  content h = content_part

  pub header_none : {r : Result Part Refusal} {x : Refusal} (y : Refusal) → r ≡ Err x → header_told r ≡ read_header verdicts.none d → refusal_of y ≡ refused 15 (tree i)
      → header_told (Err y) ≡ read_header (tree i) d
  header_none y e h q = moved verdicts.none (tree i) no_part content (header_from d) (sym (ap header_told e) ∙ h) q

  pub header_done : {r : Result Part Refusal} {p : Part} → r ≡ Ok p → header_told r ≡ read_header verdicts.none d → header_told (Ok p) ≡ read_header (tree i) d
  header_done {r} {p} e h = told_done verdicts.none (tree i) no_part content (header_from d) p (sym (ap header_told e) ∙ h)

  pub node_none : {r : Result CodeNode Refusal} {x : Refusal} (y : Refusal) → r ≡ Err x → node_told r ≡ read_node verdicts.none d → refusal_of y ≡ refused 15 (tree i)
      → node_told (Err y) ≡ read_node (tree i) d
  node_none y e h q = moved verdicts.none (tree i) no_node node_placed (node_from d) (sym (ap node_told e) ∙ h) q

  pub node_done : {r : Result CodeNode Refusal} {n : CodeNode} → r ≡ Ok n → node_told r ≡ read_node verdicts.none d → node_told (Ok n) ≡ read_node (tree i) d
  node_done {r} {n} e h = told_done verdicts.none (tree i) no_node node_placed (node_from d) n (sym (ap node_told e) ∙ h)

-- ---- behind the read

-- what is told where the read answers b is told behind it
pub behind : {T : Type 0} (after : Verdict → List ℕ → T) {a b : Result ⊤ Refusal} {v : Verdict} {d e : List ℕ} {x : T} → a ≡ b → said a ≡ v → d ≡ e → x ≡ after (said b) d → x ≡ after v e
behind after p q g h = h ∙ ap₂ after (sym (ap said p) ∙ q) g

-- another thing that is told of the same record is refused as the first is
refused_alike : {A P Q : Type 0} (spot : Spot) (beside : P) (tell : A → P) (other : Q) (tells : A → Q) (v : Verdict) (o : Option A) (m : ℕ) (at : Spot) (p : P)
    → ◌≡◌ {A = Verdict × P} (refused m at, p) (after_read beside v (told_of spot beside tell o)) → ◌≡◌ {A = Verdict × Q} (refused m at, other) (after_read other v (told_of spot other tells o))
refused_alike {P} {Q} spot beside tell other tells (refused k s) o m at p e = ap {B = Verdict × Q} (λ (w : Verdict). (w, other)) (ap (λ (x : Verdict × P). x.0) e)
refused_alike {P} {Q} spot beside tell other tells done none m at p e = ap {B = Verdict × Q} (λ (w : Verdict). (w, other)) (ap (λ (x : Verdict × P). x.0) e)
refused_alike {P} {Q} spot beside tell other tells done (some a) m at p e =
    let q : refused m at ≡ done = ap (λ (x : Verdict × P). x.0) e in let z : ◌≡◌ {A = ℕ} 0 1 = cc in absurd (omega arith)

-- where the read answers v and gives the bytes d
module _ (v : Verdict) (d : List ℕ) (c : ℕ) (path : List ℕ) where
  abbrev same_path : Node → Bool
  same_path m = same_list m.path path

  pub path_none : (x : Refusal) → node_told (Err x) ≡ node_after v d c → compared_told (Err x) ≡ path_after v d c path
  path_none x h = refused_alike (tree (index 0 c)) no_node node_placed false same_path v (node_from d) x.number (spot_of x.place) no_node h

  -- of the Node n
  module _ (n : CodeNode) (h : node_told (Ok n) ≡ node_after v d c) where
    read : (w : Verdict) → ◌≡◌ {A = Verdict × CodeNode} (done, n) (node_after w d c) → (m : Node) × ((w ≡ done) × ((node_from d ≡ some m) × (n ≡ node_placed m)))
    read (refused m at) q = let p : done ≡ refused m at = ap (λ (x : Verdict × CodeNode). x.0) q in let z : ◌≡◌ {A = ℕ} 0 1 = cc in absurd (omega arith)
    read done q = let t = told_some (tree (index 0 c)) (tree (index 0 c)) no_node node_placed (node_from d) n q in (t.0, (refl, t.1))

    node : (m : Node) × ((v ≡ done) × ((node_from d ≡ some m) × (n ≡ node_placed m)))
    node = read v h

    placed : Placed d node.0
    placed = nodes_placed d node.0 node.1.1.0

    pub path_inside : n.path.at + n.path.len ≤ length d
    path_inside = subst (λ (m : CodeNode). m.path.at + m.path.len ≤ length d) (sym node.1.1.1) placed.fits.inside.path

    cut : take (n.path.at + n.path.len - n.path.at) (drop n.path.at d) ≡ node.0.path
    unfolding part
    cut =
        let k : n.path.at + n.path.len - n.path.at ≡ n.path.len = omega arith in
        ap (λ (m : ℕ). take m (drop n.path.at d)) k ∙ ap (λ (m : CodeNode). part_of d m.path) node.1.1.1 ∙ ap (λ (m : Node). m.path) placed.fields

    pub path_compared : {b : Bool} → b ≡ same_list (take (n.path.at + n.path.len - n.path.at) (drop n.path.at d)) path → ◌≡◌ {A = Verdict × Bool}
        (done, b) (path_after v d c path)
    path_compared q =
        ap {B = Verdict × Bool} (λ (x : Bool). (done, x)) (q ∙ ap (λ (x : List ℕ). same_list x path) cut)
        ∙ ap (told_of (tree (index 0 c)) false same_path) (sym node.1.1.0) ∙ ap (λ (w : Verdict). path_after w d c path) (sym node.1.0)

-- ---- the part that was read

pub judged_in : (F : List ℕ → List ℕ) (t bytes : List ℕ) (c : ℕ) (p : Found) → PlacedIn t bytes c p → ReadIn bytes c (hash_judged F t bytes c p)
judged_in F t bytes c (refusal m at) h = record { part = tt; small = λ e. let z : ◌≡◌ {A = ℕ} 0 1 = cc in absurd (omega arith) }
judged_in F t bytes c (found start size) h = go (same_list (stored_hash t (index 0 c)) (F (leaf_message (part bytes start size))))
  where
    go : (b : Bool) → ReadIn bytes c (cond b (found start (start + size)) (refusal 10 (tree (index 0 c))))
    go true = record { part = (omega arith, h.inside); small = λ e. h.small }
    go false = record { part = tt; small = λ e. let z : ◌≡◌ {A = ℕ} 0 1 = cc in absurd (omega arith) }

pub read_in_lem : (F : List ℕ → List ℕ) (r : Register) (c : ℕ) {f : Found} → f ≡ read_found F r c → ReadIn r.content c f
read_in_lem F r c e =
    let p = held_place_of r c in
    subst (ReadIn r.content c) (verified F r c p refl ∙ sym e) (judged_in F r.tree r.content c p (placed_in r c p refl))

pub read_placed : {partly : Bool} {t bits bytes : List ℕ} {n : ℕ} → Readable partly t bits bytes n → (F : List ℕ → List ℕ) (c : ℕ) {f : Found}
    → f ≡ read_behind partly t bits bytes n F done c → ReadIn bytes c f
read_placed {partly} {t} {bits} {bytes} {n} p F c e =
    subst (ReadIn bytes c) (sym e) (judged_in F t bytes c (held_place_in (known_if partly bits) t n bits c) (p.placed c))
