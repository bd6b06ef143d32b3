-- A part that is handed back is that of the one record which the bytes are. Assumes nothing.
use Prim.Native.Nat.{ℕ, ◌+◌, ◌-◌, ◌<◌, ◌≤◌}
use mathlib.Core.Path.{◌≡◌, refl, sym, ap, ◌∙◌, subst}
use mathlib.Core.Logic.{⊎_elim}
use mathlib.Core.List.{List, [], ◌++◌}
use mathlib.Core.Option.{some}
use native.Mathlib.Omega.{arith}
use native.Mathlib.Nat.{zero-add}
use lib.ListN.{length, get_or, take, drop, get_or-eq_default}
use borrow.Author.Tests.{lt-ltb, le-ltb}
use Rattle.answer_types.specs.Verdict.{Verdict}
use Rattle.answer_types.specs.Verdict as verdicts
use Rattle.answer_types.specs.declared.Refusal.{Refusal}
use Rattle.byte_strings.specs.Lists.{part, run}
use Rattle.byte_strings.proofs.Lists.{get_or_run, length_run}
use Rattle.record_fields.specs.Varints.{digits}
use Rattle.record_fields.specs.Fields.{part_field}
use Rattle.record_fields.specs.Fronts.{or_nothing}
use Rattle.record_fields.specs.Inner.{bytes_of, part_of, Inside, BytesInside}
use Rattle.record_fields.proofs.Digits.{two}
use Rattle.record_fields.specs.declared.rows.Part.{Part}
use Rattle.std.specs.Prelude.{Option, None, Some, Result, Ok}
use Rattle.record_format.specs.Records.{Header, header_bytes, Writer, Node, node_bytes}
use Rattle.record_format.specs.From.{header_from, node_from}
use Rattle.record_format.specs.Post.{no_part, content_part, read_header, header_told}
use Rattle.record_format.proofs.From.{each_read}
use Rattle.record_format.proofs.Whole.{told_some, content_placed}
use Rattle.record_node.specs.Post.{writer_of, writers_of, writer_at, no_writer, node_of, node_placed, no_node, node_told, read_node, WriterInside, WritersInside, NodeInside}
use Rattle.record_node.specs.declared.writers.Writers.{Writers}
use Rattle.record_node.specs.declared.reading.Node.{Node as CodeNode}
use Rattle.record_node.proofs.Lying.{nodes_placed}
use Rattle.record_parts.specs.Parts.{nobody, field_of, content_of, handed, header_handed, node_handed, NothingIsNone}
use Rattle.record_parts.specs.Chosen.{writer_in, chosen_of}
use Rattle.record_parts.specs.declared.Field.{Field}
use Rattle.record_parts.specs.declared.Field.TheVariants.{Path, Trie, Key, Permission}

-- ---- a part of the bytes lent

pub part_inside : (d : List ℕ) (o : Option Part) (p : Part) → o ≡ Some p → BytesInside d o → p.at + p.len ≤ length d
part_inside d o p e h = subst (BytesInside d) e h

pub part_absent : (d : List ℕ) (o : Option Part) → o ≡ None → [] ≡ or_nothing (bytes_of d o)
part_absent d o e = sym (ap (λ (x : Option Part). or_nothing (bytes_of d x)) e)

pub part_given : (d : List ℕ) (o : Option Part) (p : Part) → o ≡ Some p → take (p.at + p.len - p.at) (drop p.at d) ≡ or_nothing (bytes_of d o)
unfolding part
part_given d o p e =
    let k : p.at + p.len - p.at ≡ p.len = omega arith in
    ap (λ (m : ℕ). take m (drop p.at d)) k ∙ sym (ap (λ (x : Option Part). or_nothing (bytes_of d x)) e)

-- ---- the Writer at a place

pub writer_there : (ws : Writers) (j : ℕ) → j < ws.count → j < 8 → writer_at ws j ≡ writer_in ws j
unfolding writer_in
writer_there ws j h k = simp (lt-ltb j ws.count h, lt-ltb j 8 k)

pub writer_none : (ws : Writers) (j : ℕ) → ws.count ≤ j → no_writer ≡ writer_in ws j
unfolding writer_in
writer_none ws j h = simp (le-ltb j ws.count h)

pub writer_beyond : (ws : Writers) (j : ℕ) → j < ws.count → 8 ≤ j → no_writer ≡ writer_in ws j
unfolding writer_in
writer_beyond ws j h k = simp (lt-ltb j ws.count h, le-ltb j 8 k)

-- ---- of the bytes d

module _ (d : List ℕ) where
  nobody_of : writer_of d no_writer ≡ nobody
  unfolding part
  nobody_of = refl

  abbrev each : Writers → ℕ → Writer
  each ws i = writer_of d (writer_at ws i)

  writer_in_lem : (ws : Writers) → ws.count ≤ 8 → (j : ℕ) → writer_of d (writer_in ws j) ≡ get_or (writers_of d ws) j nobody
  writer_in_lem ws few j = ⊎_elim there behind (two j ws.count)
    where
      there : j < ws.count → writer_of d (writer_in ws j) ≡ get_or (writers_of d ws) j nobody
      there h =
          ap (writer_of d) (sym (writer_there ws j h (omega arith)))
          ∙ sym (get_or_run (each ws) 0 ws.count j nobody h ∙ ap (each ws) (zero-add j))

      behind : ws.count ≤ j → writer_of d (writer_in ws j) ≡ get_or (writers_of d ws) j nobody
      behind h =
          ap (writer_of d) (sym (writer_none ws j h)) ∙ nobody_of
          ∙ sym (get_or-eq_default (run (each ws) 0 ws.count) nobody (omega (arith, length_run (each ws) 0 ws.count)))

  writer_inside : (ws : Writers) → WritersInside d ws → (j : ℕ) → WriterInside d (writer_in ws j)
  writer_inside ws i j =
      ⊎_elim (λ (h : j < ws.count). subst (WriterInside d) (writer_there ws j h (omega (arith, i.count))) (i.each j h))
      (λ (h : ws.count ≤ j). subst (WriterInside d) (writer_none ws j h) (record { key = omega arith; permission = tt })) (two j ws.count)

  -- ---- the part of a Node

  field_inside : (n : CodeNode) → NodeInside d n → (f : Field) → BytesInside d (chosen_of n f)
  field_inside n i Path = i.path
  field_inside n i Trie = i.trie
  field_inside n i (Key j) = (writer_inside n.writers i.writers j).key
  field_inside n i (Permission j) = (writer_inside n.writers i.writers j).permission

  field_bytes : (n : CodeNode) → NodeInside d n → (f : Field) → or_nothing (bytes_of d (chosen_of n f)) ≡ field_of f (node_of d n)
  field_bytes n i Path = refl
  field_bytes n i Trie = refl
  field_bytes n i (Key j) = ap (λ (w : Writer). w.key) (writer_in_lem n.writers i.writers.count j)
  field_bytes n i (Permission j) = ap (λ (w : Writer). or_nothing w.permission) (writer_in_lem n.writers i.writers.count j)

  -- what was read: no Node, or one whose parts lie in the bytes
  module _ (x : Result CodeNode Refusal) (h : node_told x ≡ read_node verdicts.none d) where
    module _ (n : CodeNode) (e : x ≡ Ok n) where
      read_as : (m : Node) × ((node_from d ≡ some m) × (n ≡ node_placed m))
      read_as = told_some verdicts.none verdicts.none no_node node_placed (node_from d) n (sym (ap node_told e) ∙ h)

      read_inside : NodeInside d n
      read_inside = let m = read_as in subst (NodeInside d) (sym m.1.1) (nodes_placed d m.0 m.1.0).fits.inside

      handed_as : (f : Field) → or_nothing (bytes_of d (chosen_of n f)) ≡ node_handed f d
      handed_as f =
          let m = read_as in
          field_bytes n read_inside f ∙ ap (λ (k : CodeNode). field_of f (node_of d k)) m.1.1 ∙ ap (field_of f) (nodes_placed d m.0 m.1.0).fields
          ∙ ap (handed (field_of f)) (sym m.1.0)

      pub chosen_inside : (f : Field) (o : Option Part) → o ≡ chosen_of n f → BytesInside d o
      chosen_inside f o q = subst (BytesInside d) (sym q) (field_inside n read_inside f)

      pub node_handed_lem : (f : Field) (o : Option Part) → o ≡ chosen_of n f → (r : List ℕ) → r ≡ or_nothing (bytes_of d o) → r ≡ node_handed f d
      node_handed_lem f o q r p = p ∙ ap (λ (y : Option Part). or_nothing (bytes_of d y)) q ∙ handed_as f

  -- ---- the content of a Header

  abbrev content : Header → Part
  content h = content_part

  module _ (x : Result Part Refusal) (h : header_told x ≡ read_header verdicts.none d) where
    module _ (p : Part) (e : x ≡ Ok p) where
      header_as : (m : Header) × ((header_from d ≡ some m) × (p ≡ content_part))
      header_as = told_some verdicts.none verdicts.none no_part content (header_from d) p (sym (ap header_told e) ∙ h)

      pub header_inside : p.at + p.len ≤ length d
      header_inside = let m = header_as in subst (Inside d) (sym m.1.1) (content_placed d m.0 m.1.0).0

      pub header_handed_lem : (r : List ℕ) → r ≡ part_of d p → r ≡ header_handed d
      header_handed_lem r q =
          let m = header_as in
          q ∙ ap (part_of d) m.1.1 ∙ (content_placed d m.0 m.1.0).1 ∙ ap (handed content_of) (sym m.1.0)

-- ---- no bytes are no record

begins : (bs t : List ℕ) → part_field 1 (some bs) ++ t ≡ [] → ⊥
unfolding part_field digits
begins bs t e = let z : ◌≡◌ {A = ℕ} 0 1 = cc in omega arith

pub nothing_is_none : NothingIsNone
unfolding header_bytes node_bytes
nothing_is_none = record { header = each_read.headers.rejects [] (λ h w e. begins h.type _ e); node = each_read.nodes.rejects [] (λ n w e. begins n.path _ e) }
