-- What was read over C's boundary is written back. Assumes nothing.
use Prim.Native.Nat.{ℕ, ◌-◌, ◌≤◌}
use mathlib.Core.Path.{◌≡◌, refl, sym, ap, ◌∙◌, subst}
use mathlib.Core.Bool.{Bool, true, false}
use mathlib.Core.List.{List, [], ◌∷◌}
use mathlib.Core.Option.{Option, none, some}
use native.Mathlib.Omega.{arith}
use lib.ListN.{length, get_or, drop, replicate, length-append, length-replicate}
use borrow.Author.Tests.{le-leb}
use Rattle.answer_types.specs.Verdict.{Verdict, done, unless_refused}
use Rattle.answer_types.specs.Verdict as verdicts
use Rattle.byte_strings.specs.Lists.{part, put}
use Rattle.record_format.specs.Records.{Header, HeaderWithin, header_bytes, Node, NodeWithin, node_bytes}
use Rattle.record_format.specs.From.{header_from, node_from}
use Rattle.record_format.specs.Post.{Decides, write_verdict, front_unless, header_of, told_of, no_part, content_part, read_header}
use Rattle.record_format.proofs.From.{each_read}
use Rattle.record_format.proofs.Whole.{content_placed}
use Rattle.record_node.specs.Post.{NodeFits, node_of, no_writer, writers_placed, writers_at, node_placed, no_node}
use Rattle.record_node.specs.declared.reading.Node.{Node as CodeNode}
use Rattle.record_node.proofs.Listed.{placed_length}
use Rattle.record_node.proofs.Lying.{nodes_placed}
use Rattle.c_records.specs.Flat.{flat_node}
use Rattle.c_records.specs.Numbers.{node_numbers, node_lent}
use Rattle.c_records.proofs.Restored.{numbers_restored}
use Rattle.c_encoding.specs.Encoding.{encoded}
use Rattle.c_api.specs.Metadata.{Writes, WritesHeader, WritesNode, header_numbers, GivesHeader, encoded_node, GivesBack, WritesBack}

-- fields in bounds whose bytes are d, with room for them
given_back : (W : Type 0) (bytes d out : List ℕ) (long : ℕ) (answer after : List ℕ) (long_after : ℕ) → W → bytes ≡ d → Writes W bytes out long answer after long_after
    → length d ≤ length out → GivesBack d out answer after long_after
unfolding write_verdict
given_back W bytes d out long answer after long_after w e g room =
    record {
      answers = g.answers ∙ ap encoded is_done_lem;
      buffer = g.buffer ∙ ap (λ (v : Verdict). front_unless v bytes out) is_done_lem ∙ ap (put out 0) e;
      number = g.number ∙ ap (λ (v : Verdict). unless_refused v (length bytes) long) is_done_lem ∙ ap length e;
    }
  where
    fits : (b : Bool) → Decides W b → b ≡ true
    fits true x = refl
    fits false x = absurd (x w)

    is_done_lem : write_verdict g.fits (length bytes) (length out) ≡ done
    is_done_lem =
        ap (λ (b : Bool). write_verdict b (length bytes) (length out)) (fits g.fits g.decides)
        ∙ rw (le-leb (length bytes) (length out) (omega (arith, ap length e)))

-- an answer whose number is 0 told of a record
told_some : {A P : Type 0} (o : Option A) (beside : P) (tell : A → P) → get_or (encoded (told_of verdicts.none beside tell o).0) 0 1 ≡ 0 → (a : A) × (o ≡ some a)
told_some none beside tell e = absurd (omega arith)
told_some (some a) beside tell e = (a, refl)

headers_back : (d before read at : List ℕ) → GivesHeader (read_header verdicts.none d) before read at → get_or read 0 1 ≡ 0
    → (out : List ℕ) (long : ℕ) (answer after : List ℕ) (long_after : ℕ) → WritesHeader (part d (get_or at 0 0) (get_or at 1 0)) out long answer after long_after
    → length d ≤ length out → GivesBack d out answer after long_after
headers_back d before read at g z out long answer after long_after w room =
    let t = told_some (header_from d) no_part (λ (h : Header). content_part) (ap (λ (x : List ℕ). get_or x 0 1) (sym g.answers) ∙ z) in
    let h : Header = t.0 in
    let a = each_read.headers.gives d h t.1 in
    let there : at ≡ 14 ∷ 32 ∷ [] = g.numbers ∙ ap (λ (o : Option Header). header_numbers (told_of verdicts.none no_part (λ (x : Header). content_part) o) before) t.1 in
    let c : part d (get_or at 0 0) (get_or at 1 0) ≡ h.content = ap (λ (x : List ℕ). part d (get_or x 0 0) (get_or x 1 0)) there ∙ (content_placed d h t.1).1 in
    let same : header_of (part d (get_or at 0 0) (get_or at 1 0)) ≡ h = ap header_of c ∙ ap (λ (x : List ℕ). record { type = x; content = h.content }) (sym a.within.named) in
    given_back _ _ d out long answer after long_after (subst HeaderWithin (sym same) a.within) (ap header_bytes same ∙ a.bytes) w room

-- the list of a Node that was read has all its eight places
eight : (n : Node) → NodeWithin n → length (node_placed n).writers.list ≡ 8
eight n w =
    let front = writers_placed (writers_at n) n.writers in
    let rest = replicate (8 - length n.writers) no_writer in
    omega (arith, length-append front rest, placed_length (writers_at n) n.writers, length-replicate (8 - length n.writers) no_writer, w.few)

nodes_back : (d read : List ℕ) → read ≡ encoded_node (told_of verdicts.none no_node node_placed (node_from d)) → get_or read 0 1 ≡ 0
    → (out : List ℕ) (long : ℕ) (answer after : List ℕ) (long_after : ℕ) → WritesNode d (drop 3 read) out long answer after long_after
    → length d ≤ length out → GivesBack d out answer after long_after
nodes_back d read e z out long answer after long_after w room = by (node_from d) refl (e ∙ refl)
  where
    by : (o : Option Node) → node_from d ≡ o → read ≡ encoded_node (told_of verdicts.none no_node node_placed (node_from d)) → GivesBack d out answer after long_after
    by none q f = absurd (omega (arith, z, ap (λ (x : List ℕ). get_or x 0 1) (f ∙ ap (λ (o : Option Node). encoded_node (told_of verdicts.none no_node node_placed o)) q)))
    by (some n) q f =
        let a = each_read.nodes.gives d n q in
        let p = nodes_placed d n q in
        let numbers : drop 3 read ≡ node_numbers (flat_node (node_placed n)) = ap (drop 3) (f ∙ ap (λ (o : Option Node). encoded_node (told_of verdicts.none no_node node_placed o)) q) in
        let lent : node_lent (drop 3 read) ≡ node_placed n = ap node_lent numbers ∙ numbers_restored (node_placed n) (eight n a.within) in
        given_back _ _ d out long answer after long_after (subst (NodeFits d) (sym lent) p.fits)
        (ap (λ (m : CodeNode). node_bytes (node_of d m)) lent ∙ ap node_bytes p.fields ∙ a.bytes) w room

pub writes_back : WritesBack
writes_back = record { headers = headers_back; nodes = nodes_back }
