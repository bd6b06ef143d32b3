-- When the fields of a Node are within the bounds. Assumes nothing.
use Prim.Native.Nat.{ℕ, ◌<◌, ◌≤◌}
use mathlib.Core.Path.{◌≡◌, refl, sym, ap, ◌∙◌, subst}
use mathlib.Core.Bool.{Bool, true, false}
use lib.Dec.{eqb}
use borrow.Author.Tests.{eqb-true, eqb-false}
use mathlib.Core.List.{List}
use native.Mathlib.Omega.{arith}
use native.Mathlib.Nat.{add-zero}
use lib.ListN.{length, get_or}
use Rattle.std.specs.Prelude.{Option as Maybe, Some}
use Rattle.byte_strings.proofs.Lists.{get_d_part, length_part, length_run}
use Rattle.record_fields.specs.Fields.{Most}
use Rattle.record_fields.specs.Inner.{part_of, number_of, Inside}
use Rattle.record_fields.specs.declared.rows.Part.{Part}
use Rattle.record_format.specs.Post.{Decides}
use Rattle.record_format.proofs.Writing.{carried}
use Rattle.record_node.specs.Post.{no_writer, writer_at, NodeFits}
use Rattle.record_node.specs.Inner.{Lies, PathLies, BytesLie, WriterLies, WritersLie, ValueFits}
use Rattle.record_node.specs.declared.writers.Writer.{Writer as CodeWriter}
use Rattle.record_node.specs.declared.writers.Writers.{Writers}
use Rattle.record_node.specs.declared.reading.Node.{Node as CodeNode}
use Rattle.record_node.proofs.Listed.{within_all, all_within, listed}

-- ---- paths

module _ (d : List ℕ) (p : Part) (h : Inside d p) where
  long : length (part_of d p) ≡ p.len
  long = length_part d p.at p.len h

  first : 0 < p.len → get_or (part_of d p) 0 0 ≡ get_or d p.at 0
  first l = get_d_part d p.at p.len 0 0 l ∙ ap (λ (n : ℕ). get_or d n 0) (add-zero p.at)

  pub path_empty : p.len ≡ 0 → PathLies d p → ⊥
  path_empty e w = omega (arith, long, w.within.some)

  pub path_long : 255 < p.len → PathLies d p → ⊥
  path_long l w = omega (arith, long, w.within.short)

  module _ (some : p.len ≡ 0 → ⊥) where
    pub path_decided : p.len ≤ 255 → Decides (PathLies d p) (eqb (get_or d p.at 0) 47)
    path_decided l = go (eqb (get_or d p.at 0) 47) refl
      where
        go : (b : Bool) → eqb (get_or d p.at 0) 47 ≡ b → Decides (PathLies d p) b
        go true e = record {
          inside = h;
          within = record { some = omega (arith, long, some); short = omega (arith, long); slash = first (omega (arith, some)) ∙ eqb-true (get_or d p.at 0) 47 e };
        }
        go false e = λ w. eqb-false (get_or d p.at 0) 47 e (sym (first (omega (arith, some))) ∙ w.within.slash)

-- ---- parts

module _ (d : List ℕ) {field : Maybe Part} (longest : ℕ) {p : Part} (e : field ≡ Some p) where
  pub lie_long : longest < p.len → BytesLie d field longest → ⊥
  lie_long l w =
      let v : BytesLie d (Some p) longest = subst (λ (o : Maybe Part). BytesLie d o longest) e w in
      omega (arith, length_part d p.at p.len v.inside, v.within)

  pub lie_given : p.len ≤ longest → (r : Bool) → Decides (Lies d p) r → Decides (BytesLie d field longest) r
  lie_given l r h = carried (Lies d p) (BytesLie d field longest) r to from h
    where
      to : Lies d p → BytesLie d field longest
      to i = subst (λ (o : Maybe Part). BytesLie d o longest) (sym e) (record { inside = i; within = omega (arith, length_part d p.at p.len i) })

      from : BytesLie d field longest → Lies d p
      from w = (subst (λ (o : Maybe Part). BytesLie d o longest) e w).inside

-- ---- Writers

module _ {d : List ℕ} {w : CodeWriter} where
  pub key_short : (w.key.len ≡ 32 → ⊥) → WriterLies d w → ⊥
  key_short n h = n (sym (length_part d w.key.at w.key.len h.inside.key) ∙ h.within.key)

module _ (d : List ℕ) (w : CodeWriter) where
  pub writer_lies_lem : w.key.len ≡ 32 → Lies d w.key → (r : Bool) → Decides (BytesLie d w.permission 16) r → Decides (WriterLies d w) r
  writer_lies_lem e i r h = carried (BytesLie d w.permission 16) (WriterLies d w) r to (λ v. record { inside = v.inside.permission; within = v.within.permission }) h
    where
      to : BytesLie d w.permission 16 → WriterLies d w
      to b = record {
        inside = record { key = i; permission = b.inside };
        within = record { key = length_part d w.key.at w.key.len i ∙ e; permission = b.within };
      }

-- as many as were judged lie
abbrev pub Judged : List ℕ → List CodeWriter → ℕ → Type 0
Judged d list i = (j : ℕ) → j < i → WriterLies d (get_or list j no_writer)

module _ {d : List ℕ} {ws : Writers} where
  pub writers_one : (i : ℕ) → i < ws.count → (WriterLies d (writer_at ws i) → ⊥) → WritersLie d ws → ⊥
  writers_one i l n w = n (record { inside = w.inside.each i l; within = all_within (listed d ws.list) ws.count w.within i l })

  pub writers_all : ws.count ≤ 8 → (i : ℕ) → ws.count ≤ i → Judged d ws.list i → WritersLie d ws
  writers_all f i l h = record {
    inside = record { count = f; each = λ j k. (h j (omega arith)).inside };
    within = within_all (listed d ws.list) ws.count (λ j k. (h j (omega arith)).within);
  }

-- ---- all fields

module _ (d : List ℕ) (n : CodeNode) where
  pub node_lies : Most 18446744073709551615 (number_of n.sequence) → PathLies d n.path → ValueFits n.value → BytesLie d n.trie 1024
      → (r : Bool) → Decides (WritersLie d n.writers) r → Decides (NodeFits d n) r
  node_lies number p v t r h = carried (WritersLie d n.writers) (NodeFits d n) r to (λ w. record { inside = w.inside.writers; within = w.within.writers }) h
    where
      to : WritersLie d n.writers → NodeFits d n
      to w = record {
        inside = record { path = p.inside; trie = t.inside; writers = w.inside };
        within = record {
          path = p.within;
          value = v;
          trie = t.within;
          few = omega (arith, length_run (listed d n.writers.list) 0 n.writers.count, w.inside.count);
          writers = w.within;
          writers_sequence = number;
        };
      }
