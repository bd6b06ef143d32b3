-- What a serving answers, hands back and leaves, from whose turn it is. Assumes nothing.
use Prim.Native.Nat.{ℕ}
use mathlib.Core.Path.{◌≡◌, refl, ap, ◌∙◌}
use mathlib.Core.List.{List, []}
use native.Mathlib.Omega.{arith}
use borrow.Author.Tests.{eq-eqb, ne_eqb}
use Rattle.answer_types.specs.Verdict.{Spot, Verdict, done, refused}
use Rattle.file_format.specs.Belongs.{Register}
use Rattle.lookup.specs.Read.{Name, metadata, contents, named, chunk_bytes, verdict_found, bytes_found, read_found, read_verdict, read_part}
use Rattle.lookup.specs.Lookup.{Found, refusal, found}
use Rattle.lookup.proofs.Calls.{reading}
use Rattle.station_queue.specs.Table.{Read, Table, Turn, nobody, turn, without, next, served}
use Rattle.station_queue.specs.Words.{table_of}
use Rattle.station_queue.specs.Post.{Left}
use Rattle.station_reads.specs.Serving.{named_by, Serving, none, station, serving, served_part, after_serving, Serves, AgreesForAll}

-- the register that a number names
pub first_named : (k : ℕ) → k ≡ 0 → metadata ≡ named_by k
unfolding named_by
first_named k e = rw (eq-eqb k 0 e)

pub second_named : (k : ℕ) → (k ≡ 0 → ⊥) → contents ≡ named_by k
unfolding named_by
second_named k h = rw (ne_eqb k 0 h)

module _ (F : List ℕ → List ℕ) (m c : Register) (v : Turn) where
  pub answers_none : nobody ≡ v → none ≡ serving F v m c
  answers_none e = ap (λ (x : Turn). serving F x m c) e

  pub part_none : nobody ≡ v → [] ≡ served_part F v m c
  part_none e = ap (λ (x : Turn). served_part F x m c) e

  pub answers_one : (s : ℕ) (r : Read) (n : Name) (a : Verdict) → turn s r ≡ v → n ≡ named_by r.register
      → a ≡ read_verdict F (named n m c) r.chunk → station s a ≡ serving F v m c
  answers_one s r n a e by q =
      ap (station s) (q ∙ ap (λ (x : Name). read_verdict F (named x m c) r.chunk) by) ∙ ap (λ (x : Turn). serving F x m c) e

  pub part_one : (s : ℕ) (r : Read) (n : Name) (given : List ℕ) → turn s r ≡ v → n ≡ named_by r.register
      → given ≡ read_part F (named n m c) r.chunk → given ≡ served_part F v m c
  part_one s r n given e by q =
      q ∙ ap (λ (x : Name). read_part F (named x m c) r.chunk) by ∙ ap (λ (x : Turn). served_part F x m c) e

-- the table after a serving does not look at what the read is answered
leaves : (F : List ℕ → List ℕ) (m c : Register) (v : Turn) (t : Table) → without v t ≡ after_serving (serving F v m c) t
leaves F m c nobody t = refl
leaves F m c (turn s r) t = refl

pub serves : (F : List ℕ → List ℕ) (m c : Register) (before after given : List ℕ) → given ≡ served_part F (next (table_of before)) m c
    → Left before after → Serves F m c before after given
unfolding served
serves F m c before after given p l =
    record { part = p; table = l.table ∙ leaves F m c (next (table_of before)) (table_of before); left = l }

-- ---- what is handed back agrees with what is said

module _ (F : List ℕ → List ℕ) (m c : Register) (s : ℕ) (r : Read) where
  abbrev from : Register
  from = named (named_by r.register) m c

  -- a read that is refused hands back nothing
  none_by : (k : ℕ) (at : Spot) → read_verdict F from r.chunk ≡ refused k at → read_part F from r.chunk ≡ []
  unfolding read_verdict read_part
  none_by k at = go (read_found F from r.chunk)
    where
      go : (f : Found) → verdict_found f ≡ refused k at → bytes_found from.content f ≡ []
      go (refusal m s) e = refl
      go (found a b) e = let z : ◌≡◌ {A = ℕ} 0 1 = cc in absurd (omega arith)

abbrev verdict_of_lem : Serving → Verdict
verdict_of_lem none = done
verdict_of_lem (station s v) = v

abbrev read_of : Turn → Read → Read
read_of nobody r = r
read_of (turn s q) r = q

pub agrees : AgreesForAll
agrees F m c nobody =
    record {
      nothing = λ e. refl;
      refusal = λ s k at e. refl;
      chunk = λ s e r p. let z : ◌≡◌ {A = ℕ} 0 1 = cc in absurd (omega arith);
      idle = λ e. refl;
      turned = λ s r p. let z : ◌≡◌ {A = ℕ} 0 1 = cc in absurd (omega arith);
    }
agrees F m c (turn s r) =
    record {
      nothing = λ e. let z : ◌≡◌ {A = ℕ} 0 1 = cc in absurd (omega arith);
      refusal = λ x k at e. none_by F m c s r k at (ap verdict_of_lem e);
      chunk = λ x e q p.
          (reading F (from F m c s r) r.chunk (ap verdict_of_lem e)).bytes
          ∙ ap (λ (y : Read). chunk_bytes (named (named_by y.register) m c) y.chunk) (ap (λ (v : Turn). read_of v r) p);
      idle = λ e. let z : ◌≡◌ {A = ℕ} 0 1 = cc in absurd (omega arith);
      turned = λ x q p. ap (λ (v : Turn). serving F v m c) p;
    }
