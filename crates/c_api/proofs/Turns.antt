-- What the calls on a table of waiting reads answer to C.
use Rattle.std.specs.Prelude.{Result, ⊤}
use Rattle.answer_types.specs.declared.Refusal.{Refusal}
use Prim.Native.Nat.{ℕ}
use mathlib.Core.Path.{◌≡◌, sym, ap, ap₂, ◌∙◌, subst}
use mathlib.Core.List.{List, [], ◌∷◌}
use lib.ListN.{get_or}
use Rattle.answer_types.specs.Meaning.{said}
use Rattle.blake2b.specs.Hash.{node_hash}
use Rattle.file_format.specs.Belongs.{Register}
use Rattle.lookup.specs.Read.{Name, named, read_found}
use Rattle.lookup.specs.Meaning.{name_of}
use Rattle.lookup.specs.declared.reading.Name.{Name as CodeName}
use Rattle.station_queue.specs.Table.{Read, Turn, nobody, turn, next}
use Rattle.station_queue.specs.Words.{table_of}
use Rattle.station_queue.specs.Post.{Entered, Left}
use Rattle.station_reads.specs.Serving.{number_of, named_by}
use Rattle.c_encoding.specs.Encoding.{encoded, verdict_of, numbers_unless, Gives, as_part}
use Rattle.c_encoding.proofs.Laws.{three_of}
use Rattle.c_api.specs.Waiting.{Enters, Hands, encoded_serving, numbers_served}

-- an entry, from the register that a number names
pub enters : (s k c : ℕ) (n : Name) (before : List ℕ) (a : Result ⊤ Refusal) (after : List ℕ) (answer : List ℕ) → n ≡ named_by k
    → Entered s (record { register = number_of n; chunk = c }) before a after → answer ≡ encoded (said a)
    → Enters s (record { register = number_of (named_by k); chunk = c }) before answer after
enters s k c n before a after answer by h e =
    subst (λ (x : Name). Enters s (record { register = number_of x; chunk = c }) before answer after) by
    (record { answers = e ∙ ap encoded h.answers; table = h.table; numbers = h.numbers })

-- a read of the register that a case of its name stands for
pub gives_named : (x y : CodeName) (m c : Register) (i : ℕ) (before : List ℕ) (answer : List ℕ) (after : List ℕ) → x ≡ y
    → Gives (as_part (read_found node_hash (named (name_of y) m c) i)) before answer after
    → Gives (as_part (read_found node_hash (named (name_of x) m c) i)) before answer after
gives_named x y m c i before answer after e g =
    subst (λ (z : CodeName). Gives (as_part (read_found node_hash (named (name_of z) m c) i)) before answer after) (sym e) g

abbrev told_of : ℕ → ℕ → ℕ → List ℕ → List ℕ
told_of s i j b = 1 ∷ s ∷ j ∷ i ∷ b

-- a serving, from whose turn it is
module _ (m c : Register) (before after two : List ℕ) (l : Left before after) where
  pub hands_nobody : nobody ≡ next (table_of before) → Hands m c before two (encoded_serving m c nobody) after two
  hands_nobody e =
      record {
        answers = ap (encoded_serving m c) e;
        part = ap (λ (v : Turn). numbers_served m c v two) e;
        table = l.table;
        numbers = l.numbers;
      }

  pub hands_turn : (s : ℕ) (r : Read) (n : Name) (k : ℕ) (a two_after : List ℕ) → turn s r ≡ next (table_of before)
      → n ≡ named_by r.register → k ≡ number_of n → Gives (as_part (read_found node_hash (named n m c) r.chunk)) two a two_after
      → Hands m c before two (told_of s r.chunk k (get_or a 0 0 ∷ get_or a 1 0 ∷ get_or a 2 0 ∷ [])) after two_after
  hands_turn s r n k a two_after e by number g =
      record {
        answers =
            ap₂ (told_of s r.chunk) (number ∙ ap number_of by)
            (three_of a (verdict_of (as_part (read_found node_hash (named n m c) r.chunk))) g.answers ∙ ap
            (λ (x : Name). encoded (verdict_of (as_part (read_found node_hash (named x m c) r.chunk)))) by)
            ∙ ap (encoded_serving m c) e;
        part =
            g.numbers ∙ ap (λ (x : Name). numbers_unless (as_part (read_found node_hash (named x m c) r.chunk)) two) by
            ∙ ap (λ (v : Turn). numbers_served m c v two) e;
        table = l.table;
        numbers = l.numbers;
      }
