-- Range by range, the calls give what was encoded. Assumes nothing.
use Prim.Native.Nat.{ℕ, ◌+◌, ◌-◌, ◌≤◌}
use native.Mathlib.Omega.{arith}
use mathlib.Core.Path.{◌≡◌, refl, sym, ap, ap₂, ◌∙◌}
use mathlib.Core.Bool.{Bool, true, false, ◌&&◌}
use mathlib.Core.List.{List, [], ◌∷◌, Memᴰ}
use lib.ListN.{length}
use lib.Dec.{leb}
use borrow.Author.Tests.{lt-leb}
use Rattle.byte_strings.specs.Lists.{part}
use Rattle.byte_strings.proofs.Lists.{length_part}
use Rattle.journal.specs.Ranges.{Range, replaced, fresh, blank, witness, bytes, Placed}
use Rattle.journal.specs.Form.{kind_of, size_of, encode_all}
use Rattle.journal.specs.Places.{kind_at, start_at, size_at, new_place, behind, whole, range_of, range_at, length_right, body_length}
use Rattle.journal.proofs.Answers.{next_none, next_some, new_twice, new_once}
use Rattle.journal_meeting.proofs.Ranges.{is_replaced, is_fresh, is_witness}
use Rattle.theorem_journal_exact.proofs.Made.{Encodable, Stands, stands}
use Rattle.theorem_journal_exact.proofs.Passes.{one_encoded, none_long}
use Rattle.theorem_journal_whole.specs.Whole.{Shown, Gives}
use Rattle.theorem_journal_whole.proofs.OneFile.{behind_first}

module _ (j : List ℕ) (q : ℕ) where
  -- the bytes of the range that is read, kind by kind
  read_is : range_at j q ≡ range_of j (kind_at j q) (start_at j q) (size_at j q) (q + 18)
  unfolding range_at
  read_is = refl

  shown : (r : Range) → kind_at j q ≡ kind_of r → size_at j q ≡ size_of r → range_at j q ≡ r → Shown j (new_place j q) r
  shown (replaced at o n) k s e =
      ap₂ (part j) (sym (new_twice j q (size_at j q) k refl)) (sym s) ∙ ap bytes (sym (is_replaced j (kind_at j q) (start_at j q) (size_at j q) (q + 18) k) ∙ sym read_is ∙ e)
  shown (fresh at n) k s e =
      ap₂ (part j) (sym (new_once j q (omega arith))) (sym s)
      ∙ ap bytes (sym (is_fresh j (kind_at j q) (start_at j q) (size_at j q) (q + 18) (omega arith) k) ∙ sym read_is ∙ e)
  shown (blank at k) c s e = tt
  shown (witness at w) k s e =
      ap₂ (part j) (sym (new_once j q (omega arith))) (sym s)
      ∙ ap bytes (sym (is_witness j (kind_at j q) (start_at j q) (size_at j q) (q + 18) (omega arith) (omega arith) (omega arith)) ∙ sym read_is ∙ e)

module _ (j : List ℕ) (right : length_right (length j) ≡ true) where
  abbrev m : ℕ
  m = body_length j

  none_behind : (q : ℕ) → m ≤ q → whole j m q ≡ false
  unfolding whole
  none_behind q h = ap (λ (b : Bool). b && ((leb 1 (kind_at j q) && leb (kind_at j q) 4) && leb (behind j q) m)) (lt-leb (q + 18) m (omega arith))

  pub gives : (ps : List Placed) (q : ℕ) → q ≤ m → part j q (m - q) ≡ encode_all ps → ((p : Placed) → Memᴰ p ps → Encodable p.range) → Gives j q ps
  gives [] q g h each =
      let x : length (part j q (m - q)) ≡ m - q = length_part j q (m - q) (omega arith) in
      let y : length (part j q (m - q)) ≡ 0 = ap length h ∙ none_long in
      sym (next_none j q right (none_behind q (omega arith)))
  gives (p ∷ ps) q g h each =
      let s : Stands j m q p = stands j m q g (omega arith) p (each p (Memᴰ.head refl)) (encode_all ps) (h ∙ one_encoded p ps) in
      let b = behind_first j m (omega arith) q p ps g h in
      let l = b.0 in
      let z = s.ends in (
        sym (next_some j q (behind j q) right s.is_whole refl),
        record { file = s.file; kind = s.kind; offset = s.begins; size = s.size; shown = shown j q p.range s.kind s.size s.range },
        gives ps (behind j q) (omega arith) (ap (λ (n : ℕ). part j n (m - n)) z ∙ b.1) (λ r k. each r (Memᴰ.tail k)),
      )
