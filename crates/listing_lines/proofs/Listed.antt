-- The stored lines of a register that belongs to chunks are the lines of these chunks.
-- Assumes nothing.
use Prim.Native.Nat.{ℕ, ◌+◌, ◌-◌, ◌*◌, ◌^◌, ◌≤◌, ◌<◌}
use mathlib.Core.Path.{◌≡◌, refl, sym, ap, ap₂, ◌∙◌, subst}
use mathlib.Core.Bool.{Bool, true, false}
use mathlib.Core.List.{List, [], ◌∷◌, ◌++◌}
use native.Mathlib.Nat.{sub-zero}
use native.Mathlib.Omega.{arith}
use borrow.Author.Tests.{leb-true, le-leb, lt-leb}
use lib.Dec.{leb}
use lib.ListN.{length, get_or, take, drop}
use Rattle.answer_types.specs.Verdict.{Verdict, none, done, refused, unless_refused}
use Rattle.answer_types.specs.declared.Place.TheVariants.{Nowhere}
use Rattle.blake2b.specs.Hash.{node_hash}
use Rattle.checks.specs.Checks.{judged}
use Rattle.byte_strings.specs.Lists.{part, put, run, joined, total}
use Rattle.byte_strings.proofs.Lists.{length_part, get_d_part, run_from, run_ext}
use Rattle.tree_index.specs.Tree.{depth, block, filled, entries}
use Rattle.tree_index.proofs.Index.{index_of}
use Rattle.tree_index.proofs.Filled.{block_end, filled_end}
use Rattle.file_format.specs.Stored.{stored_size, stored_start}
use Rattle.file_format.specs.Images.{data_size}
use Rattle.file_format.specs.Slots.{all_held}
use Rattle.file_format.specs.Belongs.{Register}
use Rattle.file_format.proofs.Spans.{span, span_all, span_add}
use Rattle.file_format.proofs.Slots.{all_length, all_contents}
use Rattle.file_format.proofs.OfImage.{stored_start_lem, stored_span}
use Rattle.listing_lines.specs.Input.{Input, chunks, before, input_of}
use Rattle.listing_lines.specs.Lines.{line, kind_word, hole_word, first_under, count_under, start_of, length_of, first_line, entry_line, lines_of, lines_for, refused_line, listing}
use Rattle.listing_lines.specs.Inner.{Put, Read, Printable, Ready, Reading, behind, first_of, roots_of, stored_line, stored_entries, stored_lines}
use Rattle.listing_lines.specs.Post.{list_verdict, listing_bytes, Listed}
use Rattle.std.specs.Prelude.{Result, Ok, Err}
use Rattle.answer_types.specs.declared.Refusal.{Refusal}
use Rattle.listing_lines.proofs.Put.{wider_put, same_put}
use Rattle.file_format.proofs.Hashed.{hash_function}
use Rattle.listing_lines.proofs.Entries.{first_le}

-- the lengths of a part of the chunks
pub span_part : (cs : List (List ℕ)) (a c : ℕ) → a + c ≤ length cs → span cs a c ≡ data_size (part cs a c)
unfolding span
span_part cs a c h =
    ap total
    (run_from (λ j. length (get_or cs j [])) a c
    ∙ run_ext (λ j. length (get_or cs (a + j) [])) (λ j. length (get_or (part cs a c) j [])) 0 c (λ j p q. ap length (sym (get_d_part cs a c j [] (omega arith)))))
    ∙ ap (λ (k : ℕ). total (run (λ j. length (get_or (part cs a c) j [])) 0 k)) (sym (length_part cs a c h)) ∙ span_all (part cs a c)

span_take : (cs : List (List ℕ)) (k : ℕ) → k ≤ length cs → span cs 0 k ≡ data_size (take k cs)
unfolding part
span_take cs k h = span_part cs 0 k (omega arith)

-- a filled index has its chunks among the n
under_end : (n i : ℕ) → filled n i ≡ true → first_under i + count_under i ≤ n
unfolding first_under count_under
under_end n i h = omega (arith, block_end (depth i) (block i), filled_end n (depth i) (block i) (ap (filled n) (index_of i) ∙ h))

-- the line of an entry that is filled or not
abbrev shown : ℕ → ℕ → ℕ → Bool → List ℕ
shown i start len f = elim f [ true ↦ line i (kind_word i) start len | false ↦ line i hole_word 0 0 ]

module _ (r : Register) (cs : List (List ℕ)) (y : Ready r cs) where
  counted : r.n ≡ length cs
  counted = y.belongs.count ∙ all_length cs

  summed : r.size ≡ data_size cs
  summed = y.belongs.total ∙ ap data_size (all_contents cs)

  starts : (k : ℕ) → k ≤ r.n → stored_start r.tree k ≡ span cs 0 k
  starts k h = stored_start_lem node_hash hash_function (all_held cs) y.within r y.belongs k h ∙ ap (λ (l : List (List ℕ)). span l 0 k) (all_contents cs)

  first_start : (i : ℕ) → filled r.n i ≡ true → stored_start r.tree (first_under i) ≡ start_of cs i
  unfolding start_of
  first_start i h =
      starts (first_under i) (first_le r.n i h)
      ∙ span_take cs (first_under i) (subst (λ (n : ℕ). first_under i ≤ n) counted (first_le r.n i h))

  entry_length : (i : ℕ) → filled r.n i ≡ true → stored_size r.tree i ≡ length_of cs i
  unfolding length_of first_under count_under
  entry_length i h =
      ap (stored_size r.tree) (sym (index_of i))
      ∙ stored_span node_hash hash_function (all_held cs) y.within r y.belongs (depth i) (block i)
      (filled_end r.n (depth i) (block i) (ap (filled r.n) (index_of i) ∙ h))
      ∙ ap (λ (l : List (List ℕ)). span l (block i * 2 ^ depth i) (2 ^ depth i)) (all_contents cs)
      ∙ span_part cs (block i * 2 ^ depth i) (2 ^ depth i) (subst (λ (n : ℕ). block i * 2 ^ depth i + 2 ^ depth i ≤ n) counted (under_end r.n i h))

  by_filled : (i : ℕ) (f : Bool) → filled r.n i ≡ f
      → shown i (stored_start r.tree (first_under i)) (stored_size r.tree i) f ≡ shown i (start_of cs i) (length_of cs i) f
  by_filled i true h = ap₂ (line i (kind_word i)) (first_start i h) (entry_length i h)
  by_filled i false h = refl

  line_same : (i : ℕ) → stored_line r.tree r.n i ≡ entry_line cs i
  unfolding stored_line entry_line
  line_same i =
      by_filled i (filled r.n i) refl ∙ ap (λ (n : ℕ). shown i (start_of cs i) (length_of cs i) (filled n i)) counted

  pub lines_same : stored_lines r.tree r.n r.size ≡ lines_of cs
  unfolding stored_lines stored_entries lines_of first_of roots_of first_line
  lines_same =
      ap₂ ◌++◌ (ap₂ first_of counted summed)
      (ap joined
      (run_ext (stored_line r.tree r.n) (entry_line cs) 0 (entries r.n) (λ j p q. line_same j)
      ∙ ap (λ (n : ℕ). run (entry_line cs) 0 (entries n)) counted))

  starts_small : r.size ≤ 4096 → (j : ℕ) → j ≤ r.n → stored_start r.tree j ≤ 4096
  starts_small s j h =
      let e : j + (r.n - j) ≡ r.n = omega arith in
      omega (
        arith,
        starts j h,
        span_add cs 0 j (r.n - j),
        ap (span cs 0) (e ∙ counted) ∙ span_all cs ∙ sym summed,
      )

  pub ready_printable : r.n ≤ 64 → r.size ≤ 4096 → Printable r.tree r.n
  ready_printable f s = record { few = f; room = omega (arith, y.tree); small = starts_small s }

-- ---- the input

behind_all : (cs : List (List ℕ)) → behind cs (chunks []) ≡ chunks cs
unfolding behind
behind_all [] = refl
behind_all (c ∷ cs) = ap (before c) (behind_all cs)

-- the stored lines of the register that the input was read into are the lines for the input
pub read_lines : (input : Input) (r : Register) → Reading input (chunks []) r → stored_lines r.tree r.n r.size ≡ lines_for input
unfolding lines_for
read_lines input r g = lines_same r g.cs g.ready ∙ sym (ap lines_for (g.same ∙ behind_all g.cs))

-- ---- the lines in the buffers

module _ (xs : List ℕ) (b : Bool) (r : Register) (g : Read (input_of xs) b r) {t t' : List ℕ} {len : ℕ} where
  pub refused_put : b ≡ false → Put t 0 14 refused_line len t' → Put t 0 9371 (listing xs) len t'
  unfolding listing lines_for
  refused_put e p = same_put (sym (ap lines_for (g.refused e))) (wider_put 9371 (omega arith) p)

  pub lines_put : b ≡ true → Put t 0 9371 (stored_lines r.tree r.n r.size) len t' → Put t 0 9371 (listing xs) len t'
  unfolding listing
  lines_put e p = same_put (read_lines (input_of xs) r (g.taken e)) p

pub read_printable : (xs : List ℕ) (b : Bool) (r : Register) → Read (input_of xs) b r → b ≡ true → Printable r.tree r.n
read_printable xs b r g e = ready_printable r (g.taken e).cs (g.taken e).ready g.few g.small

-- what the listing says, by whether the buffer has room
has_room : (xs out : List ℕ) (b : Bool) → leb (length (listing xs)) (length out) ≡ b
    → list_verdict xs out ≡ judged (record { number = 14; right = b } ∷ []) done
unfolding list_verdict
has_room xs out b e = ap (λ (f : Bool). judged (record { number = 14; right = f } ∷ []) done) e

-- the lines copied to a lent buffer, or not
module _ (xs out : List ℕ) {t t' : List ℕ} {len : ℕ} (p : Put t 0 9371 (listing xs) len t') where
  pub list_short : length out < len → Listed xs out (Err (record { number = 14; place = Nowhere })) out
  unfolding judged
  list_short h =
      let v : refused 14 none ≡ list_verdict xs out =
      sym (has_room xs out false (lt-leb (length (listing xs)) (length out) (omega (arith, p.next)))) in
      record {
        verdict = v;
        long = ap (λ (u : Verdict). unless_refused u (length (listing xs)) 0) v;
        buffer = ap (λ (u : Verdict). unless_refused u (put out 0 (listing xs)) out) v;
        most = p.few;
      }

  pub list_copied : {after : List ℕ} → len ≤ length out → after ≡ put out 0 (take (len - 0) (drop 0 t')) → Listed xs out (Ok len) after
  unfolding judged
  list_copied h q =
      let v : done ≡ list_verdict xs out = sym (has_room xs out true (le-leb (length (listing xs)) (length out) (omega (arith, p.next)))) in
      let k : len ≡ length (listing xs) = omega (arith, p.next) in
      record {
        verdict = v;
        long = k ∙ ap (λ (u : Verdict). unless_refused u (length (listing xs)) 0) v;
        buffer = q ∙ ap (put out 0) (ap (λ (m : ℕ). take m t') (sub-zero len) ∙ p.front)
            ∙ ap (λ (u : Verdict). unless_refused u (put out 0 (listing xs)) out) v;
        most = p.few;
      }

-- the length that is answered is one of bytes of the buffer
pub listed_length : {xs out after : List ℕ} {answer : Result ℕ Refusal} (r : ℕ) → Listed xs out answer after → answer ≡ Ok r → r ≤ length out
unfolding judged
listed_length {xs} {out} {after} {answer} r g w = by_room (leb (length (listing xs)) (length out)) refl
  where
    by_room : (b : Bool) → leb (length (listing xs)) (length out) ≡ b → r ≤ length out
    by_room true e =
        omega (arith, leb-true (length (listing xs)) (length out) e, sym (ap listing_bytes w) ∙ g.long ∙ ap (λ (u : Verdict). unless_refused u (length (listing xs)) 0) (has_room xs out true e))
    by_room false e =
        omega (arith, sym (ap listing_bytes w) ∙ g.long ∙ ap (λ (u : Verdict). unless_refused u (length (listing xs)) 0) (has_room xs out false e))
