-- What stands in bytes where a well_formed journal was laid, whatever its own length and its hash are. Assumes nothing.
use Rattle.std.specs.Prelude.{Ok}
use Prim.Native.Nat.{ℕ, zero, suc, ◌+◌, ◌-◌, ◌*◌, ◌%◌, ◌^◌, ◌≤◌, ◌<◌}
use native.Mathlib.Omega.{arith}
use native.Mathlib.Decide.{ℕ_discrete}
use native.Mathlib.Nat.{zero-add}
use mathlib.Core.Path.{◌≡◌, refl, sym, ap, ap₂, ◌∙◌, subst}
use mathlib.Core.Logic.{⊎_elim}
use mathlib.Core.Bool.{Bool, true, false, ◌||◌}
use mathlib.Core.List.Memᴰ
use mathlib.Core.List.{List, [], ◌∷◌, ◌++◌, append_assoc, Memᴰ}
use lib.ListN.{length, get_or, length-append, length-replicate}
use lib.Dec.{eqb, leb}
use borrow.Author.Tests.{eqb-true, leb-true}
use Rattle.byte_strings.specs.Lists.{part, same_list}
use Rattle.byte_strings.specs.Numbers.{be, number}
use Rattle.byte_strings.specs.Lowest.{nowhere}
use Rattle.byte_strings.proofs.Lists.{part_at, part_front, part_behind, part_left, length_run, get_or_run, same_refl}
use Rattle.byte_strings.proofs.Numbers.{length_be, number_be}
use Rattle.byte_strings.proofs.Bools.{both_true}
use Rattle.byte_strings.proofs.Lowest.{right_nowhere}
use Rattle.journal.specs.Ranges.{Range, replaced, fresh, blank, witness, bytes, stop, Placed, ranges_of}
use Rattle.journal.specs.Form.{Journal, WellFormed, states_right, right_length, tree_length, signatures_length, bitfield_length, data_length, key_length, length_of}
use Rattle.journal.specs.Form.{size_of, magic, words, encode_all, old_state, new_state, change_of, FilesRise, Fits}
use Rattle.journal.specs.Places.{old_at, new_at}
use Rattle.journal.specs.Reading.{Said, state_right, states_say, reach_of, old_lengths, walked, table, begins}
use Rattle.journal.proofs.Steps.{walk_start, reach_same, reach_other}
use Rattle.journal.proofs.Lengths.{words_length}
use Rattle.theorem_journal_recovers.proofs.Places.{rising_within}
use Rattle.theorem_journal_recovers.proofs.Archive.{to_placed}
use Rattle.theorem_journal_exact.proofs.Test.{sound_from, tested_sound}
use Rattle.theorem_journal_exact.proofs.Exact.{table_is}
use Rattle.theorem_journal_exact.proofs.Made.{Alike, Encodable}
use Rattle.theorem_journal_exact.proofs.Passes.{Right, passes}

-- ---- numbers that are held to a bound

-- the longest file
abbrev most : ℕ
most = 68719476736

module _ (l : ℕ) where
  of_key : key_length l ≡ true → l ≤ most
  unfolding key_length
  of_key e = let x = eqb-true l 32 e in omega arith

  of_tree : tree_length l ≡ true → l ≤ most
  unfolding tree_length
  of_tree e = let x = leb-true l 83886072 (both_true (leb l 83886072) _ e).0 in omega arith

  of_signatures : signatures_length l ≡ true → l ≤ most
  unfolding signatures_length
  of_signatures e = let x = leb-true l 67108896 (both_true (leb l 67108896) _ e).0 in omega arith

  of_bitfield : bitfield_length l ≡ true → l ≤ most
  unfolding bitfield_length
  of_bitfield e = let x = leb-true l 426016 (both_true (leb l 426016) _ e).0 in omega arith

  of_data : data_length l ≡ true → l ≤ most
  unfolding data_length
  of_data e = leb-true l most e

  picked : (a b c d : Bool)
      → elim a as (λ x. Bool) [
        | true ↦ key_length l
        | false ↦ elim b as (λ x. Bool) [
          | true ↦ tree_length l
          | false ↦ elim c as (λ x. Bool)
              [ true ↦ signatures_length l | false ↦ elim d as (λ x. Bool) [ true ↦ bitfield_length l | false ↦ data_length l ] ]
        ]
      ] ≡ true
      → l ≤ most
  picked true b c d e = of_key e
  picked false true c d e = of_tree e
  picked false false true d e = of_signatures e
  picked false false false true e = of_bitfield e
  picked false false false false e = of_data e

  right_bound : (i : ℕ) → right_length i l ≡ true → l ≤ most
  unfolding right_length
  right_bound i e = picked (leb 8 i) (eqb (i % 4) 0) (eqb (i % 4) 1) (eqb (i % 4) 2) e

-- old states are below new ones, and these below the bound
record Bounded (o n : ℕ) : Type 0 where
  grows : o ≤ n
  most_new : n ≤ 68719476737

bounded : (i o n : ℕ) → states_right i o n ≡ true → Bounded o n
unfolding states_right
bounded i o n e = let x = both_true (leb o n) _ e in record { grows = leb-true o n x.0; most_new = go (eqb n 0) refl x.1 }
  where
    go : (b : Bool) → eqb n 0 ≡ b → (eqb n 0 || right_length i (length_of n)) ≡ true → n ≤ 68719476737
    go true d y = let z = eqb-true n 0 d in omega arith
    go false d y =
        let z : length_of n ≤ most = right_bound (length_of n) i (sym (ap (λ (b : Bool). b || right_length i (length_of n)) d) ∙ y) in
        omega arith

pub eight : 256 ^ 8 ≡ 18446744073709551616
eight = refl

-- ---- words

word_at : (xs : List ℕ) (k : ℕ) → k < length xs → part (words xs) (8 * k) 8 ≡ be 8 (get_or xs k 0)
unfolding words
word_at [] k h = absurd (omega arith)
word_at (x ∷ xs) zero h = part_front (be 8 x) (words xs) 8 (length_be 8 x)
word_at (x ∷ xs) (suc k) h =
    let d : 8 * suc k ≡ 8 + 8 * k = omega arith in
    ap (λ (n : ℕ). part (be 8 x ++ words xs) n 8) d ∙ part_behind (be 8 x) (words xs) 8 (8 * k) 8 (length_be 8 x) ∙ word_at xs k (omega arith)

-- ---- the ranges

pub below_ten : (f : ℕ) (ps : List Placed) (p : Placed) → FilesRise f ps → Memᴰ p ps → p.file < 10
below_ten f [] p r k = absurd (Memᴰ.not-nil k)
below_ten f (q ∷ ps) p r k = ⊎_elim (λ e. subst (λ (z : Placed). z.file < 10) (sym e) r.1) (λ t. below_ten q.file ps p r.2 t) (Memᴰ.cases_cons k)

size_bytes : (r : Range) → size_of r ≡ length (bytes r)
size_bytes (replaced at o n) = refl
size_bytes (fresh at n) = refl
size_bytes (blank at k) = sym (length-replicate {A = ℕ} k 0)
size_bytes (witness at w) = refl

alike : (m : ℕ) (r : Range) → Fits m r → Alike r
alike m (replaced at o n) f = f.0
alike m (fresh at n) f = tt
alike m (blank at k) f = tt
alike m (witness at w) f = tt

module _ (x : Journal) (w : WellFormed x) where
  abbrev pub body_end_lem : ℕ
  body_end_lem = 184 + length (encode_all x.ranges)

  bound : (i : ℕ) → i < 10 → Bounded (old_state x i) (new_state x i)
  bound i h = bounded i (old_state x i) (new_state x i) (w.right i h)

  pub encodable : (p : Placed) → Memᴰ p x.ranges → Encodable p.range
  encodable p k =
      let h = below_ten 0 x.ranges p w.files k in
      let s = w.sound p.file h in
      let m = to_placed p.file x.ranges p k refl in
      let l : stop p.range ≤ length_of (new_state x p.file) = rising_within 0 (ranges_of p.file x.ranges) (length_of (new_state x p.file)) s.rising p.range m in
      let b = bound p.file h in
      let n = b.most_new in
      let z = size_bytes p.range in
      let q = eight in
      record { offset = omega arith; size = omega arith; alike = alike (length_of (old_state x p.file)) p.range (s.fits p.range m) }

  module _ (j own tail : List ℕ) (ol : length own ≡ 8) (laid : j ≡ magic ++ (own ++ (words x.states ++ (encode_all x.ranges ++ tail)))) where
    abbrev rest : List ℕ
    rest = encode_all x.ranges ++ tail

    pub laid_front : begins j ≡ true
    laid_front =
        ap (λ (z : List ℕ). same_list (part z 0 16) magic) laid
        ∙ ap (λ (z : List ℕ). same_list z magic) (part_front magic (own ++ (words x.states ++ rest)) 16 refl) ∙ same_refl magic

    state_at : (k : ℕ) → k < 20 → get_or x.states k 0 < 256 ^ 8 → number (part j (24 + 8 * k) 8) ≡ get_or x.states k 0
    state_at k h v =
        let t = w.ten in
        let l = words_length x.states in
        let z : length (magic ++ own) ≡ 24 = length-append magic own ∙ omega (arith, ol) in
        ap number
        (ap (λ (y : List ℕ). part y (24 + 8 * k) 8) (laid ∙ sym (append_assoc magic own (words x.states ++ rest)))
        ∙ part_behind (magic ++ own) (words x.states ++ rest) 24 (8 * k) 8 z
        ∙ part_left (words x.states) rest (8 * k) 8 (omega arith) ∙ word_at x.states k (omega arith))
        ∙ number_be 8 (get_or x.states k 0) v

    pub laid_old : (i : ℕ) → i < 10 → old_at j i ≡ old_state x i
    laid_old i h =
        let b = bound i h in
        let g = b.grows in
        let n = b.most_new in
        let p = eight in
        let d : 24 + 16 * i ≡ 24 + 8 * (2 * i) = omega arith in
        ap (λ (n : ℕ). number (part j n 8)) d ∙ state_at (2 * i) (omega arith) (omega arith)

    pub laid_new : (i : ℕ) → i < 10 → new_at j i ≡ new_state x i
    laid_new i h =
        let b = bound i h in
        let n = b.most_new in
        let p = eight in
        let d : 32 + 16 * i ≡ 24 + 8 * (2 * i + 1) = omega arith in
        ap (λ (n : ℕ). number (part j n 8)) d ∙ state_at (2 * i + 1) (omega arith) (omega arith)

    -- ---- the table

    state_right_lem : (i : ℕ) → i < 10 → state_right j i ≡ true
    unfolding state_right
    state_right_lem i h = ap₂ (states_right i) (laid_old i h) (laid_new i h) ∙ w.right i h

    no_reach : (i : ℕ) → reach_of i 0 0 ≡ 0
    no_reach i = go (ℕ_discrete i 0)
      where
        go : Dec (i ≡ 0) → reach_of i 0 0 ≡ 0
        go (yes e) = sym (reach_same i 0 0 e)
        go (no n) = sym (reach_other i 0 0 n)

    rights : Right j 0 0 (old_lengths j) x.ranges
    rights =
        record {
          rise = w.files;
          each = λ p k. (encodable p k, w.each p k);
          sound = λ i h.
              let c : get_or (old_lengths j) i 0 ≡ length_of (old_state x i) =
              get_or_run (λ k. length_of (old_at j k)) 0 10 i 0 h ∙ ap (λ (n : ℕ). length_of (old_at j n)) (zero-add i) ∙ ap length_of (laid_old i h) in
              ap₂ (λ (o n : ℕ). sound_from (length_of o) (length_of n) (reach_of i 0 0) (get_or (old_lengths j) i 0) (ranges_of i x.ranges)) (laid_old i h) (laid_new i h)
              ∙ ap₂ (λ (a q : ℕ). sound_from (length_of (old_state x i)) (length_of (new_state x i)) a q (ranges_of i x.ranges)) (no_reach i) c ∙ tested_sound (change_of x i) (w.sound i h);
        }

    pub laid_ranges : part j 184 (body_end_lem - 184) ≡ encode_all x.ranges
    laid_ranges =
        let n : body_end_lem - 184 ≡ length (encode_all x.ranges) = omega arith in
        let a : length ((magic ++ own) ++ words x.states) ≡ 184 =
        length-append (magic ++ own) (words x.states) ∙ omega (arith, length-append magic own, ol, words_length x.states, w.ten) in
        ap (λ (y : List ℕ). part y 184 (body_end_lem - 184))
        (laid ∙ sym (append_assoc magic own (words x.states ++ rest)) ∙ sym (append_assoc (magic ++ own) (words x.states) rest))
        ∙ part_at ((magic ++ own) ++ words x.states) (encode_all x.ranges) tail 184 (body_end_lem - 184) a (sym n)

    pub laid_long : body_end_lem ≤ length j
    laid_long =
        let a : length j ≡ length magic + length (own ++ (words x.states ++ rest)) = ap length laid ∙ length-append magic (own ++ (words x.states ++ rest)) in
        let t = w.ten in
        omega (arith, length-append own (words x.states ++ rest), length-append (words x.states) rest, words_length x.states, length-append (encode_all x.ranges) tail)

    walked_is : walked j body_end_lem ≡ Ok body_end_lem
    walked_is =
        walk_start j body_end_lem
        ∙ passes j body_end_lem laid_long x.ranges (suc body_end_lem) 0 0 (old_lengths j) 184 (length_run (λ k. length_of (old_at j k)) 0 10)
        (omega arith) (omega arith) laid_ranges rights

    no_state : (s : Said) → states_say nowhere s ≡ s
    unfolding states_say
    no_state s = refl

    pub laid_table : table j body_end_lem ≡ Ok body_end_lem
    laid_table =
        table_is j body_end_lem
        ∙ ap₂ states_say (right_nowhere (state_right j) 0 10 (λ i h. ap (state_right j) (zero-add i) ∙ state_right_lem i h)) walked_is
        ∙ no_state (Ok body_end_lem)
