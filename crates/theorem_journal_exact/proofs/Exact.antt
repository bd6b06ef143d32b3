-- What reading accepts is the encoding of a well_formed journal. Assumes nothing.
use Rattle.std.specs.Prelude.{is_ok}
use Prim.Native.Nat.{ℕ, zero, suc, ◌+◌, ◌-◌, ◌*◌, ◌≤◌, ◌<◌}
use native.Mathlib.Omega.{arith}
use native.Mathlib.Decide.{ℕ_discrete}
use native.Mathlib.Nat.{zero-add}
use mathlib.Core.Path.{◌≡◌, refl, sym, ap, ap₂, ◌∙◌}
use mathlib.Core.Bool.{Bool, true, false}
use mathlib.Core.List.{List, [], ◌∷◌, ◌++◌}
use lib.ListN.{length, get_or, take, drop, length-drop}
use lib.Dec.{eqb}
use borrow.Author.Tests.{eqb-true}
use Rattle.byte_strings.specs.Lists.{part, run, same_list, Bytes}
use Rattle.byte_strings.specs.Numbers.{be, number}
use Rattle.byte_strings.specs.Lowest.{Lowest, nowhere, first, lowest}
use Rattle.byte_strings.proofs.Lists.{length_part, part_add, length_run, get_or_run, bytes_part, same_eq}
use Rattle.byte_strings.proofs.Numbers.{be_number}
use Rattle.byte_strings.proofs.Bools.{not_both}
use Rattle.journal.specs.Ranges.{ranges_of}
use Rattle.journal.specs.Form.{Journal, WellFormed, Sound, states_right, length_of, magic, words, encode_all, long_of, body, journal_bytes, old_state, new_state, change_of}
use Rattle.journal.specs.Places.{old_at, new_at, length_right, body_length}
use Rattle.journal.specs.Reading.{Said, state_right, states_say, reach_of, old_lengths, walked, table, begins, own_length, read}
use Rattle.journal.proofs.Steps.{walk_start, reach_same, reach_other}
use Rattle.journal.proofs.Answers.{right_least, right_most, read_length, read_first, read_own, read_table, read_hash}
use Rattle.theorem_journal_recovers.proofs.Archive.{states_grow}
use Rattle.theorem_journal_exact.specs.Exact.{Hashed}
use Rattle.theorem_journal_exact.proofs.Test.{sound_from, sound_tested}
use Rattle.theorem_journal_exact.proofs.Walk.{lowest_none, Accepted, accepted}

-- ---- the tests that were passed

pub record Passed (F : List ℕ → List ℕ) (j : List ℕ) : Type 0 where
  pub long : length_right (length j) ≡ true
  pub front : begins j ≡ true
  pub own : eqb (own_length j) (length j) ≡ true
  pub tabled : is_ok (table j (body_length j)) ≡ true
  pub hashed : same_list (F (take (body_length j) j)) (drop (body_length j) j) ≡ true

pub passed : (F : List ℕ → List ℕ) (j : List ℕ) → is_ok (read F j) ≡ true → Passed F j
passed F j e =
    go (length_right (length j)) refl (begins j) refl (eqb (own_length j) (length j)) refl (is_ok (table j (body_length j))) refl
    (same_list (F (take (body_length j) j)) (drop (body_length j) j)) refl
  where
    never : {A : Type 0} (s : Said) → s ≡ read F j → is_ok s ≡ false → A
    never s x y = not_both (sym y ∙ ap is_ok x ∙ e)

    go : (a : Bool) → length_right (length j) ≡ a → (b : Bool) → begins j ≡ b → (c : Bool) → eqb (own_length j) (length j) ≡ c → (d : Bool) → is_ok (table j (body_length j)) ≡ d
        → (h : Bool) → same_list (F (take (body_length j) j)) (drop (body_length j) j) ≡ h → Passed F j
    go false x b y c z d w h v = never _ (read_length F j x) refl
    go true x false y c z d w h v = never _ (read_first F j x y) refl
    go true x true y false z d w h v = never _ (read_own F j x y z) refl
    go true x true y true z false w h v = never (table j (body_length j)) (read_table F j x y z (table j (body_length j)) refl w) w
    go true x true y true z true w false v = never _ (read_hash F j x y z (table j (body_length j)) refl w v) refl
    go true x true y true z true w true v = record { long = x; front = y; own = z; tabled = w; hashed = v }

states_passed : (l : Lowest) (s : Said) → is_ok (states_say l s) ≡ true → (l ≡ nowhere) × (is_ok s ≡ true)
unfolding states_say
states_passed nowhere s e = (refl, e)
states_passed (first i) s e = not_both e

pub table_is : (j : List ℕ) (m : ℕ) → table j m ≡ states_say (lowest (state_right j) 0 10) (walked j m)
unfolding table
table_is j m = refl

state_is : (j : List ℕ) (i : ℕ) → state_right j i ≡ true → states_right i (old_at j i) (new_at j i) ≡ true
unfolding state_right
state_is j i e = e

front_part_lem : (j : List ℕ) (m : ℕ) → take m j ≡ part j 0 m
unfolding part
front_part_lem j m = refl

no_words : (j : List ℕ) (p : ℕ) → [] ≡ part j p 0
unfolding part
no_words j p = refl

-- ---- numbers of eight bytes

module _ (j : List ℕ) (b : Bytes j) where
  pub words_read : (n i : ℕ) → 24 + 8 * (i + n) ≤ length j → words (run (λ k. number (part j (24 + 8 * k) 8)) i n) ≡ part j (24 + 8 * i) (8 * n)
  unfolding words run
  words_read zero i h = no_words j (24 + 8 * i)
  words_read (suc n) i h =
      let d : 24 + 8 * i + 8 ≡ 24 + 8 * suc i = omega arith in
      let e : 8 * suc n ≡ 8 + 8 * n = omega arith in
      ap₂ (λ (x y : List ℕ). x ++ y) (be_number 8 (part j (24 + 8 * i) 8) (bytes_part j (24 + 8 * i) 8 b) (length_part j (24 + 8 * i) 8 (omega arith))) (words_read n (suc i) (omega arith))
      ∙ ap (λ (p : ℕ). part j (24 + 8 * i) 8 ++ part j p (8 * n)) (sym d)
      ∙ sym (ap (part j (24 + 8 * i)) e ∙ part_add j (24 + 8 * i) 8 (8 * n))

pub split : (n : ℕ) (xs : List ℕ) → take n xs ++ drop n xs ≡ xs
split zero xs = refl
split (suc n) [] = refl
split (suc n) (x ∷ xs) = ap (λ (ys : List ℕ). x ∷ ys) (split n xs)

-- ---- the journal of a table that is right, up to the end m

module _ (j : List ℕ) (b : Bytes j) (m : ℕ) (least : 184 ≤ m) (most : m + 32 ≤ 268435456) (inside : m ≤ length j) (tabled : is_ok (table j m) ≡ true) where
  tests : (lowest (state_right j) 0 10 ≡ nowhere) × (is_ok (walked j m) ≡ true)
  tests = states_passed (lowest (state_right j) 0 10) (walked j m) (sym (ap is_ok (table_is j m)) ∙ tabled)

  pub ranges : Accepted j m 0 0 (old_lengths j) 184
  ranges =
      accepted j b m inside (suc m) 0 0 (old_lengths j) 184 (length_run (λ k. length_of (old_at j k)) 0 10) least (omega arith) (sym (ap is_ok (walk_start j m)) ∙ tests.1)

  abbrev pub journal_in : Journal
  journal_in = record { states = run (λ k. number (part j (24 + 8 * k) 8)) 0 20; ranges = ranges.ps }

  old_is : (i : ℕ) → i < 10 → old_state journal_in i ≡ old_at j i
  old_is i h =
      let d : 24 + 8 * (0 + 2 * i) ≡ 24 + 16 * i = omega arith in
      get_or_run (λ k. number (part j (24 + 8 * k) 8)) 0 20 (2 * i) 0 (omega arith) ∙ ap (λ (n : ℕ). number (part j n 8)) d

  new_is : (i : ℕ) → i < 10 → new_state journal_in i ≡ new_at j i
  new_is i h =
      let d : 24 + 8 * (0 + (2 * i + 1)) ≡ 32 + 16 * i = omega arith in
      get_or_run (λ k. number (part j (24 + 8 * k) 8)) 0 20 (2 * i + 1) 0 (omega arith) ∙ ap (λ (n : ℕ). number (part j n 8)) d

  rights : (i : ℕ) → i < 10 → states_right i (old_state journal_in i) (new_state journal_in i) ≡ true
  rights i h = ap₂ (states_right i) (old_is i h) (new_is i h) ∙ state_is j i (lowest_none (state_right j) 10 tests.0 i h)

  grows : (i : ℕ) → i < 10 → old_state journal_in i ≤ new_state journal_in i
  grows i h = states_grow i (old_state journal_in i) (new_state journal_in i) (rights i h)

  no_reach : (i : ℕ) → reach_of i 0 0 ≡ 0
  no_reach i = go (ℕ_discrete i 0)
    where
      go : Dec (i ≡ 0) → reach_of i 0 0 ≡ 0
      go (yes e) = sym (reach_same i 0 0 e)
      go (no n) = sym (reach_other i 0 0 n)

  sounds : (i : ℕ) → i < 10 → Sound (change_of journal_in i)
  sounds i h =
      let g = grows i h in
      let c : get_or (old_lengths j) i 0 ≡ length_of (old_at j i) = get_or_run (λ k. length_of (old_at j k)) 0 10 i 0 h ∙ ap (λ (n : ℕ). length_of (old_at j n)) (zero-add i) in
      sound_tested (change_of journal_in i) (omega arith)
      (ap₂ (λ (o n : ℕ). sound_from (length_of o) (length_of n) 0 (length_of o) (ranges_of i ranges.ps)) (old_is i h) (new_is i h)
      ∙ sym (ap₂ (λ (a q : ℕ). sound_from (length_of (old_at j i)) (length_of (new_at j i)) a q (ranges_of i ranges.ps)) (no_reach i) c) ∙ ranges.sound i h)

  pub longs : long_of journal_in ≡ m + 32
  unfolding long_of
  longs =
      let e : length (encode_all ranges.ps) ≡ m - 184 = sym (ap length ranges.encodes) ∙ length_part j 184 (m - 184) (omega arith) in
      omega arith

  pub well_formed : WellFormed journal_in
  well_formed =
      record {
        ten = length_run (λ k. number (part j (24 + 8 * k) 8)) 0 20;
        right = rights;
        files = ranges.rise;
        each = ranges.some;
        sound = sounds;
        bound = let l = longs in omega arith;
      }

  -- the table stands behind the own length
  pub table_part : part j 24 (m - 24) ≡ words journal_in.states ++ encode_all journal_in.ranges
  table_part =
      let d : m - 24 ≡ 160 + (m - 184) = omega arith in
      ap (part j 24) d ∙ part_add j 24 160 (m - 184) ∙ ap₂ (λ (x y : List ℕ). x ++ y) (sym (words_read j b 20 0 (omega arith))) ranges.encodes

  -- and all bytes up to m are the first ones, those of the own length and these
  pub front_is : begins j ≡ true → take m j ≡ magic ++ (part j 16 8 ++ (words journal_in.states ++ encode_all journal_in.ranges))
  front_is f =
      let d : m ≡ 16 + (8 + (m - 24)) = omega arith in
      front_part_lem j m ∙ ap (part j 0) d ∙ part_add j 0 16 (8 + (m - 24))
      ∙ ap₂ (λ (x y : List ℕ). x ++ y) (same_eq (part j 0 16) magic f) (part_add j 16 8 (m - 24) ∙ ap (λ (y : List ℕ). part j 16 8 ++ y) table_part)

-- ---- the journal that was read

module _ (F : List ℕ → List ℕ) (j : List ℕ) (b : Bytes j) (p : Passed F j) where
  abbrev m : ℕ
  m = body_length j

  least : 216 ≤ length j
  least = right_least (length j) p.long

  pub low : 184 ≤ body_length j
  low = omega (arith, least)

  pub high : body_length j + 32 ≤ 268435456
  high = omega (arith, least, right_most (length j) p.long)

  pub inside : body_length j ≤ length j
  inside = omega arith

  abbrev pub journal_read : Journal
  journal_read = journal_in j b m low high inside p.tabled

  pub read_formed : WellFormed journal_read
  read_formed = well_formed j b m low high inside p.tabled

  pub read_long : long_of journal_read ≡ length j
  read_long = longs j b m low high inside p.tabled ∙ omega (arith, least)

  own_is : part j 16 8 ≡ be 8 (long_of journal_read)
  own_is =
      sym (be_number 8 (part j 16 8) (bytes_part j 16 8 b) (length_part j 16 8 (omega (arith, least))))
      ∙ ap (be 8) (eqb-true (own_length j) (length j) p.own ∙ sym read_long)

  body_is : take m j ≡ body journal_read
  unfolding body
  body_is =
      front_is j b m low high inside p.tabled p.front
      ∙ ap (λ (x : List ℕ). magic ++ (x ++ (words journal_read.states ++ encode_all journal_read.ranges))) own_is

  pub encodes : j ≡ journal_bytes F journal_read
  unfolding journal_bytes
  encodes =
      sym (split m j)
      ∙ ap₂ (λ (x y : List ℕ). x ++ y) body_is (sym (same_eq (F (take m j)) (drop m j) p.hashed) ∙ ap F body_is)

  -- what it was compared with has 32 bytes
  pub read_hashed : Hashed F journal_read
  read_hashed =
      ap (λ (x : List ℕ). length (F x)) (sym body_is) ∙ ap length (same_eq (F (take m j)) (drop m j) p.hashed) ∙ length-drop m j ∙ omega (arith, least)
