-- An append to any bitfield file: it writes within the used bytes of n + 1 chunks, leaves the header, and reads nothing behind them. Assumes nothing.
use Prim.Native.Nat.{ℕ, ◌+◌, ◌/◌, ◌%◌, ◌≤◌, ◌<◌}
use mathlib.Core.Path.{◌≡◌, refl, sym, ap, ◌∙◌}
use mathlib.Core.Bool.{true}
use mathlib.Core.Logic.{⊎_elim}
use mathlib.Core.List.{List, [], ◌∷◌, ◌++◌}
use native.Mathlib.Omega.{arith}
use lib.ListN.{length, take, drop, length-set, length-replicate, take-append-drop}
use lib.Seq.{length-take-le, take_at, drop_at, take-set-le}
use Rattle.byte_strings.specs.Lists.{part, put, zeros, among}
use Rattle.byte_strings.proofs.Lists.{part_left, length_put, take_put}
use Rattle.tree_index.specs.Tree.{filled_by, entries}
use Rattle.tree_index.proofs.Filled.{filled_below}
use Rattle.tree_index.proofs.Appended.{filled_by_filled}
use Rattle.bitfield.specs.Bits.{with_digit, change_bit, set_bit}
use Rattle.bitfield.specs.Index.{index_bytes}
use Rattle.bitfield.specs.Append.{bits_place, zeroed_if_new, set_data_bit, set_tree_bit, set_tree_bits, regenerated, with_bits, appended}
use Rattle.bitfield.proofs.Image.{bit_local, put_local}
use Rattle.bitfield.proofs.Levels.{same_or, length_index}
use Rattle.bitfield.proofs.Append.{zeroed_new, zeroed_old, entries_after}
use Rattle.file_format.specs.Sizes.{most_chunks, used_bitfield}
use Rattle.writing.proofs.Entries.{among_head, among_tail}

-- a change leaves the length of a list, its header, and what follows the list
pub record Stays (f : List ℕ → List ℕ) (xs : List ℕ) : Type 0 where
  pub long : length (f xs) ≡ length xs
  pub front : take 32 (f xs) ≡ take 32 xs
  pub rest : (ys : List ℕ) → f (xs ++ ys) ≡ f xs ++ ys

-- one change behind another
then : (f g : List ℕ → List ℕ) (xs : List ℕ) → Stays f xs → Stays g (f xs) → Stays (λ l. g (f l)) xs
then f g xs a b = record { long = b.long ∙ a.long; front = b.front ∙ a.front; rest = λ ys. ap g (a.rest ys) ∙ b.rest ys }

put_stays : (xs : List ℕ) (p : ℕ) (zs : List ℕ) → 32 ≤ p → p + length zs ≤ length xs → Stays (λ l. put l p zs) xs
put_stays xs p zs l h =
    record { long = length_put xs p zs h; front = take_put 32 xs p zs l (omega arith); rest = λ ys. (put_local zs).within xs ys p h }

bit_stays : (xs : List ℕ) (p b : ℕ) → 32 ≤ p → p + b / 8 < length xs → Stays (λ l. set_bit l p b) xs
unfolding change_bit
bit_stays xs p b l h =
    record { long = simp length-set; front = take-set-le 32 xs (p + b / 8) _ (omega arith); rest = λ ys. (bit_local with_digit b).within xs ys p (omega arith) }

like : (f g : List ℕ → List ℕ) (xs : List ℕ) → ((l : List ℕ) → f l ≡ g l) → Stays g xs → Stays f xs
like f g xs e s = record { long = ap length (e xs) ∙ s.long; front = ap (take 32) (e xs) ∙ s.front; rest = λ ys. e (xs ++ ys) ∙ s.rest ys ∙ ap (λ (l : List ℕ). l ++ ys) (sym (e xs)) }

-- ---- the steps of an append, on a file that has the entries up to that of the chunk n

zeroed_stays : (xs : List ℕ) (n : ℕ) → bits_place (n / 8192 + 1) ≤ length xs → Stays (λ l. zeroed_if_new l n) xs
unfolding bits_place
zeroed_stays xs n h =
    ⊎_elim
    (λ e. like (λ l. zeroed_if_new l n) (λ l. put l (bits_place (n / 8192)) (zeros 3328)) xs (λ l. zeroed_new l n e)
    (put_stays xs (bits_place (n / 8192)) (zeros 3328) (omega arith) (omega (arith, length-replicate {A = ℕ} 3328 0))))
    (λ e. like (λ l. zeroed_if_new l n) (λ l. l) xs (λ l. zeroed_old l n e) (record { long = refl; front = refl; rest = λ ys. refl }))
    (same_or (n % 8192) 0)

-- bits lie before the Index of their entry
data_stays : (xs : List ℕ) (n : ℕ) → bits_place (n / 8192) + 3072 ≤ length xs → Stays (λ l. set_data_bit l n) xs
unfolding bits_place set_data_bit
data_stays xs n h = bit_stays xs (bits_place (n / 8192)) (n % 8192) (omega arith) (omega arith)

tree_stays : (is : List ℕ) (e : ℕ) (xs : List ℕ) → ((i : ℕ) → among i is ≡ true → i / 16384 ≤ e) → bits_place e + 3072 ≤ length xs → Stays (λ l. set_tree_bits l is) xs
unfolding set_tree_bits set_tree_bit bits_place
tree_stays [] e xs below h = record { long = refl; front = refl; rest = λ ys. refl }
tree_stays (i ∷ is) e xs below h =
    let b : i / 16384 ≤ e = below i (among_head i is) in
    let s : Stays (λ l. set_tree_bit l i) xs = bit_stays xs (bits_place (i / 16384) + 1024) (i % 16384) (omega arith) (omega arith) in
    then (λ l. set_tree_bit l i) (λ l. set_tree_bits l is) xs s
    (tree_stays is e (set_tree_bit xs i) (λ j p. below j (among_tail j i is p)) (omega (arith, s.long)))

index_stays : (xs : List ℕ) (e : ℕ) → bits_place (e + 1) ≤ length xs → Stays (λ l. regenerated l e) xs
unfolding bits_place regenerated
index_stays xs e h =
    let s : Stays (λ l. put l (bits_place e + 3072) (index_bytes (part xs (bits_place e) 1024))) xs =
    put_stays xs (bits_place e + 3072) (index_bytes (part xs (bits_place e) 1024)) (omega arith) (omega (arith, length_index (part xs (bits_place e) 1024))) in
    record {
      long = s.long;
      front = s.front;
      rest = λ ys. ap (λ (d : List ℕ). put (xs ++ ys) (bits_place e + 3072) (index_bytes d)) (part_left xs ys (bits_place e) 1024 (omega arith)) ∙ s.rest ys;
    }

-- the indexes that the chunk n fills have their bits in an entry up to its own
filled_entry : (n i : ℕ) → n < most_chunks → among i (filled_by n) ≡ true → i / 16384 ≤ n / 8192
unfolding entries
filled_entry n i few e = omega (arith, filled_below (n + 1) i (filled_by_filled n i (omega arith) e))

-- the bits of the chunk n, in a file that has its entry up to the Index
pub set_stays : (xs : List ℕ) (n : ℕ) → n < most_chunks → bits_place (n / 8192) + 3072 ≤ length xs → Stays (λ l. set_tree_bits (set_data_bit l n) (filled_by n)) xs
set_stays xs n few h =
    let b = data_stays xs n h in
    then (λ l. set_data_bit l n) (λ l. set_tree_bits l (filled_by n)) xs b
    (tree_stays (filled_by n) (n / 8192) (set_data_bit xs n) (λ i. filled_entry n i few) (omega (arith, b.long)))

pub with_stays : (xs : List ℕ) (n : ℕ) → n < most_chunks → bits_place (n / 8192 + 1) ≤ length xs → Stays (λ l. with_bits l n) xs
unfolding bits_place with_bits
with_stays xs n few h =
    let a = zeroed_stays xs n h in
    then (λ l. zeroed_if_new l n) (λ l. set_tree_bits (set_data_bit l n) (filled_by n)) xs a (set_stays (zeroed_if_new xs n) n few (omega (arith, a.long)))

pub bits_stay : (xs : List ℕ) (n : ℕ) → n < most_chunks → used_bitfield (n + 1) ≤ length xs → Stays (λ l. appended l n) xs
unfolding used_bitfield bits_place appended
bits_stay xs n few room =
    let h : bits_place (n / 8192 + 1) ≤ length xs = omega (arith, entries_after n) in
    let c = with_stays xs n few h in
    then (λ l. with_bits l n) (λ l. regenerated l (n / 8192)) xs c (index_stays (with_bits xs n) (n / 8192) (omega (arith, c.long)))

-- ---- the file in two parts

module _ (xs : List ℕ) (n : ℕ) (few : n < most_chunks) (room : used_bitfield (n + 1) ≤ length xs) where
  abbrev used : ℕ
  used = used_bitfield (n + 1)

  cut_long : length (take used xs) ≡ used
  cut_long = length-take-le used xs room

  stays : Stays (λ l. appended l n) (take used xs)
  stays = bits_stay (take used xs) n few (omega (arith, cut_long))

  halves : appended xs n ≡ appended (take used xs) n ++ drop used xs
  halves = ap (λ (l : List ℕ). appended l n) (sym (take-append-drop used xs)) ∙ stays.rest (drop used xs)

  pub bits_front : take used (appended xs n) ≡ appended (take used xs) n
  bits_front = ap (take used) halves ∙ take_at (appended (take used xs) n) (drop used xs) used (stays.long ∙ cut_long)

  pub bits_rest : drop used (appended xs n) ≡ drop used xs
  bits_rest = ap (drop used) halves ∙ drop_at (appended (take used xs) n) (drop used xs) used (stays.long ∙ cut_long)
