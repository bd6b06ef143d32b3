-- The Index of a bitfield entry follows from its data bits alone, so making it once, behind the last of them, gives what making it behind each of
-- them gives. On any bytes. Assumes nothing.
use Prim.Native.Nat.{ℕ, zero, suc, ◌+◌, ◌-◌, ◌/◌, ◌%◌, ◌≤◌, ◌<◌}
use mathlib.Core.Path.{◌≡◌, refl, sym, ap, ap₂, ◌∙◌, subst}
use mathlib.Core.Bool.{Bool, true, false, cond, ◌||◌}
use mathlib.Core.List.{List, ◌++◌}
use native.Mathlib.Nat.{le_refl}
use native.Mathlib.Omega.{arith}
use borrow.Author.Tests.{eqb-true, eqb-false, eq-eqb, ne_eqb}
use lib.Dec.{eqb}
use lib.ListN.{length, take, drop, take-append-drop}
use lib.Seq.{length-take-le, take_at, drop-drop}
use Rattle.byte_strings.specs.Lists.{part, put}
use Rattle.byte_strings.proofs.Lists.{drop_behind, take_put, drop_put, part_take}
use Rattle.byte_strings.proofs.Bools.{or_left, or_right}
use Rattle.tree_index.specs.Tree.{filled_by}
use Rattle.bitfield.specs.Index.{index_bytes}
use Rattle.bitfield.specs.Append.{bits_place, set_data_bit, set_tree_bits, regenerated, with_bits, appended}
use Rattle.bitfield.specs.Image.{entry_count}
use Rattle.bitfield.proofs.Levels.{length_index}
use Rattle.bitfield.proofs.Append.{zeroed_old}
use Rattle.file_format.specs.Sizes.{most_chunks, used_bitfield}
use Rattle.writing.proofs.Bits.{Stays, set_stays, with_stays, bits_stay}
use Rattle.append_list.specs.Inner.{bits_with, bits_next, bits_once, BitsFit}

-- ---- files that are the same but for the Index of one entry

-- where the Index of the entry e lies
abbrev place : ℕ → ℕ
place e = bits_place e + 3072

record Alike (e : ℕ) (xs ys : List ℕ) : Type 0 where
  front : take (place e) xs ≡ take (place e) ys
  rest : drop (place e + 256) xs ≡ drop (place e + 256) ys

-- the entry e lies in a file
Holds : ℕ → List ℕ → Type 0
Holds e xs = bits_place (e + 1) ≤ length xs

holds_index : (e : ℕ) (xs : List ℕ) → Holds e xs → place e + 256 ≤ length xs
unfolding Holds bits_place
holds_index e xs h = omega arith

module _ (e : ℕ) (xs ys : List ℕ) (a : Alike e xs ys) where
  -- the data bytes of the entry
  same_data : part xs (bits_place e) 1024 ≡ part ys (bits_place e) 1024
  same_data =
      sym (part_take xs (place e) (bits_place e) 1024 (omega arith)) ∙ ap (λ (l : List ℕ). part l (bits_place e) 1024) a.front
      ∙ part_take ys (place e) (bits_place e) 1024 (omega arith)

  same_put : (zs : List ℕ) → length zs ≡ 256 → put xs (place e) zs ≡ put ys (place e) zs
  unfolding put
  same_put zs l =
      ap₂ (λ (p q : List ℕ). p ++ (zs ++ q)) a.front
      (ap (λ (k : ℕ). drop (place e + k) xs) l ∙ a.rest ∙ sym (ap (λ (k : ℕ). drop (place e + k) ys) l))

  -- made anew, the Index of both is the same
  same_index : regenerated xs e ≡ regenerated ys e
  unfolding regenerated
  same_index =
      same_put (index_bytes (part xs (bits_place e) 1024)) (length_index (part xs (bits_place e) 1024))
      ∙ ap (λ (d : List ℕ). put ys (place e) (index_bytes d)) same_data

-- a file and itself with the Index made anew
index_alike : (e : ℕ) (xs : List ℕ) → Holds e xs → Alike e xs (regenerated xs e)
unfolding regenerated
index_alike e xs h =
    let zs : List ℕ = index_bytes (part xs (bits_place e) 1024) in
    let l : length zs ≡ 256 = length_index (part xs (bits_place e) 1024) in
    record {
      front = sym (take_put (place e) xs (place e) zs (le_refl (place e)) (omega (arith, holds_index e xs h)));
      rest = sym (drop_put (place e + 256) xs (place e) zs (omega arith) (omega (arith, holds_index e xs h)));
    }

-- ---- the bits of a chunk whose entry is there already

module _ (n : ℕ) (few : n < most_chunks) (old : n % 8192 ≡ 0 → ⊥) where
  abbrev bits : List ℕ → List ℕ
  bits l = set_tree_bits (set_data_bit l n) (filled_by n)

  abbrev at : ℕ
  at = place (n / 8192)

  module _ (xs : List ℕ) (h : Holds (n / 8192) xs) where
    long : length (take at xs) ≡ at
    long = length-take-le at xs (omega (arith, holds_index (n / 8192) xs h))

    stays : Stays bits (take at xs)
    stays = set_stays (take at xs) n few (omega (arith, long))

    -- they lie before the Index of the entry
    halves : with_bits xs n ≡ bits (take at xs) ++ drop at xs
    unfolding with_bits
    halves = ap bits (zeroed_old xs n old ∙ sym (take-append-drop at xs)) ∙ stays.rest (drop at xs)

    bits_front : take at (with_bits xs n) ≡ bits (take at xs)
    bits_front = ap (take at) halves ∙ take_at (bits (take at xs)) (drop at xs) at (stays.long ∙ long)

    bits_rest : drop (at + 256) (with_bits xs n) ≡ drop (at + 256) xs
    bits_rest = ap (drop (at + 256)) halves ∙ drop_behind (bits (take at xs)) (drop at xs) at 256 (stays.long ∙ long) ∙ drop-drop 256 at xs

  bits_alike : (xs ys : List ℕ) → Holds (n / 8192) xs → Holds (n / 8192) ys → Alike (n / 8192) xs ys → Alike (n / 8192) (with_bits xs n) (with_bits ys n)
  bits_alike xs ys h k a =
      record {
        front = bits_front xs h ∙ ap bits a.front ∙ sym (bits_front ys k);
        rest = bits_rest xs h ∙ a.rest ∙ sym (bits_rest ys k);
      }

-- the bits of any chunk leave the length
held : (n : ℕ) (xs : List ℕ) → n < most_chunks → Holds (n / 8192) xs → Holds (n / 8192) (with_bits xs n)
unfolding Holds
held n xs few h = omega (arith, (with_stays xs n few h).long)

-- ---- a list's bits

or_none : (a b : Bool) → a || b ≡ false → (a ≡ false) × (b ≡ false)
or_none true b e = let z : ◌≡◌ {A = ℕ} 0 1 = cc in absurd (omega arith)
or_none false b e = (refl, e)

-- the next chunk of the list goes into the entry of the chunk n
stays_open : (n k : ℕ) → (eqb k 0 || eqb ((n + 1) % 8192) 0) ≡ false → (0 < k) × ((n + 1) % 8192 ≡ 0 → ⊥) × ((n + 1) / 8192 ≡ n / 8192)
stays_open n k e =
    let w = or_none (eqb k 0) (eqb ((n + 1) % 8192) 0) e in
    let some : k ≡ 0 → ⊥ = eqb-false k 0 w.0 in
    let none : (n + 1) % 8192 ≡ 0 → ⊥ = eqb-false ((n + 1) % 8192) 0 w.1 in
    (omega (arith, some), none, omega (arith, none))

next_closed : (xs : List ℕ) (n : ℕ) (last : Bool) → (last || eqb ((n + 1) % 8192) 0) ≡ true → bits_next xs n last ≡ appended xs n
unfolding bits_next appended
next_closed xs n last e = ap (λ (b : Bool). cond b (regenerated (with_bits xs n) (n / 8192)) (with_bits xs n)) e

next_open : (xs : List ℕ) (n : ℕ) (last : Bool) → (last || eqb ((n + 1) % 8192) 0) ≡ false → bits_next xs n last ≡ with_bits xs n
unfolding bits_next
next_open xs n last e = ap (λ (b : Bool). cond b (regenerated (with_bits xs n) (n / 8192)) (with_bits xs n)) e

-- the rest of the list does not ask what stood in the Index of the entry before, where the entry gets a data bit
Same : ℕ → ℕ → Type 0
Same k n =
    (xs ys : List ℕ) → 0 < k → n + k ≤ most_chunks → (n % 8192 ≡ 0 → ⊥) → Holds (n / 8192) xs → Holds (n / 8192) ys → Alike (n / 8192) xs ys
    → bits_once xs n k ≡ bits_once ys n k

module _ (k n : ℕ) (few : n < most_chunks) where
  abbrev closes : Bool
  closes = eqb k 0 || eqb ((n + 1) % 8192) 0

  next_same : (xs ys : List ℕ) → Holds (n / 8192) xs → Holds (n / 8192) ys → Alike (n / 8192) (with_bits xs n) (with_bits ys n)
      → (n + 1 + k ≤ most_chunks) → Same k (n + 1) → (t : Bool) → closes ≡ t
      → bits_once (bits_next xs n (eqb k 0)) (n + 1) k ≡ bits_once (bits_next ys n (eqb k 0)) (n + 1) k
  unfolding appended Same
  next_same xs ys h g b all rec true e =
      ap (λ (l : List ℕ). bits_once l (n + 1) k)
      (next_closed xs n (eqb k 0) e ∙ same_index (n / 8192) (with_bits xs n) (with_bits ys n) b ∙ sym (next_closed ys n (eqb k 0) e))
  next_same xs ys h g b all rec false e =
      let o = stays_open n k e in
      let there : (l : List ℕ) → Holds (n / 8192) l → Holds ((n + 1) / 8192) (with_bits l n) =
      λ l p. subst (λ (i : ℕ). Holds i (with_bits l n)) (sym o.2) (held n l few p)
      in
      ap (λ (l : List ℕ). bits_once l (n + 1) k) (next_open xs n (eqb k 0) e)
      ∙ rec (with_bits xs n) (with_bits ys n) o.0 all o.1 (there xs h) (there ys g) (subst (λ (i : ℕ). Alike i (with_bits xs n) (with_bits ys n)) (sym o.2) b)
      ∙ sym (ap (λ (l : List ℕ). bits_once l (n + 1) k) (next_open ys n (eqb k 0) e))

alike_once : (k n : ℕ) → Same k n
unfolding bits_once Same
alike_once zero n xs ys some few old h g a = absurd (omega arith)
alike_once (suc k) n xs ys some few old h g a =
    next_same k n (omega arith) xs ys h g (bits_alike n (omega arith) old xs ys h g a) (omega arith) (alike_once k (n + 1)) (eqb k 0 || eqb ((n + 1) % 8192) 0) refl

-- the entry of the first of k chunks lies in the file
room_holds : (n k : ℕ) (xs : List ℕ) → 0 < k → used_bitfield (n + k) ≤ length xs → Holds (n / 8192) xs
unfolding used_bitfield entry_count bits_place Holds
room_holds n k xs some h = omega arith

pub room_one : (n k : ℕ) (xs : List ℕ) → 0 < k → used_bitfield (n + k) ≤ length xs → used_bitfield (n + 1) ≤ length xs
unfolding used_bitfield entry_count
room_one n k xs some h = omega arith

module _ (k n : ℕ) (xs : List ℕ) (few : n + 1 + k ≤ most_chunks) (there : Holds (n / 8192) xs) (grown : length (appended xs n) ≡ length xs) where
  -- an Index that is made early is made again
  later : (0 < k) × ((n + 1) % 8192 ≡ 0 → ⊥) × ((n + 1) / 8192 ≡ n / 8192) → bits_once (with_bits xs n) (n + 1) k ≡ bits_once (appended xs n) (n + 1) k
  unfolding appended Holds Same
  later o =
      let set : Holds (n / 8192) (with_bits xs n) = held n xs (omega arith) there in
      alike_once k (n + 1) (with_bits xs n) (appended xs n) o.0 few o.1
      (subst (λ (i : ℕ). Holds i (with_bits xs n)) (sym o.2) set)
      (subst (λ (i : ℕ). Holds i (appended xs n)) (sym o.2) (omega (arith, grown, there)))
      (subst (λ (i : ℕ). Alike i (with_bits xs n) (appended xs n)) (sym o.2) (index_alike (n / 8192) (with_bits xs n) set))

  next_once : bits_once (appended xs n) (n + 1) k ≡ bits_with (appended xs n) (n + 1) k → (t : Bool) → (eqb k 0 || eqb ((n + 1) % 8192) 0) ≡ t
      → bits_once (bits_next xs n (eqb k 0)) (n + 1) k ≡ bits_with (appended xs n) (n + 1) k
  next_once rec true e = ap (λ (l : List ℕ). bits_once l (n + 1) k) (next_closed xs n (eqb k 0) e) ∙ rec
  next_once rec false e = ap (λ (l : List ℕ). bits_once l (n + 1) k) (next_open xs n (eqb k 0) e) ∙ later (stays_open n k e) ∙ rec

pub once : (k n : ℕ) (xs : List ℕ) → n + k ≤ most_chunks → used_bitfield (n + k) ≤ length xs → bits_once xs n k ≡ bits_with xs n k
unfolding bits_once bits_with
once zero n xs few h = refl
once (suc k) n xs few h =
    let grown : length (appended xs n) ≡ length xs = (bits_stay xs n (omega arith) (room_one n (suc k) xs (omega arith) h)).long in
    let more : n + 1 + k ≡ n + suc k = omega arith in
    next_once k n xs (omega arith) (room_holds n (suc k) xs (omega arith) h) grown
    (once k (n + 1) (appended xs n) (omega arith) (subst (λ (m : ℕ). used_bitfield m ≤ length (appended xs n)) (sym more) (omega arith)))
    (eqb k 0 || eqb ((n + 1) % 8192) 0) refl

-- ---- the code's steps

or_both : (a b : Bool) → a ≡ false → b ≡ false → a || b ≡ false
or_both a b e f = ap (λ (x : Bool). x || b) e ∙ f

module _ (xs set : List ℕ) (n m : ℕ) (last : Bool) (same : m ≡ n) (bits : set ≡ with_bits xs m) where
  -- with the Index, behind the last of the list
  module _ (made : List ℕ) (index : made ≡ regenerated set (m / 8192)) where
    closed : (last || eqb ((n + 1) % 8192) 0) ≡ true → made ≡ bits_next xs n last
    unfolding appended
    closed e =
        index ∙ ap₂ (λ (l : List ℕ) (i : ℕ). regenerated l (i / 8192)) bits same ∙ ap (λ (i : ℕ). regenerated (with_bits xs i) (n / 8192)) same
        ∙ sym (next_closed xs n last e)

    pub last_listed : last ≡ true → made ≡ bits_next xs n last
    last_listed e = closed (or_left last (eqb ((n + 1) % 8192) 0) e)

    -- or of its entry
    pub last_held : (n + 1) % 8192 ≡ 0 → made ≡ bits_next xs n last
    last_held e = closed (or_right last (eqb ((n + 1) % 8192) 0) (eq-eqb ((n + 1) % 8192) 0 e))

  -- and without it
  pub not_last : last ≡ false → ((n + 1) % 8192 ≡ 0 → ⊥) → set ≡ bits_next xs n last
  not_last e f =
      bits ∙ ap (with_bits xs) same ∙ sym (next_open xs n last (or_both last (eqb ((n + 1) % 8192) 0) e (ne_eqb ((n + 1) % 8192) 0 f)))

-- the last of the list
last_of : (i end : ℕ) → i + 1 ≤ end → eqb (i + 1) end ≡ eqb (end - (i + 1)) 0
last_of i end h = split (eqb (i + 1) end) refl
  where
    split : (t : Bool) → eqb (i + 1) end ≡ t → t ≡ eqb (end - (i + 1)) 0
    split true e = sym (eq-eqb (end - (i + 1)) 0 (omega (arith, eqb-true (i + 1) end e)))
    split false e = let d : i + 1 ≡ end → ⊥ = eqb-false (i + 1) end e in sym (ne_eqb (end - (i + 1)) 0 (λ z. d (omega arith)))

module _ (b : List ℕ) (n k : ℕ) where
  -- what the chunks from n on do is what those from i on still do
  pub once_first : bits_once b n (n + k - n) ≡ bits_once b n k
  once_first = let m : n + k - n ≡ k = omega arith in ap (bits_once b n) m

  pub once_next : (xs ys : List ℕ) (i end : ℕ) → i < end → ys ≡ bits_next xs i (eqb (i + 1) end) → bits_once xs i (end - i) ≡ bits_once b n k
      → bits_once ys (i + 1) (end - (i + 1)) ≡ bits_once b n k
  unfolding bits_once
  once_next xs ys i end h q e =
      let m : end - i ≡ suc (end - (i + 1)) = omega arith in
      ap (λ (l : List ℕ). bits_once l (i + 1) (end - (i + 1))) (q ∙ ap (bits_next xs i) (last_of i end (omega arith))) ∙ sym (ap (bits_once xs i) m) ∙ e

  pub once_all : (xs : List ℕ) (i end : ℕ) → BitsFit b n k → end ≤ i → bits_once xs i (end - i) ≡ bits_once b n k → xs ≡ bits_with b n k
  unfolding bits_once
  once_all xs i end w h e =
      let z : end - i ≡ 0 = omega arith in
      sym (ap (bits_once xs i) z) ∙ e ∙ once k n b w.few w.room

  -- each has its room
  pub bit_room : (xs : List ℕ) (i : ℕ) → BitsFit b n k → i < n + k → length xs ≡ length b → (i < 1048576) × (bits_place (i / 8192 + 1) ≤ length xs)
  unfolding used_bitfield entry_count bits_place
  bit_room xs i w h e = (omega (arith, w.few), omega (arith, w.room))
