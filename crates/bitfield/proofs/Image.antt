-- The bitfield's entries: their lengths, their bytes, and what one bit or a new Index does to them. Assumes nothing.
use mathlib.Core.Path.{◌≡◌, refl, sym, ap, ◌∙◌, subst}
use mathlib.Core.Bool.{Bool, false}
use mathlib.Core.List.{List, ◌∷◌, ◌++◌, append_assoc}
use Prim.Native.Nat.{ℕ, zero, suc, ◌+◌, ◌-◌, ◌*◌, ◌/◌, ◌%◌, ◌<◌, ◌≤◌}
use native.Mathlib.Nat.{add-zero, zero-add, add_assoc, mul_comm, suc-mul, mul-le-mul_right}
use native.Mathlib.Omega.{arith}
use lib.ListN.{length, take, drop, length-append, replicate-append-replicate}
use lib.Seq.{take-append-le, drop-append-le}
use Rattle.byte_strings.specs.Lists.{part, put, run, joined, Bytes, zeros}
use Rattle.byte_strings.proofs.Lists.{take_behind, drop_behind, joined_run_add, length_joined, run_ext, bytes_append, bytes_joined, part_behind, part_left, part_part, part_joined, part_front}
use Rattle.byte_strings.proofs.Lists.{put_whole}
use Rattle.tree_index.specs.Tree.{filled, depth, block, trailing_ones}
use Rattle.bitfield.specs.Bits.{bytes_of, byte_of, change_bit}
use Rattle.bitfield.specs.Index.{index_bytes, index_byte, node, tuples, tuple, combined, combine, four}
use Rattle.bitfield.specs.Image.{data_bytes, tree_bytes, entry, entry_count, entries_for, entries_of}
use Rattle.bitfield.proofs.Bits.{Changes, bytes_of_ext, length_bytes_of, bytes_bytes_of, change_bytes_of, change_behind, change_within}
use Rattle.bitfield.proofs.Levels.{length_index, bytes_index}

-- ---- a change at a place of a list, which leaves what lies behind and before it

pub record Local (op : List ℕ → ℕ → List ℕ) (w : ℕ) : Type 0 where
  pub within : (xs ys : List ℕ) (p : ℕ) → p + w ≤ length xs → op (xs ++ ys) p ≡ op xs p ++ ys
  pub behind : (xs ys : List ℕ) (n p : ℕ) → length xs ≡ n → op (xs ++ ys) (n + p) ≡ xs ++ op ys p

pub bit_local : (f : ℕ → ℕ → ℕ) (b : ℕ) → Local (λ xs p. change_bit f xs p b) (b / 8 + 1)
bit_local f b = record { within = λ xs ys p h. change_within f xs ys p b (omega arith); behind = λ xs ys n p e. change_behind f xs ys n p b e }

put_within : (zs xs ys : List ℕ) (p : ℕ) → p + length zs ≤ length xs → put (xs ++ ys) p zs ≡ put xs p zs ++ ys
unfolding put
put_within zs xs ys p h =
    ap (λ (r : List ℕ). r ++ (zs ++ drop (p + length zs) (xs ++ ys))) (take-append-le p xs ys (omega arith))
    ∙ ap (λ (r : List ℕ). take p xs ++ (zs ++ r)) (drop-append-le (p + length zs) xs ys h) ∙ sym (simp append_assoc)

put_behind : (zs xs ys : List ℕ) (n p : ℕ) → length xs ≡ n → put (xs ++ ys) (n + p) zs ≡ xs ++ put ys p zs
unfolding put
put_behind zs xs ys n p e =
    ap (λ (r : List ℕ). r ++ (zs ++ drop (n + p + length zs) (xs ++ ys))) (take_behind xs ys n p e)
    ∙ ap (λ (r : List ℕ). xs ++ take p ys ++ (zs ++ r)) (ap (λ (k : ℕ). drop k (xs ++ ys)) (add_assoc n p (length zs)) ∙ drop_behind xs ys n (p + length zs) e)
    ∙ append_assoc xs (take p ys) (zs ++ drop (p + length zs) ys)

pub put_local : (zs : List ℕ) → Local (λ xs p. put xs p zs) (length zs)
put_local zs = record { within = put_within zs; behind = put_behind zs }

-- a change within one of equally long lists
module _ (op : List ℕ → ℕ → List ℕ) (w : ℕ) (local : Local op w) (f g : ℕ → List ℕ) (m : ℕ) (same : (j : ℕ) → length (f j) ≡ m)
    (e off : ℕ) (fits : off + w ≤ m) (there : op (f e) off ≡ g e) (other : (j : ℕ) → (j ≡ e → ⊥) → f j ≡ g j) where
  split_op : (c : ℕ) → op (joined (run f 0 e) ++ joined (run f e (suc c))) (e * m + off) ≡ joined (run g 0 e) ++ joined (run g e (suc c))
  unfolding run joined
  split_op c =
      local.behind (joined (run f 0 e)) (f e ++ joined (run f (suc e) c)) (e * m) off (length_joined f m same 0 e)
      ∙ ap (λ (r : List ℕ). joined (run f 0 e) ++ r)
      (local.within (f e) (joined (run f (suc e) c)) off (subst (λ (n : ℕ). off + w ≤ n) (sym (same e)) fits)
      ∙ ap (λ (r : List ℕ). r ++ joined (run f (suc e) c)) there
      ∙ ap (λ (r : List ℕ). g e ++ r) (ap joined (run_ext f g (suc e) c (λ j p q. other j (λ z. omega arith)))))
      ∙ ap (λ (r : List ℕ). r ++ (g e ++ joined (run g (suc e) c))) (ap joined (run_ext f g 0 e (λ j p q. other j (λ z. omega arith))))

  pub op_joined : (k : ℕ) → e < k → op (joined (run f 0 k)) (e * m + off) ≡ joined (run g 0 k)
  op_joined k h =
      let c : ℕ = k - suc e in
      let s : k ≡ e + suc c = omega arith in
      ap (λ (n : ℕ). op (joined (run f 0 n)) (e * m + off)) s
      ∙ ap (λ (l : List ℕ). op l (e * m + off)) (joined_run_add f 0 e (suc c) ∙ ap (λ (n : ℕ). joined (run f 0 e) ++ joined (run f n (suc c))) (zero-add e))
      ∙ split_op c
      ∙ sym (ap (λ (n : ℕ). joined (run g 0 n)) s ∙ joined_run_add g 0 e (suc c) ∙ ap (λ (n : ℕ). joined (run g 0 e) ++ joined (run g n (suc c))) (zero-add e))

  op_room : (k : ℕ) → e < k → e * m + off + w ≤ length (joined (run f 0 k))
  op_room k h =
      let a : suc e * m ≤ k * m = mul-le-mul_right m h in
      omega (arith, length_joined f m same 0 k, a, suc-mul e m)

  -- the same in a file, between a front of n elements and a rest
  pub op_file : (head tail : List ℕ) (n k : ℕ) → length head ≡ n → e < k → op (head ++ (joined (run f 0 k) ++ tail)) (n + (e * m + off)) ≡ head ++ (joined (run g 0 k) ++ tail)
  op_file head tail n k l h =
      local.behind head (joined (run f 0 k) ++ tail) n (e * m + off) l
      ∙ ap (λ (r : List ℕ). head ++ r)
      (local.within (joined (run f 0 k)) tail (e * m + off) (op_room k h)
      ∙ ap (λ (r : List ℕ). r ++ tail) (op_joined k h))

-- ---- entries with any Index bytes

unfoldable pub entry_with : (ℕ → Bool) → (ℕ → Bool) → (ℕ → List ℕ) → ℕ → List ℕ
entry_with held known ix e = data_bytes held e ++ (tree_bytes known e ++ ix e)

pub entry_is : (held known : ℕ → Bool) (e : ℕ) → entry held known e ≡ entry_with held known (λ j. index_bytes (data_bytes held j)) e
unfolding entry entry_with
entry_is held known e = refl

pub length_data : (held : ℕ → Bool) (e : ℕ) → length (data_bytes held e) ≡ 1024
unfolding data_bytes
length_data held e = length_bytes_of held (8192 * e) 1024

pub length_tree : (known : ℕ → Bool) (e : ℕ) → length (tree_bytes known e) ≡ 2048
unfolding tree_bytes
length_tree known e = length_bytes_of known (16384 * e) 2048

pub length_entry_with : (held known : ℕ → Bool) (ix : ℕ → List ℕ) → ((j : ℕ) → length (ix j) ≡ 256) → (e : ℕ) → length (entry_with held known ix e) ≡ 3328
unfolding entry_with
length_entry_with held known ix l e =
    length-append (data_bytes held e) (tree_bytes known e ++ ix e)
    ∙ ap (λ (n : ℕ). n + length (tree_bytes known e ++ ix e)) (length_data held e)
    ∙ ap (λ (n : ℕ). 1024 + n) (length-append (tree_bytes known e) (ix e) ∙ ap (λ (n : ℕ). n + length (ix e)) (length_tree known e) ∙ ap (λ (n : ℕ). 2048 + n) (l e))

pub length_entry : (held known : ℕ → Bool) (e : ℕ) → length (entry held known e) ≡ 3328
length_entry held known e =
    ap length (entry_is held known e)
    ∙ length_entry_with held known (λ j. index_bytes (data_bytes held j)) (λ j. length_index (data_bytes held j)) e

pub length_for : (held known : ℕ → Bool) (n : ℕ) → length (entries_for held known n) ≡ 3328 * entry_count n
unfolding entries_for
length_for held known n = length_joined (entry held known) 3328 (length_entry held known) 0 (entry_count n) ∙ mul_comm (entry_count n) 3328

pub length_entries : (held : ℕ → Bool) (n : ℕ) → length (entries_of held n) ≡ 3328 * entry_count n
length_entries held n = length_for held (filled n) n

-- every byte of the entries is below 256
pub bytes_entries : (held : ℕ → Bool) (n : ℕ) → Bytes (entries_of held n)
unfolding entries_for entry data_bytes tree_bytes
bytes_entries held n =
    bytes_joined (entry held (filled n)) 0 (entry_count n)
    (λ e. bytes_append (bytes_of held (8192 * e) 1024) (bytes_of (filled n) (16384 * e) 2048 ++ index_bytes (bytes_of held (8192 * e) 1024))
    (bytes_bytes_of held (8192 * e) 1024)
    (bytes_append (bytes_of (filled n) (16384 * e) 2048) (index_bytes (bytes_of held (8192 * e) 1024))
    (bytes_bytes_of (filled n) (16384 * e) 2048) (bytes_index (bytes_of held (8192 * e) 1024))))

-- ---- one bit changed

pub data_ext : (p q : ℕ → Bool) (e : ℕ) → ((j : ℕ) → 8192 * e ≤ j → j < 8192 * e + 8192 → p j ≡ q j) → data_bytes p e ≡ data_bytes q e
unfolding data_bytes
data_ext p q e h = bytes_of_ext p q (8192 * e) 1024 h

pub tree_ext : (p q : ℕ → Bool) (e : ℕ) → ((j : ℕ) → 16384 * e ≤ j → j < 16384 * e + 16384 → p j ≡ q j) → tree_bytes p e ≡ tree_bytes q e
unfolding tree_bytes
tree_ext p q e h = bytes_of_ext p q (16384 * e) 2048 h

module _ (f : ℕ → ℕ → ℕ) (to : (ℕ → Bool) → ℕ → ℕ → Bool) (w : Changes f to) where
  -- the bits of another entry
  pub data_other : (held : ℕ → Bool) (n e : ℕ) → (e ≡ n / 8192 → ⊥) → data_bytes held e ≡ data_bytes (to held n) e
  data_other held n e h = data_ext held (to held n) e (λ j a b. w.other held n j (λ z. h (omega arith)))

  pub tree_other : (known : ℕ → Bool) (i e : ℕ) → (e ≡ i / 16384 → ⊥) → tree_bytes known e ≡ tree_bytes (to known i) e
  tree_other known i e h = tree_ext known (to known i) e (λ j a b. w.other known i j (λ z. h (omega arith)))

  module _ (held known : ℕ → Bool) (ix : ℕ → List ℕ) where
    data_there : (n : ℕ) → change_bit f (entry_with held known ix (n / 8192)) 0 (n % 8192) ≡ entry_with (to held n) known ix (n / 8192)
    unfolding entry_with data_bytes
    data_there n =
        let e : ℕ = n / 8192 in
        let s : 8192 * e + n % 8192 ≡ n = omega arith in
        change_within f (bytes_of held (8192 * e) 1024) (tree_bytes known e ++ ix e) 0 (n % 8192)
        (subst (λ (t : ℕ). 0 + n % 8192 / 8 < t) (sym (length_bytes_of held (8192 * e) 1024)) (omega arith))
        ∙ ap (λ (r : List ℕ). r ++ (tree_bytes known e ++ ix e))
        (change_bytes_of w held (8192 * e) 1024 (n % 8192) (omega arith) ∙ ap (λ (t : ℕ). bytes_of (to held t) (8192 * e) 1024) s)

    tree_there : (i : ℕ) → change_bit f (entry_with held known ix (i / 16384)) 1024 (i % 16384) ≡ entry_with held (to known i) ix (i / 16384)
    unfolding entry_with tree_bytes
    tree_there i =
        let e : ℕ = i / 16384 in
        let s : 16384 * e + i % 16384 ≡ i = omega arith in
        ap (λ (t : ℕ). change_bit f (data_bytes held e ++ (bytes_of known (16384 * e) 2048 ++ ix e)) t (i % 16384)) (sym (add-zero 1024))
        ∙ change_behind f (data_bytes held e) (bytes_of known (16384 * e) 2048 ++ ix e) 1024 0 (i % 16384) (length_data held e)
        ∙ ap (λ (r : List ℕ). data_bytes held e ++ r)
        (change_within f (bytes_of known (16384 * e) 2048) (ix e) 0 (i % 16384)
        (subst (λ (t : ℕ). 0 + i % 16384 / 8 < t) (sym (length_bytes_of known (16384 * e) 2048)) (omega arith))
        ∙ ap (λ (r : List ℕ). r ++ ix e)
        (change_bytes_of w known (16384 * e) 2048 (i % 16384) (omega arith) ∙ ap (λ (t : ℕ). bytes_of (to known t) (16384 * e) 2048) s))

    data_elsewhere : (n j : ℕ) → (j ≡ n / 8192 → ⊥) → entry_with held known ix j ≡ entry_with (to held n) known ix j
    unfolding entry_with
    data_elsewhere n j h = ap (λ (r : List ℕ). r ++ (tree_bytes known j ++ ix j)) (data_other held n j h)

    tree_elsewhere : (i j : ℕ) → (j ≡ i / 16384 → ⊥) → entry_with held known ix j ≡ entry_with held (to known i) ix j
    unfolding entry_with
    tree_elsewhere i j h = ap (λ (r : List ℕ). data_bytes held j ++ (r ++ ix j)) (tree_other known i j h)

    module _ (long : (j : ℕ) → length (ix j) ≡ 256) (head tail : List ℕ) (front : length head ≡ 32) (k : ℕ) where
      pub data_file : (n : ℕ) → n / 8192 < k
          → change_bit f (head ++ (joined (run (entry_with held known ix) 0 k) ++ tail)) (32 + (n / 8192 * 3328 + 0)) (n % 8192)
          ≡ head ++ (joined (run (entry_with (to held n) known ix) 0 k) ++ tail)
      data_file n h =
          op_file (λ xs p. change_bit f xs p (n % 8192)) (n % 8192 / 8 + 1) (bit_local f (n % 8192)) (entry_with held known ix) (entry_with (to held n) known ix) 3328
          (length_entry_with held known ix long) (n / 8192) 0 (omega arith) (data_there n) (data_elsewhere n) head tail 32 k front h

      pub tree_file : (i : ℕ) → i / 16384 < k
          → change_bit f (head ++ (joined (run (entry_with held known ix) 0 k) ++ tail)) (32 + (i / 16384 * 3328 + 1024)) (i % 16384)
          ≡ head ++ (joined (run (entry_with held (to known i) ix) 0 k) ++ tail)
      tree_file i h =
          op_file (λ xs p. change_bit f xs p (i % 16384)) (i % 16384 / 8 + 1) (bit_local f (i % 16384)) (entry_with held known ix) (entry_with held (to known i) ix) 3328
          (length_entry_with held known ix long) (i / 16384) 1024 (omega arith) (tree_there i) (tree_elsewhere i) head tail 32 k front h

-- ---- a new Index

data_front : (held known : ℕ → Bool) (ix : ℕ → List ℕ) (e : ℕ) → part (entry_with held known ix e) 0 1024 ≡ data_bytes held e
unfolding entry_with
data_front held known ix e = part_front (data_bytes held e) (tree_bytes known e ++ ix e) 1024 (length_data held e)

module _ (held known : ℕ → Bool) (ix : ℕ → List ℕ) (long : (j : ℕ) → length (ix j) ≡ 256) where
  index_there : (e : ℕ) → put (entry_with held known ix e) 3072 (index_bytes (data_bytes held e)) ≡ entry held known e
  unfolding entry_with entry
  index_there e =
      let zs : List ℕ = index_bytes (data_bytes held e) in
      put_behind zs (data_bytes held e) (tree_bytes known e ++ ix e) 1024 2048 (length_data held e)
      ∙ ap (λ (r : List ℕ). data_bytes held e ++ r)
      (put_behind zs (tree_bytes known e) (ix e) 2048 0 (length_tree known e)
      ∙ ap (λ (r : List ℕ). tree_bytes known e ++ r) (put_whole (ix e) zs (long e ∙ sym (length_index (data_bytes held e)))))

  module _ (head tail : List ℕ) (front : length head ≡ 32) (k e : ℕ) (h : e < k) where
    pub data_part : part (head ++ (joined (run (entry_with held known ix) 0 k) ++ tail)) (32 + e * 3328) 1024 ≡ data_bytes held e
    data_part =
        let s : List ℕ = joined (run (entry_with held known ix) 0 k) in
        let l : length s ≡ k * 3328 = length_joined (entry_with held known ix) 3328 (length_entry_with held known ix long) 0 k in
        part_behind head (s ++ tail) 32 (e * 3328) 1024 front ∙ part_left s tail (e * 3328) 1024 (omega (arith, l))
        ∙ ap (λ (t : ℕ). part s t 1024) (sym (add-zero (e * 3328)))
        ∙ sym (part_part s (e * 3328) 3328 0 1024 (omega arith))
        ∙ ap (λ (r : List ℕ). part r 0 1024)
        (part_joined (entry_with held known ix) 3328 (length_entry_with held known ix long) 0 k e h ∙ ap (entry_with held known ix) (zero-add e))
        ∙ data_front held known ix e

    -- the Index of entry e made anew, where the Index of every other entry is right already
    pub index_file : (g : ℕ → List ℕ) → entry held known e ≡ g e → ((j : ℕ) → (j ≡ e → ⊥) → entry_with held known ix j ≡ g j)
        → put (head ++ (joined (run (entry_with held known ix) 0 k) ++ tail)) (32 + (e * 3328 + 3072))
        (index_bytes (part (head ++ (joined (run (entry_with held known ix) 0 k) ++ tail)) (32 + e * 3328) 1024))
        ≡ head ++ (joined (run g 0 k) ++ tail)
    index_file g here other =
        let zs : List ℕ = index_bytes (data_bytes held e) in
        ap (λ (d : List ℕ). put (head ++ (joined (run (entry_with held known ix) 0 k) ++ tail)) (32 + (e * 3328 + 3072)) (index_bytes d)) data_part
        ∙ op_file (λ xs p. put xs p zs) (length zs) (put_local zs) (entry_with held known ix) g 3328 (length_entry_with held known ix long) e 3072
        (omega (arith, length_index (data_bytes held e))) (index_there e ∙ here) other head tail 32 k front h

-- ---- a new entry

no_bytes : (b k : ℕ) → bytes_of (λ j. false) b k ≡ zeros k
unfolding bytes_of byte_of
no_bytes b zero = refl
no_bytes b (suc k) = ap {B = List ℕ} (λ r. 0 ∷ r) (no_bytes (b + 8) k)

zero_index : index_bytes (zeros 1024) ≡ zeros 256
unfolding index_bytes index_byte node tuples tuple combined combine four run depth block trailing_ones
zero_index = refl

pub zero_entry : (held known : ℕ → Bool) (e : ℕ) → ((j : ℕ) → 8192 * e ≤ j → held j ≡ false) → ((j : ℕ) → 16384 * e ≤ j → known j ≡ false)
    → entry held known e ≡ zeros 3328
unfolding entry data_bytes tree_bytes
zero_entry held known e p q =
    let a : bytes_of held (8192 * e) 1024 ≡ zeros 1024 = bytes_of_ext held (λ j. false) (8192 * e) 1024 (λ j l m. p j l) ∙ no_bytes (8192 * e) 1024 in
    let b : bytes_of known (16384 * e) 2048 ≡ zeros 2048 = bytes_of_ext known (λ j. false) (16384 * e) 2048 (λ j l m. q j l) ∙ no_bytes (16384 * e) 2048 in
    ap (λ (r : List ℕ). r ++ (bytes_of known (16384 * e) 2048 ++ index_bytes r)) a
    ∙ ap (λ (r : List ℕ). zeros 1024 ++ (r ++ index_bytes (zeros 1024))) b
    ∙ ap (λ (r : List ℕ). zeros 1024 ++ (zeros 2048 ++ r)) zero_index
    ∙ ap (λ (r : List ℕ). zeros 1024 ++ r) (replicate-append-replicate 2048 256 0) ∙ replicate-append-replicate 1024 2304 0

-- entries over tests that agree are the same
pub entry_ext : (held held' known known' : ℕ → Bool) → ((j : ℕ) → held j ≡ held' j) → ((j : ℕ) → known j ≡ known' j) → (e : ℕ) → entry held known e ≡ entry held' known' e
unfolding entry
entry_ext held held' known known' p q e =
    ap (λ (r : List ℕ). r ++ (tree_bytes known e ++ index_bytes r)) (data_ext held held' e (λ j a b. p j))
    ∙ ap (λ (r : List ℕ). data_bytes held' e ++ (r ++ index_bytes (data_bytes held' e))) (tree_ext known known' e (λ j a b. q j))

pub known_ext : (held known known' : ℕ → Bool) (ix : ℕ → List ℕ) → ((j : ℕ) → known j ≡ known' j) → (e : ℕ) → entry_with held known ix e ≡ entry_with held known' ix e
unfolding entry_with
known_ext held known known' ix q e = ap (λ (r : List ℕ). data_bytes held e ++ (r ++ ix e)) (tree_ext known known' e (λ j a b. q j))
