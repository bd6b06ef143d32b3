-- What the code compares at one tree index, and what it says of the messages there.
-- Assumes nothing.
use Rattle.std.proofs.Common.{◌≡◌, ℕ, zero, suc, ◌+◌, ◌-◌, ◌*◌, ◌/◌, ◌%◌, ◌^◌, ◌<◌, ◌≤◌, Bool, true, false, not, ◌&&◌, eqb, List, []}
use Rattle.std.proofs.Common.{◌∷◌, ◌++◌, length, take, drop, sym, refl, ap, ◌∙◌, ap₂, inl, inr, true≢false, arith, length-drop, drop_of_length-le, take_all, eq-eqb, ne_eqb, eqb-true}
use native.Mathlib.Nat.{pow-succ'}
use native.Mathlib.Decide.{dec_lt}
use lib.Seq.{take-nil}
use Rattle.byte_strings.specs.Lists.{part, same_list, Bytes}
use Rattle.byte_strings.specs.Numbers.{be}
use Rattle.byte_strings.proofs.Lists.{length_part, same_eq, same_of}
use Rattle.byte_strings.proofs.Numbers.{eight_lt}
use Rattle.byte_strings.proofs.Bools.{both_true}
use Rattle.tree_index.specs.Tree.{depth, block, left_child, right_child, filled, roots}
use Rattle.tree_index.proofs.Index.{index_leaf}
use Rattle.file_format.specs.Sizes.{entry_place}
use Rattle.file_format.specs.Messages.{leaf_message, parent_message}
use Rattle.file_format.specs.Stored.{stored_hash, stored_size, stored_start, stored_chunk, stored_message, stored_root_message}
use Rattle.file_format.specs.Inner.{EntryIn}
use Rattle.file_format.proofs.Nodes.{by_depth_lem}
use Rattle.file_format.proofs.OfImage.{stored_leaf_lem}
use Rattle.checks.proofs.Steps.{and_stop, and_pass}
use Rattle.checks.specs.Capped.{most, capped}
use Rattle.checks.proofs.Capped.{capped_either}
use Rattle.audit.specs.TreeWalk.{Started, AtParent}
use Rattle.audit.proofs.Entries.{entry_in_lem, odd_depth, parent_in}
use Rattle.compare.specs.Inner.{ReadAt, sum_below, same_parent, collides_at}
use Rattle.compare.proofs.Local.{Told, told}
use Rattle.compare.proofs.Apart.{be_injective, leaf_injective, parent_injective}

-- ---- tests that say the same

-- a test of lists, and a test that is true exactly of the same lists
as_same : (b : Bool) (us vs : List ℕ) → (b ≡ true → us ≡ vs) → (us ≡ vs → b ≡ true) → b ≡ same_list us vs
as_same b us vs f g = go b refl (told us vs)
  where
    go : (x : Bool) → b ≡ x → Told us vs → b ≡ same_list us vs
    go true e (inl q) = e ∙ sym q.1
    go false e (inr q) = e ∙ sym q.1
    go true e (inr q) = absurd (q.0 (f e))
    go false e (inl q) = absurd (true≢false (sym (g q.0) ∙ e))

-- leaf messages are the same exactly where the chunks are
same_leaves : (c d : List ℕ) → same_list c d ≡ same_list (leaf_message c) (leaf_message d)
same_leaves c d = as_same (same_list c d) (leaf_message c) (leaf_message d) (λ e. ap leaf_message (same_eq c d e)) (λ e. same_of c d (leaf_injective c d e))

-- ---- what is stored

hash_long : (t : List ℕ) (i : ℕ) → EntryIn t i → length (stored_hash t i) ≡ 32
unfolding stored_hash
hash_long t i p = length_part t _ 32 (omega (arith, p.inside))

size_lt : (t : List ℕ) (i : ℕ) → Bytes t → EntryIn t i → stored_size t i < 2 ^ 64
unfolding stored_size
size_lt t i b p = omega (arith, eight_lt t (entry_place i + 32) b (omega (arith, p.inside)))

-- a number in 8 bytes stands for itself modulo 2^64
over : (k y : ℕ) → be k (256 ^ k + y) ≡ be k y
unfolding be
over zero y = refl
over (suc k) y =
    let m : ℕ = 256 ^ k in
    let e : 256 ^ suc k ≡ 256 * m = pow-succ' 256 k in
    let a : (256 ^ suc k + y) / 256 ≡ m + y / 256 = omega (arith, e) in
    let b : (256 ^ suc k + y) % 256 ≡ y % 256 = omega (arith, e) in
    ap₂ (λ (x z : ℕ). be k x ++ (z ∷ [])) a b ∙ ap (λ (xs : List ℕ). xs ++ (y % 256 ∷ [])) (over k (y / 256))

in_eight : (x : ℕ) → x < 2 ^ 65 → be 8 x ≡ be 8 (x % 2 ^ 64)
in_eight x h = elim (dec_lt x (2 ^ 64)) [
  | yes l ↦ ap (be 8) (let e : x ≡ x % 2 ^ 64 = omega arith in e)
  | no l ↦ let e : x ≡ 2 ^ 64 + x % 2 ^ 64 = omega arith in ap (be 8) e ∙ over 8 (x % 2 ^ 64)
]

-- the message of a stored parent
abbrev parent_of : List ℕ → ℕ → List ℕ
parent_of t i = parent_message (stored_size t (left_child i) + stored_size t (right_child i)) (stored_hash t (left_child i)) (stored_hash t (right_child i))

-- parent messages are the same exactly where the sums, in 8 bytes, and the child hashes are
same_parents : (t u : List ℕ) (i : ℕ) → Bytes t → Bytes u → AtParent t i → AtParent u i → same_parent t u i ≡ same_list (parent_of t i) (parent_of u i)
unfolding same_parent parent_message
same_parents t u i b b' p q = as_same (same_parent t u i) (parent_of t i) (parent_of u i) forth back
  where
    l : Bool
    l = same_list (stored_hash t (left_child i)) (stored_hash u (left_child i))

    r : Bool
    r = same_list (stored_hash t (right_child i)) (stored_hash u (right_child i))

    x : ℕ
    x = stored_size t (left_child i) + stored_size t (right_child i)

    y : ℕ
    y = stored_size u (left_child i) + stored_size u (right_child i)

    x_in : be 8 x ≡ be 8 (sum_below t i)
    x_in = in_eight x (omega (arith, size_lt t (left_child i) b p.left, size_lt t (right_child i) b p.right))

    y_in : be 8 y ≡ be 8 (sum_below u i)
    y_in = in_eight y (omega (arith, size_lt u (left_child i) b' q.left, size_lt u (right_child i) b' q.right))

    forth : same_parent t u i ≡ true → parent_of t i ≡ parent_of u i
    forth h =
        let a = both_true (eqb (sum_below t i) (sum_below u i)) (l && r) h in
        let c = both_true l r a.1 in
        let s : be 8 x ≡ be 8 y = x_in ∙ ap (be 8) (eqb-true (sum_below t i) (sum_below u i) a.0) ∙ sym y_in in
        let g = same_eq (stored_hash t (left_child i)) (stored_hash u (left_child i)) c.0 in
        let k = same_eq (stored_hash t (right_child i)) (stored_hash u (right_child i)) c.1 in
        λ j. 1 ∷ (s j ++ (g j ++ k j))

    back : parent_of t i ≡ parent_of u i → same_parent t u i ≡ true
    back h =
        let s = parent_injective _ _ (stored_hash t (left_child i)) (stored_hash u (left_child i)) (stored_hash t (right_child i)) (stored_hash u (right_child i))
        (hash_long t (left_child i) p.left) (hash_long u (left_child i) q.left) h in
        let z : sum_below t i ≡ sum_below u i =
        be_injective 8 (sum_below t i) (sum_below u i) (omega arith) (omega arith) (sym x_in ∙ s.sum ∙ y_in) in
        ap₂ ◌&&◌ (eq-eqb (sum_below t i) (sum_below u i) z)
        (ap₂ ◌&&◌ (same_of (stored_hash t (left_child i)) (stored_hash u (left_child i)) s.left) (same_of (stored_hash t (right_child i)) (stored_hash u (right_child i)) s.right))

-- the stored message, by its index
even_message : (t d : List ℕ) (i k : ℕ) → 2 * k ≡ i → stored_message t d i ≡ leaf_message (stored_chunk t d k)
even_message t d i k e = ap (stored_message t d) (sym (index_leaf k ∙ e)) ∙ stored_leaf_lem t d k

odd_message : (t d : List ℕ) (i : ℕ) → 0 < depth i → stored_message t d i ≡ parent_of t i
unfolding stored_message
odd_message t d i h =
    let e : depth i ≡ suc (depth i - 1) = omega arith in
    ap (λ (x : ℕ). by_depth_lem x (leaf_message (stored_chunk t d (block i))) (parent_of t i)) e

-- ---- one register at an entry

-- bytes that begin where no data reach are none
part_capped : (d : List ℕ) (x k : ℕ) → length d < 2 ^ 63 → part d (capped x) k ≡ part d x k
unfolding part
part_capped d x k h =
    capped_either (λ y. take k (drop y d) ≡ take k (drop x d)) x (λ l. refl)
    (λ l. ap (take k) (drop_of_length-le d {i = most} (omega arith) ∙ sym (drop_of_length-le d {i = x} (omega arith))))

module _ {t : List ℕ} {n i start : ℕ} (p : ReadAt t n i start) where
  pub read_entry : EntryIn t i
  read_entry = entry_in_lem p.room p.entry

  pub read_started : Started t i start
  read_started = record { entry = read_entry; here = p.here }

  pub read_parent : (i % 2 ≡ 0 → ⊥) → filled n i ≡ true → AtParent t i
  read_parent = parent_in p.room

  chunk_is : (d : List ℕ) → length d < 2 ^ 63 → i % 2 ≡ 0 → part d start (stored_size t i) ≡ stored_chunk t d (i / 2)
  unfolding stored_chunk
  chunk_is d l h =
      let a : (i + 1) / 2 ≡ i / 2 = omega arith in
      let b : i ≡ 2 * (i / 2) = omega arith in
      ap₂ (part d) (p.here ∙ ap (λ (x : ℕ). capped (stored_start t x)) a) (ap (stored_size t) b)
      ∙ part_capped d (stored_start t (i / 2)) (stored_size t (2 * (i / 2))) l

-- ---- two registers at an entry

module _ {t u : List ℕ} (d e : List ℕ) {n i start begin : ℕ} (p : ReadAt t n i start) (q : ReadAt u n i begin) {r : Bool} where
  pub leaf_messages : length d < 2 ^ 63 → length e < 2 ^ 63 → i % 2 ≡ 0
      → r ≡ same_list (part d start (stored_size t i)) (part e begin (stored_size u i)) → r ≡ same_list (stored_message t d i) (stored_message u e i)
  leaf_messages l m h s =
      let k : ℕ = i / 2 in
      let w : 2 * k ≡ i = omega arith in
      s ∙ ap₂ same_list (chunk_is p d l h) (chunk_is q e m h) ∙ same_leaves (stored_chunk t d k) (stored_chunk u e k)
      ∙ ap₂ same_list (sym (even_message t d i k w)) (sym (even_message u e i k w))

  pub parent_messages_lem : Bytes t → Bytes u → (i % 2 ≡ 0 → ⊥) → filled n i ≡ true → r ≡ same_parent t u i
      → r ≡ same_list (stored_message t d i) (stored_message u e i)
  parent_messages_lem b b' h f s =
      let z = odd_depth i h in
      s ∙ same_parents t u i b b' (read_parent p h f) (read_parent q h f)
      ∙ ap₂ same_list (sym (odd_message t d i z)) (sym (odd_message u e i z))

-- ---- a collision, test by test

module _ (t d u e : List ℕ) (n i : ℕ) where
  abbrev same_message_lem : Bool
  same_message_lem = same_list (stored_message t d i) (stored_message u e i)

  abbrev same_hash_of : Bool
  same_hash_of = same_list (stored_hash t i) (stored_hash u i)

  three : Bool → Bool → Bool → Bool
  three f m h = f && (not m && h)

  as_three : collides_at t d u e n i ≡ three (filled n i) same_message_lem same_hash_of
  unfolding collides_at three
  as_three = refl

  last_false : (f m : Bool) → three f m false ≡ false
  unfolding three
  last_false true true = refl
  last_false true false = refl
  last_false false m = refl

  first_last : (m : Bool) → three true m true ≡ not m
  unfolding three
  first_last true = refl
  first_last false = refl

  pub collide_hole : filled n i ≡ false → false ≡ collides_at t d u e n i
  unfolding collides_at
  collide_hole f = and_stop _ _ f

  pub collide_hash : same_hash_of ≡ false → false ≡ collides_at t d u e n i
  collide_hash h = sym (as_three ∙ ap (three (filled n i) same_message_lem) h ∙ last_false (filled n i) same_message_lem)

  pub collide_both : {m : Bool} → filled n i ≡ true → same_hash_of ≡ true → m ≡ same_message_lem → not m ≡ collides_at t d u e n i
  collide_both {m} f h s = sym (as_three ∙ (λ j. three (f j) (sym s j) (h j)) ∙ first_last m)

-- the tests of two parents in their order
module _ (t u : List ℕ) (i : ℕ) {x y : ℕ} (a : x ≡ sum_below t i) (b : y ≡ sum_below u i) where
  pub parent_sums : (x ≡ y → ⊥) → false ≡ same_parent t u i
  unfolding same_parent
  parent_sums h = and_stop _ _ (ne_eqb (sum_below t i) (sum_below u i) (λ z. h (a ∙ z ∙ sym b)))

  module _ (h : x ≡ y) {l : ℕ} (c : l ≡ left_child i) {r : Bool} (s : r ≡ same_list (stored_hash t l) (stored_hash u l)) where
    pub parent_left : r ≡ false → false ≡ same_parent t u i
    unfolding same_parent
    parent_left f =
        and_pass _ _ false (eq-eqb (sum_below t i) (sum_below u i) (sym a ∙ h ∙ b))
        (and_stop _ _ (ap (λ (k : ℕ). same_list (stored_hash t k) (stored_hash u k)) (sym c) ∙ sym s ∙ f))

    pub parent_right_lem : r ≡ true → {k : ℕ} {w : Bool} → k ≡ right_child i → w ≡ same_list (stored_hash t k) (stored_hash u k) → w ≡ same_parent t u i
    unfolding same_parent
    parent_right_lem f {w = w} g v =
        and_pass _ _ w (eq-eqb (sum_below t i) (sum_below u i) (sym a ∙ h ∙ b))
        (and_pass _ _ w (ap (λ (j : ℕ). same_list (stored_hash t j) (stored_hash u j)) (sym c) ∙ sym s ∙ f)
        (v ∙ ap (λ (j : ℕ). same_list (stored_hash t j) (stored_hash u j)) g))

-- ---- parts of the lent bytes

-- what is cut out of the data, by where it begins and ends
module _ (d : List ℕ) (start size : ℕ) where
  pub cut_none : length d ≤ start → take 0 d ≡ part d start size
  unfolding part
  cut_none h = sym (ap (take size) (drop_of_length-le d h) ∙ take-nil size)

  pub cut_short : length d - start ≤ size → take (length d - start) (drop start d) ≡ part d start size
  unfolding part
  cut_short h =
      take_all (length d - start) (drop start d) (omega (arith, length-drop start d))
      ∙ sym (take_all size (drop start d) (omega (arith, length-drop start d)))

  pub cut_whole : (m : ℕ) → m ≡ size → take m (drop start d) ≡ part d start size
  unfolding part
  cut_whole m e = ap (λ (k : ℕ). take k (drop start d)) e

pub root_parts : (t u : List ℕ) (n m k l : ℕ) (x y : List ℕ) (r : Bool) → k ≡ length (roots n) → l ≡ length (roots m)
    → take (1 + 48 * length (roots n)) x ≡ stored_root_message t n → take (1 + 48 * length (roots m)) y ≡ stored_root_message u m
    → r ≡ same_list (take (1 + 48 * k - 0) x) (take (1 + 48 * l - 0) y) → r ≡ same_list (stored_root_message t n) (stored_root_message u m)
root_parts t u n m k l x y r p q a b s =
    let v : 1 + 48 * k - 0 ≡ 1 + 48 * length (roots n) = omega arith in
    let w : 1 + 48 * l - 0 ≡ 1 + 48 * length (roots m) = omega arith in
    s ∙ ap₂ same_list (ap (λ (i : ℕ). take i x) v ∙ a) (ap (λ (i : ℕ). take i y) w ∙ b)
