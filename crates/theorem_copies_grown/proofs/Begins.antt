-- It holds of a copy that is made.
-- Assumes nothing.
use Prim.Native.Nat.{ℕ, zero, suc, ◌+◌, ◌-◌, ◌*◌, ◌≤◌, ◌<◌}
use mathlib.Core.Path.{◌≡◌, refl, sym, ap, ap₂, ◌∙◌, subst}
use mathlib.Core.Bool.{Bool, false}
use mathlib.Core.List.{List, [], ◌∷◌, ◌++◌, append_assoc}
use native.Mathlib.Omega.{arith}
use lib.ListN.{length, get_or, take, drop, replicate, length-append, length-replicate, replicate-append-replicate, get_or-append}
use lib.Seq.{take_at}
use Rattle.byte_strings.specs.Lists.{part, put, run, joined, zeros}
use Rattle.byte_strings.proofs.Lists.{length_put, part_behind, part_left, zeros_suc, part_zeros, get_or_zeros}
use Rattle.byte_strings.proofs.Bools.{not_both}
use Rattle.tree_index.specs.Tree.{depth, block, entries}
use Rattle.bitfield.specs.Bits.{byte_of, bytes_of}
use Rattle.bitfield.specs.Index.{tuple, four, tuples, combine, combined, node, index_byte, index_bytes}
use Rattle.bitfield.specs.Image.{data_bytes, tree_bytes, entry, entry_count, entries_for}
use Rattle.file_format.specs.Headers.{tree_header, bitfield_header}
use Rattle.file_format.specs.Sizes.{entry_place, used_tree, used_bitfield}
use Rattle.file_format.proofs.OfImage.{tree_header_length}
use Rattle.copy_checks.specs.Copy.{Copy}
use Rattle.copy_checks.proofs.Steps.{Lent}
use Rattle.copy_make.specs.Make.{made_copy, Roomy}
use Rattle.file_format.proofs.Shown.{shown, shown_long}
use Rattle.theorem_copies_grown.proofs.Grows.{Grows}
use Rattle.file_format.proofs.Shown.{shown_front}

-- ---- an entry of the bitfield with no bit set

abbrev none : ℕ → Bool
none k = false

no_bits : (b k : ℕ) → bytes_of none b k ≡ zeros k
unfolding bytes_of byte_of
no_bits b zero = refl
no_bits b (suc k) = ap (λ (l : List ℕ). 0 ∷ l) (no_bits (b + 8) k)

no_node : (m h k : ℕ) → node (zeros m) h k ≡ 0
unfolding node tuples combined four tuple combine
no_node m zero k = simp (get_or_zeros m)
no_node m (suc h) k = ap₂ combined (no_node m h (2 * k)) (no_node m h (2 * k + 1))

run_zeros : (f : ℕ → ℕ) → ((j : ℕ) → f j ≡ 0) → (i k : ℕ) → run f i k ≡ zeros k
unfolding run
run_zeros f h i zero = refl
run_zeros f h i (suc k) = ap₂ (λ (x : ℕ) (l : List ℕ). x ∷ l) (h i) (run_zeros f h (suc i) k)

no_index : (m : ℕ) → index_bytes (zeros m) ≡ zeros 256
unfolding index_bytes index_byte
no_index m = ap (λ (l : List ℕ). l ++ (0 ∷ [])) (run_zeros (index_byte (zeros m)) (λ i. no_node m (depth i) (block i)) 0 255) ∙ zeros_suc 255

three : (a b c : ℕ) → zeros a ++ (zeros b ++ zeros c) ≡ zeros (a + (b + c))
three a b c =
    ap (λ (l : List ℕ). zeros a ++ l) (replicate-append-replicate {A = ℕ} b c 0) ∙ replicate-append-replicate {A = ℕ} a (b + c) 0

no_entry : (e : ℕ) → entry none none e ≡ zeros 3328
unfolding entry data_bytes tree_bytes
no_entry e =
    ap₂ (λ (x y : List ℕ). x ++ (y ++ index_bytes x)) (no_bits (8192 * e) 1024) (no_bits (16384 * e) 2048)
    ∙ ap (λ (l : List ℕ). zeros 1024 ++ (zeros 2048 ++ l)) (no_index 1024) ∙ three 1024 2048 256

joined_zeros : (f : ℕ → List ℕ) (k : ℕ) → ((j : ℕ) → f j ≡ zeros k) → (i m : ℕ) → joined (run f i m) ≡ zeros (k * m)
unfolding joined run
joined_zeros f k h i zero = let e : 0 ≡ k * 0 = omega arith in ap (λ (x : ℕ). zeros x) e
joined_zeros f k h i (suc m) =
    let e : k + k * m ≡ k * suc m = omega arith in
    ap₂ (λ (x y : List ℕ). x ++ y) (h i) (joined_zeros f k h (suc i) m) ∙ replicate-append-replicate {A = ℕ} k (k * m) 0 ∙ ap (λ (x : ℕ). zeros x) e

no_entries : (n : ℕ) → entries_for none none n ≡ zeros (3328 * entry_count n)
unfolding entries_for
no_entries n = joined_zeros (entry none none) 3328 no_entry 0 (entry_count n)

-- ---- zeros in a file

module _ (F : List ℕ → List ℕ) (c : Copy) (w : Roomy c) where
  abbrev blank_tree : List ℕ
  blank_tree = tree_header ++ zeros (40 * entries c.n)

  abbrev rest : List ℕ
  rest = drop (0 + length (tree_header ++ zeros (40 * entries c.n))) c.tree

  abbrev tail : List ℕ
  tail = drop (0 + length (bitfield_header ++ zeros (3328 * entry_count c.n))) c.bitfield

  tree_long : length blank_tree ≡ used_tree c.n
  unfolding used_tree
  tree_long =
      length-append tree_header (zeros (40 * entries c.n)) ∙ ap₂ (λ (x y : ℕ). x + y) tree_header_length (length-replicate {A = ℕ} (40 * entries c.n) 0)

  tree_is : (made_copy c).tree ≡ blank_tree ++ rest
  unfolding made_copy put
  tree_is = refl

  tree_room : length (made_copy c).tree ≡ length c.tree
  unfolding made_copy
  tree_room = length_put c.tree 0 blank_tree (omega (arith, tree_long, w.tree))

  tree_front : take 32 (made_copy c).tree ≡ tree_header
  tree_front =
      ap (take 32) (tree_is ∙ append_assoc tree_header (zeros (40 * entries c.n)) rest)
      ∙ take_at tree_header (zeros (40 * entries c.n) ++ rest) 32 tree_header_length

  blank_entry : (i : ℕ) → i < entries c.n → part (made_copy c).tree (entry_place i) 40 ≡ zeros 40
  unfolding entry_place used_tree
  blank_entry i l =
      ap (λ (x : List ℕ). part x (32 + 40 * i) 40) tree_is
      ∙ part_left blank_tree rest (32 + 40 * i) 40 (omega (arith, tree_long))
      ∙ part_behind tree_header (zeros (40 * entries c.n)) 32 (40 * i) 40 tree_header_length
      ∙ part_zeros (40 * entries c.n) (40 * i) 40 (omega arith)

  bits_are : (made_copy c).bitfield ≡ shown none none c.n tail
  unfolding made_copy put shown
  bits_are =
      append_assoc bitfield_header (zeros (3328 * entry_count c.n)) tail
      ∙ ap (λ (l : List ℕ). bitfield_header ++ (l ++ tail)) (sym (no_entries c.n))

  content_room : length (made_copy c).content ≡ length c.content
  unfolding made_copy
  content_room = length_put c.content 0 (zeros c.size) (omega (arith, length-replicate {A = ℕ} c.size 0, w.content))

  content_blank : (b : ℕ) → b < c.size → get_or (made_copy c).content b 0 ≡ 0
  unfolding made_copy put
  content_blank b l =
      get_or-append (zeros c.size) (drop (0 + length (zeros c.size)) c.content) 0 b
      (subst (λ (x : ℕ). b < x) (sym (length-replicate {A = ℕ} c.size 0)) l)
      ∙ get_or_zeros c.size b

  pub made_lent : Lent (made_copy c)
  unfolding made_copy
  made_lent =
      record {
        count = w.count;
        tree = subst (λ (x : ℕ). used_tree c.n ≤ x) (sym tree_room) w.tree;
        bitfield = subst (λ (l : List ℕ). used_bitfield c.n ≤ length l) (sym bits_are) (omega (arith, shown_long none none c.n tail));
        content = subst (λ (x : ℕ). c.size ≤ x) (sym content_room) w.content;
        tree_front_lem = tree_front;
        bitfield_front = ap (take 32) bits_are ∙ shown_front none none c.n tail;
      }

  pub begins : (c.n ≡ 0 → c.size ≡ 0) → Grows F (made_copy c)
  unfolding made_copy
  begins empty =
      record {
        lent = made_lent;
        empty = empty;
        held_of = none;
        knows_of = none;
        tail = tail;
        bits = bits_are;
        held_below = λ k e. not_both e;
        knows_filled_lem = λ i e. not_both e;
        nought = λ i l e. blank_entry i l;
        held_known = λ k e. not_both e;
        upward = λ i e f. not_both e;
        rooted = λ i e r m. not_both e;
        follows = λ d k f e. not_both e;
        short = λ k e. not_both e;
        adds = λ r m e. not_both e;
        bytes = λ k e. not_both e;
        blank = λ b l h. content_blank b l;
      }
