-- A register with each buffer cut to its used size: what is read of it within the used sizes, and the checks 2 to 6.
-- Assumes nothing.
use Prim.Native.Nat.{ℕ, ◌+◌, ◌-◌, ◌*◌, ◌/◌, ◌%◌, ◌≤◌, ◌<◌}
use mathlib.Core.Path.{◌≡◌, refl, ap, ◌∙◌}
use mathlib.Core.Bool.{Bool, true, false}
use mathlib.Core.List.{List, [], ◌∷◌}
use native.Mathlib.Nat.{le_refl}
use native.Mathlib.Omega.{arith}
use borrow.Author.Tests.{leb-true, leb-false, le-leb, lt-leb}
use lib.Dec.{leb, eqb}
use lib.ListN.{length, take, get_or, length-take}
use lib.Seq.{length-take-le, take-take, get_or-take}
use Rattle.byte_strings.specs.Lists.{part, total, same_list}
use Rattle.byte_strings.specs.Numbers.{number}
use Rattle.byte_strings.proofs.Lists.{run_ext, part_take}
use Rattle.tree_index.specs.Tree.{roots, entries}
use Rattle.tree_index.proofs.Roots.{root_below}
use Rattle.file_format.specs.Headers.{tree_header, signatures_header, bitfield_header}
use Rattle.bitfield.specs.Bits.{digit, bit_at}
use Rattle.bitfield.specs.Image.{entry_count}
use Rattle.bitfield.specs.Append.{bits_place}
use Rattle.bitfield.specs.Release.{stored_held}
use Rattle.file_format.specs.Sizes.{entry_place, used_tree, used_signatures, used_bitfield}
use Rattle.file_format.specs.Messages.{root_item, root_message}
use Rattle.file_format.specs.Stored.{stored_hash, stored_size, stored_root_sizes, stored_root_message, stored_start}
use Rattle.file_format.specs.Belongs.{Register}
use Rattle.file_format.proofs.OfImage.{entry_inside, signatures_32}
use Rattle.file_format.proofs.Spans.{map_ext}
use Rattle.checks.specs.Checks.{Check, count_right, signed_right, holds, headed, adds_up, later_checks, register_checks}
use Rattle.theorem_used_bytes.specs.UsedBytes.{SameUsed}

-- each buffer cut to its used size
abbrev pub cut : Register → Register
cut r =
    record {
      tree = take (used_tree r.n) r.tree;
      signatures = take (used_signatures r.s) r.signatures;
      bitfield = take (used_bitfield r.n) r.bitfield;
      content = take r.size r.content;
      n = r.n;
      s = r.s;
      size = r.size;
    }

-- registers with the same used bytes are the same then
pub same_cut : (a b : Register) → SameUsed a b → cut a ≡ cut b
same_cut a b h =
    let t : take (used_tree a.n) a.tree ≡ take (used_tree b.n) b.tree = h.tree ∙ ap (λ (n : ℕ). take (used_tree n) b.tree) h.n in
    let g : take (used_signatures a.s) a.signatures ≡ take (used_signatures b.s) b.signatures =
    h.signatures ∙ ap (λ (s : ℕ). take (used_signatures s) b.signatures) h.s in
    let f : take (used_bitfield a.n) a.bitfield ≡ take (used_bitfield b.n) b.bitfield =
    h.bitfield ∙ ap (λ (n : ℕ). take (used_bitfield n) b.bitfield) h.n in
    let c : take a.size a.content ≡ take b.size b.content = h.content ∙ ap (λ (z : ℕ). take z b.content) h.size in
    λ i. record { tree = t i; signatures = g i; bitfield = f i; content = c i; n = h.n i; s = h.s i; size = h.size i }

-- ---- what is read within

pub entry_cut : (t : List ℕ) (n i : ℕ) → i < entries n → part (take (used_tree n) t) (entry_place i) 40 ≡ part t (entry_place i) 40
entry_cut t n i h = part_take t (used_tree n) (entry_place i) 40 (entry_inside i n h)

pub hash_cut : (t : List ℕ) (n i : ℕ) → i < entries n → stored_hash (take (used_tree n) t) i ≡ stored_hash t i
unfolding stored_hash
hash_cut t n i h = part_take t (used_tree n) (entry_place i) 32 (omega (arith, entry_inside i n h))

pub size_cut : (t : List ℕ) (n i : ℕ) → i < entries n → stored_size (take (used_tree n) t) i ≡ stored_size t i
unfolding stored_size
size_cut t n i h = ap number (part_take t (used_tree n) (entry_place i + 32) 8 (omega (arith, entry_inside i n h)))

module _ (t : List ℕ) (n : ℕ) where
  pub root_sizes_cut : stored_root_sizes (take (used_tree n) t) n ≡ stored_root_sizes t n
  unfolding stored_root_sizes
  root_sizes_cut =
      map_ext (stored_size (take (used_tree n) t)) (stored_size t) (roots n) (λ j l. size_cut t n (get_or (roots n) j 0) (root_below n j l))

  -- that of the first m chunks
  pub old_message_cut : (m : ℕ) → m ≤ n → stored_root_message (take (used_tree n) t) m ≡ stored_root_message t m
  unfolding stored_root_message entries
  old_message_cut m h =
      ap root_message
      (map_ext (λ i. root_item (stored_hash (take (used_tree n) t) i) i (stored_size (take (used_tree n) t) i)) (λ i. root_item (stored_hash t i) i (stored_size t i))
      (roots m)
      (λ j l. item (get_or (roots m) j 0) (omega (arith, root_below m j l))))
    where
      item : (i : ℕ) → i < entries n → root_item (stored_hash (take (used_tree n) t) i) i (stored_size (take (used_tree n) t) i) ≡ root_item (stored_hash t i) i (stored_size t i)
      item i l =
          ap (λ (h : List ℕ). root_item h i (stored_size (take (used_tree n) t) i)) (hash_cut t n i l)
          ∙ ap (root_item (stored_hash t i) i) (size_cut t n i l)

  pub root_message_cut : stored_root_message (take (used_tree n) t) n ≡ stored_root_message t n
  root_message_cut = old_message_cut n (le_refl n)

  pub start_cut : (k : ℕ) → k ≤ n → stored_start (take (used_tree n) t) k ≡ stored_start t k
  unfolding stored_start entries
  start_cut k h =
      ap total
      (run_ext (λ j. stored_size (take (used_tree n) t) (2 * j)) (λ j. stored_size t (2 * j)) 0 k (λ j p q. size_cut t n (2 * j) (omega arith)))

-- ---- the checks 2 to 6

-- a buffer is long enough where the cut one is
pub holds_cut : (xs : List ℕ) (u : ℕ) → holds (take u xs) u ≡ holds xs u
holds_cut xs u = go (leb u (length xs)) refl
  where
    go : (b : Bool) → leb u (length xs) ≡ b → holds (take u xs) u ≡ b
    go true e = le-leb u (length (take u xs)) (omega (arith, length-take-le u xs (leb-true u (length xs) e)))
    go false e = lt-leb u (length (take u xs)) (omega (arith, length-take u xs, leb-false u (length xs) e))

pub headed_cut : (xs : List ℕ) (u : ℕ) (header : List ℕ) → 32 ≤ u → headed (take u xs) header ≡ headed xs header
headed_cut xs u header h = ap (λ (r : List ℕ). same_list r header) (take-take 32 u xs h)

pub tree_32 : (n : ℕ) → 32 ≤ used_tree n
unfolding used_tree
tree_32 n = omega arith

pub bitfield_32 : (n : ℕ) → 32 ≤ used_bitfield n
unfolding used_bitfield
bitfield_32 n = omega arith

pub adds_cut : (t : List ℕ) (n size : ℕ) → adds_up (take (used_tree n) t) n size ≡ adds_up t n size
unfolding adds_up
adds_cut t n size = ap (λ (l : List ℕ). eqb (total l) size) (root_sizes_cut t n)

-- the checks 3 to 6 as nine tests
tests : (a b c d e f g h i : Bool) → List Check
tests a b c d e f g h i =
    record { number = 3; right = a } ∷ record { number = 4; right = b } ∷ record { number = 4; right = c } ∷ record { number = 4; right = d }
    ∷ record { number = 4; right = e } ∷ record { number = 5; right = f } ∷ record { number = 5; right = g } ∷ record { number = 5; right = h }
    ∷ record { number = 6; right = i } ∷ []

pub later_cut : (r : Register) → later_checks (cut r) ≡ later_checks r
unfolding later_checks tests
later_cut r =
    λ i. tests (signed_right r.n r.s) (holds_cut r.tree (used_tree r.n) i) (holds_cut r.signatures (used_signatures r.s) i)
    (holds_cut r.bitfield (used_bitfield r.n) i) (holds_cut r.content r.size i) (headed_cut r.tree (used_tree r.n) tree_header (tree_32 r.n) i)
    (headed_cut r.signatures (used_signatures r.s) signatures_header (signatures_32 r.s) i)
    (headed_cut r.bitfield (used_bitfield r.n) bitfield_header (bitfield_32 r.n) i)
    (adds_cut r.tree r.n r.size i)

pub checks_cut : (r : Register) → register_checks (cut r) ≡ register_checks r
unfolding register_checks
checks_cut r = ap (λ (l : List Check). record { number = 2; right = count_right r.n } ∷ l) (later_cut r)

-- the stored data bits of n chunks
pub held_cut : (bits : List ℕ) (n k : ℕ) → k < n → stored_held (take (used_bitfield n) bits) k ≡ stored_held bits k
unfolding stored_held bit_at bits_place used_bitfield entry_count
held_cut bits n k h =
    ap (λ (x : ℕ). eqb (digit x (7 - k % 8192 % 8)) 1) (get_or-take (used_bitfield n) bits (32 + 3328 * (k / 8192) + k % 8192 / 8) 0 (omega arith))
