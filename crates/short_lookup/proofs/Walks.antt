-- The lookups leaf by leaf, as the code goes. Assumes nothing.
use Prim.Native.Nat.{ℕ, ◌+◌, ◌-◌, ◌*◌, ◌≤◌, ◌<◌}
use mathlib.Core.Path.{◌≡◌, refl, sym, ap, ap₂, ◌∙◌}
use mathlib.Core.Bool.{Bool, true, false, cond, ◌&&◌}
use mathlib.Core.List.{List}
use native.Mathlib.Numerals.{add-one}
use native.Mathlib.Nat.{mul-one}
use native.Mathlib.Omega.{arith}
use borrow.Author.Tests.{le-leb, lt-leb, lt-ltb, le-ltb, eq-eqb, ne_eqb}
use lib.Dec.{leb, eqb}
use Rattle.answer_types.specs.Verdict.{none, tree}
use Rattle.byte_strings.specs.Lists.{total, run}
use Rattle.byte_strings.specs.Lowest.{Lowest, nowhere, first, lowest}
use Rattle.byte_strings.proofs.Lowest.{lowest_on, lowest_off, lowest_end}
use Rattle.tree_index.specs.Tree.{index, filled}
use Rattle.tree_index.proofs.Index.{index_leaf}
use Rattle.tree_index.proofs.Filled.{end_filled}
use Rattle.file_format.specs.Sizes.{longest_chunk}
use Rattle.file_format.specs.Stored.{stored_size, stored_start}
use Rattle.file_format.specs.Inner.{EntryIn}
use Rattle.audit.proofs.Only.{start_suc}
use Rattle.lookup.specs.Lookup.{Found, refusal, found}
use Rattle.lookup.specs.Inner.{BitIn, FilesIn}
use Rattle.lookup.proofs.Visits.{filled_entry}
use Rattle.lookup.proofs.Unknown.{entry_bit}
use Rattle.short_lookup.specs.ShortLookup.{leaf_right, leaf_refused, place_by_leaves, leaf_passed, byte_by_leaves, short_place_in, short_byte_in}

-- ---- the tree file

-- the leaf of a chunk that is there, and its bit
module _ {partly : Bool} {t bits : List ℕ} {n : ℕ} (p : FilesIn partly t bits n) (k : ℕ) (h : k < n) where
  filled_leaf : filled n (index 0 k) ≡ true
  filled_leaf = end_filled n 0 k (omega (arith, mul-one (k + 1)))

  pub leaf_in_lem : EntryIn t (index 0 k)
  leaf_in_lem = filled_entry t n (index 0 k) p.roots.count p.roots.inside filled_leaf

  pub leaf_bit : BitIn partly bits (index 0 k)
  leaf_bit b = entry_bit bits n (index 0 k) (p.bitfield b) filled_leaf

-- where the next chunk starts
pub start_next : (t : List ℕ) (k : ℕ) → stored_start t (k + 1) ≡ stored_start t k + stored_size t (index 0 k)
start_next t k = ap (stored_start t) (add-one k) ∙ start_suc t k ∙ ap (λ (i : ℕ). stored_start t k + stored_size t i) (sym (index_leaf k))

pub start_none : (t : List ℕ) → stored_start t 0 ≡ 0
unfolding stored_start run total
start_none t = refl

-- ---- one leaf

module _ (known : ℕ → Bool) (t : List ℕ) (k : ℕ) where
  pub leaf_right_lem : known (index 0 k) ≡ true → stored_size t (index 0 k) ≤ longest_chunk → leaf_right known t k ≡ true
  unfolding leaf_right
  leaf_right_lem e h = ap₂ ◌&&◌ e (le-leb (stored_size t (index 0 k)) longest_chunk h)

  pub leaf_long : known (index 0 k) ≡ true → longest_chunk < stored_size t (index 0 k) → leaf_right known t k ≡ false
  unfolding leaf_right
  leaf_long e h = ap₂ ◌&&◌ e (lt-leb (stored_size t (index 0 k)) longest_chunk h)

  pub leaf_unknown : known (index 0 k) ≡ false → leaf_right known t k ≡ false
  unfolding leaf_right
  leaf_unknown e = ap (λ (x : Bool). x && leb (stored_size t (index 0 k)) longest_chunk) e

  pub refused_by : (x : Bool) → known (index 0 k) ≡ x → refusal (cond x 10 20) (tree (index 0 k)) ≡ leaf_refused known t k
  unfolding leaf_refused
  refused_by x e = ap (λ (y : Bool). refusal (cond y 10 20) (tree (index 0 k))) (sym e)

  module _ (b : ℕ) where
    pub passed_on : leaf_right known t k ≡ true → stored_start t k + stored_size t (index 0 k) ≤ b → leaf_passed known t b k ≡ true
    unfolding leaf_passed
    passed_on h g = ap₂ ◌&&◌ h (le-leb (stored_start t k + stored_size t (index 0 k)) b g)

    pub passed_wrong : leaf_right known t k ≡ false → leaf_passed known t b k ≡ false
    unfolding leaf_passed
    passed_wrong h = ap (λ (x : Bool). x && leb (stored_start t k + stored_size t (index 0 k)) b) h

    pub passed_here : leaf_right known t k ≡ true → b < stored_start t k + stored_size t (index 0 k) → leaf_passed known t b k ≡ false
    unfolding leaf_passed
    passed_here h g = ap₂ ◌&&◌ h (lt-leb (stored_start t k + stored_size t (index 0 k)) b g)

module _ (known : ℕ → Bool) (t : List ℕ) where
  -- ---- what was found

  abbrev place_from : ℕ → Lowest → Found
  place_from c l = elim l [ nowhere ↦ found (stored_start t c) (stored_size t (index 0 c)) | first k ↦ leaf_refused known t k ]

  pub place_nowhere : (c : ℕ) → lowest (leaf_right known t) 0 (c + 1) ≡ nowhere → found (stored_start t c) (stored_size t (index 0 c)) ≡ place_by_leaves known t c
  unfolding place_by_leaves
  place_nowhere c e = ap (place_from c) (sym e)

  pub place_first : (c k : ℕ) → lowest (leaf_right known t) 0 (c + 1) ≡ first k → leaf_refused known t k ≡ place_by_leaves known t c
  unfolding place_by_leaves
  place_first c k e = ap (place_from c) (sym e)

  abbrev byte_at : ℕ → ℕ → Bool → Found
  byte_at b k x = cond x (found k (b - stored_start t k)) (leaf_refused known t k)

  abbrev byte_from : ℕ → ℕ → Lowest → Found
  byte_from n b l = elim l [ nowhere ↦ refusal 10 (tree (index 0 (n - 1))) | first k ↦ byte_at b k (leaf_right known t k) ]

  pub byte_nowhere : (n b : ℕ) → lowest (leaf_passed known t b) 0 n ≡ nowhere → refusal 10 (tree (index 0 (n - 1))) ≡ byte_by_leaves known t n b
  unfolding byte_by_leaves
  byte_nowhere n b e = ap (byte_from n b) (sym e)

  pub byte_first : (n b k : ℕ) (x : Bool) → lowest (leaf_passed known t b) 0 n ≡ first k → leaf_right known t k ≡ x → byte_at b k x ≡ byte_by_leaves known t n b
  unfolding byte_by_leaves
  byte_first n b k x e f = sym (ap (byte_from n b) e ∙ ap (byte_at b k) f)

  -- ---- behind 9, and at the data size

  module _ (n c : ℕ) where
    pub place_nine : n ≤ c → refusal 9 none ≡ short_place_in known t n c
    unfolding short_place_in
    place_nine h = sym (ap (λ (x : Bool). cond x (place_by_leaves known t c) (refusal 9 none)) (le-ltb c n h))

    pub place_there : c < n → place_by_leaves known t c ≡ short_place_in known t n c
    unfolding short_place_in
    place_there h = sym (ap (λ (x : Bool). cond x (place_by_leaves known t c) (refusal 9 none)) (lt-ltb c n h))

  module _ (n size b : ℕ) where
    abbrev below : Found
    below = cond (eqb b size) (found n 0) (byte_by_leaves known t n b)

    pub byte_nine : size < b → refusal 9 none ≡ short_byte_in known t n size b
    unfolding short_byte_in
    byte_nine h = sym (ap (λ (x : Bool). cond x (refusal 9 none) below) (lt-ltb size b h))

    not_nine : b ≤ size → below ≡ short_byte_in known t n size b
    unfolding short_byte_in
    not_nine h = sym (ap (λ (x : Bool). cond x (refusal 9 none) below) (le-ltb size b h))

    pub byte_end : b ≡ size → found n 0 ≡ short_byte_in known t n size b
    byte_end e = sym (ap (λ (x : Bool). cond x (found n 0) (byte_by_leaves known t n b)) (eq-eqb b size e)) ∙ not_nine (omega arith)

    pub byte_there : b ≤ size → (b ≡ size → ⊥) → byte_by_leaves known t n b ≡ short_byte_in known t n size b
    byte_there h d = sym (ap (λ (x : Bool). cond x (found n 0) (byte_by_leaves known t n b)) (ne_eqb b size d)) ∙ not_nine h

-- ---- the loops

-- where a loop over the leaves stands: those before chunk k are passed, and their lengths add up to `start`
pub record Walked (f : ℕ → Bool) (t : List ℕ) (end k start : ℕ) : Type 0 where
  pub same : lowest f 0 end ≡ lowest f k (end - k)
  pub here : start ≡ stored_start t k
  pub small : start ≤ 65536 * k

module _ (f : ℕ → Bool) (t : List ℕ) (end : ℕ) where
  pub begun : Walked f t end 0 0
  begun = let e : end ≡ end - 0 = omega arith in record { same = ap (lowest f 0) e; here = sym (start_none t); small = omega arith }

  pub walked_on : (k start length : ℕ) → Walked f t end k start → k < end → f k ≡ true → length ≡ stored_size t (index 0 k) → length ≤ 65536
      → Walked f t end (k + 1) (start + length)
  walked_on k start length w h e l g =
      record {
        same = w.same ∙ lowest_on f k end h e;
        here = ap₂ ◌+◌ w.here l ∙ sym (start_next t k);
        small = omega (arith, w.small);
      }

-- what was read of the leaf of chunk k, which is known
pub record Leaf (known : ℕ → Bool) (t : List ℕ) (k leaf length : ℕ) : Type 0 where
  pub at : leaf ≡ index 0 k
  pub knows : known leaf ≡ true
  pub says : length ≡ stored_size t leaf

-- as the code reads it
pub leaf_read : (known : ℕ → Bool) (t : List ℕ) {k leaf length : ℕ} {b : Bool} → leaf ≡ index 0 k → b ≡ known leaf → b ≡ true → length ≡ stored_size t leaf
    → Leaf known t k leaf length
leaf_read known t a b e s = record { at = a; knows = sym b ∙ e; says = s }

module _ {known : ℕ → Bool} {t : List ℕ} {k leaf length : ℕ} (l : Leaf known t k leaf length) where
  is_known : known (index 0 k) ≡ true
  is_known = ap known (sym l.at) ∙ l.knows

  says_leaf : length ≡ stored_size t (index 0 k)
  says_leaf = l.says ∙ ap (stored_size t) l.at

  right_leaf : length ≤ 65536 → leaf_right known t k ≡ true
  right_leaf h = leaf_right_lem known t k is_known (omega (arith, says_leaf))

  long_leaf : 65536 < length → leaf_right known t k ≡ false
  long_leaf h = leaf_long known t k is_known (omega (arith, says_leaf))

  refused_long : refusal 10 (tree leaf) ≡ leaf_refused known t k
  refused_long = ap (λ (i : ℕ). refusal 10 (tree i)) l.at ∙ refused_by known t k true is_known

-- and of one that is not
module _ (known : ℕ → Bool) (t : List ℕ) {leaf : ℕ} (k : ℕ) (at : leaf ≡ index 0 k) (e : known leaf ≡ false) where
  not_known : known (index 0 k) ≡ false
  not_known = ap known (sym at) ∙ e

  refused_unknown : refusal 20 (tree leaf) ≡ leaf_refused known t k
  refused_unknown = ap (λ (i : ℕ). refusal 20 (tree i)) at ∙ refused_by known t k false not_known

-- where the place lookup's loop stands: `start` and `length` are those of the chunk before k
pub record Come (known : ℕ → Bool) (t : List ℕ) (c k start length : ℕ) : Type 0 where
  pub walked : Walked (leaf_right known t) t (c + 1) k (start + length)
  pub last : 0 < k → (start ≡ stored_start t (k - 1)) × (length ≡ stored_size t (index 0 (k - 1)))

pub come_none : (known : ℕ → Bool) (t : List ℕ) (c : ℕ) → Come known t c 0 0 0
come_none known t c = record { walked = begun (leaf_right known t) t (c + 1); last = λ h. absurd (omega arith) }

module _ {known : ℕ → Bool} {t : List ℕ} {c k start length : ℕ} (n : ℕ) (there : c < n) (w : Come known t c k start length) where
  pub place_here : c < k → k ≤ c + 1 → found start length ≡ short_place_in known t n c
  place_here h g =
      let e : k - 1 ≡ c = omega arith in
      let l = w.last (omega arith) in
      ap₂ found (l.0 ∙ ap (stored_start t) e) (l.1 ∙ ap (λ (j : ℕ). stored_size t (index 0 j)) e)
      ∙ place_nowhere known t c (w.walked.same ∙ lowest_end (leaf_right known t) k (c + 1) (omega arith))
      ∙ place_there known t n c there

  module _ (g : k ≤ c) where
    place_wrong : leaf_right known t k ≡ false → leaf_refused known t k ≡ short_place_in known t n c
    place_wrong e =
        place_first known t c k (w.walked.same ∙ lowest_off (leaf_right known t) k (c + 1) (omega arith) e) ∙ place_there known t n c there

    pub place_unknown_lem : {leaf : ℕ} → leaf ≡ index 0 k → known leaf ≡ false → refusal 20 (tree leaf) ≡ short_place_in known t n c
    place_unknown_lem at e = refused_unknown known t k at e ∙ place_wrong (leaf_unknown known t k (not_known known t k at e))

    module _ {leaf more : ℕ} (l : Leaf known t k leaf more) where
      pub place_long_lem : 65536 < more → refusal 10 (tree leaf) ≡ short_place_in known t n c
      place_long_lem h = refused_long l ∙ place_wrong (long_leaf l h)

      pub place_on : more ≤ 65536 → Come known t c (k + 1) (start + length) more
      place_on h =
          let e : k ≡ k + 1 - 1 = omega arith in
          record {
            walked = walked_on (leaf_right known t) t (c + 1) k (start + length) more w.walked (omega arith) (right_leaf l h) (says_leaf l) h;
            last = λ z. (w.walked.here ∙ ap (stored_start t) e, says_leaf l ∙ ap (λ (j : ℕ). stored_size t (index 0 j)) e);
          }

-- where the byte lookup's loop stands: no leaf before chunk k has the byte, and `before` is the last of them
pub record Passed (known : ℕ → Bool) (t : List ℕ) (n b k start before : ℕ) : Type 0 where
  pub walked : Walked (leaf_passed known t b) t n k start
  pub from : start ≤ b
  pub last : before ≡ index 0 (k - 1)

pub passed_none : (known : ℕ → Bool) (t : List ℕ) (n b : ℕ) → Passed known t n b 0 0 0
unfolding index
passed_none known t n b = record { walked = begun (leaf_passed known t b) t n; from = omega arith; last = refl }

module _ {known : ℕ → Bool} {t : List ℕ} {n b k start before : ℕ} (size : ℕ) (h : b ≤ size) (d : b ≡ size → ⊥) (w : Passed known t n b k start before) where
  pub byte_none_lem : n ≤ k → k ≤ n → refusal 10 (tree before) ≡ short_byte_in known t n size b
  byte_none_lem g u =
      let e : k ≡ n = omega arith in
      ap (λ (i : ℕ). refusal 10 (tree i)) (w.last ∙ ap (λ (j : ℕ). index 0 (j - 1)) e)
      ∙ byte_nowhere known t n b (w.walked.same ∙ lowest_end (leaf_passed known t b) k n g)
      ∙ byte_there known t n size b h d

  module _ (g : k < n) where
    ends : (x : Bool) → leaf_passed known t b k ≡ false → leaf_right known t k ≡ x → byte_at known t b k x ≡ short_byte_in known t n size b
    ends x e f =
        byte_first known t n b k x (w.walked.same ∙ lowest_off (leaf_passed known t b) k n g e) f ∙ byte_there known t n size b h d

    byte_wrong : leaf_right known t k ≡ false → leaf_refused known t k ≡ short_byte_in known t n size b
    byte_wrong e = ends false (passed_wrong known t k b e) e

    pub byte_unknown_lem : {leaf : ℕ} → leaf ≡ index 0 k → known leaf ≡ false → refusal 20 (tree leaf) ≡ short_byte_in known t n size b
    byte_unknown_lem at e = refused_unknown known t k at e ∙ byte_wrong (leaf_unknown known t k (not_known known t k at e))

    module _ {leaf length : ℕ} (l : Leaf known t k leaf length) where
      pub byte_long_lem : 65536 < length → refusal 10 (tree leaf) ≡ short_byte_in known t n size b
      byte_long_lem q = refused_long l ∙ byte_wrong (long_leaf l q)

      pub byte_here : length ≤ 65536 → b < start + length → found k (b - start) ≡ short_byte_in known t n size b
      byte_here q p =
          ap (λ (s : ℕ). found k (b - s)) w.walked.here
          ∙ ends true (passed_here known t k b (right_leaf l q) (omega (arith, w.walked.here, says_leaf l))) (right_leaf l q)

      pub byte_on : length ≤ 65536 → start + length ≤ b → Passed known t n b (k + 1) (start + length) leaf
      byte_on q p =
          let j : k + 1 - 1 ≡ k = omega arith in
          record {
            walked = walked_on (leaf_passed known t b) t n k start length w.walked g
                (passed_on known t k b (right_leaf l q) (omega (arith, w.walked.here, says_leaf l))) (says_leaf l) q;
            from = p;
            last = l.at ∙ ap (index 0) (sym j);
          }
