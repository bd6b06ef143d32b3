-- The tree entries as the code judges them, one by one from the left.
-- Assumes nothing.
use Prim.Native.Nat.{ℕ, zero, suc, ◌+◌, ◌-◌, ◌*◌, ◌/◌, ◌%◌, ◌≤◌, ◌<◌}
use mathlib.Core.Path.{◌≡◌, refl, sym, ap, ap₂, ◌∙◌, subst}
use mathlib.Core.Bool.{Bool, true, false, cond}
use mathlib.Core.List.{List}
use native.Mathlib.Nat.{add-zero, zero-add}
use native.Mathlib.Omega.{arith}
use borrow.Author.Tests.{le-leb, lt-leb, eq-eqb, ne_eqb}
use lib.ListN.{length, take, drop}
use Rattle.answer_types.specs.Verdict.{Verdict, tree, done, refused}
use Rattle.byte_strings.specs.Lists.{part, run, total, same_list, all_zero, zeros}
use Rattle.byte_strings.proofs.Lists.{length_part}
use Rattle.tree_index.specs.Tree.{index, depth, block, left_child, right_child, filled, entries}
use Rattle.tree_index.proofs.Index.{index_leaf, depth_index, by_coordinates}
use Rattle.tree_index.proofs.Filled.{filled_below, children_below}
use Rattle.tree_index.proofs.Words.{leaf_block}
use Rattle.bitfield.specs.Image.{entry_count}
use Rattle.bitfield.specs.Append.{bits_place}
use Rattle.bitfield.specs.Release.{stored_held}
use Rattle.file_format.specs.Sizes.{longest_chunk, entry_place, used_bitfield}
use Rattle.file_format.specs.Messages.{leaf_message, parent_message}
use Rattle.file_format.specs.Stored.{stored_hash, stored_size, stored_start, stored_chunk}
use Rattle.file_format.specs.Inner.{EntryIn, RootsIn}
use Rattle.file_format.proofs.Spans.{total_run_add}
use Rattle.file_format.proofs.OfImage.{entry_inside}
use Rattle.checks.proofs.Steps.{and_stop, and_pass}
use Rattle.audit.specs.Audit.{Lowest, lowest, parent_right, hole_right, entry_right, refused_at, leaf_from, leaf_right}
use Rattle.checks.specs.Capped.{most, capped}
use Rattle.checks.proofs.Capped.{capped_low, capped_before}
use Rattle.audit.specs.TreeWalk.{leaves_before, FilesIn, AtEntry, AtLeaf, AtParent}
use Rattle.audit.proofs.Capped.{capped_leaf}
use Rattle.audit.proofs.Audited.{zero_same, even_entry, odd_entry, entry_right_hole}
use Rattle.audit.proofs.Search.{lowest_on, lowest_off, lowest_end}

-- ---- where an entry lies

pub entry_in_lem : {t : List ℕ} {n i : ℕ} → RootsIn t n → i < entries n → EntryIn t i
unfolding entries
entry_in_lem {t} {n} {i} p h = record { small = omega (arith, p.count); inside = omega (arith, entry_inside i n h, p.inside) }

pub entry_as : {t : List ℕ} {i j : ℕ} → i ≡ j → EntryIn t j → EntryIn t i
entry_as {t} e p = subst (EntryIn t) (sym e) p

-- the length that is stored at an index
pub size_as : (t : List ℕ) {i j s : ℕ} → i ≡ j → s ≡ stored_size t i → s ≡ stored_size t j
size_as t e q = q ∙ ap (stored_size t) e

-- the leaf of a chunk stands at its double
pub leaf_length : (t : List ℕ) (k : ℕ) {i s : ℕ} → i ≡ index 0 k → s ≡ stored_size t i → s ≡ stored_size t (2 * k)
leaf_length t k e q = size_as t (e ∙ index_leaf k) q

-- an even index is a leaf, an odd one a parent
pub even_depth : (i : ℕ) → i % 2 ≡ 0 → depth i ≡ 0
even_depth i h =
    let k : ℕ = i / 2 in
    let e : 2 * k ≡ i = omega arith in
    sym (ap depth (index_leaf k ∙ e)) ∙ depth_index 0 k

pub odd_depth : (i : ℕ) → (i % 2 ≡ 0 → ⊥) → 0 < depth i
odd_depth = by_coordinates (λ i. (i % 2 ≡ 0 → ⊥) → 0 < depth i) go
  where
    go : (d k : ℕ) → (index d k % 2 ≡ 0 → ⊥) → 0 < depth (index d k)
    go zero k h = absurd (h (let e : index 0 k ≡ 2 * k = index_leaf k in omega arith))
    go (suc d) k h = subst (λ (x : ℕ). 0 < x) (sym (depth_index (suc d) k)) (omega arith)

-- a filled parent and its children
pub parent_in : {t : List ℕ} {n i : ℕ} → RootsIn t n → (i % 2 ≡ 0 → ⊥) → filled n i ≡ true → AtParent t i
parent_in {t} {n} {i} p h f =
    let c = children_below n i (odd_depth i h) f in
    record {
      entry = entry_in_lem p (filled_below n i f);
      parent = odd_depth i h;
      left = entry_in_lem p c.0;
      right = entry_in_lem p c.1;
    }

-- ---- starts

start_next : (t : List ℕ) (k : ℕ) → stored_start t (k + 1) ≡ stored_start t k + stored_size t (2 * k)
unfolding stored_start run total
start_next t k =
    total_run_add (λ j. stored_size t (2 * j)) 0 k 1
    ∙ ap (λ (x : ℕ). total (run (λ j. stored_size t (2 * j)) 0 k) + x)
    (add-zero (stored_size t (2 * (0 + k))) ∙ ap (λ (x : ℕ). stored_size t (2 * x)) (zero-add k))

-- how many leaves stand before an entry and behind it
module _ (t : List ℕ) (i : ℕ) {start : ℕ} (e : start ≡ capped (stored_start t (leaves_before i))) where
  pub behind_leaf : {s next : ℕ} → i % 2 ≡ 0 → s ≡ stored_size t i → next ≡ capped (start + s) → next ≡ capped (stored_start t (leaves_before (i + 1)))
  behind_leaf h q w =
      let k : ℕ = i / 2 in
      let a : (i + 1) / 2 ≡ k = omega arith in
      let b : (i + 1 + 1) / 2 ≡ k + 1 = omega arith in
      let d : i ≡ 2 * k = omega arith in
      w ∙ ap₂ (λ (x y : ℕ). capped (x + y)) (e ∙ ap (λ (x : ℕ). capped (stored_start t x)) a) (q ∙ ap (stored_size t) d)
      ∙ capped_before (stored_start t k) (stored_size t (2 * k)) ∙ ap capped (sym (start_next t k) ∙ ap (stored_start t) (sym b))

  pub behind_parent : (i % 2 ≡ 0 → ⊥) → start ≡ capped (stored_start t (leaves_before (i + 1)))
  behind_parent h = let a : (i + 1) / 2 ≡ (i + 1 + 1) / 2 = omega arith in e ∙ ap (λ (x : ℕ). capped (stored_start t x)) a

-- ---- the start of the first leaf from an entry on, found leaf by leaf

-- the leaves before the chunk c are added up
pub record Adding (t : List ℕ) (c start : ℕ) : Type 0 where
  pub sum : start ≡ capped (stored_start t c)

module _ {t : List ℕ} where
  pub adding_none : Adding t 0 0
  unfolding stored_start run total
  adding_none = record { sum = sym (capped_low 0 (omega arith)) }

  module _ {c start : ℕ} (w : Adding t c start) where
    pub adding_next : {leaf s next : ℕ} → leaf ≡ index 0 c → s ≡ stored_size t leaf → next ≡ capped (start + s) → Adding t (c + 1) next
    adding_next l q e =
        record {
          sum =
              e ∙ ap₂ (λ (x y : ℕ). capped (x + y)) w.sum (q ∙ ap (stored_size t) (l ∙ index_leaf c))
              ∙ capped_before (stored_start t c) (stored_size t (2 * c)) ∙ ap capped (sym (start_next t c));
        }

    pub adding_all : (end : ℕ) → c ≤ end → end ≤ c → start ≡ capped (stored_start t end)
    adding_all end h g = let z : c ≡ end = omega arith in w.sum ∙ ap (λ (x : ℕ). capped (stored_start t x)) z

-- the leaves before an entry of n chunks are some of theirs
pub before_leaf : {t : List ℕ} {n : ℕ} (i c : ℕ) → RootsIn t n → i < entries n → c < leaves_before i → EntryIn t (index 0 c)
unfolding entries
before_leaf i c p h l = entry_as (index_leaf c) (entry_in_lem p (omega arith))

-- ---- one entry

-- a leaf judged from the sum of the leaf lengths before it
pub leaf_from_lem : (F : List ℕ → List ℕ) (t d : List ℕ) (size : ℕ) (held : Bool) (k start : ℕ) → size < most → start ≡ capped (stored_start t k)
    → leaf_from F t d size held (2 * k) start ≡ leaf_right F t d size held k
unfolding leaf_from stored_chunk
leaf_from_lem F t d size held k start s e = ap (leaf_from F t d size held (2 * k)) e ∙ capped_leaf F t d size held k (stored_start t k) s

module _ (F : List ℕ → List ℕ) (t d : List ℕ) (size : ℕ) (held : Bool) (k start : ℕ) where
  pub leaf_long : {len : ℕ} → len ≡ stored_size t (2 * k) → longest_chunk < len → false ≡ leaf_from F t d size held (2 * k) start
  unfolding leaf_from
  leaf_long e h = and_stop _ _ (lt-leb (stored_size t (2 * k)) longest_chunk (omega (arith, e)))

  module _ {len : ℕ} (q : len ≡ stored_size t (2 * k)) (s : len ≤ longest_chunk) where
    pub leaf_past : size < start + len → false ≡ leaf_from F t d size held (2 * k) start
    unfolding leaf_from
    leaf_past h =
        and_pass _ _ false (le-leb (stored_size t (2 * k)) longest_chunk (omega arith))
        (and_stop _ _ (lt-leb (start + stored_size t (2 * k)) size (omega arith)))

    -- the last test, of a leaf that passes those of its length
    module _ {m : ℕ} (h : start + len ≤ size) (me : m ≡ len) where
      abbrev chunk : List ℕ
      chunk = part d start (stored_size t (2 * k))

      abbrev last_test_lem : Bool → Bool
      last_test_lem x = cond x (same_list (stored_hash t (2 * k)) (F (leaf_message chunk))) (all_zero chunk)

      last_test : {r : Bool} → r ≡ last_test_lem held → r ≡ leaf_from F t d size held (2 * k) start
      unfolding leaf_from
      last_test {r} l =
          and_pass _ _ r (le-leb (stored_size t (2 * k)) longest_chunk (omega arith))
          (and_pass _ _ r (le-leb (start + stored_size t (2 * k)) size (omega arith)) l)

      chunk_is : take m (drop start d) ≡ chunk
      unfolding part
      chunk_is = ap (λ (a : ℕ). take a (drop start d)) (me ∙ q)

      pub leaf_zero : {r : Bool} → held ≡ false → r ≡ all_zero (take m (drop start d)) → r ≡ leaf_from F t d size held (2 * k) start
      leaf_zero f rr = last_test (rr ∙ ap all_zero chunk_is ∙ ap last_test_lem (sym f))

      pub leaf_same : {r : Bool} {stored expected : List ℕ} → held ≡ true → stored ≡ stored_hash t (2 * k) → expected ≡ F (leaf_message (take m (drop start d)))
          → r ≡ same_list stored expected → r ≡ leaf_from F t d size held (2 * k) start
      leaf_same f st ex rr =
          last_test (rr ∙ ap₂ same_list st (ex ∙ ap (λ (c : List ℕ). F (leaf_message c)) chunk_is) ∙ ap last_test_lem (sym f))

module _ (F : List ℕ → List ℕ) (t : List ℕ) (i : ℕ) {here first : ℕ} (h : here ≡ stored_size t i) (f : first ≡ stored_size t (left_child i)) where
  pub parent_less : here < first → false ≡ parent_right F t i
  unfolding parent_right
  parent_less l =
      and_stop _ _ (ne_eqb (stored_size t i) (stored_size t (left_child i) + stored_size t (right_child i)) (λ z. omega arith))

  pub parent_off : {second : ℕ} → second ≡ stored_size t (right_child i) → first ≤ here → (here - first ≡ second → ⊥) → false ≡ parent_right F t i
  unfolding parent_right
  parent_off s l o =
      and_stop _ _ (ne_eqb (stored_size t i) (stored_size t (left_child i) + stored_size t (right_child i)) (λ z. o (omega arith)))

  pub parent_same : {second : ℕ} {a b stored expected : List ℕ} {r : Bool} → second ≡ stored_size t (right_child i) → first ≤ here → here - first ≡ second
      → a ≡ stored_hash t (left_child i) → b ≡ stored_hash t (right_child i) → expected ≡ F (parent_message here a b) → stored ≡ stored_hash t i
      → r ≡ same_list stored expected → r ≡ parent_right F t i
  unfolding parent_right
  parent_same {r = r} s l o ae be ex st rr =
      let sum : stored_size t i ≡ stored_size t (left_child i) + stored_size t (right_child i) = omega arith in
      and_pass _ _ r (eq-eqb (stored_size t i) (stored_size t (left_child i) + stored_size t (right_child i)) sum)
      (rr ∙ ap₂ same_list st (ex ∙ (λ j. F (parent_message ((h ∙ sum) j) (ae j) (be j)))))

pub hole_same : (F : List ℕ → List ℕ) (m : ℕ) {t : List ℕ} {i from : ℕ} {r : Bool} → EntryIn t i → from ≡ entry_place i
    → r ≡ all_zero (take m (drop from t)) → m ≡ 40 → r ≡ hole_right F t i
unfolding hole_right part
hole_same F m {t} {i} p f rr me =
    rr ∙ ap₂ (λ (a b : ℕ). all_zero (take a (drop b t))) me f ∙ zero_same (part t (entry_place i) 40)
    ∙ ap (λ (k : ℕ). same_list (part t (entry_place i) 40) (zeros k)) (length_part t (entry_place i) 40 p.inside)

-- ---- an entry, whichever it is

module _ {t bits d : List ℕ} {n size i start : ℕ} (p : AtEntry t bits d n size i start) where
  pub at_entry : EntryIn t i
  at_entry = entry_in_lem p.files.nodes p.entry

  pub at_leaf : {k : ℕ} → i % 2 ≡ 0 → k ≡ block i → AtLeaf t d size k
  at_leaf {k} h e =
      let b : k ≡ i / 2 = e ∙ sym (leaf_block i h) in
      record {
        entry = entry_as (omega arith) at_entry;
        bytes = p.files.bytes;
      }

  pub at_parent : (i % 2 ≡ 0 → ⊥) → filled n i ≡ true → AtParent t i
  at_parent = parent_in p.files.nodes

  -- the data bit of a leaf's chunk lies within the file
  pub at_bit : {k : ℕ} → i % 2 ≡ 0 → k ≡ block i → bits_place (k / 8192 + 1) ≤ length bits
  unfolding bits_place used_bitfield entry_count entries
  at_bit {k} h e =
      let b : k ≡ i / 2 = e ∙ sym (leaf_block i h) in
      omega (arith, p.entry, p.files.field.inside)

  module _ (F : List ℕ → List ℕ) {r : Bool} where
    pub leaf_entry_lem : size < most → {k : ℕ} {held : Bool} → i % 2 ≡ 0 → filled n i ≡ true → k ≡ block i → held ≡ stored_held bits k
        → r ≡ leaf_from F t d size held (2 * k) start → r ≡ entry_right F t bits d n size i
    leaf_entry_lem s {k} {held} h f e b rr =
        let q : k ≡ i / 2 = e ∙ sym (leaf_block i h) in
        let a : (i + 1) / 2 ≡ k = omega arith in
        rr ∙ leaf_from_lem F t d size held k start s (p.here ∙ ap (λ (x : ℕ). capped (stored_start t x)) a)
        ∙ ap₂ (leaf_right F t d size) (b ∙ ap (stored_held bits) e) e ∙ sym (even_entry F t d bits n size i (even_depth i h) f)

    pub parent_entry : (i % 2 ≡ 0 → ⊥) → filled n i ≡ true → r ≡ parent_right F t i → r ≡ entry_right F t bits d n size i
    parent_entry h f rr =
        let e : depth i ≡ suc (depth i - 1) = omega (arith, odd_depth i h) in
        rr ∙ sym (odd_entry F t d bits n size i (depth i - 1) e f)

    pub hole_entry : filled n i ≡ false → r ≡ hole_right F t i → r ≡ entry_right F t bits d n size i
    hole_entry f rr = rr ∙ sym (entry_right_hole F t d bits n size i f)

-- ---- the walk over the entries from `from` on and before `end`

-- at the entry i: what is left from there decides
pub record Walking (F : List ℕ → List ℕ) (t bits d : List ℕ) (n size from end i start : ℕ) : Type 0 where
  pub here : start ≡ capped (stored_start t (leaves_before i))
  pub rest : lowest (entry_right F t bits d n size) from (end - from) ≡ lowest (entry_right F t bits d n size) i (end - i)

module _ (F : List ℕ → List ℕ) (t bits d : List ℕ) (n size from end : ℕ) where
  abbrev right : ℕ → Bool
  right = entry_right F t bits d n size

  abbrev between : Verdict
  between = refused_at 10 tree (lowest right from (end - from)) done

  pub walking_none : end ≤ from → done ≡ between
  unfolding refused_at
  walking_none h = ap (λ (l : Lowest). refused_at 10 tree l done) (sym (lowest_end right from end h))

  -- the walk over all entries
  pub walking_all : {v : Verdict} → from ≡ 0 → end ≡ entries n → v ≡ between → v ≡ refused_at 10 tree (lowest right 0 (entries n)) done
  walking_all f e q = let k : end - from ≡ entries n = omega arith in q ∙ ap₂ (λ (a b : ℕ). refused_at 10 tree (lowest right a b) done) f k

module _ {F : List ℕ → List ℕ} {t bits d : List ℕ} {n size from end : ℕ} where
  pub walking_start : {start : ℕ} → start ≡ capped (stored_start t (leaves_before from)) → Walking F t bits d n size from end from start
  walking_start e = record { here = e; rest = refl }

  module _ {i start : ℕ} (w : Walking F t bits d n size from end i start) where
    abbrev test : ℕ → Bool
    test = entry_right F t bits d n size

    abbrev told : Verdict
    told = between F t bits d n size from end

    pub walking_entry : FilesIn t bits d n size → end ≤ entries n → i < end → AtEntry t bits d n size i start
    walking_entry p e h = record { files = p; entry = omega arith; here = w.here }

    pub walking_next : {next : ℕ} → i < end → test i ≡ true → next ≡ capped (stored_start t (leaves_before (i + 1)))
        → Walking F t bits d n size from end (i + 1) next
    walking_next h r e = record { here = e; rest = w.rest ∙ lowest_on test i end h r }

    pub walking_found : {v : Verdict} → i < end → test i ≡ false → v ≡ refused 10 (tree i) → v ≡ told
    unfolding refused_at
    walking_found h r e = e ∙ ap (λ (l : Lowest). refused_at 10 tree l done) (sym (w.rest ∙ lowest_off test i end h r))

    pub walking_done : end ≤ i → done ≡ told
    unfolding refused_at
    walking_done h = ap (λ (l : Lowest). refused_at 10 tree l done) (sym (w.rest ∙ lowest_end test i end h))
