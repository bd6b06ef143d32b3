-- Endings whose starts are capped, and descents that begin elsewhere.
-- Assumes nothing.
use Prim.Native.Nat.{ℕ, zero, suc, ◌+◌, ◌-◌, ◌*◌, ◌^◌, ◌≤◌, ◌<◌}
use mathlib.Core.Path.{◌≡◌, refl, sym, ap, ap₂, ◌∙◌, subst}
use mathlib.Core.Bool.{Bool, true, false}
use mathlib.Core.List.{List, ◌∷◌, ◌++◌}
use native.Mathlib.Nat.{add_assoc, add-zero}
use native.Mathlib.Numerals.{add-one}
use native.Mathlib.Omega.{arith}
use borrow.Author.Tests.{ltb-true, ltb-false, lt-ltb, le-ltb}
use lib.Dec.{leb, ltb, eqb}
use lib.ListN.{length, get_or, drop, replicate, get_or-append, drop_of_length-le}
use lib.Seq.{drop-cons}
use Rattle.tree_index.specs.Tree.{index, depth, block, roots, filled}
use Rattle.tree_index.proofs.Roots.{root_filled}
use Rattle.tree_index.specs.Numbers.{numbers}
use Rattle.file_format.specs.Sizes.{longest_chunk}
use Rattle.file_format.specs.Stored.{stored_size}
use Rattle.file_format.specs.Inner.{EntryIn}
use Rattle.file_format.proofs.ByValue.{number_at}
use Rattle.number_types.specs.declared.ByteOffset.{ByteOffset}
use Rattle.number_types.specs.declared.ChunkNumber.{ChunkNumber}
use Rattle.number_types.specs.declared.TreeIndex.{TreeIndex}
use Rattle.lookup.specs.declared.descent.Sought.{Sought}
use Rattle.lookup.specs.declared.descent.Sought.TheVariants.{Chunk, Byte}
use Rattle.lookup.proofs.Visits.{filled_entry}
use Rattle.lookup.proofs.Unknown.{entry_bit}
use Rattle.lookup.specs.Descent.{Ending, stopped, reached, unknown, if_known, chunk_within, byte_within, descend, from_roots, descent}
use Rattle.lookup.specs.Inner.{within_of, known_if, BitIn, FilesIn, Standing}
use Rattle.checks.specs.Capped.{capped}
use Rattle.checks.proofs.Capped.{capped_low, capped_before}
use Rattle.lookup.specs.Capped.{capped_ending, moved_by, Passed, Behind}

pub moved_capped : (s : ℕ) (e : Ending) → capped_ending (moved_by (capped s) e) ≡ capped_ending (moved_by s e)
unfolding capped_ending moved_by
moved_capped s (stopped i) = refl
moved_capped s (reached k x) = ap (reached k) (capped_before s x)
moved_capped s (unknown i) = refl

-- ---- a descent that begins elsewhere

moved_if : (s : ℕ) (b : Bool) (x y : Ending) → moved_by s (elim b [ true ↦ x | false ↦ y ]) ≡ elim b [ true ↦ moved_by s x | false ↦ moved_by s y ]
moved_if s true x y = refl
moved_if s false x y = refl

moved_known : (s : ℕ) (b : Bool) (i : ℕ) (x : Ending) → moved_by s (if_known b i x) ≡ if_known b i (moved_by s x)
unfolding moved_by
moved_known s true i x = refl
moved_known s false i x = refl

module _ (known : ℕ → Bool) (v w : ℕ → ℕ → ℕ → ℕ → Bool) (t : List ℕ) (s : ℕ) (shift : (d k x z : ℕ) → v d k x z ≡ w d k (s + x) z) where
  pub moved_descend : (d k x : ℕ) → moved_by s (descend known v t d k x) ≡ descend known w t d k (s + x)
  unfolding descend moved_by
  moved_descend zero k x = moved_if s (leb (stored_size t (index 0 k)) longest_chunk) (reached k x) (stopped (index 0 k))
  moved_descend (suc d) k x =
      let l : ℕ = index d (2 * k) in
      let r : ℕ = index d (2 * k + 1) in
      let z : ℕ = stored_size t l in
      let sum : Bool = eqb (stored_size t (index (suc d) k)) (z + stored_size t r) in
      let a : Ending = descend known v t d (2 * k) x in
      let b : Ending = descend known v t d (2 * k + 1) (x + z) in
      let e : Ending = elim sum [ true ↦ elim (v d (2 * k) x z) [ true ↦ a | false ↦ b ] | false ↦ stopped (index (suc d) k) ] in
      moved_known s (known l) l (if_known (known r) r e)
      ∙ ap (if_known (known l) l)
      (moved_known s (known r) r e
      ∙ ap (if_known (known r) r)
      (moved_if s sum (elim (v d (2 * k) x z) [ true ↦ a | false ↦ b ]) (stopped (index (suc d) k))
      ∙ ap (λ (y : Ending). elim sum [ true ↦ y | false ↦ stopped (index (suc d) k) ])
      (moved_if s (v d (2 * k) x z) a b
      ∙ ap (λ (c : Bool). elim c [ true ↦ moved_by s a | false ↦ moved_by s b ]) (shift d (2 * k) x z)
      ∙ ap₂ (λ (y y' : Ending). elim (w d (2 * k) (s + x) z) [ true ↦ y | false ↦ y' ]) (moved_descend d (2 * k) x)
      (moved_descend d (2 * k + 1) (x + z) ∙ ap (descend known w t d (2 * k + 1)) (sym (add_assoc s x z))))))

-- ---- among the roots

-- the root at a place of the array
pub root_of_lem : (is : List TreeIndex) (n j : ℕ) → numbers is ≡ roots n ++ replicate (20 - length (roots n)) 0 → j < length (roots n)
    → (get_or is j (record { 0 = 0 })).0 ≡ get_or (roots n) j 0
root_of_lem is n j e h =
    sym (number_at is j) ∙ ap (λ (l : List ℕ). get_or l j 0) e ∙ get_or-append (roots n) (replicate (20 - length (roots n)) 0) 0 j h

-- what is left of a search from the root j on, whose bytes begin at a start that is told as x; `left` is what is sought told from there on
pub record Rest (known : ℕ → Bool) (q : Sought) (t : List ℕ) (n x : ℕ) (left : Sought) (j : ℕ) : Type 0 where
  pub few : j ≤ length (roots n)
  pub start : ℕ
  pub told : x ≡ capped start
  pub shift : Behind q start left
  pub same : from_roots known (within_of q) t (drop j (roots n)) start ≡ descent known (within_of q) t n

behind_none : (q : Sought) → Behind q 0 q
behind_none q d k s z = ap (λ (x : ℕ). within_of q d k x z) (let e : s ≡ 0 + s = omega arith in e)

-- a chunk is told by its number wherever it lies, and a byte by its distance
pub behind_chunk : (c : ChunkNumber) (size : ℕ) → Behind (Chunk c) size (Chunk c)
unfolding chunk_within
behind_chunk c size d k s z = refl

pub behind_byte : (b r : ByteOffset) (size : ℕ) → size ≤ b.0 → r.0 ≡ b.0 - size → Behind (Byte b) size (Byte r)
unfolding byte_within
behind_byte b r size h e d k s z = go (ltb r.0 (s + z)) refl
  where
    go : (x : Bool) → ltb r.0 (s + z) ≡ x → ltb r.0 (s + z) ≡ ltb b.0 (size + s + z)
    go true f = let l = ltb-true r.0 (s + z) f in f ∙ sym (lt-ltb b.0 (size + s + z) (omega arith))
    go false f = let l = ltb-false r.0 (s + z) f in f ∙ sym (le-ltb b.0 (size + s + z) (omega arith))

pub passed : (q : Sought) (size d k : ℕ) → within_of q d k 0 size ≡ false → Passed q size
unfolding byte_within
passed (Chunk c) size d k e = tt
passed (Byte b) size d k e = let l = ltb-false b.0 (0 + size) e in omega arith

-- the whole search's ending
abbrev all : Bool → Sought → List ℕ → List ℕ → ℕ → Ending
all partly q t bits n = capped_ending (descent (known_if partly bits) (within_of q) t n)

module _ {partly : Bool} {q : Sought} {t bits : List ℕ} {n : ℕ} (p : FilesIn partly t bits n) where
  pub whole : Rest (known_if partly bits) q t n 0 q 0
  unfolding descent
  whole = record { few = omega arith; start = 0; told = sym (capped_low 0 (omega arith)); shift = behind_none q; same = refl }

  pub none_left : {x j : ℕ} {left : Sought} → Rest (known_if partly bits) q t n x left j → length (roots n) ≤ j → stopped 0 ≡ all partly q t bits n
  unfolding from_roots capped_ending
  none_left r h = ap capped_ending (sym (ap (λ (l : List ℕ). from_roots (known_if partly bits) (within_of q) t l r.start) (drop_of_length-le (roots n) h)) ∙ r.same)

  module _ {x j i : ℕ} {left : Sought} (r : Rest (known_if partly bits) q t n x left j) (a : (j < length (roots n)) × (i ≡ get_or (roots n) j 0)) where
    next : List ℕ
    next = drop (suc j) (roots n)

    front : drop j (roots n) ≡ i ∷ next
    unfolding next
    front = drop-cons (roots n) j 0 a.0 ∙ ap (λ (y : ℕ). y ∷ drop (suc j) (roots n)) (sym a.1)

    root : filled n i ≡ true
    root = subst (λ (y : ℕ). filled n y ≡ true) (sym a.1) (root_filled n j a.0)

    pub root_entry : EntryIn t i
    root_entry = filled_entry t n i p.roots.count p.roots.inside root

    pub root_bit : BitIn partly bits i
    root_bit b = entry_bit bits n i (p.bitfield b) root

    pub root_stands : {size : ℕ} → size ≡ stored_size t i → size < 2 ^ 64 → Standing partly t bits i 0
    root_stands f g = record { n = n; files = p; entry = root; fits = omega (arith, f) }

    abbrev picked : Bool → Ending
    picked b = elim b [ true ↦ descend (known_if partly bits) (within_of q) t (depth i) (block i) r.start | false ↦ from_roots (known_if partly bits) (within_of q) t next (r.start + stored_size t i) ]

    chosen : if_known (known_if partly bits i) i (picked (within_of q (depth i) (block i) r.start (stored_size t i))) ≡ descent (known_if partly bits) (within_of q) t n
    unfolding from_roots
    chosen = sym (ap (λ (l : List ℕ). from_roots (known_if partly bits) (within_of q) t l r.start) front) ∙ r.same

    pub root_unknown : known_if partly bits i ≡ false → unknown i ≡ all partly q t bits n
    unfolding capped_ending
    root_unknown k = ap capped_ending (sym (ap (λ (b : Bool). if_known b i (picked (within_of q (depth i) (block i) r.start (stored_size t i)))) k) ∙ chosen)

    taken : (b : Bool) → known_if partly bits i ≡ true → {size : ℕ} → size ≡ stored_size t i → within_of left (depth i) (block i) 0 size ≡ b
        → picked b ≡ descent (known_if partly bits) (within_of q) t n
    taken b k {size} f w =
        sym (ap picked
        (ap₂ (λ (y z : ℕ). within_of q (depth i) (block i) y z) (sym (add-zero r.start)) (sym f) ∙ sym (r.shift (depth i) (block i) 0 size) ∙ w))
        ∙ sym (ap (λ (b : Bool). if_known b i (picked (within_of q (depth i) (block i) r.start (stored_size t i)))) k) ∙ chosen

    pub found_here : known_if partly bits i ≡ true → {size : ℕ} → size ≡ stored_size t i → within_of left (depth i) (block i) 0 size ≡ true
        → capped_ending (moved_by x (descend (known_if partly bits) (within_of left) t (depth i) (block i) 0)) ≡ all partly q t bits n
    found_here k f w =
        ap (λ (y : ℕ). capped_ending (moved_by y (descend (known_if partly bits) (within_of left) t (depth i) (block i) 0))) r.told
        ∙ moved_capped r.start (descend (known_if partly bits) (within_of left) t (depth i) (block i) 0)
        ∙ ap capped_ending
        (moved_descend (known_if partly bits) (within_of left) (within_of q) t r.start r.shift (depth i) (block i) 0
        ∙ ap (descend (known_if partly bits) (within_of q) t (depth i) (block i)) (add-zero r.start) ∙ taken true k f w)

    pub not_here : known_if partly bits i ≡ true → {size : ℕ} → size ≡ stored_size t i → within_of left (depth i) (block i) 0 size ≡ false
        → {y : ℕ} → y ≡ capped (x + size) → {left' : Sought} → Behind left size left' → Rest (known_if partly bits) q t n y left' (j + 1)
    unfolding next
    not_here k {size} f w {y} g {left'} b =
        subst (Rest (known_if partly bits) q t n y left') (sym (add-one j))
        (record {
          few = a.0;
          start = r.start + stored_size t i;
          told = g ∙ ap₂ (λ (u v : ℕ). capped (u + v)) r.told f ∙ capped_before r.start (stored_size t i);
          shift = λ d k s z. b d k s z ∙ r.shift d k (size + s) z
              ∙ ap (λ (u : ℕ). within_of q d k u z) (sym (add_assoc r.start size s) ∙ ap (λ (u : ℕ). r.start + u + s) f);
          same = taken false k f w;
        })
