-- A copy that holds every chunk is the whole register of the sequence. Assumes nothing.
use Prim.Native.Nat.{ℕ, ◌*◌, ◌/◌, ◌^◌, ◌<◌}
use mathlib.Core.Path.{◌≡◌, refl, sym, ap, ◌∙◌, subst}
use mathlib.Core.Bool.{Bool, true, false}
use mathlib.Core.Logic.{◌⊎◌, ⊎_elim}
use mathlib.Core.List.{List, []}
use native.Mathlib.Nat.{zero-add, div-eq_of_lt-le}
use native.Mathlib.Omega.{arith}
use lib.Dec.{ltb}
use lib.Pow.{pow_pos}
use lib.ListN.{length, get_or, take}
use borrow.Author.Tests.{ltb-true, lt-ltb}
use Rattle.byte_strings.specs.Lists.{part, joined}
use Rattle.byte_strings.proofs.Bools.{clash, cases}
use Rattle.tree_index.specs.Tree.{index, filled, entries}
use Rattle.tree_index.proofs.Index.{by_coordinates}
use Rattle.tree_index.proofs.Filled.{filled_end, block_end}
use Rattle.bitfield.specs.Release.{stored_held}
use Rattle.file_format.specs.Sizes.{entry_place, used_bitfield}
use Rattle.file_format.specs.Entries.{Entry, entry_bytes, entry_at}
use Rattle.file_format.specs.Images.{leaves, data_size, data_image, bitfield_of}
use Rattle.file_format.specs.Slots.{all_held, held_in}
use Rattle.file_format.specs.Belongs.{Belongs}
use Rattle.file_format.proofs.Spans.{span}
use Rattle.file_format.proofs.Slots.{leaves_length, all_length, all_contents, all_held_lem}
use Rattle.file_format.proofs.Nodes.{entry_at_filled, entry_at_hole}
use Rattle.file_format.proofs.ToImage.{hole_zeros, tree_of_entries}
use Rattle.copy_checks.specs.Copy.{Copy, unsigned}
use Rattle.file_format.proofs.Shown.{shown_ext, shown_used}
use Rattle.theorem_copies_whole.proofs.ChunkSpans.{chunks_joined}
use Rattle.theorem_copies_whole.proofs.Partly.{Partly, stored}

module _ {F : List ℕ → List ℕ} {cs : List (List ℕ)} {c : Copy} {has knows : ℕ → Bool} {tail : List ℕ} (q : Partly F cs c has knows tail)
    (all : (k : ℕ) → k < c.n → stored_held c.bitfield k ≡ true) where
  abbrev es : List Entry
  es = leaves F (all_held cs)

  has_all : (k : ℕ) → k < c.n → has k ≡ true
  has_all k l = sym (stored q k l) ∙ all k l

  knows_block : (d k : ℕ) → filled c.n (index d k) ≡ true → knows (index d k) ≡ true
  knows_block d k f =
      let e : k * 2 ^ d / 2 ^ d ≡ k = div-eq_of_lt-le (2 ^ d) (omega arith) (omega (arith, block_end d k, pow_pos d)) in
      let l : k * 2 ^ d < c.n = omega (arith, filled_end c.n d k f, block_end d k, pow_pos d) in
      subst (λ (x : ℕ). knows (index d x) ≡ true) e
      (q.way (k * 2 ^ d) (has_all (k * 2 ^ d) l) d (subst (λ (x : ℕ). filled c.n (index d x) ≡ true) (sym e) f))

  knows_filled : (j : ℕ) → filled c.n j ≡ true → knows j ≡ true
  knows_filled = by_coordinates (λ j. filled c.n j ≡ true → knows j ≡ true) knows_block

  knows_as : (j : ℕ) → knows j ≡ filled c.n j
  knows_as j = ⊎_elim (λ e. e ∙ sym (q.known_only j e)) (λ e. e ∙ sym (hole_at e (filled c.n j) refl)) (cases (knows j))
    where
      hole_at : knows j ≡ false → (b : Bool) → filled c.n j ≡ b → filled c.n j ≡ false
      hole_at e true f = clash (knows j) (knows_filled j f) e
      hole_at e false f = f

  has_as : (k : ℕ) → has k ≡ held_in (all_held cs) k
  has_as k =
      ⊎_elim (λ e. e ∙ sym (all_held_lem cs k ∙ lt-ltb k (length cs) (subst (λ (n : ℕ). k < n) q.count (q.has_only k e))))
      (λ e. e ∙ sym (all_held_lem cs k ∙ behind e (ltb k (length cs)) refl)) (cases (has k))
    where
      behind : has k ≡ false → (b : Bool) → ltb k (length cs) ≡ b → ltb k (length cs) ≡ false
      behind e true f = clash (has k) (has_all k (subst (λ (n : ℕ). k < n) (sym q.count) (ltb-true k (length cs) f))) e
      behind e false f = f

  entry_at_lem : (j : ℕ) → j < entries c.n → part c.tree (entry_place j) 40 ≡ entry_bytes (entry_at F es j)
  entry_at_lem j l = split (filled c.n j) refl
    where
      there : (b : Bool) → filled c.n j ≡ b → filled (length es) j ≡ b
      there b e = ap (λ (n : ℕ). filled n j) (leaves_length F (all_held cs) ∙ all_length cs ∙ sym q.count) ∙ e

      split : (b : Bool) → filled c.n j ≡ b → part c.tree (entry_place j) 40 ≡ entry_bytes (entry_at F es j)
      split true e = q.entry j (knows_filled j e) ∙ ap entry_bytes (sym (entry_at_filled F es j (there true e)))
      split false e = q.empty j l (knows_as j ∙ e) ∙ sym (ap entry_bytes (entry_at_hole F es j (there false e)) ∙ hole_zeros)

  pub whole : Belongs F (unsigned c) (all_held cs)
  unfolding bitfield_of data_image part
  whole =
      record {
        count = q.count ∙ sym (all_length cs);
        total = q.total ∙ ap data_size (sym (all_contents cs));
        tree = tree_of_entries F (all_held cs) c.tree c.n (q.count ∙ sym (all_length cs)) q.front entry_at_lem;
        bitfield = ap (take (used_bitfield c.n)) (q.bits ∙ shown_ext has (held_in (all_held cs)) knows (filled c.n) c.n tail has_as knows_as)
            ∙ shown_used (held_in (all_held cs)) (filled c.n) c.n tail;
        content = ap (λ (m : ℕ). take m c.content) q.total
            ∙ chunks_joined cs c.content 0
            (λ k l. ap (λ (a : ℕ). part c.content a (length (get_or cs k []))) (zero-add (span cs 0 k))
            ∙ q.chunk k (has_all k (subst (λ (n : ℕ). k < n) (sym q.count) l)))
            ∙ ap joined (sym (all_contents cs));
      }
