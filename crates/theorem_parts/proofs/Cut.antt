-- What the data of an accepted register say does not depend on bytes behind its data size. Assumes nothing.
use Prim.Native.Nat.{ℕ, zero, suc, ◌+◌, ◌-◌, ◌*◌, ◌≤◌, ◌<◌}
use mathlib.Core.Path.{◌≡◌, refl, sym, ap, ap₂, ◌∙◌, subst}
use mathlib.Core.Bool.{Bool, true, false, not, ◌&&◌}
use mathlib.Core.List.{List}
use native.Mathlib.Nat.{mul-one, zero-add}
use native.Mathlib.Omega.{arith}
use borrow.Author.Tests.{ltb-true}
use Rattle.byte_strings.specs.Lists.{part}
use Rattle.byte_strings.specs.Lowest.{lowest}
use Rattle.byte_strings.proofs.Lists.{part_part}
use Rattle.byte_strings.proofs.Lowest.{lowest_agree}
use Rattle.tree_index.specs.Tree.{index, depth, block, left_child, right_child, filled}
use Rattle.tree_index.proofs.Index.{index_leaf, index_of}
use Rattle.tree_index.proofs.Filled.{filled_below, end_filled, filled_leaf}
use Rattle.file_format.specs.Messages.{leaf_message, parent_message}
use Rattle.file_format.specs.Stored.{stored_hash, stored_size, stored_start, stored_chunk, stored_message}
use Rattle.file_format.specs.Belongs.{Register}
use Rattle.file_format.proofs.Nodes.{by_depth_lem}
use Rattle.audit.specs.Audit.{Accepted}
use Rattle.audit.proofs.Audited.{Audited, accepted_audited, leaf_says_lem}
use Rattle.compare.specs.Walk.{collides}
use Rattle.compare.specs.Inner.{collides_at}
use Rattle.compare.proofs.Walked.{free}
use Rattle.parts_compare.specs.Part.{data_of}

module _ (F : List ℕ → List ℕ) (r : Register) (e : Accepted F r) where
  audited : Audited F r
  audited = accepted_audited F r e

  leaf_ends : (k : ℕ) → k < r.n → stored_start r.tree k + stored_size r.tree (2 * k) ≤ r.size
  leaf_ends k h =
      let there : filled r.n (index zero k) ≡ true = end_filled r.n zero k (omega (arith, mul-one (k + 1))) in
      (leaf_says_lem F r.tree r.content r.bitfield r.n r.size k there (audited.entry (index zero k) (filled_below r.n (index zero k) there))).inside

  chunk_cut : (k : ℕ) → k < r.n → stored_chunk r.tree (data_of r) k ≡ stored_chunk r.tree r.content k
  unfolding stored_chunk part
  chunk_cut k h =
      part_part r.content 0 r.size (stored_start r.tree k) (stored_size r.tree (2 * k)) (leaf_ends k h)
      ∙ ap (λ (x : ℕ). part r.content x (stored_size r.tree (2 * k))) (zero-add (stored_start r.tree k))

  message_cut : (i : ℕ) → filled r.n i ≡ true → stored_message r.tree (data_of r) i ≡ stored_message r.tree r.content i
  unfolding stored_message
  message_cut i f = go (depth i) refl
    where
      parent_of : List ℕ
      parent_of =
          parent_message (stored_size r.tree (left_child i) + stored_size r.tree (right_child i)) (stored_hash r.tree (left_child i)) (stored_hash r.tree (right_child i))

      go : (d : ℕ) → depth i ≡ d
          → by_depth_lem d (leaf_message (stored_chunk r.tree (data_of r) (block i))) parent_of ≡ by_depth_lem d (leaf_message (stored_chunk r.tree r.content (block i))) parent_of
      go zero z =
          ap leaf_message
          (let w : 2 * block i ≡ i = sym (index_leaf (block i)) ∙ ap (λ (d : ℕ). index d (block i)) (sym z) ∙ index_of i in
          chunk_cut (block i) (ltb-true (block i) r.n (sym (filled_leaf r.n (block i)) ∙ ap (filled r.n) w ∙ f)))
      go (suc d) z = refl

-- no collision at an index, where both are cut
pub free_cut : (F : List ℕ → List ℕ) (a b : Register) → Accepted F a → Accepted F b → a.n ≡ b.n → (i k : ℕ)
    → lowest (free a.tree (data_of a) b.tree (data_of b) a.n) i k ≡ lowest (free a.tree a.content b.tree b.content a.n) i k
unfolding collides_at
free_cut F a b p q s i k = lowest_agree (free a.tree (data_of a) b.tree (data_of b) a.n) (free a.tree a.content b.tree b.content a.n) i k
    (λ j h l before. ap not (go j (filled a.n j) refl))
  where
    go : (j : ℕ) (x : Bool) → filled a.n j ≡ x
        → (x && collides (stored_message a.tree (data_of a) j) (stored_message b.tree (data_of b) j) (stored_hash a.tree j) (stored_hash b.tree j))
        ≡ (x && collides (stored_message a.tree a.content j) (stored_message b.tree b.content j) (stored_hash a.tree j) (stored_hash b.tree j))
    go j false e = refl
    go j true e =
        ap₂ (λ (u v : List ℕ). collides u v (stored_hash a.tree j) (stored_hash b.tree j)) (message_cut F a p j e)
        (message_cut F b q j (subst (λ (n : ℕ). filled n j ≡ true) s e))
