-- The proofs of `StoredLeavesForAll` and `LeavesStayForAll`. Assumes nothing.
use Prim.Native.Nat.{ℕ, ◌+◌, ◌<◌}
use mathlib.Core.Path.{◌≡◌, refl, sym, ap, ◌∙◌}
use mathlib.Core.Bool.{true}
use mathlib.Core.List.{List, []}
use native.Mathlib.Nat.{mul-one}
use native.Mathlib.Omega.{arith}
use lib.ListN.{length, get_or}
use Rattle.answer_types.specs.Verdict.{Verdict, done, and_then}
use Rattle.tree_index.specs.Tree.{index, filled}
use Rattle.tree_index.proofs.Filled.{end_filled}
use Rattle.file_format.specs.Messages.{HashFunction}
use Rattle.file_format.specs.Entries.{Entry, node, node_at}
use Rattle.file_format.specs.Images.{leaves}
use Rattle.file_format.specs.Stored.{stored_hash, stored_size}
use Rattle.file_format.specs.Slots.{Slot, held, slot_entry, Within}
use Rattle.file_format.specs.Belongs.{Register, Belongs}
use Rattle.file_format.proofs.Slots.{leaf_at}
use Rattle.file_format.proofs.Nodes.{node_at_index}
use Rattle.file_format.proofs.OfImage.{stored_node_hash, stored_node_size}
use Rattle.checks.specs.Checks.{judged, register_checks}
use Rattle.checks.proofs.Passed.{passes}
use Rattle.lookup.specs.Descent.{always}
use Rattle.release.specs.Release.{release_verdict, released_register}
use Rattle.release.proofs.Calls.{held_passed}
use Rattle.release.proofs.Answers.{release_stays}
use Rattle.stored_leaf.specs.StoredLeaf.{leaf_in, leaf_verdict, leaf_hash, leaf_length}
use Rattle.stored_leaf.specs.Theorems.{Gives, StoredLeavesForAll, LeavesStay, LeavesStayForAll}
use Rattle.stored_leaf.proofs.Calls.{leaf_above, leaf_known}

-- what a call that is done gives is what is stored
pub gives_stored : (v : Verdict) (t : List ℕ) (k : ℕ) (e : Entry) → v ≡ done → stored_hash t (index 0 k) ≡ e.hash → stored_size t (index 0 k) ≡ e.size → Gives v t k e
unfolding leaf_hash leaf_length
gives_stored v t k e d h z =
    record {
      says = d;
      hash = λ out. ap (λ (w : Verdict). leaf_hash w t k out) d ∙ h;
      length = ap (λ (w : Verdict). leaf_length w t k) d ∙ z;
    }

-- behind the checks 2 to 6
leaf_behind : (r : Register) (k : ℕ) → judged (register_checks r) done ≡ done → leaf_verdict r k ≡ leaf_in always r.n k
unfolding leaf_verdict
leaf_behind r k p = ap (λ (v : Verdict). and_then v (leaf_in always r.n k)) p

module _ (F : List ℕ → List ℕ) (hf : HashFunction F) (ss : List Slot) (w : Within ss) (r : Register) (b : Belongs F r ss) where
  -- the node at a chunk's leaf is its entry
  leaf_node_lem : (k : ℕ) → k < length ss → node_at F (leaves F ss) (index 0 k) ≡ slot_entry F (get_or ss k (held []))
  unfolding node
  leaf_node_lem k h = node_at_index F (leaves F ss) 0 k ∙ leaf_at F ss k h

  leaf_filled : (k : ℕ) → k < length ss → filled r.n (index 0 k) ≡ true
  leaf_filled k h = end_filled r.n 0 k (omega (arith, b.count, mul-one (k + 1)))

  pub leaf_hash_lem : (k : ℕ) → k < length ss → stored_hash r.tree (index 0 k) ≡ (slot_entry F (get_or ss k (held []))).hash
  leaf_hash_lem k h = stored_node_hash F hf ss w r b (index 0 k) (leaf_filled k h) ∙ ap (λ (e : Entry). e.hash) (leaf_node_lem k h)

  pub leaf_long : (k : ℕ) → k < length ss → stored_size r.tree (index 0 k) ≡ (slot_entry F (get_or ss k (held []))).size
  leaf_long k h = stored_node_size F hf ss w r b (index 0 k) (leaf_filled k h) ∙ ap (λ (e : Entry). e.size) (leaf_node_lem k h)

pub stored_leaves : StoredLeavesForAll
stored_leaves F hf ss w r b p =
    record {
      entry = λ k h. gives_stored (leaf_verdict r k) r.tree k (slot_entry F (get_or ss k (held []))) (leaf_behind r k p ∙ leaf_known always r.n k (omega (arith, b.count)) refl)
          (leaf_hash_lem F hf ss w r b k h) (leaf_long F hf ss w r b k h);
      no_chunk = λ k h. leaf_behind r k p ∙ leaf_above always r.n k (omega (arith, b.count));
    }

module _ (r : Register) (c : ℕ) (e : release_verdict r c ≡ done) where
  same : (k : ℕ) → leaf_verdict (released_register r c) k ≡ leaf_verdict r k
  unfolding released_register release_verdict
  same k = leaf_behind (released_register r c) k (release_stays r c e).passes ∙ sym (leaf_behind r k (passes r done (held_passed r c e).0))

  stay : LeavesStay r c
  unfolding released_register
  stay =
      record {
        says = same;
        hash = λ k out. ap (λ (v : Verdict). leaf_hash v r.tree k out) (same k);
        length = λ k. ap (λ (v : Verdict). leaf_length v r.tree k) (same k);
      }

pub leaves_stay : LeavesStayForAll
leaves_stay r c e = stay r c e
