-- Parents follow from their children after a taking in. Assumes nothing.
use Prim.Native.Nat.{ℕ, suc, ◌+◌, ◌*◌, ◌/◌, ◌%◌, ◌^◌, ◌<◌}
use mathlib.Core.Path.{◌≡◌, sym, ap, ap₂, ◌∙◌, subst}
use mathlib.Core.Bool.{true}
use mathlib.Core.Logic.{◌⊎◌, inl, inr}
use mathlib.Core.List.{List}
use native.Mathlib.Omega.{arith}
use lib.ListN.{length}
use Rattle.tree_index.specs.Tree.{index, depth, block, parent, filled}
use Rattle.tree_index.proofs.Index.{depth_index, block_index}
use Rattle.file_format.specs.Messages.{parent_message}
use Rattle.file_format.specs.Entries.{Entry, parent_of}
use Rattle.file_format.specs.Stored.{stored_hash, stored_size}
use Rattle.packet.specs.Packet.{siblings}
use Rattle.packet.specs.Inner.{ChunkOf}
use Rattle.packet.proofs.Rows.{beside_even}
use Rattle.copy_checks.specs.Copy.{Copy}
use Rattle.copy_take_in.specs.TakeIn.{with_given, brought}
use Rattle.byte_strings.proofs.Members.{In}
use Rattle.theorem_taking_laws.proofs.Given.{places_of}
use Rattle.theorem_taking_laws.proofs.Siblings.{sibling_index, parent_left}
use Rattle.theorem_taking_laws.proofs.Ways.{way_index}
use Rattle.theorem_taking_laws.proofs.Made.{Made, made}
use Rattle.theorem_taking_laws.proofs.Brought.{way_brought}
use Rattle.theorem_taking_laws.proofs.Among.{Under, under_parent, brought_under}
use Rattle.theorem_copies_grown.proofs.Grows.{Follows, Grows}
use Rattle.theorem_copies_grown.proofs.TakenEntries.{Taking, holds, hash_kept, size_kept}
use Rattle.theorem_copies_grown.proofs.KnownNow.{now, now_split, place}

module _ {F : List ℕ → List ℕ} {c : Copy} {p : List ℕ} {i : ℕ} (tg : Taking F c p i) where
  abbrev g : Grows F c
  g = tg.grows

  abbrev u : List ℕ
  u = with_given c.tree (brought F p c.n i)

  abbrev there : ChunkOf c.n i
  there = tg.took.packet.shaped.chunk

  made_follows : (d : ℕ) → d < length (siblings c.n i) → Follows F u d (i / 2 ^ suc d)
  unfolding parent_of
  made_follows d l =
      let q : Made F p c.n i d = made F p c.n i d l in
      let w = holds tg _ (way_brought F p c.n i (suc d) l) in
      let a = holds tg _ q.left_in_lem in
      let b = holds tg _ q.right_in in
      record {
        size = w.size ∙ ap (λ (x : Entry). x.size) q.same ∙ sym (ap₂ (λ (x y : ℕ). x + y) a.size b.size);
        hash = w.hash ∙ ap (λ (x : Entry). x.hash) q.same
            ∙ sym (ap₂ (λ (x y : ℕ). F (parent_message (x + y) (stored_hash u (index d (2 * (i / 2 ^ suc d)))) (stored_hash u (index d (2 * (i / 2 ^ suc d) + 1))))) a.size b.size
            ∙ ap₂ (λ (x y : List ℕ). F (parent_message (q.left.size + q.right.size) x y)) a.hash b.hash);
      }

  pub now_follows : (d k : ℕ) → filled c.n (index (suc d) k) ≡ true → now tg (index d (2 * k)) ≡ true → Follows F u d k
  now_follows d k f e = pick (now_split tg (index d (2 * k)) e)
    where
      above : filled c.n (parent (index d (2 * k))) ≡ true
      above = ap (filled c.n) (parent_left d k) ∙ f

      pick : In (index d (2 * k)) (places_of (brought F p c.n i)) ⊎ (g.knows_of (index d (2 * k)) ≡ true) → Follows F u d k
      pick (inl m) =
          let q = place tg (index d (2 * k)) m in
          let v : Under c.n i there F p q.0.at =
          brought_under c.n i there F p q.0 q.1 (subst (λ (x : ℕ). filled c.n (parent x) ≡ true) (sym q.2) above) in
          let s : index (suc d) k ≡ way_index i (suc v.d) =
          sym (parent_left d k) ∙ ap parent (sym q.2) ∙ under_parent c.n i there F p q.0.at v in
          let a : suc v.d ≡ suc d = sym (sym (depth_index (suc d) k) ∙ ap depth s ∙ depth_index (suc v.d) (i / 2 ^ suc v.d)) in
          let z : v.d ≡ d = omega arith in
          let b : i / 2 ^ suc v.d ≡ k = sym (sym (block_index (suc d) k) ∙ ap block s ∙ block_index (suc v.d) (i / 2 ^ suc v.d)) in
          subst (λ (x : ℕ). Follows F u d x) b (subst (λ (x : ℕ). Follows F u x (i / 2 ^ suc v.d)) z (made_follows v.d v.low))
      pick (inr l) =
          let w = g.upward (index d (2 * k)) l above in
          let even : 2 * k % 2 ≡ 0 = omega arith in
          let up : g.knows_of (index (suc d) k) ≡ true = subst (λ (x : ℕ). g.knows_of x ≡ true) (parent_left d k) w.0 in
          let r : g.knows_of (index d (2 * k + 1)) ≡ true =
          subst (λ (x : ℕ). g.knows_of x ≡ true) (sibling_index d (2 * k) ∙ ap (index d) (sym (beside_even (2 * k) even))) w.1 in
          let o = g.follows d k f l in
          record {
            size = size_kept tg (index (suc d) k) up ∙ o.size ∙ sym (ap₂ (λ (x y : ℕ). x + y) (size_kept tg (index d (2 * k)) l) (size_kept tg (index d (2 * k + 1)) r));
            hash = hash_kept tg (index (suc d) k) up ∙ o.hash
                ∙ sym (ap₂ (λ (x y : ℕ). F (parent_message (x + y) (stored_hash u (index d (2 * k))) (stored_hash u (index d (2 * k + 1))))) (size_kept tg (index d (2 * k)) l)
                (size_kept tg (index d (2 * k + 1)) r)
                ∙ ap₂ (λ (x y : List ℕ). F (parent_message (stored_size c.tree (index d (2 * k)) + stored_size c.tree (index d (2 * k + 1))) x y)) (hash_kept tg (index d (2 * k)) l)
                (hash_kept tg (index d (2 * k + 1)) r));
          }
