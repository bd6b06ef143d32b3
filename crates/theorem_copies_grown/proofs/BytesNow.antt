-- The bytes of the held chunks after a taking in, and the zeros beside them. Assumes nothing.
use Prim.Native.Nat.{ℕ, ◌+◌, ◌≤◌, ◌<◌}
use mathlib.Core.Path.{◌≡◌, refl, sym, ap, ap₂, ◌∙◌, subst}
use mathlib.Core.Bool.{Bool, true, false, cond}
use mathlib.Core.Logic.{◌⊎◌, inl, inr}
use mathlib.Core.List.{List}
use native.Mathlib.Nat.{div-one}
use native.Mathlib.Omega.{arith}
use borrow.Author.Tests.{ltb-true, ltb-false, eq-eqb}
use lib.Dec.{ltb, eqb}
use lib.ListN.{length, get_or}
use Rattle.byte_strings.specs.Lists.{part, put, total}
use Rattle.byte_strings.proofs.Lists.{part_put, part_put_before, part_put_behind}
use Rattle.byte_strings.proofs.Bools.{or_right, or_left}
use Rattle.tree_index.specs.Tree.{index, roots}
use Rattle.file_format.specs.Messages.{leaf_message}
use Rattle.file_format.specs.Entries.{Entry, leaf}
use Rattle.file_format.specs.Stored.{stored_hash, stored_size, stored_root_sizes}
use Rattle.lookup.specs.Descent.{reached, chunk_within, descent, always}
use Rattle.packet.specs.Packet.{siblings, other_roots}
use Rattle.packet.specs.Check.{packet_chunk}
use Rattle.packet.specs.Inner.{ChunkOf}
use Rattle.packet_compare.proofs.Stands.{sibling_is}
use Rattle.copy_checks.specs.Copy.{Copy}
use Rattle.copy_take_in.specs.TakeIn.{packet_start, with_given, brought}
use Rattle.byte_strings.proofs.Members.{In, in_place, map_same}
use Rattle.theorem_taking_laws.proofs.Distinct.{without_in}
use Rattle.byte_strings.proofs.Puts.{get_d_beside}
use Rattle.theorem_taking_laws.proofs.Made.{way_leaf}
use Rattle.theorem_taking_laws.proofs.Brought.{way_brought}
use Rattle.theorem_taking_laws.proofs.Reaches.{left_at, chunk_start}
use Rattle.theorem_taking_laws.proofs.SameDescents.{descent_same}
use Rattle.theorem_taking_laws.proofs.ChunksApart.{descents_apart, descent_inside}
use Rattle.theorem_taking_laws.proofs.Starts.{start_is, packet_descent, roots_total}
use Rattle.theorem_released_back.proofs.Took.{chunk_short}
use Rattle.theorem_copies_grown.proofs.Grows.{Outside, Grows, chunk_there, side_known, comes_to, reads_known}
use Rattle.theorem_copies_grown.proofs.TakenEntries.{Taking, holds, hash_kept, size_kept}
use Rattle.theorem_copies_grown.proofs.KnownNow.{holds_now, held_split}

module _ {F : List ℕ → List ℕ} {c : Copy} {p : List ℕ} {i : ℕ} (tg : Taking F c p i) where
  abbrev g : Grows F c
  g = tg.grows

  abbrev t : List ℕ
  t = c.tree

  abbrev u : List ℕ
  u = with_given c.tree (brought F p c.n i)

  abbrev start : ℕ
  start = packet_start p c.n i

  abbrev piece : List ℕ
  piece = packet_chunk p

  abbrev there : ChunkOf c.n i
  there = tg.took.packet.shaped.chunk

  start_kept : (k : ℕ) → g.knows_of (index 0 k) ≡ true → chunk_start u c.n k ≡ chunk_start t c.n k
  unfolding chunk_start left_at other_roots
  start_kept k l =
      ap₂ (λ (x y : List ℕ). total x + total y)
      (map_same (left_at u k) (left_at t k) (siblings c.n k) (λ x m. left x (side x m)))
      (map_same (left_at u k) (left_at t k) (other_roots c.n k) (λ x m. left x (g.rooted (index 0 k) l x (without_in x _ (roots c.n) m).0)))
    where
      left : (x : ℕ) → g.knows_of x ≡ true → left_at u k x ≡ left_at t k x
      left x q = ap (λ (y : ℕ). cond (ltb x (index 0 k)) y 0) (size_kept tg x q)

      side : (x : ℕ) → In x (siblings c.n k) → g.knows_of x ≡ true
      side x m =
          let q = in_place 0 x (siblings c.n k) m in
          subst (λ (y : ℕ). g.knows_of y ≡ true) (sym (sibling_is F p c.n k q.0 q.1) ∙ q.2) (side_known F c g k l q.0 q.1)

  own_size : stored_size u (index 0 i) ≡ length piece
  unfolding leaf
  own_size =
      ap (λ (x : ℕ). stored_size u (index 0 x)) (sym (div-one i)) ∙ (holds tg _ (way_brought F p c.n i 0 (omega arith))).size
      ∙ ap (λ (e : Entry). e.size) (way_leaf F p c.n i)

  own_hash : stored_hash u (index 0 i) ≡ F (leaf_message piece)
  unfolding leaf
  own_hash =
      ap (λ (x : ℕ). stored_hash u (index 0 x)) (sym (div-one i)) ∙ (holds tg _ (way_brought F p c.n i 0 (omega arith))).hash
      ∙ ap (λ (e : Entry). e.hash) (way_leaf F p c.n i)

  own_start : chunk_start u c.n i ≡ start
  own_start = start_is F p c.n i there u (holds tg)

  own_descent : descent always (chunk_within i) u c.n ≡ reached i start
  own_descent = packet_descent F p c.n i there u (holds tg) (chunk_short p c.n i tg.took.packet.shaped tg.bytes)

  pub roots_now : total (stored_root_sizes u c.n) ≡ c.size
  roots_now = roots_total F p c.n i there u (holds tg) tg.took.packet.shaped ∙ tg.took.total

  pub own_room : start + length piece ≤ length c.content
  own_room =
      let a : start + stored_size u (index 0 i) ≤ total (stored_root_sizes u c.n) = descent_inside u i c.n i start own_descent in
      omega (arith, own_size, roots_now, g.lent.content)

  -- the bytes of another known leaf lie beside those of the packet's chunk
  beside_own : (k : ℕ) → g.knows_of (index 0 k) ≡ true → (k ≡ i → ⊥)
      → (chunk_start t c.n k + stored_size t (index 0 k) ≤ start) ⊎ (start + length piece ≤ chunk_start t c.n k)
  beside_own k l h = pick (ltb k i) refl
    where
      here : descent always (chunk_within k) u c.n ≡ reached k (chunk_start t c.n k)
      here =
          sym (descent_same (chunk_within k) t u c.n (λ x m. sym (size_kept tg x (reads_known F c g k l t x m)))) ∙ comes_to F c g k l

      pick : (b : Bool) → ltb k i ≡ b → (chunk_start t c.n k + stored_size t (index 0 k) ≤ start) ⊎ (start + length piece ≤ chunk_start t c.n k)
      pick true e =
          inl (subst (λ (x : ℕ). chunk_start t c.n k + x ≤ start) (size_kept tg (index 0 k) l)
          (descents_apart u k i (ltb-true k i e) c.n k (chunk_start t c.n k) i start there here own_descent))
      pick false e =
          inr (subst (λ (x : ℕ). start + x ≤ chunk_start t c.n k) own_size
          (descents_apart u i k (other (ltb-false k i e)) c.n i start k (chunk_start t c.n k) (chunk_there F c g k l) own_descent here))
        where
          other : i ≤ k → i < k
          other a = omega (arith, h)

  pub bytes_now : (k : ℕ) → holds_now tg k ≡ true → stored_hash u (index 0 k)
      ≡ F (leaf_message (part (put c.content start piece) (chunk_start u c.n k) (stored_size u (index 0 k))))
  bytes_now k e = pick (held_split tg k e)
    where
      Goal : ℕ → Type 0
      Goal x = stored_hash u (index 0 x) ≡ F (leaf_message (part (put c.content start piece) (chunk_start u c.n x) (stored_size u (index 0 x))))

      own : Goal i
      own =
          own_hash
          ∙ ap (λ (l : List ℕ). F (leaf_message l))
          (sym (ap₂ (part (put c.content start piece)) own_start own_size ∙ part_put c.content start (length piece) piece refl (omega (arith, own_room))))

      same_part : (k : ℕ) → g.knows_of (index 0 k) ≡ true
          → (chunk_start t c.n k + stored_size t (index 0 k) ≤ start) ⊎ (start + length piece ≤ chunk_start t c.n k)
          → part (put c.content start piece) (chunk_start t c.n k) (stored_size t (index 0 k)) ≡ part c.content (chunk_start t c.n k) (stored_size t (index 0 k))
      same_part k l (inl a) = part_put_before c.content start piece (chunk_start t c.n k) (stored_size t (index 0 k)) a (omega (arith, own_room))
      same_part k l (inr a) = part_put_behind c.content start piece (chunk_start t c.n k) (stored_size t (index 0 k)) a (omega (arith, own_room))

      pick : (k ≡ i) ⊎ ((k ≡ i → ⊥) × (g.held_of k ≡ true)) → Goal k
      pick (inl q) = subst Goal (sym q) own
      pick (inr q) =
          let l : g.knows_of (index 0 k) ≡ true = g.held_known k q.1 in
          hash_kept tg (index 0 k) l ∙ g.bytes k q.1
          ∙ ap (λ (x : List ℕ). F (leaf_message x))
          (sym (ap₂ (part (put c.content start piece)) (start_kept k l) (size_kept tg (index 0 k) l) ∙ same_part k l (beside_own k l q.0)))

  pub blank_now : (b : ℕ) → b < c.size → ((k : ℕ) → holds_now tg k ≡ true → Outside u c.n k b) → get_or (put c.content start piece) b 0 ≡ 0
  blank_now b l h =
      get_d_beside c.content start piece b
      (subst (λ (x : ℕ). (b < x) ⊎ (x + length piece ≤ b)) own_start
      (subst (λ (x : ℕ). (b < chunk_start u c.n i) ⊎ (chunk_start u c.n i + x ≤ b)) own_size (h i (or_right (g.held_of i) (eqb i i) (eq-eqb i i refl)))))
      (omega (arith, own_room))
      ∙ g.blank b l
      (λ k q.
      let m : g.knows_of (index 0 k) ≡ true = g.held_known k q in
      subst (λ (x : ℕ). (b < x) ⊎ (x + stored_size t (index 0 k) ≤ b)) (start_kept k m)
      (subst (λ (x : ℕ). (b < chunk_start u c.n k) ⊎ (chunk_start u c.n k + x ≤ b)) (size_kept tg (index 0 k) m) (h k (or_left (g.held_of k) (eqb k i) q))))
