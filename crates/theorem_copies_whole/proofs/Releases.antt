-- A release on a copy of a sequence leaves a copy of it. Assumes nothing.
use Prim.Native.Nat.{ℕ, ◌+◌, ◌≤◌, ◌<◌}
use mathlib.Core.Path.{◌≡◌, refl, sym, ap, ◌∙◌, subst}
use mathlib.Core.Bool.{Bool, true, false, ◌&&◌, not}
use mathlib.Core.List.{List, []}
use native.Mathlib.Nat.{div-one, mul-one}
use native.Mathlib.Omega.{arith}
use lib.Arith.{lt_of_le-ne}
use lib.Dec.{eqb, ltb}
use lib.ListN.{length, get_or, length-replicate}
use borrow.Author.Tests.{eq-eqb, ltb-true, ltb-false}
use Rattle.answer_types.specs.Verdict.{tree, done}
use Rattle.byte_strings.specs.Lists.{part, put, zeros}
use Rattle.byte_strings.specs.Lowest.{nowhere}
use Rattle.byte_strings.proofs.Lists.{length_put, part_put_before, part_put_behind}
use Rattle.tree_index.specs.Tree.{index, filled}
use Rattle.tree_index.proofs.Filled.{filled_below, end_filled}
use Rattle.bitfield.specs.Release.{stored_held, released_bits}
use Rattle.bitfield.specs.Known.{stored_known}
use Rattle.bitfield.proofs.Bits.{without_one}
use Rattle.file_format.specs.Messages.{HashFunction}
use Rattle.file_format.specs.Entries.{Entry, node, node_at}
use Rattle.file_format.specs.Images.{leaves}
use Rattle.file_format.specs.Stored.{stored_size}
use Rattle.file_format.specs.Slots.{all_held, Within}
use Rattle.file_format.proofs.Spans.{span, chunk_inside}
use Rattle.file_format.proofs.Slots.{all_length, all_contents, leaf_size}
use Rattle.file_format.proofs.Nodes.{node_at_index, node_at_proper}
use Rattle.file_format.proofs.OfImage.{entry_size_lem, stored_node_size}
use Rattle.lookup.specs.Descent.{reached, chunk_within, descent, always}
use Rattle.lookup.specs.Lookup.{to_chunk}
use Rattle.release.proofs.Calls.{cleared_at}
use Rattle.release.specs.Release.{released_register}
use Rattle.copy_checks.specs.Copy.{Copy, unsigned, known}
use Rattle.copy_checks.proofs.Steps.{Knowing}
use Rattle.copy_checks.specs.Descents.{copy_to_chunk}
use Rattle.lookup.proofs.ReadOrder.{reads}
use Rattle.copy_checks.proofs.Descents.{unknown_to_chunk, chunk_read}
use Rattle.copy_lookup.proofs.AsRegister.{held_done}
use Rattle.copy_release.specs.Release.{copy_release_verdict, released_copy}
use Rattle.byte_strings.proofs.Members.{In}
use Rattle.file_format.proofs.Shown.{shown_held, shown_known, held_less}
use Rattle.theorem_taking_laws.proofs.SameDescents.{descent_same}
use Rattle.theorem_copies_whole.proofs.Full.{full, full_belongs, full_count, full_descent}
use Rattle.theorem_copies_whole.proofs.Alike.{all_known, reads_filled}
use Rattle.theorem_copies_whole.proofs.Partly.{Partly, tree_bit_in}
use Rattle.theorem_copies_whole.proofs.ChunkSpans.{span_before}

-- a release that is done: the copy passes the checks of a call, the chunk is there and held, its descent comes to the leaf and reads known entries alone
pub record Releasing (c : Copy) (i : ℕ) : Type 0 where
  pub knowing : Knowing c
  pub below : i < c.n
  pub holds : stored_held c.bitfield i ≡ true
  pub start : ℕ
  pub comes : copy_to_chunk c i ≡ reached i start
  pub unknown : unknown_to_chunk c i ≡ nowhere

pub releasing : (c : Copy) (i : ℕ) → copy_release_verdict c i ≡ done → Releasing c i
unfolding copy_release_verdict
releasing c i e =
    let a = held_done c i e in
    let h = a.1 in
    record { knowing = h.knows; below = h.below; holds = h.held; start = a.0; comes = h.comes; unknown = chunk_read c i h.comes }

module _ (F : List ℕ → List ℕ) (hf : HashFunction F) (cs : List (List ℕ)) (w : Within (all_held cs)) (c : Copy) (has knows : ℕ → Bool) (tail : List ℕ)
    (q : Partly F cs c has knows tail) where
  abbrev es : List Entry
  es = leaves F (all_held cs)

  in_all : (j : ℕ) → filled c.n j ≡ true → filled (length (all_held cs)) j ≡ true
  in_all j f = ap (λ (n : ℕ). filled n j) (all_length cs ∙ sym q.count) ∙ f

  -- the lengths of known entries
  known_size : (j : ℕ) → knows j ≡ true → stored_size c.tree j ≡ (node_at F es j).size
  known_size j e = entry_size_lem c.tree j (node_at F es j) (node_at_proper F hf (all_held cs) w j (in_all j (q.known_only j e))) (q.entry j e)

  pub same_count : (full F hf cs w).n ≡ c.n
  same_count = full_count F hf cs w ∙ sym q.count

  pub known_full : (j : ℕ) → knows j ≡ true → stored_size c.tree j ≡ stored_size (full F hf cs w).tree j
  known_full j e =
      known_size j e
      ∙ sym (stored_node_size F hf (all_held cs) w (full F hf cs w) (full_belongs F hf cs w) j (ap (λ (n : ℕ). filled n j) same_count ∙ q.known_only j e))

  module _ (i : ℕ) (r : Releasing c i) where
    pub has_it : has i ≡ true
    has_it = sym (ap (λ (x : List ℕ). stored_held x i) q.bits ∙ shown_held has knows c.n tail i r.below) ∙ r.holds

    read_known : (j : ℕ) → In j (reads (chunk_within i) c.tree c.n) → knows j ≡ true
    unfolding unknown_to_chunk
    read_known j l =
        sym (ap (λ (x : List ℕ). stored_known x j) q.bits
        ∙ shown_known has knows c.n tail j (tree_bit_in c.n j (filled_below c.n j (reads_filled (chunk_within i) c.tree c.n j l))))
        ∙ all_known (known c) (reads (chunk_within i) c.tree c.n) r.unknown j l

    pub lands : to_chunk (unsigned c) i ≡ reached i (span cs 0 i)
    unfolding to_chunk
    lands =
        descent_same (chunk_within i) c.tree (full F hf cs w).tree c.n (λ j l. known_full j (read_known j l))
        ∙ ap (descent always (chunk_within i) (full F hf cs w).tree) (sym same_count) ∙ full_descent F hf cs w i (subst (λ (n : ℕ). i < n) (sym same_count) r.below)

    leaf_filled : filled c.n (index 0 i) ≡ true
    leaf_filled = end_filled c.n 0 i (omega (arith, mul-one (i + 1), r.below))

    leaf_known : knows (index 0 i) ≡ true
    leaf_known =
        subst (λ (x : ℕ). knows (index 0 x) ≡ true) (div-one i)
        (q.way i has_it 0 (subst (λ (x : ℕ). filled c.n (index 0 x) ≡ true) (sym (div-one i)) leaf_filled))

    pub size_is : stored_size c.tree (index 0 i) ≡ length (get_or cs i [])
    unfolding node
    size_is =
        known_size (index 0 i) leaf_known ∙ ap (λ (e : Entry). e.size) (node_at_index F es 0 i) ∙ leaf_size F (all_held cs) i
        ∙ ap (λ (l : List (List ℕ)). length (get_or l i [])) (all_contents cs)

    abbrev gone : List ℕ
    gone = zeros (length (get_or cs i []))

    gone_long : length gone ≡ length (get_or cs i [])
    gone_long = length-replicate {A = ℕ} (length (get_or cs i [])) 0

    content_is : (released_copy c i).content ≡ put c.content (span cs 0 i) gone
    unfolding released_copy
    content_is = cleared_at (unsigned c) i r.below lands ∙ ap (λ (m : ℕ). put c.content (span cs 0 i) (zeros m)) size_is

    at_end : span cs 0 i + length gone ≤ length c.content
    at_end = omega (arith, gone_long, chunk_inside cs i (subst (λ (n : ℕ). i < n) q.count r.below), q.bytes, q.total)

    without_says : (a b : Bool) → (a && not b) ≡ true → (a ≡ true) × (b ≡ false)
    without_says true false e = (refl, refl)
    without_says true true e = absurd (let z : ◌≡◌ {A = ℕ} 0 1 = cc in omega arith)
    without_says false b e = absurd (let z : ◌≡◌ {A = ℕ} 0 1 = cc in omega arith)

    had : (k : ℕ) → without_one has i k ≡ true → (has k ≡ true) × (k ≡ i → ⊥)
    had k e =
        let x = without_says (has k) (eqb k i) e in
        (x.0, λ z. let y : true ≡ false = sym (eq-eqb k i z) ∙ x.1 in let z : ◌≡◌ {A = ℕ} 0 1 = cc in omega arith)

    apart : (k : ℕ) → (k ≡ i → ⊥) → has k ≡ true → (b : Bool) → ltb k i ≡ b → part (put c.content (span cs 0 i) gone) (span cs 0 k) (length (get_or cs k [])) ≡ get_or cs k []
    apart k f h true l =
        part_put_before c.content (span cs 0 i) gone (span cs 0 k) (length (get_or cs k [])) (span_before cs k i (ltb-true k i l)) (omega (arith, at_end))
        ∙ q.chunk k h
    apart k f h false l =
        part_put_behind c.content (span cs 0 i) gone (span cs 0 k) (length (get_or cs k []))
        (omega (arith, gone_long, span_before cs i k (lt_of_le-ne (ltb-false k i l) (λ z. f (sym z))))) (omega (arith, at_end))
        ∙ q.chunk k h

    pub released_partly : Partly F cs (released_copy c i) (without_one has i) knows tail
    unfolding released_copy released_register
    released_partly =
        record {
          count = q.count;
          total = q.total;
          front = q.front;
          nodes = q.nodes;
          bytes = subst (λ (m : ℕ). c.size ≤ m) (sym (ap length content_is ∙ length_put c.content (span cs 0 i) gone at_end)) q.bytes;
          bits = ap (λ (x : List ℕ). released_bits x i) q.bits ∙ held_less has knows c.n tail i r.below;
          known_only = q.known_only;
          entry = q.entry;
          empty = q.empty;
          has_only = λ k e. q.has_only k (had k e).0;
          chunk = λ k e. ap (λ (l : List ℕ). part l (span cs 0 k) (length (get_or cs k []))) content_is ∙ apart k (had k e).1 (had k e).0 (ltb k i) refl;
          way = λ k e. q.way k (had k e).0;
        }
