-- Making a packet gets the same of a register and of the same cut to its used sizes.
-- Assumes nothing.
use Prim.Native.Nat.{ℕ}
use mathlib.Core.Path.{◌≡◌, refl, ap, ◌∙◌}
use mathlib.Core.List.{List, ◌∷◌, ◌++◌}
use lib.ListN.{length, take, get_or}
use Rattle.answer_types.specs.Verdict.{Spot, Verdict, done, refused, unless_refused, and_then}
use Rattle.byte_strings.specs.Lists.{part, joined, put}
use Rattle.byte_strings.specs.Numbers.{be}
use Rattle.tree_index.proofs.Filled.{filled_below}
use Rattle.file_format.specs.Sizes.{entry_place, used_tree}
use Rattle.file_format.specs.Belongs.{Register}
use Rattle.file_format.proofs.Spans.{map_ext}
use Rattle.checks.specs.Checks.{holds}
use Rattle.lookup.proofs.Calls.{reading}
use Rattle.lookup.specs.Read.{read_verdict}
use Rattle.packet.specs.Packet.{siblings, other_roots, section, packet_of, room_or14, make_verdict, after_make, made_length, packet_with}
use Rattle.packet.specs.Inner.{ChunkOf}
use Rattle.packet.proofs.Rows.{Filled, siblings_filled, others_filled}
use Rattle.theorem_used_bytes.proofs.Cut.{cut, entry_cut}
use Rattle.theorem_used_bytes.proofs.Lookups.{then_same, then_first, bytes_cut, read_verdict_cut}

section_cut : (t : List ℕ) (n : ℕ) (is : List ℕ) → Filled n is → section (take (used_tree n) t) is ≡ section t is
unfolding section
section_cut t n is f =
    ap (λ (l : List (List ℕ)). length is ∷ joined l)
    (map_ext (λ i. part (take (used_tree n) t) (entry_place i) 40) (λ i. part t (entry_place i) 40) is
    (λ j l. entry_cut t n (get_or is j 0) (filled_below n (get_or is j 0) (f j l))))

module _ (F : List ℕ → List ℕ) (r : Register) (c : ℕ) where
  pub packet_cut : read_verdict F r c ≡ done → packet_of (cut r) c ≡ packet_of r c
  unfolding packet_of packet_with
  packet_cut e =
      let p = (reading F r c e).placing in
      let h : ChunkOf r.n c = record { count = p.passed.count; below = p.below } in
      let b = bytes_cut F r c e in
      let s = section_cut r.tree r.n (siblings r.n c) (siblings_filled r.n c h) in
      let o = section_cut r.tree r.n (other_roots r.n c) (others_filled r.n c h) in
      λ i. be 4 (length (b i)) ++ (b i ++ (s i ++ o i))

  module _ (out : List ℕ) where
    abbrev room : List ℕ → Verdict
    room p = room_or14 (holds out (length p))

    pub make_verdict_cut : make_verdict F (cut r) c out ≡ make_verdict F r c out
    unfolding make_verdict
    make_verdict_cut =
        ap (λ (v : Verdict). and_then v (room (packet_of (cut r) c))) (read_verdict_cut F r c)
        ∙ then_same (read_verdict F r c) (room (packet_of (cut r) c)) (room (packet_of r c)) (λ e. ap room (packet_cut e))

    -- what is done with a packet where it is made
    made_with : {A : Type 0} (f : Verdict → List ℕ → A) → ((m : ℕ) (at : Spot) (x y : List ℕ) → f (refused m at) x ≡ f (refused m at) y)
        → f (make_verdict F (cut r) c out) (packet_of (cut r) c) ≡ f (make_verdict F r c out) (packet_of r c)
    unfolding make_verdict
    made_with f g = ap (λ (v : Verdict). f v (packet_of (cut r) c)) make_verdict_cut ∙ go (make_verdict F r c out) refl
      where
        go : (v : Verdict) → make_verdict F r c out ≡ v → f v (packet_of (cut r) c) ≡ f v (packet_of r c)
        go done e = ap (f done) (packet_cut (then_first (read_verdict F r c) _ e))
        go (refused m at) e = g m at (packet_of (cut r) c) (packet_of r c)

    pub after_make_cut : after_make F (cut r) c out ≡ after_make F r c out
    unfolding after_make
    after_make_cut = made_with (λ v p. unless_refused v (put out 0 p) out) (λ m at x y. refl)

    pub made_length_cut : made_length F (cut r) c out ≡ made_length F r c out
    unfolding made_length
    made_length_cut = made_with (λ v p. unless_refused v (length p) 0) (λ m at x y. refl)
