-- The making of a packet, the release and the records get the same of two copies that agree on what is known. Assumes nothing.
use Prim.Native.Nat.{ℕ, ◌/◌, ◌^◌, ◌<◌}
use mathlib.Core.Path.{◌≡◌, refl, sym, ap, ◌∙◌}
use mathlib.Core.Bool.{true}
use mathlib.Core.List.{List, ◌∷◌, ◌++◌}
use native.Mathlib.Nat.{zero-add}
use native.Mathlib.Omega.{arith}
use lib.ListN.{length, get_or}
use Rattle.answer_types.specs.Verdict.{Spot, Verdict, done, refused, unless_refused, and_then}
use Rattle.byte_strings.specs.Lists.{part, joined, put}
use Rattle.byte_strings.specs.Numbers.{be}
use Rattle.byte_strings.proofs.Lists.{get_or_run}
use Rattle.tree_index.specs.Tree.{index, filled, roots, depth}
use Rattle.bitfield.specs.Known.{stored_known}
use Rattle.file_format.specs.Sizes.{entry_place}
use Rattle.file_format.proofs.Spans.{map_ext}
use Rattle.checks.specs.Checks.{holds}
use Rattle.packet.specs.Packet.{root_above, beside, siblings, other_roots, section, packet_of, room_or14, packet_with}
use Rattle.packet.proofs.Rows.{siblings_filled, others_filled}
use Rattle.byte_strings.proofs.Members.{in_place}
use Rattle.theorem_taking_laws.proofs.Ways.{side_index, siblings_deep, other_root}
use Rattle.theorem_used_bytes.proofs.Lookups.{then_same, then_first}
use Rattle.copy_checks.specs.Copy.{Copy, known, unsigned}
use Rattle.copy_checks.specs.Descents.{copy_to_chunk}
use Rattle.lookup.specs.Read.{verdict_found}
use Rattle.copy_lookup.specs.Lookups.{copy_held_place_of}
use Rattle.copy_lookup.proofs.AsRegister.{read_held}
use Rattle.copy_lookup.specs.Reading.{copy_read_verdict}
use Rattle.copy_packet.specs.Making.{copy_make_verdict, copy_after_make, copy_made_length}
use Rattle.copy_release.specs.Release.{copy_release_verdict}
use Rattle.theorem_copy_reads.proofs.Descents.{sides_known}
use Rattle.theorem_copy_reads.proofs.Checks.{Agreed, one, two, root_known}
use Rattle.theorem_copy_reads.proofs.Lookups.{Reached, held_reached, held_place_same, bytes_same, read_says_lem}

side_at : (n i j : ℕ) → j < length (siblings n i) → get_or (siblings n i) j 0 ≡ side_index i j
unfolding siblings
side_at n i j l =
    get_or_run (λ h. index h (beside (i / 2 ^ h))) 0 (depth (root_above (roots n) i)) j 0 (omega (arith, siblings_deep n i)) ∙ ap (side_index i) (zero-add j)

module _ (t u bits : List ℕ) (n : ℕ) (g : Agreed t u bits n) (content : List ℕ) (size : ℕ) (i : ℕ) where
  abbrev a : Copy
  a = one t u bits n g content size

  abbrev b : Copy
  b = two t u bits n g content size

  -- ---- the entries of a packet

  module _ (r : Reached a i) where
    side_known : (j : ℕ) → j < length (siblings n i) → stored_known bits (get_or (siblings n i) j 0) ≡ true
    unfolding copy_to_chunk
    side_known j l = ap (stored_known bits) (side_at n i j l) ∙ sides_known (known a) t i n r.chunk r.a r.z r.there j l

    other_known : (j : ℕ) → j < length (other_roots n i) → stored_known bits (get_or (other_roots n i) j 0) ≡ true
    other_known j l =
        let q = in_place 0 (get_or (other_roots n i) j 0) (roots n) (other_root n i r.chunk j l).0 in
        ap (stored_known bits) (sym q.2) ∙ root_known t u bits n g content size r.knows.rooted q.0 q.1

    section_same : (is : List ℕ) → ((j : ℕ) → j < length is → filled n (get_or is j 0) ≡ true)
        → ((j : ℕ) → j < length is → stored_known bits (get_or is j 0) ≡ true) → section t is ≡ section u is
    unfolding section
    section_same is f k =
        ap (λ (l : List (List ℕ)). length is ∷ joined l)
        (map_ext (λ i. part t (entry_place i) 40) (λ i. part u (entry_place i) 40) is (λ j l. g.entries (get_or is j 0) (f j l) (k j l)))

  packet_same : verdict_found (copy_held_place_of a i) ≡ done → packet_of (unsigned a) i ≡ packet_of (unsigned b) i
  unfolding packet_of packet_with
  packet_same e =
      let r = held_reached a i e in
      let c = bytes_same t u bits n g content size i e in
      let s = section_same r (siblings n i) (siblings_filled n i r.chunk) (side_known r) in
      let o = section_same r (other_roots n i) (others_filled n i r.chunk) (other_known r) in
      λ j. be 4 (length (c j)) ++ (c j ++ (s j ++ o j))

  module _ (F : List ℕ → List ℕ) (out : List ℕ) where
    abbrev room : List ℕ → Verdict
    room p = room_or14 (holds out (length p))

    pub make_says_lem : copy_make_verdict F a i out ≡ copy_make_verdict F b i out
    unfolding copy_make_verdict
    make_says_lem =
        then_same (copy_read_verdict F a i) (room (packet_of (unsigned a) i)) (room (packet_of (unsigned b) i))
        (λ e. ap room (packet_same (read_held F a i e)))
        ∙ ap (λ (v : Verdict). and_then v (room (packet_of (unsigned b) i))) (read_says_lem t u bits n g content size i F)

    -- what is done with a packet where it is made
    made_with : {A : Type 0} (f : Verdict → List ℕ → A) → ((m : ℕ) (at : Spot) (x y : List ℕ) → f (refused m at) x ≡ f (refused m at) y)
        → f (copy_make_verdict F a i out) (packet_of (unsigned a) i) ≡ f (copy_make_verdict F b i out) (packet_of (unsigned b) i)
    unfolding copy_make_verdict
    made_with f h = go (copy_make_verdict F a i out) refl ∙ ap (λ (v : Verdict). f v (packet_of (unsigned b) i)) make_says_lem
      where
        go : (v : Verdict) → copy_make_verdict F a i out ≡ v → f v (packet_of (unsigned a) i) ≡ f v (packet_of (unsigned b) i)
        go done e = ap (f done) (packet_same (read_held F a i (then_first (copy_read_verdict F a i) _ e)))
        go (refused m at) e = h m at (packet_of (unsigned a) i) (packet_of (unsigned b) i)

    pub after_same : copy_after_make F a i out ≡ copy_after_make F b i out
    unfolding copy_after_make
    after_same = made_with (λ v p. unless_refused v (put out 0 p) out) (λ m at x y. refl)

    pub made_length_same : copy_made_length F a i out ≡ copy_made_length F b i out
    unfolding copy_made_length
    made_length_same = made_with (λ v p. unless_refused v (length p) 0) (λ m at x y. refl)

  -- ---- the release

  pub release_says : copy_release_verdict a i ≡ copy_release_verdict b i
  unfolding copy_release_verdict
  release_says = ap verdict_found (held_place_same t u bits n g content size i)
