-- Each call gets the same of a copy and of the same cut to its used sizes. Where a call is done, the copy counts as a register that passes the checks 2 to
-- 6. Assumes nothing.
use Prim.Native.Nat.{ℕ, ◌≤◌}
use mathlib.Core.Path.{◌≡◌, refl, sym, ap, ◌∙◌}
use mathlib.Core.List.{List}
use borrow.Author.Tests.{leb-true}
use lib.ListN.{length, get_or}
use Rattle.answer_types.specs.Verdict.{Spot, Verdict, tree, done, refused, unless_refused, and_then}
use Rattle.byte_strings.specs.Lists.{put}
use Rattle.byte_strings.specs.Lowest.{Lowest}
use Rattle.tree_index.specs.Tree.{index, roots}
use Rattle.tree_index.proofs.Roots.{root_filled}
use Rattle.file_format.specs.Belongs.{Register}
use Rattle.checks.specs.Checks.{judged, holds}
use Rattle.checks.proofs.Judged.{judged_done, judged_same}
use Rattle.audit.specs.Audit.{refused_at}
use Rattle.prefix_root.specs.PrefixRoot.{own_checks, root_unless}
use Rattle.prefix_root.proofs.First.{filled_more}
use Rattle.lookup.specs.Lookup.{found_behind}
use Rattle.lookup.specs.Read.{verdict_found, bytes_found, chunk_bytes, hash_judged}
use Rattle.lookup.proofs.Lookups.{byte_same, hash_same, bytes_same}
use Rattle.lookup.proofs.Calls.{held_placing}
use Rattle.packet.specs.Packet.{packet_of, room_or14, packet_with}
use Rattle.release.specs.Release.{released_register}
use Rattle.search.specs.Search.{sought_unless}
use Rattle.theorem_used_bytes.proofs.Cut.{hash_cut, root_message_cut, old_message_cut}
use Rattle.theorem_used_bytes.proofs.Lookups.{then_same, then_first, leaf_below, place_in_cut, held_in_cut, part_cut, read_part_cut}
use Rattle.theorem_used_bytes.proofs.Packets.{packet_cut}
use Rattle.theorem_used_bytes.proofs.Released.{first_cut, released_cut}
use Rattle.copy_checks.specs.Copy.{Copy, known, unsigned, lent_as_copy}
use Rattle.lookup.specs.Unknown.{first_unknown}
use Rattle.copy_checks.specs.Checks.{copy_judged}
use Rattle.copy_checks.proofs.Steps.{copy_passed}
use Rattle.copy_checks.proofs.Signed.{signed}
use Rattle.copy_checks.specs.Descents.{copy_to_byte}
use Rattle.copy_lookup.specs.Lookups.{copy_place_of, copy_held_place_of, copy_byte_at}
use Rattle.copy_lookup.specs.Reading.{copy_read_verdict, copy_read_part, copy_read_found}
use Rattle.copy_lookup.proofs.AsRegister.{held_at, held_done, read_found_as, read_as}
use Rattle.copy_roots.specs.Roots.{copy_root_verdict, copy_prefix_verdict, copy_root_answer, copy_prefix_root, copy_search}
use Rattle.copy_packet.specs.Making.{copy_make_verdict, copy_after_make, copy_made_length}
use Rattle.copy_release.specs.Release.{copy_release_verdict, released_copy}
use Rattle.theorem_copy_used_bytes.specs.UsedBytes.{SameUsed}
use Rattle.theorem_copy_used_bytes.proofs.Cut.{cut_copy, same_cut, of_cut, known_cut, unknown_same, judged_cut}
use Rattle.theorem_copy_used_bytes.proofs.Descents.{to_byte_cut}

-- ---- root hashes and the search

module _ (c : Copy) where
  pub root_verdict_cut : copy_root_verdict (cut_copy c) ≡ copy_root_verdict c
  unfolding copy_root_verdict
  root_verdict_cut = judged_cut c done

  pub root_cut : (F : List ℕ → List ℕ) → copy_root_answer F (cut_copy c) ≡ copy_root_answer F c
  unfolding copy_root_answer
  root_cut F = ap (λ (v : Verdict). root_unless F v (cut_copy c).tree c.n) root_verdict_cut ∙ go (copy_root_verdict c)
    where
      go : (v : Verdict) → root_unless F v (cut_copy c).tree c.n ≡ root_unless F v c.tree c.n
      go done = ap F (root_message_cut c.tree c.n)
      go (refused m at) = refl

  pub search_cut : (from : ℕ) → copy_search (cut_copy c) from ≡ copy_search c from
  unfolding copy_search
  search_cut from = λ j. sought_unless (judged_cut c done j) (first_cut c.bitfield c.n from j)

module _ (c : Copy) (m : ℕ) where
  -- behind 9
  abbrev next : Copy → Verdict
  next d = refused_at 20 tree (first_unknown (known d) (roots m)) done

  next_cut : m ≤ c.n → next (cut_copy c) ≡ next c
  next_cut h =
      ap (λ (l : Lowest). refused_at 20 tree l done)
      (unknown_same (known (cut_copy c)) (known c) (roots m)
      (λ j l. known_cut c.bitfield c.n (get_or (roots m) j 0) (filled_more m c.n h (get_or (roots m) j 0) (root_filled m j l))))

  pub old_verdict_cut : copy_prefix_verdict (cut_copy c) m ≡ copy_prefix_verdict c m
  unfolding copy_prefix_verdict
  old_verdict_cut =
      judged_cut c (judged (own_checks c.n m) (next (cut_copy c)))
      ∙ ap (copy_judged c) (judged_same (own_checks c.n m) (next (cut_copy c)) (next c) (λ p. next_cut (leb-true m c.n p.0)))

  up_to : copy_prefix_verdict c m ≡ done → m ≤ c.n
  unfolding copy_prefix_verdict
  up_to e = leb-true m c.n (judged_done (own_checks c.n m) (next c) (copy_passed c (judged (own_checks c.n m) (next c)) e).1).0.0

  pub old_cut : (F : List ℕ → List ℕ) → copy_prefix_root F (cut_copy c) m ≡ copy_prefix_root F c m
  unfolding copy_prefix_root
  old_cut F = ap (λ (v : Verdict). root_unless F v (cut_copy c).tree m) old_verdict_cut ∙ go (copy_prefix_verdict c m) refl
    where
      go : (v : Verdict) → copy_prefix_verdict c m ≡ v → root_unless F v (cut_copy c).tree m ≡ root_unless F v c.tree m
      go done e = ap F (old_message_cut c.tree c.n m (up_to e))
      go (refused k at) e = refl

-- ---- the lookups

module _ (c : Copy) (i : ℕ) where
  pub place_cut : copy_place_of (cut_copy c) i ≡ copy_place_of c i
  unfolding copy_place_of
  place_cut = λ j. found_behind (judged_cut c done j) (place_in_cut (known (cut_copy c)) (known c) c.tree c.n i (known_cut c.bitfield c.n) j)

  pub held_place_cut : copy_held_place_of (cut_copy c) i ≡ copy_held_place_of c i
  unfolding copy_held_place_of
  held_place_cut =
      λ j. found_behind (judged_cut c done j) (held_in_cut (known (cut_copy c)) (known c) c.tree c.n i (known_cut c.bitfield c.n) c.bitfield j)

  pub released_copy_cut : verdict_found (copy_held_place_of c i) ≡ done → cut_copy (released_copy c i) ≡ released_copy (cut_copy c) i
  unfolding released_copy released_register
  released_copy_cut e = ap (λ (r : Register). lent_as_copy r) (released_cut (signed c) i (ap verdict_found (held_done c i e).1.register))

-- ---- the read and the packet

module _ (F : List ℕ → List ℕ) (c : Copy) (i : ℕ) where
  pub read_found_cut : copy_read_found F (cut_copy c) i ≡ copy_read_found F c i
  unfolding copy_read_found
  read_found_cut =
      ap (hash_judged F (cut_copy c).tree (cut_copy c).content i) (held_place_cut c i)
      ∙ hash_same F (cut_copy c).tree c.tree (cut_copy c).content c.content i (copy_held_place_of c i)
      (λ s z e.
      let p = held_placing (signed c) i (held_at c i e).register in
      (hash_cut c.tree c.n (index 0 i) (leaf_below c.n i p.below), part_cut (signed c) i p))

  pub read_verdict_cut : copy_read_verdict F (cut_copy c) i ≡ copy_read_verdict F c i
  unfolding copy_read_verdict
  read_verdict_cut = ap verdict_found read_found_cut

  pub read_cut : copy_read_part F (cut_copy c) i ≡ copy_read_part F c i
  unfolding copy_read_part
  read_cut =
      ap (bytes_found (cut_copy c).content) read_found_cut
      ∙ bytes_same (cut_copy c).content c.content (copy_read_found F c i) (λ s e q. read_part_cut F (signed c) i s e (sym (read_found_as F c i s e (sym q))))

  copy_packet_cut : copy_read_verdict F c i ≡ done → packet_of (unsigned (cut_copy c)) i ≡ packet_of (unsigned c) i
  unfolding packet_of packet_with chunk_bytes
  copy_packet_cut e = packet_cut F (signed c) i (read_as F c i e)

  module _ (out : List ℕ) where
    abbrev room : List ℕ → Verdict
    room p = room_or14 (holds out (length p))

    pub make_verdict_cut : copy_make_verdict F (cut_copy c) i out ≡ copy_make_verdict F c i out
    unfolding copy_make_verdict
    make_verdict_cut =
        ap (λ (v : Verdict). and_then v (room (packet_of (unsigned (cut_copy c)) i))) read_verdict_cut
        ∙ then_same (copy_read_verdict F c i) (room (packet_of (unsigned (cut_copy c)) i)) (room (packet_of (unsigned c) i)) (λ e. ap room (copy_packet_cut e))

    -- what is done with a packet where it is made
    made_with : {A : Type 0} (f : Verdict → List ℕ → A) → ((m : ℕ) (at : Spot) (x y : List ℕ) → f (refused m at) x ≡ f (refused m at) y)
        → f (copy_make_verdict F (cut_copy c) i out) (packet_of (unsigned (cut_copy c)) i) ≡ f (copy_make_verdict F c i out) (packet_of (unsigned c) i)
    unfolding copy_make_verdict
    made_with f g = ap (λ (v : Verdict). f v (packet_of (unsigned (cut_copy c)) i)) make_verdict_cut ∙ go (copy_make_verdict F c i out) refl
      where
        go : (v : Verdict) → copy_make_verdict F c i out ≡ v → f v (packet_of (unsigned (cut_copy c)) i) ≡ f v (packet_of (unsigned c) i)
        go done e = ap (f done) (copy_packet_cut (then_first (copy_read_verdict F c i) _ e))
        go (refused m at) e = g m at (packet_of (unsigned (cut_copy c)) i) (packet_of (unsigned c) i)

    pub after_make_cut : copy_after_make F (cut_copy c) i out ≡ copy_after_make F c i out
    unfolding copy_after_make
    after_make_cut = made_with (λ v p. unless_refused v (put out 0 p) out) (λ m at x y. refl)

    pub made_length_cut : copy_made_length F (cut_copy c) i out ≡ copy_made_length F c i out
    unfolding copy_made_length
    made_length_cut = made_with (λ v p. unless_refused v (length p) 0) (λ m at x y. refl)

-- ---- the byte lookup

pub byte_at_cut : (c : Copy) (b : ℕ) → copy_byte_at (cut_copy c) b ≡ copy_byte_at c b
unfolding copy_byte_at copy_to_byte
byte_at_cut c b =
    λ j. found_behind (judged_cut c done j) (byte_same (known (cut_copy c)) (known c) (cut_copy c).tree c.tree c.n c.size b (to_byte_cut c b) j)

-- ---- the release

pub release_same : (a b : Copy) (i : ℕ) → SameUsed a b → copy_release_verdict a i ≡ copy_release_verdict b i
unfolding copy_release_verdict
release_same a b i h = ap verdict_found (sym (held_place_cut a i) ∙ ap (λ (c : Copy). copy_held_place_of c i) (same_cut a b h) ∙ held_place_cut b i)

pub released_same : (a b : Copy) (i : ℕ) → SameUsed a b → copy_release_verdict a i ≡ done → SameUsed (released_copy a i) (released_copy b i)
unfolding copy_release_verdict
released_same a b i h e =
    of_cut (released_copy a i) (released_copy b i)
    (released_copy_cut a i e ∙ ap (λ (c : Copy). released_copy c i) (same_cut a b h) ∙ sym (released_copy_cut b i (sym (release_same a b i h) ∙ e)))
