-- A release leaves what is told of the leaves. Assumes nothing.
use Prim.Native.Nat.{ℕ, ◌/◌, ◌≤◌}
use mathlib.Core.Path.{◌≡◌, sym, ap, ap₂, ◌∙◌, subst}
use mathlib.Core.Bool.{Bool}
use mathlib.Core.List.{List}
use native.Mathlib.Omega.{arith}
use lib.ListN.{length, length-append, length-take, length-drop}
use Rattle.answer_types.specs.Verdict.{Verdict, done, and_then}
use Rattle.byte_strings.specs.Lists.{put, zeros}
use Rattle.tree_index.specs.Tree.{index, roots}
use Rattle.file_format.specs.Sizes.{used_bitfield}
use Rattle.file_format.specs.Stored.{stored_size}
use Rattle.release.specs.Release.{released_register}
use Rattle.release.proofs.Bits.{bits_long, bits_header}
use Rattle.release.proofs.Calls.{cleared_at}
use Rattle.copy_checks.proofs.Descents.{chunk_read, chunk_same}
use Rattle.lookup.specs.Unknown.{first_unknown}
use Rattle.stored_leaf.specs.StoredLeaf.{leaf_in, leaf_hash, leaf_length}
use Rattle.copy_checks.specs.Copy.{Copy, known, unsigned}
use Rattle.copy_checks.specs.Checks.{unknown_root}
use Rattle.copy_checks.proofs.Steps.{Knowing, copy_passes}
use Rattle.copy_release.specs.Release.{copy_release_verdict, released_copy}
use Rattle.copy_stored_leaf.specs.StoredLeaf.{copy_leaf_verdict}
use Rattle.bitfield.proofs.StoredBits.{RoomFor}
use Rattle.theorem_copies_kept.specs.Theorems.{LeavesStay}
use Rattle.theorem_copies_kept.proofs.Stay.{known_less, Asked, asked, data_room}

-- what is put makes nothing shorter
put_least : (xs : List ℕ) (at : ℕ) (ys : List ℕ) → length xs ≤ length (put xs at ys)
unfolding put
put_least xs at ys = simp (length-append, length-take, length-drop) (omega arith)

module _ (c : Copy) (i : ℕ) (e : copy_release_verdict c i ≡ done) where
  abbrev d : Copy
  d = released_copy c i

  had : Asked c i
  had = asked c i e

  room : RoomFor c.bitfield (i / 8192)
  room = data_room c i had.knowing.lent had.below

  knows : known d ≡ known c
  unfolding released_copy released_register
  knows = (λ j x. known_less c.bitfield i room x j)

  same_roots_lem : unknown_root d ≡ unknown_root c
  unfolding unknown_root released_copy released_register
  same_roots_lem = ap (λ (f : ℕ → Bool). first_unknown f (roots c.n)) knows

  content_room : c.size ≤ length (released_copy c i).content
  unfolding released_copy
  content_room =
      let e = cleared_at (unsigned c) i had.below (sym (chunk_same c i (chunk_read c i had.comes)) ∙ had.comes) in
      let p = put_least c.content had.start (zeros (stored_size c.tree (index 0 i))) in
      omega (arith, ap length e, had.knowing.lent.content)

  still : Knowing d
  unfolding released_copy released_register
  still =
      let l = had.knowing.lent in
      record {
        lent =
            record {
              count = l.count;
              tree = l.tree;
              bitfield = subst (λ (x : ℕ). used_bitfield c.n ≤ x) (sym (bits_long c.bitfield i room)) l.bitfield;
              content = content_room;
              tree_front_lem = l.tree_front_lem;
              bitfield_front = bits_header c.bitfield i room ∙ l.bitfield_front;
            };
        rooted = same_roots_lem ∙ had.knowing.rooted;
        adds = had.knowing.adds;
      }

  same : (k : ℕ) → copy_leaf_verdict d k ≡ copy_leaf_verdict c k
  unfolding copy_leaf_verdict released_copy released_register
  same k =
      ap₂ (λ (v : Verdict) (f : ℕ → Bool). and_then v (leaf_in f c.n k)) (copy_passes d done still ∙ sym (copy_passes c done had.knowing)) knows

  pub leaves_stay : LeavesStay c (released_copy c i)
  unfolding released_copy released_register
  leaves_stay =
      record {
        says = same;
        hash = λ k out. ap (λ (v : Verdict). leaf_hash v c.tree k out) (same k);
        length = λ k. ap (λ (v : Verdict). leaf_length v c.tree k) (same k);
      }
