-- Making a copy looks at no byte of the buffers, and neither it nor a release changes one behind the used sizes. Assumes nothing.
use Prim.Native.Nat.{ℕ, ◌+◌, ◌*◌, ◌≤◌}
use mathlib.Core.Path.{◌≡◌, refl, sym, ap, ap₂, ◌∙◌}
use mathlib.Core.List.{List, [], ◌∷◌, ◌++◌}
use native.Mathlib.Omega.{arith}
use borrow.Author.Tests.{leb-true}
use lib.ListN.{length, take, drop, length-append, length-replicate}
use lib.Seq.{take_at}
use Rattle.answer_types.specs.Verdict.{done}
use Rattle.byte_strings.specs.Lists.{put, zeros}
use Rattle.byte_strings.proofs.Lists.{length_put, drop_put}
use Rattle.tree_index.specs.Tree.{entries, index}
use Rattle.bitfield.specs.Image.{entry_count}
use Rattle.file_format.specs.Headers.{tree_header, bitfield_header}
use Rattle.file_format.specs.Sizes.{used_tree, used_bitfield}
use Rattle.file_format.specs.Stored.{stored_size}
use Rattle.file_format.proofs.OfImage.{tree_header_length, bitfield_header_length}
use Rattle.checks.specs.Checks.{judged, count_right, holds}
use Rattle.checks.proofs.Judged.{judged_done}
use Rattle.lookup.specs.Read.{verdict_found}
use Rattle.release.specs.Release.{released_register}
use Rattle.release.proofs.Bits.{bit_room, bits_long, bits_rest}
use Rattle.release.proofs.Calls.{clearing}
use Rattle.copy_checks.specs.Copy.{Copy}
use Rattle.copy_checks.proofs.Signed.{signed}
use Rattle.copy_lookup.proofs.AsRegister.{held_done}
use Rattle.copy_make.specs.Make.{make_checks, make_verdict, made_copy}
use Rattle.copy_release.specs.Release.{copy_release_verdict, released_copy}
use Rattle.theorem_copy_used_bytes.specs.UsedBytes.{MakesUsed}
use Rattle.theorem_copy_used_bytes.specs.Behind.{Kept, KeptBehind, KeepBehindForAll}
use Rattle.theorem_copy_used_bytes.proofs.Taking.{taken_behind}

-- ---- a file written from its front

abbrev tree_image : ℕ → List ℕ
tree_image n = tree_header ++ zeros (40 * entries n)

abbrev bitfield_image : ℕ → List ℕ
bitfield_image n = bitfield_header ++ zeros (3328 * entry_count n)

tree_long : (n : ℕ) → length (tree_image n) ≡ used_tree n
unfolding used_tree
tree_long n = length-append tree_header (zeros (40 * entries n)) ∙ ap₂ ◌+◌ tree_header_length (length-replicate {A = ℕ} (40 * entries n) 0)

bitfield_long : (n : ℕ) → length (bitfield_image n) ≡ used_bitfield n
unfolding used_bitfield
bitfield_long n = length-append bitfield_header (zeros (3328 * entry_count n)) ∙ ap₂ ◌+◌ bitfield_header_length (length-replicate {A = ℕ} (3328 * entry_count n) 0)

module _ (xs : List ℕ) (used : ℕ) (ys : List ℕ) (long : length ys ≡ used) where
  whole : take used (put xs 0 ys) ≡ ys
  unfolding put
  whole = take_at ys (drop (0 + length ys) xs) used long

  kept : used ≤ length xs → Kept used xs (put xs 0 ys)
  kept h = record { long = length_put xs 0 ys (omega arith); behind = drop_put used xs 0 ys (omega arith) (omega arith) }

-- ---- making

module _ (c : Copy) (e : make_verdict c ≡ done) where
  pub record Roomy : Type 0 where
    pub tree : used_tree c.n ≤ length c.tree
    pub bitfield : used_bitfield c.n ≤ length c.bitfield
    pub content : c.size ≤ length c.content

  roomy : Roomy
  unfolding make_verdict make_checks
  roomy =
      let a = (judged_done (make_checks c) done e).0 in
      record { tree = leb-true _ _ a.1.0; bitfield = leb-true _ _ a.1.1.0; content = leb-true _ _ a.1.1.1.0 }

  made_behind : KeptBehind c (made_copy c)
  unfolding made_copy
  made_behind =
      record {
        tree = kept c.tree (used_tree c.n) (tree_image c.n) (tree_long c.n) roomy.tree;
        bitfield = kept c.bitfield (used_bitfield c.n) (bitfield_image c.n) (bitfield_long c.n) roomy.bitfield;
        content = kept c.content c.size (zeros c.size) (length-replicate {A = ℕ} c.size 0) roomy.content;
      }

pub makes_used : MakesUsed
unfolding make_verdict make_checks made_copy
makes_used a b h =
    let t : holds a.tree (used_tree a.n) ≡ holds b.tree (used_tree b.n) = h.tree ∙ ap (λ (n : ℕ). holds b.tree (used_tree n)) h.n in
    let f : holds a.bitfield (used_bitfield a.n) ≡ holds b.bitfield (used_bitfield b.n) =
    h.bitfield ∙ ap (λ (n : ℕ). holds b.bitfield (used_bitfield n)) h.n in
    let d : holds a.content a.size ≡ holds b.content b.size = h.content ∙ ap (λ (n : ℕ). holds b.content n) h.size in
    record {
      says = λ j. judged
          (record { number = 2; right = count_right (h.n j) } ∷ record { number = 14; right = t j } ∷ record { number = 14; right = f j }
          ∷ record { number = 14; right = d j } ∷ []) done;
      made = λ e.
          record {
            n = h.n;
            size = h.size;
            tree = whole a.tree (used_tree a.n) (tree_image a.n) (tree_long a.n) ∙ ap tree_image h.n
                ∙ sym (whole b.tree (used_tree a.n) (tree_image b.n) (tree_long b.n ∙ ap used_tree (sym h.n)));
            bitfield = whole a.bitfield (used_bitfield a.n) (bitfield_image a.n) (bitfield_long a.n) ∙ ap bitfield_image h.n
                ∙ sym (whole b.bitfield (used_bitfield a.n) (bitfield_image b.n) (bitfield_long b.n ∙ ap used_bitfield (sym h.n)));
            content = whole a.content a.size (zeros a.size) (length-replicate {A = ℕ} a.size 0) ∙ ap zeros h.size
                ∙ sym (whole b.content a.size (zeros b.size) (length-replicate {A = ℕ} b.size 0 ∙ sym h.size));
          };
    }

-- ---- releasing

released_behind : (c : Copy) (i : ℕ) → copy_release_verdict c i ≡ done → KeptBehind c (released_copy c i)
unfolding copy_release_verdict released_copy released_register
released_behind c i e =
    let v = clearing (signed c) i (ap verdict_found (held_done c i e).1.register) in
    let p = v.placing.passed in
    let below = v.placing.below in
    let start : ℕ = v.start in
    let zs : List ℕ = zeros (stored_size c.tree (index 0 i)) in
    let l : length zs ≡ stored_size c.tree (index 0 i) = length-replicate {A = ℕ} (stored_size c.tree (index 0 i)) 0 in
    let inside : start + length zs ≤ c.size = omega (arith, v.placing.inside) in
    record {
      tree = record { long = refl; behind = refl };
      bitfield =
          record {
            long = bits_long c.bitfield i (bit_room c.bitfield c.n i p.bitfield below);
            behind = bits_rest c.bitfield c.n i p.bitfield below;
          };
      content =
          record {
            long = ap length v.content ∙ length_put c.content start zs (omega (arith, p.content));
            behind = ap (drop c.size) v.content ∙ drop_put c.size c.content start zs inside (omega (arith, p.content));
          };
    }

pub keep_behind : KeepBehindForAll
keep_behind F c =
    record {
      made = made_behind c;
      taken = λ H p B i root e. taken_behind F c p i root H B e;
      released = released_behind c;
    }
