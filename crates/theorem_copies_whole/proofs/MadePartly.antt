-- A copy that is made has nothing yet. Assumes nothing.
use Prim.Native.Nat.{ℕ, zero, suc, ◌+◌, ◌*◌, ◌≤◌, ◌<◌}
use mathlib.Core.Path.{◌≡◌, refl, sym, ap, ap₂, ◌∙◌}
use mathlib.Core.Bool.{Bool, true, false}
use mathlib.Core.List.{List, ◌++◌, append_assoc}
use native.Mathlib.Omega.{arith}
use lib.ListN.{length, take, drop, length-append, length-replicate, replicate-append-replicate}
use lib.Seq.{take_at}
use borrow.Author.Tests.{leb-true}
use Rattle.answer_types.specs.Verdict.{done}
use Rattle.byte_strings.specs.Lists.{part, put, run, joined, zeros}
use Rattle.byte_strings.proofs.Lists.{run_ext, length_put, part_left, part_behind, part_zeros, put_front}
use Rattle.tree_index.specs.Tree.{entries}
use Rattle.bitfield.specs.Image.{entry, entry_count, entries_for}
use Rattle.bitfield.proofs.Image.{zero_entry}
use Rattle.file_format.specs.Headers.{tree_header, bitfield_header}
use Rattle.file_format.specs.Sizes.{entry_place, used_tree, used_bitfield}
use Rattle.file_format.specs.Images.{data_size}
use Rattle.file_format.proofs.OfImage.{tree_header_length, bitfield_header_length}
use Rattle.checks.proofs.Judged.{judged_done}
use Rattle.copy_checks.specs.Copy.{Copy}
use Rattle.copy_make.specs.Make.{make_checks, make_verdict, made_copy}
use Rattle.file_format.proofs.Shown.{shown}
use Rattle.theorem_copies_whole.proofs.Partly.{Partly}

zeros_joined : (i m : ℕ) → joined (run (λ e. zeros 3328) i m) ≡ zeros (3328 * m)
unfolding joined run
zeros_joined i zero = refl
zeros_joined i (suc m) =
    let e : 3328 + 3328 * m ≡ 3328 * suc m = omega arith in
    ap (λ (l : List ℕ). zeros 3328 ++ l) (zeros_joined (suc i) m) ∙ replicate-append-replicate 3328 (3328 * m) 0 ∙ ap zeros e

module _ (F : List ℕ → List ℕ) (cs : List (List ℕ)) where
  pub none : ℕ → Bool
  none j = false

  never : {A : Type 0} (j : ℕ) → none j ≡ true → A
  unfolding none
  never j e = absurd (let z : ◌≡◌ {A = ℕ} 0 1 = cc in omega arith)

  module _ (c : Copy) (count : c.n ≡ length cs) (total : c.size ≡ data_size cs) (e : make_verdict c ≡ done) where
    abbrev ys : List ℕ
    ys = tree_header ++ zeros (40 * entries c.n)

    abbrev zs : List ℕ
    zs = bitfield_header ++ zeros (3328 * entry_count c.n)

    ys_long : length ys ≡ used_tree c.n
    unfolding used_tree
    ys_long = length-append tree_header (zeros (40 * entries c.n)) ∙ ap₂ ◌+◌ tree_header_length (length-replicate {A = ℕ} (40 * entries c.n) 0)

    zs_long : length zs ≡ used_bitfield c.n
    unfolding used_bitfield
    zs_long = length-append bitfield_header (zeros (3328 * entry_count c.n)) ∙ ap₂ ◌+◌ bitfield_header_length (length-replicate {A = ℕ} (3328 * entry_count c.n) 0)

    room : (used_tree c.n ≤ length c.tree) × (c.size ≤ length c.content)
    unfolding make_verdict make_checks
    room = let a = (judged_done (make_checks c) done e).0 in (leb-true _ _ a.1.0, leb-true _ _ a.1.1.1.0)

    tree_is : put c.tree 0 ys ≡ tree_header ++ (zeros (40 * entries c.n) ++ drop (length ys) c.tree)
    tree_is = put_front c.tree ys ∙ append_assoc tree_header (zeros (40 * entries c.n)) (drop (length ys) c.tree)

    no_entries : entries_for none none c.n ≡ zeros (3328 * entry_count c.n)
    unfolding entries_for none
    no_entries =
        ap joined (run_ext (entry none none) (λ i. zeros 3328) 0 (entry_count c.n) (λ i a b. zero_entry none none i (λ j l. refl) (λ j l. refl)))
        ∙ zeros_joined 0 (entry_count c.n)

    no_bits : put c.bitfield 0 zs ≡ shown none none c.n (drop (used_bitfield c.n) c.bitfield)
    unfolding shown
    no_bits =
        put_front c.bitfield zs ∙ ap (λ (m : ℕ). zs ++ drop m c.bitfield) zs_long
        ∙ append_assoc bitfield_header (zeros (3328 * entry_count c.n)) (drop (used_bitfield c.n) c.bitfield)
        ∙ ap (λ (l : List ℕ). bitfield_header ++ (l ++ drop (used_bitfield c.n) c.bitfield)) (sym no_entries)

    zero_at : (j : ℕ) → j < entries c.n → part (put c.tree 0 ys) (entry_place j) 40 ≡ zeros 40
    unfolding entry_place
    zero_at j l =
        let m : ℕ = 40 * entries c.n in
        ap (λ (x : List ℕ). part x (32 + 40 * j) 40) tree_is
        ∙ part_behind tree_header (zeros (40 * entries c.n) ++ drop (length ys) c.tree) 32 (40 * j) 40 tree_header_length
        ∙ part_left (zeros (40 * entries c.n)) (drop (length ys) c.tree) (40 * j) 40 (omega (arith, length-replicate {A = ℕ} (40 * entries c.n) 0))
        ∙ part_zeros (40 * entries c.n) (40 * j) 40 (omega arith)

    pub made_partly : Partly F cs (made_copy c) none none (drop (used_bitfield c.n) c.bitfield)
    unfolding made_copy
    made_partly =
        record {
          count = count;
          total = total;
          front = ap (take 32) tree_is ∙ take_at tree_header (zeros (40 * entries c.n) ++ drop (length ys) c.tree) 32 tree_header_length;
          nodes = omega (arith, room.0, ys_long, length_put c.tree 0 ys (omega (arith, room.0, ys_long)));
          bytes = omega (
            arith,
            room.1,
            length_put c.content 0 (zeros c.size) (omega (arith, room.1, length-replicate {A = ℕ} c.size 0)),
          );
          bits = no_bits;
          known_only = λ j f. never j f;
          entry = λ j f. never j f;
          empty = λ j l f. zero_at j l;
          has_only = λ k f. never k f;
          chunk = λ k f. never k f;
          way = λ k f d g. never k f;
        }
