-- An accepted register has what the packet of each chunk that it holds brings, and takes it in after a release. Assumes nothing.
use Prim.Native.Nat.{ℕ, suc, ◌*◌, ◌/◌, ◌^◌, ◌≤◌, ◌<◌}
use mathlib.Core.Path.{◌≡◌, refl, sym, ap, ap₂, ◌∙◌, subst}
use mathlib.Core.Logic.{⊎_elim}
use mathlib.Core.Bool.{Bool, true, ◌||◌}
use mathlib.Core.List.{List}
use native.Mathlib.Omega.{arith}
use borrow.Author.Tests.{eqb-true, le-leb}
use lib.Dec.{eqb}
use lib.ListN.{length, drop}
use Rattle.answer_types.specs.Verdict.{Verdict, tree, done, unless_refused, and_then}
use Rattle.byte_strings.specs.Lists.{put}
use Rattle.byte_strings.proofs.Bools.{or_true, or_none, cases}
use Rattle.tree_index.specs.Tree.{index, filled, entries}
use Rattle.tree_index.proofs.Filled.{filled_below}
use Rattle.bitfield.specs.Image.{entry_count}
use Rattle.bitfield.specs.Release.{stored_held}
use Rattle.bitfield.specs.Known.{stored_known, held_again}
use Rattle.bitfield.proofs.Bits.{with_one_lem}
use Rattle.blake2b.specs.Hash.{node_hash}
use Rattle.file_format.specs.Sizes.{used_bitfield}
use Rattle.file_format.specs.Messages.{HashFunction}
use Rattle.file_format.specs.Images.{data_size, bitfield_of}
use Rattle.file_format.specs.Stored.{stored_root_message}
use Rattle.file_format.specs.Slots.{Slot, contents, held_in, Within}
use Rattle.file_format.specs.Belongs.{Register, Lent, Belongs}
use Rattle.file_format.proofs.Hashed.{hash_function}
use Rattle.file_format.proofs.Spans.{span_le, span_all}
use Rattle.file_format.proofs.Slots.{contents_length}
use Rattle.checks.specs.Checks.{judged, register_checks, holds}
use Rattle.checks.proofs.Passed.{Passed, passes}
use Rattle.writing.specs.Append.{root_unless_refused}
use Rattle.writing.specs.RootHash.{root_verdict, root_answer}
use Rattle.audit.specs.Audit.{Accepted}
use Rattle.audit.proofs.Audited.{Audited, accepted_audited, parent_says}
use Rattle.audit.proofs.Accepts.{Signed}
use Rattle.audit.proofs.Only.{cut, cut_held, accepted_belongs}
use Rattle.lookup.specs.Read.{verdict_found, chunk_bytes, read_verdict}
use Rattle.lookup.proofs.Answers.{stays_inside, to_chunk_lem, answers}
use Rattle.lookup.proofs.Calls.{reading}
use Rattle.release.specs.Release.{release_verdict, released_register}
use Rattle.packet.specs.Packet.{packet_of, room_or14, make_verdict, after_make, made_length, packet_with}
use Rattle.packet.specs.Inner.{Readable}
use Rattle.packet.proofs.Makes.{readable}
use Rattle.copy_checks.specs.Copy.{Copy, files_of, lent_as_copy, unsigned}
use Rattle.copy_release.specs.Release.{released_copy}
use Rattle.copy_take_in.specs.TakeIn.{take_verdict, taken_in, after_taking}
use Rattle.theorem_taking_laws.proofs.Among.{brought_filled}
use Rattle.theorem_taking_laws.proofs.Ways.{way_filled}
use Rattle.file_format.proofs.Shown.{shown, shown_ext, used_shown, shown_known, held_more}
use Rattle.theorem_released_back.specs.Returned.{with_files, returned}
use Rattle.theorem_taken_in.proofs.Has.{Has, taken_again, comes_back}
use Rattle.theorem_packet_returns.specs.ComesBack.{ComesBack, ComesBackForAll}
use Rattle.theorem_packet_returns.proofs.Made.{Sound, sound_has}

-- a test that holds at a number already
pub with_same : (p : ℕ → Bool) (i : ℕ) → p i ≡ true → (j : ℕ) → with_one_lem p i j ≡ p j
with_same p i e j = ⊎_elim here (λ f. ap (λ (b : Bool). p j || b) f ∙ or_none (p j)) (cases (eqb j i))
  where
    here : eqb j i ≡ true → (p j || eqb j i) ≡ p j
    here f = ap (λ (b : Bool). p j || b) f ∙ or_true (p j) ∙ sym (ap p (eqb-true j i f) ∙ e)

-- a bitfield file that shows a chunk held has it held with its Index
pub shown_again : (held known : ℕ → Bool) (n : ℕ) (tail : List ℕ) (i : ℕ) → i < n → held i ≡ true
    → held_again (shown held known n tail) i ≡ shown held known n tail
shown_again held known n tail i l e =
    held_more held known n tail i l ∙ shown_ext (with_one_lem held i) held known known n tail (with_same held i e) (λ j. refl)

module _ (F : List ℕ → List ℕ) (H : HashFunction F) (r : Register) (l : Lent r) (a : Accepted F r) (i : ℕ) (below : i < r.n)
    (held : stored_held r.bitfield i ≡ true) where
  audited : Audited F r
  audited = accepted_audited F r a

  abbrev ok : Passed r
  ok = (accepted_audited F r a).checked

  abbrev ss : List Slot
  ss = cut r

  own : Within (cut r) × Belongs F r (cut r) × Signed r
  own = accepted_belongs F H r l a

  passed : judged (register_checks r) done ≡ done
  passed = passes r done ok

  in_cut : held_in (cut r) i ≡ true
  in_cut = sym (cut_held r i below) ∙ held

  read_done_lem : read_verdict F r i ≡ done
  read_done_lem = (answers F H (cut r) own.0 r own.1 passed).read_done i in_cut

  read : Readable r.tree r.n i (chunk_bytes r i)
  read = readable F r i (sym read_done_lem) (chunk_bytes r i) refl

  -- ---- the bits

  abbrev tail : List ℕ
  tail = drop (used_bitfield r.n) r.bitfield

  bits_are : r.bitfield ≡ shown (held_in (cut r)) (filled r.n) r.n tail
  unfolding bitfield_of
  bits_are =
      used_shown r.bitfield (held_in (cut r)) (filled r.n) r.n
      own.1.bitfield

  filled_known : (j : ℕ) → filled r.n j ≡ true → stored_known r.bitfield j ≡ true
  unfolding entries entry_count
  filled_known j f =
      let b : j < entries r.n = filled_below r.n j f in
      ap (λ (x : List ℕ). stored_known x j) bits_are ∙ shown_known (held_in (cut r)) (filled r.n) r.n tail j (omega arith) ∙ f

  index_right : held_again r.bitfield i ≡ r.bitfield
  index_right =
      ap (λ (x : List ℕ). held_again x i) bits_are ∙ shown_again (held_in (cut r)) (filled r.n) r.n tail i below in_cut ∙ sym bits_are

  -- ---- the sizes

  few : r.size ≤ 68719476736
  few =
      let cs : List (List ℕ) = contents (cut r) in
      let s : data_size cs ≤ length cs * 65536 = subst (λ (x : ℕ). x ≤ length cs * 65536) (span_all cs) (span_le cs 65536 0 (length cs) own.0.short) in
      let m : length cs ≤ 1048576 = subst (λ (x : ℕ). x ≤ 1048576) (sym (contents_length (cut r))) own.0.count in
      omega (arith, own.1.total)

  sound : Sound F (lent_as_copy r) i
  unfolding chunk_bytes
  sound =
      record {
        lent =
            record {
              count = ok.count;
              tree = ok.tree;
              bitfield = ok.bitfield;
              content = ok.content;
              tree_front_lem = ok.tree_front_lem;
              bitfield_front = ok.bitfield_front;
            };
        tree_bytes = l.tree;
        content_bytes_lem = l.content;
        read = read;
        adds = ok.adds;
        small = few;
        leaf_size_lem = sym ((stays_inside r ok).read i below i _ (to_chunk_lem F H (cut r) own.0 r own.1 ok i below));
        leaf_hash = (reading F r i read_done_lem).hash;
        parents = λ d m.
            parent_says F r.tree r.content r.bitfield r.n r.size d (i / 2 ^ suc d) (way_filled r.n i read.chunk (suc d) m)
            (audited.entry (index (suc d) (i / 2 ^ suc d)) (filled_below r.n _ (way_filled r.n i read.chunk (suc d) m)));
        knows = λ g m. filled_known g.at (brought_filled r.n i read.chunk F (packet_of (unsigned (lent_as_copy r)) i) g m);
        held = held;
        indexed = index_right;
      }

  root_done_lem : root_verdict r ≡ done
  unfolding root_verdict
  root_done_lem = passed

  root_is : root_answer F r ≡ F (stored_root_message r.tree r.n)
  unfolding root_answer
  root_is = ap (λ (v : Verdict). root_unless_refused F v r) root_done_lem

  has : Has F (lent_as_copy r) (packet_of r i) i (root_answer F r)
  unfolding packet_of packet_with chunk_bytes
  has = subst (Has F (lent_as_copy r) (packet_of r i) i) (sym root_is) (sound_has F (lent_as_copy r) i sound)

  released_same : released_copy (lent_as_copy r) i ≡ lent_as_copy (released_register r i)
  unfolding released_copy released_register
  released_same = refl

  make_done : (out : List ℕ) → length (packet_of r i) ≤ length out → make_verdict F r i out ≡ done
  unfolding make_verdict
  make_done out h =
      ap (λ (v : Verdict). and_then v (room_or14 (holds out (length (packet_of r i))))) read_done_lem ∙ ap room_or14 (le-leb (length (packet_of r i)) (length out) h)

  released_done : release_verdict r i ≡ done
  unfolding release_verdict
  released_done = ap verdict_found (reading F r i read_done_lem).held

  again : take_verdict F (lent_as_copy (released_register r i)) (packet_of r i) i (root_answer F r) ≡ done
  again =
      ap (λ (c : Copy). take_verdict F c (packet_of r i) i (root_answer F r)) (sym released_same)
      ∙ taken_again F H (lent_as_copy r) (packet_of r i) i (root_answer F r) has

  same : taken_in F (lent_as_copy (released_register r i)) (packet_of r i) i ≡ lent_as_copy r
  same =
      ap (λ (c : Copy). taken_in F c (packet_of r i) i) (sym released_same) ∙ comes_back F H (lent_as_copy r) (packet_of r i) i (root_answer F r) has

  pub register_back : ComesBack F r i
  unfolding after_make made_length after_taking returned released_register
  register_back =
      record {
        made_done = make_done;
        made = λ out h. ap (λ (v : Verdict). unless_refused v (put out 0 (packet_of r i)) out) (make_done out h);
        long = λ out h. ap (λ (v : Verdict). unless_refused v (length (packet_of r i)) 0) (make_done out h);
        root_done = root_done_lem;
        release_done = released_done;
        taken_done = again;
        taken =
            ap₂ (λ (v : Verdict) (c : Copy). unless_refused v (files_of c) (files_of (lent_as_copy (released_register r i)))) again same;
        back = ap (with_files r) same;
      }

pub comes_back_for_all : ComesBackForAll
comes_back_for_all = register_back

-- ---- at the hash of the calls

pub comes_back_of_the_calls : (r : Register) → Lent r → Accepted node_hash r → (i : ℕ) → i < r.n → stored_held r.bitfield i ≡ true → ComesBack node_hash r i
comes_back_of_the_calls = comes_back_for_all node_hash hash_function
