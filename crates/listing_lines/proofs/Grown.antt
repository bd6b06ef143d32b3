-- A chunk added to the listing's register by an append and a stored signature.
-- Assumes nothing.
use Prim.Native.Nat.{ℕ, ◌+◌, ◌≤◌, ◌<◌}
use mathlib.Core.Path.{◌≡◌, sym, ap, ◌∙◌, subst}
use mathlib.Core.Bool.{Bool, true, ◌||◌}
use mathlib.Core.List.{List, [], ◌∷◌, ◌++◌, map-append}
use native.Mathlib.Omega.{arith}
use borrow.Author.Tests.{eq-eqb}
use lib.Dec.{eqb}
use lib.ListN.{length, take}
use Rattle.answer_types.specs.Verdict.{Verdict, done}
use Rattle.blake2b.specs.Hash.{node_hash}
use Rattle.byte_strings.specs.Lists.{Bytes}
use Rattle.byte_strings.proofs.Lists.{length_put, take_put}
use Rattle.byte_strings.proofs.Bools.{or_right}
use Rattle.tree_index.specs.Tree.{entries}
use Rattle.bitfield.specs.Image.{entry_count, entries_of}
use Rattle.bitfield.proofs.Bits.{with_one_lem}
use Rattle.bitfield.proofs.Image.{length_entries}
use Rattle.file_format.specs.Headers.{signatures_header}
use Rattle.file_format.specs.Sizes.{used_tree, used_signatures, used_bitfield}
use Rattle.file_format.specs.Slots.{Slot, held, all_held, held_in, Within}
use Rattle.file_format.specs.Belongs.{Buffers, Register, buffers_of, Belongs}
use Rattle.file_format.proofs.Hashed.{hash_function}
use Rattle.file_format.proofs.OfImage.{signatures_32}
use Rattle.checks.specs.Checks.{signed_right}
use Rattle.checks.specs.Lent.{register_of}
use Rattle.checks.proofs.Passed.{Passed}
use Rattle.audit.proofs.Accepts.{belongs_accepted}
use Rattle.audit.proofs.Audited.{accepted_audited}
use Rattle.writing.specs.Append.{append_verdict, appended_register, after_append}
use Rattle.writing.specs.Sign.{sign_verdict, signed_register, after_sign}
use Rattle.writing.specs.Conditions.{AppendFits}
use Rattle.writing.specs.Post.{lent, AppendPost, SignPost}
use Rattle.writing.proofs.Tree.{appended_length}
use Rattle.writing.proofs.Orders.{left_done}
use Rattle.writing.proofs.Verdicts.{passed_append, passed_sign}
use Rattle.writing.proofs.AfterAppend.{none_from, longer_within, append_belongs, bits_put}
use Rattle.writing.proofs.Signed.{sign_belongs}
use Rattle.listing_lines.specs.Inner.{Ready, Adds}

pub tree_room : (n : ℕ) → n < 64 → used_tree (n + 1) ≤ 5120
unfolding used_tree entries
tree_room n h = omega arith

bits_room : (n : ℕ) → n < 64 → used_bitfield (n + 1) ≤ 3360
unfolding used_bitfield entry_count
bits_room n h = omega arith

bits_end : (has : ℕ → Bool) (n : ℕ) → n < 64 → 32 + length (entries_of has (n + 1)) ≤ 3360
unfolding entry_count
bits_end has n h = omega (arith, length_entries has (n + 1))

sigs_room : (s : ℕ) → s ≤ 64 → used_signatures s ≤ 4160
unfolding used_signatures
sigs_room s h = omega arith

sigs_end : (s : ℕ) → s < 64 → used_signatures s + 64 ≤ 4160
unfolding used_signatures
sigs_end s h = omega arith

-- the numbers 2 to 6 are passed by a register that belongs to chunks
passed_of : (r : Register) (ss : List Slot) → Within ss → Belongs node_hash r ss → signed_right r.n r.s ≡ true
    → used_signatures r.s ≤ length r.signatures → take 32 r.signatures ≡ signatures_header → Passed r
passed_of r ss w b s l f =
    (accepted_audited node_hash r (belongs_accepted node_hash hash_function ss w r b (record { count = s; long = l; front = f }))).checked

module _ (r : Register) (c : List ℕ) (p : Bytes c) (few : r.n < 64) (small : r.size + length c ≤ 4096) (cs : List (List ℕ)) (y : Ready r cs) where
  fits : AppendFits r c
  fits =
      record {
        fewer = omega (arith, few);
        short = omega (arith, small);
        paid = y.paid;
        tree = omega (arith, tree_room r.n few, y.tree);
        bitfield = omega (arith, bits_room r.n few, y.bitfield);
        content = omega (arith, small, y.content);
      }

  next : Register
  next = appended_register node_hash r c

  append_is_done : append_verdict r c ≡ done
  append_is_done =
      passed_append r c
      (passed_of r (all_held cs) y.within y.belongs (ap (λ (b : Bool). b || eqb (r.s + 1) r.n) (eq-eqb r.s r.n y.paid))
      (omega (arith, sigs_room r.s (omega (arith, y.paid, few)), y.signatures)) y.front)
      fits

  appended_buffers : after_append node_hash r c ≡ buffers_of next
  unfolding after_append next
  appended_buffers = left_done (append_verdict r c) (buffers_of (appended_register node_hash r c)) (buffers_of r) append_is_done

  longer : all_held cs ++ (held c ∷ []) ≡ all_held (cs ++ (c ∷ []))
  unfolding all_held
  longer = sym (map-append held cs (c ∷ []))

  wider : Within (all_held cs ++ (held c ∷ []))
  wider = longer_within node_hash hash_function (all_held cs) y.within r y.belongs c p fits

  wide : Within (all_held (cs ++ (c ∷ [])))
  wide = subst Within longer wider

  next_belongs : Belongs node_hash next (all_held (cs ++ (c ∷ [])))
  unfolding next
  next_belongs = subst (Belongs node_hash (appended_register node_hash r c)) longer (append_belongs node_hash hash_function (all_held cs) y.within r y.belongs c p fits)

  sign_is_done : sign_verdict next ≡ done
  unfolding next appended_register
  sign_is_done =
      passed_sign next
      (passed_of next (all_held (cs ++ (c ∷ []))) wide next_belongs
      (or_right (eqb r.s (r.n + 1)) (eqb (r.s + 1) (r.n + 1)) (eq-eqb (r.s + 1) (r.n + 1) (ap (λ (k : ℕ). k + 1) y.paid)))
      (omega (arith, sigs_room r.s (omega (arith, y.paid, few)), y.signatures)) y.front)
      (record { owed = ap (λ (k : ℕ). k + 1) y.paid; room = omega (arith, sigs_room (r.s + 1) (omega (arith, y.paid, few)), y.signatures) })

  module _ (sig : List ℕ) (long : length sig ≡ 64) where
    signed_buffers : after_sign next sig ≡ buffers_of (signed_register next sig)
    unfolding after_sign
    signed_buffers = left_done (sign_verdict next) (buffers_of (signed_register next sig)) (buffers_of next) sign_is_done

    signed_ready : Ready (signed_register next sig) (cs ++ (c ∷ []))
    unfolding signed_register next appended_register
    signed_ready =
        record {
          within = wide;
          belongs = sign_belongs node_hash next sig (all_held (cs ++ (c ∷ []))) next_belongs;
          paid = ap (λ (k : ℕ). k + 1) y.paid;
          front = take_put 32 r.signatures (used_signatures r.s) sig (signatures_32 r.s) (omega (arith, sigs_end r.s (omega (arith, y.paid, few)), y.signatures)) ∙ y.front;
          tree = appended_length node_hash hash_function (all_held cs) y.within r y.belongs c wider fits.tree ∙ y.tree;
          signatures = length_put r.signatures (used_signatures r.s) sig (omega (arith, long, sigs_end r.s (omega (arith, y.paid, few)), y.signatures)) ∙ y.signatures;
          bitfield = ap length (bits_put r.bitfield (held_in (all_held cs)) r.n (none_from node_hash (all_held cs) r y.belongs) fits.fewer fits.bitfield y.belongs.bitfield)
              ∙ length_put r.bitfield 32 (entries_of (with_one_lem (held_in (all_held cs)) r.n) (r.n + 1))
              (omega (arith, bits_end (with_one_lem (held_in (all_held cs)) r.n) r.n few, y.bitfield)) ∙ y.bitfield;
          content = length_put r.content r.size c (omega (arith, small, y.content)) ∙ y.content;
        }

    -- the register that the two calls leave
    pub left_ready : (t s b d : List ℕ) (v : Verdict) (h : List ℕ) (t' s' b' d' : List ℕ) (v' : Verdict)
        → AppendPost r c v h (lent t s b d)
        → SignPost (register_of t s b d (r.n + 1) r.s (r.size + length c)) sig v' (lent t' s' b' d')
        → Ready (register_of t' s' b' d' (r.n + 1) (r.s + 1) (r.size + length c)) (cs ++ (c ∷ []))
    unfolding signed_register next appended_register
    left_ready t s b d v h t' s' b' d' v' a g =
        let e : register_of t s b d (r.n + 1) r.s (r.size + length c) ≡ next =
        ap (λ (x : Buffers). register_of x.tree x.signatures x.bitfield x.content (r.n + 1) r.s (r.size + length c)) (a.buffers ∙ appended_buffers) in
        let f : lent t' s' b' d' ≡ buffers_of (signed_register next sig) = g.buffers ∙ ap (λ (x : Register). after_sign x sig) e ∙ signed_buffers in
        subst (λ (x : Buffers). Ready (register_of x.tree x.signatures x.bitfield x.content (r.n + 1) (r.s + 1) (r.size + length c)) (cs ++ (c ∷ []))) (sym f) signed_ready

pub adds : (tree signatures bitfield content c sig : List ℕ) (n size : ℕ) (t s b d : List ℕ) (v : Verdict) (h : List ℕ) (t' s' b' d' : List ℕ) (v' : Verdict)
    → n < 64 → size + length c ≤ 4096 → length sig ≡ 64
    → AppendPost (register_of tree signatures bitfield content n n size) c v h (lent t s b d)
    → SignPost (register_of t s b d (n + 1) n (size + length c)) sig v' (lent t' s' b' d')
    → Adds (register_of tree signatures bitfield content n n size) c (register_of t' s' b' d' (n + 1) (n + 1) (size + length c))
adds tree signatures bitfield content c sig n size t s b d v h t' s' b' d' v' few small long a g =
    record { grows = λ p cs y. left_ready (register_of tree signatures bitfield content n n size) c p few small cs y sig long t s b d v h t' s' b' d' v' a g }
