-- The count at the front of the input, and the register that a start leaves.
-- Assumes nothing.
use Prim.Native.Nat.{ℕ, ◌≤◌, ◌<◌}
use mathlib.Core.Path.{◌≡◌, refl, sym, ap, ◌∙◌, subst}
use mathlib.Core.Bool.{Bool, true, false, ◌&&◌}
use mathlib.Core.List.{List, []}
use native.Mathlib.Omega.{arith}
use borrow.Author.Tests.{le-leb, lt-leb}
use lib.Dec.{leb}
use lib.ListN.{length, drop}
use Rattle.answer_types.specs.Verdict.{Verdict, unless_refused}
use Rattle.blake2b.specs.Hash.{node_hash}
use Rattle.byte_strings.specs.Lists.{part}
use Rattle.byte_strings.specs.Numbers.{number}
use Rattle.byte_strings.proofs.Lists.{length_put}
use Rattle.file_format.specs.Headers.{tree_header, signatures_header, bitfield_header}
use Rattle.file_format.specs.Slots.{all_held, Within}
use Rattle.file_format.specs.Belongs.{Buffers, Register}
use Rattle.file_format.proofs.OfImage.{tree_header_length, signatures_header_length, bitfield_header_length}
use Rattle.checks.specs.Lent.{register_of}
use Rattle.writing.specs.Start.{started, started_register, after_start}
use Rattle.writing.specs.Post.{lent, StartPost}
use Rattle.writing.proofs.Written.{take_header, within_nil}
use Rattle.writing.proofs.Started.{fits_start, started_belongs}
use Rattle.listing_lines.specs.Input.{Input, other, chunks_in, input_of}
use Rattle.listing_lines.specs.Inner.{Ready, Rooms, Read}

-- ---- the count

module _ (xs : List ℕ) where
  taken : Bool → Input
  taken b = elim b [ true ↦ chunks_in (number (part xs 0 4)) (drop 4 xs) 4096 | false ↦ other ]

  pub input_short : length xs < 4 → input_of xs ≡ other
  unfolding input_of taken
  input_short h = ap (λ (b : Bool). taken (b && leb (number (part xs 0 4)) 64)) (lt-leb 4 (length xs) h)

  module _ (count : ℕ) (l : 4 ≤ length xs) (e : count ≡ number (part xs 0 4)) where
    long : input_of xs ≡ taken (leb (number (part xs 0 4)) 64)
    unfolding input_of taken
    long = ap (λ (b : Bool). taken (b && leb (number (part xs 0 4)) 64)) (le-leb 4 (length xs) l)

    pub input_many : 64 < count → input_of xs ≡ other
    unfolding taken
    input_many h = long ∙ ap taken (lt-leb (number (part xs 0 4)) 64 (omega arith))

    pub input_counted : count ≤ 64 → input_of xs ≡ chunks_in count (drop 4 xs) 4096
    unfolding taken
    input_counted h =
        long ∙ ap taken (le-leb (number (part xs 0 4)) 64 (omega arith)) ∙ ap (λ (k : ℕ). chunks_in k (drop 4 xs) 4096) (sym e)

    pub read_counted : (b : Bool) (r : Register) → count ≤ 64 → Read (chunks_in count (drop 4 xs) 4096) b r → Read (input_of xs) b r
    read_counted b r h = subst (λ (i : Input). Read i b r) (sym (input_counted h))

-- ---- the start

none_within : Within (all_held [])
unfolding all_held
none_within = within_nil

module _ (t s b d : List ℕ) (h : Rooms t s b d) where
  start_ready : Ready (started_register (lent t s b d)) []
  unfolding started_register started all_held
  start_ready =
      record {
        within = none_within;
        belongs = started_belongs node_hash (lent t s b d);
        paid = refl;
        front = take_header s signatures_header 32 signatures_header_length;
        tree = length_put t 0 tree_header (omega (arith, tree_header_length, h.tree)) ∙ h.tree;
        signatures = length_put s 0 signatures_header (omega (arith, signatures_header_length, h.signatures)) ∙ h.signatures;
        bitfield = length_put b 0 bitfield_header (omega (arith, bitfield_header_length, h.bitfield)) ∙ h.bitfield;
        content = h.content;
      }

  -- what the call leaves
  pub left_started : (v : Verdict) (t' s' b' d' : List ℕ) → StartPost (lent t s b d) v (lent t' s' b' d') → Ready (register_of t' s' b' d' 0 0 0) []
  unfolding after_start started_register
  left_started v t' s' b' d' p =
      let f : lent t' s' b' d' ≡ started (lent t s b d) =
      p.buffers
      ∙ ap (λ (u : Verdict). unless_refused u (started (lent t s b d)) (lent t s b d))
      (fits_start (lent t s b d) (record { tree = omega (arith, h.tree); signatures = omega (arith, h.signatures); bitfield = omega (arith, h.bitfield) })) in
      subst (λ (x : Buffers). Ready (register_of x.tree x.signatures x.bitfield x.content 0 0 0) []) (sym f) start_ready
