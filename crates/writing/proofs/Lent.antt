-- What is written into lent buffers is bytes.
-- Assumes nothing.
use Prim.Native.Nat.{ℕ, ◌+◌, ◌-◌, ◌*◌}
use mathlib.Core.Path.{sym, subst}
use mathlib.Core.List.{List, [], ◌∷◌, ◌++◌, map}
use Rattle.byte_strings.specs.Lists.{put, Bytes, zeros}
use Rattle.byte_strings.proofs.Lists.{bytes_put, bytes_zeros}
use Rattle.tree_index.specs.Tree.{filled_by}
use Rattle.bitfield.proofs.Bits.{with_one_lem}
use Rattle.bitfield.proofs.Image.{bytes_entries}
use Rattle.file_format.specs.Headers.{tree_header, signatures_header, bitfield_header}
use Rattle.file_format.specs.Sizes.{entry_place, used_signatures}
use Rattle.file_format.specs.Messages.{HashFunction}
use Rattle.file_format.specs.Entries.{Entry, entry_bytes, entry_at}
use Rattle.file_format.specs.Images.{leaves}
use Rattle.file_format.specs.Slots.{Slot, held, held_in, Within}
use Rattle.file_format.specs.Belongs.{Buffers, Register, Lent, Belongs}
use Rattle.file_format.proofs.ImageBytes.{tree_header_bytes, signatures_header_bytes, bitfield_header_bytes, entry_bytes_lem}
use Rattle.writing.specs.Start.{started, started_register}
use Rattle.writing.specs.Append.{with_hole, with_entries, appended_register}
use Rattle.writing.specs.Sign.{signed_register}
use Rattle.writing.specs.Conditions.{AppendFits}
use Rattle.writing.proofs.Tree.{by_hole, appended_entries}
use Rattle.writing.proofs.AfterAppend.{bits_put, none_from, longer_within}
use Rattle.bitfield.specs.Image.{entries_of}

-- ---- the tree's entries

pub with_bytes : (f : ℕ → Entry) → ((i : ℕ) → Bytes (entry_bytes (f i))) → (t : List ℕ) (is : List ℕ) → Bytes t → Bytes (with_entries t is (map f is))
unfolding with_entries
with_bytes f p t [] q = q
with_bytes f p t (x ∷ is) q = with_bytes f p (put t (entry_place x) (entry_bytes (f x))) is (bytes_put t (entry_place x) (entry_bytes (f x)) q (p x))

pub hole_bytes : (t : List ℕ) (n : ℕ) → Bytes t → Bytes (with_hole t n)
hole_bytes t n q = by_hole Bytes t n (λ _. q) (λ _. bytes_put t (entry_place (2 * n - 1)) (zeros 40) q (bytes_zeros 40))

-- ---- the registers

pub start_lent : (b : Buffers) → Bytes b.tree → Bytes b.signatures → Bytes b.bitfield → Bytes b.content → Lent (started_register b)
unfolding started_register started
start_lent b t s f c =
    record {
      tree = bytes_put b.tree 0 tree_header t tree_header_bytes;
      signatures = bytes_put b.signatures 0 signatures_header s signatures_header_bytes;
      bitfield = bytes_put b.bitfield 0 bitfield_header f bitfield_header_bytes;
      content = c;
    }

pub sign_lent : (r : Register) (signature : List ℕ) → Lent r → Bytes signature → Lent (signed_register r signature)
unfolding signed_register
sign_lent r signature l p =
    record {
      tree = l.tree;
      signatures = bytes_put r.signatures (used_signatures r.s) signature l.signatures p;
      bitfield = l.bitfield;
      content = l.content;
    }

module _ (F : List ℕ → List ℕ) (hf : HashFunction F) (ss : List Slot) (w : Within ss) (r : Register) (b : Belongs F r ss) (c : List ℕ) (p : Bytes c)
    (a : AppendFits r c) where
  new_bytes_lem : (i : ℕ) → Bytes (entry_bytes (entry_at F (leaves F (ss ++ (held c ∷ []))) i))
  new_bytes_lem = entry_bytes_lem F hf (ss ++ (held c ∷ [])) (longer_within F hf ss w r b c p a)

  pub append_lent : Lent r → Lent (appended_register F r c)
  unfolding appended_register
  append_lent l =
      record {
        tree = subst Bytes (sym (appended_entries F hf ss w r b c (longer_within F hf ss w r b c p a) a.tree))
            (with_bytes (entry_at F (leaves F (ss ++ (held c ∷ [])))) new_bytes_lem (with_hole r.tree r.n) (filled_by r.n) (hole_bytes r.tree r.n l.tree));
        signatures = l.signatures;
        bitfield = subst Bytes (sym (bits_put r.bitfield (held_in ss) r.n (none_from F ss r b) a.fewer a.bitfield b.bitfield))
            (bytes_put r.bitfield 32 (entries_of (with_one_lem (held_in ss) r.n) (r.n + 1)) l.bitfield (bytes_entries (with_one_lem (held_in ss) r.n) (r.n + 1)));
        content = bytes_put r.content r.size c l.content p;
      }
