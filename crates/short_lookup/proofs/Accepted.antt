-- In a register that the audit accepts every filled entry is right, and the Index follows from the data bits: the proof of `ShortAgreesForAll`.
-- Assumes nothing.
use Prim.Native.Nat.{ℕ, zero, suc, ◌+◌, ◌*◌, ◌≤◌, ◌<◌}
use mathlib.Core.Path.{◌≡◌, sym, ◌∙◌, subst}
use mathlib.Core.Bool.{Bool}
use mathlib.Core.List.{List, ◌++◌}
use native.Mathlib.Omega.{arith}
use lib.ListN.{length, get_or}
use lib.Seq.{ext_get_or}
use Rattle.byte_strings.specs.Lists.{part}
use Rattle.byte_strings.proofs.Lists.{length_part, get_d_part, get_or_behind}
use Rattle.tree_index.specs.Tree.{index}
use Rattle.tree_index.proofs.Index.{index_leaf}
use Rattle.tree_index.proofs.Filled.{filled_below}
use Rattle.bitfield.specs.Image.{entry_count, entries_of}
use Rattle.bitfield.proofs.Image.{length_entries}
use Rattle.file_format.specs.Headers.{bitfield_header}
use Rattle.file_format.specs.Sizes.{longest_chunk, used_bitfield}
use Rattle.file_format.specs.Stored.{stored_size}
use Rattle.file_format.specs.Belongs.{Register}
use Rattle.file_format.proofs.OfImage.{bitfield_header_length}
use Rattle.audit.specs.Audit.{held_bits}
use Rattle.audit.proofs.Audited.{Audited, accepted_audited, leaf_says_lem, parent_says}
use Rattle.search.specs.Theorems.{IndexFollows}
use Rattle.search.proofs.Answers.{index_follows}
use Rattle.short_lookup.specs.Theorems.{LengthsRight, ShortAgreesForAll}
use Rattle.short_lookup.proofs.Agree.{lookups_agree, search_agrees}
use Rattle.file_format.specs.Images.{bitfield_image, bitfield_of}

-- a bitfield file whose bytes behind the header are those of some entries has these entries
pub entries_cut : (xs es : List ℕ) (m : ℕ) → 32 + m ≤ length xs → length es ≡ m
    → ((b : ℕ) → 32 ≤ b → b < 32 + m → get_or xs b 0 ≡ get_or (bitfield_header ++ es) b 0) → part xs 32 m ≡ es
entries_cut xs es m room whole same =
    let long : length (part xs 32 m) ≡ m = length_part xs 32 m room in
    ext_get_or 0 (part xs 32 m) es (long ∙ sym whole)
    (λ j h. get_d_part xs 32 m j 0 (omega (arith, long))
    ∙ same (32 + j) (omega arith) (omega (arith, long))
    ∙ get_or_behind bitfield_header es 32 j 0 bitfield_header_length)

bits_cut : (xs : List ℕ) (n : ℕ) (held : ℕ → Bool) → used_bitfield n ≤ length xs
    → ((b : ℕ) → 32 ≤ b → b < used_bitfield n → get_or xs b 0 ≡ get_or (bitfield_image held n) b 0)
    → part xs 32 (3328 * entry_count n) ≡ entries_of held n
unfolding used_bitfield bitfield_of
bits_cut xs n held room same = entries_cut xs (entries_of held n) (3328 * entry_count n) room (length_entries held n) same

module _ (F : List ℕ → List ℕ) (r : Register) (a : Audited F r) where
  lengths_right : LengthsRight r.tree r.n
  unfolding LengthsRight
  lengths_right zero k h =
      subst (λ (i : ℕ). stored_size r.tree i ≤ longest_chunk) (sym (index_leaf k))
      (leaf_says_lem F r.tree r.content r.bitfield r.n r.size k h (a.entry (index zero k) (filled_below r.n (index zero k) h))).short
  lengths_right (suc d) k h =
      (parent_says F r.tree r.content r.bitfield r.n r.size d k h (a.entry (index (suc d) k) (filled_below r.n (index (suc d) k) h))).sum

  follows : IndexFollows r.bitfield r.n
  follows =
      index_follows r.bitfield r.n (held_bits r.bitfield r.n)
      (bits_cut r.bitfield r.n (held_bits r.bitfield r.n) a.checked.bitfield a.byte)

pub short_agrees : ShortAgreesForAll
short_agrees F r e =
    let a = accepted_audited F r e in
    record { lookups = lookups_agree r (lengths_right F r a); search = search_agrees r (follows F r a) }
