-- The agreements on copies, from those of tree and bitfield files. Assumes nothing.
use Prim.Native.Nat.{ℕ}
use mathlib.Core.Path.{◌≡◌, refl, sym, ap, ◌∙◌}
use borrow.Author.Tests.{eqb-true}
use Rattle.answer_types.specs.Verdict.{done}
use Rattle.byte_strings.specs.Lists.{total}
use Rattle.file_format.specs.Stored.{stored_root_sizes}
use Rattle.checks.specs.Checks.{adds_up}
use Rattle.lookup.specs.Descent.{always}
use Rattle.lookup.specs.Lookup.{to_chunk, to_byte, place_in, byte_in}
use Rattle.lookup.proofs.Lookups.{behind_same, place_same}
use Rattle.lookup.proofs.Lookups as quick
use Rattle.search.specs.Search.{sought_unless}
use Rattle.search.proofs.Follows.{search_follows}
use Rattle.short_lookup.specs.Theorems.{AgreeIn}
use Rattle.short_lookup.proofs.Agree.{agree_in}
use Rattle.copy_checks.specs.Copy.{Copy, known}
use Rattle.copy_checks.specs.Descents.{copy_to_chunk, copy_to_byte}
use Rattle.copy_checks.specs.Checks.{copy_judged}
use Rattle.copy_checks.proofs.Steps.{Knowing, copy_passed}
use Rattle.copy_checks.proofs.Descents.{chunk_same, byte_same}
use Rattle.copy_lookup.specs.Lookups.{copy_place_of, copy_byte_at}
use Rattle.copy_roots.specs.Roots.{copy_search}
use Rattle.copy_short_lookup.specs.Short.{copy_short_place_of, copy_short_byte_at, copy_short_search}
use Rattle.theorem_copies_agree.specs.Theorems.{AllKnown, CopyLookupsAgreeForAll, CopySearchAgreesForAll}
use Rattle.theorem_copies_agree.proofs.Known.{chunk_known, byte_known, short_place_known, short_byte_known}

-- what comes behind the checks, where every entry is known

module _ (c : Copy) (all : AllKnown c) where
  quick_place : (i : ℕ) → place_in (known c) c.tree c.n i ≡ place_in always c.tree c.n i
  unfolding copy_to_chunk to_chunk
  quick_place i = place_same (known c) always c.tree c.tree c.n i (chunk_same c i (chunk_known c all i)) (λ k s h e. refl)

  quick_byte : (b : ℕ) → byte_in (known c) c.tree c.n c.size b ≡ byte_in always c.tree c.n c.size b
  unfolding copy_to_byte to_byte
  quick_byte b = quick.byte_same (known c) always c.tree c.tree c.n c.size b (byte_same c b (byte_known c all b))

adds : (c : Copy) → Knowing c → total (stored_root_sizes c.tree c.n) ≡ c.size
unfolding adds_up
adds c k = eqb-true (total (stored_root_sizes c.tree c.n)) c.size k.adds

-- ---- both

pub copy_lookups_agree : CopyLookupsAgreeForAll
unfolding copy_short_place_of copy_short_byte_at copy_place_of copy_byte_at
copy_lookups_agree c all right =
    record {
      place = λ i. behind_same (copy_judged c done) (λ e. short_place_known c all i ∙ (agreed e).place i ∙ sym (quick_place c all i));
      byte = λ b. behind_same (copy_judged c done) (λ e. short_byte_known c all b ∙ (agreed e).byte b ∙ sym (quick_byte c all b));
    }
  where
    agreed : copy_judged c done ≡ done → AgreeIn c.tree c.n c.size
    agreed e = let k = (copy_passed c done e).0 in agree_in c.tree c.n c.size k.lent.count (adds c k) right

pub copy_search_agrees : CopySearchAgreesForAll
unfolding copy_short_search copy_search
copy_search_agrees c w from =
    ap (sought_unless (copy_judged c done)) (sym (search_follows c.bitfield c.n w from))
