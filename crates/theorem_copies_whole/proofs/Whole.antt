-- A copy of a sequence that holds every chunk is the whole. Assumes nothing.
use Prim.Native.Nat.{ℕ, zero, suc, ◌+◌, ◌≤◌, ◌<◌}
use mathlib.Core.Path.{◌≡◌, sym, ap, ◌∙◌}
use mathlib.Core.Bool.{Bool}
use mathlib.Core.List.{List, [], ◌∷◌}
use native.Mathlib.Nat.{not-suc-le-zero, le_of_suc-le-suc}
use native.Mathlib.Omega.{arith}
use lib.ListN.{length, get_or}
use Rattle.byte_strings.specs.Lists.{part, total}
use Rattle.blake2b.specs.Hash.{node_hash}
use Rattle.file_format.specs.Messages.{HashFunction}
use Rattle.file_format.specs.Images.{data_size, root_hash_for}
use Rattle.file_format.specs.Slots.{all_held, Within}
use Rattle.file_format.proofs.Hashed.{hash_function}
use Rattle.file_format.proofs.Spans.{span, span_none, span_cons}
use Rattle.lookup.specs.Theorems.{start_in}
use Rattle.packet.specs.Packet.{packet_of}
use Rattle.copy_checks.specs.Copy.{Copy, unsigned}
use Rattle.theorem_released_back.proofs.Took.{took}
use Rattle.theorem_copies_whole.specs.Whole.{Grown, made, and_took, and_took_from, and_released, GrownOf, GrownForAll}
use Rattle.theorem_copies_whole.proofs.Partly.{Partly, known_is, held_lies}
use Rattle.theorem_copies_whole.proofs.MadePartly.{none, made_partly}
use Rattle.theorem_copies_whole.proofs.TookPartly.{took_partly}
use Rattle.theorem_copies_whole.proofs.HoldsEvery.{whole}
use Rattle.theorem_copies_whole.proofs.Packets.{nodes, piece, start}
use Rattle.theorem_copies_whole.proofs.Takes.{takes}
use Rattle.theorem_copies_whole.proofs.Releases.{releasing, released_partly}
use Rattle.theorem_copies_whole.proofs.Handed.{handed}

-- where a chunk starts
start_in_lem : (cs : List (List ℕ)) (k : ℕ) → k ≤ length cs → start_in cs k ≡ span cs 0 k
unfolding start_in data_size total
start_in_lem cs zero h = sym (span_none cs 0)
start_in_lem [] (suc k) h = absurd (not-suc-le-zero h)
start_in_lem (c ∷ cs) (suc k) h = ap (λ (s : ℕ). length c + s) (start_in_lem cs k (le_of_suc-le-suc h)) ∙ sym (span_cons c cs k)

module _ (F : List ℕ → List ℕ) (hf : HashFunction F) (cs : List (List ℕ)) (w : Within (all_held cs)) where
  -- what every one of them has
  pub grows : (c : Copy) → Grown F cs c → (has : ℕ → Bool) × (knows : ℕ → Bool) × (tail : List ℕ) × Partly F cs c has knows tail
  grows _ (made c count total e) = (none F cs, none F cs, _, made_partly F cs c count total e)
  grows _ (and_took c p i g m e) =
      let x = grows c g in
      let t = took F c p i (root_hash_for F (all_held cs)) e in (
        _,
        _,
        x.2,
        took_partly F cs hf w c x.0 x.1 x.2 x.3 p i t (nodes F hf cs w c.n x.3.count p i m)
            (start F hf cs w c.n x.3.count p i m t.packet.shaped.chunk)
            (piece F hf cs w c.n x.3.count p i m t.packet.shaped.chunk.below),
      )
  grows _ (and_took_from c d i out g f m e) =
      let x = grows c g in
      let y = grows d f in
      let t = took F c (packet_of (unsigned d) i) i (root_hash_for F (all_held cs)) e in
      let h = handed F hf cs w d y.0 y.1 y.2 y.3 i out m in (
        _,
        _,
        x.2,
        took_partly F cs hf w c x.0 x.1 x.2 x.3 (packet_of (unsigned d) i) i t (nodes F hf cs w c.n x.3.count (packet_of (unsigned d) i) i h)
            (start F hf cs w c.n x.3.count (packet_of (unsigned d) i) i h t.packet.shaped.chunk)
            (piece F hf cs w c.n x.3.count (packet_of (unsigned d) i) i h t.packet.shaped.chunk.below),
      )
  grows _ (and_released c i g e) =
      let x = grows c g in (_, x.1, x.2, released_partly F hf cs w c x.0 x.1 x.2 x.3 i (releasing c i e))

  pub grown : (c : Copy) → Grown F cs c → GrownOf F cs c
  grown c g =
      let x = grows c g in
      record {
        knows = known_is x.3;
        lies = λ k l e. ap (λ (a : ℕ). part c.content a (length (get_or cs k []))) (start_in_lem cs k (starts_within k x.3.count l)) ∙ held_lies x.3 k l e;
        whole = whole x.3;
        takes = takes F hf cs w c x.0 x.1 x.2 x.3;
        takes_from = λ d i out f m.
            let y = grows d f in
            takes F hf cs w c x.0 x.1 x.2 x.3 (packet_of (unsigned d) i) i (handed F hf cs w d y.0 y.1 y.2 y.3 i out m);
      }
    where
      starts_within : {n : ℕ} (k : ℕ) → n ≡ length cs → k < n → k ≤ length cs
      starts_within k e l = omega arith

pub grown_for_all : GrownForAll
grown_for_all = grown

-- ---- at the hash of the calls

pub grown_of_the_calls : (cs : List (List ℕ)) → Within (all_held cs) → (c : Copy) → Grown node_hash cs c → GrownOf node_hash cs c
grown_of_the_calls = grown_for_all node_hash hash_function
