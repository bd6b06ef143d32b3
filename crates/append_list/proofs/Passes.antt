-- On any register that passes 2 to 6, whatever its entries are, an append and a stored signature of zeros leave one that does. Over any F.
-- Assumes nothing.
use Prim.Native.Nat.{ℕ, ◌+◌, ◌*◌, ◌^◌, ◌<◌}
use mathlib.Core.Path.{◌≡◌, sym, ap, ◌∙◌}
use mathlib.Core.List.{List, [], ◌∷◌}
use native.Mathlib.Omega.{arith}
use borrow.Author.Tests.{eq-eqb}
use lib.ListN.{length, length-replicate}
use Rattle.answer_types.specs.Verdict.{done}
use Rattle.byte_strings.specs.Lists.{put, zeros, Bytes}
use Rattle.byte_strings.proofs.Lists.{length_put, take_put}
use Rattle.file_format.specs.Sizes.{used_signatures}
use Rattle.file_format.specs.Messages.{HashFunction}
use Rattle.file_format.specs.Belongs.{Register}
use Rattle.checks.proofs.Passed.{Passed}
use Rattle.checks.proofs.Steps.{signed_same, signed_next}
use Rattle.writing.specs.Append.{appended_tree, appended_register}
use Rattle.writing.specs.Sign.{signed_register}
use Rattle.writing.specs.Conditions.{AppendFits, SignFits}
use Rattle.writing.proofs.Made.{hashed}
use Rattle.writing.proofs.Bits.{Stays, bits_stay}
use Rattle.append_list.specs.Chunks.{chunks_of}
use Rattle.append_list.specs.Append.{list_verdict, appended_list}
use Rattle.append_list.specs.Conditions.{Singly}
use Rattle.append_list.proofs.Chunks.{Chunk, chunks_count}
use Rattle.append_list.proofs.Parts.{onward}
use Rattle.append_list.proofs.Roots.{grown, headed, holds_bytes, roots_add}
use Rattle.append_list.proofs.Verdicts.{list_passed}
use Rattle.append_list.proofs.Steps.{ChunksFit, list_chunks, singly}

-- ---- the tree file alone

module _ (F : List ℕ → List ℕ) (hf : HashFunction F) (r : Register) (c : List ℕ) (t : Bytes r.tree) (p : Chunk c) (a : AppendFits r c) where
  pub bytes_long : length (appended_tree F r.tree r.n c) ≡ length r.tree
  bytes_long = grown F r.tree r.n c (hashed F hf r.tree r.n c t p.bytes) a.fewer a.tree

  pub bytes_more : Bytes (appended_tree F r.tree r.n c)
  bytes_more = holds_bytes F r.tree r.n c (hashed F hf r.tree r.n c t p.bytes) a.fewer a.tree t

  -- the same of the register before the next chunk
  pub next_bytes : Bytes (onward F r c).tree
  unfolding appended_register signed_register
  next_bytes = bytes_more

-- ---- the register

-- a register that passes 2 to 6, with bytes in its tree file, and a data buffer that can be lent
record Sound (r : Register) : Type 0 where
  passed : Passed r
  bytes : Bytes r.tree
  small : length r.content < 2 ^ 64

module _ (F : List ℕ → List ℕ) (hf : HashFunction F) (r : Register) (c : List ℕ) (s : Sound r) (p : Chunk c) (a : AppendFits r c) where
  sound_long : length (appended_tree F r.tree r.n c) ≡ length r.tree
  sound_long = bytes_long F hf r c s.bytes p a

  sound_more : Sound (appended_register F r c)
  unfolding appended_register
  sound_more =
      let hs = hashed F hf r.tree r.n c s.bytes p.bytes in
      let bits : Stays _ r.bitfield = bits_stay r.bitfield r.n a.fewer a.bitfield in
      let held : length (put r.content r.size c) ≡ length r.content = length_put r.content r.size c (omega (arith, a.content)) in
      record {
        passed = record {
          count = omega (arith, a.fewer);
          signed = sym (signed_next (r.n + 1) r.s (λ e. omega (arith, a.paid))) ∙ eq-eqb (r.s + 1) (r.n + 1) (omega (arith, a.paid));
          tree = omega (arith, a.tree, sound_long);
          signatures = s.passed.signatures;
          bitfield = omega (arith, a.bitfield, bits.long);
          content = omega (arith, a.content);
          tree_front_lem = headed F r.tree r.n c hs a.fewer a.tree ∙ s.passed.tree_front_lem;
          signatures_front = s.passed.signatures_front;
          bitfield_front = bits.front ∙ s.passed.bitfield_front;
          adds = roots_add F r.tree r.n c hs a.fewer a.tree (omega (arith, s.passed.adds, a.content, s.small))
              ∙ ap (λ (x : ℕ). x + length c) s.passed.adds;
        };
        bytes = bytes_more F hf r c s.bytes p a;
        small = omega (arith, s.small);
      }

sound_sign : (r : Register) → Sound r → SignFits r → Sound (signed_register r (zeros 64))
unfolding signed_register used_signatures
sound_sign r s f =
    let full : length (zeros 64) ≡ 64 = length-replicate {A = ℕ} 64 0 in
    let at : ℕ = 32 + 64 * r.s in
    let l : length (put r.signatures at (zeros 64)) ≡ length r.signatures = length_put r.signatures at (zeros 64) (omega (arith, f.room)) in
    record {
      passed = record {
        count = s.passed.count;
        signed = sym (signed_same r.n (r.s + 1) f.owed);
        tree = s.passed.tree;
        signatures = omega (arith, f.room);
        bitfield = s.passed.bitfield;
        content = s.passed.content;
        tree_front_lem = s.passed.tree_front_lem;
        signatures_front = take_put 32 r.signatures at (zeros 64) (omega arith) (omega (arith, f.room)) ∙ s.passed.signatures_front;
        bitfield_front = s.passed.bitfield_front;
        adds = s.passed.adds;
      };
      bytes = s.bytes;
      small = s.small;
    }

-- ---- the single calls of a list that is not refused

by_chunks : (F : List ℕ → List ℕ) → HashFunction F → (r : Register) (cs : List (List ℕ)) → Sound r → 0 < length cs → ChunksFit r cs
    → Singly F r cs (appended_list F r cs)
by_chunks F hf r [] s some f = absurd (omega arith)
by_chunks F hf r (c ∷ cs) s some f =
    singly F (λ x _ _. Sound x) (λ x _ _ d q p a. sound_long F hf x d q p a) (λ x _ _ d q p a. sound_more F hf x d q p a) (λ x _ _ q g. sound_sign x q g)
    (λ x _ _ q. q.passed) cs r c [] [] f s

-- "what single appends would leave": on every register that passes the checks, accepted or not
pub singly_done : (F : List ℕ → List ℕ) → HashFunction F → (r : Register) (ls bs : List ℕ) → Bytes r.tree → length r.content < 2 ^ 64 → Bytes bs
    → list_verdict r ls bs ≡ done → Singly F r (chunks_of ls bs) (appended_list F r (chunks_of ls bs))
singly_done F hf r ls bs t l p e =
    let w = list_passed r ls bs e in
    by_chunks F hf r (chunks_of ls bs) (record { passed = w.0; bytes = t; small = l }) (omega (arith, chunks_count ls bs, w.1.some)) (list_chunks r ls bs w.1 p)
