-- The single calls that a list stands for, one after the other: each finds what it asks for, and what they keep the whole list keeps. Over any F.
-- Assumes nothing.
use Prim.Native.Nat.{ℕ, suc, ◌+◌, ◌-◌, ◌*◌, ◌≤◌}
use mathlib.Core.Path.{◌≡◌, sym, subst}
use mathlib.Core.List.{List, [], ◌∷◌, ◌++◌, append_assoc, append-nil}
use native.Mathlib.Omega.{arith}
use lib.ListN.{length, take, drop, length-replicate}
use Rattle.byte_strings.specs.Lists.{put, total, zeros, Bytes}
use Rattle.byte_strings.proofs.Lists.{length_put}
use Rattle.tree_index.specs.Tree.{entries}
use Rattle.bitfield.specs.Append.{appended}
use Rattle.bitfield.specs.Image.{entry_count}
use Rattle.file_format.specs.Sizes.{most_chunks, used_tree, used_signatures, used_bitfield}
use Rattle.file_format.specs.Images.{data_size}
use Rattle.file_format.specs.Slots.{Slot, held, all_held}
use Rattle.file_format.specs.Belongs.{Register}
use Rattle.checks.proofs.Passed.{Passed}
use Rattle.writing.specs.Append.{appended_tree, appended_register}
use Rattle.writing.specs.Sign.{signed_register}
use Rattle.writing.specs.Conditions.{AppendFits, SignFits}
use Rattle.writing.proofs.Bits.{bits_stay}
use Rattle.writing.proofs.Verdicts.{passed_append, passed_sign}
use Rattle.append_list.specs.Chunks.{chunks_of, zero_signatures}
use Rattle.append_list.specs.Append.{appended_list}
use Rattle.append_list.specs.Conditions.{ListFits, Singly, last, next}
use Rattle.append_list.proofs.Chunks.{Chunk, Chunks, chunks_count, chunks_size, chunks_each}
use Rattle.append_list.proofs.Parts.{onward}

-- ---- what the chunks ask for

pub record ChunksFit (r : Register) (cs : List (List ℕ)) : Type 0 where
  pub fewer : r.n + length cs ≤ most_chunks
  pub paid : r.s ≡ r.n
  pub tree : used_tree (r.n + length cs) ≤ length r.tree
  pub signatures : used_signatures (r.n + length cs - 1) ≤ length r.signatures
  pub bitfield : used_bitfield (r.n + length cs) ≤ length r.bitfield
  pub content : r.size + data_size cs ≤ length r.content
  pub each : Chunks cs

pub list_chunks : (r : Register) (ls bs : List ℕ) → ListFits r ls bs → Bytes bs → ChunksFit r (chunks_of ls bs)
list_chunks r ls bs f p =
    let k : length ls ≡ length (chunks_of ls bs) = sym (chunks_count ls bs) in
    record {
      fewer = subst (λ (m : ℕ). r.n + m ≤ most_chunks) k f.fewer;
      paid = f.paid;
      tree = subst (λ (m : ℕ). used_tree (r.n + m) ≤ length r.tree) k f.tree;
      signatures = subst (λ (m : ℕ). used_signatures (r.n + m - 1) ≤ length r.signatures) k f.signatures;
      bitfield = subst (λ (m : ℕ). used_bitfield (r.n + m) ≤ length r.bitfield) k f.bitfield;
      content = omega (arith, f.content, chunks_size ls bs f.adds);
      each = chunks_each ls bs p (omega (arith, f.adds)) f.short;
    }

-- the append of the first
pub first_fits : (r : Register) (c : List ℕ) (cs : List (List ℕ)) → ChunksFit r (c ∷ cs) → AppendFits r c
unfolding used_tree entries used_bitfield entry_count data_size total
first_fits r c cs f =
    record {
      fewer = omega (arith, f.fewer);
      short = f.each.0.short;
      paid = f.paid;
      tree = omega (arith, f.tree);
      bitfield = omega (arith, f.bitfield);
      content = omega (arith, f.content);
    }

module _ (F : List ℕ → List ℕ) (r : Register) (c d : List ℕ) (cs : List (List ℕ)) (f : ChunksFit r (c ∷ (d ∷ cs))) where
  -- the signature behind it
  pub zeros_fit : SignFits (appended_register F r c)
  unfolding appended_register used_signatures
  zeros_fit = record { owed = omega (arith, f.paid); room = omega (arith, f.signatures, f.paid) }

  -- the chunks behind that
  pub rest_fit : length (appended_tree F r.tree r.n c) ≡ length r.tree → ChunksFit (onward F r c) (d ∷ cs)
  unfolding appended_register signed_register used_tree entries used_signatures used_bitfield entry_count data_size total
  rest_fit long =
      let a = first_fits r c (d ∷ cs) f in
      let bits : length (appended r.bitfield r.n) ≡ length r.bitfield = (bits_stay r.bitfield r.n a.fewer a.bitfield).long in
      let full : length (zeros 64) ≡ 64 = length-replicate {A = ℕ} 64 0 in
      let signed : length (put r.signatures (32 + 64 * r.s) (zeros 64)) ≡ length r.signatures =
      length_put r.signatures (32 + 64 * r.s) (zeros 64) (omega (arith, f.signatures, f.paid))
      in
      let same : length (put r.content r.size c) ≡ length r.content = length_put r.content r.size c (omega (arith, f.content)) in
      record {
        fewer = omega (arith, f.fewer);
        paid = omega (arith, f.paid);
        tree = omega (arith, f.tree);
        signatures = omega (arith, f.signatures);
        bitfield = omega (arith, f.bitfield);
        content = omega (arith, f.content);
        each = f.each.1;
      }

-- ---- what every step keeps

-- P says something of a register, of its chunks and of its signatures
module _ (F : List ℕ → List ℕ) (P : Register → List Slot → List (List ℕ) → Type 0)
    (long : (r : Register) (ss : List Slot) (sigs : List (List ℕ)) (c : List ℕ) → P r ss sigs → Chunk c → AppendFits r c
    → length (appended_tree F r.tree r.n c) ≡ length r.tree)
    (more : (r : Register) (ss : List Slot) (sigs : List (List ℕ)) (c : List ℕ) → P r ss sigs → Chunk c → AppendFits r c → P (appended_register F r c) (ss ++ (held c ∷ [])) sigs)
    (sign : (r : Register) (ss : List Slot) (sigs : List (List ℕ)) → P r ss sigs → SignFits r → P (signed_register r (zeros 64)) ss (sigs ++ (zeros 64 ∷ []))) where
  kept : (cs : List (List ℕ)) (r : Register) (c : List ℕ) (ss : List Slot) (sigs : List (List ℕ)) → ChunksFit r (c ∷ cs) → P r ss sigs
      → P (appended_list F r (c ∷ cs)) (ss ++ all_held (c ∷ cs)) (sigs ++ zero_signatures (length cs))
  unfolding appended_list all_held
  kept [] r c ss sigs f p =
      subst (P (appended_register F r c) (ss ++ (held c ∷ []))) (sym (append-nil sigs)) (more r ss sigs c p f.each.0 (first_fits r c [] f))
  kept (d ∷ cs) r c ss sigs f p =
      let a = first_fits r c (d ∷ cs) f in
      let q : P (onward F r c) (ss ++ (held c ∷ [])) (sigs ++ (zeros 64 ∷ [])) =
      sign (appended_register F r c) (ss ++ (held c ∷ [])) sigs (more r ss sigs c p f.each.0 a) (zeros_fit F r c d cs f)
      in
      subst (λ (xs : List Slot). P (appended_list F (onward F r c) (d ∷ cs)) xs (sigs ++ (zeros 64 ∷ zero_signatures (length cs)))) (append_assoc ss (held c ∷ []) (all_held (d ∷ cs)))
      (subst (P (appended_list F (onward F r c) (d ∷ cs)) ((ss ++ (held c ∷ [])) ++ all_held (d ∷ cs))) (append_assoc sigs (zeros 64 ∷ []) (zero_signatures (length cs)))
      (kept cs (onward F r c) d (ss ++ (held c ∷ [])) (sigs ++ (zeros 64 ∷ [])) (rest_fit F r c d cs f (long r ss sigs c p f.each.0 a)) q))

  -- the same of a list, as it is lent
  pub list_kept : (r : Register) (ls bs : List ℕ) (ss : List Slot) (sigs : List (List ℕ)) → ListFits r ls bs → Bytes bs → P r ss sigs
      → P (appended_list F r (chunks_of ls bs)) (ss ++ all_held (chunks_of ls bs)) (sigs ++ zero_signatures (length ls - 1))
  unfolding chunks_of
  list_kept r [] bs ss sigs f p q = absurd (omega (arith, f.some))
  list_kept r (l ∷ ls) bs ss sigs f p q =
      let c : List ℕ = take l bs in
      let cs : List (List ℕ) = chunks_of ls (drop l bs) in
      let k : length cs ≡ suc (length ls) - 1 = omega (arith, chunks_count ls (drop l bs)) in
      subst (λ (m : ℕ). P (appended_list F r (c ∷ cs)) (ss ++ all_held (c ∷ cs)) (sigs ++ zero_signatures m)) k
      (kept cs r c ss sigs (list_chunks r (l ∷ ls) bs f p) q)

  -- where it says that 2 to 6 are passed, no single call is refused
  pub singly : ((r : Register) (ss : List Slot) (sigs : List (List ℕ)) → P r ss sigs → Passed r)
      → (cs : List (List ℕ)) (r : Register) (c : List ℕ) (ss : List Slot) (sigs : List (List ℕ)) → ChunksFit r (c ∷ cs) → P r ss sigs
      → Singly F r (c ∷ cs) (appended_list F r (c ∷ cs))
  unfolding appended_list
  singly passes [] r c ss sigs f p = last (passed_append r c (passes r ss sigs p) (first_fits r c [] f))
  singly passes (d ∷ cs) r c ss sigs f p =
      let a = first_fits r c (d ∷ cs) f in
      let m : P (appended_register F r c) (ss ++ (held c ∷ [])) sigs = more r ss sigs c p f.each.0 a in
      let s : SignFits (appended_register F r c) = zeros_fit F r c d cs f in
      next (passed_append r c (passes r ss sigs p) a) (passed_sign (appended_register F r c) (passes (appended_register F r c) (ss ++ (held c ∷ [])) sigs m) s)
      (singly passes cs (onward F r c) d (ss ++ (held c ∷ [])) (sigs ++ (zeros 64 ∷ [])) (rest_fit F r c d cs f (long r ss sigs c p f.each.0 a))
      (sign (appended_register F r c) (ss ++ (held c ∷ [])) sigs m s))
