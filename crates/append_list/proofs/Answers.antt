-- The answers of the append of a list, and what is left in the buffers. Assumes nothing.
use Rattle.std.specs.Prelude.{Result, Ok, Err, ⊤}
use Prim.Native.Nat.{ℕ, suc, ◌+◌, ◌-◌, ◌*◌, ◌≤◌}
use mathlib.Core.Path.{◌≡◌, sym, ap, ap₂, ◌∙◌, subst}
use mathlib.Core.List.{List, [], ◌∷◌}
use native.Mathlib.Omega.{arith}
use lib.ListN.{length, take, drop}
use Rattle.answer_types.specs.Verdict.{Verdict, done, unless_refused}
use Rattle.answer_types.specs.Meaning.{said, refusal_of}
use Rattle.answer_types.specs.declared.Refusal.{Refusal}
use Rattle.byte_strings.specs.Lists.{put, zeros}
use Rattle.blake2b.specs.Hash.{node_hash}
use Rattle.file_format.specs.Sizes.{used_signatures}
use Rattle.file_format.specs.Stored.{stored_root_message}
use Rattle.file_format.specs.Belongs.{Buffers, Register, buffers_of}
use Rattle.writing.specs.Append.{root_unless_refused}
use Rattle.writing.specs.Post.{lent}
use Rattle.append_list.specs.Chunks.{chunks_of}
use Rattle.append_list.specs.Append.{list_verdict, appended_list, list_root, after_list}
use Rattle.append_list.specs.Conditions.{ListFits}
use Rattle.append_list.specs.Post.{ListPost}
use Rattle.append_list.specs.Inner.{tree_with, bits_with, StoreFits, StorePost}
use Rattle.append_list.proofs.Chunks.{chunks_count, chunks_joined, chunks_size}
use Rattle.append_list.proofs.Parts.{list_tree, list_bits, list_count, list_signed, list_content, list_signatures}
use Rattle.append_list.proofs.Verdicts.{list_passed}

-- ---- the four buffers

-- what the chunks of a list leave, as the lengths and the bytes say it
abbrev stored : (List ℕ → List ℕ) → Register → List ℕ → List ℕ → Buffers
stored F r ls bs =
    lent (tree_with F r.tree r.n (chunks_of ls bs)) (put r.signatures (used_signatures r.n) (zeros (64 * (length ls - 1))))
    (bits_with r.bitfield r.n (length ls)) (put r.content r.size bs)

module _ (F : List ℕ → List ℕ) (r : Register) where
  pub list_buffers : (ls bs : List ℕ) → ListFits r ls bs → buffers_of (appended_list F r (chunks_of ls bs)) ≡ stored F r ls bs
  unfolding chunks_of
  list_buffers [] bs f = absurd (omega (arith, f.some))
  list_buffers (l ∷ ls) bs f =
      let c : List ℕ = take l bs in
      let cs : List (List ℕ) = chunks_of ls (drop l bs) in
      let k : length cs ≡ length ls = chunks_count ls (drop l bs) in
      let m : length cs ≡ suc (length ls) - 1 = omega arith in
      let room : used_signatures (r.s + length cs) ≤ length r.signatures =
      subst (λ (m : ℕ). used_signatures m ≤ length r.signatures) (omega (arith, f.paid)) f.signatures
      in
      let signed : (appended_list F r (c ∷ cs)).signatures ≡ put r.signatures (used_signatures r.n) (zeros (64 * (suc (length ls) - 1))) =
      list_signatures F r c cs room ∙ ap₂ (λ (s x : ℕ). put r.signatures (used_signatures s) (zeros (64 * x))) f.paid m
      in
      let held : (appended_list F r (c ∷ cs)).content ≡ put r.content r.size bs =
      list_content F r c cs (omega (arith, f.content, chunks_size (l ∷ ls) bs f.adds)) ∙ ap (put r.content r.size) (chunks_joined (l ∷ ls) bs f.adds)
      in
      ap₂ (λ (x y : List ℕ). lent x y (appended_list F r (c ∷ cs)).bitfield (appended_list F r (c ∷ cs)).content) (list_tree F r c cs) signed
      ∙ ap₂ (λ (x y : List ℕ). lent (tree_with F r.tree r.n (c ∷ cs)) (put r.signatures (used_signatures r.n) (zeros (64 * (suc (length ls) - 1)))) x y)
      (list_bits F r c cs ∙ ap (λ (m : ℕ). bits_with r.bitfield r.n (suc m)) k) held

  pub list_number : (ls bs : List ℕ) → ListFits r ls bs → (appended_list F r (chunks_of ls bs)).n ≡ r.n + length ls
  unfolding chunks_of
  list_number [] bs f = absurd (omega (arith, f.some))
  list_number (l ∷ ls) bs f = list_count F r (take l bs) (chunks_of ls (drop l bs)) ∙ ap (λ (m : ℕ). r.n + suc m) (chunks_count ls (drop l bs))

  -- "one signature is owed afterwards, as before"
  pub list_owed : (ls bs : List ℕ) → ListFits r ls bs → (appended_list F r (chunks_of ls bs)).s + 1 ≡ (appended_list F r (chunks_of ls bs)).n
  unfolding chunks_of
  list_owed [] bs f = absurd (omega (arith, f.some))
  list_owed (l ∷ ls) bs f =
      let c : List ℕ = take l bs in
      let cs : List (List ℕ) = chunks_of ls (drop l bs) in
      omega (arith, list_signed F r c cs, list_count F r c cs, f.paid)

-- ---- the call

module _ (r : Register) (ls bs : List ℕ) (a : Result ⊤ Refusal) (e : said a ≡ list_verdict r ls bs) where
  -- what is left to the part that writes
  pub store_fits : a ≡ (Ok tt) → StoreFits r.tree r.signatures r.bitfield r.content r.n r.size ls bs
  store_fits p =
      let w = list_passed r ls bs (sym e ∙ ap said p) in
      let f : ListFits r ls bs = w.1 in
      record {
        few = f.fewer;
        some = f.some;
        adds = f.adds;
        tree = f.tree;
        signatures = f.signatures;
        bitfield = f.bitfield;
        content = f.content;
        sum = w.0.adds;
      }

  pub list_not : (x : Refusal) → a ≡ Err x → ListPost r ls bs (refusal_of x) (zeros 32) (buffers_of r)
  unfolding list_root after_list
  list_not x p =
      let w : refusal_of x ≡ list_verdict r ls bs = sym (ap said p) ∙ e in
      record {
        answer = w;
        root = ap (λ (v : Verdict). root_unless_refused node_hash v (appended_list node_hash r (chunks_of ls bs))) w;
        buffers = ap (λ (v : Verdict). unless_refused v (buffers_of (appended_list node_hash r (chunks_of ls bs))) (buffers_of r)) w;
      }

  pub list_done : (h t g b c : List ℕ) → a ≡ (Ok tt) → StorePost r.tree r.signatures r.bitfield r.content r.n r.size ls bs h t g b c
      → ListPost r ls bs done h (lent t g b c)
  unfolding list_root after_list
  list_done h t g b c p w =
      let v : done ≡ list_verdict r ls bs = sym (ap said p) ∙ e in
      let f : ListFits r ls bs = (list_passed r ls bs (sym v)).1 in
      let x : Register = appended_list node_hash r (chunks_of ls bs) in
      let left : lent t g b c ≡ buffers_of x =
      ap₂ (λ (y z : List ℕ). lent y z b c) w.tree w.signatures
      ∙ ap₂ (λ (y z : List ℕ). lent (tree_with node_hash r.tree r.n (chunks_of ls bs)) (put r.signatures (used_signatures r.n) (zeros (64 * (length ls - 1)))) y z) w.bitfield w.content
      ∙ sym (list_buffers node_hash r ls bs f)
      in
      let root : h ≡ node_hash (stored_root_message x.tree x.n) =
      w.root ∙ ap₂ (λ (y : List ℕ) (m : ℕ). node_hash (stored_root_message y m)) (ap (λ (y : Buffers). y.tree) left) (sym (list_number node_hash r ls bs f))
      in
      record {
        answer = v;
        root = root ∙ ap (λ (v : Verdict). root_unless_refused node_hash v x) v;
        buffers = left ∙ ap (λ (v : Verdict). unless_refused v (buffers_of x) (buffers_of r)) v;
      }
