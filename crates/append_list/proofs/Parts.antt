-- What a list leaves in each of the four buffers, one by one, over any F and on any register. Assumes nothing.
use Prim.Native.Nat.{ℕ, suc, ◌+◌, ◌*◌, ◌≤◌}
use mathlib.Core.Path.{◌≡◌, refl, sym, ap, ◌∙◌}
use mathlib.Core.List.{List, [], ◌∷◌, append-nil}
use native.Mathlib.Nat.{add-zero, add_assoc}
use native.Mathlib.Omega.{arith}
use lib.ListN.{length, length-replicate, replicate-append-replicate}
use Rattle.byte_strings.specs.Lists.{put, joined, total, zeros}
use Rattle.byte_strings.proofs.Lists.{put_nil, put_append, length_put}
use Rattle.file_format.specs.Sizes.{used_signatures}
use Rattle.file_format.specs.Images.{data_size}
use Rattle.file_format.specs.Belongs.{Register}
use Rattle.writing.specs.Append.{appended_register}
use Rattle.writing.specs.Sign.{signed_register}
use Rattle.append_list.specs.Append.{appended_list}
use Rattle.append_list.specs.Inner.{tree_with, bits_with}

module _ (F : List ℕ → List ℕ) where
  -- the register before the next chunk
  abbrev pub onward : Register → List ℕ → Register
  onward r c = signed_register (appended_register F r c) (zeros 64)

  pub list_tree : (r : Register) (c : List ℕ) (cs : List (List ℕ)) → (appended_list F r (c ∷ cs)).tree ≡ tree_with F r.tree r.n (c ∷ cs)
  unfolding appended_list tree_with appended_register signed_register
  list_tree r c [] = refl
  list_tree r c (d ∷ cs) = list_tree (onward r c) d cs

  pub list_bits : (r : Register) (c : List ℕ) (cs : List (List ℕ)) → (appended_list F r (c ∷ cs)).bitfield ≡ bits_with r.bitfield r.n (suc (length cs))
  unfolding appended_list bits_with appended_register signed_register
  list_bits r c [] = refl
  list_bits r c (d ∷ cs) = list_bits (onward r c) d cs

  pub list_count : (r : Register) (c : List ℕ) (cs : List (List ℕ)) → (appended_list F r (c ∷ cs)).n ≡ r.n + suc (length cs)
  unfolding appended_list appended_register signed_register
  list_count r c [] = refl
  list_count r c (d ∷ cs) = list_count (onward r c) d cs ∙ omega arith

  pub list_signed : (r : Register) (c : List ℕ) (cs : List (List ℕ)) → (appended_list F r (c ∷ cs)).s ≡ r.s + length cs
  unfolding appended_list appended_register signed_register
  list_signed r c [] = sym (add-zero r.s)
  list_signed r c (d ∷ cs) = list_signed (onward r c) d cs ∙ omega arith

  pub list_size : (r : Register) (c : List ℕ) (cs : List (List ℕ)) → (appended_list F r (c ∷ cs)).size ≡ r.size + data_size (c ∷ cs)
  unfolding appended_list appended_register signed_register data_size total
  list_size r c [] = ap (λ (k : ℕ). r.size + k) (sym (add-zero (length c)))
  list_size r c (d ∷ cs) = list_size (onward r c) d cs ∙ add_assoc r.size (length c) (data_size (d ∷ cs))

  pub list_content : (r : Register) (c : List ℕ) (cs : List (List ℕ)) → r.size + data_size (c ∷ cs) ≤ length r.content
      → (appended_list F r (c ∷ cs)).content ≡ put r.content r.size (joined (c ∷ cs))
  unfolding appended_list appended_register signed_register data_size total joined
  list_content r c [] h = ap (put r.content r.size) (sym (append-nil c))
  list_content r c (d ∷ cs) h =
      let l : length (put r.content r.size c) ≡ length r.content = length_put r.content r.size c (omega arith) in
      list_content (onward r c) d cs (omega arith) ∙ put_append r.content r.size c (joined (d ∷ cs)) (omega arith)

  pub list_signatures : (r : Register) (c : List ℕ) (cs : List (List ℕ)) → used_signatures (r.s + length cs) ≤ length r.signatures
      → (appended_list F r (c ∷ cs)).signatures ≡ put r.signatures (used_signatures r.s) (zeros (64 * length cs))
  unfolding appended_list appended_register signed_register used_signatures
  list_signatures r c [] h = sym (put_nil r.signatures (32 + 64 * r.s))
  list_signatures r c (d ∷ cs) h =
      let at : ℕ = 32 + 64 * r.s in
      let k : ℕ = 64 * length cs in
      let full : length (zeros 64) ≡ 64 = length-replicate {A = ℕ} 64 0 in
      let l : length (put r.signatures at (zeros 64)) ≡ length r.signatures = length_put r.signatures at (zeros 64) (omega arith) in
      let next : 32 + 64 * (r.s + 1) ≡ at + length (zeros 64) = omega arith in
      let both : 64 + k ≡ 64 * suc (length cs) = omega arith in
      list_signatures (onward r c) d cs (omega arith)
      ∙ ap (λ (p : ℕ). put (put r.signatures at (zeros 64)) p (zeros k)) next
      ∙ put_append r.signatures at (zeros 64) (zeros k) (omega arith)
      ∙ ap (put r.signatures at) (replicate-append-replicate 64 k 0 ∙ ap zeros both)
