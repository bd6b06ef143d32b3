-- The answer, from the case that it is. Assumes nothing.
use Rattle.std.specs.Prelude.{Result, Ok, Err}
use Prim.Native.Nat.{ℕ, ◌+◌, ◌/◌, ◌≤◌, ◌<◌}
use mathlib.Core.Path.{◌≡◌, refl, ap, ◌∙◌, subst}
use mathlib.Core.Bool.{Bool, true, false, cond}
use mathlib.Core.List.{List, [], ◌∷◌}
use native.Mathlib.Nat.{mul-one}
use native.Mathlib.Omega.{arith}
use borrow.Author.Tests.{lt-ltb, le-ltb, ltb-true}
use lib.Dec.{ltb}
use lib.ListN.{length}
use Rattle.answer_types.specs.Verdict.{Verdict, none, tree, done, refused, unless_refused, and_then}
use Rattle.answer_types.specs.Meaning.{refusal_of}
use Rattle.answer_types.specs.declared.Refusal.{Refusal}
use Rattle.tree_index.specs.Tree.{index, entries}
use Rattle.tree_index.proofs.Filled.{end_filled, filled_below}
use Rattle.bitfield.specs.Append.{bits_place}
use Rattle.bitfield.specs.Image.{entry_count}
use Rattle.file_format.specs.Sizes.{used_bitfield}
use Rattle.file_format.specs.Stored.{stored_hash, stored_size}
use Rattle.file_format.specs.Belongs.{Register}
use Rattle.checks.specs.Checks.{Check, judged, register_checks}
use Rattle.checks.proofs.Judged.{judged_same, judged_done}
use Rattle.checks.proofs.Passed.{passed}
use Rattle.lookup.specs.Inner.{FilesIn}
use Rattle.stored_leaf.specs.StoredLeaf.{leaf_in, leaf_hash, leaf_length}
use Rattle.stored_leaf.specs.Post.{LeafPost}

-- ---- behind the checks of a call

module _ (known : ℕ → Bool) (n k : ℕ) where
  abbrev nine : List Check
  nine = record { number = 9; right = ltb k n } ∷ []

  abbrev last : Verdict
  last = cond (known (index 0 k)) done (refused 20 (tree (index 0 k)))

  pub leaf_above : n ≤ k → leaf_in known n k ≡ refused 9 none
  unfolding leaf_in judged
  leaf_above h = ap (λ (b : Bool). cond b last (refused 9 none)) (le-ltb k n h)

  behind_nine : k < n → leaf_in known n k ≡ last
  unfolding leaf_in judged
  behind_nine h = ap (λ (b : Bool). cond b last (refused 9 none)) (lt-ltb k n h)

  leaf_by : k < n → (b : Bool) → known (index 0 k) ≡ b → leaf_in known n k ≡ cond b done (refused 20 (tree (index 0 k)))
  leaf_by h b e = behind_nine h ∙ ap (λ (x : Bool). cond x done (refused 20 (tree (index 0 k)))) e

  pub leaf_known : k < n → known (index 0 k) ≡ true → leaf_in known n k ≡ done
  leaf_known h e = leaf_by h true e

  pub leaf_unknown : k < n → known (index 0 k) ≡ false → leaf_in known n k ≡ refused 20 (tree (index 0 k))
  leaf_unknown h e = leaf_by h false e

  pub leaf_below : leaf_in known n k ≡ done → k < n
  unfolding leaf_in
  leaf_below e = ltb-true k n (judged_done nine last e).0.0

-- of two tests that say the same of a leaf that is there
pub leaf_same : (f g : ℕ → Bool) (n k : ℕ) → (k < n → f (index 0 k) ≡ g (index 0 k)) → leaf_in f n k ≡ leaf_in g n k
unfolding leaf_in
leaf_same f g n k h =
    judged_same (nine f n k) (last f n k) (last g n k) (λ p. ap (λ (b : Bool). cond b done (refused 20 (tree (index 0 k)))) (h (ltb-true k n p.0)))

-- its tree bit lies within the bitfield file
pub leaf_bit : (bits : List ℕ) (n k : ℕ) → used_bitfield n ≤ length bits → k < n → bits_place (index 0 k / 16384 + 1) ≤ length bits
unfolding used_bitfield bits_place entry_count entries
leaf_bit bits n k h l = omega (arith, filled_below n (index 0 k) (end_filled n 0 k (omega (arith, mul-one (k + 1)))))

-- what comes next is done where the whole is
pub then_next : (v x : Verdict) → and_then v x ≡ done → x ≡ done
then_next done x e = e
then_next (refused m at) x e = let z : ◌≡◌ {A = ℕ} 0 1 = cc in absurd (omega arith)

-- ---- the answer and the lent bytes

module _ (v : Verdict) (t : List ℕ) (k : ℕ) (out : List ℕ) where
  pub post_refused : (x : Refusal) → refusal_of x ≡ v → LeafPost v t k out (Err x) out
  unfolding leaf_hash leaf_length
  post_refused x e =
      record {
        verdict = e;
        long = ap (λ (w : Verdict). unless_refused w (stored_size t (index 0 k)) 0) e;
        hash = ap (λ (w : Verdict). unless_refused w (stored_hash t (index 0 k)) out) e;
      }

  pub post_done : (z : ℕ) (h : List ℕ) → done ≡ v → z ≡ stored_size t (index 0 k) → h ≡ stored_hash t (index 0 k) → LeafPost v t k out (Ok z) h
  unfolding leaf_hash leaf_length
  post_done z h e p q =
      record {
        verdict = e;
        long = p ∙ ap (λ (w : Verdict). unless_refused w (stored_size t (index 0 k)) 0) e;
        hash = q ∙ ap (λ (w : Verdict). unless_refused w (stored_hash t (index 0 k)) out) e;
      }

-- two tree files with one entry there, where the call is done
module _ (v : Verdict) (t u : List ℕ) (k : ℕ) where
  pub hash_same : (out : List ℕ) → (v ≡ done → stored_hash t (index 0 k) ≡ stored_hash u (index 0 k)) → leaf_hash v t k out ≡ leaf_hash v u k out
  unfolding leaf_hash
  hash_same out h = go v h
    where
      go : (w : Verdict) → (w ≡ done → stored_hash t (index 0 k) ≡ stored_hash u (index 0 k)) → leaf_hash w t k out ≡ leaf_hash w u k out
      go done h = h refl
      go (refused m at) h = refl

  pub length_same : (v ≡ done → stored_size t (index 0 k) ≡ stored_size u (index 0 k)) → leaf_length v t k ≡ leaf_length v u k
  unfolding leaf_length
  length_same h = go v h
    where
      go : (w : Verdict) → (w ≡ done → stored_size t (index 0 k) ≡ stored_size u (index 0 k)) → leaf_length w t k ≡ leaf_length w u k
      go done h = h refl
      go (refused m at) h = refl

-- the same where the verdict is told in other words
pub post_as : {v w : Verdict} {t : List ℕ} {k : ℕ} {out : List ℕ} {x : Result ℕ Refusal} {after : List ℕ} → v ≡ w → LeafPost v t k out x after → LeafPost w t k out x after
post_as {t = t} {k = k} {out = out} {x = x} {after = after} e p = subst (λ (u : Verdict). LeafPost u t k out x after) e p

-- ---- a register that passes 2 to 6

pub register_files : (r : Register) → judged (register_checks r) done ≡ done → FilesIn false r.tree r.bitfield r.n
register_files r e =
    let p = (passed r done e).0 in record { roots = record { count = p.count; inside = p.tree }; bitfield = λ _. p.bitfield }
