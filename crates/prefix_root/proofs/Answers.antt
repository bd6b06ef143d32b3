-- The proof of `PrefixRootsForAll`. Assumes nothing.
use Prim.Native.Nat.{ℕ, ◌≤◌, ◌<◌}
use mathlib.Core.Path.{◌≡◌, refl, sym, ap, ◌∙◌, subst}
use mathlib.Core.Bool.{true}
use mathlib.Core.List.{List, [], ◌∷◌}
use native.Mathlib.Nat.{le_refl}
use native.Mathlib.Omega.{arith}
use lib.ListN.{take}
use Rattle.answer_types.specs.Verdict.{Spot, Verdict, done, refused, unless_refused}
use Rattle.byte_strings.specs.Lists.{zeros, joined}
use Rattle.tree_index.specs.Tree.{roots, roots_below, root_of}
use Rattle.bitfield.specs.Release.{stored_held}
use Rattle.blake2b.specs.Hash.{node_hash}
use Rattle.file_format.specs.Messages.{HashFunction, root_message}
use Rattle.file_format.specs.Stored.{stored_root_message}
use Rattle.file_format.specs.Images.{root_hash_for}
use Rattle.file_format.specs.Slots.{Slot, held, all_held, contents, Within}
use Rattle.file_format.specs.Belongs.{Register, Lent, Belongs}
use Rattle.file_format.proofs.Slots.{all_of}
use Rattle.file_format.proofs.Held.{stored_held_lem}
use Rattle.file_format.proofs.Hashed.{hash_function}
use Rattle.checks.specs.Checks.{judged, register_checks}
use Rattle.audit.specs.Audit.{Accepted}
use Rattle.audit.proofs.Audited.{accepted_audited}
use Rattle.audit.proofs.Exact.{audit_exact}
use Rattle.writing.specs.Append.{root_unless_refused}
use Rattle.writing.specs.RootHash.{root_verdict, root_answer}
use Rattle.prefix_root.specs.PrefixRoot.{prefix_verdict, prefix_root}
use Rattle.prefix_root.specs.Theorems.{PrefixRoots, PrefixRootsForAll}
use Rattle.prefix_root.proofs.Calls.{own_right, in_turn_lem, old_takes, old_above, old_passed}
use Rattle.prefix_root.proofs.First.{map_take, first_root_message}

held_take : (m : ℕ) (cs : List (List ℕ)) → all_held (take m cs) ≡ take m (all_held cs)
unfolding all_held
held_take m cs = map_take held m cs

module _ (F : List ℕ → List ℕ) (r : Register) where
  old_answered : (m : ℕ) → prefix_verdict r m ≡ done → prefix_root F r m ≡ F (stored_root_message r.tree m)
  unfolding prefix_root
  old_answered m e = ap (λ (v : Verdict). unless_refused v (F (stored_root_message r.tree m)) (zeros 32)) e

  old_zero : (m k : ℕ) (at : Spot) → prefix_verdict r m ≡ refused k at → prefix_root F r m ≡ zeros 32
  unfolding prefix_root
  old_zero m k at e = ap (λ (v : Verdict). unless_refused v (F (stored_root_message r.tree m)) (zeros 32)) e

  -- no chunks have no roots
  no_roots : stored_root_message r.tree 0 ≡ 2 ∷ []
  unfolding stored_root_message root_message roots roots_below root_of joined
  no_roots = refl

  -- with all chunks its own check is passed
  all_verdict : prefix_verdict r r.n ≡ root_verdict r
  unfolding root_verdict
  all_verdict = in_turn_lem r r.n ∙ ap (judged (register_checks r)) (own_right r.n r.n (le_refl r.n))

  -- the two definitions of what stands beside a verdict
  beside_verdict : (v : Verdict) → unless_refused v (F (stored_root_message r.tree r.n)) (zeros 32) ≡ root_unless_refused F v r
  beside_verdict done = refl
  beside_verdict (refused k at) = refl

  all_root : prefix_root F r r.n ≡ root_answer F r
  unfolding prefix_root root_answer
  all_root = beside_verdict (prefix_verdict r r.n) ∙ ap (λ (v : Verdict). root_unless_refused F v r) all_verdict

  old_hash : HashFunction F → (ss : List Slot) → Within ss → Belongs F r ss → (m : ℕ) → m ≤ r.n → F (stored_root_message r.tree m) ≡ root_hash_for F (take m ss)
  unfolding root_hash_for
  old_hash hf ss w b m h = ap F (first_root_message F hf ss w r b m h)

  old_accepted : HashFunction F → Lent r → Accepted F r
      → (ss : List Slot) × ((Within ss × Belongs F r ss) × ((m : ℕ) → m ≤ r.n → prefix_root F r m ≡ root_hash_for F (take m ss)))
  old_accepted hf l a =
      let i = ((audit_exact F hf).exactly r l).0 a in
      let w = i.2.within in
      let b = i.2.belongs in
      (i.0, ((w, b), λ m h. old_answered m (old_takes r m (accepted_audited F r a).checked h) ∙ old_hash hf i.0 w b m h))

  old_held : HashFunction F → Lent r → Accepted F r → ((k : ℕ) → k < r.n → stored_held r.bitfield k ≡ true)
      → (cs : List (List ℕ)) × ((Within (all_held cs) × Belongs F r (all_held cs)) × ((m : ℕ) → m ≤ r.n → prefix_root F r m ≡ root_hash_for F (all_held (take m cs))))
  old_held hf l a each =
      let x = old_accepted hf l a in
      let b = x.1.0.1 in
      let e : x.0 ≡ all_held (contents x.0) =
      all_of x.0 (λ k p. let q : k < r.n = omega (arith, b.count) in sym (stored_held_lem F x.0 r b k q) ∙ each k q) in (
        contents x.0,
        (
          (subst Within e x.1.0.0, subst (Belongs F r) e b),
          λ m h. x.1.1 m h ∙ ap (λ (ss : List Slot). root_hash_for F (take m ss)) e ∙ ap (root_hash_for F) (sym (held_take m (contents x.0))),
        ),
      )

pub prefix_roots : PrefixRootsForAll
prefix_roots F hf =
    record {
      takes = λ r a m h. old_takes r m (accepted_audited F r a).checked h;
      above = λ r a m h. old_above r m (accepted_audited F r a).checked h;
      accepted = λ r l a. old_accepted F r hf l a;
      answers = λ r ss w b m e. old_answered F r m e ∙ old_hash F r hf ss w b m (old_passed r m e).up_to;
      held = λ r l a each. old_held F r hf l a each;
      empty = λ r e. old_answered F r 0 e ∙ ap F (no_roots F r);
      all = λ r. (all_verdict F r, all_root F r);
      zero = old_zero F;
    }

-- the hash of the calls is such a function
pub prefix_roots_of_the_call : PrefixRoots node_hash
prefix_roots_of_the_call = prefix_roots node_hash hash_function
