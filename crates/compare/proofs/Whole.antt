-- The checks of one register for a comparison: what passing them gives, and how the code makes them.
-- Assumes nothing.
use Rattle.std.specs.Prelude.{Result, Err, ⊤}
use Rattle.std.proofs.Common.{◌≡◌, ℕ, zero, suc, ◌+◌, ◌-◌, ◌<◌, ◌≤◌, Bool, true, false, List, [], length, sym, ap, ◌∙◌, zero-add, arith}
use Rattle.answer_types.specs.Verdict.{Spot, Verdict, tree, done, refused, and_then}
use Rattle.answer_types.specs.Meaning.{said}
use Rattle.answer_types.specs.declared.Refusal.{Refusal}
use Rattle.byte_strings.specs.Lowest.{Lowest, nowhere, first, lowest}
use Rattle.byte_strings.proofs.Lowest.{step, lowest_agree, nowhere_right, right_nowhere}
use Rattle.tree_index.specs.Tree.{index}
use Rattle.bitfield.specs.Image.{entry_count}
use Rattle.bitfield.specs.Append.{bits_place}
use Rattle.bitfield.specs.Release.{stored_held}
use Rattle.file_format.specs.Sizes.{used_bitfield}
use Rattle.file_format.specs.Slots.{Slot, held_in}
use Rattle.file_format.specs.Belongs.{Register, Belongs}
use Rattle.file_format.proofs.Nodes.{AllHeld}
use Rattle.file_format.proofs.Held.{stored_held_lem}
use Rattle.checks.specs.Checks.{judged, register_checks}
use Rattle.checks.specs.Lent.{register_of}
use Rattle.checks.proofs.Passed.{passes, passed}
use Rattle.audit.specs.Audit.{refused_at, images_verdict, audit, Accepted}
use Rattle.audit.specs.TreeWalk.{FilesIn}
use Rattle.audit.proofs.Audited.{at_must}
use Rattle.audit.proofs.Search.{then_assoc, stops, judged_then, refused_then}
use Rattle.audit.proofs.Whole.{checks_refuse, checks_pass, files_in_lem, images_of}
use Rattle.compare.specs.Walk.{missing, held_then, whole_verdict}
use Rattle.compare.specs.Theorems.{NeedsWholeForAll}

-- a number that a search found is one of those that it went through
pub first_below : (right : ℕ → Bool) (i k j : ℕ) → first j ≡ lowest right i k → j < i + k
unfolding lowest
first_below right i zero j e = let z : ◌≡◌ {A = ℕ} 0 1 = cc in absurd (omega arith)
first_below right i (suc k) j e = go (right i) (first_below right (suc i) k j) e
  where
    go : (b : Bool) → (first j ≡ lowest right (suc i) k → j < suc i + k) → first j ≡ step b i (lowest right (suc i) k) → j < i + suc k
    go true r q = omega (arith, r q)
    go false r q = let z : j ≡ i = cc in omega arith

-- where 18 points
abbrev pub at_leaf_lem : ℕ → Spot
at_leaf_lem k = tree (index 0 k)

-- ---- the checks that look at no tree entry

module _ (r : Register) where
  -- these, and what comes next
  pub held_then_lem : (next : Verdict) → held_then r next ≡ and_then (held_then r done) next
  held_then_lem next =
      judged_then (register_checks r) (refused_at 18 at_leaf_lem (missing r) next)
      ∙ ap (and_then (judged (register_checks r) done)) (refused_then 18 at_leaf_lem (missing r) next)
      ∙ then_assoc (judged (register_checks r) done) (refused_at 18 at_leaf_lem (missing r) done) next
      ∙ ap (λ (v : Verdict). and_then v next) (sym (judged_then (register_checks r) (refused_at 18 at_leaf_lem (missing r) done)))

  module _ (x : Result ⊤ Refusal) (checked : said x ≡ judged (register_checks r) done) where
    pub held_checks : (m : Refusal) → x ≡ Err m → said x ≡ held_then r done
    held_checks = checks_refuse r _ x checked

    module _ (ok : said x ≡ done) where
      -- the data bits of all chunks lie within the file
      pub held_bits_lem : bits_place (entry_count r.n) ≤ length r.bitfield
      unfolding bits_place used_bitfield
      held_bits_lem = (files_in_lem r done x checked ok).field.inside

      module _ {l : Lowest} (searched : l ≡ lowest (stored_held r.bitfield) 0 (r.n - 0)) where
        found : l ≡ missing r
        unfolding missing
        found = searched ∙ ap (lowest (stored_held r.bitfield) 0) (omega arith)

        pub missing_below : {c : ℕ} → l ≡ first c → c < 2097152
        unfolding missing
        missing_below {c} e = omega (arith, first_below (stored_held r.bitfield) 0 r.n c (sym e ∙ found), (files_in_lem r done x checked ok).nodes.count)

        pub missing_refuses : {c i : ℕ} {v : Verdict} → l ≡ first c → i ≡ index 0 c → v ≡ refused 18 (tree i) → v ≡ held_then r done
        unfolding refused_at
        missing_refuses {v = v} e q u =
            checks_pass r (refused_at 18 at_leaf_lem (missing r) done) x checked ok v
            (u ∙ ap (λ (j : ℕ). refused 18 (tree j)) q ∙ ap (λ (m : Lowest). refused_at 18 at_leaf_lem m done) (sym e ∙ found))

        pub missing_none : l ≡ nowhere → done ≡ held_then r done
        unfolding refused_at
        missing_none e =
            checks_pass r (refused_at 18 at_leaf_lem (missing r) done) x checked ok done (ap (λ (m : Lowest). refused_at 18 at_leaf_lem m done) (sym e ∙ found))

module _ (F : List ℕ → List ℕ) (r : Register) where
  -- what comes behind 2 to 6
  abbrev next : Verdict
  next = refused_at 18 at_leaf_lem (missing r) (images_verdict F r)

  -- ---- all checks as the code makes them

  module _ (x : Result ⊤ Refusal) (held : said x ≡ held_then r done) where
    whole_parts : whole_verdict F r ≡ and_then (said x) (images_verdict F r)
    unfolding whole_verdict
    whole_parts = held_then_lem r (images_verdict F r) ∙ ap (λ (v : Verdict). and_then v (images_verdict F r)) (sym held)

    pub whole_refuses : (m : Refusal) → x ≡ Err m → said x ≡ whole_verdict F r
    whole_refuses m e = sym (whole_parts ∙ stops x m e (images_verdict F r))

    module _ (ok : said x ≡ done) where
      pub whole_files : FilesIn r.tree r.bitfield r.content r.n r.size
      whole_files =
          let p = (passed r (refused_at 18 at_leaf_lem (missing r) done) (sym held ∙ ok)).0 in
          record { nodes = record { count = p.count; inside = p.tree }; field = record { count = p.count; inside = p.bitfield }; bytes = p.content }

      pub images_say : {v : Verdict} → v ≡ images_verdict F (register_of r.tree [] r.bitfield r.content r.n 0 r.size) → v ≡ whole_verdict F r
      images_say u = u ∙ images_of F r ∙ sym (whole_parts ∙ ap (λ (w : Verdict). and_then w (images_verdict F r)) ok)

  -- ---- what the verdict says

  must : whole_verdict F r ≡ done → Accepted F r × (missing r ≡ nowhere)
  unfolding whole_verdict audit
  must e =
      let a = passed r next e in
      let b = at_must 18 at_leaf_lem (missing r) (images_verdict F r) a.1 in
      (passes r (images_verdict F r) a.0 ∙ b.1, b.0)

  -- a register that passes is accepted
  pub whole_accepted : whole_verdict F r ≡ done → Accepted F r
  whole_accepted e = (must e).0

  -- and holds all its chunks
  whole_held : whole_verdict F r ≡ done → (k : ℕ) → k < r.n → stored_held r.bitfield k ≡ true
  unfolding missing
  whole_held e k h = ap (stored_held r.bitfield) (sym (zero-add k)) ∙ nowhere_right (stored_held r.bitfield) 0 r.n (must e).1 k h

  -- and only such a register passes
  accepted_whole : Accepted F r → ((k : ℕ) → k < r.n → stored_held r.bitfield k ≡ true) → whole_verdict F r ≡ done
  unfolding whole_verdict audit missing refused_at
  accepted_whole e h =
      ap (λ (l : Lowest). judged (register_checks r) (refused_at 18 at_leaf_lem l (images_verdict F r)))
      (right_nowhere (stored_held r.bitfield) 0 r.n (λ j l. ap (stored_held r.bitfield) (zero-add j) ∙ h j l))
      ∙ e

  -- as does an accepted register that belongs to chunks which are all held
  pub belongs_whole : (ss : List Slot) → Belongs F r ss → AllHeld F ss → Accepted F r → whole_verdict F r ≡ done
  belongs_whole ss b h e =
      accepted_whole e (λ k l. stored_held_lem F ss r b k l ∙ h k (omega (arith, b.count)))

  -- and one that belongs to chunks of which some are not held is refused at the lowest of them
  belongs_missing : (ss : List Slot) → Belongs F r ss → judged (register_checks r) done ≡ done → (k : ℕ) → lowest (held_in ss) 0 (length ss) ≡ first k
      → whole_verdict F r ≡ refused 18 (tree (index 0 k))
  unfolding whole_verdict missing refused_at
  belongs_missing ss b p k e =
      passes r next (passed r done p).0
      ∙ ap (λ (l : Lowest). refused_at 18 at_leaf_lem l (images_verdict F r))
      (lowest_agree (stored_held r.bitfield) (held_in ss) 0 r.n (λ j h l before. stored_held_lem F ss r b j (omega arith)) ∙ ap (lowest (held_in ss) 0) b.count ∙ e)

pub needs_whole : NeedsWholeForAll
needs_whole F r =
    record {
      exactly = (λ e. record { accepted = whole_accepted F r e; held = whole_held F r e }, λ w. accepted_whole F r w.accepted w.held);
      missing = belongs_missing F r;
    }
