-- The answer of a preview, from the case that it is. Assumes nothing.
use Rattle.std.specs.Prelude.{Result, Ok, Err, ⊤}
use Prim.Native.Nat.{ℕ, ◌+◌, ◌<◌, ◌^◌}
use mathlib.Core.Path.{◌≡◌, refl}
use mathlib.Core.List.{List}
use native.Mathlib.Omega.{arith}
use lib.ListN.{length}
use Rattle.answer_types.specs.Verdict.{done}
use Rattle.answer_types.specs.Meaning.{said, refusal_of}
use Rattle.answer_types.specs.declared.Refusal.{Refusal}
use Rattle.byte_strings.specs.Lists.{zeros}
use Rattle.blake2b.specs.Hash.{node_hash}
use Rattle.file_format.specs.Stored.{stored_root_message}
use Rattle.file_format.specs.Belongs.{Register}
use Rattle.writing.specs.Append.{append_verdict, appended_tree}
use Rattle.writing.specs.Inner.{FilledFits}
use Rattle.writing.proofs.Answers.{store_fits, append_not, append_done}
use Rattle.append_preview.specs.Preview.{PreviewPost}

module _ (r : Register) (chunk : List ℕ) (a : Result ⊤ Refusal) (e : said a ≡ append_verdict r chunk) where
  -- "by 6 their sum fits"
  pub root_fits : a ≡ (Ok tt) → length r.content < 2 ^ 64 → FilledFits r.tree r.n (length chunk)
  root_fits p l = let w = store_fits r chunk p e in record { few = w.few; room = w.tree; sum = omega (arith, w.sum, w.content) }

  pub preview_not : (x : Refusal) → a ≡ Err x → PreviewPost r chunk (refusal_of x) (zeros 32)
  preview_not x p = let w = append_not {r = r} {chunk = chunk} p e in record { answer = w.answer; root = w.root }

  pub preview_done : (h : List ℕ) → a ≡ (Ok tt) → h ≡ node_hash (stored_root_message (appended_tree node_hash r.tree r.n chunk) (r.n + 1))
      → PreviewPost r chunk done h
  preview_done h p q =
      let w = append_done {r = r} {chunk = chunk} p e (record { tree = refl; bitfield = refl; content = refl; root = q }) in
      record { answer = w.answer; root = w.root }
