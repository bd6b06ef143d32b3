-- `root_label::label` meets its contract, by the key's length. Assumes nothing.
use mathlib.Core.Path.{◌≡◌, sym, ap, ◌∙◌}
use Prim.Native.Nat.{ℕ}
use mathlib.Core.List.{List}
use lib.ListN.{length, replicate}
use native.Mathlib.Omega.{arith}
use Rattle.answer_types.specs.Verdict.{Verdict, unless_refused}
use Rattle.blake2b.proofs.Calls.{key_too_long, all_right}
use Rattle.root_label.specs.Label.{label_of, label_verdict, label_bytes}
use Rattle.root_label.proofs.label.Goals as goal

-- the label's bytes by its verdict
bytes_of : (key root : List ℕ) (v : Verdict) → label_verdict key ≡ v → unless_refused v (label_of key root) (replicate 32 0) ≡ label_bytes key root
unfolding label_bytes
bytes_of key root v e = ap (λ (w : Verdict). unless_refused w (label_of key root) (replicate 32 0)) (sym e)

pub returns-then-key-gt64 : goal.returns-then-key-gt64
unfolding label_verdict
returns-then-key-gt64 c =
    let a = c.args in
    let e = key_too_long 32 (length a.key.now) (omega arith) (omega arith) (omega (arith, c.if-key-gt64.true)) in
    record { answers = sym e; bytes = bytes_of a.key.now a.root.now _ e }

pub returns : goal.returns
unfolding label_verdict label_of
returns c =
    let a = c.args in
    let e = all_right 32 (length a.key.now) (omega arith) (omega arith) (omega (arith, c.if-key-gt64.false)) in
    record { answers = sym e; bytes = c.hash_parts.ensures ∙ bytes_of a.key.now a.root.now _ e }
