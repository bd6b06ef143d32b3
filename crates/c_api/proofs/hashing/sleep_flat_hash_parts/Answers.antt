-- `c_api::hashing::sleep_flat_hash_parts` meets its contract, by the key's length.
use mathlib.Core.Path.{sym, ap, ◌∙◌}
use mathlib.Core.List.{◌++◌}
use lib.ListN.{length}
use native.Mathlib.Omega.{arith}
use Rattle.answer_types.specs.Verdict.{Verdict, unless_refused}
use Rattle.blake2b.specs.Hash.{blake2b}
use Rattle.blake2b.proofs.Calls.{key_too_long, all_right}
use Rattle.c_encoding.specs.Number.{number_of}
use Rattle.c_api.proofs.hashing.sleep_flat_hash_parts.Goals as goal

pub returns-then-key-gt64 : goal.returns-then-key-gt64
returns-then-key-gt64 c =
    let e = key_too_long 32 (length c.args.key.now) (omega arith) (omega arith) (omega (arith, c.if-key-gt64.true)) in
    record { value = ap number_of (sym e); out_after = ap (λ (v : Verdict). unless_refused v (blake2b 32 c.args.key.now (c.args.prefix.now ++ c.args.body.now)) c.args.out.now) (sym e) }

pub returns : goal.returns
returns c =
    let e = all_right 32 (length c.args.key.now) (omega arith) (omega arith) (omega (arith, c.if-key-gt64.false)) in
    record {
      value = ap number_of (sym e);
      out_after = c.hash_parts.ensures ∙ ap (λ (v : Verdict). unless_refused v (blake2b 32 c.args.key.now (c.args.prefix.now ++ c.args.body.now)) c.args.out.now) (sym e);
    }
