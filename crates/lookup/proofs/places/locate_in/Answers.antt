-- `lookup::places::locate_in` meets its contract. Assumes nothing.
use Prim.Native.Nat.{ℕ, ◌^◌, ◌<◌}
use mathlib.Core.Path.{sym, ap, ◌∙◌}
use native.Mathlib.Omega.{arith}
use Rattle.lookup.specs.Lookup.{found}
use Rattle.lookup.specs.Inner.{known_if}
use Rattle.lookup.proofs.Lookups.{byte_above, byte_end}
use Rattle.lookup.proofs.Calls.{byte_from_lem, byte_told, byte_ended}
use Rattle.lookup.proofs.places.locate_in.Goals as goal

pub returns-then-size-offset : goal.returns-then-size-offset
returns-then-size-offset c =
    let a = c.args in
    sym (byte_above (known_if a.partly a.bitfield.now) a.tree.now a.n a.size a.offset.0 c.if-size-offset.true)

pub returns-then-offset-size : goal.returns-then-offset-size
returns-then-offset-size c =
    let a = c.args in
    ap (λ (k : ℕ). found k 0) c.chunk_behind.ensures
    ∙ sym (byte_end (known_if a.partly a.bitfield.now) a.tree.now a.n a.size a.offset.0 c.if-offset-size.true)

pub overflow_sub-result : goal.overflow_sub-result
overflow_sub-result c =
    let a = c.args in
    let below : a.offset.0 < a.size = omega arith in
    let z : a.size < 2 ^ 64 = omega arith in
    byte_from_lem (known_if a.partly a.bitfield.now) a.tree.now a.n a.size a.offset.0 c.requires below _ _
    (sym (c.in-Reached.ensures ∙ byte_told (known_if a.partly a.bitfield.now) a.tree.now a.n a.size a.offset.0 c.requires below z))

pub returns-in-Stopped : goal.returns-in-Stopped
returns-in-Stopped c =
    let a = c.args in byte_ended (known_if a.partly a.bitfield.now) a.tree.now a.n a.size a.offset.0 c.requires (omega arith) (omega arith) c.in-Stopped.ensures

pub returns-in-Unknown : goal.returns-in-Unknown
returns-in-Unknown c =
    let a = c.args in byte_ended (known_if a.partly a.bitfield.now) a.tree.now a.n a.size a.offset.0 c.requires (omega arith) (omega arith) c.in-Unknown.ensures

pub returns-in-Reached : goal.returns-in-Reached
returns-in-Reached c =
    let a = c.args in byte_ended (known_if a.partly a.bitfield.now) a.tree.now a.n a.size a.offset.0 c.requires (omega arith) (omega arith) c.in-Reached.ensures
