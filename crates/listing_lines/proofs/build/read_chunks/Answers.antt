use native.Mathlib.Omega.{arith}
use mathlib.Core.Bool.{not}
use mathlib.Core.Path.{sym, ap, ◌∙◌}
use Prim.Native.Nat.{◌+◌, ◌-◌, ◌≤◌}
use lib.ListN.{length, drop}
use Rattle.listing_lines.proofs.Stands.{stands_facts, stood_room}
use Rattle.listing_lines.proofs.Chunks.{first_reading, lent_length, next_added, stopped, read_stopped, read_ended}
use Rattle.listing_lines.proofs.build.read_chunks.Goals as goal
use Rattle.listing_lines.proofs.build.read_chunks.Goals.{After-read_be32-len}

-- a chunk that stands ends within the input, and within 4,096 bytes
room : (c : After-read_be32-len) → (c.loop-n.at + 4 + c.read_be32-len.result ≤ length c.args.input.now) × (c.loop-n.size + c.read_be32-len.result ≤ 4096)
room c =
    let l = c.loop-n in
    stood_room c.args.input.now l.at l.size c.read_be32-len.result c.stands.result l.invariant.0 l.invariant.1
    c.stands.ensures (ap not c.if-not-stands.false) c.read_be32-len.ensures

pub loop-n-init : goal.loop-n-init
loop-n-init c = (c.requires.0, omega arith, first_reading (drop 4 c.args.input.now) c.args.count _ c.requires.2)

pub stands-requires : goal.stands-requires
stands-requires c = (c.loop-n.invariant.0, c.loop-n.invariant.1)

pub returns-then-not-stands : goal.returns-then-not-stands
returns-then-not-stands c =
    let l = c.loop-n in
    read_stopped _ _
    (stopped _ c.args.input.now c.args.count l.n l.at l.size _ c.loop-n-test.true (sym c.stands.ensures ∙ c.if-not-stands.true) l.invariant.2)
    (omega (arith, c.loop-n-test.true, c.requires.1)) l.invariant.1

pub read_be32-len-requires : goal.read_be32-len-requires
read_be32-len-requires c =
    let l = c.loop-n in
    omega (arith, (stands_facts c.args.input.now l.at (4096 - l.size) l.invariant.0 (sym c.stands.ensures ∙ c.if-not-stands.false)).0)

pub overflow_add-end : goal.overflow_add-end
overflow_add-end c = omega (arith, (room (goal.at.overflow_add-end c).After-read_be32-len).0)

pub slice_bounds-add-end : goal.slice_bounds-add-end
slice_bounds-add-end c = omega (arith, (room (goal.at.slice_bounds-add-end c).After-read_be32-len).0)

pub add-requires : goal.add-requires
add-requires c =
    let fits = room (goal.at.add-requires c).After-read_be32-len in
    let l = c.loop-n in
    (omega (arith, c.loop-n-test.true, c.requires.1), lent_length c.args.input.now (l.at + 4) c.read_be32-len.result l.size fits.0 fits.1)

pub loop-n-preserved : goal.loop-n-preserved
loop-n-preserved c =
    let fits = room (goal.at.loop-n-preserved c).After-read_be32-len in
    let a = c.args in
    let l = c.loop-n in (
      fits.0,
      fits.1,
      next_added _ a.input.now l.tree l.signatures l.bitfield l.content _ _ _ _ a.count l.n l.at l.size c.read_be32-len.result c.loop-n-test.true
          (sym c.stands.ensures ∙ c.if-not-stands.false) c.read_be32-len.ensures fits.0
          (λ i. omega (arith, (c.type_inv.input i).fits)) l.invariant.2 c.add.ensures,
    )

pub returns : goal.returns
returns c =
    let l = c.loop-n in
    read_ended _ c.args.input.now l.tree l.signatures l.bitfield l.content c.args.count l.n l.at l.size
    (omega (arith, c.loop-n.auto.n-end, c.loop-n-test.false)) l.invariant.0 c.requires.1 l.invariant.1 l.invariant.2
