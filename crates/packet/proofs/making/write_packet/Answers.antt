-- `packet::making::write_packet` meets its contract. Assumes nothing.
use Prim.Native.Nat.{ℕ, ◌<◌}
use mathlib.Core.Path.{sym, ap, subst}
use native.Mathlib.Omega.{arith}
use lib.ListN.{length}
use Rattle.byte_strings.proofs.Numbers.{length_be}
use Rattle.tree_index.specs.Tree.{roots}
use Rattle.packet.proofs.Above.{place_below}
use Rattle.packet.proofs.Rows.{packet_long, siblings_in, siblings_section, others_in, others_section, packet_written}
use Rattle.packet.proofs.making.write_packet.Goals as goal

pub other_indexes-beside-requires : goal.other_indexes-beside-requires
other_indexes-beside-requires c =
    let a = c.args in
    let h = c.requires.readable.chunk in
    (h.count, subst (λ (x : ℕ). x < length (roots a.n)) (sym c.root_place-place.ensures) (place_below a.n a.chunk.0 h))

pub copy_to-requires : goal.copy_to-requires
copy_to-requires c =
    let long = packet_long _ _ _ _ c.requires.readable _ _ c.sibling_count-up.ensures.same c.other_count-others.ensures.same in
    omega (arith, long, c.requires.room, ap length c.be32-length.ensures, length_be 4 (length c.args.bytes.now))

pub copy_to-requires-2 : goal.copy_to-requires-2
copy_to-requires-2 c =
    let long = packet_long _ _ _ _ c.requires.readable _ _ c.sibling_count-up.ensures.same c.other_count-others.ensures.same in
    omega (arith, long, c.requires.room, c.copy_to.auto.dst)

pub write_section-requires : goal.write_section-requires
write_section-requires c =
    let long = packet_long _ _ _ _ c.requires.readable _ _ c.sibling_count-up.ensures.same c.other_count-others.ensures.same in (
      siblings_in _ _ _ _ c.requires.readable _ _ c.sibling_count-up.ensures.same c.sibling_indexes-above.ensures,
      omega (arith, long, c.requires.room, c.copy_to-2.auto.dst, c.copy_to.auto.dst),
    )

pub write_section-requires-2 : goal.write_section-requires-2
write_section-requires-2 c =
    let long = packet_long _ _ _ _ c.requires.readable _ _ c.sibling_count-up.ensures.same c.other_count-others.ensures.same in (
      others_in _ _ _ _ c.requires.readable _ _ _ c.other_count-others.ensures.same c.root_place-place.ensures c.other_indexes-beside.ensures,
      omega (arith, long, c.requires.room, c.write_section.auto.out, c.copy_to-2.auto.dst, c.copy_to.auto.dst),
    )

pub returns : goal.returns
returns c =
    let r = c.requires.readable in
    let up = c.sibling_count-up.ensures.same in
    let others = c.other_count-others.ensures.same in
    packet_written _ _ _ _ r c.args.out.now c.copy_to.new.dst c.copy_to-2.new.dst
    c.write_section.new.out c.write_section-2.new.out c.be32-length.result _ _ _ up
    c.requires.room c.be32-length.ensures c.copy_to.ensures c.copy_to-2.ensures
    (siblings_section _ _ _ _ r _ _ up c.sibling_indexes-above.ensures) c.write_section.ensures
    (others_section _ _ _ _ r _ _ _ others c.root_place-place.ensures c.other_indexes-beside.ensures) c.write_section-2.ensures
