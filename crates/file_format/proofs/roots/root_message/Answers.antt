use mathlib.Core.List.{[]}
use lib.ListN.{get_or}
use Prim.Native.Nat.{ℕ, ◌<◌, ◌*◌, ◌+◌}
use mathlib.Core.Path.{sym, ap, ◌∙◌}
use native.Mathlib.Omega.{arith}
use Rattle.file_format.proofs.ByValue.{number_at, items_none, items_next}
use Rattle.file_format.specs.Messages.{root_item}
use Rattle.byte_strings.specs.Lists.{put}
use Rattle.tree_index.specs.Numbers.{numbers}
use Rattle.file_format.proofs.roots.root_message.Goals as goal

pub loop-j-init : goal.loop-j-init
loop-j-init c = let a = c.args in items_none a.hashes (numbers a.roots.indexes) a.roots.sizes

pub loop-j-preserved : goal.loop-j-preserved
loop-j-preserved c =
    let a = c.args in
    let j = c.loop-j.j in
    let l : j < 20 = omega arith in
    items_next a.hashes (numbers a.roots.indexes) a.roots.sizes j c.loop-j.message
    c.put_item.new.message l c.put_item.ensures.whole c.loop-j.invariant
    (c.put_item.ensures.placed ∙ ap (λ (i : ℕ). put c.loop-j.message (1 + 48 * j) (root_item (get_or a.hashes j []) i (get_or a.roots.sizes j 0)))
    (sym (number_at a.roots.indexes j)))
