-- The measure is the depth of the node.
use Rattle.tree_index.specs.Tree.{depth}
use Rattle.lookup.proofs.descent.+descend.Given as goal

abbrev pub decreases-descend : goal.decreases-descend
decreases-descend l = depth l.i.0
