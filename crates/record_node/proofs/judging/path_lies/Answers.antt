-- Each test by itself.
use Rattle.record_fields.specs.Inner.{Inside}
use Rattle.record_format.proofs.Writing.{yes}
use Rattle.record_node.proofs.Bounds.{path_empty, path_long, path_decided}
use Rattle.record_node.proofs.judging.path_lies.Goals as goal

-- past the first test the part lies within the bytes
pub returns-then-part-gt255 : goal.returns-then-part-gt255
returns-then-part-gt255 c =
    let lying : Inside c.args.d.now c.args.part = yes _ c.lies.result c.if-not-lies.false c.lies.ensures in
    path_long _ _ lying c.if-part-gt255.true

pub returns : goal.returns
returns c =
    let lying : Inside c.args.d.now c.args.part = yes _ c.lies.result c.if-not-lies.false c.lies.ensures in
    path_decided _ _ lying c.if-part-eq0.false c.if-part-gt255.false

pub returns-then-part-eq0 : goal.returns-then-part-eq0
returns-then-part-eq0 c =
    let lying : Inside c.args.d.now c.args.part = yes _ c.lies.result c.if-not-lies.false c.lies.ensures in
    path_empty _ _ lying c.if-part-eq0.true
