-- The length and the first bytes decide.
use Rattle.record_format.proofs.Whole.{read_sized, read_started, read_content}
use Rattle.record_format.proofs.headers.read_header.Goals as goal

pub returns-then-bytes-ne46 : goal.returns-then-bytes-ne46
returns-then-bytes-ne46 c = read_sized c.args.bytes.now c.refusal.result c.if-bytes-ne46.true c.refusal.ensures

pub returns-then-not-same : goal.returns-then-not-same
returns-then-not-same c =
    read_started c.args.bytes.now c.first_bytes-start.result c.same.result c.refusal-then-not-same.result c.first_bytes-start.ensures c.same.ensures
    (c.if-not-same.true) c.refusal-then-not-same.ensures

pub returns : goal.returns
returns c =
    read_content c.args.bytes.now c.first_bytes-start.result c.same.result c.if-bytes-ne46.false c.first_bytes-start.ensures c.same.ensures
    (c.if-not-same.false)
