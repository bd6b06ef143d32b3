-- `writing::starting::write_headers` meets its contract. Assumes nothing.
use Rattle.writing.proofs.Stored.{headers_put}
use Rattle.writing.proofs.starting.write_headers.Goals as goal

pub returns : goal.returns
returns c =
    headers_put _ _ _ _ _ _ _ _ _ c.tree_header-first.ensures c.signatures_header-second.ensures c.bitfield_header-third.ensures
    c.write_header.ensures c.write_header-2.ensures c.write_header-3.ensures
