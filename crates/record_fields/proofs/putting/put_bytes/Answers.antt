-- A part of the bytes lent is put as bytes; nothing is put of an absent one.
use mathlib.Core.Path.{refl}
use Rattle.record_fields.proofs.Put.{bytes_absent, given_put}
use Rattle.record_fields.proofs.putting.put_bytes.Goals as goal

pub returns-in-None : goal.returns-in-None
returns-in-None c =
    let a = c.args in
    bytes_absent a.d.now a.field a.k a.out.now a.at c.requires c.in-None.is

pub returns-in-Some : goal.returns-in-Some
returns-in-Some c =
    let a = c.args in
    given_put a.d.now a.field a.k a.out.now a.at c.requires _ c.in-Some.is _ _ _ refl c.put_part.ensures
