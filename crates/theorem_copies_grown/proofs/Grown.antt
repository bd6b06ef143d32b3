-- "a copy made for a count above 0, or for 0 and 0, and grown by taking in packets .. and by releasing, is accepted".
-- Assumes nothing.
use Prim.Native.Nat.{ℕ}
use mathlib.Core.Path.{sym}
use mathlib.Core.List.{List}
use Rattle.file_format.specs.Messages.{HashFunction}
use Rattle.copy_checks.specs.Copy.{Copy}
use Rattle.copy_make.proofs.Calls.{roomy}
use Rattle.theorem_released_back.proofs.Took.{took}
use Rattle.theorem_copies_grown.specs.Grown.{Grown, made, grew, shrank, GrownAccepted}
use Rattle.theorem_copies_grown.proofs.Grows.{Grows}
use Rattle.theorem_copies_grown.proofs.Accepts.{accepts}
use Rattle.theorem_copies_grown.proofs.Takes.{takes}
use Rattle.theorem_copies_grown.proofs.Releases.{asked, releases}
use Rattle.theorem_copies_grown.proofs.Begins.{begins}

module _ (F : List ℕ → List ℕ) (hf : HashFunction F) where
  pub grown_grows : (c : Copy) → Grown F c → Grows F c
  grown_grows x (made c e z) = begins F c (roomy c (sym e)) z
  grown_grows x (grew c w p i root b e s) = takes (record { hash = hf; grows = grown_grows c w; bytes = b; took = took F c p i root e }) s
  grown_grows x (shrank c w i e) = releases F c (grown_grows c w) i (asked c i e)

pub grown_accepted : GrownAccepted
grown_accepted F hf c w = accepts F c (grown_grows F hf c w)
