-- A copy that passes the checks of a call, as a register that passes the checks 2 to 6: with signatures, of which nothing else is asked here. What is
-- proved of such a register's lookups, reads and packets holds of the copy's. Assumes nothing.
use Prim.Native.Nat.{ℕ, ◌+◌, ◌*◌}
use mathlib.Core.Path.{refl, ap, ap₂, ◌∙◌}
use mathlib.Core.Bool.{Bool, ◌||◌}
use mathlib.Core.List.{◌++◌}
use native.Mathlib.Omega.{arith}
use borrow.Author.Tests.{eq-eqb, eqb-true}
use lib.Dec.{eqb}
use lib.ListN.{length-append, length-replicate}
use lib.Seq.{take_at}
use Rattle.byte_strings.specs.Lists.{zeros, total}
use Rattle.file_format.specs.Headers.{signatures_header}
use Rattle.file_format.specs.Sizes.{used_signatures}
use Rattle.file_format.specs.Stored.{stored_root_sizes}
use Rattle.file_format.specs.Belongs.{Register}
use Rattle.file_format.proofs.OfImage.{signatures_header_length}
use Rattle.checks.specs.Checks.{adds_up}
use Rattle.checks.proofs.Passed.{Passed}
use Rattle.copy_checks.specs.Copy.{Copy}
use Rattle.copy_checks.proofs.Steps.{Knowing}

abbrev pub signed : Copy → Register
signed c =
    record {
      tree = c.tree;
      signatures = signatures_header ++ zeros (64 * c.n);
      bitfield = c.bitfield;
      content = c.content;
      n = c.n;
      s = c.n;
      size = c.size;
    }

pub signed_passes : (c : Copy) → Knowing c → Passed (signed c)
unfolding adds_up used_signatures
signed_passes c k =
    let p = k.lent in
    let l = length-append signatures_header (zeros (64 * c.n)) ∙ ap₂ ◌+◌ signatures_header_length (length-replicate {A = ℕ} (64 * c.n) 0) in
    record {
      count = p.count;
      signed = ap (λ (b : Bool). b || eqb (c.n + 1) c.n) (eq-eqb c.n c.n refl);
      tree = p.tree;
      signatures = omega (arith, l);
      bitfield = p.bitfield;
      content = p.content;
      tree_front_lem = p.tree_front_lem;
      signatures_front = take_at signatures_header (zeros (64 * c.n)) 32 signatures_header_length;
      bitfield_front = p.bitfield_front;
      adds = eqb-true (total (stored_root_sizes c.tree c.n)) c.size k.adds;
    }
