-- The proof of `PartsInsideForAll`: a descent that reaches a leaf has its bytes within the data. Assumes nothing.
use Prim.Native.Nat.{ℕ}
use mathlib.Core.Path.{sym}
use mathlib.Core.List.{List}
use native.Mathlib.Omega.{arith}
use Rattle.file_format.specs.Belongs.{Register}
use Rattle.lookup.specs.Lookup.{place_of, held_place_of}
use Rattle.lookup.specs.Read.{read_found}
use Rattle.lookup.proofs.Lookups.{hashed}
use Rattle.lookup.proofs.Calls.{placing, held_placing}
use Rattle.copy_checks.specs.Copy.{Copy}
use Rattle.copy_checks.proofs.Signed.{signed}
use Rattle.copy_lookup.specs.Lookups.{copy_place_of}
use Rattle.copy_lookup.proofs.AsRegister.{place_found_as, read_found_as}
use Rattle.theorem_parts_inside.specs.Parts.{PlaceInside, ReadInside, PartsInsideForAll}

place_inside : (r : Register) (i : ℕ) → PlaceInside (place_of r i) r.size r.content
place_inside r i s z e = let p = placing r i (sym e) in record { ordered = omega arith; used = p.inside; lent = p.passed.content }

read_inside : (F : List ℕ → List ℕ) (r : Register) (i : ℕ) → ReadInside (read_found F r i) r.size r.content
unfolding read_found
read_inside F r i s z e =
    let h = hashed F r.tree r.content i (held_place_of r i) (sym e) in
    let p = held_placing r i h.place in
    record { ordered = omega (arith, h.to); used = omega (arith, h.to, p.inside); lent = p.passed.content }

-- a copy's place is that of the copy as a register
copy_place_inside : (c : Copy) (i : ℕ) → PlaceInside (copy_place_of c i) c.size c.content
copy_place_inside c i s z e = place_inside (signed c) i s z (sym (place_found_as c i (sym e)))

pub parts_inside : PartsInsideForAll
parts_inside F =
    record {
      place = place_inside;
      read = read_inside F;
      copy_place = copy_place_inside;
      copy_read = λ c i s z e. read_inside F (signed c) i s z (read_found_as F c i s z e);
    }
