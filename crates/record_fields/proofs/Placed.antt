-- Where the parts that were read lie, and that they are the bytes written there. Assumes nothing.
use Prim.Native.Nat.{ℕ, ◌+◌, ◌*◌, ◌≤◌}
use mathlib.Core.Path.{◌≡◌, refl, sym, ap, ◌∙◌}
use mathlib.Core.List.{List, ◌++◌, append_assoc}
use mathlib.Core.Option.{Option, none, some}
use native.Mathlib.Omega.{arith}
use lib.ListN.{length, drop, length-append, length-drop}
use Rattle.byte_strings.specs.Lists.{part}
use Rattle.byte_strings.proofs.Lists.{part_at, length_part}
use Rattle.record_fields.specs.Varints.{varint}
use Rattle.record_fields.specs.Fields.{part_field}
use Rattle.record_fields.specs.Inner.{Upto, PartUpto, part_of, bytes_of, Inside, BytesInside, head_of, part_placed, bytes_placed}
use Rattle.record_fields.specs.declared.rows.Part.{Part}
use Rattle.std.specs.Prelude.{Option as Maybe, None, Some}

-- ---- what was read at a place

-- what was read ends behind its writing
pub upto_next : {A : Type 0} {write : A → List ℕ} {Within : A → Type 0} {Follows : List ℕ → Type 0} {d : List ℕ} {at : ℕ} {a : A} {next : ℕ}
    → at ≤ length d → Upto write Within Follows d at a next → next ≡ at + length (write a)
upto_next {A} {write} {Within} {Follows} {d} {at} {a} {next} h u =
    omega (arith, u.inside, ap length u.begins.made, length-append (write a) (drop next d), length-drop at d, length-drop next d)

part_is : (p : Part) (at len : ℕ) → p.at ≡ at → p.len ≡ len → p ≡ record { at = at; len = len }
part_is p at len e f = ap {B = Part} (λ (x : ℕ). record { at = x; len = p.len }) e ∙ ap {B = Part} (λ (x : ℕ). record { at = at; len = x }) f

pub field_head : (k : ℕ) (bs : List ℕ) → part_field k (some bs) ≡ head_of k bs ++ bs
unfolding part_field
field_head k bs = sym (append_assoc (varint (8 * k + 2)) (varint (length bs)) bs)

pub part_placed_lem : (d : List ℕ) (at k longest : ℕ) (p : Part) (next : ℕ) → at ≤ length d → PartUpto d at k longest (Some p) next → p ≡ part_placed at k (part_of d p)
part_placed_lem d at k longest p next h g =
    let long : length (part_of d p) ≡ p.len = length_part d p.at p.len g.inside in
    part_is p (at + length (head_of k (part_of d p))) (length (part_of d p))
    (omega (arith, g.ends, upto_next h g.read, ap length (field_head k (part_of d p)), length-append (head_of k (part_of d p)) (part_of d p), long)) (sym long)

pub bytes_placed_lem : (d : List ℕ) (at k longest : ℕ) (o : Maybe Part) (next : ℕ) → at ≤ length d → PartUpto d at k longest o next → o ≡ bytes_placed at k (bytes_of d o)
bytes_placed_lem d at k longest None next h g = refl
bytes_placed_lem d at k longest (Some p) next h g = ap {B = Maybe Part} Some (part_placed_lem d at k longest p next h g)

-- ---- what was written at a place

-- a part lies within the bytes, and is the bytes written
pub record Lying (d : List ℕ) (o : Maybe Part) (bs : Option (List ℕ)) : Type 0 where
  pub inside : BytesInside d o
  pub bytes : bytes_of d o ≡ bs

module _ (d front t : List ℕ) (at k : ℕ) (long : length front ≡ at) where
  split : (bs : List ℕ) → d ≡ front ++ (part_field k (some bs) ++ t) → d ≡ (front ++ head_of k bs) ++ (bs ++ t)
  split bs e =
      e ∙ ap (λ (x : List ℕ). front ++ (x ++ t)) (field_head k bs) ∙ ap (λ (x : List ℕ). front ++ x) (append_assoc (head_of k bs) bs t)
      ∙ sym (append_assoc front (head_of k bs) (bs ++ t))

  pub part_inside : (bs : List ℕ) → d ≡ front ++ (part_field k (some bs) ++ t) → Inside d (part_placed at k bs)
  part_inside bs e =
      omega (arith, long, ap length (split bs e), length-append (front ++ head_of k bs) (bs ++ t), length-append front (head_of k bs), length-append bs t)

  pub part_bytes : (bs : List ℕ) → d ≡ front ++ (part_field k (some bs) ++ t) → part_of d (part_placed at k bs) ≡ bs
  part_bytes bs e =
      ap (λ (x : List ℕ). part x (at + length (head_of k bs)) (length bs)) (split bs e)
      ∙ part_at (front ++ head_of k bs) bs t (at + length (head_of k bs)) (length bs) (length-append front (head_of k bs) ∙ ap (λ (n : ℕ). n + length (head_of k bs)) long) refl

  pub lying : (o : Option (List ℕ)) → d ≡ front ++ (part_field k o ++ t) → Lying d (bytes_placed at k o) o
  lying none e = record { inside = tt; bytes = refl }
  lying (some bs) e = record { inside = part_inside bs e; bytes = ap {B = Option (List ℕ)} some (part_bytes bs e) }
