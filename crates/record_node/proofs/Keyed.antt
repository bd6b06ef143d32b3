-- One Writer, read. Assumes nothing.
use Prim.Native.Nat.{ℕ, zero, suc, ◌+◌, ◌-◌, ◌^◌, ◌<◌, ◌≤◌}
use mathlib.Core.Path.{◌≡◌, refl, sym, ap, ap₂, ◌∙◌, subst}
use mathlib.Core.List.{List, [], ◌∷◌, ◌++◌, append_assoc, append-nil}
use mathlib.Core.Option.{Option, none, some}
use native.Mathlib.Omega.{arith}
use native.Mathlib.Nat.{zero-add, suc-add}
use lib.ListN.{length, get_or, take, drop, length-drop, drop_of_length-le, take-append-drop}
use lib.Seq.{length-take-le, take-nil}
use Rattle.std.specs.Prelude.{Option as Maybe, None, Some}
use Rattle.byte_strings.specs.Lists.{part}
use Rattle.byte_strings.proofs.Lists.{part_left, length_part}
use Rattle.record_fields.specs.Reading.{BeginsNot, both, Both}
use Rattle.record_fields.specs.Fields.{part_field, given_field, Longest, Later}
use Rattle.record_fields.specs.Inner.{Upto, PartUpto, BytesRead, part_of, bytes_of, Inside, BytesInside, head_of, part_placed, bytes_placed}
use Rattle.record_fields.specs.declared.rows.Part.{Part}
use Rattle.record_fields.proofs.Reading.{Leads, first_not, then_not, then_read}
use Rattle.record_fields.proofs.Fields.{part_tag, later_nil, later_part}
use Rattle.record_fields.proofs.Unique.{given_unique}
use Rattle.record_fields.proofs.Placed.{upto_next, part_placed_lem, bytes_placed_lem}
use Rattle.record_format.specs.Records.{Writer, WriterWithin, writer_bytes, writers_bytes, WritersWithin}
use Rattle.record_format.specs.Theorems.{Rejected}
use Rattle.record_format.proofs.Unique.{later_untagged, writer_size}
use Rattle.record_node.specs.Post.{writer_of, WriterInside, writer_placed}
use Rattle.record_node.specs.Inner.{WithKeyAs, WriterAt, WriterReadAs, OneAt, OneRead}
use Rattle.record_node.specs.declared.writers.Writer.{Writer as CodeWriter}

-- ---- cases

pub given_part : {p q : Part} → Some p ≡ Some q → p ≡ q
given_part e = cc

code_writer : Part → Maybe Part → CodeWriter
code_writer k p = record { key = k; permission = p }

same_parts : (w v : CodeWriter) → w.key ≡ v.key → w.permission ≡ v.permission → w ≡ v
unfolding code_writer
same_parts w v p q = ap (λ (k : Part). code_writer k w.permission) p ∙ ap (code_writer v.key) q

-- ---- a key and a permission

abbrev two : Option (List ℕ) × Option (List ℕ) → List ℕ
two = both (part_field 1) (part_field 2)

abbrev Bounds : Option (List ℕ) × Option (List ℕ) → Type 0
Bounds = Both (Longest 32) (Longest 16)

leads : Leads (part_field 1) (Longest 32) (Later 1) (part_field 2) (Longest 16) (Later 2)
leads o t w f = later_part 1 2 o t (omega arith) (omega arith) f

in_bounds : (w : Writer) → WriterWithin w → Bounds (some w.key, w.permission)
in_bounds w h = (omega (arith, h.key), h.permission)

module _ (d : List ℕ) (at : ℕ) where
  rejected : BeginsNot two Bounds (Later 2) (drop at d) → Rejected writer_bytes WriterWithin (drop at d)
  unfolding writer_bytes
  rejected n w h e =
      n (some w.key, w.permission) [] (in_bounds w h) (later_nil 2 (omega arith)) (sym e ∙ sym (append-nil (two (some w.key, w.permission))))

  pub writer_first : BytesRead d at 1 32 None → WriterReadAs d at None
  writer_first g = rejected (first_not (part_field 1) (Longest 32) (Later 1) (part_field 2) (Longest 16) (Later 2) leads g.none)

  module _ {key : Maybe Part} {second : ℕ} (one : PartUpto d at 1 32 key second) where
    pub writer_second : BytesRead d second 2 16 None → WriterReadAs d at None
    writer_second h =
        rejected (then_not (part_field 1) (Longest 32) (Later 1) (part_field 2) (Longest 16) (Later 2) leads d at one.read h.none)

    module _ {permission : Maybe Part} {end : ℕ} (other : PartUpto d second 2 16 permission end) where
      all : Upto two Bounds (Later 2) d at (bytes_of d key, bytes_of d permission) end
      all = then_read (part_field 1) (Longest 32) (Later 1) (part_field 2) (Longest 16) (Later 2) leads d at one.read other.read

      alone : (w : Writer) → WriterWithin w → writer_bytes w ≡ drop at d →
          (◌≡◌ {A = Option (List ℕ) × Option (List ℕ)} (some w.key, w.permission) (bytes_of d key, bytes_of d permission)) × ([] ≡ drop end d)
      unfolding writer_bytes
      alone w i p =
          all.begins.only (some w.key, w.permission) [] (in_bounds w i) (later_nil 2 (omega arith)) (sym p ∙ sym (append-nil (two (some w.key, w.permission))))

      pub writer_left : end < length d → WriterReadAs d at None
      writer_left l w i p = omega (arith, ap length (alone w i p).1, length-drop end d)

      key_none : WithKeyAs key permission None → Rejected writer_bytes WriterWithin (drop at d)
      key_none k w i p = bad key refl
        where
          bad : (o : Maybe Part) → o ≡ key → ⊥
          bad None q =
              let z : some w.key ≡ none = ap (λ (x : Option (List ℕ) × Option (List ℕ)). x.0) (alone w i p).0 ∙ ap (bytes_of d) (sym q) in
              let y : ◌≡◌ {A = ℕ} 0 1 = cc in omega arith
          bad (Some b) q =
              let z : some w.key ≡ some (part_of d b) = ap (λ (x : Option (List ℕ) × Option (List ℕ)). x.0) (alone w i p).0 ∙ ap (bytes_of d) (sym q) in
              let y : w.key ≡ part_of d b = cc in
              k b (sym q) (sym (length_part d b.at b.len (subst (BytesInside d) (sym q) one.inside)) ∙ sym (ap length y) ∙ i.key)

      key_read : at ≤ length d → length d ≤ end → (w : CodeWriter) → WithKeyAs key permission (Some w) → WriterAt d at w
      unfolding writer_bytes
      key_read start l w k = record {
        inside = record { key = key_inside; permission = subst (BytesInside d) k.1.1 other.inside };
        accepted = record {
          within = record { key = length_part d w.key.at w.key.len key_inside ∙ k.1.0; permission = subst (λ (o : Maybe Part). Longest 16 (bytes_of d o)) k.1.1 other.read.begins.within };
          bytes = written;
        };
        placed = same_parts w (writer_placed at (writer_of d w)) key_placed permission_placed;
      }
        where
          given : PartUpto d at 1 32 (Some w.key) second
          given = subst (λ (o : Maybe Part). PartUpto d at 1 32 o second) k.0 one

          key_placed : w.key ≡ part_placed at 1 (part_of d w.key)
          key_placed = part_placed_lem d at 1 32 w.key second start given

          permission_placed : w.permission ≡ bytes_placed (at + length (given_field 1 (part_of d w.key))) 2 (bytes_of d w.permission)
          permission_placed =
              bytes_placed_lem d second 2 16 w.permission end given.read.inside (subst (λ (o : Maybe Part). PartUpto d second 2 16 o end) k.1.1 other)
              ∙ ap (λ (n : ℕ). bytes_placed n 2 (bytes_of d w.permission)) (upto_next start given.read)

          key_inside : Inside d w.key
          key_inside = subst (BytesInside d) k.0 one.inside

          fields : ◌≡◌ {A = Option (List ℕ) × Option (List ℕ)} (bytes_of d key, bytes_of d permission) (some (part_of d w.key), bytes_of d w.permission)
          fields = ap₂ {C = Option (List ℕ) × Option (List ℕ)} (λ (a b : Option (List ℕ)). (a, b)) (ap (bytes_of d) k.0) (ap (bytes_of d) k.1.1)

          written : writer_bytes (writer_of d w) ≡ drop at d
          written =
              ap two (sym fields) ∙ sym (append-nil (two (bytes_of d key, bytes_of d permission))) ∙ ap (λ (t : List ℕ). two (bytes_of d key, bytes_of d permission) ++ t) (sym (drop_of_length-le d l))
              ∙ sym all.begins.made

      pub writer_whole : at ≤ length d → length d ≤ end → (r : Maybe CodeWriter) → WithKeyAs key permission r → WriterReadAs d at r
      writer_whole start l None k = key_none k
      writer_whole start l (Some w) k = key_read start l w k

-- ---- a Writer as a part

pub from_front : (d : List ℕ) (n : ℕ) → take (n - 0) d ≡ take n d
from_front d n = let e : n - 0 ≡ n = omega arith in ap (λ (m : ℕ). take m d) e

drop_take : (a n : ℕ) (xs : List ℕ) → drop a (take (a + n) xs) ≡ take n (drop a xs)
drop_take zero n xs = ap (λ (k : ℕ). take k xs) (zero-add n)
drop_take (suc a) n [] = ap (λ (k : ℕ). drop (suc a) (take {A = ℕ} k [])) (suc-add a n) ∙ sym (take-nil n)
drop_take (suc a) n (x ∷ xs) = ap (λ (k : ℕ). drop (suc a) (take k (x ∷ xs))) (suc-add a n) ∙ drop_take a n xs

module _ (d : List ℕ) (to : ℕ) (inside : to ≤ length d) where
  shorter : length (take to d) ≡ to
  shorter = length-take-le to d inside

  same_part : (p : Part) → Inside (take to d) p → part_of (take to d) p ≡ part_of d p
  same_part p h =
      sym (part_left (take to d) (drop to d) p.at p.len h) ∙ ap (λ (x : List ℕ). part x p.at p.len) (take-append-drop to d)

  same_bytes : (o : Maybe Part) → BytesInside (take to d) o → bytes_of (take to d) o ≡ bytes_of d o
  same_bytes None h = refl
  same_bytes (Some p) h = ap {B = Option (List ℕ)} some (same_part p h)

  wider : (o : Maybe Part) → BytesInside (take to d) o → BytesInside d o
  wider None h = tt
  wider (Some p) h = omega (arith, shorter)

  same_writer : (w : CodeWriter) → WriterInside (take to d) w → writer_of (take to d) w ≡ writer_of d w
  same_writer w h = ap₂ (λ (k : List ℕ) (o : Option (List ℕ)). made k o) (same_part w.key h.key) (same_bytes w.permission h.permission)
    where
      made : List ℕ → Option (List ℕ) → Writer
      made k o = record { key = k; permission = o }

  wider_writer : (w : CodeWriter) → WriterInside (take to d) w → WriterInside d w
  wider_writer w h = record { key = omega (arith, shorter, h.key); permission = wider w.permission h.permission }

-- ---- one more Writer

module _ (d : List ℕ) (at : ℕ) where
  pub one_bad : BytesRead d at 4 70 None → OneRead d at None
  unfolding writers_bytes WritersWithin
  one_bad g [] t w f p = later_untagged t f (ap (λ (s : List ℕ). get_or s 0 256) (sym p) ∙ g.tagged)
  one_bad g (w ∷ ws) t i f p =
      g.given (writer_bytes w) (writers_bytes ws ++ t) (writer_size w i.0) tt
      (p ∙ append_assoc (given_field 4 (writer_bytes w)) (writers_bytes ws) t)

  module _ {field : Maybe Part} {next : ℕ} (read : PartUpto d at 4 70 field next) where
    module _ {p : Part} (f : field ≡ Some p) where
      given : PartUpto d at 4 70 (Some p) next
      given = subst (λ (o : Maybe Part). PartUpto d at 4 70 o next) f read

      pub part_inside : p.at + p.len ≤ length d
      part_inside = given.inside

      -- the bytes of the part, as the front of the bytes lent has them
      front : drop p.at (take (p.at + p.len) d) ≡ part_of d p
      unfolding part
      front = drop_take p.at p.len d

      tag : get_or (drop at d) 0 256 ≡ 34
      tag = ap (λ (s : List ℕ). get_or s 0 256) (given.read.begins.made ∙ part_tag 4 (part_of d p) (drop next d) (omega arith))

      size : length (part_of d p) < 2 ^ 64
      size = omega (arith, given.read.begins.within)

      pub one_none : {e : List ℕ} → e ≡ take (p.at + p.len) d → WriterReadAs e p.at None → OneRead d at None
      unfolding writers_bytes WritersWithin
      one_none q i [] t w l k = later_untagged t l (ap (λ (s : List ℕ). get_or s 0 256) (sym k) ∙ tag)
      one_none {e = x} q i (w ∷ ws) t u l k =
          let b = given_unique 4 (part_of d p) (writer_bytes w) (drop next d) (writers_bytes ws ++ t) (omega arith) size (omega (arith, writer_size w u.0))
          (sym given.read.begins.made ∙ k ∙ append_assoc (given_field 4 (writer_bytes w)) (writers_bytes ws) t) in
          i w u.0 (sym b.0 ∙ sym front ∙ ap (drop p.at) (sym q))

      pub one_read : {e : List ℕ} {w : CodeWriter} → at ≤ length d → e ≡ take (p.at + p.len) d → WriterAt e p.at w → OneAt d at w next
      one_read {e = x} {w = w} start q i =
          let a : WriterAt (take (p.at + p.len) d) p.at w = subst (λ (y : List ℕ). WriterAt y p.at w) q i in
          let s : writer_of (take (p.at + p.len) d) w ≡ writer_of d w = same_writer d (p.at + p.len) part_inside w a.inside in
          let whole : part_of d p ≡ writer_bytes (writer_of d w) = sym front ∙ sym a.accepted.bytes ∙ ap writer_bytes s in
          record {
            inside = wider_writer d (p.at + p.len) part_inside w a.inside;
            within = subst WriterWithin s a.accepted.within;
            made =
                given.read.begins.made ∙ ap (λ (b : List ℕ). given_field 4 b ++ drop next d) whole;
            ends = given.read.inside;
            placed =
                a.placed ∙ ap (writer_placed p.at) s
                ∙ ap (λ (n : ℕ). writer_placed n (writer_of d w)) (ap (λ (y : Part). y.at) (part_placed_lem d at 4 70 p next start given) ∙ ap (λ (b : List ℕ). at + length (head_of 4 b)) whole);
          }
