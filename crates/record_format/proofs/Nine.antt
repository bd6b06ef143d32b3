-- The fields of a Stat, three and three, as its reader takes them. Assumes nothing.
use Prim.Native.Nat.{ℕ, ◌+◌, ◌<◌, ◌≤◌}
use mathlib.Core.Path.{◌≡◌, refl, sym, ap, ◌∙◌, subst}
use mathlib.Core.List.{List, [], ◌++◌, append_assoc, append-nil}
use mathlib.Core.Option.{Option}
use native.Mathlib.Omega.{arith}
use lib.ListN.{length, drop, length-drop, drop_of_length-le}
use Rattle.record_fields.specs.Reading.{BeginsNot, both, Both}
use Rattle.record_fields.specs.Fields.{number_field, Most, Later}
use Rattle.record_format.specs.Records.{Stat, StatWithin, stat_bytes, rows_of, rows_bytes, most_of, RowsWithin, Given}
use Rattle.record_format.specs.Theorems.{Rejected}
use Rattle.record_fields.specs.Inner.{Upto, number_of, NumberRead}
use Rattle.record_format.specs.Post.{stat_of, StatReadAs}
use Rattle.record_format.specs.Inner.{three_fields, three_of, ThreeMost, ThreeRead, with_mode, with_mode_of}
use Rattle.std.specs.Prelude.{Option as Maybe, None, Some}
use Rattle.record_fields.specs.declared.varints.Read.{Read}
use Rattle.record_format.specs.declared.stats.Stat.{Stat as CodeStat}
use Rattle.record_fields.proofs.Reading.{Leads, first_not, then_not, then_read}
use Rattle.record_fields.proofs.Fields.{later_nil, later_number}

-- ---- three fields

two_later : (k j m : ℕ) (p : Option ℕ × Option ℕ) (t : List ℕ) → k < j → j < m → m < 16 → Later m t → Later k (both (number_field j) (number_field m) p ++ t)
two_later k j m p t g h l f =
    subst (Later k) (sym (append_assoc (number_field j p.0) (number_field m p.1) t))
    (later_number k j p.0 (number_field m p.1 ++ t) g (omega arith) (later_number j m p.1 t h l f))

pub three_later : (k m : ℕ) (p : Option ℕ × (Option ℕ × Option ℕ)) (t : List ℕ) → k < m → m < 14 → Later (m + 2) t → Later k (three_fields m p ++ t)
three_later k m p t g h f =
    subst (Later k) (sym (append_assoc (number_field m p.0) (both (number_field (m + 1)) (number_field (m + 2)) p.1) t))
    (later_number k m p.0 (both (number_field (m + 1)) (number_field (m + 2)) p.1 ++ t) g (omega arith) (two_later m (m + 1) (m + 2) p.1 t (omega arith) (omega arith) (omega arith) f))

module _ (d : List ℕ) (at k most : ℕ) (kind : k < 14) where
  second_leads : Leads (number_field (k + 1)) (Most most) (Later (k + 1)) (number_field (k + 2)) (Most most) (Later (k + 2))
  second_leads o t w f = later_number (k + 1) (k + 2) o t (omega arith) (omega arith) f

  first_leads : Leads (number_field k) (Most most) (Later k) (both (number_field (k + 1)) (number_field (k + 2))) (Both (Most most) (Most most)) (Later (k + 2))
  first_leads p t w f = two_later k (k + 1) (k + 2) p t (omega arith) (omega arith) (omega arith) f

  pub three_first : NumberRead d at k most None → ThreeRead d at k most None
  three_first g =
      first_not (number_field k) (Most most) (Later k) (both (number_field (k + 1)) (number_field (k + 2))) (Both (Most most) (Most most)) (Later (k + 2)) first_leads g

  module _ (a : Read (Maybe ℕ)) (g : NumberRead d at k most (Some a)) where
    pub three_second : NumberRead d a.next (k + 1) most None → ThreeRead d at k most None
    three_second h =
        then_not (number_field k) (Most most) (Later k) (both (number_field (k + 1)) (number_field (k + 2))) (Both (Most most) (Most most)) (Later (k + 2)) first_leads d at
        g
        (first_not (number_field (k + 1)) (Most most) (Later (k + 1)) (number_field (k + 2)) (Most most) (Later (k + 2)) second_leads h)

    module _ (b : Read (Maybe ℕ)) (h : NumberRead d a.next (k + 1) most (Some b)) where
      pub three_third : NumberRead d b.next (k + 2) most None → ThreeRead d at k most None
      three_third j =
          then_not (number_field k) (Most most) (Later k) (both (number_field (k + 1)) (number_field (k + 2))) (Both (Most most) (Most most)) (Later (k + 2)) first_leads d at
          g
          (then_not (number_field (k + 1)) (Most most) (Later (k + 1)) (number_field (k + 2)) (Most most) (Later (k + 2)) second_leads d a.next
          h j)

      pub three_read : (c : Read (Maybe ℕ)) → NumberRead d b.next (k + 2) most (Some c) → ThreeRead d at k most (Some (record { value = (a.value, b.value, c.value); next = c.next }))
      three_read c j =
          then_read (number_field k) (Most most) (Later k) (both (number_field (k + 1)) (number_field (k + 2))) (Both (Most most) (Most most)) (Later (k + 2)) first_leads d at
          g
          (then_read (number_field (k + 1)) (Most most) (Later (k + 1)) (number_field (k + 2)) (Most most) (Later (k + 2)) second_leads d a.next
          h j)

-- ---- nine fields

abbrev pub Trio : Type 0
Trio = Option ℕ × (Option ℕ × Option ℕ)

abbrev pub later : Trio × Trio → List ℕ
later = both (three_fields 4) (three_fields 7)

abbrev pub LaterMost : Trio × Trio → Type 0
LaterMost = Both (ThreeMost 18446744073709551615) (ThreeMost 18446744073709551615)

abbrev pub nine : Trio × (Trio × Trio) → List ℕ
nine = both (three_fields 1) later

abbrev pub NineMost : Trio × (Trio × Trio) → Type 0
NineMost = Both (ThreeMost 4294967295) LaterMost

abbrev pub nine_of : Stat → Trio × (Trio × Trio)
nine_of s = ((s.mode, (s.uid, s.gid)), ((s.size, (s.blocks, s.offset)), (s.byte_offset, (s.mtime, s.ctime))))

pub nine_bytes : (s : Stat) → stat_bytes s ≡ nine (nine_of s)
unfolding stat_bytes rows_bytes
nine_bytes s = simp (append_assoc, append-nil)

pub rows_most : (s : Stat) → RowsWithin 1 (rows_of s) → NineMost (nine_of s)
unfolding RowsWithin most_of
rows_most s r = (
  (r.0, (r.1.0, r.1.1.0)),
  ((r.1.1.1.0, (r.1.1.1.1.0, r.1.1.1.1.1.0)), (r.1.1.1.1.1.1.0, (r.1.1.1.1.1.1.1.0, r.1.1.1.1.1.1.1.1.0))),
)

nine_most : (s : Stat) → StatWithin s → NineMost (nine_of s)
nine_most s w = rows_most s w.rows

pub nine_rows : (s : Stat) → NineMost (nine_of s) → RowsWithin 1 (rows_of s)
unfolding RowsWithin most_of
nine_rows s w =
    (w.0.0, (w.0.1.0, (w.0.1.1, (w.1.0.0, (w.1.0.1.0, (w.1.0.1.1, (w.1.1.0, (w.1.1.1.0, (w.1.1.1.1, tt)))))))))

seventh_leads : Leads (three_fields 4) (ThreeMost 18446744073709551615) (Later 6) (three_fields 7) (ThreeMost 18446744073709551615) (Later 9)
seventh_leads p t w f = three_later 6 7 p t (omega arith) (omega arith) f

fourth_leads : Leads (three_fields 1) (ThreeMost 4294967295) (Later 3) later LaterMost (Later 9)
fourth_leads p t w f =
    subst (Later 3) (sym (append_assoc (three_fields 4 p.0) (three_fields 7 p.1) t))
    (three_later 3 4 p.0 (three_fields 7 p.1 ++ t) (omega arith) (omega arith) (three_later 6 7 p.1 t (omega arith) (omega arith) f))

nine_rejected : (d : List ℕ) → BeginsNot nine NineMost (Later 9) d → Rejected stat_bytes StatWithin d
nine_rejected d n s w e =
    n (nine_of s) [] (nine_most s w) (later_nil 9 (omega arith)) (sym e ∙ nine_bytes s ∙ sym (append-nil (nine (nine_of s))))

abbrev Threes : Type 0
Threes = Maybe ℕ × Maybe ℕ × Maybe ℕ

module _ (d : List ℕ) where
  pub stat_first : ThreeRead d 0 1 4294967295 None → StatReadAs d None
  stat_first g =
      nine_rejected d (first_not (three_fields 1) (ThreeMost 4294967295) (Later 3) later LaterMost (Later 9) fourth_leads g)

  module _ (a : Read Threes) (g : ThreeRead d 0 1 4294967295 (Some a)) where
    pub stat_second : ThreeRead d a.next 4 18446744073709551615 None → StatReadAs d None
    stat_second h =
        nine_rejected d
        (then_not (three_fields 1) (ThreeMost 4294967295) (Later 3) later LaterMost (Later 9) fourth_leads d 0 g
        (first_not (three_fields 4) (ThreeMost 18446744073709551615) (Later 6) (three_fields 7) (ThreeMost 18446744073709551615) (Later 9) seventh_leads
        h))

    module _ (b : Read Threes) (h : ThreeRead d a.next 4 18446744073709551615 (Some b)) where
      pub stat_third : ThreeRead d b.next 7 18446744073709551615 None → StatReadAs d None
      stat_third j =
          nine_rejected d
          (then_not (three_fields 1) (ThreeMost 4294967295) (Later 3) later LaterMost (Later 9) fourth_leads d 0 g
          (then_not (three_fields 4) (ThreeMost 18446744073709551615) (Later 6) (three_fields 7) (ThreeMost 18446744073709551615) (Later 9) seventh_leads d a.next
          h j))

      module _ (c : Read Threes) (j : ThreeRead d b.next 7 18446744073709551615 (Some c)) where
        abbrev read : Trio × (Trio × Trio)
        read = (three_of a.value, (three_of b.value, three_of c.value))

        -- the Stat of these fields
        abbrev pub stat : CodeStat
        stat = record {
          mode = a.value.0;
          uid = a.value.1;
          gid = a.value.2;
          size = b.value.0;
          blocks = b.value.1;
          offset = b.value.2;
          byte_offset = c.value.0;
          mtime = c.value.1;
          ctime = c.value.2;
        }

        all : Upto nine NineMost (Later 9) d 0 read c.next
        all =
            then_read (three_fields 1) (ThreeMost 4294967295) (Later 3) later LaterMost (Later 9) fourth_leads d 0 g
            (then_read (three_fields 4) (ThreeMost 18446744073709551615) (Later 6) (three_fields 7) (ThreeMost 18446744073709551615) (Later 9) seventh_leads d a.next
            h j)

        -- any Stat whose bytes these are has the fields that were read, and nothing is left
        alone : (s : Stat) → StatWithin s → stat_bytes s ≡ d → (nine_of s ≡ read) × ([] ≡ drop c.next d)
        alone s w p = all.begins.only (nine_of s) [] (nine_most s w) (later_nil 9 (omega arith)) (sym p ∙ nine_bytes s ∙ sym (append-nil (nine (nine_of s))))

        pub stat_left : c.next < length d → StatReadAs d None
        stat_left l s w p = omega (arith, ap length (alone s w p).1, length-drop c.next d)

        pub stat_whole : length d ≤ c.next → (r : Maybe CodeStat) → r ≡ with_mode stat → StatReadAs d r
        stat_whole l r x = subst (StatReadAs d) (sym x) (go a.value.0 refl)
          where
            bytes : d ≡ nine read
            bytes = all.begins.made ∙ ap (λ (t : List ℕ). nine read ++ t) (drop_of_length-le d l) ∙ append-nil (nine read)

            go : (m : Maybe ℕ) → m ≡ a.value.0 → StatReadAs d (with_mode_of m stat)
            go None k = λ s w p. subst Given (ap (λ (z : Trio × (Trio × Trio)). z.0.0) (alone s w p).0 ∙ ap number_of (sym k)) w.mode
            go (Some n) k = record {
              within = record { mode = subst Given (ap number_of k) tt; rows = nine_rows (stat_of stat) all.begins.within };
              bytes = nine_bytes (stat_of stat) ∙ sym bytes;
            }
