-- What is put of a Stat, and when its fields are in bounds. Assumes nothing.
use Prim.Native.Nat.{ℕ, ◌+◌, ◌<◌, ◌≤◌}
use mathlib.Core.Path.{◌≡◌, sym, subst}
use mathlib.Core.Bool.{Bool, true, false}
use mathlib.Core.List.{List, ◌++◌}
use mathlib.Core.Option.{Option}
use native.Mathlib.Omega.{arith}
use lib.ListN.{length, length-append}
use Rattle.record_fields.specs.Fields.{number_field}
use Rattle.record_fields.specs.Inner.{PutAt}
use Rattle.record_fields.proofs.Unique.{number_size}
use Rattle.record_fields.proofs.Put.{put_next, put_three}
use Rattle.record_format.specs.Records.{Stat, stat_bytes}
use Rattle.record_format.specs.Post.{Decides}
use Rattle.record_format.specs.Inner.{three_fields}
use Rattle.record_format.proofs.Nine.{nine_bytes}

-- ---- whether something holds

pub yes : (W : Type 0) (r : Bool) → r ≡ true → Decides W r → W
yes W r e d = subst (Decides W) e d

pub no : (W : Type 0) (r : Bool) → r ≡ false → Decides W r → W → ⊥
no W r e d = subst (Decides W) e d

pub carried : (A W : Type 0) (r : Bool) → (A → W) → (W → A) → Decides A r → Decides W r
carried A W true f g d = f d
carried A W false f g d = λ w. d (g w)

-- ---- three fields put

three_size : (k : ℕ) (t : Option ℕ × (Option ℕ × Option ℕ)) → k < 14 → length (three_fields k t) ≤ 33
three_size k t h =
    omega (
      arith,
      length-append (number_field k t.0) (number_field (k + 1) t.1.0 ++ number_field (k + 2) t.1.1),
      length-append (number_field (k + 1) t.1.0) (number_field (k + 2) t.1.1),
      number_size k t.0 (omega arith),
      number_size (k + 1) t.1.0 (omega arith),
      number_size (k + 2) t.1.1 (omega arith),
    )

pub number_next : (k : ℕ) (o : Option ℕ) (out : List ℕ) (at next : ℕ) (after : List ℕ) → k < 16 → at + 11 ≤ length out → PutAt (number_field k o) out at next after
    → (next ≤ at + 11) × (length after ≡ length out)
number_next k o out at next after h l p = put_next 11 (number_field k o) out at next after (number_size k o h) l p

pub three_next : (k : ℕ) (t : Option ℕ × (Option ℕ × Option ℕ)) (out : List ℕ) (at next : ℕ) (after : List ℕ) → k < 14 → at + 33 ≤ length out → PutAt (three_fields k t) out at next after
    → (next ≤ at + 33) × (length after ≡ length out)
three_next k t out at next after h l p = put_next 33 (three_fields k t) out at next after (three_size k t h) l p

pub three_put : (k : ℕ) (a b c : Option ℕ) (out : List ℕ) (at second third end : ℕ) (one two after : List ℕ) → k < 14 → at + 33 ≤ length out
    → PutAt (number_field k a) out at second one → PutAt (number_field (k + 1) b) one second third two → PutAt (number_field (k + 2) c) two third end after
    → PutAt (three_fields k (a, (b, c))) out at end after
three_put k a b c out at second third end one two after h l p q r =
    put_three (number_field k a) (number_field (k + 1) b) (number_field (k + 2) c) out at second third end one two after (omega (arith, number_size k a (omega arith))) p q r

-- ---- a Stat put

pub stat_put : (s : Stat) (out : List ℕ) (fourth seventh end : ℕ) (one two after : List ℕ) → 99 ≤ length out
    → PutAt (three_fields 1 (s.mode, (s.uid, s.gid))) out 0 fourth one → PutAt (three_fields 4 (s.size, (s.blocks, s.offset))) one fourth seventh two
    → PutAt (three_fields 7 (s.byte_offset, (s.mtime, s.ctime))) two seventh end after → PutAt (stat_bytes s) out 0 end after
stat_put s out fourth seventh end one two after l p q r =
    subst (λ (bs : List ℕ). PutAt bs out 0 end after) (sym (nine_bytes s))
    (put_three (three_fields 1 (s.mode, (s.uid, s.gid))) (three_fields 4 (s.size, (s.blocks, s.offset))) (three_fields 7 (s.byte_offset, (s.mtime, s.ctime)))
    out 0 fourth seventh end one two after
    (omega (arith, three_size 1 (s.mode, (s.uid, s.gid)) (omega arith))) p q r)
