-- What the calls that make a journal say, case by case. Assumes nothing.
use Prim.Native.Nat.{ℕ, ◌+◌, ◌≤◌, ◌<◌}
use native.Mathlib.Omega.{arith}
use mathlib.Core.Path.{◌≡◌, refl, sym, ap, ◌∙◌}
use mathlib.Core.Bool.{Bool, true, false}
use mathlib.Core.List.{List}
use lib.ListN.{length, take}
use lib.Dec.{leb}
use borrow.Author.Tests.{le-leb, lt-leb, lt-ltb, le-ltb, leb-true, leb-false}
use Rattle.byte_strings.specs.Lists.{put}
use Rattle.byte_strings.specs.Numbers.{be}
use Rattle.blake2b.specs.Hash.{node_hash}
use Rattle.journal.specs.Places.{length_right}
use Rattle.std.specs.Prelude.{Ok, Err, is_ok}
use Rattle.journal.specs.Reading.{Said, whether, and_then, begins, table}
use Rattle.journal.specs.declared.JournalError.TheVariants.{Length, First, Unfit}
use Rattle.journal.proofs.Answers.{then_not, then_on, right_least, right_most}
use Rattle.journal_making.specs.Making.{begin_said, fitting, room_for, put_said, end_said, sealed}

pub begin_short : (j : List ℕ) → length j < 216 → Err Length ≡ begin_said j
unfolding begin_said whether
begin_short j h = rw (lt-leb 216 (length j) h)

pub begin_done : (j : List ℕ) → 216 ≤ length j → Ok 184 ≡ begin_said j
unfolding begin_said whether
begin_done j h = rw (le-leb 216 (length j) h)

module _ (j : List ℕ) (q file kind size : ℕ) (old new : List ℕ) where
  pub put_no_file : 10 ≤ file → Err Unfit ≡ put_said j q file kind size old new
  unfolding put_said whether
  put_no_file h = rw (le-ltb file 10 h)

  module _ (h : file < 10) where
    pub put_unfit : fitting kind size (length old) (length new) ≡ false → Err Unfit ≡ put_said j q file kind size old new
    unfolding put_said whether
    put_unfit e = rw (lt-ltb file 10 h, e)

    module _ (e : fitting kind size (length old) (length new) ≡ true) where
      pub put_no_room : room_for (length j) q (length old) (length new) ≡ false → Err Length ≡ put_said j q file kind size old new
      unfolding put_said whether
      put_no_room d = rw (lt-ltb file 10 h, e, d)

      pub put_done : room_for (length j) q (length old) (length new) ≡ true → Ok (q + 18 + (length old + length new)) ≡ put_said j q file kind size old new
      unfolding put_said whether
      put_done d = rw (lt-ltb file 10 h, e, d)

module _ (j : List ℕ) (q : ℕ) where
  pub end_no_room : length j < q + 32 → Err Length ≡ end_said j q
  unfolding end_said whether
  end_no_room h = rw (lt-leb (q + 32) (length j) h)

  module _ (h : q + 32 ≤ length j) where
    pub end_length : length_right (q + 32) ≡ false → Err Length ≡ end_said j q
    unfolding end_said whether
    end_length e = rw (le-leb (q + 32) (length j) h, e)

    module _ (e : length_right (q + 32) ≡ true) where
      pub end_first : begins j ≡ false → Err First ≡ end_said j q
      unfolding end_said whether
      end_first d = rw (le-leb (q + 32) (length j) h, e, d)

      module _ (d : begins j ≡ true) where
        end_on : end_said j q ≡ and_then (table j q) (Ok (q + 32))
        unfolding end_said whether
        end_on = rw (le-leb (q + 32) (length j) h, e, d)

        pub end_table : (t : Said) → t ≡ table j q → is_ok t ≡ false → t ≡ end_said j q
        end_table t x y = x ∙ sym (end_on ∙ then_not (table j q) (Ok (q + 32)) (ap is_ok (sym x) ∙ y))

        pub end_done : (t : Said) → t ≡ table j q → is_ok t ≡ true → Ok (q + 32) ≡ end_said j q
        end_done t x y = sym (end_on ∙ then_on (table j q) (Ok (q + 32)) (ap is_ok (sym x) ∙ y))

-- what an end that is done found
pub record Ended (j : List ℕ) (q : ℕ) : Type 0 where
  pub room : q + 32 ≤ length j
  pub least : 184 ≤ q
  pub most : q + 32 ≤ 268435456
  pub first : begins j ≡ true
  pub table_done : is_ok (table j q) ≡ true
  pub says : end_said j q ≡ Ok (q + 32)

pub end_has : (j : List ℕ) (q : ℕ) → is_ok (end_said j q) ≡ true → Ended j q
end_has j q e = go (leb (q + 32) (length j)) refl (length_right (q + 32)) refl (begins j) refl (is_ok (table j q)) refl
  where
    never : {A : Type 0} (s : Said) → s ≡ end_said j q → is_ok s ≡ false → A
    never s x y = let z : false ≡ true = sym y ∙ ap is_ok x ∙ e in let w : ◌≡◌ {A = ℕ} 0 1 = cc in absurd (omega arith)

    go : (a : Bool) → leb (q + 32) (length j) ≡ a → (b : Bool) → length_right (q + 32) ≡ b → (c : Bool) → begins j ≡ c → (d : Bool) → is_ok (table j q) ≡ d → Ended j q
    go false x b y c z d w = never (Err Length) (end_no_room j q (leb-false _ _ x)) refl
    go true x false y c z d w = never (Err Length) (end_length j q (leb-true _ _ x) y) refl
    go true x true y false z d w = never (Err First) (end_first j q (leb-true _ _ x) y z) refl
    go true x true y true z false w = never (table j q) (end_table j q (leb-true _ _ x) y z (table j q) refl w) w
    go true x true y true z true w =
        record {
          room = leb-true _ _ x;
          least = let h = right_least (q + 32) y in omega arith;
          most = right_most (q + 32) y;
          first = z;
          table_done = w;
          says = sym (end_done j q (leb-true _ _ x) y z (table j q) refl w);
        }

-- the end's bytes, as they are written
pub sealed_said : (j a b long h : List ℕ) (q : ℕ) → long ≡ be 8 (q + 32) → a ≡ put j 16 long → h ≡ node_hash (take q a) → b ≡ put a q h → b ≡ sealed node_hash j q
unfolding sealed
sealed_said j a b long h q le ae he bt =
    let x : a ≡ put j 16 (be 8 (q + 32)) = ae ∙ ap (put j 16) le in
    bt ∙ ap (put a q) he ∙ ap (λ (z : List ℕ). put z q (node_hash (take q z))) x
