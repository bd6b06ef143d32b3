-- A known entry never changes. Assumes nothing.
use Prim.Native.Nat.{ℕ, ◌+◌, ◌-◌, ◌*◌, ◌/◌, ◌%◌, ◌<◌}
use mathlib.Core.Path.{◌≡◌, refl, sym, ap, ◌∙◌}
use mathlib.Core.Logic.{inl, inr}
use mathlib.Core.Bool.{Bool, true, false, ◌||◌}
use mathlib.Core.List.{List}
use native.Mathlib.Decide.{dec_lt}
use native.Mathlib.Omega.{arith}
use lib.Dec.{eqb}
use lib.ListN.{length, length-set}
use lib.Seq.{get_or-set_other}
use Rattle.answer_types.specs.Verdict.{tree, done}
use Rattle.byte_strings.specs.Lists.{part, among, Bytes}
use Rattle.byte_strings.specs.Numbers.{number}
use Rattle.byte_strings.proofs.Lists.{part_part}
use Rattle.tree_index.specs.Tree.{index}
use Rattle.bitfield.specs.Bits.{digit, bit_at, change_bit}
use Rattle.bitfield.specs.Index.{index_bytes}
use Rattle.bitfield.specs.Append.{bits_place, regenerated}
use Rattle.bitfield.specs.Image.{entry_count}
use Rattle.bitfield.specs.Release.{stored_held, clear_data_bit, released_bits}
use Rattle.bitfield.specs.Known.{stored_known}
use Rattle.bitfield.proofs.Levels.{length_index}
use Rattle.file_format.specs.Sizes.{entry_place, used_bitfield}
use Rattle.file_format.specs.Messages.{HashFunction}
use Rattle.file_format.specs.Stored.{stored_size}
use Rattle.lookup.specs.Descent.{reached}
use Rattle.copy_checks.specs.Copy.{Copy, known}
use Rattle.copy_checks.specs.Descents.{copy_to_chunk}
use Rattle.copy_checks.proofs.Steps.{Lent, Knowing}
use Rattle.copy_take_in.specs.TakeIn.{Given, brought, take_verdict, taken_in}
use Rattle.release.specs.Release.{released_register}
use Rattle.copy_lookup.proofs.AsRegister.{held_done}
use Rattle.copy_release.specs.Release.{copy_release_verdict, released_copy}
use Rattle.bitfield.proofs.StoredBits.{RoomFor}
use Rattle.theorem_taking_laws.proofs.Given.{places_of, given_keeps}
use Rattle.bitfield.proofs.Beside.{bit_beside}
use Rattle.theorem_packets_commute.proofs.Turns.{fitting, room, bit_room}
use Rattle.theorem_packets_commute.proofs.Clear.{known_after}
use Rattle.theorem_released_back.proofs.Took.{Took, took as taken}
use Rattle.theorem_released_back.proofs.Stays.{none_contradicts}
use Rattle.theorem_copies_kept.specs.Theorems.{Later, still, took, released, Stays, KnowsLong}

-- ---- a release changes no tree bit

pub known_less : (xs : List ℕ) (k : ℕ) → RoomFor xs (k / 8192) → (i : ℕ) → stored_known (released_bits xs k) i ≡ stored_known xs i
unfolding released_bits regenerated clear_data_bit change_bit stored_known bits_place bit_at
known_less xs k r i =
    let a : ℕ = 32 + 3328 * (k / 8192) in
    let ys : List ℕ = clear_data_bit xs k in
    let long : length ys ≡ length xs = length-set xs (a + k % 8192 / 8) _ in
    bit_beside ys (a + 3072) (index_bytes (part ys a 1024)) (32 + 3328 * (i / 16384) + 1024) (i % 16384)
    (elim (dec_lt (k / 8192) (i / 16384)) [ yes l ↦ inr (omega (arith, length_index (part ys a 1024))) | no l ↦ inl (omega arith) ]) (omega arith)
    ∙ ap (λ (x : ℕ). eqb (digit x (7 - i % 16384 % 8)) 1) (get_or-set_other xs (a + k % 8192 / 8) (32 + 3328 * (i / 16384) + 1024 + i % 16384 / 8) _ 0 (λ e. omega arith))

-- what a release that is done was asked
pub record Asked (c : Copy) (i : ℕ) : Type 0 where
  pub knowing : Knowing c
  pub below : i < c.n
  pub held : stored_held c.bitfield i ≡ true
  pub start : ℕ
  pub comes : copy_to_chunk c i ≡ reached i start

pub asked : (c : Copy) (i : ℕ) → copy_release_verdict c i ≡ done → Asked c i
unfolding copy_release_verdict
asked c i e = let a = held_done c i e in let h = a.1 in record { knowing = h.knows; below = h.below; held = h.held; start = a.0; comes = h.comes }

-- the entry of its data bit lies in the file
pub data_room : (c : Copy) (i : ℕ) → Lent c → i < c.n → RoomFor c.bitfield (i / 8192)
unfolding used_bitfield bits_place entry_count
data_room c i l h = omega (arith, l.bitfield)

-- ---- one call

module _ (F : List ℕ → List ℕ) (hf : HashFunction F) (c : Copy) (p : List ℕ) (i : ℕ) (root : List ℕ) (b : Bytes p) (e : take_verdict F c p i root ≡ done) where
  took_stays : (j : ℕ) → known c j ≡ true → Stays c (taken_in F c p i) j
  unfolding taken_in
  took_stays j k =
      let tk : Took F c p i = taken F c p i root e in
      let gs : List Given = brought F p c.n i in
      record {
        knows =
            known_after c.bitfield gs i (room F hf c p i tk.lent b tk.packet) (bit_room F hf c p i tk.lent b tk.packet) j
            ∙ or_right (among j (places_of gs)) (known c j) k;
        entry =
            given_keeps j (part c.tree (entry_place j) 40) c.tree gs (fitting F hf c p i tk.lent b tk.packet)
            (λ x m w. sym (none_contradicts c.tree c.bitfield gs tk.entries x m (ap (known c) w ∙ k)) ∙ ap (λ (y : ℕ). part c.tree (entry_place y) 40) w) refl;
      }
    where
      or_right : (x y : Bool) → y ≡ true → (x || y) ≡ true
      or_right true y q = refl
      or_right false y q = q

released_stays : (c : Copy) (i : ℕ) → copy_release_verdict c i ≡ done → (j : ℕ) → known c j ≡ true → Stays c (released_copy c i) j
unfolding released_copy released_register
released_stays c i e j k =
    let a = asked c i e in record { knows = known_less c.bitfield i (data_room c i a.knowing.lent a.below) j ∙ k; entry = refl }

-- ---- one after the other

module _ (F : List ℕ → List ℕ) (hf : HashFunction F) (c : Copy) where
  pub stay : (d : Copy) → Later F c d → (j : ℕ) → known c j ≡ true → Stays c d j
  stay x still j k = record { knows = k; entry = refl }
  stay x (took d p i root w b e) j k =
      let s = stay d w j k in
      let r = took_stays F hf d p i root b e j s.knows in
      record { knows = r.knows; entry = r.entry ∙ s.entry }
  stay x (released d i w e) j k =
      let s = stay d w j k in let r = released_stays d i e j s.knows in record { knows = r.knows; entry = r.entry ∙ s.entry }

  same_count : (d : Copy) → Later F c d → d.n ≡ c.n
  unfolding taken_in released_copy released_register
  same_count x still = refl
  same_count x (took d p i root w b e) = same_count d w
  same_count x (released d i w e) = same_count d w

  -- the same 40 bytes are the same length
  same_size : (t u : List ℕ) (j : ℕ) → part u (entry_place j) 40 ≡ part t (entry_place j) 40 → stored_size u j ≡ stored_size t j
  unfolding stored_size
  same_size t u j e =
      ap number (sym (part_part u (entry_place j) 40 32 8 (omega arith)) ∙ ap (λ (l : List ℕ). part l 32 8) e ∙ part_part t (entry_place j) 40 32 8 (omega arith))

  pub long_stays : (d : Copy) → Later F c d → KnowsLong c → KnowsLong d
  long_stays d w l =
      let s = stay d w (index 0 l.chunk) l.knows in
      record {
        chunk = l.chunk;
        below = omega (arith, same_count d w, l.below);
        knows = s.knows;
        long = omega (arith, same_size c.tree d.tree (index 0 l.chunk) s.entry, l.long);
      }
