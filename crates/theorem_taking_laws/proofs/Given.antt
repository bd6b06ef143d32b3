-- What given entries leave of the files that they are written into, in any order. Assumes nothing.
use Prim.Native.Nat.{ℕ, ◌+◌, ◌/◌, ◌≤◌, ◌<◌}
use mathlib.Core.Path.{◌≡◌, refl, sym, ap, ap₂, ◌∙◌, subst}
use mathlib.Core.Logic.{◌⊎◌, inl, inr, ⊎_elim}
use mathlib.Core.Bool.{Bool, true, false, ◌||◌}
use mathlib.Core.List.{List, [], ◌∷◌, map}
use native.Mathlib.Decide.{dec_lt}
use native.Mathlib.Omega.{arith}
use borrow.Author.Tests.{eqb-true, eq-eqb}
use lib.Dec.{eqb}
use lib.Arith.{lt_of_le-ne}
use lib.ListN.{length, take, drop}
use Rattle.byte_strings.specs.Lists.{part, put, among}
use Rattle.byte_strings.proofs.Lists.{length_put, take_put, drop_put, part_put, part_put_before, part_put_behind}
use Rattle.byte_strings.proofs.Bools.{or_true}
use Rattle.bitfield.specs.Release.{stored_held}
use Rattle.bitfield.specs.Known.{stored_known, held_again}
use Rattle.bitfield.proofs.Levels.{same_or}
use Rattle.file_format.specs.Sizes.{entry_place}
use Rattle.file_format.specs.Entries.{entry_bytes}
use Rattle.copy_take_in.specs.TakeIn.{Given, with_given, with_known}
use Rattle.byte_strings.proofs.Members.{In, in_map, map_in}
use Rattle.bitfield.proofs.Beside.{puts_turn}
use Rattle.bitfield.proofs.StoredBits.{RoomFor, length_tree_bits, front_tree_bits, known_bits_lem, held_bits_lem, tree_bits_turn, tree_bits_held}

abbrev pub bytes_for : Given → List ℕ
bytes_for g = entry_bytes g.entry

abbrev pub places_of : List Given → List ℕ
places_of gs = map (λ (g : Given). g.at) gs

-- an entry of 40 bytes that has its place in the tree file
pub record Fitting (t : List ℕ) (g : Given) : Type 0 where
  pub inside : entry_place g.at + 40 ≤ length t
  pub long : length (bytes_for g) ≡ 40

abbrev pub AllFitting : List ℕ → List Given → Type 0
AllFitting t gs = (g : Given) → In g gs → Fitting t g

-- ---- among, as membership

pub among_in : (i : ℕ) (is : List ℕ) → among i is ≡ true → In i is
unfolding among In
among_in i [] e = absurd (let z : ◌≡◌ {A = ℕ} 0 1 = cc in omega arith)
among_in i (j ∷ is) e = pick (eqb i j) refl e (among_in i is)
  where
    pick : (b : Bool) → eqb i j ≡ b → (b || among i is) ≡ true → (among i is ≡ true → In i is) → (j ≡ i) ⊎ In i is
    pick true f g rec = inl (sym (eqb-true i j f))
    pick false f g rec = inr (rec g)

pub in_among : (i : ℕ) (is : List ℕ) → In i is → among i is ≡ true
unfolding among In
in_among i [] h = absurd h
in_among i (j ∷ is) (inl e) = ap (λ (b : Bool). b || among i is) (eq-eqb i j (sym e))
in_among i (j ∷ is) (inr m) = ap (λ (b : Bool). eqb i j || b) (in_among i is m) ∙ or_true (eqb i j)

-- ---- the tree file

abbrev written : List ℕ → Given → List ℕ
written t g = put t (entry_place g.at) (bytes_for g)

module _ (t : List ℕ) (g : Given) (f : Fitting t g) where
  length_written : length (written t g) ≡ length t
  length_written = length_put t (entry_place g.at) (bytes_for g) (omega (arith, f.inside, f.long))

  still_fitting : (h : Given) → Fitting t h → Fitting (written t g) h
  still_fitting h w = record { inside = subst (λ (l : ℕ). entry_place h.at + 40 ≤ l) (sym length_written) w.inside; long = w.long }

  written_here : (i : ℕ) → g.at ≡ i → part (written t g) (entry_place i) 40 ≡ bytes_for g
  written_here i e =
      ap (λ (j : ℕ). part (written t g) (entry_place j) 40) (sym e)
      ∙ part_put t (entry_place g.at) 40 (bytes_for g) f.long (omega (arith, f.inside))

  written_there : (i : ℕ) → (g.at ≡ i → ⊥) → part (written t g) (entry_place i) 40 ≡ part t (entry_place i) 40
  unfolding entry_place
  written_there i n =
      let l = f.long in
      let r = f.inside in
      elim (dec_lt g.at i) [
        | yes h ↦ part_put_behind t (entry_place g.at) (bytes_for g) (entry_place i) 40 (omega arith) (omega arith)
        | no h ↦
            let k : i < g.at = lt_of_le-ne (omega arith) (λ e. n (sym e)) in
            part_put_before t (entry_place g.at) (bytes_for g) (entry_place i) 40 (omega arith) (omega arith)
      ]

-- two entries at different places, or the same entry twice
written_turn : (t : List ℕ) (g h : Given) → Fitting t g → Fitting t h → (g.at ≡ h.at → bytes_for g ≡ bytes_for h)
    → written (written t g) h ≡ written (written t h) g
unfolding entry_place
written_turn t g h f w same =
    let a = f.long in
    let b = w.long in
    let r = f.inside in
    let s = w.inside in
    ⊎_elim
    (λ e. ap₂ (λ (x : ℕ) (y : List ℕ). put (put t (entry_place g.at) (bytes_for g)) (entry_place x) y) (sym e) (sym (same e))
    ∙ ap₂ (λ (x : ℕ) (y : List ℕ). put (put t (entry_place x) y) (entry_place g.at) (bytes_for g)) e (same e))
    (λ n. puts_turn t (entry_place g.at) (bytes_for g) (entry_place h.at) (bytes_for h)
    (elim (dec_lt g.at h.at) [
      | yes l ↦ inl (omega arith)
      | no l ↦ let k : h.at < g.at = lt_of_le-ne (omega arith) (λ e. n (sym e)) in inr (omega arith)
    ]) (omega arith) (omega arith))
    (same_or g.at h.at)

later : (t : List ℕ) (g : Given) (gs : List Given) → AllFitting t (g ∷ gs) → AllFitting (written t g) gs
unfolding In
later t g gs f h m = still_fitting t g (f g (inl refl)) h (f h (inr m))

pub length_given : (t : List ℕ) (gs : List Given) → AllFitting t gs → length (with_given t gs) ≡ length t
unfolding with_given In
length_given t [] f = refl
length_given t (g ∷ gs) f = length_given (written t g) gs (later t g gs f) ∙ length_written t g (f g (inl refl))

pub still_given : (t : List ℕ) (gs hs : List Given) → AllFitting t gs → AllFitting t hs → AllFitting (with_given t gs) hs
still_given t gs hs f w h m =
    record { inside = subst (λ (l : ℕ). entry_place h.at + 40 ≤ l) (sym (length_given t gs f)) (w h m).inside; long = (w h m).long }

-- the header stays, and what lies behind all of the entries
pub front_given : (t : List ℕ) (gs : List Given) → AllFitting t gs → take 32 (with_given t gs) ≡ take 32 t
unfolding with_given In entry_place
front_given t [] f = refl
front_given t (g ∷ gs) f =
    front_given (written t g) gs (later t g gs f)
    ∙ take_put 32 t (entry_place g.at) (bytes_for g) (omega arith) (omega (arith, (f g (inl refl)).inside))

pub behind_given : (m : ℕ) (t : List ℕ) (gs : List Given) → AllFitting t gs → ((g : Given) → In g gs → entry_place g.at + 40 ≤ m)
    → drop m (with_given t gs) ≡ drop m t
unfolding with_given In
behind_given m t [] f b = refl
behind_given m t (g ∷ gs) f b =
    behind_given m (written t g) gs (later t g gs f) (λ h l. b h (inr l))
    ∙ drop_put m t (entry_place g.at) (bytes_for g) (omega (arith, (f g (inl refl)).long, b g (inl refl))) (omega (arith, (f g (inl refl)).inside))

-- the entry at an index, where all that is given for it is the same
abbrev pub AllSaying : ℕ → List ℕ → List Given → Type 0
AllSaying i x gs = (g : Given) → In g gs → g.at ≡ i → bytes_for g ≡ x

module _ (i : ℕ) (x : List ℕ) where
  written_keeps : (t : List ℕ) (g : Given) → Fitting t g → (g.at ≡ i → bytes_for g ≡ x) → part t (entry_place i) 40 ≡ x
      → part (written t g) (entry_place i) 40 ≡ x
  written_keeps t g f s e = ⊎_elim (λ p. written_here t g f i p ∙ s p) (λ p. written_there t g f i p ∙ e) (same_or g.at i)

  -- it stays what it was
  pub given_keeps : (t : List ℕ) (gs : List Given) → AllFitting t gs → AllSaying i x gs → part t (entry_place i) 40 ≡ x
      → part (with_given t gs) (entry_place i) 40 ≡ x
  unfolding with_given In
  given_keeps t [] f s e = e
  given_keeps t (g ∷ gs) f s e =
      given_keeps (written t g) gs (later t g gs f) (λ h m. s h (inr m)) (written_keeps t g (f g (inl refl)) (s g (inl refl)) e)

  -- or becomes what is given
  pub given_gives : (t : List ℕ) (gs : List Given) → AllFitting t gs → AllSaying i x gs → In i (places_of gs)
      → part (with_given t gs) (entry_place i) 40 ≡ x
  unfolding with_given In
  given_gives t [] f s m = absurd m
  given_gives t (g ∷ gs) f s (inl e) =
      given_keeps (written t g) gs (later t g gs f) (λ h m. s h (inr m)) (written_here t g (f g (inl refl)) i e ∙ s g (inl refl) e)
  given_gives t (g ∷ gs) f s (inr m) = given_gives (written t g) gs (later t g gs f) (λ h l. s h (inr l)) m

-- any other entry stays
pub given_other : (t : List ℕ) (gs : List Given) (i : ℕ) → AllFitting t gs → (In i (places_of gs) → ⊥)
    → part (with_given t gs) (entry_place i) 40 ≡ part t (entry_place i) 40
given_other t gs i f n =
    given_keeps i (part t (entry_place i) 40) t gs f
    (λ g m e. absurd (n (subst (λ (j : ℕ). In j (places_of gs)) e (map_in (λ (h : Given). h.at) g gs m)))) refl

-- two lists that agree wherever they meet
abbrev pub Agree : List Given → List Given → Type 0
Agree gs hs = (g h : Given) → In g gs → In h hs → g.at ≡ h.at → bytes_for g ≡ bytes_for h

one_turn : (t : List ℕ) (g : Given) (hs : List Given) → Fitting t g → AllFitting t hs
    → ((h : Given) → In h hs → g.at ≡ h.at → bytes_for g ≡ bytes_for h) → written (with_given t hs) g ≡ with_given (written t g) hs
unfolding with_given In
one_turn t g [] f w s = refl
one_turn t g (h ∷ hs) f w s =
    one_turn (written t h) g hs (still_fitting t h (w h (inl refl)) g f) (later t h hs w) (λ k m. s k (inr m))
    ∙ ap (λ (u : List ℕ). with_given u hs) (written_turn t h g (w h (inl refl)) f (λ e. sym (s h (inl refl) (sym e))))

-- are written in any order
pub given_turn : (t : List ℕ) (gs hs : List Given) → AllFitting t gs → AllFitting t hs → Agree gs hs
    → with_given (with_given t gs) hs ≡ with_given (with_given t hs) gs
unfolding with_given In
given_turn t [] hs f w s = refl
given_turn t (g ∷ gs) hs f w s =
    given_turn (written t g) gs hs (later t g gs f) (λ h m. still_fitting t g (f g (inl refl)) h (w h m)) (λ k h m l. s k h (inr m) l)
    ∙ ap (λ (u : List ℕ). with_given u gs) (sym (one_turn t g hs (f g (inl refl)) w (λ h m. s g h (inl refl) m)))

-- ---- the bitfield file

-- their tree bits lie in the file
abbrev pub AllRoom : List ℕ → List Given → Type 0
AllRoom bits gs = (g : Given) → In g gs → RoomFor bits (g.at / 16384)

rooms : (bits : List ℕ) (gs : List Given) → AllRoom bits gs → (i : ℕ) → In i (places_of gs) → RoomFor bits (i / 16384)
rooms bits gs r i m =
    let q = in_map (λ (g : Given). g.at) i gs m in subst (λ (j : ℕ). RoomFor bits (j / 16384)) q.2 (r q.0 q.1)

module _ (bits : List ℕ) (gs : List Given) where
  pub length_known : length (with_known bits gs) ≡ length bits
  unfolding with_known
  length_known = length_tree_bits bits (places_of gs)

  pub front_known : take 32 (with_known bits gs) ≡ take 32 bits
  unfolding with_known
  front_known = front_tree_bits bits (places_of gs)

  pub known_given : AllRoom bits gs → (i : ℕ) → stored_known (with_known bits gs) i ≡ (among i (places_of gs) || stored_known bits i)
  unfolding with_known
  known_given r i = known_bits_lem bits (places_of gs) (rooms bits gs r) i

  pub held_given : (k : ℕ) → stored_held (with_known bits gs) k ≡ stored_held bits k
  unfolding with_known
  held_given k = held_bits_lem bits (places_of gs) k

  pub known_turn : (hs : List Given) → with_known (with_known bits gs) hs ≡ with_known (with_known bits hs) gs
  unfolding with_known
  known_turn hs = tree_bits_turn bits (places_of gs) (places_of hs)

  pub known_held : (k : ℕ) → RoomFor bits (k / 8192) → AllRoom bits gs → held_again (with_known bits gs) k ≡ with_known (held_again bits k) gs
  unfolding with_known
  known_held k s r = tree_bits_held bits (places_of gs) k s (rooms bits gs r)
