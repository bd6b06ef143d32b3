-- The root that a packet gives, and its verdict.
-- Assumes nothing.
use Prim.Native.Nat.{ℕ, zero, suc, ◌+◌, ◌-◌, ◌*◌, ◌≤◌, ◌<◌}
use mathlib.Core.Path.{◌≡◌, refl, sym, ap, ap₂, ◌∙◌, subst}
use mathlib.Core.Bool.{Bool, true, false, cond}
use mathlib.Core.List.{List, ◌∷◌, map, []}
use native.Mathlib.Omega.{arith}
use lib.Dec.{leb, ltb}
use lib.ListN.{length}
use borrow.Author.Tests.{leb-true, leb-false, le-leb, lt-leb, lt-ltb, le-ltb}
use Rattle.answer_types.specs.Verdict.{Verdict, none, done, refused, unless_refused}
use Rattle.byte_strings.specs.Lists.{part, run, total, same_list}
use Rattle.byte_strings.proofs.Lists.{length_part}
use Rattle.file_format.specs.Sizes.{most_chunks}
use Rattle.file_format.specs.Entries.{Entry, leaf}
use Rattle.checks.specs.Checks.{judged, count_right}
use Rattle.checks.proofs.Steps.{and_stop, and_pass}
use Rattle.packet.specs.Packet.{siblings, other_roots}
use Rattle.packet.specs.Check.{chunk_length, siblings_place, others_place, shape_right, packet_chunk, entry_in, entries_in, sibling_entries, other_entries}
use Rattle.packet.specs.Check.{packet_total, steps_above, steps, last_entry, packet_root, packet_root_message, root_right, packet_verdict}
use Rattle.packet.specs.Check.{checked_chunk}
use Rattle.packet.specs.Inner.{sizes_in, Summed, RowIn, OthersIn, Climbable, climbed, message_with, path_row, Handed, unhanded, handed_on, Shaped}
use Rattle.packet.proofs.Above.{few_siblings, few_others}
use Rattle.packet.proofs.Shape.{Counted, Sized, sized}
use Rattle.packet.proofs.Climb.{steps_climb}

-- ---- the sum

-- two sums, one added to the other
pub summed_over : (x y z s w : ℕ) → Summed (x + y) s → Summed (s + z) w → 68719476736 < w → 68719476736 < x + (y + z)
summed_over x y z s w a b h = pick (leb (x + (y + z)) 68719476736) refl
  where
    pick : (t : Bool) → leb (x + (y + z)) 68719476736 ≡ t → 68719476736 < x + (y + z)
    pick false e = leb-false (x + (y + z)) 68719476736 e
    pick true e =
        let l : x + (y + z) ≤ 68719476736 = leb-true (x + (y + z)) 68719476736 e in
        let f : s ≡ x + y = a.within (omega arith) in
        let g : w ≡ s + z = b.within (omega arith) in
        absurd (omega arith)

pub summed_within : (x y z s w : ℕ) → Summed (x + y) s → Summed (s + z) w → w ≤ 68719476736 → x + (y + z) ≤ 68719476736
summed_within x y z s w a b h = pick (leb (s + z) 68719476736) (leb (x + y) 68719476736) refl refl
  where
    pick : (t q : Bool) → leb (s + z) 68719476736 ≡ t → leb (x + y) 68719476736 ≡ q → x + (y + z) ≤ 68719476736
    pick false q e f = absurd (omega (arith, b.over (leb-false (s + z) 68719476736 e)))
    pick true false e f = absurd (omega (arith, a.over (leb-false (x + y) 68719476736 f), leb-true (s + z) 68719476736 e))
    pick true true e f = omega (arith, a.within (leb-true (x + y) 68719476736 f), leb-true (s + z) 68719476736 e)

pub map_run : {A B : Type 0} (g : A → B) (f : ℕ → A) (i k : ℕ) → map g (run f i k) ≡ run (λ j. g (f j)) i k
unfolding run
map_run g f i zero = refl
map_run {A} {B} g f i (suc k) = ap (λ (ys : List B). g (f i) ∷ ys) (map_run g f (suc i) k)

-- ---- the packet laid out: a chunk of l bytes, u siblings and o other roots

pub record Laid (p : List ℕ) (l u o : ℕ) : Type 0 where
  pub front : 4 ≤ length p
  pub chunk : l ≤ 65536
  pub up : u ≤ 20
  pub others : o ≤ 19
  pub whole : length p ≡ 4 + l + 1 + 40 * u + 1 + 40 * o

module _ {p : List ℕ} {n c : ℕ} (s : Shaped p n c) {l u o : ℕ} (k : Counted p n c l u o) where
  abbrev a : l ≡ chunk_length p
  a = k.long

  abbrev b : u ≡ length (siblings n c)
  b = k.up

  abbrev d : o ≡ length (other_roots n c)
  d = k.others

  pub laid : Laid p l u o
  laid =
      let z = sized p n c s.shape in
      record {
        front = z.front;
        chunk = subst (λ (x : ℕ). x ≤ 65536) (sym a) z.chunk;
        up = subst (λ (x : ℕ). x ≤ 20) (sym b) (few_siblings n c s.chunk);
        others = subst (λ (x : ℕ). x ≤ 19) (sym d) (few_others n c s.chunk);
        whole = z.whole ∙ ap₂ (λ (x y : ℕ). 4 + x + 1 + 40 * y + 1 + 40 * length (other_roots n c)) (sym a) (sym b)
            ∙ ap (λ (x : ℕ). 4 + l + 1 + 40 * u + 1 + 40 * x) (sym d);
      }

  pub siblings_row : RowIn p (4 + l + 1) u
  siblings_row = let z = laid in record { few = z.up; inside = omega arith }

  pub others_row : RowIn p (4 + l + 1 + 40 * u + 1) o
  others_row = let z = laid in record { few = omega arith; inside = omega arith }

  pub others_in : OthersIn p (4 + l + 1 + 40 * u + 1) n c
  others_in =
      let z = laid in
      record { chunk = s.chunk; inside = subst (λ (x : ℕ). 4 + l + 1 + 40 * u + 1 + 40 * x ≤ length p) d (omega arith) }

  total_is : packet_total p n c ≡ l + (total (sizes_in p (4 + l + 1) u) + total (sizes_in p (4 + l + 1 + 40 * u + 1) o))
  unfolding packet_total sibling_entries other_entries entries_in sizes_in siblings_place others_place
  total_is =
      ap₂ (λ (x y : List ℕ). chunk_length p + (total x + total y))
      (map_run (λ (e : Entry). e.size) (λ j. entry_in p (4 + chunk_length p + 1 + 40 * j)) 0 (length (siblings n c)))
      (map_run (λ (e : Entry). e.size) (λ j. entry_in p (4 + chunk_length p + 1 + 40 * length (siblings n c) + 1 + 40 * j)) 0 (length (other_roots n c)))
      ∙ ap₂ (λ (x y : ℕ). x + (total (sizes_in p (4 + x + 1) y) + total (sizes_in p (4 + x + 1 + 40 * y + 1) (length (other_roots n c))))) (sym a) (sym b)
      ∙ ap (λ (x : ℕ). l + (total (sizes_in p (4 + l + 1) u) + total (sizes_in p (4 + l + 1 + 40 * u + 1) x))) (sym d)

  module _ (F : List ℕ → List ℕ) (root : List ℕ) {sum whole : ℕ} (f : Summed (l + total (sizes_in p (4 + l + 1) u)) sum)
      (g : Summed (sum + total (sizes_in p (4 + l + 1 + 40 * u + 1) o)) whole) where
    pub sum_wrong : 68719476736 < whole → false ≡ root_right F p n c root
    unfolding root_right
    sum_wrong h =
        and_stop _ _
        (lt-leb (packet_total p n c) 68719476736
        (subst (λ (x : ℕ). 68719476736 < x) (sym total_is) (summed_over l _ _ sum whole f g h)))

    module _ (h : whole ≤ 68719476736) where
      within : l + (total (sizes_in p (4 + l + 1) u) + total (sizes_in p (4 + l + 1 + 40 * u + 1) o)) ≤ 68719476736
      within = summed_within l _ _ sum whole f g h

      chunk_is : part p 4 (4 + l - 4) ≡ packet_chunk p
      unfolding packet_chunk
      chunk_is = ap (part p 4) (let e : 4 + l - 4 ≡ l = omega arith in e ∙ a)

      module _ {e : Entry} (i : e ≡ leaf F (part p 4 (4 + l - 4))) where
        pub climbable : Climbable p (4 + l + 1) u e.size
        unfolding leaf
        climbable =
            let z = laid in
            let q : 4 + l - 4 ≡ l = omega arith in
            let m : e.size ≡ l =
            ap (λ (x : Entry). x.size) i ∙ ap (λ (x : ℕ). length (part p 4 x)) q ∙ length_part p 4 l (omega arith) in
            let w = within in
            record { row = siblings_row; sum = omega arith }

        root_is : {r : Entry} → r ≡ climbed F c e (entries_in p (4 + l + 1) u) → r ≡ packet_root F p n c
        unfolding packet_root steps last_entry sibling_entries siblings_place
        root_is j =
            j ∙ ap₂ (λ (x : Entry) (y : ℕ). climbed F c x (entries_in p (4 + y + 1) u)) (i ∙ ap (leaf F) chunk_is) a
            ∙ ap (λ (y : ℕ). climbed F c (leaf F (packet_chunk p)) (entries_in p (4 + chunk_length p + 1) y)) b
            ∙ sym (steps_climb F 0 c (leaf F (packet_chunk p)) (entries_in p (4 + chunk_length p + 1) (length (siblings n c))))

        pub root_judged : {r : Entry} → r ≡ climbed F c e (entries_in p (4 + l + 1) u) → {hash : List ℕ}
            → hash ≡ F (message_with p (4 + l + 1 + 40 * u + 1) n c r) → same_list hash root ≡ root_right F p n c root
        unfolding root_right packet_root_message message_with other_entries others_place siblings_place
        root_judged {r} j {hash} m =
            and_pass _ _ (same_list hash root)
            (le-leb (packet_total p n c) 68719476736 (subst (λ (x : ℕ). x ≤ 68719476736) (sym total_is) within))
            (ap (λ (x : List ℕ). same_list x root)
            (m ∙ ap₂ (λ (x y : ℕ). F (message_with p (4 + x + 1 + 40 * y + 1) n c r)) a b
            ∙ ap (λ (x : Entry). F (message_with p (4 + chunk_length p + 1 + 40 * length (siblings n c) + 1) n c x)) (root_is j)))

        -- what the climb from the leaf leads to
        pub led_to_lem : {row : List ℕ} → row ≡ path_row (steps_above F 0 c e (entries_in p (4 + l + 1) u)) → record { own = e; row = row } ≡ handed_on F p n c
        unfolding handed_on sibling_entries siblings_place
        led_to_lem q =
            let own : e ≡ leaf F (packet_chunk p) = i ∙ ap (leaf F) chunk_is in
            ap₂ (λ (x : Entry) (y : List ℕ). record { own = x; row = y }) own
            (q ∙ ap₂ (λ (x : Entry) (y : ℕ). path_row (steps_above F 0 c x (entries_in p (4 + y + 1) u))) own a
            ∙ ap (λ (y : ℕ). path_row (steps_above F 0 c (leaf F (packet_chunk p)) (entries_in p (4 + chunk_length p + 1) y))) b)

-- ---- the verdict

-- what is handed on, by the verdict
pub handed_by : (F : List ℕ → List ℕ) (p : List ℕ) (n c : ℕ) {v w : Verdict} {h : Handed} → v ≡ w → h ≡ unless_refused v (handed_on F p n c) unhanded
    → h ≡ unless_refused w (handed_on F p n c) unhanded
handed_by F p n c e f = f ∙ ap (λ (x : Verdict). unless_refused x (handed_on F p n c) unhanded) e

-- the four numbers in turn
abbrev ladder : Bool → Bool → Bool → Bool → Verdict
ladder a b s t = cond a (cond b (cond s (cond t done (refused 13 none)) (refused 12 none)) (refused 9 none)) (refused 2 none)

module _ (F : List ℕ → List ℕ) (p : List ℕ) (n c : ℕ) (root : List ℕ) (v : Verdict) where
  by_number : (a b s t : Bool) → count_right n ≡ a → ltb c n ≡ b → shape_right p n c ≡ s → root_right F p n c root ≡ t → v ≡ ladder a b s t
      → v ≡ packet_verdict F p n c root
  unfolding packet_verdict judged
  by_number a b s t ea eb es et e =
      e ∙ sym (ap₂ (λ (x y : Bool). ladder x y (shape_right p n c) (root_right F p n c root)) ea eb ∙ ap₂ (λ (x y : Bool). ladder a b x y) es et)

  pub verdict_2 : most_chunks < n → v ≡ refused 2 none → v ≡ packet_verdict F p n c root
  verdict_2 h e = by_number false _ _ _ (lt-leb n most_chunks h) refl refl refl e

  module _ (h : n ≤ most_chunks) where
    pub verdict_9 : n ≤ c → v ≡ refused 9 none → v ≡ packet_verdict F p n c root
    verdict_9 g e = by_number true false _ _ (le-leb n most_chunks h) (le-ltb c n g) refl refl e

    module _ (g : c < n) where
      pub verdict_12 : shape_right p n c ≡ false → v ≡ refused 12 none → v ≡ packet_verdict F p n c root
      verdict_12 k e = by_number true true false _ (le-leb n most_chunks h) (lt-ltb c n g) k refl e

      module _ (k : shape_right p n c ≡ true) where
        pub shaped : Shaped p n c
        shaped = record { chunk = record { count = h; below = g }; shape = k }

        pub verdict_13 : root_right F p n c root ≡ false → v ≡ refused 13 none → v ≡ packet_verdict F p n c root
        verdict_13 m e = by_number true true true false (le-leb n most_chunks h) (lt-ltb c n g) k m e

        pub verdict_done : root_right F p n c root ≡ true → v ≡ done → v ≡ packet_verdict F p n c root
        verdict_done m e = by_number true true true true (le-leb n most_chunks h) (lt-ltb c n g) k m e

module _ (F : List ℕ → List ℕ) (p : List ℕ) (n c : ℕ) (root : List ℕ) where
  pub checked_by : (v : Verdict) → v ≡ packet_verdict F p n c root → unless_refused v (packet_chunk p) [] ≡ checked_chunk F p n c root
  unfolding checked_chunk
  checked_by v e = ap (λ (x : Verdict). unless_refused x (packet_chunk p) []) e

  pub checked_part : (l : ℕ) → l ≡ chunk_length p → done ≡ packet_verdict F p n c root → part p 4 (4 + l - 4) ≡ checked_chunk F p n c root
  unfolding packet_chunk
  checked_part l a e = ap (part p 4) (let q : 4 + l - 4 ≡ l = omega arith in q ∙ a) ∙ checked_by done e

-- a packet that passes is long enough for its chunk
pub passed_shape : (F : List ℕ → List ℕ) (p : List ℕ) (n c : ℕ) (root : List ℕ) → done ≡ packet_verdict F p n c root → Sized p n c
unfolding packet_verdict judged
passed_shape F p n c root e = pick (count_right n) (ltb c n) (shape_right p n c) (root_right F p n c root) refl e
  where
    pick : (a b s t : Bool) → shape_right p n c ≡ s → done ≡ ladder a b s t → Sized p n c
    pick a b true t f g = sized p n c f
    pick true true false t f g = let z : ◌≡◌ {A = ℕ} 0 1 = cc in absurd (omega arith)
    pick true false false t f g = let z : ◌≡◌ {A = ℕ} 0 1 = cc in absurd (omega arith)
    pick false b false t f g = let z : ◌≡◌ {A = ℕ} 0 1 = cc in absurd (omega arith)
