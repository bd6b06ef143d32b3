-- Writers one behind the other. Assumes nothing.
use Prim.Native.Nat.{ℕ, zero, suc, ◌+◌, ◌-◌, ◌*◌, ◌<◌, ◌≤◌}
use mathlib.Core.Path.{◌≡◌, refl, sym, ap, ap₂, ◌∙◌, subst}
use mathlib.Core.Logic.{⊎_elim}
use mathlib.Core.List.{List, [], ◌∷◌, ◌++◌, append_assoc, append-nil}
use native.Mathlib.Omega.{arith}
use native.Mathlib.Numerals.{add-one}
use native.Mathlib.Nat.{zero-add}
use lib.ListN.{length, get_or, set, drop, replicate, length-set, length-append, length-drop}
use lib.Seq.{get_or-set_same, get_or-set_other, set_at}
use Rattle.std.specs.Prelude.{Option as Maybe, None, Some}
use Rattle.byte_strings.specs.Lists.{run}
use Rattle.byte_strings.proofs.Lists.{run_suc, run_ext, length_run}
use Rattle.record_fields.specs.Reading.{BeginsNot}
use Rattle.record_fields.specs.Fields.{given_field, Later}
use Rattle.record_fields.specs.Inner.{head_of}
use Rattle.record_fields.proofs.Digits.{two}
use Rattle.record_format.specs.Records.{Writer, WriterWithin, writer_bytes, writers_bytes, WritersWithin}
use Rattle.record_format.proofs.Unique.{later_untagged, writer_tag, first_same, writers_unique}
use Rattle.record_node.specs.Post.{writer_of, no_writer, WriterInside, writer_placed, writers_placed}
use Rattle.record_node.specs.Inner.{OneAt, OneOrNone, OneRead, WritersFew, WritersUpto}
use Rattle.record_node.specs.declared.writers.Writer.{Writer as CodeWriter}
use Rattle.record_node.specs.declared.writers.Writers.{Writers}

-- ---- rows of Writers

-- as many as are counted are within the bounds, each by itself
within_run : (f : ℕ → Writer) (i k : ℕ) → ((j : ℕ) → j < k → WriterWithin (f (i + j))) → WritersWithin (run f i k)
unfolding run WritersWithin
within_run f i zero h = tt
within_run f i (suc k) h =
    let first : i + 0 ≡ i = omega arith in (
      subst (λ (n : ℕ). WriterWithin (f n)) first (h 0 (omega arith)),
      within_run f (suc i) k (λ j l. let n : i + suc j ≡ suc i + j = omega arith in subst (λ (m : ℕ). WriterWithin (f m)) n (h (suc j) (omega arith))),
    )

run_within : (f : ℕ → Writer) (i k : ℕ) → WritersWithin (run f i k) → (j : ℕ) → j < k → WriterWithin (f (i + j))
unfolding run WritersWithin
run_within f i zero w j h = absurd (omega arith)
run_within f i (suc k) w zero h = let first : i ≡ i + 0 = omega arith in subst (λ (n : ℕ). WriterWithin (f n)) first w.0
run_within f i (suc k) w (suc j) h =
    let n : suc i + j ≡ i + suc j = omega arith in
    subst (λ (m : ℕ). WriterWithin (f m)) n (run_within f (suc i) k w.1 j (omega arith))

pub within_all : (f : ℕ → Writer) (k : ℕ) → ((j : ℕ) → j < k → WriterWithin (f j)) → WritersWithin (run f 0 k)
within_all f k h = within_run f 0 k (λ j l. subst (λ (n : ℕ). WriterWithin (f n)) (sym (zero-add j)) (h j l))

pub all_within : (f : ℕ → Writer) (k : ℕ) → WritersWithin (run f 0 k) → (j : ℕ) → j < k → WriterWithin (f j)
all_within f k w j h = subst (λ (n : ℕ). WriterWithin (f n)) (zero-add j) (run_within f 0 k w j h)

run_last : (f : ℕ → Writer) (k : ℕ) → run f 0 (suc k) ≡ run f 0 k ++ (f k ∷ [])
run_last f k = run_suc f 0 k ∙ ap (λ (n : ℕ). run f 0 k ++ (f n ∷ [])) (zero-add k)

writers_snoc : (ws : List Writer) (w : Writer) → writers_bytes (ws ++ (w ∷ [])) ≡ writers_bytes ws ++ given_field 4 (writer_bytes w)
unfolding writers_bytes
writers_snoc [] w = append-nil (given_field 4 (writer_bytes w))
writers_snoc (v ∷ ws) w =
    ap (λ (r : List ℕ). given_field 4 (writer_bytes v) ++ r) (writers_snoc ws w) ∙ sym (append_assoc (given_field 4 (writer_bytes v)) (writers_bytes ws) (given_field 4 (writer_bytes w)))

-- one more
pub writers_next : (f : ℕ → Writer) (k : ℕ) → writers_bytes (run f 0 (k + 1)) ≡ writers_bytes (run f 0 k) ++ given_field 4 (writer_bytes (f k))
writers_next f k =
    ap (λ (n : ℕ). writers_bytes (run f 0 n)) (add-one k) ∙ ap writers_bytes (run_last f k) ∙ writers_snoc (run f 0 k) (f k)

-- how many bytes they take at most
pub writers_size : (f : ℕ → Writer) (k : ℕ) → ((j : ℕ) → j < k → length (given_field 4 (writer_bytes (f j))) ≤ 81) → length (writers_bytes (run f 0 k)) ≤ 81 * k
unfolding run writers_bytes
writers_size f zero h = omega arith
writers_size f (suc k) h =
    omega (
      arith,
      ap length (ap writers_bytes (run_last f k) ∙ writers_snoc (run f 0 k) (f k)),
      length-append (writers_bytes (run f 0 k)) (given_field 4 (writer_bytes (f k))),
      h k (omega arith),
      writers_size f k (λ j l. h j (omega arith)),
    )

-- ---- what may be read

-- where no row of Writers follows, none that begins with others does
writers_not : (ws : List Writer) (s : List ℕ) → WritersWithin ws → BeginsNot writers_bytes WritersWithin (Later 4) s → BeginsNot writers_bytes WritersWithin (Later 4) (writers_bytes ws ++ s)
unfolding writers_bytes WritersWithin
writers_not [] s g n vs t h f e = n vs t h f e
writers_not (w ∷ ws) s g n [] t h f e = later_untagged t f (ap (λ (x : List ℕ). get_or x 0 256) (sym e) ∙ writer_tag w ws s)
writers_not (w ∷ ws) s g n (v ∷ vs) t h f e = writers_not ws s g.1 n vs t h.1 f (first_same w v ws vs s t g.0 h.0 e).1

-- where one more follows, no row of as many does
writers_more : (ws vs : List Writer) (s t : List ℕ) → WritersWithin ws → WritersWithin vs → get_or s 0 256 ≡ 34 → Later 4 t → length vs ≤ length ws
    → writers_bytes ws ++ s ≡ writers_bytes vs ++ t → ⊥
unfolding writers_bytes WritersWithin
writers_more [] [] s t g h q f l e = later_untagged t f (ap (λ (x : List ℕ). get_or x 0 256) (sym e) ∙ q)
writers_more [] (v ∷ vs) s t g h q f l e = omega arith
writers_more (w ∷ ws) [] s t g h q f l e = later_untagged t f (ap (λ (x : List ℕ). get_or x 0 256) (sym e) ∙ writer_tag w ws s)
writers_more (w ∷ ws) (v ∷ vs) s t g h q f l e = writers_more ws vs s t g.1 h.1 q f (omega arith) (first_same w v ws vs s t g.0 h.0 e).1

-- ---- the loop: so many were read

abbrev pub listed : List ℕ → List CodeWriter → ℕ → Writer
listed d list j = writer_of d (get_or list j no_writer)

pub record Grown (d : List ℕ) (at : ℕ) (list : List CodeWriter) (count next : ℕ) : Type 0 where
  pub few : count ≤ 8
  pub size : length list ≡ 8
  pub inside : (j : ℕ) → j < count → WriterInside d (get_or list j no_writer)
  pub within : (j : ℕ) → j < count → WriterWithin (listed d list j)
  pub made : drop at d ≡ writers_bytes (run (listed d list) 0 count) ++ drop next d
  pub ends : next ≤ length d
  pub reached : next ≡ at + length (writers_bytes (run (listed d list) 0 count))
  pub placed : list ≡ writers_placed at (run (listed d list) 0 count) ++ replicate (8 - count) no_writer

pub grown_none : {d : List ℕ} {at : ℕ} {w : CodeWriter} → w ≡ no_writer → at ≤ length d → Grown d at (replicate 8 w) 0 at
unfolding run writers_bytes writers_placed
grown_none e h = record {
  few = omega arith;
  size = refl;
  inside = λ j l. absurd (omega arith);
  within = λ j l. absurd (omega arith);
  made = refl;
  ends = h;
  reached = omega arith;
  placed = ap (replicate 8) e;
}

-- one more behind others, and its place
pub placed_length : (at : ℕ) (ws : List Writer) → length (writers_placed at ws) ≡ length ws
unfolding writers_placed
placed_length at [] = refl
placed_length at (w ∷ ws) = ap suc (placed_length (at + length (given_field 4 (writer_bytes w))) ws)

placed_snoc : (at : ℕ) (ws : List Writer) (w : Writer) → writers_placed at (ws ++ (w ∷ [])) ≡ writers_placed at ws ++
    (writer_placed (at + length (writers_bytes ws) + length (head_of 4 (writer_bytes w))) w ∷ [])
unfolding writers_placed writers_bytes
placed_snoc at [] w = let e : at ≡ at + 0 = omega arith in ap (λ (n : ℕ). writer_placed (n + length (head_of 4 (writer_bytes w))) w ∷ []) e
placed_snoc at (v ∷ ws) w =
    let field = given_field 4 (writer_bytes v) in
    let e : at + length field + length (writers_bytes ws) ≡ at + length (field ++ writers_bytes ws) = omega (arith, length-append field (writers_bytes ws)) in
    ap (λ (xs : List CodeWriter). writer_placed (at + length (head_of 4 (writer_bytes v))) v ∷ xs)
    (placed_snoc (at + length field) ws w ∙ ap (λ (n : ℕ). writers_placed (at + length field) ws ++ (writer_placed (n + length (head_of 4 (writer_bytes w))) w ∷ [])) e)

nobody_more : (n : ℕ) → n < 8 → replicate (8 - n) no_writer ≡ no_writer ∷ replicate (8 - (n + 1)) no_writer
nobody_more n h = let e : 8 - n ≡ suc (8 - (n + 1)) = omega arith in ap (λ (m : ℕ). replicate m no_writer) e

pub one_there : (d : List ℕ) (at next : ℕ) {v : Maybe CodeWriter} {w : CodeWriter} → v ≡ Some w → OneOrNone d at v next → OneAt d at w next
one_there d at next e o = subst (λ (x : Maybe CodeWriter). OneOrNone d at x next) e o

module _ {d : List ℕ} {at : ℕ} {list : List CodeWriter} {count next : ℕ} (g : Grown d at list count next) where
  ws : List Writer
  ws = run (listed d list) 0 count

  ws_within : WritersWithin ws
  unfolding ws
  ws_within = within_all (listed d list) count g.within

  ws_few : length ws ≤ 8
  unfolding ws
  ws_few = omega (arith, length_run (listed d list) 0 count, g.few)

  -- a field that is none
  pub grown_bad : OneRead d next None → BeginsNot writers_bytes WritersFew (Later 4) (drop at d)
  unfolding ws
  grown_bad o vs t w f p = writers_not ws (drop next d) ws_within o vs t w.0 f (sym g.made ∙ p)

  -- no more
  pub grown_end : {v : Maybe CodeWriter} (end : ℕ) → v ≡ None → OneOrNone d next v end → WritersUpto d at (record { count = count; list = list }) next
  unfolding ws
  grown_end end e o = record {
    inside = record { count = g.few; each = g.inside };
    read = record {
      begins = record {
        made = g.made;
        within = (ws_within, ws_few);
        only = λ vs t w f p. writers_unique vs ws t (drop next d) w.0 ws_within (later_untagged t f) (subst (λ (x : Maybe CodeWriter). OneOrNone d next x end) e o) (sym p ∙ g.made);
      };
      inside = g.ends;
    };
    placed =
        ap₂ {C = Writers} (λ (n : ℕ) (xs : List CodeWriter). record { count = n; list = xs }) (sym many) (g.placed ∙ ap (λ (n : ℕ). writers_placed at ws ++ replicate (8 - n) no_writer) (sym many));
  }
    where
      many : length (run (listed d list) 0 count) ≡ count
      many = length_run (listed d list) 0 count

  module _ {w : CodeWriter} {end : ℕ} (one : OneAt d next w end) where
    tagged : get_or (drop next d) 0 256 ≡ 34
    unfolding writers_bytes
    tagged =
        ap (λ (s : List ℕ). get_or s 0 256) (one.made ∙ ap (λ (s : List ℕ). s ++ drop end d) (sym (append-nil (given_field 4 (writer_bytes (writer_of d w))))))
        ∙ writer_tag (writer_of d w) [] (drop end d)

    -- one too many
    pub grown_ninth : count ≡ 8 → BeginsNot writers_bytes WritersFew (Later 4) (drop at d)
    unfolding ws
    grown_ninth c vs t v f p =
        writers_more ws vs (drop next d) t ws_within v.0 tagged f (omega (arith, v.1, length_run (listed d list) 0 count)) (sym g.made ∙ p)

    -- one more
    module _ (room : count ≡ 8 → ⊥) where
      below : count < length list
      below = omega (arith, g.few, g.size, room)

      same : get_or (set list count w) count no_writer ≡ w
      same = get_or-set_same list count w no_writer below

      others : (j : ℕ) → j < count → get_or (set list count w) j no_writer ≡ get_or list j no_writer
      others j l = get_or-set_other list count j w no_writer (λ q. omega (arith, q))

      each : (P : CodeWriter → Type 0) → P w → ((j : ℕ) → j < count → P (get_or list j no_writer)) → (j : ℕ) → j < count + 1 → P (get_or (set list count w) j no_writer)
      each P p h j l =
          ⊎_elim (λ (a : j < count). subst P (sym (others j a)) (h j a))
          (λ (b : count ≤ j). let q : count ≡ j = omega arith in subst (λ (n : ℕ). P (get_or (set list count w) n no_writer)) q (subst P (sym same) p)) (two j count)

      one_more_lem : run (listed d (set list count w)) 0 (count + 1) ≡ ws ++ (writer_of d w ∷ [])
      unfolding ws
      one_more_lem =
          ap (run (listed d (set list count w)) 0) (add-one count) ∙ run_last (listed d (set list count w)) count
          ∙ ap (λ (xs : List Writer). xs ++ (listed d (set list count w) count ∷ []))
          (run_ext (listed d (set list count w)) (listed d list) 0 count (λ j a b. ap (writer_of d) (others j (omega (arith, b)))))
          ∙ ap (λ (x : CodeWriter). run (listed d list) 0 count ++ (writer_of d x ∷ [])) same

      bytes : writers_bytes (run (listed d (set list count w)) 0 (count + 1)) ≡ writers_bytes ws ++ given_field 4 (writer_bytes (writer_of d w))
      bytes = ap writers_bytes one_more_lem ∙ writers_snoc ws (writer_of d w)

      field : List ℕ
      field = given_field 4 (writer_bytes (writer_of d w))

      further : end ≡ next + length field
      unfolding field
      further =
          omega (arith, one.ends, g.ends, ap length one.made, length-append field (drop end d), length-drop next d, length-drop end d)

      ended : end ≡ at + length (writers_bytes (run (listed d (set list count w)) 0 (count + 1)))
      unfolding ws field
      ended = omega (arith, further, g.reached, ap length bytes, length-append (writers_bytes ws) field)

      front_long : length (writers_placed at ws) ≡ count
      unfolding ws
      front_long = placed_length at ws ∙ length_run (listed d list) 0 count

      put_there : set list count w ≡ writers_placed at (run (listed d (set list count w)) 0 (count + 1)) ++ replicate (8 - (count + 1)) no_writer
      unfolding ws
      put_there =
          ap (λ (xs : List CodeWriter). set xs count w) (g.placed ∙ ap (λ (xs : List CodeWriter). writers_placed at ws ++ xs) (nobody_more count (omega (arith, below, g.size))))
          ∙ set_at (writers_placed at ws) no_writer (replicate (8 - (count + 1)) no_writer) w count front_long
          ∙ sym (append_assoc (writers_placed at ws) (w ∷ []) (replicate (8 - (count + 1)) no_writer))
          ∙ ap (λ (x : CodeWriter). (writers_placed at ws ++ (x ∷ [])) ++ replicate (8 - (count + 1)) no_writer)
          (one.placed ∙ ap (λ (n : ℕ). writer_placed (n + length (head_of 4 (writer_bytes (writer_of d w)))) (writer_of d w)) g.reached)
          ∙ ap (λ (xs : List CodeWriter). xs ++ replicate (8 - (count + 1)) no_writer) (sym (placed_snoc at ws (writer_of d w)) ∙ ap (writers_placed at) (sym one_more_lem))

      pub grown_more : Grown d at (set list count w) (count + 1) end
      unfolding ws
      grown_more = record {
        few = omega (arith, g.few, room);
        size = length-set list count w ∙ g.size;
        inside = each (WriterInside d) one.inside g.inside;
        within = each (λ x. WriterWithin (writer_of d x)) one.within g.within;
        made =
            g.made ∙ ap (λ (s : List ℕ). writers_bytes ws ++ s) one.made
            ∙ sym (append_assoc (writers_bytes ws) (given_field 4 (writer_bytes (writer_of d w))) (drop end d)) ∙ ap (λ (s : List ℕ). s ++ drop end d) (sym bytes);
        ends = one.ends;
        reached = ended;
        placed = put_there;
      }
