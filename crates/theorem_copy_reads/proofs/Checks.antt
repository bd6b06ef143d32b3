-- Two copies that differ in their tree files alone, and there in no known entry: hashes and lengths of known entries, and the checks of a call. Assumes nothing.
use Prim.Native.Nat.{ℕ, zero, suc, ◌+◌, ◌<◌}
use mathlib.Core.Path.{◌≡◌, refl, sym, ap, ◌∙◌}
use mathlib.Core.Bool.{Bool, true, false, cond}
use mathlib.Core.List.{List, [], ◌∷◌}
use native.Mathlib.Nat.{add-zero}
use native.Mathlib.Omega.{arith}
use lib.Dec.{eqb}
use lib.ListN.{length, get_or, take}
use Rattle.answer_types.specs.Verdict.{Verdict, tree}
use Rattle.byte_strings.specs.Lists.{part, total, same_list}
use Rattle.byte_strings.specs.Numbers.{number}
use Rattle.byte_strings.specs.Lowest.{Lowest, nowhere, first}
use Rattle.byte_strings.proofs.Lists.{part_part}
use Rattle.tree_index.specs.Tree.{filled, roots}
use Rattle.tree_index.proofs.Roots.{root_filled}
use Rattle.bitfield.specs.Known.{stored_known}
use Rattle.file_format.specs.Headers.{tree_header, bitfield_header}
use Rattle.file_format.specs.Sizes.{entry_place, used_tree, used_bitfield}
use Rattle.file_format.specs.Stored.{stored_hash, stored_size, stored_root_sizes}
use Rattle.file_format.proofs.Spans.{map_ext}
use Rattle.checks.specs.Checks.{Check, judged, count_right, holds, headed, adds_up}
use Rattle.audit.specs.Audit.{refused_at}
use Rattle.lookup.specs.Unknown.{first_unknown}
use Rattle.copy_checks.specs.Copy.{Copy, copy_of}
use Rattle.copy_checks.specs.Checks.{lent_checks, unknown_root, size_check, passed_over, copy_judged, partly_judged}

-- tree files that agree on what the bits make known
pub record Agreed (t u bits : List ℕ) (n : ℕ) : Type 0 where
  pub long : holds t (used_tree n) ≡ holds u (used_tree n)
  pub header : take 32 t ≡ take 32 u
  pub entries : (i : ℕ) → filled n i ≡ true → stored_known bits i ≡ true → part t (entry_place i) 40 ≡ part u (entry_place i) 40

-- what comes behind 20
unknown_same : (l : Lowest) (x y : Verdict) → (l ≡ nowhere → x ≡ y) → refused_at 20 tree l x ≡ refused_at 20 tree l y
unfolding refused_at
unknown_same nowhere x y h = h refl
unknown_same (first i) x y h = refl

-- where none is unknown each is known
pub each_known : (f : ℕ → Bool) (is : List ℕ) → first_unknown f is ≡ nowhere → (j : ℕ) → j < length is → f (get_or is j 0) ≡ true
unfolding first_unknown
each_known f [] e j h = absurd (omega arith)
each_known f (i ∷ is) e j h = pick (f i) refl e j h (each_known f is)
  where
    pick : (b : Bool) → f i ≡ b → cond b (first_unknown f is) (first i) ≡ nowhere → (j : ℕ) → j < suc (length is)
        → (first_unknown f is ≡ nowhere → (j : ℕ) → j < length is → f (get_or is j 0) ≡ true) → f (get_or (i ∷ is) j 0) ≡ true
    pick true p q zero l rec = p
    pick true p q (suc m) l rec = rec q m (omega arith)
    pick false p q m l rec = let z : ◌≡◌ {A = ℕ} 0 1 = cc in absurd (omega arith)

module _ (t u bits : List ℕ) (n : ℕ) (g : Agreed t u bits n) where
  pub hash_same : (i : ℕ) → filled n i ≡ true → stored_known bits i ≡ true → stored_hash t i ≡ stored_hash u i
  unfolding stored_hash
  hash_same i f k = sym (front t) ∙ ap (λ (l : List ℕ). part l 0 32) (g.entries i f k) ∙ front u
    where
      front : (v : List ℕ) → part (part v (entry_place i) 40) 0 32 ≡ part v (entry_place i) 32
      front v = part_part v (entry_place i) 40 0 32 (omega arith) ∙ ap (λ (x : ℕ). part v x 32) (add-zero (entry_place i))

  pub size_same : (i : ℕ) → filled n i ≡ true → stored_known bits i ≡ true → stored_size t i ≡ stored_size u i
  unfolding stored_size
  size_same i f k = ap number (sym (back t) ∙ ap (λ (l : List ℕ). part l 32 8) (g.entries i f k) ∙ back u)
    where
      back : (v : List ℕ) → part (part v (entry_place i) 40) 32 8 ≡ part v (entry_place i + 32) 8
      back v = part_part v (entry_place i) 40 32 8 (omega arith)

  module _ (content : List ℕ) (size : ℕ) where
    abbrev pub one : Copy
    one = copy_of t bits content n size

    abbrev pub two : Copy
    two = copy_of u bits content n size

    tests : (a b : Bool) → List Check
    tests a b =
        record { number = 2; right = count_right n } ∷ record { number = 4; right = a } ∷ record { number = 4; right = holds bits (used_bitfield n) }
        ∷ record { number = 4; right = holds content size } ∷ record { number = 5; right = b } ∷ record { number = 5; right = headed bits bitfield_header } ∷ []

    lent_same : lent_checks one ≡ lent_checks two
    unfolding lent_checks tests
    lent_same = λ j. tests (g.long j) (same_list (g.header j) tree_header)

    pub root_known : unknown_root one ≡ nowhere → (j : ℕ) → j < length (roots n) → stored_known bits (get_or (roots n) j 0) ≡ true
    unfolding unknown_root
    root_known e = each_known (stored_known bits) (roots n) e

    adds_same : unknown_root one ≡ nowhere → adds_up t n size ≡ adds_up u n size
    unfolding adds_up stored_root_sizes
    adds_same e =
        ap (λ (l : List ℕ). eqb (total l) size)
        (map_ext (stored_size t) (stored_size u) (roots n) (λ j l. size_same (get_or (roots n) j 0) (root_filled n j l) (root_known e j l)))

    both_roots : unknown_root one ≡ unknown_root two
    unfolding unknown_root
    both_roots = refl

    -- the checks of every call but two, with the same behind them
    pub copy_same : (next : Verdict) → copy_judged one next ≡ copy_judged two next
    unfolding copy_judged unknown_root
    copy_same next =
        ap (λ (cs : List Check). judged cs (refused_at 20 tree (unknown_root one) (judged (size_check (adds_up t n size)) next))) lent_same
        ∙ ap (judged (lent_checks two))
        (unknown_same (unknown_root one) (judged (size_check (adds_up t n size)) next) (judged (size_check (adds_up u n size)) next)
        (λ e j. judged (size_check (adds_same e j)) next))

    -- and of those two
    pub partly_same : (next : Verdict) → partly_judged one next ≡ partly_judged two next
    unfolding partly_judged
    partly_same next =
        ap (λ (cs : List Check). judged cs (judged (size_check (passed_over (unknown_root one) (adds_up t n size))) next)) lent_same
        ∙ ap (λ (b : Bool). judged (lent_checks two) (judged (size_check b) next))
        (over (unknown_root one) refl ∙ ap (λ (l : Lowest). passed_over l (adds_up u n size)) both_roots)
      where
        over : (l : Lowest) → unknown_root one ≡ l → passed_over l (adds_up t n size) ≡ passed_over l (adds_up u n size)
        over nowhere e = adds_same e
        over (first i) e = refl
