-- Where a range ends. Assumes nothing.
use Prim.Native.Nat.{ℕ, ◌+◌, ◌*◌, ◌≤◌, ◌<◌}
use native.Mathlib.Omega.{arith}
use native.Mathlib.Decide.{ℕ_discrete}
use mathlib.Core.Path.{◌≡◌, refl, ◌∙◌}
use mathlib.Core.Bool.{Bool, true, false, ◌&&◌}
use mathlib.Core.List.{List}
use lib.Dec.{leb}
use Rattle.std.specs.Prelude.{Option, Some, None, Result, Ok, Err}
use borrow.Author.Tests.{eq-eqb, ne_eqb, le-leb, lt-leb, leb-true}
use Rattle.byte_strings.proofs.Bools.{both_true}
use Rattle.journal.specs.declared.JournalError.{JournalError}
use Rattle.journal.specs.declared.kinds.Kind.{Kind}
use Rattle.journal.specs.declared.kinds.Kind.TheVariants.{Replaced, Fresh, Blank, Witness}
use Rattle.journal.specs.declared.ranges.RangeAt.{RangeAt}
use Rattle.journal.specs.Kinds.{number_of, Decodes}
use Rattle.journal.specs.Found.{IsRangeAt}
use Rattle.journal.specs.Places.{kind_at, size_at, times_long, behind, whole, bytes_end, new_bytes, new_place}

module _ (kind size from : ℕ) where
  pub end_twice : kind ≡ 1 → from + times_long kind * size ≡ from + size + size
  unfolding times_long
  end_twice e = rw (eq-eqb kind 1 e, times_long) (omega arith)

  pub end_bare : (kind ≡ 1 → ⊥) → kind ≡ 3 → from + times_long kind * size ≡ from
  unfolding times_long
  end_bare n e = rw (ne_eqb kind 1 n, eq-eqb kind 3 e, times_long) (omega arith)

  pub end_once : (kind ≡ 1 → ⊥) → (kind ≡ 3 → ⊥) → from + times_long kind * size ≡ from + size
  unfolding times_long
  end_once n e = rw (ne_eqb kind 1 n, ne_eqb kind 3 e, times_long) (omega arith)

-- a kind's number is from 1 to 4
pub number_low : (k : Kind) → (1 ≤ number_of k) × (number_of k ≤ 4)
number_low Replaced = (omega arith, omega arith)
number_low Fresh = (omega arith, omega arith)
number_low Blank = (omega arith, omega arith)
number_low Witness = (omega arith, omega arith)

abbrev end_or : Bool → ℕ → Option ℕ
end_or b x = elim b as (λ y. Option ℕ) [ true ↦ Some x | false ↦ None ]

-- ---- the bytes that stand in the file after the change

module _ (kind size from : ℕ) where
  pub new_second : kind ≡ 1 → from + size ≡ new_bytes kind size from
  unfolding new_bytes
  new_second e = rw (eq-eqb kind 1 e, new_bytes)

  pub new_first : (kind ≡ 1 → ⊥) → from ≡ new_bytes kind size from
  unfolding new_bytes
  new_first e = rw (ne_eqb kind 1 e, new_bytes)

pub behind_least : (j : List ℕ) (q : ℕ) → q + 18 ≤ behind j q
unfolding behind
behind_least j q = omega arith

module _ (j : List ℕ) (m q : ℕ) where
  pub whole_end : whole j m q ≡ true → behind j q ≤ m
  unfolding whole
  whole_end e = leb-true _ _ (both_true (leb 1 (kind_at j q) && leb (kind_at j q) 4) (leb (behind j q) m) (both_true (leb (q + 18) m) _ e).1).1

  pub cut_off : m < q + 18 → whole j m q ≡ false
  unfolding whole
  cut_off h = rw (lt-leb (q + 18) m h)

  -- whether it is whole is whether it ends
  ends_whole : q + 18 ≤ m → (k : Kind) → number_of k ≡ kind_at j q → whole j m q ≡ leb (behind j q) m
  unfolding whole
  ends_whole h k e = let l = number_low k in rw (le-leb (q + 18) m h, le-leb 1 (kind_at j q) (omega arith), le-leb (kind_at j q) 4 (omega arith))

  bytes_are : (k s : ℕ) → k ≡ kind_at j q → s ≡ size_at j q → bytes_end k s (q + 18) m ≡ end_or (leb (behind j q) m) (behind j q)
  unfolding bytes_end behind
  bytes_are k s e d = rw (e, d)

  -- no kind has this number
  pub no_kind : q + 18 ≤ m → (n : ℕ) → n ≡ kind_at j q → (r : Result Kind JournalError) → ((k : Kind) → r ≡ Ok k → ⊥) → Decodes n r → whole j m q ≡ false
  unfolding whole
  no_kind h n x (Ok k) f d = absurd (f k refl)
  no_kind h n x (Err y) f d = go (leb 1 (kind_at j q)) refl
    where
      go : (b : Bool) → leb 1 (kind_at j q) ≡ b → (leb (q + 18) m && ((leb 1 (kind_at j q) && leb (kind_at j q) 4) && leb (behind j q) m)) ≡ false
      go false e = rw (le-leb (q + 18) m h, e)
      go true e = let l = leb-true _ _ e in let g = d.1 in rw (le-leb (q + 18) m h, e, lt-leb (kind_at j q) 4 (omega arith))

  module _ (h : q + 18 ≤ m) (k : Kind) (s : ℕ) (e : number_of k ≡ kind_at j q) (d : s ≡ size_at j q) where
    pub no_end : None ≡ bytes_end (number_of k) s (q + 18) m → whole j m q ≡ false
    no_end n = ends_whole h k e ∙ go (leb (behind j q) m) (n ∙ bytes_are (number_of k) s e d)
      where
        go : (b : Bool) → None ≡ end_or b (behind j q) → b ≡ false
        go false x = refl
        go true x = absurd (cc)

    pub one_end : (r : ℕ) → Some r ≡ bytes_end (number_of k) s (q + 18) m → (whole j m q ≡ true) × (r ≡ behind j q)
    one_end r n = let x = go (leb (behind j q) m) (n ∙ bytes_are (number_of k) s e d) in (ends_whole h k e ∙ x.0, x.1)
      where
        go : (b : Bool) → Some r ≡ end_or b (behind j q) → (b ≡ true) × (r ≡ behind j q)
        go true x = (refl, cc)
        go false x = absurd (cc)

module _ (j : List ℕ) (q k s : ℕ) (e : k ≡ kind_at j q) (d : s ≡ size_at j q) where
  pub behind_is : behind j q ≡ q + 18 + times_long k * s
  unfolding behind
  behind_is = rw (e, d)

  pub new_is : new_bytes k s (q + 18) ≡ new_place j q
  unfolding new_bytes new_place
  new_is = rw (e, d)

pub place_within : (j : List ℕ) (q : ℕ) → (q + 18 ≤ new_place j q) × (new_place j q ≤ behind j q)
place_within j q = go (ℕ_discrete (kind_at j q) 1)
  where
    s : new_bytes (kind_at j q) (size_at j q) (q + 18) ≡ new_place j q
    s = new_is j q (kind_at j q) (size_at j q) refl refl

    b : behind j q ≡ q + 18 + times_long (kind_at j q) * size_at j q
    b = behind_is j q (kind_at j q) (size_at j q) refl refl

    go : Dec (kind_at j q ≡ 1) → (q + 18 ≤ new_place j q) × (new_place j q ≤ behind j q)
    go (yes e) =
        let t = end_twice (kind_at j q) (size_at j q) (q + 18) e in
        let n = new_second (kind_at j q) (size_at j q) (q + 18) e in
        (omega (arith, s, n), omega (arith, s, n, b, t))
    go (no e) = let l = behind_least j q in let n = new_first (kind_at j q) (size_at j q) (q + 18) e in (omega (arith, s, n), omega (arith, s, n))

-- what was found has room for its numbers, then the bytes that stand there after the change, and lies before the end
pub range_room : {j : List ℕ} {m q : ℕ} {r : RangeAt} → IsRangeAt j m q r → (q + 18 ≤ r.bytes) × (r.bytes ≤ r.behind) × (r.behind ≤ m)
range_room {j} {m} {q} {r} i =
    let e : r.behind ≡ behind j q = i.reads.behind in
    let n : r.bytes ≡ new_place j q = i.reads.bytes in
    let p = place_within j q in
    let g = whole_end j m q i.is in
    (omega arith, omega arith, omega arith)
