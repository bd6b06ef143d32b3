-- The lookups and the read get the same of two copies that agree on what is known. Assumes nothing.
use Prim.Native.Nat.{ℕ, ◌+◌, ◌<◌}
use mathlib.Core.Path.{◌≡◌, refl, sym, ap, ◌∙◌}
use mathlib.Core.Bool.{true}
use mathlib.Core.List.{List}
use native.Mathlib.Nat.{mul-one}
use native.Mathlib.Omega.{arith}
use Rattle.answer_types.specs.Verdict.{Verdict, done}
use Rattle.tree_index.specs.Tree.{index, filled}
use Rattle.tree_index.proofs.Filled.{end_filled}
use Rattle.bitfield.specs.Known.{stored_known}
use Rattle.file_format.specs.Stored.{stored_size}
use Rattle.lookup.specs.Descent.{reached, always, chunk_within, byte_within}
use Rattle.lookup.specs.Lookup.{Found, found_behind, place_in}
use Rattle.lookup.specs.Read.{verdict_found, bytes_found, bytes_at, chunk_bytes, hash_judged}
use Rattle.lookup.proofs.Lookups as quick
use Rattle.lookup.proofs.Calls.{held_placing}
use Rattle.packet.specs.Inner.{ChunkOf}
use Rattle.copy_checks.specs.Copy.{Copy, known, unsigned}
use Rattle.copy_checks.specs.Descents.{copy_to_chunk}
use Rattle.copy_checks.specs.Checks.{copy_judged}
use Rattle.copy_checks.proofs.Steps.{Knowing, copy_passed}
use Rattle.copy_checks.proofs.Signed.{signed}
use Rattle.copy_lookup.specs.Lookups.{copy_place_of, copy_held_place_of, copy_byte_at}
use Rattle.copy_lookup.specs.Reading.{copy_read_verdict, copy_read_part, copy_read_found}
use Rattle.copy_lookup.proofs.AsRegister.{held_at, held_done}
use Rattle.theorem_copy_reads.proofs.Descents.{same_descent, leaf_known}
use Rattle.theorem_copy_reads.proofs.Checks.{Agreed, hash_same, size_same, one, two, copy_same}

-- ---- a chunk of a copy that its descent comes to

pub record Reached (c : Copy) (i : ℕ) : Type 0 where
  pub knows : Knowing c
  pub chunk : ChunkOf c.n i
  pub leaf : filled c.n (index 0 i) ≡ true
  pub a : ℕ
  pub z : ℕ
  pub there : copy_to_chunk c i ≡ reached a z
  pub known_leaf_lem : stored_known c.bitfield (index 0 i) ≡ true

module _ (c : Copy) (i : ℕ) where
  reach : Knowing c → i < c.n → {a z : ℕ} → copy_to_chunk c i ≡ reached a z → Reached c i
  unfolding copy_to_chunk
  reach k l {a} {z} e =
      let h : ChunkOf c.n i = record { count = k.lent.count; below = l } in
      record {
        knows = k;
        chunk = h;
        leaf = end_filled c.n 0 i (omega (arith, mul-one (i + 1), l));
        a = a;
        z = z;
        there = e;
        known_leaf_lem = leaf_known (known c) c.tree i c.n h a z e;
      }

  pub held_reached : verdict_found (copy_held_place_of c i) ≡ done → Reached c i
  held_reached e = let h = (held_done c i e).1 in reach h.knows h.below h.comes

-- ---- both copies

module _ (t u bits : List ℕ) (n : ℕ) (g : Agreed t u bits n) (content : List ℕ) (size : ℕ) where
  abbrev a : Copy
  a = one t u bits n g content size

  abbrev b : Copy
  b = two t u bits n g content size

  to_chunk_same : (i : ℕ) → copy_to_chunk a i ≡ copy_to_chunk b i
  unfolding copy_to_chunk
  to_chunk_same i = same_descent (stored_known bits) (chunk_within i) t u n (size_same t u bits n g)

  -- what comes behind the checks is asked for only where they are passed
  behind : {x y : Found} → (Knowing a → x ≡ y) → found_behind (copy_judged a done) x ≡ found_behind (copy_judged b done) y
  behind {x} {y} h =
      quick.behind_same (copy_judged a done) (λ e. h (copy_passed a done e).0)
      ∙ ap (λ (v : Verdict). found_behind v y) (copy_same t u bits n g content size done)

  module _ (i : ℕ) where
    leaf_size : Reached a i → stored_size t (index 0 i) ≡ stored_size u (index 0 i)
    leaf_size r = size_same t u bits n g (index 0 i) r.leaf r.known_leaf_lem

    pub place_same : copy_place_of a i ≡ copy_place_of b i
    unfolding copy_place_of copy_to_chunk
    place_same = behind (λ k. quick.place_same (stored_known bits) (stored_known bits) t u n i (to_chunk_same i) (λ x s h e. leaf_size (reach a i k h e)))

    pub held_place_same : copy_held_place_of a i ≡ copy_held_place_of b i
    unfolding copy_held_place_of copy_to_chunk
    held_place_same =
        behind
        (λ k. quick.held_same (stored_known bits) (stored_known bits) t u n i (to_chunk_same i) (λ x s h e. leaf_size (reach a i k h e)) bits bits (λ h. refl))

    -- ---- a chunk that is held

    module _ (e : verdict_found (copy_held_place_of a i) ≡ done) where
      pub lies_same : place_in always t n i ≡ place_in always u n i
      lies_same =
          let q = (quick.found_done (copy_held_place_of a i) e).2 in
          (held_placing (signed a) i (held_at a i q).register).place
          ∙ sym (held_placing (signed b) i (held_at b i (sym held_place_same ∙ q)).register).place

      pub bytes_same : chunk_bytes (unsigned a) i ≡ chunk_bytes (unsigned b) i
      unfolding chunk_bytes
      bytes_same = ap (bytes_at content) lies_same

    module _ (F : List ℕ → List ℕ) where
      pub read_finds_lem : copy_read_found F a i ≡ copy_read_found F b i
      unfolding copy_read_found
      read_finds_lem =
          quick.hash_same F t u content content i (copy_held_place_of a i)
          (λ s z e. let r = held_reached a i (ap verdict_found e) in (hash_same t u bits n g (index 0 i) r.leaf r.known_leaf_lem, refl))
          ∙ ap (hash_judged F u content i) held_place_same

      pub read_says_lem : copy_read_verdict F a i ≡ copy_read_verdict F b i
      unfolding copy_read_verdict
      read_says_lem = ap verdict_found read_finds_lem

      pub read_same : copy_read_part F a i ≡ copy_read_part F b i
      unfolding copy_read_part
      read_same = ap (bytes_found content) read_finds_lem

  -- ---- the byte lookup

  pub byte_same : (x : ℕ) → copy_byte_at a x ≡ copy_byte_at b x
  unfolding copy_byte_at
  byte_same x =
      behind (λ k. quick.byte_same (stored_known bits) (stored_known bits) t u n size x (same_descent (stored_known bits) (byte_within x) t u n (size_same t u bits n g)))
