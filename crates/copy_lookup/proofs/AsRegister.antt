-- Where a lookup or a read on a copy is done, it is done on the copy as a register, with the same answer: what is proved of a register's place, bytes and
-- packet holds of the copy's. Assumes nothing.
use Prim.Native.Nat.{ℕ, ◌<◌}
use mathlib.Core.Path.{◌≡◌, sym, ap, ◌∙◌}
use mathlib.Core.Bool.{true}
use mathlib.Core.List.{List}
use Rattle.answer_types.specs.Verdict.{done}
use Rattle.tree_index.specs.Tree.{index}
use Rattle.bitfield.specs.Release.{stored_held}
use Rattle.file_format.specs.Stored.{stored_size}
use Rattle.checks.proofs.Passed.{passes}
use Rattle.lookup.specs.Descent.{reached, always}
use Rattle.lookup.specs.Lookup.{found, to_chunk, place_in, place_of, held_place_of}
use Rattle.lookup.specs.Read.{verdict_found, hash_judged, read_found, read_verdict}
use Rattle.lookup.proofs.Lookups.{found_done, behind_done, behind_found, place_at, place_reaches, held_here, held_found, hashed}
use Rattle.lookup.proofs.Calls.{held_placing}
use Rattle.copy_checks.specs.Copy.{Copy, known}
use Rattle.copy_checks.specs.Descents.{copy_to_chunk}
use Rattle.copy_checks.specs.Checks.{copy_judged}
use Rattle.copy_checks.proofs.Steps.{Knowing, copy_passed, copy_passes}
use Rattle.copy_checks.proofs.Signed.{signed, signed_passes}
use Rattle.copy_checks.proofs.Descents.{chunk_read, chunk_same}
use Rattle.copy_lookup.specs.Lookups.{copy_place_of, copy_held_place_of}
use Rattle.copy_lookup.specs.Reading.{copy_read_verdict, copy_read_found}

module _ (c : Copy) (i : ℕ) where
  -- the place of a chunk that is held and was found
  pub record HeldAt (start size : ℕ) : Type 0 where
    pub knows : Knowing c
    pub below : i < c.n
    pub held : stored_held c.bitfield i ≡ true
    pub comes : copy_to_chunk c i ≡ reached i start
    pub long : size ≡ stored_size c.tree (index 0 i)
    pub register : held_place_of (signed c) i ≡ found start size

  -- the descent that comes to a leaf is the register's
  place_as : {start size : ℕ} → place_in (known c) c.tree c.n i ≡ found start size → place_in always c.tree c.n i ≡ found start size
  unfolding copy_to_chunk to_chunk
  place_as {start} e =
      let q = place_reaches (known c) c.tree c.n i e in
      place_at always c.tree c.n i q.below (sym (chunk_same c i (chunk_read c i q.comes)) ∙ q.comes) ∙ ap (found start) (sym q.long)

  pub place_found_as : {start size : ℕ} → copy_place_of c i ≡ found start size → place_of (signed c) i ≡ found start size
  unfolding copy_place_of place_of
  place_found_as e =
      let a = behind_found (copy_judged c done) e in
      behind_done _ (passes (signed c) done (signed_passes c (copy_passed c done a.0).0)) ∙ place_as a.1

  pub held_at : {start size : ℕ} → copy_held_place_of c i ≡ found start size → HeldAt start size
  unfolding copy_held_place_of held_place_of copy_to_chunk to_chunk
  held_at {start} e =
      let a = behind_found (copy_judged c done) e in
      let b = held_found (known c) c.tree c.n i c.bitfield a.1 in
      let k = (copy_passed c done a.0).0 in
      let q = place_reaches (known c) c.tree c.n i b.1 in
      let r =
      behind_done _ (passes (signed c) done (signed_passes c k)) ∙ held_here always c.tree c.n i c.bitfield q.below b.0 ∙ place_as b.1
      in
      let p = held_placing (signed c) i r in
      record {
        knows = k;
        below = q.below;
        held = b.0;
        comes = chunk_same c i (chunk_read c i q.comes) ∙ p.comes;
        long = p.long;
        register = r;
      }

  -- one that the descent comes to is found
  pub held_found_at : Knowing c → i < c.n → stored_held c.bitfield i ≡ true → {k s : ℕ} → copy_to_chunk c i ≡ reached k s
      → copy_held_place_of c i ≡ found s (stored_size c.tree (index 0 i))
  unfolding copy_held_place_of copy_to_chunk
  held_found_at k h b e =
      behind_done _ (copy_passes c done k) ∙ held_here (known c) c.tree c.n i c.bitfield h b ∙ place_at (known c) c.tree c.n i h e

  pub held_place_as : (start size : ℕ) → found start size ≡ copy_held_place_of c i → found start size ≡ held_place_of (signed c) i
  held_place_as start size e = sym (held_at (sym e)).register

  pub held_done : verdict_found (copy_held_place_of c i) ≡ done → (start : ℕ) × HeldAt start (stored_size c.tree (index 0 i))
  held_done e =
      let a = found_done (copy_held_place_of c i) e in
      (a.0, held_at (a.2 ∙ ap (found a.0) (held_at a.2).long))

module _ (F : List ℕ → List ℕ) (c : Copy) (i : ℕ) where
  pub read_found_done : (from end : ℕ) → found from end ≡ copy_read_found F c i → copy_read_verdict F c i ≡ done
  unfolding copy_read_verdict
  read_found_done from end e = sym (ap verdict_found e)

  -- a chunk that is read is held
  pub read_held : copy_read_verdict F c i ≡ done → verdict_found (copy_held_place_of c i) ≡ done
  unfolding copy_read_verdict copy_read_found
  read_held e = ap verdict_found (hashed F c.tree c.content i (copy_held_place_of c i) (found_done (copy_read_found F c i) e).2).place

  pub read_found_as : (from end : ℕ) → found from end ≡ copy_read_found F c i → found from end ≡ read_found F (signed c) i
  unfolding copy_read_found read_found
  read_found_as from end e =
      let h = hashed F c.tree c.content i (copy_held_place_of c i) (sym e) in
      e ∙ ap (hash_judged F c.tree c.content i) (h.place ∙ held_place_as c i from h.size (sym h.place))

  pub read_as : copy_read_verdict F c i ≡ done → read_verdict F (signed c) i ≡ done
  unfolding copy_read_verdict read_verdict
  read_as e = let a = found_done (copy_read_found F c i) e in sym (ap verdict_found (read_found_as a.0 a.1 (sym a.2)))
