-- What the calls need of the definitions: how the parts of a lookup and of a read come together.
-- Assumes nothing.
use Prim.Native.Nat.{ℕ, ◌+◌, ◌-◌, ◌/◌, ◌^◌, ◌≤◌, ◌<◌}
use mathlib.Core.Path.{◌≡◌, refl, sym, ap, ◌∙◌, subst}
use mathlib.Core.Bool.{Bool, true, false}
use mathlib.Core.List.{List, []}
use native.Mathlib.Nat.{mul-one}
use native.Mathlib.Omega.{arith}
use lib.ListN.{length, take, drop}
use Rattle.answer_types.specs.Verdict.{Spot, Verdict, done, refused, and_then}
use Rattle.byte_strings.specs.Lists.{part}
use Rattle.tree_index.specs.Tree.{index}
use Rattle.tree_index.proofs.Filled.{end_filled}
use Rattle.bitfield.specs.Append.{bits_place}
use Rattle.bitfield.specs.Release.{stored_held}
use Rattle.bitfield.proofs.Release.{entry_below}
use Rattle.file_format.specs.Sizes.{used_bitfield}
use Rattle.file_format.specs.Messages.{leaf_message}
use Rattle.file_format.specs.Stored.{stored_size, stored_hash, stored_root_sizes}
use Rattle.file_format.specs.Inner.{EntryIn, RootsIn}
use Rattle.file_format.specs.Belongs.{Register}
use Rattle.checks.specs.Checks.{judged, register_checks}
use Rattle.checks.proofs.Passed.{Passed, passed}
use Rattle.checks.proofs.Capped.{capped_low}
use Rattle.lookup.specs.Descent.{Ending, stopped, reached, unknown, always, chunk_within, byte_within, descent}
use Rattle.lookup.specs.Lookup.{Found, refusal, found, found_behind, to_chunk, place_from, place_in, held_place_in, byte_from, byte_in, place_of, held_place_of, byte_at}
use Rattle.lookup.specs.Inner.{Searched, SearchedFor, SearchedHeld}
use Rattle.lookup.specs.Capped.{capped_ending}
use Rattle.lookup.specs.Read.{verdict_found, bytes_found, bytes_at, chunk_bytes, hash_judged, read_found, read_verdict, read_part}
use Rattle.lookup.specs.Meaning.{PartIn, PlacedIn}
use Rattle.lookup.proofs.Descents.{Ends, ends, chunk_order, byte_order}
use Rattle.lookup.proofs.Visits.{filled_entry}
use Rattle.lookup.proofs.Lookups.{found_done, behind_done, behind_found, place_below, place_at, place_reaches, byte_below, held_found, hashed, as_part_lem}
use Rattle.lookup.proofs.Answers.{any_start, stays_inside}

-- ---- after the checks 2 to 6

module _ (r : Register) (v : Verdict) (e : v ≡ judged (register_checks r) done) where
  pub place_by : (c : ℕ) → found_behind v (place_in always r.tree r.n c) ≡ place_of r c
  unfolding place_of
  place_by c = ap (λ (w : Verdict). found_behind w (place_in always r.tree r.n c)) e

  pub held_by : (c : ℕ) → found_behind v (held_place_in always r.tree r.n r.bitfield c) ≡ held_place_of r c
  unfolding held_place_of
  held_by c = ap (λ (w : Verdict). found_behind w (held_place_in always r.tree r.n r.bitfield c)) e

  pub byte_by : (b : ℕ) → found_behind v (byte_in always r.tree r.n r.size b) ≡ byte_at r b
  unfolding byte_at
  byte_by b = ap (λ (w : Verdict). found_behind w (byte_in always r.tree r.n r.size b)) e

-- a register's bits are asked for by 18 alone
pub searched : (r : Register) → done ≡ judged (register_checks r) done → r.size < 2 ^ 64 → SearchedFor false r.tree r.bitfield r.n r.size
searched r e h =
    let p = (passed r done (sym e)).0 in
    record {
      searched =
          record {
            files = record { roots = record { count = p.count; inside = p.tree }; bitfield = λ _. p.bitfield };
            fits = subst (λ (x : ℕ). x < 2 ^ 64) (sym p.adds) h;
          };
      adds = p.adds;
    }

pub searched_held : (r : Register) → done ≡ judged (register_checks r) done → r.size < 2 ^ 64 → SearchedHeld false r.tree r.bitfield r.n
searched_held r e h = record { searched = (searched r e h).searched; held = (passed r done (sym e)).0.bitfield }

-- ---- the lookups

-- a start that is told as one which fits is told as it is
capped_reached : (e : Ending) → ((k s : ℕ) → e ≡ reached k s → s < 2 ^ 64) → capped_ending e ≡ e
unfolding capped_ending
capped_reached (stopped i) h = refl
capped_reached (unknown i) h = refl
capped_reached (reached k s) h = ap (reached k) (capped_low s (let l = h k s refl in omega arith))

module _ (known : ℕ → Bool) (t : List ℕ) (n c : ℕ) where
  abbrev ending : Ending
  ending = descent known (chunk_within c) t n

  -- behind 6 no start is capped
  pub chunk_told : {partly : Bool} {bits : List ℕ} → Searched partly t bits n → c < n → capped_ending ending ≡ ending
  unfolding stored_root_sizes
  chunk_told p h = capped_reached ending inside
    where
      inside : (k s : ℕ) → ending ≡ reached k s → s < 2 ^ 64
      inside k s e =
          let few : n ≤ 1048576 = p.files.roots.count in
          let l = subst (Ends known t n (λ q x. q ≤ c) (λ q x. c < q) (λ q x. Unit {0})) e
          (ends known (chunk_within c) t n (λ q x. q ≤ c) (λ q x. c < q) (λ q x. Unit {0}) (chunk_order c) (any_start t n) (omega arith) tt (omega arith) h) in
          omega (arith, l.met.to, p.fits)

  -- so the place is told by the ending that the code comes to
  pub place_told : {partly : Bool} {bits : List ℕ} → Searched partly t bits n → c < n → {e : Ending} → e ≡ capped_ending ending
      → place_from t c e ≡ place_in known t n c
  place_told p h f = ap (place_from t c) (f ∙ chunk_told p h) ∙ sym (place_below known t n c h)

-- its data bit lies within the file
pub bit_in : (n c : ℕ) (bits : List ℕ) → used_bitfield n ≤ length bits → c < n → bits_place (c / 8192 + 1) ≤ length bits
unfolding used_bitfield bits_place
bit_in n c bits p h = omega (arith, entry_below n c h)

-- the leaf of a chunk that is there lies within the tree file
pub leaf_in_lem : {t : List ℕ} {n : ℕ} (c : ℕ) → RootsIn t n → c < n → (c < 2097152) × EntryIn t (index 0 c)
leaf_in_lem {t} {n} c p h =
    let few : n ≤ 1048576 = p.count in
    (omega arith, filled_entry t n (index 0 c) p.count p.inside (end_filled n 0 c (omega (arith, mul-one (c + 1)))))

module _ (known : ℕ → Bool) (t : List ℕ) (n size b : ℕ) where
  abbrev walked : Ending
  walked = descent known (byte_within b) t n

  -- the chunk that is reached does not begin behind the byte
  pub byte_from_lem : {partly : Bool} {bits : List ℕ} → SearchedFor partly t bits n size → b < size → (k s : ℕ) → walked ≡ reached k s → s ≤ b
  unfolding stored_root_sizes
  byte_from_lem p h k s e =
      let few : n ≤ 1048576 = p.searched.files.roots.count in
      (subst (Ends known t n (λ q x. x ≤ b) (λ q x. b < x) (λ q x. Unit {0})) e
      (ends known (byte_within b) t n (λ q x. x ≤ b) (λ q x. b < x) (λ q x. Unit {0}) (byte_order b) (any_start t n) (omega arith) tt (omega arith)
      (subst (λ (x : ℕ). b < x) (sym p.adds) h))).met.low

  -- so its start is told as it is
  pub byte_told : {partly : Bool} {bits : List ℕ} → SearchedFor partly t bits n size → b < size → size < 2 ^ 64 → capped_ending walked ≡ walked
  byte_told p h z = capped_reached walked (λ k s e. let l = byte_from_lem p h k s e in omega arith)

  pub byte_ended : {partly : Bool} {bits : List ℕ} → SearchedFor partly t bits n size → b < size → size < 2 ^ 64 → {e : Ending} → e ≡ capped_ending walked
      → byte_from b e ≡ byte_in known t n size b
  byte_ended p h z f = ap (byte_from b) (f ∙ byte_told p h z) ∙ sym (byte_below known t n size b h)

-- ---- what is found on a register

pub done_first : (v : Verdict) (x : Verdict) → and_then v x ≡ done → v ≡ done
done_first done x e = refl
done_first (refused m at) x e = e

-- the place of a chunk that was found
pub record Placing (r : Register) (c start size : ℕ) : Type 0 where
  pub passed : Passed r
  pub below : c < r.n
  pub place : place_in always r.tree r.n c ≡ found start size
  pub comes : to_chunk r c ≡ reached c start
  pub long : size ≡ stored_size r.tree (index 0 c)
  pub inside : start + size ≤ r.size

module _ (r : Register) (c : ℕ) {start size : ℕ} where
  pub placing : place_of r c ≡ found start size → Placing r c start size
  unfolding place_of to_chunk
  placing e =
      let a = behind_found (judged (register_checks r) done) e in
      let p = (passed r done a.0).0 in
      let q = place_reaches always r.tree r.n c a.1 in
      let l = (stays_inside r p).chunk c q.below q.chunk start q.comes in
      let i = subst (λ (x : ℕ). start + stored_size r.tree (index 0 x) ≤ r.size) l.0 l.1.inside in
      record {
        passed = p;
        below = q.below;
        place = a.1;
        comes = q.comes ∙ ap (λ (k : ℕ). reached k start) l.0;
        long = q.long;
        inside = omega (arith, q.long);
      }

  -- one that is found among the held ones is held, and the place lookup finds it
  pub held_placed : held_place_of r c ≡ found start size → (stored_held r.bitfield c ≡ true) × (place_of r c ≡ found start size)
  unfolding held_place_of place_of
  held_placed e =
      let a = behind_found (judged (register_checks r) done) e in
      let b = held_found always r.tree r.n c r.bitfield a.1 in
      (b.0, behind_done (place_in always r.tree r.n c) a.0 ∙ b.1)

  pub held_placing : held_place_of r c ≡ found start size → Placing r c start size
  held_placing e = placing (held_placed e).1

-- a verdict that is done has a place
pub held_verdict : (r : Register) (c : ℕ) → verdict_found (held_place_of r c) ≡ done
    → (start : ℕ) × Placing r c start (stored_size r.tree (index 0 c)) × (held_place_of r c ≡ found start (stored_size r.tree (index 0 c)))
held_verdict r c e =
    let a = found_done (held_place_of r c) e in
    let p = held_placing r c a.2 in
    let g : held_place_of r c ≡ found a.0 (stored_size r.tree (index 0 c)) = a.2 ∙ ap (found a.0) p.long in
    (a.0, held_placing r c g, g)

-- so it may be judged by its hash
pub placed_in : (r : Register) (c : ℕ) (p : Found) → p ≡ held_place_of r c → PlacedIn r.tree r.content c p
placed_in r c (refusal m at) e = tt
placed_in r c (found start size) e =
    let p = held_placing r c (sym e) in
    let q = p.passed in
    let l = leaf_in_lem c (record { count = q.count; inside = q.tree }) p.below in
    record { inside = omega (arith, p.inside, q.content); small = l.0; entry = l.1 }

-- ---- the reads

-- the bytes of a chunk that the descent comes to
pub chunk_at : (r : Register) (c : ℕ) {k s : ℕ} → c < r.n → to_chunk r c ≡ reached k s → chunk_bytes r c ≡ part r.content s (stored_size r.tree (index 0 c))
unfolding chunk_bytes to_chunk
chunk_at r c h e = ap (bytes_at r.content) (place_at always r.tree r.n c h e)

module _ (F : List ℕ → List ℕ) (r : Register) (c : ℕ) where
  pub verified : (p : Found) → p ≡ held_place_of r c → hash_judged F r.tree r.content c p ≡ read_found F r c
  unfolding read_found
  verified p e = ap (hash_judged F r.tree r.content c) e

  -- what was verified, p, is what the read answers and hands back
  pub read_says_lem : (p : Found) → p ≡ read_found F r c → verdict_found p ≡ read_verdict F r c
  unfolding read_verdict
  read_says_lem p e = ap verdict_found e

  pub read_bytes : (p : Found) → p ≡ read_found F r c → bytes_found r.content p ≡ read_part F r c
  unfolding read_part
  read_bytes p e = ap (bytes_found r.content) e

  -- a chunk that is read: its place, its bytes and their hash
  pub record Reading : Type 0 where
    pub start : ℕ
    pub held : held_place_of r c ≡ found start (stored_size r.tree (index 0 c))
    pub placing : Placing r c start (stored_size r.tree (index 0 c))
    pub chunk : chunk_bytes r c ≡ part r.content start (stored_size r.tree (index 0 c))
    pub hash : stored_hash r.tree (index 0 c) ≡ F (leaf_message (chunk_bytes r c))
    pub bytes : read_part F r c ≡ chunk_bytes r c
    pub whole : read_found F r c ≡ found start (start + stored_size r.tree (index 0 c))

  pub reading : read_verdict F r c ≡ done → Reading
  unfolding read_found read_verdict read_part
  reading e =
      let a = found_done (read_found F r c) e in
      let h = hashed F r.tree r.content c (held_place_of r c) a.2 in
      let size : ℕ = stored_size r.tree (index 0 c) in
      let p = held_placing r c h.place in
      let long : h.size ≡ size = p.long in
      let held = h.place ∙ ap (found a.0) long in
      let same = chunk_at r c p.below p.comes in
      let now : read_found F r c ≡ found a.0 (a.0 + size) = a.2 ∙ ap (found a.0) (h.to ∙ ap (λ (x : ℕ). a.0 + x) long) in
      record {
        start = a.0;
        held = held;
        placing = held_placing r c held;
        chunk = same;
        hash = h.hash ∙ ap (λ (x : ℕ). F (leaf_message (part r.content a.0 x))) long ∙ sym (ap (λ (l : List ℕ). F (leaf_message l)) same);
        bytes = ap (bytes_found r.content) now ∙ as_part_lem r.content a.0 size ∙ sym same;
        whole = now;
      }

  -- the part that was verified lies within the data
  pub record Lying (from end : ℕ) : Type 0 where
    pub ordered : from ≤ end
    pub inside : end ≤ length r.content
    pub verdict : done ≡ read_verdict F r c
    pub same : take (end - from) (drop from r.content) ≡ read_part F r c

  pub lying : (from end : ℕ) → found from end ≡ read_found F r c → Lying from end
  unfolding read_found part
  lying from end e =
      let h = hashed F r.tree r.content c (held_place_of r c) (sym e) in
      let p = held_placing r c h.place in
      record {
        ordered = omega (arith, h.to);
        inside = omega (arith, h.to, p.inside, p.passed.content);
        verdict = read_says_lem (found from end) e;
        same = read_bytes (found from end) e;
      }

  pub nothing : (m : ℕ) (at : Spot) → refusal m at ≡ read_found F r c → (refused m at ≡ read_verdict F r c) × ([] ≡ read_part F r c)
  nothing m at e = (read_says_lem (refusal m at) e, read_bytes (refusal m at) e)

  pub read_in_lem : (p : Found) → p ≡ read_found F r c → PartIn r.content p
  read_in_lem (refusal m at) e = tt
  read_in_lem (found from end) e = let l = lying from end e in (l.ordered, l.inside)
