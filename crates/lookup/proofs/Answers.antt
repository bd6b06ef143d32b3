-- What lookups and reads answer: on a register that belongs to chunks, held or released, and on every one that passes the checks 2 to 6.
-- Assumes nothing.
use Prim.Native.Nat.{ℕ, zero, suc, ◌+◌, ◌-◌, ◌*◌, ◌^◌, ◌≤◌, ◌<◌}
use mathlib.Core.Path.{◌≡◌, refl, sym, ap, ap₂, ◌∙◌, subst}
use mathlib.Core.Bool.{true, false}
use mathlib.Core.List.{List, []}
use native.Mathlib.Nat.{mul-one, le_antisymm, le_dest, lt_of_not-le, le_of_suc-le-suc, lt_irrefl, zero-add, div-eq_of_lt-le}
use native.Mathlib.Omega.{arith}
use lib.ListN.{length, get_or, take, length-take}
use lib.Seq.{get_or-take}
use Rattle.answer_types.specs.Verdict.{none, tree, done, refused}
use Rattle.byte_strings.specs.Lists.{part, total}
use Rattle.byte_strings.proofs.Lists.{length_part, run_ext}
use Rattle.tree_index.specs.Tree.{index}
use Rattle.tree_index.proofs.Index.{index_leaf}
use Rattle.tree_index.proofs.Filled.{block_end, end_filled}
use Rattle.bitfield.specs.Release.{stored_held}
use Rattle.file_format.specs.Sizes.{most_chunks}
use Rattle.file_format.specs.Messages.{HashFunction, leaf_message}
use Rattle.file_format.specs.Images.{data_size, leaves}
use Rattle.file_format.specs.Entries.{Entry, leaf, node}
use Rattle.file_format.specs.Stored.{stored_size, stored_hash, stored_chunk}
use Rattle.file_format.specs.Slots.{Slot, contents, held_in, Within}
use Rattle.file_format.specs.Belongs.{Register, Belongs}
use Rattle.file_format.proofs.Spans.{span, span_add, span_none, span_one, span_all, chunk_inside}
use Rattle.file_format.proofs.Slots.{contents_length, held_behind_lem, leaf_held}
use Rattle.file_format.proofs.Nodes.{node_at_index}
use Rattle.file_format.proofs.Held.{stored_held_lem}
use Rattle.file_format.proofs.OfImage.{stored_span, stored_leaf_size, stored_start_lem, stored_chunk_lem, stored_node_hash}
use Rattle.checks.proofs.Passed.{Passed, passes, passed}
use Rattle.lookup.specs.Descent.{Ending, stopped, reached, unknown, always, chunk_within, byte_within}
use Rattle.lookup.specs.Lookup.{Found, refusal, found, byte_from, place_in, held_place_in, byte_in, to_chunk, to_byte, place_of, held_place_of, byte_at}
use Rattle.lookup.specs.Read.{verdict_found, bytes_found, bytes_at, chunk_bytes, hash_judged, read_found, read_verdict, read_part}
use Rattle.lookup.specs.Theorems.{start_in, HasByte, Answers, AnswersForAll, Right, HoldsChunk, HoldsByte, Lies, Stops, LookupsStayInside, LookupsStayInsideForAll}
use Rattle.lookup.proofs.Descents.{Steps, Landed, Halted, Ends, ends, chunk_order, byte_order, left_first, right_end, left_inside, twice}
use Rattle.lookup.proofs.Lookups.{behind_done, place_above_lem, place_at, held_above, held_gone, held_here, byte_above, byte_end, byte_below, hash_right, as_part_lem}

-- ---- behind the checks

module _ (r : Register) (p : Passed r) where
  place_of_lem : (c : ℕ) → place_of r c ≡ place_in always r.tree r.n c
  unfolding place_of
  place_of_lem c = behind_done _ (passes r done p)

  held_of : (c : ℕ) → held_place_of r c ≡ held_place_in always r.tree r.n r.bitfield c
  unfolding held_place_of
  held_of c = behind_done _ (passes r done p)

  byte_of_lem : (b : ℕ) → byte_at r b ≡ byte_in always r.tree r.n r.size b
  unfolding byte_at
  byte_of_lem b = behind_done _ (passes r done p)

  pub place_found : (c : ℕ) {k s : ℕ} → c < r.n → to_chunk r c ≡ reached k s → place_of r c ≡ found s (stored_size r.tree (index 0 c))
  unfolding to_chunk
  place_found c h e = place_of_lem c ∙ place_at always r.tree r.n c h e

  pub held_at : (c : ℕ) {k s : ℕ} → c < r.n → stored_held r.bitfield c ≡ true → to_chunk r c ≡ reached k s
      → held_place_of r c ≡ found s (stored_size r.tree (index 0 c))
  unfolding to_chunk
  held_at c h b e = held_of c ∙ held_here always r.tree r.n c r.bitfield h b ∙ place_at always r.tree r.n c h e

  pub no_held : (c : ℕ) → r.n ≤ c → held_place_of r c ≡ refusal 9 none
  no_held c h = held_of c ∙ held_above always r.tree r.n c r.bitfield h

  -- at the data size, and above it
  byte_at_end : byte_at r r.size ≡ found r.n 0
  byte_at_end = byte_of_lem r.size ∙ byte_end always r.tree r.n r.size r.size refl

  no_byte_lem : (b : ℕ) → r.size < b → byte_at r b ≡ refusal 9 none
  no_byte_lem b h = byte_of_lem b ∙ byte_above always r.tree r.n r.size b h

-- ---- every register that passes the checks

-- nothing is known of starts
pub any_start : (t : List ℕ) (n : ℕ) → Steps t n (λ p s. Unit {0})
any_start t n d k s h a = tt

-- in a register nothing is unknown
pub never_unknown : true ≡ false → ⊥
never_unknown e = let z : ◌≡◌ {A = ℕ} 0 1 = cc in omega arith

few : (n : ℕ) → n ≤ most_chunks → n < 2 ^ 21
few n h = omega arith

module _ (r : Register) (p : Passed r) where
  chunk_lands : (At : ℕ → ℕ → Type 0) → Steps r.tree r.n At → At 0 0 → (c : ℕ) → c < r.n
      → Ends always r.tree r.n (λ p s. p ≤ c) (λ p s. c < p) At (to_chunk r c)
  unfolding to_chunk
  chunk_lands At g a c h =
      ends always (chunk_within c) r.tree r.n (λ p s. p ≤ c) (λ p s. c < p) At (chunk_order c) g (few r.n p.count) a (omega arith) h

  byte_lands : (At : ℕ → ℕ → Type 0) → Steps r.tree r.n At → At 0 0 → (b : ℕ) → b < r.size
      → Ends always r.tree r.n (λ p s. s ≤ b) (λ p s. b < s) At (to_byte r b)
  unfolding to_byte
  byte_lands At g a b h =
      ends always (byte_within b) r.tree r.n (λ p s. s ≤ b) (λ p s. b < s) At (byte_order b) g (few r.n p.count) a (omega arith)
      (subst (λ (e : ℕ). b < e) (sym p.adds) h)

  -- a leaf that is reached, whatever was sought
  lies : {Lo Hi At : ℕ → ℕ → Type 0} {k start : ℕ} → Landed r.tree r.n Lo Hi At k start → Lies r k start
  lies {k = k} l =
      let m = l.met in
      record { below = omega (arith, m.inside); inside = omega (arith, m.to, p.adds); visited = m.visited; fits = l.fits }

  stop_there : {Lo Hi At : ℕ → ℕ → Type 0} {i : ℕ} (Has : ℕ → ℕ → ℕ → Type 0)
      → ((d k s : ℕ) → Lo (k * 2 ^ d) s → Hi ((k + 1) * 2 ^ d) (s + stored_size r.tree (index d k)) → Has d k s)
      → Halted r.tree r.n Lo Hi At i → Stops r Has i
  stop_there Has has l =
      record {
        d = l.d;
        k = l.k;
        start = l.start;
        here = l.here;
        visited = l.met.visited;
        has = has l.d l.k l.start l.met.low l.met.high;
        wrong = l.wrong;
      }

  pub stays_inside : LookupsStayInside r
  unfolding chunk_bytes to_chunk
  stays_inside = record { chunk = at_chunk; byte = at_byte; chunk_stops = chunk_stops_lem; byte_stops = byte_stops_lem; end = byte_at_end r p; no_byte = no_byte_lem r p; read = in_read }
    where
      to_chunk_lem : (c : ℕ) → c < r.n → (x : Ending) → to_chunk r c ≡ x → Ends always r.tree r.n (λ p s. p ≤ c) (λ p s. c < p) (λ p s. Unit {0}) x
      to_chunk_lem c h x e =
          subst (Ends always r.tree r.n (λ p s. p ≤ c) (λ p s. c < p) (λ p s. Unit {0})) e
          (chunk_lands (λ p s. Unit {0}) (any_start r.tree r.n) tt c h)

      to_byte_lem : (b : ℕ) → b < r.size → (x : Ending) → to_byte r b ≡ x → Ends always r.tree r.n (λ p s. s ≤ b) (λ p s. b < s) (λ p s. Unit {0}) x
      to_byte_lem b h x e =
          subst (Ends always r.tree r.n (λ p s. s ≤ b) (λ p s. b < s) (λ p s. Unit {0})) e
          (byte_lands (λ p s. Unit {0}) (any_start r.tree r.n) tt b h)

      at_chunk : (c : ℕ) → c < r.n → (k start : ℕ) → to_chunk r c ≡ reached k start → (k ≡ c) × Lies r k start
      at_chunk c h k start e =
          let l = to_chunk_lem c h (reached k start) e in
          (omega (arith, l.met.low, l.met.high), lies l)

      at_byte : (b : ℕ) → b < r.size → (k start : ℕ) → to_byte r b ≡ reached k start → HoldsByte r.tree b 0 k start × Lies r k start
      at_byte b h k start e = let l = to_byte_lem b h (reached k start) e in ((l.met.low, l.met.high), lies l)

      chunk_stops_lem : (c : ℕ) → c < r.n → (i : ℕ) → to_chunk r c ≡ stopped i → Stops r (HoldsChunk c) i
      chunk_stops_lem c h i e = stop_there (HoldsChunk c) (λ d k s lo hi. sym (div-eq_of_lt-le (2 ^ d) lo hi)) (to_chunk_lem c h (stopped i) e)

      byte_stops_lem : (b : ℕ) → b < r.size → (i : ℕ) → to_byte r b ≡ stopped i → Stops r (HoldsByte r.tree b) i
      byte_stops_lem b h i e = stop_there (HoldsByte r.tree b) (λ d k s lo hi. (lo, hi)) (to_byte_lem b h (stopped i) e)

      in_read : (c : ℕ) → c < r.n → (k start : ℕ) → to_chunk r c ≡ reached k start → length (chunk_bytes r c) ≡ stored_size r.tree (index 0 c)
      in_read c h k start e =
          let l = at_chunk c h k start e in
          let inside : start + stored_size r.tree (index 0 c) ≤ r.size =
          subst (λ (x : ℕ). start + stored_size r.tree (index 0 x) ≤ r.size) l.0 l.1.inside
          in
          ap (λ (f : Found). length (bytes_at r.content f)) (place_at always r.tree r.n c h e)
          ∙ length_part r.content start (stored_size r.tree (index 0 c)) (omega (arith, p.content))

pub lookups_stay_inside : LookupsStayInsideForAll
lookups_stay_inside r e = stays_inside r (passed r done e).0

-- ---- a register that belongs to chunks, held or released

-- where a chunk starts, as a sum over the chunks before it
start_span : (cs : List (List ℕ)) (i : ℕ) → i ≤ length cs → start_in cs i ≡ span cs 0 i
unfolding start_in span
start_span cs i h =
    let n : length (take i cs) ≡ i = simp length-take (omega arith) in
    sym (span_all (take i cs))
    ∙ ap (span (take i cs) 0) n
    ∙ ap total (run_ext (λ j. length (get_or (take i cs) j [])) (λ j. length (get_or cs j [])) 0 i (λ j a b. ap length (get_or-take i cs j [] (omega arith))))

span_next : (cs : List (List ℕ)) (k : ℕ) → span cs 0 (k + 1) ≡ span cs 0 k + length (get_or cs k [])
span_next cs k = span_add cs 0 k 1 ∙ ap (λ (x : ℕ). span cs 0 k + x) (ap (λ (a : ℕ). span cs a 1) (zero-add k) ∙ span_one cs k)

span_mono : (cs : List (List ℕ)) (a b : ℕ) → a ≤ b → span cs 0 a ≤ span cs 0 b
span_mono cs a b h = let c = le_dest h in omega (arith, span_add cs 0 a c.0, ap (span cs 0) c.1)

-- of two chunks that have the byte at b neither is before the other
not_before : (cs : List (List ℕ)) (b k l : ℕ) → HasByte cs b k → HasByte cs b l → l ≤ k
not_before cs b k l p q =
    le_of_suc-le-suc
    (lt_of_not-le (λ (h : k < l).
    lt_irrefl b
    (omega (arith, start_span cs k (omega (arith, p.below)), start_span cs l (omega (arith, q.below)), p.to, q.from, span_next cs k, span_mono cs (k + 1) l (omega arith)))))

module _ (F : List ℕ → List ℕ) (hf : HashFunction F) (ss : List Slot) (w : Within ss) (r : Register) (b : Belongs F r ss) (p : Passed r) where
  abbrev cs : List (List ℕ)
  cs = contents ss

  counted : r.n ≡ length cs
  counted = b.count ∙ sym (contents_length ss)

  span_of : (d k : ℕ) → (k + 1) * 2 ^ d ≤ r.n → stored_size r.tree (index d k) ≡ span cs (k * 2 ^ d) (2 ^ d)
  span_of = stored_span F hf ss w r b

  pub leaf_of : (k : ℕ) → k < r.n → stored_size r.tree (index 0 k) ≡ length (get_or cs k [])
  leaf_of k h = ap (stored_size r.tree) (index_leaf k) ∙ stored_leaf_size F hf ss w r b k h

  starts : Steps r.tree r.n (λ k s. s ≡ span cs 0 k)
  starts d k s h e =
      ap₂ ◌+◌ e (span_of d k h ∙ ap (λ (a : ℕ). span cs a (2 ^ d)) (sym (zero-add (k * 2 ^ d))))
      ∙ sym (ap (span cs 0) (block_end d k) ∙ span_add cs 0 (k * 2 ^ d) (2 ^ d))

  -- no node is wrong
  all_right : (d k : ℕ) → (k + 1) * 2 ^ d ≤ r.n → Right r.tree d k
  all_right zero k h = omega (arith, leaf_of k (omega arith), w.short k)
  all_right (suc d) k h =
      span_of (suc d) k h
      ∙ ap (span cs (k * 2 ^ suc d)) (twice d)
      ∙ span_add cs (k * 2 ^ suc d) (2 ^ d) (2 ^ d)
      ∙ sym
      (ap₂ ◌+◌
      (span_of d (2 * k) (left_inside d k r.n h) ∙ ap (λ (a : ℕ). span cs a (2 ^ d)) (left_first d k))
      (span_of d (2 * k + 1) (subst (λ (x : ℕ). x ≤ r.n) (sym (right_end d k)) h) ∙ ap (λ (a : ℕ). span cs a (2 ^ d)) (block_end d (2 * k) ∙ ap (λ (x : ℕ). x + 2 ^ d) (left_first d k))))

  never_stops : {Lo Hi At : ℕ → ℕ → Type 0} {i : ℕ} → Halted r.tree r.n Lo Hi At i → ⊥
  never_stops l = l.wrong (all_right l.d l.k l.met.inside)

  starts_at : {Lo Hi : ℕ → ℕ → Type 0} {k s : ℕ} → Landed r.tree r.n Lo Hi (λ k s. s ≡ span cs 0 k) k s → s ≡ span cs 0 k
  starts_at {k = k} l = l.met.at ∙ ap (span cs 0) (mul-one k)

  -- the descent to a chunk
  pub to_chunk_lem : (c : ℕ) → c < r.n → to_chunk r c ≡ reached c (span cs 0 c)
  to_chunk_lem c h = must (to_chunk r c) (chunk_lands r p (λ k s. s ≡ span cs 0 k) starts (sym (span_none cs 0)) c h)
    where
      must : (x : Ending) → Ends always r.tree r.n (λ p s. p ≤ c) (λ p s. c < p) (λ k s. s ≡ span cs 0 k) x → x ≡ reached c (span cs 0 c)
      must (stopped i) l = absurd (never_stops l)
      must (unknown i) l = absurd (never_unknown l)
      must (reached k s) l =
          let e : k ≡ c = omega (arith, l.met.low, l.met.high) in
          ap₂ reached e (starts_at l ∙ ap (span cs 0) e)

  -- the descent to a byte
  to_byte_lem : (x : ℕ) → x < r.size → (k : ℕ) × HasByte cs x k × (to_byte r x ≡ reached k (start_in cs k))
  to_byte_lem x h = must (to_byte r x) (byte_lands r p (λ k s. s ≡ span cs 0 k) starts (sym (span_none cs 0)) x h)
    where
      must : (y : Ending) → Ends always r.tree r.n (λ p s. s ≤ x) (λ p s. x < s) (λ k s. s ≡ span cs 0 k) y
          → (k : ℕ) × HasByte cs x k × (y ≡ reached k (start_in cs k))
      must (stopped i) l = absurd (never_stops l)
      must (unknown i) l = absurd (never_unknown l)
      must (reached k s) l =
          let in_r : k < r.n = omega (arith, l.met.inside) in
          let below : k < length cs = subst (λ (n : ℕ). k < n) counted in_r in
          let e : start_in cs k ≡ s = start_span cs k (omega arith) ∙ sym (starts_at l) in
          (k, record { below = below; from = omega (arith, l.met.low); to = omega (arith, l.met.high, leaf_of k in_r) }, ap (reached k) (sym e))

  part_at : (c : ℕ) → c < r.n → part r.content (span cs 0 c) (stored_size r.tree (index 0 c)) ≡ get_or cs c []
  unfolding stored_chunk
  part_at c h =
      ap₂ (part r.content) (sym (stored_start_lem F hf ss w r b c (omega arith))) (ap (stored_size r.tree) (index_leaf c))
      ∙ stored_chunk_lem F hf ss w r b c h

  -- of a chunk that is held
  leaf_hash_lem : (c : ℕ) → c < r.n → held_in ss c ≡ true
      → stored_hash r.tree (index 0 c) ≡ F (leaf_message (part r.content (span cs 0 c) (stored_size r.tree (index 0 c))))
  unfolding node leaf
  leaf_hash_lem c h e =
      stored_node_hash F hf ss w r b (index 0 c) (end_filled r.n 0 c (omega (arith, mul-one (c + 1))))
      ∙ ap (λ (x : Entry). x.hash) (node_at_index F (leaves F ss) 0 c ∙ leaf_held F ss c (subst (λ (n : ℕ). c < n) b.count h) e)
      ∙ ap (λ (l : List ℕ). F (leaf_message l)) (sym (part_at c h))

  below_n : (c : ℕ) → c < length cs → c < r.n
  below_n c h = subst (λ (n : ℕ). c < n) (sym counted) h

  above_n : (c : ℕ) → length cs ≤ c → r.n ≤ c
  above_n c h = subst (λ (n : ℕ). n ≤ c) (sym counted) h

  -- no chunk behind the last is held
  pub held_n : (c : ℕ) → held_in ss c ≡ true → c < r.n
  held_n c e =
      lt_of_not-le (λ h.
      let g : held_in ss c ≡ false = held_behind_lem ss c (subst (λ (n : ℕ). n ≤ c) b.count h) in
      let z : ◌≡◌ {A = ℕ} 0 1 = cc in
      omega arith)

  -- the stored bit says whether it is held
  pub held_gone_at : (c : ℕ) → c < r.n → held_in ss c ≡ false → held_place_of r c ≡ refusal 18 (tree (index 0 c))
  held_gone_at c h e = held_of r p c ∙ held_gone always r.tree r.n c r.bitfield h (stored_held_lem F ss r b c h ∙ e)

  pub held_done_at : (c : ℕ) → held_in ss c ≡ true → held_place_of r c ≡ found (span cs 0 c) (stored_size r.tree (index 0 c))
  held_done_at c e = let h = held_n c e in held_at r p c h (stored_held_lem F ss r b c h ∙ e) (to_chunk_lem c h)

  read_done_lem : (c : ℕ) → held_in ss c ≡ true → read_found F r c ≡ found (span cs 0 c) (span cs 0 c + stored_size r.tree (index 0 c))
  unfolding read_found
  read_done_lem c e =
      ap (hash_judged F r.tree r.content c) (held_done_at c e)
      ∙ hash_right F r.tree r.content c (span cs 0 c) (stored_size r.tree (index 0 c)) (leaf_hash_lem c (held_n c e) e)

  has_size : (x k : ℕ) → HasByte cs x k → x < r.size
  has_size x k q = subst (λ (s : ℕ). x < s) (sym b.total) (omega (arith, q.to, start_span cs k (omega (arith, q.below)), chunk_inside cs k q.below))

  pub answered : Answers F r ss cs
  unfolding to_byte read_found read_verdict read_part
  answered =
      record {
        place =
            at_place;
        no_place =
            no_place_at;
        byte = at_byte;
        one = one_chunk;
        no_other = no_other_lem;
        end = end_at;
        no_byte = no_byte_at;
        read_done = done_at;
        read = read_at_lem;
        not_held = not_held_at;
        no_read = no_read_at;
      }
    where
      at_place : (i : ℕ) → i < length cs → place_of r i ≡ found (start_in cs i) (length (get_or cs i []))
      at_place i h =
          place_found r p i (below_n i h) (to_chunk_lem i (below_n i h)) ∙ ap₂ found (sym (start_span cs i (omega arith))) (leaf_of i (below_n i h))

      no_place_at : (i : ℕ) → length cs ≤ i → place_of r i ≡ refusal 9 none
      no_place_at i h = place_of_lem r p i ∙ place_above_lem always r.tree r.n i (above_n i h)

      no_other_lem : (x k l : ℕ) → HasByte cs x k → HasByte cs x l → k ≡ l
      no_other_lem x k l m q = le_antisymm (not_before cs x l k q m) (not_before cs x k l m q)

      at_byte : (x k : ℕ) → HasByte cs x k → byte_at r x ≡ found k (x - start_in cs k)
      at_byte x k q =
          let h : x < r.size = has_size x k q in
          let g = to_byte_lem x h in
          let e : g.0 ≡ k = no_other_lem x g.0 k g.1 q in
          byte_of_lem r p x ∙ byte_below always r.tree r.n r.size x h ∙ ap (byte_from x) g.2
          ∙ ap (λ (j : ℕ). found j (x - start_in cs j)) e

      one_chunk : (x : ℕ) → x < data_size cs → (k : ℕ) × HasByte cs x k
      one_chunk x h = let g = to_byte_lem x (subst (λ (s : ℕ). x < s) (sym b.total) h) in (g.0, g.1)

      end_at : byte_at r (data_size cs) ≡ found (length cs) 0
      end_at = subst (λ (s : ℕ). byte_at r s ≡ found (length cs) 0) b.total (byte_at_end r p ∙ ap (λ (n : ℕ). found n 0) counted)

      no_byte_at : (x : ℕ) → data_size cs < x → byte_at r x ≡ refusal 9 none
      no_byte_at x h = no_byte_lem r p x (subst (λ (s : ℕ). s < x) (sym b.total) h)

      done_at : (i : ℕ) → held_in ss i ≡ true → read_verdict F r i ≡ done
      done_at i e = ap verdict_found (read_done_lem i e)

      read_at_lem : (i : ℕ) → held_in ss i ≡ true → read_part F r i ≡ get_or cs i []
      read_at_lem i e =
          ap (bytes_found r.content) (read_done_lem i e) ∙ as_part_lem r.content (span cs 0 i) (stored_size r.tree (index 0 i)) ∙ part_at i (held_n i e)

      not_held_at : (i : ℕ) → i < length cs → held_in ss i ≡ false → read_verdict F r i ≡ refused 18 (tree (index 0 i))
      not_held_at i h e = ap (λ (f : Found). verdict_found (hash_judged F r.tree r.content i f)) (held_gone_at i (below_n i h) e)

      no_read_at : (i : ℕ) → length cs ≤ i → read_verdict F r i ≡ refused 9 none
      no_read_at i h = ap (λ (f : Found). verdict_found (hash_judged F r.tree r.content i f)) (no_held r p i (above_n i h))

pub answers : AnswersForAll
answers F hf ss w r b e = answered F hf ss w r b (passed r done e).0
