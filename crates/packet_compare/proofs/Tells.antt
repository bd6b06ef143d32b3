-- The proofs of `TellsForAll` and `RefusesForAll`.
-- Assumes nothing.
use Prim.Native.Nat.{ℕ, ◌≤◌}
use mathlib.Core.Path.{◌≡◌, sym, ap, ◌∙◌}
use mathlib.Core.Logic.{◌≢◌}
use mathlib.Core.Bool.{Bool, cond}
use mathlib.Core.List.{List, [], ◌∷◌}
use borrow.Author.Tests.{leb-true, ltb-true}
use lib.Dec.{ltb}
use Rattle.answer_types.specs.Verdict.{Spot, Verdict, done, refused}
use Rattle.byte_strings.specs.Lists.{Bytes}
use Rattle.byte_strings.proofs.Lists.{same_eq, bytes_part, same_of}
use Rattle.byte_strings.proofs.Bools.{both_true}
use Rattle.tree_index.specs.Tree.{index}
use Rattle.blake2b.specs.Hash.{node_hash}
use Rattle.file_format.specs.Sizes.{most_chunks}
use Rattle.file_format.specs.Messages.{HashFunction, leaf_message}
use Rattle.file_format.specs.Entries.{Entry, leaf}
use Rattle.file_format.proofs.Nodes.{leaf_message_bytes}
use Rattle.file_format.proofs.Hashed.{hash_function}
use Rattle.checks.specs.Checks.{Check, count_right}
use Rattle.checks.proofs.Judged.{judged_done}
use Rattle.compare.proofs.Local.{false_same}
use Rattle.compare.proofs.Apart.{leaf_injective}
use Rattle.packet.specs.Check.{Step, chunk_length, shape_right, packet_chunk, sibling_entries, packet_total, steps_above, steps, last_entry, packet_root}
use Rattle.packet.specs.Check.{packet_root_message, root_right, packet_verdict}
use Rattle.packet.specs.Inner.{ChunkOf}
use Rattle.packet.proofs.Shape.{Sized, sized}
use Rattle.packet.proofs.Rows.{siblings_count}
use Rattle.packet_compare.specs.Walk.{same_chunk, first_pair, root_pair, walk, unless_refused, compare_packets, at_roots, neither}
use Rattle.packet_compare.specs.Theorems.{Pair, Names, by_index, by_roots, Tells, TellsForAll, RefusesForAll}
use Rattle.packet_compare.specs.Inner.{Whole}
use Rattle.packet_compare.proofs.Up.{Outcome, found, through, pair_true, one_step, walk_up, last_whole}
use Rattle.packet_compare.proofs.Roots.{siblings_whole, roots_differ_lem}

-- what the check says of a packet that it accepts
pub record Held (F : List ℕ → List ℕ) (p : List ℕ) (n c : ℕ) (root : List ℕ) : Type 0 where
  pub chunk : ChunkOf n c
  pub sizes : Sized p n c
  pub sum : packet_total p n c ≤ 68719476736
  pub hash : F (packet_root_message F p n c) ≡ root

abbrev checks_of : (List ℕ → List ℕ) → List ℕ → ℕ → ℕ → List ℕ → List Check
checks_of F p n c root =
    record { number = 2; right = count_right n } ∷ record { number = 9; right = ltb c n } ∷ record { number = 12; right = shape_right p n c }
    ∷ record { number = 13; right = root_right F p n c root } ∷ []

pub held : (F : List ℕ → List ℕ) (p : List ℕ) (n c : ℕ) (root : List ℕ) → packet_verdict F p n c root ≡ done → Held F p n c root
unfolding packet_verdict root_right
held F p n c root e =
    let w = (judged_done (checks_of F p n c root) done e).0 in
    let v = both_true _ _ w.1.1.1.0 in
    record {
      chunk = record { count = leb-true n most_chunks w.0; below = ltb-true c n w.1.0 };
      sizes = sized p n c w.1.1.0;
      sum = leb-true (packet_total p n c) 68719476736 v.0;
      hash = same_eq (F (packet_root_message F p n c)) root v.1;
    }

module _ (F : List ℕ → List ℕ) (H : HashFunction F) (n c : ℕ) where
  pub low_whole : (p : List ℕ) → Bytes p → Whole (leaf F (packet_chunk p))
  unfolding leaf packet_chunk
  low_whole p b =
      let m : Bytes (leaf_message (packet_chunk p)) = leaf_message_bytes (packet_chunk p) (bytes_part p 4 (chunk_length p) b) in
      record { long = H.size (leaf_message (packet_chunk p)) m; bytes = H.byte (leaf_message (packet_chunk p)) m }

  top_whole : (p : List ℕ) → Bytes p → Sized p n c → Whole (packet_root F p n c)
  unfolding packet_root steps last_entry
  top_whole p b z = last_whole F H 0 c (leaf F (packet_chunk p)) (sibling_entries p n c) (low_whole p b) (siblings_whole p n c b z)

  module _ (p q : List ℕ) (b : Bytes p) (d : Bytes q) (root : List ℕ) (h : Held F p n c root) (g : Held F q n c root) (ne : packet_chunk p ≢ packet_chunk q) where
    -- the walk from the leaf on
    pub outcome : Outcome F (steps F p n c) (steps F q n c) (packet_root F p n c) (packet_root F q n c)
    unfolding steps packet_root last_entry leaf
    outcome =
        let e : Entry = leaf F (packet_chunk p) in
        let f : Entry = leaf F (packet_chunk q) in
        let s : Step = record { at = index 0 c; message = leaf_message (packet_chunk p); entry = e } in
        let t : Step = record { at = index 0 c; message = leaf_message (packet_chunk q); entry = f } in
        one_step F s t (steps_above F 0 c e (sibling_entries p n c)) (steps_above F 0 c f (sibling_entries q n c))
        (last_entry e (steps_above F 0 c e (sibling_entries p n c))) (last_entry f (steps_above F 0 c f (sibling_entries q n c)))
        (λ x. ne (leaf_injective (packet_chunk p) (packet_chunk q) x))
        (λ y. walk_up F H 0 c e f (sibling_entries p n c) (sibling_entries q n c) (low_whole p b) (low_whole q d) (siblings_whole p n c b h.sizes)
        (siblings_whole q n c d g.sizes) (siblings_count p n c ∙ sym (siblings_count q n c)) y)

    -- at the top the hashes differ, so the root messages do, and they have one hash
    pub at_the_roots : (packet_root F p n c).hash ≢ (packet_root F q n c).hash → Pair F (packet_root_message F p n c) (packet_root_message F q n c)
    at_the_roots x =
        record {
          differ = roots_differ_lem F p q n c h.chunk b d h.sizes g.sizes (top_whole p b h.sizes) (top_whole q d g.sizes) x;
          one_hash = h.hash ∙ sym g.hash;
        }

    pub root_named : (packet_root F p n c).hash ≢ (packet_root F q n c).hash → root_pair F p q n c ≡ at_roots
    unfolding root_pair
    root_named x =
        let w = at_the_roots x in
        ap (λ (t : Bool). cond t at_roots neither) (pair_true F (packet_root_message F p n c) (packet_root_message F q n c) w.differ w.one_hash)

    -- past the test of the chunks
    pub walks : walk F p q n c ≡ first_pair F (steps F p n c) (steps F q n c) (root_pair F p q n c)
    unfolding walk
    walks =
        ap (λ (t : Bool). cond t same_chunk (first_pair F (steps F p n c) (steps F q n c) (root_pair F p q n c)))
        (false_same (packet_chunk p) (packet_chunk q) ne)

    names : Names F p q n c (walk F p q n c)
    names = go outcome
      where
        go : Outcome F (steps F p n c) (steps F q n c) (packet_root F p n c) (packet_root F q n c) → Names F p q n c (walk F p q n c)
        go (found j w a o) = by_index j (walks ∙ w (root_pair F p q n c)) a o
        go (through w o x) = by_roots (walks ∙ w (root_pair F p q n c) ∙ root_named x) (at_the_roots x) o

-- ---- after both checks

module _ (F : List ℕ → List ℕ) (p q : List ℕ) (n c : ℕ) (root : List ℕ) where
  pub both_done : packet_verdict F p n c root ≡ done → packet_verdict F q n c root ≡ done → compare_packets F p q n c root ≡ walk F p q n c
  unfolding compare_packets
  both_done h g = λ t. unless_refused (h t) (g t) (walk F p q n c)

  pub same_said : packet_chunk p ≡ packet_chunk q → walk F p q n c ≡ same_chunk
  unfolding walk
  same_said e =
      ap (λ (t : Bool). cond t same_chunk (first_pair F (steps F p n c) (steps F q n c) (root_pair F p q n c))) (same_of (packet_chunk p) (packet_chunk q) e)

  pub first_refused_lem : (m : ℕ) (at : Spot) → packet_verdict F p n c root ≡ refused m at
      → compare_packets F p q n c root ≡ unless_refused (refused m at) (packet_verdict F q n c root) (walk F p q n c)
  unfolding compare_packets
  first_refused_lem m at h = ap (λ (v : Verdict). unless_refused v (packet_verdict F q n c root) (walk F p q n c)) h

  pub second_refused_lem : (m : ℕ) (at : Spot) → packet_verdict F p n c root ≡ done → packet_verdict F q n c root ≡ refused m at
      → compare_packets F p q n c root ≡ unless_refused done (refused m at) (walk F p q n c)
  unfolding compare_packets
  second_refused_lem m at h g = λ t. unless_refused (h t) (g t) (walk F p q n c)

pub tells : TellsForAll
tells F H p q b d n c root h g =
    record {
      same = λ e. both_done F p q n c root h g ∙ same_said F p q n c root e;
      other = λ ne. named (both_done F p q n c root h g) (names F H n c p q b d root (held F p n c root h) (held F q n c root g) ne);
    }
  where
    -- the answer of the walk is that of the call
    named : compare_packets F p q n c root ≡ walk F p q n c → Names F p q n c (walk F p q n c) → Names F p q n c (compare_packets F p q n c root)
    named e (by_index j w a o) = by_index j (e ∙ w) a o
    named e (by_roots w a o) = by_roots (e ∙ w) a o

pub refuses : RefusesForAll
refuses F p q n c root = record { first = first_refused_lem F p q n c root; second = second_refused_lem F p q n c root }

-- the hash of the calls is such a function
pub tells_of_the_call : (p q : List ℕ) → Bytes p → Bytes q → (n c : ℕ) (root : List ℕ) → packet_verdict node_hash p n c root ≡ done
    → packet_verdict node_hash q n c root ≡ done → Tells node_hash p q n c root
tells_of_the_call = tells node_hash hash_function
