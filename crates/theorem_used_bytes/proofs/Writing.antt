-- The calls that write leave the same used bytes in registers with the same used bytes.
-- Assumes nothing.
use Prim.Native.Nat.{ℕ, ◌+◌, ◌*◌, ◌/◌, ◌%◌, ◌≤◌, ◌<◌}
use mathlib.Core.Path.{◌≡◌, refl, sym, ap, ap₂, ◌∙◌, subst}
use mathlib.Core.Bool.{Bool, true, false}
use mathlib.Core.Logic.{◌↔◌, ⊎_elim}
use mathlib.Core.List.{List, [], ◌∷◌, ◌++◌, map}
use native.Mathlib.Nat.{pos_of_ne-zero}
use native.Mathlib.Omega.{arith}
use borrow.Author.Tests.{ltb-true, ltb-false}
use lib.Dec.{ltb}
use lib.ListN.{length, take, drop, length-replicate}
use lib.Seq.{take-take, take-add, length-take-le}
use Rattle.answer_types.specs.Verdict.{Verdict, done, refused}
use Rattle.byte_strings.specs.Lists.{part, put, zeros, joined, among, Bytes}
use Rattle.byte_strings.proofs.Lists.{run_ext, parts_joined, take_put_end}
use Rattle.tree_index.specs.Tree.{depth, completed, filled_by, entries}
use Rattle.tree_index.proofs.Filled.{filled_below}
use Rattle.bitfield.specs.Image.{entry_count}
use Rattle.bitfield.specs.Append.{bits_place, zeroed_if_new, set_data_bit, set_tree_bits, regenerated, with_bits, appended}
use Rattle.bitfield.proofs.Levels.{same_or}
use Rattle.bitfield.proofs.Append.{zeroed_new}
use Rattle.file_format.specs.Sizes.{most_chunks, entry_place, used_tree, used_signatures, used_bitfield}
use Rattle.file_format.specs.Messages.{HashFunction}
use Rattle.file_format.specs.Entries.{Entry, entry_bytes, leaf}
use Rattle.file_format.specs.Stored.{stored_hash, stored_size, stored_root_message}
use Rattle.file_format.specs.Belongs.{Buffers, Register}
use Rattle.file_format.proofs.Places.{put_rest}
use Rattle.writing.specs.Start.{started_register, started}
use Rattle.writing.specs.Append.{append_verdict, stored_entry, sibling, new_entries, appended_tree, appended_register, root_unless_refused, append_root}
use Rattle.writing.specs.Sign.{signed_register}
use Rattle.writing.specs.Conditions.{AppendFits, SignFits}
use Rattle.writing.proofs.Started.{started_belongs, started_signatures}
use Rattle.writing.proofs.Climbed.{sibling_filled}
use Rattle.writing.specs.Inner.{made}
use Rattle.writing.proofs.Made.{new_made, made_long, climb_same}
use Rattle.writing.proofs.Tree.{tree_length_lem, tree_front, tree_new, tree_old, tree_hole}
use Rattle.writing.proofs.Bits.{bits_front}
use Rattle.writing.proofs.Verdicts.{append_passed, sign_passed}
use Rattle.append_list.specs.Chunks.{chunks_of}
use Rattle.append_list.specs.Append.{list_verdict, appended_list, list_root}
use Rattle.append_list.specs.Conditions.{ListFits}
use Rattle.append_list.proofs.Chunks.{Chunk}
use Rattle.append_list.proofs.Parts.{onward}
use Rattle.append_list.proofs.Verdicts.{list_passed}
use Rattle.append_list.proofs.Steps.{ChunksFit, list_chunks, first_fits, zeros_fit, rest_fit}
use Rattle.append_list.proofs.Passes.{bytes_long, next_bytes}
use Rattle.theorem_used_bytes.specs.UsedBytes.{SameUsed, WritesUsed}
use Rattle.theorem_used_bytes.proofs.Cut.{same_cut, hash_cut, size_cut, entry_cut, root_message_cut}
use Rattle.theorem_used_bytes.proofs.Released.{release_same, released_same}
use Rattle.theorem_used_bytes.proofs.Verdicts.{start_same, sign_same, append_same, list_same}

-- ---- the root message

message_same : (a b : Register) → SameUsed a b → stored_root_message a.tree a.n ≡ stored_root_message b.tree b.n
message_same a b h =
    sym (root_message_cut a.tree a.n) ∙ ap (λ (r : Register). stored_root_message r.tree r.n) (same_cut a b h) ∙ root_message_cut b.tree b.n

-- ---- a start

started_same : (F : List ℕ → List ℕ) (a b : Buffers) → SameUsed (started_register a) (started_register b)
unfolding started_register
started_same F a b =
    record {
      n = refl;
      s = refl;
      size = refl;
      tree = (started_belongs F a).tree ∙ sym (started_belongs F b).tree;
      signatures = started_signatures a ∙ sym (started_signatures b);
      bitfield = (started_belongs F a).bitfield ∙ sym (started_belongs F b).bitfield;
      content = refl;
    }

-- ---- a stored signature

module _ (a b : Register) (h : SameUsed a b) where
  signed_same : (signature : List ℕ) → length signature ≡ 64 → SignFits a → SignFits b → SameUsed (signed_register a signature) (signed_register b signature)
  unfolding signed_register used_signatures
  signed_same signature long e d =
      record {
        n = h.n;
        s = ap (λ (k : ℕ). k + 1) h.s;
        size = h.size;
        tree = h.tree;
        signatures =
            let next : used_signatures (a.s + 1) ≡ used_signatures a.s + 64 = omega arith in
            ap (λ (m : ℕ). take m (put a.signatures (used_signatures a.s) signature)) next
            ∙ take_put_end a.signatures (used_signatures a.s) 64 signature long (omega (arith, e.room))
            ∙ ap (λ (l : List ℕ). l ++ signature) h.signatures
            ∙ sym (take_put_end b.signatures (used_signatures a.s) 64 signature long (omega (arith, d.room, h.s)))
            ∙ ap₂ (λ (m s : ℕ). take m (put b.signatures (used_signatures s) signature)) (sym next) h.s;
        bitfield = h.bitfield;
        content = h.content;
      }

-- ---- the tree after an append

-- a tree file is its header and its entries
tree_of : (xs ys : List ℕ) (n : ℕ) → take 32 xs ≡ take 32 ys → ((i : ℕ) → i < entries n → part xs (entry_place i) 40 ≡ part ys (entry_place i) 40)
    → take (used_tree n) xs ≡ take (used_tree n) ys
unfolding used_tree entry_place part
tree_of xs ys n f e =
    take-add 32 (40 * entries n) xs
    ∙ ap₂ (λ (p q : List ℕ). p ++ q) f
    (sym (parts_joined xs 32 40 (entries n))
    ∙ ap joined (run_ext (λ i. part xs (32 + 40 * i) 40) (λ i. part ys (32 + 40 * i) 40) 0 (entries n) (λ i p q. e i (omega arith)))
    ∙ parts_joined ys 32 40 (entries n))
    ∙ sym (take-add 32 (40 * entries n) ys)

module _ (F : List ℕ → List ℕ) (hf : HashFunction F) (t u : List ℕ) (n : ℕ) (c : List ℕ) (q : Bytes t) (p : Bytes c) (few : n < most_chunks)
    (same : take (used_tree n) t ≡ take (used_tree n) u) (room_t : used_tree (n + 1) ≤ length t) (room_u : used_tree (n + 1) ≤ length u) where
  abbrev entry : ℕ → Entry
  entry i = made F t n (leaf F c) (depth i)

  long : (i : ℕ) → length (entry_bytes (entry i)) ≡ 40
  long i = made_long F hf t n c q p (depth i)

  -- both make the same entries, of siblings within the used bytes
  stored_same : (i : ℕ) → i < entries n → stored_entry t i ≡ stored_entry u i
  unfolding stored_entry
  stored_same i l =
      ap₂ (λ (x : List ℕ) (z : ℕ). record { hash = x; size = z })
      (sym (hash_cut t n i l) ∙ ap (λ (y : List ℕ). stored_hash y i) same ∙ hash_cut u n i l)
      (sym (size_cut t n i l) ∙ ap (λ (y : List ℕ). stored_size y i) same ∙ size_cut u n i l)

  new_u : new_entries F u n c ≡ map entry (filled_by n)
  unfolding new_entries
  new_u =
      sym (climb_same F t u n (λ d l. stored_same (sibling n d) (filled_below n (sibling n d) (sibling_filled n d few l))) (completed n) 0 (leaf F c) (omega arith))
      ∙ new_made F t n c

  front : take 32 (appended_tree F t n c) ≡ take 32 (appended_tree F u n c)
  unfolding used_tree
  front =
      tree_front F t n c entry long (new_made F t n c) few room_t
      ∙ sym (take-take 32 (used_tree n) t (omega arith)) ∙ ap (take 32) same ∙ take-take 32 (used_tree n) u (omega arith)
      ∙ sym (tree_front F u n c entry long new_u few room_u)

  each : (i : ℕ) → i < entries (n + 1) → part (appended_tree F t n c) (entry_place i) 40 ≡ part (appended_tree F u n c) (entry_place i) 40
  each i h = go (among i (filled_by n)) refl
    where
      kept : (b : Bool) → ltb i (entries n) ≡ b → among i (filled_by n) ≡ false → part (appended_tree F t n c) (entry_place i) 40 ≡ part (appended_tree F u n c) (entry_place i) 40
      kept true l e =
          let k : i < entries n = ltb-true i (entries n) l in
          tree_old F t n c entry long (new_made F t n c) few room_t i e k
          ∙ sym (entry_cut t n i k) ∙ ap (λ (y : List ℕ). part y (entry_place i) 40) same ∙ entry_cut u n i k
          ∙ sym (tree_old F u n c entry long new_u few room_u i e k)
      kept false l e =
          let k : entries n ≤ i = ltb-false i (entries n) l in
          tree_hole F t n c entry long (new_made F t n c) few room_t i e k h ∙ sym (tree_hole F u n c entry long new_u few room_u i e k h)

      go : (b : Bool) → among i (filled_by n) ≡ b → part (appended_tree F t n c) (entry_place i) 40 ≡ part (appended_tree F u n c) (entry_place i) 40
      go true e = tree_new F t n c entry long (new_made F t n c) few room_t i e ∙ sym (tree_new F u n c entry long new_u few room_u i e)
      go false e = kept (ltb i (entries n)) refl e

  -- the second file stays as long as it was
  long_u : length (appended_tree F u n c) ≡ length u
  long_u = tree_length_lem F u n c entry long new_u few room_u

  tree_same : take (used_tree (n + 1)) (appended_tree F t n c) ≡ take (used_tree (n + 1)) (appended_tree F u n c)
  tree_same = tree_of (appended_tree F t n c) (appended_tree F u n c) (n + 1) front each

-- ---- the bitfield after an append

full : length (zeros 64) ≡ 64
full = length-replicate {A = ℕ} 64 0

zeros_long : length (zeros 3328) ≡ 3328
zeros_long = length-replicate {A = ℕ} 3328 0

module _ (xs ys : List ℕ) (n : ℕ) (few : n < most_chunks) (same : take (used_bitfield n) xs ≡ take (used_bitfield n) ys)
    (room_x : used_bitfield (n + 1) ≤ length xs) (room_y : used_bitfield (n + 1) ≤ length ys) where
  -- a new entry is zeroed first, so what stood there does not matter
  zeroed : (l : List ℕ) → n % 8192 ≡ 0 → used_bitfield (n + 1) ≤ length l → zeroed_if_new (take (used_bitfield (n + 1)) l) n ≡ take (used_bitfield n) l ++ zeros 3328
  unfolding used_bitfield entry_count bits_place
  zeroed l e room =
      let at : bits_place (n / 8192) ≡ used_bitfield n = omega arith in
      let next : used_bitfield n + 3328 ≡ used_bitfield (n + 1) = omega arith in
      zeroed_new (take (used_bitfield (n + 1)) l) n e
      ∙ ap (λ (p : ℕ). put (take (used_bitfield (n + 1)) l) p (zeros 3328)) at
      ∙ put_rest (take (used_bitfield (n + 1)) l) (used_bitfield n) (zeros 3328) (omega (arith, zeros_long, next, length-take-le (used_bitfield (n + 1)) l room))
      ∙ ap (λ (f : List ℕ). f ++ zeros 3328) (take-take (used_bitfield n) (used_bitfield (n + 1)) l (omega (arith, next)))

  -- else the used bytes are as many as before
  opened : (l : List ℕ) → (n % 8192 ≡ 0 → ⊥) → take (used_bitfield (n + 1)) l ≡ take (used_bitfield n) l
  unfolding used_bitfield entry_count
  opened l e = let k : used_bitfield (n + 1) ≡ used_bitfield n = omega (arith, pos_of_ne-zero e) in ap (λ (m : ℕ). take m l) k

  cut_same : zeroed_if_new (take (used_bitfield (n + 1)) xs) n ≡ zeroed_if_new (take (used_bitfield (n + 1)) ys) n
  cut_same =
      ⊎_elim
      (λ e. zeroed xs e room_x ∙ ap (λ (f : List ℕ). f ++ zeros 3328) same ∙ sym (zeroed ys e room_y))
      (λ e. ap (λ (l : List ℕ). zeroed_if_new l n) (opened xs e ∙ same ∙ sym (opened ys e)))
      (same_or (n % 8192) 0)

  bits_same : take (used_bitfield (n + 1)) (appended xs n) ≡ take (used_bitfield (n + 1)) (appended ys n)
  unfolding appended with_bits
  bits_same =
      bits_front xs n few room_x
      ∙ ap (λ (l : List ℕ). regenerated (set_tree_bits (set_data_bit l n) (filled_by n)) (n / 8192)) cut_same
      ∙ sym (bits_front ys n few room_y)

-- ---- the register after an append

module _ (F : List ℕ → List ℕ) (hf : HashFunction F) (a b : Register) (chunk : List ℕ) (h : SameUsed a b) (l : Bytes a.tree) (p : Bytes chunk) where
  roomy : AppendFits b chunk → used_tree (a.n + 1) ≤ length b.tree
  roomy g = subst (λ (n : ℕ). used_tree (n + 1) ≤ length b.tree) (sym h.n) g.tree

  appended_long : AppendFits a chunk → AppendFits b chunk → length (appended_tree F b.tree b.n chunk) ≡ length b.tree
  appended_long f g =
      ap (λ (n : ℕ). length (appended_tree F b.tree n chunk)) (sym h.n)
      ∙ long_u F hf a.tree b.tree a.n chunk l p f.fewer h.tree f.tree (roomy g)

  appended_same : AppendFits a chunk → AppendFits b chunk → SameUsed (appended_register F a chunk) (appended_register F b chunk)
  unfolding appended_register
  appended_same f g =
      record {
        n = ap (λ (k : ℕ). k + 1) h.n;
        s = h.s;
        size = ap (λ (k : ℕ). k + length chunk) h.size;
        tree =
            tree_same F hf a.tree b.tree a.n chunk l p f.fewer h.tree f.tree (roomy g)
            ∙ ap (λ (n : ℕ). take (used_tree (a.n + 1)) (appended_tree F b.tree n chunk)) h.n;
        signatures = h.signatures;
        bitfield =
            bits_same a.bitfield b.bitfield a.n f.fewer h.bitfield f.bitfield
            (subst (λ (n : ℕ). used_bitfield (n + 1) ≤ length b.bitfield) (sym h.n) g.bitfield)
            ∙ ap (λ (n : ℕ). take (used_bitfield (a.n + 1)) (appended b.bitfield n)) h.n;
        content =
            take_put_end a.content a.size (length chunk) chunk refl (omega (arith, f.content))
            ∙ ap (λ (x : List ℕ). x ++ chunk) h.content
            ∙ sym (take_put_end b.content a.size (length chunk) chunk refl
            (omega (arith, g.content, h.size)))
            ∙ ap (λ (z : ℕ). take (a.size + length chunk) (put b.content z chunk)) h.size;
      }

  -- and its root hash
  root_same_lem : AppendFits a chunk ↔ AppendFits b chunk → append_root F a chunk ≡ append_root F b chunk
  unfolding append_root
  root_same_lem f =
      ap (λ (v : Verdict). root_unless_refused F v (appended_register F a chunk)) (append_same a b chunk h f) ∙ go (append_verdict b chunk) refl
    where
      go : (v : Verdict) → append_verdict b chunk ≡ v → root_unless_refused F v (appended_register F a chunk) ≡ root_unless_refused F v (appended_register F b chunk)
      go done e = ap F (message_same (appended_register F a chunk) (appended_register F b chunk) (appended_same (append_passed a chunk (append_same a b chunk h f ∙ e)).1 (append_passed b chunk e).1))
      go (refused m at) e = refl

-- ---- a list

module _ (F : List ℕ → List ℕ) (hf : HashFunction F) where
  by_chunks : (cs : List (List ℕ)) (c : List ℕ) (a b : Register) → SameUsed a b → Bytes a.tree → ChunksFit a (c ∷ cs) → ChunksFit b (c ∷ cs)
      → SameUsed (appended_list F a (c ∷ cs)) (appended_list F b (c ∷ cs))
  unfolding appended_list
  by_chunks [] c a b h l f g = appended_same F hf a b c h l f.each.0.bytes (first_fits a c [] f) (first_fits b c [] g)
  by_chunks (d ∷ cs) c a b h l f g =
      let p : Chunk c = f.each.0 in
      let x = first_fits a c (d ∷ cs) f in
      let y = first_fits b c (d ∷ cs) g in
      let s : SameUsed (appended_register F a c) (appended_register F b c) = appended_same F hf a b c h l p.bytes x y in
      by_chunks cs d (onward F a c) (onward F b c) (signed_same (appended_register F a c) (appended_register F b c) s (zeros 64) full (zeros_fit F a c d cs f) (zeros_fit F b c d cs g))
      (next_bytes F hf a c l p x) (rest_fit F a c d cs f (bytes_long F hf a c l p x)) (rest_fit F b c d cs g (appended_long F hf a b c h l p.bytes x y))

  listed_same : (a b : Register) (ls bs : List ℕ) → SameUsed a b → Bytes a.tree → Bytes bs → ListFits a ls bs → ListFits b ls bs
      → SameUsed (appended_list F a (chunks_of ls bs)) (appended_list F b (chunks_of ls bs))
  unfolding chunks_of
  listed_same a b [] bs h l p f g = absurd (omega (arith, f.some))
  listed_same a b (k ∷ ls) bs h l p f g =
      by_chunks (chunks_of ls (drop k bs)) (take k bs) a b h l (list_chunks a (k ∷ ls) bs f p) (list_chunks b (k ∷ ls) bs g p)

  -- and its root hash
  list_root_same : (a b : Register) (ls bs : List ℕ) → SameUsed a b → Bytes a.tree → Bytes bs → ListFits a ls bs ↔ ListFits b ls bs
      → list_root F a ls bs ≡ list_root F b ls bs
  unfolding list_root
  list_root_same a b ls bs h l p f =
      ap (λ (v : Verdict). root_unless_refused F v (appended_list F a (chunks_of ls bs))) (list_same a b ls bs h f) ∙ go (list_verdict b ls bs) refl
    where
      go : (v : Verdict) → list_verdict b ls bs ≡ v
          → root_unless_refused F v (appended_list F a (chunks_of ls bs)) ≡ root_unless_refused F v (appended_list F b (chunks_of ls bs))
      go done e =
          let g : ListFits b ls bs = (list_passed b ls bs e).1 in
          ap F (message_same (appended_list F a (chunks_of ls bs)) (appended_list F b (chunks_of ls bs)) (listed_same a b ls bs h l p (f.1 g) g))
      go (refused m at) e = refl

pub writes : (F : List ℕ → List ℕ) → HashFunction F → WritesUsed F
writes F hf =
    record {
      start = start_same;
      started = λ a b d e. started_same F a b;
      append = λ a b chunk h f. append_same a b chunk h f;
      appended = λ a b chunk h l p d e. appended_same F hf a b chunk h l.tree p (append_passed a chunk d).1 (append_passed b chunk e).1;
      root = λ a b chunk h l p f. root_same_lem F hf a b chunk h l.tree p f;
      list = λ a b ls bs h f. list_same a b ls bs h f;
      listed = λ a b ls bs h l p d e. listed_same F hf a b ls bs h l.tree p (list_passed a ls bs d).1 (list_passed b ls bs e).1;
      list_roots = λ a b ls bs h l p f. list_root_same F hf a b ls bs h l.tree p f;
      sign = λ a b h f. sign_same a b h f;
      signed = λ a b signature h g d e. signed_same a b h signature g (sign_passed a d).1 (sign_passed b e).1;
      release = release_same;
      released = released_same;
    }
