-- A packet that is made from a copy of a sequence is the one that is made from the sequence's register. Assumes nothing.
use Prim.Native.Nat.{ℕ, ◌<◌}
use mathlib.Core.Path.{◌≡◌, sym, ap, ap₂, ◌∙◌, subst}
use mathlib.Core.Bool.{Bool, true}
use mathlib.Core.Logic.{inl}
use mathlib.Core.List.{List, [], ◌∷◌, ◌++◌}
use native.Mathlib.Omega.{arith}
use borrow.Author.Tests.{lt-ltb}
use lib.ListN.{length, get_or, length-replicate}
use Rattle.answer_types.specs.Verdict.{done}
use Rattle.byte_strings.specs.Lists.{part, joined, zeros}
use Rattle.byte_strings.specs.Numbers.{be}
use Rattle.tree_index.specs.Tree.{filled, roots}
use Rattle.tree_index.proofs.Filled.{filled_below}
use Rattle.bitfield.specs.Known.{stored_known}
use Rattle.file_format.specs.Sizes.{entry_place}
use Rattle.file_format.specs.Messages.{HashFunction}
use Rattle.file_format.specs.Entries.{Entry, entry_bytes}
use Rattle.file_format.specs.Images.{leaves}
use Rattle.file_format.specs.Slots.{held, held_in, all_held, Within}
use Rattle.file_format.specs.Belongs.{Register}
use Rattle.file_format.proofs.Spans.{span, map_ext}
use Rattle.file_format.proofs.Slots.{slot_at, leaves_length, all_length, all_contents, all_held_lem, held_slot}
use Rattle.file_format.proofs.Nodes.{entry_at_filled}
use Rattle.file_format.proofs.OfImage.{stored_entry_lem}
use Rattle.checks.specs.Checks.{judged, register_checks}
use Rattle.checks.proofs.Passed.{passes}
use Rattle.audit.proofs.Audited.{accepted_audited}
use Rattle.audit.proofs.Accepts.{has_register}
use Rattle.lookup.specs.Read.{chunk_bytes}
use Rattle.lookup.specs.Theorems.{Answers}
use Rattle.lookup.proofs.Answers.{answers}
use Rattle.lookup.proofs.Calls.{chunk_at, done_first}
use Rattle.packet.specs.Packet.{siblings, other_roots, section, packet_of, packet_with}
use Rattle.packet.specs.Inner.{ChunkOf}
use Rattle.packet.proofs.Answers.{packet_answers}
use Rattle.packet.proofs.Makes.{read_bytes}
use Rattle.packet.proofs.Rows.{Filled, siblings_filled, others_filled}
use Rattle.packet_compare.proofs.Stands.{sibling_is}
use Rattle.copy_checks.specs.Copy.{Copy, unsigned, known}
use Rattle.copy_checks.specs.Checks.{unknown_root}
use Rattle.copy_checks.specs.Descents.{copy_to_chunk}
use Rattle.copy_lookup.proofs.AsRegister.{read_held}
use Rattle.copy_lookup.specs.Reading.{copy_read_verdict}
use Rattle.copy_packet.specs.Making.{copy_make_verdict}
use Rattle.copy_release.specs.Release.{copy_release_verdict}
use Rattle.byte_strings.proofs.Members.{In}
use Rattle.theorem_taking_laws.proofs.Ways.{other_root}
use Rattle.file_format.proofs.Shown.{shown_known}
use Rattle.theorem_copies_whole.specs.Whole.{MadeFrom}
use Rattle.theorem_copies_whole.proofs.Full.{full, full_belongs}
use Rattle.theorem_copies_whole.proofs.Partly.{Partly, tree_bit_in}
use Rattle.theorem_copies_whole.proofs.Alike.{all_known}
use Rattle.theorem_copies_whole.proofs.Known.{KnownBelow, descent_known}
use Rattle.theorem_copies_whole.proofs.Releases.{Releasing, releasing, same_count, has_it, lands, size_is}

module _ (F : List ℕ → List ℕ) (hf : HashFunction F) (cs : List (List ℕ)) (w : Within (all_held cs)) where
  abbrev whole : Register
  whole = full F hf cs w

  abbrev es : List Entry
  es = leaves F (all_held cs)

  whole_passed : judged (register_checks whole) done ≡ done
  whole_passed = passes whole done (accepted_audited F whole (has_register F (all_held cs) hf w).2).checked

  module _ (d : Copy) (has knows : ℕ → Bool) (tail : List ℕ) (q : Partly F cs d has knows tail) (i : ℕ) (out : List ℕ) (e : copy_make_verdict F d i out ≡ done) where
    read_done_lem : copy_read_verdict F d i ≡ done
    unfolding copy_make_verdict
    read_done_lem = done_first (copy_read_verdict F d i) _ e

    release_done_lem : copy_release_verdict d i ≡ done
    unfolding copy_release_verdict
    release_done_lem = read_held F d i read_done_lem

    r : Releasing d i
    r = releasing d i release_done_lem

    in_sequence : i < length cs
    in_sequence = subst (λ (n : ℕ). i < n) q.count r.below

    chunk : ChunkOf d.n i
    chunk = record { count = omega (arith, q.count, w.count, all_length cs); below = r.below }

    -- ---- the chunk

    piece : chunk_bytes (unsigned d) i ≡ get_or cs i []
    piece =
        chunk_at (unsigned d) i r.below (lands F hf cs w d has knows tail q i r)
        ∙ ap (part d.content (span cs 0 i)) (size_is F hf cs w d has knows tail q i r) ∙ q.chunk i (has_it F hf cs w d has knows tail q i r)

    in_all : held_in (all_held cs) i ≡ true
    in_all = all_held_lem cs i ∙ lt-ltb i (length cs) in_sequence

    whole_piece : chunk_bytes whole i ≡ get_or cs i []
    whole_piece =
        let told : Answers F whole (all_held cs) _ = answers F hf (all_held cs) w whole (full_belongs F hf cs w) whole_passed in
        sym (read_bytes F whole i (sym (told.read_done i in_all)) (get_or cs i [])
        (sym (told.read i in_all ∙ ap (λ (l : List (List ℕ)). get_or l i []) (all_contents cs))))

    -- ---- the entries

    knows_it : (j : ℕ) → filled d.n j ≡ true → known d j ≡ true → knows j ≡ true
    knows_it j f k =
        sym (ap (λ (x : List ℕ). stored_known x j) q.bits ∙ shown_known has knows d.n tail j (tree_bit_in d.n j (filled_below d.n j f))) ∙ k

    entry_same : (j : ℕ) → filled d.n j ≡ true → known d j ≡ true → part d.tree (entry_place j) 40 ≡ part whole.tree (entry_place j) 40
    entry_same j f k =
        let n : whole.n ≡ d.n = same_count F hf cs w d has knows tail q in
        let g : filled whole.n j ≡ true = ap (λ (x : ℕ). filled x j) n ∙ f in
        let m : filled (length es) j ≡ true = ap (λ (x : ℕ). filled x j) (leaves_length F (all_held cs) ∙ all_length cs ∙ sym q.count) ∙ f in
        q.entry j (knows_it j f k)
        ∙ sym (stored_entry_lem F hf (all_held cs) w whole (full_belongs F hf cs w) j (filled_below whole.n j g) ∙ ap entry_bytes (entry_at_filled F es j m))

    section_same : (is : List ℕ) → Filled d.n is → ((j : ℕ) → j < length is → known d (get_or is j 0) ≡ true) → section d.tree is ≡ section whole.tree is
    unfolding section
    section_same is f k =
        ap (λ (l : List (List ℕ)). length is ∷ joined l)
        (map_ext (λ j. part d.tree (entry_place j) 40) (λ j. part whole.tree (entry_place j) 40) is (λ j l. entry_same (get_or is j 0) (f j l) (k j l)))

    below_known : KnownBelow (known d) d.tree i (length (siblings d.n i))
    unfolding copy_to_chunk
    below_known = descent_known (known d) d.tree i d.n i r.start chunk r.comes

    root_known : (j : ℕ) → In j (roots d.n) → known d j ≡ true
    unfolding unknown_root
    root_known j m = all_known (known d) (roots d.n) r.knowing.rooted j m

    sides_same : section d.tree (siblings d.n i) ≡ section whole.tree (siblings d.n i)
    sides_same =
        section_same (siblings d.n i) (siblings_filled d.n i chunk) (λ j l. ap (known d) (sibling_is F [] d.n i j l) ∙ (below_known j l).1)

    others_same : section d.tree (other_roots d.n i) ≡ section whole.tree (other_roots d.n i)
    others_same =
        section_same (other_roots d.n i) (others_filled d.n i chunk) (λ j l. root_known (get_or (other_roots d.n i) j 0) (other_root d.n i chunk j l).0)

    -- ---- the packet

    packet_same : packet_of (unsigned d) i ≡ packet_of whole i
    unfolding packet_of packet_with
    packet_same =
        ap (packet_with d.tree d.n i) piece
        ∙ ap₂ (λ (x y : List ℕ). be 4 (length (get_or cs i [])) ++ (get_or cs i [] ++ (x ++ y))) sides_same others_same
        ∙ ap (λ (n : ℕ). packet_with whole.tree n i (get_or cs i [])) (sym (same_count F hf cs w d has knows tail q))
        ∙ ap (packet_with whole.tree whole.n i) (sym whole_piece)

    each_held : (k : ℕ) → k < length cs → slot_at (all_held cs) k ≡ held (get_or cs k [])
    each_held k l =
        held_slot (all_held cs) k (subst (λ (n : ℕ). k < n) (sym (all_length cs)) l) (all_held_lem cs k ∙ lt-ltb k (length cs) l)
        ∙ ap (λ (x : List (List ℕ)). held (get_or x k [])) (all_contents cs)

    pub handed : MadeFrom F cs (packet_of (unsigned d) i) i
    handed =
        record {
          register = whole;
          slots = all_held cs;
          within = w;
          belongs = full_belongs F hf cs w;
          sequence = record { count = all_length cs; each = λ k l. inl (each_held k l) };
          out = zeros (length (packet_of whole i));
          made =
              (packet_answers F hf (all_held cs) w whole (full_belongs F hf cs w) whole_passed i in_all).made (zeros (length (packet_of whole i)))
              (omega (arith, length-replicate {A = ℕ} (length (packet_of whole i)) 0));
          packet = packet_same;
        }
