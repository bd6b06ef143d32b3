-- All of them: copies with the same used bytes are the same once cut, and each call answers as of the cut copy. Assumes nothing.
use Prim.Native.Nat.{ℕ}
use mathlib.Core.Path.{◌≡◌, sym, ap, ap₂, ◌∙◌}
use mathlib.Core.List.{List}
use Rattle.answer_types.specs.Verdict.{Verdict, done}
use Rattle.record_find.specs.ChunkRecords.{header_after, node_after}
use Rattle.theorem_used_bytes.proofs.Records.{find_same}
use Rattle.copy_checks.specs.Copy.{Copy}
use Rattle.copy_checks.specs.Checks.{copy_judged}
use Rattle.copy_audit.specs.Audit.{audit_copy}
use Rattle.copy_lookup.specs.Lookups.{copy_place_of, copy_held_place_of, copy_byte_at}
use Rattle.copy_lookup.specs.Reading.{copy_read_verdict, copy_read_part, copy_read_found}
use Rattle.copy_roots.specs.Roots.{copy_root_verdict, copy_root_answer, copy_prefix_verdict, copy_prefix_root, copy_search}
use Rattle.copy_short_lookup.specs.Short.{copy_short_place_of, copy_short_byte_at, copy_short_search}
use Rattle.copy_records.specs.Records.{copy_header, copy_node, copy_find}
use Rattle.copy_packet.specs.Making.{copy_make_verdict, copy_made_length, copy_after_make}
use Rattle.theorem_copy_used_bytes.specs.UsedBytes.{SameUsed, UsedBytes}
use Rattle.theorem_copy_used_bytes.proofs.Cut.{cut_copy, same_cut, judged_cut}
use Rattle.theorem_copy_used_bytes.proofs.Calls.{root_verdict_cut, root_cut, old_verdict_cut, old_cut, search_cut, place_cut, held_place_cut}
use Rattle.theorem_copy_used_bytes.proofs.Calls.{byte_at_cut, read_verdict_cut, read_cut, read_found_cut, make_verdict_cut, made_length_cut}
use Rattle.theorem_copy_used_bytes.proofs.Calls.{after_make_cut, release_same, released_same}
use Rattle.theorem_copy_used_bytes.proofs.Audits.{audit_cut}
use Rattle.theorem_copy_used_bytes.proofs.Short.{short_place_cut, short_byte_cut, short_search_cut}
use Rattle.theorem_copy_used_bytes.proofs.Taking.{take_same, taken_same}

-- an answer that is the same of a copy and of the same cut
pub by_cut : {A : Type 0} (f : Copy → A) → ((c : Copy) → f (cut_copy c) ≡ f c) → (a b : Copy) → SameUsed a b → f a ≡ f b
by_cut f same a b h = sym (same a) ∙ ap f (same_cut a b h) ∙ same b

-- what is told of a chunk follows from its read alone, and what is found from that, the checks and n
module _ (F : List ℕ → List ℕ) (c : Copy) where
  told_cut : {A : Type 0} (told : Verdict → List ℕ → A) (i : ℕ)
      → told (copy_read_verdict F (cut_copy c) i) (copy_read_part F (cut_copy c) i) ≡ told (copy_read_verdict F c i) (copy_read_part F c i)
  told_cut told i = ap₂ told (read_verdict_cut F c i) (read_cut F c i)

  find_cut : (path : List ℕ) → copy_find F (cut_copy c) path ≡ copy_find F c path
  find_cut path =
      find_same (copy_read_verdict F (cut_copy c)) (copy_read_verdict F c) (copy_read_part F (cut_copy c)) (copy_read_part F c) (read_verdict_cut F c) (read_cut F c)
      (copy_judged (cut_copy c) done) (copy_judged c done) (judged_cut c done) c.n path

pub used_bytes : UsedBytes
used_bytes F a b h =
    record {
      audits = by_cut (audit_copy F) (audit_cut F) a b h;
      root_says = by_cut copy_root_verdict root_verdict_cut a b h;
      root = by_cut (copy_root_answer F) (λ c. root_cut c F) a b h;
      old_says = λ m. by_cut (λ c. copy_prefix_verdict c m) (λ c. old_verdict_cut c m) a b h;
      old = λ m. by_cut (λ c. copy_prefix_root F c m) (λ c. old_cut c m F) a b h;
      place = λ i. by_cut (λ c. copy_place_of c i) (λ c. place_cut c i) a b h;
      held_place = λ i. by_cut (λ c. copy_held_place_of c i) (λ c. held_place_cut c i) a b h;
      byte = λ x. by_cut (λ c. copy_byte_at c x) (λ c. byte_at_cut c x) a b h;
      read_says = λ i. by_cut (λ c. copy_read_verdict F c i) (λ c. read_verdict_cut F c i) a b h;
      read = λ i. by_cut (λ c. copy_read_part F c i) (λ c. read_cut F c i) a b h;
      read_finds = λ i. by_cut (λ c. copy_read_found F c i) (λ c. read_found_cut F c i) a b h;
      search = λ from. by_cut (λ c. copy_search c from) (λ c. search_cut c from) a b h;
      short_place = λ i. by_cut (λ c. copy_short_place_of c i) (λ c. short_place_cut c i) a b h;
      short_byte = λ x. by_cut (λ c. copy_short_byte_at c x) (λ c. short_byte_cut c x) a b h;
      short_search = λ from. by_cut (λ c. copy_short_search c from) (λ c. short_search_cut c from) a b h;
      header = λ i. by_cut (λ c. copy_header F c i) (λ c. told_cut F c (λ v d. header_after v d i) i) a b h;
      node = λ i. by_cut (λ c. copy_node F c i) (λ c. told_cut F c (λ v d. node_after v d i) i) a b h;
      found = λ path. by_cut (λ c. copy_find F c path) (λ c. find_cut F c path) a b h;
      make_says = λ i out. by_cut (λ c. copy_make_verdict F c i out) (λ c. make_verdict_cut F c i out) a b h;
      make_length = λ i out. by_cut (λ c. copy_made_length F c i out) (λ c. made_length_cut F c i out) a b h;
      packet = λ i out. by_cut (λ c. copy_after_make F c i out) (λ c. after_make_cut F c i out) a b h;
      release = λ i. release_same a b i h;
      released = λ i. released_same a b i h;
      take = take_same F a b h;
      taken = taken_same F a b h;
    }
