-- The calls that read: registers with the same used bytes are the same once cut, and each call answers as of the cut register.
-- Assumes nothing.
use Prim.Native.Nat.{ℕ}
use mathlib.Core.Path.{◌≡◌, refl, sym, ap, ◌∙◌}
use mathlib.Core.List.{List, ◌++◌}
use Rattle.answer_types.specs.Verdict.{Verdict, done, refused, unless_refused}
use Rattle.byte_strings.specs.Lists.{zeros}
use Rattle.file_format.specs.Stored.{stored_root_message}
use Rattle.file_format.specs.Belongs.{Register}
use Rattle.checks.specs.Checks.{Check, judged}
use Rattle.writing.specs.Append.{root_unless_refused}
use Rattle.writing.specs.RootHash.{root_verdict, root_answer}
use Rattle.prefix_root.specs.PrefixRoot.{own_checks, prefix_verdict, prefix_root}
use Rattle.prefix_root.proofs.Calls.{old_passed}
use Rattle.audit.specs.Audit.{audit}
use Rattle.compare.specs.Walk.{compare}
use Rattle.lookup.specs.Lookup.{place_of, byte_at}
use Rattle.lookup.specs.Read.{read_found, read_verdict, read_part}
use Rattle.search.specs.Search.{search_for}
use Rattle.short_lookup.specs.ShortLookup.{short_place_of, short_byte_at, short_search_for}
use Rattle.packet.specs.Packet.{make_verdict, made_length, after_make}
use Rattle.theorem_used_bytes.specs.UsedBytes.{SameUsed, ReadsUsed}
use Rattle.theorem_used_bytes.proofs.Cut.{cut, same_cut, old_message_cut, root_message_cut, checks_cut}
use Rattle.theorem_used_bytes.proofs.Lookups.{place_cut, byte_at_cut, read_verdict_cut, read_cut, read_found_cut}
use Rattle.theorem_used_bytes.proofs.Audits.{audit_cut, compare_cut}
use Rattle.theorem_used_bytes.proofs.Packets.{make_verdict_cut, made_length_cut, after_make_cut}
use Rattle.theorem_used_bytes.proofs.Released.{search_cut}
use Rattle.theorem_used_bytes.proofs.ShortLookups.{short_place_cut, short_byte_cut, short_search_cut}

-- ---- the root hash

root_verdict_cut : (r : Register) → root_verdict (cut r) ≡ root_verdict r
unfolding root_verdict
root_verdict_cut r = ap (λ l. judged l done) (checks_cut r)

root_cut : (F : List ℕ → List ℕ) (r : Register) → root_answer F (cut r) ≡ root_answer F r
unfolding root_answer
root_cut F r = ap (λ (v : Verdict). root_unless_refused F v (cut r)) (root_verdict_cut r) ∙ go (root_verdict r)
  where
    go : (v : Verdict) → root_unless_refused F v (cut r) ≡ root_unless_refused F v r
    go done = ap F (root_message_cut r.tree r.n)
    go (refused m at) = refl

-- ---- the root hash of the first m chunks

old_verdict_cut : (r : Register) (m : ℕ) → prefix_verdict (cut r) m ≡ prefix_verdict r m
unfolding prefix_verdict
old_verdict_cut r m = ap (λ (l : List Check). judged (l ++ own_checks r.n m) done) (checks_cut r)

old_cut : (F : List ℕ → List ℕ) (r : Register) (m : ℕ) → prefix_root F (cut r) m ≡ prefix_root F r m
unfolding prefix_root
old_cut F r m =
    ap (λ (v : Verdict). unless_refused v (F (stored_root_message (cut r).tree m)) (zeros 32)) (old_verdict_cut r m) ∙ go (prefix_verdict r m) refl
  where
    go : (v : Verdict) → prefix_verdict r m ≡ v
        → unless_refused v (F (stored_root_message (cut r).tree m)) (zeros 32) ≡ unless_refused v (F (stored_root_message r.tree m)) (zeros 32)
    go done e = ap F (old_message_cut r.tree r.n m (old_passed r m e).up_to)
    go (refused k at) e = refl

-- ---- all of them

-- an answer that is the same of a register and of the same cut
pub by_cut : {A : Type 0} (f : Register → A) → ((r : Register) → f (cut r) ≡ f r) → (a b : Register) → SameUsed a b → f a ≡ f b
by_cut f same a b h = sym (same a) ∙ ap f (same_cut a b h) ∙ same b

pub reads : (F : List ℕ → List ℕ) → ReadsUsed F
reads F =
    record {
      one = λ a b h.
          record {
            audits = by_cut (audit F) (audit_cut F) a b h;
            root_says = by_cut root_verdict root_verdict_cut a b h;
            root = by_cut (root_answer F) (root_cut F) a b h;
            old_says = λ m. by_cut (λ r. prefix_verdict r m) (λ r. old_verdict_cut r m) a b h;
            old = λ m. by_cut (λ r. prefix_root F r m) (λ r. old_cut F r m) a b h;
            place = λ c. by_cut (λ r. place_of r c) (λ r. place_cut r c) a b h;
            byte = λ x. by_cut (λ r. byte_at r x) (λ r. byte_at_cut r x) a b h;
            read_says = λ c. by_cut (λ r. read_verdict F r c) (λ r. read_verdict_cut F r c) a b h;
            read = λ c. by_cut (λ r. read_part F r c) (λ r. read_cut F r c) a b h;
            read_finds = λ c. by_cut (λ r. read_found F r c) (λ r. read_found_cut F r c) a b h;
            search = λ from. by_cut (λ r. search_for r from) (λ r. search_cut r from) a b h;
            short_place = λ c. by_cut (λ r. short_place_of r c) (λ r. short_place_cut r c) a b h;
            short_byte = λ x. by_cut (λ r. short_byte_at r x) (λ r. short_byte_cut r x) a b h;
            short_search = λ from. by_cut (λ r. short_search_for r from) (λ r. short_search_cut r from) a b h;
            make_says = λ c out. by_cut (λ r. make_verdict F r c out) (λ r. make_verdict_cut F r c out) a b h;
            make_length = λ c out. by_cut (λ r. made_length F r c out) (λ r. made_length_cut F r c out) a b h;
            packet = λ c out. by_cut (λ r. after_make F r c out) (λ r. after_make_cut F r c out) a b h;
          };
      two = λ a b c d g h.
          sym (compare_cut F a c) ∙ (λ i. compare F (same_cut a b g i) (same_cut c d h i)) ∙ compare_cut F b d;
    }
