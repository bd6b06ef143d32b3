-- How the chunks of two packets lie that are taken in one after the other, by the tree that holds what both bring; and the theorem. Assumes nothing.
use Prim.Native.Nat.{ℕ, ◌+◌, ◌≤◌, ◌<◌}
use mathlib.Core.Path.{◌≡◌, sym, ap, ◌∙◌, subst}
use mathlib.Core.Logic.{◌⊎◌, inl, inr}
use mathlib.Core.List.{List}
use native.Mathlib.Decide.{dec_lt}
use native.Mathlib.Omega.{arith}
use lib.Arith.{lt_of_le-ne}
use lib.ListN.{length}
use Rattle.byte_strings.specs.Lists.{part, total}
use Rattle.tree_index.specs.Tree.{index}
use Rattle.file_format.specs.Sizes.{longest_chunk, entry_place}
use Rattle.file_format.specs.Stored.{stored_size, stored_root_sizes}
use Rattle.file_format.proofs.Nodes.{Proper}
use Rattle.file_format.proofs.OfImage.{entry_hash_lem, entry_size_lem}
use Rattle.packet.specs.Check.{packet_chunk, packet_total}
use Rattle.copy_checks.proofs.Steps.{Lent}
use Rattle.copy_take_in.specs.TakeIn.{Given, packet_start, with_given, brought, taken_in}
use Rattle.copy_take_in.specs.Inner.{Fits}
use Rattle.copy_take_in.proofs.Places.{placed, chunk_long}
use Rattle.byte_strings.proofs.Members.{In, map_in}
use Rattle.theorem_taking_laws.proofs.Given.{bytes_for, AllFitting, Agree, still_given, given_keeps, given_gives}
use Rattle.theorem_taking_laws.proofs.Reaches.{chunk_start}
use Rattle.theorem_taking_laws.proofs.ChunksApart.{descents_apart}
use Rattle.theorem_taking_laws.proofs.Starts.{HoldsAll, leaf_size, start_is, packet_descent, roots_total, brought_proper}
use Rattle.theorem_packets_commute.specs.Commute.{CommuteForAll}
use Rattle.theorem_packets_commute.proofs.Turns.{Lying, fitting, own_agree, later_passes, fits_p, fits_q, both_agree, commutes}

-- ---- a tree file holds what was written into it, and what the second of two lists that agree was written over

module _ (t : List ℕ) (gs : List Given) (proper : (g : Given) → In g gs → Proper g.entry) where
  pub bytes_hold : ((g : Given) → In g gs → part t (entry_place g.at) 40 ≡ bytes_for g) → HoldsAll t gs
  bytes_hold h g m =
      record { hash = entry_hash_lem t g.at g.entry (proper g m) (h g m); size = entry_size_lem t g.at g.entry (proper g m) (h g m) }

pub written : (t : List ℕ) (gs : List Given) → AllFitting t gs → Agree gs gs → (g : Given) → In g gs
    → part (with_given t gs) (entry_place g.at) 40 ≡ bytes_for g
written t gs f own g m = given_gives g.at (bytes_for g) t gs f (λ h l e. own h g l m e) (map_in (λ (h : Given). h.at) g gs m)

written_over : (t : List ℕ) (gs hs : List Given) → AllFitting t gs → AllFitting t hs → Agree gs gs → Agree gs hs → (g : Given) → In g gs
    → part (with_given (with_given t gs) hs) (entry_place g.at) 40 ≡ bytes_for g
written_over t gs hs f w own both g m =
    given_keeps g.at (bytes_for g) (with_given t gs) hs (still_given t gs hs f w) (λ h l e. sym (both g h m l (sym e))) (written t gs f own g m)

-- ---- two packets

pub short_chunk : (p : List ℕ) (n c : ℕ) → Fits p n c → length (packet_chunk p) ≤ longest_chunk
short_chunk p n c f = let z = placed p n c f.shaped in omega (arith, chunk_long p n c f.shaped, z.chunk)

module _ (F : List ℕ → List ℕ) (n : ℕ) (t p q : List ℕ) (i j : ℕ) (fp : Fits p n i) (fq : Fits q n j) (hp : HoldsAll t (brought F p n i))
    (hq : HoldsAll t (brought F q n j)) where
  lying : Lying n p i q j
  lying =
      record {
        same =
            λ e. (
              sym (start_is F p n i fp.shaped.chunk t hp) ∙ ap (chunk_start t n) e ∙ start_is F q n j fq.shaped.chunk t hq,
              sym (leaf_size F p n i fp.shaped.chunk t hp) ∙ ap (λ (k : ℕ). stored_size t (index 0 k)) e ∙ leaf_size F q n j fq.shaped.chunk t hq,
            );
        apart = λ e. pick e (dec_lt i j);
      }
    where
      earlier : i < j → packet_start p n i + length (packet_chunk p) ≤ packet_start q n j
      earlier l =
          subst (λ (k : ℕ). packet_start p n i + k ≤ packet_start q n j) (leaf_size F p n i fp.shaped.chunk t hp)
          (descents_apart t i j l n i (packet_start p n i) j (packet_start q n j) fq.shaped.chunk
          (packet_descent F p n i fp.shaped.chunk t hp (short_chunk p n i fp)) (packet_descent F q n j fq.shaped.chunk t hq (short_chunk q n j fq)))

      later : j < i → packet_start q n j + length (packet_chunk q) ≤ packet_start p n i
      later l =
          subst (λ (k : ℕ). packet_start q n j + k ≤ packet_start p n i) (leaf_size F q n j fq.shaped.chunk t hq)
          (descents_apart t j i l n j (packet_start q n j) i (packet_start p n i) fp.shaped.chunk
          (packet_descent F q n j fq.shaped.chunk t hq (short_chunk q n j fq)) (packet_descent F p n i fp.shaped.chunk t hp (short_chunk p n i fp)))

      pick : (i ≡ j → ⊥) → Dec (i < j)
          → (packet_start p n i + length (packet_chunk p) ≤ packet_start q n j) ⊎ (packet_start q n j + length (packet_chunk q) ≤ packet_start p n i)
      pick e (yes l) = inl (earlier l)
      pick e (no l) = inr (later (lt_of_le-ne (omega arith) (λ z. e (sym z))))

-- ---- the theorem

pub commute_for_all : CommuteForAll
unfolding taken_in
commute_for_all F H c p i a q j b bp bq t =
    commutes F H c p i a q j b bp bq t (lying F n both p q i j fp fq holds_p holds_q) sum
  where
    n : ℕ
    n = c.n

    ps : List Given
    ps = brought F p c.n i

    qs : List Given
    qs = brought F q c.n j

    fp : Fits p c.n i
    fp = fits_p F H c p i a q j b bp bq t

    fq : Fits q c.n j
    fq = fits_q F H c p i a q j b bp bq t

    lent : Lent c
    lent = (later_passes F H c p i a q j b bp bq t).lent

    wp : AllFitting c.tree ps
    wp = fitting F H c p i lent bp fp

    wq : AllFitting c.tree qs
    wq = fitting F H c q j lent bq fq

    both : List ℕ
    both = with_given (with_given c.tree ps) qs

    holds_p : HoldsAll both ps
    holds_p =
        bytes_hold both ps (brought_proper F H p bp c.n i fp)
        (written_over c.tree ps qs wp wq (own_agree F H c p i lent bp fp) (both_agree F H c p i a q j b bp bq t))

    holds_q : HoldsAll both qs
    holds_q =
        bytes_hold both qs (brought_proper F H q bq c.n j fq)
        (written (with_given c.tree ps) qs (still_given c.tree ps qs wp wq) (own_agree F H c q j lent bq fq))

    sum : total (stored_root_sizes (taken_in F c q j).tree c.n) ≡ packet_total q c.n j
    sum =
        roots_total F q c.n j fq.shaped.chunk (taken_in F c q j).tree
        (bytes_hold (taken_in F c q j).tree qs (brought_proper F H q bq c.n j fq) (written c.tree qs wq (own_agree F H c q j lent bq fq))) fq.shaped
