-- Bytes written behind the used bytes of a buffer, and chunks behind a chunk sequence.
-- Assumes nothing.
use Prim.Native.Nat.{ℕ, zero, suc, ◌+◌, ◌≤◌, ◌<◌}
use mathlib.Core.Path.{◌≡◌, sym, ap, ◌∙◌, subst}
use mathlib.Core.List.{List, [], ◌∷◌, ◌++◌, append-nil, map, map-append}
use native.Mathlib.Nat.{add-zero}
use native.Mathlib.Omega.{arith}
use lib.ListN.{length, get_or, take, drop, length-append}
use lib.Seq.{take_at}
use Rattle.byte_strings.specs.Lists.{put, joined, total, Bytes}
use Rattle.byte_strings.proofs.Lists.{joined_append, drop_put}
use Rattle.file_format.specs.Sizes.{most_chunks, longest_chunk}
use Rattle.file_format.specs.Images.{data_size, data_image}
use Rattle.file_format.specs.Slots.{Slot, held, contents, Handed, Within}
use Rattle.file_format.proofs.Spans.{total_append}
use Rattle.file_format.proofs.Slots.{contents_snoc}

-- ---- bytes

-- a header of m bytes put at the front
pub take_header : (xs hs : List ℕ) (m : ℕ) → length hs ≡ m → take m (put xs 0 hs) ≡ hs
unfolding put
take_header xs hs m e = take_at hs (drop (0 + length hs) xs) m e

pub drop_header : (xs hs : List ℕ) (m : ℕ) → length hs ≡ m → drop m (put xs 0 hs) ≡ drop m xs
drop_header xs hs m e = drop_put m xs 0 hs (omega arith) (omega arith)

-- lists one behind the other, with one more
pub joined_snoc : (xss : List (List ℕ)) (xs : List ℕ) → joined (xss ++ (xs ∷ [])) ≡ joined xss ++ xs
unfolding joined
joined_snoc xss xs = joined_append xss (xs ∷ []) ∙ ap (λ (r : List ℕ). joined xss ++ r) (append-nil xs)

-- ---- chunks

pub length_snoc : {A : Type 0} (xs : List A) (x : A) → length (xs ++ (x ∷ [])) ≡ length xs + 1
length_snoc xs x = length-append xs (x ∷ [])

pub data_size_snoc : (cs : List (List ℕ)) (c : List ℕ) → data_size (cs ++ (c ∷ [])) ≡ data_size cs + length c
unfolding data_size total
data_size_snoc cs c =
    ap total (map-append length cs (c ∷ [])) ∙ total_append (map length cs) (length c ∷ [])
    ∙ ap (λ (t : ℕ). total (map length cs) + t) (add-zero (length c))

pub data_image_snoc : (cs : List (List ℕ)) (c : List ℕ) → data_image (cs ++ (c ∷ [])) ≡ data_image cs ++ c
unfolding data_image
data_image_snoc cs c = joined_snoc cs c

-- what holds of each chunk of a sequence and of one more
pub each_snoc : (P : List ℕ → Type 0) (cs : List (List ℕ)) (c : List ℕ) → ((k : ℕ) → P (get_or cs k [])) → P c → (k : ℕ) → P (get_or (cs ++ (c ∷ [])) k [])
each_snoc P [] c h p zero = p
each_snoc P [] c h p (suc k) = h k
each_snoc P (x ∷ cs) c h p zero = h 0
each_snoc P (x ∷ cs) c h p (suc k) = each_snoc P cs c (λ j. h (suc j)) p k

-- the same of those below its length
pub each_below_snoc : (P : List ℕ → Type 0) (cs : List (List ℕ)) (c : List ℕ) → ((k : ℕ) → k < length cs → P (get_or cs k [])) → P c
    → (k : ℕ) → k < length (cs ++ (c ∷ [])) → P (get_or (cs ++ (c ∷ [])) k [])
each_below_snoc P [] c h p zero l = p
each_below_snoc P [] c h p (suc k) l = absurd (omega arith)
each_below_snoc P (x ∷ cs) c h p zero l = h 0 (omega arith)
each_below_snoc P (x ∷ cs) c h p (suc k) l = each_below_snoc P cs c (λ j g. h (suc j) (omega arith)) p k (omega arith)

-- what holds of each of a list and of one more
handed_snoc : (ss : List Slot) (c : List ℕ) → ((k : ℕ) → Handed (get_or ss k (held []))) → (k : ℕ) → Handed (get_or (ss ++ (held c ∷ [])) k (held []))
handed_snoc [] c h zero = tt
handed_snoc [] c h (suc k) = tt
handed_snoc (s ∷ ss) c h zero = h 0
handed_snoc (s ∷ ss) c h (suc k) = handed_snoc ss c (λ j. h (suc j)) k

pub within_snoc : (ss : List Slot) (c : List ℕ) → Within ss → length ss < most_chunks → length c ≤ longest_chunk → Bytes c → Within (ss ++ (held c ∷ []))
within_snoc ss c w h l p =
    record {
      count = omega (arith, length_snoc ss (held c));
      short = λ k. subst (λ (cs : List (List ℕ)). length (get_or cs k []) ≤ longest_chunk) (sym (contents_snoc ss c))
          (each_snoc (λ (x : List ℕ). length x ≤ longest_chunk) (contents ss) c w.short l k);
      bytes = λ k. subst (λ (cs : List (List ℕ)). Bytes (get_or cs k [])) (sym (contents_snoc ss c)) (each_snoc Bytes (contents ss) c w.bytes p k);
      handed = handed_snoc ss c w.handed;
    }

pub within_nil : Within []
unfolding contents
within_nil = record { count = omega arith; short = λ k. omega arith; bytes = λ k i. omega arith; handed = λ k. tt }
