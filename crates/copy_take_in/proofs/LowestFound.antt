-- The lowest contradiction of all rows. Assumes nothing.
use Prim.Native.Nat.{ℕ, ◌+◌, ◌*◌}
use mathlib.Core.Path.{◌≡◌, refl, sym, ap, ap₂, ◌∙◌}
use mathlib.Core.List.{List, [], ◌∷◌, ◌++◌, map, map-append}
use Rattle.byte_strings.specs.Lowest.{Lowest}
use Rattle.tree_index.specs.Tree.{index}
use Rattle.tree_index.specs.Numbers.{numbers}
use Rattle.blake2b.specs.Hash.{node_hash}
use Rattle.packet.specs.Check.{siblings_place, packet_chunk}
use Rattle.copy_checks.specs.Copy.{copy_of}
use Rattle.copy_checks.specs.Least.{lower_of, least_of}
use Rattle.copy_checks.proofs.Least.{lower_assoc}
use Rattle.copy_take_in.specs.TakeIn.{Given, packet_start, bytes_contradicted, index_if, contradicts, contradiction}
use Rattle.copy_take_in.specs.Inner.{lies, row_given, Ready}
use Rattle.copy_take_in.specs.declared.way.Way.{Way}
use Rattle.copy_take_in.proofs.BroughtRows.{all_rows}

least_append : (xs ys : List Lowest) → least_of (xs ++ ys) ≡ lower_of (least_of xs) (least_of ys)
unfolding least_of lower_of
least_append [] ys = refl
least_append (x ∷ xs) ys = ap (lower_of x) (least_append xs ys) ∙ sym (lower_assoc x (least_of xs) (least_of ys))

pub least_rows : (f : Given → Lowest) (b : Lowest) (g : Given) (xs ys zs : List Given)
    → lower_of (lower_of (lower_of (lower_of b (f g)) (least_of (map f xs))) (least_of (map f ys))) (least_of (map f zs))
    ≡ lower_of b (least_of (map f (g ∷ (xs ++ (ys ++ zs)))))
unfolding least_of
least_rows f b g xs ys zs =
    let x : Lowest = least_of (map f xs) in
    let y : Lowest = least_of (map f ys) in
    let z : Lowest = least_of (map f zs) in
    lower_assoc (lower_of (lower_of b (f g)) x) y z ∙ lower_assoc (lower_of b (f g)) x (lower_of y z) ∙ lower_assoc b (f g) (lower_of x (lower_of y z))
    ∙ ap (λ (l : Lowest). lower_of b (lower_of (f g) l))
    (ap (lower_of x) (sym (ap least_of (map-append f ys zs) ∙ least_append (map f ys) (map f zs)))
    ∙ sym (ap least_of (map-append f xs (ys ++ zs)) ∙ least_append (map f xs) (map f (ys ++ zs))))

-- what the code finds, from the bytes on
pub lowest_found : {t bits content p : List ℕ} {n c : ℕ} {w : Way} {start : ℕ} {row path : List ℕ} (r : Ready t bits content p n c w start row path) {place : ℕ}
    (e : place ≡ siblings_place p + 1) {i : ℕ} {bytes : List ℕ} {b o l u s z : Lowest} → i ≡ index 0 c → bytes ≡ packet_chunk p
    → b ≡ index_if (bytes_contradicted bits content c start bytes) (index 0 c) → o ≡ contradicts t bits (lies row 0 i) → l ≡ lower_of b o
    → u ≡ lower_of l (least_of (map (contradicts t bits) (row_given path 0 (numbers w.above) w.up)))
    → s ≡ lower_of u (least_of (map (contradicts t bits) (row_given p place (numbers w.beside) w.up)))
    → z ≡ lower_of s (least_of (map (contradicts t bits) (row_given p (place + 40 * w.up + 1) (numbers w.roots) w.others)))
    → z ≡ contradiction node_hash (copy_of t bits content n 0) p c
unfolding contradiction
lowest_found {t} {bits} {content} {p} {n} {c} {w} {row = row} {path} r {place} e {b = b} {o} ei eb hb ho hl hu hs hz =
    let f : Given → Lowest = contradicts t bits in
    let x : List Given = row_given path 0 (numbers w.above) w.up in
    let y : List Given = row_given p place (numbers w.beside) w.up in
    let v : List Given = row_given p (place + 40 * w.up + 1) (numbers w.roots) w.others in
    let own : Lowest = index_if (bytes_contradicted bits content c (packet_start p n c) (packet_chunk p)) (index 0 c) in
    let g : Given = lies row 0 (index 0 c) in
    let q : b ≡ own = hb ∙ ap₂ (λ (s : ℕ) (x : List ℕ). index_if (bytes_contradicted bits content c s x) (index 0 c)) r.begins eb in
    let k : o ≡ f g = ho ∙ ap (λ (j : ℕ). f (lies row 0 j)) ei in
    hz ∙ ap (λ (m : Lowest). lower_of m (least_of (map f v))) (hs ∙ ap (λ (m : Lowest). lower_of m (least_of (map f y))) (hu
    ∙ ap (λ (m : Lowest). lower_of m (least_of (map f x))) (hl ∙ ap₂ lower_of q k)))
    ∙ least_rows f own g x y v
    ∙ ap (λ (gs : List Given). lower_of own (least_of (map f gs))) (sym (all_rows r e))
