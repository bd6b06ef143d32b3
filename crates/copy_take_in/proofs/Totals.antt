-- The sum of the lengths in a packet, row by row. Assumes nothing.
use Prim.Native.Nat.{ℕ, ◌+◌, ◌*◌, ◌≤◌}
use mathlib.Core.Path.{◌≡◌, ap₂}
use mathlib.Core.List.{List}
use native.Mathlib.Omega.{arith}
use lib.ListN.{length}
use Rattle.byte_strings.specs.Lists.{total}
use Rattle.file_format.specs.Entries.{Entry}
use Rattle.packet.specs.Packet.{siblings, other_roots}
use Rattle.packet.specs.Check.{chunk_length, siblings_place, others_place, entry_in, entries_in, sibling_entries, other_entries, packet_total}
use Rattle.packet.specs.Inner.{sizes_in, Summed}
use Rattle.packet.proofs.Right.{map_run}

-- the lengths in a packet, row by row
pub total_is : (p : List ℕ) (n c : ℕ) → packet_total p n c
    ≡ chunk_length p + (total (sizes_in p (siblings_place p + 1) (length (siblings n c))) + total (sizes_in p (others_place p n c + 1) (length (other_roots n c))))
unfolding packet_total sibling_entries other_entries entries_in sizes_in
total_is p n c =
    ap₂ (λ (x y : List ℕ). chunk_length p + (total x + total y))
    (map_run (λ (e : Entry). e.size) (λ j. entry_in p (siblings_place p + 1 + 40 * j)) 0 (length (siblings n c)))
    (map_run (λ (e : Entry). e.size) (λ j. entry_in p (others_place p n c + 1 + 40 * j)) 0 (length (other_roots n c)))

pub total_summed : (p : List ℕ) (n c l place second u o sum whole : ℕ) → l ≡ chunk_length p → place ≡ siblings_place p + 1 → second ≡ others_place p n c + 1
    → u ≡ length (siblings n c) → o ≡ length (other_roots n c) → packet_total p n c ≤ 68719476736 → Summed (l + total (sizes_in p place u)) sum
    → Summed (sum + total (sizes_in p second o)) whole → whole ≡ packet_total p n c
total_summed p n c l place second u o sum whole a b d e f small s w =
    let x : total (sizes_in p place u) ≡ total (sizes_in p (siblings_place p + 1) (length (siblings n c))) = ap₂ (λ (i k : ℕ). total (sizes_in p i k)) b e in
    let y : total (sizes_in p second o) ≡ total (sizes_in p (others_place p n c + 1) (length (other_roots n c))) = ap₂ (λ (i k : ℕ). total (sizes_in p i k)) d f in
    let t = total_is p n c in
    let g : sum ≡ l + total (sizes_in p place u) = s.within (omega arith) in
    let h : whole ≡ sum + total (sizes_in p second o) = w.within (omega arith) in
    omega arith
