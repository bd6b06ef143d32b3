-- What the calls on packets, jobs and comparisons are answered.
use Rattle.std.specs.Prelude.{ℕ, ◌+◌, ◌≡◌, List, [], ◌∷◌}
use Rattle.answer_types.specs.Verdict.{done, refused, unless_refused}
use Rattle.blake2b.specs.Hash.{node_hash}
use Rattle.file_format.specs.Belongs.{Register}
use Rattle.append_needs.specs.Needs.{Need, need_of, need_verdict}
use Rattle.lookup.specs.Lookup.{Found, found, found_behind}
use Rattle.packet.specs.Packet.{make_verdict, made_length, after_make}
use Rattle.packet.specs.Check.{chunk_length, packet_verdict}
use Rattle.compare.specs.Walk.{Comparison, roots_differ, equal}
use Rattle.compare.specs.Walk as Compare
use Rattle.packet_compare.specs.Walk.{Walk, same_chunk, neither, at_roots, at_index, first_refused, second_refused}
use Rattle.c_encoding.specs.Encoding.{encoded}

-- the chunk's part of a packet that passes the check: `packet_chunk` (packet, Check) is this part
unfoldable pub packet_part : List ℕ → ℕ → ℕ → List ℕ → Found
packet_part p n c root = found_behind (packet_verdict node_hash p n c root) (found 4 (chunk_length p))

-- making the packet of chunk c: the answer, the buffer lent for it and the number lent for its length
pub record Makes (r : Register) (c : ℕ) (out : List ℕ) (long : ℕ) (answer out_after : List ℕ) (long_after : ℕ) : Type 0
  where
    pub answers : answer ≡ encoded (make_verdict node_hash r c out)
    pub packet : out_after ≡ after_make node_hash r c out
    pub length : long_after ≡ unless_refused (make_verdict node_hash r c out) (made_length node_hash r c out) long

-- what a job will need, as eight numbers: all runs together come last
abbrev pub need_numbers : Need → List ℕ
need_numbers x =
    x.tree ∷ x.signatures ∷ x.bitfield ∷ x.content ∷ x.leaves ∷ x.parents ∷ x.root ∷ (x.leaves + x.parents + x.root) ∷ []

-- the needs of a job: the answer, and the eight numbers lent before and after
pub record Needs (n size : ℕ) (ls before answer after : List ℕ) : Type 0 where
  pub answers : answer ≡ encoded (need_verdict n size ls)
  pub numbers : after ≡ unless_refused (need_verdict n size ls) (need_numbers (need_of n size ls)) before

-- what the comparing walk says, as four numbers: 0 equal, 1 roots differ, 2 a collision at the roots, 3 at a tree index, which is the place; 4 and 5
-- where the first and the second register are refused, and then with the refusal
abbrev pub encoded_comparison : Comparison → List ℕ
encoded_comparison equal = 0 ∷ encoded done
encoded_comparison roots_differ = 1 ∷ encoded done
encoded_comparison Compare.at_roots = 2 ∷ encoded done
encoded_comparison (Compare.at_index i) = 3 ∷ 0 ∷ 1 ∷ i ∷ []
encoded_comparison (Compare.first_refused number at) = 4 ∷ encoded (refused number at)
encoded_comparison (Compare.second_refused number at) = 5 ∷ encoded (refused number at)

-- what the walk along two packets says, with the comparison's numbers: 0 the same chunk, 2 a collision at the roots, 3 at a tree index, which is the
-- place; 4 and 5 where the first and the second packet are refused, and then with the refusal. 1 would stand for none of these, and is never given
abbrev pub encoded_walk : Walk → List ℕ
encoded_walk same_chunk = 0 ∷ encoded done
encoded_walk neither = 1 ∷ encoded done
encoded_walk at_roots = 2 ∷ encoded done
encoded_walk (at_index i) = 3 ∷ 0 ∷ 1 ∷ i ∷ []
encoded_walk (first_refused number at) = 4 ∷ encoded (refused number at)
encoded_walk (second_refused number at) = 5 ∷ encoded (refused number at)
