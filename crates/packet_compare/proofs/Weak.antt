-- The walk run on the definition: each row by computation.
-- Assumes nothing.
use mathlib.Core.Path.{refl}
use Rattle.byte_strings.specs.Lists.{part, run, joined, total, same_list}
use Rattle.byte_strings.specs.Numbers.{be, number, number_from}
use Rattle.tree_index.specs.Tree.{index, trailing_ones, depth, block, root_of, roots_below, roots}
use Rattle.file_format.specs.Messages.{leaf_message, parent_message, root_item, root_message}
use Rattle.file_format.specs.Entries.{leaf, parent_of}
use Rattle.checks.specs.Checks.{judged}
use Rattle.packet.specs.Packet.{root_above, place_above, beside, siblings, without, other_roots}
use Rattle.packet.specs.Check.{chunk_length, siblings_place, others_place, whole_length, shape_right, packet_chunk, entry_in, entries_in, sibling_entries, other_entries}
use Rattle.packet.specs.Check.{packet_total, ordered, in_turn, items, last_entry, steps_above, steps, packet_root, packet_root_message, root_right, packet_verdict}
use Rattle.packet_compare.specs.Walk.{pair, first_pair, root_pair, walk, compare_packets}
use Rattle.packet_compare.specs.WeakHash.{weak, weak_entry, weak_packet, WeakWalks}

pub weak_walks : WeakWalks
unfolding weak weak_entry weak_packet compare_packets walk root_pair first_pair pair packet_verdict root_right packet_root_message packet_root steps steps_above last_entry items
    in_turn ordered packet_total other_entries sibling_entries entries_in entry_in packet_chunk shape_right whole_length others_place siblings_place chunk_length other_roots
    without siblings beside place_above root_above judged leaf parent_of leaf_message parent_message root_item root_message roots roots_below root_of block depth trailing_ones index
    be number number_from part run joined total same_list
weak_walks =
    record {
      leaf = refl;
      roots = refl;
      parent = refl;
      right = refl;
      first = refl;
      upper = refl;
      roots_of_two = refl;
      same = refl;
      refused_second = refl;
      refused_first = refl;
    }
