-- Every row of the table computes.
use mathlib.Core.Path.{refl}
use lib.Count.{count_trailing_zeros}
use Rattle.byte_strings.specs.Lists.{part, run, joined, total, same_list}
use Rattle.byte_strings.specs.Numbers.{be, number_from, number}
use Rattle.tree_index.specs.Tree.{index, trailing_ones, depth, block, left_child, right_child, parent, filled, root_of, roots_below, roots, entries, completed, filled_by}
use Rattle.bitfield.specs.Bits.{byte_of, bytes_of}
use Rattle.bitfield.specs.Index.{tuple, four, tuples, combine, combined, node, index_byte, index_bytes}
use Rattle.bitfield.specs.Image.{data_bytes, tree_bytes, entry, entry_count, entries_for}
use Rattle.blake2b.specs.Hash.{key_block, input, blocks}
use Rattle.blake2b.specs.Runs.{inner, runs_of, runs}
use Rattle.file_format.specs.Headers.{front, header, tree_header, signatures_header, bitfield_header}
use Rattle.file_format.specs.Sizes.{entry_place, used_tree, used_signatures, used_bitfield}
use Rattle.file_format.specs.Messages.{leaf_message, parent_message}
use Rattle.file_format.specs.Entries as Nodes
use Rattle.file_format.specs.Entries.{hole, entry_bytes, leaf, parent_of, node_at, entry_at, tree_entries}
use Rattle.file_format.specs.Images.{data_size, data_image, signatures_image, leaves, tree_image, bitfield_of}
use Rattle.file_format.specs.Slots.{all_held, held_in}
use Rattle.file_format.specs.Stored.{stored_size, stored_root_sizes}
use Rattle.checks.specs.Checks.{judged, adds_up, later_checks, register_checks}
use Rattle.append_needs.specs.Needs.{leaf_runs}
use Rattle.lookup.specs.Descent.{byte_within, descend, from_roots, descent}
use Rattle.lookup.specs.Lookup.{byte_in, byte_at}
use Rattle.listing_lines.specs.Input.{next_length, chunk_stands, chunks_in, input_of}
use Rattle.listing_lines.specs.Lines.{digits, chunks_word, bytes_word, roots_word, leaf_word, parent_word, hole_word, first_line, first_under, count_under, start_of}
use Rattle.listing_lines.specs.Lines.{length_of, line, kind_word, entry_line, lines_of, lines_for, listing}
use Rattle.theorem_worked_cases.specs.Table.{newly_filled, index_of, three, register_of, input_for, printed_lines, table, Holds}

pub holds : Holds
unfolding table newly_filled index_of three register_of input_for printed_lines index trailing_ones depth block left_child right_child parent filled root_of roots_below roots
    entries completed filled_by count_trailing_zeros part run joined total same_list be number_from number byte_of bytes_of tuple four tuples combine combined node
    index_byte index_bytes data_bytes tree_bytes entry entry_count entries_for front header tree_header signatures_header bitfield_header entry_place used_tree
    used_signatures used_bitfield leaf_message parent_message hole entry_bytes leaf parent_of Nodes.node node_at entry_at tree_entries data_size data_image bitfield_of
    signatures_image leaves tree_image all_held held_in stored_size stored_root_sizes judged adds_up later_checks register_checks byte_within descend from_roots descent
    byte_in byte_at key_block input blocks inner runs_of runs leaf_runs next_length chunk_stands chunks_in input_of digits chunks_word
    bytes_word roots_word leaf_word parent_word hole_word first_line first_under count_under start_of length_of line kind_word entry_line lines_of lines_for listing
holds = (refl, refl)
