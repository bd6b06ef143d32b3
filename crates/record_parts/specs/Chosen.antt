-- Where a part of a Node lies in the bytes that the Node was read of.
use Rattle.std.specs.Prelude.{Option, Some, ℕ, cond, ltb}
use Rattle.record_fields.specs.declared.rows.Part.{Part}
use Rattle.record_node.specs.Post.{no_writer, writer_at}
use Rattle.record_node.specs.declared.writers.Writer.{Writer}
use Rattle.record_node.specs.declared.writers.Writers.{Writers}
use Rattle.record_node.specs.declared.reading.Node.{Node}
use Rattle.record_parts.specs.declared.Field.{Field}
use Rattle.record_parts.specs.declared.Field.TheVariants.{Path, Trie, Key, Permission}

-- as many as are counted, and no more than have a place
unfoldable pub writer_in : Writers → ℕ → Writer
writer_in ws j = cond (ltb j ws.count) (cond (ltb j 8) (writer_at ws j) no_writer) no_writer

abbrev pub chosen_of : Node → Field → Option Part
chosen_of n Path = Some n.path
chosen_of n Trie = n.trie
chosen_of n (Key j) = Some (writer_in n.writers j).key
chosen_of n (Permission j) = (writer_in n.writers j).permission
