-- Nothing is lost between the fields of a Node and their numbers. Assumes nothing.
use Prim.Native.Nat.{ℕ, ◌+◌, ◌≤◌, ◌<◌}
use mathlib.Core.Path.{◌≡◌, refl, sym, ap, ◌∙◌}
use mathlib.Core.List.{List, [], ◌∷◌}
use native.Mathlib.Nat.{zero-add}
use native.Mathlib.Omega.{arith}
use lib.ListN.{length, get_or}
use Rattle.std.specs.Prelude.{Option, None, Some}
use Rattle.byte_strings.specs.Lists.{run}
use Rattle.byte_strings.proofs.Lists.{run_ext, run_get_or, get_or_run}
use Rattle.record_fields.specs.declared.rows.Part.{Part}
use Rattle.record_format.specs.declared.stats.Stat.{Stat}
use Rattle.record_node.specs.Post.{no_writer}
use Rattle.record_node.specs.declared.writers.Writer.{Writer}
use Rattle.record_node.specs.declared.reading.Node.{Node}
use Rattle.c_records.specs.Flat.{flat_number, flat_part, flat_bytes, flat_writer, flat_writers, flat_stat, flat_value, flat_node, number_in, bytes_in, writer_in}
use Rattle.c_records.specs.Flat.{writers_in, no_flat, stat_in, value_in, node_in, FlatRestored}
use Rattle.c_records.specs.declared.FlatPart.{FlatPart}
use Rattle.c_records.specs.declared.FlatBytes.{FlatBytes}
use Rattle.c_records.specs.declared.FlatWriter.{FlatWriter}

abbrev with_part : FlatPart → FlatBytes
with_part p = record { given = 1; part = p }

pub given_part : (f : FlatPart) (p : Part) → f ≡ flat_part p → with_part f ≡ flat_bytes (Some p)
given_part f p e = ap with_part e

number_back : (o : Option ℕ) → number_in (flat_number o) ≡ o
number_back None = refl
number_back (Some x) = refl

bytes_back : (o : Option Part) → bytes_in (flat_bytes o) ≡ o
bytes_back None = refl
bytes_back (Some p) = refl

writer_back : (w : Writer) → writer_in (flat_writer w) ≡ w
writer_back w = ap (λ (o : Option Part). record { key = w.key; permission = o }) (bytes_back w.permission)

-- a Stat, field by field
abbrev stat_with : Stat → Stat
stat_with s = record {
  mode = s.mode;
  uid = s.uid;
  gid = s.gid;
  size = s.size;
  blocks = s.blocks;
  offset = s.offset;
  byte_offset = s.byte_offset;
  mtime = s.mtime;
  ctime = s.ctime;
}

same_stat : (s t : Stat) → s.mode ≡ t.mode → s.uid ≡ t.uid → s.gid ≡ t.gid → s.size ≡ t.size → s.blocks ≡ t.blocks → s.offset ≡ t.offset → s.byte_offset ≡
    t.byte_offset → s.mtime ≡ t.mtime → s.ctime ≡ t.ctime → s ≡ t
same_stat s t a b c d e f g h i = let made : stat_with s ≡ stat_with t = cc in made

stat_back : (s : Stat) → stat_in (flat_stat s) ≡ s
stat_back s =
    same_stat (stat_in (flat_stat s)) s
    (number_back s.mode)
    (number_back s.uid)
    (number_back s.gid)
    (number_back s.size)
    (number_back s.blocks)
    (number_back s.offset)
    (number_back s.byte_offset)
    (number_back s.mtime)
    (number_back s.ctime)

value_back : (v : Option Stat) → value_in (flat_value v) ≡ v
value_back None = refl
value_back (Some s) = ap (λ (x : Stat). Some x) (stat_back s)

writers_back : (ws : List Writer) → length ws ≡ 8 → writers_in (flat_writers ws) ≡ ws
unfolding writers_in flat_writers
writers_back ws e =
    run_ext (λ j. writer_in (get_or (run f 0 8) j no_flat)) (λ j. get_or ws j no_writer) 0 8 each ∙ run_get_or ws 8 no_writer e
  where
    f : ℕ → FlatWriter
    f j = flat_writer (get_or ws j no_writer)

    each : (j : ℕ) → 0 ≤ j → j < 0 + 8 → writer_in (get_or (run f 0 8) j no_flat) ≡ get_or ws j no_writer
    each j l h = ap writer_in (get_or_run f 0 8 j no_flat (omega arith) ∙ ap f (zero-add j)) ∙ writer_back (get_or ws j no_writer)

-- a Node, field by field
abbrev node_with : Node → Node
node_with n = record {
  path = n.path;
  value = n.value;
  trie = n.trie;
  writers = record { count = n.writers.count; list = n.writers.list };
  sequence = n.sequence;
}

same_node : (n m : Node) → n.path ≡ m.path → n.value ≡ m.value → n.trie ≡ m.trie → n.writers.count ≡ m.writers.count
    → n.writers.list ≡ m.writers.list → n.sequence ≡ m.sequence → n ≡ m
same_node n m a b c d e f = let made : node_with n ≡ node_with m = cc in made

pub flat_restored : FlatRestored
flat_restored n e =
    same_node (node_in (flat_node n)) n refl (value_back n.value) (bytes_back n.trie) refl (writers_back n.writers.list e)
    (number_back n.sequence)

-- ---- eight of them

-- a list of as many, each told by its place
pub mapped : {A : Type 0} (f : ℕ → A) (xs : List A) (d : A) → length xs ≡ 8 → ((j : ℕ) → j < 8 → get_or xs j d ≡ f j) → xs ≡ run f 0 8
mapped f xs d e h = sym (run_get_or xs 8 d e) ∙ run_ext (λ j. get_or xs j d) f 0 8 (λ j a b. h j (omega arith))

pub eight : {A : Type 0} (f : ℕ → A) {a b c d e g h i : A} → a ≡ f 0 → b ≡ f 1 → c ≡ f 2 → d ≡ f 3 → e ≡ f 4 → g ≡ f 5 → h ≡ f 6 → i ≡ f 7
    → a ∷ b ∷ c ∷ d ∷ e ∷ g ∷ h ∷ i ∷ [] ≡ run f 0 8
unfolding run
eight f p q r s t u v w = cc
