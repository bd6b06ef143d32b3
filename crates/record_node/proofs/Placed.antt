-- What is put of a Node. Assumes nothing.
use Prim.Native.Nat.{ℕ, ◌+◌, ◌-◌, ◌*◌, ◌<◌, ◌≤◌}
use mathlib.Core.Path.{◌≡◌, refl, sym, ap, ◌∙◌, subst}
use mathlib.Core.List.{List, ◌++◌}
use mathlib.Core.Option.{Option, none, some}
use native.Mathlib.Omega.{arith}
use lib.ListN.{length, take, drop, length-append}
use Rattle.std.specs.Prelude.{Option as Maybe, None, Some}
use Rattle.byte_strings.specs.Lists.{part, run}
use Rattle.byte_strings.proofs.Lists.{length_part, part_put}
use Rattle.record_fields.specs.Fields.{number_field, part_field, given_field, Longest}
use Rattle.record_fields.specs.Inner.{number_of, part_of, bytes_of, BytesInside, size_of, PutAt, BytesRoomy}
use Rattle.record_fields.specs.declared.rows.Part.{Part}
use Rattle.record_fields.proofs.Unique.{number_size, part_size, part_within}
use Rattle.record_fields.proofs.Put.{put_then, put_next, put_nothing}
use Rattle.record_format.specs.Records.{Stat, stat_bytes, Writer, WriterWithin, writer_bytes, writers_bytes, node_bytes, stat_part}
use Rattle.record_format.specs.Post.{stat_of}
use Rattle.record_format.specs.declared.stats.Stat.{Stat as CodeStat}
use Rattle.record_format.proofs.Unique.{stat_size, writer_size}
use Rattle.record_node.specs.Post.{writer_of, writer_at, writers_of, value_of, node_of, NodeFits}
use Rattle.record_node.specs.Inner.{WriterLies, WriterRoomy, WritersRoomy}
use Rattle.record_node.specs.declared.writers.Writer.{Writer as CodeWriter}
use Rattle.record_node.specs.declared.writers.Writers.{Writers}
use Rattle.record_node.specs.declared.reading.Node.{Node as CodeNode}
use Rattle.record_node.proofs.Listed.{listed, writers_next, writers_size, all_within}

-- ---- parts of the bytes lent

pub cut : (d : List ℕ) (p : Part) → take (p.at + p.len - p.at) (drop p.at d) ≡ part_of d p
unfolding part
cut d p = let n : p.at + p.len - p.at ≡ p.len = omega arith in ap (λ (k : ℕ). take k (drop p.at d)) n

pub size_of_lem : (d : List ℕ) (o : Maybe Part) (n : ℕ) → BytesInside d o → Longest n (bytes_of d o) → size_of o ≤ n
size_of_lem d None n i w = omega arith
size_of_lem d (Some p) n i w = omega (arith, length_part d p.at p.len i)

-- what was put at the front, read again
pub front_of : {bytes out : List ℕ} {next : ℕ} {after : List ℕ} → PutAt bytes out 0 next after → take (next - 0) after ≡ bytes
unfolding part
front_of {bytes} {out} {next} {after} p =
    let n : next - 0 ≡ length bytes = omega (arith, p.ends) in
    ap (λ (k : ℕ). take k after) n ∙ ap (take (length bytes)) p.holds ∙ part_put out 0 (length bytes) bytes refl (omega arith)

-- ---- a Writer

module _ {d : List ℕ} {w : CodeWriter} {out : List ℕ} (r : WriterRoomy d w out) where
  key : List ℕ
  key = part_of d w.key

  key_long : length key ≡ 32
  unfolding key
  key_long = r.fits.within.key

  bytes : List ℕ
  bytes = take (w.key.at + w.key.len - w.key.at) (drop w.key.at d)

  bytes_key : bytes ≡ key
  unfolding bytes key
  bytes_key = cut d w.key

  pub key_inside : w.key.at + w.key.len ≤ length d
  key_inside = r.fits.inside.key

  pub key_room : 0 + 11 + length (take (w.key.at + w.key.len - w.key.at) (drop w.key.at d)) ≤ length out
  unfolding bytes
  key_room = omega (arith, ap length bytes_key, key_long, r.room)

  module _ {second : ℕ} {mid : List ℕ} (p : PutAt (part_field 1 (some (take (w.key.at + w.key.len - w.key.at) (drop w.key.at d)))) out 0 second mid) where
    first : PutAt (part_field 1 (some key)) out 0 second mid
    unfolding bytes
    first = subst (λ (b : List ℕ). PutAt (part_field 1 (some b)) out 0 second mid) bytes_key p

    pub permission_room : BytesRoomy d w.permission 2 mid second
    permission_room =
        let n = put_next 43 (part_field 1 (some key)) out 0 second mid (omega (arith, part_size 1 key (omega arith), key_long)) (omega (arith, r.room)) first in
        record {
          kind = omega arith;
          inside = r.fits.inside.permission;
          room = omega (arith, n.0, n.1, r.room, size_of_lem d w.permission 16 r.fits.inside.permission r.fits.within.permission);
        }

    pub writer_put : {end : ℕ} {after : List ℕ} → PutAt (part_field 2 (bytes_of d w.permission)) mid second end after → PutAt (writer_bytes (writer_of d w)) out 0 end after
    unfolding writer_bytes key
    writer_put {end} {after} q = put_then (part_field 1 (some key)) (part_field 2 (bytes_of d w.permission)) out 0 second end mid after (omega arith) first q

-- ---- Writers

field_size : (w : Writer) → WriterWithin w → length (given_field 4 (writer_bytes w)) ≤ 81
field_size w h = omega (arith, part_size 4 (writer_bytes w) (omega arith), writer_size w h)

pub record Placed (d : List ℕ) (list : List CodeWriter) (out₀ : List ℕ) (at : ℕ) (out : List ℕ) (next i : ℕ) : Type 0 where
  pub put : PutAt (writers_bytes (run (listed d list) 0 i)) out₀ at next out
  pub same : length out ≡ length out₀
  pub ends : next ≤ at + 81 * i
  pub few : i ≤ 8

pub placed_none : {d : List ℕ} {list : List CodeWriter} {out : List ℕ} {at : ℕ} → Placed d list out at out at 0
unfolding run writers_bytes
placed_none {out = out} {at = at} = record { put = put_nothing out at; same = refl; ends = omega arith; few = omega arith }

module _ {d : List ℕ} {ws : Writers} {out₀ : List ℕ} {at : ℕ} (r : WritersRoomy d ws out₀ at) {out : List ℕ} {next i : ℕ} (g : Placed d ws.list out₀ at out next i) (l : i < ws.count) where
  pub few_left : i < 8
  few_left = omega (arith, r.fits.inside.count)

  lies : WriterLies d (writer_at ws i)
  lies = record { inside = r.fits.inside.each i l; within = all_within (listed d ws.list) ws.count r.fits.within i l }

  pub one_roomy : {scratch : List ℕ} → 70 ≤ length scratch → WriterRoomy d (writer_at ws i) scratch
  one_roomy h = record { fits = lies; room = h }

  module _ {scratch : List ℕ} {len : ℕ} {filled : List ℕ} (p : PutAt (writer_bytes (writer_of d (writer_at ws i))) scratch 0 len filled) where
    taken : take (len - 0) filled ≡ writer_bytes (listed d ws.list i)
    taken = front_of p

    pub one_len : len ≤ 70
    one_len = omega (arith, p.ends, writer_size (writer_of d (writer_at ws i)) lies.within)

    pub one_placed : {end : ℕ} {after : List ℕ} → PutAt (part_field 4 (some (take (len - 0) filled))) out next end after → Placed d ws.list out₀ at after end (i + 1)
    one_placed {end} {after} q =
        let field = subst (λ (b : List ℕ). PutAt (part_field 4 (some b)) out next end after) taken q in
        let n = put_next 81 (given_field 4 (writer_bytes (listed d ws.list i))) out next end after (field_size (listed d ws.list i) lies.within)
        (omega (arith, g.ends, g.same, r.room, few_left)) field in
        record {
          put =
              subst (λ (b : List ℕ). PutAt b out₀ at end after) (sym (writers_next (listed d ws.list) i))
              (put_then (writers_bytes (run (listed d ws.list) 0 i)) (given_field 4 (writer_bytes (listed d ws.list i))) out₀ at next end out after (omega (arith, r.room)) g.put field);
          same = n.1 ∙ g.same;
          ends = omega (arith, n.0, g.ends);
          few = omega (arith, few_left);
        }

-- ---- the Stat

pub value_nothing : {v : Maybe CodeStat} {out : List ℕ} {at : ℕ} → v ≡ None → PutAt (part_field 2 (stat_part (value_of v))) out at at out
unfolding part_field
value_nothing {v} {out} {at} e = subst (λ (x : Maybe CodeStat). PutAt (part_field 2 (stat_part (value_of x))) out at at out) (sym e) (put_nothing out at)

module _ {v : Maybe CodeStat} {s : CodeStat} (e : v ≡ Some s) {scratch : List ℕ} {len : ℕ} {filled : List ℕ} (p : PutAt (stat_bytes (stat_of s)) scratch 0 len filled) where
  taken_stat : take (len - 0) filled ≡ stat_bytes (stat_of s)
  taken_stat = front_of p

  pub stat_len : len ≤ 99
  stat_len = omega (arith, p.ends, stat_size (stat_of s))

  pub value_put : {out : List ℕ} {at next : ℕ} {after : List ℕ} → PutAt (part_field 2 (some (take (len - 0) filled))) out at next after
      → PutAt (part_field 2 (stat_part (value_of v))) out at next after
  value_put {out} {at} {next} {after} q =
      subst (λ (x : Maybe CodeStat). PutAt (part_field 2 (stat_part (value_of x))) out at next after) (sym e)
      (subst (λ (b : List ℕ). PutAt (part_field 2 (some b)) out at next after) taken_stat q)

-- ---- all fields

value_size : (o : Option Stat) → length (part_field 2 (stat_part o)) ≤ 110
unfolding part_field
value_size none = omega arith
value_size (some s) = omega (arith, part_size 2 (stat_bytes s) (omega arith), stat_size s)

module _ {d : List ℕ} {n : CodeNode} (w : NodeFits d n) where
  path_bytes : List ℕ
  path_bytes = part_field 1 (some (part_of d n.path))

  path_size : length path_bytes ≤ 266
  unfolding path_bytes
  path_size = omega (arith, part_size 1 (part_of d n.path) (omega arith), w.within.path.short)

  trie_size : length (part_field 3 (bytes_of d n.trie)) ≤ 1035
  trie_size = part_within 3 1024 (bytes_of d n.trie) (omega arith) w.within.trie

  all_size : length (writers_bytes (writers_of d n.writers)) ≤ 648
  all_size =
      omega (
        arith,
        writers_size (listed d n.writers.list) n.writers.count
            (λ j l. field_size (listed d n.writers.list j) (all_within (listed d n.writers.list) n.writers.count w.within.writers j l)),
        w.inside.writers.count,
      )

  pub node_size : length (node_bytes (node_of d n)) ≤ 2070
  unfolding node_bytes path_bytes
  node_size =
      let e = number_field 5 (number_of n.sequence) in
      let c = writers_bytes (writers_of d n.writers) in
      let b = part_field 3 (bytes_of d n.trie) in
      let a = part_field 2 (stat_part (value_of n.value)) in
      omega (
        arith,
        length-append path_bytes (a ++ (b ++ (c ++ e))),
        length-append a (b ++ (c ++ e)),
        length-append b (c ++ e),
        length-append c e,
        path_size,
        value_size (value_of n.value),
        trie_size,
        all_size,
        number_size 5 (number_of n.sequence) (omega arith),
      )

  module _ (out : List ℕ) (room : 2070 ≤ length out) where
    pub path_room : 0 + 11 + length (take (n.path.at + n.path.len - n.path.at) (drop n.path.at d)) ≤ length out
    path_room = omega (arith, ap length (cut d n.path), w.within.path.short)

    module _ {second : ℕ} {one : List ℕ} (p : PutAt (part_field 1 (some (take (n.path.at + n.path.len - n.path.at) (drop n.path.at d)))) out 0 second one) where
      first_put : PutAt path_bytes out 0 second one
      unfolding path_bytes
      first_put = subst (λ (b : List ℕ). PutAt (part_field 1 (some b)) out 0 second one) (cut d n.path) p

      at_second : (second ≤ 0 + 266) × (length one ≡ length out)
      at_second = put_next 266 path_bytes out 0 second one path_size (omega arith) first_put

      pub value_room : second + 110 ≤ length one
      value_room = omega (arith, at_second.0, at_second.1)

      module _ {third : ℕ} {two : List ℕ} (q : PutAt (part_field 2 (stat_part (value_of n.value))) one second third two) where
        at_third : (third ≤ second + 110) × (length two ≡ length one)
        at_third = put_next 110 (part_field 2 (stat_part (value_of n.value))) one second third two (value_size (value_of n.value)) value_room q

        pub trie_room : BytesRoomy d n.trie 3 two third
        trie_room = record {
          kind = omega arith;
          inside = w.inside.trie;
          room = omega (arith, at_second.0, at_second.1, at_third.0, at_third.1, size_of_lem d n.trie 1024 w.inside.trie w.within.trie);
        }

        module _ {fourth : ℕ} {three : List ℕ} (r : PutAt (part_field 3 (bytes_of d n.trie)) two third fourth three) where
          at_fourth : (fourth ≤ third + 1035) × (length three ≡ length two)
          at_fourth =
              put_next 1035 (part_field 3 (bytes_of d n.trie)) two third fourth three trie_size (omega (arith, at_second.0, at_second.1, at_third.0, at_third.1)) r

          pub writers_room : WritersRoomy d n.writers three fourth
          writers_room = record {
            fits = record { inside = w.inside.writers; within = w.within.writers };
            room = omega (arith, at_second.0, at_second.1, at_third.0, at_third.1, at_fourth.0, at_fourth.1);
          }

          module _ {fifth : ℕ} {four : List ℕ} (s : PutAt (writers_bytes (writers_of d n.writers)) three fourth fifth four) where
            at_fifth : (fifth ≤ fourth + 648) × (length four ≡ length three)
            at_fifth = put_next 648 (writers_bytes (writers_of d n.writers)) three fourth fifth four all_size writers_room.room s

            pub number_room : fifth + 11 ≤ length four
            number_room = omega (arith, at_second.0, at_second.1, at_third.0, at_third.1, at_fourth.0, at_fourth.1, at_fifth.0, at_fifth.1)

            pub node_put : {end : ℕ} {after : List ℕ} → PutAt (number_field 5 (number_of n.sequence)) four fifth end after → PutAt (node_bytes (node_of d n)) out 0 end after
            unfolding node_bytes path_bytes
            node_put {end} {after} t =
                let e = number_field 5 (number_of n.sequence) in
                let c = writers_bytes (writers_of d n.writers) in
                let b = part_field 3 (bytes_of d n.trie) in
                let a = part_field 2 (stat_part (value_of n.value)) in
                put_then path_bytes (a ++ (b ++ (c ++ e))) out 0 second end one after (omega arith) first_put
                (put_then a (b ++ (c ++ e)) one second third end two after (omega (arith, at_second.0, at_second.1)) q
                (put_then b (c ++ e) two third fourth end three after (omega (arith, at_second.0, at_second.1, at_third.0, at_third.1)) r
                (put_then c e three fourth fifth end four after (omega (arith, writers_room.room)) s t)))
