-- What making a packet answers and writes.
-- Assumes nothing.
use Rattle.std.specs.Prelude.{Result, Ok, Err}
use Prim.Native.Nat.{ℕ, ◌≤◌, ◌<◌}
use mathlib.Core.Path.{◌≡◌, refl, sym, ap, ◌∙◌, subst}
use mathlib.Core.Bool.{true, false}
use mathlib.Core.List.{List}
use native.Mathlib.Omega.{arith}
use lib.ListN.{length}
use borrow.Author.Tests.{le-leb, lt-leb}
use Rattle.answer_types.specs.Verdict.{Verdict, done, refused}
use Rattle.answer_types.specs.declared.Place.TheVariants.{Nowhere}
use Rattle.byte_strings.specs.Lists.{put}
use Rattle.tree_index.specs.Tree.{index}
use Rattle.file_format.specs.Sizes.{longest_chunk}
use Rattle.file_format.specs.Stored.{stored_size}
use Rattle.file_format.specs.Belongs.{Register}
use Rattle.checks.specs.Checks.{holds}
use Rattle.lookup.specs.Lookup.{Found}
use Rattle.lookup.specs.Read.{verdict_found, bytes_found, chunk_bytes, read_found, read_verdict, read_part}
use Rattle.lookup.proofs.Answers.{stays_inside}
use Rattle.lookup.proofs.Calls.{reading, read_in_lem as part_in_lem, read_says_lem, read_bytes as read-part}
use Rattle.packet.specs.Packet.{packet_of, make_verdict, packet_with}
use Rattle.packet.specs.Inner.{Readable, ReadIn}
use Rattle.packet.specs.Post.{MadeAs, MadeBehind}
use Rattle.answer_types.specs.declared.Refusal.{Refusal}

-- ---- a chunk that is read may go into a packet

module _ (F : List ℕ → List ℕ) (r : Register) (c : ℕ) (e : done ≡ read_verdict F r c) where
  pub readable : (bytes : List ℕ) → bytes ≡ chunk_bytes r c → Readable r.tree r.n c bytes
  readable bytes f =
      let q = (reading F r c (sym e)).placing in
      let p = q.passed in
      let l = stays_inside r p in
      let start = (reading F r c (sym e)).start in
      let short : stored_size r.tree (index 0 c) ≤ longest_chunk = (l.chunk c q.below c start q.comes).1.fits in
      record {
        chunk = record { count = p.count; below = q.below };
        inside = p.tree;
        short = subst (λ (x : ℕ). x ≤ longest_chunk) (sym (ap length f ∙ l.read c q.below c start q.comes)) short;
      }

  pub read_bytes : (bytes : List ℕ) → bytes ≡ read_part F r c → bytes ≡ chunk_bytes r c
  read_bytes bytes f = f ∙ (reading F r c (sym e)).bytes

-- ---- the answers

-- after a refusal no packet is written
pub made_alike : {v w : Verdict} {p q out : List ℕ} {answer : Result ℕ Refusal} {after : List ℕ} → v ≡ w → (v ≡ done → p ≡ q)
    → MadeBehind v p out answer after → MadeBehind w q out answer after
made_alike {v = done} e f m = rw (← e, ← f refl) m
made_alike {v = refused k at} e f m = rw (← e) (record { verdict = m.verdict; long = m.long; written = m.written })

module _ (p out : List ℕ) (needed : ℕ) (e : needed ≡ length p) where
  pub no_room : length out < needed → MadeBehind done p out (Err (record { number = 14; place = Nowhere })) out
  no_room h =
      let f : holds out (length p) ≡ false = lt-leb (length p) (length out) (omega arith) in
      record { verdict = rw f; long = rw f; written = rw f }

  pub made_whole : needed ≤ length out → (after : List ℕ) → after ≡ put out 0 p → MadeBehind done p out (Ok needed) after
  made_whole h after g =
      let f : holds out (length p) ≡ true = le-leb (length p) (length out) (omega arith) in
      record { verdict = rw f; long = rw f e; written = rw f g }

-- what a read found, p, may go into a packet
module _ (F : List ℕ → List ℕ) (r : Register) (c : ℕ) (p : Found) (e : p ≡ read_found F r c) where
  pub part_bytes : verdict_found p ≡ done → bytes_found r.content p ≡ chunk_bytes r c
  part_bytes d = read_bytes F r c (sym d ∙ read_says_lem F r c p e) _ (read-part F r c p e)

  pub read_in_lem : ReadIn r.tree r.content r.n c p
  read_in_lem =
      record {
        part = part_in_lem F r c p e;
        readable = λ d. readable F r c (sym d ∙ read_says_lem F r c p e) _ (part_bytes d);
      }

  pub made_as : {out : List ℕ} {answer : Result ℕ Refusal} {after : List ℕ}
      → MadeBehind (verdict_found p) (packet_with r.tree r.n c (bytes_found r.content p)) out answer after → MadeAs F r c out answer after
  unfolding make_verdict packet_of
  made_as = made_alike (read_says_lem F r c p e) (λ d. ap (packet_with r.tree r.n c) (part_bytes d))
