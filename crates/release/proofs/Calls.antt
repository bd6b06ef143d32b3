-- What the code of a release needs of the definitions. Assumes nothing.
use Prim.Native.Nat.{ℕ, ◌<◌}
use mathlib.Core.Path.{◌≡◌, sym, ap, ap₂, ◌∙◌}
use mathlib.Core.List.{List}
use native.Mathlib.Omega.{arith}
use Rattle.answer_types.specs.Verdict.{Verdict, done, unless_refused}
use Rattle.byte_strings.specs.Lists.{put, zeros}
use Rattle.tree_index.specs.Tree.{index}
use Rattle.file_format.specs.Stored.{stored_size}
use Rattle.file_format.specs.Belongs.{Register, buffers_of}
use Rattle.checks.proofs.Passed.{Passed}
use Rattle.lookup.specs.Descent.{reached, always}
use Rattle.lookup.specs.Lookup.{Found, refusal, found, to_chunk, held_place_of}
use Rattle.lookup.specs.Read.{verdict_found}
use Rattle.lookup.proofs.Lookups.{place_at}
use Rattle.lookup.proofs.Calls.{Placing, held_placing, held_verdict}
use Rattle.release.specs.Release.{bytes_cleared, release_verdict, released_register, after_release}
use Rattle.release.specs.Post.{lent, ClearsAt, ReleasedPost, ReleasePost}
use Rattle.release.proofs.Bits.{bit_room}

-- the bytes after the release of a chunk that the descent comes to
pub cleared_at : (r : Register) (c : ℕ) {k s : ℕ} → c < r.n → to_chunk r c ≡ reached k s
    → (released_register r c).content ≡ put r.content s (zeros (stored_size r.tree (index 0 c)))
unfolding released_register to_chunk
cleared_at r c h e = ap (bytes_cleared r.content) (place_at always r.tree r.n c h e)

-- a release that is done: where the chunk lies in a register that passes the checks 2 to 6, and its bytes after it
pub record Clearing (r : Register) (c : ℕ) : Type 0 where
  pub start : ℕ
  pub placing : Placing r c start (stored_size r.tree (index 0 c))
  pub content : (released_register r c).content ≡ put r.content start (zeros (stored_size r.tree (index 0 c)))

pub clearing : (r : Register) (c : ℕ) → verdict_found (held_place_of r c) ≡ done → Clearing r c
clearing r c e =
    let a = held_verdict r c e in
    record { start = a.0; placing = a.1; content = cleared_at r c a.1.below a.1.comes }

pub held_passed : (r : Register) (c : ℕ) → verdict_found (held_place_of r c) ≡ done → Passed r × (c < r.n)
held_passed r c e = let p = (clearing r c e).placing in (p.passed, p.below)

module _ (r : Register) (c : ℕ) where
  pub release_fits : (p : Found) → p ≡ held_place_of r c → ClearsAt r.bitfield r.content c p
  release_fits (refusal m at) e = tt
  release_fits (found start size) e =
      let p = held_placing r c (sym e) in
      record { entry = bit_room r.bitfield r.n c p.passed.bitfield p.below; inside = omega (arith, p.inside, p.passed.content) }

  module _ (v : Verdict) (bits content : List ℕ) where
    pub release_post : (p : Found) → p ≡ held_place_of r c → ReleasedPost r.bitfield r.content c p v bits content
        → ReleasePost r c v (lent r.tree r.signatures bits content)
    unfolding release_verdict after_release released_register
    release_post p e w = record {
      answer = w.answer ∙ ap verdict_found e;
      buffers = left p e w
          ∙ ap (λ (f : Found). unless_refused (verdict_found f) (buffers_of (released_register r c)) (buffers_of r)) e;
    }
      where
        left : (p : Found) → p ≡ held_place_of r c → ReleasedPost r.bitfield r.content c p v bits content
            → lent r.tree r.signatures bits content ≡ unless_refused (verdict_found p) (buffers_of (released_register r c)) (buffers_of r)
        left (refusal m at) e w = ap₂ (lent r.tree r.signatures) w.bitfield w.content
        left (found start size) e w =
            ap₂ (lent r.tree r.signatures) w.bitfield (w.content ∙ sym (ap (bytes_cleared r.content) (held_placing r c (sym e)).place))
