-- Refused with 19, or all that is written. Assumes nothing.
use Prim.Native.Nat.{ℕ}
use mathlib.Core.Path.{◌≡◌, sym, ap, ap₂, ◌∙◌}
use mathlib.Core.List.{List}
use Rattle.answer_types.specs.Verdict.{Verdict, tree, done, refused, unless_refused}
use Rattle.byte_strings.specs.Lists.{put}
use Rattle.byte_strings.specs.Lowest.{Lowest, nowhere, first}
use Rattle.bitfield.specs.Known.{held_again}
use Rattle.audit.specs.Audit.{refused_at}
use Rattle.packet.specs.Check.{packet_chunk}
use Rattle.copy_checks.specs.Copy.{Copy, Files, files_of, files_lent, copy_of}
use Rattle.copy_take_in.specs.TakeIn.{packet_start, with_given, with_known, brought, contradiction, taken_in}
use Rattle.copy_take_in.specs.Inner.{WithGiven}
use Rattle.copy_take_in.specs.Post.{own_verdict, OwnPost}

module _ (F : List ℕ → List ℕ) (c : Copy) (p : List ℕ) (i : ℕ) where
  pub own_refused : (v : Verdict) (at : ℕ) → first at ≡ contradiction F c p i → v ≡ refused 19 (tree at) → OwnPost F c p i v (files_of c)
  unfolding own_verdict refused_at
  own_refused v at e f =
      record {
        answer = f ∙ ap (λ (l : Lowest). refused_at 19 tree l done) e;
        files = sym (ap (λ (x : Verdict). unless_refused x (files_of (taken_in F c p i)) (files_of c)) f);
      }

  pub own_done : (left : Files) → nowhere ≡ contradiction F c p i → left ≡ files_of (taken_in F c p i) → OwnPost F c p i done left
  unfolding own_verdict refused_at
  own_done left e f = record { answer = ap (λ (l : Lowest). refused_at 19 tree l done) e; files = f }

-- the data size plays no part in it
pub sizeless : (F : List ℕ → List ℕ) (t bits content p : List ℕ) (n size i : ℕ) (v : Verdict) (left : Files) → OwnPost F (copy_of t bits content n 0) p i v left
    → OwnPost F (copy_of t bits content n size) p i v left
unfolding own_verdict contradiction taken_in
sizeless F t bits content p n size i v left w = record { answer = w.answer; files = w.files }

-- all that is written
pub all_written : (F : List ℕ → List ℕ) (content p : List ℕ) (n i : ℕ) {t bits t' mid bits' content' chunk : List ℕ} {start : ℕ} → WithGiven t bits (brought F p n i) t' mid
    → bits' ≡ held_again mid i → start ≡ packet_start p n i → chunk ≡ packet_chunk p → content' ≡ put content start chunk
    → files_lent t' bits' content' ≡ files_of (taken_in F (copy_of t bits content n 0) p i)
unfolding taken_in
all_written F content p n i {t} {bits} {t'} {bits' = bits'} {content'} w e f g h =
    let a : t' ≡ with_given t (brought F p n i) = w.tree in
    let b : bits' ≡ held_again (with_known bits (brought F p n i)) i = e ∙ ap (λ (x : List ℕ). held_again x i) w.bitfield in
    let d : content' ≡ put content (packet_start p n i) (packet_chunk p) = h ∙ ap₂ (put content) f g in
    cc
