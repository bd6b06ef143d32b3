-- The same as the calls see it: what a call on a grown copy leaves is a grown copy again, whatever it answers, for after a refusal nothing has changed.
use Rattle.std.specs.Prelude.{ℕ, ◌≡◌, true, List}
use Rattle.answer_types.specs.Verdict.{Verdict, done}
use Rattle.byte_strings.specs.Lists.{Bytes}
use Rattle.copy_checks.specs.Copy.{Copy, Files, copy_of}
use Rattle.copy_make.specs.Make.{MakePost}
use Rattle.copy_take_in.specs.TakeIn.{lying}
use Rattle.copy_take_in.specs.Post.{TakePost}
use Rattle.copy_release.specs.Post.{ReleasePost}
use Rattle.theorem_copies_grown.specs.Grown.{leaves_short, Grown}

-- a copy with the files that a call left
abbrev pub left_as : Copy → Files → Copy
left_as c left = copy_of left.tree left.bitfield left.content c.n c.size

pub record KeptByCalls (F : List ℕ → List ℕ) : Type 0 where
  pub making : (c : Copy) (v : Verdict) (left : Files) → MakePost c v left → v ≡ done → (c.n ≡ 0 → c.size ≡ 0) → Grown F (left_as c left)
  -- of a packet that is refused nothing is asked
  pub taking : (c : Copy) → Grown F c → (p : List ℕ) (i : ℕ) (root : List ℕ) (v : Verdict) (left : Files) → Bytes p
      → (v ≡ done → leaves_short (lying p c.n i) ≡ true) → TakePost F c p i root v left → Grown F (left_as c left)
  pub releasing : (c : Copy) → Grown F c → (i : ℕ) (v : Verdict) (left : Files) → ReleasePost c i v left → Grown F (left_as c left)
