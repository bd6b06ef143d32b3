-- No byte behind a used size is changed: making a copy, taking in a packet and releasing a chunk leave the buffers as long as they were, and what lies behind
-- the used sizes as it was. Refused, they change no byte at all (`after_making`, `after_taking`, `copy_after_release`).
use Rattle.std.specs.Prelude.{ℕ, ◌≡◌, List, length, drop}
use Rattle.answer_types.specs.Verdict.{done}
use Rattle.byte_strings.specs.Lists.{Bytes}
use Rattle.file_format.specs.Sizes.{used_tree, used_bitfield}
use Rattle.file_format.specs.Messages.{HashFunction}
use Rattle.copy_checks.specs.Copy.{Copy}
use Rattle.copy_make.specs.Make.{make_verdict, made_copy}
use Rattle.copy_release.specs.Release.{copy_release_verdict, released_copy}
use Rattle.copy_take_in.specs.TakeIn.{take_verdict, taken_in}

-- a file before and after, with what is used of it
pub record Kept (used : ℕ) (before after : List ℕ) : Type 0 where
  pub long : length after ≡ length before
  pub behind : drop used after ≡ drop used before

-- the files of a copy, and of what it became
pub record KeptBehind (c d : Copy) : Type 0 where
  pub tree : Kept (used_tree c.n) c.tree d.tree
  pub bitfield : Kept (used_bitfield c.n) c.bitfield d.bitfield
  pub content : Kept c.size c.content d.content

pub record KeepBehind (F : List ℕ → List ℕ) (c : Copy) : Type 0 where
  pub made : make_verdict c ≡ done → KeptBehind c (made_copy c)
  pub taken : HashFunction F → (p : List ℕ) → Bytes p → (i : ℕ) (root : List ℕ) → take_verdict F c p i root ≡ done → KeptBehind c (taken_in F c p i)
  pub released : (i : ℕ) → copy_release_verdict c i ≡ done → KeptBehind c (released_copy c i)

-- for every F and every copy; where a packet is taken in, of every function F from byte strings to 32 bytes
abbrev pub KeepBehindForAll : Type 0
KeepBehindForAll = (F : List ℕ → List ℕ) (c : Copy) → KeepBehind F c
