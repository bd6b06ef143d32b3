-- What the calls ensure, on every input.
use Rattle.std.specs.Prelude.{ℕ, ◌≡◌, List}
use Rattle.answer_types.specs.Verdict.{Verdict}
use Rattle.blake2b.specs.Hash.{node_hash}
use Rattle.copy_checks.specs.Copy.{Copy}
use Rattle.copy_roots.specs.Roots.{copy_root_verdict, copy_prefix_verdict, copy_root_answer, copy_prefix_root}

pub record RootPost (c : Copy) (v : Verdict) (h : List ℕ) : Type 0 where
  pub answer : v ≡ copy_root_verdict c
  pub root : h ≡ copy_root_answer node_hash c

pub record PrefixRootPost (c : Copy) (m : ℕ) (v : Verdict) (h : List ℕ) : Type 0 where
  pub answer : v ≡ copy_prefix_verdict c m
  pub root : h ≡ copy_prefix_root node_hash c m
