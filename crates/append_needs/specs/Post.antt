-- What the call ensures.
use Rattle.std.specs.Prelude.{ℕ, ◌+◌, ◌≡◌, List, Result}
use Rattle.std.specs.Result.{result_unwrap_or}
use Rattle.answer_types.specs.Meaning.{said}
use Rattle.answer_types.specs.declared.Refusal.{Refusal}
use Rattle.append_needs.specs.Needs.{Need, need_verdict, need_given}
use Rattle.append_needs.specs.declared.Needed.{Needed}

-- the numbers of what is given
abbrev pub numbers_of : Needed → Need
numbers_of r =
    record {
      tree = r.tree;
      signatures = r.signatures;
      bitfield = r.bitfield;
      content = r.content;
      leaves = r.leaves;
      parents = r.parents;
      root = r.root;
    }

-- zeros, which stand for what is given after a refusal
abbrev pub none_needed : Needed
none_needed = record { tree = 0; signatures = 0; bitfield = 0; content = 0; leaves = 0; parents = 0; root = 0; runs = 0 }

abbrev pub given : Result Needed Refusal → Needed
given r = result_unwrap_or r none_needed

pub record NeedPost (n size : ℕ) (ls : List ℕ) (r : Result Needed Refusal) : Type 0 where
  pub answer : said r ≡ need_verdict n size ls
  pub numbers : numbers_of (given r) ≡ need_given n size ls
  -- all runs together
  pub runs : (given r).runs ≡ (given r).leaves + (given r).parents + (given r).root
