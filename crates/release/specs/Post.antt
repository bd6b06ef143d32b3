-- What the calls ensure: the answer and the later content of every lent buffer, on every input; and what the inner part requires.
use Rattle.std.specs.Prelude.{ℕ, ◌+◌, ◌/◌, ◌≤◌, ◌≡◌, List, length}
use Rattle.answer_types.specs.Verdict.{Verdict}
use Rattle.byte_strings.specs.Lists.{put, zeros}
use Rattle.bitfield.specs.Append.{bits_place}
use Rattle.bitfield.specs.Release.{released_bits}
use Rattle.file_format.specs.Belongs.{Buffers, Register}
use Rattle.lookup.specs.Lookup.{Found, refusal, found}
use Rattle.lookup.specs.Read.{verdict_found}
use Rattle.release.specs.Release.{bytes_cleared, release_verdict, after_release}

-- four lent buffers
abbrev pub lent : List ℕ → List ℕ → List ℕ → List ℕ → Buffers
lent tree signatures bitfield content = record { tree = tree; signatures = signatures; bitfield = bitfield; content = content }

pub record ReleasePost (r : Register) (c : ℕ) (v : Verdict) (left : Buffers) : Type 0 where
  pub answer : v ≡ release_verdict r c
  pub buffers : left ≡ after_release r c

-- the bitfield entry of chunk c lies in the bitfield file, and its bytes in the data
pub record Clears (bits bytes : List ℕ) (c start size : ℕ) : Type 0 where
  pub entry : bits_place (c / 8192 + 1) ≤ length bits
  pub inside : start + size ≤ length bytes

-- both files before, and both after
pub record Cleared (bits bytes : List ℕ) (c start size : ℕ) (bits' bytes' : List ℕ) : Type 0 where
  pub bitfield : bits' ≡ released_bits bits c
  pub content : bytes' ≡ put bytes start (zeros size)

-- where a chunk's place was found, both of these
abbrev pub ClearsAt : List ℕ → List ℕ → ℕ → Found → Type 0
ClearsAt bits bytes c (refusal m at) = Unit {0}
ClearsAt bits bytes c (found start size) = Clears bits bytes c start size

-- the inner step: what was found as a verdict, and both files cleared at the place that was found; after a refusal as they were
abbrev pub bits_cleared : List ℕ → ℕ → Found → List ℕ
bits_cleared bits c (refusal m at) = bits
bits_cleared bits c (found start size) = released_bits bits c

pub record ReleasedPost (bits bytes : List ℕ) (c : ℕ) (p : Found) (v : Verdict) (bits' bytes' : List ℕ) : Type 0 where
  pub answer : v ≡ verdict_found p
  pub bitfield : bits' ≡ bits_cleared bits c p
  pub content : bytes' ≡ bytes_cleared bytes p
