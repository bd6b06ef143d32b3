-- Two ways up whose hashes differ at the foot: the first step with one hash is a pair, and where there is none the hashes differ at the top.
-- Assumes nothing.
use Prim.Native.Nat.{ℕ, zero, suc, ◌+◌, ◌/◌, ◌%◌, ◌≤◌, ◌<◌}
use mathlib.Core.Path.{◌≡◌, refl, sym, ap, ◌∙◌}
use mathlib.Core.Logic.{◌≢◌, inl, inr}
use mathlib.Core.Bool.{Bool, true, false, cond, not, ◌&&◌}
use mathlib.Core.List.{List, [], ◌∷◌}
use native.Mathlib.Nat.{suc_inj, not-suc-le-zero, zero-lt-suc, le_of_suc-le-suc}
use native.Mathlib.Omega.{arith}
use lib.ListN.{length}
use Rattle.byte_strings.specs.Lists.{Bytes, run, same_list}
use Rattle.byte_strings.proofs.Lists.{same_of}
use Rattle.byte_strings.proofs.Bools.{and_false}
use Rattle.tree_index.specs.Tree.{index}
use Rattle.file_format.specs.Messages.{HashFunction}
use Rattle.file_format.specs.Entries.{Entry, parent_of}
use Rattle.file_format.proofs.Nodes.{parent_message_bytes}
use Rattle.compare.proofs.Local.{Told, told, false_same}
use Rattle.compare.proofs.Apart.{parent_injective}
use Rattle.packet.specs.Check.{Step, ordered, parent_message_of, steps_above, last_entry}
use Rattle.packet.proofs.Climb.{arranged}
use Rattle.packet_compare.specs.Walk.{Walk, at_index, pair, first_pair}
use Rattle.packet_compare.specs.Inner.{Whole}
use Rattle.packet_compare.specs.Theorems.{step_at, PairAt}

-- ---- entries with a hash of 32 bytes

abbrev pub Wholes : List Entry → Type 0
Wholes [] = Unit {0}
Wholes (e ∷ es) = Whole e × Wholes es

pub wholes_run : (f : ℕ → Entry) (i k : ℕ) → ((j : ℕ) → i ≤ j → j < i + k → Whole (f j)) → Wholes (run f i k)
unfolding run
wholes_run f i zero h = tt
wholes_run f i (suc k) h = (h i (omega arith) (omega arith), wholes_run f (suc i) k (λ j p q. h j (omega arith) (omega arith)))

-- ---- the order of two entries

either : {A : Type 0} (P : A → Type 0) (b : ℕ) (x y : A) → P x → P y → P (arranged b x y)
either P zero x y p q = p
either P (suc c) x y p q = q

-- the hash of the parent is that of the message
pub ordered_hash : (F : List ℕ → List ℕ) (k : ℕ) (e s : Entry) → (ordered k (parent_of F) e s).hash ≡ F (ordered k parent_message_of e s)
unfolding ordered parent_of
ordered_hash F k e s = go (k % 2)
  where
    go : (b : ℕ) → (arranged b (parent_of F e s) (parent_of F s e)).hash ≡ F (arranged b (parent_message_of e s) (parent_message_of s e))
    go zero = refl
    go (suc c) = refl

-- where the hashes of two blocks differ, the messages of their parents do
pub messages_differ : (k : ℕ) (e f s t : Entry) → Whole e → Whole f → Whole s → Whole t → e.hash ≢ f.hash
    → ordered k parent_message_of e s ≢ ordered k parent_message_of f t
unfolding ordered
messages_differ k e f s t we wf ws wt d = go (k % 2)
  where
    go : (b : ℕ) → arranged b (parent_message_of e s) (parent_message_of s e) ≢ arranged b (parent_message_of f t) (parent_message_of t f)
    go zero q = d (parent_injective (e.size + s.size) (f.size + t.size) e.hash f.hash s.hash t.hash we.long wf.long q).left
    go (suc c) q = d (parent_injective (s.size + e.size) (t.size + f.size) s.hash t.hash e.hash f.hash ws.long wt.long q).right

module _ (F : List ℕ → List ℕ) (H : HashFunction F) where
  parent_whole : (l r : Entry) → Whole l → Whole r → Whole (parent_of F l r)
  unfolding parent_of
  parent_whole l r p q =
      let b : Bytes (parent_message_of l r) = parent_message_bytes (l.size + r.size) l.hash r.hash p.bytes q.bytes in
      record { long = H.size (parent_message_of l r) b; bytes = H.byte (parent_message_of l r) b }

  pub above_whole : (k : ℕ) (e s : Entry) → Whole e → Whole s → Whole (ordered k (parent_of F) e s)
  unfolding ordered
  above_whole k e s p q = either Whole (k % 2) (parent_of F e s) (parent_of F s e) (parent_whole e s p q) (parent_whole s e q p)

-- ---- one step

module _ (F : List ℕ → List ℕ) where
  pub pair_true : (m₁ m₂ : List ℕ) → m₁ ≢ m₂ → F m₁ ≡ F m₂ → pair F m₁ m₂ ≡ true
  unfolding pair
  pair_true m₁ m₂ d e = λ t. not (false_same m₁ m₂ d t) && same_of (F m₁) (F m₂) e t

  pair_false : (m₁ m₂ : List ℕ) → F m₁ ≢ F m₂ → pair F m₁ m₂ ≡ false
  unfolding pair
  pair_false m₁ m₂ d = ap (λ (b : Bool). not (same_list m₁ m₂) && b) (false_same (F m₁) (F m₂) d) ∙ and_false (not (same_list m₁ m₂))

  -- how a walk along two ways up ends that lead to the entries l and m: at the first pair, or at the top
  pub data Outcome (ss ts : List Step) (l m : Entry) : Type 0 where
    found : (d : ℕ) → ((next : Walk) → first_pair F ss ts next ≡ at_index (step_at ss d).at) → PairAt F ss ts d
        → ((e : ℕ) → e < d → PairAt F ss ts e → ⊥) → Outcome ss ts l m
    through : ((next : Walk) → first_pair F ss ts next ≡ next) → ((e : ℕ) → PairAt F ss ts e → ⊥) → l.hash ≢ m.hash → Outcome ss ts l m

  -- a pair above the first step
  lifted : (s t : Step) (ss ts : List Step) (d : ℕ) → PairAt F ss ts d → PairAt F (s ∷ ss) (t ∷ ts) (suc d)
  lifted s t ss ts d a = record { below = omega (arith, a.below); pair = a.pair }

  lowered : (s t : Step) (ss ts : List Step) (d : ℕ) → PairAt F (s ∷ ss) (t ∷ ts) (suc d) → PairAt F ss ts d
  lowered s t ss ts d a = record { below = le_of_suc-le-suc a.below; pair = a.pair }

  module _ (s t : Step) (ss ts : List Step) (l m : Entry) where
    -- the walk's choice at this step
    chosen : Bool → Walk → Walk
    chosen b next = cond b (at_index s.at) (first_pair F ss ts next)

    pub stops : s.message ≢ t.message → F s.message ≡ F t.message → (next : Walk) → first_pair F (s ∷ ss) (t ∷ ts) next ≡ at_index s.at
    unfolding first_pair chosen
    stops d e next = ap (λ (b : Bool). chosen b next) (pair_true s.message t.message d e)

    here : s.message ≢ t.message → F s.message ≡ F t.message → Outcome (s ∷ ss) (t ∷ ts) l m
    here d e =
        found 0 (stops d e)
        (record { below = zero-lt-suc (length ss); pair = record { differ = d; one_hash = e } }) (λ j h a. absurd (omega arith))

    -- where the hashes differ at this step, it has no pair
    none_here : F s.message ≢ F t.message → PairAt F (s ∷ ss) (t ∷ ts) 0 → ⊥
    none_here d a = d a.pair.one_hash

    pub passes_on : F s.message ≢ F t.message → (next : Walk) → first_pair F (s ∷ ss) (t ∷ ts) next ≡ first_pair F ss ts next
    unfolding first_pair chosen
    passes_on d next = ap (λ (b : Bool). chosen b next) (pair_false s.message t.message d)

    further : F s.message ≢ F t.message → Outcome ss ts l m → Outcome (s ∷ ss) (t ∷ ts) l m
    further d (found j w a b) = found (suc j) (λ next. passes_on d next ∙ w next) (lifted s t ss ts j a) none
      where
        none : (e : ℕ) → e < suc j → PairAt F (s ∷ ss) (t ∷ ts) e → ⊥
        none zero h x = none_here d x
        none (suc e) h x = b e (le_of_suc-le-suc h) (lowered s t ss ts e x)
    further d (through w b x) = through (λ next. passes_on d next ∙ w next) none x
      where
        none : (e : ℕ) → PairAt F (s ∷ ss) (t ∷ ts) e → ⊥
        none zero y = none_here d y
        none (suc e) y = b e (lowered s t ss ts e y)

    pub one_step : s.message ≢ t.message → (F s.message ≢ F t.message → Outcome ss ts l m) → Outcome (s ∷ ss) (t ∷ ts) l m
    one_step d rest = go (told (F s.message) (F t.message))
      where
        go : Told (F s.message) (F t.message) → Outcome (s ∷ ss) (t ∷ ts) l m
        go (inl p) = here d p.0
        go (inr p) = further p.0 (rest p.0)

-- ---- the way up

pub last_whole : (F : List ℕ → List ℕ) → HashFunction F → (d k : ℕ) (e : Entry) (ss : List Entry) → Whole e → Wholes ss
    → Whole (last_entry e (steps_above F d k e ss))
unfolding steps_above last_entry
last_whole F H d k e [] we ws = we
last_whole F H d k e (s ∷ ss) we ws = last_whole F H (d + 1) (k / 2) (ordered k (parent_of F) e s) ss (above_whole F H k e s we ws.0) ws.1

pub walk_up : (F : List ℕ → List ℕ) → HashFunction F → (d k : ℕ) (e f : Entry) (ss ts : List Entry) → Whole e → Whole f → Wholes ss → Wholes ts
    → length ss ≡ length ts → e.hash ≢ f.hash
    → Outcome F (steps_above F d k e ss) (steps_above F d k f ts) (last_entry e (steps_above F d k e ss)) (last_entry f (steps_above F d k f ts))
unfolding steps_above last_entry first_pair
walk_up F H d k e f [] [] we wf ws wt l n = through (λ next. refl) (λ j a. absurd (not-suc-le-zero a.below)) n
walk_up F H d k e f [] (t ∷ ts) we wf ws wt l n = absurd (omega (arith, l))
walk_up F H d k e f (s ∷ ss) [] we wf ws wt l n = absurd (omega (arith, l))
walk_up F H d k e f (s ∷ ss) (t ∷ ts) we wf ws wt l n =
    let a : Entry = ordered k (parent_of F) e s in
    let b : Entry = ordered k (parent_of F) f t in
    let u : Step = record { at = index (d + 1) (k / 2); message = ordered k parent_message_of e s; entry = ordered k (parent_of F) e s } in
    let v : Step = record { at = index (d + 1) (k / 2); message = ordered k parent_message_of f t; entry = ordered k (parent_of F) f t } in
    one_step F u v (steps_above F (d + 1) (k / 2) a ss) (steps_above F (d + 1) (k / 2) b ts)
    (last_entry a (steps_above F (d + 1) (k / 2) a ss)) (last_entry b (steps_above F (d + 1) (k / 2) b ts))
    (messages_differ k e f s t we wf ws.0 wt.0 n)
    (λ g. walk_up F H (d + 1) (k / 2) a b ss ts (above_whole F H k e s we ws.0) (above_whole F H k f t wf wt.0) ws.1 wt.1 (suc_inj l)
    (λ q. g (sym (ordered_hash F k e s) ∙ q ∙ ordered_hash F k f t)))
