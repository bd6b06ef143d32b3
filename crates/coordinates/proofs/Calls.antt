-- What the calls say and leave. Assumes nothing.
use Rattle.std.specs.Prelude.{Result, Ok, Err, ⊤}
use Rattle.std.proofs.Common.{◌≡◌, ℕ, ◌+◌, ◌-◌, ◌*◌, ◌/◌, ◌<◌, ◌≤◌, Bool, true, false, cond, leb, List, ◌++◌}
use Rattle.std.proofs.Common.{length, take, drop, sym, refl, ap, ◌∙◌, ap₂, zero-add, arith, length-drop, take_all, take_at, le-leb, leb-true}
use borrow.Author.Tests.{lt-leb}
use Rattle.answer_types.specs.Verdict.{Verdict, none, done, refused}
use Rattle.answer_types.specs.Meaning.{said, refusal_of}
use Rattle.answer_types.specs.declared.Refusal.{Refusal}
use Rattle.byte_strings.specs.Lists.{put, Bytes}
use Rattle.byte_strings.proofs.Lists.{put_append}
use Rattle.coordinates.specs.Post.{longest, verdict, front_unless, after, Written}
use Rattle.coordinates.specs.Grouping.{count, remaining}
use Rattle.coordinates.specs.Inner.{Worded}
use Rattle.coordinates.specs.Theorems.{CallsUndo}

pub verdict_7 : (long room : ℕ) → longest < long → verdict long room ≡ refused 7 none
unfolding verdict
verdict_7 long room h = rw (lt-leb long longest h)

pub verdict_14 : (long room : ℕ) → long ≤ longest → room < long → verdict long room ≡ refused 14 none
unfolding verdict
verdict_14 long room h l = rw (le-leb long longest h, lt-leb long room l)

pub verdict_done : (long room : ℕ) → long ≤ longest → long ≤ room → verdict long room ≡ done
unfolding verdict
verdict_done long room h l = rw (le-leb long longest h, le-leb long room l)

module _ (f : List ℕ → List ℕ) (d out : List ℕ) where
  pub after_done : verdict (length d) (length out) ≡ done → after f d out ≡ put out 0 (f d)
  unfolding after
  after_done e = ap (λ (v : Verdict). front_unless v (f d) out) e

  front : (k : ℕ) → length (f d) ≡ k → take k (put out 0 (f d)) ≡ f d
  unfolding put
  front k e = take_at (f d) (drop (0 + length (f d)) out) k e

-- a call that is done had room
pub done_room : (long room : ℕ) → verdict long room ≡ done → long ≤ room
unfolding verdict
done_room long room e = at (leb long longest) (leb long room) refl e
  where
    at : (a b : Bool) → leb long room ≡ b → cond a (cond b done (refused 14 none)) (refused 7 none) ≡ done → long ≤ room
    at true true q v = leb-true long room q
    at true false q v = let z : ◌≡◌ {A = ℕ} 0 1 = cc in absurd (omega arith)
    at false b q v = let z : ◌≡◌ {A = ℕ} 0 1 = cc in absurd (omega arith)

-- after a refusal the buffer is as it was
pub written_none : (f : List ℕ → List ℕ) (d out : List ℕ) (r : Refusal) (a : Result ⊤ Refusal) → a ≡ Err r → said a ≡ verdict (length d) (length out)
    → Written f d out (Err r) out
unfolding after
written_none f d out r a e v =
    let w : refusal_of r ≡ verdict (length d) (length out) = ap said (sym e) ∙ v in
    record { answers = w; buffer = ap (λ (x : Verdict). front_unless x (f d) out) w }

-- the bytes behind the words, as a part that ends where d ends
abbrev behind : List ℕ → List ℕ
behind d = take (length d - 4 * (length d / 4)) (drop (4 * (length d / 4)) d)

behind_is : (d : List ℕ) → behind d ≡ drop (4 * (length d / 4)) d
behind_is d = take_all (length d - 4 * (length d / 4)) (drop (4 * (length d / 4)) d) (omega (arith, length-drop (4 * (length d / 4)) d))

-- a call that is done: the words stand in d, and there is room for them and for the bytes that remain
module _ (d out : List ℕ) (a : Result ⊤ Refusal) (e : a ≡ (Ok tt)) (v : said a ≡ verdict (length d) (length out)) where
  so_done : verdict (length d) (length out) ≡ done
  so_done = sym v ∙ ap said e

  pub words_room : Worded d (length d / 4) × 4 * (length d / 4) ≤ length out
  unfolding count
  words_room = (record { counted = refl; inside = omega arith }, omega (arith, done_room (length d) (length out) so_done))

  pub rest_room : (first : List ℕ) → length first ≡ length out → 4 * (length d / 4) + length (behind d) ≤ length first
  rest_room first l =
      let b : length (behind d) ≡ length d - 4 * (length d / 4) = ap length (behind_is d) ∙ length-drop (4 * (length d / 4)) d in
      omega (arith, done_room (length d) (length out) so_done)

  -- the front that was written first, and the remaining bytes behind it
  pub written_whole : (f : List ℕ → List ℕ) (front first last : List ℕ) → f d ≡ front ++ remaining d → length front ≡ 4 * count d
      → first ≡ put out 0 front → last ≡ put first (4 * (length d / 4)) (behind d) → Written f d out (Ok tt) last
  unfolding count remaining
  written_whole f front first last s l p q =
      record {
        answers = sym so_done;
        buffer =
            q ∙ ap₂ (λ (xs ys : List ℕ). put xs (4 * (length d / 4)) ys) p (behind_is d)
            ∙ ap (λ (k : ℕ). put (put out 0 front) k (drop (4 * (length d / 4)) d)) (sym (zero-add (length front) ∙ l))
            ∙ put_append out 0 front (drop (4 * (length d / 4)) d) (omega arith) ∙ ap (put out 0) (sym s) ∙ sym (after_done f d out so_done);
      }

-- a call, and then the call that undoes it
pub calls_undo : (f g : List ℕ → List ℕ) → ((d : List ℕ) → length (f d) ≡ length d) → ((d : List ℕ) → Bytes d → g (f d) ≡ d)
    → (d out back : List ℕ) → Bytes d → length d ≤ longest → length d ≤ length out → length d ≤ length back → CallsUndo f g d out back
calls_undo f g long undone d out back p h r s =
    let v : verdict (length d) (length out) ≡ done = verdict_done (length d) (length out) h r in
    let e : take (length d) (after f d out) ≡ f d = ap (take (length d)) (after_done f d out v) ∙ front f d out (length d) (long d) in
    let w : verdict (length (f d)) (length back) ≡ done = ap (λ (n : ℕ). verdict n (length back)) (long d) ∙ verdict_done (length d) (length back) h s in
    record {
      first_done = v;
      then_done = ap (λ (xs : List ℕ). verdict (length xs) (length back)) e ∙ w;
      given_back = ap (λ (xs : List ℕ). after g xs back) e ∙ after_done g (f d) back w ∙ ap (put back 0) (undone d p);
    }
