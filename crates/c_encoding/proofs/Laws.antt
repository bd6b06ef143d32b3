-- What a call answers to C, from the case that its answer is.
use Rattle.std.specs.Prelude.{Result, Ok, Err, ⊤}
use Prim.Native.Nat.{ℕ}
use mathlib.Core.Path.{◌≡◌, refl, sym, ap, ap₂, ◌∙◌, subst}
use mathlib.Core.List.{List, [], ◌∷◌}
use lib.ListN.{get_or}
use Rattle.answer_types.specs.Verdict.{Verdict, done, refused, none, tree, bitfield, unless_refused}
use Rattle.answer_types.specs.Meaning.{said, refusal_of, spot_of}
use Rattle.answer_types.specs.declared.Place.{Place}
use Rattle.answer_types.specs.declared.Refusal.{Refusal}
use Rattle.lookup.specs.Lookup.{Found, found}
use Rattle.lookup.specs.Meaning.{refused_as}
use Rattle.packet.specs.Post.{made_verdict, made_bytes}
use Rattle.c_encoding.specs.Number.{number_of}
use Rattle.c_encoding.specs.Encoding.{encoded, verdict_of, numbers_unless, Gives}

-- a refusal's numbers, from the case that its place is
pub placed : (n : ℕ) (p q : Place) → p ≡ q → encoded (refused n (spot_of q)) ≡ encoded (refused n (spot_of p))
placed n p q e = ap (λ (x : Place). encoded (refused n (spot_of x))) (sym e)

-- an answer's numbers, from the case that it is
pub said_as : (a b : Result ⊤ Refusal) → a ≡ b → encoded (said b) ≡ encoded (said a)
said_as a b e = ap (λ (x : Result ⊤ Refusal). encoded (said x)) (sym e)

-- an answer's numbers are those of the verdict that it says
pub coded : (r : List ℕ) (a v : Verdict) → r ≡ encoded a → a ≡ v → r ≡ encoded v
coded r a v e p = e ∙ ap encoded p

-- and what is given beside it
pub given_hash : (out : List ℕ) (a v : Verdict) (h written before : List ℕ) → out ≡ unless_refused a h before → a ≡ v → h ≡ written
    → out ≡ unless_refused v written before
given_hash out a v h written before e p w =
    e ∙ ap₂ (λ (u : Verdict) (x : List ℕ). unless_refused u x before) p w

-- a call that gives two numbers, from the case that its answer is
pub gives_refused : (r : List ℕ) (x : Refusal) (f : Found) (before : List ℕ) → r ≡ encoded (refusal_of x) → refused_as x ≡ f
    → Gives f before r before
gives_refused r x f before e p =
    record { answers = e ∙ ap (λ (g : Found). encoded (verdict_of g)) p; numbers = ap (λ (g : Found). numbers_unless g before) p }

pub gives_found : (r : List ℕ) (a b : ℕ) (f : Found) (before : List ℕ) → r ≡ encoded done → found a b ≡ f
    → Gives f before r (a ∷ b ∷ [])
gives_found r a b f before e p =
    record { answers = e ∙ ap (λ (g : Found). encoded (verdict_of g)) p; numbers = ap (λ (g : Found). numbers_unless g before) p }

-- what is found is what the call's definition says
pub gives_same : (r : List ℕ) (f g : Found) (before after : List ℕ) → f ≡ g → Gives f before r after → Gives g before r after
gives_same r f g before after e p = subst (λ (x : Found). Gives x before r after) e p

-- what is encoded, one by one
pub one_by_one : (v : Verdict) → get_or (encoded v) 0 0 ∷ get_or (encoded v) 1 0 ∷ get_or (encoded v) 2 0 ∷ [] ≡ encoded v
one_by_one done = refl
one_by_one (refused m none) = refl
one_by_one (refused m (tree i)) = refl
one_by_one (refused m (bitfield b)) = refl

pub three_of : (r : List ℕ) (v : Verdict) → r ≡ encoded v → get_or r 0 0 ∷ get_or r 1 0 ∷ get_or r 2 0 ∷ [] ≡ encoded v
three_of r v e = ap (λ (x : List ℕ). get_or x 0 0 ∷ get_or x 1 0 ∷ get_or x 2 0 ∷ []) e ∙ one_by_one v

-- the number alone of what is encoded
encoded_number : (v : Verdict) → get_or (encoded v) 0 0 ≡ number_of v
encoded_number done = refl
encoded_number (refused m none) = refl
encoded_number (refused m (tree i)) = refl
encoded_number (refused m (bitfield b)) = refl

pub numbered : (r : List ℕ) (a v : Verdict) → r ≡ encoded a → a ≡ v → get_or r 0 0 ≡ number_of v
numbered r a v e p = ap (λ (x : List ℕ). get_or x 0 0) e ∙ encoded_number a ∙ ap number_of p

-- a packet made, from the case that the answer is
pub made_refused : (m : Result ℕ Refusal) (x : Refusal) (long : ℕ) (r : List ℕ) → m ≡ Err x → r ≡ encoded (refusal_of x)
    → (r ≡ encoded (made_verdict m)) × (long ≡ unless_refused (made_verdict m) (made_bytes m) long)
made_refused m x long r e a =
    (a ∙ ap (λ (y : Result ℕ Refusal). encoded (made_verdict y)) (sym e), ap (λ (y : Result ℕ Refusal). unless_refused (made_verdict y) (made_bytes y) long) (sym e))

pub made_length_lem : (m : Result ℕ Refusal) (k long : ℕ) (r : List ℕ) → m ≡ Ok k → r ≡ encoded done
    → (r ≡ encoded (made_verdict m)) × (k ≡ unless_refused (made_verdict m) (made_bytes m) long)
made_length_lem m k long r e a =
    (a ∙ ap (λ (y : Result ℕ Refusal). encoded (made_verdict y)) (sym e), ap (λ (y : Result ℕ Refusal). unless_refused (made_verdict y) (made_bytes y) long) (sym e))
