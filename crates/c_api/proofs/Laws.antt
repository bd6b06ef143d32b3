-- What a call answers to C, from the case that its answer is.
use Rattle.std.specs.Prelude.{Ok, Err, Result}
use Prim.Native.Nat.{ℕ}
use mathlib.Core.Path.{◌≡◌, subst, sym, ap, ap₂, ◌∙◌}
use mathlib.Core.List.{List, [], ◌∷◌}
use Rattle.answer_types.specs.Verdict.{Verdict, done, unless_refused}
use Rattle.answer_types.specs.Meaning.{said, refusal_of}
use Rattle.answer_types.specs.declared.Refusal.{Refusal}
use Rattle.blake2b.specs.Hash.{node_hash}
use Rattle.file_format.specs.Belongs.{Register}
use Rattle.lookup.specs.Lookup.{found, found_behind}
use Rattle.lookup.specs.Meaning.{refused_as}
use Rattle.packet.specs.Check.{chunk_length, packet_verdict}
use Rattle.packet.specs.Packet.{made_length, after_make}
use Rattle.packet.specs.Post.{MadeAs, made_verdict, made_bytes}
use Rattle.append_needs.specs.Needs.{need_of, need_verdict, nothing, need_given}
use Rattle.append_needs.specs.Post.{numbers_of, NeedPost}
use Rattle.append_needs.specs.declared.Needed.{Needed}
use Rattle.c_encoding.specs.Encoding.{encoded}
use Rattle.c_api.specs.Encoding.{packet_part, Makes, need_numbers, Needs}

-- a packet, from the case that its check's answer is
module _ (p : List ℕ) (n c : ℕ) (root : List ℕ) where
  pub packet_refused : (x : Refusal) → refusal_of x ≡ packet_verdict node_hash p n c root → refused_as x ≡ packet_part p n c root
  unfolding packet_part
  packet_refused x e = ap (λ (v : Verdict). found_behind v (found 4 (chunk_length p))) e

  pub packet_found : (l : ℕ) → l ≡ chunk_length p → done ≡ packet_verdict node_hash p n c root → found 4 l ≡ packet_part p n c root
  unfolding packet_part
  packet_found l a e = ap (found 4) a ∙ ap (λ (v : Verdict). found_behind v (found 4 (chunk_length p))) e

-- a packet made, from what its maker answers
pub makes : (r : Register) (c : ℕ) (out : List ℕ) (long : ℕ) (answer : List ℕ) (m : Result ℕ Refusal) (after : List ℕ) (long_after : ℕ)
    → MadeAs node_hash r c out m after → answer ≡ encoded (made_verdict m) → long_after ≡ unless_refused (made_verdict m) (made_bytes m) long
    → Makes r c out long answer after long_after
unfolding made_length after_make
makes r c out long answer m after long_after h a l =
    record {
      answers = a ∙ ap encoded h.verdict;
      packet = h.written;
      length = l ∙ ap₂ (λ (v : Verdict) (k : ℕ). unless_refused v k long) h.verdict h.long;
    }

-- what a job needs, from the case that the answer is
module _ (n size : ℕ) (ls before : List ℕ) (answer : List ℕ) (a : Result Needed Refusal) (h : NeedPost n size ls a) where
  pub needs_refused : (x : Refusal) → a ≡ Err x → answer ≡ encoded (refusal_of x) → Needs n size ls before answer before
  needs_refused x e w =
      let v : refusal_of x ≡ need_verdict n size ls = sym (ap said e) ∙ h.answer in
      record { answers = w ∙ ap encoded v; numbers = ap (λ (u : Verdict). unless_refused u (need_numbers (need_of n size ls)) before) v }

  pub needs_done : (r : Needed) → a ≡ Ok r → answer ≡ encoded done
      → Needs n size ls before answer (r.tree ∷ r.signatures ∷ r.bitfield ∷ r.content ∷ r.leaves ∷ r.parents ∷ r.root ∷ r.runs ∷ [])
  unfolding need_given
  needs_done r e w =
      let g : NeedPost n size ls (Ok r) = subst (NeedPost n size ls) e h in
      let v : done ≡ need_verdict n size ls = g.answer in
      let all : numbers_of r ≡ need_of n size ls = g.numbers ∙ sym (ap (λ (u : Verdict). unless_refused u (need_of n size ls) nothing) v) in
      record {
        answers = w ∙ ap encoded v;
        numbers =
            ap (λ (k : ℕ). r.tree ∷ r.signatures ∷ r.bitfield ∷ r.content ∷ r.leaves ∷ r.parents ∷ r.root ∷ k ∷ []) g.runs
            ∙ ap need_numbers all ∙ ap (λ (u : Verdict). unless_refused u (need_numbers (need_of n size ls)) before) v;
      }
