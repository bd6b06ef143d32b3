-- The answers of the calls, number by number as the code finds them, and what is left in the buffers. Assumes nothing.
use Rattle.std.specs.Prelude.{Result, Ok, Err, ⊤}
use Prim.Native.Nat.{ℕ, ◌+◌, ◌≤◌}
use mathlib.Core.Path.{◌≡◌, sym, ap, ap₂, ◌∙◌}
use mathlib.Core.List.{List}
use native.Mathlib.Omega.{arith}
use lib.ListN.{length}
use Rattle.answer_types.specs.Verdict.{Verdict, none, done, refused, unless_refused}
use Rattle.answer_types.specs.Meaning.{said, refusal_of}
use Rattle.answer_types.specs.declared.Refusal.{Refusal}
use Rattle.byte_strings.specs.Lists.{put, zeros}
use Rattle.blake2b.specs.Hash.{node_hash}
use Rattle.file_format.specs.Sizes.{used_signatures}
use Rattle.file_format.specs.Stored.{stored_root_message}
use Rattle.file_format.specs.Inner.{RootsIn}
use Rattle.file_format.specs.Belongs.{Buffers, Register, buffers_of}
use borrow.Author.Tests.{leb-true}
use Rattle.checks.specs.Checks.{judged, later_checks, register_checks}
use Rattle.checks.proofs.Judged.{judged_done}
use Rattle.checks.proofs.Passed.{passed}
use Rattle.checks.proofs.Steps.{signed_le}
use Rattle.writing.specs.Start.{start_verdict, started, after_start}
use Rattle.writing.specs.Append.{append_verdict, appended_register, root_unless_refused, append_root, after_append}
use Rattle.writing.specs.Sign.{sign_verdict, signed_register, after_sign}
use Rattle.writing.specs.RootHash.{root_verdict, root_answer}
use Rattle.writing.specs.Conditions.{StartFits}
use Rattle.writing.specs.Post.{lent, StartPost, AppendPost, SignPost, RootPost}
use Rattle.writing.specs.Inner.{HeadersPut, StoreFits, StorePost}
use Rattle.writing.proofs.Started.{fits_start, start_refused}
use Rattle.writing.proofs.Verdicts.{append_passed, sign_passed}

-- ---- an append

-- what 4 gives to 14
pub data_inside : (r : Register) {a : Result ⊤ Refusal} → a ≡ (Ok tt) → said a ≡ judged (later_checks r) done → r.size ≤ length r.content
unfolding later_checks
data_inside r p e = leb-true _ _ (judged_done (later_checks r) done (sym e ∙ ap said p)).0.1.1.1.1.0

-- what is left to the part that writes
pub store_fits : (r : Register) (chunk : List ℕ) {a : Result ⊤ Refusal} → a ≡ (Ok tt) → said a ≡ append_verdict r chunk
    → StoreFits r.tree r.bitfield r.content r.n r.size chunk
store_fits r chunk p e =
    let w = append_passed r chunk (sym e ∙ ap said p) in
    record { few = w.1.fewer; tree = w.1.tree; bitfield = w.1.bitfield; content = w.1.content; sum = w.0.adds }

pub append_not : {r : Register} {chunk : List ℕ} {a : Result ⊤ Refusal} {x : Refusal} → a ≡ Err x → said a ≡ append_verdict r chunk
    → AppendPost r chunk (refusal_of x) (zeros 32) (buffers_of r)
unfolding append_root after_append
append_not {r} {chunk} {x = x} p e =
    let w : refusal_of x ≡ append_verdict r chunk = sym (ap said p) ∙ e in
    record {
      answer = w;
      root = ap (λ (v : Verdict). root_unless_refused node_hash v (appended_register node_hash r chunk)) w;
      buffers = rw (← w);
    }

pub append_done : {r : Register} {chunk h t b c : List ℕ} {a : Result ⊤ Refusal} → a ≡ (Ok tt) → said a ≡ append_verdict r chunk
    → StorePost r.tree r.bitfield r.content r.n r.size chunk h t b c → AppendPost r chunk done h (lent t r.signatures b c)
unfolding append_root after_append appended_register
append_done {r} {chunk} {c = c} p e w =
    let v : done ≡ append_verdict r chunk = sym (ap said p) ∙ e in
    record {
      answer = v;
      root = w.root ∙ ap (λ (v : Verdict). root_unless_refused node_hash v (appended_register node_hash r chunk)) v;
      buffers =
          ap₂ (λ (x y : List ℕ). lent x r.signatures y c) w.tree w.bitfield
          ∙ ap (λ (z : List ℕ). lent (appended_register node_hash r chunk).tree r.signatures (appended_register node_hash r chunk).bitfield z) w.content
          ∙ ap (λ (v : Verdict). unless_refused v (buffers_of (appended_register node_hash r chunk)) (buffers_of r)) v;
    }

-- ---- a stored signature

-- what 2 and 3 give to 8 and 14
pub counts_right : (r : Register) {a : Result ⊤ Refusal} → a ≡ (Ok tt) → said a ≡ judged (register_checks r) done → (r.n ≤ 1048576) × (r.s ≤ r.n)
counts_right r p e = let w = (passed r done (sym e ∙ ap said p)).0 in (w.count, signed_le r.n r.s w.signed)

-- what is left to the part that writes
pub sign_fits : (r : Register) {a : Result ⊤ Refusal} → a ≡ (Ok tt) → said a ≡ sign_verdict r → (r.s ≤ 1048576) × (used_signatures r.s + 64 ≤ length r.signatures)
unfolding used_signatures
sign_fits r p e =
    let w = sign_passed r (sym e ∙ ap said p) in (omega (arith, w.0.count, w.1.owed), omega (arith, w.1.room))

pub sign_not : {r : Register} {signature : List ℕ} {a : Result ⊤ Refusal} {x : Refusal} → a ≡ Err x → said a ≡ sign_verdict r
    → SignPost r signature (refusal_of x) (buffers_of r)
unfolding after_sign
sign_not {r} {signature} {x = x} p e =
    let w : refusal_of x ≡ sign_verdict r = sym (ap said p) ∙ e in
    record { answer = w; buffers = ap (λ (v : Verdict). unless_refused v (buffers_of (signed_register r signature)) (buffers_of r)) w }

pub sign_done : {r : Register} {signature g : List ℕ} {at : ℕ} {a : Result ⊤ Refusal} → a ≡ (Ok tt) → said a ≡ sign_verdict r → at ≡ used_signatures r.s
    → g ≡ put r.signatures at signature → SignPost r signature done (lent r.tree g r.bitfield r.content)
unfolding after_sign signed_register
sign_done {r} {signature} p e q w =
    let v : done ≡ sign_verdict r = sym (ap said p) ∙ e in
    record {
      answer = v;
      buffers =
          ap (λ (x : List ℕ). lent r.tree x r.bitfield r.content) (w ∙ ap (λ (i : ℕ). put r.signatures i signature) q)
          ∙ ap (λ (v : Verdict). unless_refused v (buffers_of (signed_register r signature)) (buffers_of r)) v;
    }

-- ---- a start

pub start_not : (b : Buffers) {v : Verdict} → (StartFits b → ⊥) → v ≡ refused 14 none → StartPost b v b
unfolding after_start
start_not b h e =
    let w : refused 14 none ≡ start_verdict b = sym (start_refused b h) in
    record { answer = e ∙ w; buffers = ap (λ (v : Verdict). unless_refused v (started b) b) w }

pub start_done : (t g f c t' g' f' : List ℕ) → StartFits (lent t g f c) → HeadersPut t g f t' g' f' → StartPost (lent t g f c) done (lent t' g' f' c)
unfolding after_start started
start_done t g f c t' g' f' h p =
    let w : done ≡ start_verdict (lent t g f c) = sym (fits_start (lent t g f c) h) in
    record {
      answer = w;
      buffers =
          ap₂ (λ (x y : List ℕ). lent x y f' c) p.tree p.signatures
          ∙ ap (λ (z : List ℕ). lent (started (lent t g f c)).tree (started (lent t g f c)).signatures z c) p.bitfield
          ∙ ap (λ (v : Verdict). unless_refused v (started (lent t g f c)) (lent t g f c)) w;
    }

-- ---- the root hash

pub root_fits : (r : Register) {a : Result ⊤ Refusal} → a ≡ (Ok tt) → said a ≡ judged (register_checks r) done → RootsIn r.tree r.n
root_fits r p e = let w = (passed r done (sym e ∙ ap said p)).0 in record { count = w.count; inside = w.tree }

pub root_not : {r : Register} {a : Result ⊤ Refusal} {x : Refusal} → a ≡ Err x → said a ≡ judged (register_checks r) done
    → RootPost r (refusal_of x) (zeros 32)
unfolding root_answer root_verdict
root_not {r} {x = x} p e =
    let w : refusal_of x ≡ judged (register_checks r) done = sym (ap said p) ∙ e in
    record { answer = w; root = ap (λ (v : Verdict). root_unless_refused node_hash v r) w }

pub root_done_lem : {r : Register} {h : List ℕ} {a : Result ⊤ Refusal} → a ≡ (Ok tt) → said a ≡ judged (register_checks r) done
    → h ≡ node_hash (stored_root_message r.tree r.n) → RootPost r done h
unfolding root_answer root_verdict
root_done_lem {r} p e w =
    let v : done ≡ judged (register_checks r) done = sym (ap said p) ∙ e in
    record { answer = v; root = w ∙ ap (λ (v : Verdict). root_unless_refused node_hash v r) v }
