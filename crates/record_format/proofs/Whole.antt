-- What the calls on whole records answer. Assumes nothing.
use Prim.Native.Nat.{ℕ, ◌+◌, ◌<◌, ◌≤◌}
use mathlib.Core.Path.{◌≡◌, refl, sym, ap, ◌∙◌, subst}
use mathlib.Core.Bool.{Bool, true, false}
use mathlib.Core.List.{List, [], ◌++◌, append-nil}
use mathlib.Core.Option.{Option, none, some}
use native.Mathlib.Omega.{arith}
use lib.ListN.{length, take, drop, length-append, length-drop, take-append-drop}
use lib.Seq.{take_at}
use borrow.Author.Tests.{le-leb, lt-leb}
use Rattle.answer_types.specs.Verdict.{Spot, Verdict, done, refused}
use Rattle.answer_types.specs.Verdict as verdicts
use Rattle.answer_types.specs.Meaning.{refusal_of}
use Rattle.answer_types.specs.declared.Refusal.{Refusal}
use Rattle.byte_strings.specs.Lists.{part, put, same_list}
use Rattle.byte_strings.proofs.Lists.{part_at, put_append, same_eq, same_refl}
use Rattle.record_fields.specs.Varints.{digits, varint}
use Rattle.record_fields.specs.Fields.{part_field}
use Rattle.record_format.specs.Records.{Header, header_bytes, hyperdrive, HeaderWithin}
use Rattle.record_fields.specs.Inner.{part_of}
use Rattle.record_format.specs.From.{header_from}
use Rattle.record_format.specs.Theorems.{Rejected}
use Rattle.record_format.specs.Post.{write_verdict, length_unless, front_unless, written_verdict, written_length, Decides, WrittenAs, header_of}
use Rattle.record_format.specs.Post.{HeaderWrittenAs, header_start, told_of, no_part, content_part, read_header, header_told, ContentPlaced, HeadersWrittenBack}
use Rattle.std.specs.Prelude.{Result, Ok, Err}
use Rattle.record_format.proofs.From.{each_read}

-- ---- writing, from the tests that led to the answer

module _ (W : Type 0) (bytes out : List ℕ) where
  says : (fits : Bool) (answer : Result ℕ Refusal) (after : List ℕ) (v : Verdict) → Decides W fits → write_verdict fits (length bytes) (length out) ≡ v → written_verdict answer ≡ v
      → written_length answer ≡ length_unless v (length bytes) → after ≡ front_unless v bytes out → WrittenAs W bytes out answer after
  says fits answer after v d e p q r = record {
    fits = fits;
    decides = d;
    verdict = p ∙ sym e;
    long = q ∙ sym (ap (λ (x : Verdict). length_unless x (length bytes)) e);
    buffer = r ∙ sym (ap (λ (x : Verdict). front_unless x bytes out) e);
  }

  pub written_15 : (r : Refusal) → refusal_of r ≡ refused 15 verdicts.none → (W → ⊥) → WrittenAs W bytes out (Err r) out
  unfolding write_verdict
  written_15 r e n = says false (Err r) out (refused 15 verdicts.none) n refl e refl refl

  pub written_14 : (r : Refusal) → refusal_of r ≡ refused 14 verdicts.none → W → length out < length bytes → WrittenAs W bytes out (Err r) out
  unfolding write_verdict
  written_14 r e w h = says true (Err r) out (refused 14 verdicts.none) w (rw (lt-leb (length bytes) (length out) h)) e refl refl

  pub written_done : (k : ℕ) (after : List ℕ) → W → length bytes ≤ length out → k ≡ length bytes → after ≡ put out 0 bytes → WrittenAs W bytes out (Ok k) after
  unfolding write_verdict
  written_done k after w h e f = says true (Ok k) after done w (rw (le-leb (length bytes) (length out) h)) refl e f

-- what is in bounds and was given as bytes was written
pub written_given : (W : Type 0) (bytes given out : List ℕ) (answer : Result ℕ Refusal) (after : List ℕ) → W → given ≡ bytes → WrittenAs (Unit {0}) given out answer after
    → WrittenAs W bytes out answer after
written_given W bytes given out answer after w e g =
    subst (λ (b : List ℕ). WrittenAs W b out answer after) e
    (says W given out true answer after (write_verdict true (length given) (length out)) w refl
    (g.verdict ∙ ap (λ (b : Bool). write_verdict b (length given) (length out)) (in_bounds g.fits g.decides))
    (g.long ∙ ap (λ (b : Bool). length_unless (write_verdict b (length given) (length out)) (length given)) (in_bounds g.fits g.decides))
    (g.buffer ∙ ap (λ (b : Bool). front_unless (write_verdict b (length given) (length out)) given out) (in_bounds g.fits g.decides)))
  where
    in_bounds : (b : Bool) → Decides (Unit {0}) b → b ≡ true
    in_bounds true d = refl
    in_bounds false d = absurd (d tt)

-- ---- the bytes of a Header

start_bytes : (c : List ℕ) → length c ≡ 32 → header_bytes (header_of c) ≡ header_start ++ c
unfolding header_bytes part_field header_start hyperdrive digits
start_bytes c e = ap (λ (n : ℕ). part_field 1 (some hyperdrive) ++ (varint 18 ++ (varint n ++ c))) e

start_length : length header_start ≡ 14
unfolding header_start hyperdrive
start_length = refl

pub header_length : (c : List ℕ) → length c ≡ 32 → length (header_bytes (header_of c)) ≡ 46
header_length c e = ap length (start_bytes c e) ∙ omega (arith, length-append header_start c, start_length)

header_is : (h : Header) → HeaderWithin h → header_bytes h ≡ header_start ++ h.content
header_is h w = ap (λ (t : List ℕ). header_bytes (record { type = t; content = h.content })) w.named ∙ start_bytes h.content w.sized

-- ---- reading a Header

-- what a refusal at one place and a record tell at another
module _ {A P : Type 0} (spot other : Spot) (beside : P) (tell : A → P) where
  pub told_refused : (o : Option A) (m : ℕ) (at : Spot) (p : P) → ◌≡◌ {A = Verdict × P} (refused m at, p) (told_of spot beside tell o) → o ≡ none
  told_refused none m at p e = refl
  told_refused (some a) m at p e = let q : refused m at ≡ done = ap (λ (x : Verdict × P). x.0) e in let z : ◌≡◌ {A = ℕ} 0 1 = cc in absurd (omega arith)

  pub told_done : (o : Option A) (p : P) → ◌≡◌ {A = Verdict × P} (done, p) (told_of spot beside tell o) → ◌≡◌ {A = Verdict × P} (done, p) (told_of other beside tell o)
  told_done none p e = let q : done ≡ refused 15 spot = ap (λ (x : Verdict × P). x.0) e in let z : ◌≡◌ {A = ℕ} 0 1 = cc in absurd (omega arith)
  told_done (some a) p e = e

  -- a record that was told of
  pub told_some : (o : Option A) (p : P) → ◌≡◌ {A = Verdict × P} (done, p) (told_of spot beside tell o) → (a : A) × ((o ≡ some a) × (p ≡ tell a))
  told_some none p e = let q : done ≡ refused 15 spot = ap (λ (x : Verdict × P). x.0) e in let z : ◌≡◌ {A = ℕ} 0 1 = cc in absurd (omega arith)
  told_some (some a) p e = (a, (refl, ap (λ (x : Verdict × P). x.1) e))

  pub told_none : (o : Option A) (v : Verdict) → o ≡ none → v ≡ refused 15 spot → ◌≡◌ {A = Verdict × P} (v, beside) (told_of spot beside tell o)
  told_none o v e q = ap {B = Verdict × P} (λ (x : Verdict). (x, beside)) q ∙ ap (told_of spot beside tell) (sym e)

no_header : (d : List ℕ) (r : Refusal) → refusal_of r ≡ refused 15 verdicts.none → Rejected header_bytes HeaderWithin d → header_told (Err r) ≡ read_header verdicts.none d
no_header d r e n = told_none verdicts.none verdicts.none no_part (λ (h : Header). content_part) (header_from d) (refusal_of r) (each_read.headers.rejects d n) e

pub read_sized : (d : List ℕ) (r : Refusal) → (length d ≡ 46 → ⊥) → refusal_of r ≡ refused 15 verdicts.none → header_told (Err r) ≡ read_header verdicts.none d
read_sized d r n e =
    no_header d r e (λ h w q. n (sym (ap length q) ∙ ap length (header_is h w) ∙ omega (arith, length-append header_start h.content, start_length, w.sized)))

pub read_started : (d start : List ℕ) (same : Bool) (r : Refusal) → start ≡ header_start → same ≡ same_list (take 14 d) start → same ≡ false → refusal_of r ≡ refused 15 verdicts.none
    → header_told (Err r) ≡ read_header verdicts.none d
read_started d start same r s e f q =
    no_header d r q (λ h w p. no (sym f ∙ e ∙ ap (λ (x : List ℕ). same_list x start) (front h w p) ∙ ap (same_list header_start) s ∙ same_refl header_start))
  where
    no : false ≡ true → ⊥
    no x = let z : ◌≡◌ {A = ℕ} 0 1 = cc in omega arith

    front : (h : Header) → HeaderWithin h → header_bytes h ≡ d → take 14 d ≡ header_start
    front h w p = ap (take 14) (sym p ∙ header_is h w) ∙ take_at header_start h.content 14 start_length

pub read_content : (d start : List ℕ) (same : Bool) → length d ≡ 46 → start ≡ header_start → same ≡ same_list (take 14 d) start → same ≡ true
    → header_told (Ok (record { at = 14; len = 32 })) ≡ read_header verdicts.none d
read_content d start same l s e f =
    ap (told_of verdicts.none no_part (λ (h : Header). content_part))
    (sym (each_read.headers.accepts d (header_of (drop 14 d)) (record { within = record { named = refl; sized = sized }; bytes = bytes })))
  where
    sized : length (drop 14 d) ≡ 32
    sized = length-drop 14 d ∙ omega arith

    begun : take 14 d ≡ header_start
    begun = same_eq (take 14 d) start (sym e ∙ f) ∙ s

    bytes : header_bytes (header_of (drop 14 d)) ≡ d
    bytes = start_bytes (drop 14 d) sized ∙ ap (λ (x : List ℕ). x ++ drop 14 d) (sym begun) ∙ take-append-drop 14 d

-- ---- the content is where it is told to be

pub content_placed : ContentPlaced
content_placed d h e = (omega (arith, ap length made, length-append header_start h.content, start_length, w.sized), placed)
  where
    w : HeaderWithin h
    w = (each_read.headers.gives d h e).within

    made : d ≡ header_start ++ h.content
    made = sym (each_read.headers.gives d h e).bytes ∙ header_is h (each_read.headers.gives d h e).within

    placed : part_of d content_part ≡ h.content
    placed =
        ap (λ (x : List ℕ). part x 14 32) (made ∙ ap (λ (x : List ℕ). header_start ++ x) (sym (append-nil h.content)))
        ∙ part_at header_start h.content [] 14 32 start_length w.sized

-- ---- written back

-- fields in bounds, with room for their bytes
pub has_room : {W : Type 0} (fits : Bool) (long room : ℕ) → W → Decides W fits → long ≤ room → write_verdict fits long room ≡ done
unfolding write_verdict
has_room true long room w d h = rw (le-leb long room h)
has_room false long room w d h = absurd (d w)

pub written_whole : (W : Type 0) (bytes out : List ℕ) (answer : Result ℕ Refusal) (after : List ℕ) → W → WrittenAs W bytes out answer after → length bytes ≤ length out
    → (answer ≡ Ok (length bytes)) × (after ≡ put out 0 bytes)
written_whole W bytes out answer after w g h = go answer (g.verdict ∙ is_done_lem) (g.long ∙ ap (λ (v : Verdict). length_unless v (length bytes)) is_done_lem)
  where
    is_done_lem : write_verdict g.fits (length bytes) (length out) ≡ done
    is_done_lem = has_room g.fits (length bytes) (length out) w g.decides h

    go : (x : Result ℕ Refusal) → written_verdict x ≡ done → written_length x ≡ length bytes → (x ≡ Ok (length bytes)) × (after ≡ put out 0 bytes)
    go (Err r) e l = let z : ◌≡◌ {A = ℕ} 0 1 = cc in absurd (omega arith)
    go (Ok k) e l = (ap {B = Result ℕ Refusal} Ok l, g.buffer ∙ ap (λ (v : Verdict). front_unless v bytes out) is_done_lem)

pub headers_written_back : HeadersWrittenBack
headers_written_back d p e out answer after g room =
    let t = told_some verdicts.none verdicts.none no_part (λ (h : Header). content_part) (header_from d) p e in
    let h : Header = t.0 in
    let a = each_read.headers.gives d h t.1.0 in
    let c : part_of d p ≡ h.content = ap (part_of d) t.1.1 ∙ (content_placed d h t.1.0).1 in
    let same : header_of (part_of d p) ≡ h = ap header_of c ∙ ap (λ (x : List ℕ). record { type = x; content = h.content }) (sym a.within.named) in
    let bytes : header_bytes (header_of (part_of d p)) ≡ d = ap header_bytes same ∙ a.bytes in
    let r = written_whole (HeaderWithin (header_of (part_of d p))) (header_bytes (header_of (part_of d p))) out answer after (subst HeaderWithin (sym same) a.within) g
    (omega (arith, ap length bytes)) in
    (r.0 ∙ ap {B = Result ℕ Refusal} (λ (x : List ℕ). Ok (length x)) bytes, r.1 ∙ ap (put out 0) bytes)

-- ---- writing a Header

sized_within : (c : List ℕ) → length c ≡ 32 → HeaderWithin (header_of c)
sized_within c s = record { named = refl; sized = s }

pub header_15 : (c out : List ℕ) (r : Refusal) → (length c ≡ 32 → ⊥) → refusal_of r ≡ refused 15 verdicts.none → HeaderWrittenAs c out (Err r) out
header_15 c out r n e = written_15 (HeaderWithin (header_of c)) (header_bytes (header_of c)) out r e (λ w. n w.sized)

pub header_14 : (c out : List ℕ) (r : Refusal) → length c ≡ 32 → length out < 46 → refusal_of r ≡ refused 14 verdicts.none → HeaderWrittenAs c out (Err r) out
header_14 c out r s h e =
    written_14 (HeaderWithin (header_of c)) (header_bytes (header_of c)) out r e (sized_within c s) (omega (arith, header_length c s))

pub header_done : (c out start mid after : List ℕ) → length c ≡ 32 → 46 ≤ length out → start ≡ header_start → mid ≡ put out 0 start → after ≡ put mid 14 c
    → HeaderWrittenAs c out (Ok 46) after
header_done c out start mid after s h p q r =
    written_done (HeaderWithin (header_of c)) (header_bytes (header_of c)) out 46 after (sized_within c s) (omega (arith, header_length c s)) (sym (header_length c s))
    (r ∙ ap (λ (x : List ℕ). put x 14 c) (q ∙ ap (put out 0) p) ∙ behind ∙ ap (put out 0) (sym (start_bytes c s)))
  where
    place : 0 + length header_start ≡ 14
    place = omega (arith, start_length)

    behind : put (put out 0 header_start) 14 c ≡ put out 0 (header_start ++ c)
    behind = ap (λ (n : ℕ). put (put out 0 header_start) n c) (sym place) ∙ put_append out 0 header_start c (omega arith)
