-- Demand 2, of the audit: the proof of `AuditExactForAll`.
-- Assumes nothing.
use Prim.Native.Nat.{ℕ, suc, ◌+◌, ◌*◌, ◌≤◌, ◌<◌}
use mathlib.Core.Path.{◌≡◌, refl, sym, ap, ap₂, ◌∙◌, subst}
use mathlib.Core.Bool.{Bool, true, false, ◌||◌}
use mathlib.Core.Logic.{◌⊎◌, inl, inr}
use mathlib.Core.List.{List, [], ◌∷◌, ◌++◌}
use native.Mathlib.Nat.{suc_inj, suc-ne-zero, mul-zero, mul-one, mul-suc}
use native.Mathlib.Omega.{arith}
use borrow.Author.Tests.{eqb-true, eq-eqb}
use lib.Dec.{eqb}
use lib.ListN.{length, get_or, take, drop, length-append}
use lib.Seq.{take-add, take_at, drop_at, ext_get_or}
use Rattle.byte_strings.specs.Lists.{part, run, joined}
use Rattle.byte_strings.proofs.Lists.{length_part, length_run, get_or_run, parts_joined}
use Rattle.byte_strings.proofs.Bools.{or_right, cases}
use Rattle.tree_index.specs.Tree.{index, filled}
use Rattle.tree_index.proofs.Filled.{end_filled}
use Rattle.bitfield.specs.Release.{stored_held}
use Rattle.file_format.specs.Headers.{signatures_header}
use Rattle.file_format.specs.Sizes.{used_signatures}
use Rattle.file_format.specs.Stored.{stored_chunk}
use Rattle.file_format.specs.Messages.{HashFunction}
use Rattle.file_format.specs.Images.{signatures_image, leaves}
use Rattle.file_format.specs.Entries.{node}
use Rattle.file_format.specs.Slots.{Slot, held, released, is_held, slot_entry, held_in, Within}
use Rattle.file_format.specs.Belongs.{Register, Lent, Belongs}
use Rattle.file_format.proofs.Slots.{slot_at, held_at, held_slot, leaf_at}
use Rattle.file_format.proofs.Nodes.{node_at_index}
use Rattle.file_format.proofs.OfImage.{signatures_header_length, stored_chunk_lem, stored_node_hash, stored_node_size}
use Rattle.file_format.proofs.Held.{stored_held_lem}
use Rattle.checks.specs.Checks.{signed_right}
use Rattle.audit.specs.Audit.{Accepted}
use Rattle.audit.specs.Theorems.{Imaged, AuditExact, AuditExactForAll}
use Rattle.audit.proofs.Accepts.{front_long, front_header_lem, belongs_accepted}
use Rattle.audit.proofs.Only.{pick, stored_leaf_of, cut_at, cut, accepted_belongs}

-- ---- the signatures

-- "3. s is neither n nor n − 1, or is not 0 when n is 0."
signed_right_lem : (n s : ℕ) → (s ≡ n) ⊎ (s + 1 ≡ n) → signed_right n s ≡ true
signed_right_lem n s (inl e) = ap (λ (b : Bool). b || eqb (s + 1) n) (eq-eqb s n e)
signed_right_lem n s (inr e) = or_right (eqb s n) (eqb (s + 1) n) (eq-eqb (s + 1) n e)

right_signed : (n s : ℕ) → signed_right n s ≡ true → (s ≡ n) ⊎ (s + 1 ≡ n)
right_signed n s = split (eqb s n) refl
  where
    split : (b : Bool) → eqb s n ≡ b → (b || eqb (s + 1) n) ≡ true → (s ≡ n) ⊎ (s + 1 ≡ n)
    split true e q = inl (eqb-true s n e)
    split false e q = inr (eqb-true (s + 1) n q)

-- lists of m elements each, one behind the other, are told apart
pub joined_inj : (m : ℕ) (xs ys : List (List ℕ)) → length xs ≡ length ys → ((k : ℕ) → k < length xs → length (get_or xs k []) ≡ m)
    → ((k : ℕ) → k < length ys → length (get_or ys k []) ≡ m) → joined xs ≡ joined ys → xs ≡ ys
unfolding joined
joined_inj m [] [] e p q j = refl
joined_inj m [] (y ∷ ys) e p q j = absurd (suc-ne-zero (length ys) (sym e))
joined_inj m (x ∷ xs) [] e p q j = absurd (suc-ne-zero (length xs) e)
joined_inj m (x ∷ xs) (y ∷ ys) e p q j =
    let a : length x ≡ m = p 0 (omega arith) in
    let b : length y ≡ m = q 0 (omega arith) in
    ap₂ ◌∷◌ (sym (take_at x (joined xs) m a) ∙ ap (take m) j ∙ take_at y (joined ys) m b)
    (joined_inj m xs ys (suc_inj e) (λ k h. p (suc k) (omega arith)) (λ k h. q (suc k) (omega arith))
    (sym (drop_at x (joined xs) m a) ∙ ap (drop m) j ∙ drop_at y (joined ys) m b))

joined_equal : (m : ℕ) (xs : List (List ℕ)) → ((k : ℕ) → k < length xs → length (get_or xs k []) ≡ m) → length (joined xs) ≡ m * length xs
unfolding joined
joined_equal m [] p = sym (mul-zero m)
joined_equal m (x ∷ xs) p =
    length-append x (joined xs) ∙ ap₂ ◌+◌ (p 0 (omega arith)) (joined_equal m xs (λ k h. p (suc k) (omega arith)))
    ∙ omega (arith, mul-suc m (length xs))

signatures_image_length : (sigs : List (List ℕ)) → ((k : ℕ) → k < length sigs → length (get_or sigs k []) ≡ 64) → length (signatures_image sigs) ≡ used_signatures (length sigs)
unfolding signatures_image used_signatures
signatures_image_length sigs p = length-append signatures_header (joined sigs) ∙ ap₂ ◌+◌ signatures_header_length (joined_equal 64 sigs p)

-- the signatures that stand in a register
sigs_of : Register → List (List ℕ)
sigs_of r = run (λ i. part r.signatures (32 + 64 * i) 64) 0 r.s

sigs_count : (r : Register) → length (sigs_of r) ≡ r.s
unfolding sigs_of
sigs_count r = length_run (λ i. part r.signatures (32 + 64 * i) 64) 0 r.s

sigs_each : (r : Register) → used_signatures r.s ≤ length r.signatures → (k : ℕ) → k < length (sigs_of r) → length (get_or (sigs_of r) k []) ≡ 64
unfolding sigs_of used_signatures
sigs_each r l k h =
    let b : k < r.s = subst (λ (n : ℕ). k < n) (sigs_count r) h in
    ap length (get_or_run (λ i. part r.signatures (32 + 64 * i) 64) 0 r.s k [] b)
    ∙ length_part r.signatures (32 + 64 * (0 + k)) 64 (omega arith)

module _ (F : List ℕ → List ℕ) (hf : HashFunction F) where
  accepted_imaged : (r : Register) → Lent r → Accepted F r → (ss : List Slot) × (sigs : List (List ℕ)) × Imaged F r ss sigs
  unfolding sigs_of signatures_image used_signatures part
  accepted_imaged r l e =
      let a = accepted_belongs F hf r l e in (
        cut r,
        sigs_of r,
        record {
          within = a.0;
          belongs = a.1;
          signed = right_signed r.n r.s a.2.count;
          count = sigs_count r;
          each = sigs_each r a.2.long;
          signatures = take-add 32 (64 * r.s) r.signatures ∙ ap₂ ◌++◌ a.2.front (sym (parts_joined r.signatures 32 64 r.s));
        },
      )

  pub imaged_accepted : (r : Register) (ss : List Slot) (sigs : List (List ℕ)) → Imaged F r ss sigs → Accepted F r
  unfolding signatures_image used_signatures
  imaged_accepted r ss sigs m =
      belongs_accepted F hf ss m.within r m.belongs
      (record {
        count = signed_right_lem r.n r.s m.signed;
        long = front_long r.signatures (signatures_image sigs) (used_signatures r.s) m.signatures (signatures_image_length sigs m.each ∙ ap used_signatures m.count);
        front = front_header_lem r.signatures signatures_header (joined sigs) (used_signatures r.s) m.signatures signatures_header_length (omega arith);
      })

  -- ---- the slots of a register

  -- a slot that is not held is its leaf entry
  released_is : (s : Slot) → is_held s ≡ false → s ≡ released (slot_entry F s)
  released_is (held c) e = let z : ◌≡◌ {A = ℕ} 0 1 = cc in absurd (omega arith)
  released_is (released x) e = refl

  -- the leaf entry of each is the stored one
  entry_stored : (r : Register) (ss : List Slot) → Within ss → Belongs F r ss → (k : ℕ) → k < r.n → slot_entry F (slot_at ss k) ≡ stored_leaf_of r k
  unfolding index node
  entry_stored r ss w b k h =
      let f : filled r.n (index 0 k) ≡ true = end_filled r.n 0 k (omega (arith, mul-one (k + 1))) in
      let e : slot_entry F (slot_at ss k) ≡ node F (leaves F ss) 0 k = sym (leaf_at F ss k (subst (λ (n : ℕ). k < n) b.count h)) in
      e ∙ sym (node_at_index F (leaves F ss) 0 k)
      ∙ (λ i. record { hash = sym (stored_node_hash F hf ss w r b (index 0 k) f) i; size = sym (stored_node_size F hf ss w r b (index 0 k) f) i })

  -- each is what the register stores: its chunk where its data bit is 1, else its entry
  slot_stored : (r : Register) (ss : List Slot) → Within ss → Belongs F r ss → (k : ℕ) → k < r.n → slot_at ss k ≡ cut_at r k
  unfolding cut_at
  slot_stored r ss w b k h = split (cases (stored_held r.bitfield k))
    where
      below : k < length ss
      below = subst (λ (n : ℕ). k < n) b.count h

      told : stored_held r.bitfield k ≡ held_in ss k
      told = stored_held_lem F ss r b k h

      split : (stored_held r.bitfield k ≡ true) ⊎ (stored_held r.bitfield k ≡ false) → slot_at ss k ≡ pick (stored_held r.bitfield k) (stored_chunk r.tree r.content k) (stored_leaf_of r k)
      split (inl e) =
          held_slot ss k below (sym told ∙ e) ∙ ap held (sym (stored_chunk_lem F hf ss w r b k h))
          ∙ ap (λ (x : Bool). pick x (stored_chunk r.tree r.content k) (stored_leaf_of r k)) (sym e)
      split (inr e) =
          released_is (slot_at ss k) (sym (held_at ss k below) ∙ sym told ∙ e) ∙ ap released (entry_stored r ss w b k h)
          ∙ ap (λ (x : Bool). pick x (stored_chunk r.tree r.content k) (stored_leaf_of r k)) (sym e)

  pub slots_determined : (r : Register) (ss ts : List Slot) → Within ss → Within ts → Belongs F r ss → Belongs F r ts → ss ≡ ts
  slots_determined r ss ts w v b c =
      ext_get_or (held []) ss ts (sym b.count ∙ c.count)
      (λ k h. let l : k < r.n = subst (λ (n : ℕ). k < n) (sym b.count) h in slot_stored r ss w b k l ∙ sym (slot_stored r ts v c k l))

  sigs_determined : (r : Register) (ss ts : List Slot) (sigs tigs : List (List ℕ)) → Imaged F r ss sigs → Imaged F r ts tigs → sigs ≡ tigs
  unfolding signatures_image
  sigs_determined r ss ts sigs tigs m o =
      joined_inj 64 sigs tigs (m.count ∙ sym o.count) m.each o.each
      (sym (drop_at signatures_header (joined sigs) 32 signatures_header_length) ∙ ap (drop 32) (sym m.signatures ∙ o.signatures)
      ∙ drop_at signatures_header (joined tigs) 32 signatures_header_length)

  pub audit_exact : AuditExact F
  audit_exact =
      record {
        exactly = λ r l. (accepted_imaged r l, λ m. imaged_accepted r m.0 m.1 m.2);
        determined = λ r ss ts sigs tigs m o.
            (slots_determined r ss ts m.within o.within m.belongs o.belongs, sigs_determined r ss ts sigs tigs m o);
      }

pub audit_exact_for_all : AuditExactForAll
audit_exact_for_all = audit_exact
