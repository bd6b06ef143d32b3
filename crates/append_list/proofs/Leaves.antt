-- The steps of the part that writes a list, at the hash of the calls. Assumes nothing.
use Prim.Native.Nat.{ℕ, ◌+◌, ◌-◌, ◌*◌, ◌^◌, ◌≤◌, ◌<◌}
use mathlib.Core.Path.{◌≡◌, sym, ap, ap₂, ◌∙◌, subst}
use mathlib.Core.List.{List, ◌∷◌, ◌++◌}
use native.Mathlib.Nat.{add-zero}
use native.Mathlib.Numerals.{add-one}
use native.Mathlib.Omega.{arith}
use lib.ListN.{length, get_or, take, drop, drop_of_length-le}
use lib.Seq.{drop-cons, drop-drop, drop_at, length-take-le}
use Rattle.byte_strings.specs.Lists.{part, put, total, zeros}
use Rattle.byte_strings.proofs.Lists.{length_part, length_put}
use Rattle.tree_index.specs.Tree.{entries}
use Rattle.blake2b.specs.Hash.{node_hash}
use Rattle.file_format.specs.Sizes.{used_tree, used_signatures}
use Rattle.file_format.specs.Messages.{leaf_message}
use Rattle.file_format.specs.Entries.{leaf}
use Rattle.file_format.specs.Stored.{stored_root_sizes, stored_root_message}
use Rattle.writing.specs.Append.{appended_tree}
use Rattle.writing.specs.Inner.{with_leaf}
use Rattle.writing.proofs.Made.{node_hashed}
use Rattle.writing.proofs.Stored.{leaf_tree}
use Rattle.append_list.specs.Chunks.{chunks_of}
use Rattle.append_list.specs.Inner.{tree_with, bits_with, LeafFits, LeavesFit, StoreFits, StorePost}
use Rattle.append_list.proofs.Chunks.{chunks_front}
use Rattle.append_list.proofs.Roots.{grown, roots_add}

-- ---- one chunk

pub chunk_added : (t c v h : List ℕ) (n at end : ℕ) → at ≤ end → end ≤ length c → h ≡ node_hash (leaf_message (take (end - at) (drop at c)))
    → v ≡ with_leaf t n (record { hash = h; size = end - at }) → v ≡ appended_tree node_hash t n (part c at (end - at))
unfolding leaf part
chunk_added t c v h n at end o l q w =
    let long : length (take (end - at) (drop at c)) ≡ end - at = length_part c at (end - at) (omega arith) in
    leaf_tree t v n (take (end - at) (drop at c)) (record { hash = h; size = end - at })
    (ap₂ (λ (x : List ℕ) (y : ℕ). record { hash = x; size = y }) q (sym long)) w

-- ---- the first of several

module _ {t c : List ℕ} {n at l : ℕ} {ls : List ℕ} (w : LeavesFit t c n at (l ∷ ls)) (small : length c < 2 ^ 64) where
  first_leaf : LeafFits t c n at (at + l)
  unfolding used_tree entries total
  first_leaf =
      record {
        fills = record { few = omega (arith, w.few); room = omega (arith, w.tree); sum = omega (arith, w.sum, w.content) };
        order = omega arith;
        content = omega (arith, w.content);
      }

  module _ {u : List ℕ} (e : u ≡ appended_tree node_hash t n (part c at (at + l - at))) where
    abbrev chunk : List ℕ
    chunk = part c at (at + l - at)

    next_leaves : LeavesFit u c (n + 1) (at + l) ls
    unfolding used_tree entries total
    next_leaves =
        let f = first_leaf in
        let long : length chunk ≡ at + l - at = length_part c at (at + l - at) (omega (arith, w.content)) in
        let same : length u ≡ length t = ap length e ∙ grown node_hash t n chunk (node_hashed t n chunk) f.fills.few f.fills.room in
        let sum : total (stored_root_sizes u (n + 1)) ≡ total (stored_root_sizes t n) + length chunk =
        ap (λ (x : List ℕ). total (stored_root_sizes x (n + 1))) e
        ∙ roots_add node_hash t n chunk (node_hashed t n chunk) f.fills.few f.fills.room (omega (arith, f.fills.sum))
        in
        record {
          few = omega (arith, w.few);
          tree = omega (arith, w.tree);
          content = omega (arith, w.content);
          sum = omega (arith, w.sum);
        }

    next_same : tree_with node_hash u (n + 1) (chunks_of ls (drop (at + l) c)) ≡ tree_with node_hash t n (chunks_of (l ∷ ls) (drop at c))
    unfolding tree_with chunks_of part
    next_same =
        let k : at + l - at ≡ l = omega arith in
        ap₂ (λ (x ys : List ℕ). tree_with node_hash x (n + 1) (chunks_of ls ys)) (e ∙ ap (λ (m : ℕ). appended_tree node_hash t n (take m (drop at c))) k)
        (sym (drop-drop l at c))

-- ---- all of them

-- u is the file t with the first j of the chunks; the next begins at the place `at`
pub record Going (t c : List ℕ) (n start : ℕ) (ls u : List ℕ) (at j : ℕ) : Type 0 where
  pub left : LeavesFit u c (n + j) at (drop j ls)
  pub same : tree_with node_hash u (n + j) (chunks_of (drop j ls) (drop at c)) ≡ tree_with node_hash t n (chunks_of ls (drop start c))

pub going_none : {t c : List ℕ} {n start : ℕ} {ls : List ℕ} → LeavesFit t c n start ls → Going t c n start ls t start 0
going_none {t} {c} {n} {start} {ls} w =
    record {
      left = subst (λ (m : ℕ). LeavesFit t c m start ls) (sym (add-zero n)) w;
      same = ap (λ (m : ℕ). tree_with node_hash t m (chunks_of ls (drop start c))) (add-zero n);
    }

module _ {t c : List ℕ} {n start : ℕ} {ls u : List ℕ} {at j : ℕ} (g : Going t c n start ls u at j) (h : j < length ls) (small : length c < 2 ^ 64) where
  abbrev l : ℕ
  l = get_or ls j 0

  split : drop j ls ≡ l ∷ drop (j + 1) ls
  split = drop-cons ls j 0 h ∙ ap (λ (m : ℕ). l ∷ drop m ls) (sym (add-one j))

  here : LeavesFit u c (n + j) at (l ∷ drop (j + 1) ls)
  here = subst (LeavesFit u c (n + j) at) split g.left

  pub going_fits : LeafFits u c (n + j) at (at + l)
  going_fits = first_leaf here small

  pub going_next : {v : List ℕ} → v ≡ appended_tree node_hash u (n + j) (part c at (at + l - at)) → Going t c n start ls v (at + l) (j + 1)
  going_next {v} e =
      let m : n + j + 1 ≡ n + (j + 1) = omega arith in
      record {
        left = subst (λ (x : ℕ). LeavesFit v c x (at + l) (drop (j + 1) ls)) m (next_leaves here small e);
        same =
            ap (λ (x : ℕ). tree_with node_hash v x (chunks_of (drop (j + 1) ls) (drop (at + l) c))) (sym m)
            ∙ next_same here small e
            ∙ ap (λ (xs : List ℕ). tree_with node_hash u (n + j) (chunks_of xs (drop at c))) (sym split)
            ∙ g.same;
      }

pub going_all : {t c : List ℕ} {n start : ℕ} {ls u : List ℕ} {at j : ℕ} → Going t c n start ls u at j → length ls ≤ j
    → u ≡ tree_with node_hash t n (chunks_of ls (drop start c))
unfolding tree_with chunks_of
going_all {t} {c} {n} {start} {ls} {u} {at} {j} g h =
    sym (ap (λ (xs : List ℕ). tree_with node_hash u (n + j) (chunks_of xs (drop at c))) (drop_of_length-le ls h)) ∙ g.same

-- ---- all of it

-- the bytes stand in the data where the chunks are read
pub store_leaves : {t g b c c' : List ℕ} {n size : ℕ} {ls bs : List ℕ} → StoreFits t g b c n size ls bs → c' ≡ put c size bs → LeavesFit t c' n size ls
store_leaves {c = c} {c'} {n} {size} {ls} {bs} w e =
    let l : length c' ≡ length c = ap length e ∙ length_put c size bs w.content in
    record { few = w.few; tree = w.tree; content = omega (arith, w.content, w.adds); sum = w.sum }

there : (c : List ℕ) (size : ℕ) (bs : List ℕ) → size + length bs ≤ length c → drop size (put c size bs) ≡ bs ++ drop (size + length bs) c
unfolding put
there c size bs h = drop_at (take size c) (bs ++ drop (size + length bs) c) size (length-take-le size c (omega arith))

pub store_post : {t g b c t' g' b' c' : List ℕ} {n size : ℕ} {ls bs h : List ℕ} → StoreFits t g b c n size ls bs → c' ≡ put c size bs
    → t' ≡ tree_with node_hash t n (chunks_of ls (drop size c')) → g' ≡ put g (used_signatures n) (zeros (64 * (length ls - 1)))
    → b' ≡ bits_with b n (length ls) → h ≡ node_hash (stored_root_message t' (n + length ls)) → StorePost t g b c n size ls bs h t' g' b' c'
store_post {t} {c = c} {n = n} {size} {ls} {bs} w p q x y z =
    record {
      tree =
          q
          ∙ ap (λ (xs : List ℕ). tree_with node_hash t n (chunks_of ls xs)) (ap (drop size) p ∙ there c size bs w.content)
          ∙ ap (tree_with node_hash t n) (chunks_front ls bs (drop (size + length bs) c) (omega (arith, w.adds)));
      signatures = x;
      bitfield = y;
      content = p;
      root = z;
    }
