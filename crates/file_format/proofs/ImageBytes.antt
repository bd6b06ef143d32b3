-- The images are bytes.
-- Assumes nothing.
use Prim.Native.Nat.{ℕ, suc, ◌-◌, ◌<◌}
use mathlib.Core.Bool.{Bool}
use mathlib.Core.List.{List, [], ◌∷◌, ◌++◌}
use native.Mathlib.Omega.{arith}
use lib.ListN.{length, get_or}
use Rattle.byte_strings.specs.Lists.{joined, Bytes, zeros}
use Rattle.byte_strings.specs.Numbers.{be}
use Rattle.byte_strings.proofs.Lists.{bytes_append, bytes_zeros, bytes_joined}
use Rattle.byte_strings.proofs.Numbers.{bytes_be}
use Rattle.tree_index.specs.Tree.{entries}
use Rattle.bitfield.proofs.Image.{bytes_entries}
use Rattle.file_format.specs.Headers.{front, header, tree_header, signatures_header, bitfield_header}
use Rattle.file_format.specs.Messages.{HashFunction}
use Rattle.file_format.specs.Entries.{Entry, entry_bytes, entry_at, tree_entries}
use Rattle.file_format.specs.Images.{leaves, data_image, signatures_image, tree_image, bitfield_image, bitfield_of}
use Rattle.file_format.specs.Slots.{Slot, contents, Within}
use Rattle.file_format.proofs.Nodes.{bytes_cons, entry_at_proper}
use Rattle.bitfield.specs.Image.{entries_of}

bytes_none : Bytes []
bytes_none i = omega arith

-- ---- headers

bytes_front : (magic size : ℕ) (name : List ℕ) → length name < 256 → Bytes name → Bytes (front magic size name)
unfolding front
bytes_front magic size name h p =
    bytes_append (be 4 magic) ((0 ∷ []) ++ (be 2 size ++ ((length name ∷ []) ++ name))) (bytes_be 4 magic)
    (bytes_cons 0 (be 2 size ++ ((length name ∷ []) ++ name)) (omega arith)
    (bytes_append (be 2 size) ((length name ∷ []) ++ name) (bytes_be 2 size) (bytes_cons (length name) name h p)))

bytes_header : (magic size : ℕ) (name : List ℕ) → length name < 256 → Bytes name → Bytes (header magic size name)
unfolding header
bytes_header magic size name h p =
    let k : ℕ = 32 - length (front magic size name) in
    bytes_append (front magic size name) (zeros k) (bytes_front magic size name h p) (bytes_zeros k)

seven : (a b c d e f g : ℕ) → a < 256 → b < 256 → c < 256 → d < 256 → e < 256 → f < 256 → g < 256 → Bytes (a ∷ b ∷ c ∷ d ∷ e ∷ f ∷ g ∷ [])
seven a b c d e f g p q r s t u v =
    bytes_cons a (b ∷ c ∷ d ∷ e ∷ f ∷ g ∷ []) p
    (bytes_cons b (c ∷ d ∷ e ∷ f ∷ g ∷ []) q
    (bytes_cons c (d ∷ e ∷ f ∷ g ∷ []) r
    (bytes_cons d (e ∷ f ∷ g ∷ []) s (bytes_cons e (f ∷ g ∷ []) t (bytes_cons f (g ∷ []) u (bytes_cons g [] v bytes_none))))))

pub tree_header_bytes : Bytes tree_header
unfolding tree_header
tree_header_bytes =
    bytes_header 0x05025702 40 (66 ∷ 76 ∷ 65 ∷ 75 ∷ 69 ∷ 50 ∷ 98 ∷ []) (omega arith)
    (seven 66 76 65 75 69 50 98 (omega arith) (omega arith) (omega arith) (omega arith) (omega arith) (omega arith) (omega arith))

pub signatures_header_bytes : Bytes signatures_header
unfolding signatures_header
signatures_header_bytes =
    bytes_header 0x05025701 64 (69 ∷ 100 ∷ 50 ∷ 53 ∷ 53 ∷ 49 ∷ 57 ∷ []) (omega arith)
    (seven 69 100 50 53 53 49 57 (omega arith) (omega arith) (omega arith) (omega arith) (omega arith) (omega arith) (omega arith))

pub bitfield_header_bytes : Bytes bitfield_header
unfolding bitfield_header
bitfield_header_bytes = bytes_header 0x05025700 3328 [] (omega arith) bytes_none

-- ---- the images

-- byte strings one behind the other
pub bytes_all : (xs : List (List ℕ)) → ((k : ℕ) → Bytes (get_or xs k [])) → Bytes (joined xs)
unfolding joined
bytes_all [] h = bytes_none
bytes_all (x ∷ xs) h = bytes_append x (joined xs) (h 0) (bytes_all xs (λ k. h (suc k)))

pub bitfield_image_bytes : (held : ℕ → Bool) (n : ℕ) → Bytes (bitfield_image held n)
unfolding bitfield_of
bitfield_image_bytes held n = bytes_append bitfield_header (entries_of held n) bitfield_header_bytes (bytes_entries held n)

pub signatures_image_bytes : (sigs : List (List ℕ)) → ((k : ℕ) → Bytes (get_or sigs k [])) → Bytes (signatures_image sigs)
unfolding signatures_image
signatures_image_bytes sigs h = bytes_append signatures_header (joined sigs) signatures_header_bytes (bytes_all sigs h)

pub data_image_bytes : (ss : List Slot) → Within ss → Bytes (data_image (contents ss))
unfolding data_image
data_image_bytes ss w = bytes_all (contents ss) w.bytes

module _ (F : List ℕ → List ℕ) (hf : HashFunction F) (ss : List Slot) (w : Within ss) where
  pub entry_bytes_lem : (i : ℕ) → Bytes (entry_bytes (entry_at F (leaves F ss) i))
  unfolding entry_bytes
  entry_bytes_lem i =
      let e : Entry = entry_at F (leaves F ss) i in
      bytes_append e.hash (be 8 e.size) (entry_at_proper F hf ss w i).bytes (bytes_be 8 e.size)

  pub tree_image_bytes : Bytes (tree_image F ss)
  unfolding tree_image tree_entries
  tree_image_bytes =
      bytes_append tree_header (tree_entries F (leaves F ss)) tree_header_bytes
      (bytes_joined (λ i. entry_bytes (entry_at F (leaves F ss) i)) 0 (entries (length (leaves F ss))) entry_bytes_lem)
