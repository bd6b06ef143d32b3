-- The eight statements of G on rows, and the two halves of a round.
use Rattle.std.proofs.Common.{◌≡◌, ℕ, List, [], ◌∷◌, refl, ap, ◌∙◌}
use Rattle.blake2b_compression.specs.Mixing.{at, G}
use Rattle.blake2b_compression.specs.Compression.{round}
use Rattle.blake2b_compression.specs.Rows.{vector, vector_of, sums, sums3, xors, rotrs, columns, diagonals}
use Rattle.blake2b_compression.specs.declared.mixing.Row.{Row}
use Rattle.blake2b_compression.specs.declared.mixing.Rows.{Rows}

-- a row, from each of its words
pub rowed : {p q r s p₁ q₁ r₁ s₁ : ℕ} → p ≡ p₁ → q ≡ q₁ → r ≡ r₁ → s ≡ s₁ → ◌≡◌ {A = Row} (p, q, r, s) (p₁, q₁, r₁, s₁)
rowed e f g h = λ i. (e i, f i, g i, h i)

-- the vector after the eight statements
statements : Row → Row → Row → Row → Row → Row → List ℕ
statements a b c d x y =
    let a₁ : Row = sums3 a b x in
    let d₁ : Row = rotrs (xors d a₁) 32 in
    let c₁ : Row = sums c d₁ in
    let b₁ : Row = rotrs (xors b c₁) 24 in
    let a₂ : Row = sums3 a₁ b₁ y in
    let d₂ : Row = rotrs (xors d₁ a₂) 16 in
    let c₂ : Row = sums c₁ d₂ in
    let b₂ : Row = rotrs (xors b₁ c₂) 63 in
    vector a₂ b₂ c₂ d₂

-- it is that after the four mixings of the columns, since each of them touches words of its own
in_columns : (a b c d x y : Row) → statements a b c d x y ≡ columns (vector a b c d) x y
unfolding statements columns G
in_columns a b c d x y = refl

-- the rows b, c, d of a vector turned back
turned_back : List ℕ → List ℕ
turned_back v =
    at v 0 ∷ at v 1 ∷ at v 2 ∷ at v 3 ∷ at v 7 ∷ at v 4 ∷ at v 5 ∷ at v 6 ∷ at v 10 ∷ at v 11 ∷ at v 8 ∷ at v 9 ∷ at v 13 ∷ at v 14 ∷ at v 15 ∷ at v 12 ∷ []

-- and between turning and turning back it is that after the four mixings of the diagonals
in_diagonals : (a b c d x y : Row)
    → turned_back (columns (vector a (b.1, b.2, b.3, b.0) (c.2, c.3, c.0, c.1) (d.3, d.0, d.1, d.2)) x y)
    ≡ diagonals (vector a b c d) x y
unfolding turned_back columns diagonals G
in_diagonals a b c d x y = refl

-- the columns, from the row that each statement makes
pub mixed : (a b c d x y : Row) {a₁ d₁ c₁ b₁ a₂ d₂ c₂ b₂ : Row}
    → a₁ ≡ sums3 a b x
    → d₁ ≡ rotrs (xors d a₁) 32
    → c₁ ≡ sums c d₁
    → b₁ ≡ rotrs (xors b c₁) 24
    → a₂ ≡ sums3 a₁ b₁ y
    → d₂ ≡ rotrs (xors d₁ a₂) 16
    → c₂ ≡ sums c₁ d₂
    → b₂ ≡ rotrs (xors b₁ c₂) 63
    → vector a₂ b₂ c₂ d₂ ≡ columns (vector a b c d) x y
unfolding statements
mixed a b c d x y e₁ e₂ e₃ e₄ e₅ e₆ e₇ e₈ = rw (e₈, e₇, e₆, e₅, e₄, e₃, e₂, e₁) (in_columns a b c d x y)

-- the diagonals, from the rows after the mixing
pub turned : (v u : Rows) (x y : Row) →
    let b : Row = v.b in
    let c : Row = v.c in
    let d : Row = v.d in
    vector_of u ≡ columns (vector v.a (b.1, b.2, b.3, b.0) (c.2, c.3, c.0, c.1) (d.3, d.0, d.1, d.2)) x y
    → vector u.a (u.b.3, u.b.0, u.b.1, u.b.2) (u.c.2, u.c.3, u.c.0, u.c.1) (u.d.1, u.d.2, u.d.3, u.d.0)
    ≡ diagonals (vector_of v) x y
unfolding turned_back
turned v u x y e = ap turned_back e ∙ in_diagonals v.a v.b v.c v.d x y

-- a round, from the vector after each half
pub rounded : (s m v₀ : List ℕ) {v₁ v₂ : List ℕ}
    → v₁ ≡ columns v₀ (at m (at s 0), at m (at s 2), at m (at s 4), at m (at s 6)) (at m (at s 1), at m (at s 3), at m (at s 5), at m (at s 7))
    → v₂ ≡ diagonals v₁ (at m (at s 8), at m (at s 10), at m (at s 12), at m (at s 14)) (at m (at s 9), at m (at s 11), at m (at s 13), at m (at s 15))
    → v₂ ≡ round s m v₀
unfolding round columns diagonals
rounded s m v₀ e₁ e₂ = rw (e₂, e₁)
