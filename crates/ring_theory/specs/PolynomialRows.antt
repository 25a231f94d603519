-- Rows of polynomials as one sequence of coefficients.
use Rattle.std.specs.Prelude.{ℕ, zero, suc, ◌+◌, ◌/◌, ◌%◌, length}
use Rattle.ring_lemmas.specs.Ring.{TestedRing}
use Rattle.ring_lemmas.specs.Lists.{coeff_of}
use Rattle.ring_lemmas.specs.Rows.{Row, row_zero, entry}
use Rattle.ring_lemmas.specs.Polynomials.{Pol}
use Rattle.ring_theory.specs.PolynomialRing.{pol_ring}

module _ {A : Type 0} (k : TestedRing A) where
  abbrev P : TestedRing (Pol k)
  P = pol_ring k

  -- the sum of the lengths of the entries
  unfoldable pub lengths : (n : ℕ) → Row (Pol k) n → ℕ
  lengths zero v = 0
  lengths (suc n) (a, v) = length a.0 + lengths n v

  -- a polynomial in one column
  unfoldable pub in_column : (n : ℕ) → ℕ → Pol k → Row (Pol k) n
  in_column zero i p = tt
  in_column (suc n) zero p = (p, row_zero P.ops n)
  in_column (suc n) (suc i) p = (P.𝟘, in_column n i p)

  module _ (n : ℕ) where
    abbrev pub w : ℕ
    w = suc n

    -- the coefficient of x^(e / w) in the entry e % w
    unfoldable pub row_coef : Row (Pol k) w → ℕ → A
    row_coef v e = coeff_of k.ops (entry P.ops w (e % w) v).0 (e / w)
