-- The words of the theorems on the primes of the idempotents of k[x] modulo a polynomial.
use Rattle.std.specs.Prelude.{◌≡◌, ◌↔◌, ◌⊎◌, ℕ, ◌≤◌, List, [], ◌∷◌, length}
use Rattle.ring_lemmas.specs.Ring.{pow}
use Rattle.ring_lemmas.specs.Congruence.{IsCongruent}
use Rattle.linear_theory.specs.Euclidean.{IsDivisorIn}
use Rattle.ff_fields.specs.Field.{CodeField}
use Rattle.ff_fields.specs.Over.{IsOver}
use Rattle.ff_poly.specs.Words.{IsMonicList, IsIrreducibleList}
use Rattle.ff_poly.specs.Value.{value}
use Rattle.ff_poly.specs.Polynomials.{Polynomial, polynomials, constant_poly}

-- c_0 + c_1·t + c_2·t·t and so on, for the codes of a list
abbrev pub value_at : (k : CodeField) → List ℕ → Polynomial k → Polynomial k
value_at k [] t = (polynomials k).𝟘
value_at k (c ∷ w) t = (polynomials k).◌⊕◌ (constant_poly k c) ((polynomials k).◌⊗◌ t (value_at k w t))

module _ (k : CodeField) where
  -- a monic polynomial that has a property, and none of smaller degree
  pub record IsLeastMonic (T : List ℕ → Type 0) (h : List ℕ) : Type 0 where
    pub over : IsOver k.ops h
    pub monic : IsMonicList h
    pub has : T h
    pub least : (w : List ℕ) → IsOver k.ops w → IsMonicList w → T w → length h ≤ length w

  module _ (g : Polynomial k) where
    abbrev pub Congruent : Polynomial k → Polynomial k → Type 0
    Congruent a b = IsCongruent (polynomials k).ops g a b

    -- modulo g: an idempotent that is not 0 and has below it only 0 and itself
    pub record IsPrimitiveModulo (e : Polynomial k) : Type 0 where
      pub nonzero : ¬ Congruent e (polynomials k).𝟘
      pub idempotent : Congruent ((polynomials k).◌⊗◌ e e) e
      pub least :
          (f : Polynomial k) → Congruent ((polynomials k).◌⊗◌ f f) f → Congruent ((polynomials k).◌⊗◌ f e) f
          → Congruent f (polynomials k).𝟘 ⊎ Congruent f e

    -- h·e is 0 modulo g
    abbrev pub Kills : Polynomial k → List ℕ → Type 0
    Kills e h = IsDivisorIn (polynomials k).ops g ((polynomials k).◌⊗◌ (value k h) e)

    -- p belongs to e: its multiples are the u for which u·e is nilpotent modulo g
    abbrev pub BelongsTo : List ℕ → Polynomial k → Type 0
    BelongsTo p e =
        (u : Polynomial k) → IsDivisorIn (polynomials k).ops (value k p) u
        ↔ ((n : ℕ) × IsDivisorIn (polynomials k).ops g (pow (polynomials k).ops ((polynomials k).◌⊗◌ u e) n))

    -- h is a power of one irreducible polynomial, which belongs to e
    pub record IsPrimePower (e : Polynomial k) (h : List ℕ) : Type 0 where
      pub prime : List ℕ
      pub over : IsOver k.ops prime
      pub irreducible : IsIrreducibleList k.ops prime
      pub exponent : ℕ
      pub positive : 1 ≤ exponent
      pub is : value k h ≡ pow (polynomials k).ops (value k prime) exponent
      pub belongs : BelongsTo prime e

    -- the value at x^n is 0 modulo g
    abbrev pub VanishesAt : Polynomial k → List ℕ → Type 0
    VanishesAt t r = IsDivisorIn (polynomials k).ops g (value_at k r t)
