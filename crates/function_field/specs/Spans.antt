-- Combinations with listed coefficients, and in how many ways a function is one.
use Rattle.std.specs.Prelude.{◌≡◌, List, [], ◌∷◌, length, All}
use Rattle.ring_lemmas.specs.Ring.{Operations}

module _ {E : Type 0} (F : Operations E) where
  infixl 65 ◌⊕◌
  infixl 70 ◌⊗◌
  infixr 80 ⊖◌
  open F use {𝟘, ◌⊕◌, ◌⊗◌, ⊖◌}

  abbrev pub minus : E → E → E
  minus a b = a ⊕ ⊖ b

  -- r_1·g_1 + r_2·g_2 + ..
  abbrev pub combination : List E → List E → E
  combination [] gs = 𝟘
  combination (r ∷ rs) [] = 𝟘
  combination (r ∷ rs) (g ∷ gs) = r ⊗ g ⊕ combination rs gs

module _ {E : Type 0} (F : Operations E) (R : E → Type 0) where
  -- z is a sum of r_i·g_i with r_i in R; the same as `Span`, with the coefficients in one list
  pub record InSpanByList (gs : List E) (z : E) : Type 0 where
    pub coefficients : List E
    pub one_each : length coefficients ≡ length gs
    pub in_ring : All R coefficients
    pub value : z ≡ combination F coefficients gs

  -- z is such a sum in one way only
  pub record InSpanOnce (gs : List E) (z : E) : Type 0 where
    pub in_span : InSpanByList gs z
    pub one_way : (others : InSpanByList gs z) → others.coefficients ≡ in_span.coefficients

  -- only the combination with coefficients 0 gives 0
  abbrev pub IsIndependentList : List E → Type 0
  IsIndependentList gs =
      (rs : List E) → length rs ≡ length gs → All R rs → combination F rs gs ≡ F.𝟘 → All (λ r. r ≡ F.𝟘) rs
