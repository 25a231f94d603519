-- Spans and integral elements over a greater set of scalars.
use Rattle.std.proofs.Common.{List, [], ◌∷◌}
use Rattle.ring_lemmas.specs.Ring.{CommRing}
use Rattle.ring_theory.specs.Subsets.{Span}
use Rattle.ring_theory.specs.Integral.{IsIntegral}

module _ {A : Type 0} (R : CommRing A) (S T : A → Type 0) (within : (s : A) → S s → T s) where
  pub span_wider : (bs : List A) (z : A) → Span R.ops S bs z → Span R.ops T bs z
  span_wider [] z h = h
  span_wider (b ∷ bs) z h = record {
    scalar = h.scalar;
    scalar_in = within _ h.scalar_in;
    rest = h.rest;
    rest_in = span_wider bs h.rest h.rest_in;
    is = h.is;
  }

  pub integral_wider : (z : A) → IsIntegral R.ops S z → IsIntegral R.ops T z
  integral_wider z h = record {
    degree = h.degree;
    positive = h.positive;
    coefficient = h.coefficient;
    coefficient_in = λ i. within _ (h.coefficient_in i);
    root = h.root;
  }
