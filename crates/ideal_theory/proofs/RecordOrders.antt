-- An order with the powers of y that has a record at each irreducible polynomial whose square divides the discriminant
-- is the maximal order.
use Rattle.std.proofs.Common.{◌≡◌, ℕ, ◌<◌, List, refl, sym, ◌∙◌, subst}
use Rattle.std.proofs.lemmas.List.Elements.{All-weaker}
use Rattle.ring_lemmas.specs.Ring.{pow}
use Rattle.ring_lemmas.specs.Rows.{entry}
use Rattle.ring_theory.specs.Subsets.{IsModule}
use Rattle.prime_theory.specs.Ideals.{SameSet}
use Rattle.prime_theory.specs.Orders.{MaximalAt}
use Rattle.linear_theory.specs.Euclidean.{IsDivisorIn}
use Rattle.ff_fields.specs.Field.{CodeField}
use Rattle.ff_poly.specs.Words.{IsIrreducibleList}
use Rattle.ff_poly.specs.Polynomials.{Polynomial, polynomials, codes_of}
use Rattle.function_field.specs.Functions.{Equation, FunctionOf, ring_of, of_poly, y_of, degree_of_y, IsPolynomial}
use Rattle.function_field.specs.Discriminant.{discriminant}
use Rattle.places_theory.proofs.YRoot.{poly_hom, at_y_plain}
use Rattle.trace_theory.specs.Traces.{HasPolynomialCoordinates}
use Rattle.trace_theory.proofs.IntegralLaw.{eval_sum}
use Rattle.trace_theory.proofs.MaximalOrder.{maximal_order}
use Rattle.lattice_theory.proofs.Lattices.{lattice_module}
use Rattle.order_theory.specs.Orders.{IsOrder}
use Rattle.order_theory.proofs.FinitePlaces.{Int}
use Rattle.order_theory.proofs.LocalOrders.{order_integral}
use Rattle.ideal_theory.specs.Records.{RecordedPrime, IsRecordAt}
use Rattle.ideal_theory.proofs.Factors.{factors}
use Rattle.ideal_theory.proofs.Records.{record_maximal}
use Rattle.infinite_theory.proofs.SupportedLattices.{sum_in}

module _ {k : CodeField} (c : Equation k) where
  -- a module over the polynomials with 1, y, up to y^(n-1) has k[x][y]
  pub coordinates_in : (L : FunctionOf c → Type 0) → IsModule (ring_of c).ops (IsPolynomial c) L
      → ((i : ℕ) → i < degree_of_y c → L (pow (ring_of c).ops (y_of c) i)) → (z : FunctionOf c)
      → HasPolynomialCoordinates c z → L z
  coordinates_in L 𝓛 has z m =
      subst L
      (sym (m.value ∙ sym (at_y_plain c m.coordinates)
      ∙ eval_sum (polynomials k).ring (ring_of c) (of_poly c) (poly_hom c) (y_of c) (degree_of_y c) m.coordinates))
      (sum_in c L 𝓛 (degree_of_y c) _
      (λ i l. 𝓛.scale_in (of_poly c (entry (polynomials k).ops (degree_of_y c) i m.coordinates)) _
      (record { polynomial = entry (polynomials k).ops (degree_of_y c) i m.coordinates; value = refl }) (has i l)))

  module _ (O : FunctionOf c → Type 0) (𝓞 : IsOrder c O)
      (has : (i : ℕ) → i < degree_of_y c → O (pow (ring_of c).ops (y_of c) i))
      (some : ¬ (discriminant c ≡ (polynomials k).𝟘)) where
    -- maximal at those polynomials, it is the maximal order
    pub maximal_everywhere : ((p : Polynomial k) → IsIrreducibleList k.ops (codes_of k p)
        → IsDivisorIn (polynomials k).ops ((polynomials k).◌⊗◌ p p) (discriminant c)
        → MaximalAt (ring_of c).ops (of_poly c p) (Int c) O) → SameSet O (Int c)
    maximal_everywhere at z = (
      order_integral c O 𝓞 z,
      let f = factors c (discriminant c) some in
          maximal_order c O 𝓞.ring (coordinates_in O (lattice_module c O 𝓞.lattice) has) f.list f.divides f.irreducible
          (All-weaker (λ p. IsIrreducibleList k.ops (codes_of k p))
          (λ p. IsDivisorIn (polynomials k).ops ((polynomials k).◌⊗◌ p p) (discriminant c)
          → MaximalAt (ring_of c).ops (of_poly c p) (Int c) O)
          (λ p h d. at p h d) f.list f.irreducible) z,
    )

    pub recorded_everywhere :
        ((p : Polynomial k) → IsIrreducibleList k.ops (codes_of k p)
        → IsDivisorIn (polynomials k).ops ((polynomials k).◌⊗◌ p p) (discriminant c)
        → (ps : List (RecordedPrime c O)) × IsRecordAt c O p ps) → SameSet O (Int c)
    recorded_everywhere records =
        maximal_everywhere (λ p h d. let r = records p h d in record_maximal c p h O 𝓞 r.0 r.1)
