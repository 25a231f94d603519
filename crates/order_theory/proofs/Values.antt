-- A function with an inverse has a value at each finite place, and the value 0 where its denominators are no members
-- of the place.
use Rattle.std.proofs.Common.{◌≡◌, List, [], ◌∷◌, pos, refl, sym, ◌∙◌, subst}
use Rattle.std.specs.Prelude.{ℤ}
use Rattle.ring_lemmas.proofs.Ring.{product_not_zero}
use Rattle.ring_lemmas.proofs.Solver.{ring, reads, from_one}
use Rattle.prime_theory.specs.Ideals.{SameSet}
use Rattle.prime_theory.proofs.Primes.{outside_product}
use Rattle.ff_fields.specs.Field.{CodeField}
use Rattle.ff_poly.specs.Polynomials.{polynomials, polynomials_domain}
use Rattle.function_field.specs.Places.{IsPlace, IsIn, HasValuation}
use Rattle.function_field.specs.Functions.{Equation, FunctionOf, ring_of, of_poly, IsPolynomial, setting_of}
use Rattle.function_field.specs.Discriminant.{discriminant}
use Rattle.function_field.proofs.ScalarRings.{scalars_subring}
use Rattle.places_theory.proofs.PlaceValues.{valuation_exists}
use Rattle.places_theory.proofs.Sides.{place_ideal, in_power_within}
use Rattle.places_theory.proofs.YRoot.{poly_hom}
use Rattle.order_theory.specs.Orders.{IsPrimeTo}
use Rattle.order_theory.proofs.IntegralLattice.{integral_lattice, integral_subring, polynomial_integral}
use Rattle.order_theory.proofs.LocalOrders.{prime_to, split_at}
use Rattle.order_theory.proofs.FinitePlaces.{Int, finite, place_prime}
use Rattle.order_theory.proofs.PrimesOver.{Index, PrimeOf}
use Rattle.order_theory.proofs.Ramification.{ramified}
use Rattle.order_theory.proofs.PlaceLists.{integral_order, integral_maximal, place_is_listed}
use Rattle.order_theory.proofs.PlaceEntries.{integral_order_at, value_of_prime, place_pair}
use Rattle.order_theory.proofs.IrreducibleIn.{generator_of, generator_in, generator_irreducible}

module _ {k : CodeField} (c : Equation k) (some : ¬ (discriminant c ≡ (polynomials k).𝟘)) (gs : List (FunctionOf c))
    (place : IsPlace (setting_of c) (finite c gs)) where
  infixl 65 ◌⊕◌
  infixl 70 ◌⊗◌
  infixr 80 ⊖◌
  open ring_of c use {𝟘, 𝟙, ◌⊕◌, ◌⊗◌, ⊖◌}

  abbrev M : FunctionOf c → Type 0
  M = IsIn (setting_of c) (finite c gs)

  -- what is prime to p isn't in the place
  prime_out : (w : FunctionOf c) → IsPrimeTo c (generator_of c gs place) w → ¬ (M w)
  prime_out w w_in m =
      let b = (prime_to c (generator_of c gs place) (generator_irreducible c gs place)).comaximal w w_in in
      let 𝓟 = place_ideal (setting_of c) (scalars_subring c) (finite c gs) place in
      place.proper
      (subst M b.is
      (𝓟.sum_in _ _ (place.ideal b.left w (polynomial_integral c b.left b.left_in) m)
      (place.ideal b.right _ (polynomial_integral c b.right b.right_in) (generator_in c gs place))))

  pub value_exists : (z y : FunctionOf c) → z ⊗ y ≡ 𝟙 → (m : ℤ) × HasValuation (setting_of c) (finite c gs) z m
  value_exists z y inverse =
      let i = place_is_listed c some (generator_of c gs place) (generator_irreducible c gs place) gs place
      (generator_in c gs place) in
      at i.1 i.4
    where
      at : (i : Index c (generator_of c gs place) (generator_irreducible c gs place) (Int c)
          (integral_order c some (generator_of c gs place) (generator_irreducible c gs place)))
          → SameSet (PrimeOf c (generator_of c gs place) (generator_irreducible c gs place) (Int c)
          (integral_order c some (generator_of c gs place) (generator_irreducible c gs place)) i) M
          → (m : ℤ) × HasValuation (setting_of c) (finite c gs) z m
      at i s =
          let g = generator_of c gs place in
          let irr = generator_irreducible c gs place in
          let r = ramified c g irr (Int c) (integral_order c some g irr) (integral_maximal c some g irr) in
          let a = (integral_lattice c some).full z in
          let b = (integral_lattice c some).full y in
          let t = split_at c g irr ((polynomials k).◌⊗◌ a.factor b.factor)
          (product_not_zero (polynomials_domain k) a.factor b.factor a.some b.some) in
          valuation_exists (setting_of c) (scalars_subring c) (finite c gs) place (IsPolynomial c) (IsPrimeTo c g)
          (Int c) (of_poly c g)
          (integral_order_at c g irr) (generator_in c gs place) (place_prime c gs place).decide
          (place_pair c some g irr i gs place s) z y
          (of_poly c a.factor) (of_poly c b.factor) t.cofactor (r.0 i) t.exponent inverse
          (polynomial_integral c _ (record { polynomial = a.factor; value = refl }))
          (polynomial_integral c _ (record { polynomial = b.factor; value = refl }))
          a.multiple_in b.multiple_in (sym ((poly_hom c).mul _ _) ∙ t.is)
          (polynomial_integral c _ ((prime_to c g irr).within t.cofactor t.cofactor_in))
          (prime_out t.cofactor t.cofactor_in)
          (value_of_prime c some g irr i gs place s (of_poly c g) (pos (r.0 i)) (r.1 i))

module _ {k : CodeField} (c : Equation k) (gs : List (FunctionOf c))
    (place : IsPlace (setting_of c) (finite c gs)) where
  infixl 65 ◌⊕◌
  infixl 70 ◌⊗◌
  infixr 80 ⊖◌
  open ring_of c use {𝟘, 𝟙, ◌⊕◌, ◌⊗◌, ⊖◌}

  abbrev In : FunctionOf c → Type 0
  In = IsIn (setting_of c) (finite c gs)

  -- the value is 0 where denominators of the function and its inverse are outside the place
  pub value_zero : (z y a b : FunctionOf c) → z ⊗ y ≡ 𝟙 → Int c a → ¬ (In a) → Int c (a ⊗ z) → Int c b → ¬ (In b)
      → Int c (b ⊗ y)
      → HasValuation (setting_of c) (finite c gs) z (pos 0)
  value_zero z y a b inverse a_in a_out az b_in b_out b_y = record {
    reached = record { factor = a; integral = a_in; outside = a_out; product = az };
    not_more =
        λ v. by v.factor v.integral v.outside
        (in_power_within (setting_of c) (scalars_subring c) (finite c gs) place 0 _ v.product);
  }
    where
      moved : (u z b y : FunctionOf c) → z ⊗ y ≡ 𝟙 → (b ⊗ y) ⊗ (u ⊗ z) ≡ u ⊗ b
      moved u z b y e =
          from_one (ring_of c) (u ⊗ b) e
          (ring (ring_of c) (u ∷ z ∷ b ∷ y ∷ []) λ q h. simp (reads, q, h 0, h 1, h 2, h 3) (q.equal _ _ refl))

      by : (u : FunctionOf c) → Int c u → ¬ (In u) → In (u ⊗ z) → ⊥
      by u u_in u_out m =
          (outside_product (ring_of c) (Int c) (integral_subring c) In (place_prime c gs place) u b
          (record { within = u_in; out = u_out }) (record { within = b_in; out = b_out })).out
          (subst In (moved u z b y inverse) (place.ideal (b ⊗ y) (u ⊗ z) b_y m))
