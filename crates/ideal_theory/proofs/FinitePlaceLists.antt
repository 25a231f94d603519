-- The divisor of a function with an inverse on the finite side: the places over the irreducible factors of its
-- denominator and that of its inverse are listed.
use Rattle.std.proofs.Common.{◌≡◌, ◌⊎◌, inl, inr, List, [], ◌∷◌, ◌++◌, map, pos, refl, sym, ◌∙◌, subst, All}
use Rattle.std.specs.List.{Any}
use Rattle.std.proofs.lemmas.List.Elements.{All-head, All-tail}
use Rattle.ring_lemmas.proofs.Ring.{product_not_zero}
use Rattle.prime_theory.proofs.Lists.{any_left, any_right}
use Rattle.ff_fields.specs.Field.{CodeField}
use Rattle.ff_poly.specs.Words.{IsIrreducibleList}
use Rattle.ff_poly.specs.Polynomials.{Polynomial, polynomials, polynomials_domain, codes_of}
use Rattle.function_field.specs.declared.side.Side.TheVariants.{Finite}
use Rattle.function_field.specs.Places.{Place, IsPlace, IsIn, IsSamePlace, HasValuation}
use Rattle.function_field.specs.Functions.{Equation, FunctionOf, ring_of, of_poly, setting_of}
use Rattle.function_field.specs.Discriminant.{discriminant}
use Rattle.function_field.proofs.ScalarRings.{scalars_subring}
use Rattle.trace_theory.specs.Traces.{polynomial_product}
use Rattle.lattice_theory.specs.Lattices.{HasMultiple}
use Rattle.order_theory.proofs.IntegralLattice.{integral_lattice, polynomial_in}
use Rattle.order_theory.proofs.FinitePlaces.{Int, finite, in_place_decided}
use Rattle.order_theory.proofs.IrreducibleIn.{factor_in, one_out, times}
use Rattle.order_theory.proofs.PlaceEntries.{any_map, places_over_p, all_places_over}
use Rattle.order_theory.proofs.Values.{value_zero}
use Rattle.ideal_theory.proofs.Factors.{factors}
use Rattle.ideal_theory.proofs.PowerValues.{on_side}

module _ {k : CodeField} (c : Equation k) (some : ¬ (discriminant c ≡ (polynomials k).𝟘)) where
  infixl 70 ◌⊗◌
  open ring_of c use {𝟙, ◌⊗◌}

  abbrev FinitePlace : Type 0
  FinitePlace = (P : Place (FunctionOf c)) × IsPlace (setting_of c) P × (P.side ≡ Finite)

  -- the places that have the product of a list of irreducible polynomials
  record HasAll (ps : List (Polynomial k)) : Type 0 where
    list : List FinitePlace
    all : (gs : List (FunctionOf c)) → IsPlace (setting_of c) (finite c gs)
        → IsIn (setting_of c) (finite c gs) (of_poly c (polynomial_product k ps))
        → Any (λ Q. IsSamePlace (setting_of c) Q.0 (finite c gs)) list

  extended : (p : Polynomial k) (ps : List (Polynomial k)) → IsIrreducibleList k.ops (codes_of k p) → HasAll ps
      → HasAll (p ∷ ps)
  extended p ps irr rest = record {
    list = first ++ rest.list;
    all = λ gs place m. by gs place m (in_place_decided c gs place (of_poly c p));
  }
    where
      first : List FinitePlace
      first = map (λ T. (T.place, T.is, T.over.side)) (places_over_p c some p irr)

      by : (gs : List (FunctionOf c)) (place : IsPlace (setting_of c) (finite c gs))
          → IsIn (setting_of c) (finite c gs) (of_poly c (polynomial_product k (p ∷ ps)))
          → Dec (IsIn (setting_of c) (finite c gs) (of_poly c p))
          → Any (λ Q. IsSamePlace (setting_of c) Q.0 (finite c gs)) (first ++ rest.list)
      by gs place m (yes p_in) =
          any_left (λ Q. IsSamePlace (setting_of c) Q.0 (finite c gs)) first rest.list
          (any_map (λ T. IsSamePlace (setting_of c) T.place (finite c gs))
          (λ Q. IsSamePlace (setting_of c) Q.0 (finite c gs)) (λ T. (T.place, T.is, T.over.side)) (λ T s. s)
          (places_over_p c some p irr)
          ((all_places_over c some p irr).complete (finite c gs) place (record { side = refl; member = p_in })))
      by gs place m (no n) =
          any_right (λ Q. IsSamePlace (setting_of c) Q.0 (finite c gs)) first rest.list
          (rest.all gs place (factor_in c gs place p (polynomial_product k ps) m n))

  places_with : (ps : List (Polynomial k)) → All (λ p. IsIrreducibleList k.ops (codes_of k p)) ps → HasAll ps
  places_with [] h = record { list = []; all = λ gs place m. absurd (one_out c gs place m) }
  places_with (p ∷ ps) h =
      extended p ps (All-head (λ p. IsIrreducibleList k.ops (codes_of k p)) p ps h)
      (places_with ps (All-tail (λ p. IsIrreducibleList k.ops (codes_of k p)) p ps h))

  -- a function with an inverse has the value 0 at all finite places but those of a list
  pub listed_places : (z y : FunctionOf c) → z ⊗ y ≡ 𝟙
      → (ps : List ((P : Place (FunctionOf c)) × IsPlace (setting_of c) P × (P.side ≡ Finite)))
      × ((P : Place (FunctionOf c)) → IsPlace (setting_of c) P → P.side ≡ Finite
      → HasValuation (setting_of c) P z (pos 0) ⊎ Any (λ Q. IsSamePlace (setting_of c) Q.0 P) ps)
  listed_places z y inverse = (
    r.list,
    λ P place e.
        on_side (setting_of c) (scalars_subring c) Finite
        (λ P. IsPlace (setting_of c) P → HasValuation (setting_of c) P z (pos 0)
        ⊎ Any (λ Q. IsSamePlace (setting_of c) Q.0 P) r.list)
        (λ gs place. at gs place (in_place_decided c gs place (of_poly c a.factor))
        (in_place_decided c gs place (of_poly c b.factor))) P e place,
  )
    where
      a : HasMultiple c (Int c) z
      a = (integral_lattice c some).full z

      b : HasMultiple c (Int c) y
      b = (integral_lattice c some).full y

      g : Polynomial k
      g = (polynomials k).◌⊗◌ a.factor b.factor

      f : Rattle.ideal_theory.proofs.Factors.Factors c ((polynomials k).◌⊗◌ a.factor b.factor)
      f = factors c ((polynomials k).◌⊗◌ a.factor b.factor)
          (product_not_zero (polynomials_domain k) a.factor b.factor a.some b.some)

      r : HasAll f.list
      r = places_with f.list f.irreducible

      -- a place with the product of the denominators is listed
      has : (gs : List (FunctionOf c)) → IsPlace (setting_of c) (finite c gs)
          → IsIn (setting_of c) (finite c gs) (of_poly c ((polynomials k).◌⊗◌ a.factor b.factor))
          → Any (λ Q. IsSamePlace (setting_of c) Q.0 (finite c gs)) r.list
      has gs place m =
          r.all gs place
          (subst (λ q. IsIn (setting_of c) (finite c gs) (of_poly c q))
          ((polynomials k).mul_comm f.divides.0 _ ∙ sym f.divides.1)
          (times c gs place f.divides.0 ((polynomials k).◌⊗◌ a.factor b.factor) m))

      at : (gs : List (FunctionOf c)) → IsPlace (setting_of c) (finite c gs)
          → Dec (IsIn (setting_of c) (finite c gs) (of_poly c a.factor))
          → Dec (IsIn (setting_of c) (finite c gs) (of_poly c b.factor))
          → HasValuation (setting_of c) (finite c gs) z (pos 0)
          ⊎ Any (λ Q. IsSamePlace (setting_of c) Q.0 (finite c gs)) r.list
      at gs place (yes m) e =
          inr (has gs place (subst (λ q. IsIn (setting_of c) (finite c gs) (of_poly c q))
          ((polynomials k).mul_comm _ _) (times c gs place b.factor a.factor m)))
      at gs place (no n) (yes m) = inr (has gs place (times c gs place a.factor b.factor m))
      at gs place (no n) (no m) =
          inl (value_zero c gs place z y (of_poly c a.factor) (of_poly c b.factor) inverse (polynomial_in c a.factor) n
          a.multiple_in (polynomial_in c b.factor) m b.multiple_in)
