-- Finitely many finite places have a given polynomial, so a function with an inverse has the value 0 at all but
-- finitely many.
use Rattle.std.proofs.Common.{◌≡◌, ◌⊎◌, inl, inr, ℕ, zero, suc, ◌<◌, ◌≤◌, List, [], ◌++◌, length, map, pos, refl, sym, ◌∙◌, ap, subst, arith}
use Rattle.std.specs.List.{Any}
use Rattle.std.proofs.lemmas.List.{length-map}
use Rattle.prime_theory.proofs.Lists.{any_left, any_right}
use Rattle.ring_lemmas.specs.Lists.{coeff_of}
use Rattle.ring_lemmas.proofs.Ring.{mul_zero, product_not_zero}
use Rattle.ring_lemmas.specs.Polynomials.{constant}
use Rattle.ring_theory.proofs.Evaluate.{constant_hom}
use Rattle.ring_theory.proofs.Polynomials.{length_product}
use Rattle.ff_fields.specs.Field.{CodeField}
use Rattle.ff_fields.specs.Code.{code_ring, code_domain}
use Rattle.ff_poly.specs.Polynomials.{Polynomial, polynomials, polynomials_domain}
use Rattle.function_field.specs.Places.{Place, IsPlace, IsIn, IsSamePlace, HasValuation}
use Rattle.function_field.specs.Functions.{Equation, FunctionOf, ring_of, of_poly, setting_of}
use Rattle.function_field.specs.Discriminant.{discriminant}
use Rattle.polynomial_theory.proofs.Lengths.{some_long}
use Rattle.polynomial_theory.proofs.Irreducible.{irreducible_some}
use Rattle.lattice_theory.specs.Lattices.{HasMultiple}
use Rattle.lattice_theory.proofs.Bases.{monic_multiple}
use Rattle.order_theory.proofs.Degrees.{constant_of}
use Rattle.order_theory.proofs.IntegralLattice.{integral_lattice, polynomial_in}
use Rattle.order_theory.proofs.FinitePlaces.{Int, finite, in_place_decided}
use Rattle.order_theory.proofs.InvertibleIdeals.{divisor_of, divides_it, divisor_irreducible}
use Rattle.order_theory.proofs.IrreducibleIn.{factor_in, one_out, times}
use Rattle.order_theory.proofs.PlaceEntries.{any_map, places_over_p, all_places_over}
use Rattle.order_theory.proofs.Values.{value_zero}
use Rattle.std.proofs.lemmas.Bool.{cases_lt}

module _ {k : CodeField} (c : Equation k) (some : ¬ (discriminant c ≡ (polynomials k).𝟘)) where
  infixl 70 ◌⊗◌
  open ring_of c use {𝟘, 𝟙, ◌⊗◌}

  -- a list with each place that has g
  pub record HasAll (g : Polynomial k) : Type 0 where
    pub list : List (Place (FunctionOf c))
    pub all : (gs : List (FunctionOf c)) → IsPlace (setting_of c) (finite c gs)
        → IsIn (setting_of c) (finite c gs) (of_poly c g)
        → Any (λ Q. IsSamePlace (setting_of c) Q (finite c gs)) list

  -- a constant other than 0 is in no place
  constant_out : (g : Polynomial k) → ¬ (g ≡ (polynomials k).𝟘) → length g.0 ≤ 1
      → (gs : List (FunctionOf c)) (place : IsPlace (setting_of c) (finite c gs))
      → ¬ (IsIn (setting_of c) (finite c gs) (of_poly c g))
  constant_out g g_some short gs place g_in =
      let m = monic_multiple k g g_some in
      let s = m.monic.size in
      let d = m.degree in
      let l = some_long k g g_some in
      let zero : m.monic.degree ≡ 0 = omega arith in
      let top : coeff_of (code_ring k).ops m.product.0 0 ≡ (code_ring k).𝟙
      = subst (λ n. coeff_of (code_ring k).ops m.product.0 n ≡ (code_ring k).𝟙) zero m.monic.top in
      let one : m.product ≡ (polynomials k).𝟙
      = constant_of c m.product (omega arith) ∙ ap (constant (code_ring k)) top ∙ (constant_hom (code_ring k)).𝟙 in
      one_out c gs place (subst (λ a. IsIn (setting_of c) (finite c gs) (of_poly c a)) (sym m.is ∙ one)
      (times c gs place m.unit g g_in))

  places_with : (n : ℕ) (g : Polynomial k) → ¬ (g ≡ (polynomials k).𝟘) → length g.0 < n → HasAll g
  places_with zero g g_some l = absurd (omega arith)
  places_with (suc n) g g_some l = go (cases_lt 1 (length g.0)) (λ u u_some less. places_with n u u_some less)
    where
      by : (gs : List (FunctionOf c)) (place : IsPlace (setting_of c) (finite c gs)) (p u : Polynomial k)
          → IsIn (setting_of c) (finite c gs) (of_poly c ((polynomials k).◌⊗◌ p u))
          → Dec (IsIn (setting_of c) (finite c gs) (of_poly c p))
          → (xs ys : List (Place (FunctionOf c)))
          → (IsIn (setting_of c) (finite c gs) (of_poly c p) → Any (λ Q. IsSamePlace (setting_of c) Q (finite c gs)) xs)
          → (IsIn (setting_of c) (finite c gs) (of_poly c u) → Any (λ Q. IsSamePlace (setting_of c) Q (finite c gs)) ys)
          → Any (λ Q. IsSamePlace (setting_of c) Q (finite c gs)) (xs ++ ys)
      by gs place p u m (yes p_in) xs ys f g = any_left (λ Q. IsSamePlace (setting_of c) Q (finite c gs)) xs ys (f p_in)
      by gs place p u m (no n) xs ys f g =
          any_right (λ Q. IsSamePlace (setting_of c) Q (finite c gs)) xs ys (g (factor_in c gs place p u m n))

      go : (2 ≤ length g.0) ⊎ (length g.0 ≤ 1)
          → ((u : Polynomial k) → ¬ (u ≡ (polynomials k).𝟘) → length u.0 < n → HasAll u) → HasAll g
      go (inr short) again = record { list = []; all = λ gs place m. absurd (constant_out g g_some short gs place m) }
      go (inl long) again =
          let p = divisor_of k g g_some long in
          let irr = divisor_irreducible k g g_some long in
          let d = divides_it k g g_some long in
          let u_some : ¬ (d.0 ≡ (polynomials k).𝟘) = λ z. g_some
          (d.1 ∙ ap ((polynomials k).◌⊗◌ p) z ∙ mul_zero (polynomials k).ring p) in
          let e = length_product (code_ring k) (code_domain k) p d.0 (irreducible_some k p irr) u_some in
          let f : length g.0 ≡ length ((polynomials k).◌⊗◌ p d.0).0 = ap (λ q. length q.0) d.1 in
          let p_long : 2 ≤ length p.0 = subst (λ n. 2 ≤ n) (length-map p.0 (λ x. x.0)) irr.not_constant in
          let r = again d.0 u_some (omega (arith, e, f, p_long, l)) in
          let first = map (λ P. P.place) (places_over_p c some p irr) in
          record {
            list = first ++ r.list;
            all = λ gs place m. by gs place p d.0
                (subst (λ a. IsIn (setting_of c) (finite c gs) (of_poly c a)) d.1 m)
                (in_place_decided c gs place (of_poly c p)) first r.list
                (λ p_in.
                any_map (λ P. IsSamePlace (setting_of c) P.place (finite c gs))
                (λ Q. IsSamePlace (setting_of c) Q (finite c gs)) (λ P. P.place) (λ P s. s)
                (places_over_p c some p irr)
                ((all_places_over c some p irr).complete (finite c gs) place (record { side = refl; member = p_in })))
                (λ u_in. r.all gs place u_in);
          }

  pub places_of : (g : Polynomial k) → ¬ (g ≡ (polynomials k).𝟘) → HasAll g
  places_of g g_some = places_with (suc (length g.0)) g g_some (omega arith)

  -- the value is 0 at all but the places of a list
  pub finitely_many : (z y : FunctionOf c) → z ⊗ y ≡ 𝟙 → (ps : List (Place (FunctionOf c)))
      × ((gs : List (FunctionOf c)) → IsPlace (setting_of c) (finite c gs)
      → HasValuation (setting_of c) (finite c gs) z (pos 0) ⊎ Any (λ Q. IsSamePlace (setting_of c) Q (finite c gs)) ps)
  finitely_many z y inverse = (
    r.list,
    λ gs place. at gs place (in_place_decided c gs place (of_poly c a.factor))
        (in_place_decided c gs place (of_poly c b.factor)),
  )
    where
      a : HasMultiple c (Int c) z
      a = (integral_lattice c some).full z

      b : HasMultiple c (Int c) y
      b = (integral_lattice c some).full y

      r : HasAll ((polynomials k).◌⊗◌ a.factor b.factor)
      r = places_of ((polynomials k).◌⊗◌ a.factor b.factor)
          (product_not_zero (polynomials_domain k) a.factor b.factor a.some b.some)

      at : (gs : List (FunctionOf c)) → IsPlace (setting_of c) (finite c gs)
          → Dec (IsIn (setting_of c) (finite c gs) (of_poly c a.factor))
          → Dec (IsIn (setting_of c) (finite c gs) (of_poly c b.factor))
          → HasValuation (setting_of c) (finite c gs) z (pos 0)
          ⊎ Any (λ Q. IsSamePlace (setting_of c) Q (finite c gs)) r.list
      at gs place (yes m) e =
          inr (r.all gs place (subst (λ q. IsIn (setting_of c) (finite c gs) (of_poly c q))
          ((polynomials k).mul_comm _ _) (times c gs place b.factor a.factor m)))
      at gs place (no n) (yes m) = inr (r.all gs place (times c gs place a.factor b.factor m))
      at gs place (no n) (no m) =
          inl (value_zero c gs place z y (of_poly c a.factor) (of_poly c b.factor) inverse (polynomial_in c a.factor) n
          a.multiple_in (polynomial_in c b.factor) m b.multiple_in)
