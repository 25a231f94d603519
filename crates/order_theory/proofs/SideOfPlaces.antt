-- The theorems on finite places, for places whose side is given by an equation.
use Rattle.std.proofs.Common.{◌↔◌, ◌⊎◌, refl, ◌≡◌, ℕ, List, pos}
use Rattle.prime_theory.specs.Primes.{IsPrime}
use Rattle.ff_fields.specs.Field.{CodeField}
use Rattle.ff_poly.specs.Words.{IsIrreducibleList}
use Rattle.ff_poly.specs.Polynomials.{Polynomial, polynomials, codes_of}
use Rattle.std.specs.Prelude.{ℤ}
use Rattle.order_theory.proofs.IrreducibleIn.{generator_of, generator_in, generator_irreducible, same_irreducible}
use Rattle.std.specs.List.{Any}
use Rattle.order_theory.proofs.FinitelyMany.{finitely_many}
use Rattle.order_theory.proofs.RegularFunctions.{regular_is_integral}
use Rattle.order_theory.proofs.Values.{value_exists, value_zero}
use Rattle.function_field.specs.declared.side.Side.{Side}
use Rattle.function_field.specs.declared.side.Side.TheVariants.{Finite, Infinite}
use Rattle.function_field.specs.Places.{Place, IsPlace, IsIn, IsSamePlace, LiesOver, HasValuation, HasValuationAtLeast}
use Rattle.function_field.specs.Divisors.{HasDegree}
use Rattle.function_field.specs.Functions.{Equation, FunctionOf, ring_of, of_poly, setting_of}
use Rattle.function_field.specs.Discriminant.{discriminant}
use Rattle.function_field.proofs.ScalarRings.{scalars_subring}
use Rattle.places_theory.proofs.SamePlaces.{same_place_decided}
use Rattle.function_field.specs.Indices.{HasIndex}
use Rattle.lattice_theory.specs.Lattices.{IsLattice}
use Rattle.lattice_theory.proofs.Lattices.{lattice_decided}
use Rattle.lattice_theory.proofs.Indices.{index_of}
use Rattle.order_theory.proofs.IntegralLattice.{integral_lattice, integral_subring}
use Rattle.order_theory.proofs.FinitePlaces.{Int, finite, place_lattice, place_prime}
use Rattle.order_theory.proofs.Degrees.{degree_of_index}

module _ {k : CodeField} (c : Equation k) where
  -- what holds of each place that is spanned over the polynomials holds of each finite place
  by_side : (T : Place (FunctionOf c) → Type 0) → ((gs : List (FunctionOf c)) → T (finite c gs))
      → (s : Side) (gs : List (FunctionOf c)) → s ≡ Finite
      → T (record { side = s; generators = gs })
  by_side T f Finite gs e = f gs
  by_side T f Infinite gs e = absurd (cc)

  pub lattice_of_place : (P : Place (FunctionOf c)) → IsPlace (setting_of c) P → P.side ≡ Finite
      → IsLattice c (IsIn (setting_of c) P)
  lattice_of_place P h e =
      by_side (λ P. IsPlace (setting_of c) P → IsLattice c (IsIn (setting_of c) P)) (λ gs h. place_lattice c gs h)
      P.side P.generators e h

  pub prime_of_place : (P : Place (FunctionOf c)) → IsPlace (setting_of c) P → P.side ≡ Finite
      → IsPrime (ring_of c).ops (Int c) (IsIn (setting_of c) P)
  prime_of_place P h e =
      by_side (λ P. IsPlace (setting_of c) P → IsPrime (ring_of c).ops (Int c) (IsIn (setting_of c) P))
      (λ gs h. place_prime c gs h) P.side P.generators e h

  pub same_decided : (P Q : Place (FunctionOf c)) → IsPlace (setting_of c) P → P.side ≡ Finite
      → IsPlace (setting_of c) Q → Q.side ≡ Finite
      → Dec (IsSamePlace (setting_of c) P Q)
  same_decided P Q h e h' e' =
      same_place_decided (setting_of c) (scalars_subring c) P Q (lattice_decided c _ (lattice_of_place P h e))
      (lattice_decided c _ (lattice_of_place Q h' e'))

  pub degree_from_index : (P : Place (FunctionOf c)) (g : ℕ) → P.side ≡ Finite
      → HasIndex c (IsIn (setting_of c) P) (Int c) g → HasDegree (setting_of c) P g
  degree_from_index P g e i =
      by_side (λ P. HasIndex c (IsIn (setting_of c) P) (Int c) g → HasDegree (setting_of c) P g)
      (λ gs i. degree_of_index c gs g i) P.side P.generators e i

  pub degree_of_place : ¬ (discriminant c ≡ (polynomials k).𝟘) → (P : Place (FunctionOf c))
      → IsPlace (setting_of c) P → P.side ≡ Finite
      → (g : ℕ) × HasDegree (setting_of c) P g
  degree_of_place some P h e =
      let i = index_of c (IsIn (setting_of c) P) (Int c) (lattice_of_place P h e) (integral_lattice c some)
      (prime_of_place P h e).ideal.within in
      (i.0, degree_from_index P i.0 e i.1)

  pub place_lies_over : (P : Place (FunctionOf c)) → IsPlace (setting_of c) P → P.side ≡ Finite
      → (p : Polynomial k) × IsIrreducibleList k.ops (codes_of k p) × LiesOver (setting_of c) P (of_poly c p)
  place_lies_over P h e =
      by_side (λ P. IsPlace (setting_of c) P → (p : Polynomial k) × IsIrreducibleList k.ops (codes_of k p)
      × LiesOver (setting_of c) P (of_poly c p))
      (λ gs h. (
        generator_of c gs h,
        generator_irreducible c gs h,
        record { side = refl; member = generator_in c gs h },
      )) P.side P.generators e h

  pub lies_over_once : (P : Place (FunctionOf c)) (p q : Polynomial k) → IsPlace (setting_of c) P
      → IsIrreducibleList k.ops (codes_of k p)
      → IsIrreducibleList k.ops (codes_of k q) → LiesOver (setting_of c) P (of_poly c p)
      → LiesOver (setting_of c) P (of_poly c q) → p ≡ q
  lies_over_once P p q h i j m n =
      by_side (λ P. IsPlace (setting_of c) P → IsIn (setting_of c) P (of_poly c p)
      → IsIn (setting_of c) P (of_poly c q) → p ≡ q)
      (λ gs h m n. same_irreducible c gs h p q i j m n) P.side P.generators m.side h m.member n.member

  pub value_at_place : ¬ (discriminant c ≡ (polynomials k).𝟘) → (P : Place (FunctionOf c)) → IsPlace (setting_of c) P
      → P.side ≡ Finite
      → (z y : FunctionOf c) → (ring_of c).◌⊗◌ z y ≡ (ring_of c).𝟙 → (m : ℤ) × HasValuation (setting_of c) P z m
  value_at_place some P h e z y inverse =
      by_side (λ P. IsPlace (setting_of c) P → (m : ℤ) × HasValuation (setting_of c) P z m)
      (λ gs h. value_exists c some gs h z y inverse) P.side P.generators e h

  pub value_zero_at : (P : Place (FunctionOf c)) → IsPlace (setting_of c) P → P.side ≡ Finite
      → (z y a b : FunctionOf c) → (ring_of c).◌⊗◌ z y ≡ (ring_of c).𝟙
      → Int c a → ¬ (IsIn (setting_of c) P a) → Int c ((ring_of c).◌⊗◌ a z) → Int c b → ¬ (IsIn (setting_of c) P b)
      → Int c ((ring_of c).◌⊗◌ b y)
      → HasValuation (setting_of c) P z (pos 0)
  value_zero_at P h e z y a b inverse a_in a_out az b_in b_out b_y =
      by_side (λ P. IsPlace (setting_of c) P → ¬ (IsIn (setting_of c) P a) → ¬ (IsIn (setting_of c) P b)
      → HasValuation (setting_of c) P z (pos 0))
      (λ gs h a_out b_out. value_zero c gs h z y a b inverse a_in a_out az b_in b_out b_y) P.side P.generators e h
      a_out b_out

  pub values_finitely_many : ¬ (discriminant c ≡ (polynomials k).𝟘) → (z y : FunctionOf c) → (ring_of c).◌⊗◌ z y
      ≡ (ring_of c).𝟙
      → (ps : List (Place (FunctionOf c))) × ((P : Place (FunctionOf c)) → IsPlace (setting_of c) P → P.side ≡ Finite
      → HasValuation (setting_of c) P z (pos 0) ⊎ Any (λ Q. IsSamePlace (setting_of c) Q P) ps)
  values_finitely_many some z y inverse =
      let r = finitely_many c some z y inverse in (
        r.0,
        λ P h e.
            by_side (λ P. IsPlace (setting_of c) P → HasValuation (setting_of c) P z (pos 0)
            ⊎ Any (λ Q. IsSamePlace (setting_of c) Q P) r.0)
            (λ gs h. r.1 gs h) P.side P.generators e h,
      )

  pub regular_functions : (z : FunctionOf c) → ¬ (discriminant c ≡ (polynomials k).𝟘)
      → ((P : Place (FunctionOf c)) → IsPlace (setting_of c) P → P.side ≡ Finite
      → HasValuationAtLeast (setting_of c) P z (pos 0)) ↔ Int c z
  regular_functions z some = (
    λ f. regular_is_integral c some z (λ gs h. f (finite c gs) h refl),
    λ m P h e.
        by_side (λ P. IsPlace (setting_of c) P → HasValuationAtLeast (setting_of c) P z (pos 0))
        (λ gs h. record {
          factor = (ring_of c).𝟙;
          integral = (integral_subring c).one_in;
          outside = h.proper;
          product = (integral_subring c).product_in _ z (integral_subring c).one_in m;
        }) P.side P.generators e h,
  )
