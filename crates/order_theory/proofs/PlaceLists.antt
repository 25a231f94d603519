-- The finite places over an irreducible polynomial: all of them, each once, with the fundamental equality.
use Rattle.std.proofs.Common.{◌≡◌, List, refl, ap, subst}
use Rattle.std.specs.List.{Any}
use Rattle.prime_theory.specs.Ideals.{SameSet}
use Rattle.prime_theory.specs.Orders.{MaximalAt}
use Rattle.prime_theory.specs.Primes.{Different}
use Rattle.prime_theory.proofs.Compare.{prime_in_system}
use Rattle.ff_fields.specs.Field.{CodeField}
use Rattle.ff_poly.specs.Words.{IsIrreducibleList}
use Rattle.ff_poly.specs.Polynomials.{Polynomial, polynomials, codes_of}
use Rattle.function_field.specs.Places.{IsPlace, IsIn, IsSamePlace}
use Rattle.function_field.specs.Functions.{Equation, FunctionOf, ring_of, of_poly, setting_of}
use Rattle.function_field.specs.Discriminant.{discriminant}
use Rattle.order_theory.specs.Orders.{IsOrder}
use Rattle.order_theory.proofs.IntegralLattice.{integral_lattice, integral_subring}
use Rattle.order_theory.proofs.FinitePlaces.{Int, finite, place_lattice, place_prime}
use Rattle.order_theory.proofs.ReductionAt.{p_in}
use Rattle.order_theory.proofs.PrimesOver.{Index, PrimeOf, prime_is, prime_lattice, family_of, order_generators, primes_at}

module _ {k : CodeField} (c : Equation k) (some : ¬ (discriminant c ≡ (polynomials k).𝟘)) (p : Polynomial k)
    (h : IsIrreducibleList k.ops (codes_of k p)) where
  infixl 65 ◌⊕◌
  infixl 70 ◌⊗◌
  infixr 80 ⊖◌
  open ring_of c use {𝟘, 𝟙, ◌⊕◌, ◌⊗◌, ⊖◌}

  -- the integral functions as an order
  pub integral_order : IsOrder c (Int c)
  integral_order = record { lattice = integral_lattice c some; ring = integral_subring c }

  pub integral_maximal : MaximalAt (ring_of c).ops (of_poly c p) (Int c) (Int c)
  integral_maximal z n m i = m

  abbrev I : Type 0
  I = Index c p h (Int c) integral_order

  abbrev P : Index c p h (Int c) integral_order → FunctionOf c → Type 0
  P = PrimeOf c p h (Int c) integral_order

  pub rows : Index c p h (Int c) integral_order → List (FunctionOf c)
  rows i = (prime_lattice c p h (Int c) integral_order i).generators

  pub members : (i : Index c p h (Int c) integral_order)
      → SameSet (PrimeOf c p h (Int c) integral_order i) (IsIn (setting_of c) (finite c (rows i)))
  unfolding rows
  members i = (prime_lattice c p h (Int c) integral_order i).spanned

  -- each prime is a place
  pub prime_place : (i : Index c p h (Int c) integral_order) → IsPlace (setting_of c) (finite c (rows i))
  prime_place i =
      let 𝓟 = prime_is c p h (Int c) integral_order i in
      record {
        integral = λ z m. 𝓟.ideal.within z ((members i z).1 m);
        ideal = λ z w z_in m. (members i _).0 (𝓟.ideal.scale_in z w z_in ((members i w).1 m));
        proper = λ m. 𝓟.proper ((members i 𝟙).1 m);
        inverse = λ z z_in n.
            let w = 𝓟.invert z z_in (λ m. n ((members i z).0 m)) in (
              w.inverse,
              w.inverse_in,
              subst (IsIn (setting_of c) (finite c (rows i))) (ap (λ x. x ⊕ ⊖ 𝟙) ((ring_of c).mul_comm w.inverse z))
                  ((members i _).0 w.is),
            );
      }

  -- and each place over p is one of them
  pub place_is_listed : (gs : List (FunctionOf c)) (place : IsPlace (setting_of c) (finite c gs))
      → IsIn (setting_of c) (finite c gs) (of_poly c p)
      → Any (λ i. SameSet (P i) (IsIn (setting_of c) (finite c gs)))
      (primes_at c p h (Int c) integral_order integral_maximal).list
  place_is_listed gs place over =
      prime_in_system (ring_of c) (Int c) (integral_subring c) (of_poly c p) (p_in c p h (Int c) integral_order)
      (Index c p h (Int c) integral_order) P
      (family_of c p h (Int c) integral_order integral_maximal) (IsIn (setting_of c) (finite c gs))
      (place_prime c gs place)
      (order_generators c p h (Int c) integral_order (IsIn (setting_of c) (finite c gs)) (place_lattice c gs place))
      (primes_at c p h (Int c) integral_order integral_maximal).list
      (primes_at c p h (Int c) integral_order integral_maximal).system over

  pub same_place : (i : I) (gs : List (FunctionOf c)) → SameSet (P i) (IsIn (setting_of c) (finite c gs))
      → IsSamePlace (setting_of c) (finite c (rows i)) (finite c gs)
  same_place i gs s =
      record { side = refl; members = λ z. (λ m. (s z).0 ((members i z).1 m), λ m. (members i z).0 ((s z).1 m)) }

  pub different : (i j : I) → Different (P i) (P j)
      → ¬ IsSamePlace (setting_of c) (finite c (rows i)) (finite c (rows j))
  different i j d s = d.first_out ((members j d.first).1 ((s.members d.first).0 ((members i d.first).0 d.first_in)))
