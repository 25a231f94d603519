-- The irreducible divisors of a product are those of its factors.
use Rattle.std.proofs.Common.{◌⊎◌, inl, inr, ℕ, List, [], ◌∷◌, ◌++◌, subst}
use Rattle.std.proofs.lemmas.List.Elements.{All-append}
use Rattle.ring_theory.specs.Members.{In}
use Rattle.ff_fields.specs.Field.{CodeField}
use Rattle.ff_fields.specs.Over.{IsOver}
use Rattle.linear_theory.specs.Euclidean.{IsDivisorIn}
use Rattle.ff_poly.specs.Words.{IsPoly, IsIrreducibleList, product_of}
use Rattle.ff_poly.specs.Value.{value, value_product}
use Rattle.ff_poly.specs.Polynomials.{polynomials}
use Rattle.polynomial_theory.proofs.Divisors.{divisor_of_divides, divides_of_divisor}
use Rattle.polynomial_theory.proofs.Irreducible.{prime_list}
use Rattle.ff_poly.proofs.Parts.{IsPoly_multiple_of}
use Rattle.ff_factor.specs.Factors.{FactorsValue, IsFactorisation, product_of_parts}
use Rattle.ff_factor.specs.LowestTerms.{AreIrreducible, HasFactorsOf}

in_left : (p : List ℕ) (ps qs : List (List ℕ)) → In p ps → In p (ps ++ qs)
in_left p [] qs i = elim i [ ]
in_left p (q ∷ ps) qs (inl e) = inl e
in_left p (q ∷ ps) qs (inr i) = inr (in_left p ps qs i)

in_right : (p : List ℕ) (ps qs : List (List ℕ)) → In p qs → In p (ps ++ qs)
in_right p [] qs i = i
in_right p (q ∷ ps) qs i = inr (in_right p ps qs i)

module _ (k : CodeField) where
  -- a polynomial that has a factorisation has no zero on top
  pub factored_poly : (g : List ℕ) (f : FactorsValue) → IsFactorisation k.ops g f → IsPoly g
  factored_poly g f h = subst IsPoly h.product (IsPoly_multiple_of k.ops (product_of_parts k.ops f.parts) f.unit)

  pub both_irreducible : (ps qs : List (List ℕ)) → AreIrreducible k.ops ps → AreIrreducible k.ops qs
      → AreIrreducible k.ops (ps ++ qs)
  both_irreducible ps qs h j = record {
    over = All-append (IsOver k.ops) ps qs h.over j.over;
    irreducible = All-append (IsIrreducibleList k.ops) ps qs h.irreducible j.irreducible;
  }

  pub product_divisors : (a b : List ℕ) (ps qs : List (List ℕ)) → IsOver k.ops a → IsPoly a → IsOver k.ops b → IsPoly b
      → HasFactorsOf k.ops ps a → HasFactorsOf k.ops qs b
      → HasFactorsOf k.ops (ps ++ qs) (product_of k.ops a b)
  product_divisors a b ps qs a_in a_poly b_in b_poly left right p p_in p_irreducible d =
      go (prime_list k p p_in p_irreducible (value k a) (value k b)
      (subst (IsDivisorIn (polynomials k).ops (value k p)) (value_product k a b a_in b_in)
      (value k d.quotient, divisor_of_divides k p (product_of k.ops a b) p_in d)))
    where
      go : IsDivisorIn (polynomials k).ops (value k p) (value k a)
          ⊎ IsDivisorIn (polynomials k).ops (value k p) (value k b) → In p (ps ++ qs)
      go (inl e) = in_left p ps qs (left p p_in p_irreducible (divides_of_divisor k p a p_in a_in a_poly e))
      go (inr e) = in_right p ps qs (right p p_in p_irreducible (divides_of_divisor k p b p_in b_in b_poly e))
