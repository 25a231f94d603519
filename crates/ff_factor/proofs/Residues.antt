-- The product of k[x]/(g) is what the product of the polynomials leaves modulo g.
use Rattle.std.proofs.Common.{◌≡◌, ℕ, ◌-◌, List, ◌∷◌, [], length, refl, ap, ◌∙◌}
use Rattle.ring_lemmas.specs.Ring.{CommRing}
use Rattle.ring_lemmas.specs.Lists.{add_lists, neg_list}
use Rattle.ring_lemmas.proofs.Solver.{ring, reads}
use Rattle.ring_lemmas.proofs.Congruence.{congruent_sym}
use Rattle.ff_fields.specs.Field.{CodeField}
use Rattle.ff_fields.specs.Code.{raw_ring}
use Rattle.ff_poly.specs.Words.{product_of}
use Rattle.ff_poly.specs.PolyOver.{IsOver_difference_of, IsOver_product_of, IsPoly_poly_of}
use Rattle.ff_poly.specs.Value.{value, value_product}
use Rattle.ff_poly.specs.Terms.{value_difference}
use Rattle.ff_poly.specs.Polynomials.{Polynomial, polynomials}
use Rattle.polynomial_theory.proofs.Divisors.{divides_of_divisor}
use Rattle.ff_falg.specs.Algebras.{IsVector}
use Rattle.ff_factor.specs.Quotients.{IsModulus, IsResidue, product_modulo}
use Rattle.ff_factor.specs.QuotientLaws.{product_in, value_product_modulo}

module _ (k : CodeField) (g : List ℕ) (h : IsModulus k.ops g) where
  infixl 65 ◌⊕◌
  infixl 70 ◌⊗◌
  infixr 80 ⊖◌
  open polynomials k use {◌⊕◌, ◌⊗◌, ⊖◌}

  abbrev S : CommRing (Polynomial k)
  S = (polynomials k).ring

  pub product_residue : (a b : List ℕ) → IsVector k.ops (length g - 1) a → IsVector k.ops (length g - 1) b
      → IsResidue k.ops g (product_of k.ops a b) (product_modulo k.ops g a b)
  product_residue a b a_in b_in =
      let r_in = product_in k g h a b a_in.over b_in in
      let p_in = IsOver_product_of k a_in.over b_in.over in
      let c = congruent_sym S (value k g) _ _ (value_product_modulo k g h a b a_in.over b_in) in
      record {
        vector = r_in;
        congruent =
            divides_of_divisor k g _ h.over (IsOver_difference_of k p_in r_in.over)
            (IsPoly_poly_of (add_lists (raw_ring k.ops) (product_of k.ops a b)
            (neg_list (raw_ring k.ops) (product_modulo k.ops g a b)))) (
              c.times,
              value_difference k (product_of k.ops a b) (product_modulo k.ops g a b) p_in r_in.over
                  ∙ ap (λ w. w ⊕ ⊖ value k (product_modulo k.ops g a b))
                  (value_product k a b a_in.over b_in.over ∙ c.differs)
                  ∙ left (value k (product_modulo k.ops g a b)) (value k g ⊗ c.times),
            );
      }
    where
      left : (r m : Polynomial k) → (r ⊕ m) ⊕ ⊖ r ≡ m
      left r m = ring S (r ∷ m ∷ []) λ q x. simp (reads, q, x 0, x 1) (q.equal _ _ refl)
