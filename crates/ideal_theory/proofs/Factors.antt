-- Each polynomial other than 0 divides a product of irreducible polynomials.
use Rattle.std.proofs.Common.{◌≡◌, ◌⊎◌, inl, inr, ℕ, zero, suc, ◌<◌, ◌≤◌, List, [], ◌∷◌, length, All, sym, ◌∙◌, ap, subst, arith}
use Rattle.std.proofs.lemmas.List.{length-map}
use Rattle.std.proofs.lemmas.List.Elements.{All-nil, All-cons}
use Rattle.ring_lemmas.specs.Lists.{coeff_of}
use Rattle.ring_lemmas.proofs.Ring.{mul_zero}
use Rattle.ring_lemmas.specs.Polynomials.{constant}
use Rattle.ring_theory.proofs.Evaluate.{constant_hom}
use Rattle.ring_theory.proofs.Polynomials.{length_product}
use Rattle.linear_theory.specs.Euclidean.{IsDivisorIn}
use Rattle.ff_fields.specs.Field.{CodeField}
use Rattle.ff_fields.specs.Code.{code_ring, code_domain}
use Rattle.ff_poly.specs.Words.{IsIrreducibleList}
use Rattle.ff_poly.specs.Polynomials.{Polynomial, polynomials, codes_of}
use Rattle.function_field.specs.Functions.{Equation}
use Rattle.trace_theory.specs.Traces.{polynomial_product}
use Rattle.polynomial_theory.proofs.Lengths.{some_long}
use Rattle.polynomial_theory.proofs.Irreducible.{irreducible_some}
use Rattle.lattice_theory.proofs.Bases.{monic_multiple}
use Rattle.order_theory.proofs.Degrees.{constant_of}
use Rattle.order_theory.proofs.InvertibleIdeals.{divisor_of, divides_it, divisor_irreducible}
use Rattle.std.proofs.lemmas.Bool.{cases_lt}

module _ {k : CodeField} (c : Equation k) where
  -- irreducible polynomials whose product g divides
  pub record Factors (g : Polynomial k) : Type 0 where
    pub list : List (Polynomial k)
    pub irreducible : All (λ p. IsIrreducibleList k.ops (codes_of k p)) list
    pub divides : IsDivisorIn (polynomials k).ops g (polynomial_product k list)

  factors_below : (n : ℕ) (g : Polynomial k) → ¬ (g ≡ (polynomials k).𝟘) → length g.0 < n → Factors g
  factors_below zero g some l = absurd (omega arith)
  factors_below (suc n) g some l = go (cases_lt 1 (length g.0)) (λ u u_some less. factors_below n u u_some less)
    where
      go : (2 ≤ length g.0) ⊎ (length g.0 ≤ 1)
          → ((u : Polynomial k) → ¬ (u ≡ (polynomials k).𝟘) → length u.0 < n → Factors u) → Factors g
      go (inr short) again =
          let m = monic_multiple k g some in
          let s = m.monic.size in
          let d = m.degree in
          let l = some_long k g some in
          let zero : m.monic.degree ≡ 0 = omega arith in
          let top : coeff_of (code_ring k).ops m.product.0 0 ≡ (code_ring k).𝟙
          = subst (λ n. coeff_of (code_ring k).ops m.product.0 n ≡ (code_ring k).𝟙) zero m.monic.top in
          let one : m.product ≡ (polynomials k).𝟙
          = constant_of c m.product (omega arith) ∙ ap (constant (code_ring k)) top ∙ (constant_hom (code_ring k)).𝟙 in
          record {
            list = [];
            irreducible = All-nil (λ p. IsIrreducibleList k.ops (codes_of k p));
            divides = (m.unit, sym one ∙ m.is ∙ (polynomials k).mul_comm m.unit g);
          }
      go (inl long) again =
          let p = divisor_of k g some long in
          let irr = divisor_irreducible k g some long in
          let d = divides_it k g some long in
          let u_some : ¬ (d.0 ≡ (polynomials k).𝟘) = λ z. some
          (d.1 ∙ ap ((polynomials k).◌⊗◌ p) z ∙ mul_zero (polynomials k).ring p) in
          let e = length_product (code_ring k) (code_domain k) p d.0 (irreducible_some k p irr) u_some in
          let f : length g.0 ≡ length ((polynomials k).◌⊗◌ p d.0).0 = ap (λ q. length q.0) d.1 in
          let p_long : 2 ≤ length p.0 = subst (λ n. 2 ≤ n) (length-map p.0 (λ x. x.0)) irr.not_constant in
          let r = again d.0 u_some (omega (arith, e, f, p_long, l)) in
          record {
            list = p ∷ r.list;
            irreducible = All-cons (λ p. IsIrreducibleList k.ops (codes_of k p)) p r.list irr r.irreducible;
            divides = (
              r.divides.0,
              ap ((polynomials k).◌⊗◌ p) r.divides.1 ∙ sym ((polynomials k).mul_assoc p d.0 r.divides.0)
                  ∙ ap (λ x. (polynomials k).◌⊗◌ x r.divides.0) (sym d.1),
            );
          }

  pub factors : (g : Polynomial k) → ¬ (g ≡ (polynomials k).𝟘) → Factors g
  factors g some = factors_below (suc (length g.0)) g some (omega arith)
