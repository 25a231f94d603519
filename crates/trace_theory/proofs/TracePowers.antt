-- The trace of a q-th power is the q-th power of the trace.
use Rattle.std.proofs.Common.{◌≡◌, ℕ, zero, suc, [], ◌∷◌, refl, sym, ◌∙◌, ap, ap₂}
use Rattle.ring_lemmas.specs.Ring.{CommRing, pow}
use Rattle.ring_lemmas.specs.Rows.{Row, row_scale}
use Rattle.ring_lemmas.proofs.Ring.{mul_pow, pow_one_base, eq_of_sub, domain_cancel, product_not_zero}
use Rattle.ring_lemmas.proofs.Solver.{ring, reads, from_one}
use Rattle.ff_fields.specs.Field.{CodeField}
use Rattle.ff_poly.specs.Polynomials.{Polynomial, polynomials_domain}
use Rattle.function_field.specs.Functions.{Equation, row_of}
use Rattle.polynomial_theory.proofs.Lengths.{zero_of_multiples}
use Rattle.trace_theory.proofs.Determinants.{Near, image_power}
use Rattle.trace_theory.proofs.Norms.{norm, norm_power, norm_near}
use Rattle.trace_theory.proofs.FunctionTraces.{K, R, Tr, row_of_times}
use Rattle.trace_theory.proofs.Powers.{q, size_less, polynomial_power_add, row_power_add, row_hom}

module _ {k : CodeField} (c : Equation k) where
  infixl 65 ◌⊕◌
  infixl 70 ◌⊗◌
  infixr 80 ⊖◌
  open K c use {𝟘, 𝟙, ◌⊕◌, ◌⊗◌, ⊖◌}

  abbrev P : CommRing (Polynomial k)
  P = K c

  -- 1 + a·v
  near_row : Polynomial k → Row (Polynomial k) (suc c.lower_degree) → Row (Polynomial k) (suc c.lower_degree)
  near_row a v = (R c).◌⊕◌ (R c).𝟙 (row_scale (K c).ops (suc c.lower_degree) a v)

  near_row_power : (a : Polynomial k) (v : Row (Polynomial k) (suc c.lower_degree))
      → pow (R c).ops (near_row a v) (q k) ≡ near_row (pow (K c).ops a (q k)) (pow (R c).ops v (q k))
  unfolding near_row
  near_row_power a v =
      row_power_add c (R c).𝟙 (row_scale (K c).ops (suc c.lower_degree) a v)
      ∙ ap₂ (R c).◌⊕◌ (pow_one_base (R c) (q k))
      (ap (λ u. pow (R c).ops u (q k)) (sym (row_of_times c a v)) ∙ mul_pow (R c) (row_of c a) v (q k)
      ∙ ap (λ u. (R c).◌⊗◌ u (pow (R c).ops v (q k))) (sym (image_power (K c) (R c) (row_of c) (row_hom c) (q k) a))
      ∙ row_of_times c (pow (K c).ops a (q k)) (pow (R c).ops v (q k)))

  norm_near_row : (a : Polynomial k) (v : Row (Polynomial k) (suc c.lower_degree))
      → Near (K c) a (norm (K c) c.lower_degree c.coefficients (near_row a v)) (Tr c v)
  unfolding near_row
  norm_near_row a v = norm_near (K c) c.lower_degree c.coefficients a v

  -- the q-th power of what is near 1
  near_power : (a t r : Polynomial k) → pow P.ops (𝟙 ⊕ a ⊗ t ⊕ a ⊗ a ⊗ r) (q k)
      ≡ 𝟙 ⊕ pow P.ops a (q k) ⊗ pow P.ops t (q k) ⊕ pow P.ops a (q k) ⊗ pow P.ops a (q k) ⊗ pow P.ops r (q k)
  near_power a t r =
      polynomial_power_add k _ _
      ∙ ap₂ ◌⊕◌ (polynomial_power_add k _ _ ∙ ap₂ ◌⊕◌ (pow_one_base P (q k)) (mul_pow P a t (q k)))
      (mul_pow P (a ⊗ a) r (q k) ∙ ap (λ x. x ⊗ pow P.ops r (q k)) (mul_pow P a a (q k)))

  -- the difference is a multiple of the q-th power of each a
  difference : (v : Row (Polynomial k) (suc c.lower_degree)) (a : Polynomial k) → ¬ (a ≡ 𝟘)
      → (w : Polynomial k) × (Tr c (pow (R c).ops v (q k)) ⊕ ⊖ pow P.ops (Tr c v) (q k) ≡ a ⊗ w)
  difference v a n =
      let one = norm_near_row a v in
      let all = norm_near_row (pow P.ops a (q k)) (pow (R c).ops v (q k)) in
      let A = pow P.ops a (q k) in
      let T = Tr c (pow (R c).ops v (q k)) in
      let t = pow P.ops (Tr c v) (q k) in
      let r = pow P.ops one.rest (q k) in
      let e : 𝟙 ⊕ A ⊗ T ⊕ A ⊗ A ⊗ all.rest ≡ 𝟙 ⊕ A ⊗ t ⊕ A ⊗ A ⊗ r
      = sym all.is ∙ ap (norm (K c) c.lower_degree c.coefficients) (sym (near_row_power a v))
      ∙ norm_power (K c) c.lower_degree c.coefficients (near_row a v) (q k) ∙ ap (λ x. pow P.ops x (q k)) one.is
      ∙ near_power a (Tr c v) one.rest in (
        pow P.ops a (size_less k) ⊗ (r ⊕ ⊖ all.rest),
        domain_cancel P (polynomials_domain k) A (T ⊕ ⊖ t) (A ⊗ (r ⊕ ⊖ all.rest)) (some (q k)) (step A T t all.rest r e)
            ∙ P.mul_assoc _ _ _,
      )
    where
      some : (m : ℕ) → ¬ (pow P.ops a m ≡ 𝟘)
      some zero = (polynomials_domain k).one_not_zero
      some (suc m) = product_not_zero (polynomials_domain k) a (pow P.ops a m) n (some m)

      step : (A T t r r' : Polynomial k) → 𝟙 ⊕ A ⊗ T ⊕ A ⊗ A ⊗ r ≡ 𝟙 ⊕ A ⊗ t ⊕ A ⊗ A ⊗ r'
          → A ⊗ (T ⊕ ⊖ t) ≡ A ⊗ (A ⊗ (r' ⊕ ⊖ r))
      step A T t r r' e = from_one P 𝟙 e
          (ring P (A ∷ T ∷ t ∷ r ∷ r' ∷ []) λ q h. simp (reads, q, h 0, h 1, h 2, h 3, h 4) (q.equal _ _ refl))

  pub row_trace_power : (v : Row (Polynomial k) (suc c.lower_degree))
      → Tr c (pow (R c).ops v (q k)) ≡ pow P.ops (Tr c v) (q k)
  row_trace_power v = eq_of_sub P _ _ (zero_of_multiples k _ (difference v))
