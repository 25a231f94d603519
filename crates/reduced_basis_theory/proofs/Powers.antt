-- Powers of the variable: polynomials of each degree.
use Rattle.std.proofs.Common.{◌≡◌, ℕ, zero, suc, ◌<◌, [], ◌∷◌, length, pos, sym, ◌∙◌, ap, arith}
use Rattle.std.proofs.lemmas.Int.{ints}
use Rattle.ring_lemmas.specs.Ring.{TestedRing, IsField, pow}
use Rattle.ring_lemmas.proofs.Ring.{field_domain}
use Rattle.ring_lemmas.proofs.Lists.{coeff_trim}
use Rattle.ring_lemmas.specs.Polynomials.{Pol}
use Rattle.ring_theory.specs.PolynomialRing.{pol_ring}
use Rattle.ring_lemmas.proofs.Polynomials.{length_from_top}
use Rattle.reduced_basis_theory.specs.Degree.{degree}
use Rattle.reduced_basis_theory.specs.Reduced.{variable}
use Rattle.reduced_basis_theory.proofs.Degree.{length_product, length_zero}
use Rattle.reduced_basis_theory.proofs.Constants.{series}
use Rattle.reduced_basis_theory.proofs.Count.{length_one}

module _ {C : Type 0} (k : TestedRing C) (field : IsField k.ops) where
  abbrev s : TestedRing (Pol k)
  s = pol_ring k

  pub length_variable : length (variable k).0 ≡ 2
  length_variable =
      length_from_top k (variable k).0 1 (variable k).1
      (λ e. field.one_not_zero (sym (coeff_trim k (k.𝟘 ∷ k.𝟙 ∷ []) 1) ∙ e)) past
    where
      past : (i : ℕ) → 1 < i → series k (variable k) i ≡ k.𝟘
      past zero h = absurd (omega arith)
      past (suc zero) h = absurd (omega arith)
      past (suc (suc j)) h = coeff_trim k (k.𝟘 ∷ k.𝟙 ∷ []) (suc (suc j))

  -- x^j
  abbrev pub power : ℕ → Pol k
  power j = pow s.ops (variable k) j

  pub length_power : (j : ℕ) → length (power j).0 ≡ suc j
  length_power zero = length_one k field
  length_power (suc j) =
      let a = length_variable in
      let b = length_power j in
      omega (arith, length_product k (field_domain k.ring field) (variable k) (power j) (omega arith) (omega arith))

  pub degree_power : (j : ℕ) → degree k (power j) ≡ pos j
  degree_power j = let e = length_power j in omega (arith, ints)

  pub power_nonzero : (j : ℕ) → ¬ (power j ≡ s.𝟘)
  power_nonzero j e =
      let a = length_power j in
      let b : length (power j).0 ≡ 0 = ap (λ p. length p.0) e ∙ length_zero k (field_domain k.ring field) in
      omega arith
