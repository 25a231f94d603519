-- Two bases over k of one space of functions have the same length.
use Rattle.std.proofs.Common.{◌≡◌, ℕ, zero, suc, ◌<◌, List, [], ◌∷◌, length, map, refl, sym, ◌∙◌, ap, ap₂, arith, All}
use Rattle.std.proofs.lemmas.List.{length-map}
use Rattle.std.proofs.lemmas.List.Elements.{All-nil, All-cons, All-head, All-tail}
use Rattle.ring_lemmas.specs.Lists.{coeff_of}
use Rattle.ring_lemmas.specs.Polynomials.{constant, pol_ops}
use Rattle.ring_lemmas.proofs.Lists.{coeff_trim}
use Rattle.ring_lemmas.proofs.Ring.{mul_zero}
use Rattle.ring_theory.specs.Subsets.{Span}
use Rattle.linear_theory.specs.Fields.{domain_of}
use Rattle.linear_theory.specs.Module.{combine}
use Rattle.linear_theory.specs.Basis.{IsNull, IsBasis}
use Rattle.linear_theory.specs.Lists.{insert, tabulate}
use Rattle.linear_theory.proofs.Bases.{null_subspace}
use Rattle.linear_theory.proofs.Exchange.{bases_same_length}
use Rattle.linear_theory.proofs.Elimination.{length_tabulate}
use Rattle.ff_fields.specs.Field.{CodeField}
use Rattle.ff_fields.specs.Code.{Code, code_ring}
use Rattle.ff_poly.specs.Polynomials.{Polynomial, polynomials, polynomials_domain}
use Rattle.function_field.specs.Functions.{Equation, FunctionOf, ring_of, setting_of, IsCode}
use Rattle.function_field.specs.Divisors.{IsSpaceBasis}
use Rattle.function_field.specs.Indices.{space_ops}
use Rattle.function_field.specs.Spans.{combination}
use Rattle.function_field.proofs.OnSide.{of_poly_zero}
use Rattle.lattice_theory.proofs.Indices.{codes, code_of, space}
use Rattle.order_theory.proofs.Degrees.{code_is, code_at}
use Rattle.trace_theory.proofs.FunctionTraces.{polynomial_value}

module _ {k : CodeField} (c : Equation k) where
  infixl 65 ◌⊕◌
  infixl 70 ◌⊗◌
  open ring_of c use {𝟘, 𝟙, ◌⊕◌, ◌⊗◌}

  -- a code that is 0 as a function is 0
  code_zero : (a : Code k) → code_of c a ≡ 𝟘 → a ≡ (code_ring k).𝟘
  unfolding pol_ops
  code_zero a e =
      sym (coeff_trim (code_ring k) (a ∷ []) 0)
      ∙ ap (λ (q : Polynomial k). coeff_of (code_ring k).ops q.0 0)
      (polynomial_value c (constant (code_ring k) a) (polynomials k).𝟘 (polynomials k).𝟙
      (polynomials_domain k).one_not_zero (e ∙ of_poly_zero c)
      ∙ mul_zero (polynomials k).ring (polynomials k).𝟙)

  listed : (f : ℕ → Code k) (ws : List (FunctionOf c))
      → combine (space_ops c) f ws ≡ combination (ring_of c).ops (map (code_of c) (tabulate (length ws) f)) ws
  listed f [] = refl
  listed f (w ∷ ws) = ap (λ x. code_of c (f 0) ⊗ w ⊕ x) (listed (λ i. f (suc i)) ws)

  all_codes : (n : ℕ) (f : ℕ → Code k) → All (IsCode c) (map (code_of c) (tabulate n f))
  all_codes zero f = All-nil (IsCode c)
  all_codes (suc n) f = All-cons (IsCode c) _ _ (code_is c (f 0)) (all_codes n (λ i. f (suc i)))

  all_zero : (n : ℕ) (f : ℕ → Code k) → All (λ z. z ≡ 𝟘) (map (code_of c) (tabulate n f)) → (i : ℕ) → i < n
      → f i ≡ (code_ring k).𝟘
  all_zero zero f h i l = absurd (omega arith)
  all_zero (suc n) f h zero l =
      code_zero (f 0) (All-head (λ z. z ≡ 𝟘) _ (map (code_of c) (tabulate n (λ i. f (suc i)))) h)
  all_zero (suc n) f h (suc i) l =
      all_zero n (λ i. f (suc i)) (All-tail (λ z. z ≡ 𝟘) _ (map (code_of c) (tabulate n (λ i. f (suc i)))) h) i
      (omega arith)

  in_sequence : (ws : List (FunctionOf c)) (z : FunctionOf c) → Span (ring_of c).ops (IsCode c) ws z
      → (f : ℕ → Code k) × (z ≡ combine (space_ops c) f ws)
  in_sequence [] z h = (λ i. (code_ring k).𝟘, h)
  in_sequence (w ∷ ws) z h =
      let a = code_at c h.scalar h.scalar_in in
      let r = in_sequence ws h.rest h.rest_in in
      (insert 0 a.0 r.0, h.is ∙ ap₂ (λ x y. x ⊗ w ⊕ y) a.1 r.1)

  pub basis_of_codes : (W : FunctionOf c → Type 0) (ws : List (FunctionOf c)) → IsSpaceBasis (setting_of c) W ws
      → IsBasis (code_ring k).ops (space_ops c) (IsNull (space_ops c)) W ws
  basis_of_codes W ws b = record {
    members_in = b.members;
    spanning = λ z z_in.
        let s = in_sequence ws z (b.spanning z z_in) in
        record { coefficient = s.0; rest = 𝟘; rest_in = refl; is = s.1 ∙ sym ((ring_of c).add_zero _) };
    independent = λ f h i l.
        all_zero (length ws) f
        (b.independent (map (code_of c) (tabulate (length ws) f))
        (length-map (tabulate (length ws) f) (code_of c) ∙ length_tabulate (length ws) f) (all_codes (length ws) f)
        (sym (listed f ws) ∙ h)) i l;
  }

  pub bases_length : (W : FunctionOf c → Type 0) (vs ws : List (FunctionOf c)) → IsSpaceBasis (setting_of c) W vs
      → IsSpaceBasis (setting_of c) W ws → length vs ≡ length ws
  bases_length W vs ws a b =
      bases_same_length (domain_of (codes k)) (space c) (IsNull (space_ops c))
      (null_subspace (codes k) (space c)) W vs ws (basis_of_codes W vs a) (basis_of_codes W ws b)
