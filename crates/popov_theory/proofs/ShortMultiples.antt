-- Each element has a multiple in a span in Popov form by a polynomial other than 0 whose degree is at most the pivot
-- degree.
use Rattle.std.proofs.Common.{◌≡◌, ℕ, zero, suc, ◌<◌, ◌≤◌, List, [], ◌∷◌, length, refl, sym, ◌∙◌, ap, arith, subst, le_of_suc-le-suc}
use Rattle.ring_lemmas.specs.Ring.{TestedRing, IsField}
use Rattle.ring_lemmas.specs.Lists.{coeff_of, tail_of}
use Rattle.ring_lemmas.proofs.Lists.{coeff_trim}
use Rattle.ring_lemmas.specs.Polynomials.{Pol, pol_of, pol_ops, constant}
use Rattle.ring_theory.specs.PolynomialRing.{pol_ring}
use Rattle.ring_lemmas.proofs.Polynomials.{same_pol}
use Rattle.ring_theory.proofs.Evaluate.{x_pol, pol_cons, length_trim}
use Rattle.popov_theory.specs.Module.{PolynomialModule}
use Rattle.popov_theory.specs.Span.{row_at, InSpan}
use Rattle.popov_theory.specs.Popov.{IsPopov, pivot_degree}
use Rattle.popov_theory.specs.Basis.{scalar_combine, IsBasisModulo}
use Rattle.popov_theory.proofs.Module.{v_add_zero, v_neg_zero, zero_scale, add_scale, scale_scale}
use Rattle.popov_theory.proofs.Span.{span_submodule, span_zero}
use Rattle.popov_theory.proofs.Triangular.{submodule_subspace}
use Rattle.popov_theory.proofs.BasisLength.{first_sum, ScalarRelation, scalar_relation, scalar_none, gather}
use Rattle.popov_theory.proofs.Dimension.{between, units, basis_whole, dimension_whole}

-- the first n terms of a sequence
abbrev first_terms : {A : Type 0} → ℕ → (ℕ → A) → List A
first_terms zero c = []
first_terms (suc n) c = c zero ∷ first_terms n (tail_of c)

module _ {A : Type 0} (k : TestedRing A) where
  first_length : (n : ℕ) (c : ℕ → A) → length (first_terms n c) ≡ n
  first_length zero c = refl
  first_length (suc n) c = ap suc (first_length n (tail_of c))

  first_at : (n i : ℕ) (c : ℕ → A) → i < n → coeff_of k.ops (first_terms n c) i ≡ c i
  first_at zero i c less = absurd (omega (arith, less))
  first_at (suc n) zero c less = refl
  first_at (suc n) (suc i) c less = first_at n i (tail_of c) (le_of_suc-le-suc less)

  zero_at : (i : ℕ) → coeff_of k.ops (pol_ring k).𝟘.0 i ≡ k.𝟘
  unfolding pol_ops
  zero_at i = refl

  no_terms : pol_of k [] ≡ (pol_ring k).𝟘
  no_terms = same_pol k _ _ (λ n. coeff_trim k [] n ∙ sym (zero_at n))

module _ {A V : Type 0} {k : TestedRing A} (M : PolynomialModule k V) where
  infixl 65 ◌⊞◌
  infixl 70 ◌·◌
  infixr 80 ⊟◌
  open M use {𝟎, ◌⊞◌, ⊟◌, ◌·◌}

  abbrev P : TestedRing (Pol k)
  P = pol_ring k

  -- v, x·v, x²·v and so on
  powers : ℕ → V → List V
  powers zero v = []
  powers (suc n) v = v ∷ powers n (x_pol k · v)

  powers_length : (n : ℕ) (v : V) → length (powers n v) ≡ n
  unfolding powers
  powers_length zero v = refl
  powers_length (suc n) v = ap suc (powers_length n (x_pol k · v))

  -- their combination is a multiple of v
  powers_combine : (n : ℕ) (c : ℕ → A) (v : V) → scalar_combine M c (powers n v) ≡ pol_of k (first_terms n c) · v
  unfolding powers
  powers_combine zero c v = sym (ap (λ p. p · v) (no_terms k) ∙ zero_scale M v)
  powers_combine (suc n) c v =
      let rest = pol_of k (first_terms n (tail_of c)) in
      ap (λ y. constant k (c zero) · v ⊞ y)
      (powers_combine n (tail_of c) (x_pol k · v) ∙ sym (scale_scale M rest (x_pol k) v)
      ∙ ap (λ p. p · v) (P.mul_comm rest (x_pol k)))
      ∙ sym (add_scale M (constant k (c zero)) (P.◌⊗◌ (x_pol k) rest) v)
      ∙ ap (λ p. p · v) (sym (pol_cons k (c zero) (first_terms n (tail_of c))))

  -- a multiple of v in the span by a polynomial other than 0 of at most the pivot degree
  pub record ShortMultiple (rs : List V) (v : V) : Type 0 where
    pub factor : Pol k
    pub some : ¬ (factor ≡ (pol_ring k).𝟘)
    pub short : length factor.0 ≤ suc (pivot_degree M rs)
    pub in_span : InSpan M rs (factor · v)

  module _ (field : IsField k.ops) (rs : List V) (p : IsPopov M rs) (v : V) where
    abbrev g : List V
    g = between M rs (units M)

    b : IsBasisModulo M (λ _. Unit {0}) (InSpan M rs) g
    b = basis_whole M field rs p

    abbrev count : ℕ
    count = suc (pivot_degree M rs)

    abbrev xs : List V
    xs = powers count v

    abbrev a : ℕ → ℕ → A
    a i = b.scalars (row_at M xs i) tt

    r : ScalarRelation k count (length g) a
    r = scalar_relation k field count (length g) (omega (arith, dimension_whole M field rs p)) a

    size : length xs ≡ count
    size = powers_length count v

    written : InSpan M rs (scalar_combine M r.scalars xs)
    written =
        subst (InSpan M rs)
        (ap (λ y. scalar_combine M r.scalars xs ⊞ ⊟ y)
        (scalar_none M g (λ j. first_sum k (λ i. k.◌⊗◌ (r.scalars i) (a i j)) (length xs)) (λ j less.
        ap (first_sum k (λ i. k.◌⊗◌ (r.scalars i) (a i j))) size ∙ r.is j less))
        ∙ ap (λ y. scalar_combine M r.scalars xs ⊞ y) (v_neg_zero M) ∙ v_add_zero M _)
        (gather M field (InSpan M rs) (span_zero M rs) (submodule_subspace M field (InSpan M rs) (span_submodule M rs))
        g xs r.scalars a
        (λ i less. b.spans (row_at M xs i) tt))

    pub short_multiple : ShortMultiple rs v
    short_multiple = record {
      factor = pol_of k (first_terms count r.scalars);
      some = λ e.
          r.some (sym (coeff_trim k (first_terms count r.scalars) r.index ∙ first_at k count r.index r.scalars r.below)
          ∙ ap (λ q. coeff_of k.ops q.0 r.index) e ∙ zero_at k r.index);
      short = omega (arith, length_trim k.is_zero (first_terms count r.scalars), first_length k count r.scalars);
      in_span = subst (InSpan M rs) (powers_combine count r.scalars v) written;
    }
