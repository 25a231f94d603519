-- Terms give one equation, and one fault at most, which excludes the curve.
use Rattle.std.proofs.Common.{◌≡◌, ◌≢◌, ℕ, zero, suc, ◌+◌, ◌-◌, ◌*◌, ◌<◌, ◌≤◌, ◌⊎◌, inl, inr, true≢false, eq-eqb, List, [], ◌∷◌, length, get_or, refl, sym, ap, ap₂, subst, ◌∙◌, arith}
use Rattle.std.proofs.lemmas.Bool.{cases_lt}
use Rattle.std.proofs.lemmas.List.{same_lists}
use Rattle.ring_lemmas.specs.Lists.{IsTrimmed}
use Rattle.ff_fields.specs.Field.{FieldOps, CodeField}
use Rattle.ff_fields.specs.Code.{is_zero_code}
use Rattle.ff_fields.specs.Over.{IsOver_nil}
use Rattle.ff_poly.specs.Value.{same_from_value}
use Rattle.ff_poly.specs.Polynomials.{value_nil}
use Rattle.ff_algebra.specs.declared.curve.CurveFault.{CurveFault}
use Rattle.ff_algebra.specs.declared.curve.CurveFault.TheVariants.{LimitY, LimitX, NotMonic, NotSeparable, LimitDisc, LimitInf, Memory}
use Rattle.function_field.specs.Values.{PresValue, equation_of}
use Rattle.function_field.specs.Infinity.{IsInfinityNumber}
use Rattle.function_field.specs.Discriminant.{discriminant}
use Rattle.function_field.specs.Curves.{CurveValue, IsDiscriminant}
use Rattle.ff_algebra.specs.CurveTerms.{degree_in_y, degree_in_x, IsSmallInY, IsSmall, IsCoefficient, IsEquationOf, IsSmallEquation, IsCurveOf, IsCurveFault}
use Rattle.ff_algebra.proofs.CurveTerms.{read_any}

-- ---- polynomials with the same codes

some_code : (a : List ℕ) → IsTrimmed is_zero_code a → ¬ (a ≡ []) → ((j : ℕ) → get_or a j 0 ≡ 0) → ⊥
some_code [] t n h = n refl
some_code (c ∷ []) t n h = true≢false (sym (eq-eqb c 0 (h 0)) ∙ t)
some_code (c ∷ d ∷ w) t n h = some_code (d ∷ w) t (λ e. cc) (λ j. h (suc j))

trimmed_tail : (c : ℕ) (a : List ℕ) → IsTrimmed is_zero_code (c ∷ a) → IsTrimmed is_zero_code a
trimmed_tail c [] t = tt
trimmed_tail c (d ∷ a) t = t

pub same_codes : (a b : List ℕ) → IsTrimmed is_zero_code a → IsTrimmed is_zero_code b
    → ((j : ℕ) → get_or a j 0 ≡ get_or b j 0) → a ≡ b
same_codes [] [] s t h = refl
same_codes [] (d ∷ b) s t h = absurd (some_code (d ∷ b) t (λ e. cc) (λ j. sym (h j)))
same_codes (c ∷ a) [] s t h = absurd (some_code (c ∷ a) s (λ e. cc) h)
same_codes (c ∷ a) (d ∷ b) s t h =
    ap₂ (λ x xs. x ∷ xs) (h 0) (same_codes a b (trimmed_tail c a s) (trimmed_tail d b t) (λ j. h (suc j)))

pub same_pres : (p q : PresValue) → p.n ≡ q.n → p.coeffs ≡ q.coeffs → p ≡ q
same_pres p q e d = λ i. record { n = e i; coeffs = d i }

same_number : (p : PresValue) (c d : ℕ) → IsInfinityNumber p c → IsInfinityNumber p d → c ≡ d
same_number p c d h g = go (cases_lt c d) (cases_lt d c)
  where
    go : (c < d) ⊎ (d ≤ c) → (d < c) ⊎ (c ≤ d) → c ≡ d
    go (inl less) other = absurd (g.least c less h.enough)
    go (inr le) (inl less) = absurd (h.least d less g.enough)
    go (inr le) (inr ge) = omega arith

module _ (k : FieldOps) (f : List (ℕ × ℕ × ℕ)) where
  same_coefficient : (i : ℕ) (p q : List ℕ) → IsCoefficient k f i p → IsCoefficient k f i q → p ≡ q
  same_coefficient i p q h g = same_codes p q h.poly.trimmed g.poly.trimmed (λ j. h.codes j ∙ sym (g.codes j))

  -- terms have one equation
  pub same_equation : (p q : PresValue) → IsEquationOf k f p → IsEquationOf k f q → p ≡ q
  same_equation p q h g =
      same_pres p q degrees
      (same_lists p.coeffs q.coeffs (h.one_each ∙ degrees ∙ sym g.one_each) (λ i d less.
      let p_in : i < p.n = omega (arith, h.one_each) in
      let q_in : i < q.n = omega (arith, degrees) in
      read_any p.coeffs i d [] less
      ∙ same_coefficient i (get_or p.coeffs i []) (get_or q.coeffs i []) (h.coefficients i p_in) (g.coefficients i q_in)
      ∙ read_any q.coeffs i [] d (omega (arith, g.one_each))))
    where
      degrees : p.n ≡ q.n
      degrees = h.degree ∙ sym g.degree

module _ (k : CodeField) (f : List (ℕ × ℕ × ℕ)) where
  -- and one discriminant
  same_disc : (p q : PresValue) (a b : List ℕ) → IsEquationOf k.ops f p → IsEquationOf k.ops f q → IsDiscriminant k p a
      → IsDiscriminant k q b → a ≡ b
  same_disc p q a b h g a_is b_is =
      same_from_value k a b a_is.over b_is.over a_is.poly b_is.poly
      (a_is.value ∙ ap (λ q. discriminant (equation_of k q)) (same_equation k.ops f p q h g) ∙ sym b_is.value)

  same_number_at : (p q : PresValue) (c d : ℕ) → IsEquationOf k.ops f p → IsEquationOf k.ops f q → IsInfinityNumber p c
      → IsInfinityNumber q d → c ≡ d
  same_number_at p q c d h g c_is d_is = same_number p c d c_is
      (subst (λ w. IsInfinityNumber w d) (same_equation k.ops f q p g h) d_is)

  same_product : (p q : PresValue) (c d : ℕ) → IsEquationOf k.ops f p → IsEquationOf k.ops f q → IsInfinityNumber p c
      → IsInfinityNumber q d → c * p.n * (p.n - 1) ≡ d * q.n * (q.n - 1)
  same_product p q c d h g c_is d_is =
      ap₂ (λ c (p : PresValue). c * p.n * (p.n - 1)) (same_number_at p q c d h g c_is d_is)
      (same_equation k.ops f p q h g)

  -- what is asked of the terms, one thing after another
  abbrev Stage : ℕ → Type 0
  Stage zero = IsSmallInY f
  Stage (suc zero) = degree_in_x f ≤ 32
  Stage (suc (suc zero)) = IsCoefficient k.ops f (degree_in_y f) (1 ∷ [])
  Stage (suc (suc (suc zero))) = (q : PresValue) (a : List ℕ) → IsEquationOf k.ops f q → IsDiscriminant k q a → a ≢ []
  Stage (suc (suc (suc (suc zero)))) = (q : PresValue) (a : List ℕ) → IsEquationOf k.ops f q → IsDiscriminant k q a
      → length a ≤ 65
  Stage (suc (suc (suc (suc (suc s))))) = (q : PresValue) (c : ℕ) → IsEquationOf k.ops f q → IsInfinityNumber q c
      → c * q.n * (q.n - 1) ≤ 224

  first_two : IsSmall f → (s : ℕ) → s < 2 → Stage s
  first_two h zero less = h.0
  first_two h (suc zero) less = h.1
  first_two h (suc (suc s)) less = absurd (omega arith)

  first_three : (q : PresValue) → IsSmallEquation k.ops f q → (s : ℕ) → s < 3 → Stage s
  first_three q h zero less = h.small.0
  first_three q h (suc zero) less = h.small.1
  first_three q h (suc (suc zero)) less = subst (λ n. IsCoefficient k.ops f n (1 ∷ [])) h.equation.degree
      h.equation.monic
  first_three q h (suc (suc (suc s))) less = absurd (omega arith)

  module _ (q : PresValue) (h : IsSmallEquation k.ops f q) (a : List ℕ) (a_is : IsDiscriminant k q a) where
    first_four : a ≢ [] → (s : ℕ) → s < 4 → Stage s
    first_four some zero less = h.small.0
    first_four some (suc zero) less = h.small.1
    first_four some (suc (suc zero)) less = first_three q h 2 (omega arith)
    first_four some (suc (suc (suc zero))) less = λ p b g b_is none. some
        (same_disc q p a b h.equation g a_is b_is ∙ none)
    first_four some (suc (suc (suc (suc s)))) less = absurd (omega arith)

    first_five : a ≢ [] → length a ≤ 65 → (s : ℕ) → s < 5 → Stage s
    first_five some short zero less = h.small.0
    first_five some short (suc zero) less = h.small.1
    first_five some short (suc (suc zero)) less = first_three q h 2 (omega arith)
    first_five some short (suc (suc (suc zero))) less = first_four some 3 (omega arith)
    first_five some short (suc (suc (suc (suc zero)))) less = λ p b g b_is. let
        e = ap length (same_disc q p a b h.equation g a_is b_is) in omega (arith, e)
    first_five some short (suc (suc (suc (suc (suc s))))) less = absurd (omega arith)

  some_from_length : (a : List ℕ) (d : ℕ) → length a ≡ d + 1 → a ≢ []
  some_from_length a d size none = let e = ap length none in omega (arith, e, size)

  -- the stage that a fault fails at
  abbrev rank : CurveFault → ℕ
  rank (LimitY n) = 0
  rank (LimitX d) = 1
  rank (NotMonic p) = 2
  rank NotSeparable = 3
  rank (LimitDisc d) = 4
  rank (LimitInf d) = 5
  rank Memory = 6

  record FailsAt (r : ℕ) : Type 0 where
    passed : (s : ℕ) → s < r → Stage s
    failed : ¬ Stage r

  fails : (e : CurveFault) → e ≢ Memory → IsCurveFault k f e → FailsAt (rank e)
  fails (LimitY n) some h = record { passed = λ s less. absurd (omega arith); failed = h.1 }
  fails (LimitX d) some h = record {
    passed = λ s less. (let e : s ≡ 0 = omega arith in subst Stage (sym e) h.0);
    failed
        = λ le. omega (arith, h.1, h.2, le);
  }
  fails (NotMonic p) some h = record {
    passed = first_two h.0;
    failed = λ one. h.2
        (same_coefficient k.ops f (degree_in_y f) p (1 ∷ []) h.1 one);
  }
  fails NotSeparable some h = record {
    passed = first_three h.pres h.equation;
    failed = λ all. all h.pres [] h.equation.equation
        (record { poly = record { trimmed = tt }; over = IsOver_nil; value = value_nil k ∙ sym h.zero }) refl;
  }
  fails (LimitDisc d) some h = record {
    passed = first_four h.pres h.equation h.disc h.is_disc (some_from_length h.disc d h.degree);
    failed = λ all. (let le = all h.pres h.disc h.equation.equation h.is_disc in omega (arith, le, h.degree, h.above));
  }
  fails (LimitInf d) some h = record {
    passed = first_five h.pres h.equation h.disc h.is_disc h.separable h.disc_degree;
    failed = λ all. (let le = all h.pres h.c h.equation.equation h.number in omega (arith, le, h.value, h.above));
  }
  fails Memory some h = absurd (some refl)

  -- faults of one stage are the same
  same_rank : (e d : CurveFault) → rank e ≡ rank d → IsCurveFault k f e → IsCurveFault k f d → e ≡ d
  same_rank (LimitY n) (LimitY m) same h g = ap LimitY (h.0 ∙ sym g.0)
  same_rank (LimitX n) (LimitX m) same h g = ap LimitX (h.1 ∙ sym g.1)
  same_rank (NotMonic p) (NotMonic q) same h g = ap NotMonic (same_coefficient k.ops f (degree_in_y f) p q h.1 g.1)
  same_rank NotSeparable NotSeparable same h g = refl
  same_rank (LimitDisc n) (LimitDisc m) same h g =
      let e = ap length (same_disc h.pres g.pres h.disc g.disc h.equation.equation g.equation.equation h.is_disc
      g.is_disc) in
      let d : n ≡ m = omega (arith, e, h.degree, g.degree) in ap LimitDisc d
  same_rank (LimitInf n) (LimitInf m) same h g =
      ap LimitInf (h.value ∙ same_product h.pres g.pres h.c g.c h.equation.equation g.equation.equation h.number
      g.number ∙ sym g.value)
  same_rank Memory Memory same h g = refl
  same_rank e d same h g = absurd (omega arith)

  -- there is one fault at most
  pub one_fault : (e d : CurveFault) → e ≢ Memory → d ≢ Memory → IsCurveFault k f e → IsCurveFault k f d → e ≡ d
  one_fault e d e_some d_some h g = go (cases_lt (rank e) (rank d)) (cases_lt (rank d) (rank e))
    where
      go : (rank e < rank d) ⊎ (rank d ≤ rank e) → (rank d < rank e) ⊎ (rank e ≤ rank d) → e ≡ d
      go (inl less) other = absurd ((fails e e_some h).failed ((fails d d_some g).passed (rank e) less))
      go (inr le) (inl less) = absurd ((fails d d_some g).failed ((fails e e_some h).passed (rank d) less))
      go (inr le) (inr ge) = let same : rank e ≡ rank d = omega arith in same_rank e d same h g

  all_stages : (c : CurveValue) → IsCurveOf k f c → (s : ℕ) → Stage s
  all_stages c h zero = h.equation.small.0
  all_stages c h (suc zero) = h.equation.small.1
  all_stages c h (suc (suc zero)) = first_three c.fin h.equation 2 (omega arith)
  all_stages c h (suc (suc (suc zero))) = first_four c.fin h.equation c.disc h.curve.disc h.curve.separable 3
      (omega arith)
  all_stages c h (suc (suc (suc (suc zero)))) = first_five c.fin h.equation c.disc h.curve.disc h.curve.separable
      h.curve.disc_degree 4 (omega arith)
  all_stages c h (suc (suc (suc (suc (suc s))))) = λ q d g number.
      let e = same_product c.fin q c.c d h.equation.equation g h.curve.infinite.number number in
      let le = h.curve.disc_at_infinity in
      omega (arith, e, le)

  -- and none where there is a curve
  pub no_fault : (e : CurveFault) (c : CurveValue) → e ≢ Memory → IsCurveFault k f e → ¬ IsCurveOf k f c
  no_fault e c some h g = (fails e some h).failed (all_stages c g (rank e))

  -- curves of the same terms have the same equation, discriminant and infinity number
  pub same_parts : (c d : CurveValue) → IsCurveOf k f c → IsCurveOf k f d
      → (c.fin ≡ d.fin) × (c.disc ≡ d.disc) × (c.c ≡ d.c)
  same_parts c d h g = (
    same_equation k.ops f c.fin d.fin h.equation.equation g.equation.equation,
    same_disc c.fin d.fin c.disc d.disc h.equation.equation g.equation.equation h.curve.disc g.curve.disc,
    same_number_at c.fin d.fin c.c d.c h.equation.equation g.equation.equation h.curve.infinite.number
        g.curve.infinite.number,
  )
