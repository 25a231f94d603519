-- Rows whose measures are different, and are the measures of N that are not leading for a span, are a basis of N modulo
-- it.
use Rattle.std.proofs.Common.{◌≡◌, ◌≢◌, ℕ, zero, suc, ◌<◌, ◌≤◌, ◌*◌, ◌⊎◌, inl, inr, Bool, true, false, cond, List, [], ◌∷◌, length, refl, sym, ◌∙◌, ap, ap₂, arith, subst, eq-or-lt_of_le}
use Rattle.ring_lemmas.specs.Ring.{TestedRing, IsField, IsDomain}
use Rattle.ring_lemmas.specs.Lists.{coeff_of, tail_of}
use Rattle.ring_lemmas.proofs.Ring.{field_domain}
use Rattle.ring_lemmas.proofs.Lists.{coeff_trim}
use Rattle.ring_lemmas.specs.Polynomials.{Pol, pol_of, pol_ops}
use Rattle.ring_theory.specs.PolynomialRing.{pol_ring}
use Rattle.ring_lemmas.proofs.Polynomials.{same_pol, series_add}
use Rattle.popov_theory.specs.Module.{PolynomialModule, measure}
use Rattle.popov_theory.specs.Span.{row_at, InSpan, IsSubmodule}
use Rattle.popov_theory.specs.Popov.{IsWeakPopov, Leading}
use Rattle.popov_theory.specs.Basis.{scalar_combine, IsBasisModulo}
use Rattle.popov_theory.proofs.Module.{v_add_zero, v_zero_add, v_add_add, v_neg_add, v_add_neg, v_sub_add, v_add_assoc, v_add_comm, zero_scale, scale_zero, add_scale}
use Rattle.popov_theory.proofs.Measure.{measure_falls, measure_scale, zero_from_measure, zero_or_not}
use Rattle.popov_theory.proofs.Span.{before, span_zero, span_add, span_scale, span_row, sub_in}
use Rattle.popov_theory.proofs.PredictableDegree.{Multiple, multiple, leading, HasNoTies, predict_terms, Predicted}
use Rattle.popov_theory.proofs.Monomials.{Clearing, clearing, scalar_clearing}
use Rattle.popov_theory.proofs.Division.{leading_or_not}

module _ {A : Type 0} (k : TestedRing A) where
  abbrev pub constant : A → Pol k
  constant a = pol_of k (a ∷ [])

  pub constant_zero : constant k.𝟘 ≡ (pol_ring k).𝟘
  unfolding pol_ops
  constant_zero = same_pol k (constant k.𝟘) (pol_ring k).𝟘 (λ n. coeff_trim k (k.𝟘 ∷ []) n ∙ at n)
    where
      at : (n : ℕ) → coeff_of k.ops (k.𝟘 ∷ []) n ≡ k.𝟘
      at zero = refl
      at (suc n) = refl

  pub constant_add : (a b : A) → constant (k.◌⊕◌ a b) ≡ (pol_ring k).◌⊕◌ (constant a) (constant b)
  constant_add a b =
      same_pol k _ _ (λ n.
      coeff_trim k (k.◌⊕◌ a b ∷ []) n ∙ at n
      ∙ sym (series_add k (constant a) (constant b) n ∙ ap₂ k.◌⊕◌ (coeff_trim k (a ∷ []) n) (coeff_trim k (b ∷ []) n)))
    where
      at : (n : ℕ) → coeff_of k.ops (k.◌⊕◌ a b ∷ []) n ≡ k.◌⊕◌ (coeff_of k.ops (a ∷ []) n) (coeff_of k.ops (b ∷ []) n)
      at zero = refl
      at (suc n) = sym (k.add_zero k.𝟘)

  pub constant_length : (a : A) → length (constant a).0 ≤ 1
  constant_length a = go (k.is_zero a)
    where
      go : (b : Bool) → length (cond b [] (a ∷ [])) ≤ 1
      go true = omega arith
      go false = omega arith

  pub constant_some : (a : A) → a ≢ k.𝟘 → length (constant a).0 ≡ 1
  constant_some a some = go (k.is_zero a) refl
    where
      go : (b : Bool) → k.is_zero a ≡ b → length (cond b [] (a ∷ [])) ≡ 1
      go true e = absurd (some (k.zero_from a e))
      go false e = refl

module _ {A V : Type 0} {k : TestedRing A} (M : PolynomialModule k V) where
  infixl 65 ◌⊞◌
  infixl 70 ◌·◌
  infixr 80 ⊟◌
  infixl 65 ◌⊕◌
  open M use {width, 𝟎, ◌⊞◌, ⊟◌, ◌·◌, coef}
  open k use {𝟘, ◌⊕◌}

  -- what was taken away is put back, later
  v_sub_swap : (v t c : V) → (v ⊞ ⊟ t ⊞ ⊟ c) ⊞ t ≡ v ⊞ ⊟ c
  v_sub_swap v t c =
      ap (λ x. x ⊞ t) (v_add_assoc M v (⊟ t) (⊟ c) ∙ ap (λ x. v ⊞ x) (v_add_comm M (⊟ t) (⊟ c))
      ∙ sym (v_add_assoc M v (⊟ c) (⊟ t)))
      ∙ v_sub_add M (v ⊞ ⊟ c) t

  v_sub_sum : (v t c : V) → v ⊞ ⊟ t ⊞ ⊟ c ≡ v ⊞ ⊟ (c ⊞ t)
  v_sub_sum v t c =
      v_add_assoc M v (⊟ t) (⊟ c) ∙ ap (λ x. v ⊞ x) (v_add_comm M (⊟ t) (⊟ c) ∙ sym (v_neg_add M c t))

  -- the combinations with scalars of k
  pub record InScalarSpan (g : List V) (v : V) : Type 0 where
    pub scalars : ℕ → A
    pub is : v ≡ scalar_combine M scalars g

  pub scalar_zero : (g : List V) → scalar_combine M (λ _. 𝟘) g ≡ 𝟎
  scalar_zero [] = refl
  scalar_zero (r ∷ g) = ap₂ ◌⊞◌ (ap (λ c. c · r) (constant_zero k) ∙ zero_scale M r) (scalar_zero g) ∙ v_add_zero M 𝟎

  pub scalar_add : (g : List V) (c d : ℕ → A)
      → scalar_combine M (λ i. c i ⊕ d i) g ≡ scalar_combine M c g ⊞ scalar_combine M d g
  scalar_add [] c d = sym (v_add_zero M 𝟎)
  scalar_add (r ∷ g) c d =
      ap₂ ◌⊞◌ (ap (λ e. e · r) (constant_add k (c zero) (d zero))
      ∙ add_scale M (constant k (c zero)) (constant k (d zero)) r) (scalar_add g (tail_of c) (tail_of d))
      ∙ v_add_add M _ _ _ _

  scalar_row : (g : List V) (i : ℕ) (a : A) → InScalarSpan g (constant k a · row_at M g i)
  scalar_row [] i a = record { scalars = λ _. 𝟘; is = scale_none }
    where
      scale_none : constant k a · 𝟎 ≡ 𝟎
      scale_none = scale_zero M (constant k a)
  scalar_row (r ∷ g) zero a = record {
    scalars = before a (λ _. 𝟘);
    is = sym (ap (λ v. constant k a · r ⊞ v) (scalar_zero g) ∙ v_add_zero M _);
  }
  scalar_row (r ∷ g) (suc i) a =
      let earlier = scalar_row g i a in
      record {
        scalars = before 𝟘 earlier.scalars;
        is =
            earlier.is
            ∙ sym (ap (λ v. v ⊞ scalar_combine M earlier.scalars g) (ap (λ c. c · r) (constant_zero k) ∙ zero_scale M r)
            ∙ v_zero_add M _);
      }

  scalar_span_add : (g : List V) (u v : V) → InScalarSpan g u → InScalarSpan g v → InScalarSpan g (u ⊞ v)
  scalar_span_add g u v u_in v_in = record {
    scalars = λ i. u_in.scalars i ⊕ v_in.scalars i;
    is = ap₂ ◌⊞◌ u_in.is v_in.is ∙ sym (scalar_add g u_in.scalars v_in.scalars);
  }

module _ {A V : Type 0} {k : TestedRing A} (M : PolynomialModule k V) (field : IsField k.ops) where
  infixl 65 ◌⊞◌
  infixl 70 ◌·◌
  infixr 80 ⊟◌
  infixl 65 ◌⊕◌
  infixl 70 ◌⊗◌
  open M use {width, 𝟎, ◌⊞◌, ⊟◌, ◌·◌, coef}
  open k use {𝟘, 𝟙, ◌⊕◌, ◌⊗◌}

  abbrev domain : IsDomain k.ops
  domain = field_domain k.ring field

  -- a subspace over k
  pub record IsSubspace (N : V → Type 0) : Type 0 where
    pub sub_in : (u v : V) → N u → N v → N (u ⊞ ⊟ v)
    pub scalar_in : (a : A) (v : V) → N v → N (constant k a · v)

  pub submodule_subspace : (N : V → Type 0) → IsSubmodule M N → IsSubspace N
  submodule_subspace N 𝓝 = record { sub_in = sub_in M N 𝓝; scalar_in = λ a v v_in. 𝓝.scale_in (constant k a) v v_in }

  -- a list with one row for each measure of N that is not leading for rs
  pub record IsTriangular (rs : List V) (N : V → Type 0) (g : List V) : Type 0 where
    pub members : (i : ℕ) → N (row_at M g i)
    pub some : (i : ℕ) → i < length g → measure M (row_at M g i) ≢ 0
    pub apart : (i j : ℕ) → i < length g → j < length g → i ≢ j → measure M (row_at M g i) ≢ measure M (row_at M g j)
    pub not_leading : (i : ℕ) → i < length g → Leading M rs (measure M (row_at M g i)) → ⊥
    pub covers : (v : V) → N v → measure M v ≢ 0 → (Leading M rs (measure M v) → ⊥)
        → (i : ℕ) × (i < length g) × (measure M (row_at M g i) ≡ measure M v)

  constant_degree : (a : A) (v : V) → (m : Multiple M domain (constant k a) v) → m.degree ≡ 0
  constant_degree a v m = omega (arith, m.size, constant_length k a)

  pub kept_measure : (a : A) (v : V) → measure M (constant k a · v) ≢ 0 → measure M (constant k a · v) ≡ measure M v
  kept_measure a v some =
      let m = multiple M domain (constant k a) v some in
      let none : m.degree * width ≡ 0 * width = ap (λ d. d * width) (constant_degree a v m) in
      omega (arith, m.is, none)

  module _ (rs g : List V) (weak : IsWeakPopov M rs) (N : V → Type 0) (𝓝 : IsSubspace N)
      (within : (v : V) → InSpan M rs v → N v) (t : IsTriangular rs N g) where
    -- what is left when a scalar combination is taken away
    record Written (v : V) : Type 0 where
      combination : V
      combination_in : InScalarSpan M g combination
      left_in : InSpan M rs (v ⊞ ⊟ combination)

    write : (n : ℕ) (v : V) → N v → measure M v ≤ n → Written v
    write zero v v_in le = record {
      combination = 𝟎;
      combination_in = record { scalars = λ _. 𝟘; is = sym (scalar_zero M g) };
      left_in =
          subst (InSpan M rs) (sym (ap (λ u. u ⊞ ⊟ 𝟎) (zero_from_measure M v (omega (arith, le))) ∙ v_add_neg M 𝟎))
          (span_zero M rs);
    }
    write (suc n) v v_in le = go (eq-or-lt_of_le le) (leading_or_not M rs (suc n)) (write n)
      where
        go : (measure M v ≡ suc n) ⊎ (measure M v < suc n) → Leading M rs (suc n) ⊎ (Leading M rs (suc n) → ⊥)
            → ((u : V) → N u → measure M u ≤ n → Written u) → Written v
        go (inr less) either lower = lower v v_in (omega (arith, less))
        go (inl is) (inl l) lower = record {
          combination = w.combination;
          combination_in = w.combination_in;
          left_in =
              subst (InSpan M rs) (v_sub_swap M v taken w.combination)
              (span_add M rs (v ⊞ ⊟ taken ⊞ ⊟ w.combination) taken w.left_in taken_in);
        }
          where
            row : V
            row = row_at M rs l.index

            c : Clearing M field v row n
            c = clearing M field v row n l.times l.some l.is

            taken : V
            taken = c.factor · row

            taken_in : InSpan M rs taken
            taken_in = span_scale M rs c.factor row (span_row M rs l.index)

            w : Written (v ⊞ ⊟ taken)
            w = lower (v ⊞ ⊟ taken) (𝓝.sub_in v taken v_in (within taken taken_in))
                (measure_falls M v taken n le c.ends (sym c.same_top))
        go (inl is) (inr none) lower = record {
          combination = w.combination ⊞ taken;
          combination_in = scalar_span_add M g w.combination taken w.combination_in (scalar_row M g found.0 a.0);
          left_in = subst (InSpan M rs) (v_sub_sum M v taken w.combination) w.left_in;
        }
          where
            found : (i : ℕ) × (i < length g) × (measure M (row_at M g i) ≡ measure M v)
            found = t.covers v v_in (λ z. absurd (omega (arith, z, is))) (λ l. none (subst (Leading M rs) is l))

            row : V
            row = row_at M g found.0

            a : (a : A) × (measure M (constant k a · row) ≤ suc n) × (coef (constant k a · row) n ≡ coef v n)
            a = scalar_clearing M field v row n (found.2 ∙ is)

            taken : V
            taken = constant k a.0 · row

            w : Written (v ⊞ ⊟ taken)
            w = lower (v ⊞ ⊟ taken) (𝓝.sub_in v taken v_in (𝓝.scalar_in a.0 row (t.members found.0)))
                (measure_falls M v taken n le a.1 (sym a.2))

    no_ties : (c : ℕ → A) → HasNoTies M domain (λ i. constant k (c i)) g
    no_ties c = record {
      apart = λ i j i_less j_less differ some e.
          t.apart i j i_less j_less differ (sym (kept i some) ∙ e ∙ kept j (λ z. some (e ∙ z)));
    }
      where
        kept : (i : ℕ) → measure M (constant k (c i) · row_at M g i) ≢ 0
            → measure M (constant k (c i) · row_at M g i) ≡ measure M (row_at M g i)
        kept i some = kept_measure (c i) (row_at M g i) some

    scalars_zero : (c : ℕ → A) → InSpan M rs (scalar_combine M c g) → (i : ℕ) → i < length g → c i ≡ 𝟘
    scalars_zero c c_in i less = go (measure M (scalar_combine M c g)) refl (zero_or_not k (c i))
      where
        predicted : Predicted M domain (λ i. constant k (c i)) g
        predicted = predict_terms M domain g (λ i. constant k (c i)) (no_ties c)

        clash : (measure M (scalar_combine M c g) ≢ 0) → ⊥
        clash some =
            let found = predicted.attained some in
            t.not_leading found.0 found.1
            (subst (Leading M rs) (found.2 ∙ kept_measure (c found.0) (row_at M g found.0) (λ z. some (found.2 ∙ z)))
            (leading M domain rs weak (scalar_combine M c g) c_in some))

        go : (m : ℕ) → measure M (scalar_combine M c g) ≡ m → (c i ≡ 𝟘) ⊎ (c i ≢ 𝟘) → c i ≡ 𝟘
        go m e (inl null) = null
        go (suc m) e (inr c_some) = absurd (clash (λ z. absurd (omega (arith, z, e))))
        go zero e (inr c_some) =
            absurd (t.some i less
            (omega (
              arith,
              predicted.terms i less,
              e,
              measure_scale M domain (constant k (c i)) (row_at M g i) 0 (constant_some k (c i) c_some) (t.some i less),
            )))

    -- they are a basis
    pub triangular_basis : IsBasisModulo M N (InSpan M rs) g
    triangular_basis = record {
      members = t.members;
      scalars = λ v v_in. (write (measure M v) v v_in (omega arith)).combination_in.scalars;
      spans = λ v v_in.
          let w = write (measure M v) v v_in (omega arith) in
          subst (InSpan M rs) (ap (λ u. v ⊞ ⊟ u) w.combination_in.is) w.left_in;
      independent = scalars_zero;
    }
