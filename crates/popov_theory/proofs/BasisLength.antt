-- Two bases over k of a module modulo a subspace have the same length: dimension is well defined.
use Rattle.std.proofs.Common.{◌≡◌, ◌≢◌, ℕ, zero, suc, ◌<◌, ◌≤◌, ◌+◌, ◌*◌, ◌⊎◌, inl, inr, List, [], ◌∷◌, length, refl, sym, ◌∙◌, ap, ap₂, arith, subst, le_of_suc-le-suc}
use Rattle.std.proofs.lemmas.Bool.{cases_lt}
use Rattle.ring_lemmas.specs.Ring.{TestedRing, IsField}
use Rattle.ring_lemmas.specs.Lists.{coeff_of, tail_of}
use Rattle.ring_lemmas.specs.Rows.{Row, entry}
use Rattle.ring_lemmas.proofs.Ring.{mul_zero}
use Rattle.ring_lemmas.proofs.Lists.{coeff_trim}
use Rattle.ring_lemmas.proofs.Sequences.{convolution_comm, convolution_constant_left}
use Rattle.ring_lemmas.specs.Polynomials.{Pol}
use Rattle.ring_theory.specs.PolynomialRing.{pol_ring}
use Rattle.ring_lemmas.proofs.Polynomials.{same_pol, series_mul, coeff_top}
use Rattle.popov_theory.specs.Module.{PolynomialModule}
use Rattle.popov_theory.specs.Span.{row_at, combine}
use Rattle.popov_theory.specs.Basis.{scalar_combine, IsBasisModulo}
use Rattle.popov_theory.proofs.Module.{v_add_zero, v_zero_add, v_add_add, v_add_neg, v_neg_add, v_neg_neg, v_neg_zero, zero_scale, scale_add, scale_scale, scale_zero, scale_neg}
use Rattle.popov_theory.proofs.PopovForm.{tabulate, tabulate_length}
use Rattle.popov_theory.specs.RowModule.{row_module}
use Rattle.popov_theory.proofs.PolynomialRows.{row_width, row_entry}
use Rattle.popov_theory.proofs.PredictableDegree.{empty_pol}
use Rattle.popov_theory.proofs.Relations.{Relation, relation}
use Rattle.popov_theory.proofs.Triangular.{constant, constant_zero, scalar_add, scalar_zero, IsSubspace}

-- f 0 + f 1 and so on, n terms
abbrev pub first_sum : {A : Type 0} (k : TestedRing A) → (ℕ → A) → ℕ → A
first_sum k f zero = k.𝟘
first_sum k f (suc n) = k.◌⊕◌ (f zero) (first_sum k (tail_of f) n)

module _ {A V : Type 0} {k : TestedRing A} (M : PolynomialModule k V) where
  -- the coefficient of a combination is the sum of those of its terms
  coef_tabulated : (e n : ℕ) (f : ℕ → V) (c : ℕ → Pol k)
      → M.coef (combine M c (tabulate n f)) e ≡ first_sum k (λ i. M.coef (M.◌·◌ (c i) (f i)) e) n
  unfolding tabulate
  coef_tabulated e zero f c = M.coef_zero e
  coef_tabulated e (suc n) f c = M.coef_add _ _ e
      ∙ ap (λ x. k.◌⊕◌ (M.coef (M.◌·◌ (c zero) (f zero)) e) x) (coef_tabulated e n (tail_of f) (tail_of c))

module _ {A : Type 0} (k : TestedRing A) where
  infixl 65 ◌⊕◌
  infixl 70 ◌⊗◌
  open k use {𝟘, 𝟙, ◌⊕◌, ◌⊗◌}

  abbrev P : TestedRing (Pol k)
  P = pol_ring k

  first_sum_same : (f g : ℕ → A) (n : ℕ) → ((i : ℕ) → f i ≡ g i) → first_sum k f n ≡ first_sum k g n
  first_sum_same f g zero h = refl
  first_sum_same f g (suc n) h = ap₂ ◌⊕◌ (h zero) (first_sum_same (tail_of f) (tail_of g) n (λ i. h (suc i)))

  constant_at : (a : A) → coeff_of k.ops (constant k a).0 0 ≡ a
  constant_at a = coeff_trim k (a ∷ []) 0

  constant_past : (a : A) (i : ℕ) → coeff_of k.ops (constant k a).0 (suc i) ≡ 𝟘
  constant_past a i = coeff_trim k (a ∷ []) (suc i)

  constant_mul : (a b : A) → constant k (a ⊗ b) ≡ P.◌⊗◌ (constant k a) (constant k b)
  constant_mul a b =
      same_pol k _ _ (λ n.
      at n
      ∙ sym (series_mul k (constant k a) (constant k b) n
      ∙ convolution_constant_left k.ring (coeff_of k.ops (constant k a).0) (coeff_of k.ops (constant k b).0)
      (constant_past a) n
      ∙ ap (λ x. x ⊗ coeff_of k.ops (constant k b).0 n) (constant_at a)))
    where
      at : (n : ℕ) → coeff_of k.ops (constant k (a ⊗ b)).0 n ≡ a ⊗ coeff_of k.ops (constant k b).0 n
      at zero = constant_at (a ⊗ b) ∙ ap (λ x. a ⊗ x) (sym (constant_at b))
      at (suc n) = constant_past (a ⊗ b) n ∙ sym (ap (λ x. a ⊗ x) (constant_past b n) ∙ mul_zero k.ring a)

  row_of : (n : ℕ) → (ℕ → A) → Row (Pol k) n
  row_of zero b = tt
  row_of (suc n) b = (constant k (b zero), row_of n (tail_of b))

  entry_row_of : (n j : ℕ) (b : ℕ → A) → j < n → entry P.ops n j (row_of n b) ≡ constant k (b j)
  unfolding entry row_of
  entry_row_of zero j b less = absurd (omega arith)
  entry_row_of (suc n) zero b less = refl
  entry_row_of (suc n) (suc j) b less = entry_row_of n j (tail_of b) (le_of_suc-le-suc less)

  -- scalars, not all zero, that take rows of c scalars to zero
  pub record ScalarRelation (rows columns : ℕ) (a : ℕ → ℕ → A) : Type 0 where
    pub scalars : ℕ → A
    pub index : ℕ
    pub below : index < rows
    pub some : scalars index ≢ 𝟘
    pub is : (j : ℕ) → j < columns → first_sum k (λ i. scalars i ⊗ a i j) rows ≡ 𝟘

  module _ (field : IsField k.ops) where
    -- more rows than columns have a relation over k
    pub scalar_relation : (rows columns : ℕ) → columns < rows → (a : ℕ → ℕ → A) → ScalarRelation rows columns a
    scalar_relation rows zero less a = record {
      scalars = λ _. 𝟙;
      index = 0;
      below = less;
      some = field.one_not_zero;
      is = λ j j_less. absurd (omega arith);
    }
    scalar_relation rows (suc n) less a = go (r.coefficients r.index) refl
      where
        M : PolynomialModule k (Row (Pol k) (suc n))
        M = row_module k n

        list : List (Row (Pol k) (suc n))
        list = tabulate rows (λ i. row_of (suc n) (a i))

        size : length list ≡ rows
        size = tabulate_length M rows (λ i. row_of (suc n) (a i))

        r : Relation M list
        r = relation M field list (omega (arith, size, less, row_width k n))

        entry_at : (i j t : ℕ) → j < suc n
            → M.coef (row_of (suc n) (a i)) (t * M.width + j) ≡ coeff_of k.ops (constant k (a i j)).0 t
        entry_at i j t j_less = row_entry k n (row_of (suc n) (a i)) t j j_less
            ∙ ap (λ p. coeff_of k.ops p.0 t) (entry_row_of (suc n) j (a i) j_less)

        term : (p : Pol k) (i s j : ℕ) → j < suc n
            → M.coef (M.◌·◌ p (row_of (suc n) (a i))) (s * M.width + j) ≡ coeff_of k.ops p.0 s ⊗ a i j
        term p i s j j_less =
            M.coef_scale p (row_of (suc n) (a i)) s j (omega (arith, j_less, row_width k n))
            ∙ convolution_comm k.ring (coeff_of k.ops p.0) (λ t. M.coef (row_of (suc n) (a i)) (t * M.width + j)) s
            ∙ convolution_constant_left k.ring (λ t. M.coef (row_of (suc n) (a i)) (t * M.width + j))
            (coeff_of k.ops p.0)
            (λ t. entry_at i j (suc t) j_less ∙ constant_past (a i j) t) s
            ∙ ap (λ x. x ⊗ coeff_of k.ops p.0 s) (entry_at i j 0 j_less ∙ constant_at (a i j))
            ∙ k.mul_comm (a i j) (coeff_of k.ops p.0 s)

        go : (p : Pol k) → r.coefficients r.index ≡ p → ScalarRelation rows (suc n) a
        go ([], t) e = absurd (r.some (e ∙ empty_pol k ([], t) refl))
        go ((x ∷ xs), t) e = record {
          scalars = λ i. coeff_of k.ops (r.coefficients i).0 (length xs);
          index = r.index;
          below = omega (arith, r.below, size);
          some = λ z. coeff_top k x xs t (sym (ap (λ p. coeff_of k.ops p.0 (length xs)) e) ∙ z);
          is = λ j j_less.
              first_sum_same (λ i. coeff_of k.ops (r.coefficients i).0 (length xs) ⊗ a i j)
              (λ i. M.coef (M.◌·◌ (r.coefficients i) (row_of (suc n) (a i))) (length xs * M.width + j)) rows
              (λ i. sym (term (r.coefficients i) i (length xs) j j_less))
              ∙ sym (coef_tabulated M (length xs * M.width + j) rows (λ i. row_of (suc n) (a i)) r.coefficients)
              ∙ ap (λ v. M.coef v (length xs * M.width + j)) r.is ∙ M.coef_zero (length xs * M.width + j);
        }

module _ {A V : Type 0} {k : TestedRing A} (M : PolynomialModule k V) where
  infixl 65 ◌⊞◌
  infixl 70 ◌·◌
  infixr 80 ⊟◌
  infixl 65 ◌⊕◌
  infixl 70 ◌⊗◌
  open M use {width, 𝟎, ◌⊞◌, ⊟◌, ◌·◌, coef}
  open k use {𝟘, 𝟙, ◌⊕◌, ◌⊗◌}

  scalar_scale : (g : List V) (a : A) (c : ℕ → A)
      → scalar_combine M (λ i. a ⊗ c i) g ≡ constant k a · scalar_combine M c g
  scalar_scale [] a c = sym (scale_zero M (constant k a))
  scalar_scale (r ∷ g) a c =
      ap₂ ◌⊞◌ (ap (λ p. p · r) (constant_mul k a (c zero)) ∙ scale_scale M (constant k a) (constant k (c zero)) r)
      (scalar_scale g a (tail_of c))
      ∙ sym (scale_add M (constant k a) _ _)

  pub scalar_none : (g : List V) (c : ℕ → A) → ((i : ℕ) → i < length g → c i ≡ 𝟘) → scalar_combine M c g ≡ 𝟎
  scalar_none [] c h = refl
  scalar_none (r ∷ g) c h =
      ap₂ ◌⊞◌ (ap (λ a. constant k a · r) (h 0 (omega arith)) ∙ ap (λ p. p · r) (constant_zero k) ∙ zero_scale M r)
      (scalar_none g (tail_of c) (λ i less. h (suc i) (omega (arith, less)))) ∙ v_add_zero M 𝟎

  module _ (field : IsField k.ops) (L : V → Type 0) (zero_in : L 𝟎) (𝓛 : IsSubspace M field L) where
    sum_in : (u v : V) → L u → L v → L (u ⊞ v)
    sum_in u v u_in v_in =
        subst L (ap (λ x. u ⊞ ⊟ x) (v_zero_add M (⊟ v)) ∙ ap (λ x. u ⊞ x) (v_neg_neg M v))
        (𝓛.sub_in u (𝟎 ⊞ ⊟ v) u_in (𝓛.sub_in 𝟎 v zero_in v_in))

    -- a combination of elements that are written by g is written by g
    pub gather : (g xs : List V) (v : ℕ → A) (a : ℕ → ℕ → A)
        → ((i : ℕ) → i < length xs → L (row_at M xs i ⊞ ⊟ scalar_combine M (a i) g))
        → L (scalar_combine M v xs ⊞ ⊟ scalar_combine M (λ j. first_sum k (λ i. v i ⊗ a i j) (length xs)) g)
    gather g [] v a h = subst L (sym (ap (λ x. 𝟎 ⊞ ⊟ x) (scalar_zero M g) ∙ v_add_neg M 𝟎)) zero_in
    gather g (x ∷ xs) v a h =
        subst L moved
        (sum_in _ _ (𝓛.scalar_in (v zero) (x ⊞ ⊟ scalar_combine M (a zero) g) (h 0 (omega arith)))
        (gather g xs (tail_of v) (tail_of a) (λ i less. h (suc i) (omega (arith, less)))))
      where
        rest : ℕ → A
        rest j = first_sum k (λ i. v (suc i) ⊗ a (suc i) j) (length xs)

        moved : constant k (v zero) · (x ⊞ ⊟ scalar_combine M (a zero) g) ⊞
            (scalar_combine M (tail_of v) xs ⊞ ⊟ scalar_combine M rest g)
            ≡ constant k (v zero) · x ⊞ scalar_combine M (tail_of v) xs ⊞ ⊟ scalar_combine M
            (λ j. v zero ⊗ a zero j ⊕ rest j) g
        moved =
            ap (λ y. y ⊞ (scalar_combine M (tail_of v) xs ⊞ ⊟ scalar_combine M rest g))
            (scale_add M (constant k (v zero)) x _
            ∙ ap (λ y. constant k (v zero) · x ⊞ y)
            (scale_neg M (constant k (v zero)) _ ∙ ap ⊟◌ (sym (scalar_scale g (v zero) (a zero)))))
            ∙ v_add_add M _ _ _ _
            ∙ ap (λ y. constant k (v zero) · x ⊞ scalar_combine M (tail_of v) xs ⊞ y)
            (sym (v_neg_add M _ _) ∙ ap ⊟◌ (sym (scalar_add M g (λ j. v zero ⊗ a zero j) rest)))

    pub basis_length_le : (N : V → Type 0) (g g' : List V) → IsBasisModulo M N L g → IsBasisModulo M N L g'
        → length g' ≤ length g
    basis_length_le N g g' b b' = go (cases_lt (length g) (length g'))
      where
        a : ℕ → ℕ → A
        a i = b.scalars (row_at M g' i) (b'.members i)

        clash : ScalarRelation k (length g') (length g) a → ⊥
        clash r =
            r.some (b'.independent r.scalars
            (subst L
            (ap (λ y. scalar_combine M r.scalars g' ⊞ ⊟ y)
            (scalar_none g (λ j. first_sum k (λ i. r.scalars i ⊗ a i j) (length g')) r.is)
            ∙ ap (λ y. scalar_combine M r.scalars g' ⊞ y) (v_neg_zero M) ∙ v_add_zero M _)
            (gather g g' r.scalars a (λ i less. b.spans (row_at M g' i) (b'.members i)))) r.index r.below)

        go : (length g < length g') ⊎ (length g' ≤ length g) → length g' ≤ length g
        go (inr le) = le
        go (inl less) = absurd (clash (scalar_relation k field (length g') (length g) less a))

    -- dimension is well defined
    pub basis_length : (N : V → Type 0) (g g' : List V) → IsBasisModulo M N L g → IsBasisModulo M N L g'
        → length g ≡ length g'
    basis_length N g g' b b' = omega (arith, basis_length_le N g g' b b', basis_length_le N g' g b' b)
