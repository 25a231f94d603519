-- Lists of coefficients as functions of polynomials: leading coefficients, synthetic division, the minimal polynomial
-- and Lagrange's idempotents as a program has them, and the q-th power of a combination.
use Rattle.std.proofs.lemmas.List.Elements.{All-nil, All-cons, All-head, All-tail, All-weaker, All-map}
use Rattle.std.proofs.Common.{◌≡◌, ℕ, suc, ◌<◌, ◌^◌, List, [], ◌∷◌, map, length, refl, ◌∙◌, ap, ap₂, subst, All}
use Rattle.std.proofs.lemmas.List.{length-map}
use Rattle.ring_lemmas.specs.Ring.{CommRing, pow}
use Rattle.ring_theory.specs.Subsets.{IsSubring, Span}
use Rattle.ring_lemmas.proofs.Ring.{zero_add, mul_pow}
use Rattle.ring_lemmas.proofs.Solver.{ring, reads, from_one, from_two}
use Rattle.ring_theory.proofs.Subsets.{span_zero}
use Rattle.finite_algebra_theory.specs.Polynomial.{HasLeading, Monic}
use Rattle.finite_algebra_theory.specs.Algebra.{FiniteAlgebra, powers}
use Rattle.finite_algebra_theory.specs.Horner.{value, combination, suffix_values}
use Rattle.finite_algebra_theory.specs.Minimal.{Minimal, Lagrange}
use Rattle.finite_algebra_theory.proofs.Frobenius.{iterate_add, iterate_scalar}
use Rattle.finite_algebra_theory.proofs.Minimal.{Relation, relation_of_monic}

module _ {A : Type 0} (R : CommRing A) where
  infixl 65 ◌⊕◌
  infixl 70 ◌⊗◌
  infixr 80 ⊖◌
  open R use {𝟘, 𝟙, ◌⊕◌, ◌⊗◌, ⊖◌}

  -- synthetic division
  pub synthetic : (d : A) (cs : List A) (top c t : A)
      → value R.ops (d ∷ cs) top t ≡ value R.ops (d ∷ cs) top c ⊕ (t ⊕ ⊖ c) ⊗ value R.ops (suffix_values R.ops cs top c)
      top t
  synthetic d [] top c t = base
    where
      base : d ⊕ t ⊗ top ≡ d ⊕ c ⊗ top ⊕ (t ⊕ ⊖ c) ⊗ top
      base = ring R (d ∷ top ∷ c ∷ t ∷ []) λ q h. simp (reads, q, h 0, h 1, h 2, h 3) (q.equal _ _ refl)
  synthetic d (x ∷ cs) top c t =
      step (value R.ops (x ∷ cs) top t) (value R.ops (x ∷ cs) top c) (value R.ops (suffix_values R.ops cs top c) top t)
      (synthetic x cs top c t)
    where
      step : (u v w : A) → u ≡ v ⊕ (t ⊕ ⊖ c) ⊗ w → d ⊕ t ⊗ u ≡ d ⊕ c ⊗ v ⊕ (t ⊕ ⊖ c) ⊗ (v ⊕ t ⊗ w)
      step u v w e =
          from_one R t e (ring R (u ∷ v ∷ w ∷ d ∷ c ∷ t ∷ []) λ q h. simp (reads, q, h 0, h 1, h 2, h 3, h 4, h 5)
          (q.equal _ _ refl))

  pub length_suffix_values : (cs : List A) (top c : A) → length (suffix_values R.ops cs top c) ≡ length cs
  length_suffix_values [] top c = refl
  length_suffix_values (d ∷ cs) top c = ap suc (length_suffix_values cs top c)

  -- the value with negated coefficients, times e, by the powers of a at e
  pub value_powers : (cs : List A) (a e : A)
      → value R.ops (map ⊖◌ cs) 𝟙 a ⊗ e ⊕ combination R.ops cs (powers R.ops a e (length cs))
      ≡ pow R.ops a (length cs) ⊗ e
  value_powers [] a e = R.add_zero _
  value_powers (c ∷ cs) a e =
      step (value R.ops (map ⊖◌ cs) 𝟙 a) (combination R.ops cs (powers R.ops a (a ⊗ e) (length cs)))
      (pow R.ops a (length cs)) (value_powers cs a (a ⊗ e))
    where
      step : (v s p : A) → v ⊗ (a ⊗ e) ⊕ s ≡ p ⊗ (a ⊗ e) → (⊖ c ⊕ a ⊗ v) ⊗ e ⊕ (c ⊗ e ⊕ s) ≡ a ⊗ p ⊗ e
      step v s p f =
          from_one R 𝟙 f (ring R (v ∷ s ∷ p ∷ a ∷ c ∷ e ∷ []) λ q h. simp (reads, q, h 0, h 1, h 2, h 3, h 4, h 5)
          (q.equal _ _ refl))

  module _ (S : A → Type 0) (𝓢 : IsSubring R.ops S) where
    -- a list of coefficients and a leading one are the function of a polynomial
    pub leading_list : (cs : List A) (top : A) → All S cs → HasLeading R.ops S top (length cs) (value R.ops cs top)
    leading_list [] top h = λ t. refl
    leading_list (c ∷ cs) top h = record {
      constant = c;
      constant_in = All-head S c cs h;
      rest = value R.ops cs top;
      rest_in = leading_list cs top (All-tail S c cs h);
      is = λ t. refl;
    }

    pub value_list_in : (cs : List A) (top c : A) → All S cs → S top → S c → S (value R.ops cs top c)
    value_list_in [] top c h m k = m
    value_list_in (d ∷ cs) top c h m k =
        𝓢.sum_in _ _ (All-head S d cs h) (𝓢.product_in _ _ k (value_list_in cs top c (All-tail S d cs h) m k))

    pub suffix_values_in : (cs : List A) (top c : A) → All S cs → S top → S c → All S (suffix_values R.ops cs top c)
    suffix_values_in [] top c h m k = All-nil S
    suffix_values_in (d ∷ cs) top c h m k =
        All-cons S _ _ (value_list_in (d ∷ cs) top c h m k) (suffix_values_in cs top c (All-tail S d cs h) m k)

    negated_in : (cs : List A) → All S cs → All S (map ⊖◌ cs)
    negated_in cs h = All-map S ⊖◌ cs (All-weaker S (λ c. S (⊖ c)) 𝓢.neg_in cs h)

    -- a combination is in the span
    pub span_of_combination : (cs bs : List A) → All S cs → Span R.ops S bs (combination R.ops cs bs)
    span_of_combination [] bs h = span_zero R S 𝓢 bs
    span_of_combination (c ∷ cs) [] h = refl
    span_of_combination (c ∷ cs) (b ∷ bs) h = record {
      scalar = c;
      scalar_in = All-head S c cs h;
      rest = combination R.ops cs bs;
      rest_in = span_of_combination cs bs (All-tail S c cs h);
      is = refl;
    }

  module _ (S : A → Type 0) (𝓐 : FiniteAlgebra R.ops S) where
    -- the coefficients of the least relation among the powers are those of the minimal polynomial, negated
    pub minimal_list : (a e : A) (cs : List A) → All S cs
        → pow R.ops a (length cs) ⊗ e ≡ combination R.ops cs (powers R.ops a e (length cs))
        → ((j : ℕ) → j < length cs → ¬ (Relation R S 𝓐 a e j))
        → Minimal R.ops S a e (length cs) (value R.ops (map ⊖◌ cs) 𝟙)
    minimal_list a e cs h relation least = record {
      monic =
          subst (λ n. Monic R.ops S n (value R.ops (map ⊖◌ cs) 𝟙)) (length-map cs ⊖◌)
          (leading_list S 𝓐.subring (map ⊖◌ cs) 𝟙 (negated_in S 𝓐.subring cs h));
      kills = zero (value R.ops (map ⊖◌ cs) 𝟙 a) _ _ (value_powers cs a e) relation;
      least = λ j l g m z. least j l (relation_of_monic R S 𝓐 a e j g m z);
    }
      where
        zero : (v s p : A) → v ⊗ e ⊕ s ≡ p → p ≡ s → v ⊗ e ≡ 𝟘
        zero v s p f g = from_two R 𝟙 𝟙 f g
            (ring R (v ∷ s ∷ p ∷ e ∷ []) λ q h. simp (reads, q, h 0, h 1, h 2, h 3) (q.equal _ _ refl))

    -- Lagrange's idempotent at a root, by synthetic division
    pub lagrange_of_list : (a e : A) (d : A) (cs : List A) → S d → All S cs → (c : A) → S c
        → value R.ops (d ∷ cs) 𝟙 c ≡ 𝟘
        → (u : A) → S u → value R.ops (suffix_values R.ops cs 𝟙 c) 𝟙 c ⊗ u ≡ 𝟙
        → Lagrange R.ops S a e (length cs) (value R.ops (d ∷ cs) 𝟙) c
        (u ⊗ (value R.ops (suffix_values R.ops cs 𝟙 c) 𝟙 a ⊗ e))
    lagrange_of_list a e d cs d_in h c c_in root u u_in is = record {
      quotient = value R.ops (suffix_values R.ops cs 𝟙 c) 𝟙;
      quotient_in =
          subst (λ n. Monic R.ops S n (value R.ops (suffix_values R.ops cs 𝟙 c) 𝟙)) (length_suffix_values cs 𝟙 c)
          (leading_list S 𝓐.subring (suffix_values R.ops cs 𝟙 c) 𝟙
          (suffix_values_in S 𝓐.subring cs 𝟙 c h 𝓐.subring.one_in c_in));
      divides = λ t.
          synthetic d cs 𝟙 c t
          ∙ ap (λ x. x ⊕ (t ⊕ ⊖ c) ⊗ value R.ops (suffix_values R.ops cs 𝟙 c) 𝟙 t) root ∙ zero_add R _;
      inverse = u;
      inverse_in = u_in;
      is_inverse = is;
      is = refl;
    }

    -- the iterate of a combination is the combination of the iterates: so its matrix has the rows of these
    pub iterate_combination : (m : ℕ) (cs bs : List A) → All S cs
        → pow R.ops (combination R.ops cs bs) (length 𝓐.codes ^ m)
        ≡ combination R.ops cs (map (λ b. pow R.ops b (length 𝓐.codes ^ m)) bs)
    iterate_combination m [] bs h = iterate_scalar R S 𝓐 m 𝟘 𝓐.subring.zero_in
    iterate_combination m (c ∷ cs) [] h = iterate_scalar R S 𝓐 m 𝟘 𝓐.subring.zero_in
    iterate_combination m (c ∷ cs) (b ∷ bs) h =
        iterate_add R S 𝓐 m (c ⊗ b) (combination R.ops cs bs)
        ∙ ap₂ ◌⊕◌ (mul_pow R c b (length 𝓐.codes ^ m)
        ∙ ap (λ x. x ⊗ pow R.ops b (length 𝓐.codes ^ m)) (iterate_scalar R S 𝓐 m c (All-head S c cs h)))
        (iterate_combination m cs bs (All-tail S c cs h))
