-- Combinations with lists of scalars: those of a ring that maps to the scalars, and in how many ways a member of a
-- span is one.
use Rattle.std.proofs.Common.{◌≡◌, ℕ, zero, suc, ◌<◌, List, [], ◌∷◌, length, All, refl, sym, ◌∙◌, ap, ap₂, subst, arith}
use Rattle.std.proofs.lemmas.List.Elements.{All-nil, All-cons, All-head, All-tail}
use Rattle.ring_lemmas.specs.Ring.{CommRing}
use Rattle.ring_theory.specs.Subsets.{IsSubring, Span}
use Rattle.ring_lemmas.proofs.Ring.{eq_of_sub}
use Rattle.ring_lemmas.proofs.Solver.{ring, reads}
use Rattle.linear_theory.specs.Module.{combine, restricted_ops, IsHomomorphism}
use Rattle.linear_theory.specs.Basis.{IsIndependent as IsFree}
use Rattle.function_field.specs.Spans.{combination, IsIndependentList, InSpanOnce}
use Rattle.function_field.proofs.Spans.{span_list}

module _ {C A : Type 0} (K : CommRing C) (R : CommRing A) (e : C → A) (hom : IsHomomorphism K.ops R.ops e)
    (S : A → Type 0) where
  infixl 65 ◌⊕◌
  infixl 70 ◌⊗◌
  open R use {𝟘, 𝟙, ◌⊕◌, ◌⊗◌}

  -- combinations by a sequence are in the span, where the images are scalars
  pub combine_spanned : ((a : C) → S (e a)) → (f : ℕ → C) (ws : List A)
      → Span R.ops S ws (combine (restricted_ops R.ops e) f ws)
  combine_spanned image f [] = refl
  combine_spanned image f (w ∷ ws) = record {
    scalar = e (f 0);
    scalar_in = image (f 0);
    rest = combine (restricted_ops R.ops e) (λ i. f (suc i)) ws;
    rest_in = combine_spanned image (λ i. f (suc i)) ws;
    is = refl;
  }

  module _ (at : (z : A) → S z → (a : C) × (z ≡ e a)) where
    -- listed scalars as a sequence
    sequence : (cs : List A) → All S cs → ℕ → C
    sequence [] h i = K.𝟘
    sequence (z ∷ cs) h zero = (at z (All-head S z cs h)).0
    sequence (z ∷ cs) h (suc i) = sequence cs (All-tail S z cs h) i

    sequence_is : (cs ws : List A) (h : All S cs) → length cs ≡ length ws → combination R.ops cs ws
        ≡ combine (restricted_ops R.ops e) (sequence cs h) ws
    unfolding sequence
    sequence_is [] [] h l = refl
    sequence_is [] (w ∷ ws) h l = absurd (omega arith)
    sequence_is (z ∷ cs) [] h l = absurd (omega arith)
    sequence_is (z ∷ cs) (w ∷ ws) h l =
        ap₂ ◌⊕◌ (ap (λ x. x ⊗ w) (at z (All-head S z cs h)).1) (sequence_is cs ws (All-tail S z cs h) (omega arith))

    sequence_zero : (cs : List A) (h : All S cs) → ((i : ℕ) → i < length cs → sequence cs h i ≡ K.𝟘)
        → All (λ z. z ≡ 𝟘) cs
    unfolding sequence
    sequence_zero [] h f = All-nil (λ z. z ≡ 𝟘)
    sequence_zero (z ∷ cs) h f =
        All-cons (λ z. z ≡ 𝟘) z cs ((at z (All-head S z cs h)).1 ∙ ap e (f 0 (omega arith)) ∙ hom.zero_is)
        (sequence_zero cs (All-tail S z cs h) (λ i l. f (suc i) (omega (arith, l))))

    -- independence by sequences is independence by lists
    pub independent_lists : (U : A → Type 0) (ws : List A) → IsFree K.ops (restricted_ops R.ops e) U ws
        → (cs : List A) → length cs ≡ length ws → All S cs
        → U (combination R.ops cs ws) → All (λ z. z ≡ 𝟘) cs
    independent_lists U ws free cs l h m =
        sequence_zero cs h (λ i b. free (sequence cs h) (subst U (sequence_is cs ws h l) m) i (subst (λ n. i < n) l b))

module _ {A : Type 0} (R : CommRing A) (S : A → Type 0) (𝓢 : IsSubring R.ops S) where
  infixl 65 ◌⊕◌
  infixl 70 ◌⊗◌
  infixr 80 ⊖◌
  open R use {𝟘, 𝟙, ◌⊕◌, ◌⊗◌, ⊖◌}

  differences : List A → List A → List A
  differences [] ss = []
  differences (r ∷ rs) [] = []
  differences (r ∷ rs) (s ∷ ss) = (r ⊕ ⊖ s) ∷ differences rs ss

  differences_length : (rs ss : List A) → length rs ≡ length ss → length (differences rs ss) ≡ length rs
  unfolding differences
  differences_length [] ss l = refl
  differences_length (r ∷ rs) [] l = absurd (omega arith)
  differences_length (r ∷ rs) (s ∷ ss) l = ap suc (differences_length rs ss (omega arith))

  differences_in : (rs ss : List A) → All S rs → All S ss → All S (differences rs ss)
  unfolding differences
  differences_in [] ss h h' = All-nil S
  differences_in (r ∷ rs) [] h h' = All-nil S
  differences_in (r ∷ rs) (s ∷ ss) h h' =
      All-cons S _ _ (𝓢.sum_in _ _ (All-head S r rs h) (𝓢.neg_in _ (All-head S s ss h')))
      (differences_in rs ss (All-tail S r rs h) (All-tail S s ss h'))

  step : (r s g a b : A) → (r ⊕ ⊖ s) ⊗ g ⊕ (a ⊕ ⊖ b) ≡ (r ⊗ g ⊕ a) ⊕ ⊖ (s ⊗ g ⊕ b)
  step r s g a b = ring R (r ∷ s ∷ g ∷ a ∷ b ∷ []) λ q h. simp (reads, q, h 0, h 1, h 2, h 3, h 4) (q.equal _ _ refl)

  none : 𝟘 ≡ 𝟘 ⊕ ⊖ 𝟘
  none = ring R [] λ q h. simp (reads, q) (q.equal _ _ refl)

  differences_combination : (rs ss gs : List A) → length rs ≡ length gs → length ss ≡ length gs
      → combination R.ops (differences rs ss) gs ≡ combination R.ops rs gs ⊕ ⊖ combination R.ops ss gs
  unfolding differences
  differences_combination [] [] [] l l' = none
  differences_combination [] (s ∷ ss) [] l l' = absurd (omega arith)
  differences_combination (r ∷ rs) ss [] l l' = absurd (omega arith)
  differences_combination [] ss (g ∷ gs) l l' = absurd (omega arith)
  differences_combination (r ∷ rs) [] (g ∷ gs) l l' = absurd (omega arith)
  differences_combination (r ∷ rs) (s ∷ ss) (g ∷ gs) l l' =
      ap (λ w. (r ⊕ ⊖ s) ⊗ g ⊕ w) (differences_combination rs ss gs (omega arith) (omega arith)) ∙ step r s g _ _

  differences_zero : (rs ss : List A) → length rs ≡ length ss → All (λ z. z ≡ 𝟘) (differences rs ss) → rs ≡ ss
  unfolding differences
  differences_zero [] [] l h = refl
  differences_zero [] (s ∷ ss) l h = absurd (omega arith)
  differences_zero (r ∷ rs) [] l h = absurd (omega arith)
  differences_zero (r ∷ rs) (s ∷ ss) l h =
      ap₂ (λ x xs. x ∷ xs) (eq_of_sub R r s (All-head (λ z. z ≡ 𝟘) _ _ h))
      (differences_zero rs ss (omega arith) (All-tail (λ z. z ≡ 𝟘) _ _ h))

  -- members of the span of independent elements are combinations in one way only
  pub span_once : (gs : List A) → IsIndependentList R.ops S gs → (z : A) → Span R.ops S gs z → InSpanOnce R.ops S gs z
  span_once gs free z m =
      let s = (span_list R.ops S gs z).0 m in
      record {
        in_span = s;
        one_way = λ o.
            let l : length o.coefficients ≡ length s.coefficients = o.one_each ∙ sym s.one_each in
            differences_zero o.coefficients s.coefficients l
            (free (differences o.coefficients s.coefficients)
            (differences_length o.coefficients s.coefficients l ∙ o.one_each)
            (differences_in o.coefficients s.coefficients o.in_ring s.in_ring)
            (differences_combination o.coefficients s.coefficients gs o.one_each s.one_each
            ∙ ap₂ (λ a b. a ⊕ ⊖ b) (sym o.value) (sym s.value) ∙ R.add_neg z));
      }
