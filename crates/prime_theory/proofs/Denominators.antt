-- Elements that are integral, or spanned, over a ring with denominators from U: up to a factor of U they are so over
-- the base ring.
use Rattle.prime_theory.proofs.Scalars.{span_wider, integral_wider}
use Rattle.ring_theory.proofs.Local.{power_in}
use Rattle.std.proofs.Common.{◌≡◌, ℕ, zero, suc, ◌<◌, List, [], ◌∷◌, refl, sym, ◌∙◌, ap, subst, arith}
use Rattle.ring_lemmas.specs.Ring.{CommRing, pow}
use Rattle.ring_theory.specs.Subsets.{IsSubring, Span}
use Rattle.ring_theory.specs.Local.{Locally}
use Rattle.prime_theory.specs.Ideals.{IsMultiplicative}
use Rattle.ring_theory.specs.Integral.{IsIntegral}
use Rattle.ring_lemmas.proofs.Ring.{mul_zero, one_mul, mul_pow}
use Rattle.ring_theory.proofs.Subsets.{span_module, span_least}
use Rattle.ring_theory.proofs.Integral.{Low}
use Rattle.ring_lemmas.proofs.Solver.{ring, reads}
use Rattle.prime_theory.proofs.Adjoined.{low_by_root, low_has, power_low}
use Rattle.prime_theory.proofs.IntegralRing.{integral_of_multiplier, integral_product, integral_base, powers, low_span, span_low, low_module}
use Rattle.prime_theory.proofs.Localisation.{locally_ring}
use Rattle.prime_theory.proofs.Products.{own_module}

module _ {A : Type 0} (R : CommRing A) (S : A → Type 0) (𝓢 : IsSubring R.ops S) where
  infixl 65 ◌⊕◌
  infixl 70 ◌⊗◌
  infixr 80 ⊖◌
  open R use {𝟘, 𝟙, ◌⊕◌, ◌⊗◌, ⊖◌}

  -- an element whose m-th power is a value of lower degree is integral
  pub integral_of_power : (x : A) (m : ℕ) → 0 < m → Low R.ops S x m (pow R.ops x m) → IsIntegral R.ops S x
  integral_of_power x zero l r = absurd (omega arith)
  integral_of_power x (suc n) l r =
      let m = suc n in
      let back : (y : A) → Span R.ops S (powers R S 𝓢 x m) y → Low R.ops S x m y
      = span_least R S 𝓢 (Low R.ops S x m) (low_module R S 𝓢 x m) (powers R S 𝓢 x m) (span_low R S 𝓢 x m) in
      integral_of_multiplier R S 𝓢 (powers R S 𝓢 x m) x (low_span R S 𝓢 x m 𝟙 (low_has R S 𝓢 x n 𝟙 𝓢.one_in))
      (λ y h. low_span R S 𝓢 x m (x ⊗ y) (low_by_root R S 𝓢 x m r y (back y h)))

  module _ (U : A → Type 0) (𝓤 : IsMultiplicative R.ops S U) where
    su_of : (s : A) → S s → Locally R.ops U S s
    su_of s m = record { factor = 𝟙; factor_in = 𝓤.one_in; multiple_in = subst S (sym (one_mul R s)) m }

    pub denominator_ring : IsSubring R.ops (Locally R.ops U S)
    denominator_ring = locally_ring R S 𝓢 U 𝓤 S (own_module R S 𝓢) 𝓢

    -- a common denominator w: all multiples v·w of it clear a
    record Cleared (z : A) (n : ℕ) (a : A) : Type 0 where
      factor : A
      factor_in : U factor
      clears : (v : A) → S v → Low R.ops S (v ⊗ factor ⊗ z) n (pow R.ops (v ⊗ factor) n ⊗ a)

    cleared : (z : A) (n : ℕ) (a : A) → Low R.ops (Locally R.ops U S) z n a → Cleared z n a
    cleared z zero a h = record {
      factor = 𝟙;
      factor_in = 𝓤.one_in;
      clears = λ v m. one_mul R a ∙ h;
    }
    cleared z (suc n) a h =
        let c = h.constant_in in
        let r = cleared z n h.rest h.rest_in in
        let w = c.factor ⊗ r.factor in
        record {
          factor = w;
          factor_in = 𝓤.product_in _ _ c.factor_in r.factor_in;
          clears = λ v m.
              let x = v ⊗ w in
              let x' = v ⊗ c.factor ⊗ r.factor in
              let same : x' ≡ x = R.mul_assoc _ _ _ in
              let low : Low R.ops S (x ⊗ z) n (pow R.ops x n ⊗ h.rest)
              = subst (λ y. Low R.ops S (y ⊗ z) n (pow R.ops y n ⊗ h.rest)) same
              (r.clears (v ⊗ c.factor) (𝓢.product_in _ _ m (𝓤.within _ c.factor_in))) in
              let x_in : S x = 𝓢.product_in _ _ m
              (𝓢.product_in _ _ (𝓤.within _ c.factor_in) (𝓤.within _ r.factor_in)) in
              let f : (v a b y t : A) → y ⊗ (v ⊗ b) ⊗ (a ⊗ t) ≡ v ⊗ (a ⊗ b) ⊗ y ⊗ t
              = λ v a b y t. ring R (v ∷ a ∷ b ∷ y ∷ t ∷ []) λ q i. simp (reads, q, i 0, i 1, i 2, i 3, i 4)
              (q.equal _ _ refl) in
              let g : (x y t r : A) → x ⊗ y ⊗ (t ⊕ z ⊗ r) ≡ x ⊗ y ⊗ t ⊕ x ⊗ z ⊗ (y ⊗ r)
              = λ x y t r. ring R (x ∷ y ∷ t ∷ r ∷ z ∷ []) λ q i. simp (reads, q, i 0, i 1, i 2, i 3, i 4)
              (q.equal _ _ refl) in
              record {
                constant = x ⊗ pow R.ops x n ⊗ h.constant;
                constant_in =
                    subst S (f v c.factor r.factor (pow R.ops x n) h.constant)
                    (𝓢.product_in _ _
                    (𝓢.product_in _ _ (power_in R S 𝓢 x x_in n) (𝓢.product_in _ _ m (𝓤.within _ r.factor_in)))
                    c.multiple_in);
                rest = pow R.ops x n ⊗ h.rest;
                rest_in = low;
                is = ap (λ y. x ⊗ pow R.ops x n ⊗ y) h.is ∙ g x (pow R.ops x n) h.constant h.rest;
              };
        }

    -- an element that is integral over S with denominators has a multiple by a denominator that is integral over S
    pub integral_cleared : (z : A) → IsIntegral R.ops (Locally R.ops U S) z → Locally R.ops U (IsIntegral R.ops S) z
    integral_cleared z h =
        let m = h.degree in
        let c = cleared z m (pow R.ops z m) (power_low R (Locally R.ops U S) denominator_ring z h) in
        let w = c.factor in
        let low : Low R.ops S (w ⊗ z) m (pow R.ops (w ⊗ z) m)
        = subst (Low R.ops S (w ⊗ z) m) (sym (mul_pow R w z m))
        (subst (λ x. Low R.ops S (x ⊗ z) m (pow R.ops x m ⊗ pow R.ops z m)) (one_mul R w) (c.clears 𝟙 𝓢.one_in)) in
        record { factor = w; factor_in = c.factor_in; multiple_in = integral_of_power (w ⊗ z) m h.positive low }

    -- and conversely, where denominators are invertible
    pub integral_of_cleared : ((w : A) → U w → (u : A) × (u ⊗ w ≡ 𝟙)) → (z : A) → Locally R.ops U (IsIntegral R.ops S) z
        → IsIntegral R.ops (Locally R.ops U S) z
    integral_of_cleared inverse z h =
        let i = inverse h.factor h.factor_in in
        let k = h.multiple_in in
        let u_in : Locally R.ops U S i.0 = record {
          factor = h.factor;
          factor_in = h.factor_in;
          multiple_in = subst S (sym (R.mul_comm _ _ ∙ i.1)) 𝓢.one_in;
        } in
        subst (IsIntegral R.ops (Locally R.ops U S)) (sym (R.mul_assoc _ _ _) ∙ ap (λ x. x ⊗ z) i.1 ∙ one_mul R z)
        (integral_product R (Locally R.ops U S) denominator_ring i.0 (h.factor ⊗ z)
        (integral_base R (Locally R.ops U S) denominator_ring i.0 u_in)
        (integral_wider R S (Locally R.ops U S) su_of (h.factor ⊗ z) h.multiple_in))

    -- spans with denominators
    pub span_cleared : (bs : List A) (z : A) → Span R.ops (Locally R.ops U S) bs z → Locally R.ops U (Span R.ops S bs) z
    span_cleared [] z h = record { factor = 𝟙; factor_in = 𝓤.one_in; multiple_in = ap (λ x. 𝟙 ⊗ x) h ∙ mul_zero R 𝟙 }
    span_cleared (b ∷ bs) z h =
        let c = h.scalar_in in
        let r = span_cleared bs h.rest h.rest_in in
        let f : (c r s b y : A) → c ⊗ r ⊗ (s ⊗ b ⊕ y) ≡ r ⊗ (c ⊗ s) ⊗ b ⊕ c ⊗ (r ⊗ y)
        = λ c r s b y. ring R (c ∷ r ∷ s ∷ b ∷ y ∷ []) λ q i. simp (reads, q, i 0, i 1, i 2, i 3, i 4)
        (q.equal _ _ refl) in
        record {
          factor = c.factor ⊗ r.factor;
          factor_in = 𝓤.product_in _ _ c.factor_in r.factor_in;
          multiple_in = record {
            scalar = r.factor ⊗ (c.factor ⊗ h.scalar);
            scalar_in = 𝓢.product_in _ _ (𝓤.within _ r.factor_in) c.multiple_in;
            rest = c.factor ⊗ (r.factor ⊗ h.rest);
            rest_in = (span_module R S 𝓢 bs).scale_in _ _ (𝓤.within _ c.factor_in) r.multiple_in;
            is = ap (λ x. c.factor ⊗ r.factor ⊗ x) h.is ∙ f c.factor r.factor h.scalar b h.rest;
          };
        }

    pub span_of_cleared : ((w : A) → U w → (u : A) × (u ⊗ w ≡ 𝟙)) → (bs : List A) (z : A)
        → Locally R.ops U (Span R.ops S bs) z
        → Span R.ops (Locally R.ops U S) bs z
    span_of_cleared inverse bs z h =
        let i = inverse h.factor h.factor_in in
        let u_in : Locally R.ops U S i.0 = record {
          factor = h.factor;
          factor_in = h.factor_in;
          multiple_in = subst S (sym (R.mul_comm _ _ ∙ i.1)) 𝓢.one_in;
        } in
        subst (Span R.ops (Locally R.ops U S) bs) (sym (R.mul_assoc _ _ _) ∙ ap (λ x. x ⊗ z) i.1 ∙ one_mul R z)
        ((span_module R (Locally R.ops U S) denominator_ring bs).scale_in i.0 _ u_in
        (span_wider R S (Locally R.ops U S) su_of bs (h.factor ⊗ z) h.multiple_in))
