-- What an isomorphism of rings carries over: integral elements, spans, products, powers, maximal ideals and their
-- valuations.
use Rattle.std.proofs.Common.{◌≡◌, ◌↔◌, ℕ, zero, suc, List, [], ◌∷◌, map, refl, sym, ◌∙◌, ap, ap₂, subst}
use Rattle.ring_lemmas.specs.Ring.{CommRing, pow}
use Rattle.ring_lemmas.specs.Sums.{sum_below, sum_over}
use Rattle.ring_theory.specs.Subsets.{Span, Product, Factors}
use Rattle.ring_theory.specs.Integral.{IsIntegral}
use Rattle.ring_theory.specs.Maps.{IsHom}
use Rattle.ring_theory.proofs.RowMaps.{hom_zero, hom_neg}
use Rattle.finite_algebra_theory.proofs.ByMap.{map_pow}
use Rattle.prime_theory.specs.Ideals.{Power}
use Rattle.prime_theory.specs.Places.{IsMaximalIdeal, PlaceAtLeast, PlaceAtLeastMinus}
use Rattle.places_theory.specs.Maps.{IsIsomorphism}

-- images under a homomorphism
module _ {A B : Type 0} (R : CommRing A) (R' : CommRing B) (f : A → B) (hom : IsHom R R' f) where
  image_below : (n : ℕ) (g : ℕ → A) → f (sum_below R.ops n g) ≡ sum_below R'.ops n (λ i. f (g i))
  image_below zero g = hom_zero R R' f hom
  image_below (suc n) g = hom.add _ _ ∙ ap (λ x. R'.◌⊕◌ x (f (g n))) (image_below n g)

  module _ (S : A → Type 0) (S' : B → Type 0) (carry : (a : A) → S a → S' (f a)) where
    terms : (n : ℕ) (c : ℕ → A) (z : A)
        → sum_below R'.ops n (λ i. f (R.◌⊗◌ (c i) (pow R.ops z i)))
        ≡ sum_below R'.ops n (λ i. R'.◌⊗◌ (f (c i)) (pow R'.ops (f z) i))
    terms zero c z = refl
    terms (suc n) c z = ap₂ R'.◌⊕◌ (terms n c z) (hom.mul _ _ ∙ ap (R'.◌⊗◌ (f (c n))) (map_pow R R' f hom z n))

    pub integral_image : (z : A) → IsIntegral R.ops S z → IsIntegral R'.ops S' (f z)
    integral_image z h = record {
      degree = h.degree;
      positive = h.positive;
      coefficient = λ i. f (h.coefficient i);
      coefficient_in = λ i. carry _ (h.coefficient_in i);
      root =
          sym (hom.add _ _ ∙ ap₂ R'.◌⊕◌ (map_pow R R' f hom z h.degree)
          (image_below h.degree (λ i. R.◌⊗◌ (h.coefficient i) (pow R.ops z i)) ∙ terms h.degree h.coefficient z))
          ∙ ap f h.root ∙ hom_zero R R' f hom;
    }

    pub span_image : (bs : List A) (z : A) → Span R.ops S bs z → Span R'.ops S' (map f bs) (f z)
    span_image [] z h = ap f h ∙ hom_zero R R' f hom
    span_image (b ∷ bs) z h = record {
      scalar = f h.scalar;
      scalar_in = carry _ h.scalar_in;
      rest = f h.rest;
      rest_in = span_image bs h.rest h.rest_in;
      is = ap f h.is ∙ hom.add _ _ ∙ ap (λ x. R'.◌⊕◌ x (f h.rest)) (hom.mul h.scalar b);
    }

  module _ (M N : A → Type 0) (M' N' : B → Type 0) (left : (a : A) → M a → M' (f a)) (right : (a : A) → N a → N' (f a))
    where
      factors : (ps : List (Factors M N))
          → (qs : List (Factors M' N')) × (f (sum_over R.ops ps (λ p. R.◌⊗◌ p.left p.right))
          ≡ sum_over R'.ops qs (λ p. R'.◌⊗◌ p.left p.right))
      factors [] = ([], hom_zero R R' f hom)
      factors (p ∷ ps) =
          let r = factors ps in (
            record {
              left = f p.left;
              left_in = left p.left p.left_in;
              right = f p.right;
              right_in = right p.right
                  p.right_in;
            } ∷ r.0,
            hom.add _ _ ∙ ap₂ R'.◌⊕◌ (hom.mul p.left p.right) r.1,
          )

      pub product_image : (z : A) → Product R.ops M N z → Product R'.ops M' N' (f z)
      product_image z h = let r = factors h.0 in (r.0, ap f h.1 ∙ r.1)

  pub power_image : (O P : A → Type 0) (O' P' : B → Type 0) → ((a : A) → O a → O' (f a)) → ((a : A) → P a → P' (f a))
      → (n : ℕ) (z : A)
      → Power R.ops O P n z → Power R'.ops O' P' n (f z)
  power_image O P O' P' g h zero z i = g z i
  power_image O P O' P' g h (suc n) z i =
      product_image P (Power R.ops O P n) P' (Power R'.ops O' P' n) h (λ a. power_image O P O' P' g h n a) z i

-- the inverse of an isomorphism
module _ {A B : Type 0} (R : CommRing A) (R' : CommRing B) (f : A → B) (iso : IsIsomorphism R R' f) where
  abbrev pub back : B → A
  back b = (iso.onto b).0

  pub f_back : (b : B) → f (back b) ≡ b
  f_back b = (iso.onto b).1

  pub back_f : (a : A) → back (f a) ≡ a
  back_f a = iso.injective (back (f a)) a (f_back (f a))

  pub back_hom : IsHom R' R back
  back_hom = record {
    add = λ a b. iso.injective _ _ (f_back (R'.◌⊕◌ a b)
        ∙ sym (iso.hom.add (back a) (back b) ∙ ap₂ R'.◌⊕◌ (f_back a) (f_back b)));
    mul = λ a b. iso.injective _ _ (f_back (R'.◌⊗◌ a b)
        ∙ sym (iso.hom.mul (back a) (back b) ∙ ap₂ R'.◌⊗◌ (f_back a) (f_back b)));
    𝟙 = iso.injective _ _ (f_back R'.𝟙 ∙ sym iso.hom.𝟙);
  }

  -- a set carried to a set is the set's preimage
  returns : (S : A → Type 0) (S' : B → Type 0) → ((a : A) → S a ↔ S' (f a)) → (b : B) → S' b → S (back b)
  returns S S' e b h = (e (back b)).1 (subst S' (sym (f_back b)) h)

  pub integral_iff : (S : A → Type 0) (S' : B → Type 0) → ((a : A) → S a ↔ S' (f a)) → (z : A)
      → IsIntegral R.ops S z ↔ IsIntegral R'.ops S' (f z)
  integral_iff S S' e z = (
    integral_image R R' f iso.hom S S' (λ a. (e a).0) z,
    λ h. subst (IsIntegral R.ops S) (back_f z) (integral_image R' R back back_hom S' S (returns S S' e) (f z) h),
  )

  map_back : (bs : List A) → map back (map f bs) ≡ bs
  map_back [] = refl
  map_back (b ∷ bs) = ap₂ (λ x xs. x ∷ xs) (back_f b) (map_back bs)

  pub span_iff : (S : A → Type 0) (S' : B → Type 0) → ((a : A) → S a ↔ S' (f a)) → (bs : List A) (z : A)
      → Span R.ops S bs z ↔ Span R'.ops S' (map f bs) (f z)
  span_iff S S' e bs z = (
    span_image R R' f iso.hom S S' (λ a. (e a).0) bs z,
    λ h.
        subst (λ xs. Span R.ops S xs z) (map_back bs)
        (subst (Span R.ops S (map back (map f bs))) (back_f z)
        (span_image R' R back back_hom S' S (returns S S' e) (map f bs) (f z) h)),
  )

  module _ (O M : A → Type 0) (O' M' : B → Type 0) (ring_same : (a : A) → O a ↔ O' (f a))
      (same : (a : A) → M a ↔ M' (f a)) where
    to_M : (b : B) (a : A) → f a ≡ b → M a → M' b
    to_M b a e h = subst M' e ((same a).0 h)

    maximal_to : IsMaximalIdeal R.ops O M → IsMaximalIdeal R'.ops O' M'
    maximal_to h = record {
      ideal = record {
        within = λ b i. subst O' (f_back b) ((ring_same (back b)).0 (h.ideal.within (back b) (returns M M' same b i)));
        zero_in = to_M R'.𝟘 R.𝟘 (hom_zero R R' f iso.hom) h.ideal.zero_in;
        sum_in = λ a b i j.
            to_M (R'.◌⊕◌ a b) (R.◌⊕◌ (back a) (back b))
            (iso.hom.add (back a) (back b) ∙ ap₂ R'.◌⊕◌ (f_back a) (f_back b))
            (h.ideal.sum_in _ _ (returns M M' same a i) (returns M M' same b j));
        scale_in = λ a b i j.
            to_M (R'.◌⊗◌ a b) (R.◌⊗◌ (back a) (back b))
            (iso.hom.mul (back a) (back b) ∙ ap₂ R'.◌⊗◌ (f_back a) (f_back b))
            (h.ideal.scale_in _ _ (returns O O' ring_same a i) (returns M M' same b j));
      };
      proper = λ i. h.proper (subst M (back_hom.𝟙) (returns M M' same R'.𝟙 i));
      invert = λ u u_in n.
          let w = h.invert (back u) (returns O O' ring_same u u_in) (λ i. n (to_M u (back u) (f_back u) i)) in
          record {
            inverse = f w.inverse;
            inverse_in = (ring_same w.inverse).0 w.inverse_in;
            is =
                to_M _ _
                (iso.hom.add _ _ ∙ ap₂ R'.◌⊕◌ (iso.hom.mul w.inverse (back u) ∙ ap (R'.◌⊗◌ (f w.inverse)) (f_back u))
                (hom_neg R R' f iso.hom R.𝟙 ∙ ap R'.⊖◌ iso.hom.𝟙))
                w.is;
          };
    }

    out : (u : A) → ¬ (M u) → ¬ (M' (f u))
    out u n i = n ((same u).1 i)

    value_to : (z : A) (m : ℕ) → PlaceAtLeast R.ops O M z m → PlaceAtLeast R'.ops O' M' (f z) m
    value_to z m h = record {
      unit = f h.unit;
      unit_in = (ring_same h.unit).0 h.unit_in;
      unit_out = out h.unit h.unit_out;
      inside =
          subst (Power R'.ops O' M' m) (iso.hom.mul h.unit z)
          (power_image R R' f iso.hom O M O' M' (λ a. (ring_same a).0) (λ a. (same a).0) m (R.◌⊗◌ h.unit z) h.inside);
    }

    value_minus_to : (z : A) (m : ℕ) → PlaceAtLeastMinus R.ops O M z m → PlaceAtLeastMinus R'.ops O' M' (f z) m
    value_minus_to z m h = record {
      unit = f h.unit;
      unit_in = (ring_same h.unit).0 h.unit_in;
      unit_out = out h.unit h.unit_out;
      takes = λ w i.
          let k = h.takes (back w) (power_image R' R back back_hom O' M' O M (returns O O' ring_same)
          (returns M M' same) m w i) in
          subst O' (iso.hom.mul (R.◌⊗◌ h.unit z) (back w) ∙ ap₂ R'.◌⊗◌ (iso.hom.mul h.unit z) (f_back w))
          ((ring_same _).0 k);
    }

-- both ways
module _ {A B : Type 0} (R : CommRing A) (R' : CommRing B) (f : A → B) (iso : IsIsomorphism R R' f)
    (O M : A → Type 0) (O' M' : B → Type 0) (ring_same : (a : A) → O a ↔ O' (f a)) (same : (a : A) → M a ↔ M' (f a))
  where
    inverse : IsIsomorphism R' R (back R R' f iso)
    inverse = record {
      hom = back_hom R R' f iso;
      injective = λ a b e. sym (f_back R R' f iso a) ∙ ap f e ∙ f_back R R' f iso b;
      onto = λ a. (f a, back_f R R' f iso a);
    }

    same_back : (S : A → Type 0) (S' : B → Type 0) → ((a : A) → S a ↔ S' (f a)) → (b : B) → S' b ↔ S (back R R' f iso b)
    same_back S S' e b = (
      λ h. (e (back R R' f iso b)).1 (subst S' (sym (f_back R R' f iso b)) h),
      λ h. subst S' (f_back R R' f iso b) ((e (back R R' f iso b)).0 h),
    )

    pub maximal_iff : IsMaximalIdeal R.ops O M ↔ IsMaximalIdeal R'.ops O' M'
    maximal_iff = (
      maximal_to R R' f iso O M O' M' ring_same same,
      maximal_to R' R (back R R' f iso) inverse O' M' O M (same_back O O' ring_same) (same_back M M' same),
    )

    pub value_iff : (z : A) (m : ℕ) → PlaceAtLeast R.ops O M z m ↔ PlaceAtLeast R'.ops O' M' (f z) m
    value_iff z m = (
      value_to R R' f iso O M O' M' ring_same same z m,
      λ h.
          subst (λ x. PlaceAtLeast R.ops O M x m) (back_f R R' f iso z)
          (value_to R' R (back R R' f iso) inverse O' M' O M (same_back O O' ring_same)
          (same_back M M' same) (f z) m h),
    )

    pub value_minus_iff : (z : A) (m : ℕ) → PlaceAtLeastMinus R.ops O M z m ↔ PlaceAtLeastMinus R'.ops O' M' (f z) m
    value_minus_iff z m = (
      value_minus_to R R' f iso O M O' M' ring_same same z m,
      λ h.
          subst (λ x. PlaceAtLeastMinus R.ops O M x m) (back_f R R' f iso z)
          (value_minus_to R' R (back R R' f iso) inverse O' M' O M (same_back O O' ring_same)
          (same_back M M' same) (f z)
          m h),
    )
