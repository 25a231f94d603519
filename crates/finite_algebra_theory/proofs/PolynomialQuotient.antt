-- The polynomials over a finite field modulo a monic one of degree at least 1 are a finite algebra.
use Rattle.std.proofs.Common.{◌≡◌, ℕ, zero, suc, ◌-◌, ◌≤◌, ◌<◌, List, [], ◌∷◌, length, refl, sym, ◌∙◌, ap, ap₂, subst, arith}
use mathlib.Core.HLevel.{Σ_prop_path}
use Rattle.ring_lemmas.specs.Ring.{CommRing, TestedRing, IsDomain, IsField}
use Rattle.ring_lemmas.specs.Lists.{coeff_of}
use Rattle.ring_theory.specs.Subsets.{Span}
use Rattle.ring_lemmas.specs.Congruence.{IsCongruent}
use Rattle.ring_lemmas.proofs.Ring.{field_domain, zero_mul}
use Rattle.ring_lemmas.specs.Polynomials.{Pol, pol_ops, constant}
use Rattle.ring_theory.specs.PolynomialRing.{pol_ring}
use Rattle.ring_theory.proofs.Polynomials.{pol_domain}
use Rattle.ring_lemmas.proofs.Polynomials.{IsTrimmed_prop}
use Rattle.ring_lemmas.proofs.Congruence.{congruent_sym, congruent_trans, congruent_add, congruent_mul, congruent_same}
use Rattle.ring_theory.specs.Classes.{Class, class_of, rest}
use Rattle.finite_algebra_theory.specs.Classes.{classes}
use Rattle.ring_theory.proofs.Classes.{class_same, short_same, length_rest, rest_congruent}
use Rattle.ring_theory.specs.Maps.{IsHom}
use Rattle.ring_theory.proofs.Evaluate.{length_trim, constant_hom, x_pol, pol_self, pol_value, evaluate, evaluate_hom, hom_after}
use Rattle.ring_lemmas.proofs.Solver.{ring, reads}
use Rattle.ring_theory.proofs.Subsets.{span_zero}
use Rattle.finite_algebra_theory.specs.Algebra.{FiniteAlgebra, powers}
use Rattle.finite_algebra_theory.specs.ByMap.{FiniteField, Image}
use Rattle.finite_algebra_theory.proofs.ByMap.{algebra, image_subring}

-- equality of lists is decided where that of their members is
list_discrete : {A : Type 0} → ((a b : A) → Dec (a ≡ b)) → (xs ys : List A) → Dec (xs ≡ ys)
list_discrete d [] [] = yes refl
list_discrete d [] (y ∷ ys) = no (λ e. cc)
list_discrete d (x ∷ xs) [] = no (λ e. cc)
list_discrete d (x ∷ xs) (y ∷ ys) = go (d x y) (list_discrete d xs ys)
  where
    go : Dec (x ≡ y) → Dec (xs ≡ ys) → Dec (x ∷ xs ≡ y ∷ ys)
    go (yes e) (yes f) = yes (ap₂ (λ a b. a ∷ b) e f)
    go (no n) d = no (λ e. n (let t : x ≡ y = cc in t))
    go (yes e) (no n) = no (λ f. n (let t : xs ≡ ys = cc in t))

-- the values of lists of at most n coefficients are combinations of n powers
module _ {A E : Type 0} (r : TestedRing A) (F : CommRing E) (e : A → E) (hom : IsHom r.ring F e) (t : E) where
  pub value_in_powers : (n : ℕ) (u : E) (w : List A) → length w ≤ n
      → Span F.ops (Image e) (powers F.ops t u n) (F.◌⊗◌ (evaluate r F e hom t w) u)
  value_in_powers n u [] l =
      subst (Span F.ops (Image e) (powers F.ops t u n)) (sym (zero_mul F u))
      (span_zero F (Image e) (image_subring r.ring F e hom) (powers F.ops t u n))
  value_in_powers zero u (c ∷ w) l = absurd (omega arith)
  value_in_powers (suc n) u (c ∷ w) l = record {
    scalar = e c;
    scalar_in = (c, refl);
    rest = F.◌⊗◌ (evaluate r F e hom t w) (F.◌⊗◌ t u);
    rest_in = value_in_powers n (F.◌⊗◌ t u) w (omega arith);
    is = spread (e c) (evaluate r F e hom t w);
  }
    where
      spread : (a v : E) → F.◌⊗◌ (F.◌⊕◌ a (F.◌⊗◌ t v)) u ≡ F.◌⊕◌ (F.◌⊗◌ a u) (F.◌⊗◌ v (F.◌⊗◌ t u))
      spread a v = ring F (a ∷ v ∷ t ∷ u ∷ []) λ q h. simp (reads, q, h 0, h 1, h 2, h 3) (q.equal _ _ refl)

module _ {A : Type 0} (r : TestedRing A) (field : IsField r.ops) (f : Pol r)
    (monic : r.◌⊗◌ r.𝟙 (coeff_of r.ops f.0 (length f.0 - 1)) ≡ r.𝟙) (deep : 1 < length f.0) where
  domain : IsDomain r.ops
  domain = field_domain r.ring field

  abbrev P : CommRing (Pol r)
  P = (pol_ring r).ring

  abbrev C : CommRing (Class r (field_domain r.ring field) f monic deep)
  C = (classes r (field_domain r.ring field) f monic deep).ring

  abbrev pub of : Pol r → Class r (field_domain r.ring field) f monic deep
  of a = class_of r (field_domain r.ring field) f monic deep a

  congruent_eq : (a b : Pol r) → IsCongruent P.ops f a b → of a ≡ of b
  congruent_eq a b c =
      class_same r (field_domain r.ring field) f monic deep (of a) (of b)
      (short_same r (field_domain r.ring field) f monic deep _ _
      (length_rest r (field_domain r.ring field) f monic deep a)
      (length_rest r (field_domain r.ring field) f monic deep b)
      (congruent_trans P f _ a _ (rest_congruent r (field_domain r.ring field) f monic deep a)
      (congruent_trans P f a b _ c (congruent_sym P f _ b
      (rest_congruent r (field_domain r.ring field) f monic deep b)))))

  own : (a : Pol r) → IsCongruent P.ops f a (rest r (field_domain r.ring field) f monic deep a)
  own a = congruent_sym P f _ a (rest_congruent r (field_domain r.ring field) f monic deep a)

  -- to take the rest is a homomorphism
  pub rest_hom : IsHom P C of
  rest_hom = record {
    add = λ a b. congruent_eq (P.◌⊕◌ a b) _ (congruent_add P f a _ b _ (own a) (own b));
    mul = λ a b. congruent_eq (P.◌⊗◌ a b) _ (congruent_mul P f a _ b _ (own a) (own b));
    𝟙 = refl;
  }

  -- the classes of the constants
  abbrev pub of_constant : A → Class r (field_domain r.ring field) f monic deep
  of_constant a = of (constant r a)

  pub constant_map : IsHom r.ring C of_constant
  constant_map = hom_after r.ring P C (constant r) of (constant_hom r) rest_hom

  of_short : (y : Class r (field_domain r.ring field) f monic deep) → of y.0 ≡ y
  of_short y =
      class_same r (field_domain r.ring field) f monic deep (of y.0) y
      (short_same r (field_domain r.ring field) f monic deep _ y.0
      (length_rest r (field_domain r.ring field) f monic deep y.0) y.1
      (rest_congruent r (field_domain r.ring field) f monic deep y.0))

  -- each class is a combination of the powers of the class of x
  abbrev X : Class r (field_domain r.ring field) f monic deep
  X = of (x_pol r)

  class_value : (y : Class r (field_domain r.ring field) f monic deep)
      → y ≡ evaluate r C of_constant constant_map X y.0.0
  class_value y =
      sym (of_short y) ∙ ap of (sym (pol_self r y.0) ∙ pol_value r y.0.0)
      ∙ evaluate_hom r P (constant r) (constant_hom r) (x_pol r) C of rest_hom y.0.0

  pub class_spans : (y : Class r (field_domain r.ring field) f monic deep)
      → Span C.ops (Image of_constant) (powers C.ops X C.𝟙 (length f.0)) y
  class_spans y =
      subst (Span C.ops (Image of_constant) (powers C.ops X C.𝟙 (length f.0))) (C.mul_one _ ∙ sym (class_value y))
      (value_in_powers r C of_constant constant_map X (length f.0) C.𝟙 y.0.0
      (let l : length y.0.0 < length f.0 = y.1 in omega arith))

  class_discrete : ((a b : A) → Dec (a ≡ b)) → (y z : Class r (field_domain r.ring field) f monic deep) → Dec (y ≡ z)
  class_discrete d y z = go (list_discrete d y.0.0 z.0.0)
    where
      go : Dec (y.0.0 ≡ z.0.0) → Dec (y ≡ z)
      go (yes e) = yes (class_same r (field_domain r.ring field) f monic deep y z
          (Σ_prop_path (IsTrimmed_prop r.is_zero) e))
      go (no n) = no (λ e. n (ap (λ v. v.0.0) e))

  class_nonzero : ¬ (C.𝟙 ≡ C.𝟘)
  unfolding pol_ops
  class_nonzero e =
      (pol_domain r domain).one_not_zero
      (short_same r (field_domain r.ring field) f monic deep P.𝟙 P.𝟘
      (let l : length P.𝟙.0 ≤ 1 = length_trim r.is_zero (r.𝟙 ∷ []) in omega (arith, deep)) (omega (arith, deep))
      (congruent_trans P f P.𝟙 (rest r (field_domain r.ring field) f monic deep P.𝟙) P.𝟘 (own P.𝟙)
      (congruent_trans P f (rest r (field_domain r.ring field) f monic deep P.𝟙)
      (rest r (field_domain r.ring field) f monic deep P.𝟘) P.𝟘
      (congruent_same P f _ _ (ap (λ y. y.0) e)) (rest_congruent r (field_domain r.ring field) f monic deep P.𝟘))))

  -- the polynomials modulo f, over the classes of the constants
  pub quotient_algebra : FiniteField r.ops → FiniteAlgebra C.ops (Image of_constant)
  quotient_algebra 𝓚 =
      algebra r.ring C of_constant constant_map 𝓚 (class_discrete 𝓚.decide) class_nonzero
      (powers C.ops X C.𝟙 (length f.0)) class_spans
