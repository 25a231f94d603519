-- The vectors of k[x] modulo g as the image of k[x], and the values there of polynomials at powers of x.
use Rattle.std.proofs.Common.{◌≡◌, ℕ, zero, suc, ◌-◌, ◌<◌, ◌^◌, ◌↔◌, ◌⊎◌, inl, inr, List, [], ◌∷◌, ◌++◌, length, map, refl, sym, ap, ap₂, ◌∙◌}
use Rattle.ring_lemmas.specs.Ring.{CommRing, pow}
use Rattle.ring_lemmas.specs.Congruence.{IsCongruent}
use Rattle.ring_lemmas.proofs.Ring.{mul_zero, mul_pow}
use Rattle.ring_lemmas.proofs.Congruence.{congruent_same, congruent_sym, congruent_trans, congruent_add, congruent_mul, congruent_refl}
use Rattle.ring_theory.specs.Maps.{IsHom}
use Rattle.ring_theory.proofs.RowMaps.{hom_zero}
use Rattle.ring_theory.proofs.Evaluate.{evaluate}
use Rattle.ff_fields.specs.Field.{CodeField}
use Rattle.ff_fields.specs.Code.{Code, code_ring, same_code, read_code, read_code_below}
use Rattle.ff_fields.specs.Numbers.{read}
use Rattle.ff_fields.specs.Over.{IsOver, IsOver_head, IsOver_tail}
use Rattle.ff_poly.specs.Value.{value}
use Rattle.ff_poly.specs.Polynomials.{Polynomial, polynomials, constant_poly, x_poly, value_cons, value_nil}
use Rattle.finite_algebra_theory.specs.Algebra.{IsPrimitive, IsNilpotent}
use Rattle.finite_algebra_theory.specs.ByMap.{Image}
use Rattle.finite_algebra_theory.specs.Horner.{value as horner}
use Rattle.finite_algebra_theory.proofs.Frobenius.{iterate_add, iterate_scalar}
use Rattle.ff_falg.specs.Algebras.{AlgebraOps, IsAlgebra, IsPrimitiveVector, IsNilpotentVector}
use Rattle.ff_falg.proofs.Vectors.{Vector, vector_ring, same_vector, power_value}
use Rattle.ff_falg.proofs.VectorAlgebra.{scalar, scalar_map, vector_algebra}
use Rattle.ff_factor.specs.Quotients.{IsModulus, product_modulo, quotient_algebra}
use Rattle.polynomial_theory.proofs.ListValues.{value_add_lists, value_scale_list}
use Rattle.ff_factor.specs.QuotientLaws.{quotient_laws, stands_for, same_class, product_in, value_product_modulo, value_quotient_unit}

-- ---- lists and vectors of any algebra

module _ (k : CodeField) (A : AlgebraOps) (law : IsAlgebra k A) where
  abbrev R : CommRing (Vector k A.size)
  R = vector_ring k A law

  pub primitive_vector : (e : List ℕ) → (p : IsPrimitiveVector k.ops A e) → IsPrimitive R.ops (e, p.idempotent.vector)
  primitive_vector e p = record {
    nonzero = λ z. p.nonzero (ap (λ y. y.0) z);
    idempotent = same_vector k A.size _ _ p.idempotent.square;
    least = λ f idem below. pick f (p.least f.0 (record { vector = f.1; square = ap (λ y. y.0) idem })
        (ap (λ y. y.0) below));
  }
    where
      pick : (f : Vector k A.size) → (f.0 ≡ R.𝟘.0) ⊎ (f.0 ≡ e) → (f ≡ R.𝟘) ⊎ (f ≡ (e, p.idempotent.vector))
      pick f (inl z) = inl (same_vector k A.size _ _ z)
      pick f (inr s) = inr (same_vector k A.size _ _ s)

  pub nilpotent_vector : (a : Vector k A.size) → IsNilpotent R.ops a ↔ IsNilpotentVector k.ops A a.0
  nilpotent_vector a = (
    λ n. record { exponent = n.0; is = sym (power_value k A law a n.0) ∙ ap (λ y. y.0) n.1 },
    λ n. (n.exponent, same_vector k A.size _ _ (power_value k A law a n.exponent ∙ n.is)),
  )

  -- the value of a monic list
  pub evaluate_monic : (t : Vector k A.size) (lower : List ℕ)
      → evaluate (code_ring k) R (scalar k A law) (scalar_map k A law) t (read k (lower ++ 1 ∷ []))
      ≡ horner R.ops (map (scalar k A law) (read k lower)) R.𝟙 t
  evaluate_monic t [] =
      ap₂ R.◌⊕◌ (ap (scalar k A law) (same_code k (read_code k 1) (code_ring k).𝟙
      (read_code_below k 1 k.laws.one_below)) ∙ (scalar_map k A law).𝟙) (mul_zero R t)
      ∙ R.add_zero R.𝟙
  evaluate_monic t (c ∷ lower) = ap (λ w. R.◌⊕◌ (scalar k A law (read_code k c)) (R.◌⊗◌ t w)) (evaluate_monic t lower)

  -- the values at the powers
  pub evaluate_power : (some : 0 < A.size) (m : ℕ) (t : Vector k A.size) (cs : List (Code k))
      → pow R.ops (evaluate (code_ring k) R (scalar k A law) (scalar_map k A law) t cs)
      (length (vector_algebra k A law some).codes ^ m)
      ≡ evaluate (code_ring k) R (scalar k A law) (scalar_map k A law)
      (pow R.ops t (length (vector_algebra k A law some).codes ^ m)) cs
  evaluate_power some m t [] =
      iterate_scalar R (Image (scalar k A law)) (vector_algebra k A law some) m R.𝟘
      (vector_algebra k A law some).subring.zero_in
  evaluate_power some m t (c ∷ cs) =
      let 𝓐 = vector_algebra k A law some in
      let w = evaluate (code_ring k) R (scalar k A law) (scalar_map k A law) t cs in
      iterate_add R (Image (scalar k A law)) 𝓐 m (scalar k A law c) (R.◌⊗◌ t w)
      ∙ ap₂ R.◌⊕◌ (iterate_scalar R (Image (scalar k A law)) 𝓐 m (scalar k A law c) (c, refl))
      (mul_pow R t w (length (vector_algebra k A law some).codes ^ m)
      ∙ ap (R.◌⊗◌ (pow R.ops t (length (vector_algebra k A law some).codes ^ m))) (evaluate_power some m t cs))

-- ---- k[x] modulo g

module _ (k : CodeField) (g : List ℕ) (h : IsModulus k.ops g) where
  abbrev P : CommRing (Polynomial k)
  P = (polynomials k).ring

  abbrev pub V : Type 0
  V = Vector k (length g - 1)

  abbrev pub ring_of_vectors : CommRing V
  ring_of_vectors = vector_ring k (quotient_algebra g) (quotient_laws k g h)

  abbrev Q : CommRing V
  Q = ring_of_vectors

  -- vectors of one class are the same
  pub same_classes : (x y : V) (u w : Polynomial k) → IsCongruent P.ops (value k g) (value k x.0) u
      → IsCongruent P.ops (value k g) (value k y.0) w
      → IsCongruent P.ops (value k g) u w → x ≡ y
  same_classes x y u w x_is y_is c =
      same_vector k (length g - 1) x y
      (same_class k g h x.0 y.0 x.1 y.1
      (congruent_trans P (value k g) _ u _ x_is
      (congruent_trans P (value k g) u w _ c (congruent_sym P (value k g) _ w y_is))))

  -- the vector of a polynomial
  unfoldable pub vector_of : Polynomial k → V
  vector_of u = ((stands_for k g h u).vector, (stands_for k g h u).vector_in)

  pub vector_of_is : (u : Polynomial k) → IsCongruent P.ops (value k g) (value k (vector_of u).0) u
  unfolding vector_of
  vector_of_is u = (stands_for k g h u).value_is

  pub vector_hom : IsHom P Q vector_of
  vector_hom = record {
    add = λ a b.
        same_classes _ _ _ _ (vector_of_is (P.◌⊕◌ a b))
        (congruent_trans P (value k g) _ _ _
        (congruent_same P (value k g) _ _
        (value_add_lists k (vector_of a).0 (vector_of b).0 (vector_of a).1.over (vector_of b).1.over))
        (congruent_add P (value k g) _ _ _ _ (vector_of_is a) (vector_of_is b)))
        (congruent_refl P (value k g) (P.◌⊕◌ a b));
    mul = λ a b.
        same_classes _ _ _ _ (vector_of_is (P.◌⊗◌ a b))
        (congruent_trans P (value k g) _ _ _
        (value_product_modulo k g h (vector_of a).0 (vector_of b).0 (vector_of a).1.over (vector_of b).1)
        (congruent_mul P (value k g) _ _ _ _ (vector_of_is a) (vector_of_is b)))
        (congruent_refl P (value k g) (P.◌⊗◌ a b));
    𝟙 =
        same_classes _ _ _ _ (vector_of_is P.𝟙) (congruent_same P (value k g) _ _ (value_quotient_unit k g h))
        (congruent_refl P (value k g) P.𝟙);
  }

  pub onto : (x : V) → (u : Polynomial k) × (x ≡ vector_of u)
  onto x = (
    value k x.0,
    same_classes _ _ _ _ (congruent_refl P (value k g) (value k x.0)) (vector_of_is (value k x.0))
        (congruent_refl P (value k g) (value k x.0)),
  )

  -- the product of a polynomial with a vector
  pub product_vector : (u : List ℕ) (e : V) → IsOver k.ops u
      → product_modulo k.ops g u e.0 ≡ (Q.◌⊗◌ (vector_of (value k u)) e).0
  product_vector u e u_in =
      ap (λ y. y.0)
      (same_classes (product_modulo k.ops g u e.0, product_in k g h u e.0 u_in e.1) (Q.◌⊗◌ (vector_of (value k u)) e) _
      _
      (value_product_modulo k g h u e.0 u_in e.1)
      (congruent_trans P (value k g) _ _ _
      (value_product_modulo k g h (vector_of (value k u)).0 e.0 (vector_of (value k u)).1.over e.1)
      (congruent_mul P (value k g) _ _ _ _ (vector_of_is (value k u)) (congruent_refl P (value k g) (value k e.0))))
      (congruent_refl P (value k g) (P.◌⊗◌ (value k u) (value k e.0))))

  pub vector_power : (u : Polynomial k) (n : ℕ) → vector_of (pow P.ops u n) ≡ pow Q.ops (vector_of u) n
  vector_power u zero = vector_hom.𝟙
  vector_power u (suc n) = vector_hom.mul u (pow P.ops u n) ∙ ap (Q.◌⊗◌ (vector_of u)) (vector_power u n)

  vector_constant : (c : ℕ) → c < k.size
      → vector_of (constant_poly k c) ≡ scalar k (quotient_algebra g) (quotient_laws k g h) (read_code k c)
  vector_constant c c_in =
      same_classes _ _ _ _ (vector_of_is (constant_poly k c))
      (congruent_same P (value k g) _ _
      (value_scale_list k (read_code k c).0 (quotient_algebra g).unit (read_code k c).1
      (quotient_laws k g h).unit_in.over
      ∙ ap₂ P.◌⊗◌ (ap (constant_poly k) (read_code_below k c c_in)) (value_quotient_unit k g h)
      ∙ P.mul_one (constant_poly k c)))
      (congruent_refl P (value k g) (constant_poly k c))

  -- the vector of a polynomial is its value at that of x
  pub vector_value : (u : List ℕ) → IsOver k.ops u
      → vector_of (value k u) ≡ evaluate (code_ring k) Q (scalar k (quotient_algebra g) (quotient_laws k g h))
      (scalar_map k (quotient_algebra g) (quotient_laws k g h)) (vector_of (x_poly k)) (read k u)
  vector_value [] u_in = ap vector_of (value_nil k) ∙ hom_zero P Q vector_of vector_hom
  vector_value (c ∷ u) u_in =
      ap vector_of (value_cons k c u)
      ∙ vector_hom.add (constant_poly k c) (P.◌⊗◌ (x_poly k) (value k u))
      ∙ ap₂ Q.◌⊕◌ (vector_constant c (IsOver_head u_in))
      (vector_hom.mul (x_poly k) (value k u) ∙ ap (Q.◌⊗◌ (vector_of (x_poly k))) (vector_value u (IsOver_tail u_in)))
