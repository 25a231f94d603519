-- The value of a polynomial at an element of a ring over its coefficients: a homomorphism. Constants are one too.
use Rattle.std.proofs.Common.{◌≡◌, ◌≤◌, arith, length, ℕ, zero, suc, Bool, true, false, cond, List, [], ◌∷◌, refl, sym, ◌∙◌, ap, ap₂}
use Rattle.ring_lemmas.specs.Ring.{CommRing, TestedRing}
use Rattle.ring_lemmas.specs.Lists.{coeff_of, tail_of, add_lists, scale_list, mul_lists, trim, trim_onto}
use Rattle.ring_lemmas.proofs.Ring.{zero_add, one_mul, mul_zero, zero_mul}
use Rattle.ring_lemmas.proofs.Sequences.{convolution_constant_left}
use Rattle.ring_lemmas.proofs.Lists.{coeff_trim}
use Rattle.ring_lemmas.specs.Polynomials.{Pol, pol_of, pol_ops, constant}
use Rattle.ring_theory.specs.PolynomialRing.{pol_ring}
use Rattle.ring_lemmas.proofs.Polynomials.{same_pol, series_add, series_mul}
use Rattle.ring_theory.specs.Maps.{IsHom}
use Rattle.ring_theory.proofs.RowMaps.{hom_zero}
use Rattle.ring_lemmas.proofs.Solver.{ring, reads}

pub length_trim : {A : Type 0} (z : A → Bool) (xs : List A) → length (trim z xs) ≤ length xs
length_trim z [] = omega arith
length_trim z (x ∷ xs) = onto (trim z xs) (length_trim z xs)
  where
    onto : (ys : List _) → length ys ≤ length xs → length (trim_onto z x ys) ≤ suc (length xs)
    onto [] l = go (z x)
      where
        go : (b : Bool) → length (cond b [] (x ∷ [])) ≤ suc (length xs)
        go true = omega arith
        go false = omega arith
    onto (y ∷ ys) l = omega arith

-- a homomorphism after another
pub hom_after : {A B C : Type 0} (R : CommRing A) (S : CommRing B) (T : CommRing C) (f : A → B) (g : B → C)
    → IsHom R S f → IsHom S T g → IsHom R T (λ a. g (f a))
hom_after R S T f g h k = record {
  add = λ a b. ap g (h.add a b) ∙ k.add (f a) (f b);
  mul = λ a b. ap g (h.mul a b) ∙ k.mul (f a) (f b);
  𝟙 = ap g h.𝟙 ∙ k.𝟙;
}

module _ {A : Type 0} (r : TestedRing A) where
  constant_first : (a : A) → coeff_of r.ops (constant r a).0 zero ≡ a
  constant_first a = coeff_trim r (a ∷ []) zero

  constant_rest : (a : A) (n : ℕ) → coeff_of r.ops (constant r a).0 (suc n) ≡ r.𝟘
  constant_rest a n = coeff_trim r (a ∷ []) (suc n)

  pub constant_hom : IsHom r.ring (pol_ring r).ring (constant r)
  unfolding pol_ops
  constant_hom = record {
    add = λ a b. sym (same_pol r _ _ (λ n. series_add r (constant r a) (constant r b) n ∙ sums a b n));
    mul = λ a b. sym (same_pol r _ _ (λ n.
        series_mul r (constant r a) (constant r b) n
        ∙ convolution_constant_left r.ring (coeff_of r.ops (constant r a).0) (coeff_of r.ops (constant r b).0)
        (constant_rest a) n
        ∙ products a b n));
    𝟙 = refl;
  }
    where
      sums : (a b : A) (n : ℕ)
          → r.◌⊕◌ (coeff_of r.ops (constant r a).0 n) (coeff_of r.ops (constant r b).0 n)
          ≡ coeff_of r.ops (constant r (r.◌⊕◌ a b)).0 n
      sums a b zero = ap₂ r.◌⊕◌ (constant_first a) (constant_first b) ∙ sym (constant_first (r.◌⊕◌ a b))
      sums a b (suc n) = ap₂ r.◌⊕◌ (constant_rest a n) (constant_rest b n) ∙ r.add_zero r.𝟘
          ∙ sym (constant_rest (r.◌⊕◌ a b) n)

      products : (a b : A) (n : ℕ)
          → r.◌⊗◌ (coeff_of r.ops (constant r a).0 zero) (coeff_of r.ops (constant r b).0 n)
          ≡ coeff_of r.ops (constant r (r.◌⊗◌ a b)).0 n
      products a b zero = ap₂ r.◌⊗◌ (constant_first a) (constant_first b) ∙ sym (constant_first (r.◌⊗◌ a b))
      products a b (suc n) =
          ap (r.◌⊗◌ (coeff_of r.ops (constant r a).0 zero)) (constant_rest b n) ∙ mul_zero r.ring _
          ∙ sym (constant_rest (r.◌⊗◌ a b) n)

  -- the polynomial x, and a list as its first coefficient plus x times the rest
  abbrev pub x_pol : Pol r
  x_pol = pol_of r (r.𝟘 ∷ r.𝟙 ∷ [])

  x_first : coeff_of r.ops x_pol.0 zero ≡ r.𝟘
  x_first = coeff_trim r (r.𝟘 ∷ r.𝟙 ∷ []) zero

  x_second : coeff_of r.ops x_pol.0 1 ≡ r.𝟙
  x_second = coeff_trim r (r.𝟘 ∷ r.𝟙 ∷ []) 1

  x_rest : (n : ℕ) → coeff_of r.ops x_pol.0 (suc (suc n)) ≡ r.𝟘
  x_rest n = coeff_trim r (r.𝟘 ∷ r.𝟙 ∷ []) (suc (suc n))

  pub pol_cons : (c : A) (w : List A) → pol_of r (c ∷ w)
      ≡ (pol_ring r).◌⊕◌ (constant r c) ((pol_ring r).◌⊗◌ x_pol (pol_of r w))
  pol_cons c w =
      same_pol r _ _ (λ n. coeff_trim r (c ∷ w) n
      ∙ sym (series_add r (constant r c) ((pol_ring r).◌⊗◌ x_pol (pol_of r w)) n ∙ go n))
    where
      go : (n : ℕ) → r.◌⊕◌ (coeff_of r.ops (constant r c).0 n)
          (coeff_of r.ops ((pol_ring r).◌⊗◌ x_pol (pol_of r w)).0 n) ≡ coeff_of r.ops (c ∷ w) n
      go zero =
          ap₂ r.◌⊕◌ (constant_first c)
          (series_mul r x_pol (pol_of r w) zero ∙ ap (λ a. r.◌⊗◌ a (coeff_of r.ops (pol_of r w).0 zero)) x_first
          ∙ zero_mul r.ring _)
          ∙ r.add_zero c
      go (suc n) =
          ap₂ r.◌⊕◌ (constant_rest c n)
          (series_mul r x_pol (pol_of r w) (suc n)
          ∙ ap₂ r.◌⊕◌ (ap (λ a. r.◌⊗◌ a (coeff_of r.ops (pol_of r w).0 (suc n))) x_first ∙ zero_mul r.ring _)
          (convolution_constant_left r.ring (tail_of (coeff_of r.ops x_pol.0)) (coeff_of r.ops (pol_of r w).0) x_rest n
          ∙ ap (λ a. r.◌⊗◌ a (coeff_of r.ops (pol_of r w).0 n)) x_second ∙ one_mul r.ring _ ∙ coeff_trim r w n)
          ∙ zero_add r.ring _)
          ∙ zero_add r.ring _

  pub pol_self : (p : Pol r) → pol_of r p.0 ≡ p
  pol_self p = same_pol r _ _ (λ n. coeff_trim r p.0 n)

module _ {A E : Type 0} (r : TestedRing A) (F : CommRing E) (e : A → E) (hom : IsHom r.ring F e) (t : E) where
  infixl 65 ◌⊕◌
  infixl 70 ◌⊗◌
  infixr 80 ⊖◌
  open F use {𝟘, 𝟙, ◌⊕◌, ◌⊗◌, ⊖◌}

  -- the sum of e(c_i)·t^i
  abbrev pub evaluate : List A → E
  evaluate [] = 𝟘
  evaluate (c ∷ w) = e c ⊕ t ⊗ evaluate w

  pub evaluate_add : (v w : List A) → evaluate (add_lists r.ops v w) ≡ evaluate v ⊕ evaluate w
  evaluate_add [] w = sym (zero_add F (evaluate w))
  evaluate_add (a ∷ v) [] = sym (F.add_zero (evaluate (a ∷ v)))
  evaluate_add (a ∷ v) (b ∷ w) =
      ap₂ (λ x y. x ⊕ t ⊗ y) (hom.add a b) (evaluate_add v w) ∙ step (e a) (e b) (evaluate v) (evaluate w)
    where
      step : (a b v w : E) → a ⊕ b ⊕ t ⊗ (v ⊕ w) ≡ a ⊕ t ⊗ v ⊕ (b ⊕ t ⊗ w)
      step a b v w = ring F (a ∷ b ∷ v ∷ w ∷ t ∷ []) λ q h. simp (reads, q, h 0, h 1, h 2, h 3, h 4) (q.equal _ _ refl)

  pub evaluate_scale : (c : A) (w : List A) → evaluate (scale_list r.ops c w) ≡ e c ⊗ evaluate w
  evaluate_scale c [] = sym (mul_zero F (e c))
  evaluate_scale c (b ∷ w) = ap₂ (λ x y. x ⊕ t ⊗ y) (hom.mul c b) (evaluate_scale c w) ∙ step (e c) (e b) (evaluate w)
    where
      step : (c b w : E) → c ⊗ b ⊕ t ⊗ (c ⊗ w) ≡ c ⊗ (b ⊕ t ⊗ w)
      step c b w = ring F (c ∷ b ∷ w ∷ t ∷ []) λ q h. simp (reads, q, h 0, h 1, h 2, h 3) (q.equal _ _ refl)

  pub evaluate_mul : (v w : List A) → evaluate (mul_lists r.ops v w) ≡ evaluate v ⊗ evaluate w
  evaluate_mul [] w = sym (zero_mul F (evaluate w))
  evaluate_mul (a ∷ v) w =
      evaluate_add (scale_list r.ops a w) (r.𝟘 ∷ mul_lists r.ops v w)
      ∙ ap₂ ◌⊕◌ (evaluate_scale a w) (ap₂ (λ x y. x ⊕ t ⊗ y) (hom_zero r.ring F e hom) (evaluate_mul v w))
      ∙ step (e a) (evaluate v) (evaluate w)
    where
      step : (a v w : E) → a ⊗ w ⊕ (𝟘 ⊕ t ⊗ (v ⊗ w)) ≡ (a ⊕ t ⊗ v) ⊗ w
      step a v w = ring F (a ∷ v ∷ w ∷ t ∷ []) λ q h. simp (reads, q, h 0, h 1, h 2, h 3) (q.equal _ _ refl)

  pub evaluate_trim : (w : List A) → evaluate (trim r.is_zero w) ≡ evaluate w
  evaluate_trim [] = refl
  evaluate_trim (a ∷ w) = onto (trim r.is_zero w) ∙ ap (λ x. e a ⊕ t ⊗ x) (evaluate_trim w)
    where
      onto : (v : List A) → evaluate (trim_onto r.is_zero a v) ≡ evaluate (a ∷ v)
      onto [] = go (r.is_zero a) refl
        where
          go : (b : Bool) → r.is_zero a ≡ b → evaluate (cond b [] (a ∷ [])) ≡ evaluate (a ∷ [])
          go true z =
              sym (ap₂ ◌⊕◌ (ap e (r.zero_from a z) ∙ hom_zero r.ring F e hom) (mul_zero F t) ∙ F.add_zero 𝟘)
          go false z = refl
      onto (b ∷ v) = refl

  -- the value of a polynomial
  abbrev pub value_of : Pol r → E
  value_of p = evaluate p.0

  pub value_hom : IsHom (pol_ring r).ring F value_of
  unfolding pol_ops
  value_hom = record {
    add = λ a b. evaluate_trim (add_lists r.ops a.0 b.0) ∙ evaluate_add a.0 b.0;
    mul = λ a b. evaluate_trim (mul_lists r.ops a.0 b.0) ∙ evaluate_mul a.0 b.0;
    𝟙 = evaluate_trim (r.𝟙 ∷ []) ∙ ap₂ ◌⊕◌ hom.𝟙 (mul_zero F t) ∙ F.add_zero 𝟙;
  }

  -- the value of a constant
  pub value_constant : (c : A) → value_of (constant r c) ≡ e c
  value_constant c = evaluate_trim (c ∷ []) ∙ ap (λ x. e c ⊕ x) (mul_zero F t) ∙ F.add_zero (e c)

-- a homomorphism takes values to values
pub evaluate_hom : {A E G : Type 0} (r : TestedRing A) (F : CommRing E) (e : A → E) (hom : IsHom r.ring F e) (t : E)
    (H : CommRing G) (f : E → G) (g : IsHom F H f) (w : List A)
    → f (evaluate r F e hom t w) ≡ evaluate r H (λ a. f (e a)) (hom_after r.ring F H e f hom g) (f t) w
evaluate_hom r F e hom t H f g [] = hom_zero F H f g
evaluate_hom r F e hom t H f g (c ∷ w) =
    g.add (e c) (F.◌⊗◌ t (evaluate r F e hom t w))
    ∙ ap (H.◌⊕◌ (f (e c))) (g.mul t (evaluate r F e hom t w) ∙ ap (H.◌⊗◌ (f t)) (evaluate_hom r F e hom t H f g w))

-- a polynomial is its value at x
pub pol_value : {A : Type 0} (r : TestedRing A) (w : List A)
    → pol_of r w ≡ evaluate r (pol_ring r).ring (constant r) (constant_hom r) (x_pol r) w
unfolding pol_ops
pol_value r [] = refl
pol_value r (c ∷ w) = pol_cons r c w ∙ ap (λ p. (pol_ring r).◌⊕◌ (constant r c) ((pol_ring r).◌⊗◌ (x_pol r) p))
    (pol_value r w)
