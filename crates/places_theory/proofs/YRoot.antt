-- The generator y is a root of its polynomial, and a row over 1 stands for the sum of v_i·y^i.
use Rattle.std.proofs.Common.{ap₂, ◌≡◌, ℕ, zero, suc, [], ◌∷◌, refl, sym, ◌∙◌, ap}
use Rattle.ring_lemmas.specs.Ring.{CommRing, pow}
use Rattle.ring_lemmas.specs.Rows.{row_zero, Row, row_scale, shift, top, times_y}
use Rattle.ring_lemmas.proofs.Ring.{mul_zero, one_mul}
use Rattle.ring_theory.specs.Maps.{IsHom}
use Rattle.ring_theory.proofs.RowMaps.{hom_zero, hom_neg, eval, eval_none, eval_cons, eval_add, eval_scale, eval_shift}
use Rattle.ring_lemmas.proofs.Solver.{ring, reads, from_two}
use Rattle.ff_fields.specs.Field.{CodeField}
use Rattle.ff_poly.specs.Polynomials.{Polynomial, polynomials}
use Rattle.function_field.specs.Functions.{Equation, RowOver, FunctionOf, ring_of, function, of_poly, row_of, over, y_of}
use Rattle.function_field.proofs.Horner.{plain, horner, den_times_function, y_plain}
use Rattle.function_field.proofs.OnSide.{of_poly_plus, of_poly_times, den_inverse}
use Rattle.function_field.proofs.ScalarRings.{of_poly_one}

-- what has an inverse cancels
pub cancel_invertible : {A : Type 0} (R : CommRing A) (d i z w : A) → R.◌⊗◌ d i ≡ R.𝟙 → R.◌⊗◌ d z ≡ R.◌⊗◌ d w → z ≡ w
cancel_invertible R d i z w f g =
    from_two R (R.◌⊕◌ w (R.⊖◌ z)) i f g
    (ring R (d ∷ i ∷ z ∷ w ∷ []) λ q h. simp (reads, q, h 0, h 1, h 2, h 3) (q.equal _ _ refl))

module _ {P E : Type 0} (S : CommRing P) (F : CommRing E) (f : P → E) (hom : IsHom S F f) (z : E) where
  -- the row 0 goes to 0, and a constant to its image
  pub eval_null : (m : ℕ) → eval S F f hom z m (row_zero S.ops m) ≡ F.𝟘
  unfolding row_zero
  eval_null zero = eval_none S F f hom z tt
  eval_null (suc m) =
      eval_cons S F f hom z m S.𝟘 (row_zero S.ops m)
      ∙ ap₂ (λ s r. F.◌⊕◌ s (F.◌⊗◌ z r)) (hom_zero S F f hom) (eval_null m)
      ∙ ap (F.◌⊕◌ F.𝟘) (mul_zero F z) ∙ F.add_zero F.𝟘

  pub eval_constant : (m : ℕ) (a : P) → eval S F f hom z (suc m) (a, row_zero S.ops m) ≡ f a
  eval_constant m a =
      eval_cons S F f hom z m a (row_zero S.ops m)
      ∙ ap (λ s. F.◌⊕◌ (f a) (F.◌⊗◌ z s)) (eval_null m) ∙ ap (F.◌⊕◌ (f a)) (mul_zero F z) ∙ F.add_zero (f a)

module _ {k : CodeField} (c : Equation k) where
  -- polynomials as functions
  pub poly_hom : IsHom (polynomials k).ring (ring_of c) (of_poly c)
  poly_hom = record {
    add = λ a b. sym (of_poly_plus c a b);
    mul = λ a b. sym (of_poly_times c a b);
    𝟙 = sym (of_poly_one c);
  }

  -- the sum of v_i·y^i
  abbrev pub at_y : (m : ℕ) → Row (Polynomial k) m → FunctionOf c
  at_y m v = eval (polynomials k).ring (ring_of c) (of_poly c) poly_hom (y_of c) m v

  at_y_horner : (m : ℕ) (v : Row (Polynomial k) m) → at_y m v ≡ horner c m v
  unfolding horner
  at_y_horner zero v = eval_none (polynomials k).ring (ring_of c) (of_poly c) poly_hom (y_of c) v
  at_y_horner (suc m) (a, v) =
      eval_cons (polynomials k).ring (ring_of c) (of_poly c) poly_hom (y_of c) m a v
      ∙ ap (λ x. (ring_of c).◌⊕◌ (of_poly c a) ((ring_of c).◌⊗◌ (y_of c) x)) (at_y_horner m v)

  -- d·(v/d) is the sum of v_i·y^i
  pub den_times : (z : RowOver c) → (ring_of c).◌⊗◌ (of_poly c z.den) (function c z) ≡ at_y (suc c.lower_degree) z.num
  den_times z = den_times_function c z ∙ sym (at_y_horner (suc c.lower_degree) z.num)

  pub at_y_plain : (v : Row (Polynomial k) (suc c.lower_degree)) → at_y (suc c.lower_degree) v ≡ function c (plain c v)
  at_y_plain v =
      sym (den_times (plain c v)) ∙ ap (λ x. (ring_of c).◌⊗◌ x (function c (plain c v))) (sym (of_poly_one c))
      ∙ one_mul (ring_of c) (function c (plain c v))

  -- a/b is the only function that b takes to a
  pub over_times_den : (a b : Polynomial k) (n : ¬ (b ≡ (polynomials k).𝟘))
      → (ring_of c).◌⊗◌ (of_poly c b) (over c (row_of c a) b n) ≡ of_poly c a
  over_times_den a b n =
      den_times (record { num = row_of c a; den = b; den_not_zero = n })
      ∙ eval_constant (polynomials k).ring (ring_of c) (of_poly c) poly_hom (y_of c) c.lower_degree a

  pub over_unique : (a b : Polynomial k) (n : ¬ (b ≡ (polynomials k).𝟘)) (z : FunctionOf c)
      → (ring_of c).◌⊗◌ (of_poly c b) z ≡ of_poly c a → z ≡ over c (row_of c a) b n
  over_unique a b n z e =
      cancel_invertible (ring_of c) (of_poly c b) (over c (row_of c (polynomials k).𝟙) b n) z (over c (row_of c a) b n)
      (den_inverse c b n) (e ∙ sym (over_times_den a b n))

  -- the row whose last entry is 1
  last_row : (n : ℕ) → Row (Polynomial k) (suc n)
  last_row zero = ((polynomials k).𝟙, tt)
  last_row (suc n) = ((polynomials k).𝟘, last_row n)

  top_last : (n : ℕ) (a : Polynomial k) → top (polynomials k).ops (suc n) a (last_row n) ≡ (polynomials k).𝟙
  unfolding top last_row
  top_last zero a = refl
  top_last (suc n) a = top_last n (polynomials k).𝟘

  pub y_root : (ring_of c).◌⊕◌ (pow (ring_of c).ops (y_of c) (suc c.lower_degree))
      (at_y (suc c.lower_degree) c.coefficients) ≡ (ring_of c).𝟘
  unfolding times_y
  y_root =
      solve (at_y (suc n) (shift P.ops (suc n) P.𝟘 v)) (at_y (suc n) c.coefficients)
      ((ring_of c).◌⊗◌ (y_of c) (at_y (suc n) v)) (pow (ring_of c).ops (y_of c) (suc n)) turned shifted
    where
      n : ℕ
      n = c.lower_degree

      P : CommRing (Polynomial k)
      P = (polynomials k).ring

      v : Row (Polynomial k) (suc c.lower_degree)
      v = last_row c.lower_degree

      turned : (ring_of c).◌⊗◌ (y_of c) (at_y (suc c.lower_degree) (last_row c.lower_degree))
          ≡ (ring_of c).◌⊕◌ (at_y (suc c.lower_degree)
          (shift (polynomials k).ops (suc c.lower_degree) (polynomials k).𝟘 (last_row c.lower_degree)))
          ((ring_of c).◌⊗◌ ((ring_of c).⊖◌ (ring_of c).𝟙) (at_y (suc c.lower_degree) c.coefficients))
      turned =
          ap ((ring_of c).◌⊗◌ (y_of c)) (at_y_plain (last_row c.lower_degree))
          ∙ y_plain c (last_row c.lower_degree)
          ∙ sym (at_y_plain (times_y (polynomials k).ops (suc c.lower_degree) c.coefficients (last_row c.lower_degree)))
          ∙ eval_add (polynomials k).ring (ring_of c) (of_poly c) poly_hom (y_of c) (suc c.lower_degree)
          (shift (polynomials k).ops (suc c.lower_degree) (polynomials k).𝟘 (last_row c.lower_degree))
          (row_scale (polynomials k).ops (suc c.lower_degree)
          ((polynomials k).⊖◌ (top (polynomials k).ops (suc c.lower_degree) (polynomials k).𝟘
          (last_row c.lower_degree))) c.coefficients)
          ∙ ap ((ring_of c).◌⊕◌ (at_y (suc c.lower_degree)
          (shift (polynomials k).ops (suc c.lower_degree) (polynomials k).𝟘 (last_row c.lower_degree))))
          (eval_scale (polynomials k).ring (ring_of c) (of_poly c) poly_hom (y_of c) (suc c.lower_degree)
          ((polynomials k).⊖◌ (top (polynomials k).ops (suc c.lower_degree) (polynomials k).𝟘
          (last_row c.lower_degree))) c.coefficients
          ∙ ap (λ x. (ring_of c).◌⊗◌ x (at_y (suc c.lower_degree) c.coefficients))
          (ap (λ a. of_poly c ((polynomials k).⊖◌ a)) (top_last c.lower_degree (polynomials k).𝟘)
          ∙ hom_neg (polynomials k).ring (ring_of c) (of_poly c) poly_hom (polynomials k).𝟙
          ∙ ap (ring_of c).⊖◌ poly_hom.𝟙))

      shifted : (ring_of c).◌⊕◌ (at_y (suc c.lower_degree)
          (shift (polynomials k).ops (suc c.lower_degree) (polynomials k).𝟘 (last_row c.lower_degree)))
          ((ring_of c).◌⊗◌ (pow (ring_of c).ops (y_of c) (suc c.lower_degree)) (ring_of c).𝟙)
          ≡ (ring_of c).◌⊕◌ (ring_of c).𝟘
          ((ring_of c).◌⊗◌ (y_of c) (at_y (suc c.lower_degree) (last_row c.lower_degree)))
      shifted =
          ap (λ x. (ring_of c).◌⊕◌ (at_y (suc c.lower_degree)
          (shift (polynomials k).ops (suc c.lower_degree) (polynomials k).𝟘 (last_row c.lower_degree)))
          ((ring_of c).◌⊗◌ (pow (ring_of c).ops (y_of c) (suc c.lower_degree)) x))
          (sym (ap (of_poly c) (top_last c.lower_degree (polynomials k).𝟘) ∙ poly_hom.𝟙))
          ∙ eval_shift (polynomials k).ring (ring_of c) (of_poly c) poly_hom (y_of c) (suc c.lower_degree)
          (polynomials k).𝟘 (last_row c.lower_degree)
          ∙ ap (λ x. (ring_of c).◌⊕◌ x ((ring_of c).◌⊗◌ (y_of c) (at_y (suc c.lower_degree) (last_row c.lower_degree))))
          (hom_zero (polynomials k).ring (ring_of c) (of_poly c) poly_hom)

      solve : (s g a p : FunctionOf c) → a ≡ (ring_of c).◌⊕◌ s ((ring_of c).◌⊗◌ ((ring_of c).⊖◌ (ring_of c).𝟙) g)
          → (ring_of c).◌⊕◌ s ((ring_of c).◌⊗◌ p (ring_of c).𝟙) ≡ (ring_of c).◌⊕◌ (ring_of c).𝟘 a
          → (ring_of c).◌⊕◌ p g ≡ (ring_of c).𝟘
      solve s g a p e f =
          from_two (ring_of c) (ring_of c).𝟙 (ring_of c).𝟙 e f
          (ring (ring_of c) (s ∷ g ∷ a ∷ p ∷ []) λ q h. simp (reads, q, h 0, h 1, h 2, h 3) (q.equal _ _ refl))
