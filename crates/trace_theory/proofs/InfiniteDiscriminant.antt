-- The infinite presentation: its traces of powers of Y, and its discriminant, read at t = 1/x, are those of the finite
-- one times powers of t.
use Rattle.std.proofs.Common.{◌≡◌, ℕ, zero, suc, ◌<◌, ◌≤◌, ◌+◌, ◌-◌, ◌*◌, List, [], ◌∷◌, length, get_or, reverse, refl, sym, ◌∙◌, ap, ap₂, subst, arith}
use Rattle.std.proofs.lemmas.List.{length-map, length-reverse}
use Rattle.ring_lemmas.specs.Ring.{CommRing, pow}
use Rattle.ring_lemmas.specs.Rows.{entry}
use Rattle.ring_lemmas.proofs.Ring.{pow_mul, mul_pow, pow_one_base, eq_of_sub, sub_of_eq, mul_zero, pow_add}
use mathlib.Core.List.{reverse-reverse}
use Rattle.ring_theory.proofs.RowMaps.{hom_neg}
use Rattle.trace_theory.proofs.Determinants.{image_power}
use Rattle.ring_lemmas.proofs.Solver.{ring, reads, from_three, from_one}
use Rattle.ring_theory.proofs.Polynomials.{length_product, length_product_le}
use Rattle.ff_fields.specs.Field.{CodeField}
use Rattle.ff_fields.specs.Code.{code_ring, code_domain}
use Rattle.ff_poly.specs.Value.{value}
use Rattle.ff_poly.specs.Polynomials.{Polynomial, polynomials, polynomials_domain, polynomial_discrete, codes_of, value_nil, x_poly, value_one, value_codes_of}
use Rattle.function_field.specs.declared.side.Side.TheVariants.{Finite, Infinite}
use Rattle.function_field.specs.Functions.{of_poly}
use Rattle.function_field.specs.Values.{PresValue, Functions, functions, equation_of, row_of_list}
use Rattle.function_field.specs.Infinity.{variable, value_at, IsInfinitePresentation}
use Rattle.function_field.specs.Discriminant.{discriminant}
use Rattle.function_field.proofs.OnSide.{value_at_x, of_poly_zero}
use Rattle.places_theory.proofs.YRoot.{poly_hom}
use Rattle.polynomial_theory.proofs.Lengths.{x_power_not_zero, zero_length, x_power_long}
use Rattle.places_theory.proofs.AtInfinity.{at, at_hom, at_codes, value_at_is, x_times_t, x_power, powers_cancel, turned, turned_is, turned_zero, constant_zero, reversed}
use Rattle.trace_theory.proofs.RowMatrix.{tr, y}
use Rattle.trace_theory.proofs.RowForm.{disc}
use Rattle.trace_theory.proofs.FunctionTraces.{polynomial_value}
use Rattle.trace_theory.proofs.Weights.{trace_weights, discriminant_weights}
use Rattle.polynomial_theory.proofs.ListValues.{value_short}

module _ (k : CodeField) where
  entry_listed : (n i : ℕ) (vs : List (List ℕ)) → i < n
      → entry (polynomials k).ops n i (row_of_list k n vs) ≡ value k (get_or vs i [])
  unfolding entry
  entry_listed zero i vs less = absurd (omega arith)
  entry_listed (suc n) zero [] less = sym (value_nil k)
  entry_listed (suc n) zero (v ∷ vs) less = refl
  entry_listed (suc n) (suc i) [] less = entry_listed n i [] (omega arith) ∙ refl
  entry_listed (suc n) (suc i) (v ∷ vs) less = entry_listed n i vs (omega arith)

  -- x^m has m + 1 coefficients at most
  x_power_short : (m : ℕ) → length (pow (polynomials k).ops (x_poly k) m).0 ≤ suc m
  x_power_short zero = one (length_product (code_ring k) (code_domain k) (polynomials k).𝟙 (polynomials k).𝟙
      (polynomials_domain k).one_not_zero (polynomials_domain k).one_not_zero)
    where
      one : suc (length ((polynomials k).◌⊗◌ (polynomials k).𝟙 (polynomials k).𝟙).0)
          ≡ length (polynomials k).𝟙.0 + length (polynomials k).𝟙.0 → length (polynomials k).𝟙.0 ≤ 1
      one f =
          let g : length ((polynomials k).◌⊗◌ (polynomials k).𝟙 (polynomials k).𝟙).0
          ≡ length (polynomials k).𝟙.0 = ap (λ p. length p.0) ((polynomials k).mul_one (polynomials k).𝟙) in
          omega arith
  x_power_short (suc m) =
      omega (
        arith,
        x_power_short m,
        value_short k (0 ∷ 1 ∷ []),
        length_product_le (code_ring k) (code_domain k)
            (x_poly k) (pow (polynomials k).ops (x_poly k) m),
      )

  turned_short : (p : PresValue) (a : Polynomial k) → length (turned k p a).0 ≤ suc (length (codes_of k a))
  turned_short p a =
      omega (
        arith,
        value_short k (0 ∷ 1 ∷ []),
        value_short k (reverse (codes_of k a)),
        length-reverse (codes_of k a),
        length_product_le (code_ring k) (code_domain k) (x_poly k) (value k (reverse (codes_of k a))),
      )

module _ (k : CodeField) (p q : PresValue) (c : ℕ) (h : IsInfinitePresentation k p c q) (some : 1 ≤ p.n) where
  infixl 70 ◌⊗◌
  open functions k p use {𝟙, ◌⊗◌}

  abbrev F : CommRing (Functions k p)
  F = functions k p

  abbrev pub t : Functions k p
  t = variable k p Infinite

  abbrev x : Functions k p
  x = variable k p Finite

  abbrev P : CommRing (Polynomial k)
  P = (polynomials k).ring

  -- t^c and its inverse
  abbrev pub T : Functions k p
  T = pow F.ops t c

  unit : T ⊗ pow F.ops x c ≡ 𝟙
  unit = sym (mul_pow F t x c) ∙ ap (λ z. pow F.ops z c) (F.mul_comm t x ∙ x_times_t k p) ∙ pow_one_base F c

  coefficients : (j : ℕ) → j < suc (p.n - 1)
      → at k p t (entry P.ops (suc (p.n - 1)) j (row_of_list k (suc (p.n - 1)) q.coeffs))
      ≡ of_poly (equation_of k p) (entry P.ops (suc (p.n - 1)) j (row_of_list k (suc (p.n - 1)) p.coeffs)) ⊗ pow F.ops T
      (suc (p.n - 1) - j)
  coefficients j l =
      ap (at k p t) (entry_listed k (suc (p.n - 1)) j q.coeffs l) ∙ sym (value_at_is k p t (get_or q.coeffs j []))
      ∙ h.coefficients j (omega arith)
      ∙ ap₂ ◌⊗◌ (value_at_x k p (get_or p.coeffs j [])
      ∙ ap (of_poly (equation_of k p)) (sym (entry_listed k (suc (p.n - 1)) j p.coeffs l)))
      (pow_mul F t c (p.n - j) ∙ ap (pow F.ops T) (let e : p.n - j ≡ suc (p.n - 1) - j = omega arith in e))

  degrees : p.n - 1 ≡ q.n - 1
  degrees = let e : q.n ≡ p.n = h.degree in omega arith

  -- the traces of the powers of Y
  pub infinite_trace : (m : ℕ) → at k p t
      (tr P (q.n - 1) (equation_of k q).coefficients (y P (q.n - 1) (equation_of k q).coefficients m))
      ≡ of_poly (equation_of k p) (tr P (p.n - 1) (equation_of k p).coefficients
      (y P (p.n - 1) (equation_of k p).coefficients m)) ⊗ pow F.ops T m
  infinite_trace m =
      subst
      (λ n. at k p t (tr P n (row_of_list k (suc n) q.coeffs) (y P n (row_of_list k (suc n) q.coeffs) m))
      ≡ of_poly (equation_of k p) (tr P (p.n - 1) (equation_of k p).coefficients
      (y P (p.n - 1) (equation_of k p).coefficients m)) ⊗ pow F.ops T m)
      degrees
      (trace_weights P F (at k p t) (of_poly (equation_of k p)) (at_hom k p t) (poly_hom (equation_of k p)) T
      (pow F.ops x c) unit (p.n - 1)
      (row_of_list k (suc (p.n - 1)) p.coeffs) (row_of_list k (suc (p.n - 1)) q.coeffs) coefficients m)

  at_discriminant : at k p t (discriminant (equation_of k q))
      ≡ of_poly (equation_of k p) (discriminant (equation_of k p)) ⊗ pow F.ops t (c * (p.n * (p.n - 1)))
  at_discriminant =
      subst
      (λ n. at k p t (disc P n (row_of_list k (suc n) q.coeffs))
      ≡ of_poly (equation_of k p) (discriminant (equation_of k p)) ⊗ pow F.ops T (suc (p.n - 1) * (p.n - 1)))
      degrees
      (discriminant_weights P F (at k p t) (of_poly (equation_of k p)) (at_hom k p t) (poly_hom (equation_of k p)) T
      (pow F.ops x c) unit (p.n - 1)
      (row_of_list k (suc (p.n - 1)) p.coeffs) (row_of_list k (suc (p.n - 1)) q.coeffs) coefficients)
      ∙ ap (λ z. of_poly (equation_of k p) (discriminant (equation_of k p)) ⊗ z)
      (sym (pow_mul F t c (suc (p.n - 1) * (p.n - 1)))
      ∙ ap (λ m. pow F.ops t (c * (m * (p.n - 1)))) (let e : suc (p.n - 1) ≡ p.n = omega arith in e))

  pub infinite_discriminant : value_at k p t (codes_of k (discriminant (equation_of k q)))
      ≡ of_poly (equation_of k p) (discriminant (equation_of k p)) ⊗ pow F.ops t (c * (p.n * (p.n - 1)))
  infinite_discriminant = sym (at_codes k p t (discriminant (equation_of k q))) ∙ at_discriminant

  poly_injective : (a b : Polynomial k) → of_poly (equation_of k p) a ≡ of_poly (equation_of k p) b → a ≡ b
  poly_injective a b e =
      polynomial_value (equation_of k p) a b (polynomials k).𝟙 (polynomials_domain k).one_not_zero e ∙ P.mul_comm _ b
      ∙ P.mul_one b

  -- x^L·a is the turned b times x^M
  turned_discriminant : (a b : Polynomial k) (M : ℕ) → at k p t b ≡ of_poly (equation_of k p) a ⊗ pow F.ops t M
      → P.◌⊗◌ (pow P.ops (x_poly k) (length (codes_of k b))) a ≡ P.◌⊗◌ (turned k p b) (pow P.ops (x_poly k) M)
  turned_discriminant a b M e =
      poly_injective _ _
      ((poly_hom (equation_of k p)).mul _ _
      ∙ ap (λ z. z ⊗ of_poly (equation_of k p) a) (x_power k p (length (codes_of k b)))
      ∙ turn (pow F.ops x (length (codes_of k b))) (of_poly (equation_of k p) a) (at k p t b)
      (of_poly (equation_of k p) (turned k p b)) (pow F.ops x M) (pow F.ops t M)
      e (powers_cancel k p M) (turned_is k p b)
      ∙ ap (λ z. of_poly (equation_of k p) (turned k p b) ⊗ z) (sym (x_power k p M))
      ∙ sym ((poly_hom (equation_of k p)).mul _ _))
    where
      turn : (X a b s m u : Functions k p) → b ≡ (functions k p).◌⊗◌ a u → (functions k p).◌⊗◌ m u ≡ (functions k p).𝟙
          → (functions k p).◌⊗◌ X b ≡ s
          → (functions k p).◌⊗◌ X a ≡ (functions k p).◌⊗◌ s m
      turn X a b s m u e f g =
          from_three (functions k p) ((functions k p).⊖◌ ((functions k p).◌⊗◌ m X))
          ((functions k p).⊖◌ ((functions k p).◌⊗◌ X a)) m e f g
          (ring (functions k p) (X ∷ a ∷ b ∷ s ∷ m ∷ u ∷ []) λ q h. simp (reads, q, h 0, h 1, h 2, h 3, h 4, h 5)
          (q.equal _ _ refl))

  pub discriminant_degree : length (codes_of k (discriminant (equation_of k p))) ≤ c * (p.n * (p.n - 1)) + 1
  discriminant_degree =
      subst (λ l. l ≤ c * (p.n * (p.n - 1)) + 1) (sym (length-map (discriminant (equation_of k p)).0 (λ a. a.0)))
      (go (discriminant (equation_of k p)) (discriminant (equation_of k q)) (c * (p.n * (p.n - 1))) at_discriminant
      (polynomial_discrete k (discriminant (equation_of k p)) (polynomials k).𝟘))
    where
      go : (a b : Polynomial k) (M : ℕ) → at k p (variable k p Infinite) b
          ≡ (functions k p).◌⊗◌ (of_poly (equation_of k p) a) (pow (functions k p).ops (variable k p Infinite) M)
          → Dec (a ≡ (polynomials k).𝟘) → length a.0 ≤ M + 1
      go a b M e (yes z) = let l : length a.0 ≡ 0 = ap (λ p. length p.0) z ∙ zero_length k in omega arith
      go a b M e (no n) =
          let L = length (codes_of k b) in
          let X = pow (polynomials k).ops (x_poly k) L in
          let same : length ((polynomials k).◌⊗◌ X a).0
          ≡ length ((polynomials k).◌⊗◌ (turned k p b) (pow (polynomials k).ops (x_poly k) M)).0
          = ap (λ p. length p.0) (turned_discriminant a b M e) in
          omega (
            arith,
            same,
            x_power_long k L,
            length_product (code_ring k) (code_domain k) X a (x_power_not_zero k L) n,
            turned_short k p b,
            x_power_short k M,
            length_product_le (code_ring k) (code_domain k) (turned k p b) (pow (polynomials k).ops (x_poly k) M),
          )

  -- what is 0 at t is 0
  at_injective : (a b : Polynomial k) → at k p t a ≡ at k p t b → a ≡ b
  at_injective a b e =
      eq_of_sub P a b
      (turned_zero k p (P.◌⊕◌ a (P.⊖◌ b))
      (poly_injective (turned k p (P.◌⊕◌ a (P.⊖◌ b))) P.𝟘
      (sym (turned_is k p (P.◌⊕◌ a (P.⊖◌ b)))
      ∙ ap (λ z. pow F.ops x (length (codes_of k (P.◌⊕◌ a (P.⊖◌ b)))) ⊗ z)
      ((at_hom k p t).add a (P.⊖◌ b) ∙ ap (F.◌⊕◌ (at k p t a)) (hom_neg P F (at k p t) (at_hom k p t) b)
      ∙ sub_of_eq F _ _ e)
      ∙ mul_zero F _ ∙ of_poly_zero (equation_of k p))))

  at_x : at k p t (x_poly k) ≡ t
  at_x =
      sym (value_at_is k p t (0 ∷ 1 ∷ []))
      ∙ ap₂ (λ a b. F.◌⊕◌ a (t ⊗ F.◌⊕◌ b (t ⊗ F.𝟘)))
      (ap (of_poly (equation_of k p)) (constant_zero k) ∙ sym (of_poly_zero (equation_of k p)))
      (ap (of_poly (equation_of k p)) (value_one k) ∙ (poly_hom (equation_of k p)).𝟙)
      ∙ flat t
    where
      flat : (t : Functions k p) → (functions k p).◌⊕◌ (functions k p).𝟘
          ((functions k p).◌⊗◌ t ((functions k p).◌⊕◌ (functions k p).𝟙 ((functions k p).◌⊗◌ t (functions k p).𝟘))) ≡ t
      flat t = ring (functions k p) (t ∷ []) λ q h. simp (reads, q, h 0) (q.equal _ _ refl)

  at_x_power : (m : ℕ) → at k p t (pow P.ops (x_poly k) m) ≡ pow F.ops t m
  at_x_power m = image_power P F (at k p t) (at_hom k p t) m (x_poly k) ∙ ap (λ z. pow F.ops z m) at_x

  -- a reversed polynomial at t, times a power of t
  reversed_at : (a : Polynomial k) (v M : ℕ) → v + length (codes_of k a) ≡ suc M
      → of_poly (equation_of k p) a ⊗ pow F.ops t M ≡ pow F.ops t v ⊗ at k p t (value k (reverse (codes_of k a)))
  reversed_at a v M e =
      sym
      (open_up (pow F.ops t v) (pow F.ops x l) (pow F.ops t l) (at k p t V) (powers_cancel k p l)
      ∙ ap₂ ◌⊗◌ (sym (pow_add F t v l) ∙ ap (pow F.ops t) e)
      (ap₂ ◌⊗◌ (ap (pow F.ops x) (sym (length-reverse (codes_of k a))))
      (sym (value_at_is k p t (reverse (codes_of k a))))
      ∙ reversed k p (reverse (codes_of k a))
      ∙ ap (λ b. of_poly (equation_of k p) (P.◌⊗◌ (x_poly k) b))
      (ap (value k) (reverse-reverse (codes_of k a)) ∙ value_codes_of k a)
      ∙ (poly_hom (equation_of k p)).mul (x_poly k) a)
      ∙ close x t (pow F.ops t M) (of_poly (equation_of k p) a) (x_times_t k p))
    where
      l : ℕ
      l = length (codes_of k a)

      V : Polynomial k
      V = value k (reverse (codes_of k a))

      open_up : (u X Y A : Functions k p) → (functions k p).◌⊗◌ X Y ≡ (functions k p).𝟙
          → (functions k p).◌⊗◌ u A ≡ (functions k p).◌⊗◌ ((functions k p).◌⊗◌ u Y) ((functions k p).◌⊗◌ X A)
      open_up u X Y A f =
          from_one (functions k p) ((functions k p).⊖◌ ((functions k p).◌⊗◌ u A)) f
          (ring (functions k p) (u ∷ X ∷ Y ∷ A ∷ []) λ q h. simp (reads, q, h 0, h 1, h 2, h 3) (q.equal _ _ refl))

      close : (x t m D : Functions k p) → (functions k p).◌⊗◌ x t ≡ (functions k p).𝟙
          → (functions k p).◌⊗◌ ((functions k p).◌⊗◌ t m) ((functions k p).◌⊗◌ x D) ≡ (functions k p).◌⊗◌ D m
      close x t m D f =
          from_one (functions k p) ((functions k p).◌⊗◌ m D) f
          (ring (functions k p) (x ∷ t ∷ m ∷ D ∷ []) λ q h. simp (reads, q, h 0, h 1, h 2, h 3) (q.equal _ _ refl))

  -- the codes of the discriminant in reverse, times the power of the variable by which its degree is short of c·n·(n-1)
  pub discriminant_reversed : discriminant (equation_of k q)
      ≡ P.◌⊗◌ (pow P.ops (x_poly k) (c * (p.n * (p.n - 1)) + 1 - length (codes_of k (discriminant (equation_of k p)))))
      (value k (reverse (codes_of k (discriminant (equation_of k p)))))
  discriminant_reversed =
      at_injective _ _
      (at_discriminant
      ∙ reversed_at (discriminant (equation_of k p))
      (c * (p.n * (p.n - 1)) + 1 - length (codes_of k (discriminant (equation_of k p)))) (c * (p.n * (p.n - 1)))
      (let l = discriminant_degree in omega arith)
      ∙ sym ((at_hom k p t).mul _ _ ∙ ap
      (λ z. z ⊗ at k p t (value k (reverse (codes_of k (discriminant (equation_of k p)))))) (at_x_power _)))
