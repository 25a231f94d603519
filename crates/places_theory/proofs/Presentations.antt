-- The functions of the infinite presentation are those of the finite one: the map between them is an isomorphism.
use Rattle.std.proofs.Common.{◌≡◌, ℕ, zero, suc, ◌+◌, ◌-◌, ◌≤◌, List, [], ◌∷◌, length, reverse, refl, sym, ◌∙◌, ap, ap₂, subst, arith}
use mathlib.Core.List.{reverse-reverse}
use Rattle.ring_lemmas.specs.Ring.{CommRing, IsDomain, pow}
use Rattle.ring_lemmas.specs.Rows.{Row, row_zero, row_scale}
use Rattle.ring_lemmas.proofs.Ring.{one_mul, zero_add, mul_zero, pow_add, eq_of_sub, sub_of_eq}
use Rattle.ring_lemmas.proofs.Rows.{pair_path, row_scale_one, row_scale_zero}
use Rattle.ring_theory.specs.FunctionRing.{whole_pair}
use Rattle.ring_theory.proofs.RowMaps.{hom_zero, hom_neg, eval_none, eval_cons, eval_scale}
use Rattle.ring_lemmas.specs.Polynomials.{constant}
use Rattle.ring_theory.proofs.Evaluate.{evaluate, value_constant}
use Rattle.ring_lemmas.proofs.Solver.{ring, reads, from_one, from_two, from_three}
use Rattle.ff_fields.specs.Field.{CodeField}
use Rattle.ff_fields.specs.Code.{Code, code_ring}
use Rattle.ff_poly.specs.Value.{value}
use Rattle.ff_poly.specs.Polynomials.{Polynomial, polynomials, polynomials_domain, codes_of, value_codes_of, value_nil, value_one, IsOver_codes_of, IsPoly_codes_of, x_poly, x_poly_not_zero}
use Rattle.function_field.specs.Functions.{RowOver, function, function_eq, function_same, of_poly, over, row_of, y_of, whole_row, zero_function}
use Rattle.function_field.specs.Values.{PresValue, Functions, functions, equation_of}
use Rattle.function_field.specs.Infinity.{constant as constant_code, IsInfinitePresentation}
use Rattle.function_field.proofs.Horner.{plain}
use Rattle.function_field.proofs.OnSide.{reverse_not_zero}
use Rattle.function_field.proofs.Stages.{row_of_function}
use Rattle.places_theory.specs.Maps.{IsIsomorphism}
use Rattle.places_theory.proofs.YRoot.{poly_hom, at_y, at_y_plain, den_times}
use Rattle.polynomial_theory.proofs.Lengths.{x_power_not_zero}
use Rattle.places_theory.proofs.AtInfinity.{of_code, code_hom, at_hom, at_x, value_at_is, x_times_t, reversed, turned, turned_is, turned_zero, x_power, powers_cancel, constant_zero}
use Rattle.places_theory.proofs.PresentationMap.{x, t, y, η, φ, at_Y, unit, unit_law, presentation_map, map_row, map_poly, map_unit, map_y, presentation_hom}

-- in a domain what is 0 after scaling by an element other than 0 is 0
row_scale_cancel : {P : Type 0} (S : CommRing P) → IsDomain S.ops → (m : ℕ) (d : P) (v : Row P m) → ¬ (d ≡ S.𝟘)
    → row_scale S.ops m d v ≡ row_zero S.ops m → v ≡ row_zero S.ops m
unfolding row_scale row_zero
row_scale_cancel S domain zero d v n e = refl
row_scale_cancel S domain (suc m) d (a, v) n e =
    pair_path (domain.cancel_zero d a n (ap (λ r. r.0) e)) (row_scale_cancel S domain m d v n (ap (λ r. r.1) e))

module _ (k : CodeField) (p q : PresValue) (c : ℕ) (h : IsInfinitePresentation k p c q) (some : 1 ≤ p.n) where
  infixl 65 ◌⊕◌
  infixl 70 ◌⊗◌
  infixr 80 ⊖◌
  open functions k p use {𝟘, 𝟙, ◌⊕◌, ◌⊗◌, ⊖◌}

  abbrev F : CommRing (Functions k p)
  F = functions k p

  abbrev X : Functions k p
  X = x k p q c

  abbrev T : Functions k p
  T = t k p q c

  abbrev Y : Functions k p
  Y = y k p q c

  abbrev map : Functions k q → Functions k p
  map z = presentation_map k p q c h some z

  -- a power of x times the sum of v_i(1/x)·Y^i is a sum of u_i·y^i, which is 0 only where the v_i are
  record Cleared (m : ℕ) (v : Row (Polynomial k) m) : Type 0 where
    exponent : ℕ
    row : Row (Polynomial k) m
    is : pow F.ops X exponent ⊗ at_Y k p q c m v ≡ at_y (equation_of k p) m row
    null : row ≡ row_zero (polynomials k).ops m → v ≡ row_zero (polynomials k).ops m

  cleared_none : Cleared 0 tt
  unfolding row_zero
  cleared_none = record {
    exponent = 0;
    row = tt;
    is =
        one_mul F _ ∙ eval_none (polynomials k).ring F (φ k p q c) (at_hom k p T) (η k p q c) tt
        ∙ sym (eval_none (polynomials k).ring F (of_poly (equation_of k p)) (poly_hom (equation_of k p)) Y tt);
    null = λ e. refl;
  }

  cleared_cons : (m : ℕ) (a : Polynomial k) (v : Row (Polynomial k) m) → Cleared m v → Cleared (suc m) (a, v)
  unfolding row_zero
  cleared_cons m a v r =
      let L = length (codes_of k a) in
      let M = r.exponent in
      let xL = pow (polynomials k).ops (x_poly k) L in
      let xM = pow (polynomials k).ops (x_poly k) (c + M) in
      record {
        exponent = L + (c + M);
        row = ((polynomials k).◌⊗◌ xM (turned k p a), row_scale (polynomials k).ops m xL r.row);
        is =
            ap₂ (λ s w. s ⊗ w) (pow_add F X L (c + M) ∙ ap (λ s. pow F.ops X L ⊗ s) (pow_add F X c M))
            (eval_cons (polynomials k).ring F (φ k p q c) (at_hom k p T) (η k p q c) m a v)
            ∙ collect (pow F.ops X L) (pow F.ops X c) (pow F.ops X M) (pow F.ops T c) (φ k p q c a) (at_Y k p q c m v)
            (of_poly (equation_of k p) (turned k p a)) (at_y (equation_of k p) m r.row) (turned_is k p a) r.is
            (powers_cancel k p c)
            ∙ ap₂ (λ s w. s ⊕ Y ⊗ w)
            (ap (λ s. s ⊗ of_poly (equation_of k p) (turned k p a)) (sym (pow_add F X c M) ∙ sym (x_power k p (c + M)))
            ∙ sym ((poly_hom (equation_of k p)).mul xM (turned k p a)))
            (ap (λ s. s ⊗ at_y (equation_of k p) m r.row) (sym (x_power k p L))
            ∙ sym (eval_scale (polynomials k).ring F (of_poly (equation_of k p)) (poly_hom (equation_of k p)) Y m xL
            r.row))
            ∙ sym (eval_cons (polynomials k).ring F (of_poly (equation_of k p)) (poly_hom (equation_of k p)) Y m
            ((polynomials k).◌⊗◌ xM (turned k p a)) (row_scale (polynomials k).ops m xL r.row));
        null = λ e.
            pair_path
            (turned_zero k p a ((polynomials_domain k).cancel_zero xM (turned k p a) (nonzero (c + M))
            (ap (λ w. w.0) e)))
            (r.null (row_scale_cancel (polynomials k).ring (polynomials_domain k) m xL r.row (nonzero L)
            (ap (λ w. w.1) e)));
      }
    where
      nonzero : (n : ℕ) → ¬ (pow (polynomials k).ops (x_poly k) n ≡ (polynomials k).𝟘)
      nonzero = x_power_not_zero k

      collect : (l s w r a b a' b' : Functions k p) → l ⊗ a ≡ a' → w ⊗ b ≡ b' → s ⊗ r ≡ 𝟙
          → l ⊗ (s ⊗ w) ⊗ (a ⊕ Y ⊗ r ⊗ b) ≡ s ⊗ w ⊗ a' ⊕ Y ⊗ (l ⊗ b')
      collect l s w r a b a' b' e f g =
          from_three F (s ⊗ w) (Y ⊗ l) (l ⊗ w ⊗ Y ⊗ b) e f g
          (ring F (l ∷ s ∷ w ∷ r ∷ a ∷ b ∷ a' ∷ b' ∷ Y ∷ []) λ o i.
          simp (reads, o, i 0, i 1, i 2, i 3, i 4, i 5, i 6, i 7, i 8) (o.equal _ _ refl))

  cleared : (m : ℕ) (v : Row (Polynomial k) m) → Cleared m v
  cleared zero v = cleared_none
  cleared (suc m) (a, v) = cleared_cons m a v (cleared m v)

  -- only 0 goes to 0
  at_Y_null : (v : Row (Polynomial k) (suc (q.n - 1))) → (m : ℕ) → suc (q.n - 1) ≡ suc m → m ≡ p.n - 1
      → at_Y k p q c (suc (q.n - 1)) v ≡ 𝟘 → v ≡ row_zero (polynomials k).ops (suc (q.n - 1))
  unfolding whole_pair
  at_Y_null v m e f z = r.null (zero_row (q.n - 1) (let g : suc (q.n - 1) ≡ suc m = e in omega arith) r.row
      (sym r.is ∙ ap (λ s. pow F.ops X r.exponent ⊗ s) z ∙ mul_zero F _))
    where
      r : Cleared (suc (q.n - 1)) v
      r = cleared (suc (q.n - 1)) v

      zero_here : (u : Row (Polynomial k) (suc (p.n - 1))) → at_y (equation_of k p) (suc (p.n - 1)) u ≡ 𝟘
          → u ≡ row_zero (polynomials k).ops (suc (p.n - 1))
      zero_here u g =
          sym (row_scale_one (polynomials k).ring (suc (p.n - 1)) u)
          ∙ function_same (equation_of k p) (plain (equation_of k p) u)
          (whole_row (equation_of k p) (row_zero (polynomials k).ops (suc (p.n - 1))))
          (sym (at_y_plain (equation_of k p) u) ∙ g ∙ zero_function (equation_of k p))
          ∙ row_scale_one (polynomials k).ring (suc (p.n - 1)) (row_zero (polynomials k).ops (suc (p.n - 1)))

      zero_row : (n : ℕ) → n ≡ p.n - 1 → (u : Row (Polynomial k) (suc n)) → at_y (equation_of k p) (suc n) u ≡ 𝟘
          → u ≡ row_zero (polynomials k).ops (suc n)
      zero_row n g =
          subst
          (λ n. (u : Row (Polynomial k) (suc n)) → at_y (equation_of k p) (suc n) u ≡ 𝟘
          → u ≡ row_zero (polynomials k).ops (suc n)) (sym g) zero_here

  kernel : (z : Functions k q) → map z ≡ 𝟘 → z ≡ (functions k q).𝟘
  unfolding whole_pair
  kernel z e = go (row_of_function (equation_of k q) z)
    where
      go : (a : RowOver (equation_of k q)) × (function (equation_of k q) a ≡ z) → z ≡ (functions k q).𝟘
      go (a, f) =
          sym f
          ∙ function_eq (equation_of k q) a (whole_row (equation_of k q) (row_zero (polynomials k).ops (suc (q.n - 1))))
          (row_scale_one (polynomials k).ring (suc (q.n - 1)) a.num
          ∙ null
          ∙ sym (row_scale_zero (polynomials k).ring (suc (q.n - 1)) a.den))
          ∙ sym (zero_function (equation_of k q))
        where
          value_null : at_Y k p q c (suc (q.n - 1)) a.num ≡ 𝟘
          value_null =
              undo (φ k p q c a.den) (unit k p q c h some a.den a.den_not_zero) (at_Y k p q c (suc (q.n - 1)) a.num)
              (unit_law k p q c h some a.den a.den_not_zero) (sym (map_row k p q c h some a) ∙ ap map f ∙ e)
            where
              undo : (d i s : Functions k p) → d ⊗ i ≡ 𝟙 → i ⊗ s ≡ 𝟘 → s ≡ 𝟘
              undo d i s g j =
                  from_two F (⊖ s) d g j
                  (ring F (d ∷ i ∷ s ∷ []) λ o n. simp (reads, o, n 0, n 1, n 2) (o.equal _ _ refl))

          null : a.num ≡ row_zero (polynomials k).ops (suc (q.n - 1))
          null = at_Y_null a.num (q.n - 1) refl (let g : q.n ≡ p.n = h.degree in omega arith) value_null

  pub map_injective : (z w : Functions k q) → map z ≡ map w → z ≡ w
  map_injective z w e =
      eq_of_sub (functions k q) z w
      (kernel ((functions k q).◌⊕◌ z ((functions k q).⊖◌ w))
      ((presentation_hom k p q c h some).add z ((functions k q).⊖◌ w)
      ∙ ap (λ s. map z ⊕ s) (hom_neg (functions k q) F map (presentation_hom k p q c h some) w)
      ∙ sub_of_eq F (map z) (map w) e))

  -- each function is a value

  abbrev Hit : Functions k p → Type 0
  Hit w = (z : Functions k q) × (map z ≡ w)

  hit_sum : (a b : Functions k p) → Hit a → Hit b → Hit (a ⊕ b)
  hit_sum a b (z, e) (w, f) = (
    (functions k q).◌⊕◌ z w,
    (presentation_hom k p q c h some).add z w
        ∙ ap₂ (λ s r. s ⊕ r) e f,
  )

  hit_product : (a b : Functions k p) → Hit a → Hit b → Hit (a ⊗ b)
  hit_product a b (z, e) (w, f) = (
    (functions k q).◌⊗◌ z w,
    (presentation_hom k p q c h some).mul z w
        ∙ ap₂ (λ s r. s ⊗ r) e f,
  )

  hit_power : (a : Functions k p) → Hit a → (n : ℕ) → Hit (pow F.ops a n)
  hit_power a g zero = ((functions k q).𝟙, (presentation_hom k p q c h some).𝟙)
  hit_power a g (suc n) = hit_product a (pow F.ops a n) g (hit_power a g n)

  hit_at : (a : Polynomial k) → Hit (φ k p q c a)
  hit_at a = (of_poly (equation_of k q) a, map_poly k p q c h some a)

  hit_unit : (d : Polynomial k) (n : ¬ (d ≡ (polynomials k).𝟘)) → Hit (unit k p q c h some d n)
  hit_unit d n = (over (equation_of k q) (row_of (equation_of k q) (polynomials k).𝟙) d n, map_unit k p q c h some d n)

  hit_eq : (a b : Functions k p) → a ≡ b → Hit a → Hit b
  hit_eq a b e (z, f) = (z, f ∙ e)

  hit_code : (a : Code k) → Hit (of_code k p a)
  hit_code a = hit_eq _ _ (value_constant (code_ring k) F (of_code k p) (code_hom k p) T a)
      (hit_at (constant (code_ring k) a))

  -- 1/x is the value at itself of x
  t_is : φ k p q c (x_poly k) ≡ T
  t_is =
      sym (value_at_is k p T (0 ∷ 1 ∷ []))
      ∙ ap₂ (λ s r. s ⊕ T ⊗ r) zero_code (ap₂ (λ s r. s ⊕ r) one_code (mul_zero F T) ∙ F.add_zero 𝟙)
      ∙ zero_add F (T ⊗ 𝟙) ∙ F.mul_one T
    where
      zero_code : constant_code k p 0 ≡ 𝟘
      zero_code =
          ap (of_poly (equation_of k p)) (constant_zero k)
          ∙ hom_zero (polynomials k).ring F (of_poly (equation_of k p)) (poly_hom (equation_of k p))

      one_code : constant_code k p 1 ≡ 𝟙
      one_code =
          ap (of_poly (equation_of k p)) (value_one k) ∙ (poly_hom (equation_of k p)).𝟙

  hit_t : Hit T
  hit_t = hit_eq _ _ t_is (hit_at (x_poly k))

  hit_x : Hit X
  hit_x = hit_eq _ _ same (hit_unit (x_poly k) (x_poly_not_zero k))
    where
      other : (i s r : Functions k p) → s ⊗ i ≡ 𝟙 → r ⊗ s ≡ 𝟙 → i ≡ r
      other i s r f g = from_two F r (⊖ i) f g
          (ring F (i ∷ s ∷ r ∷ []) λ o n. simp (reads, o, n 0, n 1, n 2) (o.equal _ _ refl))

      same : unit k p q c h some (x_poly k) (x_poly_not_zero k) ≡ X
      same =
          other (unit k p q c h some (x_poly k) (x_poly_not_zero k)) T X
          (ap (λ s. s ⊗ unit k p q c h some (x_poly k) (x_poly_not_zero k)) (sym t_is)
          ∙ unit_law k p q c h some (x_poly k) (x_poly_not_zero k)) (x_times_t k p)

  hit_codes : (w : List (Code k)) → Hit (evaluate (code_ring k) F (of_code k p) (code_hom k p) X w)
  hit_codes [] = ((functions k q).𝟘, hom_zero (functions k q) F map (presentation_hom k p q c h some))
  hit_codes (a ∷ w) = hit_sum _ _ (hit_code a) (hit_product _ _ hit_x (hit_codes w))

  hit_poly : (a : Polynomial k) → Hit (of_poly (equation_of k p) a)
  hit_poly a = hit_eq _ _ (at_x k p a) (hit_codes a.0)

  hit_y : Hit Y
  hit_y =
      hit_eq _ _ (undo (pow F.ops X c) (pow F.ops T c) (powers_cancel k p c))
      (hit_product _ _ (y_of (equation_of k q), map_y k p q c h some) (hit_power X hit_x c))
    where
      undo : (s r : Functions k p) → s ⊗ r ≡ 𝟙 → Y ⊗ r ⊗ s ≡ Y
      undo s r f = from_one F Y f (ring F (s ∷ r ∷ Y ∷ []) λ o n. simp (reads, o, n 0, n 1, n 2) (o.equal _ _ refl))

  hit_row : (m : ℕ) (v : Row (Polynomial k) m) → Hit (at_y (equation_of k p) m v)
  hit_row zero v =
      hit_eq _ _ (sym (eval_none (polynomials k).ring F (of_poly (equation_of k p)) (poly_hom (equation_of k p)) Y v))
      ((functions k q).𝟘, hom_zero (functions k q) F map (presentation_hom k p q c h some))
  hit_row (suc m) (a, v) =
      hit_eq _ _ (sym (eval_cons (polynomials k).ring F (of_poly (equation_of k p)) (poly_hom (equation_of k p)) Y m a
      v))
      (hit_sum _ _ (hit_poly a) (hit_product _ _ hit_y (hit_row m v)))

  -- an inverse of each polynomial but 0
  record Inverse (d : Polynomial k) : Type 0 where
    inverse : Functions k p
    hit : Hit inverse
    is : of_poly (equation_of k p) d ⊗ inverse ≡ 𝟙

  inverse_of : (d : Polynomial k) → ¬ (d ≡ (polynomials k).𝟘) → Inverse d
  inverse_of d n =
      let w = reverse (codes_of k d) in
      let D = value k (reverse (codes_of k d)) in
      let i = unit k p q c h some D nonzero in
      record {
        inverse = X ⊗ pow F.ops T (length w) ⊗ i;
        hit = hit_product _ _ (hit_product _ _ hit_x (hit_power T hit_t (length w))) (hit_unit D nonzero);
        is =
            product (of_poly (equation_of k p) d) (pow F.ops X (length w)) (pow F.ops T (length w)) (φ k p q c D) i
            (ap (λ s. pow F.ops X (length w) ⊗ s) (sym (value_at_is k p T w)) ∙ reversed k p w
            ∙ (poly_hom (equation_of k p)).mul (x_poly k) (value k (reverse w))
            ∙ ap (λ a. X ⊗ of_poly (equation_of k p) a)
            (ap (value k) (reverse-reverse (codes_of k d)) ∙ value_codes_of k d))
            (powers_cancel k p (length w)) (unit_law k p q c h some D nonzero);
      }
    where
      nonzero : ¬ (value k (reverse (codes_of k d)) ≡ (polynomials k).𝟘)
      nonzero =
          reverse_not_zero k p (codes_of k d) (IsOver_codes_of k d) (IsPoly_codes_of k d)
          (λ e. n (sym (value_codes_of k d) ∙ ap (value k) e ∙ value_nil k))

      product : (a s r b i : Functions k p) → s ⊗ b ≡ X ⊗ a → s ⊗ r ≡ 𝟙 → b ⊗ i ≡ 𝟙 → a ⊗ (X ⊗ r ⊗ i) ≡ 𝟙
      product a s r b i e f g =
          from_three F (⊖ (r ⊗ i)) (b ⊗ i) 𝟙 e f g
          (ring F (a ∷ s ∷ r ∷ b ∷ i ∷ X ∷ []) λ o j. simp (reads, o, j 0, j 1, j 2, j 3, j 4, j 5) (o.equal _ _ refl))

  pub map_onto : (w : Functions k p) → (z : Functions k q) × (map z ≡ w)
  map_onto w = go (row_of_function (equation_of k p) w)
    where
      undo : (d i s w : Functions k p) → d ⊗ i ≡ 𝟙 → d ⊗ w ≡ s → i ⊗ s ≡ w
      undo d i s w f g = from_two F w (⊖ i) f g
          (ring F (d ∷ i ∷ s ∷ w ∷ []) λ o n. simp (reads, o, n 0, n 1, n 2, n 3) (o.equal _ _ refl))

      go : (a : RowOver (equation_of k p)) × (function (equation_of k p) a ≡ w) → Hit w
      go (a, f) =
          let i = inverse_of a.den a.den_not_zero in
          hit_eq _ _
          (undo (of_poly (equation_of k p) a.den) i.inverse (at_y (equation_of k p) (suc (p.n - 1)) a.num) w i.is
          (ap (λ s. of_poly (equation_of k p) a.den ⊗ s) (sym f) ∙ den_times (equation_of k p) a))
          (hit_product _ _ i.hit (hit_row (suc (p.n - 1)) a.num))

  pub presentation_isomorphism : IsIsomorphism (functions k q) (functions k p) (presentation_map k p q c h some)
  presentation_isomorphism = record {
    hom = presentation_hom k p q c h some;
    injective = map_injective;
    onto = map_onto;
  }
