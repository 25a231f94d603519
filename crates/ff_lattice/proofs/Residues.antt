-- The multiples of v modulo a polynomial e by rows: where the rows are the residues of v, x·v, x²·v, .., a combination
-- of them is the residue of a multiple of v, and the first relation gives the polynomial whose multiples take v into
-- those of e.
use Rattle.std.proofs.Common.{◌≡◌, ◌≢◌, ℕ, suc, ◌+◌, ◌-◌, ◌<◌, ◌≤◌, ◌↔◌, List, [], ◌∷◌, ◌++◌, length, get_or, take, All, refl, sym, ap, ap₂, ◌∙◌, subst, arith, length-append}
use Rattle.std.proofs.lemmas.List.{take_more, take_all, get_or-take, length-take-le, length-map}
use Rattle.std.proofs.lemmas.List.Elements.{All-head, All-tail, All-take, All-get_or}
use Rattle.ring_lemmas.specs.Ring.{CommRing, pow}
use Rattle.ring_lemmas.specs.Lists.{coeff_of, neg_list, scale_list}
use Rattle.ring_lemmas.proofs.Lists.{coeff_neg, length_neg_list, length_scale_list}
use Rattle.ring_lemmas.proofs.Solver.{ring, reads, from_one, from_two, from_three}
use Rattle.ring_lemmas.proofs.Polynomials.{same_pol, series_neg}
use Rattle.ring_theory.proofs.Division.{one_way}
use Rattle.linear_theory.specs.Euclidean.{IsDivisorIn}
use Rattle.linear_theory.specs.Module.{combination}
use Rattle.ff_fields.specs.Field.{CodeField}
use Rattle.ff_fields.specs.Code.{raw_ring, code_ring, code_domain}
use Rattle.ff_fields.specs.Over.{IsOver, IsOver_nil, IsOver_cons, IsOver_head, IsOver_tail, IsOver_take, IsOver_neg, IsOver_scale, get_or_below}
use Rattle.ff_fields.specs.Numbers.{numbers, read, numbers_read, read_numbers, numbers_neg}
use Rattle.ff_poly.specs.Words.{IsPoly}
use Rattle.ff_poly.specs.Value.{value}
use Rattle.ff_poly.specs.Polynomials.{Polynomial, polynomials, polynomial_discrete, codes_of, IsOver_codes_of, IsPoly_codes_of, value_codes_of, constant_poly, x_poly, value_nil, value_one, value_cons, series_read}
use Rattle.ff_poly.proofs.Quotients.{top_some}
use Rattle.polynomial_theory.proofs.ListValues.{value_add_lists, value_scale_list, value_zeros, value_short, length_value, same_lists}
use Rattle.polynomial_theory.proofs.Lengths.{some_long}
use Rattle.polynomial_theory.proofs.Division.{divide}
use Rattle.ff_linalg.specs.Matrix.{MatrixValue, IsMatrixOver, matrix_row, first_rows_of}
use Rattle.ff_linalg.specs.Space.{row_ops, IsSolution, HasIndependentRows, IsFirstRelation}
use Rattle.ff_linalg.proofs.Bridge.{combination_over, length_combination}

-- a list that isn't empty is its lower part and its top
pub ends : (a : List ℕ) → 0 < length a → a ≡ take (length a - 1) a ++ get_or a (length a - 1) 0 ∷ []
ends a some =
    let whole : length a ≡ length a - 1 + 1 = omega arith in
    sym (take_all (length a) a (omega arith)) ∙ ap (λ n. take n a) whole ∙ take_more a (length a - 1) 0 (omega arith)

module _ (k : CodeField) where
  infixl 65 ◌⊕◌
  infixl 70 ◌⊗◌
  infixr 80 ⊖◌
  open polynomials k use {𝟘, 𝟙, ◌⊕◌, ◌⊗◌, ⊖◌}

  abbrev P : CommRing (Polynomial k)
  P = (polynomials k).ring

  abbrev pub x_to : ℕ → Polynomial k
  x_to j = pow P.ops (x_poly k) j

  -- ---- what lists stand for

  value_neg_list : (a : List ℕ) → IsOver k.ops a → value k (neg_list (raw_ring k.ops) a) ≡ ⊖ value k a
  value_neg_list a a_in =
      ap (value k) (ap (neg_list (raw_ring k.ops)) (sym (numbers_read k a a_in)) ∙ sym (numbers_neg k (read k a)))
      ∙ same_pol (code_ring k) _ _ (λ n.
      series_read k (numbers k (neg_list (code_ring k).ops (read k a))) n
      ∙ ap (λ xs. coeff_of (code_ring k).ops xs n) (read_numbers k (neg_list (code_ring k).ops (read k a)))
      ∙ coeff_neg (code_ring k) (read k a) n
      ∙ ap (code_ring k).⊖◌ (sym (series_read k a n))
      ∙ sym (series_neg (code_ring k) (value k a) n))

  value_push : (a : List ℕ) (t : ℕ) → value k (a ++ t ∷ []) ≡ value k a ⊕ x_to (length a) ⊗ constant_poly k t
  value_push [] t =
      sym (ap (λ y. y ⊕ 𝟙 ⊗ constant_poly k t) (value_nil k) ∙ step (constant_poly k t))
    where
      step : (c : Polynomial k) → 𝟘 ⊕ 𝟙 ⊗ c ≡ c
      step c = ring P (c ∷ []) λ q y. simp (reads, q, y 0) (q.equal _ _ refl)
  value_push (c ∷ a) t =
      value_cons k c (a ++ t ∷ [])
      ∙ ap (λ y. constant_poly k c ⊕ x_poly k ⊗ y) (value_push a t)
      ∙ step (constant_poly k c) (x_poly k) (value k a) (x_to (length a)) (constant_poly k t)
      ∙ ap (λ y. y ⊕ x_to (suc (length a)) ⊗ constant_poly k t) (sym (value_cons k c a))
    where
      step : (c x a p t : Polynomial k) → c ⊕ x ⊗ (a ⊕ p ⊗ t) ≡ c ⊕ x ⊗ a ⊕ x ⊗ p ⊗ t
      step c x a p t = ring P (c ∷ x ∷ a ∷ p ∷ t ∷ []) λ q y. simp (reads, q, y 0, y 1, y 2, y 3, y 4)
          (q.equal _ _ refl)

  constant_inverse : (t : ℕ) → t < k.size → t ≢ 0 → constant_poly k (k.inv t) ⊗ constant_poly k t ≡ 𝟙
  constant_inverse t t_in some =
      sym (value_scale_list k (k.inv t) (t ∷ []) (k.laws.inv_below t t_in some) (IsOver_cons t_in IsOver_nil))
      ∙ ap (λ c. value k (c ∷ [])) (k.laws.inv_mul t t_in some) ∙ value_one k

  -- ---- congruence modulo e

  pub record Congruent (e a b : Polynomial k) : Type 0 where
    pub quotient : Polynomial k
    pub is : a ≡ e ⊗ quotient ⊕ b

  -- there is one residue of a length below that of e
  same_residue : (e a b : List ℕ) (n : ℕ) (w : Polynomial k) → IsOver k.ops e → IsPoly e → n < length e → IsOver k.ops a
      → IsOver k.ops b → length a ≡ n → length b ≡ n
      → Congruent (value k e) w (value k a) → Congruent (value k e) w (value k b) → a ≡ b
  same_residue e a b n w e_in e_poly short a_in b_in a_size b_size c d =
      same_lists k a b a_in b_in (a_size ∙ sym b_size)
      (one_way (code_ring k) (code_domain k) w (value k e) c.quotient d.quotient (value k a) (value k b)
      (record { whole = c.is; shorter = omega (arith, value_short k a, length_value k e e_in e_poly) })
      (record { whole = d.is; shorter = omega (arith, value_short k b, length_value k e e_in e_poly) })).1

  -- one row before a combination
  one_more : (e : Polynomial k) (n c : ℕ) (r cs : List ℕ) (rows : List (List ℕ)) (w : Polynomial k) → c < k.size
      → IsOver k.ops r → IsOver k.ops cs → All (IsOver k.ops) rows
      → Congruent e (𝟙 ⊗ w) (value k r) → Congruent e (value k cs ⊗ (x_poly k ⊗ w))
      (value k (combination (row_ops k.ops n) cs rows))
      → Congruent e (value k (c ∷ cs) ⊗ w) (value k (combination (row_ops k.ops n) (c ∷ cs) (r ∷ rows)))
  one_more e n c r cs rows w c_in r_in cs_in over first rest = record {
    quotient = constant_poly k c ⊗ first.quotient ⊕ rest.quotient;
    is =
        ap (λ y. y ⊗ w) (value_cons k c cs)
        ∙ step (constant_poly k c) (x_poly k) (value k cs) w e first.quotient rest.quotient (value k r)
        (value k (combination (row_ops k.ops n) cs rows)) first.is rest.is
        ∙ ap (λ y. e ⊗ (constant_poly k c ⊗ first.quotient ⊕ rest.quotient) ⊕ y)
        (sym (value_add_lists k (scale_list (raw_ring k.ops) c r) (combination (row_ops k.ops n) cs rows)
        (IsOver_scale k c r c_in r_in) (combination_over k n cs rows cs_in over)
        ∙ ap (λ y. y ⊕ value k (combination (row_ops k.ops n) cs rows)) (value_scale_list k c r c_in r_in)));
  }
    where
      step : (c x s w e t t' r b : Polynomial k) → 𝟙 ⊗ w ≡ e ⊗ t ⊕ r → s ⊗ (x ⊗ w) ≡ e ⊗ t' ⊕ b
          → (c ⊕ x ⊗ s) ⊗ w ≡ e ⊗ (c ⊗ t ⊕ t') ⊕ (c ⊗ r ⊕ b)
      step c x s w e t t' r b f g =
          from_two P c 𝟙 f g
          (ring P (c ∷ x ∷ s ∷ w ∷ e ∷ t ∷ t' ∷ r ∷ b ∷ []) λ q y. simp
          (reads, q, y 0, y 1, y 2, y 3, y 4, y 5, y 6, y 7, y 8) (q.equal _ _ refl))

  -- a combination of residues of w, x·w, x²·w, ..
  combined : (e : Polynomial k) (n : ℕ) (cs : List ℕ) (rows : List (List ℕ)) (w : Polynomial k) → IsOver k.ops cs
      → length cs ≤ length rows → All (IsOver k.ops) rows
      → ((j : ℕ) → j < length rows → Congruent e (x_to j ⊗ w) (value k (get_or rows j [])))
      → Congruent e (value k cs ⊗ w) (value k (combination (row_ops k.ops n) cs rows))
  combined e n [] rows w cs_in le over h = record {
    quotient = 𝟘;
    is = ap (λ y. y ⊗ w) (value_nil k) ∙ step e w ∙ ap (λ y. e ⊗ 𝟘 ⊕ y) (sym (value_zeros k n));
  }
    where
      step : (e w : Polynomial k) → 𝟘 ⊗ w ≡ e ⊗ 𝟘 ⊕ 𝟘
      step e w = ring P (e ∷ w ∷ []) λ q y. simp (reads, q, y 0, y 1) (q.equal _ _ refl)
  combined e n (c ∷ cs) [] w cs_in le over h = absurd (omega arith)
  combined e n (c ∷ cs) (r ∷ rows) w cs_in le over h =
      one_more e n c r cs rows w (IsOver_head cs_in) (All-head (IsOver k.ops) r rows over) (IsOver_tail cs_in)
      (All-tail (IsOver k.ops) r rows over) (h 0 (omega arith))
      (combined e n cs rows (x_poly k ⊗ w) (IsOver_tail cs_in) (omega arith) (All-tail (IsOver k.ops) r rows over)
      (λ j less. subst (λ a. Congruent e a (value k (get_or rows j []))) (up (x_poly k) (x_to j) w)
      (h (suc j) (omega arith))))
    where
      up : (x p w : Polynomial k) → x ⊗ p ⊗ w ≡ p ⊗ (x ⊗ w)
      up x p w = ring P (x ∷ p ∷ w ∷ []) λ q y. simp (reads, q, y 0, y 1, y 2) (q.equal _ _ refl)

  -- the rows of a matrix are residues of w, x·w, x²·w, ..
  pub record ResidueRows (e : List ℕ) (w : Polynomial k) (m : MatrixValue) : Type 0 where
    pub over : IsMatrixOver k.ops m
    pub each : All (λ r. length r ≡ m.cols) m.rows
    pub short : m.cols < length e
    pub congruent : (j : ℕ) → j < length m.rows → Congruent (value k e) (x_to j ⊗ w) (value k (matrix_row m j))

  module _ (e : List ℕ) (w : Polynomial k) (m : MatrixValue) (e_in : IsOver k.ops e) (e_poly : IsPoly e)
      (h : ResidueRows e w m) where
    abbrev E : Polynomial k
    E = value k e

    of_first : (i : ℕ) (cs : List ℕ) → i ≤ length m.rows → length cs ≡ i → IsOver k.ops cs
        → Congruent E (value k cs ⊗ w) (value k (combination (row_ops k.ops m.cols) cs (take i m.rows)))
    of_first i cs le size cs_in =
        let l = length-take-le i m.rows le in
        combined E m.cols cs (take i m.rows) w cs_in (omega arith) (All-take (IsOver k.ops) i m.rows h.over.each)
        (λ j less. subst (λ r. Congruent E (x_to j ⊗ w) (value k r)) (sym (get_or-take i m.rows j [] (omega arith)))
        (h.congruent j (omega arith)))

    -- where E divides a multiple of w, the row at its top is a combination of the rows before it
    pub solution : (low : List ℕ) (t : ℕ) → IsOver k.ops low → t < k.size → t ≢ 0 → length low < length m.rows
        → IsDivisorIn P.ops E (value k (low ++ t ∷ []) ⊗ w)
        → (cs : List ℕ) × IsSolution k.ops (first_rows_of m (length low)) (matrix_row m (length low)) cs
    solution low t low_in t_in some less d = (
      cs,
      record {
        one_each = size ∙ sym (length-take-le (length low) m.rows (omega arith));
        over = cs_in;
        product =
            same_residue e (combination (row_ops k.ops m.cols) cs (take (length low) m.rows)) (matrix_row m (length low))
            m.cols (x_to (length low) ⊗ w) e_in e_poly h.short
            (combination_over k m.cols cs (take (length low) m.rows) cs_in
            (All-take (IsOver k.ops) (length low) m.rows h.over.each))
            (All-get_or (IsOver k.ops) m.rows (length low) [] less h.over.each)
            (length_combination k m.cols cs (take (length low) m.rows)
            (All-take (λ r. length r ≡ m.cols) (length low) m.rows h.each))
            (All-get_or (λ r. length r ≡ m.cols) m.rows (length low) [] less h.each)
            (record {
              quotient = constant_poly k (k.inv t) ⊗ d.0 ⊕ lower.quotient;
              is =
                  step (value k low) (x_to (length low)) (constant_poly k t) (constant_poly k (k.inv t)) w E d.0
                  lower.quotient _
                  (ap (λ y. y ⊗ w) (sym (value_push low t)) ∙ d.1)
                  (ap (λ y. y ⊗ w) (sym cs_value) ∙ lower.is)
                  (constant_inverse t t_in some);
            })
            (h.congruent (length low) less);
      },
    )
      where
        scaled : List ℕ
        scaled = scale_list (raw_ring k.ops) (k.inv t) low

        scaled_in : IsOver k.ops scaled
        scaled_in = IsOver_scale k (k.inv t) low (k.laws.inv_below t t_in some) low_in

        cs : List ℕ
        cs = neg_list (raw_ring k.ops) scaled

        cs_in : IsOver k.ops cs
        cs_in = IsOver_neg k scaled scaled_in

        size : length cs ≡ length low
        size = length_neg_list (raw_ring k.ops) scaled ∙ length_scale_list (raw_ring k.ops) (k.inv t) low

        cs_value : value k cs ≡ ⊖ (constant_poly k (k.inv t) ⊗ value k low)
        cs_value = value_neg_list scaled scaled_in
            ∙ ap ⊖◌ (value_scale_list k (k.inv t) low (k.laws.inv_below t t_in some) low_in)

        lower : Congruent E (value k cs ⊗ w)
            (value k (combination (row_ops k.ops m.cols) cs (take (length low) m.rows)))
        lower = of_first (length low) cs (omega arith) size cs_in

        step : (l p t u w e s s' c : Polynomial k) → (l ⊕ p ⊗ t) ⊗ w ≡ e ⊗ s → ⊖ (u ⊗ l) ⊗ w ≡ e ⊗ s' ⊕ c → u ⊗ t ≡ 𝟙
            → p ⊗ w ≡ e ⊗ (u ⊗ s ⊕ s') ⊕ c
        step l p t u w e s s' c f g one =
            from_three P u 𝟙 (⊖ (p ⊗ w)) f g one
            (ring P (l ∷ p ∷ t ∷ u ∷ w ∷ e ∷ s ∷ s' ∷ c ∷ []) λ q y. simp
            (reads, q, y 0, y 1, y 2, y 3, y 4, y 5, y 6, y 7, y 8) (q.equal _ _ refl))

    -- the same of a list without a zero on top
    pub dependent : (u : List ℕ) → IsOver k.ops u → IsPoly u → 0 < length u → length u ≤ length m.rows
        → IsDivisorIn P.ops E (value k u ⊗ w)
        → (cs : List ℕ) × IsSolution k.ops (first_rows_of m (length u - 1)) (matrix_row m (length u - 1)) cs
    dependent u u_in u_poly some le d =
        subst (λ i. (cs : List ℕ) × IsSolution k.ops (first_rows_of m i) (matrix_row m i) cs) size
        (solution low (get_or u (length u - 1) 0) (IsOver_take (length u - 1) u_in)
        (get_or_below k u (length u - 1) u_in)
        (top_some u u_poly (λ e. absurd (omega (arith, ap length e)))).1 (omega (arith, size))
        (subst (λ v. IsDivisorIn P.ops E (value k v ⊗ w)) (ends u some) d))
      where
        low : List ℕ
        low = take (length u - 1) u

        size : length low ≡ length u - 1
        size = length-take-le (length u - 1) u (omega arith)

    -- as many rows as e has codes aren't independent
    pub not_independent : 0 < length e → length e ≤ length m.rows → ¬ HasIndependentRows k.ops m
    not_independent some le independent =
        let s = dependent e e_in e_poly some le (w, refl) in independent (length e - 1) (omega arith) s.0 s.1

    -- the polynomial of a relation
    abbrev pub relation_of : List ℕ → List ℕ
    relation_of cs = neg_list (raw_ring k.ops) cs ++ 1 ∷ []

    module _ (cs : List ℕ) (first : IsFirstRelation k.ops m cs) where
      abbrev H : Polynomial k
      H = value k (relation_of cs)

      H_is : H ≡ ⊖ value k cs ⊕ x_to (length cs)
      H_is =
          value_push (neg_list (raw_ring k.ops) cs) 1
          ∙ ap₂ (λ a n. a ⊕ x_to n ⊗ constant_poly k 1) (value_neg_list cs first.relation.over)
          (length_neg_list (raw_ring k.ops) cs)
          ∙ ap (λ c. ⊖ value k cs ⊕ x_to (length cs) ⊗ c) (value_one k)
          ∙ ap (λ y. ⊖ value k cs ⊕ y) (P.mul_one (x_to (length cs)))

      kills : IsDivisorIn P.ops E (H ⊗ w)
      kills =
          let a = of_first (length cs) cs (let l = first.within in omega arith) refl first.relation.over in
          let b = h.congruent (length cs) first.within in (
            b.quotient ⊕ ⊖ a.quotient,
            ap (λ y. y ⊗ w) H_is
                ∙ step (value k cs) (x_to (length cs)) w E a.quotient b.quotient (value k (matrix_row m (length cs)))
                (a.is ∙ ap (λ r. E ⊗ a.quotient ⊕ value k r) first.relation.product) b.is,
          )
        where
          step : (c p w e s s' r : Polynomial k) → c ⊗ w ≡ e ⊗ s ⊕ r → p ⊗ w ≡ e ⊗ s' ⊕ r
              → (⊖ c ⊕ p) ⊗ w ≡ e ⊗ (s' ⊕ ⊖ s)
          step c p w e s s' r f g =
              from_two P (⊖ 𝟙) 𝟙 f g
              (ring P (c ∷ p ∷ w ∷ e ∷ s ∷ s' ∷ r ∷ []) λ q y. simp (reads, q, y 0, y 1, y 2, y 3, y 4, y 5, y 6)
              (q.equal _ _ refl))

      H_long : length H.0 ≤ suc (length cs)
      H_long =
          omega (
            arith,
            value_short k (relation_of cs),
            length-append (neg_list (raw_ring k.ops) cs) (1 ∷ []),
            length_neg_list (raw_ring k.ops) cs,
          )

      -- nothing shorter takes w into the multiples of E
      shorter_zero : (r : Polynomial k) → length r.0 ≤ length cs → IsDivisorIn P.ops E (r ⊗ w) → r ≡ 𝟘
      shorter_zero r le d = go (polynomial_discrete k r 𝟘)
        where
          size : length (codes_of k r) ≡ length r.0
          size = length-map r.0 (λ c. c.0)

          go : Dec (r ≡ 𝟘) → r ≡ 𝟘
          go (yes e) = e
          go (no n) =
              let s =
              dependent (codes_of k r) (IsOver_codes_of k r) (IsPoly_codes_of k r)
              (omega (arith, size, some_long k r n))
              (omega (arith, size, first.within))
              (subst (λ u. IsDivisorIn P.ops E (u ⊗ w)) (sym (value_codes_of k r)) d) in
              absurd (first.earlier (length (codes_of k r) - 1) (omega (arith, size, some_long k r n)) s.0 s.1)

      pub divisors : ¬ (H ≡ 𝟘) → (u : Polynomial k) → IsDivisorIn P.ops H u ↔ IsDivisorIn P.ops E (u ⊗ w)
      divisors some u = (to, from)
        where
          to : IsDivisorIn P.ops H u → IsDivisorIn P.ops E (u ⊗ w)
          to (q, is) = (q ⊗ kills.0, ap (λ y. y ⊗ w) is ∙ step H q w E kills.0 kills.1)
            where
              step : (h q w e s : Polynomial k) → h ⊗ w ≡ e ⊗ s → h ⊗ q ⊗ w ≡ e ⊗ (q ⊗ s)
              step h q w e s f =
                  from_one P q f (ring P (h ∷ q ∷ w ∷ e ∷ s ∷ []) λ p y. simp (reads, p, y 0, y 1, y 2, y 3, y 4)
                  (p.equal _ _ refl))

          from : IsDivisorIn P.ops E (u ⊗ w) → IsDivisorIn P.ops H u
          from (s, is) =
              let d = divide k u H some in (
                d.quotient,
                d.is ∙ ap (λ y. H ⊗ d.quotient ⊕ y)
                    (shorter_zero d.rest (let l = d.shorter in let m = H_long in omega arith)
                    (s ⊕ ⊖ (d.quotient ⊗ kills.0), step u H d.quotient d.rest w E s kills.0 is d.is kills.1))
                    ∙ P.add_zero (H ⊗ d.quotient),
              )
            where
              step : (u h q r w e s s' : Polynomial k) → u ⊗ w ≡ e ⊗ s → u ≡ h ⊗ q ⊕ r → h ⊗ w ≡ e ⊗ s'
                  → r ⊗ w ≡ e ⊗ (s ⊕ ⊖ (q ⊗ s'))
              step u h q r w e s s' f g i =
                  from_three P 𝟙 (⊖ w) (⊖ q) f g i
                  (ring P (u ∷ h ∷ q ∷ r ∷ w ∷ e ∷ s ∷ s' ∷ []) λ p y. simp
                  (reads, p, y 0, y 1, y 2, y 3, y 4, y 5, y 6, y 7) (p.equal _ _ refl))
