-- Where the discriminant isn't 0, no function but 0 is nilpotent, and F is a field where 0 and 1 are its only
-- idempotents.
use Rattle.std.proofs.Common.{◌≡◌, ℕ, zero, suc, ◌<◌, ◌≤◌, ◌+◌, ◌-◌, ◌⊎◌, inl, inr, List, [], ◌∷◌, refl, sym, ◌∙◌, ap, ap₂, subst, arith, ◌↔◌}
use Rattle.ring_lemmas.specs.Ring.{CommRing, IsField, pow}
use Rattle.ring_lemmas.specs.Rows.{Row, row_zero, row_scale, entry}
use Rattle.ring_lemmas.specs.Sums.{sum_below}
use Rattle.ring_lemmas.proofs.Ring.{one_mul, zero_mul, mul_zero, zero_add, mul_left_comm, mul_pow, pow_add, add_cancel_left}
use Rattle.ring_lemmas.proofs.Sums.{below_first, below_cong, below_scale}
use Rattle.ring_lemmas.proofs.Solver.{ring, reads, from_two}
use Rattle.ring_lemmas.proofs.Rows.{row_scale_one}
use Rattle.linear_theory.specs.Basis.{Relation}
use Rattle.linear_theory.proofs.Relation.{relation}
use Rattle.linear_theory.specs.Lists.{tabulate}
use Rattle.linear_theory.proofs.Elimination.{length_tabulate}
use Rattle.linear_theory.proofs.Domain.{first_nonzero}
use Rattle.ff_fields.specs.Field.{CodeField}
use Rattle.ff_poly.specs.Polynomials.{Polynomial, polynomials}
use Rattle.function_field.specs.Functions.{Equation, FunctionOf, ring_of, row_of, of_poly, over, y_of, trace_of, functions_discrete}
use Rattle.function_field.specs.Discriminant.{discriminant}
use Rattle.function_field.proofs.Horner.{add_plain, mul_plain}
use Rattle.function_field.proofs.OnSide.{den_inverse, of_poly_zero}
use Rattle.function_field.proofs.ScalarRings.{of_poly_one}
use Rattle.trace_theory.proofs.RowMatrix.{entry_add, at_scale, entry_zero, row_by_entries}
use Rattle.trace_theory.proofs.FunctionTraces.{K, R, one_some, over_eq, as_row, trace_plus, trace_rational, row_of_times, over_product, polynomial_value}
use Rattle.trace_theory.proofs.FunctionPowers.{exponent_of, rational_reduced, power_over}
use Rattle.trace_theory.proofs.Dependence.{combine_listed}
use Rattle.trace_theory.proofs.Degenerate.{domain, zero_over, zero_by_traces}

module _ {A : Type 0} (S : CommRing A) where
  infixl 65 ◌⊕◌
  infixl 70 ◌⊗◌
  infixr 80 ⊖◌
  open S use {𝟘, 𝟙, ◌⊕◌, ◌⊗◌, ⊖◌}

  -- where v^i is v^(i+1)·h, (v·h)^i is idempotent
  stays : (v h : A) (i : ℕ) → pow S.ops v i ≡ pow S.ops v (suc i) ⊗ h → (j : ℕ)
      → pow S.ops v i ≡ pow S.ops v i ⊗ pow S.ops (v ⊗ h) j
  stays v h i e zero = sym (S.mul_one _)
  stays v h i e (suc j) = e ∙ turn v (pow S.ops v i) h ∙ ap (λ u. u ⊗ (v ⊗ h)) (stays v h i e j)
      ∙ last (pow S.ops v i) (pow S.ops (v ⊗ h) j) (v ⊗ h)
    where
      turn : (v p h : A) → v ⊗ p ⊗ h ≡ p ⊗ (v ⊗ h)
      turn v p h = ring S (v ∷ p ∷ h ∷ []) λ q x. simp (reads, q, x 0, x 1, x 2) (q.equal _ _ refl)

      last : (p w u : A) → p ⊗ w ⊗ u ≡ p ⊗ (u ⊗ w)
      last p w u = ring S (p ∷ w ∷ u ∷ []) λ q x. simp (reads, q, x 0, x 1, x 2) (q.equal _ _ refl)

  power_idempotent : (v h : A) (i : ℕ) → pow S.ops v i ≡ pow S.ops v (suc i) ⊗ h
      → pow S.ops (v ⊗ h) i ⊗ pow S.ops (v ⊗ h) i ≡ pow S.ops (v ⊗ h) i
  power_idempotent v h i e =
      let p = pow S.ops v i in
      let r = pow S.ops h i in
      let w = pow S.ops (v ⊗ h) i in
      ap (λ x. x ⊗ w) (mul_pow S v h i) ∙ turn p r w ∙ ap (λ x. x ⊗ r) (sym (stays v h i e i)) ∙ sym (mul_pow S v h i)
    where
      turn : (p r w : A) → p ⊗ r ⊗ w ≡ p ⊗ w ⊗ r
      turn p r w = ring S (p ∷ r ∷ w ∷ []) λ q x. simp (reads, q, x 0, x 1, x 2) (q.equal _ _ refl)

  inverse_by_power : (v h : A) (i : ℕ) → pow S.ops v i ≡ pow S.ops v (suc i) ⊗ h → ¬ (pow S.ops v i ≡ 𝟘)
      → ((e : A) → e ⊗ e ≡ e → (e ≡ 𝟘) ⊎ (e ≡ 𝟙)) → (g : A) × (v ⊗ g ≡ 𝟙)
  inverse_by_power v h i e some idempotents = go (idempotents (pow S.ops (v ⊗ h) i) (power_idempotent v h i e))
    where
      by_one : (i : ℕ) → pow S.ops v i ≡ pow S.ops v (suc i) ⊗ h → pow S.ops (v ⊗ h) i ≡ 𝟙 → (g : A) × (v ⊗ g ≡ 𝟙)
      by_one zero e f = (h, sym (e ∙ ap (λ x. x ⊗ h) (S.mul_one v)))
      by_one (suc i) e f = (h ⊗ pow S.ops (v ⊗ h) i, sym (S.mul_assoc _ _ _) ∙ f)

      go : (pow S.ops (v ⊗ h) i ≡ 𝟘) ⊎ (pow S.ops (v ⊗ h) i ≡ 𝟙) → (g : A) × (v ⊗ g ≡ 𝟙)
      go (inl z) = absurd (some (stays v h i e i ∙ ap (λ x. pow S.ops v i ⊗ x) z ∙ mul_zero S _))
      go (inr o) = by_one i e o

  -- a sum of multiples of powers whose first i coefficients are 0
  record Lowest (m i : ℕ) (c : ℕ → A) (v : A) : Type 0 where
    rest : A
    is : sum_below S.ops m (λ j. c j ⊗ pow S.ops v j) ≡ c i ⊗ pow S.ops v i ⊕ pow S.ops v (suc i) ⊗ rest

  lowest : (m i : ℕ) → i < m → (c : ℕ → A) (v : A) → ((j : ℕ) → j < i → c j ≡ 𝟘) → Lowest m i c v
  lowest zero i l c v h = absurd (omega arith)
  lowest (suc m) zero l c v h = record {
    rest = sum_below S.ops m (λ j. c (suc j) ⊗ pow S.ops v j);
    is =
        below_first S m (λ j. c j ⊗ pow S.ops v j)
        ∙ ap (λ s. c 0 ⊗ 𝟙 ⊕ s) (shifted m
        ∙ ap (λ u. u ⊗ sum_below S.ops m (λ j. c (suc j) ⊗ pow S.ops v j)) (sym (S.mul_one v)));
  }
    where
      shifted : (m : ℕ) → sum_below S.ops m (λ j. c (suc j) ⊗ (v ⊗ pow S.ops v j))
          ≡ v ⊗ sum_below S.ops m (λ j. c (suc j) ⊗ pow S.ops v j)
      shifted m = below_cong S m _ _ (λ j l. mul_left_comm S _ _ _) ∙ below_scale S m v _
  lowest (suc m) (suc i) l c v h = record {
    rest = (lowest m i (omega arith) (λ j. c (suc j)) v (λ j b. h (suc j) (omega arith))).rest;
    is =
        below_first S m (λ j. c j ⊗ pow S.ops v j)
        ∙ ap₂ ◌⊕◌ (ap (λ x. x ⊗ 𝟙) (h 0 (omega arith)) ∙ zero_mul S 𝟙)
        (below_cong S m _ _ (λ j b. mul_left_comm S _ _ _) ∙ below_scale S m v (λ j. c (suc j) ⊗ pow S.ops v j)
        ∙ ap (λ s. v ⊗ s) (lowest m i (omega arith) (λ j. c (suc j)) v (λ j b. h (suc j) (omega arith))).is)
        ∙ zero_add S _ ∙ spread v (c (suc i)) (pow S.ops v i) _;
  }
    where
      spread : (v a p r : A) → v ⊗ (a ⊗ p ⊕ v ⊗ p ⊗ r) ≡ a ⊗ (v ⊗ p) ⊕ v ⊗ (v ⊗ p) ⊗ r
      spread v a p r = ring S (v ∷ a ∷ p ∷ r ∷ []) λ q x. simp (reads, q, x 0, x 1, x 2, x 3) (q.equal _ _ refl)

  -- with an inverse of the lowest coefficient v^i is a multiple of v^(i+1)
  power_by_rest : (a b p v r : A) → a ⊗ b ≡ 𝟙 → a ⊗ p ⊕ v ⊗ p ⊗ r ≡ 𝟘 → p ≡ v ⊗ p ⊗ ⊖ (b ⊗ r)
  power_by_rest a b p v r e f =
      from_two S (⊖ p) b e f (ring S (a ∷ b ∷ p ∷ v ∷ r ∷ []) λ q x. simp (reads, q, x 0, x 1, x 2, x 3, x 4)
      (q.equal _ _ refl))

module _ {k : CodeField} (c : Equation k) where
  infixl 65 ◌⊕◌
  infixl 70 ◌⊗◌
  infixr 80 ⊖◌
  open ring_of c use {𝟘, 𝟙, ◌⊕◌, ◌⊗◌, ⊖◌}

  abbrev F : CommRing (FunctionOf c)
  F = ring_of c

  pub trace_zero : trace_of c 𝟘 ≡ 𝟘
  trace_zero =
      add_cancel_left F (trace_of c 𝟘) (trace_of c 𝟘) 𝟘
      (sym (trace_plus c 𝟘 𝟘) ∙ ap (trace_of c) (F.add_zero 𝟘) ∙ sym (F.add_zero (trace_of c 𝟘)))

  pub trace_sum : (m : ℕ) (f : ℕ → FunctionOf c)
      → trace_of c (sum_below F.ops m f) ≡ sum_below F.ops m (λ i. trace_of c (f i))
  trace_sum zero f = trace_zero
  trace_sum (suc m) f = trace_plus c _ _ ∙ ap (λ s. s ⊕ trace_of c (f m)) (trace_sum m f)

  pub nilpotent_zero : (z : FunctionOf c) (m : ℕ) → ¬ (discriminant c ≡ (polynomials k).𝟘) → pow F.ops z m ≡ 𝟘 → z ≡ 𝟘
  nilpotent_zero z m some e =
      zero_by_traces c z some (λ i l.
      let u = z ⊗ pow F.ops (y_of c) i in
      let x = exponent_of c m in
      rational_reduced c (trace_of c u) (trace_rational c u) x.exponent
      (sym (x.trace u) ∙ ap (trace_of c) (mul_pow F z (pow F.ops (y_of c) i) x.exponent
      ∙ ap (λ p. p ⊗ pow F.ops (pow F.ops (y_of c) i) x.exponent) (high x.exponent x.large) ∙ zero_mul F _)
      ∙ trace_zero))
    where
      high : (n : ℕ) → m ≤ n → pow F.ops z n ≡ 𝟘
      high n l =
          ap (pow F.ops z) (let q : n ≡ m + (n - m) = omega arith in q) ∙ pow_add F z m (n - m)
          ∙ ap (λ p. p ⊗ pow F.ops z (n - m)) e ∙ zero_mul F _

  sum_plain : (m : ℕ) (a : ℕ → Polynomial k) (w : ℕ → Row (Polynomial k) (suc c.lower_degree))
      → sum_below F.ops m (λ j. of_poly c (a j) ⊗ over c (w j) (K c).𝟙 (one_some c))
      ≡ over c (sum_below (R c).ops m (λ j. row_scale (K c).ops (suc c.lower_degree) (a j) (w j))) (K c).𝟙 (one_some c)
  sum_plain zero a w = zero_over c (K c).𝟙 (one_some c)
  sum_plain (suc m) a w =
      ap₂ ◌⊕◌ (sum_plain m a w) (mul_plain c (row_of c (a m)) (w m)
      ∙ ap (λ v. over c v (K c).𝟙 (one_some c)) (row_of_times c (a m) (w m)))
      ∙ add_plain c _ _

  entry_sum : (l m : ℕ) (a : ℕ → Polynomial k) (w : ℕ → Row (Polynomial k) (suc c.lower_degree))
      → entry (K c).ops (suc c.lower_degree) l
      (sum_below (R c).ops m (λ j. row_scale (K c).ops (suc c.lower_degree) (a j) (w j)))
      ≡ sum_below (K c).ops m (λ j. (K c).◌⊗◌ (a j) (entry (K c).ops (suc c.lower_degree) l (w j)))
  entry_sum l zero a w = entry_zero (K c) (suc c.lower_degree) l
  entry_sum l (suc m) a w =
      entry_add (K c) (suc c.lower_degree) l _ _
      ∙ ap₂ (K c).◌⊕◌ (entry_sum l m a w) (at_scale (K c) c.lower_degree c.coefficients l (a m) (w m))

  -- d·(v/d) is v
  pub den_clears : (v : Row (Polynomial k) (suc c.lower_degree)) (d : Polynomial k) (n : ¬ (d ≡ (K c).𝟘))
      → of_poly c d ⊗ over c v d n ≡ over c v (K c).𝟙 (one_some c)
  den_clears v d n =
      over_product c (row_of c d) v (K c).𝟙 d (one_some c) n
      ∙ over_eq c _ _ _ _ _ _
      (row_scale_one (K c) (suc c.lower_degree) _ ∙ row_of_times c d v
      ∙ ap (λ e. row_scale (K c).ops (suc c.lower_degree) e v) (sym (one_mul (K c) d)))

  -- some power of a row is a multiple of the next one
  record PowerRepeats (V : FunctionOf c) : Type 0 where
    exponent : ℕ
    factor : FunctionOf c
    is : pow F.ops V exponent ≡ pow F.ops V (suc exponent) ⊗ factor

  power_repeats : (v : Row (Polynomial k) (suc c.lower_degree)) → PowerRepeats (over c v (K c).𝟙 (one_some c))
  power_repeats v =
      go
      (relation (domain c) N powers (let q = length_tabulate (suc N) entries in omega arith))
    where
      N : ℕ
      N = suc c.lower_degree

      V : FunctionOf c
      V = over c v (K c).𝟙 (one_some c)

      entries : ℕ → ℕ → Polynomial k
      entries j l = entry (K c).ops (suc c.lower_degree) l (pow (R c).ops v j)

      powers : List (ℕ → Polynomial k)
      powers = tabulate (suc (suc c.lower_degree)) (λ j l. entry (K c).ops (suc c.lower_degree) l (pow (R c).ops v j))

      power_plain : (j : ℕ) → pow F.ops (over c v (K c).𝟙 (one_some c)) j
          ≡ over c (pow (R c).ops v j) (K c).𝟙 (one_some c)
      power_plain zero = power_over c v (K c).𝟙 (one_some c) 0 ∙ over_eq c _ _ _ _ _ _ refl
      power_plain (suc j) = ap (λ z. over c v (K c).𝟙 (one_some c) ⊗ z) (power_plain j)
          ∙ mul_plain c v (pow (R c).ops v j)

      go : Relation (K c).ops (suc c.lower_degree)
          (tabulate (suc (suc c.lower_degree)) (λ j l. entry (K c).ops (suc c.lower_degree) l (pow (R c).ops v j)))
          → PowerRepeats (over c v (K c).𝟙 (one_some c))
      go r = at_first (first_nonzero (domain c) r.coefficient (suc (suc c.lower_degree)))
        where
          total : sum_below (ring_of c).ops (suc (suc c.lower_degree))
              (λ j. (ring_of c).◌⊗◌ (of_poly c (r.coefficient j))
              (pow (ring_of c).ops (over c v (K c).𝟙 (one_some c)) j)) ≡ (ring_of c).𝟘
          total =
              below_cong (ring_of c) (suc (suc c.lower_degree)) _ _
              (λ j l. ap (λ z. (ring_of c).◌⊗◌ (of_poly c (r.coefficient j)) z) (power_plain j))
              ∙ sum_plain (suc (suc c.lower_degree)) r.coefficient (λ j. pow (R c).ops v j)
              ∙ ap (λ v. over c v (K c).𝟙 (one_some c))
              (row_by_entries (K c) (suc c.lower_degree) _ (row_zero (K c).ops (suc c.lower_degree)) (λ l b.
              entry_sum l (suc (suc c.lower_degree)) r.coefficient (λ j. pow (R c).ops v j)
              ∙ sym (combine_listed (K c) (suc (suc c.lower_degree)) r.coefficient
              (λ j l. entry (K c).ops (suc c.lower_degree) l (pow (R c).ops v j)) l)
              ∙ r.is l b ∙ sym (entry_zero (K c) (suc c.lower_degree) l)))
              ∙ sym (zero_over c (K c).𝟙 (one_some c))

          at_first : ((i : ℕ) × (i < suc (suc c.lower_degree)) × (¬ (r.coefficient i ≡ (K c).𝟘))
              × ((j : ℕ) → j < i → r.coefficient j ≡ (K c).𝟘))
              ⊎ ((i : ℕ) → i < suc (suc c.lower_degree) → r.coefficient i ≡ (K c).𝟘)
              → PowerRepeats (over c v (K c).𝟙 (one_some c))
          at_first (inr none) =
              absurd (r.nonzero (none r.position
              (subst (λ n. r.position < n) (length_tabulate (suc (suc c.lower_degree))
              (λ j l. entry (K c).ops (suc c.lower_degree) l (pow (R c).ops v j))) r.position_below)))
          at_first (inl (i, l, some, before)) =
              let V = over c v (K c).𝟙 (one_some c) in
              let low = lowest (ring_of c) (suc (suc c.lower_degree)) i l (λ j. of_poly c (r.coefficient j)) V
              (λ j b. ap (of_poly c) (before j b) ∙ sym (of_poly_zero c)) in
              let b = over c (row_of c (K c).𝟙) (r.coefficient i) some in
              record {
                exponent = i;
                factor = (ring_of c).⊖◌ ((ring_of c).◌⊗◌ b low.rest);
                is =
                    power_by_rest (ring_of c) (of_poly c (r.coefficient i)) b (pow (ring_of c).ops V i) V low.rest
                    (den_inverse c (r.coefficient i) some) (sym low.is ∙ total);
              }

  pub one_not_zero : ¬ (𝟙 ≡ 𝟘)
  one_not_zero e =
      one_some c
      (polynomial_value c (K c).𝟙 (K c).𝟘 (K c).𝟙 (one_some c) (sym (of_poly_one c) ∙ e ∙ of_poly_zero c)
      ∙ mul_zero (K c) (K c).𝟙)

  pub field_of_idempotents : ¬ (discriminant c ≡ (polynomials k).𝟘)
      → ((e : FunctionOf c) → e ⊗ e ≡ e → (e ≡ 𝟘) ⊎ (e ≡ 𝟙)) → IsField F.ops
  field_of_idempotents some idempotents = record { one_not_zero = one_not_zero; inverse = inverse }
    where
      turn : (z d g : FunctionOf c) → (ring_of c).◌⊗◌ z ((ring_of c).◌⊗◌ d g) ≡ (ring_of c).◌⊗◌ ((ring_of c).◌⊗◌ d z) g
      turn z d g = ring (ring_of c) (z ∷ d ∷ g ∷ []) λ q x. simp (reads, q, x 0, x 1, x 2) (q.equal _ _ refl)

      undone : (d i z : FunctionOf c) → (ring_of c).◌⊗◌ d i ≡ (ring_of c).𝟙 → (ring_of c).◌⊗◌ d z ≡ (ring_of c).𝟘
          → z ≡ (ring_of c).𝟘
      undone d i z e f =
          from_two (ring_of c) ((ring_of c).⊖◌ z) i e f
          (ring (ring_of c) (d ∷ i ∷ z ∷ []) λ q x. simp (reads, q, x 0, x 1, x 2) (q.equal _ _ refl))

      inverse : (z : FunctionOf c) → ¬ (z ≡ (ring_of c).𝟘) → (g : FunctionOf c) × ((ring_of c).◌⊗◌ z g ≡ (ring_of c).𝟙)
      inverse z nonzero =
          let r = as_row c z in
          let V = over c r.num (K c).𝟙 (one_some c) in
          let clear : (ring_of c).◌⊗◌ (of_poly c r.den) z ≡ V = ap (λ z. (ring_of c).◌⊗◌ (of_poly c r.den) z) r.is
          ∙ den_clears r.num r.den r.not_zero in
          let p = power_repeats r.num in
          let i = inverse_by_power (ring_of c) V p.factor p.exponent p.is
          (λ e. nonzero (undone (of_poly c r.den) (over c (row_of c (K c).𝟙) r.den r.not_zero) z
          (den_inverse c r.den r.not_zero)
          (clear ∙ nilpotent_zero V p.exponent some e))) idempotents in (
            (ring_of c).◌⊗◌ (of_poly c r.den) i.0,
            turn z (of_poly c r.den) i.0 ∙ ap (λ v. (ring_of c).◌⊗◌ v i.0) clear
                ∙ i.1,
          )

  -- in a field 0 and 1 are the only idempotents
  idempotents_of_field : IsField F.ops → (e : FunctionOf c) → e ⊗ e ≡ e → (e ≡ 𝟘) ⊎ (e ≡ 𝟙)
  idempotents_of_field field e h = go (functions_discrete c e 𝟘)
    where
      go : Dec (e ≡ (ring_of c).𝟘) → (e ≡ (ring_of c).𝟘) ⊎ (e ≡ (ring_of c).𝟙)
      go (yes z) = inl z
      go (no n) =
          let i = field.inverse e n in
          inr (sym ((ring_of c).mul_one e) ∙ ap ((ring_of c).◌⊗◌ e) (sym i.1) ∙ sym ((ring_of c).mul_assoc e e i.0)
          ∙ ap (λ z. (ring_of c).◌⊗◌ z i.0) h ∙ i.1)

  pub field_iff : ¬ (discriminant c ≡ (polynomials k).𝟘)
      → IsField F.ops ↔ ((e : FunctionOf c) → e ⊗ e ≡ e → (e ≡ 𝟘) ⊎ (e ≡ 𝟙))
  field_iff some = (idempotents_of_field, field_of_idempotents some)
