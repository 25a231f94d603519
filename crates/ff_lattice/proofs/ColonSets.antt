-- The colon of two lattices: a polynomial in the one, and the conditions for each of its rows.
use Rattle.std.proofs.Common.{◌≡◌, ℕ, suc, ◌+◌, ◌-◌, ◌<◌, ◌↔◌, List, [], ◌∷◌, length, get_or, map, take, replicate, refl, sym, ◌∙◌, ap, ap₂, subst, arith, All, Some}
use Rattle.std.specs.Prelude.{slice_get}
use Rattle.std.proofs.lemmas.List.Elements.{All-nil, All-cons, All-head, All-tail, All-set, All-replicate}
use Rattle.std.proofs.lemmas.List.{length-set, length-replicate}
use Rattle.std.proofs.lemmas.Option.{get_or_from_slice_get}
use Rattle.ring_lemmas.specs.Ring.{CommRing}
use Rattle.ring_lemmas.specs.Rows.{row_scale, row_zero}
use Rattle.ring_theory.specs.Subsets.{IsSubring, IsModule}
use Rattle.ring_lemmas.proofs.Ring.{mul_zero, one_mul}
use Rattle.ring_lemmas.proofs.Rows.{pair_path, row_scale_zero}
use Rattle.ring_lemmas.proofs.Solver.{ring, reads}
use Rattle.ring_theory.proofs.Subsets.{span_zero, span_sum, span_scale, span_least, span_head, span_tail}
use Rattle.ff_fields.specs.Field.{CodeField}
use Rattle.ff_fields.specs.Over.{IsOver, IsOver_nil}
use Rattle.ff_poly.specs.Words.{IsPoly, IsMonicList}
use Rattle.ff_poly.specs.Value.{value}
use Rattle.ff_poly.specs.Polynomials.{Polynomial, polynomials, polynomials_domain, value_one}
use Rattle.ff_poly.specs.Popov.{row_at, entry_at, IsRow, InRowSpan, combination_list}
use Rattle.popov_theory.specs.Span as theory
use Rattle.popov_theory.proofs.Span.{span_row}
use Rattle.ff_popov.specs.Reading.{read_row, row_space, read_rows}
use Rattle.ff_popov.proofs.ReadRows.{read_row_at, read_zeros}
use Rattle.ff_popov.proofs.Spans.{to_space, from_space}
use Rattle.function_field.specs.Functions.{Equation, IsPolynomial, of_poly, over, row_of}
use Rattle.function_field.specs.Values.{ElemValue, PresValue, Functions, functions, function_of, equation_of}
use Rattle.function_field.proofs.ScalarRings.{polynomials_subring, of_poly_one}
use Rattle.ff_lattice.specs.Lattices.{LatticeValue, IsLatticeValue, Contains, InSpanOf, IsScaled, row_elems}
use Rattle.ff_lattice.specs.Colons.{IsColon, one_row}
use Rattle.ff_lattice.specs.Steps.{IsPreimage}
use Rattle.ff_lattice.proofs.Annihilators.{all_more}
use Rattle.ff_lattice.proofs.Divisors.{monic_value}
use Rattle.ff_lattice.proofs.Elements.{elem_over, in_span_of}
use Rattle.ff_lattice.proofs.Fracs.{over_eq}
use Rattle.ff_lattice.proofs.RowCombinations.{lin_one, combination_function}
use Rattle.ff_lattice.proofs.SpannedSets.{polys_at}
use Rattle.ff_lattice.proofs.Normal.{popov_poly}

pub one_row_in : (k : CodeField) (n : ℕ) (den : List ℕ) → IsOver k.ops den → IsRow k.ops n (one_row n den)
one_row_in k n den den_in = record {
  size = length-set (replicate n []) 0 den ∙ length-replicate n [];
  over = All-set (IsOver k.ops) (replicate n []) 0 den den_in (All-replicate (IsOver k.ops) n [] IsOver_nil);
}

module _ (k : CodeField) (n : ℕ) (m ls basis : List (List (List ℕ))) (pre : IsPreimage k.ops 1 n m ls basis)
    (h : List ℕ) (h_is : h ≡ entry_at (row_at basis 0) 0) where
  pub first_row : IsRow k.ops 1 (row_at basis 0)
  first_row = pre.rows_in 0 [] (omega (arith, pre.popov.size))

  pub polynomial_over : IsOver k.ops h
  polynomial_over = subst (IsOver k.ops) (sym h_is) (first_row.over 0 [] (omega (arith, first_row.size)))

  pub polynomial_monic : IsMonicList h
  polynomial_monic = subst IsMonicList (sym h_is) (pre.popov.monic 0 (omega arith))

module _ (k : CodeField) (p : PresValue) where
  abbrev c : Equation k
  c = equation_of k p

  abbrev F : CommRing (Functions k p)
  F = functions k p

  abbrev S : CommRing (Polynomial k)
  S = (polynomials k).ring

  abbrev T : Functions k p → Type 0
  T = IsPolynomial (equation_of k p)

  abbrev 𝓢 : IsSubring F.ops T
  𝓢 = polynomials_subring (equation_of k p)

  abbrev f : ElemValue → Functions k p
  f z = function_of k p z

  -- ---- a polynomial in a lattice

  read_first : (m : ℕ) (den : List ℕ) → read_row k (suc m) (den ∷ replicate m [])
      ≡ (value k den, row_zero (polynomials k).ops m)
  read_first m den = pair_path refl (read_zeros k m m)

  read_one_row : (n : ℕ) (den : List ℕ) → 0 < n
      → read_row k (suc (n - 1)) (one_row n den) ≡ (value k den, row_zero (polynomials k).ops (n - 1))
  read_one_row n den positive =
      let e : suc (n - 1) ≡ n = omega (arith, positive) in
      ap (λ w. read_row k (suc (n - 1)) (one_row w den)) (sym e) ∙ read_first (n - 1) den

  one_row_is : (den : List ℕ) (some : ¬ (value k den ≡ (polynomials k).𝟘)) → 0 < p.n
      → f (record { num = one_row p.n den; den = den }) ≡ F.𝟙
  unfolding row_scale
  one_row_is den some positive =
      elem_over k p den some (one_row p.n den)
      ∙ ap (λ v. over c v (value k den) some) (read_one_row p.n den positive)
      ∙ over_eq c (row_of c (value k den)) (row_of c (polynomials k).𝟙) (value k den) (polynomials k).𝟙 some
      (polynomials_domain k).one_not_zero
      (pair_path (S.mul_comm (polynomials k).𝟙 (value k den))
      (row_scale_zero S (p.n - 1) (polynomials k).𝟙 ∙ sym (row_scale_zero S (p.n - 1) (value k den))))
      ∙ sym (of_poly_one c)

  module _ (b : LatticeValue) (positive : 0 < p.n) (b_form : IsLatticeValue k.ops p.n b) (basis : List (List (List ℕ)))
      (pre : IsPreimage k.ops 1 p.n (one_row p.n b.den ∷ []) b.rows basis) (h : List ℕ)
      (h_is : h ≡ entry_at (row_at basis 0) 0) where
    den_some : ¬ (value k b.den ≡ (polynomials k).𝟘)
    den_some = monic_value k b.den b_form.den_in b_form.den_poly b_form.monic

    abbrev m : List (List (List ℕ))
    m = one_row p.n b.den ∷ []

    m_in : All (IsRow k.ops p.n) (one_row p.n b.den ∷ [])
    m_in = All-cons (IsRow k.ops p.n) (one_row p.n b.den) [] (one_row_in k p.n b.den b_form.den_in)
        (All-nil (IsRow k.ops p.n))

    abbrev cs : List (List ℕ)
    cs = row_at basis 0

    some_row : 0 < length basis
    some_row = omega (arith, pre.popov.size)

    cs_row : IsRow k.ops 1 (row_at basis 0)
    cs_row = pre.rows_in 0 [] some_row

    cs_poly : All IsPoly (row_at basis 0)
    cs_poly = polys_at basis (popov_poly 1 basis pre.popov) 0 some_row

    inside : InRowSpan k.ops p.n b.rows (combination_list k.ops p.n (row_at basis 0) (one_row p.n b.den ∷ []))
    inside =
        (pre.members (row_at basis 0) cs_row cs_poly).0
        (from_space k 1 basis pre.rows_in (row_at basis 0) cs_row cs_poly
        (subst (theory.InSpan (row_space k 1) (read_rows k 1 basis)) (read_row_at k 1 basis 0)
        (span_row (row_space k 1) (read_rows k 1 basis) 0)))

    pub polynomial_inside : Contains k p b (of_poly (equation_of k p) (value k h))
    polynomial_inside =
        subst (Contains k p b) is
        ((in_span_of k p b.den den_some b.rows (f (record { num = combination_list k.ops p.n cs m; den = b.den }))).1
        (record {
          numerator = read_row k (suc (p.n - 1)) (combination_list k.ops p.n cs m);
          in_rows = to_space k p.n b.rows b_form.rows_in (combination_list k.ops p.n cs m) inside;
          is = elem_over k p b.den den_some (combination_list k.ops p.n cs m);
        }))
      where
        is : f (record { num = combination_list k.ops p.n (row_at basis 0) (one_row p.n b.den ∷ []); den = b.den })
            ≡ of_poly (equation_of k p) (value k h)
        is =
            combination_function k p b.den den_some cs m cs_row.size cs_row.over m_in
            ∙ lin_one c (λ i. value k (entry_at cs i)) (f (record { num = one_row p.n b.den; den = b.den }))
            ∙ ap₂ F.◌⊗◌ (ap (λ a. of_poly c (value k a)) (sym h_is)) (one_row_is b.den den_some positive)
            ∙ F.mul_one (of_poly c (value k h))

  -- ---- the colon by the rows

  abbrev pub Holds : LatticeValue → Functions k p → List ElemValue → Type 0
  Holds a z ws = All (λ w. Contains k p a ((functions k p).◌⊗◌ (function_of k p w) z)) ws

  module _ (a b : LatticeValue) where
    move : (z s w : Functions k p) → (functions k p).◌⊗◌ z ((functions k p).◌⊗◌ s w)
        ≡ (functions k p).◌⊗◌ s ((functions k p).◌⊗◌ z w)
    move z s w = ring (functions k p) (z ∷ s ∷ w ∷ []) λ q x. simp (reads, q, x 0, x 1, x 2) (q.equal _ _ refl)

    -- the functions whose product with z is in a
    taken_module : (z : Functions k p) → IsModule F.ops T (λ w. Contains k p a ((functions k p).◌⊗◌ z w))
    taken_module z = record {
      zero_in = subst (Contains k p a) (sym (mul_zero F z)) (span_zero F T 𝓢 (map f (row_elems a)));
      sum_in = λ x y x_in y_in. subst (Contains k p a) (sym (F.mul_add z x y))
          (span_sum F T 𝓢 (map f (row_elems a)) (F.◌⊗◌ z x) (F.◌⊗◌ z y) x_in y_in);
      scale_in = λ s x s_in x_in. subst (Contains k p a) (sym (move z s x))
          (span_scale F T 𝓢 (map f (row_elems a)) s (F.◌⊗◌ z x) s_in x_in);
    }

    each_function : (z : Functions k p) (ws : List ElemValue) → Holds a z ws
        → All (λ w. Contains k p a ((functions k p).◌⊗◌ z w)) (map f ws)
    each_function z [] h = All-nil (λ w. Contains k p a ((functions k p).◌⊗◌ z w))
    each_function z (w ∷ ws) h =
        All-cons (λ w. Contains k p a ((functions k p).◌⊗◌ z w)) (f w) (map f ws)
        (subst (Contains k p a) (F.mul_comm (f w) z)
        (All-head (λ w. Contains k p a ((functions k p).◌⊗◌ (function_of k p w) z)) w ws h))
        (each_function z ws (All-tail (λ w. Contains k p a ((functions k p).◌⊗◌ (function_of k p w) z)) w ws h))

    holds_colon : (z : Functions k p) → Holds a z (row_elems b) → IsColon k p a b z
    holds_colon z h = span_least F T 𝓢 (λ w. Contains k p a ((functions k p).◌⊗◌ z w)) (taken_module z)
        (map f (row_elems b)) (each_function z (row_elems b) h)

    each_row : (z : Functions k p) (ws : List ElemValue)
        → ((w : Functions k p) → InSpanOf k p ws w → Contains k p a ((functions k p).◌⊗◌ z w)) → Holds a z ws
    each_row z [] h = All-nil (λ w. Contains k p a ((functions k p).◌⊗◌ (function_of k p w) z))
    each_row z (w ∷ ws) h =
        All-cons (λ w. Contains k p a ((functions k p).◌⊗◌ (function_of k p w) z)) w ws
        (subst (Contains k p a) (F.mul_comm z (f w)) (h (f w) (span_head F T 𝓢 (f w) (map f ws))))
        (each_row z ws (λ x x_in. h x (span_tail F T 𝓢 (f w) (map f ws) x x_in)))

    -- the multiples of 1/h by members of a that each row of b takes into a are the colon, where h is in b
    pub colon_iff : (h : List ℕ) → Contains k p b (of_poly (equation_of k p) (value k h)) → (z : Functions k p)
        → (IsScaled k p (1 ∷ []) h (Contains k p a) z × Holds a z (row_elems b)) ↔ IsColon k p a b z
    colon_iff h h_in z = (
      λ s. holds_colon z s.1,
      λ colon. (
        record {
          member = F.◌⊗◌ (of_poly c (value k h)) z;
          member_in = subst (Contains k p a) (F.mul_comm z (of_poly c (value k h)))
              (colon (of_poly c (value k h)) h_in);
          is =
              sym (ap (λ u. F.◌⊗◌ u (F.◌⊗◌ (of_poly c (value k h)) z))
              (ap (of_poly c) (value_one k) ∙ sym (of_poly_one c))
              ∙ one_mul F (F.◌⊗◌ (of_poly c (value k h)) z));
        },
        each_row z (row_elems b) colon,
      ),
    )

    -- one row more
    pub colon_more : (start old new : LatticeValue) (i : ℕ) (w : ElemValue) → i < length (row_elems b)
        → slice_get (row_elems b) i ≡ Some w
        → ((z : Functions k p) → Contains k p old z ↔ (Contains k p start z × Holds a z (take i (row_elems b))))
        → ((z : Functions k p) → Contains k p new z
        ↔ (Contains k p old z × Contains k p a ((functions k p).◌⊗◌ (function_of k p w) z)))
        → (z : Functions k p) → Contains k p new z ↔ (Contains k p start z × Holds a z (take (i + 1) (row_elems b)))
    colon_more start old new i w less w_is so_far more z =
        let P = λ (w : ElemValue). Contains k p a ((functions k p).◌⊗◌ (function_of k p w) z) in
        let all = all_more P (row_elems b) i w less in
        let at : get_or (row_elems b) i w ≡ w = get_or_from_slice_get (row_elems b) i w w w_is in (
          λ z_in.
              let x = (more z).0 z_in in
              let y = (so_far z).0 x.0 in
              (y.0, all.0 (y.1, subst P (sym at) x.1)),
          λ y.
              let x = all.1 y.1 in
              (more z).1 ((so_far z).1 (y.0, x.0), subst P at x.1),
        )

    -- the colon from the multiples of a member of a by 1/h
    pub colon_is : (h : List ℕ) (start : LatticeValue) → Contains k p b (of_poly (equation_of k p) (value k h))
        → ((z : Functions k p) → Contains k p start z ↔ IsScaled k p (1 ∷ []) h (Contains k p a) z)
        → (z : Functions k p) → (Contains k p start z × Holds a z (row_elems b)) ↔ IsColon k p a b z
    colon_is h start h_in start_is z =
        let iff = colon_iff h h_in z in (
          λ x. iff.0 ((start_is z).0 x.0, x.1),
          λ colon. let x = iff.1 colon in ((start_is z).1 x.0, x.1),
        )
