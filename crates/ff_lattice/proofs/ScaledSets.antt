-- A fraction times a lattice.
use Rattle.std.proofs.Common.{◌≡◌, ◌≢◌, ℕ, suc, ◌-◌, ◌<◌, ◌↔◌, List, [], ◌∷◌, length, map, refl, sym, ◌∙◌, ap, subst, arith, All}
use Rattle.std.proofs.lemmas.List.Elements.{All-nil, All-cons}
use Rattle.ring_lemmas.specs.Ring.{CommRing, TestedRing, IsDomain}
use Rattle.ring_lemmas.specs.Rows.{Row, row_scale}
use Rattle.ring_lemmas.proofs.Ring.{product_not_zero, zero_mul}
use Rattle.ring_lemmas.proofs.Solver.{ring, reads}
use Rattle.ring_lemmas.proofs.Rows.{row_scale_scale}
use Rattle.ring_lemmas.specs.Polynomials.{Pol}
use Rattle.ring_theory.specs.PolynomialRing.{pol_ring}
use Rattle.ff_fields.specs.Field.{CodeField}
use Rattle.ff_fields.specs.Code.{code_ring, code_field}
use Rattle.ff_fields.specs.Over.{IsOver, get_or_below}
use Rattle.ff_poly.specs.Words.{IsPoly, IsMonicList, product_of, multiple_of, top_of}
use Rattle.ff_poly.specs.PolyOver.{IsOver_multiple_of}
use Rattle.ff_poly.specs.Value.{value, value_product}
use Rattle.ff_poly.specs.Polynomials.{Polynomial, polynomials, polynomials_domain, codes_of, IsOver_codes_of, IsPoly_codes_of, value_codes_of, value_nil, constant_poly}
use Rattle.ff_poly.specs.Popov.{IsRow, multiple_of_row}
use Rattle.ff_poly.specs.Popov as codes
use Rattle.ff_poly.proofs.Parts.{IsMonic_multiple, value_multiple}
use Rattle.popov_theory.specs.Module.{PolynomialModule}
use Rattle.popov_theory.specs.Span as theory
use Rattle.popov_theory.proofs.Module.{scale_scale}
use Rattle.popov_theory.proofs.Existence.{rank_from_full}
use Rattle.popov_theory.proofs.PolynomialRows.{row_module_scale}
use Rattle.ff_popov.specs.Reading.{read_row, row_space, read_rows}
use Rattle.ff_popov.proofs.PopovBasis.{basis_weak, basis_full}
use Rattle.ff_popov.proofs.Spans.{from_space, space_multiple, multiple_row}
use Rattle.function_field.specs.Functions.{Equation, of_poly, over}
use Rattle.function_field.specs.Values.{PresValue, Functions, functions, equation_of}
use Rattle.function_field.proofs.Stages.{row_of_function}
use Rattle.ff_lattice.specs.Lattices.{LatticeValue, IsLatticeValue, elems_over, InSpanOf, Contains, IsScaled, IsSpannedBy}
use Rattle.ff_lattice.proofs.Fracs.{over_eq, over_same, over_scale}
use Rattle.ff_lattice.proofs.Elements.{in_span_of}
use Rattle.ff_lattice.proofs.Divisors.{monic_value}
use Rattle.ff_lattice.proofs.Normal.{monic_poly}
use Rattle.ff_lattice.proofs.SpannedSets.{multiple_poly}
use Rattle.ff_lattice.proofs.Membership.{span_up, span_down, read_multiples, multiples_in}

pub multiples_poly : (k : CodeField) (g : List ℕ) (rows : List (List (List ℕ)))
    → All (All IsPoly) (map (multiple_of_row k.ops g) rows)
multiples_poly k g [] = All-nil (All IsPoly)
multiples_poly k g (r ∷ rows) = All-cons (All IsPoly) (multiple_of_row k.ops g r) (map (multiple_of_row k.ops g) rows)
    (multiple_poly k g r) (multiples_poly k g rows)

-- rows times a polynomial other than 0 keep their rank
scaled_full : {A V : Type 0} {k : TestedRing A} (M : PolynomialModule k V) (domain : IsDomain (pol_ring k).ops)
    (h : Pol k) → ¬ (h ≡ (pol_ring k).𝟘) → (rs : List V) → theory.HasFullRank M rs
    → theory.HasFullRank M (map (M.◌·◌ h) rs)
scaled_full {k = k} M domain h some rs full = record {
  multiple = λ v.
      let m = full.multiple v in
      record {
        factor = (pol_ring k).◌⊗◌ h m.factor;
        some = product_not_zero domain h m.factor some m.some;
        in_span = subst (theory.InSpan M (map (M.◌·◌ h) rs)) (sym (scale_scale M h m.factor v))
            (span_up M h rs (M.◌·◌ m.factor v) m.in_span);
      };
}

module _ (k : CodeField) (n : ℕ) where
  abbrev M : PolynomialModule (code_ring k) (Row (Polynomial k) (suc (n - 1)))
  M = row_space k n

  -- full rank of codes is that of what they stand for
  pub codes_rank : (rows : List (List (List ℕ))) → All (IsRow k.ops n) rows → theory.HasFullRank M (read_rows k n rows)
      → codes.HasFullRankMatrix k.ops n rows
  codes_rank rows rows_in full = record {
    multiple = λ v v_row.
        let m = full.multiple (read_row k (suc (n - 1)) v) in
        let q = codes_of k m.factor in
        let q_in = IsOver_codes_of k m.factor in
        record {
          factor = q;
          factor_in = q_in;
          factor_poly = IsPoly_codes_of k m.factor;
          factor_some = λ none. m.some (sym (value_codes_of k m.factor) ∙ ap (value k) none ∙ value_nil k);
          in_span =
              from_space k n rows rows_in (multiple_of_row k.ops q v) (multiple_row k n q v q_in v_row)
              (multiple_poly k q v)
              (subst (theory.InSpan M (read_rows k n rows))
              (ap (λ c. M.◌·◌ c (read_row k (suc (n - 1)) v)) (sym (value_codes_of k m.factor))
              ∙ sym (space_multiple k n q v q_in v_row.over)) m.in_span);
        };
  }

  -- the rows of a lattice times a polynomial other than 0
  pub scaled_rank : (l : LatticeValue) (g : List ℕ) → 0 < n → IsLatticeValue k.ops n l → IsOver k.ops g
      → ¬ (value k g ≡ (polynomials k).𝟘) → codes.HasFullRankMatrix k.ops n (map (multiple_of_row k.ops g) l.rows)
  scaled_rank l g positive lattice g_in some =
      codes_rank (map (multiple_of_row k.ops g) l.rows) (multiples_in k n g l.rows g_in lattice.rows_in)
      (subst (theory.HasFullRank M) (sym (read_multiples k n g l.rows g_in lattice.rows_in))
      (scaled_full M (polynomials_domain k) (value k g) some (read_rows k n l.rows)
      (rank_from_full M (code_field k) (read_rows k n l.rows) (basis_weak k n l.rows lattice.rows_in lattice.popov)
      (basis_full k n l.rows lattice.rows_in lattice.popov positive))))

module _ (k : CodeField) (p : PresValue) (l : LatticeValue) (lattice : IsLatticeValue k.ops p.n l) (num den : List ℕ)
    (inverse : ℕ) (num_in : IsOver k.ops num) (den_in : IsOver k.ops den) (inverse_in : inverse < k.size)
    (e : List ℕ) (e_is : e ≡ product_of k.ops (multiple_of k.ops den inverse) l.den)
    (e_some : ¬ (value k e ≡ (polynomials k).𝟘)) where
  abbrev c : Equation k
  c = equation_of k p

  abbrev S : CommRing (Polynomial k)
  S = (polynomials k).ring

  abbrev n : ℕ
  n = suc (p.n - 1)

  abbrev N : PolynomialModule (code_ring k) (Row (Polynomial k) (suc (p.n - 1)))
  N = row_space k p.n

  abbrev top : List ℕ
  top = multiple_of k.ops num inverse

  abbrev rows : List (List (List ℕ))
  rows = map (multiple_of_row k.ops top) l.rows

  top_in : IsOver k.ops (multiple_of k.ops num inverse)
  top_in = IsOver_multiple_of k num_in inverse_in

  abbrev D : Polynomial k
  D = value k l.den

  D_some : ¬ (value k l.den ≡ (polynomials k).𝟘)
  D_some = monic_value k l.den lattice.den_in lattice.den_poly lattice.monic

  abbrev κ : Polynomial k
  κ = constant_poly k inverse

  top_is : value k top ≡ S.◌⊗◌ κ (value k num)
  top_is = value_multiple k num inverse num_in inverse_in

  e_value : value k e ≡ S.◌⊗◌ (S.◌⊗◌ κ (value k den)) D
  e_value =
      ap (value k) e_is ∙ value_product k (multiple_of k.ops den inverse) l.den (IsOver_multiple_of k den_in inverse_in)
      lattice.den_in
      ∙ ap (λ x. S.◌⊗◌ x D) (value_multiple k den inverse den_in inverse_in)

  rows_read : read_rows k p.n rows ≡ map (N.◌·◌ (value k top)) (read_rows k p.n l.rows)
  rows_read = read_multiples k p.n top l.rows top_in lattice.rows_in

  -- den/num as rows
  swap_to : (κ b D a : Polynomial k) → (polynomials k).◌⊗◌ D ((polynomials k).◌⊗◌ b ((polynomials k).◌⊗◌ κ a))
      ≡ (polynomials k).◌⊗◌ ((polynomials k).◌⊗◌ ((polynomials k).◌⊗◌ κ b) D) a
  swap_to κ b D a = ring S (κ ∷ b ∷ D ∷ a ∷ []) λ q x. simp (reads, q, x 0, x 1, x 2, x 3) (q.equal _ _ refl)

  pub scaled_iff : (z : Functions k p) → InSpanOf k p (elems_over rows e) z ↔ IsScaled k p num den (Contains k p l) z
  scaled_iff z = (to, from)
    where
      to : InSpanOf k p (elems_over rows e) z → IsScaled k p num den (Contains k p l) z
      to h =
          let m = (in_span_of k p e e_some rows z).0 h in
          let u = span_down N (value k top) (read_rows k p.n l.rows) m.numerator
          (subst (λ xs. theory.InSpan N xs m.numerator) rows_read m.in_rows) in
          let w = over c u.0 D D_some in
          record {
            member = w;
            member_in = (in_span_of k p l.den D_some l.rows w).1 (record { numerator = u.0; in_rows = u.1; is = refl });
            is =
                ap ((functions k p).◌⊗◌ (of_poly c (value k den))) m.is
                ∙ over_scale c (value k den) m.numerator (value k e) e_some
                ∙ over_eq c (row_scale S.ops n (value k den) m.numerator) (row_scale S.ops n (value k num) u.0)
                (value k e) D e_some D_some
                (ap (λ v. row_scale S.ops n D (row_scale S.ops n (value k den) v))
                (u.2 ∙ row_module_scale (code_ring k) (p.n - 1) (value k top) u.0
                ∙ ap (λ x. row_scale S.ops n x u.0) top_is)
                ∙ sym (row_scale_scale S n D (value k den) (row_scale S.ops n (S.◌⊗◌ κ (value k num)) u.0) ∙ refl)
                ∙ sym (row_scale_scale S n (S.◌⊗◌ D (value k den)) (S.◌⊗◌ κ (value k num)) u.0)
                ∙ ap (λ x. row_scale S.ops n x u.0)
                (S.mul_assoc D (value k den) (S.◌⊗◌ κ (value k num)) ∙ swap_to κ (value k den) D (value k num)
                ∙ ap (λ x. S.◌⊗◌ x (value k num)) (sym e_value))
                ∙ row_scale_scale S n (value k e) (value k num) u.0)
                ∙ sym (over_scale c (value k num) u.0 D D_some);
          }

      from : IsScaled k p num den (Contains k p l) z → InSpanOf k p (elems_over rows e) z
      from h =
          let m = (in_span_of k p l.den D_some l.rows h.member).0 h.member_in in
          let a = row_of_function c z in
          let v = a.0.num in
          let d = a.0.den in
          let b = value k den in
          let u = m.numerator in
          let equal =
          over_same c (row_scale S.ops n b v) (row_scale S.ops n (value k num) u) d D a.0.den_not_zero D_some
          (sym (over_scale c b v d a.0.den_not_zero) ∙ ap ((functions k p).◌⊗◌ (of_poly c b)) a.1 ∙ h.is
          ∙ ap ((functions k p).◌⊗◌ (of_poly c (value k num))) m.is ∙ over_scale c (value k num) u D D_some) in
          (in_span_of k p e e_some rows z).1
          (record {
            numerator = row_scale S.ops n (value k top) u;
            in_rows =
                subst (λ xs. theory.InSpan N xs (row_scale S.ops n (value k top) u)) (sym rows_read)
                (subst (theory.InSpan N (map (N.◌·◌ (value k top)) (read_rows k p.n l.rows)))
                (row_module_scale (code_ring k) (p.n - 1) (value k top) u)
                (span_up N (value k top) (read_rows k p.n l.rows) u m.in_rows));
            is =
                sym a.1
                ∙ over_eq c v (row_scale S.ops n (value k top) u) d (value k e) a.0.den_not_zero e_some
                (ap (λ x. row_scale S.ops n x v) (e_value ∙ move κ b D) ∙ row_scale_scale S n (S.◌⊗◌ κ D) b v
                ∙ row_scale_scale S n κ D (row_scale S.ops n b v)
                ∙ ap (row_scale S.ops n κ) equal
                ∙ sym (row_scale_scale S n κ d (row_scale S.ops n (value k num) u))
                ∙ sym (row_scale_scale S n (S.◌⊗◌ κ d) (value k num) u)
                ∙ ap (λ x. row_scale S.ops n x u) (move' κ d (value k num) ∙ ap (S.◌⊗◌ d) (sym top_is))
                ∙ row_scale_scale S n d (value k top) u);
          })
        where
          move : (κ b D : Polynomial k) → (polynomials k).◌⊗◌ ((polynomials k).◌⊗◌ κ b) D
              ≡ (polynomials k).◌⊗◌ ((polynomials k).◌⊗◌ κ D) b
          move κ b D = ring S (κ ∷ b ∷ D ∷ []) λ q x. simp (reads, q, x 0, x 1, x 2) (q.equal _ _ refl)

          move' : (κ d a : Polynomial k)
              → (polynomials k).◌⊗◌ ((polynomials k).◌⊗◌ κ d) a ≡ (polynomials k).◌⊗◌ d ((polynomials k).◌⊗◌ κ a)
          move' κ d a = ring S (κ ∷ d ∷ a ∷ []) λ q x. simp (reads, q, x 0, x 1, x 2) (q.equal _ _ refl)

-- the inverse of the top code makes a polynomial monic
pub made_monic : (k : CodeField) (den : List ℕ) (inverse t : ℕ) → IsOver k.ops den → den ≢ [] → inverse ≡ k.inv t
    → t ≡ top_of den → t ≢ 0 → (inverse < k.size) × IsMonicList (multiple_of k.ops den inverse)
made_monic k den inverse t den_in den_some inverse_is t_is t_some =
    let is : inverse ≡ k.inv (top_of den) = inverse_is ∙ ap k.inv t_is in
    let some : top_of den ≢ 0 = λ e. t_some (t_is ∙ e) in (
      subst (λ i. i < k.size) (sym is) (k.laws.inv_below (top_of den) (get_or_below k den (length den - 1) den_in)
          some),
      subst (λ i. IsMonicList (multiple_of k.ops den i)) (sym is)
          (IsMonic_multiple k den den_in some (positive den den_some)),
    )
  where
    positive : (d : List ℕ) → d ≢ [] → 0 < length d
    positive [] some = absurd (some refl)
    positive (x ∷ d) some = omega arith

-- what is multiplied by the same code isn't 0 either
pub multiple_not_zero : (k : CodeField) (num den : List ℕ) (inverse : ℕ) → IsOver k.ops num → IsOver k.ops den
    → inverse < k.size → IsMonicList (multiple_of k.ops den inverse) → ¬ (value k num ≡ (polynomials k).𝟘)
    → ¬ (value k (multiple_of k.ops num inverse) ≡ (polynomials k).𝟘)
multiple_not_zero k num den inverse num_in den_in inverse_in monic some e =
    product_not_zero (polynomials_domain k) (constant_poly k inverse) (value k num)
    (λ none.
    monic_value k (multiple_of k.ops den inverse) (IsOver_multiple_of k den_in inverse_in)
    (monic_poly (multiple_of k.ops den inverse) monic) monic
    (value_multiple k den inverse den_in inverse_in ∙ ap (λ x. (polynomials k).◌⊗◌ x (value k den)) none
    ∙ zero_mul (polynomials k).ring (value k den)))
    some
    (sym (value_multiple k num inverse num_in inverse_in) ∙ e)

-- the lattice that is made is the fraction times the lattice
pub scaled_members : (k : CodeField) (n : ℕ) (l made : LatticeValue) (num den : List ℕ) (inverse : ℕ) (e : List ℕ)
    → IsLatticeValue k.ops n l → IsOver k.ops num → IsOver k.ops den → inverse < k.size
    → e ≡ product_of k.ops (multiple_of k.ops den inverse) l.den → IsOver k.ops e → IsMonicList e
    → IsSpannedBy k n (elems_over (map (multiple_of_row k.ops (multiple_of k.ops num inverse)) l.rows) e) made
    → (p : PresValue) → p.n ≡ n → (z : Functions k p)
    → Contains k p made z ↔ IsScaled k p num den (Contains k p l) z
scaled_members k n l made num den inverse e lattice num_in den_in inverse_in e_is e_in e_monic spanned p n_is z =
    let m = spanned.members p n_is z in
    let s =
    scaled_iff k p l (subst (λ n. IsLatticeValue k.ops n l) (sym n_is) lattice) num den inverse num_in den_in inverse_in e
    e_is (monic_value k e e_in (monic_poly e e_monic) e_monic) z in (
      λ h. s.0 (m.0 h),
      λ h. m.1 (s.1 h),
    )
