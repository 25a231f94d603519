-- Members of a lattice by scaled rows, and that a lattice has one form.
use Rattle.std.proofs.Common.{◌≡◌, ℕ, zero, suc, ◌-◌, ◌≤◌, ◌↔◌, List, [], ◌∷◌, map, refl, sym, ◌∙◌, ap, ap₂, subst, All, Bool, true, false, IsTrue, Option, None, Some}
use Rattle.std.specs.Prelude.{MatchOption, is_some}
use Rattle.std.specs.Global.{Vec}
use Rattle.std.proofs.lemmas.List.Elements.{All-nil, All-cons, All-head, All-tail}
use Rattle.ring_lemmas.specs.Ring.{CommRing, TestedRing}
use Rattle.ring_lemmas.specs.Lists.{tail_of}
use Rattle.ring_lemmas.specs.Rows.{Row}
use Rattle.ring_lemmas.specs.Polynomials.{Pol}
use Rattle.ring_theory.specs.PolynomialRing.{pol_ring}
use Rattle.ff_fields.specs.Field.{CodeField}
use Rattle.ff_fields.specs.Code.{code_ring}
use Rattle.ff_fields.specs.Over.{IsOver}
use Rattle.ff_poly.specs.Value.{value}
use Rattle.ff_poly.specs.Polynomials.{Polynomial, polynomials}
use Rattle.ff_poly.specs.Popov.{IsRow, InRowSpan, IsCombinationList, multiple_of_row}
use Rattle.popov_theory.specs.Module.{PolynomialModule}
use Rattle.popov_theory.specs.Span as theory
use Rattle.popov_theory.specs.Span.{combine}
use Rattle.popov_theory.proofs.Module.{scale_add, scale_scale, scale_zero}
use Rattle.popov_theory.proofs.PolynomialRows.{row_module_scale}
use Rattle.ff_popov.specs.Reading.{read_row, row_space, read_rows}
use Rattle.ff_popov.proofs.Spans.{to_space, from_space, space_multiple, multiple_row}
use Rattle.function_field.specs.Functions.{Equation, over}
use Rattle.function_field.specs.Values.{ElemValue, PresValue, IsElem, IsMonicElem, function_of, equation_of}
use Rattle.ff_lattice.specs.Lattices.{LatticeValue, IsLatticeValue, Contains}
use Rattle.ff_lattice.proofs.Fracs.{over_eq, over_same}
use Rattle.ff_lattice.proofs.Elements.{elem_over, in_span_of}
use Rattle.ff_lattice.proofs.Divisors.{monic_value}
use Rattle.ff_lattice.proofs.SpannedSets.{multiple_poly}

module _ {A V : Type 0} {k : TestedRing A} (M : PolynomialModule k V) (h : Pol k) where
  combine_scaled : (rs : List V) (c : ℕ → Pol k) → combine M c (map (M.◌·◌ h) rs) ≡ M.◌·◌ h (combine M c rs)
  combine_scaled [] c = sym (scale_zero M h)
  combine_scaled (r ∷ rs) c =
      ap₂ M.◌⊞◌
      (sym (scale_scale M (c zero) h r) ∙ ap (λ d. M.◌·◌ d r) ((pol_ring k).mul_comm (c zero) h)
      ∙ scale_scale M h (c zero) r)
      (combine_scaled rs (tail_of c))
      ∙ sym (scale_add M h _ _)

  pub span_up : (rs : List V) (v : V) → theory.InSpan M rs v → theory.InSpan M (map (M.◌·◌ h) rs) (M.◌·◌ h v)
  span_up rs v v_in = record {
    coefficients = v_in.coefficients;
    is = ap (M.◌·◌ h) v_in.is
        ∙ sym (combine_scaled rs v_in.coefficients);
  }

  pub span_down : (rs : List V) (v : V) → theory.InSpan M (map (M.◌·◌ h) rs) v
      → (u : V) × theory.InSpan M rs u × (v ≡ M.◌·◌ h u)
  span_down rs v v_in = (
    combine M v_in.coefficients rs,
    record { coefficients = v_in.coefficients; is = refl },
    v_in.is
        ∙ combine_scaled rs v_in.coefficients,
  )

-- the rows times a polynomial, as what they stand for
pub read_multiples : (k : CodeField) (w : ℕ) (c : List ℕ) (rows : List (List (List ℕ))) → IsOver k.ops c
    → All (IsRow k.ops w) rows → read_rows k w (map (multiple_of_row k.ops c) rows)
    ≡ map ((row_space k w).◌·◌ (value k c)) (read_rows k w rows)
read_multiples k w c [] c_in rows_in = refl
read_multiples k w c (r ∷ rows) c_in rows_in =
    ap₂ ◌∷◌ (space_multiple k w c r c_in (All-head (IsRow k.ops w) r rows rows_in).over)
    (read_multiples k w c rows c_in (All-tail (IsRow k.ops w) r rows rows_in))

pub multiples_in : (k : CodeField) (w : ℕ) (c : List ℕ) (rows : List (List (List ℕ))) → IsOver k.ops c
    → All (IsRow k.ops w) rows → All (IsRow k.ops w) (map (multiple_of_row k.ops c) rows)
multiples_in k w c [] c_in rows_in = All-nil (IsRow k.ops w)
multiples_in k w c (r ∷ rows) c_in rows_in =
    All-cons (IsRow k.ops w) (multiple_of_row k.ops c r) (map (multiple_of_row k.ops c) rows)
    (multiple_row k w c r c_in (All-head (IsRow k.ops w) r rows rows_in))
    (multiples_in k w c rows c_in (All-tail (IsRow k.ops w) r rows rows_in))

module _ (k : CodeField) (p : PresValue) where
  abbrev c : Equation k
  c = equation_of k p

  abbrev S : CommRing (Polynomial k)
  S = (polynomials k).ring

  abbrev n : ℕ
  n = suc (p.n - 1)

  abbrev M : PolynomialModule (code_ring k) (Row (Polynomial k) (suc (p.n - 1)))
  M = row_space k p.n

  module _ (l : LatticeValue) (lattice : IsLatticeValue k.ops p.n l) where
    abbrev D : Polynomial k
    D = value k l.den

    den_some : ¬ (value k l.den ≡ (polynomials k).𝟘)
    den_some = monic_value k l.den lattice.den_in lattice.den_poly lattice.monic

    abbrev rs : List (Row (Polynomial k) (suc (p.n - 1)))
    rs = read_rows k p.n l.rows

    -- z is in the lattice exactly where its numerators, times the lattice's denominator, are in the rows times the
    -- denominator of z
    pub contains_iff : (z : ElemValue) → IsElem k.ops p.n z → IsMonicElem z
        → InRowSpan k.ops p.n (map (multiple_of_row k.ops z.den) l.rows) (multiple_of_row k.ops l.den z.num)
        ↔ Contains k p l (function_of k p z)
    contains_iff z z_in z_monic = (to, from)
      where
        e_some : ¬ (value k z.den ≡ (polynomials k).𝟘)
        e_some = monic_value k z.den z_in.den_over z_monic.den_poly z_monic.monic

        v : Row (Polynomial k) (suc (p.n - 1))
        v = read_row k (suc (p.n - 1)) z.num

        scaled : List (List (List ℕ))
        scaled = map (multiple_of_row k.ops z.den) l.rows

        scaled_in : All (IsRow k.ops p.n) (map (multiple_of_row k.ops z.den) l.rows)
        scaled_in = multiples_in k p.n z.den l.rows z_in.den_over lattice.rows_in

        z_row : IsRow k.ops p.n z.num
        z_row = record { size = z_in.one_each; over = z_in.num_over }

        read_dv : read_row k (suc (p.n - 1)) (multiple_of_row k.ops l.den z.num)
            ≡ M.◌·◌ (value k l.den) (read_row k (suc (p.n - 1)) z.num)
        read_dv = space_multiple k p.n l.den z.num lattice.den_in z_in.num_over

        z_is : function_of k p z ≡ over c (read_row k (suc (p.n - 1)) z.num) (value k z.den) e_some
        z_is = elem_over k p z.den e_some z.num

        to : InRowSpan k.ops p.n (map (multiple_of_row k.ops z.den) l.rows) (multiple_of_row k.ops l.den z.num)
            → Contains k p l (function_of k p z)
        to h =
            let x = subst (λ xs. theory.InSpan M xs (read_row k (suc (p.n - 1)) (multiple_of_row k.ops l.den z.num)))
            (read_multiples k p.n z.den l.rows z_in.den_over lattice.rows_in)
            (to_space k p.n scaled scaled_in (multiple_of_row k.ops l.den z.num) h) in
            let u = span_down M (value k z.den) rs (read_row k (suc (p.n - 1)) (multiple_of_row k.ops l.den z.num)) x in
            (in_span_of k p l.den den_some l.rows (function_of k p z)).1
            (record {
              numerator = u.0;
              in_rows = u.1;
              is =
                  z_is
                  ∙ over_eq c v u.0 (value k z.den) (value k l.den) e_some den_some
                  (sym (row_module_scale (code_ring k) (p.n - 1) (value k l.den) v) ∙ sym read_dv ∙ u.2
                  ∙ row_module_scale (code_ring k) (p.n - 1) (value k z.den) u.0);
            })

        from : Contains k p l (function_of k p z)
            → InRowSpan k.ops p.n (map (multiple_of_row k.ops z.den) l.rows) (multiple_of_row k.ops l.den z.num)
        from h =
            let m = (in_span_of k p l.den den_some l.rows (function_of k p z)).0 h in
            let same = over_same c v m.numerator (value k z.den) (value k l.den) e_some den_some (sym z_is ∙ m.is) in
            from_space k p.n scaled scaled_in (multiple_of_row k.ops l.den z.num)
            (multiple_row k p.n l.den z.num lattice.den_in z_row) (multiple_poly k l.den z.num)
            (subst (theory.InSpan M (read_rows k p.n scaled))
            (row_module_scale (code_ring k) (p.n - 1) (value k z.den) m.numerator ∙ sym same
            ∙ sym (row_module_scale (code_ring k) (p.n - 1) (value k l.den) v) ∙ sym read_dv)
            (subst (λ xs. theory.InSpan M xs (M.◌·◌ (value k z.den) m.numerator))
            (sym (read_multiples k p.n z.den l.rows z_in.den_over lattice.rows_in))
            (span_up M (value k z.den) rs m.numerator m.in_rows)))

-- the answer of the division by the scaled rows
pub contains_decided : (k : CodeField) (n : ℕ) (l : LatticeValue) (z : ElemValue) (found : Option (Vec (List ℕ)))
    (r : Bool) → IsLatticeValue k.ops n l → IsElem k.ops n z → IsMonicElem z
    → MatchOption found (¬ InRowSpan k.ops n (map (multiple_of_row k.ops z.den) l.rows)
    (multiple_of_row k.ops l.den z.num)) (λ x. IsCombinationList k.ops n (map (multiple_of_row k.ops z.den) l.rows)
    (multiple_of_row k.ops l.den z.num) x.items)
    → r ≡ is_some found → (p : PresValue) → 1 ≤ p.n → p.n ≡ n → IsTrue r ↔ Contains k p l (function_of k p z)
contains_decided k n l z found r lattice z_in z_monic m r_is p positive n_is =
    let iff = contains_iff k p l (subst (λ n. IsLatticeValue k.ops n l) (sym n_is) lattice) z
    (subst (λ n. IsElem k.ops n z) (sym n_is) z_in) z_monic in
    let scaled = map (multiple_of_row k.ops z.den) l.rows in
    let v = multiple_of_row k.ops l.den z.num in
    let T = subst (λ n. InRowSpan k.ops n scaled v → Contains k p l (function_of k p z)) n_is iff.0 in
    let T' = subst (λ n. Contains k p l (function_of k p z) → InRowSpan k.ops n scaled v) n_is iff.1 in
    go found m r_is T T'
  where
    go : (found : Option (Vec (List ℕ)))
        → MatchOption found (¬ InRowSpan k.ops n (map (multiple_of_row k.ops z.den) l.rows)
        (multiple_of_row k.ops l.den z.num))
        (λ x. IsCombinationList k.ops n (map (multiple_of_row k.ops z.den) l.rows)
        (multiple_of_row k.ops l.den z.num) x.items)
        → r ≡ is_some found → (InRowSpan k.ops n (map (multiple_of_row k.ops z.den) l.rows)
        (multiple_of_row k.ops l.den z.num) → Contains k p l (function_of k p z))
        → (Contains k p l (function_of k p z)
        → InRowSpan k.ops n (map (multiple_of_row k.ops z.den) l.rows) (multiple_of_row k.ops l.den z.num))
        → IsTrue r ↔ Contains k p l (function_of k p z)
    go None none is to from = (λ t. let no : false ≡ true = sym is ∙ t in (cc), λ h. absurd (none (from h)))
    go (Some x) some is to from = (λ t. to (record { coefficients = x.items; is = some }), λ h. is)
