-- Elements over a common denominator.
use Rattle.std.proofs.Common.{◌≡◌, ℕ, suc, ◌+◌, ◌-◌, ◌<◌, ◌↔◌, List, [], ◌∷◌, ◌++◌, length, get_or, map, take, refl, sym, ◌∙◌, ap, ap₂, subst, arith, All}
use Rattle.std.specs.Global.{Vec}
use Rattle.std.proofs.lemmas.List.{length-map, length-append, length-take-le, get_or-take, get_or_append_left, get_or-append_right}
use Rattle.std.proofs.lemmas.List.Elements.{All-nil, All-cons, All-head, All-tail}
use borrow.Author.Count.{below_more}
use Rattle.ring_lemmas.proofs.Ring.{zero_mul, mul_zero}
use Rattle.ff_fields.specs.Field.{CodeField}
use Rattle.ff_fields.specs.Over.{IsOver}
use Rattle.ff_poly.specs.Words.{IsPoly, IsMonicList, IsQuotientWithRest, DividesList, product_of, sum_of}
use Rattle.ff_poly.specs.PolyOver.{IsOver_product_of}
use Rattle.ff_poly.specs.Value.{value, value_product}
use Rattle.ff_poly.specs.Polynomials.{polynomials}
use Rattle.ff_poly.specs.Popov.{rows_of, row_at, IsRow, HasFullRankMatrix, multiple_of_row}
use Rattle.ff_poly.proofs.Parts.{IsPoly_product_of, IsMonic_product}
use Rattle.ff_popov.proofs.Spans.{multiple_over}
use Rattle.ff_popov.proofs.Entries.{any_default}
use Rattle.function_field.specs.Values.{ElemValue, PresValue, IsElem, Functions, functions, function_of, equation_of}
use Rattle.ring_theory.specs.Subsets.{Span}
use Rattle.function_field.specs.Functions.{IsPolynomial}
use Rattle.ff_lattice.specs.Lattices.{LatticeValue, elems_over, InSpanOf, Contains, IsFullLattice, IsSpannedBy}
use Rattle.ff_lattice.specs.Steps.{IsCommonMultiple, IsExpansion, IsExpanded}
use Rattle.ff_lattice.proofs.Elements.{DividesPol, divides_value, divides_codes}
use Rattle.ff_lattice.proofs.Divisors.{pol_times, divides_self, product_comm, sum_nil, monic_value}
use Rattle.ff_lattice.proofs.Annihilators.{all_more}
use Rattle.ff_lattice.proofs.Normal.{monic_poly}
use Rattle.ff_lattice.proofs.SpannedSets.{factor_elem, rank_of_full}
use Rattle.ff_lattice.proofs.Pushes.{rows_push}

module _ (k : CodeField) where
  -- no rest
  pub divides_from_rest : (e d q rest : List ℕ) → IsOver k.ops d → IsQuotientWithRest k.ops e d q rest → rest ≡ []
      → DividesList k.ops d e
  divides_from_rest e d q rest d_in division none = record {
    quotient = q;
    quotient_in = division.quotient_in;
    quotient_poly = division.quotient_poly;
    product =
        division.whole ∙ ap (λ r. sum_of k.ops (product_of k.ops d q) r) none
        ∙ sum_nil k (product_of k.ops d q) (IsOver_product_of k d_in division.quotient_in)
        (IsPoly_product_of k.ops d q);
  }

  pub divides_trans : (c d e : List ℕ) → IsOver k.ops c → IsOver k.ops d → IsOver k.ops e → IsPoly e
      → DividesList k.ops c d → DividesList k.ops d e → DividesList k.ops c e
  divides_trans c d e c_in d_in e_in e_poly h h' =
      let v = divides_value k d e d_in h' in
      divides_codes k c e c_in e_in e_poly
      (subst (DividesPol k (value k c)) (sym v.is)
      (pol_times k (value k c) (value k d) v.quotient (divides_value k c d c_in h)))

  pub common_first : (e d : List ℕ) → IsOver k.ops e → IsMonicList e → DividesList k.ops d e → IsCommonMultiple k.ops e d e
  common_first e d e_in e_monic h = record
      { over = e_in; monic = e_monic; of_first = divides_self k e e_in (monic_poly e e_monic); of_second = h }

  pub common_product : (e d m : List ℕ) → IsOver k.ops e → IsMonicList e → IsOver k.ops d → IsMonicList d
      → m ≡ product_of k.ops e d → IsCommonMultiple k.ops e d m
  common_product e d m e_in e_monic d_in d_monic m_is = subst (IsCommonMultiple k.ops e d) (sym m_is) (record {
    over = IsOver_product_of k e_in d_in;
    monic = IsMonic_product k e d e_in d_in e_monic d_monic;
    of_first = record { quotient = d; quotient_in = d_in; quotient_poly = monic_poly d d_monic; product = refl };
    of_second = record {
      quotient = e;
      quotient_in = e_in;
      quotient_poly = monic_poly e e_monic;
      product = product_comm
          k e d e_in d_in;
    };
  })

  -- one denominator more
  pub denominators_more : (n : ℕ) (zs : List ElemValue) (i : ℕ) (z : ElemValue) (e m : List ℕ) → All (IsElem k.ops n) zs
      → i < length zs → z ≡ get_or zs i z → IsOver k.ops e → All (λ z. DividesList k.ops z.den e) (take i zs)
      → IsCommonMultiple k.ops e z.den m
      → All (λ z. DividesList k.ops z.den m) (take (i + 1) zs)
  denominators_more n zs i z e m zs_in less z_is e_in so_far common =
      (all_more (λ z. DividesList k.ops z.den m) zs i z less).0 (
        (λ j d j_less.
            let in_zs : j < length zs = omega (arith, less, j_less, length_take j_less) in
            divides_trans (get_or (take i zs) j d).den e m
            (den_over (get_or (take i zs) j d)
            (subst (IsElem k.ops n) (sym (get_or-take i zs j d (length_take j_less))) (zs_in j d in_zs)))
            e_in common.over (monic_poly m common.monic) (so_far j d j_less) common.of_first),
        subst (λ z'. DividesList k.ops z'.den m) z_is common.of_second,
      )
    where
      length_take : {j : ℕ} → j < length (take i zs) → j < i
      length_take {j} j_less = omega (arith, j_less, length-take-le i zs (omega (arith, less)))

      den_over : (z : ElemValue) → IsElem k.ops n z → IsOver k.ops z.den
      den_over z z_in = z_in.den_over

  -- one row more
  pub rows_more : (n : ℕ) (e : List ℕ) (zs : List ElemValue) (old new : List (Vec (List ℕ))) (i : ℕ) (z : ElemValue)
      (row : Vec (List ℕ)) → i < length zs → z ≡ get_or zs i z → length (rows_of old) ≡ i
      → ((m : ℕ) (d : ElemValue) → m < i → IsExpansion k.ops e (get_or zs m d) (row_at (rows_of old) m))
      → IsExpansion k.ops e z row.items → new ≡ old ++ row ∷ []
      → (length (rows_of new) ≡ i + 1) ×
      ((m : ℕ) (d : ElemValue) → m < i + 1 → IsExpansion k.ops e (get_or zs m d) (row_at (rows_of new) m))
  rows_more n e zs old new i z row less z_is size so_far last new_is =
      let is = ap rows_of new_is ∙ rows_push old row in (
        ap length is ∙ length-append (rows_of old) (row.items ∷ []) ∙ ap (λ m. m + 1) size,
        λ m d m_less.
            below_more (λ m. (d : ElemValue) → IsExpansion k.ops e (get_or zs m d) (row_at (rows_of new) m)) i
            (λ m m_less d.
            subst (IsExpansion k.ops e (get_or zs m d))
            (sym (ap (λ xs. row_at xs m) is ∙ get_or_append_left (rows_of old) (row.items ∷ []) [] m
            (omega (arith, m_less, size)))) (so_far m d m_less))
            (λ d.
            subst (IsExpansion k.ops e (get_or zs i d)) (sym (ap (λ xs. row_at xs i) is ∙ last_row))
            (subst (λ z'. IsExpansion k.ops e z' row.items) (z_is ∙ any_default zs i z d less) last))
            m m_less d,
      )
    where
      zero_gap : (i : ℕ) → i - i ≡ 0
      zero_gap i = omega arith

      last_row : row_at (rows_of old ++ row.items ∷ []) i ≡ row.items
      last_row = get_or-append_right (rows_of old) (row.items ∷ []) i i [] size (omega arith)
          ∙ ap (λ j. get_or (row.items ∷ []) j []) (zero_gap i)

  module _ (n : ℕ) (e : List ℕ) (e_in : IsOver k.ops e) (e_monic : IsMonicList e) where
    e_some : ¬ (value k e ≡ (polynomials k).𝟘)
    e_some = monic_value k e e_in (monic_poly e e_monic) e_monic

    module _ (z : ElemValue) (row : List (List ℕ)) (z_in : IsElem k.ops n z) (x : IsExpansion k.ops e z row) where
      e_value : value k e ≡ (polynomials k).◌⊗◌ (value k z.den) (value k x.factor)
      e_value = ap (value k) x.den_is ∙ value_product k z.den x.factor z_in.den_over x.factor_in

      expansion_function : (p : PresValue) → function_of k p (record { num = row; den = e }) ≡ function_of k p z
      expansion_function p =
          ap₂ (λ v d. function_of k p (record { num = v; den = d })) x.num_is
          (x.den_is ∙ product_comm k z.den x.factor z_in.den_over x.factor_in)
          ∙ factor_elem k p x.factor z.den z.num x.factor_in z_in.den_over z_in.num_over
          (λ none. e_some (e_value ∙ ap ((polynomials k).◌⊗◌ (value k z.den)) none
          ∙ mul_zero (polynomials k).ring (value k z.den)))
          (λ none. e_some (e_value ∙ ap (λ d. (polynomials k).◌⊗◌ d (value k x.factor)) none
          ∙ zero_mul (polynomials k).ring (value k x.factor)))

      expansion_row : IsRow k.ops n row
      expansion_row = subst (IsRow k.ops n) (sym x.num_is) (record {
        size = length-map z.num (product_of k.ops x.factor) ∙ z_in.one_each;
        over = multiple_over k x.factor z.num x.factor_in z_in.num_over;
      })

      expansion_poly : All IsPoly row
      expansion_poly = subst (All IsPoly) (sym x.num_is) (go z.num)
        where
          go : (v : List (List ℕ)) → All IsPoly (multiple_of_row k.ops x.factor v)
          go [] = All-nil IsPoly
          go (a ∷ v) = All-cons IsPoly (product_of k.ops x.factor a) (multiple_of_row k.ops x.factor v)
              (IsPoly_product_of k.ops x.factor a) (go v)

    -- rows over a common denominator
    module _ (zs : List ElemValue) (rows : List (List (List ℕ))) (zs_in : All (IsElem k.ops n) zs)
        (x : IsExpanded k.ops n e zs rows) where
      at : (i : ℕ) → i < length zs → (z : ElemValue) × IsElem k.ops n z × IsExpansion k.ops e z (row_at rows i)
      at i less = go zs refl
        where
          go : (ys : List ElemValue) → ys ≡ zs
              → (z : ElemValue) × IsElem k.ops n z × IsExpansion k.ops e z (row_at rows i)
          go [] same = absurd (omega (arith, less, ap length same))
          go (y ∷ ys) same = (get_or zs i y, zs_in i y less, x.each i y less)

      pub expanded_rows : All (IsRow k.ops n) rows
      expanded_rows i d less =
          let a = at i (omega (arith, less, x.size)) in
          subst (IsRow k.ops n) (any_default rows i [] d less) (expansion_row a.0 (row_at rows i) a.1 a.2)

      pub expanded_poly : All (All IsPoly) rows
      expanded_poly i d less =
          let a = at i (omega (arith, less, x.size)) in
          subst (All IsPoly) (any_default rows i [] d less) (expansion_poly a.0 (row_at rows i) a.1 a.2)

    pub expanded_functions : (p : PresValue) (zs : List ElemValue) (rows : List (List (List ℕ)))
        → All (IsElem k.ops n) zs → IsExpanded k.ops n e zs rows
        → map (function_of k p) (elems_over rows e) ≡ map (function_of k p) zs
    expanded_functions p [] [] zs_in x = refl
    expanded_functions p [] (row ∷ rows) zs_in x = absurd (omega (arith, x.size))
    expanded_functions p (z ∷ zs) [] zs_in x = absurd (omega (arith, x.size))
    expanded_functions p (z ∷ zs) (row ∷ rows) zs_in x =
        ap₂ ◌∷◌ (expansion_function z row (All-head (IsElem k.ops n) z zs zs_in) (x.each 0 z (omega arith)) p)
        (expanded_functions p zs rows (All-tail (IsElem k.ops n) z zs zs_in)
        (record { size = omega (arith, x.size); each = λ i d less. x.each (suc i) d (omega (arith, less)) }))

-- the lattice of generators
module _ (k : CodeField) (p : PresValue) (zs : List ElemValue) (e : List ℕ) (rows : List (List (List ℕ)))
    (zs_in : All (IsElem k.ops p.n) zs) (e_in : IsOver k.ops e) (e_monic : IsMonicList e)
    (x : IsExpanded k.ops p.n e zs rows) where
  abbrev InSpan : List (Functions k p) → Functions k p → Type 0
  InSpan fs = Span (functions k p).ops (IsPolynomial (equation_of k p)) fs

  same_functions : map (function_of k p) (elems_over rows e) ≡ map (function_of k p) zs
  same_functions = expanded_functions k p.n e e_in e_monic p zs rows zs_in x

  pub gens_set : (l : LatticeValue) → IsSpannedBy k p.n (elems_over rows e) l → (z : Functions k p)
      → Contains k p l z ↔ InSpanOf k p zs z
  gens_set l spanned z =
      let m = spanned.members p refl z in (
        λ h. subst (λ fs. InSpan fs z) same_functions (m.0 h),
        λ h. m.1 (subst (λ fs. InSpan fs z) (sym same_functions) h),
      )

  pub gens_not_full : ¬ HasFullRankMatrix k.ops p.n rows → ¬ IsFullLattice k p (InSpanOf k p zs)
  gens_not_full none full =
      none
      (rank_of_full k p e (monic_value k e e_in (monic_poly e e_monic) e_monic) rows
      (expanded_rows k p.n e e_in e_monic zs rows zs_in x)
      (subst (λ fs. IsFullLattice k p (InSpan fs)) (sym same_functions) full))
