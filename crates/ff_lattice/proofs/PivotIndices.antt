-- Indices of lattices by pivot degrees.
use Rattle.std.proofs.Common.{◌≡◌, ℕ, suc, ◌+◌, ◌-◌, ◌*◌, ◌<◌, ◌↔◌, List, [], ◌∷◌, length, get_or, map, refl, sym, ◌∙◌, ap, ap₂, subst, arith, All, pos, ◌-ℤ◌}
use Rattle.std.proofs.lemmas.Int.{ints}
use Rattle.std.proofs.lemmas.List.{length-map}
use Rattle.std.proofs.lemmas.List.Elements.{All-map, All-from_get_or}
use Rattle.ring_lemmas.specs.Ring.{CommRing}
use Rattle.ring_lemmas.specs.Lists.{tail_of}
use Rattle.ring_lemmas.specs.Rows.{Row, row_scale}
use Rattle.ring_theory.specs.Subsets.{IsSubring}
use Rattle.ring_lemmas.proofs.Ring.{neg_unique, add_sub, product_not_zero}
use Rattle.ring_lemmas.proofs.Rows.{row_scale_scale}
use Rattle.ring_theory.proofs.RowMaps.{hom_zero}
use Rattle.ring_theory.proofs.Subsets.{span_zero, span_sum, span_scale}
use Rattle.ring_lemmas.specs.Polynomials.{constant}
use Rattle.ring_theory.proofs.Evaluate.{constant_hom}
use Rattle.linear_theory.specs.Fields.{Field, domain_of}
use Rattle.linear_theory.specs.Module.{Module, combine, IsHomomorphism}
use Rattle.linear_theory.specs.Basis.{IsSubspace, IsBasis}
use Rattle.linear_theory.proofs.Coefficients.{restricted}
use Rattle.linear_theory.proofs.Exchange.{bases_same_length}
use Rattle.popov_theory.specs.Module.{PolynomialModule, row_degree}
use Rattle.popov_theory.specs.Span.{InSpan, IsWithin}
use Rattle.popov_theory.specs.Popov as theory
use Rattle.popov_theory.specs.Basis.{IsBasisModulo, scalar_combine}
use Rattle.popov_theory.specs.Laws.{Dimension}
use Rattle.popov_theory.proofs.Module.{v_add_neg}
use Rattle.popov_theory.proofs.Scaling as scaling
use Rattle.popov_theory.proofs.Scaling.{scaled, popov_scaled, span_scaled, span_unscaled, pivot_degree_scaled}
use Rattle.popov_theory.proofs.PolynomialRows.{row_module_zero, row_module_scale}
use Rattle.popov_theory.proofs.Laws.{dimension_of}
use Rattle.ff_fields.specs.Field.{CodeField}
use Rattle.ff_fields.specs.Code.{Code, code_ring, code_field, code_domain, same_code}
use Rattle.ff_fields.specs.Over.{IsOver}
use Rattle.ff_poly.specs.Words.{IsPoly, IsMonicList}
use Rattle.ff_poly.specs.Value.{value}
use Rattle.ff_poly.specs.Polynomials.{Polynomial, polynomials, polynomials_domain}
use Rattle.ff_poly.specs.Popov.{entry_at, row_at, pivot_degree, pivot_degree_from, IsRow, IsPopovMatrix}
use Rattle.ff_poly.proofs.Parts.{top_of_monic}
use Rattle.ff_popov.specs.Reading.{read_row, row_space, read_rows}
use Rattle.ff_popov.proofs.ReadRows.{over_at}
use Rattle.ff_popov.proofs.Measures.{measured}
use Rattle.ff_popov.proofs.PopovBasis.{basis_popov}
use Rattle.function_field.specs.Functions.{Equation, IsPolynomial, of_poly, over}
use Rattle.function_field.specs.Values.{PresValue, Functions, functions, function_of, equation_of}
use Rattle.function_field.proofs.ScalarRings.{polynomials_subring, of_poly_one}
use Rattle.function_field.proofs.OnSide.{of_poly_plus, of_poly_times, of_poly_zero}
use Rattle.ff_lattice.specs.Lattices.{LatticeValue, IsLatticeValue, Contains, row_elems, pivot_degree_of}
use Rattle.function_field.specs.Indices.{space_ops, HasIndex}
use Rattle.ff_lattice.proofs.Fracs.{over_zero, over_eq}
use Rattle.ff_lattice.proofs.Members.{Member, member_numerator, frac_add, frac_scale, overs}
use Rattle.ff_lattice.proofs.Elements.{in_span_of}
use Rattle.ff_lattice.proofs.Divisors.{monic_value}
use Rattle.ff_lattice.proofs.Scaled.{value_length, coeff_code}
use Rattle.ff_lattice.proofs.OneForm.{one_form}

-- numbers of degrees, with the denominators on either side
index_number : (g x y u v : ℕ) → g + (v + y) ≡ u + x → pos g ≡ (pos x -ℤ pos v) -ℤ (pos y -ℤ pos u)
index_number g x y u v h = omega (arith, ints, h)

-- the functions as a vector space over k
module _ (k : CodeField) (p : PresValue) where
  abbrev c : Equation k
  c = equation_of k p

  abbrev F : CommRing (Functions k p)
  F = functions k p

  abbrev T : Functions k p → Type 0
  T = IsPolynomial (equation_of k p)

  abbrev 𝓢 : IsSubring F.ops T
  𝓢 = polynomials_subring (equation_of k p)

  abbrev codes : Field (Code k)
  codes = record { tested = code_ring k; is_field = code_field k }

  abbrev code_of : Code k → Functions k p
  code_of a = of_poly (equation_of k p) (constant (code_ring k) a)

  constant_null : constant (code_ring k) (code_ring k).𝟘 ≡ (polynomials k).𝟘
  constant_null = hom_zero (code_ring k).ring (polynomials k).ring (constant (code_ring k)) (constant_hom (code_ring k))

  code_hom : IsHomomorphism (code_ring k).ops F.ops code_of
  code_hom = record {
    zero_is = ap (of_poly c) constant_null ∙ sym (of_poly_zero c);
    one_is = ap (of_poly c) (constant_hom (code_ring k)).𝟙 ∙ sym (of_poly_one c);
    sum_is = λ a b. ap (of_poly c) ((constant_hom (code_ring k)).add a b) ∙ sym (of_poly_plus c _ _);
    product_is = λ a b. ap (of_poly c) ((constant_hom (code_ring k)).mul a b) ∙ sym (of_poly_times c _ _);
  }

  abbrev space : Module (code_ring k).ring (Functions k p)
  space = restricted (code_ring k).ring (functions k p) code_of code_hom

  lattice_subspace : (l : LatticeValue) → IsSubspace (space_ops (equation_of k p)) (Contains k p l)
  lattice_subspace l =
      let gens = map (function_of k p) (row_elems l) in
      record {
        zero_in = span_zero F T 𝓢 gens;
        sum_in = λ u v u_in v_in. span_sum F T 𝓢 gens u v u_in v_in;
        scale_in = λ a v v_in. span_scale F T 𝓢 gens (code_of a) v
            (record { polynomial = constant (code_ring k) a; value = refl }) v_in;
      }

  pub index_once : (l : LatticeValue) (B : Functions k p → Type 0) (g h : ℕ)
      → HasIndex (equation_of k p) (Contains k p l) B g → HasIndex (equation_of k p) (Contains k p l) B h → g ≡ h
  index_once l B g h i j = sym i.count ∙ bases_same_length (domain_of codes) space (Contains k p l) (lattice_subspace l)
      B i.basis j.basis i.is j.is ∙ j.count

  abbrev M : PolynomialModule (code_ring k) (Row (Polynomial k) (suc (p.n - 1)))
  M = row_space k p.n

  -- a set of functions as the rows of a Popov basis over a polynomial
  record AtDen (L : Functions k p → Type 0) (d : Polynomial k) (some : ¬ (d ≡ (polynomials k).𝟘)) : Type 0 where
    pub rows : List (Row (Polynomial k) (suc (p.n - 1)))
    pub popov : theory.IsPopov M rows
    pub members : (z : Functions k p) → L z ↔ Member (equation_of k p) d some rows z

  module _ (A B : Functions k p → Type 0) (d : Polynomial k) (some : ¬ (d ≡ (polynomials k).𝟘)) (a : AtDen A d some)
      (b : AtDen B d some) (within : (z : Functions k p) → A z → B z) where
    abbrev part : Row (Polynomial k) (suc (p.n - 1)) → Functions k p
    part v = over (equation_of k p) v d some

    part_in : (v : Row (Polynomial k) (suc (p.n - 1))) → InSpan M b.rows v → B (part v)
    part_in v h = (b.members (part v)).1 (record { numerator = v; in_rows = h; is = refl })

    part_from : (v : Row (Polynomial k) (suc (p.n - 1))) → InSpan M a.rows v → A (part v)
    part_from v h = (a.members (part v)).1 (record { numerator = v; in_rows = h; is = refl })

    part_zero : part M.𝟎 ≡ F.𝟘
    part_zero = ap part (row_module_zero (code_ring k) (p.n - 1)) ∙ over_zero c d some

    part_neg : (v : Row (Polynomial k) (suc (p.n - 1))) → part (M.⊟◌ v) ≡ F.⊖◌ (part v)
    part_neg v = neg_unique F _ _ (frac_add c d some v _ ∙ ap part (v_add_neg M v) ∙ part_zero)

    part_combine : (e : ℕ → Code k) (rs : List (Row (Polynomial k) (suc (p.n - 1))))
        → part (scalar_combine M e rs) ≡ combine (space_ops (equation_of k p)) e (overs c d some rs)
    part_combine e [] = part_zero
    part_combine e (r ∷ rs) = sym (frac_add c d some _ _)
        ∙ ap₂ F.◌⊕◌ (sym (frac_scale c d some (constant (code_ring k) (e 0)) r)) (part_combine (tail_of e) rs)

    -- a basis of the rows is one of the functions
    row_basis : (g : List (Row (Polynomial k) (suc (p.n - 1)))) → IsBasisModulo M (InSpan M b.rows) (InSpan M a.rows) g
        → IsBasis (code_ring k).ops (space_ops (equation_of k p)) A B (overs c d some g)
    row_basis g h = record {
      members_in = All-map B part g (All-from_get_or (λ v. B (part v)) g M.𝟎 (λ i l. part_in _ (h.members i)));
      spanning = λ z z_in.
          let t = (b.members z).0 z_in in
          let e = h.scalars t.numerator t.in_rows in
          record {
            coefficient = e;
            rest = F.◌⊕◌ z (F.⊖◌ (combine (space_ops (equation_of k p)) e (overs c d some g)));
            rest_in =
                subst A (sym (frac_add c d some t.numerator _)
                ∙ ap₂ F.◌⊕◌ (sym t.is) (part_neg _ ∙ ap F.⊖◌ (part_combine e g)))
                (part_from _ (h.spans t.numerator t.in_rows));
            is = sym (add_sub F z _);
          };
      independent = λ e m i l.
          h.independent e (member_numerator c d some a.rows _ ((a.members _).0 (subst A (sym (part_combine e g)) m))) i
          (subst (λ m. i < m) (length-map g part) l);
    }

    rows_within : IsWithin M a.rows b.rows
    rows_within = record {
      within = λ v h. member_numerator c d some b.rows v
          ((b.members (part v)).0 (within (part v) (part_from v h)));
    }

    dimension : Dimension M a.rows b.rows
    dimension = dimension_of M (code_field k) a.rows b.rows a.popov b.popov rows_within

    index_at : HasIndex (equation_of k p) A B (length dimension.basis)
    index_at = record {
      basis = overs c d some dimension.basis;
      is = row_basis dimension.basis dimension.is;
      count =
          length-map dimension.basis part;
    }

    -- equal pivot degrees
    same_at : theory.pivot_degree M b.rows ≡ theory.pivot_degree M a.rows → (z : Functions k p) → A z ↔ B z
    same_at e z = (
      within z,
      λ h. (a.members z).1 (subst (λ rs. Member (equation_of k p) d some rs z) (sym (dimension.equal e))
          ((b.members z).0 h)),
    )

  -- rows in Popov form over a monic polynomial, which need not be the least
  pub record IsOverMonic (l : LatticeValue) : Type 0 where
    pub rows_in : All (IsRow k.ops p.n) l.rows
    pub popov : IsPopovMatrix p.n l.rows
    pub den_in : IsOver k.ops l.den
    pub den_poly : IsPoly l.den
    pub monic : IsMonicList l.den

  pub lattice_over : (l : LatticeValue) → IsLatticeValue k.ops p.n l → IsOverMonic l
  lattice_over l h = record {
    rows_in = h.rows_in;
    popov = h.popov;
    den_in = h.den_in;
    den_poly = h.den_poly;
    monic =
        h.monic;
  }

  -- a monic list of codes is a monic polynomial
  monic_of : (d : List ℕ) → IsOver k.ops d → IsPoly d → IsMonicList d → scaling.IsMonic (code_ring k) (value k d)
  monic_of d d_in d_poly monic =
      let t = top_of_monic d monic in
      let size : length d ≡ suc (length d - 1) = omega (arith, t.1) in
      let position : length d - 1 ≡ t.0 = omega (arith, t.1) in
      record {
        degree = length d - 1;
        size = value_length k d d_in d_poly ∙ size;
        top = same_code k _ _ (coeff_code k d (length d - 1) d_in ∙ ap (λ m. get_or d m 0) position ∙ t.2);
      }

  monic_degree : (d : List ℕ) (d_in : IsOver k.ops d) (d_poly : IsPoly d) (monic : IsMonicList d)
      → (monic_of d d_in d_poly monic).degree ≡ length d - 1
  unfolding monic_of
  monic_degree d d_in d_poly monic = refl

  degrees_read : (rows : List (List (List ℕ))) (i : ℕ)
      → ((j m : ℕ) → j < length rows → m ≡ i + j
      → row_degree M (read_row k (suc (p.n - 1)) (row_at rows j)) ≡ length (entry_at (row_at rows j) m) - 1)
      → theory.pivot_degree M (read_rows k p.n rows) ≡ pivot_degree_from i rows
  degrees_read [] i h = refl
  degrees_read (r ∷ rows) i h =
      omega (
        arith,
        h 0 i (omega arith) (omega arith),
        degrees_read rows (suc i)
            (λ j m less e. h (suc j) m (omega (arith, less)) (omega (arith, e))),
      )

  module _ (l : LatticeValue) (h : IsOverMonic l) where
    abbrev rs : List (Row (Polynomial k) (suc (p.n - 1)))
    rs = read_rows k p.n l.rows

    abbrev D : Polynomial k
    D = value k l.den

    D_some : ¬ (value k l.den ≡ (polynomials k).𝟘)
    D_some = monic_value k l.den h.den_in h.den_poly h.monic

    row_degrees : theory.pivot_degree M rs ≡ pivot_degree l.rows
    row_degrees = degrees_read l.rows 0 (λ j m less e.
        let at : m ≡ j = omega (arith, e) in
        let j_less : j < p.n = omega (arith, less, h.popov.size) in
        let row = h.rows_in j [] less in
        (measured k p.n (row_at l.rows j) j row.size (h.popov.pivot_at j j_less)
        (over_at k (row_at l.rows j) row.over j) (h.popov.trimmed j j)).1
        ∙ ap (λ m. length (entry_at (row_at l.rows j) m) - 1) (sym at))

    module _ (positive : 0 < p.n) (e : Polynomial k) (monic : scaling.IsMonic (code_ring k) e) (d : Polynomial k)
        (some : ¬ (d ≡ (polynomials k).𝟘)) (product : d ≡ (polynomials k).◌⊗◌ e (value k l.den)) where
      raised_part : (v : Row (Polynomial k) (suc (p.n - 1))) → over c (M.◌·◌ e v) d some ≡ over c v D D_some
      raised_part v =
          ap (λ w. over c w d some) (row_module_scale (code_ring k) (p.n - 1) e v)
          ∙ over_eq c (row_scale (polynomials k).ops (suc (p.n - 1)) e v) v d D some D_some
          (sym (ap (λ x. row_scale (polynomials k).ops (suc (p.n - 1)) x v) (product ∙ (polynomials k).mul_comm e D)
          ∙ row_scale_scale (polynomials k).ring (suc (p.n - 1)) D e v))

      -- the rows over a multiple of the denominator
      abbrev raised : AtDen (Contains k p l) d some
      raised = record {
        rows = scaled M (code_domain k) e monic rs;
        popov = popov_scaled M (code_domain k) e monic rs (basis_popov k p.n l.rows h.rows_in h.popov positive);
        members = λ z. (
          λ z_in.
              let m = (in_span_of k p l.den D_some l.rows z).0 z_in in
              record {
                numerator = M.◌·◌ e m.numerator;
                in_rows = span_scaled M (code_domain k) e monic rs m.numerator m.in_rows;
                is = m.is ∙ sym (raised_part m.numerator);
              },
          λ m.
              let u = span_unscaled M (code_domain k) e monic rs m.numerator m.in_rows in
              (in_span_of k p l.den D_some l.rows z).1 (record {
                numerator = u.0;
                in_rows = u.1;
                is = m.is ∙ ap (λ w. over c w d some) u.2 ∙ raised_part u.0;
              }),
        );
      }

      raised_degree : theory.pivot_degree M (scaled M (code_domain k) e monic rs)
          ≡ length l.rows * monic.degree + pivot_degree l.rows
      raised_degree =
          let popov = basis_popov k p.n l.rows h.rows_in h.popov positive in
          let size : length rs ≡ length l.rows = length-map l.rows (read_row k (suc (p.n - 1))) in
          pivot_degree_scaled M (code_domain k) e monic rs (λ i less. popov.some i (subst (λ m. i < m) popov.size less))
          ∙ ap₂ (λ m s. m * monic.degree + s) size row_degrees

  module _ (positive : 0 < p.n) (a b : LatticeValue) (over_a : IsOverMonic a) (over_b : IsOverMonic b) where
    abbrev monic_a : scaling.IsMonic (code_ring k) (value k a.den)
    monic_a = monic_of a.den over_a.den_in over_a.den_poly over_a.monic

    abbrev monic_b : scaling.IsMonic (code_ring k) (value k b.den)
    monic_b = monic_of b.den over_b.den_in over_b.den_poly over_b.monic

    abbrev common : Polynomial k
    common = (polynomials k).◌⊗◌ (value k b.den) (value k a.den)

    common_some : ¬ ((polynomials k).◌⊗◌ (value k b.den) (value k a.den) ≡ (polynomials k).𝟘)
    common_some = product_not_zero (polynomials_domain k) (value k b.den) (value k a.den) (D_some b over_b)
        (D_some a over_a)

    abbrev left : AtDen (Contains k p a) common common_some
    left = raised a over_a positive (value k b.den) monic_b common common_some refl

    abbrev right : AtDen (Contains k p b) common common_some
    right = raised b over_b positive (value k a.den) monic_a common common_some
        ((polynomials k).mul_comm (value k b.den) (value k a.den))

    left_degree : theory.pivot_degree M left.rows ≡ length b.rows * (length b.den - 1) + pivot_degree a.rows
    left_degree =
        raised_degree a over_a positive (value k b.den) monic_b common common_some refl
        ∙ ap₂ (λ m d. m * d + pivot_degree a.rows) (over_a.popov.size ∙ sym over_b.popov.size)
        (monic_degree b.den over_b.den_in over_b.den_poly over_b.monic)

    right_degree : theory.pivot_degree M right.rows ≡ length a.rows * (length a.den - 1) + pivot_degree b.rows
    right_degree =
        raised_degree b over_b positive (value k a.den) monic_a common common_some
        ((polynomials k).mul_comm (value k b.den) (value k a.den))
        ∙ ap₂ (λ m d. m * d + pivot_degree b.rows) (over_b.popov.size ∙ sym over_a.popov.size)
        (monic_degree a.den over_a.den_in over_a.den_poly over_a.monic)

    module _ (within : (z : Functions k p) → Contains k p a z → Contains k p b z) where
      abbrev between : Dimension M left.rows right.rows
      between = dimension (Contains k p a) (Contains k p b) common common_some left right within

      pub number : ℕ
      number = length between.basis

      pub index_number_is : HasIndex (equation_of k p) (Contains k p a) (Contains k p b) number
      unfolding number
      index_number_is = index_at (Contains k p a) (Contains k p b) common common_some left right within

      -- the index is the difference of the pivot degrees
      pub number_is : pos number ≡ pivot_degree_of a -ℤ pivot_degree_of b
      unfolding number
      number_is =
          index_number (length between.basis) (pivot_degree a.rows) (pivot_degree b.rows)
          (length b.rows * (length b.den - 1)) (length a.rows * (length a.den - 1))
          (omega (arith, between.size, left_degree, right_degree))

      pub index_is : (g : ℕ) → HasIndex (equation_of k p) (Contains k p a) (Contains k p b) g
          ↔ (pos g ≡ pivot_degree_of a -ℤ pivot_degree_of b)
      index_is g = (
        λ i. ap pos (index_once a (Contains k p b) g number i index_number_is) ∙ number_is,
        λ e.
            let same : number ≡ g = omega (arith, ints, number_is, e) in
            subst (HasIndex (equation_of k p) (Contains k p a) (Contains k p b)) same index_number_is,
      )

      same_members : pivot_degree_of a ≡ pivot_degree_of b → (z : Functions k p) → Contains k p a z ↔ Contains k p b z
      unfolding number
      same_members e =
          let none : length between.basis ≡ 0 = omega (arith, ints, number_is, e) in
          let degrees : theory.pivot_degree M right.rows
          ≡ theory.pivot_degree M left.rows = omega (arith, none, between.size) in
          same_at (Contains k p a) (Contains k p b) common common_some left right within degrees

      pub same_lattice : IsLatticeValue k.ops p.n a → IsLatticeValue k.ops p.n b → pivot_degree_of a ≡ pivot_degree_of b → a ≡ b
      same_lattice a_form b_form e = one_form k p a b a_form b_form (same_members e) positive

  -- one set has one pivot degree, also over a denominator that isn't the least
  pub one_degree : (positive : 0 < p.n) (a b : LatticeValue) → IsOverMonic a → IsOverMonic b
      → ((z : Functions k p) → Contains k p a z ↔ Contains k p b z) → pivot_degree_of a ≡ pivot_degree_of b
  one_degree positive a b over_a over_b same =
      let first = number_is positive a b over_a over_b (λ z. (same z).0) in
      let second = number_is positive b a over_b over_a (λ z. (same z).1) in
      omega (arith, ints, first, second)
