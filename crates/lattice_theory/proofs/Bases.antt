-- Each lattice has a basis of n functions, and the index of its multiple by a polynomial a is n times the degree of a.
use Rattle.std.proofs.Common.{◌≡◌, ℕ, ◌-◌, ◌*◌, ◌<◌, List, [], ◌∷◌, length, map, refl, sym, ◌∙◌, ap, ap₂, subst, arith}
use Rattle.std.proofs.lemmas.List.{length-map}
use Rattle.std.proofs.lemmas.List.Elements.{All-map, All-from_get_or, All-weaker}
use Rattle.ring_lemmas.specs.Lists.{coeff_of, tail_of}
use Rattle.ring_lemmas.proofs.Ring.{zero_mul, mul_zero, one_mul}
use Rattle.ring_lemmas.specs.Polynomials.{constant}
use Rattle.ring_theory.proofs.Evaluate.{constant_hom, length_trim}
use Rattle.ring_theory.proofs.Polynomials.{length_product}
use Rattle.popov_theory.specs.Module.{measure}
use Rattle.popov_theory.specs.Span.{combine, InSpan}
use Rattle.popov_theory.proofs.Division.{coordinates_unique}
use Rattle.popov_theory.proofs.PolynomialRows.{row_width}
use Rattle.popov_theory.proofs.PopovForm.{popov_weak}
use Rattle.popov_theory.proofs.Measure.{measure_zero}
use Rattle.popov_theory.proofs.Span.{combine_zero, span_row}
use Rattle.popov_theory.proofs.Scaling.{IsMonic, scaled, popov_scaled, span_scaled, span_unscaled, pivot_degree_scaled}
use Rattle.prime_theory.specs.Ideals.{Multiple, SameSet}
use Rattle.linear_theory.specs.Module.{combine as combination_of}
use Rattle.ff_fields.specs.Field.{CodeField}
use Rattle.ff_fields.specs.Code.{Code, code_ring, code_field, code_domain}
use Rattle.ff_poly.specs.Polynomials.{Polynomial, polynomials}
use Rattle.function_field.specs.Functions.{Equation, FunctionOf, ring_of, of_poly, degree_of_y}
use Rattle.places_theory.proofs.YRoot.{poly_hom}
use Rattle.polynomial_theory.proofs.Lengths.{some_long}
use Rattle.polynomial_theory.proofs.Division.{top_not_zero}
use Rattle.function_field.specs.Indices.{HasIndex}
use Rattle.lattice_theory.specs.Lattices.{IsLattice, IsBasisOf, polynomial_ops}
use Rattle.lattice_theory.proofs.Parts.{Rows, module_of, part, part_add, part_scale, part_zero, part_same, Common, common}
use Rattle.lattice_theory.proofs.Lattices.{AtDen, lattice_at, lattice_module}
use Rattle.lattice_theory.proofs.Indices.{dimension, index_at, index_size}
use Rattle.polynomial_theory.proofs.Irreducible.{constant_times}

module _ (k : CodeField) where
  infixl 70 ◌⊗◌
  open polynomials k use {𝟘, 𝟙, ◌⊗◌}

  -- the monic polynomial among the multiples by constants
  pub record MonicMultiple (a : Polynomial k) : Type 0 where
    pub unit : Polynomial k
    pub inverse : Polynomial k
    pub product : Polynomial k
    pub is : product ≡ unit ⊗ a
    pub back : a ≡ inverse ⊗ product
    pub monic : IsMonic (code_ring k) product
    pub degree : monic.degree ≡ length a.0 - 1

  pub monic_multiple : (a : Polynomial k) → ¬ (a ≡ 𝟘) → MonicMultiple a
  monic_multiple a some =
      let t = coeff_of (code_ring k).ops a.0 (length a.0 - 1) in
      let v = (code_field k).inverse t (top_not_zero k a (some_long k a some)) in
      let U = constant (code_ring k) v.0 in
      let T = constant (code_ring k) t in
      let one : T ⊗ U ≡ 𝟙 = sym ((constant_hom (code_ring k)).mul t v.0) ∙ ap (constant (code_ring k)) v.1
      ∙ (constant_hom (code_ring k)).𝟙 in
      let back : a ≡ T ⊗ (U ⊗ a)
      = sym (one_mul (polynomials k).ring a) ∙ ap (λ x. x ⊗ a) (sym one) ∙ (polynomials k).mul_assoc T U a in
      let U_some : ¬ (U ≡ 𝟘) = λ z. some
      (back ∙ ap (λ x. T ⊗ (x ⊗ a)) z ∙ ap (λ x. T ⊗ x) (zero_mul (polynomials k).ring a)
      ∙ mul_zero (polynomials k).ring T) in
      let U_long : length U.0 ≡ 1 = constant_length v.0 U_some in
      let long : length (U ⊗ a).0
      ≡ length a.0 = omega (arith, U_long, length_product (code_ring k) (code_domain k) U a U_some some) in
      let positive = some_long k a some in
      record {
        unit = U;
        inverse = T;
        product = U ⊗ a;
        is = refl;
        back = back;
        monic = record {
          degree = length a.0 - 1;
          size = omega (arith, long, positive);
          top = constant_times k v.0 a (length a.0 - 1) ∙ (code_ring k).mul_comm _ _ ∙ v.1;
        };
        degree = refl;
      }
    where
      constant_length : (u : Code k) → ¬ (constant (code_ring k) u ≡ 𝟘) → length (constant (code_ring k) u).0 ≡ 1
      constant_length u n = let l = some_long k (constant (code_ring k) u) n in
          let m = length_trim (code_ring k).is_zero (u ∷ []) in omega arith

module _ {k : CodeField} (c : Equation k) where
  infixl 65 ◌⊕◌
  infixl 70 ◌⊗◌
  open ring_of c use {𝟘, 𝟙, ◌⊕◌, ◌⊗◌}

  -- an index depends on the sets alone
  pub index_same : (A A' B B' : FunctionOf c → Type 0) → SameSet A A' → SameSet B B' → (g : ℕ) → HasIndex c A B g
      → HasIndex c A' B' g
  index_same A A' B B' f f' g i = record {
    basis = i.basis;
    is = record {
      members_in = All-weaker B B' (λ z. (f' z).0) i.basis i.is.members_in;
      spanning = λ v h. let t = i.is.spanning v ((f' v).1 h) in record {
        coefficient = t.coefficient;
        rest = t.rest;
        rest_in = (f t.rest).0 t.rest_in;
        is = t.is;
      };
      independent = λ e h. i.is.independent e ((f _).1 h);
    };
    count = i.count;
  }

  module _ (d : Polynomial k) (n : ¬ (d ≡ (polynomials k).𝟘)) where
    part_combination : (e : ℕ → Polynomial k) (rs : List (Rows c)) → part c d n (combine (module_of c) e rs)
        ≡ combination_of (polynomial_ops c) e (map (part c d n) rs)
    part_combination e [] = part_zero c d n
    part_combination e (r ∷ rs) = part_add c d n _ _
        ∙ ap₂ ◌⊕◌ (part_scale c d n (e 0) r) (part_combination (tail_of e) rs)

  -- a basis of n functions
  pub lattice_basis : (L : FunctionOf c → Type 0) → IsLattice c L → (bs : List (FunctionOf c))
      × (length bs ≡ degree_of_y c) × IsBasisOf c L bs
  lattice_basis L 𝓛 = at (common c 𝓛.generators)
    where
      at : Common c 𝓛.generators → (bs : List (FunctionOf c)) × (length bs ≡ degree_of_y c) × IsBasisOf c L bs
      at t =
          let a = lattice_at c L 𝓛 t.den t.not_zero t.over_one in (
            map (part c t.den t.not_zero) a.rows,
            length-map a.rows (part c t.den t.not_zero) ∙ a.popov.size ∙ row_width (code_ring k) c.lower_degree,
            record {
              members_in =
                  All-map L (part c t.den t.not_zero) a.rows
                  (All-from_get_or (λ v. L (part c t.den t.not_zero v)) a.rows (module_of c).𝟎
                  (λ i l. a.from_rows _ (span_row (module_of c) a.rows i)));
              spanning = λ z h.
                  let v = a.each z h in
                  let s = a.to_rows v.0 (subst L v.1 h) in
                  record {
                    coefficient = s.coefficients;
                    rest = 𝟘;
                    rest_in = refl;
                    is =
                        v.1 ∙ ap (part c t.den t.not_zero) s.is
                        ∙ part_combination t.den t.not_zero s.coefficients a.rows ∙ sym ((ring_of c).add_zero _);
                  };
              independent = λ e h i l.
                  let less : i < length a.rows = subst (λ m. i < m) (length-map a.rows (part c t.den t.not_zero)) l in
                  let null : combine (module_of c) e a.rows ≡ combine (module_of c) (λ _. (polynomials k).𝟘) a.rows
                  = part_same c t.den t.not_zero _ _
                  (part_combination t.den t.not_zero e a.rows ∙ h ∙ sym (part_zero c t.den t.not_zero))
                  ∙ sym (combine_zero (module_of c) a.rows) in
                  coordinates_unique (module_of c) (code_field k) a.rows (popov_weak (module_of c) a.rows a.popov) e
                  (λ _. (polynomials k).𝟘) null i less
                  (λ z. a.popov.some i (subst (λ m. i < m) a.popov.size less)
                  (ap (measure (module_of c)) z ∙ measure_zero (module_of c)));
            },
          )

  -- the multiple of a lattice by a monic polynomial
  module _ (L : FunctionOf c → Type 0) (𝓛 : IsLattice c L) where
    abbrev Times : Polynomial k → FunctionOf c → Type 0
    Times a = Multiple (ring_of c).ops (of_poly c a) L

    within : (a : Polynomial k) (z : FunctionOf c) → Times a z → L z
    within a z h =
        subst L (sym h.is) ((lattice_module c L 𝓛).scale_in _ _ (record { polynomial = a; value = refl }) h.quotient_in)

    module _ (h : Polynomial k) (monic : IsMonic (code_ring k) h) (d : Polynomial k) (n : ¬ (d ≡ (polynomials k).𝟘))
        (a : AtDen c L d n) where
      abbrev scaled_at : AtDen c (Times h) d n
      scaled_at = record {
        rows = scaled (module_of c) (code_domain k) h monic a.rows;
        to_rows = λ v m.
            let u = a.each m.quotient m.quotient_in in
            let e : v ≡ (module_of c).◌·◌ h u.0 = part_same c d n _ _
            (m.is ∙ ap (λ x. of_poly c h ⊗ x) u.1 ∙ sym (part_scale c d n h u.0)) in
            subst (InSpan (module_of c) (scaled (module_of c) (code_domain k) h monic a.rows)) (sym e)
            (span_scaled (module_of c) (code_domain k) h monic a.rows u.0 (a.to_rows u.0 (subst L u.1 m.quotient_in)));
        from_rows = λ v m.
            let u = span_unscaled (module_of c) (code_domain k) h monic a.rows v m in
            record {
              quotient = part c d n u.0;
              quotient_in = a.from_rows u.0 u.1;
              is = ap (part c d n) u.2 ∙ part_scale c d n h u.0;
            };
        each = λ z m. a.each z (within h z m);
        popov = popov_scaled (module_of c) (code_domain k) h monic a.rows a.popov;
      }

      monic_index : HasIndex c (Times h) L (degree_of_y c * monic.degree)
      monic_index = subst (HasIndex c (Times h) L) size (index_at c (Times h) L d n scaled_at a (within h))
        where
          size : length (dimension c (Times h) L d n scaled_at a (within h)).basis ≡ degree_of_y c * monic.degree
          size =
              let e = index_size c (Times h) L d n scaled_at a (within h) in
              let f = pivot_degree_scaled (module_of c) (code_domain k) h monic a.rows
              (λ i l. a.popov.some i (subst (λ m. i < m) a.popov.size l)) in
              let g : length a.rows * monic.degree ≡ degree_of_y c * monic.degree
              = ap (λ m. m * monic.degree) (a.popov.size ∙ row_width (code_ring k) c.lower_degree) in
              omega (arith, e, f, g)

    scale : (a : Polynomial k) (z : FunctionOf c) → L z → L (of_poly c a ⊗ z)
    scale a z h = (lattice_module c L 𝓛).scale_in _ _ (record { polynomial = a; value = refl }) h

    -- multiples by associated polynomials
    associated : (a b u v : Polynomial k) → b ≡ (polynomials k).◌⊗◌ u a → a ≡ (polynomials k).◌⊗◌ v b
        → SameSet (Times b) (Times a)
    associated a b u v e f z = (go b a u e z, go a b v f z)
      where
        go : (b a u : Polynomial k) → b ≡ (polynomials k).◌⊗◌ u a → (z : FunctionOf c) → Times b z → Times a z
        go b a u e z h = record {
          quotient = of_poly c u ⊗ h.quotient;
          quotient_in = scale u h.quotient h.quotient_in;
          is =
              h.is ∙ ap (λ x. of_poly c x ⊗ h.quotient) (e ∙ (polynomials k).mul_comm u a)
              ∙ ap (λ x. x ⊗ h.quotient) ((poly_hom c).mul a u)
              ∙ (ring_of c).mul_assoc _ _ _;
        }

    -- the index of the multiple by any polynomial other than 0
    pub index_of_multiple : (a : Polynomial k) → ¬ (a ≡ (polynomials k).𝟘)
        → HasIndex c (Times a) L (degree_of_y c * (length a.0 - 1))
    index_of_multiple a some =
        let t = common c 𝓛.generators in
        let s = monic_multiple k a some in
        let i = monic_index s.product s.monic t.den t.not_zero (lattice_at c L 𝓛 t.den t.not_zero t.over_one) in
        index_same (Times s.product) (Times a) L L (associated a s.product s.unit s.inverse s.is s.back)
        (λ z. (λ h. h, λ h. h)) _
        (subst (λ m. HasIndex c (Times s.product) L (degree_of_y c * m)) s.degree i)
