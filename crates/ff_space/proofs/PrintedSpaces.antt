-- The space that elements span over k is printed by the echelon basis of their vectors over the least denominator.
use Rattle.std.proofs.Common.{◌≡◌, ℕ, ◌≤◌, List, length, map, refl, sym, ◌∙◌, subst, ◌↔◌, All}
use Rattle.std.proofs.lemmas.List.Elements.{All-weaker}
use Rattle.ring_theory.proofs.Subsets.{span_members}
use Rattle.ff_fields.specs.Field.{CodeField}
use Rattle.ff_fields.specs.Over.{IsOver}
use Rattle.ff_poly.specs.Words.{IsMonicList, DividesList}
use Rattle.ff_poly.specs.Value.{value}
use Rattle.ff_poly.specs.Polynomials.{polynomials}
use Rattle.polynomial_theory.proofs.ListValues.{monic_poly}
use Rattle.function_field.proofs.SameValues.{monic_some}
use Rattle.function_field.specs.Functions.{ring_of, IsCode}
use Rattle.function_field.specs.Values.{ElemValue, PresValue, Functions, function_of, equation_of}
use Rattle.divisor_theory.proofs.Constants.{code_subring}
use Rattle.ff_linalg.specs.Matrix.{MatrixValue}
use Rattle.ff_linalg.specs.Space.{IsInRowSpace}
use Rattle.ff_lattice.proofs.Divisors.{monic_value}
use Rattle.ff_space.specs.Spaces.{InCodeSpan, AreRowFunctions, IsPrintedSpace}
use Rattle.ff_space.specs.Steps.{AreLeastNumerators, IsEchelonBasisOf, IsLongest, elems_in, vector_rows}
use Rattle.ff_space.specs.Vectors.{over_den, IsVectorOf, HasVector, HaveVectors}
use Rattle.ff_space.proofs.CodeSpans.{space_iff, vector_of_span}
use Rattle.ff_space.proofs.Fractions.{fractions_of_vectors, short_of_vectors}
use Rattle.ff_space.proofs.VectorLists.{rows_functions, rows_over, rows_shape}

module _ (k : CodeField) (p : PresValue) (some_n : 1 ≤ p.n) (zs : List ElemValue) (ws : List (List ℕ)) (den : List ℕ)
    (least : AreLeastNumerators k p.n zs ws den) (width : ℕ) (longest : IsLongest ws width) where
  abbrev gens : List (Functions k p)
  gens = map (function_of k p) zs

  abbrev In : Functions k p → Type 0
  In = InCodeSpan k p (map (function_of k p) zs)

  abbrev m : MatrixValue
  m = vector_rows ws (length zs) p.n width

  den_some : ¬ (value k den ≡ (polynomials k).𝟘)
  den_some = monic_value k den least.den_over (monic_poly k den least.monic) least.monic

  elems_are : map (function_of k p) (elems_in p.n (length zs) ws den) ≡ map (function_of k p) zs
  elems_are = least.numerators.same p some_n refl

  gens_are : map (over_den k p den width) m.rows ≡ map (function_of k p) zs
  gens_are =
      rows_functions k width p.n p den refl (length zs) ws least.numerators.count longest.short least.numerators.over
      least.numerators.poly
      ∙ elems_are

  gens_in : (T : Functions k p → Type 0) → ((z : Functions k p) → In z → T z) → All T (map (function_of k p) zs)
  gens_in T h =
      All-weaker In T h gens
      (span_members (ring_of (equation_of k p)) (IsCode (equation_of k p)) (code_subring (equation_of k p)) gens)

  pub have_vectors : HaveVectors k p (InCodeSpan k p (map (function_of k p) zs)) den width
  have_vectors z h =
      let shape = rows_shape k width p.n (length zs) ws least.numerators.count longest.short in
      let t = vector_of_span k p some_n den den_some width m refl shape.each
      (rows_over k width p.n (length zs) ws least.numerators.over) z
      (subst (λ fs. InCodeSpan k p fs z) (sym gens_are) h) in
      record { vector = t.vector; count = t.long; over = t.over; is = t.is }

  pub least_denominator : (e : List ℕ) (w : ℕ) → IsOver k.ops e → IsMonicList e
      → HaveVectors k p (InCodeSpan k p (map (function_of k p) zs)) e w → DividesList k.ops den e
  least_denominator e w e_in e_monic have =
      let h = fractions_of_vectors k p some_n den least.den_over least.monic e w e_in e_monic (length zs) ws gens
      least.numerators.count least.numerators.over least.numerators.poly elems_are (gens_in (HasVector k p e w) have) in
      least.least h.others e h.over e_in (monic_poly k e e_monic) (monic_some e e_monic) h.same

  pub least_width : (w : ℕ) → HaveVectors k p (InCodeSpan k p (map (function_of k p) zs)) den w → width ≤ w
  least_width w have =
      longest.least w
      (short_of_vectors k p some_n den least.den_over least.monic w (length zs) ws gens least.numerators.count
      least.numerators.over least.numerators.poly elems_are (gens_in (HasVector k p den w) have))

  module _ (r : MatrixValue) (basis : IsEchelonBasisOf k (vector_rows ws (length zs) p.n width) r) where
    vectors_are : (v : List ℕ)
        → IsInRowSpace k.ops r v ↔ IsVectorOf k p (InCodeSpan k p (map (function_of k p) zs)) den width v
    vectors_are v =
        let shape = rows_shape k width p.n (length zs) ws least.numerators.count longest.short in
        let s : IsInRowSpace k.ops m v ↔ IsVectorOf k p (InCodeSpan k p (map (function_of k p) zs)) den width v
        = subst (λ fs. IsInRowSpace k.ops m v ↔ IsVectorOf k p (InCodeSpan k p fs) den width v) gens_are
        (space_iff k p some_n den den_some width m refl shape.each
        (rows_over k width p.n (length zs) ws least.numerators.over) v) in
        (λ h. s.0 ((basis.row_space v).0 h), λ h. (basis.row_space v).1 (s.1 h))

    pub printed_space : (fs : List ElemValue) → AreRowFunctions k p den width r.rows fs
        → IsPrintedSpace k p (InCodeSpan k p (map (function_of k p) zs))
        (record { den = den; width = width; rows = r; functions = fs })
    printed_space fs functions = record {
      form = record {
        den_over = least.den_over;
        monic = least.monic;
        shape = basis.shape;
        over = basis.over;
        functions = functions;
      };
      vectors = have_vectors;
      least_den = least_denominator;
      least_width = least_width;
      reduced = basis.reduced;
      row_space = vectors_are;
    }
