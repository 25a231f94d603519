-- The index of a lattice over k[t] in a larger one, where both differ from k[t][Y] at t alone, is that of their
-- combinations over the fractions of degree at most 0.
use Rattle.std.proofs.Common.{◌≡◌, ℕ, zero, suc, List, [], ◌∷◌, map, refl, sym, ◌∙◌, ap, ap₂, subst}
use Rattle.std.proofs.lemmas.List.{length-map}
use Rattle.ring_theory.specs.Local.{PrimeTo}
use Rattle.ring_lemmas.specs.Ring.{pow}
use Rattle.ring_theory.specs.Subsets.{IsModule, Span}
use Rattle.ring_lemmas.specs.Polynomials.{constant}
use Rattle.ring_theory.proofs.Evaluate.{length_trim}
use Rattle.ring_theory.proofs.Local.{comaximal_power}
use Rattle.ring_lemmas.proofs.Ring.{one_mul}
use Rattle.ring_theory.proofs.RowMaps.{hom_zero}
use Rattle.ring_lemmas.proofs.Solver.{ring, reads, from_one}
use Rattle.ring_theory.proofs.Subsets.{span_module}
use Rattle.prime_theory.specs.Ideals.{SameSet}
use Rattle.linear_theory.specs.Basis.{IsSubspace, IsSum}
use Rattle.linear_theory.specs.Module.{IsLinear}
use Rattle.linear_theory.proofs.Dimension.{basis_image, basis_transport}
use Rattle.ff_fields.specs.Field.{CodeField}
use Rattle.ff_fields.specs.Code.{Code, code_ring}
use Rattle.ff_poly.specs.Polynomials.{x_poly}
use Rattle.function_field.specs.Functions.{Equation, of_poly, IsPolynomial, IsFiniteAtInfinity}
use Rattle.function_field.specs.Infinity.{variable}
use Rattle.function_field.specs.Values.{PresValue, Functions, functions, setting, equation_of}
use Rattle.function_field.proofs.ScalarRings.{polynomials_subring, finite_at_infinity_subring}
use Rattle.function_field.specs.Indices.{HasIndex, space_ops}
use Rattle.lattice_theory.specs.Lattices.{IsLattice}
use Rattle.lattice_theory.proofs.Indices.{codes, space, code_of, lattice_subspace}
use Rattle.lattice_theory.proofs.Lattices.{lattice_module}
use Rattle.order_theory.specs.Orders.{IsPrimeTo}
use Rattle.order_theory.proofs.LocalOrders.{prime_to}
use Rattle.infinite_theory.specs.Supported.{IsSupportedAt}
use Rattle.infinite_theory.specs.InfiniteMaps.{IsInfiniteMap}
use Rattle.infinite_theory.proofs.InfiniteOrders.{combination_local, combination_members}
use Rattle.infinite_theory.proofs.InfiniteTransport.{x_irreducible}
use Rattle.infinite_theory.proofs.PushedPlaces.{each}
use Rattle.space_theory.proofs.AtInfinity.{taken_at, combinations_lattice}
use Rattle.space_theory.proofs.InfiniteIndices.{infinite_space}
use Rattle.infinite_theory.proofs.PushedDegrees.{constant_image}

module _ (k : CodeField) (p q : PresValue) (c : ℕ) (f : Functions k q → Functions k p)
    (g : IsInfiniteMap k p q c f) where
  infixl 65 ◌⊕◌
  infixl 70 ◌⊗◌
  open functions k q use {𝟘, 𝟙, ◌⊕◌, ◌⊗◌}

  abbrev Q : Equation k
  Q = equation_of k q

  abbrev R : Equation k
  R = equation_of k p

  abbrev X : Functions k q
  X = of_poly (equation_of k q) (x_poly k)

  -- a constant goes to itself
  code_image : (a : Code k) → f (code_of Q a) ≡ code_of R a
  code_image a = constant_image k p q c f g (constant (code_ring k) a) (length_trim (code_ring k).is_zero (a ∷ []))

  scaled : (a : Code k) (z : Functions k q) → f (code_of Q a ⊗ z) ≡ (functions k p).◌⊗◌ (code_of R a) (f z)
  scaled a z = g.isomorphism.hom.mul (code_of Q a) z ∙ ap (λ w. (functions k p).◌⊗◌ w (f z)) (code_image a)

  map_linear : IsLinear (space_ops Q) (space_ops R) f
  map_linear a u v = g.isomorphism.hom.add (code_of Q a ⊗ u) v ∙ ap (λ w. (functions k p).◌⊕◌ w (f v)) (scaled a u)

  -- the image of a set of functions of the infinite presentation
  abbrev Image : (Functions k q → Type 0) → Functions k p → Type 0
  Image L w = (z : Functions k q) × L z × (w ≡ f z)

  image_space : (L : Functions k q → Type 0) → IsLattice Q L → IsSubspace (space_ops R) (Image L)
  image_space L 𝓛 =
      let s = lattice_subspace Q L 𝓛 in
      record {
        zero_in = (𝟘, s.zero_in, sym (hom_zero (functions k q) (functions k p) f g.isomorphism.hom));
        sum_in =
            λ u v h i. (
              h.0 ⊕ i.0,
              s.sum_in _ _ h.1 i.1,
              ap₂ (functions k p).◌⊕◌ h.2 i.2
                  ∙ sym (g.isomorphism.hom.add h.0 i.0),
            );
        scale_in =
            λ a v h. (
              code_of Q a ⊗ h.0,
              s.scale_in a h.0 h.1,
              ap (λ w. (functions k p).◌⊗◌ (code_of R a) w) h.2
                  ∙ sym (scaled a h.0),
            );
      }

  -- the combinations of the images
  abbrev pub Combinations : List (Functions k q) → Functions k p → Type 0
  Combinations gs = Span (functions k p).ops (IsFiniteAtInfinity (equation_of k p)) (map f gs)

  module _ (A B : Functions k q → Type 0) (𝓐 : IsLattice (equation_of k q) A) (𝓑 : IsLattice (equation_of k q) B)
      (a : IsSupportedAt (equation_of k q) (x_poly k) A) (b : IsSupportedAt (equation_of k q) (x_poly k) B)
      (within : (z : Functions k q) → A z → B z)
      (gs hs : List (Functions k q))
      (spanned : SameSet A (Span (functions k q).ops (IsPolynomial (equation_of k q)) gs))
      (spanned' : SameSet B (Span (functions k q).ops (IsPolynomial (equation_of k q)) hs)) where
    𝓝 : PrimeTo (functions k q).ops (IsPolynomial (equation_of k q)) (IsPrimeTo (equation_of k q) (x_poly k))
        (of_poly (equation_of k q) (x_poly k))
    𝓝 = prime_to Q (x_poly k) (x_irreducible k)

    𝓜 : IsModule (functions k p).ops (IsFiniteAtInfinity (equation_of k p)) (Combinations gs)
    𝓜 = span_module (functions k p) (IsFiniteAtInfinity R) (finite_at_infinity_subring R) (map f gs)

    inner : (w : Functions k p) → Image A w → Combinations gs w
    inner w h = subst (Combinations gs) (sym h.2) ((combination_members k p q c f g A 𝓐 a gs spanned h.0).0 h.1).1

    outer : (w : Functions k p) → Image B w → Combinations hs w
    outer w h = subst (Combinations hs) (sym h.2) ((combination_members k p q c f g B 𝓑 b hs spanned' h.0).0 h.1).1

    common : (w : Functions k p) → Image B w → Combinations gs w → Image A w
    common w h m =
        let d = ((combination_members k p q c f g B 𝓑 b hs spanned' h.0).0 h.1).0 in
        (h.0, (combination_members k p q c f g A 𝓐 a gs spanned h.0).1 (d, subst (Combinations gs) h.2 m), h.2)

    power_image : (j : ℕ) → f (pow (functions k q).ops X j) ≡ pow (functions k p).ops (setting k p).one_over_x j
    power_image zero = g.isomorphism.hom.𝟙
    power_image (suc j) = g.isomorphism.hom.mul X (pow (functions k q).ops X j)
        ∙ ap₂ (functions k p).◌⊗◌ g.variable (power_image j)

    -- a combination of the larger lattice is a member of it and a combination of the smaller one
    sums_at : (z : Functions k q) → Combinations hs (f z) → IsSum (space_ops R) (Image B) (Combinations gs) (f z)
    sums_at z m =
        let l = (combination_local k p q c f g B 𝓑 hs spanned' z).0 m in
        let t = taken_at k p q c f g A 𝓐 gs spanned (f z) in
        let u = comaximal_power (functions k q) (IsPolynomial Q) (polynomials_subring Q) l.factor X
        (𝓝.within l.factor l.factor_in) 𝓝.p_in
        (𝓝.comaximal l.factor l.factor_in) t.0 in
        let right_scalar : IsFiniteAtInfinity R (f u.right)
        = (g.scalars u.right).0
        (record {
          factor = 𝟙;
          factor_in = 𝓝.one_in;
          multiple_in = subst (IsPolynomial Q) (sym (one_mul (functions k q) u.right)) u.right_in;
        }) in
        record {
          left = f (u.left ⊗ (l.factor ⊗ z));
          left_in = (u.left ⊗ (l.factor ⊗ z), (lattice_module Q B 𝓑).scale_in u.left _ u.left_in l.multiple_in, refl);
          right = (functions k p).◌⊗◌ (f u.right)
              ((functions k p).◌⊗◌ (pow (functions k p).ops (setting k p).one_over_x t.0) (f z));
          right_in = 𝓜.scale_in (f u.right) _ right_scalar t.1;
          is =
              ap f (split u.left l.factor u.right (pow (functions k q).ops X t.0) u.is)
              ∙ g.isomorphism.hom.add _ _
              ∙ ap ((functions k p).◌⊕◌ (f (u.left ⊗ (l.factor ⊗ z))))
              (g.isomorphism.hom.mul u.right _
              ∙ ap ((functions k p).◌⊗◌ (f u.right))
              (g.isomorphism.hom.mul (pow (functions k q).ops X t.0) z
              ∙ ap (λ w. (functions k p).◌⊗◌ w (f z)) (power_image t.0)));
        }
      where
        split : (l u r x : Functions k q) → l ⊗ u ⊕ r ⊗ x ≡ 𝟙 → z ≡ l ⊗ (u ⊗ z) ⊕ r ⊗ (x ⊗ z)
        split l u r x e =
            sym (from_one (functions k q) z e
            (ring (functions k q) (l ∷ u ∷ r ∷ x ∷ z ∷ []) λ o i. simp (reads, o, i 0, i 1, i 2, i 3, i 4)
            (o.equal _ _ refl)))

    sums : (w : Functions k p) → Combinations hs w → IsSum (space_ops R) (Image B) (Combinations gs) w
    sums = each k p q c f g (λ w. Combinations hs w → IsSum (space_ops R) (Image B) (Combinations gs) w) sums_at

    pub combination_index : (n : ℕ) → HasIndex (equation_of k q) A B n
        → HasIndex (equation_of k p) (Combinations gs) (Combinations hs) n
    combination_index n i = record {
      basis = map f i.basis;
      is =
          basis_transport (codes k) (space R) (Image A) (Image B) (Combinations gs) (Combinations hs) (image_space B 𝓑)
          (infinite_space R (Combinations gs) (combinations_lattice k p q c f g A 𝓐 gs spanned)) inner outer common
          sums (map f i.basis)
          (basis_image (codes k) (space Q) (space R) f map_linear A B (Image A) (Image B) (lattice_subspace Q B 𝓑)
          (λ v m. (v, m, refl)) (λ w h. (h.0, h.1, h.2))
          (λ v m. (λ h. (v, h, refl), λ h. subst A (sym (g.isomorphism.injective v h.0 h.2)) h.1)) within i.basis i.is);
      count = length-map i.basis f ∙ i.count;
    }
