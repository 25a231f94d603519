-- The constants are the functions that are integral on both sides. They have a finite dimension over k, and where F is
-- a field they are a field.
use Rattle.std.proofs.Common.{◌≡◌, ◌↔◌, ℕ, ℤ, pos, ◌-ℤ◌, ◌<◌, List, ◌∷◌, map, sym, ◌∙◌, ap, ap₂, subst}
use Rattle.std.proofs.lemmas.List.{length-map}
use Rattle.std.proofs.lemmas.List.Elements.{All-cons, All-map, All-weaker}
use Rattle.ring_theory.specs.Subsets.{IsSubring, Span}
use Rattle.ring_theory.proofs.Integral.{integral}
use Rattle.ring_lemmas.proofs.Ring.{mul_zero, neg_unique}
use Rattle.ring_theory.proofs.Subsets.{span_tail}
use Rattle.prime_theory.proofs.Scalars.{integral_wider}
use Rattle.linear_theory.specs.Module.{combine}
use Rattle.linear_theory.specs.Basis.{IsBasis as IsBasisOver, IsNull, IsSubspace}
use Rattle.linear_theory.proofs.Bases.{combine_in, null_subspace}
use Rattle.linear_theory.proofs.Dimension.{basis_of_full_length}
use Rattle.ff_fields.specs.Field.{CodeField}
use Rattle.ff_fields.specs.Code.{code_ring, code_field}
use Rattle.ff_poly.specs.Polynomials.{polynomials}
use Rattle.function_field.specs.declared.side.Side.{Side}
use Rattle.function_field.specs.declared.side.Side.TheVariants.{Finite, Infinite}
use Rattle.function_field.specs.Discriminant.{discriminant}
use Rattle.function_field.specs.Places.{IsIntegralAt}
use Rattle.function_field.specs.Divisors.{IsConstant}
use Rattle.function_field.specs.Functions.{Equation, FunctionOf, ring_of, setting_of, degree_of_y, IsCode, IsScalar, IsFiniteAtInfinity}
use Rattle.function_field.proofs.ScalarRings.{scalars_subring}
use Rattle.places_theory.proofs.Sides.{side_ring, scalar_integral}
use Rattle.function_field.specs.Indices.{HasIndex, space_ops}
use Rattle.lattice_theory.specs.Lattices.{polynomial_ops}
use Rattle.lattice_theory.proofs.Bases.{index_same}
use Rattle.lattice_theory.proofs.Indices.{codes, space, code_of, code_hom}
use Rattle.reduced_basis_theory.specs.Degree.{size, dimension_sum}
use Rattle.reduced_basis_theory.specs.Reduced.{layers, Section}
use Rattle.reduced_basis_theory.proofs.Count.{section_basis, length_section}
use Rattle.space_theory.specs.Spaces.{IsReducedBasis, multiples_of}
use Rattle.space_theory.proofs.FunctionModule.{functions_module, cancel}
use Rattle.space_theory.proofs.InfiniteIndices.{code_finite, level_zero}
use Rattle.space_theory.proofs.Laws.{space_basis}
use Rattle.space_theory.proofs.Pairs.{sides_basis}
use Rattle.order_theory.proofs.IndexProducts.{combine_times}
use Rattle.order_theory.proofs.Degrees.{code_is, code_at}

module _ {k : CodeField} (c : Equation k) where
  infixl 65 ◌⊕◌
  infixl 70 ◌⊗◌
  infixr 80 ⊖◌
  open ring_of c use {ops, 𝟘, 𝟙, ◌⊕◌, ◌⊗◌, ⊖◌}

  abbrev Fin : FunctionOf c → Type 0
  Fin = IsIntegralAt (setting_of c) Finite

  abbrev Inf : FunctionOf c → Type 0
  Inf = IsIntegralAt (setting_of c) Infinite

  -- what is integral on both sides
  abbrev pub OnBothSides : FunctionOf c → Type 0
  OnBothSides z = IsIntegralAt (setting_of c) Finite z × IsIntegralAt (setting_of c) Infinite z

  pub code_subring : IsSubring (ring_of c).ops (IsCode c)
  code_subring = record {
    zero_in = subst (IsCode c) (code_hom c).zero_is (code_is c (code_ring k).𝟘);
    one_in = subst (IsCode c) (code_hom c).one_is (code_is c (code_ring k).𝟙);
    sum_in = λ a b h i.
        let p = code_at c a h in
        let q = code_at c b i in
        subst (IsCode c) ((code_hom c).sum_is p.0 q.0 ∙ ap₂ ◌⊕◌ (sym p.1) (sym q.1))
        (code_is c ((code_ring k).◌⊕◌ p.0 q.0));
    neg_in = λ a h.
        let p = code_at c a h in
        subst (IsCode c)
        (neg_unique (ring_of c) (code_of c p.0) (code_of c ((code_ring k).⊖◌ p.0))
        (sym ((code_hom c).sum_is p.0 ((code_ring k).⊖◌ p.0)) ∙ ap (code_of c) ((code_ring k).ring.add_neg p.0)
        ∙ (code_hom c).zero_is)
        ∙ ap ⊖◌ (sym p.1)) (code_is c ((code_ring k).⊖◌ p.0));
    product_in = λ a b h i.
        let p = code_at c a h in
        let q = code_at c b i in
        subst (IsCode c) ((code_hom c).product_is p.0 q.0 ∙ ap₂ ◌⊗◌ (sym p.1) (sym q.1))
        (code_is c ((code_ring k).◌⊗◌ p.0 q.0));
  }

  code_scalar : (s : Side) (z : FunctionOf c) → IsCode c z → IsScalar c s z
  code_scalar Finite z h = record { polynomial = h.code; value = h.value }
  code_scalar Infinite z h = let p = code_at c z h in subst (IsFiniteAtInfinity c) (sym p.1) (code_finite c p.0)

  pub code_on_both : (z : FunctionOf c) → IsCode c z → OnBothSides z
  code_on_both z h = (
    scalar_integral (setting_of c) (scalars_subring c) Finite z (code_scalar Finite z h),
    scalar_integral (setting_of c) (scalars_subring c) Infinite z (code_scalar Infinite z h),
  )

  pub both_subring : IsSubring (ring_of c).ops OnBothSides
  both_subring =
      let 𝓕 = side_ring (setting_of c) (scalars_subring c) Finite in
      let 𝓘 = side_ring (setting_of c) (scalars_subring c) Infinite in
      record {
        zero_in = (𝓕.zero_in, 𝓘.zero_in);
        one_in = (𝓕.one_in, 𝓘.one_in);
        sum_in = λ a b h i. (𝓕.sum_in a b h.0 i.0, 𝓘.sum_in a b h.1 i.1);
        neg_in = λ a h. (𝓕.neg_in a h.0, 𝓘.neg_in a h.1);
        product_in = λ a b h i. (𝓕.product_in a b h.0 i.0, 𝓘.product_in a b h.1 i.1);
      }

  pub both_space : IsSubspace (space_ops c) OnBothSides
  both_space = record {
    zero_in = both_subring.zero_in;
    sum_in = both_subring.sum_in;
    scale_in = λ a v h. both_subring.product_in (code_of c a) v (code_on_both (code_of c a) (code_is c a)) h;
  }

  pub constant_on_both : (z : FunctionOf c) → IsConstant (setting_of c) z → OnBothSides z
  constant_on_both z h = (
    integral_wider (ring_of c) (IsCode c) (IsScalar c Finite) (code_scalar Finite) z h,
    integral_wider (ring_of c) (IsCode c) (IsScalar c Infinite) (code_scalar Infinite) z h,
  )

  module _ (bs : List (FunctionOf c)) (d : ℕ → ℤ)
      (reduced : IsReducedBasis c (IsIntegralAt (setting_of c) Finite) (IsIntegralAt (setting_of c) Infinite) bs
      d) where
    -- what is integral on both sides is a root of a monic polynomial over k, since it takes a space of finite
    -- dimension over k with 1 into itself
    pub both_constant : (z : FunctionOf c) → OnBothSides z → IsConstant (setting_of c) z
    both_constant z h =
        let b = space_basis c Fin Inf bs d reduced in
        integral (ring_of c) (IsCode c) code_subring z ws
        (All-weaker OnBothSides (λ w. Span ops (IsCode c) (𝟙 ∷ ws) (z ⊗ w))
        (λ w m. span_tail (ring_of c) (IsCode c) code_subring 𝟙 ws (z ⊗ w)
        (b.spanning (z ⊗ w) (both_subring.product_in z w h m))) (𝟙 ∷ ws)
        (All-cons OnBothSides 𝟙 ws both_subring.one_in b.members))
      where
        ws : List (FunctionOf c)
        ws = layers (code_ring k) (polynomial_ops c) bs (λ i. size (pos 0 -ℤ d i))

    pub both_index : HasIndex c (IsNull (space_ops c)) OnBothSides (dimension_sum (degree_of_y c) d (pos 0))
    both_index =
        index_same c (IsNull (space_ops c)) (IsNull (space_ops c)) (Section Fin (multiples_of c Inf) (pos 0))
        OnBothSides (λ z. (λ e. e, λ e. e))
        (λ z. (λ m. (m.0, (level_zero c Inf z).0 m.1), λ m. (m.0, (level_zero c Inf z).1 m.1))) _
        (record {
          basis = layers (code_ring k) (polynomial_ops c) bs (λ i. size (pos 0 -ℤ d i));
          is = section_basis (code_ring k) (code_field k) (functions_module c) (degree_of_y c) Fin
              (multiples_of c Inf) bs d reduced (pos 0);
          count = length_section (code_ring k) (code_field k) (functions_module c) (degree_of_y c) Fin
              (multiples_of c Inf) bs d reduced (pos 0);
        })

    -- the constants have the dimension of I ∩ N
    pub constants_index : HasIndex c (IsNull (space_ops c)) (IsConstant (setting_of c))
        (dimension_sum (degree_of_y c) d (pos 0))
    constants_index =
        index_same c (IsNull (space_ops c)) (IsNull (space_ops c)) OnBothSides (IsConstant (setting_of c))
        (λ z. (λ e. e, λ e. e))
        (λ z. (both_constant z, constant_on_both z)) _ both_index

    -- where z has an inverse, the inverse of a constant is one: z takes a basis of the constants to a basis, so 1 is z
    -- times a constant
    pub inverse_on_both : (z y : FunctionOf c) → OnBothSides z → z ⊗ y ≡ 𝟙 → OnBothSides y
    inverse_on_both z y h e =
        let s = full.spanning 𝟙 both_subring.one_in in
        let w = combine (space_ops c) s.coefficient ws in
        let one : 𝟙 ≡ z ⊗ w = s.is ∙ ap₂ ◌⊕◌ (combine_times c z s.coefficient ws) s.rest_in
        ∙ (ring_of c).add_zero (z ⊗ w) in
        subst OnBothSides
        (sym (cancel c y z w back) ∙ ap (λ v. y ⊗ v) (sym one) ∙ (ring_of c).mul_one y)
        (combine_in (codes k) (space c) OnBothSides both_space s.coefficient ws both_index.is.members_in)
      where
        back : y ⊗ z ≡ 𝟙
        back = (ring_of c).mul_comm y z ∙ e

        ws : List (FunctionOf c)
        ws = both_index.basis

        full : IsBasisOver (code_ring k).ops (space_ops c) (IsNull (space_ops c)) OnBothSides
            (map (◌⊗◌ z) both_index.basis)
        full =
            basis_of_full_length (codes k) (space c) (IsNull (space_ops c)) OnBothSides
            (null_subspace (codes k) (space c)) both_space (map (◌⊗◌ z) ws) ws both_index.is
            (All-map OnBothSides (◌⊗◌ z) ws
            (All-weaker OnBothSides (λ w. OnBothSides (z ⊗ w)) (λ w m. both_subring.product_in z w h m) ws
            both_index.is.members_in))
            (λ f m i l.
            both_index.is.independent f
            (sym (cancel c y z _ back) ∙ ap (λ v. y ⊗ v) (sym (combine_times c z f ws) ∙ m) ∙ mul_zero (ring_of c) y) i
            (subst (λ n. i < n) (length-map ws (◌⊗◌ z)) l))
            (length-map ws (◌⊗◌ z))

  module _ (some : ¬ (discriminant c ≡ (polynomials k).𝟘)) where
    pub constants_are : (z : FunctionOf c) → IsConstant (setting_of c) z ↔ OnBothSides z
    constants_are z = let β = sides_basis c some in (constant_on_both z, both_constant β.0 β.1 β.2 z)

    pub constant_inverse : (z y : FunctionOf c) → IsConstant (setting_of c) z → z ⊗ y ≡ 𝟙 → IsConstant (setting_of c) y
    constant_inverse z y h e =
        let β = sides_basis c some in
        both_constant β.0 β.1 β.2 y (inverse_on_both β.0 β.1 β.2 z y (constant_on_both z h) e)
