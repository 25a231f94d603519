-- The genus: where F is a field, it times the dimension of the constants is the sum of the max(0, d_i - 1), for the
-- degrees of a reduced basis of (O_fin, O_inf).
use Rattle.std.proofs.Common.{◌≡◌, ℕ, suc, ◌+◌, ◌*◌, ◌≤◌, ◌⊎◌, inl, inr, ℤ, pos, List, [], ◌∷◌, length, refl, sym, ◌∙◌, ap, ap₂, subst, arith, suc-mul, mul-le-mul_right, mul_comm}
use Rattle.ring_lemmas.specs.Ring.{IsField}
use Rattle.ring_theory.specs.Subsets.{IsSubring}
use Rattle.ring_lemmas.proofs.Ring.{add_add, zero_add}
use Rattle.ring_lemmas.proofs.Solver.{ring, reads}
use Rattle.prime_theory.proofs.Lists.{everywhere}
use Rattle.linear_theory.specs.Fields.{Field}
use Rattle.linear_theory.specs.Module.{combine}
use Rattle.linear_theory.specs.Basis.{IsBasis, IsNull, IsSum, IsSubspace}
use Rattle.ff_fields.specs.Field.{CodeField}
use Rattle.ff_fields.specs.Code.{code_ring, code_field}
use Rattle.ff_poly.specs.Polynomials.{polynomials}
use Rattle.function_field.specs.declared.side.Side.TheVariants.{Finite, Infinite}
use Rattle.function_field.specs.Discriminant.{discriminant}
use Rattle.function_field.specs.Places.{IsIntegralAt}
use Rattle.function_field.specs.Divisors.{IsConstant, IsSumOfSides, HasGenus}
use Rattle.function_field.specs.Functions.{Equation, FunctionOf, ring_of, setting_of, degree_of_y}
use Rattle.function_field.proofs.ScalarRings.{scalars_subring}
use Rattle.places_theory.proofs.Sides.{side_ring}
use Rattle.function_field.specs.Indices.{HasIndex, space_ops}
use Rattle.lattice_theory.specs.Lattices.{polynomial_ops}
use Rattle.reduced_basis_theory.specs.Degree.{genus_sum}
use Rattle.reduced_basis_theory.specs.Reduced.{constants_ops}
use Rattle.reduced_basis_theory.proofs.Laws.{constants_genus, constants_basis as basis_over_constants}
use Rattle.space_theory.specs.Spaces.{IsReducedBasis, multiples_of}
use Rattle.space_theory.proofs.FunctionModule.{functions_module, division}
use Rattle.space_theory.proofs.InfiniteIndices.{level_zero}
use Rattle.space_theory.proofs.Pairs.{sides_basis}
use Rattle.space_theory.proofs.ScalarLists.{combine_spanned, independent_lists}
use Rattle.divisor_theory.proofs.Sequences.{sequence_of, independent_sequences}
use Rattle.divisor_theory.proofs.Constants.{both_subring, constants_are, constants_index}
use Rattle.divisor_theory.proofs.ConstantField.{tested, constant_of, Constant, constant_ring, same_constant, constant_field, constant_space, function_hom, over_constants, constants_extension, constants_basis}
use Rattle.std.proofs.lemmas.Bool.{cases_lt}
use Rattle.ideal_theory.proofs.DegreeIndex.{part_and_rest}

-- a number that isn't 0 cancels
cancel_number : (n g h : ℕ) → ¬ (n ≡ 0) → n * g ≡ n * h → g ≡ h
cancel_number n g h some e = go (cases_lt g h) (cases_lt h g)
  where
    less : (a b : ℕ) → suc a ≤ b → n * a ≡ n * b → ⊥
    less a b l q =
        let u : suc a * n ≤ b * n = mul-le-mul_right n l in
        let v : suc a * n ≡ a * n + n = suc-mul a n in
        let w : n * a ≡ a * n = mul_comm n a in
        let x : n * b ≡ b * n = mul_comm n b in
        some (omega (arith, u, v, w, x, q))

    go : (suc g ≤ h) ⊎ (h ≤ g) → (suc h ≤ g) ⊎ (g ≤ h) → g ≡ h
    go (inl l) m = absurd (less g h l e)
    go (inr l) (inl m) = absurd (less h g m (sym e))
    go (inr l) (inr m) = omega arith

module _ {k : CodeField} (c : Equation k) (some : ¬ (discriminant c ≡ (polynomials k).𝟘))
    (field : IsField (ring_of c).ops) where
  infixl 65 ◌⊕◌
  infixl 70 ◌⊗◌
  infixr 80 ⊖◌
  open ring_of c use {𝟘, 𝟙, ◌⊕◌, ◌⊗◌, ⊖◌}

  abbrev Fin : FunctionOf c → Type 0
  Fin = IsIntegralAt (setting_of c) Finite

  abbrev Inf : FunctionOf c → Type 0
  Inf = IsIntegralAt (setting_of c) Infinite

  -- O_fin + O_inf
  abbrev Sums : FunctionOf c → Type 0
  Sums = IsSum (constants_ops (code_ring k) (polynomial_ops c)) Fin (multiples_of c Inf (pos 0))

  to_sum : (z : FunctionOf c) → IsSumOfSides (setting_of c) z → Sums z
  to_sum z h =
      record {
        left = h.finite_part;
        left_in = h.finite;
        right = h.infinite_part;
        right_in = (level_zero c Inf h.infinite_part).1 h.infinite;
        is = h.value;
      }

  from_sum : (z : FunctionOf c) → Sums z → IsSumOfSides (setting_of c) z
  from_sum z h =
      record {
        finite_part = h.left;
        infinite_part = h.right;
        finite = h.left_in;
        infinite = (level_zero c Inf h.right).0 h.right_in;
        value = h.is;
      }

  at : (z : FunctionOf c) → IsConstant (setting_of c) z → (a : Constant c some) × (z ≡ a.0)
  at z h = ((z, tested c some z h), refl)

  abbrev K0 : Field (Constant c some)
  K0 = constant_field c some field

  -- the functions of the definition are a basis of F over O_fin + O_inf and the constants
  basis_of_genus : (g : ℕ) (h : HasGenus (setting_of c) g)
      → IsBasis (constant_ring c some).ops (over_constants c some).ops Sums (λ z. Unit {0}) h.functions
  basis_of_genus g h = record {
    members_in = everywhere (λ z. Unit {0}) (λ z. tt) h.functions;
    spanning = λ v v_in.
        let s = h.spanning v in
        let q = sequence_of (constant_ring c some) (ring_of c) (λ a. a.0) (IsConstant (setting_of c)) at h.functions
        s.0 s.1 in
        record {
          coefficient = q.0;
          rest = v ⊕ ⊖ s.0;
          rest_in = to_sum (v ⊕ ⊖ s.0) s.2;
          is = part_and_rest (ring_of c) v s.0 ∙ ap (λ x. x ⊕ (v ⊕ ⊖ s.0)) q.1;
        };
    independent =
        independent_sequences (constant_ring c some) (ring_of c) (λ a. a.0) (IsConstant (setting_of c))
        (λ a. constant_of c some a.0 a.1)
        (λ a e. same_constant c some a (constant_ring c some).𝟘 e) Sums h.functions
        (λ us l us_in m. h.independent us (l ∙ h.count) us_in (from_sum _ m));
  }

  genus_of_basis : (ws : List (FunctionOf c))
      → IsBasis (constant_ring c some).ops (over_constants c some).ops Sums (λ z. Unit {0}) ws
      → HasGenus (setting_of c) (length ws)
  genus_of_basis ws b = record {
    functions = ws;
    count = refl;
    spanning = λ z.
        let s = b.spanning z tt in
        let v = combine (over_constants c some).ops s.coefficient ws in (
          v,
          combine_spanned (constant_ring c some) (ring_of c) (λ a. a.0) (function_hom c some)
              (IsConstant (setting_of c)) (λ a. constant_of c some a.0 a.1) s.coefficient ws,
          subst (IsSumOfSides (setting_of c)) (rest z v s.rest s.is) (from_sum s.rest s.rest_in),
        );
    independent = λ us l us_in m.
        independent_lists (constant_ring c some) (ring_of c) (λ a. a.0) (function_hom c some)
        (IsConstant (setting_of c)) at Sums ws b.independent us l us_in (to_sum _ m);
  }
    where
      rest : (z v r : FunctionOf c) → z ≡ v ⊕ r → r ≡ z ⊕ ⊖ v
      rest z v r e = turn v r ∙ ap (λ x. x ⊕ ⊖ v) (sym e)
        where
          turn : (v r : FunctionOf c) → r ≡ v ⊕ r ⊕ ⊖ v
          turn v r = ring (ring_of c) (v ∷ r ∷ []) λ q x. simp (reads, q, x 0, x 1) (q.equal _ _ refl)

  -- the constants take O_fin + O_inf into itself
  sums_closed : IsSubspace (over_constants c some).ops Sums
  sums_closed =
      let 𝓑 = both_subring c in
      record {
        zero_in =
            to_sum 𝟘 (record {
              finite_part = 𝟘;
              infinite_part = 𝟘;
              finite = 𝓑.zero_in.0;
              infinite = 𝓑.zero_in.1;
              value = sym ((ring_of c).add_zero 𝟘);
            });
        sum_in = λ u v h i.
            let a = from_sum u h in
            let b = from_sum v i in
            to_sum (u ⊕ v) (record {
              finite_part = a.finite_part ⊕ b.finite_part;
              infinite_part = a.infinite_part ⊕ b.infinite_part;
              finite = 𝓕.sum_in _ _ a.finite b.finite;
              infinite = 𝓘.sum_in _ _ a.infinite b.infinite;
              value = ap₂ ◌⊕◌ a.value b.value ∙ add_add (ring_of c) _ _ _ _;
            });
        scale_in = λ t v h.
            let a = from_sum v h in
            let t_in = (constants_are c some t.0).0 (constant_of c some t.0 t.1) in
            to_sum (t.0 ⊗ v) (record {
              finite_part = t.0 ⊗ a.finite_part;
              infinite_part = t.0 ⊗ a.infinite_part;
              finite = 𝓕.product_in _ _ t_in.0 a.finite;
              infinite = 𝓘.product_in _ _ t_in.1 a.infinite;
              value = ap (λ x. t.0 ⊗ x) a.value ∙ (ring_of c).mul_add _ _ _;
            });
      }
    where
      𝓕 : IsSubring (ring_of c).ops Fin
      𝓕 = side_ring (setting_of c) (scalars_subring c) Finite

      𝓘 : IsSubring (ring_of c).ops Inf
      𝓘 = side_ring (setting_of c) (scalars_subring c) Infinite

  module _ (bs : List (FunctionOf c)) (d : ℕ → ℤ)
      (reduced : IsReducedBasis c (IsIntegralAt (setting_of c) Finite) (IsIntegralAt (setting_of c) Infinite) bs
      d) where
    pub genus_degrees : (n : ℕ) → HasIndex c (IsNull (space_ops c)) (IsConstant (setting_of c)) n → (g : ℕ)
        → HasGenus (setting_of c) g
        → n * g ≡ genus_sum (degree_of_y c) d
    genus_degrees n index g h =
        let t = constants_basis c some n index in
        let e = constants_genus (code_ring k) (code_field k) (functions_module c) (degree_of_y c) K0
        (constant_space c some) (over_constants c some)
        (constants_extension c some) t.0 t.1 Fin (multiples_of c Inf) bs d reduced (division c) h.functions
        (basis_of_genus g h) in
        mul_comm n g ∙ ap₂ ◌*◌ (sym h.count) (sym t.2) ∙ e

    genus_from : (g : ℕ) × HasGenus (setting_of c) g
    genus_from =
        let t = constants_basis c some _ (constants_index c bs d reduced) in
        let r = basis_over_constants (code_ring k) (code_field k) (functions_module c) (degree_of_y c) K0
        (constant_space c some) (over_constants c some)
        (constants_extension c some) t.0 t.1 Fin (multiples_of c Inf) bs d reduced (division c) sums_closed in
        (length r.0, genus_of_basis r.0 r.1)

  -- there is a genus
  pub genus_exists : (g : ℕ) × HasGenus (setting_of c) g
  genus_exists = let β = sides_basis c some in genus_from β.0 β.1 β.2

  -- the constants have a dimension other than 0, since 1 is one
  pub constants_some : (n : ℕ) → HasIndex c (IsNull (space_ops c)) (IsConstant (setting_of c)) n → ¬ (n ≡ 0)
  constants_some n index e = go index.basis index.is (index.count ∙ e)
    where
      go : (ws : List (FunctionOf c))
          → IsBasis (code_ring k).ops (space_ops c) (IsNull (space_ops c)) (IsConstant (setting_of c)) ws → length ws
          ≡ 0 → ⊥
      go [] b l =
          let s = b.spanning 𝟙 ((constants_are c some 𝟙).1 (both_subring c).one_in) in
          field.one_not_zero (s.is ∙ zero_add (ring_of c) s.rest ∙ s.rest_in)
      go (w ∷ ws) b l = absurd (omega arith)

  -- and it is one number
  pub genus_once : (g h : ℕ) → HasGenus (setting_of c) g → HasGenus (setting_of c) h → g ≡ h
  genus_once g h i j =
      let β = sides_basis c some in
      let index = constants_index c β.0 β.1 β.2 in
      cancel_number _ g h (constants_some _ index)
      (genus_degrees β.0 β.1 β.2 _ index g i ∙ sym (genus_degrees β.0 β.1 β.2 _ index h j))
