-- Each degree of an infinite place is its index in the functions that are integral at infinity.
use Rattle.std.proofs.Common.{◌≡◌, ℕ, List, [], ◌∷◌, sym, ◌∙◌, ap}
use Rattle.ring_lemmas.specs.Lists.{coeff_of}
use Rattle.ring_lemmas.proofs.Solver.{ring}
use Rattle.ring_lemmas.specs.Polynomials.{constant, pol_ops}
use Rattle.ring_lemmas.proofs.Lists.{coeff_trim}
use Rattle.ff_fields.specs.Field.{CodeField}
use Rattle.ff_fields.specs.Code.{Code, code_ring}
use Rattle.ff_poly.specs.Polynomials.{polynomials}
use Rattle.function_field.specs.declared.side.Side.TheVariants.{Infinite}
use Rattle.function_field.specs.Places.{Place, IsIn, IsIntegralAt}
use Rattle.function_field.specs.Divisors.{HasDegree}
use Rattle.function_field.specs.Functions.{Equation, FunctionOf, ring_of, IsCode, setting_of}
use Rattle.function_field.proofs.OnSide.{of_poly_zero}
use Rattle.function_field.proofs.ScalarRings.{scalars_subring}
use Rattle.function_field.specs.Indices.{HasIndex}
use Rattle.lattice_theory.proofs.Indices.{code_of}
use Rattle.order_theory.proofs.InfinitePlaces.{infinite}
use Rattle.ideal_theory.proofs.PowerValues.{on_side}
use Rattle.space_theory.proofs.RationalPart.{polynomial_same}
use Rattle.divisor_theory.proofs.Sequences.{sequence_of, independent_sequences}
use Rattle.order_theory.proofs.Degrees.{code_is, code_at}
use Rattle.ideal_theory.proofs.DegreeIndex.{part_and_rest}

module _ {k : CodeField} (c : Equation k) where
  infixl 65 ◌⊕◌
  infixl 70 ◌⊗◌
  infixr 80 ⊖◌
  open ring_of c use {𝟘, 𝟙, ◌⊕◌, ◌⊗◌, ⊖◌}

  -- only the code 0 gives the function 0
  pub code_zero : (a : Code k) → code_of c a ≡ 𝟘 → a ≡ (code_ring k).𝟘
  unfolding pol_ops
  code_zero a e =
      let z : constant (code_ring k) a
      ≡ (polynomials k).𝟘 = polynomial_same c (constant (code_ring k) a) (polynomials k).𝟘 (e ∙ of_poly_zero c) in
      sym (coeff_trim (code_ring k) (a ∷ []) 0) ∙ ap (λ q. coeff_of (code_ring k).ops q.0 0) z
      ∙ coeff_trim (code_ring k) [] 0

  index_at : (gs : List (FunctionOf c)) (g : ℕ) → HasDegree (setting_of c) (infinite c gs) g
      → HasIndex c (IsIn (setting_of c) (infinite c gs)) (IsIntegralAt (setting_of c) Infinite) g
  index_at gs g d = record {
    basis = d.classes;
    is = record {
      members_in = d.members;
      spanning = λ v v_in.
          let t = d.spanning v v_in in
          let s = sequence_of (code_ring k).ring (ring_of c) (code_of c) (IsCode c) (code_at c) d.classes t.0 t.1 in
          record {
            coefficient = s.0;
            rest = v ⊕ ⊖ t.0;
            rest_in = t.2;
            is = part_and_rest (ring_of c) v t.0 ∙ ap (λ x. x ⊕ (v ⊕ ⊖ t.0)) s.1;
          };
      independent =
          independent_sequences (code_ring k).ring (ring_of c) (code_of c) (IsCode c) (code_is c) code_zero
          (IsIn (setting_of c) (infinite c gs)) d.classes
          (λ us l us_in m. d.independent us (l ∙ d.count) us_in m);
    };
    count = d.count;
  }

  pub infinite_degree_index : (P : Place (FunctionOf c)) → P.side ≡ Infinite → (g : ℕ) → HasDegree (setting_of c) P g
      → HasIndex c (IsIn (setting_of c) P) (IsIntegralAt (setting_of c) Infinite) g
  infinite_degree_index =
      on_side (setting_of c) (scalars_subring c) Infinite
      (λ P. (g : ℕ) → HasDegree (setting_of c) P g
      → HasIndex c (IsIn (setting_of c) P) (IsIntegralAt (setting_of c) Infinite) g) index_at
