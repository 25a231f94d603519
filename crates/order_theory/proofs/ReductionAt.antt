-- An order modulo an irreducible polynomial p is a finite algebra over k: the coordinates in a basis modulo p stand
-- for the classes.
use Rattle.std.proofs.Common.{◌≡◌, ℕ, zero, suc, ◌<◌, ◌≤◌, ◌*◌, ◌-◌, [], ◌∷◌, length, refl, sym, ◌∙◌, ap, subst, arith}
use Rattle.ring_lemmas.specs.Ring.{CommRing}
use Rattle.ring_lemmas.specs.Rows.{Row, entry}
use Rattle.ring_theory.specs.Subsets.{IsModule}
use Rattle.ring_lemmas.proofs.Ring.{one_mul, mul_neg}
use Rattle.ring_lemmas.proofs.Rows.{row_set, pair_path}
use Rattle.ring_lemmas.proofs.Solver.{ring, reads, from_one, from_two}
use Rattle.std.proofs.lemmas.List.{length-map}
use Rattle.std.proofs.Math.Nat.{mul-le-mul_left}
use Rattle.prime_theory.specs.Ideals.{Multiple}
use Rattle.linear_theory.specs.Module.{combine}
use Rattle.linear_theory.specs.Basis.{IsSubspace, IsCombination}
use Rattle.linear_theory.proofs.Bases.{combine_in}
use Rattle.linear_theory.proofs.Combination.{combine_cong}
use Rattle.linear_theory.proofs.Dependence.{coefficients_unique}
use Rattle.ff_fields.specs.Field.{CodeField}
use Rattle.ff_fields.specs.Code.{Code, code_ring}
use Rattle.ff_poly.specs.Words.{IsIrreducibleList}
use Rattle.ff_poly.specs.Polynomials.{Polynomial, polynomials, codes_of}
use Rattle.function_field.specs.Functions.{Equation, FunctionOf, ring_of, of_poly, degree_of_y, IsPolynomial}
use Rattle.polynomial_theory.proofs.CodeFields.{code_finite}
use Rattle.trace_theory.proofs.RowMatrix.{row_with, entry_with, row_by_entries}
use Rattle.polynomial_theory.proofs.Irreducible.{irreducible_some}
use Rattle.function_field.specs.Indices.{HasIndex, space_ops}
use Rattle.lattice_theory.specs.Lattices.{IsLattice}
use Rattle.order_theory.specs.Orders.{IsOrder}
use Rattle.lattice_theory.proofs.Lattices.{lattice_module, lattice_decided}
use Rattle.lattice_theory.proofs.Indices.{codes, space, lattice_subspace, index_none, index_once}
use Rattle.lattice_theory.proofs.Operations.{multiple_lattice, inverse_of}
use Rattle.lattice_theory.proofs.Bases.{index_of_multiple}
use Rattle.order_theory.proofs.Classes.{HasRepresentatives, class_ring}

-- equality of rows of codes is decided
pub code_rows : (k : CodeField) (n : ℕ) (v w : Row (Code k) n) → Dec (v ≡ w)
code_rows k zero v w = yes refl
code_rows k (suc n) (a, v) (b, w) = go ((code_finite k).decide a b) (code_rows k n v w)
  where
    go : Dec (a ≡ b) → Dec (v ≡ w) → Dec (◌≡◌ {A = Row (Code k) (suc n)} (a, v) (b, w))
    go (yes e) (yes d) = yes (pair_path e d)
    go (yes e) (no m) = no (λ h. m (ap (λ t. t.1) h))
    go (no m) d = no (λ h. m (ap (λ t. t.0) h))

module _ {k : CodeField} (c : Equation k) (p : Polynomial k) (h : IsIrreducibleList k.ops (codes_of k p))
    (O : FunctionOf c → Type 0) (𝓞 : IsOrder c O) where
  infixl 65 ◌⊕◌
  infixl 70 ◌⊗◌
  infixr 80 ⊖◌
  open ring_of c use {𝟘, 𝟙, ◌⊕◌, ◌⊗◌, ⊖◌}

  p_some : ¬ (p ≡ (polynomials k).𝟘)
  p_some = irreducible_some k p h

  abbrev pub pO : FunctionOf c → Type 0
  pO = Multiple (ring_of c).ops (of_poly c p) O

  pub multiple_is_lattice : IsLattice c pO
  multiple_is_lattice = multiple_lattice c O 𝓞.lattice (of_poly c p) (inverse_of c p p_some).0 (inverse_of c p p_some).1

  pub index_of_p : HasIndex c pO O (degree_of_y c * (length p.0 - 1))
  index_of_p = index_of_multiple c O 𝓞.lattice p p_some

  𝓜 : IsModule (ring_of c).ops (IsPolynomial c) O
  𝓜 = lattice_module c O 𝓞.lattice

  pub p_in : O (of_poly c p)
  p_in = subst O ((ring_of c).mul_one _)
      (𝓜.scale_in (of_poly c p) 𝟙 (record { polynomial = p; value = refl }) 𝓞.ring.one_in)

  pub p_within : (z : FunctionOf c) → pO z → O z
  p_within z m = subst O (sym m.is) (𝓞.ring.product_in _ _ p_in m.quotient_in)

  pub p_not_unit : ¬ (pO 𝟙)
  p_not_unit m =
      positive (index_once c pO O multiple_is_lattice _ 0 index_of_p (index_none c pO O multiple_is_lattice all_in))
    where
      all_in : (z : FunctionOf c) → O z → pO z
      all_in z z_in = record {
        quotient = m.quotient ⊗ z;
        quotient_in = 𝓞.ring.product_in _ _ m.quotient_in z_in;
        is = sym (one_mul (ring_of c) z) ∙ ap (λ x. x ⊗ z) m.is ∙ (ring_of c).mul_assoc _ _ z;
      }

      long : 2 ≤ length p.0
      long = subst (λ n. 2 ≤ n) (length-map p.0 (λ x. x.0)) h.not_constant

      positive : degree_of_y c * (length p.0 - 1) ≡ 0 → ⊥
      positive e = let l = long in
          let q = mul-le-mul_left (degree_of_y c) (let r : 1 ≤ length p.0 - 1 = omega arith in r) in
          absurd (omega (arith, e, q))

  abbrev m : ℕ
  m = length index_of_p.basis

  𝓤 : IsSubspace (space_ops c) pO
  𝓤 = lattice_subspace c pO multiple_is_lattice

  -- the classes, as rows of coordinates
  abbrev pub Classes : Type 0
  Classes = Row (Code k) (length index_of_p.basis)

  unfoldable pub lift : Classes → FunctionOf c
  lift x = combine (space_ops c) (λ i. entry (code_ring k).ops (length index_of_p.basis) i x) index_of_p.basis

  coordinates : (z : FunctionOf c) → Dec (O z) → ℕ → Code k
  coordinates z (yes z_in) = (index_of_p.is.spanning z z_in).coefficient
  coordinates z (no n) = λ i. (code_ring k).𝟘

  pub reduce : FunctionOf c → Classes
  reduce z = row_with (code_ring k).ring (length index_of_p.basis) (coordinates z (lattice_decided c O 𝓞.lattice z))

  -- a member is the combination of its coordinates up to a multiple of p
  as_combination : (z : FunctionOf c) → O z → (d : Dec (O z))
      → (t : IsCombination (space_ops c) pO index_of_p.basis z) × (t.coefficient ≡ coordinates z d)
  unfolding coordinates
  as_combination z z_in (yes z_in') = (index_of_p.is.spanning z z_in', refl)
  as_combination z z_in (no n) = absurd (n z_in)

  unique : (z : FunctionOf c) (s t : IsCombination (space_ops c) pO index_of_p.basis z) (i : ℕ)
      → i < length index_of_p.basis → s.coefficient i ≡ t.coefficient i
  unique z s t i l = coefficients_unique (space c) pO 𝓤 index_of_p.basis index_of_p.is.independent z s t i l

  same_class : (a b : FunctionOf c) (s : IsCombination (space_ops c) pO index_of_p.basis a)
      (t : IsCombination (space_ops c) pO index_of_p.basis b)
      → pO (a ⊕ ⊖ b) → (i : ℕ) → i < length index_of_p.basis → s.coefficient i ≡ t.coefficient i
  same_class a b s t d =
      unique a s (record {
        coefficient = t.coefficient;
        rest = t.rest ⊕ (a ⊕ ⊖ b);
        rest_in = 𝓤.sum_in _ _ t.rest_in d;
        is = moved a b t.rest (combine (space_ops c) t.coefficient index_of_p.basis) t.is;
      })
    where
      moved : (a b r v : FunctionOf c) → b ≡ v ⊕ r → a ≡ v ⊕ (r ⊕ (a ⊕ ⊖ b))
      moved a b r v e =
          from_one (ring_of c) 𝟙 e (ring (ring_of c) (a ∷ b ∷ r ∷ v ∷ []) λ q h. simp (reads, q, h 0, h 1, h 2, h 3)
          (q.equal _ _ refl))

  different_class : (a b : FunctionOf c) (s : IsCombination (space_ops c) pO index_of_p.basis a)
      (t : IsCombination (space_ops c) pO index_of_p.basis b)
      → ((i : ℕ) → i < length index_of_p.basis → s.coefficient i ≡ t.coefficient i) → pO (a ⊕ ⊖ b)
  different_class a b s t e =
      subst pO (sym (gap a b s.rest t.rest (combine (space_ops c) t.coefficient index_of_p.basis)
      (s.is ∙ ap (λ x. x ⊕ s.rest) (combine_cong (space c) s.coefficient t.coefficient index_of_p.basis e)) t.is))
      (𝓤.sum_in _ _ s.rest_in (minus t.rest t.rest_in))
    where
      gap : (a b r r' v : FunctionOf c) → a ≡ v ⊕ r → b ≡ v ⊕ r' → a ⊕ ⊖ b ≡ r ⊕ ⊖ r'
      gap a b r r' v e f =
          from_two (ring_of c) 𝟙 (⊖ 𝟙) e f
          (ring (ring_of c) (a ∷ b ∷ r ∷ r' ∷ v ∷ []) λ q h. simp (reads, q, h 0, h 1, h 2, h 3, h 4)
          (q.equal _ _ refl))

      minus : (z : FunctionOf c) → pO z → pO (⊖ z)
      minus z n =
          record {
            quotient = ⊖ n.quotient;
            quotient_in = 𝓞.ring.neg_in _ n.quotient_in;
            is = ap ⊖◌ n.is ∙ sym (mul_neg (ring_of c) _ _);
          }

  pub representatives : HasRepresentatives (ring_of c).ops O (of_poly c p) reduce lift
  unfolding reduce lift
  representatives = record {
    lift_in = lift_in;
    reduce_lift = λ x.
        let t = as_combination (lift x) (lift_in x) (lattice_decided c O 𝓞.lattice (lift x)) in
        row_by_entries (code_ring k).ring (length index_of_p.basis) _ x (λ i l.
        entry_with (code_ring k).ring (length index_of_p.basis) i _ l ∙ ap (λ f. f i) (sym t.1)
        ∙ unique (lift x) t.0
        (record {
          coefficient = λ i. entry (code_ring k).ops (length index_of_p.basis) i x;
          rest = 𝟘;
          rest_in = 𝓤.zero_in;
          is = sym ((ring_of c).add_zero (lift x));
        }) i l);
    same = λ a b a_in b_in d.
        let s = as_combination a a_in (lattice_decided c O 𝓞.lattice a) in
        let t = as_combination b b_in (lattice_decided c O 𝓞.lattice b) in
        row_by_entries (code_ring k).ring (length index_of_p.basis) _ _ (λ i l.
        entry_with (code_ring k).ring (length index_of_p.basis) i _ l ∙ ap (λ f. f i) (sym s.1)
        ∙ same_class a b s.0 t.0 d i l ∙ ap (λ f. f i) t.1
        ∙ sym (entry_with (code_ring k).ring (length index_of_p.basis) i _ l));
    differ = λ a b a_in b_in e.
        let s = as_combination a a_in (lattice_decided c O 𝓞.lattice a) in
        let t = as_combination b b_in (lattice_decided c O 𝓞.lattice b) in
        different_class a b s.0 t.0 (λ i l.
        ap (λ f. f i) s.1 ∙ sym (entry_with (code_ring k).ring (length index_of_p.basis) i _ l)
        ∙ ap (entry (code_ring k).ops (length index_of_p.basis) i) e
        ∙ entry_with (code_ring k).ring (length index_of_p.basis) i _ l ∙ ap (λ f. f i) (sym t.1));
  }
    where
      lift_in : (x : Classes) → O
          (combine (space_ops c) (λ i. entry (code_ring k).ops (length index_of_p.basis) i x) index_of_p.basis)
      lift_in x =
          combine_in (codes k) (space c) O (lattice_subspace c O 𝓞.lattice) _ index_of_p.basis index_of_p.is.members_in

  -- the order modulo p
  abbrev pub residue_ring : CommRing Classes
  residue_ring =
      class_ring (ring_of c) O 𝓞.ring (of_poly c p) p_in reduce lift representatives
      (row_set (code_ring k).ring (length index_of_p.basis))
