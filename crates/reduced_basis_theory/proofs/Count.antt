-- The elements x^j·b_i with j at most m - d_i are a basis, over the constants, of the intersection of I with x^m·N.
use Rattle.std.proofs.Common.{◌≡◌, ℕ, ◌<◌, ◌≤◌, ℤ, ◌+ℤ◌, ◌-ℤ◌, List, length, refl, sym, ◌∙◌, ap, subst, arith}
use Rattle.std.proofs.lemmas.Int.{ints}
use Rattle.ring_lemmas.specs.Ring.{TestedRing, IsField}
use Rattle.ring_lemmas.proofs.Ring.{field_domain}
use Rattle.ring_lemmas.specs.Polynomials.{Pol}
use Rattle.ring_theory.specs.PolynomialRing.{pol_ring}
use Rattle.linear_theory.specs.Module.{Module, combine}
use Rattle.linear_theory.specs.Basis.{IsNull, IsBasis}
use Rattle.reduced_basis_theory.specs.Degree.{size, degree, total}
use Rattle.reduced_basis_theory.specs.Reduced.{IsReducedBasisOfPair, constants_ops, layers, Section}
use Rattle.reduced_basis_theory.proofs.Degree.{length_of_nonzero}
use Rattle.reduced_basis_theory.proofs.Constants.{polynomials, constant_one, length_constant, polynomial_zero, length_polynomial}
use Rattle.reduced_basis_theory.proofs.Layers.{over_constants, All_of_combine, combine_layers, gather, blocks_zero, block, length_layers}

-- how many coefficients the coordinates of a member of x^m·N have at most
abbrev pub sizes : (ℕ → ℤ) → ℤ → ℕ → ℕ
sizes d m i = size (m -ℤ d i)

module _ {C : Type 0} (k : TestedRing C) (field : IsField k.ops) where
  abbrev one : Pol k
  one = (pol_ring k).𝟙

  -- the polynomial 1 has degree 0
  pub length_one : length (one).0 ≡ 1
  length_one =
      let b : length (one).0 ≤ 1 = subst (λ p. length p.0 ≤ 1) (constant_one k) (length_constant k k.𝟙) in
      omega (arith, length_of_nonzero k (field_domain k.ring field) one (polynomials k field).one_not_zero)

  pub over_one : (m : ℤ) → degree k one +ℤ m ≡ m
  over_one m = let e = length_one in omega (arith, ints)

module _ {C V : Type 0} (k : TestedRing C) (field : IsField k.ops) (M : Module (pol_ring k).ring V) where
  infixl 65 ◌⊞◌
  infixr 75 ◌•◌
  open M use {𝟬, ◌⊞◌, ◌•◌}

  abbrev s : TestedRing (Pol k)
  s = pol_ring k

  module _ (n : ℕ) (I : V → Type 0) (N : ℤ → V → Type 0) (b : List V) (d : ℕ → ℤ)
      (reduced : IsReducedBasisOfPair k M.ops n I N b d) where
    pub in_section : (m : ℤ) (p : ℕ → Pol k) → ((i : ℕ) → i < n → length (p i).0 ≤ sizes d m i)
        → Section I N m (combine M.ops p b)
    in_section m p h = (
      (reduced.lattice _).1 (record { coefficient = p; is = refl }),
      (reduced.at.degrees m _ s.𝟙 p (polynomials k field).one_not_zero (M.one_scale _)).1
          (λ i l. subst (λ w. length (p i).0 ≤ size w) (sym (over_one k field (m -ℤ d i))) (h i l)),
    )

    pub record Expansion (m : ℤ) (z : V) : Type 0 where
      pub coefficient : ℕ → Pol k
      pub is : z ≡ combine M.ops coefficient b
      pub bounded : (i : ℕ) → i < n → length (coefficient i).0 ≤ sizes d m i

    pub of_section : (m : ℤ) (z : V) → Section I N m z → Expansion m z
    of_section m z h =
        let a = (reduced.lattice z).0 h.0 in
        record {
          coefficient = a.coefficient;
          is = a.is;
          bounded = λ i l.
              subst (λ w. length (a.coefficient i).0 ≤ size w) (over_one k field (m -ℤ d i))
              ((reduced.at.degrees m z s.𝟙 a.coefficient (polynomials k field).one_not_zero (M.one_scale z ∙ a.is)).0
              h.1 i l);
        }

    -- the basis of the intersection
    pub section_basis : (m : ℤ)
        → IsBasis k.ops (constants_ops k M.ops) (IsNull (constants_ops k M.ops)) (Section I N m)
        (layers k M.ops b (sizes d m))
    section_basis m = record {
      members_in = All_of_combine (over_constants k M) (Section I N m) _ (λ c.
          subst (Section I N m) (sym (combine_layers k M b (sizes d m) c))
          (in_section m _ (λ i l. length_polynomial k (sizes d m i) (block (sizes d m) c i))));
      spanning = λ v h.
          let e = of_section m v h in
          let g = gather k M b (sizes d m) e.coefficient (λ i l. e.bounded i (subst (λ n. i < n) reduced.at.count l)) in
          record { coefficient = g.0; rest = 𝟬; rest_in = refl; is = e.is ∙ sym g.1 ∙ sym (M.add_zero _) };
      independent = λ c e i l.
          blocks_zero (λ a. a ≡ k.𝟘) (length b) (sizes d m) c
          (λ i l j h. polynomial_zero k (sizes d m i) _
          (reduced.at.free _ (sym (combine_layers k M b (sizes d m) c) ∙ e) i
          (subst (λ n. i < n) reduced.at.count l)) j h)
          i (subst (λ n. i < n) (length_layers k M b (sizes d m)) l);
    }

    -- its length: the sum of the numbers max(0, m + 1 - d_i)
    pub length_section : (m : ℤ) → length (layers k M.ops b (sizes d m)) ≡ total n (sizes d m)
    length_section m = length_layers k M b (sizes d m) ∙ ap (λ n. total n (sizes d m)) reduced.at.count
