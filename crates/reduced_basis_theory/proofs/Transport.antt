-- Reduced bases of equal pairs, of a pair shifted by a power of x, and of the image of a pair under a linear bijection.
use Rattle.std.proofs.Common.{◌≡◌, ℕ, zero, suc, ◌+◌, ◌↔◌, ℤ, pos, ◌+ℤ◌, ◌-ℤ◌, List, map, sym, ◌∙◌, ap, subst, arith}
use Rattle.std.proofs.lemmas.List.{length-map}
use Rattle.std.proofs.lemmas.Int.{ints}
use Rattle.ring_lemmas.specs.Ring.{TestedRing}
use Rattle.ring_lemmas.specs.Polynomials.{Pol}
use Rattle.ring_theory.specs.PolynomialRing.{pol_ring}
use Rattle.linear_theory.specs.Module.{Module, combine, IsLinear}
use Rattle.linear_theory.proofs.Combination.{combine_map, linear_zero}
use Rattle.reduced_basis_theory.specs.Degree.{DegreeAtMost, degree, degree_sum}
use Rattle.reduced_basis_theory.specs.Reduced.{IsReducedBasisOfPair}

module _ {C V : Type 0} (k : TestedRing C) (M : Module (pol_ring k).ring V) (n : ℕ) where
  infixl 65 ◌⊞◌
  infixr 75 ◌•◌
  open M use {𝟬, ◌⊞◌, ◌•◌}

  -- pairs with the same members, and degrees that are the same
  pub reduced_same : (I I' : V → Type 0) (N N' : ℤ → V → Type 0) (b : List V) (d d' : ℕ → ℤ)
      → ((z : V) → I z ↔ I' z) → ((m : ℤ) (z : V) → N m z ↔ N' m z) → ((i : ℕ) → d i ≡ d' i)
      → IsReducedBasisOfPair k M.ops n I N b d → IsReducedBasisOfPair k M.ops n I' N' b d'
  reduced_same I I' N N' b d d' f g same reduced = record {
    at = record {
      count = reduced.at.count;
      free = reduced.at.free;
      coordinates = reduced.at.coordinates;
      degrees = λ m z e p some is. (
        λ h i l.
            subst (λ w. DegreeAtMost k (p i) (degree k e +ℤ (m -ℤ w))) (same i)
            ((reduced.at.degrees m z e p some is).0 ((g m z).1 h) i l),
        λ h.
            (g m z).0 ((reduced.at.degrees m z e p some is).1
            (λ i l. subst (λ w. DegreeAtMost k (p i) (degree k e +ℤ (m -ℤ w))) (sym (same i)) (h i l))),
      );
    };
    lattice = λ z. (λ h. (reduced.lattice z).0 ((f z).1 h), λ h. (f z).0 ((reduced.lattice z).1 h));
  }

  -- the family of x^(-j)·N has the degrees d i + j
  pub reduced_shift : (I : V → Type 0) (N : ℤ → V → Type 0) (b : List V) (d : ℕ → ℤ) (j : ℤ)
      → IsReducedBasisOfPair k M.ops n I N b d → IsReducedBasisOfPair k M.ops n I (λ m. N (m -ℤ j)) b (λ i. d i +ℤ j)
  reduced_shift I N b d j reduced = record {
    at = record {
      count = reduced.at.count;
      free = reduced.at.free;
      coordinates = reduced.at.coordinates;
      degrees = λ m z e p some is. (
        λ h i l.
            let w : (m -ℤ j) -ℤ d i ≡ m -ℤ (d i +ℤ j) = omega (arith, ints) in
            subst (λ w. DegreeAtMost k (p i) (degree k e +ℤ w)) w ((reduced.at.degrees (m -ℤ j) z e p some is).0 h i l),
        λ h.
            (reduced.at.degrees (m -ℤ j) z e p some is).1
            (λ i l.
            let w : m -ℤ (d i +ℤ j) ≡ (m -ℤ j) -ℤ d i = omega (arith, ints) in
            subst (λ w. DegreeAtMost k (p i) (degree k e +ℤ w)) w (h i l)),
      );
    };
    lattice = reduced.lattice;
  }

  module _ (f g : V → V) (f_linear : IsLinear M.ops M.ops f) (fg : (y : V) → f (g y) ≡ y)
      (gf : (y : V) → g (f y) ≡ y) where
    image_scale : (e : Pol k) (v : V) → f (e • v) ≡ e • f v
    image_scale e v =
        ap f (sym (M.add_zero _)) ∙ f_linear e v 𝟬 ∙ ap (λ w. e • f v ⊞ w) (linear_zero M M f f_linear) ∙ M.add_zero _

    back : (e : Pol k) (y : V) (p : ℕ → Pol k) (b : List V) → e • y ≡ combine M.ops p (map f b) → e • g y
        ≡ combine M.ops p b
    back e y p b is =
        sym (gf _) ∙ ap g (image_scale e (g y) ∙ ap (λ w. e • w) (fg y) ∙ is ∙ sym (combine_map M M f f_linear p b))
        ∙ gf _

    -- the images of a reduced basis under a linear bijection
    pub reduced_image : (I : V → Type 0) (N : ℤ → V → Type 0) (b : List V) (d : ℕ → ℤ)
        → IsReducedBasisOfPair k M.ops n I N b d
        → IsReducedBasisOfPair k M.ops n (λ y. I (g y)) (λ m y. N m (g y)) (map f b) d
    reduced_image I N b d reduced = record {
      at = record {
        count = length-map b f ∙ reduced.at.count;
        free = λ p e.
            reduced.at.free p
            (sym (gf _) ∙ ap g (combine_map M M f f_linear p b ∙ e ∙ sym (linear_zero M M f f_linear)) ∙ gf 𝟬);
        coordinates = λ y.
            let c = reduced.at.coordinates (g y) in
            record {
              denominator = c.denominator;
              nonzero = c.nonzero;
              coefficient = c.coefficient;
              is =
                  ap (λ w. c.denominator • w) (sym (fg y)) ∙ sym (image_scale c.denominator (g y)) ∙ ap f c.is
                  ∙ combine_map M M f f_linear c.coefficient b;
            };
        degrees = λ m y e p some is. reduced.at.degrees m (g y) e p some (back e y p b is);
      };
      lattice = λ y. (
        λ h.
            let a = (reduced.lattice (g y)).0 h in
            record {
              coefficient = a.coefficient;
              is = sym (fg y) ∙ ap f a.is ∙ combine_map M M f f_linear a.coefficient b;
            },
        λ h.
            (reduced.lattice (g y)).1
            (record {
              coefficient = h.coefficient;
              is = ap g (h.is ∙ sym (combine_map M M f f_linear h.coefficient b)) ∙ gf _;
            }),
      );
    }

-- the sum of the 2 - d i
pub degree_sum_from_two : (n : ℕ) (d : ℕ → ℤ) → (degree_sum n (λ i. pos 2 -ℤ d i) +ℤ degree_sum n d) ≡ pos (n + n)
degree_sum_from_two zero d = omega (arith, ints)
degree_sum_from_two (suc n) d = let e = degree_sum_from_two n (λ i. d (suc i)) in omega (arith, ints)
