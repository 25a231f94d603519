-- The sum of degrees of a lattice over k[x] with the combinations of one over k[t] that differs from k[t][Y] at t
-- alone: the index of the one relative to k[x][y], that of the other relative to k[t][Y], and 0 + c + 2c + .. +
-- (n-1)c.
use Rattle.std.proofs.Common.{◌≡◌, ℕ, zero, suc, ◌+◌, ◌-◌, ◌*◌, List, refl, sym, ◌∙◌, ap, ap₂, arith, mul-suc, suc-mul, mul-add, mul-zero, zero-mul, one-mul}
use Rattle.std.proofs.lemmas.Int.{ints}
use Rattle.std.proofs.Math.IntN.{ℤ, pos, ◌+ℤ◌}
use Rattle.ring_theory.specs.Subsets.{Span}
use Rattle.ring_lemmas.proofs.Ring.{zero_add}
use Rattle.prime_theory.specs.Ideals.{SameSet}
use Rattle.linear_theory.specs.Basis.{IsSum}
use Rattle.ff_fields.specs.Field.{CodeField}
use Rattle.ff_poly.specs.Polynomials.{x_poly}
use Rattle.function_field.specs.Functions.{Equation, IsPolynomial, degree_of_y}
use Rattle.function_field.specs.Values.{PresValue, Functions, functions, equation_of}
use Rattle.trace_theory.specs.Traces.{HasPolynomialCoordinates}
use Rattle.function_field.specs.Indices.{space_ops}
use Rattle.lattice_theory.specs.Lattices.{IsLattice}
use Rattle.lattice_theory.proofs.Indices.{index_of}
use Rattle.lattice_theory.proofs.Lattices.{lattice_module}
use Rattle.lattice_theory.proofs.Operations.{polynomial_lattice, sum_lattice}
use Rattle.reduced_basis_theory.specs.Degree.{degree_sum}
use Rattle.reduced_basis_theory.proofs.Rescale.{degree_sum_plus}
use Rattle.infinite_theory.specs.Supported.{IsSupportedAt}
use Rattle.infinite_theory.specs.InfiniteMaps.{IsInfiniteMap}
use Rattle.infinite_theory.proofs.InfiniteOrders.{combination_local}
use Rattle.infinite_theory.proofs.InfiniteTransport.{x_irreducible}
use Rattle.infinite_theory.proofs.PushedPlaces.{each}
use Rattle.infinite_theory.proofs.SupportedLattices.{coordinates_supported, sum_supported}
use Rattle.ideal_theory.specs.Indices.{HasRelativeIndex}
use Rattle.ideal_theory.proofs.RelativeIndex.{relative_at}
use Rattle.space_theory.specs.Spaces.{IsReducedBasis}
use Rattle.space_theory.proofs.AtInfinity.{combinations_lattice}
use Rattle.space_theory.proofs.InfiniteIndices.{infinite_index_degrees}
use Rattle.space_theory.proofs.Pairs.{reduced_basis}
use Rattle.divisor_theory.proofs.CombinationIndices.{Combinations, combination_index}
use Rattle.divisor_theory.proofs.Pairs.{lattice_degrees}
use Rattle.divisor_theory.proofs.StandardPair.{powers, powers_spanned, standard_pair}

module _ (k : CodeField) (p q : PresValue) (c : ℕ) (f : Functions k q → Functions k p) (g : IsInfiniteMap k p q c f)
    (same : degree_of_y (equation_of k q) ≡ degree_of_y (equation_of k p)) where
  abbrev R : Equation k
  R = equation_of k p

  abbrev Q : Equation k
  Q = equation_of k q

  abbrev n : ℕ
  n = degree_of_y (equation_of k p)

  -- larger lattices have more combinations
  more_combinations : (A B : Functions k q → Type 0) → IsLattice Q A → IsLattice Q B
      → ((z : Functions k q) → A z → B z) → (gs hs : List (Functions k q))
      → SameSet A (Span (functions k q).ops (IsPolynomial Q) gs)
      → SameSet B (Span (functions k q).ops (IsPolynomial Q) hs)
      → (w : Functions k p) → Combinations k p q c f g gs w → Combinations k p q c f g hs w
  more_combinations A B 𝓐 𝓑 within gs hs s t =
      each k p q c f g (λ w. Combinations k p q c f g gs w → Combinations k p q c f g hs w)
      (λ z m.
      let l = (combination_local k p q c f g A 𝓐 gs s z).0 m in
      (combination_local k p q c f g B 𝓑 hs t z).1
      (record { factor = l.factor; factor_in = l.factor_in; multiple_in = within _ l.multiple_in }))

  module _ (I : Functions k p → Type 0) (𝓘 : IsLattice (equation_of k p) I) (J : Functions k q → Type 0)
      (𝓙 : IsLattice (equation_of k q) J)
      (tame : IsSupportedAt (equation_of k q) (x_poly k) J) (gs : List (Functions k q))
      (spanned : SameSet J (Span (functions k q).ops (IsPolynomial (equation_of k q)) gs))
      (a b : ℤ) (first : HasRelativeIndex (equation_of k p) I (HasPolynomialCoordinates (equation_of k p)) a)
      (second : HasRelativeIndex (equation_of k q) J (HasPolynomialCoordinates (equation_of k q)) b) where
    abbrev P : Functions k p → Type 0
    P = HasPolynomialCoordinates R

    abbrev K : Functions k q → Type 0
    K = HasPolynomialCoordinates Q

    𝓟 : IsLattice (equation_of k p) (HasPolynomialCoordinates (equation_of k p))
    𝓟 = polynomial_lattice R

    𝓚 : IsLattice (equation_of k q) (HasPolynomialCoordinates (equation_of k q))
    𝓚 = polynomial_lattice Q

    abbrev U : Functions k q → Type 0
    U = IsSum (space_ops Q) J K

    in_left : (z : Functions k q) → J z → U z
    in_left z m =
        record {
          left = z;
          left_in = m;
          right = (functions k q).𝟘;
          right_in = (lattice_module Q K 𝓚).zero_in;
          is = sym ((functions k q).add_zero z);
        }

    in_right : (z : Functions k q) → K z → U z
    in_right z m =
        record {
          left = (functions k q).𝟘;
          left_in = (lattice_module Q J 𝓙).zero_in;
          right = z;
          right_in = m;
          is = sym (zero_add (functions k q) z);
        }

    pub sum_of_degrees : (bs : List (Functions k p)) (d : ℕ → ℤ)
        → IsReducedBasis (equation_of k p) I (Combinations k p q c f g gs) bs d
        → degree_sum (degree_of_y (equation_of k p)) d
        ≡ (a +ℤ b) +ℤ degree_sum (degree_of_y (equation_of k p)) (λ i. pos (c * i))
    sum_of_degrees bs d reduced =
        let 𝓤 = sum_lattice Q J K 𝓙 𝓚 in
        let u = sum_supported Q (x_poly k) (x_irreducible k) J K 𝓙 𝓚 tame
        (coordinates_supported Q (x_poly k) (x_irreducible k)) in
        let ys = powers Q 0 (degree_of_y Q) in
        let C = Combinations k p q c f g in
        let 𝓝 = combinations_lattice k p q c f g J 𝓙 gs spanned in
        let 𝓛 = combinations_lattice k p q c f g U 𝓤 𝓤.generators 𝓤.spanned in
        let 𝓨 = combinations_lattice k p q c f g K 𝓚 ys (powers_spanned Q) in
        let i = index_of Q J U 𝓙 𝓤 in_left in
        let j = index_of Q K U 𝓚 𝓤 in_right in
        let r = reduced_basis R P (C gs) 𝓟 𝓝 in
        let s = reduced_basis R P (C 𝓤.generators) 𝓟 𝓛 in
        let e = lattice_degrees R I P a first (C gs) 𝓝 bs r.0 d r.1 reduced r.2 in
        let h = relative_at Q J K 𝓙 𝓚 b second U 𝓤 in_left in_right i.0 j.0 i.1 j.1 in
        let v = infinite_index_degrees R (C gs) (C 𝓤.generators) 𝓝 𝓛
        (more_combinations J U 𝓙 𝓤 in_left gs 𝓤.generators spanned 𝓤.spanned) P r.0 s.0 r.1 s.1 r.2 s.2 i.0
        (combination_index k p q c f g J U 𝓙 𝓤 tame u in_left gs 𝓤.generators spanned 𝓤.spanned i.0 i.1) in
        let w = infinite_index_degrees R (C ys) (C 𝓤.generators) 𝓨 𝓛
        (more_combinations K U 𝓚 𝓤 in_right ys 𝓤.generators (powers_spanned Q) 𝓤.spanned) P
        (powers R 0 n) s.0 (λ i. pos (c * i)) s.1 (standard_pair k p q c f g same) s.2 j.0
        (combination_index k p q c f g K U 𝓚 𝓤 (coordinates_supported Q (x_poly k) (x_irreducible k)) u in_right ys
        𝓤.generators (powers_spanned Q) 𝓤.spanned j.0 j.1) in
        omega (arith, ints)

-- 0 + c + 2c + .. + (n-1)c, taken twice
degree_sum_cong : (n : ℕ) (d e : ℕ → ℤ) → ((i : ℕ) → d i ≡ e i) → degree_sum n d ≡ degree_sum n e
degree_sum_cong zero d e h = refl
degree_sum_cong (suc n) d e h = ap₂ ◌+ℤ◌ (h 0) (degree_sum_cong n (λ i. d (suc i)) (λ i. e (suc i)) (λ i. h (suc i)))

degree_sum_constant : (c n : ℕ) → degree_sum n (λ i. pos c) ≡ pos (c * n)
degree_sum_constant c zero = let e : c * 0 ≡ 0 = mul-zero c in omega (arith, ints)
degree_sum_constant c (suc n) =
    let r = degree_sum_constant c n in
    let e : c * suc n ≡ c * n + c = mul-suc c n in
    omega (arith, ints)

one_more : (c n : ℕ) → degree_sum (suc n) (λ i. pos (c * i)) ≡ degree_sum n (λ i. pos (c * i)) +ℤ pos (c * n)
one_more c n =
    let a : degree_sum n (λ i. pos (c * suc i)) ≡ degree_sum n (λ i. pos (c * i) +ℤ pos c)
    = degree_sum_cong n (λ i. pos (c * suc i)) (λ i. pos (c * i) +ℤ pos c)
    (λ i. let e : c * suc i ≡ c * i + c = mul-suc c i in omega (arith, ints)) in
    let b = degree_sum_plus n (λ i. pos (c * i)) (pos c) in
    let d = degree_sum_constant c n in
    let z : c * 0 ≡ 0 = mul-zero c in
    omega (arith, ints)

pub standard_sum : (c n : ℕ) → degree_sum n (λ i. pos (c * i)) +ℤ degree_sum n (λ i. pos (c * i))
    ≡ pos (c * (n * (n - 1)))
standard_sum c zero =
    let a : 0 * (0 - 1) ≡ 0 = zero-mul (0 - 1) in
    let b : c * (0 * (0 - 1)) ≡ 0 = ap (λ m. c * m) a ∙ mul-zero c in
    omega (arith, ints)
standard_sum c (suc zero) =
    let a : 1 * (1 - 1) ≡ 0 = one-mul (1 - 1) in
    let b : c * (1 * (1 - 1)) ≡ 0 = ap (λ m. c * m) a ∙ mul-zero c in
    let e = one_more c zero in
    let z : c * 0 ≡ 0 = mul-zero c in
    omega (arith, ints)
standard_sum c (suc (suc m)) =
    let r = standard_sum c (suc m) in
    let e = one_more c (suc m) in
    let A : ℕ = suc m * m in
    let B : ℕ = suc m in
    let u : suc m * (suc m - 1) ≡ A = ap (λ l. suc m * l) (let w : suc m - 1 ≡ m = omega arith in w) in
    let v : suc (suc m) * (suc (suc m) - 1) ≡ A + (B + B)
    = ap (λ l. suc (suc m) * l) (let w : suc (suc m) - 1 ≡ suc m = omega arith in w)
    ∙ (let s : suc (suc m) * suc m ≡ suc m * suc m + suc m = suc-mul (suc m) (suc m) in let t : suc m * suc m
    ≡ suc m * m + suc m = mul-suc (suc m) m in omega (arith, s, t)) in
    let x : c * (suc m * (suc m - 1)) ≡ c * A = ap (λ l. c * l) u in
    let y : c * (suc (suc m) * (suc (suc m) - 1)) ≡ c * A + (c * B + c * B)
    = ap (λ l. c * l) v ∙ mul-add c A (B + B) ∙ ap (λ l. c * A + l) (mul-add c B B) in
    omega (arith, ints, r, e, x, y)
