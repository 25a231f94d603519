-- A reduced basis in another order is one: it spans the same, and the sum of its degrees is the same.
use Rattle.std.proofs.Common.{◌≡◌, ℕ, suc, ◌<◌, List, [], ◌∷◌, length, refl, sym, ◌∙◌, ap, ap₂, subst, arith, All, IsPermutation, sum_by}
use Rattle.std.proofs.lemmas.Int.{ints}
use Rattle.std.proofs.lemmas.List.{length-map}
use Rattle.std.proofs.lemmas.List.Elements.{All-nil, All-cons}
use Rattle.std.proofs.lemmas.List.Sums.{sum_by-cons}
use Rattle.std.proofs.lemmas.List.Sorted.{All-permutation, IsPermutation-map, IsPermutation-sym, length_permutation, sum_by-IsPermutation}
use Rattle.std.proofs.Math.IntN.{ℤ, pos, negsuc, ◌-ℤ◌}
use Rattle.ring_theory.specs.Subsets.{Span}
use Rattle.ring_theory.proofs.Subsets.{span_members, span_within}
use Rattle.ff_fields.specs.Field.{CodeField}
use Rattle.ff_fields.specs.Code.{code_ring, code_field, code_domain}
use Rattle.ff_poly.specs.Polynomials.{polynomials}
use Rattle.function_field.specs.Functions.{Equation, FunctionOf, ring_of, degree_of_y, IsPolynomial}
use Rattle.function_field.proofs.ScalarRings.{polynomials_subring}
use Rattle.linear_theory.specs.Lists.{entry, tabulate}
use Rattle.linear_theory.proofs.Lists.{All_entry}
use Rattle.lattice_theory.specs.Lattices.{polynomial_ops}
use Rattle.reduced_basis_theory.specs.Degree.{DegreeAtMost, degree, degree_sum}
use Rattle.reduced_basis_theory.specs.Reduced.{InLattice}
use Rattle.reduced_basis_theory.proofs.Degree.{degree_own}
use Rattle.reduced_basis_theory.proofs.Graded.{multiple_in}
use Rattle.space_theory.specs.Spaces.{IsLatticeAtInfinity, multiples_of, IsReducedBasis, IsBasisOfBoth}
use Rattle.space_theory.proofs.FunctionModule.{functions_module}
use Rattle.space_theory.proofs.LatticeBases.{lattice_of_span, span_of_lattice}
use Rattle.space_theory.proofs.Simultaneous.{degree_of_power, basis_of_both}
use Rattle.divisor_theory.proofs.Certificates.{reduced_by_sum}
use Rattle.split_theory.specs.Splits.{functions_of, degrees_of, degree_at}
use Rattle.split_theory.proofs.RowFunctions.{entry_map}

-- an integer as a difference of two numbers
up : ℤ → ℕ
up (pos n) = n
up (negsuc n) = 0

down : ℤ → ℕ
down (pos n) = 0
down (negsuc n) = suc n

up_down : (x : ℤ) → x ≡ pos (up x) -ℤ pos (down x)
unfolding up down
up_down (pos n) = omega (arith, ints)
up_down (negsuc n) = omega (arith, ints)

module _ {X : Type 0} where
  sum_parts : (ps : List (X × ℤ))
      → degree_sum (length ps) (degree_at ps)
      ≡ pos (sum_by (λ p. up p.1) ps) -ℤ pos (sum_by (λ p. down p.1) ps)
  sum_parts [] = omega (arith, ints)
  sum_parts (p ∷ ps) =
      let r = sum_parts ps in
      let a = sum_by-cons (λ (p : X × ℤ). up p.1) p ps in
      let b = sum_by-cons (λ (p : X × ℤ). down p.1) p ps in
      let e = up_down p.1 in
      omega (arith, ints)

  -- the sum of the degrees in another order
  sum_permuted : (ps qs : List (X × ℤ)) → IsPermutation ps qs
      → degree_sum (length qs) (degree_at qs) ≡ degree_sum (length ps) (degree_at ps)
  sum_permuted ps qs p =
      sum_parts qs
      ∙ ap₂ (λ a b. pos a -ℤ pos b) (sum_by-IsPermutation (λ p. up p.1) ps qs p)
      (sum_by-IsPermutation (λ p. down p.1) ps qs p)
      ∙ sym (sum_parts ps)

  tabulate_entry : (d : X) (xs : List X) → tabulate (length xs) (entry d xs) ≡ xs
  tabulate_entry d [] = refl
  tabulate_entry d (x ∷ xs) = ap (λ ys. x ∷ ys) (tabulate_entry d xs)

  all_of_entries : (P : X → Type 0) (d : X) (xs : List X) → ((i : ℕ) → i < length xs → P (entry d xs i)) → All P xs
  all_of_entries P d [] h = All-nil P
  all_of_entries P d (x ∷ xs) h =
      All-cons P x xs (h 0 (omega arith)) (all_of_entries P d xs (λ i l. h (suc i) (omega (arith, l))))

module _ {k : CodeField} (c : Equation k) (I N : FunctionOf c → Type 0) where
  infixl 70 ◌⊗◌
  open ring_of c use {𝟘, 𝟙, ◌⊗◌}

  -- each function of a reduced basis is in x^d·N for its degree d
  member : (bs : List (FunctionOf c)) (d : ℕ → ℤ) → IsReducedBasis c I N bs d → (i : ℕ) → i < degree_of_y c
      → multiples_of c N (d i) (entry 𝟘 bs i)
  member bs d reduced i less =
      subst (λ b. multiples_of c N (d i) b) ((functions_module c).one_scale (entry 𝟘 bs i))
      (multiple_in (code_ring k) (code_field k) (functions_module c) (degree_of_y c) (multiples_of c N) bs d reduced.at
      (d i) i (polynomials k).𝟙 less
      (subst (DegreeAtMost (code_ring k) (polynomials k).𝟙) one_degree
      (degree_own (code_ring k) (code_domain k) (polynomials k).𝟙)))
    where
      one_degree : degree (code_ring k) (polynomials k).𝟙 ≡ d i -ℤ d i
      one_degree = let f = degree_of_power c 0 in omega (arith, ints)

  module _ (ps qs : List (FunctionOf c × ℤ)) (p : IsPermutation ps qs)
      (reduced : IsReducedBasis c I N (functions_of ps) (degree_at ps)) where
    first_count : length ps ≡ degree_of_y c
    first_count = sym (length-map ps (λ p. p.0)) ∙ reduced.at.count

    second_count : length qs ≡ degree_of_y c
    second_count = length_permutation ps qs p ∙ first_count

    within : (xs ys : List (FunctionOf c × ℤ)) → IsPermutation xs ys → (z : FunctionOf c)
        → InLattice (code_ring k) (polynomial_ops c) (functions_of xs) z
        → InLattice (code_ring k) (polynomial_ops c) (functions_of ys) z
    within xs ys s z m =
        lattice_of_span c (functions_of ys) z
        (span_within (ring_of c) (IsPolynomial c) (polynomials_subring c) (functions_of xs) (functions_of ys)
        (All-permutation (Span (ring_of c).ops (IsPolynomial c) (functions_of ys)) (functions_of ys) (functions_of xs)
        (IsPermutation-map (λ p. p.0) ys xs (IsPermutation-sym xs ys s))
        (span_members (ring_of c) (IsPolynomial c) (polynomials_subring c) (functions_of ys))) z
        (span_of_lattice c (functions_of xs) z m))

    abbrev IsMember : FunctionOf c × ℤ → Type 0
    IsMember p = multiples_of c N p.1 p.0

    members : All IsMember qs
    members =
        All-permutation IsMember ps qs p
        (all_of_entries IsMember (𝟘, pos 0) ps (λ i l.
        subst (λ b. multiples_of c N b (entry (𝟘, pos 0) ps i).0) (entry_map (λ p. p.1) (𝟘, pos 0) (pos 0) ps i l)
        (subst (multiples_of c N (degree_at ps i)) (entry_map (λ p. p.0) (𝟘, pos 0) 𝟘 ps i l)
        (member (functions_of ps) (degree_at ps) reduced i (omega (arith, l, first_count))))))

    pub permuted_reduced : IsReducedBasis c I N (functions_of qs) (degree_at qs)
    permuted_reduced =
        reduced_by_sum c I N (functions_of ps) (degree_at ps) reduced (functions_of qs) (degree_at qs)
        (length-map qs (λ p. p.0) ∙ second_count)
        (λ z. (
          λ h. within ps qs p z ((reduced.lattice z).0 h),
          λ h. (reduced.lattice z).1 (within qs ps (IsPermutation-sym ps qs p) z h),
        ))
        (λ i less.
        let l : i < length qs = omega (arith, less, second_count) in
        subst (multiples_of c N (degree_at qs i)) (sym (entry_map (λ p. p.0) (𝟘, pos 0) 𝟘 qs i l))
        (subst (λ b. multiples_of c N b (entry (𝟘, pos 0) qs i).0)
        (sym (entry_map (λ p. p.1) (𝟘, pos 0) (pos 0) qs i l)) (All_entry IsMember (𝟘, pos 0) qs i members l)))
        (subst (λ n. degree_sum n (degree_at qs) ≡ degree_sum (degree_of_y c) (degree_at ps)) second_count
        (sum_permuted ps qs p ∙ ap (λ n. degree_sum n (degree_at ps)) first_count))

  pub permuted_both : IsLatticeAtInfinity c N → (ps qs : List (FunctionOf c × ℤ)) → IsPermutation ps qs
      → IsReducedBasis c I N (functions_of ps) (degree_at ps) → IsBasisOfBoth c I N (functions_of qs) (degrees_of qs)
  permuted_both 𝓝 ps qs p reduced =
      subst (IsBasisOfBoth c I N (functions_of qs))
      (ap (λ n. tabulate n (degree_at qs)) (length-map qs (λ p. p.0) ∙ sym (length-map qs (λ p. p.1)))
      ∙ tabulate_entry (pos 0) (degrees_of qs))
      (basis_of_both c I N 𝓝 (functions_of qs) (degree_at qs) (permuted_reduced ps qs p reduced))
