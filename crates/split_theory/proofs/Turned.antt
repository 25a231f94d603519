-- Combinations over k[t] as ones over k[x]: what is read at t, times a power of x, is the reversed polynomial at x.
use Rattle.std.proofs.Common.{◌≡◌, ℕ, zero, suc, ◌+◌, ◌-◌, ◌*◌, ◌<◌, ◌≤◌, List, [], ◌∷◌, ◌++◌, length, map, replicate, refl, sym, ◌∙◌, ap, ap₂, arith}
use Rattle.ring_lemmas.specs.Ring.{pow}
use Rattle.ring_lemmas.proofs.Ring.{mul_zero, mul_left_comm, mul_pow, pow_mul, pow_add}
use Rattle.ring_lemmas.proofs.Solver.{ring, reads}
use Rattle.ring_theory.proofs.RowMaps.{hom_zero}
use Rattle.ff_fields.specs.Field.{CodeField}
use Rattle.ff_poly.specs.Words.{shifted}
use Rattle.ff_poly.specs.Value.{value}
use Rattle.function_field.specs.declared.side.Side.TheVariants.{Finite, Infinite}
use Rattle.function_field.specs.Functions.{of_poly, y_of}
use Rattle.function_field.specs.Values.{PresValue, Functions, functions, setting, equation_of}
use Rattle.function_field.specs.Infinity.{constant, value_at, variable}
use Rattle.function_field.specs.Curves.{reversed_of}
use Rattle.function_field.proofs.OnSide.{value_at_x}
use Rattle.function_field.proofs.InfinitePresentations.{value_trim, value_zeros, value_reversed, value_at_value, constant_zero}
use Rattle.linear_theory.specs.Module.{combine}
use Rattle.lattice_theory.specs.Lattices.{polynomial_ops}
use Rattle.places_theory.proofs.AtInfinity.{at_codes, value_at_is, x_times_t}
use Rattle.infinite_theory.specs.InfiniteMaps.{IsInfiniteMap}
use Rattle.space_theory.proofs.InfiniteBases.{x_to_t}

module _ (k : CodeField) (p : PresValue) where
  infixl 70 ◌⊗◌
  open functions k p use {𝟙, ◌⊗◌}

  abbrev pub xs : ℕ → Functions k p
  xs j = pow (functions k p).ops (setting k p).x j

  abbrev pub ts : ℕ → Functions k p
  ts j = pow (functions k p).ops (setting k p).one_over_x j

  -- x^d·a(1/x), for at most d + 1 codes
  pub turned_value : (a : List ℕ) (d : ℕ) → length a ≤ d + 1
      → of_poly (equation_of k p) (value k (reversed_of a (d + 1)))
      ≡ value_at k p (variable k p Infinite) a ⊗ xs d
  turned_value a d le =
      sym (value_at_x k p (reversed_of a (d + 1)))
      ∙ value_at_value k p (variable k p Finite) (reversed_of a (d + 1))
      ∙ value_reversed (functions k p) (constant k p) (constant_zero k p) (variable k p Infinite) (variable k p Finite)
      ((functions k p).mul_comm (variable k p Infinite) (variable k p Finite) ∙ x_times_t k p) a d le
      ∙ ap (λ v. v ⊗ xs d) (sym (value_at_value k p (variable k p Infinite) a))

  -- times x^j
  pub shifted_value : (a : List ℕ) (j : ℕ) → of_poly (equation_of k p) (value k (shifted a j))
      ≡ xs j ⊗ of_poly (equation_of k p) (value k a)
  shifted_value a j =
      sym (value_at_x k p (shifted a j))
      ∙ value_at_value k p (variable k p Finite) (shifted a j)
      ∙ value_trim (functions k p) (constant k p) (constant_zero k p) (variable k p Finite) (replicate j 0 ++ a)
      ∙ value_zeros (functions k p) (constant k p) (constant_zero k p) (variable k p Finite) j a
      ∙ ap (λ v. xs j ⊗ v) (sym (value_at_value k p (variable k p Finite) a) ∙ value_at_x k p a)

  -- x^(d - e) is x^d·t^e
  pub less_powers : (d e : ℕ) → e ≤ d → xs d ⊗ ts e ≡ xs (d - e)
  less_powers d e le =
      let whole : d ≡ (d - e) + e = omega (arith, le) in
      ap (λ m. xs m ⊗ ts e) whole ∙ ap (λ v. v ⊗ ts e) (pow_add (functions k p) (setting k p).x (d - e) e)
      ∙ (functions k p).mul_assoc (xs (d - e)) (xs e) (ts e) ∙ ap (λ v. xs (d - e) ⊗ v) (x_to_t (equation_of k p) e)
      ∙ (functions k p).mul_one (xs (d - e))

module _ (k : CodeField) (p q : PresValue) (c : ℕ) (f : Functions k q → Functions k p)
    (g : IsInfiniteMap k p q c f) where
  infixl 65 ◌⊕◌
  infixl 70 ◌⊗◌
  open functions k p use {𝟘, 𝟙, ◌⊕◌, ◌⊗◌}

  pub image_power : (z : Functions k q) (i : ℕ) → f (pow (functions k q).ops z i) ≡ pow (functions k p).ops (f z) i
  image_power z zero = g.isomorphism.hom.𝟙
  image_power z (suc i) = g.isomorphism.hom.mul z (pow (functions k q).ops z i) ∙ ap (λ w. f z ⊗ w) (image_power z i)

  -- y^i is x^(c·i) times the image of Y^i
  pub y_power : (i : ℕ) → xs k p (c * i) ⊗ f (pow (functions k q).ops (y_of (equation_of k q)) i)
      ≡ pow (functions k p).ops (y_of (equation_of k p)) i
  y_power i =
      let Y = pow (functions k p).ops (y_of (equation_of k p)) i in
      ap (λ w. xs k p (c * i) ⊗ w)
      (image_power (y_of (equation_of k q)) i ∙ ap (λ w. pow (functions k p).ops w i) g.generator_is
      ∙ mul_pow (functions k p) (y_of (equation_of k p)) (ts k p c) i
      ∙ ap (λ w. Y ⊗ w) (sym (pow_mul (functions k p) (setting k p).one_over_x c i)))
      ∙ mul_left_comm (functions k p) (xs k p (c * i)) Y (ts k p (c * i))
      ∙ ap (λ w. Y ⊗ w) (x_to_t (equation_of k p) (c * i)) ∙ (functions k p).mul_one Y

  -- the image of a polynomial
  pub image_value : (a : List ℕ) → f (of_poly (equation_of k q) (value k a)) ≡ value_at k p (variable k p Infinite) a
  image_value a =
      g.values (value k a) ∙ sym (at_codes k p (variable k p Infinite) (value k a))
      ∙ sym (value_at_is k p (variable k p Infinite) a)

  -- the image of a combination, times a power of x
  pub image_combination : (d e : ℕ) (b : ℕ → List ℕ) (zs : List (Functions k q))
      → ((i : ℕ) → i < length zs → length (b i) ≤ d + 1)
      → xs k p e ⊗ xs k p d ⊗ f (combine (polynomial_ops (equation_of k q)) (λ i. value k (b i)) zs)
      ≡ combine (polynomial_ops (equation_of k p)) (λ i. value k (shifted (reversed_of (b i) (d + 1)) e)) (map f zs)
  image_combination d e b [] short =
      ap (λ w. xs k p e ⊗ xs k p d ⊗ w) (hom_zero (functions k q) (functions k p) f g.isomorphism.hom)
      ∙ mul_zero (functions k p) (xs k p e ⊗ xs k p d)
  image_combination d e b (z ∷ zs) short =
      let rest = combine (polynomial_ops (equation_of k q)) (λ i. value k (b (suc i))) zs in
      ap (λ w. xs k p e ⊗ xs k p d ⊗ w)
      (g.isomorphism.hom.add ((functions k q).◌⊗◌ (of_poly (equation_of k q) (value k (b 0))) z) rest
      ∙ ap (λ w. w ⊕ f rest)
      (g.isomorphism.hom.mul (of_poly (equation_of k q) (value k (b 0))) z ∙ ap (λ w. w ⊗ f z) (image_value (b 0))))
      ∙ apart (xs k p e) (xs k p d) (value_at k p (variable k p Infinite) (b 0)) (f z) (f rest)
      ∙ ap₂ (λ u w. u ⊗ f z ⊕ w)
      (ap (λ w. xs k p e ⊗ w) (sym (turned_value k p (b 0) d (short 0 (omega arith))))
      ∙ sym (shifted_value k p (reversed_of (b 0) (d + 1)) e))
      (image_combination d e (λ i. b (suc i)) zs (λ i l. short (suc i) (omega (arith, l))))
    where
      apart : (E D V z r : Functions k p) → E ⊗ D ⊗ (V ⊗ z ⊕ r) ≡ E ⊗ (V ⊗ D) ⊗ z ⊕ E ⊗ D ⊗ r
      apart E D V z r =
          ring (functions k p) (E ∷ D ∷ V ∷ z ∷ r ∷ []) λ q i. simp (reads, q, i 0, i 1, i 2, i 3, i 4)
          (q.equal _ _ refl)
