-- A polynomial at x to a power of q is that power of the polynomial. So modulo a power of an irreducible p the monic
-- polynomial of least degree that vanishes there is p.
use Rattle.std.proofs.Common.{◌≡◌, ◌↔◌, ℕ, zero, suc, ◌<◌, ◌≤◌, ◌+◌, ◌-◌, ◌^◌, List, [], ◌∷◌, length, refl, sym, ◌∙◌, ap, ap₂, subst, arith}
use Rattle.std.proofs.Math.Nat.{pow-zero, pow-suc}
use Rattle.std.proofs.lemmas.Nat.{mul-le}
use Rattle.std.proofs.lemmas.List.{length_push}
use Rattle.ring_lemmas.specs.Ring.{pow}
use Rattle.ring_lemmas.proofs.Ring.{zero_mul, mul_zero, pow_one, pow_add, pow_mul, mul_pow}
use Rattle.ring_lemmas.specs.Polynomials.{constant}
use Rattle.ring_theory.proofs.Evaluate.{constant_hom}
use Rattle.ring_theory.proofs.Polynomials.{length_product}
use Rattle.linear_theory.specs.Euclidean.{IsDivisorIn, IsUnit}
use Rattle.linear_theory.proofs.Euclid.{divisor_trans}
use Rattle.ff_fields.specs.Field.{CodeField}
use Rattle.ff_fields.specs.Code.{Code, code_ring, code_domain, read_code, zero_in}
use Rattle.ff_fields.specs.Over.{IsOver}
use Rattle.ff_poly.specs.Words.{IsMonicList, IsIrreducibleList}
use Rattle.ff_poly.specs.Value.{value}
use Rattle.ff_poly.specs.Polynomials.{Polynomial, polynomials, constant_poly, x_poly, value_nil, value_cons}
use Rattle.polynomial_theory.specs.Laws.{value_at, IsLeastMonic, VanishesAt}
use Rattle.polynomial_theory.proofs.Lengths.{some_long, some_of_long}
use Rattle.polynomial_theory.proofs.ListValues.{length_value, monic_poly}
use Rattle.polynomial_theory.proofs.Divisors.{divisor_length, monic_unique}
use Rattle.polynomial_theory.proofs.Irreducible.{short_unit}
use Rattle.polynomial_theory.proofs.CodeFields.{code_finite, length_codes}
use Rattle.polynomial_theory.proofs.Frobenius.{q, codes_number, polynomial_power_add}
use Rattle.polynomial_theory.proofs.PrimePowers.{P, power_divides}

module _ (k : CodeField) where
  infixl 65 ◌⊕◌
  infixl 70 ◌⊗◌
  open polynomials k use {𝟘, 𝟙, ◌⊕◌, ◌⊗◌}

  size_is : q k ≡ k.size
  size_is = sym (codes_number k) ∙ length_codes k

  power_add : (a b : Polynomial k) → pow (P k).ops (a ⊕ b) k.size ≡ pow (P k).ops a k.size ⊕ pow (P k).ops b k.size
  power_add a b =
      subst (λ n. pow (P k).ops (a ⊕ b) n ≡ pow (P k).ops a n ⊕ pow (P k).ops b n) size_is (polynomial_power_add k a b)

  constant_power : (a : Code k) (n : ℕ)
      → pow (P k).ops (constant (code_ring k) a) n ≡ constant (code_ring k) (pow (code_ring k).ops a n)
  constant_power a zero = sym (constant_hom (code_ring k)).𝟙
  constant_power a (suc n) =
      ap (λ u. constant (code_ring k) a ⊗ u) (constant_power a n) ∙ sym ((constant_hom (code_ring k)).mul a _)

  power_constant : (c : ℕ) → pow (P k).ops (constant_poly k c) k.size ≡ constant_poly k c
  power_constant c =
      constant_power (read_code k c) k.size
      ∙ ap (constant (code_ring k))
      (ap (pow (code_ring k).ops (read_code k c)) (sym (length_codes k)) ∙ (code_finite k).power (read_code k c))

  -- the same for q to a power
  iterate_step : (m : ℕ) (a : Polynomial k)
      → pow (P k).ops a (k.size ^ suc m) ≡ pow (P k).ops (pow (P k).ops a (k.size ^ m)) k.size
  iterate_step m a = ap (pow (P k).ops a) (pow-suc k.size m) ∙ pow_mul (P k) a (k.size ^ m) k.size

  iterate_one : (a : Polynomial k) → pow (P k).ops a (k.size ^ 0) ≡ a
  iterate_one a = ap (pow (P k).ops a) (pow-zero k.size) ∙ pow_one (P k) a

  iterate_add : (m : ℕ) (a b : Polynomial k)
      → pow (P k).ops (a ⊕ b) (k.size ^ m) ≡ pow (P k).ops a (k.size ^ m) ⊕ pow (P k).ops b (k.size ^ m)
  iterate_add zero a b = iterate_one (a ⊕ b) ∙ sym (ap₂ ◌⊕◌ (iterate_one a) (iterate_one b))
  iterate_add (suc m) a b =
      iterate_step m (a ⊕ b) ∙ ap (λ u. pow (P k).ops u k.size) (iterate_add m a b) ∙ power_add _ _
      ∙ sym (ap₂ ◌⊕◌ (iterate_step m a) (iterate_step m b))

  iterate_constant : (m c : ℕ) → pow (P k).ops (constant_poly k c) (k.size ^ m) ≡ constant_poly k c
  iterate_constant zero c = iterate_one (constant_poly k c)
  iterate_constant (suc m) c =
      iterate_step m (constant_poly k c) ∙ ap (λ u. pow (P k).ops u k.size) (iterate_constant m c) ∙ power_constant c

  positive : (m : ℕ) → 1 ≤ k.size ^ m
  positive zero = rw (pow-zero k.size) (omega arith)
  positive (suc m) =
      let s : 0 < k.size = zero_in k in
      omega (arith, pow-suc k.size m, mul-le 1 1 (k.size ^ m) k.size (positive m) (omega (arith, s)))

  zero_power : (n : ℕ) → 1 ≤ n → pow (P k).ops 𝟘 n ≡ 𝟘
  zero_power zero some = absurd (omega (arith, some))
  zero_power (suc n) some = zero_mul (P k) _

  -- p(x^(q^m)) is p(x)^(q^m)
  pub power_value : (m : ℕ) (w : List ℕ)
      → value_at k w (pow (P k).ops (x_poly k) (k.size ^ m)) ≡ pow (P k).ops (value k w) (k.size ^ m)
  power_value m [] =
      sym (ap (λ u. pow (P k).ops u (k.size ^ m)) (value_nil k) ∙ zero_power (k.size ^ m) (positive m))
  power_value m (c ∷ w) =
      sym (ap (λ u. pow (P k).ops u (k.size ^ m)) (value_cons k c w)
      ∙ iterate_add m (constant_poly k c) (x_poly k ⊗ value k w)
      ∙ ap₂ ◌⊕◌ (iterate_constant m c)
      (mul_pow (P k) (x_poly k) (value k w) (k.size ^ m)
      ∙ ap (λ u. pow (P k).ops (x_poly k) (k.size ^ m) ⊗ u) (sym (power_value m w))))

  module _ (p : List ℕ) (p_in : IsOver k.ops p) (irreducible : IsIrreducibleList k.ops p) (j m : ℕ) (some : 1 ≤ j)
      (enough : j ≤ k.size ^ m) where
    abbrev pub Vanishes : List ℕ → Type 0
    Vanishes = VanishesAt k (pow (P k).ops (value k p) j) (pow (P k).ops (x_poly k) (k.size ^ m))

    vanishes : Vanishes p
    vanishes = (
      pow (P k).ops (value k p) (k.size ^ m - j),
      power_value m p ∙ ap (pow (P k).ops (value k p))
          (let e : k.size ^ m ≡ j + (k.size ^ m - j) = omega (arith, enough) in e)
          ∙ pow_add (P k) (value k p) j (k.size ^ m - j),
    )

    divides : (r : List ℕ) → Vanishes r
        → IsDivisorIn (P k).ops (value k p) (value k r)
    divides r (d, e) =
        power_divides k p p_in irreducible (k.size ^ m) (value k r)
        (divisor_trans (P k) (value k p) (pow (P k).ops (value k p) j) (pow (P k).ops (value k r) (k.size ^ m))
        (first j some)
        (d, sym (power_value m r) ∙ e))
      where
        first : (n : ℕ) → 1 ≤ n → IsDivisorIn (P k).ops (value k p) (pow (P k).ops (value k p) n)
        first zero some = absurd (omega (arith, some))
        first (suc n) some = (pow (P k).ops (value k p) n, refl)

    size_of : (w : List ℕ) → IsOver k.ops w → IsMonicList w → length (value k w).0 ≡ length w
    size_of w w_in monic = length_value k w w_in (monic_poly k w monic)

    p_size : length (value k p).0 ≡ length p
    p_size = size_of p p_in irreducible.monic

    monic_some : (w : List ℕ) → IsOver k.ops w → IsMonicList w → ¬ (value k w ≡ 𝟘)
    monic_some w w_in monic =
        let l = ap length monic.1 in
        let n = length_push monic.0 1 in
        some_of_long k (value k w) (omega (arith, size_of w w_in monic, l, n))

    longer : (w : List ℕ) → IsOver k.ops w → IsMonicList w
        → Vanishes w → length p ≤ length w
    longer w w_in monic h =
        omega (
          arith,
          p_size,
          size_of w w_in monic,
          divisor_length k (value k p) (value k w) (monic_some w w_in monic) (divides w h),
        )

    same : (r : List ℕ) → IsLeastMonic k Vanishes r → r ≡ p
    same r l =
        monic_unique k r p l.over p_in l.monic irreducible.monic (
          unit.0,
          sym ((P k).mul_one (value k p)) ∙ ap (λ u. value k p ⊗ u) (sym unit.1) ∙ sym ((P k).mul_assoc _ _ _)
              ∙ ap (λ u. u ⊗ unit.0) (sym d.1),
        )
        d
      where
        d : IsDivisorIn (P k).ops (value k p) (value k r)
        d = divides r l.has

        d_some : ¬ (d.0 ≡ 𝟘)
        d_some z = monic_some r l.over l.monic (d.1 ∙ ap (λ u. value k p ⊗ u) z ∙ mul_zero (P k) (value k p))

        unit : IsUnit (P k).ops d.0
        unit =
            short_unit k d.0
            (omega (
              arith,
              some_long k d.0 d_some,
              l.least p p_in irreducible.monic vanishes,
              p_size,
              size_of r l.over l.monic,
              ap (λ u. length u.0) d.1,
              length_product (code_ring k) (code_domain k) (value k p) d.0 (monic_some p p_in irreducible.monic) d_some,
            ))

    pub least_is : (r : List ℕ) → IsLeastMonic k Vanishes r ↔ (r ≡ p)
    least_is r = (
      same r,
      λ e.
          subst (IsLeastMonic k Vanishes) (sym e)
          (record { over = p_in; monic = irreducible.monic; has = vanishes; least = longer }),
    )
