-- A polynomial that no monic polynomial of smaller degree divides, but 1, is irreducible in the Euclidean ring k[x]: if
-- it divides a product it divides a factor.
use Rattle.std.proofs.Common.{◌≡◌, ℕ, suc, ◌<◌, ◌≤◌, ◌+◌, ◌-◌, ◌⊎◌, inl, inr, List, [], ◌∷◌, ◌++◌, length, refl, sym, ◌∙◌, ap, subst, arith}
use Rattle.std.proofs.lemmas.List.{length-map, map-append}
use Rattle.ring_lemmas.specs.Lists.{coeff_of}
use Rattle.ring_lemmas.proofs.Ring.{mul_zero, zero_mul, mul_mul}
use Rattle.ring_lemmas.proofs.Sequences.{convolution_constant_left}
use Rattle.ring_lemmas.specs.Polynomials.{constant}
use Rattle.ring_theory.proofs.Evaluate.{constant_hom}
use Rattle.ring_lemmas.proofs.Lists.{coeff_trim}
use Rattle.ring_lemmas.proofs.Polynomials.{series_mul}
use Rattle.ring_theory.proofs.Polynomials.{length_product}
use Rattle.linear_theory.specs.Euclidean.{IsDivisorIn, IsUnit, Bezout, IsIrreducible}
use Rattle.linear_theory.proofs.Euclid.{euclid, decide_divisor, bezout}
use Rattle.ff_fields.specs.Field.{CodeField}
use Rattle.ff_fields.specs.Code.{Code, code_ring, code_field, code_domain}
use Rattle.ff_fields.specs.Numbers.{numbers}
use Rattle.ff_poly.specs.Words.{IsIrreducibleList, IsMonicList}
use Rattle.ff_fields.specs.Over.{IsOver}
use Rattle.ff_poly.specs.Value.{value, numbers_value}
use Rattle.ff_poly.specs.Polynomials.{Polynomial, polynomials, polynomials_domain, polynomial_discrete, codes_of, IsOver_codes_of, IsPoly_codes_of, codes_of_product, value_codes_of}
use Rattle.polynomial_theory.proofs.Lengths.{some_long, some_of_long, one_or_more}
use Rattle.polynomial_theory.proofs.ListValues.{monic_poly}
use Rattle.polynomial_theory.proofs.Division.{top_not_zero, euclidean, divide}

-- a list is its last member and what is before it
last_of : {A : Type 0} (f : List A → ℕ → A) → ((x : A) (xs : List A) → f (x ∷ xs) 0 ≡ x)
    → ((x : A) (xs : List A) (n : ℕ) → f (x ∷ xs) (suc n) ≡ f xs n)
    → (xs : List A) → 0 < length xs → (init : List A) × (xs ≡ init ++ f xs (length xs - 1) ∷ [])
last_of f first next [] l = absurd (omega arith)
last_of f first next (x ∷ []) l = ([], ap (λ y. y ∷ []) (sym (first x [])))
last_of f first next (x ∷ y ∷ xs) l =
    let r = last_of f first next (y ∷ xs) (omega arith) in (
      x ∷ r.0,
      ap (λ ys. x ∷ ys)
          (r.1 ∙ ap (λ z. r.0 ++ z ∷ [])
          (sym (next x (y ∷ xs) (length (y ∷ xs) - 1))
          ∙ ap (f (x ∷ y ∷ xs)) (let q : suc (length (y ∷ xs) - 1) ≡ length (x ∷ y ∷ xs) - 1 = omega arith in q))),
    )

module _ (k : CodeField) where
  infixl 70 ◌⊗◌
  open polynomials k use {𝟘, 𝟙, ◌⊗◌}

  pub length_codes : (a : Polynomial k) → length (codes_of k a) ≡ length a.0
  length_codes a = length-map a.0 (λ x. x.0)

  -- the coefficient on top
  abbrev top_of : Polynomial k → Code k
  top_of a = coeff_of (code_ring k).ops a.0 (length a.0 - 1)

  monic_codes : (a : Polynomial k) → 0 < length a.0 → top_of a ≡ (code_ring k).𝟙 → IsMonicList (codes_of k a)
  monic_codes a l e =
      let r = last_of (coeff_of (code_ring k).ops) (λ x xs. refl) (λ x xs n. refl) a.0 l in (
        numbers k r.0,
        ap (numbers k) (r.1 ∙ ap (λ x. r.0 ++ x ∷ []) e)
            ∙ map-append (λ x. x.0) r.0 ((code_ring k).𝟙 ∷ []),
      )

  -- a multiple by a code
  pub constant_times : (u : Code k) (a : Polynomial k) (n : ℕ)
      → coeff_of (code_ring k).ops (constant (code_ring k) u ⊗ a).0 n
      ≡ (code_ring k).◌⊗◌ u (coeff_of (code_ring k).ops a.0 n)
  constant_times u a n =
      series_mul (code_ring k) (constant (code_ring k) u) a n
      ∙ convolution_constant_left (code_ring k).ring _ (coeff_of (code_ring k).ops a.0)
      (λ i. coeff_trim (code_ring k) (u ∷ []) (suc i)) n
      ∙ ap (λ c. (code_ring k).◌⊗◌ c (coeff_of (code_ring k).ops a.0 n)) (coeff_trim (code_ring k) (u ∷ []) 0)

  unit_some : (u v : Code k) → (code_ring k).◌⊗◌ u v ≡ (code_ring k).𝟙
      → constant (code_ring k) u ⊗ constant (code_ring k) v ≡ 𝟙
  unit_some u v e = sym ((constant_hom (code_ring k)).mul u v) ∙ ap (constant (code_ring k)) e
      ∙ (constant_hom (code_ring k)).𝟙

  -- units have one coefficient
  pub unit_length : (a b : Polynomial k) → a ⊗ b ≡ 𝟙 → length a.0 ≡ 1
  unit_length a b e = go (length_product (code_ring k) (code_domain k) 𝟙 𝟙 (polynomials_domain k).one_not_zero
      (polynomials_domain k).one_not_zero)
    where
      a_some : ¬ (a ≡ 𝟘)
      a_some z = (polynomials_domain k).one_not_zero (sym e ∙ ap (λ x. x ⊗ b) z ∙ zero_mul (polynomials k).ring b)

      b_some : ¬ (b ≡ 𝟘)
      b_some z = (polynomials_domain k).one_not_zero (sym e ∙ ap (λ x. a ⊗ x) z ∙ mul_zero (polynomials k).ring a)

      go : suc (length (𝟙 ⊗ 𝟙).0) ≡ length 𝟙.0 + length 𝟙.0 → length a.0 ≡ 1
      go f =
          let g : length (𝟙 ⊗ 𝟙).0 ≡ length 𝟙.0 = ap (λ p. length p.0) ((polynomials k).mul_one 𝟙) in
          let h : length (a ⊗ b).0 ≡ length 𝟙.0 = ap (λ p. length p.0) e in
          omega (
            arith,
            some_long k a a_some,
            some_long k b b_some,
            length_product (code_ring k) (code_domain k) a b
                a_some b_some,
          )

  pub short_unit : (d : Polynomial k) → length d.0 ≡ 1 → IsUnit (polynomials k).ops d
  short_unit d l =
      let r = divide k 𝟙 d (some_of_long k d (omega arith)) in
      let s = r.shorter in
      let null : r.rest ≡ 𝟘 = empty (polynomial_discrete k r.rest 𝟘) (omega arith) in
      (r.quotient, sym (r.is ∙ ap ((polynomials k).◌⊕◌ (d ⊗ r.quotient)) null ∙ (polynomials k).add_zero _))
    where
      empty : {a : Polynomial k} → Dec (a ≡ 𝟘) → length a.0 ≤ 0 → a ≡ 𝟘
      empty (yes e) l = e
      empty {a} (no n) l = absurd (omega (arith, some_long k a n))

  -- what makes a polynomial monic
  pub record MadeMonic (d : Polynomial k) : Type 0 where
    pub codes : List ℕ
    pub over : IsOver k.ops codes
    pub monic : IsMonicList codes
    pub length_is : length codes ≡ length d.0
    pub factor : Polynomial k
    pub is : value k codes ≡ factor ⊗ d
    pub inverse : Polynomial k
    pub inverts : inverse ⊗ factor ≡ 𝟙

  pub made_monic : (d : Polynomial k) → ¬ (d ≡ 𝟘) → MadeMonic d
  made_monic d d_some =
      let u = inverse.0 in
      let U = constant (code_ring k) u in
      let T = constant (code_ring k) (top_of d) in
      let one : T ⊗ U ≡ 𝟙 = unit_some (top_of d) u inverse.1 in
      let U_long = unit_length U T ((polynomials k).mul_comm U T ∙ one) in
      let m = U ⊗ d in
      let m_long : length m.0 ≡ length d.0
      = omega (arith, U_long, length_product (code_ring k) (code_domain k) U d (some_of_long k U (omega arith)) d_some)
      in
      let top_one : top_of m ≡ (code_ring k).𝟙
      = ap (λ n. coeff_of (code_ring k).ops m.0 (n - 1)) m_long ∙ constant_times u d (length d.0 - 1)
      ∙ (code_ring k).mul_comm _ _ ∙ inverse.1 in
      record {
        codes = codes_of k m;
        over = IsOver_codes_of k m;
        monic = monic_codes m (omega (arith, m_long, some_long k d d_some)) top_one;
        length_is = length_codes m ∙ m_long;
        factor = U;
        is = value_codes_of k m;
        inverse = T;
        inverts = one;
      }
    where
      inverse : (u : Code k) × ((code_ring k).◌⊗◌ (top_of d) u ≡ (code_ring k).𝟙)
      inverse = (code_field k).inverse (top_of d) (top_not_zero k d (some_long k d d_some))

  module _ (p : Polynomial k) (h : IsIrreducibleList k.ops (codes_of k p)) where
    p_long : 2 ≤ length p.0
    p_long = subst (λ n. 2 ≤ n) (length_codes p) h.not_constant

    p_some : ¬ (p ≡ 𝟘)
    p_some = let l = p_long in some_of_long k p (omega arith)

    -- a divisor of smaller degree has degree 0
    smaller_divisor : (d : Polynomial k) → IsDivisorIn (polynomials k).ops d p → length d.0 < length p.0
        → IsUnit (polynomials k).ops d
    smaller_divisor d (e, is) short = go (one_or_more (length d.0) (some_long k d d_some))
      where
        d_some : ¬ (d ≡ 𝟘)
        d_some z = p_some (is ∙ ap (λ x. x ⊗ e) z ∙ zero_mul (polynomials k).ring e)

        t : Code k
        t = top_of d

        inverse : (u : Code k) × ((code_ring k).◌⊗◌ (top_of d) u ≡ (code_ring k).𝟙)
        inverse = (code_field k).inverse (top_of d) (top_not_zero k d (some_long k d d_some))

        go : (length d.0 ≡ 1) ⊎ (2 ≤ length d.0) → IsUnit (polynomials k).ops d
        go (inl l) = short_unit d l
        go (inr l) =
            let u = inverse.0 in
            let U = constant (code_ring k) u in
            let T = constant (code_ring k) (top_of d) in
            let one : U ⊗ T ≡ 𝟙 = unit_some u (top_of d) ((code_ring k).mul_comm _ _ ∙ inverse.1) in
            let U_long = unit_length U T one in
            let m = U ⊗ d in
            let m_long : length m.0 ≡ length d.0
            = omega (
              arith,
              U_long,
              length_product (code_ring k) (code_domain k) U d (some_of_long k U (omega arith))
                  d_some,
            ) in
            let top_one : top_of m ≡ (code_ring k).𝟙
            = ap (λ n. coeff_of (code_ring k).ops m.0 (n - 1)) m_long ∙ constant_times u d (length d.0 - 1)
            ∙ (code_ring k).mul_comm _ _ ∙ inverse.1 in
            let whole : p ≡ m ⊗ (T ⊗ e)
            = is ∙ sym ((polynomials k).mul_comm 𝟙 (d ⊗ e) ∙ (polynomials k).mul_one (d ⊗ e))
            ∙ ap (λ x. x ⊗ (d ⊗ e)) (sym one) ∙ mul_mul (polynomials k).ring U T d e in
            absurd
            (h.no_divisor (codes_of k m) (IsOver_codes_of k m) (monic_codes m (omega arith) top_one)
            (subst (λ n. 2 ≤ n) (sym (length_codes m ∙ m_long)) l)
            (let a = length_codes m in let b = length_codes p in omega arith)
            (record {
              quotient = codes_of k (T ⊗ e);
              quotient_in = IsOver_codes_of k (T ⊗ e);
              quotient_poly = IsPoly_codes_of k (T ⊗ e);
              product = ap (codes_of k) whole ∙ codes_of_product k m (T ⊗ e);
            }))

    pub irreducible : IsIrreducible (euclidean k) p
    irreducible = record {
      nonzero = p_some;
      nonunit = λ u. let l = unit_length p u.0 u.1 in let m = p_long in absurd (omega arith);
      smaller_divisors = smaller_divisor;
    }

    pub decide_divides : (a : Polynomial k) → Dec (IsDivisorIn (polynomials k).ops p a)
    decide_divides a = decide_divisor (euclidean k) p a p_some

    -- it divides a factor of a product that it divides
    pub prime : (a b : Polynomial k) → IsDivisorIn (polynomials k).ops p (a ⊗ b)
        → IsDivisorIn (polynomials k).ops p a ⊎ IsDivisorIn (polynomials k).ops p b
    prime a b d = euclid (euclidean k) p irreducible a b d

    pub irreducible_some : ¬ (p ≡ 𝟘)
    irreducible_some = p_some

  -- the same for a list of codes
  module _ (p : List ℕ) (p_in : IsOver k.ops p) (h : IsIrreducibleList k.ops p) where
    codes : IsIrreducibleList k.ops (codes_of k (value k p))
    codes = subst (IsIrreducibleList k.ops) (sym (numbers_value k p p_in (monic_poly k p h.monic))) h

    pub irreducible_list : IsIrreducible (euclidean k) (value k p)
    irreducible_list = irreducible (value k p) codes

    pub prime_list : (a b : Polynomial k) → IsDivisorIn (polynomials k).ops (value k p) (a ⊗ b)
        → IsDivisorIn (polynomials k).ops (value k p) a ⊎ IsDivisorIn (polynomials k).ops (value k p) b
    prime_list = prime (value k p) codes

    -- what it doesn't divide has an inverse modulo it
    pub inverse_modulo : (a : Polynomial k) → ¬ IsDivisorIn (polynomials k).ops (value k p) a
        → Bezout (polynomials k).ops a (value k p)
    inverse_modulo a n = bezout (euclidean k) (value k p) irreducible_list a n
