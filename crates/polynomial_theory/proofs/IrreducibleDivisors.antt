-- Each polynomial that isn't constant has an irreducible divisor, and irreducible polynomials that divide each other
-- are the same.
use Rattle.std.proofs.Common.{◌≡◌, ℕ, zero, suc, ◌-◌, ◌<◌, ◌≤◌, ◌⊎◌, inl, inr, List, [], ◌∷◌, ◌++◌, length, refl, sym, ap, ◌∙◌, subst, arith}
use Rattle.std.proofs.lemmas.List.{length-map, length_push}
use Rattle.ring_theory.specs.Members.{In}
use Rattle.ring_lemmas.specs.Ring.{CommRing}
use Rattle.ring_lemmas.proofs.Ring.{mul_zero}
use Rattle.ring_theory.proofs.Polynomials.{length_product}
use Rattle.ff_fields.specs.Field.{CodeField}
use Rattle.ff_fields.specs.Code.{Code, code_ring, code_domain}
use Rattle.ff_fields.specs.Numbers.{numbers, read, numbers_read, IsOver_numbers}
use Rattle.ff_fields.specs.Over.{IsOver, IsOver_nil, IsOver_cons, IsOver_head, IsOver_tail, IsOver_append}
use Rattle.linear_theory.specs.Euclidean.{IsDivisorIn, IsUnit}
use Rattle.linear_theory.proofs.Euclid.{divisor_trans, decide_divisor}
use Rattle.ff_poly.specs.Words.{IsMonicList, IsIrreducibleList, DividesList}
use Rattle.ff_poly.specs.Value.{value}
use Rattle.ff_poly.specs.Polynomials.{Polynomial, polynomials}
use Rattle.polynomial_theory.proofs.ListValues.{length_value, monic_poly}
use Rattle.polynomial_theory.proofs.Division.{euclidean}
use Rattle.polynomial_theory.proofs.Irreducible.{MadeMonic, made_monic, irreducible_list}
use Rattle.polynomial_theory.proofs.Divisors.{some_value, divisor_of_divides, monic_unique}
use Rattle.polynomial_theory.proofs.CodeFields.{code_finite}

-- whether some member of a list has a property
some_in : {A : Type 0} (P : A → Type 0) → ((a : A) → Dec (P a)) → (xs : List A) → Dec ((a : A) × In a xs × P a)
some_in {A = A} P decide [] = no (λ s. s.1)
some_in {A = A} P decide (x ∷ xs) = go (decide x) (some_in P decide xs)
  where
    go : Dec (P x) → Dec ((a : A) × In a xs × P a) → Dec ((a : A) × In a (x ∷ xs) × P a)
    go (yes h) rest = yes (x, inl refl, h)
    go (no n) (yes s) = yes (s.0, inr s.1, s.2)
    go (no n) (no none) = no neither
      where
        neither : ((a : A) × In a (x ∷ xs) × P a) → ⊥
        neither (a, inl e, h) = n (subst P e h)
        neither (a, inr i, h) = none (a, i, h)

module _ (k : CodeField) where
  infixl 70 ◌⊗◌
  open polynomials k use {𝟘, 𝟙, ◌⊗◌}

  abbrev R : CommRing (Polynomial k)
  R = (polynomials k).ring

  some_code : (P : Code k → Type 0) → ((a : Code k) → Dec (P a)) → Dec ((a : Code k) × P a)
  some_code P decide = go (some_in P decide (code_finite k).codes)
    where
      go : Dec ((a : Code k) × In a (code_finite k).codes × P a) → Dec ((a : Code k) × P a)
      go (yes s) = yes (s.0, s.2)
      go (no none) = no (λ s. none (s.0, (code_finite k).codes_all s.0, s.1))

  -- whether some list of n elements has a property
  some_list : (n : ℕ) (P : List (Code k) → Type 0) → ((xs : List (Code k)) → Dec (P xs))
      → Dec ((xs : List (Code k)) × (length xs ≡ n) × P xs)
  some_list zero P decide = go (decide [])
    where
      go : Dec (P []) → Dec ((xs : List (Code k)) × (length xs ≡ 0) × P xs)
      go (yes h) = yes ([], refl, h)
      go (no n) = no none
        where
          none : ((xs : List (Code k)) × (length xs ≡ 0) × P xs) → ⊥
          none ([], e, h) = n h
          none ((x ∷ xs), e, h) = absurd (omega arith)
  some_list (suc n) P decide = go (some_code (λ a. (xs : List (Code k)) × (length xs ≡ n) × P (a ∷ xs))
      (λ a. some_list n (λ xs. P (a ∷ xs)) (λ xs. decide (a ∷ xs))))
    where
      go : Dec ((a : Code k) × ((xs : List (Code k)) × (length xs ≡ n) × P (a ∷ xs)))
          → Dec ((xs : List (Code k)) × (length xs ≡ suc n) × P xs)
      go (yes s) = yes (s.0 ∷ s.1.0, ap suc s.1.1, s.1.2)
      go (no not) = no none
        where
          none : ((xs : List (Code k)) × (length xs ≡ suc n) × P xs) → ⊥
          none ([], e, h) = absurd (omega arith)
          none ((x ∷ xs), e, h) = not (x, (xs, let q : length xs ≡ n = omega arith in q, h))

  -- a monic divisor of degree n
  pub record MonicDivisor (n : ℕ) (d : Polynomial k) : Type 0 where
    pub codes : List ℕ
    pub over : IsOver k.ops codes
    pub monic : IsMonicList codes
    pub size : length codes ≡ suc n
    pub divides : IsDivisorIn R.ops (value k codes) d

  monic_some : (b : List ℕ) → IsOver k.ops b → IsMonicList b → ¬ (value k b ≡ 𝟘)
  monic_some b b_in m = some_value k b b_in (monic_poly k b m)
      (let l = ap length m.1 in let e = length_push m.0 1 in omega arith)

  monic_of : List (Code k) → List ℕ
  monic_of xs = numbers k xs ++ 1 ∷ []

  over_of : (xs : List (Code k)) → IsOver k.ops (monic_of xs)
  unfolding monic_of
  over_of xs = IsOver_append (IsOver_numbers k xs) (IsOver_cons k.laws.one_below IsOver_nil)

  decide_monic : (n : ℕ) (d : Polynomial k) → Dec (MonicDivisor n d)
  unfolding monic_of
  decide_monic n d = go (some_list n (λ xs. IsDivisorIn R.ops (value k (monic_of xs)) d) decide)
    where
      decide : (xs : List (Code k)) → Dec (IsDivisorIn R.ops (value k (monic_of xs)) d)
      decide xs = decide_divisor (euclidean k) (value k (monic_of xs)) d
          (monic_some (monic_of xs) (over_of xs) (numbers k xs, refl))

      go : Dec ((xs : List (Code k)) × (length xs ≡ n) × IsDivisorIn R.ops (value k (monic_of xs)) d)
          → Dec (MonicDivisor n d)
      go (yes s) = yes (record {
        codes = monic_of s.0;
        over = over_of s.0;
        monic = (numbers k s.0, refl);
        size = let a = length_push (numbers k s.0) 1 in let b = length-map s.0 (λ x. x.0) in let c = s.1 in omega arith;
        divides = s.2;
      })
      go (no none) = no none'
        where
          none' : MonicDivisor n d → ⊥
          none' m =
              let low = m.monic.0 in
              let low_in : IsOver k.ops low = lower_over low (subst (IsOver k.ops) m.monic.1 m.over) in
              let same : monic_of (read k low) ≡ m.codes = ap (λ ns. ns ++ 1 ∷ []) (numbers_read k low low_in)
              ∙ sym m.monic.1 in
              none (
                read k low,
                let a = length-map (read k low) (λ x. x.0) in let b = ap length (numbers_read k low low_in) in let
                    c = ap length m.monic.1 in
                    let e = length_push low 1 in let f = m.size in omega arith,
                subst (λ b. IsDivisorIn R.ops (value k b) d) (sym same) m.divides,
              )
            where
              lower_over : (low : List ℕ) → IsOver k.ops (low ++ 1 ∷ []) → IsOver k.ops low
              lower_over [] h = IsOver_nil
              lower_over (x ∷ low) h = IsOver_cons (IsOver_head h) (lower_over low (IsOver_tail h))

  -- a monic divisor of degree 1 or more and below n
  SmallDivisor : ℕ → Polynomial k → Type 0
  SmallDivisor n d = (m : ℕ) × (1 ≤ m) × (m < n) × MonicDivisor m d

  decide_small : (n : ℕ) (d : Polynomial k) → Dec (SmallDivisor n d)
  unfolding SmallDivisor
  decide_small zero d = no none
    where
      none : SmallDivisor zero d → ⊥
      none s = absurd (let l = s.2 in omega arith)
  decide_small (suc n) d = go (decide_small n d) (decide_monic n d) (zero_or_more n)
    where
      zero_or_more : (n : ℕ) → (n ≡ 0) ⊎ (1 ≤ n)
      zero_or_more n = grind arith

      equal_or_less : (m n : ℕ) → m < suc n → (m ≡ n) ⊎ (m < n)
      equal_or_less m n l = grind arith

      go : Dec (SmallDivisor n d) → Dec (MonicDivisor n d) → (n ≡ 0) ⊎ (1 ≤ n) → Dec (SmallDivisor (suc n) d)
      go (yes s) other size = yes (s.0, s.1, let l = s.2 in omega arith, s.3)
      go (no none) (yes m) (inr l) = yes (n, l, omega arith, m)
      go (no none) (yes m) (inl e) = no none'
        where
          none' : SmallDivisor (suc n) d → ⊥
          none' s = let a = s.1 in let b = s.2 in absurd (omega arith)
      go (no none) (no not) size = no none'
        where
          none' : SmallDivisor (suc n) d → ⊥
          none' s = go' (equal_or_less s.0 n s.2)
            where
              go' : (s.0 ≡ n) ⊎ (s.0 < n) → ⊥
              go' (inl e) = not (subst (λ m. MonicDivisor m d) e s.3)
              go' (inr l) = none (s.0, s.1, l, s.3)

  pub record IrreducibleDivisor (d : Polynomial k) : Type 0 where
    pub codes : List ℕ
    pub over : IsOver k.ops codes
    pub irreducible : IsIrreducibleList k.ops codes
    pub divides : IsDivisorIn R.ops (value k codes) d

  pub irreducible_divisor : (n : ℕ) (d : Polynomial k) → 2 ≤ length d.0 → length d.0 < n → ¬ (d ≡ 𝟘)
      → IrreducibleDivisor d
  unfolding SmallDivisor
  irreducible_divisor zero d long short some = absurd (omega arith)
  irreducible_divisor (suc n) d long short some = go (decide_small (length d.0 - 1) d) (irreducible_divisor n)
    where
      go : Dec (SmallDivisor (length d.0 - 1) d)
          → ((d : Polynomial k) → 2 ≤ length d.0 → length d.0 < n → ¬ (d ≡ 𝟘) → IrreducibleDivisor d)
          → IrreducibleDivisor d
      go (yes s) smaller = record {
        codes = r.codes;
        over = r.over;
        irreducible = r.irreducible;
        divides = divisor_trans
            R (value k r.codes) (value k m.codes) d r.divides m.divides;
      }
        where
          m : MonicDivisor s.0 d
          m = s.3

          size : length (value k m.codes).0 ≡ suc s.0
          size = length_value k m.codes m.over (monic_poly k m.codes m.monic) ∙ m.size

          r : IrreducibleDivisor (value k m.codes)
          r =
              let a = s.1 in let b = s.2 in
              smaller (value k m.codes) (omega (arith, size)) (omega (arith, size)) (monic_some m.codes m.over m.monic)
      go (no none) smaller = record {
        codes = m.codes;
        over = m.over;
        irreducible = record {
          monic = m.monic;
          not_constant = let e = m.length_is in omega arith;
          no_divisor =
              no_divisor;
        };
        divides = divides;
      }
        where
          m : MadeMonic k d
          m = made_monic k d some

          divides : IsDivisorIn R.ops (value k m.codes) d
          divides = (
            m.inverse,
            sym (R.mul_one d) ∙ R.mul_comm d 𝟙 ∙ ap (λ w. w ⊗ d) (sym m.inverts)
                ∙ R.mul_assoc m.inverse m.factor d ∙ ap (λ w. m.inverse ⊗ w) (sym m.is)
                ∙ R.mul_comm m.inverse (value k m.codes),
          )

          no_divisor : (b : List ℕ) → IsOver k.ops b → IsMonicList b → 2 ≤ length b → length b < length m.codes
              → ¬ DividesList k.ops b m.codes
          no_divisor b b_in b_monic b_long b_short h =
              none (
                length b - 1,
                omega arith,
                let e = m.length_is in omega arith,
                record {
                  codes = b;
                  over = b_in;
                  monic = b_monic;
                  size = omega arith;
                  divides = divisor_trans R (value k b) (value k m.codes) d
                      (value k h.quotient, divisor_of_divides k b m.codes b_in h) divides;
                },
              )

  -- an irreducible polynomial that divides another one is that one
  pub irreducible_unique : (p q : List ℕ) → IsOver k.ops p → IsIrreducibleList k.ops p → IsOver k.ops q
      → IsIrreducibleList k.ops q → IsDivisorIn R.ops (value k p) (value k q) → p ≡ q
  irreducible_unique p q p_in p_irreducible q_in q_irreducible d =
      monic_unique k p q p_in q_in p_irreducible.monic q_irreducible.monic d (
        cofactor.0,
        sym (R.mul_one (value k p)) ∙ ap (λ x. value k p ⊗ x) (sym cofactor.1)
            ∙ sym (R.mul_assoc (value k p) d.0 cofactor.0) ∙ ap (λ x. x ⊗ cofactor.0) (sym d.1),
      )
    where
      d_some : ¬ (d.0 ≡ 𝟘)
      d_some z = monic_some q q_in q_irreducible.monic (d.1 ∙ ap (λ x. value k p ⊗ x) z ∙ mul_zero R (value k p))

      cofactor : IsUnit R.ops d.0
      cofactor =
          (irreducible_list k q q_in q_irreducible).smaller_divisors d.0 (value k p, d.1 ∙ R.mul_comm (value k p) d.0)
          (let l = p_irreducible.not_constant in
          let m : length (value k q).0 ≡ length (value k p ⊗ d.0).0 = ap (λ x. length x.0) d.1 in
          omega (
            arith,
            length_product (code_ring k) (code_domain k) (value k p) d.0 (monic_some p p_in p_irreducible.monic) d_some,
            length_value k p p_in (monic_poly k p p_irreducible.monic),
          ))
