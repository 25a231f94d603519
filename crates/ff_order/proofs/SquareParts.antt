-- In a factorisation the square of an irreducible polynomial divides the product where the exponent of that polynomial
-- is 2 or more.
use Rattle.std.proofs.Common.{◌≡◌, ◌⊎◌, ℕ, zero, suc, ◌<◌, ◌≤◌, List, [], ◌∷◌, length, get_or, inl, inr, refl, sym, ◌∙◌, ap, subst, arith, All}
use Rattle.std.proofs.lemmas.List.Elements.{All-head, All-tail}
use Rattle.ring_lemmas.specs.Ring.{CommRing, pow}
use Rattle.ring_lemmas.proofs.Ring.{mul_zero, mul_left_comm}
use Rattle.std.proofs.lemmas.List.{length-append}
use Rattle.ff_poly.proofs.Results.{product_of_nil}
use Rattle.linear_theory.specs.Euclidean.{IsDivisorIn}
use Rattle.linear_theory.proofs.Euclid.{OrderAt, order_at, order_unique, euclid}
use Rattle.ff_fields.specs.Field.{CodeField}
use Rattle.ff_fields.specs.Over.{IsOver}
use Rattle.ff_poly.specs.Words.{IsPoly, IsMonicList, IsIrreducibleList, DividesList, product_of}
use Rattle.ff_poly.specs.Value.{value, value_product, same_from_value}
use Rattle.ff_poly.specs.Polynomials.{Polynomial, polynomials, codes_of, numbers_discrete, value_one}
use Rattle.polynomial_theory.proofs.Division.{euclidean}
use Rattle.polynomial_theory.proofs.Irreducible.{irreducible}
use Rattle.ff_lattice.proofs.Elements.{divides_codes}
use Rattle.ff_lattice.proofs.Normal.{monic_poly}
use Rattle.ff_lattice.proofs.Scaled.{product_length, monic_factor}
use Rattle.value_theory.proofs.Bridge.{irreducible_value}

module _ (k : CodeField) where
  abbrev S : CommRing (Polynomial k)
  S = (polynomials k).ring

  -- an irreducible polynomial over the field, as a list of codes
  pub record IsPrime (q : List ℕ) : Type 0 where
    pub over : IsOver k.ops q
    pub irreducible : IsIrreducibleList k.ops q

  -- two of which one divides the other are the same
  divides_same : (p q : List ℕ) → IsPrime p → IsPrime q → IsDivisorIn (polynomials k).ops (value k p) (value k q)
      → p ≡ q
  divides_same p q p_prime q_prime d = by
      (cofactor_one m.quotient (monic_factor k p m.quotient p_prime.over p_poly p_prime.irreducible.monic m.quotient_in
      m.quotient_poly some (subst IsMonicList m.product q_prime.irreducible.monic)) short)
    where
      p_poly : IsPoly p
      p_poly = monic_poly p p_prime.irreducible.monic

      q_poly : IsPoly q
      q_poly = monic_poly q q_prime.irreducible.monic

      m : DividesList k.ops p q
      m = divides_codes k p q p_prime.over q_prime.over q_poly (record { quotient = d.0; is = d.1 })

      not_shorter : ¬ (length p < length q)
      not_shorter less = q_prime.irreducible.no_divisor p p_prime.over p_prime.irreducible.monic
          p_prime.irreducible.not_constant less m

      some : 0 < length m.quotient
      some = positive m.quotient (λ e.
          let l = q_prime.irreducible.not_constant in
          let n : length q ≡ 0 = ap length (m.product ∙ ap (product_of k.ops p) e ∙ product_of_nil k.ops p) in
          absurd (omega (arith, l, n)))
        where
          positive : (a : List ℕ) → ¬ (a ≡ []) → 0 < length a
          positive [] n = absurd (n refl)
          positive (x ∷ a) n = omega arith

      short : length m.quotient ≤ 1
      short =
          let l = product_length k p m.quotient p_prime.over p_poly m.quotient_in m.quotient_poly
          (let n = p_prime.irreducible.not_constant in omega arith) some in
          let e : length q ≡ length (product_of k.ops p m.quotient) = ap length m.product in
          let n : length q ≤ length p = not_less not_shorter in
          omega (arith, l, e, n)
        where
          not_less : ¬ (length p < length q) → length q ≤ length p
          not_less n = omega (arith, n)

      cofactor_one : (a : List ℕ) → IsMonicList a → length a ≤ 1 → a ≡ 1 ∷ []
      cofactor_one a ([], e) l = e
      cofactor_one a (x ∷ lower, e) l = absurd (omega (arith, ap length e, length-append lower (1 ∷ [])))

      by : m.quotient ≡ 1 ∷ [] → p ≡ q
      by one =
          same_from_value k p q p_prime.over q_prime.over p_poly q_poly
          (sym (ap (value k) (m.product ∙ ap (product_of k.ops p) one)
          ∙ value_product k p (1 ∷ []) p_prime.over (subst (IsOver k.ops) one m.quotient_in)
          ∙ ap ((polynomials k).◌⊗◌ (value k p)) (value_one k) ∙ S.mul_one (value k p)))

  -- the product of the powers of a list
  unfoldable pub product_of_powers : List (List ℕ × ℕ) → Polynomial k
  product_of_powers [] = (polynomials k).𝟙
  product_of_powers (f ∷ fs) = (polynomials k).◌⊗◌ (pow (polynomials k).ops (value k f.0) f.1) (product_of_powers fs)

  -- primes, none of which is q
  abbrev AreOther : List ℕ → List (List ℕ × ℕ) → Type 0
  AreOther q fs = All (λ f. IsPrime f.0 × ¬ (q ≡ f.0)) fs

  -- each is a prime, and different from those after it
  abbrev pub AreDifferent : List (List ℕ × ℕ) → Type 0
  AreDifferent [] = Unit {0}
  AreDifferent (f ∷ fs) = IsPrime f.0 × AreOther f.0 fs × AreDifferent fs

  module _ (q : List ℕ) (q_prime : IsPrime q) where
    abbrev Q : Polynomial k
    Q = value k q

    Q_irreducible : IsIrreducibleList k.ops (codes_of k (value k q))
    Q_irreducible = irreducible_value k q q_prime.over q_prime.irreducible

    abbrev Divisor : Polynomial k → Type 0
    Divisor a = IsDivisorIn (polynomials k).ops (value k q) a

    prime : (a b : Polynomial k) → Divisor ((polynomials k).◌⊗◌ a b) → Divisor a ⊎ Divisor b
    prime a b d = euclid (euclidean k) Q (irreducible k Q Q_irreducible) a b d

    -- it doesn't divide what has an inverse
    not_unit : (u v : Polynomial k) → (polynomials k).◌⊗◌ u v ≡ (polynomials k).𝟙 → ¬ Divisor u
    not_unit u v e d =
        (irreducible k Q Q_irreducible).nonunit
        ((polynomials k).◌⊗◌ d.0 v, sym (S.mul_assoc Q d.0 v) ∙ ap (λ x. (polynomials k).◌⊗◌ x v) (sym d.1) ∙ e)

    not_one : ¬ Divisor (polynomials k).𝟙
    not_one = not_unit (polynomials k).𝟙 (polynomials k).𝟙 (S.mul_one (polynomials k).𝟙)

    free_power : (p : List ℕ) → IsPrime p → ¬ (q ≡ p) → (e : ℕ) → ¬ Divisor (pow (polynomials k).ops (value k p) e)
    free_power p p_prime differ zero d = not_one d
    free_power p p_prime differ (suc e) d = go (prime (value k p) (pow (polynomials k).ops (value k p) e) d)
        (free_power p p_prime differ e)
      where
        go : Divisor (value k p) ⊎ Divisor (pow (polynomials k).ops (value k p) e)
            → ¬ Divisor (pow (polynomials k).ops (value k p) e) → ⊥
        go (inl h) n = differ (divides_same q p q_prime p_prime h)
        go (inr h) n = n h

    free_product : (fs : List (List ℕ × ℕ)) → AreOther q fs → ¬ Divisor (product_of_powers fs)
    unfolding product_of_powers
    free_product [] others d = not_one d
    free_product (f ∷ fs) others d = go (prime (pow (polynomials k).ops (value k f.0) f.1) (product_of_powers fs) d)
        (free_product fs (All-tail Other f fs others))
      where
        Other : List ℕ × ℕ → Type 0
        Other g = IsPrime g.0 × ¬ (q ≡ g.0)

        go : Divisor (pow (polynomials k).ops (value k f.0) f.1) ⊎ Divisor (product_of_powers fs)
            → ¬ Divisor (product_of_powers fs) → ⊥
        go (inl h) n = let o = All-head (λ (g : List ℕ × ℕ). IsPrime g.0 × ¬ (q ≡ g.0)) f fs others in free_power f.0
            o.0 o.1 f.1 h
        go (inr h) n = n h

    -- how often it divides the product of the powers
    record HasOrder (fs : List (List ℕ × ℕ)) : Type 0 where
      pub order : ℕ
      pub cofactor : Polynomial k
      pub is : product_of_powers fs ≡ (polynomials k).◌⊗◌ (pow (polynomials k).ops (value k q) order) cofactor
      pub free : ¬ IsDivisorIn (polynomials k).ops (value k q) cofactor
      pub part : (order ≡ 0) ⊎ ((i : ℕ) × (i < length fs) × (get_or fs i ([], 0) ≡ (q, order)))

    orders : (fs : List (List ℕ × ℕ)) → AreDifferent fs → HasOrder fs
    unfolding product_of_powers
    orders [] h = record {
      order = 0;
      cofactor = (polynomials k).𝟙;
      is = sym (S.mul_one (polynomials k).𝟙);
      free =
          not_one;
      part = inl refl;
    }
    orders (f ∷ fs) h = go (numbers_discrete q f.0) (orders fs h.2)
      where
        go : Dec (q ≡ f.0) → HasOrder fs → HasOrder (f ∷ fs)
        go (yes e) r = record {
          order = f.1;
          cofactor = product_of_powers fs;
          is = ap (λ p. (polynomials k).◌⊗◌ (pow (polynomials k).ops (value k p) f.1) (product_of_powers fs)) (sym e);
          free = free_product fs (subst (λ p. AreOther p fs) (sym e) h.1);
          part = inr (0, omega arith, ap (λ (p : List ℕ). (p, f.1)) (sym e));
        }
        go (no n) r = record {
          order = r.order;
          cofactor = (polynomials k).◌⊗◌ (pow (polynomials k).ops (value k f.0) f.1) r.cofactor;
          is = ap ((polynomials k).◌⊗◌ (pow (polynomials k).ops (value k f.0) f.1)) r.is
              ∙ mul_left_comm S _ _ r.cofactor;
          free = λ d. by (prime (pow (polynomials k).ops (value k f.0) f.1) r.cofactor d);
          part = later r.part;
        }
          where
            by : Divisor (pow (polynomials k).ops (value k f.0) f.1) ⊎ Divisor r.cofactor → ⊥
            by (inl d) = free_power f.0 h.0 n f.1 d
            by (inr d) = r.free d

            later : (r.order ≡ 0) ⊎ ((i : ℕ) × (i < length fs) × (get_or fs i ([], 0) ≡ (q, r.order)))
                → (r.order ≡ 0) ⊎ ((i : ℕ) × (i < length (f ∷ fs)) × (get_or (f ∷ fs) i ([], 0) ≡ (q, r.order)))
            later (inl z) = inl z
            later (inr (i, l, m)) = inr (suc i, omega arith, m)

    -- where its square divides the product, it is a part with an exponent of 2 or more
    pub square_part : (u v d : Polynomial k) (fs : List (List ℕ × ℕ)) → AreDifferent fs
        → (polynomials k).◌⊗◌ u v ≡ (polynomials k).𝟙
        → d ≡ (polynomials k).◌⊗◌ u (product_of_powers fs) → ¬ (d ≡ (polynomials k).𝟘)
        → IsDivisorIn (polynomials k).ops ((polynomials k).◌⊗◌ (value k q) (value k q)) d
        → (i : ℕ) × (i < length fs) × ((get_or fs i ([], 0)).0 ≡ q) × (2 ≤ (get_or fs i ([], 0)).1)
    square_part u v d fs different unit d_is some (w, e) = go r.part
      where
        r : HasOrder fs
        r = orders fs different

        w_some : ¬ (w ≡ (polynomials k).𝟘)
        w_some z = some (e ∙ ap ((polynomials k).◌⊗◌ ((polynomials k).◌⊗◌ Q Q)) z ∙ mul_zero S _)

        o : OrderAt (euclidean k) Q (irreducible k Q Q_irreducible) w
        o = order_at (euclidean k) Q (irreducible k Q Q_irreducible) w w_some

        left : d ≡ (polynomials k).◌⊗◌ (pow (polynomials k).ops Q (suc (suc o.order))) o.cofactor
        left =
            e ∙ ap ((polynomials k).◌⊗◌ ((polynomials k).◌⊗◌ Q Q)) o.is ∙ sym (S.mul_assoc _ _ o.cofactor)
            ∙ ap (λ x. (polynomials k).◌⊗◌ x o.cofactor) (S.mul_assoc Q Q _)

        right : d ≡ (polynomials k).◌⊗◌ (pow (polynomials k).ops Q r.order) ((polynomials k).◌⊗◌ u r.cofactor)
        right = d_is ∙ ap ((polynomials k).◌⊗◌ u) r.is ∙ mul_left_comm S u _ r.cofactor

        free : ¬ Divisor ((polynomials k).◌⊗◌ u r.cofactor)
        free h = by (prime u r.cofactor h)
          where
            by : Divisor u ⊎ Divisor r.cofactor → ⊥
            by (inl h) = not_unit u v unit h
            by (inr h) = r.free h

        two : suc (suc o.order) ≡ r.order
        two =
            (order_unique (euclidean k) Q (irreducible k Q Q_irreducible) (suc (suc o.order)) r.order o.cofactor
            ((polynomials k).◌⊗◌ u r.cofactor) o.cofactor_free free
            (sym left ∙ right)).0

        go : (r.order ≡ 0) ⊎ ((i : ℕ) × (i < length fs) × (get_or fs i ([], 0) ≡ (q, r.order)))
            → (i : ℕ) × (i < length fs) × ((get_or fs i ([], 0)).0 ≡ q) × (2 ≤ (get_or fs i ([], 0)).1)
        go (inl z) = absurd (omega (arith, two, z))
        go (inr (i, l, m)) = (i, l, ap (λ f. f.0) m, subst (λ n. 2 ≤ n) (sym (ap (λ f. f.1) m)) (omega (arith, two)))
