-- The polynomials that take a primitive idempotent of k[x] modulo g to 0 are the multiples of a power of one
-- irreducible polynomial.
use Rattle.std.proofs.Common.{◌≡◌, ◌↔◌, ℕ, zero, suc, ◌<◌, ◌≤◌, ◌+◌, ◌⊎◌, inl, inr, List, [], ◌∷◌, length, refl, sym, ◌∙◌, ap, subst, arith}
use Rattle.std.proofs.lemmas.List.{length_push}
use Rattle.ring_lemmas.specs.Ring.{CommRing, pow}
use Rattle.ring_lemmas.specs.Congruence.{IsCongruent}
use Rattle.ring_lemmas.proofs.Ring.{zero_add, one_mul, mul_pow}
use Rattle.ring_lemmas.proofs.Congruence.{congruent_same, congruent_trans, congruent_mul_left}
use Rattle.ring_lemmas.proofs.Solver.{ring, reads, from_one, from_two, from_three}
use Rattle.linear_theory.specs.Euclidean.{IsDivisorIn, IsUnit, Bezout, IsIrreducible}
use Rattle.linear_theory.proofs.Euclid.{bezout_with_power, OrderAt, order_at, ideal_generator, divisor_trans}
use Rattle.ff_fields.specs.Field.{CodeField}
use Rattle.ff_fields.specs.Over.{IsOver, IsOver_cons, IsOver_nil}
use Rattle.ff_poly.specs.Words.{IsMonicList, IsIrreducibleList}
use Rattle.ff_poly.specs.Value.{value, numbers_value}
use Rattle.ff_poly.specs.Polynomials.{Polynomial, polynomials, codes_of, IsOver_codes_of, codes_of_product, value_codes_of, value_one}
use Rattle.ff_poly.proofs.Parts.{IsMonic_product}
use Rattle.polynomial_theory.specs.Laws.{IsLeastMonic, IsPrimitiveModulo, Kills, BelongsTo, IsPrimePower}
use Rattle.polynomial_theory.proofs.Lengths.{some_of_long}
use Rattle.polynomial_theory.proofs.ListValues.{length_value, monic_poly}
use Rattle.polynomial_theory.proofs.Division.{euclidean}
use Rattle.polynomial_theory.proofs.Divisors.{monic_unique}
use Rattle.polynomial_theory.proofs.Irreducible.{made_monic, short_unit, irreducible_list, prime_list}
use Rattle.polynomial_theory.proofs.IrreducibleDivisors.{IrreducibleDivisor, irreducible_divisor}

-- in any ring, modulo g: e is an idempotent, r·w times e is 0, and b·w + a·r is 1
module _ {A : Type 0} (R : CommRing A) (g e r w a b s t : A) where
  infixl 65 ◌⊕◌
  infixl 70 ◌⊗◌
  infixr 80 ⊖◌
  open R use {𝟘, 𝟙, ◌⊕◌, ◌⊗◌, ⊖◌}

  part_idempotent : e ⊗ e ≡ e ⊕ g ⊗ s → r ⊗ w ⊗ e ≡ g ⊗ t → b ⊗ w ⊕ a ⊗ r ≡ 𝟙
      → b ⊗ w ⊗ e ⊗ (b ⊗ w ⊗ e) ≡ b ⊗ w ⊗ e ⊕ g ⊗ (b ⊗ b ⊗ w ⊗ w ⊗ s ⊕ ⊖ (a ⊗ b ⊗ t))
  part_idempotent f h i =
      from_three R (b ⊗ b ⊗ w ⊗ w) (⊖ (a ⊗ b)) (b ⊗ w ⊗ e) f h i
      (ring R (g ∷ e ∷ r ∷ w ∷ a ∷ b ∷ s ∷ t ∷ []) λ q x.
      simp (reads, q, x 0, x 1, x 2, x 3, x 4, x 5, x 6, x 7) (q.equal _ _ refl))

  part_under : e ⊗ e ≡ e ⊕ g ⊗ s → b ⊗ w ⊗ e ⊗ e ≡ b ⊗ w ⊗ e ⊕ g ⊗ (b ⊗ w ⊗ s)
  part_under f =
      from_one R (b ⊗ w) f
      (ring R (g ∷ e ∷ w ∷ b ∷ s ∷ []) λ q x. simp (reads, q, x 0, x 1, x 2, x 3, x 4) (q.equal _ _ refl))

  part_null : b ⊗ w ⊗ e ≡ 𝟘 ⊕ g ⊗ t → b ⊗ w ⊗ e ≡ g ⊗ t
  part_null f = f ∙ zero_add R _

  rest_null : b ⊗ w ⊗ e ≡ e ⊕ g ⊗ t → b ⊗ w ⊕ a ⊗ r ≡ 𝟙 → a ⊗ r ⊗ e ≡ g ⊗ ⊖ t
  rest_null f i =
      from_two R (⊖ 𝟙) e f i
      (ring R (g ∷ e ∷ r ∷ w ∷ a ∷ b ∷ t ∷ []) λ q x.
      simp (reads, q, x 0, x 1, x 2, x 3, x 4, x 5, x 6) (q.equal _ _ refl))

  -- r divides b·w, so it divides 1
  unit_of_part : b ⊗ w ≡ r ⊗ w ⊗ s → b ⊗ w ⊕ a ⊗ r ≡ 𝟙 → r ⊗ (w ⊗ s ⊕ a) ≡ 𝟙
  unit_of_part f i =
      from_two R (⊖ 𝟙) 𝟙 f i
      (ring R (r ∷ w ∷ a ∷ b ∷ s ∷ []) λ q x. simp (reads, q, x 0, x 1, x 2, x 3, x 4) (q.equal _ _ refl))

  unit_of_rest : a ⊗ r ≡ r ⊗ w ⊗ s → b ⊗ w ⊕ a ⊗ r ≡ 𝟙 → w ⊗ (b ⊕ r ⊗ s) ≡ 𝟙
  unit_of_rest f i =
      from_two R (⊖ 𝟙) 𝟙 f i
      (ring R (r ∷ w ∷ a ∷ b ∷ s ∷ []) λ q x. simp (reads, q, x 0, x 1, x 2, x 3, x 4) (q.equal _ _ refl))

module _ (k : CodeField) where
  infixl 65 ◌⊕◌
  infixl 70 ◌⊗◌
  infixr 80 ⊖◌
  open polynomials k use {𝟘, 𝟙, ◌⊕◌, ◌⊗◌, ⊖◌}

  abbrev pub P : CommRing (Polynomial k)
  P = (polynomials k).ring

  -- the codes of a power of a monic polynomial
  power_monic : (p : List ℕ) → IsOver k.ops p → IsMonicList p → (n : ℕ) → IsMonicList (codes_of k (pow P.ops (value k p) n))
  power_monic p p_in monic zero = subst (λ a. IsMonicList (codes_of k a)) (value_one k) one
    where
      one : IsMonicList (codes_of k (value k (1 ∷ [])))
      one =
          subst IsMonicList (sym (numbers_value k (1 ∷ []) one_in (monic_poly k (1 ∷ []) ([], refl)))) ([], refl)
        where
          one_in : IsOver k.ops (1 ∷ [])
          one_in = IsOver_cons k.laws.one_below IsOver_nil
  power_monic p p_in monic (suc n) =
      subst IsMonicList (sym (codes_of_product k (value k p) (pow P.ops (value k p) n)))
      (IsMonic_product k (codes_of k (value k p)) (codes_of k (pow P.ops (value k p) n)) (IsOver_codes_of k (value k p))
      (IsOver_codes_of k (pow P.ops (value k p) n))
      (subst IsMonicList (sym (numbers_value k p p_in (monic_poly k p monic))) monic) (power_monic p p_in monic n))

  -- an irreducible polynomial that divides a power divides what it is a power of
  pub power_divides : (p : List ℕ) → IsOver k.ops p → IsIrreducibleList k.ops p → (n : ℕ) (u : Polynomial k)
      → IsDivisorIn P.ops (value k p) (pow P.ops u n) → IsDivisorIn P.ops (value k p) u
  power_divides p p_in irreducible zero u d =
      absurd ((irreducible_list k p p_in irreducible).nonunit (d.0, sym d.1))
  power_divides p p_in irreducible (suc n) u d =
      elim (prime_list k p p_in irreducible u (pow P.ops u n) d) [
        | inl l ↦ l
        | inr m ↦ power_divides p p_in irreducible n u m
      ]

  module _ (g e : Polynomial k) (primitive : IsPrimitiveModulo k g e) (h : List ℕ)
      (killer : IsLeastMonic k (Kills k g e) h) where
    h_size : length (value k h).0 ≡ length h
    h_size = length_value k h killer.over (monic_poly k h killer.monic)

    h_long : 0 < length h
    h_long = let l = ap length killer.monic.1 in let m = length_push killer.monic.0 1 in omega arith

    h_some : ¬ (value k h ≡ 𝟘)
    h_some = some_of_long k (value k h) (omega (arith, h_size, h_long))

    -- what takes e to 0 are the multiples of h
    killed : (u : Polynomial k) → IsDivisorIn P.ops g (u ⊗ e) ↔ IsDivisorIn P.ops (value k h) u
    killed =
        ideal_generator (euclidean k) (λ u. IsDivisorIn P.ops g (u ⊗ e)) sums multiples (value k h) killer.has h_some
        least
      where
        sums : (u v : Polynomial k) → IsDivisorIn P.ops g (u ⊗ e) → IsDivisorIn P.ops g (v ⊗ e)
            → IsDivisorIn P.ops g ((u ⊕ v) ⊗ e)
        sums u v (c, f) (d, i) = (c ⊕ d, join u v c d f i)
          where
            join : (u v c d : Polynomial k) → u ⊗ e ≡ g ⊗ c → v ⊗ e ≡ g ⊗ d → (u ⊕ v) ⊗ e ≡ g ⊗ (c ⊕ d)
            join u v c d f i =
                from_two P 𝟙 𝟙 f i (ring P (u ∷ v ∷ c ∷ d ∷ e ∷ g ∷ []) λ q x.
                simp (reads, q, x 0, x 1, x 2, x 3, x 4, x 5) (q.equal _ _ refl))

        multiples : (s u : Polynomial k) → IsDivisorIn P.ops g (u ⊗ e) → IsDivisorIn P.ops g (s ⊗ u ⊗ e)
        multiples s u (c, f) = (s ⊗ c, join s u c f)
          where
            join : (s u c : Polynomial k) → u ⊗ e ≡ g ⊗ c → s ⊗ u ⊗ e ≡ g ⊗ (s ⊗ c)
            join s u c f =
                from_one P s f (ring P (s ∷ u ∷ c ∷ e ∷ g ∷ []) λ q x.
                simp (reads, q, x 0, x 1, x 2, x 3, x 4) (q.equal _ _ refl))

        least : (u : Polynomial k) → IsDivisorIn P.ops g (u ⊗ e) → ¬ (u ≡ 𝟘) → length (value k h).0 ≤ length u.0
        least u u_in some =
            let m = made_monic k u some in
            let short : length h ≤ length m.codes
            = killer.least m.codes m.over m.monic
            (subst (λ v. IsDivisorIn P.ops g (v ⊗ e)) (sym m.is) (multiples m.factor u u_in)) in
            omega (arith, h_size, short, m.length_is)

    -- h isn't a constant
    h_deep : 2 ≤ length (value k h).0
    h_deep = at (length (value k h).0) refl
      where
        none : length (value k h).0 ≡ 1 → ⊥
        none one =
            let u = short_unit k (value k h) one in
            let d = (killed 𝟙).1 (u.0, sym u.1) in
            primitive.nonzero (record { times = d.0; differs = sym (one_mul P e) ∙ d.1 ∙ sym (zero_add P _) })

        at : (n : ℕ) → length (value k h).0 ≡ n → 2 ≤ length (value k h).0
        at zero z = absurd (omega (arith, z, h_size, h_long))
        at (suc zero) one = absurd (none one)
        at (suc (suc n)) more = omega (arith, more)

    found : IrreducibleDivisor k (value k h)
    found = irreducible_divisor k (length (value k h).0 + 1) (value k h) h_deep (omega arith) h_some

    p_irreducible : IsIrreducible (euclidean k) (value k found.codes)
    p_irreducible = irreducible_list k found.codes found.over found.irreducible

    order : OrderAt (euclidean k) (value k found.codes) p_irreducible (value k h)
    order = order_at (euclidean k) (value k found.codes) p_irreducible (value k h) h_some

    order_some : (n : ℕ) → order.order ≡ n → (m : ℕ) × (order.order ≡ suc m)
    order_some zero z =
        absurd (order.cofactor_free (subst (IsDivisorIn P.ops (value k found.codes))
        (order.is ∙ ap (λ n. pow P.ops (value k found.codes) n ⊗ order.cofactor) z ∙ one_mul P _) found.divides))
    order_some (suc m) e = (m, e)

    j : (m : ℕ) × (order.order ≡ suc m)
    j = order_some order.order refl

    abbrev power : Polynomial k
    power = pow P.ops (value k found.codes) order.order

    coprime : Bezout P.ops order.cofactor (pow P.ops (value k found.codes) order.order)
    coprime = bezout_with_power (euclidean k) (value k found.codes) p_irreducible order.cofactor order.order
        order.cofactor_free

    -- a unit where the power divides 1
    no_unit : (d : Polynomial k) → pow P.ops (value k found.codes) order.order ⊗ d ≡ 𝟙 → ⊥
    no_unit d f =
        p_irreducible.nonunit (
          pow P.ops (value k found.codes) j.0 ⊗ d,
          sym (P.mul_assoc _ _ _) ∙ ap (λ n. pow P.ops (value k found.codes) n ⊗ d) (sym j.1) ∙ f,
        )

    kills : IsDivisorIn P.ops g (pow P.ops (value k found.codes) order.order ⊗ order.cofactor ⊗ e)
    kills = subst (λ u. IsDivisorIn P.ops g (u ⊗ e)) order.is killer.has

    -- the cofactor is a unit
    cofactor_unit : IsUnit P.ops order.cofactor
    cofactor_unit =
        go (primitive.least f
        (record {
          times = b ⊗ b ⊗ w ⊗ w ⊗ i.times ⊕ ⊖ (a ⊗ b ⊗ kills.0);
          differs = part_idempotent P g e r w a b i.times kills.0 i.differs kills.1 coprime.is;
        })
        (record { times = b ⊗ w ⊗ i.times; differs = part_under P g e r w a b i.times kills.0 i.differs }))
      where
        r : Polynomial k
        r = pow P.ops (value k found.codes) order.order

        w : Polynomial k
        w = order.cofactor

        a : Polynomial k
        a = coprime.right

        b : Polynomial k
        b = coprime.left

        f : Polynomial k
        f = b ⊗ w ⊗ e

        i : IsCongruent P.ops g (e ⊗ e) e
        i = primitive.idempotent

        go : IsCongruent P.ops g f 𝟘 ⊎ IsCongruent P.ops g f e → IsUnit P.ops w
        go (inl null) =
            let d = (killed (b ⊗ w)).0 (null.times, null.differs ∙ zero_add P _) in
            absurd (no_unit (w ⊗ d.0 ⊕ a)
            (unit_of_part P g e r w a b d.0 𝟘 (d.1 ∙ ap (λ u. u ⊗ d.0) order.is) coprime.is))
        go (inr whole) =
            let d = (killed (a ⊗ r)).0 (⊖ whole.times, rest_null P g e r w a b 𝟘 whole.times whole.differs coprime.is)
            in
            (b ⊕ r ⊗ d.0, unit_of_rest P g e r w a b d.0 𝟘 (d.1 ∙ ap (λ u. u ⊗ d.0) order.is) coprime.is)

    h_is : value k h ≡ pow P.ops (value k found.codes) order.order
    h_is =
        ap (value k)
        (monic_unique k h (codes_of k power) killer.over (IsOver_codes_of k power) killer.monic
        (power_monic found.codes found.over found.irreducible.monic order.order)
        (cofactor_unit.0, value_codes_of k power ∙ back)
        (order.cofactor, order.is ∙ ap (λ u. u ⊗ order.cofactor) (sym (value_codes_of k power))))
        ∙ value_codes_of k power
      where
        back : power ≡ value k h ⊗ cofactor_unit.0
        back =
            sym (P.mul_one power) ∙ ap (λ u. power ⊗ u) (sym cofactor_unit.1) ∙ sym (P.mul_assoc _ _ _)
            ∙ ap (λ u. u ⊗ cofactor_unit.0) (sym order.is)

    -- a power of e times e is e
    e_power : (n : ℕ) → IsCongruent P.ops g (pow P.ops e n ⊗ e) e
    e_power zero = congruent_same P g _ e (one_mul P e)
    e_power (suc n) =
        congruent_trans P g _ (e ⊗ (pow P.ops e n ⊗ e)) e (congruent_same P g _ _ (P.mul_assoc _ _ _))
        (congruent_trans P g _ (e ⊗ e) e (congruent_mul_left P g e _ e (e_power n)) primitive.idempotent)

    belongs : BelongsTo k g found.codes e
    belongs u = (to, from)
      where
        to : IsDivisorIn P.ops (value k found.codes) u → (n : ℕ) × IsDivisorIn P.ops g (pow P.ops (u ⊗ e) n)
        to (d, f) = (
          order.order,
          (
            pow P.ops d order.order ⊗ pow P.ops e j.0 ⊗ killer.has.0,
            mul_pow P u e order.order
                ∙ ap (λ v. pow P.ops v order.order ⊗ pow P.ops e order.order) f
                ∙ ap (λ v. v ⊗ pow P.ops e order.order)
                (mul_pow P (value k found.codes) d order.order ∙ ap (λ v. v ⊗ pow P.ops d order.order) (sym h_is))
                ∙ ap (λ n. value k h ⊗ pow P.ops d order.order ⊗ pow P.ops e n) j.1
                ∙ gather (value k h) (pow P.ops d order.order) (pow P.ops e j.0) killer.has.0 killer.has.1,
          ),
        )
          where
            gather : (y d m c : Polynomial k) → y ⊗ e ≡ g ⊗ c → y ⊗ d ⊗ (e ⊗ m) ≡ g ⊗ (d ⊗ m ⊗ c)
            gather y d m c f =
                from_one P (d ⊗ m) f (ring P (y ∷ d ∷ m ∷ c ∷ e ∷ g ∷ []) λ q x.
                simp (reads, q, x 0, x 1, x 2, x 3, x 4, x 5) (q.equal _ _ refl))

        from : (n : ℕ) × IsDivisorIn P.ops g (pow P.ops (u ⊗ e) n) → IsDivisorIn P.ops (value k found.codes) u
        from (n, (c, f)) =
            power_divides found.codes found.over found.irreducible n u
            (divisor_trans P (value k found.codes) (value k h) (pow P.ops u n) found.divides
            ((killed (pow P.ops u n)).0 (
              e ⊗ c ⊕ ⊖ (pow P.ops u n ⊗ at.times),
              gather (pow P.ops u n) (pow P.ops e n) c at.times
                  (sym (mul_pow P u e n) ∙ f) at.differs,
            )))
          where
            at : IsCongruent P.ops g (pow P.ops e n ⊗ e) e
            at = e_power n

            gather : (y m c t : Polynomial k) → y ⊗ m ≡ g ⊗ c → m ⊗ e ≡ e ⊕ g ⊗ t → y ⊗ e ≡ g ⊗ (e ⊗ c ⊕ ⊖ (y ⊗ t))
            gather y m c t f i =
                from_two P e (⊖ y) f i (ring P (y ∷ m ∷ c ∷ t ∷ e ∷ g ∷ []) λ q x.
                simp (reads, q, x 0, x 1, x 2, x 3, x 4, x 5) (q.equal _ _ refl))

    pub prime_power : IsPrimePower k g e h
    prime_power = record {
      prime = found.codes;
      over = found.over;
      irreducible = found.irreducible;
      exponent = order.order;
      positive = let f = j.1 in omega (arith, f);
      is = h_is;
      belongs = belongs;
    }
