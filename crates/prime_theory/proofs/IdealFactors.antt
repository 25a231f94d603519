-- At a prime system at p: an ideal between powers of p is the product of its values, and has elements with all of its
-- values.
use Rattle.prime_theory.proofs.Lists.{pick, everywhere, both, pairs_head, pairs_tail}
use Rattle.ring_theory.proofs.Local.{power_in}
use Rattle.std.proofs.Common.{◌≡◌, ◌⊎◌, inl, inr, ℕ, suc, ◌+◌, ◌*◌, ◌≤◌, List, [], ◌∷◌, map, refl, sym, ◌∙◌, ap, subst, arith, All}
use Rattle.std.proofs.lemmas.List.Elements.{All-nil, All-cons, All-head, All-tail, All-weaker, All-map}
use Rattle.ring_lemmas.specs.Ring.{CommRing, pow}
use Rattle.ring_theory.specs.Subsets.{IsSubring, IsModule, Span}
use Rattle.ring_lemmas.proofs.Ring.{one_mul, zero_mul, add_mul, pow_add}
use Rattle.ring_theory.proofs.Subsets.{span_least, span_multiples, span_members}
use Rattle.ring_lemmas.proofs.Solver.{ring, reads}
use Rattle.prime_theory.specs.Ideals.{IsIdeal, SameSet}
use Rattle.prime_theory.specs.Primes.{Outside, Different, AtLeast, Exactly, theta}
use Rattle.prime_theory.specs.Systems.{IdealProduct, IsFamily, IsSystem, Escapes, AreDistinctPrimes}
use Rattle.prime_theory.proofs.Localisation.{lift}
use Rattle.prime_theory.proofs.Primes.{outside_product, one_outside, different_symmetric}
use Rattle.prime_theory.proofs.Valuation.{eq_product, eq_power, eq_quotient, eq_reindex, eq_sum, eq_of_outside, ge_of_prime, ge_product, ge_quotient, ge_reindex, ge_sum, ge_module, ge_bounded}
use Rattle.prime_theory.proofs.Orders.{least_value_of_span}
use Rattle.prime_theory.proofs.PrimeProducts.{ideal_product_module}
use Rattle.prime_theory.proofs.Systems.{covering}
use Rattle.prime_theory.proofs.Factorisation.{entries, power_in_product, product_bounded, values_of_entries, conditions_entries, ramification, value_of_p_at}

-- a family of facts on a list, each for all x, is for all x a family of facts
exchange : {X Y : Type 0} (Z : X → Y → Type 0) (ys : List Y) → ((x : X) → All (Z x) ys) → All (λ y. (x : X) → Z x y) ys
exchange Z [] f = All-nil (λ y. (x : _) → Z x y)
exchange Z (y ∷ ys) f =
    All-cons (λ y. (x : _) → Z x y) y ys (λ x. All-head (Z x) y ys (f x))
    (exchange Z ys (λ x. All-tail (Z x) y ys (f x)))

module _ {A : Type 0} (R : CommRing A) (O : A → Type 0) (𝓞 : IsSubring R.ops O) (p : A) (p_in : O p)
    (I : Type 0) (P : I → A → Type 0) (fam : IsFamily R.ops O I P) where
  infixl 65 ◌⊕◌
  infixl 70 ◌⊗◌
  infixr 80 ⊖◌
  open R use {𝟘, 𝟙, ◌⊕◌, ◌⊗◌, ⊖◌}

  abbrev tau : I → A
  tau i = (fam.pair i).tau

  abbrev gamma : I → A
  gamma i = (fam.pair i).gamma

  abbrev Ge : I → A → ℕ → ℕ → Type 0
  Ge i z a b = AtLeast R.ops O (P i) (tau i) (gamma i) z a b

  abbrev Eq : I → A → ℕ → ℕ → Type 0
  Eq i z a b = Exactly R.ops O (P i) (tau i) (gamma i) z a b

  -- the least value at P i of the members of M, and a member that has it
  pub record IdealValue (M : A → Type 0) (i : I) : Type 0 where
    pub up : ℕ
    pub down : ℕ
    pub member : A
    pub member_in : M member
    pub exact : Eq i member up down
    pub all : (z : A) → M z → Ge i z up down

  module _ (is : List I) (sys : IsSystem R.ops O p I P is) (M : A → Type 0) (𝓜 : IsModule R.ops O M)
      (gens : List A) (spanned : SameSet M (Span R.ops O gens)) (a : ℕ) (has : M (pow R.ops p a))
      (bounded : (z : A) → M z → O (pow R.ops p a ⊗ z)) where
    abbrev pa : A
    pa = pow R.ops p a

    gens_in : All M gens
    gens_in = All-weaker (Span R.ops O gens) M (λ x. (spanned x).1) gens (span_members R O 𝓞 gens)

    pub ideal_value : (i : I) → IdealValue M i
    ideal_value i =
        let 𝓟 = fam.prime i in
        let t = fam.pair i in
        let e = ramification R O 𝓞 p p_in I P fam is sys i in
        let xs = map (R.ops.◌⊗◌ pa) gens in
        let xs_in : All O xs = All-map O (R.ops.◌⊗◌ pa) gens (All-weaker M (λ x. O (pa ⊗ x)) bounded gens gens_in) in
        let v : Eq i pa (a * e) (a * 0)
        = eq_power R O 𝓞 (P i) 𝓟 t p e 0 (value_of_p_at R O 𝓞 p p_in I P fam is sys i) a in
        let vv : Eq i (pa ⊗ pa) (a * e + a * e) (a * 0 + a * 0)
        = eq_product R O 𝓞 (P i) 𝓟 t pa pa (a * e) (a * 0) (a * e) (a * 0) v v in
        let r = least_value_of_span R O 𝓞 (P i) 𝓟 t xs (pa ⊗ pa) (a * e + a * e) xs_in
        (span_multiples R O 𝓞 pa gens pa ((spanned pa).0 has))
        (λ m k.
        let l : m + (a * 0 + a * 0) ≤ a * e + a * e + 0
        = ge_bounded R O 𝓞 (P i) 𝓟 t (pa ⊗ pa) (a * e + a * e) (a * 0 + a * 0) m 0 vv k in
        omega arith) in
        let best = pick M (R.ops.◌⊗◌ pa) (λ x. Eq i x r.value 0) gens gens_in r.some in
        record {
          up = r.value + a * 0;
          down = 0 + a * e;
          member = best.0;
          member_in = best.1;
          exact = eq_quotient R O 𝓞 (P i) 𝓟 t pa best.0 r.value 0 (a * e) (a * 0) v best.2;
          all = λ z m.
              ge_quotient R O 𝓞 (P i) 𝓟 t pa z r.value 0 (a * e) (a * 0) v
              (span_least R O 𝓞 (λ x. Ge i x r.value 0) (ge_module R O 𝓞 (P i) 𝓟 t r.value 0) xs r.all (pa ⊗ z)
              (span_multiples R O 𝓞 pa gens z ((spanned z).0 m)));
        }

    abbrev f : I → ℕ
    f i = (ideal_value i).up

    abbrev g : I → ℕ
    g i = (ideal_value i).down

    -- the ideal is the product of the powers of the primes with its values
    pub ideal_factors : AreDistinctPrimes P is
        → SameSet M (IdealProduct R.ops O P (entries R O 𝓞 p p_in I P fam f g is))
    ideal_factors d z = (into, out)
      where
        into : M z → IdealProduct R.ops O P (entries R O 𝓞 p p_in I P fam f g is) z
        into m =
            let start = power_in_product R O 𝓞 p p_in I P fam f g is sys.over in
            let 𝓧 = ideal_product_module R O 𝓞 I P fam (entries R O 𝓞 p p_in I P fam f g is) in
            let e : pow R.ops p a ⊗ z ⊗ pow R.ops p start.0 ≡ pow R.ops p (start.0 + a) ⊗ z
            = R.mul_comm _ _ ∙ sym (R.mul_assoc _ _ _) ∙ ap (λ x. x ⊗ z) (sym (pow_add R p start.0 a)) in
            conditions_entries R O 𝓞 p p_in I P fam f g is sys d z (start.0 + a)
            (everywhere (λ i. Ge i z (f i) (g i)) (λ i. (ideal_value i).all z m) is)
            (subst (IdealProduct R.ops O P (entries R O 𝓞 p p_in I P fam f g is)) e
            (𝓧.scale_in (pow R.ops p a ⊗ z) (pow R.ops p start.0) (bounded z m) start.1))

        out : IdealProduct R.ops O P (entries R O 𝓞 p p_in I P fam f g is) z → M z
        out m =
            let C : A → Type 0 = λ u. O u × M (u ⊗ z) in
            let 𝓒 : IsIdeal R.ops O C = record {
              within = λ x k. k.0;
              zero_in = (𝓞.zero_in, subst M (sym (zero_mul R z)) 𝓜.zero_in);
              sum_in = λ x y j k. (𝓞.sum_in _ _ j.0 k.0, subst M (sym (add_mul R _ _ _)) (𝓜.sum_in _ _ j.1 k.1));
              scale_in = λ s x j k. (𝓞.product_in _ _ j k.0, subst M (sym (R.mul_assoc _ _ _)) (𝓜.scale_in _ _ j k.1));
            } in
            let values = values_of_entries R O 𝓞 p p_in I P fam f g is d z m in
            let escapes : All (λ i. Escapes C (P i)) is
            = All-weaker (λ i. Ge i z (f i) (g i)) (λ i. Escapes C (P i))
            (λ i k.
            let v = ideal_value i in
            let th = theta R.ops (tau i) (gamma i) (f i) (g i) in
            let s = outside_product R O 𝓞 (P i) (fam.prime i) _ _ k.unit_out v.exact.inside in
            let u = k.unit in
            let u' = v.exact.unit in
            let e : (x : A) → u ⊗ z ⊗ x ⊗ u' ⊗ v.member ≡ u ⊗ (u' ⊗ v.member ⊗ x) ⊗ z
            = λ x. ring R (u ∷ u' ∷ v.member ∷ x ∷ z ∷ []) λ q h. simp (reads, q, h 0, h 1, h 2, h 3, h 4)
            (q.equal _ _ refl) in
            record {
              member = u ⊗ (u' ⊗ v.member ⊗ th);
              member_in = (
                s.within,
                subst M (e th)
                    (𝓜.scale_in _ _ (𝓞.product_in _ _ k.inside v.exact.unit_out.within) v.member_in),
              );
              out = s.out;
            })
            is values in
            let c = covering R O 𝓞 p p_in I P fam is sys C 𝓒 escapes in
            let b = product_bounded R O 𝓞 p p_in I P fam f g is sys.over in
            let e : pow R.ops p b.0 ⊗ z ⊗ pow R.ops p a ≡ pow R.ops p (a + b.0) ⊗ 𝟙 ⊗ z
            = R.mul_comm _ _ ∙ sym (R.mul_assoc _ _ _)
            ∙ ap (λ x. x ⊗ z) (sym (pow_add R p a b.0) ∙ sym (R.mul_one _)) in
            let one = lift R O 𝓞 p p_in C 𝓒 c.member c.member_in c.one_modulo (a + b.0) 𝟙 𝓞.one_in (
              𝓞.product_in _ _ (power_in R O 𝓞 p p_in (a + b.0)) 𝓞.one_in,
              subst M e (𝓜.scale_in _ _ (b.1 z m) has),
            ) in
            subst M (one_mul R z) one.1

  -- approximation

  -- outside P i, and in each prime of the list that is another
  record Separator (is : List I) (i : I) : Type 0 where
    factor : A
    factor_out : Outside O (P i) factor
    good : All (λ j. SameSet (P j) (P i) ⊎ P j factor) is

  separator : (is : List I) (i : I) → Separator is i
  separator [] i = record {
    factor = 𝟙;
    factor_out = one_outside R O 𝓞 (P i) (fam.prime i);
    good = All-nil (λ j. SameSet (P j) (P i) ⊎ P j 𝟙);
  }
  separator (j ∷ js) i = go (fam.compare j i) (separator js i)
    where
      go : SameSet (P j) (P i) ⊎ Different (P j) (P i) → Separator js i → Separator (j ∷ js) i
      go (inl s) r = record {
        factor = r.factor;
        factor_out = r.factor_out;
        good = All-cons (λ j. SameSet (P j) (P i) ⊎ P j r.factor) j js (inl s) r.good;
      }
      go (inr d) r =
          let first_in : O d.first = (fam.prime j).ideal.within _ d.first_in in
          let c = d.first ⊗ r.factor in
          record {
            factor = c;
            factor_out =
                outside_product R O 𝓞 (P i) (fam.prime i) _ _ (record { within = first_in; out = d.first_out })
                r.factor_out;
            good =
                All-cons (λ j. SameSet (P j) (P i) ⊎ P j c) j js
                (inr (subst (P j) (R.mul_comm _ _) ((fam.prime j).ideal.scale_in _ _ r.factor_out.within d.first_in)))
                (All-weaker (λ j. SameSet (P j) (P i) ⊎ P j r.factor) (λ j. SameSet (P j) (P i) ⊎ P j c)
                (λ k h. elim h [ inl s ↦ inl s | inr m ↦ inr ((fam.prime k).ideal.scale_in _ _ first_in m) ])
                js r.good);
          }

  module _ (is : List I) (M : A → Type 0) (𝓜 : IsModule R.ops O M) (f g : I → ℕ)
      (best : (i : I) → (x : A) × M x × Eq i x (f i) (g i)) (all : (i : I) (z : A) → M z → Ge i z (f i) (g i)) where
    abbrev c : I → A
    c i = (separator is i).factor

    abbrev term : I → A
    term i = c i ⊗ (best i).0

    sum_of : List I → A
    sum_of [] = 𝟘
    sum_of (i ∷ js) = term i ⊕ sum_of js

    sum_in : (js : List I) → M (sum_of js)
    unfolding sum_of
    sum_in [] = 𝓜.zero_in
    sum_in (i ∷ js) = 𝓜.sum_in _ _ (𝓜.scale_in _ _ (separator is i).factor_out.within (best i).1) (sum_in js)

    abbrev Good : I → I → Type 0
    Good i j = SameSet (P j) (P i) ⊎ P j (c i)

    own : (i : I) → Eq i (term i) (f i) (g i)
    own i =
        eq_reindex R O 𝓞 (P i) (fam.prime i) (fam.pair i) (term i) (0 + f i) (0 + g i) (f i) (g i) (omega arith)
        (eq_product R O 𝓞 (P i) (fam.prime i) (fam.pair i) (c i) (best i).0 0 0 (f i) (g i)
        (eq_of_outside R O 𝓞 (P i) (fam.prime i) (fam.pair i) (c i) (separator is i).factor_out) (best i).2)

    other : (i j : I) → Different (P i) (P j) → Good i j → Ge j (term i) (suc (f j)) (g j)
    other i j d (inl s) = absurd (d.first_out ((s d.first).1 d.first_in))
    other i j d (inr m) =
        ge_reindex R O 𝓞 (P j) (fam.prime j) (fam.pair j) (term i) (1 + f j) (0 + g j) (suc (f j)) (g j) (omega arith)
        (ge_product R O 𝓞 (P j) (fam.prime j) (fam.pair j) (c i) (best i).0 1 0 (f j) (g j)
        (ge_of_prime R O 𝓞 (P j) (fam.prime j) (fam.pair j) (c i) m) (all j (best i).0 (best i).1))

    others : (j : I) → ((i : I) → Good i j) → (js : List I) → All (λ i. Different (P i) (P j)) js
        → Ge j (sum_of js) (suc (f j)) (g j)
    unfolding sum_of
    others j good [] h = (ge_module R O 𝓞 (P j) (fam.prime j) (fam.pair j) (suc (f j)) (g j)).zero_in
    others j good (i ∷ js) h =
        ge_sum R O 𝓞 (P j) (fam.prime j) (fam.pair j) _ _ (suc (f j)) (g j)
        (other i j (All-head (λ i. Different (P i) (P j)) i js h) (good i))
        (others j good js (All-tail (λ i. Different (P i) (P j)) i js h))

    abbrev Apart : I → I → Type 0
    Apart i j = Different (P i) (P j)

    exact_sum : (js : List I) → AreDistinctPrimes P js
        → All (λ j. ((i : I) → Good i j) → Eq j (sum_of js) (f j) (g j)) js
    unfolding sum_of
    exact_sum [] h = All-nil (λ j. ((i : I) → Good i j) → Eq j (sum_of []) (f j) (g j))
    exact_sum (i ∷ js) h =
        All-cons (λ j. ((k : I) → Good k j) → Eq j (sum_of (i ∷ js)) (f j) (g j)) i js
        (λ good.
        eq_sum R O 𝓞 (P i) (fam.prime i) (fam.pair i) (term i) (sum_of js) (f i) (g i) (own i)
        (others i good js (All-weaker (λ j. Different (P i) (P j)) (λ j. Different (P j) (P i))
        (λ j. different_symmetric (P i) (P j)) js
        (pairs_head Apart i js h))))
        (All-weaker (λ j. Different (P i) (P j) × (((k : I) → Good k j) → Eq j (sum_of js) (f j) (g j)))
        (λ j. ((k : I) → Good k j) → Eq j (sum_of (i ∷ js)) (f j) (g j))
        (λ j k good.
        subst (λ x. Eq j x (f j) (g j)) (R.add_comm _ _)
        (eq_sum R O 𝓞 (P j) (fam.prime j) (fam.pair j) (sum_of js) (term i) (f j) (g j) (k.1 good)
        (other i j k.0 (good i))))
        js (both (λ j. Different (P i) (P j)) (λ j. ((k : I) → Good k j) → Eq j (sum_of js) (f j) (g j)) js
        (pairs_head Apart i js h) (exact_sum js (pairs_tail Apart i js h))))

    -- one element with the least value at each prime of the list
    pub approximate : AreDistinctPrimes P is → (z : A) × M z × All (λ j. Eq j z (f j) (g j)) is
    approximate d =
        let good = exchange Good is (λ i. (separator is i).good) in (
          sum_of is,
          sum_in is,
          All-weaker (λ j. ((i : I) → Good i j) × (((i : I) → Good i j) → Eq j (sum_of is) (f j) (g j)))
              (λ j. Eq j (sum_of is) (f j) (g j)) (λ j k. k.1 k.0) is
              (both (λ j. (i : I) → Good i j) (λ j. ((i : I) → Good i j) → Eq j (sum_of is) (f j) (g j)) is good
              (exact_sum is d)),
        )
