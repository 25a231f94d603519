-- Prime systems at p: covering, the value of p, and membership by conditions at the primes.
use Rattle.prime_theory.proofs.Lists.{any_one}
use Rattle.ring_theory.proofs.Local.{power_in}
use Rattle.std.proofs.Common.{◌≡◌, ◌⊎◌, inl, inr, ℕ, zero, suc, ◌+◌, ◌*◌, ◌≤◌, List, [], ◌∷◌, refl, sym, ap, ◌∙◌, subst, arith, All}
use Rattle.std.proofs.lemmas.List.Elements.{All-nil, All-cons, All-head, All-tail, All-weaker}
use Rattle.ring_lemmas.specs.Ring.{CommRing, pow}
use Rattle.ring_theory.specs.Subsets.{IsSubring}
use Rattle.ring_theory.specs.Integral.{IsIntegral}
use Rattle.ring_lemmas.proofs.Ring.{one_mul, zero_mul, add_mul}
use Rattle.ring_lemmas.proofs.Solver.{ring, reads}
use Rattle.prime_theory.specs.Ideals.{IsIdeal, SameSet, Multiple, PowerIn}
use Rattle.prime_theory.specs.Primes.{IsPrime, Outside, Pair, Different, AtLeast, Exactly}
use Rattle.prime_theory.specs.Systems.{IdealProduct, PrimeExponent, IsFamily, IsSystem, Escapes, UnitModulo}
use Rattle.prime_theory.proofs.Localisation.{lift}
use Rattle.prime_theory.proofs.Primes.{outside_product, one_outside}
use Rattle.prime_theory.proofs.Valuation.{eq_tau, eq_product, eq_power, eq_of_outside, ge_of_member, ge_of_prime, ge_product, ge_bounded}
use Rattle.prime_theory.proofs.Orders.{least_value, integral_not_negative, quotient_value}
use Rattle.prime_theory.proofs.PrimeProducts.{up_at, down_at, ideal_product_module, ideal_product_of_value}

module _ {A : Type 0} (R : CommRing A) (O : A → Type 0) (𝓞 : IsSubring R.ops O) (p : A) (p_in : O p)
    (I : Type 0) (P : I → A → Type 0) (fam : IsFamily R.ops O I P) where
  infixl 65 ◌⊕◌
  infixl 70 ◌⊗◌
  infixr 80 ⊖◌
  open R use {𝟘, 𝟙, ◌⊕◌, ◌⊗◌, ⊖◌}

  abbrev tau : I → A
  tau i = (fam.pair i).tau

  abbrev gamma : I → A
  gamma i = (fam.pair i).gamma

  abbrev Ge : I → A → ℕ → ℕ → Type 0
  Ge i z a b = AtLeast R.ops O (P i) (tau i) (gamma i) z a b

  abbrev Eq : I → A → ℕ → ℕ → Type 0
  Eq i z a b = Exactly R.ops O (P i) (tau i) (gamma i) z a b

  -- 1 - (1 - c)^n is in C with c
  complement : (C : A → Type 0) → IsIdeal R.ops O C → (c : A) → C c → (n : ℕ) → C (𝟙 ⊕ ⊖ pow R.ops (𝟙 ⊕ ⊖ c) n)
  complement C 𝓒 c m zero = subst C (sym (R.add_neg 𝟙)) 𝓒.zero_in
  complement C 𝓒 c m (suc n) =
      let f : (x : A) → (𝟙 ⊕ ⊖ x) ⊕ x ⊗ c ≡ 𝟙 ⊕ ⊖ ((𝟙 ⊕ ⊖ c) ⊗ x)
      = λ x. ring R (x ∷ c ∷ []) λ q i. simp (reads, q, i 0, i 1) (q.equal _ _ refl) in
      subst C (f (pow R.ops (𝟙 ⊕ ⊖ c) n))
      (𝓒.sum_in _ _ (complement C 𝓒 c m n) (𝓒.scale_in _ c (power_in R O 𝓞 _ rest n) m))
    where
      rest : O (𝟙 ⊕ ⊖ c)
      rest = 𝓞.sum_in _ _ 𝓞.one_in (𝓞.neg_in _ (𝓒.within c m))

  -- a member of C that is 1 up to each prime of the list
  record Avoids (C : A → Type 0) (is : List I) : Type 0 where
    member : A
    member_in : C member
    one_up_to : All (λ i. P i (𝟙 ⊕ ⊖ member)) is

  avoid : (C : A → Type 0) → IsIdeal R.ops O C → (is : List I) → All (λ i. Escapes C (P i)) is → Avoids C is
  avoid C 𝓒 [] h = record { member = 𝟘; member_in = 𝓒.zero_in; one_up_to = All-nil (λ i. P i (𝟙 ⊕ ⊖ 𝟘)) }
  avoid C 𝓒 (i ∷ is) h =
      let first = All-head (λ i. Escapes C (P i)) i is h in
      let others = avoid C 𝓒 is (All-tail (λ i. Escapes C (P i)) i is h) in
      let inv = (fam.prime i).invert first.member (𝓒.within _ first.member_in) first.out in
      let y = inv.inverse in
      let x = first.member in
      let c = others.member in
      let total = y ⊗ x ⊕ (𝟙 ⊕ ⊖ (y ⊗ x)) ⊗ c in
      let yx_in : C (y ⊗ x) = 𝓒.scale_in y x inv.inverse_in first.member_in in
      let rest_in : O (𝟙 ⊕ ⊖ (y ⊗ x)) = 𝓞.sum_in _ _ 𝓞.one_in (𝓞.neg_in _ (𝓒.within _ yx_in)) in
      let rest'_in : O (⊖ (𝟙 ⊕ ⊖ c)) = 𝓞.neg_in _ (𝓞.sum_in _ _ 𝓞.one_in (𝓞.neg_in _ (𝓒.within _ others.member_in))) in
      record {
        member = total;
        member_in = 𝓒.sum_in _ _ yx_in (𝓒.scale_in _ _ rest_in others.member_in);
        one_up_to =
            All-cons (λ j. P j (𝟙 ⊕ ⊖ total)) i is
            (subst (P i)
            (ring R (x ∷ y ∷ c ∷ []) λ q k. simp (reads, q, k 0, k 1, k 2) (q.equal _ _ refl))
            ((fam.prime i).ideal.scale_in (⊖ (𝟙 ⊕ ⊖ c)) (y ⊗ x ⊕ ⊖ 𝟙) rest'_in inv.is))
            (All-weaker (λ j. P j (𝟙 ⊕ ⊖ c)) (λ j. P j (𝟙 ⊕ ⊖ total))
            (λ j m.
            let f : (x y c : A) → (𝟙 ⊕ ⊖ (y ⊗ x)) ⊗ (𝟙 ⊕ ⊖ c) ≡ 𝟙 ⊕ ⊖ (y ⊗ x ⊕ (𝟙 ⊕ ⊖ (y ⊗ x)) ⊗ c)
            = λ x y c. ring R (x ∷ y ∷ c ∷ []) λ q k. simp (reads, q, k 0, k 1, k 2) (q.equal _ _ refl) in
            subst (P j) (f x y c) ((fam.prime j).ideal.scale_in _ _ rest_in m))
            is others.one_up_to);
      }

  -- an element outside P i that tau of P i takes into all primes of a list
  record Apart (i : I) (is : List I) : Type 0 where
    factor : A
    factor_out : Outside O (P i) factor
    in_all : All (λ j. P j (factor ⊗ tau i)) is

  apart : (i : I) (is : List I) → Apart i is
  apart i [] = record {
    factor = 𝟙;
    factor_out = one_outside R O 𝓞 (P i) (fam.prime i);
    in_all = All-nil (λ j. P j (𝟙 ⊗ tau i));
  }
  apart i (j ∷ is) = go (fam.compare j i) (apart i is)
    where
      go : SameSet (P j) (P i) ⊎ Different (P j) (P i) → Apart i is → Apart i (j ∷ is)
      go (inl s) r = record {
        factor = r.factor;
        factor_out = r.factor_out;
        in_all =
            All-cons (λ j. P j (r.factor ⊗ tau i)) j is
            ((fam.prime j).ideal.scale_in _ _ r.factor_out.within ((s (tau i)).1 (fam.pair i).tau_in))
            r.in_all;
      }
      go (inr d) r =
          let first_in : O d.first = (fam.prime j).ideal.within _ d.first_in in
          let tau_O : O (tau i) = (fam.prime i).ideal.within _ (fam.pair i).tau_in in
          let f : (a b c : A) → b ⊗ c ⊗ a ≡ a ⊗ b ⊗ c
          = λ a b c. ring R (a ∷ b ∷ c ∷ []) λ q k. simp (reads, q, k 0, k 1, k 2) (q.equal _ _ refl) in
          record {
            factor = d.first ⊗ r.factor;
            factor_out =
                outside_product R O 𝓞 (P i) (fam.prime i) _ _ (record { within = first_in; out = d.first_out })
                r.factor_out;
            in_all =
                All-cons (λ j. P j (d.first ⊗ r.factor ⊗ tau i)) j is
                (subst (P j) (f d.first r.factor (tau i))
                ((fam.prime j).ideal.scale_in _ _ (𝓞.product_in _ _ r.factor_out.within tau_O) d.first_in))
                (All-weaker (λ j. P j (r.factor ⊗ tau i)) (λ j. P j (d.first ⊗ r.factor ⊗ tau i))
                (λ k m. subst (P k) (sym (R.mul_assoc _ _ _)) ((fam.prime k).ideal.scale_in _ _ first_in m))
                is r.in_all);
          }

  module _ (is : List I) (sys : IsSystem R.ops O p I P is) where
    -- covering: an ideal in no prime of the system has a member that is 1 modulo p
    pub covering : (C : A → Type 0) → IsIdeal R.ops O C → All (λ i. Escapes C (P i)) is → UnitModulo R.ops O p C
    covering C 𝓒 h =
        let a = avoid C 𝓒 is h in
        let rest : O (𝟙 ⊕ ⊖ a.member) = 𝓞.sum_in _ _ 𝓞.one_in (𝓞.neg_in _ (𝓒.within _ a.member_in)) in
        let n = sys.nilpotent (𝟙 ⊕ ⊖ a.member) rest a.one_up_to in
        let f : (x : A) → 𝟙 ⊕ ⊖ (𝟙 ⊕ ⊖ x) ≡ x = λ x. ring R (x ∷ []) λ q k. simp (reads, q, k 0) (q.equal _ _ refl) in
        record {
          member = 𝟙 ⊕ ⊖ pow R.ops (𝟙 ⊕ ⊖ a.member) (suc n.exponent);
          member_in = complement C 𝓒 a.member a.member_in (suc n.exponent);
          one_modulo = subst (Multiple R.ops p O) (sym (f _)) n.power_in;
        }

    -- a prime over p does not escape all primes of the system
    pub none_escaped : (P' : A → Type 0) → IsPrime R.ops O P' → P' p → ¬ (All (λ i. Escapes P' (P i)) is)
    none_escaped P' 𝓟' m h =
        let 𝓘 = 𝓟'.ideal in
        let c = covering P' 𝓘 h in
        let k : P' (𝟙 ⊕ ⊖ c.member)
        = subst P' (R.mul_comm _ _ ∙ sym c.one_modulo.is) (𝓘.scale_in _ p c.one_modulo.quotient_in m) in
        let e : (x : A) → (𝟙 ⊕ ⊖ x) ⊕ x ≡ 𝟙 = λ x. ring R (x ∷ []) λ q i. simp (reads, q, i 0) (q.equal _ _ refl) in
        𝓟'.proper (subst P' (e c.member) (𝓘.sum_in _ _ k c.member_in))

    module _ (i : I) (m : P i p) where
      abbrev 𝓟 : IsPrime R.ops O (P i)
      𝓟 = fam.prime i

      abbrev pr : Pair R.ops O (P i)
      pr = fam.pair i

      tau_O : O (tau i)
      tau_O = (fam.prime i).ideal.within _ (fam.pair i).tau_in

      power_of_p : PowerIn R.ops (Multiple R.ops p O) ((apart i is).factor ⊗ tau i)
      power_of_p = sys.nilpotent _ (𝓞.product_in _ _ (apart i is).factor_out.within tau_O) (apart i is).in_all

      exact : (n : ℕ) → Eq i (pow R.ops ((apart i is).factor ⊗ tau i) n) (n * (0 + 1)) (n * (0 + 0))
      exact n =
          eq_power R O 𝓞 (P i) 𝓟 pr _ (0 + 1) (0 + 0)
          (eq_product R O 𝓞 (P i) 𝓟 pr (apart i is).factor (tau i) 0 0 1 0
          (eq_of_outside R O 𝓞 (P i) 𝓟 pr _ (apart i is).factor_out)
          (eq_tau R O 𝓞 (P i) 𝓟 pr))
          n

      bound : (m : ℕ) → All (λ x. Ge i x m 0) (p ∷ []) → m ≤ suc power_of_p.exponent
      bound m k =
          let n = power_of_p in
          let h = suc n.exponent in
          let z = pow R.ops ((apart i is).factor ⊗ tau i) h in
          let g' : Ge i z (m + 0) (0 + 0)
          = subst (λ x. Ge i x (m + 0) (0 + 0)) (sym n.power_in.is)
          (ge_product R O 𝓞 (P i) 𝓟 pr p n.power_in.quotient m 0 0 0 (All-head (λ x. Ge i x m 0) p [] k)
          (ge_of_member R O 𝓞 (P i) 𝓟 pr _ n.power_in.quotient_in)) in
          let l : m + 0 + h * (0 + 0) ≤ h * (0 + 1) + (0 + 0)
          = ge_bounded R O 𝓞 (P i) 𝓟 pr _ (h * (0 + 1)) (h * (0 + 0)) (m + 0) (0 + 0) (exact h) g' in
          omega arith

      positive : (v : ℕ) → 1 + 0 ≤ v + 0 → Eq i p v 0 → (e : ℕ) × Eq i p (suc e) 0
      positive zero l k = absurd (omega arith)
      positive (suc e) l k = (e, k)

      -- the value of p at a prime that has it is at least 1
      pub value_of_p : (e : ℕ) × Eq i p (suc e) 0
      value_of_p =
          let r = least_value R O 𝓞 (P i) 𝓟 pr (p ∷ []) (suc power_of_p.exponent) (All-cons O p [] p_in (All-nil O))
          bound in
          let k = any_one (λ x. Eq i x r.value 0) p r.some in
          positive r.value (ge_bounded R O 𝓞 (P i) 𝓟 pr p r.value 0 1 0 k (ge_of_prime R O 𝓞 (P i) 𝓟 pr p m)) k

    -- the value of p at any prime of the family
    pub exponent_of_p : (i : I) → (e : ℕ) × Eq i p e 0
    exponent_of_p i = go ((fam.prime i).decide p p_in)
      where
        go : P i p ⊎ (¬ (P i p)) → (e : ℕ) × Eq i p e 0
        go (inl m) = let v = value_of_p i m in (suc v.0, v.1)
        go (inr n) = (0, eq_of_outside R O 𝓞 (P i) (fam.prime i) (fam.pair i) p (record { within = p_in; out = n }))

    -- membership in a product of primes by conditions at the primes of the system
    pub conditions : (l : List (PrimeExponent I)) (z w : A) (n : ℕ)
        → All (λ i. Ge i z (up_at R O 𝓞 I P fam i l) (down_at R O 𝓞 I P fam i l)) is
        → O w → IdealProduct R.ops O P l (pow R.ops p n ⊗ w ⊗ z) → IdealProduct R.ops O P l (w ⊗ z)
    conditions l z w n h w_in m =
        let M = IdealProduct R.ops O P l in
        let 𝓜 = ideal_product_module R O 𝓞 I P fam l in
        let C : A → Type 0 = λ u. O u × M (u ⊗ z) in
        let 𝓒 : IsIdeal R.ops O C = record {
          within = λ a k. k.0;
          zero_in = (𝓞.zero_in, subst M (sym (zero_mul R z)) 𝓜.zero_in);
          sum_in = λ a b j k. (𝓞.sum_in _ _ j.0 k.0, subst M (sym (add_mul R _ _ _)) (𝓜.sum_in _ _ j.1 k.1));
          scale_in = λ s a j k. (𝓞.product_in _ _ j k.0, subst M (sym (R.mul_assoc _ _ _)) (𝓜.scale_in _ _ j k.1));
        } in
        let e : All (λ i. Escapes C (P i)) is
        = All-weaker (λ i. Ge i z (up_at R O 𝓞 I P fam i l) (down_at R O 𝓞 I P fam i l)) (λ i. Escapes C (P i))
        (λ i k.
        let r = ideal_product_of_value R O 𝓞 I P fam i l z k in
        record { member = r.factor; member_in = (r.factor_in.within, r.multiple_in); out = r.factor_in.out })
        is h in
        let c = covering C 𝓒 e in
        (lift R O 𝓞 p p_in C 𝓒 c.member c.member_in c.one_modulo n w w_in
        (𝓞.product_in _ _ (power_in R O 𝓞 p p_in n) w_in, m)).1

    -- the ring of a prime system is integrally closed as far as p goes
    pub system_closed : (z : A) (n : ℕ) → IsIntegral R.ops O z → O (pow R.ops p n ⊗ z) → O z
    system_closed z n h m =
        let at : (i : I) → Ge i z 0 0 = λ i. go i (exponent_of_p i) in
        subst O (one_mul R z)
        (conditions [] z 𝟙 n (All-weaker (λ i. P i p) (λ i. Ge i z 0 0) (λ i k. at i) is sys.over) 𝓞.one_in
        (subst O (ap (λ x. x ⊗ z) (sym (R.mul_one _))) m))
      where
        go : (i : I) → (e : ℕ) × Eq i p e 0 → Ge i z 0 0
        go i e =
            elim (quotient_value R O 𝓞 (P i) (fam.prime i) (fam.pair i) p z e.0 n e.1
            (ge_of_member R O 𝓞 (P i) (fam.prime i) (fam.pair i) _ m)) [
              | inl k ↦ k
              | inr k ↦ absurd (integral_not_negative R O 𝓞 (P i) (fam.prime i) (fam.pair i) z k.0 h k.1)
            ]
