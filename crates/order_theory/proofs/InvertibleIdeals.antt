-- In an order that is maximal at each irreducible polynomial, each lattice that is closed under it is invertible.
use Rattle.std.proofs.Common.{◌≡◌, All, ◌⊎◌, inl, inr, ℕ, zero, ◌<◌, ◌≤◌, List, [], ◌∷◌, length, refl, sym, ◌∙◌, ap, subst, arith}
use Rattle.std.proofs.lemmas.List.{length-map}
use Rattle.std.proofs.lemmas.List.Elements.{All-nil, All-cons, All-head, All-tail, All-weaker}
use Rattle.ring_lemmas.specs.Ring.{CommRing, pow}
use Rattle.ring_lemmas.specs.Sums.{sum_over}
use Rattle.ring_theory.specs.Subsets.{IsSubring, IsModule, Product}
use Rattle.ring_lemmas.proofs.Ring.{mul_zero, zero_add}
use Rattle.ring_lemmas.proofs.Solver.{ring, reads, from_one}
use Rattle.ring_theory.proofs.Polynomials.{length_product}
use Rattle.ring_lemmas.specs.Lists.{coeff_of}
use Rattle.ring_lemmas.specs.Polynomials.{constant}
use Rattle.ring_theory.proofs.Evaluate.{constant_hom}
use Rattle.order_theory.proofs.Degrees.{constant_of}
use Rattle.prime_theory.specs.Ideals.{IsIdeal, Inverse, Invertible, Multiple}
use Rattle.prime_theory.specs.Orders.{MaximalAt, Radical}
use Rattle.prime_theory.specs.Systems.{IsDecomposition, UnitModulo}
use Rattle.prime_theory.proofs.Primes.{ideal_neg}
use Rattle.prime_theory.proofs.PohstZassenhaus.{multiples_ideal}
use Rattle.prime_theory.proofs.Invertible.{Obstruction, obstruction, unit_at, trace_at, trace_of_local, trace_ideal}
use Rattle.linear_theory.specs.Basis.{IsSum}
use Rattle.linear_theory.specs.Euclidean.{IsDivisorIn}
use Rattle.linear_theory.proofs.Euclid.{decide_divisor}
use Rattle.ff_fields.specs.Field.{CodeField}
use Rattle.ff_fields.specs.Code.{code_ring, code_domain}
use Rattle.ff_poly.specs.Words.{IsIrreducibleList}
use Rattle.ff_poly.specs.Value.{value, value_product, numbers_value}
use Rattle.ff_poly.proofs.Parts.{IsMonic_from_top}
use Rattle.ff_poly.specs.Polynomials.{Polynomial, polynomials, polynomial_discrete, codes_of, value_codes_of}
use Rattle.function_field.specs.declared.side.Side.TheVariants.{Finite}
use Rattle.function_field.specs.Places.{IsIntegralAt}
use Rattle.function_field.specs.Functions.{Equation, FunctionOf, ring_of, of_poly, setting_of}
use Rattle.places_theory.proofs.YRoot.{poly_hom}
use Rattle.polynomial_theory.proofs.Lengths.{some_long, zero_length}
use Rattle.polynomial_theory.proofs.Division.{euclidean}
use Rattle.polynomial_theory.proofs.Irreducible.{irreducible_some}
use Rattle.function_field.specs.Indices.{space_ops}
use Rattle.lattice_theory.specs.Lattices.{IsLattice}
use Rattle.order_theory.specs.Orders.{IsOrder, IsOrderUpTo}
use Rattle.lattice_theory.proofs.Lattices.{lattice_module, lattice_decided}
use Rattle.order_theory.proofs.LeastPolynomials.{Least, least_polynomial}
use Rattle.lattice_theory.proofs.Bases.{MonicMultiple, monic_multiple}
use Rattle.lattice_theory.proofs.Operations.{inverse_of, product_lattice, colon_lattice, sum_lattice, polynomial_of}
use Rattle.order_theory.proofs.LocalOrders.{stable_integral, prime_to, order_polynomials}
use Rattle.order_theory.proofs.ReductionAt.{pO, p_in, multiple_is_lattice, lift}
use Rattle.order_theory.proofs.PrimesOver.{Index, listed, order_generators}
use Rattle.order_theory.proofs.IrreducibleIn.{monic_poly, numbers_get}
use Rattle.prime_theory.proofs.Idempotents.{killed}
use Rattle.std.proofs.lemmas.Bool.{cases_lt}

-- a decision, as one of two
pub one_of_two : {X : Type 0} → Dec X → X ⊎ (¬ X)
one_of_two (yes x) = inl x
one_of_two (no n) = inr n

module _ {A : Type 0} (R : CommRing A) (O : A → Type 0) (𝓞 : IsSubring R.ops O) (p : A) (p_in : O p)
    (I : Type 0) (e : I → A) (is : List I) (dec : IsDecomposition R.ops O p I e is) where
  infixl 65 ◌⊕◌
  infixl 70 ◌⊗◌
  infixr 80 ⊖◌
  open R use {𝟘, 𝟙, ◌⊕◌, ◌⊗◌, ⊖◌}

  module _ (C : A → Type 0) (𝓒 : IsIdeal R.ops O C) (p_in_C : (a : A) → Multiple R.ops p O a → C a)
      (decide : (a : A) → Dec (C a)) where
    -- an ideal with p and without 1 lacks an idempotent
    lacks : ¬ (C 𝟙) → (i : I) × (¬ (C (e i)))
    lacks one = go (look is)
      where
        look : (js : List I) → ((i : I) × (¬ (C (e i)))) ⊎ C (sum_over R.ops js e)
        look [] = inr 𝓒.zero_in
        look (j ∷ js) = by (decide (e j)) (look js)
          where
            by : Dec (C (e j)) → ((i : I) × (¬ (C (e i)))) ⊎ C (sum_over R.ops js e) → ((i : I) × (¬ (C (e i))))
                ⊎ C (sum_over R.ops (j ∷ js) e)
            by (no n) r = inl (j, n)
            by (yes m) (inl r) = inl r
            by (yes m) (inr r) = inr (𝓒.sum_in _ _ m r)

        back : (s : A) → (𝟙 ⊕ ⊖ s) ⊕ s ≡ 𝟙
        back s = ring R (s ∷ []) λ q j. simp (reads, q, j 0) (q.equal _ _ refl)

        go : ((i : I) × (¬ (C (e i)))) ⊎ C (sum_over R.ops is e) → (i : I) × (¬ (C (e i)))
        go (inl r) = r
        go (inr r) = absurd (one (subst C (back (sum_over R.ops is e)) (𝓒.sum_in _ _ (p_in_C _ dec.sum_one) r)))

    -- whose product with each member is nilpotent
    all_killed : (i : I) → ¬ (C (e i)) → (cs : List A) → All C cs
        → All (λ c. O c × ((n : ℕ) × Multiple R.ops p O (e i ⊗ pow R.ops c n))) cs
    all_killed i out [] h = All-nil (λ c. O c × ((n : ℕ) × Multiple R.ops p O (e i ⊗ pow R.ops c n)))
    all_killed i out (c ∷ cs) h =
        All-cons (λ c. O c × ((n : ℕ) × Multiple R.ops p O (e i ⊗ pow R.ops c n))) c cs
        (c_in, killed R O 𝓞 p p_in I e is dec i c c_in (by (dec.locality i c c_in)))
        (all_killed i out cs (All-tail C c cs h))
      where
        c_in : O c
        c_in = 𝓒.within c (All-head C c cs h)

        back : (y z : A) → y ⊕ ⊖ (y ⊕ ⊖ z) ≡ z
        back y z = ring R (y ∷ z ∷ []) λ q j. simp (reads, q, j 0, j 1) (q.equal _ _ refl)

        by : Radical R.ops O p (c ⊗ e i) ⊎ ((y : A) × O y × Multiple R.ops p O (y ⊗ (c ⊗ e i) ⊕ ⊖ (e i)))
            → Radical R.ops O p (c ⊗ e i)
        by (inl r) = r
        by (inr (y, y_in, m)) =
            absurd (out (subst C (back (y ⊗ (c ⊗ e i)) (e i))
            (𝓒.sum_in _ _ (𝓒.scale_in y _ y_in
            (subst C (R.mul_comm (e i) c) (𝓒.scale_in (e i) c (dec.within i) (All-head C c cs h))))
            (ideal_neg R O 𝓞 C 𝓒 _ (p_in_C _ m)))))

-- an irreducible divisor of a polynomial that isn't constant
module _ (k : CodeField) (g : Polynomial k) (some : ¬ (g ≡ (polynomials k).𝟘)) (long : 2 ≤ length g.0) where
  infixl 70 ◌⊗◌
  open polynomials k use {𝟘, 𝟙, ◌⊗◌}

  abbrev Divisor : Polynomial k → Type 0
  Divisor b = (2 ≤ length b.0) × IsDivisorIn (polynomials k).ops b g

  long_some : (b : Polynomial k) → 2 ≤ length b.0 → ¬ (b ≡ 𝟘)
  long_some b l e = let z : length b.0 ≡ 0 = ap (λ p. length p.0) e ∙ zero_length k in absurd (omega arith)

  decide : (b : Polynomial k) → Dec (Divisor b)
  decide b = go (order (length b.0))
    where
      order : (n : ℕ) → (2 ≤ n) ⊎ (n < 2)
      order n = grind arith

      go : (2 ≤ length b.0) ⊎ (length b.0 < 2) → Dec (Divisor b)
      go (inr l) = no (λ h. let m = h.0 in absurd (omega arith))
      go (inl l) = by (decide_divisor (euclidean k) b g (long_some b l))
        where
          by : Dec (IsDivisorIn (polynomials k).ops b g) → Dec (Divisor b)
          by (yes d) = yes (l, d)
          by (no n) = no (λ h. n h.1)

  least : Least k Divisor
  least = least_polynomial k Divisor decide g (long, (𝟙, sym ((polynomials k).mul_one g)))

  least_some : ¬ (least.member ≡ 𝟘)
  least_some = long_some least.member least.has.0

  monic : MonicMultiple k least.member
  monic = monic_multiple k least.member least_some

  length_is : length monic.product.0 ≡ length least.member.0
  length_is = let s = monic.monic.size in let d = monic.degree in let l = least.has.0 in omega arith

  pub divisor_of : Polynomial k
  divisor_of = monic.product

  pub divides_it : IsDivisorIn (polynomials k).ops divisor_of g
  unfolding divisor_of
  divides_it =
      let d = least.has.1 in (
        monic.inverse ⊗ d.0,
        d.1 ∙ ap (λ x. x ⊗ d.0) (monic.back ∙ (polynomials k).mul_comm _ _)
            ∙ (polynomials k).mul_assoc _ _ _,
      )

  pub divisor_irreducible : IsIrreducibleList k.ops (codes_of k divisor_of)
  unfolding divisor_of
  divisor_irreducible = record {
    monic =
        IsMonic_from_top monic.monic.degree (codes_of k monic.product)
        (length-map monic.product.0 (λ x. x.0) ∙ monic.monic.size)
        (numbers_get k monic.product.0 monic.monic.degree (let s = monic.monic.size in omega arith)
        ∙ ap (λ x. x.0) monic.monic.top);
    not_constant = subst (λ n. 2 ≤ n) (sym (length-map monic.product.0 (λ x. x.0) ∙ length_is)) least.has.0;
    no_divisor = λ b b_in b_monic b_long short d.
        let B = value k b in
        let Q = value k d.quotient in
        let whole : monic.product ≡ B ⊗ Q = sym (value_codes_of k monic.product) ∙ ap (value k) d.product
        ∙ value_product k b d.quotient b_in d.quotient_in in
        let size : length B.0 ≡ length b = sym (length-map B.0 (λ x. x.0))
        ∙ ap length (numbers_value k b b_in (monic_poly b b_monic)) in
        let u = divides_it in
        let le = least.least B (
          subst (λ n. 2 ≤ n) (sym size) b_long,
          (Q ⊗ u.0, u.1 ∙ ap (λ x. x ⊗ u.0) whole ∙ (polynomials k).mul_assoc B Q u.0),
        ) in
        let e = length-map monic.product.0 (λ x. x.0) in
        let f = length_is in
        absurd (omega (arith, le, size, short, e, f));
  }

module _ {k : CodeField} (c : Equation k) (O : FunctionOf c → Type 0) (𝓞 : IsOrder c O)
    (M : FunctionOf c → Type 0) (lattice : IsLattice c M) (𝓜 : IsModule (ring_of c).ops O M)
    (admitted : (p : Polynomial k) → IsIrreducibleList k.ops (codes_of k p)
    → MaximalAt (ring_of c).ops (of_poly c p) (IsIntegralAt (setting_of c) Finite) O ⊎ IsOrderUpTo c p O M) where
  infixl 65 ◌⊕◌
  infixl 70 ◌⊗◌
  infixr 80 ⊖◌
  open ring_of c use {𝟘, 𝟙, ◌⊕◌, ◌⊗◌, ⊖◌}

  -- M times its inverse
  abbrev T : FunctionOf c → Type 0
  T = Product (ring_of c).ops M (Inverse (ring_of c).ops O M)

  T_lattice : IsLattice c (Product (ring_of c).ops M (Inverse (ring_of c).ops O M))
  T_lattice = product_lattice c M (Inverse (ring_of c).ops O M) lattice (colon_lattice c O M 𝓞.lattice lattice)

  T_ideal : IsIdeal (ring_of c).ops O (Product (ring_of c).ops M (Inverse (ring_of c).ops O M))
  T_ideal = trace_ideal (ring_of c) O 𝓞.ring M 𝓜

  module _ (p : Polynomial k) (h : IsIrreducibleList k.ops (codes_of k p)) where
    abbrev C : FunctionOf c → Type 0
    C = IsSum (space_ops c) (Product (ring_of c).ops M (Inverse (ring_of c).ops O M)) (pO c p h O 𝓞)

    𝓠 : IsIdeal (ring_of c).ops O (pO c p h O 𝓞)
    𝓠 = multiples_ideal (ring_of c) O 𝓞.ring (of_poly c p) (p_in c p h O 𝓞) (of_poly c p) (p_in c p h O 𝓞)

    C_lattice : IsLattice c (IsSum (space_ops c) (Product (ring_of c).ops M (Inverse (ring_of c).ops O M))
        (pO c p h O 𝓞))
    C_lattice = sum_lattice c T (pO c p h O 𝓞) T_lattice (multiple_is_lattice c p h O 𝓞)

    C_ideal : IsIdeal (ring_of c).ops O
        (IsSum (space_ops c) (Product (ring_of c).ops M (Inverse (ring_of c).ops O M)) (pO c p h O 𝓞))
    C_ideal = record {
      within =
          λ a m. subst O (sym m.is) (𝓞.ring.sum_in _ _ (T_ideal.within m.left m.left_in) (𝓠.within m.right m.right_in));
      zero_in = (lattice_module c C C_lattice).zero_in;
      sum_in = (lattice_module c C C_lattice).sum_in;
      scale_in = λ s a s_in m. record {
        left = s ⊗ m.left;
        left_in = T_ideal.scale_in s m.left s_in m.left_in;
        right = s ⊗ m.right;
        right_in = 𝓠.scale_in s m.right s_in m.right_in;
        is = ap (λ x. s ⊗ x) m.is ∙ (ring_of c).mul_add s _ _;
      };
    }

    in_C : (a : FunctionOf c) → pO c p h O 𝓞 a
        → IsSum (space_ops c) (Product (ring_of c).ops M (Inverse (ring_of c).ops O M)) (pO c p h O 𝓞) a
    in_C a m =
        record { left = 𝟘; left_in = T_ideal.zero_in; right = a; right_in = m; is = sym (zero_add (ring_of c) a) }

    from_T : (a : FunctionOf c) → T a
        → IsSum (space_ops c) (Product (ring_of c).ops M (Inverse (ring_of c).ops O M)) (pO c p h O 𝓞) a
    from_T a m = record { left = a; left_in = m; right = 𝟘; right_in = 𝓠.zero_in; is = sym ((ring_of c).add_zero a) }

    decided : UnitModulo (ring_of c).ops O (of_poly c p) (Product (ring_of c).ops M (Inverse (ring_of c).ops O M))
        ⊎ Obstruction (ring_of c) O 𝓞.ring (of_poly c p) M
    decided = go (lattice_decided c C C_lattice 𝟙)
      where
        less : (l r : FunctionOf c) → 𝟙 ≡ l ⊕ r → r ≡ 𝟙 ⊕ ⊖ l
        less l r e =
            from_one (ring_of c) (⊖ 𝟙) e
            (ring (ring_of c) (l ∷ r ∷ []) λ q h. simp (reads, q, h 0, h 1) (q.equal _ _ refl))

        go : Dec (C 𝟙) → UnitModulo (ring_of c).ops O (of_poly c p) T ⊎ Obstruction (ring_of c) O 𝓞.ring (of_poly c p) M
        go (yes m) =
            inl (record {
              member = m.left;
              member_in = m.left_in;
              one_modulo = subst (pO c p h O 𝓞) (less m.left m.right m.is) m.right_in;
            })
        go (no n) =
            let i = lacks (ring_of c) O 𝓞.ring (of_poly c p) (p_in c p h O 𝓞) (Index c p h O 𝓞)
            (λ i. lift c p h O 𝓞 i.0) (listed c p h O 𝓞).0 (listed c p h O 𝓞).1
            C C_ideal in_C (lattice_decided c C C_lattice) n in
            let gens = order_generators c p h O 𝓞 T T_lattice in
            inr (obstruction (ring_of c) O 𝓞.ring (of_poly c p) (p_in c p h O 𝓞)
            (λ x x_in. one_of_two (lattice_decided c (pO c p h O 𝓞) (multiple_is_lattice c p h O 𝓞) x)) 𝓠 M
            gens.list gens.spanned (lift c p h O 𝓞 i.0.0) ((listed c p h O 𝓞).1.within i.0) (λ m. i.1 (in_C _ m))
            (all_killed (ring_of c) O 𝓞.ring (of_poly c p) (p_in c p h O 𝓞) (Index c p h O 𝓞)
            (λ i. lift c p h O 𝓞 i.0) (listed c p h O 𝓞).0 (listed c p h O 𝓞).1
            C C_ideal in_C (lattice_decided c C C_lattice) i.0 i.1 gens.list
            (All-weaker T C from_T gens.list gens.members)))

    -- what p takes into T is in T
    pub cancelled : (w : FunctionOf c) → O w → T (of_poly c p ⊗ w) → T w
    cancelled w w_in m = go (admitted p h)
      where
        go : MaximalAt (ring_of c).ops (of_poly c p) (IsIntegralAt (setting_of c) Finite) O ⊎ IsOrderUpTo c p O M → T w
        go (inl maximal) =
            let u = inverse_of c p (irreducible_some k p h) in
            trace_at (ring_of c) O 𝓞.ring (of_poly c p) (p_in c p h O 𝓞) M 𝓜
            (unit_at (ring_of c) O 𝓞.ring (of_poly c p) u.0 ((ring_of c).mul_comm _ _ ∙ u.1) M 𝓜
            (λ z f n.
            maximal z 1 (stable_integral c (Inverse (ring_of c).ops O M) (colon_lattice c O M 𝓞.lattice lattice) z
            (λ y y_in. f y y_in))
            (subst (λ x. O (x ⊗ z)) (sym ((ring_of c).mul_one _)) n))
            decided)
            1 w w_in (subst (λ x. T (x ⊗ w)) (sym ((ring_of c).mul_one _)) m)
        go (inr l) =
            let 𝓝 = prime_to c p h in
            let b = 𝓝.comaximal (l.member ⊗ l.factor) (𝓝.product_in _ _ l.member_in l.factor_in) in
            let one = trace_of_local (ring_of c) O 𝓞.ring M l.factor l.member l.takes l.has in
            subst T (split b.left (l.member ⊗ l.factor) b.right (of_poly c p) b.is)
            (T_ideal.sum_in _ _
            (T_ideal.scale_in (b.left ⊗ w) _ (𝓞.ring.product_in _ _ (order_polynomials c O 𝓞 b.left b.left_in) w_in)
            one)
            (T_ideal.scale_in b.right _ (order_polynomials c O 𝓞 b.right b.right_in) m))
          where
            split : (x a y q : FunctionOf c) → x ⊗ a ⊕ y ⊗ q ≡ 𝟙 → (x ⊗ w) ⊗ a ⊕ y ⊗ (q ⊗ w) ≡ w
            split x a y q e =
                from_one (ring_of c) w e (ring (ring_of c) (x ∷ a ∷ y ∷ q ∷ w ∷ []) λ q h. simp
                (reads, q, h 0, h 1, h 2, h 3, h 4) (q.equal _ _ refl))

  abbrev Some : Polynomial k → Type 0
  Some a = (¬ (a ≡ (polynomials k).𝟘)) × Product (ring_of c).ops M (Inverse (ring_of c).ops O M) (of_poly c a)

  decide_some : (a : Polynomial k) → Dec (Some a)
  decide_some a = go (polynomial_discrete k a (polynomials k).𝟘) (lattice_decided c T T_lattice (of_poly c a))
    where
      go : Dec (a ≡ (polynomials k).𝟘) → Dec (T (of_poly c a)) → Dec (Some a)
      go (yes e) d = no (λ h. h.0 e)
      go (no n) (yes m) = yes (n, m)
      go (no n) (no m) = no (λ h. m h.1)

  polynomial_in : (a : Polynomial k) → O (of_poly c a)
  polynomial_in a =
      subst O ((ring_of c).mul_one _)
      ((lattice_module c O 𝓞.lattice).scale_in (of_poly c a) 𝟙 (record { polynomial = a; value = refl })
      𝓞.ring.one_in)

  smallest : Least k Some
  smallest = let a = polynomial_of c T T_lattice in least_polynomial k Some decide_some a.0 (a.1, a.2)

  -- M times its inverse has 1
  pub lattice_invertible : Invertible (ring_of c).ops O M
  lattice_invertible = go (cases_lt 1 (length smallest.member.0))
    where
      go : (2 ≤ length smallest.member.0) ⊎ (length smallest.member.0 ≤ 1) → T 𝟙
      go (inr short) =
          let m = monic_multiple k smallest.member smallest.has.0 in
          let s = m.monic.size in
          let d = m.degree in
          let l = some_long k smallest.member smallest.has.0 in
          let zero : m.monic.degree ≡ 0 = omega arith in
          let top : coeff_of (code_ring k).ops m.product.0 0 ≡ (code_ring k).𝟙
          = subst (λ n. coeff_of (code_ring k).ops m.product.0 n ≡ (code_ring k).𝟙) zero m.monic.top in
          let one : m.product ≡ (polynomials k).𝟙
          = constant_of c m.product (omega arith) ∙ ap (constant (code_ring k)) top ∙ (constant_hom (code_ring k)).𝟙 in
          subst T (sym ((poly_hom c).mul _ _) ∙ ap (of_poly c) (sym m.is ∙ one) ∙ (poly_hom c).𝟙)
          (T_ideal.scale_in _ _ (polynomial_in m.unit) smallest.has.1)
      go (inl long) =
          let g = smallest.member in
          let p = divisor_of k g smallest.has.0 long in
          let irr = divisor_irreducible k g smallest.has.0 long in
          let d = divides_it k g smallest.has.0 long in
          let u = d.0 in
          let u_some : ¬ (u ≡ (polynomials k).𝟘) = λ z. smallest.has.0
          (d.1 ∙ ap ((polynomials k).◌⊗◌ p) z ∙ mul_zero (polynomials k).ring p) in
          let u_in = cancelled p irr (of_poly c u) (polynomial_in u)
          (subst T (ap (of_poly c) d.1 ∙ (poly_hom c).mul p u) smallest.has.1) in
          let le = smallest.least u (u_some, u_in) in
          let l = length_product (code_ring k) (code_domain k) p u (irreducible_some k p irr) u_some in
          let f : length g.0 ≡ length ((polynomials k).◌⊗◌ p u).0 = ap (λ q. length q.0) d.1 in
          let p_long : 2 ≤ length p.0 = subst (λ n. 2 ≤ n) (length-map p.0 (λ x. x.0)) irr.not_constant in
          absurd (omega (arith, le, l, f, p_long))
