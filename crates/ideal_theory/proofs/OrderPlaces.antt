-- A record of primes over p of any order lists the places over p: each prime is the part of one place in the order.
use Rattle.std.proofs.Common.{◌≡◌, ◌↔◌, ◌⊎◌, inl, inr, List, [], ◌∷◌, get_or, pos, refl, sym, ◌∙◌, subst, All}
use Rattle.std.specs.List.{Any}
use Rattle.std.proofs.lemmas.List.Elements.{All-head, All-tail, All-weaker}
use Rattle.ring_theory.specs.Subsets.{IsModule}
use Rattle.ring_lemmas.proofs.Solver.{ring, reads, from_one}
use Rattle.ring_theory.proofs.Subsets.{span_module}
use Rattle.prime_theory.specs.Ideals.{SameSet}
use Rattle.prime_theory.specs.IntegerValues.{ValueIs}
use Rattle.prime_theory.specs.Orders.{MaximalAt}
use Rattle.prime_theory.specs.Primes.{IsPrime, Pair}
use Rattle.prime_theory.specs.Systems.{IsSystem, AreDistinctPrimes}
use Rattle.prime_theory.proofs.Compare.{prime_in_system}
use Rattle.prime_theory.proofs.IntegralRing.{integral_ring}
use Rattle.prime_theory.proofs.Lists.{any_weaker}
use Rattle.ff_fields.specs.Field.{CodeField}
use Rattle.ff_poly.specs.Words.{IsIrreducibleList}
use Rattle.ff_poly.specs.Polynomials.{Polynomial, polynomials, codes_of}
use Rattle.function_field.specs.declared.side.Side.TheVariants.{Finite}
use Rattle.function_field.specs.Discriminant.{discriminant}
use Rattle.function_field.specs.Spans.{combination}
use Rattle.function_field.specs.Places.{Place, IsPlace, IsIn, IsSamePlace, IsIntegralAt}
use Rattle.function_field.specs.Divisors.{HasDegree, HasRamification}
use Rattle.function_field.specs.Functions.{Equation, FunctionOf, ring_of, of_poly, IsCode, IsPolynomial, setting_of}
use Rattle.function_field.proofs.ScalarRings.{polynomials_subring, scalars_subring}
use Rattle.places_theory.specs.Orders.{IsOrderAt, IsPlaceOver, InPrime}
use Rattle.places_theory.proofs.PlaceValues.{valuation_iff, place_prime as prime_at_order}
use Rattle.places_theory.proofs.PlacesOver.{place_of, place_of_is_place, place_of_members, same_by_order}
use Rattle.lattice_theory.specs.Lattices.{IsLattice}
use Rattle.order_theory.specs.Orders.{IsOrder, IsPrimeTo}
use Rattle.order_theory.proofs.Degrees.{classes_of_index}
use Rattle.order_theory.proofs.FinitePlaces.{Int, finite, place_prime}
use Rattle.order_theory.proofs.IntegralLattice.{integral_lattice}
use Rattle.order_theory.proofs.LocalOrders.{maximal_order_at}
use Rattle.order_theory.proofs.PlaceEntries.{outside_same}
use Rattle.order_theory.proofs.PrimesOver.{ideal_lattice, order_generators}
use Rattle.order_theory.proofs.ReductionAt.{p_in}
use Rattle.ideal_theory.specs.Records.{RowSpan, RecordedPrime, IsRecordAt, IsPlaceOfPrime, ArePrimesOfPlaces}
use Rattle.ideal_theory.proofs.PowerValues.{on_side}
use Rattle.ideal_theory.proofs.RecordValues.{record_values}
use Rattle.ideal_theory.proofs.Records.{recorded_prime, recorded_family, record_system, record_distinct, record_maximal}

module _ {k : CodeField} (c : Equation k) where
  infixl 65 ◌⊕◌
  infixl 70 ◌⊗◌
  infixr 80 ⊖◌
  open ring_of c use {𝟘, 𝟙, ◌⊕◌, ◌⊗◌, ⊖◌}

  -- combinations of members of an order by codes are members
  combination_in : (O : FunctionOf c → Type 0) → IsOrder c O → ((s : FunctionOf c) → IsPolynomial c s → O s)
      → (ds ws : List (FunctionOf c)) → All (IsCode c) ds → All O ws → O (combination (ring_of c).ops ds ws)
  combination_in O 𝓞 base [] ws h j = 𝓞.ring.zero_in
  combination_in O 𝓞 base (d ∷ ds) [] h j = 𝓞.ring.zero_in
  combination_in O 𝓞 base (d ∷ ds) (w ∷ ws) h j =
      let e = All-head (IsCode c) d ds h in
      𝓞.ring.sum_in _ _ (𝓞.ring.product_in d w (base d (record { polynomial = e.code; value = e.value }))
      (All-head O w ws j))
      (combination_in O 𝓞 base ds ws (All-tail (IsCode c) d ds h) (All-tail O w ws j))

  module _ (some : ¬ (discriminant c ≡ (polynomials k).𝟘)) (p : Polynomial k)
      (h : IsIrreducibleList k.ops (codes_of k p))
      (O : FunctionOf c → Type 0) (𝓞 : IsOrder c O) (ps : List (RecordedPrime c O)) (valid : IsRecordAt c O p ps) where
    abbrev I : Type 0
    I = RecordedPrime c O

    -- the ideal of a recorded prime
    abbrev P : RecordedPrime c O → FunctionOf c → Type 0
    P i = RowSpan c i.rows

    abbrev p' : FunctionOf c
    p' = of_poly c p

    maximal : MaximalAt (ring_of c).ops (of_poly c p) (IsIntegralAt (setting_of c) Finite) O
    maximal = record_maximal c p h O 𝓞 ps valid

    order : IsOrderAt (setting_of c) Finite (IsPolynomial c) (IsPrimeTo c p) (of_poly c p) O
    order = maximal_order_at c p h O 𝓞 maximal

    sys : IsSystem (ring_of c).ops O (of_poly c p) (RecordedPrime c O) P ps
    sys = record_system c p h O 𝓞 ps valid

    apart : AreDistinctPrimes P ps
    apart = record_distinct c p h O 𝓞 ps valid

    prime : (i : RecordedPrime c O) → IsPrime (ring_of c).ops O (P i)
    prime = recorded_prime c p h O 𝓞

    p_order : O (of_poly c p)
    p_order = p_in c p h O 𝓞

    -- the place of a prime over p
    place_is : (i : RecordedPrime c O) → P i (of_poly c p) → (M : Place (FunctionOf c)) × IsPlaceOfPrime c O p i M
    place_is i over = (
      place_of (setting_of c) (scalars_subring c) Finite (IsPolynomial c) (IsPrimeTo c p) p' O order (P i) (prime i)
          over (λ a m. m) i.rows 𝓘.generators own 𝓘.spanned,
      record {
        place =
            place_of_is_place (setting_of c) (scalars_subring c) Finite (IsPolynomial c) (IsPrimeTo c p) p' O order
            (P i) (prime i) over (λ a m. m)
            i.rows 𝓘.generators own 𝓘.spanned;
        over = record { side = refl; member = (members p' p_order).1 over };
        members = members;
      },
    )
      where
        𝓘 : IsLattice c (IsIntegralAt (setting_of c) Finite)
        𝓘 = integral_lattice c some

        own : SameSet (P i) (P i)
        own z = (λ m. m, λ m. m)

        members : (z : FunctionOf c) → O z
            → IsIn (setting_of c) (place_of (setting_of c) (scalars_subring c) Finite (IsPolynomial c)
            (IsPrimeTo c p) p' O order (P i) (prime i) over (λ a m. m) i.rows 𝓘.generators own 𝓘.spanned) z
            ↔ P i z
        members =
            place_of_members (setting_of c) (scalars_subring c) Finite (IsPolynomial c) (IsPrimeTo c p) p' O order
            (P i) (prime i) over (λ a m. m)
            i.rows 𝓘.generators own 𝓘.spanned

    decided : (i : RecordedPrime c O) (M : Place (FunctionOf c)) → IsPlaceOfPrime c O p i M → (u : FunctionOf c) → O u
        → IsIn (setting_of c) M u ⊎ (¬ (IsIn (setting_of c) M u))
    decided i M m u u_in =
        elim ((prime i).decide u u_in)
        [ inl a ↦ inl ((m.members u u_in).1 a) | inr n ↦ inr (λ a. n ((m.members u u_in).0 a)) ]

    -- a place is known from its prime
    once : (i : RecordedPrime c O) (M N : Place (FunctionOf c)) → IsPlaceOfPrime c O p i M → IsPlaceOfPrime c O p i N
        → IsSamePlace (setting_of c) M N
    once i M N m n =
        same_by_order (setting_of c) (scalars_subring c) M N (IsPolynomial c) (IsPrimeTo c p) p' O (over_order M m)
        (over_order N n)
        (m.over.side ∙ sym n.over.side)
        (λ z z_in. (
          λ a. (n.members z z_in).1 ((m.members z z_in).0 a),
          λ a. (m.members z z_in).1 ((n.members z z_in).0 a),
        ))
      where
        over_order : (M : Place (FunctionOf c)) → IsPlaceOfPrime c O p i M
            → IsPlaceOver (setting_of c) M (IsPolynomial c) (IsPrimeTo c p) (of_poly c p) O
        over_order M m = record {
          place = m.place;
          order = subst (λ s. IsOrderAt (setting_of c) s (IsPolynomial c) (IsPrimeTo c p) (of_poly c p) O)
              (sym m.over.side) order;
          over = m.over.member;
          decide = decided i M m;
        }

    -- ---- the ramification index and the degree

    module _ (i : RecordedPrime c O) (gs : List (FunctionOf c)) (m : IsPlaceOfPrime c O p i (finite c gs)) where
      in_prime : SameSet (P i) (InPrime (setting_of c) (finite c gs) O)
      in_prime z = (
        λ a. let z_in = (prime i).ideal.within z a in (z_in, (m.members z z_in).1 a),
        λ a. (m.members z a.0).0 a.1,
      )

      pair : Pair (ring_of c).ops O (InPrime (setting_of c) (finite c gs) O)
      pair =
          let t = (recorded_family c p h O 𝓞).pair i in
          record {
            tau = t.tau;
            tau_in = (in_prime t.tau).0 t.tau_in;
            gamma = t.gamma;
            gamma_in = λ y a. t.gamma_in y ((in_prime y).1 a);
            outside = outside_same O (P i) (InPrime (setting_of c) (finite c gs) O) in_prime _ t.outside;
          }

      ramified_at : ValueIs (ring_of c).ops O (P i) ((recorded_family c p h O 𝓞).pair i) (of_poly c p) (pos i.exponent)
          → HasRamification (setting_of c) (finite c gs) (of_poly c p) i.exponent
      unfolding pair
      ramified_at v =
          (valuation_iff (setting_of c) (scalars_subring c) (finite c gs) m.place (IsPolynomial c) (IsPrimeTo c p) O
          p' order m.over.member
          (decided i (finite c gs) m) pair p' (pos i.exponent)).1
          (record {
            unit = v.unit;
            unit_out = outside_same O (P i) (InPrime (setting_of c) (finite c gs) O) in_prime _ v.unit_out;
            inside = outside_same O (P i) (InPrime (setting_of c) (finite c gs) O) in_prime _ v.inside;
          })

      abbrev M : FunctionOf c → Type 0
      M = IsIn (setting_of c) (finite c gs)

      𝓜 : IsModule (ring_of c).ops (IsPolynomial c) (IsIn (setting_of c) (finite c gs))
      𝓜 = span_module (ring_of c) (IsPolynomial c) (polynomials_subring c) gs

      integral_product : (u w : FunctionOf c) → Int c u → Int c w → Int c (u ⊗ w)
      integral_product = (integral_ring (ring_of c) (IsPolynomial c) (polynomials_subring c)).product_in

      sum : (l u r x z v : FunctionOf c) → l ⊗ u ⊕ r ⊗ x ≡ 𝟙 → l ⊗ (u ⊗ z) ⊕ ⊖ v ⊕ (r ⊗ z) ⊗ x ≡ z ⊕ ⊖ v
      sum l u r x z v e =
          from_one (ring_of c) z e (ring (ring_of c) (l ∷ u ∷ r ∷ x ∷ z ∷ v ∷ []) λ o g. simp
          (reads, o, g 0, g 1, g 2, g 3, g 4, g 5) (o.equal _ _ refl))

      -- classes of the order modulo the prime are classes of the integral functions modulo the place
      degree_at : HasDegree (setting_of c) (finite c gs) i.degree
      degree_at =
          let deg = classes_of_index c O (P i) i.degree i.index in
          record {
            classes = deg.classes;
            count = deg.count;
            members = All-weaker O (Int c) (λ z. order.integral z) deg.classes deg.members;
            spanning = λ z z_in.
                let a = order.locally z z_in in
                let b = order.prime_to.comaximal a.factor a.factor_in in
                let y_in = 𝓞.ring.product_in b.left (a.factor ⊗ z) (order.base b.left b.left_in) a.multiple_in in
                let s = deg.spanning (b.left ⊗ (a.factor ⊗ z)) y_in in (
                  s.0,
                  s.1,
                  subst M (sum b.left a.factor b.right p' z s.0 b.is)
                      (𝓜.sum_in _ _ ((m.members _ ((prime i).ideal.within _ s.2)).1 s.2)
                      (m.place.ideal (b.right ⊗ z) p'
                      (integral_product b.right z (order.integral b.right (order.base b.right b.right_in)) z_in)
                      m.over.member)),
                );
            independent = λ cs size all a.
                deg.independent cs size all
                ((m.members _ (combination_in O 𝓞 order.base cs deg.classes all deg.members)).0 a);
          }

    ramified_is : (i : RecordedPrime c O)
        → ValueIs (ring_of c).ops O (P i) ((recorded_family c p h O 𝓞).pair i) (of_poly c p) (pos i.exponent)
        → (M : Place (FunctionOf c)) → IsPlaceOfPrime c O p i M
        → HasRamification (setting_of c) M (of_poly c p) i.exponent
    ramified_is i v M m =
        on_side (setting_of c) (scalars_subring c) Finite
        (λ M. IsPlaceOfPrime c O p i M → HasRamification (setting_of c) M (of_poly c p) i.exponent)
        (λ gs n. ramified_at i gs n v) M m.over.side m

    degree_is : (i : RecordedPrime c O) (M : Place (FunctionOf c)) → IsPlaceOfPrime c O p i M
        → HasDegree (setting_of c) M i.degree
    degree_is i M m =
        on_side (setting_of c) (scalars_subring c) Finite
        (λ M. IsPlaceOfPrime c O p i M → HasDegree (setting_of c) M i.degree)
        (λ gs n. degree_at i gs n) M m.over.side m

    -- ---- every place over p

    every : (gs : List (FunctionOf c)) → IsPlace (setting_of c) (finite c gs)
        → IsIn (setting_of c) (finite c gs) (of_poly c p)
        → Any (λ i. IsPlaceOfPrime c O p i (finite c gs)) ps
    every gs place m_in =
        any_weaker (λ i. SameSet (P i) Q) (λ i. IsPlaceOfPrime c O p i (finite c gs))
        (λ i s. record {
          place = place;
          over = record { side = refl; member = m_in };
          members = λ z z_in. (λ a. (s z).1 (z_in, a), λ a. ((s z).0 a).1);
        }) ps
        (prime_in_system (ring_of c) O 𝓞.ring p' p_order I P (recorded_family c p h O 𝓞) Q 𝓠
        (order_generators c p h O 𝓞 Q (ideal_lattice c p h O 𝓞 Q 𝓠.ideal (p_order, m_in) 𝓠.decide)) ps sys
        (p_order, m_in))
      where
        Q : FunctionOf c → Type 0
        Q = InPrime (setting_of c) (finite c gs) O

        𝓠 : IsPrime (ring_of c).ops O (InPrime (setting_of c) (finite c gs) O)
        𝓠 =
            prime_at_order (setting_of c) (scalars_subring c) (finite c gs) place (IsPolynomial c) (IsPrimeTo c p) O
            p' order m_in
            (λ u u_in. (place_prime c gs place).decide u (order.integral u u_in))

    pub order_places : ArePrimesOfPlaces c O p ps
    order_places = record {
      places =
          All-weaker (λ i. P i p') (λ i. (M : Place (FunctionOf c)) × IsPlaceOfPrime c O p i M) place_is ps sys.over;
      once = once;
      ramified =
          All-weaker (λ i. ValueIs (ring_of c).ops O (P i) ((recorded_family c p h O 𝓞).pair i) (of_poly c p)
          (pos i.exponent))
          (λ i. (M : Place (FunctionOf c)) → IsPlaceOfPrime c O p i M
          → HasRamification (setting_of c) M (of_poly c p) i.exponent) ramified_is ps
          (record_values c p h O 𝓞 ps valid);
      degrees =
          All-weaker (λ i. P i p') (λ i. (M : Place (FunctionOf c)) → IsPlaceOfPrime c O p i M
          → HasDegree (setting_of c) M i.degree)
          (λ i over. degree_is i) ps sys.over;
      different = λ i j d l m M N a b s.
          let t = apart i j d l m in
          let first_in = (get_or ps i d).field.ideal.within t.first t.first_in in
          t.first_out ((b.members t.first first_in).0
          ((s.members t.first).0 ((a.members t.first first_in).1 t.first_in)));
      complete = λ M place over.
          on_side (setting_of c) (scalars_subring c) Finite
          (λ M. IsPlace (setting_of c) M → IsIn (setting_of c) M (of_poly c p) → Any (λ i. IsPlaceOfPrime c O p i M) ps)
          every M over.side place over.member;
    }
