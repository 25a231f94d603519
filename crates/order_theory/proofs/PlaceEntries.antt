-- The finite places over an irreducible polynomial with their ramification and degrees: the fundamental equality for
-- places.
use Rattle.std.proofs.Common.{◌≡◌, ◌⊎◌, inl, inr, ◌+◌, ◌*◌, ◌-◌, List, [], ◌∷◌, length, map, pos, refl, sym, ◌∙◌, ap, subst, arith}
use Rattle.std.specs.Prelude.{ℤ}
use Rattle.std.specs.List.{Any, AllPairs}
use Rattle.std.proofs.lemmas.List.Kept.{AllPairs-cons}
use Rattle.std.proofs.lemmas.List.Elements.{All-map, All-weaker}
use Rattle.ring_lemmas.proofs.Ring.{one_mul}
use Rattle.prime_theory.specs.Ideals.{SameSet}
use Rattle.prime_theory.specs.Primes.{Different, Pair, Outside}
use Rattle.prime_theory.specs.IntegerValues.{ValueIs}
use Rattle.prime_theory.specs.Orders.{MaximalAt}
use Rattle.prime_theory.proofs.Lists.{pairs_head, pairs_tail, any_here, any_there, any_cases, any_none}
use Rattle.ff_fields.specs.Field.{CodeField}
use Rattle.ff_poly.specs.Words.{IsIrreducibleList}
use Rattle.ff_poly.specs.Polynomials.{Polynomial, polynomials, codes_of}
use Rattle.function_field.specs.declared.side.Side.{Side}
use Rattle.function_field.specs.declared.side.Side.TheVariants.{Finite, Infinite}
use Rattle.function_field.specs.Places.{IsPlace, IsIn, IsSamePlace, HasValuation}
use Rattle.function_field.specs.Functions.{Equation, FunctionOf, ring_of, of_poly, IsPolynomial, degree_of_y, setting_of}
use Rattle.function_field.specs.Discriminant.{discriminant}
use Rattle.function_field.proofs.ScalarRings.{polynomials_subring, scalars_subring}
use Rattle.places_theory.specs.Orders.{IsOrderAt, InPrime}
use Rattle.places_theory.proofs.PlaceValues.{valuation_iff}
use Rattle.order_theory.specs.Orders.{IsPrimeTo}
use Rattle.order_theory.specs.PlaceLists.{PlaceOver, IsAllOver, sum_of_degrees}
use Rattle.lattice_theory.proofs.Bases.{index_same}
use Rattle.order_theory.proofs.IntegralLattice.{integral_subring, polynomial_integral}
use Rattle.order_theory.proofs.LocalOrders.{prime_to}
use Rattle.order_theory.proofs.FinitePlaces.{Int, finite, place_prime}
use Rattle.order_theory.proofs.Degrees.{degree_of_index}
use Rattle.order_theory.proofs.PrimesOver.{Index, PrimeOf, prime_over, family_of, primes_at}
use Rattle.order_theory.proofs.IndexProducts.{total}
use Rattle.order_theory.proofs.Ramification.{prime_index, ramified, fundamental_equality}
use Rattle.order_theory.proofs.PlaceLists.{integral_order, integral_maximal, rows, members, prime_place, place_is_listed, same_place, different}

-- pairs of a mapped list
pub pairs_map : {X Y : Type 0} (R : X → X → Type 0) (T : Y → Y → Type 0) (f : X → Y)
    → ((x y : X) → R x y → T (f x) (f y)) → (xs : List X) → AllPairs R xs → AllPairs T (map f xs)
pairs_map R T f g [] h = λ i j d l m. absurd (omega arith)
pairs_map R T f g (x ∷ xs) h =
    AllPairs-cons T (f x) (map f xs)
    (All-map (T (f x)) f xs (All-weaker (R x) (λ y. T (f x) (f y)) (g x) xs (pairs_head R x xs h)))
    (pairs_map R T f g xs (pairs_tail R x xs h))

pub any_map : {X Y : Type 0} (Q : X → Type 0) (T : Y → Type 0) (f : X → Y) → ((x : X) → Q x → T (f x))
    → (xs : List X) → Any Q xs → Any T (map f xs)
any_map Q T f g [] h = absurd (any_none Q h)
any_map Q T f g (x ∷ xs) h = go (any_map Q T f g xs) (any_cases Q x xs h)
  where
    go : (Any Q xs → Any T (map f xs)) → Q x ⊎ Any Q xs → Any T (f x ∷ map f xs)
    go again (inl q) = any_here T (f x) (map f xs) (g x q)
    go again (inr a) = any_there T (f x) (map f xs) (again a)

module _ {k : CodeField} (c : Equation k) (p : Polynomial k) (h : IsIrreducibleList k.ops (codes_of k p)) where
  open ring_of c use {𝟘, 𝟙, ◌⊕◌, ◌⊗◌, ⊖◌}

  infixl 65 ◌⊕◌
  infixl 70 ◌⊗◌
  infixr 80 ⊖◌
  -- the integral functions are an order that is maximal at p
  pub integral_order_at : IsOrderAt (setting_of c) Finite (IsPolynomial c) (IsPrimeTo c p) (of_poly c p) (Int c)
  integral_order_at = record {
    base_ring = polynomials_subring c;
    prime_to = prime_to c p h;
    ring = integral_subring c;
    base = polynomial_integral c;
    integral = λ z m. m;
    locally =
        λ z m. record {
          factor = 𝟙;
          factor_in = (prime_to c p h).one_in;
          multiple_in = subst (Int c) (sym (one_mul (ring_of c) z)) m;
        };
  }

module _ {A : Type 0} (O P P' : A → Type 0) (s : SameSet P P') where
  pub outside_same : (u : A) → Outside O P u → Outside O P' u
  outside_same u o = record { within = o.within; out = λ m. o.out ((s u).1 m) }

module _ {k : CodeField} (c : Equation k) (some : ¬ (discriminant c ≡ (polynomials k).𝟘)) (p : Polynomial k)
    (h : IsIrreducibleList k.ops (codes_of k p)) where
  open ring_of c use {𝟘, 𝟙, ◌⊕◌, ◌⊗◌, ⊖◌}

  infixl 65 ◌⊕◌
  infixl 70 ◌⊗◌
  infixr 80 ⊖◌
  abbrev P : Index c p h (Int c) (integral_order c some p h) → FunctionOf c → Type 0
  P = PrimeOf c p h (Int c) (integral_order c some p h)

  abbrev maximal : MaximalAt (ring_of c).ops (of_poly c p) (Int c) (Int c)
  maximal = integral_maximal c some p h

  -- the valuation of a place over p is that of its prime
  module _ (i : Index c p h (Int c) (integral_order c some p h)) (gs : List (FunctionOf c))
      (place : IsPlace (setting_of c) (finite c gs))
      (s : SameSet (PrimeOf c p h (Int c) (integral_order c some p h) i) (IsIn (setting_of c) (finite c gs))) where
    in_prime : SameSet (PrimeOf c p h (Int c) (integral_order c some p h) i)
        (InPrime (setting_of c) (finite c gs) (Int c))
    in_prime z = (λ m. (place.integral z ((s z).0 m), (s z).0 m), λ m. (s z).1 m.1)

    over : IsIn (setting_of c) (finite c gs) (of_poly c p)
    over = (s (of_poly c p)).0 (prime_over c p h (Int c) (integral_order c some p h) i)

    pair : Pair (ring_of c).ops (Int c) (P i)
    pair = (family_of c p h (Int c) (integral_order c some p h) (integral_maximal c some p h)).pair i

    pub place_pair : Pair (ring_of c).ops (Int c) (InPrime (setting_of c) (finite c gs) (Int c))
    place_pair = record {
      tau = pair.tau;
      tau_in = (in_prime pair.tau).0 pair.tau_in;
      gamma = pair.gamma;
      gamma_in = λ y m. pair.gamma_in y ((in_prime y).1 m);
      outside = outside_same (Int c) (P i) (InPrime (setting_of c) (finite c gs) (Int c)) in_prime _ pair.outside;
    }

    pub value_of_prime : (z : FunctionOf c) (m : ℤ)
        → ValueIs (ring_of c).ops (Int c) (P i)
        ((family_of c p h (Int c) (integral_order c some p h) (integral_maximal c some p h)).pair i) z m
        → HasValuation (setting_of c) (finite c gs) z m
    unfolding place_pair pair
    value_of_prime z m v =
        (valuation_iff (setting_of c) (scalars_subring c) (finite c gs) place (IsPolynomial c) (IsPrimeTo c p)
        (Int c) (of_poly c p)
        (integral_order_at c p h) over (place_prime c gs place).decide place_pair z m).1
        (record {
          unit = v.unit;
          unit_out = outside_same (Int c) (P i) (InPrime (setting_of c) (finite c gs) (Int c)) in_prime _ v.unit_out;
          inside = outside_same (Int c) (P i) (InPrime (setting_of c) (finite c gs) (Int c)) in_prime _ v.inside;
        })

  -- the place of a prime, with its ramification and degree
  pub entry_of : Index c p h (Int c) (integral_order c some p h) → PlaceOver (setting_of c) (of_poly c p)
  entry_of i =
      let f = prime_index c p h (Int c) (integral_order c some p h) maximal i in
      let r = ramified c p h (Int c) (integral_order c some p h) maximal in
      record {
        place = finite c (rows c some p h i);
        is = prime_place c some p h i;
        over = record {
          side = refl;
          member = (members c some p h i _).0 (prime_over c p h (Int c) (integral_order c some p h) i);
        };
        ramification = r.0 i;
        ramified =
            value_of_prime i (rows c some p h i) (prime_place c some p h i) (members c some p h i) (of_poly c p)
            (pos (r.0 i)) (r.1 i);
        degree = f.0;
        has_degree =
            degree_of_index c (rows c some p h i) f.0
            (index_same c (P i) _ (Int c) (Int c) (members c some p h i) (λ z. (λ m. m, λ m. m)) f.0 f.1);
      }

  pub places_over_p : List (PlaceOver (setting_of c) (of_poly c p))
  places_over_p = map entry_of (primes_at c p h (Int c) (integral_order c some p h) (integral_maximal c some p h)).list

  -- it has each place over p once
  pub all_places_over : IsAllOver (setting_of c) (of_poly c p) places_over_p
  unfolding places_over_p entry_of
  all_places_over = record {
    different =
        pairs_map (λ i j. Different (P i) (P j)) (λ Q T. ¬ IsSamePlace (setting_of c) Q.place T.place) entry_of
        (different c some p h)
        (primes_at c p h (Int c) (integral_order c some p h) maximal).list
        (primes_at c p h (Int c) (integral_order c some p h) maximal).distinct;
    complete = λ Q place over. at Q.side over.side Q.generators place over.member;
  }
    where
      at : (s : Side) → s ≡ Finite → (gs : List (FunctionOf c))
          → IsPlace (setting_of c) (record { side = s; generators = gs })
          → IsIn (setting_of c) (record { side = s; generators = gs }) (of_poly c p)
          → Any (λ T. IsSamePlace (setting_of c) T.place (record { side = s; generators = gs }))
          (map entry_of (primes_at c p h (Int c) (integral_order c some p h) (integral_maximal c some p h)).list)
      at Infinite e gs place m = absurd (cc)
      at Finite e gs place m =
          any_map (λ i. SameSet (P i) (IsIn (setting_of c) (finite c gs)))
          (λ T. IsSamePlace (setting_of c) T.place (finite c gs)) entry_of
          (λ i s. same_place c some p h i gs s)
          (primes_at c p h (Int c) (integral_order c some p h) (integral_maximal c some p h)).list
          (place_is_listed c some p h gs place m)

  -- the sum of e·f is n times the degree of p
  pub sum_of_places : sum_of_degrees (setting_of c) (of_poly c p) places_over_p ≡ degree_of_y c * (length p.0 - 1)
  unfolding places_over_p entry_of
  sum_of_places = go (primes_at c p h (Int c) (integral_order c some p h) (integral_maximal c some p h)).list
      ∙ fundamental_equality c p h (Int c) (integral_order c some p h) maximal
    where
      go : (is : List (Index c p h (Int c) (integral_order c some p h)))
          → sum_of_degrees (setting_of c) (of_poly c p) (map entry_of is)
          ≡ total (ramified c p h (Int c) (integral_order c some p h) (integral_maximal c some p h)).0
          (λ i. (prime_index c p h (Int c) (integral_order c some p h) (integral_maximal c some p h) i).0) is
      go [] = refl
      go (i ∷ is) =
          ap (λ n. (ramified c p h (Int c) (integral_order c some p h) maximal).0 i *
          (prime_index c p h (Int c) (integral_order c some p h) maximal i).0 + n) (go is)
