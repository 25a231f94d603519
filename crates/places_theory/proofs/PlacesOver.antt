-- The places over p and the primes of an order that is maximal at p: each prime with finitely many generators is that
-- of a place, and a place is known from its prime.
use Rattle.std.proofs.Common.{◌≡◌, ◌↔◌, List, ◌++◌, map, sym, subst}
use Rattle.ring_theory.specs.Subsets.{IsSubring, IsModule, Span}
use Rattle.prime_theory.specs.Ideals.{SameSet}
use Rattle.prime_theory.specs.Primes.{IsPrime}
use Rattle.prime_theory.specs.Places.{IsMaximalIdeal, PlaceOf}
use Rattle.prime_theory.proofs.Places.{place_of_prime, place_from_prime, place_within}
use Rattle.prime_theory.proofs.PlaceGenerators.{place_generators}
use Rattle.function_field.specs.declared.side.Side.{Side}
use Rattle.function_field.specs.Setting.{Setting}
use Rattle.function_field.specs.Places.{Place, IsPlace, IsIntegralAt, IsIn, IsSamePlace}
use Rattle.places_theory.specs.Orders.{IsOrderAt, IsPlaceOver, InPrime}
use Rattle.places_theory.proofs.Sides.{side_ring, scalar_integral, place_is_maximal}

module _ {E : Type 0} (S : Setting E) (scalars : (s : Side) → IsSubring S.functions.ops (S.IsScalar s)) where
  infixl 65 ◌⊕◌
  infixl 70 ◌⊗◌
  infixr 80 ⊖◌
  open S.functions use {ops, 𝟘, 𝟙, ◌⊕◌, ◌⊗◌, ⊖◌}

  -- a set with the members of a maximal ideal is one
  maximal_same : (B M M' : E → Type 0) → SameSet M M' → IsMaximalIdeal ops B M → IsMaximalIdeal ops B M'
  maximal_same B M M' e h = record {
    ideal = record {
      within = λ a i. h.ideal.within a ((e a).1 i);
      zero_in = (e 𝟘).0 h.ideal.zero_in;
      sum_in = λ a b i j. (e _).0 (h.ideal.sum_in a b ((e a).1 i) ((e b).1 j));
      scale_in = λ s a i j. (e _).0 (h.ideal.scale_in s a i ((e a).1 j));
    };
    proper = λ i. h.proper ((e 𝟙).1 i);
    invert = λ u u_in n.
        let w = h.invert u u_in (λ i. n ((e u).0 i)) in
        record { inverse = w.inverse; inverse_in = w.inverse_in; is = (e _).0 w.is };
  }

  module _ (s : Side) (Base N : E → Type 0) (p : E) (O : E → Type 0) (order : IsOrderAt S s Base N p O) where
    -- the place of a prime: spanned by generators of the prime over the base ring and the multiples by p of those of
    -- the side's ring
    module _ (P : E → Type 0) (𝓟 : IsPrime ops O P) (p_in : P p) (scalar : (a : E) → Base a → S.IsScalar s a)
        (rows gens : List E) (spanned : SameSet P (Span ops Base rows))
        (all : SameSet (IsIntegralAt S s) (Span ops (S.IsScalar s) gens)) where
      abbrev pub place_of : Place E
      place_of = record { side = s; generators = rows ++ map (◌⊗◌ p) gens }

      maximal : IsMaximalIdeal ops (IsIntegralAt S s) (PlaceOf ops (IsIntegralAt S s) N P)
      maximal =
          place_of_prime S.functions Base order.base_ring N p order.prime_to O order.ring order.base (IsIntegralAt S s)
          (side_ring S scalars s)
          order.integral order.locally P 𝓟 p_in

      module_of : IsModule ops (S.IsScalar s) (PlaceOf ops (IsIntegralAt S s) N P)
      module_of = record {
        zero_in = maximal.ideal.zero_in;
        sum_in = maximal.ideal.sum_in;
        scale_in = λ r a h i. maximal.ideal.scale_in r a (scalar_integral S scalars s r h) i;
      }

      pub members_are : SameSet (PlaceOf ops (IsIntegralAt S s) N P) (IsIn S place_of)
      members_are =
          place_generators S.functions Base order.base_ring N p order.prime_to O order.ring order.base (S.IsScalar s)
          (scalars s) scalar
          (IsIntegralAt S s) (side_ring S scalars s) (scalar_integral S scalars s) order.integral order.locally P
          𝓟.ideal p_in module_of
          rows gens spanned all

      pub place_of_is_place : IsPlace S place_of
      place_of_is_place = (place_is_maximal S scalars place_of).1
          (maximal_same (IsIntegralAt S s) _ (IsIn S place_of) members_are maximal)

      -- its members in the order are the prime
      pub place_of_members : (z : E) → O z → IsIn S place_of z ↔ P z
      place_of_members z z_in =
          let w =
          place_within S.functions Base order.base_ring N p order.prime_to O order.ring order.base (IsIntegralAt S s)
          (side_ring S scalars s)
          order.integral order.locally P 𝓟 p_in z z_in in
          (λ h. w.0 ((members_are z).1 h), λ h. (members_are z).0 (w.1 h))

  -- two places over p with the same members in the order are the same
  pub same_by_order : (P Q : Place E) (Base N : E → Type 0) (p : E) (O : E → Type 0) → IsPlaceOver S P Base N p O
      → IsPlaceOver S Q Base N p O
      → P.side ≡ Q.side → ((z : E) → O z → IsIn S P z ↔ IsIn S Q z) → IsSamePlace S P Q
  same_by_order P Q Base N p O h k e same = record {
    side = e;
    members = λ z. (
      λ m.
          let l = (known P h z).0 m in
          (known Q k z).1 (
            subst (λ s. IsIntegralAt S s z) e l.0,
            record {
              factor = l.1.factor;
              factor_in = l.1.factor_in;
              multiple_in = (l.1.multiple_in.0, (same _ l.1.multiple_in.0).0 l.1.multiple_in.1);
            },
          ),
      λ m.
          let l = (known Q k z).0 m in
          (known P h z).1 (
            subst (λ s. IsIntegralAt S s z) (sym e) l.0,
            record {
              factor = l.1.factor;
              factor_in = l.1.factor_in;
              multiple_in = (l.1.multiple_in.0, (same _ l.1.multiple_in.0).1 l.1.multiple_in.1);
            },
          ),
    );
  }
    where
      known : (T : Place E) → IsPlaceOver S T Base N p O → (z : E)
          → IsIn S T z ↔ PlaceOf ops (IsIntegralAt S T.side) N (InPrime S T O) z
      known T o =
          place_from_prime S.functions Base o.order.base_ring N p o.order.prime_to O o.order.ring o.order.base
          (IsIntegralAt S T.side)
          (side_ring S scalars T.side) o.order.integral o.order.locally (IsIn S T)
          ((place_is_maximal S scalars T).0 o.place) o.over
