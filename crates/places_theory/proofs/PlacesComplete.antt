-- A list of places over p whose primes are a system at p has each place over p.
use Rattle.std.specs.List.{Any}
use Rattle.std.proofs.Common.{◌≡◌, List, [], ◌∷◌, ◌++◌, map, sym, ◌∙◌, subst, All}
use Rattle.std.proofs.lemmas.List.Elements.{All-nil, All-cons, All-head, All-tail, All-weaker}
use Rattle.ring_theory.specs.Subsets.{IsSubring, IsModule, Span}
use Rattle.ring_theory.specs.Local.{Locally}
use Rattle.ring_lemmas.proofs.Ring.{mul_left_comm}
use Rattle.ring_theory.proofs.Subsets.{span_module, span_members}
use Rattle.prime_theory.specs.Ideals.{SameSet}
use Rattle.prime_theory.specs.Systems.{Generators, IsFamily, IsSystem}
use Rattle.prime_theory.proofs.Lists.{any_weaker}
use Rattle.prime_theory.proofs.Scalars.{span_wider}
use Rattle.prime_theory.proofs.PlaceGenerators.{prime_generators}
use Rattle.prime_theory.proofs.Compare.{prime_in_system}
use Rattle.function_field.specs.declared.side.Side.{Side}
use Rattle.function_field.specs.Setting.{Setting}
use Rattle.function_field.specs.Places.{Place, IsIn, IsSamePlace}
use Rattle.places_theory.specs.Orders.{IsPlaceOver, InPrime}
use Rattle.places_theory.proofs.PlaceValues.{place_prime}
use Rattle.places_theory.proofs.PlacesOver.{same_by_order}

module _ {E : Type 0} (S : Setting E) (scalars : (s : Side) → IsSubring S.functions.ops (S.IsScalar s)) (P : Place E)
    (Base N : E → Type 0) (p : E) (O : E → Type 0) (over : IsPlaceOver S P Base N p O) where
  infixl 65 ◌⊕◌
  infixl 70 ◌⊗◌
  infixr 80 ⊖◌
  open S.functions use {ops, 𝟘, 𝟙, ◌⊕◌, ◌⊗◌, ⊖◌}

  -- one factor prime to p that takes members of the place into the order
  record Cleared (gs : List E) : Type 0 where
    factor : E
    factor_in : N factor
    cleared : All (λ g. IsIn S P g × O (factor ⊗ g)) gs

  clear : (gs : List E) → All (IsIn S P) gs → Cleared gs
  clear [] h = record {
    factor = 𝟙;
    factor_in = over.order.prime_to.one_in;
    cleared = All-nil (λ g. IsIn S P g × O (𝟙 ⊗ g));
  }
  clear (g ∷ gs) h =
      let o = over.order in
      let m = All-head (IsIn S P) g gs h in
      let k = o.locally g (over.place.integral g m) in
      let r = clear gs (All-tail (IsIn S P) g gs h) in
      let w = k.factor ⊗ r.factor in
      record {
        factor = w;
        factor_in = o.prime_to.product_in _ _ k.factor_in r.factor_in;
        cleared =
            All-cons (λ x. IsIn S P x × O (w ⊗ x)) g gs (
              m,
              subst O (mul_left_comm S.functions _ _ _ ∙ sym (S.functions.mul_assoc _ _ _))
                  (o.ring.product_in _ _ (o.base _ (o.prime_to.within _ r.factor_in)) k.multiple_in),
            )
            (All-weaker (λ x. IsIn S P x × O (r.factor ⊗ x)) (λ x. IsIn S P x × O (w ⊗ x))
            (λ x i. (
              i.0,
              subst O (sym (S.functions.mul_assoc _ _ _))
                  (o.ring.product_in _ _ (o.base _ (o.prime_to.within _ k.factor_in)) i.1),
            ))
            gs r.cleared);
      }

  -- generators of the prime of a place, from rows of the order and generators of the place
  pub generators_of_place : ((a : E) → Base a → S.IsScalar P.side a) → (rows : List E) → SameSet O (Span ops Base rows)
      → ((z : E) → IsIn S P z → Locally ops N (Span ops Base P.generators) z) → Generators ops O (InPrime S P O)
  generators_of_place scalar rows spanned locally =
      let o = over.order in
      let c = clear P.generators (span_members S.functions (S.IsScalar P.side) (scalars P.side) P.generators) in
      let 𝓢 = span_module S.functions (S.IsScalar P.side) (scalars P.side) P.generators in
      let 𝓜 : IsModule ops Base (IsIn S P)
      = record { zero_in = 𝓢.zero_in; sum_in = 𝓢.sum_in; scale_in = λ s a i m. 𝓢.scale_in s a (scalar s i) m } in
      let all = map (ops.◌⊗◌ c.factor) P.generators ++ map (ops.◌⊗◌ p) rows in
      let same : SameSet (InPrime S P O) (Span ops Base all)
      = prime_generators S.functions Base o.base_ring N p o.prime_to O o.ring o.base (IsIn S P) 𝓜 over.over
      (λ a b i m. over.place.ideal a b (o.integral a i) m) rows P.generators spanned locally c.factor c.factor_in
      c.cleared in
      record {
        list = all;
        members =
            All-weaker (Span ops Base all) (InPrime S P O) (λ b m. (same b).1 m) all
            (span_members S.functions Base o.base_ring all);
        spanned = λ a m. span_wider S.functions Base O o.base all a ((same a).0 m);
      }

  -- the place is the same as one of the list
  pub place_in_system : (I : Type 0) (at : I → Place E) → ((i : I) → IsPlaceOver S (at i) Base N p O)
      → ((i : I) → (at i).side ≡ P.side)
      → IsFamily ops O I (λ i. InPrime S (at i) O) → (is : List I) → IsSystem ops O p I (λ i. InPrime S (at i) O) is
      → ((a : E) → Base a → S.IsScalar P.side a) → (rows : List E) → SameSet O (Span ops Base rows)
      → ((z : E) → IsIn S P z → Locally ops N (Span ops Base P.generators) z) → Any (λ i. IsSamePlace S (at i) P) is
  place_in_system I at places sides fam is sys scalar rows spanned locally =
      let o = over.order in
      let p_in : O p = o.base p o.prime_to.p_in in
      any_weaker (λ i. SameSet (InPrime S (at i) O) (InPrime S P O)) (λ i. IsSamePlace S (at i) P)
      (λ i e.
      same_by_order S scalars (at i) P Base N p O (places i) over (sides i)
      (λ z z_in. (λ m. ((e z).0 (z_in, m)).1, λ m. ((e z).1 (z_in, m)).1)))
      is
      (prime_in_system S.functions O o.ring p p_in I (λ i. InPrime S (at i) O) fam (InPrime S P O)
      (place_prime S scalars P over.place Base N O p o over.over over.decide)
      (generators_of_place scalar rows spanned locally) is sys (p_in, over.over))
