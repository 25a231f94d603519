-- Two primes with finitely many generators are the same or different, decided on the generators.
use Rattle.std.specs.List.{Any}
use Rattle.std.proofs.Common.{◌⊎◌, inl, inr, List, [], ◌∷◌, All}
use Rattle.std.proofs.lemmas.List.Elements.{All-nil, All-cons, All-head, All-tail}
use Rattle.ring_lemmas.specs.Ring.{CommRing}
use Rattle.ring_theory.specs.Subsets.{IsSubring}
use Rattle.ring_theory.proofs.Subsets.{span_least}
use Rattle.prime_theory.specs.Ideals.{SameSet}
use Rattle.prime_theory.specs.Primes.{IsPrime, Pair, Different}
use Rattle.prime_theory.specs.Systems.{Generators, IsFamily, IsSystem, Escapes}
use Rattle.prime_theory.proofs.Lists.{any_here, any_there}
use Rattle.prime_theory.proofs.Primes.{ideal_module, prime_within}
use Rattle.prime_theory.proofs.Systems.{none_escaped}

module _ {A : Type 0} (R : CommRing A) (O : A → Type 0) (𝓞 : IsSubring R.ops O) where
  -- all members of the list are in P, or one of those of P' is outside
  decide_all : (P P' : A → Type 0) → IsPrime R.ops O P → IsPrime R.ops O P' → (xs : List A) → All P' xs
      → All P xs ⊎ ((x : A) × P' x × (¬ (P x)))
  decide_all P P' 𝓟 𝓟' [] h = inl (All-nil P)
  decide_all P P' 𝓟 𝓟' (x ∷ xs) h =
      go (𝓟.decide x (𝓟'.ideal.within x (All-head P' x xs h))) (decide_all P P' 𝓟 𝓟' xs (All-tail P' x xs h))
    where
      go : P x ⊎ (¬ (P x)) → All P xs ⊎ ((y : A) × P' y × (¬ (P y))) → All P (x ∷ xs) ⊎ ((y : A) × P' y × (¬ (P y)))
      go (inr n) r = inr (x, All-head P' x xs h, n)
      go (inl m) (inl r) = inl (All-cons P x xs m r)
      go (inl m) (inr r) = inr r

  spans_within : (P P' : A → Type 0) → IsPrime R.ops O P → (g : Generators R.ops O P') → All P g.list → (a : A)
      → P' a → P a
  spans_within P P' 𝓟 g h a m = span_least R O 𝓞 P (ideal_module R O 𝓞 P 𝓟.ideal) g.list h a (g.spanned a m)

  pub compare_primes : (P P' : A → Type 0) → IsPrime R.ops O P → IsPrime R.ops O P' → Generators R.ops O P
      → Generators R.ops O P'
      → SameSet P P' ⊎ Different P P'
  compare_primes P P' 𝓟 𝓟' g g' = go (decide_all P' P 𝓟' 𝓟 g.list g.members) (decide_all P P' 𝓟 𝓟' g'.list g'.members)
    where
      go : All P' g.list ⊎ ((x : A) × P x × (¬ (P' x))) → All P g'.list ⊎ ((x : A) × P' x × (¬ (P x))) → SameSet P P'
          ⊎ Different P P'
      go (inl h) r = inl (prime_within R O 𝓞 P' 𝓟' P 𝓟 (spans_within P' P 𝓟' g h))
      go (inr x) (inl h) =
          let s = prime_within R O 𝓞 P 𝓟 P' 𝓟' (spans_within P P' 𝓟 g' h) in
          inl (λ a. ((s a).1, (s a).0))
      go (inr x) (inr y) = inr (record {
        first = x.0;
        first_in = x.1;
        first_out = x.2;
        second = y.0;
        second_in = y.1;
        second_out = y.2;
      })

  -- a prime over p with finitely many generators is in each prime system at p
  module _ (p : A) (p_in : O p) (I : Type 0) (P : I → A → Type 0) (fam : IsFamily R.ops O I P)
      (P' : A → Type 0) (𝓟' : IsPrime R.ops O P') (g : Generators R.ops O P') where
    finds : (is : List I) → Any (λ i. SameSet (P i) P') is ⊎ All (λ i. Escapes P' (P i)) is
    finds [] = inr (All-nil (λ i. Escapes P' (P i)))
    finds (i ∷ is) = go (decide_all (P i) P' (fam.prime i) 𝓟' g.list g.members) (finds is)
      where
        go : All (P i) g.list ⊎ ((x : A) × P' x × (¬ (P i x))) → Any (λ i. SameSet (P i) P') is
            ⊎ All (λ i. Escapes P' (P i)) is
            → Any (λ i. SameSet (P i) P') (i ∷ is) ⊎ All (λ i. Escapes P' (P i)) (i ∷ is)
        go (inl h) r =
            let s = prime_within R O 𝓞 (P i) (fam.prime i) P' 𝓟' (spans_within (P i) P' (fam.prime i) g h) in
            inl (any_here (λ i. SameSet (P i) P') i is (λ a. ((s a).1, (s a).0)))
        go (inr x) (inl r) = inl (any_there (λ i. SameSet (P i) P') i is r)
        go (inr x) (inr r) =
            inr (All-cons (λ i. Escapes P' (P i)) i is (record { member = x.0; member_in = x.1; out = x.2 }) r)

    pub prime_in_system : (is : List I) → IsSystem R.ops O p I P is → P' p → Any (λ i. SameSet (P i) P') is
    prime_in_system is sys m = go (finds is)
      where
        go : Any (λ i. SameSet (P i) P') is ⊎ All (λ i. Escapes P' (P i)) is → Any (λ i. SameSet (P i) P') is
        go (inl h) = h
        go (inr h) = absurd (none_escaped R O 𝓞 p p_in I P fam is sys P' 𝓟' m h)

  -- a family of finitely generated primes with pairs
  pub family_of_generators : (I : Type 0) (P : I → A → Type 0) → ((i : I) → IsPrime R.ops O (P i))
      → ((i : I) → Pair R.ops O (P i))
      → ((i : I) → Generators R.ops O (P i)) → IsFamily R.ops O I P
  family_of_generators I P prime pair gens = record {
    prime = prime;
    pair = pair;
    compare = λ i j. compare_primes (P i) (P j) (prime i) (prime j) (gens i) (gens j);
  }
