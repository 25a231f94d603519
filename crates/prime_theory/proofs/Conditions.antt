-- A prime system at p has every prime over p.
use Rattle.std.specs.List.{Any}
use Rattle.prime_theory.proofs.Lists.{any_here, any_there}
use Rattle.std.proofs.Common.{◌⊎◌, inl, inr, List, [], ◌∷◌, All}
use Rattle.std.proofs.lemmas.List.Elements.{All-nil, All-cons}
use Rattle.ring_lemmas.specs.Ring.{CommRing}
use Rattle.ring_theory.specs.Subsets.{IsSubring}
use Rattle.prime_theory.specs.Ideals.{SameSet}
use Rattle.prime_theory.specs.Primes.{Different}
use Rattle.prime_theory.specs.Systems.{IsFamily, IsSystem, Escapes}
use Rattle.prime_theory.proofs.Systems.{none_escaped}

module _ {A : Type 0} (R : CommRing A) (S : A → Type 0) (𝓢 : IsSubring R.ops S) (O : A → Type 0) (𝓞 : IsSubring R.ops O)
    (base : (s : A) → S s → O s) (I : Type 0) (P : I → A → Type 0) (fam : IsFamily R.ops O I P) where
  infixl 65 ◌⊕◌
  infixl 70 ◌⊗◌
  infixr 80 ⊖◌
  open R use {𝟘, 𝟙, ◌⊕◌, ◌⊗◌, ⊖◌}

  -- a prime over p is in each prime system at p
  same_or_escapes : (j : I) (is : List I) → Any (λ i. SameSet (P i) (P j)) is ⊎ All (λ i. Escapes (P j) (P i)) is
  same_or_escapes j [] = inr (All-nil (λ i. Escapes (P j) (P i)))
  same_or_escapes j (i ∷ is) = go (fam.compare i j) (same_or_escapes j is)
    where
      go : SameSet (P i) (P j) ⊎ Different (P i) (P j) → Any (λ i. SameSet (P i) (P j)) is
          ⊎ All (λ i. Escapes (P j) (P i)) is
          → Any (λ i. SameSet (P i) (P j)) (i ∷ is) ⊎ All (λ i. Escapes (P j) (P i)) (i ∷ is)
      go (inl s) r = inl (any_here (λ i. SameSet (P i) (P j)) i is s)
      go (inr d) (inl r) = inl (any_there (λ i. SameSet (P i) (P j)) i is r)
      go (inr d) (inr r) =
          inr (All-cons (λ i. Escapes (P j) (P i)) i is
          (record { member = d.second; member_in = d.second_in; out = d.second_out }) r)

  pub system_complete : (p : A) → O p → (is : List I) → IsSystem R.ops O p I P is → (j : I) → P j p
      → Any (λ i. SameSet (P i) (P j)) is
  system_complete p p_in is sys j m = go (same_or_escapes j is)
    where
      go : Any (λ i. SameSet (P i) (P j)) is ⊎ All (λ i. Escapes (P j) (P i)) is → Any (λ i. SameSet (P i) (P j)) is
      go (inl h) = h
      go (inr h) = absurd (none_escaped R O 𝓞 p p_in I P fam is sys (P j) (fam.prime j) m h)
