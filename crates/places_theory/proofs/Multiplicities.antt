-- The multiplicity of a divisor at a place: there is at most one, and there is one where sameness with the divisor's
-- places is decided.
use Rattle.std.proofs.Common.{◌≡◌, inl, inr, ℕ, zero, suc, ◌<◌, [], ◌∷◌, length, get_or, refl, sym, ◌∙◌, subst, arith, All}
use Rattle.std.specs.List.{AllPairs, Contains}
use Rattle.std.proofs.lemmas.List.Elements.{All-head, All-tail}
use Rattle.std.proofs.Math.IntN.{ℤ, pos}
use Rattle.prime_theory.proofs.Lists.{pairs_head, pairs_tail}
use Rattle.function_field.specs.Setting.{Setting}
use Rattle.function_field.specs.Places.{Place, IsSamePlace}
use Rattle.function_field.specs.Divisors.{Entry, Divisor, IsDivisor, HasMultiplicity}
use Rattle.places_theory.proofs.SamePlaces.{same_place_refl, same_place_sym, same_place_trans}

module _ {E : Type 0} (S : Setting E) where
  pub multiplicity_unique : (D : Divisor E) (P : Place E) (m k : ℤ) → HasMultiplicity S D P m → HasMultiplicity S D P k
      → m ≡ k
  multiplicity_unique [] P m k h i = h ∙ sym i
  multiplicity_unique (e ∷ D) P m k (inl h) (inl i) = sym h.1 ∙ i.1
  multiplicity_unique (e ∷ D) P m k (inl h) (inr i) = absurd (i.0 h.0)
  multiplicity_unique (e ∷ D) P m k (inr h) (inl i) = absurd (h.0 i.0)
  multiplicity_unique (e ∷ D) P m k (inr h) (inr i) = multiplicity_unique D P m k h.1 i.1

  pub multiplicity_exists : (D : Divisor E) (P : Place E) → All (λ e. Dec (IsSamePlace S P e.place)) D
      → (m : ℤ) × HasMultiplicity S D P m
  multiplicity_exists [] P h = (pos 0, refl)
  multiplicity_exists (e ∷ D) P h =
      go (All-head (λ e. Dec (IsSamePlace S P e.place)) e D h)
      (multiplicity_exists D P (All-tail (λ e. Dec (IsSamePlace S P e.place)) e D h))
    where
      go : Dec (IsSamePlace S P e.place) → (m : ℤ) × HasMultiplicity S D P m → (m : ℤ) × HasMultiplicity S (e ∷ D) P m
      go (yes s) r = (e.times, inl (s, refl))
      go (no n) r = (r.0, inr (n, r.1))

  -- with no decision it cannot be that there is none
  pub multiplicity_not_missing : (D : Divisor E) (P : Place E) → ¬ (¬ ((m : ℤ) × HasMultiplicity S D P m))
  multiplicity_not_missing [] P none = none (pos 0, refl)
  multiplicity_not_missing (e ∷ D) P none =
      multiplicity_not_missing D P (λ r. none (r.0, inr ((λ s. none (e.times, inl (s, refl))), r.1)))

  -- the same places have the same multiplicity
  pub multiplicity_same : (D : Divisor E) (P Q : Place E) (m : ℤ) → IsSamePlace S P Q → HasMultiplicity S D P m
      → HasMultiplicity S D Q m
  multiplicity_same [] P Q m s h = h
  multiplicity_same (e ∷ D) P Q m s (inl h) = inl (same_place_trans S Q P e.place (same_place_sym S P Q s) h.0, h.1)
  multiplicity_same (e ∷ D) P Q m s (inr h) =
      inr ((λ i. h.0 (same_place_trans S P Q e.place s i)), multiplicity_same D P Q m s h.1)

  abbrev Apart : Entry E → Entry E → Type 0
  Apart e e' = ¬ IsSamePlace S e.place e'.place

  -- an entry of a divisor gives the multiplicity at its place
  at_entry : (D : Divisor E) → AllPairs Apart D → (n : ℕ) (e : Entry E) → n < length D → get_or D n e ≡ e
      → HasMultiplicity S D e.place e.times
  at_entry [] apart n e l i = absurd (omega arith)
  at_entry (d ∷ D) apart zero e l i = inl (
    subst (λ x. IsSamePlace S e.place x.place) (sym i) (same_place_refl S e.place),
    subst (λ x. d.times ≡ x.times) i
        refl,
  )
  at_entry (d ∷ D) apart (suc n) e l i =
      inr (
        (λ s. subst (λ x. ¬ IsSamePlace S d.place x.place) i (pairs_head Apart d D apart n e (omega arith))
            (same_place_sym S e.place d.place s)),
        at_entry D (pairs_tail Apart d D apart) n e (omega arith) i,
      )

  pub multiplicity_of_entry : (D : Divisor E) → IsDivisor S D → (e : Entry E) → Contains D e
      → HasMultiplicity S D e.place e.times
  multiplicity_of_entry D h e i = at_entry D h.different i.0 e i.1 i.2

  -- at all other places it is 0
  pub multiplicity_elsewhere : (D : Divisor E) (P : Place E) → All (λ e. ¬ IsSamePlace S P e.place) D
      → HasMultiplicity S D P (pos 0)
  multiplicity_elsewhere [] P h = refl
  multiplicity_elsewhere (e ∷ D) P h =
      inr (
        All-head (λ e. ¬ IsSamePlace S P e.place) e D h,
        multiplicity_elsewhere D P (All-tail (λ e. ¬ IsSamePlace S P e.place) e D h),
      )
