-- Primes of an order of a side of a curve.
use Rattle.std.proofs.Common.{◌≡◌, ℕ, List, [], ◌∷◌, All, sym, subst}
use Rattle.std.specs.List.{AllZip}
use Rattle.std.proofs.lemmas.List.Elements.{All-weaker}
use Rattle.ff_fields.specs.Field.{CodeField}
use Rattle.function_field.specs.declared.side.Side.{Side}
use Rattle.function_field.specs.declared.side.Side.TheVariants.{Finite, Infinite}
use Rattle.function_field.specs.Curves.{CurveValue, IsCurve}
use Rattle.function_field.specs.Values.{PresValue, IsPresOver}
use Rattle.ff_lattice.specs.Lattices.{LatticeValue, IsLatticeValue}
use Rattle.value_theory.specs.IntegralLattices.{presentation}
use Rattle.value_theory.specs.Primes.{PrimeValue, IsPrimeOf, AreAllPrimes}
use Rattle.decomposition_theory.specs.Decompositions.{IsMaximalOrderAt}
use Rattle.decomposition_theory.specs.Laws.{IsPrimeSystem}
use Rattle.decomposition_theory.proofs.PrimeSystems.{all_primes}
use Rattle.place_lists_theory.specs.Lists.{ArePlacesOfPrimes}
use Rattle.place_lists_theory.proofs.PlacesOfPrimes.{places_of_primes}
use Rattle.ff_places.specs.Numbers.{AreInOrder}
use Rattle.ff_places.specs.Steps.{ListedPrime, AreListed, IsNumbered}
use Rattle.ff_places.proofs.Systems.{system_kept, all_kept, in_order}

pub over_side : (k : CodeField) (c : CurveValue) → IsCurve k c → (s : Side) → IsPresOver k.ops (presentation c s)
over_side k c h Finite = h.fin_over
over_side k c h Infinite = h.inf_over

-- the same list of primes, of the presentation that is that of the side
pub system_of_side : (k : CodeField) (c : CurveValue) (s : Side) (o : LatticeValue) (pi : List ℕ) (p : PresValue)
    → p ≡ presentation c s → (Ps Qs : List PrimeValue) → Qs ≡ Ps → IsPrimeSystem k p o pi Ps
    → IsPrimeSystem k (presentation c s) o pi Qs
system_of_side k c s o pi p p_is Ps Qs same h =
    subst (λ q. IsPrimeSystem k q o pi Qs) p_is (subst (IsPrimeSystem k p o pi) (sym same) h)

-- the rows of the primes of a list are lattices
pub system_forms : (k : CodeField) (c : CurveValue) (s : Side) (o : LatticeValue) (pi : List ℕ) (Ps : List PrimeValue)
    → IsPrimeSystem k (presentation c s) o pi Ps
    → All (λ (P : PrimeValue). IsLatticeValue k.ops (presentation c s).n P.rows) Ps
system_forms k c s o pi Ps h =
    All-weaker (IsPrimeOf k (presentation c s) o) (λ (P : PrimeValue). IsLatticeValue k.ops (presentation c s).n P.rows)
    (λ P x. x.ideal.lattice) Ps h.primes

module _ (k : CodeField) (c : CurveValue) (curve : IsCurve k c) (s : Side) (o : LatticeValue) (pi : List ℕ)
    (at : IsMaximalOrderAt k (presentation c s) o pi) (Ps : List PrimeValue)
    (system : IsPrimeSystem k (presentation c s) o pi Ps) (ls : List ListedPrime) (listed : AreListed k c s Ps ls)
    (Qs : List PrimeValue) (zip : AllZip IsNumbered ls Qs) where
  pub side_primes : AreAllPrimes k (presentation c s) o pi Qs
  side_primes =
      all_primes k (presentation c s) at.positive o at.order pi at.pi_in at.irreducible Qs
      (system_kept k (presentation c s) o pi Ps ls Qs listed.same zip system)

  pub side_places : (s ≡ Infinite → pi ≡ 0 ∷ 1 ∷ []) → ArePlacesOfPrimes k c s o pi Qs
  side_places t = places_of_primes k c curve o pi at.pi_in at.irreducible Qs s t at.order side_primes

  pub side_order : AreInOrder k c s Qs
  side_order = in_order k c s curve Ps ls Qs listed zip

  pub side_kept : All (λ (P : PrimeValue). P.side ≡ s) Ps → All (λ (P : PrimeValue). P.side ≡ s) Qs
  side_kept = all_kept k (presentation c s) o pi (λ P. P.side ≡ s) (λ P n e. e) Ps ls Qs listed.same zip
