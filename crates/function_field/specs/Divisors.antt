-- Divisors, spaces and their bases.
use Rattle.std.specs.Prelude.{◌≡◌, ℕ, suc, ℤ, pos, negsuc, ◌+ℤ◌, ◌*ℤ◌, neg_ℤ, List, [], ◌∷◌, length, All, AllPairs, ◌↔◌, ◌⊎◌}
use Rattle.ring_lemmas.specs.Ring.{pow}
use Rattle.ring_theory.specs.Subsets.{Span}
use Rattle.ring_theory.specs.Integral.{IsIntegral}
use Rattle.function_field.specs.declared.side.Side.{Side}
use Rattle.function_field.specs.declared.side.Side.TheVariants.{Finite, Infinite}
use Rattle.function_field.specs.Setting.{Setting}
use Rattle.function_field.specs.Spans.{minus, combination, InSpanOnce, IsIndependentList}
use Rattle.function_field.specs.Places.{Place, IsPlace, IsSamePlace, IsIntegralAt, IsIn, HasValuationAtLeast, HasValuation}

-- a place with an integer
pub record Entry (E : Type 0) : Type 0 where
  pub place : Place E
  pub times : ℤ

abbrev pub Divisor : Type 0 → Type 0
Divisor E = List (Entry E)

module _ {E : Type 0} (S : Setting E) where
  infixl 65 ◌⊕◌
  infixl 70 ◌⊗◌
  open S.functions use {ops, 𝟘, 𝟙, ◌⊕◌, ◌⊗◌}

  pub record IsDivisor (D : Divisor E) : Type 0 where
    pub places : All (λ e. IsPlace S e.place) D
    pub different : AllPairs (λ e e'. ¬ IsSamePlace S e.place e'.place) D

  -- D(P) is m
  abbrev pub HasMultiplicity : Divisor E → Place E → ℤ → Type 0
  HasMultiplicity [] P m = m ≡ pos 0
  HasMultiplicity (e ∷ D) P m =
      (IsSamePlace S P e.place × (e.times ≡ m)) ⊎ ((¬ IsSamePlace S P e.place) × HasMultiplicity D P m)

  -- v_P(z) ≥ -D(P) at every place P of the side
  abbrev pub MeetsOn : Divisor E → Side → E → Type 0
  MeetsOn D s z =
      (P : Place E) → IsPlace S P → P.side ≡ s → (m : ℤ) → HasMultiplicity D P m → HasValuationAtLeast S P z (neg_ℤ m)

  -- L(D)
  abbrev pub InSpace : Divisor E → E → Type 0
  InSpace D z = (s : Side) → MeetsOn D s z

  pub record IsSpaceBasis (In : E → Type 0) (bs : List E) : Type 0 where
    pub members : All In bs
    pub independent : IsIndependentList ops S.IsCode bs
    pub spanning : (z : E) → In z → Span ops S.IsCode bs z

  -- x^d
  abbrev pub x_to : ℤ → E
  x_to (pos d) = pow ops S.x d
  x_to (negsuc d) = pow ops S.one_over_x (suc d)

  -- the list of x^(-d_i)·b_i
  abbrev pub shifted : List ℤ → List E → List E
  shifted [] bs = []
  shifted (d ∷ ds) [] = []
  shifted (d ∷ ds) (b ∷ bs) = (x_to (neg_ℤ d) ⊗ b) ∷ shifted ds bs

  -- each member of the set, and no other function, is a combination of the gs over R_s, in one way only
  abbrev pub SpansOnce : Side → (E → Type 0) → List E → Type 0
  SpansOnce s In gs = (z : E) → (In z → InSpanOnce ops (S.IsScalar s) gs z) × (Span ops (S.IsScalar s) gs z → In z)

  pub record IsSimultaneousBasis (D : Divisor E) (bs : List E) (ds : List ℤ) : Type 0 where
    pub count : length bs ≡ S.n
    pub one_each : length ds ≡ S.n
    pub finite : SpansOnce Finite (MeetsOn D Finite) bs
    pub infinite : SpansOnce Infinite (MeetsOn D Infinite) (shifted ds bs)

  -- a root of a monic polynomial of degree 1 or more over k
  abbrev pub IsConstant : E → Type 0
  IsConstant = IsIntegral ops S.IsCode

  -- the sum of an a in O_fin and a b in O_inf
  pub record IsSumOfSides (z : E) : Type 0 where
    pub finite_part : E
    pub infinite_part : E
    pub finite : IsIntegralAt S Finite finite_part
    pub infinite : IsIntegralAt S Infinite infinite_part
    pub value : z ≡ finite_part ⊕ infinite_part

  -- a sum of u_i·w_i with all u_i in k0
  abbrev pub InConstantSpan : List E → E → Type 0
  InConstantSpan = Span ops IsConstant

  pub record HasGenus (g : ℕ) : Type 0 where
    pub functions : List E
    pub count : length functions ≡ g
    pub spanning : (z : E) → (c : E) × InConstantSpan functions c × IsSumOfSides (minus ops z c)
    pub independent :
        (us : List E) → length us ≡ g → All IsConstant us → IsSumOfSides (combination ops us functions)
        → All (λ u. u ≡ 𝟘) us

  -- v_P(z) ≥ -W(P) on the side exactly where the trace of w·z·u is in R_s for every u in O_s
  abbrev pub IsDualOn : Divisor E → Side → E → Type 0
  IsDualOn W s w =
      (z : E) → MeetsOn W s z ↔ ((u : E) → IsIntegralAt S s u → S.IsScalar s (S.trace (w ⊗ z ⊗ u)))

  pub record IsCanonical (W : Divisor E) : Type 0 where
    pub divisor : IsDivisor W
    pub finite : IsDualOn W Finite 𝟙
    pub infinite : IsDualOn W Infinite (pow ops S.x 2)

  -- each member of O_s is a combination over k plus a member of M, and a combination lies in M only where all its codes
  -- are 0
  pub record HasDegree (P : Place E) (g : ℕ) : Type 0 where
    pub classes : List E
    pub count : length classes ≡ g
    pub members : All (IsIntegralAt S P.side) classes
    pub spanning : (z : E) → IsIntegralAt S P.side z → (c : E) × Span ops S.IsCode classes c × IsIn S P (minus ops z c)
    pub independent : (cs : List E) → length cs ≡ g → All S.IsCode cs → IsIn S P (combination ops cs classes)
        → All (λ c. c ≡ 𝟘) cs

  -- the sum of D(P)·degree(P)
  pub data HasTotalDegree : Divisor E → ℤ → Type 0 where
    none : HasTotalDegree [] (pos 0)
    entry : {e : Entry E} {D : Divisor E} {d : ℤ} (g : ℕ) → HasDegree e.place g → HasTotalDegree D d
        → HasTotalDegree (e ∷ D) (e.times *ℤ pos g +ℤ d)

  -- e of a place over the polynomial p, or over infinity
  abbrev pub HasRamification : Place E → E → ℕ → Type 0
  HasRamification P p e = HasValuation S P (elim P.side [ Finite ↦ p | Infinite ↦ S.one_over_x ]) (pos e)
