-- The part of a divisor at the places of one side: its multiplicities, its degree, and what it allows.
use Rattle.std.proofs.Common.{◌≡◌, ◌↔◌, inl, inr, ℕ, zero, suc, ◌*◌, [], ◌∷◌, All, refl, sym, ◌∙◌, subst, arith}
use Rattle.std.specs.List.{AllPairs}
use Rattle.std.specs.Prelude.{neg_ℤ}
use Rattle.std.proofs.lemmas.Int.{ints}
use Rattle.std.proofs.lemmas.List.Elements.{All-nil, All-cons, All-head, All-tail}
use Rattle.std.proofs.lemmas.List.Kept.{AllPairs-cons}
use Rattle.std.proofs.Math.IntN.{ℤ, pos, negsuc, ◌+ℤ◌, ◌*ℤ◌}
use Rattle.prime_theory.proofs.Lists.{pairs_head, pairs_tail}
use Rattle.function_field.specs.declared.side.Side.{Side}
use Rattle.function_field.specs.declared.side.Side.TheVariants.{Finite, Infinite}
use Rattle.function_field.specs.Setting.{Setting}
use Rattle.function_field.specs.Places.{Place, IsPlace, IsSamePlace}
use Rattle.function_field.specs.Divisors.{Entry, Divisor, IsDivisor, HasMultiplicity, HasDegree, HasTotalDegree, MeetsOn, none, entry}
use Rattle.ideal_theory.specs.Ideals.{IsDivisorOn, opposite_divisor}
use Rattle.divisor_theory.specs.Parts.{kept, part}

-- a number times an opposite
neg_times : (m : ℤ) (f : ℕ) → neg_ℤ m *ℤ pos f ≡ neg_ℤ (m *ℤ pos f)
neg_times (pos zero) f = let q : 0 * f ≡ 0 = omega arith in omega (arith, ints)
neg_times (pos (suc n)) f = omega (arith, ints)
neg_times (negsuc n) f = omega (arith, ints)

module _ {E : Type 0} (S : Setting E) where
  apart : (e : Entry E) (P : Place E) (s t : Side) → P.side ≡ s → e.place.side ≡ t → ¬ (s ≡ t)
      → ¬ IsSamePlace S P e.place
  apart e P s t h i n same = n (sym h ∙ same.side ∙ i)

  pub part_multiplicity : (s : Side) (P : Place E) → P.side ≡ s → (D : Divisor E) (m : ℤ) → HasMultiplicity S D P m
      ↔ HasMultiplicity S (part s D) P m
  part_multiplicity s P h [] m = (λ e. e, λ e. e)
  part_multiplicity s P h (e ∷ D) m = go s e.place.side h refl (part_multiplicity s P h D m)
    where
      go : (s t : Side) → P.side ≡ s → e.place.side ≡ t → HasMultiplicity S D P m ↔ HasMultiplicity S (part s D) P m
          → HasMultiplicity S (e ∷ D) P m ↔ HasMultiplicity S (kept s t e (part s D)) P m
      go Finite Finite h i r =
          (elim [ inl a ↦ inl a | inr a ↦ inr (a.0, r.0 a.1) ], elim [ inl a ↦ inl a | inr a ↦ inr (a.0, r.1 a.1) ])
      go Infinite Infinite h i r =
          (elim [ inl a ↦ inl a | inr a ↦ inr (a.0, r.0 a.1) ], elim [ inl a ↦ inl a | inr a ↦ inr (a.0, r.1 a.1) ])
      go Finite Infinite h i r =
          let n = apart e P Finite Infinite h i (λ e. cc) in
          (elim [ inl a ↦ absurd (n a.0) | inr a ↦ r.0 a.1 ], λ a. inr (n, r.1 a))
      go Infinite Finite h i r =
          let n = apart e P Infinite Finite h i (λ e. cc) in
          (elim [ inl a ↦ absurd (n a.0) | inr a ↦ r.0 a.1 ], λ a. inr (n, r.1 a))

  -- what holds of each entry holds of the part
  part_all : (T : Entry E → Type 0) (s : Side) (D : Divisor E) → All T D → All T (part s D)
  part_all T s [] h = h
  part_all T s (e ∷ D) h = go s e.place.side (All-head T e D h) (part_all T s D (All-tail T e D h))
    where
      go : (s t : Side) → T e → All T (part s D) → All T (kept s t e (part s D))
      go Finite Finite a r = All-cons T e (part Finite D) a r
      go Infinite Infinite a r = All-cons T e (part Infinite D) a r
      go Finite Infinite a r = r
      go Infinite Finite a r = r

  part_sides : (s : Side) (D : Divisor E) → All (λ e. e.place.side ≡ s) (part s D)
  part_sides s [] = All-nil (λ e. e.place.side ≡ s)
  part_sides s (e ∷ D) = go s e.place.side refl (part_sides s D)
    where
      go : (s t : Side) → e.place.side ≡ t → All (λ e. e.place.side ≡ s) (part s D)
          → All (λ e. e.place.side ≡ s) (kept s t e (part s D))
      go Finite Finite i r = All-cons (λ e. e.place.side ≡ Finite) e (part Finite D) i r
      go Infinite Infinite i r = All-cons (λ e. e.place.side ≡ Infinite) e (part Infinite D) i r
      go Finite Infinite i r = r
      go Infinite Finite i r = r

  abbrev Other : Entry E → Entry E → Type 0
  Other e e' = ¬ IsSamePlace S e.place e'.place

  part_apart : (s : Side) (D : Divisor E) → AllPairs (λ e e'. ¬ IsSamePlace S e.place e'.place) D
      → AllPairs (λ e e'. ¬ IsSamePlace S e.place e'.place) (part s D)
  part_apart s [] h = h
  part_apart s (e ∷ D) h =
      go s e.place.side (part_all (Other e) s D (pairs_head Other e D h)) (part_apart s D (pairs_tail Other e D h))
    where
      go : (s t : Side) → All (Other e) (part s D) → AllPairs Other (part s D) → AllPairs Other (kept s t e (part s D))
      go Finite Finite a r = AllPairs-cons Other e (part Finite D) a r
      go Infinite Infinite a r = AllPairs-cons Other e (part Infinite D) a r
      go Finite Infinite a r = r
      go Infinite Finite a r = r

  pub part_on : (s : Side) (D : Divisor E) → IsDivisor S D → IsDivisorOn S s (part s D)
  part_on s D h = record {
    divisor =
        record { places = part_all (λ e. IsPlace S e.place) s D h.places; different = part_apart s D h.different };
    sides = part_sides s D;
  }

  -- the conditions at the places of a side are those of the part
  pub meets_part : (s : Side) (D : Divisor E) (z : E) → MeetsOn S D s z ↔ MeetsOn S (part s D) s z
  meets_part s D z = (
    λ f P place e m h. f P place e m ((part_multiplicity s P e D m).1 h),
    λ f P place e m h. f P place e m ((part_multiplicity s P e D m).0 h),
  )

  -- the degree is the sum of those of the parts
  pub record PartDegrees (A B : Divisor E) (d : ℤ) : Type 0 where
    pub finite : ℤ
    pub finite_degree : HasTotalDegree S A finite
    pub infinite : ℤ
    pub infinite_degree : HasTotalDegree S B infinite
    pub is : d ≡ finite +ℤ infinite

  one_more : (e : Entry E) (t : Side) (A B : Divisor E) (g : ℕ) → HasDegree S e.place g → (d : ℤ) → PartDegrees A B d
      → PartDegrees (kept Finite t e A) (kept Infinite t e B) (e.times *ℤ pos g +ℤ d)
  one_more e Finite A B g degree d r = record {
    finite = e.times *ℤ pos g +ℤ r.finite;
    finite_degree = entry g degree r.finite_degree;
    infinite = r.infinite;
    infinite_degree = r.infinite_degree;
    is = first (e.times *ℤ pos g) r.finite r.infinite d r.is;
  }
    where
      first : (m a b d : ℤ) → d ≡ a +ℤ b → m +ℤ d ≡ (m +ℤ a) +ℤ b
      first m a b d e = omega (arith, ints)
  one_more e Infinite A B g degree d r = record {
    finite = r.finite;
    finite_degree = r.finite_degree;
    infinite = e.times *ℤ pos g +ℤ r.infinite;
    infinite_degree = entry g degree r.infinite_degree;
    is = second (e.times *ℤ pos g) r.finite r.infinite d r.is;
  }
    where
      second : (m a b d : ℤ) → d ≡ a +ℤ b → m +ℤ d ≡ a +ℤ (m +ℤ b)
      second m a b d e = omega (arith, ints)

  pub part_degrees : (D : Divisor E) (d : ℤ) → HasTotalDegree S D d → PartDegrees (part Finite D) (part Infinite D) d
  part_degrees [] d none =
      record {
        finite = pos 0;
        finite_degree = none;
        infinite = pos 0;
        infinite_degree = none;
        is = omega (arith, ints);
      }
  part_degrees (e ∷ D) m (entry {d} g degree rest) =
      one_more e e.place.side (part Finite D) (part Infinite D) g degree d (part_degrees D d rest)

  pub opposite_degree : (D : Divisor E) (d : ℤ) → HasTotalDegree S D d → HasTotalDegree S (opposite_divisor D) (neg_ℤ d)
  opposite_degree [] d none = none
  opposite_degree (e ∷ D) m (entry {d} g degree rest) =
      subst (HasTotalDegree S (opposite_divisor (e ∷ D)))
      (sum (e.times *ℤ pos g) d (neg_ℤ e.times *ℤ pos g) (neg_times e.times g))
      (entry g degree (opposite_degree D d rest))
    where
      sum : (a b c : ℤ) → c ≡ neg_ℤ a → c +ℤ neg_ℤ b ≡ neg_ℤ (a +ℤ b)
      sum a b c e = omega (arith, ints)
