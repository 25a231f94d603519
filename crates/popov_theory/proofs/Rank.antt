-- The rank of rows in weak Popov form, the number of those that are not zero: full rank is the width.
use Rattle.std.proofs.Common.{◌≡◌, ◌≢◌, ℕ, zero, suc, ◌<◌, ◌≤◌, ◌-◌, inl, inr, Bool, true, false, eqb, cond, List, [], ◌∷◌, ◌++◌, length, refl, sym, ap, arith, subst, le_of_suc-le-suc, length-append}
use Rattle.std.proofs.lemmas.Bool.{eqb-true, eqb-false}
use Rattle.std.proofs.lemmas.Nat.{mod_below}
use native.Mathlib.Decide.{ℕ_discrete}
use Rattle.ring_lemmas.specs.Ring.{TestedRing}
use Rattle.ring_theory.specs.Members.{In, IsDistinct}
use Rattle.popov_theory.specs.Module.{PolynomialModule, measure, pivot}
use Rattle.popov_theory.specs.Span.{row_at}
use Rattle.popov_theory.specs.Popov.{IsWeakPopov}
use Rattle.popov_theory.proofs.Measure.{zero_row, zero_from_measure}

-- pigeonhole: distinct members of a list are no more than its length
split_at : {A : Type 0} (x : A) (xs : List A) → In x xs → (l : List A) × ((r : List A) × (xs ≡ l ++ x ∷ r))
split_at x [] h = absurd h
split_at x (y ∷ ys) (inl e) = ([], (ys, ap (λ w. w ∷ ys) (sym e)))
split_at x (y ∷ ys) (inr h) = let p = split_at x ys h in (y ∷ p.0, (p.1.0, ap (λ w. y ∷ w) p.1.1))

In_rest : {A : Type 0} (z y : A) (l r : List A) → In z (l ++ y ∷ r) → (z ≡ y → ⊥) → In z (l ++ r)
In_rest z y [] r (inl e) other = absurd (other e)
In_rest z y [] r (inr h) other = h
In_rest z y (x ∷ l) r (inl e) other = inl e
In_rest z y (x ∷ l) r (inr h) other = inr (In_rest z y l r h other)

pub length_within : {A : Type 0} (xs ys : List A) → IsDistinct xs → ((x : A) → In x xs → In x ys)
    → length xs ≤ length ys
length_within [] ys d h = omega arith
length_within {A = A} (x ∷ xs) ys d h = go (split_at x ys (h x (inl refl))) (λ zs. length_within xs zs d.1)
  where
    go : (l : List A) × ((r : List A) × (ys ≡ l ++ x ∷ r))
        → ((zs : List A) → ((z : A) → In z xs → In z zs) → length xs ≤ length zs) → length (x ∷ xs) ≤ length ys
    go (l, (r, e)) rest =
        let few = rest (l ++ r) (λ z z_in. In_rest z x l r (subst (In z) e (h z (inr z_in)))
        (λ same. d.0 (subst (λ y. In y xs) same z_in))) in
        omega (arith, few, ap length e, length-append l (x ∷ r), length-append l r)

-- the numbers below n
below_list : ℕ → List ℕ
below_list zero = []
below_list (suc n) = n ∷ below_list n

below_length : (n : ℕ) → length (below_list n) ≡ n
unfolding below_list
below_length zero = refl
below_length (suc n) = ap suc (below_length n)

below_has : (n i : ℕ) → i < n → In i (below_list n)
unfolding below_list
below_has zero i less = absurd (omega arith)
below_has (suc n) i less = go (ℕ_discrete i n) (below_has n i)
  where
    go : Dec (i ≡ n) → (i < n → In i (below_list n)) → In i (n ∷ below_list n)
    go (yes e) later = inl e
    go (no off) later = inr (later (omega (arith, less, off)))

module _ {A V : Type 0} {k : TestedRing A} (M : PolynomialModule k V) where
  open M use {width, 𝟎}

  -- the pivots of the rows that are not zero
  abbrev pub pivots : List V → List ℕ
  pivots [] = []
  pivots (r ∷ rs) = cond (eqb (measure M r) 0) (pivots rs) (pivot M r ∷ pivots rs)

  -- the number of rows that are not zero
  abbrev pub rank : List V → ℕ
  rank rs = length (pivots rs)

  pivots_from : (p : ℕ) (rs : List V) → In p (pivots rs)
      → (i : ℕ) × (measure M (row_at M rs i) ≢ 0) × (p ≡ pivot M (row_at M rs i))
  pivots_from p [] h = absurd h
  pivots_from p (r ∷ rs) h = go (eqb (measure M r) 0) refl h (pivots_from p rs)
    where
      go : (b : Bool) → eqb (measure M r) 0 ≡ b → In p (cond b (pivots rs) (pivot M r ∷ pivots rs))
          → (In p (pivots rs) → (i : ℕ) × (measure M (row_at M rs i) ≢ 0) × (p ≡ pivot M (row_at M rs i)))
          → (i : ℕ) × (measure M (row_at M (r ∷ rs) i) ≢ 0) × (p ≡ pivot M (row_at M (r ∷ rs) i))
      go true e h later = let found = later h in (suc found.0, found.1, found.2)
      go false e (inl here) later = (0, eqb-false _ _ e, here)
      go false e (inr h) later = let found = later h in (suc found.0, found.1, found.2)

  pub row_not_zero : (v : V) → measure M v ≢ 0 → ¬ (v ≡ 𝟎)
  row_not_zero v some e = some (zero_row M v e)

  pub weak_tail : (r : V) (rs : List V) → IsWeakPopov M (r ∷ rs) → IsWeakPopov M rs
  weak_tail r rs weak = record { apart = λ i j differ. weak.apart (suc i) (suc j) (λ e. differ (omega (arith, e))) }

  pivots_distinct : (rs : List V) → IsWeakPopov M rs → IsDistinct (pivots rs)
  pivots_distinct [] weak = tt
  pivots_distinct (r ∷ rs) weak = go (eqb (measure M r) 0) refl (pivots_distinct rs (weak_tail r rs weak))
    where
      go : (b : Bool) → eqb (measure M r) 0 ≡ b → IsDistinct (pivots rs)
          → IsDistinct (cond b (pivots rs) (pivot M r ∷ pivots rs))
      go true e d = d
      go false e d = (
        λ h.
            let found = pivots_from (pivot M r) rs h in
            weak.apart 0 (suc found.0) (λ z. absurd (omega (arith, z))) (row_not_zero r (eqb-false _ _ e))
            (row_not_zero (row_at M rs found.0) found.1) found.2,
        d,
      )

  pivot_less : (p : ℕ) (rs : List V) → In p (pivots rs) → p < width
  pivot_less p rs h =
      let found = pivots_from p rs h in
      omega (arith, found.2, mod_below (measure M (row_at M rs found.0) - 1) width M.positive)

  pub rank_le : (rs : List V) → IsWeakPopov M rs → rank rs ≤ width
  rank_le rs weak =
      omega (
        arith,
        below_length width,
        length_within (pivots rs) (below_list width) (pivots_distinct rs weak)
            (λ p h. below_has width p (pivot_less p rs h)),
      )

  -- more rows than the rank: one is zero
  pub zero_row_in : (rs : List V) → rank rs < length rs → (i : ℕ) × (i < length rs) × (row_at M rs i ≡ 𝟎)
  zero_row_in [] less = absurd (omega (arith, less))
  zero_row_in (r ∷ rs) less = go (eqb (measure M r) 0) refl less (zero_row_in rs)
    where
      go : (b : Bool) → eqb (measure M r) 0 ≡ b → length (cond b (pivots rs) (pivot M r ∷ pivots rs)) < suc (length rs)
          → (rank rs < length rs → (i : ℕ) × (i < length rs) × (row_at M rs i ≡ 𝟎))
          → (i : ℕ) × (i < suc (length rs)) × (row_at M (r ∷ rs) i ≡ 𝟎)
      go true e less later = (0, omega arith, zero_from_measure M r (eqb-true _ _ e))
      go false e less later = let found = later (le_of_suc-le-suc less) in
          (suc found.0, omega (arith, found.1), found.2)
