-- The multiples x^t of the rows of a list, with t below a bound for each row: their measures are different.
use Rattle.std.proofs.Common.{◌≡◌, ◌≢◌, ℕ, zero, suc, ◌<◌, ◌+◌, ◌*◌, ◌⊎◌, inl, inr, List, [], ◌∷◌, ◌++◌, length, refl, sym, ◌∙◌, ap, arith, subst, le_of_suc-le-suc, length-append}
use native.Mathlib.Decide.{ℕ_discrete}
use Rattle.ring_lemmas.specs.Ring.{TestedRing, IsDomain}
use Rattle.ring_lemmas.specs.Lists.{tail_of}
use Rattle.ring_theory.specs.Members.{In, IsDistinct}
use Rattle.popov_theory.specs.Module.{PolynomialModule, measure, column}
use Rattle.popov_theory.specs.Span.{row_at}
use Rattle.popov_theory.specs.Popov.{IsWeakPopov}
use Rattle.popov_theory.proofs.Positions.{column_shift, row_le}
use Rattle.popov_theory.proofs.Measure.{measure_scale}
use Rattle.popov_theory.proofs.Rank.{weak_tail, row_not_zero}
use Rattle.ring_theory.specs.Monomials.{monomial}
use Rattle.ring_theory.proofs.Monomials.{monomial_length}

-- t 0 + t 1 and so on, n terms
unfoldable pub sum_first : (ℕ → ℕ) → ℕ → ℕ
sum_first t zero = 0
sum_first t (suc n) = t zero + sum_first (tail_of t) n

In_append : {A : Type 0} (x : A) (xs ys : List A) → In x (xs ++ ys) → In x xs ⊎ In x ys
In_append x [] ys h = inr h
In_append x (y ∷ xs) ys (inl e) = inl (inl e)
In_append x (y ∷ xs) ys (inr h) = go (In_append x xs ys h)
  where
    go : In x xs ⊎ In x ys → In x (y ∷ xs) ⊎ In x ys
    go (inl h) = inl (inr h)
    go (inr h) = inr h

In_append_left : {A : Type 0} (x : A) (xs ys : List A) → In x xs → In x (xs ++ ys)
In_append_left x [] ys h = absurd h
In_append_left x (y ∷ xs) ys (inl e) = inl e
In_append_left x (y ∷ xs) ys (inr h) = inr (In_append_left x xs ys h)

In_append_right : {A : Type 0} (x : A) (xs ys : List A) → In x ys → In x (xs ++ ys)
In_append_right x [] ys h = h
In_append_right x (y ∷ xs) ys h = inr (In_append_right x xs ys h)

distinct_append : {A : Type 0} (xs ys : List A) → IsDistinct xs → IsDistinct ys → ((x : A) → In x xs → In x ys → ⊥)
    → IsDistinct (xs ++ ys)
distinct_append [] ys d e off = e
distinct_append (x ∷ xs) ys d e off = (
  λ h. go (In_append x xs ys h),
  distinct_append xs ys d.1 e
      (λ y y_in. off y (inr y_in)),
)
  where
    go : In x xs ⊎ In x ys → ⊥
    go (inl h) = d.0 h
    go (inr h) = off x (inl refl) h

module _ {A V : Type 0} {k : TestedRing A} (M : PolynomialModule k V) where
  infixl 70 ◌·◌
  open M use {width, 𝟎, ◌·◌, coef, unit}

  -- x^(t-1)·r, down to r
  pub multiples : V → ℕ → List V
  multiples r zero = []
  multiples r (suc t) = monomial k k.𝟙 t · r ∷ multiples r t

  -- the multiples of row i with t below ts i
  pub multiples_of : (ℕ → ℕ) → List V → List V
  multiples_of ts [] = []
  multiples_of ts (s ∷ ss) = multiples s (ts zero) ++ multiples_of (tail_of ts) ss

  -- the measures of the rows of a list
  abbrev pub measures : List V → List ℕ
  measures [] = []
  measures (r ∷ rs) = measure M r ∷ measures rs

  measures_append : (xs ys : List V) → measures (xs ++ ys) ≡ measures xs ++ measures ys
  measures_append [] ys = refl
  measures_append (x ∷ xs) ys = ap (λ l. measure M x ∷ l) (measures_append xs ys)

  multiples_length : (r : V) (t : ℕ) → length (multiples r t) ≡ t
  unfolding multiples
  multiples_length r zero = refl
  multiples_length r (suc t) = ap suc (multiples_length r t)

  pub multiples_of_length : (ts : ℕ → ℕ) (ss : List V) → length (multiples_of ts ss) ≡ sum_first ts (length ss)
  unfolding multiples_of sum_first
  multiples_of_length ts [] = refl
  multiples_of_length ts (s ∷ ss) =
      omega (
        arith,
        length-append (multiples s (ts zero)) (multiples_of (tail_of ts) ss),
        multiples_length s (ts zero),
        multiples_of_length (tail_of ts) ss,
      )

  append_all : (N : V → Type 0) (xs ys : List V) → ((i : ℕ) → N (row_at M xs i)) → ((i : ℕ) → N (row_at M ys i))
      → (i : ℕ) → N (row_at M (xs ++ ys) i)
  append_all N [] ys h h' i = h' i
  append_all N (x ∷ xs) ys h h' zero = h 0
  append_all N (x ∷ xs) ys h h' (suc i) = append_all N xs ys (λ j. h (suc j)) h' i

  module _ (N : V → Type 0) (zero_in : N 𝟎) where
    multiples_in : (r : V) (t : ℕ) → ((s : ℕ) → s < t → N (monomial k k.𝟙 s · r)) → (i : ℕ)
        → N (row_at M (multiples r t) i)
    unfolding multiples
    multiples_in r zero h i = zero_in
    multiples_in r (suc t) h zero = h t (omega arith)
    multiples_in r (suc t) h (suc i) = multiples_in r t (λ s less. h s (omega (arith, less))) i

    -- what holds of each multiple holds of the list
    pub multiples_of_in : (ts : ℕ → ℕ) (ss : List V)
        → ((i t : ℕ) → i < length ss → t < ts i → N (monomial k k.𝟙 t · row_at M ss i)) → (i : ℕ)
        → N (row_at M (multiples_of ts ss) i)
    unfolding multiples_of
    multiples_of_in ts [] h i = zero_in
    multiples_of_in ts (s ∷ ss) h i =
        append_all N (multiples s (ts zero)) (multiples_of (tail_of ts) ss)
        (multiples_in s (ts zero) (λ t less. h 0 t (omega arith) less))
        (multiples_of_in (tail_of ts) ss (λ j t j_less less. h (suc j) t (omega (arith, j_less)) less)) i

  -- from members of the list of measures to rows
  pub row_of_measure : (n : ℕ) (rs : List V) → In n (measures rs)
      → (i : ℕ) × (i < length rs) × (measure M (row_at M rs i) ≡ n)
  row_of_measure n [] h = absurd h
  row_of_measure n (r ∷ rs) (inl e) = (0, omega arith, sym e)
  row_of_measure n (r ∷ rs) (inr h) =
      let found = row_of_measure n rs h in (suc found.0, omega (arith, found.1), found.2)

  pub measure_of_row : (rs : List V) (i : ℕ) → i < length rs → In (measure M (row_at M rs i)) (measures rs)
  measure_of_row [] i less = absurd (omega (arith, less))
  measure_of_row (r ∷ rs) zero less = inl refl
  measure_of_row (r ∷ rs) (suc i) less = inr (measure_of_row rs i (le_of_suc-le-suc less))

  pub distinct_apart : (rs : List V) → IsDistinct (measures rs) → (i j : ℕ) → i < length rs → j < length rs → i ≢ j
      → measure M (row_at M rs i) ≢ measure M (row_at M rs j)
  distinct_apart [] d i j i_less j_less differ e = absurd (omega (arith, i_less))
  distinct_apart (r ∷ rs) d zero zero i_less j_less differ e = differ refl
  distinct_apart (r ∷ rs) d zero (suc j) i_less j_less differ e = d.0
      (subst (λ n. In n (measures rs)) (sym e) (measure_of_row rs j (le_of_suc-le-suc j_less)))
  distinct_apart (r ∷ rs) d (suc i) zero i_less j_less differ e = d.0
      (subst (λ n. In n (measures rs)) e (measure_of_row rs i (le_of_suc-le-suc i_less)))
  distinct_apart (r ∷ rs) d (suc i) (suc j) i_less j_less differ e =
      distinct_apart rs d.1 i j (le_of_suc-le-suc i_less) (le_of_suc-le-suc j_less) (λ z. differ (ap suc z)) e

  module _ (domain : IsDomain k.ops) where
    pub multiple_measure : (r : V) (t : ℕ) → measure M r ≢ 0
        → measure M (monomial k k.𝟙 t · r) ≡ t * width + measure M r
    multiple_measure r t some = measure_scale M domain (monomial k k.𝟙 t) r t
        (monomial_length k k.𝟙 t domain.one_not_zero) some

    in_multiples : (n : ℕ) (r : V) (t : ℕ) → measure M r ≢ 0 → In n (measures (multiples r t))
        → (s : ℕ) × (s < t) × (n ≡ s * width + measure M r)
    unfolding multiples
    in_multiples n r zero some h = absurd h
    in_multiples n r (suc t) some (inl e) = (t, omega arith, e ∙ multiple_measure r t some)
    in_multiples n r (suc t) some (inr h) =
        let found = in_multiples n r t some h in (found.0, omega (arith, found.1), found.2)

    multiples_has : (r : V) (t s : ℕ) → measure M r ≢ 0 → s < t
        → In (s * width + measure M r) (measures (multiples r t))
    unfolding multiples
    multiples_has r zero s some less = absurd (omega (arith, less))
    multiples_has r (suc t) s some less = go (ℕ_discrete s t) (multiples_has r t s some)
      where
        go : Dec (s ≡ t) → (s < t → In (s * width + measure M r) (measures (multiples r t)))
            → In (s * width + measure M r) (measures (monomial k k.𝟙 t · r ∷ multiples r t))
        go (yes e) later = inl (ap (λ d. d * width + measure M r) e ∙ sym (multiple_measure r t some))
        go (no off) later = inr (later (omega (arith, less, off)))

    multiples_distinct : (r : V) (t : ℕ) → measure M r ≢ 0 → IsDistinct (measures (multiples r t))
    unfolding multiples
    multiples_distinct r zero some = tt
    multiples_distinct r (suc t) some = (
      λ h. let found = in_multiples (measure M (monomial k k.𝟙 t · r)) r t some h in
          absurd (omega (
            arith,
            found.2,
            multiple_measure r t some,
            row_le width M.positive found.0 t found.1,
            M.positive,
          )),
      multiples_distinct r t some,
    )

    multiples_has_at : (ts : ℕ → ℕ) (ss : List V) → ((i : ℕ) → i < length ss → measure M (row_at M ss i) ≢ 0)
        → (n i t : ℕ) → i < length ss → t < ts i → n ≡ t * width + measure M (row_at M ss i)
        → In n (measures (multiples_of ts ss))
    unfolding multiples_of
    multiples_has_at ts [] some n i t i_less less is = absurd (omega (arith, i_less))
    multiples_has_at ts (s ∷ ss) some n zero t i_less less is =
        subst (In n) (sym (measures_append (multiples s (ts zero)) (multiples_of (tail_of ts) ss)))
        (In_append_left n (measures (multiples s (ts zero))) (measures (multiples_of (tail_of ts) ss))
        (subst (λ m. In m (measures (multiples s (ts zero)))) (sym is)
        (multiples_has s (ts zero) t (some 0 (omega arith)) less)))
    multiples_has_at ts (s ∷ ss) some n (suc i) t i_less less is =
        subst (In n) (sym (measures_append (multiples s (ts zero)) (multiples_of (tail_of ts) ss)))
        (In_append_right n (measures (multiples s (ts zero))) (measures (multiples_of (tail_of ts) ss))
        (multiples_has_at (tail_of ts) ss (λ j j_less. some (suc j) (omega (arith, j_less))) n i t
        (le_of_suc-le-suc i_less) less is))

    -- a measure of the list, by the row it comes from
    pub record MultipleOf (ts : ℕ → ℕ) (ss : List V) (n : ℕ) : Type 0 where
      pub index : ℕ
      pub below : index < length ss
      pub times : ℕ
      pub less : times < ts index
      pub is : n ≡ times * width + measure M (row_at M ss index)

    pub in_multiples_of : (n : ℕ) (ts : ℕ → ℕ) (ss : List V) → ((i : ℕ) → i < length ss → measure M (row_at M ss i) ≢ 0)
        → In n (measures (multiples_of ts ss)) → MultipleOf ts ss n
    unfolding multiples_of
    in_multiples_of n ts [] some h = absurd h
    in_multiples_of n ts (s ∷ ss) some h =
        go (In_append n (measures (multiples s (ts zero))) (measures (multiples_of (tail_of ts) ss))
        (subst (In n) (measures_append (multiples s (ts zero)) (multiples_of (tail_of ts) ss)) h))
        (in_multiples_of n (tail_of ts) ss (λ i less. some (suc i) (omega (arith, less))))
      where
        go : In n (measures (multiples s (ts zero))) ⊎ In n (measures (multiples_of (tail_of ts) ss))
            → (In n (measures (multiples_of (tail_of ts) ss)) → MultipleOf (tail_of ts) ss n) → MultipleOf ts (s ∷ ss) n
        go (inl h) later =
            let found = in_multiples n s (ts zero) (some 0 (omega arith)) h in
            record { index = 0; below = omega arith; times = found.0; less = found.1; is = found.2 }
        go (inr h) later =
            let found = later h in
            record {
              index = suc found.index;
              below = omega (arith, found.below);
              times = found.times;
              less =
                  found.less;
              is = found.is;
            }

    pub multiples_of_has : (ts : ℕ → ℕ) (ss : List V) → ((i : ℕ) → i < length ss → measure M (row_at M ss i) ≢ 0)
        → (n : ℕ) → MultipleOf ts ss n → In n (measures (multiples_of ts ss))
    multiples_of_has ts ss some n m = multiples_has_at ts ss some n m.index m.times m.below m.less m.is

    pub multiples_of_distinct : (ts : ℕ → ℕ) (ss : List V) → ((i : ℕ) → i < length ss → measure M (row_at M ss i) ≢ 0)
        → IsWeakPopov M ss → IsDistinct (measures (multiples_of ts ss))
    unfolding multiples_of
    multiples_of_distinct ts [] some weak = tt
    multiples_of_distinct ts (s ∷ ss) some weak =
        subst IsDistinct (sym (measures_append (multiples s (ts zero)) (multiples_of (tail_of ts) ss)))
        (distinct_append (measures (multiples s (ts zero))) (measures (multiples_of (tail_of ts) ss))
        (multiples_distinct s (ts zero) (some 0 (omega arith)))
        (multiples_of_distinct (tail_of ts) ss tail_some (weak_tail M s ss weak))
        (λ n left right. clash n (in_multiples n s (ts zero) (some 0 (omega arith)) left)
        (in_multiples_of n (tail_of ts) ss tail_some right)))
      where
        tail_some : (i : ℕ) → i < length ss → measure M (row_at M ss i) ≢ 0
        tail_some i less = some (suc i) (omega (arith, less))

        clash : (n : ℕ) → (t : ℕ) × (t < ts zero) × (n ≡ t * width + measure M s) → MultipleOf (tail_of ts) ss n → ⊥
        clash n left right =
            weak.apart 0 (suc right.index) (λ z. absurd (omega (arith, z)))
            (row_not_zero M s (some 0 (omega arith)))
            (row_not_zero M (row_at M ss right.index) (tail_some right.index right.below))
            (sym (column_shift width M.positive left.0 (measure M s) (some 0 (omega arith)))
            ∙ ap (column width) (sym left.2 ∙ right.is)
            ∙ column_shift width M.positive right.times (measure M (row_at M ss right.index))
            (tail_some right.index right.below))
