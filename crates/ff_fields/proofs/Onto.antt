-- Of n numbers below n, all different, each number below n is one.
use Rattle.std.specs.Prelude.{◌≢◌}
use Rattle.std.proofs.Common.{◌≡◌, ℕ, zero, suc, ◌<◌, ◌⊎◌, refl, sym, inl, inr, ◌∙◌, arith}
use Rattle.std.proofs.lemmas.Bool.{cases_eq}

-- `to` where y is `from`, and else y
move : (from to y : ℕ) → (x : ℕ) × (((y ≡ from) × (x ≡ to)) ⊎ ((y ≢ from) × (x ≡ y)))
move from to y = go (cases_eq y from)
  where
    go : (y ≡ from) ⊎ (y ≡ from → ⊥) → (x : ℕ) × (((y ≡ from) × (x ≡ to)) ⊎ ((y ≢ from) × (x ≡ y)))
    go (inl e) = (to, inl (e, refl))
    go (inr n) = (y, inr (n, refl))

module _ (n : ℕ) (f : ℕ → ℕ) (within : (i : ℕ) → i < suc n → f i < suc n)
    (apart : (i j : ℕ) → i < suc n → j < suc n → f i ≡ f j → i ≡ j) where
  abbrev below : ℕ → ℕ
  below i = (move n (f n) (f i)).0

  not_last : (i : ℕ) → i < n → f i ≢ f n
  not_last i less same = let e = apart i n (omega arith) (omega arith) same in absurd (omega (arith, e))

  below_within : (i : ℕ) → i < n → below i < n
  below_within i less = go (below i) (move n (f n) (f i)).1
    where
      go : (x : ℕ) → ((f i ≡ n) × (x ≡ f n)) ⊎ ((f i ≢ n) × (x ≡ f i)) → x < n
      go x (inl (e, is)) =
          let last = within n (omega arith) in
          let other : f n ≢ n = λ same. not_last i less (e ∙ sym same) in
          omega (arith, last, other, is)
      go x (inr (other, is)) = let small = within i (omega arith) in omega (arith, small, other, is)

  below_apart : (i j : ℕ) → i < n → j < n → below i ≡ below j → i ≡ j
  below_apart i j i_in j_in = go (below i) (below j) (move n (f n) (f i)).1 (move n (f n) (f j)).1
    where
      go : (x y : ℕ) → ((f i ≡ n) × (x ≡ f n)) ⊎ ((f i ≢ n) × (x ≡ f i))
          → ((f j ≡ n) × (y ≡ f n)) ⊎ ((f j ≢ n) × (y ≡ f j)) → x ≡ y → i ≡ j
      go x y (inl (e, is)) (inl (e', is')) same = apart i j (omega arith) (omega arith) (e ∙ sym e')
      go x y (inl (e, is)) (inr (n', is')) same = absurd (not_last j j_in (sym is' ∙ sym same ∙ is))
      go x y (inr (n, is)) (inl (e', is')) same = absurd (not_last i i_in (sym is ∙ same ∙ is'))
      go x y (inr (n, is)) (inr (n', is')) same = apart i j (omega arith) (omega arith) (sym is ∙ same ∙ is')

  -- a number that is moved to t comes from c
  back : (c t : ℕ) → c ≢ f n → ((c ≡ n) × (t ≡ f n)) ⊎ ((c ≢ n) × (t ≡ c)) → (i : ℕ) → i < n → below i ≡ t → f i ≡ c
  back c t other target i less same = go (below i) (move n (f n) (f i)).1 target same
    where
      go : (x : ℕ) → ((f i ≡ n) × (x ≡ f n)) ⊎ ((f i ≢ n) × (x ≡ f i)) → ((c ≡ n) × (t ≡ f n)) ⊎ ((c ≢ n) × (t ≡ c))
          → x ≡ t → f i ≡ c
      go x (inl (e, is)) (inl (e', is')) same = e ∙ sym e'
      go x (inl (e, is)) (inr (n', is')) same = absurd (other (sym is' ∙ sym same ∙ is))
      go x (inr (n, is)) (inl (e', is')) same = absurd (not_last i less (sym is ∙ same ∙ is'))
      go x (inr (n, is)) (inr (n', is')) same = sym is ∙ same ∙ is'

  target_within : (c t : ℕ) → c < suc n → c ≢ f n → ((c ≡ n) × (t ≡ f n)) ⊎ ((c ≢ n) × (t ≡ c)) → t < n
  target_within c t c_in other (inl (e, is)) = let last = within n (omega arith) in let
      away : f n ≢ n = λ same. other (e ∙ sym same) in omega (arith, last, away, is)
  target_within c t c_in other (inr (away, is)) = omega (arith, c_in, away, is)

pub onto : (n : ℕ) (f : ℕ → ℕ) → ((i : ℕ) → i < n → f i < n) → ((i j : ℕ) → i < n → j < n → f i ≡ f j → i ≡ j) → (c : ℕ)
    → c < n → (i : ℕ) × ((i < n) × (f i ≡ c))
onto zero f within apart c less = absurd (omega arith)
onto (suc n) f within apart c less =
    go (cases_eq c (f n)) (move n (f n) c)
    (λ t t_in. onto n (below n f within apart) (below_within n f within apart) (below_apart n f within apart) t t_in)
  where
    go : (c ≡ f n) ⊎ (c ≡ f n → ⊥) → (t : ℕ) × (((c ≡ n) × (t ≡ f n)) ⊎ ((c ≢ n) × (t ≡ c)))
        → ((t : ℕ) → t < n → (i : ℕ) × ((i < n) × (below n f within apart i ≡ t))) → (i : ℕ) × ((i < suc n) × (f i ≡ c))
    go (inl e) target rest = (n, (omega arith, sym e))
    go (inr other) target rest =
        let found = rest target.0 (target_within n f within apart c target.0 less other target.1) in
        let small : found.0 < suc n = omega (arith, found.1.0) in
        (found.0, (small, back n f within apart c target.0 other target.1 found.0 found.1.0 found.1.1))
