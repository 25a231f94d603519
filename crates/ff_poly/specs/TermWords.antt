-- Lists of terms: exponents of y and of x, and a code.
use Rattle.std.specs.Prelude.{◌≡◌, ◌≢◌, ℕ, ◌<◌, ◌≤◌, cond, ◌&&◌, nat_eq, List, [], ◌∷◌, ◌++◌, All}
use Rattle.ff_fields.specs.Field.{FieldOps}

-- the exponents of s come before those of t: first those of y count, then those of x
abbrev pub IsBefore : ℕ × ℕ × ℕ → ℕ × ℕ × ℕ → Type 0
IsBefore s t = (s.0 ≤ t.0) × (s.0 ≡ t.0 → s.1 < t.1)

-- they come before, or are the same
abbrev pub IsUpTo : ℕ × ℕ × ℕ → ℕ × ℕ × ℕ → Type 0
IsUpTo s t = (s.0 ≤ t.0) × (s.0 ≡ t.0 → s.1 ≤ t.1)

-- strictly ascending by the exponents
abbrev pub AreAscending : List (ℕ × ℕ × ℕ) → Type 0
AreAscending [] = Unit {0}
AreAscending (t ∷ ts) = All (IsBefore t) ts × AreAscending ts

-- ascending terms, none with the code 0
pub record IsTerms (ts : List (ℕ × ℕ × ℕ)) : Type 0 where
  pub ascending : AreAscending ts
  pub some : All (λ t. t.2 ≢ 0) ts

module _ (k : FieldOps) where
  -- the sum of the codes at y^i·x^j
  abbrev pub code_at : ℕ → ℕ → List (ℕ × ℕ × ℕ) → ℕ
  code_at i j [] = 0
  code_at i j (t ∷ ts) = cond (nat_eq t.0 i && nat_eq t.1 j) (k.add t.2 (code_at i j ts)) (code_at i j ts)

  -- what is left of the terms, and the code, make the same sums as before with the new term, and all comes before it
  pub record IsMerged (old : List (ℕ × ℕ × ℕ)) (t : ℕ × ℕ × ℕ) (new : List (ℕ × ℕ × ℕ)) (code : ℕ) : Type 0 where
    pub terms : IsTerms new
    pub terms_in : All (λ u. u.2 < k.size) new
    pub before : All (λ u. IsBefore u t) new
    pub code_in : code < k.size
    pub codes : (i j : ℕ) → code_at i j (new ++ (t.0, t.1, code) ∷ []) ≡ code_at i j (old ++ t ∷ [])

  -- the sums with the new term, which nothing exceeds
  pub record IsAdded (old : List (ℕ × ℕ × ℕ)) (t : ℕ × ℕ × ℕ) (new : List (ℕ × ℕ × ℕ)) : Type 0 where
    pub terms : IsTerms new
    pub terms_in : All (λ u. u.2 < k.size) new
    pub up_to : All (λ u. IsUpTo u t) new
    pub codes : (i j : ℕ) → code_at i j new ≡ code_at i j (old ++ t ∷ [])
