-- Of two texts one comes before the other, or they are one; and so of two lists of texts.
use Rattle.std.proofs.Common.{◌≡◌, ◌≢◌, ℕ, ◌<◌, ◌≤◌, ◌⊎◌, inl, inr, List, [], ◌∷◌, refl, sym, ap₂, arith}
use Rattle.std.proofs.lemmas.Bool.{cases_lt}
use Rattle.ff_written.specs.TextOrder.{IsBeforeText, IsBeforeTexts}

number_cases : (a b : ℕ) → (a < b) ⊎ ((a ≡ b) ⊎ (b < a))
number_cases a b = go (cases_lt a b) (cases_lt b a)
  where
    go : (a < b) ⊎ (b ≤ a) → (b < a) ⊎ (a ≤ b) → (a < b) ⊎ ((a ≡ b) ⊎ (b < a))
    go (inl l) c = inl l
    go (inr m) (inl l) = inr (inr l)
    go (inr m) (inr n) = inr (inl (omega arith))

pub text_cases : (us vs : List ℕ) → IsBeforeText us vs ⊎ ((us ≡ vs) ⊎ IsBeforeText vs us)
text_cases [] [] = inr (inl refl)
text_cases [] (b ∷ vs) = inl tt
text_cases (a ∷ us) [] = inr (inr tt)
text_cases (a ∷ us) (b ∷ vs) = go (number_cases a b) (text_cases us vs)
  where
    go : (a < b) ⊎ ((a ≡ b) ⊎ (b < a)) → IsBeforeText us vs ⊎ ((us ≡ vs) ⊎ IsBeforeText vs us)
        → IsBeforeText (a ∷ us) (b ∷ vs) ⊎ ((a ∷ us ≡ b ∷ vs) ⊎ IsBeforeText (b ∷ vs) (a ∷ us))
    go (inl l) c = inl (inl l)
    go (inr (inr l)) c = inr (inr (inl l))
    go (inr (inl e)) (inl l) = inl (inr (e, l))
    go (inr (inl e)) (inr (inl f)) = inr (inl (ap₂ ◌∷◌ e f))
    go (inr (inl e)) (inr (inr l)) = inr (inr (inr (sym e, l)))

pub texts_cases : (us vs : List (List ℕ)) → IsBeforeTexts us vs ⊎ ((us ≡ vs) ⊎ IsBeforeTexts vs us)
texts_cases [] [] = inr (inl refl)
texts_cases [] (b ∷ vs) = inl tt
texts_cases (a ∷ us) [] = inr (inr tt)
texts_cases (a ∷ us) (b ∷ vs) = go (text_cases a b) (texts_cases us vs)
  where
    go : IsBeforeText a b ⊎ ((a ≡ b) ⊎ IsBeforeText b a) → IsBeforeTexts us vs ⊎ ((us ≡ vs) ⊎ IsBeforeTexts vs us)
        → IsBeforeTexts (a ∷ us) (b ∷ vs) ⊎ ((a ∷ us ≡ b ∷ vs) ⊎ IsBeforeTexts (b ∷ vs) (a ∷ us))
    go (inl l) c = inl (inl l)
    go (inr (inr l)) c = inr (inr (inl l))
    go (inr (inl e)) (inl l) = inl (inr (e, l))
    go (inr (inl e)) (inr (inl f)) = inr (inl (ap₂ ◌∷◌ e f))
    go (inr (inl e)) (inr (inr l)) = inr (inr (inr (sym e, l)))

-- different lists of which the second doesn't come before the first
pub texts_before_other : (us vs : List (List ℕ)) → us ≢ vs → ¬ IsBeforeTexts vs us → IsBeforeTexts us vs
texts_before_other us vs other not = go (texts_cases us vs)
  where
    go : IsBeforeTexts us vs ⊎ ((us ≡ vs) ⊎ IsBeforeTexts vs us) → IsBeforeTexts us vs
    go (inl b) = b
    go (inr (inl e)) = absurd (other e)
    go (inr (inr b)) = absurd (not b)
