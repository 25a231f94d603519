-- The codes of a monic polynomial are zeros, and then a list that begins with another code.
use Rattle.std.proofs.Common.{◌≡◌, ◌≢◌, ℕ, zero, suc, ◌<◌, ◌≤◌, ◌⊎◌, inl, inr, List, [], ◌∷◌, ◌++◌, length, get_or, drop, replicate, refl, sym, ◌∙◌, ap₂, arith}
use Rattle.std.proofs.lemmas.Bool.{cases_lt}
use Rattle.ring_lemmas.proofs.Lists.{trim_trimmed, IsTrimmed_push}
use Rattle.ff_fields.specs.Field.{FieldOps, CodeField}
use Rattle.ff_fields.specs.Code.{is_zero_code}
use Rattle.ff_fields.specs.Over.{IsOver, IsOver_nil, IsOver_cons, IsOver_append, IsOver_zeros, IsOver_tail}
use Rattle.ff_poly.specs.Words.{IsMonicList, shifted}
use Rattle.ff_poly.proofs.Parts.{top_of_monic}

pub zeros_below : (b : ℕ) (d : List ℕ) → b ≤ length d → ((j : ℕ) → j < b → get_or d j 0 ≡ 0)
    → d ≡ replicate b 0 ++ drop b d
zeros_below zero d le zeros = refl
zeros_below (suc b) [] le zeros = absurd (omega arith)
zeros_below (suc b) (a ∷ d) le zeros = ap₂ ◌∷◌ (zeros 0 (omega arith))
    (zeros_below b d (omega arith) (λ j less. zeros (suc j) (omega arith)))

first_of_drop : (b : ℕ) (d : List ℕ) → get_or (drop b d) 0 0 ≡ get_or d b 0
first_of_drop zero d = refl
first_of_drop (suc b) [] = refl
first_of_drop (suc b) (a ∷ d) = first_of_drop b d

-- a monic polynomial isn't zeros alone
zeros_end : (b : ℕ) (d : List ℕ) → IsMonicList d → ((j : ℕ) → j < b → get_or d j 0 ≡ 0) → b < length d
zeros_end b d monic zeros = go (cases_lt b (length d))
  where
    top : (n : ℕ) × (length d ≡ suc n) × (get_or d n 0 ≡ 1)
    top = top_of_monic d monic

    go : (b < length d) ⊎ (length d ≤ b) → b < length d
    go (inl less) = less
    go (inr le) =
        let none : 0 ≡ 1 = sym (zeros top.0 (omega (arith, top.1))) ∙ top.2 in
        absurd (omega (arith, none))

pub split : (b : ℕ) (d : List ℕ) → IsMonicList d → ((j : ℕ) → j < b → get_or d j 0 ≡ 0) → (b < length d → get_or d b 0 ≢ 0)
    → (d ≡ replicate b 0 ++ drop b d) × (¬ (get_or (drop b d) 0 0 ≡ 0))
split b d monic zeros next =
    let less = zeros_end b d monic zeros in (
      zeros_below b d (omega arith) zeros,
      λ e. next less (sym (first_of_drop b d) ∙ e),
    )

-- a power of the variable
pub power_codes : (b : ℕ) → shifted (1 ∷ []) b ≡ replicate b 0 ++ 1 ∷ []
power_codes b = trim_trimmed is_zero_code (replicate b 0 ++ 1 ∷ []) (IsTrimmed_push is_zero_code (replicate b 0) 1 refl)

pub over_right : (k : FieldOps) (u v : List ℕ) → IsOver k (u ++ v) → IsOver k v
over_right k [] v h = h
over_right k (a ∷ u) v h = over_right k u v (IsOver_tail h)

pub power_over : (k : CodeField) (b : ℕ) → IsOver k.ops (replicate b 0 ++ 1 ∷ [])
power_over k b = IsOver_append (IsOver_zeros k b) (IsOver_cons k.laws.one_below IsOver_nil)

abbrev power_list : ℕ → List ℕ
power_list b = replicate b 0 ++ 1 ∷ []

pub power_some : (b : ℕ) → ¬ (power_list b ≡ [])
power_some zero = λ e. cc
power_some (suc b) = λ e. cc
