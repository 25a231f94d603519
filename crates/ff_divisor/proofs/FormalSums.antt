-- The parts of formal sums, and how they are put together.
use Rattle.std.proofs.Common.{◌≡◌, ◌≢◌, ℕ, zero, suc, ◌<◌, ℤ, pos, negsuc, List, [], ◌∷◌, ◌++◌, drop, All, refl, arith}
use Rattle.std.proofs.lemmas.List.Kept.{AllPairs-cons}
use Rattle.std.proofs.lemmas.List.Elements.{All-nil, All-cons, All-head, All-tail, All-append}
use Rattle.ff_divisor.specs.FormalSums.{IsFormalSum}
use Rattle.ff_divisor.specs.Steps.{Precede, entry_of}

pub formal_nil : IsFormalSum []
formal_nil = record { ascending = λ i j d i_less j_less. absurd (omega arith); nonzero = All-nil (λ e. e.1 ≢ pos 0) }

pub formal_cons : (e : ℕ × ℤ) (es : List (ℕ × ℤ)) → e.1 ≢ pos 0 → All (λ f. e.0 < f.0) es → IsFormalSum es
    → IsFormalSum (e ∷ es)
formal_cons e es some later formal = record {
  ascending = AllPairs-cons (λ e f. e.0 < f.0) e es later formal.ascending;
  nonzero = All-cons (λ e. e.1 ≢ pos 0) e es some formal.nonzero;
}

pub formal_first : (e : ℕ × ℤ) (es : List (ℕ × ℤ)) → IsFormalSum (e ∷ es) → e.1 ≢ pos 0
formal_first e es formal = All-head (λ e. e.1 ≢ pos 0) e es formal.nonzero

pub formal_later : (e : ℕ × ℤ) (es : List (ℕ × ℤ)) → IsFormalSum (e ∷ es) → All (λ f. e.0 < f.0) es
formal_later e es formal k d less = formal.ascending 0 (suc k) d (omega arith) (omega arith)

pub formal_tail : (e : ℕ × ℤ) (es : List (ℕ × ℤ)) → IsFormalSum (e ∷ es) → IsFormalSum es
formal_tail e es formal = record {
  ascending = λ i j d i_less j_less. formal.ascending (suc i) (suc j) d (omega arith) (omega arith);
  nonzero = All-tail (λ e. e.1 ≢ pos 0) e es formal.nonzero;
}

pub formal_append : (xs ys : List (ℕ × ℤ)) → IsFormalSum xs → IsFormalSum ys → Precede xs ys
    → IsFormalSum (xs ++ ys)
formal_append [] ys xs_formal ys_formal precede = ys_formal
formal_append (x ∷ xs) ys xs_formal ys_formal precede =
    let P = λ (e : ℕ × ℤ). All (λ f. e.0 < f.0) ys in
    formal_cons x (xs ++ ys) (formal_first x xs xs_formal)
    (All-append (λ f. x.0 < f.0) xs ys (formal_later x xs xs_formal) (All-head P x xs precede))
    (formal_append xs ys (formal_tail x xs xs_formal) ys_formal (All-tail P x xs precede))

-- what is left of a formal sum
pub formal_drop : (n : ℕ) (xs : List (ℕ × ℤ)) → IsFormalSum xs → IsFormalSum (drop n xs)
formal_drop zero xs formal = formal
formal_drop (suc n) [] formal = formal_nil
formal_drop (suc n) (x ∷ xs) formal = formal_drop n xs (formal_tail x xs formal)

-- one entry, or none
pub formal_entry : (p : ℕ) (m : ℤ) → IsFormalSum (entry_of p m)
formal_entry p (pos zero) = formal_nil
formal_entry p (pos (suc n)) = formal_cons (p, pos (suc n)) [] (λ e. cc) (All-nil (λ f. p < f.0)) formal_nil
formal_entry p (negsuc n) = formal_cons (p, negsuc n) [] (λ e. cc) (All-nil (λ f. p < f.0)) formal_nil

-- what holds of the entry holds of it as a list
pub entry_all : (P : ℕ × ℤ → Type 0) (p : ℕ) (m : ℤ) → P (p, m) → All P (entry_of p m)
entry_all P p (pos zero) h = All-nil P
entry_all P p (pos (suc n)) h = All-cons P (p, pos (suc n)) [] h (All-nil P)
entry_all P p (negsuc n) h = All-cons P (p, negsuc n) [] h (All-nil P)

pub entry_some : (p : ℕ) (m : ℤ) → m ≢ pos 0 → entry_of p m ≡ (p, m) ∷ []
entry_some p (pos zero) some = absurd (some refl)
entry_some p (pos (suc n)) some = refl
entry_some p (negsuc n) some = refl
