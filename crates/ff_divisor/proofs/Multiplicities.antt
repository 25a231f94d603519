-- Multiplicities of lists, and that a function of the place has one formal sum.
use Rattle.std.proofs.Common.{◌≡◌, ◌≢◌, ℕ, zero, suc, ◌+◌, ◌<◌, eqb, cond, ◌⊎◌, inl, inr, ℤ, pos, negsuc, ◌+ℤ◌, ◌-ℤ◌, List, [], ◌∷◌, ◌++◌, length, take, drop, get_or, All, sum_by, IsPermutation, refl, sym, ap, ap₂, subst, ◌∙◌, arith}
use Rattle.std.proofs.lemmas.Int.{ints}
use borrow.Author.Differences.{up, down}
use Rattle.std.proofs.lemmas.Bool.Decides.{nat_tests}
use Rattle.std.proofs.lemmas.List.{take-append-drop}
use Rattle.std.proofs.lemmas.List.Elements.{All-head, All-tail, All-weaker}
use Rattle.std.proofs.lemmas.List.Sums.{sum_by-cons}
use Rattle.std.proofs.lemmas.List.Sorted.{sum_by-IsPermutation}
use Rattle.ff_divisor.specs.FormalSums.{IsFormalSum, multiplicity}
use Rattle.ff_divisor.specs.Steps.{entry_of}
use Rattle.ff_divisor.proofs.FormalSums.{formal_first, formal_later, formal_tail}

-- what an entry gives to the multiplicity at p
abbrev pub share : ℕ → ℕ × ℤ → ℤ
share p e = cond (eqb e.0 p) e.1 (pos 0)

pub share_same : (p : ℕ) (e : ℕ × ℤ) → e.0 ≡ p → share p e ≡ e.1
share_same p e same = grind (arith, nat_tests)

pub share_other : (p : ℕ) (e : ℕ × ℤ) → e.0 ≢ p → share p e ≡ pos 0
share_other p e other = grind (arith, nat_tests)

module _ (p : ℕ) where
  pub multiplicity-append : (xs ys : List (ℕ × ℤ)) → multiplicity p (xs ++ ys) ≡ multiplicity p xs +ℤ multiplicity p ys
  multiplicity-append [] ys = omega (arith, ints)
  multiplicity-append (x ∷ xs) ys =
      let rest = multiplicity-append xs ys in sum_of (share p x) _ _ _ rest
    where
      sum_of : (a b c d : ℤ) → d ≡ b +ℤ c → a +ℤ d ≡ (a +ℤ b) +ℤ c
      sum_of a b c d h = omega (arith, ints)

  pub multiplicity_absent : (es : List (ℕ × ℤ)) → All (λ e. e.0 ≢ p) es → multiplicity p es ≡ pos 0
  multiplicity_absent [] absent = refl
  multiplicity_absent (e ∷ es) absent =
      let P = λ (e : ℕ × ℤ). e.0 ≢ p in
      ap₂ (λ x y. x +ℤ y) (share_other p e (All-head P e es absent))
      (multiplicity_absent es (All-tail P e es absent))

  pub multiplicity_before : (es : List (ℕ × ℤ)) → All (λ e. e.0 < p) es → multiplicity p es ≡ pos 0
  multiplicity_before es before = multiplicity_absent es
      (All-weaker (λ e. e.0 < p) (λ e. e.0 ≢ p) (λ e less same. omega arith) es before)

  pub multiplicity_after : (es : List (ℕ × ℤ)) → All (λ e. p < e.0) es → multiplicity p es ≡ pos 0
  multiplicity_after es after = multiplicity_absent es
      (All-weaker (λ e. p < e.0) (λ e. e.0 ≢ p) (λ e less same. omega arith) es after)

  pub multiplicity-take-drop : (n : ℕ) (es : List (ℕ × ℤ))
      → multiplicity p es ≡ multiplicity p (take n es) +ℤ multiplicity p (drop n es)
  multiplicity-take-drop n es =
      ap (multiplicity p) (sym (take-append-drop n es)) ∙ multiplicity-append (take n es) (drop n es)

  pub multiplicity_entry : (q : ℕ) (m : ℤ) → multiplicity p (entry_of q m) ≡ share p (q, m)
  multiplicity_entry q (pos zero) = grind (arith, nat_tests)
  multiplicity_entry q (pos (suc n)) = omega (arith, ints)
  multiplicity_entry q (negsuc n) = omega (arith, ints)

  -- as a difference of natural sums
  multiplicity_parts : (es : List (ℕ × ℤ)) → multiplicity p es
      ≡ pos (sum_by (λ e. up (share p e)) es) -ℤ pos (sum_by (λ e. down (share p e)) es)
  multiplicity_parts [] = refl
  multiplicity_parts (e ∷ es) =
      let ups = sum_by-cons (λ e. up (share p e)) e es in
      let downs = sum_by-cons (λ e. down (share p e)) e es in
      joined (share p e) _ _ _ _ _ (multiplicity_parts es) ups downs
    where
      joined : (z m : ℤ) (a b a' b' : ℕ) → m ≡ pos a -ℤ pos b → a' ≡ up z + a → b' ≡ down z + b
          → z +ℤ m ≡ pos a' -ℤ pos b'
      joined z m a b a' b' m_is a_is b_is = omega (arith, ints)

  pub multiplicity-IsPermutation : (xs ys : List (ℕ × ℤ)) → IsPermutation xs ys → multiplicity p ys ≡ multiplicity p xs
  multiplicity-IsPermutation xs ys permutation =
      multiplicity_parts ys
      ∙ ap₂ (λ a b. pos a -ℤ pos b) (sum_by-IsPermutation (λ e. up (share p e)) xs ys permutation)
      (sum_by-IsPermutation (λ e. down (share p e)) xs ys permutation)
      ∙ sym (multiplicity_parts xs)

-- the multiplicity at the first place
pub multiplicity_first : (e : ℕ × ℤ) (es : List (ℕ × ℤ)) → IsFormalSum (e ∷ es) → multiplicity e.0 (e ∷ es) ≡ e.1
multiplicity_first e es formal =
    let here = share_same e.0 e refl in
    let rest = multiplicity_after e.0 es (formal_later e es formal) in
    ap₂ (λ x y. x +ℤ y) here rest ∙ no_more e.1
  where
    no_more : (a : ℤ) → a +ℤ pos 0 ≡ a
    no_more a = omega (arith, ints)

-- an entry of a formal sum has the multiplicity at its place
pub multiplicity_at : (es : List (ℕ × ℤ)) (k : ℕ) (d : ℕ × ℤ) → IsFormalSum es → k < length es
    → multiplicity (get_or es k d).0 es ≡ (get_or es k d).1
multiplicity_at [] k d formal less = absurd (omega arith)
multiplicity_at (e ∷ es) zero d formal less = multiplicity_first e es formal
multiplicity_at (e ∷ es) (suc k) d formal less =
    let f = get_or es k d in
    let k_less : k < length es = omega arith in
    let after : e.0 < f.0 = formal_later e es formal k d k_less in
    ap₂ (λ x y. x +ℤ y) (share_other f.0 e (λ same. omega arith))
    (multiplicity_at es k d (formal_tail e es formal) k_less)
    ∙ nothing_before f.1
  where
    nothing_before : (a : ℤ) → pos 0 +ℤ a ≡ a
    nothing_before a = omega (arith, ints)

same_rest : (a b c d : ℤ) → a +ℤ b ≡ c +ℤ d → a ≡ c → b ≡ d
same_rest a b c d all first = omega (arith, ints)

three_ways : (a b : ℕ) → (a ≡ b) ⊎ ((a < b) ⊎ (b < a))
three_ways a b = grind arith

-- formal sums with the same multiplicity at every place are equal
pub one_form : (xs ys : List (ℕ × ℤ)) → IsFormalSum xs → IsFormalSum ys
    → ((p : ℕ) → multiplicity p xs ≡ multiplicity p ys) → xs ≡ ys
one_form [] [] xs_formal ys_formal same = refl
one_form [] (y ∷ ys) xs_formal ys_formal same =
    absurd (formal_first y ys ys_formal (sym (multiplicity_first y ys ys_formal) ∙ sym (same y.0)))
one_form (x ∷ xs) [] xs_formal ys_formal same =
    absurd (formal_first x xs xs_formal (sym (multiplicity_first x xs xs_formal) ∙ same x.0))
one_form (x ∷ xs) (y ∷ ys) xs_formal ys_formal same =
    go (three_ways x.0 y.0) (one_form xs ys (formal_tail x xs xs_formal) (formal_tail y ys ys_formal))
  where
    absent : (e : ℕ × ℤ) (es : List (ℕ × ℤ)) (p : ℕ) → IsFormalSum (e ∷ es) → p < e.0 → multiplicity p (e ∷ es) ≡ pos 0
    absent e es p formal less =
        ap₂ (λ a b. a +ℤ b) (share_other p e (λ eq. omega arith))
        (multiplicity_after p es (All-weaker (λ f. e.0 < f.0) (λ f. p < f.0) (λ f later. omega arith) es
        (formal_later e es formal)))

    go : (x.0 ≡ y.0) ⊎ ((x.0 < y.0) ⊎ (y.0 < x.0)) → (((p : ℕ) → multiplicity p xs ≡ multiplicity p ys) → xs ≡ ys)
        → x ∷ xs ≡ y ∷ ys
    go (inr (inl less)) rest =
        absurd (formal_first x xs xs_formal
        (sym (multiplicity_first x xs xs_formal) ∙ same x.0 ∙ absent y ys x.0 ys_formal less))
    go (inr (inr less)) rest =
        absurd (formal_first y ys ys_formal
        (sym (multiplicity_first y ys ys_formal) ∙ sym (same y.0) ∙ absent x xs y.0 xs_formal less))
    go (inl place) rest =
        let integer : x.1 ≡ y.1 = sym (multiplicity_first x xs xs_formal) ∙ same x.0
        ∙ ap (λ p. multiplicity p (y ∷ ys)) place ∙ multiplicity_first y ys ys_formal in
        let first : x ≡ y = λ i. (place i, integer i) in
        ap₂ (λ e es. e ∷ es) first
        (rest (λ p. same_rest (share p x) _ (share p y) _ (same p) (ap (share p) first)))

-- what holds of each multiplicity holds of the integers of a formal sum
pub all_integers : (P : ℤ → Type 0) (es : List (ℕ × ℤ)) (k : ℕ) (d : ℕ × ℤ) → IsFormalSum es
    → ((p : ℕ) → P (multiplicity p es)) → k < length es → P (get_or es k d).1
all_integers P es k d formal h less =
    subst P (multiplicity_at es k d formal less) (h (get_or es k d).0)
