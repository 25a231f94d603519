-- Each equation is that of a presentation by lists of codes, and that has an infinite presentation.
use Rattle.std.proofs.Common.{◌≡◌, ℕ, zero, suc, ◌+◌, ◌-◌, ◌*◌, ◌≤◌, ◌<◌, List, [], ◌∷◌, length, get_or, refl, ◌∙◌, ap, subst, arith, max}
use Rattle.ring_lemmas.specs.Rows.{Row}
use Rattle.ring_lemmas.proofs.Rows.{pair_path}
use Rattle.std.specs.Int.{div_ceil}
use Rattle.ff_fields.specs.Field.{CodeField}
use Rattle.ff_poly.specs.Polynomials.{Polynomial, codes_of, value_codes_of}
use Rattle.function_field.specs.Curves.{reversed_of}
use Rattle.function_field.specs.Functions.{Equation}
use Rattle.function_field.specs.Values.{PresValue, row_of_list, equation_of}
use Rattle.function_field.specs.Infinity.{IsInfinityNumber, IsInfinitePresentation}
use Rattle.function_field.proofs.InfinityNumbers.{length_at, IsNumberBelow, number_of_all, number_of_more, number_of_same}
use Rattle.function_field.proofs.InfinitePresentations.{infinite_is}

-- each presentation has an infinity number
number_below : (p : PresValue) (m : ℕ) → (c : ℕ) × IsNumberBelow p (m + 1) c
number_below p zero = (0, record { enough = λ i l low. absurd (omega arith); least = λ d l. absurd (omega arith) })
number_below p (suc m) = go (number_below p m) (length_at p (suc m)) refl
  where
    go : (c : ℕ) × IsNumberBelow p (m + 1) c → (n : ℕ) → length_at p (suc m) ≡ n → (c : ℕ)
        × IsNumberBelow p (suc m + 1) c
    go r zero e = (
      r.0,
      number_of_same p (suc m) r.0
          (subst (λ b. IsNumberBelow p b r.0) (let s : m + 1 ≡ suc m = omega arith in s) r.1) e,
    )
    go r (suc d) e = (
      max r.0 (div_ceil d (suc m)),
      number_of_more p (suc m) r.0 d (max r.0 (div_ceil d (suc m))) (omega arith)
          (subst (λ b. IsNumberBelow p b r.0) (let s : m + 1 ≡ suc m = omega arith in s) r.1) e refl,
    )

infinity_number : (p : PresValue) → (c : ℕ) × IsInfinityNumber p c
infinity_number p = let r = number_below p p.n in (r.0, number_of_all p p.n r.0 refl r.1)

-- the coefficients in reverse, from that of y^i on
reversed_from : (n c i : ℕ) → List (List ℕ) → List (List ℕ)
reversed_from n c i [] = []
reversed_from n c i (a ∷ vs) = reversed_of a (c * (n - i) + 1) ∷ reversed_from n c (suc i) vs

reversed_length : (n c i : ℕ) (vs : List (List ℕ)) → length (reversed_from n c i vs) ≡ length vs
unfolding reversed_from
reversed_length n c i [] = refl
reversed_length n c i (a ∷ vs) = ap suc (reversed_length n c (suc i) vs)

reversed_at : (n c i : ℕ) (vs : List (List ℕ)) (j : ℕ) → j < length vs → get_or (reversed_from n c i vs) j []
    ≡ reversed_of (get_or vs j []) (c * (n - (i + j)) + 1)
unfolding reversed_from
reversed_at n c i [] j l = absurd (omega arith)
reversed_at n c i (a ∷ vs) zero l = ap (λ m. reversed_of a (c * (n - m) + 1)) (let e : i ≡ i + 0 = omega arith in e)
reversed_at n c i (a ∷ vs) (suc j) l =
    reversed_at n c (suc i) vs j (omega arith)
    ∙ ap (λ m. reversed_of (get_or vs j []) (c * (n - m) + 1)) (let e : suc i + j ≡ i + suc j = omega arith in e)

module _ (k : CodeField) where
  infinite_exists : (p : PresValue) → length p.coeffs ≡ p.n → (c : ℕ) × (q : PresValue) × IsInfinitePresentation k p c q
  infinite_exists p one_each =
      let c = infinity_number p in
      let q : PresValue = record { n = p.n; coeffs = reversed_from p.n c.0 0 p.coeffs } in (
        c.0,
        q,
        infinite_is k p c.0 q c.1 refl (reversed_length p.n c.0 0 p.coeffs ∙ one_each)
            (λ i l. reversed_at p.n c.0 0 p.coeffs i (omega (arith, l, one_each))
            ∙ ap (λ m. reversed_of (get_or p.coeffs i []) (c.0 * (p.n - m) + 1)) (let e : 0 + i ≡ i = omega arith in e))
            one_each,
      )

  -- a row vs lists of codes, and back
  codes_of_row : (n : ℕ) → Row (Polynomial k) n → List (List ℕ)
  codes_of_row zero v = []
  codes_of_row (suc n) (a, v) = codes_of k a ∷ codes_of_row n v

  row_length : (n : ℕ) (v : Row (Polynomial k) n) → length (codes_of_row n v) ≡ n
  unfolding codes_of_row
  row_length zero v = refl
  row_length (suc n) (a, v) = ap suc (row_length n v)

  row_back : (n : ℕ) (v : Row (Polynomial k) n) → row_of_list k n (codes_of_row n v) ≡ v
  unfolding codes_of_row
  row_back zero v = refl
  row_back (suc n) (a, v) = pair_path (value_codes_of k a) (row_back n v)

  listed : Equation k → PresValue
  listed e = record { n = suc e.lower_degree; coeffs = codes_of_row (suc e.lower_degree) e.coefficients }

  equation_back : (e : Equation k) → equation_of k (listed e) ≡ e
  unfolding listed
  equation_back e =
      ap (λ m. record {
        lower_degree = m;
        coefficients = row_of_list k (suc m) (codes_of_row (suc e.lower_degree) e.coefficients);
      })
      (let s : suc e.lower_degree - 1 ≡ e.lower_degree = omega arith in s)
      ∙ ap (λ v. record { lower_degree = e.lower_degree; coefficients = v })
      (row_back (suc e.lower_degree) e.coefficients)

  -- what holds of each curve with an infinite presentation holds of each equation
  pub each_equation : (T : Equation k → Type 0)
      → ((p q : PresValue) (c : ℕ) → 1 ≤ p.n → IsInfinitePresentation k p c q → T (equation_of k p))
      → (e : Equation k) → T e
  unfolding listed
  each_equation T t e =
      let r = infinite_exists (listed e) (row_length (suc e.lower_degree) e.coefficients) in
      subst T (equation_back e) (t (listed e) r.1 r.0 (omega arith) r.2)
