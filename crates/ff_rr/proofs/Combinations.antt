-- Sums of functions times codes, one more at a time.
use Rattle.std.proofs.Common.{◌≡◌, ℕ, zero, suc, ◌+◌, ◌<◌, List, [], ◌∷◌, length, get_or, map, take, sym, ◌∙◌, ap, ap₂, subst, arith, add-one}
use Rattle.ring_lemmas.specs.Ring.{CommRing}
use Rattle.ring_lemmas.proofs.Ring.{zero_add}
use Rattle.ff_fields.specs.Field.{CodeField}
use Rattle.ff_fields.specs.Over.{IsOver_nil, IsOver_cons}
use Rattle.ff_poly.specs.Words.{poly_of}
use Rattle.ff_poly.specs.Value.{value}
use Rattle.ff_poly.specs.Polynomials.{value_nil, value_one}
use Rattle.function_field.specs.Functions.{of_poly}
use Rattle.function_field.proofs.OnSide.{of_poly_zero}
use Rattle.function_field.proofs.ScalarRings.{of_poly_one}
use Rattle.ff_lattice.proofs.Spaces.{value_poly_of}
use Rattle.function_field.specs.Infinity.{constant}
use Rattle.function_field.specs.Spans.{combination}
use Rattle.function_field.specs.Values.{ElemValue, PresValue, functions, function_of, equation_of}
use Rattle.ff_rr.specs.Listings.{function_at}

module _ {E : Type 0} (R : CommRing E) where
  infixl 65 ◌⊕◌
  infixl 70 ◌⊗◌
  open R use {𝟘, ◌⊕◌, ◌⊗◌}

  -- the combination of the first members and of one more
  pub combination_more : {X Y : Type 0} (f : X → E) (h : Y → E) (xs : List X) (ys : List Y) (i : ℕ) (x : X) (y : Y)
      → i < length xs → i < length ys
      → combination R.ops (map f (take (suc i) xs)) (map h (take (suc i) ys))
      ≡ combination R.ops (map f (take i xs)) (map h (take i ys)) ⊕ f (get_or xs i x) ⊗ h (get_or ys i y)
  combination_more f h [] ys i x y l m = absurd (omega arith)
  combination_more f h (a ∷ xs) [] i x y l m = absurd (omega arith)
  combination_more f h (a ∷ xs) (b ∷ ys) zero x y l m = R.add_zero (f a ⊗ h b) ∙ sym (zero_add R (f a ⊗ h b))
  combination_more f h (a ∷ xs) (b ∷ ys) (suc i) x y l m =
      ap (λ w. f a ⊗ h b ⊕ w) (combination_more f h xs ys i x y (omega arith) (omega arith)) ∙ sym (R.add_assoc _ _ _)

module _ (k : CodeField) (p : PresValue) where
  pub function_more : (zs : List ElemValue) (v : List ℕ) (i : ℕ) (z : ElemValue) → i < length v → i < length zs
      → z ≡ get_or zs i z
      → function_at k p (take (i + 1) zs) (take (i + 1) v)
      ≡ (functions k p).◌⊕◌ (function_at k p (take i zs) (take i v))
      ((functions k p).◌⊗◌ (constant k p (get_or v i 0)) (function_of k p z))
  function_more zs v i z l m e =
      ap (λ n. function_at k p (take n zs) (take n v)) (add-one i)
      ∙ combination_more (functions k p) (constant k p) (function_of k p) v zs i 0 z l m
      ∙ ap (λ w. (functions k p).◌⊕◌ (function_at k p (take i zs) (take i v))
      ((functions k p).◌⊗◌ (constant k p (get_or v i 0)) (function_of k p w))) (sym e)

  -- what an element that a polynomial was made into is, for each presentation of n rows
  abbrev pub IsOfPolynomial : ElemValue → List ℕ → ℕ → Type 0
  IsOfPolynomial z a n = (q : PresValue) → q.n ≡ n → function_of k q z ≡ of_poly (equation_of k q) (value k a)

  -- a product by the polynomial of one code
  pub code_product : (w factor z : ElemValue) (a : List ℕ) (c n : ℕ) → c < k.size → a ≡ poly_of (c ∷ []) → n ≡ p.n
      → IsOfPolynomial factor a n
      → function_of k p w ≡ (functions k p).◌⊗◌ (function_of k p factor) (function_of k p z)
      → function_of k p w ≡ (functions k p).◌⊗◌ (constant k p c) (function_of k p z)
  code_product w factor z a c n below a_is n_is is e =
      e
      ∙ ap (λ x. (functions k p).◌⊗◌ x (function_of k p z))
      (is p (sym n_is)
      ∙ ap (of_poly (equation_of k p)) (ap (value k) a_is ∙ value_poly_of k (c ∷ []) (IsOver_cons below IsOver_nil)))

  -- the sum of none
  pub function_none : (z : ElemValue) (a : List ℕ) (n : ℕ) → a ≡ [] → n ≡ p.n → IsOfPolynomial z a n
      → function_of k p z ≡ function_at k p [] []
  function_none z a n a_is n_is is =
      is p (sym n_is) ∙ ap (λ l. of_poly (equation_of k p) (value k l)) a_is
      ∙ ap (of_poly (equation_of k p)) (value_nil k) ∙ sym (of_poly_zero (equation_of k p))

  -- 1
  pub function_one : (z : ElemValue) (a : List ℕ) (n : ℕ) → a ≡ 1 ∷ [] → n ≡ p.n → IsOfPolynomial z a n
      → function_of k p z ≡ (functions k p).𝟙
  function_one z a n a_is n_is is =
      is p (sym n_is) ∙ ap (λ l. of_poly (equation_of k p) (value k l)) a_is
      ∙ ap (of_poly (equation_of k p)) (value_one k) ∙ sym (of_poly_one (equation_of k p))

  -- one term more
  pub function_step : (zs : List ElemValue) (v : List ℕ) (i : ℕ) (z sum term more : ElemValue) → length v ≡ length zs
      → i < length v → z ≡ get_or zs i z
      → function_of k p sum ≡ function_at k p (take i zs) (take i v)
      → function_of k p term ≡ (functions k p).◌⊗◌ (constant k p (get_or v i 0)) (function_of k p z)
      → function_of k p more ≡ (functions k p).◌⊕◌ (function_of k p sum) (function_of k p term)
      → function_of k p more ≡ function_at k p (take (i + 1) zs) (take (i + 1) v)
  function_step zs v i z sum term more one_each l z_is sum_is term_is is =
      is ∙ ap₂ (functions k p).◌⊕◌ sum_is term_is
      ∙ sym (function_more zs v i z l (subst (λ n. i < n) one_each l) z_is)
