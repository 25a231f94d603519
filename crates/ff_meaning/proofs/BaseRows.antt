-- What places may lie over: the polynomial that is written, why it may not stand, and that there is one reason.
use Rattle.std.proofs.Common.{◌≡◌, ◌≢◌, ℕ, false, ◌-◌, ◌*◌, ◌<◌, ◌≤◌, List, [], ◌∷◌, length, get_or, refl, sym, ap, ◌∙◌, subst, arith}
use Rattle.ff_fields.specs.Field.{FieldOps, CodeField}
use Rattle.ff_fields.specs.Over.{IsOver}
use Rattle.ff_poly.specs.Words.{IsMonicList, IsIrreducibleList, top_of}
use Rattle.ff_poly.proofs.Parts.{top_of_monic}
use Rattle.ff_algebra.specs.CurveTerms.{IsCoefficient, degree_in_x}
use Rattle.ff_factor.specs.Factors.{FactorsValue, IsFactorisation}
use Rattle.ff_factor.proofs.OneFactorisation.{one_factorisation}
use Rattle.function_field.specs.declared.side.Side.{Side}
use Rattle.function_field.specs.declared.side.Side.TheVariants.{Finite}
use Rattle.function_field.specs.Limits.{max_degree_of_places}
use Rattle.ff_text.specs.declared.terms.Term.{Term}
use Rattle.ff_text.specs.Printing.{IsWritableTerms}
use Rattle.ff_text.specs.Values.{written_codes}
use Rattle.ff_script.specs.declared.script.Over.{Over}
use Rattle.ff_script.specs.declared.script.Over.TheVariants.{At, Inf}
use Rattle.ff_meaning.specs.declared.refusal.Refusal.{Refusal}
use Rattle.ff_meaning.specs.declared.refusal.Refusal.TheVariants.{LimitPlace, NotIrreducible, Memory}
use Rattle.ff_meaning.specs.Meaning.{IsSumOf, IsBase}
use Rattle.ff_meaning.specs.Refusals.{IsFirstPart, IsReducible, IsPolynomialRow, IsBaseRow}
use Rattle.ff_meaning.specs.Refusals as rows
use Rattle.ff_meaning.specs.Bases.{IsPolynomialRead, IsRefusedPolynomial, IsBaseRead}
use Rattle.ff_meaning.specs.Bases as bases
use Rattle.ff_meaning.proofs.ElementValues.{coefficient_exists, no_y_sum, degree_is, poly_is, same_poly, none_found}
use Rattle.ff_meaning.proofs.CodeRows.{same_code, no_code, code_some}

-- ---- the polynomial of the terms

module _ (k : CodeField) (g : List Term) (writable : IsWritableTerms false g) (s : List (ℕ × ℕ × ℕ))
    (sum : IsSumOf k.ops g s) where
  same_degree : (p : List ℕ) → IsCoefficient k.ops s 0 p → length p - 1 ≡ degree_in_x s
  same_degree p h = degree_is k s p sum.terms sum.codes_in (no_y_sum k g s writable sum) h

  pub too_great : (n bound d : ℕ) → d ≡ n * degree_in_x s → bound < d
      → IsRefusedPolynomial k.ops n bound g (LimitPlace d)
  too_great n bound d d_is great =
      let p = coefficient_exists k.ops s in
      let same : d ≡ n * (length p.0 - 1) = d_is ∙ ap (λ (i : ℕ). n * i) (sym (same_degree p.0 p.1)) in
      bases.degree p.0 (poly_is k.ops g s p.0 sum p.1) (subst (λ i. bound < i) same great) (ap LimitPlace same)

  pub polynomial_read : (n bound d : ℕ) → d ≡ n * degree_in_x s → d ≤ bound → (p : List ℕ) → IsCoefficient k.ops s 0 p
      → IsOver k.ops p → IsPolynomialRead k.ops n bound g p
  polynomial_read n bound d d_is low p h p_in = record {
    is = poly_is k.ops g s p sum h;
    over = p_in;
    small = subst (λ i. i ≤ bound) (d_is ∙ ap (λ (i : ℕ). n * i) (sym (same_degree p h))) low;
  }

-- ---- one reason

module _ (k : CodeField) where
  first_once : (fs : List (List ℕ × ℕ)) (h g : List ℕ) → IsFirstPart fs h → IsFirstPart fs g → h ≡ g
  first_once [] h g a b = absurd a
  first_once (f ∷ fs) h g a b = a ∙ sym b

  pub one_reason : (p h g : List ℕ) → IsReducible k.ops p h → IsReducible k.ops p g → h ≡ g
  one_reason p h g (rows.constant le is) (rows.constant le' is') = is ∙ sym is'
  one_reason p h g (rows.constant le is) (rows.coefficient long other is') = absurd (omega (arith, le, long))
  one_reason p h g (rows.constant le is) (rows.factor long one not fs holds first) = absurd (omega (arith, le, long))
  one_reason p h g (rows.coefficient long other is) (rows.constant le is') = absurd (omega (arith, le, long))
  one_reason p h g (rows.coefficient long other is) (rows.coefficient long' other' is') = is ∙ sym is'
  one_reason p h g (rows.coefficient long other is) (rows.factor long' one not fs holds first) = absurd (other one)
  one_reason p h g (rows.factor long one not fs holds first) (rows.constant le is) = absurd (omega (arith, le, long))
  one_reason p h g (rows.factor long one not fs holds first) (rows.coefficient long' other is) = absurd (other one)
  one_reason p h g (rows.factor long one not fs holds first) (rows.factor long' one' not' fs' holds' first') =
      first_once fs'.parts h g
      (subst (λ (f : FactorsValue). IsFirstPart f.parts h) (one_factorisation k p fs fs' holds holds') first) first'

  not_both : (n bound : ℕ) (p q : List ℕ) → p ≡ q → n * (length p - 1) ≤ bound → bound < n * (length q - 1) → ⊥
  not_both n bound p q e le less =
      let high = subst (λ (l : List ℕ). bound < n * (length l - 1)) (sym e) less in
      omega (arith, le, high)

  pub one_polynomial_row : (n bound : ℕ) (g : List Term) (r t : Refusal) → IsPolynomialRow k.ops n bound g r
      → IsPolynomialRow k.ops n bound g t → r ≡ t
  one_polynomial_row n bound g r t (rows.range h) (rows.range j) = same_code k.size (written_codes g) r t h j
  one_polynomial_row n bound g r t (rows.range h) (rows.degree p p_is great is) = absurd
      (no_code k.ops (written_codes g) r p_is.written h)
  one_polynomial_row n bound g r t (rows.range h) (rows.reducible p p_is small a why is) = absurd
      (no_code k.ops (written_codes g) r p_is.written h)
  one_polynomial_row n bound g r t (rows.degree p p_is great is) (rows.range j) = absurd
      (no_code k.ops (written_codes g) t p_is.written j)
  one_polynomial_row n bound g r t (rows.degree p p_is great is) (rows.degree q q_is great' is') =
      is ∙ ap (λ (x : List ℕ). LimitPlace (n * (length x - 1))) (same_poly k.ops g p q p_is q_is) ∙ sym is'
  one_polynomial_row n bound g r t (rows.degree p p_is great is) (rows.reducible q q_is small a why is') = absurd
      (not_both n bound q p (same_poly k.ops g q p q_is p_is) small great)
  one_polynomial_row n bound g r t (rows.reducible p p_is small a why is) (rows.range j) = absurd
      (no_code k.ops (written_codes g) t p_is.written j)
  one_polynomial_row n bound g r t (rows.reducible p p_is small a why is) (rows.degree q q_is great is') = absurd
      (not_both n bound p q (same_poly k.ops g p q p_is q_is) small great)
  one_polynomial_row n bound g r t (rows.reducible p p_is small a why is) (rows.reducible q q_is small' b why' is') =
      is
      ∙ ap NotIrreducible
      (one_reason q a b (subst (λ x. IsReducible k.ops x a) (same_poly k.ops g p q p_is q_is) why) why')
      ∙ sym is'

  pub one_base_row : (n bound : ℕ) (over : Over) (r t : Refusal) → IsBaseRow k.ops n bound over r
      → IsBaseRow k.ops n bound over t → r ≡ t
  one_base_row n bound (At g) r t h j = one_polynomial_row n bound g r t h j
  one_base_row n bound Inf r t h j = absurd h

-- it isn't want of memory
pub base_some : (k : FieldOps) (n bound : ℕ) (over : Over) (r : Refusal) → IsBaseRow k n bound over r → r ≢ Memory
base_some k n bound (At g) r (rows.range h) m = code_some k.size (written_codes g) r h m
base_some k n bound (At g) r (rows.degree p p_is great is) m = absurd cc
base_some k n bound (At g) r (rows.reducible p p_is small a why is) m = absurd cc
base_some k n bound Inf r h m = absurd h

-- ---- a polynomial that may stand

monic_top : (p : List ℕ) → IsMonicList p → top_of p ≡ 1
monic_top p monic =
    let t = top_of_monic p monic in
    let size = t.1 in
    let last : length p - 1 ≡ t.0 = omega (arith, size) in
    ap (λ i. get_or p i 0) last ∙ t.2

module _ (k : FieldOps) where
  pub not_reducible : (p h : List ℕ) → IsIrreducibleList k p → ¬ IsReducible k p h
  not_reducible p h i (rows.constant le is) = let long = i.not_constant in omega (arith, le, long)
  not_reducible p h i (rows.coefficient long other is) = other (monic_top p i.monic)
  not_reducible p h i (rows.factor long one not fs holds first) = not i

  -- no row holds of it
  pub no_polynomial_row : (n bound : ℕ) (g : List Term) (p : List ℕ) (r : Refusal)
      → IsPolynomialRead k n bound g p → IsIrreducibleList k p → ¬ IsPolynomialRow k n bound g r
  no_polynomial_row n bound g p r h i (rows.range row) =
      let none = none_found k k.size (written_codes g) h.is.written in absurd (let found = row.1 in cc)
  no_polynomial_row n bound g p r h i (rows.degree q q_is great is) =
      let e = same_poly k g q p q_is h.is in
      let small = h.small in
      let high = subst (λ (l : List ℕ). bound < n * (length l - 1)) e great in
      omega (arith, small, high)
  no_polynomial_row n bound g p r h i (rows.reducible q q_is small a why is) =
      not_reducible p a i (subst (λ x. IsReducible k x a) (same_poly k g q p q_is h.is) why)

  -- the side and the polynomial are fixed by what is written
  pub one_base : (over : Over) (s t : Side) (p q : List ℕ) → IsBase k over s p → IsBase k over t q → (s ≡ t) × (p ≡ q)
  one_base (At g) s t p q h j = (h.0 ∙ sym j.0, same_poly k g p q h.1 j.1)
  one_base Inf s t p q h j = (h.0 ∙ sym j.0, h.1 ∙ sym j.1)

-- a polynomial of refused terms is refused
pub refused_row : (k : FieldOps) (n bound : ℕ) (g : List Term) (r : Refusal) → IsRefusedPolynomial k n bound g r
    → IsPolynomialRow k n bound g r
refused_row k n bound g r (bases.range h) = rows.range h
refused_row k n bound g r (bases.degree p is great told) = rows.degree p is great told

-- it is what the places lie over
pub base_read : (k : FieldOps) (n : ℕ) (g : List Term) (p : List ℕ) → IsPolynomialRead k n max_degree_of_places g p
    → IsIrreducibleList k p → IsBaseRead k n (At g) Finite p
base_read k n g p h i = record {
  base = (refl, h.is, i);
  codes = h.over;
  no_row = λ r. no_polynomial_row k n max_degree_of_places g p r h i;
}

-- ---- the first factor

first_at : (fs : List (List ℕ × ℕ)) (f : List ℕ × ℕ) (h : List ℕ) → 1 ≤ length fs → f ≡ get_or fs 0 f → h ≡ f.0
    → IsFirstPart fs h
first_at [] f h some f_is h_is = absurd (omega arith)
first_at (x ∷ fs) f h some f_is h_is = h_is ∙ ap (λ (y : List ℕ × ℕ). y.0) f_is

-- a copy of the first of the factors
pub factor_told : (k : FieldOps) (p : List ℕ) → 2 ≤ length p → top_of p ≡ 1 → ¬ IsIrreducibleList k p
    → (fs : FactorsValue) → IsFactorisation k p fs → (parts : List (List ℕ × ℕ)) → parts ≡ fs.parts → 1 ≤ length parts
    → (f : List ℕ × ℕ) → f ≡ get_or parts 0 f → (h : List ℕ) → h ≡ f.0 → IsReducible k p h
factor_told k p long one not fs holds parts same some f f_is h h_is =
    rows.factor long one not fs holds (subst (λ l. IsFirstPart l h) same (first_at parts f h some f_is h_is))
