-- The factors of a polynomial that is written, and why it may have none.
use Rattle.std.proofs.Common.{◌≡◌, ◌≢◌, ℕ, false, ◌-◌, ◌<◌, ◌≤◌, List, [], length, map, refl, sym, ap, ◌∙◌, subst, arith}
use Rattle.ff_fields.specs.Field.{CodeField}
use Rattle.ff_algebra.specs.CurveTerms.{IsCoefficient, degree_in_x}
use Rattle.ff_factor.specs.Factors.{IsFactorisation}
use Rattle.ff_text.specs.declared.terms.Term.{Term}
use Rattle.ff_text.specs.Printing.{IsWritableTerms}
use Rattle.ff_text.specs.Values.{written_codes}
use Rattle.ff_meaning.specs.declared.refusal.Refusal.{Refusal}
use Rattle.ff_meaning.specs.declared.refusal.Refusal.TheVariants.{LimitX, Zero}
use Rattle.function_field.specs.Limits.{max_degree}
use Rattle.ff_meaning.specs.Meaning.{IsSumOf, IsPolyOf}
use Rattle.ff_meaning.specs.Refusals.{IsFactorRow, range, degree, zero_sum}
use Rattle.ff_meaning.proofs.ElementValues.{Terms, coefficient_exists, no_y_sum, degree_is, poly_is, same_poly, none_found}
use Rattle.ff_cert.specs.declared.answer.PowerLine.{PowerLine}
use Rattle.ff_session.specs.Steps.{AreFactorsRead}

module _ (k : CodeField) (g : List Term) (writable : IsWritableTerms false g) (s : Terms) (sum : IsSumOf k.ops g s)
  where
    same_degree : (p : List ℕ) → IsCoefficient k.ops s 0 p → length p - 1 ≡ degree_in_x s
    same_degree p h = degree_is k s p sum.terms sum.codes_in (no_y_sum k g s writable sum) h

    pub too_great : (d : ℕ) → d ≡ degree_in_x s → 512 < d → IsFactorRow k.ops max_degree g (LimitX d)
    too_great d d_is great =
        let p = coefficient_exists k.ops s in
        let same = same_degree p.0 p.1 in
        degree p.0 (poly_is k.ops g s p.0 sum p.1) (omega (arith, same, d_is)) (ap LimitX (d_is ∙ sym same))

    module _ (p : List ℕ) (h : IsCoefficient k.ops s 0 p) where
      pub none_of : p ≡ [] → IsFactorRow k.ops max_degree g Zero
      none_of e = zero_sum (subst (IsPolyOf k.ops g) e (poly_is k.ops g s p sum h)) refl

      pub factors_read : (unit : ℕ) (parts : List PowerLine) (lines : List (List ℕ × ℕ)) → degree_in_x s ≤ 512 → p ≢ []
          → IsFactorisation k.ops p (record { unit = unit; parts = lines })
          → map (λ (l : PowerLine). (l.poly, l.exponent)) parts ≡ lines
          → AreFactorsRead k.ops g unit parts
      factors_read unit parts lines low some is same = record {
        is = record {
          sum = p;
          is_sum = poly_is k.ops g s p sum h;
          factors = subst (λ (fs : List (List ℕ × ℕ)). IsFactorisation k.ops p (record { unit = unit; parts = fs }))
              (sym same) is;
        };
        no_row = no_row;
      }
        where
          no_row : (r : Refusal) → ¬ IsFactorRow k.ops max_degree g r
          no_row r (range row) = let none = none_found k.ops k.size (written_codes g) sum.written in absurd
              (let found = row.1 in cc)
          no_row r (degree q q_is great told) =
              let same = ap length (same_poly k.ops g q p q_is (poly_is k.ops g s p sum h)) in
              let here = same_degree p h in
              omega (arith, same, here)
          no_row r (zero_sum none told) = some (same_poly k.ops g p [] (poly_is k.ops g s p sum h) none)
