-- Elements as they are read, and why one may not stand.
use Rattle.std.proofs.Common.{◌≡◌, ◌≢◌, ℕ, ◌<◌, ◌≤◌, max, List, [], length, refl, sym, ap, ◌∙◌, subst, arith}
use Rattle.ff_fields.specs.Field.{CodeField}
use Rattle.function_field.specs.Values.{ElemValue, PresValue, IsElem, function_of}
use Rattle.ff_algebra.specs.CurveTerms.{IsCoefficient, degree_in_x}
use Rattle.ff_text.specs.declared.terms.ElemText.{ElemText}
use Rattle.ff_text.specs.Printing.{IsWritableElement}
use Rattle.ff_meaning.specs.declared.refusal.Refusal.TheVariants.{Length, LimitX, Zero}
use Rattle.ff_meaning.specs.Refusals.{IsWithinDegrees, IsElementRow, size, degree, zero_den}
use Rattle.ff_meaning.specs.Elements.{greatest_in_x, AreElementSums, AreCoefficients, IsElementRead}
use Rattle.ff_meaning.proofs.EntrySums.{length_sums, length_coefficients}
use Rattle.ff_meaning.proofs.ElementValues.{Terms, coefficient_exists, coefficients_exist, element_below, element_of, element_degree}

module _ (k : CodeField) where
  module _ (n bound : ℕ) (e : ElemText) (writable : IsWritableElement e) (ss : List Terms) (s : Terms)
      (sums : AreElementSums k.ops e ss s) where
    pub wrong_length : (m : ℕ) → m ≡ length ss → m ≢ n → IsElementRow k.ops n bound e (Length m)
    wrong_length m m_is other =
        let same : m ≡ length e.entries = m_is ∙ length_sums k.ops e.entries ss sums.entries in
        size (element_below k e ss s sums) (λ d. other (same ∙ d)) (ap Length same)

    module _ (long : length ss ≡ n) where
      right_length : length e.entries ≡ n
      right_length = sym (length_sums k.ops e.entries ss sums.entries) ∙ long

      pub too_great : (d : ℕ) → d ≡ max (greatest_in_x ss) (degree_in_x s) → bound < d
          → IsElementRow k.ops n bound e (LimitX d)
      too_great d d_is great =
          let ps = coefficients_exist k.ops ss in
          let den = coefficient_exists k.ops s in
          let same = element_degree k e ss s sums ps.0 den.0 ps.1 den.1 writable in
          degree right_length (record { num = ps.0; den = den.0 }) (element_of k e ss s sums ps.0 den.0 ps.1 den.1)
          (omega (arith, same, d_is)) (ap LimitX (d_is ∙ sym same))

      module _ (ps : List (List ℕ)) (d : List ℕ) (num : AreCoefficients k.ops ss ps) (den : IsCoefficient k.ops s 0 d)
          (low : max (greatest_in_x ss) (degree_in_x s) ≤ bound) where
        pub over_zero : d ≡ [] → IsElementRow k.ops n bound e Zero
        over_zero none =
            let same = element_degree k e ss s sums ps d num den writable in
            zero_den right_length (record { num = ps; den = d }) (element_of k e ss s sums ps d num den)
            (omega (arith, same)) none refl

        within : d ≢ [] → IsWithinDegrees k.ops n bound e
        within some =
            let same = element_degree k e ss s sums ps d num den writable in
            record {
              written = element_below k e ss s sums;
              size = right_length;
              value = record { num = ps; den = d };
              is = element_of k e ss s sums ps d num den;
              small = omega (arith, same);
              over = some;
            }

        pub element_read : (z : ElemValue) → d ≢ []
            → ((p : PresValue) → function_of k p z ≡ function_of k p (record { num = ps; den = d }))
            → IsElem k.ops (length ps) z → IsElementRead k n bound e z
        unfolding within
        element_read z some same in_range = record {
          within = within some;
          same = same;
          in_range = subst (λ m. IsElem k.ops m z) (length_coefficients k.ops ss ps num ∙ long) in_range;
        }
