-- A function is written in one way.
use Rattle.std.proofs.Common.{◌≡◌, suc, ◌-◌, ◌≤◌, length, sym, ap, ◌∙◌, subst, arith}
use Rattle.std.proofs.lemmas.List.{length-map}
use Rattle.ff_fields.specs.Field.{CodeField}
use Rattle.ff_poly.specs.Words.{product_of}
use Rattle.function_field.specs.Values.{PresValue, IsElem, Functions}
use Rattle.function_field.proofs.SameValues.{same_iff, monic_some}
use Rattle.ff_text.specs.Printed.{WrittenValue}
use Rattle.ff_factor.specs.LowestTerms.{IsInLowestTermsOf}
use Rattle.ff_factor.proofs.OneLowest.{one_form}
use Rattle.ff_written.specs.LowestTerms.{IsWritten, elem_of}

module _ (k : CodeField) (p : PresValue) (some : 1 ≤ p.n) (f : Functions k p) where
  in_range : (z : WrittenValue) → IsWritten k p f z → IsElem k.ops (suc (p.n - 1)) (elem_of z)
  in_range z h =
      let size : p.n ≡ suc (p.n - 1) = omega arith in
      subst (λ n. IsElem k.ops n (elem_of z)) size h.element

  -- the one is the other in lowest terms
  in_lowest : (z w : WrittenValue) → IsWritten k p f z → IsWritten k p f w
      → IsInLowestTermsOf k.ops z.num z.den w.num w.den
  in_lowest z w h g = record {
    one_each = g.element.one_each ∙ sym h.element.one_each;
    same = (same_iff k p (elem_of w) (elem_of z) (in_range w g) g.trimmed (in_range z h) h.trimmed).1
        (g.same ∙ sym h.same);
    num_over = g.element.num_over;
    den_over = g.element.den_over;
    num_poly = g.trimmed.num_poly;
    monic = g.trimmed.monic;
    least = λ vs d vs_in d_in d_poly d_some cross.
        let size : length vs ≡ p.n
        = sym (length-map vs (product_of k.ops w.den)) ∙ sym (ap length cross) ∙ length-map w.num (product_of k.ops d)
        ∙ g.element.one_each in
        g.lowest.least (record { num = vs; den = d }) (record { one_each = size; num_over = vs_in; den_over = d_in })
        d_poly d_some cross;
  }

  pub one_written : (z w : WrittenValue) → IsWritten k p f z → IsWritten k p f w → z ≡ w
  one_written z w h g =
      let both =
      one_form k z.num z.den h.element.num_over h.element.den_over h.trimmed.den_poly (monic_some z.den h.trimmed.monic)
      z.num z.den w.num w.den
      (in_lowest z z h h) (in_lowest z w h g) in
      λ i. record { num = both.0 i; den = both.1 i }
