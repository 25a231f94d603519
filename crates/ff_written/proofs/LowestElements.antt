-- The parts of an element in lowest terms are written, and an element of the finite side stands for its own function.
use Rattle.std.proofs.Common.{◌≡◌, ℕ, suc, ◌-◌, ◌≤◌, List, sym, ◌∙◌, subst, arith, ap}
use Rattle.std.specs.Prelude.{Result, Ok, Err, IfOk}
use Rattle.std.specs.declared.alloc.AllocError.{AllocError}
use Rattle.ff_fields.specs.Field.{CodeField}
use Rattle.function_field.specs.Values.{ElemValue, PresValue, IsElem, IsMonicElem, function_of}
use Rattle.function_field.specs.declared.side.Side.{Side}
use Rattle.function_field.specs.declared.side.Side.TheVariants.{Finite}
use Rattle.function_field.specs.Infinity.{function_on}
use Rattle.function_field.specs.Curves.{CurveValue, IsCurve}
use Rattle.function_field.proofs.SameValues.{same_iff}
use Rattle.ff_algebra.proofs.OtherSide.{on_finite_side}
use Rattle.ff_factor.specs.LowestTerms.{IsInLowestTermsOf}
use Rattle.polynomial_theory.proofs.ListValues.{monic_poly}
use Rattle.ff_written.specs.LowestTerms.{IsInLowestTerms, IsWritten}

module _ (k : CodeField) (z : ElemValue) (vs : List (List ℕ)) (d : List ℕ)
    (low : IsInLowestTermsOf k.ops z.num z.den vs d) where
  lowest : (n : ℕ) → IsInLowestTerms k.ops n (record { num = vs; den = d })
  lowest n = record {
    monic = low.monic;
    least = λ w w_in poly some same. low.least w.num w.den w_in.num_over w_in.den_over poly some same;
  }

  pub parts_written : (p : PresValue) → 1 ≤ p.n → IsElem k.ops p.n z → IsMonicElem z
      → IsWritten k p (function_of k p z) (record { num = vs; den = d })
  parts_written p some z_in z_monic =
      let w : ElemValue = record { num = vs; den = d } in
      let w_in : IsElem k.ops p.n w = record
      { one_each = low.one_each ∙ z_in.one_each; num_over = low.num_over; den_over = low.den_over } in
      let w_monic : IsMonicElem w = record
      { num_poly = low.num_poly; den_poly = monic_poly k d low.monic; monic = low.monic } in
      let n_is : p.n ≡ suc (p.n - 1) = omega arith in
      record {
        element = w_in;
        trimmed = w_monic;
        lowest = lowest p.n;
        same = (same_iff k p w z (subst (λ m. IsElem k.ops m w) n_is w_in) w_monic
            (subst (λ m. IsElem k.ops m z) n_is z_in) z_monic).0 low.same;
      }

module _ (k : CodeField) (c : CurveValue) (curve : IsCurve k c) where
  positive : 1 ≤ c.fin.n
  positive = let two = curve.at_least_two in omega (arith, two)

  pub copied : (side : Side) (r : ElemValue) (x : Result ElemValue AllocError) → side ≡ Finite → IsElem k.ops c.fin.n r
      → IsMonicElem r → IfOk x (λ z. z ≡ r)
      → IfOk x (λ z. function_of k c.fin z ≡ function_on k c.fin c.c side r)
  copied side r (Ok z) is r_in monic e = ap (function_of k c.fin) e
      ∙ sym (on_finite_side k c.fin c.c r positive r_in monic) ∙ ap (λ s. function_on k c.fin c.c s r) (sym is)
  copied side r (Err x) is r_in monic e = e
