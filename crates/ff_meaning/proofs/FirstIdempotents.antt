-- There is one first idempotent at most.
use Rattle.std.proofs.Common.{◌≡◌, ◌≢◌, ◌≤◌, Bool, true, false, eqb, refl, sym, ap, subst}
use Rattle.std.specs.Bool.{Decides}
use Rattle.std.specs.Cmp.Lexicographic.{pointwise}
use Rattle.std.proofs.lemmas.Bool.Decides.{Decides-eqb}
use Rattle.std.proofs.lemmas.Slice.Eq.{slice_eq-Decides}
use Rattle.ff_fields.specs.Field.{CodeField}
use Rattle.function_field.specs.Values.{PresValue}
use Rattle.ff_text.specs.Printed.{WrittenValue, elem_text}
use Rattle.ff_written.specs.LowestTerms.{IsWritten}
use Rattle.ff_written.proofs.OneWritten.{one_written}
use Rattle.ff_written.proofs.TextOrder.{text_irreflexive, text_transitive}
use Rattle.ff_meaning.specs.FirstIdempotents.{IsFirstIdempotent}

-- what is decided and not untrue is true
decided : {P : Type 0} (b : Bool) → Decides b P → ¬ (¬ P) → P
decided true d some = d.0 refl
decided false d some = absurd (some (λ p. let e = d.1 p in cc))

-- two elements that aren't different are one
not_different : (z w : WrittenValue) → ¬ (z ≢ w) → z ≡ w
not_different z w some =
    let polys : Decides (pointwise (λ p q. pointwise eqb p q) z.num w.num) (z.num ≡ w.num) = slice_eq-Decides
    (λ p q. slice_eq-Decides Decides-eqb p q (pointwise eqb p q) refl) z.num w.num
    (pointwise (λ p q. pointwise eqb p q) z.num w.num) refl in
    let nums : z.num ≡ w.num = decided (pointwise (λ p q. pointwise eqb p q) z.num w.num) polys
    (λ other. some (λ e. other (ap (λ (v : WrittenValue). v.num) e))) in
    let dens : z.den ≡ w.den = decided (pointwise eqb z.den w.den)
    (slice_eq-Decides Decides-eqb z.den w.den (pointwise eqb z.den w.den) refl)
    (λ other. some (λ e. other (ap (λ (v : WrittenValue). v.den) e))) in
    λ i. record { num = nums i; den = dens i }

module _ (k : CodeField) (p : PresValue) (positive : 1 ≤ p.n) where
  -- of two idempotents each would come before the other, and so before itself
  pub one_first : (z w : WrittenValue) → IsFirstIdempotent k p z → IsFirstIdempotent k p w → z ≡ w
  one_first z w h g = not_different z w (λ other. both (λ e. other
      (one_written k p positive g.e z w (subst (λ f. IsWritten k p f z) e h.written) g.written)))
    where
      both : h.e ≢ g.e → ⊥
      both other =
          let before = h.first g.e g.proper (λ e. other (sym e)) w g.written in
          let after = g.first h.e h.proper other z h.written in
          text_irreflexive (elem_text z.num z.den) (elem_text z.num z.den) refl
          (text_transitive (elem_text z.num z.den) (elem_text w.num w.den) (elem_text z.num z.den) before after)
