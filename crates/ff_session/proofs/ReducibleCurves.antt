-- The first of the listed idempotents is the one that a curve is refused by; and a field has none.
use Rattle.std.proofs.Common.{◌≡◌, ◌≢◌, ℕ, ◌+◌, ◌-◌, ◌^◌, ◌≤◌, ◌⊎◌, inl, inr, List, [], ◌∷◌, length, get_or, refl, sym, ap, ◌∙◌, subst, arith, All}
use Rattle.std.specs.List.{Any}
use Rattle.std.proofs.Math.Nat.{le-max_left, le-max_right}
use Rattle.std.proofs.lemmas.List.Elements.{All-nil, All-cons, All-head, All-tail}
use Rattle.prime_theory.proofs.Lists.{any_cases, pairs_head}
use Rattle.ring_lemmas.specs.Ring.{IsField}
use Rattle.ff_fields.specs.Field.{CodeField}
use Rattle.function_field.specs.Values.{PresValue, Functions, functions, function_of}
use Rattle.constants_theory.specs.Idempotents.{IsProperIdempotent}
use Rattle.ff_text.specs.Printed.{WrittenValue, elem_text}
use Rattle.text_theory.specs.WrittenInFull.{IsElemWrittenInFull}
use Rattle.text_theory.proofs.ElementTexts.{one_elem}
use Rattle.text_theory.proofs.InFull.{elem_in_full}
use Rattle.ff_written.specs.LowestTerms.{IsWritten}
use Rattle.ff_written.specs.TextOrder.{IsBeforeText}
use Rattle.ff_written.proofs.OneWritten.{one_written}
use Rattle.ff_written.proofs.TextCases.{text_cases}
use Rattle.ff_meaning.specs.Meaning.{greatest_degree}
use Rattle.ff_meaning.specs.FirstIdempotents.{IsFirstIdempotent}
use Rattle.ff_rr.specs.Listings.{AreByText, IsWrittenBefore, IsWrittenIdempotent}
use Rattle.ff_cert.specs.RowMul as mul_row
use Rattle.ff_cert.specs.RowOrder as order_row
use Rattle.ff_meaning.specs.declared.refusal.Refusal.{Refusal}
use Rattle.ff_meaning.specs.declared.refusal.Refusal.TheVariants.{Reducible}
use Rattle.ff_session.specs.Steps.{IsReducibleRow}
use Rattle.ff_session.proofs.AllPlaces.{short_lists}

module _ (k : CodeField) (p : PresValue) (some : 1 ≤ p.n) (n : ℕ) (small : n + 1 ≤ 10 ^ 64) where
  -- a written function of a small degree is written in full
  written_in_full : (f : Functions k p) (z : WrittenValue) → IsWritten k p f z → mul_row.degree z ≤ n
      → IsElemWrittenInFull z
  written_in_full f z h low =
      let nums = le-max_left (greatest_degree z.num) (length z.den - 1) in
      let den = le-max_right (greatest_degree z.num) (length z.den - 1) in
      elem_in_full k z h.element.num_over h.trimmed.num_poly
      (λ i d l. short_list n z.num (omega (arith, low, nums)) i d l)
      h.element.den_over h.trimmed.den_poly (omega (arith, low, den, small))
    where
      short_list : (m : ℕ) (ps : List (List ℕ)) → greatest_degree ps ≤ n → All (λ q. length q ≤ 10 ^ 64) ps
      short_list m ps h i d l =
          let short = short_lists n ps h i d l in
          omega (arith, short, small)

  each_in_full : (zs : List WrittenValue) → All (IsWrittenIdempotent k p) zs → order_row.degree zs ≤ n
      → All IsElemWrittenInFull zs
  each_in_full [] h low = All-nil IsElemWrittenInFull
  each_in_full (z ∷ zs) h low =
      let here = le-max_left (mul_row.degree z) (order_row.degree zs) in
      let there = le-max_right (mul_row.degree z) (order_row.degree zs) in
      let is = All-head (IsWrittenIdempotent k p) z zs h in
      All-cons IsElemWrittenInFull z zs (written_in_full is.function z is.written (omega (arith, low, here)))
      (each_in_full zs (All-tail (IsWrittenIdempotent k p) z zs h) (omega (arith, low, there)))

  module _ (z : WrittenValue) (zs : List WrittenValue) (h : All (IsWrittenIdempotent k p) (z ∷ zs))
      (by_text : AreByText (z ∷ zs)) (low : order_row.degree (z ∷ zs) ≤ n)
      (all : (e : Functions k p) → IsProperIdempotent k p e → Any (IsWritten k p e) (z ∷ zs)) where
    is : IsWrittenIdempotent k p z
    is = All-head (IsWrittenIdempotent k p) z zs h

    in_full : All IsElemWrittenInFull (z ∷ zs)
    in_full = each_in_full (z ∷ zs) h low

    -- the text of another one, behind the first, isn't that of the first, and doesn't come before it
    behind : (e : Functions k p) → e ≢ is.function → (w : WrittenValue) → IsWritten k p e w
        → IsElemWrittenInFull w → ¬ IsWrittenBefore w z → IsBeforeText (elem_text z.num z.den) (elem_text w.num w.den)
    behind e other w w_is full not = go (text_cases (elem_text z.num z.den) (elem_text w.num w.den))
      where
        go : IsBeforeText (elem_text z.num z.den) (elem_text w.num w.den)
            ⊎ ((elem_text z.num z.den ≡ elem_text w.num w.den)
            ⊎ IsBeforeText (elem_text w.num w.den) (elem_text z.num z.den))
            → IsBeforeText (elem_text z.num z.den) (elem_text w.num w.den)
        go (inl b) = b
        go (inr (inr b)) = absurd (not b)
        go (inr (inl e')) =
            let same = one_elem z w (All-head IsElemWrittenInFull z zs in_full) full e' in
            absurd (other (sym (sym is.written.same
            ∙ ap (λ (v : WrittenValue). function_of k p (record { num = v.num; den = v.den })) same ∙ w_is.same)))

    pub first_idempotent : IsFirstIdempotent k p z
    first_idempotent = record {
      e = is.function;
      proper = is.proper;
      written = is.written;
      first = λ other proper different w w_is.
          go other different w w_is (any_cases (IsWritten k p other) z zs (all other proper));
    }
      where
        go : (other : Functions k p) → other ≢ is.function → (w : WrittenValue) → IsWritten k p other w
            → IsWritten k p other z ⊎ Any (IsWritten k p other) zs
            → IsBeforeText (elem_text z.num z.den) (elem_text w.num w.den)
        go other different w w_is (inl same) = absurd (different (sym same.same ∙ is.written.same))
        go other different w w_is (inr found) =
            let v = found.1 in
            let v_is = one_written k p some other v w found.4 w_is in
            let here : All (λ u. ¬ IsWrittenBefore u z) zs
            = pairs_head (λ a b. ¬ IsWrittenBefore b a) z zs by_text in
            let not : ¬ IsWrittenBefore v z
            = subst (λ u. ¬ IsWrittenBefore u z) found.3 (here found.0 v found.2) in
            let full : IsElemWrittenInFull v
            = subst IsElemWrittenInFull found.3 (All-tail IsElemWrittenInFull z zs in_full found.0 v found.2) in
            subst (λ (u : WrittenValue). IsBeforeText (elem_text z.num z.den) (elem_text u.num u.den)) v_is
            (behind other different v found.4 full not)

  -- the first of a list that isn't empty is told
  pub reducible_row : (zs : List WrittenValue) → zs ≢ [] → All (IsWrittenIdempotent k p) zs → AreByText zs
      → order_row.degree zs ≤ n → ((e : Functions k p) → IsProperIdempotent k p e → Any (IsWritten k p e) zs)
      → (z : WrittenValue) → z ≡ get_or zs 0 z → (r : Refusal) → r ≡ Reducible z → IsReducibleRow k p r
  reducible_row [] some h by_text low all z z_is r r_is = absurd (some refl)
  reducible_row (w ∷ ws) some h by_text low all z z_is r r_is =
      record { first = w; is_first = first_idempotent w ws h by_text low all; is = r_is ∙ ap Reducible z_is }

-- a field has no idempotents but 0 and 1
pub whole : (k : CodeField) (p : PresValue) → IsField (functions k p).ops → (e : Functions k p)
    → ¬ IsProperIdempotent k p e
whole k p field e h =
    let R = functions k p in
    let inverse = field.inverse e h.not_zero in
    h.not_one
    (sym (R.mul_one e) ∙ ap (R.◌⊗◌ e) (sym inverse.1) ∙ sym (R.mul_assoc e e inverse.0)
    ∙ ap (λ x. R.◌⊗◌ x inverse.0) h.square ∙ inverse.1)
