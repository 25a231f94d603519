-- Rows that differ by a member of the lattice.
use Rattle.std.proofs.Common.{◌≡◌, ℕ, suc, ◌-◌, ◌<◌, List, [], sym, ap, ◌∙◌, arith, subst}
use Rattle.ff_fields.specs.Field.{CodeField}
use Rattle.ff_fields.specs.Code.{code_ring}
use Rattle.ring_lemmas.specs.Ring.{TestedRing}
use Rattle.ring_lemmas.specs.Rows.{Row}
use Rattle.ring_lemmas.specs.Polynomials.{Pol}
use Rattle.ff_poly.specs.Words.{IsPoly}
use Rattle.ff_poly.specs.Value.{value}
use Rattle.ff_poly.specs.Terms.{term, IsPoly_less_multiple}
use Rattle.ff_poly.specs.Popov.{entry_at, row_at, IsRow}
use Rattle.popov_theory.specs.Module.{PolynomialModule}
use Rattle.popov_theory.specs.Span.{InSpan}
use Rattle.popov_theory.proofs.Module.{v_add_neg, v_sub_add, v_neg_add, v_neg_neg, v_add_assoc}
use Rattle.popov_theory.proofs.Span.{span_zero, span_row, span_add, span_scale}
use Rattle.ff_popov.specs.Reading.{read_row, row_space, read_rows}
use Rattle.ff_popov.specs.Rows.{IsRowLess, IsCongruentRow}
use Rattle.ff_popov.proofs.Entries.{any_default}
use Rattle.ff_popov.proofs.ReadRows.{read_row_at, space_less}
use Rattle.ff_popov.proofs.Transformations.{less_row}

-- u less v less x is u less v, and x
less_less : {A V : Type 0} {K : TestedRing A} (M : PolynomialModule K V) (u v x : V)
    → M.◌⊞◌ u (M.⊟◌ (M.◌⊞◌ v (M.⊟◌ x))) ≡ M.◌⊞◌ (M.◌⊞◌ u (M.⊟◌ v)) x
less_less M u v x =
    ap (M.◌⊞◌ u) (v_neg_add M v (M.⊟◌ x) ∙ ap (M.◌⊞◌ (M.⊟◌ v)) (v_neg_neg M x))
    ∙ sym (v_add_assoc M u (M.⊟◌ v) x)

module _ (k : CodeField) (w : ℕ) (rows : List (List (List ℕ))) where
  abbrev M : PolynomialModule (code_ring k) (Row (Pol (code_ring k)) (suc (w - 1)))
  M = row_space k w

  abbrev R : List (List ℕ) → Row (Pol (code_ring k)) (suc (w - 1))
  R v = read_row k (suc (w - 1)) v

  pub congruent_refl : (v : List (List ℕ)) → IsRow k.ops w v → IsCongruentRow k w rows v v
  congruent_refl v v_row = record {
    row = v_row;
    trimmed = λ h. h;
    difference = subst (InSpan M (read_rows k w rows))
        (sym (v_add_neg M (R v))) (span_zero M (read_rows k w rows));
  }

  pub congruent_step : (old mid b new : List (List ℕ)) (i c s : ℕ) → IsCongruentRow k w rows old mid → IsRow k.ops w b
      → b ≡ row_at rows i → c < k.size → IsRowLess k.ops mid c s b new → IsCongruentRow k w rows old new
  congruent_step old mid b new i c s h b_row b_is c_in less = record {
    row = less_row k w mid b new c s h.row b_row c_in less;
    trimmed = λ _ j d in_new. subst IsPoly
        (sym (any_default new j d [] in_new ∙ less.entries j (omega (arith, in_new, less.size))))
        (IsPoly_less_multiple k.ops (entry_at mid j) c s (entry_at b j));
    difference =
        subst (InSpan M (read_rows k w rows))
        (sym (ap (λ r. M.◌⊞◌ (R old) (M.⊟◌ r))
        (space_less k w mid b new c s (b_row.size ∙ sym h.row.size) h.row.over b_row.over c_in less)
        ∙ less_less M (R old) (R mid) (M.◌·◌ (value k (term c s)) (R b))))
        (span_add M (read_rows k w rows) (M.◌⊞◌ (R old) (M.⊟◌ (R mid))) (M.◌·◌ (value k (term c s)) (R b)) h.difference
        (span_scale M (read_rows k w rows) (value k (term c s)) (R b)
        (subst (InSpan M (read_rows k w rows)) (read_row_at k w rows i ∙ sym (ap R b_is))
        (span_row M (read_rows k w rows) i))));
  }

  pub congruent_trans : (u v x : List (List ℕ)) → IsCongruentRow k w rows u v → IsCongruentRow k w rows v x
      → IsCongruentRow k w rows u x
  congruent_trans u v x h h' = record {
    row = h'.row;
    trimmed = λ x_poly. h'.trimmed (h.trimmed x_poly);
    difference =
        subst (InSpan M (read_rows k w rows)) (joined (R u) (R v) (R x))
        (span_add M (read_rows k w rows) (M.◌⊞◌ (R u) (M.⊟◌ (R v))) (M.◌⊞◌ (R v) (M.⊟◌ (R x))) h.difference
        h'.difference);
  }
    where
      joined : (a b c : Row (Pol (code_ring k)) (suc (w - 1)))
          → M.◌⊞◌ (M.◌⊞◌ a (M.⊟◌ b)) (M.◌⊞◌ b (M.⊟◌ c)) ≡ M.◌⊞◌ a (M.⊟◌ c)
      joined a b c = sym (v_add_assoc M (M.◌⊞◌ a (M.⊟◌ b)) b (M.⊟◌ c)) ∙ ap (λ y. M.◌⊞◌ y (M.⊟◌ c)) (v_sub_add M a b)
