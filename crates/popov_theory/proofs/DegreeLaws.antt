-- Degrees and multiples of rows, in the words of their contracts.
use Rattle.std.proofs.Common.{◌≡◌, ◌≢◌, ℕ, suc, ◌<◌, ◌+◌, ◌*◌, ◌-◌, ◌/◌, List, length, sym, ◌∙◌, ap, subst, arith}
use Rattle.std.proofs.lemmas.Nat.{mod_below}
use Rattle.ring_lemmas.specs.Ring.{TestedRing, IsDomain}
use Rattle.ring_lemmas.specs.Polynomials.{Pol}
use Rattle.popov_theory.specs.Module.{PolynomialModule, measure, pivot, row_degree, IsMonic}
use Rattle.popov_theory.specs.Span.{combine, InSpan}
use Rattle.popov_theory.specs.Popov.{IsWeakPopov, IsPopov}
use Rattle.popov_theory.specs.Laws.{IsRightmostPivot, term, PredictableDegree, multiples, MultipliedForm}
use Rattle.popov_theory.proofs.Positions.{row_le}
use Rattle.popov_theory.proofs.Measure.{measure_parts, measure_past, measure_top, measure_scale, zero_from_measure, zero_row}
use Rattle.popov_theory.proofs.PredictableDegree.{predict, degree_le, degree_multiple}
use Rattle.popov_theory.proofs.PopovForm.{popov_unique}
use Rattle.popov_theory.proofs.Scaling.{popov_scaled, span_scaled, span_unscaled, multiples_are}

module _ {A V : Type 0} {k : TestedRing A} (M : PolynomialModule k V) where
  open M use {width, 𝟎, ◌·◌, coef}

  pub rightmost_pivot : (v : V) → ¬ (v ≡ 𝟎) → IsRightmostPivot M v (pivot M v)
  rightmost_pivot v some = record {
    in_row = in_row;
    reached = measure_top M v (row_degree M v * width + pivot M v) parts;
    greatest = λ s i less more.
        measure_past M v (s * width + i)
        (omega (arith, parts, in_row, row_le width M.positive (row_degree M v) s more));
    rightmost = λ i after less. measure_past M v (row_degree M v * width + i) (omega (arith, parts, after));
  }
    where
      in_row : pivot M v < width
      in_row = mod_below (measure M v - 1) width M.positive

      parts : measure M v ≡ suc (row_degree M v * width + pivot M v)
      parts = measure_parts M v (λ z. some (zero_from_measure M v z))

  -- the degree of coefficient times row
  pub term_degree : IsDomain k.ops → (c : Pol k) (d : ℕ) → length c.0 ≡ suc d → (v : V) → ¬ (v ≡ 𝟎)
      → row_degree M (c · v) ≡ d + row_degree M v
  term_degree domain c d size v some =
      let v_some : measure M v ≢ 0 = λ z. some (zero_from_measure M v z) in
      degree_multiple M domain c v (record {
        degree = d;
        size = size;
        row_some = v_some;
        is = measure_scale M domain c v d size v_some;
      })

  pub predictable : IsDomain k.ops → (rs : List V) → IsWeakPopov M rs → (c : ℕ → Pol k) → PredictableDegree M rs c
  predictable domain rs weak c =
      let p = predict M domain rs weak c in
      record {
        greatest = λ i less. degree_le M domain (term M c rs i) (combine M c rs) (p.terms i less);
        reached = λ some.
            let some_measure : measure M (combine M c rs) ≢ 0 = λ z. some (zero_from_measure M (combine M c rs) z) in
            let found = p.attained some_measure in (
              found.0,
              found.1,
              λ z. some_measure (found.2 ∙ zero_row M (term M c rs found.0) z),
              ap (λ n. (n - 1) / width) (sym found.2),
            );
        zero = λ z i less.
            zero_from_measure M (term M c rs i) (omega (arith, p.terms i less, zero_row M (combine M c rs) z));
      }

  pub multiplied_form : IsDomain k.ops → (h : Pol k) → IsMonic k h → (rs : List V) → IsPopov M rs
      → MultipliedForm M h rs
  multiplied_form domain h monic rs p =
      let e = multiples_are M domain h monic rs in
      let is : IsPopov M (multiples M h rs) = subst (IsPopov M) (sym e) (popov_scaled M domain h monic rs p) in
      record {
        is = is;
        members = λ v. (
          λ v_in. span_unscaled M domain h monic rs v (subst (λ ss. InSpan M ss v) e v_in),
          λ u.
              subst (InSpan M (multiples M h rs)) (sym u.2)
              (subst (λ ss. InSpan M ss (h · u.0)) (sym e) (span_scaled M domain h monic rs u.0 u.1)),
        );
        unique = λ ss ss_popov same. sym (popov_unique M domain (multiples M h rs) ss is ss_popov same);
      }
