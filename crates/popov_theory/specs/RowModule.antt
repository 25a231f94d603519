-- The rows of n polynomials as a polynomial module.
use Rattle.std.specs.Prelude.{ℕ, suc, ◌+◌, ◌*◌, ◌/◌, ◌%◌}
use Rattle.std.proofs.Common.{sym, ◌∙◌, ap, arith}
use Rattle.std.proofs.lemmas.Nat.{mod_below, le-div}
use native.Mathlib.Decide.{ℕ_discrete}
use mathlib.Core.Path.{fun_ext}
use Rattle.ring_lemmas.specs.Ring.{TestedRing}
use Rattle.ring_lemmas.specs.Lists.{coeff_of, convolution}
use Rattle.ring_lemmas.specs.Rows.{Row, row_zero, row_add, row_neg, row_scale, entry}
use Rattle.ring_lemmas.specs.Polynomials.{Pol}
use Rattle.ring_lemmas.proofs.Polynomials.{same_pol, series_add, series_neg, series_mul, coeff_past}
use Rattle.ring_theory.specs.PolynomialRing.{pol_ring}
use Rattle.ring_theory.specs.Monomials.{monomial}
use Rattle.ring_theory.specs.PolynomialRows.{in_column, lengths, row_coef}
use Rattle.ring_theory.proofs.Monomials.{monomial_at}
use Rattle.ring_theory.proofs.PolynomialRows.{entry_add, entry_length, entry_neg, entry_scale, entry_zero, in_column_at, row_coef_at, same_entries, series_zero, unit_off}
use Rattle.popov_theory.specs.Module.{PolynomialModule}

module _ {A : Type 0} (k : TestedRing A) where
  abbrev P : TestedRing (Pol k)
  P = pol_ring k

  module _ (n : ℕ) where
    abbrev pub w : ℕ
    w = suc n

    -- the module of rows of n + 1 polynomials
    unfoldable pub row_module : PolynomialModule k (Row (Pol k) w)
    unfolding row_coef
    row_module = record {
      width = w;
      positive = omega arith;
      𝟎 = row_zero P.ops w;
      ◌⊞◌ = row_add P.ops w;
      ⊟◌ = row_neg P.ops w;
      ◌·◌ = row_scale P.ops w;
      coef = row_coef k n;
      bound = λ v. lengths k w v * w;
      coef_zero = λ e. ap (λ p. coeff_of k.ops p.0 (e / w)) (entry_zero k w (e % w)) ∙ series_zero k (e / w);
      coef_add = λ u v e.
          ap (λ p. coeff_of k.ops p.0 (e / w)) (entry_add k w (e % w) u v)
          ∙ series_add k (entry P.ops w (e % w) u) (entry P.ops w (e % w) v) (e / w);
      coef_neg = λ v e. ap (λ p. coeff_of k.ops p.0 (e / w)) (entry_neg k w (e % w) v)
          ∙ series_neg k (entry P.ops w (e % w) v) (e / w);
      coef_scale = λ c v s j less.
          row_coef_at k n (row_scale P.ops w c v) s j less
          ∙ ap (λ p. coeff_of k.ops p.0 s) (entry_scale k w j c v)
          ∙ series_mul k c (entry P.ops w j v) s
          ∙ ap (λ g. convolution k.ops (coeff_of k.ops c.0) g s) (fun_ext (λ t. sym (row_coef_at k n v t j less)));
      coef_past = λ v e le.
          coeff_past k (entry P.ops w (e % w) v).0 (e / w)
          (omega (arith, entry_length k w (e % w) v, le-div (lengths k w v) e w (omega arith) le));
      same = λ u v h.
          same_entries k w u v (λ j less.
          same_pol k (entry P.ops w j u) (entry P.ops w j v)
          (λ s. sym (row_coef_at k n u s j less) ∙ h (s * w + j) ∙ row_coef_at k n v s j less));
      unit = λ e. in_column k w (e % w) (monomial k k.𝟙 (e / w));
      coef_unit = λ e.
          ap (λ p. coeff_of k.ops p.0 (e / w))
          (in_column_at k w (e % w) (monomial k k.𝟙 (e / w)) (mod_below e w (omega arith)))
          ∙ monomial_at k k.𝟙 (e / w);
      coef_unit_off = λ e i differ. unit_off k n e i differ (ℕ_discrete (e % w) (i % w));
    }
