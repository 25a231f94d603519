-- Each list of rows of full rank has one Popov basis, and full rank is decided.
use Rattle.std.proofs.Common.{◌≡◌, ℕ, zero, suc, ◌+◌, ◌*◌, ◌⊎◌, inl, inr, List, length, refl, ◌∙◌, ap, arith}
use Rattle.ring_lemmas.specs.Ring.{TestedRing, IsDomain, IsField}
use Rattle.ring_lemmas.proofs.Ring.{field_domain}
use Rattle.ring_lemmas.specs.Polynomials.{Pol}
use Rattle.ring_theory.specs.PolynomialRing.{pol_ring}
use Rattle.popov_theory.specs.Module.{PolynomialModule, measure, column}
use Rattle.popov_theory.specs.Span.{HaveSameSpan, HasFullRank}
use Rattle.popov_theory.specs.Popov.{IsWeakPopov, IsFull}
use Rattle.popov_theory.specs.Laws.{PopovForm}
use Rattle.popov_theory.proofs.Positions.{column_at}
use Rattle.popov_theory.proofs.Measure.{measure_scale}
use Rattle.popov_theory.proofs.PredictableDegree.{empty_pol}
use Rattle.popov_theory.proofs.Span.{same_span_sym, same_span_trans}
use Rattle.popov_theory.proofs.Reduction.{Reduced, reduce, reduced_span}
use Rattle.popov_theory.proofs.FullRank.{measure_unit, full_from_members, full_or_missing, Missing, not_full}
use Rattle.popov_theory.proofs.Relations.{multiple_from_full}
use Rattle.popov_theory.proofs.Laws.{popov_form_of}

module _ {A V : Type 0} {k : TestedRing A} (M : PolynomialModule k V) where
  open M use {width, 𝟎, ◌⊞◌, ⊟◌, ◌·◌}

  -- full rank depends on the span alone
  pub full_rank_same : (rs ss : List V) → HaveSameSpan M rs ss → HasFullRank M rs → HasFullRank M ss
  full_rank_same rs ss h full = record {
    multiple = λ v. record {
      factor = (full.multiple v).factor;
      some = (full.multiple v).some;
      in_span = h.left.within (◌·◌ (full.multiple v).factor v) (full.multiple v).in_span;
    };
  }

  -- rows in weak Popov form of full rank have a pivot in each column
  pub full_from_rank : IsDomain k.ops → (rs : List V) → IsWeakPopov M rs → HasFullRank M rs → IsFull M rs
  full_from_rank domain rs weak full =
      full_from_members M domain rs weak member
      (λ j. (full.multiple (M.unit j)).in_span)
      (λ j z. absurd (omega (arith, z, (is j).1)))
      (λ j less. ap (column width) (is j).1 ∙ column_at width M.positive (is j).0 j less)
    where
      member : ℕ → V
      member j = M.◌·◌ (full.multiple (M.unit j)).factor (M.unit j)

      sized : (j : ℕ) (h : Pol k) → ¬ (h ≡ (pol_ring k).𝟘) → (n : ℕ) → length h.0 ≡ n
          → (d : ℕ) × (measure M (M.◌·◌ h (M.unit j)) ≡ suc (d * M.width + j))
      sized j h some zero e = absurd (some (empty_pol k h e))
      sized j h some (suc d) e = (
        d,
        measure_scale M domain h (M.unit j) d e (λ z. absurd (omega (arith, z, measure_unit M domain j)))
            ∙ omega (arith, measure_unit M domain j),
      )

      is : (j : ℕ) → (d : ℕ) × (measure M (member j) ≡ suc (d * M.width + j))
      is j = sized j (full.multiple (M.unit j)).factor (full.multiple (M.unit j)).some
          (length (full.multiple (M.unit j)).factor.0) refl

module _ {A V : Type 0} {k : TestedRing A} (M : PolynomialModule k V) (field : IsField k.ops) where
  -- and the other way round
  pub rank_from_full : (rs : List V) → IsWeakPopov M rs → IsFull M rs → HasFullRank M rs
  rank_from_full rs weak full =
      let m = multiple_from_full M field rs weak full in
      record { multiple = λ v. record { factor = m.0; some = m.1; in_span = m.2 v } }

  -- a list of rows of full rank has exactly one Popov basis
  pub popov_basis : (rs : List V) → HasFullRank M rs → PopovForm M rs
  popov_basis rs full =
      let r = reduce M field rs in
      let same = reduced_span M field rs r in
      let f = popov_form_of M field r.rows r.weak
      (full_from_rank M (field_domain k.ring field) r.rows r.weak (full_rank_same M rs r.rows same full)) in
      record {
        rows = f.rows;
        is = f.is;
        same_span = same_span_trans M rs r.rows f.rows same f.same_span;
        unique = λ ss p h. f.unique ss p (same_span_trans M r.rows rs ss (same_span_sym M rs r.rows same) h);
      }

  -- and full rank is decided
  pub full_rank_or_not : (rs : List V) → HasFullRank M rs ⊎ (HasFullRank M rs → ⊥)
  full_rank_or_not rs = go (full_or_missing M r.rows)
    where
      r : Reduced M field rs
      r = reduce M field rs

      same : HaveSameSpan M rs r.rows
      same = reduced_span M field rs (reduce M field rs)

      go : IsFull M r.rows ⊎ Missing M r.rows → HasFullRank M rs ⊎ (HasFullRank M rs → ⊥)
      go (inl full) = inl (full_rank_same M r.rows rs (same_span_sym M rs r.rows same)
          (rank_from_full r.rows r.weak full))
      go (inr missing) =
          inr (λ full. not_full M r.rows missing
          (full_from_rank M (field_domain k.ring field) r.rows r.weak (full_rank_same M rs r.rows same full)))
