-- The ring of rows over a denominator, where those that are the same are one.
use Rattle.std.specs.Prelude.{◌≡◌, ℕ, suc}
use mathlib.Core.Quot.{mk, lift}
use Rattle.ring_lemmas.specs.Ring.{CommRing, IsDomain}
use Rattle.ring_lemmas.specs.Rows.{Row, row_add, row_neg, row_scale, row_mul}
use Rattle.ring_lemmas.specs.RowFractions.{RowPair, SamePair, IsDenominator, to_fraction, pair_of}
use Rattle.ring_lemmas.specs.Fractions.{Same}
use Rattle.ring_lemmas.proofs.Ring.{product_not_zero}
use Rattle.ring_lemmas.proofs.RowFractions.{row_denominators, same_pair}
use Rattle.ring_theory.specs.RowRing.{row_ring}
use Rattle.ring_theory.specs.FractionRing.{Fractions, fraction_ring}

module _ {P : Type 0} (S : CommRing P) (domain : IsDomain S.ops) where
  module _ (n : ℕ) where
    unfoldable pub pair_add : RowPair S n → RowPair S n → RowPair S n
    pair_add z w = record {
      num = row_add S.ops (suc n) (row_scale S.ops (suc n) w.den z.num) (row_scale S.ops (suc n) z.den w.num);
      den = S.◌⊗◌ z.den w.den;
      den_not_zero = product_not_zero domain z.den w.den z.den_not_zero w.den_not_zero;
    }

    unfoldable pub pair_neg : RowPair S n → RowPair S n
    pair_neg z = record { num = row_neg S.ops (suc n) z.num; den = z.den; den_not_zero = z.den_not_zero }

    unfoldable pub whole_pair : Row P (suc n) → RowPair S n
    whole_pair v = record { num = v; den = S.𝟙; den_not_zero = domain.one_not_zero }

  module _ (n : ℕ) (f : Row P (suc n)) where
    unfoldable pub pair_mul : RowPair S n → RowPair S n → RowPair S n
    pair_mul z w = record {
      num = row_mul S n f z.num w.num;
      den = S.◌⊗◌ z.den w.den;
      den_not_zero = product_not_zero domain z.den w.den z.den_not_zero w.den_not_zero;
    }

    abbrev R : CommRing (Row P (suc n))
    R = row_ring S n f

    -- the rows over denominators, where those that are the same are one
    abbrev pub Function : Type 0
    Function = Fractions R (IsDenominator S n) (row_denominators S domain n f)

    unfoldable pub function_ring : CommRing Function
    function_ring = fraction_ring R (IsDenominator S n) (row_denominators S domain n f)

    -- what a row over a denominator stands for
    abbrev pub pair_function : RowPair S n → Function
    pair_function z = mk (to_fraction S n z)

    -- a map out of the fractions, given on rows over denominators
    abbrev pub from_pairs : {B : Type 0} → IsSet B → (g : RowPair S n → B)
        → ((z w : RowPair S n) → SamePair S n z w → g z ≡ g w) → Function → B
    from_pairs set g h =
        lift {r = Same R.ops (IsDenominator S n)} set (λ p. g (pair_of S n p))
        (λ p q e. h (pair_of S n p) (pair_of S n q) (same_pair S domain n f p q e))
