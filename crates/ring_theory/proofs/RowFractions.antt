-- Rows over a denominator: the fractions of the ring of rows whose denominators come from the ring of coefficients.
use Rattle.std.proofs.Common.{◌≡◌, ℕ, suc, refl, sym, ◌∙◌, ap, ap₂, subst}
use mathlib.Core.Quot.{mk, sound, ind}
use mathlib.Core.HLevel.{Π_prop}
use mathlib.Core.Logic.{Dec-prop}
use Rattle.ring_lemmas.specs.Ring.{CommRing, IsDomain}
use Rattle.ring_lemmas.specs.Rows.{Row, row_scale, row_one}
use Rattle.ring_lemmas.specs.RowFractions.{RowPair, SamePair, IsDenominator, to_fraction, pair_of}
use Rattle.ring_lemmas.specs.Fractions.{Fraction, Same}
use Rattle.ring_lemmas.proofs.Rows.{row_scale_one}
use Rattle.ring_lemmas.proofs.Quotient.{class_eq}
use Rattle.ring_lemmas.proofs.Fractions.{fractions}
use Rattle.ring_lemmas.proofs.RowFractions.{den_product, row_denominators, same_pair, times_den}
use Rattle.ring_theory.specs.RowRing.{row_ring}
use Rattle.ring_theory.specs.FractionRing.{fraction_ring, embed}
use Rattle.ring_theory.specs.FunctionRing.{Function, function_ring, pair_add, pair_function, pair_mul, pair_neg, whole_pair}

module _ {P : Type 0} (S : CommRing P) (domain : IsDomain S.ops) where
  module _ (n : ℕ) (f : Row P (suc n)) where
    abbrev R : CommRing (Row P (suc n))
    R = row_ring S n f

    pub pair_function_eq : (z w : RowPair S n) → SamePair S n z w → pair_function S domain n f z
        ≡ pair_function S domain n f w
    pair_function_eq z w h = sound (times_den S domain n f w.den z.num ∙ h ∙ sym (times_den S domain n f z.den w.num))

    pub pair_function_same : (z w : RowPair S n) → pair_function S domain n f z ≡ pair_function S domain n f w
        → SamePair S n z w
    pair_function_same z w e =
        same_pair S domain n f (to_fraction S n z) (to_fraction S n w)
        ((class_eq _ _ (fractions R (IsDenominator S n) (row_denominators S domain n f)) (to_fraction S n z)
        (to_fraction S n w)).0 e)

    -- a fact of each row over a denominator is one of each fraction
    pub each_pair : (T : Function S domain n f → Type 0) → ((z : Function S domain n f) → IsProp (T z))
        → ((z : RowPair S n) → T (pair_function S domain n f z)) → (z : Function S domain n f) → T z
    each_pair T prop t = ind {r = Same R.ops (IsDenominator S n)} prop (λ p. subst T (back p) (t (pair_of S n p)))
      where
        back : (p : Fraction (IsDenominator S n)) → pair_function S domain n f (pair_of S n p) ≡ mk p
        back p = sound (ap (R.◌⊗◌ p.num) p.den_in.is)

    pub function_discrete : ((v w : Row P (suc n)) → Dec (v ≡ w)) → (z w : Function S domain n f) → Dec (z ≡ w)
    function_discrete decide =
        each_pair (λ z. (w : Function S domain n f) → Dec (z ≡ w)) (λ z. Π_prop (λ w. dec_prop z w))
        (λ z. each_pair (λ w. Dec (pair_function S domain n f z ≡ w)) (λ w. dec_prop (pair_function S domain n f z) w)
        (λ w. at z w (decide (row_scale S.ops (suc n) w.den z.num) (row_scale S.ops (suc n) z.den w.num))))
      where
        decided : (T : Type 0) → IsProp T → IsProp (Dec T)
        decided T h = Dec-prop h

        dec_prop : (z w : Function S domain n f) → IsProp (Dec (z ≡ w))
        dec_prop z w = decided (z ≡ w)
            ((fraction_ring R (IsDenominator S n) (row_denominators S domain n f)).is_set z w)

        at : (z w : RowPair S n) → Dec (SamePair S n z w)
            → Dec (◌≡◌ {A = Function S domain n f} (pair_function S domain n f z) (pair_function S domain n f w))
        at z w (yes h) = yes (pair_function_eq z w h)
        at z w (no m) = no (λ e. m (pair_function_same z w e))

    -- what the operations make of rows over denominators
    pub add_pairs : (z w : RowPair S n)
        → (function_ring S domain n f).◌⊕◌ (pair_function S domain n f z) (pair_function S domain n f w)
        ≡ pair_function S domain n f (pair_add S domain n z w)
    unfolding function_ring pair_add
    add_pairs z w =
        sound (ap₂ R.◌⊗◌ (ap₂ R.◌⊕◌ (times_den S domain n f w.den z.num) (times_den S domain n f z.den w.num))
        (sym (den_product S domain n f z.den w.den)))

    pub mul_pairs : (z w : RowPair S n)
        → (function_ring S domain n f).◌⊗◌ (pair_function S domain n f z) (pair_function S domain n f w)
        ≡ pair_function S domain n f (pair_mul S domain n f z w)
    unfolding function_ring pair_mul
    mul_pairs z w = sound (ap (R.◌⊗◌ (R.◌⊗◌ z.num w.num)) (sym (den_product S domain n f z.den w.den)))

    pub neg_pair : (z : RowPair S n) → (function_ring S domain n f).⊖◌ (pair_function S domain n f z)
        ≡ pair_function S domain n f (pair_neg S domain n z)
    unfolding function_ring pair_neg
    neg_pair z = refl

    pub whole_function : (v : Row P (suc n)) → embed R (IsDenominator S n) (row_denominators S domain n f) v
        ≡ pair_function S domain n f (whole_pair S domain n v)
    unfolding whole_pair
    whole_function v = sound (ap (R.◌⊗◌ v) (row_scale_one S (suc n) (row_one S n)))

    pub zero_pair : (function_ring S domain n f).𝟘 ≡ pair_function S domain n f (whole_pair S domain n R.𝟘)
    unfolding function_ring
    zero_pair = whole_function R.𝟘

    pub one_pair : (function_ring S domain n f).𝟙 ≡ pair_function S domain n f (whole_pair S domain n R.𝟙)
    unfolding function_ring
    one_pair = whole_function R.𝟙
