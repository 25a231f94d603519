-- The denominators of rows: multiples of 1 that cancel.
use Rattle.std.proofs.Common.{◌≡◌, ℕ, zero, suc, refl, sym, ◌∙◌, ap, ap₂}
use Rattle.ring_lemmas.specs.Ring.{CommRing, IsDomain, Operations}
use Rattle.ring_lemmas.specs.Rows.{Row, row_scale, row_one, row_ops}
use Rattle.ring_lemmas.specs.RowFractions.{SamePair, den_row, IsDenominator, pair_of}
use Rattle.ring_lemmas.specs.Fractions.{Denominators, Fraction, Same}
use Rattle.ring_lemmas.proofs.Ring.{domain_cancel, product_not_zero}
use Rattle.ring_lemmas.proofs.Rows.{pair_path, row_mul_comm, row_mul_one, row_scale_one, row_scale_zero, row_scale_scale, row_scale_comm, scale_row_mul}

module _ {P : Type 0} (S : CommRing P) (domain : IsDomain S.ops) where
  row_cancel : (n : ℕ) (d : P) (v w : Row P n) → ¬ (d ≡ S.𝟘) → row_scale S.ops n d v ≡ row_scale S.ops n d w → v ≡ w
  unfolding row_scale
  row_cancel zero d v w some h = refl
  row_cancel (suc m) d (a, v) (b, w) some h =
      pair_path (domain_cancel S domain d a b some (ap (λ t. t.0) h)) (row_cancel m d v w some (ap (λ t. t.1) h))

  module _ (n : ℕ) (f : Row P (suc n)) where
    abbrev R : Operations (Row P (suc n))
    R = row_ops S n f

    -- to multiply by a denominator is to scale
    pub times_den : (d : P) (v : Row P (suc n)) → R.◌⊗◌ v (den_row S n d) ≡ row_scale S.ops (suc n) d v
    times_den d v =
        row_mul_comm S n f v (den_row S n d) ∙ sym (scale_row_mul S n f d (row_one S n) v)
        ∙ ap (row_scale S.ops (suc n) d) (row_mul_comm S n f (row_one S n) v ∙ row_mul_one S n f v)

    pub den_product : (d e : P) → R.◌⊗◌ (den_row S n d) (den_row S n e) ≡ den_row S n (S.◌⊗◌ d e)
    den_product d e =
        times_den e (den_row S n d) ∙ row_scale_comm S (suc n) e d (row_one S n)
        ∙ sym (row_scale_scale S (suc n) d e (row_one S n))

    pub row_denominators : Denominators R (IsDenominator S n)
    row_denominators = record {
      one_in = record { den = S.𝟙; not_zero = domain.one_not_zero; is = sym (row_scale_one S (suc n) (row_one S n)) };
      product_in = λ a b h k. record {
        den = S.◌⊗◌ h.den k.den;
        not_zero = product_not_zero domain h.den k.den h.not_zero k.not_zero;
        is = ap₂ R.◌⊗◌ h.is k.is ∙ den_product h.den k.den;
      };
      cancel = λ v a h e.
          row_cancel (suc n) h.den a R.𝟘 h.not_zero
          (sym (times_den h.den a) ∙ ap (R.◌⊗◌ a) (sym h.is) ∙ row_mul_comm S n f a v ∙ e
          ∙ sym (row_scale_zero S (suc n) h.den));
    }

    -- the same as fractions is the same as rows over denominators
    pub same_pair : (p q : Fraction (IsDenominator S n)) → Same R (IsDenominator S n) p q
        → SamePair S n (pair_of S n p) (pair_of S n q)
    same_pair p q e =
        sym (times_den q.den_in.den p.num) ∙ ap (R.◌⊗◌ p.num) (sym q.den_in.is) ∙ e ∙ ap (R.◌⊗◌ q.num) p.den_in.is
        ∙ times_den p.den_in.den q.num
