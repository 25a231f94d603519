-- Rows over denominators.
use Rattle.std.specs.Prelude.{◌≡◌, ℕ, suc, refl}
use Rattle.ring_lemmas.specs.Ring.{CommRing}
use Rattle.ring_lemmas.specs.Rows.{Row, row_scale, row_one}
use Rattle.ring_lemmas.specs.Fractions.{Fraction}

module _ {P : Type 0} (S : CommRing P) (n : ℕ) where
  -- a row over a denominator
  pub record RowPair : Type 0 where
    pub num : Row P (suc n)
    pub den : P
    pub den_not_zero : ¬ (den ≡ S.𝟘)

  -- (v, d) and (v', d') are the same where d'·v is d·v'
  abbrev pub SamePair : RowPair → RowPair → Type 0
  SamePair z w = row_scale S.ops (suc n) w.den z.num ≡ row_scale S.ops (suc n) z.den w.num

  -- a denominator as a row
  abbrev pub den_row : P → Row P (suc n)
  den_row d = row_scale S.ops (suc n) d (row_one S n)

  pub record IsDenominator (v : Row P (suc n)) : Type 0 where
    pub den : P
    pub not_zero : ¬ (den ≡ S.𝟘)
    pub is : v ≡ den_row den

  abbrev pub to_fraction : RowPair → Fraction IsDenominator
  to_fraction z = record {
    num = z.num;
    den = den_row z.den;
    den_in = record { den = z.den; not_zero = z.den_not_zero; is = refl };
  }

  abbrev pub pair_of : Fraction IsDenominator → RowPair
  pair_of p = record { num = p.num; den = p.den_in.den; den_not_zero = p.den_in.not_zero }
