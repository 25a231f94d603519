-- Shifted polynomials, and the rows with one of them and zeros else.
use Rattle.std.proofs.Common.{◌≡◌, ℕ, zero, suc, ◌<◌, List, [], ◌∷◌, ◌++◌, length, get_or, replicate, refl, sym, ◌∙◌, ap, ap₂, arith, All, append_assoc}
use Rattle.std.proofs.lemmas.List.{length-set, length-replicate, get_or-set_same, get_or-set_other}
use Rattle.std.proofs.lemmas.List.Elements.{All-replicate, All-set}
use Rattle.ring_lemmas.specs.Ring.{pow}
use Rattle.ring_lemmas.proofs.Ring.{one_mul, zero_add}
use Rattle.ring_lemmas.proofs.Lists.{trim_trimmed, IsTrimmed_push}
use Rattle.ff_fields.specs.Field.{CodeField}
use Rattle.ff_fields.specs.Code.{is_zero_code}
use Rattle.ff_fields.specs.Over.{IsOver, IsOver_nil, IsOver_append, IsOver_zeros, IsOver_trim}
use Rattle.ff_poly.specs.Words.{IsPoly, IsMonicList, shifted, poly_of}
use Rattle.ff_poly.specs.Value.{value}
use Rattle.ff_poly.specs.Polynomials.{polynomials, value_cons, x_poly}
use Rattle.ff_poly.specs.PolyOver.{IsPoly_poly_of}
use Rattle.function_field.specs.Curves.{CurveValue}
use Rattle.ff_lattice.specs.Lattices.{LatticeValue, IsLatticeValue}
use Rattle.ff_lattice.proofs.Spaces.{value_poly_of}
use Rattle.places_theory.proofs.AtInfinity.{constant_zero}
use Rattle.split_theory.specs.Splits.{IsPowerRow, IsDenominator}
use Rattle.ff_split.specs.Steps.{power_row}

module _ (k : CodeField) where
  value_above : (b : ℕ) (u : List ℕ)
      → value k (replicate b 0 ++ u) ≡ (polynomials k).◌⊗◌ (pow (polynomials k).ops (x_poly k) b) (value k u)
  value_above zero u = sym (one_mul (polynomials k).ring (value k u))
  value_above (suc b) u =
      value_cons k 0 (replicate b 0 ++ u)
      ∙ ap₂ (polynomials k).◌⊕◌ (constant_zero k) (ap ((polynomials k).◌⊗◌ (x_poly k)) (value_above b u))
      ∙ zero_add (polynomials k).ring _
      ∙ sym ((polynomials k).mul_assoc (x_poly k) (pow (polynomials k).ops (x_poly k) b) (value k u))

  shifted_is : (a : List ℕ) (j : ℕ) → IsOver k.ops a
      → value k (shifted a j) ≡ (polynomials k).◌⊗◌ (value k a) (pow (polynomials k).ops (x_poly k) j)
  shifted_is a j a_in =
      value_poly_of k (replicate j 0 ++ a) (IsOver_append (IsOver_zeros k j) a_in) ∙ value_above j a
      ∙ (polynomials k).mul_comm (pow (polynomials k).ops (x_poly k) j) (value k a)

  shifted_in : (a : List ℕ) (j : ℕ) → IsOver k.ops a → IsOver k.ops (shifted a j)
  shifted_in a j a_in = IsOver_trim (replicate j 0 ++ a) (IsOver_append (IsOver_zeros k j) a_in)

  shifted_monic : (a : List ℕ) (j : ℕ) → IsMonicList a → IsMonicList (shifted a j)
  shifted_monic a j (lower, a_is) = (
    replicate j 0 ++ lower,
    ap poly_of (ap (λ b. replicate j 0 ++ b) a_is ∙ sym (append_assoc (replicate j 0) lower (1 ∷ [])))
        ∙ trim_trimmed is_zero_code ((replicate j 0 ++ lower) ++ 1 ∷ [])
        (IsTrimmed_push is_zero_code (replicate j 0 ++ lower) 1 refl),
  )

  -- a monic polynomial times a power of x
  pub shifted_denominator : (a : List ℕ) (j : ℕ) → IsOver k.ops a → IsMonicList a → IsDenominator k a j (shifted a j)
  shifted_denominator a j a_in a_monic = record {
    over = shifted_in a j a_in;
    monic = shifted_monic a j a_monic;
    is = shifted_is a j a_in;
  }

abbrev no_codes : List ℕ
no_codes = []

zero_at : (n j : ℕ) → get_or (replicate n no_codes) j no_codes ≡ no_codes
zero_at zero j = refl
zero_at (suc n) zero = refl
zero_at (suc n) (suc j) = zero_at n j

-- the rows of which coordinates are found
pub power_row_is : (k : CodeField) (c : CurveValue) (inf : LatticeValue) → IsLatticeValue k.ops c.inf.n inf → (e j : ℕ)
    → j < c.inf.n → IsPowerRow k c inf e j (power_row c.inf.n inf.den e j)
power_row_is k c inf form e j less = record {
  row = record {
    size = length-set (replicate n []) j (shifted inf.den e) ∙ length-replicate n [];
    over = All-set (IsOver k.ops) (replicate n []) j (shifted inf.den e) (shifted_in k inf.den e form.den_in)
        (All-replicate (IsOver k.ops) n [] IsOver_nil);
  };
  trimmed = All-set IsPoly (replicate n []) j (shifted inf.den e) (IsPoly_poly_of (replicate e 0 ++ inf.den))
      (All-replicate IsPoly n [] (record { trimmed = tt }));
  here = ap (value k) (get_or-set_same (replicate n []) j (shifted inf.den e) [] (omega (arith, less, size)))
      ∙ shifted_is k inf.den e form.den_in;
  other = λ i differ. get_or-set_other (replicate n []) j i (shifted inf.den e) [] differ ∙ zero_at n i;
}
  where
    n : ℕ
    n = c.inf.n

    size : length (replicate n no_codes) ≡ n
    size = length-replicate n []

pub power_row_poly : (n : ℕ) (a : List ℕ) (e j : ℕ) → All IsPoly (power_row n a e j)
power_row_poly n a e j = All-set IsPoly (replicate n []) j (shifted a e) (IsPoly_poly_of (replicate e 0 ++ a))
    (All-replicate IsPoly n [] (record { trimmed = tt }))

pub power_row_size : (n : ℕ) (a : List ℕ) (e j : ℕ) → length (power_row n a e j) ≡ n
power_row_size n a e j = length-set (replicate n []) j (shifted a e) ∙ length-replicate n []

pub power_row_over : (k : CodeField) (n : ℕ) (a : List ℕ) (e j : ℕ) → IsOver k.ops a
    → All (IsOver k.ops) (power_row n a e j)
power_row_over k n a e j a_in =
    All-set (IsOver k.ops) (replicate n []) j (shifted a e) (shifted_in k a e a_in)
    (All-replicate (IsOver k.ops) n [] IsOver_nil)
