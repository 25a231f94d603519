-- The element 1, and polynomials as elements.
use Rattle.std.proofs.Common.{◌≡◌, ℕ, zero, suc, ◌-◌, ◌≤◌, List, [], ◌∷◌, replicate, refl, sym, ◌∙◌, arith, All}
use Rattle.std.specs.Prelude.{slice_set}
use Rattle.std.proofs.lemmas.List.{length-set, length-replicate}
use Rattle.std.proofs.lemmas.List.Elements.{All-set, All-replicate}
use Rattle.ring_lemmas.proofs.Rows.{pair_path}
use Rattle.ring_lemmas.specs.Rows.{row_one, row_zero}
use Rattle.ring_theory.specs.FunctionRing.{whole_pair}
use Rattle.ff_fields.specs.Field.{CodeField}
use Rattle.ff_fields.specs.Over.{IsOver, IsOver_nil, IsOver_cons}
use Rattle.ff_poly.specs.Words.{IsPoly}
use Rattle.ff_poly.specs.Value.{value}
use Rattle.ff_poly.specs.Polynomials.{polynomials, polynomials_domain, value_one}
use Rattle.ff_popov.specs.Reading.{read_row}
use Rattle.ff_popov.proofs.ReadRows.{read_zeros}
use Rattle.function_field.specs.Functions.{one_function, whole_row, of_poly, row_of}
use Rattle.function_field.specs.Values.{PresValue, IsElem, functions, function_of, equation_of}
use Rattle.ff_lattice.specs.Steps.{unit_row}
use Rattle.ff_algebra.proofs.ElemParts.{function_parts}
use Rattle.ff_lattice.proofs.Elements.{read_is}

module _ (k : CodeField) (p : PresValue) where
  read_one : (n : ℕ) → 1 ≤ n → read_row k (suc (n - 1)) (unit_row n 0) ≡ row_one (polynomials k).ring (n - 1)
  unfolding row_one
  read_one zero some = absurd (omega (arith, some))
  read_one (suc m) some = go (suc m - 1) (omega arith)
    where
      go : (e : ℕ) → e ≡ m → read_row k (suc e) (unit_row (suc m) 0) ≡ row_one (polynomials k).ring e
      go e e_is = pair_path (value_one k) (read_zeros k e m)

  pub one_is : 1 ≤ p.n → function_of k p (record { num = unit_row p.n 0; den = 1 ∷ [] }) ≡ (functions k p).𝟙
  unfolding whole_pair
  one_is positive =
      function_parts k p (record { num = unit_row p.n 0; den = 1 ∷ [] })
      (whole_row (equation_of k p) (row_one (polynomials k).ring (p.n - 1)))
      (sym (read_is k (suc (p.n - 1)) (unit_row p.n 0)) ∙ read_one p.n positive) (value_one k)
      ∙ sym (one_function (equation_of k p))

  read_poly : (n : ℕ) (a : List ℕ) → 1 ≤ n
      → read_row k (suc (n - 1)) (slice_set (replicate n []) 0 a) ≡ (value k a, row_zero (polynomials k).ops (n - 1))
  read_poly zero a some = absurd (omega (arith, some))
  read_poly (suc m) a some = go (suc m - 1) (omega arith)
    where
      go : (e : ℕ) → e ≡ m → read_row k (suc e) (slice_set (replicate (suc m) []) 0 a)
          ≡ (value k a, row_zero (polynomials k).ops e)
      go e e_is = pair_path refl (read_zeros k e m)

  -- a polynomial as an element
  pub polynomial_is : (a : List ℕ) → 1 ≤ p.n
      → function_of k p (record { num = slice_set (replicate p.n []) 0 a; den = 1 ∷ [] })
      ≡ of_poly (equation_of k p) (value k a)
  polynomial_is a positive =
      function_parts k p (record { num = slice_set (replicate p.n []) 0 a; den = 1 ∷ [] })
      (record {
        num = row_of (equation_of k p) (value k a);
        den = (polynomials k).𝟙;
        den_not_zero =
            (polynomials_domain k).one_not_zero;
      })
      (sym (read_is k (suc (p.n - 1)) (slice_set (replicate p.n []) 0 a)) ∙ read_poly p.n a positive) (value_one k)

-- one polynomial among zeros, over 1
pub placed_elem : (k : CodeField) (n i : ℕ) (a : List ℕ) → IsOver k.ops a
    → IsElem k.ops n (record { num = slice_set (replicate n []) i a; den = 1 ∷ [] })
placed_elem k n i a a_in = record {
  one_each = length-set (replicate n []) i a ∙ length-replicate n [];
  num_over = All-set (IsOver k.ops) (replicate n []) i a a_in (All-replicate (IsOver k.ops) n [] IsOver_nil);
  den_over = IsOver_cons k.laws.one_below IsOver_nil;
}

pub placed_poly : (n i : ℕ) (a : List ℕ) → IsPoly a → All IsPoly (slice_set (replicate n []) i a)
placed_poly n i a a_poly = All-set IsPoly (replicate n []) i a a_poly
    (All-replicate IsPoly n [] (record { trimmed = tt }))
