-- The rows of a lattice over k[x] in the coordinates of the infinite rows.
use Rattle.std.proofs.Common.{◌≡◌, ℕ, List, [], length, map, sym, ap, ◌∙◌, subst, All}
use Rattle.std.proofs.lemmas.List.{length-map}
use Rattle.ff_fields.specs.Field.{CodeField}
use Rattle.ff_poly.specs.Popov.{row_at, IsRow, IsPopovMatrix, HaveSameRowSpan, HasFullRankMatrix, combination_list}
use Rattle.ff_poly.specs.Words.{IsMonicList}
use Rattle.ff_fields.specs.Over.{IsOver}
use Rattle.function_field.specs.Curves.{CurveValue, IsCurve}
use Rattle.ff_lattice.specs.Lattices.{LatticeValue, IsLatticeValue}
use Rattle.ff_lattice.proofs.Divisors.{monic_value}
use Rattle.ff_lattice.proofs.Normal.{monic_poly}
use Rattle.value_theory.proofs.Bridge.{lattice_set}
use Rattle.value_theory.proofs.InfiniteLattices.{some}
use Rattle.split_theory.specs.Splits.{AreCoordinates, AreRowProducts, IsDenominator, SpanMultiple}
use Rattle.split_theory.proofs.Products.{products_spanned}
use Rattle.split_theory.proofs.RowFunctions.{get_map}
use Rattle.split_theory.proofs.RowSpaces.{spanned_same, spanned_full}
use Rattle.ff_split.specs.Splits.{IsSplitMatrix}

module _ (k : CodeField) (c : CurveValue) (curve : IsCurve k c) (fin inf : LatticeValue)
    (fin_form : IsLatticeValue k.ops c.fin.n fin) (inf_form : IsLatticeValue k.ops c.inf.n inf) where
  row_products : (s : ℕ) (Q W : List (List (List ℕ))) → AreCoordinates k c inf s Q
      → W ≡ map (λ v. combination_list k.ops c.fin.n v Q) fin.rows → AreRowProducts k c.fin.n fin.rows Q W
  row_products s Q W coordinates is = record {
    count = ap length is ∙ length-map fin.rows (λ v. combination_list k.ops c.fin.n v Q);
    each = λ i less.
        let row = fin_form.rows_in i [] less in
        record {
          size = row.size ∙ sym coordinates.count;
          over = row.over;
          is = ap (λ rows. row_at rows i) is ∙ get_map (λ v. combination_list k.ops c.fin.n v Q) [] [] fin.rows i less;
        };
  }

  pub multiple_spanned : (s n : ℕ) (Q W : List (List (List ℕ))) (u : List ℕ) → AreCoordinates k c inf s Q → n ≡ c.fin.n
      → W ≡ map (λ v. combination_list k.ops n v Q) fin.rows → IsDenominator k fin.den s u
      → SpanMultiple k c inf fin u W
  multiple_spanned s n Q W u coordinates n_is is denominator =
      products_spanned k c curve fin inf fin_form inf_form s Q coordinates W
      (row_products s Q W coordinates
      (subst (λ n. W ≡ map (λ v. combination_list k.ops n v Q) fin.rows) n_is is)) u denominator

  pub full_rank : (u : List ℕ) (W : List (List (List ℕ))) → IsOver k.ops u → IsMonicList u
      → SpanMultiple k c inf fin u W
      → HasFullRankMatrix k.ops c.fin.n W
  full_rank u W u_in monic spanned =
      spanned_full k c curve inf inf_form fin (lattice_set k c.fin (some k c curve) fin fin_form) u
      (monic_value k u u_in (monic_poly u monic) monic) W spanned

  pub split_matrix_is : (n : ℕ) (u : List ℕ) (W m : List (List (List ℕ))) → n ≡ c.fin.n → IsOver k.ops u → IsMonicList u
      → SpanMultiple k c inf fin u W → IsPopovMatrix n m × All (IsRow k.ops n) m × HaveSameRowSpan k.ops n W m
      → IsSplitMatrix k c fin inf u m
  split_matrix_is n u W m n_is u_in monic spanned made =
      let h = subst (λ n. IsPopovMatrix n m × All (IsRow k.ops n) m × HaveSameRowSpan k.ops n W m) n_is made in
      record {
        over = u_in;
        monic = monic;
        popov = h.0;
        spans = spanned_same k c curve inf inf_form fin u W m spanned h.1 h.2;
      }
