-- Lines from their factors, and a row times a polynomial.
use Rattle.std.proofs.Common.{◌≡◌, ℕ, zero, suc, ◌+◌, ◌-◌, ◌<◌, ◌≤◌, List, [], ◌∷◌, ◌++◌, length, get_or, take, drop, set, replicate, refl, sym, ap, ap₂, ◌∙◌, arith, subst, All}
use Rattle.std.proofs.lemmas.List.{length-append, length-replicate}
use Rattle.std.proofs.lemmas.List.Elements.{All-append, All-set}
use Rattle.std.proofs.Math.ListN.{length-set, get_or-append}
use Rattle.std.proofs.Math.Seq.{drop-append_seam}
use Rattle.ring_lemmas.specs.Ring.{CommRing}
use Rattle.ring_lemmas.specs.Rows.{Row, row_zero, row_add, row_scale, row_one, row_mul}
use Rattle.ring_lemmas.proofs.Ring.{one_mul, neg_mul, neg_add}
use Rattle.ring_lemmas.proofs.Rows.{pair_path, row_add_comm, row_add_zero, row_scale_zero}
use Rattle.ff_fields.specs.Field.{CodeField}
use Rattle.ff_fields.specs.Over.{IsOver, IsOver_nil, IsOver_cons}
use Rattle.ff_poly.specs.Words.{IsPoly, sum_of, multiple_of, product_of}
use Rattle.ff_poly.specs.PolyOver.{IsOver_sum_of, IsOver_multiple_of, IsOver_product_of}
use Rattle.ff_poly.specs.Value.{value}
use Rattle.ff_poly.specs.Polynomials.{polynomials, value_one}
use Rattle.ff_poly.proofs.Parts.{IsPoly_sum_of, value_sum_with_product, minus_one}
use Rattle.function_field.specs.Values.{PresValue, row_of_list, equation_of}
use Rattle.ff_algebra.specs.RowProducts.{IsPolyRow, add_products, row_at}
use Rattle.ff_algebra.specs.Inverses.{IsInverseLine}
use Rattle.ff_algebra.proofs.RowProducts.{IsRow_zeros, row_of_zeros, row_of_add_products}
use Rattle.ff_algebra.proofs.Elimination.{over_at}
use Rattle.ff_algebra.proofs.EliminatedLines.{row_of_take}

-- what is taken from the first coefficient comes back
first_back : {P : Type 0} (S : CommRing P) (n : ℕ) (a b d : P) (r : Row P n) → b ≡ S.◌⊕◌ a (S.⊖◌ d)
    → ◌≡◌ {A = Row P (suc n)} (row_add S.ops (suc n) (b, r) (row_scale S.ops (suc n) d (row_one S n))) (a, r)
unfolding row_add row_scale row_one
first_back S n a b d r b_is =
    pair_path
    (ap₂ S.◌⊕◌ b_is (S.mul_one d) ∙ S.add_assoc a (S.⊖◌ d) d ∙ ap (S.◌⊕◌ a) (neg_add S d) ∙ S.add_zero a)
    (ap (row_add S.ops n r) (row_scale_zero S n d) ∙ row_add_zero S n r)

module _ (k : CodeField) where
  pub row_of_append : (m : ℕ) (xs ys : List (List ℕ)) → m ≤ length xs → row_of_list k m (xs ++ ys) ≡ row_of_list k m xs
  row_of_append zero xs ys le = refl
  row_of_append (suc m) [] ys le = absurd (omega arith)
  row_of_append (suc m) (x ∷ xs) ys le = pair_path refl (row_of_append m xs ys (omega arith))

  value_less : (a b d : List ℕ) → IsOver k.ops a → IsOver k.ops d
      → b ≡ sum_of k.ops a (multiple_of k.ops (product_of k.ops (1 ∷ []) d) (k.neg 1))
      → value k b ≡ (polynomials k).◌⊕◌ (value k a) ((polynomials k).⊖◌ (value k d))
  value_less a b d a_in d_in b_is =
      let S = (polynomials k).ring in
      ap (value k) b_is
      ∙ value_sum_with_product k a (1 ∷ []) d (k.neg 1) a_in (k.laws.neg_below 1 k.laws.one_below)
      (IsOver_cons k.laws.one_below IsOver_nil) d_in
      ∙ ap (S.◌⊕◌ (value k a))
      (ap₂ S.◌⊗◌ (minus_one k) (ap (λ u. S.◌⊗◌ u (value k d)) (value_one k) ∙ one_mul S (value k d))
      ∙ neg_mul S S.𝟙 (value k d) ∙ ap S.⊖◌ (one_mul S (value k d)))

  first_less : (m : ℕ) (product : List (List ℕ)) (first d : List ℕ) → 0 < length product → All (IsOver k.ops) product
      → IsOver k.ops d
      → first ≡ sum_of k.ops (get_or product 0 []) (multiple_of k.ops (product_of k.ops (1 ∷ []) d) (k.neg 1))
      → row_add (polynomials k).ops (suc m) (row_of_list k (suc m) (set product 0 first))
      (row_scale (polynomials k).ops (suc m) (value k d) (row_one (polynomials k).ring m))
      ≡ row_of_list k (suc m) product
  first_less m [] first d some product_in d_in first_is = absurd (omega arith)
  first_less m (q ∷ qs) first d some product_in d_in first_is =
      first_back (polynomials k).ring m (value k q) (value k first) (value k d) (row_of_list k m qs)
      (value_less q first d (product_in 0 [] (omega arith)) d_in first_is)

  pub line_made : (p : PresValue) (v factors product : List (List ℕ)) (first : List ℕ) → 1 ≤ p.n
      → IsPolyRow k.ops (p.n + 1) factors → IsPolyRow k.ops p.n product
      → row_at k p product ≡ row_mul (polynomials k).ring (p.n - 1) (equation_of k p).coefficients
      (row_at k p (take p.n factors)) (row_at k p v)
      → first ≡ sum_of k.ops (get_or product 0 [])
      (multiple_of k.ops (product_of k.ops (1 ∷ []) (get_or factors p.n [])) (k.neg 1))
      → IsInverseLine k p v (factors ++ set product 0 first)
  line_made p v factors product first positive factors_in product_in product_is first_is =
      let m = suc (p.n - 1) in
      let S = (polynomials k).ring in
      let rest = set product 0 first in
      let d = get_or factors p.n [] in
      let one_in : IsOver k.ops (1 ∷ []) = IsOver_cons k.laws.one_below IsOver_nil in
      let d_in = over_at k (p.n + 1) factors factors_in p.n in
      let term_in = IsOver_multiple_of k (IsOver_product_of k one_in d_in) (k.laws.neg_below 1 k.laws.one_below) in
      let first_in = subst (IsOver k.ops) (sym first_is) (IsOver_sum_of k (over_at k p.n product product_in 0) term_in)
      in
      let first_poly = subst IsPoly (sym first_is)
      (IsPoly_sum_of k.ops (get_or product 0 []) (multiple_of k.ops (product_of k.ops (1 ∷ []) d) (k.neg 1))) in
      record {
        row = record {
          one_each = length-append factors rest
              ∙ omega (arith, factors_in.one_each, length-set product 0 first, product_in.one_each);
          over = All-append (IsOver k.ops) factors rest factors_in.over
              (All-set (IsOver k.ops) product 0 first first_in product_in.over);
          poly = All-append IsPoly factors rest factors_in.poly
              (All-set IsPoly product 0 first first_poly product_in.poly);
        };
        product =
            ap₂ (λ r e. row_add S.ops m r (row_scale S.ops m (value k e) (row_one S (p.n - 1))))
            (ap (row_at k p) (ap (λ j. drop j (factors ++ rest)) (sym factors_in.one_each)
            ∙ drop-append_seam factors rest))
            (get_or-append factors rest [] p.n (omega (arith, factors_in.one_each)))
            ∙ first_less (p.n - 1) product first d (omega (arith, product_in.one_each)) product_in.over d_in first_is
            ∙ product_is
            ∙ ap (λ r. row_mul S (p.n - 1) (equation_of k p).coefficients r (row_at k p v))
            (row_of_take k p v m p.n factors (omega arith)
            ∙ sym (row_of_append m factors rest (omega (arith, factors_in.one_each))));
      }

  -- zeros plus d times a row
  pub row_of_multiples_by : (n : ℕ) (d : List ℕ) (row : List (List ℕ)) → IsOver k.ops d → All (IsOver k.ops) row
      → row_of_list k n (add_products k.ops 1 d (replicate (length row) []) row)
      ≡ row_scale (polynomials k).ops n (value k d) (row_of_list k n row)
  row_of_multiples_by n d row d_in row_in =
      let S = (polynomials k).ring in
      let scaled = row_scale S.ops n (value k d) (row_of_list k n row) in
      row_of_add_products k n 1 d (replicate (length row) []) row
      (length-replicate (length row) (let none : List ℕ = [] in none)) k.laws.one_below d_in
      (IsRow_zeros k (length row)).over row_in
      ∙ ap₂ (row_add S.ops n) (row_of_zeros k n (length row))
      (ap (λ s. row_scale S.ops n s (row_of_list k n row))
      (ap (λ u. S.◌⊗◌ u (value k d)) (value_one k) ∙ one_mul S (value k d)))
      ∙ row_add_comm S n (row_zero S.ops n) scaled ∙ row_add_zero S n scaled
