-- The functions of multiples, quotients and sums of elements, and of lists of them.
use Rattle.std.proofs.Common.{◌≡◌, ℕ, zero, suc, ◌+◌, ◌-◌, ◌<◌, List, [], ◌∷◌, ◌++◌, length, map, take, get_or, refl, sym, ◌∙◌, ap, ap₂, arith}
use Rattle.std.proofs.lemmas.List.{length-map, take_more, length-take-le, get_or-map}
use Rattle.ff_fields.specs.Field.{CodeField}
use Rattle.ff_fields.specs.Over.{IsOver}
use Rattle.ff_poly.specs.Words.{IsMonicList, product_of}
use Rattle.ff_poly.specs.PolyOver.{IsOver_product_of}
use Rattle.ff_poly.specs.Value.{value, value_product}
use Rattle.ff_poly.specs.Popov.{multiple_of_row, entry_at, row_at}
use Rattle.ff_poly.specs.Polynomials.{Polynomial, polynomials}
use Rattle.ff_poly.proofs.Parts.{IsMonic_product}
use Rattle.ff_popov.specs.Reading.{read_row}
use Rattle.ff_popov.proofs.ReadRows.{read_multiple}
use Rattle.ff_popov.proofs.Spans.{multiple_row}
use Rattle.function_field.specs.Functions.{Equation, of_poly, over}
use Rattle.function_field.specs.Values.{PresValue, ElemValue, IsElem, IsMonicElem, Functions, functions, function_of, equation_of}
use Rattle.function_field.specs.Curves.{CurveValue}
use Rattle.linear_theory.specs.Module.{combine}
use Rattle.linear_theory.specs.Lists.{entry}
use Rattle.linear_theory.proofs.Combination.{combine_append}
use Rattle.lattice_theory.specs.Lattices.{polynomial_ops}
use Rattle.space_theory.proofs.FunctionModule.{functions_module}
use Rattle.ff_lattice.specs.Lattices.{LatticeValue}
use Rattle.split_theory.specs.Splits.{infinite_rows, AreRowsOver}
use Rattle.split_theory.proofs.RowFunctions.{entry_map}
use Rattle.ff_lattice.proofs.Fracs.{over_scale, of_poly_over}
use Rattle.ff_lattice.proofs.Elements.{elem_over}
use Rattle.ff_lattice.proofs.SpannedSets.{multiple_poly}
use Rattle.ff_lattice.proofs.Divisors.{monic_value}
use Rattle.ff_lattice.proofs.Normal.{monic_poly}

module _ (k : CodeField) (p : PresValue) where
  abbrev E : Equation k
  E = equation_of k p

  den_some : (z : ElemValue) → IsElem k.ops p.n z → IsMonicElem z → ¬ (value k z.den ≡ (polynomials k).𝟘)
  den_some z z_in monic = monic_value k z.den z_in.den_over monic.den_poly monic.monic

  -- a·z
  pub multiple_function : (a : List ℕ) (z w : ElemValue) → IsOver k.ops a → IsElem k.ops p.n z → IsMonicElem z
      → w ≡ record { num = multiple_of_row k.ops a z.num; den = z.den }
      → function_of k p w ≡ (functions k p).◌⊗◌ (of_poly E (value k a)) (function_of k p z)
  multiple_function a z w a_in z_in monic is =
      let some = den_some z z_in monic in
      ap (function_of k p) is
      ∙ elem_over k p z.den some (multiple_of_row k.ops a z.num)
      ∙ ap (λ v. over (equation_of k p) v (value k z.den) some)
      (read_multiple k (suc (p.n - 1)) a z.num a_in z_in.num_over)
      ∙ sym (over_scale (equation_of k p) (value k a) (read_row k (suc (p.n - 1)) z.num) (value k z.den) some)
      ∙ ap ((functions k p).◌⊗◌ (of_poly E (value k a))) (sym (elem_over k p z.den some z.num))

  pub multiple_elem : (a : List ℕ) (z w : ElemValue) → IsOver k.ops a → IsElem k.ops p.n z
      → w ≡ record { num = multiple_of_row k.ops a z.num; den = z.den } → IsElem k.ops p.n w
  multiple_elem a z w a_in z_in is =
      let row = multiple_row k p.n a z.num a_in (record { size = z_in.one_each; over = z_in.num_over }) in
      rw is (record { one_each = row.size; num_over = row.over; den_over = z_in.den_over })

  -- z/u
  pub quotient_function : (u : List ℕ) (z w : ElemValue) → IsOver k.ops u → IsMonicList u → IsElem k.ops p.n z
      → IsMonicElem z → w ≡ record { num = z.num; den = product_of k.ops u z.den }
      → (functions k p).◌⊗◌ (of_poly E (value k u)) (function_of k p w) ≡ function_of k p z
  quotient_function u z w u_in u_monic z_in monic is =
      let some = den_some z z_in monic in
      let d = product_of k.ops u z.den in
      let d_monic = IsMonic_product k u z.den u_in z_in.den_over u_monic monic.monic in
      let d_some = monic_value k d (IsOver_product_of k u_in z_in.den_over) (monic_poly d d_monic) d_monic in
      ap (λ w. (functions k p).◌⊗◌ (of_poly E (value k u)) (function_of k p w)) is
      ∙ ap ((functions k p).◌⊗◌ (of_poly E (value k u))) (elem_over k p d d_some z.num)
      ∙ of_poly_over (equation_of k p) (read_row k (suc (p.n - 1)) z.num) (value k u) (value k z.den) (value k d) d_some
      some (sym (value_product k u z.den u_in z_in.den_over))
      ∙ sym (elem_over k p z.den some z.num)

  pub quotient_elem : (u : List ℕ) (z w : ElemValue) → IsOver k.ops u → IsElem k.ops p.n z
      → w ≡ record { num = z.num; den = product_of k.ops u z.den } → IsElem k.ops p.n w
  quotient_elem u z w u_in z_in is =
      rw is (record {
        one_each = z_in.one_each;
        num_over = z_in.num_over;
        den_over = IsOver_product_of k u_in z_in.den_over;
      })

  pub quotient_monic : (u : List ℕ) (z : ElemValue) → IsOver k.ops u → IsMonicList u → IsElem k.ops p.n z
      → IsMonicElem z
      → IsMonicList (product_of k.ops u z.den)
  quotient_monic u z u_in u_monic z_in monic = IsMonic_product k u z.den u_in z_in.den_over u_monic monic.monic

  -- a sum of one term, and of one term more
  pub one_term : (c : ℕ → Polynomial k) (zs : List ElemValue) (z : ElemValue) (f : Functions k p) → 0 < length zs
      → z ≡ get_or zs 0 z → f ≡ (functions k p).◌⊗◌ (of_poly E (c 0)) (function_of k p z)
      → f ≡ combine (polynomial_ops E) c (take 1 (map (function_of k p) zs))
  one_term c [] z f less z_is f_is = absurd (omega (arith, less))
  one_term c (y ∷ zs) z f less z_is f_is =
      f_is ∙ ap (λ y. (functions k p).◌⊗◌ (of_poly E (c 0)) (function_of k p y)) z_is
      ∙ sym ((functions_module E).add_zero _)

  pub term_more : (c : ℕ → Polynomial k) (zs : List ElemValue) (z : ElemValue) (j : ℕ) (s t u : Functions k p)
      → j < length zs → z ≡ get_or zs j z → s ≡ combine (polynomial_ops E) c (take j (map (function_of k p) zs))
      → t ≡ (functions k p).◌⊗◌ (of_poly E (c j)) (function_of k p z) → u ≡ (functions k p).◌⊕◌ s t
      → u ≡ combine (polynomial_ops E) c (take (j + 1) (map (function_of k p) zs))
  term_more c zs z j s t u less z_is s_is t_is u_is =
      let fs = map (function_of k p) zs in
      let m : j < length fs = omega (arith, less, length-map zs (function_of k p)) in
      let size : length (take j fs) ≡ j = length-take-le j fs (omega (arith, m)) in
      let here : function_of k p z ≡ get_or fs j (function_of k p z)
      = ap (function_of k p) z_is ∙ sym (get_or-map (function_of k p) zs j z (function_of k p z) less) in
      let index : length (take j fs) + 0 ≡ j = omega (arith, size) in
      u_is
      ∙ ap₂ (functions k p).◌⊕◌ s_is (t_is ∙ ap₂ (λ i f. (functions k p).◌⊗◌ (of_poly E (c i)) f) (sym index) here
      ∙ sym ((functions_module E).add_zero _))
      ∙ sym (combine_append (functions_module E) c (take j fs) (get_or fs j (function_of k p z) ∷ []))
      ∙ ap (combine (polynomial_ops E) c) (sym (take_more fs j (function_of k p z) m))

pub multiple_monic : (k : CodeField) (a : List ℕ) (z : ElemValue) → IsMonicElem z → IsMonicElem
    (record { num = multiple_of_row k.ops a z.num; den = z.den })
multiple_monic k a z monic =
    record { num_poly = multiple_poly k a z.num; den_poly = monic.den_poly; monic = monic.monic }

-- a list of images, with one more
pub images_more : {X Y Z : Type 0} (f : X → Z) (g : Y → Z) (old new : List X) (ys : List Y) (i : ℕ) (x : X) (y d : Y)
    → map f old ≡ map g (take i ys) → i < length ys → y ≡ get_or ys i d → f x ≡ g y → new ≡ old ++ x ∷ []
    → map f new ≡ map g (take (i + 1) ys)
images_more f g old new ys i x y d so_far less y_is same is =
    ap (map f) is ∙ push f old x
    ∙ ap₂ (λ zs z. zs ++ z ∷ []) so_far (same ∙ ap g y_is)
    ∙ sym (push g (take i ys) (get_or ys i d))
    ∙ ap (map g) (sym (take_more ys i d less))
  where
    push : {X Z : Type 0} (f : X → Z) (xs : List X) (x : X) → map f (xs ++ x ∷ []) ≡ map f xs ++ f x ∷ []
    push f [] x = refl
    push f (a ∷ xs) x = ap (λ ys. f a ∷ ys) (push f xs x)

pub entry_read : {X : Type 0} (d : X) (xs : List X) (i : ℕ) → entry d xs i ≡ get_or xs i d
entry_read d [] i = refl
entry_read d (x ∷ xs) zero = refl
entry_read d (x ∷ xs) (suc i) = entry_read d xs i

-- the elements by the rows over u
pub over_rows : (k : CodeField) (c : CurveValue) (inf : LatticeValue) (u : List ℕ) (m : List (List (List ℕ)))
    (zs hs : List ElemValue) → map (function_of k c.fin) hs ≡ infinite_rows k c inf → length m ≡ c.fin.n
    → map (λ w. (functions k c.fin).◌⊗◌ (of_poly (equation_of k c.fin) (value k u)) (function_of k c.fin w)) zs
    ≡ map (λ row. combine (polynomial_ops (equation_of k c.fin)) (λ j. value k (entry_at row j))
    (map (function_of k c.fin) hs)) m
    → AreRowsOver k c inf u m (map (function_of k c.fin) zs)
over_rows k c inf u m zs hs hs_are size same = record {
  count = length-map zs (function_of k c.fin) ∙ count;
  each = λ i less.
      let l : i < length zs = omega (arith, less, count) in
      let l' : i < length m = omega (arith, less, size) in
      ap ((functions k c.fin).◌⊗◌ (of_poly (equation_of k c.fin) (value k u)))
      (entry_map (function_of k c.fin) none (functions k c.fin).𝟘 zs i l)
      ∙ sym (entry_map multiple none (functions k c.fin).𝟘 zs i l)
      ∙ ap (λ fs. entry (functions k c.fin).𝟘 fs i) same
      ∙ entry_map combined [] (functions k c.fin).𝟘 m i l'
      ∙ ap combined (entry_read [] m i)
      ∙ ap (combine (polynomial_ops (equation_of k c.fin)) (λ j. value k (entry_at (row_at m i) j))) hs_are;
}
  where
    none : ElemValue
    none = record { num = []; den = [] }

    multiple : ElemValue → Functions k c.fin
    multiple w = (functions k c.fin).◌⊗◌ (of_poly (equation_of k c.fin) (value k u)) (function_of k c.fin w)

    combined : List (List ℕ) → Functions k c.fin
    combined row = combine (polynomial_ops (equation_of k c.fin)) (λ j. value k (entry_at row j))
        (map (function_of k c.fin) hs)

    count : length zs ≡ c.fin.n
    count = sym (length-map zs multiple) ∙ ap length same ∙ length-map m combined ∙ size

abbrev pub element : List (List ℕ) → List ℕ → ElemValue
element num den = record { num = num; den = den }
