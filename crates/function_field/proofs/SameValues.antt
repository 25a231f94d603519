-- Two elements stand for one function exactly where they are the same by cross products.
use Rattle.std.proofs.Common.{◌≡◌, ℕ, zero, suc, ◌+◌, ◌-◌, ◌<◌, ◌≤◌, Bool, IsTrue, get_or, take, subst, List, [], ◌∷◌, ◌++◌, length, map, refl, sym, ◌∙◌, ap, ap₂, arith, ◌↔◌, All}
use Rattle.std.proofs.lemmas.List.{length-map, get_or-map, take_more_same}
use Rattle.std.proofs.lemmas.List.Elements.{All-head, All-tail}
use Rattle.ring_lemmas.specs.Rows.{Row, row_scale}
use Rattle.ring_lemmas.proofs.Rows.{pair_path}
use Rattle.ff_fields.specs.Field.{CodeField}
use Rattle.ff_fields.specs.Over.{IsOver}
use Rattle.ff_poly.specs.Words.{IsPoly, IsMonicList, product_of}
use Rattle.ff_poly.specs.Value.{value, numbers_value}
use Rattle.ff_poly.specs.Polynomials.{Polynomial, polynomials, polynomial_eq, polynomial_discrete, codes_of, codes_of_product, value_not_zero}
use Rattle.function_field.specs.Functions.{Equation, ring_of_x, function_eq, function_same}
use Rattle.function_field.specs.Values.{ElemValue, PresValue, IsElem, IsMonicElem, IsSame, row_of_list, equation_of, over_checked, row_over, function_of}

module _ (k : CodeField) where
  -- the lists of codes of a row
  row_codes : (n : ℕ) → Row (Polynomial k) n → List (List ℕ)
  row_codes zero v = []
  row_codes (suc n) (a, v) = codes_of k a ∷ row_codes n v

  row_codes_injective : (n : ℕ) (v w : Row (Polynomial k) n) → row_codes n v ≡ row_codes n w → v ≡ w
  unfolding row_codes
  row_codes_injective zero v w e = refl
  row_codes_injective (suc n) (a, v) (b, w) e =
      let first : codes_of k a ≡ codes_of k b = cc in
      let rest : row_codes n v ≡ row_codes n w = cc in
      pair_path (polynomial_eq k a b first) (row_codes_injective n v w rest)

  row_codes_row_of_list : (n : ℕ) (vs : List (List ℕ)) → length vs ≡ n → All (IsOver k.ops) vs → All IsPoly vs
      → row_codes n (row_of_list k n vs) ≡ vs
  unfolding row_codes
  row_codes_row_of_list zero [] e h g = refl
  row_codes_row_of_list zero (v ∷ vs) e h g = absurd (omega arith)
  row_codes_row_of_list (suc n) [] e h g = absurd (omega arith)
  row_codes_row_of_list (suc n) (v ∷ vs) e hs gs =
      ap₂ (λ a b. a ∷ b)
      (numbers_value k v (All-head (IsOver k.ops) v vs hs) (All-head IsPoly v vs gs))
      (row_codes_row_of_list n vs (omega arith) (All-tail (IsOver k.ops) v vs hs) (All-tail IsPoly v vs gs))

  row_codes_row_scale : (n : ℕ) (d : Polynomial k) (v : Row (Polynomial k) n)
      → row_codes n (row_scale (polynomials k).ops n d v) ≡ map (product_of k.ops (codes_of k d)) (row_codes n v)
  unfolding row_codes row_scale
  row_codes_row_scale zero d v = refl
  row_codes_row_scale (suc n) d (a, v) = ap₂ (λ s t. s ∷ t) (codes_of_product k d a) (row_codes_row_scale n d v)

module _ {k : CodeField} (c : Equation k) where
  over_den : (v : Row (Polynomial k) (suc c.lower_degree)) (d : Polynomial k) (h : Dec (d ≡ (polynomials k).𝟘))
      → ¬ (d ≡ (polynomials k).𝟘) → (over_checked c v d h).den ≡ d
  unfolding over_checked
  over_den v d (yes e) n = absurd (n e)
  over_den v d (no m) n = refl

  over_num : (v : Row (Polynomial k) (suc c.lower_degree)) (d : Polynomial k) (h : Dec (d ≡ (polynomials k).𝟘))
      → (over_checked c v d h).num ≡ v
  unfolding over_checked
  over_num v d (yes e) = refl
  over_num v d (no m) = refl

-- what is monic isn't 0
pub monic_some : (d : List ℕ) → IsMonicList d → ¬ (d ≡ [])
monic_some d ([], d_is) e = let none : 1 ∷ [] ≡ [] = sym d_is ∙ e in (cc)
monic_some d (c ∷ lower, d_is) e = let none : c ∷ lower ++ 1 ∷ [] ≡ [] = sym d_is ∙ e in (cc)

module _ (k : CodeField) (p : PresValue) where
  pub row_over_num : (z : ElemValue) → (row_over k p z).num ≡ row_of_list k (suc (p.n - 1)) z.num
  unfolding row_over
  row_over_num z =
      over_num (equation_of k p) (row_of_list k (suc (p.n - 1)) z.num) (value k z.den)
      (polynomial_discrete k (value k z.den) (polynomials k).𝟘)

  pub row_over_den : (z : ElemValue) → ¬ (value k z.den ≡ (polynomials k).𝟘) → (row_over k p z).den ≡ value k z.den
  unfolding row_over
  row_over_den z n =
      over_den (equation_of k p) (row_of_list k (suc (p.n - 1)) z.num) (value k z.den)
      (polynomial_discrete k (value k z.den) (polynomials k).𝟘) n

  pub elem_den : (z : ElemValue) (n : ℕ) → IsElem k.ops n z → IsMonicElem z → ¬ (value k z.den ≡ (polynomials k).𝟘)
  elem_den z n h m = value_not_zero k z.den h.den_over m.den_poly (monic_some z.den m.monic)

  scaled_codes : (z w : ElemValue) → IsElem k.ops (suc (p.n - 1)) z → IsMonicElem z → IsElem k.ops (suc (p.n - 1)) w
      → IsMonicElem w
      → row_codes k (suc (p.n - 1)) (row_scale (ring_of_x (equation_of k p)).ops (suc (p.n - 1)) (row_over k p w).den
      (row_over k p z).num)
      ≡ map (product_of k.ops w.den) z.num
  scaled_codes z w h m g o =
      row_codes_row_scale k (suc (p.n - 1)) (row_over k p w).den (row_over k p z).num
      ∙ ap₂ (λ d vs. map (product_of k.ops d) vs)
      (ap (codes_of k) (row_over_den w (elem_den w (suc (p.n - 1)) g o)) ∙ numbers_value k w.den g.den_over o.den_poly)
      (ap (row_codes k (suc (p.n - 1))) (row_over_num z)
      ∙ row_codes_row_of_list k (suc (p.n - 1)) z.num h.one_each h.num_over m.num_poly)

  pub same_iff : (z w : ElemValue) → IsElem k.ops (suc (p.n - 1)) z → IsMonicElem z → IsElem k.ops (suc (p.n - 1)) w
      → IsMonicElem w
      → IsSame k.ops z w ↔ (function_of k p z ≡ function_of k p w)
  same_iff z w h m g o = (to, from)
    where
      to : IsSame k.ops z w → function_of k p z ≡ function_of k p w
      to e =
          function_eq (equation_of k p) (row_over k p z) (row_over k p w)
          (row_codes_injective k (suc (p.n - 1)) _ _ (scaled_codes z w h m g o ∙ e ∙ sym (scaled_codes w z g o h m)))

      from : function_of k p z ≡ function_of k p w → IsSame k.ops z w
      from e =
          sym (scaled_codes z w h m g o)
          ∙ ap (row_codes k (suc (p.n - 1))) (function_same (equation_of k p) (row_over k p z) (row_over k p w) e)
          ∙ scaled_codes w z g o h m

-- ---- cross products, one after another

pub cross_more : (f g : List ℕ → List ℕ) (vs ws : List (List ℕ)) (i : ℕ) (v w : List ℕ) → i < length vs → i < length ws
    → v ≡ get_or vs i v → w ≡ get_or ws i w → take i (map f vs) ≡ take i (map g ws) → f v ≡ g w
    → take (i + 1) (map f vs) ≡ take (i + 1) (map g ws)
cross_more f g vs ws i v w vs_less ws_less v_is w_is same this =
    take_more_same (map f vs) (map g ws) i []
    (omega (arith, length-map vs f)) (omega (arith, length-map ws g)) same
    (get_or-map f vs i v [] vs_less ∙ ap f (sym v_is) ∙ this ∙ ap g w_is ∙ sym (get_or-map g ws i w [] ws_less))

pub cross_at : (f g : List ℕ → List ℕ) (vs ws : List (List ℕ)) (i : ℕ) (v w : List ℕ) → i < length vs → i < length ws
    → v ≡ get_or vs i v → w ≡ get_or ws i w → map f vs ≡ map g ws → f v ≡ g w
cross_at f g vs ws i v w vs_less ws_less v_is w_is same =
    ap f v_is ∙ sym (get_or-map f vs i v [] vs_less) ∙ ap (λ us. get_or us i []) same ∙ get_or-map g ws i w [] ws_less
    ∙ ap g (sym w_is)

-- the functions are the same exactly where the cross products are
pub same_functions : (k : CodeField) (z w : ElemValue) (b : Bool) → IsElem k.ops (length z.num) z → IsMonicElem z
    → IsElem k.ops (length z.num) w → IsMonicElem w → IsTrue b ↔ IsSame k.ops z w
    → (p : PresValue) → 1 ≤ p.n → p.n ≡ length z.num → IsTrue b ↔ (function_of k p z ≡ function_of k p w)
same_functions k z w b z_in z_monic w_in w_monic cross p some size =
    let n_is : length z.num ≡ suc (p.n - 1) = omega arith in
    let both = same_iff k p z w (subst (λ n. IsElem k.ops n z) n_is z_in) z_monic
    (subst (λ n. IsElem k.ops n w) n_is w_in) w_monic in
    (λ t. both.0 (cross.0 t), λ e. cross.1 (both.1 e))
