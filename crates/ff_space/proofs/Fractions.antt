-- Numerators over a denominator against functions: the same functions have the same fractions, and over one denominator
-- the same numerators.
use Rattle.std.proofs.Common.{◌≡◌, ℕ, zero, suc, ◌-◌, ◌*◌, ◌≤◌, List, [], ◌∷◌, ◌++◌, length, map, take, drop, refl, sym, ◌∙◌, ap, ap₂, subst, arith, All}
use Rattle.std.proofs.lemmas.List.{length-drop, length-take-le, take-append-drop, nil_from_length, map-append}
use Rattle.std.proofs.lemmas.List.Elements.{All-nil, All-cons, All-head, All-tail, All-take, All-drop, All-append}
use Rattle.std.proofs.Math.Nat.{suc-mul, zero-mul}
use Rattle.ring_lemmas.specs.Ring.{CommRing}
use Rattle.ff_fields.specs.Field.{CodeField}
use Rattle.ff_fields.specs.Over.{IsOver, IsOver_take, IsOver_drop, IsOver_trim}
use Rattle.ff_poly.specs.Words.{IsPoly, IsMonicList, poly_of, product_of}
use Rattle.ff_poly.specs.PolyOver.{IsPoly_poly_of}
use Rattle.ff_poly.specs.Value.{value}
use Rattle.ff_poly.specs.Polynomials.{Polynomial, polynomials}
use Rattle.polynomial_theory.proofs.ListValues.{monic_poly}
use Rattle.ff_factor.specs.LowestTerms.{AreSameFractions}
use Rattle.ff_factor.specs.Reductions.{values}
use Rattle.ff_factor.proofs.CommonFactors.{times_cancel}
use Rattle.ff_factor.proofs.ValueLists.{same_values, values_same}
use Rattle.ff_factor.proofs.LowestTerms.{cancel}
use Rattle.function_field.specs.Values.{PresValue, IsElem, IsMonicElem, Functions, function_of}
use Rattle.function_field.proofs.SameValues.{same_iff}
use Rattle.ring_theory.proofs.Evaluate.{length_trim}
use Rattle.ff_fields.specs.Code.{is_zero_code}
use Rattle.ff_lattice.proofs.Divisors.{monic_value}
use Rattle.ff_space.specs.Steps.{AreShort, elems_in}
use Rattle.ff_space.specs.Vectors.{parts_of, HasVector}

-- the parts of a vector
pub parts_count : (width n : ℕ) (v : List ℕ) → length (parts_of width n v) ≡ n
parts_count width zero v = refl
parts_count width (suc n) v = ap suc (parts_count width n (drop width v))

pub parts_poly : (width n : ℕ) (v : List ℕ) → All IsPoly (parts_of width n v)
parts_poly width zero v = All-nil IsPoly
parts_poly width (suc n) v =
    All-cons IsPoly (poly_of (take width v)) (parts_of width n (drop width v)) (IsPoly_poly_of (take width v))
    (parts_poly width n (drop width v))

take_short : (width : ℕ) (v : List ℕ) → length (take width v) ≤ width
take_short zero v = omega arith
take_short (suc width) [] = omega arith
take_short (suc width) (x ∷ v) = let l = take_short width v in omega (arith, l)

pub parts_short : (width n : ℕ) (v : List ℕ) → AreShort width (parts_of width n v)
parts_short width zero v = All-nil (λ w. length w ≤ width)
parts_short width (suc n) v =
    All-cons (λ w. length w ≤ width) (poly_of (take width v)) (parts_of width n (drop width v))
    (omega (arith, length_trim is_zero_code (take width v), take_short width v))
    (parts_short width n (drop width v))

module _ (k : CodeField) where
  abbrev P : CommRing (Polynomial k)
  P = (polynomials k).ring

  pub parts_over : (width n : ℕ) (v : List ℕ) → IsOver k.ops v → All (IsOver k.ops) (parts_of width n v)
  parts_over width zero v over = All-nil (IsOver k.ops)
  parts_over width (suc n) v over =
      All-cons (IsOver k.ops) (poly_of (take width v)) (parts_of width n (drop width v))
      (IsOver_trim (take width v) (IsOver_take width over)) (parts_over width n (drop width v) (IsOver_drop width over))

  -- n numerators over a monic denominator are an element
  pub is_elem : (n : ℕ) (vs : List (List ℕ)) (d : List ℕ) → length vs ≡ n → All (IsOver k.ops) vs → IsOver k.ops d
      → IsElem k.ops n (record { num = vs; den = d })
  is_elem n vs d e vs_in d_in = record { one_each = e; num_over = vs_in; den_over = d_in }

  pub is_monic_elem : (vs : List (List ℕ)) (d : List ℕ) → All IsPoly vs → IsMonicList d
      → IsMonicElem (record { num = vs; den = d })
  is_monic_elem vs d poly monic = record { num_poly = poly; den_poly = monic_poly k d monic; monic = monic }

  module _ (p : PresValue) (some_n : 1 ≤ p.n) where
    n_is : p.n ≡ suc (p.n - 1)
    n_is = omega arith

    module _ (vs ws : List (List ℕ)) (d e : List ℕ) (vs_count : length vs ≡ p.n) (vs_in : All (IsOver k.ops) vs)
        (vs_poly : All IsPoly vs) (d_in : IsOver k.ops d) (d_monic : IsMonicList d)
        (ws_count : length ws ≡ p.n) (ws_in : All (IsOver k.ops) ws)
        (ws_poly : All IsPoly ws) (e_in : IsOver k.ops e) (e_monic : IsMonicList e) where
      pub fractions_of_functions :
          function_of k p (record { num = vs; den = d }) ≡ function_of k p (record { num = ws; den = e })
          → AreSameFractions k.ops vs d ws e
      fractions_of_functions same =
          (same_iff k p (record { num = vs; den = d }) (record { num = ws; den = e })
          (subst (λ n. IsElem k.ops n (record { num = vs; den = d })) n_is (is_elem p.n vs d vs_count vs_in d_in))
          (is_monic_elem vs d vs_poly d_monic)
          (subst (λ n. IsElem k.ops n (record { num = ws; den = e })) n_is (is_elem p.n ws e ws_count ws_in e_in))
          (is_monic_elem ws e ws_poly e_monic)).1 same

      pub functions_of_fractions : AreSameFractions k.ops vs d ws e
          → function_of k p (record { num = vs; den = d }) ≡ function_of k p (record { num = ws; den = e })
      functions_of_fractions same =
          (same_iff k p (record { num = vs; den = d }) (record { num = ws; den = e })
          (subst (λ n. IsElem k.ops n (record { num = vs; den = d })) n_is (is_elem p.n vs d vs_count vs_in d_in))
          (is_monic_elem vs d vs_poly d_monic)
          (subst (λ n. IsElem k.ops n (record { num = ws; den = e })) n_is (is_elem p.n ws e ws_count ws_in e_in))
          (is_monic_elem ws e ws_poly e_monic)).0 same

  -- over one denominator the numerators are the same
  pub numerators_same : (vs ws : List (List ℕ)) (d : List ℕ) → All (IsOver k.ops) vs → All IsPoly vs
      → All (IsOver k.ops) ws → All IsPoly ws → IsOver k.ops d → IsMonicList d → AreSameFractions k.ops vs d ws d
      → vs ≡ ws
  numerators_same vs ws d vs_in vs_poly ws_in ws_poly d_in d_monic same =
      values_same k vs ws vs_in ws_in vs_poly ws_poly
      (times_cancel P (value k d) (λ x y. cancel k (value k d) x y (monic_value k d d_in
      (monic_poly k d d_monic) d_monic))
      (values k vs) (values k ws) (same_values k d d vs ws d_in d_in vs_in ws_in same))

  -- many elements over one denominator
  module _ (p : PresValue) (some_n : 1 ≤ p.n) (d : List ℕ) (d_in : IsOver k.ops d) (d_monic : IsMonicList d) where
    -- numerators over e of the same functions, one after another
    pub record HasFractions (ws : List (List ℕ)) (e : List ℕ) : Type 0 where
      pub others : List (List ℕ)
      pub over : All (IsOver k.ops) others
      pub same : AreSameFractions k.ops ws d others e

    pub fractions_of_vectors : (e : List ℕ) (width : ℕ) → IsOver k.ops e → IsMonicList e → (count : ℕ)
        (ws : List (List ℕ)) (fs : List (Functions k p)) → length ws ≡ count * p.n → All (IsOver k.ops) ws
        → All IsPoly ws
        → map (function_of k p) (elems_in p.n count ws d) ≡ fs → All (HasVector k p e width) fs → HasFractions ws e
    fractions_of_vectors e width e_in e_monic zero ws fs long over poly is have = record {
      others = [];
      over = All-nil (IsOver k.ops);
      same = ap (map (product_of k.ops e)) (nil_from_length ws (long ∙ zero-mul p.n));
    }
    fractions_of_vectors e width e_in e_monic (suc count) ws [] long over poly is have =
        let l = ap length is in absurd (omega arith)
    fractions_of_vectors e width e_in e_monic (suc count) ws (f ∷ fs) long over poly is have =
        let l : p.n ≤ length ws = omega (arith, long, suc-mul count p.n) in
        let h = All-head (HasVector k p e width) f fs have in
        let first : function_of k p (record { num = take p.n ws; den = d }) ≡ f = cc in
        let others : map (function_of k p) (elems_in p.n count (drop p.n ws) d) ≡ fs = cc in
        let r = fractions_of_vectors e width e_in e_monic count (drop p.n ws) fs
        (length-drop p.n ws ∙ (omega (arith, long, suc-mul count p.n)))
        (All-drop (IsOver k.ops) p.n ws over) (All-drop IsPoly p.n ws poly) others
        (All-tail (HasVector k p e width) f fs have) in
        let vs = parts_of width p.n h.vector in
        let vs_in = parts_over width p.n h.vector h.over in
        record {
          others = vs ++ r.others;
          over = All-append (IsOver k.ops) vs r.others vs_in r.over;
          same =
              ap (map (product_of k.ops e)) (sym (take-append-drop p.n ws))
              ∙ map-append (product_of k.ops e) (take p.n ws) (drop p.n ws)
              ∙ ap₂ ◌++◌
              (fractions_of_functions p some_n (take p.n ws) vs d e (length-take-le p.n ws l)
              (All-take (IsOver k.ops) p.n ws over) (All-take IsPoly p.n ws poly) d_in d_monic
              (parts_count width p.n h.vector) vs_in (parts_poly width p.n h.vector) e_in e_monic (first ∙ h.is))
              r.same
              ∙ sym (map-append (product_of k.ops d) vs r.others);
        }

    -- numerators of functions with short vectors are short
    pub short_of_vectors : (width : ℕ) (count : ℕ) (ws : List (List ℕ)) (fs : List (Functions k p))
        → length ws ≡ count * p.n → All (IsOver k.ops) ws → All IsPoly ws
        → map (function_of k p) (elems_in p.n count ws d) ≡ fs → All (HasVector k p d width) fs → AreShort width ws
    short_of_vectors width zero ws fs long over poly is have =
        subst (AreShort width) (sym (nil_from_length ws (long ∙ zero-mul p.n))) (All-nil (λ w. length w ≤ width))
    short_of_vectors width (suc count) ws [] long over poly is have = let l = ap length is in absurd (omega arith)
    short_of_vectors width (suc count) ws (f ∷ fs) long over poly is have =
        let l : p.n ≤ length ws = omega (arith, long, suc-mul count p.n) in
        let h = All-head (HasVector k p d width) f fs have in
        let first : function_of k p (record { num = take p.n ws; den = d }) ≡ f = cc in
        let others : map (function_of k p) (elems_in p.n count (drop p.n ws) d) ≡ fs = cc in
        let vs = parts_of width p.n h.vector in
        let vs_in = parts_over width p.n h.vector h.over in
        let vs_poly = parts_poly width p.n h.vector in
        let t_in = All-take (IsOver k.ops) p.n ws over in
        let t_poly = All-take IsPoly p.n ws poly in
        let same : take p.n ws ≡ vs
        = numerators_same (take p.n ws) vs d t_in t_poly vs_in vs_poly d_in d_monic
        (fractions_of_functions p some_n (take p.n ws) vs d d (length-take-le p.n ws l) t_in t_poly d_in d_monic
        (parts_count width p.n h.vector) vs_in vs_poly d_in d_monic (first ∙ h.is)) in
        subst (AreShort width) (take-append-drop p.n ws)
        (All-append (λ w. length w ≤ width) (take p.n ws) (drop p.n ws)
        (subst (AreShort width) (sym same) (parts_short width p.n h.vector))
        (short_of_vectors width count (drop p.n ws) fs
        (length-drop p.n ws ∙ (omega (arith, long, suc-mul count p.n)))
        (All-drop (IsOver k.ops) p.n ws over) (All-drop IsPoly p.n ws poly) others
        (All-tail (HasVector k p d width) f fs have)))
