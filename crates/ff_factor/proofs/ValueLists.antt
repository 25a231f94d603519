-- What lists of lists of codes stand for, and back.
use Rattle.std.proofs.Common.{◌≡◌, ℕ, ◌<◌, List, [], ◌∷◌, map, All, refl, sym, ap, ap₂, ◌∙◌}
use Rattle.std.proofs.lemmas.List.Elements.{All-nil, All-cons, All-head, All-tail}
use Rattle.ff_fields.specs.Field.{CodeField}
use Rattle.ff_fields.specs.Over.{IsOver}
use Rattle.ff_poly.specs.Words.{IsPoly, product_of, multiple_of}
use Rattle.ff_poly.specs.PolyOver.{IsOver_product_of, IsOver_multiple_of}
use Rattle.ff_poly.specs.Value.{value, numbers_value, value_product}
use Rattle.ff_poly.specs.Polynomials.{Polynomial, polynomials, constant_poly, codes_of, value_codes_of, IsOver_codes_of}
use Rattle.ff_poly.proofs.Parts.{IsPoly_product_of, IsPoly_multiple_of, value_multiple}
use Rattle.ff_factor.specs.Reductions.{values}
use Rattle.ff_factor.proofs.CommonFactors.{times}

module _ (k : CodeField) where
  infixl 70 ◌⊗◌
  open polynomials k use {◌⊗◌}

  values_products : (a : List ℕ) (vs : List (List ℕ)) → IsOver k.ops a → All (IsOver k.ops) vs
      → values k (map (product_of k.ops a) vs) ≡ times (polynomials k).ring (value k a) (values k vs)
  values_products a [] a_in vs_in = refl
  values_products a (v ∷ vs) a_in vs_in =
      ap₂ ◌∷◌ (value_product k a v a_in (All-head (IsOver k.ops) v vs vs_in))
      (values_products a vs a_in (All-tail (IsOver k.ops) v vs vs_in))

  -- equal products of lists have equal values
  pub same_values : (a b : List ℕ) (vs ws : List (List ℕ)) → IsOver k.ops a → IsOver k.ops b → All (IsOver k.ops) vs
      → All (IsOver k.ops) ws
      → map (product_of k.ops a) vs ≡ map (product_of k.ops b) ws
      → times (polynomials k).ring (value k a) (values k vs) ≡ times (polynomials k).ring (value k b) (values k ws)
  same_values a b vs ws a_in b_in vs_in ws_in e =
      sym (values_products a vs a_in vs_in) ∙ ap (values k) e ∙ values_products b ws b_in ws_in

  codes_products : (a : List ℕ) (vs : List (List ℕ)) → IsOver k.ops a → All (IsOver k.ops) vs
      → map (codes_of k) (times (polynomials k).ring (value k a) (values k vs)) ≡ map (product_of k.ops a) vs
  codes_products a [] a_in vs_in = refl
  codes_products a (v ∷ vs) a_in vs_in =
      let v_in = All-head (IsOver k.ops) v vs vs_in in
      ap₂ ◌∷◌
      (ap (codes_of k) (sym (value_product k a v a_in v_in))
      ∙ numbers_value k (product_of k.ops a v) (IsOver_product_of k a_in v_in) (IsPoly_product_of k.ops a v))
      (codes_products a vs a_in (All-tail (IsOver k.ops) v vs vs_in))

  -- and the other way round
  pub same_products : (a b : List ℕ) (vs ws : List (List ℕ)) → IsOver k.ops a → IsOver k.ops b → All (IsOver k.ops) vs
      → All (IsOver k.ops) ws
      → times (polynomials k).ring (value k a) (values k vs) ≡ times (polynomials k).ring (value k b) (values k ws)
      → map (product_of k.ops a) vs ≡ map (product_of k.ops b) ws
  same_products a b vs ws a_in b_in vs_in ws_in e =
      sym (codes_products a vs a_in vs_in) ∙ ap (map (codes_of k)) e ∙ codes_products b ws b_in ws_in

  codes_values : (vs : List (List ℕ)) → All (IsOver k.ops) vs → All IsPoly vs → map (codes_of k) (values k vs) ≡ vs
  codes_values [] vs_in vs_poly = refl
  codes_values (v ∷ vs) vs_in vs_poly =
      ap₂ ◌∷◌ (numbers_value k v (All-head (IsOver k.ops) v vs vs_in) (All-head IsPoly v vs vs_poly))
      (codes_values vs (All-tail (IsOver k.ops) v vs vs_in) (All-tail IsPoly v vs vs_poly))

  -- lists that stand for the same are the same
  pub values_same : (vs ws : List (List ℕ)) → All (IsOver k.ops) vs → All (IsOver k.ops) ws → All IsPoly vs
      → All IsPoly ws → values k vs ≡ values k ws → vs ≡ ws
  values_same vs ws vs_in ws_in vs_poly ws_poly e = sym (codes_values vs vs_in vs_poly) ∙ ap (map (codes_of k)) e
      ∙ codes_values ws ws_in ws_poly

  -- each polynomial has a list
  pub values_codes : (xs : List (Polynomial k)) → values k (map (codes_of k) xs) ≡ xs
  values_codes [] = refl
  values_codes (x ∷ xs) = ap₂ ◌∷◌ (value_codes_of k x) (values_codes xs)

  pub over_codes : (xs : List (Polynomial k)) → All (IsOver k.ops) (map (codes_of k) xs)
  over_codes [] = All-nil (IsOver k.ops)
  over_codes (x ∷ xs) = All-cons (IsOver k.ops) (codes_of k x) (map (codes_of k) xs) (IsOver_codes_of k x)
      (over_codes xs)

  -- multiples by a code
  pub values_multiples : (c : ℕ) (vs : List (List ℕ)) → c < k.size → All (IsOver k.ops) vs
      → values k (map (λ v. multiple_of k.ops v c) vs) ≡ times (polynomials k).ring (constant_poly k c) (values k vs)
  values_multiples c [] c_in vs_in = refl
  values_multiples c (v ∷ vs) c_in vs_in =
      ap₂ ◌∷◌ (value_multiple k v c (All-head (IsOver k.ops) v vs vs_in) c_in)
      (values_multiples c vs c_in (All-tail (IsOver k.ops) v vs vs_in))

  pub over_multiples : (c : ℕ) (vs : List (List ℕ)) → c < k.size → All (IsOver k.ops) vs
      → All (IsOver k.ops) (map (λ v. multiple_of k.ops v c) vs)
  over_multiples c [] c_in vs_in = All-nil (IsOver k.ops)
  over_multiples c (v ∷ vs) c_in vs_in =
      All-cons (IsOver k.ops) _ _ (IsOver_multiple_of k (All-head (IsOver k.ops) v vs vs_in) c_in)
      (over_multiples c vs c_in (All-tail (IsOver k.ops) v vs vs_in))

  pub poly_multiples : (c : ℕ) (vs : List (List ℕ)) → All IsPoly (map (λ v. multiple_of k.ops v c) vs)
  poly_multiples c [] = All-nil IsPoly
  poly_multiples c (v ∷ vs) = All-cons IsPoly _ _ (IsPoly_multiple_of k.ops v c) (poly_multiples c vs)
