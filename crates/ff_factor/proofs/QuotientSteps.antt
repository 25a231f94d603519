-- Steps of the loop that multiplies modulo a polynomial.
use Rattle.std.proofs.Common.{◌≡◌, ℕ, suc, ◌+◌, ◌-◌, ◌<◌, ◌≤◌, List, [], ◌∷◌, ◌++◌, length, get_or, take, drop, set, replicate, sym, ap, ap₂, ◌∙◌, arith}
use Rattle.std.proofs.lemmas.List.{drop_more, drop_all, take_at}
use Rattle.ring_lemmas.specs.Lists.{add_lists, scale_list}
use Rattle.ring_lemmas.proofs.Ring.{zero_mul}
use Rattle.ring_lemmas.proofs.Congruence.{congruent_same, congruent_trans}
use Rattle.ff_fields.specs.Field.{FieldOps, CodeField}
use Rattle.ff_fields.specs.Code.{raw_ring}
use Rattle.ff_fields.specs.Over.{IsOver_zeros}
use Rattle.ff_poly.specs.Value.{value}
use Rattle.ff_poly.specs.Polynomials.{polynomials}
use Rattle.ff_falg.specs.Algebras.{IsVector}
use Rattle.ff_factor.specs.Quotients.{IsModulus, times_x, product_modulo}
use Rattle.polynomial_theory.proofs.ListValues.{value_zeros}
use Rattle.ff_factor.specs.QuotientLaws.{product_in, value_product_modulo, zero_class}

-- a list that is turned by one position, whose first code is then made 0
turned : (v : List ℕ) (m : ℕ) → length v ≡ suc m → set (drop m v ++ take m v) 0 0 ≡ take (suc m) (0 ∷ v)
turned v m size = go (drop m v) (drop_more v m 0 (omega arith)
    ∙ ap (λ w. get_or v m 0 ∷ w) (drop_all (m + 1) v (omega arith)))
  where
    go : (w : List ℕ) → w ≡ get_or v m 0 ∷ [] → set (w ++ take m v) 0 0 ≡ take (suc m) (0 ∷ v)
    go w e = ap (λ u. set (u ++ take m v) 0 0) e

turned_top : (v : List ℕ) (m : ℕ) → length v ≡ suc m → get_or (drop m v ++ take m v) 0 0 ≡ get_or v m 0
turned_top v m size =
    ap (λ w. get_or (w ++ take m v) 0 0)
    (drop_more v m 0 (omega arith) ∙ ap (λ w. get_or v m 0 ∷ w) (drop_all (m + 1) v (omega arith)))

pub times_x_of_turned : (k : FieldOps) (g v turned_v low new : List ℕ) (top : ℕ) → 0 < length v
    → length v ≡ length g - 1
    → turned_v ≡ drop (length v - 1) v ++ take (length v - 1) v → top ≡ get_or turned_v 0 0
    → low ≡ take (length g - 1) g
    → new ≡ add_lists (raw_ring k) (set turned_v 0 0) (scale_list (raw_ring k) (k.neg top) low) → new ≡ times_x k g v
times_x_of_turned k g v turned_v low new top some size turned_is top_is low_is new_is =
    let m = length v - 1 in
    let s : length v ≡ suc (length v - 1) = omega arith in
    let n : suc (length v - 1) ≡ length g - 1 = omega arith in
    let e : length v - 1 ≡ length g - 1 - 1 = omega arith in
    new_is
    ∙ ap₂ (add_lists (raw_ring k))
    (ap (λ w. set w 0 0) turned_is ∙ turned v m s ∙ ap (λ i. take i (0 ∷ v)) n)
    (ap₂ (λ t w. scale_list (raw_ring k) (k.neg t) w)
    (top_is ∙ ap (λ w. get_or w 0 0) turned_is ∙ turned_top v m s ∙ ap (λ i. get_or v i 0) e) low_is)

-- one turn of the loop
pub product_step : (k : FieldOps) (g a b old moved new : List ℕ) (i : ℕ) (c : ℕ) → i < length a
    → old ≡ product_modulo k g (drop (i + 1) a) b → moved ≡ times_x k g old → c ≡ get_or a i 0
    → new ≡ add_lists (raw_ring k) moved (scale_list (raw_ring k) c b) → new ≡ product_modulo k g (drop i a) b
product_step k g a b old moved new i c less old_is moved_is c_is new_is =
    new_is
    ∙ ap₂ (λ v d. add_lists (raw_ring k) v (scale_list (raw_ring k) d b)) (moved_is ∙ ap (times_x k g) old_is) c_is
    ∙ sym (ap (λ w. product_modulo k g w b) (drop_more a i 0 less))

-- zeros alone give the product 0
pub product_of_zeros : (k : CodeField) (g : List ℕ) (h : IsModulus k.ops g) (m : ℕ) (b : List ℕ)
    → IsVector k.ops (length g - 1) b
    → product_modulo k.ops g (replicate m 0) b ≡ replicate (length g - 1) 0
product_of_zeros k g h m b b_in =
    let zeros_over = IsOver_zeros k m in
    let S = (polynomials k).ring in
    (zero_class k g h _ (product_in k g h (replicate m 0) b zeros_over b_in)).1
    (congruent_trans S (value k g) _ _ _ (value_product_modulo k g h (replicate m 0) b zeros_over b_in)
    (congruent_same S (value k g) _ _ (ap (λ w. (polynomials k).◌⊗◌ w (value k b)) (value_zeros k m)
    ∙ zero_mul S (value k b))))

-- one zero more at the end of a list
pub zeros_step : (xs : List ℕ) (i : ℕ) → 0 < i → i ≤ length xs → get_or xs (i - 1) 0 ≡ 0
    → drop i xs ≡ replicate (length xs - i) 0
    → drop (i - 1) xs ≡ replicate (length xs - (i - 1)) 0
zeros_step xs i some le zero_is zeros =
    let back : i - 1 + 1 ≡ i = omega arith in
    let more : suc (length xs - i) ≡ length xs - (i - 1) = omega arith in
    drop_more xs (i - 1) 0 (omega arith) ∙ ap₂ ◌∷◌ zero_is (ap (λ m. drop m xs) back ∙ zeros)
    ∙ ap (λ m. replicate m 0) more

-- a vector whose codes were written over, as a whole
pub written : (now rest : List ℕ) (n : ℕ) → length now ≡ n → take n (now ++ rest) ≡ now
written now rest n size = take_at now rest n size
