-- Multiples by a term c·x^j, and what they stand for.
use Rattle.std.specs.Prelude.{◌≡◌, ℕ, ◌<◌, List, [], ◌∷◌, ◌++◌, replicate}
use Rattle.std.proofs.Common.{sym, ap, ap₂, ◌∙◌}
use Rattle.ff_fields.specs.Field.{FieldOps, CodeField}
use Rattle.ff_fields.specs.Code.{raw_ring, code_ring}
use Rattle.ff_fields.specs.Numbers.{read, numbers_read, numbers_neg, numbers_add}
use Rattle.ff_fields.specs.Over.{IsOver, IsOver_nil, IsOver_cons, IsOver_append, IsOver_zeros}
use Rattle.ring_lemmas.specs.Lists.{add_lists, neg_list}
use Rattle.ring_lemmas.proofs.Lists.{coeff_add, coeff_neg, coeff_trim}
use Rattle.ring_theory.specs.PolynomialRing.{pol_ring}
use Rattle.ring_lemmas.proofs.Polynomials.{same_pol, series_add, series_neg}
use Rattle.ff_poly.specs.Words.{IsPoly, poly_of, difference_of, product_of}
use Rattle.ff_poly.specs.PolyOver.{IsOver_difference_of, IsOver_product_of, IsPoly_poly_of}
use Rattle.ff_poly.specs.Value.{value, value_product, series_value}

-- c·x^j, perhaps with zeros on top
abbrev pub term : ℕ → ℕ → List ℕ
term c j = replicate j 0 ++ c ∷ []

-- a less c·x^j times b
abbrev pub less_multiple : FieldOps → List ℕ → ℕ → ℕ → List ℕ → List ℕ
less_multiple k a c j b = difference_of k a (product_of k (term c j) b)

pub IsPoly_less_multiple : (k : FieldOps) (a : List ℕ) (c j : ℕ) (b : List ℕ) → IsPoly (less_multiple k a c j b)
IsPoly_less_multiple k a c j b = IsPoly_poly_of
    (add_lists (raw_ring k) a (neg_list (raw_ring k) (product_of k (term c j) b)))

module _ (k : CodeField) where
  pub IsOver_term : (c j : ℕ) → c < k.size → IsOver k.ops (term c j)
  IsOver_term c j c_in = IsOver_append (IsOver_zeros k j) (IsOver_cons c_in IsOver_nil)

  pub IsOver_less_multiple : (a : List ℕ) (c j : ℕ) (b : List ℕ) → IsOver k.ops a → c < k.size → IsOver k.ops b
      → IsOver k.ops (less_multiple k.ops a c j b)
  IsOver_less_multiple a c j b a_in c_in b_in = IsOver_difference_of k a_in
      (IsOver_product_of k (IsOver_term c j c_in) b_in)

  pub value_difference : (a b : List ℕ) → IsOver k.ops a → IsOver k.ops b
      → value k (difference_of k.ops a b) ≡ (pol_ring (code_ring k)).◌⊕◌ (value k a)
      ((pol_ring (code_ring k)).⊖◌ (value k b))
  value_difference a b a_in b_in =
      let K = code_ring k in
      let xs = read k a in
      let ys = read k b in
      ap (λ ns. value k (poly_of ns))
      (ap₂ (add_lists (raw_ring k.ops)) (sym (numbers_read k a a_in))
      (ap (neg_list (raw_ring k.ops)) (sym (numbers_read k b b_in)) ∙ sym (numbers_neg k ys))
      ∙ sym (numbers_add k xs (neg_list K.ops ys)))
      ∙ same_pol K _ _ (λ n.
      series_value k (add_lists K.ops xs (neg_list K.ops ys)) n
      ∙ coeff_add K xs (neg_list K.ops ys) n
      ∙ ap₂ K.◌⊕◌ (sym (coeff_trim K xs n))
      (coeff_neg K ys n ∙ ap K.⊖◌ (sym (coeff_trim K ys n)) ∙ sym (series_neg K (value k b) n))
      ∙ sym (series_add K (value k a) ((pol_ring K).⊖◌ (value k b)) n))

  pub value_less_multiple : (a : List ℕ) (c j : ℕ) (b : List ℕ) → IsOver k.ops a → c < k.size → IsOver k.ops b
      → value k (less_multiple k.ops a c j b)
      ≡ (pol_ring (code_ring k)).◌⊕◌ (value k a)
      ((pol_ring (code_ring k)).⊖◌ ((pol_ring (code_ring k)).◌⊗◌ (value k (term c j)) (value k b)))
  value_less_multiple a c j b a_in c_in b_in =
      let S = pol_ring (code_ring k) in
      let t_in = IsOver_term c j c_in in
      value_difference a (product_of k.ops (term c j) b) a_in (IsOver_product_of k t_in b_in)
      ∙ ap (λ w. S.◌⊕◌ (value k a) (S.⊖◌ w)) (value_product k (term c j) b t_in b_in)
