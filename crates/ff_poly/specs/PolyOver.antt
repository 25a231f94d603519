-- The words of contracts stay over the field, and have no zero on top.
use Rattle.std.specs.Prelude.{ℕ, ◌<◌, List}
use Rattle.ff_fields.specs.Field.{CodeField}
use Rattle.ff_fields.specs.Code.{raw_ring, is_zero_code}
use Rattle.ring_lemmas.specs.Lists.{add_lists, neg_list, scale_list, mul_lists, IsTrimmed_trim}
use Rattle.ff_fields.specs.Over.{IsOver, IsOver_trim, IsOver_add, IsOver_neg, IsOver_scale, IsOver_mul}
use Rattle.ff_poly.specs.Words.{IsPoly, poly_of, sum_of, difference_of, multiple_of, product_of}

pub IsPoly_poly_of : (codes : List ℕ) → IsPoly (poly_of codes)
IsPoly_poly_of codes = record { trimmed = IsTrimmed_trim is_zero_code codes }

module _ (k : CodeField) where
  pub IsOver_sum_of : {a b : List ℕ} → IsOver k.ops a → IsOver k.ops b → IsOver k.ops (sum_of k.ops a b)
  IsOver_sum_of {a = a} {b = b} a_in b_in = IsOver_trim (add_lists (raw_ring k.ops) a b) (IsOver_add k a b a_in b_in)

  pub IsOver_difference_of : {a b : List ℕ} → IsOver k.ops a → IsOver k.ops b → IsOver k.ops (difference_of k.ops a b)
  IsOver_difference_of {a = a} {b = b} a_in b_in =
      IsOver_trim (add_lists (raw_ring k.ops) a (neg_list (raw_ring k.ops) b))
      (IsOver_add k a (neg_list (raw_ring k.ops) b) a_in (IsOver_neg k b b_in))

  pub IsOver_multiple_of : {a : List ℕ} {c : ℕ} → IsOver k.ops a → c < k.size → IsOver k.ops (multiple_of k.ops a c)
  IsOver_multiple_of {a = a} {c = c} a_in c_in = IsOver_trim (scale_list (raw_ring k.ops) c a)
      (IsOver_scale k c a c_in a_in)

  pub IsOver_product_of : {a b : List ℕ} → IsOver k.ops a → IsOver k.ops b → IsOver k.ops (product_of k.ops a b)
  IsOver_product_of {a = a} {b = b} a_in b_in = IsOver_trim (mul_lists (raw_ring k.ops) a b)
      (IsOver_mul k a b a_in b_in)
