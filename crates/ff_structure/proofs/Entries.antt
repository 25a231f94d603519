-- The products of the entries of two vectors.
use Rattle.std.proofs.Common.{◌≡◌, ℕ, zero, suc, ◌+◌, ◌*◌, ◌<◌, ◌≤◌, List, [], ◌∷◌, ◌++◌, length, get_or, take, map, refl, sym, ap, ap₂, ◌∙◌, arith, add-one, append_assoc, length-append}
use Rattle.std.proofs.lemmas.List.{length-map, append-nil}
use Rattle.ff_fields.specs.Field.{FieldOps, CodeField}
use Rattle.ff_fields.specs.Over.{IsOver, IsOver_nil, IsOver_cons, IsOver_head, IsOver_tail, IsOver_append}
use Rattle.ff_structure.specs.Structures.{entry_products}

entries_more : (k : FieldOps) (a b : List ℕ) (i : ℕ) → i < length a
    → entry_products k (take (suc i) a) b ≡ entry_products k (take i a) b ++ map (k.mul (get_or a i 0)) b
entries_more k [] b i less = absurd (omega arith)
entries_more k (x ∷ a) b zero less = append-nil (map (k.mul x) b)
entries_more k (x ∷ a) b (suc i) less =
    ap (λ w. map (k.mul x) b ++ w) (entries_more k a b i (omega arith))
    ∙ sym (append_assoc (map (k.mul x) b) (entry_products k (take i a) b) (map (k.mul (get_or a i 0)) b))

-- the products by one entry more
pub entries_step : (k : FieldOps) (a b old new : List ℕ) (i x : ℕ) → i < length a → x ≡ get_or a i 0
    → old ≡ entry_products k (take i a) b → new ≡ old ++ map (k.mul x) b → new ≡ entry_products k (take (i + 1) a) b
entries_step k a b old new i x less x_is old_is new_is =
    new_is ∙ ap₂ (λ u y. u ++ map (k.mul y) b) old_is x_is ∙ sym (entries_more k a b i less)
    ∙ ap (λ j. entry_products k (take j a) b) (sym (add-one i))

pub length_entries : (k : FieldOps) (a b : List ℕ) → length (entry_products k a b) ≡ length a * length b
length_entries k [] b = none (length b)
  where
    none : (n : ℕ) → 0 ≡ 0 * n
    none n = omega arith
length_entries k (x ∷ a) b =
    length-append (map (k.mul x) b) (entry_products k a b)
    ∙ ap₂ (λ u w. u + w) (length-map b (k.mul x)) (length_entries k a b) ∙ more (length a) (length b)
  where
    more : (m n : ℕ) → n + m * n ≡ suc m * n
    more m n = grind arith

module _ (k : CodeField) where
  multiples_in : (x : ℕ) (b : List ℕ) → x < k.size → IsOver k.ops b → IsOver k.ops (map (k.mul x) b)
  multiples_in x [] x_in b_in = b_in
  multiples_in x (y ∷ b) x_in b_in =
      IsOver_cons (k.laws.mul_below x y x_in (IsOver_head b_in)) (multiples_in x b x_in (IsOver_tail b_in))

  pub entries_in : (a b : List ℕ) → IsOver k.ops a → IsOver k.ops b → IsOver k.ops (entry_products k.ops a b)
  entries_in [] b a_in b_in = a_in
  entries_in (x ∷ a) b a_in b_in =
      IsOver_append (multiples_in x b (IsOver_head a_in) b_in) (entries_in a b (IsOver_tail a_in) b_in)
