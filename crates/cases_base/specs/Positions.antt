-- Copies of the field, as an algebra: lists of codes multiplied position by position.
use Rattle.std.specs.Prelude.{◌≡◌, ℕ, zero, suc, ◌<◌, List, [], ◌∷◌, ◌++◌, length, get_or, take, replicate, refl}
use Rattle.std.proofs.Common.{sym, ap, ap₂, ◌∙◌, arith}
use Rattle.std.proofs.lemmas.List.{length-replicate}
use Rattle.ring_lemmas.specs.Lists.{add_lists, scale_list}
use Rattle.ff_fields.specs.Field.{FieldOps, CodeField}
use Rattle.ff_fields.specs.Code.{raw_ring}
use Rattle.ff_fields.specs.Over.{IsOver, IsOver_nil, IsOver_cons, IsOver_head, IsOver_tail, IsOver_replicate}
use Rattle.ff_falg.specs.Algebras.{AlgebraOps, IsAlgebra, IsVector}

-- the products of the codes at each position
abbrev pub by_positions : FieldOps → List ℕ → List ℕ → List ℕ
by_positions k [] ys = []
by_positions k (x ∷ xs) [] = []
by_positions k (x ∷ xs) (y ∷ ys) = k.mul x y ∷ by_positions k xs ys

-- one position more
pub positions_more : (k : FieldOps) (a b : List ℕ) (i : ℕ) → length a ≡ length b → i < length a
    → by_positions k (take i a) (take i b) ++ k.mul (get_or a i 0) (get_or b i 0) ∷ []
    ≡ by_positions k (take (suc i) a) (take (suc i) b)
positions_more k [] b i e less = absurd (omega arith)
positions_more k (x ∷ a) [] i e less = absurd (omega arith)
positions_more k (x ∷ a) (y ∷ b) zero e less = refl
positions_more k (x ∷ a) (y ∷ b) (suc i) e less = ap (λ w. k.mul x y ∷ w)
    (positions_more k a b i (omega arith) (omega arith))

-- n copies of the field
abbrev pub positions_algebra : ℕ → AlgebraOps
positions_algebra n = record { size = n; unit = replicate n 1; product = by_positions }

module _ (k : CodeField) where
  positions_in : (n : ℕ) (a b : List ℕ) → IsVector k.ops n a → IsVector k.ops n b
      → IsVector k.ops n (by_positions k.ops a b)
  positions_in zero [] b a_in b_in = record { size = refl; over = IsOver_nil }
  positions_in zero (x ∷ a) b a_in b_in = absurd (let e = a_in.size in omega arith)
  positions_in (suc n) [] b a_in b_in = absurd (let e = a_in.size in omega arith)
  positions_in (suc n) (x ∷ a) [] a_in b_in = absurd (let e = b_in.size in omega arith)
  positions_in (suc n) (x ∷ a) (y ∷ b) a_in b_in =
      let rest = positions_in n a b (record { size = let e = a_in.size in omega arith; over = IsOver_tail a_in.over })
      (record { size = let e = b_in.size in omega arith; over = IsOver_tail b_in.over }) in
      record {
        size = ap suc rest.size;
        over = IsOver_cons (k.laws.mul_below x y (IsOver_head a_in.over) (IsOver_head b_in.over)) rest.over;
      }

  positions_comm : (a b : List ℕ) → IsOver k.ops a → IsOver k.ops b → length a ≡ length b
      → by_positions k.ops a b ≡ by_positions k.ops b a
  positions_comm [] [] a_in b_in e = refl
  positions_comm [] (y ∷ b) a_in b_in e = refl
  positions_comm (x ∷ a) [] a_in b_in e = refl
  positions_comm (x ∷ a) (y ∷ b) a_in b_in e =
      ap₂ ◌∷◌ (k.laws.mul_comm x y (IsOver_head a_in) (IsOver_head b_in))
      (positions_comm a b (IsOver_tail a_in) (IsOver_tail b_in) (omega arith))

  positions_assoc : (a b c : List ℕ) → IsOver k.ops a → IsOver k.ops b → IsOver k.ops c
      → by_positions k.ops (by_positions k.ops a b) c ≡ by_positions k.ops a (by_positions k.ops b c)
  positions_assoc [] b c a_in b_in c_in = refl
  positions_assoc (x ∷ a) [] c a_in b_in c_in = refl
  positions_assoc (x ∷ a) (y ∷ b) [] a_in b_in c_in = refl
  positions_assoc (x ∷ a) (y ∷ b) (z ∷ c) a_in b_in c_in =
      ap₂ ◌∷◌ (k.laws.mul_assoc x y z (IsOver_head a_in) (IsOver_head b_in) (IsOver_head c_in))
      (positions_assoc a b c (IsOver_tail a_in) (IsOver_tail b_in) (IsOver_tail c_in))

  positions_one : (a : List ℕ) → IsOver k.ops a → by_positions k.ops (replicate (length a) 1) a ≡ a
  positions_one [] a_in = refl
  positions_one (x ∷ a) a_in = ap₂ ◌∷◌ (k.laws.one_mul x (IsOver_head a_in)) (positions_one a (IsOver_tail a_in))

  positions_sum : (a b c : List ℕ) → IsOver k.ops a → IsOver k.ops b → IsOver k.ops c → length b ≡ length c
      → by_positions k.ops a (add_lists (raw_ring k.ops) b c)
      ≡ add_lists (raw_ring k.ops) (by_positions k.ops a b) (by_positions k.ops a c)
  positions_sum [] b c a_in b_in c_in e = refl
  positions_sum (x ∷ a) [] [] a_in b_in c_in e = refl
  positions_sum (x ∷ a) [] (z ∷ c) a_in b_in c_in e = absurd (omega arith)
  positions_sum (x ∷ a) (y ∷ b) [] a_in b_in c_in e = absurd (omega arith)
  positions_sum (x ∷ a) (y ∷ b) (z ∷ c) a_in b_in c_in e =
      ap₂ ◌∷◌ (k.laws.mul_add x y z (IsOver_head a_in) (IsOver_head b_in) (IsOver_head c_in))
      (positions_sum a b c (IsOver_tail a_in) (IsOver_tail b_in) (IsOver_tail c_in) (omega arith))

  positions_scale : (d : ℕ) (a b : List ℕ) → d < k.size → IsOver k.ops a → IsOver k.ops b
      → by_positions k.ops (scale_list (raw_ring k.ops) d a) b ≡ scale_list (raw_ring k.ops) d (by_positions k.ops a b)
  positions_scale d [] b d_in a_in b_in = refl
  positions_scale d (x ∷ a) [] d_in a_in b_in = refl
  positions_scale d (x ∷ a) (y ∷ b) d_in a_in b_in =
      ap₂ ◌∷◌ (k.laws.mul_assoc d x y d_in (IsOver_head a_in) (IsOver_head b_in))
      (positions_scale d a b d_in (IsOver_tail a_in) (IsOver_tail b_in))

  pub positions_laws : (n : ℕ) → IsAlgebra k (positions_algebra n)
  positions_laws n = record {
    unit_in = record { size = length-replicate {A = ℕ} n 1; over = IsOver_replicate n k.laws.one_below };
    product_in = positions_in n;
    commutative = λ a b a_in b_in. positions_comm a b a_in.over b_in.over (a_in.size ∙ sym b_in.size);
    associative = λ a b c a_in b_in c_in. positions_assoc a b c a_in.over b_in.over c_in.over;
    unit_times = λ a a_in. ap (λ m. by_positions k.ops (replicate m 1) a) (sym a_in.size) ∙ positions_one a a_in.over;
    distributive = λ a b c a_in b_in c_in. positions_sum a b c a_in.over b_in.over c_in.over
        (b_in.size ∙ sym c_in.size);
    linear = λ d a b d_in a_in b_in. positions_scale d a b d_in a_in.over b_in.over;
  }
