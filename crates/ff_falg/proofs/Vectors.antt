-- The vectors of an algebra as a ring.
use Rattle.std.proofs.Common.{◌≡◌, ◌≢◌, ℕ, zero, suc, ◌<◌, List, [], ◌∷◌, get_or, replicate, refl, sym, ap, ap₂, ◌∙◌, subst, arith}
use Rattle.std.proofs.Math.Bridge.{le_prop}
use Rattle.std.proofs.lemmas.List.{length-replicate}
use native.Mathlib.Nat.{ℕ_set}
use native.Mathlib.Decide.{ℕ_discrete}
use mathlib.Core.HLevel.{Σ_prop_path}
use mathlib.Core.List.{is_set}
use Rattle.ring_lemmas.specs.Ring.{Operations, CommRing, pow}
use Rattle.ring_lemmas.specs.Lists.{add_lists, neg_list, scale_list}
use Rattle.ring_lemmas.proofs.Lists.{length_add_lists, length_scale_list, length_neg_list}
use Rattle.ff_fields.specs.Field.{FieldOps, CodeField}
use Rattle.ff_fields.specs.Code.{raw_ring}
use Rattle.ff_fields.specs.Over.{IsOver_cons, IsOver_add, IsOver_neg, IsOver_scale, IsOver_zeros}
use Rattle.ff_falg.specs.Algebras.{AlgebraOps, IsAlgebra, IsVector, power}
use Rattle.ff_falg.proofs.Lists.{lists_comm, lists_assoc, lists_zero, lists_neg}

-- the lists of n codes of the field
abbrev pub Vector : CodeField → ℕ → Type 0
Vector k n = (v : List ℕ) × IsVector k.ops n v

vector_prop : (k : FieldOps) (n : ℕ) (v : List ℕ) → IsProp (IsVector k n v)
vector_prop k n v = hlevel (is_set, ℕ_set, le_prop)

module _ (k : CodeField) (n : ℕ) where
  pub same_vector : (x y : Vector k n) → x.0 ≡ y.0 → x ≡ y
  same_vector x y e = Σ_prop_path (λ v. vector_prop k.ops n v) e

  pub vector_set : IsSet (Vector k n)
  vector_set = hlevel (is_set, ℕ_set, le_prop)

  pub zeros_in : IsVector k.ops n (replicate n 0)
  zeros_in = record { size = length-replicate {A = ℕ} n 0; over = IsOver_zeros k n }

  pub sum_in : (x y : List ℕ) → IsVector k.ops n x → IsVector k.ops n y
      → IsVector k.ops n (add_lists (raw_ring k.ops) x y)
  sum_in x y x_in y_in = record {
    size = length_add_lists (raw_ring k.ops) x y (let a = x_in.size in let b = y_in.size in omega arith) ∙ x_in.size;
    over = IsOver_add k x y x_in.over y_in.over;
  }

  pub neg_in : (x : List ℕ) → IsVector k.ops n x → IsVector k.ops n (neg_list (raw_ring k.ops) x)
  neg_in x x_in = record { size = length_neg_list (raw_ring k.ops) x ∙ x_in.size; over = IsOver_neg k x x_in.over }

  pub multiple_in : (c : ℕ) (x : List ℕ) → c < k.size → IsVector k.ops n x
      → IsVector k.ops n (scale_list (raw_ring k.ops) c x)
  multiple_in c x c_in x_in = record {
    size = length_scale_list (raw_ring k.ops) c x
        ∙ x_in.size;
    over = IsOver_scale k c x c_in x_in.over;
  }

  list_discrete : (xs ys : List ℕ) → Dec (xs ≡ ys)
  list_discrete [] [] = yes refl
  list_discrete [] (y ∷ ys) = no (λ e. (cc))
  list_discrete (x ∷ xs) [] = no (λ e. (cc))
  list_discrete (x ∷ xs) (y ∷ ys) = go (ℕ_discrete x y) (list_discrete xs ys)
    where
      go : Dec (x ≡ y) → Dec (xs ≡ ys) → Dec ((x ∷ xs) ≡ (y ∷ ys))
      go (yes e) (yes f) = yes (ap₂ ◌∷◌ e f)
      go (yes e) (no n) = no (λ s. n (cc))
      go (no n) d = no (λ s. n (cc))

  pub vector_discrete : (x y : Vector k n) → Dec (x ≡ y)
  vector_discrete x y = go (list_discrete x.0 y.0)
    where
      go : Dec (x.0 ≡ y.0) → Dec (x ≡ y)
      go (yes e) = yes (same_vector x y e)
      go (no n) = no (λ e. n (ap (λ v. v.0) e))

-- in dimension 1 and above some vector is not 0
pub some_vector : (k : CodeField) (n : ℕ) → 0 < n → (x : Vector k n) × (x.0 ≢ replicate n 0)
some_vector k zero some = absurd (omega arith)
some_vector k (suc n) some = (
  (
    1 ∷ replicate n 0,
    record {
      size = ap suc (length-replicate {A = ℕ} n 0);
      over = IsOver_cons k.laws.one_below (IsOver_zeros k n);
    },
  ),
  (λ e. one_zero 1 0 refl refl (ap (λ v. get_or v 0 0) e)),
)
  where
    one_zero : (x y : ℕ) → x ≡ 1 → y ≡ 0 → x ≡ y → ⊥
    one_zero x y e f g = omega arith

module _ (k : CodeField) (A : AlgebraOps) (law : IsAlgebra k A) where
  abbrev pub vector_ops : Operations (Vector k A.size)
  vector_ops = record {
    𝟘 = (replicate A.size 0, zeros_in k A.size);
    𝟙 = (A.unit, law.unit_in);
    ◌⊕◌ = λ x y. (add_lists (raw_ring k.ops) x.0 y.0, sum_in k A.size x.0 y.0 x.1 y.1);
    ◌⊗◌ = λ x y. (A.product k.ops x.0 y.0, law.product_in x.0 y.0 x.1 y.1);
    ⊖◌ = λ x. (neg_list (raw_ring k.ops) x.0, neg_in k A.size x.0 x.1);
  }

  pub same : (x y : Vector k A.size) → x.0 ≡ y.0 → x ≡ y
  same = same_vector k A.size

  pub add_zeros : (x : Vector k A.size) → add_lists (raw_ring k.ops) x.0 (replicate A.size 0) ≡ x.0
  add_zeros x = ap (λ n. add_lists (raw_ring k.ops) x.0 (replicate n 0)) (sym x.1.size) ∙ lists_zero k x.0 x.1.over

  -- the ring of the vectors
  abbrev pub vector_ring : CommRing (Vector k A.size)
  vector_ring = record {
    ops = vector_ops;
    is_set = vector_set k A.size;
    add_assoc = λ x y z. same _ _ (lists_assoc k x.0 y.0 z.0 x.1.over y.1.over z.1.over);
    add_comm = λ x y. same _ _ (lists_comm k x.0 y.0 x.1.over y.1.over);
    add_zero = λ x. same _ _ (add_zeros x);
    add_neg = λ x. same _ _ (lists_neg k x.0 x.1.over ∙ ap (λ n. replicate n 0) x.1.size);
    mul_assoc = λ x y z. same _ _ (law.associative x.0 y.0 z.0 x.1 y.1 z.1);
    mul_comm = λ x y. same _ _ (law.commutative x.0 y.0 x.1 y.1);
    mul_one = λ x. same _ _ (law.commutative x.0 A.unit x.1 law.unit_in ∙ law.unit_times x.0 x.1);
    mul_add = λ x y z. same _ _ (law.distributive x.0 y.0 z.0 x.1 y.1 z.1);
  }

  -- powers of lists are those of vectors
  pub power_value : (x : Vector k A.size) (e : ℕ) → (pow vector_ops x e).0 ≡ power k.ops A x.0 e
  power_value x zero = refl
  power_value x (suc e) = ap (A.product k.ops x.0) (power_value x e)

  pub power_in : (x : List ℕ) (e : ℕ) → IsVector k.ops A.size x → IsVector k.ops A.size (power k.ops A x e)
  power_in x e x_in = subst (IsVector k.ops A.size) (power_value (x, x_in) e) (pow vector_ops (x, x_in) e).1
