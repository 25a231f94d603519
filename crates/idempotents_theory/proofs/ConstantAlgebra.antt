-- The structure constants of a basis of the constants give an algebra, whose vectors are the constants.
use Rattle.std.proofs.Common.{◌≡◌, ℕ, suc, ◌<◌, ◌+◌, ◌*◌, List, [], ◌∷◌, length, map, replicate, All, refl, sym, ap, ap₂, ◌∙◌, subst, arith, length-append}
use Rattle.std.proofs.lemmas.List.{length-map}
use Rattle.std.proofs.lemmas.List.Elements.{All-head, All-tail}
use Rattle.ring_lemmas.specs.Ring.{CommRing}
use Rattle.ring_lemmas.specs.Lists.{add_lists, scale_list}
use Rattle.ring_lemmas.proofs.Ring.{one_mul}
use Rattle.ring_theory.specs.Subsets.{products}
use Rattle.ff_fields.specs.Field.{CodeField}
use Rattle.ff_fields.specs.Code.{raw_ring}
use Rattle.ff_poly.specs.Polynomials.{polynomials}
use Rattle.function_field.specs.Discriminant.{discriminant}
use Rattle.function_field.specs.Divisors.{IsConstant, IsSpaceBasis}
use Rattle.function_field.specs.Functions.{Equation, FunctionOf, ring_of, setting_of}
use Rattle.function_field.specs.Spans.{combination}
use Rattle.linear_theory.specs.Module.{combination as row_combination}
use Rattle.ff_linalg.specs.Space.{row_ops}
use Rattle.ff_falg.specs.Algebras.{AlgebraOps, IsVector, IsAlgebra}
use Rattle.ff_falg.proofs.RowSteps.{combination_in}
use Rattle.ff_falg.proofs.Vectors.{zeros_in, sum_in, multiple_in}
use Rattle.ff_structure.specs.Structures.{StructureValue, IsStructure, entry_products, structure_algebra, table_product}
use Rattle.ff_structure.specs.Idempotents.{IsProperIdempotentVector}
use Rattle.ff_structure.proofs.Entries.{entries_in}
use Rattle.divisor_theory.proofs.Constants.{code_on_both, constants_are}
use Rattle.constants_theory.specs.Idempotents.{IsProperIdempotentOf}
use Rattle.constants_theory.proofs.ConstantSpace.{constants_ring, idempotent_constant}
use Rattle.idempotents_theory.specs.Coordinates.{code_function, function_at, IsStructureOf, AreConstants, HaveSameIdempotents}
use Rattle.idempotents_theory.proofs.CodeFunctions.{code_function_in}
use Rattle.idempotents_theory.proofs.Coordinates.{at_zero, at_sum, at_multiple, at_combination, times_all, coordinates, coordinates_once}

length_products : {E : Type 0} (R : CommRing E) (gs bs : List E) → length (products R.ops gs bs) ≡ length gs * length bs
length_products R [] bs = none (length bs)
  where
    none : (n : ℕ) → 0 ≡ 0 * n
    none n = omega arith
length_products R (a ∷ gs) bs =
    length-append (map (R.◌⊗◌ a) bs) (products R.ops gs bs)
    ∙ ap₂ (λ u w. u + w) (length-map bs (R.◌⊗◌ a)) (length_products R gs bs) ∙ more (length gs) (length bs)
  where
    more : (m n : ℕ) → n + m * n ≡ suc m * n
    more m n = grind arith

-- the structure's product on vectors of n codes
abbrev algebra_at : StructureValue → ℕ → AlgebraOps
algebra_at s n = record {
  size = n;
  unit = s.one;
  product = λ k v w. row_combination (row_ops k n) (entry_products k v w) s.table;
}

module _ {k : CodeField} (c : Equation k) (some : ¬ (discriminant c ≡ (polynomials k).𝟘)) (bs : List (FunctionOf c))
    (basis : IsSpaceBasis (setting_of c) (IsConstant (setting_of c)) bs) (s : StructureValue)
    (h : IsStructureOf c bs s) where
  infixl 65 ◌⊕◌
  infixl 70 ◌⊗◌
  open ring_of c use {𝟘, 𝟙, ◌⊕◌, ◌⊗◌}

  abbrev F : CommRing (FunctionOf c)
  F = ring_of c

  abbrev at : List ℕ → FunctionOf c
  at = function_at c bs

  abbrev n : ℕ
  n = length bs

  abbrev V : List ℕ → Type 0
  V = IsVector k.ops n

  abbrev P : List ℕ → List ℕ → List ℕ
  P v w = row_combination (row_ops k.ops n) (entry_products k.ops v w) s.table

  once : (v w : List ℕ) → V v → V w → at v ≡ at w → v ≡ w
  once = coordinates_once c bs basis.independent

  product_in : (v w : List ℕ) → V v → V w → V (P v w)
  product_in v w v_in w_in =
      combination_in k n (entry_products k.ops v w) s.table (entries_in k v w v_in.over w_in.over) h.products_in

  at_product : (v w : List ℕ) → V v → V w → at (P v w) ≡ at v ⊗ at w
  at_product v w v_in w_in =
      at_combination c bs (entry_products k.ops v w) s.table (entries_in k v w v_in.over w_in.over) h.products_in
      ∙ ap (combination F.ops (map (code_function c) (entry_products k.ops v w))) h.products_are
      ∙ times_all c bs bs v w v_in.over w_in

  basis_algebra : IsAlgebra k (algebra_at s n)
  basis_algebra = record {
    unit_in = h.one_in;
    product_in = product_in;
    commutative = λ u v u_in v_in.
        once (P u v) (P v u) (product_in u v u_in v_in) (product_in v u v_in u_in)
        (at_product u v u_in v_in ∙ F.mul_comm (at u) (at v) ∙ sym (at_product v u v_in u_in));
    associative = λ u v w u_in v_in w_in.
        let uv_in = product_in u v u_in v_in in
        let vw_in = product_in v w v_in w_in in
        once (P (P u v) w) (P u (P v w)) (product_in (P u v) w uv_in w_in) (product_in u (P v w) u_in vw_in)
        (at_product (P u v) w uv_in w_in ∙ ap (λ x. x ⊗ at w) (at_product u v u_in v_in)
        ∙ F.mul_assoc (at u) (at v) (at w)
        ∙ sym (at_product u (P v w) u_in vw_in ∙ ap (λ x. at u ⊗ x) (at_product v w v_in w_in)));
    unit_times = λ u u_in.
        once (P s.one u) u (product_in s.one u h.one_in u_in) u_in
        (at_product s.one u h.one_in u_in ∙ ap (λ x. x ⊗ at u) h.one_is ∙ one_mul F (at u));
    distributive = λ u v w u_in v_in w_in.
        let vw_in = sum_in k n v w v_in w_in in
        let uv_in = product_in u v u_in v_in in
        let uw_in = product_in u w u_in w_in in
        once (P u (add_lists (raw_ring k.ops) v w)) (add_lists (raw_ring k.ops) (P u v) (P u w))
        (product_in u (add_lists (raw_ring k.ops) v w) u_in vw_in)
        (sum_in k n (P u v) (P u w) uv_in uw_in)
        (at_product u (add_lists (raw_ring k.ops) v w) u_in vw_in ∙ ap (λ x. at u ⊗ x) (at_sum c bs v w v_in w_in)
        ∙ F.mul_add (at u) (at v) (at w)
        ∙ sym (at_sum c bs (P u v) (P u w) uv_in uw_in
        ∙ ap₂ ◌⊕◌ (at_product u v u_in v_in) (at_product u w u_in w_in)));
    linear = λ a u v a_in u_in v_in.
        let au_in = multiple_in k n a u a_in u_in in
        let uv_in = product_in u v u_in v_in in
        once (P (scale_list (raw_ring k.ops) a u) v) (scale_list (raw_ring k.ops) a (P u v))
        (product_in (scale_list (raw_ring k.ops) a u) v au_in v_in) (multiple_in k n a (P u v) a_in uv_in)
        (at_product (scale_list (raw_ring k.ops) a u) v au_in v_in
        ∙ ap (λ x. x ⊗ at v) (at_multiple c bs a u a_in u_in)
        ∙ F.mul_assoc (code_function c a) (at u) (at v)
        ∙ sym (at_multiple c bs a (P u v) a_in uv_in ∙ ap (λ x. code_function c a ⊗ x) (at_product u v u_in v_in)));
  }

  pub is_structure : IsStructure k s
  is_structure = record {
    count =
        sym (length-map s.table at) ∙ ap length h.products_are ∙ length_products F bs bs
        ∙ sym (ap₂ (λ i j. i * j) h.one_in.size h.one_in.size);
    products_in = subst (λ m. All (IsVector k.ops m) s.table) (sym h.one_in.size) h.products_in;
    algebra = subst (λ m. IsAlgebra k (algebra_at s m)) (sym h.one_in.size) basis_algebra;
  }

  -- the combinations of constants by codes are constants
  combination_constant : (cs : List (FunctionOf c)) → All (IsConstant (setting_of c)) cs → (v : List ℕ)
      → IsConstant (setting_of c) (function_at c cs v)
  combination_constant cs all [] = (constants_ring c some).zero_in
  combination_constant [] all (x ∷ v) = (constants_ring c some).zero_in
  combination_constant (b ∷ cs) all (x ∷ v) =
      (constants_ring c some).sum_in (code_function c x ⊗ b) (function_at c cs v)
      ((constants_ring c some).product_in (code_function c x) b
      ((constants_are c some (code_function c x)).1 (code_on_both c (code_function c x) (code_function_in c x)))
      (All-head (IsConstant (setting_of c)) b cs all))
      (combination_constant cs (All-tail (IsConstant (setting_of c)) b cs all) v)

  pub are_constants : AreConstants c bs s
  are_constants = record {
    members = λ v v_in. combination_constant bs basis.members v;
    all = λ z z_in. coordinates c bs z (basis.spanning z z_in);
    once = once;
    zero_is = at_zero c bs;
    one_is = h.one_is;
    sum_is = at_sum c bs;
    multiple_is = at_multiple c bs;
    product_is = λ v w v_in w_in.
        ap (λ m. at (row_combination (row_ops k.ops m) (entry_products k.ops v w) s.table)) h.one_in.size
        ∙ at_product v w v_in w_in;
  }

  vector_idempotent : (v : List ℕ) → V v → IsProperIdempotentVector k.ops (algebra_at s n) v
      → IsProperIdempotentOf c (at v)
  vector_idempotent v v_in p = record {
    square = sym (at_product v v v_in v_in) ∙ ap at p.idempotent.square;
    not_zero = λ e. p.not_zero (once v (replicate n 0) v_in (zeros_in k n) (e ∙ sym (at_zero c bs)));
    not_one = λ e. p.not_one (once v s.one v_in h.one_in (e ∙ sym h.one_is));
  }

  idempotent_vector : (v : List ℕ) → V v → IsProperIdempotentOf c (at v)
      → IsProperIdempotentVector k.ops (algebra_at s n) v
  idempotent_vector v v_in p = record {
    idempotent = record {
      vector = v_in;
      square = once (P v v) v (product_in v v v_in v_in) v_in (at_product v v v_in v_in ∙ p.square);
    };
    not_zero = λ e. p.not_zero (ap at e ∙ at_zero c bs);
    not_one = λ e. p.not_one (ap at e ∙ h.one_is);
  }

  abbrev ProperAt : List ℕ → ℕ → Type 0
  ProperAt v m = IsProperIdempotentVector k.ops (algebra_at s m) v

  pub same_idempotents : HaveSameIdempotents c bs s
  same_idempotents = record {
    members = λ v v_in. (
      (λ p. vector_idempotent v v_in (subst (ProperAt v) h.one_in.size p)),
      (λ p. subst (ProperAt v) (sym h.one_in.size) (idempotent_vector v v_in p)),
    );
    all = λ e p.
        let r = coordinates c bs e (basis.spanning e (idempotent_constant c some e p.square)) in (
          r.0,
          subst (ProperAt r.0) (sym h.one_in.size)
              (idempotent_vector r.0 r.1 (subst (IsProperIdempotentOf c) r.2 p)),
          r.2,
        );
  }
