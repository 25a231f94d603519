-- Orders by their rows.
use Rattle.std.proofs.Common.{◌≡◌, ℕ, ◌+◌, ◌<◌, ◌≤◌, ◌⊎◌, inl, inr, List, [], ◌∷◌, get_or, map, refl, sym, ap, ◌∙◌, subst, arith, All, false, true, Some, eq-or-lt_of_le}
use Rattle.std.specs.Prelude.{slice_get}
use Rattle.std.proofs.lemmas.List.Elements.{All-nil, All-cons, All-head, All-tail}
use Rattle.std.proofs.lemmas.Option.{get_or_from_slice_get}
use Rattle.ring_lemmas.specs.Ring.{CommRing}
use Rattle.ring_theory.specs.Subsets.{IsSubring, IsModule, Span}
use Rattle.ring_lemmas.proofs.Ring.{mul_zero}
use Rattle.ring_theory.proofs.Subsets.{span_zero, span_sum, span_scale, span_least, span_members}
use Rattle.ff_fields.specs.Field.{CodeField}
use Rattle.ff_poly.specs.Polynomials.{Polynomial}
use Rattle.function_field.specs.Functions.{IsPolynomial, of_poly}
use Rattle.function_field.specs.Values.{ElemValue, PresValue, Functions, functions, function_of, equation_of}
use Rattle.function_field.proofs.ScalarRings.{polynomials_subring}
use Rattle.ff_lattice.specs.Lattices.{LatticeValue, IsLatticeValue, Contains, InSpanOf, row_elems}
use Rattle.ff_lattice.specs.Orders.{IsOrderLattice, IsOrderByRows, TakesRowsIn}

pub false_true : false ≡ true → ⊥
false_true e = cc

-- a fact of the values of a function on a list
pub all_of_map : {X Y : Type 0} (f : X → Y) (P : Y → Type 0) (xs : List X) → All (λ x. P (f x)) xs → All P (map f xs)
all_of_map f P [] all = All-nil P
all_of_map f P (x ∷ xs) all =
    All-cons P (f x) (map f xs) (All-head (λ x. P (f x)) x xs all)
    (all_of_map f P xs (All-tail (λ x. P (f x)) x xs all))

pub all_from_map : {X Y : Type 0} (f : X → Y) (P : Y → Type 0) (xs : List X) → All P (map f xs) → All (λ x. P (f x)) xs
all_from_map f P [] all = All-nil (λ x. P (f x))
all_from_map f P (x ∷ xs) all =
    All-cons (λ x. P (f x)) x xs (All-head P (f x) (map f xs) all)
    (all_from_map f P xs (All-tail P (f x) (map f xs) all))

-- one entry more has the property
pub all_more : {X : Type 0} (P : X → Type 0) (xs : List X) (i : ℕ) (x : X) → slice_get xs i ≡ Some x → P x
    → ((j : ℕ) (d : X) → j < i → P (get_or xs j d)) → (j : ℕ) (d : X) → j < i + 1 → P (get_or xs j d)
all_more P xs i x x_is here below j d less =
    let le : j ≤ i = omega (arith, less) in
    go (eq-or-lt_of_le le)
  where
    go : (j ≡ i) ⊎ (j < i) → P (get_or xs j d)
    go (inl e) = subst P (sym (ap (λ n. get_or xs n d) e ∙ get_or_from_slice_get xs i x d x_is)) here
    go (inr under) = below j d under

module _ {A : Type 0} (R : CommRing A) (S : A → Type 0) (𝓢 : IsSubring R.ops S) where
  -- the elements that z takes into a span are a module
  takes_module : (bs : List A) (z : A) → IsModule R.ops S (λ v. Span R.ops S bs (R.◌⊗◌ z v))
  takes_module bs z = record {
    zero_in = subst (Span R.ops S bs) (sym (mul_zero R z)) (span_zero R S 𝓢 bs);
    sum_in = λ a b a_in b_in. subst (Span R.ops S bs) (sym (R.mul_add z a b))
        (span_sum R S 𝓢 bs (R.◌⊗◌ z a) (R.◌⊗◌ z b) a_in b_in);
    scale_in = λ s a s_in a_in.
        subst (Span R.ops S bs)
        (sym (R.mul_assoc s z a) ∙ ap (λ x. R.◌⊗◌ x a) (R.mul_comm s z) ∙ R.mul_assoc z s a)
        (span_scale R S 𝓢 bs s (R.◌⊗◌ z a) s_in a_in);
  }

  -- z takes a span into another where it takes the generators there
  pub takes_span : (bs cs : List A) (z : A) → All (λ w. Span R.ops S bs (R.◌⊗◌ z w)) cs → (v : A) → Span R.ops S cs v
      → Span R.ops S bs (R.◌⊗◌ z v)
  takes_span bs cs z all v v_in = span_least R S 𝓢 (λ v. Span R.ops S bs (R.◌⊗◌ z v)) (takes_module bs z) cs all v v_in

  takes_all : (bs cs : List A) (v : A) → Span R.ops S cs v → (xs : List A)
      → All (λ a. All (λ c. Span R.ops S bs (R.◌⊗◌ a c)) cs) xs → All (λ a. Span R.ops S bs (R.◌⊗◌ v a)) xs
  takes_all bs cs v v_in [] all = All-nil (λ a. Span R.ops S bs (R.◌⊗◌ v a))
  takes_all bs cs v v_in (a ∷ xs) all =
      All-cons (λ a. Span R.ops S bs (R.◌⊗◌ v a)) a xs
      (subst (Span R.ops S bs) (R.mul_comm a v)
      (takes_span bs cs a (All-head (λ a. All (λ c. Span R.ops S bs (R.◌⊗◌ a c)) cs) a xs all) v v_in))
      (takes_all bs cs v v_in xs (All-tail (λ a. All (λ c. Span R.ops S bs (R.◌⊗◌ a c)) cs) a xs all))

  -- the products of members of two spans are in a third where those of the generators are
  pub spans_product : (bs xs cs : List A) → All (λ a. All (λ c. Span R.ops S bs (R.◌⊗◌ a c)) cs) xs → (u v : A)
      → Span R.ops S xs u → Span R.ops S cs v → Span R.ops S bs (R.◌⊗◌ u v)
  spans_product bs xs cs all u v u_in v_in =
      subst (Span R.ops S bs) (R.mul_comm v u) (takes_span bs xs v (takes_all bs cs v v_in xs all) u u_in)

module _ (k : CodeField) (p : PresValue) where
  abbrev F : CommRing (Functions k p)
  F = functions k p

  abbrev T : Functions k p → Type 0
  T = IsPolynomial (equation_of k p)

  abbrev 𝓢 : IsSubring F.ops T
  𝓢 = polynomials_subring (equation_of k p)

  abbrev f : ElemValue → Functions k p
  f z = function_of k p z

  module _ (l : LatticeValue) where
    abbrev L : Functions k p → Type 0
    L = Contains k p l

    abbrev gens : List (Functions k p)
    gens = map f (row_elems l)

    rows_to_gens : (xs : List ElemValue) → All (λ z. TakesRowsIn k p l (f z)) xs
        → All (λ a. All (λ c. L (F.◌⊗◌ a c)) gens) (map f xs)
    rows_to_gens xs all =
        all_of_map f (λ a. All (λ c. L (F.◌⊗◌ a c)) gens) xs
        (λ i d less. all_of_map f (λ c. L (F.◌⊗◌ (f (get_or xs i d)) c)) (row_elems l) (all i d less))

    -- the products of combinations of other elements and members are members where the products with the rows are
    pub products_from_rows : (xs : List ElemValue) → All (λ z. TakesRowsIn k p l (f z)) xs → (u v : Functions k p)
        → InSpanOf k p xs u → L v → L (F.◌⊗◌ u v)
    products_from_rows xs all = spans_product F T 𝓢 gens (map f xs) gens (rows_to_gens xs all)

    -- the rows are members
    pub rows_members : All (λ z. L (f z)) (row_elems l)
    rows_members = all_from_map f L (row_elems l) (span_members F T 𝓢 gens)

    pub order_from_rows : IsLatticeValue k.ops p.n l → IsOrderByRows k p l → IsOrderLattice k p l
    order_from_rows lattice h = record {
      lattice = lattice;
      one_in = h.one_in;
      product_in = spans_product F T 𝓢 gens gens gens (rows_to_gens (row_elems l) h.products_in);
    }

    pub rows_of_order : IsOrderLattice k p l → IsOrderByRows k p l
    rows_of_order o = record {
      one_in = o.one_in;
      products_in = λ i d less j e less'.
          o.product_in (f (get_or (row_elems l) i d)) (f (get_or (row_elems l) j e)) (rows_members i d less)
          (rows_members j e less');
    }

    -- a lattice that contains 1 contains the polynomials
    pub polynomial_in : L F.𝟙 → (a : Polynomial k) → L (of_poly (equation_of k p) a)
    polynomial_in one_in a =
        subst L (F.mul_one (of_poly (equation_of k p) a))
        (span_scale F T 𝓢 gens (of_poly (equation_of k p) a) F.𝟙 (record { polynomial = a; value = refl }) one_in)
