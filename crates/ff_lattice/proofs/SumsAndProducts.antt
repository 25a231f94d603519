-- Sums and products of lattices as spans of elements.
use Rattle.std.proofs.Common.{◌≡◌, ℕ, ◌+◌, ◌<◌, ◌↔◌, List, [], ◌∷◌, ◌++◌, length, map, take, refl, sym, ◌∙◌, ap, ap₂, subst, arith, All, Some, append_assoc}
use Rattle.std.specs.Prelude.{slice_get}
use Rattle.std.proofs.lemmas.List.{take_more}
use Rattle.std.proofs.lemmas.List.Elements.{All-nil, All-cons, All-head, All-tail}
use Rattle.std.proofs.lemmas.Option.{get_or_from_slice_get}
use Rattle.ring_lemmas.specs.Ring.{CommRing}
use Rattle.ring_theory.specs.Subsets.{IsSubring, Span, Product, products}
use Rattle.ring_lemmas.proofs.Solver.{ring, reads}
use Rattle.ring_theory.proofs.Subsets.{span_sum, span_append_left, span_append_right, product_member, product_of_spans}
use Rattle.ff_fields.specs.Field.{CodeField}
use Rattle.ff_fields.specs.Over.{IsOver}
use Rattle.ff_poly.specs.Words.{IsPoly, product_of}
use Rattle.ff_poly.specs.PolyOver.{IsOver_product_of}
use Rattle.ff_poly.specs.Value.{value, value_product}
use Rattle.ff_poly.proofs.Parts.{IsPoly_product_of}
use Rattle.ff_poly.specs.Popov.{IsRow}
use Rattle.function_field.specs.Functions.{IsPolynomial, of_poly}
use Rattle.function_field.specs.Values.{ElemValue, PresValue, IsElem, Functions, functions, function_of, equation_of}
use Rattle.function_field.proofs.ScalarRings.{polynomials_subring}
use Rattle.function_field.proofs.OnSide.{of_poly_times}
use Rattle.ff_lattice.specs.Lattices.{LatticeValue, IsLatticeValue, row_elems, elems_over, InSpanOf, IsFullLattice, IsSumOfMembers}
use Rattle.ff_lattice.proofs.Scaled.{product_length}

pub map_join : {X Y : Type 0} (f : X → Y) (xs ys : List X) → map f (xs ++ ys) ≡ map f xs ++ map f ys
map_join f [] ys = refl
map_join f (x ∷ xs) ys = ap (λ zs. f x ∷ zs) (map_join f xs ys)

module _ {A : Type 0} (R : CommRing A) (S : A → Type 0) (𝓢 : IsSubring R.ops S) where
  -- a member of the span of two lists is a sum
  split_span : (bs cs : List A) (z : A) → Span R.ops S (bs ++ cs) z
      → (x : A) × Span R.ops S bs x × ((y : A) × Span R.ops S cs y × (z ≡ R.◌⊕◌ x y))
  split_span [] cs z h = (R.𝟘, refl, (z, h, sym (R.add_comm R.𝟘 z ∙ R.add_zero z)))
  split_span (b ∷ bs) cs z h =
      let rest = split_span bs cs h.rest h.rest_in in (
        R.◌⊕◌ (R.◌⊗◌ h.scalar b) rest.0,
        record { scalar = h.scalar; scalar_in = h.scalar_in; rest = rest.0; rest_in = rest.1; is = refl },
        (
          rest.2.0,
          rest.2.1,
          h.is ∙ ap (R.◌⊕◌ (R.◌⊗◌ h.scalar b)) rest.2.2
              ∙ sym (R.add_assoc (R.◌⊗◌ h.scalar b) rest.0 rest.2.0),
        ),
      )

  pub products_join : (xs ys cs : List A) → products R.ops (xs ++ ys) cs ≡ products R.ops xs cs ++ products R.ops ys cs
  products_join [] ys cs = refl
  products_join (x ∷ xs) ys cs = ap (λ zs. map (R.◌⊗◌ x) cs ++ zs) (products_join xs ys cs)
      ∙ sym (append_assoc (map (R.◌⊗◌ x) cs) (products R.ops xs cs) (products R.ops ys cs))

-- the rows of a lattice are elements
pub rows_elems : (k : CodeField) (n : ℕ) (l : LatticeValue) → IsLatticeValue k.ops n l → All (IsElem k.ops n) (row_elems l)
rows_elems k n l lattice = go l.rows lattice.rows_in
  where
    go : (rows : List (List (List ℕ))) → All (IsRow k.ops n) rows → All (IsElem k.ops n) (elems_over rows l.den)
    go [] over = All-nil (IsElem k.ops n)
    go (row ∷ rows) over =
        let r = All-head (IsRow k.ops n) row rows over in
        All-cons (IsElem k.ops n) (record { num = row; den = l.den }) (elems_over rows l.den)
        (record { one_each = r.size; num_over = r.over; den_over = lattice.den_in })
        (go rows (All-tail (IsRow k.ops n) row rows over))

-- one element more of a list
pub elems_more : {X : Type 0} (old new start xs : List X) (i : ℕ) (z : X) → i < length xs → old ≡ start ++ take i xs
    → slice_get xs i ≡ Some z → new ≡ old ++ z ∷ [] → new ≡ start ++ take (i + 1) xs
elems_more old new start xs i z less so_far z_is new_is =
    new_is ∙ ap (λ ys. ys ++ z ∷ []) so_far ∙ append_assoc start (take i xs) (z ∷ [])
    ∙ ap (λ ys. start ++ ys) (ap (λ y. take i xs ++ y ∷ []) (sym (get_or_from_slice_get xs i z z z_is))
    ∙ sym (take_more xs i z less))

module _ (k : CodeField) (p : PresValue) where
  abbrev F : CommRing (Functions k p)
  F = functions k p

  abbrev T : Functions k p → Type 0
  T = IsPolynomial (equation_of k p)

  abbrev 𝓢 : IsSubring F.ops T
  𝓢 = polynomials_subring (equation_of k p)

  abbrev f : ElemValue → Functions k p
  f z = function_of k p z

  pub full_within : (A B : Functions k p → Type 0) → ((z : Functions k p) → A z → B z) → IsFullLattice k p A → IsFullLattice k p B
  full_within A B h full = record {
    multiple = λ z.
        let m = full.multiple z in
        record {
          factor = m.factor;
          factor_in = m.factor_in;
          factor_poly = m.factor_poly;
          some = m.some;
          is_in = h
              (F.◌⊗◌ (of_poly (equation_of k p) (value k m.factor)) z) m.is_in;
        };
  }

  -- the span of two lists of elements is the set of sums
  pub sum_iff : (xs ys : List ElemValue) (z : Functions k p)
      → InSpanOf k p (xs ++ ys) z ↔ IsSumOfMembers k p (InSpanOf k p xs) (InSpanOf k p ys) z
  sum_iff xs ys z =
      let S = λ (fs : List (Functions k p)). Span F.ops T fs z in (
        λ h.
            let s = split_span F T 𝓢 (map f xs) (map f ys) z (subst S (map_join f xs ys) h) in
            record { left = s.0; left_in = s.1; right = s.2.0; right_in = s.2.1; is = s.2.2 },
        λ h.
            subst S (sym (map_join f xs ys))
            (subst (Span F.ops T (map f xs ++ map f ys)) (sym h.is)
            (span_sum F T 𝓢 (map f xs ++ map f ys) h.left h.right
            (span_append_left F T 𝓢 (map f xs) (map f ys) h.left h.left_in)
            (span_append_right F T 𝓢 (map f xs) (map f ys) h.right h.right_in))),
      )

  pub sum_full : (xs ys : List ElemValue) → IsFullLattice k p (InSpanOf k p xs) → IsFullLattice k p (InSpanOf k p (xs ++ ys))
  sum_full xs ys =
      full_within (InSpanOf k p xs) (InSpanOf k p (xs ++ ys))
      (λ z h. subst (λ fs. Span F.ops T fs z) (sym (map_join f xs ys))
      (span_append_left F T 𝓢 (map f xs) (map f ys) z h))

  -- products of two sets of full rank have full rank
  pub product_full : (A B : Functions k p → Type 0) → IsFullLattice k p A → IsFullLattice k p B → IsFullLattice k p (Product F.ops A B)
  product_full A B A_full B_full = record {
    multiple = λ z.
        let a = A_full.multiple z in
        let b = B_full.multiple F.𝟙 in
        let q = of_poly (equation_of k p) (value k a.factor) in
        let r = of_poly (equation_of k p) (value k b.factor) in
        record {
          factor = product_of k.ops a.factor b.factor;
          factor_in = IsOver_product_of k a.factor_in b.factor_in;
          factor_poly = IsPoly_product_of k.ops a.factor b.factor;
          some = some a.factor b.factor a.factor_in b.factor_in a.factor_poly b.factor_poly a.some b.some;
          is_in =
              subst (Product F.ops A B)
              (regroup q z r
              ∙ ap (λ x. F.◌⊗◌ x z) (of_poly_times (equation_of k p) (value k a.factor) (value k b.factor)
              ∙ ap (of_poly (equation_of k p)) (sym (value_product k a.factor b.factor a.factor_in b.factor_in))))
              (product_member F T 𝓢 A B (F.◌⊗◌ q z) (F.◌⊗◌ r F.𝟙) a.is_in b.is_in);
        };
  }
    where
      regroup : (q z r : Functions k p) → (functions k p).◌⊗◌ ((functions k p).◌⊗◌ q z)
          ((functions k p).◌⊗◌ r (functions k p).𝟙) ≡ (functions k p).◌⊗◌ ((functions k p).◌⊗◌ q r) z
      regroup q z r = ring (functions k p) (q ∷ z ∷ r ∷ []) λ q' x. simp (reads, q', x 0, x 1, x 2) (q'.equal _ _ refl)

      positive : (a : List ℕ) → ¬ (a ≡ []) → 0 < length a
      positive [] some = absurd (some refl)
      positive (x ∷ a) some = omega arith

      some : (a b : List ℕ) → IsOver k.ops a → IsOver k.ops b → IsPoly a → IsPoly b → ¬ (a ≡ []) → ¬ (b ≡ [])
          → ¬ (product_of k.ops a b ≡ [])
      some a b a_in b_in a_poly b_poly a_some b_some none =
          absurd (omega (
            arith,
            product_length k a b a_in a_poly b_in b_poly (positive a a_some) (positive b b_some),
            ap
                length none,
            positive a a_some,
            positive b b_some,
          ))

  -- the products of the rows span the products of the lattices
  pub product_iff : (gens xs ys : List ElemValue) → map f gens ≡ products F.ops (map f xs) (map f ys)
      → (z : Functions k p) → InSpanOf k p gens z ↔ Product F.ops (InSpanOf k p xs) (InSpanOf k p ys) z
  product_iff gens xs ys is z =
      let both = product_of_spans F T 𝓢 (map f xs) (map f ys) z in (
        λ h. both.1 (subst (λ fs. Span F.ops T fs z) is h),
        λ h. subst (λ fs. Span F.ops T fs z) (sym is) (both.0 h),
      )

  pub products_full : (gens xs ys : List ElemValue) → map f gens ≡ products F.ops (map f xs) (map f ys)
      → IsFullLattice k p (InSpanOf k p xs) → IsFullLattice k p (InSpanOf k p ys) → IsFullLattice k p (InSpanOf k p gens)
  products_full gens xs ys is xs_full ys_full =
      full_within (Product F.ops (InSpanOf k p xs) (InSpanOf k p ys)) (InSpanOf k p gens)
      (λ z h. (product_iff gens xs ys is z).1 h)
      (product_full (InSpanOf k p xs) (InSpanOf k p ys) xs_full ys_full)

  -- one product more
  pub product_more : (old new start : List ElemValue) (z : ElemValue) (ys : List ElemValue) (j : ℕ) (y x : ElemValue)
      → j < length ys → slice_get ys j ≡ Some y → f x ≡ F.◌⊗◌ (f z) (f y) → new ≡ old ++ x ∷ []
      → map f old ≡ map f start ++ map (F.◌⊗◌ (f z)) (map f (take j ys))
      → map f new ≡ map f start ++ map (F.◌⊗◌ (f z)) (map f (take (j + 1) ys))
  product_more old new start z ys j y x less y_is x_is new_is so_far =
      ap (map f) new_is ∙ map_join f old (x ∷ [])
      ∙ ap₂ (λ us v. us ++ v ∷ []) so_far x_is
      ∙ append_assoc (map f start) (map (F.◌⊗◌ (f z)) (map f (take j ys))) (F.◌⊗◌ (f z) (f y) ∷ [])
      ∙ ap (λ us. map f start ++ us)
      (sym (ap (λ us. map (F.◌⊗◌ (f z)) (map f us))
      (take_more ys j y less ∙ ap (λ u. take j ys ++ u ∷ []) (get_or_from_slice_get ys j y y y_is))
      ∙ ap (map (F.◌⊗◌ (f z))) (map_join f (take j ys) (y ∷ []))
      ∙ map_join (F.◌⊗◌ (f z)) (map f (take j ys)) (f y ∷ [])))

  -- the products with one row more
  pub products_more : (old new xs ys : List ElemValue) (i : ℕ) (x : ElemValue) → i < length xs → slice_get xs i ≡ Some x
      → map f old ≡ products F.ops (map f (take i xs)) (map f ys)
      → map f new ≡ map f old ++ map (F.◌⊗◌ (f x)) (map f ys)
      → map f new ≡ products F.ops (map f (take (i + 1) xs)) (map f ys)
  products_more old new xs ys i x less x_is so_far new_is =
      new_is ∙ ap (λ us. us ++ map (F.◌⊗◌ (f x)) (map f ys)) so_far
      ∙ sym (ap (λ us. products F.ops us (map f ys))
      (ap (map f) (take_more xs i x less ∙ ap (λ u. take i xs ++ u ∷ []) (get_or_from_slice_get xs i x x x_is))
      ∙ map_join f (take i xs) (x ∷ []))
      ∙ products_join F T 𝓢 (map f (take i xs)) (f x ∷ []) (map f ys)
      ∙ ap (λ us. products F.ops (map f (take i xs)) (map f ys) ++ us) (nil_end (map (F.◌⊗◌ (f x)) (map f ys))))
    where
      nil_end : {X : Type 0} (us : List X) → us ++ [] ≡ us
      nil_end [] = refl
      nil_end (u ∷ us) = ap (λ vs. u ∷ vs) (nil_end us)
