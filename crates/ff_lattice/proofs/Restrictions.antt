-- The members of a lattice whose product with a function is in another lattice.
use Rattle.std.proofs.Common.{◌≡◌, ℕ, suc, ◌-◌, ◌<◌, ◌↔◌, List, [], ◌∷◌, length, map, refl, sym, ◌∙◌, ap, subst, arith, All}
use Rattle.std.proofs.lemmas.List.{length-map}
use Rattle.std.proofs.lemmas.List.Elements.{All-nil, All-cons, All-head, All-tail}
use Rattle.ring_lemmas.specs.Ring.{CommRing}
use Rattle.ring_lemmas.specs.Rows.{Row}
use Rattle.ring_theory.specs.Subsets.{IsSubring, IsModule}
use Rattle.ring_lemmas.proofs.Ring.{mul_zero}
use Rattle.ring_lemmas.proofs.Solver.{ring, reads}
use Rattle.ring_theory.proofs.Subsets.{span_zero, span_sum, span_scale, span_least}
use Rattle.ff_fields.specs.Field.{CodeField}
use Rattle.ff_fields.specs.Code.{code_ring}
use Rattle.ff_fields.specs.Over.{IsOver}
use Rattle.ff_poly.specs.Words.{IsPoly, product_of}
use Rattle.ff_poly.specs.Value.{value, value_product}
use Rattle.ff_poly.specs.PolyOver.{IsOver_product_of}
use Rattle.ff_poly.proofs.Parts.{IsPoly_product_of}
use Rattle.ff_poly.specs.Polynomials.{Polynomial, polynomials, codes_of, IsOver_codes_of, IsPoly_codes_of, value_codes_of}
use Rattle.ff_poly.specs.Popov.{row_at, entry_at, IsRow, InRowSpan, combination_list, HasFullRankMatrix}
use Rattle.popov_theory.specs.Module.{PolynomialModule}
use Rattle.popov_theory.specs.Span as theory
use Rattle.popov_theory.proofs.Span.{span_row}
use Rattle.ff_popov.specs.Reading.{read_row, row_space, read_rows}
use Rattle.ff_popov.proofs.ReadRows.{read_row_at}
use Rattle.ff_popov.proofs.Spans.{to_space, from_space, combination_read, combination_row, combine_same, listed, listed_length, listed_at}
use Rattle.function_field.specs.Functions.{Equation, IsPolynomial, of_poly, over}
use Rattle.function_field.specs.Values.{ElemValue, PresValue, Functions, functions, function_of, equation_of}
use Rattle.function_field.proofs.ScalarRings.{polynomials_subring}
use Rattle.function_field.proofs.OnSide.{of_poly_times}
use Rattle.ff_lattice.specs.Lattices.{LatticeValue, IsLatticeValue, Contains, InSpanOf, IsFullLattice, elems_over}
use Rattle.ff_lattice.specs.Colons.{IsKept}
use Rattle.ff_lattice.proofs.Divisors.{monic_value}
use Rattle.ff_lattice.proofs.Elements.{elem_over, in_span_of}
use Rattle.ff_lattice.proofs.Members.{Member}
use Rattle.ff_lattice.proofs.Normal.{popov_poly}
use Rattle.ff_lattice.proofs.Scaled.{product_length}
use Rattle.ff_lattice.proofs.Spaces.{combination_poly}
use Rattle.ff_lattice.proofs.SpannedSets.{lattice_full, rank_of_full, polys_at}
use Rattle.ff_lattice.proofs.SumsAndProducts.{full_within}
use Rattle.ff_lattice.proofs.RowCombinations.{apply_read, image_in}

listed_all : {X : Type 0} (P : X → Type 0) (n : ℕ) (g : ℕ → X) → ((i : ℕ) → P (g i)) → All P (listed n g)
listed_all P n g h i d less = subst P (sym (listed_at n g i d (omega (arith, less, listed_length n g)))) (h i)

module _ (k : CodeField) (p : PresValue) where
  abbrev c : Equation k
  c = equation_of k p

  abbrev F : CommRing (Functions k p)
  F = functions k p

  abbrev T : Functions k p → Type 0
  T = IsPolynomial (equation_of k p)

  abbrev 𝓢 : IsSubring F.ops T
  𝓢 = polynomials_subring (equation_of k p)

  -- in the one set, and times w in the other
  abbrev pub Both : (Functions k p → Type 0) → (Functions k p → Type 0) → Functions k p → Functions k p → Type 0
  Both L A w z = L z × A ((functions k p).◌⊗◌ w z)

  module _ (ls es : List ElemValue) (w : Functions k p) where
    abbrev B : Functions k p → Type 0
    B = Both (InSpanOf k p ls) (InSpanOf k p es) w

    abbrev f : ElemValue → Functions k p
    f z = function_of k p z

    move : (w s z : Functions k p) → (functions k p).◌⊗◌ w ((functions k p).◌⊗◌ s z)
        ≡ (functions k p).◌⊗◌ s ((functions k p).◌⊗◌ w z)
    move w s z = ring (functions k p) (w ∷ s ∷ z ∷ []) λ q x. simp (reads, q, x 0, x 1, x 2) (q.equal _ _ refl)

    pub both_module : IsModule F.ops T B
    both_module = record {
      zero_in = (span_zero F T 𝓢 (map f ls), subst (InSpanOf k p es) (sym (mul_zero F w)) (span_zero F T 𝓢 (map f es)));
      sum_in = λ x y x_in y_in. (
        span_sum F T 𝓢 (map f ls) x y x_in.0 y_in.0,
        subst (InSpanOf k p es) (sym (F.mul_add w x y))
            (span_sum F T 𝓢 (map f es) (F.◌⊗◌ w x) (F.◌⊗◌ w y) x_in.1 y_in.1),
      );
      scale_in = λ s x s_in x_in. (
        span_scale F T 𝓢 (map f ls) s x s_in x_in.0,
        subst (InSpanOf k p es) (sym (move w s x)) (span_scale F T 𝓢 (map f es) s (F.◌⊗◌ w x) s_in x_in.1),
      );
    }

    -- full rank of both sets is that of the smaller set
    pub both_full : IsFullLattice k p (InSpanOf k p ls) → IsFullLattice k p (InSpanOf k p es) → IsFullLattice k p B
    both_full l_full a_full = record {
      multiple = λ z.
          let a = l_full.multiple z in
          let q = of_poly c (value k a.factor) in
          let b = a_full.multiple (F.◌⊗◌ w (F.◌⊗◌ q z)) in
          let r = of_poly c (value k b.factor) in
          let scalar : T r = record { polynomial = value k b.factor; value = refl } in
          let product : F.◌⊗◌ r (F.◌⊗◌ q z) ≡ F.◌⊗◌ (of_poly c (value k (product_of k.ops b.factor a.factor))) z
          = sym (F.mul_assoc r q z)
          ∙ ap (λ x. F.◌⊗◌ x z) (of_poly_times c (value k b.factor) (value k a.factor)
          ∙ ap (of_poly c) (sym (value_product k b.factor a.factor b.factor_in a.factor_in))) in
          record {
            factor = product_of k.ops b.factor a.factor;
            factor_in = IsOver_product_of k b.factor_in a.factor_in;
            factor_poly = IsPoly_product_of k.ops b.factor a.factor;
            some = some b.factor a.factor b.factor_in a.factor_in b.factor_poly a.factor_poly b.some a.some;
            is_in =
                subst B product (
                  span_scale F T 𝓢 (map f ls) r (F.◌⊗◌ q z) scalar a.is_in,
                  subst (InSpanOf k p es) (sym (move w r (F.◌⊗◌ q z))) b.is_in,
                );
          };
    }
      where
        positive : (a : List ℕ) → ¬ (a ≡ []) → 0 < length a
        positive [] some = absurd (some refl)
        positive (x ∷ a) some = omega arith

        some : (a b : List ℕ) → IsOver k.ops a → IsOver k.ops b → IsPoly a → IsPoly b → ¬ (a ≡ []) → ¬ (b ≡ [])
            → ¬ (product_of k.ops a b ≡ [])
        some a b a_in b_in a_poly b_poly a_some b_some none =
            absurd (omega (
              arith,
              product_length k a b a_in a_poly b_in b_poly (positive a a_some) (positive b b_some),
              ap length none,
              positive a a_some,
              positive b b_some,
            ))

  module _ (l a : LatticeValue) (w : ElemValue) (basis : List (List (List ℕ))) (positive : 0 < p.n)
      (l_form : IsLatticeValue k.ops p.n l) (a_form : IsLatticeValue k.ops p.n a) (kept : IsKept k p l w a basis) where
    abbrev D : Polynomial k
    D = value k l.den

    den_some : ¬ (value k l.den ≡ (polynomials k).𝟘)
    den_some = monic_value k l.den l_form.den_in l_form.den_poly l_form.monic

    abbrev n : ℕ
    n = suc (p.n - 1)

    abbrev M : PolynomialModule (code_ring k) (Row (Polynomial k) (suc (p.n - 1)))
    M = row_space k p.n

    abbrev made : List (List (List ℕ))
    made = map (λ z. combination_list k.ops p.n z l.rows) basis

    abbrev W : Functions k p
    W = function_of k p w

    abbrev fun : List (List ℕ) → Functions k p
    fun z = function_of k p (record { num = combination_list k.ops p.n z l.rows; den = l.den })

    -- a combination of the rows is in the lattice
    combined_in : (z : List (List ℕ)) → IsRow k.ops p.n z → Contains k p l (fun z)
    combined_in z z_row =
        (in_span_of k p l.den den_some l.rows (fun z)).1
        (record {
          numerator = read_row k n (combination_list k.ops p.n z l.rows);
          in_rows = record {
            coefficients = λ i. value k (entry_at z i);
            is = combination_read k p.n z l.rows (z_row.size ∙ sym l_form.popov.size) z_row.over l_form.rows_in;
          };
          is = elem_over k p l.den den_some (combination_list k.ops p.n z l.rows);
        })

    basis_poly : All (All IsPoly) basis
    basis_poly = popov_poly p.n basis kept.popov

    each : (i : ℕ) → i < length basis → Both (Contains k p l) (Contains k p a) W (fun (row_at basis i))
    each i less =
        let row = kept.rows_in i [] less in
        let poly = polys_at basis basis_poly i less in (
          combined_in (row_at basis i) row,
          (kept.members (row_at basis i) row poly).0
              (from_space k p.n basis kept.rows_in (row_at basis i) row poly
              (subst (theory.InSpan M (read_rows k p.n basis)) (read_row_at k p.n basis i)
              (span_row M (read_rows k p.n basis) i))),
        )

    all_functions : (N : Functions k p → Type 0) (zs : List (List (List ℕ)))
        → ((i : ℕ) → i < length zs → N (fun (row_at zs i)))
        → All N (map (function_of k p) (elems_over (map (λ z. combination_list k.ops p.n z l.rows) zs) l.den))
    all_functions N [] h = All-nil N
    all_functions N (z ∷ zs) h =
        All-cons N (fun z) (map (function_of k p) (elems_over (map
        (λ z. combination_list k.ops p.n z l.rows) zs) l.den))
        (h 0 (omega arith))
        (all_functions N zs (λ i less. h (suc i) (omega (arith, less))))

    kept_to : (z : Functions k p) → InSpanOf k p (elems_over made l.den) z → Both (Contains k p l) (Contains k p a) W z
    kept_to =
        span_least F T 𝓢 (Both (Contains k p l) (Contains k p a) W)
        (both_module (elems_over l.rows l.den) (elems_over a.rows a.den) W)
        (map (function_of k p) (elems_over made l.den))
        (all_functions (Both (Contains k p l) (Contains k p a) W) basis each)

    kept_from : (z : Functions k p) → Both (Contains k p l) (Contains k p a) W z
        → InSpanOf k p (elems_over made l.den) z
    kept_from z (z_in, wz_in) =
        (in_span_of k p l.den den_some made z).1
        (record {
          numerator = read_row k n (combination_list k.ops p.n cs l.rows);
          in_rows =
              subst (theory.InSpan M (read_rows k p.n made))
              (apply_read k p.n l.rows l_form.popov.size positive l_form.rows_in cs cs_row)
              (image_in k p.n l.rows l_form.popov.size positive l_form.rows_in basis kept.rows_in (read_row k n cs)
              (to_space k p.n basis kept.rows_in cs in_basis));
          is = z_is ∙ elem_over k p l.den den_some (combination_list k.ops p.n cs l.rows);
        })
      where
        m : Member (equation_of k p) (value k l.den) den_some (read_rows k p.n l.rows) z
        m = (in_span_of k p l.den den_some l.rows z).0 z_in

        cs : List (List ℕ)
        cs = listed p.n (λ i. codes_of k (m.in_rows.coefficients i))

        cs_row : IsRow k.ops p.n cs
        cs_row = record {
          size = listed_length p.n (λ i. codes_of k (m.in_rows.coefficients i));
          over = listed_all
              (IsOver k.ops) p.n (λ i. codes_of k (m.in_rows.coefficients i))
              (λ i. IsOver_codes_of k (m.in_rows.coefficients i));
        }

        cs_poly : All IsPoly cs
        cs_poly = listed_all IsPoly p.n (λ i. codes_of k (m.in_rows.coefficients i))
            (λ i. IsPoly_codes_of k (m.in_rows.coefficients i))

        same : read_row k n (combination_list k.ops p.n cs l.rows) ≡ m.numerator
        same =
            combination_read k p.n cs l.rows (cs_row.size ∙ sym l_form.popov.size) cs_row.over l_form.rows_in
            ∙ combine_same k p.n M (read_rows k p.n l.rows) (λ i. value k (entry_at cs i)) m.in_rows.coefficients
            (λ i less.
            ap (value k) (listed_at p.n (λ i. codes_of k (m.in_rows.coefficients i)) i []
            (omega (arith, less, length-map l.rows (read_row k n), l_form.popov.size)))
            ∙ value_codes_of k (m.in_rows.coefficients i))
            ∙ sym m.in_rows.is

        z_is : z ≡ fun cs
        z_is = m.is ∙ sym (elem_over k p l.den den_some (combination_list k.ops p.n cs l.rows)
            ∙ ap (λ v. over c v D den_some) same)

        in_basis : InRowSpan k.ops p.n basis cs
        in_basis = (kept.members cs cs_row cs_poly).1 (subst (λ y. Contains k p a (F.◌⊗◌ W y)) z_is wz_in)

    pub kept_iff : (z : Functions k p) → InSpanOf k p
        (elems_over (map (λ z. combination_list k.ops p.n z l.rows) basis) l.den) z
        ↔ Both (Contains k p l) (Contains k p a) (function_of k p w) z
    kept_iff z = (kept_to z, kept_from z)

    pub made_rows : All (IsRow k.ops p.n) (map (λ z. combination_list k.ops p.n z l.rows) basis)
    made_rows = go basis kept.rows_in
      where
        go : (zs : List (List (List ℕ))) → All (IsRow k.ops p.n) zs
            → All (IsRow k.ops p.n) (map (λ z. combination_list k.ops p.n z l.rows) zs)
        go [] h = All-nil (IsRow k.ops p.n)
        go (z ∷ zs) h =
            All-cons (IsRow k.ops p.n) (combination_list k.ops p.n z l.rows) (map
            (λ z. combination_list k.ops p.n z l.rows) zs)
            (combination_row k p.n z l.rows (All-head (IsRow k.ops p.n) z zs h).over l_form.rows_in)
            (go zs (All-tail (IsRow k.ops p.n) z zs h))

    pub made_poly : All (All IsPoly) (map (λ z. combination_list k.ops p.n z l.rows) basis)
    made_poly = go basis kept.rows_in
      where
        go : (zs : List (List (List ℕ))) → All (IsRow k.ops p.n) zs
            → All (All IsPoly) (map (λ z. combination_list k.ops p.n z l.rows) zs)
        go [] h = All-nil (All IsPoly)
        go (z ∷ zs) h =
            let row = All-head (IsRow k.ops p.n) z zs h in
            All-cons (All IsPoly) (combination_list k.ops p.n z l.rows) (map
            (λ z. combination_list k.ops p.n z l.rows) zs)
            (combination_poly k p.n z l.rows (row.size ∙ sym l_form.popov.size) row.over)
            (go zs (All-tail (IsRow k.ops p.n) z zs h))

    pub made_rank : HasFullRankMatrix k.ops p.n (map (λ z. combination_list k.ops p.n z l.rows) basis)
    made_rank =
        rank_of_full k p l.den den_some made made_rows
        (full_within k p (Both (Contains k p l) (Contains k p a) W) (InSpanOf k p (elems_over made l.den)) kept_from
        (both_full (elems_over l.rows l.den) (elems_over a.rows a.den) W (lattice_full k p l positive l_form)
        (lattice_full k p a positive a_form)))
