-- The quotient of an order by an ideal obeys the laws of an algebra.
use Rattle.std.proofs.Common.{◌≡◌, ℕ, zero, suc, ◌+◌, ◌-◌, ◌*◌, ◌/◌, ◌%◌, ◌<◌, ◌≤◌, ◌⊎◌, inl, inr, max, List, [], ◌∷◌, length, get_or, map, drop, replicate, refl, sym, ap, ap₂, ◌∙◌, subst, arith, All}
use Rattle.std.proofs.lemmas.List.{length-map, get_or-map, length-replicate}
use Rattle.std.proofs.lemmas.List.Elements.{All-replicate}
use Rattle.std.proofs.lemmas.Nat.{mul-le, div-add-mod', mod_below, row_fits}
use Rattle.std.proofs.lemmas.Bool.{cases_lt}
use Rattle.std.proofs.Math.Nat.{le-max_left, le-max_right}
use Rattle.ring_lemmas.specs.Ring.{CommRing, TestedRing}
use Rattle.ring_lemmas.specs.Lists.{add_lists, scale_list}
use Rattle.ring_lemmas.specs.Rows.{Row}
use Rattle.ring_theory.specs.Subsets.{IsSubring}
use Rattle.ring_lemmas.proofs.Ring.{add_mul, mul_zero, zero_mul, neg_mul, neg_zero, one_mul, eq_of_sub, neg_unique}
use Rattle.ring_theory.proofs.Subsets.{span_zero, span_sum, span_scale}
use Rattle.ring_lemmas.specs.Polynomials.{Pol}
use Rattle.ff_fields.specs.Field.{CodeField}
use Rattle.ff_fields.specs.Code.{Code, code_ring, raw_ring, zero_in, same_code}
use Rattle.ff_fields.specs.Over.{IsOver, IsOver_nil, IsOver_head, IsOver_tail, IsOver_scale, IsOver_add, IsOver_zeros}
use Rattle.ff_poly.specs.Value.{value}
use Rattle.ff_poly.specs.Polynomials.{Polynomial, polynomials, constant_poly}
use Rattle.ff_poly.specs.Terms.{term}
use Rattle.ff_poly.specs.Popov.{entry_at, row_at, longest, IsRow}
use Rattle.ff_poly.proofs.Parts.{minus_one}
use Rattle.popov_theory.specs.Module.{PolynomialModule, measure}
use Rattle.popov_theory.specs.Span.{InSpan}
use Rattle.popov_theory.proofs.Module.{v_zero_add, v_add_neg}
use Rattle.popov_theory.proofs.Measure.{measure_bound}
use Rattle.popov_theory.proofs.PolynomialRows.{row_module_zero, row_module_add, row_module_scale}
use Rattle.ff_popov.specs.Reading.{read_row, row_space, read_rows}
use Rattle.ff_popov.proofs.ReadRows.{read_zeros}
use Rattle.ff_popov.proofs.Measures.{coef_short}
use Rattle.ff_popov.proofs.Entries.{any_default}
use Rattle.function_field.specs.Functions.{Equation, of_poly, over, IsPolynomial}
use Rattle.function_field.specs.Values.{PresValue, Functions, functions, function_of, equation_of}
use Rattle.function_field.proofs.ScalarRings.{polynomials_subring, of_poly_neg, of_poly_one}
use Rattle.function_field.proofs.OnSide.{of_poly_plus, of_poly_times, of_poly_zero}
use Rattle.ff_falg.specs.Algebras.{IsAlgebra, IsVector}
use Rattle.ring_lemmas.proofs.Lists.{length_add_lists, length_scale_list}
use Rattle.ff_lattice.specs.Lattices.{IsLatticeValue, Contains, row_elems}
use Rattle.ff_lattice.specs.PositionLists.{code_count, codes_below, sum_of_codes}
use Rattle.ff_lattice.specs.Quotients.{QuotientValue, dimension, spread, codes_of_row, lifted, product_codes, class_algebra, IsClassOf, IsFrame, HasClasses}
use Rattle.ff_lattice.proofs.Fracs.{over_zero, over_add, over_scale}
use Rattle.ff_lattice.proofs.Members.{member_numerator}
use Rattle.ff_lattice.proofs.Elements.{elem_over, in_span_of}
use Rattle.ff_lattice.proofs.Divisors.{monic_value}
use Rattle.ff_lattice.proofs.ClassAlgebras.{IsIdealOf, IsSameModulo, same_of, same_sym, same_trans, same_sum, same_scaled, same_right, product_commutes, product_associates, product_unit, product_adds, product_scales}
use Rattle.ff_lattice.proofs.PositionCodes.{position_is, column_in}
use Rattle.ff_lattice.proofs.PositionClasses.{codes_length, codes_over, only_zeros, codes_class, row_of_codes, sum_in_order, zero_term}
use Rattle.ff_lattice.proofs.CodeSums.{sum_map, sum_adds, sum_scales, count_past, sum_past, spread_is, spread_sum, term_add, term_mul}

-- lists whose difference is zero
lists_same : (k : CodeField) (m : ℕ) (a b : List ℕ) → length a ≡ m → length b ≡ m → IsOver k.ops a → IsOver k.ops b
    → add_lists (raw_ring k.ops) a (scale_list (raw_ring k.ops) (k.neg 1) b) ≡ replicate m 0 → a ≡ b
lists_same k zero [] [] a_size b_size a_in b_in e = refl
lists_same k zero (c ∷ a) b a_size b_size a_in b_in e = absurd (omega (arith, a_size))
lists_same k zero [] (d ∷ b) a_size b_size a_in b_in e = absurd (omega (arith, b_size))
lists_same k (suc m) [] b a_size b_size a_in b_in e = absurd (omega (arith, a_size))
lists_same k (suc m) (c ∷ a) [] a_size b_size a_in b_in e = absurd (omega (arith, b_size))
lists_same k (suc m) (c ∷ a) (d ∷ b) a_size b_size a_in b_in e =
    ap₂ ◌∷◌ (ap (λ x. x.0) heads) (lists_same k m a b (omega (arith, a_size)) (omega (arith, b_size)) (IsOver_tail a_in)
    (IsOver_tail b_in) (ap (drop 1) e))
  where
    A : TestedRing (Code k)
    A = code_ring k

    x : Code k
    x = (c, IsOver_head a_in)

    y : Code k
    y = (d, IsOver_head b_in)

    zero_is : (code_ring k).◌⊕◌ (c, IsOver_head a_in)
        ((code_ring k).◌⊗◌ ((code_ring k).⊖◌ (code_ring k).𝟙) (d, IsOver_head b_in)) ≡ (code_ring k).𝟘
    zero_is = same_code k _ _ (ap (λ xs. get_or xs 0 0) e)

    heads : ◌≡◌ {A = Code k} (c, IsOver_head a_in) (d, IsOver_head b_in)
    heads =
        eq_of_sub A.ring x y
        (ap (A.◌⊕◌ x) (sym (neg_mul A.ring A.𝟙 y ∙ ap A.⊖◌ (one_mul A.ring y))) ∙ zero_is)

module _ (k : CodeField) (q : QuotientValue) (h : IsFrame k q) where
  abbrev p : PresValue
  p = q.p

  abbrev n : ℕ
  n = q.p.n

  abbrev W : List (List (List ℕ))
  W = q.order.rows

  abbrev J : List (List (List ℕ))
  J = q.rows

  abbrev E : ℕ
  E = q.depth * q.p.n

  abbrev c : Equation k
  c = equation_of k q.p

  abbrev F : CommRing (Functions k q.p)
  F = functions k q.p

  abbrev M : PolynomialModule (code_ring k) (Row (Pol (code_ring k)) (suc (q.p.n - 1)))
  M = row_space k q.p.n

  abbrev R : List (List ℕ) → Row (Pol (code_ring k)) (suc (q.p.n - 1))
  R v = read_row k (suc (q.p.n - 1)) v

  abbrev D : Polynomial k
  D = value k q.order.den

  abbrev lattice : IsLatticeValue k.ops q.p.n q.order
  lattice = h.order.lattice

  pub den_some : ¬ (value k q.order.den ≡ (polynomials k).𝟘)
  den_some = monic_value k q.order.den lattice.den_in lattice.den_poly lattice.monic

  abbrev pub frac : Row (Pol (code_ring k)) (suc (q.p.n - 1)) → Functions k q.p
  frac v = over (equation_of k q.p) v (value k q.order.den) den_some

  -- the function of a row over the denominator of the order
  abbrev pub g : List (List ℕ) → Functions k q.p
  g v = function_of k q.p (record { num = v; den = q.order.den })

  g_is : (v : List (List ℕ)) → g v ≡ frac (R v)
  g_is v = elem_over k q.p q.order.den den_some v

  frac_zero : frac M.𝟎 ≡ F.𝟘
  frac_zero = ap frac (row_module_zero (code_ring k) (q.p.n - 1)) ∙ over_zero c D den_some

  frac_add : (u v : Row (Pol (code_ring k)) (suc (q.p.n - 1))) → frac (M.◌⊞◌ u v) ≡ F.◌⊕◌ (frac u) (frac v)
  frac_add u v = ap frac (row_module_add (code_ring k) (q.p.n - 1) u v) ∙ sym (over_add c u v D den_some)

  frac_scale : (a : Polynomial k) (v : Row (Pol (code_ring k)) (suc (q.p.n - 1)))
      → frac (M.◌·◌ a v) ≡ F.◌⊗◌ (of_poly c a) (frac v)
  frac_scale a v = ap frac (row_module_scale (code_ring k) (q.p.n - 1) a v) ∙ sym (over_scale c a v D den_some)

  -- the sum of codes over functions, one for each column
  abbrev t : (ℕ → Functions k q.p) → ℕ → ℕ → ℕ → Functions k q.p
  t w x s j = F.◌⊗◌ (of_poly c (value k (term x s))) (w j)

  abbrev G : (ℕ → Functions k q.p) → List ℕ → Functions k q.p
  G w a = sum_of_codes q.p.n q.order.rows q.rows F.◌⊕◌ F.𝟘 (t w) (q.depth * q.p.n) a

  sum_frac : (rows : List (List (List ℕ))) (rows_in : (j : ℕ) → j < n → IsRow k.ops n (row_at rows j)) (e : ℕ)
      (a : List ℕ)
      → frac (spread_sum k n h.positive W J rows rows_in e a)
      ≡ sum_of_codes n W J F.◌⊕◌ F.𝟘 (t (λ j. g (row_at rows j))) e a
  sum_frac rows rows_in e a =
      sum_map n h.positive W J M.◌⊞◌ M.𝟎 (λ x s j. M.◌·◌ (value k (term x s)) (R (row_at rows j))) F.◌⊕◌ F.𝟘
      (t (λ j. g (row_at rows j))) frac frac_zero frac_add
      (λ x s j less. frac_scale (value k (term x s)) (R (row_at rows j))
      ∙ ap (F.◌⊗◌ (of_poly c (value k (term x s)))) (sym (g_is (row_at rows j)))) e a

  zeros_row : IsRow k.ops n (replicate n [])
  zeros_row = record { size = length-replicate n []; over = All-replicate (IsOver k.ops) n [] IsOver_nil }

  -- the combination of rows by codes is one of functions
  pub spread_row : (rows : List (List (List ℕ))) → ((j : ℕ) → j < n → IsRow k.ops n (row_at rows j)) → (a : List ℕ)
      → IsOver k.ops a → IsRow k.ops n (spread k.ops q rows a)
  spread_row rows rows_in a a_in = (spread_is k n h.positive W J rows rows_in E a (replicate n []) a_in zeros_row).0

  pub spread_read : (rows : List (List (List ℕ))) (rows_in : (j : ℕ) → j < n → IsRow k.ops n (row_at rows j))
      (a : List ℕ) → IsOver k.ops a → R (spread k.ops q rows a) ≡ spread_sum k n h.positive W J rows rows_in E a
  spread_read rows rows_in a a_in =
      (spread_is k n h.positive W J rows rows_in E a (replicate n []) a_in zeros_row).1
      ∙ ap (λ x. M.◌⊞◌ x (spread_sum k n h.positive W J rows rows_in E a))
      (read_zeros k (suc (n - 1)) n ∙ sym (row_module_zero (code_ring k) (n - 1)))
      ∙ v_zero_add M (spread_sum k n h.positive W J rows rows_in E a)

  pub spread_function : (rows : List (List (List ℕ))) → ((j : ℕ) → j < n → IsRow k.ops n (row_at rows j)) → (a : List ℕ)
      → IsOver k.ops a → g (spread k.ops q rows a) ≡ G (λ j. g (row_at rows j)) a
  spread_function rows rows_in a a_in = g_is (spread k.ops q rows a) ∙ ap frac (spread_read rows rows_in a a_in)
      ∙ sum_frac rows rows_in E a

  order_rows : (j : ℕ) → j < n → IsRow k.ops n (row_at W j)
  order_rows j less = lattice.rows_in j [] (omega (arith, less, lattice.popov.size))

  -- what codes are lifted to
  abbrev pub lift : List ℕ → Functions k q.p
  lift a = function_of k q.p (lifted k.ops q a)

  abbrev w : ℕ → Functions k q.p
  w j = g (row_at q.order.rows j)

  lift_is : (a : List ℕ) → IsOver k.ops a → lift a ≡ G w a
  lift_is a a_in = spread_function W order_rows a a_in

  abbrev pub V : List ℕ → Type 0
  V a = IsVector k.ops (dimension q) a

  abbrev pub O : Functions k q.p → Type 0
  O z = Contains k q.p q.order z

  abbrev pub I : Functions k q.p → Type 0
  I z = Contains k q.p q.ideal z

  abbrev T : Functions k q.p → Type 0
  T = IsPolynomial (equation_of k q.p)

  abbrev 𝓢 : IsSubring F.ops T
  𝓢 = polynomials_subring (equation_of k q.p)

  -- sums and multiples of codes
  pub lift_add : (a b : List ℕ) → V a → V b → lift (add_lists (raw_ring k.ops) a b) ≡ F.◌⊕◌ (lift a) (lift b)
  lift_add a b a_in b_in =
      lift_is (add_lists (raw_ring k.ops) a b) (IsOver_add k a b a_in.over b_in.over)
      ∙ sum_adds n h.positive W J k F (t w)
      (λ x y s j x_in y_in.
      ap (λ u. F.◌⊗◌ u (w j)) (ap (of_poly c) (term_add k x y s x_in y_in)
      ∙ sym (of_poly_plus c (value k (term x s)) (value k (term y s))))
      ∙ add_mul F (of_poly c (value k (term x s))) (of_poly c (value k (term y s))) (w j))
      E a b a_in.size b_in.size a_in.over b_in.over
      ∙ sym (ap₂ F.◌⊕◌ (lift_is a a_in.over) (lift_is b b_in.over))

  pub lift_scale : (x : ℕ) → x < k.size → (a : List ℕ) → V a
      → lift (scale_list (raw_ring k.ops) x a) ≡ F.◌⊗◌ (of_poly c (constant_poly k x)) (lift a)
  lift_scale x x_in a a_in =
      lift_is (scale_list (raw_ring k.ops) x a) (IsOver_scale k x a x_in a_in.over)
      ∙ sum_scales n h.positive W J k F (t w) x (of_poly c (constant_poly k x))
      (λ y s j y_in.
      ap (λ u. F.◌⊗◌ u (w j)) (ap (of_poly c) (term_mul k x y s x_in y_in)
      ∙ sym (of_poly_times c (constant_poly k x) (value k (term y s))))
      ∙ F.mul_assoc (of_poly c (constant_poly k x)) (of_poly c (value k (term y s))) (w j))
      E a a_in.size a_in.over
      ∙ ap (F.◌⊗◌ (of_poly c (constant_poly k x))) (sym (lift_is a a_in.over))

  pub sum_vector : (a b : List ℕ) → V a → V b → V (add_lists (raw_ring k.ops) a b)
  sum_vector a b a_in b_in = record {
    size = length_add_lists (raw_ring k.ops) a b (let x = a_in.size in let y = b_in.size in omega arith) ∙ a_in.size;
    over = IsOver_add k a b a_in.over b_in.over;
  }

  pub scale_vector : (x : ℕ) → x < k.size → (a : List ℕ) → V a → V (scale_list (raw_ring k.ops) x a)
  scale_vector x x_in a a_in = record {
    size = length_scale_list (raw_ring k.ops) x a
        ∙ a_in.size;
    over = IsOver_scale k x a x_in a_in.over;
  }

  -- members, by rows
  pub order_member : (v : Row (Pol (code_ring k)) (suc (q.p.n - 1))) → InSpan M (read_rows k q.p.n q.order.rows) v
      → O (frac v)
  order_member v v_in = (in_span_of k q.p q.order.den den_some q.order.rows (frac v)).1
      (record { numerator = v; in_rows = v_in; is = refl })

  pub order_numerator : (v : Row (Pol (code_ring k)) (suc (q.p.n - 1))) → O (frac v)
      → InSpan M (read_rows k q.p.n q.order.rows) v
  order_numerator v v_in = member_numerator c D den_some (read_rows k q.p.n q.order.rows) v
      ((in_span_of k q.p q.order.den den_some q.order.rows (frac v)).0 v_in)

  pub ideal_member : (v : Row (Pol (code_ring k)) (suc (q.p.n - 1))) → InSpan M (read_rows k q.p.n q.rows) v
      → I (frac v)
  ideal_member v v_in = (h.rows_are (frac v)).1
      ((in_span_of k q.p q.order.den den_some q.rows (frac v)).1 (record { numerator = v; in_rows = v_in; is = refl }))

  pub ideal_numerator : (v : Row (Pol (code_ring k)) (suc (q.p.n - 1))) → I (frac v)
      → InSpan M (read_rows k q.p.n q.rows) v
  ideal_numerator v v_in = member_numerator c D den_some (read_rows k q.p.n q.rows) v
      ((in_span_of k q.p q.order.den den_some q.rows (frac v)).0 ((h.rows_are (frac v)).0 v_in))

  within : (v : Row (Pol (code_ring k)) (suc (q.p.n - 1))) → InSpan M (read_rows k q.p.n q.rows) v
      → InSpan M (read_rows k q.p.n q.order.rows) v
  within v v_in = order_numerator v (h.ideal.within (frac v) (ideal_member v v_in))

  frac_neg : (v : Row (Pol (code_ring k)) (suc (q.p.n - 1))) → frac (M.⊟◌ v) ≡ F.⊖◌ (frac v)
  frac_neg v = neg_unique F (frac v) (frac (M.⊟◌ v)) (sym (frac_add v (M.⊟◌ v)) ∙ ap frac (v_add_neg M v) ∙ frac_zero)

  lift_frac : (a : List ℕ) → IsOver k.ops a
      → lift a ≡ frac (row_of_codes k n h.positive W J lattice.rows_in h.rows_in lattice.popov h.rows_popov E a)
  lift_frac a a_in = g_is (spread k.ops q W a) ∙ ap frac (spread_read W order_rows a a_in)

  longest_at : (row : List (List ℕ)) (j : ℕ) → length (entry_at row j) ≤ longest row
  longest_at [] j = omega arith
  longest_at (a ∷ row) zero = le-max_left (length a) (longest row)
  longest_at (a ∷ row) (suc j) = omega (arith, longest_at row j, le-max_right (length a) (longest row))

  ends_below : (v : List (List ℕ)) (d : ℕ) → longest v ≤ d → measure M (R v) ≤ d * n
  ends_below v d le =
      measure_bound M (R v) (d * n) (λ e past.
      ap (M.coef (R v)) (sym (position_is k n h.positive e))
      ∙ coef_short k n v (e / n) (e % n) (column_in k n h.positive e)
      (omega (arith, longest_at v (e % n), le, high e past (cases_lt (e / n) d))))
    where
      high : (e : ℕ) → d * n ≤ e → (e / n < d) ⊎ (d ≤ e / n) → d ≤ e / n
      high e past (inl less) = absurd (omega
          (arith, row_fits (e / n) n d n less (omega arith), div-add-mod' e n, mod_below e n h.positive, past))
      high e past (inr more) = more

  -- the codes of a row stand for it
  pub class_of_row : (v : List (List ℕ)) → IsRow k.ops n v → O (g v) → IsClassOf k q (g v) (codes_of_row k.ops q v)
  class_of_row v v_row v_in = record {
    codes = record {
      size = codes_length k n h.positive W J lattice.rows_in h.rows_in lattice.popov h.rows_popov all v
          ∙ ap (code_count n W J) all_is ∙ count_past n h.positive W J q.depth h.deep.bound rest;
      over = codes_over k n h.positive W J lattice.rows_in h.rows_in lattice.popov h.rows_popov all v v_row;
    };
    difference =
        subst I
        (frac_add (R v) (M.⊟◌ (L all a))
        ∙ ap₂ F.◌⊕◌ (sym (g_is v)) (frac_neg (L all a) ∙ ap F.⊖◌ (ap frac short ∙ sym (lift_frac a a_over))))
        (ideal_member (M.◌⊞◌ (R v) (M.⊟◌ (L all a)))
        (codes_class k n h.positive W J lattice.rows_in h.rows_in lattice.popov h.rows_popov within all v v_row
        (order_numerator (R v) (subst O (g_is v) v_in))
        (ends_below v (max q.depth (longest v)) (le-max_right q.depth (longest v)))));
  }
    where
      all : ℕ
      all = max q.depth (longest v) * n

      rest : ℕ
      rest = max q.depth (longest v) * n - E

      all_is : max q.depth (longest v) * n ≡ E + (max q.depth (longest v) * n - E)
      all_is = omega (
        arith,
        mul-le q.depth n (max q.depth (longest v)) n (le-max_left q.depth (longest v))
            (omega arith),
      )

      a : List ℕ
      a = codes_of_row k.ops q v

      a_over : IsOver k.ops (codes_of_row k.ops q v)
      a_over = codes_over k n h.positive W J lattice.rows_in h.rows_in lattice.popov h.rows_popov all v v_row

      L : ℕ → List ℕ → Row (Pol (code_ring k)) (suc (q.p.n - 1))
      L e b = row_of_codes k n h.positive W J lattice.rows_in h.rows_in lattice.popov h.rows_popov e b

      short : row_of_codes k n h.positive W J lattice.rows_in h.rows_in lattice.popov h.rows_popov all a
          ≡ row_of_codes k n h.positive W J lattice.rows_in h.rows_in lattice.popov h.rows_popov E a
      short = ap (λ e. L e a) all_is ∙ sum_past n h.positive W J q.depth h.deep.bound M.◌⊞◌ M.𝟎
          (λ x s j. M.◌·◌ (value k (term x s)) (R (row_at W j))) rest a

  -- what codes are lifted to is in the order
  pub lift_member : (a : List ℕ) → V a → O (lift a)
  lift_member a a_in =
      subst O (sym (lift_frac a a_in.over))
      (order_member (row_of_codes k n h.positive W J lattice.rows_in h.rows_in lattice.popov h.rows_popov E a)
      (sum_in_order k n h.positive W J lattice.rows_in h.rows_in lattice.popov h.rows_popov E a))

  abbrev gens : List (Functions k q.p)
  gens = map (function_of k q.p) (row_elems q.ideal)

  pub ideal_of : IsIdealOf F O I
  ideal_of = record {
    zero_in = span_zero F T 𝓢 gens;
    sum_in = λ a b a_in b_in. span_sum F T 𝓢 gens a b a_in b_in;
    neg_in = λ a a_in. subst I (neg_mul F F.𝟙 a ∙ ap F.⊖◌ (one_mul F a))
        (span_scale F T 𝓢 gens (F.⊖◌ F.𝟙) a (𝓢.neg_in F.𝟙 𝓢.one_in) a_in);
    scale_in = h.ideal.closed;
  }

  minus : F.⊖◌ F.𝟙 ≡ of_poly c (constant_poly k (k.neg 1))
  minus = ap F.⊖◌ (of_poly_one c) ∙ of_poly_neg c (polynomials k).𝟙 ∙ ap (of_poly c) (sym (minus_one k))

  -- codes that stand for the same are the same
  pub one_vector : (a b : List ℕ) → V a → V b → IsSameModulo F O I ideal_of (lift a) (lift b) → a ≡ b
  one_vector a b a_in b_in s =
      lists_same k (dimension q) a b a_in.size b_in.size a_in.over b_in.over
      (only_zeros k n h.positive W J lattice.rows_in h.rows_in lattice.popov h.rows_popov E x x_in.size x_in.over
      (ideal_numerator (row_of_codes k n h.positive W J lattice.rows_in h.rows_in lattice.popov h.rows_popov E x)
      (subst I (sym x_is ∙ lift_frac x x_in.over) s.difference)))
    where
      neg_in : k.neg 1 < k.size
      neg_in = k.laws.neg_below 1 k.laws.one_below

      y : List ℕ
      y = scale_list (raw_ring k.ops) (k.neg 1) b

      y_in : V (scale_list (raw_ring k.ops) (k.neg 1) b)
      y_in = scale_vector (k.neg 1) neg_in b b_in

      x : List ℕ
      x = add_lists (raw_ring k.ops) a (scale_list (raw_ring k.ops) (k.neg 1) b)

      x_in : V (add_lists (raw_ring k.ops) a (scale_list (raw_ring k.ops) (k.neg 1) b))
      x_in = sum_vector a y a_in y_in

      x_is : lift (add_lists (raw_ring k.ops) a (scale_list (raw_ring k.ops) (k.neg 1) b))
          ≡ F.◌⊕◌ (lift a) (F.⊖◌ (lift b))
      x_is =
          lift_add a y a_in y_in
          ∙ ap (F.◌⊕◌ (lift a))
          (lift_scale (k.neg 1) neg_in b b_in ∙ ap (λ u. F.◌⊗◌ u (lift b)) (sym minus) ∙ neg_mul F F.𝟙 (lift b)
          ∙ ap F.⊖◌ (one_mul F (lift b)))

  -- the rows that products are made of
  abbrev of_right : List ℕ → List (List (List ℕ))
  of_right b = map (λ rows. spread k.ops q rows b) q.products

  right_at : (b : List ℕ) (j : ℕ) → j < n → row_at (of_right b) j ≡ spread k.ops q (get_or q.products j []) b
  right_at b j less = get_or-map (λ rows. spread k.ops q rows b) q.products j [] []
      (omega (arith, less, h.products_size))

  products_rows : (j : ℕ) → j < n → (i : ℕ) → i < n → IsRow k.ops n (row_at (get_or q.products j []) i)
  products_rows j j_less i i_less = (h.products_are j i j_less i_less).row_in

  right_rows : (b : List ℕ) → IsOver k.ops b → (j : ℕ) → j < n → IsRow k.ops n (row_at (of_right b) j)
  right_rows b b_in j less = subst (IsRow k.ops n) (sym (right_at b j less))
      (spread_row (get_or q.products j []) (products_rows j less) b b_in)

  moved : (a b x : Functions k q.p) → F.◌⊗◌ a (F.◌⊗◌ x b) ≡ F.◌⊗◌ x (F.◌⊗◌ a b)
  moved a b x = sym (F.mul_assoc a x b) ∙ ap (λ u. F.◌⊗◌ u b) (F.mul_comm a x) ∙ F.mul_assoc x a b

  right_is : (b : List ℕ) → IsOver k.ops b → (j : ℕ) → j < n → g (row_at (of_right b) j) ≡ F.◌⊗◌ (w j) (lift b)
  right_is b b_in j less =
      ap g (right_at b j less)
      ∙ spread_function (get_or q.products j []) (products_rows j less) b b_in
      ∙ sym (sum_map n h.positive W J F.◌⊕◌ F.𝟘 (t w) F.◌⊕◌ F.𝟘 (t (λ i. g (row_at (get_or q.products j []) i)))
      (F.◌⊗◌ (w j)) (mul_zero F (w j)) (F.mul_add (w j))
      (λ x s i i_less. moved (w j) (w i) (of_poly c (value k (term x s)))
      ∙ ap (F.◌⊗◌ (of_poly c (value k (term x s)))) (sym (h.products_are j i less i_less).is))
      E b)
      ∙ ap (F.◌⊗◌ (w j)) (sym (lift_is b b_in))

  -- the row of a product stands for the product
  pub product_row : (a b : List ℕ) → V a → V b
      → IsRow k.ops n (spread k.ops q (of_right b) a) × (g (spread k.ops q (of_right b) a) ≡ F.◌⊗◌ (lift a) (lift b))
  product_row a b a_in b_in = (
    spread_row (of_right b) (right_rows b b_in.over) a a_in.over,
    spread_function (of_right b) (right_rows b b_in.over) a a_in.over
        ∙ sym (sum_map n h.positive W J F.◌⊕◌ F.𝟘 (t w) F.◌⊕◌ F.𝟘 (t (λ j. g (row_at (of_right b) j)))
        (λ u. F.◌⊗◌ u (lift b)) (zero_mul F (lift b)) (λ u v. add_mul F u v (lift b))
        (λ x s j less. F.mul_assoc (of_poly c (value k (term x s))) (w j) (lift b)
        ∙ ap (F.◌⊗◌ (of_poly c (value k (term x s)))) (sym (right_is b b_in.over j less)))
        E a)
        ∙ ap (λ u. F.◌⊗◌ u (lift b)) (sym (lift_is a a_in.over)),
  )

  pub product_class : (a b : List ℕ) → V a → V b → IsClassOf k q (F.◌⊗◌ (lift a) (lift b)) (product_codes k.ops q a b)
  product_class a b a_in b_in =
      let r = product_row a b a_in b_in in
      subst (λ z. IsClassOf k q z (product_codes k.ops q a b)) r.1
      (class_of_row (spread k.ops q (of_right b) a) r.0
      (subst O (sym r.1) (h.order.product_in (lift a) (lift b) (lift_member a a_in) (lift_member b b_in))))

  same_class : (z : Functions k q.p) (a : List ℕ) → IsClassOf k q z a → IsSameModulo F O I ideal_of (lift a) z
  same_class z a k_of = same_sym F O I ideal_of z (lift a) (record { difference = k_of.difference })

  codes_in : (a b : List ℕ) → V a → V b → V (product_codes k.ops q a b)
  codes_in a b a_in b_in = (product_class a b a_in b_in).codes

  product_is : (a b : List ℕ) → V a → V b
      → IsSameModulo F O I ideal_of (lift (product_codes k.ops q a b)) (F.◌⊗◌ (lift a) (lift b))
  product_is a b a_in b_in = same_class (F.◌⊗◌ (lift a) (lift b)) (product_codes k.ops q a b)
      (product_class a b a_in b_in)

  polynomial_member : (a : Polynomial k) → O (of_poly c a)
  polynomial_member a =
      subst O (F.mul_one (of_poly c a))
      (span_scale F T 𝓢 (map (function_of k q.p) (row_elems q.order)) (of_poly c a) F.𝟙
      (record { polynomial = a; value = refl }) h.order.one_in)

  pub quotient_algebra : IsClassOf k q F.𝟙 q.one → IsAlgebra k (class_algebra q)
  quotient_algebra one_is = record {
    unit_in = one_is.codes;
    product_in = codes_in;
    commutative = product_commutes F O I ideal_of V lift lift_member one_vector (product_codes k.ops q) codes_in
        product_is;
    associative = product_associates F O I ideal_of V lift lift_member one_vector (product_codes k.ops q) codes_in
        product_is;
    unit_times = product_unit F O I ideal_of V lift lift_member one_vector (product_codes k.ops q) codes_in product_is
        q.one one_is.codes (same_class F.𝟙 q.one one_is);
    distributive = product_adds F O I ideal_of V lift lift_member one_vector (product_codes k.ops q) codes_in product_is
        (add_lists (raw_ring k.ops)) sum_vector lift_add;
    linear = λ x a b x_in a_in b_in.
        product_scales F O I ideal_of V lift lift_member one_vector (product_codes k.ops q) codes_in product_is
        (scale_list (raw_ring k.ops) x) (of_poly c (constant_poly k x)) (polynomial_member (constant_poly k x))
        (scale_vector x x_in) (lift_scale x x_in) a b a_in b_in;
  }

  zeros_vector : V (replicate (dimension q) 0)
  zeros_vector = record { size = length-replicate {A = ℕ} (dimension q) 0; over = IsOver_zeros k (dimension q) }

  zeros_scaled : (m : ℕ) → scale_list (raw_ring k.ops) 0 (replicate m 0) ≡ replicate m 0
  zeros_scaled zero = refl
  zeros_scaled (suc m) = ap₂ ◌∷◌ (ap (λ x. x.0) (mul_zero (code_ring k).ring (code_ring k).𝟘)) (zeros_scaled m)

  lift_zeros : lift (replicate (dimension q) 0) ≡ F.𝟘
  lift_zeros =
      sym (ap lift (zeros_scaled (dimension q)))
      ∙ lift_scale 0 (zero_in k) (replicate (dimension q) 0) zeros_vector
      ∙ ap (λ u. F.◌⊗◌ u (lift (replicate (dimension q) 0))) (ap (of_poly c) (zero_term k 0) ∙ sym (of_poly_zero c))
      ∙ zero_mul F (lift (replicate (dimension q) 0))

  class_of : (z : Functions k q.p) (a : List ℕ) → V a → IsSameModulo F O I ideal_of (lift a) z → IsClassOf k q z a
  class_of z a a_in s = record { codes = a_in; difference = (same_sym F O I ideal_of (lift a) z s).difference }

  no_zero : (z : Functions k q.p) → F.◌⊕◌ z (F.⊖◌ F.𝟘) ≡ z
  no_zero z = ap (F.◌⊕◌ z) (neg_zero F) ∙ F.add_zero z

  pub has_classes : IsClassOf k q F.𝟙 q.one → HasClasses k q
  has_classes one_is = record {
    only = λ z a b a_of b_of.
        one_vector a b a_of.codes b_of.codes
        (same_trans F O I ideal_of (lift a) z (lift b) (same_class z a a_of)
        (same_sym F O I ideal_of (lift b) z (same_class z b b_of)));
    of_lifted = λ a a_in. class_of (lift a) a a_in (same_of F O I ideal_of (lift a) (lift a) refl);
    of_sum = λ z u a b a_of b_of.
        class_of (F.◌⊕◌ z u) (add_lists (raw_ring k.ops) a b) (sum_vector a b a_of.codes b_of.codes)
        (subst (λ x. IsSameModulo F O I ideal_of x (F.◌⊕◌ z u)) (sym (lift_add a b a_of.codes b_of.codes))
        (same_sum F O I ideal_of (lift a) z (lift b) u (same_class z a a_of) (same_class u b b_of)));
    of_product = λ z u a b z_in u_in a_of b_of.
        class_of (F.◌⊗◌ z u) (product_codes k.ops q a b) (codes_in a b a_of.codes b_of.codes)
        (same_trans F O I ideal_of (lift (product_codes k.ops q a b)) (F.◌⊗◌ (lift a) (lift b)) (F.◌⊗◌ z u)
        (product_is a b a_of.codes b_of.codes)
        (same_trans F O I ideal_of (F.◌⊗◌ (lift a) (lift b)) (F.◌⊗◌ z (lift b)) (F.◌⊗◌ z u)
        (same_right F O I ideal_of (lift b) (lift a) z (lift_member b b_of.codes) (same_class z a a_of))
        (same_scaled F O I ideal_of z (lift b) u z_in (same_class u b b_of))));
    of_one = one_is;
    of_ideal = λ z. (
      λ z_of. subst I (ap (λ x. F.◌⊕◌ z (F.⊖◌ x)) lift_zeros ∙ no_zero z) z_of.difference,
      λ z_in. record {
        codes = zeros_vector;
        difference = subst I
            (sym (ap (λ x. F.◌⊕◌ z (F.⊖◌ x)) lift_zeros ∙ no_zero z)) z_in;
      },
    );
  }

  -- the row that codes are lifted to
  pub lifted_row : (a : List ℕ) → V a → IsRow k.ops n (spread k.ops q q.order.rows a)
  lifted_row a a_in = spread_row q.order.rows order_rows a a_in.over

  -- the products of row i are rows
  pub products_in : (i : ℕ) → i < n → All (IsRow k.ops n) (get_or q.products i [])
  products_in i less j d less' =
      subst (IsRow k.ops n) (any_default (get_or q.products i []) j [] d less')
      (products_rows i less j (omega (arith, less', h.products_each i less)))

  -- the rows that products are made of
  pub multiples_size : (b : List ℕ) → length (map (λ rows. spread k.ops q rows b) q.products) ≡ n
  multiples_size b = length-map q.products (λ rows. spread k.ops q rows b) ∙ h.products_size

  pub multiples_in : (b : List ℕ) → IsOver k.ops b
      → All (IsRow k.ops n) (map (λ rows. spread k.ops q rows b) q.products)
  multiples_in b b_in j d less =
      subst (IsRow k.ops n) (any_default (map (λ rows. spread k.ops q rows b) q.products) j [] d less)
      (right_rows b b_in j (omega (arith, less, multiples_size b)))

-- the codes that the call reads, in the words of the quotient
pub codes_read : (k : CodeField) (q : QuotientValue) (m d : ℕ) (W J : List (List (List ℕ))) (row v : List (List ℕ))
    (codes : List ℕ) → m ≡ q.p.n → W ≡ q.order.rows → J ≡ q.rows → d ≡ q.depth → row ≡ v
    → codes ≡ codes_below m W J k.ops (max d (longest row) * m) row → codes ≡ codes_of_row k.ops q v
codes_read k q m d W J row v codes m_is W_is J_is d_is row_is codes_is =
    codes_is
    ∙ ap₂ (λ m W. codes_below m W J k.ops (max d (longest row) * m) row) m_is W_is
    ∙ ap₂ (λ J d. codes_below q.p.n q.order.rows J k.ops (max d (longest row) * q.p.n) row) J_is d_is
    ∙ ap (λ row. codes_below q.p.n q.order.rows q.rows k.ops (max q.depth (longest row) * q.p.n) row) row_is
