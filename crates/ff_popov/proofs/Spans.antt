-- The lattice of rows of codes is the span of what they stand for.
use Rattle.std.proofs.Common.{◌≡◌, ℕ, zero, suc, ◌-◌, ◌<◌, List, [], ◌∷◌, length, get_or, refl, sym, ap, ap₂, ◌∙◌, arith, subst}
use Rattle.std.specs.Prelude.{All}
use Rattle.std.proofs.lemmas.List.{length-map, length-replicate}
use Rattle.std.proofs.lemmas.List.Elements.{All-nil, All-cons, All-replicate}
use Rattle.ff_fields.specs.Field.{CodeField}
use Rattle.ff_fields.specs.Code.{code_ring, raw_ring}
use Rattle.ff_fields.specs.Over.{IsOver, IsOver_nil}
use Rattle.ring_lemmas.specs.Lists.{tail_of, add_lists}
use Rattle.ring_lemmas.specs.Rows.{Row}
use Rattle.ring_lemmas.specs.Polynomials.{Pol}
use Rattle.ff_poly.specs.Words.{IsPoly, sum_of, product_of}
use Rattle.ff_poly.specs.PolyOver.{IsOver_sum_of, IsOver_product_of, IsPoly_poly_of}
use Rattle.ff_poly.specs.Value.{value}
use Rattle.ff_poly.specs.Polynomials.{codes_of, IsOver_codes_of, value_codes_of}
use Rattle.ff_poly.specs.Popov.{IsRow, sum_of_rows, multiple_of_row, combination_list, IsCombinationList, InRowSpan, HaveSameRowSpan}
use Rattle.popov_theory.specs.Module.{PolynomialModule}
use Rattle.popov_theory.specs.Span.{combine}
use Rattle.popov_theory.specs.Span as theory
use Rattle.popov_theory.proofs.PolynomialRows.{row_module_zero, row_module_add, row_module_scale}
use Rattle.ff_popov.specs.Reading.{read_row, row_space, read_rows}
use Rattle.ff_popov.proofs.ReadRows.{read_sum, read_multiple, read_zeros, same_from_read}

-- the list of f 0, f 1, up to f (n - 1)
pub listed : {X : Type 0} → ℕ → (ℕ → X) → List X
listed zero f = []
listed (suc n) f = f 0 ∷ listed n (λ i. f (suc i))

pub listed_length : {X : Type 0} (n : ℕ) (f : ℕ → X) → length (listed n f) ≡ n
unfolding listed
listed_length zero f = refl
listed_length (suc n) f = ap suc (listed_length n (λ i. f (suc i)))

pub listed_at : {X : Type 0} (n : ℕ) (f : ℕ → X) (i : ℕ) (d : X) → i < n → get_or (listed n f) i d ≡ f i
unfolding listed
listed_at zero f i d less = absurd (omega (arith, less))
listed_at (suc n) f zero d less = refl
listed_at (suc n) f (suc i) d less = listed_at n (λ j. f (suc j)) i d (omega (arith, less))

module _ (k : CodeField) where
  sum_length : (u v : List (List ℕ)) → length u ≡ length v → length (sum_of_rows k.ops u v) ≡ length u
  sum_length [] v size = refl
  sum_length (a ∷ u) [] size = absurd (omega (arith, size))
  sum_length (a ∷ u) (b ∷ v) size = ap suc (sum_length u v (omega (arith, size)))

  sum_over : (u v : List (List ℕ)) → All (IsOver k.ops) u → All (IsOver k.ops) v
      → All (IsOver k.ops) (sum_of_rows k.ops u v)
  sum_over [] v u_in v_in = All-nil (IsOver k.ops)
  sum_over (a ∷ u) [] u_in v_in = All-nil (IsOver k.ops)
  sum_over (a ∷ u) (b ∷ v) u_in v_in =
      All-cons (IsOver k.ops) (sum_of k.ops a b) (sum_of_rows k.ops u v)
      (IsOver_sum_of k (u_in 0 [] (omega arith)) (v_in 0 [] (omega arith)))
      (sum_over u v (λ j d less. u_in (suc j) d (omega (arith, less)))
      (λ j d less. v_in (suc j) d (omega (arith, less))))

  sum_poly : (u v : List (List ℕ)) → All IsPoly (sum_of_rows k.ops u v)
  sum_poly [] v = All-nil IsPoly
  sum_poly (a ∷ u) [] = All-nil IsPoly
  sum_poly (a ∷ u) (b ∷ v) = All-cons IsPoly (sum_of k.ops a b) (sum_of_rows k.ops u v)
      (IsPoly_poly_of (add_lists (raw_ring k.ops) a b)) (sum_poly u v)

  pub multiple_over : (c : List ℕ) (v : List (List ℕ)) → IsOver k.ops c → All (IsOver k.ops) v
      → All (IsOver k.ops) (multiple_of_row k.ops c v)
  multiple_over c [] c_in v_in = All-nil (IsOver k.ops)
  multiple_over c (a ∷ v) c_in v_in =
      All-cons (IsOver k.ops) (product_of k.ops c a) (multiple_of_row k.ops c v)
      (IsOver_product_of k c_in (v_in 0 [] (omega arith)))
      (multiple_over c v c_in (λ j d less. v_in (suc j) d (omega (arith, less))))

  module _ (w : ℕ) where
    abbrev M : PolynomialModule (code_ring k) (Row (Pol (code_ring k)) (suc (w - 1)))
    M = row_space k w

    abbrev R : List (List ℕ) → Row (Pol (code_ring k)) (suc (w - 1))
    R v = read_row k (suc (w - 1)) v

    pub multiple_row : (c : List ℕ) (v : List (List ℕ)) → IsOver k.ops c → IsRow k.ops w v
        → IsRow k.ops w (multiple_of_row k.ops c v)
    multiple_row c v c_in v_row = record
        { size = length-map v (product_of k.ops c) ∙ v_row.size; over = multiple_over c v c_in v_row.over }

    -- what a multiple stands for
    pub space_multiple : (c : List ℕ) (v : List (List ℕ)) → IsOver k.ops c → All (IsOver k.ops) v
        → R (multiple_of_row k.ops c v) ≡ M.◌·◌ (value k c) (R v)
    space_multiple c v c_in v_in = read_multiple k (suc (w - 1)) c v c_in v_in
        ∙ sym (row_module_scale (code_ring k) (w - 1) (value k c) (R v))

    -- a combination is a row of the width
    pub combination_row : (cs : List (List ℕ)) (rows : List (List (List ℕ))) → All (IsOver k.ops) cs
        → All (IsRow k.ops w) rows → IsRow k.ops w (combination_list k.ops w cs rows)
    combination_row [] rows cs_in all = record
        { size = length-replicate w []; over = All-replicate (IsOver k.ops) w [] IsOver_nil }
    combination_row (c ∷ cs) [] cs_in all = record
        { size = length-replicate w []; over = All-replicate (IsOver k.ops) w [] IsOver_nil }
    combination_row (c ∷ cs) (r ∷ rows) cs_in all =
        let first = multiple_row c r (cs_in 0 [] (omega arith)) (all 0 [] (omega arith)) in
        let rest = combination_row cs rows (λ j d less. cs_in (suc j) d (omega (arith, less)))
        (λ j d less. all (suc j) d (omega (arith, less))) in
        record {
          size = sum_length (multiple_of_row k.ops c r) (combination_list k.ops w cs rows) (first.size ∙ sym rest.size)
              ∙ first.size;
          over = sum_over (multiple_of_row k.ops c r) (combination_list k.ops w cs rows) first.over rest.over;
        }

    combination_poly : (cs : List (List ℕ)) (rows : List (List (List ℕ)))
        → All IsPoly (combination_list k.ops w cs rows)
    combination_poly [] rows = All-replicate IsPoly w [] (record { trimmed = tt })
    combination_poly (c ∷ cs) [] = All-replicate IsPoly w [] (record { trimmed = tt })
    combination_poly (c ∷ cs) (r ∷ rows) = sum_poly (multiple_of_row k.ops c r) (combination_list k.ops w cs rows)

    -- what a combination stands for
    pub combination_read : (cs : List (List ℕ)) (rows : List (List (List ℕ))) → length cs ≡ length rows
        → All (IsOver k.ops) cs → All (IsRow k.ops w) rows
        → R (combination_list k.ops w cs rows) ≡ combine M (λ i. value k (get_or cs i [])) (read_rows k w rows)
    combination_read [] [] size cs_in all = read_zeros k (suc (w - 1)) w ∙ sym (row_module_zero (code_ring k) (w - 1))
    combination_read [] (r ∷ rows) size cs_in all = absurd (omega (arith, size))
    combination_read (c ∷ cs) [] size cs_in all = absurd (omega (arith, size))
    combination_read (c ∷ cs) (r ∷ rows) size cs_in all =
        let c_in = cs_in 0 [] (omega arith) in
        let r_row = all 0 [] (omega arith) in
        let cs_rest = λ (j : ℕ) (d : List ℕ) (less : j < length cs). cs_in (suc j) d (omega (arith, less)) in
        let all_rest = λ (j : ℕ) (d : List (List ℕ)) (less : j < length rows). all (suc j) d (omega (arith, less)) in
        let first = multiple_row c r c_in r_row in
        let rest = combination_row cs rows cs_rest all_rest in
        read_sum k (suc (w - 1)) (multiple_of_row k.ops c r) (combination_list k.ops w cs rows) (first.size
        ∙ sym rest.size)
        first.over rest.over
        ∙ sym (row_module_add (code_ring k) (w - 1) (R (multiple_of_row k.ops c r)) (R
        (combination_list k.ops w cs rows)))
        ∙ ap₂ M.◌⊞◌ (space_multiple c r c_in r_row.over)
        (combination_read cs rows (omega (arith, size)) cs_rest all_rest)

    -- members of the lattice are rows without zeros on top
    pub member_row : (rows : List (List (List ℕ))) → All (IsRow k.ops w) rows → (v : List (List ℕ))
        → InRowSpan k.ops w rows v → IsRow k.ops w v
    member_row rows all v v_in = subst (IsRow k.ops w) (sym v_in.is.is)
        (combination_row v_in.coefficients rows v_in.is.over all)

    pub member_poly : (rows : List (List (List ℕ))) (v : List (List ℕ)) → InRowSpan k.ops w rows v → All IsPoly v
    member_poly rows v v_in = subst (All IsPoly) (sym v_in.is.is) (combination_poly v_in.coefficients rows)

    pub to_space : (rows : List (List (List ℕ))) → All (IsRow k.ops w) rows → (v : List (List ℕ))
        → InRowSpan k.ops w rows v → theory.InSpan M (read_rows k w rows) (R v)
    to_space rows all v v_in = record {
      coefficients = λ i. value k (get_or v_in.coefficients i []);
      is = ap R v_in.is.is ∙ combination_read v_in.coefficients rows v_in.is.size v_in.is.over all;
    }

    pub combine_same : {V : Type 0} (N : PolynomialModule (code_ring k) V) (rs : List V) (c d : ℕ → Pol (code_ring k))
        → ((i : ℕ) → i < length rs → c i ≡ d i) → combine N c rs ≡ combine N d rs
    combine_same N [] c d h = refl
    combine_same N (r ∷ rs) c d h =
        ap₂ N.◌⊞◌ (ap (λ p. N.◌·◌ p r) (h 0 (omega arith)))
        (combine_same N rs (tail_of c) (tail_of d) (λ i less. h (suc i) (omega (arith, less))))

    -- a row with these coefficients
    pub combination_from : (rows : List (List (List ℕ))) → All (IsRow k.ops w) rows → (v : List (List ℕ))
        → IsRow k.ops w v → All IsPoly v → (cs : List (List ℕ)) → length cs ≡ length rows → All (IsOver k.ops) cs
        → R v ≡ combine M (λ i. value k (get_or cs i [])) (read_rows k w rows) → IsCombinationList k.ops w rows v cs
    combination_from rows all v v_row v_poly cs size cs_in is = record {
      size = size;
      over = cs_in;
      is =
          same_from_read k w v (combination_list k.ops w cs rows) v_row (combination_row cs rows cs_in all) v_poly
          (combination_poly cs rows)
          (is ∙ sym (combination_read cs rows size cs_in all));
    }

    pub from_space : (rows : List (List (List ℕ))) → All (IsRow k.ops w) rows → (v : List (List ℕ)) → IsRow k.ops w v
        → All IsPoly v → theory.InSpan M (read_rows k w rows) (R v) → InRowSpan k.ops w rows v
    from_space rows all v v_row v_poly v_in = record {
      coefficients = cs;
      is = combination_from rows all v v_row v_poly cs (listed_length (length rows) f)
          (λ i d less. subst (IsOver k.ops)
          (sym (listed_at (length rows) f i d (omega (arith, less, listed_length (length rows) f))))
          (IsOver_codes_of k (v_in.coefficients i)))
          (v_in.is ∙ combine_same M (read_rows k w rows) v_in.coefficients (λ i. value k (get_or cs i [])) (λ i less.
          sym (ap (value k) (listed_at (length rows) f i [] (omega (arith, less, length-map rows R)))
          ∙ value_codes_of k (v_in.coefficients i))));
    }
      where
        f : ℕ → List ℕ
        f i = codes_of k (v_in.coefficients i)

        cs : List (List ℕ)
        cs = listed (length rows) (λ i. codes_of k (v_in.coefficients i))

    -- rows whose spans are the same have the same lattice, and the other way round
    pub same_lattice : (rows rows' : List (List (List ℕ))) → All (IsRow k.ops w) rows → All (IsRow k.ops w) rows'
        → theory.HaveSameSpan M (read_rows k w rows) (read_rows k w rows') → HaveSameRowSpan k.ops w rows rows'
    same_lattice rows rows' all all' h = record {
      left = λ v v_in. from_space rows' all' v (member_row rows all v v_in) (member_poly rows v v_in)
          (h.left.within (R v) (to_space rows all v v_in));
      right = λ v v_in. from_space rows all v (member_row rows' all' v v_in) (member_poly rows' v v_in)
          (h.right.within (R v) (to_space rows' all' v v_in));
    }
