-- The nilpotent classes of an order modulo an ideal: the members of the order with a power in the ideal, from a basis
-- of the nilpotent elements of the quotient.
use Rattle.std.proofs.Common.{◌≡◌, ℕ, zero, suc, ◌+◌, ◌-◌, ◌<◌, List, [], ◌∷◌, ◌++◌, length, get_or, map, take, replicate, refl, sym, ◌∙◌, ap, ap₂, subst, arith, All}
use Rattle.std.proofs.lemmas.List.{length-replicate, take_more}
use Rattle.std.proofs.lemmas.List.Elements.{All-nil, All-cons, All-head, All-tail, All-append, All-map}
use Rattle.ring_lemmas.specs.Ring.{CommRing, pow}
use Rattle.ring_lemmas.specs.Lists.{scale_list}
use Rattle.ring_lemmas.specs.Rows.{Row}
use Rattle.ring_theory.specs.Subsets.{IsSubring, Span}
use Rattle.ring_lemmas.proofs.Ring.{zero_add, add_sub}
use Rattle.ring_theory.proofs.Subsets.{span_zero}
use Rattle.ff_fields.specs.Field.{CodeField}
use Rattle.ff_fields.specs.Code.{raw_ring}
use Rattle.ff_fields.specs.Over.{IsOver, IsOver_head, IsOver_tail, IsOver_zeros}
use Rattle.ff_poly.specs.Value.{value}
use Rattle.ff_poly.specs.Polynomials.{Polynomial, constant_poly}
use Rattle.ff_poly.specs.Popov.{IsRow}
use Rattle.linear_theory.specs.Module.{combination}
use Rattle.ff_linalg.specs.Matrix.{MatrixValue}
use Rattle.ff_linalg.specs.Space.{row_ops}
use Rattle.ff_linalg.proofs.Bridge.{own_row_codes}
use Rattle.ff_falg.specs.Algebras.{IsVector, IsNilpotentVector, power}
use Rattle.ff_falg.specs.Spaces.{IsEchelonBasisMatrix}
use Rattle.function_field.specs.Functions.{of_poly, over, IsPolynomial}
use Rattle.function_field.specs.Values.{ElemValue, IsElem, Functions, functions, function_of, equation_of}
use Rattle.function_field.proofs.ScalarRings.{polynomials_subring}
use Rattle.ff_lattice.specs.Lattices.{Contains, IsSumOfMembers}
use Rattle.ff_lattice.specs.Quotients.{QuotientValue, IsQuotient, IsClassOf, HasClasses, dimension, lifted, codes_of_row, class_algebra}
use Rattle.ff_lattice.proofs.Elements.{elem_over, in_span_of}
use Rattle.ff_lattice.proofs.Spaces.{codes_row, codes_row_length, codes_row_over, read_codes_row}
use Rattle.ff_lattice.proofs.SumsAndProducts.{map_join}
use Rattle.ff_lattice.proofs.QuotientLaws.{den_some, lift_add, lift_scale, sum_vector, scale_vector, class_of_row, lift_member, ideal_of, has_classes}
use Rattle.ff_lattice.proofs.OrderRows.{all_from_map}
use Rattle.ff_popov.proofs.Entries.{any_default}
use Rattle.ff_order.specs.Steps.{AreLifts, IsNilpotentModulo, IsNilpotentBasis}

module _ (k : CodeField) (q : QuotientValue) (h : IsQuotient k q) where
  abbrev F : CommRing (Functions k q.p)
  F = functions k q.p

  abbrev T : Functions k q.p → Type 0
  T = IsPolynomial (equation_of k q.p)

  abbrev 𝓢 : IsSubring (functions k q.p).ops (IsPolynomial (equation_of k q.p))
  𝓢 = polynomials_subring (equation_of k q.p)

  abbrev O : Functions k q.p → Type 0
  O z = Contains k q.p q.order z

  abbrev I : Functions k q.p → Type 0
  I z = Contains k q.p q.ideal z

  abbrev V : List ℕ → Type 0
  V a = IsVector k.ops (dimension q) a

  abbrev lift : List ℕ → Functions k q.p
  lift a = function_of k q.p (lifted k.ops q a)

  classes : HasClasses k q
  classes = has_classes k q h.frame h.one_is

  -- ---- powers and classes

  order_power : (z : Functions k q.p) → O z → (e : ℕ) → O (pow (functions k q.p).ops z e)
  order_power z z_in zero = h.frame.order.one_in
  order_power z z_in (suc e) = h.frame.order.product_in z (pow F.ops z e) z_in (order_power z z_in e)

  power_class : (z : Functions k q.p) (a : List ℕ) → O z → IsClassOf k q z a → (e : ℕ)
      → IsClassOf k q (pow (functions k q.p).ops z e) (power k.ops (class_algebra q) a e)
  power_class z a z_in a_of zero = classes.of_one
  power_class z a z_in a_of (suc e) =
      classes.of_product z (pow F.ops z e) a (power k.ops (class_algebra q) a e) z_in (order_power z z_in e) a_of
      (power_class z a z_in a_of e)

  -- what nilpotent codes are lifted to has a power in the ideal
  lift_nilpotent : (a : List ℕ) → V a → IsNilpotentVector k.ops (class_algebra q) a
      → IsNilpotentModulo k q.p q.order q.ideal (lift a)
  lift_nilpotent a a_in n = record {
    within = a_member;
    nilpotent = record {
      exponent = n.exponent;
      power_in =
          h.frame.ideal.closed (lift a) (pow F.ops (lift a) n.exponent) a_member
          ((classes.of_ideal (pow F.ops (lift a) n.exponent)).0
          (subst (IsClassOf k q (pow F.ops (lift a) n.exponent)) n.is
          (power_class (lift a) a a_member (classes.of_lifted a a_in) n.exponent)));
    };
  }
    where
      a_member : O (lift a)
      a_member = lift_member k q h.frame a a_in

  -- a row of polynomials, as a row of codes
  abbrev row_codes : Row (Polynomial k) (suc (q.p.n - 1)) → List (List ℕ)
  row_codes v = codes_row k (suc (q.p.n - 1)) v

  row_codes_in : (v : Row (Polynomial k) (suc (q.p.n - 1))) → IsRow k.ops q.p.n (row_codes v)
  row_codes_in v =
      let positive = h.frame.positive in
      let size : suc (q.p.n - 1) ≡ q.p.n = omega arith in
      record { size = codes_row_length k (suc (q.p.n - 1)) v ∙ size; over = codes_row_over k (suc (q.p.n - 1)) v }

  row_codes_function : (v : Row (Polynomial k) (suc (q.p.n - 1)))
      → function_of k q.p (record { num = row_codes v; den = q.order.den })
      ≡ over (equation_of k q.p) v (value k q.order.den) (den_some k q h.frame)
  row_codes_function v =
      elem_over k q.p q.order.den (den_some k q h.frame) (row_codes v)
      ∙ ap (λ u. over (equation_of k q.p) u (value k q.order.den) (den_some k q h.frame))
      (read_codes_row k (suc (q.p.n - 1)) v)

  -- each member of the order has codes
  codes_for : (z : Functions k q.p) → O z → (a : List ℕ) × IsClassOf k q z a
  codes_for z z_in =
      let m = (in_span_of k q.p q.order.den (den_some k q h.frame) q.order.rows z).0 z_in in
      let is : function_of k q.p (record { num = row_codes m.numerator; den = q.order.den })
      ≡ z = row_codes_function m.numerator ∙ sym m.is in (
        codes_of_row k.ops q (row_codes m.numerator),
        subst (λ x. IsClassOf k q x (codes_of_row k.ops q (row_codes m.numerator))) is
            (class_of_row k q h.frame (row_codes m.numerator) (row_codes_in m.numerator) (subst O (sym is) z_in)),
      )

  -- codes of a member with a power in the ideal are nilpotent
  codes_nilpotent : (z : Functions k q.p) (a : List ℕ) → IsNilpotentModulo k q.p q.order q.ideal z → IsClassOf k q z a
      → IsNilpotentVector k.ops (class_algebra q) a
  codes_nilpotent z a n a_of = record {
    exponent = suc n.nilpotent.exponent;
    is =
        classes.only (pow F.ops z (suc n.nilpotent.exponent))
        (power k.ops (class_algebra q) a (suc n.nilpotent.exponent)) (replicate (dimension q) 0)
        (power_class z a n.within a_of (suc n.nilpotent.exponent))
        ((classes.of_ideal (pow F.ops z (suc n.nilpotent.exponent))).1 n.nilpotent.power_in);
  }

  -- ---- combinations of codes

  zeros_vector : V (replicate (dimension q) 0)
  zeros_vector = record { size = length-replicate {A = ℕ} (dimension q) 0; over = IsOver_zeros k (dimension q) }

  abbrev combined : List ℕ → List (List ℕ) → List ℕ
  combined cs rows = combination (row_ops k.ops (dimension q)) cs rows

  combined_vector : (cs : List ℕ) (rows : List (List ℕ)) → IsOver k.ops cs → All V rows → V (combined cs rows)
  combined_vector [] rows cs_in rows_in = zeros_vector
  combined_vector (c ∷ cs) [] cs_in rows_in = zeros_vector
  combined_vector (c ∷ cs) (r ∷ rows) cs_in rows_in =
      sum_vector k q h.frame (scale_list (raw_ring k.ops) c r) (combined cs rows)
      (scale_vector k q h.frame c (IsOver_head cs_in) r (All-head V r rows rows_in))
      (combined_vector cs rows (IsOver_tail cs_in) (All-tail V r rows rows_in))

  abbrev Sum : List (Functions k q.p) → Functions k q.p → Type 0
  Sum fs = IsSumOfMembers k q.p (Span (functions k q.p).ops (IsPolynomial (equation_of k q.p)) fs) (Contains k q.p q.ideal)

  zeros_sum : (fs : List (Functions k q.p)) → Sum fs (lift (replicate (dimension q) 0))
  zeros_sum fs = record {
    left = F.𝟘;
    left_in = span_zero F T 𝓢 fs;
    right = lift (replicate (dimension q) 0);
    right_in = (classes.of_ideal (lift (replicate (dimension q) 0))).0
        (classes.of_lifted (replicate (dimension q) 0) zeros_vector);
    is = sym (zero_add F _);
  }

  -- a combination of codes is lifted to a combination, up to the ideal
  lift_combined : (cs : List ℕ) (rows : List (List ℕ)) → IsOver k.ops cs → All V rows
      → Sum (map lift rows) (lift (combined cs rows))
  lift_combined [] rows cs_in rows_in = zeros_sum (map lift rows)
  lift_combined (c ∷ cs) [] cs_in rows_in = zeros_sum []
  lift_combined (c ∷ cs) (r ∷ rows) cs_in rows_in =
      let r_in = All-head V r rows rows_in in
      let rest = lift_combined cs rows (IsOver_tail cs_in) (All-tail V r rows rows_in) in
      let s = of_poly (equation_of k q.p) (constant_poly k c) in
      record {
        left = F.◌⊕◌ (F.◌⊗◌ s (lift r)) rest.left;
        left_in = record {
          scalar = s;
          scalar_in = record { polynomial = constant_poly k c; value = refl };
          rest = rest.left;
          rest_in = rest.left_in;
          is = refl;
        };
        right = rest.right;
        right_in = rest.right_in;
        is =
            lift_add k q h.frame (scale_list (raw_ring k.ops) c r) (combined cs rows)
            (scale_vector k q h.frame c (IsOver_head cs_in) r r_in)
            (combined_vector cs rows (IsOver_tail cs_in) (All-tail V r rows rows_in))
            ∙ ap₂ F.◌⊕◌ (lift_scale k q h.frame c (IsOver_head cs_in) r r_in) rest.is
            ∙ sym (F.add_assoc _ rest.left rest.right);
      }

  -- ---- a basis of the nilpotent classes

  module _ (m : MatrixValue) (basis : IsEchelonBasisMatrix k.ops (dimension q)
      (IsNilpotentVector k.ops (class_algebra q)) m) where
    abbrev Modulo : Functions k q.p → Type 0
    Modulo = IsNilpotentModulo k q.p q.order q.ideal

    pub rows_in : All V m.rows
    rows_in j d less = record { size = basis.shape.each j d less; over = basis.over.each j d less }

    row_vector : (r : ℕ) → r < length m.rows → V (get_or m.rows r [])
    row_vector r less = rows_in r [] less

    rows_nilpotent : (r : ℕ) → r < length m.rows → IsNilpotentVector k.ops (class_algebra q) (get_or m.rows r [])
    rows_nilpotent r less =
        ((basis.row_space (get_or m.rows r [])).0
        (own_row_codes k m basis.over.each (λ j d l. basis.shape.each j d l ∙ sym basis.shape.col_count) r less)).1

    sum_more : (fs : List (Functions k q.p)) (z x : Functions k q.p) → Sum fs x → I (F.◌⊕◌ z (F.⊖◌ x)) → Sum fs z
    sum_more fs z x s difference =
        let regroup : F.◌⊕◌ (F.◌⊕◌ s.left s.right) (F.◌⊕◌ z (F.⊖◌ x)) ≡ F.◌⊕◌ s.left (F.◌⊕◌ s.right (F.◌⊕◌ z (F.⊖◌ x)))
        = F.add_assoc s.left s.right (F.◌⊕◌ z (F.⊖◌ x)) in
        record {
          left = s.left;
          left_in = s.left_in;
          right = F.◌⊕◌ s.right (F.◌⊕◌ z (F.⊖◌ x));
          right_in = (ideal_of k q h.frame).sum_in s.right (F.◌⊕◌ z (F.⊖◌ x)) s.right_in difference;
          is = sym (add_sub F z x) ∙ ap (λ y. F.◌⊕◌ y (F.◌⊕◌ z (F.⊖◌ x))) s.is ∙ regroup;
        }

    spanning : (z : Functions k q.p) → Modulo z → Sum (map lift m.rows) z
    spanning z n =
        let a = codes_for z n.within in
        let s = (basis.row_space a.0).1 (a.1.codes, codes_nilpotent z a.0 n a.1) in
        let is : a.0 ≡ combined s.coefficients m.rows
        = s.is ∙ ap (λ w. combination (row_ops k.ops w) s.coefficients m.rows) basis.shape.col_count in
        sum_more (map lift m.rows) z (lift a.0)
        (subst (λ b. Sum (map lift m.rows) (lift b)) (sym is) (lift_combined s.coefficients m.rows s.over rows_in))
        a.1.difference

    all_nilpotent : All (λ a. Modulo (lift a)) m.rows
    all_nilpotent j d less =
        subst (λ a. Modulo (lift a)) (any_default m.rows j [] d less)
        (lift_nilpotent (get_or m.rows j []) (row_vector j less) (rows_nilpotent j less))

    -- elements that are lifted from its rows
    pub nilpotent_basis : (zs : List ElemValue) → AreLifts k q m.rows zs → IsNilpotentBasis k q.p q.order q.ideal zs
    nilpotent_basis zs lifts = record {
      elems = lifts.elems;
      nilpotent =
          all_from_map (function_of k q.p) Modulo zs
          (subst (All Modulo) (sym lifts.functions) (All-map Modulo lift m.rows all_nilpotent));
      spanning = λ z n.
          subst (λ fs. IsSumOfMembers k q.p (Span (functions k q.p).ops (IsPolynomial (equation_of k q.p)) fs)
          (Contains k q.p q.ideal) z)
          (sym lifts.functions) (spanning z n);
    }

-- no element, and one more
module _ (k : CodeField) (q : QuotientValue) where
  abbrev f : ElemValue → Functions k q.p
  f x = function_of k q.p x

  abbrev lifting : List ℕ → Functions k q.p
  lifting b = function_of k q.p (lifted k.ops q b)

  pub lifts_none : AreLifts k q [] []
  lifts_none = record { elems = All-nil (IsElem k.ops q.p.n); functions = refl }

  pub lifts_more : (codes : List (List ℕ)) (old new : List ElemValue) (i : ℕ) (a : List ℕ) (z : ElemValue)
      → i < length codes → a ≡ get_or codes i []
      → IsElem k.ops q.p.n z → function_of k q.p z ≡ function_of k q.p (lifted k.ops q a) → new ≡ old ++ z ∷ []
      → AreLifts k q (take i codes) old
      → AreLifts k q (take (i + 1) codes) new
  lifts_more codes old new i a z less a_is z_in z_is new_is so_far = record {
    elems = subst (All (IsElem k.ops q.p.n)) (sym new_is)
        (All-append (IsElem k.ops q.p.n) old (z ∷ []) so_far.elems
        (All-cons (IsElem k.ops q.p.n) z [] z_in (All-nil (IsElem k.ops q.p.n))));
    functions =
        ap (map f) new_is ∙ map_join f old (z ∷ [])
        ∙ ap₂ (λ us v. us ++ v ∷ []) so_far.functions (z_is ∙ ap lifting a_is)
        ∙ sym (ap (map lifting) (take_more codes i [] less) ∙ map_join lifting (take i codes) (get_or codes i [] ∷ []));
  }
