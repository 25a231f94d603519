-- Ideals of orders of codes in the words of the theory; and those that are maximal: exactly those modulo which the
-- order is a field.
use Rattle.std.proofs.Common.{◌≡◌, ℕ, suc, ◌-◌, ◌↔◌, List, replicate, sym, ◌∙◌, ap, subst, arith}
use Rattle.ring_lemmas.specs.Ring.{CommRing}
use Rattle.ring_lemmas.specs.Rows.{Row}
use Rattle.ring_theory.specs.Subsets.{IsModule}
use Rattle.ring_theory.proofs.Subsets.{span_module}
use Rattle.prime_theory.specs.Ideals as theory
use Rattle.prime_theory.specs.Places.{IsMaximalIdeal}
use Rattle.ff_fields.specs.Field.{CodeField}
use Rattle.ff_poly.specs.Value.{value}
use Rattle.ff_poly.specs.Polynomials.{Polynomial}
use Rattle.ff_poly.specs.Popov.{IsRow}
use Rattle.ff_falg.specs.Algebras.{IsVector, IsFieldAlgebra}
use Rattle.function_field.specs.Functions.{IsPolynomial, over}
use Rattle.function_field.specs.Values.{PresValue, Functions, functions, function_of, equation_of}
use Rattle.function_field.proofs.ScalarRings.{polynomials_subring}
use Rattle.ff_lattice.specs.Lattices.{LatticeValue, Contains}
use Rattle.ff_lattice.specs.Quotients.{QuotientValue, IsQuotient, IsIdealLattice, IsClassOf, HasClasses, dimension, lifted, codes_of_row, product_codes, class_algebra}
use Rattle.ff_lattice.proofs.ClassAlgebras.{same_sym, same_trans}
use Rattle.ff_lattice.proofs.Elements.{elem_over, in_span_of}
use Rattle.ff_lattice.proofs.Spaces.{codes_row, codes_row_length, codes_row_over, read_codes_row}
use Rattle.ff_lattice.proofs.QuotientLaws.{den_some, class_of_row, lift_member, ideal_of, has_classes}
use Rattle.value_theory.specs.Laws.{row_functions}

module _ (k : CodeField) (p : PresValue) where
  -- the members of a lattice are closed under sums and multiples by polynomials
  pub members_module : (l : LatticeValue)
      → IsModule (functions k p).ops (IsPolynomial (equation_of k p)) (Contains k p l)
  members_module l =
      span_module (functions k p) (IsPolynomial (equation_of k p)) (polynomials_subring (equation_of k p))
      (row_functions k p l)

  module _ (o i : LatticeValue)
      (closed : (u v : Functions k p) → Contains k p o u → Contains k p i v
      → Contains k p i ((functions k p).◌⊗◌ u v)) where
    pub closed_module : IsModule (functions k p).ops (Contains k p o) (Contains k p i)
    closed_module = let 𝓜 = members_module i in record { zero_in = 𝓜.zero_in; sum_in = 𝓜.sum_in; scale_in = closed }

  pub ideal_set : (o i : LatticeValue) → IsIdealLattice k p o i
      → theory.IsIdeal (functions k p).ops (Contains k p o) (Contains k p i)
  ideal_set o i h = let 𝓜 = members_module i in
      record { within = h.within; zero_in = 𝓜.zero_in; sum_in = 𝓜.sum_in; scale_in = h.closed }

module _ (k : CodeField) (q : QuotientValue) (h : IsQuotient k q) where
  abbrev F : CommRing (Functions k q.p)
  F = functions k q.p

  abbrev O : Functions k q.p → Type 0
  O z = Contains k q.p q.order z

  abbrev I : Functions k q.p → Type 0
  I z = Contains k q.p q.ideal z

  abbrev V : List ℕ → Type 0
  V a = IsVector k.ops (dimension q) a

  abbrev lift : List ℕ → Functions k q.p
  lift a = function_of k q.p (lifted k.ops q a)

  pub classes : HasClasses k q
  classes = has_classes k q h.frame h.one_is

  -- the codes of a row of polynomials
  abbrev row : Row (Polynomial k) (suc (q.p.n - 1)) → List (List ℕ)
  row v = codes_row k (suc (q.p.n - 1)) v

  row_in : (v : Row (Polynomial k) (suc (q.p.n - 1))) → IsRow k.ops q.p.n (row v)
  row_in v =
      let positive = h.frame.positive in
      let size : suc (q.p.n - 1) ≡ q.p.n = omega arith in
      record { size = codes_row_length k (suc (q.p.n - 1)) v ∙ size; over = codes_row_over k (suc (q.p.n - 1)) v }

  row_function : (v : Row (Polynomial k) (suc (q.p.n - 1)))
      → function_of k q.p (record { num = row v; den = q.order.den }) ≡ over (equation_of k q.p) v
      (value k q.order.den) (den_some k q h.frame)
  row_function v =
      elem_over k q.p q.order.den (den_some k q h.frame) (row v)
      ∙ ap (λ u. over (equation_of k q.p) u (value k q.order.den) (den_some k q h.frame))
      (read_codes_row k (suc (q.p.n - 1)) v)

  -- each member of the order has a class
  pub class_of_member : (z : Functions k q.p) → Contains k q.p q.order z → (a : List ℕ) × IsClassOf k q z a
  class_of_member z z_in =
      let m = (in_span_of k q.p q.order.den (den_some k q h.frame) q.order.rows z).0 z_in in
      let is : function_of k q.p (record { num = row m.numerator; den = q.order.den }) ≡ z = row_function m.numerator
      ∙ sym m.is in (
        codes_of_row k.ops q (row m.numerator),
        subst (λ x. IsClassOf k q x (codes_of_row k.ops q (row m.numerator))) is
            (class_of_row k q h.frame (row m.numerator) (row_in m.numerator) (subst O (sym is) z_in)),
      )

  -- members with one class differ by one of the ideal, and what so differs has one class
  pub same_class : (z w : Functions k q.p) (a : List ℕ) → IsClassOf k q z a → IsClassOf k q w a
      → Contains k q.p q.ideal ((functions k q.p).◌⊕◌ z ((functions k q.p).⊖◌ w))
  same_class z w a a_of b_of =
      let s = same_trans F O I (ideal_of k q h.frame) z (lift a) w (record { difference = a_of.difference })
      (same_sym F O I (ideal_of k q h.frame) w (lift a) (record { difference = b_of.difference })) in
      s.difference

  pub class_modulo : (z w : Functions k q.p) (a : List ℕ) → IsClassOf k q w a
      → Contains k q.p q.ideal ((functions k q.p).◌⊕◌ z ((functions k q.p).⊖◌ w)) → IsClassOf k q z a
  class_modulo z w a a_of m =
      let s = same_trans F O I (ideal_of k q h.frame) z w (lift a) (record { difference = m })
      (record { difference = a_of.difference }) in
      record { codes = a_of.codes; difference = s.difference }

  maximal_of_field : IsFieldAlgebra k.ops (class_algebra q)
      → IsMaximalIdeal (functions k q.p).ops (Contains k q.p q.order) (Contains k q.p q.ideal)
  maximal_of_field field = record {
    ideal = ideal_set k q.p q.order q.ideal h.frame.ideal;
    proper =
        λ m. field.one_not_zero (classes.only F.𝟙 q.one (replicate (dimension q) 0) classes.of_one
        ((classes.of_ideal F.𝟙).1 m));
    invert = λ u u_in out.
        let a = class_of_member u u_in in
        let b = field.inverse a.0 a.1.codes (λ e. out ((classes.of_ideal u).0 (subst (IsClassOf k q u) e a.1))) in
        let w_in = lift_member k q h.frame b.0 b.1 in
        record {
          inverse = lift b.0;
          inverse_in = w_in;
          is =
              subst (λ x. I (F.◌⊕◌ x (F.⊖◌ F.𝟙))) (F.mul_comm u (lift b.0))
              (same_class (F.◌⊗◌ u (lift b.0)) F.𝟙 q.one
              (subst (IsClassOf k q (F.◌⊗◌ u (lift b.0))) b.2
              (classes.of_product u (lift b.0) a.0 b.0 u_in w_in a.1 (classes.of_lifted b.0 b.1)))
              classes.of_one);
        };
  }

  field_of_maximal : IsMaximalIdeal (functions k q.p).ops (Contains k q.p q.order) (Contains k q.p q.ideal)
      → IsFieldAlgebra k.ops (class_algebra q)
  field_of_maximal m = record {
    one_not_zero = λ e. m.proper ((classes.of_ideal F.𝟙).0 (subst (IsClassOf k q F.𝟙) e classes.of_one));
    inverse = λ a a_in some.
        let u_in = lift_member k q h.frame a a_in in
        let a_of = classes.of_lifted a a_in in
        let t = m.invert (lift a) u_in
        (λ z. some (classes.only (lift a) a (replicate (dimension q) 0) a_of ((classes.of_ideal (lift a)).1 z))) in
        let b = class_of_member t.inverse t.inverse_in in (
          b.0,
          b.1.codes,
          classes.only (F.◌⊗◌ (lift a) t.inverse) (product_codes k.ops q a b.0) q.one
              (classes.of_product (lift a) t.inverse a b.0 u_in t.inverse_in a_of b.1)
              (class_modulo (F.◌⊗◌ (lift a) t.inverse) F.𝟙 q.one classes.of_one
              (subst (λ x. I (F.◌⊕◌ x (F.⊖◌ F.𝟙))) (F.mul_comm t.inverse (lift a)) t.is)),
        );
  }

  -- the order modulo an ideal is a field exactly where the ideal is maximal
  pub field_iff_maximal : IsFieldAlgebra k.ops (class_algebra q)
      ↔ IsMaximalIdeal (functions k q.p).ops (Contains k q.p q.order) (Contains k q.p q.ideal)
  field_iff_maximal = (maximal_of_field, field_of_maximal)
