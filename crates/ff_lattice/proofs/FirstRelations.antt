-- The annihilator that the first relation among residues gives.
use Rattle.std.proofs.Common.{◌≡◌, ℕ, ◌+◌, ◌<◌, List, [], ◌∷◌, ◌++◌, length, refl, sym, subst, arith, length-append}
use Rattle.std.specs.Prelude.{Option, Some, MatchOption}
use Rattle.std.specs.Global.{Vec}
use Rattle.ring_lemmas.specs.Lists.{neg_list}
use Rattle.linear_theory.specs.Euclidean.{IsDivisorIn}
use Rattle.ff_fields.specs.Field.{CodeField}
use Rattle.ff_fields.specs.Code.{raw_ring}
use Rattle.ff_fields.specs.Over.{IsOver, IsOver_nil, IsOver_cons, IsOver_append, IsOver_neg}
use Rattle.ff_poly.specs.Words.{IsPoly, IsMonicList, product_of}
use Rattle.ff_poly.specs.PolyOver.{IsOver_product_of}
use Rattle.ff_poly.specs.Value.{value, value_product}
use Rattle.ff_poly.specs.Polynomials.{polynomials}
use Rattle.ff_poly.proofs.Parts.{IsPoly_product_of}
use Rattle.polynomial_theory.proofs.ListValues.{monic_poly}
use Rattle.polynomial_theory.proofs.Divisors.{some_value, divisor_of_divides, divides_of_divisor}
use Rattle.ff_linalg.specs.Matrix.{MatrixValue}
use Rattle.ff_linalg.specs.Space.{IsFirstRelation, HasIndependentRows}
use Rattle.ff_lattice.specs.Steps.{IsAnnihilator}
use Rattle.ff_lattice.specs.Residues.{AreResidues}
use Rattle.ff_lattice.proofs.Residues.{ResidueRows, divisors, not_independent}
use Rattle.ff_lattice.proofs.ResidueSteps.{residue_rows}

module _ (k : CodeField) (e v : List ℕ) (m : MatrixValue) (e_in : IsOver k.ops e) (e_poly : IsPoly e)
    (e_some : 0 < length e) (v_in : IsOver k.ops v) (is : AreResidues k.ops e v m) where
  rows : ResidueRows k e (value k v) m
  rows = residue_rows k e v m e_in v_in e_some is

  pub has_relation : ¬ HasIndependentRows k.ops m
  has_relation = not_independent k e (value k v) m e_in e_poly rows e_some
      (let s = is.all.shape.row_count in omega arith)

  pub annihilator_of_relation : (cs h : List ℕ) → IsFirstRelation k.ops m cs
      → h ≡ neg_list (raw_ring k.ops) cs ++ 1 ∷ [] → IsAnnihilator k.ops e v h
  annihilator_of_relation cs h first h_is = subst (IsAnnihilator k.ops e v) (sym h_is) (record {
    over = over;
    poly = poly;
    monic = monic;
    divides = λ u u_in u_poly.
        let d = divisors k e (value k v) m e_in e_poly rows cs first (some_value k relation over poly long) (value k u)
        in
        let product_in = IsOver_product_of k u_in v_in in
        let product_is = value_product k u v u_in v_in in (
          λ a.
              divides_of_divisor k e (product_of k.ops u v) e_in product_in (IsPoly_product_of k.ops u v)
              (subst (IsDivisorIn (polynomials k).ops (value k e)) (sym product_is)
              (d.0 (value k a.quotient, divisor_of_divides k relation u over a))),
          λ b.
              divides_of_divisor k relation u over u_in u_poly
              (d.1 (subst (IsDivisorIn (polynomials k).ops (value k e)) product_is
              (value k b.quotient, divisor_of_divides k e (product_of k.ops u v) e_in b))),
        );
  })
    where
      relation : List ℕ
      relation = neg_list (raw_ring k.ops) cs ++ 1 ∷ []

      over : IsOver k.ops relation
      over = IsOver_append (IsOver_neg k cs first.relation.over) (IsOver_cons k.laws.one_below IsOver_nil)

      monic : IsMonicList relation
      monic = (neg_list (raw_ring k.ops) cs, refl)

      poly : IsPoly relation
      poly = monic_poly k relation monic

      long : 0 < length relation
      long = omega (arith, length-append (neg_list (raw_ring k.ops) cs) (1 ∷ []))

-- the relation that is found
pub found : (k : CodeField) (m : MatrixValue) (o : Option (Vec ℕ)) (cs : Vec ℕ) → o ≡ Some cs
    → MatchOption o (HasIndependentRows k.ops m) (λ v. IsFirstRelation k.ops m v.items)
    → IsFirstRelation k.ops m cs.items
found k m o cs e h = subst (λ o. MatchOption o (HasIndependentRows k.ops m) (λ v. IsFirstRelation k.ops m v.items)) e h
