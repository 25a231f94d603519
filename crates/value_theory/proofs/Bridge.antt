-- Lattices and orders of codes as sets of functions: what contracts say of them, in the words of the theory.
use Rattle.std.proofs.Common.{◌≡◌, ℕ, ◌<◌, ◌↔◌, List, [], length, sym, ◌∙◌, ap, subst, arith}
use Rattle.ring_lemmas.proofs.Ring.{neg_mul, one_mul}
use Rattle.ff_fields.specs.Field.{CodeField}
use Rattle.ff_fields.specs.Over.{IsOver}
use Rattle.ff_poly.specs.Words.{IsPoly, IsIrreducibleList}
use Rattle.ff_poly.specs.Value.{value, numbers_value}
use Rattle.ff_poly.specs.Polynomials.{polynomials, codes_of, value_not_zero}
use Rattle.function_field.specs.Values.{PresValue, Functions, functions, equation_of}
use Rattle.function_field.proofs.ScalarRings.{polynomials_subring}
use Rattle.lattice_theory.specs.Lattices as theory
use Rattle.lattice_theory.proofs.Lattices.{lattice_module}
use Rattle.order_theory.specs.Orders as theory_orders
use Rattle.ff_lattice.specs.Lattices.{LatticeValue, IsLatticeValue, Contains, IsFullLattice}
use Rattle.ff_lattice.specs.Orders.{IsOrderLattice}
use Rattle.ff_lattice.specs.Colons.{IsColon}
use Rattle.value_theory.specs.Laws.{row_functions}
use Rattle.ff_lattice.proofs.Normal.{monic_poly}
use Rattle.ff_lattice.proofs.SpannedSets.{lattice_full}

module _ (k : CodeField) (p : PresValue) where
  -- a lattice of full rank is one of the theory
  pub full_lattice : (l : LatticeValue) → IsFullLattice k p (Contains k p l)
      → theory.IsLattice (equation_of k p) (Contains k p l)
  full_lattice l full = record {
    generators = row_functions k p l;
    spanned = λ z. (λ h. h, λ h. h);
    full = λ z. let m = full.multiple z in record {
      factor = value k m.factor;
      some = value_not_zero k m.factor m.factor_in m.factor_poly m.some;
      multiple_in = m.is_in;
    };
  }

  module _ (positive : 0 < p.n) where
    pub lattice_set : (l : LatticeValue) → IsLatticeValue k.ops p.n l → theory.IsLattice (equation_of k p) (Contains k p l)
    lattice_set l form = full_lattice l (lattice_full k p l positive form)

    pub order_set : (l : LatticeValue) → IsOrderLattice k p l → theory_orders.IsOrder (equation_of k p) (Contains k p l)
    order_set l order =
        let 𝓜 = lattice_module (equation_of k p) (Contains k p l) (lattice_set l order.lattice) in
        let 𝓢 = polynomials_subring (equation_of k p) in
        record {
          lattice = lattice_set l order.lattice;
          ring = record {
            zero_in = 𝓜.zero_in;
            one_in = order.one_in;
            sum_in = 𝓜.sum_in;
            neg_in = λ a a_in.
                subst (Contains k p l) (neg_mul (functions k p) (functions k p).𝟙 a
                ∙ ap (functions k p).⊖◌ (one_mul (functions k p) a))
                (𝓜.scale_in _ a (𝓢.neg_in (functions k p).𝟙 𝓢.one_in) a_in);
            product_in = order.product_in;
          };
        }

  -- the functions that take a lattice into itself are an order
  pub colon_order : (i l : LatticeValue) → IsLatticeValue k.ops p.n l
      → ((z : Functions k p) → Contains k p l z ↔ IsColon k p i i z) → IsOrderLattice k p l
  colon_order i l form members = record {
    lattice = form;
    one_in = (members (functions k p).𝟙).1 (λ w w_in. subst (Contains k p i) (sym (one_mul (functions k p) w)) w_in);
    product_in = λ u v u_in v_in.
        (members ((functions k p).◌⊗◌ u v)).1
        (λ w w_in. subst (Contains k p i) (sym ((functions k p).mul_assoc u v w))
        ((members u).0 u_in _ ((members v).0 v_in w w_in)));
  }

-- an irreducible list of codes is an irreducible polynomial
module _ (k : CodeField) (pi : List ℕ) (over : IsOver k.ops pi) (irreducible : IsIrreducibleList k.ops pi) where
  pub irreducible_poly : IsPoly pi
  irreducible_poly = monic_poly pi irreducible.monic

  pub irreducible_some : ¬ (pi ≡ [])
  irreducible_some e = absurd (let l = irreducible.not_constant in omega (arith, ap length e))

  pub irreducible_value : IsIrreducibleList k.ops (codes_of k (value k pi))
  irreducible_value = subst (IsIrreducibleList k.ops) (sym (numbers_value k pi over irreducible_poly)) irreducible

  pub irreducible_not_zero : ¬ (value k pi ≡ (polynomials k).𝟘)
  irreducible_not_zero = value_not_zero k pi over irreducible_poly irreducible_some
