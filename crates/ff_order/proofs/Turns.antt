-- One turn of the enlargement at an irreducible polynomial, and what it leaves after each turn.
use Rattle.std.proofs.Common.{◌≡◌, ℕ, zero, suc, ◌<◌, ◌↔◌, pos, ◌-ℤ◌, ◌<ℤ◌, List, sym, subst, arith}
use Rattle.std.proofs.lemmas.Int.{ints}
use Rattle.ff_fields.specs.Field.{CodeField}
use Rattle.ff_fields.specs.Over.{IsOver}
use Rattle.ff_poly.specs.Words.{IsIrreducibleList}
use Rattle.ff_poly.specs.Value.{value}
use Rattle.function_field.specs.Functions.{of_poly}
use Rattle.function_field.specs.Values.{PresValue, Functions, functions, equation_of}
use Rattle.prime_theory.specs.Ideals as local
use Rattle.prime_theory.specs.Orders.{Radical}
use Rattle.order_theory.specs.Orders as theory
use Rattle.order_theory.specs.Orders.{TakenByPowers}
use Rattle.order_theory.proofs.Enlargements.{radical_of_order, radical_has, multipliers_have, multipliers_taken, maximal_of_multipliers, taken_has, taken_again, taken_is}
use Rattle.ff_lattice.specs.Lattices.{LatticeValue, IsLatticeValue, Contains, pivot_degree_of}
use Rattle.ff_lattice.specs.Orders.{IsOrderLattice}
use Rattle.ff_lattice.specs.Quotients.{IsIdealLattice}
use Rattle.ff_lattice.specs.Colons.{IsColon}
use Rattle.ff_lattice.proofs.PivotIndices.{IsOverMonic, lattice_over, number, number_is, same_lattice}
use Rattle.ff_order.specs.Steps.{IsTurn, IsBetween}
use Rattle.value_theory.specs.Laws.{row_functions}
use Rattle.value_theory.proofs.Bridge.{lattice_set, order_set, irreducible_value}

module _ (k : CodeField) (p : PresValue) (positive : 0 < p.n) where
  module _ (o : LatticeValue) (order : IsOrderLattice k p o) (pi : List ℕ) where
    abbrev O : Functions k p → Type 0
    O = Contains k p o

    𝓞 : theory.IsOrder (equation_of k p) (Contains k p o)
    𝓞 = order_set k p positive o order

    abbrev R : Functions k p → Type 0
    R = Radical (functions k p).ops (Contains k p o) (of_poly (equation_of k p) (value k pi))

    𝓡 : local.IsIdeal (functions k p).ops (Contains k p o)
        (Radical (functions k p).ops (Contains k p o) (of_poly (equation_of k p) (value k pi)))
    𝓡 = radical_of_order (equation_of k p) O 𝓞 (value k pi)

    module _ (i : LatticeValue) (form : IsLatticeValue k.ops p.n i)
        (members : (z : Functions k p) → Contains k p i z
        ↔ Radical (functions k p).ops (Contains k p o) (of_poly (equation_of k p) (value k pi)) z) where
      -- the radical is an ideal
      pub radical_is_ideal : IsIdealLattice k p o i
      radical_is_ideal = record {
        lattice = form;
        within = λ z h. ((members z).0 h).within;
        closed = λ u v u_in v_in. (members _).1 (𝓡.scale_in u v u_in ((members v).0 v_in));
      }

      -- its multipliers are a turn
      pub turn : IsOver k.ops pi → IsIrreducibleList k.ops pi → (next : LatticeValue) → IsOrderLattice k p next
          → ((z : Functions k p) → Contains k p next z ↔ IsColon k p i i z) → IsTurn k p pi o next
      turn over irreducible next next_order next_members = record {
        order = next_order;
        has = λ z h.
            (next_members z).1
            (λ y y_in. (members _).1 (multipliers_have (equation_of k p) O 𝓞 (value k pi) R 𝓡 z h y
            ((members y).0 y_in)));
        taken = λ z h.
            multipliers_taken (equation_of k p) O 𝓞 (value k pi) (Contains k p i) (lattice_set k p positive i form)
            radical_is_ideal.within
            ((members _).1 (radical_has (equation_of k p) O 𝓞 (value k pi))) z ((next_members z).0 h);
        last = λ same.
            maximal_of_multipliers (equation_of k p) O 𝓞 (value k pi) (irreducible_value k pi over irreducible)
            (row_functions k p i)
            (λ z. ((members z).1, (members z).0))
            (λ z h.
            subst (λ l. Contains k p l z) same
            ((next_members z).1 (λ y y_in. (members _).1 (h y ((members y).0 y_in)))));
      }

    -- before the first turn
    pub between_start : IsBetween k p pi o o
    between_start = record { order = order; has = λ z h. h; taken = taken_has (equation_of k p) O 𝓞 (value k pi) }

    -- after one turn more
    pub between_more : (cur next : LatticeValue) → IsBetween k p pi o cur → IsTurn k p pi cur next
        → IsBetween k p pi o next
    between_more cur next b t = record {
      order = t.order;
      has = λ z h. t.has z (b.has z h);
      taken = λ z h. taken_again (equation_of k p) O 𝓞 (value k pi) (Contains k p cur) b.taken z (t.taken z h);
    }

    -- after the last turn
    pub between_last : (cur next : LatticeValue) → IsBetween k p pi o cur → IsTurn k p pi cur next → next ≡ cur
        → (z : Functions k p) → Contains k p cur z ↔ TakenByPowers (equation_of k p) (value k pi) (Contains k p o) z
    between_last cur next b t same =
        taken_is (equation_of k p) O 𝓞 (value k pi) (Contains k p cur) b.has b.taken (t.last same)

  -- a larger order has a smaller pivot degree
  pub degree_falls : (o next : LatticeValue) → IsLatticeValue k.ops p.n o → IsLatticeValue k.ops p.n next
      → ((z : Functions k p) → Contains k p o z → Contains k p next z) → ¬ (next ≡ o)
      → pivot_degree_of next <ℤ pivot_degree_of o
  degree_falls o next o_form next_form within differ =
      go (number k p positive o next over_o over_next within) (number_is k p positive o next over_o over_next within)
    where
      over_o : IsOverMonic k p o
      over_o = lattice_over k p o o_form

      over_next : IsOverMonic k p next
      over_next = lattice_over k p next next_form

      go : (m : ℕ) → pos m ≡ pivot_degree_of o -ℤ pivot_degree_of next → pivot_degree_of next <ℤ pivot_degree_of o
      go zero e =
          absurd (differ (sym (same_lattice k p positive o next over_o over_next within o_form next_form
          (omega (arith, ints, e)))))
      go (suc m) e = omega (arith, ints, e)
