-- A prime of an order of codes, as a recorded prime of the theory.
use Rattle.std.proofs.Common.{ℕ, zero, suc, ◌<◌, ◌≤◌, refl, sym, subst, arith}
use Rattle.ring_theory.proofs.Subsets.{product_member}
use Rattle.prime_theory.specs.Ideals.{Power}
use Rattle.ff_fields.specs.Field.{CodeField}
use Rattle.ff_poly.specs.Value.{value}
use Rattle.function_field.specs.Functions.{of_poly}
use Rattle.function_field.specs.Values.{PresValue, Functions, functions, equation_of}
use Rattle.ideal_theory.specs.Records.{RecordedPrime}
use Rattle.ff_lattice.specs.Lattices.{LatticeValue, Contains}
use Rattle.ff_lattice.specs.Orders.{IsOrderLattice}
use Rattle.ff_lattice.proofs.PivotIndices.{lattice_over, index_is}
use Rattle.value_theory.specs.Laws.{IsRecordOf, row_functions}
use Rattle.value_theory.specs.Primes.{PrimeValue, IsPrimeOf}
use Rattle.value_theory.proofs.Bridge.{lattice_set, order_set}
use Rattle.value_theory.proofs.Ideals.{members_module}

module _ (k : CodeField) (q : PresValue) (positive : 0 < q.n) (o : LatticeValue) (order : IsOrderLattice k q o)
    (P : PrimeValue) (prime : IsPrimeOf k q o P) where
  infixl 70 ◌⊗◌
  open functions k q use {𝟙, ◌⊗◌}

  abbrev O : Functions k q → Type 0
  O = Contains k q o

  -- the inverse is closed under the order
  pub inverse_closed : (s a : Functions k q) → Contains k q o s → Contains k q P.inverse a
      → Contains k q P.inverse ((functions k q).◌⊗◌ s a)
  inverse_closed s a s_in a_in =
      (prime.inverse (s ⊗ a)).1
      (λ w w_in. subst O (sym ((functions k q).mul_assoc s a w))
      (order.product_in s (a ⊗ w) s_in ((prime.inverse a).0 a_in w w_in)))

  -- the first power has the polynomial, so that the greatest that has it isn't the one before
  pub some_power : (e : ℕ) → ¬ Power (functions k q).ops (Contains k q o) (Contains k q P.rows) (suc e)
      (of_poly (equation_of k q) (value k P.p)) → 1 ≤ e
  some_power zero n =
      let p = of_poly (equation_of k q) (value k P.p) in
      let 𝓞 = order_set k q positive o order in
      absurd (n (subst (Power (functions k q).ops O (Contains k q P.rows) 1) ((functions k q).mul_one p)
      (product_member (functions k q) O 𝓞.ring (Contains k q P.rows) O p 𝟙 prime.over order.one_in)))
  some_power (suc e) n = omega arith

  unfoldable pub recorded : RecordedPrime (equation_of k q) (Contains k q o)
  recorded = record {
    rows = row_functions k q P.rows;
    inverse_rows = row_functions k q P.inverse;
    exponent = P.e;
    degree = P.degree;
    lattice = lattice_set k q positive P.rows prime.ideal.lattice;
    field = prime.maximal;
    closed = let 𝓜 = members_module k q P.inverse in
        record { zero_in = 𝓜.zero_in; sum_in = 𝓜.sum_in; scale_in = inverse_closed };
    product = prime.product;
    positive = some_power P.e prime.not_more;
    index =
        (index_is k q positive P.rows o (lattice_over k q P.rows prime.ideal.lattice)
        (lattice_over k q o order.lattice) prime.ideal.within P.degree).1 prime.degree;
  }

  pub recorded_is : IsRecordOf k q o P recorded
  unfolding recorded
  recorded_is = record { rows = refl; inverse_rows = refl; exponent = refl; degree = refl }
