-- Primes of orders of codes: the steps by which the greatest exponent is found.
use Rattle.std.proofs.Common.{◌≡◌, ◌↔◌, ℕ, suc, ◌+◌, ◌<◌, sym, subst, arith, add-zero}
use Rattle.std.specs.Prelude.{pos, ◌-ℤ◌}
use Rattle.ring_lemmas.specs.Ring.{CommRing}
use Rattle.ring_theory.specs.Subsets.{IsSubring}
use Rattle.prime_theory.specs.Ideals.{Invertible, Power}
use Rattle.prime_theory.specs.Places.{IsMaximalIdeal}
use Rattle.prime_theory.specs.Primes.{IsPrime}
use Rattle.prime_theory.proofs.Primes.{ideal_module}
use Rattle.ff_fields.specs.Field.{CodeField}
use Rattle.function_field.specs.Values.{ElemValue, PresValue, IsElem, Functions, functions, function_of, equation_of}
use Rattle.lattice_theory.proofs.Lattices.{lattice_decided}
use Rattle.order_theory.proofs.InvertibleIdeals.{one_of_two}
use Rattle.ff_lattice.specs.Lattices.{LatticeValue, IsLatticeValue, Contains}
use Rattle.ff_lattice.specs.Orders.{IsOrderLattice}
use Rattle.ff_lattice.specs.Colons.{IsColon}
use Rattle.value_theory.proofs.Bridge.{lattice_set, order_set}
use Rattle.ff_ideal.specs.Places.{HasPrimeValue}
use Rattle.ff_ideal.proofs.PrimePowers.{power_step, value_of_powers}
use Rattle.ff_ideal.proofs.IntegerPowers.{first_power}

module _ (k : CodeField) (p : PresValue) where
  -- cur is w times the m-th power of an element that lowers exponents by one: a member of the order whose exponents are
  -- less by m
  pub record IsLowered (o rows : LatticeValue) (w : ElemValue) (m : ℕ) (cur : ElemValue) : Type 0 where
    pub elem : IsElem k.ops p.n cur
    pub member : Contains k p o (function_of k p cur)
    pub powers : (j : ℕ) → Power (functions k p).ops (Contains k p o) (Contains k p rows) j (function_of k p cur)
        ↔ Power (functions k p).ops (Contains k p o) (Contains k p rows) (j + m) (function_of k p w)

  module _ (positive : 0 < p.n) (o rows : LatticeValue) (order : IsOrderLattice k p o)
      (form : IsLatticeValue k.ops p.n rows)
      (maximal : IsMaximalIdeal (functions k p).ops (Contains k p o) (Contains k p rows)) where
    abbrev F : CommRing (Functions k p)
    F = functions k p

    abbrev O : Functions k p → Type 0
    O = Contains k p o

    abbrev P : Functions k p → Type 0
    P = Contains k p rows

    pub ring_is : IsSubring (functions k p).ops (Contains k p o)
    ring_is = (order_set k p positive o order).ring

    pub prime_is : IsPrime (functions k p).ops (Contains k p o) (Contains k p rows)
    prime_is = record {
      ideal = maximal.ideal;
      proper = maximal.proper;
      invert = maximal.invert;
      decide = λ u u_in. one_of_two (lattice_decided (equation_of k p) P (lattice_set k p positive rows form) u);
    }

    module _ (w : ElemValue) where
      pub lowered_start : (cur : ElemValue) → cur ≡ w → IsElem k.ops p.n w → O (function_of k p w)
          → IsLowered o rows w 0 cur
      lowered_start cur e elem member = subst (IsLowered o rows w 0) (sym e) (record {
        elem = elem;
        member = member;
        powers =
            λ j. subst (λ n. Power F.ops O P j (function_of k p w) ↔ Power F.ops O P n (function_of k p w))
            (sym (add-zero j)) (λ h. h, λ h. h);
      })

      pub lowered_more : Invertible (functions k p).ops (Contains k p o) (Contains k p rows)
          → (gamma : Functions k p) → IsColon k p o rows gamma → ¬ Contains k p o gamma
          → (m : ℕ) (cur next : ElemValue) → IsLowered o rows w m cur → Contains k p rows (function_of k p cur)
          → IsElem k.ops p.n next
          → function_of k p next ≡ (functions k p).◌⊗◌ gamma (function_of k p cur)
          → IsLowered o rows w (m + 1) next
      lowered_more invertible gamma takes outside m cur next h inside elem is = record {
        elem = elem;
        member = subst O (sym is) (takes (function_of k p cur) inside);
        powers = λ j.
            let s = power_step F O ring_is P prime_is gamma takes outside invertible j (function_of k p cur) h.member in
            let e : suc j + m ≡ j + (m + 1) = omega arith in
            let r = subst (λ n. Power F.ops O P (suc j) (function_of k p cur)
            ↔ Power F.ops O P n (function_of k p w)) e (h.powers (suc j)) in (
              λ a. r.0 (s.0 (subst (Power F.ops O P j) is a)),
              λ a. subst (Power F.ops O P j) (sym is) (s.1 (r.1 a)),
            );
      }

      pub lowered_inside : (m : ℕ) (cur : ElemValue) → IsLowered o rows w m cur
          → Power (functions k p).ops (Contains k p o) (Contains k p rows) m (function_of k p w)
      lowered_inside m cur h =
          subst (λ n. Power F.ops O P n (function_of k p w)) (let e : 0 + m ≡ m = omega arith in e)
          ((h.powers 0).0 h.member)

      pub lowered_last : (m : ℕ) (cur : ElemValue) → IsLowered o rows w m cur
          → ¬ Contains k p rows (function_of k p cur)
          → ¬ Power (functions k p).ops (Contains k p o) (Contains k p rows) (suc m) (function_of k p w)
      lowered_last m cur h out a =
          out ((first_power F O ring_is P (ideal_module F O ring_is P maximal.ideal) (function_of k p cur)).0
          ((h.powers 1).1 (subst (λ n. Power F.ops O P n (function_of k p w))
          (let e : suc m ≡ 1 + m = omega arith in e) a)))

    -- the difference of the exponents of x, which is c·z, and of c is the value of z
    pub prime_value : (c z x : Functions k p) → x ≡ (functions k p).◌⊗◌ c z → (a b : ℕ) → Contains k p o c
        → Contains k p o ((functions k p).◌⊗◌ c z)
        → Power (functions k p).ops (Contains k p o) (Contains k p rows) a x
        → ¬ Power (functions k p).ops (Contains k p o) (Contains k p rows) (suc a) x
        → Power (functions k p).ops (Contains k p o) (Contains k p rows) b c
        → ¬ Power (functions k p).ops (Contains k p o) (Contains k p rows) (suc b) c
        → HasPrimeValue k p o rows z (pos a -ℤ pos b)
    prime_value c z x e a b c_in cz_in m less n fewer t =
        value_of_powers F O ring_is P prime_is t c z a b c_in cz_in (subst (Power F.ops O P a) e m)
        (λ i. less (subst (Power F.ops O P (suc a)) (sym e) i)) n fewer
