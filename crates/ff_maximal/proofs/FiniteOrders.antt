-- The order that is enlarged at the irreducible polynomials whose squares divide the discriminant has all integral
-- functions.
use Rattle.std.proofs.Common.{◌≡◌, ℕ, ◌≤◌, ◌↔◌, Bool, true, false, cond, nat_lt, List, [], ◌∷◌, map, refl, sym, ap, ap₂, subst, ◌∙◌, arith, All}
use Rattle.std.specs.Prelude.{Result, Ok, Err, IfOk}
use Rattle.std.specs.declared.alloc.AllocError.{AllocError}
use Rattle.std.specs.List.{Any}
use Rattle.std.proofs.lemmas.List.Elements.{All-nil, All-cons, All-head, All-tail}
use Rattle.linear_theory.specs.Euclidean.{IsDivisorIn}
use Rattle.ff_fields.specs.Field.{CodeField}
use Rattle.ff_fields.specs.Over.{IsOver}
use Rattle.ff_poly.specs.Words.{IsPoly, IsMonicList}
use Rattle.ff_poly.specs.Popov.{IsRow}
use Rattle.ff_poly.specs.Value.{value}
use Rattle.ff_poly.specs.Polynomials.{polynomials, value_not_zero}
use Rattle.function_field.specs.declared.side.Side.{Side}
use Rattle.function_field.specs.declared.side.Side.TheVariants.{Finite}
use Rattle.function_field.specs.Places.{IsIntegralAt}
use Rattle.function_field.specs.Discriminant.{discriminant}
use Rattle.function_field.specs.Values.{ElemValue, PresValue, IsElem, IsMonicElem, Functions, function_of, equation_of, setting}
use Rattle.function_field.specs.Infinity.{function_on}
use Rattle.function_field.specs.Curves.{CurveValue, IsCurve}
use Rattle.ff_algebra.proofs.OtherSide.{on_finite_side}
use Rattle.ff_factor.specs.Factors.{FactorsValue, IsFactorisation, polys_of}
use Rattle.trace_theory.specs.Traces.{HasPolynomialCoordinates, polynomial_product}
use Rattle.ff_lattice.specs.Lattices.{LatticeValue, IsLatticeValue, Contains, elems_over, row_elems}
use Rattle.ff_lattice.specs.Orders.{IsOrderLattice}
use Rattle.ff_lattice.proofs.Normal.{popov_poly}
use Rattle.ff_order.specs.Enlargements.{TakenByProducts, repeated}
use Rattle.value_theory.proofs.Bridge.{order_set}
use Rattle.ff_order.proofs.IntegralFunctions.{all_integral}
use Rattle.ff_maximal.proofs.RepeatedFactors.{expanded, divides_expanded, expanded_irreducible, listed}
use Rattle.value_theory.specs.IntegralLattices.{SpansIntegral, IsIntegralLattice}

-- what is so of the polynomials of the parts is so of those with an exponent of 2 or more
pub all_repeated : (P : List ℕ → Type 0) (fs : List (List ℕ × ℕ)) → All P (polys_of fs) → All P (repeated fs)
all_repeated P [] h = All-nil P
all_repeated P (f ∷ fs) h = go (nat_lt 1 f.1) (all_repeated P fs (All-tail P f.0 (polys_of fs) h))
  where
    go : (b : Bool) → All P (repeated fs) → All P (cond b (f.0 ∷ repeated fs) (repeated fs))
    go true rest = All-cons P f.0 (repeated fs) (All-head P f.0 (polys_of fs) h) rest
    go false rest = rest

module _ (k : CodeField) (c : CurveValue) (curve : IsCurve k c) where
  positive : 1 ≤ c.fin.n
  positive = let two = curve.at_least_two in omega (arith, two)

  value_some : ¬ (value k c.disc ≡ (polynomials k).𝟘)
  value_some = value_not_zero k c.disc curve.disc.over curve.disc.poly curve.separable

  disc_some : ¬ (discriminant (equation_of k c.fin) ≡ (polynomials k).𝟘)
  disc_some zero = value_some (curve.disc.value ∙ zero)

  -- on the finite side an element of the presentation stands for its own function
  on_rows : (rows : List (List (List ℕ))) (den : List ℕ) → All (IsRow k.ops c.fin.n) rows → All (All IsPoly) rows
      → IsOver k.ops den → IsPoly den → IsMonicList den
      → map (function_of k c.fin) (elems_over rows den) ≡ map (function_on k c.fin c.c Finite) (elems_over rows den)
  on_rows [] den rows_in polys den_in den_poly monic = refl
  on_rows (v ∷ rows) den rows_in polys den_in den_poly monic =
      let row = All-head (IsRow k.ops c.fin.n) v rows rows_in in
      ap₂ ◌∷◌
      (sym (on_finite_side k c.fin c.c (record { num = v; den = den }) positive
      (record { one_each = row.size; num_over = row.over; den_over = den_in })
      (record { num_poly = All-head (All IsPoly) v rows polys; den_poly = den_poly; monic = monic })))
      (on_rows rows den (All-tail (IsRow k.ops c.fin.n) v rows rows_in) (All-tail (All IsPoly) v rows polys) den_in
      den_poly monic)

  pub copied : (side : Side) (r : ElemValue) (x : Result ElemValue AllocError) → side ≡ Finite → IsElem k.ops c.fin.n r
      → IsMonicElem r → IfOk x (λ z. z ≡ r)
      → IfOk x (λ z. function_of k c.fin z ≡ function_on k c.fin c.c side r)
  copied side r (Ok z) is r_in monic e = ap (function_of k c.fin) e
      ∙ sym (on_finite_side k c.fin c.c r positive r_in monic) ∙ ap (λ s. function_on k c.fin c.c s r) (sym is)
  copied side r (Err x) is r_in monic e = e

  row_functions : (l : LatticeValue) → IsLatticeValue k.ops c.fin.n l
      → map (function_of k c.fin) (row_elems l) ≡ map (function_on k c.fin c.c Finite) (row_elems l)
  row_functions l form = on_rows l.rows l.den form.rows_in (popov_poly c.fin.n l.rows form.popov) form.den_in
      form.den_poly form.monic

  module _ (f : FactorsValue) (h : IsFactorisation k.ops c.disc f) (o m : LatticeValue)
      (o_order : IsOrderLattice k c.fin o) (m_order : IsOrderLattice k c.fin m)
      (start : (z : Functions k c.fin) → Contains k c.fin o z ↔ HasPolynomialCoordinates (equation_of k c.fin) z)
      (members : (z : Functions k c.fin)
      → Contains k c.fin m z ↔ TakenByProducts (equation_of k c.fin) (map (value k) (repeated f.parts))
      (Contains k c.fin o) z) where
    all_members : (z : Functions k c.fin) → Contains k c.fin m z ↔ IsIntegralAt (setting k c.fin) Finite z
    all_members =
        all_integral (equation_of k c.fin) (Contains k c.fin o) (Contains k c.fin m)
        (order_set k c.fin positive o o_order) (order_set k c.fin positive m m_order)
        (map (value k) (repeated f.parts)) members (λ z. (start z).1) (map (value k) (expanded f.parts))
        (subst (λ d. IsDivisorIn (polynomials k).ops d (polynomial_product k (map (value k) (expanded f.parts))))
        curve.disc.value (divides_expanded k c.disc f h))
        (expanded_irreducible k c.disc f h)
        (subst (λ d. All (λ q. IsDivisorIn (polynomials k).ops ((polynomials k).◌⊗◌ q q) d
        → Any (λ r. r ≡ q) (map (value k) (repeated f.parts))) (map (value k) (expanded f.parts)))
        curve.disc.value (listed k c.disc f h value_some))

    pub finite_lattice : IsIntegralLattice k c Finite m
    finite_lattice = record {
      form = m_order.lattice;
      span = subst (SpansIntegral k c Finite) (row_functions m m_order.lattice) all_members;
      whole = tt;
    }

  -- what an answer for the presentation promises
  abbrev Promise : PresValue → Type 0
  Promise p =
      (f : FactorsValue)
      → IsFactorisation k.ops c.disc f
      → (primes : List (List ℕ))
      → primes ≡ repeated f.parts
      → (o : LatticeValue)
      → IsOrderLattice k p o
      → ((z : Functions k p) → Contains k p o z ↔ HasPolynomialCoordinates (equation_of k p) z)
      → (r : Result LatticeValue AllocError)
      → IfOk r (IsOrderLattice k p)
      → IfOk r (λ m. (z : Functions k p)
      → Contains k p m z ↔ TakenByProducts (equation_of k p) (map (value k) primes) (Contains k p o) z)
      → IfOk r (IsIntegralLattice k c Finite)

  promise : Promise c.fin
  promise f h primes is o o_order start (Ok m) order members =
      finite_lattice f h o m o_order order start
      (subst (λ ps. (z : Functions k c.fin)
      → Contains k c.fin m z ↔ TakenByProducts (equation_of k c.fin) (map (value k) ps) (Contains k c.fin o) z) is
      members)
  promise f h primes is o o_order start (Err e) order members = members

  pub finite_answer : (p : PresValue) → p ≡ c.fin → Promise p
  finite_answer p is = subst Promise (sym is) promise

  pub some_disc : (p : PresValue) → p ≡ c.fin → ¬ (discriminant (equation_of k p) ≡ (polynomials k).𝟘)
  some_disc p is = subst (λ q. ¬ (discriminant (equation_of k q) ≡ (polynomials k).𝟘)) (sym is) disc_some
