-- A lattice of a side is fixed by its written rows, and by the place that they span.
use Rattle.std.proofs.Common.{◌≡◌, ◌↔◌, ℕ, List, map, sym, ◌∙◌, subst}
use Rattle.ring_theory.specs.Subsets.{Span}
use Rattle.ff_fields.specs.Field.{CodeField}
use Rattle.function_field.specs.declared.side.Side.{Side}
use Rattle.function_field.specs.declared.side.Side.TheVariants.{Finite, Infinite}
use Rattle.function_field.specs.Places.{Place, IsIn, IsSamePlace}
use Rattle.function_field.specs.Functions.{IsPolynomial}
use Rattle.function_field.specs.Values.{Functions, functions, function_of, setting, equation_of}
use Rattle.function_field.specs.Infinity.{IsPolynomialOn}
use Rattle.function_field.specs.Curves.{CurveValue, IsCurve}
use Rattle.places_theory.specs.InfiniteSide.{InReverse}
use Rattle.places_theory.proofs.Transport.{span_iff}
use Rattle.ff_lattice.specs.Lattices.{LatticeValue, IsLatticeValue, Contains, row_elems}
use Rattle.ff_lattice.specs.Colons.{IsColon}
use Rattle.ff_lattice.proofs.Normal.{popov_poly}
use Rattle.ff_lattice.proofs.OneForm.{one_form}
use Rattle.value_theory.specs.IntegralLattices.{presentation, IsOverPowerOfT}
use Rattle.value_theory.specs.Primes.{PrimeValue}
use Rattle.value_theory.proofs.InfiniteLattices.{image_of, rows_are}
use Rattle.place_lists_theory.specs.Lists.{SpansWholePlace}
use Rattle.place_lists_theory.proofs.PlacesOfPrimes.{at_infinity}
use Rattle.ff_text.specs.Printed.{WrittenValue}
use Rattle.ff_written.specs.LowestTerms.{elem_of}
use Rattle.ff_written.specs.Rows.{AreWrittenRows}
use Rattle.ff_written.proofs.WrittenRows.{written_functions, same_written}
use Rattle.ff_cert.specs.declared.answer.PlaceLines.{PlaceLines}
use Rattle.ff_cert.specs.RowPlaces.{ArePrintedRows}
use Rattle.ff_cert.specs.RowNamedPlace.{IsPlaceOfLines}
use Rattle.ff_cert.proofs.OneOrder.{some, some_inf, finite_elems, one_integral}

turned : {A B : Type 0} → A ↔ B → B ↔ A
turned f = (f.1, f.0)

both_are : {A B C : Type 0} → A ↔ C → B ↔ C → A ↔ B
both_are f g = (λ a. g.1 (f.0 a), λ b. f.1 (g.0 b))

joined : {A B C : Type 0} → A ↔ B → B ↔ C → A ↔ C
joined f g = (λ a. g.0 (f.0 a), λ c. f.1 (g.1 c))

module _ (k : CodeField) (c : CurveValue) (curve : IsCurve k c) where
  -- the functions of written rows
  abbrev gs : List WrittenValue → List (Functions k c.fin)
  gs zs = map (λ (z : WrittenValue). function_of k c.fin (elem_of z)) zs

  -- the place that they span
  abbrev place_of : Side → List WrittenValue → Place (Functions k c.fin)
  place_of s zs = record { side = s; generators = gs zs }

  -- ---- the members of a lattice by its written rows

  finite_span : (l : LatticeValue) → IsLatticeValue k.ops c.fin.n l → (zs : List WrittenValue)
      → AreWrittenRows k c Finite (row_elems l) zs → (z : Functions k c.fin)
      → Contains k c.fin l z ↔ Span (functions k c.fin).ops ((setting k c.fin).IsScalar Finite) (gs zs) z
  finite_span l form zs written z =
      subst
      (λ hs. Contains k c.fin l z ↔ Span (functions k c.fin).ops ((setting k c.fin).IsScalar Finite) hs z)
      (sym (finite_elems k c curve l.rows l.den form.rows_in (popov_poly c.fin.n l.rows form.popov) form.den_in
      form.den_poly form.monic) ∙ written_functions k c Finite (row_elems l) zs written)
      (λ h. h, λ h. h)

  infinite_span : (l : LatticeValue) → IsLatticeValue k.ops c.inf.n l → (zs : List WrittenValue)
      → AreWrittenRows k c Infinite (row_elems l) zs → (z : Functions k c.inf)
      → Contains k c.inf l z
      ↔ Span (functions k c.fin).ops (IsPolynomialOn k c.fin Infinite) (gs zs) (image_of k c curve z)
  infinite_span l form zs written z =
      let g = at_infinity k c curve in
      subst
      (λ hs. Contains k c.inf l z
      ↔ Span (functions k c.fin).ops (IsPolynomialOn k c.fin Infinite) hs (image_of k c curve z))
      (rows_are k c curve l form ∙ written_functions k c Infinite (row_elems l) zs written)
      (span_iff (functions k c.inf) (functions k c.fin) (image_of k c curve) g.isomorphism
      (IsPolynomial (equation_of k c.inf)) (InReverse k c.fin) g.polynomials
      (map (function_of k c.inf) (row_elems l)) z)

  -- ---- one lattice

  pub one_written_lattice : (s : Side) (l m : LatticeValue) → IsLatticeValue k.ops (presentation c s).n l
      → IsLatticeValue k.ops (presentation c s).n m → (zs : List WrittenValue) → AreWrittenRows k c s (row_elems l) zs
      → AreWrittenRows k c s (row_elems m) zs → l ≡ m
  one_written_lattice Finite l m h g zs l_is m_is =
      one_form k c.fin l m h g (λ z. both_are (finite_span l h zs l_is z) (finite_span m g zs m_is z)) (some k c curve)
  one_written_lattice Infinite l m h g zs l_is m_is =
      one_form k c.inf l m h g (λ z. both_are (infinite_span l h zs l_is z) (infinite_span m g zs m_is z))
      (some_inf k c curve)

  -- the members of a lattice of a whole place are those of the place over powers of t
  whole_members : (l : LatticeValue) → IsLatticeValue k.ops c.inf.n l → (zs : List WrittenValue)
      → AreWrittenRows k c Infinite (row_elems l) zs → SpansWholePlace k c Infinite (gs zs) → (z : Functions k c.inf)
      → Contains k c.inf l z
      ↔ (IsIn (setting k c.fin) (place_of Infinite zs) (image_of k c curve z)
      × IsOverPowerOfT k c (image_of k c curve z))
  whole_members l h zs l_is whole z = joined (infinite_span l h zs l_is z) (whole (image_of k c curve z))

  same_place_lattice : (s : Side) (l m : LatticeValue) → IsLatticeValue k.ops (presentation c s).n l
      → IsLatticeValue k.ops (presentation c s).n m → (zs ws : List WrittenValue)
      → AreWrittenRows k c s (row_elems l) zs → AreWrittenRows k c s (row_elems m) ws
      → SpansWholePlace k c s (gs zs) → SpansWholePlace k c s (gs ws)
      → IsSamePlace (setting k c.fin) (place_of s zs) (place_of s ws) → l ≡ m
  same_place_lattice Finite l m h g zs ws l_is m_is l_whole m_whole same =
      one_form k c.fin l m h g
      (λ z. joined (finite_span l h zs l_is z) (joined (same.members z) (turned (finite_span m g ws m_is z))))
      (some k c curve)
  same_place_lattice Infinite l m h g zs ws l_is m_is l_whole m_whole same =
      one_form k c.inf l m h g
      (λ z.
      let t = same.members (image_of k c curve z) in
      let a = whole_members l h zs l_is l_whole z in
      let b = whole_members m g ws m_is m_whole z in (
        λ i. let p = a.0 i in b.1 (t.0 p.0, p.1),
        λ i. let p = b.0 i in a.1 (t.1 p.0, p.1),
      ))
      (some_inf k c curve)

  -- a place has its rows printed in one way
  pub one_printed : (s : Side) (zs ws : List WrittenValue) → ArePrintedRows k c s zs → ArePrintedRows k c s ws
      → IsSamePlace (setting k c.fin) (place_of s zs) (place_of s ws) → zs ≡ ws
  one_printed s zs ws h g same =
      let e = same_place_lattice s h.lattice g.lattice h.form g.form zs ws h.rows g.rows h.whole g.whole same in
      same_written k c s (some k c curve) (row_elems g.lattice) zs ws
      (subst (λ l. AreWrittenRows k c s (row_elems l) zs) e h.rows) g.rows

  -- ---- one place of the lines

  one_inverse : (s : Side) (l m : LatticeValue) → IsLatticeValue k.ops (presentation c s).n l
      → IsLatticeValue k.ops (presentation c s).n m
      → ((z : Functions k (presentation c s)) → Contains k (presentation c s) l z ↔ Contains k (presentation c s) m z)
      → l ≡ m
  one_inverse Finite l m h g same = one_form k c.fin l m h g same (some k c curve)
  one_inverse Infinite l m h g same = one_form k c.inf l m h g same (some_inf k c curve)

  pub one_place : (s : Side) (p : List ℕ) (P : PlaceLines) (Q R : PrimeValue) → IsPlaceOfLines k c s p P Q
      → IsPlaceOfLines k c s p P R → Q ≡ R
  one_place s p P Q R h g =
      let rows = one_written_lattice s Q.rows R.rows h.form g.form P.rows h.rows g.rows in
      let orders = one_integral k c curve s h.order g.order h.integral g.integral in
      let colon : (z : Functions k (presentation c s))
      → Contains k (presentation c s) Q.inverse z ↔ IsColon k (presentation c s) g.order R.rows z
      = λ z.
      subst (λ o. Contains k (presentation c s) Q.inverse z ↔ IsColon k (presentation c s) o R.rows z) orders
      (subst (λ l. Contains k (presentation c s) Q.inverse z ↔ IsColon k (presentation c s) h.order l z) rows
      (h.inverse z)) in
      let inverses =
      one_inverse s Q.inverse R.inverse h.inverse_form g.inverse_form (λ z. both_are (colon z) (g.inverse z)) in
      λ i. record {
        side = (h.side ∙ sym g.side) i;
        p = (h.over ∙ sym g.over) i;
        number = (h.number ∙ sym g.number) i;
        e = (h.e ∙ sym g.e) i;
        degree = (h.degree ∙ sym g.degree) i;
        rows = rows i;
        inverse = inverses i;
      }
