-- Lattices of divisors as values: the lattice of the divisor 0, one more prime, the functions in print, and what makes
-- them lattices that have inverses and powers over the order of the side.
use Rattle.std.proofs.Common.{◌≡◌, ◌↔◌, [], sym, subst}
use Rattle.std.proofs.Math.IntN.{ℤ, pos}
use Rattle.std.specs.Prelude.{neg_ℤ}
use Rattle.ring_theory.specs.Subsets.{Span, Product}
use Rattle.prime_theory.specs.Ideals.{SameSet}
use Rattle.prime_theory.proofs.Products.{own_module, product_monotone, product_one, product_swap}
use Rattle.ff_fields.specs.Field.{CodeField}
use Rattle.function_field.specs.declared.side.Side.{Side}
use Rattle.function_field.specs.declared.side.Side.TheVariants.{Finite, Infinite}
use Rattle.function_field.specs.Functions.{IsPolynomial}
use Rattle.function_field.specs.Divisors.{Divisor, IsDivisor, MeetsOn}
use Rattle.function_field.specs.Values.{Functions, functions, setting, equation_of}
use Rattle.function_field.specs.Infinity.{IsPolynomialOn}
use Rattle.function_field.specs.Curves.{CurveValue, IsCurve}
use Rattle.places_theory.specs.InfiniteSide.{InReverse}
use Rattle.places_theory.proofs.Transport.{span_iff}
use Rattle.order_theory.proofs.InvertibleIdeals.{lattice_invertible}
use Rattle.ideal_theory.specs.Records.{IsAdmitted}
use Rattle.ff_lattice.specs.Lattices.{LatticeValue, IsLatticeValue, Contains}
use Rattle.ff_lattice.proofs.OneForm.{one_form}
use Rattle.value_theory.specs.IntegralLattices.{presentation, IsOverPowerOfT, IsIntegralLattice}
use Rattle.value_theory.specs.Laws.{row_functions}
use Rattle.value_theory.specs.Primes.{PrimeValue}
use Rattle.value_theory.proofs.Ideals.{closed_module, members_module}
use Rattle.value_theory.proofs.InfiniteLattices.{finite_disc, image_of, rows_are, power_to, power_from}
use Rattle.place_lists_theory.proofs.PlacesOfPrimes.{at_infinity}
use Rattle.ff_ideal.specs.Powers.{IntegerPower}
use Rattle.pair_theory.specs.Pairs.{IsSidePrime, IsSumWith, IsLatticeOfDivisor, SpansMembersOverPowersOfT, IsPowerLattice, IsProductLattice, IsAdmittedLattice, rows_on}
use Rattle.pair_theory.proofs.Sides.{ExtendedOn, side_map, side_hom, positive_on, span_on, finite_extended, members_on, order_is, whole_on, lattice_on}
use Rattle.pair_theory.proofs.OneMore.{allowed_module}
use Rattle.pair_theory.proofs.Tame.{denominator_product, order_tame, tame_admitted, tame_integer}
use Rattle.pair_theory.proofs.DivisorSets.{IsSetOfDivisor, set_once, set_same, set_of_none, set_more, tame_prime}

module _ (k : CodeField) (c : CurveValue) (curve : IsCurve k c) (s : Side) (o : LatticeValue)
    (whole : IsIntegralLattice k c s o) where
  abbrev O : Functions k (presentation c s) → Type 0
  O = Contains k (presentation c s) o

  module _ (D : Divisor (Functions k c.fin)) (is : IsDivisor (setting k c.fin) D) (l : LatticeValue)
      (h : IsLatticeOfDivisor k c s D l) where
    abbrev L : Functions k (presentation c s) → Type 0
    L = Contains k (presentation c s) l

    extended : SameSet (ExtendedOn k c curve s (Contains k (presentation c s) l)) (MeetsOn (setting k c.fin) D s)
    extended z = let a = span_on k c curve s l h.form z in (λ m. (h.span z).0 (a.1 m), λ m. a.0 ((h.span z).1 m))

    -- the product of a member by a function of the order is a member
    lattice_closed : (u v : Functions k (presentation c s)) → Contains k (presentation c s) o u
        → Contains k (presentation c s) l v
        → Contains k (presentation c s) l ((functions k (presentation c s)).◌⊗◌ u v)
    lattice_closed u v u_in v_in =
        let f = side_map k c curve s in
        let a = members_on k c curve s O (order_is k c curve s o whole).lattice (order_tame k c curve o s whole) u in
        let b = members_on k c curve s L (lattice_on k c curve s l h.form) h.tame v in
        let p = members_on k c curve s L (lattice_on k c curve s l h.form) h.tame
        ((functions k (presentation c s)).◌⊗◌ u v) in
        p.1 (
          denominator_product k c curve s u v (a.0 u_in).0 (b.0 v_in).0,
          subst (ExtendedOn k c curve s L) (sym ((side_hom k c curve s).mul u v))
              ((extended _).1
              ((allowed_module (equation_of k c.fin) (finite_disc k c curve) D is s).scale_in (f u) (f v)
              ((whole_on k c curve s o whole (f u)).0 (a.0 u_in).1) ((extended (f v)).0 (b.0 v_in).1))),
        )

    lattice_admitted : IsAdmitted (equation_of k (presentation c s)) (Contains k (presentation c s) o)
        (Contains k (presentation c s) l)
    lattice_admitted = tame_admitted k c curve o s whole L (lattice_on k c curve s l h.form) h.tame

    -- the lattice as a set
    pub set_of_lattice : IsSetOfDivisor k c curve s o whole D (Contains k (presentation c s) l)
    set_of_lattice = record {
      lattice = record {
        invertible = record {
          lattice = lattice_on k c curve s l h.form;
          module_is = closed_module k (presentation c s) o l lattice_closed;
          invertible =
              lattice_invertible (equation_of k (presentation c s)) O (order_is k c curve s o whole) L
              (lattice_on k c curve s l h.form) (closed_module k (presentation c s) o l lattice_closed)
              lattice_admitted;
        };
        tame = h.tame;
      };
      extended = extended;
    }

  pub lattice_of_set : (D : Divisor (Functions k c.fin)) (l : LatticeValue)
      → IsLatticeValue k.ops (presentation c s).n l
      → IsSetOfDivisor k c curve s o whole D (Contains k (presentation c s) l) → IsLatticeOfDivisor k c s D l
  lattice_of_set D l form h = record {
    form = form;
    span = λ z. let a = span_on k c curve s l form z in (λ m. (h.extended z).0 (a.0 m), λ m. a.1 ((h.extended z).1 m));
    tame = h.lattice.tame;
  }

  -- the order is the lattice of the divisor 0
  pub lattice_of_none : IsDivisor (setting k c.fin) [] → IsLatticeOfDivisor k c s [] o
  lattice_of_none is = lattice_of_set [] o whole.form (set_of_none k c curve s o whole is)

  -- a lattice with the products of the members and of those of a power P^(-m)
  module _ (D : Divisor (Functions k c.fin)) (is : IsDivisor (setting k c.fin) D) (l : LatticeValue)
      (h : IsLatticeOfDivisor k c s D l) (P : PrimeValue) (prime : IsSidePrime k c s o P) (m : ℤ)
      (j l' : LatticeValue) (power : IsPowerLattice k (presentation c s) o P m j)
      (product : IsProductLattice k (presentation c s) l j l') where
    pub product_set : SameSet
        (Product (functions k (presentation c s)).ops
        (IntegerPower (functions k (presentation c s)).ops (Contains k (presentation c s) o)
        (Contains k (presentation c s) P.rows) (neg_ℤ m)) (Contains k (presentation c s) l))
        (Contains k (presentation c s) l')
    product_set z =
        let R = functions k (presentation c s) in
        let 𝓞 = order_is k c curve s o whole in
        let X = Contains k (presentation c s) l in
        let J = Contains k (presentation c s) j in
        let K = IntegerPower R.ops O (Contains k (presentation c s) P.rows) (neg_ℤ m) in
        let 𝓧 = (set_of_lattice D is l h).lattice.invertible.module_is in
        let 𝓚 = (tame_integer k c curve s o whole (Contains k (presentation c s) P.rows)
        (tame_prime k c curve s o whole P prime m) (neg_ℤ m)).invertible.module_is in (
          λ n.
              (product.members z).1
              (product_monotone R O 𝓞.ring X K X J 𝓧 (λ a i. i) (λ a. (power.members a).1) z
              (product_swap R O 𝓞.ring K X 𝓧 z n)),
          λ n.
              product_swap R O 𝓞.ring X K 𝓚 z
              (product_monotone R O 𝓞.ring X J X K 𝓧 (λ a i. i) (λ a. (power.members a).0) z
              ((product.members z).0 n)),
        )

    -- it is that of D + m·P
    pub lattice_more : (E : Divisor (Functions k c.fin)) → IsSumWith k c D P m E → IsLatticeOfDivisor k c s E l'
    lattice_more E sum =
        let R = functions k (presentation c s) in
        let K = IntegerPower R.ops O (Contains k (presentation c s) P.rows) (neg_ℤ m) in
        let X = Contains k (presentation c s) l in
        lattice_of_set E l' product.form
        (set_same k c curve s o whole E (Product R.ops K X) (Contains k (presentation c s) l') product_set
        (set_more k c curve s o whole P prime m D E is sum X (set_of_lattice D is l h)))

  -- a power with the exponent 0 changes nothing
  pub lattice_zero : (D : Divisor (Functions k c.fin)) (is : IsDivisor (setting k c.fin) D) (l : LatticeValue)
      (h : IsLatticeOfDivisor k c s D l) (P : PrimeValue) (j l' : LatticeValue)
      → IsPowerLattice k (presentation c s) o P (pos 0) j → IsProductLattice k (presentation c s) l j l' → l' ≡ l
  lattice_zero D is l h P j l' power product =
      let R = functions k (presentation c s) in
      let 𝓞 = order_is k c curve s o whole in
      let X = Contains k (presentation c s) l in
      let J = Contains k (presentation c s) j in
      let 𝓧 = (set_of_lattice D is l h).lattice.invertible.module_is in
      let own = own_module R O 𝓞.ring in
      one_form k (presentation c s) l' l product.form h.form
      (λ z. (
        λ n.
            (product_one R O 𝓞.ring X 𝓧 z).0
            (product_swap R O 𝓞.ring X O own z
            (product_monotone R O 𝓞.ring X J X O 𝓧 (λ a i. i) (λ a. (power.members a).0) z ((product.members z).0 n))),
        λ n.
            (product.members z).1
            (product_monotone R O 𝓞.ring X O X J 𝓧 (λ a i. i) (λ a. (power.members a).1) z
            (product_swap R O 𝓞.ring O X 𝓧 z ((product_one R O 𝓞.ring X 𝓧 z).1 n))),
      )) (positive_on k c curve s)

  pub lattice_has_powers : (D : Divisor (Functions k c.fin)) (l : LatticeValue) → IsDivisor (setting k c.fin) D
      → IsLatticeOfDivisor k c s D l → IsAdmittedLattice k (presentation c s) o l
  lattice_has_powers D l is h =
      record { form = h.form; closed = lattice_closed D is l h; admitted = lattice_admitted D is l h }

  -- two lattices of one divisor are the same
  pub lattice_once : (D : Divisor (Functions k c.fin)) (l l' : LatticeValue) → IsDivisor (setting k c.fin) D
      → IsLatticeOfDivisor k c s D l → IsLatticeOfDivisor k c s D l' → l ≡ l'
  lattice_once D l l' is h i =
      one_form k (presentation c s) l l' h.form i.form
      (set_once k c curve s o whole D (Contains k (presentation c s) l) (Contains k (presentation c s) l')
      (set_of_lattice D is l h) (set_of_lattice D is l' i)) (positive_on k c curve s)

module _ (k : CodeField) (c : CurveValue) (curve : IsCurve k c) (D : Divisor (Functions k c.fin))
    (l : LatticeValue) where
  -- on the finite side the members are what D allows
  pub lattice_members : IsLatticeOfDivisor k c Finite D l → (z : Functions k c.fin)
      → Contains k c.fin l z ↔ MeetsOn (setting k c.fin) D Finite z
  lattice_members h z =
      let a = span_on k c curve Finite l h.form z in
      let b = finite_extended k c curve (Contains k c.fin l) (members_module k c.fin l) z in
      let d = h.span z in
      (λ m. d.0 (a.1 (b.1 m)), λ m. b.0 (a.0 (d.1 m)))

  module _ (h : IsLatticeOfDivisor k c Infinite D l) where
    abbrev f : Functions k c.inf → Functions k c.fin
    f = image_of k c curve

    -- on the infinite side its combinations over k[t] are what D allows with powers of t as denominators
    whole_at : (z : Functions k c.inf)
        → Span (functions k c.fin).ops (IsPolynomialOn k c.fin Infinite) (rows_on k c Infinite l) (f z)
        ↔ (MeetsOn (setting k c.fin) D Infinite (f z) × IsOverPowerOfT k c (f z))
    whole_at z =
        let g = at_infinity k c curve in
        let a =
        subst
        (λ hs. Contains k c.inf l z ↔ Span (functions k c.fin).ops (IsPolynomialOn k c.fin Infinite) hs (f z))
        (rows_are k c curve l h.form)
        (span_iff (functions k c.inf) (functions k c.fin) f g.isomorphism (IsPolynomial (equation_of k c.inf))
        (InReverse k c.fin) g.polynomials (row_functions k c.inf l) z) in
        let b = members_on k c curve Infinite (Contains k c.inf l) (lattice_on k c curve Infinite l h.form) h.tame z in
        let e = span_on k c curve Infinite l h.form (f z) in
        let d = h.span (f z) in (
          λ m. let t = b.0 (a.1 m) in (d.0 (e.1 t.1), power_to k c curve z t.0),
          λ m. a.0 (b.1 (power_from k c curve z m.1, e.0 (d.1 m.0))),
        )

    infinite_whole : SpansMembersOverPowersOfT k c Infinite D l
    infinite_whole z =
        let w = (at_infinity k c curve).isomorphism.onto z in
        subst (λ z. Span (functions k c.fin).ops (IsPolynomialOn k c.fin Infinite) (rows_on k c Infinite l) z
        ↔ (MeetsOn (setting k c.fin) D Infinite z × IsOverPowerOfT k c z)) w.1
        (whole_at w.0)

  pub lattice_whole : (s : Side) → IsLatticeOfDivisor k c s D l → SpansMembersOverPowersOfT k c s D l
  lattice_whole Finite h = tt
  lattice_whole Infinite h = infinite_whole h
