-- The space of a divisor as it is made: the printed basis of the x^j·b_i with 0 ≤ j ≤ -d_i, for a basis of its
-- lattices.
use Rattle.std.proofs.Common.{◌≡◌, ◌↔◌, List, map, All, ap, subst}
use Rattle.std.proofs.Math.IntN.{ℤ}
use Rattle.ff_fields.specs.Field.{CodeField}
use Rattle.ff_poly.specs.Polynomials.{x_poly}
use Rattle.function_field.specs.declared.side.Side.TheVariants.{Finite, Infinite}
use Rattle.function_field.specs.Curves.{CurveValue}
use Rattle.function_field.specs.Divisors.{Divisor, InSpace, IsSimultaneousBasis}
use Rattle.function_field.specs.Values.{PresValue, ElemValue, Functions, function_of, equation_of, setting}
use Rattle.infinite_theory.specs.Supported.{IsSupportedAt}
use Rattle.space_theory.proofs.Laws.{basis_same}
use Rattle.ff_lattice.specs.Lattices.{LatticeValue, IsLatticeValue, Contains}
use Rattle.value_theory.specs.Primes.{PrimeValue}
use Rattle.pair_theory.specs.Pairs.{IsDivisorOfPrimes, divisor_of_primes}
use Rattle.pair_theory.proofs.PairSpaces.{simultaneous, space_spanned}
use Rattle.pair_theory.proofs.PrimeDivisors.{divisor_exists}
use Rattle.ff_split.specs.Splits.{SplitValue}
use Rattle.ff_space.specs.Spaces.{SpaceValue, InCodeSpan}
use Rattle.ff_space.specs.Layers.{layer_functions}
use Rattle.ff_rr.specs.Frames.{FrameValue, IsFrame, order_on}
use Rattle.ff_rr.specs.Constants.{IsSplitOf}
use Rattle.ff_rr.specs.Products.{ArePrimesOfFrame, IsLatticeOfPrimes, IsSpaceOfDivisor}
use Rattle.ff_rr.proofs.FrameSets.{frame_disc}
use Rattle.ff_rr.proofs.PrintedSpaces.{printed_same}
use Rattle.ff_rr.proofs.MadeConstants.{IsSpanOf}
use Rattle.ff_rr.proofs.PrimeProducts.{integral_at}

module _ (k : CodeField) (f : FrameValue) (h : IsFrame k f) (Ps : List PrimeValue) (ms : List ℤ)
    (primes : ArePrimesOfFrame k f Ps) (fin inf : LatticeValue) (F : IsLatticeOfPrimes k f Finite Ps ms fin)
    (I : IsLatticeOfPrimes k f Infinite Ps ms inf) where
  own : IsDivisorOfPrimes k f.curve Ps ms (divisor_of_primes k f.curve Ps ms)
  own = divisor_exists k f.curve h.curve (order_on f) (integral_at k f h) Ps ms primes

  pub finite_form : IsLatticeValue k.ops f.curve.fin.n fin
  finite_form = (F.lattice (divisor_of_primes k f.curve Ps ms) own).form

  pub infinite_form : IsLatticeValue k.ops f.curve.inf.n inf
  infinite_form = (I.lattice (divisor_of_primes k f.curve Ps ms) own).form

  pub infinite_tame : IsSupportedAt (equation_of k f.curve.inf) (x_poly k) (Contains k f.curve.inf inf)
  infinite_tame = (I.lattice (divisor_of_primes k f.curve Ps ms) own).tame

  module _ (s : SplitValue) (t : SpaceValue) (split : IsSplitOf k (record { curve = f.curve; fin = fin; inf = inf }) s)
      (span : IsSpanOf k f.curve.fin s.basis s.degrees t) (D : Divisor (Functions k f.curve.fin))
      (d : IsDivisorOfPrimes k f.curve Ps ms D) where
    both_sides : IsSimultaneousBasis (setting k f.curve.fin) D (map (function_of k f.curve.fin) s.basis) s.degrees
    both_sides =
        simultaneous k f.curve h.curve D fin inf (F.lattice D d) (I.lattice D d)
        (map (function_of k f.curve.fin) s.basis) s.degrees split.both

    -- the functions span the space
    spanned_space : (z : Functions k f.curve.fin)
        → InCodeSpan k f.curve.fin (layer_functions k f.curve.fin s.basis s.degrees) z
        ↔ InSpace (setting k f.curve.fin) D z
    spanned_space =
        space_spanned (equation_of k f.curve.fin) (frame_disc k f h) D d.divisor
        (map (function_of k f.curve.fin) s.basis) s.degrees both_sides

    pub made_space : IsSpaceOfDivisor k f D (record { split = s; space = t })
    made_space = record {
      fin = fin;
      inf = inf;
      finite = F.lattice D d;
      infinite = I.lattice D d;
      form = split.form;
      simultaneous = both_sides;
      lowest = split.lowest;
      ascending = split.ascending;
      sum = split.sum;
      printed =
          printed_same k f.curve.fin (InCodeSpan k f.curve.fin (layer_functions k f.curve.fin s.basis s.degrees))
          (InSpace (setting k f.curve.fin) D) spanned_space t span.space;
      elements = span.elements;
      basis =
          basis_same (equation_of k f.curve.fin)
          (InCodeSpan k f.curve.fin (layer_functions k f.curve.fin s.basis s.degrees))
          (InSpace (setting k f.curve.fin) D) spanned_space (map (function_of k f.curve.fin) t.functions) span.basis;
    }

  -- the same by equal parts of the frame and of the basis
  pub space_of_equals : (c : CurveValue) (p : PresValue) (zs : List ElemValue) (ds : List ℤ) (s : SplitValue)
      (t : SpaceValue) → c ≡ f.curve → p ≡ f.curve.fin → zs ≡ s.basis → ds ≡ s.degrees
      → IsSplitOf k (record { curve = c; fin = fin; inf = inf }) s → IsSpanOf k p zs ds t
      → (D : Divisor (Functions k f.curve.fin)) → IsDivisorOfPrimes k f.curve Ps ms D
      → IsSpaceOfDivisor k f D (record { split = s; space = t })
  space_of_equals c p zs ds s t c_is p_is zs_is ds_is split span =
      made_space s t
      (subst (λ (e : CurveValue). IsSplitOf k (record { curve = e; fin = fin; inf = inf }) s) c_is split)
      (subst (λ (q : PresValue). IsSpanOf k q s.basis s.degrees t) p_is
      (subst (λ es. IsSpanOf k p s.basis es t) ds_is (subst (λ ws. IsSpanOf k p ws ds t) zs_is span)))
