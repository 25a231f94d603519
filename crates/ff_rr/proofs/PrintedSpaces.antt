-- The printed basis of the constants of a frame, and the genus by its number of functions.
use Rattle.std.proofs.Common.{◌≡◌, ◌↔◌, ℕ, ◌-◌, ◌*◌, ◌/◌, ◌<◌, ◌≤◌, List, [], ◌∷◌, suc, length, map, All, mul_assoc, sym, ◌∙◌, ap, ap₂, subst, arith}
use Rattle.std.proofs.lemmas.List.{length-map}
use Rattle.std.proofs.lemmas.List.Elements.{All-nil, All-cons}
use Rattle.std.proofs.Math.IntN.{ℤ, pos}
use Rattle.std.specs.Prelude.{◌≤ℤ◌}
use Rattle.ring_lemmas.specs.Ring.{IsField}
use Rattle.ff_fields.specs.Field.{CodeField}
use Rattle.function_field.specs.declared.side.Side.TheVariants.{Finite, Infinite}
use Rattle.function_field.specs.Divisors.{IsConstant, HasGenus}
use Rattle.function_field.specs.Functions.{degree_of_y}
use Rattle.function_field.specs.Places.{IsIntegralAt}
use Rattle.function_field.specs.Values.{PresValue, Functions, functions, function_of, equation_of, setting}
use Rattle.linear_theory.specs.Lists.{entry}
use Rattle.reduced_basis_theory.specs.Degree.{degree_sum, dimension_sum, genus_sum}
use Rattle.space_theory.proofs.Laws.{level_count}
use Rattle.constants_theory.proofs.FieldDegrees.{degrees_nonnegative, dimension_positive, genus_by_degrees, genus_quotient}
use Rattle.value_theory.proofs.InfiniteLattices.{some}
use Rattle.ff_lattice.specs.Lattices.{pivot_degree_of}
use Rattle.ff_space.specs.Spaces.{SpaceValue, IsPrintedSpace}
use Rattle.ff_space.specs.Layers.{layer_functions}
use Rattle.ff_rr.specs.Frames.{FrameValue, IsFrame}
use Rattle.ff_rr.specs.Constants.{SpaceBasisValue, IsConstantSpace}
use Rattle.ff_rr.proofs.FrameSets.{frame_disc}
use Rattle.ff_rr.proofs.PivotDegrees.{finite_pivots, infinite_pivots}
use Rattle.ff_rr.proofs.GenusSums.{small_sum}
use Rattle.ff_rr.proofs.SpaceBases.{bases_length}
use Rattle.ff_rr.proofs.ConstantSpaces.{frame_reduced, frame_constants}

-- sets with the same members are printed in one way
pub printed_same : (k : CodeField) (p : PresValue) (A B : Functions k p → Type 0) → ((z : Functions k p) → A z ↔ B z)
    → (s : SpaceValue) → IsPrintedSpace k p A s → IsPrintedSpace k p B s
printed_same k p A B t s h = record {
  form = h.form;
  vectors = λ z m. h.vectors z ((t z).1 m);
  least_den = λ den width over monic v. h.least_den den width over monic (λ z m. v z ((t z).0 m));
  least_width = λ width v. h.least_width width (λ z m. v z ((t z).0 m));
  reduced = h.reduced;
  row_space = λ v.
      let i = h.row_space v in (
        λ r. let m = i.0 r in record { count = m.count; over = m.over; is_in = (t _).0 m.is_in },
        λ m. i.1 (record { count = m.count; over = m.over; is_in = (t _).1 m.is_in }),
      );
}

of_entries : (ds : List ℤ) → ((i : ℕ) → i < length ds → pos 0 ≤ℤ entry (pos 0) ds i) → All (λ e. pos 0 ≤ℤ e) ds
of_entries [] h = All-nil (λ e. pos 0 ≤ℤ e)
of_entries (d ∷ ds) h =
    All-cons (λ e. pos 0 ≤ℤ e) d ds (h 0 (omega arith)) (of_entries ds (λ i l. h (suc i) (omega arith)))

module _ (k : CodeField) (f : FrameValue) (h : IsFrame k f) (s : SpaceBasisValue) (c : IsConstantSpace k f s) where
  abbrev d : ℕ → ℤ
  d = entry (pos 0) s.split.degrees

  n_is : degree_of_y (equation_of k f.curve.fin) ≡ f.curve.fin.n
  n_is = let one = some k f.curve h.curve in omega (arith, one)

  pub degrees_count : length s.split.degrees ≡ f.curve.fin.n
  degrees_count = c.split.both.one_each ∙ n_is

  -- the functions are as many as the degrees tell
  pub dimension_is : dimension_sum (degree_of_y (equation_of k f.curve.fin)) d (pos 0) ≡ length s.space.functions
  dimension_is =
      sym (level_count (equation_of k f.curve.fin) (IsIntegralAt (setting k f.curve.fin) Finite)
      (IsIntegralAt (setting k f.curve.fin) Infinite) (map (function_of k f.curve.fin) s.split.basis) d
      (frame_reduced k f h (map (function_of k f.curve.fin) s.split.basis) s.split.degrees c.split.both c.split.sum)
      (pos 0))
      ∙ bases_length (equation_of k f.curve.fin) (IsConstant (setting k f.curve.fin))
      (layer_functions k f.curve.fin s.split.basis s.split.degrees)
      (map (function_of k f.curve.fin) s.space.functions)
      (frame_constants k f h (map (function_of k f.curve.fin) s.split.basis) s.split.degrees c.split.both c.split.sum)
      c.basis
      ∙ length-map s.space.functions (function_of k f.curve.fin)

  pub degrees_small : degree_sum f.curve.fin.n d ≤ℤ pos 112
  degrees_small =
      small_sum (degree_sum f.curve.fin.n d) (pivot_degree_of f.fin) (pivot_degree_of f.inf)
      (f.curve.c * (f.curve.fin.n * (f.curve.fin.n - 1))) c.split.sum (finite_pivots k f h) (infinite_pivots k f h)
      (subst (λ m. m ≤ 224) (mul_assoc f.curve.c f.curve.fin.n (f.curve.fin.n - 1)) h.curve.disc_at_infinity)

  module _ (field : IsField (functions k f.curve.fin).ops) where
    pub nonnegative_degrees : (i : ℕ) → i < f.curve.fin.n → pos 0 ≤ℤ d i
    nonnegative_degrees i l =
        degrees_nonnegative (equation_of k f.curve.fin) (frame_disc k f h) field
        (map (function_of k f.curve.fin) s.split.basis) d
        (frame_reduced k f h (map (function_of k f.curve.fin) s.split.basis) s.split.degrees c.split.both c.split.sum)
        i (subst (λ n. i < n) (sym n_is) l)

    pub all_nonnegative : All (λ e. pos 0 ≤ℤ e) s.split.degrees
    all_nonnegative = of_entries s.split.degrees (λ i l. nonnegative_degrees i (subst (λ n. i < n) degrees_count l))

    pub some_functions : 1 ≤ length s.space.functions
    some_functions =
        subst (λ n. 1 ≤ n) dimension_is
        (dimension_positive (equation_of k f.curve.fin) (frame_disc k f h) field
        (map (function_of k f.curve.fin) s.split.basis) d
        (frame_reduced k f h (map (function_of k f.curve.fin) s.split.basis) s.split.degrees c.split.both c.split.sum))

    -- the genus
    pub frame_genus : HasGenus (setting k f.curve.fin) (genus_sum f.curve.fin.n d / length s.space.functions)
    frame_genus =
        subst (HasGenus (setting k f.curve.fin))
        (ap₂ (λ n m. genus_sum n d / m) n_is dimension_is)
        (genus_quotient (equation_of k f.curve.fin) (frame_disc k f h) field
        (map (function_of k f.curve.fin) s.split.basis) d
        (frame_reduced k f h (map (function_of k f.curve.fin) s.split.basis) s.split.degrees c.split.both c.split.sum))

    -- the quotient is exact
    pub genus_times : (g : ℕ) → HasGenus (setting k f.curve.fin) g
        → length s.space.functions * g ≡ genus_sum f.curve.fin.n d
    genus_times g is =
        subst (λ n. n * g ≡ genus_sum f.curve.fin.n d) dimension_is
        (genus_by_degrees (equation_of k f.curve.fin) (frame_disc k f h) field
        (map (function_of k f.curve.fin) s.split.basis) d
        (frame_reduced k f h (map (function_of k f.curve.fin) s.split.basis) s.split.degrees c.split.both c.split.sum)
        g is
        ∙ ap (λ n. genus_sum n d) n_is)
