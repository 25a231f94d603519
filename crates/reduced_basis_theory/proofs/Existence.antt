-- Each pair of a lattice and a family has a reduced basis: by the Popov form of the coordinates of the one in a
-- reduced basis for the other.
use Rattle.std.proofs.Common.{◌≡◌, ℕ, zero, suc, ◌<◌, ◌≤◌, ◌+◌, ◌-◌, ◌↔◌, ℤ, pos, ◌+ℤ◌, ◌-ℤ◌, List, [], ◌∷◌, length, refl, sym, ◌∙◌, ap, ap₂, subst, arith}
use Rattle.std.proofs.lemmas.Int.{ints}
use Rattle.ring_lemmas.specs.Ring.{TestedRing, IsField}
use Rattle.ring_lemmas.specs.Rows.{Row, entry}
use Rattle.ring_lemmas.proofs.Ring.{field_domain, product_not_zero, domain_cancel, mul_left_comm, pow_add}
use Rattle.ring_lemmas.specs.Polynomials.{Pol}
use Rattle.ring_theory.specs.PolynomialRing.{pol_ring}
use Rattle.linear_theory.specs.Module.{Module, combine}
use Rattle.linear_theory.proofs.Module.{scale_zero}
use Rattle.linear_theory.proofs.Combination.{combine_zero, combine_linear, combine_scale, combine_cong}
use Rattle.popov_theory.specs.Module.{measure, row_degree}
use Rattle.popov_theory.specs.Span.{row_at, InSpan, HasFullRank}
use Rattle.popov_theory.specs.Laws.{PopovForm}
use Rattle.popov_theory.proofs.Span.{before, span_row}
use Rattle.popov_theory.proofs.PopovForm.{tabulate_at, tabulate_length, popov_weak}
use Rattle.popov_theory.proofs.PredictableDegree.{coefficients_zero}
use Rattle.popov_theory.proofs.Measure.{zero_row}
use Rattle.popov_theory.proofs.Existence.{popov_basis}
use Rattle.popov_theory.proofs.PolynomialRows.{row_width, row_module_zero, row_module_scale}
use Rattle.ring_theory.proofs.PolynomialRows.{entry_zero, entry_scale, same_entries}
use Rattle.reduced_basis_theory.specs.Degree.{DegreeAtMost, degree, size, total}
use Rattle.reduced_basis_theory.specs.Reduced.{InLattice, Coordinates, CoordinatesAtMost, IsReducedAt, IsReducedBasisOfPair, IsLatticeBasis}
use Rattle.reduced_basis_theory.specs.Rows.{from_rows, row_times, IsPredictable}
use Rattle.reduced_basis_theory.proofs.Degree.{size_is, degree_multiply}
use Rattle.reduced_basis_theory.proofs.Constants.{polynomials}
use Rattle.reduced_basis_theory.proofs.Powers.{power, degree_power, power_nonzero}
use Rattle.reduced_basis_theory.proofs.Totals.{IsLarge, large}
use Rattle.reduced_basis_theory.proofs.Converse.{same_coefficients}
use Rattle.reduced_basis_theory.proofs.DualBasis.{length_tabulate, entry_tabulate}
use Rattle.reduced_basis_theory.proofs.Predictable.{combine_rows}
use Rattle.reduced_basis_theory.proofs.WeightedRows.{Rows, weighted, entry_weighted, weighted_injective, weighted_combine, weighted_predictable}

-- the member of a list at i
abbrev member : {V : Type 0} → V → List V → ℕ → V
member z vs i = Rattle.linear_theory.specs.Lists.entry z vs i

total_member : (n : ℕ) (a : ℕ → ℕ) (j : ℕ) → j < n → a j ≤ total n a
total_member zero a j l = absurd (omega arith)
total_member (suc n) a zero l = omega arith
total_member (suc n) a (suc j) l = let e = total_member n (λ i. a (suc i)) j (omega (arith, l)) in omega (arith, e)

module _ {C V : Type 0} (k : TestedRing C) (field : IsField k.ops) (M : Module (pol_ring k).ring V) where
  infixl 65 ◌⊞◌
  infixr 75 ◌•◌
  open M use {𝟬, ◌⊞◌, ◌•◌}

  infixl 70 ◌⊗◌
  open (pol_ring k) use {𝟘, 𝟙, ◌⊗◌}

  -- the coordinates of a list with one denominator
  pub record CommonRows (h g : List V) : Type 0 where
    pub denominator : Pol k
    pub nonzero : ¬ (denominator ≡ 𝟘)
    pub rows : ℕ → ℕ → Pol k
    pub is : (i : ℕ) → i < length g → denominator • member 𝟬 g i ≡ combine M.ops (rows i) h

  pub common_rows : (h g : List V) → ((z : V) → Coordinates k M.ops h z) → CommonRows h g
  common_rows h [] coordinates = record {
    denominator = 𝟙;
    nonzero = (polynomials k field).one_not_zero;
    rows = λ i j. 𝟘;
    is = λ i l. absurd (omega arith);
  }
  common_rows h (v ∷ g) coordinates = go (coordinates v) (common_rows h g coordinates)
    where
      go : Coordinates k M.ops h v → CommonRows h g → CommonRows h (v ∷ g)
      go c r = record {
        denominator = c.denominator ⊗ r.denominator;
        nonzero = product_not_zero (polynomials k field) c.denominator r.denominator c.nonzero r.nonzero;
        rows = before (λ j. r.denominator ⊗ c.coefficient j) (λ i j. c.denominator ⊗ r.rows i j);
        is = at;
      }
        where
          at : (i : ℕ) → i < suc (length g) → (c.denominator ⊗ r.denominator) • member 𝟬 (v ∷ g) i
              ≡ combine M.ops (before (λ j. r.denominator ⊗ c.coefficient j) (λ i j. c.denominator ⊗ r.rows i j) i) h
          at zero l =
              ap (λ p. p • v) ((pol_ring k).mul_comm _ _) ∙ M.mul_scale r.denominator c.denominator v
              ∙ ap (λ x. r.denominator • x) c.is ∙ sym (combine_scale M r.denominator c.coefficient h)
          at (suc i) l =
              M.mul_scale c.denominator r.denominator _ ∙ ap (λ x. c.denominator • x) (r.is i (omega (arith, l)))
              ∙ sym (combine_scale M c.denominator (r.rows i) h)

  -- a multiple of a combination by the rows
  pub combine_common : (h g : List V) (f : Pol k) (A : ℕ → ℕ → Pol k)
      → ((i : ℕ) → i < length g → f • member 𝟬 g i ≡ combine M.ops (A i) h)
      → (c : ℕ → Pol k) → f • combine M.ops c g ≡ combine M.ops (row_times k (length g) c A) h
  combine_common h [] f A is c = scale_zero M f ∙ sym (combine_zero M h)
  combine_common h (v ∷ g) f A is c =
      M.scale_add f _ _
      ∙ ap₂ ◌⊞◌
      (sym (M.mul_scale f (c 0) v) ∙ ap (λ p. p • v) ((pol_ring k).mul_comm f (c 0)) ∙ M.mul_scale (c 0) f v
      ∙ ap (λ x. c 0 • x) (is 0 (omega arith)))
      (combine_common h g f (λ i. A (suc i)) (λ i l. is (suc i) (omega (arith, l))) (λ i. c (suc i)))
      ∙ sym (combine_linear M (c 0) (A 0) (row_times k (length g) (λ i. c (suc i)) (λ i. A (suc i))) h)

module _ {C V : Type 0} (k : TestedRing C) (field : IsField k.ops) (M : Module (pol_ring k).ring V) (n : ℕ)
    (N : ℤ → V → Type 0) (h : List V) (t : ℕ → ℤ) (reduced : IsReducedAt k M.ops (suc n) N h t)
    (I : V → Type 0) (g : List V) (lattice : IsLatticeBasis k M.ops (suc n) I g) where
  infixl 65 ◌⊞◌
  infixr 75 ◌•◌
  open M use {𝟬, ◌⊞◌, ◌•◌}

  infixl 70 ◌⊗◌
  open (pol_ring k) use {𝟘, ◌⊗◌}

  -- a reduced basis
  pub record HasReducedBasis : Type 0 where
    pub basis : List V
    pub degrees : ℕ → ℤ
    pub is : IsReducedBasisOfPair k M.ops (suc n) I N basis degrees

  module _ (T : ℕ) (high : IsLarge (suc n) (λ i. pos 0 -ℤ t i) (pos T)) where
    abbrev a : ℕ → ℕ
    a j = size (t j +ℤ pos T)

    abbrev u : ℕ → Pol k
    u j = power k field (a j)

    abbrev some : (j : ℕ) → ¬ (u j ≡ 𝟘)
    some j = power_nonzero k field (a j)

    abbrev S : ℤ
    S = pos T +ℤ pos 1

    weights : (j : ℕ) → j < suc n → degree k (u j) ≡ t j +ℤ S
    weights j l =
        let e = degree_power k field (a j) in
        let b = high j l in
        let c = size_is (t j +ℤ pos T) (omega (arith, ints)) in
        omega (arith, ints)

    -- the power of x that each weight divides
    abbrev E : ℕ
    E = total (suc n) a

    abbrev rest : ℕ → Pol k
    rest j = power k field (E - a j)

    fills : (j : ℕ) → j < suc n → u j ⊗ rest j ≡ power k field E
    fills j l =
        let b = total_member (suc n) a j l in
        let e : a j + (E - a j) ≡ E = omega (arith, b) in
        sym (pow_add (pol_ring k).ring (Rattle.reduced_basis_theory.specs.Reduced.variable k) (a j) (E - a j))
        ∙ ap (power k field) e

    abbrev common : CommonRows k field M h g
    common = common_rows k field M h g reduced.coordinates

    abbrev f : Pol k
    f = common.denominator

    abbrev A : ℕ → ℕ → Pol k
    A = common.rows

    abbrev rs : List (Row (Pol k) (suc n))
    rs = Rattle.popov_theory.proofs.PopovForm.tabulate (suc n) (λ i. weighted k field n u some (A i))

    rs_length : length rs ≡ suc n
    rs_length = tabulate_length (Rows k field n) (suc n) (λ i. weighted k field n u some (A i))

    rs_at : (i : ℕ) → i < length rs → row_at (Rows k field n) rs i ≡ weighted k field n u some (A i)
    rs_at i l =
        tabulate_at (Rows k field n) (suc n) (λ i. weighted k field n u some (A i)) i (subst (λ x. i < x) rs_length l)

    combine_rs : (c : ℕ → Pol k) → Rattle.popov_theory.specs.Span.combine (Rows k field n) c rs
        ≡ weighted k field n u some (row_times k (suc n) c A)
    combine_rs c = weighted_combine k field n u some rs A rs_at c
        ∙ ap (λ x. weighted k field n u some (row_times k x c A)) rs_length

    combine_g : (c : ℕ → Pol k) → f • combine M.ops c g ≡ combine M.ops (row_times k (suc n) c A) h
    combine_g c = combine_common k field M h g f A common.is c
        ∙ ap (λ x. combine M.ops (row_times k x c A) h) lattice.count

    -- coordinates whose weighted row is a power of x times v
    abbrev q : Row (Pol k) (suc n) → ℕ → Pol k
    q v j = rest j ⊗ entry (pol_ring k).ops (suc n) j v

    -- the rows have full rank
    full : HasFullRank (Rows k field n) rs
    full = record { multiple = λ v. go v (lattice.coordinates (combine M.ops (q v) h)) }
      where
        go : (v : Row (Pol k) (suc n)) → Coordinates k M.ops g (combine M.ops (q v) h)
            → Rattle.popov_theory.specs.Span.HasMultipleIn (Rows k field n) rs v
        go v c =
            let x = f ⊗ c.denominator in
            let e : combine M.ops (row_times k (suc n) c.coefficient A) h ≡ combine M.ops (λ j. x ⊗ q v j) h
            = sym (combine_g c.coefficient) ∙ ap (λ y. f • y) (sym c.is) ∙ sym (M.mul_scale f c.denominator _)
            ∙ sym (combine_scale M x (q v) h) in
            let same = same_coefficients M h (suc n) reduced.free _ _ e in
            record {
              factor = x ⊗ power k field E;
              some =
                  product_not_zero (polynomials k field) x (power k field E)
                  (product_not_zero (polynomials k field) f c.denominator common.nonzero c.nonzero)
                  (power_nonzero k field E);
              in_span =
                  record {
                    coefficients = c.coefficient;
                    is =
                        row_module_scale k n (x ⊗ power k field E) v
                        ∙ same_entries k (suc n) _ _ (λ j l.
                        entry_scale k (suc n) j (x ⊗ power k field E) v
                        ∙ (pol_ring k).mul_assoc x (power k field E) _
                        ∙ ap (λ y. x ⊗ (y ⊗ entry (pol_ring k).ops (suc n) j v)) (sym (fills j l))
                        ∙ ap (λ y. x ⊗ y) ((pol_ring k).mul_assoc (u j) (rest j) _)
                        ∙ mul_left_comm (pol_ring k).ring x (u j) (q v j)
                        ∙ ap (λ y. u j ⊗ y) (sym (same j l))
                        ∙ sym (entry_weighted k field n u some (row_times k (suc n) c.coefficient A) j l))
                        ∙ sym (combine_rs c.coefficient);
                  };
            }

    abbrev form : PopovForm (Rows k field n) rs
    form = popov_basis (Rows k field n) field rs full

    form_length : length form.rows ≡ suc n
    form_length = form.is.size ∙ row_width k n

    abbrev within : (i : ℕ) → InSpan (Rows k field n) rs (row_at (Rows k field n) form.rows i)
    within i = form.same_span.right.within _ (span_row (Rows k field n) form.rows i)

    -- the coordinates of the basis in g, and in h up to the denominator f
    abbrev U : ℕ → ℕ → Pol k
    U i = (within i).coefficients

    abbrev B : ℕ → ℕ → Pol k
    B i = row_times k (suc n) (U i) A

    form_at : (i : ℕ) → row_at (Rows k field n) form.rows i ≡ weighted k field n u some (B i)
    form_at i = (within i).is ∙ combine_rs (U i)

    abbrev b : List V
    b = from_rows k M.ops (suc n) g U

    b_length : length b ≡ suc n
    b_length = length_tabulate (suc n) (λ i. combine M.ops (U i) g)

    combine_b : (c : ℕ → Pol k) → f • combine M.ops c b ≡ combine M.ops (row_times k (suc n) c B) h
    combine_b c =
        combine_common k field M h b f B
        (λ i l. ap (λ v. f • v) (entry_tabulate 𝟬 (suc n) (λ i. combine M.ops (U i) g) i
        (subst (λ x. i < x) b_length l)) ∙ combine_g (U i)) c
        ∙ ap (λ x. combine M.ops (row_times k x c B) h) b_length

    combine_form : (c : ℕ → Pol k) → Rattle.popov_theory.specs.Span.combine (Rows k field n) c form.rows
        ≡ weighted k field n u some (row_times k (suc n) c B)
    combine_form c =
        weighted_combine k field n u some form.rows B (λ i l. form_at i) c
        ∙ ap (λ x. weighted k field n u some (row_times k x c B)) form_length

    rows_some : (i : ℕ) → i < suc n → ¬ (measure (Rows k field n) (row_at (Rows k field n) form.rows i) ≡ 0)
    rows_some i l = form.is.some i (subst (λ x. i < x) (sym (row_width k n)) l)

    abbrev d₀ : ℕ → ℤ
    d₀ i = pos (row_degree (Rows k field n) (row_at (Rows k field n) form.rows i)) -ℤ S

    predictable : IsPredictable k (suc n) B t d₀
    predictable =
        weighted_predictable k field n u some form.rows form_length (popov_weak (Rows k field n) form.rows form.is)
        rows_some B (λ i l. form_at i) t S weights

    abbrev d : ℕ → ℤ
    d i = d₀ i -ℤ degree k f

    degrees_from : (m : ℤ) (z : V) (e : Pol k) (c : ℕ → Pol k) → ¬ (e ≡ 𝟘) → e • z ≡ combine M.ops c b
        → N m z ↔ CoordinatesAtMost k (suc n) d e c m
    degrees_from m z e c e_some is =
        let x = f ⊗ e in
        let r = reduced.degrees m z x (row_times k (suc n) c B)
        (product_not_zero (polynomials k field) f e common.nonzero e_some)
        (M.mul_scale f e z ∙ ap (λ v. f • v) is ∙ combine_b c) in
        let p = predictable c (degree k x +ℤ m) in
        let q = degree_multiply k (field_domain k.ring field) f e common.nonzero e_some in
        let left : (j : ℕ) → degree k x +ℤ (m -ℤ t j) ≡ (degree k x +ℤ m) -ℤ t j = λ j. omega (arith, ints) in
        let right : (i : ℕ) → (degree k x +ℤ m) -ℤ d₀ i ≡ degree k e +ℤ (m -ℤ d i) = λ i. omega (arith, ints) in (
          λ z_in i l.
              subst (DegreeAtMost k (c i)) (right i)
              (p.0 (λ j l'. subst (DegreeAtMost k (row_times k (suc n) c B j)) (left j) (r.0 z_in j l')) i l),
          λ bound.
              r.1 (λ j l.
              subst (DegreeAtMost k (row_times k (suc n) c B j)) (sym (left j))
              (p.1 (λ i l'. subst (DegreeAtMost k (c i)) (sym (right i)) (bound i l')) j l)),
        )

    free_b : (c : ℕ → Pol k) → combine M.ops c b ≡ 𝟬 → (i : ℕ) → i < suc n → c i ≡ 𝟘
    free_b c null i l =
        let zero = reduced.free (row_times k (suc n) c B) (sym (combine_b c) ∙ ap (λ v. f • v) null ∙ scale_zero M f) in
        coefficients_zero (Rows k field n) (field_domain k.ring field) form.rows
        (popov_weak (Rows k field n) form.rows form.is) c
        (combine_form c
        ∙ same_entries k (suc n) _ _ (λ j l'.
        entry_weighted k field n u some (row_times k (suc n) c B) j l' ∙ ap (λ y. u j ⊗ y) (zero j l')
        ∙ Rattle.ring_lemmas.proofs.Ring.mul_zero (pol_ring k).ring (u j)
        ∙ sym (entry_zero k (suc n) j))
        ∙ sym (row_module_zero k n))
        i (subst (λ x. i < x) (sym form_length) l)
        (λ e. rows_some i l (zero_row (Rows k field n) _ e))

    to_b : (c : ℕ → Pol k) → InLattice k M.ops b (combine M.ops c g)
    to_b c =
        let y = form.same_span.left.within _ (record { coefficients = c; is = refl }) in
        let c' = y.coefficients in
        let same : (j : ℕ) → j < suc n → row_times k (suc n) c A j ≡ row_times k (suc n) c' B j
        = weighted_injective k field n u some _ _ (sym (combine_rs c) ∙ y.is ∙ combine_form c') in
        let multiple : f • combine M.ops c g ≡ f • combine M.ops c' b
        = combine_g c ∙ combine_cong M _ _ h (λ j l. same j (subst (λ x. j < x) reduced.count l))
        ∙ sym (combine_b c') in
        let p = row_times k (suc n) c' U in
        let rows : combine M.ops c' b ≡ combine M.ops p g = combine_rows k M (suc n) g c' U in
        let scaled : combine M.ops (λ i. f ⊗ c i) g ≡ combine M.ops (λ i. f ⊗ p i) g
        = combine_scale M f c g ∙ multiple ∙ ap (λ v. f • v) rows ∙ sym (combine_scale M f p g) in
        record {
          coefficient = c';
          is =
              combine_cong M c p g (λ i l.
              domain_cancel (pol_ring k).ring (polynomials k field) f (c i) (p i) common.nonzero
              (same_coefficients M g (suc n) lattice.free _ _ scaled i (subst (λ x. i < x) lattice.count l)))
              ∙ sym rows;
        }

    found : HasReducedBasis
    found = record {
      basis = b;
      degrees = d;
      is = record {
        at = record {
          count = b_length;
          free = free_b;
          coordinates = λ z.
              let c = lattice.coordinates z in
              let y = to_b c.coefficient in
              record {
                denominator = c.denominator;
                nonzero = c.nonzero;
                coefficient = y.coefficient;
                is = c.is ∙ y.is;
              };
          degrees = degrees_from;
        };
        lattice = λ z. (
          λ z_in. let c = (lattice.lattice z).0 z_in in let y = to_b c.coefficient in
              record { coefficient = y.coefficient; is = c.is ∙ y.is },
          λ z_in.
              (lattice.lattice z).1
              (record {
                coefficient = row_times k (suc n) z_in.coefficient U;
                is = z_in.is ∙ combine_rows k M (suc n) g z_in.coefficient U;
              }),
        );
      };
    }

  -- there is one
  pub existence : HasReducedBasis
  existence = let l = large (suc n) (λ i. pos 0 -ℤ t i) in found l.0 l.1
