-- Each finite place lies over an irreducible polynomial, and over one only.
use Rattle.std.proofs.Common.{◌+◌, ◌≡◌, ◌⊎◌, inl, inr, ℕ, zero, suc, ◌<◌, ◌≤◌, List, [], ◌∷◌, ◌++◌, length, get_or, refl, sym, ◌∙◌, ap, subst, arith}
use Rattle.ring_lemmas.specs.Lists.{coeff_of, IsTrimmed}
use Rattle.ring_theory.specs.Subsets.{IsModule}
use Rattle.ring_lemmas.proofs.Ring.{one_mul, zero_mul, mul_zero}
use Rattle.ring_lemmas.proofs.Solver.{ring, reads}
use Rattle.ring_lemmas.specs.Polynomials.{constant}
use Rattle.ring_theory.proofs.Evaluate.{constant_hom}
use Rattle.ring_theory.proofs.Polynomials.{length_product}
use Rattle.linear_theory.specs.Euclidean.{IsDivisorIn}
use Rattle.linear_theory.proofs.Euclid.{bezout}
use Rattle.ff_fields.specs.Field.{CodeField}
use Rattle.ff_fields.specs.Code.{same_code, Code, code_ring, code_domain, is_zero_code}
use Rattle.ff_fields.specs.Numbers.{numbers}
use Rattle.ff_poly.specs.Words.{IsIrreducibleList, IsMonicList, IsPoly}
use Rattle.ff_poly.specs.Value.{value, value_product, numbers_value}
use Rattle.ff_poly.proofs.Parts.{top_of_monic, IsMonic_from_top}
use Rattle.ff_poly.specs.Polynomials.{Polynomial, polynomials, polynomial_discrete, codes_of, value_codes_of}
use Rattle.function_field.specs.declared.side.Side.TheVariants.{Finite}
use Rattle.function_field.proofs.ScalarRings.{polynomials_subring}
use Rattle.function_field.specs.Places.{IsPlace, IsIn, IsIntegralAt}
use Rattle.function_field.specs.Functions.{Equation, FunctionOf, ring_of, of_poly, IsPolynomial, setting_of}
use Rattle.places_theory.proofs.YRoot.{poly_hom}
use Rattle.polynomial_theory.proofs.Lengths.{some_long, one_or_more}
use Rattle.polynomial_theory.proofs.Division.{euclidean}
use Rattle.polynomial_theory.proofs.Irreducible.{irreducible_some, irreducible, decide_divides, length_codes, constant_times}
use Rattle.order_theory.proofs.LeastPolynomials.{Least, least_polynomial}
use Rattle.lattice_theory.proofs.Bases.{MonicMultiple, monic_multiple}
use Rattle.lattice_theory.proofs.Lattices.{lattice_module}
use Rattle.order_theory.proofs.IntegralLattice.{polynomial_integral}
use Rattle.order_theory.proofs.FinitePlaces.{finite, place_lattice, place_polynomial, in_place_decided}
use Rattle.order_theory.proofs.Degrees.{constant_of}

-- a monic list has no zero on top
trimmed_end : (lower : List ℕ) → IsTrimmed is_zero_code (lower ++ 1 ∷ [])
trimmed_end [] = refl
trimmed_end (x ∷ []) = refl
trimmed_end (x ∷ y ∷ lower) = trimmed_end (y ∷ lower)

pub monic_poly : (b : List ℕ) → IsMonicList b → IsPoly b
monic_poly b m = record { trimmed = subst (IsTrimmed is_zero_code) (sym m.1) (trimmed_end m.0) }

pub numbers_get : (k : CodeField) (xs : List (Code k)) (n : ℕ) → n < length xs → get_or (numbers k xs) n 0
    ≡ (coeff_of (code_ring k).ops xs n).0
numbers_get k [] n l = absurd (omega arith)
numbers_get k (x ∷ xs) zero l = refl
numbers_get k (x ∷ xs) (suc n) l = numbers_get k xs n (omega arith)

module _ {k : CodeField} (c : Equation k) (gs : List (FunctionOf c))
    (place : IsPlace (setting_of c) (finite c gs)) where
  infixl 65 ◌⊕◌
  infixl 70 ◌⊗◌
  infixr 80 ⊖◌
  open ring_of c use {𝟘, 𝟙, ◌⊕◌, ◌⊗◌, ⊖◌}

  -- the polynomials in the place
  abbrev In : Polynomial k → Type 0
  In a = IsIn (setting_of c) (finite c gs) (of_poly c a)

  abbrev Some : Polynomial k → Type 0
  Some a = (¬ (a ≡ (polynomials k).𝟘)) × IsIn (setting_of c) (finite c gs) (of_poly c a)

  𝓜 : IsModule (ring_of c).ops (IsPolynomial c) (IsIn (setting_of c) (finite c gs))
  𝓜 = lattice_module c _ (place_lattice c gs place)

  decide : (a : Polynomial k) → Dec (Some a)
  decide a = go (polynomial_discrete k a (polynomials k).𝟘) (in_place_decided c gs place (of_poly c a))
    where
      go : Dec (a ≡ (polynomials k).𝟘) → Dec (In a) → Dec (Some a)
      go (yes e) d = no (λ h. h.0 e)
      go (no n) (yes m) = yes (n, m)
      go (no n) (no m) = no (λ h. m h.1)

  pub times : (a b : Polynomial k) → In b → In ((polynomials k).◌⊗◌ a b)
  times a b h =
      subst (IsIn (setting_of c) (finite c gs)) (sym ((poly_hom c).mul a b))
      (𝓜.scale_in _ _ (record { polynomial = a; value = refl }) h)

  sum : (a b : Polynomial k) → In a → In b → In ((polynomials k).◌⊕◌ a b)
  sum a b h h' = subst (IsIn (setting_of c) (finite c gs)) (sym ((poly_hom c).add a b)) (𝓜.sum_in _ _ h h')

  pub one_out : ¬ In (polynomials k).𝟙
  one_out h = place.proper (subst (IsIn (setting_of c) (finite c gs)) (poly_hom c).𝟙 h)

  -- a product in the place has a factor in it
  pub factor_in : (a b : Polynomial k) → In ((polynomials k).◌⊗◌ a b) → ¬ In a → In b
  factor_in a b h n =
      let i = place.inverse (of_poly c a) (polynomial_integral c _ (record { polynomial = a; value = refl })) n in
      subst (IsIn (setting_of c) (finite c gs)) (step (of_poly c a) (of_poly c b) i.0)
      (𝓘 i)
    where
      step : (a b w : FunctionOf c) → w ⊗ (a ⊗ b) ⊕ (⊖ b) ⊗ (a ⊗ w ⊕ ⊖ 𝟙) ≡ b
      step a b w = ring (ring_of c) (a ∷ b ∷ w ∷ []) λ q h. simp (reads, q, h 0, h 1, h 2) (q.equal _ _ refl)

      minus_b : IsPolynomial c (⊖ of_poly c b)
      minus_b = (polynomials_subring c).neg_in _ (record { polynomial = b; value = refl })

      𝓘 : (i : (w : FunctionOf c) × IsIntegralAt (setting_of c) Finite w
          × IsIn (setting_of c) (finite c gs) (of_poly c a ⊗ w ⊕ ⊖ 𝟙))
          → IsIn (setting_of c) (finite c gs)
          (i.0 ⊗ (of_poly c a ⊗ of_poly c b) ⊕ (⊖ of_poly c b) ⊗ (of_poly c a ⊗ i.0 ⊕ ⊖ 𝟙))
      𝓘 i =
          𝓜.sum_in _ _ (place.ideal i.0 _ i.1 (subst (IsIn (setting_of c) (finite c gs)) ((poly_hom c).mul a b) h))
          (𝓜.scale_in _ _ minus_b i.2)

  least : Least k Some
  least = let a = place_polynomial c gs place in least_polynomial k Some decide a.0 (a.1, a.2)

  monic : MonicMultiple k least.member
  monic = monic_multiple k least.member least.has.0

  -- the monic polynomial of least degree in the place
  pub generator_of : Polynomial k
  generator_of = monic.product

  length_is : length monic.product.0 ≡ length least.member.0
  length_is =
      let s = monic.monic.size in let d = monic.degree in let l = some_long k least.member least.has.0 in omega arith

  pub generator_in : In generator_of
  unfolding generator_of
  generator_in = subst In (sym monic.is) (times monic.unit least.member least.has.1)

  generator_some : ¬ (monic.product ≡ (polynomials k).𝟘)
  generator_some e =
      least.has.0 (monic.back ∙ ap ((polynomials k).◌⊗◌ monic.inverse) e ∙ mul_zero (polynomials k).ring monic.inverse)

  -- nothing shorter is in the place
  shorter_out : (b : Polynomial k) → ¬ (b ≡ (polynomials k).𝟘) → length b.0 < length monic.product.0 → ¬ In b
  shorter_out b n l m = let le = least.least b (n, m) in let e = length_is in absurd (omega arith)

  generator_long : 2 ≤ length monic.product.0
  unfolding generator_of
  generator_long = go (one_or_more (length monic.product.0) (some_long k monic.product generator_some))
    where
      go : (length monic.product.0 ≡ 1) ⊎ (2 ≤ length monic.product.0) → 2 ≤ length monic.product.0
      go (inr l) = l
      go (inl e) =
          let s = monic.monic.size in
          let zero : monic.monic.degree ≡ 0 = omega arith in
          let top : coeff_of (code_ring k).ops monic.product.0 0 ≡ (code_ring k).𝟙
          = subst (λ n. coeff_of (code_ring k).ops monic.product.0 n ≡ (code_ring k).𝟙) zero monic.monic.top in
          let one : monic.product ≡ (polynomials k).𝟙
          = constant_of c monic.product (omega arith) ∙ ap (constant (code_ring k)) top
          ∙ (constant_hom (code_ring k)).𝟙 in
          absurd (one_out (subst In one generator_in))

  pub generator_irreducible : IsIrreducibleList k.ops (codes_of k generator_of)
  unfolding generator_of
  generator_irreducible = record {
    monic =
        IsMonic_from_top monic.monic.degree (codes_of k monic.product) (length_codes k monic.product ∙ monic.monic.size)
        (numbers_get k monic.product.0 monic.monic.degree (let s = monic.monic.size in omega arith)
        ∙ ap (λ x. x.0) monic.monic.top);
    not_constant = subst (λ n. 2 ≤ n) (sym (length_codes k monic.product)) generator_long;
    no_divisor = λ b b_in b_monic long short d.
        let B = value k b in
        let Q = value k d.quotient in
        let whole : monic.product ≡ (polynomials k).◌⊗◌ B Q
        = sym (value_codes_of k monic.product) ∙ ap (value k) d.product
        ∙ value_product k b d.quotient b_in d.quotient_in in
        let size : length B.0 ≡ length b = sym (length_codes k B)
        ∙ ap length (numbers_value k b b_in (monic_poly b b_monic)) in
        divided B Q whole (omega (arith, size, long)) (omega (arith, size, short, length_codes k monic.product));
  }
    where
      divided : (B Q : Polynomial k) → monic.product ≡ (polynomials k).◌⊗◌ B Q → 2 ≤ length B.0
          → length B.0 < length monic.product.0 → ⊥
      divided B Q e long short =
          let B_some : ¬ (B ≡ (polynomials k).𝟘) = λ z. generator_some
          (e ∙ ap (λ x. (polynomials k).◌⊗◌ x Q) z ∙ zero_mul (polynomials k).ring Q) in
          let Q_some : ¬ (Q ≡ (polynomials k).𝟘) = λ z. generator_some
          (e ∙ ap ((polynomials k).◌⊗◌ B) z ∙ mul_zero (polynomials k).ring B) in
          let l = length_product (code_ring k) (code_domain k) B Q B_some Q_some in
          let f : length monic.product.0 ≡ length ((polynomials k).◌⊗◌ B Q).0 = ap (λ p. length p.0) e in
          shorter_out Q Q_some (omega arith) (factor_in B Q (subst In e generator_in) (shorter_out B B_some short))

  -- two irreducible polynomials in the place divide each other
  pub divides_other : (p q : Polynomial k) → IsIrreducibleList k.ops (codes_of k p)
      → IsIrreducibleList k.ops (codes_of k q)
      → In p → In q
      → IsDivisorIn (polynomials k).ops p q
  divides_other p q h h' p_in q_in = go (decide_divides k p h q)
    where
      go : Dec (IsDivisorIn (polynomials k).ops p q) → IsDivisorIn (polynomials k).ops p q
      go (yes d) = d
      go (no n) =
          let b = bezout (euclidean k) p (irreducible k p h) q n in
          absurd (one_out (subst In b.is (sum _ _ (times b.left q q_in) (times b.right p p_in))))

  -- so they are the same
  pub same_irreducible : (p q : Polynomial k) → IsIrreducibleList k.ops (codes_of k p)
      → IsIrreducibleList k.ops (codes_of k q) → In p → In q → p ≡ q
  same_irreducible p q h h' p_in q_in = go (divides_other p q h h' p_in q_in) (divides_other q p h' h q_in p_in)
    where
      top : (a : Polynomial k) → IsMonicList (codes_of k a) → (n : ℕ) × (length a.0 ≡ suc n)
          × (coeff_of (code_ring k).ops a.0 n ≡ (code_ring k).𝟙)
      top a m =
          let t = top_of_monic (codes_of k a) m in
          let size : length a.0 ≡ suc t.0 = sym (length_codes k a) ∙ t.1 in (
            t.0,
            size,
            same_code k _ (code_ring k).𝟙 (sym (numbers_get k a.0 t.0 (omega arith)) ∙ t.2),
          )

      factor : (a b u : Polynomial k) → ¬ (a ≡ (polynomials k).𝟘) → b ≡ (polynomials k).◌⊗◌ a u
          → ¬ (b ≡ (polynomials k).𝟘) → ¬ (u ≡ (polynomials k).𝟘)
      factor a b u n e m z = m (e ∙ ap ((polynomials k).◌⊗◌ a) z ∙ mul_zero (polynomials k).ring a)

      length_le : (a b u : Polynomial k) → ¬ (a ≡ (polynomials k).𝟘) → ¬ (b ≡ (polynomials k).𝟘) → b
          ≡ (polynomials k).◌⊗◌ a u → suc (length b.0) ≡ length a.0 + length u.0
      length_le a b u n m e =
          let f : length b.0 ≡ length ((polynomials k).◌⊗◌ a u).0 = ap (λ p. length p.0) e in
          omega (arith, f, length_product (code_ring k) (code_domain k) a u n (factor a b u n e m))

      go : IsDivisorIn (polynomials k).ops p q → IsDivisorIn (polynomials k).ops q p → p ≡ q
      go (u, e) (v, f) =
          let n = irreducible_some k p h in
          let m = irreducible_some k q h' in
          let l = length_le p q u n m e in
          let l' = length_le q p v m n f in
          let u_long = some_long k u (factor p q u n e m) in
          let v_long = some_long k v (factor q p v m f n) in
          let short : length u.0 ≤ 1 = omega arith in
          let s = top p h.monic in
          let t = top q h'.monic in
          let same : t.0 ≡ s.0 = let a = s.1 in let b = t.1 in omega arith in
          let x = coeff_of (code_ring k).ops u.0 0 in
          let u_is : u ≡ constant (code_ring k) x = constant_of c u short in
          let q_is : q ≡ (polynomials k).◌⊗◌ (constant (code_ring k) x) p = e ∙ (polynomials k).mul_comm p u
          ∙ ap (λ w. (polynomials k).◌⊗◌ w p) u_is in
          let one : x ≡ (code_ring k).𝟙
          = sym ((code_ring k).mul_one x) ∙ ap ((code_ring k).◌⊗◌ x) (sym s.2) ∙ sym (constant_times k x p s.0)
          ∙ ap (λ w. coeff_of (code_ring k).ops w.0 s.0) (sym q_is) ∙ ap (coeff_of (code_ring k).ops q.0) (sym same)
          ∙ t.2 in
          sym (q_is ∙ ap (λ w. (polynomials k).◌⊗◌ (constant (code_ring k) w) p) one
          ∙ ap (λ w. (polynomials k).◌⊗◌ w p) (constant_hom (code_ring k)).𝟙
          ∙ one_mul (polynomials k).ring p)
