-- What is left where all primes are divided out is a code, and so a polynomial is factored.
use Rattle.std.proofs.Common.{◌≡◌, ◌≢◌, ℕ, ◌-◌, ◌<◌, ◌≤◌, inl, inr, List, [], ◌∷◌, length, refl, sym, ap, ap₂, ◌∙◌, subst, arith}
use Rattle.std.proofs.lemmas.List.Elements.{All-nil}
use Rattle.ring_lemmas.specs.Ring.{CommRing}
use Rattle.ring_theory.specs.Members.{In}
use Rattle.ring_lemmas.proofs.Ring.{zero_mul, one_mul}
use Rattle.ring_theory.proofs.Polynomials.{length_product}
use Rattle.ff_fields.specs.Field.{CodeField}
use Rattle.ff_fields.specs.Code.{code_ring, code_domain}
use Rattle.ff_fields.specs.Over.{IsOver, IsOver_nil, IsOver_cons, get_or_below}
use Rattle.linear_theory.specs.Euclidean.{IsDivisorIn}
use Rattle.ff_poly.specs.Words.{IsPoly, IsIrreducibleList, top_of, multiple_of}
use Rattle.ff_poly.specs.PowerWords.{power_of}
use Rattle.ff_poly.specs.PolyOver.{IsOver_multiple_of, IsOver_product_of}
use Rattle.ff_poly.specs.Value.{value, value_product, same_from_value}
use Rattle.ff_poly.specs.Polynomials.{Polynomial, polynomials, polynomials_domain, constant_poly, numbers_discrete, value_one}
use Rattle.ff_poly.proofs.Parts.{value_multiple, IsPoly_multiple_of, IsMonic_multiple}
use Rattle.ff_poly.proofs.PowerRests.{IsOver_one, IsOver_power_of, value_power}
use Rattle.ff_falg.specs.Algebras.{IsPrimitiveVector}
use Rattle.ff_falg.specs.Idempotents.{IsPrimitiveList}
use Rattle.ff_factor.specs.Factors.{IsFactorisation, AreAscendingPolys, polys_of, product_of_parts}
use Rattle.polynomial_theory.proofs.ListValues.{length_value, value_scale_list}
use Rattle.ff_factor.specs.Primes.{IsPrimeAt}
use Rattle.ff_factor.specs.Pulls.{ArePrimesOf, IsPrimeList, IsSplitOff, value_of_parts}
use Rattle.ff_factor.specs.Quotients.{IsModulus, quotient_algebra}
use Rattle.polynomial_theory.proofs.Divisors.{some_value, monic_unique, divisor_refl}
use Rattle.polynomial_theory.proofs.Irreducible.{unit_length}
use Rattle.ff_factor.proofs.PrimeFacts.{generates, prime_irreducible, prime_divides_modulus, primes_different, rest_unit}
use Rattle.ff_factor.proofs.PullSteps.{positive}
use Rattle.ff_factor.proofs.SplitSteps.{all_of_in}

-- a list with one code
single : (w : List ℕ) → length w ≡ 1 → w ≡ top_of w ∷ []
single [] e = absurd (omega arith)
single (x ∷ []) e = refl
single (x ∷ y ∷ w) e = absurd (omega arith)

module _ (k : CodeField) where
  infixl 65 ◌⊕◌
  infixl 70 ◌⊗◌
  open polynomials k use {𝟘, 𝟙, ◌⊕◌, ◌⊗◌}

  abbrev P : CommRing (Polynomial k)
  P = (polynomials k).ring

  pub parts_over : (fs : List (List ℕ × ℕ)) → ((p : List ℕ) → In p (polys_of fs) → IsOver k.ops p)
      → IsOver k.ops (product_of_parts k.ops fs)
  parts_over [] f = IsOver_one k
  parts_over (x ∷ fs) f = IsOver_product_of k (IsOver_power_of k x.0 x.1 (f x.0 (inl refl)))
      (parts_over fs (λ p i. f p (inr i)))

  pub parts_value : (fs : List (List ℕ × ℕ)) → ((p : List ℕ) → In p (polys_of fs) → IsOver k.ops p)
      → value k (product_of_parts k.ops fs) ≡ value_of_parts k fs
  parts_value [] f = value_one k
  parts_value (x ∷ fs) f =
      value_product k (power_of k.ops x.0 x.1) (product_of_parts k.ops fs)
      (IsOver_power_of k x.0 x.1 (f x.0 (inl refl))) (parts_over fs (λ p i. f p (inr i)))
      ∙ ap₂ ◌⊗◌ (value_power k x.0 x.1 (f x.0 (inl refl))) (parts_value fs (λ p i. f p (inr i)))

  pub code_inverts : (c : ℕ) → c < k.size → c ≢ 0 → constant_poly k (k.inv c) ⊗ constant_poly k c ≡ 𝟙
  code_inverts c c_in some =
      sym (value_scale_list k (k.inv c) (c ∷ []) (k.laws.inv_below c c_in some) (IsOver_cons c_in IsOver_nil))
      ∙ ap (λ x. value k (x ∷ [])) (k.laws.inv_mul c c_in some) ∙ value_one k

  -- g is a code times the product of the parts
  product_is : (g : List ℕ) (parts : List (List ℕ × ℕ)) (rest : List ℕ) → IsOver k.ops g → IsPoly g → IsOver k.ops rest
      → length rest ≡ 1
      → ((p : List ℕ) → In p (polys_of parts) → IsOver k.ops p) → value k g ≡ value_of_parts k parts ⊗ value k rest
      → multiple_of k.ops (product_of_parts k.ops parts) (top_of rest) ≡ g
  product_is g parts rest g_in g_poly rest_in size over e =
      let t_in = get_or_below k rest (length rest - 1) rest_in in
      same_from_value k _ g (IsOver_multiple_of k (parts_over parts over) t_in) g_in
      (IsPoly_multiple_of k.ops (product_of_parts k.ops parts) (top_of rest)) g_poly
      (value_multiple k (product_of_parts k.ops parts) (top_of rest) (parts_over parts over) t_in
      ∙ ap₂ ◌⊗◌ (ap (value k) (sym (single rest size))) (parts_value parts over)
      ∙ P.mul_comm (value k rest) (value_of_parts k parts) ∙ sym e)

  pub constant_factorised : (g : List ℕ) (unit : ℕ) (parts : List (List ℕ × ℕ)) → IsOver k.ops g → IsPoly g
      → length g ≡ 1 → unit ≡ top_of g → unit ≢ 0 → parts ≡ []
      → IsFactorisation k.ops g (record { unit = unit; parts = parts })
  constant_factorised g unit parts g_in g_poly size unit_is some none =
      subst (λ fs. IsFactorisation k.ops g (record { unit = unit; parts = fs })) (sym none) (record {
        unit_in = subst (λ u. u < k.size) (sym unit_is) (get_or_below k g (length g - 1) g_in);
        unit_some = some;
        over = All-nil (IsOver k.ops);
        irreducible = All-nil (IsIrreducibleList k.ops);
        exponents = All-nil (λ p. 1 ≤ p.1);
        ascending = tt;
        product = ap (multiple_of k.ops (1 ∷ [])) unit_is
            ∙ product_is g [] g g_in g_poly g_in size (λ p i. absurd i) (sym (one_mul P (value k g)));
      })

  module _ (g : List ℕ) (g_in : IsOver k.ops g) (g_poly : IsPoly g) (long : 2 ≤ length g) (top_some : top_of g ≢ 0)
    where
      t : ℕ
      t = top_of g

      t_in : top_of g < k.size
      t_in = get_or_below k g (length g - 1) g_in

      inverse_in : k.inv (top_of g) < k.size
      inverse_in = k.laws.inv_below (top_of g) t_in top_some

      -- g made monic
      abbrev pub m : List ℕ
      m = multiple_of k.ops g (k.inv (top_of g))

      U : Polynomial k
      U = constant_poly k (k.inv (top_of g))

      T : Polynomial k
      T = constant_poly k (top_of g)

      inverts : constant_poly k (k.inv (top_of g)) ⊗ constant_poly k (top_of g) ≡ 𝟙
      inverts = code_inverts (top_of g) t_in top_some

      m_is : value k m ≡ constant_poly k (k.inv (top_of g)) ⊗ value k g
      m_is = value_multiple k g (k.inv (top_of g)) g_in inverse_in

      g_is : value k g ≡ value k m ⊗ constant_poly k (top_of g)
      g_is =
          sym (P.mul_one (value k g)) ∙ ap (λ w. value k g ⊗ w) (sym inverts)
          ∙ sym (P.mul_assoc (value k g) (constant_poly k (k.inv (top_of g))) (constant_poly k (top_of g)))
          ∙ ap (λ w. w ⊗ constant_poly k (top_of g))
          (P.mul_comm (value k g) (constant_poly k (k.inv (top_of g))) ∙ sym m_is)

      pub made_modulus : IsModulus k.ops m
      made_modulus = record {
        over = IsOver_multiple_of k g_in inverse_in;
        monic = IsMonic_multiple k g g_in top_some (omega arith);
        not_constant =
            let u_size = unit_length k (constant_poly k (k.inv (top_of g))) (constant_poly k (top_of g)) inverts in
            let u_some : ¬ (constant_poly k (k.inv (top_of g)) ≡ 𝟘) = λ z. (polynomials_domain k).one_not_zero
            (sym inverts ∙ ap (λ w. w ⊗ constant_poly k (top_of g)) z ∙ zero_mul P (constant_poly k (top_of g))) in
            let s : length (value k m).0 ≡ length (constant_poly k (k.inv (top_of g)) ⊗ value k g).0 = ap
            (λ w. length w.0) m_is in
            omega (
              arith,
              u_size,
              s,
              length_product (code_ring k) (code_domain k) (constant_poly k (k.inv (top_of g))) (value k g) u_some
                  (some_value k g g_in g_poly (omega arith)),
              length_value k g g_in g_poly,
              length_value k m (IsOver_multiple_of k g_in inverse_in) (IsPoly_multiple_of k.ops g (k.inv (top_of g))),
            );
      }

      module _ (es ps : List (List ℕ)) (list : IsPrimitiveList k.ops (quotient_algebra m) es)
          (primes : ArePrimesOf k.ops m es ps) where
        primitive : (e : List ℕ) → In e es → IsPrimitiveVector k.ops (quotient_algebra m) e
        primitive e i = (list.members e).0 i

        pub made_primes : IsPrimeList k g ps
        made_primes = record {
          over = λ p i. (primes.each p i).2.over;
          irreducible = λ p i. let r = primes.each p i in prime_irreducible k m made_modulus r.0 p (primitive r.0 r.1)
              r.2;
          divides = λ p i.
              let r = primes.each p i in
              let d = prime_divides_modulus k m made_modulus r.0 p (primitive r.0 r.1) r.2 in (
                d.0 ⊗ constant_poly k (top_of g),
                g_is ∙ ap (λ w. w ⊗ constant_poly k (top_of g)) d.1
                    ∙ P.mul_assoc (value k p) d.0 (constant_poly k (top_of g)),
              );
          different = different;
          ascending = primes.ascending;
        }
          where
            different : (p q : List ℕ) → In p ps → In q ps → ¬ (p ≡ q) → ¬ IsDivisorIn P.ops (value k p) (value k q)
            different p q i j ne d = go (numbers_discrete r.0 s.0)
              where
                r : (e : List ℕ) × In e es × IsPrimeAt k.ops m e p
                r = primes.each p i

                s : (e : List ℕ) × In e es × IsPrimeAt k.ops m e q
                s = primes.each q j

                same : (e f : List ℕ) → In e es → IsPrimeAt k.ops m e p → IsPrimeAt k.ops m f q → e ≡ f → p ≡ q
                same e f l is_p is_q same_e =
                    let is_q' : IsPrimeAt k.ops m e q = subst (λ x. IsPrimeAt k.ops m x q) (sym same_e) is_q in
                    let pr = primitive e l in
                    monic_unique k p q is_p.over is_q.over is_p.monic is_q.monic
                    ((generates k m made_modulus e p pr is_p (value k q)).0
                    ((generates k m made_modulus e q pr is_q' (value k q)).1 (divisor_refl k (value k q))))
                    ((generates k m made_modulus e q pr is_q' (value k p)).0
                    ((generates k m made_modulus e p pr is_p (value k p)).1 (divisor_refl k (value k p))))

                go : Dec (r.0 ≡ s.0) → ⊥
                go (yes e) = ne (same r.0 s.0 r.1 r.2 s.2 e)
                go (no n) =
                    primes_different k m made_modulus r.0 s.0 p q (primitive r.0 r.1) (primitive s.0 s.1) r.2 s.2
                    (list.product r.0 s.0 r.1 s.1 n) d

        pub factorised : (parts : List (List ℕ × ℕ)) (rest : List ℕ) (unit : ℕ) → IsSplitOff k g ps parts rest
            → unit ≡ top_of rest → unit ≢ 0
            → IsFactorisation k.ops g (record { unit = unit; parts = parts })
        factorised parts rest unit s unit_is some = record {
          unit_in = subst (λ u. u < k.size) (sym unit_is) (get_or_below k rest (length rest - 1) s.over);
          unit_some = some;
          over = all_of_in (IsOver k.ops) (polys_of parts) over;
          irreducible = all_of_in (IsIrreducibleList k.ops) (polys_of parts)
              (λ p i. made_primes.irreducible p (subst (In p) s.polys i));
          exponents = s.exponents;
          ascending = subst AreAscendingPolys (sym s.polys) primes.ascending;
          product = ap (multiple_of k.ops (product_of_parts k.ops parts)) unit_is
              ∙ product_is g parts rest g_in g_poly s.over size over s.product;
        }
          where
            over : (p : List ℕ) → In p (polys_of parts) → IsOver k.ops p
            over p i = made_primes.over p (subst (In p) s.polys i)

            divides : IsDivisorIn P.ops (value k rest) (value k m)
            divides = (
              value_of_parts k parts ⊗ constant_poly k (k.inv (top_of g)),
              m_is ∙ P.mul_comm (constant_poly k (k.inv (top_of g))) (value k g)
                  ∙ ap (λ w. w ⊗ constant_poly k (k.inv (top_of g)))
                  (s.product ∙ P.mul_comm (value_of_parts k parts) (value k rest))
                  ∙ P.mul_assoc (value k rest) (value_of_parts k parts) (constant_poly k (k.inv (top_of g))),
            )

            unit_of : (v : Polynomial k) × (value k rest ⊗ v ≡ 𝟙)
            unit_of =
                rest_unit k m made_modulus (value k rest) es primitive list.sum divides
                (λ e i a.
                let r = primes.all e i in
                s.free r.0 r.1 ((generates k m made_modulus e r.0 (primitive e i) r.2 (value k rest)).0 a))

            size : length rest ≡ 1
            size =
                let l = unit_length k (value k rest) unit_of.0 unit_of.1 in
                omega (arith, l, length_value k rest s.over s.poly)

  -- a is g divided by its top code, which isn't 0, where g has degree 1 or more
  pub record IsScaled (g a : List ℕ) : Type 0 where
    pub over : IsOver k.ops g
    pub poly : IsPoly g
    pub long : 2 ≤ length g
    pub top_some : top_of g ≢ 0
    pub is : a ≡ multiple_of k.ops g (k.inv (top_of g))

  pub scaled : (g codes a : List ℕ) (top inverse : ℕ) → IsOver k.ops g → IsPoly g → codes ≡ g → ¬ (length codes ≡ 1)
      → g ≢ [] → top ≡ top_of g → top ≢ 0
      → inverse ≡ k.inv top → a ≡ multiple_of k.ops g inverse → IsScaled g a
  scaled g codes a top inverse g_in g_poly codes_is not_one some top_is top_some inverse_is a_is = record {
    over = g_in;
    poly = g_poly;
    long = let l = ap length codes_is in let n = positive k g some in omega arith;
    top_some = λ e. top_some (top_is ∙ e);
    is = a_is ∙ ap (multiple_of k.ops g) (inverse_is ∙ ap k.inv top_is);
  }

  pub scaled_modulus : (g a : List ℕ) → IsScaled g a → IsModulus k.ops a
  scaled_modulus g a s = subst (IsModulus k.ops) (sym s.is) (made_modulus g s.over s.poly s.long s.top_some)

  pub scaled_primes : (g a : List ℕ) (es ps : List (List ℕ)) → IsScaled g a
      → IsPrimitiveList k.ops (quotient_algebra a) es → ArePrimesOf k.ops a es ps → IsPrimeList k g ps
  scaled_primes g a es ps s list primes =
      made_primes g s.over s.poly s.long s.top_some es ps
      (subst (λ w. IsPrimitiveList k.ops (quotient_algebra w) es) s.is list)
      (subst (λ w. ArePrimesOf k.ops w es ps) s.is primes)

  pub scaled_factors : (g a : List ℕ) (es ps : List (List ℕ)) → IsScaled g a
      → IsPrimitiveList k.ops (quotient_algebra a) es → ArePrimesOf k.ops a es ps
      → (parts : List (List ℕ × ℕ)) (rest : List ℕ) (unit : ℕ) → IsSplitOff k g ps parts rest → unit ≡ top_of rest
      → unit ≢ 0
      → IsFactorisation k.ops g (record { unit = unit; parts = parts })
  scaled_factors g a es ps s list primes =
      factorised g s.over s.poly s.long s.top_some es ps
      (subst (λ w. IsPrimitiveList k.ops (quotient_algebra w) es) s.is list)
      (subst (λ w. ArePrimesOf k.ops w es ps) s.is primes)
