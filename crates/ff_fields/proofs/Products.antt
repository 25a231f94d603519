-- What a reduction says of residues, and what factors of the modulus say of products that are 0.
use Rattle.std.proofs.Common.{◌≡◌, ◌≢◌, ℕ, suc, ◌+◌, ◌-◌, ◌*◌, ◌^◌, ◌<◌, ◌≤◌, List, length, get_or, take, replicate, IsTrue, true, ◌⊎◌, inl, inr, refl, sym, ap, ap₂, ◌∙◌, arith, subst, pow-suc, mul_comm}
use Rattle.std.proofs.Math.Nat.{mul-le-mul_right, pow-le-pow_right}
use Rattle.std.proofs.lemmas.Bool.{cases_lt}
use Rattle.std.proofs.lemmas.List.{length-replicate}
use Rattle.ring_lemmas.specs.Ring.{TestedRing}
use Rattle.ring_lemmas.specs.Lists.{coeff_of}
use Rattle.ring_lemmas.specs.Congruence.{IsCongruent}
use Rattle.ring_lemmas.proofs.Ring.{zero_add, one_mul, mul_zero, domain_cancel}
use Rattle.ring_lemmas.proofs.Congruence.{congruent_sym, congruent_trans, congruent_same}
use Rattle.ring_lemmas.proofs.Sequences.{convolution_top}
use Rattle.ring_lemmas.specs.Polynomials.{Pol, pol_ops}
use Rattle.ring_theory.specs.PolynomialRing.{pol_ring}
use Rattle.ring_theory.proofs.Polynomials.{pol_domain, length_product}
use Rattle.ring_lemmas.proofs.Polynomials.{series_mul, coeff_past}
use Rattle.ring_theory.specs.Division.{IsDivision}
use Rattle.ring_theory.proofs.Division.{one_way}
use Rattle.ff_fields.specs.Field.{CodeField}
use Rattle.ff_fields.specs.Prime.{is_listed, prime_of, prime_field}
use Rattle.ff_fields.specs.Code.{Code, code_ring, code_domain, same_code}
use Rattle.ff_fields.specs.Over.{IsOver}
use Rattle.ff_fields.specs.Residue.{digits, number, residue_mul, M, modulus_codes, quotient, of_product, of_null, same_class, number_below, product_below, zero_below, length_of, length_M}
use Rattle.ff_fields.specs.Modulus.{IsMonicModulus, IsMonicCode, IsFactor, IsReducedProduct, IsZeroProduct, IsLeastZeroProduct, NoZeroProduct, NoFactorBelow, polynomial}
use Rattle.ff_fields.proofs.PolyCodes.{code, of_code, of_code_code, code_of_code, digit_of_code, monic_code, code_monic, code_below, code_null, base_pos}
use Rattle.ff_fields.proofs.ZeroProducts.{NoDivisor, no_null, least_multiple, long_some}
use mathlib.Core.Bool.{Bool-set}
use Rattle.ff_fields.proofs.Reductions.{coeff_polynomial, length_polynomial, of_number, of_code_same, reduced_product, unit_list, reduced_quotient}

-- whether p is listed is known in one way alone
factor_from : (p m : ℕ) (modulus : List ℕ) (a b : ℕ) (listed : IsTrue (is_listed p))
    → (pol_ring (code_ring (prime_field p listed))).◌⊗◌ (of_code p listed m a) (of_code p listed m b)
    ≡ polynomial p listed modulus → IsFactor p m modulus a b
factor_from p m modulus a b listed e = record {
  product = λ listed'.
      subst (λ l. (pol_ring (code_ring (prime_field p l))).◌⊗◌ (of_code p l m a) (of_code p l m b)
      ≡ polynomial p l modulus) (Bool-set (is_listed p) true listed listed') e;
}

-- products of residues
module _ (p m : ℕ) (modulus : List ℕ) (poly : IsMonicModulus p m modulus) where
  abbrev listed : IsTrue (is_listed p)
  listed = poly.size.listed

  abbrev k : CodeField
  k = prime_field p listed

  abbrev K : TestedRing (Code k)
  K = code_ring k

  abbrev s : TestedRing (Pol K)
  s = pol_ring K

  abbrev F : Pol K
  F = polynomial p listed modulus

  abbrev of : ℕ → Pol K
  of c = of_code p listed m c

  short : (c : ℕ) → length (of c).0 ≤ m
  short c = length_of p listed m poly.size.some modulus poly.long poly.over poly.monic c

  F_long : length F.0 ≡ suc m
  unfolding M modulus_codes
  F_long = length_M p listed m poly.size.some modulus poly.long poly.over poly.monic

  whole_product : (a b : ℕ) → s.◌⊗◌ (of a) (of b)
      ≡ s.◌⊕◌ (of (residue_mul p m modulus a b))
      (s.◌⊗◌ F (quotient p listed m poly.size.some modulus poly.long poly.over poly.monic a b))
  unfolding M modulus_codes
  whole_product a b = of_product p listed m poly.size.some modulus poly.long poly.over poly.monic a b

  pub one_class : (a b : ℕ) → a < p ^ m → b < p ^ m → IsCongruent s.ops F (of a) (of b) → a ≡ b
  unfolding M modulus_codes
  one_class a b a_in b_in same = same_class p listed m poly.size.some modulus poly.long poly.over poly.monic a b a_in
      b_in same

  pub below : (a b : ℕ) → residue_mul p m modulus a b < p ^ m
  below a b = product_below p listed m poly.size.some modulus poly.long poly.over poly.monic a b

  length_null : length s.𝟘.0 ≡ 0
  unfolding pol_ops
  length_null = refl

  null : of 0 ≡ s.𝟘
  null = of_null p listed m poly.size.some modulus poly.long poly.over poly.monic

  pub same_residue : (a b : ℕ) → IsCongruent s.ops F (of (residue_mul p m modulus a b)) (s.◌⊗◌ (of a) (of b))
  same_residue a b =
      congruent_sym s.ring F _ _ (record {
        times = quotient p listed m poly.size.some modulus poly.long poly.over poly.monic a b;
        differs =
            whole_product a b;
      })

  -- what is left of a product that was reduced is the product of the residues
  pub number_reduced : (a b : ℕ) (q rest : List ℕ) → length rest ≡ m → IsOver (prime_of p) rest
      → IsReducedProduct p (digits p m a) (digits p m b) (replicate m 0) q modulus rest
      → number p rest ≡ residue_mul p m modulus a b
  number_reduced a b q rest long over done =
      one_class (number p rest) (residue_mul p m modulus a b) (number_below p (base_pos p listed) m rest long over)
      (below a b)
      (congruent_trans s.ring F _ _ _ (congruent_same s.ring F _ _
      (of_number p listed m rest (omega (arith, long)) over))
      (congruent_trans s.ring F _ _ _
      (congruent_sym s.ring F _ _ (record {
        times = polynomial p listed q;
        differs = reduced_product p listed (digits p m a) (digits p m b) q modulus
            rest m done ∙ s.add_comm _ _;
      }))
      (congruent_sym s.ring F _ _ (same_residue a b))))

  -- a product of residues is 0 exactly where the modulus divides that of the polynomials
  null_multiple : (a b : ℕ) → residue_mul p m modulus a b ≡ 0 → (t : Pol K) × (s.◌⊗◌ (of a) (of b) ≡ s.◌⊗◌ F t)
  null_multiple a b e = (
    quotient p listed m poly.size.some modulus poly.long poly.over poly.monic a b,
    whole_product a b ∙ ap (λ w. s.◌⊕◌ w
        (s.◌⊗◌ F (quotient p listed m poly.size.some modulus poly.long poly.over poly.monic a b)))
        (ap (λ c. of c) e ∙ null) ∙ zero_add s.ring _,
  )

  factor_null : (a b : ℕ) → s.◌⊗◌ (of a) (of b) ≡ F → residue_mul p m modulus a b ≡ 0
  factor_null a b e =
      one_class (residue_mul p m modulus a b) 0 (below a b)
      (zero_below p listed m poly.size.some modulus poly.long poly.over poly.monic)
      (congruent_trans s.ring F _ _ _ (same_residue a b)
      (congruent_trans s.ring F _ s.𝟘 _ (record { times = s.𝟙; differs = e ∙ sym (zero_add s.ring _ ∙ s.mul_one F) })
      (congruent_same s.ring F _ _ (sym null))))

  code_of : (c : ℕ) → c < p ^ m → code p listed (of c) ≡ c
  code_of c less = code_of_code p listed m c less

  some_of : (c : ℕ) → c < p ^ m → c ≢ 0 → ¬ (of c ≡ s.𝟘)
  some_of c less some e = some (sym (code_of c less) ∙ ap (code p listed) e ∙ code_null p listed)

  -- no factor below the bound is no divisor below it
  no_divisor : (bound : ℕ) → NoFactorBelow p m modulus bound → NoDivisor p listed m F bound
  no_divisor bound none d c e some half long monic less whole =
      none e (code p listed d) (code p listed c) some half (monic_code p listed d e long monic) less
      (code_below p listed c m c_short)
      (factor_from p m modulus (code p listed d) (code p listed c) listed
      (ap₂ s.◌⊗◌ (of_code_code p listed m d (omega (arith, some, half, long))) (of_code_code p listed m c c_short)
      ∙ whole))
    where
      d_some : ¬ (d ≡ s.𝟘)
      d_some = long_some p listed d e long

      c_some : ¬ (c ≡ s.𝟘)
      c_some e' = long_some p listed F m F_long (sym whole ∙ ap (s.◌⊗◌ d) e' ∙ mul_zero s.ring d)

      c_short : length c.0 ≤ m
      c_short = omega (
        arith,
        some,
        long,
        F_long,
        length_product K (code_domain k) d c d_some c_some,
        ap
            (λ w. length w.0) whole,
      )

  -- where no factor is below any bound, no product is 0
  pub none_null : ((bound : ℕ) → NoFactorBelow p m modulus bound) → NoZeroProduct p m modulus
  none_null none a b a_in b_in a_some b_some e =
      let multiple = null_multiple a b e in
      no_null p listed m F F_long (suc a) (no_divisor (suc a) (none (suc a))) (suc a) (of a) (of b) multiple.0
      (omega (arith, code_of a a_in)) (omega (arith, code_of a a_in)) (some_of a a_in a_some) (some_of b b_in b_some)
      (short a) (short b) multiple.1

  -- the first factor, and its cofactor
  module _ (e d c : ℕ) (e_some : 0 < e) (half : e + e ≤ m) (monic : IsMonicCode p e d) (c_in : c < p ^ m)
      (factor : IsFactor p m modulus d c) where
    d_below : d < p ^ suc e
    d_below =
        let below = monic.below in
        let two : 2 * p ^ e ≤ p * p ^ e = mul-le-mul_right (p ^ e) k.laws.one_below in
        let next : p ^ suc e ≡ p * p ^ e = pow-suc p e ∙ mul_comm (p ^ e) p in
        omega (arith, below, two, next)

    d_in : d < p ^ m
    d_in =
        let up : p ^ suc e ≤ p ^ m = pow-le-pow_right (base_pos p listed) (omega arith) in
        omega (arith, d_below, up)

    d_top : (length (of d).0 ≡ suc e) × (coeff_of K.ops (of d).0 e ≡ K.𝟙)
    d_top = code_monic p listed (of d) e (subst (λ w. IsMonicCode p e w) (sym (code_of d d_in)) monic)

    whole : s.◌⊗◌ (of d) (of c) ≡ F
    whole = factor.product listed

    d_some : ¬ (of d ≡ s.𝟘)
    d_some = long_some p listed (of d) e d_top.0

    c_some : ¬ (of c ≡ s.𝟘)
    c_some e' = long_some p listed F m F_long (sym whole ∙ ap (s.◌⊗◌ (of d)) e' ∙ mul_zero s.ring (of d))

    c_long : length (of c).0 ≡ suc (m - e)
    c_long = omega (
      arith,
      e_some,
      half,
      d_top.0,
      F_long,
      length_product K (code_domain k) (of d) (of c) d_some c_some,
      ap (λ w. length w.0) whole,
    )

    F_top : coeff_of K.ops F.0 m ≡ K.𝟙
    F_top = same_code k _ K.𝟙 (coeff_polynomial p listed modulus m poly.over ∙ poly.monic)

    c_top : coeff_of K.ops (of c).0 (m - e) ≡ K.𝟙
    c_top =
        let positions : e + (m - e) ≡ m = omega (arith, half) in
        sym (one_mul K.ring _) ∙ ap (λ w. K.◌⊗◌ w (coeff_of K.ops (of c).0 (m - e))) (sym d_top.1)
        ∙ sym (convolution_top K.ring e (m - e) (coeff_of K.ops (of d).0) (coeff_of K.ops (of c).0)
        (λ i less. coeff_past K (of d).0 i (omega (arith, d_top.0, less)))
        (λ i less. coeff_past K (of c).0 i (omega (arith, c_long, less))))
        ∙ sym (series_mul K (of d) (of c) (e + (m - e)))
        ∙ ap (λ w. coeff_of K.ops w.0 (e + (m - e))) whole
        ∙ ap (coeff_of K.ops F.0) positions
        ∙ F_top

    nonzero : (x : ℕ) → ¬ (of x ≡ s.𝟘) → x ≢ 0
    nonzero x some e' = some (ap (λ w. of w) e' ∙ null)

    pub least_null : NoFactorBelow p m modulus d → IsLeastZeroProduct p m modulus d c
    least_null none = record {
      product = record {
        a_in = d_in;
        b_in = c_in;
        a_some = nonzero d d_some;
        b_some = nonzero c c_some;
        null = factor_null d c whole;
      };
      least_a = λ x y z. least_a x y z (cases_lt x d);
      least_b = λ y z. least_b y z;
    }
      where
        least_a : (x y : ℕ) → IsZeroProduct p m modulus x y → (x < d) ⊎ (d ≤ x) → d ≤ x
        least_a x y z (inr more) = more
        least_a x y z (inl less) =
            let multiple = null_multiple x y z.null in
            absurd (no_null p listed m F F_long d (no_divisor d none) (suc x) (of x) (of y) multiple.0
            (omega (arith, code_of x z.a_in)) (omega (arith, code_of x z.a_in, less)) (some_of x z.a_in z.a_some)
            (some_of y z.b_in z.b_some) (short x) (short y) multiple.1)

        least_b : (y : ℕ) → IsZeroProduct p m modulus d y → c ≤ y
        least_b y z =
            let multiple = null_multiple d y z.null in
            let y_is : of y ≡ s.◌⊗◌ (of c) multiple.0 =
            domain_cancel s.ring (pol_domain K (code_domain k)) (of d) (of y) (s.◌⊗◌ (of c) multiple.0) d_some
            (multiple.1 ∙ ap (λ w. s.◌⊗◌ w multiple.0) (sym whole) ∙ s.mul_assoc (of d) (of c) multiple.0) in
            let t_some : ¬ (multiple.0 ≡ s.𝟘) = λ e'. some_of y z.b_in z.b_some
            (y_is ∙ ap (s.◌⊗◌ (of c)) e' ∙ mul_zero s.ring (of c)) in
            let least = least_multiple p listed (of c) multiple.0 (m - e) c_long c_top t_some in
            omega (arith, least, code_of c c_in, ap (code p listed) y_is, code_of y z.b_in)

  -- what a trial division says
  module _ (e d : ℕ) (e_some : 0 < e) (half : e + e ≤ m) (monic : IsMonicCode p e d) (j : ℕ) (q rest : List ℕ)
      (q_long : length q ≡ m) (q_in : IsOver (prime_of p) q) (rest_long : length rest ≡ e)
      (rest_in : IsOver (prime_of p) rest) (done : IsReducedProduct p (take m modulus) (unit_list j) (unit_list j) q
      (digits p (suc e) d) rest) where
    under : d < p ^ suc e
    under =
        let below = monic.below in
        let two : 2 * p ^ e ≤ p * p ^ e = mul-le-mul_right (p ^ e) k.laws.one_below in
        let next : p ^ suc e ≡ p * p ^ e = pow-suc p e ∙ mul_comm (p ^ e) p in
        omega (arith, below, two, next)

    tried : F ≡ s.◌⊕◌ (s.◌⊗◌ (of d) (of (number p q))) (polynomial p listed rest)
    tried =
        reduced_quotient p listed modulus q (digits p (suc e) d) rest m j poly.long poly.over poly.monic done
        ∙ ap₂ (λ x y. s.◌⊕◌ (s.◌⊗◌ x y) (polynomial p listed rest))
        (sym (of_code_same p listed (suc e) m d (omega (arith, e_some, half)) under))
        (sym (of_number p listed m q (omega (arith, q_long)) q_in))

    pub divides : number p rest ≡ 0 → IsFactor p m modulus d (number p q)
    divides e' =
        factor_from p m modulus d (number p q) listed
        (sym (tried ∙ ap (s.◌⊕◌ _) (sym (of_number p listed m rest (omega (arith, rest_long, half)) rest_in)
        ∙ ap (λ w. of w) e' ∙ null) ∙ s.add_zero _))

    divisor_long : length (of d).0 ≡ suc e
    divisor_long =
        let up : p ^ suc e ≤ p ^ m = pow-le-pow_right (base_pos p listed) (omega (arith, e_some, half)) in
        (code_monic p listed (of d) e (subst (λ w. IsMonicCode p e w) (sym (code_of d (omega (arith, under, up))))
        monic)).0

    pub divides_not : number p rest ≢ 0 → (c : ℕ) → c < p ^ m → ¬ IsFactor p m modulus d c
    divides_not some c c_in factor =
        let rest_short : length (polynomial p listed rest).0 ≤ e = omega
        (arith, rest_long, length_polynomial p listed rest rest_in) in
        let here : IsDivision K F (of d) (of (number p q)) (polynomial p listed rest) = record
        { whole = tried; shorter = omega (arith, rest_short, divisor_long) } in
        let there : IsDivision K F (of d) (of c) s.𝟘 = record
        { whole = sym (factor.product listed) ∙ sym (s.add_zero _); shorter = null_short } in
        let nothing : of (number p rest) ≡ s.𝟘 =
        of_number p listed m rest (omega (arith, rest_long, half)) rest_in
        ∙ (one_way K (code_domain k) F (of d) (of (number p q)) (of c) (polynomial p listed rest) s.𝟘 here there).1
        in
        some (sym (code_of (number p rest) rest_below) ∙ ap (code p listed) nothing ∙ code_null p listed)
      where
        null_short : length s.𝟘.0 < length (of d).0
        null_short = omega (arith, length_null, divisor_long)

        rest_below : number p rest < p ^ m
        rest_below =
            let small : number p rest < p ^ e = number_below p (base_pos p listed) e rest rest_long rest_in in
            let up : p ^ e ≤ p ^ m = pow-le-pow_right (base_pos p listed) (omega (arith, half)) in
            omega (arith, small, up)

-- the same from what the loops wrote
pub written_product : (p m : ℕ) (modulus : List ℕ) → IsMonicModulus p m modulus → (a b : ℕ) (zeros x y q rest : List ℕ)
    → zeros ≡ replicate m 0 → x ≡ digits p (length zeros) a → y ≡ digits p (length zeros) b → length rest ≡ length zeros
    → IsOver (prime_of p) rest → IsReducedProduct p x y zeros q modulus rest
    → number p rest ≡ residue_mul p m modulus a b
written_product p m modulus poly a b zeros x y q rest zeros_are x_is y_is long over done =
    let room : length zeros ≡ m = ap length zeros_are ∙ length-replicate m 0 in
    number_reduced p m modulus poly a b q rest (long ∙ room) over
    (subst (λ w. IsReducedProduct p (digits p m a) (digits p m b) w q modulus rest) zeros_are
    (subst (λ w. IsReducedProduct p w (digits p m b) zeros q modulus rest) (x_is ∙ ap (λ n. digits p n a) room)
    (subst (λ w. IsReducedProduct p x w zeros q modulus rest) (y_is ∙ ap (λ n. digits p n b) room) done)))

-- the top digit of a monic code
pub monic_digit : (p e d : ℕ) → IsTrue (is_listed p) → IsMonicCode p e d → get_or (digits p (suc e) d) e 0 ≡ 1
monic_digit p e d listed monic =
    let below = monic.below in
    let above = (prime_field p listed).laws.one_below in
    let two : 2 * p ^ e ≤ p * p ^ e = mul-le-mul_right (p ^ e) above in
    let next : p ^ suc e ≡ p * p ^ e = pow-suc p e ∙ mul_comm (p ^ e) p in
    let less : d < p ^ suc e = omega (arith, below, two, next) in
    let top = code_monic p listed (of_code p listed (suc e) d) e
    (subst (λ w. IsMonicCode p e w) (sym (code_of_code p listed (suc e) d less)) monic) in
    sym (digit_of_code p listed (suc e) d e) ∙ ap (λ x. x.0) top.1

-- what the trial division wrote
pub written_division : (p m : ℕ) (modulus : List ℕ) → IsMonicModulus p m modulus → (e d : ℕ) → 0 < e → e + e ≤ m
    → IsMonicCode p e d → (zeros one divisor q rest : List ℕ) → length zeros ≡ suc e
    → divisor ≡ digits p (length zeros) d → one ≡ unit_list (e - 1) → length q ≡ m → IsOver (prime_of p) q
    → length rest ≡ e → IsOver (prime_of p) rest → IsReducedProduct p (take m modulus) one one q divisor rest
    → (number p rest ≡ 0 → IsFactor p m modulus d (number p q))
    × (number p rest ≢ 0 → (c : ℕ) → c < p ^ m → ¬ IsFactor p m modulus d c)
written_division p m modulus poly e d e_some half monic zeros one divisor q rest positions divisor_is one_is q_long q_in
    rest_long rest_in done =
    let kept : IsReducedProduct p (take m modulus) (unit_list (e - 1)) (unit_list (e - 1)) q (digits p (suc e) d) rest =
    subst (λ w. IsReducedProduct p (take m modulus) w w q (digits p (suc e) d) rest) one_is
    (subst (λ w. IsReducedProduct p (take m modulus) one one q w rest) (divisor_is ∙ ap (λ n. digits p n d) positions)
    done) in (
      divides p m modulus poly e d e_some half monic (e - 1) q rest q_long q_in rest_long rest_in kept,
      divides_not p m modulus poly e d e_some half monic (e - 1) q rest q_long q_in rest_long rest_in kept,
    )
