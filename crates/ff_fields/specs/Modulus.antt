-- What a modulus must be, and what stands in the way of a field.
use Rattle.std.specs.Prelude.{◌≡◌, ◌≢◌, ℕ, suc, ◌+◌, ◌*◌, ◌%◌, ◌^◌, ◌<◌, ◌≤◌, List, ◌∷◌, length, get_or, IsTrue}
use Rattle.ring_lemmas.specs.Lists.{coeff_of, convolution, mul_onto}
use Rattle.ring_lemmas.specs.Polynomials.{Pol, pol_of}
use Rattle.ring_theory.specs.PolynomialRing.{pol_ring}
use Rattle.ff_fields.specs.declared.fault.FieldFault.{FieldFault}
use Rattle.ff_fields.specs.declared.fault.FieldFault.TheVariants.{FieldSize, CodeRange, NotMonic, NotField}
use Rattle.ff_fields.specs.Field.{CodeField}
use Rattle.ff_fields.specs.Prime.{is_listed, prime_of, prime_field}
use Rattle.ff_fields.specs.Code.{code_ring}
use Rattle.ff_fields.specs.Over.{IsOver}
use Rattle.ff_fields.specs.Numbers.{read}
use Rattle.ff_fields.specs.Residue.{digits, residue_mul, residue_field}

-- p is listed, and p to the m, a size above 1, is at most 65,536
pub record IsFieldSize (p m : ℕ) : Type 0 where
  pub listed : IsTrue (is_listed p)
  pub some : 0 < m
  pub small : p ^ m ≤ 65536

-- c is the first of the coefficients that is p or more
pub record IsFirstOutside (p : ℕ) (modulus : List ℕ) (c : ℕ) : Type 0 where
  pub position : ℕ
  pub within : position < length modulus
  pub is : get_or modulus position 0 ≡ c
  pub outside : p ≤ c
  pub before : (i : ℕ) → i < position → get_or modulus i 0 < p

-- a monic polynomial of degree m over the prime field
pub record IsMonicModulus (p m : ℕ) (modulus : List ℕ) : Type 0 where
  pub size : IsFieldSize p m
  pub long : length modulus ≡ suc m
  pub over : IsOver (prime_of p) modulus
  pub monic : get_or modulus m 0 ≡ 1

-- two codes that are not 0, with the product 0
pub record IsZeroProduct (p m : ℕ) (modulus : List ℕ) (a b : ℕ) : Type 0 where
  pub a_in : a < p ^ m
  pub b_in : b < p ^ m
  pub a_some : a ≢ 0
  pub b_some : b ≢ 0
  pub null : residue_mul p m modulus a b ≡ 0

-- the least a that has such a b, and the least such b
pub record IsLeastZeroProduct (p m : ℕ) (modulus : List ℕ) (a b : ℕ) : Type 0 where
  pub product : IsZeroProduct p m modulus a b
  pub least_a : (x y : ℕ) → IsZeroProduct p m modulus x y → a ≤ x
  pub least_b : (y : ℕ) → IsZeroProduct p m modulus a y → b ≤ y

-- no two codes that are not 0 have the product 0
abbrev pub NoZeroProduct : ℕ → ℕ → List ℕ → Type 0
NoZeroProduct p m modulus = (a b : ℕ) → a < p ^ m → b < p ^ m → a ≢ 0 → b ≢ 0 → residue_mul p m modulus a b ≢ 0

-- the codes below p to the m are a field by this modulus
pub record IsFieldModulus (p m : ℕ) (modulus : List ℕ) : Type 0 where
  pub polynomial : IsMonicModulus p m modulus
  pub no_divisors : NoZeroProduct p m modulus

-- the field of the codes below p to the m
abbrev pub modulus_field : (p m : ℕ) (modulus : List ℕ) → IsFieldModulus p m modulus → CodeField
modulus_field p m modulus g =
    let f = g.polynomial in
    residue_field p f.size.listed m f.size.some modulus f.long f.over f.monic f.size.small g.no_divisors

-- what keeps the codes from being a field; each fault comes only where none above it holds
abbrev pub IsFaultOf : ℕ → ℕ → List ℕ → FieldFault → Type 0
IsFaultOf p m modulus (FieldSize q n) = (q ≡ p) × (n ≡ m) × ¬ IsFieldSize p m
IsFaultOf p m modulus (CodeRange c) = IsFieldSize p m × IsFirstOutside p modulus c
IsFaultOf p m modulus (NotMonic c) = IsFieldSize p m × IsOver (prime_of p) modulus × (get_or modulus m 0 ≡ c) × (c ≢ 1)
IsFaultOf p m modulus (NotField a b) = IsMonicModulus p m modulus × IsLeastZeroProduct p m modulus a b

-- the polynomial over the prime field with these coefficients, lowest first
abbrev pub polynomial : (p : ℕ) (listed : IsTrue (is_listed p)) → List ℕ → Pol (code_ring (prime_field p listed))
polynomial p listed codes = pol_of (code_ring (prime_field p listed)) (read (prime_field p listed) codes)

-- the modulus is the product of the polynomials that two codes stand for
pub record IsFactor (p m : ℕ) (modulus : List ℕ) (a b : ℕ) : Type 0 where
  pub product : (listed : IsTrue (is_listed p))
      → (pol_ring (code_ring (prime_field p listed))).◌⊗◌ (polynomial p listed (digits p m a))
      (polynomial p listed (digits p m b)) ≡ polynomial p listed modulus

-- d is the code of a monic polynomial of degree e
pub record IsMonicCode (p e d : ℕ) : Type 0 where
  pub least : p ^ e ≤ d
  pub below : d < 2 * p ^ e

-- no monic polynomial of a degree from 1 to m / 2, with a code below the bound, divides the modulus
abbrev pub NoFactorBelow : ℕ → ℕ → List ℕ → ℕ → Type 0
NoFactorBelow p m modulus bound = (e d c : ℕ) → 0 < e → e + e ≤ m → IsMonicCode p e d → d < bound → c < p ^ m
    → ¬ IsFactor p m modulus d c

-- a · b and `before`, moved up by as many positions as a has, make quotient · modulus and the rest
pub record IsReducedProduct (p : ℕ) (a b before quotient modulus rest : List ℕ) : Type 0 where
  pub whole : (listed : IsTrue (is_listed p)) →
      let k = prime_field p listed in
      let r = code_ring k in
      (n : ℕ) → coeff_of r.ops (mul_onto r.ops (read k a) (read k b) (read k before)) n
      ≡ r.◌⊕◌ (convolution r.ops (coeff_of r.ops (read k quotient)) (coeff_of r.ops (read k modulus)) n)
      (coeff_of r.ops (read k rest) n)

-- the entry at n of s · before + c · row, less `lost` times the modulus
abbrev pub stepped : ℕ → List ℕ → ℕ → List ℕ → ℕ → List ℕ → ℕ → ℕ
stepped p before c row lost modulus n = (get_or (0 ∷ before) n 0 + lost * get_or modulus n 0 + c * get_or row n 0) % p
