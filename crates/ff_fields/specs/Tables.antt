-- Tables of the powers of one code and of the logarithms to it.
use Rattle.std.specs.Prelude.{◌≡◌, ◌≢◌, ℕ, ◌-◌, ◌<◌, List, length, get_or}
use Rattle.ff_fields.specs.declared.table.Power.{Power}
use Rattle.ff_fields.specs.Field.{FieldOps, pow_of}

-- the powers of g with the exponents below m all differ
abbrev pub HasPowers : FieldOps → ℕ → ℕ → Type 0
HasPowers k g m = (i j : ℕ) → i < j → j < m → pow_of k g i ≢ pow_of k g j

-- l is the logarithm of c to the base g, or the mark 65,535 where c is 0
pub record IsLog (k : FieldOps) (g c l : ℕ) : Type 0 where
  pub of_zero : c ≡ 0 → l ≡ 65535
  pub of_some : c ≢ 0 → (l < k.size - 1) × (pow_of k g l ≡ c)

-- entry i holds the code g^i and the logarithm of 1 + g^i
pub record IsPowerTable (k : FieldOps) (g : ℕ) (powers : List Power) : Type 0 where
  pub long : length powers ≡ k.size - 1
  pub code_is : (i : ℕ) (d : Power) → i < length powers → (get_or powers i d).code ≡ pow_of k g i
  pub next_is : (i : ℕ) (d : Power) → i < length powers → IsLog k g (k.add 1 (pow_of k g i)) (get_or powers i d).next

-- entry c holds the logarithm of c
pub record IsLogTable (k : FieldOps) (g : ℕ) (logs : List ℕ) : Type 0 where
  pub long : length logs ≡ k.size
  pub log_is : (c : ℕ) → c < k.size → IsLog k g c (get_or logs c 0)

-- the tables of a code g of which each code but 0 is a power, beside -1
pub record IsTables (k : FieldOps) (g minus_one : ℕ) (powers : List Power) (logs : List ℕ) : Type 0 where
  pub g_in : g < k.size
  pub g_some : g ≢ 0
  pub minus_one_is : minus_one ≡ k.neg 1
  pub powers_are : IsPowerTable k g powers
  pub logs_are : IsLogTable k g logs

-- the powers of g with the exponents below m differ from 1 but for the first, and stand in the tables
pub record AreWrittenTables (k : FieldOps) (g m : ℕ) (codes logs : List ℕ) : Type 0 where
  pub not_one : (i : ℕ) → 0 < i → i < m → pow_of k g i ≢ 1
  pub code_is : (i : ℕ) → i < m → get_or codes i 0 ≡ pow_of k g i
  pub log_is : (i : ℕ) → i < m → get_or logs (pow_of k g i) 0 ≡ i

-- entry i of the powers holds the code at i, and the logarithm of 1 plus it
pub record IsPowerOf (k : FieldOps) (codes logs : List ℕ) (powers : List Power) (i : ℕ) : Type 0 where
  pub code_is : (d : Power) → (get_or powers i d).code ≡ get_or codes i 0
  pub next_is : (d : Power) → (get_or powers i d).next ≡ get_or logs (k.add 1 (get_or codes i 0)) 0
