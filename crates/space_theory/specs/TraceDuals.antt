-- The duals of lattices under the trace of a product, and with them the pairs of canonical divisors (Stichtenoth,
-- section 3.4).
use Rattle.std.specs.Prelude.{◌≡◌, ℕ, ◌<◌, List, length}
use Rattle.ring_lemmas.specs.Ring.{pow}
use Rattle.ff_fields.specs.Field.{CodeField}
use Rattle.function_field.specs.Functions.{Equation, FunctionOf, ring_of, trace_of, setting_of, degree_of_y, IsPolynomial, IsFiniteAtInfinity}
use Rattle.linear_theory.specs.Lists.{entry}

module _ {k : CodeField} (c : Equation k) where
  -- the functions whose products with the members of I have polynomials as traces
  abbrev pub TraceDual : (FunctionOf c → Type 0) → FunctionOf c → Type 0
  TraceDual I z = (u : FunctionOf c) → I u → IsPolynomial c (trace_of c ((ring_of c).◌⊗◌ z u))

  -- the functions whose products with the members of N have traces of degree at most 0
  abbrev pub InfiniteTraceDual : (FunctionOf c → Type 0) → FunctionOf c → Type 0
  InfiniteTraceDual N z = (u : FunctionOf c) → N u → IsFiniteAtInfinity c (trace_of c ((ring_of c).◌⊗◌ z u))

  -- those with traces of degree at most -2
  abbrev pub CanonicalDual : (FunctionOf c → Type 0) → FunctionOf c → Type 0
  CanonicalDual N z = InfiniteTraceDual N ((ring_of c).◌⊗◌ (pow (ring_of c).ops (setting_of c).x 2) z)

  -- the trace of c_i·b_j is 1 for i = j, and 0 else
  pub record IsTraceDualBasis (bs cs : List (FunctionOf c)) : Type 0 where
    pub count : length cs ≡ degree_of_y c
    pub same :
        (i : ℕ) → i < degree_of_y c
        → trace_of c ((ring_of c).◌⊗◌ (entry (ring_of c).𝟘 cs i) (entry (ring_of c).𝟘 bs i)) ≡ (ring_of c).𝟙
    pub other :
        (i j : ℕ) → i < degree_of_y c → j < degree_of_y c → ¬ (i ≡ j)
        → trace_of c ((ring_of c).◌⊗◌ (entry (ring_of c).𝟘 cs i) (entry (ring_of c).𝟘 bs j)) ≡ (ring_of c).𝟘
