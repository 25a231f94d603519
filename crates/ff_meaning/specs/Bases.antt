-- How what places lie over is read.
use Rattle.std.specs.Prelude.{◌≡◌, ℕ, ◌<◌, ◌≤◌, ◌-◌, ◌*◌, List, length}
use Rattle.ff_fields.specs.Field.{FieldOps}
use Rattle.ff_fields.specs.Over.{IsOver}
use Rattle.function_field.specs.declared.side.Side.{Side}
use Rattle.function_field.specs.Limits.{max_degree_of_places}
use Rattle.ff_text.specs.declared.terms.Term.{Term}
use Rattle.ff_text.specs.Values.{written_codes}
use Rattle.ff_script.specs.declared.script.Over.{Over}
use Rattle.ff_meaning.specs.declared.refusal.Refusal.{Refusal}
use Rattle.ff_meaning.specs.declared.refusal.Refusal.TheVariants.{LimitPlace}
use Rattle.ff_meaning.specs.Meaning.{IsPolyOf, IsBase}
use Rattle.ff_meaning.specs.Refusals.{IsCodeRow, IsBaseRow}

module _ (k : FieldOps) (n : ℕ) where
  -- the polynomial that the terms add up to, of which n times the degree is at most the bound
  pub record IsPolynomialRead (bound : ℕ) (g : List Term) (p : List ℕ) : Type 0 where
    pub is : IsPolyOf k g p
    pub over : IsOver k p
    pub small : n * (length p - 1) ≤ bound

  -- a code is too great, or n times the degree is above the bound
  pub data IsRefusedPolynomial (bound : ℕ) (g : List Term) (r : Refusal) : Type 0 where
    range : IsCodeRow k.size (written_codes g) r → IsRefusedPolynomial bound g r
    degree : (p : List ℕ) → IsPolyOf k g p → bound < n * (length p - 1) → r ≡ LimitPlace (n * (length p - 1))
        → IsRefusedPolynomial bound g r

  -- the side and the polynomial are those of the places, and no row holds
  pub record IsBaseRead (over : Over) (side : Side) (p : List ℕ) : Type 0 where
    pub base : IsBase k over side p
    pub codes : IsOver k p
    pub no_row : (r : Refusal) → ¬ IsBaseRow k n max_degree_of_places over r
