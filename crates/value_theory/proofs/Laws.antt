-- The theorems, as records.
use Rattle.std.proofs.Common.{◌<◌}
use Rattle.ff_fields.specs.Field.{CodeField}
use Rattle.function_field.specs.Values.{PresValue}
use Rattle.ff_lattice.proofs.PivotIndices.{lattice_over}
use Rattle.value_theory.specs.Laws.{IndicesByDegrees, IdealsAsSets}
use Rattle.value_theory.proofs.Ideals.{closed_module, ideal_set}
use Rattle.value_theory.proofs.Indices.{relative_degrees, coordinate_degree}

module _ (k : CodeField) (p : PresValue) where
  pub indices_by_degrees : 0 < p.n → IndicesByDegrees k p
  indices_by_degrees positive = record {
    relative =
        λ a b a_form b_form. relative_degrees k p positive a b (lattice_over k p a a_form) (lattice_over k p b b_form);
    coordinates = λ a a_form. coordinate_degree k p positive a (lattice_over k p a a_form);
  }

  pub ideals_as_sets : IdealsAsSets k p
  ideals_as_sets = record {
    ideal = ideal_set k p;
    module_is = λ o i h. closed_module k p o i h.closed;
  }
