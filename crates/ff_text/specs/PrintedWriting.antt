-- Parts of printed forms, as they are written one after the other.
use Rattle.std.specs.Prelude.{ℕ, List, ◌++◌, codes}
use Rattle.std.specs.List.{flat_map}
use Rattle.ff_text.specs.Printed.{term_text, terms_down, poly_text}

-- the terms, each behind ` + `, where the codes are listed from the top down
abbrev pub plus_text : List ℕ → List ℕ
plus_text cs = flat_map (λ t. codes " + " ++ term_text t.0 t.1) (terms_down cs)

-- the polynomials, each behind `, `
abbrev pub commas_text : List (List ℕ) → List ℕ
commas_text ps = flat_map (λ p. codes ", " ++ poly_text p) ps
