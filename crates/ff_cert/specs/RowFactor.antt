-- The answers of `factor`.
use Rattle.std.specs.Prelude.{ℕ, ◌-◌, List, [], ◌∷◌, ◌++◌, length, map, max, codes, decimal, flat_map}
use Rattle.ff_fields.specs.Field.{FieldOps}
use Rattle.ff_factor.specs.Factors.{IsFactorisation}
use Rattle.ff_text.specs.declared.terms.Term.{Term}
use Rattle.ff_text.specs.Printed.{poly_text}
use Rattle.ff_meaning.specs.Meaning.{IsPolyOf}
use Rattle.ff_cert.specs.declared.answer.PowerLine.{PowerLine}
use Rattle.ff_cert.specs.Lines.{answer_line}

-- these are the factors of the polynomial that the terms add up to
pub record IsTrue (k : FieldOps) (g : List Term) (unit : ℕ) (parts : List PowerLine) : Type 0 where
  pub sum : List ℕ
  pub is_sum : IsPolyOf k g sum
  pub factors : IsFactorisation k sum (record { unit = unit; parts = map (λ l. (l.poly, l.exponent)) parts })

-- a polynomial behind its exponent
abbrev pub part_text : PowerLine → List ℕ
part_text l = decimal l.exponent ++ (codes " " ++ poly_text l.poly)

-- a line for each power
abbrev pub part_lines : List PowerLine → List ℕ
part_lines parts = flat_map (λ l. answer_line (part_text l)) parts

-- the line of the code, and a line for each power
abbrev pub lines : ℕ → List PowerLine → List ℕ
lines unit parts = answer_line (codes "unit " ++ decimal unit) ++ part_lines parts

-- the greatest degree of the polynomials, 0 where there are none
abbrev pub degree : List PowerLine → ℕ
degree [] = 0
degree (l ∷ ls) = max (length l.poly - 1) (degree ls)
