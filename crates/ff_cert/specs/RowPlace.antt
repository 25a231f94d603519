-- The lines of one place.
use Rattle.std.specs.Prelude.{ℕ, List, ◌++◌, codes, decimal}
use Rattle.ff_cert.specs.declared.answer.PlaceLines.{PlaceLines}
use Rattle.ff_cert.specs.Lines.{answer_line}
use Rattle.ff_cert.specs.RowOrder as order_row

-- its number, its ramification index and its degree
abbrev pub head_text : PlaceLines → List ℕ
head_text P =
    codes "place " ++ (decimal P.number ++ (codes " e " ++ (decimal P.e ++ (codes " degree " ++ decimal P.degree))))

-- the line with its numbers, and a line for each row
abbrev pub lines : PlaceLines → List ℕ
lines P = answer_line (head_text P) ++ order_row.lines P.rows

-- the greatest degree of the rows' polynomials
abbrev pub degree : PlaceLines → ℕ
degree P = order_row.degree P.rows
