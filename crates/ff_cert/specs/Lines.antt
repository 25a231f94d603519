-- Lines of a block.
use Rattle.std.specs.Prelude.{ℕ, List, ◌++◌, codes}
use Rattle.ff_script.specs.declared.script.Statement.{Statement}
use Rattle.ff_script.specs.Printing.{statement_text}

-- a line of an answer
abbrev pub answer_line : List ℕ → List ℕ
answer_line text = codes "= " ++ (text ++ codes "\n")

-- the line that repeats the statement
abbrev pub echo_line : Statement → List ℕ
echo_line s = codes "> " ++ (statement_text s ++ codes "\n")
