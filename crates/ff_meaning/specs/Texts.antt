-- What is printed of a refusal.
use Rattle.std.specs.Prelude.{ℕ, List, ◌++◌, codes, decimal}
use Rattle.ff_text.specs.Printed.{poly_text, elem_text}
use Rattle.ff_meaning.specs.declared.refusal.Refusal.{Refusal}
use Rattle.ff_meaning.specs.declared.refusal.Refusal.TheVariants.{FieldSize, NotField, LimitY, LimitX, NotMonic, NotSeparable, LimitDisc, LimitInf, Reducible, NameTaken, LimitPlace, NotIrreducible, NoSuchPlace, CodeRange, Length, Zero, LimitDegree, LimitOutput, Memory}

-- a name and its values
abbrev pub one_value : List ℕ → List ℕ → List ℕ
one_value name v = name ++ (codes " " ++ v)

abbrev pub two_values : List ℕ → List ℕ → List ℕ → List ℕ
two_values name v w = name ++ (codes " " ++ (v ++ (codes " " ++ w)))

-- the name of a refusal with its values; want of memory has none
abbrev pub refusal_words : Refusal → List ℕ
refusal_words (FieldSize p m) = two_values (codes "FieldSize") (decimal p) (decimal m)
refusal_words (NotField a b) = two_values (codes "NotField") (decimal a) (decimal b)
refusal_words (LimitY n) = one_value (codes "LimitY") (decimal n)
refusal_words (LimitX d) = one_value (codes "LimitX") (decimal d)
refusal_words (NotMonic p) = one_value (codes "NotMonic") (poly_text p)
refusal_words NotSeparable = codes "NotSeparable"
refusal_words (LimitDisc d) = one_value (codes "LimitDisc") (decimal d)
refusal_words (LimitInf d) = one_value (codes "LimitInf") (decimal d)
refusal_words (Reducible z) = one_value (codes "Reducible") (elem_text z.num z.den)
refusal_words (NameTaken name) = one_value (codes "NameTaken") name
refusal_words (LimitPlace d) = one_value (codes "LimitPlace") (decimal d)
refusal_words (NotIrreducible h) = one_value (codes "NotIrreducible") (poly_text h)
refusal_words (NoSuchPlace i r) = two_values (codes "NoSuchPlace") (decimal i) (decimal r)
refusal_words (CodeRange c) = one_value (codes "CodeRange") (decimal c)
refusal_words (Length n) = one_value (codes "Length") (decimal n)
refusal_words Zero = codes "Zero"
refusal_words (LimitDegree d) = one_value (codes "LimitDegree") (decimal d)
refusal_words (LimitOutput b) = one_value (codes "LimitOutput") (decimal b)
refusal_words Memory = codes "Memory"

-- the line of a refusal, without its line feed
abbrev pub refusal_text : Refusal → List ℕ
refusal_text r = codes "refused " ++ refusal_words r
