-- The numbers that bound curves, what a script may ask, and what a run may print.
use Rattle.std.specs.Prelude.{ℕ}

-- the greatest degree in y of the polynomial of a curve
abbrev pub max_degree_in_y : ℕ
max_degree_in_y = 4

-- the greatest degree in x of the polynomial of a curve
abbrev pub max_degree_in_x : ℕ
max_degree_in_x = 32

-- the greatest degree of the discriminant of a curve
abbrev pub max_discriminant_degree : ℕ
max_discriminant_degree = 64

-- the greatest c·n·(n-1) of a curve with the infinity number c
abbrev pub max_degree_at_infinity : ℕ
max_degree_at_infinity = 224

-- the greatest degree in x of an element in a script, and of a polynomial to factor
abbrev pub max_degree : ℕ
max_degree = 512

-- the greatest n times the degree of a polynomial over which places are asked for
abbrev pub max_degree_of_places : ℕ
max_degree_of_places = 512

-- the greatest weight of a divisor: the sum of the absolute values of its integers, each times the degree of its place
abbrev pub max_weight : ℕ
max_weight = 128

-- the greatest degree of a polynomial in an answer
abbrev pub max_answer_degree : ℕ
max_answer_degree = 1024

-- the most bytes that a script may have
abbrev pub max_script : ℕ
max_script = 65536

-- the most bytes that a transcript may have
abbrev pub max_transcript : ℕ
max_transcript = 268435456

-- the most bytes that a run may write
abbrev pub max_output : ℕ
max_output = 268435456

-- what the rest of a run writes at most behind a block: its end, or nothing
abbrev pub room_behind : ℕ
room_behind = 32
