-- Reading a printed form from left to right.
use Rattle.std.specs.Prelude.{◌≡◌, ℕ, zero, suc, ◌+◌, ◌-◌, ◌*◌, List, [], ◌∷◌, ◌++◌, length, reverse, replicate, codes, Option, Some, None, Result, Ok, Err, option_and_then, nat_lt, nat_le, ◌==◌, ◌&&◌, if◌then◌else◌}
use Rattle.std.specs.Char.{is_ascii_digit}
use Rattle.std.specs.Option.{option_map_or}
use Rattle.ff_poly.specs.Words.{top_of}
use Rattle.ff_text.specs.declared.fault.TextFault.{TextFault}
use Rattle.ff_text.specs.Printed.{term_count, IsNoText}

infixl 10 ◌>>=◌
abbrev pub ◌>>=◌ : {A B : Type 0} → Option A → (A → Option B) → Option B
o >>= f = option_and_then f o

-- what a function returned, seen by view, is what reading finds
abbrev pub Finds : {X Y : Type 0} → (X → Y) → Option X → Option Y → Type 0
Finds view None read = read ≡ None
Finds view (Some x) read = read ≡ Some (view x)

-- the same of a result, unless memory ran out
abbrev pub FindsUnless : {X Y : Type 0} → (X → Y) → Result X TextFault → Option Y → Type 0
FindsUnless view (Ok x) read = read ≡ Some (view x)
FindsUnless view (Err e) read = IsNoText e (read ≡ None)

-- what was read before, and what is read now
abbrev pub with_front : {X Y : Type 0} → List X → Option (List X × Y) → Option (List X × Y)
with_front front read = read >>= λ x. Some (front ++ x.0, x.1)

-- the first, and what is read behind it
abbrev pub with_first : {X Y : Type 0} → X → Option (List X × Y) → Option (List X × Y)
with_first first read = read >>= λ x. Some (first ∷ x.0, x.1)

-- the bytes after the text that they begin with
unfoldable pub after_text : List ℕ → List ℕ → Option (List ℕ)
after_text [] bytes = Some bytes
after_text (c ∷ cs) [] = None
after_text (c ∷ cs) (b ∷ bs) = if b == c then after_text cs bs else None

-- the value of the digit at the front
unfoldable pub digit_at : List ℕ → Option (ℕ × List ℕ)
digit_at [] = None
digit_at (c ∷ cs) = if is_ascii_digit c then Some (c - 48, cs) else None

-- the number that the digits at the front end, where n stands before them, below the limit
unfoldable pub digits_at : ℕ → ℕ → List ℕ → Option (ℕ × List ℕ)
digits_at limit n [] = Some (n, [])
digits_at limit n (c ∷ cs) = if is_ascii_digit c then
    (if nat_lt (10 * n + (c - 48)) limit then digits_at limit (10 * n + (c - 48)) cs else None) else Some (n, c ∷ cs)

-- a number from low on, not 0, below the limit
unfoldable pub number_at : ℕ → ℕ → List ℕ → Option (ℕ × List ℕ)
number_at low limit bytes = option_map_or (λ _. None) (after_text (codes "0") bytes) (do
  n ← digits_at limit 0 bytes
  if nat_le low n.0 then Some n else None)

-- ---- polynomials

-- an exponent behind x
unfoldable pub exponent_at : List ℕ → Option (ℕ × List ℕ)
exponent_at bytes = option_map_or (number_at 2 1025) (after_text (codes "^") bytes) (Some (1, bytes))

-- the exponent of a power of x
unfoldable pub power_at : List ℕ → Option (ℕ × List ℕ)
power_at bytes = do
  rest ← after_text (codes "x") bytes
  exponent_at rest

-- the degree of a power of x behind the code c and `*`, where c isn't 1
abbrev pub factor_at : ℕ → List ℕ → Option ((ℕ × ℕ) × List ℕ)
factor_at c rest = if nat_lt 1 c then (power_at rest >>= λ j. Some ((c, j.0), j.1)) else None

-- a term whose code is read
abbrev pub behind_code : ℕ × List ℕ → Option ((ℕ × ℕ) × List ℕ)
behind_code c = option_map_or (factor_at c.0) (after_text (codes "*") c.1) (Some ((c.0, 0), c.1))

-- the code and the degree of a term
unfoldable pub term_at : List ℕ → Option ((ℕ × ℕ) × List ℕ)
term_at bytes = option_map_or behind_code (number_at 1 65536 bytes) (power_at bytes >>= λ j. Some ((1, j.0), j.1))

-- a term behind ` + `
unfoldable pub plus_at : List ℕ → Option ((ℕ × ℕ) × List ℕ)
plus_at bytes = do
  start ← after_text (codes " + ") bytes
  term_at start

-- the same, of a degree below the bound
unfoldable pub lower_at : ℕ → List ℕ → Option ((ℕ × ℕ) × List ℕ)
lower_at bound bytes = plus_at bytes >>= λ t. if nat_lt t.0.1 bound then Some t else None

-- the code before those that are read
abbrev pub on_top : ℕ → List ℕ × List ℕ → List ℕ × List ℕ
on_top c read = (c ∷ read.0, read.1)

-- the codes of the terms below degree j, from the top down, as many as there are in order
unfoldable pub codes_at : ℕ → List ℕ → List ℕ × List ℕ
codes_at zero bytes = ([], bytes)
codes_at (suc j) bytes = option_map_or
    (λ t. if t.0.1 == j then on_top t.0.0 (codes_at j t.1) else on_top 0 (codes_at j bytes))
    (plus_at bytes)
    (on_top 0 (codes_at j bytes))

-- all codes, where the term on top is read
abbrev pub below_top : (ℕ × ℕ) × List ℕ → Option (List ℕ × List ℕ)
below_top t = let read = codes_at t.0.1 t.1 in Some (reverse (t.0.0 ∷ read.0), read.1)

-- a polynomial
unfoldable pub poly_at : List ℕ → Option (List ℕ × List ℕ)
poly_at bytes = option_map_or below_top (term_at bytes) (after_text (codes "0") bytes >>= λ rest. Some ([], rest))

-- ---- elements

-- polynomials with `, ` before each, at most so many
unfoldable pub some_polys_at : ℕ → List ℕ → Option (List (List ℕ) × List ℕ)
some_polys_at zero bytes = Some ([], bytes)
some_polys_at (suc k) bytes = option_map_or
    (λ start. poly_at start >>= λ p. with_first p.0 (some_polys_at k p.1))
    (after_text (codes ", ") bytes)
    (Some ([], bytes))

-- polynomials with `, ` before each, as many as there are
unfoldable pub polys_at : List ℕ → Option (List (List ℕ) × List ℕ)
polys_at bytes = some_polys_at (length bytes) bytes

-- polynomials in brackets, one or more
unfoldable pub num_at : List ℕ → Option (List (List ℕ) × List ℕ)
num_at bytes = do
  start ← after_text (codes "[") bytes
  first ← poly_at start
  others ← polys_at first.1
  rest ← after_text (codes "]") others.1
  Some (first.0 ∷ others.0, rest)

-- a monic polynomial of more than one term, behind its opening parenthesis
unfoldable pub inner_at : List ℕ → Option (List ℕ × List ℕ)
inner_at bytes = do
  d ← poly_at bytes
  rest ← after_text (codes ")") d.1
  if (top_of d.0 == 1) && nat_lt 1 (term_count d.0) then Some (d.0, rest) else None

-- x to the power j as a polynomial
abbrev pub power_of_x : ℕ → List ℕ
power_of_x j = replicate j 0 ++ 1 ∷ []

-- a denominator behind `/`
unfoldable pub den_at : List ℕ → Option (List ℕ × List ℕ)
den_at bytes = option_map_or inner_at (after_text (codes "(") bytes)
    (power_at bytes >>= λ j. Some (power_of_x j.0, j.1))

-- a denominator, 1 if none is written
unfoldable pub over_at : List ℕ → Option (List ℕ × List ℕ)
over_at bytes = option_map_or den_at (after_text (codes "/") bytes) (Some (1 ∷ [], bytes))

-- the numerators and the denominator of an element
unfoldable pub elem_at : List ℕ → Option ((List (List ℕ) × List ℕ) × List ℕ)
elem_at bytes = do
  num ← num_at bytes
  den ← over_at num.1
  Some ((num.0, den.0), den.1)
