-- Rows of n elements: the coefficients of 1, y, up to y^(n-1), with the product of polynomials in y modulo f.
use Rattle.std.specs.Prelude.{ℕ, zero, suc}
use Rattle.ring_lemmas.specs.Ring.{Operations, CommRing}

abbrev pub Row : Type 0 → ℕ → Type 0
Row P zero = Unit {0}
Row P (suc n) = P × Row P n

module _ {P : Type 0} (S : Operations P) where
  unfoldable pub row_zero : (n : ℕ) → Row P n
  row_zero zero = tt
  row_zero (suc n) = (S.𝟘, row_zero n)

  unfoldable pub row_add : (n : ℕ) → Row P n → Row P n → Row P n
  row_add zero v w = tt
  row_add (suc n) (a, v) (b, w) = (S.◌⊕◌ a b, row_add n v w)

  unfoldable pub row_neg : (n : ℕ) → Row P n → Row P n
  row_neg zero v = tt
  row_neg (suc n) (a, v) = (S.⊖◌ a, row_neg n v)

  -- d·v
  unfoldable pub row_scale : (n : ℕ) → P → Row P n → Row P n
  row_scale zero d v = tt
  row_scale (suc n) d (a, v) = (S.◌⊗◌ d a, row_scale n d v)

  -- c + y·v without its coefficient of y^n, and that coefficient
  unfoldable pub shift : (n : ℕ) → P → Row P n → Row P n
  shift zero c v = tt
  shift (suc n) c (a, v) = (c, shift n a v)

  unfoldable pub top : (n : ℕ) → P → Row P n → P
  top zero c v = c
  top (suc n) c (a, v) = top n a v

  -- y·v, with y^n replaced by y^n - f, where f is y^n plus the row f
  unfoldable pub times_y : (n : ℕ) → Row P n → Row P n → Row P n
  times_y n f v = row_add n (shift n S.𝟘 v) (row_scale n (S.⊖◌ (top n S.𝟘 v)) f)

  -- (a + y·v)·w is a·w + y·(v·w)
  unfoldable pub row_times : (n m : ℕ) → Row P n → Row P m → Row P n → Row P n
  row_times n zero f v w = row_zero n
  row_times n (suc m) f (a, v) w = row_add n (row_scale n a w) (times_y n f (row_times n m f v w))

  -- the coefficient of y^i
  unfoldable pub entry : (n : ℕ) → ℕ → Row P n → P
  entry zero i v = S.𝟘
  entry (suc n) zero (a, v) = a
  entry (suc n) (suc i) (a, v) = entry n i v

  -- y^i modulo f
  unfoldable pub y_to : (n : ℕ) → Row P (suc n) → ℕ → Row P (suc n)
  y_to n f zero = (S.𝟙, row_zero n)
  y_to n f (suc i) = times_y (suc n) f (y_to n f i)

  -- the sum, for i below m, of the coefficient of y^i in v·y^i
  unfoldable pub diagonal_sum : (n m : ℕ) → Row P (suc n) → Row P (suc n) → P
  diagonal_sum n zero f v = S.𝟘
  diagonal_sum n (suc i) f v = S.◌⊕◌ (diagonal_sum n i f v)
      (entry (suc n) i (row_times (suc n) (suc n) f v (y_to n f i)))

  -- the trace of multiplication by v on 1, y, up to y^n
  unfoldable pub row_trace : (n : ℕ) → Row P (suc n) → Row P (suc n) → P
  row_trace n f v = diagonal_sum n (suc n) f v

module _ {P : Type 0} (S : CommRing P) where
  -- 1
  unfoldable pub row_one : (n : ℕ) → Row P (suc n)
  row_one n = (S.𝟙, row_zero S.ops n)

module _ {P : Type 0} (S : CommRing P) (n : ℕ) (f : Row P (suc n)) where
  -- the product modulo y^(n+1) plus the row f
  unfoldable pub row_mul : Row P (suc n) → Row P (suc n) → Row P (suc n)
  row_mul v w = row_times S.ops (suc n) (suc n) f v w

  -- the operations of rows modulo f
  abbrev pub row_ops : Operations (Row P (suc n))
  row_ops = record {
    𝟘 = row_zero S.ops (suc n);
    𝟙 = row_one S n;
    ◌⊕◌ = row_add S.ops (suc n);
    ⊖◌ = row_neg S.ops (suc n);
    ◌⊗◌ = row_mul;
  }
