-- The degrees of terms, and the coefficient of a power of y, a term at a time.
use Rattle.std.proofs.Common.{◌≡◌, ◌≢◌, ℕ, zero, suc, ◌+◌, ◌-◌, ◌<◌, ◌≤◌, max, Bool, true, false, cond, ◌&&◌, nat_eq, eq-eqb, ne_eqb, eqb-true, List, [], ◌∷◌, ◌++◌, length, get_or, set, drop, replicate, refl, sym, ap, ap₂, ◌∙◌, arith, All}
use Rattle.std.proofs.lemmas.List.{at_drop_more, drop_all, get_or_at, get_or_append_left, get_or-set_same, get_or-set_other, length-set}
use Rattle.std.proofs.lemmas.List.Elements.{All-get_or, All-set}
use native.Mathlib.Decide.{ℕ_discrete}
use borrow.Author.Count.{below_more}
use Rattle.ff_fields.specs.Field.{FieldOps, CodeField}
use Rattle.ff_fields.specs.Over.{IsOver, IsOver_trim, IsOver_zeros, get_or_below}
use Rattle.ff_fields.specs.Code.{is_zero_code}
use Rattle.ring_lemmas.specs.Lists.{trim_onto}
use Rattle.ff_poly.specs.Words.{poly_of}
use Rattle.ff_poly.specs.PolyOver.{IsPoly_poly_of}
use Rattle.ff_poly.specs.TermWords.{code_at}
use Rattle.ff_algebra.specs.CurveTerms.{degree_in_y, degree_in_x, IsCoefficient}

-- ---- the greatest exponents

pub y_more : (ts : List (ℕ × ℕ × ℕ)) (i d : ℕ) (t : ℕ × ℕ × ℕ) → i < length ts → t ≡ get_or ts i t
    → max d (degree_in_y (drop i ts)) ≡ degree_in_y ts
    → max (max t.0 d) (degree_in_y (drop (i + 1) ts)) ≡ degree_in_y ts
y_more ts i d t less t_is same =
    let e : degree_in_y (drop i ts) ≡ max (get_or ts i t).0 (degree_in_y (drop (i + 1) ts)) = at_drop_more degree_in_y
    ts i t less in
    let h : t.0 ≡ (get_or ts i t).0 = ap (λ t. t.0) t_is in
    omega (arith, e, h, same)

pub y_end : (ts : List (ℕ × ℕ × ℕ)) (i d : ℕ) → length ts ≤ i → max d (degree_in_y (drop i ts)) ≡ degree_in_y ts
    → d ≡ degree_in_y ts
y_end ts i d le same =
    let e : degree_in_y (drop i ts) ≡ 0 = ap degree_in_y (drop_all i ts le) in
    omega (arith, e, same)

pub x_more : (ts : List (ℕ × ℕ × ℕ)) (i d : ℕ) (t : ℕ × ℕ × ℕ) → i < length ts → t ≡ get_or ts i t
    → max d (degree_in_x (drop i ts)) ≡ degree_in_x ts
    → max (max t.1 d) (degree_in_x (drop (i + 1) ts)) ≡ degree_in_x ts
x_more ts i d t less t_is same =
    let e : degree_in_x (drop i ts) ≡ max (get_or ts i t).1 (degree_in_x (drop (i + 1) ts)) = at_drop_more degree_in_x
    ts i t less in
    let h : t.1 ≡ (get_or ts i t).1 = ap (λ t. t.1) t_is in
    omega (arith, e, h, same)

pub x_end : (ts : List (ℕ × ℕ × ℕ)) (i d : ℕ) → length ts ≤ i → max d (degree_in_x (drop i ts)) ≡ degree_in_x ts
    → d ≡ degree_in_x ts
x_end ts i d le same =
    let e : degree_in_x (drop i ts) ≡ 0 = ap degree_in_x (drop_all i ts le) in
    omega (arith, e, same)

pub x_at_most : (ts : List (ℕ × ℕ × ℕ)) (i : ℕ) (t : ℕ × ℕ × ℕ) → i < length ts → t ≡ get_or ts i t
    → t.1 ≤ degree_in_x ts
x_at_most ts i t less t_is =
    let h : t.1 ≡ (get_or ts i t).1 = ap (λ t. t.1) t_is in
    let le = go ts i less in
    omega (arith, h, le)
  where
    go : (ts : List (ℕ × ℕ × ℕ)) (i : ℕ) → i < length ts → (get_or ts i t).1 ≤ degree_in_x ts
    go [] i less = absurd (omega arith)
    go (u ∷ ts) zero less = omega arith
    go (u ∷ ts) (suc i) less = let le = go ts i (omega arith) in omega (arith, le)

-- ---- the codes of a coefficient

and_false : (b : Bool) → (b && false) ≡ false
and_false true = refl
and_false false = refl

module _ (k : FieldOps) (i x : ℕ) (t : ℕ × ℕ × ℕ) (ts : List (ℕ × ℕ × ℕ)) where
  chosen : Bool → ℕ
  chosen b = cond b (k.add t.2 (code_at k i x ts)) (code_at k i x ts)

  code_here : t.0 ≡ i → t.1 ≡ x → code_at k i x (t ∷ ts) ≡ k.add t.2 (code_at k i x ts)
  unfolding chosen
  code_here e d = ap chosen (ap₂ ◌&&◌ (eq-eqb t.0 i e) (eq-eqb t.1 x d))

  code_other_x : t.1 ≢ x → code_at k i x (t ∷ ts) ≡ code_at k i x ts
  unfolding chosen
  code_other_x n = ap chosen (ap (λ b. nat_eq t.0 i && b) (ne_eqb t.1 x n) ∙ and_false (nat_eq t.0 i))

  code_other_y : t.0 ≢ i → code_at k i x (t ∷ ts) ≡ code_at k i x ts
  unfolding chosen
  code_other_y n = ap chosen (ap (λ b. b && nat_eq t.1 x) (ne_eqb t.0 i n))

module _ (k : FieldOps) (i : ℕ) (codes : List ℕ) (ts : List (ℕ × ℕ × ℕ)) (j : ℕ) (t : ℕ × ℕ × ℕ) (less : j < length ts)
    (t_is : t ≡ get_or ts j t) (old : (x : ℕ) → get_or codes x 0 ≡ code_at k i x (drop (j + 1) ts)) where
  split_off : (x : ℕ) → code_at k i x (drop j ts) ≡ code_at k i x (t ∷ drop (j + 1) ts)
  split_off x = at_drop_more (code_at k i x) ts j t less ∙ ap (λ u. code_at k i x (u ∷ drop (j + 1) ts)) (sym t_is)

  -- the term has y^i
  pub codes_more : (new : List ℕ) → t.0 ≡ i → t.1 < length codes → new ≡ set codes t.1 (k.add t.2 (get_or codes t.1 0))
      → (x : ℕ) → get_or new x 0 ≡ code_at k i x (drop j ts)
  codes_more new e inside new_is x = ap (λ w. get_or w x 0) new_is ∙ go (ℕ_discrete t.1 x) ∙ sym (split_off x)
    where
      go : Dec (t.1 ≡ x) → get_or (set codes t.1 (k.add t.2 (get_or codes t.1 0))) x 0
          ≡ code_at k i x (t ∷ drop (j + 1) ts)
      go (yes d) =
          ap (λ n. get_or (set codes t.1 (k.add t.2 (get_or codes t.1 0))) n 0) (sym d)
          ∙ get_or-set_same codes t.1 (k.add t.2 (get_or codes t.1 0)) 0 inside
          ∙ ap (k.add t.2) (ap (λ n. get_or codes n 0) d ∙ old x)
          ∙ sym (code_here k i x t (drop (j + 1) ts) e d)
      go (no n) =
          get_or-set_other codes t.1 x (k.add t.2 (get_or codes t.1 0)) 0 (λ e. n (sym e)) ∙ old x
          ∙ sym (code_other_x k i x t (drop (j + 1) ts) n)

  -- it has another power
  pub codes_same : t.0 ≢ i → (x : ℕ) → get_or codes x 0 ≡ code_at k i x (drop j ts)
  codes_same n x = old x ∙ sym (split_off x ∙ code_other_y k i x t (drop (j + 1) ts) n)

pub codes_none : (k : FieldOps) (i n m : ℕ) (ts : List (ℕ × ℕ × ℕ)) → length ts ≤ m → (x : ℕ)
    → get_or {A = ℕ} (replicate n 0) x 0 ≡ code_at k i x (drop m ts)
codes_none k i n m ts le x = go n x ∙ sym (ap (code_at k i x) (drop_all m ts le))
  where
    go : (n x : ℕ) → get_or {A = ℕ} (replicate n 0) x 0 ≡ 0
    go zero x = refl
    go (suc n) zero = refl
    go (suc n) (suc x) = go n x

pub read_any : {A : Type 0} (xs : List A) (i : ℕ) (d e : A) → i < length xs → get_or xs i d ≡ get_or xs i e
read_any [] i d e less = absurd (omega arith)
read_any (x ∷ xs) zero d e less = refl
read_any (x ∷ xs) (suc i) d e less = read_any xs i d e (omega arith)

-- the codes of the terms from j on
pub record AreCodesFrom (k : FieldOps) (i : ℕ) (ts : List (ℕ × ℕ × ℕ)) (j : ℕ) (codes : List ℕ) : Type 0 where
  pub size : length codes ≡ 33
  pub over : IsOver k codes
  pub each : (x : ℕ) → get_or codes x 0 ≡ code_at k i x (drop j ts)

module _ (k : CodeField) (i : ℕ) (ts : List (ℕ × ℕ × ℕ)) where
  pub codes_start : (codes : List ℕ) → codes ≡ replicate 33 0 → AreCodesFrom k.ops i ts (length ts) codes
  codes_start codes codes_is = rw codes_is
      (record { size = refl; over = IsOver_zeros k 33; each = codes_none k.ops i 33 (length ts) ts (omega arith) })

  pub x_inside : (j : ℕ) → 0 < j → j ≤ length ts → degree_in_x ts ≤ 32 → (get_or ts (j - 1) (0, 0, 0)).1 < 33
  x_inside j some le low =
      let t = get_or ts (j - 1) (0, 0, 0) in
      let h : t.1 ≤ degree_in_x ts = x_at_most ts (j - 1) t (omega arith)
      (read_any ts (j - 1) (0, 0, 0) t (omega arith)) in
      omega (arith, h, low)

  pub codes_then : (j sum : ℕ) (codes : List ℕ) → 0 < j → j ≤ length ts → degree_in_x ts ≤ 32
      → All (λ t. t.2 < k.size) ts → AreCodesFrom k.ops i ts j codes
      → (get_or ts (j - 1) (0, 0, 0)).0 ≡ i
      → sum ≡ k.add (get_or ts (j - 1) (0, 0, 0)).2 (get_or codes (get_or ts (j - 1) (0, 0, 0)).1 0)
      → AreCodesFrom k.ops i ts (j - 1) (set codes (get_or ts (j - 1) (0, 0, 0)).1 sum)
  codes_then j sum codes some le low ts_in old same sum_is =
      let t = get_or ts (j - 1) (0, 0, 0) in
      let less : j - 1 < length ts = omega arith in
      let inside : t.1 < length codes = let h = x_inside j some le low in omega (arith, h, old.size) in
      let t_in : t.2 < k.size = All-get_or (λ t. t.2 < k.size) ts (j - 1) (0, 0, 0) less ts_in in
      let next : j ≡ j - 1 + 1 = omega arith in
      let sum_in : sum < k.size = rw sum_is
      (k.laws.add_below t.2 (get_or codes t.1 0) t_in (get_or_below k codes t.1 old.over)) in
      record {
        size = length-set codes t.1 sum ∙ old.size;
        over = record { each = All-set (λ c. c < k.size) codes t.1 sum sum_in old.over.each };
        each = codes_more k.ops i codes ts (j - 1) t less (read_any ts (j - 1) (0, 0, 0) t less)
            (λ x. old.each x ∙ ap (λ m. code_at k.ops i x (drop m ts)) next) (set codes t.1 sum) same inside
            (ap (set codes t.1) sum_is);
      }

  pub codes_else : (j : ℕ) (codes : List ℕ) → 0 < j → j ≤ length ts → AreCodesFrom k.ops i ts j codes
      → (get_or ts (j - 1) (0, 0, 0)).0 ≢ i → AreCodesFrom k.ops i ts (j - 1) codes
  codes_else j codes some le old other =
      let t = get_or ts (j - 1) (0, 0, 0) in
      let less : j - 1 < length ts = omega arith in
      let next : j ≡ j - 1 + 1 = omega arith in
      record {
        size = old.size;
        over = old.over;
        each = codes_same k.ops i codes ts (j - 1) t less (read_any ts (j - 1) (0, 0, 0) t less)
            (λ x. old.each x ∙ ap (λ m. code_at k.ops i x (drop m ts)) next) other;
      }

-- ---- without the zeros on top

onto_same : (c : ℕ) (w : List ℕ) (j : ℕ) → get_or (trim_onto is_zero_code c w) j 0 ≡ get_or (c ∷ w) j 0
onto_same c [] j = go (is_zero_code c) j (λ e. eqb-true c 0 e)
  where
    go : (b : Bool) (j : ℕ) → (b ≡ true → c ≡ 0) → get_or (cond b [] (c ∷ [])) j 0 ≡ get_or (c ∷ []) j 0
    go true zero h = sym (h refl)
    go true (suc j) h = refl
    go false j h = refl
onto_same c (d ∷ w) j = refl

pub get_or_poly_of : (w : List ℕ) (j : ℕ) → get_or (poly_of w) j 0 ≡ get_or w j 0
get_or_poly_of [] j = refl
get_or_poly_of (c ∷ w) j = onto_same c (poly_of w) j ∙ next j (λ i. get_or_poly_of w i)
  where
    next : (j : ℕ) → ((i : ℕ) → get_or (poly_of w) i 0 ≡ get_or w i 0) → get_or (c ∷ poly_of w) j 0 ≡ get_or (c ∷ w) j 0
    next zero h = refl
    next (suc j) h = h j

pub length_poly_of : (w : List ℕ) → length (poly_of w) ≤ length w
length_poly_of [] = omega arith
length_poly_of (c ∷ w) = let h = length_poly_of w in let m = onto (poly_of w) in omega (arith, h, m)
  where
    one : (b : Bool) → length (cond b [] (c ∷ [])) ≤ 1
    one true = omega arith
    one false = omega arith

    onto : (v : List ℕ) → length (trim_onto is_zero_code c v) ≤ length (c ∷ v)
    onto [] = one (is_zero_code c)
    onto (d ∷ v) = omega arith

-- the coefficient is what the codes make
pub IsCoefficient_poly_of : (k : FieldOps) (f : List (ℕ × ℕ × ℕ)) (i : ℕ) (codes p : List ℕ)
    → ((x : ℕ) → get_or codes x 0 ≡ code_at k i x f) → p ≡ poly_of codes → IsCoefficient k f i p
IsCoefficient_poly_of k f i codes p each p_is = rw p_is
    (record { poly = IsPoly_poly_of codes; codes = λ j. get_or_poly_of codes j ∙ each j })

module _ (k : CodeField) (i : ℕ) (ts : List (ℕ × ℕ × ℕ)) (codes p : List ℕ) (all : AreCodesFrom k.ops i ts 0 codes)
    (p_is : p ≡ poly_of codes) where
  pub coefficient_is : IsCoefficient k.ops ts i p
  coefficient_is = IsCoefficient_poly_of k.ops ts i codes p all.each p_is

  pub coefficient_over : IsOver k.ops p
  coefficient_over = rw p_is (IsOver_trim codes all.over)

  pub coefficient_short : length p ≤ 33
  coefficient_short = rw p_is (let h = length_poly_of codes in omega (arith, h, all.size))

-- ---- one more at the end of a list

pub pushed_each : {A : Type 0} (P : ℕ → A → Type 0) (xs ys : List A) (x d : A) (n : ℕ) → length xs ≡ n
    → ((i : ℕ) → i < n → P i (get_or xs i d)) → P n x → ys ≡ xs ++ x ∷ [] → (i : ℕ) → i < n + 1 → P i (get_or ys i d)
pushed_each P xs ys x d n size old new ys_is =
    below_more (λ i. P i (get_or ys i d)) n
    (λ i less. rw (ys_is, get_or_append_left xs (x ∷ []) d i (omega arith)) (old i less))
    (rw (ys_is, get_or_at xs x [] d n size) new)
