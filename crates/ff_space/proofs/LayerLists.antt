-- Multiples by powers of x that are pushed one after another, and parts of a vector.
use Rattle.std.proofs.Common.{◌≡◌, ℕ, zero, suc, ◌+◌, ◌-◌, ◌*◌, ◌<◌, ℤ, pos, negsuc, ◌-ℤ◌, ◌≤ℤ◌, ◌<ℤ◌, unsigned_abs, List, [], ◌∷◌, ◌++◌, length, map, take, drop, replicate, refl, sym, ◌∙◌, ap, ap₂, arith, All}
use Rattle.std.proofs.lemmas.Int.{ints}
use Rattle.std.proofs.lemmas.List.{length-drop}
use Rattle.std.proofs.lemmas.List.Elements.{All-nil, All-cons}
use Rattle.std.proofs.Math.Nat.{suc-mul}
use Rattle.ff_poly.specs.Words.{IsPoly, poly_of, shifted}
use Rattle.ff_poly.specs.PolyOver.{IsPoly_poly_of}
use Rattle.function_field.specs.Values.{ElemValue}
use Rattle.reduced_basis_theory.specs.Degree.{size}
use Rattle.ff_space.specs.Layers.{x_times, multiples_of}
use Rattle.ff_space.specs.Vectors.{parts_of}

-- how many multiples there are
size_pos : (d : ℤ) (m : ℕ) → d ≡ pos m → size d ≡ suc m
unfolding size
size_pos d m e = ap size e

size_neg : (d : ℤ) (m : ℕ) → d ≡ negsuc m → size d ≡ 0
unfolding size
size_neg d m e = ap size e

pub no_multiples : (d : ℤ) → pos 0 <ℤ d → 0 ≡ size (pos 0 -ℤ d)
no_multiples (pos zero) h = absurd (omega (arith, ints, h))
no_multiples (pos (suc n)) h = sym (size_neg (pos 0 -ℤ pos (suc n)) n (omega (arith, ints)))
no_multiples (negsuc n) h = absurd (omega (arith, ints, h))

pub some_multiples : (d : ℤ) (a : ℕ) → d ≤ℤ pos 0 → a ≡ unsigned_abs d → a + 1 ≡ size (pos 0 -ℤ d)
some_multiples (pos zero) a h e = let s = size_pos (pos 0 -ℤ pos 0) 0 (omega (arith, ints)) in omega (arith, e, s)
some_multiples (pos (suc n)) a h e = absurd (omega (arith, ints, h))
some_multiples (negsuc n) a h e =
    let s = size_pos (pos 0 -ℤ negsuc n) (suc n) (omega (arith, ints)) in omega (arith, e, s)

pub shifted_polys : (vs : List (List ℕ)) → All IsPoly (map (λ v. shifted v 1) vs)
shifted_polys [] = All-nil IsPoly
shifted_polys (v ∷ vs) =
    All-cons IsPoly (shifted v 1) (map (λ v. shifted v 1) vs) (IsPoly_poly_of (replicate 1 0 ++ v)) (shifted_polys vs)

pushed : {A : Type 0} (xs : List A) (x : A) (ys : List A) → (xs ++ x ∷ []) ++ ys ≡ xs ++ x ∷ ys
pushed [] x ys = refl
pushed (z ∷ xs) x ys = ap (λ zs. z ∷ zs) (pushed xs x ys)

-- one multiple more
pub multiples_more : (items new all : List ElemValue) (w next : ElemValue) (count i : ℕ) → i < count
    → items ++ multiples_of (count - i) w ≡ all → new ≡ items ++ w ∷ [] → next ≡ x_times w
    → new ++ multiples_of (count - (i + 1)) next ≡ all
multiples_more items new all w next count i less so_far new_is next_is =
    let e : count - i ≡ suc (count - (i + 1)) = omega arith in
    ap₂ (λ xs v. xs ++ multiples_of (count - (i + 1)) v) new_is next_is
    ∙ pushed items w (multiples_of (count - (i + 1)) (x_times w))
    ∙ sym (ap (λ m. items ++ multiples_of m w) e)
    ∙ so_far

-- one part more
pub part_more : (width n i : ℕ) (rest others : List ℕ) (items new all : List (List ℕ)) (p : List ℕ) → i < n
    → items ++ parts_of width (n - i) rest ≡ all → others ≡ drop width rest → p ≡ poly_of (take width rest)
    → new ≡ items ++ p ∷ [] → new ++ parts_of width (n - (i + 1)) others ≡ all
part_more width n i rest others items new all p less so_far others_is p_is new_is =
    let e : n - i ≡ suc (n - (i + 1)) = omega arith in
    ap₂ (λ xs v. xs ++ parts_of width (n - (i + 1)) v) new_is others_is
    ∙ pushed items p (parts_of width (n - (i + 1)) (drop width rest))
    ∙ ap (λ x. items ++ x ∷ parts_of width (n - (i + 1)) (drop width rest)) p_is
    ∙ sym (ap (λ m. items ++ parts_of width m rest) e)
    ∙ so_far

pub rest_long : (width n i : ℕ) (rest others : List ℕ) → i < n → length rest ≡ (n - i) * width
    → others ≡ drop width rest → length others ≡ (n - (i + 1)) * width
rest_long width n i rest others less long others_is =
    let e : n - i ≡ suc (n - (i + 1)) = omega arith in
    let l : length rest ≡ suc (n - (i + 1)) * width = long ∙ ap (λ m. m * width) e in
    ap length others_is ∙ length-drop width rest ∙ (omega (arith, l, suc-mul (n - (i + 1)) width))
