-- In a finite domain each nonzero element to the power of their number is one.
use Rattle.std.proofs.Common.{◌≡◌, ◌≢◌, ℕ, zero, suc, ◌<◌, ◌≤◌, ◌⊎◌, List, [], ◌∷◌, ◌++◌, length, map, refl, sym, ap, ◌∙◌, subst, arith, inl, inr, length-append, eq-or-lt_of_le, le_of_suc-le-suc}
use Rattle.std.proofs.Math.Bridge.{le_prop}
use mathlib.Core.HLevel.{Σ_prop_path}
use Rattle.std.proofs.lemmas.List.{length-map}
use Rattle.std.proofs.Math.Nat.{le_of_suc-le}
use Rattle.ring_lemmas.specs.Ring.{CommRing, IsDomain, pow}
use Rattle.ring_lemmas.proofs.Ring.{one_mul, mul_left_comm, product_not_zero, domain_cancel}
use Rattle.ring_theory.specs.Members.{In, IsDistinct, codes_to}

split : {A : Type 0} (x : A) (xs : List A) → In x xs → (l : List A) × ((r : List A) × (xs ≡ l ++ x ∷ r))
split x [] h = absurd h
split x (y ∷ ys) (inl e) = ([], (ys, ap (λ w. w ∷ ys) (sym e)))
split x (y ∷ ys) (inr h) = let p = split x ys h in (y ∷ p.0, (p.1.0, ap (λ w. y ∷ w) p.1.1))

In_without : {A : Type 0} (z y : A) (l r : List A) → In z (l ++ y ∷ r) → (z ≡ y → ⊥) → In z (l ++ r)
In_without z y [] r (inl e) other = absurd (other e)
In_without z y [] r (inr h) other = h
In_without z y (x ∷ l) r (inl e) other = inl e
In_without z y (x ∷ l) r (inr h) other = inr (In_without z y l r h other)

In_map : {A B : Type 0} (f : A → B) (x : B) (xs : List A) → In x (map f xs) → (a : A) × (In a xs × (x ≡ f a))
In_map f x [] h = absurd h
In_map f x (y ∷ ys) (inl e) = (y, (inl refl, e))
In_map f x (y ∷ ys) (inr h) = let p = In_map f x ys h in (p.0, (inr p.1.0, p.1.1))

module _ {A : Type 0} (r : CommRing A) where
  open r use {𝟘, 𝟙, ◌⊗◌}

  infixl 70 ◌⊗◌
  abbrev pub product : List A → A
  product [] = 𝟙
  product (x ∷ xs) = x ⊗ product xs

  product_middle : (l : List A) (x : A) (xs : List A) → product (l ++ x ∷ xs) ≡ x ⊗ product (l ++ xs)
  product_middle [] x xs = refl
  product_middle (y ∷ l) x xs = ap (λ w. y ⊗ w) (product_middle l x xs) ∙ mul_left_comm r y x (product (l ++ xs))

  -- lists of one length have one product, where the second has no element twice and all of them in the first
  same_product : (xs ys : List A) → IsDistinct ys → ((y : A) → In y ys → In y xs) → length xs ≡ length ys
      → product xs ≡ product ys
  same_product [] [] distinct within same = refl
  same_product (x ∷ xs) [] distinct within same = absurd (omega arith)
  same_product xs (y ∷ ys) distinct within same =
      let p = split y xs (within y (inl refl)) in
      ap product p.1.1
      ∙ product_middle p.0 y p.1.0
      ∙ ap (λ w. y ⊗ w)
      (same_product (p.0 ++ p.1.0) ys distinct.1
      (λ z h. In_without z y p.0 p.1.0 (subst (In z) p.1.1 (within z (inr h)))
      (λ e. distinct.0 (subst (λ w. In w ys) e h)))
      (lengths p.0 p.1.0 (ap length p.1.1)))
    where
      lengths : (l rest : List A) → length xs ≡ length (l ++ y ∷ rest) → length (l ++ rest) ≡ length ys
      lengths l rest e = omega (arith, e, length-append l (y ∷ rest), length-append l rest)

  product_map : (a : A) (xs : List A) → product (map (λ x. a ⊗ x) xs) ≡ pow r.ops a (length xs) ⊗ product xs
  product_map a [] = sym (one_mul r 𝟙)
  product_map a (x ∷ xs) =
      ap (λ w. a ⊗ x ⊗ w) (product_map a xs)
      ∙ r.mul_assoc a x (pow r.ops a (length xs) ⊗ product xs)
      ∙ ap (λ w. a ⊗ w) (mul_left_comm r x (pow r.ops a (length xs)) (product xs))
      ∙ sym (r.mul_assoc a (pow r.ops a (length xs)) (x ⊗ product xs))

  module _ (domain : IsDomain r.ops) where
    cancel : (a x y : A) → a ≢ 𝟘 → a ⊗ x ≡ a ⊗ y → x ≡ y
    cancel = domain_cancel r domain

    IsDistinct_map : (a : A) → a ≢ 𝟘 → (xs : List A) → IsDistinct xs → IsDistinct (map (λ x. a ⊗ x) xs)
    IsDistinct_map a some [] distinct = tt
    IsDistinct_map a some (x ∷ xs) distinct = (
      (λ h. let p = In_map (λ w. a ⊗ w) (a ⊗ x) xs h in distinct.0
          (subst (λ w. In w xs) (sym (cancel a x p.0 some p.1.1)) p.1.0)),
      IsDistinct_map a some xs distinct.1,
    )

    product_some : (xs : List A) → ((x : A) → In x xs → x ≢ 𝟘) → product xs ≢ 𝟘
    product_some [] all = λ e. domain.one_not_zero e
    product_some (x ∷ xs) all = product_not_zero domain x (product xs) (all x (inl refl))
        (product_some xs (λ y h. all y (inr h)))

    -- with `units` all nonzero elements, each once
    pub power_all : (units : List A) → IsDistinct units → ((x : A) → In x units → x ≢ 𝟘)
        → ((x : A) → x ≢ 𝟘 → In x units) → (a : A) → a ≢ 𝟘 → pow r.ops a (length units) ≡ 𝟙
    power_all units distinct some all a a_some =
        cancel (product units) (pow r.ops a (length units)) 𝟙 (product_some units some)
        (r.mul_comm (product units) (pow r.ops a (length units))
        ∙ sym (product_map a units)
        ∙ sym (same_product units (map (λ x. a ⊗ x) units) (IsDistinct_map a a_some units distinct) within
        (sym (length-map units (λ x. a ⊗ x))))
        ∙ sym (r.mul_one (product units)))
      where
        within : (y : A) → In y (map (λ x. a ⊗ x) units) → In y units
        within y h =
            let p = In_map (λ x. a ⊗ x) y units h in
            all y (λ e. product_not_zero domain a p.0 a_some (some p.0 p.1.0) (sym p.1.1 ∙ e))

pub length_codes_to : (q n : ℕ) (less : n < q) → length (codes_to q n less) ≡ n
length_codes_to q zero less = refl
length_codes_to q (suc n) less = ap suc (length_codes_to q n _)

codes_to_small : (q n : ℕ) (less : n < q) (x : (c : ℕ) × (c < q)) → In x (codes_to q n less) → (0 < x.0) × (x.0 ≤ n)
codes_to_small q zero less x h = absurd h
codes_to_small q (suc n) less x (inl e) = let same = ap (λ y. y.0) e in (omega (arith, same), omega (arith, same))
codes_to_small q (suc n) less x (inr h) = let small = codes_to_small q n (le_of_suc-le less) x h in
    (small.0, omega (arith, small.1))

pub codes_to_some : (q n : ℕ) (less : n < q) (x : (c : ℕ) × (c < q)) → In x (codes_to q n less) → 0 < x.0
codes_to_some q n less x h = (codes_to_small q n less x h).0

pub codes_to_distinct : (q n : ℕ) (less : n < q) → IsDistinct (codes_to q n less)
codes_to_distinct q zero less = tt
codes_to_distinct q (suc n) less = (
  (λ h. absurd (omega (arith, (codes_to_small q n (le_of_suc-le less) (suc n, less) h).1))),
  codes_to_distinct q n
      (le_of_suc-le less),
)

pub codes_to_all : (q n : ℕ) (less : n < q) (x : (c : ℕ) × (c < q)) → 0 < x.0 → x.0 ≤ n → In x (codes_to q n less)
codes_to_all q zero less x pos le = absurd (omega arith)
codes_to_all q (suc n) less x pos le = go (codes_to_all q n (le_of_suc-le less) x pos) (eq-or-lt_of_le le)
  where
    go : (x.0 ≤ n → In x (codes_to q n (le_of_suc-le less))) → (x.0 ≡ suc n) ⊎ (x.0 < suc n)
        → In x (codes_to q (suc n) less)
    go below (inl e) = inl (Σ_prop_path (λ c. le_prop) e)
    go below (inr smaller) = inr (below (le_of_suc-le-suc smaller))
