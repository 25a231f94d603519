-- A list each of whose members has a partner in another list, no two the same one, is at most as long.
use Rattle.std.proofs.Common.{◌≡◌, ℕ, zero, suc, ◌<◌, ◌≤◌, List, [], ◌∷◌, length, get_or, refl, sym, ◌∙◌, ap, subst, arith, All}
use Rattle.std.specs.List.{Any, AllPairs}
use Rattle.std.proofs.lemmas.List.Elements.{All-nil, All-cons, All-head, All-tail}
use Rattle.prime_theory.proofs.Lists.{pairs_head, pairs_tail}
use Rattle.linear_theory.specs.Distinct.{Distinct}
use Rattle.linear_theory.proofs.Pigeonhole.{distinct_below}

-- within a list the value for a missing member doesn't matter
get_or_any : {Y : Type 0} (ys : List Y) (i : ℕ) (d e : Y) → i < length ys → get_or ys i d ≡ get_or ys i e
get_or_any [] i d e l = absurd (omega arith)
get_or_any (y ∷ ys) zero d e l = refl
get_or_any (y ∷ ys) (suc i) d e l = get_or_any ys i d e (omega arith)

module _ {X Y : Type 0} (R : X → Y → Type 0) (ys : List Y) where
  abbrev HasPartner : X → Type 0
  HasPartner x = Any (R x) ys

  -- no one is the partner of both
  abbrev Apart : X → X → Type 0
  Apart x x' = (y : Y) → R x y → R x' y → ⊥

  positions : (xs : List X) → All (λ x. Any (R x) ys) xs → List ℕ
  positions [] h = []
  positions (x ∷ xs) h = (All-head HasPartner x xs h).0 ∷ positions xs (All-tail HasPartner x xs h)

  positions_length : (xs : List X) (h : All (λ x. Any (R x) ys) xs) → length (positions xs h) ≡ length xs
  unfolding positions
  positions_length [] h = refl
  positions_length (x ∷ xs) h = ap suc (positions_length xs (All-tail HasPartner x xs h))

  positions_below : (xs : List X) (h : All (λ x. Any (R x) ys) xs) → All (λ i. i < length ys) (positions xs h)
  unfolding positions
  positions_below [] h = All-nil (λ i. i < length ys)
  positions_below (x ∷ xs) h =
      All-cons (λ i. i < length ys) (All-head HasPartner x xs h).0 (positions xs (All-tail HasPartner x xs h))
      (All-head HasPartner x xs h).2 (positions_below xs (All-tail HasPartner x xs h))

  other_position : (x x' : X) → Apart x x' → (a : Any (R x) ys) (b : Any (R x') ys) → ¬ (b.0 ≡ a.0)
  other_position x x' apart a b e =
      apart b.1
      (subst (R x)
      (sym a.3 ∙ get_or_any ys a.0 a.1 b.1 a.2 ∙ sym (ap (λ i. get_or ys i b.1) e) ∙ b.3)
      a.4) b.4

  others_positions : (x : X) (a : Any (R x) ys) (xs : List X) (h : All (λ x. Any (R x) ys) xs) → All (Apart x) xs
      → All (λ i. ¬ (i ≡ a.0)) (positions xs h)
  unfolding positions
  others_positions x a [] h apart = All-nil (λ i. ¬ (i ≡ a.0))
  others_positions x a (x' ∷ xs) h apart =
      All-cons (λ i. ¬ (i ≡ a.0)) (All-head HasPartner x' xs h).0 (positions xs (All-tail HasPartner x' xs h))
      (other_position x x' (All-head (Apart x) x' xs apart) a (All-head HasPartner x' xs h))
      (others_positions x a xs (All-tail HasPartner x' xs h) (All-tail (Apart x) x' xs apart))

  positions_distinct : (xs : List X) (h : All (λ x. Any (R x) ys) xs) → AllPairs Apart xs → Distinct (positions xs h)
  unfolding positions
  positions_distinct [] h apart = tt
  positions_distinct (x ∷ xs) h apart = (
    others_positions x (All-head HasPartner x xs h) xs (All-tail HasPartner x xs h) (pairs_head Apart x xs apart),
    positions_distinct xs (All-tail HasPartner x xs h) (pairs_tail Apart x xs apart),
  )

  pub at_most : (xs : List X) → All (λ x. Any (R x) ys) xs → AllPairs (λ x x'. (y : Y) → R x y → R x' y → ⊥) xs
      → length xs ≤ length ys
  at_most xs h apart =
      let few = distinct_below (length ys) (positions xs h) (positions_distinct xs h apart) (positions_below xs h) in
      omega (arith, few, positions_length xs h)
