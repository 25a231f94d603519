-- Two lists of numbered places that ascend strictly by the texts of their rows are one, where each place of either has
-- the lines of one of the other.
use Rattle.std.proofs.Common.{◌≡◌, ℕ, suc, ◌≤◌, ◌⊎◌, inl, inr, List, [], ◌∷◌, map, get_or, refl, sym, ap, ap₂, ◌∙◌, subst, arith, All}
use Rattle.std.specs.List.{Any, AllPairs}
use Rattle.std.proofs.lemmas.List.Elements.{All-nil, All-cons, All-head, All-tail, All-weaker}
use Rattle.prime_theory.proofs.Lists.{any_here, any_there, any_none, any_cases, pairs_head, pairs_tail}
use Rattle.ff_written.specs.TextOrder.{IsBeforeTexts, texts_of}
use Rattle.ff_written.proofs.TextOrder.{texts_irreflexive, texts_transitive}
use Rattle.ff_cert.specs.declared.answer.PlaceLines.{PlaceLines}
use Rattle.ff_cert.specs.RowPlaces.{LinesNumberedFrom}

-- ---- lists

-- what holds of all, and of a member what holds of one
all_and_any : {X : Type 0} (A B : X → Type 0) (xs : List X) → All A xs → Any B xs → (x : X) × A x × B x
all_and_any A B xs all h = (h.1, subst A h.3 (all h.0 h.1 h.2), h.4)

module _ {X Y : Type 0} (f : X → Y) (Z : Y → Type 0) where
  pub any_from_map : (xs : List X) → Any Z (map f xs) → Any (λ x. Z (f x)) xs
  any_from_map [] h = absurd (any_none Z h)
  any_from_map (x ∷ xs) h =
      elim (any_cases Z (f x) (map f xs) h) [
        | inl z ↦ any_here (λ x. Z (f x)) x xs z
        | inr r ↦ any_there (λ x. Z (f x)) x xs (any_from_map xs r)
      ]

  pub all_from_map : (xs : List X) → All Z (map f xs) → All (λ x. Z (f x)) xs
  all_from_map [] h = All-nil (λ x. Z (f x))
  all_from_map (x ∷ xs) h =
      All-cons (λ x. Z (f x)) x xs (All-head Z (f x) (map f xs) h) (all_from_map xs (All-tail Z (f x) (map f xs) h))

-- ---- places in their order

-- the lines are the same but for the number
abbrev pub IsAlike : PlaceLines → PlaceLines → Type 0
IsAlike P Q = (P.rows ≡ Q.rows) × (P.e ≡ Q.e) × (P.degree ≡ Q.degree)

abbrev pub IsBefore : PlaceLines → PlaceLines → Type 0
IsBefore P Q = IsBeforeTexts (texts_of P.rows) (texts_of Q.rows)

turned : (P Q : PlaceLines) → IsAlike P Q → IsAlike Q P
turned P Q a = (sym a.0, sym a.1, sym a.2)

not_alike : (P Q : PlaceLines) → IsBefore P Q → ¬ IsAlike P Q
not_alike P Q b a = texts_irreflexive (texts_of P.rows) (texts_of Q.rows) (ap texts_of a.0) b

not_both : (P Q : PlaceLines) → IsBefore P Q → ¬ IsBefore Q P
not_both P Q b c =
    texts_irreflexive (texts_of P.rows) (texts_of P.rows) refl
    (texts_transitive (texts_of P.rows) (texts_of Q.rows) (texts_of P.rows) b c)

-- where one of the places behind Q is like P, Q comes before P
before : (P Q : PlaceLines) (Qs : List PlaceLines) → All (IsBefore Q) Qs → Any (IsAlike P) Qs → IsBefore Q P
before P Q Qs behind h =
    let t = all_and_any (IsBefore Q) (IsAlike P) Qs behind h in
    subst (λ zs. IsBeforeTexts (texts_of Q.rows) (texts_of zs)) (sym t.2.0) t.1

heads : (P Q : PlaceLines) (Ps Qs : List PlaceLines) → All (IsBefore P) Ps → All (IsBefore Q) Qs
    → IsAlike P Q ⊎ Any (IsAlike P) Qs → IsAlike Q P ⊎ Any (IsAlike Q) Ps → IsAlike P Q
heads P Q Ps Qs a b (inl h) g = h
heads P Q Ps Qs a b (inr h) (inl g) = turned Q P g
heads P Q Ps Qs a b (inr h) (inr g) = absurd (not_both P Q (before Q P Ps a g) (before P Q Qs b h))

-- what is behind P isn't like Q, so that its partner is behind Q
tails : (P Q : PlaceLines) (Ps Qs : List PlaceLines) → IsAlike P Q → All (IsBefore P) Ps
    → All (λ R. Any (IsAlike R) (Q ∷ Qs)) Ps → All (λ R. Any (IsAlike R) Qs) Ps
tails P Q Ps Qs same behind h i d less = go (any_cases (IsAlike R) Q Qs (h i d less))
  where
    R : PlaceLines
    R = get_or Ps i d

    other : ¬ IsAlike R Q
    other a = not_alike P R (behind i d less) (same.0 ∙ sym a.0, same.1 ∙ sym a.1, same.2 ∙ sym a.2)

    go : IsAlike R Q ⊎ Any (IsAlike R) Qs → Any (IsAlike R) Qs
    go (inl a) = absurd (other a)
    go (inr r) = r

same_lines : (P Q : PlaceLines) → IsAlike P Q → P.number ≡ Q.number → P ≡ Q
same_lines P Q a n = λ i. record { number = n i; e = (a.1) i; degree = (a.2) i; rows = (a.0) i }

pub one_ascending : (first : ℕ) (Ps Qs : List PlaceLines) → AllPairs IsBefore Ps → AllPairs IsBefore Qs
    → All (λ P. Any (IsAlike P) Qs) Ps → All (λ Q. Any (IsAlike Q) Ps) Qs → LinesNumberedFrom first Ps
    → LinesNumberedFrom first Qs → Ps ≡ Qs
one_ascending first [] [] a b h g m n = refl
one_ascending first [] (Q ∷ Qs) a b h g m n = absurd
    (any_none (IsAlike Q) (All-head (λ R. Any (IsAlike R) []) Q Qs g))
one_ascending first (P ∷ Ps) [] a b h g m n = absurd
    (any_none (IsAlike P) (All-head (λ R. Any (IsAlike R) []) P Ps h))
one_ascending first (P ∷ Ps) (Q ∷ Qs) a b h g m n =
    let behind = pairs_head IsBefore P Ps a in
    let behind' = pairs_head IsBefore Q Qs b in
    let same =
    heads P Q Ps Qs behind behind'
    (any_cases (IsAlike P) Q Qs (All-head (λ R. Any (IsAlike R) (Q ∷ Qs)) P Ps h))
    (any_cases (IsAlike Q) P Ps (All-head (λ R. Any (IsAlike R) (P ∷ Ps)) Q Qs g)) in
    ap₂ ◌∷◌ (same_lines P Q same (m.0 ∙ sym n.0))
    (one_ascending (suc first) Ps Qs (pairs_tail IsBefore P Ps a) (pairs_tail IsBefore Q Qs b)
    (tails P Q Ps Qs same behind (All-tail (λ R. Any (IsAlike R) (Q ∷ Qs)) P Ps h))
    (tails Q P Qs Ps (turned P Q same) behind' (All-tail (λ R. Any (IsAlike R) (P ∷ Ps)) Q Qs g)) m.1 n.1)

-- ---- the place of a number

numbers_from : (first : ℕ) (Ps : List PlaceLines) → LinesNumberedFrom first Ps → All (λ P. first ≤ P.number) Ps
numbers_from first [] h = All-nil (λ (P : PlaceLines). first ≤ P.number)
numbers_from first (P ∷ Ps) h =
    let is = h.0 in
    All-cons (λ (P : PlaceLines). first ≤ P.number) P Ps (omega (arith, is))
    (All-weaker (λ (P : PlaceLines). suc first ≤ P.number) (λ (P : PlaceLines). first ≤ P.number)
    (λ P le. omega (arith, le)) Ps (numbers_from (suc first) Ps h.1))

-- a member behind the first has a greater number
greater : (first : ℕ) (Ps : List PlaceLines) (P : PlaceLines) → LinesNumberedFrom (suc first) Ps → Any (λ R. R ≡ P) Ps
    → suc first ≤ P.number
greater first Ps P h among =
    let t =
    all_and_any (λ (R : PlaceLines). suc first ≤ R.number) (λ R. R ≡ P) Ps (numbers_from (suc first) Ps h) among in
    subst (λ (R : PlaceLines). suc first ≤ R.number) t.2 t.1

pub one_member : (first : ℕ) (Ps : List PlaceLines) (P Q : PlaceLines) → LinesNumberedFrom first Ps
    → Any (λ R. R ≡ P) Ps
    → Any (λ R. R ≡ Q) Ps → P.number ≡ Q.number → P ≡ Q
one_member first [] P Q h p q e = absurd (any_none (λ R. R ≡ P) p)
one_member first (S ∷ Ps) P Q h p q e =
    go (λ a b. one_member (suc first) Ps P Q h.1 a b e) (any_cases (λ R. R ≡ P) S Ps p) (any_cases (λ R. R ≡ Q) S Ps q)
  where
    apart : (T : PlaceLines) → S ≡ T → (U : PlaceLines) → Any (λ R. R ≡ U) Ps → ¬ (T.number ≡ U.number)
    apart T s_is U u same =
        let more = greater first Ps U h.1 u in
        let here = sym (ap (λ (R : PlaceLines). R.number) s_is) ∙ h.0 in
        omega (arith, more, here, same)

    go : (Any (λ R. R ≡ P) Ps → Any (λ R. R ≡ Q) Ps → P ≡ Q) → (S ≡ P) ⊎ Any (λ R. R ≡ P) Ps
        → (S ≡ Q) ⊎ Any (λ R. R ≡ Q) Ps → P ≡ Q
    go again (inl a) (inl b) = sym a ∙ b
    go again (inl a) (inr b) = absurd (apart P a Q b e)
    go again (inr a) (inl b) = absurd (apart Q b P a (sym e))
    go again (inr a) (inr b) = again a b
