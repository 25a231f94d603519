-- Sameness of places is an equivalence, and it is decided where membership is.
use Rattle.std.proofs.Common.{◌≡◌, ◌↔◌, List, [], ◌∷◌, refl, sym, ◌∙◌, subst, All}
use Rattle.std.proofs.lemmas.List.Elements.{All-nil, All-cons, All-head, All-tail}
use Rattle.ring_theory.specs.Subsets.{IsSubring, Span}
use Rattle.ring_theory.proofs.Subsets.{span_within, span_members}
use Rattle.function_field.specs.declared.side.Side.{Side}
use Rattle.function_field.specs.declared.side.Side.TheVariants.{Finite, Infinite}
use Rattle.function_field.specs.Setting.{Setting}
use Rattle.function_field.specs.Places.{Place, IsSamePlace, IsIn}

pub side_discrete : (s t : Side) → Dec (s ≡ t)
side_discrete Finite Finite = yes refl
side_discrete Finite Infinite = no (λ e. cc)
side_discrete Infinite Finite = no (λ e. cc)
side_discrete Infinite Infinite = yes refl

-- whether a property that is decided holds of each member of a list
pub decide_all : {X : Type 0} (P : X → Type 0) → ((x : X) → Dec (P x)) → (xs : List X) → Dec (All P xs)
decide_all P d [] = yes (All-nil P)
decide_all P d (x ∷ xs) = go (d x) (decide_all P d xs)
  where
    go : Dec (P x) → Dec (All P xs) → Dec (All P (x ∷ xs))
    go (yes p) (yes h) = yes (All-cons P x xs p h)
    go (yes p) (no n) = no (λ h. n (All-tail P x xs h))
    go (no n) d = no (λ h. n (All-head P x xs h))

module _ {E : Type 0} (S : Setting E) where
  pub same_place_refl : (P : Place E) → IsSamePlace S P P
  same_place_refl P = record { side = refl; members = λ z. (λ h. h, λ h. h) }

  pub same_place_sym : (P Q : Place E) → IsSamePlace S P Q → IsSamePlace S Q P
  same_place_sym P Q h = record { side = sym h.side; members = λ z. ((h.members z).1, (h.members z).0) }

  pub same_place_trans : (P Q T : Place E) → IsSamePlace S P Q → IsSamePlace S Q T → IsSamePlace S P T
  same_place_trans P Q T h k = record {
    side = h.side ∙ k.side;
    members = λ z. (λ m. (k.members z).0 ((h.members z).0 m), λ m. (h.members z).1 ((k.members z).1 m));
  }

module _ {E : Type 0} (S : Setting E) (scalars : (s : Side) → IsSubring S.functions.ops (S.IsScalar s)) where
  infixl 65 ◌⊕◌
  infixl 70 ◌⊗◌
  infixr 80 ⊖◌
  open S.functions use {ops, 𝟘, 𝟙, ◌⊕◌, ◌⊗◌, ⊖◌}

  within : (s t : Side) → s ≡ t → (gs hs : List E) → All (Span ops (S.IsScalar t) hs) gs → (z : E)
      → Span ops (S.IsScalar s) gs z → Span ops (S.IsScalar t) hs z
  within s t e gs hs h =
      subst (λ r. (z : E) → Span ops (S.IsScalar r) gs z → Span ops (S.IsScalar t) hs z) (sym e)
      (span_within S.functions (S.IsScalar t) (scalars t) gs hs h)

  -- a place has each member of another on its side where it has the generators
  pub place_within : (P Q : Place E) → P.side ≡ Q.side → All (IsIn S Q) P.generators → (z : E) → IsIn S P z → IsIn S Q z
  place_within P Q e h = within P.side Q.side e P.generators Q.generators h

  pub generators_in : (P : Place E) → All (IsIn S P) P.generators
  generators_in P = span_members S.functions (S.IsScalar P.side) (scalars P.side) P.generators

  -- sameness is decided where membership in both is
  pub same_place_decided : (P Q : Place E) → ((z : E) → Dec (IsIn S P z)) → ((z : E) → Dec (IsIn S Q z))
      → Dec (IsSamePlace S P Q)
  same_place_decided P Q p q = go (side_discrete P.side Q.side) (decide_all (IsIn S Q) q P.generators)
      (decide_all (IsIn S P) p Q.generators)
    where
      members : {A B : E → Type 0} → ((z : E) → A z ↔ B z) → (xs : List E) → All A xs → All B xs
      members f xs h k d l = (f _).0 (h k d l)

      go : Dec (P.side ≡ Q.side) → Dec (All (IsIn S Q) P.generators) → Dec (All (IsIn S P) Q.generators)
          → Dec (IsSamePlace S P Q)
      go (no n) a b = no (λ h. n h.side)
      go (yes e) (no n) b = no (λ h. n (members h.members P.generators (generators_in P)))
      go (yes e) (yes a) (no n) = no (λ h. n
          (members (λ z. ((h.members z).1, (h.members z).0)) Q.generators (generators_in Q)))
      go (yes e) (yes a) (yes b) =
          yes (record { side = e; members = λ z. (place_within P Q e a z, place_within Q P (sym e) b z) })
