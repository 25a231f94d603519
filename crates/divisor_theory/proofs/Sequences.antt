-- Combinations with listed scalars, as combinations with a sequence of elements of a ring that maps onto the scalars,
-- and back.
use Rattle.std.proofs.Common.{◌≡◌, ℕ, zero, suc, ◌<◌, List, [], ◌∷◌, length, All, refl, sym, ◌∙◌, ap, ap₂, subst, arith}
use Rattle.std.proofs.lemmas.List.Elements.{All-nil, All-cons, All-head, All-tail}
use Rattle.ring_lemmas.specs.Ring.{CommRing}
use Rattle.ring_theory.specs.Subsets.{Span}
use Rattle.linear_theory.specs.Module.{combine, restricted_ops}
use Rattle.linear_theory.specs.Basis.{IsIndependent}
use Rattle.function_field.specs.Spans.{combination}

module _ {C A : Type 0} (K : CommRing C) (R : CommRing A) (e : C → A) (S : A → Type 0) where
  infixl 65 ◌⊕◌
  infixl 70 ◌⊗◌
  open R use {𝟘, ◌⊕◌, ◌⊗◌}

  abbrev prepended : C → (ℕ → C) → ℕ → C
  prepended a f zero = a
  prepended a f (suc i) = f i

  -- a member of a span, as a combination by a sequence
  pub sequence_of : ((z : A) → S z → (a : C) × (z ≡ e a)) → (ws : List A) (z : A) → Span R.ops S ws z
      → (f : ℕ → C) × (z ≡ combine (restricted_ops R.ops e) f ws)
  sequence_of at [] z h = (λ i. K.𝟘, h)
  sequence_of at (w ∷ ws) z h =
      let r = sequence_of at ws h.rest h.rest_in in
      let a = at h.scalar h.scalar_in in
      (prepended a.0 r.0, h.is ∙ ap₂ (λ x y. x ⊗ w ⊕ y) a.1 r.1)

  listed : (ℕ → C) → List A → List A
  listed f [] = []
  listed f (w ∷ ws) = e (f 0) ∷ listed (λ i. f (suc i)) ws

  listed_length : (f : ℕ → C) (ws : List A) → length (listed f ws) ≡ length ws
  unfolding listed
  listed_length f [] = refl
  listed_length f (w ∷ ws) = ap suc (listed_length (λ i. f (suc i)) ws)

  listed_in : ((a : C) → S (e a)) → (f : ℕ → C) (ws : List A) → All S (listed f ws)
  unfolding listed
  listed_in image f [] = All-nil S
  listed_in image f (w ∷ ws) =
      All-cons S (e (f 0)) (listed (λ i. f (suc i)) ws) (image (f 0)) (listed_in image (λ i. f (suc i)) ws)

  listed_is : (f : ℕ → C) (ws : List A) → combination R.ops (listed f ws) ws ≡ combine (restricted_ops R.ops e) f ws
  unfolding listed
  listed_is f [] = refl
  listed_is f (w ∷ ws) = ap (λ x. e (f 0) ⊗ w ⊕ x) (listed_is (λ i. f (suc i)) ws)

  listed_zero : (f : ℕ → C) (ws : List A) → All (λ z. z ≡ 𝟘) (listed f ws) → (i : ℕ) → i < length ws → e (f i) ≡ 𝟘
  unfolding listed
  listed_zero f [] h i l = absurd (omega arith)
  listed_zero f (w ∷ ws) h zero l = All-head (λ z. z ≡ 𝟘) (e (f 0)) (listed (λ i. f (suc i)) ws) h
  listed_zero f (w ∷ ws) h (suc i) l =
      listed_zero (λ i. f (suc i)) ws (All-tail (λ z. z ≡ 𝟘) (e (f 0)) (listed (λ i. f (suc i)) ws) h) i (omega arith)

  -- independence by lists is independence by sequences
  pub independent_sequences : ((a : C) → S (e a)) → ((a : C) → e a ≡ 𝟘 → a ≡ K.𝟘) → (U : A → Type 0) (ws : List A)
      → ((us : List A) → length us ≡ length ws → All S us → U (combination R.ops us ws) → All (λ u. u ≡ 𝟘) us)
      → IsIndependent K.ops (restricted_ops R.ops e) U ws
  independent_sequences image only U ws free f m i l =
      only (f i)
      (listed_zero f ws (free (listed f ws) (listed_length f ws) (listed_in image f ws)
      (subst U (sym (listed_is f ws)) m)) i l)
