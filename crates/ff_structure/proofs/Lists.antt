-- Distinct lists, and lists without two vectors.
use Rattle.std.proofs.Common.{◌≡◌, ◌≢◌, ℕ, ◌⊎◌, inl, inr, List, [], ◌∷◌, ◌++◌, map, refl, sym, ◌∙◌, subst}
use Rattle.ring_theory.specs.Members.{In, IsDistinct}
use Rattle.finite_algebra_theory.proofs.Lists.{in_append_left, in_append_right, in_append, of_map}
use Rattle.ff_structure.specs.Idempotents.{AreOthers, IsPushedUnless}

-- distinct lists without a member in common, one after the other
pub distinct_append : {X : Type 0} (xs ys : List X) → IsDistinct xs → IsDistinct ys
    → ((x : X) → In x xs → In x ys → ⊥) → IsDistinct (xs ++ ys)
distinct_append [] ys d e h = e
distinct_append (x ∷ xs) ys d e h = (
  (λ i. elim (in_append x xs ys i) [ inl j ↦ d.0 j | inr j ↦ h x (inl refl) j ]),
  distinct_append xs ys d.1 e (λ y i j. h y (inr i) j),
)

-- the values of a map that takes different members to different ones
pub distinct_values : {X Y : Type 0} (f : X → Y) (xs : List X)
    → ((x y : X) → In x xs → In y xs → f x ≡ f y → x ≡ y) → IsDistinct xs → IsDistinct (map f xs)
distinct_values f [] h d = tt
distinct_values f (x ∷ xs) h d = (
  (λ i.
      let r = of_map f xs (f x) i in
      d.0 (subst (λ y. In y xs) (sym (h x r.0 (inl refl) (inr r.1) r.2)) r.1)),
  distinct_values f xs (λ y z i j. h y z (inr i) (inr j)) d.1,
)

distinct_front : {X : Type 0} (xs : List X) (x : X) → IsDistinct (xs ++ x ∷ []) → IsDistinct xs
distinct_front [] x d = tt
distinct_front (y ∷ xs) x d = ((λ i. d.0 (in_append_left y xs (x ∷ []) i)), distinct_front xs x d.1)

distinct_last : {X : Type 0} (xs : List X) (x : X) → IsDistinct (xs ++ x ∷ []) → In x xs → ⊥
distinct_last [] x d i = i
distinct_last (y ∷ xs) x d (inl e) = d.0 (subst (λ z. In z (xs ++ x ∷ [])) e (in_append_right x xs (x ∷ []) (inl refl)))
distinct_last (y ∷ xs) x d (inr i) = distinct_last xs x d.1 i

module _ (u v : List ℕ) where
  pub others_none : AreOthers u v [] []
  others_none = record {
    each = λ e i. i;
    not_first = λ e i. absurd i;
    not_second = λ e i. absurd i;
    rest = λ e i m n. i;
    once = λ d. d;
  }

  -- one more that is kept
  pub others_kept : (all kept : List (List ℕ)) (x : List ℕ) → x ≢ u → x ≢ v → AreOthers u v all kept
      → AreOthers u v (all ++ x ∷ []) (kept ++ x ∷ [])
  others_kept all kept x m n h = record {
    each = λ e i. elim (in_append e kept (x ∷ []) i) [
      | inl j ↦ in_append_left e all (x ∷ []) (h.each e j)
      | inr j ↦ in_append_right e all (x ∷ []) j
    ];
    not_first = λ e i. elim (in_append e kept (x ∷ []) i) [ inl j ↦ h.not_first e j | inr j ↦ last e j u m ];
    not_second = λ e i. elim (in_append e kept (x ∷ []) i) [ inl j ↦ h.not_second e j | inr j ↦ last e j v n ];
    rest = λ e i p q. elim (in_append e all (x ∷ []) i) [
      | inl j ↦ in_append_left e kept (x ∷ []) (h.rest e j p q)
      | inr j ↦ in_append_right e kept (x ∷ []) j
    ];
    once = λ d.
        distinct_append kept (x ∷ []) (h.once (distinct_front all x d)) ((λ i. i), tt)
        (λ e i j. elim j [
          | inl s ↦ distinct_last all x d (subst (λ y. In y all) s (h.each e i))
          | inr t ↦ t
        ]);
  }
    where
      last : (e : List ℕ) → In e (x ∷ []) → (w : List ℕ) → x ≢ w → e ≢ w
      last e (inl s) w m = λ t. m (sym s ∙ t)
      last e (inr i) w m = absurd i

  -- one more that isn't
  pub others_left : (all kept : List (List ℕ)) (x : List ℕ) → (x ≡ u) ⊎ (x ≡ v) → AreOthers u v all kept
      → AreOthers u v (all ++ x ∷ []) kept
  others_left all kept x s h = record {
    each = λ e i. in_append_left e all (x ∷ []) (h.each e i);
    not_first = h.not_first;
    not_second = h.not_second;
    rest = λ e i p q. elim (in_append e all (x ∷ []) i) [
      | inl j ↦ h.rest e j p q
      | inr j ↦ none e j p q s
    ];
    once = λ d. h.once (distinct_front all x d);
  }
    where
      none : (e : List ℕ) → In e (x ∷ []) → e ≢ u → e ≢ v → (x ≡ u) ⊎ (x ≡ v) → In e kept
      none e (inl t) p q (inl a) = absurd (p (t ∙ a))
      none e (inl t) p q (inr a) = absurd (q (t ∙ a))
      none e (inr i) p q a = absurd i

  -- one more, which is kept unless it is one of the two
  pub others_step : (all kept new : List (List ℕ)) (x : List ℕ) → IsPushedUnless u v x kept new → AreOthers u v all kept
      → AreOthers u v (all ++ x ∷ []) new
  others_step all kept new x (inl p) h = subst (AreOthers u v (all ++ x ∷ [])) (sym p.0) (others_kept all kept x p.1 p.2 h)
  others_step all kept new x (inr p) h = subst (AreOthers u v (all ++ x ∷ [])) (sym p.0) (others_left all kept x p.1 h)
