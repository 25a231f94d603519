-- A polynomial of least degree with a property that is decided.
use Rattle.std.proofs.Common.{◌⊎◌, inl, inr, ℕ, zero, suc, ◌<◌, ◌≤◌, List, [], ◌∷◌, length, refl, sym, subst, arith}
use Rattle.ring_theory.specs.Members.{In}
use Rattle.ring_theory.proofs.Evaluate.{pol_self}
use Rattle.ring_lemmas.specs.Polynomials.{pol_of}
use Rattle.ff_fields.specs.Field.{CodeField}
use Rattle.ff_fields.specs.Code.{Code, code_ring}
use Rattle.ff_poly.specs.Polynomials.{Polynomial}
use Rattle.polynomial_theory.proofs.CodeFields.{code_finite}
use Rattle.std.proofs.lemmas.Bool.{cases_lt}

-- whether a member of a list has a property
some_in : {X : Type 0} (T : X → Type 0) → ((x : X) → Dec (T x)) → (xs : List X) → Dec ((x : X) × In x xs × T x)
some_in T d [] = no (λ h. h.1)
some_in T d (x ∷ xs) = go (d x) (some_in T d xs)
  where
    go : Dec (T x) → Dec ((y : _) × In y xs × T y) → Dec ((y : _) × In y (x ∷ xs) × T y)
    go (yes t) r = yes (x, inl refl, t)
    go (no n) (yes r) = yes (r.0, inr r.1, r.2)
    go (no n) (no m) = no (λ h. by h.0 h.1 h.2)
      where
        by : (y : _) → In y (x ∷ xs) → T y → ⊥
        by y (inl e) t = n (subst T e t)
        by y (inr i) t = m (y, i, t)

module _ (k : CodeField) where
  -- whether a list of at most m codes has a property
  some_short : (m : ℕ) (T : List (Code k) → Type 0) → ((l : List (Code k)) → Dec (T l))
      → Dec ((l : List (Code k)) × (length l ≤ m) × T l)
  some_short zero T d = go (d [])
    where
      go : Dec (T []) → Dec ((l : List (Code k)) × (length l ≤ 0) × T l)
      go (yes t) = yes ([], omega arith, t)
      go (no n) = no (λ h. by h.0 h.1 h.2)
        where
          by : (l : List (Code k)) → length l ≤ 0 → T l → ⊥
          by [] l t = n t
          by (x ∷ xs) l t = absurd (omega arith)
  some_short (suc m) T d =
      go (d []) (some_in (λ a. (l : List (Code k)) × (length l ≤ m) × T (a ∷ l))
      (λ a. some_short m (λ l. T (a ∷ l)) (λ l. d (a ∷ l))) (code_finite k).codes)
    where
      go : Dec (T []) → Dec ((a : Code k) × In a (code_finite k).codes
          × ((l : List (Code k)) × (length l ≤ m) × T (a ∷ l)))
          → Dec ((l : List (Code k)) × (length l ≤ suc m) × T l)
      go (yes t) r = yes ([], omega arith, t)
      go (no n) (yes r) = let s = r.2 in let le = s.1 in yes (r.0 ∷ s.0, omega (arith, le), s.2)
      go (no n) (no r) = no (λ h. by h.0 h.1 h.2)
        where
          by : (l : List (Code k)) → length l ≤ suc m → T l → ⊥
          by [] l t = n t
          by (x ∷ xs) l t = r (x, (code_finite k).codes_all x, (xs, omega arith, t))

  pub record Least (T : Polynomial k → Type 0) : Type 0 where
    pub member : Polynomial k
    pub has : T member
    pub least : (b : Polynomial k) → T b → length member.0 ≤ length b.0

  least_from : (T : Polynomial k → Type 0) → ((b : Polynomial k) → Dec (T b)) → (n : ℕ) (a : Polynomial k) → T a
      → length a.0 < n → Least T
  least_from T d zero a t l = absurd (omega arith)
  least_from T d (suc n) a t l =
      go (some_short (length a.0) (λ l. T (pol_of (code_ring k) l) × (length (pol_of (code_ring k) l).0 < length a.0))
      (λ l. both (d (pol_of (code_ring k) l)) (smaller (length (pol_of (code_ring k) l).0) (length a.0))))
      (λ b t l. least_from T d n b t l)
    where
      both : {X Y : Type 0} → Dec X → Dec Y → Dec (X × Y)
      both (yes x) (yes y) = yes (x, y)
      both (no n) e = no (λ h. n h.0)
      both (yes x) (no n) = no (λ h. n h.1)

      smaller : (m n : ℕ) → Dec (m < n)
      smaller m n = elim (cases_lt m n) [ inl l ↦ yes l | inr l ↦ no (λ h. absurd (omega arith)) ]

      go : Dec ((l : List (Code k)) × (length l ≤ length a.0)
          × (T (pol_of (code_ring k) l) × (length (pol_of (code_ring k) l).0 < length a.0)))
          → ((b : Polynomial k) → T b → length b.0 < n → Least T) → Least T
      go (yes r) again = let s = r.2 in let less = s.1 in again (pol_of (code_ring k) r.0) s.0 (omega (arith, less, l))
      go (no m) again = record {
        member = a;
        has = t;
        least = λ b s. by b s (cases_lt (length b.0) (length a.0));
      }
        where
          by : (b : Polynomial k) → T b → (length b.0 < length a.0) ⊎ (length a.0 ≤ length b.0)
              → length a.0 ≤ length b.0
          by b s (inr le) = le
          by b s (inl less) =
              absurd (m (
                b.0,
                omega arith,
                (
                  subst T (sym (pol_self (code_ring k) b)) s,
                  subst (λ p. length p.0 < length a.0) (sym (pol_self (code_ring k) b)) less,
                ),
              ))

  pub least_polynomial : (T : Polynomial k → Type 0) → ((b : Polynomial k) → Dec (T b)) → (a : Polynomial k) → T a
      → Least T
  least_polynomial T d a t = least_from T d (suc (length a.0)) a t (omega arith)
