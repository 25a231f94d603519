-- The primes are divided out of a polynomial one after another.
use Rattle.std.proofs.Common.{◌≡◌, ◌≢◌, ℕ, zero, suc, ◌+◌, ◌<◌, ◌≤◌, ◌⊎◌, inl, inr, List, [], ◌∷◌, ◌++◌, length, get_or, take, All, refl, sym, ap, ap₂, ◌∙◌, subst, arith}
use Rattle.std.proofs.lemmas.List.{take_more}
use Rattle.std.proofs.lemmas.List.Elements.{All-nil, All-cons, All-append}
use Rattle.ring_lemmas.specs.Ring.{CommRing, pow}
use Rattle.ring_theory.specs.Members.{In}
use Rattle.ring_lemmas.proofs.Ring.{mul_zero, one_mul}
use Rattle.ff_fields.specs.Field.{FieldOps, CodeField}
use Rattle.ff_fields.specs.Over.{IsOver}
use Rattle.linear_theory.specs.Euclidean.{IsDivisorIn}
use Rattle.ff_poly.specs.Words.{IsPoly, IsIrreducibleList}
use Rattle.ff_poly.specs.Value.{value, numbers_value}
use Rattle.ff_poly.specs.Polynomials.{Polynomial, polynomials, numbers_discrete, value_nil, codes_of}
use Rattle.ff_factor.specs.Factors.{AreAscendingPolys, IsBeforePoly, polys_of}
use Rattle.polynomial_theory.proofs.ListValues.{monic_poly}
use Rattle.ff_factor.specs.Primes.{IsPrimeAt}
use Rattle.ff_factor.specs.Pulls.{IsPulledOut, IsWith, ArePrimesOf, IsPrimeList, IsSplitOff, value_of_parts}
use Rattle.polynomial_theory.proofs.Irreducible.{irreducible, prime}
use Rattle.ff_factor.proofs.Orders.{before_irreflexive}
use Rattle.ff_factor.proofs.PullSteps.{list_some}

-- ---- members of lists

pub in_push : {X : Type 0} (x y : X) (xs : List X) → In x xs → In x (xs ++ y ∷ [])
in_push x y [] i = absurd i
in_push x y (z ∷ xs) (inl e) = inl e
in_push x y (z ∷ xs) (inr i) = inr (in_push x y xs i)

pub in_last : {X : Type 0} (y : X) (xs : List X) → In y (xs ++ y ∷ [])
in_last y [] = inl refl
in_last y (z ∷ xs) = inr (in_last y xs)

pub of_push : {X : Type 0} (x y : X) (xs : List X) → In x (xs ++ y ∷ []) → In x xs ⊎ (x ≡ y)
of_push x y [] (inl e) = inr e
of_push x y [] (inr i) = absurd i
of_push x y (z ∷ xs) (inl e) = inl (inl e)
of_push {X = X} x y (z ∷ xs) (inr i) = step (of_push x y xs i)
  where
    step : In x xs ⊎ (x ≡ y) → In x (z ∷ xs) ⊎ (x ≡ y)
    step (inl j) = inl (inr j)
    step (inr e) = inr e

pub all_of_in : {X : Type 0} (N : X → Type 0) (xs : List X) → ((x : X) → In x xs → N x) → All N xs
all_of_in N [] f = All-nil N
all_of_in N (x ∷ xs) f = All-cons N x xs (f x (inl refl)) (all_of_in N xs (λ y i. f y (inr i)))

pub in_of_all : {X : Type 0} (N : X → Type 0) (xs : List X) → All N xs → (x : X) → In x xs → N x
in_of_all N [] all x i = absurd i
in_of_all N (y ∷ xs) all x (inl e) = subst N (sym e) (all zero x (omega arith))
in_of_all N (y ∷ xs) all x (inr i) = in_of_all N xs (λ j d less. all (suc j) d (omega arith)) x i

-- ---- the primes of the idempotents

primes_step : (k : FieldOps) (g : List ℕ) (es ps new : List (List ℕ)) (e p : List ℕ) → ArePrimesOf k g es ps
    → IsPrimeAt k g e p → IsWith ps p new
    → ArePrimesOf k g (es ++ e ∷ []) new
primes_step k g es ps new e p h is w = record { each = each; all = all; ascending = w.ascending }
  where
    each : (q : List ℕ) → In q new → (f : List ℕ) × In f (es ++ e ∷ []) × IsPrimeAt k g f q
    each q i = go (numbers_discrete q p)
      where
        go : Dec (q ≡ p) → (f : List ℕ) × In f (es ++ e ∷ []) × IsPrimeAt k g f q
        go (yes s) = (e, in_last e es, subst (IsPrimeAt k g e) (sym s) is)
        go (no ne) = let r = h.each q (w.each q ne i) in (r.0, in_push r.0 e es r.1, r.2)

    all : (f : List ℕ) → In f (es ++ e ∷ []) → (q : List ℕ) × In q new × IsPrimeAt k g f q
    all f i = go (of_push f e es i)
      where
        go : In f es ⊎ (f ≡ e) → (q : List ℕ) × In q new × IsPrimeAt k g f q
        go (inl j) = let r = h.all f j in (r.0, w.old_in r.0 r.1, r.2)
        go (inr s) = (p, w.here, subst (λ x. IsPrimeAt k g x p) (sym s) is)

pub primes_more : (k : FieldOps) (g : List ℕ) (es ps new : List (List ℕ)) (i : ℕ) (e p : List ℕ) → i < length es
    → e ≡ get_or es i []
    → ArePrimesOf k g (take i es) ps → IsPrimeAt k g e p → IsWith ps p new → ArePrimesOf k g (take (i + 1) es) new
primes_more k g es ps new i e p less e_is h is w =
    subst (λ xs. ArePrimesOf k g xs new) (sym (take_more es i [] less ∙ ap (λ x. take i es ++ x ∷ []) (sym e_is)))
    (primes_step k g (take i es) ps new e p h is w)

pub primes_none : (k : FieldOps) (g : List ℕ) (ps : List (List ℕ)) → ps ≡ [] → ArePrimesOf k g [] ps
primes_none k g ps none = subst (ArePrimesOf k g []) (sym none)
    (record { each = λ p i. absurd i; all = λ e i. absurd i; ascending = tt })

-- ---- powers that are divided out

pub polys_push : (fs : List (List ℕ × ℕ)) (f : List ℕ × ℕ) → polys_of (fs ++ f ∷ []) ≡ polys_of fs ++ f.0 ∷ []
polys_push [] f = refl
polys_push (x ∷ fs) f = ap (λ w. x.0 ∷ w) (polys_push fs f)

-- the polynomials of one part more, and a copy of it
pub polys_more : (fs : List (List ℕ × ℕ)) (i : ℕ) (f : List ℕ × ℕ) (ps new : List (List ℕ)) (p : List ℕ) → i < length fs
    → f ≡ get_or fs i f
    → ps ≡ polys_of (take i fs) → p ≡ f.0 → new ≡ ps ++ p ∷ [] → new ≡ polys_of (take (i + 1) fs)
polys_more fs i f ps new p less f_is ps_is p_is new_is =
    new_is ∙ ap₂ (λ xs x. xs ++ x ∷ []) ps_is p_is ∙ sym (polys_push (take i fs) f)
    ∙ ap polys_of (sym (take_more fs i f less ∙ ap (λ x. take i fs ++ x ∷ []) (sym f_is)))

pub parts_more : (fs : List (List ℕ × ℕ)) (i : ℕ) (f : List ℕ × ℕ) (old new : List (List ℕ × ℕ)) (p : List ℕ)
    → i < length fs → f ≡ get_or fs i f
    → old ≡ take i fs → p ≡ f.0 → new ≡ old ++ (p, f.1) ∷ [] → new ≡ take (i + 1) fs
parts_more fs i f old new p less f_is old_is p_is new_is =
    new_is ∙ ap₂ (λ xs x. xs ++ (x, f.1) ∷ []) old_is p_is
    ∙ sym (take_more fs i f less ∙ ap (λ x. take i fs ++ x ∷ []) (sym f_is))

module _ (k : CodeField) where
  infixl 65 ◌⊕◌
  infixl 70 ◌⊗◌
  open polynomials k use {𝟘, 𝟙, ◌⊕◌, ◌⊗◌}

  abbrev P : CommRing (Polynomial k)
  P = (polynomials k).ring

  parts_push : (fs : List (List ℕ × ℕ)) (f : List ℕ × ℕ)
      → value_of_parts k (fs ++ f ∷ []) ≡ value_of_parts k fs ⊗ pow P.ops (value k f.0) f.1
  parts_push [] f = P.mul_one (pow P.ops (value k f.0) f.1) ∙ sym (one_mul P (pow P.ops (value k f.0) f.1))
  parts_push (x ∷ fs) f =
      ap (λ w. pow P.ops (value k x.0) x.1 ⊗ w) (parts_push fs f)
      ∙ sym (P.mul_assoc (pow P.ops (value k x.0) x.1) (value_of_parts k fs) (pow P.ops (value k f.0) f.1))

  multiple : (p a b : Polynomial k) → IsDivisorIn P.ops p a → IsDivisorIn P.ops p (b ⊗ a)
  multiple p a b d = (d.0 ⊗ b, P.mul_comm b a ∙ ap (λ x. x ⊗ b) d.1 ∙ P.mul_assoc p d.0 b)

  module _ (p : List ℕ) (p_in : IsOver k.ops p) (p_irreducible : IsIrreducibleList k.ops p) where
    h : IsIrreducibleList k.ops (codes_of k (value k p))
    h = subst (IsIrreducibleList k.ops) (sym (numbers_value k p p_in (monic_poly k p p_irreducible.monic)))
        p_irreducible

    of_power : (q : Polynomial k) (e : ℕ) → IsDivisorIn P.ops (value k p) (pow P.ops q e)
        → IsDivisorIn P.ops (value k p) q
    of_power q zero d = absurd ((irreducible k (value k p) h).nonunit (d.0, sym d.1))
    of_power q (suc e) d = go (prime k (value k p) h q (pow P.ops q e) d) (of_power q e)
      where
        go : IsDivisorIn P.ops (value k p) q ⊎ IsDivisorIn P.ops (value k p) (pow P.ops q e)
            → (IsDivisorIn P.ops (value k p) (pow P.ops q e) → IsDivisorIn P.ops (value k p) q)
            → IsDivisorIn P.ops (value k p) q
        go (inl d) f = d
        go (inr d) f = f d

    -- a prime that divides none of the polynomials divides no product of their powers
    pub of_parts : (fs : List (List ℕ × ℕ))
        → ((q : List ℕ) → In q (polys_of fs) → ¬ IsDivisorIn P.ops (value k p) (value k q))
        → ¬ IsDivisorIn P.ops (value k p) (value_of_parts k fs)
    of_parts [] none d = (irreducible k (value k p) h).nonunit (d.0, sym d.1)
    of_parts (f ∷ fs) none d = go (prime k (value k p) h (pow P.ops (value k f.0) f.1) (value_of_parts k fs) d)
        (of_parts fs (λ q i. none q (inr i)))
      where
        go : IsDivisorIn P.ops (value k p) (pow P.ops (value k f.0) f.1)
            ⊎ IsDivisorIn P.ops (value k p) (value_of_parts k fs)
            → ¬ IsDivisorIn P.ops (value k p) (value_of_parts k fs) → ⊥
        go (inl d) not = none f.0 (inl refl) (of_power (value k f.0) f.1 d)
        go (inr d) not = not d

    split_step : (g : List ℕ) (ps : List (List ℕ)) (parts : List (List ℕ × ℕ)) (rest left : List ℕ) (count : ℕ)
        → IsSplitOff k g ps parts rest
        → IsDivisorIn P.ops (value k p) (value k g)
        → ((q : List ℕ) → In q ps → ¬ IsDivisorIn P.ops (value k p) (value k q)) → IsPulledOut k rest p count left
        → IsSplitOff k g (ps ++ p ∷ []) (parts ++ (p, count) ∷ []) left
    split_step g ps parts rest left count s divides different out = record {
      polys = polys_push parts (p, count) ∙ ap (λ w. w ++ p ∷ []) s.polys;
      over = out.over;
      poly = out.poly;
      some = λ z. list_some k rest s.over s.poly s.some
          (out.product ∙ ap (λ w. pow P.ops (value k p) count ⊗ w) (ap (value k) z ∙ value_nil k)
          ∙ mul_zero P (pow P.ops (value k p) count));
      product =
          s.product ∙ ap (λ w. value_of_parts k parts ⊗ w) out.product
          ∙ sym (P.mul_assoc (value_of_parts k parts) (pow P.ops (value k p) count) (value k left))
          ∙ ap (λ w. w ⊗ value k left) (sym (parts_push parts (p, count)));
      free = free;
      exponents = All-append (λ f. 1 ≤ f.1) parts ((p, count) ∷ []) s.exponents
          (All-cons (λ f. 1 ≤ f.1) (p, count) [] (positive count out.product) (All-nil (λ f. 1 ≤ f.1)));
    }
      where
        free : (q : List ℕ) → In q (ps ++ p ∷ []) → ¬ IsDivisorIn P.ops (value k q) (value k left)
        free q i d = go (of_push q p ps i)
          where
            go : In q ps ⊎ (q ≡ p) → ⊥
            go (inl j) = s.free q j (subst (IsDivisorIn P.ops (value k q)) (sym out.product)
                (multiple (value k q) (value k left) (pow P.ops (value k p) count) d))
            go (inr e) = out.free (subst (λ x. IsDivisorIn P.ops (value k x) (value k left)) e d)

        here : IsDivisorIn P.ops (value k p) (value k rest)
        here = go (prime k (value k p) h (value_of_parts k parts) (value k rest)
            (subst (IsDivisorIn P.ops (value k p)) s.product divides))
          where
            go : IsDivisorIn P.ops (value k p) (value_of_parts k parts) ⊎ IsDivisorIn P.ops (value k p) (value k rest)
                → IsDivisorIn P.ops (value k p) (value k rest)
            go (inl d) = absurd (of_parts parts (λ q i. different q (subst (In q) s.polys i)) d)
            go (inr d) = d

        positive : (count : ℕ) → value k rest ≡ pow P.ops (value k p) count ⊗ value k left → 1 ≤ count
        positive zero e = absurd (out.free (subst (IsDivisorIn P.ops (value k p)) (e ∙ one_mul P (value k left)) here))
        positive (suc c) e = omega arith

  -- a list of primes, one after another
  ascending_different : (ps : List (List ℕ)) (i : ℕ) (q : List ℕ) → AreAscendingPolys ps → i < length ps
      → In q (take i ps) → IsBeforePoly q (get_or ps i [])
  ascending_different [] i q up less j = absurd (omega arith)
  ascending_different (p ∷ ps) zero q up less j = absurd j
  ascending_different (p ∷ ps) (suc i) q up less (inl e) = subst (λ x. IsBeforePoly x (get_or ps i [])) (sym e)
      (up.0 i [] (omega arith))
  ascending_different (p ∷ ps) (suc i) q up less (inr j) = ascending_different ps i q up.1 (omega arith) j

  in_take : (ps : List (List ℕ)) (i : ℕ) (q : List ℕ) → In q (take i ps) → In q ps
  in_take [] zero q j = absurd j
  in_take [] (suc i) q j = absurd j
  in_take (p ∷ ps) zero q j = absurd j
  in_take (p ∷ ps) (suc i) q (inl e) = inl e
  in_take (p ∷ ps) (suc i) q (inr j) = inr (in_take ps i q j)

  pub in_get : (ps : List (List ℕ)) (i : ℕ) → i < length ps → In (get_or ps i []) ps
  in_get [] i less = absurd (omega arith)
  in_get (p ∷ ps) zero less = inl refl
  in_get (p ∷ ps) (suc i) less = inr (in_get ps i (omega arith))

  pub split_more : (g : List ℕ) (ps : List (List ℕ)) (parts new : List (List ℕ × ℕ)) (rest left p p' : List ℕ)
      (i count : ℕ) → i < length ps → IsPrimeList k g ps
      → p ≡ get_or ps i [] → p' ≡ p → IsSplitOff k g (take i ps) parts rest → IsPulledOut k rest p count left
      → new ≡ parts ++ (p', count) ∷ [] → IsSplitOff k g (take (i + 1) ps) new left
  split_more g ps parts new rest left p p' i count less primes p_is copy s out new_is =
      let here : In p ps = subst (λ x. In x ps) (sym p_is) (in_get ps i less) in
      subst (λ fs. IsSplitOff k g (take (i + 1) ps) fs left) (sym (new_is ∙ ap (λ x. parts ++ (x, count) ∷ []) copy))
      (subst (λ xs. IsSplitOff k g xs (parts ++ (p, count) ∷ []) left)
      (sym (take_more ps i [] less ∙ ap (λ x. take i ps ++ x ∷ []) (sym p_is)))
      (split_step p (primes.over p here) (primes.irreducible p here) g (take i ps) parts rest left count s
      (primes.divides p here)
      (λ q j. primes.different p q here (in_take ps i q j)
      (λ e. before_irreflexive p (subst (λ x. IsBeforePoly x p) (sym e)
      (subst (IsBeforePoly q) (sym p_is) (ascending_different ps i q primes.ascending less j)))))
      out))

  pub split_start : (g rest : List ℕ) (parts : List (List ℕ × ℕ)) → IsOver k.ops g → IsPoly g → g ≢ [] → rest ≡ g
      → parts ≡ [] → IsSplitOff k g [] parts rest
  split_start g rest parts g_in g_poly g_some same none =
      subst (λ fs. IsSplitOff k g [] fs rest) (sym none) (subst (IsSplitOff k g [] []) (sym same) (record {
        polys = refl;
        over = g_in;
        poly = g_poly;
        some = g_some;
        product = sym (one_mul P (value k g));
        free = λ p i. absurd i;
        exponents = All-nil (λ f. 1 ≤ f.1);
      }))
