-- The least m with an element in x^m·N.
use Rattle.std.proofs.Common.{◌≡◌, ℕ, zero, suc, ◌<◌, ◌⊎◌, inl, inr, ℤ, ◌+ℤ◌, ◌-ℤ◌, ◌≤ℤ◌, List, length, ◌∙◌, subst, arith}
use Rattle.std.proofs.lemmas.Int.{ints, by_lt_z}
use Rattle.ring_lemmas.specs.Ring.{TestedRing, IsField}
use Rattle.ring_lemmas.proofs.Ring.{field_domain}
use Rattle.ring_lemmas.specs.Polynomials.{Pol}
use Rattle.ring_theory.specs.PolynomialRing.{pol_ring}
use Rattle.linear_theory.specs.Module.{Module}
use Rattle.linear_theory.proofs.Combination.{combine_none}
use Rattle.reduced_basis_theory.specs.Degree.{DegreeAtMost, degree}
use Rattle.reduced_basis_theory.specs.Reduced.{Coordinates, CoordinatesAtMost, IsReducedAt}
use Rattle.reduced_basis_theory.proofs.Degree.{decide_zero, degree_of_zero, size_least, size_greatest}

module _ {C : Type 0} (k : TestedRing C) (field : IsField k.ops) (e : Pol k) where
  -- the least m at which the coordinates p over e are bounded
  pub record LeastBound (n : ℕ) (d : ℕ → ℤ) (p : ℕ → Pol k) : Type 0 where
    pub level : ℤ
    pub reached : CoordinatesAtMost k n d e p level
    pub least : (m : ℤ) → CoordinatesAtMost k n d e p m → level ≤ℤ m

  -- the level that one coordinate that is not zero asks for
  abbrev asked : Pol k → ℤ → ℤ
  asked p x = (degree k p -ℤ degree k e) +ℤ x

  asked_enough : (p : Pol k) (x m : ℤ) → asked p x ≤ℤ m → DegreeAtMost k p (degree k e +ℤ (m -ℤ x))
  asked_enough p x m h = size_least (length p.0) (degree k e +ℤ (m -ℤ x)) (omega (arith, ints))

  asked_least : (p : Pol k) (x m : ℤ) → 0 < length p.0 → DegreeAtMost k p (degree k e +ℤ (m -ℤ x)) → asked p x ≤ℤ m
  asked_least p x m some h = let f = size_greatest (length p.0) (degree k e +ℤ (m -ℤ x)) some h in omega (arith, ints)

  pub least_bound : (n : ℕ) (d : ℕ → ℤ) (p : ℕ → Pol k) → ((i : ℕ) → i < n → p i ≡ (pol_ring k).𝟘) ⊎ LeastBound n d p
  least_bound zero d p = inl (λ i l. absurd (omega arith))
  least_bound (suc n) d p =
      go (decide_zero k (field_domain k.ring field) (p 0)) (least_bound n (λ i. d (suc i)) (λ i. p (suc i)))
    where
      both : (m : ℤ) → DegreeAtMost k (p 0) (degree k e +ℤ (m -ℤ d 0))
          → CoordinatesAtMost k n (λ i. d (suc i)) e (λ i. p (suc i)) m
          → CoordinatesAtMost k (suc n) d e p m
      both m h f zero l = h
      both m h f (suc i) l = f i (omega arith)

      later : (m : ℤ) → CoordinatesAtMost k (suc n) d e p m
          → CoordinatesAtMost k n (λ i. d (suc i)) e (λ i. p (suc i)) m
      later m h i l = h (suc i) (omega arith)

      nothing : (m : ℤ) → ((i : ℕ) → i < n → p (suc i) ≡ (pol_ring k).𝟘)
          → CoordinatesAtMost k n (λ i. d (suc i)) e (λ i. p (suc i)) m
      nothing m z i l = degree_of_zero k (field_domain k.ring field) (p (suc i)) _ (z i l)

      all : p 0 ≡ (pol_ring k).𝟘 → ((i : ℕ) → i < n → p (suc i) ≡ (pol_ring k).𝟘) → (i : ℕ) → i < suc n → p i
          ≡ (pol_ring k).𝟘
      all a f zero l = a
      all a f (suc i) l = f i (omega arith)

      go : (p 0 ≡ (pol_ring k).𝟘) ⊎ (0 < length (p 0).0)
          → ((i : ℕ) → i < n → p (suc i) ≡ (pol_ring k).𝟘) ⊎ LeastBound n (λ i. d (suc i)) (λ i. p (suc i))
          → ((i : ℕ) → i < suc n → p i ≡ (pol_ring k).𝟘) ⊎ LeastBound (suc n) d p
      go (inl a) (inl f) = inl (all a f)
      go (inl a) (inr r) =
          inr (record {
            level = r.level;
            reached = both r.level (degree_of_zero k (field_domain k.ring field) (p 0) _ a) r.reached;
            least = λ m h. r.least m (later m h);
          })
      go (inr a) (inl f) =
          inr (record {
            level = asked (p 0) (d 0);
            reached = both _ (asked_enough (p 0) (d 0) (asked (p 0) (d 0)) (omega (arith, ints))) (nothing _ f);
            least = λ m h. asked_least (p 0) (d 0) m a (h 0 (omega arith));
          })
      go (inr a) (inr r) =
          by_lt_z r.level (asked (p 0) (d 0))
          (λ less.
          inr (record {
            level = asked (p 0) (d 0);
            reached =
                both _ (asked_enough (p 0) (d 0) (asked (p 0) (d 0)) (omega (arith, ints)))
                (λ i l. asked_up i (asked (p 0) (d 0)) (omega (arith, ints)) l);
            least = λ m h. asked_least (p 0) (d 0) m a (h 0 (omega arith));
          }))
          (λ more.
          inr (record {
            level = r.level;
            reached = both r.level (asked_enough (p 0) (d 0) r.level more) r.reached;
            least = λ m h. r.least m (later m h);
          }))
        where
          asked_up : (i : ℕ) (m : ℤ) → r.level ≤ℤ m → i < n
              → DegreeAtMost k (p (suc i)) (degree k e +ℤ (m -ℤ d (suc i)))
          asked_up i m h l =
              Rattle.reduced_basis_theory.proofs.Degree.degree_weaker k (field_domain k.ring field) (p (suc i))
              (degree k e +ℤ (r.level -ℤ d (suc i))) _
              (omega (arith, ints)) (r.reached i l)

-- an element that is not zero has a least m with z in x^m·N
pub least_level : {C V : Type 0} (k : TestedRing C) (field : IsField k.ops) (M : Module (pol_ring k).ring V) (n : ℕ)
    (N : ℤ → V → Type 0) (b : List V) (d : ℕ → ℤ) → IsReducedAt k M.ops n N b d
    → ((e : Pol k) (z : V) → ¬ (e ≡ (pol_ring k).𝟘) → M.◌•◌ e z ≡ M.𝟬 → z ≡ M.𝟬)
    → (z : V) → ¬ (z ≡ M.𝟬) → (m : ℤ) × N m z × ((l : ℤ) → N l z → m ≤ℤ l)
least_level k field M n N b d reduced torsion_free z some =
    let c = reduced.coordinates z in go c (least_bound k field c.denominator n d c.coefficient)
  where
    go : (c : Coordinates k M.ops b z) → ((i : ℕ) → i < n → c.coefficient i ≡ (pol_ring k).𝟘)
        ⊎ LeastBound k field c.denominator n d c.coefficient
        → (m : ℤ) × N m z × ((l : ℤ) → N l z → m ≤ℤ l)
    go c (inl h) =
        absurd (some (torsion_free c.denominator z c.nonzero
        (c.is ∙ combine_none M c.coefficient b (λ i l. h i (subst (λ n. i < n) reduced.count l)))))
    go c (inr r) = (
      r.level,
      (reduced.degrees r.level z c.denominator c.coefficient c.nonzero c.is).1 r.reached,
      λ l h. r.least l ((reduced.degrees l z c.denominator c.coefficient c.nonzero c.is).0 h),
    )
