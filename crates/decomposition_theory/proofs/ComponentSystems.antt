-- The primes of the primitive idempotents, as values, are a prime system.
use Rattle.std.proofs.Common.{◌≡◌, ◌≢◌, ℕ, List, [], ◌∷◌, sym, subst, arith, All}
use Rattle.std.specs.List.{AllPairs, AllZip}
use Rattle.std.proofs.lemmas.List.Elements.{All-nil, All-cons, All-head, All-tail}
use Rattle.std.proofs.lemmas.List.Kept.{AllPairs-cons}
use Rattle.prime_theory.specs.Ideals.{SameSet}
use Rattle.prime_theory.proofs.Lists.{pairs_head, pairs_tail}
use Rattle.ff_fields.specs.Field.{CodeField}
use Rattle.ff_lattice.specs.Lattices.{Contains}
use Rattle.ff_lattice.specs.Quotients.{QuotientValue}
use Rattle.value_theory.specs.Primes.{PrimeValue, IsPrimeOf}
use Rattle.decomposition_theory.specs.Decompositions.{IsMaximalOrderAt, AreIdempotentsModulo, IsInComponentPrime, IsComponentPrime}
use Rattle.decomposition_theory.specs.Laws.{IsPrimeSystem}
use Rattle.decomposition_theory.proofs.ComponentPrimes.{component_primes}

-- lists with related members at each place
module _ {X Y : Type 0} (R : X → Y → Type 0) where
  pub all_right : (Q : Y → Type 0) → ((x : X) (y : Y) → R x y → Q y) → (xs : List X) (ys : List Y) → AllZip R xs ys
      → All Q ys
  all_right Q f [] [] z = All-nil Q
  all_right Q f [] (y ∷ ys) z = absurd z
  all_right Q f (x ∷ xs) [] z = absurd z
  all_right Q f (x ∷ xs) (y ∷ ys) z = All-cons Q y ys (f x y z.0) (all_right Q f xs ys z.1)

  pub all_left : (P : X → Type 0) (Q : Y → Type 0) → ((x : X) (y : Y) → R x y → Q y → P x) → (xs : List X) (ys : List Y)
      → AllZip R xs ys → All Q ys → All P xs
  all_left P Q f [] [] z h = All-nil P
  all_left P Q f [] (y ∷ ys) z h = absurd z
  all_left P Q f (x ∷ xs) [] z h = absurd z
  all_left P Q f (x ∷ xs) (y ∷ ys) z h =
      All-cons P x xs (f x y z.0 (All-head Q y ys h)) (all_left P Q f xs ys z.1 (All-tail Q y ys h))

  pub from_left : (P : X → Type 0) (Q : Y → Type 0) → ((x : X) (y : Y) → R x y → P x → Q y) → (xs : List X) (ys : List Y)
      → AllZip R xs ys → All P xs → All Q ys
  from_left P Q f [] [] z h = All-nil Q
  from_left P Q f [] (y ∷ ys) z h = absurd z
  from_left P Q f (x ∷ xs) [] z h = absurd z
  from_left P Q f (x ∷ xs) (y ∷ ys) z h =
      All-cons Q y ys (f x y z.0 (All-head P x xs h)) (from_left P Q f xs ys z.1 (All-tail P x xs h))

  pub pairs_right : (S : X → X → Type 0) (T : Y → Y → Type 0)
      → ((x x' : X) (y y' : Y) → R x y → R x' y' → S x x' → T y y') → (xs : List X) (ys : List Y) → AllZip R xs ys
      → AllPairs S xs → AllPairs T ys
  pairs_right S T f [] [] z h = λ i j d l m. absurd (omega (arith, m))
  pairs_right S T f [] (y ∷ ys) z h = absurd z
  pairs_right S T f (x ∷ xs) [] z h = absurd z
  pairs_right S T f (x ∷ xs) (y ∷ ys) z h =
      AllPairs-cons T y ys
      (from_left (S x) (T y) (λ x' y' r s. f x x' y y' z.0 r s) xs ys z.1 (pairs_head S x xs h))
      (pairs_right S T f xs ys z.1 (pairs_tail S x xs h))

module _ (k : CodeField) (q : QuotientValue) (pi : List ℕ) (es : List (List ℕ)) (Ps : List PrimeValue)
    (at : IsMaximalOrderAt k q.p q.order pi) (h : AreIdempotentsModulo k q pi es)
    (primes : AllZip (IsComponentPrime k q pi) es Ps) where
  -- primes with the same rows belong to idempotents with the same prime
  same_component : (e f : List ℕ) (P Q : PrimeValue) → IsComponentPrime k q pi e P → IsComponentPrime k q pi f Q
      → P.rows ≡ Q.rows → SameSet (IsInComponentPrime k q e) (IsInComponentPrime k q f)
  same_component e f P Q a b r z = (
    λ m. (b.members z).0 (subst (λ l. Contains k q.p l z) r ((a.members z).1 m)),
    λ m. (a.members z).0 (subst (λ l. Contains k q.p l z) (sym r) ((b.members z).1 m)),
  )

  pub component_system : IsPrimeSystem k q.p q.order pi Ps
  component_system =
      let R = IsComponentPrime k q pi in
      let c = component_primes k q pi es at h in
      record {
        primes = all_right R (IsPrimeOf k q.p q.order) (λ e P r. r.prime) es Ps primes;
        over = all_right R (λ P. P.p ≡ pi) (λ e P r. r.over) es Ps primes;
        different =
            pairs_right R (λ e f. ¬ SameSet (IsInComponentPrime k q e) (IsInComponentPrime k q f))
            (λ P Q. P.rows ≢ Q.rows) (λ e f P Q a b n r. n (same_component e f P Q a b r)) es Ps primes c.different;
        nilpotent = λ z z_in m.
            c.nilpotent z z_in
            (all_left R (λ e. IsInComponentPrime k q e z) (λ P. Contains k q.p P.rows z)
            (λ e P r n. (r.members z).0 n) es Ps primes m);
      }
