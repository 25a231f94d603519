-- The prime of an idempotent E modulo p is spanned by the radical and the multiples of 1 - E; what is in two of them,
-- and the list forms of what holds of the members.
use Rattle.std.proofs.Common.{◌≡◌, ◌≢◌, inl, inr, List, [], ◌∷◌, refl, sym, subst, arith}
use Rattle.std.specs.List.{AllPairs}
use Rattle.std.proofs.lemmas.List.Kept.{AllPairs-cons}
use Rattle.ring_lemmas.specs.Ring.{CommRing}
use Rattle.ring_lemmas.proofs.Solver.{ring, reads, from_one}
use Rattle.ring_theory.specs.Members.{In, IsDistinct}
use Rattle.ring_theory.specs.Subsets.{IsSubring}
use Rattle.prime_theory.specs.Ideals.{SameSet, IsIdeal, Multiple}
use Rattle.prime_theory.specs.Orders.{Radical}
use Rattle.prime_theory.specs.Places.{IsMaximalIdeal}
use Rattle.prime_theory.specs.Primes.{IsPrime}
use Rattle.prime_theory.specs.Systems.{PrimeAt}
use Rattle.prime_theory.proofs.Radicals.{radical_ideal, p_in_radical}
use Rattle.finite_algebra_theory.proofs.Lists.{all_of_in}

-- different members of a list without repeats, in pairs
pub pairs_of_in : {X : Type 0} (S : X → X → Type 0) (xs : List X) → IsDistinct xs
    → ((x y : X) → In x xs → In y xs → x ≢ y → S x y) → AllPairs S xs
pairs_of_in S [] d f = λ i j e l m. absurd (omega (arith, m))
pairs_of_in S (x ∷ xs) d f =
    AllPairs-cons S x xs
    (all_of_in (S x) xs (λ y i. f x y (inl refl) (inr i) (λ e. d.0 (subst (λ z. In z xs) (sym e) i))))
    (pairs_of_in S xs d.1 (λ y z i j. f y z (inr i) (inr j)))

-- a set with the members of a prime is a maximal ideal
pub maximal_same : {A : Type 0} (R : CommRing A) (O P C : A → Type 0) → SameSet C P → IsPrime R.ops O P
    → IsMaximalIdeal R.ops O C
maximal_same R O P C s 𝓟 = record {
  ideal = record {
    within = λ a m. 𝓟.ideal.within a ((s a).0 m);
    zero_in = (s R.𝟘).1 𝓟.ideal.zero_in;
    sum_in = λ a b m n. (s _).1 (𝓟.ideal.sum_in a b ((s a).0 m) ((s b).0 n));
    scale_in = λ c a c_in m. (s _).1 (𝓟.ideal.scale_in c a c_in ((s a).0 m));
  };
  proper = λ m. 𝓟.proper ((s R.𝟙).0 m);
  invert = λ u u_in out.
      let t = 𝓟.invert u u_in (λ m. out ((s u).1 m)) in
      record { inverse = t.inverse; inverse_in = t.inverse_in; is = (s _).1 t.is };
}

module _ {A : Type 0} (R : CommRing A) (O : A → Type 0) (𝓞 : IsSubring R.ops O) (p : A) (p_in : O p) where
  infixl 65 ◌⊕◌
  infixl 70 ◌⊗◌
  infixr 80 ⊖◌
  open R use {𝟘, 𝟙, ◌⊕◌, ◌⊗◌, ⊖◌}

  𝓡 : IsIdeal R.ops O (Radical R.ops O p)
  𝓡 = radical_ideal R O 𝓞 p p_in

  rad_of : (a : A) → Multiple R.ops p O a → Radical R.ops O p a
  rad_of = p_in_radical R O 𝓞 p p_in

  -- the prime of an element of O has p
  pub prime_has_p : (e : A) → O e → PrimeAt R.ops O p e p
  prime_has_p e e_in = record {
    within = p_in;
    nilpotent = rad_of (p ⊗ e) (record { quotient = e; quotient_in = e_in; is = refl });
  }

  -- a member of O that is orthogonal to e modulo p is in the prime of e
  pub prime_has_orthogonal : (e f : A) → O f → Multiple R.ops p O (f ⊗ e) → PrimeAt R.ops O p e f
  prime_has_orthogonal e f f_in m = record { within = f_in; nilpotent = rad_of (f ⊗ e) m }

  pub split_part : (e z : A) → z ≡ z ⊗ e ⊕ (𝟙 ⊕ ⊖ e) ⊗ z
  split_part e z = ring R (e ∷ z ∷ []) λ q i. simp (reads, q, i 0, i 1) (q.equal _ _ refl)

  -- a nilpotent element and a multiple of 1 - e
  pub prime_of_parts : (e r w z : A) → O e → Multiple R.ops p O (e ⊗ e ⊕ ⊖ e) → Radical R.ops O p r → O w
      → z ≡ r ⊕ (𝟙 ⊕ ⊖ e) ⊗ w → PrimeAt R.ops O p e z
  prime_of_parts e r w z e_in idem r_in w_in is = record {
    within =
        subst O (sym is)
        (𝓞.sum_in _ _ r_in.within
        (𝓞.product_in _ _ (𝓞.sum_in _ _ 𝓞.one_in (𝓞.neg_in e e_in)) w_in));
    nilpotent =
        subst (Radical R.ops O p) (sym (parts is))
        (𝓡.sum_in _ _ (𝓡.scale_in e r e_in r_in) (𝓡.scale_in (⊖ w) _ (𝓞.neg_in w w_in) (rad_of _ idem)));
  }
    where
      parts : z ≡ r ⊕ (𝟙 ⊕ ⊖ e) ⊗ w → z ⊗ e ≡ e ⊗ r ⊕ ⊖ w ⊗ (e ⊗ e ⊕ ⊖ e)
      parts d =
          from_one R e d
          (ring R (e ∷ r ∷ w ∷ z ∷ []) λ q i. simp (reads, q, i 0, i 1, i 2, i 3) (q.equal _ _ refl))
