-- What the codes of a field by a modulus stand for: sums and products of polynomials modulo the modulus.
use Rattle.std.specs.Prelude.{◌≡◌, ℕ, ◌^◌, ◌<◌, List, IsTrue}
use Rattle.ring_lemmas.specs.Ring.{Operations}
use Rattle.ring_lemmas.specs.Congruence.{IsCongruent}
use Rattle.ring_lemmas.specs.Polynomials.{Pol}
use Rattle.ring_theory.specs.PolynomialRing.{pol_ring}
use Rattle.ff_fields.specs.Prime.{is_listed, prime_field}
use Rattle.ff_fields.specs.Code.{code_ring}
use Rattle.ff_fields.specs.Modulus.{polynomial}
use Rattle.ff_fields.specs.Residue.{digits}

-- the polynomials over the numbers modulo p
abbrev pub polynomials : (p : ℕ) (listed : IsTrue (is_listed p)) → Operations (Pol (code_ring (prime_field p listed)))
polynomials p listed = (pol_ring (code_ring (prime_field p listed))).ops

-- c is the code below p to the m whose polynomial is the sum of those of a and b
pub record IsCodeSum (p m a b c : ℕ) : Type 0 where
  pub below : c < p ^ m
  pub sum : (listed : IsTrue (is_listed p)) →
      polynomial p listed (digits p m c)
      ≡ (polynomials p listed).◌⊕◌ (polynomial p listed (digits p m a)) (polynomial p listed (digits p m b))

-- c is the code below p to the m whose polynomial is congruent to the product of those of a and b modulo the modulus
pub record IsProductOf (p m : ℕ) (modulus : List ℕ) (a b c : ℕ) : Type 0 where
  pub below : c < p ^ m
  pub congruent : (listed : IsTrue (is_listed p)) →
      let s = polynomials p listed in
      IsCongruent s (polynomial p listed modulus) (polynomial p listed (digits p m c))
      (s.◌⊗◌ (polynomial p listed (digits p m a)) (polynomial p listed (digits p m b)))
