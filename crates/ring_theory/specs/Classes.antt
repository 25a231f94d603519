-- Polynomials modulo a monic one, over any domain: a class is a polynomial that is shorter.
use Rattle.std.specs.Prelude.{◌≡◌, ◌-◌, ◌<◌, length}
use Rattle.ring_lemmas.specs.Ring.{Operations, TestedRing, IsDomain}
use Rattle.ring_lemmas.specs.Lists.{coeff_of, rest_from}
use Rattle.ring_lemmas.specs.Polynomials.{Pol, pol_of}
use Rattle.ring_lemmas.proofs.Division.{rest_shorter}
use Rattle.ring_theory.specs.PolynomialRing.{pol_ring}

module _ {A : Type 0} (r : TestedRing A) (domain : IsDomain r.ops) (f : Pol r)
    (monic : r.◌⊗◌ r.𝟙 (coeff_of r.ops f.0 (length f.0 - 1)) ≡ r.𝟙) (deep : 1 < length f.0) where
  abbrev pub s : TestedRing (Pol r)
  s = pol_ring r

  -- the rest of a polynomial modulo f, and the quotient
  abbrev pub rest : Pol r → Pol r
  rest a = pol_of r (rest_from r.ops f.0 r.𝟙 a.0)

  -- a class is a polynomial that is shorter than f
  abbrev pub Class : Type 0
  Class = (a : Pol r) × (length a.0 < length f.0)

  abbrev pub class_of : Pol r → Class
  class_of a = (rest a, rest_shorter r f monic deep a)

  abbrev pub class_ops : Operations Class
  class_ops = record {
    𝟘 = class_of s.𝟘;
    𝟙 = class_of s.𝟙;
    ◌⊕◌ = λ x y. class_of (s.◌⊕◌ x.0 y.0);
    ⊖◌ = λ x. class_of (s.⊖◌ x.0);
    ◌⊗◌ = λ x y. class_of (s.◌⊗◌ x.0 y.0);
  }
