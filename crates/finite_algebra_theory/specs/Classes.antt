-- The ring of polynomials modulo a monic one, over any domain. At k[x] this is k[x][y] modulo f.
use Rattle.std.specs.Prelude.{◌≡◌, ◌-◌, ◌<◌, length}
use Rattle.std.proofs.Common.{sym, ap, ◌∙◌}
use Rattle.ring_lemmas.specs.Ring.{TestedRing, IsDomain}
use Rattle.ring_lemmas.specs.Lists.{coeff_of}
use Rattle.ring_lemmas.specs.Polynomials.{Pol}
use Rattle.ring_theory.specs.PolynomialRing.{pol_ring}
use Rattle.ring_theory.specs.RepresentedRing.{represented_ring}
use Rattle.ring_theory.specs.Classes.{Class, class_of, class_ops}
use Rattle.ring_theory.proofs.Polynomials.{pol_domain}
use Rattle.ring_theory.proofs.Classes.{class_same, class_set, classes_represent, rest_null}

module _ {A : Type 0} (r : TestedRing A) (domain : IsDomain r.ops) (f : Pol r)
    (monic : r.◌⊗◌ r.𝟙 (coeff_of r.ops f.0 (length f.0 - 1)) ≡ r.𝟙) (deep : 1 < length f.0) where
  abbrev pub s : TestedRing (Pol r)
  s = pol_ring r

  -- the ring of the classes
  abbrev pub classes : TestedRing (Class r domain f monic deep)
  classes = record {
    ring = represented_ring (class_ops r domain f monic deep) s.ring f (classes_represent r domain f monic deep)
        (class_set r domain f monic deep);
    is_zero = λ x. s.is_zero x.0;
    zero_is_zero = ap s.is_zero (rest_null r domain f monic deep) ∙ s.zero_is_zero;
    zero_from = λ x e. class_same r domain f monic deep x (class_of r domain f monic deep s.𝟘)
        (s.zero_from x.0 e ∙ sym (rest_null r domain f monic deep));
  }

-- at a polynomial ring: k[x][y] modulo a monic f, with no lemma of its own
module _ {A : Type 0} (r : TestedRing A) (domain : IsDomain r.ops) where
  pub tower : (f : Pol (pol_ring r)) (monic : (pol_ring r).◌⊗◌ (pol_ring r).𝟙
      (coeff_of (pol_ring r).ops f.0 (length f.0 - 1)) ≡ (pol_ring r).𝟙)
      (deep : 1 < length f.0) → TestedRing (Class (pol_ring r) (pol_domain r domain) f monic deep)
  tower f monic deep = classes (pol_ring r) (pol_domain r domain) f monic deep
