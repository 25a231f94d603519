-- The ring of fractions, where those that are the same are one.
use mathlib.Core.Quot.{Quot, mk}
use Rattle.ring_lemmas.specs.Ring.{CommRing}
use Rattle.ring_lemmas.specs.Fractions.{Denominators, Same, whole, fraction_ops}
use Rattle.ring_lemmas.proofs.Fractions.{fractions}
use Rattle.ring_theory.specs.QuotientRing.{quotient_ring}

module _ {A : Type 0} (R : CommRing A) where
  module _ (N : A → Type 0) (D : Denominators R.ops N) where
    abbrev pub Fractions : Type 0
    Fractions = Quot (Same R.ops N)

    abbrev pub fraction_ring : CommRing Fractions
    fraction_ring = quotient_ring (fraction_ops R.ops N D) (Same R.ops N) (fractions R N D)

    -- A in its fractions: equal only for equals, and the denominators have inverses
    abbrev pub embed : A → Fractions
    embed a = mk (whole R.ops N D a)
