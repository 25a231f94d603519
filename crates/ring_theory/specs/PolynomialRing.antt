-- The ring of polynomials.
use Rattle.ring_lemmas.specs.Ring.{TestedRing}
use Rattle.ring_lemmas.specs.Polynomials.{Pol, is_empty, pol_ops}
use Rattle.ring_lemmas.proofs.Polynomials.{empty_zero, pol_add_assoc, pol_add_comm, pol_add_neg, pol_add_zero, pol_mul_add, pol_mul_assoc, pol_mul_comm, pol_mul_one, pol_set, zero_empty}

module _ {A : Type 0} (r : TestedRing A) where
  -- the ring of polynomials, whose zero is the empty list
  abbrev pub pol_ring : TestedRing (Pol r)
  pol_ring = record {
    ring = record {
      ops = pol_ops r;
      is_set = pol_set r;
      add_assoc = pol_add_assoc r;
      add_comm = pol_add_comm r;
      add_zero = pol_add_zero r;
      add_neg = pol_add_neg r;
      mul_assoc = pol_mul_assoc r;
      mul_comm = pol_mul_comm r;
      mul_one = pol_mul_one r;
      mul_add = pol_mul_add r;
    };
    is_zero = λ a. is_empty a.0;
    zero_is_zero = zero_empty r;
    zero_from = empty_zero r;
  }
