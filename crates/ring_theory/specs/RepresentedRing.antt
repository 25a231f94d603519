-- A ring modulo a congruence whose classes have representatives: the ring of the representatives.
use Rattle.ring_lemmas.specs.Ring.{Operations, CommRing}
use Rattle.ring_lemmas.specs.Congruence.{Represents}
use Rattle.ring_lemmas.proofs.Congruence.{represented_add_assoc, represented_add_comm, represented_add_neg, represented_add_zero, represented_mul_add, represented_mul_assoc, represented_mul_comm, represented_mul_one}

module _ {C S : Type 0} (c : Operations C) (s : CommRing S) (m : S) (rep : Represents c s.ops m) where
  -- the ring of the representatives
  abbrev pub represented_ring : IsSet C → CommRing C
  represented_ring set = record {
    ops = c;
    is_set = set;
    add_assoc = represented_add_assoc c s m rep;
    add_comm = represented_add_comm c s m rep;
    add_zero = represented_add_zero c s m rep;
    add_neg = represented_add_neg c s m rep;
    mul_assoc = represented_mul_assoc c s m rep;
    mul_comm = represented_mul_comm c s m rep;
    mul_one = represented_mul_one c s m rep;
    mul_add = represented_mul_add c s m rep;
  }
