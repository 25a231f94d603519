use Rattle.std.proofs.Common.{◌≡◌, ◌+◌, ◌-◌, ◌*◌, ◌^◌, ◌<◌}
use Rattle.ff_fields.specs.Code.{raw_ring}
use Rattle.ring_lemmas.specs.Lists.{neg_list}
use Rattle.ff_fields.specs.Prime.{prime_of}
use Rattle.ff_fields.specs.Residue.{digits, number}
use Rattle.ff_fields.proofs.digits.neg_digits.Given as goal

abbrev pub invariant-loop-i : goal.invariant-loop-i
invariant-loop-i l =
    let f = raw_ring (prime_of l.p) in
    record {
      position_is : l.position ≡ l.p ^ l.i;
      low : l.sum < l.position;
      kept : l.sum + l.position * number l.p (neg_list f (digits l.p (l.m - l.i) l.x))
          ≡ number l.p (neg_list f (digits l.p l.m l.a));
    }
