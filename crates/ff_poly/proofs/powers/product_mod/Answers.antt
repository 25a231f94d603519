use Rattle.ff_poly.proofs.powers.product_mod.Goals as goal

pub returns : goal.returns
returns g c = record {
  quotient = c.in_ok-rest.field-0-0;
  division = rw c.in_ok-mul.ensures.product at c.in_ok-rest.ensures;
}
