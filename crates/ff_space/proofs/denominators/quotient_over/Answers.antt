use Rattle.std.proofs.Common.{sym, ◌∙◌, refl}
use Rattle.ff_factor.proofs.Orders.{not_so}
use Rattle.ff_space.proofs.Quotients.{no_quotient, quotient_is}
use Rattle.ff_space.proofs.denominators.quotient_over.Goals as goal

pub returns-then-not-is_zero : goal.returns-then-not-is_zero
returns-then-not-is_zero g c =
    let k = g.K.SmallField.field c.args.k.now in
    λ w w_in w_poly e.
    no_quotient k c.in_ok-product.product c.args.d.now c.in_ok-quotient.quotient c.in_ok-quotient.rest w
    c.in_ok-product.ensures.over c.requires.d_in c.requires.d_poly c.requires.d_some c.in_ok-quotient.ensures
    (λ z. not_so (c.if-not-is_zero.ensures.1 z)) w_in w_poly (c.in_ok-product.ensures.product ∙ e)

pub returns : goal.returns
returns g c =
    let k = g.K.SmallField.field c.args.k.now in
    record {
      over = c.in_ok-quotient.ensures.quotient_in;
      poly = c.in_ok-quotient.ensures.quotient_poly;
      is =
          sym c.in_ok-product.ensures.product
          ∙ quotient_is k c.in_ok-product.product c.args.d.now c.in_ok-quotient.quotient c.in_ok-quotient.rest
          c.requires.d_in c.in_ok-quotient.ensures (c.if-not-is_zero.ensures.0 refl);
    }
