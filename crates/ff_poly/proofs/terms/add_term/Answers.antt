use Rattle.ff_poly.proofs.TermLists.{added_some, added_none}
use Rattle.ff_poly.proofs.terms.add_term.Goals as goal

pub returns-in_ok-push : goal.returns-in_ok-push
returns-in_ok-push g c =
    let k = g.K.SmallField.field c.args.k.now in
    added_some k c.args.terms.now.items c.merged_code.new.terms.items c.args.term c.in_ok-code.code
    c.in_ok-code.ensures.merged c.push.new.self.items c.if-code-ne0.true c.in_ok-push.ensures.items

pub returns-else-code-ne0 : goal.returns-else-code-ne0
returns-else-code-ne0 g c =
    let k = g.K.SmallField.field c.args.k.now in
    added_none k c.args.terms.now.items c.merged_code.new.terms.items c.args.term c.in_ok-code.code
    c.in_ok-code.ensures.merged c.if-code-ne0.false
