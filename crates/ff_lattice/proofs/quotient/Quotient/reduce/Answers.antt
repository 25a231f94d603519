use Rattle.std.proofs.Common.{List, subst}
use Rattle.std.specs.Prelude.{ℕ}
use Rattle.std.specs.Global.{Vec}
use Rattle.function_field.specs.Values.{function_of}
use Rattle.ff_poly.specs.Popov.{rows_of}
use Rattle.ff_lattice.specs.Quotients.{QuotientValue, AreCodesOf}
use Rattle.ff_lattice.proofs.MadeQuotients.{class_of_codes}
use Rattle.ff_lattice.proofs.Results.{ok_through}
use Rattle.ff_lattice.proofs.quotient.Quotient.reduce.Goals as goal

pub returns : goal.returns
returns g c =
    let k = g.K.SmallField.field c.args.k.now in
    let q = c.args.self.now in
    let s = c.self.inside in
    let z = c.args.z.now in
    ok_through c.codes_of.result
    (λ a h.
    class_of_codes k q c.requires.over.frame (function_of k q.p z) a.items c.requires.member
    (subst (λ (q : QuotientValue). AreCodesOf k q.p q.order q.rows q.depth (function_of k q.p z) a.items) c.self.view_is
    (subst (λ l. AreCodesOf k s.p l (rows_of s.rows.items) s.depth (function_of k s.p z) a.items) c.lattice-l.ensures
    (subst (λ (vs : List (Vec (List ℕ))). AreCodesOf k s.p c.lattice-l.result.now (rows_of vs) s.depth
    (function_of k s.p z) a.items) c.deref.ensures.value h))))
    c.codes_of.ensures
