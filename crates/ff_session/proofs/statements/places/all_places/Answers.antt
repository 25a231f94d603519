use Rattle.ff_session.proofs.PlaceAnswers.{base_irreducible}
use Rattle.ff_session.proofs.statements.places.all_places.Goals as goal

pub listed_places-requires-clause-irreducible : goal.listed_places-requires-clause-irreducible
listed_places-requires-clause-irreducible g c =
    base_irreducible (g.K.SmallField.field c.args.k.now) c.args.over.now c.in_ok-base.base.side c.in_ok-base.base.p
    c.in_ok-base.ensures.base.base
