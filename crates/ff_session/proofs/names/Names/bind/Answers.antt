use Rattle.ff_session.proofs.NameMaps.{bound}
use Rattle.ff_session.proofs.names.Names.bind.Goals as goal

pub returns-clause-bound : goal.returns-clause-bound
returns-clause-bound c = bound c.self.inside.places.entries c.insert.new.self.entries c.name.inside.letters c.args.place
    c.args.self.now c.args.name c.self.view_is c.name.view_is c.requires c.in_ok-insert.ensures.entries
