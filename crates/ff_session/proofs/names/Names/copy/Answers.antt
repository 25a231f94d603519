use Rattle.std.proofs.Common.{rules, ◌≡◌, ◌∙◌}
use Rattle.std.specs.Map.Iter.{deref_pair}
use Rattle.std.proofs.lemmas.Map.Iter.{rest_more}
use Rattle.ff_session.proofs.NameMaps.{none_copied, one_copied}
use Rattle.ff_session.proofs.names.Names.copy.Goals as goal

pub loop-name-init : goal.loop-name-init
loop-name-init c =
    none_copied c.args.self.now c.self.inside.places.entries c.new-places.result.entries
    c.into_iter-name-iterator.result c.self.view_is c.iter-name-items.ensures.unique c.new-places.ensures.empty
    (c.into_iter-name-iterator.ensures.into_iter_gives ∙ c.iter-name-items.ensures.rest)

pub loop-name-preserved-in_ok-insert : goal.loop-name-preserved-in_ok-insert
loop-name-preserved-in_ok-insert c =
    let letters : c.in_ok-name.name.items ≡ c.in-Some.name.now.items = search rules in
    one_copied c.args.self.now c.loop-name.places.entries c.insert.new.self.entries c.loop-name.name-iterator
    c.next.new.self (c.in-Some.name.now, c.in-Some.place.now) c.in_ok-name.name c.in_ok-copy.field-0
    c.loop-name.invariant
    (rest_more deref_pair c.loop-name.name-iterator c.next.new.self c.next.result (c.in-Some.name, c.in-Some.place)
    c.in-Some.is c.next.ensures.steps)
    letters c.in_ok-copy.ensures c.in_ok-insert.ensures.entries

pub loop-name-preserved : goal.loop-name-preserved
loop-name-preserved c =
    let letters : c.in_ok-name.name.items ≡ c.in-Some.name.now.items = search rules in
    one_copied c.args.self.now c.loop-name.places.entries c.insert.new.self.entries c.loop-name.name-iterator
    c.next.new.self (c.in-Some.name.now, c.in-Some.place.now) c.in_ok-name.name c.in_ok-copy.field-0
    c.loop-name.invariant
    (rest_more deref_pair c.loop-name.name-iterator c.next.new.self c.next.result (c.in-Some.name, c.in-Some.place)
    c.in-Some.is c.next.ensures.steps)
    letters c.in_ok-copy.ensures c.in_ok-insert.ensures.entries
