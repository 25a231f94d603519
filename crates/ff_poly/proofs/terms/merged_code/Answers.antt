use Rattle.std.proofs.Common.{◌≡◌, [], sym, ◌∙◌, refl, arith}
use Rattle.std.proofs.lemmas.List.{nil_from_length}
use Rattle.ff_poly.specs.TermWords.{IsBefore, IsUpTo}
use Rattle.ff_poly.proofs.TermLists.{all_front, strictly, merged_none, merged_other, merged_same}
use Rattle.ff_poly.proofs.terms.merged_code.Goals as goal
use Rattle.ff_poly.proofs.terms.merged_code.Goals.{then-last-term-via-then-last-term, then-last-term-via-else-last-term+then-last-term-2}

pub returns-in_default : goal.returns-in_default
returns-in_default g c =
    let k = g.K.SmallField.field c.args.k.now in
    let none : c.args.terms.now.items ≡ [] = nil_from_length _ (omega (arith, c.in_default.ensures.cases)) in
    let same : c.pop.new.self.items ≡ c.args.terms.now.items = nil_from_length _
    (omega (arith, c.in_default.ensures.cases)) ∙ sym none in
    record {
      merged = merged_none k c.args.terms.now.items c.args.term c.requires.terms_are c.requires.terms_in
          c.requires.term_in c.requires.last c.pop.new.self.items none same;
    }

pub returns-then-last-term : goal.returns-then-last-term
returns-then-last-term g c =
    let k = g.K.SmallField.field c.args.k.now in
    let old_is = c.in-Some.ensures.items in
    let up_to = (all_front (λ u. IsUpTo u c.args.term) c.pop.new.self.items c.in-Some.last
    (rw old_is at c.requires.last)).1 in
    let less : IsBefore c.in-Some.last c.args.term = elim c.then-last-term.branch [
      | then-last-term-via-then-last-term w ↦ strictly c.in-Some.last c.args.term up_to (λ e f. w.if-last-term.true e)
      | then-last-term-via-else-last-term+then-last-term-2 w ↦ strictly c.in-Some.last c.args.term up_to
          (λ e f. w.if-last-term-2.true f)
    ] in
    record {
      merged = merged_other k c.args.terms.now.items c.args.term c.requires.terms_are c.requires.terms_in
          c.requires.term_in c.requires.last c.pop.new.self.items c.in-Some.last c.push.new.self.items old_is less
          c.in_ok-push.ensures.items;
    }

pub returns : goal.returns
returns g c =
    let k = g.K.SmallField.field c.args.k.now in
    record {
      merged = merged_same k c.args.terms.now.items c.args.term c.requires.terms_are c.requires.terms_in
          c.requires.term_in c.requires.last c.pop.new.self.items c.in-Some.last c.pop.new.self.items c.add.result
          c.in-Some.ensures.items c.if-last-term.false c.if-last-term-2.false refl c.add.ensures;
    }
