use Rattle.std.proofs.Common.{◌≡◌, ℕ, [], ◌∷◌, ◌++◌, length, subst, arith}
use Rattle.std.proofs.lemmas.Bool.{both_ways}
use Rattle.ff_script.specs.Scripts.{MayFollow}
use Rattle.ff_script.proofs.Progress.{not_none, is_none, pass_so_far, stop_so_far, push_so_far}
use Rattle.ff_script.proofs.parsing.Progress.add.Goals as goal

pub returns-then-is_some : goal.returns-then-is_some
returns-then-is_some c = λ lines line number spelled so_far.
    pass_so_far lines c.args.self.now.statements.items c.args.self.now.misplaced line c.args.s
    (not_none c.args.self.now.misplaced c.is_some.result c.is_some.ensures c.if-is_some.true) spelled so_far

pub returns-then-not-may_follow : goal.returns-then-not-may_follow
returns-then-not-may_follow c = λ lines line number spelled so_far.
    let count : length c.args.self.now.statements.items ≡ c.len.result = omega arith in
    stop_so_far lines c.args.self.now.statements.items c.args.self.now.statements.items c.args.self.now.misplaced line
    c.args.s c.args.n (is_none c.args.self.now.misplaced c.is_some.result c.is_some.ensures c.if-is_some.false)
    number spelled
    (λ may. both_ways c.may_follow.result c.if-not-may_follow.true
    (c.may_follow.ensures.1 (subst (λ (k : ℕ). MayFollow k c.args.s) count may)))
    so_far

pub returns : goal.returns
returns c = λ lines line number spelled so_far.
    let count : c.len.result ≡ length c.args.self.now.statements.items = omega arith in
    let pushed : c.push.new.self.items ≡ c.args.self.now.statements.items
    ++ c.args.s ∷ [] = c.in_ok-push.ensures.items in
    rw pushed (push_so_far lines c.args.self.now.statements.items c.args.self.now.misplaced line c.args.s
    (is_none c.args.self.now.misplaced c.is_some.result c.is_some.ensures c.if-is_some.false) spelled
    (subst (λ (k : ℕ). MayFollow k c.args.s) count (c.may_follow.ensures.0 c.if-not-may_follow.false)) so_far)
