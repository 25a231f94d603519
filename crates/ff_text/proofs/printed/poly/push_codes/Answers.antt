use Rattle.std.proofs.Common.{◌≡◌, ◌++◌, ◌∷◌, [], ◌-◌, replicate, sym, ap, ◌∙◌}
use Rattle.ff_text.proofs.PrintedCodes.{ReadTerm, codes_ended, rest_ended, codes_more, rest_more}
use Rattle.ff_text.proofs.printed.poly.push_codes.Goals as goal

pub loop-code-preserved : goal.loop-code-preserved
loop-code-preserved c =
    let t : ReadTerm = ((c.in-Some.code, c.in-Some.j), c.in-Some.behind.now) in
    let zeros = replicate (c.loop-code.bound - 1 - c.in-Some.j) 0 in
    let pushed : c.push.new.self.items ≡ (c.loop-code.codes.items ++ zeros)
    ++ c.in-Some.code ∷ [] = c.in_ok-push.ensures.items
    ∙ ap (λ cs. cs ++ c.in-Some.code ∷ []) c.in_ok-push_zeros.ensures in
    record {
      codes = rw pushed (codes_more c.loop-code.codes.items _ c.loop-code.bound c.loop-code.rest.now t
          c.in-Some.ensures.found c.loop-code.invariant.codes);
      rest = rest_more c.loop-code.bound c.loop-code.rest.now t c.in-Some.ensures.found ∙ c.loop-code.invariant.rest;
    }

pub returns-clause-codes : goal.returns-clause-codes
returns-clause-codes c =
    c.in_ok-push_zeros-2.ensures ∙ codes_ended c.loop-code.codes.items _ c.loop-code.bound c.loop-code.rest.now
    c.in_default.ensures.found c.loop-code.invariant.codes

pub returns-clause-rest : goal.returns-clause-rest
returns-clause-rest c = sym (rest_ended c.loop-code.bound c.loop-code.rest.now c.in_default.ensures.found)
    ∙ c.loop-code.invariant.rest
