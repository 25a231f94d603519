use Rattle.std.proofs.Common.{[], ◌∷◌, ◌++◌, ap, ◌∙◌}
use Rattle.ff_poly.specs.Words.{poly_of}
use Rattle.ff_text.specs.PrintedReading.{codes_at}
use Rattle.ff_text.proofs.PrintedPolys.{poly_found}
use Rattle.ff_text.proofs.printed.poly.poly.Goals as goal

pub returns-in-Some : goal.returns-in-Some
returns-in-Some c =
    let read = codes_at c.in-Some.degree c.in-Some.rest.now in
    poly_found c.args.bytes.now ((c.in-Some.code, c.in-Some.degree), c.in-Some.rest.now) c.from_codes.result
    c.push_codes.new.codes.items c.in_ok-rest-in-Some.rest.now
    c.in-Some.ensures
    (c.in_ok-rest-in-Some.ensures.codes ∙ ap (λ cs. cs ++ read.0) c.in_ok-push-in-Some.ensures.items
    ∙ ap (λ cs. (cs ++ c.in-Some.code ∷ []) ++ read.0) c.new-codes.ensures.items)
    c.in_ok-rest-in-Some.ensures.rest
    (c.from_codes.ensures ∙ ap poly_of c.reverse.ensures.items)
