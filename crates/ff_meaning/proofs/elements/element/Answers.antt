use Rattle.std.proofs.Common.{◌≡◌, ◌<◌, ℕ, List, max, sym, ap, ap₂, ◌∙◌, subst, arith, All}
use Rattle.ff_algebra.specs.CurveTerms.{IsCoefficient, degree_in_x}
use Rattle.ff_meaning.specs.Elements.{greatest_in_x, AreCoefficients}
use Rattle.ff_meaning.proofs.EntrySums.{sums_in}
use Rattle.ff_meaning.proofs.ElementValues.{den_in}
use Rattle.ff_meaning.proofs.ReadElements.{wrong_length, too_great, over_zero, element_read}
use Rattle.ff_meaning.proofs.elements.element.Goals as goal

pub returns-then-len-n-clause-refused : goal.returns-then-len-n-clause-refused
returns-then-len-n-clause-refused g c = λ some.
    let k = g.K.SmallField.field c.args.k.now in
    wrong_length k c.args.n c.args.bound c.args.e.now c.requires.writable c.in_ok-sums.sums.items c.in_ok-sums.den
    c.in_ok-sums.ensures.sums
    c.len-then-len-n.result (c.len-then-len-n.ensures ∙ c.in_ok-sums.sums.ok.0)
    (λ e. c.if-len-n.true (c.len.ensures ∙ sym c.len-then-len-n.ensures ∙ e))

pub returns-then-degree-most-clause-refused : goal.returns-then-degree-most-clause-refused
returns-then-degree-most-clause-refused g c = λ some.
    let k = g.K.SmallField.field c.args.k.now in
    let ss = c.in_ok-sums.sums.items in
    let degree : c.max-degree.result ≡ max (greatest_in_x ss) (degree_in_x c.in_ok-sums.den)
    = c.max-degree.ensures
    ∙ ap₂ max (c.greatest_in_x.ensures ∙ ap greatest_in_x c.as_slice.ensures.value)
    (c.degree_in_x.ensures ∙ ap degree_in_x c.list.ensures.list) in
    too_great k c.args.n c.args.bound c.args.e.now c.requires.writable ss c.in_ok-sums.den c.in_ok-sums.ensures.sums
    (sym c.in_ok-sums.sums.ok.0 ∙ sym c.len.ensures ∙ c.if-len-n.false) c.max-degree.result degree (omega arith)

pub polynomials-requires-clause-codes_in : goal.polynomials-requires-clause-codes_in
polynomials-requires-clause-codes_in g c =
    let ops = (g.K.SmallField.field c.args.k.now).ops in
    subst (All (All (λ t. t.2 < ops.size))) (sym c.as_slice-2.ensures.value)
    (sums_in ops c.args.e.now.entries c.in_ok-sums.sums.items c.in_ok-sums.ensures.sums.entries)

pub polynomial-requires-clause-codes_in : goal.polynomial-requires-clause-codes_in
polynomial-requires-clause-codes_in g c =
    let k = g.K.SmallField.field c.args.k.now in
    subst (λ (s : List (ℕ × ℕ × ℕ)). All (λ t. t.2 < k.size) s) (sym c.list-2.ensures.list)
    (den_in k c.args.e.now.den c.in_ok-sums.den c.in_ok-sums.ensures.sums.denominator)

pub returns-then-is_zero-clause-refused : goal.returns-then-is_zero-clause-refused
returns-then-is_zero-clause-refused g c = λ some.
    let k = g.K.SmallField.field c.args.k.now in
    let ss = c.in_ok-sums.sums.items in
    let s = c.in_ok-sums.den in
    let degree : c.max-degree.result ≡ max (greatest_in_x ss) (degree_in_x s)
    = c.max-degree.ensures
    ∙ ap₂ max (c.greatest_in_x.ensures ∙ ap greatest_in_x c.as_slice.ensures.value)
    (c.degree_in_x.ensures ∙ ap degree_in_x c.list.ensures.list) in
    over_zero k c.args.n c.args.bound c.args.e.now c.requires.writable ss s c.in_ok-sums.ensures.sums
    (sym c.in_ok-sums.sums.ok.0 ∙ sym c.len.ensures ∙ c.if-len-n.false) c.in_ok-num.num.items c.in_ok-den.den
    (subst (λ (ts : List (List (ℕ × ℕ × ℕ))). AreCoefficients k.ops ts c.in_ok-num.num.items) c.as_slice-2.ensures.value
    c.in_ok-num.ensures.coefficients)
    (subst (λ (ts : List (ℕ × ℕ × ℕ)). IsCoefficient k.ops ts 0 c.in_ok-den.den) c.list-2.ensures.list
    c.in_ok-den.ensures.coefficient)
    (omega (arith, degree)) (c.is_zero.ensures.0 c.if-is_zero.true)

pub returns-clause-read : goal.returns-clause-read
returns-clause-read g c =
    let k = g.K.SmallField.field c.args.k.now in
    let ss = c.in_ok-sums.sums.items in
    let s = c.in_ok-sums.den in
    let degree : c.max-degree.result ≡ max (greatest_in_x ss) (degree_in_x s)
    = c.max-degree.ensures
    ∙ ap₂ max (c.greatest_in_x.ensures ∙ ap greatest_in_x c.as_slice.ensures.value)
    (c.degree_in_x.ensures ∙ ap degree_in_x c.list.ensures.list) in
    element_read k c.args.n c.args.bound c.args.e.now c.requires.writable ss s c.in_ok-sums.ensures.sums
    (sym c.in_ok-sums.sums.ok.0 ∙ sym c.len.ensures ∙ c.if-len-n.false) c.in_ok-num.num.items c.in_ok-den.den
    (subst (λ (ts : List (List (ℕ × ℕ × ℕ))). AreCoefficients k.ops ts c.in_ok-num.num.items) c.as_slice-2.ensures.value
    c.in_ok-num.ensures.coefficients)
    (subst (λ (ts : List (ℕ × ℕ × ℕ)). IsCoefficient k.ops ts 0 c.in_ok-den.den) c.list-2.ensures.list
    c.in_ok-den.ensures.coefficient)
    (omega (arith, degree)) c.new.result (λ e. absurd (let zero = c.is_zero.ensures.1 e in cc))
    c.new.ensures.same_function c.new.ensures.in_range
