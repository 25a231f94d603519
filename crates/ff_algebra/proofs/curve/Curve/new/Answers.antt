use Rattle.std.proofs.Common.{◌≡◌, ◌≤◌, ◌*◌, ◌-◌, ℕ, suc, List, [], ◌∷◌, length, refl, sym, ap, ap₂, ◌∙◌, arith}
use Rattle.std.proofs.lemmas.List.Elements.{All-from_get_or}
use Rattle.ff_poly.specs.Words.{IsPoly}
use Rattle.ff_poly.specs.Value.{value}
use Rattle.ff_poly.specs.Polynomials.{value_nil}
use Rattle.function_field.proofs.InfinityNumbers.{length_from_degree, length_from_no_degree}
use Rattle.function_field.proofs.InfinitePresentations.{number_small, small_product, infinite_is, infinite_over}
use Rattle.ff_algebra.proofs.curve.Curve.new.Goals as goal

no_codes : (a : List ℕ) → length a ≡ 0 → a ≡ []
no_codes [] e = refl
no_codes (c ∷ a) e = absurd (omega arith)

pub returns-in_default-clause-fault : goal.returns-in_default-clause-fault
returns-in_default-clause-fault g c =
    let k = g.K.SmallField.field c.args.k.now in
    let none : c.in_ok-disc.disc ≡ [] = no_codes c.in_ok-disc.disc
    (length_from_no_degree c.in_ok-disc.disc (sym c.degree.ensures ∙ c.in_default.is)) in
    record {
      pres = c.in_ok-fin.fin;
      equation = c.in_ok-fin.ensures.equation;
      zero = sym c.in_ok-disc.ensures.value ∙ ap (value k) none ∙ value_nil k;
    }

pub overflow_mul-inf_degree : goal.overflow_mul-inf_degree
overflow_mul-inf_degree g c =
    let small = number_small c.in_ok-fin.fin c.infinity_number-c.result c.infinity_number-c.ensures
    c.in_ok-fin.ensures.short in
    let h = small_product c.infinity_number-c.result c.n.result c.n.result small
    (omega (arith, c.n.ensures.n, c.n.ensures.range.at_most_four))
    (omega (arith, c.n.ensures.n, c.n.ensures.range.at_most_four)) in
    omega (arith, h.0)

pub overflow_mul-inf_degree-2 : goal.overflow_mul-inf_degree-2
overflow_mul-inf_degree-2 g c =
    let small = number_small c.in_ok-fin.fin c.infinity_number-c.result c.infinity_number-c.ensures
    c.in_ok-fin.ensures.short in
    let h = small_product c.infinity_number-c.result c.n.result c.n-2.result small
    (omega (arith, c.n.ensures.n, c.n.ensures.range.at_most_four))
    (omega (arith, c.n-2.ensures.n, c.n.ensures.range.at_most_four)) in
    omega (arith, h.1)

pub overflow_cast-result : goal.overflow_cast-result
overflow_cast-result g c =
    let small = number_small c.in_ok-fin.fin c.infinity_number-c.result c.infinity_number-c.ensures
    c.in_ok-fin.ensures.short in
    let h = small_product c.infinity_number-c.result c.n.result c.n-2.result small
    (omega (arith, c.n.ensures.n, c.n.ensures.range.at_most_four))
    (omega (arith, c.n-2.ensures.n, c.n.ensures.range.at_most_four)) in
    omega (arith, h.1)

pub returns-clause-ok : goal.returns-clause-ok
returns-clause-ok g c =
    let k = g.K.SmallField.field c.args.k.now in
    let p = c.in_ok-fin.fin in
    let q = c.in_ok-inf.inf in
    let f = c.in_ok-fin.ensures.equation in
    let long : length c.in_ok-disc.disc ≡ suc c.in-Some.degree = length_from_degree c.in_ok-disc.disc c.in-Some.degree
    (sym c.degree.ensures ∙ c.in-Some.is) in
    let same : c.infinity_number-c.result * p.n * (p.n - 1)
    ≡ c.infinity_number-c.result * c.n.result * (c.n-2.result - 1) = ap₂
    (λ a b. c.infinity_number-c.result * a * (b - 1)) (sym c.n.ensures.n) (sym c.n-2.ensures.n) in
    let at_most : c.infinity_number-c.result * p.n * (p.n - 1) ≤ 224 = omega
    (arith, same, c.if-inf_degree-gt-MAX_INF.false) in
    record {
      equation = f;
      curve = record {
        at_least_two = omega (arith, f.equation.degree, f.small.0.0);
        at_most_four = omega (arith, f.equation.degree, f.small.0.1);
        fin_over = c.in_ok-fin.ensures.over;
        fin_poly = All-from_get_or IsPoly p.coeffs []
            (λ i less. (f.equation.coefficients i (omega (arith, f.equation.one_each))).poly);
        disc = c.in_ok-disc.ensures;
        separable = λ none. let e : length c.in_ok-disc.disc ≡ 0 = ap length none in omega (arith, e, long);
        disc_degree = omega (arith, long);
        infinite = infinite_is k p c.infinity_number-c.result q c.infinity_number-c.ensures c.in_ok-inf.ensures.degree
            c.in_ok-inf.ensures.one_each c.in_ok-inf.ensures.coefficients f.equation.one_each;
        inf_over = infinite_over k p c.infinity_number-c.result q c.infinity_number-c.ensures c.in_ok-inf.ensures.degree
            c.in_ok-inf.ensures.one_each c.in_ok-inf.ensures.coefficients f.equation.one_each c.in_ok-fin.ensures.over;
        inf_poly = c.in_ok-inf.ensures.poly;
        disc_at_infinity = at_most;
      };
    }
