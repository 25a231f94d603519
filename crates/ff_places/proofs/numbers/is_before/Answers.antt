use Rattle.std.proofs.Common.{◌≡◌, ◌<◌, ◌↔◌, ℕ, IsTrue, nat_lt, min, length, sym, ap, ◌∙◌, subst, refl, arith}
use Rattle.std.specs.Global.{Vec}
use Rattle.std.proofs.lemmas.List.{length-map}
use Rattle.ff_falg.specs.Idempotents.{elements_of}
use Rattle.ff_written.specs.TextOrder.{IsBeforeText, IsBeforeTexts}
use Rattle.ff_written.proofs.TextOrder.{same_at, not_so, texts_more, texts_before, texts_after, texts_end}
use Rattle.ff_places.proofs.WrittenTexts.{vectors_at}
use Rattle.ff_places.proofs.numbers.is_before.Goals as goal

pub returns-then-is_before_text : goal.returns-then-is_before_text
returns-then-is_before_text c =
    let i = c.loop-i.i in
    let x = c.index-a-i.result in
    let y = c.index-b-i.result in
    let l : i < length c.args.a.now = omega (arith, c.min-end.ensures) in
    let m : i < length c.args.b.now = omega (arith, c.min-end.ensures) in
    let b : IsBeforeText x.items y.items = subst (λ t. IsBeforeText t y.items) c.as_slice.ensures.value
    (subst (IsBeforeText c.as_slice.result.now) c.as_slice-in-loop-i.ensures.value
    (c.if-is_before_text.ensures.0 refl)) in
    texts_before (elements_of c.args.a.now) (elements_of c.args.b.now) i c.loop-i.invariant x.items y.items
    (vectors_at c.args.a.now i x l c.index-a-i.is) (vectors_at c.args.b.now i y m c.index-b-i.is) b

pub returns-then-is_before_text-2 : goal.returns-then-is_before_text-2
returns-then-is_before_text-2 c =
    let i = c.loop-i.i in
    let x = c.index-a-i-in-loop-i.result in
    let y = c.index-b-i-in-loop-i.result in
    let l : i < length c.args.a.now = omega (arith, c.min-end.ensures) in
    let m : i < length c.args.b.now = omega (arith, c.min-end.ensures) in
    let b : IsBeforeText y.items x.items = subst (λ t. IsBeforeText t x.items) c.as_slice-in-loop-i-2.ensures.value
    (subst (IsBeforeText c.as_slice-in-loop-i-2.result.now) c.as_slice-in-loop-i-3.ensures.value
    (c.if-is_before_text-2.ensures.0 refl)) in
    texts_after (elements_of c.args.a.now) (elements_of c.args.b.now) i c.loop-i.invariant x.items y.items
    (vectors_at c.args.a.now i x l c.index-a-i-in-loop-i.is) (vectors_at c.args.b.now i y m c.index-b-i-in-loop-i.is) b

pub loop-i-preserved : goal.loop-i-preserved
loop-i-preserved c =
    let i = c.loop-i.i in
    let x = c.index-a-i.result in
    let y = c.index-b-i.result in
    let x' = c.index-a-i-in-loop-i.result in
    let y' = c.index-b-i-in-loop-i.result in
    let l : i < length c.args.a.now = omega (arith, c.min-end.ensures) in
    let m : i < length c.args.b.now = omega (arith, c.min-end.ensures) in
    let x_is : x' ≡ x = same_at c.args.a.now i x' x l c.index-a-i-in-loop-i.is c.index-a-i.is in
    let y_is : y' ≡ y = same_at c.args.b.now i y' y m c.index-b-i-in-loop-i.is c.index-b-i.is in
    texts_more (elements_of c.args.a.now) (elements_of c.args.b.now) i c.loop-i.invariant x.items y.items
    (vectors_at c.args.a.now i x l c.index-a-i.is) (vectors_at c.args.b.now i y m c.index-b-i.is)
    (λ b. absurd (not_so (c.if-is_before_text.ensures.1
    (subst (λ t. IsBeforeText t c.as_slice-in-loop-i.result.now) (sym c.as_slice.ensures.value)
    (subst (IsBeforeText x.items) (sym c.as_slice-in-loop-i.ensures.value) b)))))
    (λ b. absurd (not_so (c.if-is_before_text-2.ensures.1
    (subst (λ t. IsBeforeText t c.as_slice-in-loop-i-3.result.now)
    (sym (c.as_slice-in-loop-i-2.ensures.value ∙ ap (λ (v : Vec ℕ). v.items) y_is))
    (subst (IsBeforeText y.items) (sym (c.as_slice-in-loop-i-3.ensures.value ∙ ap (λ (v : Vec ℕ). v.items) x_is)) b)))))

pub returns : goal.returns
returns c =
    let xs = elements_of c.args.a.now in
    let ys = elements_of c.args.b.now in
    let s = length-map c.args.a.now (λ (v : Vec ℕ). v.items) in
    let t = length-map c.args.b.now (λ (v : Vec ℕ). v.items) in
    let end : c.loop-i.i ≡ min (length xs) (length ys) = omega (arith, s, t, c.min-end.ensures) in
    subst (λ n. IsTrue (nat_lt n (length c.args.b.now)) ↔ IsBeforeTexts xs ys) s
    (subst (λ n. IsTrue (nat_lt (length xs) n) ↔ IsBeforeTexts xs ys) t
    (texts_end xs ys c.loop-i.i c.loop-i.invariant end))
