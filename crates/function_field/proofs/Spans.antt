-- A span is the set of combinations with listed coefficients.
use Rattle.std.proofs.Common.{◌≡◌, List, [], ◌∷◌, length, refl, ◌∙◌, ap, arith, ◌↔◌, All}
use Rattle.std.proofs.lemmas.List.Elements.{All-nil, All-cons, All-head, All-tail}
use Rattle.ring_lemmas.specs.Ring.{Operations}
use Rattle.ring_theory.specs.Subsets.{Span}
use Rattle.function_field.specs.Spans.{combination, InSpanByList}

module _ {E : Type 0} (F : Operations E) (R : E → Type 0) where
  to_list : (gs : List E) (z : E) → Span F R gs z → InSpanByList F R gs z
  to_list [] z h = record { coefficients = []; one_each = refl; in_ring = All-nil R; value = h }
  to_list (g ∷ gs) z h =
      let rest = to_list gs h.rest h.rest_in in
      record {
        coefficients = h.scalar ∷ rest.coefficients;
        one_each = omega (arith, rest.one_each);
        in_ring = All-cons R h.scalar rest.coefficients h.scalar_in rest.in_ring;
        value = h.is ∙ ap (F.◌⊕◌ (F.◌⊗◌ h.scalar g)) rest.value;
      }

  from_list : (gs rs : List E) (z : E) → length rs ≡ length gs → All R rs → z ≡ combination F rs gs → Span F R gs z
  from_list [] [] z e h v = v
  from_list [] (r ∷ rs) z e h v = absurd (omega arith)
  from_list (g ∷ gs) [] z e h v = absurd (omega arith)
  from_list (g ∷ gs) (r ∷ rs) z e hs v = record {
    scalar = r;
    scalar_in = All-head R r rs hs;
    rest = combination F rs gs;
    rest_in = from_list gs rs (combination F rs gs) (omega arith) (All-tail R r rs hs) refl;
    is = v;
  }

  pub span_list : (gs : List E) (z : E) → Span F R gs z ↔ InSpanByList F R gs z
  span_list gs z = (to_list gs z, λ h. from_list gs h.coefficients z h.one_each h.in_ring h.value)
