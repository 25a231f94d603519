-- The theorems of `Places`.
use Rattle.std.proofs.Common.{suc}
use Rattle.ring_theory.proofs.Subsets.{span_members}
use Rattle.std.proofs.lemmas.List.Elements.{All-weaker}
use Rattle.ring_theory.specs.Subsets.{Span}
use Rattle.prime_theory.proofs.Places.{value_of_place, place_of_value, value_of_place_minus, place_minus_of_value}
use Rattle.prime_theory.proofs.place_values_law.Goals as goal

pub returns-clause-above : goal.returns-clause-above
returns-clause-above g c = λ R p 𝓢 𝓝 𝓞 base 𝓑 whole locally 𝓟 p_in t 𝓜 to from z m. (
  value_of_place R g.S.Subset.members 𝓢 g.N.Subset.members p 𝓝 g.O.Subset.members 𝓞 base g.B.Subset.members 𝓑 whole
      locally g.P.Subset.members 𝓟 p_in t g.M.Subset.members 𝓜 to from z m,
  place_of_value R g.S.Subset.members 𝓢 g.N.Subset.members p 𝓝 g.O.Subset.members 𝓞 base g.B.Subset.members 𝓑 whole
      locally g.P.Subset.members 𝓟 p_in t g.M.Subset.members 𝓜 to from z m,
)

pub returns-clause-below : goal.returns-clause-below
returns-clause-below g c = λ R p 𝓢 𝓝 𝓞 base 𝓑 whole locally 𝓟 p_in t 𝓜 to from gens spanned z m. (
  value_of_place_minus R g.S.Subset.members 𝓢 g.N.Subset.members p 𝓝 g.O.Subset.members 𝓞 base g.B.Subset.members 𝓑
      whole locally g.P.Subset.members 𝓟 p_in t g.M.Subset.members 𝓜 to from z (suc m),
  place_minus_of_value R g.S.Subset.members 𝓢 g.N.Subset.members p 𝓝 g.O.Subset.members 𝓞 base g.B.Subset.members 𝓑
      whole locally g.P.Subset.members 𝓟 p_in t g.M.Subset.members 𝓜 to from gens
      (All-weaker (Span R.ops g.B.Subset.members gens) g.M.Subset.members (λ b. (spanned b).1) gens
      (span_members R g.B.Subset.members 𝓑 gens)) (λ b. (spanned b).0) z (suc m),
)
