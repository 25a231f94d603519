-- The theorems of `PlacesOver`.
use Rattle.std.proofs.Common.{refl}
use Rattle.function_field.specs.Values.{setting, equation_of}
use Rattle.function_field.proofs.ScalarRings.{scalars_subring}
use Rattle.places_theory.proofs.PlacesOver.{place_of, place_of_is_place, place_of_members, same_by_order}
use Rattle.places_theory.proofs.PlacesComplete.{place_in_system}
use Rattle.places_theory.proofs.places_over_law.Goals as goal

pub returns-clause-place : goal.returns-clause-place
returns-clause-place g c = λ s p rows gens order 𝓟 p_in scalar spanned all. (
  place_of (setting g.C.LocalOrder.field g.C.LocalOrder.presentation)
      (scalars_subring (equation_of g.C.LocalOrder.field g.C.LocalOrder.presentation)) s g.C.LocalOrder.base
      g.C.LocalOrder.prime_to p g.C.LocalOrder.members order g.C.LocalOrder.prime 𝓟 p_in scalar rows gens spanned all,
  refl,
  place_of_is_place (setting g.C.LocalOrder.field g.C.LocalOrder.presentation)
      (scalars_subring (equation_of g.C.LocalOrder.field g.C.LocalOrder.presentation)) s g.C.LocalOrder.base
      g.C.LocalOrder.prime_to p g.C.LocalOrder.members order g.C.LocalOrder.prime 𝓟 p_in scalar rows gens spanned all,
  place_of_members (setting g.C.LocalOrder.field g.C.LocalOrder.presentation)
      (scalars_subring (equation_of g.C.LocalOrder.field g.C.LocalOrder.presentation)) s g.C.LocalOrder.base
      g.C.LocalOrder.prime_to p g.C.LocalOrder.members order g.C.LocalOrder.prime 𝓟 p_in scalar rows gens spanned all,
)

pub returns-clause-once : goal.returns-clause-once
returns-clause-once g c = λ P Q p. same_by_order (setting g.C.LocalOrder.field g.C.LocalOrder.presentation)
    (scalars_subring (equation_of g.C.LocalOrder.field g.C.LocalOrder.presentation)) P Q g.C.LocalOrder.base
    g.C.LocalOrder.prime_to p g.C.LocalOrder.members

pub returns-clause-every : goal.returns-clause-every
returns-clause-every g c = λ p places is over fam sys P o sides. place_in_system
    (setting g.C.LocalOrder.field g.C.LocalOrder.presentation)
    (scalars_subring (equation_of g.C.LocalOrder.field g.C.LocalOrder.presentation)) P g.C.LocalOrder.base
    g.C.LocalOrder.prime_to p g.C.LocalOrder.members o _ places over sides fam is sys
