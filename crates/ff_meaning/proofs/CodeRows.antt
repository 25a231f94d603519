-- Codes that are too great.
use Rattle.std.proofs.Common.{◌≡◌, ◌≢◌, ℕ, List, sym, ap, ◌∙◌}
use Rattle.ff_fields.specs.Field.{FieldOps}
use Rattle.ff_meaning.specs.declared.refusal.Refusal.{Refusal}
use Rattle.ff_meaning.specs.declared.refusal.Refusal.TheVariants.{CodeRange, Memory}
use Rattle.ff_meaning.specs.Meaning.{AreCodesBelow}
use Rattle.ff_meaning.specs.Refusals.{IsCodeRow}
use Rattle.ff_meaning.proofs.ElementValues.{none_found}

pub same_code : (q : ℕ) (codes : List ℕ) (r t : Refusal) → IsCodeRow q codes r → IsCodeRow q codes t → r ≡ t
same_code q codes r t h g =
    let first = h.1 in
    let second = g.1 in
    let same : h.0 ≡ g.0 = cc in
    h.2 ∙ ap CodeRange same ∙ sym g.2

pub no_code : (k : FieldOps) (codes : List ℕ) (r : Refusal) → AreCodesBelow k.size codes → IsCodeRow k.size codes r → ⊥
no_code k codes r below h =
    let none = none_found k k.size codes below in
    let found = h.1 in
    absurd cc

pub code_some : (q : ℕ) (codes : List ℕ) (r : Refusal) → IsCodeRow q codes r → r ≢ Memory
code_some q codes r h m = let is = h.2 in absurd cc
