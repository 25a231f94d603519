use Rattle.std.proofs.Common.{◌≡◌, ℕ, List, sym, ap, ◌∙◌, subst}
use Rattle.std.specs.Prelude.{is_some}
use Rattle.std.specs.Map.{lookup}
use Rattle.ff_meaning.specs.Bindings.{IsNameOf}
use Rattle.ff_session.proofs.NameMaps.{test, found}
use Rattle.ff_session.proofs.names.Names.contains.Goals as goal

pub returns : goal.returns
returns c =
    let q = c.args.name.now in
    let es = c.self.inside.places.entries in
    let h = found q es in
    let is : c.contains_key.result ≡ is_some (lookup (test q) es)
    = c.contains_key.ensures
    ∙ ap (λ (r : List ℕ). is_some (lookup (test r) es)) (c.as_slice.ensures.value ∙ c.name.view_is) in (
      λ t. subst (IsNameOf q) c.self.view_is (h.0 (sym is ∙ t)),
      λ n. is ∙ h.1 (subst (IsNameOf q) (sym c.self.view_is) n),
    )
