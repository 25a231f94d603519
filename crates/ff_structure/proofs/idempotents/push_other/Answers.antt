use Rattle.std.proofs.Common.{◌≡◌, ◌≢◌, inl, rules, [], ◌∷◌, ◌++◌, ap, ◌∙◌}
use Rattle.std.proofs.lemmas.List.{map-append}
use Rattle.ff_falg.specs.Idempotents.{elements_of}
use Rattle.ff_structure.proofs.idempotents.push_other.Goals as goal

pub returns : goal.returns
returns c =
    let m : c.args.e.now ≢ c.args.u.now = search rules in
    let n : c.args.e.now ≢ c.args.v.now = search rules in
    inl (
      ap elements_of c.in_ok-push.ensures.items
          ∙ map-append (λ w. w.items) c.args.kept.now.items (c.in_ok-to_vec.field-0 ∷ [])
          ∙ ap (λ y. elements_of c.args.kept.now.items ++ y ∷ [])
          (c.in_ok-to_vec.ensures.items_if_clones_equal (λ x y e. e)),
      m,
      n,
    )
