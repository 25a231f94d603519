-- Over a subspace that a larger field of scalars leaves in itself, a space with a basis over the smaller field has one
-- over the larger.
use Rattle.std.proofs.Common.{◌≡◌, List, [], ◌∷◌, ◌++◌, length, All, sym, ◌∙◌, ap, subst, arith}
use Rattle.std.proofs.lemmas.List.Elements.{All-nil, All-cons, All-weaker}
use Rattle.linear_theory.specs.Fields.{Field}
use Rattle.linear_theory.specs.Module.{Module, combine, IsLinear}
use Rattle.linear_theory.specs.Basis.{IsBasis, IsNull, IsSubspace, IsIndependent, IsCombination}
use Rattle.linear_theory.proofs.Bases.{combine_in}
use Rattle.linear_theory.proofs.Spans.{combinations, rest_combination, more_combination, last_combination}
use Rattle.linear_theory.proofs.Dependence.{independent_more, decide_combination}
use Rattle.reduced_basis_theory.proofs.Layers.{block, All_of_combine}
use Rattle.reduced_basis_theory.proofs.ScalarTower.{products, combine_products, gather_products, tower_basis}

module _ {A B V : Type 0} (K : Field A) (L : Field B) (S : Module K.ring B) (M : Module K.ring V) (X : Module L.ring V)
    (sums : (u v : V) → M.◌⊞◌ u v ≡ X.◌⊞◌ u v) (zeros : M.𝟬 ≡ X.𝟬)
    (scale_linear : (w : V) → IsLinear S.ops M.ops (λ t. X.◌•◌ t w))
    (θ : List B) (θ_basis : IsBasis K.ring.ops S.ops (IsNull S.ops) (λ t. Unit {0}) θ) (null : S.𝟬 ≡ L.ring.𝟘)
    (U : V → Type 0) (small : IsSubspace M.ops U) (large : IsSubspace X.ops U)
    (vs : List V) (vs_basis : IsBasis K.ring.ops M.ops U (λ z. Unit {0}) vs) where
  abbrev times : List V → List V
  times ws = products X.◌•◌ θ ws

  -- combinations over the larger field are those of the products over the smaller one
  lift : (ws : List V) (v : V) → IsCombination M.ops U (times ws) v → IsCombination X.ops U ws v
  lift ws v h = record {
    coefficient = λ i. combine S.ops (block (λ i. length θ) h.coefficient i) θ;
    rest = h.rest;
    rest_in = h.rest_in;
    is =
        h.is ∙ sums _ _
        ∙ ap (λ x. X.◌⊞◌ x h.rest) (combine_products K L S M X sums zeros scale_linear θ θ_basis null ws h.coefficient);
  }

  lower : (ws : List V) (v : V) → IsCombination X.ops U ws v → IsCombination M.ops U (times ws) v
  lower ws v h =
      let g = gather_products K L S M X sums zeros scale_linear θ θ_basis null ws h.coefficient in
      record {
        coefficient = g.0;
        rest = h.rest;
        rest_in = h.rest_in;
        is = h.is ∙ ap (λ x. X.◌⊞◌ x h.rest) (sym g.1) ∙ sym (sums _ _);
      }

  own : (ws : List V) → All (IsCombination X.ops U ws) ws
  own ws =
      All_of_combine X (IsCombination X.ops U ws) ws (λ c.
      record { coefficient = c; rest = X.𝟬; rest_in = large.zero_in; is = sym (X.add_zero _) })

  products_free : (ws : List V) → IsIndependent L.ring.ops X.ops U ws → IsIndependent K.ring.ops M.ops U (times ws)
  products_free ws free =
      (tower_basis K L S M X sums zeros scale_linear θ θ_basis null U (IsCombination X.ops U ws)
      (combinations X U large ws) ws
      (record { members_in = own ws; spanning = λ v h. h; independent = free })).independent

  -- an independent list over the larger field, of which the members of a list are combinations
  record Chosen (us : List V) : Type 0 where
    members : List V
    independent : IsIndependent L.ring.ops X.ops U members
    spans : All (IsCombination X.ops U members) us

  choose : (us : List V) → Chosen us
  choose [] =
      record { members = []; independent = λ c m i l. absurd (omega arith); spans = All-nil (IsCombination X.ops U []) }
  choose (v ∷ us) = go (choose us)
    where
      go : Chosen us → Chosen (v ∷ us)
      go r =
          decide (decide_combination K M U small (λ z. Unit {0})
          (record { zero_in = tt; sum_in = λ u v a c. tt; scale_in = λ a v c. tt }) vs vs_basis
          (times r.members) (All_of_combine M (λ z. Unit {0}) (times r.members) (λ c. tt))
          (products_free r.members r.independent) v tt)
        where
          decide : Dec (IsCombination M.ops U (times r.members) v) → Chosen (v ∷ us)
          decide (yes h) =
              record {
                members = r.members;
                independent = r.independent;
                spans = All-cons (IsCombination X.ops U r.members) v us (lift r.members v h) r.spans;
              }
          decide (no none) = record {
            members = r.members ++ v ∷ [];
            independent = independent_more L X U large r.members v r.independent (λ h. none (lower r.members v h));
            spans =
                All-cons (IsCombination X.ops U (r.members ++ v ∷ [])) v us (last_combination X U large r.members v)
                (All-weaker (IsCombination X.ops U r.members) (IsCombination X.ops U (r.members ++ v ∷ []))
                (λ u h. more_combination X U large r.members (v ∷ []) u h) us r.spans);
          }

  -- the basis over the larger field
  pub scalar_basis : (ws : List V) × IsBasis L.ring.ops X.ops U (λ z. Unit {0}) ws
  scalar_basis = go (choose vs)
    where
      go : Chosen vs → (ws : List V) × IsBasis L.ring.ops X.ops U (λ z. Unit {0}) ws
      go r = (
        r.members,
        record {
          members_in = All_of_combine X (λ z. Unit {0}) r.members (λ c. tt);
          spanning = λ v h.
              let s = vs_basis.spanning v tt in
              let spaces = combinations M U small (times r.members) in
              lift r.members v
              (subst (IsCombination M.ops U (times r.members)) (sym s.is)
              (spaces.sum_in _ _
              (combine_in K M (IsCombination M.ops U (times r.members)) spaces s.coefficient vs
              (All-weaker (IsCombination X.ops U r.members) (IsCombination M.ops U (times r.members))
              (lower r.members) vs r.spans))
              (rest_combination M U small (times r.members) s.rest s.rest_in)));
          independent = r.independent;
        },
      )
