-- The rows of a statement that binds a place tell one refusal at most.
use Rattle.std.proofs.Common.{◌≡◌, ◌≢◌, ℕ, List, length, sym, ap, ◌∙◌, subst}
use Rattle.ff_fields.specs.Field.{CodeField}
use Rattle.function_field.specs.Curves.{CurveValue}
use Rattle.function_field.specs.Limits.{max_degree_of_places}
use Rattle.function_field.specs.PlaceLists.{AreAllPlacesAbove}
use Rattle.place_lists_theory.proofs.OneList.{one_list}
use Rattle.ff_script.specs.declared.script.Over.{Over}
use Rattle.ff_meaning.specs.declared.refusal.Refusal.{Refusal}
use Rattle.ff_meaning.specs.declared.refusal.Refusal.TheVariants.{NoSuchPlace, Memory}
use Rattle.ff_meaning.specs.Bindings.{Bound}
use Rattle.ff_meaning.specs.Refusals.{IsNoPlace, IsPlaceRow}
use Rattle.ff_meaning.specs.Refusals as rows
use Rattle.ff_meaning.proofs.BaseRows.{one_base, one_base_row, base_some}

module _ (k : CodeField) (c : CurveValue) (over : Over) where
  -- all places are as many in either list
  same_count : (index : ℕ) (r t : Refusal) (h : IsNoPlace k c over index r) (g : IsNoPlace k c over index t)
      → length h.places ≡ length g.places
  same_count index r t h g =
      let same = one_base k.ops over h.side g.side h.p g.p h.base g.base in
      let all : AreAllPlacesAbove k c g.side g.p h.places
      = subst (λ p. AreAllPlacesAbove k c g.side p h.places) same.1
      (subst (λ s. AreAllPlacesAbove k c s h.p h.places) same.0 h.all) in
      (one_list k c h.curve g.side g.p h.places g.places all g.all).equally_long

  one_no_place : (index : ℕ) (r t : Refusal) → IsNoPlace k c over index r → IsNoPlace k c over index t → r ≡ t
  one_no_place index r t h g = h.is ∙ ap (NoSuchPlace index) (same_count index r t h g) ∙ sym g.is

module _ (k : CodeField) (b : Bound) (name : List ℕ) (over : Over) (index : ℕ) where
  pub one_place_row : (r t : Refusal) → IsPlaceRow k b name over index r → IsPlaceRow k b name over index t → r ≡ t
  one_place_row r t (rows.taken bound is) (rows.taken bound' is') = is ∙ sym is'
  one_place_row r t (rows.taken bound is) (rows.base free row) = absurd (free bound)
  one_place_row r t (rows.taken bound is) (rows.none free no_row row) = absurd (free bound)
  one_place_row r t (rows.base free row) (rows.taken bound is) = absurd (free bound)
  one_place_row r t (rows.base free row) (rows.base free' row') =
      one_base_row k b.curve.fin.n max_degree_of_places over r t row row'
  one_place_row r t (rows.base free row) (rows.none free' no_row row') = absurd (no_row r row)
  one_place_row r t (rows.none free no_row row) (rows.taken bound is) = absurd (free bound)
  one_place_row r t (rows.none free no_row row) (rows.base free' row') = absurd (no_row t row')
  one_place_row r t (rows.none free no_row row) (rows.none free' no_row' row') =
      one_no_place k b.curve over index r t row row'

  pub place_some : (r : Refusal) → IsPlaceRow k b name over index r → r ≢ Memory
  place_some r (rows.taken bound is) m = absurd cc
  place_some r (rows.base free row) m = base_some k.ops b.curve.fin.n max_degree_of_places over r row m
  place_some r (rows.none free no_row row) m = let is = row.is in absurd cc
