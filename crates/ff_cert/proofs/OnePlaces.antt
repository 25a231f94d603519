-- All places over what is written are printed in one way, and the place of a number is one.
use Rattle.std.proofs.Common.{◌≡◌, ℕ, List, length, map, get_or, sym, ap, ◌∙◌, subst, All}
use Rattle.std.specs.List.{Any}
use Rattle.ff_fields.specs.Field.{CodeField}
use Rattle.ff_fields.specs.FieldData.{FieldData}
use Rattle.function_field.specs.declared.side.Side.{Side}
use Rattle.function_field.specs.Places.{IsSamePlace}
use Rattle.function_field.specs.Values.{Functions, setting}
use Rattle.function_field.specs.Curves.{CurveValue, IsCurve}
use Rattle.function_field.specs.PlaceLists.{ListedPlace, listed_place, ListSamePlaces}
use Rattle.place_lists_theory.proofs.OneList.{one_list}
use Rattle.ff_script.specs.declared.script.Over.{Over}
use Rattle.ff_meaning.specs.Bindings.{Bindings, Bound}
use Rattle.ff_meaning.proofs.BaseRows.{one_base}
use Rattle.ff_cert.specs.declared.answer.PlaceLines.{PlaceLines}
use Rattle.ff_cert.specs.RowPlaces.{listed, ArePrintedRows, AreAllPlaces}
use Rattle.ff_cert.specs.RowPlaces as places_row
use Rattle.ff_cert.specs.RowNamedPlace.{IsPlaceOfLines}
use Rattle.ff_cert.specs.RowNamedPlace as named_place_row
use Rattle.ff_cert.proofs.OneLattice.{one_printed, one_place}
use Rattle.ff_cert.proofs.AscendingPlaces.{any_from_map, all_from_map, IsAlike, one_ascending, one_member}

module _ (k : CodeField) (c : CurveValue) (curve : IsCurve k c) (s : Side) where
  abbrev Z : PlaceLines → ListedPlace (Functions k c.fin) → Type 0
  Z P Q =
      IsSamePlace (setting k c.fin) (listed_place k c s (listed k c s P)) (listed_place k c s Q) × (P.e ≡ Q.e)
      × (P.degree ≡ Q.degree)

  alike_each : (Ps Qs : List PlaceLines) → All (λ P. ArePrintedRows k c s P.rows) Ps
      → All (λ P. ArePrintedRows k c s P.rows) Qs
      → ListSamePlaces k c s (map (listed k c s) Ps) (map (listed k c s) Qs) → All (λ P. Any (IsAlike P) Qs) Ps
  alike_each Ps Qs h g same i d less =
      let P = get_or Ps i d in
      let each =
      all_from_map (listed k c s)
      (λ (P : ListedPlace (Functions k c.fin)). Any (λ (Q : ListedPlace (Functions k c.fin)).
      IsSamePlace (setting k c.fin) (listed_place k c s P) (listed_place k c s Q) × (P.e ≡ Q.e)
      × (P.degree ≡ Q.degree)) (map (listed k c s) Qs)) Ps same.each i d less in
      let t = any_from_map (listed k c s) (Z P) Qs each in
      let printed = subst (λ (Q : PlaceLines). ArePrintedRows k c s Q.rows) t.3 (g t.0 t.1 t.2) in
      (t.0, t.1, t.2, t.3, (one_printed k c curve s P.rows t.1.rows (h i d less) printed t.4.0, t.4.1, t.4.2))

  pub one_places : (p : List ℕ) (Ps Qs : List PlaceLines) → AreAllPlaces k c s p Ps → AreAllPlaces k c s p Qs → Ps ≡ Qs
  one_places p Ps Qs h g =
      let to = one_list k c curve s p (map (listed k c s) Ps) (map (listed k c s) Qs) h.all g.all in
      let from = one_list k c curve s p (map (listed k c s) Qs) (map (listed k c s) Ps) g.all h.all in
      one_ascending 1 Ps Qs h.ascending g.ascending (alike_each Ps Qs h.printed g.printed to)
      (alike_each Qs Ps g.printed h.printed from) h.numbers g.numbers

module _ (k : CodeField) (c : CurveValue) (over : Over) where
  pub one_listing : (m n : ℕ) (Ps Qs : List PlaceLines) → places_row.IsTrue k c over m Ps
      → places_row.IsTrue k c over n Qs → (m ≡ n) × (Ps ≡ Qs)
  one_listing m n Ps Qs h g =
      let base = one_base k.ops over h.side g.side h.p g.p h.base g.base in
      let moved : AreAllPlaces k c g.side g.p Ps
      = subst (λ p. AreAllPlaces k c g.side p Ps) base.1 (subst (λ s. AreAllPlaces k c s h.p Ps) base.0 h.places) in
      let same = one_places k c h.curve g.side g.p Ps Qs moved g.places in
      (h.number ∙ ap length same ∙ sym g.number, same)

module _ (k : CodeField) (d e : FieldData) (b : Bound) (name : List ℕ) (over : Over) (index : ℕ) where
  -- one place is bound, and one is printed
  pub one_named : (P Q : PlaceLines) (next after : Bindings)
      (h : named_place_row.IsTrue k d b name over index P next)
      (g : named_place_row.IsTrue k e b name over index Q after) → (P ≡ Q) × (h.place ≡ g.place)
  one_named P Q next after h g =
      let base = one_base k.ops over h.all.side g.all.side h.all.p g.all.p h.all.base g.all.base in
      let lists = (one_listing k b.curve over h.count g.count h.places g.places h.all g.all).1 in
      let same =
      one_member 1 g.places P Q g.all.places.numbers (subst (Any (λ R. R ≡ P)) lists h.among) g.among
      (h.number ∙ sym g.number) in
      let moved : IsPlaceOfLines k b.curve g.all.side g.all.p Q h.place
      = subst (λ R. IsPlaceOfLines k b.curve g.all.side g.all.p R h.place) same
      (subst (λ p. IsPlaceOfLines k b.curve g.all.side p P h.place) base.1
      (subst (λ s. IsPlaceOfLines k b.curve s h.all.p P h.place) base.0 h.is_place)) in
      (same, one_place k b.curve h.all.curve g.all.side g.all.p Q h.place g.place moved g.is_place)
