-- The written rows of a lattice, one after another: they stand for the functions of its rows, and are one list.
use Rattle.std.proofs.Common.{◌≡◌, ℕ, ◌+◌, ◌<◌, ◌≤◌, List, [], ◌∷◌, ◌++◌, length, map, take, refl, sym, ap₂, ◌∙◌, subst, Some}
use Rattle.std.specs.Prelude.{slice_get}
use Rattle.std.proofs.lemmas.List.{take_more}
use Rattle.std.proofs.lemmas.Option.{get_or_from_slice_get}
use Rattle.ff_fields.specs.Field.{CodeField}
use Rattle.function_field.specs.declared.side.Side.{Side}
use Rattle.function_field.specs.declared.side.Side.TheVariants.{Finite, Infinite}
use Rattle.function_field.specs.Values.{ElemValue, function_of}
use Rattle.function_field.specs.Infinity.{function_on}
use Rattle.function_field.specs.Curves.{CurveValue, IsCurve}
use Rattle.value_theory.specs.IntegralLattices.{presentation}
use Rattle.ff_text.specs.Printed.{WrittenValue}
use Rattle.ff_written.specs.LowestTerms.{IsWritten, elem_of}
use Rattle.ff_written.specs.Rows.{AreWrittenRows}
use Rattle.ff_written.proofs.OneWritten.{one_written}

-- both presentations have one degree
pub one_degree : (k : CodeField) (c : CurveValue) → IsCurve k c → (s : Side) → (presentation c s).n ≡ c.fin.n
one_degree k c h Finite = refl
one_degree k c h Infinite = h.infinite.degree

module _ (k : CodeField) (c : CurveValue) (s : Side) where
  pub written_functions : (rs : List ElemValue) (zs : List WrittenValue) → AreWrittenRows k c s rs zs
      → map (function_on k c.fin c.c s) rs ≡ map (λ (z : WrittenValue). function_of k c.fin (elem_of z)) zs
  written_functions [] zs h = rw h refl
  written_functions (r ∷ rs) [] h = absurd h
  written_functions (r ∷ rs) (z ∷ zs) h = ap₂ ◌∷◌ (sym h.0.same) (written_functions rs zs h.1)

  pub same_written : 1 ≤ c.fin.n → (rs : List ElemValue) (zs ws : List WrittenValue) → AreWrittenRows k c s rs zs
      → AreWrittenRows k c s rs ws → zs ≡ ws
  same_written some [] zs ws h g = h ∙ sym g
  same_written some (r ∷ rs) [] ws h g = absurd h
  same_written some (r ∷ rs) (z ∷ zs) [] h g = absurd g
  same_written some (r ∷ rs) (z ∷ zs) (w ∷ ws) h g =
      ap₂ ◌∷◌ (one_written k c.fin some (function_on k c.fin c.c s r) z w h.0 g.0) (same_written some rs zs ws h.1 g.1)

  rows_push : (rs : List ElemValue) (zs : List WrittenValue) (r : ElemValue) (z : WrittenValue)
      → AreWrittenRows k c s rs zs
      → IsWritten k c.fin (function_on k c.fin c.c s r) z → AreWrittenRows k c s (rs ++ r ∷ []) (zs ++ z ∷ [])
  rows_push [] zs r z h one = rw h (one, refl)
  rows_push (q ∷ rs) [] r z h one = absurd h
  rows_push (q ∷ rs) (w ∷ zs) r z h one = (h.0, rows_push rs zs r z h.1 one)

  pub rows_more : (rs : List ElemValue) (i : ℕ) (zs more : List WrittenValue) (r : ElemValue) (z : WrittenValue)
      → i < length rs → slice_get rs i ≡ Some r
      → AreWrittenRows k c s (take i rs) zs → IsWritten k c.fin (function_on k c.fin c.c s r) z
      → more ≡ zs ++ z ∷ []
      → AreWrittenRows k c s (take (i + 1) rs) more
  rows_more rs i zs more r z less at h one more_is =
      rw (take_more rs i r less, more_is)
      (subst (λ q. AreWrittenRows k c s (take i rs ++ q ∷ []) (zs ++ z ∷ []))
      (sym (get_or_from_slice_get rs i r r at)) (rows_push (take i rs) zs r z h one))
