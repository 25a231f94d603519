-- Simple transformations one after another.
use Rattle.std.proofs.Common.{◌≡◌, ℕ, ◌+◌, ◌<◌, ◌≤◌, List, length, sym, arith, subst}
use Rattle.std.specs.Prelude.{All}
use Rattle.std.specs.Global.{Vec}
use Rattle.std.proofs.lemmas.List.{length-map}
use Rattle.ff_fields.specs.Field.{CodeField}
use Rattle.ff_poly.specs.Popov.{rows_of, width_of, IsRow}
use Rattle.ff_popov.specs.Rows.{Keeps, total_position}
use Rattle.ff_popov.proofs.Transformations.{width_is, keeps_trans}

module _ (k : CodeField) (w i : ℕ) (old mid : List (Vec (List ℕ))) (h : Keeps k w (rows_of old) (rows_of mid))
    (i_in : i < length old) where
  -- the width is that of the rows at any time
  pub same_width : width_of (rows_of mid) ≡ w
  same_width = width_is k.ops w i (rows_of mid) h.rows (omega (arith, h.count, length-map old (λ v. v.items), i_in))

  pub mid_rows : All (IsRow k.ops (width_of (rows_of mid))) (rows_of mid)
  mid_rows = subst (λ n. All (IsRow k.ops n) (rows_of mid)) (sym same_width) h.rows

  pub chained : (new : List (List (List ℕ))) → Keeps k (width_of (rows_of mid)) (rows_of mid) new
      → Keeps k w (rows_of old) new
  chained new h' = keeps_trans k w (rows_of old) (rows_of mid) new h
      (subst (λ n. Keeps k n (rows_of mid) new) same_width h')

  pub chained_falls : (new : List (List (List ℕ)))
      → total_position (width_of (rows_of mid)) new < total_position (width_of (rows_of mid)) (rows_of mid)
      → total_position w new < total_position w (rows_of mid)
  chained_falls new less = subst (λ n. total_position n new < total_position n (rows_of mid)) same_width less

  pub chained_stays : (new : List (List (List ℕ)))
      → total_position (width_of (rows_of mid)) new ≤ total_position (width_of (rows_of mid)) (rows_of mid)
      → total_position w new ≤ total_position w (rows_of mid)
  chained_stays new le = subst (λ n. total_position n new ≤ total_position n (rows_of mid)) same_width le

  pub chained_steps : (new : List (List (List ℕ))) (before after : ℕ)
      → after + total_position (width_of (rows_of mid)) new ≤ before
      + total_position (width_of (rows_of mid)) (rows_of mid)
      → after + total_position w new ≤ before + total_position w (rows_of mid)
  chained_steps new before after le = subst
      (λ n. after + total_position n new ≤ before + total_position n (rows_of mid)) same_width le
