-- The steps of the call that makes one simple transformation.
use Rattle.std.proofs.Common.{◌≡◌, ◌≢◌, ℕ, ◌<◌, ◌≤◌, ◌⊎◌, inl, inr, List, [], length, get_or, set, refl, sym, ap, ◌∙◌, arith, subst}
use Rattle.std.specs.Prelude.{All, swap}
use Rattle.std.specs.Global.{Vec}
use Rattle.std.proofs.lemmas.List.{length-map}
use Rattle.std.proofs.lemmas.List.Edits.{Swapped, swapped_from_swap, length-swap}
use Rattle.ff_fields.specs.Field.{CodeField}
use Rattle.ff_poly.specs.Popov.{rows_of, row_at, entry_at, IsRow, IsPivot}
use Rattle.ff_popov.specs.Rows.{IsCleared, IsClash, IsApartBelow, SameOrSwapped, Keeps, total_position}
use Rattle.ff_popov.proofs.Entries.{rows_swap, rows_set, read_row_of}
use Rattle.ff_popov.proofs.Positions.{cleared_falls}
use Rattle.ff_popov.proofs.Transformations.{row_in, keeps_refl, keeps_trans, keeps_less, keeps_swap, total_set, total_swap, apart_set, apart_swap}

module _ (k : CodeField) (w : ℕ) (old : List (Vec (List ℕ))) (i j column : ℕ) (i_in : i < length old)
    (rows_in : All (IsRow k.ops w) (rows_of old)) (pair : IsClash (rows_of old) i j column)
    (below : IsApartBelow i (rows_of old)) where
  -- after the rows were perhaps exchanged
  pub record Ordered (new : List (List (List ℕ))) : Type 0 where
    pub keeps : Keeps k w (rows_of old) new
    pub clash : IsClash new i j column
    pub apart : IsApartBelow i new
    pub total : total_position w new ≡ total_position w (rows_of old)

  size : length (rows_of old) ≡ length old
  size = length-map old (λ v. v.items)

  i_row : i < length (rows_of old)
  i_row = omega (arith, size, i_in)

  j_row : j < length (rows_of old)
  j_row = omega (arith, size, i_in, pair.before)

  swapped_clash : Swapped (λ n. row_at (rows_of old) n) (λ n. row_at (swap (rows_of old) i j) n) i j
      → IsClash (swap (rows_of old) i j) i j column
  swapped_clash s = record {
    before = pair.before;
    first = subst (λ r. IsPivot r column) (sym s.1) pair.second;
    second = subst (λ r. IsPivot r column) (sym s.0) pair.first;
  }

  pub ordered : (new : List (Vec (List ℕ))) → SameOrSwapped old i j new → Ordered (rows_of new)
  ordered new which = go which.which
    where
      same : Ordered (rows_of old)
      same = record { keeps = keeps_refl k w (rows_of old) rows_in; clash = pair; apart = below; total = refl }

      swapped : Ordered (swap (rows_of old) i j)
      swapped = record {
        keeps = keeps_swap k w (rows_of old) i j rows_in i_row j_row;
        clash = swapped_clash (swapped_from_swap (rows_of old) (swap (rows_of old) i j) i j [] i_row j_row refl);
        apart = apart_swap i j column (rows_of old) i_row pair below;
        total = total_swap w (rows_of old) i j i_row j_row;
      }

      go : (new ≡ old) ⊎ (new ≡ swap old i j) → Ordered (rows_of new)
      go (inl e) = subst Ordered (sym (ap rows_of e)) same
      go (inr e) = subst Ordered (sym (ap rows_of e ∙ rows_swap old i j)) swapped

  -- after the row was put in
  pub record Stepped (new : List (List (List ℕ))) : Type 0 where
    pub keeps : Keeps k w (rows_of old) new
    pub apart : IsApartBelow i new
    pub falls : total_position w new < total_position w (rows_of old)

  stepped_rows : (mid : List (List (List ℕ))) (row : List (List ℕ)) → Ordered mid
      → IsCleared k.ops (row_at mid i) (row_at mid j) column row → Stepped (set mid i row)
  stepped_rows mid row o cleared =
      let in_mid : i < length mid = omega (arith, o.keeps.count, i_row) in
      let j_in : j < length mid = omega (arith, in_mid, o.clash.before) in
      let differ : i ≢ j = omega (arith, o.clash.before) in
      record {
        keeps = keeps_trans k w (rows_of old) mid (set mid i row) o.keeps
            (keeps_less k w mid i j cleared.scalar cleared.power row o.keeps.rows in_mid j_in differ cleared.scalar_in
            cleared.is);
        apart = apart_set i i mid row (omega arith) o.apart;
        falls = omega (
          arith,
          total_set w mid i row in_mid
              (cleared_falls k.ops w column (row_at mid i) (row_at mid j) row
              (row_in k.ops w mid o.keeps.rows i in_mid).size o.clash.second cleared),
          o.total,
        );
      }

  pub stepped : (mid : List (Vec (List ℕ))) (row : Vec (List ℕ)) → SameOrSwapped old i j mid
      → IsCleared k.ops (row_at (rows_of mid) i) (row_at (rows_of mid) j) column row.items
      → Stepped (rows_of (set mid i row))
  stepped mid row which cleared = subst Stepped (sym (rows_set mid i row))
      (stepped_rows (rows_of mid) row.items (ordered mid which) cleared)

  pub mid_length : (mid : List (Vec (List ℕ))) → SameOrSwapped old i j mid → length mid ≡ length old
  mid_length mid which = go which.which
    where
      go : (mid ≡ old) ⊎ (mid ≡ swap old i j) → length mid ≡ length old
      go (inl e) = ap length e
      go (inr e) = ap length e ∙ length-swap old i j

  -- the rows that are read then
  module _ (mid : List (Vec (List ℕ))) (which : SameOrSwapped old i j mid) (u v : Vec (List ℕ)) (a b : List (List ℕ))
      (u_is : u ≡ get_or mid i u) (v_is : v ≡ get_or mid j v) (a_is : a ≡ u.items) (b_is : b ≡ v.items) where
    pub read_i : a ≡ row_at (rows_of mid) i
    read_i = read_row_of mid i u a (omega (arith, mid_length mid which, i_in)) u_is a_is

    pub read_j : b ≡ row_at (rows_of mid) j
    read_j = read_row_of mid j v b (omega (arith, mid_length mid which, i_in, pair.before)) v_is b_is

    i_row_in : IsRow k.ops w (row_at (rows_of mid) i)
    i_row_in = row_in k.ops w (rows_of mid) (ordered mid which).keeps.rows i
        (omega (arith, (ordered mid which).keeps.count, i_row))

    j_row_in : IsRow k.ops w (row_at (rows_of mid) j)
    j_row_in = row_in k.ops w (rows_of mid) (ordered mid which).keeps.rows j
        (omega (arith, (ordered mid which).keeps.count, j_row))

    pub a_row : IsRow k.ops (length a) a
    a_row = subst (λ r. IsRow k.ops (length r) r) (sym read_i)
        (subst (λ n. IsRow k.ops n (row_at (rows_of mid) i)) (sym i_row_in.size) i_row_in)

    pub b_row : IsRow k.ops (length a) b
    b_row = subst (λ r. IsRow k.ops (length a) r) (sym read_j)
        (subst (λ n. IsRow k.ops n (row_at (rows_of mid) j)) (sym (ap length read_i ∙ i_row_in.size)) j_row_in)

    pub a_pivot : IsPivot a column
    a_pivot = subst (λ r. IsPivot r column) (sym read_i) (ordered mid which).clash.second

    pub b_pivot : IsPivot b column
    b_pivot = subst (λ r. IsPivot r column) (sym read_j) (ordered mid which).clash.first

    pub longer : length (entry_at (row_at (rows_of mid) j) column) ≤ length (entry_at (row_at (rows_of mid) i) column)
        → length (entry_at b column) ≤ length (entry_at a column)
    longer le = omega (
      arith,
      le,
      ap (λ r. length (entry_at r column)) read_i,
      ap (λ r. length (entry_at r column))
          read_j,
    )

    pub stepped_from : (row : Vec (List ℕ)) → IsCleared k.ops a b column row.items → Stepped (rows_of (set mid i row))
    stepped_from row cleared =
        stepped mid row which
        (subst (λ r. IsCleared k.ops r (row_at (rows_of mid) j) column row.items) read_i
        (subst (λ r. IsCleared k.ops a r column row.items) read_j cleared))
