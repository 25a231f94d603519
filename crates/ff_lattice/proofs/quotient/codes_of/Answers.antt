use Rattle.std.proofs.Common.{◌≡◌, ℕ, ◌*◌, List, length, max, sym, ap, ap₂, ◌∙◌, subst, All}
use Rattle.ff_poly.specs.Popov.{rows_of, longest, IsRow, IsPopovMatrix}
use Rattle.ff_lattice.specs.PositionLists.{codes_below}
use Rattle.ff_lattice.proofs.quotient.codes_of.Goals as goal

size_is : {v w : List (List ℕ)} {n : ℕ} → v ≡ w → length w ≡ n → length v ≡ n
size_is v_is w_size = ap length v_is ∙ w_size

pub read_codes-requires-clause-row_in : goal.read_codes-requires-clause-row_in
read_codes-requires-clause-row_in g c =
    let k = g.K.SmallField.field c.args.k.now in
    subst (λ m. IsRow k.ops m c.deref_mut.result.now)
    (sym (size_is c.deref_mut.ensures.value c.in_ok-row.ensures.row_in.size))
    (subst (IsRow k.ops c.args.p.now.n) (sym c.deref_mut.ensures.value) c.in_ok-row.ensures.row_in)

pub read_codes-requires-clause-order_in : goal.read_codes-requires-clause-order_in
read_codes-requires-clause-order_in g c =
    let k = g.K.SmallField.field c.args.k.now in
    subst (λ m. All (IsRow k.ops m) (rows_of c.rows.result.now))
    (sym (size_is c.deref_mut.ensures.value c.in_ok-row.ensures.row_in.size))
    (subst (All (IsRow k.ops c.args.p.now.n)) (sym c.rows.ensures.rows) c.requires.l_form.rows_in)

pub read_codes-requires-clause-order_popov : goal.read_codes-requires-clause-order_popov
read_codes-requires-clause-order_popov g c =
    subst (λ m. IsPopovMatrix m (rows_of c.rows.result.now))
    (sym (size_is c.deref_mut.ensures.value c.in_ok-row.ensures.row_in.size))
    (subst (IsPopovMatrix c.args.p.now.n) (sym c.rows.ensures.rows) c.requires.l_form.popov)

pub read_codes-requires-clause-ideal_in : goal.read_codes-requires-clause-ideal_in
read_codes-requires-clause-ideal_in g c =
    let k = g.K.SmallField.field c.args.k.now in
    subst (λ m. All (IsRow k.ops m) (rows_of c.args.rows.now))
    (sym (size_is c.deref_mut.ensures.value c.in_ok-row.ensures.row_in.size)) c.requires.rows_in

pub read_codes-requires-clause-ideal_popov : goal.read_codes-requires-clause-ideal_popov
read_codes-requires-clause-ideal_popov g c = subst (λ m. IsPopovMatrix m (rows_of c.args.rows.now))
    (sym (size_is c.deref_mut.ensures.value c.in_ok-row.ensures.row_in.size)) c.requires.rows_popov

pub returns : goal.returns
returns g c =
    let k = g.K.SmallField.field c.args.k.now in
    let rows = rows_of c.args.rows.now in
    let v = c.in_ok-row.row.items in
    record {
      row = v;
      row_is = c.in_ok-row.ensures;
      are =
          c.in_ok-codes.ensures
          ∙ ap₂ (λ v W. codes_below (length v) W rows k.ops (max c.args.depth (longest v) * length v) v)
          c.deref_mut.ensures.value c.rows.ensures.rows
          ∙ ap (λ m. codes_below m c.args.l.now.rows rows k.ops (max c.args.depth (longest v) * m) v)
          c.in_ok-row.ensures.row_in.size;
    }
