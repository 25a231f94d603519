use Rattle.std.proofs.Common.{◌≡◌, ◌≤◌, ◌*◌, IfOk, vec_len, arith, refl, sym, ap, ap₂, ◌∙◌, length, subst}
use Rattle.std.proofs.lemmas.List.{length-map}
use Rattle.ff_fields.specs.Over.{IsOver}
use Rattle.linear_theory.specs.Module.{combination}
use Rattle.ff_linalg.specs.Space.{row_ops}
use Rattle.ff_falg.specs.Idempotents.{elements_of}
use Rattle.ff_structure.specs.Structures.{StructureValue, entry_products}
use Rattle.ff_structure.proofs.Entries.{length_entries, entries_in}
use Rattle.ff_structure.proofs.structure.StructureFiniteAlgebra.mul.Goals as goal

pub combined-requires-clause-within : goal.combined-requires-clause-within
combined-requires-clause-within g c =
    let k = g.K.SmallField.field c.args.k.now in
    let e : length c.as_slice.result.now ≡ length c.deref.result.now
    = ap length (c.as_slice.ensures.value ∙ c.in_ok-factors.ensures)
    ∙ length_entries k.ops c.args.a.now c.args.b.now
    ∙ ap₂ (λ m n. m * n) c.requires.a_in.size c.requires.b_in.size
    ∙ sym c.requires.over.count
    ∙ sym (ap (λ (s : StructureValue). length s.table) c.self.view_is)
    ∙ length-map c.self.inside.table.items (λ v. v.items) ∙ ap length (sym c.deref.ensures.value) in
    omega arith

pub combined-requires-clause-factors_in : goal.combined-requires-clause-factors_in
combined-requires-clause-factors_in g c =
    let k = g.K.SmallField.field c.args.k.now in
    subst (IsOver k.ops) (sym (c.as_slice.ensures.value ∙ c.in_ok-factors.ensures))
    (entries_in k c.args.a.now c.args.b.now c.requires.a_in.over c.requires.b_in.over)

pub returns : goal.returns
returns g c =
    let k = (g.K.SmallField.field c.args.k.now).ops in
    let size : vec_len c.self.inside.one ≡ length c.self.inside.one.items = omega arith in
    let n_is = c.len.ensures ∙ size ∙ ap (λ (s : StructureValue). length s.one) c.self.view_is in
    let factors_are = c.as_slice.ensures.value ∙ c.in_ok-factors.ensures in
    let table_is = ap elements_of c.deref.ensures.value ∙ ap (λ (s : StructureValue). s.table) c.self.view_is in
    subst (λ y. IfOk c.combined.result (λ v. v.items ≡ y))
    (ap (λ n. combination (row_ops k n) c.as_slice.result.now (elements_of c.deref.result.now)) n_is
    ∙ ap (λ xs. combination (row_ops k (length c.args.self.now.one)) xs (elements_of c.deref.result.now)) factors_are
    ∙ ap (combination (row_ops k (length c.args.self.now.one)) (entry_products k c.args.a.now c.args.b.now)) table_is)
    c.combined.ensures
