-- What an answer promises, said in other words.
use Rattle.std.proofs.Common.{◌↔◌, Ok, Err}
use Rattle.std.specs.Prelude.{Result, IfOk, OnErr}
use Rattle.ff_fields.specs.Field.{CodeField}
use Rattle.function_field.specs.Values.{PresValue, Functions}
use Rattle.ff_lattice.specs.Lattices.{LatticeValue, Contains}

-- the members of the answer are those of one set, so those of another that is the same
pub members_through : {E : Type 0} (k : CodeField) (p : PresValue) (r : Result LatticeValue E)
    {A B : Functions k p → Type 0} → ((z : Functions k p) → A z ↔ B z)
    → IfOk r (λ l. (z : Functions k p) → Contains k p l z ↔ A z)
    → IfOk r (λ l. (z : Functions k p) → Contains k p l z ↔ B z)
members_through k p (Ok l) same h = λ z. (λ x. (same z).0 ((h z).0 x), λ y. (h z).1 ((same z).1 y))
members_through k p (Err e) same h = h

-- what follows from the promise on an answer
pub ok_through : {X E : Type 0} (r : Result X E) {P Q : X → Type 0} → ((x : X) → P x → Q x) → IfOk r P → IfOk r Q
ok_through (Ok x) f h = f x h
ok_through (Err e) f h = h

-- what follows from two promises on an answer
pub ok_from_both : {X E : Type 0} (r : Result X E) {P Q T : X → Type 0} → ((x : X) → P x → Q x → T x) → IfOk r P
    → IfOk r Q → IfOk r T
ok_from_both (Ok x) f h g = f x h g
ok_from_both (Err e) f h g = h

-- what holds anyway holds after an error
pub on_err_anyway : {X E : Type 0} (r : Result X E) (P : Type 0) → P → OnErr r P
on_err_anyway (Ok x) P h = tt
on_err_anyway (Err e) P h = h
