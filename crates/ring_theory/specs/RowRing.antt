-- The ring of the rows modulo f.
use Rattle.std.specs.Prelude.{ℕ, suc}
use Rattle.ring_lemmas.specs.Ring.{CommRing}
use Rattle.ring_lemmas.specs.Rows.{Row, row_ops}
use Rattle.ring_lemmas.proofs.Rows.{row_add_assoc, row_add_comm, row_add_neg, row_add_zero, row_mul_add, row_mul_assoc, row_mul_comm, row_mul_one, row_set}

module _ {P : Type 0} (S : CommRing P) (n : ℕ) (f : Row P (suc n)) where
  -- k[x][y] modulo f
  abbrev pub row_ring : CommRing (Row P (suc n))
  row_ring = record {
    ops = row_ops S n f;
    is_set = row_set S (suc n);
    add_assoc = row_add_assoc S (suc n);
    add_comm = row_add_comm S (suc n);
    add_zero = row_add_zero S (suc n);
    add_neg = row_add_neg S (suc n);
    mul_assoc = row_mul_assoc S n f;
    mul_comm = row_mul_comm S n f;
    mul_one = row_mul_one S n f;
    mul_add = row_mul_add S n f;
  }
