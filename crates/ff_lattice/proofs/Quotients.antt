-- Rows that are divided entry by entry.
use Rattle.std.proofs.Common.{◌≡◌, ℕ, ◌+◌, ◌<◌, List, [], ◌∷◌, ◌++◌, length, get_or, map, take, refl, sym, ◌∙◌, ap, ap₂, subst, arith, All}
use Rattle.std.specs.Global.{Vec}
use Rattle.std.proofs.lemmas.List.{length-map, take_more}
use Rattle.std.proofs.lemmas.List.Elements.{All-nil, All-cons, All-append}
use Rattle.ff_fields.specs.Field.{FieldOps}
use Rattle.ff_fields.specs.Over.{IsOver}
use Rattle.ff_poly.specs.Words.{IsPoly, product_of}
use Rattle.ff_poly.specs.Popov.{rows_of, IsRow, multiple_of_row}
use Rattle.ff_lattice.specs.Steps.{IsRowQuotient, IsQuotientOfRows}
use Rattle.ff_lattice.proofs.Pushes.{rows_push, read_row}

map_push : {X Y : Type 0} (f : X → Y) (xs : List X) (x : X) → map f (xs ++ x ∷ []) ≡ map f xs ++ f x ∷ []
map_push f [] x = refl
map_push f (y ∷ xs) x = ap (λ ys. f y ∷ ys) (map_push f xs x)

pub all_push : {X : Type 0} (P : X → Type 0) (xs : List X) (x : X) → All P xs → P x → All P (xs ++ x ∷ [])
all_push P xs x h p = All-append P xs (x ∷ []) h (All-cons P x [] p (All-nil P))

module _ (k : FieldOps) (g : List ℕ) where
  pub row_quotient_start : (row : List (List ℕ)) (qs : List (List ℕ)) → qs ≡ [] → IsRowQuotient k g (take 0 row) qs
  row_quotient_start row qs none = subst (IsRowQuotient k g []) (sym none)
      (record { over = All-nil (IsOver k); poly = All-nil IsPoly; is = refl })

  pub row_quotient_more : (row old new : List (List ℕ)) (i : ℕ) (v q : List ℕ) → IsRowQuotient k g (take i row) old
      → i < length row → v ≡ get_or row i v → v ≡ product_of k g q → IsOver k q → IsPoly q → new ≡ old ++ q ∷ []
      → IsRowQuotient k g (take (i + 1) row) new
  row_quotient_more row old new i v q so_far less v_is product over poly new_is = subst
      (IsRowQuotient k g (take (i + 1) row)) (sym new_is) (record {
        over = all_push (IsOver k) old q so_far.over over;
        poly = all_push IsPoly old q so_far.poly poly;
        is =
            map_push (product_of k g) old q
            ∙ ap₂ (λ xs x. xs ++ x ∷ []) so_far.is (sym product ∙ v_is)
            ∙ sym (take_more row i v less);
      })

  pub row_quotient_all : (row qs : List (List ℕ)) (i : ℕ) → IsRowQuotient k g (take i row) qs → take i row ≡ row
      → IsRowQuotient k g row qs
  row_quotient_all row qs i h all = subst (λ r. IsRowQuotient k g r qs) all h

  -- the row that a quotient of a row of the width is
  quotient_row : (n : ℕ) (row q : List (List ℕ)) → IsRow k n row → IsRowQuotient k g row q → IsRow k n q
  quotient_row n row q row_in h = record
      { size = sym (length-map q (product_of k g)) ∙ ap length h.is ∙ row_in.size; over = h.over }

  pub quotient_rows_more : (n : ℕ) (rows old new : List (Vec (List ℕ))) (i : ℕ) (row q : Vec (List ℕ))
      → All (IsRow k n) (rows_of rows) → IsQuotientOfRows k g n (take i (rows_of rows)) (rows_of old) → i < length rows
      → row ≡ get_or rows i row
      → IsRowQuotient k g row.items q.items → new ≡ old ++ q ∷ []
      → IsQuotientOfRows k g n (take (i + 1) (rows_of rows)) (rows_of new)
  quotient_rows_more n rows old new i row q rows_in so_far less row_is h new_is =
      let more : i < length (rows_of rows) = omega (arith, less, length-map rows (λ (u : Vec (List ℕ)). u.items)) in
      let read = read_row rows i row less row_is in
      let row_in = subst (IsRow k n) (sym read) (rows_in i [] more) in
      subst (IsQuotientOfRows k g n (take (i + 1) (rows_of rows))) (sym (ap rows_of new_is ∙ rows_push old q)) (record {
        rows_in = all_push (IsRow k n) (rows_of old) q.items so_far.rows_in (quotient_row n row.items q.items row_in h);
        poly = all_push (All IsPoly) (rows_of old) q.items so_far.poly h.poly;
        is =
            map_push (multiple_of_row k g) (rows_of old) q.items
            ∙ ap₂ (λ xs x. xs ++ x ∷ []) so_far.is (h.is ∙ read)
            ∙ sym (take_more (rows_of rows) i [] more);
      })
