-- The primes of the order of a side's integral functions, with their lines, are all places of the side: no two have the
-- same texts, so that they ascend strictly.
use Rattle.std.proofs.Common.{◌≡◌, ◌≢◌, ℕ, suc, ◌+◌, ◌-◌, ◌^◌, ◌≤◌, List, [], ◌∷◌, length, map, refl, sym, ap₂, ◌∙◌, subst, arith, All}
use Rattle.std.specs.List.{AllZip, AllPairs}
use Rattle.std.proofs.Math.Nat.{le-max_left, le-max_right}
use Rattle.std.proofs.lemmas.List.Elements.{All-nil, All-cons, All-head, All-tail}
use Rattle.std.proofs.lemmas.List.Kept.{AllPairs-cons}
use Rattle.prime_theory.proofs.Lists.{pairs_head, pairs_tail}
use Rattle.ff_fields.specs.Field.{CodeField}
use Rattle.ff_fields.specs.Over.{IsOver}
use Rattle.ff_poly.specs.Words.{IsIrreducibleList}
use Rattle.function_field.specs.declared.side.Side.{Side}
use Rattle.function_field.specs.declared.side.Side.TheVariants.{Infinite}
use Rattle.function_field.specs.Curves.{CurveValue, IsCurve}
use Rattle.function_field.specs.PlaceLists.{AreAllPlacesAbove}
use Rattle.ff_lattice.specs.Lattices.{LatticeValue, row_elems}
use Rattle.value_theory.specs.IntegralLattices.{presentation, IsIntegralLattice}
use Rattle.value_theory.specs.Primes.{PrimeValue, IsPrimeOf}
use Rattle.place_lists_theory.specs.Lists.{listed_prime, SpansWholePlace}
use Rattle.place_lists_theory.proofs.ListedPlaces.{listed_places}
use Rattle.place_lists_theory.proofs.IntegralOrders.{integral_order}
use Rattle.place_lists_theory.proofs.WholePlaces.{whole_place}
use Rattle.ff_text.specs.Printed.{WrittenValue, elem_text}
use Rattle.text_theory.specs.WrittenInFull.{IsElemWrittenInFull}
use Rattle.text_theory.proofs.ElementTexts.{one_elem}
use Rattle.text_theory.proofs.InFull.{elem_in_full}
use Rattle.ff_written.specs.Rows.{AreWrittenRows}
use Rattle.ff_written.specs.TextOrder.{IsBeforeTexts, texts_of}
use Rattle.ff_written.proofs.TextCases.{texts_before_other}
use Rattle.ff_written.proofs.WrittenRows.{written_functions}
use Rattle.ff_meaning.specs.Meaning.{greatest_degree}
use Rattle.ff_places.specs.Numbers.{IsNotAfter}
use Rattle.ff_places.specs.Numbers as primes
use Rattle.ff_cert.specs.declared.answer.PlaceLines.{PlaceLines}
use Rattle.ff_cert.specs.RowMul as mul_row
use Rattle.ff_cert.specs.RowOrder as order_row
use Rattle.ff_cert.specs.RowPlaces.{LinesNumberedFrom, listed, ArePrintedRows, AreAllPlaces}
use Rattle.ff_cert.specs.RowPlaces as places_row
use Rattle.ff_cert.proofs.OneLattice.{one_written_lattice}
use Rattle.ff_session.specs.Places.{ArePrimesOver, AreLinesOf}

-- ---- what a small degree says

pub short_lists : (n : ℕ) (ps : List (List ℕ)) → greatest_degree ps ≤ n → All (λ p. length p ≤ n + 1) ps
short_lists n [] h = All-nil (λ p. length p ≤ n + 1)
short_lists n (p ∷ ps) h =
    let here = le-max_left (length p - 1) (greatest_degree ps) in
    let there = le-max_right (length p - 1) (greatest_degree ps) in
    All-cons (λ p. length p ≤ n + 1) p ps (omega (arith, h, here)) (short_lists n ps (omega (arith, h, there)))

all_weaker : {X : Type 0} (P Q : X → Type 0) → ((x : X) → P x → Q x) → (xs : List X) → All P xs → All Q xs
all_weaker P Q f xs h i d l = f _ (h i d l)

module _ (k : CodeField) (c : CurveValue) (s : Side) (n : ℕ) (small : n + 1 ≤ 10 ^ 64) where
  -- written rows of a small degree are written in full
  rows_in_full : (rs : List _) (zs : List WrittenValue) → AreWrittenRows k c s rs zs → order_row.degree zs ≤ n
      → All IsElemWrittenInFull zs
  rows_in_full [] zs h low = rw h (All-nil IsElemWrittenInFull)
  rows_in_full (r ∷ rs) [] h low = absurd h
  rows_in_full (r ∷ rs) (z ∷ zs) h low =
      let here = le-max_left (mul_row.degree z) (order_row.degree zs) in
      let there = le-max_right (mul_row.degree z) (order_row.degree zs) in
      let nums = le-max_left (greatest_degree z.num) (length z.den - 1) in
      let den = le-max_right (greatest_degree z.num) (length z.den - 1) in
      All-cons IsElemWrittenInFull z zs
      (elem_in_full k z h.0.element.num_over h.0.trimmed.num_poly
      (all_weaker (λ p. length p ≤ n + 1) (λ p. length p ≤ 10 ^ 64) (λ p l. omega (arith, l, small)) z.num
      (short_lists n z.num (omega (arith, low, here, nums))))
      h.0.element.den_over h.0.trimmed.den_poly (omega (arith, low, here, den, small)))
      (rows_in_full rs zs h.1 (omega (arith, low, there)))

-- rows in full are fixed by their texts
same_texts : (zs ws : List WrittenValue) → All IsElemWrittenInFull zs → All IsElemWrittenInFull ws
    → texts_of zs ≡ texts_of ws → zs ≡ ws
same_texts [] [] h g e = refl
same_texts [] (w ∷ ws) h g e = absurd cc
same_texts (z ∷ zs) [] h g e = absurd cc
same_texts (z ∷ zs) (w ∷ ws) h g e =
    let first : elem_text z.num z.den ≡ elem_text w.num w.den = cc in
    let others : texts_of zs ≡ texts_of ws = cc in
    ap₂ ◌∷◌
    (one_elem z w (All-head IsElemWrittenInFull z zs h) (All-head IsElemWrittenInFull w ws g) first)
    (same_texts zs ws (All-tail IsElemWrittenInFull z zs h) (All-tail IsElemWrittenInFull w ws g) others)

module _ (k : CodeField) (c : CurveValue) (curve : IsCurve k c) (s : Side) where
  -- ---- place by place

  same_listing : (P : PrimeValue) (L : PlaceLines) → AreLinesOf k c s P L → listed k c s L ≡ listed_prime k c s P
  same_listing P L h =
      let rows = sym (written_functions k c s (row_elems P.rows) L.rows h.rows) in
      λ i. record { rows = rows i; e = h.e i; degree = h.degree i }

  same_listings : (Ps : List PrimeValue) (Ls : List PlaceLines) → AllZip (AreLinesOf k c s) Ps Ls
      → map (listed_prime k c s) Ps ≡ map (listed k c s) Ls
  same_listings [] [] h = refl
  same_listings [] (L ∷ Ls) h = absurd h
  same_listings (P ∷ Ps) [] h = absurd h
  same_listings (P ∷ Ps) (L ∷ Ls) h = ap₂ ◌∷◌ (sym (same_listing P L h.0)) (same_listings Ps Ls h.1)

  numbers : (first : ℕ) (Ps : List PrimeValue) (Ls : List PlaceLines) → AllZip (AreLinesOf k c s) Ps Ls
      → primes.NumberedFrom first Ps → LinesNumberedFrom first Ls
  numbers first [] [] h g = tt
  numbers first [] (L ∷ Ls) h g = absurd h
  numbers first (P ∷ Ps) [] h g = absurd h
  numbers first (P ∷ Ps) (L ∷ Ls) h g = (h.0.number ∙ g.0, numbers (suc first) Ps Ls h.1 g.1)

  module _ (o : LatticeValue) (whole : IsIntegralLattice k c s o) (p : List ℕ) (at_t : s ≡ Infinite → p ≡ 0 ∷ 1 ∷ [])
    where
      printed_place : (P : PrimeValue) (L : PlaceLines) → IsPrimeOf k (presentation c s) o P → P.p ≡ p
          → AreLinesOf k c s P L → ArePrintedRows k c s L.rows
      printed_place P L prime over h = record {
        lattice = P.rows;
        form = prime.ideal.lattice;
        rows = h.rows;
        whole = subst (SpansWholePlace k c s) (written_functions k c s (row_elems P.rows) L.rows h.rows)
            (whole_place k c curve o P s p whole at_t prime over);
      }

      printed_places : (Ps : List PrimeValue) (Ls : List PlaceLines) → All (IsPrimeOf k (presentation c s) o) Ps
          → All (λ (P : PrimeValue). P.p ≡ p) Ps → AllZip (AreLinesOf k c s) Ps Ls
          → All (λ (L : PlaceLines). ArePrintedRows k c s L.rows) Ls
      printed_places [] [] h g z = All-nil (λ (L : PlaceLines). ArePrintedRows k c s L.rows)
      printed_places [] (L ∷ Ls) h g z = absurd z
      printed_places (P ∷ Ps) [] h g z = absurd z
      printed_places (P ∷ Ps) (L ∷ Ls) h g z =
          All-cons (λ (L : PlaceLines). ArePrintedRows k c s L.rows) L Ls
          (printed_place P L (All-head (IsPrimeOf k (presentation c s) o) P Ps h)
          (All-head (λ (P : PrimeValue). P.p ≡ p) P Ps g) z.0)
          (printed_places Ps Ls (All-tail (IsPrimeOf k (presentation c s) o) P Ps h)
          (All-tail (λ (P : PrimeValue). P.p ≡ p) P Ps g) z.1)

      -- ---- the order of the texts

      abbrev Before : PlaceLines → PlaceLines → Type 0
      Before L M = IsBeforeTexts (texts_of L.rows) (texts_of M.rows)

      module _ (n : ℕ) (small : n + 1 ≤ 10 ^ 64) where
        before_one : (P Q : PrimeValue) (L M : PlaceLines) → IsPrimeOf k (presentation c s) o P
            → IsPrimeOf k (presentation c s) o Q → AreLinesOf k c s P L → AreLinesOf k c s Q M
            → order_row.degree L.rows ≤ n → order_row.degree M.rows ≤ n → IsNotAfter k c s P Q → P.rows ≢ Q.rows
            → Before L M
        before_one P Q L M P_is Q_is h g low low' not_after other =
            texts_before_other (texts_of L.rows) (texts_of M.rows)
            (λ e.
            let same = same_texts L.rows M.rows (rows_in_full k c s n small (row_elems P.rows) L.rows h.rows low)
            (rows_in_full k c s n small (row_elems Q.rows) M.rows g.rows low') e in
            other (one_written_lattice k c curve s P.rows Q.rows P_is.ideal.lattice Q_is.ideal.lattice M.rows
            (subst (AreWrittenRows k c s (row_elems P.rows)) same h.rows) g.rows))
            (not_after.texts (texts_of L.rows) (texts_of M.rows)
            (record { rows = L.rows; written = h.rows; are = refl })
            (record { rows = M.rows; written = g.rows; are = refl }))

        before_all : (P : PrimeValue) (L : PlaceLines) (Qs : List PrimeValue) (Ms : List PlaceLines)
            → IsPrimeOf k (presentation c s) o P → All (IsPrimeOf k (presentation c s) o) Qs → AreLinesOf k c s P L
            → AllZip (AreLinesOf k c s) Qs Ms → order_row.degree L.rows ≤ n → places_row.degree Ms ≤ n
            → All (IsNotAfter k c s P) Qs → All (λ (Q : PrimeValue). P.rows ≢ Q.rows) Qs → All (Before L) Ms
        before_all P L [] [] P_is hs h z low lows afters others = All-nil (Before L)
        before_all P L [] (M ∷ Ms) P_is hs h z low lows afters others = absurd z
        before_all P L (Q ∷ Qs) [] P_is hs h z low lows afters others = absurd z
        before_all P L (Q ∷ Qs) (M ∷ Ms) P_is hs h z low lows afters others =
            let here = le-max_left (order_row.degree M.rows) (places_row.degree Ms) in
            let there = le-max_right (order_row.degree M.rows) (places_row.degree Ms) in
            All-cons (Before L) M Ms
            (before_one P Q L M P_is (All-head (IsPrimeOf k (presentation c s) o) Q Qs hs) h z.0 low
            (omega (arith, lows, here)) (All-head (IsNotAfter k c s P) Q Qs afters)
            (All-head (λ (Q : PrimeValue). P.rows ≢ Q.rows) Q Qs others))
            (before_all P L Qs Ms P_is (All-tail (IsPrimeOf k (presentation c s) o) Q Qs hs) h z.1 low
            (omega (arith, lows, there)) (All-tail (IsNotAfter k c s P) Q Qs afters)
            (All-tail (λ (Q : PrimeValue). P.rows ≢ Q.rows) Q Qs others))

        ascending : (Ps : List PrimeValue) (Ls : List PlaceLines) → All (IsPrimeOf k (presentation c s) o) Ps
            → AllZip (AreLinesOf k c s) Ps Ls → places_row.degree Ls ≤ n → AllPairs (IsNotAfter k c s) Ps
            → AllPairs (λ (P Q : PrimeValue). P.rows ≢ Q.rows) Ps → AllPairs Before Ls
        ascending [] [] h z low a b = λ i j d l m. absurd (omega arith)
        ascending [] (L ∷ Ls) h z low a b = absurd z
        ascending (P ∷ Ps) [] h z low a b = absurd z
        ascending (P ∷ Ps) (L ∷ Ls) h z low a b =
            let here = le-max_left (order_row.degree L.rows) (places_row.degree Ls) in
            let there = le-max_right (order_row.degree L.rows) (places_row.degree Ls) in
            AllPairs-cons Before L Ls
            (before_all P L Ps Ls (All-head (IsPrimeOf k (presentation c s) o) P Ps h)
            (All-tail (IsPrimeOf k (presentation c s) o) P Ps h) z.0 z.1 (omega (arith, low, here))
            (omega (arith, low, there)) (pairs_head (IsNotAfter k c s) P Ps a)
            (pairs_head (λ (P Q : PrimeValue). P.rows ≢ Q.rows) P Ps b))
            (ascending Ps Ls (All-tail (IsPrimeOf k (presentation c s) o) P Ps h) z.1 (omega (arith, low, there))
            (pairs_tail (IsNotAfter k c s) P Ps a) (pairs_tail (λ (P Q : PrimeValue). P.rows ≢ Q.rows) P Ps b))

  -- ---- all of them

  pub all_places : (p : List ℕ) → IsOver k.ops p → IsIrreducibleList k.ops p → (s ≡ Infinite → p ≡ 0 ∷ 1 ∷ [])
      → (Ps : List PrimeValue) (Ls : List PlaceLines) → ArePrimesOver k c s p Ps → AllZip (AreLinesOf k c s) Ps Ls
      → (n : ℕ) → n + 1 ≤ 10 ^ 64 → places_row.degree Ls ≤ n → AreAllPlaces k c s p Ls
  all_places p p_in irreducible at_t Ps Ls h z n small low = record {
    all = subst (AreAllPlacesAbove k c s p) (same_listings Ps Ls z)
        (listed_places k c curve h.order p p_in irreducible Ps s at_t
        (integral_order k c curve h.order s h.integral) h.primes h.integral);
    printed = printed_places h.order h.integral p at_t Ps Ls h.primes.primes h.primes.over z;
    ascending = ascending h.order h.integral p at_t n small Ps Ls h.primes.primes z low h.in_order h.primes.different;
    numbers = numbers 1 Ps Ls z h.numbers;
  }
