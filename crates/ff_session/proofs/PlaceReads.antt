-- Places that are listed are the answers of `places` and `place`, and no row of either holds.
use Rattle.std.proofs.Common.{◌≡◌, ℕ, zero, suc, ◌+◌, ◌-◌, ◌<◌, ◌≤◌, ◌⊎◌, inl, inr, List, [], ◌∷◌, length, map, get_or, refl, sym, ap, ◌∙◌, subst, arith}
use Rattle.std.specs.Prelude.{Result, Ok, Err, IfOk, IfErr, OnOk}
use Rattle.std.specs.List.{AllZip}
use Rattle.std.proofs.lemmas.List.{length-map}
use Rattle.ff_fields.specs.Field.{CodeField}
use Rattle.function_field.specs.declared.side.Side.{Side}
use Rattle.function_field.specs.Curves.{CurveValue, IsCurve}
use Rattle.function_field.specs.PlaceLists.{AreAllPlacesAbove}
use Rattle.value_theory.specs.IntegralLattices.{presentation}
use Rattle.value_theory.specs.Primes.{PrimeValue, IsPrimeOf}
use Rattle.place_lists_theory.proofs.OneList.{one_list}
use Rattle.ff_script.specs.declared.script.Over.{Over}
use Rattle.ff_meaning.specs.declared.refusal.Refusal.{Refusal}
use Rattle.ff_meaning.specs.declared.refusal.Refusal.TheVariants.{NoSuchPlace}
use Rattle.ff_meaning.specs.Bases.{IsBaseRead}
use Rattle.ff_meaning.specs.Bindings.{Bound, NamedPlace, IsNameOf}
use Rattle.ff_meaning.specs.Refusals.{UnlessMemory, IsNoPlace, IsPlaceRow, taken, base, none}
use Rattle.ff_meaning.proofs.BaseRows.{one_base}
use Rattle.ff_cert.specs.declared.answer.PlaceLines.{PlaceLines}
use Rattle.ff_cert.specs.RowPlaces.{LinesNumberedFrom, listed}
use Rattle.ff_cert.specs.RowNamedPlace.{IsPlaceOfLines}
use Rattle.ff_session.specs.Places.{AreLinesOf, AreListedPlaces, IsNoNumber}
use Rattle.ff_session.specs.Steps.{ArePlacesRead, IsPlaceRead}

-- ---- lists side by side

zip_at : {A B : Type 0} (R : A → B → Type 0) (xs : List A) (ys : List B) → AllZip R xs ys → (i : ℕ) (x : A) (y : B)
    → i < length ys → R (get_or xs i x) (get_or ys i y)
zip_at R [] [] h i x y l = absurd (omega arith)
zip_at R [] (b ∷ ys) h i x y l = absurd h
zip_at R (a ∷ xs) [] h i x y l = absurd h
zip_at R (a ∷ xs) (b ∷ ys) h zero x y l = h.0
zip_at R (a ∷ xs) (b ∷ ys) h (suc i) x y l = zip_at R xs ys h.1 i x y (omega arith)

pub zip_long : {A B : Type 0} (R : A → B → Type 0) (xs : List A) (ys : List B) → AllZip R xs ys → length ys ≡ length xs
zip_long R [] [] h = refl
zip_long R [] (b ∷ ys) h = absurd h
zip_long R (a ∷ xs) [] h = absurd h
zip_long R (a ∷ xs) (b ∷ ys) h = ap suc (zip_long R xs ys h.1)

numbered_at : (first : ℕ) (Ls : List PlaceLines) (i : ℕ) (d : PlaceLines) → i < length Ls → LinesNumberedFrom first Ls
    → (get_or Ls i d).number ≡ first + i
numbered_at first [] i d l h = absurd (omega arith)
numbered_at first (L ∷ Ls) zero d l h = h.0 ∙ omega arith
numbered_at first (L ∷ Ls) (suc i) d l h = numbered_at (suc first) Ls i d (omega arith) h.1 ∙ omega arith

module _ (k : CodeField) (c : CurveValue) (curve : IsCurve k c) (over : Over) (s : Side) (p : List ℕ)
    (read : IsBaseRead k.ops c.fin.n over s p) (Ps : List PrimeValue) (Ls : List PlaceLines)
    (h : AreListedPlaces k c s p Ps Ls) where
  pub places_read : (count : ℕ) → count ≡ length Ls → ArePlacesRead k c over count Ls
  places_read count e = record {
    is = record { curve = curve; side = s; p = p; base = read.base; places = h.all; number = e };
    no_row = read.no_row;
  }

  -- ---- no place of the number

  pub no_place : (index count : ℕ) (r : Refusal) → count ≡ length Ls → IsNoNumber count index r
      → IsNoPlace k c over index r
  no_place index count r e g =
      let size = e ∙ sym (length-map Ls (listed k c s)) in
      record {
        curve = curve;
        side = s;
        p = p;
        base = read.base;
        places = map (listed k c s) Ls;
        all = h.all.all;
        outside = subst (λ n. (index ≡ 0) ⊎ (n < index)) size g.outside;
        is = g.is ∙ ap (NoSuchPlace index) size;
      }

  -- ---- the place of the number

  module _ (index : ℕ) (first : 1 ≤ index) (last : index ≤ length Ls) (names : List NamedPlace) (name : List ℕ)
      (free : ¬ IsNameOf name names) where
    inside : (r : Refusal) → ¬ IsNoPlace k c over index r
    inside r g =
        let one = one_base k.ops over g.side s g.p p g.base read.base in
        let moved : AreAllPlacesAbove k c s p g.places
        = subst (λ q. AreAllPlacesAbove k c s q g.places) one.1
        (subst (λ t. AreAllPlacesAbove k c t g.p g.places) one.0 g.all) in
        let long = (one_list k c curve s p g.places (map (listed k c s) Ls) moved h.all.all).equally_long in
        let size = length-map Ls (listed k c s) in
        elim g.outside [
          | inl z ↦ omega (arith, z, first)
          | inr l ↦ omega (arith, l, long, size, last)
        ]

    no_row : (r : Refusal) → ¬ IsPlaceRow k (record { curve = c; places = names }) name over index r
    no_row r (taken t e) = free t
    no_row r (base n b) = read.no_row r b
    no_row r (none n m g) = inside r g

    place_of_lines : (P : PlaceLines) (Q : PrimeValue) (i : ℕ) → i < length Ls → P ≡ get_or Ls i P → Q ≡ get_or Ps i Q
        → IsPlaceOfLines k c s p P Q
    place_of_lines P Q i l P_is Q_is =
        let lines : AreLinesOf k c s Q P
        = subst (λ L. AreLinesOf k c s Q L) (sym P_is)
        (subst (λ R. AreLinesOf k c s R (get_or Ls i P)) (sym Q_is)
        (zip_at (AreLinesOf k c s) Ps Ls h.lines i Q P l)) in
        let size = zip_long (AreLinesOf k c s) Ps Ls h.lines in
        let prime : IsPrimeOf k (presentation c s) h.primes.order Q
        = subst (IsPrimeOf k (presentation c s) h.primes.order) (sym Q_is)
        (h.primes.primes.primes i Q (omega (arith, size, l))) in
        record {
          side = subst (λ (R : PrimeValue). R.side ≡ s) (sym Q_is) (h.primes.sides i Q (omega (arith, size, l)));
          over = subst (λ (R : PrimeValue). R.p ≡ p) (sym Q_is) (h.primes.primes.over i Q (omega (arith, size, l)));
          number = sym lines.number;
          e = sym lines.e;
          degree = sym lines.degree;
          form = prime.ideal.lattice;
          rows = lines.rows;
          inverse_form = prime.inverse_form;
          order = h.primes.order;
          integral = h.primes.integral;
          inverse = prime.inverse;
        }

    pub place_read : (P : PlaceLines) (Q : PrimeValue) → P ≡ get_or Ls (index - 1) P → Q ≡ get_or Ps (index - 1) Q
        → IsPlaceRead k c names name over index P Q
    unfolding places_read
    place_read P Q P_is Q_is = record {
      count = length Ls;
      places = Ls;
      all = (places_read (length Ls) refl).is;
      among = (index - 1, P, omega (arith, first, last), sym P_is, refl);
      number = ap (λ (L : PlaceLines). L.number) P_is
          ∙ numbered_at 1 Ls (index - 1) P (omega (arith, first, last)) h.all.numbers ∙ omega (arith, first);
      is_place = place_of_lines P Q (index - 1) (omega (arith, first, last)) P_is Q_is;
      free = free;
      no_row = no_row;
    }

  -- ---- what is chosen

  module _ (index : ℕ) (names : List NamedPlace) (name : List ℕ) (free : ¬ IsNameOf name names) where
    abbrev here : Bound
    here = record { curve = c; places = names }

    pub place_answer : (r : Result (PlaceLines × PrimeValue) Refusal) → OnOk r (1 ≤ index) → OnOk r (index ≤ length Ls)
        → IfOk r (λ x. (d : PlaceLines) → x.0 ≡ get_or Ls (index - 1) d)
        → IfOk r (λ x. (d : PrimeValue) → x.1 ≡ get_or Ps (index - 1) d)
        → IfOk r (λ x. IsPlaceRead k c names name over index x.0 x.1)
    place_answer (Ok x) first last lines primes =
        place_read index first last names name free x.0 x.1 (lines x.0) (primes x.1)
    place_answer (Err e) first last lines primes = lines

    pub place_refusal : (r : Result (PlaceLines × PrimeValue) Refusal)
        → IfErr r (UnlessMemory (IsNoNumber (length Ls) index))
        → IfErr r (UnlessMemory (IsPlaceRow k here name over index))
    place_refusal (Ok x) h = h
    place_refusal (Err e) h = λ some. none free read.no_row (no_place index (length Ls) e refl (h some))
