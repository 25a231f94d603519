-- One term more at the end of ascending terms.
use Rattle.std.proofs.Common.{◌≡◌, ◌≢◌, ℕ, ◌+◌, ◌<◌, ◌≤◌, Bool, true, false, cond, nat_eq, nat_lt, eq-eqb, List, [], ◌∷◌, ◌++◌, length, get_or, take, refl, sym, ap, ap₂, ◌∙◌, arith, All, Ordering, Less, Equal, Greater}
use Rattle.std.proofs.lemmas.List.{get_or_read, take_more}
use Rattle.std.proofs.lemmas.Bool.{ltb-false}
use Rattle.std.specs.Ordering.{ordering_then, nat_cmp, is_lt}
use Rattle.std.proofs.lemmas.List.Elements.{All-nil, All-cons, All-head, All-tail, All-push, All-take, All-get_or, All-weaker}
use Rattle.ff_fields.specs.Field.{CodeField}
use Rattle.ff_fields.specs.Code.{same_code, zero_in, code_ring}
use Rattle.ff_poly.specs.TermWords.{IsBefore, IsUpTo, AreAscending, IsTerms, IsMerged, IsAdded, code_at}
use Rattle.ff_poly.proofs.TermSums.{total, total_append, term_code, code_at_total, same_code_at, merged_total, zero_total}

before_trans : (u s t : ℕ × ℕ × ℕ) → IsBefore u s → IsUpTo s t → IsBefore u t
before_trans u s t h g = (omega (arith, h.0, g.0), λ e. omega (arith, h.0, h.1, g.0, g.1, e))

up_to_before : (u t : ℕ × ℕ × ℕ) → IsBefore u t → IsUpTo u t
up_to_before u t h = (h.0, λ e. omega (arith, h.1 e))

pub strictly : (u t : ℕ × ℕ × ℕ) → IsUpTo u t → (u.0 ≡ t.0 → u.1 ≡ t.1 → ⊥) → IsBefore u t
strictly u t h other = (h.0, λ e. from_ne u.1 t.1 (h.1 e) (other e))
  where
    from_ne : (a b : ℕ) → a ≤ b → a ≢ b → a < b
    from_ne a b le ne = omega arith

ascending_push : (ts : List (ℕ × ℕ × ℕ)) (t : ℕ × ℕ × ℕ) → AreAscending ts → All (λ u. IsBefore u t) ts
    → AreAscending (ts ++ t ∷ [])
ascending_push [] t up before = (All-nil (IsBefore t), tt)
ascending_push (u ∷ ts) t up before = (
  All-push (IsBefore u) ts t up.0 (All-head (λ u. IsBefore u t) u ts before),
  ascending_push ts t up.1
      (All-tail (λ u. IsBefore u t) u ts before),
)

pub all_front : {X : Type 0} (P : X → Type 0) (xs : List X) (x : X) → All P (xs ++ x ∷ []) → All P xs × P x
all_front P [] x h = (All-nil P, All-head P x [] h)
all_front P (y ∷ xs) x h =
    let rest = all_front P xs x (All-tail P y (xs ++ x ∷ []) h) in
    (All-cons P y xs (All-head P y (xs ++ x ∷ []) h) rest.0, rest.1)

ascending_front : (ts : List (ℕ × ℕ × ℕ)) (t : ℕ × ℕ × ℕ) → AreAscending (ts ++ t ∷ [])
    → AreAscending ts × All (λ u. IsBefore u t) ts
ascending_front [] t up = (tt, All-nil (λ u. IsBefore u t))
ascending_front (u ∷ ts) t up =
    let first = all_front (IsBefore u) ts t up.0 in
    let rest = ascending_front ts t up.1 in ((first.0, rest.0), All-cons (λ u. IsBefore u t) u ts first.1 rest.1)

module _ (k : CodeField) (old : List (ℕ × ℕ × ℕ)) (t : ℕ × ℕ × ℕ) (terms : IsTerms old)
    (terms_in : All (λ u. u.2 < k.size) old) (t_in : t.2 < k.size) (up_to : All (λ u. IsUpTo u t) old) where
  -- there was no term
  pub merged_none : (new : List (ℕ × ℕ × ℕ)) → old ≡ [] → new ≡ old → IsMerged k.ops old t new t.2
  merged_none new none same = record {
    terms = rw same terms;
    terms_in = rw same terms_in;
    before = rw (same ∙ none) (All-nil (λ u. IsBefore u t));
    code_in = t_in;
    codes = λ i j. ap (λ w. code_at k.ops i j (w ++ t ∷ [])) same;
  }

  -- the last one has other exponents
  pub merged_other : (ts : List (ℕ × ℕ × ℕ)) (last : ℕ × ℕ × ℕ) (new : List (ℕ × ℕ × ℕ)) → old ≡ ts ++ last ∷ []
      → IsBefore last t → new ≡ ts ++ last ∷ [] → IsMerged k.ops old t new t.2
  merged_other ts last new old_is less new_is =
      let same = new_is ∙ sym old_is in
      let front = ascending_front ts last (rw old_is at terms.ascending) in
      record {
        terms = rw same terms;
        terms_in = rw same terms_in;
        before = rw new_is (All-push (λ u. IsBefore u t) ts last
            (All-weaker (λ u. IsBefore u last) (λ u. IsBefore u t)
            (λ u h. before_trans u last t h (up_to_before last t less)) ts front.1) less);
        code_in = t_in;
        codes = λ i j. ap (λ w. code_at k.ops i j (w ++ t ∷ [])) same;
      }

  -- the last one has the same
  pub merged_same : (ts : List (ℕ × ℕ × ℕ)) (last : ℕ × ℕ × ℕ) (new : List (ℕ × ℕ × ℕ)) (code : ℕ)
      → old ≡ ts ++ last ∷ [] → last.0 ≡ t.0 → last.1 ≡ t.1 → new ≡ ts → code ≡ k.add last.2 t.2
      → IsMerged k.ops old t new code
  merged_same ts last new code old_is y_is x_is new_is code_is =
      let up = rw old_is at terms.ascending in
      let front = ascending_front ts last up in
      let somes = all_front (λ u. u.2 ≢ 0) ts last (rw old_is at terms.some) in
      let ins = all_front (λ u. u.2 < k.size) ts last (rw old_is at terms_in) in
      let code_in : code < k.size = rw code_is (k.laws.add_below last.2 t.2 ins.1 t_in) in
      record {
        terms = rw new_is (record { ascending = front.0; some = somes.0 });
        terms_in = rw new_is ins.0;
        before = rw new_is (All-weaker (λ u. IsBefore u last) (λ u. IsBefore u t)
            (λ u h. (omega (arith, h.0), λ e. omega (arith, h.1, e))) ts front.1);
        code_in = code_in;
        codes = λ i j.
            same_code_at k i j (new ++ (t.0, t.1, code) ∷ []) (old ++ t ∷ [])
            (rw new_is (All-push (λ u. u.2 < k.size) ts (t.0, t.1, code) ins.0 code_in))
            (All-push (λ u. u.2 < k.size) old t terms_in t_in)
            (ap (λ w. total (code_ring k).ring (term_code k i j) (w ++ (t.0, t.1, code) ∷ [])) new_is
            ∙ ap (λ c. total (code_ring k).ring (term_code k i j) (ts ++ (t.0, t.1, c) ∷ [])) code_is
            ∙ merged_total k i j ts t.0 t.1 last.2 t.2 ins.1 t_in
            ∙ ap₂ (λ y x. total (code_ring k).ring (term_code k i j) ((ts ++ (y, x, last.2) ∷ []) ++ t ∷ [])) (sym y_is)
            (sym x_is)
            ∙ ap (λ w. total (code_ring k).ring (term_code k i j) (w ++ t ∷ [])) (sym old_is));
      }

module _ (k : CodeField) (old mid : List (ℕ × ℕ × ℕ)) (t : ℕ × ℕ × ℕ) (code : ℕ)
    (merged : IsMerged k.ops old t mid code) where
  pub added_some : (new : List (ℕ × ℕ × ℕ)) → code ≢ 0 → new ≡ mid ++ (t.0, t.1, code) ∷ [] → IsAdded k.ops old t new
  added_some new some new_is =
      let m : ℕ × ℕ × ℕ = (t.0, t.1, code) in
      record {
        terms = rw new_is (record {
          ascending = ascending_push mid m merged.terms.ascending
              (All-weaker (λ u. IsBefore u t) (λ u. IsBefore u m) (λ u h. h) mid merged.before);
          some = All-push
              (λ u. u.2 ≢ 0) mid m merged.terms.some some;
        });
        terms_in = rw new_is (All-push (λ u. u.2 < k.size) mid m merged.terms_in merged.code_in);
        up_to = rw new_is (All-push (λ u. IsUpTo u t) mid m
            (All-weaker (λ u. IsBefore u t) (λ u. IsUpTo u t) (λ u h. up_to_before u t h) mid merged.before)
            (omega arith, λ e. omega arith));
        codes = λ i j. ap (code_at k.ops i j) new_is ∙ merged.codes i j;
      }

  pub added_none : code ≡ 0 → IsAdded k.ops old t mid
  added_none none = record {
    terms = merged.terms;
    terms_in = merged.terms_in;
    up_to = All-weaker (λ u. IsBefore u t) (λ u. IsUpTo u t) (λ u h. up_to_before u t h) mid merged.before;
    codes = λ i j.
        same_code_at k i j mid (mid ++ (t.0, t.1, 0) ∷ []) merged.terms_in
        (All-push (λ u. u.2 < k.size) mid (t.0, t.1, 0) merged.terms_in (zero_in k))
        (sym (zero_total k i j mid t.0 t.1))
        ∙ ap (λ c. code_at k.ops i j (mid ++ (t.0, t.1, c) ∷ [])) (sym none) ∙ merged.codes i j;
  }

-- ---- sorted terms

lt_case : (t : Bool) (o p q : Ordering) → is_lt (ordering_then (ordering_then (cond t Less o) p) q) ≡ false → t ≡ false
lt_case true o p q h = h
lt_case false o p q h = refl

eq_case : (t u v : Bool) (o q : Ordering) → t ≡ false → u ≡ true
    → is_lt (ordering_then (ordering_then (cond t Less (cond u Equal Greater)) (cond v Less o)) q) ≡ false → v ≡ false
eq_case true u v o q e f h = absurd (let no : true ≡ false = e in (cc))
eq_case false false v o q e f h = absurd (let no : false ≡ true = f in (cc))
eq_case false true true o q e f h = h
eq_case false true false o q e f h = refl

up_to_sorted : (a b : ℕ × ℕ × ℕ) → is_lt
    (ordering_then (ordering_then (nat_cmp b.0 a.0) (nat_cmp b.1 a.1)) (nat_cmp b.2 a.2)) ≡ false → IsUpTo a b
up_to_sorted a b h =
    let first = lt_case (nat_lt b.0 a.0) _ _ _ h in (
      ltb-false b.0 a.0 first,
      λ e. ltb-false b.1 a.1
          (eq_case (nat_lt b.0 a.0) (nat_eq b.0 a.0) (nat_lt b.1 a.1) _ _ first (eq-eqb b.0 a.0 (sym e)) h),
    )

up_to_trans : (u s t : ℕ × ℕ × ℕ) → IsUpTo u s → IsUpTo s t → IsUpTo u t
up_to_trans u s t h g = (omega (arith, h.0, g.0), λ e. omega (arith, h.0, h.1, g.0, g.1, e))

-- each further term of a sorted list is added
module _ (k : CodeField) (sorted old new : List (ℕ × ℕ × ℕ)) (n : ℕ) (t : ℕ × ℕ × ℕ) (less : n < length sorted)
    (t_is : t ≡ get_or sorted n t) (sorted_in : All (λ u. u.2 < k.size) sorted) (old_in : All (λ u. u.2 < k.size) old)
    (added : IsAdded k.ops old t new) where
  pub next_up_to : ((d : ℕ × ℕ × ℕ) → n + 1 < length sorted
      → is_lt (ordering_then (ordering_then (nat_cmp (get_or sorted (n + 1) d).0 (get_or sorted n d).0)
      (nat_cmp (get_or sorted (n + 1) d).1 (get_or sorted n d).1))
      (nat_cmp (get_or sorted (n + 1) d).2 (get_or sorted n d).2)) ≡ false)
      → (d : ℕ × ℕ × ℕ) → n + 1 < length sorted → All (λ u. IsUpTo u (get_or sorted (n + 1) d)) new
  next_up_to rises d next =
      let at = get_or_read sorted n t less t_is d in
      let step = up_to_sorted (get_or sorted n d) (get_or sorted (n + 1) d) (rises d next) in
      All-weaker (λ u. IsUpTo u t) (λ u. IsUpTo u (get_or sorted (n + 1) d))
      (λ u h. up_to_trans u t (get_or sorted (n + 1) d) h (rw at step)) new added.up_to

  pub next_codes : ((i j : ℕ) → code_at k.ops i j old ≡ code_at k.ops i j (take n sorted)) → (i j : ℕ)
      → code_at k.ops i j new ≡ code_at k.ops i j (take (n + 1) sorted)
  next_codes codes i j =
      let R = (code_ring k).ring in
      let f = term_code k i j in
      let taken_in = All-take (λ u. u.2 < k.size) n sorted sorted_in in
      let t_in : t.2 < k.size = rw t_is (All-get_or (λ u. u.2 < k.size) sorted n t less sorted_in) in
      let same : total R f old ≡ total R f (take n sorted) = same_code k _ _
      (sym (code_at_total k i j old old_in) ∙ codes i j ∙ code_at_total k i j (take n sorted) taken_in) in
      added.codes i j
      ∙ same_code_at k i j (old ++ t ∷ []) (take n sorted ++ t ∷ []) (All-push (λ u. u.2 < k.size) old t old_in t_in)
      (All-push (λ u. u.2 < k.size) (take n sorted) t taken_in t_in)
      (total_append R f old (t ∷ []) ∙ ap (λ w. R.◌⊕◌ w (total R f (t ∷ []))) same
      ∙ sym (total_append R f (take n sorted) (t ∷ [])))
      ∙ ap (λ u. code_at k.ops i j (take n sorted ++ u ∷ [])) t_is
      ∙ ap (code_at k.ops i j) (sym (take_more sorted n t less))
