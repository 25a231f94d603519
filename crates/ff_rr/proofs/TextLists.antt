-- Written functions by their texts.
use Rattle.std.proofs.Common.{◌≡◌, ℕ, ◌+◌, ◌<◌, List, [], ◌∷◌, ◌++◌, length, get_or, map, take, suc, inl, inr, refl, sym, ◌∙◌, ap, subst, arith, All}
use Rattle.std.specs.Global.{Vec}
use Rattle.std.proofs.lemmas.List.{take_more}
use Rattle.std.specs.List.{insert, Any, AllZip}
use Rattle.std.specs.List.Sorted.{IsPermutation}
use Rattle.std.proofs.lemmas.List.Elements.{All-nil, All-cons, All-head, All-tail}
use Rattle.std.proofs.lemmas.List.Sorted.{IsPermutation-push_more, IsPermutation-insert, All-permutation, Contains-permutation}
use Rattle.ring_theory.specs.Members.{In}
use Rattle.ff_fields.specs.Field.{CodeField}
use Rattle.function_field.specs.Values.{ElemValue, PresValue, Functions}
use Rattle.ff_falg.specs.Idempotents.{elements_of}
use Rattle.ff_text.specs.Printed.{WrittenValue, elem_text}
use Rattle.ff_written.specs.LowestTerms.{IsWritten}
use Rattle.ff_written.proofs.TextOrder.{text_irreflexive, text_transitive}
use Rattle.ff_written.proofs.OrderedLists.{ascending_insert}
use Rattle.ff_rr.specs.Listings.{IsWrittenBefore, AreByText, IsPutInto, AreListed, function_at}
use Rattle.ff_rr.proofs.TableVectors.{map_join}

written_irreflexive : (z w : WrittenValue) → z ≡ w → ¬ IsWrittenBefore z w
written_irreflexive z w e = text_irreflexive _ _ (ap (λ (x : WrittenValue). elem_text x.num x.den) e)

written_transitive : (x y z : WrittenValue) → IsWrittenBefore x y → IsWrittenBefore y z → IsWrittenBefore x z
written_transitive x y z = text_transitive (elem_text x.num x.den) (elem_text y.num y.den) (elem_text z.num z.den)

pub insert_by_text : (zs : List WrittenValue) (i : ℕ) (z : WrittenValue) → AreByText zs
    → ((j : ℕ) (d : WrittenValue) → j < i → j < length zs → ¬ IsWrittenBefore z (get_or zs j d))
    → ((d : WrittenValue) → i < length zs → IsWrittenBefore z (get_or zs i d)) → AreByText (insert zs i z)
insert_by_text = ascending_insert IsWrittenBefore written_irreflexive written_transitive

pub put_by_text : (old : List WrittenValue) (z : WrittenValue) (new : List WrittenValue) → AreByText old
    → IsPutInto old z new → AreByText new
put_by_text old z new h put =
    subst AreByText (sym put.is) (insert_by_text old put.position z h put.behind put.ahead)

-- a member of a list is one of the list in another order
any_permutation : {X : Type 0} (P : X → Type 0) (xs ys : List X) → IsPermutation xs ys → Any P xs → Any P ys
any_permutation P xs ys s h =
    let at = Contains-permutation xs ys h.1 s (h.0, h.2, h.3) in
    (at.0, h.1, at.1, at.2, h.4)

any_head : {X : Type 0} (P : X → Type 0) (x : X) (xs : List X) → P x → Any P (x ∷ xs)
any_head P x xs h = (0, x, omega arith, refl, h)

any_tail : {X : Type 0} (P : X → Type 0) (x : X) (xs : List X) → Any P xs → Any P (x ∷ xs)
any_tail P x xs h = (suc h.0, h.1, omega arith, h.3, h.4)

module _ (k : CodeField) (p : PresValue) where
  zip_push : (fs : List (Functions k p)) (zs : List WrittenValue) (f : Functions k p) (z : WrittenValue)
      → AllZip (IsWritten k p) fs zs → IsWritten k p f z → AllZip (IsWritten k p) (fs ++ f ∷ []) (zs ++ z ∷ [])
  zip_push [] [] f z h r = (r, tt)
  zip_push [] (w ∷ zs) f z h r = absurd h
  zip_push (g ∷ fs) [] f z h r = absurd h
  zip_push (g ∷ fs) (w ∷ zs) f z h r = (h.0, zip_push fs zs f z h.1 r)

  pub listed_push : (fs : List (Functions k p)) (f : Functions k p) (z : WrittenValue) (old new : List WrittenValue)
      → IsWritten k p f z → AreListed k p fs old → IsPutInto old z new → AreListed k p (fs ++ f ∷ []) new
  listed_push fs f z old new written h put = record {
    in_turn = h.in_turn ++ z ∷ [];
    written = zip_push fs h.in_turn f z h.written written;
    same =
        IsPermutation-push_more h.in_turn old new z h.same
        (subst (IsPermutation (z ∷ old)) (sym put.is) (IsPermutation-insert old put.position z));
    ascending = put_by_text old z new h.ascending put;
  }

  -- one vector more
  pub listed_step : (bs : List ElemValue) (vs : List (Vec ℕ)) (i : ℕ) (v : Vec ℕ) (codes : List ℕ) (f : Functions k p)
      (z : WrittenValue) (old new : List WrittenValue) → i < length vs → v ≡ get_or vs i v → codes ≡ v.items
      → f ≡ function_at k p bs codes → IsWritten k p f z
      → AreListed k p (map (function_at k p bs) (elements_of (take i vs))) old → IsPutInto old z new
      → AreListed k p (map (function_at k p bs) (elements_of (take (i + 1) vs))) new
  listed_step bs vs i v codes f z old new less v_is codes_is f_is written h put =
      subst (λ fs. AreListed k p fs new) (sym more)
      (listed_push (map (function_at k p bs) (elements_of (take i vs))) f z old new written h put)
    where
      more : map (function_at k p bs) (elements_of (take (i + 1) vs))
          ≡ map (function_at k p bs) (elements_of (take i vs)) ++ f ∷ []
      more =
          ap (λ ws. map (function_at k p bs) (elements_of ws)) (take_more vs i v less)
          ∙ ap (map (function_at k p bs)) (map_join (λ (w : Vec ℕ). w.items) (take i vs) (get_or vs i v ∷ []))
          ∙ map_join (function_at k p bs) (elements_of (take i vs)) ((get_or vs i v).items ∷ [])
          ∙ ap (λ g. map (function_at k p bs) (elements_of (take i vs)) ++ g ∷ [])
          (ap (λ (w : Vec ℕ). function_at k p bs w.items) (sym v_is) ∙ ap (function_at k p bs) (sym codes_is)
          ∙ sym f_is)

  -- what holds of the functions holds of the one that a member writes
  module _ (P : Functions k p → Type 0) where
    abbrev pub Writes : WrittenValue → Type 0
    Writes z = (f : Functions k p) × IsWritten k p f z × P f

    zip_each : (fs : List (Functions k p)) (zs : List WrittenValue) → AllZip (IsWritten k p) fs zs → All P fs
        → All Writes zs
    zip_each [] [] h all = All-nil Writes
    zip_each [] (z ∷ zs) h all = absurd h
    zip_each (f ∷ fs) [] h all = absurd h
    zip_each (f ∷ fs) (z ∷ zs) h all =
        All-cons Writes z zs (f, h.0, All-head P f fs all) (zip_each fs zs h.1 (All-tail P f fs all))

    pub listed_each : (fs : List (Functions k p)) (zs : List WrittenValue) → AreListed k p fs zs → All P fs
        → All Writes zs
    listed_each fs zs h all = All-permutation Writes h.in_turn zs h.same (zip_each fs h.in_turn h.written all)

  zip_any : (e : Functions k p) (fs : List (Functions k p)) (zs : List WrittenValue) → AllZip (IsWritten k p) fs zs
      → In e fs → Any (IsWritten k p e) zs
  zip_any e [] zs h at = absurd at
  zip_any e (f ∷ fs) [] h at = absurd h
  zip_any e (f ∷ fs) (z ∷ zs) h (inl is) = any_head (IsWritten k p e) z zs (subst (λ g. IsWritten k p g z) (sym is) h.0)
  zip_any e (f ∷ fs) (z ∷ zs) h (inr at) = any_tail (IsWritten k p e) z zs (zip_any e fs zs h.1 at)

  -- each function is written by a member
  pub listed_any : (e : Functions k p) (fs : List (Functions k p)) (zs : List WrittenValue) → AreListed k p fs zs
      → In e fs → Any (IsWritten k p e) zs
  listed_any e fs zs h at =
      any_permutation (IsWritten k p e) h.in_turn zs h.same (zip_any e fs h.in_turn h.written at)
