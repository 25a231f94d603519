-- Lists of primes by the texts of their rows: what putting one more into them keeps, and what numbering keeps.
use Rattle.std.proofs.Common.{◌≡◌, ℕ, suc, ◌+◌, ◌<◌, List, [], ◌∷◌, ◌++◌, length, get_or, map, take, sym, ap, ap₂, ◌∙◌, subst, arith}
use Rattle.std.specs.List.{AllPairs, AllZip}
use Rattle.std.specs.List.Sorted.{IsPermutation}
use Rattle.std.proofs.lemmas.List.{take_more, length-take}
use Rattle.std.proofs.lemmas.Slice.Zip.{AllZip-long}
use Rattle.std.proofs.lemmas.List.Elements.{All-nil, All-cons}
use Rattle.std.proofs.lemmas.List.Sorted.{IsPermutation-refl, IsPermutation-trans, IsPermutation-cons, IsPermutation-to_front, IsPermutation-insert, IsPermutation-map, All-permutation}
use Rattle.ff_fields.specs.Field.{CodeField}
use Rattle.function_field.specs.declared.side.Side.{Side}
use Rattle.function_field.specs.Curves.{CurveValue}
use Rattle.ff_written.specs.TextOrder.{HasRowTexts}
use Rattle.ff_written.proofs.OrderedLists.{ascending_insert}
use Rattle.value_theory.specs.Primes.{PrimeValue}
use Rattle.ff_places.specs.Numbers.{NumberedFrom}
use Rattle.ff_places.specs.Steps.{ListedPrime, ListedBefore, IsPutInto, AreListed, IsNumbered}
use Rattle.ff_written.proofs.TextOrder.{texts_irreflexive, texts_transitive}

-- ---- one more prime

module _ (k : CodeField) (c : CurveValue) (s : Side) where
  abbrev HasTexts : ListedPrime → Type 0
  HasTexts l = HasRowTexts k c s l.prime.rows l.texts

  abbrev NotAfter : ListedPrime → ListedPrime → Type 0
  NotAfter a b = ¬ ListedBefore b a

  abbrev prime_of : ListedPrime → PrimeValue
  prime_of l = l.prime

  pub listed_none : (Ps : List PrimeValue) → AreListed k c s (take 0 Ps) []
  listed_none Ps = record {
    same = IsPermutation-refl [];
    texts = All-nil HasTexts;
    ascending = λ i j d l within. absurd (omega arith);
  }

  ascending_put : (old new : List ListedPrime) (x : ListedPrime) → AllPairs NotAfter old → IsPutInto old x new
      → AllPairs NotAfter new
  ascending_put old new x pairs put =
      subst (AllPairs NotAfter) (sym put.is)
      (ascending_insert ListedBefore (λ a b e. texts_irreflexive a.texts b.texts (ap (λ (l : ListedPrime). l.texts) e))
      (λ a b c. texts_transitive a.texts b.texts c.texts) old put.position x pairs put.behind put.ahead)

  pub listed_more : (Ps : List PrimeValue) (i : ℕ) (P : PrimeValue) (old new : List ListedPrime) (x : ListedPrime)
      → i < length Ps → P ≡ get_or Ps i P → x.prime ≡ P → HasTexts x → AreListed k c s (take i Ps) old
      → IsPutInto old x new → AreListed k c s (take (i + 1) Ps) new
  listed_more Ps i P old new x less P_is x_is x_texts h put = record {
    same =
        subst (λ Qs. IsPermutation Qs (map prime_of new)) (sym (take_more Ps i P less))
        (subst (λ Q. IsPermutation (take i Ps ++ Q ∷ []) (map prime_of new)) (x_is ∙ P_is)
        (IsPermutation-trans _ _ _ (IsPermutation-to_front (take i Ps) x.prime)
        (IsPermutation-trans _ _ _ (IsPermutation-cons x.prime (take i Ps) (map prime_of old) h.same)
        (IsPermutation-map prime_of (x ∷ old) new moved))));
    texts = All-permutation HasTexts (x ∷ old) new moved (All-cons HasTexts x old x_texts h.texts);
    ascending = ascending_put old new x h.ascending put;
  }
    where
      moved : IsPermutation (x ∷ old) new
      moved = subst (IsPermutation (x ∷ old)) (sym put.is) (IsPermutation-insert old put.position x)

-- ---- numbers

pub numbered_push : (Ps : List PrimeValue) (P : PrimeValue) (first : ℕ) → NumberedFrom first Ps
    → P.number ≡ first + length Ps → NumberedFrom first (Ps ++ P ∷ [])
numbered_push [] P first h e = (e ∙ omega arith, tt)
numbered_push (Q ∷ Ps) P first h e = (h.0, numbered_push Ps P (suc first) h.1 (omega arith))

pub zip_push : {A B : Type 0} (R : A → B → Type 0) (xs : List A) (ys : List B) (x : A) (y : B) → AllZip R xs ys → R x y
    → AllZip R (xs ++ x ∷ []) (ys ++ y ∷ [])
zip_push R [] [] x y h r = (r, tt)
zip_push R [] (b ∷ ys) x y h r = absurd h
zip_push R (a ∷ xs) [] x y h r = absurd h
zip_push R (a ∷ xs) (b ∷ ys) x y h r = (h.0, zip_push R xs ys x y h.1 r)

pub numbered_more : (ls : List ListedPrime) (i : ℕ) (l : ListedPrime) (old new : List PrimeValue) (copy P : PrimeValue)
    (n : ℕ) → i < length ls → l ≡ get_or ls i l → copy ≡ l.prime → P ≡ record copy { number = n } → n ≡ i + 1
    → new ≡ old ++ P ∷ [] → AllZip IsNumbered (take i ls) old → NumberedFrom 1 old
    → AllZip IsNumbered (take (i + 1) ls) new × NumberedFrom 1 new
numbered_more ls i l old new copy P n less l_is copy_is P_is n_is new_is zip numbers = (
  subst (λ xs. AllZip IsNumbered xs new) (sym (take_more ls i l less))
      (subst (λ x. AllZip IsNumbered (take i ls ++ x ∷ []) new) l_is
      (subst (AllZip IsNumbered (take i ls ++ l ∷ [])) (sym new_is)
      (zip_push IsNumbered (take i ls) old l P zip
      (record { is = P_is ∙ ap₂ (λ (Q : PrimeValue) m. record Q { number = m }) copy_is (sym number) })))),
  subst (NumberedFrom 1) (sym new_is) (numbered_push old P 1 numbers (number ∙ n_is ∙ size)),
)
  where
    number : P.number ≡ n
    number = ap (λ (Q : PrimeValue). Q.number) P_is

    size : i + 1 ≡ 1 + length old
    size = omega (arith, AllZip-long IsNumbered (take i ls) old zip, length-take i ls)
