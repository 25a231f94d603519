-- From what the calls below ensure to the places that are listed.
use Rattle.std.proofs.Common.{◌≡◌, ℕ, Bool, false, true≢false, ◌+◌, ◌^◌, ◌<◌, ◌≤◌, List, [], ◌∷◌, ◌++◌, length, get_or, take, sym, ◌∙◌, subst, All}
use Rattle.std.specs.Prelude.{Result, Ok, Err, IfOk, IsTrue, ◌↔◌}
use Rattle.std.specs.Global.{Vec}
use Rattle.std.specs.List.{AllZip}
use Rattle.std.specs.declared.alloc.AllocError.{AllocError}
use Rattle.std.proofs.lemmas.List.{take_more}
use Rattle.std.proofs.lemmas.List.Elements.{All-head, All-tail}
use Rattle.ff_fields.specs.Field.{CodeField}
use Rattle.ff_fields.specs.Over.{IsOver}
use Rattle.ff_poly.specs.Words.{IsIrreducibleList}
use Rattle.function_field.specs.declared.side.Side.{Side}
use Rattle.function_field.specs.declared.side.Side.TheVariants.{Infinite}
use Rattle.function_field.specs.Curves.{CurveValue, IsCurve}
use Rattle.ff_lattice.specs.Lattices.{LatticeValue, IsLatticeValue}
use Rattle.value_theory.specs.IntegralLattices.{presentation, IsIntegralLattice}
use Rattle.value_theory.specs.Primes.{PrimeValue, AreAllPrimes}
use Rattle.ff_maximal.proofs.InfiniteOrders.{variable_irreducible}
use Rattle.ff_script.specs.declared.script.Over.{Over}
use Rattle.ff_script.specs.declared.script.Over.TheVariants.{At, Inf}
use Rattle.ff_meaning.specs.Meaning.{IsBase}
use Rattle.ff_places.specs.Numbers.{NumberedFrom, AreInOrder}
use Rattle.ff_places.proofs.Listings.{zip_push}
use Rattle.ff_cert.specs.declared.answer.PlaceLines.{PlaceLines}
use Rattle.ff_cert.specs.RowPlaces as places_row
use Rattle.ff_session.specs.Places.{ArePrimesOver, AreLinesOf, AreListedPlaces}
use Rattle.ff_session.proofs.AllPlaces.{all_places}

-- ---- what places lie over

pub base_irreducible : (k : CodeField) (over : Over) (s : Side) (p : List ℕ) → IsBase k.ops over s p
    → IsIrreducibleList k.ops p
base_irreducible k (At g) s p h = h.2
base_irreducible k Inf s p h = variable_irreducible k p h.1

pub base_at_infinity : (k : CodeField) (over : Over) (s : Side) (p : List ℕ) → IsBase k.ops over s p → s ≡ Infinite
    → p ≡ 0 ∷ 1 ∷ []
base_at_infinity k (At g) s p h e = absurd (let same = sym h.0 ∙ e in cc)
base_at_infinity k Inf s p h e = h.1

-- a name that isn't found isn't bound
pub not_bound : {A : Type 0} (b : Bool) → IsTrue b ↔ A → b ≡ false → ¬ A
not_bound b h e a = true≢false (sym (h.1 a) ∙ e)

-- ---- side by side

pub zip_more : {A B : Type 0} (R : A → B → Type 0) (xs : List A) (i : ℕ) (x : A) (old more : List B) (y : B)
    → i < length xs → x ≡ get_or xs i x → AllZip R (take i xs) old → R x y → more ≡ old ++ y ∷ []
    → AllZip R (take (i + 1) xs) more
zip_more R xs i x old more y less x_is zip r more_is =
    subst (λ l. AllZip R l more) (sym (take_more xs i x less))
    (subst (AllZip R (take i xs ++ get_or xs i x ∷ [])) (sym more_is)
    (zip_push R (take i xs) old (get_or xs i x) y zip (subst (λ z. R z y) x_is r)))

module _ (k : CodeField) (c : CurveValue) (s : Side) (p : List ℕ) where
  pub primes_answer : (o : LatticeValue) → IsIntegralLattice k c s o → (r : Result (Vec PrimeValue) AllocError)
      → IfOk r (λ v. AreAllPrimes k (presentation c s) o p v.items) → IfOk r (λ v. All (λ P. P.side ≡ s) v.items)
      → IfOk r (λ v. AreInOrder k c s v.items) → IfOk r (λ v. NumberedFrom 1 v.items)
      → IfOk r (λ v. ArePrimesOver k c s p v.items)
  primes_answer o h (Ok v) primes sides order numbers = record {
    order = o;
    integral = h;
    primes = primes;
    sides = sides;
    in_order = order;
    numbers = numbers;
  }
  primes_answer o h (Err e) primes sides order numbers = primes

  -- the primes of an order and a curve that are equal to these
  pub primes_of_equals : (o : LatticeValue) → IsIntegralLattice k c s o → (d : CurveValue) → d ≡ c → (m : LatticeValue)
      → m ≡ o → (r : Result (Vec PrimeValue) AllocError) → IfOk r (λ v. AreAllPrimes k (presentation d s) m p v.items)
      → IfOk r (λ v. All (λ P. P.side ≡ s) v.items) → IfOk r (λ v. AreInOrder k d s v.items)
      → IfOk r (λ v. NumberedFrom 1 v.items) → IfOk r (λ v. ArePrimesOver k c s p v.items)
  primes_of_equals o h d d_is m m_is r primes sides order numbers =
      primes_answer o h r
      (subst (λ (l : LatticeValue). IfOk r (λ v. AreAllPrimes k (presentation c s) l p v.items)) m_is
      (subst (λ (t : CurveValue). IfOk r (λ v. AreAllPrimes k (presentation t s) m p v.items)) d_is primes)) sides
      (subst (λ (t : CurveValue). IfOk r (λ v. AreInOrder k t s v.items)) d_is order) numbers

  module _ (Ps : List PrimeValue) (h : ArePrimesOver k c s p Ps) where
    -- the primes have lattices of their side
    pub primes_form : All (λ (P : PrimeValue). IsLatticeValue k.ops (presentation c P.side).n P.rows) Ps
    primes_form i d less =
        subst (λ t. IsLatticeValue k.ops (presentation c t).n (get_or Ps i d).rows) (sym (h.sides i d less))
        (h.primes.primes i d less).ideal.lattice

    zip_sides : (Qs : List PrimeValue) (Ls : List PlaceLines) → All (λ (P : PrimeValue). P.side ≡ s) Qs
        → AllZip (λ (P : PrimeValue). AreLinesOf k c P.side P) Qs Ls → AllZip (AreLinesOf k c s) Qs Ls
    zip_sides [] [] sides z = tt
    zip_sides [] (L ∷ Ls) sides z = absurd z
    zip_sides (P ∷ Qs) [] sides z = absurd z
    zip_sides (P ∷ Qs) (L ∷ Ls) sides z =
        let same : P.side ≡ s = All-head (λ (Q : PrimeValue). Q.side ≡ s) P Qs sides in (
          subst (λ t. AreLinesOf k c t P L) same z.0,
          zip_sides Qs Ls (All-tail (λ (Q : PrimeValue). Q.side ≡ s) P Qs sides) z.1,
        )

    pub listed_answer : IsCurve k c → IsOver k.ops p → IsIrreducibleList k.ops p
        → (s ≡ Infinite → p ≡ 0 ∷ 1 ∷ []) → (Ls : List PlaceLines)
        → AllZip (λ (P : PrimeValue). AreLinesOf k c P.side P) Ps Ls → (n : ℕ) → n + 1 ≤ 10 ^ 64
        → places_row.degree Ls ≤ n → AreListedPlaces k c s p Ps Ls
    listed_answer curve p_in irreducible at_t Ls z n small low =
        let lines = zip_sides Ps Ls h.sides z in
        record {
          primes = h;
          lines = lines;
          all = all_places k c curve s p p_in irreducible at_t Ps Ls h lines n small
              low;
        }
