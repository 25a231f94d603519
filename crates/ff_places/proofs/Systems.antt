-- The primes of an order over a polynomial: the radical, the prime of an idempotent, what the code finds of a prime,
-- and what stays when primes are listed and numbered.
use Rattle.std.proofs.Common.{◌≡◌, ◌≢◌, ◌↔◌, ℕ, List, get_or, map, sym, ap, ◌∙◌, subst, arith, All}
use Rattle.std.proofs.lemmas.List.{length-map, get_or-map}
use Rattle.std.specs.List.{AllPairs, AllZip}
use Rattle.std.specs.List.Sorted.{IsPermutation}
use Rattle.std.proofs.lemmas.List.Elements.{All-map}
use Rattle.std.proofs.lemmas.List.Sorted.{IsPermutation-sym, All-permutation}
use Rattle.ring_lemmas.specs.Ring.{CommRing}
use Rattle.prime_theory.specs.Ideals.{SameSet, Multiple}
use Rattle.prime_theory.specs.Orders.{Radical}
use Rattle.prime_theory.specs.Places.{IsMaximalIdeal}
use Rattle.prime_theory.proofs.Radicals.{p_in_radical}
use Rattle.finite_algebra_theory.proofs.Lists.{all_of_in}
use Rattle.order_theory.proofs.Enlargements.{order_has}
use Rattle.ff_fields.specs.Field.{CodeField}
use Rattle.ff_poly.specs.Value.{value}
use Rattle.ff_falg.specs.Algebras.{IsVector}
use Rattle.function_field.specs.declared.side.Side.{Side}
use Rattle.function_field.specs.Curves.{CurveValue, IsCurve}
use Rattle.function_field.specs.Functions.{of_poly}
use Rattle.function_field.specs.Values.{PresValue, Functions, functions, equation_of}
use Rattle.ff_lattice.specs.Lattices.{LatticeValue, IsLatticeValue, Contains, row_elems}
use Rattle.ff_lattice.specs.Quotients.{QuotientValue, IsIdealLattice, dimension}
use Rattle.value_theory.specs.Primes.{PrimeValue, IsPrimeOf}
use Rattle.value_theory.proofs.Bridge.{order_set}
use Rattle.ff_order.proofs.Turns.{radical_is_ideal}
use Rattle.decomposition_theory.specs.Decompositions.{IsMaximalOrderAt, AreIdempotentsModulo, IsInComponentPrime, IsComponentPrime}
use Rattle.decomposition_theory.specs.Laws.{HaveComponentPrimes, IsPrimeSystem}
use Rattle.ff_lattice.proofs.OrderRows.{all_from_map}
use Rattle.ff_written.specs.TextOrder.{HasRowTexts, IsBeforeTexts, texts_of}
use Rattle.ff_written.proofs.WrittenRows.{same_written}
use Rattle.decomposition_theory.proofs.ComponentSystems.{all_left, from_left, pairs_right}
use Rattle.ff_places.specs.Numbers.{IsNotAfter, AreInOrder}
use Rattle.ff_places.specs.Steps.{IsIdealAbove, IsInComponent, HasComponent, ListedPrime, ListedBefore, AreListed, IsNumbered}
use Rattle.ff_written.proofs.OrderedLists.{pairs_permutation}

-- ---- maximal ideals with the same members

maximal_same : {A : Type 0} (R : CommRing A) (O M N : A → Type 0) → SameSet M N → IsMaximalIdeal R.ops O M
    → IsMaximalIdeal R.ops O N
maximal_same R O M N same h = record {
  ideal = record {
    within = λ a m. h.ideal.within a ((same a).1 m);
    zero_in = (same R.𝟘).0 h.ideal.zero_in;
    sum_in = λ a b m n. (same _).0 (h.ideal.sum_in a b ((same a).1 m) ((same b).1 n));
    scale_in = λ s a s_in m. (same _).0 (h.ideal.scale_in s a s_in ((same a).1 m));
  };
  proper = λ m. h.proper ((same R.𝟙).1 m);
  invert = λ u u_in out.
      let i = h.invert u u_in (λ m. out ((same u).0 m)) in
      record { inverse = i.inverse; inverse_in = i.inverse_in; is = (same _).0 i.is };
}

-- ---- the radical and the primes of idempotents

module _ (k : CodeField) (q : QuotientValue) (pi : List ℕ) (at : IsMaximalOrderAt k q.p q.order pi)
    (ideal : SameSet (Contains k q.p q.ideal)
    (Multiple (functions k q.p).ops (of_poly (equation_of k q.p) (value k pi)) (Contains k q.p q.order)))
    (l : LatticeValue) (form : IsLatticeValue k.ops q.p.n l)
    (members : (z : Functions k q.p) → Contains k q.p l z
    ↔ Radical (functions k q.p).ops (Contains k q.p q.order) (of_poly (equation_of k q.p) (value k pi)) z) where
  pub radical_above : IsIdealAbove k q l
  radical_above =
      let 𝓞 = order_set k q.p at.positive q.order at.order in
      record {
        ideal = radical_is_ideal k q.p at.positive q.order at.order pi l form members;
        has = λ z z_in.
            (members z).1
            (p_in_radical (functions k q.p) (Contains k q.p q.order) 𝓞.ring
            (of_poly (equation_of k q.p) (value k pi))
            (order_has (equation_of k q.p) (Contains k q.p q.order) 𝓞 (value k pi)) z ((ideal z).0 z_in));
      }

  pub all_components : (es : List (List ℕ)) → AreIdempotentsModulo k q pi es → HaveComponentPrimes k q pi es
      → All (HasComponent k q pi l) es
  all_components es idempotents h i d less =
      let s = h.spanned i d less in
      record {
        codes = all_of_in (IsVector k.ops (dimension q)) es
            (λ e e_in. ((idempotents.idempotents.members e).0 e_in).idempotent.vector) i d less;
        maximal = h.maximal i d less;
        over = h.over i d less;
        spanned = λ z. (
          λ x. let y = (s z).0 x in record {
            left = y.left;
            left_in = (members y.left).1 y.left_in;
            right = y.right;
            right_in = y.right_in;
            is = y.is;
          },
          λ y. (s z).1 (record {
            left = y.left;
            left_in = (members y.left).0 y.left_in;
            right = y.right;
            right_in = y.right_in;
            is = y.is;
          }),
        );
      }

module _ (k : CodeField) (q : QuotientValue) (pi : List ℕ) (l : LatticeValue) (e : List ℕ)
    (h : HasComponent k q pi l e) (rows : LatticeValue) (form : IsLatticeValue k.ops q.p.n rows)
    (members : (z : Functions k q.p) → Contains k q.p rows z ↔ IsInComponent k q l e z) where
  pub rows_same : SameSet (Contains k q.p rows) (IsInComponentPrime k q e)
  rows_same z = (λ x. (h.spanned z).1 ((members z).0 x), λ x. (members z).1 ((h.spanned z).0 x))

  pub rows_maximal : IsMaximalIdeal (functions k q.p).ops (Contains k q.p q.order) (Contains k q.p rows)
  rows_maximal =
      maximal_same (functions k q.p) (Contains k q.p q.order) (IsInComponentPrime k q e) (Contains k q.p rows)
      (λ z. ((rows_same z).1, (rows_same z).0)) h.maximal

  pub rows_ideal : IsIdealLattice k q.p q.order rows
  rows_ideal = record {
    lattice = form;
    within = rows_maximal.ideal.within;
    closed = rows_maximal.ideal.scale_in;
  }

  pub rows_over : Contains k q.p rows (of_poly (equation_of k q.p) (value k pi))
  rows_over = (rows_same _).1 h.over

  pub component_prime : (P : PrimeValue) → IsPrimeOf k q.p q.order P → P.p ≡ pi → P.rows ≡ rows
      → IsComponentPrime k q pi e P
  component_prime P prime over is = record {
    prime = prime;
    over = over;
    members = λ z. subst (λ l. Contains k q.p l z ↔ IsInComponentPrime k q e z) (sym is) (rows_same z);
  }

-- ---- listed and numbered primes

pairs_from_map : {X Y : Type 0} (R : Y → Y → Type 0) (f : X → Y) (xs : List X) → AllPairs R (map f xs)
    → AllPairs (λ a b. R (f a) (f b)) xs
pairs_from_map R f xs h i j d less within =
    subst (λ y. R y (f (get_or xs j d))) (get_or-map f xs i d (f d) (omega arith))
    (subst (R (get_or (map f xs) i (f d))) (get_or-map f xs j d (f d) within)
    (h i j (f d) less (omega (arith, within, length-map xs f))))

module _ (k : CodeField) (p : PresValue) (o : LatticeValue) (pi : List ℕ) where
  number_kept : (P : PrimeValue) (n : ℕ) → IsPrimeOf k p o P → IsPrimeOf k p o (record P { number = n })
  number_kept P n h = record {
    ideal = h.ideal;
    inverse_form = h.inverse_form;
    maximal = h.maximal;
    over = h.over;
    degree = h.degree;
    inverse = h.inverse;
    product = h.product;
    ramified = h.ramified;
    not_more = h.not_more;
  }

  abbrev prime_of : ListedPrime → PrimeValue
  prime_of l = l.prime

  -- what holds of the primes in one order holds of them in another, with numbers
  pub all_kept : (X : PrimeValue → Type 0) → ((P : PrimeValue) (n : ℕ) → X P → X (record P { number = n }))
      → (Ps : List PrimeValue) (ls : List ListedPrime) (Qs : List PrimeValue)
      → IsPermutation Ps (map prime_of ls) → AllZip IsNumbered ls Qs → All X Ps → All X Qs
  all_kept X kept Ps ls Qs moved zip all =
      from_left IsNumbered (λ l. X (prime_of l)) X
      (λ l P is x. subst X (sym is.is) (kept l.prime P.number x)) ls Qs zip
      (all_from_map prime_of X ls (All-permutation X Ps (map prime_of ls) moved all))

  pub system_kept : (Ps : List PrimeValue) (ls : List ListedPrime) (Qs : List PrimeValue)
      → IsPermutation Ps (map prime_of ls) → AllZip IsNumbered ls Qs → IsPrimeSystem k p o pi Ps
      → IsPrimeSystem k p o pi Qs
  system_kept Ps ls Qs moved zip h = record {
    primes = all_kept (IsPrimeOf k p o) number_kept Ps ls Qs moved zip h.primes;
    over = all_kept (λ P. P.p ≡ pi) (λ P n e. e) Ps ls Qs moved zip h.over;
    different =
        pairs_right IsNumbered (λ l m. l.prime.rows ≢ m.prime.rows) (λ P Q. P.rows ≢ Q.rows)
        (λ l m P Q is also apart e. apart
        (sym (ap (λ (x : PrimeValue). x.rows) is.is) ∙ e ∙ ap (λ (x : PrimeValue). x.rows) also.is)) ls Qs zip
        (pairs_from_map (λ (P Q : PrimeValue). P.rows ≢ Q.rows) prime_of ls
        (pairs_permutation (λ (P Q : PrimeValue). P.rows ≢ Q.rows) (λ P Q n e. n (sym e)) Ps (map prime_of ls) moved
        h.different));
    nilpotent = λ z z_in all.
        let X : PrimeValue → Type 0 = λ P. Contains k p P.rows z in
        h.nilpotent z z_in
        (All-permutation X (map prime_of ls) Ps (IsPermutation-sym Ps (map prime_of ls) moved)
        (All-map X prime_of ls
        (all_left IsNumbered (λ l. X (prime_of l)) X
        (λ l P is x. subst (λ rows. Contains k p rows z) (ap (λ (y : PrimeValue). y.rows) is.is) x) ls Qs zip all)));
  }

-- ---- the order of the texts

one_texts : (k : CodeField) (c : CurveValue) (s : Side) → IsCurve k c → (l : LatticeValue) (ts us : List (List ℕ))
    → HasRowTexts k c s l ts → HasRowTexts k c s l us → ts ≡ us
one_texts k c s curve l ts us h g =
    let some = curve.at_least_two in
    h.are ∙ ap texts_of (same_written k c s (omega (arith, some)) (row_elems l) h.rows g.rows h.written g.written)
    ∙ sym g.are

-- both have the texts of their rows, and those of the second don't come before those of the first
abbrev Listed : CodeField → CurveValue → Side → ListedPrime → ListedPrime → Type 0
Listed k c s l m =
    HasRowTexts k c s l.prime.rows l.texts × HasRowTexts k c s m.prime.rows m.texts × (¬ ListedBefore m l)

pub in_order : (k : CodeField) (c : CurveValue) (s : Side) → IsCurve k c → (Ps : List PrimeValue)
    (ls : List ListedPrime) (Qs : List PrimeValue) → AreListed k c s Ps ls → AllZip IsNumbered ls Qs
    → AreInOrder k c s Qs
in_order k c s curve Ps ls Qs h zip =
    pairs_right IsNumbered (Listed k c s) (IsNotAfter k c s)
    (λ l m P Q is also listed. record {
      texts = λ ts us ts_of us_of before.
          let first = one_texts k c s curve l.prime.rows ts l.texts
          (subst (λ (x : PrimeValue). HasRowTexts k c s x.rows ts) is.is ts_of) listed.0 in
          let second = one_texts k c s curve m.prime.rows us m.texts
          (subst (λ (x : PrimeValue). HasRowTexts k c s x.rows us) also.is us_of) listed.1 in
          listed.2 (subst (λ x. IsBeforeTexts x l.texts) second (subst (IsBeforeTexts us) first before));
    })
    ls Qs zip (λ i j d less within. (h.texts i d (omega arith), h.texts j d within, h.ascending i j d less within))
