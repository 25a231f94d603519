-- The steps of the loops that make sums and multiples.
use Rattle.std.proofs.Common.{◌≡◌, ◌≢◌, ℕ, ◌+◌, ◌<◌, ◌≤◌, ◌⊎◌, inl, inr, ℤ, pos, ◌+ℤ◌, ◌*ℤ◌, List, [], ◌∷◌, ◌++◌, length, take, drop, get_or, All, sym, ap, ap₂, ◌∙◌, arith}
use Rattle.std.proofs.lemmas.Int.{ints}
use Rattle.std.proofs.lemmas.Bool.Decides.{nat_tests}
use Rattle.std.proofs.Math.IntN.{*ℤ-zero}
use Rattle.std.proofs.lemmas.List.{drop_more, drop_all, take_more}
use Rattle.std.proofs.lemmas.List.Elements.{All-nil, All-cons, All-head, All-tail, All-weaker, All-append, All-same}
use Rattle.ff_divisor.specs.FormalSums.{IsFormalSum, multiplicity}
use Rattle.ff_divisor.specs.Steps.{entry_of, Precede, IsSumOf, IsMultipleOf}
use Rattle.ff_divisor.proofs.Integers.{*ℤ-sum}
use Rattle.ff_divisor.proofs.FormalSums.{formal_nil, formal_append, formal_drop, formal_later, formal_entry, entry_all, entry_some}
use Rattle.ff_divisor.proofs.Multiplicities.{share, multiplicity-append, multiplicity-take-drop, multiplicity_entry}

-- ---- one entry more

-- behind entries of earlier places
pub formal_push : (es : List (ℕ × ℤ)) (p : ℕ) (m : ℤ) → IsFormalSum es → All (λ e. e.0 < p) es
    → IsFormalSum (es ++ entry_of p m)
formal_push es p m formal before = formal_append es (entry_of p m) formal (formal_entry p m)
    (All-weaker (λ e. e.0 < p) (λ e. All (λ f. e.0 < f.0) (entry_of p m))
    (λ e less. entry_all (λ f. e.0 < f.0) p m less) es before)

pub precede_push : (es : List (ℕ × ℤ)) (p : ℕ) (m : ℤ) (fs : List (ℕ × ℤ)) → Precede es fs → All (λ f. p < f.0) fs
    → Precede (es ++ entry_of p m) fs
precede_push es p m fs before after =
    let P = λ (e : ℕ × ℤ). All (λ f. e.0 < f.0) fs in
    All-append P es (entry_of p m) before (entry_all P p m after)

-- what comes before entries comes before the first of them, and before the rest
pub precede_head : (es : List (ℕ × ℤ)) (f : ℕ × ℤ) (fs : List (ℕ × ℤ)) → Precede es (f ∷ fs) → All (λ e. e.0 < f.0) es
precede_head es f fs before = All-weaker (λ e. All (λ g. e.0 < g.0) (f ∷ fs)) (λ e. e.0 < f.0)
    (λ e h. All-head (λ g. e.0 < g.0) f fs h) es before

pub precede_tail : (es : List (ℕ × ℤ)) (f : ℕ × ℤ) (fs : List (ℕ × ℤ)) → Precede es (f ∷ fs) → Precede es fs
precede_tail es f fs before = All-weaker (λ e. All (λ g. e.0 < g.0) (f ∷ fs)) (λ e. All (λ g. e.0 < g.0) fs)
    (λ e h. All-tail (λ g. e.0 < g.0) f fs h) es before

-- entry i, as it was read, and those after it
pub rest_is : (es : List (ℕ × ℤ)) (i : ℕ) (e : ℕ × ℤ) → i < length es → e ≡ get_or es i e
    → drop i es ≡ e ∷ drop (i + 1) es
rest_is es i e less e_is = drop_more es i e less ∙ ap (λ f. f ∷ drop (i + 1) es) (sym e_is)

pub multiplicity_more : (p : ℕ) (es : List (ℕ × ℤ)) (i : ℕ) (e : ℕ × ℤ) → i < length es → e ≡ get_or es i e
    → multiplicity p (take (i + 1) es) ≡ multiplicity p (take i es) +ℤ share p e
multiplicity_more p es i e less e_is =
    ap (multiplicity p) (take_more es i e less ∙ ap (λ f. take i es ++ f ∷ []) (sym e_is))
    ∙ multiplicity-append p (take i es) (e ∷ []) ∙ ap (λ z. multiplicity p (take i es) +ℤ z) (one (share p e))
  where
    one : (z : ℤ) → z +ℤ pos 0 ≡ z
    one z = omega (arith, ints)

pub multiplicity_push : (p : ℕ) (es : List (ℕ × ℤ)) (q : ℕ) (m : ℤ)
    → multiplicity p (es ++ entry_of q m) ≡ multiplicity p es +ℤ share p (q, m)
multiplicity_push p es q m =
    multiplicity-append p es (entry_of q m) ∙ ap (λ z. multiplicity p es +ℤ z) (multiplicity_entry p q m)

-- entries of one place are added, and multiplied, in their share
pub share-sum : (p q : ℕ) (a b : ℤ) → share p (q, a +ℤ b) ≡ share p (q, a) +ℤ share p (q, b)
share-sum p q a b = grind (arith, nat_tests)

pub share-multiple : (p q : ℕ) (m a : ℤ) → share p (q, m *ℤ a) ≡ m *ℤ share p (q, a)
share-multiple p q m a = grind (arith, nat_tests, *ℤ-zero m)

-- ---- sums

module _ (a : List (ℕ × ℤ)) (i : ℕ) (b : List (ℕ × ℤ)) (j : ℕ) (sum new : List (ℕ × ℤ)) (x y : ℕ × ℤ)
    (a_formal : IsFormalSum a) (b_formal : IsFormalSum b) (kept : IsSumOf a i b j sum)
    (i_less : i < length a) (x_is : x ≡ get_or a i x) (j_less : j < length b) (y_is : y ≡ get_or b j y) where
  a_rest : IsFormalSum (x ∷ drop (i + 1) a)
  a_rest = rw (rest_is a i x i_less x_is) at (formal_drop i a a_formal)

  b_rest : IsFormalSum (y ∷ drop (j + 1) b)
  b_rest = rw (rest_is b j y j_less y_is) at (formal_drop j b b_formal)

  before_x : Precede sum (x ∷ drop (i + 1) a)
  before_x = rw (rest_is a i x i_less x_is) at kept.before_a

  before_y : Precede sum (y ∷ drop (j + 1) b)
  before_y = rw (rest_is b j y j_less y_is) at kept.before_b

  -- the places of the entries that are left come after an earlier one
  later : (p : ℕ) (f : ℕ × ℤ) (fs : List (ℕ × ℤ)) → IsFormalSum (f ∷ fs) → p < f.0 → All (λ g. p < g.0) (f ∷ fs)
  later p f fs formal less = All-cons (λ g. p < g.0) f fs less
      (All-weaker (λ g. f.0 < g.0) (λ g. p < g.0) (λ g next. omega arith) fs (formal_later f fs formal))

  pub sum_left : x.1 ≢ pos 0 → x.0 < y.0 → new ≡ sum ++ x ∷ [] → IsSumOf a (i + 1) b j new
  sum_left some less new_is =
      let pushed : new ≡ sum ++ entry_of x.0 x.1 = new_is ∙ ap (λ w. sum ++ w) (sym (entry_some x.0 x.1 some)) in
      rw pushed (record {
        formal = formal_push sum x.0 x.1 kept.formal (precede_head sum x (drop (i + 1) a) before_x);
        before_a = precede_push sum x.0 x.1 (drop (i + 1) a) (precede_tail sum x (drop (i + 1) a) before_x)
            (formal_later x (drop (i + 1) a) a_rest);
        before_b = precede_push sum x.0 x.1 (drop j b) kept.before_b
            (rw (rest_is b j y j_less y_is) (later x.0 y (drop (j + 1) b) b_rest less));
        multiplicities = λ p.
            regroup _ _ _ _ _ _ (multiplicity_push p sum x.0 x.1) (kept.multiplicities p)
            (multiplicity_more p a i x i_less x_is);
      })
    where
      regroup : (new old s t t' u : ℤ) → new ≡ old +ℤ s → old ≡ t +ℤ u → t' ≡ t +ℤ s → new ≡ t' +ℤ u
      regroup new old s t t' u e f g = omega (arith, ints)

  pub sum_right : y.1 ≢ pos 0 → y.0 < x.0 → new ≡ sum ++ y ∷ [] → IsSumOf a i b (j + 1) new
  sum_right some less new_is =
      let pushed : new ≡ sum ++ entry_of y.0 y.1 = new_is ∙ ap (λ w. sum ++ w) (sym (entry_some y.0 y.1 some)) in
      rw pushed (record {
        formal = formal_push sum y.0 y.1 kept.formal (precede_head sum y (drop (j + 1) b) before_y);
        before_a = precede_push sum y.0 y.1 (drop i a) kept.before_a
            (rw (rest_is a i x i_less x_is) (later y.0 x (drop (i + 1) a) a_rest less));
        before_b = precede_push sum y.0 y.1 (drop (j + 1) b) (precede_tail sum y (drop (j + 1) b) before_y)
            (formal_later y (drop (j + 1) b) b_rest);
        multiplicities = λ p.
            regroup _ _ _ _ _ _ (multiplicity_push p sum y.0 y.1) (kept.multiplicities p)
            (multiplicity_more p b j y j_less y_is);
      })
    where
      regroup : (new old s t u u' : ℤ) → new ≡ old +ℤ s → old ≡ t +ℤ u → u' ≡ u +ℤ s → new ≡ t +ℤ u'
      regroup new old s t u u' e f g = omega (arith, ints)

  pub sum_both : (m : ℤ) → m ≡ x.1 +ℤ y.1 → x.0 ≡ y.0 → new ≡ sum ++ entry_of x.0 m → IsSumOf a (i + 1) b (j + 1) new
  sum_both m m_is place new_is =
      let after_b : All (λ f. x.0 < f.0) (drop (j + 1) b) = rw place (formal_later y (drop (j + 1) b) b_rest) in
      rw new_is (record {
        formal = formal_push sum x.0 m kept.formal (precede_head sum x (drop (i + 1) a) before_x);
        before_a = precede_push sum x.0 m (drop (i + 1) a) (precede_tail sum x (drop (i + 1) a) before_x)
            (formal_later x (drop (i + 1) a) a_rest);
        before_b = precede_push sum x.0 m (drop (j + 1) b) (precede_tail sum y (drop (j + 1) b) before_y) after_b;
        multiplicities = λ p.
            let shares : share p (x.0, m) ≡ share p x +ℤ share p y =
            ap (λ z. share p (x.0, z)) m_is ∙ share-sum p x.0 x.1 y.1
            ∙ ap (λ q. share p x +ℤ share p (q, y.1)) place in
            regroup (multiplicity p (sum ++ entry_of x.0 m)) (multiplicity p sum) (share p (x.0, m)) (share p x)
            (share p y)
            (multiplicity p (take i a)) (multiplicity p (take (i + 1) a)) (multiplicity p (take j b))
            (multiplicity p (take (j + 1) b)) (multiplicity_push p sum x.0 m) shares (kept.multiplicities p)
            (multiplicity_more p a i x i_less x_is) (multiplicity_more p b j y j_less y_is);
      })
    where
      regroup : (new old s v w t t' u u' : ℤ) → new ≡ old +ℤ s → s ≡ v +ℤ w → old ≡ t +ℤ u → t' ≡ t +ℤ v → u' ≡ u +ℤ w
          → new ≡ t' +ℤ u'
      regroup new old s v w t t' u u' e f g h k = omega (arith, ints)

-- one list is at its end, and what is left of the other is written behind
module _ (a : List (ℕ × ℤ)) (i : ℕ) (b : List (ℕ × ℤ)) (j : ℕ) (sum : List (ℕ × ℤ)) (a_formal : IsFormalSum a)
    (b_formal : IsFormalSum b) (kept : IsSumOf a i b j sum) (ended : (length a ≤ i) ⊎ (length b ≤ j)) where
  pub sum_formal : IsFormalSum ((sum ++ drop i a) ++ drop j b)
  sum_formal = formal_append (sum ++ drop i a) (drop j b)
      (formal_append sum (drop i a) kept.formal (formal_drop i a a_formal) kept.before_a) (formal_drop j b b_formal)
      (All-append P sum (drop i a) kept.before_b (apart ended))
    where
      P : ℕ × ℤ → Type 0
      P e = All (λ f. e.0 < f.0) (drop j b)

      apart : (length a ≤ i) ⊎ (length b ≤ j) → All P (drop i a)
      apart (inl end) = All-same P (drop i a) [] (drop_all i a end) (All-nil P)
      apart (inr end) = λ k d less.
          let Q = λ (f : ℕ × ℤ). (get_or (drop i a) k d).0 < f.0 in
          All-same Q (drop j b) [] (drop_all j b end) (All-nil Q)

  pub sum_multiplicities : (p : ℕ)
      → multiplicity p ((sum ++ drop i a) ++ drop j b) ≡ multiplicity p a +ℤ multiplicity p b
  sum_multiplicities p =
      regroup _ _ _ _ _ _ _ _ _ (multiplicity-append p (sum ++ drop i a) (drop j b))
      (multiplicity-append p sum (drop i a))
      (kept.multiplicities p) (multiplicity-take-drop p i a) (multiplicity-take-drop p j b)
    where
      regroup : (all part old ta da tb db na nb : ℤ) → all ≡ part +ℤ db → part ≡ old +ℤ da → old ≡ ta +ℤ tb
          → na ≡ ta +ℤ da → nb ≡ tb +ℤ db → all ≡ na +ℤ nb
      regroup all part old ta da tb db na nb e f g h k = omega (arith, ints)

-- ---- multiples

pub multiple_start : (m : ℤ) (es : List (ℕ × ℤ)) → IsMultipleOf m es 0 []
multiple_start m es = record {
  formal = formal_nil;
  before = All-nil (λ e. All (λ f. e.0 < f.0) (drop 0 es));
  multiplicities = λ p. sym (*ℤ-zero m);
}

pub multiple_step : (m : ℤ) (es : List (ℕ × ℤ)) (i : ℕ) (multiple new : List (ℕ × ℤ)) (e : ℕ × ℤ) (n : ℤ)
    → IsFormalSum es → IsMultipleOf m es i multiple → i < length es → e ≡ get_or es i e → n ≡ m *ℤ e.1
    → new ≡ multiple ++ entry_of e.0 n → IsMultipleOf m es (i + 1) new
multiple_step m es i multiple new e n es_formal kept less e_is n_is new_is =
    let rest : IsFormalSum (e ∷ drop (i + 1) es) = rw (rest_is es i e less e_is) at (formal_drop i es es_formal) in
    let before : Precede multiple (e ∷ drop (i + 1) es) = rw (rest_is es i e less e_is) at kept.before in
    rw new_is (record {
      formal = formal_push multiple e.0 n kept.formal (precede_head multiple e (drop (i + 1) es) before);
      before = precede_push multiple e.0 n (drop (i + 1) es) (precede_tail multiple e (drop (i + 1) es) before)
          (formal_later e (drop (i + 1) es) rest);
      multiplicities = λ p.
          multiplicity_push p multiple e.0 n
          ∙ ap₂ (λ u v. u +ℤ v) (kept.multiplicities p)
          (ap (λ z. share p (e.0, z)) n_is ∙ share-multiple p e.0 m e.1)
          ∙ sym (*ℤ-sum m (multiplicity p (take i es)) (share p e))
          ∙ ap (λ z. m *ℤ z) (sym (multiplicity_more p es i e less e_is));
    })
