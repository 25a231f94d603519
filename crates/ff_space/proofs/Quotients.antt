-- Quotients of products by a denominator, and numerators over a common multiple of the denominators.
use Rattle.std.proofs.Common.{◌≡◌, ◌≢◌, ℕ, zero, suc, ◌+◌, ◌*◌, ◌<◌, ◌≤◌, List, [], ◌∷◌, ◌++◌, length, get_or, map, take, drop, refl, sym, ◌∙◌, ap, ap₂, subst, arith, All}
use Rattle.std.proofs.lemmas.List.{length-append, length-drop, length-take-le, take_all, take_more, map-append, nil_from_length, take-append-le, drop-append-le}
use Rattle.std.proofs.lemmas.List.Elements.{All-nil, All-cons, All-head, All-tail, All-append, All-take, All-drop, All-get_or}
use Rattle.std.proofs.Math.Nat.{suc-mul, zero-mul}
use Rattle.ff_fields.specs.Field.{CodeField}
use Rattle.ff_fields.specs.Over.{IsOver, IsOver_nil}
use Rattle.ff_poly.specs.Words.{IsPoly, IsMonicList, IsQuotientWithRest, DividesList, product_of, sum_of}
use Rattle.ff_poly.specs.PolyOver.{IsOver_product_of}
use Rattle.ff_poly.specs.Value.{one_quotient, product_of_assoc}
use Rattle.ff_poly.proofs.Parts.{IsPoly_product_of}
use Rattle.ff_factor.specs.LowestTerms.{AreSameFractions, IsInLowestTermsOf}
use Rattle.function_field.specs.Values.{ElemValue, PresValue, IsElem, IsMonicElem, function_of}
use Rattle.ff_lattice.proofs.Divisors.{sum_nil}
use Rattle.ff_space.specs.Steps.{IsQuotient, AreQuotientsOver, AreNumerators, AreLeastNumerators, elems_in}
use Rattle.ff_space.proofs.Fractions.{functions_of_fractions}
use Rattle.ff_space.proofs.LeastDenominators.{multiple_of_lowest}

-- lists with a last member, and parts of lists of products
pub All-last : {A : Type 0} (T : A → Type 0) (xs : List A) (x : A) → All T xs → T x → All T (xs ++ x ∷ [])
All-last T xs x h t = All-append T xs (x ∷ []) h (All-cons T x [] t (All-nil T))

pub read_default : {A : Type 0} (T : A → Type 0) (xs : List A) (i : ℕ) (x : A) → All T xs → i < length xs
    → x ≡ get_or xs i x → T x
read_default T xs i x all less is = subst T (sym is) (All-get_or T xs i x less all)

pub map-take : {A B : Type 0} (f : A → B) (n : ℕ) (xs : List A) → map f (take n xs) ≡ take n (map f xs)
map-take f zero xs = refl
map-take f (suc n) [] = refl
map-take f (suc n) (x ∷ xs) = ap (λ ys. f x ∷ ys) (map-take f n xs)

pub map-drop : {A B : Type 0} (f : A → B) (n : ℕ) (xs : List A) → map f (drop n xs) ≡ drop n (map f xs)
map-drop f zero xs = refl
map-drop f (suc n) [] = refl
map-drop f (suc n) (x ∷ xs) = map-drop f n xs

-- the elements of two lists of numerators
pub elems_append : (n a b : ℕ) (ws us : List (List ℕ)) (e : List ℕ) → length ws ≡ a * n
    → elems_in n (a + b) (ws ++ us) e ≡ elems_in n a ws e ++ elems_in n b us e
elems_append n zero b ws us e long =
    ap₂ (λ m xs. elems_in n m (xs ++ us) e) (let z : 0 + b ≡ b = omega arith in z)
    (nil_from_length ws (long ∙ zero-mul n))
elems_append n (suc a) b ws us e long =
    let fits : n ≤ length ws = omega (arith, long, suc-mul a n) in
    ap (λ m. elems_in n m (ws ++ us) e) (let z : suc a + b ≡ suc (a + b) = omega arith in z)
    ∙ ap₂ (λ (vs xs : List (List ℕ)). record { num = vs; den = e } ∷ elems_in n (a + b) xs e)
    (take-append-le n ws us fits) (drop-append-le n ws us fits)
    ∙ ap (λ zs. record { num = take n ws; den = e } ∷ zs)
    (elems_append n a b (drop n ws) us e (length-drop n ws ∙ (omega (arith, long, suc-mul a n))))

module _ (k : CodeField) where
  -- the quotient is that of the division, if there is one
  pub no_quotient : (a d q rest w : List ℕ) → IsOver k.ops a → IsOver k.ops d → IsPoly d → d ≢ []
      → IsQuotientWithRest k.ops a d q rest → rest ≢ [] → IsOver k.ops w → IsPoly w → ¬ (a ≡ product_of k.ops d w)
  no_quotient a d q rest w a_in d_in d_poly d_some division some w_in w_poly e =
      some ((one_quotient k a d q w rest [] d_in d_poly division (record {
        whole = e ∙ sym (sum_nil k (product_of k.ops d w) (IsOver_product_of k d_in w_in)
            (IsPoly_product_of k.ops d w));
        shorter = long d d_some;
        quotient_in = w_in;
        rest_in = IsOver_nil;
        quotient_poly = w_poly;
        rest_poly = record { trimmed = tt };
      })).1)
    where
      long : (d : List ℕ) → d ≢ [] → 0 < length d
      long [] n = absurd (n refl)
      long (x ∷ d) n = omega arith

  pub quotient_is : (a d q rest : List ℕ) → IsOver k.ops d → IsQuotientWithRest k.ops a d q rest → rest ≡ []
      → a ≡ product_of k.ops d q
  quotient_is a d q rest d_in division none =
      division.whole ∙ ap (λ r. sum_of k.ops (product_of k.ops d q) r) none
      ∙ sum_nil k (product_of k.ops d q) (IsOver_product_of k d_in division.quotient_in) (IsPoly_product_of k.ops d q)

  pub quotients_none : (e d : List ℕ) → AreQuotientsOver k.ops e [] d []
  quotients_none e d = record { count = refl; over = All-nil (IsOver k.ops); poly = All-nil IsPoly; same = refl }

  -- one numerator more
  pub quotients_more : (e d : List ℕ) (vs ws new : List (List ℕ)) (i : ℕ) (v w : List ℕ) → i < length vs
      → v ≡ get_or vs i v → AreQuotientsOver k.ops e (take i vs) d ws → IsQuotient k.ops e v d w → new ≡ ws ++ w ∷ []
      → AreQuotientsOver k.ops e (take (i + 1) vs) d new
  quotients_more e d vs ws new i v w less v_is so_far h new_is =
      subst (AreQuotientsOver k.ops e (take (i + 1) vs) d) (sym new_is)
      (subst (λ xs. AreQuotientsOver k.ops e xs d (ws ++ w ∷ []))
      (ap (λ x. take i vs ++ x ∷ []) v_is ∙ sym (take_more vs i v less))
      (record {
        count =
            length-append ws (w ∷ []) ∙ ap (λ m. m + 1) so_far.count ∙ sym (length-append (take i vs) (v ∷ []));
        over = All-last (IsOver k.ops) ws w so_far.over h.over;
        poly = All-last IsPoly ws w so_far.poly h.poly;
        same =
            map-append (product_of k.ops e) (take i vs) (v ∷ [])
            ∙ ap₂ (λ xs x. xs ++ x ∷ []) so_far.same h.is
            ∙ sym (map-append (product_of k.ops d) ws (w ∷ []));
      }))

  -- the quotient of a numerator, where all have one
  pub quotient_at : (e d : List ℕ) (vs us : List (List ℕ)) (i : ℕ) (v : List ℕ) → i < length vs → v ≡ get_or vs i v
      → AreSameFractions k.ops vs d us e → All (IsOver k.ops) us → All IsPoly us
      → (w : List ℕ) × IsOver k.ops w × IsPoly w × (product_of k.ops e v ≡ product_of k.ops d w)
  quotient_at e d [] us i v less v_is same over poly = absurd (omega arith)
  quotient_at e d (x ∷ vs) [] i v less v_is same over poly = let l = ap length same in absurd (omega arith)
  quotient_at e d (x ∷ vs) (u ∷ us) zero v less v_is same over poly =
      let first : product_of k.ops e x ≡ product_of k.ops d u = cc in
      (u, All-head (IsOver k.ops) u us over, All-head IsPoly u us poly, ap (product_of k.ops e) v_is ∙ first)
  quotient_at e d (x ∷ vs) (u ∷ us) (suc i) v less v_is same over poly =
      let rest : map (product_of k.ops e) vs ≡ map (product_of k.ops d) us = cc in
      quotient_at e d vs us i v (omega arith) v_is rest (All-tail (IsOver k.ops) u us over) (All-tail IsPoly u us poly)

  -- where the denominator divides e, there are numerators over e
  pub record HasNumerators (z : ElemValue) (e : List ℕ) : Type 0 where
    pub numerators : List (List ℕ)
    pub over : All (IsOver k.ops) numerators
    pub poly : All IsPoly numerators
    pub same : AreSameFractions k.ops z.num z.den numerators e

  pub numerators_exist : (vs : List (List ℕ)) (d e : List ℕ) → All (IsOver k.ops) vs → IsOver k.ops d
      → DividesList k.ops d e → HasNumerators (record { num = vs; den = d }) e
  numerators_exist [] d e vs_in d_in h = record {
    numerators = [];
    over = All-nil (IsOver k.ops);
    poly = All-nil IsPoly;
    same = refl;
  }
  numerators_exist (v ∷ vs) d e vs_in d_in h =
      let r = numerators_exist vs d e (All-tail (IsOver k.ops) v vs vs_in) d_in h in
      let v_in = All-head (IsOver k.ops) v vs vs_in in
      let w = product_of k.ops h.quotient v in
      record {
        numerators = w ∷ r.numerators;
        over = All-cons (IsOver k.ops) w r.numerators (IsOver_product_of k h.quotient_in v_in) r.over;
        poly = All-cons IsPoly w r.numerators (IsPoly_product_of k.ops h.quotient v) r.poly;
        same =
            ap₂ ◌∷◌
            (ap (λ x. product_of k.ops x v) h.product ∙ product_of_assoc k d h.quotient v d_in h.quotient_in v_in)
            r.same;
      }

  -- one element more
  pub numerators_none : (n : ℕ) (e : List ℕ) → AreNumerators k n [] [] e
  numerators_none n e = record {
    count = sym (zero-mul n);
    over = All-nil (IsOver k.ops);
    poly = All-nil IsPoly;
    same = λ p some n_is. refl;
  }

  pub numerators_more : (n : ℕ) (e : List ℕ) (zs : List ElemValue) (i : ℕ) (z : ElemValue) (ws us new : List (List ℕ))
      → i < length zs → z ≡ get_or zs i z → IsElem k.ops n z → IsMonicElem z → IsOver k.ops e → IsMonicList e
      → AreNumerators k n (take i zs) ws e → AreQuotientsOver k.ops e z.num z.den us → new ≡ ws ++ us
      → AreNumerators k n (take (i + 1) zs) new e
  numerators_more n e zs i z ws us new less z_is z_in z_monic e_in e_monic so_far h new_is =
      subst (λ xs. AreNumerators k n (take (i + 1) zs) xs e) (sym new_is)
      (subst (λ xs. AreNumerators k n xs (ws ++ us) e)
      (ap (λ x. take i zs ++ x ∷ []) z_is ∙ sym (take_more zs i z less))
      (record {
        count = counted;
        over = All-append (IsOver k.ops) ws us so_far.over h.over;
        poly = All-append IsPoly ws us so_far.poly h.poly;
        same = same;
      }))
    where
      us_count : length us ≡ n
      us_count = h.count ∙ z_in.one_each

      counted : length (ws ++ us) ≡ length (take i zs ++ z ∷ []) * n
      counted =
          length-append ws us
          ∙ (omega (arith, so_far.count, us_count, suc-mul (length (take i zs)) n))
          ∙ ap (λ m. m * n) (sym (length-append (take i zs) (z ∷ [])
          ∙ (let e : length (take i zs) + 1 ≡ suc (length (take i zs)) = omega arith in e)))

      same : (p : PresValue) → 1 ≤ n → p.n ≡ n
          → map (function_of k p) (elems_in n (length (take i zs ++ z ∷ [])) (ws ++ us) e)
          ≡ map (function_of k p) (take i zs ++ z ∷ [])
      same p some n_is =
          ap (λ m. map (function_of k p) (elems_in n m (ws ++ us) e)) (length-append (take i zs) (z ∷ []))
          ∙ ap (map (function_of k p)) (elems_append n (length (take i zs)) 1 ws us e so_far.count)
          ∙ map-append (function_of k p) (elems_in n (length (take i zs)) ws e) (elems_in n 1 us e)
          ∙ ap₂ (λ fs f. fs ++ f ∷ []) (so_far.same p some n_is) last
          ∙ sym (map-append (function_of k p) (take i zs) (z ∷ []))
        where
          last : function_of k p (record { num = take n us; den = e }) ≡ function_of k p z
          last =
              ap (λ vs. function_of k p (record { num = vs; den = e }))
              (take_all n us (omega (arith, us_count)))
              ∙ sym (functions_of_fractions k p (subst (λ m. 1 ≤ m) (sym n_is) some) z.num us z.den e
              (z_in.one_each ∙ sym n_is) z_in.num_over z_monic.num_poly z_in.den_over z_monic.monic
              (us_count ∙ sym n_is) h.over h.poly e_in e_monic h.same)

  -- numerators that are brought into lowest terms together
  module _ (p : PresValue) (some_n : 1 ≤ p.n) (d e : List ℕ) (d_in : IsOver k.ops d) (d_monic : IsMonicList d)
      (e_in : IsOver k.ops e) (e_monic : IsMonicList e) where
    chunks_same : (count : ℕ) (vs ws : List (List ℕ)) → length vs ≡ count * p.n → length ws ≡ count * p.n
        → All (IsOver k.ops) vs → All IsPoly vs → All (IsOver k.ops) ws → All IsPoly ws
        → AreSameFractions k.ops vs d ws e
        → map (function_of k p) (elems_in p.n count vs d) ≡ map (function_of k p) (elems_in p.n count ws e)
    chunks_same zero vs ws vs_long ws_long vs_in vs_poly ws_in ws_poly same = refl
    chunks_same (suc count) vs ws vs_long ws_long vs_in vs_poly ws_in ws_poly same =
        let s = suc-mul count p.n in
        ap₂ ◌∷◌
        (functions_of_fractions k p some_n (take p.n vs) (take p.n ws) d e
        (length-take-le p.n vs (omega (arith, s, vs_long)))
        (All-take (IsOver k.ops) p.n vs vs_in) (All-take IsPoly p.n vs vs_poly) d_in d_monic
        (length-take-le p.n ws (omega (arith, s, ws_long)))
        (All-take (IsOver k.ops) p.n ws ws_in) (All-take IsPoly p.n ws ws_poly) e_in e_monic
        (map-take (product_of k.ops e) p.n vs ∙ ap (take p.n) same ∙ sym (map-take (product_of k.ops d) p.n ws)))
        (chunks_same count (drop p.n vs) (drop p.n ws)
        (length-drop p.n vs ∙ (omega (arith, s, vs_long))) (length-drop p.n ws ∙ (omega (arith, s, ws_long)))
        (All-drop (IsOver k.ops) p.n vs vs_in) (All-drop IsPoly p.n vs vs_poly)
        (All-drop (IsOver k.ops) p.n ws ws_in) (All-drop IsPoly p.n ws ws_poly)
        (map-drop (product_of k.ops e) p.n vs ∙ ap (drop p.n) same ∙ sym (map-drop (product_of k.ops d) p.n ws)))

  pub least_numerators : (n : ℕ) (zs : List ElemValue) (ws vs : List (List ℕ)) (e d : List ℕ) → IsOver k.ops e
      → IsMonicList e → AreNumerators k n zs ws e → IsInLowestTermsOf k.ops ws e vs d → AreLeastNumerators k n zs vs d
  least_numerators n zs ws vs e d e_in e_monic h low = record {
    numerators = record {
      count = low.one_each ∙ h.count;
      over = low.num_over;
      poly = low.num_poly;
      same = λ p some n_is.
          subst (λ m. map (function_of k p) (elems_in m (length zs) vs d) ≡ map (function_of k p) zs) n_is
          (chunks_same p (subst (λ m. 1 ≤ m) (sym n_is) some) d e low.den_over low.monic e_in e_monic (length zs) vs ws
          (low.one_each ∙ h.count ∙ ap (λ m. length zs * m) (sym n_is)) (h.count ∙ ap (λ m. length zs * m) (sym n_is))
          low.num_over low.num_poly h.over h.poly low.same
          ∙ subst (λ m. map (function_of k p) (elems_in m (length zs) ws e) ≡ map (function_of k p) zs) (sym n_is)
          (h.same p some n_is));
    };
    den_over = low.den_over;
    monic = low.monic;
    least = multiple_of_lowest k ws e vs d low;
  }
