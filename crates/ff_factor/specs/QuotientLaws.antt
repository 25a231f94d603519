-- k[x] modulo a monic polynomial: a list of codes stands for the class of its polynomial, and so it is an algebra.
use Rattle.std.proofs.Common.{◌≡◌, ℕ, zero, suc, ◌+◌, ◌-◌, ◌<◌, ◌≤◌, ◌↔◌, List, [], ◌∷◌, ◌++◌, length, get_or, take, replicate, refl, sym, ap, ap₂, ◌∙◌, subst, arith}
use Rattle.std.proofs.lemmas.List.{length-append, length-map, length-replicate, length-take-le, take_more, take_all, length_push}
use Rattle.ring_lemmas.specs.Ring.{CommRing}
use Rattle.ring_lemmas.specs.Lists.{coeff_of, add_lists, scale_list}
use Rattle.ring_lemmas.specs.Congruence.{IsCongruent}
use Rattle.ring_lemmas.proofs.Ring.{zero_mul, one_mul}
use Rattle.ring_lemmas.proofs.Solver.{ring, reads}
use Rattle.ring_lemmas.proofs.Lists.{length_scale_list}
use Rattle.ring_lemmas.proofs.Congruence.{congruent_same, congruent_sym, congruent_trans, congruent_add, congruent_mul, congruent_mul_left, congruent_refl}
use Rattle.ring_theory.specs.Classes.{rest}
use Rattle.ring_theory.proofs.Classes.{length_rest, rest_congruent, short_same}
use Rattle.ff_fields.specs.Field.{CodeField}
use Rattle.ff_fields.specs.Code.{raw_ring, code_ring, code_domain, zero_in}
use Rattle.ff_fields.specs.Over.{IsOver, IsOver_cons, IsOver_head, IsOver_tail, IsOver_take, IsOver_append, IsOver_zeros, IsOver_scale, get_or_below}
use Rattle.ff_poly.specs.Value.{value}
use Rattle.ff_poly.specs.Polynomials.{Polynomial, polynomials, constant_poly, x_poly, value_cons, value_nil, codes_of, IsOver_codes_of, value_codes_of}
use Rattle.ff_falg.specs.Algebras.{IsAlgebra, IsVector}
use Rattle.ff_falg.proofs.Lists.{code_add_neg}
use Rattle.ff_falg.proofs.Vectors.{zeros_in, sum_in, multiple_in}
use Rattle.ff_factor.specs.Quotients.{IsModulus, times_x, product_modulo, quotient_algebra}
use Rattle.polynomial_theory.proofs.ListValues.{value_add_lists, value_scale_list, value_zeros, value_unit, value_up, value_padded, same_lists, value_short, length_value, monic_poly, monic_top}

-- sums and multiples of lists to which a code is appended
add_push : (k : CodeField) (u w : List ℕ) (a b : ℕ) → length u ≡ length w
    → add_lists (raw_ring k.ops) (u ++ a ∷ []) (w ++ b ∷ []) ≡ add_lists (raw_ring k.ops) u w ++ k.add a b ∷ []
add_push k [] [] a b same = refl
add_push k [] (y ∷ w) a b same = absurd (omega arith)
add_push k (x ∷ u) [] a b same = absurd (omega arith)
add_push k (x ∷ u) (y ∷ w) a b same = ap (λ v. k.add x y ∷ v) (add_push k u w a b (omega arith))

scale_push : (k : CodeField) (c : ℕ) (u : List ℕ) (a : ℕ)
    → scale_list (raw_ring k.ops) c (u ++ a ∷ []) ≡ scale_list (raw_ring k.ops) c u ++ k.mul c a ∷ []
scale_push k c [] a = refl
scale_push k c (x ∷ u) a = ap (λ v. k.mul c x ∷ v) (scale_push k c u a)

take_push : (u : List ℕ) (a : ℕ) → take (length u) (u ++ a ∷ []) ≡ u
take_push [] a = refl
take_push (x ∷ u) a = ap (λ v. x ∷ v) (take_push u a)

-- a list of n + 1 codes is its first n codes and the one at n
split_last : (w : List ℕ) (n : ℕ) → length w ≡ suc n → w ≡ take n w ++ get_or w n 0 ∷ []
split_last w n size = sym (take_all (n + 1) w (omega arith)) ∙ take_more w n 0 (omega arith)

get_or_up : (v : List ℕ) (n : ℕ) → 0 < n → get_or (0 ∷ v) n 0 ≡ get_or v (n - 1) 0
get_or_up v zero some = absurd (omega arith)
get_or_up v (suc n) some = ap (λ m. get_or v m 0) (let e : n ≡ suc n - 1 = omega arith in e)

module _ (k : CodeField) (g : List ℕ) (h : IsModulus k.ops g) where
  abbrev S : CommRing (Polynomial k)
  S = (polynomials k).ring

  infixl 65 ◌⊕◌
  infixl 70 ◌⊗◌
  infixr 80 ⊖◌
  open polynomials k use {𝟘, 𝟙, ◌⊕◌, ◌⊗◌, ⊖◌}

  abbrev pub n : ℕ
  n = length g - 1

  abbrev pub CongruentModulo : Polynomial k → Polynomial k → Type 0
  CongruentModulo a b = IsCongruent (polynomials k).ops (value k g) a b

  some : 0 < n
  some = let l = h.not_constant in omega arith

  pub modulus_monic : (code_ring k).◌⊗◌ (code_ring k).𝟙
      (coeff_of (code_ring k).ops (value k g).0 (length (value k g).0 - 1)) ≡ (code_ring k).𝟙
  modulus_monic = one_mul (code_ring k).ring _ ∙ monic_top k g h.over h.monic

  pub modulus_length : length (value k g).0 ≡ length g
  modulus_length = length_value k g h.over (monic_poly k g h.monic)

  pub modulus_deep : 1 < length (value k g).0
  modulus_deep = let l = h.not_constant in omega (arith, modulus_length)

  -- short polynomials that are congruent are the same
  pub short_eq : (a b : Polynomial k) → length a.0 < length g → length b.0 < length g → CongruentModulo a b → a ≡ b
  short_eq a b a_short b_short c =
      short_same (code_ring k) (code_domain k) (value k g) modulus_monic modulus_deep a b
      (subst (λ m. length a.0 < m) (sym modulus_length) a_short)
      (subst (λ m. length b.0 < m) (sym modulus_length) b_short) c

  pub vector_short : (a : List ℕ) → IsVector k.ops n a → length (value k a).0 < length g
  vector_short a a_in = let l = h.not_constant in let s = a_in.size in omega (arith, value_short k a)

  -- vectors that stand for one class are the same
  pub same_class : (a b : List ℕ) → IsVector k.ops n a → IsVector k.ops n b → CongruentModulo (value k a) (value k b) → a ≡ b
  same_class a b a_in b_in c =
      same_lists k a b a_in.over b_in.over (a_in.size ∙ sym b_in.size)
      (short_eq (value k a) (value k b) (vector_short a a_in) (vector_short b b_in) c)

  pub same_by : (a b : List ℕ) (u w : Polynomial k) → IsVector k.ops n a → IsVector k.ops n b → CongruentModulo (value k a) u
      → CongruentModulo (value k b) w → u ≡ w → a ≡ b
  same_by a b u w a_in b_in a_is b_is e =
      same_class a b a_in b_in
      (congruent_trans S (value k g) _ u _ a_is
      (congruent_trans S (value k g) u w _ (congruent_same S (value k g) u w e) (congruent_sym S (value k g) _ w b_is)))

  -- ---- x times a vector

  monic_split : g ≡ take n g ++ 1 ∷ []
  monic_split =
      h.monic.1
      ∙ ap (λ u. u ++ 1 ∷ [])
      (sym (ap₂ take (ap (λ m. m - 1) (ap length h.monic.1 ∙ length_push h.monic.0 1)
      ∙ let e : length h.monic.0 + 1 - 1 ≡ length h.monic.0 = omega arith in e) h.monic.1
      ∙ take_push h.monic.0 1))

  length_low : length (take n g) ≡ n
  length_low = length-take-le n g (omega arith)

  length_up : (v : List ℕ) → IsVector k.ops n v → length (take n (0 ∷ v)) ≡ n
  length_up v v_in = let s = v_in.size in length-take-le n (0 ∷ v) (omega arith)

  abbrev top : List ℕ → ℕ
  top v = get_or v (n - 1) 0

  top_in : (v : List ℕ) → IsVector k.ops n v → top v < k.size
  top_in v v_in = get_or_below k v (n - 1) v_in.over

  pub times_x_in : (v : List ℕ) → IsVector k.ops n v → IsVector k.ops n (times_x k.ops g v)
  times_x_in v v_in =
      sum_in k n (take n (0 ∷ v)) (scale_list (raw_ring k.ops) (k.neg (top v)) (take n g))
      (record { size = length_up v v_in; over = IsOver_take n (IsOver_cons (zero_in k) v_in.over) })
      (multiple_in k n (k.neg (top v)) (take n g) (k.laws.neg_below (top v) (top_in v v_in))
      (record { size = length_low; over = IsOver_take n h.over }))

  -- with a zero on top it is x times v less a multiple of g
  times_x_padded : (v : List ℕ) → IsVector k.ops n v
      → times_x k.ops g v ++ 0 ∷ [] ≡ add_lists (raw_ring k.ops) (0 ∷ v) (scale_list (raw_ring k.ops) (k.neg (top v)) g)
  times_x_padded v v_in =
      let c = k.neg (top v) in
      let c_in = k.laws.neg_below (top v) (top_in v v_in) in
      sym (ap₂ (add_lists (raw_ring k.ops))
      (split_last (0 ∷ v) n (ap suc v_in.size) ∙ ap (λ a. take n (0 ∷ v) ++ a ∷ []) (get_or_up v n some))
      (ap (scale_list (raw_ring k.ops) c) monic_split ∙ scale_push k c (take n g) 1
      ∙ ap (λ a. scale_list (raw_ring k.ops) c (take n g) ++ a ∷ [])
      (k.laws.mul_comm c 1 c_in k.laws.one_below ∙ k.laws.one_mul c c_in))
      ∙ add_push k (take n (0 ∷ v)) (scale_list (raw_ring k.ops) c (take n g)) (top v) c
      (length_up v v_in ∙ sym (length_scale_list (raw_ring k.ops) c (take n g) ∙ length_low))
      ∙ ap (λ a. times_x k.ops g v ++ a ∷ []) (code_add_neg k (top v) (top_in v v_in)))

  pub value_times_x : (v : List ℕ) → IsVector k.ops n v → CongruentModulo (value k (times_x k.ops g v)) (x_poly k ⊗ value k v)
  value_times_x v v_in = record {
    times = constant_poly k (k.neg (top v));
    differs =
        let c = k.neg (top v) in
        let c_in = k.laws.neg_below (top v) (top_in v v_in) in
        sym (value_padded k (times_x k.ops g v) 1)
        ∙ ap (value k) (times_x_padded v v_in)
        ∙ value_add_lists k (0 ∷ v) (scale_list (raw_ring k.ops) c g) (IsOver_cons (zero_in k) v_in.over)
        (IsOver_scale k c g c_in h.over)
        ∙ ap₂ ◌⊕◌ (value_up k v) (value_scale_list k c g c_in h.over
        ∙ (polynomials k).mul_comm (constant_poly k c) (value k g));
  }

  -- ---- products

  pub product_in : (a b : List ℕ) → IsOver k.ops a → IsVector k.ops n b → IsVector k.ops n (product_modulo k.ops g a b)
  product_in [] b a_in b_in = zeros_in k n
  product_in (c ∷ a) b a_in b_in =
      sum_in k n (times_x k.ops g (product_modulo k.ops g a b)) (scale_list (raw_ring k.ops) c b)
      (times_x_in (product_modulo k.ops g a b) (product_in a b (IsOver_tail a_in) b_in))
      (multiple_in k n c b (IsOver_head a_in) b_in)

  -- a product stands for the product of what its factors stand for
  pub value_product_modulo : (a b : List ℕ) → IsOver k.ops a → IsVector k.ops n b
      → CongruentModulo (value k (product_modulo k.ops g a b)) (value k a ⊗ value k b)
  value_product_modulo [] b a_in b_in =
      congruent_same S (value k g) _ _ (value_zeros k n ∙ sym (zero_mul S (value k b))
      ∙ ap (λ w. w ⊗ value k b) (sym (value_nil k)))
  value_product_modulo (c ∷ a) b a_in b_in =
      let before = product_modulo k.ops g a b in
      let before_in = product_in a b (IsOver_tail a_in) b_in in
      congruent_trans S (value k g) _ _ _
      (congruent_same S (value k g) _ _
      (value_add_lists k (times_x k.ops g before) (scale_list (raw_ring k.ops) c b) (times_x_in before before_in).over
      (IsOver_scale k c b (IsOver_head a_in) b_in.over)
      ∙ ap (λ w. value k (times_x k.ops g before) ⊕ w) (value_scale_list k c b (IsOver_head a_in) b_in.over)))
      (congruent_trans S (value k g) _ _ _
      (congruent_add S (value k g) _ (x_poly k ⊗ (value k a ⊗ value k b)) _ (constant_poly k c ⊗ value k b)
      (congruent_trans S (value k g) _ (x_poly k ⊗ value k before) _ (value_times_x before before_in)
      (congruent_mul_left S (value k g) (x_poly k) _ _ (value_product_modulo a b (IsOver_tail a_in) b_in)))
      (congruent_refl S (value k g) (constant_poly k c ⊗ value k b)))
      (congruent_same S (value k g) _ _
      (step (x_poly k) (value k a) (value k b) (constant_poly k c) ∙ ap (λ w. w ⊗ value k b) (sym (value_cons k c a)))))
    where
      step : (x a b c : Polynomial k) → x ⊗ (a ⊗ b) ⊕ c ⊗ b ≡ (c ⊕ x ⊗ a) ⊗ b
      step x a b c = ring S (x ∷ a ∷ b ∷ c ∷ []) λ q h. simp (reads, q, h 0, h 1, h 2, h 3) (q.equal _ _ refl)

  unit_in : IsVector k.ops n (quotient_algebra g).unit
  unit_in = record {
    size = let e = length-replicate {A = ℕ} (n - 1) 0 in let l = some in omega arith;
    over = IsOver_cons k.laws.one_below (IsOver_zeros k (n - 1));
  }

  pub value_quotient_unit : value k (quotient_algebra g).unit ≡ 𝟙
  value_quotient_unit = value_unit k (n - 1)

  pub quotient_laws : IsAlgebra k (quotient_algebra g)
  quotient_laws = record {
    unit_in = unit_in;
    product_in = λ a b a_in b_in. product_in a b a_in.over b_in;
    commutative = λ a b a_in b_in.
        same_by _ _ _ _ (product_in a b a_in.over b_in) (product_in b a b_in.over a_in)
        (value_product_modulo a b a_in.over b_in) (value_product_modulo b a b_in.over a_in)
        (S.mul_comm (value k a) (value k b));
    associative = λ a b c a_in b_in c_in.
        let ab_in = product_in a b a_in.over b_in in
        let bc_in = product_in b c b_in.over c_in in
        same_by _ _ _ _ (product_in _ c ab_in.over c_in) (product_in a _ a_in.over bc_in)
        (congruent_trans S (value k g) _ _ _ (value_product_modulo _ c ab_in.over c_in)
        (congruent_mul S (value k g) _ _ _ _ (value_product_modulo a b a_in.over b_in)
        (congruent_refl S (value k g) (value k c))))
        (congruent_trans S (value k g) _ _ _ (value_product_modulo a _ a_in.over bc_in)
        (congruent_mul_left S (value k g) (value k a) _ _ (value_product_modulo b c b_in.over c_in)))
        (S.mul_assoc (value k a) (value k b) (value k c));
    unit_times = λ a a_in.
        same_by _ _ _ _ (product_in _ a unit_in.over a_in) a_in (value_product_modulo _ a unit_in.over a_in)
        (congruent_refl S (value k g) (value k a))
        (ap (λ w. w ⊗ value k a) value_quotient_unit ∙ one_mul S (value k a));
    distributive = λ a b c a_in b_in c_in.
        let bc_in = sum_in k n b c b_in c_in in
        let ab_in = product_in a b a_in.over b_in in
        let ac_in = product_in a c a_in.over c_in in
        same_by _ _ _ _ (product_in a _ a_in.over bc_in) (sum_in k n _ _ ab_in ac_in)
        (value_product_modulo a _ a_in.over bc_in)
        (congruent_trans S (value k g) _ _ _
        (congruent_same S (value k g) _ _ (value_add_lists k _ _ ab_in.over ac_in.over))
        (congruent_add S (value k g) _ _ _ _ (value_product_modulo a b a_in.over b_in)
        (value_product_modulo a c a_in.over c_in)))
        (ap (λ w. value k a ⊗ w) (value_add_lists k b c b_in.over c_in.over)
        ∙ S.mul_add (value k a) (value k b) (value k c));
    linear = λ c a b c_in a_in b_in.
        let ca_in = multiple_in k n c a c_in a_in in
        let ab_in = product_in a b a_in.over b_in in
        same_by _ _ _ _ (product_in _ b ca_in.over b_in) (multiple_in k n c _ c_in ab_in)
        (value_product_modulo _ b ca_in.over b_in)
        (congruent_trans S (value k g) _ _ _ (congruent_same S (value k g) _ _ (value_scale_list k c _ c_in ab_in.over))
        (congruent_mul_left S (value k g) (constant_poly k c) _ _ (value_product_modulo a b a_in.over b_in)))
        (ap (λ w. w ⊗ value k b) (value_scale_list k c a c_in a_in.over)
        ∙ S.mul_assoc (constant_poly k c) (value k a) (value k b));
  }

  -- ---- classes and vectors

  -- a vector is 0 exactly where g divides what it stands for
  pub zero_class : (a : List ℕ) → IsVector k.ops n a → (a ≡ replicate n 0) ↔ CongruentModulo (value k a) 𝟘
  zero_class a a_in = (
    λ e. congruent_same S (value k g) _ _ (ap (value k) e ∙ value_zeros k n),
    λ c. same_by a (replicate n 0) 𝟘 𝟘 a_in (zeros_in k n) c (congruent_same S (value k g) _ _ (value_zeros k n)) refl,
  )

  pub record Stands (u : Polynomial k) : Type 0 where
    pub vector : List ℕ
    pub vector_in : IsVector k.ops n vector
    pub value_is : CongruentModulo (value k vector) u

  -- each polynomial has a vector that stands for its class
  pub stands_for : (u : Polynomial k) → Stands u
  stands_for u = record {
    vector = codes_of k r ++ replicate (n - length (codes_of k r)) 0;
    vector_in = record {
      size =
          let e = length-append (codes_of k r) (replicate (n - length (codes_of k r)) 0) in
          let f = length-replicate {A = ℕ} (n - length (codes_of k r)) 0 in
          let s = short in
          omega arith;
      over = IsOver_append (IsOver_codes_of k r) (IsOver_zeros k (n - length (codes_of k r)));
    };
    value_is =
        congruent_trans S (value k g) _ r u
        (congruent_same S (value k g) _ _ (value_padded k (codes_of k r) (n - length (codes_of k r))
        ∙ value_codes_of k r))
        (rest_congruent (code_ring k) (code_domain k) (value k g) modulus_monic modulus_deep u);
  }
    where
      r : Polynomial k
      r = rest (code_ring k) (code_domain k) (value k g) modulus_monic modulus_deep u

      short : length (codes_of k r) ≤ n
      short =
          let l = length_rest (code_ring k) (code_domain k) (value k g) modulus_monic modulus_deep u in
          let m : length (codes_of k r) ≡ length r.0 = length-map r.0 (λ x. x.0) in
          let e = modulus_length in
          omega arith
