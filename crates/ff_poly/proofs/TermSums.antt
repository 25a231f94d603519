-- Sums of codes at given exponents: they don't depend on the order of the terms.
use Rattle.std.proofs.Common.{◌≡◌, ℕ, zero, suc, ◌<◌, Bool, true, false, cond, ◌&&◌, nat_eq, List, [], ◌∷◌, ◌++◌, length, get_or, set, refl, sym, ap, ap₂, ◌∙◌, arith, All}
use Rattle.std.proofs.lemmas.List.{length-set, get_or-set_same, get_or-set_other}
use Rattle.std.proofs.lemmas.List.Elements.{All-head, All-tail}
use native.Mathlib.Decide.{ℕ_discrete}
use Rattle.std.specs.List.{swap}
use Rattle.std.specs.List.Sorted.{IsPermutation}
use Rattle.std.proofs.lemmas.List.Sorted.{All-permutation, IsPermutation-keeps}
use Rattle.ring_lemmas.specs.Ring.{CommRing}
use Rattle.ring_lemmas.proofs.Ring.{zero_add, add_cancel}
use Rattle.ff_fields.specs.Field.{CodeField}
use Rattle.ff_fields.specs.Code.{Code, same_code, zero_in, code_ring, read_code, read_code_below}
use Rattle.ff_poly.specs.TermWords.{code_at}

-- ---- in any commutative ring, for any values of the entries

module _ {A : Type 0} (r : CommRing A) {X : Type 0} (f : X → A) where
  open r use {◌⊕◌, 𝟘}

  infixl 65 ◌⊕◌
  abbrev pub total : List X → A
  total [] = 𝟘
  total (x ∷ xs) = f x ⊕ total xs

  pub total_append : (xs ys : List X) → total (xs ++ ys) ≡ total xs ⊕ total ys
  total_append [] ys = sym (zero_add r (total ys))
  total_append (x ∷ xs) ys = ap (λ w. f x ⊕ w) (total_append xs ys) ∙ sym (r.add_assoc (f x) (total xs) (total ys))

  exchange : (a b c : A) → (a ⊕ b) ⊕ c ≡ (c ⊕ b) ⊕ a
  exchange a b c = grind (arith, r)

  total_set : (xs : List X) (i : ℕ) (v d : X) → i < length xs → total (set xs i v) ⊕ f (get_or xs i d) ≡ total xs ⊕ f v
  total_set [] i v d less = absurd (omega arith)
  total_set (x ∷ xs) zero v d less = exchange (f v) (total xs) (f x)
  total_set (x ∷ xs) (suc i) v d less =
      r.add_assoc (f x) (total (set xs i v)) (f (get_or xs i d)) ∙ ap (λ w. f x ⊕ w) (total_set xs i v d (omega arith))
      ∙ sym (r.add_assoc (f x) (total xs) (f v))

  read_after : (xs : List X) (i j : ℕ) (d : X) → i < length xs → get_or (set xs i (get_or xs j d)) j d ≡ get_or xs j d
  read_after xs i j d less = go (ℕ_discrete i j)
    where
      go : Dec (i ≡ j) → get_or (set xs i (get_or xs j d)) j d ≡ get_or xs j d
      go (yes e) = ap (λ n. get_or (set xs i (get_or xs j d)) n d) (sym e) ∙ get_or-set_same xs i (get_or xs j d) d less
      go (no n) = get_or-set_other xs i j (get_or xs j d) d (λ e. n (sym e))

  total_swap : (xs : List X) (i j : ℕ) → i < length xs → j < length xs → total (swap xs i j) ≡ total xs
  total_swap [] i j i_less j_less = refl
  total_swap (d ∷ ys) i j i_less j_less =
      let xs = d ∷ ys in
      let a = get_or xs i d in
      let b = get_or xs j d in
      let mid = set xs i b in
      let size = length-set xs i b in
      add_cancel r (total (set mid j a)) (total xs) (f b)
      (ap (λ w. total (set mid j a) ⊕ f w) (sym (read_after xs i j d i_less))
      ∙ total_set mid j a d (omega (arith, size)) ∙ total_set xs i b d i_less)

  pub total_permutation : (xs ys : List X) → IsPermutation xs ys → total ys ≡ total xs
  total_permutation xs ys p = IsPermutation-keeps xs (λ l. total l ≡ total xs) refl
      (λ l i j i_less j_less h. total_swap l i j i_less j_less ∙ h) ys p

-- ---- the codes at given exponents

module _ (k : CodeField) (i j : ℕ) where
  abbrev pub term_code : ℕ × ℕ × ℕ → Code k
  term_code t = cond (nat_eq t.0 i && nat_eq t.1 j) (read_code k t.2) (code_ring k).𝟘

  pub code_at_total : (ts : List (ℕ × ℕ × ℕ)) → All (λ t. t.2 < k.size) ts
      → code_at k.ops i j ts ≡ (total (code_ring k).ring term_code ts).0
  code_at_total [] ts_in = refl
  code_at_total (t ∷ ts) ts_in = go (nat_eq t.0 i && nat_eq t.1 j)
      (code_at_total ts (All-tail (λ t. t.2 < k.size) t ts ts_in)) (All-head (λ t. t.2 < k.size) t ts ts_in)
    where
      go : (b : Bool) → code_at k.ops i j ts ≡ (total (code_ring k).ring term_code ts).0 → t.2 < k.size
          → cond b (k.add t.2 (code_at k.ops i j ts)) (code_at k.ops i j ts)
          ≡ ((code_ring k).◌⊕◌ (cond b (read_code k t.2) (code_ring k).𝟘) (total (code_ring k).ring term_code ts)).0
      go true same t_in = ap₂ k.add (sym (read_code_below k t.2 t_in)) same
      go false same t_in = same ∙ sym (k.laws.zero_add _ (total (code_ring k).ring term_code ts).1)

  -- two lists with the same total have the same code
  pub same_code_at : (ts us : List (ℕ × ℕ × ℕ)) → All (λ t. t.2 < k.size) ts → All (λ t. t.2 < k.size) us
      → total (code_ring k).ring term_code ts ≡ total (code_ring k).ring term_code us
      → code_at k.ops i j ts ≡ code_at k.ops i j us
  same_code_at ts us ts_in us_in same = code_at_total ts ts_in ∙ ap (λ x. x.0) same ∙ sym (code_at_total us us_in)

  pub code_at_permutation : (ts us : List (ℕ × ℕ × ℕ)) → IsPermutation ts us → All (λ t. t.2 < k.size) ts
      → code_at k.ops i j us ≡ code_at k.ops i j ts
  code_at_permutation ts us p ts_in =
      same_code_at us ts (All-permutation (λ t. t.2 < k.size) ts us p ts_in) ts_in
      (total_permutation (code_ring k).ring term_code ts us p)

  -- codes at the same exponents are added
  term_code_sum : (y x a b : ℕ) → a < k.size → b < k.size
      → term_code (y, x, k.add a b) ≡ (code_ring k).◌⊕◌ (term_code (y, x, a)) (term_code (y, x, b))
  term_code_sum y x a b a_in b_in = go (nat_eq y i && nat_eq x j)
    where
      go : (c : Bool) → cond c (read_code k (k.add a b)) (code_ring k).𝟘
          ≡ (code_ring k).◌⊕◌ (cond c (read_code k a) (code_ring k).𝟘) (cond c (read_code k b) (code_ring k).𝟘)
      go true =
          same_code k _ _
          (read_code_below k (k.add a b) (k.laws.add_below a b a_in b_in)
          ∙ sym (ap₂ k.add (read_code_below k a a_in) (read_code_below k b b_in)))
      go false = sym ((code_ring k).add_zero (code_ring k).𝟘)

  pub merged_total : (ts : List (ℕ × ℕ × ℕ)) (y x a b : ℕ) → a < k.size → b < k.size
      → total (code_ring k).ring term_code (ts ++ (y, x, k.add a b) ∷ [])
      ≡ total (code_ring k).ring term_code ((ts ++ (y, x, a) ∷ []) ++ (y, x, b) ∷ [])
  merged_total ts y x a b a_in b_in =
      let R = (code_ring k).ring in
      let f = term_code in
      total_append R f ts ((y, x, k.add a b) ∷ [])
      ∙ ap (λ w. R.◌⊕◌ (total R f ts) (R.◌⊕◌ w R.𝟘)) (term_code_sum y x a b a_in b_in)
      ∙ regroup R (total R f ts) (f (y, x, a)) (f (y, x, b))
      ∙ sym (total_append R f (ts ++ (y, x, a) ∷ []) ((y, x, b) ∷ [])
      ∙ ap (λ w. R.◌⊕◌ w (R.◌⊕◌ (f (y, x, b)) R.𝟘)) (total_append R f ts ((y, x, a) ∷ [])))
    where
      regroup : {A : Type 0} (R : CommRing A) (t a b : A)
          → R.◌⊕◌ t (R.◌⊕◌ (R.◌⊕◌ a b) R.𝟘) ≡ R.◌⊕◌ (R.◌⊕◌ t (R.◌⊕◌ a R.𝟘)) (R.◌⊕◌ b R.𝟘)
      regroup R t a b = grind (arith, R)

  -- a term with the code 0 adds nothing
  pub zero_total : (ts : List (ℕ × ℕ × ℕ)) (y x : ℕ)
      → total (code_ring k).ring term_code (ts ++ (y, x, 0) ∷ []) ≡ total (code_ring k).ring term_code ts
  zero_total ts y x =
      let R = (code_ring k).ring in
      total_append R term_code ts ((y, x, 0) ∷ [])
      ∙ ap (λ w. R.◌⊕◌ (total R term_code ts) (R.◌⊕◌ w R.𝟘)) (go (nat_eq y i && nat_eq x j))
      ∙ ap (R.◌⊕◌ (total R term_code ts)) (R.add_zero R.𝟘) ∙ R.add_zero (total R term_code ts)
    where
      go : (c : Bool) → cond c (read_code k 0) (code_ring k).𝟘 ≡ (code_ring k).𝟘
      go true = same_code k _ _ (read_code_below k 0 (zero_in k))
      go false = refl
