-- The first lemmas on commutative rings.
use Rattle.std.proofs.Common.{◌≡◌, ℕ, zero, suc, ◌+◌, ◌*◌, refl, sym, ◌∙◌, ap, ap₂, suc-add, zero-add, mul-suc, mul-zero}
use Rattle.ring_lemmas.specs.Ring.{Operations, CommRing, IsDomain, IsField, pow, nat}

module _ {A : Type 0} (R : CommRing A) where
  infixl 65 ◌⊕◌
  infixl 70 ◌⊗◌
  infixr 80 ⊖◌
  open R use {𝟘, 𝟙, ◌⊕◌, ◌⊗◌, ⊖◌}

  pub zero_add : (a : A) → 𝟘 ⊕ a ≡ a
  zero_add a = R.add_comm 𝟘 a ∙ R.add_zero a

  pub neg_add : (a : A) → ⊖ a ⊕ a ≡ 𝟘
  neg_add a = R.add_comm (⊖ a) a ∙ R.add_neg a

  pub one_mul : (a : A) → 𝟙 ⊗ a ≡ a
  one_mul a = R.mul_comm 𝟙 a ∙ R.mul_one a

  pub add_mul : (a b c : A) → (a ⊕ b) ⊗ c ≡ a ⊗ c ⊕ b ⊗ c
  add_mul a b c =
      R.mul_comm (a ⊕ b) c ∙ R.mul_add c a b ∙ ap₂ ◌⊕◌ (R.mul_comm c a) (R.mul_comm c b)

  pub add_left_comm : (a b c : A) → a ⊕ (b ⊕ c) ≡ b ⊕ (a ⊕ c)
  add_left_comm a b c = sym (R.add_assoc a b c) ∙ ap (λ x. x ⊕ c) (R.add_comm a b) ∙ R.add_assoc b a c

  pub mul_left_comm : (a b c : A) → a ⊗ (b ⊗ c) ≡ b ⊗ (a ⊗ c)
  mul_left_comm a b c = sym (R.mul_assoc a b c) ∙ ap (λ x. x ⊗ c) (R.mul_comm a b) ∙ R.mul_assoc b a c

  -- the sum of two sums, and the product of two products, by their parts
  pub add_add : (a b c d : A) → (a ⊕ b) ⊕ (c ⊕ d) ≡ (a ⊕ c) ⊕ (b ⊕ d)
  add_add a b c d = simp (R.add_assoc, add_left_comm)

  pub mul_mul : (a b c d : A) → (a ⊗ b) ⊗ (c ⊗ d) ≡ (a ⊗ c) ⊗ (b ⊗ d)
  mul_mul a b c d = simp (R.mul_assoc, mul_left_comm)

  pub add_cancel : (a b c : A) → a ⊕ c ≡ b ⊕ c → a ≡ b
  add_cancel a b c e =
      let back : (x : A) → (x ⊕ c) ⊕ ⊖ c ≡ x
      = λ x. R.add_assoc x c (⊖ c) ∙ ap (λ y. x ⊕ y) (R.add_neg c) ∙ R.add_zero x in
      sym (back a) ∙ ap (λ x. x ⊕ ⊖ c) e ∙ back b

  pub neg_unique : (a b : A) → a ⊕ b ≡ 𝟘 → b ≡ ⊖ a
  neg_unique a b e = add_cancel b (⊖ a) a (R.add_comm b a ∙ e ∙ sym (neg_add a))

  pub mul_zero : (a : A) → a ⊗ 𝟘 ≡ 𝟘
  mul_zero a =
      add_cancel (a ⊗ 𝟘) 𝟘 (a ⊗ 𝟘)
      (sym (R.mul_add a 𝟘 𝟘) ∙ ap (λ x. a ⊗ x) (R.add_zero 𝟘) ∙ sym (zero_add (a ⊗ 𝟘)))

  pub zero_mul : (a : A) → 𝟘 ⊗ a ≡ 𝟘
  zero_mul a = R.mul_comm 𝟘 a ∙ mul_zero a

  pub mul_neg : (a b : A) → a ⊗ ⊖ b ≡ ⊖ (a ⊗ b)
  mul_neg a b =
      neg_unique (a ⊗ b) (a ⊗ ⊖ b)
      (sym (R.mul_add a b (⊖ b)) ∙ ap (λ x. a ⊗ x) (R.add_neg b) ∙ mul_zero a)

  pub neg_mul : (a b : A) → ⊖ a ⊗ b ≡ ⊖ (a ⊗ b)
  neg_mul a b = R.mul_comm (⊖ a) b ∙ mul_neg b a ∙ ap ⊖◌ (R.mul_comm b a)

  pub neg_neg : (a : A) → ⊖ ⊖ a ≡ a
  neg_neg a = sym (neg_unique (⊖ a) a (neg_add a))

  pub neg_zero : ⊖ 𝟘 ≡ 𝟘
  neg_zero = sym (neg_unique 𝟘 𝟘 (R.add_zero 𝟘))

  pub neg_sum : (a b : A) → ⊖ (a ⊕ b) ≡ ⊖ a ⊕ ⊖ b
  neg_sum a b =
      sym (neg_unique (a ⊕ b) (⊖ a ⊕ ⊖ b)
      (add_add a b (⊖ a) (⊖ b) ∙ ap₂ ◌⊕◌ (R.add_neg a) (R.add_neg b) ∙ R.add_zero 𝟘))

  -- a difference that is zero
  pub eq_of_sub : (a b : A) → a ⊕ ⊖ b ≡ 𝟘 → a ≡ b
  eq_of_sub a b e = add_cancel a b (⊖ b) (e ∙ sym (R.add_neg b))

  pub sub_of_eq : (a b : A) → a ≡ b → a ⊕ ⊖ b ≡ 𝟘
  sub_of_eq a b e = ap (λ x. x ⊕ ⊖ b) e ∙ R.add_neg b

  pub add_cancel_left : (a b c : A) → a ⊕ b ≡ a ⊕ c → b ≡ c
  add_cancel_left a b c e = add_cancel b c a (R.add_comm b a ∙ e ∙ R.add_comm a c)

  pub add_sub : (a b : A) → b ⊕ (a ⊕ ⊖ b) ≡ a
  add_sub a b = add_left_comm b a (⊖ b) ∙ ap (λ x. a ⊕ x) (R.add_neg b) ∙ R.add_zero a

  -- what is on one side of an equation goes to the other with its sign changed
  pub cross : (a b c d : A) → a ⊕ b ≡ c ⊕ d → a ⊕ ⊖ c ≡ d ⊕ ⊖ b
  cross a b c d e =
      add_cancel_left (c ⊕ b) _ _
      (ap (λ x. x ⊕ (a ⊕ ⊖ c)) (R.add_comm c b) ∙ R.add_assoc b c _ ∙ ap (λ x. b ⊕ x) (add_sub a c)
      ∙ R.add_comm b a ∙ e
      ∙ sym (R.add_assoc c b _ ∙ ap (λ x. c ⊕ x) (add_sub d b)))

  -- powers
  pub pow_one : (a : A) → pow R.ops a 1 ≡ a
  pow_one a = R.mul_one a

  pub pow_add : (a : A) (m n : ℕ) → pow R.ops a (m + n) ≡ pow R.ops a m ⊗ pow R.ops a n
  pow_add a zero n = ap (pow R.ops a) (zero-add n) ∙ sym (one_mul (pow R.ops a n))
  pow_add a (suc m) n =
      ap (pow R.ops a) (suc-add m n) ∙ ap (λ x. a ⊗ x) (pow_add a m n)
      ∙ sym (R.mul_assoc a (pow R.ops a m) (pow R.ops a n))

  pub pow_mul : (a : A) (m n : ℕ) → pow R.ops a (m * n) ≡ pow R.ops (pow R.ops a m) n
  pow_mul a m zero = ap (pow R.ops a) (mul-zero m)
  pow_mul a m (suc n) =
      ap (pow R.ops a) (mul-suc m n) ∙ pow_add a (m * n) m ∙ R.mul_comm (pow R.ops a (m * n)) (pow R.ops a m)
      ∙ ap (λ x. pow R.ops a m ⊗ x) (pow_mul a m n)

  pub pow_one_base : (n : ℕ) → pow R.ops 𝟙 n ≡ 𝟙
  pow_one_base zero = refl
  pow_one_base (suc n) = one_mul (pow R.ops 𝟙 n) ∙ pow_one_base n

  pub mul_pow : (a b : A) (n : ℕ) → pow R.ops (a ⊗ b) n ≡ pow R.ops a n ⊗ pow R.ops b n
  mul_pow a b zero = sym (R.mul_one 𝟙)
  mul_pow a b (suc n) =
      ap (λ x. (a ⊗ b) ⊗ x) (mul_pow a b n) ∙ mul_mul a b (pow R.ops a n) (pow R.ops b n)

  -- the numbers of ℕ in the ring
  pub nat_add : (m n : ℕ) → nat R.ops (m + n) ≡ nat R.ops m ⊕ nat R.ops n
  nat_add zero n = ap (nat R.ops) (zero-add n) ∙ sym (zero_add (nat R.ops n))
  nat_add (suc m) n =
      ap (nat R.ops) (suc-add m n) ∙ ap (λ x. 𝟙 ⊕ x) (nat_add m n)
      ∙ sym (R.add_assoc 𝟙 (nat R.ops m) (nat R.ops n))

  pub nat_mul : (m n : ℕ) → nat R.ops (m * n) ≡ nat R.ops m ⊗ nat R.ops n
  nat_mul m zero = ap (nat R.ops) (mul-zero m) ∙ sym (mul_zero (nat R.ops m))
  nat_mul m (suc n) =
      ap (nat R.ops) (mul-suc m n) ∙ nat_add (m * n) m ∙ R.add_comm (nat R.ops (m * n)) (nat R.ops m)
      ∙ ap₂ ◌⊕◌ (sym (R.mul_one (nat R.ops m))) (nat_mul m n) ∙ sym (R.mul_add (nat R.ops m) 𝟙 (nat R.ops n))

  -- domains
  pub domain_cancel : IsDomain R.ops → (a b c : A) → ¬ (a ≡ 𝟘) → a ⊗ b ≡ a ⊗ c → b ≡ c
  domain_cancel domain a b c some e =
      eq_of_sub b c
      (domain.cancel_zero a (b ⊕ ⊖ c) some
      (R.mul_add a b (⊖ c) ∙ ap₂ ◌⊕◌ e (mul_neg a c) ∙ R.add_neg (a ⊗ c)))

  pub field_domain : IsField R.ops → IsDomain R.ops
  field_domain field = record {
    one_not_zero = field.one_not_zero;
    cancel_zero = λ a b some e.
        sym (one_mul b) ∙ ap (λ x. x ⊗ b) (sym (field.inverse a some).1) ∙ R.mul_assoc a (field.inverse a some).0 b
        ∙ mul_left_comm a (field.inverse a some).0 b ∙ ap (λ x. (field.inverse a some).0 ⊗ x) e
        ∙ mul_zero (field.inverse a some).0;
  }

pub product_not_zero : {A : Type 0} {R : Operations A} → IsDomain R → (a b : A) → ¬ (a ≡ R.𝟘) → ¬ (b ≡ R.𝟘)
    → ¬ (R.◌⊗◌ a b ≡ R.𝟘)
product_not_zero domain a b a_some b_some e = b_some (domain.cancel_zero a b a_some e)

-- the laws as lemmas of their own, so that the rulesets below serve every ring
module _ {A : Type 0} (R : CommRing A) where
  infixl 65 ◌⊕◌
  infixl 70 ◌⊗◌
  open R use {◌⊕◌, ◌⊗◌}

  pub r_add_assoc : (a b c : A) → (a ⊕ b) ⊕ c ≡ a ⊕ (b ⊕ c)
  r_add_assoc = R.add_assoc

  pub r_add_comm : (a b : A) → a ⊕ b ≡ b ⊕ a
  r_add_comm = R.add_comm

  pub r_mul_assoc : (a b c : A) → (a ⊗ b) ⊗ c ≡ a ⊗ (b ⊗ c)
  r_mul_assoc = R.mul_assoc

  pub r_mul_comm : (a b : A) → a ⊗ b ≡ b ⊗ a
  r_mul_comm = R.mul_comm

  pub r_mul_add : (a b c : A) → a ⊗ (b ⊕ c) ≡ a ⊗ b ⊕ a ⊗ c
  r_mul_add = R.mul_add

pub ruleset ring_rules = (
  r_mul_add,
  add_mul,
  r_mul_assoc,
  r_add_assoc,
  r_add_comm,
  r_mul_comm,
  add_left_comm,
  mul_left_comm,
)

pub ruleset mul_rules = (r_mul_assoc, r_mul_comm, mul_left_comm)
