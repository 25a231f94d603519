-- The codes of a field as a type of its own, on which the laws hold without conditions.
use Rattle.std.specs.Prelude.{◌≡◌, ◌≢◌, ℕ, ◌%◌, ◌<◌, Bool, nat_eq, refl}
use Rattle.std.proofs.Common.{ap, ◌∙◌, arith, eqb-true, mod-lt, mod-eq_of_lt}
use Rattle.std.proofs.Math.Bridge.{le_prop}
use native.Mathlib.Nat.{ℕ_set}
use mathlib.Core.HLevel.{Σ_prop_path}
use Rattle.ring_lemmas.specs.Ring.{Operations, TestedRing, IsDomain, IsField}
use Rattle.ring_lemmas.proofs.Ring.{field_domain}
use Rattle.ff_fields.specs.Field.{FieldOps, CodeField}

-- the code of zero is 0
abbrev pub is_zero_code : ℕ → Bool
is_zero_code c = nat_eq c 0

-- the operations on codes, as those of a ring on all numbers; only the codes below the size obey its laws
abbrev pub raw_ring : FieldOps → Operations ℕ
raw_ring k = record { 𝟘 = 0; 𝟙 = 1; ◌⊕◌ = k.add; ⊖◌ = k.neg; ◌⊗◌ = k.mul }

-- a code below the size
abbrev pub Code : CodeField → Type 0
Code k = (c : ℕ) × (c < k.size)

module _ (k : CodeField) where
  pub same_code : (x y : Code k) → x.0 ≡ y.0 → x ≡ y
  same_code x y e = Σ_prop_path (λ c. le_prop) e

  pub code_set : IsSet (Code k)
  code_set = hlevel (ℕ_set, le_prop)

  pub zero_in : 0 < k.size
  zero_in = omega (arith, k.laws.one_below)

  abbrev pub code_ops : Operations (Code k)
  code_ops = record {
    𝟘 = (0, zero_in);
    𝟙 = (1, k.laws.one_below);
    ◌⊕◌ = λ x y. (k.add x.0 y.0, k.laws.add_below x.0 y.0 x.1 y.1);
    ⊖◌ = λ x. (k.neg x.0, k.laws.neg_below x.0 x.1);
    ◌⊗◌ = λ x y. (k.mul x.0 y.0, k.laws.mul_below x.0 y.0 x.1 y.1);
  }

  -- k
  abbrev pub code_ring : TestedRing (Code k)
  code_ring = record {
    ring = record {
      ops = code_ops;
      is_set = code_set;
      add_assoc = λ x y z. same_code _ _ (k.laws.add_assoc x.0 y.0 z.0 x.1 y.1 z.1);
      add_comm = λ x y. same_code _ _ (k.laws.add_comm x.0 y.0 x.1 y.1);
      add_zero = λ x. same_code _ _ (k.laws.add_comm x.0 0 x.1 zero_in ∙ k.laws.zero_add x.0 x.1);
      add_neg = λ x. same_code _ _ (k.laws.add_comm x.0 (k.neg x.0) x.1 (k.laws.neg_below x.0 x.1)
          ∙ k.laws.neg_add x.0 x.1);
      mul_assoc = λ x y z. same_code _ _ (k.laws.mul_assoc x.0 y.0 z.0 x.1 y.1 z.1);
      mul_comm = λ x y. same_code _ _ (k.laws.mul_comm x.0 y.0 x.1 y.1);
      mul_one = λ x. same_code _ _ (k.laws.mul_comm x.0 1 x.1 k.laws.one_below ∙ k.laws.one_mul x.0 x.1);
      mul_add = λ x y z. same_code _ _ (k.laws.mul_add x.0 y.0 z.0 x.1 y.1 z.1);
    };
    is_zero = λ x. is_zero_code x.0;
    zero_is_zero = refl;
    zero_from = λ x e. same_code _ _ (eqb-true x.0 0 e);
  }

  -- each code but 0 has an inverse
  pub code_field : IsField code_ops
  code_field = record {
    one_not_zero = λ e. distinct code_ops.𝟙.0 code_ops.𝟘.0 refl refl (ap (λ x. x.0) e);
    inverse = λ x some. inverse_of x (λ e. some (same_code x code_ops.𝟘 e));
  }
    where
      distinct : (m n : ℕ) → m ≡ 1 → n ≡ 0 → m ≡ n → ⊥
      distinct m n m_is n_is same = omega arith

      inverse_of : (x : Code k) → x.0 ≢ 0 → (y : Code k) × (code_ops.◌⊗◌ x y ≡ code_ops.𝟙)
      inverse_of x some =
          let inverse_in = k.laws.inv_below x.0 x.1 some in (
            (k.inv x.0, inverse_in),
            same_code _ _
                (k.laws.mul_comm x.0 (k.inv x.0) x.1 inverse_in ∙ k.laws.inv_mul x.0 x.1 some),
          )

  pub code_domain : IsDomain code_ops
  code_domain = field_domain code_ring.ring code_field

  -- any number read as a code, and a code as itself
  abbrev pub read_code : ℕ → Code k
  read_code c = (c % k.size, mod-lt c zero_in)

  pub read_code_below : (c : ℕ) → c < k.size → (read_code c).0 ≡ c
  read_code_below c below = mod-eq_of_lt below
