-- Fractions whose denominators are from a set N of elements that cancel, and when two are the same.
use Rattle.std.specs.Prelude.{◌≡◌}
use Rattle.ring_lemmas.specs.Ring.{Operations}

pub record Denominators {A : Type 0} (R : Operations A) (N : A → Type 0) : Type 0 where
  pub one_in : N R.𝟙
  pub product_in : (a b : A) → N a → N b → N (R.◌⊗◌ a b)
  pub cancel : (d a : A) → N d → R.◌⊗◌ d a ≡ R.𝟘 → a ≡ R.𝟘

pub record Fraction {A : Type 0} (N : A → Type 0) : Type 0 where
  pub num : A
  pub den : A
  pub den_in : N den

abbrev pub Same : {A : Type 0} (R : Operations A) (N : A → Type 0) → Fraction N → Fraction N → Type 0
Same R N p q = R.◌⊗◌ p.num q.den ≡ R.◌⊗◌ q.num p.den

module _ {A : Type 0} (R : Operations A) (N : A → Type 0) (D : Denominators R N) where
  infixl 65 ◌⊕◌
  infixl 70 ◌⊗◌
  infixr 80 ⊖◌
  open R use {𝟘, 𝟙, ◌⊕◌, ◌⊗◌, ⊖◌}

  abbrev pub whole : A → Fraction N
  whole a = record { num = a; den = 𝟙; den_in = D.one_in }

  abbrev pub fraction_ops : Operations (Fraction N)
  fraction_ops = record {
    𝟘 = whole 𝟘;
    𝟙 = whole 𝟙;
    ◌⊕◌ = λ p q. record {
      num = p.num ⊗ q.den ⊕ q.num ⊗ p.den;
      den = p.den ⊗ q.den;
      den_in = D.product_in _ _ p.den_in q.den_in;
    };
    ◌⊗◌ = λ p q. record {
      num = p.num ⊗ q.num;
      den = p.den ⊗ q.den;
      den_in = D.product_in _ _ p.den_in q.den_in;
    };
    ⊖◌ = λ p. record { num = ⊖ p.num; den = p.den; den_in = p.den_in };
  }
