-- The field of codes as a finite field.
use Rattle.std.proofs.Common.{◌≡◌, ℕ, zero, suc, ◌-◌, ◌<◌, inl, inr, List, ◌∷◌, length, refl, ◌∙◌, ap, arith}
use native.Mathlib.Decide.{ℕ_discrete}
use Rattle.ring_lemmas.specs.Ring.{pow}
use Rattle.ring_theory.specs.Members.{In, codes_to}
use Rattle.ring_theory.proofs.Finite.{length_codes_to, codes_to_some, codes_to_distinct, codes_to_all}
use Rattle.ff_fields.specs.Field.{CodeField, pow_of}
use Rattle.ff_fields.specs.Code.{Code, code_ring, code_field, same_code, zero_in}
use Rattle.finite_algebra_theory.specs.ByMap.{FiniteField}

module _ (k : CodeField) where
  pub last : k.size - 1 < k.size
  last = let l = zero_in k in omega arith

  abbrev pub units : List (Code k)
  units = codes_to k.size (k.size - 1) last

  pub code_discrete : (a b : Code k) → Dec (a ≡ b)
  code_discrete a b = go (ℕ_discrete a.0 b.0)
    where
      go : Dec (a.0 ≡ b.0) → Dec (a ≡ b)
      go (yes e) = yes (same_code k a b e)
      go (no n) = no (λ e. n (ap (λ x. x.0) e))

  pub unit_in : (a : Code k) → ¬ (a ≡ (code_ring k).𝟘) → In a units
  unit_in a n = codes_to_all k.size (k.size - 1) last a (positive a.0 (λ e. n (same_code k a (code_ring k).𝟘 e)))
      (let l = a.1 in omega arith)
    where
      positive : (c : ℕ) → ¬ (c ≡ 0) → 0 < c
      positive c n = omega arith

  pub unit_some : (a : Code k) → In a units → ¬ (a ≡ (code_ring k).𝟘)
  unit_some a i e = let l = codes_to_some k.size (k.size - 1) last a i in let f : a.0 ≡ 0 = ap (λ x. x.0) e in absurd
      (omega arith)

  pub length_units : suc (length units) ≡ k.size
  length_units = let e = length_codes_to k.size (k.size - 1) last in let l = zero_in k in omega arith

  pub power_code : (a : Code k) (n : ℕ) → (pow (code_ring k).ops a n).0 ≡ pow_of k.ops a.0 n
  power_code a zero = refl
  power_code a (suc n) = ap (k.mul a.0) (power_code a n)

  abbrev pub code_finite : FiniteField (code_ring k).ops
  code_finite = record {
    decide = code_discrete;
    inverse = (code_field k).inverse;
    codes = (code_ring k).𝟘 ∷ units;
    codes_all = λ a. member a (code_discrete a (code_ring k).𝟘);
    codes_distinct = ((λ i. unit_some (code_ring k).𝟘 i refl), codes_to_distinct k.size (k.size - 1) last);
    power = λ a. same_code k _ a (power_code a (suc (length units)) ∙ ap (pow_of k.ops a.0) length_units
        ∙ k.laws.pow_size a.0 a.1);
  }
    where
      member : (a : Code k) → Dec (a ≡ (code_ring k).𝟘) → In a ((code_ring k).𝟘 ∷ units)
      member a (yes e) = inl e
      member a (no n) = inr (unit_in a n)

  pub length_codes : length code_finite.codes ≡ k.size
  length_codes = length_units
