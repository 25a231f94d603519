-- Polynomials modulo a monic one, over any domain: the shorter polynomials are a ring. At k[x] this is k[x][y] modulo
-- f.
use Rattle.std.proofs.Common.{◌≡◌, ◌-◌, ◌<◌, length, sym, ap, ap₂, ◌∙◌, arith, subst}
use mathlib.Core.HLevel.{Σ_prop_path}
use mathlib.Core.Path.{fun_ext}
use Rattle.std.proofs.Math.Bridge.{le_prop}
use Rattle.ring_lemmas.specs.Ring.{TestedRing, IsDomain}
use Rattle.ring_lemmas.specs.Lists.{coeff_of, convolution, quotient_from}
use Rattle.ring_lemmas.specs.Congruence.{IsCongruent, Represents}
use Rattle.ring_lemmas.specs.Polynomials.{Pol, pol_of, pol_ops}
use Rattle.ring_lemmas.proofs.Ring.{cross, mul_zero, neg_zero}
use Rattle.ring_lemmas.proofs.Sequences.{convolution_comm}
use Rattle.ring_lemmas.proofs.Lists.{coeff_trim}
use Rattle.ring_lemmas.proofs.Polynomials.{pol_set, same_pol, series_add, series_mul}
use Rattle.ring_lemmas.proofs.Division.{divided, rest_shorter}
use Rattle.ring_lemmas.proofs.Congruence.{congruent_sym}
use Rattle.ring_theory.specs.PolynomialRing.{pol_ring}
use Rattle.ring_theory.specs.Classes.{Class, class_ops, rest}
use Rattle.ring_theory.proofs.Division.{length_add, length_neg, short_multiple}

module _ {A : Type 0} (r : TestedRing A) (domain : IsDomain r.ops) (f : Pol r)
    (monic : r.◌⊗◌ r.𝟙 (coeff_of r.ops f.0 (length f.0 - 1)) ≡ r.𝟙) (deep : 1 < length f.0) where
  abbrev pub s : TestedRing (Pol r)
  s = pol_ring r

  quotient : Pol r → Pol r
  quotient a = pol_of r (quotient_from r.ops f.0 r.𝟙 a.0)

  pub length_rest : (a : Pol r) → length (rest r domain f monic deep a).0 < length f.0
  length_rest a = rest_shorter r f monic deep a

  pub rest_congruent : (a : Pol r) → IsCongruent s.ops f (rest r domain f monic deep a) a
  unfolding quotient
  rest_congruent a = congruent_sym s.ring f _ _ (record {
    times = quotient a;
    differs = same_pol r a _ (λ n.
        divided r f.0 r.𝟙 a.0 n
        ∙ r.add_comm _ _
        ∙ ap₂ r.◌⊕◌ (sym (coeff_trim r _ n))
        (convolution_comm r.ring _ _ n ∙ ap (λ g. convolution r.ops (coeff_of r.ops f.0) g n)
        (sym (fun_ext (coeff_trim r (quotient_from r.ops f.0 r.𝟙 a.0)))) ∙ sym (series_mul r f (quotient a) n))
        ∙ sym (series_add r (rest r domain f monic deep a) (s.◌⊗◌ f (quotient a)) n));
  })

  pub short_same : (a b : Pol r) → length a.0 < length f.0 → length b.0 < length f.0 → IsCongruent s.ops f a b → a ≡ b
  short_same a b a_short b_short c =
      c.differs ∙ ap (λ w. s.◌⊕◌ b (s.◌⊗◌ f w)) none ∙ ap (s.◌⊕◌ b) (mul_zero s.ring f) ∙ s.add_zero b
    where
      gap : s.◌⊗◌ f c.times ≡ s.◌⊕◌ a (s.⊖◌ b)
      gap = sym (cross s.ring a s.𝟘 b (s.◌⊗◌ f c.times) (s.add_zero a ∙ c.differs)
          ∙ ap (s.◌⊕◌ (s.◌⊗◌ f c.times)) (neg_zero s.ring) ∙ s.add_zero _)

      short : length (s.◌⊗◌ f c.times).0 < length f.0
      short =
          subst (λ w. length w.0 < length f.0) (sym gap)
          (omega (
            arith,
            length_add r a (s.⊖◌ b) (length f.0 - 1) (omega arith)
                (length_neg r b (length f.0 - 1) (omega arith)),
          ))

      none : c.times ≡ s.𝟘
      none = short_multiple r domain f c.times short

  pub class_same : (x y : Class r domain f monic deep) → x.0 ≡ y.0 → x ≡ y
  class_same x y e = Σ_prop_path (λ a. le_prop) e

  pub class_set : IsSet (Class r domain f monic deep)
  class_set = let h : IsSet (Pol r) = pol_set r in hlevel (h, le_prop)

  pub classes_represent : Represents (class_ops r domain f monic deep) s.ops f
  classes_represent = record {
    of = λ x. x.0;
    of_zero = rest_congruent s.𝟘;
    of_one = rest_congruent s.𝟙;
    of_add = λ x y. rest_congruent (s.◌⊕◌ x.0 y.0);
    of_neg = λ x. rest_congruent (s.⊖◌ x.0);
    of_mul = λ x y. rest_congruent (s.◌⊗◌ x.0 y.0);
    same = λ x y c. class_same x y (short_same x.0 y.0 x.1 y.1 c);
  }

  pub rest_null : rest r domain f monic deep s.𝟘 ≡ s.𝟘
  unfolding pol_ops
  rest_null = short_same (rest r domain f monic deep s.𝟘) s.𝟘 (length_rest s.𝟘) (omega (arith, deep))
      (rest_congruent s.𝟘)
