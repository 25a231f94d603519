-- The radical modulo p is an ideal; an order that is maximal at p has the multipliers of ideals with p.
use Rattle.prime_theory.proofs.IntegralRing.{integral_of_stable}
use Rattle.ring_theory.specs.Integral.{IsIntegral}
use Rattle.std.proofs.lemmas.List.Elements.{All-weaker}
use Rattle.ring_theory.proofs.Local.{power_in}
use Rattle.std.proofs.Common.{ℕ, zero, suc, [], ◌∷◌, sym, ◌∙◌, ap, subst, ◌≡◌, ◌↔◌, List}
use Rattle.std.proofs.lemmas.List.Elements.{All-nil, All-cons}
use Rattle.ring_lemmas.specs.Ring.{CommRing, pow}
use Rattle.ring_theory.specs.Subsets.{IsSubring, Colon, Span}
use Rattle.ring_lemmas.proofs.Ring.{one_mul, mul_pow}
use Rattle.ring_theory.proofs.Subsets.{span_head, span_tail, span_module, span_members}
use Rattle.prime_theory.specs.Ideals.{IsIdeal, Multiple, SameSet}
use Rattle.prime_theory.specs.Orders.{MaximalAt, Radical, Iterated}
use Rattle.prime_theory.proofs.PohstZassenhaus.{span_nilpotent, multiples_ideal, pohst_zassenhaus}

module _ {A : Type 0} (R : CommRing A) (O : A → Type 0) (𝓞 : IsSubring R.ops O) (p : A) (p_in : O p) where
  infixl 65 ◌⊕◌
  infixl 70 ◌⊗◌
  infixr 80 ⊖◌
  open R use {𝟘, 𝟙, ◌⊕◌, ◌⊗◌, ⊖◌}

  abbrev pO : A → Type 0
  pO = Multiple R.ops p O

  𝓟 : IsIdeal R.ops O (Multiple R.ops p O)
  𝓟 = multiples_ideal R O 𝓞 p p_in p p_in

  iterated_power : (M C : A → Type 0) (v : A) → M v → (k : ℕ) (x : A) → Iterated R.ops M C k x → C (x ⊗ pow R.ops v k)
  iterated_power M C v m zero x h = subst C (sym (R.mul_one x)) h
  iterated_power M C v m (suc k) x h = subst C (R.mul_assoc _ _ _) (iterated_power M C v m k (x ⊗ v) (h v m))

  radical_sum : (a b : A) → Radical R.ops O p a → Radical R.ops O p b → Radical R.ops O p (a ⊕ b)
  radical_sum a b h k =
      let ys = a ∷ b ∷ [] in
      let Y : A → Type 0 = λ y. O y × ((n : ℕ) × pO (pow R.ops y n)) in
      let r = span_nilpotent R O 𝓞 pO 𝓟 ys
      (All-cons Y a (b ∷ []) (h.within, (suc h.nilpotent.exponent, h.nilpotent.power_in))
      (All-cons Y b [] (k.within, (suc k.nilpotent.exponent, k.nilpotent.power_in)) (All-nil Y))) in
      let both : Span R.ops O ys (a ⊕ b)
      = (span_module R O 𝓞 ys).sum_in a b (span_head R O 𝓞 a (b ∷ []))
      (span_tail R O 𝓞 a (b ∷ []) b (span_head R O 𝓞 b [])) in
      let m : pO (pow R.ops (a ⊕ b) r.0)
      = subst pO (one_mul R _) (iterated_power (Span R.ops O ys) pO (a ⊕ b) both r.0 𝟙 r.2) in
      let sum_O : O (a ⊕ b) = 𝓞.sum_in _ _ h.within k.within in
      record { within = sum_O; nilpotent = record { exponent = r.0; power_in = 𝓟.scale_in _ _ sum_O m } }

  pub radical_ideal : IsIdeal R.ops O (Radical R.ops O p)
  radical_ideal = record {
    within = λ a h. h.within;
    zero_in = record {
      within = 𝓞.zero_in;
      nilpotent = record { exponent = 0; power_in = subst pO (sym (R.mul_one 𝟘)) 𝓟.zero_in };
    };
    sum_in = radical_sum;
    scale_in = λ s a m h. record {
      within = 𝓞.product_in _ _ m h.within;
      nilpotent = record {
        exponent = h.nilpotent.exponent;
        power_in =
            subst pO (sym (mul_pow R s a (suc h.nilpotent.exponent)))
            (𝓟.scale_in _ _ (power_in R O 𝓞 s m (suc h.nilpotent.exponent)) h.nilpotent.power_in);
      };
    };
  }

  -- the multiples of p are in the radical
  pub p_in_radical : (a : A) → pO a → Radical R.ops O p a
  p_in_radical a m = record {
    within = 𝓟.within a m;
    nilpotent = record { exponent = 0; power_in = subst pO (sym (R.mul_one a)) m };
  }

  -- the converse of the criterion: an order that is maximal at p has the integral multipliers of a set within O that
  -- has p
  pub multiplier_within : (Int I : A → Type 0) → ((a : A) → I a → O a) → I p → MaximalAt R.ops p Int O
      → (w : A) → Int w → Colon R.ops I I w → O w
  multiplier_within Int I f m h w i k =
      h w 1 i (subst O (R.mul_comm _ _ ∙ ap (λ x. x ⊗ w) (sym (R.mul_one p))) (f _ (k p m)))

  -- the criterion both ways, where p has an inverse
  pub criterion_iff : (r : A) → r ⊗ p ≡ 𝟙 → (ys : List A) → SameSet (Radical R.ops O p) (Span R.ops O ys)
      → ((w : A) → Colon R.ops (Radical R.ops O p) (Radical R.ops O p) w → O w)
      ↔ MaximalAt R.ops p (IsIntegral R.ops O) O
  criterion_iff r inverse ys spanned = (
    λ h. pohst_zassenhaus R O 𝓞 p p_in ys
        (All-weaker (Span R.ops O ys) (Radical R.ops O p) (λ y. (spanned y).1) ys (span_members R O 𝓞 ys))
        (λ y. (spanned y).0) h,
    λ h w m.
        multiplier_within (IsIntegral R.ops O) (Radical R.ops O p) (λ a k. k.within) p_rad h w
        (integral_of_stable R O 𝓞 ys p r w inverse ((spanned p).0 p_rad)
        (λ y k. (spanned _).0 (m y ((spanned y).1 k)))) m,
  )
    where
      p_rad : Radical R.ops O p p
      p_rad = p_in_radical p (record { quotient = 𝟙; quotient_in = 𝓞.one_in; is = sym (R.mul_one p) })
