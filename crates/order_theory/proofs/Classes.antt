-- A ring O modulo p, on a set of representatives: given which representative a member of O has, the representatives
-- are a ring.
use Rattle.std.proofs.Common.{◌≡◌, [], ◌∷◌, refl, sym, ◌∙◌, ap, subst}
use Rattle.ring_lemmas.specs.Ring.{Operations, CommRing}
use Rattle.ring_theory.specs.Subsets.{IsSubring}
use Rattle.ring_lemmas.proofs.Solver.{ring, reads}
use Rattle.prime_theory.specs.Ideals.{IsIdeal, Multiple}
use Rattle.prime_theory.proofs.PohstZassenhaus.{multiples_ideal}
use Rattle.places_theory.specs.Reductions.{IsReduction}

-- `reduce` gives the representative of a member of O, two members having the same where they differ by a multiple of p
pub record HasRepresentatives {A C : Type 0} (R : Operations A) (O : A → Type 0) (p : A) (reduce : A → C)
    (lift : C → A) : Type 0 where
  pub lift_in : (x : C) → O (lift x)
  pub reduce_lift : (x : C) → reduce (lift x) ≡ x
  pub same : (a b : A) → O a → O b → Multiple R p O (R.◌⊕◌ a (R.⊖◌ b)) → reduce a ≡ reduce b
  pub differ : (a b : A) → O a → O b → reduce a ≡ reduce b → Multiple R p O (R.◌⊕◌ a (R.⊖◌ b))

module _ {A C : Type 0} (R : CommRing A) (O : A → Type 0) (𝓞 : IsSubring R.ops O) (p : A) (p_in : O p)
    (reduce : A → C) (lift : C → A)
    (h : HasRepresentatives R.ops O p reduce lift) where
  infixl 65 ◌⊕◌
  infixl 70 ◌⊗◌
  infixr 80 ⊖◌
  open R use {𝟘, 𝟙, ◌⊕◌, ◌⊗◌, ⊖◌}

  abbrev pub class_ops : Operations C
  class_ops = record {
    𝟘 = reduce 𝟘;
    𝟙 = reduce 𝟙;
    ◌⊕◌ = λ x y. reduce (lift x ⊕ lift y);
    ◌⊗◌ = λ x y. reduce (lift x ⊗ lift y);
    ⊖◌ = λ x. reduce (⊖ (lift x));
  }

  𝓟 : IsIdeal R.ops O (Multiple R.ops p O)
  𝓟 = multiples_ideal R O 𝓞 p p_in p p_in

  back : (a : A) → O a → Multiple R.ops p O (lift (reduce a) ⊕ ⊖ a)
  back a a_in = h.differ (lift (reduce a)) a (h.lift_in (reduce a)) a_in (h.reduce_lift (reduce a))

  add_step : (a b u v : A) → (u ⊕ ⊖ a) ⊕ (v ⊕ ⊖ b) ≡ (u ⊕ v) ⊕ ⊖ (a ⊕ b)
  add_step a b u v = ring R (a ∷ b ∷ u ∷ v ∷ []) λ q i. simp (reads, q, i 0, i 1, i 2, i 3) (q.equal _ _ refl)

  mul_step : (a b u v : A) → v ⊗ (u ⊕ ⊖ a) ⊕ a ⊗ (v ⊕ ⊖ b) ≡ (u ⊗ v) ⊕ ⊖ (a ⊗ b)
  mul_step a b u v = ring R (a ∷ b ∷ u ∷ v ∷ []) λ q i. simp (reads, q, i 0, i 1, i 2, i 3) (q.equal _ _ refl)

  pub add_class : (a b : A) → O a → O b → reduce (lift (reduce a) ⊕ lift (reduce b)) ≡ reduce (a ⊕ b)
  add_class a b a_in b_in =
      h.same _ _ (𝓞.sum_in _ _ (h.lift_in (reduce a)) (h.lift_in (reduce b))) (𝓞.sum_in a b a_in b_in)
      (subst (Multiple R.ops p O) (add_step a b (lift (reduce a)) (lift (reduce b)))
      (𝓟.sum_in _ _ (back a a_in) (back b b_in)))

  pub mul_class : (a b : A) → O a → O b → reduce (lift (reduce a) ⊗ lift (reduce b)) ≡ reduce (a ⊗ b)
  mul_class a b a_in b_in =
      h.same _ _ (𝓞.product_in _ _ (h.lift_in (reduce a)) (h.lift_in (reduce b))) (𝓞.product_in a b a_in b_in)
      (subst (Multiple R.ops p O) (mul_step a b (lift (reduce a)) (lift (reduce b)))
      (𝓟.sum_in _ _ (𝓟.scale_in _ _ (h.lift_in (reduce b)) (back a a_in)) (𝓟.scale_in a _ a_in (back b b_in))))

  abbrev plus : C → C → C
  plus x y = reduce (lift x ⊕ lift y)

  abbrev times : C → C → C
  times x y = reduce (lift x ⊗ lift y)

  abbrev pub class_ring : IsSet C → CommRing C
  class_ring set = record {
    ops = class_ops;
    is_set = set;
    add_assoc = λ x y z.
        ap (plus (plus x y)) (sym (h.reduce_lift z))
        ∙ add_class _ _ (𝓞.sum_in _ _ (h.lift_in x) (h.lift_in y)) (h.lift_in z)
        ∙ ap reduce (R.add_assoc _ _ _)
        ∙ sym (ap (λ w. plus w (plus y z)) (sym (h.reduce_lift x))
        ∙ add_class _ _ (h.lift_in x) (𝓞.sum_in _ _ (h.lift_in y) (h.lift_in z)));
    add_comm = λ x y. ap reduce (R.add_comm _ _);
    add_zero = λ x. ap (λ w. plus w (reduce 𝟘)) (sym (h.reduce_lift x)) ∙ add_class _ 𝟘 (h.lift_in x) 𝓞.zero_in
        ∙ ap reduce (R.add_zero _) ∙ h.reduce_lift x;
    add_neg = λ x. ap (λ w. plus w (reduce (⊖ (lift x)))) (sym (h.reduce_lift x))
        ∙ add_class _ _ (h.lift_in x) (𝓞.neg_in _ (h.lift_in x)) ∙ ap reduce (R.add_neg _);
    mul_assoc = λ x y z.
        ap (times (times x y)) (sym (h.reduce_lift z))
        ∙ mul_class _ _ (𝓞.product_in _ _ (h.lift_in x) (h.lift_in y)) (h.lift_in z)
        ∙ ap reduce (R.mul_assoc _ _ _)
        ∙ sym (ap (λ w. times w (times y z)) (sym (h.reduce_lift x))
        ∙ mul_class _ _ (h.lift_in x) (𝓞.product_in _ _ (h.lift_in y) (h.lift_in z)));
    mul_comm = λ x y. ap reduce (R.mul_comm _ _);
    mul_one = λ x. ap (λ w. times w (reduce 𝟙)) (sym (h.reduce_lift x)) ∙ mul_class _ 𝟙 (h.lift_in x) 𝓞.one_in
        ∙ ap reduce (R.mul_one _) ∙ h.reduce_lift x;
    mul_add = λ x y z.
        ap (λ w. times w (plus y z)) (sym (h.reduce_lift x))
        ∙ mul_class _ _ (h.lift_in x) (𝓞.sum_in _ _ (h.lift_in y) (h.lift_in z))
        ∙ ap reduce (R.mul_add _ _ _)
        ∙ sym (add_class _ _ (𝓞.product_in _ _ (h.lift_in x) (h.lift_in y))
        (𝓞.product_in _ _ (h.lift_in x) (h.lift_in z)));
  }

  pub class_reduction : IsReduction R.ops O p class_ops reduce lift
  class_reduction = record {
    lift_in = h.lift_in;
    reduce_lift = h.reduce_lift;
    one = refl;
    add = λ a b a_in b_in. sym (add_class a b a_in b_in);
    mul = λ a b a_in b_in. sym (mul_class a b a_in b_in);
    kernel = λ a a_in. (
      λ e. subst (Multiple R.ops p O) (less_zero a) (h.differ a 𝟘 a_in 𝓞.zero_in e),
      λ m. h.same a 𝟘 a_in 𝓞.zero_in (subst (Multiple R.ops p O) (sym (less_zero a)) m),
    );
  }
    where
      less_zero : (a : A) → a ⊕ ⊖ 𝟘 ≡ a
      less_zero a = ring R (a ∷ []) λ q i. simp (reads, q, i 0) (q.equal _ _ refl)
