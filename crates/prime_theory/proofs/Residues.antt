-- Modulo a prime, an invertible module has one generator: it is the residue ring, times an element.
use Rattle.std.proofs.Common.{◌≡◌, ◌⊎◌, inl, inr, List, [], ◌∷◌, refl, sym, subst}
use Rattle.ring_lemmas.specs.Ring.{CommRing}
use Rattle.ring_lemmas.specs.Sums.{sum_over}
use Rattle.ring_theory.specs.Subsets.{IsSubring, IsModule, Factors, Product}
use Rattle.ring_theory.proofs.Subsets.{product_member}
use Rattle.ring_lemmas.proofs.Solver.{ring, reads, from_one}
use Rattle.prime_theory.specs.Ideals.{Inverse, Invertible}
use Rattle.prime_theory.specs.Primes.{IsPrime, Outside}
use Rattle.prime_theory.proofs.Products.{product_universal}
use Rattle.prime_theory.proofs.Primes.{ideal_neg, outside_product, ideal_additive}

-- a generator of M modulo M·P, with a member of the inverse that takes it out of P
pub record Generator {A : Type 0} (R : CommRing A) (O P M : A → Type 0) : Type 0 where
  pub element : A
  pub element_in : M element
  pub partner : A
  pub partner_in : Inverse R.ops O M partner
  pub outside : Outside O P (R.ops.◌⊗◌ element partner)

-- z as a multiple of a by a member of O and a member of N
pub record Remainder {A : Type 0} (R : CommRing A) (O N : A → Type 0) (a z : A) : Type 0 where
  pub scalar : A
  pub scalar_in : O scalar
  pub rest : A
  pub rest_in : N rest
  pub is : z ≡ R.ops.◌⊕◌ (R.ops.◌⊗◌ a scalar) rest

module _ {A : Type 0} (R : CommRing A) (O : A → Type 0) (𝓞 : IsSubring R.ops O) (P : A → Type 0) (𝓟 : IsPrime R.ops O P)
    (M : A → Type 0) (𝓜 : IsModule R.ops O M) where
  infixl 65 ◌⊕◌
  infixl 70 ◌⊗◌
  infixr 80 ⊖◌
  open R use {𝟘, 𝟙, ◌⊕◌, ◌⊗◌, ⊖◌}

  pub generator : Invertible R.ops O M → Generator R O P M
  generator h = finish (look h.0)
    where
      Total : List (Factors M (Inverse R.ops O M)) → A
      Total ts = sum_over R.ops ts (λ f. f.left ⊗ f.right)

      look : (ts : List (Factors M (Inverse R.ops O M))) → Generator R O P M
          ⊎ P (sum_over R.ops ts (λ f. f.left ⊗ f.right))
      look [] = inr 𝓟.ideal.zero_in
      look (t ∷ ts) = go (𝓟.decide (t.left ⊗ t.right) in_O) (look ts)
        where
          in_O : O (t.left ⊗ t.right)
          in_O = subst O (R.mul_comm _ _) (t.right_in t.left t.left_in)

          go : P (t.left ⊗ t.right) ⊎ (¬ (P (t.left ⊗ t.right))) → Generator R O P M
              ⊎ P (sum_over R.ops ts (λ f. f.left ⊗ f.right))
              → Generator R O P M ⊎ P (sum_over R.ops (t ∷ ts) (λ f. f.left ⊗ f.right))
          go (inr n) r = inl (record {
            element = t.left;
            element_in = t.left_in;
            partner = t.right;
            partner_in = t.right_in;
            outside = record { within = in_O; out = n };
          })
          go (inl m) (inl r) = inl r
          go (inl m) (inr r) = inr (𝓟.ideal.sum_in _ _ m r)

      finish : Generator R O P M ⊎ P (sum_over R.ops h.0 (λ f. f.left ⊗ f.right)) → Generator R O P M
      finish (inl r) = r
      finish (inr r) = absurd (𝓟.proper (subst P (sym h.1) r))

  -- each member of M is a multiple of the generator, modulo M·P
  pub generated : (a : Generator R O P M) → (z : A) → M z → Remainder R O (Product R.ops M P) a.element z
  generated a z m =
      let u = a.element ⊗ a.partner in
      let i = 𝓟.invert u a.outside.within a.outside.out in
      let f : (x y j u : A) → u ≡ x ⊗ y → z ≡ x ⊗ (j ⊗ (y ⊗ z)) ⊕ z ⊗ ⊖ (j ⊗ u ⊕ ⊖ 𝟙)
      = λ x y j u e.
      from_one R (z ⊗ j) e (ring R (x ∷ y ∷ j ∷ u ∷ z ∷ []) λ q h. simp (reads, q, h 0, h 1, h 2, h 3, h 4)
      (q.equal _ _ refl)) in
      record {
        scalar = i.inverse ⊗ (a.partner ⊗ z);
        scalar_in = 𝓞.product_in _ _ i.inverse_in (a.partner_in z m);
        rest = z ⊗ ⊖ (i.inverse ⊗ u ⊕ ⊖ 𝟙);
        rest_in = product_member R O 𝓞 M P z _ m (ideal_neg R O 𝓞 P 𝓟.ideal _ i.is);
        is = f a.element a.partner i.inverse u refl;
      }

  -- a multiple of the generator is in M·P for members of P alone
  pub generator_free : (a : Generator R O P M) → (u : A) → O u → Product R.ops M P (a.element ⊗ u) → P u
  generator_free a u u_in h = go (𝓟.decide u u_in)
    where
      in_P : P (a.partner ⊗ (a.element ⊗ u))
      in_P =
          product_universal R M P P (ideal_additive R O 𝓞 P 𝓟.ideal) a.partner
          (λ x y m n. subst P (R.mul_assoc _ _ _) (𝓟.ideal.scale_in _ y (a.partner_in x m) n))
          (a.element ⊗ u) h

      go : P u ⊎ (¬ (P u)) → P u
      go (inl m) = m
      go (inr n) =
          let o = outside_product R O 𝓞 P 𝓟 _ u a.outside (record { within = u_in; out = n }) in
          let e : (x y : A) → y ⊗ (x ⊗ u) ≡ x ⊗ y ⊗ u
          = λ x y. ring R (x ∷ y ∷ u ∷ []) λ q i. simp (reads, q, i 0, i 1, i 2) (q.equal _ _ refl) in
          absurd (o.out (subst P (e a.element a.partner) in_P))
