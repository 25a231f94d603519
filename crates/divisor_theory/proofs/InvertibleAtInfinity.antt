-- Modules over O_inf that are invertible, and have a multiple of each function by a power of 1/x: they are lattices at
-- infinity, and so are their products and the inverses of infinite places.
use Rattle.std.proofs.Common.{◌≡◌, ℕ, suc, ◌+◌, List, [], ◌∷◌, map, All, refl, sym, ◌∙◌, ap, subst}
use Rattle.std.proofs.lemmas.List.Elements.{All-map}
use Rattle.ring_lemmas.specs.Ring.{pow}
use Rattle.ring_lemmas.specs.Sums.{sum_over}
use Rattle.ring_theory.specs.Subsets.{IsSubring, IsModule, Span, Factors, Product, products}
use Rattle.ring_lemmas.proofs.Ring.{mul_zero, pow_add}
use Rattle.ring_lemmas.proofs.Solver.{ring, reads}
use Rattle.ring_theory.proofs.Subsets.{product_member, product_module, product_of_spans, span_head, span_tail, span_least, span_module}
use Rattle.prime_theory.specs.Ideals.{SameSet, Inverse, Invertible}
use Rattle.prime_theory.specs.Primes.{IsPrime}
use Rattle.prime_theory.proofs.Invertible.{inverse_is_module, inverse_of_product, invertible_product}
use Rattle.prime_theory.proofs.Lists.{everywhere}
use Rattle.prime_theory.proofs.Primes.{ideal_module}
use Rattle.prime_theory.proofs.Products.{product_into, product_monotone, product_swap, own_module, additive_of_module}
use Rattle.ff_fields.specs.Field.{CodeField}
use Rattle.ff_poly.specs.Polynomials.{polynomials}
use Rattle.function_field.specs.declared.side.Side.TheVariants.{Infinite}
use Rattle.function_field.specs.Places.{Place, IsPlace, IsIn, IsIntegralAt}
use Rattle.function_field.specs.Functions.{Equation, FunctionOf, ring_of, setting_of, IsFiniteAtInfinity}
use Rattle.function_field.specs.Discriminant.{discriminant}
use Rattle.function_field.proofs.ScalarRings.{scalars_subring, finite_at_infinity_subring}
use Rattle.places_theory.proofs.Sides.{side_ring, scalar_integral}
use Rattle.infinite_theory.proofs.InfiniteLaws.{over_t}
use Rattle.ideal_theory.proofs.InfiniteSide.{infinite_prime, infinite_invertible}
use Rattle.space_theory.specs.Spaces.{IsLatticeAtInfinity}
use Rattle.space_theory.proofs.AtInfinity.{integral_at_infinity}

module _ {k : CodeField} (c : Equation k) where
  infixl 65 ◌⊕◌
  infixl 70 ◌⊗◌
  open ring_of c use {ops, 𝟘, 𝟙, ◌⊕◌, ◌⊗◌}

  -- O_inf
  abbrev pub Inf : FunctionOf c → Type 0
  Inf = IsIntegralAt (setting_of c) Infinite

  abbrev t : FunctionOf c
  t = (setting_of c).one_over_x

  pub infinite_ring : IsSubring (ring_of c).ops (IsIntegralAt (setting_of c) Infinite)
  infinite_ring = side_ring (setting_of c) (scalars_subring c) Infinite

  -- a module over O_inf that is invertible, with a multiple t^j·z of each function z
  pub record IsInvertibleAtInfinity (X : FunctionOf c → Type 0) : Type 0 where
    pub module_is : IsModule (ring_of c).ops (IsIntegralAt (setting_of c) Infinite) X
    pub invertible : Invertible (ring_of c).ops (IsIntegralAt (setting_of c) Infinite) X
    pub exponent : FunctionOf c → ℕ
    pub taken : (z : FunctionOf c) → X ((ring_of c).◌⊗◌ (pow (ring_of c).ops (setting_of c).one_over_x (exponent z)) z)

  abbrev R : FunctionOf c → Type 0
  R = IsFiniteAtInfinity c

  module _ (X : FunctionOf c → Type 0) (h : IsInvertibleAtInfinity X) where
    abbrev Q : FunctionOf c → Type 0
    Q = Inverse (ring_of c).ops (IsIntegralAt (setting_of c) Infinite) X

    -- the first factors of the sum of products that is 1 span the module
    by_lefts : (z : FunctionOf c) → X z → (ps : List (Factors X Q))
        → Product (ring_of c).ops Inf (Span (ring_of c).ops R (map (λ f. f.left) ps))
        (z ⊗ sum_over (ring_of c).ops ps (λ f. f.left ⊗ f.right))
    by_lefts z z_in [] =
        subst (Product (ring_of c).ops Inf (Span (ring_of c).ops R [])) (sym (mul_zero (ring_of c) z))
        (product_module (ring_of c) Inf infinite_ring Inf (Span (ring_of c).ops R [])
        (own_module (ring_of c) Inf infinite_ring)).zero_in
    by_lefts z z_in (f ∷ ps) =
        let gs = map (λ f. f.left) ps in
        let 𝓞 = own_module (ring_of c) Inf infinite_ring in
        subst (Product (ring_of c).ops Inf (Span (ring_of c).ops R (f.left ∷ gs)))
        (turn z f.left f.right (sum_over (ring_of c).ops ps (λ f. f.left ⊗ f.right)))
        ((product_module (ring_of c) Inf infinite_ring Inf (Span (ring_of c).ops R (f.left ∷ gs)) 𝓞).sum_in _ _
        (product_member (ring_of c) Inf infinite_ring Inf (Span (ring_of c).ops R (f.left ∷ gs)) (f.right ⊗ z) f.left
        (f.right_in z z_in)
        (span_head (ring_of c) R (finite_at_infinity_subring c) f.left gs))
        (product_monotone (ring_of c) Inf infinite_ring Inf (Span (ring_of c).ops R gs) Inf
        (Span (ring_of c).ops R (f.left ∷ gs)) 𝓞 (λ a m. m)
        (λ a m. span_tail (ring_of c) R (finite_at_infinity_subring c) f.left gs a m) _ (by_lefts z z_in ps)))
      where
        turn : (z l r s : FunctionOf c) → r ⊗ z ⊗ l ⊕ z ⊗ s ≡ z ⊗ (l ⊗ r ⊕ s)
        turn z l r s =
            ring (ring_of c) (z ∷ l ∷ r ∷ s ∷ []) λ q i. simp (reads, q, i 0, i 1, i 2, i 3) (q.equal _ _ refl)

    over_scalars : IsModule (ring_of c).ops R X
    over_scalars = record {
      zero_in = h.module_is.zero_in;
      sum_in = h.module_is.sum_in;
      scale_in =
          λ s a s_in m. h.module_is.scale_in s a (scalar_integral (setting_of c) (scalars_subring c) Infinite s s_in) m;
    }

    left_members : (ps : List (Factors X Q)) → All X (map (λ f. f.left) ps)
    left_members ps = All-map X (λ f. f.left) ps (everywhere (λ f. X f.left) (λ f. f.left_in) ps)

    -- such a module is a lattice at infinity
    pub invertible_lattice : ¬ (discriminant c ≡ (polynomials k).𝟘) → IsLatticeAtInfinity c X
    invertible_lattice some = record {
      generators = products (ring_of c).ops 𝓘.generators gs;
      spanned = λ z. (λ m. to z m, λ m. from z m);
      exponent = h.exponent;
      taken = h.taken;
    }
      where
        𝓘 : IsLatticeAtInfinity c (IsIntegralAt (setting_of c) Infinite)
        𝓘 = integral_at_infinity c some

        gs : List (FunctionOf c)
        gs = map (λ f. f.left) h.invertible.0

        to : (z : FunctionOf c) → X z → Span (ring_of c).ops R (products (ring_of c).ops 𝓘.generators gs) z
        to z m =
            (product_of_spans (ring_of c) R (finite_at_infinity_subring c) 𝓘.generators gs z).0
            (product_monotone (ring_of c) R (finite_at_infinity_subring c) Inf (Span (ring_of c).ops R gs)
            (Span (ring_of c).ops R 𝓘.generators) (Span (ring_of c).ops R gs)
            (span_module (ring_of c) R (finite_at_infinity_subring c) 𝓘.generators) (λ a i. (𝓘.spanned a).0 i)
            (λ a i. i) z
            (subst (Product (ring_of c).ops Inf (Span (ring_of c).ops R gs))
            (ap (λ w. z ⊗ w) (sym h.invertible.1) ∙ (ring_of c).mul_one z)
            (by_lefts z m h.invertible.0)))

        from : (z : FunctionOf c) → Span (ring_of c).ops R (products (ring_of c).ops 𝓘.generators gs) z → X z
        from z m =
            product_into (ring_of c) (Span (ring_of c).ops R 𝓘.generators) (Span (ring_of c).ops R gs) X
            (additive_of_module (ring_of c) Inf X h.module_is)
            (λ a b i j.
            h.module_is.scale_in a b ((𝓘.spanned a).1 i)
            (span_least (ring_of c) R (finite_at_infinity_subring c) X over_scalars gs (left_members h.invertible.0)
            b j)) z
            ((product_of_spans (ring_of c) R (finite_at_infinity_subring c) 𝓘.generators gs z).1 m)

  pub invertible_same : (X Y : FunctionOf c → Type 0) → SameSet X Y → IsInvertibleAtInfinity X
      → IsInvertibleAtInfinity Y
  invertible_same X Y s h = record {
    module_is = 𝓨;
    invertible =
        product_monotone (ring_of c) Inf infinite_ring X (Inverse ops Inf X) Y (Inverse ops Inf Y) 𝓨 (λ z. (s z).0)
        (λ z m y n. m y ((s y).1 n)) 𝟙 h.invertible;
    exponent = h.exponent;
    taken = λ z. (s _).0 (h.taken z);
  }
    where
      𝓨 : IsModule (ring_of c).ops Inf Y
      𝓨 = record {
        zero_in = (s 𝟘).0 h.module_is.zero_in;
        sum_in = λ a b m n. (s _).0 (h.module_is.sum_in a b ((s a).1 m) ((s b).1 n));
        scale_in = λ r a r_in m. (s _).0 (h.module_is.scale_in r a r_in ((s a).1 m));
      }

  pub times_invertible : (X Y : FunctionOf c → Type 0) → IsInvertibleAtInfinity X → IsInvertibleAtInfinity Y
      → IsInvertibleAtInfinity (Product (ring_of c).ops X Y)
  times_invertible X Y h i = record {
    module_is = product_module (ring_of c) Inf infinite_ring X Y h.module_is;
    invertible =
        product_monotone (ring_of c) Inf infinite_ring (Product ops X Y)
        (Product ops (Inverse ops Inf X) (Inverse ops Inf Y)) (Product ops X Y) (Inverse ops Inf (Product ops X Y))
        (product_module (ring_of c) Inf infinite_ring X Y h.module_is) (λ z m. m)
        (λ z. (inverse_of_product (ring_of c) Inf infinite_ring X Y h.module_is i.module_is h.invertible i.invertible
        z).0) 𝟙
        (invertible_product (ring_of c) Inf infinite_ring X Y h.module_is i.module_is h.invertible i.invertible);
    exponent = λ z. h.exponent z + i.exponent 𝟙;
    taken = λ z.
        subst (Product ops X Y)
        (turn (pow ops t (h.exponent z)) (pow ops t (i.exponent 𝟙)) z
        ∙ ap (λ w. w ⊗ z) (sym (pow_add (ring_of c) t (h.exponent z) (i.exponent 𝟙))))
        (product_member (ring_of c) Inf infinite_ring X Y _ _ (h.taken z) (i.taken 𝟙));
  }
    where
      turn : (a b z : FunctionOf c) → a ⊗ z ⊗ (b ⊗ 𝟙) ≡ a ⊗ b ⊗ z
      turn a b z = ring (ring_of c) (a ∷ b ∷ z ∷ []) λ q i. simp (reads, q, i 0, i 1, i 2) (q.equal _ _ refl)

  module _ (some : ¬ (discriminant c ≡ (polynomials k).𝟘)) where
    pub ring_invertible : IsInvertibleAtInfinity (IsIntegralAt (setting_of c) Infinite)
    ring_invertible = record {
      module_is = own_module (ring_of c) Inf infinite_ring;
      invertible =
          subst (Product ops Inf (Inverse ops Inf Inf)) ((ring_of c).mul_one 𝟙)
          (product_member (ring_of c) Inf infinite_ring Inf (Inverse ops Inf Inf) 𝟙 𝟙 infinite_ring.one_in
          (λ y m. infinite_ring.product_in _ _ infinite_ring.one_in m));
      exponent = (integral_at_infinity c some).exponent;
      taken = (integral_at_infinity c some).taken;
    }

    module _ (P : Place (FunctionOf c)) (place : IsPlace (setting_of c) P) (e : P.side ≡ Infinite) where
      𝓟 : IsPrime (ring_of c).ops Inf (IsIn (setting_of c) P)
      𝓟 = infinite_prime c P place e

      -- a place: t^(j+1)·z is t times a member of O_inf
      pub place_at_infinity : IsInvertibleAtInfinity (IsIn (setting_of c) P)
      place_at_infinity = record {
        module_is = ideal_module (ring_of c) Inf infinite_ring (IsIn (setting_of c) P) 𝓟.ideal;
        invertible = infinite_invertible c some P place e;
        exponent = λ z. suc ((integral_at_infinity c some).exponent z);
        taken = λ z.
            subst (IsIn (setting_of c) P) (turn t (pow ops t ((integral_at_infinity c some).exponent z)) z)
            (𝓟.ideal.scale_in _ t ((integral_at_infinity c some).taken z) (over_t k c P place e));
      }
        where
          turn : (t w z : FunctionOf c) → w ⊗ z ⊗ t ≡ t ⊗ w ⊗ z
          turn t w z = ring (ring_of c) (t ∷ w ∷ z ∷ []) λ q i. simp (reads, q, i 0, i 1, i 2) (q.equal _ _ refl)

      -- its inverse has O_inf
      pub inverse_at_infinity : IsInvertibleAtInfinity
          (Inverse (ring_of c).ops (IsIntegralAt (setting_of c) Infinite) (IsIn (setting_of c) P))
      inverse_at_infinity = record {
        module_is = inverse_is_module (ring_of c) Inf infinite_ring (IsIn (setting_of c) P);
        invertible =
            product_monotone (ring_of c) Inf infinite_ring (Inverse ops Inf M) M (Inverse ops Inf M)
            (Inverse ops Inf (Inverse ops Inf M))
            (inverse_is_module (ring_of c) Inf infinite_ring M) (λ z m. m)
            (λ z m y n. subst Inf ((ring_of c).mul_comm y z) (n z m)) 𝟙
            (product_swap (ring_of c) Inf infinite_ring M (Inverse ops Inf M)
            (inverse_is_module (ring_of c) Inf infinite_ring M) 𝟙
            (infinite_invertible c some P place e));
        exponent = (integral_at_infinity c some).exponent;
        taken = λ z y m. infinite_ring.product_in _ _ ((integral_at_infinity c some).taken z) (𝓟.ideal.within y m);
      }
        where
          M : FunctionOf c → Type 0
          M = IsIn (setting_of c) P
