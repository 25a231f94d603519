-- What a map of rings makes of the modules over a subring: their extension by a ring of scalars. Sums of products,
-- powers and inverses go along.
use Rattle.std.proofs.Common.{◌≡◌, ℕ, zero, suc, List, [], ◌∷◌, map, refl, sym, ◌∙◌, ap, subst, All}
use Rattle.std.proofs.Math.IntN.{ℤ, pos, negsuc}
use Rattle.std.proofs.lemmas.List.Elements.{All-nil, All-cons, All-head, All-tail}
use Rattle.ring_lemmas.specs.Ring.{Operations, CommRing}
use Rattle.ring_lemmas.proofs.Ring.{one_mul, mul_left_comm}
use Rattle.ring_theory.specs.Maps.{IsHom}
use Rattle.ring_theory.specs.Subsets.{IsSubring, IsModule, Span, Product, Colon}
use Rattle.ring_theory.proofs.RowMaps.{hom_zero}
use Rattle.ring_theory.proofs.Subsets.{product_module, product_member, colon_module, span_module, span_least, span_members}
use Rattle.prime_theory.specs.Ideals.{SameSet, IsAdditive, Inverse, Invertible, Power}
use Rattle.prime_theory.specs.IntegerValues.{PrimePower}
use Rattle.prime_theory.proofs.Products.{product_universal, product_into, product_monotone, product_swap, product_one, own_module, power_module, additive_of_module}
use Rattle.prime_theory.proofs.Invertible.{inverse_is_module, inverse_unique}
use Rattle.ff_ideal.specs.Powers.{IntegerPower}
use Rattle.ff_ideal.proofs.IntegerPowers.{same_power}

-- the value of a member of X
pub record Image {A B : Type 0} (f : A → B) (X : A → Type 0) (w : B) : Type 0 where
  pub member : A
  pub member_in : X member
  pub is : w ≡ f member

-- the sums of multiples, by scalars of N, of the values of the members of X
abbrev pub Extended : {A B : Type 0} → Operations B → (A → B) → (B → Type 0) → (A → Type 0) → B → Type 0
Extended T f N X = Product T N (Image f X)

module _ {A B : Type 0} (R : CommRing A) (T : CommRing B) (f : A → B) (hom : IsHom R T f) (N : B → Type 0)
    (𝓝 : IsSubring T.ops N) where
  infixl 65 ◌⊕◌
  infixl 70 ◌⊗◌
  open T use {ops, 𝟘, 𝟙, ◌⊕◌, ◌⊗◌}

  abbrev Ext : (A → Type 0) → B → Type 0
  Ext X = Extended T.ops f N X

  pub extended_module : (X : A → Type 0) → IsModule T.ops N (Extended T.ops f N X)
  extended_module X = product_module T N 𝓝 N (Image f X) (own_module T N 𝓝)

  pub extended_image : (X : A → Type 0) (x : A) → X x → Extended T.ops f N X (f x)
  extended_image X x m =
      subst (Ext X) (one_mul T (f x))
      (product_member T N 𝓝 N (Image f X) 𝟙 (f x) 𝓝.one_in (record { member = x; member_in = m; is = refl }))

  -- it is the least module over the scalars that has the values
  pub extended_least : (X : A → Type 0) (M : B → Type 0) → IsModule T.ops N M → ((x : A) → X x → M (f x)) → (w : B)
      → Extended T.ops f N X w → M w
  extended_least X M 𝓜 g =
      product_into T N (Image f X) M (additive_of_module T N M 𝓜)
      (λ r w r_in i. subst (λ v. M (r ⊗ v)) (sym i.is) (𝓜.scale_in r (f i.member) r_in (g i.member i.member_in)))

  pub extended_wider : (X Y : A → Type 0) → ((x : A) → X x → Y x) → (w : B) → Extended T.ops f N X w
      → Extended T.ops f N Y w
  extended_wider X Y g = extended_least X (Ext Y) (extended_module Y) (λ x m. extended_image Y x (g x m))

  pub extended_same : (X Y : A → Type 0) → SameSet X Y → SameSet (Extended T.ops f N X) (Extended T.ops f N Y)
  extended_same X Y s w = (extended_wider X Y (λ x. (s x).0) w, extended_wider Y X (λ x. (s x).1) w)

  -- the members of R whose values are in a module are closed under sums
  pulled_additive : (M : B → Type 0) → IsModule T.ops N M → IsAdditive R.ops (λ x. M (f x))
  pulled_additive M 𝓜 = record {
    zero_in = subst M (sym (hom_zero R T f hom)) 𝓜.zero_in;
    sum_in = λ a b m n. subst M (sym (hom.add a b)) (𝓜.sum_in (f a) (f b) m n);
  }

  -- the extension of a span is the span of the values
  module _ (S : A → Type 0) (𝓢 : IsSubring R.ops S) (scalars : (s : A) → S s → N (f s)) where
    image_span : (gs : List A) (x : A) → Span R.ops S gs x → Span T.ops N (map f gs) (f x)
    image_span [] x h = ap f h ∙ hom_zero R T f hom
    image_span (g ∷ gs) x h = record {
      scalar = f h.scalar;
      scalar_in = scalars h.scalar h.scalar_in;
      rest = f h.rest;
      rest_in = image_span gs h.rest h.rest_in;
      is = ap f h.is ∙ hom.add (R.◌⊗◌ h.scalar g) h.rest ∙ ap (λ w. w ⊕ f h.rest) (hom.mul h.scalar g);
    }

    images_all : (M : B → Type 0) (gs : List A) → All (λ g. M (f g)) gs → All M (map f gs)
    images_all M [] h = All-nil M
    images_all M (g ∷ gs) h =
        All-cons M (f g) (map f gs) (All-head (λ g. M (f g)) g gs h)
        (images_all M gs (All-tail (λ g. M (f g)) g gs h))

    pub span_extended : (gs : List A) → SameSet (Span T.ops N (map f gs)) (Extended T.ops f N (Span R.ops S gs))
    span_extended gs w = (
      span_least T N 𝓝 (Ext (Span R.ops S gs)) (extended_module (Span R.ops S gs)) (map f gs)
          (images_all (Ext (Span R.ops S gs)) gs
          (λ i d l. extended_image (Span R.ops S gs) _ (span_members R S 𝓢 gs i d l))) w,
      extended_least (Span R.ops S gs) (Span T.ops N (map f gs)) (span_module T N 𝓝 (map f gs)) (image_span gs) w,
    )

  module _ (O : A → Type 0) (𝓞 : IsSubring R.ops O) where
    module _ (X Y : A → Type 0) where
      abbrev XY : A → Type 0
      XY = Product R.ops X Y

      turn : (r : B) (x y : A) (w : B) → w ≡ f y → r ⊗ f (R.◌⊗◌ x y) ≡ f x ⊗ (r ⊗ w)
      turn r x y w e =
          ap (λ v. r ⊗ v) (hom.mul x y) ∙ mul_left_comm T r (f x) (f y) ∙ ap (λ v. f x ⊗ (r ⊗ v)) (sym e)

      times_image : (x : A) → X x → (b : B) → Extended T.ops f N Y b → Extended T.ops f N (Product R.ops X Y) (f x ⊗ b)
      times_image x m =
          product_universal T N (Image f Y) (Ext XY) (additive_of_module T N (Ext XY) (extended_module XY)) (f x)
          (λ r w r_in i.
          subst (Ext XY) (turn r x i.member w i.is)
          ((extended_module XY).scale_in r _ r_in
          (extended_image XY _ (product_member R O 𝓞 X Y x i.member m i.member_in))))

      pub extended_times : (a b : B) → Extended T.ops f N X a → Extended T.ops f N Y b
          → Extended T.ops f N (Product R.ops X Y) (a ⊗ b)
      extended_times a b h i =
          extended_least X (Colon T.ops (Ext XY) (Ext Y)) (colon_module T N 𝓝 (Ext XY) (Ext Y) (extended_module XY))
          (λ x m y n. times_image x m y n) a h b i

      -- the extension of a product is the product of the extensions
      pub extended_product : SameSet (Extended T.ops f N (Product R.ops X Y))
          (Product T.ops (Extended T.ops f N X) (Extended T.ops f N Y))
      extended_product w =
          let 𝓟 = product_module T N 𝓝 (Ext X) (Ext Y) (extended_module X) in (
            extended_least XY (Product T.ops (Ext X) (Ext Y)) 𝓟
                (product_into R X Y (λ x. Product T.ops (Ext X) (Ext Y) (f x))
                (pulled_additive (Product T.ops (Ext X) (Ext Y)) 𝓟)
                (λ a b m n.
                subst (Product T.ops (Ext X) (Ext Y)) (sym (hom.mul a b))
                (product_member T N 𝓝 (Ext X) (Ext Y) (f a) (f b) (extended_image X a m) (extended_image Y b n)))) w,
            product_into T (Ext X) (Ext Y) (Ext XY) (additive_of_module T N (Ext XY) (extended_module XY))
                extended_times w,
          )

    -- where the extension of the ring O is a ring
    module _ (B' : B → Type 0) (𝓑 : IsSubring T.ops B') (whole : SameSet (Extended T.ops f N O) B') where
      pub extended_over : (X : A → Type 0) → IsModule R.ops O X → IsModule T.ops B' (Extended T.ops f N X)
      extended_over X 𝓧 = record {
        zero_in = (extended_module X).zero_in;
        sum_in = (extended_module X).sum_in;
        scale_in = λ s a s_in m.
            extended_wider (Product R.ops O X) X (λ x. (product_one R O 𝓞 X 𝓧 x).0) (s ⊗ a)
            (extended_times O X s a ((whole s).1 s_in) m);
      }

      pub extended_power : (X : A → Type 0) → IsModule R.ops O X → (n : ℕ)
          → SameSet (Extended T.ops f N (Power R.ops O X n)) (Power T.ops B' (Extended T.ops f N X) n)
      extended_power X 𝓧 zero w = whole w
      extended_power X 𝓧 (suc n) w =
          let r = extended_power X 𝓧 n in
          let p = extended_product X (Power R.ops O X n) w in
          let 𝓔 = extended_over X 𝓧 in (
            λ h.
                product_monotone T B' 𝓑 (Ext X) (Ext (Power R.ops O X n)) (Ext X) (Power T.ops B' (Ext X) n) 𝓔
                (λ a m. m) (λ a. (r a).0) w (p.0 h),
            λ h.
                p.1 (product_monotone T B' 𝓑 (Ext X) (Power T.ops B' (Ext X) n) (Ext X) (Ext (Power R.ops O X n)) 𝓔
                (λ a m. m) (λ a. (r a).1) w h),
          )

      pub extended_inverse : (X : A → Type 0) → IsModule R.ops O X → Invertible R.ops O X
          → SameSet (Extended T.ops f N (Inverse R.ops O X)) (Inverse T.ops B' (Extended T.ops f N X))
      extended_inverse X 𝓧 invertible =
          let Q = Inverse R.ops O X in
          inverse_unique T B' 𝓑 (Ext X) (Ext Q) (extended_over Q (inverse_is_module R O 𝓞 X))
          ((extended_product X Q 𝟙).0
          (subst (Ext (Product R.ops X Q)) hom.𝟙 (extended_image (Product R.ops X Q) R.𝟙 invertible)))
          (λ a b m n.
          (whole (a ⊗ b)).0
          (extended_wider (Product R.ops X Q) O
          (product_into R X Q O (additive_of_module R O O (own_module R O 𝓞))
          (λ x y x_in y_in. subst O (R.mul_comm y x) (y_in x x_in)))
          (a ⊗ b) (extended_times X Q a b m n)))

      pub extended_integer : (X : A → Type 0) → IsModule R.ops O X → Invertible R.ops O X → (m : ℤ)
          → SameSet (Extended T.ops f N (IntegerPower R.ops O X m)) (IntegerPower T.ops B' (Extended T.ops f N X) m)
      extended_integer X 𝓧 invertible (pos n) w = extended_power X 𝓧 n w
      extended_integer X 𝓧 invertible (negsuc n) w =
          let Q = Inverse R.ops O X in
          let 𝓠 = inverse_is_module R O 𝓞 X in
          let r = extended_power Q 𝓠 (suc n) w in
          let s = same_power T B' 𝓑 (Inverse T.ops B' (Ext X)) (Ext Q) (inverse_is_module T B' 𝓑 (Ext X))
          (extended_over Q 𝓠) (extended_inverse X 𝓧 invertible) (suc n) w in
          (λ h. s.0 (r.0 h), λ h. r.1 (s.1 h))

-- powers with integers as exponents
module _ {A : Type 0} (R : CommRing A) (O : A → Type 0) (𝓞 : IsSubring R.ops O) where
  pub integer_module : (P : A → Type 0) → IsModule R.ops O P → (m : ℤ) → IsModule R.ops O (IntegerPower R.ops O P m)
  integer_module P 𝓟 (pos n) = power_module R O 𝓞 P 𝓟 n
  integer_module P 𝓟 (negsuc n) = power_module R O 𝓞 (Inverse R.ops O P) (inverse_is_module R O 𝓞 P) (suc n)

  pub integer_same : (P Q : A → Type 0) → IsModule R.ops O P → IsModule R.ops O Q → SameSet P Q → (m : ℤ)
      → SameSet (IntegerPower R.ops O P m) (IntegerPower R.ops O Q m)
  integer_same P Q 𝓟 𝓠 s (pos n) = same_power R O 𝓞 Q P 𝓠 𝓟 s n
  integer_same P Q 𝓟 𝓠 s (negsuc n) =
      same_power R O 𝓞 (Inverse R.ops O Q) (Inverse R.ops O P) (inverse_is_module R O 𝓞 Q) (inverse_is_module R O 𝓞 P)
      (λ z. (λ h y m. h y ((s y).1 m), λ h y m. h y ((s y).0 m))) (suc n)

  -- the power by the two parts of the exponent
  pub integer_parts : (P : A → Type 0) → IsModule R.ops O P → (m : ℤ)
      → SameSet (IntegerPower R.ops O P m) (PrimePower R.ops O P m)
  integer_parts P 𝓟 (pos n) z =
      let 𝓧 = power_module R O 𝓞 P 𝓟 n in
      let one = product_one R O 𝓞 (Power R.ops O P n) 𝓧 z in (
        λ h. product_swap R O 𝓞 O (Power R.ops O P n) 𝓧 z (one.1 h),
        λ h. one.0 (product_swap R O 𝓞 (Power R.ops O P n) O (own_module R O 𝓞) z h),
      )
  integer_parts P 𝓟 (negsuc n) z =
      let Q = Inverse R.ops O P in
      let one = product_one R O 𝓞 (Power R.ops O Q (suc n)) (power_module R O 𝓞 Q (inverse_is_module R O 𝓞 P) (suc n))
      z in
      (one.1, one.0)
