-- The lattice of the prime of an idempotent e: the product with the order of what an ideal spans with a lift of 1 - e.
use Rattle.std.proofs.Common.{◌≡◌, ℕ, ◌↔◌, ◌<◌, List, [], ◌∷◌, ◌++◌, refl, sym, ◌∙◌, ap, ap₂, subst}
use Rattle.ring_lemmas.specs.Ring.{CommRing}
use Rattle.ring_lemmas.specs.Lists.{scale_list}
use Rattle.ring_lemmas.proofs.Ring.{one_mul, neg_mul, add_add, add_sub}
use Rattle.ring_lemmas.proofs.Solver.{ring, reads}
use Rattle.ring_theory.specs.Subsets.{IsModule, IsSubring, Product, Span}
use Rattle.ring_theory.proofs.Subsets.{span_zero, span_head, product_module, product_member, product_least}
use Rattle.prime_theory.specs.Ideals.{Multiple}
use Rattle.prime_theory.specs.Ideals as theory
use Rattle.prime_theory.proofs.PohstZassenhaus.{multiples_ideal}
use Rattle.order_theory.specs.Orders as theory_orders
use Rattle.order_theory.proofs.LocalOrders.{order_polynomials}
use Rattle.ff_fields.specs.Field.{CodeField}
use Rattle.ff_fields.specs.Code.{raw_ring}
use Rattle.ff_poly.specs.Polynomials.{polynomials, constant_poly}
use Rattle.ff_poly.proofs.Parts.{minus_one}
use Rattle.ff_falg.specs.Algebras.{IsVector}
use Rattle.function_field.specs.Functions.{IsPolynomial, of_poly}
use Rattle.function_field.specs.Values.{ElemValue, Functions, functions, function_of, equation_of}
use Rattle.function_field.proofs.ScalarRings.{polynomials_subring, of_poly_neg, of_poly_one}
use Rattle.ff_lattice.specs.Lattices.{LatticeValue, Contains, InSpanOf, IsSumOfMembers, row_elems}
use Rattle.ff_lattice.specs.Quotients.{QuotientValue, IsQuotient, class_algebra, dimension, lifted}
use Rattle.ff_lattice.proofs.QuotientLaws.{lift_add, lift_scale, lift_member, scale_vector, sum_vector}
use Rattle.ff_lattice.proofs.SumsAndProducts.{sum_iff}
use Rattle.value_theory.proofs.Bridge.{order_set}
use Rattle.value_theory.proofs.Ideals.{members_module, ideal_set}
use Rattle.ff_places.specs.Steps.{IsIdealAbove, IsInComponent, rest_of}

module _ (k : CodeField) (q : QuotientValue) (h : IsQuotient k q) (l : LatticeValue) (above : IsIdealAbove k q l)
    (e : List ℕ) (e_in : IsVector k.ops (dimension q) e) where
  abbrev F : CommRing (Functions k q.p)
  F = functions k q.p

  abbrev T : Functions k q.p → Type 0
  T = IsPolynomial (equation_of k q.p)

  abbrev 𝓢 : IsSubring (functions k q.p).ops (IsPolynomial (equation_of k q.p))
  𝓢 = polynomials_subring (equation_of k q.p)

  abbrev O : Functions k q.p → Type 0
  O = Contains k q.p q.order

  abbrev I : Functions k q.p → Type 0
  I = Contains k q.p l

  abbrev V : List ℕ → Type 0
  V a = IsVector k.ops (dimension q) a

  abbrev lift : List ℕ → Functions k q.p
  lift a = function_of k q.p (lifted k.ops q a)

  -- 1 less the lifted element, and a lift of 1 less the element
  abbrev u : Functions k q.p
  u = (functions k q.p).◌⊕◌ (functions k q.p).𝟙 ((functions k q.p).⊖◌ (lift e))

  abbrev r : Functions k q.p
  r = lift (rest_of k.ops (class_algebra q) e)

  abbrev 𝓞 : theory_orders.IsOrder (equation_of k q.p) (Contains k q.p q.order)
  𝓞 = order_set k q.p h.frame.positive q.order h.frame.order

  abbrev 𝓘 : theory.IsIdeal (functions k q.p).ops (Contains k q.p q.order) (Contains k q.p l)
  𝓘 = ideal_set k q.p q.order l above.ideal

  -- ---- the lift of the rest is 1 less the lifted element, up to the ideal

  neg_in : k.neg 1 < k.size
  neg_in = k.laws.neg_below 1 k.laws.one_below

  pub rest_vector : V (rest_of k.ops (class_algebra q) e)
  rest_vector = sum_vector k q h.frame q.one (scale_list (raw_ring k.ops) (k.neg 1) e) h.one_is.codes
      (scale_vector k q h.frame (k.neg 1) neg_in e e_in)

  minus : of_poly (equation_of k q.p) (constant_poly k (k.neg 1)) ≡ F.⊖◌ F.𝟙
  minus = ap (of_poly (equation_of k q.p)) (minus_one k) ∙ sym (of_poly_neg (equation_of k q.p) (polynomials k).𝟙)
      ∙ ap F.⊖◌ (sym (of_poly_one (equation_of k q.p)))

  rest_is : r ≡ F.◌⊕◌ (lift q.one) (F.⊖◌ (lift e))
  rest_is =
      lift_add k q h.frame q.one (scale_list (raw_ring k.ops) (k.neg 1) e) h.one_is.codes
      (scale_vector k q h.frame (k.neg 1) neg_in e e_in)
      ∙ ap (F.◌⊕◌ (lift q.one))
      (lift_scale k q h.frame (k.neg 1) neg_in e e_in ∙ ap (λ x. F.◌⊗◌ x (lift e)) minus ∙ neg_mul F F.𝟙 (lift e)
      ∙ ap F.⊖◌ (one_mul F (lift e)))

  regroup : (a b o : Functions k q.p) → F.◌⊕◌ (F.◌⊕◌ b (F.⊖◌ a)) (F.⊖◌ (F.◌⊕◌ o (F.⊖◌ a))) ≡ F.⊖◌ (F.◌⊕◌ o (F.⊖◌ b))
  regroup a b o = ring F (a ∷ b ∷ o ∷ []) λ q h. simp (reads, q, h 0, h 1, h 2) (q.equal _ _ refl)

  neg_in_ideal : (a : Functions k q.p) → I a → I (F.⊖◌ a)
  neg_in_ideal a a_in = subst I (neg_mul F F.𝟙 a ∙ ap F.⊖◌ (one_mul F a))
      (𝓘.scale_in (F.⊖◌ F.𝟙) a (𝓞.ring.neg_in F.𝟙 𝓞.ring.one_in) a_in)

  near : I (F.◌⊕◌ r (F.⊖◌ u))
  near =
      subst I (sym (ap (λ x. F.◌⊕◌ x (F.⊖◌ u)) rest_is ∙ regroup (lift e) (lift q.one) F.𝟙))
      (neg_in_ideal _ (above.has _ h.one_is.difference))

  u_in : O u
  u_in = 𝓞.ring.sum_in F.𝟙 (F.⊖◌ (lift e)) 𝓞.ring.one_in (𝓞.ring.neg_in (lift e) (lift_member k q h.frame e e_in))

  -- ---- the sums are a module over the order

  abbrev C : Functions k q.p → Type 0
  C = IsInComponent k q l e

  𝓤 : theory.IsIdeal (functions k q.p).ops (Contains k q.p q.order)
      (Multiple (functions k q.p).ops u (Contains k q.p q.order))
  𝓤 = multiples_ideal F O 𝓞.ring u u_in u u_in

  sums : IsModule (functions k q.p).ops (Contains k q.p q.order) (IsInComponent k q l e)
  sums = record {
    zero_in = record {
      left = F.𝟘;
      left_in = 𝓘.zero_in;
      right = F.𝟘;
      right_in = 𝓤.zero_in;
      is = sym (F.add_zero F.𝟘);
    };
    sum_in = λ a b x y. record {
      left = F.◌⊕◌ x.left y.left;
      left_in = 𝓘.sum_in x.left y.left x.left_in y.left_in;
      right = F.◌⊕◌ x.right y.right;
      right_in = 𝓤.sum_in x.right y.right x.right_in y.right_in;
      is = ap₂ F.◌⊕◌ x.is y.is ∙ add_add F x.left x.right y.left y.right;
    };
    scale_in = λ s a s_in x. record {
      left = F.◌⊗◌ s x.left;
      left_in = 𝓘.scale_in s x.left s_in x.left_in;
      right = F.◌⊗◌ s x.right;
      right_in = 𝓤.scale_in s x.right s_in x.right_in;
      is = ap (F.◌⊗◌ s) x.is ∙ F.mul_add s x.left x.right;
    };
  }

  over_polynomials : IsModule (functions k q.p).ops (IsPolynomial (equation_of k q.p)) (IsInComponent k q l e)
  over_polynomials = record {
    zero_in = sums.zero_in;
    sum_in = sums.sum_in;
    scale_in = λ s a s_in a_in. sums.scale_in s a (order_polynomials (equation_of k q.p) O 𝓞 s s_in) a_in;
  }

  ideal_in : (a : Functions k q.p) → I a → C a
  ideal_in a a_in =
      record { left = a; left_in = a_in; right = F.𝟘; right_in = 𝓤.zero_in; is = sym (F.add_zero a) }

  rest_in : C r
  rest_in = record {
    left = F.◌⊕◌ r (F.⊖◌ u);
    left_in = near;
    right = u;
    right_in = record { quotient = F.𝟙; quotient_in = 𝓞.ring.one_in; is = sym (F.mul_one u) };
    is = sym (F.add_comm (F.◌⊕◌ r (F.⊖◌ u)) u ∙ add_sub F r u);
  }

  -- ---- the product with the order

  -- what the ideal spans with the lift
  abbrev WithRest : Functions k q.p → Type 0
  WithRest = IsSumOfMembers k q.p I (InSpanOf k q.p (lifted k.ops q (rest_of k.ops (class_algebra q) e) ∷ []))

  with_rest_in : (a : Functions k q.p) → WithRest a → C a
  with_rest_in a x =
      subst C (sym x.is)
      (sums.sum_in x.left x.right (ideal_in x.left x.left_in)
      (subst C
      (sym (x.right_in.is ∙ ap (F.◌⊕◌ (F.◌⊗◌ x.right_in.scalar r)) x.right_in.rest_in
      ∙ F.add_zero (F.◌⊗◌ x.right_in.scalar r)))
      (over_polynomials.scale_in x.right_in.scalar r x.right_in.scalar_in rest_in)))

  pub component_members : (m : LatticeValue) → ((z : Functions k q.p) → Contains k q.p m z ↔ WithRest z)
      → (z : Functions k q.p)
      → Product (functions k q.p).ops (Contains k q.p m) (Contains k q.p q.order) z ↔ IsInComponent k q l e z
  component_members m members z = (
    product_least F T 𝓢 M O C over_polynomials
        (λ a w a_in w_in. subst C (F.mul_comm w a) (sums.scale_in w a w_in (with_rest_in a ((members a).0 a_in)))) z,
    λ x.
        subst (Product F.ops M O) (sym x.is)
        (𝓟.sum_in x.left x.right
        (subst (Product F.ops M O) (F.mul_one x.left)
        (product_member F T 𝓢 M O x.left F.𝟙 (ideal_inside x.left x.left_in) 𝓞.ring.one_in))
        (subst (Product F.ops M O) (sym x.right_in.is)
        (product_member F T 𝓢 M O u x.right_in.quotient u_inside x.right_in.quotient_in))),
  )
    where
      M : Functions k q.p → Type 0
      M = Contains k q.p m

      𝓟 : IsModule (functions k q.p).ops (IsPolynomial (equation_of k q.p)) (Product (functions k q.p).ops M O)
      𝓟 = product_module F T 𝓢 M O (members_module k q.p m)

      ideal_inside : (a : Functions k q.p) → I a → M a
      ideal_inside a a_in =
          (members a).1
          (record {
            left = a;
            left_in = a_in;
            right = F.𝟘;
            right_in = span_zero F T 𝓢 (r ∷ []);
            is = sym (F.add_zero a);
          })

      back : (a b : Functions k q.p) → a ≡ F.◌⊕◌ (F.⊖◌ (F.◌⊕◌ b (F.⊖◌ a))) b
      back a b = ring F (a ∷ b ∷ []) λ q h. simp (reads, q, h 0, h 1) (q.equal _ _ refl)

      -- it is the lift less their difference
      u_inside : M u
      u_inside =
          (members u).1
          (record {
            left = F.⊖◌ (F.◌⊕◌ r (F.⊖◌ u));
            left_in = neg_in_ideal (F.◌⊕◌ r (F.⊖◌ u)) near;
            right = r;
            right_in = span_head F T 𝓢 r [];
            is = back u r;
          })

-- a lattice that elements span: the rows of another, and one that stands for a function
module _ (k : CodeField) (q : QuotientValue) where
  pub with_one_more : (l : LatticeValue) (gens : List ElemValue) (w v : ElemValue) → gens ≡ row_elems l ++ w ∷ []
      → function_of k q.p w ≡ function_of k q.p v → (z : Functions k q.p)
      → InSpanOf k q.p gens z ↔ IsSumOfMembers k q.p (Contains k q.p l) (InSpanOf k q.p (v ∷ [])) z
  with_one_more l gens w v gens_are same z =
      subst (λ gs. InSpanOf k q.p gs z ↔ IsSumOfMembers k q.p (Contains k q.p l) (InSpanOf k q.p (v ∷ [])) z)
      (sym gens_are)
      (subst
      (λ f. InSpanOf k q.p (row_elems l ++ w ∷ []) z
      ↔ IsSumOfMembers k q.p (Contains k q.p l)
      (Span (functions k q.p).ops (IsPolynomial (equation_of k q.p)) (f ∷ [])) z)
      same (sum_iff k q.p (row_elems l) (w ∷ []) z))
