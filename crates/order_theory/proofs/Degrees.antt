-- The degree of a finite place is its index in the integral functions.
use Rattle.std.proofs.Common.{◌≡◌, All, ℕ, zero, suc, ◌<◌, ◌≤◌, List, [], ◌∷◌, length, refl, sym, ◌∙◌, ap, ap₂, subst, arith}
use Rattle.std.proofs.lemmas.List.Elements.{All-nil, All-cons, All-head, All-tail}
use Rattle.ring_lemmas.specs.Lists.{coeff_of}
use Rattle.ring_theory.specs.Subsets.{Span}
use Rattle.ring_lemmas.proofs.Solver.{ring, reads, from_one}
use Rattle.ring_lemmas.specs.Polynomials.{constant}
use Rattle.ring_theory.proofs.Evaluate.{length_trim}
use Rattle.ring_lemmas.proofs.Lists.{coeff_trim}
use Rattle.ring_lemmas.proofs.Polynomials.{same_pol, coeff_past}
use Rattle.linear_theory.specs.Module.{combine}
use Rattle.ff_fields.specs.Field.{CodeField}
use Rattle.ff_fields.specs.Code.{Code, code_ring}
use Rattle.ff_poly.specs.Polynomials.{Polynomial}
use Rattle.function_field.specs.Spans.{combination}
use Rattle.function_field.specs.Places.{IsIn}
use Rattle.function_field.specs.Divisors.{HasDegree}
use Rattle.function_field.specs.Functions.{Equation, FunctionOf, ring_of, of_poly, IsCode, setting_of}
use Rattle.function_field.specs.Indices.{HasIndex, space_ops}
use Rattle.lattice_theory.proofs.Indices.{code_of, code_hom}
use Rattle.order_theory.proofs.FinitePlaces.{Int, finite}

module _ {k : CodeField} (c : Equation k) where
  infixl 65 ◌⊕◌
  infixl 70 ◌⊗◌
  infixr 80 ⊖◌
  open ring_of c use {𝟘, 𝟙, ◌⊕◌, ◌⊗◌, ⊖◌}

  pub code_is : (a : Code k) → IsCode c (code_of c a)
  code_is a =
      record { code = constant (code_ring k) a; no_degree = length_trim (code_ring k).is_zero (a ∷ []); value = refl }

  -- a polynomial with one coefficient is a constant
  pub constant_of : (q : Polynomial k) → length q.0 ≤ 1 → q ≡ constant (code_ring k) (coeff_of (code_ring k).ops q.0 0)
  constant_of q short = same_pol (code_ring k) q _ at
    where
      at : (n : ℕ) → coeff_of (code_ring k).ops q.0 n
          ≡ coeff_of (code_ring k).ops (constant (code_ring k) (coeff_of (code_ring k).ops q.0 0)).0 n
      at zero = sym (coeff_trim (code_ring k) (coeff_of (code_ring k).ops q.0 0 ∷ []) 0)
      at (suc n) =
          coeff_past (code_ring k) q.0 (suc n) (omega arith)
          ∙ sym (coeff_trim (code_ring k) (coeff_of (code_ring k).ops q.0 0 ∷ []) (suc n))

  pub code_at : (z : FunctionOf c) → IsCode c z → (a : Code k) × (z ≡ code_of c a)
  code_at z h = (coeff_of (code_ring k).ops h.code.0 0, h.value ∙ ap (of_poly c) (constant_of h.code h.no_degree))

  span_codes : (e : ℕ → Code k) (ws : List (FunctionOf c))
      → Span (ring_of c).ops (IsCode c) ws (combine (space_ops c) e ws)
  span_codes e [] = refl
  span_codes e (w ∷ ws) = record {
    scalar = code_of c (e 0);
    scalar_in = code_is (e 0);
    rest = combine (space_ops c) (λ i. e (suc i)) ws;
    rest_in = span_codes (λ i. e (suc i)) ws;
    is = refl;
  }

  -- listed codes as a sequence
  sequence : (cs : List (FunctionOf c)) → All (IsCode c) cs → ℕ → Code k
  sequence [] h i = (code_ring k).𝟘
  sequence (z ∷ cs) h zero = (code_at z (All-head (IsCode c) z cs h)).0
  sequence (z ∷ cs) h (suc i) = sequence cs (All-tail (IsCode c) z cs h) i

  sequence_is : (cs ws : List (FunctionOf c)) (h : All (IsCode c) cs) → length cs ≡ length ws
      → combination (ring_of c).ops cs ws ≡ combine (space_ops c) (sequence cs h) ws
  unfolding sequence
  sequence_is [] [] h e = refl
  sequence_is [] (w ∷ ws) h e = absurd (omega arith)
  sequence_is (z ∷ cs) [] h e = absurd (omega arith)
  sequence_is (z ∷ cs) (w ∷ ws) h e =
      ap₂ ◌⊕◌ (ap (λ x. x ⊗ w) (code_at z (All-head (IsCode c) z cs h)).1)
      (sequence_is cs ws (All-tail (IsCode c) z cs h) (omega arith))

  sequence_zero : (cs : List (FunctionOf c)) (h : All (IsCode c) cs)
      → ((i : ℕ) → i < length cs → sequence cs h i ≡ (code_ring k).𝟘) → All (λ z. z ≡ 𝟘) cs
  unfolding sequence
  sequence_zero [] h f = All-nil (λ z. z ≡ 𝟘)
  sequence_zero (z ∷ cs) h f =
      All-cons (λ z. z ≡ 𝟘) z cs
      ((code_at z (All-head (IsCode c) z cs h)).1 ∙ ap (code_of c) (f 0 (omega arith)) ∙ (code_hom c).zero_is)
      (sequence_zero cs (All-tail (IsCode c) z cs h) (λ i l. f (suc i) (omega (arith, l))))

  -- a list of g members of O that spans O over P by codes, in one way only
  pub record HasClasses (O P : FunctionOf c → Type 0) (g : ℕ) : Type 0 where
    pub classes : List (FunctionOf c)
    pub count : length classes ≡ g
    pub members : All O classes
    pub spanning : (z : FunctionOf c) → O z → (v : FunctionOf c) × Span (ring_of c).ops (IsCode c) classes v
        × P (z ⊕ ⊖ v)
    pub independent : (cs : List (FunctionOf c)) → length cs ≡ g → All (IsCode c) cs
        → P (combination (ring_of c).ops cs classes) → All (λ z. z ≡ 𝟘) cs

  pub classes_of_index : (O P : FunctionOf c → Type 0) (g : ℕ) → HasIndex c P O g → HasClasses O P g
  classes_of_index O P g i = record {
    classes = i.basis;
    count = i.count;
    members = i.is.members_in;
    spanning = λ z z_in.
        let t = i.is.spanning z z_in in (
          combine (space_ops c) t.coefficient i.basis,
          span_codes t.coefficient i.basis,
          subst P (sym (less z t.rest _ t.is)) t.rest_in,
        );
    independent = λ cs size all m.
        sequence_zero cs all (λ j l.
        i.is.independent (sequence cs all) (subst P (sequence_is cs i.basis all (size ∙ sym i.count)) m) j
        (let e = i.count in omega (arith, e, l, size)));
  }
    where
      less : (z r v : FunctionOf c) → z ≡ v ⊕ r → z ⊕ ⊖ v ≡ r
      less z r v e =
          from_one (ring_of c) 𝟙 e (ring (ring_of c) (z ∷ r ∷ v ∷ []) λ q h. simp (reads, q, h 0, h 1, h 2)
          (q.equal _ _ refl))

  pub degree_of_index : (gs : List (FunctionOf c)) (g : ℕ) → HasIndex c (IsIn (setting_of c) (finite c gs)) (Int c) g
      → HasDegree (setting_of c) (finite c gs) g
  degree_of_index gs g i =
      let h = classes_of_index (Int c) (IsIn (setting_of c) (finite c gs)) g i in
      record {
        classes = h.classes;
        count = h.count;
        members = h.members;
        spanning = h.spanning;
        independent = h.independent;
      }
