-- Each degree of a finite place is its index in the integral functions.
use Rattle.std.proofs.Common.{◌≡◌, All, ℕ, zero, suc, ◌<◌, List, [], ◌∷◌, length, refl, sym, ◌∙◌, ap, ap₂, subst, arith}
use Rattle.std.proofs.lemmas.List.Elements.{All-nil, All-cons, All-head, All-tail}
use Rattle.ring_lemmas.specs.Lists.{coeff_of}
use Rattle.ring_theory.specs.Subsets.{Span}
use Rattle.ring_lemmas.proofs.Solver.{ring, reads}
use Rattle.ring_lemmas.specs.Polynomials.{constant, pol_ops}
use Rattle.ring_lemmas.proofs.Lists.{coeff_trim}
use Rattle.linear_theory.specs.Module.{combine}
use Rattle.ff_fields.specs.Field.{CodeField}
use Rattle.ff_fields.specs.Code.{Code, code_ring}
use Rattle.ff_poly.specs.Polynomials.{polynomials, polynomial_discrete}
use Rattle.function_field.specs.declared.side.Side.TheVariants.{Finite}
use Rattle.function_field.specs.Spans.{combination}
use Rattle.function_field.specs.Places.{Place, IsPlace, IsIn}
use Rattle.function_field.specs.Divisors.{HasDegree}
use Rattle.function_field.specs.Functions.{Equation, FunctionOf, ring_of, of_poly, IsCode, setting_of}
use Rattle.function_field.proofs.ScalarRings.{scalars_subring}
use Rattle.function_field.specs.Indices.{HasIndex, space_ops}
use Rattle.lattice_theory.proofs.Indices.{code_of}
use Rattle.lattice_theory.proofs.Operations.{inverse_of}
use Rattle.order_theory.proofs.Degrees.{constant_of, code_is}
use Rattle.order_theory.proofs.FinitePlaces.{Int, finite, place_prime}
use Rattle.ring_lemmas.proofs.Ring.{zero_mul}
use Rattle.ideal_theory.proofs.PowerValues.{on_side}
use Rattle.ring_lemmas.specs.Ring.{CommRing}

-- v is t and what is left
pub part_and_rest : {A : Type 0} (R : CommRing A) (v t : A) → v ≡ R.◌⊕◌ t (R.◌⊕◌ v (R.⊖◌ t))
part_and_rest R v t = ring R (v ∷ t ∷ []) λ r x. simp (reads, r, x 0, x 1) (r.equal _ _ refl)

module _ {k : CodeField} (c : Equation k) where
  infixl 65 ◌⊕◌
  infixl 70 ◌⊗◌
  infixr 80 ⊖◌
  open ring_of c use {𝟘, 𝟙, ◌⊕◌, ◌⊗◌, ⊖◌}

  abbrev prepended : Code k → (ℕ → Code k) → ℕ → Code k
  prepended a e zero = a
  prepended a e (suc i) = e i

  -- a combination with listed codes, as one with a sequence of codes
  of_span : (ws : List (FunctionOf c)) (z : FunctionOf c) → Span (ring_of c).ops (IsCode c) ws z → (e : ℕ → Code k)
      × (z ≡ combine (space_ops c) e ws)
  of_span [] z h = (λ i. (code_ring k).𝟘, h)
  of_span (w ∷ ws) z h =
      let r = of_span ws h.rest h.rest_in in
      let q = h.scalar_in.code in
      let a = coeff_of (code_ring k).ops q.0 0 in (
        prepended a r.0,
        h.is ∙ ap₂ (λ x y. x ⊗ w ⊕ y)
            (h.scalar_in.value ∙ ap (of_poly c) (constant_of c q h.scalar_in.no_degree)) r.1,
      )

  listed : (e : ℕ → Code k) → List (FunctionOf c) → List (FunctionOf c)
  listed e [] = []
  listed e (w ∷ ws) = code_of c (e 0) ∷ listed (λ i. e (suc i)) ws

  listed_length : (e : ℕ → Code k) (ws : List (FunctionOf c)) → length (listed e ws) ≡ length ws
  unfolding listed
  listed_length e [] = refl
  listed_length e (w ∷ ws) = ap suc (listed_length (λ i. e (suc i)) ws)

  listed_codes : (e : ℕ → Code k) (ws : List (FunctionOf c)) → All (IsCode c) (listed e ws)
  unfolding listed
  listed_codes e [] = All-nil (IsCode c)
  listed_codes e (w ∷ ws) =
      All-cons (IsCode c) (code_of c (e 0)) (listed (λ i. e (suc i)) ws) (code_is c (e 0))
      (listed_codes (λ i. e (suc i)) ws)

  listed_is : (e : ℕ → Code k) (ws : List (FunctionOf c)) → combination (ring_of c).ops (listed e ws) ws
      ≡ combine (space_ops c) e ws
  unfolding listed
  listed_is e [] = refl
  listed_is e (w ∷ ws) = ap (λ x. code_of c (e 0) ⊗ w ⊕ x) (listed_is (λ i. e (suc i)) ws)

  listed_zero : (e : ℕ → Code k) (ws : List (FunctionOf c)) → All (λ z. z ≡ 𝟘) (listed e ws) → (i : ℕ)
      → i < length ws → code_of c (e i) ≡ 𝟘
  unfolding listed
  listed_zero e [] h i l = absurd (omega arith)
  listed_zero e (w ∷ ws) h zero l = All-head (λ z. z ≡ 𝟘) (code_of c (e 0)) (listed (λ i. e (suc i)) ws) h
  listed_zero e (w ∷ ws) h (suc i) l =
      listed_zero (λ i. e (suc i)) ws (All-tail (λ z. z ≡ 𝟘) (code_of c (e 0)) (listed (λ i. e (suc i)) ws) h) i
      (omega arith)

  module _ (gs : List (FunctionOf c)) (place : IsPlace (setting_of c) (finite c gs)) where
    abbrev M : FunctionOf c → Type 0
    M = IsIn (setting_of c) (finite c gs)

    -- where F has a place, only the code 0 gives the function 0
    code_zero : (a : Code k) → code_of c a ≡ 𝟘 → a ≡ (code_ring k).𝟘
    unfolding pol_ops
    code_zero a e = go (polynomial_discrete k (constant (code_ring k) a) (polynomials k).𝟘)
      where
        go : Dec (constant (code_ring k) a ≡ (polynomials k).𝟘) → a ≡ (code_ring k).𝟘
        go (yes z) =
            sym (coeff_trim (code_ring k) (a ∷ []) 0) ∙ ap (λ q. coeff_of (code_ring k).ops q.0 0) z
            ∙ coeff_trim (code_ring k) [] 0
        go (no n) =
            let u = inverse_of c (constant (code_ring k) a) n in
            absurd (place.proper (subst M (sym (zero_mul (ring_of c) u.0) ∙ ap (λ x. x ⊗ u.0) (sym e) ∙ u.1)
            (place_prime c gs place).ideal.zero_in))

    index_at : (g : ℕ) → HasDegree (setting_of c) (finite c gs) g
        → HasIndex c (IsIn (setting_of c) (finite c gs)) (Int c) g
    index_at g d = record {
      basis = d.classes;
      is = record {
        members_in = d.members;
        spanning = λ v v_in.
            let t = d.spanning v v_in in
            let s = of_span d.classes t.0 t.1 in
            record {
              coefficient = s.0;
              rest = v ⊕ ⊖ t.0;
              rest_in = t.2;
              is = part_and_rest (ring_of c) v t.0 ∙ ap (λ x. x ⊕ (v ⊕ ⊖ t.0)) s.1;
            };
        independent = λ e m i l.
            code_zero (e i)
            (listed_zero e d.classes
            (d.independent (listed e d.classes) (listed_length e d.classes ∙ d.count) (listed_codes e d.classes)
            (subst M (sym (listed_is e d.classes)) m)) i l);
      };
      count = d.count;
    }

  pub index_of_degree : (P : Place (FunctionOf c)) → IsPlace (setting_of c) P → P.side ≡ Finite → (g : ℕ)
      → HasDegree (setting_of c) P g
      → HasIndex c (IsIn (setting_of c) P) (Int c) g
  index_of_degree P place e =
      on_side (setting_of c) (scalars_subring c) Finite
      (λ P. IsPlace (setting_of c) P → (g : ℕ) → HasDegree (setting_of c) P g
      → HasIndex c (IsIn (setting_of c) P) (Int c) g)
      (λ gs place. index_at gs place) P e place
