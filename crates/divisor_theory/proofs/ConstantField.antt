-- Where F is a field, the constants as a field of their own, a space over k, and F as a space over them.
use Rattle.std.proofs.Common.{◌≡◌, ℕ, suc, ◌<◌, Bool, true, false, List, [], ◌∷◌, length, All, refl, sym, ◌∙◌, ap, ap₂, subst}
use Rattle.std.proofs.Math.Bool.{Bool-set}
use Rattle.std.proofs.lemmas.List.Elements.{All-head, All-tail}
use Rattle.ring_lemmas.specs.Ring.{CommRing, IsField}
use Rattle.ring_theory.specs.Subsets.{IsSubring}
use Rattle.ring_lemmas.proofs.Solver.{ring, reads}
use Rattle.prime_theory.proofs.Lists.{everywhere}
use Rattle.linear_theory.specs.Fields.{Field}
use Rattle.linear_theory.specs.Module.{Module, IsHomomorphism, combine}
use Rattle.linear_theory.specs.Basis.{IsBasis, IsNull}
use Rattle.linear_theory.proofs.Coefficients.{restricted}
use Rattle.ff_fields.specs.Field.{CodeField}
use Rattle.ff_fields.specs.Code.{Code, code_ring}
use Rattle.ff_poly.specs.Polynomials.{polynomials}
use Rattle.function_field.specs.Discriminant.{discriminant}
use Rattle.function_field.specs.Divisors.{IsConstant}
use Rattle.function_field.specs.Functions.{Equation, FunctionOf, ring_of, setting_of, functions_discrete}
use Rattle.function_field.specs.Indices.{HasIndex, space_ops}
use Rattle.lattice_theory.specs.Lattices.{polynomial_ops}
use Rattle.lattice_theory.proofs.Indices.{code_of, code_hom}
use Rattle.order_theory.proofs.IntegralLattice.{integral_lattice}
use Rattle.lattice_theory.proofs.Lattices.{lattice_decided}
use Rattle.infinite_theory.proofs.InfiniteLaws.{integral_decided}
use Rattle.reduced_basis_theory.specs.Reduced.{IsExtension}
use Rattle.space_theory.proofs.PartRing.{part_ring, same_part}
use Rattle.divisor_theory.proofs.Constants.{OnBothSides, both_subring, code_on_both, constants_are, constant_inverse}
use Rattle.order_theory.proofs.Degrees.{code_is}

pub decided : {X : Type 0} → Dec X → Bool
decided (yes x) = true
decided (no n) = false

pub of_true : {X : Type 0} (d : Dec X) → decided d ≡ true → X
unfolding decided
of_true (yes x) e = x
of_true (no n) e = absurd (let z : false ≡ true = e in cc)

pub to_true : {X : Type 0} (d : Dec X) → X → decided d ≡ true
unfolding decided
to_true (yes x) h = refl
to_true (no n) h = absurd (n h)

module _ {k : CodeField} (c : Equation k) (some : ¬ (discriminant c ≡ (polynomials k).𝟘)) where
  infixl 65 ◌⊕◌
  infixl 70 ◌⊗◌
  open ring_of c use {𝟘, 𝟙, ◌⊕◌, ◌⊗◌}

  decide : (z : FunctionOf c) → Dec (OnBothSides c z)
  decide z = go (lattice_decided c _ (integral_lattice c some) z) (integral_decided k c some z)
    where
      go : {X Y : Type 0} → Dec X → Dec Y → Dec (X × Y)
      go (yes x) (yes y) = yes (x, y)
      go (yes x) (no n) = no (λ p. n p.1)
      go (no n) d = no (λ p. n p.0)

  pub test : FunctionOf c → Bool
  test z = decided (decide z)

  -- a constant, as a proposition
  abbrev pub IsTested : FunctionOf c → Type 0
  IsTested z = test z ≡ true

  pub tested : (z : FunctionOf c) → IsConstant (setting_of c) z → IsTested z
  unfolding test
  tested z h = to_true (decide z) ((constants_are c some z).0 h)

  pub constant_of : (z : FunctionOf c) → IsTested z → IsConstant (setting_of c) z
  unfolding test
  constant_of z h = (constants_are c some z).1 (of_true (decide z) h)

  pub tested_prop : (z : FunctionOf c) → IsProp (IsTested z)
  tested_prop z = λ p q. Bool-set _ _ p q

  pub tested_subring : IsSubring (ring_of c).ops IsTested
  unfolding test
  tested_subring =
      let 𝓑 = both_subring c in
      record {
        zero_in = to_true (decide 𝟘) 𝓑.zero_in;
        one_in = to_true (decide 𝟙) 𝓑.one_in;
        sum_in = λ a b h i. to_true (decide (a ⊕ b)) (𝓑.sum_in a b (of_true (decide a) h) (of_true (decide b) i));
        neg_in = λ a h. to_true (decide ((ring_of c).⊖◌ a)) (𝓑.neg_in a (of_true (decide a) h));
        product_in =
            λ a b h i. to_true (decide (a ⊗ b)) (𝓑.product_in a b (of_true (decide a) h) (of_true (decide b) i));
      }

  -- the ring of constants
  abbrev pub Constant : Type 0
  Constant = (z : FunctionOf c) × IsTested z

  abbrev pub constant_ring : CommRing Constant
  constant_ring = part_ring (ring_of c) IsTested tested_subring tested_prop

  pub same_constant : (a b : Constant) → a.0 ≡ b.0 → a ≡ b
  same_constant = same_part (ring_of c) IsTested tested_subring tested_prop

  module _ (field : IsField (ring_of c).ops) where
    abbrev pub constant_field : Field Constant
    constant_field = record {
      tested = record {
        ring = constant_ring;
        is_zero = λ a. decided (functions_discrete c a.0 𝟘);
        zero_is_zero = to_true (functions_discrete c 𝟘 𝟘) refl;
        zero_from = λ a e. same_constant a constant_ring.𝟘 (of_true (functions_discrete c a.0 𝟘) e);
      };
      is_field = record {
        one_not_zero = λ e. field.one_not_zero (ap (λ a. a.0) e);
        inverse = λ a n.
            let y = field.inverse a.0 (λ e. n (same_constant a constant_ring.𝟘 e)) in
            ((y.0, tested y.0 (constant_inverse c some a.0 y.0 (constant_of a.0 a.1) y.1)), same_constant _ _ y.1);
      };
    }

  -- a code as a constant
  abbrev pub code_constant : Code k → Constant
  code_constant a = (
    code_of c a,
    tested (code_of c a)
        ((constants_are c some (code_of c a)).1 (code_on_both c (code_of c a) (code_is c a))),
  )

  pub code_constant_hom : IsHomomorphism (code_ring k).ops constant_ring.ops code_constant
  code_constant_hom = record {
    zero_is = same_constant _ _ (code_hom c).zero_is;
    one_is = same_constant _ _ (code_hom c).one_is;
    sum_is = λ a b. same_constant _ _ ((code_hom c).sum_is a b);
    product_is = λ a b. same_constant _ _ ((code_hom c).product_is a b);
  }

  -- the constants as a space over k
  abbrev pub constant_space : Module (code_ring k).ring Constant
  constant_space = restricted (code_ring k).ring constant_ring code_constant code_constant_hom

  pub function_hom : IsHomomorphism constant_ring.ops (ring_of c).ops (λ a. a.0)
  function_hom = record { zero_is = refl; one_is = refl; sum_is = λ a b. refl; product_is = λ a b. refl }

  -- F as a space over the constants
  abbrev pub over_constants : Module constant_ring (FunctionOf c)
  over_constants = restricted constant_ring (ring_of c) (λ a. a.0) function_hom

  pub constants_extension : IsExtension (code_ring k) (polynomial_ops c) constant_ring.ops constant_space.ops
      over_constants.ops
  constants_extension =
      record { null = refl; zero = refl; sum = λ u v. refl; scale = λ w a u v. spread (code_of c a) u.0 v.0 w }
    where
      spread : (a u v w : FunctionOf c) → (a ⊗ u ⊕ v) ⊗ w ≡ a ⊗ (u ⊗ w) ⊕ v ⊗ w
      spread a u v w =
          ring (ring_of c) (a ∷ u ∷ v ∷ w ∷ []) λ q i. simp (reads, q, i 0, i 1, i 2, i 3) (q.equal _ _ refl)

  -- a basis of the constants over k, among the constants
  listed : (ws : List (FunctionOf c)) → All (IsConstant (setting_of c)) ws → List Constant
  listed [] h = []
  listed (w ∷ ws) h =
      (w, tested w (All-head (IsConstant (setting_of c)) w ws h)) ∷ listed ws
      (All-tail (IsConstant (setting_of c)) w ws h)

  listed_length : (ws : List (FunctionOf c)) (h : All (IsConstant (setting_of c)) ws) → length (listed ws h) ≡ length ws
  unfolding listed
  listed_length [] h = refl
  listed_length (w ∷ ws) h = ap suc (listed_length ws (All-tail (IsConstant (setting_of c)) w ws h))

  listed_combine : (e : ℕ → Code k) (ws : List (FunctionOf c)) (h : All (IsConstant (setting_of c)) ws)
      → (combine constant_space.ops e (listed ws h)).0 ≡ combine (space_ops c) e ws
  unfolding listed
  listed_combine e [] h = refl
  listed_combine e (w ∷ ws) h =
      ap (λ x. code_of c (e 0) ⊗ w ⊕ x)
      (listed_combine (λ i. e (suc i)) ws (All-tail (IsConstant (setting_of c)) w ws h))

  pub constants_basis : (g : ℕ) → HasIndex c (IsNull (space_ops c)) (IsConstant (setting_of c)) g
      → (θ : List Constant) × IsBasis (code_ring k).ops constant_space.ops (IsNull constant_space.ops)
      (λ t. Unit {0}) θ × (length θ ≡ g)
  constants_basis g index = (
    θ,
    record {
      members_in = everywhere (λ t. Unit {0}) (λ t. tt) θ;
      spanning = λ t h.
          let s = index.is.spanning t.0 (constant_of t.0 t.1) in
          record {
            coefficient = s.coefficient;
            rest = constant_ring.𝟘;
            rest_in = refl;
            is = same_constant _ _ (s.is
                ∙ ap₂ ◌⊕◌ (sym (listed_combine s.coefficient index.basis index.is.members_in)) s.rest_in);
          };
      independent = λ e m i l.
          index.is.independent e (sym (listed_combine e index.basis index.is.members_in) ∙ ap (λ a. a.0) m) i
          (subst (λ n. i < n) (listed_length index.basis index.is.members_in) l);
    },
    listed_length index.basis index.is.members_in ∙ index.count,
  )
    where
      θ : List Constant
      θ = listed index.basis index.is.members_in
