-- Combinations, with constants, of the elements x^j·b_i are the combinations of the b_i with polynomials of bounded
-- degree.
use Rattle.std.proofs.Common.{◌≡◌, ℕ, zero, suc, ◌+◌, ◌<◌, ◌≤◌, ◌-◌, ◌⊎◌, inl, inr, List, [], ◌∷◌, length, All, refl, sym, ◌∙◌, ap, ap₂, subst, arith}
use Rattle.std.proofs.lemmas.List.{length-append}
use Rattle.std.proofs.lemmas.List.Elements.{All-nil, All-cons}
use Rattle.ring_lemmas.specs.Ring.{TestedRing, CommRing}
use Rattle.ring_lemmas.specs.Polynomials.{Pol}
use Rattle.ring_theory.specs.PolynomialRing.{pol_ring}
use Rattle.linear_theory.specs.Module.{Module, combine}
use Rattle.linear_theory.specs.Lists.{insert, join}
use Rattle.linear_theory.proofs.Module.{zero_plus}
use Rattle.linear_theory.proofs.Combination.{combine_append, combine_join, combine_cong, combine_zero}
use Rattle.reduced_basis_theory.specs.Degree.{total}
use Rattle.reduced_basis_theory.specs.Reduced.{variable, constant, constants_ops, multiples, layers}
use Rattle.reduced_basis_theory.proofs.Constants.{series, constant_one, constant_zero, constant_sum, constant_product, polynomial, polynomial_series}
use Rattle.std.proofs.lemmas.Bool.{cases_lt}

-- the part of a sequence that belongs to the i-th of the blocks with the lengths l
abbrev pub block : {C : Type 0} → (ℕ → ℕ) → (ℕ → C) → ℕ → ℕ → C
block l c zero = c
block l c (suc i) = block (λ i. l (suc i)) (λ j. c (l 0 + j)) i

-- a member of a list whose combinations are all in W is in W
pub All_of_combine : {A V : Type 0} {R : CommRing A} (M : Module R V) (W : V → Type 0) (vs : List V)
    → ((c : ℕ → A) → W (combine M.ops c vs)) → All W vs
All_of_combine M W [] h = All-nil W
All_of_combine {R = R} M W (v ∷ vs) h =
    All-cons W v vs
    (subst W (ap₂ M.◌⊞◌ (M.one_scale v) (combine_zero M vs) ∙ M.add_zero v) (h (insert 0 R.𝟙 (λ i. R.𝟘))))
    (All_of_combine M W vs (λ c. subst W (ap (λ x. M.◌⊞◌ x (combine M.ops c vs)) (M.zero_scale v) ∙ zero_plus M _)
    (h (insert 0 R.𝟘 c))))

module _ {C V : Type 0} (k : TestedRing C) (M : Module (pol_ring k).ring V) where
  infixl 65 ◌⊞◌
  infixr 75 ◌•◌
  open M use {𝟬, ◌⊞◌, ◌•◌}

  abbrev s : TestedRing (Pol k)
  s = pol_ring k

  -- V as a module over the constants
  abbrev pub over_constants : Module k.ring V
  over_constants = record {
    ops = constants_ops k M.ops;
    is_set = M.is_set;
    add_assoc = M.add_assoc;
    add_comm = M.add_comm;
    add_zero = M.add_zero;
    zero_scale = λ u. ap (λ a. a • u) (constant_zero k) ∙ M.zero_scale u;
    one_scale = λ u. ap (λ a. a • u) (constant_one k) ∙ M.one_scale u;
    scale_add = λ a u v. M.scale_add (constant k a) u v;
    add_scale = λ a b u. ap (λ c. c • u) (constant_sum k a b) ∙ M.add_scale _ _ u;
    mul_scale = λ a b u. ap (λ c. c • u) (constant_product k a b) ∙ M.mul_scale _ _ u;
  }

  pub length_multiples : (l : ℕ) (v : V) → length (multiples k M.ops l v) ≡ l
  length_multiples zero v = refl
  length_multiples (suc l) v = ap suc (length_multiples l (variable k • v))

  pub length_layers : (bs : List V) (l : ℕ → ℕ) → length (layers k M.ops bs l) ≡ total (length bs) l
  length_layers [] l = refl
  length_layers (b ∷ bs) l =
      length-append (multiples k M.ops (l 0) b) _
      ∙ ap₂ ◌+◌ (length_multiples (l 0) b) (length_layers bs (λ i. l (suc i)))

  pub combine_multiples : (l : ℕ) (c : ℕ → C) (v : V)
      → combine (constants_ops k M.ops) c (multiples k M.ops l v) ≡ polynomial k l c • v
  unfolding polynomial
  combine_multiples zero c v = sym (M.zero_scale v)
  combine_multiples (suc l) c v =
      ap (λ x. constant k (c 0) • v ⊞ x)
      (combine_multiples l (λ i. c (suc i)) (variable k • v) ∙ sym (M.mul_scale _ _ v)
      ∙ ap (λ a. a • v) (s.mul_comm _ _))
      ∙ sym (M.add_scale _ _ v)

  -- a combination of the layers, by polynomials
  pub combine_layers : (bs : List V) (l : ℕ → ℕ) (c : ℕ → C)
      → combine (constants_ops k M.ops) c (layers k M.ops bs l)
      ≡ combine M.ops (λ i. polynomial k (l i) (block l c i)) bs
  combine_layers [] l c = refl
  combine_layers (b ∷ bs) l c =
      combine_append over_constants c (multiples k M.ops (l 0) b) _
      ∙ ap₂ ◌⊞◌ (combine_multiples (l 0) c b)
      (combine_cong over_constants (λ i. c (length (multiples k M.ops (l 0) b) + i)) (λ i. c (l 0 + i)) _
      (λ i h. ap (λ n. c (n + i)) (length_multiples (l 0) b))
      ∙ combine_layers bs (λ i. l (suc i)) (λ j. c (l 0 + j)))

  -- and each combination of the b_i with polynomials of at most l i coefficients is one of these
  pub gather : (bs : List V) (l : ℕ → ℕ) (p : ℕ → Pol k) → ((i : ℕ) → i < length bs → length (p i).0 ≤ l i)
      → (c : ℕ → C) × (combine (constants_ops k M.ops) c (layers k M.ops bs l) ≡ combine M.ops p bs)
  gather [] l p h = ((λ i. k.𝟘), refl)
  gather (b ∷ bs) l p h =
      let r = gather bs (λ i. l (suc i)) (λ i. p (suc i)) (λ i h'. h (suc i) (omega arith)) in (
        join (length (multiples k M.ops (l 0) b)) (series k (p 0)) r.0,
        combine_join over_constants (series k (p 0)) r.0 (multiples k M.ops (l 0) b) _
            ∙ ap₂ ◌⊞◌ (combine_multiples (l 0) (series k (p 0)) b
            ∙ ap (λ a. a • b) (polynomial_series k (l 0) (p 0) (h 0 (omega arith)))) r.1,
      )

-- a sequence whose blocks are zero is zero
pub blocks_zero : {C : Type 0} (P : C → Type 0) (n : ℕ) (l : ℕ → ℕ) (c : ℕ → C)
    → ((i : ℕ) → i < n → (j : ℕ) → j < l i → P (block l c i j)) → (j : ℕ) → j < total n l → P (c j)
blocks_zero P zero l c h j b = absurd (omega arith)
blocks_zero P (suc n) l c h j b =
    go (blocks_zero P n (λ i. l (suc i)) (λ j. c (l 0 + j)) (λ i b. h (suc i) (omega arith))) (cases_lt j (l 0))
  where
    go : ((i : ℕ) → i < total n (λ i. l (suc i)) → P (c (l 0 + i))) → (j < l 0) ⊎ (l 0 ≤ j) → P (c j)
    go later (inl b') = h 0 (omega arith) j b'
    go later (inr b') = let e : l 0 + (j - l 0) ≡ j = omega arith in
        subst (λ i. P (c i)) e (later (j - l 0) (omega arith))
