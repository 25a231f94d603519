-- A basis over a larger field, times a basis of that field over the smaller one, is a basis over the smaller one.
use Rattle.std.proofs.Common.{◌≡◌, ℕ, zero, suc, ◌+◌, ◌*◌, ◌<◌, List, [], ◌∷◌, ◌++◌, length, map, refl, sym, ◌∙◌, ap, ap₂, subst, suc-mul, zero-mul, arith}
use Rattle.std.proofs.lemmas.List.{length-append, length-map}
use Rattle.linear_theory.specs.Fields.{Field, domain_of}
use Rattle.linear_theory.specs.Module.{Module, combine, IsLinear}
use Rattle.linear_theory.specs.Basis.{IsBasis, IsNull, IsSubspace}
use Rattle.linear_theory.specs.Lists.{join}
use Rattle.linear_theory.proofs.Combination.{combine_append, combine_join, combine_cong, combine_map}
use Rattle.linear_theory.proofs.Bases.{combine_in}
use Rattle.linear_theory.proofs.Exchange.{bases_same_length}
use Rattle.reduced_basis_theory.specs.Degree.{total}
use Rattle.reduced_basis_theory.proofs.Layers.{block, blocks_zero, All_of_combine}

-- the multiples of each w by each member of θ
abbrev pub products : {B V : Type 0} → (B → V → V) → List B → List V → List V
products scale θ [] = []
products scale θ (w ∷ ws) = map (λ t. scale t w) θ ++ products scale θ ws

pub length_products : {B V : Type 0} (scale : B → V → V) (θ : List B) (ws : List V) → length (products scale θ ws)
    ≡ total (length ws) (λ i. length θ)
length_products scale θ [] = refl
length_products scale θ (w ∷ ws) =
    length-append (map (λ t. scale t w) θ) _ ∙ ap₂ ◌+◌ (length-map θ (λ t. scale t w)) (length_products scale θ ws)

pub total_constant : (n l : ℕ) → total n (λ i. l) ≡ n * l
total_constant zero l = sym (zero-mul l)
total_constant (suc n) l = ap (λ x. l + x) (total_constant n l) ∙ (let e = suc-mul n l in omega (arith, e))

-- K is a field, L a larger one and a space over K, and V a space over both
module _ {A B V : Type 0} (K : Field A) (L : Field B) (S : Module K.ring B) (M : Module K.ring V) (X : Module L.ring V)
    (sums : (u v : V) → M.◌⊞◌ u v ≡ X.◌⊞◌ u v) (zeros : M.𝟬 ≡ X.𝟬)
    (scale_linear : (w : V) → IsLinear S.ops M.ops (λ t. X.◌•◌ t w))
    (θ : List B) (θ_basis : IsBasis K.ring.ops S.ops (IsNull S.ops) (λ t. Unit {0}) θ) (null : S.𝟬 ≡ L.ring.𝟘) where
  pub combine_products : (ws : List V) (c : ℕ → A)
      → combine M.ops c (products X.◌•◌ θ ws) ≡ combine X.ops (λ i. combine S.ops (block (λ i. length θ) c i) θ) ws
  combine_products [] c = zeros
  combine_products (w ∷ ws) c =
      combine_append M c (map (λ t. X.◌•◌ t w) θ) _ ∙ sums _ _
      ∙ ap₂ X.◌⊞◌ (sym (combine_map S M (λ t. X.◌•◌ t w) (scale_linear w) c θ))
      (combine_cong M (λ i. c (length (map (λ t. X.◌•◌ t w) θ) + i)) (λ i. c (length θ + i)) _
      (λ i h. ap (λ n. c (n + i)) (length-map θ (λ t. X.◌•◌ t w)))
      ∙ combine_products ws (λ j. c (length θ + j)))

  pub gather_products : (ws : List V) (p : ℕ → B) → (c : ℕ → A)
      × (combine M.ops c (products X.◌•◌ θ ws) ≡ combine X.ops p ws)
  gather_products [] p = ((λ i. K.ring.𝟘), zeros)
  gather_products (w ∷ ws) p =
      let r = gather_products ws (λ i. p (suc i)) in
      let s = θ_basis.spanning (p 0) tt in
      let e : combine S.ops s.coefficient θ
      ≡ p 0 = sym (s.is ∙ ap (S.◌⊞◌ (combine S.ops s.coefficient θ)) s.rest_in ∙ S.add_zero _) in (
        join (length (map (λ t. X.◌•◌ t w) θ)) s.coefficient r.0,
        combine_join M s.coefficient r.0 (map (λ t. X.◌•◌ t w) θ) _ ∙ sums _ _
            ∙ ap₂ X.◌⊞◌ (sym (combine_map S M (λ t. X.◌•◌ t w) (scale_linear w) s.coefficient θ)
            ∙ ap (λ t. X.◌•◌ t w) e) r.1,
      )

  module _ (U W : V → Type 0) (𝓦 : IsSubspace X.ops W) (ws : List V) (basis : IsBasis L.ring.ops X.ops U W ws) where
    pub tower_basis : IsBasis K.ring.ops M.ops U W (products X.◌•◌ θ ws)
    tower_basis = record {
      members_in =
          All_of_combine M W _ (λ c. subst W (sym (combine_products ws c)) (combine_in L X W 𝓦 _ ws basis.members_in));
      spanning = λ v v_in.
          let s = basis.spanning v v_in in
          let g = gather_products ws s.coefficient in
          record {
            coefficient = g.0;
            rest = s.rest;
            rest_in = s.rest_in;
            is = s.is ∙ ap (λ x. X.◌⊞◌ x s.rest) (sym g.1) ∙ sym (sums _ _);
          };
      independent = λ c m i l.
          blocks_zero (λ a. a ≡ K.ring.𝟘) (length ws) (λ i. length θ) c
          (λ i i_below. θ_basis.independent (block (λ i. length θ) c i)
          (basis.independent (λ i. combine S.ops (block (λ i. length θ) c i) θ) (subst U (combine_products ws c) m) i
          i_below ∙ sym null))
          i (subst (λ n. i < n) (length_products X.◌•◌ θ ws) l);
    }

    -- the dimension over the smaller field is the product of the two
    pub tower_dimension : IsSubspace M.ops U → (vs : List V) → IsBasis K.ring.ops M.ops U W vs → length vs
        ≡ length ws * length θ
    tower_dimension 𝓤 vs vs_basis =
        bases_same_length (domain_of K) M U 𝓤 W vs (products X.◌•◌ θ ws) vs_basis tower_basis
        ∙ length_products X.◌•◌ θ ws ∙ total_constant (length ws) (length θ)
