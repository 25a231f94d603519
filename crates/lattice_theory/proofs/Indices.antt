-- The index of a lattice in another: it exists, is one number, adds along chains, and is 0 only for equal lattices.
use Rattle.std.proofs.Common.{◌≡◌, ℕ, zero, suc, ◌+◌, ◌<◌, List, [], ◌∷◌, ◌++◌, length, map, refl, sym, ◌∙◌, ap, ap₂, subst, arith}
use Rattle.std.proofs.lemmas.List.{length-append, length-map}
use Rattle.std.proofs.lemmas.List.Elements.{All-map, All-from_get_or, All-nil}
use Rattle.ring_lemmas.specs.Lists.{tail_of}
use Rattle.ring_theory.specs.Subsets.{IsModule}
use Rattle.ring_lemmas.proofs.Ring.{neg_unique, add_sub, zero_add}
use Rattle.ring_theory.proofs.RowMaps.{hom_zero}
use Rattle.ring_lemmas.specs.Polynomials.{constant}
use Rattle.ring_theory.proofs.Evaluate.{constant_hom}
use Rattle.popov_theory.specs.Span.{InSpan, IsWithin}
use Rattle.popov_theory.specs.Popov.{pivot_degree}
use Rattle.popov_theory.specs.Basis.{IsBasisModulo, scalar_combine}
use Rattle.popov_theory.specs.Laws.{Dimension}
use Rattle.popov_theory.proofs.Module.{v_add_neg}
use Rattle.popov_theory.proofs.Laws.{dimension_of}
use Rattle.linear_theory.specs.Fields.{Field, domain_of}
use Rattle.linear_theory.specs.Module.{Module, combine, IsHomomorphism}
use Rattle.linear_theory.specs.Basis.{IsSubspace, IsBasis}
use Rattle.linear_theory.proofs.Coefficients.{restricted}
use Rattle.linear_theory.proofs.Exchange.{bases_same_length}
use Rattle.linear_theory.proofs.Dimension.{basis_tower}
use Rattle.ff_fields.specs.Field.{CodeField}
use Rattle.ff_fields.specs.Code.{Code, code_ring, code_field}
use Rattle.ff_poly.specs.Polynomials.{Polynomial, polynomials}
use Rattle.function_field.specs.Functions.{Equation, FunctionOf, ring_of, of_poly, IsPolynomial}
use Rattle.function_field.proofs.OnSide.{of_poly_zero}
use Rattle.places_theory.proofs.YRoot.{poly_hom}
use Rattle.function_field.specs.Indices.{space_ops, HasIndex}
use Rattle.lattice_theory.specs.Lattices.{IsLattice}
use Rattle.lattice_theory.proofs.Parts.{Rows, module_of, part, part_add, part_scale, part_zero}
use Rattle.lattice_theory.proofs.Lattices.{AtDen, two_lattices, lattice_module}

module _ (k : CodeField) where
  abbrev pub codes : Field (Code k)
  codes = record { tested = code_ring k; is_field = code_field k }

module _ {k : CodeField} (c : Equation k) where
  infixl 65 ◌⊕◌
  infixl 70 ◌⊗◌
  infixr 80 ⊖◌
  open ring_of c use {𝟘, 𝟙, ◌⊕◌, ◌⊗◌, ⊖◌}

  -- the code a as a function
  abbrev pub code_of : Code k → FunctionOf c
  code_of a = of_poly c (constant (code_ring k) a)

  constant_null : constant (code_ring k) (code_ring k).𝟘 ≡ (polynomials k).𝟘
  constant_null = hom_zero (code_ring k).ring (polynomials k).ring (constant (code_ring k)) (constant_hom (code_ring k))

  pub code_hom : IsHomomorphism (code_ring k).ops (ring_of c).ops code_of
  code_hom = record {
    zero_is = ap (of_poly c) constant_null ∙ sym (of_poly_zero c);
    one_is = ap (of_poly c) (constant_hom (code_ring k)).𝟙 ∙ (poly_hom c).𝟙;
    sum_is = λ a b. ap (of_poly c) ((constant_hom (code_ring k)).add a b) ∙ (poly_hom c).add _ _;
    product_is = λ a b. ap (of_poly c) ((constant_hom (code_ring k)).mul a b) ∙ (poly_hom c).mul _ _;
  }

  -- F as a vector space over k
  abbrev pub space : Module (code_ring k).ring (FunctionOf c)
  space = restricted (code_ring k).ring (ring_of c) code_of code_hom

  pub module_subspace : (L : FunctionOf c → Type 0) → IsModule (ring_of c).ops (IsPolynomial c) L
      → IsSubspace (space_ops c) L
  module_subspace L 𝓛 = record {
    zero_in = 𝓛.zero_in;
    sum_in = 𝓛.sum_in;
    scale_in = λ a v h. 𝓛.scale_in (code_of a) v (record { polynomial = constant (code_ring k) a; value = refl }) h;
  }

  pub lattice_subspace : (L : FunctionOf c → Type 0) → IsLattice c L → IsSubspace (space_ops c) L
  lattice_subspace L 𝓛 = module_subspace L (lattice_module c L 𝓛)

  module _ (d : Polynomial k) (n : ¬ (d ≡ (polynomials k).𝟘)) where
    part_combine : (e : ℕ → Code k) (rs : List (Rows c)) → part c d n (scalar_combine (module_of c) e rs)
        ≡ combine (space_ops c) e (map (part c d n) rs)
    part_combine e [] = part_zero c d n
    part_combine e (r ∷ rs) = part_add c d n _ _
        ∙ ap₂ ◌⊕◌ (part_scale c d n (constant (code_ring k) (e 0)) r) (part_combine (tail_of e) rs)

    part_neg : (v : Rows c) → part c d n ((module_of c).⊟◌ v) ≡ ⊖ part c d n v
    part_neg v =
        neg_unique (ring_of c) _ _
        (sym (part_add c d n v _) ∙ ap (part c d n) (v_add_neg (module_of c) v) ∙ part_zero c d n)

  module _ (A B : FunctionOf c → Type 0) (d : Polynomial k) (n : ¬ (d ≡ (polynomials k).𝟘)) (a : AtDen c A d n)
      (b : AtDen c B d n) (within : (z : FunctionOf c) → A z → B z) where
    -- a basis of the rows is one of the functions
    row_basis : (g : List (Rows c))
        → IsBasisModulo (module_of c) (InSpan (module_of c) b.rows) (InSpan (module_of c) a.rows) g
        → IsBasis (code_ring k).ops (space_ops c) A B (map (part c d n) g)
    row_basis g h = record {
      members_in =
          All-map B (part c d n) g (All-from_get_or (λ v. B (part c d n v)) g (module_of c).𝟎
          (λ i l. b.from_rows _ (h.members i)));
      spanning = λ z z_in.
          let t = b.each z z_in in
          let v_in : InSpan (module_of c) b.rows t.0 = b.to_rows t.0 (subst B t.1 z_in) in
          let e = h.scalars t.0 v_in in
          record {
            coefficient = e;
            rest = z ⊕ ⊖ (combine (space_ops c) e (map (part c d n) g));
            rest_in =
                subst A (part_add c d n t.0 _ ∙ ap₂ ◌⊕◌ (sym t.1) (part_neg d n _ ∙ ap ⊖◌ (part_combine d n e g)))
                (a.from_rows _ (h.spans t.0 v_in));
            is = sym (add_sub (ring_of c) z _);
          };
      independent = λ e m i l.
          h.independent e (a.to_rows _ (subst A (sym (part_combine d n e g)) m)) i
          (subst (λ m. i < m) (length-map g (part c d n)) l);
    }

    rows_within : IsWithin (module_of c) a.rows b.rows
    rows_within = record { within = λ v h. b.to_rows v (within _ (a.from_rows v h)) }

    pub dimension : Dimension (module_of c) a.rows b.rows
    dimension = dimension_of (module_of c) (code_field k) a.rows b.rows a.popov b.popov rows_within

    pub index_at : HasIndex c A B (length dimension.basis)
    index_at =
        record {
          basis = map (part c d n) dimension.basis;
          is = row_basis dimension.basis dimension.is;
          count = length-map dimension.basis (part c d n);
        }

    pub index_size : length dimension.basis + pivot_degree (module_of c) b.rows ≡ pivot_degree (module_of c) a.rows
    index_size = dimension.size

  module _ (A B : FunctionOf c → Type 0) (𝓐 : IsLattice c A) where
    pub index_once : (g h : ℕ) → HasIndex c A B g → HasIndex c A B h → g ≡ h
    index_once g h i j = sym i.count
        ∙ bases_same_length (domain_of (codes k)) space A (lattice_subspace A 𝓐) B i.basis j.basis i.is j.is ∙ j.count

    -- where it is 0, the lattices are equal
    pub index_zero : HasIndex c A B 0 → (z : FunctionOf c) → B z → A z
    index_zero i z z_in = go i.basis i.is i.count
      where
        go : (ws : List (FunctionOf c)) → IsBasis (code_ring k).ops (space_ops c) A B ws → length ws ≡ 0 → A z
        go [] h e = let t = h.spanning z z_in in subst A (sym (t.is ∙ zero_add (ring_of c) t.rest)) t.rest_in
        go (w ∷ ws) h e = absurd (omega arith)

    pub index_none : ((z : FunctionOf c) → B z → A z) → HasIndex c A B 0
    index_none within = record {
      basis = [];
      is = record {
        members_in = All-nil B;
        spanning =
            λ v h. record {
              coefficient = λ i. (code_ring k).𝟘;
              rest = v;
              rest_in = within v h;
              is = sym (zero_add (ring_of c) v);
            };
        independent = λ e m i l. absurd (omega arith);
      };
      count = refl;
    }

    pub index_of : IsLattice c B → ((z : FunctionOf c) → A z → B z) → (g : ℕ) × HasIndex c A B g
    index_of 𝓑 within = let t = two_lattices c A B 𝓐 𝓑 in (
      length (dimension A B t.den t.not_zero t.left t.right within).basis,
      index_at A B t.den t.not_zero t.left t.right within,
    )

  -- indices add
  pub index_add : (A B C : FunctionOf c → Type 0) → IsLattice c A → IsLattice c B → IsLattice c C
      → ((z : FunctionOf c) → A z → B z) → ((z : FunctionOf c) → B z → C z) → (g h : ℕ) → HasIndex c A B g
      → HasIndex c B C h → HasIndex c A C (g + h)
  index_add A B C 𝓐 𝓑 𝓒 inner outer g h i j = record {
    basis = j.basis ++ i.basis;
    is =
        basis_tower (codes k) space A B C (lattice_subspace A 𝓐) (lattice_subspace B 𝓑) (lattice_subspace C 𝓒) inner
        outer
        i.basis j.basis i.is j.is;
    count = let e = i.count in let f = j.count in omega (arith, length-append j.basis i.basis);
  }

  -- a larger lattice has a smaller index
  pub index_less : (A A' B : FunctionOf c → Type 0) → IsLattice c A → IsLattice c A' → IsLattice c B
      → ((z : FunctionOf c) → A z → A' z) → ((z : FunctionOf c) → A' z → B z) → ¬ ((z : FunctionOf c) → A' z → A z)
      → (g h : ℕ) → HasIndex c A B g → HasIndex c A' B h → h < g
  index_less A A' B 𝓐 𝓐' 𝓑 inner outer differ g h i j = go (index_of A A' 𝓐 𝓐' inner)
    where
      go : (n : ℕ) × HasIndex c A A' n → h < g
      go (zero, t) = absurd (differ (index_zero A A' 𝓐 t))
      go (suc n, t) =
          let e : suc n + h ≡ g = index_once A B 𝓐 (suc n + h) g (index_add A A' B 𝓐 𝓐' 𝓑 inner outer (suc n) h t j)
          i in omega arith
