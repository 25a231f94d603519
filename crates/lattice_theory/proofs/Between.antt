-- A module between two lattices whose membership is decided is a lattice: k is finite, so finitely many functions
-- represent the larger lattice modulo the smaller one.
use Rattle.std.proofs.Common.{◌≡◌, All, ℕ, suc, List, [], ◌∷◌, ◌++◌, inl, inr, refl, sym, ◌∙◌, ap, subst}
use Rattle.std.proofs.lemmas.List.Elements.{All-cons, All-nil, All-append, All-head, All-tail, All-weaker}
use Rattle.ring_theory.specs.Subsets.{IsModule, Span}
use Rattle.ring_theory.proofs.Subsets.{span_head, span_append_left, span_append_right, span_least, span_module}
use Rattle.ring_lemmas.proofs.Ring.{zero_add}
use Rattle.ring_lemmas.proofs.Solver.{ring, reads}
use Rattle.ring_theory.specs.Members.{In}
use Rattle.linear_theory.specs.Module.{combine}
use Rattle.ff_fields.specs.Field.{CodeField}
use Rattle.ff_fields.specs.Code.{Code}
use Rattle.function_field.specs.Functions.{Equation, FunctionOf, ring_of, IsPolynomial}
use Rattle.function_field.proofs.ScalarRings.{polynomials_subring}
use Rattle.polynomial_theory.proofs.CodeFields.{code_finite}
use Rattle.function_field.specs.Indices.{space_ops, HasIndex}
use Rattle.lattice_theory.specs.Lattices.{IsLattice}
use Rattle.lattice_theory.proofs.Lattices.{lattice_module, lattice_generators}
use Rattle.lattice_theory.proofs.Indices.{code_of, lattice_subspace, index_of}

module _ {k : CodeField} (c : Equation k) where
  infixl 65 ◌⊕◌
  infixl 70 ◌⊗◌
  infixr 80 ⊖◌
  open ring_of c use {𝟘, 𝟙, ◌⊕◌, ◌⊗◌, ⊖◌}

  abbrev Spanned : List (FunctionOf c) → FunctionOf c → Type 0
  Spanned gs = Span (ring_of c).ops (IsPolynomial c) gs

  module _ (N B : FunctionOf c → Type 0) (𝓑 : IsLattice c B) (decide : (z : FunctionOf c) → B z → Dec (N z)) where
    -- members of N that have each member u + (a combination of ws) in their span
    record Members (u : FunctionOf c) (ws : List (FunctionOf c)) : Type 0 where
      pub list : List (FunctionOf c)
      pub members : All N list
      pub spans : (e : ℕ → Code k) → N (u ⊕ combine (space_ops c) e ws) → Spanned list (u ⊕ combine (space_ops c) e ws)

    -- the same for first coefficients from a list
    record Members_from (u w : FunctionOf c) (ws : List (FunctionOf c)) (bs : List (Code k)) : Type 0 where
      pub list : List (FunctionOf c)
      pub members : All N list
      pub spans : (a : Code k) → In a bs → (e : ℕ → Code k) → N ((u ⊕ code_of c a ⊗ w) ⊕ combine (space_ops c) e ws)
          → Spanned list ((u ⊕ code_of c a ⊗ w) ⊕ combine (space_ops c) e ws)

    from_codes : (u w : FunctionOf c) (ws : List (FunctionOf c)) → ((a : Code k) → Members (u ⊕ code_of c a ⊗ w) ws)
        → (bs : List (Code k)) → Members_from u w ws bs
    from_codes u w ws each [] = record { list = []; members = All-nil N; spans = λ a i. absurd i }
    from_codes u w ws each (a ∷ bs) =
        let h = each a in
        let r = from_codes u w ws each bs in
        record {
          list = h.list ++ r.list;
          members = All-append N h.list r.list h.members r.members;
          spans = λ b i e m. at h r b i e m;
        }
      where
        at : (h : Members (u ⊕ code_of c a ⊗ w) ws) (r : Members_from u w ws bs) (b : Code k) → In b (a ∷ bs)
            → (e : ℕ → Code k)
            → N ((u ⊕ code_of c b ⊗ w) ⊕ combine (space_ops c) e ws)
            → Spanned (h.list ++ r.list) ((u ⊕ code_of c b ⊗ w) ⊕ combine (space_ops c) e ws)
        at h r b (inr i) e m =
            span_append_right (ring_of c) (IsPolynomial c) (polynomials_subring c) h.list r.list _ (r.spans b i e m)
        at h r b (inl i) e m =
            subst (λ x. Spanned (h.list ++ r.list) ((u ⊕ code_of c x ⊗ w) ⊕ combine (space_ops c) e ws)) (sym i)
            (span_append_left (ring_of c) (IsPolynomial c) (polynomials_subring c) h.list r.list _
            (h.spans e (subst (λ x. N ((u ⊕ code_of c x ⊗ w) ⊕ combine (space_ops c) e ws)) i m)))

    members : (ws : List (FunctionOf c)) → All B ws → (u : FunctionOf c) → B u → Members u ws
    members [] h u u_in = go (decide u u_in)
      where
        go : Dec (N u) → Members u []
        go (yes m) = record {
          list = u ∷ [];
          members = All-cons N u [] m (All-nil N);
          spans = λ e m'.
              subst (Spanned (u ∷ [])) (sym ((ring_of c).add_zero u))
              (span_head (ring_of c) (IsPolynomial c) (polynomials_subring c) u []);
        }
        go (no n) =
            record { list = []; members = All-nil N; spans = λ e m. absurd (n (subst N ((ring_of c).add_zero u) m)) }
    members (w ∷ ws) h u u_in =
        let 𝓢 = lattice_subspace c B 𝓑 in
        let r =
        from_codes u w ws
        (λ a. members ws (All-tail B w ws h) (u ⊕ code_of c a ⊗ w)
        (𝓢.sum_in _ _ u_in (𝓢.scale_in a w (All-head B w ws h))))
        (code_finite k).codes in
        record {
          list = r.list;
          members = r.members;
          spans = λ e m.
              subst (Spanned r.list) ((ring_of c).add_assoc u _ _)
              (r.spans (e 0) ((code_finite k).codes_all (e 0)) (λ i. e (suc i))
              (subst N (sym ((ring_of c).add_assoc u _ _)) m));
        }

    -- the module is a lattice
    pub lattice_between : (A : FunctionOf c → Type 0) → IsLattice c A → IsModule (ring_of c).ops (IsPolynomial c) N
        → ((z : FunctionOf c) → A z → N z) → ((z : FunctionOf c) → N z → B z) → IsLattice c N
    lattice_between A 𝓐 𝓝 inner outer = record {
      generators = r.list ++ 𝓐.generators;
      spanned =
          λ z. (
            to z,
            span_least (ring_of c) (IsPolynomial c) (polynomials_subring c) N 𝓝 (r.list ++ 𝓐.generators)
                all_in z,
          );
      full = λ z. let f = 𝓐.full z in record { factor = f.factor; some = f.some; multiple_in = inner _ f.multiple_in };
    }
      where
        index : (g : ℕ) × HasIndex c A B g
        index = index_of c A B 𝓐 𝓑 (λ z h. outer z (inner z h))

        r : Members 𝟘 index.1.basis
        r = members index.1.basis index.1.is.members_in 𝟘 (lattice_module c B 𝓑).zero_in

        all_in : All N (r.list ++ 𝓐.generators)
        all_in = All-append N r.list 𝓐.generators r.members
            (All-weaker A N inner 𝓐.generators (lattice_generators c A 𝓐))

        difference : (a b : FunctionOf c) → (a ⊕ b) ⊕ (⊖ 𝟙) ⊗ b ≡ 𝟘 ⊕ a
        difference a b = ring (ring_of c) (a ∷ b ∷ []) λ q h. simp (reads, q, h 0, h 1) (q.equal _ _ refl)

        to : (z : FunctionOf c) → N z → Spanned (r.list ++ 𝓐.generators) z
        to z z_in =
            let t = index.1.is.spanning z (outer z z_in) in
            let v = combine (space_ops c) t.coefficient index.1.basis in
            let 𝓢 = span_module (ring_of c) (IsPolynomial c) (polynomials_subring c) (r.list ++ 𝓐.generators) in
            let v_in : N (𝟘 ⊕ v)
            = subst N (ap (λ x. x ⊕ (⊖ 𝟙) ⊗ t.rest) t.is ∙ difference v t.rest)
            (𝓝.sum_in _ _ z_in (𝓝.scale_in (⊖ 𝟙) t.rest
            ((polynomials_subring c).neg_in 𝟙 (polynomials_subring c).one_in) (inner t.rest t.rest_in))) in
            subst (Spanned (r.list ++ 𝓐.generators)) (sym (t.is ∙ ap (λ x. x ⊕ t.rest) (sym (zero_add (ring_of c) v))))
            (𝓢.sum_in _ _
            (span_append_left (ring_of c) (IsPolynomial c) (polynomials_subring c) r.list 𝓐.generators _
            (r.spans t.coefficient v_in))
            (span_append_right (ring_of c) (IsPolynomial c) (polynomials_subring c) r.list 𝓐.generators _
            ((𝓐.spanned t.rest).0 t.rest_in)))
