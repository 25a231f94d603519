-- Lattices over a denominator as spans of rows: membership is decided, and one denominator serves two lattices.
use Rattle.std.proofs.Common.{◌≡◌, All, List, [], ◌∷◌, map, inl, inr, ◌⊎◌, refl, sym, subst}
use Rattle.std.proofs.lemmas.List.Elements.{All-weaker}
use Rattle.ring_theory.specs.Subsets.{IsModule, Span}
use Rattle.ring_theory.proofs.Subsets.{span_module, span_members}
use Rattle.popov_theory.specs.Span.{InSpan, HasFullRank}
use Rattle.popov_theory.specs.Popov.{IsPopov}
use Rattle.popov_theory.specs.Laws.{PopovForm}
use Rattle.popov_theory.proofs.Existence.{popov_basis}
use Rattle.popov_theory.proofs.Division.{in_span_or_not}
use Rattle.popov_theory.proofs.Reduction.{Reduced, reduce, reduced_span}
use Rattle.ff_fields.specs.Field.{CodeField}
use Rattle.ff_fields.specs.Code.{code_field}
use Rattle.ff_poly.specs.Polynomials.{Polynomial, polynomials, polynomials_domain}
use Rattle.ring_lemmas.proofs.Ring.{product_not_zero}
use Rattle.function_field.specs.Functions.{Equation, FunctionOf, ring_of, IsPolynomial}
use Rattle.function_field.proofs.ScalarRings.{polynomials_subring}
use Rattle.lattice_theory.specs.Lattices.{IsLattice}
use Rattle.lattice_theory.proofs.Parts.{Rows, module_of, part, part_scale, span_of_rows, rows_of_span, rows_of_part, OverOne, more, Common, common}

module _ {k : CodeField} (c : Equation k) where
  infixl 65 ◌⊕◌
  infixl 70 ◌⊗◌
  open ring_of c use {𝟘, 𝟙, ◌⊕◌, ◌⊗◌}

  abbrev Spanned : List (FunctionOf c) → FunctionOf c → Type 0
  Spanned gs = Span (ring_of c).ops (IsPolynomial c) gs

  -- membership in a span is decided
  pub span_decided : (gs : List (FunctionOf c)) (z : FunctionOf c) → Dec (Spanned gs z)
  span_decided gs z = go (common c (z ∷ gs))
    where
      decide : (d : Polynomial k) (n : ¬ (d ≡ (polynomials k).𝟘)) (v : Rows c) (rs : List (Rows c))
          → Dec (Spanned (map (part c d n) rs) (part c d n v))
      decide d n v rs = by (in_span_or_not (module_of c) (code_field k) r.rows r.weak v)
        where
          r : Reduced (module_of c) (code_field k) rs
          r = reduce (module_of c) (code_field k) rs

          by : InSpan (module_of c) r.rows v ⊎ (InSpan (module_of c) r.rows v → ⊥)
              → Dec (Spanned (map (part c d n) rs) (part c d n v))
          by (inl h) = yes (span_of_rows c d n rs v ((reduced_span (module_of c) (code_field k) rs r).right.within v h))
          by (inr h) =
              no (λ s. h ((reduced_span (module_of c) (code_field k) rs r).left.within v (rows_of_part c d n rs v s)))

      cases : (d : Polynomial k) (n : ¬ (d ≡ (polynomials k).𝟘)) (rs : List (Rows c)) → z ∷ gs ≡ map (part c d n) rs
          → Dec (Spanned gs z)
      cases d n [] e = let f : ◌≡◌ {A = List (FunctionOf c)} (z ∷ gs) [] = e in absurd (cc)
      cases d n (v ∷ rs) e =
          let f : z ≡ part c d n v = cc in
          let g : gs ≡ map (part c d n) rs = cc in
          subst (λ w. Dec (Spanned gs w)) (sym f)
          (subst (λ hs. Dec (Spanned hs (part c d n v))) (sym g) (decide d n v rs))

      go : Common c (z ∷ gs) → Dec (Spanned gs z)
      go t = cases t.den t.not_zero t.over_one.rows t.over_one.is

  module _ (L : FunctionOf c → Type 0) (𝓛 : IsLattice c L) where
    pub lattice_decided : (z : FunctionOf c) → Dec (L z)
    lattice_decided z = go (span_decided 𝓛.generators z)
      where
        go : Dec (Spanned 𝓛.generators z) → Dec (L z)
        go (yes h) = yes ((𝓛.spanned z).1 h)
        go (no h) = no (λ m. h ((𝓛.spanned z).0 m))

    pub lattice_module : IsModule (ring_of c).ops (IsPolynomial c) L
    lattice_module =
        let 𝓢 = span_module (ring_of c) (IsPolynomial c) (polynomials_subring c) 𝓛.generators in
        record {
          zero_in = (𝓛.spanned 𝟘).1 𝓢.zero_in;
          sum_in = λ a b h h'. (𝓛.spanned _).1 (𝓢.sum_in a b ((𝓛.spanned a).0 h) ((𝓛.spanned b).0 h'));
          scale_in = λ s a s_in h. (𝓛.spanned _).1 (𝓢.scale_in s a s_in ((𝓛.spanned a).0 h));
        }

    pub lattice_generators : All L 𝓛.generators
    lattice_generators =
        All-weaker (Spanned 𝓛.generators) L (λ z h. (𝓛.spanned z).1 h) 𝓛.generators
        (span_members (ring_of c) (IsPolynomial c) (polynomials_subring c) 𝓛.generators)

  -- the rows of a lattice over the denominator d, in Popov form
  pub record AtDen (L : FunctionOf c → Type 0) (d : Polynomial k) (n : ¬ (d ≡ (polynomials k).𝟘)) : Type 0 where
    pub rows : List (Rows c)
    pub to_rows : (v : Rows c) → L (part c d n v) → InSpan (module_of c) rows v
    pub from_rows : (v : Rows c) → InSpan (module_of c) rows v → L (part c d n v)
    pub each : (z : FunctionOf c) → L z → (v : Rows c) × (z ≡ part c d n v)
    pub popov : IsPopov (module_of c) rows

  pub lattice_at : (L : FunctionOf c → Type 0) (𝓛 : IsLattice c L) (d : Polynomial k) (n : ¬ (d ≡ (polynomials k).𝟘))
      → OverOne c d n 𝓛.generators → AtDen L d n
  lattice_at L 𝓛 d n h = record {
    rows = form.rows;
    to_rows = λ v m. form.same_span.left.within v (to v m);
    from_rows = λ v m. from v (form.same_span.right.within v m);
    each = λ z m. let t = rows_of_span c d n h.rows z (subst (λ gs. Spanned gs z) h.is ((𝓛.spanned z).0 m)) in
        (t.0, t.2);
    popov = form.is;
  }
    where
      to : (v : Rows c) → L (part c d n v) → InSpan (module_of c) h.rows v
      to v m = rows_of_part c d n h.rows v (subst (λ gs. Spanned gs (part c d n v)) h.is ((𝓛.spanned _).0 m))

      from : (v : Rows c) → InSpan (module_of c) h.rows v → L (part c d n v)
      from v m = (𝓛.spanned _).1 (subst (λ gs. Spanned gs (part c d n v)) (sym h.is) (span_of_rows c d n h.rows v m))

      full : HasFullRank (module_of c) h.rows
      full = record {
        multiple = λ v. let f = 𝓛.full (part c d n v) in record {
          factor = f.factor;
          some = f.some;
          in_span = to _ (subst L (sym (part_scale c d n f.factor v)) f.multiple_in);
        };
      }

      form : PopovForm (module_of c) h.rows
      form = popov_basis (module_of c) (code_field k) h.rows full

  -- two lattices over one denominator
  pub record BothAt (A B : FunctionOf c → Type 0) : Type 0 where
    pub den : Polynomial k
    pub not_zero : ¬ (den ≡ (polynomials k).𝟘)
    pub left : AtDen A den not_zero
    pub right : AtDen B den not_zero

  pub two_lattices : (A B : FunctionOf c → Type 0) → IsLattice c A → IsLattice c B → BothAt A B
  two_lattices A B 𝓐 𝓑 =
      let a = common c 𝓐.generators in
      let b = common c 𝓑.generators in
      let both = product_not_zero (polynomials_domain k) a.den b.den a.not_zero b.not_zero in
      record {
        den = (polynomials k).◌⊗◌ a.den b.den;
        not_zero = both;
        left = lattice_at A 𝓐 _ both
            (more c b.den a.den _ a.not_zero both ((polynomials k).mul_comm a.den b.den) 𝓐.generators a.over_one);
        right = lattice_at B 𝓑 _ both (more c a.den b.den _ b.not_zero both refl 𝓑.generators b.over_one);
      }
