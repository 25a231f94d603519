-- The radical of an order at a polynomial: the multiples of the order by it, and the nilpotent classes modulo them.
use Rattle.std.proofs.Common.{◌≡◌, ℕ, ◌<◌, ◌↔◌, List, [], ◌∷◌, ◌++◌, length, map, sym, ◌∙◌, ap, subst, All}
use Rattle.std.proofs.lemmas.List.Elements.{All-map, All-weaker}
use Rattle.ring_lemmas.specs.Ring.{CommRing}
use Rattle.ring_theory.specs.Subsets.{IsSubring, Span}
use Rattle.ring_lemmas.proofs.Ring.{one_mul}
use Rattle.ring_theory.proofs.Subsets.{span_least, span_append_right}
use Rattle.ff_fields.specs.Field.{CodeField}
use Rattle.ff_poly.specs.Value.{value}
use Rattle.ff_poly.specs.Polynomials.{value_one}
use Rattle.function_field.specs.Functions.{IsPolynomial, of_poly}
use Rattle.function_field.specs.Values.{ElemValue, PresValue, Functions, functions, function_of, equation_of}
use Rattle.function_field.proofs.ScalarRings.{polynomials_subring, of_poly_one}
use Rattle.prime_theory.specs.Ideals.{Multiple}
use Rattle.prime_theory.specs.Ideals as local
use Rattle.prime_theory.specs.Orders.{Radical}
use Rattle.prime_theory.proofs.PohstZassenhaus.{multiples_ideal}
use Rattle.prime_theory.proofs.Radicals.{p_in_radical}
use Rattle.order_theory.specs.Orders as theory
use Rattle.order_theory.proofs.Enlargements.{order_has, radical_of_order, ideal_module}
use Rattle.ff_lattice.specs.Lattices.{LatticeValue, IsLatticeValue, Contains, InSpanOf, IsFullLattice, IsScaled, IsSumOfMembers, row_elems}
use Rattle.ff_lattice.specs.Orders.{IsOrderLattice}
use Rattle.ff_lattice.specs.Quotients.{IsIdealLattice}
use Rattle.ff_lattice.proofs.SpannedSets.{lattice_full}
use Rattle.ff_lattice.proofs.SumsAndProducts.{map_join, sum_iff, full_within}
use Rattle.ff_order.specs.Steps.{IsNilpotentModulo, IsNilpotentBasis}
use Rattle.value_theory.proofs.Bridge.{order_set}

module _ (k : CodeField) (p : PresValue) where
  abbrev F : CommRing (Functions k p)
  F = functions k p

  abbrev T : Functions k p → Type 0
  T = IsPolynomial (equation_of k p)

  abbrev 𝓢 : IsSubring (functions k p).ops (IsPolynomial (equation_of k p))
  𝓢 = polynomials_subring (equation_of k p)

  abbrev poly : List ℕ → Functions k p
  poly a = of_poly (equation_of k p) (value k a)

  -- the functions a/1 times members are the multiples of members by a
  pub scaled_multiples : (a one : List ℕ) (A : Functions k p → Type 0) → one ≡ 1 ∷ [] → (z : Functions k p)
      → IsScaled k p a one A z ↔ Multiple (functions k p).ops (of_poly (equation_of k p) (value k a)) A z
  scaled_multiples a one A one_is z = (
    λ s. record { quotient = s.member; quotient_in = s.member_in; is = sym (unit z) ∙ s.is },
    λ m. record { member = m.quotient; member_in = m.quotient_in; is = unit z ∙ m.is },
  )
    where
      unit : (z : Functions k p) → F.◌⊗◌ (poly one) z ≡ z
      unit z = ap (λ u. F.◌⊗◌ u z) (ap poly one_is ∙ ap (of_poly (equation_of k p)) (value_one k)
          ∙ sym (of_poly_one (equation_of k p))) ∙ one_mul F z

  -- the same of an answer, by its promise for each presentation of the degree
  pub multiples_members : (l o o' : LatticeValue) (a one : List ℕ) → o' ≡ o → one ≡ 1 ∷ [] → p.n ≡ length o.rows
      → ((p' : PresValue) → p'.n ≡ length o'.rows → (z : Functions k p')
      → Contains k p' l z ↔ IsScaled k p' a one (Contains k p' o') z)
      → (z : Functions k p) → Contains k p l z
      ↔ Multiple (functions k p).ops (of_poly (equation_of k p) (value k a)) (Contains k p o) z
  multiples_members l o o' a one same one_is size members z =
      let m = subst (λ (x : LatticeValue). p.n ≡ length x.rows
      → Contains k p l z ↔ IsScaled k p a one (Contains k p x) z) same (λ e. members p e z) size in
      let s = scaled_multiples a one (Contains k p o) one_is z in (
        λ h. s.0 (m.0 h),
        λ h. m.1 (s.1 h),
      )

  module _ (positive : 0 < p.n) (o : LatticeValue) (order : IsOrderLattice k p o) where
    abbrev O : Functions k p → Type 0
    O = Contains k p o

    abbrev 𝓞 : theory.IsOrder (equation_of k p) (Contains k p o)
    𝓞 = order_set k p positive o order

    -- the multiples of an order by a polynomial are an ideal
    pub multiples_are_ideal : (a : List ℕ) (l : LatticeValue) → IsLatticeValue k.ops p.n l
        → ((z : Functions k p) → Contains k p l z
        ↔ Multiple (functions k p).ops (of_poly (equation_of k p) (value k a)) (Contains k p o) z)
        → IsIdealLattice k p o l
    multiples_are_ideal a l form members =
        let 𝓘 = multiples_ideal F O 𝓞.ring (poly a) (order_has (equation_of k p) O 𝓞 (value k a)) (poly a)
        (order_has (equation_of k p) O 𝓞 (value k a)) in
        record {
          lattice = form;
          within = λ z h. 𝓘.within z ((members z).0 h);
          closed = λ u v u_in v_in. (members _).1 (𝓘.scale_in u v u_in ((members v).0 v_in));
        }

    -- elements and the rows of a lattice have full rank
    pub lifts_full : (zs : List ElemValue) (l : LatticeValue) → IsLatticeValue k.ops p.n l
        → IsFullLattice k p (InSpanOf k p (zs ++ row_elems l))
    lifts_full zs l form =
        full_within k p (Contains k p l) (InSpanOf k p (zs ++ row_elems l))
        (λ z h.
        subst (λ fs. Span (functions k p).ops (IsPolynomial (equation_of k p)) fs z)
        (sym (map_join (function_of k p) zs (row_elems l)))
        (span_append_right F T 𝓢 (map (function_of k p) zs) (map (function_of k p) (row_elems l)) z h))
        (lattice_full k p l positive form)

    module _ (a : List ℕ) (l : LatticeValue)
        (members : (z : Functions k p) → Contains k p l z
        ↔ Multiple (functions k p).ops (of_poly (equation_of k p) (value k a)) (Contains k p o) z) where
      abbrev R : Functions k p → Type 0
      R = Radical (functions k p).ops (Contains k p o) (of_poly (equation_of k p) (value k a))

      𝓡 : local.IsIdeal (functions k p).ops (Contains k p o)
          (Radical (functions k p).ops (Contains k p o) (of_poly (equation_of k p) (value k a)))
      𝓡 = radical_of_order (equation_of k p) O 𝓞 (value k a)

      to_radical : (z : Functions k p) → IsNilpotentModulo k p o l z → R z
      to_radical z n = record {
        within = n.within;
        nilpotent = record { exponent = n.nilpotent.exponent; power_in = (members _).0 n.nilpotent.power_in };
      }

      -- a basis of the nilpotent classes and the multiples span the radical
      pub radical_spanned : (zs : List ElemValue) → IsNilpotentBasis k p o l zs → (z : Functions k p)
          → InSpanOf k p (zs ++ row_elems l) z
          ↔ Radical (functions k p).ops (Contains k p o) (of_poly (equation_of k p) (value k a)) z
      radical_spanned zs basis z = (
        λ h. from_sum ((sum_iff k p zs (row_elems l) z).0 h),
        λ r.
            (sum_iff k p zs (row_elems l) z).1
            (basis.spanning z
            (record {
              within = r.within;
              nilpotent = record { exponent = r.nilpotent.exponent; power_in = (members _).1 r.nilpotent.power_in };
            })),
      )
        where
          all_in : All R (map (function_of k p) zs)
          all_in =
              All-map R (function_of k p) zs
              (All-weaker (λ x. IsNilpotentModulo k p o l (function_of k p x)) (λ x. R (function_of k p x))
              (λ x n. to_radical (function_of k p x) n) zs basis.nilpotent)

          from_sum : IsSumOfMembers k p (InSpanOf k p zs) (Contains k p l) z → R z
          from_sum s =
              subst R (sym s.is)
              (𝓡.sum_in s.left s.right
              (span_least F T 𝓢 R (ideal_module (equation_of k p) O 𝓞 R 𝓡) (map (function_of k p) zs) all_in s.left
              s.left_in)
              (p_in_radical F O 𝓞.ring (poly a) (order_has (equation_of k p) O 𝓞 (value k a)) s.right
              ((members s.right).0 s.right_in)))

-- r is the radical of the order at each polynomial whose multiples are the ideal
abbrev pub IsRadicalModulo : (k : CodeField) (p : PresValue) (o i r : LatticeValue) → Type 0
IsRadicalModulo k p o i r =
    (a : List ℕ)
    → local.SameSet (Contains k p i)
    (Multiple (functions k p).ops (of_poly (equation_of k p) (value k a)) (Contains k p o))
    → (z : Functions k p) → Contains k p r z
    ↔ Radical (functions k p).ops (Contains k p o) (of_poly (equation_of k p) (value k a)) z
