-- One polynomial of a list after another: the order after each of them.
use Rattle.std.proofs.Common.{◌≡◌, ◌↔◌, ℕ, ◌+◌, ◌<◌, List, [], ◌∷◌, ◌++◌, length, get_or, map, take, refl, sym, ◌∙◌, ap, subst}
use Rattle.std.proofs.lemmas.List.{take_more}
use Rattle.ring_lemmas.proofs.Ring.{one_mul}
use Rattle.prime_theory.specs.Orders.{EnlargedAt}
use Rattle.ff_fields.specs.Field.{CodeField}
use Rattle.ff_poly.specs.Value.{value}
use Rattle.ff_poly.specs.Polynomials.{Polynomial}
use Rattle.function_field.specs.declared.side.Side.TheVariants.{Finite}
use Rattle.function_field.specs.Places.{IsIntegralAt}
use Rattle.function_field.specs.Functions.{Equation, FunctionOf, ring_of, of_poly, setting_of}
use Rattle.function_field.specs.Values.{PresValue, Functions, equation_of}
use Rattle.order_theory.specs.Orders as theory
use Rattle.order_theory.specs.Orders.{TakenByPowers}
use Rattle.order_theory.proofs.LocalOrders.{order_integral}
use Rattle.order_theory.proofs.Enlargements.{enlarged_same, enlarged_more, products_iff}
use Rattle.ff_lattice.specs.Lattices.{LatticeValue, Contains}
use Rattle.ff_lattice.specs.Orders.{IsOrderLattice}
use Rattle.ff_lattice.proofs.SumsAndProducts.{map_join}
use Rattle.ff_order.specs.Enlargements.{TakenByProducts}
use Rattle.ff_order.specs.Steps.{IsEnlarged}
use Rattle.value_theory.proofs.Bridge.{order_set}
use Rattle.ff_order.proofs.IntegralFunctions.{products_words}

module _ {k : CodeField} (c : Equation k) (O : FunctionOf c → Type 0) (𝓞 : theory.IsOrder c O) where
  abbrev Int : FunctionOf c → Type 0
  Int = IsIntegralAt (setting_of c) Finite

  -- no polynomial
  pub products_none : (z : FunctionOf c) → O z ↔ TakenByProducts c [] O z
  products_none z = (
    λ h. record {
      integral = order_integral c O 𝓞 z h;
      product = (ring_of c).𝟙;
      of_powers = refl;
      inside = subst O
          (sym (one_mul (ring_of c) z)) h;
    },
    λ t. subst O (ap (λ d. (ring_of c).◌⊗◌ d z) t.of_powers ∙ one_mul (ring_of c) z) t.inside,
  )

  enlarged_words : (ps : List (Polynomial k)) (z : FunctionOf c)
      → EnlargedAt (ring_of c) Int (map (of_poly c) ps) O z ↔ TakenByProducts c ps O z
  enlarged_words ps z =
      let a = products_iff c ps O 𝓞 z in
      let b = products_words c ps O z in (
        λ h. b.1 (a.0 h),
        λ t. a.1 (b.0 t),
      )

  -- one polynomial more
  pub products_more : (ps : List (Polynomial k)) (p : Polynomial k) (M : FunctionOf c → Type 0)
      → ((z : FunctionOf c) → M z ↔ TakenByProducts c ps O z)
      → (z : FunctionOf c) → TakenByPowers c p M z ↔ TakenByProducts c (ps ++ p ∷ []) O z
  products_more ps p M is z =
      let same = enlarged_same c (of_poly c p) M (EnlargedAt (ring_of c) Int (map (of_poly c) ps) O)
      (λ x. let w = enlarged_words ps x in (λ m. w.1 ((is x).0 m), λ e. (is x).1 (w.0 e))) z in
      let more = enlarged_more c (map (of_poly c) ps) (of_poly c p) O z in
      let words = enlarged_words (ps ++ p ∷ []) z in
      let list : map (of_poly c) (ps ++ p ∷ [])
      ≡ map (of_poly c) ps ++ of_poly c p ∷ [] = map_join (of_poly c) ps (p ∷ []) in (
        λ h. words.0 (subst (λ es. EnlargedAt (ring_of c) Int es O z) (sym list) (more.0 (same.0 h))),
        λ t. same.1 (more.1 (subst (λ es. EnlargedAt (ring_of c) Int es O z) list (words.1 t))),
      )

module _ (k : CodeField) (p : PresValue) (positive : 0 < p.n) (o : LatticeValue) (order : IsOrderLattice k p o) where
  pub enlarged_none : IsEnlarged k p [] o o
  enlarged_none = record {
    order = order;
    members = products_none (equation_of k p) (Contains k p o)
        (order_set k p positive o order);
  }

  pub enlarged_next : (primes : List (List ℕ)) (i : ℕ) (pi : List ℕ) (cur next : LatticeValue) → i < length primes
      → pi ≡ get_or primes i pi
      → IsEnlarged k p (take i primes) o cur → IsOrderLattice k p next
      → ((z : Functions k p) → Contains k p next z ↔ TakenByPowers (equation_of k p) (value k pi) (Contains k p cur) z)
      → IsEnlarged k p (take (i + 1) primes) o next
  enlarged_next primes i pi cur next less pi_is so_far next_order next_members = record {
    order = next_order;
    members = λ z.
        let m = products_more (equation_of k p) (Contains k p o) (order_set k p positive o order)
        (map (value k) (take i primes)) (value k pi) (Contains k p cur) so_far.members z in
        subst (λ ps. Contains k p next z ↔ TakenByProducts (equation_of k p) ps (Contains k p o) z) (sym list)
        (λ h. m.0 ((next_members z).0 h), λ t. (next_members z).1 (m.1 t));
  }
    where
      list : map (value k) (take (i + 1) primes) ≡ map (value k) (take i primes) ++ value k pi ∷ []
      list =
          ap (map (value k)) (take_more primes i pi less ∙ ap (λ a. take i primes ++ a ∷ []) (sym pi_is))
          ∙ map_join (value k) (take i primes) (pi ∷ [])
