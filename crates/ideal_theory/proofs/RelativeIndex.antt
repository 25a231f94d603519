-- Relative indices: each pair of lattices has one, they don't depend on the larger lattice, and they add.
use Rattle.std.proofs.Common.{◌≡◌, ℕ, ◌+◌, refl, sym, arith}
use Rattle.std.proofs.lemmas.Int.{ints}
use Rattle.std.proofs.Math.IntN.{ℤ, pos, ◌+ℤ◌, ◌-ℤ◌}
use Rattle.ring_theory.specs.Subsets.{Span}
use Rattle.ring_lemmas.proofs.Ring.{zero_add}
use Rattle.prime_theory.specs.Ideals.{SameSet}
use Rattle.linear_theory.specs.Basis.{IsSum}
use Rattle.ff_fields.specs.Field.{CodeField}
use Rattle.function_field.specs.Functions.{Equation, FunctionOf, ring_of, IsPolynomial}
use Rattle.function_field.specs.Indices.{HasIndex, space_ops}
use Rattle.lattice_theory.specs.Lattices.{IsLattice}
use Rattle.lattice_theory.proofs.Bases.{index_same}
use Rattle.lattice_theory.proofs.Indices.{index_add, index_none, index_of, index_once}
use Rattle.lattice_theory.proofs.Lattices.{lattice_module}
use Rattle.lattice_theory.proofs.Operations.{sum_lattice}
use Rattle.ideal_theory.specs.Indices.{HasRelativeIndex}

module _ {k : CodeField} (c : Equation k) where
  open ring_of c use {𝟘, ◌⊕◌}

  abbrev Sum : (FunctionOf c → Type 0) → (FunctionOf c → Type 0) → FunctionOf c → Type 0
  Sum A B = IsSum (space_ops c) A B

  in_left : (A B : FunctionOf c → Type 0) → IsLattice c B → (z : FunctionOf c) → A z → IsSum (space_ops c) A B z
  in_left A B 𝓑 z h =
      record {
        left = z;
        left_in = h;
        right = 𝟘;
        right_in = (lattice_module c B 𝓑).zero_in;
        is = sym ((ring_of c).add_zero z);
      }

  in_right : (A B : FunctionOf c → Type 0) → IsLattice c A → (z : FunctionOf c) → B z → IsSum (space_ops c) A B z
  in_right A B 𝓐 z h =
      record {
        left = 𝟘;
        left_in = (lattice_module c A 𝓐).zero_in;
        right = z;
        right_in = h;
        is = sym (zero_add (ring_of c) z);
      }

  -- read off any larger lattice
  pub relative_in : (A B C : FunctionOf c → Type 0) → IsLattice c C → ((z : FunctionOf c) → A z → C z)
      → ((z : FunctionOf c) → B z → C z) → (g h : ℕ) (m : ℤ)
      → HasIndex c A C g → HasIndex c B C h → m ≡ pos g -ℤ pos h → HasRelativeIndex c A B m
  relative_in A B C 𝓒 f f' g h m i j e = record {
    larger = 𝓒.generators;
    lattice = record {
      generators = 𝓒.generators;
      spanned = λ z. (λ x. x, λ x. x);
      full = λ z. let t = 𝓒.full z in
          record { factor = t.factor; some = t.some; multiple_in = (𝓒.spanned _).0 t.multiple_in };
    };
    has_first = λ z x. (𝓒.spanned z).0 (f z x);
    has_second = λ z x. (𝓒.spanned z).0 (f' z x);
    first = g;
    first_index = index_same c A A C _ (λ z. (λ x. x, λ x. x)) 𝓒.spanned g i;
    second = h;
    second_index = index_same c B B C _ (λ z. (λ x. x, λ x. x)) 𝓒.spanned h j;
    is = e;
  }

  module _ (A B : FunctionOf c → Type 0) (𝓐 : IsLattice c A) (𝓑 : IsLattice c B) where
    pub relative_exists : (m : ℤ) × HasRelativeIndex c A B m
    relative_exists =
        let 𝓢 = sum_lattice c A B 𝓐 𝓑 in
        let i = index_of c A (Sum A B) 𝓐 𝓢 (in_left A B 𝓑) in
        let j = index_of c B (Sum A B) 𝓑 𝓢 (in_right A B 𝓐) in (
          pos i.0 -ℤ pos j.0,
          relative_in A B (Sum A B) 𝓢 (in_left A B 𝓑) (in_right A B 𝓐) i.0 j.0 _ i.1 j.1 refl,
        )

    -- it is that in each larger lattice
    pub relative_at : (m : ℤ) → HasRelativeIndex c A B m → (C : FunctionOf c → Type 0) → IsLattice c C
        → ((z : FunctionOf c) → A z → C z)
        → ((z : FunctionOf c) → B z → C z) → (g h : ℕ) → HasIndex c A C g → HasIndex c B C h → m ≡ pos g -ℤ pos h
    relative_at m r C 𝓒 f f' g h i j =
        let L : FunctionOf c → Type 0 = Span (ring_of c).ops (IsPolynomial c) r.larger in
        let 𝓛 = r.lattice in
        let U = Sum L C in
        let 𝓤 = sum_lattice c L C 𝓛 𝓒 in
        let u = index_of c L U 𝓛 𝓤 (in_left L C 𝓒) in
        let v = index_of c C U 𝓒 𝓤 (in_right L C 𝓛) in
        let a : r.first + u.0 ≡ g + v.0
        = index_once c A U 𝓐 _ _ (index_add c A L U 𝓐 𝓛 𝓤 r.has_first (in_left L C 𝓒) _ _ r.first_index u.1)
        (index_add c A C U 𝓐 𝓒 𝓤 f (in_right L C 𝓛) _ _ i v.1) in
        let b : r.second + u.0 ≡ h + v.0
        = index_once c B U 𝓑 _ _ (index_add c B L U 𝓑 𝓛 𝓤 r.has_second (in_left L C 𝓒) _ _ r.second_index u.1)
        (index_add c B C U 𝓑 𝓒 𝓤 f' (in_right L C 𝓛) _ _ j v.1) in
        let e : m ≡ pos r.first -ℤ pos r.second = r.is in omega (arith, ints)

    pub relative_once : (m n : ℤ) → HasRelativeIndex c A B m → HasRelativeIndex c A B n → m ≡ n
    relative_once m n r s =
        let e : n ≡ pos s.first -ℤ pos s.second = s.is in
        let d = relative_at m r (Span (ring_of c).ops (IsPolynomial c) s.larger) s.lattice s.has_first s.has_second
        s.first s.second s.first_index s.second_index in
        omega (arith, ints)

    pub relative_add : (C : FunctionOf c → Type 0) → IsLattice c C → (m n : ℤ) → HasRelativeIndex c A B m
        → HasRelativeIndex c B C n → HasRelativeIndex c A C (m +ℤ n)
    relative_add C 𝓒 m n r s =
        let L : FunctionOf c → Type 0 = Span (ring_of c).ops (IsPolynomial c) r.larger in
        let M : FunctionOf c → Type 0 = Span (ring_of c).ops (IsPolynomial c) s.larger in
        let U = Sum L M in
        let 𝓤 = sum_lattice c L M r.lattice s.lattice in
        let left = in_left L M s.lattice in
        let right = in_right L M r.lattice in
        let u = index_of c L U r.lattice 𝓤 left in
        let v = index_of c M U s.lattice 𝓤 right in
        let b : r.second + u.0 ≡ s.first + v.0
        = index_once c B U 𝓑 _ _ (index_add c B L U 𝓑 r.lattice 𝓤 r.has_second left _ _ r.second_index u.1)
        (index_add c B M U 𝓑 s.lattice 𝓤 s.has_first right _ _ s.first_index v.1) in
        let d : m ≡ pos r.first -ℤ pos r.second = r.is in
        let e : n ≡ pos s.first -ℤ pos s.second = s.is in
        relative_in A C U 𝓤 (λ z x. left z (r.has_first z x)) (λ z x. right z (s.has_second z x)) (r.first + u.0)
        (s.second + v.0) (m +ℤ n)
        (index_add c A L U 𝓐 r.lattice 𝓤 r.has_first left _ _ r.first_index u.1)
        (index_add c C M U 𝓒 s.lattice 𝓤 s.has_second right _ _ s.second_index v.1) (omega (arith, ints))

  pub relative_same : (A A' B B' : FunctionOf c → Type 0) → SameSet A A' → SameSet B B' → (m : ℤ)
      → HasRelativeIndex c A B m → HasRelativeIndex c A' B' m
  relative_same A A' B B' f f' m r =
      let L : FunctionOf c → Type 0 = Span (ring_of c).ops (IsPolynomial c) r.larger in
      let own : SameSet L L = λ z. (λ x. x, λ x. x) in
      relative_in A' B' L r.lattice (λ z x. r.has_first z ((f z).1 x)) (λ z x. r.has_second z ((f' z).1 x)) r.first
      r.second m
      (index_same c A A' L L f own r.first r.first_index) (index_same c B B' L L f' own r.second r.second_index) r.is

  -- of a lattice within another it is the index
  pub relative_of_index : (A B : FunctionOf c → Type 0) → IsLattice c B → ((z : FunctionOf c) → A z → B z) → (g : ℕ)
      → HasIndex c A B g → HasRelativeIndex c A B (pos g)
  relative_of_index A B 𝓑 f g i =
      relative_in A B B 𝓑 f (λ z x. x) g 0 (pos g) i (index_none c B B 𝓑 (λ z x. x)) (omega (arith, ints))

  pub relative_back : (A B : FunctionOf c → Type 0) → IsLattice c A → ((z : FunctionOf c) → B z → A z) → (g : ℕ)
      → HasIndex c B A g
      → HasRelativeIndex c A B (pos 0 -ℤ pos g)
  relative_back A B 𝓐 f g i = relative_in A B A 𝓐 (λ z x. x) f 0 g _ (index_none c A A 𝓐 (λ z x. x)) i refl
