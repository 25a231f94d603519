-- A split that is made of a Popov matrix has the form.
use Rattle.std.proofs.Common.{◌≡◌, ℕ, zero, suc, ◌+◌, ◌<◌, List, [], ◌∷◌, ◌++◌, length, map, take, get_or, refl, sym, ap, ap₂, ◌∙◌, subst, arith, All}
use Rattle.std.proofs.lemmas.List.{length-map, map_more}
use Rattle.std.proofs.lemmas.List.Elements.{All-nil, All-cons, All-head, All-tail}
use Rattle.std.proofs.lemmas.List.Sorted.{All-permutation}
use Rattle.std.proofs.Math.IntN.{ℤ}
use Rattle.ff_fields.specs.Field.{CodeField}
use Rattle.function_field.specs.Values.{ElemValue, functions, function_of}
use Rattle.function_field.specs.Curves.{CurveValue}
use Rattle.linear_theory.specs.Lists.{entry, tabulate}
use Rattle.ff_lattice.specs.Lattices.{LatticeValue}
use Rattle.split_theory.specs.Splits.{AreRowsOver, split_degree}
use Rattle.split_theory.proofs.RowFunctions.{entry_map}
use Rattle.ff_popov.proofs.Entries.{any_default}
use Rattle.ff_split.proofs.Elements.{entry_read}
use Rattle.ff_split.specs.Splits.{columns, AreOrdered, IsSplitMatrix, IsSplitForm}

all_tabulated : {X : Type 0} (P : X → Type 0) (n : ℕ) (f : ℕ → X) → ((i : ℕ) → i < n → P (f i)) → All P (tabulate n f)
all_tabulated P zero f h = All-nil P
all_tabulated P (suc n) f h =
    All-cons P (f 0) (tabulate n (λ i. f (suc i))) (h 0 (omega arith))
    (all_tabulated P n (λ i. f (suc i)) (λ i less. h (suc i) (omega (arith, less))))

-- each column is one of the matrix
pub columns_inside : (u : List ℕ) (m : List (List (List ℕ))) (order : List (ℤ × ℕ)) → AreOrdered u m order
    → All (λ p. p.1 < length m) order
columns_inside u m order h =
    All-permutation (λ (p : ℤ × ℕ). p.1 < length m) (columns u m) order h.all
    (all_tabulated (λ (p : ℤ × ℕ). p.1 < length m) (length m) (λ i. (split_degree u m i, i)) (λ i less. less))

same_images : {X Y Z : Type 0} (f : Y → Z) (g : X → Y) (h : X → Z) (xs : List X) → All (λ x. f (g x) ≡ h x) xs
    → map f (map g xs) ≡ map h xs
same_images f g h [] all = refl
same_images f g h (x ∷ xs) all =
    ap₂ ◌∷◌ (All-head (λ x. f (g x) ≡ h x) x xs all) (same_images f g h xs (All-tail (λ x. f (g x) ≡ h x) x xs all))

abbrev pub none : ElemValue
none = record { num = []; den = [] }

pub made_form : (k : CodeField) (c : CurveValue) (fin inf : LatticeValue) (u : List ℕ) (m : List (List (List ℕ)))
    (zs basis : List ElemValue) (order : List (ℤ × ℕ)) (ds : List ℤ) → IsSplitMatrix k c fin inf u m
    → AreRowsOver k c inf u m (map (function_of k c.fin) zs) → AreOrdered u m order
    → basis ≡ map (λ p. entry none zs p.1) order → ds ≡ map (λ p. p.0) order
    → IsSplitForm k c fin inf (record { basis = basis; degrees = ds })
made_form k c fin inf u m zs basis order ds matrix rows ordered basis_is ds_are = record {
  u = u;
  m = m;
  bs = map (function_of k c.fin) zs;
  order = order;
  matrix = matrix;
  rows = rows;
  ordered = ordered;
  functions =
      ap (map (function_of k c.fin)) basis_is
      ∙ same_images (function_of k c.fin) (λ (p : ℤ × ℕ). entry none zs p.1)
      (λ p. entry (functions k c.fin).𝟘 (map (function_of k c.fin) zs) p.1) order
      (λ i d less.
      sym (entry_map (function_of k c.fin) none (functions k c.fin).𝟘 zs _
      (let l = columns_inside u m order ordered i d less in omega (arith, l, count))));
  degrees = ds_are;
}
  where
    count : length zs ≡ length m
    count = sym (length-map zs (function_of k c.fin)) ∙ rows.count ∙ sym matrix.popov.size

-- one element more in the order of the columns
pub arranged_more : (zs old new : List ElemValue) (order : List (ℤ × ℕ)) (n : ℕ) (z y : ElemValue) (d : ℤ × ℕ)
    → old ≡ map (λ p. entry none zs p.1) (take n order) → n < length order → All (λ p. p.1 < length zs) order
    → z ≡ get_or zs (get_or order n d).1 z → y ≡ z → new ≡ old ++ y ∷ []
    → new ≡ map (λ p. entry none zs p.1) (take (n + 1) order)
arranged_more zs old new order n z y d so_far less inside z_is same is =
    let j = (get_or order n d).1 in
    is
    ∙ ap₂ (λ xs x. xs ++ x ∷ []) so_far
    (same ∙ z_is ∙ any_default zs j z none (inside n d less) ∙ sym (entry_read none zs j))
    ∙ sym (map_more (λ (p : ℤ × ℕ). entry none zs p.1) order n d less)

-- what holds of the elements holds of those in the order of the columns
pub arranged_all : (P : ElemValue → Type 0) (zs basis : List ElemValue) (order : List (ℤ × ℕ)) → All P zs
    → All (λ p. p.1 < length zs) order → basis ≡ map (λ p. entry none zs p.1) order → All P basis
arranged_all P zs basis order all inside is = subst (All P) (sym is) (go order inside)
  where
    go : (ps : List (ℤ × ℕ)) → All (λ p. p.1 < length zs) ps → All P (map (λ p. entry none zs p.1) ps)
    go [] h = All-nil P
    go (p ∷ ps) h =
        All-cons P (entry none zs p.1) (map (λ (q : ℤ × ℕ). entry none zs q.1) ps)
        (subst P (sym (entry_read none zs p.1))
        (all p.1 none (All-head (λ (q : ℤ × ℕ). q.1 < length zs) p ps h)))
        (go ps (All-tail (λ (q : ℤ × ℕ). q.1 < length zs) p ps h))
