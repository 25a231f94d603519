-- Vectors with the coordinates of functions, one more and those of products.
use Rattle.std.proofs.Common.{◌≡◌, ℕ, ◌+◌, ◌<◌, ◌≤◌, List, [], ◌∷◌, ◌++◌, length, get_or, map, take, refl, sym, ◌∙◌, ap, ap₂, subst, append_assoc, All}
use Rattle.std.specs.Global.{Vec}
use Rattle.std.proofs.lemmas.List.{take_more, take_all, get_or-map, length-map}
use Rattle.std.proofs.lemmas.List.Elements.{All-nil, All-cons, All-head, All-tail}
use Rattle.ring_theory.specs.Subsets.{IsSubring, products}
use Rattle.ring_lemmas.specs.Ring.{Operations}
use Rattle.ff_fields.specs.Field.{CodeField}
use Rattle.function_field.specs.Divisors.{IsConstant}
use Rattle.function_field.specs.Values.{ElemValue, PresValue, Functions, functions, function_of, equation_of, setting}
use Rattle.ff_falg.specs.Algebras.{IsVector}
use Rattle.ff_falg.specs.Idempotents.{elements_of}
use Rattle.ff_structure.specs.Structures.{StructureValue}
use Rattle.idempotents_theory.specs.Coordinates.{IsStructureOf}
use Rattle.ff_rr.specs.Listings.{function_at, AreVectorsOf}

-- what holds of all members holds of one of them
pub member_holds : {X : Type 0} (P : X → Type 0) (xs ys : List X) (i : ℕ) (x : X) → All P ys → xs ≡ ys
    → i < length xs → x ≡ get_or xs i x → P x
member_holds P xs ys i x h e l x_is = subst P (sym x_is) (subst (All P) (sym e) h i x l)

-- what holds of all values holds of that of one member
pub value_holds : {X Y : Type 0} (P : Y → Type 0) (f : X → Y) (xs ys : List X) (i : ℕ) (x : X) → All P (map f ys)
    → xs ≡ ys → i < length xs → x ≡ get_or xs i x → P (f x)
value_holds P f xs ys i x h e l x_is =
    subst P (get_or-map f xs i x (f x) l ∙ ap f (sym x_is))
    (subst (λ zs. All P (map f zs)) (sym e) h i (f x) (subst (λ n. i < n) (sym (length-map xs f)) l))

pub map_join : {X Y : Type 0} (f : X → Y) (xs ys : List X) → map f (xs ++ ys) ≡ map f xs ++ map f ys
map_join f [] ys = refl
map_join f (x ∷ xs) ys = ap (λ zs. f x ∷ zs) (map_join f xs ys)

all_push : {X : Type 0} (P : X → Type 0) (xs : List X) (x : X) → All P xs → P x → All P (xs ++ x ∷ [])
all_push P [] x h p = All-cons P x [] p (All-nil P)
all_push P (y ∷ xs) x h p =
    All-cons P y (xs ++ x ∷ []) (All-head P y xs h) (all_push P xs x (All-tail P y xs h) p)

products_more : {A : Type 0} (R : Operations A) (bs cs : List A) (b : A)
    → products R (bs ++ b ∷ []) cs ≡ products R bs cs ++ map (R.◌⊗◌ b) cs
products_more R [] cs b = end (map (R.◌⊗◌ b) cs)
  where
    end : {X : Type 0} (xs : List X) → xs ++ [] ≡ xs
    end [] = refl
    end (x ∷ xs) = ap (λ ys. x ∷ ys) (end xs)
products_more R (a ∷ bs) cs b =
    ap (λ xs. map (R.◌⊗◌ a) cs ++ xs) (products_more R bs cs b)
    ∙ sym (append_assoc (map (R.◌⊗◌ a) cs) (products R bs cs) (map (R.◌⊗◌ b) cs))

module _ (k : CodeField) (p : PresValue) (ring : IsSubring (functions k p).ops (IsConstant (setting k p))) where
  -- 1 and the products of constants
  pub constant_one : (z : ElemValue) → function_of k p z ≡ (functions k p).𝟙
      → IsConstant (setting k p) (function_of k p z)
  constant_one z is = subst (IsConstant (setting k p)) (sym is) ring.one_in

  pub constant_product : (z a b : ElemValue)
      → function_of k p z ≡ (functions k p).◌⊗◌ (function_of k p a) (function_of k p b)
      → IsConstant (setting k p) (function_of k p a) → IsConstant (setting k p) (function_of k p b)
      → IsConstant (setting k p) (function_of k p z)
  constant_product z a b is a_in b_in =
      subst (IsConstant (setting k p)) (sym is)
      (ring.product_in (function_of k p a) (function_of k p b) a_in b_in)

module _ (k : CodeField) (p : PresValue) (zs : List ElemValue) where
  pub vectors_push : (gs : List (Functions k p)) (vs : List (List ℕ)) (g : Functions k p) (v : List ℕ)
      → AreVectorsOf k p zs gs vs → IsVector k.ops (length zs) v → function_at k p zs v ≡ g
      → AreVectorsOf k p zs (gs ++ g ∷ []) (vs ++ v ∷ [])
  vectors_push gs vs g v h vector is = record {
    in_range = all_push (IsVector k.ops (length zs)) vs v h.in_range vector;
    are = map_join (function_at k p zs) vs (v ∷ []) ∙ ap₂ (λ xs x. xs ++ x ∷ []) h.are is;
  }

  -- the products of a by one function more
  pub products_push : (a : Functions k p) (fs : List ElemValue) (i : ℕ) (b w : ElemValue) (old new : List (Vec ℕ))
      (v : Vec ℕ) (gs : List (Functions k p)) → i < length fs → b ≡ get_or fs i b → new ≡ old ++ v ∷ []
      → IsVector k.ops (length zs) v.items → function_at k p zs v.items ≡ function_of k p w
      → function_of k p w ≡ (functions k p).◌⊗◌ a (function_of k p b)
      → AreVectorsOf k p zs (gs ++ map ((functions k p).◌⊗◌ a) (map (function_of k p) (take i fs))) (elements_of old)
      → AreVectorsOf k p zs (gs ++ map ((functions k p).◌⊗◌ a) (map (function_of k p) (take (i + 1) fs)))
      (elements_of new)
  products_push a fs i b w old new v gs less b_is new_is vector is w_is h =
      subst (λ ws. AreVectorsOf k p zs (gs ++ map ((functions k p).◌⊗◌ a) (map (function_of k p) (take (i + 1) fs))) ws)
      (sym (map_join (λ (w : Vec ℕ). w.items) old (v ∷ [])) ∙ sym (ap elements_of new_is))
      (subst (λ hs. AreVectorsOf k p zs hs (elements_of old ++ v.items ∷ []))
      (append_assoc gs (map ((functions k p).◌⊗◌ a) (map (function_of k p) (take i fs)))
      ((functions k p).◌⊗◌ a (function_of k p b) ∷ [])
      ∙ ap (λ xs. gs ++ xs) (sym more))
      (vectors_push (gs ++ map ((functions k p).◌⊗◌ a) (map (function_of k p) (take i fs))) (elements_of old)
      ((functions k p).◌⊗◌ a (function_of k p b)) v.items h vector (is ∙ w_is)))
    where
      more : map ((functions k p).◌⊗◌ a) (map (function_of k p) (take (i + 1) fs))
          ≡ map ((functions k p).◌⊗◌ a) (map (function_of k p) (take i fs))
          ++ (functions k p).◌⊗◌ a (function_of k p b) ∷ []
      more =
          ap (λ xs. map ((functions k p).◌⊗◌ a) (map (function_of k p) xs)) (take_more fs i b less)
          ∙ ap (map ((functions k p).◌⊗◌ a)) (map_join (function_of k p) (take i fs) (get_or fs i b ∷ []))
          ∙ map_join ((functions k p).◌⊗◌ a) (map (function_of k p) (take i fs)) (function_of k p (get_or fs i b) ∷ [])
          ∙ ap (λ w. map ((functions k p).◌⊗◌ a) (map (function_of k p) (take i fs))
          ++ (functions k p).◌⊗◌ a (function_of k p w) ∷ []) (sym b_is)

  -- the products by all functions
  pub products_all : (a : Functions k p) (fs : List ElemValue) (i : ℕ) (gs : List (Functions k p)) (vs : List (List ℕ))
      → fs ≡ zs → length fs ≤ i
      → AreVectorsOf k p zs (gs ++ map ((functions k p).◌⊗◌ a) (map (function_of k p) (take i fs))) vs
      → AreVectorsOf k p zs (gs ++ map ((functions k p).◌⊗◌ a) (map (function_of k p) zs)) vs
  products_all a fs i gs vs fs_is l h =
      subst (λ xs. AreVectorsOf k p zs (gs ++ map ((functions k p).◌⊗◌ a) (map (function_of k p) xs)) vs)
      (take_all i fs l ∙ fs_is) h

  -- all products of the first functions and of one more
  pub table_more : (fs : List ElemValue) (i : ℕ) (a : ElemValue) (cs : List (Functions k p))
      → i < length fs → a ≡ get_or fs i a
      → products (functions k p).ops (map (function_of k p) (take (i + 1) fs)) cs
      ≡ products (functions k p).ops (map (function_of k p) (take i fs)) cs
      ++ map ((functions k p).◌⊗◌ (function_of k p a)) cs
  table_more fs i a cs less a_is =
      ap (λ xs. products (functions k p).ops (map (function_of k p) xs) cs) (take_more fs i a less)
      ∙ ap (λ xs. products (functions k p).ops xs cs) (map_join (function_of k p) (take i fs) (get_or fs i a ∷ []))
      ∙ products_more (functions k p).ops (map (function_of k p) (take i fs)) cs (function_of k p (get_or fs i a))
      ∙ ap (λ w. products (functions k p).ops (map (function_of k p) (take i fs)) cs
      ++ map ((functions k p).◌⊗◌ (function_of k p w)) cs) (sym a_is)

  -- the products of one function more by all
  pub table_step : (fs : List ElemValue) (i : ℕ) (a : ElemValue) (old new : List (List ℕ)) → i < length fs
      → a ≡ get_or fs i a
      → AreVectorsOf k p zs
      (products (functions k p).ops (map (function_of k p) (take i fs)) (map (function_of k p) zs)) old
      → ((gs : List (Functions k p)) → AreVectorsOf k p zs gs old
      → AreVectorsOf k p zs (gs ++ map ((functions k p).◌⊗◌ (function_of k p a)) (map (function_of k p) zs)) new)
      → AreVectorsOf k p zs
      (products (functions k p).ops (map (function_of k p) (take (i + 1) fs)) (map (function_of k p) zs)) new
  table_step fs i a old new less a_is h more =
      subst (λ gs. AreVectorsOf k p zs gs new) (sym (table_more fs i a (map (function_of k p) zs) less a_is)) (more _ h)

  -- the coordinates of 1 and of all products are a structure
  pub structure_is : (s : StructureValue) (unit : List ℕ) (table : List (List ℕ)) (one : ElemValue)
      → s ≡ record { one = unit; table = table } → IsVector k.ops (length zs) unit
      → function_at k p zs unit ≡ function_of k p one → function_of k p one ≡ (functions k p).𝟙
      → AreVectorsOf k p zs
      (products (functions k p).ops (map (function_of k p) zs) (map (function_of k p) zs)) table
      → IsStructureOf (equation_of k p) (map (function_of k p) zs) s
  structure_is s unit table one s_is vector is one_is h =
      subst (λ (t : StructureValue). IsStructureOf (equation_of k p) (map (function_of k p) zs) t) (sym s_is)
      (record {
        one_in = subst (λ n. IsVector k.ops n unit) (sym (length-map zs (function_of k p))) vector;
        one_is = is ∙ one_is;
        products_in =
            subst (λ n. All (IsVector k.ops n) table) (sym (length-map zs (function_of k p))) h.in_range;
        products_are = h.are;
      })
