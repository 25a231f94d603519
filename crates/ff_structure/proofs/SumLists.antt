-- Steps of the loop that appends sums to a list of vectors.
use Rattle.std.proofs.Common.{◌≡◌, ℕ, ◌+◌, ◌<◌, ◌≤◌, List, [], ◌∷◌, ◌++◌, length, get_or, take, map, All, sym, ap, ap₂, ◌∙◌, subst, arith, append_assoc, length-append}
use Rattle.std.specs.Global.{Vec}
use Rattle.std.proofs.lemmas.List.{length-map, get_or-map, map-append, map_more, take_all}
use Rattle.std.proofs.Math.ListN.{get_or-append}
use Rattle.ff_fields.specs.Field.{CodeField}
use Rattle.ff_falg.specs.Algebras.{IsVector}
use Rattle.ff_falg.specs.Idempotents.{elements_of}

-- a vector that is read
pub item_of : (vs : List (Vec ℕ)) (i : ℕ) (v : Vec ℕ) → i < length vs → v ≡ get_or vs i v
    → v.items ≡ get_or (elements_of vs) i []
item_of vs i v less e = ap (λ x. x.items) e ∙ sym (get_or-map (λ x. x.items) vs i v [] less)

-- there are as many or more vectors than at first
pub within_more : (vs : List (Vec ℕ)) (old more : List (List ℕ)) (i : ℕ) → elements_of vs ≡ old ++ more → i < length old
    → i < length vs
within_more vs old more i e less =
    let l : length vs ≡ length old + length more
    = sym (length-map vs (λ x. x.items)) ∙ ap length e ∙ length-append old more in
    omega arith

-- one of the first vectors, read after more are appended
pub old_item : (vs : List (Vec ℕ)) (old more : List (List ℕ)) (i : ℕ) (v : Vec ℕ) → elements_of vs ≡ old ++ more
    → i < length old → v ≡ get_or vs i v → v.items ≡ get_or old i []
old_item vs old more i v e less v_is =
    item_of vs i v (within_more vs old more i e less) v_is ∙ ap (λ xs. get_or xs i []) e
    ∙ get_or-append old more [] i less

-- one more value is appended
pub values_step : (f : List ℕ → List ℕ) (vs new : List (Vec ℕ)) (old : List (List ℕ)) (i : ℕ) (v x : Vec ℕ)
    → elements_of vs ≡ old ++ map f (take i old) → i < length old → v ≡ get_or vs i v → x.items ≡ f v.items
    → new ≡ vs ++ x ∷ [] → elements_of new ≡ old ++ map f (take (i + 1) old)
values_step f vs new old i v x e less v_is x_is new_is =
    ap elements_of new_is ∙ map-append (λ w. w.items) vs (x ∷ [])
    ∙ ap₂ (λ a b. a ++ b ∷ []) e (x_is ∙ ap f (old_item vs old (map f (take i old)) i v e less v_is))
    ∙ append_assoc old (map f (take i old)) (f (get_or old i []) ∷ [])
    ∙ ap (λ y. old ++ y) (sym (map_more f old i [] less))

-- a vector that is read has as many codes as all
pub vector_at : (k : CodeField) (n : ℕ) (vs : List (Vec ℕ)) (i : ℕ) (v : Vec ℕ) → i < length vs → v ≡ get_or vs i v
    → All (IsVector k.ops n) (elements_of vs) → IsVector k.ops n v.items
vector_at k n vs i v less v_is all =
    subst (IsVector k.ops n) (sym (item_of vs i v less v_is))
    (all i [] (subst (λ m. i < m) (sym (length-map vs (λ x. x.items))) less))

-- one of the first vectors, read after more are appended, has as many codes as all
pub old_vector : (k : CodeField) (n : ℕ) (vs first : List (Vec ℕ)) (more : List (List ℕ)) (i : ℕ) (v : Vec ℕ)
    → elements_of vs ≡ elements_of first ++ more → i < length first → v ≡ get_or vs i v
    → All (IsVector k.ops n) (elements_of first) → IsVector k.ops n v.items
old_vector k n vs first more i v e less v_is all =
    let l = subst (λ m. i < m) (sym (length-map first (λ x. x.items))) less in
    subst (IsVector k.ops n) (sym (old_item vs (elements_of first) more i v e l v_is)) (all i [] l)

-- all values are appended
pub values_end : (f : List ℕ → List ℕ) (first : List (Vec ℕ)) (i : ℕ) → length first ≤ i
    → elements_of first ++ map f (take i (elements_of first)) ≡ elements_of first ++ map f (elements_of first)
values_end f first i le =
    ap (λ xs. elements_of first ++ map f xs)
    (take_all i (elements_of first) (subst (λ m. m ≤ i) (sym (length-map first (λ x. x.items))) le))
