-- What is gathered from the factors of a term, and from terms.
use Rattle.std.proofs.Common.{◌≡◌, ℕ, suc, ◌+◌, ◌<◌, ◌≤◌, Bool, true, false, cond, leb, List, [], ◌∷◌, ◌++◌, length, drop, get_or, All, Some, None, refl, sym, ap, ◌∙◌, subst, append_assoc, drop-cons, add-one, arith}
use Rattle.std.specs.Prelude.{find, nat_le, fold, sum_by}
use Rattle.std.proofs.lemmas.Bool.{lt-leb, leb-false}
use Rattle.std.proofs.Math.ListN.{drop_of_length-le}
use Rattle.std.proofs.lemmas.List.{append-nil}
use Rattle.std.proofs.lemmas.List.Sums.{sum_by-cons}
use Rattle.std.proofs.lemmas.List.Elements.{All-nil, All-cons, All-head, All-tail, All-push}
use Rattle.ff_fields.specs.Field.{FieldOps, CodeField}
use Rattle.ff_text.specs.declared.terms.Factor.{Factor}
use Rattle.ff_text.specs.declared.terms.Factor.TheVariants.{Code, X, Y}
use Rattle.ff_text.specs.declared.terms.Term.{Term}
use Rattle.ff_text.specs.declared.fault.TextFault.{TextFault}
use Rattle.ff_text.specs.declared.fault.TextFault.TheVariants.{Syntax, CodeRange, Memory}
use Rattle.ff_text.specs.Values.{codes_of, written_codes, exponent_of_x, exponent_of_y, triple_of, triples_of, IsCodeFault}

-- what is gathered before the i-th factor and what is left make the whole
pub record IsGathered (k : FieldOps) (items all : List Factor) (i code x y : ℕ) : Type 0 where
  pub items_are : items ≡ all
  pub in_range : code < k.size
  pub found : find (λ d. nat_le k.size d) (codes_of (drop i items)) ≡ find (λ d. nat_le k.size d) (codes_of all)
  pub product : fold k.mul code (codes_of (drop i items)) ≡ fold k.mul 1 (codes_of all)
  pub x_sum : x + sum_by exponent_of_x (drop i items) ≡ sum_by exponent_of_x all
  pub y_sum : y + sum_by exponent_of_y (drop i items) ≡ sum_by exponent_of_y all

next : (items : List Factor) (i : ℕ) (f : Factor) → i < length items → get_or items i (Code 0) ≡ f
    → drop i items ≡ f ∷ drop (i + 1) items
next items i f lt e = rw add-one (drop-cons items i (Code 0) lt ∙ ap (λ (h : Factor). h ∷ drop (suc i) items) e)

module _ (k : CodeField) where
  pub gathered_code : (items all : List Factor) (i code x y n : ℕ) → IsGathered k.ops items all i code x y
      → i < length items → get_or items i (Code 0) ≡ Code n → n < k.size
      → IsGathered k.ops items all (i + 1) (k.mul code n) x y
  gathered_code items all i code x y n g lt e small =
      let here = next items i (Code n) lt e in
      let fits : leb k.size n ≡ false = lt-leb k.size n small in
      record {
        items_are = g.items_are;
        in_range = k.laws.mul_below code n g.in_range small;
        found = sym (ap (λ b. cond b (Some n) (find (λ d. nat_le k.size d) (codes_of (drop (i + 1) items)))) fits)
            ∙ sym (ap (λ fs. find (λ d. nat_le k.size d) (codes_of fs)) here) ∙ g.found;
        product = sym (ap (λ fs. fold k.mul code (codes_of fs)) here) ∙ g.product;
        x_sum = ap (λ n. x + n) (sym (ap (sum_by exponent_of_x) here)) ∙ g.x_sum;
        y_sum = ap (λ n. y + n) (sym (ap (sum_by exponent_of_y) here)) ∙ g.y_sum;
      }

  pub gathered_x : (items all : List Factor) (i code x y n : ℕ) → IsGathered k.ops items all i code x y
      → i < length items → get_or items i (Code 0) ≡ X n → IsGathered k.ops items all (i + 1) code (x + n) y
  gathered_x items all i code x y n g lt e =
      let here = next items i (X n) lt e in
      let x_here : sum_by exponent_of_x (drop i items)
      ≡ n + sum_by exponent_of_x (drop (i + 1) items) = ap (sum_by exponent_of_x) here
      ∙ sum_by-cons exponent_of_x (X n) (drop (i + 1) items) in
      let y_here : sum_by exponent_of_y (drop i items)
      ≡ sum_by exponent_of_y (drop (i + 1) items) = ap (sum_by exponent_of_y) here in
      let x_was = g.x_sum in
      let y_was = g.y_sum in
      record {
        items_are = g.items_are;
        in_range = g.in_range;
        found = sym (ap (λ fs. find (λ d. nat_le k.size d) (codes_of fs)) here) ∙ g.found;
        product = sym (ap (λ fs. fold k.mul code (codes_of fs)) here) ∙ g.product;
        x_sum = omega arith;
        y_sum = omega arith;
      }

  pub gathered_y : (items all : List Factor) (i code x y n : ℕ) → IsGathered k.ops items all i code x y
      → i < length items → get_or items i (Code 0) ≡ Y n → IsGathered k.ops items all (i + 1) code x (y + n)
  gathered_y items all i code x y n g lt e =
      let here = next items i (Y n) lt e in
      let x_here : sum_by exponent_of_x (drop i items)
      ≡ sum_by exponent_of_x (drop (i + 1) items) = ap (sum_by exponent_of_x) here in
      let y_here : sum_by exponent_of_y (drop i items)
      ≡ n + sum_by exponent_of_y (drop (i + 1) items) = ap (sum_by exponent_of_y) here
      ∙ sum_by-cons exponent_of_y (Y n) (drop (i + 1) items) in
      let x_was = g.x_sum in
      let y_was = g.y_sum in
      record {
        items_are = g.items_are;
        in_range = g.in_range;
        found = sym (ap (λ fs. find (λ d. nat_le k.size d) (codes_of fs)) here) ∙ g.found;
        product = sym (ap (λ fs. fold k.mul code (codes_of fs)) here) ∙ g.product;
        x_sum = omega arith;
        y_sum = omega arith;
      }

-- where no large code is found, all are small
pub small_codes : (size : ℕ) (cs : List ℕ) → find (λ d. nat_le size d) cs ≡ None → All (λ c. c < size) cs
small_codes size [] e = All-nil (λ c. c < size)
small_codes size (c ∷ cs) e = go (leb size c) refl e (small_codes size cs)
  where
    go : (b : Bool) → leb size c ≡ b → cond b (Some c) (find (λ d. nat_le size d) cs) ≡ None
        → (find (λ d. nat_le size d) cs ≡ None → All (λ d. d < size) cs) → All (λ d. d < size) (c ∷ cs)
    go true is none again = absurd cc
    go false is none again = All-cons (λ d. d < size) c cs (leb-false size c is) (again none)

pub gathered_end : (k : FieldOps) (items all : List Factor) (i code x y : ℕ) → IsGathered k items all i code x y
    → length items ≤ i → All (λ c. c < k.size) (codes_of all)
gathered_end k items all i code x y g le =
    small_codes k.size (codes_of all) (sym g.found
    ∙ ap (λ fs. find (λ d. nat_le k.size d) (codes_of fs)) (drop_of_length-le items le))

-- a code is found in front, or behind codes that are small
pub found_front : (size : ℕ) (before after : List ℕ) (c : ℕ) → find (λ d. nat_le size d) before ≡ Some c
    → find (λ d. nat_le size d) (before ++ after) ≡ Some c
found_front size [] after c e = absurd cc
found_front size (b ∷ before) after c e = go (leb size b) e (found_front size before after c)
  where
    go : (t : Bool) → cond t (Some b) (find (λ d. nat_le size d) before) ≡ Some c
        → (find (λ d. nat_le size d) before ≡ Some c → find (λ d. nat_le size d) (before ++ after) ≡ Some c)
        → cond t (Some b) (find (λ d. nat_le size d) (before ++ after)) ≡ Some c
    go true is again = is
    go false is again = again is

pub found_behind : (size : ℕ) (before after : List ℕ) → All (λ c. c < size) before
    → find (λ d. nat_le size d) (before ++ after) ≡ find (λ d. nat_le size d) after
found_behind size [] after small = refl
found_behind size (b ∷ before) after small =
    ap (λ t. cond t (Some b) (find (λ d. nat_le size d) (before ++ after)))
    (lt-leb size b (All-head (λ c. c < size) b before small))
    ∙ found_behind size before after (All-tail (λ c. c < size) b before small)

next_term : (ts : List Term) (i : ℕ) (t : Term) → i < length ts → t ≡ get_or ts i t → drop i ts ≡ t ∷ drop (i + 1) ts
next_term ts i t lt e = rw add-one (drop-cons ts i t lt ∙ ap (λ (u : Term). u ∷ drop (suc i) ts) (sym e))

-- the next term has small codes
pub found_later : (size : ℕ) (ts : List Term) (i : ℕ) (t : Term) → i < length ts → t ≡ get_or ts i t
    → All (λ c. c < size) (codes_of t.factors)
    → find (λ d. nat_le size d) (written_codes (drop i ts))
    ≡ find (λ d. nat_le size d) (written_codes (drop (i + 1) ts))
found_later size ts i t lt e small =
    ap (λ us. find (λ d. nat_le size d) (written_codes us)) (next_term ts i t lt e)
    ∙ found_behind size (codes_of t.factors) (written_codes (drop (i + 1) ts)) small

-- the next term has a large code
pub found_now : (size : ℕ) (ts : List Term) (i : ℕ) (t : Term) (c : ℕ) → i < length ts → t ≡ get_or ts i t
    → find (λ d. nat_le size d) (codes_of t.factors) ≡ Some c
    → find (λ d. nat_le size d) (written_codes (drop i ts)) ≡ Some c
found_now size ts i t c lt e is =
    ap (λ us. find (λ d. nat_le size d) (written_codes us)) (next_term ts i t lt e)
    ∙ found_front size (codes_of t.factors) (written_codes (drop (i + 1) ts)) c is

-- what is listed of the terms before the i-th and what is left make the whole
pub record IsListed (k : FieldOps) (ts : List Term) (i : ℕ) (list : List (ℕ × ℕ × ℕ)) : Type 0 where
  pub found : find (λ d. nat_le k.size d) (written_codes (drop i ts)) ≡ find (λ d. nat_le k.size d) (written_codes ts)
  pub values : list ++ triples_of k (drop i ts) ≡ triples_of k ts
  pub in_range : All (λ t. t.2 < k.size) list

pub listed_none : (k : FieldOps) (ts : List Term) (i : ℕ) → i ≡ 0 → IsListed k ts i []
listed_none k ts i e = subst (λ (j : ℕ). IsListed k ts j []) (sym e)
    (record { found = refl; values = refl; in_range = All-nil (λ t. t.2 < k.size) })

pub listed_more : (k : FieldOps) (ts : List Term) (i : ℕ) (list more : List (ℕ × ℕ × ℕ)) (t : Term) (v : ℕ × ℕ × ℕ)
    → IsListed k ts i list → i < length ts → t ≡ get_or ts i t → All (λ c. c < k.size) (codes_of t.factors)
    → v ≡ triple_of k t → v.2 < k.size → more ≡ list ++ v ∷ [] → IsListed k ts (i + 1) more
listed_more k ts i list more t v l lt is small value fits pushed = record {
  found = sym (found_later k.size ts i t lt is small) ∙ l.found;
  values =
      ap (λ m. m ++ triples_of k (drop (i + 1) ts)) (pushed ∙ ap (λ (u : ℕ × ℕ × ℕ). list ++ u ∷ []) value)
      ∙ append_assoc list (triple_of k t ∷ []) (triples_of k (drop (i + 1) ts))
      ∙ ap (λ us. list ++ triples_of k us) (sym (next_term ts i t lt is))
      ∙ l.values;
  in_range = subst (All (λ t. t.2 < k.size)) (sym pushed) (All-push (λ t. t.2 < k.size) list v l.in_range fits);
}

pub listed_all : (k : FieldOps) (ts : List Term) (i : ℕ) (list : List (ℕ × ℕ × ℕ)) → IsListed k ts i list
    → length ts ≤ i → list ≡ triples_of k ts
listed_all k ts i list l le = sym (append-nil list) ∙ ap (λ us. list ++ triples_of k us) (sym (drop_of_length-le ts le))
    ∙ l.values

pub no_more : (size : ℕ) (ts : List Term) (i : ℕ) → length ts ≤ i
    → find (λ d. nat_le size d) (written_codes (drop i ts)) ≡ find (λ d. nat_le size d) (written_codes ts)
    → All (λ c. c < size) (written_codes ts)
no_more size ts i le found =
    small_codes size (written_codes ts) (sym found
    ∙ ap (λ us. find (λ d. nat_le size d) (written_codes us)) (drop_of_length-le ts le))

-- the fault of a term is that of all terms
pub fault_of_all : (size : ℕ) (ts : List Term) (i : ℕ) (t : Term) (e : TextFault) → i < length ts → t ≡ get_or ts i t
    → find (λ d. nat_le size d) (written_codes (drop i ts)) ≡ find (λ d. nat_le size d) (written_codes ts)
    → IsCodeFault size (codes_of t.factors) e → IsCodeFault size (written_codes ts) e
fault_of_all size ts i t (CodeRange c) lt is found h = sym found ∙ found_now size ts i t c lt is h
fault_of_all size ts i t (Syntax column) lt is found h = h
fault_of_all size ts i t Memory lt is found h = tt
