-- Texts one after another: blanks, marks and joined parts, with more behind them.
use Rattle.std.proofs.Common.{◌≡◌, ℕ, true, List, [], ◌∷◌, ◌++◌, refl, sym, ap, ◌∙◌, subst, append_assoc, ◌⊎◌, inl, inr}
use Rattle.std.proofs.lemmas.List.{append-nil}
use Rattle.ff_text.specs.Spelling.{Then, Is, is_blank, Blanks, Around, Each, Joined}

-- ---- one after another

pub then_of : {A B : List ℕ → Type 0} (a b : List ℕ) → A a → B b → Then A B (a ++ b)
then_of a b first second = record { front = a; back = b; first = first; second = second; whole = refl }

-- more behind the second
pub then_more : {A B C : List ℕ → Type 0} (g h : List ℕ) → Then A B g → ((b : List ℕ) → B b → C (b ++ h))
    → Then A C (g ++ h)
then_more g h t more = record {
  front = t.front;
  back = t.back ++ h;
  first = t.first;
  second = more t.back t.second;
  whole = ap (λ x. x ++ h) t.whole ∙ append_assoc t.front t.back h;
}

-- another second
pub then_map : {A B C : List ℕ → Type 0} (g : List ℕ) → Then A B g → ((b : List ℕ) → B b → C b) → Then A C g
then_map g t other = record {
  front = t.front;
  back = t.back;
  first = t.first;
  second = other t.back t.second;
  whole =
      t.whole;
}

-- another first
pub then_map_first : {A B C : List ℕ → Type 0} (g : List ℕ) → Then A C g → ((a : List ℕ) → A a → B a) → Then B C g
then_map_first g t other = record {
  front = t.front;
  back = t.back;
  first = other t.front t.first;
  second = t.second;
  whole = t.whole;
}

-- three in a row, grouped to the left and to the right
pub then_left : {A B C : List ℕ → Type 0} (g : List ℕ) → Then A (Then B C) g → Then (Then A B) C g
then_left g t =
    let s = t.second in
    record {
      front = t.front ++ s.front;
      back = s.back;
      first = then_of t.front s.front t.first s.first;
      second = s.second;
      whole = t.whole ∙ ap (λ x. t.front ++ x) s.whole ∙ sym (append_assoc t.front s.front s.back);
    }

pub then_right : {A B C : List ℕ → Type 0} (g : List ℕ) → Then (Then A B) C g → Then A (Then B C) g
then_right g t =
    let s = t.first in
    record {
      front = s.front;
      back = s.back ++ t.back;
      first = s.first;
      second = then_of s.back t.back s.second t.second;
      whole = t.whole ∙ ap (λ x. x ++ t.back) s.whole ∙ append_assoc s.front s.back t.back;
    }

-- nothing in front, and nothing behind
pub then_nothing : {A : List ℕ → Type 0} (g : List ℕ) → A g → Then A (Is []) g
then_nothing g a = record { front = g; back = []; first = a; second = refl; whole = sym (append-nil g) }

pub nothing_then : {A : List ℕ → Type 0} (g : List ℕ) → A g → Then (Is []) A g
nothing_then g a = record { front = []; back = g; first = refl; second = a; whole = refl }

pub from_nothing_then : {A : List ℕ → Type 0} (g : List ℕ) → Then (Is []) A g → A g
from_nothing_then {A = A} g t = subst A (sym (t.whole ∙ ap (λ x. x ++ t.back) t.first)) t.second

-- ---- blanks

pub blanks_append : (g h : List ℕ) → Blanks g → Blanks h → Blanks (g ++ h)
blanks_append [] h first second = second
blanks_append (b ∷ g) h first second = (first.0, blanks_append g h first.1 second)

pub blanks_one : (b : ℕ) → is_blank b ≡ true → Blanks (b ∷ [])
blanks_one b is = (is, tt)

pub blanks_push : (g : List ℕ) (b : ℕ) → is_blank b ≡ true → Blanks g → Blanks (g ++ b ∷ [])
blanks_push g b is all = blanks_append g (b ∷ []) all (blanks_one b is)

pub around_push : (mark g : List ℕ) (b : ℕ) → is_blank b ≡ true → Around mark g → Around mark (g ++ b ∷ [])
around_push mark g b is t = then_more g (b ∷ []) t (λ h u. then_more h (b ∷ []) u (λ e v. blanks_push e b is v))

-- a mark behind blanks
pub around_of : (mark g : List ℕ) → Blanks g → Around mark (g ++ mark)
around_of mark g all = then_of g mark all (then_nothing_blanks mark)
  where
    then_nothing_blanks : (m : List ℕ) → Then (Is m) Blanks m
    then_nothing_blanks m = record { front = m; back = []; first = refl; second = tt; whole = sym (append-nil m) }

-- no blanks behind
pub then_blanks : {A : List ℕ → Type 0} (g : List ℕ) → A g → Then A Blanks g
then_blanks g a = record { front = g; back = []; first = a; second = tt; whole = sym (append-nil g) }

-- ---- joined parts

pub each_push : {V : Type 0} (Part : V → List ℕ → Type 0) (vs : List V) (v : V) (g h : List ℕ) → Each Part vs g
    → Part v h → Each Part (vs ++ v ∷ []) (g ++ h)
each_push Part [] v g h e p = subst (Then (Part v) (Is [])) (sym (ap (λ x. x ++ h) e)) (then_nothing h p)
each_push Part (w ∷ vs) v g h e p = then_more g h e (λ b all. each_push Part vs v b h all p)

-- parts so far, and the mark behind them; or nothing
abbrev pub JoinedFront : {V : Type 0} → List ℕ → (V → List ℕ → Type 0) → List V → List ℕ → Type 0
JoinedFront mark Part vs g = ((vs ≡ []) × (g ≡ [])) ⊎ Then (Joined mark Part vs) (Around mark) g

pub joined_push : {V : Type 0} (mark : List ℕ) (Part : V → List ℕ → Type 0) (vs : List V) (v : V) (g h : List ℕ)
    → JoinedFront mark Part vs g → Part v h → Joined mark Part (vs ++ v ∷ []) (g ++ h)
joined_push mark Part [] v g h (inl none) p = subst (Then (Part v) (Is [])) (sym (ap (λ x. x ++ h) none.1))
    (then_nothing h p)
joined_push mark Part [] v g h (inr some) p = absurd some.first
joined_push mark Part (w ∷ vs) v g h (inl none) p = absurd (let e = none.0 in cc)
joined_push mark Part (w ∷ vs) v g h (inr some) p =
    then_more g h (then_right g some) (λ b rest.
    subst (Each (λ u. Then (Around mark) (Part u)) (vs ++ v ∷ []))
    (sym (ap (λ x. x ++ h) rest.whole ∙ append_assoc rest.front rest.back h))
    (each_push (λ u. Then (Around mark) (Part u)) vs v rest.front (rest.back ++ h) rest.first
    (then_of rest.back h rest.second p)))
