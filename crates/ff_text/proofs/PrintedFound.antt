-- Steps of a reading that may find nothing, and texts at the front of the bytes.
use Rattle.std.proofs.Common.{◌≡◌, ◌≢◌, ℕ, Bool, true, false, cond, eqb, List, [], ◌∷◌, ◌++◌, Option, Some, None, refl, sym, ap, ◌∙◌, append_assoc, ◌⊎◌, inl, inr}
use Rattle.std.specs.Prelude.{MatchOption}
use Rattle.std.specs.Option.{option_map_or}
use Rattle.std.specs.Borrow.{Bor}
use Rattle.std.proofs.lemmas.Bool.{eqb-true, eq-eqb}
use Rattle.ff_text.specs.PrintedReading.{◌>>=◌, Finds, with_front, with_first, after_text}

-- the value of a step that found one
pub bind_some : {A B : Type 0} (o : Option A) (f : A → Option B) (y : B) → (o >>= f) ≡ Some y
    → (x : A) × (o ≡ Some x) × (f x ≡ Some y)
bind_some (Some x) f y e = (x, refl, e)
bind_some None f y e = absurd cc

-- which of two ways found the value
pub choice_some : {A B : Type 0} (f : A → Option B) (o : Option A) (d : Option B) (y : B) → option_map_or f o d ≡ Some y
    → ((o ≡ None) × (d ≡ Some y)) ⊎ ((x : A) × (o ≡ Some x) × (f x ≡ Some y))
choice_some f (Some x) d y e = inr (x, refl, e)
choice_some f None d y e = inl (refl, e)

-- a test that held
pub guard_some : {A : Type 0} (b : Bool) (x y : A) → cond b (Some x) None ≡ Some y → (b ≡ true) × (x ≡ y)
guard_some true x y e = (refl, cc)
guard_some false x y e = absurd cc

-- a test that held, with a further step
pub test_some : {A : Type 0} (b : Bool) (o : Option A) (y : A) → cond b o None ≡ Some y → (b ≡ true) × (o ≡ Some y)
test_some true o y e = (refl, e)
test_some false o y e = absurd cc

abbrev pub found : {A : Type 0} → A → Option A
found x = Some x

pub some_is : {A : Type 0} (x y : A) → found x ≡ found y → x ≡ y
some_is x y e = cc

pub no_none : {A : Type 0} {x : A} → found x ≡ None → ⊥
no_none e = cc

-- ---- texts

pub text_takes : (text bytes rest : List ℕ) → after_text text bytes ≡ Some rest → bytes ≡ text ++ rest
unfolding after_text
text_takes [] bytes rest e = cc
text_takes (c ∷ cs) [] rest e = absurd cc
text_takes (c ∷ cs) (b ∷ bs) rest e =
    let g = test_some (eqb b c) (after_text cs bs) rest e in
    let head : b ≡ c = eqb-true b c g.0 in
    let tail : bs ≡ cs ++ rest = text_takes cs bs rest g.1 in
    cc

pub text_again : (text rest : List ℕ) → after_text text (text ++ rest) ≡ Some rest
unfolding after_text
text_again [] rest = refl
text_again (c ∷ cs) rest = rw (eq-eqb c c refl) (text_again cs rest)

-- what `strip_prefix` ensures
pub stripped : (text bytes : List ℕ) (r : Option (Bor (List ℕ)))
    → MatchOption r ((rest : List ℕ) → bytes ≢ text ++ rest) (λ x. bytes ≡ text ++ x.now)
    → Finds (λ x. x.now) r (after_text text bytes)
stripped text bytes (Some x) h = rw h (text_again text x.now)
stripped text bytes None h = nothing (after_text text bytes) refl
  where
    nothing : (o : Option (List ℕ)) → after_text text bytes ≡ o → o ≡ None
    nothing None e = refl
    nothing (Some rest) e = absurd (h rest (text_takes text bytes rest e))

-- two texts one after the other
pub then_takes : (a x b y c : List ℕ) → a ≡ x ++ b → b ≡ y ++ c → a ≡ (x ++ y) ++ c
then_takes a x b y c first second = first ∙ ap (λ (t : List ℕ). x ++ t) second ∙ sym (append_assoc x y c)

-- ---- what was read before

pub with_front_push : {X Y : Type 0} (front : List X) (x : X) (read : Option (List X × Y))
    → with_front (front ++ x ∷ []) read ≡ with_front front (with_first x read)
with_front_push front x (Some y) = ap (λ xs. Some (xs, y.1)) (append_assoc front (x ∷ []) y.0)
with_front_push front x None = refl
