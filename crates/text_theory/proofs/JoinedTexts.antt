-- Texts that are told by the bytes that don't stand in them.
use Rattle.std.proofs.Common.{◌≡◌, ◌≢◌, ℕ, Bool, true, false, List, [], ◌∷◌, ◌++◌, flat_map, All, refl, sym, ap₂, subst, ◌∙◌, append_assoc}
use Rattle.std.specs.List.{join_by}
use Rattle.std.proofs.lemmas.List.{append_cancel_left}
use Rattle.std.proofs.lemmas.List.Elements.{All-nil, All-head, All-tail, All-append}

-- each byte is one of the set
abbrev pub AllIn : (ℕ → Bool) → List ℕ → Type 0
AllIn set bytes = All (λ b. set b ≡ true) bytes

-- the first byte, if there is one, isn't one of the set
abbrev pub StartsOutside : (ℕ → Bool) → List ℕ → Type 0
StartsOutside set [] = Unit {0}
StartsOutside set (b ∷ bs) = set b ≡ false

pub same_parts : {A : Type 0} (x y : A) (xs ys : List A) → x ∷ xs ≡ y ∷ ys → (x ≡ y) × (xs ≡ ys)
same_parts x y xs ys e = (cc, cc)

not_both : (set : ℕ → Bool) (b : ℕ) (bs rest : List ℕ) → AllIn set (b ∷ bs) → StartsOutside set rest
    → (more : List ℕ) → rest ≡ b ∷ more → ⊥
not_both set b bs rest within out more e =
    let is_in : set b ≡ true = All-head (λ b. set b ≡ true) b bs within in
    let is_out : set b ≡ false = subst (StartsOutside set) e out in
    cc

-- the longest front of bytes in a set is told by the text
pub one_front : (set : ℕ → Bool) (a b r s : List ℕ) → AllIn set a → AllIn set b → StartsOutside set r
    → StartsOutside set s → a ++ r ≡ b ++ s → (a ≡ b) × (r ≡ s)
one_front set [] [] r s a_in b_in r_out s_out e = (refl, e)
one_front set [] (y ∷ ys) r s a_in b_in r_out s_out e = absurd (not_both set y ys r b_in r_out (ys ++ s) e)
one_front set (x ∷ xs) [] r s a_in b_in r_out s_out e = absurd (not_both set x xs s a_in s_out (xs ++ r) (sym e))
one_front set (x ∷ xs) (y ∷ ys) r s a_in b_in r_out s_out e =
    let P : ℕ → Type 0 = λ b. set b ≡ true in
    let parts = same_parts x y (xs ++ r) (ys ++ s) e in
    let one = one_front set xs ys r s (All-tail P x xs a_in) (All-tail P y ys b_in) r_out s_out parts.1 in
    (ap₂ (λ (c : ℕ) (cs : List ℕ). c ∷ cs) parts.0 one.0, one.1)

empty_front : (a b : List ℕ) → a ++ b ≡ [] → a ≡ []
empty_front [] b e = refl
empty_front (x ∷ xs) b e = absurd cc

-- pieces with texts of bytes in a set, and a separator that begins outside it
module _ {A : Type 0} (Q : A → Type 0) (f : A → List ℕ) (set : ℕ → Bool) (c : ℕ) (sep : List ℕ) where
  -- the texts, each behind the separator
  abbrev pub Behind : List A → List ℕ
  Behind xs = flat_map (λ y. (c ∷ sep) ++ f y) xs

  pub record AreTold : Type 0 where
    pub within : (x : A) → Q x → AllIn set (f x)
    pub some : (x : A) → Q x → f x ≢ []
    pub one : (x y : A) → Q x → Q y → f x ≡ f y → x ≡ y
    pub outside : set c ≡ false

  behind_outside : AreTold → (xs : List A) → StartsOutside set (Behind xs)
  behind_outside told [] = tt
  behind_outside told (x ∷ xs) = told.outside

  one_first : AreTold → (x y : A) (xs ys : List A) → Q x → Q y → (Behind xs ≡ Behind ys → xs ≡ ys)
      → f x ++ Behind xs ≡ f y ++ Behind ys → x ∷ xs ≡ y ∷ ys
  one_first told x y xs ys x_is y_is others e =
      let one = one_front set (f x) (f y) (Behind xs) (Behind ys) (told.within x x_is) (told.within y y_is)
      (behind_outside told xs) (behind_outside told ys) e in
      ap₂ (λ (z : A) (zs : List A). z ∷ zs) (told.one x y x_is y_is one.0) (others one.1)

  one_behind : AreTold → (xs ys : List A) → All Q xs → All Q ys → Behind xs ≡ Behind ys → xs ≡ ys
  one_behind told [] [] xs_are ys_are e = refl
  one_behind told [] (y ∷ ys) xs_are ys_are e = absurd cc
  one_behind told (x ∷ xs) [] xs_are ys_are e = absurd cc
  one_behind told (x ∷ xs) (y ∷ ys) xs_are ys_are e =
      let others = one_behind told xs ys (All-tail Q x xs xs_are) (All-tail Q y ys ys_are) in
      let texts = append_cancel_left (c ∷ sep) (f x ++ Behind xs) (f y ++ Behind ys)
      (sym (append_assoc (c ∷ sep) (f x) (Behind xs)) ∙ e ∙ append_assoc (c ∷ sep) (f y) (Behind ys)) in
      one_first told x y xs ys (All-head Q x xs xs_are) (All-head Q y ys ys_are) others texts

  nothing_joined : AreTold → (y : A) (ys : List A) → Q y → f y ++ Behind ys ≢ []
  nothing_joined told y ys is e = told.some y is (empty_front (f y) (Behind ys) e)

  -- joined texts without the separator's first byte are those of one list
  pub one_joined : AreTold → (xs ys : List A) → All Q xs → All Q ys
      → join_by f (c ∷ sep) xs ≡ join_by f (c ∷ sep) ys → xs ≡ ys
  one_joined told [] [] xs_are ys_are e = refl
  one_joined told [] (y ∷ ys) xs_are ys_are e = absurd (nothing_joined told y ys (All-head Q y ys ys_are) (sym e))
  one_joined told (x ∷ xs) [] xs_are ys_are e = absurd (nothing_joined told x xs (All-head Q x xs xs_are) e)
  one_joined told (x ∷ xs) (y ∷ ys) xs_are ys_are e =
      one_first told x y xs ys (All-head Q x xs xs_are) (All-head Q y ys ys_are)
      (one_behind told xs ys (All-tail Q x xs xs_are) (All-tail Q y ys ys_are)) e

  behind_in : ((x : A) → Q x → AllIn set (f x)) → AllIn set (c ∷ sep) → (xs : List A) → All Q xs → AllIn set (Behind xs)
  behind_in each sep_in [] are = All-nil (λ b. set b ≡ true)
  behind_in each sep_in (x ∷ xs) are =
      let P : ℕ → Type 0 = λ b. set b ≡ true in
      All-append P ((c ∷ sep) ++ f x) (Behind xs)
      (All-append P (c ∷ sep) (f x) sep_in (each x (All-head Q x xs are)))
      (behind_in each sep_in xs (All-tail Q x xs are))

  -- joined texts have the bytes of the pieces and of the separator
  pub joined_in : ((x : A) → Q x → AllIn set (f x)) → AllIn set (c ∷ sep) → (xs : List A) → All Q xs
      → AllIn set (join_by f (c ∷ sep) xs)
  joined_in each sep_in [] are = All-nil (λ b. set b ≡ true)
  joined_in each sep_in (x ∷ xs) are =
      All-append (λ b. set b ≡ true) (f x) (Behind xs) (each x (All-head Q x xs are))
      (behind_in each sep_in xs (All-tail Q x xs are))
