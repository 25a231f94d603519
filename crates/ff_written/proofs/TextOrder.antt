-- The order of texts and that of lists of texts, by the first difference.
use Rattle.std.proofs.Common.{◌≡◌, ◌≢◌, ℕ, zero, suc, ◌+◌, ◌<◌, ◌≤◌, ◌↔◌, ◌⊎◌, inl, inr, IsTrue, true, false, nat_lt, min, List, [], ◌∷◌, length, get_or, drop, refl, sym, ap, ◌∙◌, subst, arith, add-one}
use Rattle.std.proofs.Math.Seq.{drop-cons}
use Rattle.std.proofs.lemmas.List.{drop_all, get_or_default}
use Rattle.std.proofs.lemmas.Bool.{ltb-true, lt-ltb, cases_lt}
use Rattle.ff_written.specs.TextOrder.{IsBeforeText, IsBeforeTexts}

-- ---- lists by the first difference, for any order of their members

module _ {X : Type 0} (B : X → X → Type 0) where
  abbrev pub Lex : List X → List X → Type 0
  Lex [] [] = ⊥
  Lex [] (y ∷ ys) = Unit {0}
  Lex (x ∷ xs) [] = ⊥
  Lex (x ∷ xs) (y ∷ ys) = B x y ⊎ ((x ≡ y) × Lex xs ys)

  module _ (irreflexive : (x y : X) → x ≡ y → ¬ B x y) where
    pub lex_irreflexive : (xs ys : List X) → xs ≡ ys → ¬ Lex xs ys
    lex_irreflexive [] [] e b = b
    lex_irreflexive [] (y ∷ ys) e b = absurd (cc)
    lex_irreflexive (x ∷ xs) [] e b = b
    lex_irreflexive (x ∷ xs) (y ∷ ys) e (inl b) = irreflexive x y (cc) b
    lex_irreflexive (x ∷ xs) (y ∷ ys) e (inr b) = lex_irreflexive xs ys (ap (drop 1) e) b.1

  module _ (transitive : (x y z : X) → B x y → B y z → B x z) where
    pub lex_transitive : (xs ys zs : List X) → Lex xs ys → Lex ys zs → Lex xs zs
    lex_transitive [] [] zs b c = absurd b
    lex_transitive [] (y ∷ ys) [] b c = absurd c
    lex_transitive [] (y ∷ ys) (z ∷ zs) b c = tt
    lex_transitive (x ∷ xs) [] zs b c = absurd b
    lex_transitive (x ∷ xs) (y ∷ ys) [] b c = absurd c
    lex_transitive (x ∷ xs) (y ∷ ys) (z ∷ zs) (inl b) (inl c) = inl (transitive x y z b c)
    lex_transitive (x ∷ xs) (y ∷ ys) (z ∷ zs) (inl b) (inr c) = inl (subst (B x) c.0 b)
    lex_transitive (x ∷ xs) (y ∷ ys) (z ∷ zs) (inr b) (inl c) = inl (subst (λ w. B w z) (sym b.0) c)
    lex_transitive (x ∷ xs) (y ∷ ys) (z ∷ zs) (inr b) (inr c) = inr (b.0 ∙ c.0, lex_transitive xs ys zs b.1 c.1)

  module _ (total : (x y : X) → ¬ B x y → ¬ B y x → x ≡ y) where
    pub lex_total : (xs ys : List X) → ¬ Lex xs ys → ¬ Lex ys xs → xs ≡ ys
    lex_total [] [] n m = refl
    lex_total [] (y ∷ ys) n m = absurd (n tt)
    lex_total (x ∷ xs) [] n m = absurd (m tt)
    lex_total (x ∷ xs) (y ∷ ys) n m =
        let e : x ≡ y = total x y (λ b. n (inl b)) (λ b. m (inl b)) in
        let f : xs ≡ ys = lex_total xs ys (λ b. n (inr (e, b))) (λ b. m (inr (sym e, b))) in
        cc

  -- ---- where lists agree up to a position, what is behind decides

  module _ (irreflexive : (x y : X) → x ≡ y → ¬ B x y) (transitive : (x y z : X) → B x y → B y z → B x z)
      (xs ys : List X) (i : ℕ) (P : Type 0) (so_far : Lex (drop i xs) (drop i ys) ↔ P) where
    module _ (x y : X) (x_at : drop i xs ≡ x ∷ drop (i + 1) xs) (y_at : drop i ys ≡ y ∷ drop (i + 1) ys) where
      here : Lex (x ∷ drop (i + 1) xs) (y ∷ drop (i + 1) ys) ↔ P
      here = subst (λ zs. Lex zs (y ∷ drop (i + 1) ys) ↔ P) x_at (subst (λ zs. Lex (drop i xs) zs ↔ P) y_at so_far)

      pub lex_more : x ≡ y → Lex (drop (i + 1) xs) (drop (i + 1) ys) ↔ P
      lex_more e = (λ b. here.0 (inr (e, b)), λ p. behind (here.1 p))
        where
          behind : Lex (x ∷ drop (i + 1) xs) (y ∷ drop (i + 1) ys) → Lex (drop (i + 1) xs) (drop (i + 1) ys)
          behind (inl b) = absurd (irreflexive x y e b)
          behind (inr b) = b.1

      pub lex_before : B x y → P
      lex_before b = here.0 (inl b)

      pub lex_after : B y x → ¬ P
      lex_after c p = none (here.1 p)
        where
          none : ¬ Lex (x ∷ drop (i + 1) xs) (y ∷ drop (i + 1) ys)
          none (inl b) = irreflexive x x refl (transitive x y x b c)
          none (inr b) = irreflexive y x (sym b.0) c

    -- at the end of the shorter list it comes before the longer one
    pub lex_end : i ≡ min (length xs) (length ys) → (length xs < length ys) ↔ P
    lex_end i_is = (
      λ l. so_far.0 (shorter (drop i xs) (drop i ys) (drop_all i xs (omega arith)) (some_left ys i (omega arith))),
      λ p. longer (cases_lt (length xs) (length ys)) (so_far.1 p),
    )
      where
        some_left : (zs : List X) (n : ℕ) → n < length zs → ¬ (drop n zs ≡ [])
        some_left [] n l e = omega arith
        some_left (z ∷ zs) zero l e = cc
        some_left (z ∷ zs) (suc n) l e = some_left zs n (omega arith) e

        shorter : (us vs : List X) → us ≡ [] → ¬ (vs ≡ []) → Lex us vs
        shorter [] [] e some = absurd (some refl)
        shorter [] (v ∷ vs) e some = tt
        shorter (u ∷ us) vs e some = absurd (cc)

        none : (us vs : List X) → vs ≡ [] → ¬ Lex us vs
        none [] [] e b = b
        none [] (v ∷ vs) e b = cc
        none (u ∷ us) [] e b = b
        none (u ∷ us) (v ∷ vs) e b = cc

        longer : (length xs < length ys) ⊎ (length ys ≤ length xs) → Lex (drop i xs) (drop i ys) → length xs < length ys
        longer (inl l) b = l
        longer (inr l) b = absurd (none (drop i xs) (drop i ys) (drop_all i ys (omega arith)) b)

-- ---- texts

below_is : (x y : ℕ) → x ≡ y → ¬ (x < y)
below_is x y e l = omega arith

below_below : (x y z : ℕ) → x < y → y < z → x < z
below_below x y z l m = omega arith

below_total : (x y : ℕ) → ¬ (x < y) → ¬ (y < x) → x ≡ y
below_total x y n m = omega arith

text_lex : (a b : List ℕ) → IsBeforeText a b ↔ Lex ◌<◌ a b
text_lex [] [] = (λ h. h, λ h. h)
text_lex [] (y ∷ b) = (λ h. h, λ h. h)
text_lex (x ∷ a) [] = (λ h. h, λ h. h)
text_lex (x ∷ a) (y ∷ b) = (to (text_lex a b).0, from (text_lex a b).1)
  where
    to : (IsBeforeText a b → Lex ◌<◌ a b) → IsBeforeText (x ∷ a) (y ∷ b) → Lex ◌<◌ (x ∷ a) (y ∷ b)
    to f (inl l) = inl l
    to f (inr h) = inr (h.0, f h.1)

    from : (Lex ◌<◌ a b → IsBeforeText a b) → Lex ◌<◌ (x ∷ a) (y ∷ b) → IsBeforeText (x ∷ a) (y ∷ b)
    from f (inl l) = inl l
    from f (inr h) = inr (h.0, f h.1)

pub text_irreflexive : (a b : List ℕ) → a ≡ b → ¬ IsBeforeText a b
text_irreflexive a b e h = lex_irreflexive ◌<◌ below_is a b e ((text_lex a b).0 h)

pub text_transitive : (a b c : List ℕ) → IsBeforeText a b → IsBeforeText b c → IsBeforeText a c
text_transitive a b c h g =
    (text_lex a c).1 (lex_transitive ◌<◌ below_below a b c ((text_lex a b).0 h) ((text_lex b c).0 g))

pub text_total : (a b : List ℕ) → ¬ IsBeforeText a b → ¬ IsBeforeText b a → a ≡ b
text_total a b n m = lex_total ◌<◌ below_total a b (λ h. n ((text_lex a b).1 h)) (λ h. m ((text_lex b a).1 h))

-- ---- lists of texts

texts_lex : (a b : List (List ℕ)) → IsBeforeTexts a b ↔ Lex IsBeforeText a b
texts_lex [] [] = (λ h. h, λ h. h)
texts_lex [] (y ∷ b) = (λ h. h, λ h. h)
texts_lex (x ∷ a) [] = (λ h. h, λ h. h)
texts_lex (x ∷ a) (y ∷ b) = (to (texts_lex a b).0, from (texts_lex a b).1)
  where
    to : (IsBeforeTexts a b → Lex IsBeforeText a b) → IsBeforeTexts (x ∷ a) (y ∷ b) → Lex IsBeforeText (x ∷ a) (y ∷ b)
    to f (inl l) = inl l
    to f (inr h) = inr (h.0, f h.1)

    from : (Lex IsBeforeText a b → IsBeforeTexts a b) → Lex IsBeforeText (x ∷ a) (y ∷ b) → IsBeforeTexts (x ∷ a) (y ∷ b)
    from f (inl l) = inl l
    from f (inr h) = inr (h.0, f h.1)

pub texts_irreflexive : (a b : List (List ℕ)) → a ≡ b → ¬ IsBeforeTexts a b
texts_irreflexive a b e h = lex_irreflexive IsBeforeText text_irreflexive a b e ((texts_lex a b).0 h)

pub texts_transitive : (a b c : List (List ℕ)) → IsBeforeTexts a b → IsBeforeTexts b c → IsBeforeTexts a c
texts_transitive a b c h g =
    (texts_lex a c).1 (lex_transitive IsBeforeText text_transitive a b c ((texts_lex a b).0 h) ((texts_lex b c).0 g))

-- ---- the loops

-- the texts are the same up to a position
pub text_start : (a b : List ℕ) → Lex ◌<◌ (drop 0 a) (drop 0 b) ↔ IsBeforeText a b
text_start a b = let t = text_lex a b in (t.1, t.0)

pub texts_start : (a b : List (List ℕ)) → Lex IsBeforeText (drop 0 a) (drop 0 b) ↔ IsBeforeTexts a b
texts_start a b = let t = texts_lex a b in (t.1, t.0)

-- an element and what is behind it
pub drop_at : {X : Type 0} (xs : List X) (i : ℕ) (x : X) → i < length xs → x ≡ get_or xs i x
    → drop i xs ≡ x ∷ drop (i + 1) xs
drop_at xs i x l e =
    drop-cons xs i x l ∙ ap (λ y. y ∷ drop (suc i) xs) (sym e) ∙ ap (λ n. x ∷ drop n xs) (sym (add-one i))

pub same_at : {X : Type 0} (xs : List X) (i : ℕ) (x y : X) → i < length xs → x ≡ get_or xs i x → y ≡ get_or xs i y
    → x ≡ y
same_at xs i x y l e f = e ∙ get_or_default xs i x y l ∙ sym f

pub not_so : IsTrue false → ⊥
not_so t = cc

module _ (a b : List ℕ) (i : ℕ) (so_far : Lex ◌<◌ (drop i a) (drop i b) ↔ IsBeforeText a b) where
  module _ (x y : ℕ) (x_at : drop i a ≡ x ∷ drop (i + 1) a) (y_at : drop i b ≡ y ∷ drop (i + 1) b) where
    pub text_more : x ≡ y → Lex ◌<◌ (drop (i + 1) a) (drop (i + 1) b) ↔ IsBeforeText a b
    text_more = lex_more ◌<◌ below_is below_below a b i (IsBeforeText a b) so_far x y x_at y_at

    pub text_differs : x ≢ y → IsTrue (nat_lt x y) ↔ IsBeforeText a b
    text_differs ne = (
      λ t. lex_before ◌<◌ below_is below_below a b i (IsBeforeText a b) so_far x y x_at y_at (ltb-true x y t),
      λ h. lt-ltb x y (go (cases_lt x y) h),
    )
      where
        go : (x < y) ⊎ (y ≤ x) → IsBeforeText a b → x < y
        go (inl l) h = l
        go (inr l) h =
            absurd (lex_after ◌<◌ below_is below_below a b i (IsBeforeText a b) so_far x y x_at y_at (omega arith) h)

  pub text_end : i ≡ min (length a) (length b) → IsTrue (nat_lt (length a) (length b)) ↔ IsBeforeText a b
  text_end e =
      let r = lex_end ◌<◌ below_is below_below a b i (IsBeforeText a b) so_far e in (
        λ t. r.0 (ltb-true (length a) (length b) t),
        λ h. lt-ltb (length a) (length b) (r.1 h),
      )

module _ (a b : List (List ℕ)) (i : ℕ) (so_far : Lex IsBeforeText (drop i a) (drop i b) ↔ IsBeforeTexts a b) where
  module _ (x y : List ℕ) (x_at : drop i a ≡ x ∷ drop (i + 1) a) (y_at : drop i b ≡ y ∷ drop (i + 1) b) where
    pub texts_more : ¬ IsBeforeText x y → ¬ IsBeforeText y x
        → Lex IsBeforeText (drop (i + 1) a) (drop (i + 1) b) ↔ IsBeforeTexts a b
    texts_more n m =
        lex_more IsBeforeText text_irreflexive text_transitive a b i (IsBeforeTexts a b) so_far x y x_at y_at
        (text_total x y n m)

    pub texts_before : IsBeforeText x y → IsTrue true ↔ IsBeforeTexts a b
    texts_before h = (
      λ t. lex_before IsBeforeText text_irreflexive text_transitive a b i (IsBeforeTexts a b) so_far x y x_at y_at h,
      λ p. refl,
    )

    pub texts_after : IsBeforeText y x → IsTrue false ↔ IsBeforeTexts a b
    texts_after h = (
      λ t. absurd (cc),
      λ p. absurd
          (lex_after IsBeforeText text_irreflexive text_transitive a b i (IsBeforeTexts a b) so_far x y x_at y_at h p),
    )

  pub texts_end : i ≡ min (length a) (length b) → IsTrue (nat_lt (length a) (length b)) ↔ IsBeforeTexts a b
  texts_end e =
      let r = lex_end IsBeforeText text_irreflexive text_transitive a b i (IsBeforeTexts a b) so_far e in (
        λ t. r.0 (ltb-true (length a) (length b) t),
        λ h. lt-ltb (length a) (length b) (r.1 h),
      )
