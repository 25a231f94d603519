-- Maps from names to places: which names they have, and what one more or a copy has.
use Rattle.std.proofs.Common.{◌≡◌, ℕ, ◌⊎◌, inl, inr, Bool, true, false, nat_eq, cond, List, [], ◌∷◌, ◌++◌, refl, sym, ap, ap₂, ◌∙◌, subst, true≢false, append_assoc}
use Rattle.std.specs.Prelude.{◌↔◌, is_some, Some}
use Rattle.std.specs.List.{IsDistinct, AllByRecursion}
use Rattle.std.specs.Global.{Vec}
use Rattle.std.specs.Map.{lookup, keys_of}
use Rattle.std.specs.Cmp.Lexicographic.{pointwise, bytes_decides}
use Rattle.std.proofs.lemmas.List.{map-append, append-nil}
use Rattle.indexmap.specs.IndexMap.{insert_entry}
use Rattle.prime_theory.proofs.Lists.{any_here, any_there, any_none, any_cases}
use Rattle.value_theory.specs.Primes.{PrimeValue}
use Rattle.ff_meaning.specs.Bindings.{NamedPlace, IsNameOf}
use Rattle.ff_session.specs.Names.{named_places}

abbrev Named : List ℕ → NamedPlace → Type 0
Named q P = P.name ≡ q

-- the key has these letters
abbrev pub test : List ℕ → Vec ℕ → Bool
test q v = pointwise nat_eq q v.items

abbrev pub eq : Vec ℕ → Vec ℕ → Bool
eq v w = pointwise nat_eq v.items w.items

-- ---- which names there are

pub found : (q : List ℕ) (es : List (Vec ℕ × PrimeValue))
    → (is_some (lookup (test q) es) ≡ true) ↔ IsNameOf q (named_places es)
found q [] = (λ e. absurd (true≢false (sym e)), λ h. absurd (any_none (Named q) h))
found q (e ∷ es) = go (test q e.0) refl (found q es)
  where
    go : (b : Bool) → test q e.0 ≡ b → (is_some (lookup (test q) es) ≡ true) ↔ IsNameOf q (named_places es)
        → (is_some (cond b (Some e.1) (lookup (test q) es)) ≡ true) ↔ IsNameOf q (named_places (e ∷ es))
    go true t more = (
      λ h. any_here (Named q) (record { name = e.0.items; place = e.1 }) (named_places es)
          (sym ((bytes_decides q e.0.items).0 t)),
      λ h. refl,
    )
    go false t more = (
      λ h. any_there (Named q) (record { name = e.0.items; place = e.1 }) (named_places es) (more.0 h),
      λ h. elim (any_cases (Named q) (record { name = e.0.items; place = e.1 }) (named_places es) h) [
        | inl n ↦ absurd (true≢false (sym ((bytes_decides q e.0.items).1 (sym n)) ∙ t))
        | inr n ↦ more.1 n
      ],
    )

-- ---- one more

inserted : (es : List (Vec ℕ × PrimeValue)) (v : Vec ℕ) (p : PrimeValue) → ¬ IsNameOf v.items (named_places es)
    → insert_entry eq es v p ≡ es ++ (v, p) ∷ []
inserted [] v p h = refl
inserted (e ∷ es) v p h =
    go (eq v e.0) refl (inserted es v p (λ n. h (any_there (Named v.items) here (named_places es) n)))
  where
    here : NamedPlace
    here = record { name = e.0.items; place = e.1 }

    go : (b : Bool) → eq v e.0 ≡ b → insert_entry eq es v p ≡ es ++ (v, p) ∷ []
        → cond b ((e.0, p) ∷ es) (e ∷ insert_entry eq es v p) ≡ e ∷ (es ++ (v, p) ∷ [])
    go true t more = absurd
        (h (any_here (Named v.items) here (named_places es) (sym ((bytes_decides v.items e.0.items).0 t))))
    go false t more = ap (λ l. e ∷ l) more

pub bound : (es more : List (Vec ℕ × PrimeValue)) (v : Vec ℕ) (p : PrimeValue) (Ps : List NamedPlace) (name : List ℕ)
    → named_places es ≡ Ps → v.items ≡ name → ¬ IsNameOf name Ps → more ≡ insert_entry eq es v p
    → named_places more ≡ Ps ++ record { name = name; place = p } ∷ []
bound es more v p Ps name es_is v_is free more_is =
    let free' : ¬ IsNameOf v.items (named_places es)
    = subst (λ n. ¬ IsNameOf n (named_places es)) (sym v_is) (subst (λ l. ¬ IsNameOf name l) (sym es_is) free) in
    ap named_places (more_is ∙ inserted es v p free')
    ∙ map-append (λ (e : Vec ℕ × PrimeValue). record { name = e.0.items; place = e.1 }) es ((v, p) ∷ [])
    ∙ ap₂ (λ l (n : List ℕ). l ++ record { name = n; place = p } ∷ []) es_is v_is

-- ---- distinct names

-- no name is one of those before it
abbrev pub AreDistinct : List NamedPlace → List NamedPlace → Type 0
AreDistinct seen [] = Unit {0}
AreDistinct seen (P ∷ Ps) = (¬ IsNameOf P.name seen) × AreDistinct (seen ++ P ∷ []) Ps

any_split : (q : List ℕ) (Ps Qs : List NamedPlace) → IsNameOf q (Ps ++ Qs) → IsNameOf q Ps ⊎ IsNameOf q Qs
any_split q [] Qs h = inr h
any_split q (P ∷ Ps) Qs h =
    elim (any_cases (Named q) P (Ps ++ Qs) h) [
      | inl n ↦ inl (any_here (Named q) P Ps n)
      | inr n ↦ elim (any_split q Ps Qs n) [
        | inl m ↦ inl (any_there (Named q) P Ps m)
        | inr m ↦ inr m
      ]
    ]

-- none of the keys is among the names
abbrev Apart : List NamedPlace → List (Vec ℕ × PrimeValue) → Type 0
Apart seen es = AllByRecursion (λ (e : Vec ℕ × PrimeValue). ¬ IsNameOf e.0.items seen) es

apart_more : (seen : List NamedPlace) (e : Vec ℕ × PrimeValue) (es : List (Vec ℕ × PrimeValue)) → Apart seen es
    → AllByRecursion (λ (w : Vec ℕ). eq e.0 w ≡ false) (keys_of es)
    → Apart (seen ++ record { name = e.0.items; place = e.1 } ∷ []) es
apart_more seen e [] h g = tt
apart_more seen e (d ∷ es) h g =
    let P : NamedPlace = record { name = e.0.items; place = e.1 } in (
      λ n. elim (any_split d.0.items seen (P ∷ []) n) [
        | inl m ↦ h.0 m
        | inr m ↦ elim (any_cases (Named d.0.items) P [] m) [
          | inl k ↦ true≢false (sym ((bytes_decides e.0.items d.0.items).1 k) ∙ g.0)
          | inr k ↦ any_none (Named d.0.items) k
        ]
      ],
      apart_more seen e es h.1 g.1,
    )

distinct_behind : (seen : List NamedPlace) (es : List (Vec ℕ × PrimeValue)) → Apart seen es → IsDistinct eq (keys_of es)
    → AreDistinct seen (named_places es)
unfolding IsDistinct
distinct_behind seen [] h g = tt
distinct_behind seen (e ∷ es) h g =
    (h.0, distinct_behind (seen ++ record { name = e.0.items; place = e.1 } ∷ []) es (apart_more seen e es h.1 g.0) g.1)

apart_none : (es : List (Vec ℕ × PrimeValue)) → Apart [] es
apart_none [] = tt
apart_none (e ∷ es) = (λ n. any_none (Named e.0.items) n, apart_none es)

-- ---- a copy

-- these are copied, and those are left
pub record IsCopied (all : List NamedPlace) (done left : List (Vec ℕ × PrimeValue)) : Type 0 where
  pub parts : named_places done ++ named_places left ≡ all
  pub distinct : AreDistinct (named_places done) (named_places left)

pub none_copied : (all : List NamedPlace) (es done left : List (Vec ℕ × PrimeValue)) → named_places es ≡ all
    → IsDistinct eq (keys_of es) → done ≡ [] → left ≡ es → IsCopied all done left
none_copied all es done left all_is unique none whole = rw (none, whole) (record {
  parts = all_is;
  distinct = distinct_behind [] es (apart_none es) unique;
})

pub one_copied : (all : List NamedPlace) (done more left rest : List (Vec ℕ × PrimeValue)) (x : Vec ℕ × PrimeValue)
    (v : Vec ℕ) (p : PrimeValue) → IsCopied all done left → left ≡ x ∷ rest → v.items ≡ x.0.items → p ≡ x.1
    → more ≡ insert_entry eq done v p → IsCopied all more rest
one_copied all done more left rest x v p h left_is v_is p_is more_is =
    let g = subst (IsCopied all done) left_is h in
    let P : NamedPlace = record { name = x.0.items; place = x.1 } in
    let one : named_places more ≡ named_places done ++ P ∷ []
    = bound done more v p (named_places done) x.0.items refl v_is g.distinct.0 more_is
    ∙ ap (λ (q : PrimeValue). named_places done ++ record { name = x.0.items; place = q } ∷ []) p_is in
    record {
      parts = ap (λ l. l ++ named_places rest) one ∙ append_assoc (named_places done) (P ∷ []) (named_places rest)
          ∙ g.parts;
      distinct = subst (λ l. AreDistinct l (named_places rest)) (sym one) g.distinct.1;
    }

pub all_copied : (all : List NamedPlace) (done left : List (Vec ℕ × PrimeValue)) → IsCopied all done left → left ≡ []
    → named_places done ≡ all
all_copied all done left h none =
    sym (append-nil (named_places done)) ∙ ap (λ l. named_places done ++ named_places l) (sym none) ∙ h.parts
