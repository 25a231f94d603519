-- Steps of the loops over slices of codes and of rows.
use Rattle.std.proofs.Common.{◌≡◌, ℕ, zero, suc, ◌+◌, ◌<◌, ◌≤◌, List, [], ◌∷◌, ◌++◌, length, get_or, take, drop, set, map, refl, ap, ap₂, ◌∙◌, arith, add-one}
use Rattle.std.proofs.lemmas.List.{take_all, drop_all, append-nil, length-map}
use Rattle.ring_lemmas.specs.Ring.{Operations}
use Rattle.ring_lemmas.specs.Lists.{scale_list}
use Rattle.ring_lemmas.proofs.Lists.{length_scale_list}

-- each position is multiplied
scaled_read : {A : Type 0} (r : Operations A) (c : A) (old : List A) (j : ℕ) (d : A) → j < length old
    → get_or (take j (scale_list r c old) ++ drop j old) j d ≡ get_or old j d
scaled_read r c [] j d less = absurd (omega arith)
scaled_read r c (o ∷ old) zero d less = refl
scaled_read r c (o ∷ old) (suc j) d less = scaled_read r c old j d (omega arith)

scaled_more : {A : Type 0} (r : Operations A) (c : A) (old : List A) (j : ℕ) (d : A) → j < length old
    → set (take j (scale_list r c old) ++ drop j old) j (r.◌⊗◌ c (get_or old j d))
    ≡ take (suc j) (scale_list r c old) ++ drop (suc j) old
scaled_more r c [] j d less = absurd (omega arith)
scaled_more r c (o ∷ old) zero d less = refl
scaled_more r c (o ∷ old) (suc j) d less = ap (λ w. r.◌⊗◌ c o ∷ w) (scaled_more r c old j d (omega arith))

pub scale_step : (r : Operations ℕ) (c : ℕ) (old now : List ℕ) (j x : ℕ)
    → now ≡ take j (scale_list r c old) ++ drop j old → j < length old → x ≡ r.◌⊗◌ c (get_or now j 0)
    → set now j x ≡ take (j + 1) (scale_list r c old) ++ drop (j + 1) old
scale_step r c old now j x now_is less x_is =
    let read = ap (λ w. get_or w j 0) now_is ∙ scaled_read r c old j 0 less in
    rw (x_is ∙ ap (r.◌⊗◌ c) read, now_is, add-one) (scaled_more r c old j 0 less)

pub scale_read : (r : Operations ℕ) (c : ℕ) (old now : List ℕ) (j : ℕ) → now ≡ take j (scale_list r c old) ++ drop j old
    → j < length old → get_or now j 0 ≡ get_or old j 0
scale_read r c old now j now_is less = ap (λ w. get_or w j 0) now_is ∙ scaled_read r c old j 0 less

pub scale_end : (r : Operations ℕ) (c : ℕ) (old now : List ℕ) (j : ℕ) → now ≡ take j (scale_list r c old) ++ drop j old
    → length old ≤ j → now ≡ scale_list r c old
scale_end r c old now j now_is le =
    now_is ∙ ap₂ (λ x y. x ++ y) (take_all j (scale_list r c old) (omega (arith, length_scale_list r c old)))
    (drop_all j old le) ∙ append-nil _

-- a function is applied to each member, one after another

pub mapped_read : {X : Type 0} (f : X → X) (old : List X) (j : ℕ) (d : X) → j < length old
    → get_or (take j (map f old) ++ drop j old) j d ≡ get_or old j d
mapped_read f [] j d less = absurd (omega arith)
mapped_read f (o ∷ old) zero d less = refl
mapped_read f (o ∷ old) (suc j) d less = mapped_read f old j d (omega arith)

mapped_set : {X : Type 0} (f : X → X) (old : List X) (j : ℕ) (d : X) → j < length old
    → set (take j (map f old) ++ drop j old) j (f (get_or old j d)) ≡ take (suc j) (map f old) ++ drop (suc j) old
mapped_set f [] j d less = absurd (omega arith)
mapped_set f (o ∷ old) zero d less = refl
mapped_set f (o ∷ old) (suc j) d less = ap (λ w. f o ∷ w) (mapped_set f old j d (omega arith))

pub mapped_step : {X : Type 0} (f : X → X) (old now : List X) (j : ℕ) (d x : X) → now ≡ take j (map f old) ++ drop j old
    → j < length old → x ≡ f (get_or now j d) → set now j x ≡ take (j + 1) (map f old) ++ drop (j + 1) old
mapped_step f old now j d x now_is less x_is =
    let read = ap (λ w. get_or w j d) now_is ∙ mapped_read f old j d less in
    rw (x_is ∙ ap f read, now_is, add-one) (mapped_set f old j d less)

pub mapped_end : {X : Type 0} (f : X → X) (old now : List X) (j : ℕ) → now ≡ take j (map f old) ++ drop j old
    → length old ≤ j → now ≡ map f old
mapped_end f old now j now_is le =
    now_is ∙ ap₂ (λ x y. x ++ y) (take_all j (map f old) (omega (arith, length-map old f))) (drop_all j old le)
    ∙ append-nil _
