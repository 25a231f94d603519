-- A divisor from its values: an integer at each place, the same at the same places, and 0 at all places outside a
-- list. So each two divisors have a difference.
use Rattle.std.proofs.Common.{◌≡◌, ◌⊎◌, inl, inr, List, [], ◌∷◌, ◌++◌, All, refl, sym, ◌∙◌, ap₂, subst, arith}
use Rattle.std.specs.List.{Any}
use Rattle.std.proofs.lemmas.List.Elements.{All-nil, All-cons, All-head, All-tail}
use Rattle.std.proofs.lemmas.List.Kept.{AllPairs-cons}
use Rattle.std.proofs.lemmas.Int.{ints}
use Rattle.std.proofs.Math.IntN.{ℤ, pos, ◌-ℤ◌}
use Rattle.prime_theory.proofs.Lists.{any_here, any_there, any_none, any_cases, any_weaker, any_left, any_right}
use Rattle.ff_fields.specs.Field.{CodeField}
use Rattle.function_field.specs.Places.{Place, IsPlace, IsSamePlace}
use Rattle.function_field.specs.Divisors.{Entry, Divisor, IsDivisor, HasMultiplicity}
use Rattle.function_field.specs.Functions.{Equation, FunctionOf, setting_of}
use Rattle.places_theory.proofs.Multiplicities.{multiplicity_unique, multiplicity_same, multiplicity_elsewhere}
use Rattle.places_theory.proofs.SamePlaces.{same_place_refl, same_place_sym, same_place_trans}
use Rattle.divisor_theory.specs.Parts.{IsDifference}
use Rattle.divisor_theory.proofs.Differences.{places_same_decided, multiplicity_at}

module _ {k : CodeField} (c : Equation k) where
  -- a place, as an index
  abbrev pub Placed : Type 0
  Placed = (P : Place (FunctionOf c)) × IsPlace (setting_of c) P

  abbrev Same : Place (FunctionOf c) → Place (FunctionOf c) → Type 0
  Same = IsSamePlace (setting_of c)

  -- the places of a divisor: at all others its multiplicity is 0
  pub places_of : (D : Divisor (FunctionOf c)) → All (λ e. IsPlace (setting_of c) e.place) D → List Placed
  places_of [] h = []
  places_of (e ∷ D) h =
      (e.place, All-head (λ e. IsPlace (setting_of c) e.place) e D h) ∷ places_of D
      (All-tail (λ e. IsPlace (setting_of c) e.place) e D h)

  pub places_cover : (D : Divisor (FunctionOf c)) (h : All (λ e. IsPlace (setting_of c) e.place) D)
      (P : Place (FunctionOf c)) → IsPlace (setting_of c) P
      → HasMultiplicity (setting_of c) D P (pos 0) ⊎ Any (λ Q. IsSamePlace (setting_of c) Q.0 P) (places_of D h)
  unfolding places_of
  places_cover [] h P place = inl refl
  places_cover (e ∷ D) h P place = go (places_same_decided c P e.place place p) (places_cover D rest P place)
    where
      p : IsPlace (setting_of c) e.place
      p = All-head (λ e. IsPlace (setting_of c) e.place) e D h

      rest : All (λ e. IsPlace (setting_of c) e.place) D
      rest = All-tail (λ e. IsPlace (setting_of c) e.place) e D h

      go : Dec (Same P e.place) → HasMultiplicity (setting_of c) D P (pos 0) ⊎ Any (λ Q. Same Q.0 P) (places_of D rest)
          → HasMultiplicity (setting_of c) (e ∷ D) P (pos 0) ⊎ Any (λ Q. Same Q.0 P) ((e.place, p) ∷ places_of D rest)
      go (yes t) r =
          inr (any_here (λ Q. Same Q.0 P) (e.place, p) (places_of D rest) (same_place_sym (setting_of c) P e.place t))
      go (no n) (inl m) = inl (inr (n, m))
      go (no n) (inr a) = inr (any_there (λ Q. Same Q.0 P) (e.place, p) (places_of D rest) a)

  module _ (value : (P : Place (FunctionOf c)) → IsPlace (setting_of c) P → ℤ)
      (same : (P Q : Place (FunctionOf c)) (h : IsPlace (setting_of c) P) (i : IsPlace (setting_of c) Q)
      → IsSamePlace (setting_of c) P Q → value P h ≡ value Q i) where
    -- the listed places, each once, with their values
    record Listed (ps : List Placed) : Type 0 where
      divisor : Divisor (FunctionOf c)
      is : IsDivisor (setting_of c) divisor
      values : All (λ e. (h : IsPlace (setting_of c) e.place) → value e.place h ≡ e.times) divisor
      covers : (P : Place (FunctionOf c)) → Any (λ Q. Same Q.0 P) ps → Any (λ e. Same e.place P) divisor

    find : (P : Place (FunctionOf c)) → IsPlace (setting_of c) P → (D : Divisor (FunctionOf c))
        → All (λ e. IsPlace (setting_of c) e.place) D
        → Any (λ e. Same e.place P) D ⊎ All (λ e. ¬ Same P e.place) D
    find P place [] h = inr (All-nil (λ e. ¬ Same P e.place))
    find P place (e ∷ D) h =
        go (places_same_decided c P e.place place (All-head (λ e. IsPlace (setting_of c) e.place) e D h))
        (find P place D (All-tail (λ e. IsPlace (setting_of c) e.place) e D h))
      where
        go : Dec (Same P e.place) → Any (λ e. Same e.place P) D ⊎ All (λ e. ¬ Same P e.place) D
            → Any (λ e. Same e.place P) (e ∷ D) ⊎ All (λ e. ¬ Same P e.place) (e ∷ D)
        go (yes t) r = inl (any_here (λ e. Same e.place P) e D (same_place_sym (setting_of c) P e.place t))
        go (no n) (inl r) = inl (any_there (λ e. Same e.place P) e D r)
        go (no n) (inr r) = inr (All-cons (λ e. ¬ Same P e.place) e D n r)

    list : (ps : List Placed) → Listed ps
    list [] = record {
      divisor = [];
      is = record {
        places = All-nil (λ e. IsPlace (setting_of c) e.place);
        different = λ i j d l m. absurd (omega arith);
      };
      values = All-nil (λ e. (h : IsPlace (setting_of c) e.place) → value e.place h ≡ e.times);
      covers = λ P a. absurd (any_none (λ Q. Same Q.0 P) a);
    }
    list (Q ∷ ps) = by (list ps)
      where
        go : (t : Listed ps) → Any (λ e. Same e.place Q.0) t.divisor ⊎ All (λ e. ¬ Same Q.0 e.place) t.divisor
            → Listed (Q ∷ ps)
        go t (inl a) = record {
          divisor = t.divisor;
          is = t.is;
          values = t.values;
          covers = λ P h.
              elim (any_cases (λ Q. Same Q.0 P) Q ps h) [
                | inl r ↦ any_weaker (λ e. Same e.place Q.0) (λ e. Same e.place P)
                    (λ e u. same_place_trans (setting_of c) e.place Q.0 P u r) t.divisor a
                | inr r ↦ t.covers P r
              ];
        }
        go t (inr n) =
            let e : Entry (FunctionOf c) = record { place = Q.0; times = value Q.0 Q.1 } in
            record {
              divisor = e ∷ t.divisor;
              is = record {
                places = All-cons (λ e. IsPlace (setting_of c) e.place) e t.divisor Q.1 t.is.places;
                different = AllPairs-cons (λ e e'. ¬ Same e.place e'.place) e t.divisor n t.is.different;
              };
              values =
                  All-cons (λ e. (h : IsPlace (setting_of c) e.place) → value e.place h ≡ e.times) e t.divisor
                  (λ h. same Q.0 Q.0 h Q.1 (same_place_refl (setting_of c) Q.0)) t.values;
              covers = λ P h.
                  elim (any_cases (λ Q. Same Q.0 P) Q ps h) [
                    | inl r ↦ any_here (λ e. Same e.place P) e t.divisor r
                    | inr r ↦ any_there (λ e. Same e.place P) e t.divisor (t.covers P r)
                  ];
            }

        by : Listed ps → Listed (Q ∷ ps)
        by t = go t (find Q.0 Q.1 t.divisor t.is.places)

    -- a place of the list has its value as multiplicity
    at_listed : (D : Divisor (FunctionOf c)) → All (λ e. IsPlace (setting_of c) e.place) D
        → All (λ e. (h : IsPlace (setting_of c) e.place) → value e.place h ≡ e.times) D
        → (P : Place (FunctionOf c)) (place : IsPlace (setting_of c) P) → Any (λ e. Same e.place P) D
        → HasMultiplicity (setting_of c) D P (value P place)
    at_listed [] places values P place a = absurd (any_none (λ e. Same e.place P) a)
    at_listed (e ∷ D) places values P place a =
        let p = All-head (λ e. IsPlace (setting_of c) e.place) e D places in
        go p (places_same_decided c P e.place place p)
        (λ b. at_listed D (All-tail (λ e. IsPlace (setting_of c) e.place) e D places)
        (All-tail (λ e. (h : IsPlace (setting_of c) e.place) → value e.place h ≡ e.times) e D values) P place b)
      where
        go : (p : IsPlace (setting_of c) e.place) → Dec (Same P e.place)
            → (Any (λ e. Same e.place P) D → HasMultiplicity (setting_of c) D P (value P place))
            → HasMultiplicity (setting_of c) (e ∷ D) P (value P place)
        go p (yes t) again =
            inl (
              t,
              sym (All-head (λ e. (h : IsPlace (setting_of c) e.place) → value e.place h ≡ e.times) e D values
                  p) ∙ sym (same P e.place place p t),
            )
        go p (no n) again =
            inr (
              n,
              again (elim (any_cases (λ e. Same e.place P) e D a)
                  [ inl t ↦ absurd (n (same_place_sym (setting_of c) e.place P t)) | inr b ↦ b ]),
            )

    pub divisor_by_values : (ps : List Placed)
        → ((P : Place (FunctionOf c)) (h : IsPlace (setting_of c) P) → (value P h ≡ pos 0)
        ⊎ Any (λ Q. IsSamePlace (setting_of c) Q.0 P) ps)
        → (D : Divisor (FunctionOf c)) × IsDivisor (setting_of c) D
        × ((P : Place (FunctionOf c)) (h : IsPlace (setting_of c) P) → HasMultiplicity (setting_of c) D P (value P h))
    divisor_by_values ps elsewhere = (t.divisor, t.is, at)
      where
        t : Listed ps
        t = list ps

        at : (P : Place (FunctionOf c)) (h : IsPlace (setting_of c) P)
            → HasMultiplicity (setting_of c) t.divisor P (value P h)
        at P h = go (find P h t.divisor t.is.places) (elsewhere P h)
          where
            go : Any (λ e. Same e.place P) t.divisor ⊎ All (λ e. ¬ Same P e.place) t.divisor → (value P h ≡ pos 0)
                ⊎ Any (λ Q. Same Q.0 P) ps
                → HasMultiplicity (setting_of c) t.divisor P (value P h)
            go (inl a) r = at_listed t.divisor t.is.places t.values P h a
            go (inr n) (inl e) =
                subst (HasMultiplicity (setting_of c) t.divisor P) (sym e)
                (multiplicity_elsewhere (setting_of c) t.divisor P n)
            go (inr n) (inr a) = at_listed t.divisor t.is.places t.values P h (t.covers P a)

  -- the difference of two divisors
  pub difference_exists : (W D : Divisor (FunctionOf c)) → IsDivisor (setting_of c) W → IsDivisor (setting_of c) D
      → (E : Divisor (FunctionOf c)) × IsDifference (setting_of c) W D E
  difference_exists W D is_W is_D =
      let r = divisor_by_values value value_same (ws ++ ds) elsewhere in (
        r.0,
        record {
          divisor = r.1;
          values = λ P place m n h i.
              let a = multiplicity_unique (setting_of c) W P (multiplicity_at c W is_W P place).0 m
              (multiplicity_at c W is_W P place).1 h in
              let b = multiplicity_unique (setting_of c) D P (multiplicity_at c D is_D P place).0 n
              (multiplicity_at c D is_D P place).1 i in
              subst (HasMultiplicity (setting_of c) r.0 P) (ap₂ ◌-ℤ◌ a b) (r.2 P place);
        },
      )
    where
      value : (P : Place (FunctionOf c)) → IsPlace (setting_of c) P → ℤ
      value P h = (multiplicity_at c W is_W P h).0 -ℤ (multiplicity_at c D is_D P h).0

      at_same : (A : Divisor (FunctionOf c)) (is : IsDivisor (setting_of c) A) (P Q : Place (FunctionOf c))
          (h : IsPlace (setting_of c) P) (i : IsPlace (setting_of c) Q)
          → Same P Q → (multiplicity_at c A is P h).0 ≡ (multiplicity_at c A is Q i).0
      at_same A is P Q h i s =
          let m = multiplicity_at c A is P h in
          let n = multiplicity_at c A is Q i in
          multiplicity_unique (setting_of c) A Q m.0 n.0 (multiplicity_same (setting_of c) A P Q m.0 s m.1) n.1

      value_same : (P Q : Place (FunctionOf c)) (h : IsPlace (setting_of c) P) (i : IsPlace (setting_of c) Q)
          → Same P Q → value P h ≡ value Q i
      value_same P Q h i s = ap₂ ◌-ℤ◌ (at_same W is_W P Q h i s) (at_same D is_D P Q h i s)

      ws : List Placed
      ws = places_of W is_W.places

      ds : List Placed
      ds = places_of D is_D.places

      elsewhere : (P : Place (FunctionOf c)) (h : IsPlace (setting_of c) P) → (value P h ≡ pos 0)
          ⊎ Any (λ Q. Same Q.0 P) (ws ++ ds)
      elsewhere P h = go (places_cover W is_W.places P h) (places_cover D is_D.places P h)
        where
          nothing : pos 0 -ℤ pos 0 ≡ pos 0
          nothing = omega (arith, ints)

          go : HasMultiplicity (setting_of c) W P (pos 0) ⊎ Any (λ Q. Same Q.0 P) ws
              → HasMultiplicity (setting_of c) D P (pos 0) ⊎ Any (λ Q. Same Q.0 P) ds
              → (value P h ≡ pos 0) ⊎ Any (λ Q. Same Q.0 P) (ws ++ ds)
          go (inr a) r = inr (any_left (λ Q. Same Q.0 P) ws ds a)
          go (inl m) (inr a) = inr (any_right (λ Q. Same Q.0 P) ws ds a)
          go (inl m) (inl n) =
              let a = multiplicity_unique (setting_of c) W P (multiplicity_at c W is_W P h).0 (pos 0)
              (multiplicity_at c W is_W P h).1 m in
              let b = multiplicity_unique (setting_of c) D P (multiplicity_at c D is_D P h).0 (pos 0)
              (multiplicity_at c D is_D P h).1 n in
              inl (ap₂ ◌-ℤ◌ a b ∙ nothing)
