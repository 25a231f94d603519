-- Texts that are printed one after the other.
use Rattle.std.proofs.Common.{◌≡◌, ℕ, ◌+◌, ◌-◌, List, [], ◌++◌, length, take, Option, Some, None, refl, sym, ap, ◌∙◌, arith, subst, append_assoc}
use Rattle.std.proofs.lemmas.List.{length-append}
use Rattle.std.proofs.lemmas.Grind.{common_steps}
use Rattle.std.proofs.Math.Seq.{take-append-add}
use Rattle.ff_io.specs.Streams.{Fills, Appends}
use Rattle.ff_program.specs.Printing.{Prints, BreaksOff}

pub appends_join : (before mid now : Option (List ℕ)) (xs ys : List ℕ) → Appends before mid xs → Appends mid now ys
    → Appends before now (xs ++ ys)
appends_join None mid now xs ys a b = tt
appends_join (Some zs) mid now xs ys a b = go mid a b
  where
    go : (mid : Option (List ℕ)) → mid ≡ Some (zs ++ xs) → Appends mid now ys → now ≡ Some (zs ++ (xs ++ ys))
    go None e b = absurd (cc)
    go (Some ws) e b = let same : ws ≡ zs ++ xs = cc in b ∙ ap (λ w. Some (w ++ ys)) same
        ∙ ap Some (append_assoc zs xs ys)

pub appends_none : (o : Option (List ℕ)) → Appends o o []
appends_none None = tt
appends_none (Some xs) = ap Some (grind (arith, common_steps))

module _ {T : Type 0} (taken : T → Option (List ℕ)) (faults : T → ℕ) (free : T → Option ℕ) where
  pub prints_nothing : (s : T) → Prints taken faults free s s []
  prints_nothing s = record {
    appended = appends_none (taken s);
    count = omega arith;
    room = λ f e l. record { room = e ∙ ap Some (sub_none f); faultless = refl };
  }
    where
      sub_none : (f : ℕ) → f ≡ f - length {A = ℕ} []
      sub_none f = omega arith

  pub prints_join : (a b c : T) (xs ys : List ℕ) → Prints taken faults free a b xs → Prints taken faults free b c ys
      → Prints taken faults free a c (xs ++ ys)
  prints_join a b c xs ys h k = record {
    appended = appends_join (taken a) (taken b) (taken c) xs ys h.appended k.appended;
    count = omega (arith, h.count, k.count);
    room = λ f e l.
        let long : length (xs ++ ys) ≡ length xs + length ys = length-append xs ys in
        let first : Fills (length xs) f (free b) (faults a) (faults b) = h.room f e (omega arith) in
        let second : Fills (length ys) (f - length xs) (free c) (faults b) (faults c) = k.room (f - length xs)
        first.room (omega arith) in
        let left : f - length xs - length ys ≡ f - length (xs ++ ys) = omega arith in
        record { room = second.room ∙ ap Some left; faultless = second.faultless ∙ first.faultless };
  }

  pub breaks_later : (a b c : T) (xs ys : List ℕ) → Prints taken faults free a b xs → BreaksOff taken faults free b c ys
      → BreaksOff taken faults free a c (xs ++ ys)
  breaks_later a b c xs ys h k =
      let long : length (xs ++ ys) ≡ length xs + length ys = length-append xs ys in
      record {
        part = length xs + k.part;
        within = omega (arith, k.within);
        appended = subst (Appends (taken a) (taken c)) (sym (take-append-add xs ys k.part))
            (appends_join (taken a) (taken b) (taken c) xs (take k.part ys) h.appended k.appended);
        count = omega (arith, h.count, k.count);
        cause = omega (arith, h.count, k.cause);
        no_room = λ f e l.
            let first : Fills (length xs) f (free b) (faults a) (faults b) = h.room f e (omega arith) in
            k.no_room (f - length xs) first.room (omega arith);
      }
