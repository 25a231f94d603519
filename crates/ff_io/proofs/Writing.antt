-- Several writes, one after another.
use Rattle.std.proofs.Common.{◌≡◌, ℕ, ◌+◌, ◌-◌, ◌≤◌, List, [], ◌++◌, Option, None, Some, IfSome, Result, Ok, Err, OnOk, OnErr, take, drop, sym, ap, ◌∙◌, subst, arith, append-nil, append_assoc}
use Rattle.std.proofs.Math.Seq.{take-add}
use Rattle.std.proofs.lemmas.Option.{MatchOption-at_some}
use Rattle.ff_io.specs.Streams.{Appends, AppendsPart, Fills, IsPrefix}
use Rattle.ff_io.proofs.Prefixes.{prefix_refl, prefix_take}

pub appends_more : (before mid now : Option (List ℕ)) (xs ys : List ℕ) → Appends before mid xs → Appends mid now ys
    → Appends before now (xs ++ ys)
appends_more None mid now xs ys p q = tt
appends_more (Some old) mid now xs ys p q =
    MatchOption-at_some _ (λ zs. now ≡ Some (zs ++ ys)) (old ++ xs) p q ∙ ap Some (append_assoc old xs ys)

-- a write of n bytes of the piece that begins at the place
pub appends_take : (before mid now : Option (List ℕ)) (bytes piece : List ℕ) (at n : ℕ) → piece ≡ drop at bytes
    → Appends before mid (take at bytes) → Appends mid now (take n piece) → Appends before now (take (at + n) bytes)
appends_take before mid now bytes piece at n from p q =
    let joined = ap (λ l. take at bytes ++ take n l) from ∙ sym (take-add at n bytes) in
    subst (Appends before now) joined (appends_more before mid now _ _ p q)

-- a write of nothing
pub appends_nothing : (before mid now : Option (List ℕ)) (xs : List ℕ) → Appends before mid xs → Appends mid now []
    → Appends before now xs
appends_nothing before mid now xs p q = subst (Appends before now) (append-nil xs)
    (appends_more before mid now xs [] p q)

-- the room after a write of n bytes of the piece that begins at the place
pub fills_more : (before mid now : Option ℕ) (len rest at n faults faults_mid faults_now : ℕ) → rest + at ≡ len
    → IfSome before (λ f. len ≤ f → Fills at f mid faults faults_mid)
    → IfSome mid (λ f. rest ≤ f → Fills n f now faults_mid faults_now)
    → IfSome before (λ f. len ≤ f → Fills (at + n) f now faults faults_now)
fills_more None mid now len rest at n faults faults_mid faults_now parts p q = tt
fills_more (Some f) mid now len rest at n faults faults_mid faults_now parts p q = λ enough.
    let first = p enough in
    let second = MatchOption-at_some _ (λ m. rest ≤ m → Fills n m now faults_mid faults_now) (f - at) first.room q
    (omega arith) in
    let less : f - at - n ≡ f - (at + n) = omega arith in
    record { room = second.room ∙ ap Some less; faultless = second.faultless ∙ first.faultless }

-- what a write of all or some of the bytes appended begins them
pub written_begins : {T E : Type 0} (r : Result T E) (xs bytes : List ℕ) (now : Option (List ℕ))
    → OnOk r (Appends (Some xs) now bytes) → OnErr r (AppendsPart (Some xs) now bytes)
    → (part : List ℕ) × IsPrefix part bytes × (now ≡ Some (xs ++ part))
written_begins (Ok x) xs bytes now whole part = (bytes, prefix_refl bytes, whole)
written_begins (Err e) xs bytes now whole part = (take part.0 bytes, prefix_take part.0 bytes, part.2)
