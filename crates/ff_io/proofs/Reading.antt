-- Several reads, one after another.
use Rattle.std.proofs.Common.{◌≡◌, ℕ, ◌+◌, ◌≤◌, List, [], ◌++◌, Option, None, Some, IfSome, length, take, drop, sym, ap, ap₂, ◌∙◌, subst, arith, length-drop, length-append, length-take}
use Rattle.std.proofs.Math.Seq.{take-add}
use Rattle.std.proofs.lemmas.Option.{MatchOption-at_some}
use Rattle.std.proofs.lemmas.List.{drop-drop, take_all, length-take-le}
use Rattle.ff_io.specs.Streams.{Took}

-- n more bytes of the buffer
pub took_more : (before : List ℕ) (mid now : Option (List ℕ)) (bytes buffer : List ℕ) (n : ℕ) → n ≤ length buffer
    → Took (length bytes) bytes before mid → IfSome mid (λ xs. Took n buffer xs now)
    → Took (length (bytes ++ take n buffer)) (bytes ++ take n buffer) before now
took_more before mid now bytes buffer n fits p q =
    let m = length bytes in
    let r = MatchOption-at_some _ (λ xs. Took n buffer xs now) (drop m before) p.others q in
    let long : length (bytes ++ take n buffer) ≡ m + n = length-append bytes (take n buffer)
    ∙ ap (λ k. m + k) (length-take-le n buffer fits) in
    let inside : m + n ≤ length before = omega (arith, p.within, r.within, length-drop m before) in
    record {
      within = omega (arith, long, inside);
      same = take_all _ (bytes ++ take n buffer) (omega arith)
          ∙ ap₂ (λ x y. x ++ y) (sym (take_all m bytes (omega arith)) ∙ p.same) r.same
          ∙ sym (take-add m n before)
          ∙ ap (λ k. take k before) (sym long);
      others = r.others ∙ ap Some (drop-drop n m before ∙ ap (λ k. drop k before) (sym long));
    }

-- all of them, where nothing is left
pub took_all : (before : List ℕ) (mid now : Option (List ℕ)) (bytes buffer : List ℕ)
    → Took (length bytes) bytes before mid → IfSome mid (λ xs. Took 0 buffer xs now) → IfSome mid (λ xs. xs ≡ [])
    → (bytes ≡ before) × (now ≡ Some [])
took_all before mid now bytes buffer p q end =
    let m = length bytes in
    let r = MatchOption-at_some _ (λ xs. Took 0 buffer xs now) (drop m before) p.others q in
    let none = MatchOption-at_some _ (λ xs. xs ≡ []) (drop m before) p.others end in (
      sym (take_all m bytes (omega arith)) ∙ p.same
          ∙ take_all m before (omega (arith, ap length none, length-drop m before)),
      r.others ∙ ap Some none,
    )

-- n more bytes of the buffer, as far as the source tells
pub took_next : (before mid now : Option (List ℕ)) (bytes buffer more : List ℕ) (n : ℕ) → n ≤ length buffer
    → more ≡ take n buffer
    → IfSome before (λ xs. Took (length bytes) bytes xs mid) → IfSome mid (λ xs. Took n buffer xs now)
    → IfSome before (λ xs. Took (length (bytes ++ more)) (bytes ++ more) xs now)
took_next None mid now bytes buffer more n fits from p q = tt
took_next (Some xs) mid now bytes buffer more n fits from p q =
    subst (λ l. Took (length (bytes ++ l)) (bytes ++ l) xs now) (sym from)
    (took_more xs mid now bytes buffer n fits p q)

-- a read of nothing at the end
pub took_whole : (before mid now : Option (List ℕ)) (bytes buffer : List ℕ) (n : ℕ) → n ≡ 0
    → IfSome before (λ xs. Took (length bytes) bytes xs mid) → IfSome mid (λ xs. Took n buffer xs now)
    → IfSome mid (λ xs. xs ≡ [])
    → IfSome before (λ xs. (bytes ≡ xs) × (now ≡ Some []))
took_whole None mid now bytes buffer n none p q end = tt
took_whole (Some xs) mid now bytes buffer n none p q end =
    took_all xs mid now bytes buffer p (subst (λ k. IfSome mid (λ ys. Took k buffer ys now)) none q) end

pub grown_length : (now bytes buffer : List ℕ) (n : ℕ) → now ≡ bytes ++ take n buffer → length now ≤ length bytes + n
grown_length now bytes buffer n grown = omega
    (arith, ap length grown, length-append bytes (take n buffer), length-take n buffer)
