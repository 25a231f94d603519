-- Polynomials that are read are printed so, and polynomials that are printed are read again.
use Rattle.std.proofs.Common.{◌≡◌, ◌≢◌, ℕ, zero, suc, ◌<◌, ◌≤◌, Bool, false, true, eqb, List, [], ◌∷◌, ◌++◌, length, reverse, All, codes, Option, Some, None, refl, sym, ap, subst, ◌∙◌, arith, inl, inr}
use Rattle.std.proofs.lemmas.Bool.{eqb-true, eq-eqb, ne_eqb, cases_Bool}
use Rattle.std.proofs.lemmas.List.{reverse-append, reverse-reverse, length-reverse}
use Rattle.std.proofs.lemmas.List.Elements.{All-nil, All-cons, All-head, All-tail, All-append}
use Rattle.ff_fields.specs.Code.{is_zero_code}
use Rattle.ring_lemmas.proofs.Lists.{IsTrimmed_push, trim_trimmed}
use Rattle.ff_poly.specs.Words.{IsPoly, poly_of}
use Rattle.ff_text.specs.Printed.{term_text, poly_text, IsPrintable}
use Rattle.ff_text.specs.PrintedWriting.{plus_text}
use Rattle.ff_text.specs.PrintedReading.{◌>>=◌, after_text, term_at, plus_at, codes_at, below_top, poly_at}
use Rattle.ff_text.proofs.PrintedFound.{bind_some, choice_some, some_is, no_none, text_takes, then_takes}
use Rattle.ff_text.proofs.PrintedLists.{plus_some, plus_zero, top_text}
use Rattle.ff_text.proofs.PrintedTerms.{IsTermIn, term_takes}
use Rattle.ff_text.proofs.PrintedCodes.{ReadTerm, codes_skip, codes_take}

abbrev pub IsSmall : List ℕ → Type 0
IsSmall cs = All (λ c. c < 65536) cs

-- ---- what is read

-- a term behind ` + `, and what is before the rest
plus_takes : (bytes : List ℕ) (t : ReadTerm) → plus_at bytes ≡ Some t
    → (bytes ≡ (codes " + " ++ term_text t.0.0 t.0.1) ++ t.1) × (1 ≤ t.0.0) × (t.0.0 < 65536)
unfolding plus_at
plus_takes bytes t e =
    let a = bind_some (after_text (codes " + ") bytes) term_at t e in
    let one = term_takes a.0 t a.2 in (
      then_takes bytes (codes " + ") a.0 (term_text t.0.0 t.0.1) t.1 (text_takes (codes " + ") bytes a.0 a.1) one.parts,
      one.least,
      one.small,
    )

-- the codes of lower terms, and what is before the rest
pub record AreCodesIn (bytes : List ℕ) (j : ℕ) (cs rest : List ℕ) : Type 0 where
  pub parts : bytes ≡ plus_text cs ++ rest
  pub long : length cs ≡ j
  pub small : IsSmall cs

none_in : (bytes : List ℕ) (j : ℕ) (cs rest : List ℕ) → AreCodesIn bytes j cs rest
    → AreCodesIn bytes (suc j) (0 ∷ cs) rest
none_in bytes j cs rest are = record {
  parts = are.parts ∙ ap (λ (t : List ℕ). t ++ rest) (sym (plus_zero 0 cs refl));
  long = ap suc are.long;
  small = All-cons (λ c. c < 65536) 0 cs (omega arith) are.small;
}

one_in : (bytes : List ℕ) (j : ℕ) (t : ReadTerm) (cs rest : List ℕ) → plus_at bytes ≡ Some t → t.0.1 ≡ j
    → AreCodesIn t.1 j cs rest → AreCodesIn bytes (suc j) (t.0.0 ∷ cs) rest
one_in bytes j t cs rest e same are =
    let one = plus_takes bytes t e in
    let least : 1 ≤ t.0.0 = one.1 in
    let degree : t.0.1 ≡ length cs = same ∙ sym are.long in
    let some : t.0.0 ≢ 0 = λ none. omega (arith, none) in
    record {
      parts = then_takes bytes (codes " + " ++ term_text t.0.0 t.0.1) t.1 (plus_text cs) rest one.0 are.parts
          ∙ ap (λ (d : ℕ). ((codes " + " ++ term_text t.0.0 d) ++ plus_text cs) ++ rest) degree
          ∙ ap (λ (u : List ℕ). u ++ rest) (sym (plus_some t.0.0 cs some));
      long = ap suc are.long;
      small = All-cons (λ c. c < 65536) t.0.0 cs one.2 are.small;
    }

abbrev pub AreReadIn : List ℕ → ℕ → List ℕ × List ℕ → Type 0
AreReadIn bytes j read = AreCodesIn bytes j read.0 read.1

pub differ : (b : Bool) → b ≡ false → b ≡ true → ⊥
differ b is_false is_true = cc

codes_skipped : (j : ℕ) (bytes : List ℕ) → ((bs : List ℕ) → AreReadIn bs j (codes_at j bs))
    → ((t : ReadTerm) → plus_at bytes ≡ Some t → t.0.1 ≢ j) → AreReadIn bytes (suc j) (codes_at (suc j) bytes)
codes_skipped j bytes before other = subst (AreReadIn bytes (suc j)) (sym (codes_skip j bytes other))
    (none_in bytes j (codes_at j bytes).0 (codes_at j bytes).1 (before bytes))

codes_next : (j : ℕ) (bytes : List ℕ) → ((bs : List ℕ) → AreReadIn bs j (codes_at j bs)) → (o : Option ReadTerm)
    → plus_at bytes ≡ o → AreReadIn bytes (suc j) (codes_at (suc j) bytes)
codes_next j bytes before None e = codes_skipped j bytes before (λ t is _. no_none (sym is ∙ e))
codes_next j bytes before (Some t) e = elim (cases_Bool (eqb t.0.1 j)) [
  | inl is ↦
      let same = eqb-true t.0.1 j is in
      subst (AreReadIn bytes (suc j)) (sym (codes_take j bytes t e same))
      (one_in bytes j t (codes_at j t.1).0 (codes_at j t.1).1 e same (before t.1))
  | inr not ↦ codes_skipped j bytes before
      (λ u is same. differ (eqb t.0.1 j) not
      (eq-eqb t.0.1 j (ap (λ (v : ReadTerm). v.0.1) (some_is t u (sym e ∙ is)) ∙ same)))
]

pub codes_takes : (j : ℕ) (bytes : List ℕ) → AreReadIn bytes j (codes_at j bytes)
unfolding codes_at
codes_takes zero bytes = record { parts = refl; long = refl; small = All-nil (λ c. c < 65536) }
codes_takes (suc j) bytes = codes_next j bytes (codes_takes j) (plus_at bytes) refl

-- the codes from the top down make a polynomial
top_poly : (c : ℕ) (cs : List ℕ) → c ≢ 0 → IsPoly (reverse (c ∷ cs))
top_poly c cs some = subst IsPoly (sym (reverse-append (c ∷ []) cs))
    (record { trimmed = IsTrimmed_push is_zero_code (reverse cs) c (ne_eqb c 0 some) })

pub All-reverse : (P : ℕ → Type 0) (xs : List ℕ) → All P xs → All P (reverse xs)
All-reverse P [] all = all
All-reverse P (x ∷ xs) all =
    subst (All P) (sym (reverse-append (x ∷ []) xs))
    (All-append P (reverse xs) (x ∷ []) (All-reverse P xs (All-tail P x xs all))
    (All-cons P x [] (All-head P x xs all) (All-nil P)))

-- a printable polynomial that is read, and what is before the rest
pub record IsPolyIn (bytes p rest : List ℕ) : Type 0 where
  pub parts : bytes ≡ poly_text p ++ rest
  pub printable : IsPrintable p

zero_printable : IsPrintable []
zero_printable = record { poly = record { trimmed = tt }; small = All-nil (λ c. c < 65536); short = omega arith }

top_in : (bytes : List ℕ) (c j : ℕ) (behind cs rest : List ℕ) → IsTermIn bytes c j behind → AreCodesIn behind j cs rest
    → IsPolyIn bytes (reverse (c ∷ cs)) rest
top_in bytes c j behind cs rest one are =
    let least : 1 ≤ c = one.least in
    let some : c ≢ 0 = λ none. omega (arith, none) in
    let text : poly_text (reverse (c ∷ cs))
    ≡ term_text c (length cs) ++ plus_text cs = top_text c cs some (reverse (c ∷ cs)) (reverse-reverse (c ∷ cs))
    in
    let degree : j ≤ 1024 = one.degree in
    let long : length (reverse (c ∷ cs)) ≡ suc (length cs) = length-reverse (c ∷ cs) in
    record {
      parts = then_takes bytes (term_text c j) behind (plus_text cs) rest one.parts are.parts
          ∙ ap (λ (d : ℕ). (term_text c d ++ plus_text cs) ++ rest) (sym are.long)
          ∙ ap (λ (t : List ℕ). t ++ rest) (sym text);
      printable = record {
        poly = top_poly c cs some;
        small = All-reverse (λ c. c < 65536) (c ∷ cs) (All-cons (λ c. c < 65536) c cs one.small are.small);
        short = omega (arith, are.long);
      };
    }

pub poly_takes : (bytes : List ℕ) (b : List ℕ × List ℕ) → poly_at bytes ≡ Some b → IsPolyIn bytes b.0 b.1
unfolding poly_at
poly_takes bytes b e =
    let P : List ℕ × List ℕ → Type 0 = λ r. IsPolyIn bytes r.0 r.1 in
    elim (choice_some below_top (term_at bytes) (after_text (codes "0") bytes >>= λ rest. Some ([], rest)) b e) [
      | inl w ↦
          let a = bind_some (after_text (codes "0") bytes) (λ rest. Some ([], rest)) b w.1 in
          subst P (some_is ([], a.0) b a.2)
          (record { parts = text_takes (codes "0") bytes a.0 a.1; printable = zero_printable })
      | inr w ↦
          let t = w.0 in
          let read = codes_at t.0.1 t.1 in
          subst P (some_is (reverse (t.0.0 ∷ read.0), read.1) b w.2)
          (top_in bytes t.0.0 t.0.1 t.1 read.0 read.1 (term_takes bytes t w.1) (codes_takes t.0.1 t.1))
    ]

-- what is read has no zero on top
pub read_is_poly : (bytes p rest : List ℕ) → poly_at bytes ≡ Some (p, rest) → poly_of p ≡ p
read_is_poly bytes p rest e = trim_trimmed is_zero_code p (poly_takes bytes (p, rest) e).printable.poly.trimmed

-- what the code makes of the codes
pub poly_found : (bytes : List ℕ) (t : ReadTerm) (p cs rest : List ℕ) → term_at bytes ≡ Some t
    → cs ≡ t.0.0 ∷ (codes_at t.0.1 t.1).0 → rest ≡ (codes_at t.0.1 t.1).1 → p ≡ poly_of (reverse cs)
    → poly_at bytes ≡ Some (p, rest)
unfolding poly_at
poly_found bytes t p cs rest e codes behind is =
    let whole : List ℕ = t.0.0 ∷ (codes_at t.0.1 t.1).0 in
    let read : poly_at bytes ≡ Some (reverse whole, (codes_at t.0.1 t.1).1) = rw e refl in
    let same : reverse whole ≡ p = sym (read_is_poly bytes (reverse whole) (codes_at t.0.1 t.1).1 read)
    ∙ ap (λ l. poly_of (reverse l)) (sym codes) ∙ sym is in
    read ∙ ap (λ q. Some (q, (codes_at t.0.1 t.1).1)) same ∙ ap (λ r. Some (p, r)) (sym behind)
