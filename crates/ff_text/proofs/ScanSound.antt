-- What is read of a polynomial is spelled so.
use Rattle.std.proofs.Common.{◌≡◌, ℕ, ◌+◌, ◌-◌, ◌*◌, ◌<◌, Bool, true, false, cond, nat_lt, List, [], ◌∷◌, ◌++◌, length, codes, Option, Some, None, refl, sym, ap, ◌∙◌, subst, append_assoc, ◌⊎◌, inl, inr, arith}
use Rattle.std.specs.Prelude.{IsTrue}
use Rattle.std.specs.Option.{option_map}
use Rattle.std.proofs.lemmas.Bool.{ltb-true}
use Rattle.std.proofs.lemmas.List.{append-nil, length_push}
use Rattle.ff_text.specs.declared.terms.Factor.{Factor}
use Rattle.ff_text.specs.declared.terms.Term.{Term}
use Rattle.ff_text.specs.declared.scan.Rules.{Rules}
use Rattle.ff_text.specs.declared.scan.Mark.{Mark}
use Rattle.ff_text.specs.declared.scan.Mark.TheVariants as marks
use Rattle.ff_text.specs.declared.scan.Kind.{Kind}
use Rattle.ff_text.specs.declared.scan.Kind.TheVariants as kinds
use Rattle.ff_text.specs.declared.scan.Position.{Position}
use Rattle.ff_text.specs.declared.scan.Position.TheVariants.{Begin, Signed, Starred, Letter, Spaced, Raised, Digits, Behind}
use Rattle.ff_text.specs.declared.scan.Scan.{Scan}
use Rattle.ff_text.specs.Spelling.{Then, Is, is_blank, Blanks, Around, Each, SpellsNumber, SpellsFactor, SpellsFactors, FirstSign, NextSign, SpellsNext, SpellsTerms}
use Rattle.ff_text.specs.Scanning.{mark_of, factor_of, term_of, after_blank, after_digit, after_letter, after_raise, ended, moved, after_star, after_sign, after_minus, after_mark, scan_step, begun, is_whole_position, last_at, HasRoom}
use Rattle.ff_text.proofs.Machines.{Leads, along}
use Rattle.ff_text.proofs.Digits.{IsDigit, number_one, number_more, number_room}
use Rattle.ff_text.proofs.Texts.{then_of, then_more, then_map, then_map_first, then_left, then_right, then_nothing, nothing_then, from_nothing_then, blanks_push, blanks_one, around_push, around_of, then_blanks, each_push, JoinedFront, joined_push}
use Rattle.ff_text.proofs.Marks.{IsMarked, marked}

-- the position that was reached
arrive : (P : Position → Type 0) (p q : Position) → Some p ≡ Some q → P p → P q
arrive P p q e h = let same : p ≡ q = cc in subst P same h

abbrev pub scan_at : List Term → Bool → List Factor → Position → Scan
scan_at ts m fs p = record { terms = ts; minus = m; factors = fs; position = p }

-- ---- what was read, from where it ends

module _ (rules : Rules) where
  -- the bytes before the factors of a term
  abbrev pub TermsFront : List Term → Bool → List ℕ → Type 0
  TermsFront ts m g = ((ts ≡ []) × FirstSign m g) ⊎ Then (SpellsTerms rules.y ts) (NextSign m) g

  -- the same, where a sign was read
  abbrev pub SignFront : List Term → Bool → List ℕ → Type 0
  SignFront ts m g = ((ts ≡ []) × (m ≡ true) × FirstSign true g) ⊎ Then (SpellsTerms rules.y ts) (NextSign m) g

  -- the bytes before a factor
  abbrev pub Before : List Term → Bool → List Factor → List ℕ → Type 0
  Before ts m fs = Then (TermsFront ts m) (JoinedFront (codes "*") (SpellsFactor rules.y) fs)

  -- the letter of a factor, where it may stand
  abbrev pub IsLetter : Kind → List ℕ → Type 0
  IsLetter kinds.Code g = ⊥
  IsLetter kinds.X g = Is (codes "x") g
  IsLetter kinds.Y g = IsTrue rules.y × Is (codes "y") g

  -- the bytes before the digits of a factor
  abbrev pub IsLead : Kind → List ℕ → Type 0
  IsLead kinds.Code g = Is [] g
  IsLead kinds.X g = Then (Is (codes "x")) (Around (codes "^")) g
  IsLead kinds.Y g = IsTrue rules.y × Then (Is (codes "y")) (Around (codes "^")) g

  -- so many digits of a number
  abbrev pub AreDigits : ℕ → ℕ → List ℕ → Type 0
  AreDigits count n g = SpellsNumber n g × (length g ≡ count)

  abbrev pub IsScannedAt : List Term → Bool → List Factor → Position → List ℕ → Type 0
  IsScannedAt ts m fs Begin g = (ts ≡ []) × (m ≡ false) × (fs ≡ []) × (g ≡ [])
  IsScannedAt ts m fs Signed g = (fs ≡ []) × SignFront ts m g
  IsScannedAt ts m fs Starred g = Then (TermsFront ts m) (Then (SpellsFactors rules.y fs) (Around (codes "*"))) g
  IsScannedAt ts m fs (Letter k) g = Then (Before ts m fs) (IsLetter k) g
  IsScannedAt ts m fs (Spaced k) g = Then (Before ts m fs) (Then (IsLetter k) Blanks) g
  IsScannedAt ts m fs (Raised k) g = Then (Before ts m fs) (Then (IsLetter k) (Around (codes "^"))) g
  IsScannedAt ts m fs (Digits k count n) g = Then (Before ts m fs) (Then (IsLead k) (AreDigits count n)) g
  IsScannedAt ts m fs (Behind k n) g = Then (Before ts m fs) (Then (SpellsFactor rules.y (factor_of k n)) Blanks) g

  abbrev pub IsScanned : Scan → List ℕ → Type 0
  IsScanned s g = IsScannedAt s.terms s.minus s.factors s.position g

  -- ---- factors

  letter_factor : (k : Kind) (g : List ℕ) → IsLetter k g → SpellsFactor rules.y (factor_of k 1) g
  letter_factor kinds.Code g h = absurd h
  letter_factor kinds.X g h = inl (refl, h)
  letter_factor kinds.Y g h = (h.0, inl (refl, h.1))

  lead_of : (k : Kind) (g : List ℕ) → Then (IsLetter k) (Around (codes "^")) g → IsLead k g
  lead_of kinds.Code g h = absurd h.first
  lead_of kinds.X g h = h
  lead_of kinds.Y g h = (h.first.0, then_map_first g h (λ a l. l.1))

  digits_factor : (k : Kind) (n count : ℕ) (g : List ℕ) → Then (IsLead k) (AreDigits count n) g
      → SpellsFactor rules.y (factor_of k n) g
  digits_factor kinds.Code n count g h = from_nothing_then g (then_map g h (λ b d. d.0))
  digits_factor kinds.X n count g h = inr (then_right g (then_map g h (λ b d. d.0)))
  digits_factor kinds.Y n count g h = (
    h.first.0,
    inr
        (then_right g (then_map g (then_map_first g h (λ a l. l.1)) (λ b d. d.0))),
  )

  -- where a factor may end, it is spelled, with blanks behind it
  ended_factor : (ts : List Term) (m : Bool) (fs : List Factor) (p : Position) (g : List ℕ) (f : Factor)
      → IsScannedAt ts m fs p g → ended p ≡ Some f → Then (Before ts m fs) (Then (SpellsFactor rules.y f) Blanks) g
  ended_factor ts m fs Begin g f h e = absurd cc
  ended_factor ts m fs Signed g f h e = absurd cc
  ended_factor ts m fs Starred g f h e = absurd cc
  ended_factor ts m fs (Raised k) g f h e = absurd cc
  ended_factor ts m fs (Letter k) g f h e =
      let same : factor_of k 1 ≡ f = cc in
      subst (λ (d : Factor). Then (Before ts m fs) (Then (SpellsFactor rules.y d) Blanks) g) same
      (then_map g h (λ b l. then_blanks b (letter_factor k b l)))
  ended_factor ts m fs (Spaced k) g f h e =
      let same : factor_of k 1 ≡ f = cc in
      subst (λ (d : Factor). Then (Before ts m fs) (Then (SpellsFactor rules.y d) Blanks) g) same
      (then_map g h (λ b l. then_map_first b l (letter_factor k)))
  ended_factor ts m fs (Digits k count n) g f h e =
      let same : factor_of k n ≡ f = cc in
      subst (λ (d : Factor). Then (Before ts m fs) (Then (SpellsFactor rules.y d) Blanks) g) same
      (then_map g h (λ b l. then_blanks b (digits_factor k n count b l)))
  ended_factor ts m fs (Behind k n) g f h e =
      let same : factor_of k n ≡ f = cc in
      subst (λ (d : Factor). Then (Before ts m fs) (Then (SpellsFactor rules.y d) Blanks) g) same h

  -- the factors of a term are whole then
  factors_done : (ts : List Term) (m : Bool) (fs : List Factor) (f : Factor) (g : List ℕ)
      → Then (Before ts m fs) (Then (SpellsFactor rules.y f) Blanks) g
      → Then (TermsFront ts m) (Then (SpellsFactors rules.y (fs ++ f ∷ [])) Blanks) g
  factors_done ts m fs f g h =
      then_map g (then_right g h) (λ b t. then_map_first b (then_left b t) (λ a u.
      subst (SpellsFactors rules.y (fs ++ f ∷ [])) (sym u.whole)
      (joined_push (codes "*") (SpellsFactor rules.y) fs f u.front u.back u.first u.second)))

  -- a term more
  terms_push : (ts : List Term) (m : Bool) (fs : List Factor) (g h : List ℕ) → TermsFront ts m g
      → SpellsFactors rules.y fs h → SpellsTerms rules.y (ts ++ term_of m fs ∷ []) (g ++ h)
  terms_push [] m fs g h (inl first) spelled = then_nothing (g ++ h) (then_of g h first.1 spelled)
  terms_push [] m fs g h (inr next) spelled = absurd next.first
  terms_push (t ∷ ts) m fs g h (inl first) spelled = absurd (let e = first.0 in cc)
  terms_push (t ∷ ts) m fs g h (inr next) spelled =
      then_more g h (then_right g next) (λ b rest.
      subst (Each (SpellsNext rules.y) (ts ++ term_of m fs ∷ []))
      (sym (ap (λ x. x ++ h) rest.whole ∙ append_assoc rest.front rest.back h))
      (each_push (SpellsNext rules.y) ts (term_of m fs) rest.front (rest.back ++ h) rest.first
      (then_of rest.back h rest.second spelled)))

  pub terms_done : (ts : List Term) (m : Bool) (fs : List Factor) (p : Position) (g : List ℕ) (f : Factor)
      → IsScannedAt ts m fs p g → ended p ≡ Some f
      → Then (SpellsTerms rules.y (ts ++ term_of m (fs ++ f ∷ []) ∷ [])) Blanks g
  terms_done ts m fs p g f h e =
      then_map_first g (then_left g (factors_done ts m fs f g (ended_factor ts m fs p g f h e))) (λ a t.
      subst (SpellsTerms rules.y (ts ++ term_of m (fs ++ f ∷ []) ∷ [])) (sym t.whole)
      (terms_push ts m (fs ++ f ∷ []) t.front t.back t.first t.second))

  -- a factor without blanks behind it makes a polynomial
  whole_terms : (ts : List Term) (m : Bool) (fs : List Factor) (f : Factor) (g : List ℕ)
      → Then (Before ts m fs) (SpellsFactor rules.y f) g → SpellsTerms rules.y (ts ++ term_of m (fs ++ f ∷ []) ∷ []) g
  whole_terms ts m fs f g h =
      let t = then_right g h in
      let u = t.second in
      subst (SpellsTerms rules.y (ts ++ term_of m (fs ++ f ∷ []) ∷ [])) (sym t.whole)
      (terms_push ts m (fs ++ f ∷ []) t.front t.back t.first
      (subst (SpellsFactors rules.y (fs ++ f ∷ [])) (sym u.whole)
      (joined_push (codes "*") (SpellsFactor rules.y) fs f u.front u.back u.first u.second)))

  no_front : (m : Bool) (g : List ℕ) → m ≡ false → TermsFront [] m g → g ≡ []
  no_front true g none front = absurd cc
  no_front false g none (inl first) = first.1
  no_front false g none (inr next) = absurd next.first

  alone_factors : (m : Bool) (fs : List Factor) (f : Factor) (g : List ℕ) → m ≡ false
      → Then (Before [] m fs) (SpellsFactor rules.y f) g → SpellsFactors rules.y (fs ++ f ∷ []) g
  alone_factors m fs f g none h =
      let t = then_right g h in
      let u = t.second in
      subst (SpellsFactors rules.y (fs ++ f ∷ []))
      (sym (t.whole ∙ ap (λ x. x ++ t.back) (no_front m t.front none t.first) ∙ u.whole))
      (joined_push (codes "*") (SpellsFactor rules.y) fs f u.front u.back u.first u.second)

  -- what is whole is spelled
  pub whole_scan : (s : Scan) (p : Position) (g : List ℕ) → IsScannedAt s.terms s.minus s.factors p g
      → is_whole_position p ≡ true → (v : List Term) × (last_at s p ≡ Some v) × SpellsTerms rules.y v g
  whole_scan s Begin g h is = absurd cc
  whole_scan s Signed g h is = absurd cc
  whole_scan s Starred g h is = absurd cc
  whole_scan s (Letter k) g h is = (
    s.terms
        ++ term_of s.minus (s.factors ++ factor_of k 1 ∷ []) ∷ [],
    refl,
    whole_terms s.terms s.minus s.factors
        (factor_of k 1) g (then_map g h (letter_factor k)),
  )
  whole_scan s (Spaced k) g h is = absurd cc
  whole_scan s (Raised k) g h is = absurd cc
  whole_scan s (Digits k count n) g h is = (
    s.terms ++ term_of s.minus (s.factors ++ factor_of k n ∷ []) ∷ [],
    refl,
    whole_terms s.terms s.minus s.factors
        (factor_of k n) g (then_map g h (digits_factor k n count)),
  )
  whole_scan s (Behind k n) g h is = absurd cc

  -- so is a term alone, where no sign was read
  pub whole_factors : (m : Bool) (fs : List Factor) (p : Position) (g : List ℕ) → m ≡ false → IsScannedAt [] m fs p g
      → is_whole_position p ≡ true → (f : Factor) × (ended p ≡ Some f) × SpellsFactors rules.y (fs ++ f ∷ []) g
  whole_factors m fs Begin g none h is = absurd cc
  whole_factors m fs Signed g none h is = absurd cc
  whole_factors m fs Starred g none h is = absurd cc
  whole_factors m fs (Letter k) g none h is =
      (factor_of k 1, refl, alone_factors m fs (factor_of k 1) g none (then_map g h (letter_factor k)))
  whole_factors m fs (Spaced k) g none h is = absurd cc
  whole_factors m fs (Raised k) g none h is = absurd cc
  whole_factors m fs (Digits k count n) g none h is =
      (factor_of k n, refl, alone_factors m fs (factor_of k n) g none (then_map g h (digits_factor k n count)))
  whole_factors m fs (Behind k n) g none h is = absurd cc

  -- there is room for a digit
  pub room_at : (ts : List Term) (m : Bool) (fs : List Factor) (p : Position) (g : List ℕ) → IsScannedAt ts m fs p g
      → HasRoom p
  room_at ts m fs Begin g h = tt
  room_at ts m fs Signed g h = tt
  room_at ts m fs Starred g h = tt
  room_at ts m fs (Letter k) g h = tt
  room_at ts m fs (Spaced k) g h = tt
  room_at ts m fs (Raised k) g h = tt
  room_at ts m fs (Digits k count n) g h = λ short.
      let d = h.second.second in
      let long = d.1 in
      number_room n h.second.back d.0 (omega arith)
  room_at ts m fs (Behind k n) g h = tt

  -- ---- steps that end no factor

  sign_front : (ts : List Term) (m : Bool) (g : List ℕ) → SignFront ts m g → TermsFront ts m g
  sign_front ts m g (inl first) = inl (first.0, subst (λ (n : Bool). FirstSign n g) (sym first.1) first.2)
  sign_front ts m g (inr next) = inr next

  -- a factor may begin there
  abbrev IsReady : Position → Type 0
  IsReady Begin = Unit {0}
  IsReady Signed = Unit {0}
  IsReady Starred = Unit {0}
  IsReady (Letter k) = ⊥
  IsReady (Spaced k) = ⊥
  IsReady (Raised k) = ⊥
  IsReady (Digits k count n) = ⊥
  IsReady (Behind k n) = ⊥

  ready : (ts : List Term) (m : Bool) (fs : List Factor) (p : Position) (g : List ℕ) → IsReady p
      → IsScannedAt ts m fs p g → Before ts m fs g
  ready ts m fs Begin g r h =
      record {
        front = [];
        back = [];
        first = inl (h.0, subst (λ (n : Bool). FirstSign n []) (sym h.1) refl);
        second = inl (h.2, refl);
        whole = h.3;
      }
  ready ts m fs Signed g r h = record {
    front = g;
    back = [];
    first = sign_front ts m g h.1;
    second = inl (h.0, refl);
    whole = sym (append-nil g);
  }
  ready ts m fs Starred g r h = then_map g h (λ b t. inr t)
  ready ts m fs (Letter k) g r h = absurd r
  ready ts m fs (Spaced k) g r h = absurd r
  ready ts m fs (Raised k) g r h = absurd r
  ready ts m fs (Digits k count n) g r h = absurd r
  ready ts m fs (Behind k n) g r h = absurd r

  next_sign_push : (m : Bool) (g : List ℕ) (b : ℕ) → is_blank b ≡ true → NextSign m g → NextSign m (g ++ b ∷ [])
  next_sign_push true g b is h = around_push (codes "-") g b is h
  next_sign_push false g b is h = around_push (codes "+") g b is h

  sign_front_push : (ts : List Term) (m : Bool) (g : List ℕ) (b : ℕ) → is_blank b ≡ true → SignFront ts m g
      → SignFront ts m (g ++ b ∷ [])
  sign_front_push ts m g b is (inl first) = inl
      (first.0, first.1, then_more g (b ∷ []) first.2 (λ h all. blanks_push h b is all))
  sign_front_push ts m g b is (inr next) = inr (then_more g (b ∷ []) next (λ h s. next_sign_push m h b is s))

  blank_step : (ts : List Term) (m : Bool) (fs : List Factor) (p q : Position) (g : List ℕ) (b : ℕ) → is_blank b ≡ true
      → IsScannedAt ts m fs p g → after_blank p ≡ Some q → IsScannedAt ts m fs q (g ++ b ∷ [])
  blank_step ts m fs Begin q g b is h e = absurd cc
  blank_step ts m fs Signed q g b is h e = arrive (λ r. IsScannedAt ts m fs r (g ++ b ∷ [])) Signed q e
      (h.0, sign_front_push ts m g b is h.1)
  blank_step ts m fs Starred q g b is h e = arrive (λ r. IsScannedAt ts m fs r (g ++ b ∷ [])) Starred q e
      (then_more g (b ∷ []) h (λ c t. then_more c (b ∷ []) t (λ d u. around_push (codes "*") d b is u)))
  blank_step ts m fs (Letter k) q g b is h e = arrive (λ r. IsScannedAt ts m fs r (g ++ b ∷ [])) (Spaced k) q e
      (then_more g (b ∷ []) h (λ c t. then_of c (b ∷ []) t (blanks_one b is)))
  blank_step ts m fs (Spaced k) q g b is h e = arrive (λ r. IsScannedAt ts m fs r (g ++ b ∷ [])) (Spaced k) q e
      (then_more g (b ∷ []) h (λ c t. then_more c (b ∷ []) t (λ d u. blanks_push d b is u)))
  blank_step ts m fs (Raised k) q g b is h e = arrive (λ r. IsScannedAt ts m fs r (g ++ b ∷ [])) (Raised k) q e
      (then_more g (b ∷ []) h (λ c t. then_more c (b ∷ []) t (λ d u. around_push (codes "^") d b is u)))
  blank_step ts m fs (Digits k count n) q g b is h e = arrive (λ r. IsScannedAt ts m fs r (g ++ b ∷ [])) (Behind k n) q
      e (then_more g (b ∷ []) h (λ c t. then_of c (b ∷ []) (digits_factor k n count c t) (blanks_one b is)))
  blank_step ts m fs (Behind k n) q g b is h e = arrive (λ r. IsScannedAt ts m fs r (g ++ b ∷ [])) (Behind k n) q e
      (then_more g (b ∷ []) h (λ c t. then_more c (b ∷ []) t (λ d u. blanks_push d b is u)))

  first_digit : (ts : List Term) (m : Bool) (fs : List Factor) (p q : Position) (g : List ℕ) (b : ℕ) → IsDigit b
      → IsReady p → IsScannedAt ts m fs p g → Some (Digits kinds.Code 1 (b - 48)) ≡ Some q
      → IsScannedAt ts m fs q (g ++ b ∷ [])
  first_digit ts m fs p q g b d r h e = arrive (λ r. IsScannedAt ts m fs r (g ++ b ∷ [])) (Digits kinds.Code 1 (b - 48))
      q e (then_of g (b ∷ []) (ready ts m fs p g r h) (nothing_then (b ∷ []) (number_one b d, refl)))

  test_some : {A : Type 0} (t : Bool) (x y : A) → cond t (Some x) None ≡ Some y → (t ≡ true) × (Some x ≡ Some y)
  test_some true x y e = (refl, e)
  test_some false x y e = absurd cc

  digit_step : (ts : List Term) (m : Bool) (fs : List Factor) (p q : Position) (g : List ℕ) (b : ℕ) → IsDigit b
      → IsScannedAt ts m fs p g → after_digit (b - 48) p ≡ Some q → IsScannedAt ts m fs q (g ++ b ∷ [])
  digit_step ts m fs Begin q g b d h e = first_digit ts m fs Begin q g b d tt h e
  digit_step ts m fs Signed q g b d h e = first_digit ts m fs Signed q g b d tt h e
  digit_step ts m fs Starred q g b d h e = first_digit ts m fs Starred q g b d tt h e
  digit_step ts m fs (Letter k) q g b d h e = absurd cc
  digit_step ts m fs (Spaced k) q g b d h e = absurd cc
  digit_step ts m fs (Raised k) q g b d h e = arrive (λ r. IsScannedAt ts m fs r (g ++ b ∷ [])) (Digits k 1 (b - 48)) q
      e (then_more g (b ∷ []) h (λ c t. then_of c (b ∷ []) (lead_of k c t) (number_one b d, refl)))
  digit_step ts m fs (Digits k count n) q g b d h e =
      let w = test_some (nat_lt count 9) (Digits k (count + 1) (10 * n + (b - 48))) q e in
      let room : count < 9 = ltb-true count 9 w.0 in
      arrive (λ r. IsScannedAt ts m fs r (g ++ b ∷ [])) (Digits k (count + 1) (10 * n + (b - 48))) q w.1
      (then_more g (b ∷ []) h (λ c t. then_more c (b ∷ []) t (λ a u.
      let long = u.1 in
      let more = length_push a b in
      (number_more n a b u.0 (omega arith) d, omega arith))))
  digit_step ts m fs (Behind k n) q g b d h e = absurd cc

  first_letter : (ts : List Term) (m : Bool) (fs : List Factor) (p q : Position) (k : Kind) (g l : List ℕ)
      → IsLetter k l → IsReady p → IsScannedAt ts m fs p g → Some (Letter k) ≡ Some q → IsScannedAt ts m fs q (g ++ l)
  first_letter ts m fs p q k g l is r h e = arrive (λ r. IsScannedAt ts m fs r (g ++ l)) (Letter k) q e
      (then_of g l (ready ts m fs p g r h) is)

  letter_step : (ts : List Term) (m : Bool) (fs : List Factor) (p q : Position) (k : Kind) (g l : List ℕ) → IsLetter k l
      → IsScannedAt ts m fs p g → after_letter k p ≡ Some q → IsScannedAt ts m fs q (g ++ l)
  letter_step ts m fs Begin q k g l is h e = first_letter ts m fs Begin q k g l is tt h e
  letter_step ts m fs Signed q k g l is h e = first_letter ts m fs Signed q k g l is tt h e
  letter_step ts m fs Starred q k g l is h e = first_letter ts m fs Starred q k g l is tt h e
  letter_step ts m fs (Letter j) q k g l is h e = absurd cc
  letter_step ts m fs (Spaced j) q k g l is h e = absurd cc
  letter_step ts m fs (Raised j) q k g l is h e = absurd cc
  letter_step ts m fs (Digits j count n) q k g l is h e = absurd cc
  letter_step ts m fs (Behind j n) q k g l is h e = absurd cc

  raise_step : (ts : List Term) (m : Bool) (fs : List Factor) (p q : Position) (g : List ℕ) → IsScannedAt ts m fs p g
      → after_raise p ≡ Some q → IsScannedAt ts m fs q (g ++ codes "^")
  raise_step ts m fs Begin q g h e = absurd cc
  raise_step ts m fs Signed q g h e = absurd cc
  raise_step ts m fs Starred q g h e = absurd cc
  raise_step ts m fs (Letter k) q g h e = arrive (λ r. IsScannedAt ts m fs r (g ++ codes "^")) (Raised k) q e
      (then_more g (codes "^") h (λ c l. then_of c (codes "^") l (around_of (codes "^") [] tt)))
  raise_step ts m fs (Spaced k) q g h e = arrive (λ r. IsScannedAt ts m fs r (g ++ codes "^")) (Raised k) q e
      (then_more g (codes "^") h (λ c t. then_more c (codes "^") t (λ d all. around_of (codes "^") d all)))
  raise_step ts m fs (Raised k) q g h e = absurd cc
  raise_step ts m fs (Digits k count n) q g h e = absurd cc
  raise_step ts m fs (Behind k n) q g h e = absurd cc

  -- ---- all steps

  moved_some : (s t : Scan) (o : Option Position) → moved s o ≡ Some t
      → (q : Position) × (o ≡ Some q) × (scan_at s.terms s.minus s.factors q ≡ t)
  moved_some s t (Some q) e = (q, refl, cc)
  moved_some s t None e = absurd cc

  moved_step : (s t : Scan) (o : Option Position) (h : List ℕ) → moved s o ≡ Some t
      → ((q : Position) → o ≡ Some q → IsScannedAt s.terms s.minus s.factors q h) → IsScanned t h
  moved_step s t o h e steps =
      let w = moved_some s t o e in
      subst (λ (u : Scan). IsScanned u h) w.2 (steps w.0 w.1)

  star_step : (s t : Scan) (g : List ℕ) → IsScanned s g → after_star s ≡ Some t → IsScanned t (g ++ codes "*")
  star_step s t g h e = go (ended s.position) refl e
    where
      go : (o : Option Factor) → ended s.position ≡ o
          → option_map (λ f. record {
            terms = s.terms;
            minus = s.minus;
            factors = s.factors
                ++ f ∷ [];
            position = Starred;
          }) o ≡ Some t → IsScanned t (g ++ codes "*")
      go None is none = absurd cc
      go (Some f) is some =
          let same : scan_at s.terms s.minus (s.factors ++ f ∷ []) Starred ≡ t = cc in
          subst (λ (u : Scan). IsScanned u (g ++ codes "*")) same
          (then_more g (codes "*") (factors_done s.terms s.minus s.factors f g
          (ended_factor s.terms s.minus s.factors s.position g f h is))
          (λ c u. then_more c (codes "*") u (λ d all. around_of (codes "*") d all)))

  next_sign : (m : Bool) (g : List ℕ) → Blanks g → NextSign m (g ++ (cond m (codes "-") (codes "+")))
  next_sign true g all = around_of (codes "-") g all
  next_sign false g all = around_of (codes "+") g all

  sign_step : (m : Bool) (s t : Scan) (g : List ℕ) → IsScanned s g → after_sign m s ≡ Some t
      → IsScanned t (g ++ (cond m (codes "-") (codes "+")))
  sign_step m s t g h e = go (ended s.position) refl e
    where
      go : (o : Option Factor) → ended s.position ≡ o
          → option_map (λ f. record {
            terms = s.terms
                ++ term_of s.minus (s.factors ++ f ∷ []) ∷ [];
            minus = m;
            factors = [];
            position = Signed;
          }) o ≡ Some t
          → IsScanned t (g ++ (cond m (codes "-") (codes "+")))
      go None is none = absurd cc
      go (Some f) is some =
          let same : scan_at (s.terms ++ term_of s.minus (s.factors ++ f ∷ []) ∷ []) m [] Signed ≡ t = cc in
          subst (λ (u : Scan). IsScanned u (g ++ (cond m (codes "-") (codes "+")))) same (
            refl,
            inr (then_more g (cond m (codes "-") (codes "+"))
                (terms_done s.terms s.minus s.factors s.position g f h is) (λ c all. next_sign m c all)),
          )

  minus_step : (s t : Scan) (p : Position) (g : List ℕ) → s.position ≡ p → IsScanned s g → after_minus s p ≡ Some t
      → IsScanned t (g ++ codes "-")
  minus_step s t Begin g is h e =
      let same : scan_at s.terms true s.factors Signed ≡ t = cc in
      let b : IsScannedAt s.terms s.minus s.factors Begin g = subst
      (λ (p : Position). IsScannedAt s.terms s.minus s.factors p g) is h in
      let nothing : g ++ codes "-" ≡ codes "-" = ap (λ x. x ++ codes "-") b.3 in
      subst (λ (u : Scan). IsScanned u (g ++ codes "-")) same
      (b.2, inl (b.0, refl, subst (FirstSign true) (sym nothing) (then_blanks (codes "-") refl)))
  minus_step s t Signed g is h e = absurd cc
  minus_step s t Starred g is h e = absurd cc
  minus_step s t (Letter k) g is h e = sign_step true s t g h e
  minus_step s t (Spaced k) g is h e = sign_step true s t g h e
  minus_step s t (Raised k) g is h e = absurd cc
  minus_step s t (Digits k count n) g is h e = sign_step true s t g h e
  minus_step s t (Behind k n) g is h e = sign_step true s t g h e

  allowed : {A : Type 0} (b : Bool) (o : Option A) (x : A) → cond b o None ≡ Some x → (b ≡ true) × (o ≡ Some x)
  allowed true o x e = (refl, e)
  allowed false o x e = absurd cc

  at_byte : (s : Scan) (g : List ℕ) (b c : ℕ) → b ≡ c → IsScanned s (g ++ c ∷ []) → IsScanned s (g ++ b ∷ [])
  at_byte s g b c e h = subst (λ (x : ℕ). IsScanned s (g ++ x ∷ [])) (sym e) h

  mark_step : (m : Mark) (s t : Scan) (g : List ℕ) (b : ℕ) → IsMarked b m → IsScanned s g
      → after_mark rules s m ≡ Some t → IsScanned t (g ++ b ∷ [])
  mark_step marks.Blank s t g b is h e = moved_step s t (after_blank s.position) (g ++ b ∷ []) e
      (λ q r. blank_step s.terms s.minus s.factors s.position q g b is h r)
  mark_step (marks.Digit d) s t g b is h e = moved_step s t (after_digit d s.position) (g ++ b ∷ []) e
      (λ q r. digit_step s.terms s.minus s.factors s.position q g b is.0 h
      (subst (λ (n : ℕ). after_digit n s.position ≡ Some q) is.1 r))
  mark_step marks.X s t g b is h e = at_byte t g b 120 is
      (moved_step s t (after_letter kinds.X s.position) (g ++ codes "x") e
      (λ q r. letter_step s.terms s.minus s.factors s.position q kinds.X g (codes "x") refl h r))
  mark_step marks.Y s t g b is h e = at_byte t g b 121 is
      (moved_step s t (cond rules.y (after_letter kinds.Y s.position) None) (g ++ codes "y") e (λ q r.
      let w = allowed rules.y (after_letter kinds.Y s.position) q r in
      letter_step s.terms s.minus s.factors s.position q kinds.Y g (codes "y") (w.0, refl) h w.1))
  mark_step marks.Raise s t g b is h e = at_byte t g b 94 is
      (moved_step s t (after_raise s.position) (g ++ codes "^") e
      (λ q r. raise_step s.terms s.minus s.factors s.position q g h r))
  mark_step marks.Star s t g b is h e = at_byte t g b 42 is (star_step s t g h e)
  mark_step marks.Plus s t g b is h e = at_byte t g b 43 is
      (sign_step false s t g h (allowed rules.signs (after_sign false s) t e).1)
  mark_step marks.Minus s t g b is h e = at_byte t g b 45 is
      (minus_step s t s.position g refl h (allowed rules.signs (after_minus s s.position) t e).1)
  mark_step marks.Other s t g b is h e = absurd cc

  scanned_step : (s t : Scan) (g : List ℕ) (b : ℕ) → IsScanned s g → scan_step rules s b ≡ Some t
      → IsScanned t (g ++ b ∷ [])
  unfolding scan_step
  scanned_step s t g b h e = mark_step (mark_of b) s t g b (marked b) h e

  -- what leads to a state is read so
  pub scanned : (g : List ℕ) (s : Scan) → Leads (scan_step rules) begun g s → IsScanned s g
  scanned g s leads = along (scan_step rules) IsScanned scanned_step begun s [] g (refl, refl, refl, refl) leads
