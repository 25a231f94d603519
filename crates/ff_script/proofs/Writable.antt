-- What is spelled can be written.
use Rattle.std.proofs.Common.{◌≢◌, ℕ, ◌<◌, Bool, true, false, List, [], ◌∷◌, codes, Option, Some, None, arith, inl, inr}
use Rattle.std.specs.Prelude.{IfSome}
use Rattle.std.specs.List.{AllByRecursion}
use Rattle.ff_text.specs.declared.terms.Factor.{Factor}
use Rattle.ff_text.specs.declared.terms.Factor.TheVariants.{Code, X, Y}
use Rattle.ff_text.specs.declared.terms.Term.{Term}
use Rattle.ff_text.specs.declared.terms.ElemText.{ElemText}
use Rattle.ff_text.specs.Spelling.{Then, Around, Each, SpellsPower, SpellsFactor, SpellsFactors, SpellsNext, SpellsTerms, SpellsDen, SpellsTail, SpellsEntries, SpellsElement}
use Rattle.ff_text.specs.Printing.{IsWritableFactor, IsWritableTerm, IsWritableTerms, IsWritableElement}
use Rattle.ff_text.proofs.Digits.{number_small}
use Rattle.ff_script.specs.declared.script.Over.{Over}
use Rattle.ff_script.specs.declared.script.Over.TheVariants.{At, Inf}
use Rattle.ff_script.specs.declared.script.Statement.{Statement}
use Rattle.ff_script.specs.declared.script.Statement.TheVariants.{FieldOf, CurveOf, Mul, OrderOf, Places, Place, Constants, Genus}
use Rattle.ff_script.specs.declared.script.Statement.TheVariants as statements
use Rattle.ff_script.specs.Grammar.{AreNumbers, numbers_of, SpellsOver, ArePartsOf, SpellsLine}
use Rattle.ff_script.specs.Printing.{IsShort, IsWritableOver, IsWritable}

power_writable : (letter : List ℕ) (n : ℕ) (bytes : List ℕ) → SpellsPower letter n bytes → n < 1000000000
power_writable letter n bytes (inl h) = let one = h.0 in omega arith
power_writable letter n bytes (inr h) = number_small n h.second.back h.second.second

module _ {V : Type 0} (Part : V → List ℕ → Type 0) (P : V → Type 0) where
  each_holds : (vs : List V) (bytes : List ℕ) → ((v : V) (b : List ℕ) → Part v b → P v) → Each Part vs bytes
      → AllByRecursion P vs
  each_holds [] bytes f h = tt
  each_holds (v ∷ vs) bytes f h = (f v h.front h.first, each_holds vs h.back f h.second)

module _ (with_y : Bool) where
  factor_writable : (f : Factor) (bytes : List ℕ) → SpellsFactor with_y f bytes → IsWritableFactor with_y f
  factor_writable (Code n) bytes h = number_small n bytes h
  factor_writable (X n) bytes h = power_writable (codes "x") n bytes h
  factor_writable (Y n) bytes h = (h.0, power_writable (codes "y") n bytes h.1)

  factors_writable : (fs : List Factor) (bytes : List ℕ) → SpellsFactors with_y fs bytes
      → (fs ≢ []) × AllByRecursion (IsWritableFactor with_y) fs
  factors_writable [] bytes h = absurd h
  factors_writable (f ∷ fs) bytes h = (
    λ e. cc,
    (
      factor_writable f h.front h.first,
      each_holds (λ g. Then (Around (codes "*")) (SpellsFactor with_y g)) (IsWritableFactor with_y) fs h.back
          (λ g b k. factor_writable g k.back k.second) h.second,
    ),
  )

  pub terms_writable : (ts : List Term) (bytes : List ℕ) → SpellsTerms with_y ts bytes → IsWritableTerms with_y ts
  terms_writable [] bytes h = absurd h
  terms_writable (t ∷ ts) bytes h = (
    λ e. cc,
    (
      factors_writable t.factors h.first.back h.first.second,
      each_holds (SpellsNext with_y) (IsWritableTerm with_y) ts h.back
          (λ u b k. factors_writable u.factors k.back k.second) h.second,
    ),
  )

entries_writable : (es : List (List Term)) (bytes : List ℕ) → SpellsEntries es bytes
    → (es ≢ []) × AllByRecursion (IsWritableTerms false) es
entries_writable [] bytes h = absurd h
entries_writable (e ∷ es) bytes h = (
  λ k. cc,
  (
    terms_writable false e h.front h.first,
    each_holds (λ d. Then (Around (codes ",")) (SpellsTerms false d)) (IsWritableTerms false) es h.back
        (λ d b k. terms_writable false d k.back k.second) h.second,
  ),
)

den_writable : (d : List Term) (bytes : List ℕ) → SpellsDen d bytes → IsWritableTerms false d
den_writable [] bytes (inl h) = absurd h
den_writable (t ∷ []) bytes (inl h) = (λ e. cc, (factors_writable false t.factors bytes h.1, tt))
den_writable (t ∷ u ∷ ts) bytes (inl h) = absurd h
den_writable d bytes (inr h) = terms_writable false d h.second.second.front h.second.second.first

tail_writable : (den : Option (List Term)) (bytes : List ℕ) → SpellsTail den bytes → IfSome den (IsWritableTerms false)
tail_writable None bytes h = tt
tail_writable (Some d) bytes h = den_writable d h.back h.second

element_writable : (e : ElemText) (bytes : List ℕ) → SpellsElement e bytes → IsWritableElement e
element_writable e bytes h =
    let inner = h.first.second.second in
    let entries = entries_writable e.entries inner.front inner.first in
    record { some = entries.0; entries = entries.1; den = tail_writable e.den h.back h.second }

numbers_writable : (ns : List ℕ) (parts : List (List ℕ)) → AreNumbers ns parts → AllByRecursion IsShort ns
numbers_writable [] parts h = tt
numbers_writable (n ∷ ns) [] h = absurd h
numbers_writable (n ∷ ns) (part ∷ parts) h = (number_small n part h.0, numbers_writable ns parts h.1)

over_writable : (over : Over) (bytes : List ℕ) → SpellsOver over bytes → IsWritableOver over
over_writable (At g) bytes h = terms_writable false g bytes h
over_writable Inf bytes h = tt

parts_writable : (s : Statement) (parts : List (List ℕ)) → ArePartsOf s parts → IsWritable s
parts_writable (FieldOf p tail) parts h = (numbers_writable (p ∷ numbers_of tail) h.0 h.2, h.3)
parts_writable (CurveOf f) parts h = terms_writable true f h.0 h.2
parts_writable (Mul a b) parts h = (element_writable a h.0 h.3, element_writable b h.1 h.4)
parts_writable (statements.Factor g) parts h = terms_writable false g h.0 h.2
parts_writable (OrderOf side) parts h = tt
parts_writable (Places over) parts h = over_writable over h.0 h.2
parts_writable (Place name over index) parts h = (h.4.0, over_writable over h.1 h.5, number_small index h.2 h.6)
parts_writable Constants parts h = tt
parts_writable Genus parts h = tt

-- a statement that a line spells can be written
pub line_writable : (s : Statement) (line : List ℕ) → SpellsLine s line → IsWritable s
line_writable s line h = parts_writable s h.second.first.parts h.second.first.named
