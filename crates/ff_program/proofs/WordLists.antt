-- The words of a command line.
use Rattle.std.proofs.Common.{◌≡◌, ℕ, ◌<◌, ◌≤◌, ◌↔◌, List, [], ◌∷◌, length, get_or, map, Bool, true, false, IsTrue, nat_eq, sym, ap, ◌∙◌, arith, refl}
use Rattle.std.specs.Cmp.Lexicographic.{same_text, other_text}
use lib.Pointwise.{pointwise}

-- one word, compared byte by byte
pub one_word : {A : Type 0} (f : A → List ℕ) (text : List ℕ) (ws : List A) (w : A) (r : Bool) → 1 ≤ length ws
    → length ws < 2 → w ≡ get_or ws 0 w
    → r ≡ pointwise nat_eq (f w) text → IsTrue r ↔ (map f ws ≡ text ∷ [])
one_word f text [] w r some few is same = absurd (omega arith)
one_word f text (v ∷ u ∷ ws) w r some few is same = absurd (omega arith)
one_word f text (v ∷ []) w r some few is same = (to, from r same)
  where
    to : IsTrue r → map f (v ∷ []) ≡ text ∷ []
    to t = ap (λ x. x ∷ []) (ap f (sym is) ∙ same_text (f w) text (sym t ∙ same))

    from : (r : Bool) → r ≡ pointwise nat_eq (f w) text → map f (v ∷ []) ≡ text ∷ [] → IsTrue r
    from true e m = refl
    from false e m = absurd (other_text (f w) text e (ap f is ∙ (cc m)))
