-- What is computed of a function field once is the answer of its statements.
use Rattle.std.proofs.Common.{◌≡◌, ℕ, suc, ◌+◌, ◌<◌, List, [], ◌∷◌, ◌++◌, length, map, take, get_or, refl, sym, ap, ap₂, ◌∙◌, subst}
use Rattle.std.proofs.lemmas.List.{map-append, take_more}
use Rattle.ff_fields.specs.Field.{CodeField}
use Rattle.function_field.specs.Divisors.{IsConstant, IsSpaceBasis}
use Rattle.function_field.specs.Values.{ElemValue, setting, function_of}
use Rattle.ff_text.specs.Printed.{WrittenValue}
use Rattle.ff_written.specs.LowestTerms.{elem_of}
use Rattle.ff_rr.specs.Frames.{FrameValue}
use Rattle.ff_rr.specs.Constants.{SpaceBasisValue, IsConstantSpace}
use Rattle.ff_cert.specs.RowConstants as constants_row

-- one for each
same_length : (zs : List WrittenValue) → length (map elem_of zs) ≡ length zs
same_length [] = refl
same_length (z ∷ zs) = ap suc (same_length zs)

same_functions : {X : Type 0} (f : ElemValue → X) (zs : List WrittenValue)
    → map f (map elem_of zs) ≡ map (λ z. f (elem_of z)) zs
same_functions f [] = refl
same_functions f (z ∷ zs) = ap (λ xs. f (elem_of z) ∷ xs) (same_functions f zs)

-- one more written
pub written_more : (elems : List ElemValue) (i : ℕ) (z : ElemValue) (old new : List WrittenValue) (w : WrittenValue)
    → i < length elems → z ≡ get_or elems i z → map elem_of old ≡ take i elems → elem_of w ≡ z → new ≡ old ++ w ∷ []
    → map elem_of new ≡ take (i + 1) elems
written_more elems i z old new w less z_is so_far w_is new_is =
    ap (map elem_of) new_is
    ∙ map-append elem_of old (w ∷ [])
    ∙ ap₂ ◌++◌ so_far (ap (λ v. v ∷ []) (w_is ∙ z_is))
    ∙ sym (take_more elems i z less)

module _ (k : CodeField) (f : FrameValue) (s : SpaceBasisValue) (h : IsConstantSpace k f s) where
  pub constants_answer : (n : ℕ) (zs : List WrittenValue) → n ≡ length s.space.functions
      → map elem_of zs ≡ s.space.functions → constants_row.IsTrue k f.curve.fin n zs
  constants_answer n zs count same = record {
    count = count ∙ ap length (sym same) ∙ same_length zs;
    basis =
        subst (IsSpaceBasis (setting k f.curve.fin) (IsConstant (setting k f.curve.fin)))
        (ap (map (function_of k f.curve.fin)) (sym same) ∙ same_functions (function_of k f.curve.fin) zs) h.basis;
    printed = record { space = s.space; printed = h.printed; are = same };
  }
