-- Steps of the loops that fill the rows of the matrix of q-th powers, flag by flag.
use Rattle.std.proofs.Common.{◌≡◌, ℕ, zero, suc, ◌+◌, ◌<◌, ◌≤◌, List, [], ◌∷◌, ◌++◌, Bool, true, false, Option, None, Some, MatchOption, Result, OnOk, length, get_or, set, replicate, refl, sym, ap, ap₂, ◌∙◌, subst, arith}
use Rattle.std.specs.Bool.{⊤}
use native.Mathlib.Decide.{ℕ_discrete}
use Rattle.std.proofs.lemmas.List.{get_or-set_same, get_or-set_other, get_or_push, get_or_append_left, length-set, length_push, length-replicate}
use Rattle.std.proofs.lemmas.Option.{MatchOption-at_some}
use Rattle.std.proofs.lemmas.Result.{on_ok_weaker}
use Rattle.ff_fields.specs.Field.{CodeField}
use Rattle.ff_linalg.specs.Matrix.{MatrixValue, HasShape, matrix_row, zero_matrix}
use Rattle.ff_linalg.specs.Steps.{unit_row}
use Rattle.ff_falg.specs.Algebras.{AlgebraOps, IsAlgebra, IsVector, power}
use Rattle.ff_falg.specs.Chains.{IsChainStep, AreStepsBelow, AreChains, IsFrobeniusAt, KeepsFlags}
use Rattle.ff_falg.specs.Spaces.{IsFrobenius}
use Rattle.ff_falg.specs.Steps.{with_matrix_row}
use Rattle.ff_falg.proofs.PowerLaws.{power_product, frobenius_values}
use Rattle.ff_falg.proofs.RowSteps.{with_row_shape, with_row_over, with_row_same, with_row_other, row_in, zero_holds}
use Rattle.ff_falg.proofs.UnitRows.{unit_in}
use Rattle.ff_falg.proofs.Vectors.{power_in}

-- ---- flags

pub flag_here : (old new : List Bool) (i : ℕ) → i < length old → new ≡ set old i true → get_or new i false ≡ true
flag_here old new i within new_is = ap (λ xs. get_or xs i false) new_is ∙ get_or-set_same old i true false within

pub flags_kept : (old new : List Bool) (i : ℕ) → i < length old → new ≡ set old i true → KeepsFlags old new
flags_kept old new i within new_is = record { kept = λ l e. go l e (ℕ_discrete l i) }
  where
    go : (l : ℕ) → get_or old l false ≡ true → Dec (l ≡ i) → get_or new l false ≡ true
    go l e (yes s) = ap (λ j. get_or new j false) s ∙ flag_here old new i within new_is
    go l e (no ne) = ap (λ xs. get_or xs l false) new_is ∙ get_or-set_other old i l true false ne ∙ e

pub flags_same : (flags : List Bool) → KeepsFlags flags flags
flags_same flags = record { kept = λ l e. e }

pub flags_trans : (a b c : List Bool) → KeepsFlags a b → KeepsFlags b c → KeepsFlags a c
flags_trans a b c h j = record { kept = λ l e. j.kept l (h.kept l e) }

-- the same of what a call keeps that is made then
pub kept_on : {T E : Type 0} (r : Result T E) (old mid new : List Bool) (i : ℕ) → i < length old → mid ≡ set old i true
    → OnOk r (KeepsFlags mid new) → OnOk r (KeepsFlags old new)
kept_on r old mid new i within mid_is h = on_ok_weaker r (flags_trans old mid new (flags_kept old mid i within mid_is))
    h

pub here_on : {T E : Type 0} (r : Result T E) (old mid new : List Bool) (i : ℕ) → i < length old → mid ≡ set old i true
    → OnOk r (KeepsFlags mid new) → OnOk r (get_or new i false ≡ true)
here_on r old mid new i within mid_is h = on_ok_weaker r (λ kept. kept.kept i (flag_here old mid i within mid_is)) h

no_flag : (n l : ℕ) → get_or (replicate n false) l false ≡ false
no_flag zero l = refl
no_flag (suc n) zero = refl
no_flag (suc n) (suc l) = no_flag n l

-- all flags below a position, and one more
pub record AreFlagged (flags : List Bool) (j : ℕ) : Type 0 where
  pub each : (l : ℕ) → l < j → get_or flags l false ≡ true

pub flagged_more : (old new : List Bool) (j : ℕ) → KeepsFlags old new → get_or new j false ≡ true → AreFlagged old j
    → AreFlagged new (j + 1)
flagged_more old new j h here before = record { each = λ l less. go l less (ℕ_discrete l j) }
  where
    go : (l : ℕ) → l < j + 1 → Dec (l ≡ j) → get_or new l false ≡ true
    go l less (yes s) = ap (λ i. get_or new i false) s ∙ here
    go l less (no ne) = h.kept l (before.each l (omega arith))

-- ---- the list of numbers

module _ (k : CodeField) (A : AlgebraOps) where
  pub no_steps : (z : List ℕ) (next : List (Option ℕ)) → next ≡ [] → AreStepsBelow k.ops A z next
  no_steps z next is = subst (AreStepsBelow k.ops A z) (sym is) (record { each = λ j i less e. absurd (omega arith) })

  pub steps_more : (z : List ℕ) (next new : List (Option ℕ)) (r : Option ℕ) (j : ℕ) → j ≡ length next
      → new ≡ next ++ r ∷ []
      → MatchOption r ⊤ (IsChainStep k.ops A z j) → AreStepsBelow k.ops A z next → AreStepsBelow k.ops A z new
  steps_more z next new r j size new_is step before =
      subst (AreStepsBelow k.ops A z) (sym new_is) (record { each = λ l i less e. go l i less e (ℕ_discrete l j) })
    where
      go : (l i : ℕ) → l < length (next ++ r ∷ []) → get_or (next ++ r ∷ []) l None ≡ Some i → Dec (l ≡ j)
          → IsChainStep k.ops A z l i
      go l i less e (yes s) =
          subst (λ m. IsChainStep k.ops A z m i) (sym s)
          (MatchOption-at_some ⊤ (IsChainStep k.ops A z j) i
          (sym (get_or_push next r None l (sym size ∙ sym s)) ∙ e) step)
      go l i less e (no ne) =
          let within : l < length next = let n = length_push next r in omega arith in
          before.each l i within (sym (get_or_append_left next (r ∷ []) None l within) ∙ e)

-- ---- rows

module _ (k : CodeField) (A : AlgebraOps) (law : IsAlgebra k A) where
  -- the q-th power of basis element l
  abbrev pub power_at : ℕ → List ℕ
  power_at l = power k.ops A (unit_row A.size l) k.size

  pub power_at_in : (l : ℕ) → l < A.size → IsVector k.ops A.size (power_at l)
  power_at_in l less = power_in k A law (unit_row A.size l) k.size (unit_in k A.size l less)

  pub filled : (done now : List Bool) (m new : MatrixValue) (i : ℕ) (row : List ℕ) → i < A.size → row ≡ power_at i
      → new ≡ with_matrix_row m i row
      → now ≡ set done i true → IsFrobeniusAt k.ops A done m → IsFrobeniusAt k.ops A now new
  filled done now m new i row within row_is new_is now_is h =
      subst (λ d. IsFrobeniusAt k.ops A d new) (sym now_is)
      (subst (IsFrobeniusAt k.ops A (set done i true)) (sym (new_is ∙ ap (with_matrix_row m i) row_is)) (record {
        shape = with_row_shape m A.size A.size i (power_at i) h.shape (power_at_in i within).size;
        over = with_row_over k m i (power_at i) h.over (power_at_in i within).over;
        size = length-set done i true ∙ h.size;
        rows = λ l less e. go l less e (ℕ_discrete l i);
      }))
    where
      go : (l : ℕ) → l < A.size → get_or (set done i true) l false ≡ true → Dec (l ≡ i)
          → matrix_row (with_matrix_row m i (power_at i)) l ≡ power_at l
      go l less e (yes s) =
          ap (matrix_row (with_matrix_row m i (power_at i))) s
          ∙ with_row_same m i (power_at i) (let r = h.shape.row_count in omega arith) ∙ sym (ap power_at s)
      go l less e (no ne) = with_row_other m i l (power_at i) ne
          ∙ h.rows l less (sym (get_or-set_other done i l true false ne) ∙ e)

  -- a row is that of the one before it, times the power of z
  pub next_power : (z_power : List ℕ) (next : List (Option ℕ)) (done : List Bool) (m : MatrixValue) (j i : ℕ)
      → AreChains k.ops A z_power next
      → IsFrobeniusAt k.ops A done m → j < A.size → get_or next j None ≡ Some i → get_or done j false ≡ true
      → A.product k.ops z_power (matrix_row m j) ≡ power_at i
  next_power z_power next done m j i h f less is here =
      ap₂ (A.product k.ops) h.power_is (f.rows j less here)
      ∙ power_product k A law h.z (unit_row A.size j) k.size h.z_in (unit_in k A.size j less)
      ∙ ap (λ x. power k.ops A x k.size) (h.steps.each j i (let s = h.size in omega arith) is).is

  pub next_within : (z_power : List ℕ) (next : List (Option ℕ)) (j i : ℕ) → AreChains k.ops A z_power next → j < A.size
      → get_or next j None ≡ Some i
      → i < A.size
  next_within z_power next j i h less is = (h.steps.each j i (let s = h.size in omega arith) is).within

  pub chain_power_in : (z_power : List ℕ) (next : List (Option ℕ)) → AreChains k.ops A z_power next
      → IsVector k.ops A.size z_power
  chain_power_in z_power next h = subst (IsVector k.ops A.size) (sym h.power_is) (power_in k A law h.z k.size h.z_in)

  pub filled_row_in : (done : List Bool) (m : MatrixValue) (j : ℕ) → IsFrobeniusAt k.ops A done m → j < A.size
      → IsVector k.ops A.size (matrix_row m j)
  filled_row_in done m j h less = row_in k m A.size A.size j h.shape h.over less

  pub none_filled : (done : List Bool) (m : MatrixValue) (n : ℕ) → n ≡ A.size → done ≡ replicate n false
      → m ≡ zero_matrix n n → IsFrobeniusAt k.ops A done m
  none_filled done m n size done_is m_is =
      let z = zero_holds k power_at n n in
      let shape_is = subst (λ i. HasShape (zero_matrix n n) i i) size z.shape in
      subst (λ d. IsFrobeniusAt k.ops A d m) (sym done_is)
      (subst (IsFrobeniusAt k.ops A (replicate n false)) (sym m_is) (record {
        shape = shape_is;
        over = z.over;
        size = length-replicate {A = Bool} n false ∙ size;
        rows = λ l less e. let f : false ≡ true = sym (no_flag n l) ∙ e in absurd (cc);
      }))

  pub all_filled : (done : List Bool) (m : MatrixValue) (j : ℕ) → length done ≤ j → AreFlagged done j
      → IsFrobeniusAt k.ops A done m → IsFrobenius k.ops A m
  all_filled done m j le flags h =
      frobenius_values k A law m (λ l less. h.rows l less (flags.each l (let s = h.size in omega arith))) h.shape h.over
