-- The constants are printed in one way, and there is one genus.
use Rattle.std.proofs.Common.{◌≡◌, ℕ, ◌≤◌, List, [], ◌∷◌, length, map, refl, sym, ap, ap₂, ◌∙◌, arith}
use Rattle.ff_fields.specs.Field.{CodeField}
use Rattle.function_field.specs.Curves.{CurveValue, IsCurve}
use Rattle.function_field.specs.Divisors.{IsConstant}
use Rattle.function_field.specs.Values.{ElemValue, setting, equation_of}
use Rattle.divisor_theory.proofs.Genus.{genus_once}
use Rattle.value_theory.proofs.InfiniteLattices.{finite_disc}
use Rattle.ff_text.specs.Printed.{WrittenValue}
use Rattle.ff_written.specs.LowestTerms.{elem_of}
use Rattle.ff_space.proofs.OnePrinted.{one_basis}
use Rattle.ff_cert.specs.RowConstants as constants_row
use Rattle.ff_cert.specs.RowGenus as genus_row

same_written_parts : (zs ws : List WrittenValue) → map elem_of zs ≡ map elem_of ws → zs ≡ ws
same_written_parts [] [] e = refl
same_written_parts [] (w ∷ ws) e = absurd cc
same_written_parts (z ∷ zs) [] e = absurd cc
same_written_parts (z ∷ zs) (w ∷ ws) e =
    let first : elem_of z ≡ elem_of w = cc in
    let others : map elem_of zs ≡ map elem_of ws = cc in
    ap₂ (λ x xs. x ∷ xs) (λ i. record { num = (first i).num; den = (first i).den }) (same_written_parts zs ws others)

module _ (k : CodeField) (c : CurveValue) (curve : IsCurve k c) where
  some : 1 ≤ c.fin.n
  some = let two = curve.at_least_two in omega (arith, two)

  pub one_constants : (m n : ℕ) (zs ws : List WrittenValue) → constants_row.IsTrue k c.fin m zs
      → constants_row.IsTrue k c.fin n ws → (m ≡ n) × (zs ≡ ws)
  one_constants m n zs ws h g =
      let same = same_written_parts zs ws
      (one_basis k c.fin some (IsConstant (setting k c.fin)) (map elem_of zs) (map elem_of ws) h.printed
      g.printed) in
      (h.count ∙ ap length same ∙ sym g.count, same)

  pub one_genus : (g h : ℕ) → genus_row.IsTrue k c.fin g → genus_row.IsTrue k c.fin h → g ≡ h
  one_genus g h i j = genus_once (equation_of k c.fin) (finite_disc k c curve) i.field g h i.is j.is
