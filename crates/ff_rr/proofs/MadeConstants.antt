-- The constants as they are made: the printed basis of the x^j·b_i with 0 ≤ j ≤ -d_i, for a basis of both orders.
use Rattle.std.proofs.Common.{◌≡◌, ◌↔◌, List, map, ◌∙◌, ap, ap₂, subst, All}
use Rattle.std.proofs.Math.IntN.{ℤ}
use Rattle.ff_fields.specs.Field.{CodeField}
use Rattle.function_field.specs.Divisors.{IsConstant, IsSpaceBasis}
use Rattle.function_field.specs.Curves.{CurveValue}
use Rattle.function_field.specs.Values.{ElemValue, PresValue, IsElem, Functions, function_of, equation_of, setting}
use Rattle.space_theory.proofs.Laws.{basis_same}
use Rattle.ff_lattice.specs.Lattices.{LatticeValue}
use Rattle.ff_split.specs.Splits.{SplitValue}
use Rattle.ff_space.specs.Spaces.{SpaceValue, InCodeSpan, IsPrintedSpace}
use Rattle.ff_space.specs.Layers.{layer_functions}
use Rattle.ff_rr.specs.Frames.{FrameValue, IsFrame}
use Rattle.ff_rr.specs.Constants.{IsSplitOf, IsConstantSpace}
use Rattle.ff_rr.proofs.FrameSets.{frame_disc}
use Rattle.ff_rr.proofs.ConstantSpaces.{constants_spanned, frame_constants}
use Rattle.ff_rr.proofs.PrintedSpaces.{printed_same}

module _ (k : CodeField) (f : FrameValue) (h : IsFrame k f) (s : SplitValue) (split : IsSplitOf k f s) where
  -- the functions span the constants
  spanned_constants : (z : Functions k f.curve.fin)
      → InCodeSpan k f.curve.fin (layer_functions k f.curve.fin s.basis s.degrees) z
      ↔ IsConstant (setting k f.curve.fin) z
  spanned_constants =
      constants_spanned (equation_of k f.curve.fin) (frame_disc k f h)
      (layer_functions k f.curve.fin s.basis s.degrees)
      (frame_constants k f h (map (function_of k f.curve.fin) s.basis) s.degrees split.both split.sum)

  pub made_constants : (t : SpaceValue)
      → IsPrintedSpace k f.curve.fin (InCodeSpan k f.curve.fin (layer_functions k f.curve.fin s.basis s.degrees)) t
      → IsSpaceBasis (setting k f.curve.fin)
      (InCodeSpan k f.curve.fin (layer_functions k f.curve.fin s.basis s.degrees))
      (map (function_of k f.curve.fin) t.functions)
      → All (IsElem k.ops f.curve.fin.n) t.functions
      → IsConstantSpace k f (record { split = s; space = t })
  made_constants t printed basis elements = record {
    split = split;
    printed =
        printed_same k f.curve.fin (InCodeSpan k f.curve.fin (layer_functions k f.curve.fin s.basis s.degrees))
        (IsConstant (setting k f.curve.fin)) spanned_constants t printed;
    elements = elements;
    basis =
        basis_same (equation_of k f.curve.fin)
        (InCodeSpan k f.curve.fin (layer_functions k f.curve.fin s.basis s.degrees))
        (IsConstant (setting k f.curve.fin)) spanned_constants (map (function_of k f.curve.fin) t.functions) basis;
  }

-- what the making of the printed basis says of it
pub record IsSpanOf (k : CodeField) (p : PresValue) (zs : List ElemValue) (ds : List ℤ) (t : SpaceValue) : Type 0 where
  pub space : IsPrintedSpace k p (InCodeSpan k p (layer_functions k p zs ds)) t
  pub basis :
      IsSpaceBasis (setting k p) (InCodeSpan k p (layer_functions k p zs ds)) (map (function_of k p) t.functions)
  pub elements : All (IsElem k.ops p.n) t.functions

module _ (k : CodeField) (f : FrameValue) (h : IsFrame k f) where
  -- the same by equal parts of the frame
  pub constants_of_equals : (c : CurveValue) (fin inf : LatticeValue) (p : PresValue) (zs : List ElemValue)
      (ds : List ℤ) (s : SplitValue) (t : SpaceValue) → c ≡ f.curve → fin ≡ f.fin → inf ≡ f.inf → p ≡ f.curve.fin
      → zs ≡ s.basis → ds ≡ s.degrees → IsSplitOf k (record { curve = c; fin = fin; inf = inf }) s
      → IsSpanOf k p zs ds t → IsConstantSpace k f (record { split = s; space = t })
  constants_of_equals c fin inf p zs ds s t c_is fin_is inf_is p_is zs_is ds_is split span =
      let i =
      subst (λ (q : PresValue). IsSpanOf k q s.basis s.degrees t) p_is
      (subst (λ es. IsSpanOf k p s.basis es t) ds_is (subst (λ ws. IsSpanOf k p ws ds t) zs_is span)) in
      made_constants k f h s (subst (λ (g : FrameValue). IsSplitOf k g s) frame_is split) t i.space i.basis i.elements
    where
      frame_is : record { curve = c; fin = fin; inf = inf } ≡ f
      frame_is =
          ap₂ (λ (a : LatticeValue) (b : LatticeValue). record { curve = c; fin = a; inf = b }) fin_is inf_is
          ∙ ap (λ (q : CurveValue). record { curve = q; fin = f.fin; inf = f.inf }) c_is
