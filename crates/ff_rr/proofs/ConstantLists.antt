-- What is known of the constants of a frame, by equal parts of them.
use Rattle.std.proofs.Common.{◌≡◌, ℕ, ◌≤◌, List, length, map, subst, sym, All}
use Rattle.std.specs.Global.{Vec}
use Rattle.ring_theory.specs.Subsets.{IsSubring}
use Rattle.ff_fields.specs.Field.{CodeField}
use Rattle.function_field.specs.Divisors.{IsConstant, IsSpaceBasis}
use Rattle.function_field.specs.Values.{ElemValue, PresValue, IsElem, functions, function_of, equation_of, setting}
use Rattle.constants_theory.proofs.ConstantSpace.{constants_ring}
use Rattle.value_theory.proofs.InfiniteLattices.{some}
use Rattle.ff_falg.specs.Algebras.{IsVector}
use Rattle.ff_falg.specs.Idempotents.{elements_of}
use Rattle.ff_structure.specs.Structures.{StructureValue}
use Rattle.idempotents_theory.specs.Coordinates.{IsStructureOf}
use Rattle.ff_space.specs.Spaces.{SpaceValue}
use Rattle.ff_text.specs.Printed.{WrittenValue}
use Rattle.ff_rr.specs.Frames.{FrameValue, IsFrame}
use Rattle.ff_rr.specs.Constants.{SpaceBasisValue, IsConstantSpace}
use Rattle.ff_rr.specs.Listings.{AreListed, function_at}
use Rattle.ff_rr.proofs.FrameSets.{frame_disc}

-- what holds of a presentation and a list holds of equal ones
moved : {X : Type 0} (Q : PresValue → X → Type 0) (p q : PresValue) (x y : X) → p ≡ q → x ≡ y → Q p x → Q q y
moved Q p q x y p_is x_is h = subst (λ (r : PresValue). Q r y) p_is (subst (Q p) x_is h)

module _ (k : CodeField) (f : FrameValue) (h : IsFrame k f) (s : SpaceBasisValue) (c : IsConstantSpace k f s)
    (p : PresValue) (p_is : p ≡ f.curve.fin) where
  pub some_at : 1 ≤ p.n
  some_at = subst (λ (q : PresValue). 1 ≤ q.n) (sym p_is) (some k f.curve h.curve)

  pub ring_at : IsSubring (functions k p).ops (IsConstant (setting k p))
  ring_at =
      subst (λ (q : PresValue). IsSubring (functions k q).ops (IsConstant (setting k q))) (sym p_is)
      (constants_ring (equation_of k f.curve.fin) (frame_disc k f h))

  pub elements_at : (zs : List ElemValue) → zs ≡ s.space.functions → All (IsElem k.ops p.n) zs
  elements_at zs zs_is =
      moved (λ q ws. All (IsElem k.ops q.n) ws) f.curve.fin p s.space.functions zs (sym p_is) (sym zs_is) c.elements

  pub basis_at : (t : SpaceValue) → t ≡ s.space
      → IsSpaceBasis (setting k p) (IsConstant (setting k p)) (map (function_of k p) t.functions)
  basis_at t t_is =
      moved (λ q (u : SpaceValue).
      IsSpaceBasis (setting k q) (IsConstant (setting k q)) (map (function_of k q) u.functions)) f.curve.fin p
      s.space t (sym p_is) (sym t_is) c.basis

  pub structure_at : (t : SpaceValue) (st : StructureValue) → t ≡ s.space
      → IsStructureOf (equation_of k p) (map (function_of k p) t.functions) st
      → IsStructureOf (equation_of k f.curve.fin) (map (function_of k f.curve.fin) s.space.functions) st
  structure_at t st t_is i =
      moved (λ q (u : SpaceValue). IsStructureOf (equation_of k q) (map (function_of k q) u.functions) st) p
      f.curve.fin t s.space p_is t_is i

  pub listed_at : (bs : List ElemValue) (vs ws : List (Vec ℕ)) (zs : List WrittenValue) → bs ≡ s.space.functions
      → vs ≡ ws → AreListed k p (map (function_at k p bs) (elements_of vs)) zs
      → AreListed k f.curve.fin (map (function_at k f.curve.fin s.space.functions) (elements_of ws)) zs
  listed_at bs vs ws zs bs_is vs_is i =
      moved (λ q cs. AreListed k q (map (function_at k q cs) (elements_of ws)) zs) p f.curve.fin bs s.space.functions
      p_is bs_is (subst (λ us. AreListed k p (map (function_at k p bs) (elements_of us)) zs) vs_is i)

-- vectors of so many codes by an equal list of functions, and an equal list of vectors
pub vectors_at : (k : CodeField) (bs cs : List ElemValue) (vs ws : List (Vec ℕ)) → bs ≡ cs → vs ≡ ws
    → All (IsVector k.ops (length cs)) (elements_of ws) → All (IsVector k.ops (length bs)) (elements_of vs)
vectors_at k bs cs vs ws bs_is vs_is h =
    subst (λ ds. All (IsVector k.ops (length ds)) (elements_of vs)) (sym bs_is)
    (subst (λ us. All (IsVector k.ops (length cs)) (elements_of us)) (sym vs_is) h)
