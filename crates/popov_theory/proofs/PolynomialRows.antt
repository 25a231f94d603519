-- The module of the rows of n polynomials has the operations of rows.
use Rattle.std.proofs.Common.{◌≡◌, ℕ, suc, ◌<◌, ◌+◌, ◌*◌, refl}
use Rattle.ring_lemmas.specs.Ring.{TestedRing}
use Rattle.ring_lemmas.specs.Lists.{coeff_of}
use Rattle.ring_lemmas.specs.Rows.{Row, row_zero, row_add, row_neg, row_scale, entry}
use Rattle.ring_lemmas.specs.Polynomials.{Pol}
use Rattle.ring_theory.specs.PolynomialRing.{pol_ring}
use Rattle.ring_theory.proofs.PolynomialRows.{row_coef_at}
use Rattle.popov_theory.specs.RowModule.{row_module}

module _ {A : Type 0} (k : TestedRing A) where
  abbrev P : TestedRing (Pol k)
  P = pol_ring k

  module _ (n : ℕ) where
    abbrev pub w : ℕ
    w = suc n

    pub row_width : (row_module k n).width ≡ w
    unfolding row_module
    row_width = refl

    -- the coefficient at a position is that of an entry
    pub row_entry : (v : Row (Pol k) w) (s j : ℕ) → j < w → (row_module k n).coef v (s * (row_module k n).width + j)
        ≡ coeff_of k.ops (entry P.ops w j v).0 s
    unfolding row_module
    row_entry v s j less = row_coef_at k n v s j less

    -- its operations are those of rows
    pub row_module_zero : (row_module k n).𝟎 ≡ row_zero P.ops w
    unfolding row_module
    row_module_zero = refl

    pub row_module_add : (u v : Row (Pol k) w) → (row_module k n).◌⊞◌ u v ≡ row_add P.ops w u v
    unfolding row_module
    row_module_add u v = refl

    pub row_module_neg : (v : Row (Pol k) w) → (row_module k n).⊟◌ v ≡ row_neg P.ops w v
    unfolding row_module
    row_module_neg v = refl

    pub row_module_scale : (c : Pol k) (v : Row (Pol k) w) → (row_module k n).◌·◌ c v ≡ row_scale P.ops w c v
    unfolding row_module
    row_module_scale c v = refl
