-- The primes of idempotents, one after another.
use Rattle.std.proofs.Common.{◌≡◌, ℕ, ◌+◌, ◌<◌, List, [], ◌∷◌, ◌++◌, length, get_or, take, sym, ap, ◌∙◌, subst, arith, All}
use Rattle.std.specs.Global.{Vec}
use Rattle.std.specs.List.{AllZip}
use Rattle.std.proofs.lemmas.List.{length-map, get_or-map, take_more}
use Rattle.std.proofs.lemmas.Slice.Zip.{all_zipped_more}
use Rattle.ff_falg.specs.Idempotents.{elements_of}
use Rattle.ff_lattice.proofs.SumsAndProducts.{map_join}

-- what holds of all elements holds of the one at a position
pub element_has : (P : List ℕ → Type 0) (es : List (Vec ℕ)) (i : ℕ) (e : Vec ℕ) → i < length es → e ≡ get_or es i e
    → All P (elements_of es) → P e.items
element_has P es i e less is all =
    subst P (get_or-map (λ (w : Vec ℕ). w.items) es i e e.items less ∙ ap (λ (w : Vec ℕ). w.items) (sym is))
    (all i e.items (let s = length-map es (λ (w : Vec ℕ). w.items) in omega arith))

-- one more of each
pub zipped_more : {Y : Type 0} (R : List ℕ → Y → Type 0) (es : List (Vec ℕ)) (i : ℕ) (e : Vec ℕ) (old new : List Y)
    (y : Y) → i < length es → e ≡ get_or es i e → R e.items y → new ≡ old ++ y ∷ []
    → AllZip R (elements_of (take i es)) old → AllZip R (elements_of (take (i + 1) es)) new
zipped_more R es i e old new y less is here new_is so_far =
    subst (AllZip R (elements_of (take (i + 1) es))) (sym new_is)
    (subst (λ xs. AllZip R xs (old ++ y ∷ []))
    (sym (ap elements_of (take_more es i e less)
    ∙ map_join (λ (w : Vec ℕ). w.items) (take i es) (get_or es i e ∷ [])))
    (all_zipped_more R (elements_of (take i es)) old (get_or es i e).items y so_far
    (subst (λ (w : Vec ℕ). R w.items y) is here)))
