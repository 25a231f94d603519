-- The texts of written functions, one after another.
use Rattle.std.proofs.Common.{◌≡◌, ℕ, ◌+◌, ◌<◌, List, [], ◌∷◌, ◌++◌, length, get_or, take, drop, sym, ap, ap₂, ◌∙◌, arith}
use Rattle.std.specs.Global.{Vec}
use Rattle.std.proofs.lemmas.List.{take_more, length-map, get_or-map}
use Rattle.ff_falg.specs.Idempotents.{elements_of}
use Rattle.ff_lattice.proofs.SumsAndProducts.{map_join}
use Rattle.ff_text.specs.Printed.{WrittenValue, elem_text}
use Rattle.ff_written.specs.TextOrder.{texts_of}
use Rattle.ff_written.proofs.TextOrder.{drop_at}

-- what is printed of a function
abbrev text : WrittenValue → List ℕ
text w = elem_text w.num w.den

pub texts_one_more : (rows : List WrittenValue) (i : ℕ) (z : WrittenValue) (old new : List (Vec ℕ)) (v : Vec ℕ)
    → i < length rows → z ≡ get_or rows i z → v.items ≡ elem_text z.num z.den → new ≡ old ++ v ∷ []
    → elements_of old ≡ texts_of (take i rows) → elements_of new ≡ texts_of (take (i + 1) rows)
texts_one_more rows i z old new v less z_is v_is new_is so_far =
    ap elements_of new_is ∙ map_join (λ (w : Vec ℕ). w.items) old (v ∷ [])
    ∙ ap₂ (λ ts t. ts ++ t ∷ []) so_far (v_is ∙ ap text z_is)
    ∙ sym (ap texts_of (take_more rows i z less) ∙ map_join text (take i rows) (get_or rows i z ∷ []))

-- a list of vectors from one of them on
pub vectors_at : (vs : List (Vec ℕ)) (i : ℕ) (v : Vec ℕ) → i < length vs → v ≡ get_or vs i v
    → drop i (elements_of vs) ≡ v.items ∷ drop (i + 1) (elements_of vs)
vectors_at vs i v l e =
    drop_at (elements_of vs) i v.items (let s = length-map vs (λ (w : Vec ℕ). w.items) in omega arith)
    (ap (λ (w : Vec ℕ). w.items) e ∙ sym (get_or-map (λ (w : Vec ℕ). w.items) vs i v v.items l))
