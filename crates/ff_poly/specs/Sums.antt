-- How a product is added to a list in place.
use Rattle.std.specs.Prelude.{List, [], ◌∷◌}
use Rattle.ring_lemmas.specs.Ring.{Operations}
use Rattle.ring_lemmas.specs.Lists.{add_lists, scale_list}

-- c·x·ys is added to zs at the position of each x of xs, from the top, where the product fits
abbrev pub add_onto : {A : Type 0} → Operations A → A → List A → List A → List A → List A
add_onto r c [] ys zs = zs
add_onto r c (x ∷ xs) ys [] = []
add_onto r c (x ∷ xs) ys (z ∷ zs) = add_lists r (z ∷ add_onto r c xs ys zs) (scale_list r (r.◌⊗◌ c x) ys)
