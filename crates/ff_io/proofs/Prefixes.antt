-- Lists that begin with another one.
use Rattle.std.proofs.Common.{ℕ, List, [], ◌++◌, take, drop, refl, sym, ap, ◌∙◌, append-nil, append_assoc, take-append-drop}
use Rattle.ff_io.specs.Streams.{IsPrefix}

pub prefix_nil : (xs : List ℕ) → IsPrefix [] xs
prefix_nil xs = record { rest = xs; joined = refl }

pub prefix_refl : (xs : List ℕ) → IsPrefix xs xs
prefix_refl xs = record { rest = []; joined = append-nil xs }

pub prefix_append : (xs ys : List ℕ) → IsPrefix xs (xs ++ ys)
prefix_append xs ys = record { rest = ys; joined = refl }

pub prefix_take : (n : ℕ) (xs : List ℕ) → IsPrefix (take n xs) xs
prefix_take n xs = record { rest = drop n xs; joined = take-append-drop n xs }

-- a prefix of a prefix
pub prefix_trans : (xs ys zs : List ℕ) → IsPrefix xs ys → IsPrefix ys zs → IsPrefix xs zs
prefix_trans xs ys zs p q = record {
  rest = p.rest ++ q.rest;
  joined = sym (append_assoc xs p.rest q.rest) ∙ ap (λ l. l ++ q.rest) p.joined ∙ q.joined;
}

-- a prefix stays one where the list goes on
pub prefix_append_right : (xs ys zs : List ℕ) → IsPrefix xs ys → IsPrefix xs (ys ++ zs)
prefix_append_right xs ys zs p = prefix_trans xs ys (ys ++ zs) p (prefix_append ys zs)

-- what stands behind the same list
pub prefix_append_left : (front xs ys : List ℕ) → IsPrefix xs ys → IsPrefix (front ++ xs) (front ++ ys)
prefix_append_left front xs ys p = record {
  rest = p.rest;
  joined = append_assoc front xs p.rest ∙ ap (λ l. front ++ l) p.joined;
}
