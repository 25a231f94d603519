use Rattle.std.proofs.Common.{◌≡◌, ℕ, ◌<◌, length, take, get_or, All}
use Rattle.ff_poly.specs.TermWords.{IsTerms, IsUpTo, code_at}
use Rattle.ff_poly.proofs.terms.Terms.from_list.Given as goal

abbrev pub invariant-loop-i : goal.invariant-loop-i
invariant-loop-i g l =
    let k = g.K.SmallField.field l.k in
    record {
      terms : IsTerms l.terms.items;
      terms_in : All (λ t. t.2 < k.size) l.terms.items;
      up_to : (d : ℕ × ℕ × ℕ) → l.i < length l.sorted.items
          → All (λ u. IsUpTo u (get_or l.sorted.items l.i d)) l.terms.items;
      codes : (i j : ℕ) → code_at k.ops i j l.terms.items ≡ code_at k.ops i j (take l.i l.sorted.items);
    }
