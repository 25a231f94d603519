use Rattle.std.proofs.Common.{◌≡◌, ℕ, ◌<◌, length, ap, ◌∙◌, arith}
use Rattle.std.proofs.lemmas.List.{take_all}
use Rattle.std.proofs.lemmas.List.Elements.{All-get_or, All-same}
use Rattle.std.proofs.lemmas.List.Sorted.{All-permutation}
use Rattle.ff_poly.specs.TermWords.{code_at}
use Rattle.ff_poly.proofs.TermSums.{code_at_permutation}
use Rattle.ff_poly.proofs.TermLists.{next_up_to, next_codes}
use Rattle.ff_poly.proofs.terms.Terms.from_list.Goals as goal

pub add_term-requires-clause-term_in : goal.add_term-requires-clause-term_in
add_term-requires-clause-term_in g c =
    let k = g.K.SmallField.field c.args.k.now in
    let sorted = c.sort_unstable.new.self.items in
    let less : c.loop-i.i < length sorted = omega arith in
    let same : c.in_ok-sorted.sorted.items
    ≡ c.args.list.now = c.in_ok-sorted.ensures.items_if_clones_equal (λ x y e. λ i. (e.0 i, e.1 i, e.2 i)) in
    let sorted_in = All-permutation (λ (u : ℕ × ℕ × ℕ). u.2 < k.size) c.in_ok-sorted.sorted.items sorted
    c.sort_unstable.ensures.permutation (All-same (λ (u : ℕ × ℕ × ℕ). u.2 < k.size) _ _ same c.requires.list_in)
    in
    rw (ap (λ (u : ℕ × ℕ × ℕ). u.2) c.index.ensures)
    (All-get_or (λ (u : ℕ × ℕ × ℕ). u.2 < k.size) sorted c.loop-i.i c.index.result.now less sorted_in)

pub loop-i-preserved : goal.loop-i-preserved
loop-i-preserved g c =
    let k = g.K.SmallField.field c.args.k.now in
    let sorted = c.sort_unstable.new.self.items in
    let less : c.loop-i.i < length sorted = omega arith in
    let same : c.in_ok-sorted.sorted.items
    ≡ c.args.list.now = c.in_ok-sorted.ensures.items_if_clones_equal (λ x y e. λ i. (e.0 i, e.1 i, e.2 i)) in
    let sorted_in = All-permutation (λ (u : ℕ × ℕ × ℕ). u.2 < k.size) c.in_ok-sorted.sorted.items sorted
    c.sort_unstable.ensures.permutation (All-same (λ (u : ℕ × ℕ × ℕ). u.2 < k.size) _ _ same c.requires.list_in)
    in
    let added = c.in_ok-add_term.ensures in
    record {
      terms = added.terms;
      terms_in = added.terms_in;
      up_to = next_up_to k sorted c.loop-i.terms.items c.add_term.new.terms.items c.loop-i.i c.index.result.now less
          c.index.ensures sorted_in c.loop-i.invariant.terms_in added
          (λ d next. c.sort_unstable.ensures.sorted c.loop-i.i d (omega arith) next);
      codes = next_codes k sorted c.loop-i.terms.items c.add_term.new.terms.items c.loop-i.i c.index.result.now less
          c.index.ensures sorted_in c.loop-i.invariant.terms_in added c.loop-i.invariant.codes;
    }

pub returns-clause-codes : goal.returns-clause-codes
returns-clause-codes g c =
    let k = g.K.SmallField.field c.args.k.now in
    let sorted = c.sort_unstable.new.self.items in
    let same : c.in_ok-sorted.sorted.items
    ≡ c.args.list.now = c.in_ok-sorted.ensures.items_if_clones_equal (λ x y e. λ i. (e.0 i, e.1 i, e.2 i)) in
    let list_in = All-same (λ (u : ℕ × ℕ × ℕ). u.2 < k.size) _ _ same c.requires.list_in in
    λ i j.
    c.loop-i.invariant.codes i j ∙ ap (code_at k.ops i j) (take_all c.loop-i.i sorted (omega arith))
    ∙ code_at_permutation k i j c.in_ok-sorted.sorted.items sorted c.sort_unstable.ensures.permutation list_in
    ∙ ap (code_at k.ops i j) same
