use Rattle.std.proofs.Common.{◌≡◌, ◌-◌, ◌++◌, length, reverse, replicate, take, ap, ap₂, ◌∙◌, arith, vec_len}
use Rattle.std.proofs.lemmas.List.{take_all}
use Rattle.ff_poly.specs.Words.{poly_of}
use Rattle.ff_algebra.proofs.OtherSide.{reversed_padded}
use Rattle.ff_algebra.proofs.curve.infinity.reversed.Goals as goal

pub returns : goal.returns
returns c =
    let a = c.args.a.now in
    let m = c.args.m in
    let copied : c.extend_from_slice.new.self.items ≡ a = c.in_ok-extend_from_slice.ensures.items
    ∙ ap₂ (λ u v. u ++ v) c.in_ok-codes.ensures.items c.codes.ensures.codes in
    let same = ap length c.codes.ensures.codes in
    let size : vec_len c.extend_from_slice.new.self
    ≡ length a = omega (arith, c.in_ok-extend_from_slice.ensures.len, c.in_ok-codes.ensures.len, same) in
    c.from_codes.ensures
    ∙ ap poly_of (c.reverse.ensures.items
    ∙ ap reverse (c.in_ok-resize.ensures.items
    ∙ ap₂ (λ u n. u ++ replicate (m - n) 0) (ap (take m) copied ∙ take_all m a c.requires) size))
    ∙ reversed_padded a m
