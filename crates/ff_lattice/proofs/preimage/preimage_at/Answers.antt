use Rattle.std.proofs.Common.{◌≡◌, ◌+◌, ◌≤◌, length, subst, sym, ap, ◌∙◌, arith, false, true}
use Rattle.std.specs.Prelude.{All, MatchOption}
use Rattle.std.proofs.lemmas.List.{length-map}
use Rattle.ff_poly.specs.Popov.{rows_of, IsRow, IsPopovMatrix, HaveSameRowSpan, HasFullRankMatrix}
use Rattle.ff_lattice.specs.Steps.{HasZeroCorner, corner, IsPreimage}
use Rattle.ff_lattice.proofs.Preimages.{gs_in, gs_full, zero_corner, preimage_is}
use Rattle.ff_lattice.proofs.preimage.preimage_at.Goals as goal

pub popov-requires : goal.popov-requires
popov-requires g c =
    let k = g.K.SmallField.field c.args.k.now in
    let total : c.in_ok-total.total ≡ length c.args.m.now
    + c.args.width = (rw c.in_ok-total.ensures.ok_part at c.checked_add.ensures).1 in
    subst (λ n. All (IsRow k.ops n) (rows_of c.in_ok-rows.rows.items)) (sym total)
    (gs_in k (length c.args.m.now) c.args.width c.requires.some c.requires.positive (rows_of c.args.m.now)
    (rows_of c.args.ls.now) (length-map c.args.m.now (λ v. v.items)) c.requires.m_in c.requires.ls_in
    c.args.power (rows_of c.in_ok-rows.rows.items) c.in_ok-rows.ensures)

pub returns : goal.returns
returns g c =
    let k = g.K.SmallField.field c.args.k.now in
    let r = length c.args.m.now in
    let w = c.args.width in
    let gs = rows_of c.in_ok-rows.rows.items in
    let total : c.in_ok-total.total ≡ length c.args.m.now
    + c.args.width = (rw c.in_ok-total.ensures.ok_part at c.checked_add.ensures).1 in
    let found =
    subst (λ f. MatchOption f (¬ HasFullRankMatrix k.ops c.in_ok-total.total gs)
    (λ basis. IsPopovMatrix c.in_ok-total.total (rows_of basis.items)
    × All (IsRow k.ops c.in_ok-total.total) (rows_of basis.items)
    × HaveSameRowSpan k.ops c.in_ok-total.total gs (rows_of basis.items)))
    c.in-Some.is c.in_ok-whole.ensures in
    let whole = rows_of c.in-Some.whole.items in
    let sized =
    subst (λ n. IsPopovMatrix n whole × All (IsRow k.ops n) whole × HaveSameRowSpan k.ops n gs whole) total found in
    let zeros = subst (λ vs. HasZeroCorner r (rows_of vs)) c.deref.ensures.value
    (c.has_zero_corner.ensures.0 c.if-not-has_zero_corner.false) in
    let is = c.in_ok-basis.ensures ∙ ap (λ vs. corner r (rows_of vs)) c.deref-2.ensures.value in
    subst (IsPreimage k.ops r w (rows_of c.args.m.now) (rows_of c.args.ls.now)) (sym is)
    (preimage_is k r w c.requires.some c.requires.positive (rows_of c.args.m.now) (rows_of c.args.ls.now)
    (length-map c.args.m.now (λ v. v.items)) c.requires.m_in c.requires.ls_in
    c.args.power gs c.in_ok-rows.ensures whole sized.1 sized.0 sized.2 zeros)

pub returns-in_default : goal.returns-in_default
returns-in_default g c =
    let k = g.K.SmallField.field c.args.k.now in
    let gs = rows_of c.in_ok-rows.rows.items in
    let total : c.in_ok-total.total ≡ length c.args.m.now
    + c.args.width = (rw c.in_ok-total.ensures.ok_part at c.checked_add.ensures).1 in
    let none : ¬ HasFullRankMatrix k.ops c.in_ok-total.total gs = rw c.in_default.is at c.in_ok-whole.ensures in
    λ bound h.
    absurd (none (subst (λ n. HasFullRankMatrix k.ops n gs) (sym total)
    (gs_full k (length c.args.m.now) c.args.width c.requires.some c.requires.positive (rows_of c.args.m.now)
    (rows_of c.args.ls.now) (length-map c.args.m.now (λ v. v.items)) c.requires.m_in c.requires.ls_in
    c.args.power gs c.in_ok-rows.ensures (record { multiple = h.multiple }))))

pub returns-then-not-has_zero_corner : goal.returns-then-not-has_zero_corner
returns-then-not-has_zero_corner g c =
    let k = g.K.SmallField.field c.args.k.now in
    let r = length c.args.m.now in
    let w = c.args.width in
    let gs = rows_of c.in_ok-rows.rows.items in
    let total : c.in_ok-total.total ≡ length c.args.m.now
    + c.args.width = (rw c.in_ok-total.ensures.ok_part at c.checked_add.ensures).1 in
    let found =
    subst (λ f. MatchOption f (¬ HasFullRankMatrix k.ops c.in_ok-total.total gs)
    (λ basis. IsPopovMatrix c.in_ok-total.total (rows_of basis.items)
    × All (IsRow k.ops c.in_ok-total.total) (rows_of basis.items)
    × HaveSameRowSpan k.ops c.in_ok-total.total gs (rows_of basis.items)))
    c.in-Some.is c.in_ok-whole.ensures in
    let whole = rows_of c.in-Some.whole.items in
    let sized =
    subst (λ n. IsPopovMatrix n whole × All (IsRow k.ops n) whole × HaveSameRowSpan k.ops n gs whole) total found in
    λ bound h.
    let no : bound ≤ c.args.power → ⊥
    = λ le.
    let zeros = zero_corner k r w c.requires.some c.requires.positive (rows_of c.args.m.now) (rows_of c.args.ls.now)
    (length-map c.args.m.now (λ v. v.items)) c.requires.m_in c.requires.ls_in
    c.args.power gs c.in_ok-rows.ensures whole sized.1 sized.0 sized.2 bound h le in
    let bad : false ≡ true = sym c.if-not-has_zero_corner.true
    ∙ c.has_zero_corner.ensures.1 (subst (λ vs. HasZeroCorner r (rows_of vs)) (sym c.deref.ensures.value) zeros)
    in
    (cc) in
    omega (arith, no)
