use Rattle.std.proofs.Common.{rules, ◌≡◌, sym, ◌∙◌, codes}
use Rattle.std.proofs.lemmas.Bool.{both_ways}
use Rattle.std.proofs.lemmas.Bool.Decides.{Decides-eqb}
use Rattle.std.proofs.lemmas.Slice.Eq.{strip_prefix_is}
use Rattle.ff_script.proofs.NameFronts.{IsFirstWord, no_name, no_mark, name_here}
use Rattle.ff_script.proofs.reading.next_name.Goals as goal

pub returns-then-not-is_name : goal.returns-then-not-is_name
returns-then-not-is_name c =
    let first : IsFirstWord c.args.bytes.now c.split_word.result.0.now c.split_word.result.1.now = record
    { whole = c.split_word.ensures.whole; all = c.split_word.ensures.word; ended = c.split_word.ensures.end } in
    no_name c.args.bytes.now c.split_word.result.0.now c.split_word.result.1.now first
    (λ is. both_ways c.is_name.result c.if-not-is_name.true (c.is_name.ensures.1 is))

pub returns-in_default : goal.returns-in_default
returns-in_default c =
    let first : IsFirstWord c.args.bytes.now c.split_word.result.0.now c.split_word.result.1.now = record
    { whole = c.split_word.ensures.whole; all = c.split_word.ensures.word; ended = c.split_word.ensures.end } in
    let cases = strip_prefix_is Decides-eqb c.behind_blanks.result.now (codes "=") c.strip_prefix.result
    c.strip_prefix.ensures.cases in
    let none = rw c.in_default.is at cases in
    no_mark c.args.bytes.now c.split_word.result.0.now c.split_word.result.1.now first
    (λ more e. none more (c.behind_blanks.ensures ∙ e))

pub returns : goal.returns
returns c =
    let first : IsFirstWord c.args.bytes.now c.split_word.result.0.now c.split_word.result.1.now = record
    { whole = c.split_word.ensures.whole; all = c.split_word.ensures.word; ended = c.split_word.ensures.end } in
    let cases = strip_prefix_is Decides-eqb c.behind_blanks.result.now (codes "=") c.strip_prefix.result
    c.strip_prefix.ensures.cases in
    let mark = rw c.in-Some.is at cases in
    let copied : c.in_ok-letters.letters.items ≡ c.split_word.result.0.now = search rules in
    rw (copied, c.behind_blanks-2.ensures) (name_here c.args.bytes.now c.split_word.result.0.now
    c.split_word.result.1.now first c.in-Some.behind.now (c.is_name.ensures.0 c.if-not-is_name.false)
    (sym c.behind_blanks.ensures ∙ mark))
