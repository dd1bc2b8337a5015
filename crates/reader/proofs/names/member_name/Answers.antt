-- `member_name` meets its contract.
use mathlib.Core.Path.{◌∙◌, ap}
use native.Mathlib.Omega.{arith}
use Rattle.spec.proofs.FaultLaws.{handed}
use Rattle.lexer.proofs.AnswerLaws.{to_ok, scan_refused}
use Rattle.lexer.proofs.NameLaws.{name_read, name_refused}
use Rattle.reader.specs.Words.{past_separator}
use Rattle.reader.specs.Names.{after_colon}
use Rattle.reader.proofs.WordLaws.{name_closed, read_titles}
use Rattle.reader.proofs.MemberLaws.{member-repeated, member-read, member-no_colon, member-no-string}
use Rattle.reader.proofs.names.member_name.Goals as goal

pub returns-in_err-read : goal.returns-in_err-read
returns-in_err-read c =
    rw (handed _ c.from_residual.ensures.1) (member-no-string _ _ _ c.requires.object _ _ (name_refused _ _ _ c.name.ensures c.in_err-read.was))

pub overflow_add-at : goal.overflow_add-at
overflow_add-at c =
    omega (arith, name_closed (name_read _ _ _ c.name.ensures c.in_ok-read.was))

pub spell_string-requires : goal.spell_string-requires
spell_string-requires c =
    let k = name_closed (name_read _ _ _ c.name.ensures c.in_ok-read.was) in
    (omega arith, omega (arith, c.requires.lent.short))

pub overflow_sub-behind : goal.overflow_sub-behind
overflow_sub-behind c =
    omega (arith, name_closed (name_read _ _ _ c.name.ensures c.in_ok-read.was))

pub returns-then-repeated : goal.returns-then-repeated
returns-then-repeated c =
    let r = name_read _ _ _ c.name.ensures c.in_ok-read.was in
    let t = read_titles _ c.args.object.source.known r c.spell_string.ensures c.short.ensures in
    rw c.at.ensures (member-repeated _ _ _ c.requires.object _ r _ t c.repeated.ensures c.if-repeated.true)

pub returns-in_err-next : goal.returns-in_err-next
unfolding after_colon
returns-in_err-next c =
    let r = name_read _ _ _ c.name.ensures c.in_ok-read.was in
    let t = read_titles _ c.args.object.source.known r c.spell_string.ensures c.short.ensures in
    let colon = c.separator.ensures ∙ ap (past_separator c.args.s.now 0x3A) c.blanks.ensures in
    rw (handed _ c.from_residual-in_err-next.ensures.1)
    (member-no_colon _ _ _ c.requires.object _ r _ t c.repeated.ensures c.if-repeated.false _ (scan_refused _ colon c.in_err-next.was))

pub returns : goal.returns
unfolding after_colon
returns c =
    let r = name_read _ _ _ c.name.ensures c.in_ok-read.was in
    let t = read_titles _ c.args.object.source.known r c.spell_string.ensures c.short.ensures in
    let colon = c.separator.ensures ∙ ap (past_separator c.args.s.now 0x3A) c.blanks.ensures in
    member-read _ _ _ c.requires.object _ r _ t c.repeated.ensures c.if-repeated.false _ (to_ok _ colon c.in_ok-next.was)
