use Rattle.std.proofs.Common.{◌+◌, [], true, false, refl, sym, arith, append-nil}
use Rattle.xc_tree.specs.declared.lexing.Start.TheVariants.{Blank, LineEnd, LineComment}
use Rattle.xc_tree.specs.Pieces.{go_on}
use Rattle.xc_lexer.specs.Names.{numbers_of}
use Rattle.xc_lexer.specs.Steps.{stand}
use Rattle.xc_lexer.proofs.Outcomes.{piece_by, went}
use Rattle.xc_lexer.proofs.lexer.step.Goals as goal

pub go_on-requires-clause-place : goal.go_on-requires-clause-place
go_on-requires-clause-place c = c.requires.place

pub go_on-requires-in-LineEnd-clause-place : goal.go_on-requires-in-LineEnd-clause-place
go_on-requires-in-LineEnd-clause-place c = c.requires.place

pub line_end-end-requires : goal.line_end-end-requires
line_end-end-requires c = c.requires.place.within

pub go_on-requires-in-LineComment-clause-place : goal.go_on-requires-in-LineComment-clause-place
go_on-requires-in-LineComment-clause-place c = c.requires.place

pub go_on-requires-in-LineComment-clause-end : goal.go_on-requires-in-LineComment-clause-end
go_on-requires-in-LineComment-clause-end c = c.line_end-end.ensures.span.after

pub go_on-requires-in-LineComment-clause-within : goal.go_on-requires-in-LineComment-clause-within
go_on-requires-in-LineComment-clause-within c = c.line_end-end.ensures.within

pub comment-requires-clause-place : goal.comment-requires-clause-place
comment-requires-clause-place c = c.requires.place

pub comment-requires-clause-starts : goal.comment-requires-clause-starts
comment-requires-clause-starts c = sym c.in-BlockComment.ensures.is

pub comment-requires-clause-room : goal.comment-requires-clause-room
comment-requires-clause-room c = c.in-BlockComment.ensures.comment refl

pub hash-requires-clause-place : goal.hash-requires-clause-place
hash-requires-clause-place c = c.requires.place

pub hash-requires-clause-starts : goal.hash-requires-clause-starts
hash-requires-clause-starts c = sym c.in-Hash.ensures.is

pub hash-requires-clause-more : goal.hash-requires-clause-more
hash-requires-clause-more c = c.requires.more

pub word-requires-clause-place : goal.word-requires-clause-place
word-requires-clause-place c = c.requires.place

pub word-requires-clause-starts : goal.word-requires-clause-starts
word-requires-clause-starts c = sym c.in-Letter.ensures.is

pub number-requires-clause-place : goal.number-requires-clause-place
number-requires-clause-place c = c.requires.place

pub number-requires-clause-starts : goal.number-requires-clause-starts
number-requires-clause-starts c = sym c.in-Digit.ensures.is

pub symbol-requires-clause-place : goal.symbol-requires-clause-place
symbol-requires-clause-place c = c.requires.place

pub symbol-requires-clause-starts : goal.symbol-requires-clause-starts
symbol-requires-clause-starts c = sym c.in-Other.ensures.is

pub symbol-requires-clause-more : goal.symbol-requires-clause-more
symbol-requires-clause-more c = c.requires.more

pub returns-in-Blank-clause-broken : goal.returns-in-Blank-clause-broken
returns-in-Blank-clause-broken c = tt

pub returns-in-LineEnd-clause-broken : goal.returns-in-LineEnd-clause-broken
returns-in-LineEnd-clause-broken c = tt

pub returns-in-LineComment-clause-broken : goal.returns-in-LineComment-clause-broken
returns-in-LineComment-clause-broken c = tt

pub returns-in-BlockComment-clause-went : goal.returns-in-BlockComment-clause-went
returns-in-BlockComment-clause-went c = c.comment.ensures.went

pub returns-in-BlockComment-clause-broken : goal.returns-in-BlockComment-clause-broken
returns-in-BlockComment-clause-broken c = c.comment.ensures.broken

pub returns-in-Hash-clause-went : goal.returns-in-Hash-clause-went
returns-in-Hash-clause-went c = c.hash.ensures.went

pub returns-in-Hash-clause-broken : goal.returns-in-Hash-clause-broken
returns-in-Hash-clause-broken c = c.hash.ensures.broken

pub returns-in-Letter-clause-went : goal.returns-in-Letter-clause-went
returns-in-Letter-clause-went c = c.word.ensures.went

pub returns-in-Letter-clause-broken : goal.returns-in-Letter-clause-broken
returns-in-Letter-clause-broken c = c.word.ensures.broken

pub returns-in-Digit-clause-went : goal.returns-in-Digit-clause-went
returns-in-Digit-clause-went c = c.number.ensures.went

pub returns-in-Digit-clause-broken : goal.returns-in-Digit-clause-broken
returns-in-Digit-clause-broken c = c.number.ensures.broken

pub returns-in-Other-clause-went : goal.returns-in-Other-clause-went
returns-in-Other-clause-went c = c.symbol.ensures.went

pub returns-in-Other-clause-broken : goal.returns-in-Other-clause-broken
returns-in-Other-clause-broken c = c.symbol.ensures.broken

pub returns-in-Blank-clause-went : goal.returns-in-Blank-clause-went
returns-in-Blank-clause-went c =
    let text = c.args.text.now in
    let state = c.args.state.now in
    let at = state.place.at in
    let more = c.requires.more in
    went text state c.go_on.new.state [] c.args.toks.now c.args.toks.now (at + 1) state.at_line_start state.names
    c.go_on.ensures.is c.requires.place.short
    (piece_by text (stand state) (record { at = at + 1; fresh = state.at_line_start; numbers = numbers_of state.names })
    [] [] Blank (sym c.in-Blank.ensures.is) (refl, refl, refl))
    (sym (append-nil c.args.toks.now)) (omega (arith, more))

pub returns-in-LineEnd-clause-went : goal.returns-in-LineEnd-clause-went
returns-in-LineEnd-clause-went c =
    let text = c.args.text.now in
    let state = c.args.state.now in
    let at = state.place.at in
    let more = c.requires.more in
    went text state c.go_on-in-LineEnd.new.state [] c.args.toks.now c.args.toks.now (at + 1) true state.names
    c.go_on-in-LineEnd.ensures.is c.requires.place.short
    (piece_by text (stand state) (record { at = at + 1; fresh = true; numbers = numbers_of state.names })
    [] [] LineEnd (sym c.in-LineEnd.ensures.is) (refl, refl, refl))
    (sym (append-nil c.args.toks.now)) (omega (arith, more))

pub returns-in-LineComment-clause-went : goal.returns-in-LineComment-clause-went
returns-in-LineComment-clause-went c =
    let text = c.args.text.now in
    let state = c.args.state.now in
    went text state c.go_on-in-LineComment.new.state [] c.args.toks.now c.args.toks.now (c.line_end-end.result) false state.names
    c.go_on-in-LineComment.ensures.is c.requires.place.short
    (piece_by text (stand state) (go_on (stand state) c.line_end-end.result)
    [] [] LineComment (sym c.in-LineComment.ensures.is) (c.line_end-end.result, c.line_end-end.ensures.span, refl, refl, refl))
    (sym (append-nil c.args.toks.now)) (c.line_end-end.ensures.within)
