-- The places of symbols in `SYMBOLS`.
use Rattle.std.specs.Prelude.{ℕ}

-- `(`
abbrev pub paren : ℕ
paren = 0

-- `)`
abbrev pub end_paren : ℕ
end_paren = 1

-- `{`
abbrev pub brace : ℕ
brace = 2

-- `}`
abbrev pub end_brace : ℕ
end_brace = 3

-- `[`
abbrev pub bracket : ℕ
bracket = 4

-- `]`
abbrev pub end_bracket : ℕ
end_bracket = 5

-- `;`
abbrev pub semicolon : ℕ
semicolon = 6

-- `,`
abbrev pub comma : ℕ
comma = 7

-- `:`
abbrev pub colon : ℕ
colon = 8

-- `?`
abbrev pub question : ℕ
question = 9

-- `&`
abbrev pub ampersand : ℕ
ampersand = 10

-- `|`
abbrev pub bar : ℕ
bar = 11

-- `^`
abbrev pub caret : ℕ
caret = 12

-- `~`
abbrev pub tilde : ℕ
tilde = 13

-- `!`
abbrev pub bang : ℕ
bang = 14

-- `+`
abbrev pub plus : ℕ
plus = 15

-- `-`
abbrev pub minus : ℕ
minus = 16

-- `*`
abbrev pub star : ℕ
star = 17

-- `/`
abbrev pub slash : ℕ
slash = 18

-- `%`
abbrev pub percent : ℕ
percent = 19

-- `<`
abbrev pub below : ℕ
below = 20

-- `>`
abbrev pub above : ℕ
above = 21

-- `=`
abbrev pub equals : ℕ
equals = 22

-- `@`
abbrev pub at_sign : ℕ
at_sign = 23

-- `<:`
abbrev pub sends : ℕ
sends = 24

-- `:>`
abbrev pub receives : ℕ
receives = 25

-- `=>`
abbrev pub arrow : ℕ
arrow = 26

-- `==`
abbrev pub equals_equals : ℕ
equals_equals = 27

-- `!=`
abbrev pub bang_equals : ℕ
bang_equals = 28

-- `<=`
abbrev pub below_equals : ℕ
below_equals = 29

-- `>=`
abbrev pub above_equals : ℕ
above_equals = 30

-- `&&`
abbrev pub and_and : ℕ
and_and = 31

-- `||`
abbrev pub or_or : ℕ
or_or = 32

-- `<<`
abbrev pub shift_up : ℕ
shift_up = 33

-- `>>`
abbrev pub shift_down : ℕ
shift_down = 34

-- `++`
abbrev pub plus_plus : ℕ
plus_plus = 35

-- `--`
abbrev pub minus_minus : ℕ
minus_minus = 36

-- `+=`
abbrev pub plus_equals : ℕ
plus_equals = 37

-- `-=`
abbrev pub minus_equals : ℕ
minus_equals = 38

-- `*=`
abbrev pub star_equals : ℕ
star_equals = 39

-- `/=`
abbrev pub slash_equals : ℕ
slash_equals = 40

-- `%=`
abbrev pub percent_equals : ℕ
percent_equals = 41

-- `&=`
abbrev pub ampersand_equals : ℕ
ampersand_equals = 42

-- `|=`
abbrev pub bar_equals : ℕ
bar_equals = 43

-- `^=`
abbrev pub caret_equals : ℕ
caret_equals = 44

-- `<<=`
abbrev pub shift_up_equals : ℕ
shift_up_equals = 45

-- `>>=`
abbrev pub shift_down_equals : ℕ
shift_down_equals = 46
