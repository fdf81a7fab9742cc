-- The places of words in `WORDS`.
use Rattle.std.specs.Prelude.{ℕ}

abbrev pub break_word : ℕ
break_word = 0

abbrev pub case_word : ℕ
case_word = 1

abbrev pub chan_word : ℕ
chan_word = 2

abbrev pub chanend_word : ℕ
chanend_word = 3

abbrev pub continue_word : ℕ
continue_word = 4

abbrev pub default_word : ℕ
default_word = 5

abbrev pub do_word : ℕ
do_word = 6

abbrev pub else_word : ℕ
else_word = 7

abbrev pub for_word : ℕ
for_word = 8

abbrev pub if_word : ℕ
if_word = 9

abbrev pub in_word : ℕ
in_word = 10

abbrev pub int_word : ℕ
int_word = 11

abbrev pub master_word : ℕ
master_word = 12

abbrev pub on_word : ℕ
on_word = 13

abbrev pub out_word : ℕ
out_word = 14

abbrev pub par_word : ℕ
par_word = 15

abbrev pub port_word : ℕ
port_word = 16

abbrev pub pinseq_word : ℕ
pinseq_word = 17

abbrev pub pinsneq_word : ℕ
pinsneq_word = 18

abbrev pub return_word : ℕ
return_word = 19

abbrev pub select_word : ℕ
select_word = 20

abbrev pub slave_word : ℕ
slave_word = 21

abbrev pub stdcore_word : ℕ
stdcore_word = 22

abbrev pub tile_word : ℕ
tile_word = 23

abbrev pub timer_word : ℕ
timer_word = 24

abbrev pub timerafter_word : ℕ
timerafter_word = 25

abbrev pub unsigned_word : ℕ
unsigned_word = 26

abbrev pub void_word : ℕ
void_word = 27

abbrev pub when_word : ℕ
when_word = 28

abbrev pub while_word : ℕ
while_word = 29
