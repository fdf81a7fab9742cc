-- Kernels that are well formed, and kernels that aren't, each for one reason.
use Rattle.std.proofs.Common.{◌≡◌, inl, inr, Contains, ⊎_elim, ℕ, zero, suc, ◌+◌, Bool, true, false, List, [], ◌∷◌, Option, Some, None, refl, sym, ap, ◌∙◌, true≢false, arith}
use Rattle.xw_words.specs.declared.pos.Pos.{Pos}
use Rattle.xc_tree.specs.declared.tree.TreeDir.TheVariants.{In, Out}
use Rattle.xc_tree.specs.Symbols as symbols
use Rattle.xc_tree.specs.Words.{pinseq_word, timerafter_word}
use Rattle.xc_kernel.specs.declared.kernel.Var.{Var}
use Rattle.xc_kernel.specs.declared.kernel.Timer.{Timer as KernelTimer}
use Rattle.xc_kernel.specs.declared.kernel.PortUse.{PortUse}
use Rattle.xc_kernel.specs.declared.statement.KRes.{KRes}
use Rattle.xc_kernel.specs.declared.statement.KRes.TheVariants.{Port, Timer, Chan}
use Rattle.xc_kernel.specs.Plain as kernel
use Rattle.xc_wellformed.specs.Numbers.{VariablesAreRight}
use Rattle.xc_wellformed.specs.Operands.{OperandsAreRight}
use Rattle.xc_wellformed.specs.Levels.{levels, LevelsAreFew}
use Rattle.xc_wellformed.specs.Transfers.{TransfersAreRight, TransactionsAreListed}
use Rattle.xc_wellformed.specs.Exits.{ExitsAreInside}
use Rattle.xc_wellformed.specs.Cores.{VariableOn, CoresAreRight}
use Rattle.xc_wellformed.specs.Parts.{of_roots}
use Rattle.xc_wellformed.specs.WellFormed.{IsWellFormed}

abbrev spot : Pos
spot = record { line = 1; col = 1 }

-- variable 0 is a word and variable 1 an array of 4; port 0 reads and port 1 drives; there are one channel and one timer
abbrev a_word : Var
a_word = record { words = 1; array = false; counted = true; core = 0; path = 1 ∷ 1 ∷ []; pos = spot }

abbrev an_array : Var
an_array = record { words = 4; array = true; counted = true; core = 0; path = 1 ∷ 2 ∷ []; pos = spot }

abbrev a_timer : KernelTimer
a_timer = record { core = 0; path = 1 ∷ 4 ∷ []; pos = spot }

abbrev reading : PortUse
reading = record { id = 0; dir = In; core = 0; place = spot; pos = spot }

abbrev driving : PortUse
driving = record { id = 1; dir = Out; core = 0; place = spot; pos = spot }

abbrev with_code : List kernel.Statement → kernel.Kernel
with_code code = record {
  roots = record { core = 0; place = spot; body = kernel.statements code; pos = spot } ∷ [];
  variables = a_word ∷ an_array ∷ [];
  channels = record { streaming = false; path = 1 ∷ 3 ∷ []; pos = spot } ∷ [];
  timers = a_timer ∷ [];
  ports = reading ∷ driving ∷ [];
  instances = [];
  main = spot;
}

abbrev x : kernel.Expression
x = kernel.read (kernel.word 0)

abbrev element : kernel.Expression → kernel.Expression
element i = kernel.read (kernel.element 1 i spot)

abbrev one : kernel.Expression → kernel.Operands
one e = kernel.more_operands e kernel.no_operand

abbrev two : kernel.Expression → kernel.Expression → kernel.Operands
two a b = kernel.more_operands a (one b)

abbrev operation : ℕ → kernel.Operands → kernel.Expression
operation symbol es = kernel.operation symbol false es spot

abbrev out : KRes → Option kernel.Expression → Option kernel.Place → kernel.Statement
out r time stamp = kernel.output (record { resource = r; time = time; value = x; stamp = stamp; pos = spot })

abbrev come : KRes → Option kernel.Expression → Option kernel.Condition → Option kernel.Place → kernel.Statement
come r time condition stamp = kernel.input (record { resource = r; time = time; condition = condition; target = None; stamp = stamp; pos = spot })

abbrev asks : ℕ → Option kernel.Condition
asks test = Some (record { test = test; value = x })

-- x = 0; a = 0s; x = a[x] + -x; a[a[0]] = x; port 1 @ x <: x @ x; port 0 when pinseq(x) :> void @ x; c <: x; t when timerafter(x) :> void;
-- a loop that is left, and a transaction
abbrev good : kernel.Kernel
good = with_code (
    kernel.set_zero 0 ∷ kernel.set_zero 1 ∷ kernel.set (kernel.word 0) (operation symbols.plus (two (element x) (operation symbols.minus (one x))))
    ∷ kernel.set (kernel.element 1 (element (kernel.number 0)) spot) x
    ∷ out (Port 1) (Some x) (Some (kernel.word 0)) ∷ come (Port 0) None (asks pinseq_word) (Some (kernel.word 0)) ∷ out (Chan 0) None None
    ∷ come (Timer 0) None (asks timerafter_word) None
    ∷ kernel.block 0 (kernel.statements (kernel.loop x (kernel.statements (kernel.block 1 (kernel.statements (kernel.exit 0 ∷ kernel.exit 1 ∷ [])) ∷ [])) kernel.no_more ∷ []))
    ∷ kernel.transaction 0 true (kernel.statements (out (Chan 0) None None ∷ [])) spot spot ∷ [])

-- it is well formed
good_is : IsWellFormed good
good_is = record {
  variables = (
    (
      record { variable = a_word; there = refl },
      (
        record { variable = an_array; there = refl },
        (
          (a_word_there, ((an_array_there, a_word_there), ((a_word_there, tt), tt))),
          (
            (((an_array_there, (an_array_there, tt))), a_word_there),
            (
              (tt, (a_word_there, (a_word_there, a_word_there))),
              (
                (tt, (tt, (a_word_there, (tt, a_word_there)))),
                (
                  (tt, (tt, (a_word_there, tt))),
                  (
                    (tt, (tt, (a_word_there, (tt, tt)))),
                    (((a_word_there, (((tt, (tt, tt)), tt), tt)), tt), ((tt, ((tt, (tt, (a_word_there, tt))), tt)), tt)),
                  ),
                ),
              ),
            ),
          ),
        ),
      ),
    ),
    tt,
  );
  operands = (
    (
      tt,
      (
        tt,
        (
          (tt, (refl, (tt, ((refl, (tt, tt)), tt)))),
          (
            (tt, tt),
            (
              (tt, (tt, (tt, tt))),
              (
                (tt, (tt, (tt, (tt, tt)))),
                (
                  (tt, (tt, (tt, tt))),
                  (
                    (tt, (tt, (tt, (tt, tt)))),
                    (((tt, (((tt, (tt, tt)), tt), tt)), tt), ((tt, ((tt, (tt, (tt, tt))), tt)), tt)),
                  ),
                ),
              ),
            ),
          ),
        ),
      ),
    ),
    tt,
  );
  levels = (
    (
      tt,
      (
        tt,
        (
          (omega arith, omega arith),
          (
            (omega arith, omega arith),
            (
              (tt, (omega arith, (omega arith, omega arith))),
              (
                (tt, (tt, (omega arith, (tt, omega arith)))),
                (
                  (tt, (tt, (omega arith, tt))),
                  (
                    (tt, (tt, (omega arith, (tt, tt)))),
                    (((omega arith, (((tt, (tt, tt)), tt), tt)), tt), ((tt, ((tt, (tt, (omega arith, tt))), tt)), tt)),
                  ),
                ),
              ),
            ),
          ),
        ),
      ),
    ),
    tt,
  );
  transfers = (
    (
      tt,
      (
        tt,
        (
          (tt, tt),
          (
            (tt, tt),
            (
              (record { port = driving; there = refl; direction = refl }, (tt, (tt, tt))),
              (
                ((record { port = reading; there = refl; direction = refl }, (tt, inl refl)), (tt, (tt, (tt, tt)))),
                (
                  ((omega arith, (tt, tt)), (tt, (tt, tt))),
                  (
                    ((omega arith, (tt, (refl, tt))), (tt, (tt, (tt, tt)))),
                    (((tt, (((tt, (tt, tt)), tt), tt)), tt), ((tt, (((omega arith, (tt, tt)), (tt, (tt, tt))), tt)), tt)),
                  ),
                ),
              ),
            ),
          ),
        ),
      ),
    ),
    tt,
  );
  transactions = (
    (
      tt,
      (
        tt,
        (
          (tt, tt),
          (
            (tt, tt),
            (
              (tt, (tt, (tt, tt))),
              (
                (tt, (tt, (tt, (tt, tt)))),
                (
                  (tt, (tt, (tt, tt))),
                  (
                    (tt, (tt, (tt, (tt, tt)))),
                    (((tt, (((tt, (tt, tt)), tt), tt)), tt), ((omega arith, ((tt, (tt, (tt, tt))), tt)), tt)),
                  ),
                ),
              ),
            ),
          ),
        ),
      ),
    ),
    tt,
  );
  exits = ((tt, (tt, (tt, (tt, (tt, (tt, (tt, (tt, ((refl, ((((refl, (refl, (refl, tt))), tt), tt), tt)), ((tt, tt), tt)))))))))), tt);
  cores = (
    (
      word_on,
      (
        array_on,
        (
          (word_on, ((array_on, word_on), ((word_on, tt), tt))),
          (
            (((array_on, (array_on, tt))), word_on),
            (
              (tt, (word_on, (word_on, word_on))),
              (
                (tt, (tt, (word_on, (tt, word_on)))),
                (
                  (tt, (tt, (word_on, tt))),
                  (
                    (record { timer = a_timer; there = refl; place = refl }, (tt, (word_on, (tt, tt)))),
                    (((word_on, (((tt, (tt, tt)), tt), tt)), tt), ((tt, ((tt, (tt, (word_on, tt))), tt)), tt)),
                  ),
                ),
              ),
            ),
          ),
        ),
      ),
    ),
    tt,
  );
}
  where
    word_on : VariableOn (a_word ∷ an_array ∷ []) good.roots 0 0
    word_on = record { variable = a_word; there = refl; place = inl refl }

    array_on : VariableOn (a_word ∷ an_array ∷ []) good.roots 0 1
    array_on = record { variable = an_array; there = refl; place = inl refl }

    a_word_there : Rattle.xc_wellformed.specs.Numbers.IsVariable (a_word ∷ an_array ∷ []) 0 false
    a_word_there = record { variable = a_word; there = refl; array = refl; one_word = λ e. refl }

    an_array_there : Rattle.xc_wellformed.specs.Numbers.IsVariable (a_word ∷ an_array ∷ []) 1 true
    an_array_there = record { variable = an_array; there = refl; array = refl; one_word = λ e. absurd (true≢false e) }

-- it has 31 parts: 2 variables that are set to 0 and their 5 words, 2 exits, 2 inputs, each node, a reading and its place being one, and the root
good_parts : of_roots good.variables good.roots ≡ 31
good_parts = refl

some_array : (v w : Var) (b : Bool) → Some v ≡ Some w → w.array ≡ b → v.array ≡ b
some_array v w b e f = ap (λ (y : Var). y.array) (some_same v w e) ∙ f
  where
    some_same : (a c : Var) → Some a ≡ Some c → a ≡ c
    some_same a c q = cc

none_there : (v : Var) → None ≡ Some v → ⊥
none_there v e = cc

-- the word of an array, an element of a word, and a variable that isn't listed
word_of_array : VariablesAreRight (with_code (kernel.set (kernel.word 1) x ∷ [])) → ⊥
word_of_array h = true≢false (some_array an_array h.0.0.0.variable false h.0.0.0.there h.0.0.0.array)

element_of_word : VariablesAreRight (with_code (kernel.set (kernel.element 0 x spot) x ∷ [])) → ⊥
element_of_word h = true≢false (sym (some_array a_word h.0.0.0.0.variable true h.0.0.0.0.there h.0.0.0.0.array))

not_listed : VariablesAreRight (with_code (kernel.set_zero 2 ∷ [])) → ⊥
not_listed h = none_there h.0.0.variable h.0.0.there

-- a word of a variable that is no array and has two words
abbrev two_words : Var
two_words = record a_word { words = 2 }

word_of_two : VariablesAreRight (record (with_code (kernel.set (kernel.word 0) (kernel.number 1) ∷ [])) { variables = two_words ∷ [] }) → ⊥
word_of_two h = let e : ◌≡◌ {A = ℕ} 2 1 = ap (λ (v : Var). v.words) (some_same two_words h.0.0.0.variable h.0.0.0.there) ∙ h.0.0.0.one_word refl in absurd (omega arith)
  where
    some_same : (a c : Var) → Some a ≡ Some c → a ≡ c
    some_same a c q = cc

-- three operands of a `+`, two of a `!`, and an operation by no operator
three_added : OperandsAreRight (with_code (kernel.set (kernel.word 0) (operation symbols.plus (kernel.more_operands x (two x x))) ∷ [])) → ⊥
three_added h = true≢false (sym h.0.0.1.0)

two_negated : OperandsAreRight (with_code (kernel.set (kernel.word 0) (operation symbols.bang (two x x)) ∷ [])) → ⊥
two_negated h = true≢false (sym h.0.0.1.0)

no_operator : OperandsAreRight (with_code (kernel.set (kernel.word 0) (operation symbols.semicolon (one x)) ∷ [])) → ⊥
no_operator h = true≢false (sym h.0.0.1.0)

-- so many signs before a word, which is a level of its own
abbrev signed : ℕ → kernel.Expression
signed zero = x
signed (suc n) = operation symbols.minus (one (signed n))

three_signs : levels (signed 3) ≡ 4
three_signs = refl

deeper : (n : ℕ) → levels (signed n) ≡ n + 1
deeper zero = refl
deeper (suc n) = let d = deeper n in omega arith

low_enough : LevelsAreFew (with_code (kernel.set (kernel.word 0) (signed 399) ∷ []))
low_enough = (((omega arith, (let d = deeper 399 in omega arith)), tt), tt)

too_deep : LevelsAreFew (with_code (kernel.set (kernel.word 0) (signed 400) ∷ [])) → ⊥
too_deep h = let d = deeper 400 in let l = h.0.0.1 in omega arith

-- An output to a port that reads, to a timer, and to a channel at a time; an input at a time and on pins, from a timer on pins, and from a
-- channel with a stamp; and one from no port.
some_drives : (v w : PortUse) → Some v ≡ Some w → Rattle.xc_wellformed.specs.Transfers.can_drive w ≡ true → Rattle.xc_wellformed.specs.Transfers.can_drive v ≡ true
some_drives v w e f = ap Rattle.xc_wellformed.specs.Transfers.can_drive (some_same v w e) ∙ f
  where
    some_same : (a c : PortUse) → Some a ≡ Some c → a ≡ c
    some_same a c q = cc

to_reader : TransfersAreRight (with_code (out (Port 0) None None ∷ [])) → ⊥
to_reader h = true≢false (sym (some_drives reading h.0.0.0.port h.0.0.0.there h.0.0.0.direction))

to_timer : TransfersAreRight (with_code (out (Timer 0) None None ∷ [])) → ⊥
to_timer h = h.0.0.0

to_channel_at_time : TransfersAreRight (with_code (out (Chan 0) (Some x) None ∷ [])) → ⊥
to_channel_at_time h = h.0.0.0.1.0

at_time_on_pins : TransfersAreRight (with_code (come (Port 0) (Some x) (asks pinseq_word) None ∷ [])) → ⊥
at_time_on_pins h = h.0.0.0.1.0

timer_on_pins : TransfersAreRight (with_code (come (Timer 0) None (asks pinseq_word) None ∷ [])) → ⊥
timer_on_pins h = let e : ◌≡◌ {A = ℕ} pinseq_word timerafter_word = h.0.0.0.1.1.0 in absurd (omega arith)

channel_with_stamp : TransfersAreRight (with_code (come (Chan 0) None None (Some (kernel.word 0)) ∷ [])) → ⊥
channel_with_stamp h = h.0.0.0.1.1.1

no_port : TransfersAreRight (with_code (come (Port 2) None None None ∷ [])) → ⊥
no_port h = none_port h.0.0.0.0.port h.0.0.0.0.there
  where
    none_port : (p : PortUse) → None ≡ Some p → ⊥
    none_port p e = cc

-- a transaction on a channel that isn't listed
no_channel : TransactionsAreListed (with_code (kernel.transaction 1 true kernel.no_more spot spot ∷ [])) → ⊥
no_channel h = let l = h.0.0.0 in omega arith

-- An exit without its block; out of a branch, and out of a transaction; and a block in one of its number, also in a branch.
lost : ExitsAreInside (with_code (kernel.exit 0 ∷ [])) → ⊥
lost h = true≢false (sym h.0.0)

out_of_branch : ExitsAreInside (with_code (kernel.block 0 (kernel.statements (kernel.par (kernel.more_branches (kernel.branch (kernel.statements (kernel.exit 0 ∷ [])) spot) kernel.no_branch) ∷ [])) ∷ [])) → ⊥
out_of_branch h = true≢false (sym h.0.0.1.0.0.0)

out_of_transaction : ExitsAreInside (with_code (kernel.block 0 (kernel.statements (kernel.transaction 0 true (kernel.statements (kernel.exit 0 ∷ [])) spot spot ∷ [])) ∷ [])) → ⊥
out_of_transaction h = true≢false (sym h.0.0.1.0.0)

one_in_itself : ExitsAreInside (with_code (kernel.block 0 (kernel.statements (kernel.block 0 kernel.no_more ∷ [])) ∷ [])) → ⊥
one_in_itself h = true≢false h.0.0.1.0.0

in_its_branch : ExitsAreInside (with_code (kernel.block 0 (kernel.statements (kernel.par (kernel.more_branches (kernel.branch (kernel.statements (kernel.block 0 kernel.no_more ∷ [])) spot) kernel.no_branch) ∷ [])) ∷ [])) → ⊥
in_its_branch h = true≢false h.0.0.1.0.0.0.0

-- two blocks of one number, one behind the other, are well placed
one_behind_another : ExitsAreInside (with_code (kernel.block 0 kernel.no_more ∷ kernel.block 0 kernel.no_more ∷ []))
one_behind_another = (((refl, tt), ((refl, tt), tt)), tt)

-- a root of this core and these statements
abbrev root_on : ℕ → List kernel.Statement → kernel.Root
root_on core code = record { core = core; place = spot; body = kernel.statements code; pos = spot }

-- a word on core 1, and a timer there
abbrev far_word : Var
far_word = record a_word { core = 1 }

abbrev far_timer : KernelTimer
far_timer = record a_timer { core = 1 }

abbrev with_far : List kernel.Root → kernel.Kernel
with_far rs = record (with_code []) { roots = rs; variables = far_word ∷ []; timers = far_timer ∷ [] }

-- a root on core 0 that uses the word, where no root on core 1 changes it
word_elsewhere : CoresAreRight (with_far (root_on 0 (kernel.set_zero 0 ∷ []) ∷ [])) → ⊥
word_elsewhere h = ⊎_elim (λ e. here (ap (λ (v : Var). v.core) (some_same far_word h.0.0.variable h.0.0.there) ∙ e)) (λ c. changed c.root c.among (c.there ∙ sym (ap (λ (v : Var). v.core) (some_same far_word h.0.0.variable h.0.0.there)))) h.0.0.place
  where
    some_same : (a c : Var) → Some a ≡ Some c → a ≡ c
    some_same a c q = cc

    here : ◌≡◌ {A = ℕ} 1 0 → ⊥
    here e = absurd (omega arith)

    changed : (r : kernel.Root) → Contains (root_on 0 (kernel.set_zero 0 ∷ []) ∷ []) r → r.core ≡ 1 → ⊥
    changed r (zero, l, e) q = here (sym (ap (λ (y : kernel.Root). y.core) e ∙ q))
    changed r (suc i, l, e) q = absurd (omega arith)

-- the word that a root on core 1 inputs, and a later one on core 0 uses: the other rules of a kernel refuse it
word_of_another : CoresAreRight (with_far (root_on 1 (kernel.set_zero 0 ∷ []) ∷ root_on 0 (kernel.set_zero 0 ∷ []) ∷ []))
word_of_another = (
  (record { variable = far_word; there = refl; place = inl refl }, tt),
  ((record { variable = far_word; there = refl; place = inr (record { root = root_on 1 (kernel.set_zero 0 ∷ []); among = (0, omega arith, refl); there = refl; changes = refl }) }, tt), tt),
)

-- a timer of core 1 that a root on core 0 uses
timer_elsewhere : CoresAreRight (with_far (root_on 0 (come (Timer 0) None None None ∷ []) ∷ [])) → ⊥
timer_elsewhere h = let e : ◌≡◌ {A = ℕ} 1 0 = ap (λ (t : KernelTimer). t.core) (some_same far_timer h.0.0.0.timer h.0.0.0.there) ∙ h.0.0.0.place in absurd (omega arith)
  where
    some_same : (a c : KernelTimer) → Some a ≡ Some c → a ≡ c
    some_same a c q = cc
