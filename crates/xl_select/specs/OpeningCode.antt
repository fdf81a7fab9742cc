-- The code that opens a select: its guards, times and conditions are evaluated in text order, and the enabled cases set up.
use Rattle.std.specs.Prelude.{ℕ, ◌+◌, ◌-◌, Bool, true, false, List, [], ◌∷◌, ◌++◌, length, map, max, Option, Some, None, nat_eq, if◌then◌else◌}
use Rattle.xw_words.specs.declared.pos.Pos.{Pos}
use Rattle.xs_instr.specs.declared.emitter.Hole.{Hole}
use Rattle.xs_instr.specs.declared.instr.Cond.{Cond}
use Rattle.xs_instr.specs.declared.instr.Cond.TheVariants.{None as NoCond, Eq, Neq, After}
use Rattle.xs_instr.specs.declared.instr.Instr.{Instr}
use Rattle.xs_instr.specs.declared.instr.Instr.TheVariants.{Brff, Brft, Brfu, Clre, Clrsr, Eeu, Ldc, Ldwsp, Setc, Setd, Setpt, Setsr, Setv, Stwsp, Waiteu}
use Rattle.xs_instr.specs.declared.instr.Reg.{Reg}
use Rattle.xs_instr.specs.declared.instr.Reg.TheVariants.{R0, R9, R10, R11}
use Rattle.xs_instr.specs.Lines.{Line, at_pos, first_pos, last_or, line, open_line, with_target}
use Rattle.xc_tree.specs.Words.{pinseq_word, pinsneq_word}
use Rattle.xc_kernel.specs.declared.statement.KCase.{KCase}
use Rattle.xc_kernel.specs.declared.statement.KRes.{KRes}
use Rattle.xc_kernel.specs.declared.statement.KRes.TheVariants.{Port, Timer, Chan}
use Rattle.xc_kernel.specs.Kernels.{case_of}
use Rattle.xc_kernel.specs.Plain as kernel
use Rattle.xc_meaning.specs.Settings.Select.{same_resource}
use Rattle.xl_expr.specs.declared.plan.Plan.{Plan}
use Rattle.xl_expr.specs.declared.plan.ResAt.{ResAt}
use Rattle.xl_expr.specs.declared.plan.VarPlan.{VarPlan}
use Rattle.xl_expr.specs.Code.{expression_code}
use Rattle.xl_expr.specs.Identifiers.{identifier_instrs}
use Rattle.xl_expr.specs.Plans.{end_in, resource_at}
use Rattle.xl_port.specs.Timings.{time_depth, time_nodes, timing_expression}
use Rattle.xl_select.specs.declared.opening.Flag.{Flag}
use Rattle.xl_select.specs.Holes.{listed}

-- the cases of a list
abbrev pub cases_of : List KCase → kernel.Cases
cases_of cs = kernel.cases (map case_of cs)

-- of a select: its cases, whether it has a default, and its place

abbrev pub cases_in : kernel.Statement → kernel.Cases
cases_in (kernel.select cs otherwise pos) = cs
cases_in other = kernel.no_case

abbrev pub is_default : kernel.Default → Bool
is_default kernel.no_default = false
is_default (kernel.default ss) = true

abbrev pub has_default : kernel.Statement → Bool
has_default (kernel.select cs otherwise pos) = is_default otherwise
has_default other = false

abbrev pub select_pos : kernel.Statement → Pos
select_pos (kernel.select cs otherwise pos) = pos
select_pos other = first_pos

-- how many cases there are
abbrev pub case_count : kernel.Cases → ℕ
case_count kernel.no_case = 0
case_count (kernel.more_cases c cs) = 1 + case_count cs

-- how many parts cases have: themselves, and the nodes of their guards, times and conditions

abbrev pub case_parts : Option kernel.Expression → kernel.Input → ℕ
case_parts guard i = 1 + time_nodes guard + time_nodes (timing_expression i.time i.condition)

abbrev pub cases_parts : kernel.Cases → ℕ
cases_parts kernel.no_case = 0
cases_parts (kernel.more_cases (kernel.case guard i ss) cs) = case_parts guard i + cases_parts cs

-- and how deep these are

abbrev pub case_depth : Option kernel.Expression → kernel.Input → ℕ
case_depth guard i = max (time_depth guard) (time_depth (timing_expression i.time i.condition))

abbrev pub cases_depth : kernel.Cases → ℕ
cases_depth kernel.no_case = 0
cases_depth (kernel.more_cases (kernel.case guard i ss) cs) = max (case_depth guard i) (cases_depth cs)

-- The resources that cases name, each once, in the order in which they are named first: a resource's place among them is the number of its
-- flag, a temporary word that isn't 0 where an earlier case of the resource is enabled.

-- the place of a resource, where the first has place n
abbrev pub place_from : (n : ℕ) → List KRes → KRes → Option ℕ
place_from n [] r = None
place_from n (q ∷ qs) r = if same_resource q r then Some n else place_from (n + 1) qs r

-- `flag_for`, by cases
abbrev pub flag_by : (new : ℕ) → Option ℕ → Flag
flag_by new (Some number) = record { number = number; is_known = true }
flag_by new None = record { number = new; is_known = false }

-- the flag of a resource, and whether an earlier case names it
abbrev pub flag_for : List KRes → KRes → Flag
flag_for seen r = flag_by (length seen) (place_from 0 seen r)

-- `seen_with`, by cases
abbrev pub seen_by : List KRes → KRes → (is_known : Bool) → List KRes
seen_by seen r true = seen
seen_by seen r false = seen ++ r ∷ []

abbrev pub seen_with : List KRes → KRes → List KRes
seen_with seen r = seen_by seen r (flag_for seen r).is_known

-- all resources, behind those of the cases before
abbrev pub resources_from : List KRes → kernel.Cases → List KRes
resources_from seen kernel.no_case = seen
resources_from seen (kernel.more_cases (kernel.case guard i ss) cs) = resources_from (seen_with seen i.resource) cs

-- flags are the temporary words below this one, and expressions have those from it on
abbrev pub first_value : ℕ
first_value = 112

-- the identifier of a resource; of a channel that of an end, given by its place among the ends
abbrev pub resource_name : Plan → (end : ℕ) → KRes → Option ResAt
resource_name plan end (Port p) = resource_at plan.ports p
resource_name plan end (Timer t) = resource_at plan.timers t
resource_name plan end (Chan c) = end_in plan.ends end

-- it comes to r11
abbrev pub name_instrs : Option ResAt → List Instr
name_instrs None = []
name_instrs (Some place) = identifier_instrs place

-- the machine's condition of a test; the third is `timerafter`
abbrev pub cond_named : (test : ℕ) → Cond
cond_named test = if nat_eq test pinseq_word then Eq else if nat_eq test pinsneq_word then Neq else After

-- a port or timer is set for what its case waits for, by the word in r0; it is cleared first, so it has no latch
abbrev pub waiting_instrs : Option kernel.Expression → Option kernel.Condition → List Instr
waiting_instrs (Some time) condition = Setc R11 NoCond ∷ Setpt R11 R0 ∷ []
waiting_instrs None (Some condition) = Setc R11 (cond_named condition.test) ∷ Setd R11 R0 ∷ []
waiting_instrs None None = Setc R11 NoCond ∷ []

-- a channel end needs no setting
abbrev pub setting_instrs : KRes → Option kernel.Expression → Option kernel.Condition → List Instr
setting_instrs (Chan c) time condition = []
setting_instrs (Port p) time condition = waiting_instrs time condition
setting_instrs (Timer t) time condition = waiting_instrs time condition

-- the resource of a case is set, and its event enabled, whose vector is open
abbrev pub arming_lines : Plan → (end : ℕ) → kernel.Input → List Line
arming_lines plan end i =
    at_pos i.pos (name_instrs (resource_name plan end i.resource) ++ setting_instrs i.resource i.time i.condition)
    ++ open_line (Setv R11 0) i.pos ∷ line (Eeu R11) i.pos ∷ []

-- a jump past lines, and these
abbrev pub past_lines : (jump : Instr) → Pos → (ℕ → List Line) → (here : ℕ) → List Line
past_lines jump pos inner here = line (with_target jump (here + 1 + length (inner (here + 1)))) pos ∷ inner (here + 1)

-- unless an earlier case of the resource is enabled
abbrev pub tested_lines : Flag → Pos → (arming : List Line) → (here : ℕ) → List Line
tested_lines flag pos arming here =
    if flag.is_known
    then line (Ldwsp R10 flag.number) pos ∷ past_lines (Brft R10 0) pos (λ n. line (Stwsp R9 flag.number) pos ∷ arming) (here + 1)
    else arming

-- the word of an expression, where there is one, comes to r0
abbrev pub value_lines : List (Option VarPlan) → Option kernel.Expression → (here : ℕ) → (last : Pos) → List Line
value_lines vars None here last = []
value_lines vars (Some x) here last = expression_code vars x first_value here last

-- the word of the time or condition, and then the setting up
abbrev pub timed_lines : Plan → (end : ℕ) → Flag → kernel.Input → (here : ℕ) → (last : Pos) → List Line
timed_lines plan end flag i here last =
    let value = value_lines plan.vars (timing_expression i.time i.condition) here last in
    value ++ tested_lines flag i.pos (arming_lines plan end i) (here + length value)

-- which register has the word that the flag of a new resource gets: that of the guard, else 1
abbrev pub flag_source : Option kernel.Expression → Reg
flag_source None = R9
flag_source (Some guard) = R0

-- the flag of a resource that no earlier case names
abbrev pub flag_lines : Flag → Pos → Reg → List Line
flag_lines flag pos from = if flag.is_known then [] else line (Stwsp from flag.number) pos ∷ []

-- the guard's word, and the flag
abbrev pub guard_lines : List (Option VarPlan) → Flag → Pos → Option kernel.Expression → (here : ℕ) → (last : Pos) → List Line
guard_lines vars flag pos guard here last =
    value_lines vars guard here last ++ flag_lines flag pos (flag_source guard)

-- what stands behind a guard is passed where it is 0
abbrev pub guarded_lines : Option kernel.Expression → Pos → (ℕ → Pos → List Line) → (here : ℕ) → (last : Pos) → List Line
guarded_lines None pos inner here last = inner here last
guarded_lines (Some guard) pos inner here last = past_lines (Brff R0 0) pos (λ n. inner n pos) here

-- a case
abbrev pub case_lines :
    Plan → (end : ℕ) → Flag → Option kernel.Expression → kernel.Input → (here : ℕ) → (last : Pos) → List Line
case_lines plan end flag guard i here last =
    let front = guard_lines plan.vars flag i.pos guard here last in
    front ++ guarded_lines guard i.pos (timed_lines plan end flag i) (here + length front) (last_or last front)

-- There is an end for each case; that of a port's or timer's isn't looked at.

abbrev pub first_end : List ℕ → ℕ
first_end [] = 0
first_end (end ∷ ends) = end

abbrev pub other_ends : List ℕ → List ℕ
other_ends [] = []
other_ends (end ∷ ends) = ends

-- all of them, behind those that name these resources
abbrev pub cases_lines : Plan → (ends : List ℕ) → List KRes → (here : ℕ) → (last : Pos) → kernel.Cases → List Line
cases_lines plan ends seen here last kernel.no_case = []
cases_lines plan ends seen here last (kernel.more_cases (kernel.case guard i ss) cs) =
    let lines = case_lines plan (first_end ends) (flag_for seen i.resource) guard i here last in
    lines ++ cases_lines plan (other_ends ends) (seen_with seen i.resource) (here + length lines) (last_or last lines) cs

-- the indices of their open vectors, in order: a case ends with the open SETV and EEU
abbrev pub cases_starts : Plan → (ends : List ℕ) → List KRes → (here : ℕ) → (last : Pos) → kernel.Cases → List ℕ
cases_starts plan ends seen here last kernel.no_case = []
cases_starts plan ends seen here last (kernel.more_cases (kernel.case guard i ss) cs) =
    let lines = case_lines plan (first_end ends) (flag_for seen i.resource) guard i here last in
    (here + length lines - 2)
    ∷ cases_starts plan (other_ends ends) (seen_with seen i.resource) (here + length lines) (last_or last lines) cs

-- at the end the thread takes an event, and waits for one where there is no default
abbrev pub taking_lines : (otherwise : Bool) → Pos → List Line
taking_lines true pos = line (Setsr 1) pos ∷ line (Clrsr 1) pos ∷ open_line (Brfu 0) pos ∷ []
taking_lines false pos = line (Setsr 1) pos ∷ line Waiteu pos ∷ []

-- the index of the default's open start, the last of those lines
abbrev pub default_start : (otherwise : Bool) → (behind : ℕ) → Option ℕ
default_start true behind = Some (behind - 1)
default_start false behind = None

-- nothing is enabled for the thread at the beginning, and r9 has the word of a flag that is set
abbrev pub beginning_lines : Pos → List Line
beginning_lines pos = line Clre pos ∷ line (Ldc R9 1) pos ∷ []

-- all of it
abbrev pub opening_lines : Plan → (ends : List ℕ) → kernel.Cases → (otherwise : Bool) → Pos → (here : ℕ) → List Line
opening_lines plan ends cases otherwise pos here =
    beginning_lines pos ++ (cases_lines plan ends [] (here + 2) pos cases ++ taking_lines otherwise pos)

-- the indices of its open lines, in order, where it ends at an index: the starts of its cases, and that of its default
abbrev pub opening_starts : Plan → (ends : List ℕ) → kernel.Statement → (here behind : ℕ) → List ℕ
opening_starts plan ends s here behind =
    cases_starts plan ends [] (here + 2) (select_pos s) (cases_in s) ++ listed (default_start (has_default s) behind)

-- the index of a hole
abbrev pub index_of : Hole → ℕ
index_of hole = hole.index
