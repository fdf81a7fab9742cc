-- The code of a transfer leads to its protocol.
use Rattle.std.proofs.Common.{◌≡◌, ℕ, zero, suc, ◌+◌, ◌/◌, ◌%◌, inl, inr, Bool, true, false, List, [], ◌++◌, length, Some, refl, sym, ap, ◌∙◌, subst, arith, append_assoc, length-append}
use Rattle.std.specs.Prelude.{bit_or, nat_eq, slice_get}
use Rattle.std.specs.Int.Bits.{or_self}
use Rattle.xw_words.specs.declared.pos.Pos.{Pos}
use Rattle.xs_instr.specs.declared.image.Home.{Home}
use Rattle.xs_instr.specs.declared.instr.Instr.TheVariants.{Or}
use Rattle.xs_instr.specs.declared.instr.Reg.{Reg}
use Rattle.xs_instr.specs.declared.instr.Reg.TheVariants.{R10, R11}
use Rattle.xs_instr.specs.declared.state.CoreState.{CoreState}
use Rattle.xs_instr.specs.declared.state.Mode.TheVariants.{Running}
use Rattle.xs_instr.specs.declared.state.Regs.{Regs}
use Rattle.xs_instr.specs.declared.state.Thread.{Thread}
use Rattle.xs_instr.specs.Lines.{Line, at_pos}
use Rattle.xs_instr.specs.Memory.{address_at}
use Rattle.xs_instr.specs.OwnSteps.{HasRoom, IsApart, IsWord, RunsAt, StandAt, Within}
use Rattle.xs_instr.specs.Registers.{reg_get, reg_set}
use Rattle.xs_instr.specs.Resources.{named}
use Rattle.xl_expr.specs.declared.plan.Plan.{Plan}
use Rattle.xl_expr.specs.declared.plan.ResAt.{ResAt}
use Rattle.xl_expr.specs.declared.plan.ResAt.TheVariants.{Fixed, Held}
use Rattle.xl_expr.specs.Identifiers.{Identifies, IsIdentifier, Named}
use Rattle.xl_expr.specs.Plans.{end_in}
use Rattle.xl_expr.specs.Stores.{is_working}
use Rattle.xl_expr.specs.Works.{same_reg}
use Rattle.xl_expr.specs.Targets.{AreAimed}
use Rattle.xl_expr.proofs.Evaluates.{then_within}
use Rattle.xl_expr.proofs.GoodCode.{aimed_append, plain_aimed}
use Rattle.xl_expr.proofs.Lists.{room_kept, stand_front, stand_back, word_by_same}
use Rattle.xl_expr.proofs.Runs.{by_quiet}
use Rattle.xl_expr.proofs.Ways.{own, way_leads}
use Rattle.xl_chan.specs.Protocols.{at_index, beside, input_acts, input_instrs, instead_of_r11, kept_from_r11, output_acts, output_instrs}
use Rattle.xl_chan.specs.Transfers.{AtProtocol, EndStands, EndsAt, Sends, Takes}
use Rattle.xl_chan.proofs.Acting.{input_by, output_by}

-- another way to say where it leads
pub within_map : (home : Home) (relied : ℕ → Bool) (leaves : ℕ → Type 0) (t : ℕ) (P Q : CoreState → Type 0) → ((b : CoreState) → P b → Q b) → (n : ℕ) (a : CoreState) → Within home relied leaves t P n a → Within home relied leaves t Q n a
within_map home relied leaves t P Q f zero a h = f a h
within_map home relied leaves t P Q f (suc n) a (inl h) = inl (f a h)
within_map home relied leaves t P Q f (suc n) a (inr h) = inr (λ b k. let x = h b k in (x.0, x.1, within_map home relied leaves t P Q f n x.0 x.2))

-- the thread stands at an index with these registers, and the words that it relies on are those of a list
pub record Stays (relied : ℕ → Bool) (t : ℕ) (thread : Thread) (old : List ℕ) (index : ℕ) (regs : Regs) (b : CoreState) : Type 0 where
  pub here : slice_get b.threads t ≡ Some (at_index thread index regs)
  pub words : (w : ℕ) → relied w ≡ true → slice_get b.words w ≡ slice_get old w

-- the lines, around those that give the end's name

abbrev pub sending : Pos → (value : Reg) → (plain : Bool) → List Line → List Line
sending pos value plain is = at_pos pos (kept_from_r11 value) ++ (is ++ at_pos pos (output_instrs (instead_of_r11 value) plain))

abbrev pub taking : Pos → (to : Reg) → (plain : Bool) → List Line → List Line
taking pos to plain is = is ++ (at_pos pos (kept_from_r11 to) ++ at_pos pos (input_instrs (beside to) to plain))

pub sending_is : (pos : Pos) (value : Reg) (plain : Bool) (old e1 e2 e3 is : List Line) (from : Reg) → e1 ≡ old ++ at_pos pos (kept_from_r11 value) → e2 ≡ e1 ++ is → e3 ≡ e2 ++ at_pos pos (output_instrs from plain) → from ≡ instead_of_r11 value → e3 ≡ old ++ sending pos value plain is
sending_is pos value plain old e1 e2 e3 is from kept named put from_is =
    let ks = at_pos pos (kept_from_r11 value) in
    let ms = at_pos pos (output_instrs from plain) in
    put
    ∙ ap (λ ls. ls ++ ms) (named ∙ ap (λ ls. ls ++ is) kept)
    ∙ append_assoc (old ++ ks) is ms
    ∙ append_assoc old ks (is ++ ms)
    ∙ ap (λ r. old ++ (ks ++ (is ++ at_pos pos (output_instrs r plain)))) from_is

pub taking_is : (pos : Pos) (to : Reg) (plain : Bool) (old e1 e2 e3 is : List Line) (name : Reg) → e1 ≡ old ++ is → e2 ≡ e1 ++ at_pos pos (kept_from_r11 to) → e3 ≡ e2 ++ at_pos pos (input_instrs name to plain) → name ≡ beside to → e3 ≡ old ++ taking pos to plain is
taking_is pos to plain old e1 e2 e3 is name named kept put name_is =
    let ks = at_pos pos (kept_from_r11 to) in
    let ms = at_pos pos (input_instrs name to plain) in
    put
    ∙ ap (λ ls. ls ++ ms) (kept ∙ ap (λ ls. ls ++ ks) named)
    ∙ append_assoc (old ++ is) ks ms
    ∙ append_assoc old is (ks ++ ms)
    ∙ ap (λ r. old ++ (is ++ (ks ++ at_pos pos (input_instrs r to plain)))) name_is

-- what r10 holds behind the keeping of r11
abbrev regs_kept : Reg → Regs → Regs
regs_kept R11 regs = reg_set regs R10 (bit_or regs.r11 regs.r11)
regs_kept other regs = regs

other_r10 : (regs : Regs) (v : ℕ) (q : Reg) → is_working q ≡ false → reg_get (reg_set regs R10 v) q ≡ reg_get regs q
other_r10 regs v R10 h = cc
other_r10 regs v other h = refl

pub other_r11 : (regs : Regs) (v : ℕ) (q : Reg) → is_working q ≡ false → reg_get (reg_set regs R11 v) q ≡ reg_get regs q
other_r11 regs v R11 h = cc
other_r11 regs v other h = refl

kept_others : (r : Reg) (regs : Regs) (q : Reg) → is_working q ≡ false → reg_get (regs_kept r regs) q ≡ reg_get regs q
kept_others R11 regs q w = other_r10 regs (bit_or regs.r11 regs.r11) q w
kept_others other regs q w = refl

kept_dp : (r : Reg) (regs : Regs) → (regs_kept r regs).dp ≡ regs.dp
kept_dp R11 regs = refl
kept_dp other regs = refl

-- the word of an output outlasts the end's name
kept_word : (r : Reg) (regs : Regs) (name : ℕ) → reg_get (reg_set (regs_kept r regs) R11 name) (instead_of_r11 r) ≡ reg_get regs r
kept_word R11 regs name = or_self regs.r11
kept_word other regs name = refl

-- the name of an input's end is there
kept_name : (r : Reg) (regs : Regs) (name : ℕ) → reg_get (regs_kept r (reg_set regs R11 name)) (beside r) ≡ name
kept_name R11 regs name = or_self name
kept_name other regs name = refl

beside_apart : (r : Reg) → same_reg (beside r) r ≡ false
beside_apart R11 = refl
beside_apart other = refl

module _ (relied : ℕ → Bool) (s dp : ℕ) (words words' : List ℕ) (same : (w : ℕ) → relied w ≡ true → IsApart s w → slice_get words' w ≡ slice_get words w) where
  same_word : (address x : ℕ) → IsWord relied s words address x → IsWord relied s words' address x
  same_word address x h = record {
    there = word_by_same words words' address (nat_eq (address % 4) 0) (same (address / 4) h.relied_on h.apart) ∙ h.there;
    relied_on = h.relied_on;
    apart = h.apart;
  }

  pub same_identifier : (place : ResAt) (name : ℕ) → IsIdentifier relied s dp words place name → IsIdentifier relied s dp words' place name
  same_identifier (Fixed id) name h = h
  same_identifier (Held n j) name h = (h.0, same_word (address_at dp n) h.0 h.1, h.2)

module _ (home : Home) (relied : ℕ → Bool) (s t e : ℕ) (thread : Thread) (pos : Pos) (runs : thread.mode ≡ Running) (quiet : thread.event_bit ≡ false) (old : List ℕ) where
  abbrev StaysAt : ℕ → Regs → CoreState → Type 0
  StaysAt = Stays relied t thread old

  -- r11 is kept in r10
  keeps_leads : (r : Reg) (index : ℕ) (regs : Regs) (b : CoreState) → StandAt home.parts.code index (at_pos pos (kept_from_r11 r)) → StaysAt index regs b → Within home relied (IsApart s) t (StaysAt (index + length (at_pos pos (kept_from_r11 r))) (regs_kept r regs)) 1 b
  keeps_leads R11 index regs b st h =
      let regs' = reg_set regs R10 (bit_or regs.r11 regs.r11) in
      let sure = by_quiet home.parts.code relied s (Or R10 R11 R11) regs regs' b.words index (index + 1) st.0 (record { row_is = λ h c t th. refl; no_event = refl }) (λ ws g. refl) in
      way_leads home.parts.code relied (IsApart s) home t thread runs quiet refl (StaysAt (index + 1) regs') 1 1 (own index regs b.words) (own (index + 1) regs' b.words) (omega arith) (own (index + 1) regs' b.words, sure, refl)
      (λ c f. record { here = f.here; words = λ w r. f.words.by w r ∙ h.words w r }) b
      (record { here = h.here; words = record { by = λ w r. refl } })
  keeps_leads other index regs b st h =
      let e : index ≡ index + 0 = omega arith in
      inl (subst (λ n. StaysAt n regs b) e h)

  -- the end's name comes to r11
  name_leads : (place : ResAt) (name index : ℕ) (ls : List Line) → Identifies place index ls → (regs : Regs) (b : CoreState) → IsIdentifier relied s regs.dp b.words place name → StandAt home.parts.code index ls → StaysAt index regs b → Within home relied (IsApart s) t (StaysAt (index + length ls) (reg_set regs R11 name)) 2 b
  name_leads place name index ls identifies regs b is st h =
      within_map home relied (IsApart s) t (Named relied t (at_index thread index regs) b.words name (index + length ls)) (StaysAt (index + length ls) (reg_set regs R11 name))
      (λ c n. record { here = n.here; words = λ w r. n.words w r ∙ h.words w r }) 2 b
      (identifies.by home relied s t name (at_index thread index regs) b st (record { here = h.here; pc_is = refl; runs = runs; no_events = quiet }) is)

pub some_is : (x y : ResAt) → Some x ≡ Some y → x ≡ y
some_is x y h = cc

module _ (plan : Plan) (end : ℕ) (plain : Bool) (pos : Pos) (place : ResAt) (planned : end_in plan.ends end ≡ Some place) (pc : ℕ) where
  module _ (home : Home) (relied : ℕ → Bool) (s t e : ℕ) (thread : Thread) (a : CoreState) (at_work : RunsAt t pc thread a) (room : HasRoom relied s thread.regs a.words) (stands : EndStands home relied s thread.regs.dp plan end e a.words) where
    abbrev StaysHere : ℕ → Regs → CoreState → Type 0
    StaysHere = Stays relied t thread a.words

    first : StaysHere pc thread.regs a
    first = record { here = at_work.here ∙ ap (λ q. Some (record thread { pc = q })) at_work.pc_is; words = λ w r. refl }

    is_place : IsIdentifier relied s thread.regs.dp a.words place stands.name
    is_place = subst (λ p. IsIdentifier relied s thread.regs.dp a.words p stands.name) (some_is stands.place place (sym stands.planned ∙ planned)) stands.name_is

    send_leads : (value : Reg) (is : List Line) → Identifies place (pc + length (at_pos pos (kept_from_r11 value))) is → StandAt home.parts.code pc (sending pos value plain is) → Within home relied (IsApart s) t (AtProtocol home relied s t e thread a.words pos (output_acts (reg_get thread.regs value) plain) (EndsAt (pc + length (sending pos value plain is)))) 3 a
    send_leads value is identifies st =
        let ks = at_pos pos (kept_from_r11 value) in
        let ms = at_pos pos (output_instrs (instead_of_r11 value) plain) in
        let pc1 = pc + length ks in
        let pc2 = pc1 + length is in
        let regs1 = regs_kept value thread.regs in
        let regs2 = reg_set regs1 R11 stands.name in
        let behind : ℕ = pc + length (ks ++ (is ++ ms)) in
        let last : pc2 + length ms ≡ behind = omega (arith, length-append ks (is ++ ms), length-append is ms) in
        let st1 = stand_back home.parts.code pc ks (is ++ ms) st in
        let At : CoreState → Type 0 = AtProtocol home relied s t e thread a.words pos (output_acts (reg_get thread.regs value) plain) (EndsAt behind) in
        then_within home relied (IsApart s) t (StaysHere pc1 regs1) At 1 2 a
        (keeps_leads home relied s t e thread pos at_work.runs at_work.no_events a.words value pc thread.regs a (stand_front home.parts.code pc ks (is ++ ms) st) first)
        (λ b h.
        within_map home relied (IsApart s) t (StaysHere pc2 regs2) At
        (λ c k. record {
          index = pc2;
          regs = regs2;
          here = k.here;
          within = room_kept relied s room.relied_on a.words c.words room.within k.words;
          words = λ w r l. k.words w r;
          others = λ r w. other_r11 regs1 stands.name r w ∙ kept_others value thread.regs r w;
          steps = output_by home t e thread pos at_work.runs at_work.no_events (instead_of_r11 value) (reg_get thread.regs value) plain (EndsAt behind) pc2 regs2 stands.names (kept_word value thread.regs stands.name) (stand_back home.parts.code pc1 is ms st1) last;
        }) 2 b
        (name_leads home relied s t e thread pos at_work.runs at_work.no_events a.words place stands.name pc1 is identifies regs1 b
        (subst (λ d. IsIdentifier relied s d b.words place stands.name) (sym (kept_dp value thread.regs)) (same_identifier relied s thread.regs.dp a.words b.words (λ w r l. h.words w r) place stands.name is_place))
        (stand_front home.parts.code pc1 is ms st1) h))

    take_leads : (to : Reg) (is : List Line) → Identifies place pc is → StandAt home.parts.code pc (taking pos to plain is) → Within home relied (IsApart s) t (AtProtocol home relied s t e thread a.words pos (input_acts to plain) (EndsAt (pc + length (taking pos to plain is)))) 3 a
    take_leads to is identifies st =
        let ks = at_pos pos (kept_from_r11 to) in
        let ms = at_pos pos (input_instrs (beside to) to plain) in
        let pc1 = pc + length is in
        let pc2 = pc1 + length ks in
        let regs1 = reg_set thread.regs R11 stands.name in
        let regs2 = regs_kept to regs1 in
        let behind : ℕ = pc + length (is ++ (ks ++ ms)) in
        let last : pc2 + length ms ≡ behind = omega (arith, length-append is (ks ++ ms), length-append ks ms) in
        let st1 = stand_back home.parts.code pc is (ks ++ ms) st in
        let At : CoreState → Type 0 = AtProtocol home relied s t e thread a.words pos (input_acts to plain) (EndsAt behind) in
        then_within home relied (IsApart s) t (StaysHere pc1 regs1) At 2 1 a
        (name_leads home relied s t e thread pos at_work.runs at_work.no_events a.words place stands.name pc is identifies thread.regs a is_place
        (stand_front home.parts.code pc is (ks ++ ms) st) first)
        (λ b h.
        within_map home relied (IsApart s) t (StaysHere pc2 regs2) At
        (λ c k. record {
          index = pc2;
          regs = regs2;
          here = k.here;
          within = room_kept relied s room.relied_on a.words c.words room.within k.words;
          words = λ w r l. k.words w r;
          others = λ r w. kept_others to regs1 r w ∙ other_r11 thread.regs stands.name r w;
          steps = input_by home t e thread pos at_work.runs at_work.no_events (beside to) to plain (EndsAt behind) pc2 regs2 (ap (named home.number) (kept_name to thread.regs stands.name) ∙ stands.names) (beside_apart to) (stand_back home.parts.code pc1 ks ms st1) (λ v. last);
        }) 1 b
        (keeps_leads home relied s t e thread pos at_work.runs at_work.no_events a.words to pc1 regs1 b (stand_front home.parts.code pc1 ks ms st1) h))

  -- the public clauses, from the code alone
  pub sends_by : (value : Reg) (is : List Line) → Identifies place (pc + length (at_pos pos (kept_from_r11 value))) is → Sends plan end value plain pos pc (sending pos value plain is)
  sends_by value is identifies = record {
    by = λ home relied s t e thread a st at_work room stands. send_leads home relied s t e thread a at_work room stands value is identifies st;
  }

  pub takes_by : (to : Reg) (is : List Line) → Identifies place pc is → Takes plan end to plain pos pc (taking pos to plain is)
  takes_by to is identifies = record {
    by = λ home relied s t e thread a st at_work room stands. take_leads home relied s t e thread a at_work room stands to is identifies st;
  }

-- the lines may stand anywhere

pub kept_aimed : (r : Reg) (pos : Pos) (pc : ℕ) → AreAimed pc (at_pos pos (kept_from_r11 r))
kept_aimed R11 pos pc = plain_aimed pos (kept_from_r11 R11) pc ((λ size n. tt), tt)
kept_aimed other pos pc = plain_aimed pos [] pc tt

pub output_aimed : (from : Reg) (plain : Bool) (pos : Pos) (pc : ℕ) → AreAimed pc (at_pos pos (output_instrs from plain))
output_aimed from true pos pc = plain_aimed pos (output_instrs from true) pc ((λ size n. tt), ((λ size n. omega arith), ((λ size n. omega arith), tt)))
output_aimed from false pos pc = plain_aimed pos (output_instrs from false) pc ((λ size n. tt), tt)

pub input_aimed : (name to : Reg) (plain : Bool) (pos : Pos) (pc : ℕ) → AreAimed pc (at_pos pos (input_instrs name to plain))
input_aimed name to true pos pc = plain_aimed pos (input_instrs name to true) pc ((λ size n. tt), ((λ size n. omega arith), ((λ size n. omega arith), tt)))
input_aimed name to false pos pc = plain_aimed pos (input_instrs name to false) pc ((λ size n. tt), tt)

pub sending_aimed : (pos : Pos) (value : Reg) (plain : Bool) (pc : ℕ) (is : List Line) → AreAimed (pc + length (at_pos pos (kept_from_r11 value))) is → AreAimed pc (sending pos value plain is)
sending_aimed pos value plain pc is h =
    let ks = at_pos pos (kept_from_r11 value) in
    let ms = at_pos pos (output_instrs (instead_of_r11 value) plain) in
    aimed_append pc ks (is ++ ms) (kept_aimed value pos pc) (aimed_append (pc + length ks) is ms h (output_aimed (instead_of_r11 value) plain pos (pc + length ks + length is)))

pub taking_aimed : (pos : Pos) (to : Reg) (plain : Bool) (pc : ℕ) (is : List Line) → AreAimed pc is → AreAimed pc (taking pos to plain is)
taking_aimed pos to plain pc is h =
    let ks = at_pos pos (kept_from_r11 to) in
    let ms = at_pos pos (input_instrs (beside to) to plain) in
    aimed_append pc is (ks ++ ms) h (aimed_append (pc + length is) ks ms (kept_aimed to pos (pc + length is)) (input_aimed (beside to) to plain pos (pc + length is + length ks)))
