-- Where the machine is quiet, no thread's slot is a step. On a channel's end it then lacks credits, or tokens.
use Rattle.std.proofs.Common.{◌≡◌, ℕ, ◌<◌, List, [], ◌∷◌, length, Option, Some, None, refl, sym, ap, ◌∙◌, arith}
use Rattle.std.specs.Prelude.{Bool, true, false, ◌&&◌, nat_eq, nat_le}
use Rattle.xs_instr.specs.declared.image.Home.{Home}
use Rattle.xs_instr.specs.declared.state.ChanEnd.{ChanEnd}
use Rattle.xs_instr.specs.declared.state.CoreState.{CoreState}
use Rattle.xs_instr.specs.declared.state.Token.{Token}
use Rattle.xs_instr.specs.declared.trace.Record.{Record}
use Rattle.xs_instr.specs.declared.trace.Trap.{Trap}
use Rattle.xs_instr.specs.Did.{Did, Given, Idle, Made, Paused, Traps, is_step, map_did}
use Rattle.xs_instr.specs.Ends.{Control, Gone, NotYet, Taken, Word, check, check_by, check_in, first_control, ins_control, ins_word, outs, outs_by, take_word, word_in, word_unless}
use Rattle.xs_instr.specs.Machine.{Machine, home_of, step_at, stepped}
use Rattle.xs_instr.specs.Slot.{slot}
use Rattle.xl_par.specs.Acquired.{Acquired}
use Rattle.xr_match.specs.Implements.{IsQuietMachine}
use Rattle.xr_simulation.specs.Runners.{home}
use Rattle.xr_simulation.proofs.Relation.Moments.{Moment, ThreadAt}

-- a turn that leaves no machine is no step
no_step_left : (h : Home) (m : Machine) (c t : ℕ) (a : CoreState) (did : Did CoreState) → stepped h m c t a did ≡ None → is_step did ≡ false
no_step_left h m c t a (Made left made sent) e = cc
no_step_left h m c t a (Traps kind) e = cc
no_step_left h m c t a Paused e = refl
no_step_left h m c t a Idle e = refl

-- the same turn, told of a larger part
told_is_step : {A B : Type 0} (put : A → B) (did : Did A) → is_step (map_did put did) ≡ is_step did
told_is_step put (Made left made sent) = refl
told_is_step put (Traps kind) = refl
told_is_step put Paused = refl
told_is_step put Idle = refl

-- tokens go out where there are credits
outs_is_step : (gone : Gone) (enough : Bool) → is_step (outs_by gone enough) ≡ enough
outs_is_step gone true = refl
outs_is_step gone false = refl

-- a control token that is there is taken, or traps
check_is_step : (gone : Gone) (k : Token) (same : Bool) → is_step (check_in gone (check_by k same)) ≡ true
check_is_step gone k true = refl
check_is_step gone k false = refl

-- so one that pauses has found none
check_waits : (gone : Gone) (ks : List Token) (n : ℕ) → is_step (check_in gone (check ks n)) ≡ false → ks ≡ []
check_waits gone [] n e = refl
check_waits gone (k ∷ ks) n e = let both : true ≡ false = sym (check_is_step gone k (k.control && nat_eq k.byte n)) ∙ e in cc

-- four tokens are a word, or trap
not_yet : (v : ℕ) (c : Option ℕ) → word_unless (Word v) c ≡ NotYet → ⊥
not_yet v None e = cc
not_yet v (Some c) e = cc

-- so one that awaits a word has found fewer
fewer_than_four : (ks : List Token) → take_word ks ≡ NotYet → length ks < 4
fewer_than_four [] e = omega arith
fewer_than_four (a ∷ []) e = omega arith
fewer_than_four (a ∷ b ∷ []) e = omega arith
fewer_than_four (a ∷ b ∷ c ∷ []) e = omega arith
fewer_than_four (a ∷ b ∷ c ∷ d ∷ ks) e = absurd (not_yet _ (first_control (a ∷ b ∷ c ∷ d ∷ [])) e)

-- it pauses only there
word_waits : (h : Home) (gone : Gone) (taken : Taken) → is_step (word_in h gone taken) ≡ false → taken ≡ NotYet
word_waits h gone (Word v) e = cc
word_waits h gone (Control c) e = cc
word_waits h gone NotYet e = refl

module _ {may_rest : (core thread : ℕ) → Bool} {moment : Moment may_rest} {hand : Option Acquired} (thread_at : ThreadAt moment hand)
    (quiet : IsQuietMachine moment.setting.image moment.setting.stimulus moment.watched.machine) where
  open moment use {setting as g, roles as who, watched as w, told as x, standing as st}
  open thread_at use {core as c, thread as t, state as a, at_core as at_c, runner as r, runs as runs_r}

  -- the thread's slot is no step
  pub no_step : is_step (slot (home g r) a r.thread) ≡ false
  no_step =
      let core = st.roles.core c t r hand runs_r in
      let thread = st.roles.thread c t r hand runs_r in
      no_step_left (home g r) w.machine r.core r.thread a (slot (home g r) a r.thread)
      (ap (λ k. stepped (home_of g.image g.stimulus k) w.machine k r.thread a (slot (home_of g.image g.stimulus k) a r.thread)) core
      ∙ ap (λ k. stepped (home_of g.image g.stimulus c) w.machine c k a (slot (home_of g.image g.stimulus c) a k)) thread
      ∙ sym (ap (step_at (home_of g.image g.stimulus c) w.machine c t) at_c)
      ∙ quiet.steps c t)

  -- it makes nothing
  pub not_made : (left : CoreState) (made : Option Record) → slot (home g r) a r.thread ≡ Made left made [] → ⊥
  not_made left made h = let both : true ≡ false = sym (ap is_step h) ∙ no_step in cc

  -- and doesn't trap
  pub not_trapped : (kind : Trap) → slot (home g r) a r.thread ≡ Traps kind → ⊥
  not_trapped kind h = let both : true ≡ false = sym (ap is_step h) ∙ no_step in cc

  -- and what it tells of is no step
  part_no_step : {A : Type 0} (put : A → CoreState) (did : Did A) → slot (home g r) a r.thread ≡ map_did put did → is_step did ≡ false
  part_no_step put did h = sym (told_is_step put did) ∙ sym (ap is_step h) ∙ no_step

  -- where it sends tokens it lacks credits
  pub lacks_credits : (put : List ChanEnd → CoreState) (ks : List Token) (e : ℕ) (end : ChanEnd) →
      slot (home g r) a r.thread ≡ map_did put (outs (home g r) a.clock ks a.ends e end) → nat_le (length ks) end.credits ≡ false
  lacks_credits put ks e end h = sym (outs_is_step _ (nat_le (length ks) end.credits)) ∙ part_no_step put (outs (home g r) a.clock ks a.ends e end) h

  -- where it takes a control token none is there
  pub lacks_tokens : (put : List ChanEnd → CoreState) (n e : ℕ) (end : ChanEnd) →
      slot (home g r) a r.thread ≡ map_did put (ins_control (home g r) a.clock n a.ends e end) → end.tokens ≡ []
  lacks_tokens put n e end h = check_waits _ end.tokens n (part_no_step put (ins_control (home g r) a.clock n a.ends e end) h)

  -- and where it takes a word no four are
  pub lacks_word : (put : Given (List ChanEnd) → CoreState) (e : ℕ) (end : ChanEnd) →
      slot (home g r) a r.thread ≡ map_did put (ins_word (home g r) a.clock a.ends e end) → (take_word end.tokens ≡ NotYet) × (length end.tokens < 4)
  lacks_word put e end h =
      let waits = word_waits (home g r) _ (take_word end.tokens) (part_no_step put (ins_word (home g r) a.clock a.ends e end) h) in
      (waits, fewer_than_four end.tokens waits)
