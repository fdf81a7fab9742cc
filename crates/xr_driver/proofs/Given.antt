-- From what was drawn to what a sink gained.
use Rattle.std.proofs.Common.{◌≡◌, ℕ, ◌≤◌, List, [], ◌∷◌, ◌++◌, refl, sym, ◌∙◌, ap, true, false}
use Rattle.std.specs.Prelude.{Option, Result, Ok, Err, MatchResult, is_err, codes, decimal}
use Rattle.xw_io.specs.declared.output.Out.{Out}
use Rattle.xw_io.specs.declared.output.SinkFault.{SinkFault}
use Rattle.xw_io.specs.Gathering.{Drew, Wrote, Passed}
use Rattle.xw_io.specs.Outside.{gained, Rose}
use Rattle.xw_io.proofs.Sinks.{drew-then, drawn, append_nothing, gained-nothing}
use Rattle.xr_driver.specs.Outside.{Gave, Span, span, Gained, GainedFront}
use Rattle.xr_driver.specs.Decision.{line_text}
use Rattle.xr_driver.specs.Lines.{no_file_line, too_long_line, read_fault_line, broken_line, bad_line}
use Rattle.xs_instr.specs.Texts.{pos_text}
use Rattle.xr_driver.specs.declared.decide.Line.{Line}
use Rattle.xr_driver.specs.declared.decide.Line.TheVariants.{Nothing, Usage, NoFile, TooLong, ReadFault, Broken, BadLine, NoMemory}

infixl 5 ◌▹◌
-- a piece and then a flush
pub ◌▹◌ : {O : Type 0} {bytes : O → Option (List ℕ)} {faults : O → ℕ} {a b c : Out O} {x : List ℕ} →
    Drew bytes faults a b x → Drew bytes faults b c [] → Drew bytes faults a c x
◌▹◌ {x = x} p q = let both = drew-then _ _ _ _ _ _ _ p q in rw (append_nothing x) at both

module _ {O : Type 0} (bytes : O → Option (List ℕ)) (faults : O → ℕ) where
  of_wrote : (a b : Out O) (text : List ℕ) (r : Result (Unit {0}) SinkFault) → a.held ≡ [] →
      (b.usable ≡ true → b.held ≡ []) → Wrote bytes faults a b text r → Gave (span bytes faults a.sink.now b.sink.now) text r
  of_wrote a b text (Ok done) start end w =
      (w.1.counts, w.1.passed.told_is ∙ ap (gained (bytes a.sink.now)) (sym front_is))
    where
      front_is : text ≡ w.1.passed.front
      front_is = (let due = w.1.passed.due_is in rw start at due) ∙ ap (λ t. w.1.passed.front ++ t) (end w.0) ∙ append_nothing w.1.passed.front
  of_wrote a b text (Err fault) start end w = (w.1.counts, w.1.rose, (w.1.rest, (let passed = w.1.passed in rw start at passed)))

  -- a text that was drawn from an empty Out to one that is settled
  pub given : (a b : Out O) (text : List ℕ) (r : Result (Unit {0}) SinkFault) → a.usable ≡ true → a.held ≡ [] →
      Drew bytes faults a b text → (b.usable ≡ true → b.held ≡ []) →
      MatchResult r (λ _. b.usable ≡ true) (λ _. b.usable ≡ false) → Gave (span bytes faults a.sink.now b.sink.now) text r
  given a b text r u start p end h = of_wrote a b text r start end (drawn bytes faults a b text r u p h)

-- a line is not empty
ends_some : (xs : List ℕ) (x : ℕ) → xs ++ x ∷ [] ≡ [] → ⊥
ends_some [] x e = absurd (cc)
ends_some (y ∷ ys) x e = absurd (cc)

pub line_some : (l : Line) → (l ≡ Nothing → ⊥) → line_text l ≡ [] → ⊥
unfolding no_file_line too_long_line read_fault_line broken_line bad_line
line_some Nothing h e = h refl
line_some Usage h e = absurd (cc)
line_some (NoFile name) h e = ends_some (codes "no file " ++ name.now) 10 e
line_some (TooLong name) h e = ends_some (codes "too long " ++ name.now) 10 e
line_some (ReadFault name) h e = ends_some (codes "read fault " ++ name.now) 10 e
line_some (Broken name b) h e = ends_some (name.now ++ codes ":" ++ pos_text b.pos ++ codes ": rule " ++ decimal b.rule) 10 e
line_some (BadLine name line rule) h e = ends_some (name.now ++ codes ":" ++ decimal line ++ codes ": rule " ++ decimal rule) 10 e
line_some NoMemory h e = absurd (cc)

-- by the result's test
pub gave_all : (s : Span) (text : List ℕ) (r : Result (Unit {0}) SinkFault) → is_err r ≡ false → Gave s text r → (s.faults ≤ s.faults') × Gained s text
gave_all s text (Ok done) e p = p
gave_all s text (Err fault) e p = absurd (cc)

pub gave_front : (s : Span) (text : List ℕ) (r : Result (Unit {0}) SinkFault) → is_err r ≡ true → Gave s text r → (s.faults ≤ s.faults') × Rose s.faults s.faults' × GainedFront s text
gave_front s text (Ok done) e p = absurd (cc)
gave_front s text (Err fault) e p = p

pub nothing_yet : (told : Option (List ℕ)) (due : List ℕ) → (rest : List ℕ) × Passed told told due rest
nothing_yet told due = (due, record { front = []; due_is = refl; told_is = sym (gained-nothing told) })

pub all_of_it : (told told' : Option (List ℕ)) (due : List ℕ) → told' ≡ gained told due → (rest : List ℕ) × Passed told told' due rest
all_of_it told told' due e = ([], record { front = due; due_is = sym (append_nothing due); told_is = e })
