-- What comes to a core in its part of a round, link by link.
use Rattle.std.proofs.Common.{◌≡◌, ◌≤◌, ℕ, ◌+◌, List, length, sym, ap, subst, ◌∙◌, add-one, le_refl, length-append, arith}
use Rattle.xs_core.specs.Core.{Seen as Core}
use Rattle.xs_instr.specs.declared.state.Item.{Item}
use Rattle.xs_instr.specs.Machine.{link_of, link_put}
use Rattle.xs_fabric.specs.Lockstep.{all_came, due_from, due_of, late_from, late_of}
use Rattle.xs_fabric.specs.Rooms.{AllHaveRoom}
use Rattle.xs_fabric.specs.Rounds.{Links}
use Rattle.xs_fabric.proofs.Clocks.{came_clock}
use Rattle.xs_fabric.proofs.Links.{late_keeps}
use Rattle.xs_fabric.proofs.LockstepLeads.{came_append}

-- the core after what is due from the cores below n
abbrev pub came_to : Core → Links → ℕ → Core
came_to core links n =
    record core { state = all_came core.state (due_from links core.home.number core.state.clock n) }

module _ (core0 core : Core) (links0 links : Links) (n : ℕ) (e : core ≡ came_to core0 links0 n) (f : links ≡ late_from links0 core0.home.number core0.state.clock n) where
  same_clock : core.state.clock ≡ core0.state.clock
  same_clock =
      ap (λ (k : Core). k.state.clock) e ∙ came_clock core0.state (due_from links0 core0.home.number core0.state.clock n)

  pub same_number : core.home.number ≡ core0.home.number
  same_number = ap (λ (k : Core). k.home.number) e

  pub same_link : link_of links n core.home.number ≡ link_of links0 n core0.home.number
  same_link =
      ap (λ c. link_of links n c) same_number ∙ ap (λ l. link_of l n core0.home.number) f
      ∙ late_keeps links0 core0.home.number core0.state.clock n n (le_refl n)

  same_due : due_of core.state.clock (link_of links n core.home.number) ≡ due_of core0.state.clock (link_of links0 n core0.home.number)
  same_due =
      ap (λ t. due_of t (link_of links n core.home.number)) same_clock ∙ ap (due_of core0.state.clock) same_link

  pub link_few : length (link_of links0 n core0.home.number) ≤ 512 → length (link_of links n core.home.number) ≤ 512
  link_few h = subst (λ (l : List Item). length l ≤ 512) (sym same_link) h

  pub link_room : AllHaveRoom core0.home (came_to core0 links0 n).state (due_of core0.state.clock (link_of links0 n core0.home.number)) → AllHaveRoom core.home core.state (due_of core.state.clock (link_of links n core.home.number))
  link_room h =
      subst (λ (k : Core). AllHaveRoom k.home k.state (due_of core.state.clock (link_of links n core.home.number))) (sym e)
      (subst (AllHaveRoom core0.home (came_to core0 links0 n).state) (sym same_due) h)

  pub next_core : (core' : Core) → core' ≡ record core { state = all_came core.state (due_of core.state.clock (link_of links n core.home.number)) } → core' ≡ came_to core0 links0 (n + 1)
  next_core core' h =
      rw add-one
      (h
      ∙ ap (λ items. record core { state = all_came core.state items }) same_due
      ∙ ap (λ (k : Core). record k { state = all_came k.state (due_of core0.state.clock (link_of links0 n core0.home.number)) }) e
      ∙ ap (λ s. record core0 { state = s }) (sym (came_append core0.state (due_from links0 core0.home.number core0.state.clock n) (due_of core0.state.clock (link_of links0 n core0.home.number)))))

  pub next_links : (links' : Links) → links' ≡ link_put links n core.home.number (late_of core.state.clock (link_of links n core.home.number)) → links' ≡ late_from links0 core0.home.number core0.state.clock (n + 1)
  next_links links' h =
      rw add-one
      (h
      ∙ ap (λ c. link_put links n c (late_of core.state.clock (link_of links n c))) same_number
      ∙ ap (λ t. link_put links n core0.home.number (late_of t (link_of links n core0.home.number))) same_clock
      ∙ ap (λ l. link_put l n core0.home.number (late_of core0.state.clock (link_of l n core0.home.number))) f)

  pub next_count : (count more : ℕ) → count ≡ length (due_from links0 core0.home.number core0.state.clock n) → more ≡ length (due_of core.state.clock (link_of links n core.home.number)) → count + more ≡ length (due_from links0 core0.home.number core0.state.clock (n + 1))
  next_count count more h g =
      let both = length-append (due_from links0 core0.home.number core0.state.clock n) (due_of core0.state.clock (link_of links0 n core0.home.number)) in
      let same = ap length same_due in
      rw add-one (omega (arith, h, g, both, same))
