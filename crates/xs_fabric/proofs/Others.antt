-- A step changes no other core.
use Rattle.std.proofs.Common.{◌≡◌, ℕ, List, [], ◌∷◌, ◌++◌, Option, Some, None, refl, sym, ap, ◌∙◌, subst}
use Rattle.std.specs.Prelude.{slice_get, slice_set, ◌≢◌}
use Rattle.xs_instr.specs.declared.image.Image.{Image}
use Rattle.xs_instr.specs.declared.image.Stim.{Stim}
use Rattle.xs_instr.specs.declared.state.CoreState.{CoreState}
use Rattle.xs_instr.specs.declared.state.Item.{Item}
use Rattle.xs_instr.specs.declared.state.Sent.{Sent}
use Rattle.xs_instr.specs.declared.trace.Record.{Record}
use Rattle.xs_instr.specs.Did.{Did, Made, Paused, Traps, Idle}
use Rattle.xs_instr.specs.Slot.{slot, trapped, fault_of}
use Rattle.xs_instr.specs.Machine.{Machine, Step, does, stepped, step_at, home_of, link_in, link_of, link_put, link_put_in, on_links, noted}
use Rattle.xs_core.proofs.Lists.{get_set_other, append_nothing}
use Rattle.xs_fabric.proofs.Links.{Links}

-- what a step of core c keeps
pub record Keeps (m m' : Machine) (c : ℕ) : Type 0 where
  pub cores : (d : ℕ) → c ≢ d → slice_get m'.cores d ≡ slice_get m.cores d
  pub links : (a b : ℕ) → c ≢ a → link_of m'.links a b ≡ link_of m.links a b
  pub trace : (more : List Record) × (m'.trace ≡ m.trace ++ more)

pub put_row : (links : Links) (c d a b : ℕ) (x : List Item) → c ≢ a → link_of (link_put links c d x) a b ≡ link_of links a b
put_row links c d a b x n = go (slice_get links c)
  where
    go : (o : Option (List (List Item))) → link_of (link_put_in links c d x o) a b ≡ link_of links a b
    go None = refl
    go (Some out) = ap (λ r. link_in r b) (get_set_other links c a (slice_set out d x) n)

sent_row : (links : Links) (c a b : ℕ) (ss : List Sent) → c ≢ a → link_of (on_links links c ss) a b ≡ link_of links a b
sent_row links c a b [] n = refl
sent_row links c a b (s ∷ ss) n = sent_row _ c a b ss n ∙ put_row links c s.to a b _ n

noted_more : (trace : List Record) (r : Option Record) → (more : List Record) × (noted trace r ≡ trace ++ more)
noted_more trace None = ([], sym (append_nothing trace))
noted_more trace (Some r) = (r ∷ [], refl)

module _ (L : Image) (s : Stim) (m m' : Machine) (c t : ℕ) where
  some_is : (a : Machine) → Some a ≡ Some m' → Keeps m a c → Keeps m m' c
  some_is a h g = let e : a ≡ m' = cc in subst (λ (x : Machine). Keeps m x c) e g

  did_keeps : (core : CoreState) (d : Did CoreState) → stepped (home_of L s c) m c t core d ≡ Some m' → Keeps m m' c
  did_keeps core (Made new made sent) h = some_is _ h (record {
    cores = λ d n. get_set_other m.cores c d new n;
    links = λ a b n. sent_row m.links c a b sent n;
    trace = noted_more m.trace made;
  })
  did_keeps core (Traps kind) h = some_is _ h (record {
    cores = λ d n. get_set_other m.cores c d (trapped core t) n;
    links = λ a b n. refl;
    trace = (fault_of (home_of L s c) core t kind ∷ [], refl);
  })
  did_keeps core Paused h = cc
  did_keeps core Idle h = cc

  at_keeps : (o : Option CoreState) → step_at (home_of L s c) m c t o ≡ Some m' → Keeps m m' c
  at_keeps None h = cc
  at_keeps (Some core) h = did_keeps core (slot (home_of L s c) core t) h

  pub step_keeps : does L s m (Step c t) ≡ Some m' → Keeps m m' c
  step_keeps h = at_keeps (slice_get m.cores c) h
