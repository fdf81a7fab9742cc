-- The jumps to the end of a block or select land one after another, and the others are left.
use Rattle.std.proofs.Common.{◌≡◌, ℕ, ◌+◌, ◌<◌, true, false, List, [], ◌∷◌, ◌++◌, length, drop, get_or, Option, Some, None, refl, sym, ap, ◌∙◌, subst, append_assoc, add-one, drop-cons}
use Rattle.std.specs.Prelude.{slice_get}
use Rattle.std.proofs.lemmas.List.{length-set}
use Rattle.xs_instr.specs.Lines.{Line, IsOpen, landed, landed_at}
use Rattle.xl_statements.specs.declared.leaving.JumpTarget.{JumpTarget}
use Rattle.xl_statements.specs.declared.leaving.Leaving.{Leaving}
use Rattle.xl_statements.specs.Cells.{same_target}
use Rattle.xl_statements.specs.Landing.{Closable, OpenWhere, closed_line, closed_lines, kept_leaving, others_leaving}

-- what the loop keeps: the lines so far and the jumps that are still to be seen lead to the same
pub record Closing (first : List Line) (ended : JumpTarget) (end : ℕ) (all : List Leaving) (ls : List Line) (unseen : List Leaving) : Type 0 where
  pub lines : closed_lines first ended end all ≡ closed_lines ls ended end unseen
  pub size : length ls ≡ length first
  pub open_ones : Closable ls ended end unseen

pub unseen_at : (all : List Leaving) (i : ℕ) (d : Leaving) → i < length all → drop i all ≡ get_or all i d ∷ drop (i + 1) all
unseen_at all i d h = rw add-one (drop-cons all i d h)

pub landed_length : (ls : List Line) (k end : ℕ) (o : Option Line) → length (landed_at ls k end o) ≡ length ls
landed_length ls k end None = refl
landed_length ls k end (Some l) = length-set ls k _

module _ (first : List Line) (ended : JumpTarget) (end : ℕ) (all : List Leaving) (ls : List Line) (x : Leaving) (unseen : List Leaving) (h : Closing first ended end all ls (x ∷ unseen)) where
  pub open_here : same_target x.target ended ≡ true → IsOpen ls x.hole.index
  open_here e = subst (λ b. OpenWhere b ls x.hole.index) e h.open_ones.0

  pub after_land : same_target x.target ended ≡ true → length ls ≡ end → Closing first ended end all (landed ls x.hole.index (length ls)) unseen
  after_land e len =
      let line_is : closed_line ls x.hole.index end (same_target x.target ended) ≡ landed ls x.hole.index (length ls) = ap (closed_line ls x.hole.index end) e ∙ ap (landed ls x.hole.index) (sym len) in
      record {
        lines = h.lines ∙ ap (λ l. closed_lines l ended end unseen) line_is;
        size = landed_length ls x.hole.index (length ls) (slice_get ls x.hole.index) ∙ h.size;
        open_ones = subst (λ l. Closable l ended end unseen) line_is h.open_ones.1;
      }

  pub after_skip : same_target x.target ended ≡ false → Closing first ended end all ls unseen
  after_skip e = record {
    lines = h.lines ∙ ap (λ b. closed_lines (closed_line ls x.hole.index end b) ended end unseen) e;
    size = h.size;
    open_ones = subst (λ b. Closable (closed_line ls x.hole.index end b) ended end unseen) e h.open_ones.1;
  }

-- the others, one after another
module _ (ended : JumpTarget) (whole others : List Leaving) (x : Leaving) (unseen : List Leaving) (h : whole ≡ others ++ others_leaving ended (x ∷ unseen)) where
  pub other_kept : same_target x.target ended ≡ false → whole ≡ (others ++ x ∷ []) ++ others_leaving ended unseen
  other_kept e = h ∙ ap (λ b. others ++ kept_leaving b x (others_leaving ended unseen)) e ∙ sym (append_assoc others (x ∷ []) (others_leaving ended unseen))

  pub other_dropped : same_target x.target ended ≡ true → whole ≡ others ++ others_leaving ended unseen
  other_dropped e = h ∙ ap (λ b. others ++ kept_leaving b x (others_leaving ended unseen)) e
