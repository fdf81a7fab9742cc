-- Lines that are added behind others.
use Rattle.std.proofs.Common.{ℕ, ◌+◌, List, ◌++◌, length, Option, Some, None, sym, ap, ◌∙◌, subst, append_assoc, length-append}
use Rattle.std.proofs.lemmas.List.{append_cancel_left}
use Rattle.xw_words.specs.declared.pos.Pos.{Pos}
use Rattle.xs_instr.specs.declared.instr.Instr.{Instr}
use Rattle.xs_instr.specs.Adds.{Adds}
use Rattle.xs_instr.specs.Lines.{Line, at_pos}
use Rattle.xs_instr.specs.Valid.{IsGoodInstr}
use Rattle.xl_expr.specs.declared.plan.ResAt.{ResAt}
use Rattle.xl_expr.specs.Targets.{AreAimed}
use Rattle.xl_expr.proofs.GoodCode.{ArePlain, aimed_append, plain_aimed}
use Rattle.xl_port.specs.declared.setting.Waits.{Waits}
use Rattle.xl_port.specs.declared.setting.Waits.TheVariants.{AtOnce, Time, Condition}
use Rattle.xl_port.specs.Waits.{UsesName, transfer_instrs}

-- two facts of one addition
pub both_of : (old new : List Line) (P Q : List Line → Type 0) → Adds old new P → Adds old new Q → Adds old new (λ ls. P ls × Q ls)
both_of old new P Q f g = record {
  lines = f.lines;
  is = f.is;
  so = (f.so, subst Q (append_cancel_left old g.lines f.lines (sym g.is ∙ f.is)) g.so);
}

-- one addition behind another
pub added_behind : (old e1 e2 : List Line) (P R : List Line → Type 0) (Q : ℕ → List Line → Type 0) → Adds old e1 P →
    Adds e1 e2 (Q (length e1)) → ((ls ms : List Line) → P ls → Q (length old + length ls) ms → R (ls ++ ms)) → Adds old e2 R
added_behind old e1 e2 P R Q f g join =
    let behind = ap length f.is ∙ length-append old f.lines in
    record {
      lines = f.lines ++ g.lines;
      is = g.is ∙ ap (λ ls. ls ++ g.lines) f.is ∙ append_assoc old f.lines g.lines;
      so = join f.lines g.lines f.so (subst (λ n. Q n g.lines) behind g.so);
    }

pub aimed_behind : (old e1 e2 : List Line) → Adds old e1 (AreAimed (length old)) → Adds e1 e2 (AreAimed (length e1)) →
    Adds old e2 (AreAimed (length old))
aimed_behind old e1 e2 f g = added_behind old e1 e2 (AreAimed (length old)) (AreAimed (length old)) AreAimed f g
    (λ ls ms p q. aimed_append (length old) ls ms p q)

-- the targets of what uses a name
module _ (instrs : List Instr) (plain : ArePlain instrs) (pos : Pos) where
  uses_aimed : (place : Option ResAt) (pc : ℕ) (ls : List Line) → UsesName place instrs pos pc ls → AreAimed pc ls
  uses_aimed None pc ls uses = subst (λ l. AreAimed pc l) (sym uses) (record { by = λ size e. tt })
  uses_aimed (Some place) pc ls uses =
      subst (λ l. AreAimed pc l) (sym uses.is) (aimed_append pc uses.name (at_pos pos instrs) uses.aimed
      (plain_aimed pos instrs (pc + length uses.name) plain))

  pub adds_aimed : (old new : List Line) (place : Option ResAt) → Adds old new (UsesName place instrs pos (length old)) →
      Adds old new (AreAimed (length old))
  adds_aimed old new place f = record { lines = f.lines; is = f.is; so = uses_aimed place (length old) f.lines f.so }

pub transfer_plain : (waits : Waits) (own : Instr) → ((size n : ℕ) → IsGoodInstr size n own) → ArePlain (transfer_instrs waits own)
transfer_plain AtOnce own h = ((λ size n. tt), (h, tt))
transfer_plain Time own h = ((λ size n. tt), ((λ size n. tt), (h, tt)))
transfer_plain (Condition test) own h = ((λ size n. tt), ((λ size n. tt), (h, tt)))
