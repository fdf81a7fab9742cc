use Rattle.std.proofs.Common.{◌≡◌, ℕ, List, Some, if◌then◌else◌, sym, ap, ◌∙◌}
use Rattle.std.specs.Prelude.{bytes_eq}
use Rattle.std.specs.Cmp.Lexicographic.{texts_ties}
use Rattle.xc_lexer.specs.Names.{numbers_of}
use Rattle.xc_lexer.proofs.names.Names.define.Goals as goal

pub returns-in-Ok : goal.returns-in-Ok
returns-in-Ok c =
    let each : (t : List ℕ) → numbers_of (record { numbers = c.insert.new.self }) t ≡ (if bytes_eq c.args.name.now t then Some c.args.number else numbers_of c.args.self.now t) = λ t.
    c.in-Ok.ensures.updates.0 (record { ref_ptr = c.args.name.ref_ptr; now = t }) ∙ ap (λ b. if b then Some c.args.number else numbers_of c.args.self.now t) (sym (texts_ties c.args.name.now t)) in
    record { ok = λ i t. each t i }
