use Rattle.xc_invariants.proofs.TextFollows.{exits_are_met, typed_text_follows_closely}
use Rattle.xc_invariants.proofs.promised.text_follows_closely.Goals as goal

pub returns : goal.returns
returns c = record { met = exits_are_met; closely = typed_text_follows_closely }
