-- What a refusal says.
use Rattle.xw_words.specs.declared.pos.Broken.{Broken}
use Rattle.xc_tree.specs.declared.refusal.Refusal.{Refusal}
use Rattle.xc_tree.specs.declared.refusal.Refusal.TheVariants as refusal

-- this holds of the broken rule, where one is told
abbrev pub IfBroken : Refusal → (Broken → Type 0) → Type 0
IfBroken (refusal.Broken b) P = P b
IfBroken refusal.Memory P = Unit {0}
