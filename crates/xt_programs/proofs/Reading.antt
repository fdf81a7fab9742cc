-- What is read of a text: its tokens stand at rising places, in lines that count from 1.
use Rattle.std.proofs.Common.{ℕ, ◌<◌, ◌≤◌, ◌^◌, List, length, arith}
use Rattle.xc_tree.specs.declared.token.Tok.{Tok}
use Rattle.xc_tree.specs.Derives.{IsProgram}
use Rattle.xc_tree.specs.Lexes.{Lexes}
use Rattle.xc_tree.specs.Plain.{Item}
use Rattle.xc_tree.specs.Programs.{Rise}
use Rattle.xc_kernel.specs.Sound.{IsOfText}
use Rattle.xc_wellformed.proofs.Texts.{texts_rise}

pub of_text : {text : List ℕ} {toks : List Tok} {program : List Item} → Lexes text toks → Rise toks → length toks < 2 ^ 32 → IsProgram toks program → IsOfText program
of_text {text} {toks} {program} lexes rising few derived = record {
  read = record { toks = toks; derived = derived; few = few; rising = rising };
  lines = λ i t e. (texts_rise text toks lexes).lines i t e;
}
