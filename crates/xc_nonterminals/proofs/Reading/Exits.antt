-- How answers end: a call's error where it is handed on, and the place where a symbol ends.
use Rattle.std.proofs.Common.{◌≡◌, ℕ, List, sym, subst}
use Rattle.xc_tree.specs.declared.token.Tok.{Tok}
use Rattle.xc_tree.specs.Symbol.{Symbol, Value}
use Rattle.xc_nonterminals.specs.declared.stop.Stop.{Stop}
use Rattle.xc_nonterminals.specs.declared.stop.Stop.TheVariants.{Memory}
use Rattle.xc_nonterminals.specs.Reading.{Reads}
use Rattle.std.specs.Prelude.{Result, Ok, Err, IfErr}
use Rattle.std.specs.Result.{IsErrAnd}
use Rattle.std.proofs.lemmas.Result.{err_from_is_err_and}

pub handed_on : {T E : Type 0} (P : E → Type 0) {e : E} (r : Result T E) → IsErrAnd r (λ y. y ≡ e) → P e → IfErr r P
handed_on P r h p =
    let x = err_from_is_err_and r h in
    subst (λ q. IfErr q P) (sym x.1) (subst P (sym x.2) p)

-- a call that fails only where memory is missing
pub memory_missing : {T : Type 0} (P : Stop → Type 0) (r : Result T Stop) → IfErr r (λ e. e ≡ Memory) → P Memory → IfErr r P
memory_missing P (Ok x) h p = tt
memory_missing P (Err e) h p = subst P (sym h) p

-- the place where a symbol ends, written otherwise
pub ends_at : {toks : List Tok} {room : ℕ} {s : Symbol} {i j k : ℕ} {v : Value s} → j ≡ k → Reads toks room s i j v → Reads toks room s i k v
ends_at {toks} {room} {s} {i} {v} e r = subst (λ n. Reads toks room s i n v) e r
