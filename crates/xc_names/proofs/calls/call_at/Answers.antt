use Rattle.std.proofs.Common.{sym, ◌∙◌, arith}
use Rattle.xc_names.proofs.News.{mark_at}
use Rattle.xc_names.proofs.Callees.{is_none, none_called, none_meant, meant_inside, none_function, some_function}
use Rattle.xc_names.proofs.calls.call_at.Goals as goal

pub returns-in_default-clause-found : goal.returns-in_default-clause-found
returns-in_default-clause-found c =
    none_called c.args.marks.now c.args.meant.now c.args.at c.index-marks-at.result (mark_at _ _ _ c.index-marks-at.is c.requires.within)
    (sym c.called.ensures ∙ is_none c.called.result c.in_default.not-Some)

pub returns-in_default-meant-clause-found : goal.returns-in_default-meant-clause-found
returns-in_default-meant-clause-found c =
    none_meant c.args.marks.now c.args.meant.now c.args.at c.index-marks-at.result (mark_at _ _ _ c.index-marks-at.is c.requires.within) c.requires.meant
    (is_none _ c.in_default-meant.not-Some)

pub prove-unreachable-requires : goal.prove-unreachable-requires
prove-unreachable-requires c =
    let h = meant_inside c.args.marks.now c.args.meant.now c.args.at c.index-marks-at.result (mark_at _ _ _ c.index-marks-at.is c.requires.within) c.requires.meant
    c.in-Some.pos (sym c.called.ensures ∙ c.in-Some.is) c.in-Some-meant.d c.in-Some-meant.is in
    omega arith

pub returns-in-None-clause-found : goal.returns-in-None-clause-found
returns-in-None-clause-found c =
    none_function c.args.marks.now c.args.meant.now c.args.at c.index-marks-at.result (mark_at _ _ _ c.index-marks-at.is c.requires.within) c.requires.meant
    c.in-Some-meant.d c.index-marks-d.result c.in-Some-meant.is (mark_at _ _ _ c.index-marks-d.is c.if-prove.false) (sym c.declared_function.ensures.function ∙ c.in-None.is)

pub returns-in-Some-declared_function-clause-found : goal.returns-in-Some-declared_function-clause-found
returns-in-Some-declared_function-clause-found c =
    some_function c.args.marks.now c.args.meant.now c.args.at c.index-marks-at.result (mark_at _ _ _ c.index-marks-at.is c.requires.within) c.requires.meant
    c.in-Some-meant.d c.index-marks-d.result c.in-Some-meant.is (mark_at _ _ _ c.index-marks-d.is c.if-prove.false)
    c.in-Some.pos c.in-Some-declared_function.callee (sym c.called.ensures ∙ c.in-Some.is) (sym c.declared_function.ensures.function ∙ c.in-Some-declared_function.is)
