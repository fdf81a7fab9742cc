use Rattle.std.proofs.Common.{sym, ◌∙◌}
use Rattle.xc_names.specs.Latest.{latest_of}
use Rattle.xc_names.proofs.News.{no_some, some_some, mark_at, global_none, global_inner, global_again, global_new}
use Rattle.xc_names.proofs.meanings.keep_global.Goals as goal

pub returns-in_default : goal.returns-in_default
returns-in_default c =
    global_none c.args.marks.now c.args.ends.now (latest_of c.args.latest.now) c.args.at c.index-marks-at.result c.requires.ends (mark_at _ _ _ c.index-marks-at.is c.requires.within) c.requires.so_far
    (no_some c.declared.result _ _ c.in_default.not-Some c.declared.ensures)

pub returns-then-ends-at : goal.returns-then-ends-at
returns-then-ends-at c =
    global_inner c.args.marks.now c.args.ends.now (latest_of c.args.latest.now) c.args.at c.index-marks-at.result c.requires.ends (mark_at _ _ _ c.index-marks-at.is c.requires.within) c.requires.so_far
    c.if-ends-at.true

pub returns-in-Some-get : goal.returns-in-Some-get
returns-in-Some-get c =
    global_again c.args.marks.now c.args.ends.now (latest_of c.args.latest.now) c.args.at c.index-marks-at.result c.requires.ends (mark_at _ _ _ c.index-marks-at.is c.requires.within) c.requires.so_far
    c.in-Some.name.now (some_some c.declared.result _ _ c.in-Some.name c.in-Some.is c.declared.ensures) c.in-Some-get.field-0 (sym c.get.ensures ∙ c.in-Some-get.is)

pub returns-in_ok-keep-in-None : goal.returns-in_ok-keep-in-None
returns-in_ok-keep-in-None c =
    global_new c.args.marks.now c.args.ends.now (latest_of c.args.latest.now) c.args.at c.index-marks-at.result c.requires.ends (mark_at _ _ _ c.index-marks-at.is c.requires.within) c.requires.so_far
    c.in-Some.name.now (some_some c.declared.result _ _ c.in-Some.name c.in-Some.is c.declared.ensures) (latest_of c.keep.new.self) c.if-ends-at.false (sym c.get.ensures ∙ c.in-None.is) c.in_ok-keep-in-None.ensures.here c.in_ok-keep-in-None.ensures.others
