use Rattle.std.proofs.Common.{◌≡◌, ℕ, ◌+◌, ◌-◌, ◌<◌, length, map, Bor, sym, ap, subst, ◌∙◌, arith}
use Rattle.xc_tree.specs.declared.tree.FuncItem.{FuncItem}
use Rattle.xc_size.specs.Functions.{function_of}
use Rattle.xc_size.specs.Numbers.{number_of}
use Rattle.xc_size.proofs.Numbered.{NumbersFrom, numbers_more, mapped}
use Rattle.xc_size.proofs.functions.numbers_of.Goals as goal

pub back-preserved : goal.back-preserved
back-preserved c =
    let h : c.back.number - 1 < length c.args.all.now = let w = c.back.invariant.within in let p = c.back-test.true in omega arith in
    let e : c.back.number ≡ c.back.number - 1 + 1 = let p = c.back-test.true in omega arith in
    let name : c.as_slice.result.now ≡ c.index-all-number.result.now.name.text = c.as_slice.ensures ∙ ap (λ (f : Bor FuncItem). f.now.name.text) (sym c.index-all-number.is) in
    record {
      numbers = numbers_more (number_of c.back.names) (number_of c.keep.new.self) (map (λ (f : Bor FuncItem). function_of f.now) c.args.all.now) (c.back.number - 1) (function_of c.index-all-number.result.now)
          (mapped (λ (f : Bor FuncItem). function_of f.now) c.args.all.now (c.back.number - 1) c.index-all-number.result c.index-all-number.is h)
          (subst (λ (k : ℕ). NumbersFrom (number_of c.back.names) (map (λ (f : Bor FuncItem). function_of f.now) c.args.all.now) k) e c.back.invariant.numbers)
          (ap (number_of c.keep.new.self) (sym name) ∙ c.in_ok-keep.ensures.here)
          (λ t g. c.in_ok-keep.ensures.others t (λ q. g (q ∙ name)));
      within = let w = c.back.invariant.within in omega arith;
    }
