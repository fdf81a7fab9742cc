-- What comes of a case, by what came of it before its body.
use Rattle.std.specs.Prelude.{[], Option, Some, None}
use Rattle.std.specs.Option.{option_map}
use Rattle.xc_kernel.specs.Copy.{Copy, joined, with_code, code_of}
use Rattle.xc_kernel.specs.Flow.{Cased}
use Rattle.xc_kernel.specs.Kernels.{expression_of, input_of}
use Rattle.xc_kernel.specs.Plain as kernel
use Rattle.xc_kernel.specs.Scopes.{Scope}
use Rattle.xc_inline.specs.Copied.{copy_of}
use Rattle.xc_inline.specs.declared.cases.Opened.{Opened}

-- a case whose body is a block, or the `default`, before others; nothing stands in a `default` before its body
abbrev pub case_by : Option Opened → Scope → (block : Copy) → Cased → Cased
case_by None between block others = record {
  made = joined (with_code block []) others.made;
  cases = others.cases;
  otherwise = kernel.default (code_of block);
}
case_by (Some opened) between block others = record {
  made = joined (joined (copy_of opened.received.names between) (with_code block [])) others.made;
  cases = kernel.more_cases (kernel.case (option_map expression_of opened.guard) (input_of opened.received.head) (code_of block)) others.cases;
  otherwise = others.otherwise;
}
