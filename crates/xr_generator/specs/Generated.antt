-- The text of the generated program of n functions, as bytes: four tasks in a row on four cores, joined by channels. The first sends
-- four values, the two in the middle call each function on each value, and the last puts them out on a port.
use Rattle.std.specs.Prelude.{ℕ, zero, suc, List, [], ◌++◌, codes, decimal}

-- the lines of the numbers from 1 to n, one behind another
abbrev pub lines_to : (ℕ → List ℕ) → ℕ → List ℕ
lines_to line zero = []
lines_to line (suc k) = lines_to line k ++ line (suc k)

-- the lines before the functions
abbrev pub head_lines : List ℕ
head_lines =
    codes "#include <platform.h>\n"
    ++ codes "on stdcore[3] : out port p = XS1_PORT_32A;\n"

-- the line of function k
abbrev pub function_line : ℕ → List ℕ
function_line k = codes "void s" ++ decimal k ++ codes "(int &x) { x = x * 5 + " ++ decimal k ++ codes "; }\n"

-- the lines between the functions and their calls: the first task, and that in the middle up to its input
abbrev pub task_lines : List ℕ
task_lines =
    codes "void first(chanend o) { int i; for (i = 0; i < 4; i++) { o <: i; } }\n"
    ++ codes "void mid(chanend a, chanend b) { int i; int x; for (i = 0; i < 4; i++) { a :> x;\n"

-- the line that calls function k
abbrev pub call_line : ℕ → List ℕ
call_line k = codes "s" ++ decimal k ++ codes "(x);\n"

-- the lines behind the calls: what is left of the task in the middle, the last task, and main
abbrev pub last_lines : List ℕ
last_lines =
    codes "b <: x; } }\n"
    ++ codes "void last(chanend a) { int i; int x; for (i = 0; i < 4; i++) { a :> x; p <: x; } }\n"
    ++ codes "int main(void) { chan c; chan d; chan e; par {\n"
    ++ codes "on stdcore[0] : first(c);\n"
    ++ codes "on stdcore[1] : mid(c, d);\n"
    ++ codes "on stdcore[2] : mid(d, e);\n"
    ++ codes "on stdcore[3] : last(e); } return 0; }\n"

-- the text of the program of n functions
unfoldable pub generated_text : ℕ → List ℕ
generated_text n = head_lines ++ lines_to function_line n ++ task_lines ++ lines_to call_line n ++ last_lines
