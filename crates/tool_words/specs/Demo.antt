-- The text of the demo.
use Rattle.std.specs.Prelude.{ℕ, zero, suc, List, [], ◌∷◌, ◌++◌, codes}
use Rattle.std.specs.Fmt.{decimal}
use Rattle.std.specs.List.{flat_map}
use Rattle.tool_words.specs.declared.line.ClassLine.{ClassLine}
use Rattle.tool_words.specs.declared.line.ClassLine.TheVariants as line

-- the numbers of so many classes: 0, 1 and so on
abbrev pub numbers : ℕ → List ℕ
numbers zero = []
numbers (suc n) = numbers n ++ n ∷ []

-- a line for the class of this number
abbrev pub class_line : ClassLine → ℕ → List ℕ
class_line line.Declared k =
    codes "class C" ++ decimal k
    ++ codes " { region A; int run(int m) writes A:* { int[]<A:[i]>#i a = new int[m]<A:[i]>#i; foreach (int i in 0, m) { a[i] = i + "
    ++ decimal k ++ codes "; } int j = 0; int s = 0; while (j < m) { s = s + a[j]; j = j + 1; } return s; } }\n"
class_line line.Made k = codes "C" ++ decimal k ++ codes " c" ++ decimal k ++ codes " = new C" ++ decimal k ++ codes "(); int s" ++ decimal k ++ codes " = 0;\n"
class_line line.Run k = codes "s" ++ decimal k ++ codes " = c" ++ decimal k ++ codes ".run(100);\n"
class_line line.Added k = codes "t = t + s" ++ decimal k ++ codes ";\n"

-- the line of each class, in order
abbrev pub class_lines : ClassLine → ℕ → List ℕ
class_lines line classes = flat_map (class_line line) (numbers classes)

-- the text of the demo with so many classes
abbrev pub demo_text : ℕ → List ℕ
demo_text classes =
    class_lines line.Declared classes
    ++ codes "class Main { int main(int n) {\n"
    ++ class_lines line.Made classes
    ++ codes "cobegin {\n"
    ++ class_lines line.Run classes
    ++ codes "}\n"
    ++ codes "int t = 0;\n"
    ++ class_lines line.Added classes
    ++ codes "return t;\n"
    ++ codes "} }\n"
