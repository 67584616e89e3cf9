use Rattle.std.proofs.Common.{◌≡◌, ◌++◌, map, drop}
use Rattle.lang_typed.specs.Plain.{plain_class, plain_program}
use Rattle.code_instrs.specs.Plain.{plain_class as plain_class_code}
use Rattle.code_scheme.specs.Scheme.{class_code}
use Rattle.code_compile.specs.Classes.{number_from, numbers_of}
use Rattle.code_compile.proofs.classes.classes.Given as goal

abbrev pub invariant-loop-class : goal.invariant-loop-class
invariant-loop-class l =
    map (plain_class_code l.members) l.made ++ map (class_code (plain_program l.program) (number_from (numbers_of l.members))) (map (plain_class l.program.classes) (drop l.class-index l.class-items))
    ≡ map (class_code (plain_program l.program) (number_from (numbers_of l.members))) (map (plain_class l.program.classes) l.class-items)
