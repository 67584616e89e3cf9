-- What becomes of bodies changes no line of a program's summaries.
use Rattle.std.proofs.Common.{◌≡◌, ◌∙◌, List, [], ◌∷◌, ◌++◌, map, Option, Some, None, refl, ap}
use Rattle.lang_typed.specs.Names.{Named, ProgramNames}
use Rattle.lang_typed.specs.Plain.{PlainProgram, PlainClass, PlainMember}
use Rattle.lang_typed.specs.Scope.{class_at}
use Rattle.body_infer.specs.Kept.{Keeping, program_kept}
use Rattle.body_infer.specs.Lines.{line_of, lines_from, lines_of}
use Rattle.sound_infer.specs.Laws.{member_entered, program_inferred}

same_line : (names : ProgramNames) (P : PlainProgram) (k : Option PlainClass) (m : PlainMember) (n : Named) → line_of names (member_entered P k m) n ≡ line_of names m n
same_line names P None m n = refl
same_line names P (Some k) m n = refl

same_from : (names : ProgramNames) (P : PlainProgram) (ms : List PlainMember) (ns : List Named) →
    lines_from names (map (λ m. member_entered P (class_at P m.class) m) ms) ns ≡ lines_from names ms ns
same_from names P [] ns = refl
same_from names P (m ∷ ms) [] = refl
same_from names P (m ∷ ms) (n ∷ ns) =
    ap (λ line. line ++ lines_from names (map (λ q. member_entered P (class_at P q.class) q) ms) ns) (same_line names P (class_at P m.class) m n)
    ∙ ap (λ rest. line_of names m n ++ rest) (same_from names P ms ns)

-- the lines of a program with its inferred summaries are those of what is kept of the written ones
pub same_lines : (S : Keeping) (P : PlainProgram) (names : ProgramNames) → lines_of (program_inferred S P) names ≡ lines_of (program_kept S P) names
same_lines S P names = same_from names (program_kept S P) (program_kept S P).members names.members
