use Rattle.std.proofs.Common.{map, refl, sym, subst}
use Rattle.lang_typed.specs.Plain.{plain_program}
use Rattle.code_instrs.specs.Plain.{plain_class}
use Rattle.code_fit.specs.Closed.{CodeClosed}
use Rattle.code_fit.proofs.Theorems.{typed_is_closed}
use Rattle.code_compile.specs.Classes.{numbers_of}
use Rattle.code_compile.specs.Emitted.{emitted_of}
use Rattle.code_compile.specs.Bodies.{output_of}
use Rattle.code_compile.proofs.Members.{code_is}
use Rattle.code_compile.proofs.Titling.{all_titles, all_placed}
use Rattle.code_compile.proofs.whole.compile.Goals as goal

pub returns-clause-code : goal.returns-clause-code
returns-clause-code c =
    code_is (plain_program c.args.program.now) (map (plain_class c.in_ok-members.members) c.in_ok-classes.classes) (output_of (emitted_of c.members.new.out) c.members.new.bodies) (numbers_of c.in_ok-members.members)
    c.number_of-main_body.result c.in_ok-members.ensures.numbers c.in_ok-classes.ensures c.in_ok-members.ensures.output c.number_of-main_body.ensures

pub returns-clause-titles : goal.returns-clause-titles
returns-clause-titles c =
    all_titles c.args.program.now _ c.members.new.bodies _ c.new-bodies.ensures c.in_ok-members.ensures.titled refl (returns-clause-code c)

pub returns-clause-placed : goal.returns-clause-placed
returns-clause-placed c = all_placed _ c.members.new.bodies _ c.new-bodies.ensures c.in_ok-members.ensures.titled

pub returns-clause-closed : goal.returns-clause-closed
returns-clause-closed c = λ typed. subst (λ code. CodeClosed code) (sym (returns-clause-code c)) (typed_is_closed (plain_program c.args.program.now) typed)
