use Rattle.std.proofs.Common.{◌∙◌, ap, map, sym, Some, option_map}
use Rattle.lang_typed.specs.Plain.{plain_parent}
use Rattle.code_instrs.specs.Plain.{member_in}
use Rattle.code_compile.proofs.ClassCodes.{members_are, same_class}
use Rattle.code_compile.proofs.classes.class_code.Goals as goal

pub returns-in-None : goal.returns-in-None
returns-in-None c =
    same_class _ _ _ _ _ _ _ _ (sym (ap (option_map plain_parent) c.in-None.is)) c.in_ok-fields.ensures c.constructor_of-constructor.ensures
    (ap (map (member_in c.args.members.now)) c.in_ok-methods.ensures ∙ members_are c.args.program.now c.args.members.now c.requires (map (λ row. row.number) c.args.class.now.rows))

pub returns-in_ok-copy-in-Some : goal.returns-in_ok-copy-in-Some
returns-in_ok-copy-in-Some c =
    same_class _ _ _ _ _ _ _ _
    (ap (λ a. Some (record { class = c.in-Some.parent.class.number; args = a })) c.in_ok-copy-in-Some.ensures ∙ sym (ap (option_map plain_parent) c.in-Some.is))
    c.in_ok-fields.ensures c.constructor_of-constructor.ensures
    (ap (map (member_in c.args.members.now)) c.in_ok-methods.ensures ∙ members_are c.args.program.now c.args.members.now c.requires (map (λ row. row.number) c.args.class.now.rows))
