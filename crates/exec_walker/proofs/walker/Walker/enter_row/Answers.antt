use Rattle.std.proofs.Common.{◌∙◌, ◌∷◌, ◌++◌, sym, ap, subst, map}
use Rattle.std.proofs.lemmas.List.{map-append, length-map}
use Rattle.lang_typed.specs.Plain.{plain_program, plain_class, plain_member}
use Rattle.lang_typed.specs.Scope.{parent_of}
use Rattle.lang_meaning.specs.Elision.{in_order}
use Rattle.lang_meaning.specs.Regions.{regions_above}
use Rattle.exec_frames.specs.Classes.{plain_seen}
use Rattle.exec_frames.specs.Names.{plain_region, plain_value}
use Rattle.exec_walker.specs.Walk.{At, for_value}
use Rattle.exec_walker.specs.declared.level.Level.{Level}
use Rattle.exec_walker.specs.States.{ComesTo, plain_level, plain_waiting}
use Rattle.exec_walker.proofs.Calling.{entered_is}
use Rattle.exec_walker.proofs.walker.Walker.enter_row.Goals as goal

pub returns : goal.returns
returns c = λ L w h.
    let program = c.args.program.now in
    let P = plain_program program in
    let m = c.in-Some.member.now in
    let seen = plain_seen c.args.seen in
    let own = map plain_region c.args.own in
    let g = plain_level c.args.self.now.level in
    let ws = map plain_waiting c.args.self.now.waiting in
    let regions = ap (map plain_region) c.in_ok-regions-2.ensures ∙ map-append plain_region c.in_ok-regions.regions c.args.own
    ∙ ap (λ rs. rs ++ own) (c.in_ok-regions.ensures ∙ ap (λ n. regions_above in_order (parent_of P) n seen.0 seen.1 m.class.number) (sym (length-map program.classes (plain_class program.classes)))) in
    subst (λ s. ComesTo L c.wait.result c.wait.new.self s)
    (ap (λ (k : Level). At (plain_level c.replace-caller.new.dest) (for_value (plain_level k) ∷ ws) w) c.replace-caller.ensures.value
    ∙ entered_is P _ (plain_member m) _ seen (map plain_value c.args.values) own _ g (plain_level c.replace-caller.new.dest) ws w c.in-Some.ensures regions
    (ap plain_level c.replace-caller.ensures.after ∙ c.in_ok-level.ensures))
    (c.wait.ensures L w h)
