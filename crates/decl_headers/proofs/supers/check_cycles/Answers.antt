use Rattle.std.proofs.Common.{false, get_or, sym, ap, ◌∙◌}
use mathlib.Core.Path.{fun_ext}
use Rattle.std.proofs.lemmas.List.{drop_all}
use Rattle.decl_headers.specs.Faults.{all_noted}
use Rattle.decl_headers.specs.Passes.{cycles}
use Rattle.decl_headers.proofs.supers.check_cycles.Goals as goal

pub returns : goal.returns
returns c =
    let classes = c.args.classes.now in
    let rounds = c.as_slice-rounds.result.now in
    let at = c.loop-at.at in
    ap (λ left. all_noted c.loop-at.faults (cycles (λ one. get_or rounds one false) at left)) (sym (drop_all at classes c.loop-at-test.false))
    ∙ c.loop-at.invariant
    ∙ ap (λ told. all_noted c.args.faults.now (cycles told 0 classes)) (fun_ext (λ one. ap (λ rs. get_or rs one false) c.as_slice-rounds.ensures ∙ c.in_ok-found.ensures one))
