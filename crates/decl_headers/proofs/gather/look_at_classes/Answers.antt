use Rattle.std.proofs.Common.{map, ap, ◌∙◌}
use Rattle.decl_headers.specs.Faults.{all_noted}
use Rattle.decl_headers.specs.Numbers.{number_of}
use Rattle.decl_headers.specs.Passes.{has_constructor, cycles, closed_parents}
use Rattle.decl_headers.specs.Rounds.{is_round}
use Rattle.decl_headers.proofs.First.{noted_first}
use Rattle.decl_headers.proofs.gather.look_at_classes.Goals as goal

pub returns-clause-noted : goal.returns-clause-noted
returns-clause-noted c =
    let classes = c.args.classes.now in
    let parents = c.in_ok-parents.parents in
    let round = c.in_ok-check_cycles.ensures ∙ ap (λ ps. all_noted c.find_parents.new.faults (cycles (is_round ps) 0 classes)) c.as_slice.ensures in
    let closed = c.in_ok-check_extended.ensures ∙ ap (λ ps. all_noted c.check_cycles.new.faults (closed_parents (map has_constructor classes) classes ps)) c.as_slice-2.ensures in
    noted_first classes (number_of c.in_ok-numbers.numbers) parents c.args.faults.now c.number_classes.new.faults c.find_parents.new.faults c.check_cycles.new.faults c.check_extended.new.faults c.in_ok-numbers.ensures.first c.in_ok-parents.ensures.found c.in_ok-numbers.ensures.faults c.in_ok-parents.ensures.faults round closed
