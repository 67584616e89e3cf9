use Rattle.std.proofs.Common.{◌≡◌, ◌==◌, true, false, [], length, rules, arith}
use Rattle.std.proofs.lemmas.Grind.{common_steps}
use Rattle.syntax_parse.proofs.classes.classes.Goals as goal
use Rattle.syntax_grammar.proofs.Lists.{many_more}
use Rattle.syntax_parse.proofs.MemberForms.{program_of, no_rest}
use Rattle.syntax_parse.proofs.parts.ClassParts.{some_rest, more_classes_round, more_classes_end, more_classes_refused}

pub returns-clause-derives : goal.returns-clause-derives
returns-clause-derives c =
    let empty : (length c.loop-alloc.cursor.rest.now == 0) ≡ true = cc in
    program_of c.loop-alloc.invariant.derives (no_rest c.loop-alloc.cursor.rest.now empty) c.loop-alloc.invariant.one

pub returns-clause-reads : goal.returns-clause-reads
returns-clause-reads c =
    let empty : (length c.loop-alloc.cursor.rest.now == 0) ≡ true = cc in
    more_classes_end c.loop-alloc.invariant.onward (no_rest c.loop-alloc.cursor.rest.now empty)

pub returns-clause-ends : goal.returns-clause-ends
returns-clause-ends c =
    let empty : (length c.loop-alloc.cursor.rest.now == 0) ≡ true = cc in
    no_rest c.loop-alloc.cursor.rest.now empty

pub loop-alloc-preserved : goal.loop-alloc-preserved
loop-alloc-preserved c =
    let some : (length c.loop-alloc.cursor.rest.now == 0) ≡ false = cc in
    record {
      moves = search rules;
      derives = search (rules, many_more);
      one = grind (arith, common_steps);
      onward = more_classes_round c.loop-alloc.invariant.onward (some_rest c.loop-alloc.cursor.rest.now some) c.in_ok-class-2.ensures.reads;
    }

pub returns-in_err-class-2-clause-stops : goal.returns-in_err-class-2-clause-stops
returns-in_err-class-2-clause-stops c =
    let some : (length c.loop-alloc.cursor.rest.now == 0) ≡ false = cc in
    let left : c.loop-alloc.cursor.rest.now ≡ [] → ⊥ = some_rest c.loop-alloc.cursor.rest.now some in
    search (rules, more_classes_refused)
