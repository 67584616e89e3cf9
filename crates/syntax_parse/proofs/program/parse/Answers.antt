use Rattle.std.proofs.Common.{rules}
use Rattle.syntax_tree.specs.declared.class.Program.{Program}
use Rattle.syntax_grammar.specs.Program.{IsProgram}
use Rattle.syntax_grammar.proofs.Promised.{named_in, distinct_in, targets_in, sized_in}
use Rattle.syntax_parse.proofs.program.parse.Goals as goal

pub returns-clause-named : goal.returns-clause-named
returns-clause-named c =
    let program : Program = record { classes = c.in_ok-classes.classes; names = c.in_ok-list.field-0.names } in
    let derived : IsProgram c.args.bytes.now c.args.tokens.now.list program = search rules in
    named_in derived

pub returns-clause-distinct : goal.returns-clause-distinct
returns-clause-distinct c =
    let program : Program = record { classes = c.in_ok-classes.classes; names = c.in_ok-list.field-0.names } in
    let derived : IsProgram c.args.bytes.now c.args.tokens.now.list program = search rules in
    distinct_in derived

pub returns-clause-targets : goal.returns-clause-targets
returns-clause-targets c =
    let program : Program = record { classes = c.in_ok-classes.classes; names = c.in_ok-list.field-0.names } in
    let derived : IsProgram c.args.bytes.now c.args.tokens.now.list program = search rules in
    targets_in derived

pub returns-clause-sized : goal.returns-clause-sized
returns-clause-sized c =
    let program : Program = record { classes = c.in_ok-classes.classes; names = c.in_ok-list.field-0.names } in
    let derived : IsProgram c.args.bytes.now c.args.tokens.now.list program = search rules in
    sized_in c.requires.stand derived
