use Rattle.syntax_tree.specs.Plain.{plain_stmt}
use Rattle.body_locals.specs.Touches.{stmt_reads, stmt_assigns}
use Rattle.body_locals.proofs.Steps.{reported_listed}
use Rattle.body_locals.proofs.touch.touched.Goals as goal

pub returns-clause-reads : goal.returns-clause-reads
returns-clause-reads c =
    reported_listed c.new-inside.result c.new-reads.result c.statement.new.reads (λ x. stmt_reads x (plain_stmt c.args.stmt.now)) c.in_ok-listed.field-0 c.new-inside.ensures.empty c.new-reads.ensures.empty c.in_ok-statement.ensures.reads c.in_ok-listed.ensures.keys

pub returns-clause-writes : goal.returns-clause-writes
returns-clause-writes c =
    reported_listed c.new-inside.result c.new-writes.result c.statement.new.writes (λ x. stmt_assigns x (plain_stmt c.args.stmt.now)) c.in_ok-listed-2.field-0 c.new-inside.ensures.empty c.new-writes.ensures.empty c.in_ok-statement.ensures.writes c.in_ok-listed-2.ensures.keys
