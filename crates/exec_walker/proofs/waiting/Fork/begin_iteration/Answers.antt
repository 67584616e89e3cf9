use Rattle.std.proofs.Common.{◌∙◌, ◌∷◌, ap, sym, refl, [], arith, ◌<◌}
use Rattle.lang_typed.specs.Plain.{plain_stmt, more_stmts, no_stmts}
use Rattle.lang_meaning.specs.Statements.{branch_of, numbered_frame}
use Rattle.exec_walker.specs.Walk.{beginning}
use Rattle.exec_frames.specs.Names.{plain_frame}
use Rattle.exec_walker.proofs.Beginning.{level_is, next_number, begun_left}
use Rattle.exec_walker.proofs.waiting.Fork.begin_iteration.Goals as goal

pub returns : goal.returns
returns c =
    let n = c.args.numbers in
    let f = plain_frame c.args.outer.now.frame in
    let some : 0 < n.left = omega arith in
    record {
      task = branch_of n.takes [] (plain_stmt n.body.now) (numbered_frame n.slot n.start n.next f);
      first = next_number n.takes n.slot (plain_stmt n.body.now) f n.start n.next n.left some
          ∙ ap (λ ts. branch_of n.takes [] (plain_stmt n.body.now) (numbered_frame n.slot n.start n.next f) ∷ ts) (sym (c.after.ensures f));
      level = level_is _ _ _ n.body.now _ c.in_ok-beginning.ensures c.from_ref.ensures.value c.in_ok-frame.ensures
          ∙ ap (beginning (more_stmts (plain_stmt n.body.now) no_stmts) _) (begun_left n.takes _);
      work = refl;
      kept = refl;
    }
