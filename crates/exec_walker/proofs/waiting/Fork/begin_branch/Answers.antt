use Rattle.std.proofs.Common.{◌≡◌, ◌∙◌, ◌<◌, [], ◌∷◌, length, ap, sym, refl, map, None, arith}
use Rattle.lang_typed.specs.declared.stmt.Branch.{Branch}
use Rattle.lang_typed.specs.Plain.{plain_stmt}
use Rattle.lang_meaning.specs.Statements.{branch_of}
use Rattle.exec_frames.specs.Names.{plain_frame}
use Rattle.exec_walker.specs.States.{work_of}
use Rattle.exec_walker.proofs.Beginning.{level_is, next_branch}
use Rattle.exec_walker.proofs.waiting.Fork.begin_branch.Goals as goal

pub returns : goal.returns
returns c =
    let branch = c.index-self-at.result in
    let f = plain_frame c.args.outer.now.frame in
    let below : c.args.at < length c.args.self.now.branches.now = omega arith in
    let same : c.as_slice-self.result.now ≡ branch.copies = c.as_slice-self.ensures ∙ ap (λ (b : Branch). b.copies) (sym c.index-self-at.is) in
    record {
      task = branch_of None (map (λ slot. slot.number) branch.copies) (plain_stmt branch.body) f;
      first = next_branch c.args.self.now.branches.now c.args.at branch f below c.index-self-at.is;
      level = level_is _ _ _ branch.body _ c.in_ok-beginning.ensures (c.from_ref.ensures.value ∙ ap (λ (b : Branch). b.body ∷ []) (sym c.index-self-at.is)) (ap plain_frame c.in_ok-frame.ensures);
      work = ap work_of same;
      kept = refl;
    }
