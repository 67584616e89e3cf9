use Rattle.std.proofs.Common.{◌≡◌, ◌∙◌, ◌+◌, ◌++◌, ◌∷◌, [], take, ap, sym}
use Rattle.std.proofs.lemmas.List.{take_more}
use Rattle.region_interfere.proofs.InGroups.{sorted-none, sorted-some}
use Rattle.region_interfere.proofs.by_group.ByGroup.by.Goals as goal
use Rattle.region_interfere.proofs.by_group.ByGroup.by.Goals.{in-None+in_ok-copy-in-None+in_ok-push-in-None, in-Some+in_ok-copy-in-Some+in_ok-put-in-Some}

pub loop-e-preserved : goal.loop-e-preserved
loop-e-preserved c =
    let es = c.args.effects.now in
    let i = c.loop-e.e-index in
    let e = c.e-item.result in
    let more : take (i + 1) es ≡ take i es ++ e ∷ [] = take_more es i e c.loop-e-test.true ∙ ap (λ z. take i es ++ z ∷ []) (sym c.e-item.is) in
    elim c.match-key_of.branch [
      | in-None+in_ok-copy-in-None+in_ok-push-in-None w ↦
          rw (w.keyed-is, w.unkeyed-is, more)
          (sorted-none c.args.key c.loop-e.keyed c.loop-e.unkeyed w.push.new.self (take i es) e w.in_ok-copy-in-None.field-0 c.loop-e.invariant
          w.in-None.ensures w.in_ok-copy-in-None.ensures w.in_ok-push-in-None.ensures.ok)
      | in-Some+in_ok-copy-in-Some+in_ok-put-in-Some w ↦
          rw (w.keyed-is, w.unkeyed-is, more)
          (sorted-some c.args.key c.loop-e.keyed w.put.new.keyed c.loop-e.unkeyed (take i es) e w.in_ok-copy-in-Some.field-0 w.in-Some.common.now c.loop-e.invariant
          w.in-Some.ensures w.in_ok-copy-in-Some.ensures w.in_ok-put-in-Some.ensures)
    ]
