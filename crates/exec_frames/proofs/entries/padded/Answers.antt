use Rattle.std.proofs.Common.{arith, sym, ap, ◌∙◌, ◌∷◌, [], map, length, length-append, length-take}
use Rattle.std.proofs.lemmas.List.{length-map, map-append}
use Rattle.lang_base.specs.declared.value.Value.TheVariants as constant
use Rattle.lang_meaning.specs.Counts.{padded}
use Rattle.exec_frames.specs.Names.{plain_value}
use Rattle.exec_frames.proofs.Padding.{pad_take, pad_null, pad_whole, map_take}
use Rattle.exec_frames.proofs.entries.padded.Goals as goal

pub loop-at-init : goal.loop-at-init
loop-at-init c = (
  sym c.len-at.ensures,
  ap (λ l. padded c.args.slots (map plain_value l)) c.truncate.ensures
      ∙ ap (padded c.args.slots) (map_take plain_value c.args.slots c.args.values) ∙ pad_take c.args.slots (map plain_value c.args.values),
)

pub loop-at-preserved : goal.loop-at-preserved
loop-at-preserved c = (
  omega (arith, ap length c.in_ok-push.ensures.ok, length-append c.loop-at.padded (constant.Null ∷ []), c.loop-at.invariant.0),
  ap (λ l. padded c.args.slots (map plain_value l)) c.in_ok-push.ensures.ok
      ∙ ap (padded c.args.slots) (map-append plain_value c.loop-at.padded (constant.Null ∷ []))
      ∙ pad_null c.args.slots (map plain_value c.loop-at.padded) ∙ c.loop-at.invariant.1,
)

pub returns : goal.returns
returns c =
    sym (pad_whole c.args.slots (map plain_value c.loop-at.padded)
    (omega (arith, length-map c.loop-at.padded plain_value, c.loop-at.invariant.0, ap length c.truncate.ensures, length-take c.args.slots c.args.values)))
    ∙ c.loop-at.invariant.1
