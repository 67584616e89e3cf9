use Rattle.std.proofs.Common.{◌∙◌, ap}
use Rattle.std.specs.Option.{option_flatten}
use Rattle.body_infer.proofs.Places.{finds_put}
use Rattle.body_infer.proofs.scope.Scope.put.Goals as goal

pub invariant_of-self-2 : goal.invariant_of-self-2
invariant_of-self-2 c =
    finds_put c.self.inside.entries c.push.new.self (record { placed = record { slot = c.args.slot; known = c.args.known }; hidden = c.flatten-hidden.result })
    c.self.inside.places c.reserve.new.self c.insert.new.self c.len-place.result
    c.self.invariant c.in_ok-reserve.ensures.entries c.in_ok-push.ensures.ok
    (c.flatten-hidden.ensures ∙ ap option_flatten (c.copied.ensures ∙ c.get.ensures.value)) c.len-place.ensures c.in_ok-insert.ensures.updates
