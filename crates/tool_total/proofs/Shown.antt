-- A run that was made has events.
use Rattle.std.proofs.Common.{◌≡◌, ◌∙◌, ℕ, ℤ, List, [], ◌∷◌, Option, Some, IsSome, reverse, refl, sym, subst}
use Rattle.std.proofs.lemmas.List.{reverse-reverse}
use Rattle.lang_base.specs.declared.outcome.Limits.{Limits}
use Rattle.lang_base.specs.declared.outcome.Outcome.{Outcome}
use Rattle.lang_typed.specs.Plain.{PlainProgram}
use Rattle.code_instrs.specs.declared.code.Code.{Code}
use Rattle.code_instrs.specs.Plain.{plain_code}
use Rattle.exec_world.specs.World.{answer_to}
use Rattle.exec_machine.specs.declared.made_event.MadeEvent.{MadeEvent}
use Rattle.exec_machine.specs.Events.{Makes, makes, meets_limit, opens, place_at}
use Rattle.exec_machine.specs.Replay.{LeadsTo, Moment, Moves, made, over}
use Rattle.exec_run.specs.Events.{AreEvents}
use Rattle.exec_run.specs.declared.recorded.Recorded.{Recorded}
use Rattle.exec_run.specs.declared.showing.Shown.TheVariants.{Made}
use Rattle.tool_words.specs.declared.key.Mode.{Mode}
use Rattle.tool_top.specs.Answer.{IsRunBy}
use Rattle.tool_top.proofs.Promised.{made_run}

-- where a schedule leads, it makes events
pub leads_makes : (code : Code) (L : Limits) (arg : ℤ) (ks : List ℕ) (m : Moment) → LeadsTo code L arg ks m → (xs : List MadeEvent) × Makes code L arg ks xs m
leads_makes code L arg [] m h = ([], opens h)
leads_makes code L arg (k ∷ ks) m (before, leads, moves) = by moves (leads_makes code L arg ks before leads)
  where
    by : Moves code L before k m → ((xs : List MadeEvent) × Makes code L arg ks xs before) → (xs : List MadeEvent) × Makes code L arg (k ∷ ks) xs m
    by (made e x can within is) (xs, so_far) =
        let event : MadeEvent = record { event = e; answer = answer_to before.world e; place = place_at (plain_code code) x.stands.state } in
        (event ∷ xs, makes k event (record { next = x; answer = refl; place = refl }) so_far can within is)
    by (over e x can beyond is) (xs, so_far) =
        let event : MadeEvent = record { event = e; answer = answer_to before.world e; place = place_at (plain_code code) x.stands.state } in
        (xs, meets_limit k event (record { next = x; answer = refl; place = refl }) so_far can beyond is)

is_some : (o : Option Outcome) (one : Outcome) → o ≡ Some one → IsSome o
is_some o one same = subst IsSome (sym same) refl

pub events_of : (typed : PlainProgram) (L : Limits) (arg : ℤ) (m : Mode) (workers : ℕ) (r : Recorded) → IsRunBy m typed L arg workers (Some r)
    → (xs : List MadeEvent) × AreEvents typed L arg r.record.machine.schedule (Made xs)
events_of typed L arg m workers r run =
    let is = made_run m typed L arg workers r run in
    let p = r.record.machine in
    let there = is.0.replayed in
    let leads : LeadsTo p.code L arg (reverse p.schedule) there.moment =
    subst (λ k. LeadsTo p.code k arg (reverse p.schedule) there.moment) is.0.limits
    (subst (λ a. LeadsTo p.code p.limits a (reverse p.schedule) there.moment) is.0.is_argument there.leads) in
    let told = leads_makes p.code L arg (reverse p.schedule) there.moment leads in (
      reverse told.0,
      AreEvents.made p.code (reverse told.0) there.moment is.0.is_code
          (subst (λ xs. Makes p.code L arg (reverse p.schedule) xs there.moment) (sym (reverse-reverse told.0)) told.1)
          (is_some there.moment.outcome r.outcome (sym there.outcome ∙ is.1)),
    )
