-- What is like has a like event: from the plain data to what a machine has; and it stays so, whatever more there is.
use Rattle.std.proofs.Common.{ℕ, List, [], ◌∷◌, map, refl}
use Rattle.lang_base.specs.declared.value.SlotValue.{SlotValue}
use Rattle.lang_base.specs.declared.value.Value.{Value as Constant}
use Rattle.lang_base.specs.declared.value.Value.TheVariants as constant
use Rattle.lang_meaning.specs.Actions.{Effect}
use Rattle.code_instrs.specs.Plain.{PlainCode}
use Rattle.runs_theory.specs.Actions.{Action, Answer, Ending, Own}
use Rattle.runs_theory.specs.Objects.{LocalRegion, Name, Value}
use Rattle.runs_theory.specs.Runs.{Event}
use Rattle.exec_frames.specs.Names.{plain_value}
use Rattle.exec_task.specs.Tasks.{plain_answer, plain_ending, plain_own, plain_slot}
use Rattle.exec_task.specs.declared.action.Action.{Action as DeclaredAction}
use Rattle.exec_task.specs.declared.action.Answer.{Answer as DeclaredAnswer}
use Rattle.exec_task.specs.declared.action.Answer.TheVariants as answer
use Rattle.exec_task.specs.declared.action.Ending.{Ending as DeclaredEnding}
use Rattle.exec_task.specs.declared.action.Ending.TheVariants as ending
use Rattle.exec_task.specs.declared.action.Own.{Own as DeclaredOwn}
use Rattle.exec_task.specs.declared.action.Own.TheVariants as own
use Rattle.exec_machine.specs.declared.made_event.MadeEvent.{MadeEvent}
use Rattle.runs_elision.proofs.Worlds.{Later, LocalsLike, ValueLike, no_locals, more_locals, int_like, boolean_like, null_like, object_like, name_later, EndingLike, returned_like, assigned_like, trapped_like}
use Rattle.runs_simulation.specs.Alike.{ActionAlike, AnswerAlike, EndingAlike, EventAlike, OwnAlike, SlotAlike, ValueAlike}
use Rattle.runs_simulation.specs.Alike as alike
use Rattle.runs_simulation.proofs.alike.Sights.{Each, each_none, each_more, each_weaker, Sight, Wider, EffectsLike, region_later, regions_later, an_object, an_array, OwnLike, AnswerLike}
use Rattle.runs_simulation.proofs.alike.Sights as sights

pub value_alike : {ns : List Name} (v : Constant) {u : Value} → ValueLike ns (plain_value v) u → ValueAlike ns v u
value_alike (constant.Int k) (int_like k') = alike.int_alike k
value_alike (constant.Bool b) (boolean_like b') = alike.boolean_alike b
value_alike constant.Null null_like = alike.null_alike
value_alike (constant.Obj n) (object_like n' x h) = alike.object_alike n x h

slots_alike : {ns : List Name} (ls : List SlotValue) {us : List (ℕ × Value)} → LocalsLike ns (map plain_slot ls) us → Each (SlotAlike ns) ls us
slots_alike [] no_locals = each_none
slots_alike (l ∷ ls) (more_locals x h k) = each_more (record { slot = refl; value = value_alike l.value h }) (slots_alike ls k)

pub ending_alike : {ns : List Name} (c : DeclaredEnding) {x : Ending} → EndingLike ns (plain_ending c) x → EndingAlike ns c x
ending_alike (ending.Returned v) (returned_like l) = alike.returned_alike (value_alike v l)
ending_alike (ending.Assigned ls) (assigned_like l) = alike.assigned_alike (slots_alike ls l)
ending_alike (ending.Trapped t p) (trapped_like t' p') = alike.trapped_alike t p

pub answer_alike : {w : Sight} (y : DeclaredAnswer) {a : Answer} → AnswerLike w (plain_answer y) a → AnswerAlike w y a
answer_alike answer.Went sights.went_like = alike.went_alike
answer_alike (answer.Got v) (sights.got_like l) = alike.got_alike (value_alike v l)
answer_alike answer.Out sights.out_like = alike.out_alike
answer_alike (answer.Class c rs) (sights.class_like c' l) = alike.class_alike c l
answer_alike (answer.Length n) (sights.length_like n') = alike.length_alike n
answer_alike (answer.Made n) (sights.named_like n' x h) = alike.named_alike n x h
answer_alike (answer.Joined ls) (sights.joined_like l) = alike.joined_alike (slots_alike ls l)
answer_alike (answer.Fell t p) (sights.fell_like t' p') = alike.fell_alike t p

-- what a task does by itself
pub own_alike : {w : Sight} (C : PlainCode) (o : DeclaredOwn) {q : Own} → OwnLike w (plain_own C o) q → OwnAlike w o q
own_alike C own.Rest sights.rest_like = alike.rest_alike
own_alike C (own.Read n i) (sights.read_like n' x i' h) = alike.read_alike n x i h
own_alike C (own.Write n i v) (sights.write_like n' x i' h l) = alike.write_alike n x i h (value_alike v l)
own_alike C (own.Look n) (sights.look_like n' x h) = alike.look_alike n x h
own_alike C (own.NewObject c rs constructor) (sights.new_like b (an_object c' {us = us} r v)) = alike.object_made c us constructor r
own_alike C (own.NewArray r len v) (sights.new_like b (an_array len' l u)) = alike.array_made len l (value_alike v u)
own_alike C (own.Print bytes) (sights.print_like bytes') = alike.print_alike bytes
own_alike C (own.Enter E) (sights.enter_like l) = alike.enter_alike l
own_alike C own.Exit sights.exit_like = alike.exit_alike

-- what is alike is so after more were made
value_later : {ns ms : List Name} {v : Constant} {u : Value} → Later ns ms → ValueAlike ns v u → ValueAlike ms v u
value_later l (alike.int_alike k) = alike.int_alike k
value_later l (alike.boolean_alike b) = alike.boolean_alike b
value_later l alike.null_alike = alike.null_alike
value_later l (alike.object_alike n x h) = alike.object_alike n x (name_later n x l h)

slots_later : {ns ms : List Name} {ls : List SlotValue} {us : List (ℕ × Value)} → Later ns ms → Each (SlotAlike ns) ls us → Each (SlotAlike ms) ls us
slots_later l h = each_weaker (λ x y k. record { slot = k.slot; value = value_later l k.value }) h

ending_later : {ns ms : List Name} {c : DeclaredEnding} {x : Ending} → Later ns ms → EndingAlike ns c x → EndingAlike ms c x
ending_later l (alike.returned_alike h) = alike.returned_alike (value_later l h)
ending_later l (alike.assigned_alike h) = alike.assigned_alike (slots_later l h)
ending_later l (alike.trapped_alike t p) = alike.trapped_alike t p

module _ {v w : Sight} (wide : Wider v w) where
  effects_later : {E : List (Effect (ℕ × ℕ))} {F : List (Effect LocalRegion)} → EffectsLike v E F → EffectsLike w E F
  effects_later h = each_weaker (λ x y k. record { access = k.access; region = region_later wide k.region }) h

  own_later : {o : DeclaredOwn} {q : Own} → OwnAlike v o q → OwnAlike w o q
  own_later alike.rest_alike = alike.rest_alike
  own_later (alike.read_alike n x i h) = alike.read_alike n x i (name_later n x wide.names h)
  own_later (alike.write_alike n x i h l) = alike.write_alike n x i (name_later n x wide.names h) (value_later wide.names l)
  own_later (alike.look_alike n x h) = alike.look_alike n x (name_later n x wide.names h)
  own_later (alike.object_made c first constructor r) = alike.object_made c first constructor (regions_later wide r)
  own_later (alike.array_made len r l) = alike.array_made len (region_later wide r) (value_later wide.names l)
  own_later (alike.print_alike bytes) = alike.print_alike bytes
  own_later (alike.enter_alike l) = alike.enter_alike (effects_later l)
  own_later alike.exit_alike = alike.exit_alike

  pub action_later : {a : DeclaredAction} {b : Action} → ActionAlike v a b → ActionAlike w a b
  action_later (alike.do_alike h) = alike.do_alike (own_later h)
  action_later (alike.fork_alike kind many branches k l) = alike.fork_alike kind many branches k l
  action_later (alike.begin_alike b) = alike.begin_alike b
  action_later alike.join_alike = alike.join_alike
  action_later (alike.end_alike h) = alike.end_alike (ending_later wide.names h)

  answer_later : {y : DeclaredAnswer} {a : Answer} → AnswerAlike v y a → AnswerAlike w y a
  answer_later alike.went_alike = alike.went_alike
  answer_later (alike.got_alike l) = alike.got_alike (value_later wide.names l)
  answer_later alike.out_alike = alike.out_alike
  answer_later (alike.class_alike c l) = alike.class_alike c (regions_later wide l)
  answer_later (alike.length_alike n) = alike.length_alike n
  answer_later (alike.named_alike n x h) = alike.named_alike n x (name_later n x wide.names h)
  answer_later (alike.joined_alike l) = alike.joined_alike (slots_later wide.names l)
  answer_later (alike.fell_alike t p) = alike.fell_alike t p

  pub event_later : {x : MadeEvent} {e : Event} → EventAlike v x e → EventAlike w x e
  event_later {x} {e} h = record {
    task = wide.paths x.event.task e.path h.task;
    ticks = h.ticks;
    action = action_later h.action;
    answer = answer_later h.answer;
  }
