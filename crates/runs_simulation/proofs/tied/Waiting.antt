-- A task that has rested in front of an entry has noted what it wants there.
use Rattle.std.proofs.Common.{◌≡◌, ◌≢◌, inl, inr, ℕ, ◌==◌, if◌then◌else◌, ℤ, Bool, true, false, List, [], ◌∷◌, map, refl, sym, ap, ◌∙◌, subst, Option, Some, None, slice_get}
use Rattle.std.proofs.lemmas.Bool.Decides.{eqb_tells}
use Rattle.std.specs.Prelude.{option_map}
use Rattle.std.specs.Cmp.{nat_cmp_total}
use Rattle.std.specs.Ordering.{nat_cmp}
use Rattle.std.specs.FinMap.{empty, get, insert, get-empty, get-insert, get-remove}
use Rattle.std.specs.Prelude.{cond}
use Rattle.lang_base.specs.declared.effect.Effect.{Effect as PathEffect}
use Rattle.lang_base.specs.declared.outcome.Limits.{Limits}
use Rattle.lang_meaning.specs.Actions.{Answer, Effect, Ending, Do, End, Enter, Rest}
use Rattle.lang_meaning.specs.Asking.{most_ticks}
use Rattle.code_instrs.specs.RunsToActions.{Halt, Asks, Finished, Dead, RunsToAction}
use Rattle.code_instrs.specs.Machine.{root_start, Start, State, Stand, Goes, Ticks, Makes, Waits, Ends, Stuck, step}
use Rattle.code_instrs.specs.Plain.{PlainCode, plain_code}
use Rattle.code_instrs.specs.declared.code.Code.{Code}
use Rattle.exec_task.specs.Branches.{starts_at}
use Rattle.exec_task.specs.Halts.{IsActionOf, stands}
use Rattle.exec_task.specs.Names.{names_of, plain_effect}
use Rattle.exec_task.specs.Tasks.{Says, plain_answer}
use Rattle.exec_task.specs.declared.action.Action.{Action as DeclaredAction}
use Rattle.exec_task.specs.declared.action.Action.TheVariants as action
use Rattle.exec_task.specs.declared.action.Own.TheVariants as own
use Rattle.exec_task.specs.declared.action.Answer.{Answer as DeclaredAnswer}
use Rattle.exec_tasks.proofs.Numbers.{itself, other_number}
use Rattle.exec_world.specs.Waits.{Waiting}
use Rattle.exec_world.specs.World.{answer_at, rested, world_after}
use Rattle.exec_world.specs.declared.event.Event.{Event as DeclaredEvent}
use Rattle.exec_world.specs.declared.world.World.{World}
use Rattle.exec_machine.specs.Premise.{CanProgress}
use Rattle.exec_machine.specs.Replay.{Moment, NextOf, Opens, LeadsTo, after, begun, goes_on, made as made_so, opened, no_room, over as over_so, root_alone, with_branch}
use Rattle.exec_machine.specs.Running.{Running, answered, at_start, front}
use Rattle.exec_machine.specs.Wants.{WantsRightly, noted, wants_at}
use Rattle.runs_simulation.proofs.events.Acting.{event_of}
use Rattle.runs_simulation.proofs.events.Asked.{ActionIn, ThenIn}
use Rattle.runs_simulation.proofs.events.Resting.{Following, Leading, after_others, entry_next, run_entry, run_rested, run_spent, step_leads}
use Rattle.runs_simulation.proofs.tied.Trees.{beside, placed}

abbrev EffectsIn : Type 0
EffectsIn = List (Effect (ℕ × ℕ))

-- what a task wants stands noted, where it has rested in front of an entry
abbrev pub Noted : PlainCode → Waiting → ℕ → Running → Type 0
Noted C waits k t = (E : EffectsIn) → entry_next C t.state ≡ Some E → get waits k ≡ Some (map noted E)

abbrev pub AllNoted : PlainCode → Moment → Type 0
AllNoted C m = (k : ℕ) (t : Running) → m.tasks k ≡ Some t → Noted C m.world.waits k t

-- what others want stays
inserted_other : (waits : Waiting) (k j : ℕ) (E : List PathEffect) → j ≢ k → get (insert waits k E) j ≡ get waits j
inserted_other waits k j E apart = get-insert nat_cmp_total waits k E j ∙ ap (λ b. cond b (Some E) (get waits j)) (other_number j k apart)

inserted_own : (waits : Waiting) (k : ℕ) (E : List PathEffect) → get (insert waits k E) k ≡ Some E
inserted_own waits k E = get-insert nat_cmp_total waits k E k ∙ ap (λ b. cond b (Some E) (get waits k)) (itself k)

rested_other : (waits : Waiting) (k j : ℕ) (wants : Option (List PathEffect)) → j ≢ k → get (rested waits k wants) j ≡ get waits j
rested_other waits k j None apart = refl
rested_other waits k j (Some E) apart = inserted_other waits k j E apart

waits_other : (code : Code) (w : World) (k ticks : ℕ) (wants : Option (List PathEffect)) (a : DeclaredAction) (j : ℕ) → j ≢ k
    → get (world_after code w (event_of k ticks wants a)).waits j ≡ get w.waits j
waits_other code w k ticks wants (action.Do own.Rest) j apart = rested_other w.waits k j wants apart
waits_other code w k ticks wants (action.Do (own.Enter effects)) j apart =
    get-remove nat_cmp_total w.waits k j ∙ ap (λ b. cond b None (get w.waits j)) (other_number j k apart)
waits_other code w k ticks wants a j apart = refl

-- a branch that begins is in front of no entry
module _ (C : PlainCode) where
  fresh_noted : (waits : Waiting) (k : ℕ) (o : Option (Start ℕ (ℕ × ℕ))) (t : Running) → begun o ≡ Some t → Noted C waits k t
  fresh_noted waits k None t e E i = absurd (cc)
  fresh_noted waits k (Some s) t e E i =
      let same : at_start s ≡ t = cc in
      absurd (let both : None ≡ Some E = ap (λ (t : Running). entry_next C t.state) same ∙ i in cc)

  branch_noted : (z : State ℕ (ℕ × ℕ)) (a : DeclaredAction) (next : ℕ) (tasks : ℕ → Option Running) (waits : Waiting)
      → ((j : ℕ) (t : Running) → tasks j ≡ Some t → Noted C waits j t) → (j : ℕ) (t : Running) → with_branch C z a next tasks j ≡ Some t → Noted C waits j t
  branch_noted z (action.Begin b) next tasks waits h j t e = elim (eqb_tells j next) [
    | inl s ↦ fresh_noted waits j (slice_get (starts_at C z) b) t (sym (placed tasks next _ j s.1) ∙ e)
    | inr s ↦ h j t (sym (beside tasks next _ j s.1) ∙ e)
  ]
  branch_noted z a next tasks waits h j t e = h j t e

  -- where a task stands at an action, what it answers leads on
  record At (z : State ℕ (ℕ × ℕ)) (ticks : ℕ) (h : Halt ℕ (ℕ × ℕ)) (x : Answer ℕ (ℕ × ℕ)) (t : Running) : Type 0 where
    made : ℕ
    act : ActionIn
    then_in : ThenIn
    is : h ≡ Asks ticks made act then_in
    state : t.state ≡ then_in x
    following : (ticks == most_ticks) ≡ false → Following C z act then_in
    spent : (ticks == most_ticks) ≡ true → act ≡ Do Rest

  at_answer : (k ticks made : ℕ) (z : State ℕ (ℕ × ℕ)) (y : DeclaredAnswer) (t : Running) → answered (front C k ticks made z) y ≡ Some t
      → At z ticks (front C k ticks made z) (plain_answer y) t
  at_answer k ticks made z y t e = go (ticks == most_ticks) refl e
    where
      Here : Bool → Halt ℕ (ℕ × ℕ)
      Here b = if b then Asks ticks made (Do Rest) (λ x. z) else stands ticks made (step (names_of k) C z)

      stood : (ticks == most_ticks) ≡ false → (o : Stand ℕ (ℕ × ℕ)) → Leading C z o → answered (stands ticks made o) y ≡ Some t → At z ticks (stands ticks made o) (plain_answer y) t
      stood i (Waits a f) l e = record {
        made = made;
        act = a;
        then_in = f;
        is = refl;
        state = (let same : record { state = f (plain_answer y); made = made } ≡ t = cc in sym (ap (λ (t : Running). t.state) same));
        following = λ n. l.is;
        spent = λ n. absurd (let both : false ≡ true = sym i ∙ n in cc);
      }
      stood i (Goes s) l e = absurd (cc)
      stood i (Ticks s) l e = absurd (cc)
      stood i (Makes f) l e = absurd (cc)
      stood i (Ends x) l e = absurd (cc)
      stood i Stuck l e = absurd (cc)

      go : (b : Bool) → (ticks == most_ticks) ≡ b → answered (Here b) y ≡ Some t → At z ticks (Here b) (plain_answer y) t
      go true i e = record {
        made = made;
        act = Do Rest;
        then_in = λ x. z;
        is = refl;
        state = (let same : record { state = z; made = made } ≡ t = cc in sym (ap (λ (t : Running). t.state) same));
        following = λ n. absurd (let both : true ≡ false = sym i ∙ n in cc);
        spent = λ n. refl;
      }
      go false i e = stood i (step (names_of k) C z) (step_leads C k z) e

  reported : (a : DeclaredAction) (h : Halt ℕ (ℕ × ℕ)) (n m : ℕ) (b : ActionIn) (f : ThenIn) → IsActionOf C a h → h ≡ Asks n m b f → Says C a b
  reported a h n m b f t e = subst (λ h. IsActionOf C a h) e t

  -- another action than a rest, and no end
  abbrev Passes : ActionIn → Type 0
  Passes b = (b ≡ Do Rest → ⊥) × ((e : Ending ℕ) → b ≡ End e → ⊥)

  passes : {b c : ActionIn} → b ≡ c → Passes c → Passes b
  passes e n = (λ r. n.0 (sym e ∙ r), λ x r. n.1 x (sym e ∙ r))

  module _ (k ticks made : ℕ) (z : State ℕ (ℕ × ℕ)) (y : DeclaredAnswer) (t : Running) (waits : Waiting) where
    -- after it no entry follows
    none_next : (a : DeclaredAction) → IsActionOf C a (front C k ticks made z) → ((b : ActionIn) → Says C a b → Passes b)
        → answered (front C k ticks made z) y ≡ Some t → Noted C waits k t
    none_next a is_action passed e E i = absurd (go (ticks == most_ticks) refl)
      where
        A : At z ticks (front C k ticks made z) (plain_answer y) t
        A = at_answer k ticks made z y t e

        p : Passes A.act
        p = passed A.act (reported a (front C k ticks made z) ticks A.made A.act A.then_in is_action A.is)

        go : (b : Bool) → (ticks == most_ticks) ≡ b → ⊥
        go true s = p.0 (A.spent s)
        go false s =
            let none : entry_next C (A.then_in (plain_answer y)) ≡ None = after_others C z A.act A.then_in (A.following s) p.0 p.1 (plain_answer y) in
            let both : None ≡ Some E = sym none ∙ ap (λ s. entry_next C s) (sym A.state) ∙ i in cc

    -- after a rest the entry in front of which the task rests
    rest_next : {first : ℕ} {s : State ℕ (ℕ × ℕ)} → RunsToAction (names_of k) C first s (front C k ticks made z) → IsActionOf C (action.Do own.Rest) (front C k ticks made z)
        → (wants : Option (List PathEffect)) → WantsRightly C z ticks (action.Do own.Rest) wants → answered (front C k ticks made z) y ≡ Some t → Noted C (rested waits k wants) k t
    rest_next {first} {s} run_to_action is_action wants right e E i = go (ticks == most_ticks) refl
      where
        A : At z ticks (front C k ticks made z) (plain_answer y) t
        A = at_answer k ticks made z y t e

        is_rest : A.act ≡ Do Rest
        is_rest = reported (action.Do own.Rest) (front C k ticks made z) ticks A.made A.act A.then_in is_action A.is

        entry : entry_next C (A.then_in (plain_answer y)) ≡ Some E
        entry = ap (λ s. entry_next C s) (sym A.state) ∙ i

        go : (b : Bool) → (ticks == most_ticks) ≡ b → get (rested waits k wants) k ≡ Some (map noted E)
        go true b =
            absurd (let none = run_spent C k first s (front C k ticks made z) ticks A.made A.act A.then_in run_to_action A.is b (plain_answer y) in
            let both : None ≡ Some E = sym none ∙ entry in cc)
        go false b = subst (λ o. get (rested waits k o) k ≡ Some (map noted E)) (sym so) (inserted_own waits k (map noted E))
          where
            following : entry_next C (A.then_in (plain_answer y)) ≡ wants_at C z
            following = (subst (λ c. Following C z c A.then_in) is_rest (A.following b)) (plain_answer y)

            so : wants ≡ Some (map noted E)
            so = right ∙ ap (λ c. option_map (map noted) (if c then None else wants_at C z)) b ∙ ap (option_map (map noted)) (sym following ∙ entry)

-- over an event
module _ (code : Code) (m : Moment) (k ticks : ℕ) (wants : Option (List PathEffect)) where
  abbrev C : PlainCode
  C = plain_code code

  abbrev Own : (a : DeclaredAction) → NextOf C m k (event_of k ticks wants a) → Type 0
  Own a x = (t : Running) → goes_on a (front C k ticks x.stands.made x.stands.state) (answer_at m.world k a) ≡ Some t
      → Noted C (world_after code m.world (event_of k ticks wants a)).waits k t

  abbrev None_next : (a : DeclaredAction) (x : NextOf C m k (event_of k ticks wants a)) → ((b : ActionIn) → Says C a b → Passes C b) → (t : Running)
      → answered (front C k ticks x.stands.made x.stands.state) (answer_at m.world k a) ≡ Some t → (waits : Waiting) → Noted C waits k t
  None_next a x p t e waits = none_next C k ticks x.stands.made x.stands.state (answer_at m.world k a) t waits a x.stands.is_action p e

  own_noted : (a : DeclaredAction) (x : NextOf C m k (event_of k ticks wants a)) → Own a x
  own_noted (action.Do own.Rest) x t e =
      rest_next C k ticks x.stands.made x.stands.state (answer_at m.world k (action.Do own.Rest)) t m.world.waits x.stands.run_to_action x.stands.is_action wants x.stands.wants e
  own_noted (action.Fork forking many) x t e = None_next (action.Fork forking many) x (λ b s. passes C s.1 (λ r. (cc), λ x r. (cc))) t e _
  own_noted (action.End c) x t e = absurd (cc)
  own_noted a x t e = None_next a x (λ b s. passes C s (λ r. (cc), λ x r. (cc))) t e _

  event_noted : (a : DeclaredAction) (x : NextOf C m k (event_of k ticks wants a)) → AllNoted C m
      → AllNoted C (after code m (event_of k ticks wants a) x.stands.state x.stands.made)
  event_noted a x all j t e = elim (eqb_tells j k) [
    | inl s ↦ subst (λ i. Noted C (world_after code m.world (event_of k ticks wants a)).waits i t) (sym s.1) (own_noted a x t (sym (placed others k _ j s.1) ∙ e))
    | inr s ↦ (λ E i. waits_other code m.world k ticks wants a j s.1 ∙ branch_noted C x.stands.state a m.world.tree.begun m.tasks m.world.waits all j t (sym (beside others k _ j s.1) ∙ e) E i)
  ]
    where
      others : ℕ → Option Running
      others = with_branch C x.stands.state a m.world.tree.begun m.tasks

module _ (code : Code) (L : Limits) (arg : ℤ) where
  next_noted : (m : Moment) (k : ℕ) (e : DeclaredEvent) (x : NextOf (plain_code code) m k e) → AllNoted (plain_code code) m
      → AllNoted (plain_code code) (after code m e x.stands.state x.stands.made)
  next_noted m k e x all =
      subst (λ j. (y : NextOf (plain_code code) m j e) → AllNoted (plain_code code) (after code m e y.stands.state y.stands.made)) x.stands.number
      (λ y. event_noted code m e.task e.ticks e.wants e.action y all) x

  root_noted : (waits : Waiting) (k : ℕ) (t : Running) → root_alone code arg k ≡ Some t → Noted (plain_code code) waits k t
  root_noted waits k t e = go (k == 0) e
    where
      go : (b : Bool) → (if b then Some (at_start (root_start (names_of 0) (plain_code code) 0 arg)) else None) ≡ Some t → Noted (plain_code code) waits k t
      go true e = fresh_noted (plain_code code) waits k (Some (root_start (names_of 0) (plain_code code) 0 arg)) t e
      go false e = absurd (cc)

  first_noted : (m : Moment) → Opens code L arg m → AllNoted (plain_code code) m
  first_noted m (opened room is) = subst (λ m. AllNoted (plain_code code) m) (sym is) (λ k t e. root_noted _ k t e)
  first_noted m (no_room full is) = subst (λ m. AllNoted (plain_code code) m) (sym is) (λ k t e. root_noted _ k t e)

  -- wherever a schedule leads
  pub all_noted : (ks : List ℕ) (m : Moment) → LeadsTo code L arg ks m → AllNoted (plain_code code) m
  all_noted [] m opens = first_noted m opens
  all_noted (k ∷ ks) m (before, leads, made_so e x can within is) = subst (λ m. AllNoted (plain_code code) m) (sym is) (next_noted before k e x (all_noted ks before leads))
  all_noted (k ∷ ks) m (before, leads, over_so e x can beyond is) = subst (λ m. AllNoted (plain_code code) m) (sym is) (all_noted ks before leads)

-- a task that makes an entry has noted its effects
pub entry_noted : (C : PlainCode) (m : Moment) (k ticks : ℕ) (wants : Option (List PathEffect)) (effects : List PathEffect) (x : NextOf C m k (event_of k ticks wants (action.Do (own.Enter effects))))
    → AllNoted C m → get m.world.waits k ≡ Some (map noted (map plain_effect effects))
entry_noted C m k ticks wants effects x all = all k x.task x.there (map plain_effect effects) (at_front (front C k ticks x.stands.made x.stands.state) refl x.stands.is_action)
  where
    at_front : (h : Halt ℕ (ℕ × ℕ)) → front C k ticks x.stands.made x.stands.state ≡ h → IsActionOf C (action.Do (own.Enter effects)) h
        → entry_next C x.task.state ≡ Some (map plain_effect effects)
    at_front (Asks n m a f) e t =
        run_entry C k x.task.made x.task.state (front C k ticks x.stands.made x.stands.state) n m (map plain_effect effects) f x.stands.run_to_action (e ∙ ap (λ b. Asks n m b f) t)
    at_front (Finished n y) e t = absurd (cc)
    at_front Dead e t = absurd t

-- who stands at a rest goes on
record Goes_on (C : PlainCode) (h : Halt ℕ (ℕ × ℕ)) (y : DeclaredAnswer) : Type 0 where
  task : Running
  goes : answered h y ≡ Some task

rest_goes_on : (C : PlainCode) (h : Halt ℕ (ℕ × ℕ)) (y : DeclaredAnswer) → IsActionOf C (action.Do own.Rest) h → Goes_on C h y
rest_goes_on C (Asks i j b f) y t = record { task = record { state = f (plain_answer y); made = j }; goes = refl }
rest_goes_on C (Finished i e) y t = absurd (cc)
rest_goes_on C Dead y t = absurd t

-- and nobody else has noted anything: who has rests in front of that entry
pub record Rests (C : PlainCode) (m : Moment) (k : ℕ) (W : List PathEffect) : Type 0 where
  pub task : Running
  pub there : m.tasks k ≡ Some task
  pub entry : EffectsIn
  pub next : entry_next C task.state ≡ Some entry
  pub noted_as : W ≡ map noted entry

abbrev pub RestsAlone : PlainCode → Moment → Type 0
RestsAlone C m = (k : ℕ) (W : List PathEffect) → get m.world.waits k ≡ Some W → Rests C m k W

module _ (code : Code) (m : Moment) (k ticks : ℕ) (wants : Option (List PathEffect)) (fresh : m.tasks m.world.tree.begun ≡ None) (all : RestsAlone (plain_code code) m) where
  abbrev CA : PlainCode
  CA = plain_code code

  -- what is noted of a task that makes no entry
  none_noted : (a : DeclaredAction) (x : NextOf CA m k (event_of k ticks wants a)) → ((b : ActionIn) → Says CA a b → (E : EffectsIn) → b ≡ Do (Enter E) → ⊥)
      → (o : Option (List PathEffect)) → get m.world.waits k ≡ o → o ≡ None
  none_noted a x other None e = refl
  none_noted a x other (Some W) e = absurd (other (Do (Enter r.entry)) says r.entry refl)
    where
      r : Rests CA m k W
      r = all k W e

      same : x.task ≡ r.task
      same = (let both : Some x.task ≡ Some r.task = sym x.there ∙ r.there in cc)

      at : (f : ThenIn) × (front CA k ticks x.stands.made x.stands.state ≡ Asks 0 x.task.made (Do (Enter r.entry)) f)
      at = run_rested CA k x.task.made x.task.state (front CA k ticks x.stands.made x.stands.state) r.entry (ap (λ (t : Running). entry_next CA t.state) same ∙ r.next) x.stands.run_to_action

      says : Says CA a (Do (Enter r.entry))
      says = reported CA a (front CA k ticks x.stands.made x.stands.state) 0 x.task.made (Do (Enter r.entry)) at.0 x.stands.is_action at.1

  -- another task that has begun goes on as it was
  other_task : (a : DeclaredAction) (x : NextOf CA m k (event_of k ticks wants a)) (j : ℕ) (t : Running) → j ≢ k → m.tasks j ≡ Some t
      → (after code m (event_of k ticks wants a) x.stands.state x.stands.made).tasks j ≡ Some t
  other_task a x j t apart e = beside (with_branch CA x.stands.state a m.world.tree.begun m.tasks) k _ j apart ∙ branch_beside a
    where
      not_fresh : j ≢ m.world.tree.begun
      not_fresh same = (let both : None ≡ Some t = sym fresh ∙ ap m.tasks (sym same) ∙ e in cc)

      branch_beside : (a : DeclaredAction) → with_branch CA x.stands.state a m.world.tree.begun m.tasks j ≡ Some t
      branch_beside (action.Begin b) = beside m.tasks m.world.tree.begun _ j not_fresh ∙ e
      branch_beside a = e

  abbrev Own_rests : DeclaredAction → Type 0
  Own_rests a = (x : NextOf CA m k (event_of k ticks wants a)) (W : List PathEffect) → get (world_after code m.world (event_of k ticks wants a)).waits k ≡ Some W
      → Rests CA (after code m (event_of k ticks wants a) x.stands.state x.stands.made) k W

  -- where nothing is noted over the event
  nothing_noted : (a : DeclaredAction) (x : NextOf CA m k (event_of k ticks wants a)) → ((b : ActionIn) → Says CA a b → (E : EffectsIn) → b ≡ Do (Enter E) → ⊥)
      → (W : List PathEffect) → get m.world.waits k ≡ Some W → ⊥
  nothing_noted a x other W e = (let none = none_noted a x other (get m.world.waits k) refl in let both : None ≡ Some W = sym none ∙ e in cc)

  no_entry : {b c : ActionIn} → b ≡ c → ((E : EffectsIn) → c ≡ Do (Enter E) → ⊥) → (E : EffectsIn) → b ≡ Do (Enter E) → ⊥
  no_entry e n E i = n E (sym e ∙ i)

  -- a rest
  rest_rests : Own_rests (action.Do own.Rest)
  rest_rests x W e = go wants refl
    where
      z : State ℕ (ℕ × ℕ)
      z = x.stands.state

      h : Halt ℕ (ℕ × ℕ)
      h = front CA k ticks x.stands.made z

      n : Moment
      n = after code m (event_of k ticks wants (action.Do own.Rest)) z x.stands.made

      G : Goes_on CA h (answer_at m.world k (action.Do own.Rest))
      G = rest_goes_on CA h (answer_at m.world k (action.Do own.Rest)) x.stands.is_action

      there : n.tasks k ≡ Some G.task
      there = placed (with_branch CA z (action.Do own.Rest) m.world.tree.begun m.tasks) k _ k refl ∙ G.goes

      A : At CA z ticks h (plain_answer (answer_at m.world k (action.Do own.Rest))) G.task
      A = at_answer CA k ticks x.stands.made z (answer_at m.world k (action.Do own.Rest)) G.task G.goes

      is_rest : A.act ≡ Do Rest
      is_rest = reported CA (action.Do own.Rest) h ticks A.made A.act A.then_in x.stands.is_action A.is

      rests_with : (V : List PathEffect) → wants ≡ Some V → V ≡ W → (b : Bool) → (ticks == most_ticks) ≡ b → Rests CA n k W
      rests_with V i s true b =
          absurd (let both : Some V ≡ None = sym i ∙ x.stands.wants ∙ ap (λ c. option_map (map noted) (if c then None else wants_at CA z)) b in cc)
      rests_with V i s false b = by_wants (wants_at CA z) refl
        where
          wanted_so : Some V ≡ option_map (map noted) (wants_at CA z)
          wanted_so = sym i ∙ x.stands.wants ∙ ap (λ c. option_map (map noted) (if c then None else wants_at CA z)) b

          next_so : entry_next CA G.task.state ≡ wants_at CA z
          next_so = ap (λ s. entry_next CA s) A.state ∙ (subst (λ c. Following CA z c A.then_in) is_rest (A.following b)) (plain_answer (answer_at m.world k (action.Do own.Rest)))

          by_wants : (o : Option EffectsIn) → wants_at CA z ≡ o → Rests CA n k W
          by_wants None o = absurd (let both : Some V ≡ None = wanted_so ∙ ap (option_map (map noted)) o in cc)
          by_wants (Some E) o = record {
            task = G.task;
            there = there;
            entry = E;
            next = next_so ∙ o;
            noted_as = sym s ∙ (let both : Some V ≡ Some (map noted E) = wanted_so ∙ ap (option_map (map noted)) o in cc);
          }

      go : (o : Option (List PathEffect)) → wants ≡ o → Rests CA n k W
      go None i = absurd (nothing_noted (action.Do own.Rest) x (λ b s. no_entry s (λ E r. (cc))) W (ap (λ o. get (rested m.world.waits k o) k) (sym i) ∙ e))
      go (Some V) i =
          let here : Some V ≡ Some W = sym (inserted_own m.world.waits k V) ∙ ap (λ o. get (rested m.world.waits k o) k) (sym i) ∙ e in
          rests_with V i (cc) (ticks == most_ticks) refl

  own_rests : (a : DeclaredAction) → Own_rests a
  own_rests (action.Do own.Rest) x W e = rest_rests x W e
  own_rests (action.Do (own.Enter effects)) x W e =
      absurd (let gone = get-remove nat_cmp_total m.world.waits k k ∙ ap (λ b. cond b None (get m.world.waits k)) (itself k) in let both : None ≡ Some W = sym gone ∙ e in cc)
  own_rests (action.Fork forking many) x W e = absurd (nothing_noted (action.Fork forking many) x (λ b s. no_entry s.1 (λ E r. (cc))) W e)
  own_rests a x W e = absurd (nothing_noted a x (λ b s. no_entry s (λ E r. (cc))) W e)

  rests_after : (a : DeclaredAction) (x : NextOf CA m k (event_of k ticks wants a)) → RestsAlone CA (after code m (event_of k ticks wants a) x.stands.state x.stands.made)
  rests_after a x j W e = elim (eqb_tells j k) [
    | inl s ↦ subst (λ i. Rests CA (after code m (event_of k ticks wants a) x.stands.state x.stands.made) i W) (sym s.1)
        (own_rests a x W (ap (λ i. get (world_after code m.world (event_of k ticks wants a)).waits i) (sym s.1) ∙ e))
    | inr s ↦ (let r = all j W (sym (waits_other code m.world k ticks wants a j s.1) ∙ e) in
        record { task = r.task; there = other_task a x j r.task s.1 r.there; entry = r.entry; next = r.next; noted_as = r.noted_as })
  ]

module _ (code : Code) (L : Limits) (arg : ℤ) (goes : CanProgress code L arg) where
  next_rests : (m : Moment) (k : ℕ) (e : DeclaredEvent) (x : NextOf (plain_code code) m k e) → m.tasks m.world.tree.begun ≡ None → RestsAlone (plain_code code) m
      → RestsAlone (plain_code code) (after code m e x.stands.state x.stands.made)
  next_rests m k e x fresh all =
      subst (λ j. (y : NextOf (plain_code code) m j e) → RestsAlone (plain_code code) (after code m e y.stands.state y.stands.made)) x.stands.number
      (λ y. rests_after code m e.task e.ticks e.wants fresh all e.action y) x

  nobody : Waiting
  nobody = empty

  none_waits : (k : ℕ) (W : List PathEffect) → get nobody k ≡ Some W → ⊥
  unfolding nobody
  none_waits k W e = (let both : None ≡ Some W = sym (get-empty nat_cmp k) ∙ e in cc)

  -- wherever a schedule leads
  pub all_rest : (ks : List ℕ) (m : Moment) → LeadsTo code L arg ks m → RestsAlone (plain_code code) m
  unfolding nobody
  all_rest [] m (opened room is) k W e = absurd (none_waits k W (sym (ap (λ (n : Moment). get n.world.waits k) is) ∙ e))
  all_rest [] m (no_room full is) k W e = absurd (none_waits k W (sym (ap (λ (n : Moment). get n.world.waits k) is) ∙ e))
  all_rest (k ∷ ks) m (before, leads, made_so e x can within is) j W r =
      subst (λ m. RestsAlone (plain_code code) m) (sym is) (next_rests before k e x (goes ks before leads).next (all_rest ks before leads)) j W r
  all_rest (k ∷ ks) m (before, leads, over_so e x can beyond is) j W r =
      subst (λ m. RestsAlone (plain_code code) m) (sym is) (λ j W e. (let r = all_rest ks before leads j W e in
      record { task = r.task; there = r.there; entry = r.entry; next = r.next; noted_as = r.noted_as })) j W r
