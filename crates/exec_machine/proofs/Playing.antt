-- What a machine keeps of its run, at its start and through a step.
use Rattle.std.proofs.Common.{◌≡◌, ℕ, ℤ, List, [], ◌∷◌, ◌++◌, All, reverse, Option, Some, None, Result, Ok, Err, OnErr, refl, sym, ap, subst, ◌∙◌}
use Rattle.std.proofs.lemmas.List.{reverse-append}
use Rattle.std.specs.FinMap.{FinMap}
use Rattle.std.specs.Ordering.{nat_cmp}
use Rattle.lang_base.specs.declared.outcome.Limits.{Limits}
use Rattle.lang_base.specs.declared.outcome.Outcome.{Outcome}
use Rattle.code_instrs.specs.declared.code.Code.{Code}
use Rattle.code_instrs.specs.Plain.{PlainCode, plain_code}
use Rattle.exec_task.specs.Halts.{IsWidthBounded}
use Rattle.exec_world.specs.Ready.{IsReady}
use Rattle.exec_world.specs.declared.world.World.{World}
use Rattle.exec_machine.specs.declared.halted.Halted.{Halted}
use Rattle.exec_machine.specs.declared.halted.Halted.TheVariants as halted
use Rattle.exec_machine.specs.declared.run.Run.{Run}
use Rattle.exec_machine.specs.declared.slot.Slot.{Slot}
use Rattle.exec_machine.specs.Running.{Running, GoesOne, AllGo, AllStand}
use Rattle.exec_machine.specs.Replay.{Moment, Moves, LeadsTo, Opens}
use Rattle.exec_machine.specs.Premise.{GoesOn, CanProgress}
use Rattle.exec_machine.specs.Keeping.{Keeps, CanStep, with_slots, Played, IsReplayed, WhyHalted, WhyHaltedAt, IsAfter, Plays}

-- tasks that go on
pub all_go : (C : PlainCode) (m : Moment) → GoesOn C m → AllGo C m.tasks
all_go C m g k = by_case (m.tasks k) refl
  where
    by_case : (o : Option Running) → m.tasks k ≡ o → GoesOne C k o
    by_case None is = tt
    by_case (Some t) is = g.all_go k t is

module _ (code : Code) (L : Limits) (argument : ℤ) where
  abbrev pub played : Run → Played
  played r = record { code = code; limits = L; argument = argument; schedule = r.schedule; world = r.world; outcome = r.outcome }

  abbrev seen_with : List ℕ → World → Option Outcome → Played
  seen_with schedule world outcome = record { code = code; limits = L; argument = argument; schedule = schedule; world = world; outcome = outcome }

  -- a run at its start
  pub plays_first : (r : Run) (m : Moment) → Opens code L argument m → (AllGo (plain_code code) m.tasks → Keeps (plain_code code) r m) → r.schedule ≡ []
      → CanProgress code L argument → All IsWidthBounded code.sites → Plays code L argument r
  plays_first r m opens keeps none goes few = record {
    moment = m;
    leads = subst (λ ks. LeadsTo code L argument (reverse ks) m) (sym none) opens;
    keeps = keeps (all_go (plain_code code) m (goes [] m opens));
    goes = goes;
    few = few;
  }

  abbrev pub is_replayed : (r : Run) → Plays code L argument r → IsReplayed (played r)
  is_replayed r p = record { moment = p.moment; leads = p.leads; world = p.keeps.world; outcome = p.keeps.outcome }

  -- a ready task of a run that hasn't finished can step
  pub can_step : (r : Run) (p : Plays code L argument r) (k : ℕ) → r.outcome ≡ None → IsReady r.world k → CanStep code L r p.moment k
  can_step r p k unfinished ready = record {
    has_next = record {
      keeps = p.keeps;
      goes = p.goes (reverse r.schedule) p.moment p.leads;
      unfinished = sym p.keeps.outcome ∙ unfinished;
      ready = subst (λ w. IsReady w k) p.keeps.world ready;
    };
    later = λ n moves. p.goes (k ∷ reverse r.schedule) n (p.moment, p.leads, moves);
  }

  -- after a step, and where it wasn't made
  pub plays_on : (old new : Run) (p : Plays code L argument old) (k : ℕ) (n : Moment) → Moves code L p.moment k n → Keeps (plain_code code) new n
      → new.schedule ≡ old.schedule ++ k ∷ [] → Plays code L argument new
  plays_on old new p k n moves keeps noted = record {
    moment = n;
    leads = subst (λ ks. LeadsTo code L argument ks n) (sym (ap reverse noted ∙ reverse-append old.schedule (k ∷ []))) (p.moment, p.leads, moves);
    keeps = keeps;
    goes = p.goes;
    few = p.few;
  }

  pub plays_still : (old new : Run) (p : Plays code L argument old) → Keeps (plain_code code) new p.moment → new.schedule ≡ old.schedule → Plays code L argument new
  plays_still old new p keeps same = record {
    moment = p.moment;
    leads = subst (λ ks. LeadsTo code L argument (reverse ks) p.moment) (sym same) p.leads;
    keeps = keeps;
    goes = p.goes;
    few = p.few;
  }

  -- the tasks for which those stand that are kept
  abbrev pub kept_tasks : (r : Run) → Plays code L argument r → (tasks : ℕ → Option Running) × AllGo (plain_code code) tasks × AllStand (plain_code code) r.slots tasks
  kept_tasks r p = (p.moment.tasks, all_go (plain_code code) p.moment (p.goes (reverse r.schedule) p.moment p.leads), p.keeps.stand)

  -- with slots that stand for the same
  pub plays_with : (r : Run) (slots : FinMap nat_cmp Slot) (p : Plays code L argument r)
      → ((tasks : ℕ → Option Running) → AllGo (plain_code code) tasks → AllStand (plain_code code) r.slots tasks → AllStand (plain_code code) slots tasks)
      → Plays code L argument (with_slots r slots)
  plays_with r slots p same =
      let kept = kept_tasks r p in
      plays_still r (with_slots r slots) p (record { world = p.keeps.world; outcome = p.keeps.outcome; stand = same kept.0 kept.1 kept.2 }) refl

  pub is_after : (old new : Run) (p : Plays code L argument old) (k : ℕ) (n : Moment) → Moves code L p.moment k n → Keeps (plain_code code) new n
      → new.schedule ≡ old.schedule ++ k ∷ [] → IsAfter (played old) k (played new)
  is_after old new p k n moves keeps noted = record {
    code = refl;
    limits = refl;
    argument = refl;
    schedule = noted;
    replayed = is_replayed old p;
    next = n;
    moves = moves;
    world = keeps.world;
    outcome = keeps.outcome;
  }

  pub is_same : (old new : Run) (p : Plays code L argument old) → Keeps (plain_code code) new p.moment → new.schedule ≡ old.schedule → played new ≡ played old
  is_same old new p keeps same =
      ap (λ s. seen_with s new.world new.outcome) same
      ∙ ap (λ w. seen_with old.schedule w new.outcome) (keeps.world ∙ sym p.keeps.world)
      ∙ ap (λ o. seen_with old.schedule old.world o) (keeps.outcome ∙ sym p.keeps.outcome)

  pub why_at : (r : Run) (p : Plays code L argument r) (k : ℕ) (h : Halted) → WhyHalted (plain_code code) p.moment k h → WhyHaltedAt (played r) k h
  why_at r p k halted.Stuck why = record { replayed = is_replayed r p; stuck = why }
  why_at r p k halted.NoMemory why = tt

-- a fact for the other answer
pub on_err : {T E : Type 0} (r : Result T E) (Q : Type 0) → Q → OnErr r Q
on_err (Ok x) Q q = tt
on_err (Err e) Q q = q
