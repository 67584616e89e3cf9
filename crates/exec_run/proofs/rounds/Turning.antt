-- Turns and rounds, one after another.
use Rattle.std.proofs.Common.{arith, ◌≡◌, ◌<◌, ◌≤◌, ◌+◌, ℕ, List, [], ◌∷◌, ◌++◌, length, reverse, Some, None, Option, IsSome, refl, subst, sym, ap, ◌∙◌}
use Rattle.std.proofs.lemmas.Bool.{false≢true}
use Rattle.std.proofs.lemmas.List.{reverse-append, append_assoc, append-nil, length-append}
use Rattle.exec_world.specs.Ready.{IsReady, NoneReady}
use Rattle.exec_machine.specs.Keeping.{Played, WhyHaltedAt}
use Rattle.exec_machine.specs.declared.halted.Halted.{Halted}
use Rattle.exec_run.specs.rounds.Rounds.{AreReady, IsTurn, finished, not_ready, made, HadTurns, IsRound, TurnsBreakOff}
use Rattle.exec_run.proofs.rounds.Collecting.{nothing, first-in}

pub not_some : {X : Type 0} (o : Option X) → (IsSome o → ⊥) → o ≡ None
not_some None none = refl
not_some (Some x) none = absurd (none refl)

turns_more : (a b c : Played) (ks : List ℕ) (k : ℕ) → HadTurns a ks b → IsTurn b k c → HadTurns a (ks ++ k ∷ []) c
turns_more a b c [] k same turn = (c, subst (λ p. IsTurn p k c) same turn, refl)
turns_more a b c (j ∷ ks) k turns turn = (turns.0, turns.1, turns_more turns.0 b c ks k turns.2 turn)

-- of these tasks all but those that are left have had their turns
pub record HasTurned (before : Played) (tasks left : List ℕ) (now : Played) : Type 0 where
  pub done : List ℕ
  pub are : tasks ≡ done ++ left
  pub turns : HadTurns before done now

last_first : (old new : List ℕ) (task : ℕ) → old ≡ new ++ task ∷ [] → reverse old ≡ task ∷ reverse new
last_first old new task is = ap reverse is ∙ reverse-append new (task ∷ [])

module _ (before : Played) (tasks : List ℕ) where
  pub none_turned : HasTurned before tasks tasks before
  none_turned = record { done = []; are = refl; turns = refl }

  module _ (now : Played) (old : List ℕ) (some : HasTurned before tasks (reverse old) now) where
    pub one_turned : (new : List ℕ) (task : ℕ) (after : Played) → old ≡ new ++ task ∷ [] → IsTurn now task after → HasTurned before tasks (reverse new) after
    one_turned new task after is turn = record {
      done = some.done ++ task ∷ [];
      are = some.are ∙ ap (λ (ks : List ℕ). some.done ++ ks) (last_first old new task is) ∙ sym (append_assoc some.done (task ∷ []) (reverse new));
      turns = turns_more before now after some.done task some.turns turn;
    }

    pub all_turned : old ≡ [] → HadTurns before tasks now
    all_turned is = subst (λ ks. HadTurns before ks now)
        (sym (some.are ∙ ap (λ (ks : List ℕ). some.done ++ reverse ks) is ∙ append-nil some.done)) some.turns

    pub not_turned : (new : List ℕ) (task : ℕ) (after : Played) (h : Halted) → old ≡ new ++ task ∷ [] → after ≡ now → WhyHaltedAt now task h
        → TurnsBreakOff before tasks after h
    not_turned new task after h is same why = record {
      done = some.done;
      task = task;
      left = reverse new;
      are = some.are ∙ ap (λ (ks : List ℕ). some.done ++ ks) (last_first old new task is);
      turns = subst (HadTurns before some.done) (sym same) some.turns;
      why = subst (λ p. WhyHaltedAt p task h) (sym same) why;
    }

-- the schedule grows, and by a round in which a task is ready it grows longer
longer : (ks ls : List ℕ) (k : ℕ) → ls ≡ ks ++ k ∷ [] → length ls ≡ length ks + 1
longer ks ls k is = ap length is ∙ length-append ks (k ∷ [])

turn_grows : (a b : Played) (k : ℕ) → IsTurn a k b → length a.schedule ≤ length b.schedule
turn_grows a _ k (finished some) = omega arith
turn_grows a _ k (not_ready not) = omega arith
turn_grows a _ k (made b unfinished ready after) = omega (arith, longer a.schedule b.schedule k after.schedule)

pub turns_grow : (a b : Played) (ks : List ℕ) → HadTurns a ks b → length a.schedule ≤ length b.schedule
turns_grow a b [] same = omega (arith, ap (λ (p : Played). length p.schedule) same)
turns_grow a b (k ∷ ks) turns = omega (arith, turn_grows a turns.0 k turns.1, turns_grow turns.0 b ks turns.2)

is_made : (a b : Played) (k : ℕ) → a.outcome ≡ None → IsReady a.world k → IsTurn a k b → length a.schedule < length b.schedule
is_made a _ k unfinished ready (finished some) = absurd (false≢true (subst IsSome unfinished some))
is_made a _ k unfinished ready (not_ready not) = absurd (not ready)
is_made a _ k unfinished ready (made b _ _ after) = omega (arith, longer a.schedule b.schedule k after.schedule)

pub round_grows : (a b : Played) → IsRound a b → (NoneReady a.world → ⊥) → length a.schedule < length b.schedule
round_grows a b round some = by_case round.tasks round.ready round.turns
  where
    by_case : (ks : List ℕ) → AreReady a.world ks → HadTurns a ks b → length a.schedule < length b.schedule
    by_case [] are turns = absurd (some (λ q r. nothing q ((are.all q).1 r)))
    by_case (k ∷ ks) are turns =
        omega (arith, is_made a turns.0 k round.unfinished ((are.all k).0 (first-in k ks)) turns.1, turns_grow turns.0 b ks turns.2)
