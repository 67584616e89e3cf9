-- The numbers of a machine's schedule have 32 bits.
use Rattle.std.proofs.Common.{ℕ, ℤ, ◌+◌, ◌<◌, ◌≤◌, ◌^◌, IsTrue, true, List, [], ◌∷◌, ◌++◌, reverse, Option, Some, None, sym, subst, arith}
use Rattle.std.proofs.lemmas.Bool.{false≢true}
use Rattle.std.proofs.lemmas.List.{reverse-append, reverse-reverse}
use Rattle.std.specs.FinMap.{empty, get, get-empty, insert, remove}
use Rattle.std.specs.List.{AllByRecursion}
use Rattle.std.specs.Ordering.{nat_cmp}
use Rattle.lang_base.specs.declared.effect.Effect.{Effect}
use Rattle.lang_base.specs.declared.outcome.Limits.{Limits}
use Rattle.code_instrs.specs.declared.code.Code.{Code}
use Rattle.exec_task.specs.declared.action.Action.{Action}
use Rattle.exec_task.specs.declared.action.Action.TheVariants as action
use Rattle.exec_task.specs.declared.action.Own.TheVariants as own
use Rattle.exec_tasks.specs.declared.end.TaskEnd.{TaskEnd}
use Rattle.exec_tasks.specs.declared.task.Origin.{Origin}
use Rattle.exec_tasks.specs.declared.task.Task.{Task}
use Rattle.exec_tasks.specs.Scope.{with_branch, with_end}
use Rattle.exec_tasks.specs.Tree.{Tree, OfEach, changed, end_noted, end_of, forked_task, fresh, is_ready, joined_task, next_origin, only_root, origin_of, printed_task, ready, task_at, with_scope}
use Rattle.exec_tasks.proofs.Numbers.{each_changed, each_inserted, each_removed}
use Rattle.exec_world.specs.World.{FitsAt, acted_at, slots_in, trap_in}
use Rattle.exec_world.specs.declared.world.World.{World}
use Rattle.exec_machine.specs.Replay.{LeadsTo, Moment, Moves, made, no_room, opened, over}

abbrev Below : ℕ → ℕ → Task → Type 0
Below begun q task = q < begun

-- the live tasks have numbers below the count of those that have begun, which has 32 bits
pub record Counted (tree : Tree) : Type 0 where
  pub below : (q : ℕ) → OfEach (task_at tree q) (λ task. q < tree.begun)
  pub few : tree.begun ≤ 4294967295

weaker : (begun q : ℕ) (o : Option Task) → OfEach o (Below begun q) → OfEach o (Below (begun + 1) q)
weaker begun q None h = tt
weaker begun q (Some t) h = omega arith

at_first : Counted only_root
at_first = record {
  below = each_inserted (Below 1) empty 0 (fresh None) (λ q. subst (λ o. OfEach o (Below 1 q)) (sym (get-empty nat_cmp q)) tt) (omega arith);
  few = omega arith;
}

after_change : (tree : Tree) (k : ℕ) (change : Task → Task) → Counted tree → (q : ℕ) → OfEach (get (changed tree.tasks k change) q) (Below tree.begun q)
after_change tree k change c = each_changed (Below tree.begun) tree.tasks k change (λ t h. h) c.below

after_end : (tree : Tree) (k : ℕ) (o : Option Origin) (how : TaskEnd) → Counted tree → Counted (end_noted tree k o how)
after_end tree k None how c = record { below = each_removed (Below tree.begun) tree.tasks k c.below; few = c.few }
after_end tree k (Some origin) how c = record {
  below = each_changed (Below tree.begun) (remove tree.tasks k) origin.parent (with_scope (λ scope. with_end scope origin.step.branch how)) (λ t h. h)
      (each_removed (Below tree.begun) tree.tasks k c.below);
  few = c.few;
}

after_action : (code : Code) (w : World) (k : ℕ) (wants : Option (List Effect)) (a : Action) → FitsAt w k wants a → Counted w.tree → Counted (acted_at code w k wants a).tree
after_action code w k wants (action.Do (own.Print bytes)) fits c = record { below = after_change w.tree k (printed_task bytes) c; few = c.few }
after_action code w k wants (action.Do o) fits c = c
after_action code w k wants (action.Fork forking many) fits c = record { below = after_change w.tree k (forked_task many) c; few = c.few }
after_action code w k wants (action.Begin b) fits c =
    let small : w.tree.begun < 4294967295 = fits.1 in record {
      below = each_changed (Below (w.tree.begun + 1)) (insert w.tree.tasks w.tree.begun (fresh (next_origin k (task_at w.tree k)))) k (with_scope with_branch) (λ t h. h)
          (each_inserted (Below (w.tree.begun + 1)) w.tree.tasks w.tree.begun (fresh (next_origin k (task_at w.tree k)))
          (λ q. weaker w.tree.begun q (task_at w.tree q) (c.below q)) (omega arith));
      few = omega (arith, small);
    }
after_action code w k wants action.Join fits c = record { below = after_change w.tree k joined_task c; few = c.few }
after_action code w k wants (action.End e) fits c = after_end w.tree k (origin_of (task_at w.tree k)) (end_of (task_at w.tree k) (trap_in e) (slots_in e)) c

pub counted : (code : Code) (L : Limits) (arg : ℤ) (ks : List ℕ) (m : Moment) → LeadsTo code L arg ks m → Counted m.world.tree
counted code L arg [] m (opened room is) = subst (λ (n : Moment). Counted n.world.tree) (sym is) at_first
counted code L arg [] m (no_room full is) = subst (λ (n : Moment). Counted n.world.tree) (sym is) at_first
counted code L arg (k ∷ ks) m (before, leads, made e x can within is) =
    subst (λ (n : Moment). Counted n.world.tree) (sym is) (after_action code before.world e.task e.wants e.action can.fits (counted code L arg ks before leads))
counted code L arg (k ∷ ks) m (before, leads, over e x can beyond is) = subst (λ (n : Moment). Counted n.world.tree) (sym is) (counted code L arg ks before leads)

-- so a task that can go on has a number of 32 bits
pub ready_below : (tree : Tree) (k : ℕ) → Counted tree → IsTrue (is_ready tree k) → k < tree.begun
ready_below tree k c goes_on = at (task_at tree k) goes_on (c.below k)
  where
    at : (o : Option Task) → IsTrue (ready o) → OfEach o (Below tree.begun k) → k < tree.begun
    at None r h = absurd (false≢true r)
    at (Some t) r h = h

all_small : (code : Code) (L : Limits) (arg : ℤ) (ks : List ℕ) (m : Moment) → LeadsTo code L arg ks m → AllByRecursion (λ k. k < 2 ^ 32) ks
all_small code L arg [] m leads = tt
all_small code L arg (k ∷ ks) m (before, leads, moves) = (number moves, all_small code L arg ks before leads)
  where
    small : IsTrue (is_ready before.world.tree k) → k < 2 ^ 32
    small goes_on =
        let c = counted code L arg ks before leads in
        let few : before.world.tree.begun ≤ 4294967295 = c.few in
        let below = ready_below before.world.tree k c goes_on in omega (arith, few, below)

    number : Moves code L before k m → k < 2 ^ 32
    number (made e x can within is) = small x.ready.0
    number (over e x can beyond is) = small x.ready.0

all_append : (xs ys : List ℕ) → AllByRecursion (λ k. k < 2 ^ 32) xs → AllByRecursion (λ k. k < 2 ^ 32) ys → AllByRecursion (λ k. k < 2 ^ 32) (xs ++ ys)
all_append [] ys a b = b
all_append (x ∷ xs) ys a b = (a.0, all_append xs ys a.1 b)

all_reversed : (xs : List ℕ) → AllByRecursion (λ k. k < 2 ^ 32) xs → AllByRecursion (λ k. k < 2 ^ 32) (reverse xs)
all_reversed [] h = tt
all_reversed (x ∷ xs) h =
    subst (AllByRecursion (λ k. k < 2 ^ 32)) (sym (reverse-append (x ∷ []) xs)) (all_append (reverse xs) (x ∷ []) (all_reversed xs h.1) (h.0, tt))

-- the numbers of a schedule in the order of the run
pub schedule_small : (code : Code) (L : Limits) (arg : ℤ) (schedule : List ℕ) (m : Moment) → LeadsTo code L arg (reverse schedule) m → AllByRecursion (λ k. k < 2 ^ 32) schedule
schedule_small code L arg schedule m leads =
    subst (AllByRecursion (λ k. k < 2 ^ 32)) (reverse-reverse schedule) (all_reversed (reverse schedule) (all_small code L arg (reverse schedule) m leads))
