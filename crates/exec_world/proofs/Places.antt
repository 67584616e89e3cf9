-- Where tasks are in the queues, through changes of these and through an event of a task.
use Rattle.std.proofs.Common.{arith, zero, suc, ◌≡◌, ◌≢◌, ◌⊎◌, inl, inr, ◌<◌, ℕ, refl, sym, ap, subst, ◌∙◌, Bool, true, false, not, cond, ◌&&◌, ◌||◌, ◌==◌, nat_lt, length, List, [], Option, Some, None, is_some, IsTrue, true≢false, rules, Result, Ok, Err, OnOk}
use Rattle.std.specs.Result.{is_err}
use Rattle.std.specs.Ordering.{nat_cmp}
use Rattle.std.specs.Cmp.{nat_cmp_total}
use Rattle.std.specs.FinMap.{FinMap, empty, get, insert, remove, get-empty, get-remove}
use Rattle.lang_base.specs.declared.effect.Effect.{Effect}
use Rattle.code_instrs.specs.declared.code.Code.{Code}
use Rattle.exec_task.specs.declared.action.Action.{Action}
use Rattle.exec_task.specs.declared.action.Action.TheVariants as action
use Rattle.exec_task.specs.declared.action.Own.TheVariants as own
use Rattle.exec_locks.specs.declared.standing.Standing.{Standing}
use Rattle.exec_locks.specs.declared.standing.Standing.TheVariants.{Opener, Adopted}
use Rattle.exec_locks.specs.Locks.{Standings, is_inside, opened_for, block_interferes, HasEntry, is_inner, is_outermost, entered, entered_from, exited, exited_from, adopted, shallower}
use Rattle.exec_tasks.specs.declared.task.Origin.{Origin}
use Rattle.exec_tasks.specs.declared.task.State.{State}
use Rattle.exec_tasks.specs.declared.task.State.TheVariants.{Running, Forked}
use Rattle.exec_tasks.specs.declared.task.Task.{Task}
use Rattle.exec_tasks.specs.declared.end.TaskEnd.{TaskEnd}
use Rattle.exec_tasks.specs.Scope.{Branches, all_ended}
use Rattle.exec_tasks.specs.Tree.{Tree, Tasks, OfTask, OfScope, Runs as RunsInTree, CanBegin, CanJoin, ready, state_ready, is_ready, task_at, changed, changed_to, end_noted, with_task, origin_of, end_of, forked, joined, printed, fresh, next_origin, only_root}
use Rattle.exec_tasks.proofs.Numbers.{itself, other_number, get_inserted, get_beside}
use Rattle.exec_world.proofs.Maps.{same_or_apart}
use Rattle.exec_world.specs.Words.{Has}
use Rattle.exec_world.specs.Queues.{HasUnder, Runs, Waits, NoneWaits, HasPlace, AllHavePlaces, Keeps, KeepsOthers, IsPutAside, AdmitsAt, Admits, RunsSome, parent_in, parent_of, is_end}
use Rattle.exec_world.specs.Queues.HasPlace.{runs, unready, hindered}
use Rattle.exec_world.specs.Ready.{IsReady, IsFreeFor, IsHindrance, IsHindered}
use Rattle.exec_world.specs.Waits.{Waiting, wanted}
use Rattle.exec_world.specs.World.{Fits, FitsAt, world_after, CanEnter, IsOutside, acted_at, adopted_by, rested, trap_in, slots_in}
use Rattle.exec_world.specs.declared.event.Event.{Event}
use Rattle.exec_world.specs.declared.queues.Queues.{Queues}
use Rattle.exec_world.specs.declared.world.World.{World}

module _ {A : Type 0} where
  taken_beside : (m : FinMap nat_cmp A) (k q : ℕ) → q ≢ k → get (remove m k) q ≡ get m q
  taken_beside m k q apart = get-remove nat_cmp_total m k q ∙ ap (λ b. cond b None (get m q)) (other_number q k apart)

  taken_out : (m : FinMap nat_cmp A) (k : ℕ) → get (remove m k) k ≡ None
  taken_out m k = get-remove nat_cmp_total m k k ∙ ap (λ b. cond b None (get m k)) (itself k)

changed_beside : (tasks : Tasks) (k q : ℕ) (change : Task → Task) → q ≢ k → get (changed tasks k change) q ≡ get tasks q
changed_beside tasks k q change apart = at (get tasks k)
  where
    at : (o : Option Task) → get (changed_to tasks k o change) q ≡ get tasks q
    at None = refl
    at (Some t) = get_beside tasks k q (change t) apart

-- a change after which each task is ready that was
ready_changed : (tasks : Tasks) (k q : ℕ) (change : Task → Task) → ((t : Task) → state_ready (change t).state ≡ state_ready t.state)
    → ready (get (changed tasks k change) q) ≡ ready (get tasks q)
ready_changed tasks k q change keeps = at (get tasks k) refl (same_or_apart q k)
  where
    at : (o : Option Task) → get tasks k ≡ o → (q ≡ k) ⊎ (q ≢ k) → ready (get (changed_to tasks k o change) q) ≡ ready (get tasks q)
    at None is where_ = refl
    at (Some t) is (inl same) =
        ap (λ n. ready (get (insert tasks k (change t)) n)) same ∙ ap ready (get_inserted tasks k (change t)) ∙ keeps t
        ∙ sym (ap ready is) ∙ ap (λ n. ready (get tasks n)) (sym same)
    at (Some t) is (inr apart) = ap ready (get_beside tasks k q (change t) apart)

-- tasks that could go on
running_ready : (o : Option Task) → OfTask o (λ task. task.state ≡ Running) → ready o ≡ true
running_ready None h = absurd h
running_ready (Some t) h = ap state_ready h

begins : (s : State) → OfScope s (λ scope. length scope.ends < scope.count) → state_ready s ≡ true
begins Running h = absurd h
begins (Forked scope) h = open_scope (nat_lt (length scope.ends) scope.count) (all_ended scope) (less scope h)
  where
    open_scope : (a b : Bool) → a ≡ true → (a || b) ≡ true
    open_scope true b e = refl
    open_scope false b e = absurd (true≢false (sym e))

    less : (scope : Branches) → length scope.ends < scope.count → nat_lt (length scope.ends) scope.count ≡ true
    less scope lt = search rules

begin_ready : (o : Option Task) → OfTask o (λ task. OfScope task.state (λ scope. length scope.ends < scope.count)) → ready o ≡ true
begin_ready None h = absurd h
begin_ready (Some t) h = begins t.state h

joins : (s : State) → OfScope s (λ scope. IsTrue (not (nat_lt (length scope.ends) scope.count)) × IsTrue (all_ended scope)) → state_ready s ≡ true
joins Running h = absurd h
joins (Forked scope) h = ended (nat_lt (length scope.ends) scope.count) (all_ended scope) h.1
  where
    ended : (a b : Bool) → b ≡ true → (a || b) ≡ true
    ended true b e = refl
    ended false b e = e

join_ready : (o : Option Task) → OfTask o (λ task. OfScope task.state (λ scope. IsTrue (not (nat_lt (length scope.ends) scope.count)) × IsTrue (all_ended scope))) → ready o ≡ true
join_ready None h = absurd h
join_ready (Some t) h = joins t.state h

-- what hinders
last_of : (a b c : Bool) → (a && b && c) ≡ true → c ≡ true
last_of true true c e = e
last_of true false c e = absurd (true≢false (sym e))
last_of false b c e = absurd (true≢false (sym e))

block_of : (locks : Standings) (q h : ℕ) (wants : List Effect) → IsHindrance locks q wants h → block_interferes (get locks h) wants ≡ true
block_of locks q h wants x = last_of (not (h == q)) (not (opened_for (get locks q) h)) (block_interferes (get locks h) wants) x.itself

-- a hindrance stays where the task and the block stand as before
stays_hindered : (locks new : Standings) (q h : ℕ) (wants : List Effect) → get new q ≡ get locks q → block_interferes (get new h) wants ≡ block_interferes (get locks h) wants
    → IsHindrance locks q wants h → IsHindrance new q wants h
stays_hindered locks new q h wants task block x = record {
  outside = ap is_some task ∙ x.outside;
  itself =
      ap (λ o. not (h == q) && not (opened_for o h) && block_interferes (get new h) wants) task
      ∙ ap (λ b. not (h == q) && not (opened_for (get locks q) h) && b) block ∙ x.itself;
}

wants_none : (standing : Option Standing) → block_interferes standing [] ≡ true → ⊥
wants_none None e = true≢false (sym e)
wants_none (Some (Opener effects depth)) e = true≢false (sym e)
wants_none (Some (Adopted opener depth)) e = true≢false (sym e)

-- a task that is hindered isn't ready
not_free : (locks : Standings) (q h : ℕ) (o : Option (List Effect)) → IsHindrance locks q (wanted o) h → IsFreeFor locks q o → ⊥
not_free locks q h None x free = wants_none (get locks h) (block_of locks q h [] x)
not_free locks q h (Some wants) x (inl inside) = true≢false (sym inside ∙ x.outside)
not_free locks q h (Some wants) x (inr none) = true≢false (sym x.itself ∙ none h)

pub not_ready : (w : World) (q h : ℕ) → IsHindered w q h → IsReady w q → ⊥
not_ready w q h x r = not_free w.locks q h (get w.waits q) x r.1

can_enter : (locks : Standings) (q : ℕ) (o : Option (List Effect)) → CanEnter locks q o → IsFreeFor locks q o
can_enter locks q None can = absurd can
can_enter locks q (Some wants) can = can

has_entry : (o : Option Standing) → HasEntry o → is_some o ≡ true
has_entry None h = absurd h
has_entry (Some s) h = refl

-- changes of the queues
module _ (tree : Tree) (locks : Standings) (waits : Waiting) (old new : Queues) (q : ℕ) where
  pub kept : Keeps old new → HasPlace tree locks waits old q → HasPlace tree locks waits new q
  kept keeps (runs r) = runs (keeps.run q r)
  kept keeps (unready u) = unready u
  kept keeps (hindered h w x) = moved (keeps.wait h q w)
    where
      moved : Waits new h q ⊎ Runs new q → HasPlace tree locks waits new q
      moved (inl waits_still) = hindered h waits_still x
      moved (inr r) = runs r

  pub apart_kept : (task : ℕ) → KeepsOthers task old new → q ≢ task → HasPlace tree locks waits old q → HasPlace tree locks waits new q
  apart_kept task keeps apart (runs r) = runs (keeps.run q apart r)
  apart_kept task keeps apart (unready u) = unready u
  apart_kept task keeps apart (hindered h w x) = hindered h (keeps.wait h q w) x

  pub forgotten : (task : ℕ) → KeepsOthers task old new → is_ready tree task ≡ false → HasPlace tree locks waits old q → HasPlace tree locks waits new q
  forgotten task keeps never place = by_case (same_or_apart q task)
    where
      by_case : (q ≡ task) ⊎ (q ≢ task) → HasPlace tree locks waits new q
      by_case (inl same) = unready (ap (is_ready tree) same ∙ never)
      by_case (inr apart) = apart_kept task keeps apart place

  pub aside : (task holder : ℕ) → IsPutAside task holder old new → IsHindrance locks task (wanted (get waits task)) holder
      → HasPlace tree locks waits old q → HasPlace tree locks waits new q
  aside task holder put x place = by_case (same_or_apart q task) place
    where
      itself_put : (p : ℕ) → p ≡ task → Runs old p → HasPlace tree locks waits new p
      itself_put p same r = either (put.itself (subst (Runs old) same r))
        where
          either : Runs new task ⊎ Waits new holder task → HasPlace tree locks waits new p
          either (inl still) = runs (subst (Runs new) (sym same) still)
          either (inr waiting) =
              hindered holder (subst (Waits new holder) (sym same) waiting) (subst (λ n. IsHindrance locks n (wanted (get waits n)) holder) (sym same) x)

      by_case : (q ≡ task) ⊎ (q ≢ task) → HasPlace tree locks waits old q → HasPlace tree locks waits new q
      by_case (inl same) (runs r) = itself_put q same r
      by_case (inl same) (unready u) = unready u
      by_case (inl same) (hindered h w y) = hindered h (put.others.wait h q w) y
      by_case (inr apart) there = apart_kept task put.others apart there

-- what isn't in the run queue isn't ready
pub absent : (w : World) (queues : Queues) (q : ℕ) → HasPlace w.tree w.locks w.waits queues q → (Runs queues q → ⊥) → IsReady w q → ⊥
absent w queues q (runs r) never is = never r
absent w queues q (unready u) never is = true≢false (sym is.0 ∙ u)
absent w queues q (hindered h waiting x) never is = not_ready w q h x is

-- a place stays where the task's readiness in the tree does, and what hinders it
place_moves : (tree tree2 : Tree) (locks locks2 : Standings) (waits waits2 : Waiting) (queues : Queues) (q : ℕ)
    → (is_ready tree q ≡ false → is_ready tree2 q ≡ false)
    → ((h : ℕ) → Waits queues h q → IsHindrance locks q (wanted (get waits q)) h → IsHindrance locks2 q (wanted (get waits2 q)) h)
    → HasPlace tree locks waits queues q → HasPlace tree2 locks2 waits2 queues q
place_moves tree tree2 locks locks2 waits waits2 queues q tree_moves hinders_still (runs r) = runs r
place_moves tree tree2 locks locks2 waits waits2 queues q tree_moves hinders_still (unready u) = unready (tree_moves u)
place_moves tree tree2 locks locks2 waits waits2 queues q tree_moves hinders_still (hindered h w x) = hindered h w (hinders_still h w x)

module _ (w : World) (queues : Queues) (task q : ℕ) (places : HasPlace w.tree w.locks w.waits queues q) where
  -- where the tree alone changes, and only this task, which was ready there
  in_tree : (tree : Tree) → is_ready w.tree task ≡ true → (q ≢ task → is_ready tree q ≡ is_ready w.tree q) → HasPlace tree w.locks w.waits queues q
  in_tree tree was beside = place_moves w.tree tree w.locks w.locks w.waits w.waits queues q (λ u. by_case u (same_or_apart q task)) (λ h waiting x. x) places
    where
      by_case : is_ready w.tree q ≡ false → (q ≡ task) ⊎ (q ≢ task) → is_ready tree q ≡ false
      by_case u (inl same) = absurd (true≢false (sym was ∙ ap (is_ready w.tree) (sym same) ∙ u))
      by_case u (inr apart) = beside apart ∙ u

  after_rest : (wants : Option (List Effect)) → Runs queues task → HasPlace w.tree w.locks (rested w.waits task wants) queues q
  after_rest None run = places
  after_rest (Some wants) run = by_case (same_or_apart q task)
    where
      by_case : (q ≡ task) ⊎ (q ≢ task) → HasPlace w.tree w.locks (insert w.waits task wants) queues q
      by_case (inl same) = runs (subst (Runs queues) (sym same) run)
      by_case (inr apart) =
          place_moves w.tree w.tree w.locks w.locks w.waits (insert w.waits task wants) queues q (λ u. u)
          (λ h waiting x. subst (λ o. IsHindrance w.locks q (wanted o) h) (sym (get_beside w.waits task q wants apart)) x) places

  after_print : (bytes : List ℕ) → HasPlace (printed w.tree task bytes) w.locks w.waits queues q
  after_print bytes =
      place_moves w.tree (printed w.tree task bytes) w.locks w.locks w.waits w.waits queues q (λ u. ready_changed w.tree.tasks task q _ (λ t. refl) ∙ u)
      (λ h waiting x. x) places

  after_fork : (many : ℕ) → RunsInTree w.tree.tasks task → HasPlace (forked w.tree task many) w.locks w.waits queues q
  after_fork many runs_there = in_tree (forked w.tree task many) (running_ready (get w.tree.tasks task) runs_there) (λ apart. ap ready (changed_beside w.tree.tasks task q _ apart))

  after_join : CanJoin w.tree.tasks task → HasPlace (joined w.tree task) w.locks w.waits queues q
  after_join can = in_tree (joined w.tree task) (join_ready (get w.tree.tasks task) can) (λ apart. ap ready (changed_beside w.tree.tasks task q _ apart))

  -- the block that the task opened, an entry deeper
  deeper : (wants others : List Effect) (o : Option Standing) → get w.locks task ≡ o → block_interferes o others ≡ true
      → block_interferes (get (entered_from w.locks task wants o) task) others ≡ block_interferes o others
  deeper wants others None is e = absurd (true≢false (sym e))
  deeper wants others (Some (Opener effects depth)) is e = ap (λ o. block_interferes o others) (get_inserted w.locks task _)
  deeper wants others (Some (Adopted opener depth)) is e = absurd (true≢false (sym e))

  entered_beside : (wants : List Effect) (k : ℕ) (o : Option Standing) → k ≢ task → get (entered_from w.locks task wants o) k ≡ get w.locks k
  entered_beside wants k None apart = get_beside w.locks task k _ apart
  entered_beside wants k (Some s) apart = get_beside w.locks task k _ apart

  after_enter : CanEnter w.locks task (get w.waits task)
      → HasPlace w.tree (entered w.locks task (wanted (get w.waits task))) (remove w.waits task) queues q
  after_enter can =
      place_moves w.tree w.tree w.locks (entered w.locks task (wanted (get w.waits task))) w.waits (remove w.waits task) queues q (λ u. u)
      (λ h waiting x. by_case h x (same_or_apart q task) (same_or_apart h task)) places
    where
      new : Standings
      new = entered w.locks task (wanted (get w.waits task))

      block : (h : ℕ) (others : List Effect) → block_interferes (get w.locks h) others ≡ true → (h ≡ task) ⊎ (h ≢ task)
          → block_interferes (get (entered w.locks task (wanted (get w.waits task))) h) others ≡ block_interferes (get w.locks h) others
      block h others e (inl same) =
          subst (λ n. block_interferes (get (entered w.locks task (wanted (get w.waits task))) n) others ≡ block_interferes (get w.locks n) others) (sym same)
          (deeper (wanted (get w.waits task)) others (get w.locks task) refl (subst (λ n. block_interferes (get w.locks n) others ≡ true) same e))
      block h others e (inr apart) = ap (λ o. block_interferes o others) (entered_beside (wanted (get w.waits task)) h (get w.locks task) apart)

      by_case : (h : ℕ) → IsHindrance w.locks q (wanted (get w.waits q)) h → (q ≡ task) ⊎ (q ≢ task) → (h ≡ task) ⊎ (h ≢ task)
          → IsHindrance (entered w.locks task (wanted (get w.waits task))) q (wanted (get (remove w.waits task) q)) h
      by_case h x (inl same) holder =
          absurd (not_free w.locks task h (get w.waits task) (subst (λ n. IsHindrance w.locks n (wanted (get w.waits n)) h) same x)
          (can_enter w.locks task (get w.waits task) can))
      by_case h x (inr apart) holder =
          subst (λ o. IsHindrance (entered w.locks task (wanted (get w.waits task))) q (wanted o) h) (sym (taken_beside w.waits task q apart))
          (stays_hindered w.locks (entered w.locks task (wanted (get w.waits task))) q h (wanted (get w.waits q))
          (entered_beside (wanted (get w.waits task)) q (get w.locks task) apart)
          (block h (wanted (get w.waits q)) (block_of w.locks q h (wanted (get w.waits q)) x) holder) x)

  -- the block that the task opened, an entry less
  shallow : (others : List Effect) (o : Option Standing) → HasEntry o → is_outermost o ≡ false
      → block_interferes (get (exited_from w.locks task o) task) others ≡ block_interferes o others
  shallow others None has outer = absurd has
  shallow others (Some s) has outer = by_case s (is_inner s) refl outer
    where
      same_block : (s : Standing) → block_interferes (Some (shallower s)) others ≡ block_interferes (Some s) others
      same_block (Opener effects depth) = refl
      same_block (Adopted opener depth) = refl

      by_case : (s : Standing) (b : Bool) → is_inner s ≡ b → not b ≡ false
          → block_interferes (get (cond b (insert w.locks task (shallower s)) (remove w.locks task)) task) others ≡ block_interferes (Some s) others
      by_case s true is inner = ap (λ o. block_interferes o others) (get_inserted w.locks task (shallower s)) ∙ same_block s
      by_case s false is inner = absurd (true≢false inner)

  exited_beside : (k : ℕ) (o : Option Standing) → k ≢ task → get (exited_from w.locks task o) k ≡ get w.locks k
  exited_beside k None apart = refl
  exited_beside k (Some s) apart = by_case (is_inner s)
    where
      by_case : (b : Bool) → get (cond b (insert w.locks task (shallower s)) (remove w.locks task)) k ≡ get w.locks k
      by_case true = get_beside w.locks task k _ apart
      by_case false = taken_beside w.locks task k apart

  after_exit : HasEntry (get w.locks task) → (is_outermost (get w.locks task) ≡ true → NoneWaits queues task) → HasPlace w.tree (exited w.locks task) w.waits queues q
  after_exit has woken =
      place_moves w.tree w.tree w.locks (exited w.locks task) w.waits w.waits queues q (λ u. u)
      (λ h waiting x. by_case h waiting x (same_or_apart q task) (same_or_apart h task)) places
    where
      block : (h : ℕ) (others : List Effect) → Waits queues h q → (b : Bool) → is_outermost (get w.locks task) ≡ b → (h ≡ task) ⊎ (h ≢ task)
          → block_interferes (get (exited w.locks task) h) others ≡ block_interferes (get w.locks h) others
      block h others waiting b is (inr apart) = ap (λ o. block_interferes o others) (exited_beside h (get w.locks task) apart)
      block h others waiting true is (inl same) = absurd (woken is q (subst (λ n. Waits queues n q) same waiting))
      block h others waiting false is (inl same) =
          subst (λ n. block_interferes (get (exited w.locks task) n) others ≡ block_interferes (get w.locks n) others) (sym same)
          (shallow others (get w.locks task) has is)

      by_case : (h : ℕ) → Waits queues h q → IsHindrance w.locks q (wanted (get w.waits q)) h → (q ≡ task) ⊎ (q ≢ task) → (h ≡ task) ⊎ (h ≢ task)
          → IsHindrance (exited w.locks task) q (wanted (get w.waits q)) h
      by_case h waiting x (inl same) holder =
          absurd (true≢false (sym (has_entry (get w.locks task) has) ∙ ap (is_inside w.locks) (sym same) ∙ x.outside))
      by_case h waiting x (inr apart) holder =
          stays_hindered w.locks (exited w.locks task) q h (wanted (get w.waits q)) (exited_beside q (get w.locks task) apart)
          (block h (wanted (get w.waits q)) waiting (is_outermost (get w.locks task)) refl holder) x

  adopted_beside : (k : ℕ) (b : Bool) → k ≢ w.tree.begun → get (cond b (adopted w.locks task w.tree.begun) w.locks) k ≡ get w.locks k
  adopted_beside k true apart = get_beside w.locks w.tree.begun k _ apart
  adopted_beside k false apart = refl

  nobody : (o : Option Standing) (others : List Effect) → is_some o ≡ false → block_interferes o others ≡ true → ⊥
  nobody None others out e = true≢false (sym e)
  nobody (Some s) others out e = true≢false out

  after_begin : CanBegin w.tree.tasks task → IsOutside w.locks w.tree.begun → Runs queues w.tree.begun
      → HasPlace (with_task w.tree task) (adopted_by w.locks task w.tree.begun) w.waits queues q
  after_begin can out run = by_case (same_or_apart q w.tree.begun)
    where
      tree_moves : q ≢ w.tree.begun → is_ready w.tree q ≡ false → (q ≡ task) ⊎ (q ≢ task) → is_ready (with_task w.tree task) q ≡ false
      tree_moves new u (inl same) = absurd (true≢false (sym (begin_ready (get w.tree.tasks task) can) ∙ ap (is_ready w.tree) (sym same) ∙ u))
      tree_moves new u (inr apart) =
          ap ready (changed_beside (insert w.tree.tasks w.tree.begun (fresh (next_origin task (task_at w.tree task)))) task q _ apart)
          ∙ ap ready (get_beside w.tree.tasks w.tree.begun q _ new) ∙ u

      other : (h : ℕ) → IsHindrance w.locks q (wanted (get w.waits q)) h → h ≢ w.tree.begun
      other h x same =
          nobody (get w.locks w.tree.begun) (wanted (get w.waits q)) out
          (subst (λ n. block_interferes (get w.locks n) (wanted (get w.waits q)) ≡ true) same (block_of w.locks q h (wanted (get w.waits q)) x))

      by_case : (q ≡ w.tree.begun) ⊎ (q ≢ w.tree.begun) → HasPlace (with_task w.tree task) (adopted_by w.locks task w.tree.begun) w.waits queues q
      by_case (inl same) = runs (subst (Runs queues) (sym same) run)
      by_case (inr new) =
          place_moves w.tree (with_task w.tree task) w.locks (adopted_by w.locks task w.tree.begun) w.waits w.waits queues q
          (λ u. tree_moves new u (same_or_apart q task))
          (λ h waiting x. stays_hindered w.locks (adopted_by w.locks task w.tree.begun) q h (wanted (get w.waits q))
          (adopted_beside q (is_inside w.locks task) new)
          (ap (λ o. block_interferes o (wanted (get w.waits q))) (adopted_beside h (is_inside w.locks task) (other h x))) x) places

-- a task that has ended
ended_unready : (tree : Tree) (task : ℕ) (o : Option Origin) (how : TaskEnd) → is_ready (end_noted tree task o how) task ≡ false
ended_unready tree task None how = ap ready (taken_out tree.tasks task)
ended_unready tree task (Some origin) how = by_case (same_or_apart task origin.parent)
  where
    at : (o : Option Task) (k : ℕ) (change : Task → Task) → get (remove tree.tasks task) k ≡ o → task ≡ k
        → ready (get (changed_to (remove tree.tasks task) k o change) task) ≡ false
    at None k change is same = ap ready (taken_out tree.tasks task)
    at (Some t) k change is same = cc (taken_out tree.tasks task, ap (get (remove tree.tasks task)) same)

    by_case : (task ≡ origin.parent) ⊎ (task ≢ origin.parent) → is_ready (end_noted tree task (Some origin) how) task ≡ false
    by_case (inl same) = at (get (remove tree.tasks task) origin.parent) origin.parent _ refl same
    by_case (inr apart) = ap ready (changed_beside (remove tree.tasks task) origin.parent task _ apart ∙ taken_out tree.tasks task)

ended_beside : (queues : Queues) (tree : Tree) (task q : ℕ) (o : Option Origin) (how : TaskEnd) → q ≢ task
    → RunsSome queues (parent_in o) → Runs queues q ⊎ (is_ready (end_noted tree task o how) q ≡ is_ready tree q)
ended_beside queues tree task q None how apart run = inr (ap ready (taken_beside tree.tasks task q apart))
ended_beside queues tree task q (Some origin) how apart run = by_case (same_or_apart q origin.parent)
  where
    by_case : (q ≡ origin.parent) ⊎ (q ≢ origin.parent) → Runs queues q ⊎ (is_ready (end_noted tree task (Some origin) how) q ≡ is_ready tree q)
    by_case (inl same) = inl (subst (Runs queues) (sym same) run)
    by_case (inr other) =
        inr (ap ready (changed_beside (remove tree.tasks task) origin.parent q _ other ∙ taken_beside tree.tasks task q apart))

after_end : (w : World) (queues : Queues) (task q : ℕ) → HasPlace w.tree w.locks w.waits queues q → (how : TaskEnd)
    → RunsSome queues (parent_of w.tree task) → NoneWaits queues task
    → HasPlace (end_noted w.tree task (origin_of (task_at w.tree task)) how) (remove w.locks task) w.waits queues q
after_end w queues task q places how run woken = by_case (same_or_apart q task)
  where
    new : Tree
    new = end_noted w.tree task (origin_of (task_at w.tree task)) how

    hinders_still : q ≢ task → (h : ℕ) → Waits queues h q → IsHindrance w.locks q (wanted (get w.waits q)) h
        → IsHindrance (remove w.locks task) q (wanted (get w.waits q)) h
    hinders_still apart h waiting x =
        stays_hindered w.locks (remove w.locks task) q h (wanted (get w.waits q)) (taken_beside w.locks task q apart)
        (ap (λ o. block_interferes o (wanted (get w.waits q)))
        (taken_beside w.locks task h (λ same. woken q (subst (λ n. Waits queues n q) same waiting)))) x

    beside : q ≢ task → Runs queues q ⊎ (is_ready (end_noted w.tree task (origin_of (task_at w.tree task)) how) q ≡ is_ready w.tree q)
        → HasPlace (end_noted w.tree task (origin_of (task_at w.tree task)) how) (remove w.locks task) w.waits queues q
    beside apart (inl r) = runs r
    beside apart (inr same) =
        place_moves w.tree (end_noted w.tree task (origin_of (task_at w.tree task)) how) w.locks (remove w.locks task) w.waits w.waits queues q (λ u. same ∙ u)
        (hinders_still apart) places

    by_case : (q ≡ task) ⊎ (q ≢ task) → HasPlace (end_noted w.tree task (origin_of (task_at w.tree task)) how) (remove w.locks task) w.waits queues q
    by_case (inl same) =
        unready (ap (is_ready (end_noted w.tree task (origin_of (task_at w.tree task)) how)) same ∙ ended_unready w.tree task (origin_of (task_at w.tree task)) how)
    by_case (inr apart) = beside apart (ended_beside queues w.tree task q (origin_of (task_at w.tree task)) how apart run)

-- each task has a place after an action, if what may become ready by it is in the run queue
pub acts : (C : Code) (w : World) (queues : Queues) (task q : ℕ) (wants : Option (List Effect)) (a : Action) → FitsAt w task wants a → AdmitsAt w queues task a
    → HasPlace w.tree w.locks w.waits queues q
    → HasPlace (acted_at C w task wants a).tree (acted_at C w task wants a).locks (acted_at C w task wants a).waits queues q
acts C w queues task q wants (action.Do own.Rest) fits admits place = after_rest w queues task q place wants admits
acts C w queues task q wants (action.Do (own.Print bytes)) fits admits place = after_print w queues task q place bytes
acts C w queues task q wants (action.Do (own.Enter effects)) fits admits place = after_enter w queues task q place fits
acts C w queues task q wants (action.Do own.Exit) fits admits place = after_exit w queues task q place fits admits
acts C w queues task q wants (action.Do o) fits admits place = place
acts C w queues task q wants (action.Fork forking many) fits admits place = after_fork w queues task q place many fits.0
acts C w queues task q wants (action.Begin b) fits admits place = after_begin w queues task q place fits.0 fits.2 admits
acts C w queues task q wants action.Join fits admits place = after_join w queues task q place fits
acts C w queues task q wants (action.End e) fits admits place =
    after_end w queues task q place (end_of (task_at w.tree task) (trap_in e) (slots_in e)) admits.0 admits.1

pub ended : (C : Code) (w : World) (task : ℕ) (wants : Option (List Effect)) (a : Action) → is_end a ≡ true → is_ready (acted_at C w task wants a).tree task ≡ false
ended C w task wants (action.End e) is = ended_unready w.tree task (origin_of (task_at w.tree task)) (end_of (task_at w.tree task) (trap_in e) (slots_in e))
ended C w task wants a is = absurd (true≢false (sym is))

pub all_kept : (w : World) (old new : Queues) → Keeps old new → AllHavePlaces w old → AllHavePlaces w new
all_kept w old new keeps places q = kept w.tree w.locks w.waits old new q keeps (places q)

-- the same queues
pub run_again : (old new : Queues) → new.run ≡ old.run → new.wait ≡ old.wait → Keeps old new
run_again old new run wait = record {
  run = λ q r. subst (λ ws. Has ws q) (sym run) r;
  wait = λ h q waiting. inl (subst (λ sets. HasUnder sets h q) (sym wait) waiting);
}

pub acted_places : (C : Code) (w : World) (old new : Queues) (e : Event) → Fits w e → Keeps old new → Admits w new e → AllHavePlaces w old
    → AllHavePlaces (world_after C w e) new
acted_places C w old new e fits keeps admits places q = acts C w new e.task q e.wants e.action fits admits (all_kept w old new keeps places q)

pub on_ok : {T E : Type 0} (r : Result T E) (P : Type 0) → is_err r ≡ false → OnOk r P → P
on_ok (Ok x) P e holds = holds
on_ok (Err x) P e holds = absurd (true≢false e)

-- where the root alone has begun and is in the run queue, each task has its place
pub opened_places : (w : World) (queues : Queues) → w.tree ≡ only_root → Runs queues 0 → AllHavePlaces w queues
opened_places w queues root in_queue zero = runs in_queue
opened_places w queues root in_queue (suc n) =
    unready (subst (λ t. is_ready t (suc n) ≡ false) (sym root) (ap ready (get_beside empty 0 (suc n) (fresh None) (λ e. omega (arith, e)) ∙ get-empty nat_cmp (suc n))))
