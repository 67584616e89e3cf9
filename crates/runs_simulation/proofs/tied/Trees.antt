-- How the tie of the live tasks goes on over an event of one of them after which it is still there.
use Rattle.std.proofs.Common.{◌≡◌, ◌≢◌, ◌⊎◌, inl, inr, ⊎_elim, ℕ, ◌+◌, if◌then◌else◌, ℤ, Bool, true, false, cond, [], ◌∷◌, length, refl, sym, ap, ◌∙◌, subst, Option, Some, None, slice_get, arith}
use Rattle.std.proofs.lemmas.Bool.Decides.{eqb_tells}
use Rattle.std.specs.Cmp.{nat_cmp_total}
use Rattle.std.specs.FinMap.{get, remove, get-remove}
use Rattle.std.specs.Ordering.{nat_cmp, eq_by_cmp}
use Rattle.lang_base.specs.declared.outcome.Limits.{Limits}
use Rattle.lang_typed.specs.Plain.{PlainProgram}
use Rattle.code_instrs.specs.Plain.{PlainCode}
use Rattle.runs_theory.specs.Actions.{Program, Rule}
use Rattle.runs_theory.specs.Objects.{Path}
use Rattle.runs_theory.specs.Runs.{Begun, Event, Follows, Run, Upto, branch, entry_step, event_cells, event_steps, later, mine, root}
use Rattle.runs_theory.specs.Schedules.{Numbered, branch_is, one_begin, root_is}
use Rattle.runs_theory.proofs.events.Cost.{total_step}
use Rattle.runs_theory.proofs.events.Mine.{mine_other, mine_same, path_cases}
use Rattle.runs_theory.proofs.events.Numbers.{begins_step, number_same}
use Rattle.runs_theory.proofs.events.Upto.{upto_none}
use Rattle.exec_tasks.specs.Tree.{Tasks, changed, changed_to}
use Rattle.exec_tasks.specs.declared.task.Origin.{Origin}
use Rattle.exec_tasks.specs.declared.task.Task.{Task as Live}
use Rattle.exec_tasks.proofs.Numbers.{get_inserted, get_beside, itself as number_itself, other_number}
use Rattle.exec_machine.specs.Replay.{Moment, with_task}
use Rattle.exec_machine.specs.Running.{Running}
use Rattle.runs_simulation.proofs.alike.Sights.{Sight, Wider}
use Rattle.runs_simulation.proofs.tied.Heaps.{HeapTied}
use Rattle.runs_simulation.proofs.tied.Outs.{OutLive, out_later}
use Rattle.runs_simulation.proofs.tied.Ties.{Q, TaskTied, ScopeTied, BranchTied, OriginTied, LiveTied, NumbersTied, CostsTied, Tied, task_later, scope_later}

-- tasks with one in the place of what was there
pub placed : (base : ℕ → Option Running) (i : ℕ) (o : Option Running) (q : ℕ) → q ≡ i → with_task base i o q ≡ o
placed base i o q same = elim (eqb_tells q i) [
  | inl x ↦ ap (λ b. if b then o else base q) x.0
  | inr x ↦ absurd (x.1 same)
]

pub beside : (base : ℕ → Option Running) (i : ℕ) (o : Option Running) (q : ℕ) → q ≢ i → with_task base i o q ≡ base q
beside base i o q apart = elim (eqb_tells q i) [
  | inl x ↦ absurd (apart x.1)
  | inr x ↦ ap (λ b. if b then o else base q) x.0
]

pub changed_own : (tasks : Tasks) (k : ℕ) (f : Live → Live) {x : Live} → get tasks k ≡ Some x → get (changed tasks k f) k ≡ Some (f x)
changed_own tasks k f {x} e = ap (λ o. get (changed_to tasks k o f) k) e ∙ get_inserted tasks k (f x)

pub changed_other : (tasks : Tasks) (k : ℕ) (f : Live → Live) {x : Live} (j : ℕ) → get tasks k ≡ Some x → j ≢ k → get (changed tasks k f) j ≡ get tasks j
changed_other tasks k f {x} j e apart = ap (λ o. get (changed_to tasks k o f) j) e ∙ get_beside tasks k j (f x) apart

-- without a task
pub removed_tells : (tasks : Tasks) (k j : ℕ) {x : Live} → get (remove tasks k) j ≡ Some x → (j ≢ k) × (get tasks j ≡ Some x)
removed_tells tasks k j {x} e = go (eq_by_cmp nat_cmp j k) refl (sym (get-remove nat_cmp_total tasks k j) ∙ e)
  where
    go : (b : Bool) → eq_by_cmp nat_cmp j k ≡ b → cond b None (get tasks j) ≡ Some x → (j ≢ k) × (get tasks j ≡ Some x)
    go true i f = absurd (cc)
    go false i f = (λ same. (let is = subst (λ z. eq_by_cmp nat_cmp z k ≡ true) (sym same) (number_itself k) in cc), f)

pub removed_other : (tasks : Tasks) (k j : ℕ) → j ≢ k → get (remove tasks k) j ≡ get tasks j
removed_other tasks k j apart = get-remove nat_cmp_total tasks k j ∙ ap (λ b. cond b None (get tasks j)) (other_number j k apart)

pub numbered_later : {R : Run} {k : ℕ} {p : Path} (e : Event) → Numbered R k p → Numbered (e ∷ R) k p
numbered_later e (root_is a b) = root_is a b
numbered_later e (branch_is q u G g a b c d n k) = branch_is q u G g a (later b) c d n k

-- the entry of the root has been paid with the first event, which is the root's
pub entered_next : {P : Program} {R : Run} (e : Event) → Follows P R e → (entry_step (mine R []) ≡ 1) ⊎ (R ≡ []) → entry_step (mine (e ∷ R) []) ≡ 1
entered_next {P} {R} e f (inl h) = ⊎_elim
    (λ is. ap entry_step (mine_same e R [] is))
    (λ apart. ap entry_step (mine_other e R [] apart) ∙ h) (path_cases e.path [])
entered_next {P} {R} e f (inr h) = ap entry_step (mine_same e R [] (first f.begun h))
  where
    first : {p : Path} → Begun P R p f.task → R ≡ [] → p ≡ []
    first (root a b) z = a
    first (branch q u F g ts B k a b c d e s h i j m) z = absurd (upto_none (subst (λ S. Upto (g ∷ F) S) z b))

-- the numbers stay, over an event that begins no branch
pub numbers_kept : {P : Program} {v w : Sight} {R : Run} {a b : ℕ} (e : Event) → Follows P R e → one_begin e.act ≡ 0 → Wider v w → w.paths ≡ v.paths → b ≡ a
    → NumbersTied v R a → NumbersTied w (e ∷ R) b
numbers_kept {P} {v} {w} {R} e follows no_begin wide paths same N = record {
  many = ap length paths ∙ N.many ∙ sym same;
  count = (let b = N.count in let c = begins_step e R in omega (arith, same, b, c, no_begin));
  numbered = λ j p h. numbered_later e (N.numbered j p (subst (λ ps. slice_get ps j ≡ Some p) paths h));
  entered = inl (entered_next {P = P} e follows N.entered);
}

-- one task has one number
module _ {w : Sight} {R : Run} {begun : ℕ} (N : NumbersTied w R begun) where
  pub apart_paths : (j k : ℕ) (p q : Path) → slice_get w.paths j ≡ Some p → slice_get w.paths k ≡ Some q → j ≢ k → p ≡ q → ⊥
  apart_paths j k p q a b apart same = apart (number_same (N.numbered j p a) (subst (λ z. Numbered R k z) (sym same) (N.numbered k q b)))

-- no path is that of a task below it
pub above_apart : (u : ℕ × ℕ) (p q : Path) → p ≡ u ∷ q → q ≡ p → ⊥
above_apart u p q e f = (let l = ap (λ z. length z) (f ∙ e) in omega (arith, l))

pub path_one : (w : Sight) (k : ℕ) {p q : Path} → slice_get w.paths k ≡ Some p → slice_get w.paths k ≡ Some q → p ≡ q
path_one w k {p} {q} a b = (let same : Some p ≡ Some q = sym a ∙ b in cc)

module _ (P : PlainProgram) (arg : ℤ) (rule : Rule) (C : PlainCode) (L : Limits) where
  -- the costs after an event
  pub record Costs (m n : Moment) (e : Event) : Type 0 where
    pub steps : n.world.steps ≡ m.world.steps + event_steps e
    pub cells : n.world.heap.used ≡ m.world.heap.used + event_cells e
    pub most_steps : n.world.most_steps ≡ m.world.most_steps
    pub most_cells : n.world.heap.limit ≡ m.world.heap.limit

  pub costs_next : (m n : Moment) {R : Run} (e : Event) → Costs m n e → CostsTied P arg rule C L R m.world → CostsTied P arg rule C L (e ∷ R) n.world
  costs_next m n {R} e c h = record {
    steps = (let a = c.steps in let b = h.steps in let t = total_step event_steps e R in omega (arith, a, b, t));
    cells = (let a = c.cells in let b = h.cells in let t = total_step event_cells e R in omega (arith, a, b, t));
    most_steps = c.most_steps ∙ h.most_steps;
    most_cells = c.most_cells ∙ h.most_cells;
  }

  -- where a branch came from, over an event of a task that isn't its parent
  module _ {v w : Sight} (wide : Wider v w) {R : Run} {begun : ℕ} (N : NumbersTied v R begun) (e : Event) (k : ℕ) (own : slice_get v.paths k ≡ Some e.path)
      (old new : Tasks) where
    pub branch_later : (p : Path) (x : Origin) → x.parent ≢ k → get new x.parent ≡ get old x.parent → BranchTied P arg rule C v R old p x
        → BranchTied P arg rule C w (e ∷ R) new p x
    branch_later p x apart same h = record {
      above = h.above;
      step = h.step;
      is = h.is;
      there = wide.paths x.parent h.above h.there;
      branch = h.branch;
      parent = h.parent;
      parent_is = same ∙ h.parent_is;
      scope = h.scope;
      state = h.state;
      unended = h.unended;
      number = h.number ∙ ap length (sym (mine_other e R h.above (λ same. apart_paths N x.parent k h.above e.path h.there own apart (sym same))));
    }

    pub origin_later : (p : Path) (o : Option Origin) → ((x : Origin) → o ≡ Some x → (x.parent ≢ k) × (get new x.parent ≡ get old x.parent))
        → OriginTied P arg rule C v R old p o → OriginTied P arg rule C w (e ∷ R) new p o
    origin_later p None apart h = h
    origin_later p (Some x) apart h = branch_later p x (apart x refl).0 (apart x refl).1 h

    -- another task
    pub live_with : {running new_running : ℕ → Option Running} (j : ℕ) (x : Live) → j ≢ k → new_running j ≡ running j
        → (V : LiveTied P arg rule C v R old running j x) → OriginTied P arg rule C w (e ∷ R) new V.path x.origin → LiveTied P arg rule C w (e ∷ R) new new_running j x
    live_with j x apart same V origin = record {
      path = V.path;
      there = wide.paths j V.path V.there;
      runs = V.runs;
      runs_so = same ∙ V.runs_so;
      task = task_later P arg rule C wide R e away V.task;
      origin = origin;
      scope = scope_later P arg rule C wide R e V.path V.runs.state x.state away (let t = total_step event_steps e R in omega (arith, t)) V.scope;
      out = out_later R e V.path V.runs.state x.out x.state away V.out;
    }
      where
        away : e.path ≡ V.path → ⊥
        away is = apart_paths N j k V.path e.path V.there own apart (sym is)

    -- another task that isn't its branch
    pub live_later : {running new_running : ℕ → Option Running} (j : ℕ) (x : Live) → j ≢ k
        → ((o : Origin) → x.origin ≡ Some o → (o.parent ≢ k) × (get new o.parent ≡ get old o.parent))
        → new_running j ≡ running j → LiveTied P arg rule C v R old running j x → LiveTied P arg rule C w (e ∷ R) new new_running j x
    live_later j x apart childless same V = live_with j x apart same V (origin_later V.path x.origin childless V.origin)

  -- a task isn't its own parent
  pub not_itself : (v : Sight) (R : Run) (tasks : Tasks) (k : ℕ) {p : Path} → slice_get v.paths k ≡ Some p → (o : Option Origin) → OriginTied P arg rule C v R tasks p o
      → (z : Origin) → o ≡ Some z → z.parent ≢ k
  not_itself v R tasks k there None h z is same = absurd (cc)
  not_itself v R tasks k {p} there (Some u) h z is same =
      let uz : u ≡ z = cc in
      above_apart h.step p h.above h.is (path_one v k (subst (λ j. slice_get v.paths j ≡ Some h.above) (ap (λ (o : Origin). o.parent) uz ∙ same) h.there) there)

  -- an event of a task that goes on, and begins no branch
  module _ (m n : Moment) {v w : Sight} {R : Run} (T : Tied P arg rule C L m v R) (k : ℕ) (x y : Live) (x_is : get m.world.tree.tasks k ≡ Some x)
      (wide : Wider v w) (paths : w.paths ≡ v.paths) (e : Event) (own : slice_get v.paths k ≡ Some e.path) (follows : Follows (Q P arg rule C) R e)
      (no_begin : one_begin e.act ≡ 0) (heap : HeapTied (Q P arg rule C) w (e ∷ R) n.world.heap.objects) (begun_same : n.world.tree.begun ≡ m.world.tree.begun)
      (others : (j : ℕ) → j ≢ k → get n.world.tree.tasks j ≡ get m.world.tree.tasks j) (y_is : get n.world.tree.tasks k ≡ Some y) (origin_same : y.origin ≡ x.origin)
      (beside_it : (j : ℕ) → j ≢ k → n.tasks j ≡ m.tasks j) (t : Running) (t_is : n.tasks k ≡ Some t) (task : TaskTied P arg rule C w (e ∷ R) e.path t)
      (scope : ScopeTied P arg rule C w (e ∷ R) e.path t.state y.state) (out : OutLive (e ∷ R) e.path t.state y.out y.state)
      (childless : (j : ℕ) (z : Live) (o : Origin) → j ≢ k → get m.world.tree.tasks j ≡ Some z → z.origin ≡ Some o → o.parent ≢ k)
      (costs : Costs m n e) where
    V : LiveTied P arg rule C v R m.world.tree.tasks m.tasks k x
    V = T.live k x x_is

    own_path : V.path ≡ e.path
    own_path = path_one v k V.there own

    itself : LiveTied P arg rule C w (e ∷ R) n.world.tree.tasks n.tasks k y
    itself = record {
      path = e.path;
      there = wide.paths k e.path own;
      runs = t;
      runs_so = t_is;
      task = task;
      origin = subst (λ o. OriginTied P arg rule C w (e ∷ R) n.world.tree.tasks e.path o) (sym origin_same)
          (origin_later wide T.numbers e k own m.world.tree.tasks n.world.tree.tasks e.path x.origin (λ z is. (not_itself v R m.world.tree.tasks k V.there x.origin V.origin z is, others z.parent (not_itself v R m.world.tree.tasks k V.there x.origin V.origin z is)))
          (subst (λ p. OriginTied P arg rule C v R m.world.tree.tasks p x.origin) own_path V.origin));
      scope = scope;
      out = out;
    }

    live_next : (j : ℕ) (z : Live) → get n.world.tree.tasks j ≡ Some z → LiveTied P arg rule C w (e ∷ R) n.world.tree.tasks n.tasks j z
    live_next j z h = elim (eqb_tells j k) [
      | inl s ↦ (let is : get n.world.tree.tasks k ≡ Some z = subst (λ i. get n.world.tree.tasks i ≡ Some z) s.1 h in
          let same : y ≡ z = (let both : Some y ≡ Some z = sym y_is ∙ is in cc) in
          subst (λ i. LiveTied P arg rule C w (e ∷ R) n.world.tree.tasks n.tasks i z) (sym s.1)
          (subst (λ z. LiveTied P arg rule C w (e ∷ R) n.world.tree.tasks n.tasks k z) same itself))
      | inr s ↦ (let before : get m.world.tree.tasks j ≡ Some z = sym (others j s.1) ∙ h in
          live_later wide T.numbers e k own m.world.tree.tasks n.world.tree.tasks j z s.1 (λ o is. (childless j z o s.1 before is, others o.parent (childless j z o s.1 before is))) (beside_it j s.1) (T.live j z before))
    ]

    pub plain_next : Tied P arg rule C L n w (e ∷ R)
    plain_next = record {
      heap = heap;
      numbers = numbers_kept {P = Q P arg rule C} e follows no_begin wide paths begun_same T.numbers;
      costs = costs_next m n e costs T.costs;
      faithful = (follows, T.faithful);
      live = live_next;
    }
