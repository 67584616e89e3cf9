-- A branch that a scope says to run is live.
use Rattle.std.proofs.Common.{◌≡◌, ◌≢◌, ◌⊎◌, inl, inr, ⊎_elim, ℕ, zero, suc, ◌-◌, List, [], ◌∷◌, refl, sym, ap, ◌∙◌, Option, Some, None, slice_get, arith}
use Rattle.std.proofs.lemmas.Bool.Decides.{eqb_tells}
use Rattle.std.specs.FinMap.{get, insert, remove}
use Rattle.exec_tasks.specs.Scope.{Branches as Scope, no_branch_yet, put_end, with_branch, with_end}
use Rattle.exec_tasks.specs.Tree.{Tasks, Tree, branches_begun, changed, changed_to, end_noted, forked_task, fresh, in_scope, joined_task, next_origin, origin_of, printed_task, task_at, with_scope}
use Rattle.exec_tasks.specs.declared.end.TaskEnd.{TaskEnd}
use Rattle.exec_tasks.specs.declared.task.Origin.{Origin}
use Rattle.exec_tasks.specs.declared.task.State.{State}
use Rattle.exec_tasks.specs.declared.task.State.TheVariants.{Running, Forked}
use Rattle.exec_tasks.specs.declared.task.Task.{Task as Live}
use Rattle.exec_tasks.proofs.Numbers.{get_inserted, get_beside}
use Rattle.runs_simulation.proofs.tied.Heaps.{last_cases}
use Rattle.runs_simulation.proofs.tied.Trees.{changed_other, removed_other, removed_tells}

pub record Branch (tasks : Tasks) (k b : ℕ) : Type 0 where
  pub number : ℕ
  pub task : Live
  pub there : get tasks number ≡ Some task
  pub origin : Origin
  pub origin_is : task.origin ≡ Some origin
  pub parent : origin.parent ≡ k
  pub branch : origin.step.branch ≡ b

abbrev pub AllBranch : Tasks → Type 0
AllBranch tasks = (k b : ℕ) (x : Live) (scope : Scope) → get tasks k ≡ Some x → x.state ≡ Forked scope → slice_get scope.ends b ≡ Some None → Branch tasks k b

-- where a task keeps its origin, it stays a branch
pub branch_on : (tasks : Tasks) (k : ℕ) (f : Live → Live) → ((z : Live) → (f z).origin ≡ z.origin) → {i b : ℕ} → Branch tasks i b → Branch (changed tasks k f) i b
branch_on tasks k f same {i} {b} B = go (get tasks k) refl
  where
    go : (o : Option Live) → get tasks k ≡ o → Branch (changed_to tasks k o f) i b
    go None e = B
    go (Some y) e = elim (eqb_tells B.number k) [
      | inl s ↦ (let is : y ≡ B.task = (let both : Some y ≡ Some B.task = sym e ∙ ap (λ i. get tasks i) (sym s.1) ∙ B.there in cc) in record {
        number = k;
        task = f y;
        there = get_inserted tasks k (f y);
        origin = B.origin;
        origin_is = same y ∙ ap (λ (z : Live). z.origin) is ∙ B.origin_is;
        parent = B.parent;
        branch = B.branch;
      })
      | inr s ↦ record {
        number = B.number;
        task = B.task;
        there = get_beside tasks k B.number (f y) s.1 ∙ B.there;
        origin = B.origin;
        origin_is = B.origin_is;
        parent = B.parent;
        branch = B.branch;
      }
    ]

-- a task of the changed ones is another one, or the one that was changed
abbrev Changed_case : Tasks → ℕ → (Live → Live) → ℕ → Live → Type 0
Changed_case tasks k f i x = ((i ≢ k) × (get tasks i ≡ Some x)) ⊎ ((i ≡ k) × (y : Live) × (get tasks k ≡ Some y) × (x ≡ f y))

changed_cases : (tasks : Tasks) (k : ℕ) (f : Live → Live) (i : ℕ) (x : Live) → get (changed tasks k f) i ≡ Some x → Changed_case tasks k f i x
changed_cases tasks k f i x h = go (get tasks k) refl h
  where
    go : (o : Option Live) → get tasks k ≡ o → get (changed_to tasks k o f) i ≡ Some x → Changed_case tasks k f i x
    go None e h = inl ((λ s. (let both : None ≡ Some x = sym e ∙ ap (λ i. get tasks i) (sym s) ∙ h in cc)), h)
    go (Some y) e h = elim (eqb_tells i k) [
      | inl s ↦ inr (s.1, y, e, (let both : Some (f y) ≡ Some x = sym (get_inserted tasks k (f y)) ∙ ap (λ i. get (insert tasks k (f y)) i) (sym s.1) ∙ h in let same : f y ≡ x = cc in sym same))
      | inr s ↦ inl (s.1, sym (get_beside tasks k i (f y) s.1) ∙ h)
    ]

-- a task is changed, and its scope stays, or none is open, or no branch of it has begun
pub branches_changed : (tasks : Tasks) (k : ℕ) (f : Live → Live) → ((z : Live) → (f z).origin ≡ z.origin)
    → ((z : Live) (scope : Scope) (b : ℕ) → (f z).state ≡ Forked scope → slice_get scope.ends b ≡ Some None → z.state ≡ Forked scope) → AllBranch tasks
    → AllBranch (changed tasks k f)
branches_changed tasks k f same kept all i b x scope h s e = ⊎_elim
    (λ old. branch_on tasks k f same (all i b x scope old.1 s e))
    (λ c. branch_on tasks k f same (all i b c.1 scope (ap (λ i. get tasks i) c.0 ∙ c.2) (kept c.1 scope b (ap (λ (z : Live). z.state) (sym c.3) ∙ s) e) e))
    (changed_cases tasks k f i x h)

none_begun : {n : ℕ} (b : ℕ) {scope : Scope} → Forked (no_branch_yet n) ≡ Forked scope → slice_get scope.ends b ≡ Some None → ⊥
none_begun {n} b {scope} e h =
    let same : no_branch_yet n ≡ scope = cc in
    let both : None ≡ Some None = ap (λ (s : Scope). slice_get s.ends b) same ∙ h in cc

pub branches_printed : (tasks : Tasks) (k : ℕ) (bytes : List ℕ) → AllBranch tasks → AllBranch (changed tasks k (printed_task bytes))
branches_printed tasks k bytes all = branches_changed tasks k (printed_task bytes) (λ z. refl) (λ z scope b s e. s) all

pub branches_forked : (tasks : Tasks) (k many : ℕ) → AllBranch tasks → AllBranch (changed tasks k (forked_task many))
branches_forked tasks k many all = branches_changed tasks k (forked_task many) (λ z. refl) (λ z scope b s e. absurd (none_begun b s e)) all

pub branches_joined : (tasks : Tasks) (k : ℕ) → AllBranch tasks → AllBranch (changed tasks k joined_task)
branches_joined tasks k all = branches_changed tasks k joined_task (λ z. refl) (λ z scope b s e. absurd (cc)) all

-- a branch more
pub branches_begun_too : (tasks : Tasks) (k c : ℕ) (y : Live) → get tasks k ≡ Some y → get tasks c ≡ None → k ≢ c → AllBranch tasks
    → AllBranch (changed (insert tasks c (fresh (next_origin k (get tasks k)))) k (with_scope with_branch))
branches_begun_too tasks k c y y_is absent apart all i b x scope h s e =
    ⊎_elim (λ old. at_old old.1) (λ n. at_own n.0 n.1 n.2 n.3) (changed_cases inserted k (with_scope with_branch) i x h)
  where
    child : Live
    child = fresh (next_origin k (get tasks k))

    inserted : Tasks
    inserted = insert tasks c child

    k_there : get inserted k ≡ Some y
    k_there = get_beside tasks c k child apart ∙ y_is

    carried : {j d : ℕ} → Branch tasks j d → Branch inserted j d
    carried B = record {
      number = B.number;
      task = B.task;
      there = get_beside tasks c B.number child (λ z. (let both : None ≡ Some B.task = sym absent ∙ ap (λ i. get tasks i) (sym z) ∙ B.there in cc)) ∙ B.there;
      origin = B.origin;
      origin_is = B.origin_is;
      parent = B.parent;
      branch = B.branch;
    }

    on : {j d : ℕ} → Branch inserted j d → Branch (changed inserted k (with_scope with_branch)) j d
    on B = branch_on inserted k (with_scope with_branch) (λ z. refl) B

    at_old : get inserted i ≡ Some x → Branch (changed inserted k (with_scope with_branch)) i b
    at_old old = elim (eqb_tells i c) [
      | inl z ↦ absurd (let both : Some child ≡ Some x = sym (get_inserted tasks c child) ∙ ap (λ i. get inserted i) (sym z.1) ∙ old in
          let same : child ≡ x = cc in let no : Running ≡ Forked scope = ap (λ (l : Live). l.state) same ∙ s in cc)
      | inr z ↦ on (carried (all i b x scope (sym (get_beside tasks c i child z.1) ∙ old) s e))
    ]

    at_own : i ≡ k → (u : Live) → get inserted k ≡ Some u → x ≡ with_scope with_branch u → Branch (changed inserted k (with_scope with_branch)) i b
    at_own z u u_is x_is = by_state u.state refl
      where
        same : u ≡ y
        same = (let both : Some u ≡ Some y = sym u_is ∙ k_there in cc)

        by_state : (q : State) → u.state ≡ q → Branch (changed inserted k (with_scope with_branch)) i b
        by_state Running q = absurd (let no : Running ≡ Forked scope = ap (λ s. in_scope with_branch s) (sym q) ∙ ap (λ (l : Live). l.state) (sym x_is) ∙ s in cc)
        by_state (Forked sc) q =
            let scopes : Forked (with_branch sc) ≡ Forked scope = ap (λ s. in_scope with_branch s) (sym q) ∙ ap (λ (l : Live). l.state) (sym x_is) ∙ s in
            let is : with_branch sc ≡ scope = cc in
            ⊎_elim
            (λ old. on (carried (all i b u sc (ap (λ i. get tasks i) z ∙ y_is ∙ ap (λ l. Some l) (sym same)) q old)))
            (λ last. record {
              number = c;
              task = child;
              there = changed_other inserted k (with_scope with_branch) c u_is (λ w. apart (sym w)) ∙ get_inserted tasks c child;
              origin = record { parent = k; step = record { scope = y.forks - 1; branch = branches_begun y.state } };
              origin_is = ap (λ o. next_origin k o) y_is;
              parent = sym z;
              branch = ap (λ (l : Live). branches_begun l.state) (sym same) ∙ ap branches_begun q ∙ sym last.0;
            })
            (last_cases sc.ends None None b (ap (λ (w : Scope). slice_get w.ends b) is ∙ e))

-- an end is put into its place alone
put_elsewhere : (es : List (Option TaskEnd)) (i b : ℕ) (how : TaskEnd) → slice_get (put_end es i how) b ≡ Some None → (slice_get es b ≡ Some None) × (i ≢ b)
put_elsewhere [] i b how e = absurd (cc)
put_elsewhere (None ∷ es) zero zero how e = absurd (let both : Some how ≡ None = cc in cc)
put_elsewhere (None ∷ es) zero (suc b) how e = (e, λ s. (omega (arith, s)))
put_elsewhere (Some y ∷ es) zero zero how e = absurd (let both : Some y ≡ None = cc in cc)
put_elsewhere (Some y ∷ es) zero (suc b) how e = (e, λ s. (omega (arith, s)))
put_elsewhere (None ∷ es) (suc i) zero how e = (e, λ s. (omega (arith, s)))
put_elsewhere (None ∷ es) (suc i) (suc b) how e = (let r = put_elsewhere es i b how e in (r.0, λ s. r.1 (omega (arith, s))))
put_elsewhere (Some y ∷ es) (suc i) zero how e = absurd (let both : Some y ≡ None = cc in cc)
put_elsewhere (Some y ∷ es) (suc i) (suc b) how e = (let r = put_elsewhere es i b how e in (r.0, λ s. r.1 (omega (arith, s))))

-- a task less, whose end stands in its parent's scope
pub branches_ended : (t : Tree) (k : ℕ) (y : Live) (how : TaskEnd) → get t.tasks k ≡ Some y → AllBranch t.tasks → AllBranch (end_noted t k (origin_of (task_at t k)) how).tasks
branches_ended t k y how y_is all = go (origin_of (task_at t k)) (ap origin_of (sym y_is))
  where
    -- a branch of another task, or another branch of one
    left : {i b : ℕ} → Branch t.tasks i b → ((o : Origin) → y.origin ≡ Some o → o.parent ≡ i → o.step.branch ≡ b → ⊥) → Branch (remove t.tasks k) i b
    left {i} {b} B other = record {
      number = B.number;
      task = B.task;
      there = removed_other t.tasks k B.number (λ z.
          (let same : y ≡ B.task = (let both : Some y ≡ Some B.task = sym y_is ∙ ap (λ i. get t.tasks i) (sym z) ∙ B.there in cc) in
          other B.origin (ap (λ (l : Live). l.origin) same ∙ B.origin_is) B.parent B.branch)) ∙ B.there;
      origin = B.origin;
      origin_is = B.origin_is;
      parent = B.parent;
      branch = B.branch;
    }

    go : (o : Option Origin) → y.origin ≡ o → AllBranch (end_noted t k o how).tasks
    go None o i b x scope h s e =
        left (all i b x scope (removed_tells t.tasks k i h).1 s e) (λ p f a d. (let both : None ≡ Some p = sym o ∙ f in cc))
    go (Some o) oo i b x scope h s e = ⊎_elim
        (λ old. on (left (all i b x scope (removed_tells t.tasks k i old.1).1 s e)
        (λ p f a d. old.0 (let both : Some o ≡ Some p = sym oo ∙ f in let same : o ≡ p = cc in sym (ap (λ (q : Origin). q.parent) same ∙ a)))))
        (λ n. by_state n.1 n.2 n.3 n.0 n.1.state refl)
        (changed_cases (remove t.tasks k) o.parent (with_scope (λ scope. with_end scope o.step.branch how)) i x h)
      where
        puts : Live → Live
        puts = with_scope (λ scope. with_end scope o.step.branch how)

        on : {j d : ℕ} → Branch (remove t.tasks k) j d → Branch (changed (remove t.tasks k) o.parent puts) j d
        on B = branch_on (remove t.tasks k) o.parent puts (λ z. refl) B

        by_state : (u : Live) → get (remove t.tasks k) o.parent ≡ Some u → x ≡ puts u → i ≡ o.parent → (q : State) → u.state ≡ q
            → Branch (changed (remove t.tasks k) o.parent puts) i b
        by_state u u_is x_is z Running q =
            absurd (let no : Running ≡ Forked scope = ap (λ s. in_scope (λ scope. with_end scope o.step.branch how) s) (sym q) ∙ ap (λ (l : Live). l.state) (sym x_is) ∙ s in cc)
        by_state u u_is x_is z (Forked sc) q =
            let scopes : Forked (with_end sc o.step.branch how) ≡ Forked scope =
            ap (λ s. in_scope (λ scope. with_end scope o.step.branch how) s) (sym q) ∙ ap (λ (l : Live). l.state) (sym x_is) ∙ s in
            let is : with_end sc o.step.branch how ≡ scope = cc in
            let r = put_elsewhere sc.ends o.step.branch b how (ap (λ (w : Scope). slice_get w.ends b) is ∙ e) in
            on (left (all i b u sc (ap (λ i. get t.tasks i) z ∙ (removed_tells t.tasks k o.parent u_is).1) q r.0)
            (λ p f a d. r.1 (let both : Some o ≡ Some p = sym oo ∙ f in let same : o ≡ p = cc in ap (λ (g : Origin). g.step.branch) same ∙ d)))

-- a task without an open scope had none before its branch's end, or the begin of one
pub no_scope_in : (f : Scope → Scope) (s : State) → in_scope f s ≡ Running → s ≡ Running
no_scope_in f Running e = refl
no_scope_in f (Forked scope) e = absurd (cc)

pub ended_runs : (t : Tree) (k : ℕ) (o : Option Origin) (how : TaskEnd) (j : ℕ) (x : Live) → get (end_noted t k o how).tasks j ≡ Some x → x.state ≡ Running
    → (y : Live) × (get t.tasks j ≡ Some y) × (y.state ≡ Running)
ended_runs t k None how j x h s = (x, (removed_tells t.tasks k j h).1, s)
ended_runs t k (Some o) how j x h s = ⊎_elim
    (λ old. (x, (removed_tells t.tasks k j old.1).1, s))
    (λ n. (n.1, ap (λ i. get t.tasks i) n.0 ∙ (removed_tells t.tasks k o.parent n.2).1, no_scope_in (λ scope. with_end scope o.step.branch how) n.1.state (ap (λ (l : Live). l.state) (sym n.3) ∙ s)))
    (changed_cases (remove t.tasks k) o.parent (with_scope (λ scope. with_end scope o.step.branch how)) j x h)
