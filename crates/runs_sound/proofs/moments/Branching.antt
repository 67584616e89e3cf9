-- One more event at a fork, a begin, a join or an end: branches begin where their fork says, and a join brings what their ends fit.
use Rattle.std.proofs.Common.{◌≡◌, ◌≢◌, ◌<◌, ◌≤◌, ◌+◌, ⊎_elim, inl, inr, ℕ, zero, suc, ℤ, Bool, true, false, cond, ◌&&◌, ◌==◌, List, [], ◌∷◌, ◌++◌, map, length, reverse, refl, sym, ap, ◌∙◌, subst, arith, Option, Some, None, slice_get, slice_index_or}
use Rattle.std.specs.Prelude.{All, Contains}
use Rattle.std.proofs.lemmas.Bool.{false≢true, or_cases, cond-true, cond-false, and_from, and_parts, eq-eqb, eqb-true, false_from_ne_true}
use Rattle.lang_base.specs.declared.place.Place.{Place}
use Rattle.lang_base.specs.declared.value.Trap.{Trap}
use Rattle.lang_typed.specs.declared.stmt.Forking.{Forking}
use Rattle.lang_typed.specs.Plain.{PlainProgram}
use Rattle.lang_typed.specs.Scope.{Scope, variable}
use Rattle.lang_typed.specs.Statements.{IsVariable}
use Rattle.lang_typed.specs.WellTyped.{WellTyped}
use Rattle.lang_meaning.specs.Asking.{does, ended, replied, reported}
use Rattle.lang_meaning.specs.Core.{Goes_on, Returns, run}
use Rattle.lang_meaning.specs.Counts.{brought, assigned, slot_value}
use Rattle.lang_meaning.specs.Outcomes.{first_trap, all_locals, joined_or}
use Rattle.lang_meaning.specs.Statements.{begun}
use Rattle.lang_meaning.proofs.Tasks.{asks_disciplined}
use Rattle.runs_theory.specs.Actions.{Program, Task, Branches, Action, Do, Fork, Begin, Join, End, Ending, Next, Returned, Assigned, Answer}
use Rattle.runs_theory.specs.Meaning.{Disciplined}
use Rattle.runs_theory.specs.Objects.{Path, same_path, Name, LocalRegion, Value, Null}
use Rattle.runs_theory.specs.Runs.{Event, Run, Upto, now, later, made_by, mine, answers, count, Ended, Follows, Faithful, Right, Joins}
use Rattle.runs_theory.proofs.runs.Faithful.{follows_at, own_fork, one_fork}
use Rattle.runs_theory.proofs.events.Mine.{mine_same, mine_other, number_of, same_path_eq, test_same, found}
use Rattle.runs_theory.proofs.events.Upto.{upto_trans, upto_tail}
use Rattle.runs_program.specs.Steps.{named_by, stepped}
use Rattle.runs_sound.specs.Settings.{env_of}
use Rattle.runs_sound.specs.Shapes.{Grows, FitsIn}
use Rattle.runs_sound.specs.Accesses.{Bounds, is_guarded}
use Rattle.runs_sound.specs.Frames.{State, Since}
use Rattle.runs_sound.specs.Branches.{BranchFits, Forks, Brings}
use Rattle.runs_sound.specs.Laws.{Leaves, branch_bounds}
use Rattle.runs_sound.specs.Runs.{entries_then, own_entries}
use Rattle.runs_sound.specs.Soundness.{EndFits}
use Rattle.runs_sound.specs.Work.{Prog, Result, ReturnFits}
use Rattle.runs_sound.proofs.moments.Acting.{counts_as, counts_at_first, entries_now, made_now, held_by, Now, now_asked, own_stands, own_step, same_things, same_shaped, old_cells, stand, replies, WroteFits}
use Rattle.runs_sound.proofs.work.NdFree.{MustBeNdFree, Back, NdFreeFork, IsNdFree, task_nd_free}
use Rattle.runs_sound.proofs.moments.Carried.{end_grows, Agrees, agrees_self, agrees_task, NewTask, Step}
use Rattle.runs_sound.proofs.moments.Moments.{Moment, at, forked, state_of, having_left, MayDo, Comes, Tells, Goes, reported_on}
use Rattle.runs_sound.proofs.moments.Joining.{all_returned}
use Rattle.runs_sound.proofs.moments.Sound.{Kept, asks_counting, made_of, branch_kept, ForkedAt, EventOk, ActOk, AtFork, IsAt, Stands, branches_of, Sound}
use Rattle.runs_sound.specs.Kinds.{Wrong, strict_ask, strict_does}
use Rattle.runs_sound.proofs.kinds.Tasks.{strict_tasks_in_order}
use Rattle.runs_sound.proofs.work.Blocks.{frame_later}
use Rattle.runs_sound.proofs.work.Walks.{work_goes}

-- the locals that a branch ends with
assigned_in : (xs : List ℕ) (vs : List Value) (x : ℕ) (v : Value) → Contains (assigned xs vs) (x, v) → Contains xs x × (v ≡ slot_value vs x)
assigned_in [] vs x v c = let l = c.1 in absurd (omega (arith, l))
assigned_in (y ∷ xs) vs x v (zero, l, e) =
    let q : y ≡ x = ap (λ z. z.0) e in
    let w : slot_value vs y ≡ v = ap (λ z. z.1) e in ((0, omega arith, q), sym w ∙ ap (slot_value vs) q)
assigned_in (y ∷ xs) vs x v (suc k, l, e) = let r = assigned_in xs vs x v (k, omega (arith, l), e) in ((suc r.0.0, (let m = r.0.1 in omega (arith, m)), r.0.2), r.1)

names_assigned : (xs : List ℕ) (vs : List Value) → map (λ l. l.0) (assigned xs vs) ≡ xs
names_assigned [] vs = refl
names_assigned (x ∷ xs) vs = ap (λ ys. x ∷ ys) (names_assigned xs vs)

-- a branch, in which no return stands, ends with the locals that it copies back
branch_ends : (P : PlainProgram) (b : Bounds) (L : Scope) (t : Task) (st : State) → b.path ≢ [] → t.work.is_root ≡ false → L.result ≡ None → All (IsVariable L) t.work.copies → (h : State) (r : Result) →
    Leaves P b L b.setting t.work.stmts st h r → EndFits P b L t.work.copies h.shapes (ended t.work r)
branch_ends P b L t st below no_root none vs h (Returns v) y = absurd (subst (λ o. ReturnFits P h.shapes b.setting o v) none y.1)
branch_ends P b L t st below no_root none vs h (Goes_on v f) y =
    subst (λ c. EndFits P b L t.work.copies h.shapes (cond c (Returned Null) (Assigned (assigned t.work.copies f.values)))) (sym no_root) (
      below,
      names_assigned t.work.copies f.values,
      λ x u c.
          (let z = assigned_in t.work.copies f.values x u c in
          let is = subst (IsVariable L) z.0.2 (vs z.0.0 x z.0.1) in
          (is.0, is.1, subst (FitsIn P h.shapes (env_of b.setting) is.0) (sym z.1) (y.2.each x (variable is.0) is.1))),
    )

-- what the branches of a new fork keep to
abbrev extended : (Path → Kept) → Path → ℕ → (ℕ → Kept) → Path → Kept
extended K p n B [] = K []
extended K p n B (u ∷ q) = cond ((u.0 == n) && same_path q p) (B u.1) (K (u ∷ q))

extended_here : (K : Path → Kept) (p : Path) (n : ℕ) (B : ℕ → Kept) (i : ℕ) → extended K p n B ((n, i) ∷ p) ≡ B i
extended_here K p n B i = cond-true ((n == n) && same_path p p) (B i) (K ((n, i) ∷ p)) (and_from _ _ (eq-eqb n n refl) (test_same p p refl))

-- what each task has in common, branches of a new fork have
extended_all : {A : Type 0} (part : Kept → A) (K : Path → Kept) (p : Path) (n : ℕ) (B : ℕ → Kept) (m : A) → ((q : Path) → part (K q) ≡ m) → ((i : ℕ) → part (B i) ≡ m) → (q : Path) →
    part (extended K p n B q) ≡ m
extended_all part K p n B m h k [] = h []
extended_all part K p n B m h k (u ∷ q) = by ((u.0 == n) && same_path q p)
  where
    by : (c : Bool) → part (cond c (B u.1) (K (u ∷ q))) ≡ m
    by true = k u.1
    by false = h (u ∷ q)

extended_agrees : (P : PlainProgram) (Q : Program) (R : Run) (K : Path → Kept) (p : Path) (B : ℕ → Kept) → Agrees P Q R K (extended K p (count R p) B)
extended_agrees P Q R K p B = record {
  root = refl;
  branch = λ q n i l. cond-false ((n == count R p) && same_path q p) (B i) (K ((n, i) ∷ q)) (false_from_ne_true _ (λ t.
      (let z = and_parts _ _ t in
      let a = eqb-true n (count R p) z.0 in
      let c : count R q ≡ count R p = ap (count R) (same_path_eq q p z.1) in omega (arith, l, a, c))));
}

pub stepped_disciplined : (P : PlainProgram) (arg : ℤ) → Disciplined (stepped P arg)
stepped_disciplined P arg = record {
  over = λ p t got x a e. (asks_disciplined (named_by p) P t).over got x a e;
  begins = λ p t got since ts k a l h. (0, (asks_disciplined (named_by p) P t).begins got since ts k a l h);
  joins = λ p t got since ts a l. (0, (asks_disciplined (named_by p) P t).joins got since ts a l);
}

index_there : {A : Type 0} (xs : List A) (n : ℕ) (other x : A) → slice_get xs n ≡ Some x → slice_index_or xs n other ≡ x
index_there [] n other x e = absurd (let k : None ≡ Some x = e in cc)
index_there (y ∷ xs) zero other x e = let k : Some y ≡ Some x = e in cc
index_there (y ∷ xs) (suc n) other x e = index_there xs n other x e

pub not_itself : (p : Path) (u : ℕ × ℕ) → p ≡ u ∷ p → ⊥
not_itself p u e = let n = ap length e in omega (arith, n)

-- the program whose tasks look at kinds, and do this at a wrong one
abbrev pub looking : Wrong Name LocalRegion → PlainProgram → ℤ → Program
looking wrong P arg = record {
  meaning = λ p t got. strict_ask wrong (named_by p) P t got;
  root = (stepped P arg).root;
  object = (stepped P arg).object;
  rule = (stepped P arg).rule;
}

-- that forks no nd construct either where it mustn't
abbrev pub KeepsNdFree : Wrong Name LocalRegion → PlainProgram → Type 0
KeepsNdFree wrong P = (b : Bounds) (c : Bool) (t : Task) → IsNdFree P b [] (Back [] c) (does (named_by b.path) P t) → IsNdFree P b [] (Back [] c) (strict_does wrong (named_by b.path) P t)

module _ (wrong : Wrong Name LocalRegion) (P : PlainProgram) (wt : WellTyped P) (arg : ℤ) (free : KeepsNdFree wrong P) {N : ℕ} {R : Run} {e : Event} (l : Faithful (looking wrong P arg) R) (lenient : Faithful (stepped P arg) R) (s : Sound P (looking wrong P arg) N R)
    (a : Follows (looking wrong P arg) R e)
    (room : length (e ∷ R) ≤ N) (members : (p : Path) → (s.keeping p).bounds.member_nd_free ≡ wt.member_nd_free)
    (works : (p : Path) → (s.keeping p).work ≡ (λ q t. strict_does wrong (named_by q) P t)) where
  abbrev Q : Program
  Q = looking wrong P arg

  abbrev bounds : Bounds
  bounds = (s.keeping e.path).bounds

  abbrev scope : Scope
  scope = (s.keeping e.path).scope

  abbrev GoesOn : ℕ → Moment P (s.keeping e.path).bounds → Type 0
  GoesOn d h = Goes P bounds scope a.task.work.copies d h (λ xs. replies P Q l s a room (e.ans ∷ xs))

  -- what stays at an event that is no action of a task's own
  still_there : (K : Path → Kept) → Agrees P Q R s.keeping K → ((m : ℕ → Bool) → ((p : Path) → (s.keeping p).bounds.member_nd_free ≡ m) → (p : Path) → (K p).bounds.member_nd_free ≡ m) → ((m : Path → Task → Prog) → ((p : Path) → (s.keeping p).work ≡ m) → (p : Path) → (K p).work ≡ m) → made_by e.act ≡ [] → WroteFits P Q l s a room →
      EventOk P Q (K e.path) (branches_of P Q K e.path) s.shapes R e.path e.act → ActOk P (K e.path) s.shapes R e.path e.act e.ans → Stands P Q N (e ∷ R) (K e.path) (branches_of P Q K e.path) s.shapes e.path a.task →
      ((q : Path) (z : Task) → NewTask R e q z → Stands P Q N (e ∷ R) (K q) (branches_of P Q K q) s.shapes q z) → Step P Q N R e a.task s
  still_there K agrees never work none wrote ok acted own new = record {
    shapes = s.shapes;
    grows = λ n z q. q;
    keeping = K;
    agrees = agrees;
    never = never;
    work = work;
    things = same_things P Q l s a room;
    shaped = same_shaped P Q l s a room none;
    cells = old_cells P Q l s a room wrote;
    event = ok;
    acted = acted;
    own = own;
    new = new;
  }

  fork_step : (d : ℕ) → suc N ≤ d + length (e ∷ R) → (st : State) → Grows st.shapes s.shapes → st.entries ≡ entries_now P Q l s a room → (ts : Branches) → e.act ≡ Fork ts →
      (forks : Forks P bounds st ts.kind ts.tasks) → NdFreeFork P (s.keeping e.path).bounds st.entries ts.kind ts.tasks → GoesOn d (forked st ts.kind ts.tasks forks 0) → Step P Q N R e a.task s
  fork_step d en st grown entered ts act forks nd_free goes =
      still_there K agrees (λ m h p. extended_all (λ k. k.bounds.member_nd_free) s.keeping e.path (count R e.path) new_kept m h (λ i. h e.path) p)
      (λ m h p. extended_all (λ k. k.work) s.keeping e.path (count R e.path) new_kept m h (λ i. h e.path) p) (ap made_by act) (λ c w z env ty r q cell. absurd (let k : Fork ts ≡ Do _ = sym act ∙ w.act in cc))
      (subst (λ c. EventOk P Q (K e.path) (branches_of P Q K e.path) s.shapes R e.path c) (sym act)
      (subst (λ (k : Kept). EventOk P Q k (branches_of P Q K e.path) s.shapes R e.path (Fork ts)) (sym same)
      (record { state = st; forks = forks; nd_free = nd_free; grown = grown; held = held_by (made_of (s.keeping e.path)) (mine R e.path) entered; entered = entered; kept = λ i. extended_here s.keeping e.path (count R e.path) new_kept i })))
      (subst (λ c. ActOk P (K e.path) s.shapes R e.path c e.ans) (sym act) tt)
      (subst (λ (k : Kept). Stands P Q N (e ∷ R) k (branches_of P Q K e.path) s.shapes e.path a.task) (sym same)
      (own_stands P Q l s a room d en (forked st ts.kind ts.tasks forks 0) goes s.shapes grown (entered ∙ sym (ap (λ c. entries_then (made_now P Q l s a room) c (entries_now P Q l s a room)) act)) (branches_of P Q K e.path) (record {
        before = R;
        event = e;
        stands = now;
        path = refl;
        act = act;
        number = ap length (mine_same e R e.path refl) ∙ omega arith;
        kept = λ i. extended_here s.keeping e.path (count R e.path) new_kept i;
      })))
      (λ q z n. absurd (let k : Fork ts ≡ Begin _ = sym act ∙ n.act in cc))
    where
      new_kept : ℕ → Kept
      new_kept = branch_kept (s.keeping e.path) st forks (count R e.path)

      K : Path → Kept
      K = extended s.keeping e.path (count R e.path) new_kept

      agrees : Agrees P Q R s.keeping K
      agrees = extended_agrees P Q R s.keeping e.path new_kept

      same : K e.path ≡ s.keeping e.path
      same = agrees_task P Q agrees e.path a.task a.begun

  -- a branch that begins
  pub none_yet : (q : Path) (z : Task) → NewTask R e q z → (es : Run) → mine R q ≡ es → es ≡ []
  none_yet q z n [] h = refl
  none_yet q z n (y ∷ es) h =
      let f = found R q (subst (λ ys. Upto (y ∷ es) ys) (sym h) now) in
      let b = follows_at (stepped P arg) f.stands lenient in
      let k = own_fork (stepped P arg) (stepped_disciplined P arg) y.path e.path n.u b.begun (f.path ∙ n.is) in
      let c : count k.began e.path < count R e.path = number_of e.path (upto_trans k.begin_stands (upto_tail f.stands)) k.begin_path in
      let m = k.begin_number in
      let m' = n.number in
      absurd (omega (arith, c, m, m'))

  new_task : (q : Path) (z : Task) → NewTask R e q z → Stands P Q N (e ∷ R) (s.keeping q) (branches_of P Q s.keeping q) s.shapes q z
  new_task q z n = subst (λ k. Stands P Q N (e ∷ R) k (branches_of P Q s.keeping q) s.shapes q z) (sym (ap s.keeping q_is ∙ ok.kept n.u.1)) (record {
    path = ap (λ p. v ∷ p) (stand P Q l s a room).path ∙ sym q_is;
    moment = at h;
    grown = λ x y w. w;
    task = task_is;
    entered = sym (ap (own_entries (made_of (branch_kept (s.keeping e.path) ok.state ok.forks (count n.before e.path) n.u.1))) nothing);
    is_at = tt;
    depth = suc N;
    enough = omega arith;
    goes = subst (λ es. Goes P bb (ok.forks.scope n.u.1) z.work.copies (suc N) (at h) (λ xs. asks_counting (branch_kept (s.keeping e.path) ok.state ok.forks (count n.before e.path) n.u.1) (reverse xs ++ answers es))) (sym nothing)
        (counts_at_first P (branch_kept (s.keeping e.path) ok.state ok.forks (count n.before e.path) n.u.1) z (λ q t. strict_does wrong (named_by q) P t) task_is (works e.path) z.work.copies h (suc N)
        (work_goes P bb (ok.forks.scope n.u.1) z.work.copies (Leaves P bb (ok.forks.scope n.u.1) (ok.forks.setting n.u.1) z.work.stmts h) (Back [] nd_free.0) z (strict_does wrong (named_by bb.path) P z) h
        (strict_tasks_in_order wrong P wt bb (ok.forks.scope n.u.1) z.work.stmts (ok.forks.effects n.u.1) fits.passes fits.scope z.frame.left (ok.forks.setting n.u.1) h (begun z.work.takes z.frame)
        (frame_later ok.grown (omega arith) (fits.fits v.0)) (λ x gu lies. record { effects = inl lies; blocks = tt }))
        (free bb nd_free.0 z nd_free.1) refl refl
        (branch_ends P bb (ok.forks.scope n.u.1) z h is_below fits.is_branch fits.no_return fits.copies) (suc N)));
  })
    where
      ok : ForkedAt P (s.keeping e.path) (branches_of P Q s.keeping e.path (count n.before e.path)) s.shapes (mine n.before e.path) n.tasks
      ok = subst (λ c. EventOk P Q (s.keeping e.path) (branches_of P Q s.keeping e.path) s.shapes n.before e.path c) n.fork_act
          (subst (λ x. EventOk P Q (s.keeping x) (branches_of P Q s.keeping x) s.shapes n.before x n.fork.act) n.path (s.events n.fork n.before n.stands))

      v : ℕ × ℕ
      v = (count n.before e.path, n.u.1)

      fits : BranchFits P bounds ok.state n.u.1 z (ok.forks.scope n.u.1) (ok.forks.setting n.u.1) (ok.forks.effects n.u.1)
      fits = ok.forks.branch n.u.1 z n.there

      bb : Bounds
      bb = branch_bounds bounds ok.state ok.forks v

      is_below : v ∷ bounds.path ≢ []
      is_below q = let k : v ∷ bounds.path ≡ [] = q in cc

      h : State
      h = record { shapes = s.shapes; made = 0; entries = [] }

      must : MustBeNdFree P bb [] → MustBeNdFree P (s.keeping e.path).bounds ok.state.entries
      must (inl none) = inl none
      must (inr inside) = inr (⊎_elim (λ x. x) (λ x. absurd (false≢true x)) (or_cases (is_guarded bounds ok.state.entries) false inside))

      nd_free : (c : Bool) × IsNdFree P bb [] (Back [] c) (does (named_by bb.path) P z)
      nd_free = (let c = ok.nd_free.1 n.u.1 z n.there in
          task_nd_free P bb wt (sym (members e.path)) (named_by bb.path) z.frame.left c.passes c.members [] (λ x. c.nd_free (must x)) c.few (begun z.work.takes z.frame) c.small)

      task_is : slice_index_or n.tasks.tasks n.u.1 (s.keeping e.path).task ≡ z
      task_is = index_there n.tasks.tasks n.u.1 (s.keeping e.path).task z n.there

      q_is : q ≡ v ∷ e.path
      q_is = n.is ∙ ap (λ m. (m, n.u.1) ∷ e.path) (sym n.fork_number)

      nothing : mine (e ∷ R) q ≡ []
      nothing = mine_other e R q (λ x. not_itself e.path n.u (x ∙ n.is)) ∙ none_yet q z n (mine R q) refl

  begin_step : (d : ℕ) → suc N ≤ d + length (e ∷ R) → (st : State) (forking : Forking) (ts : List Task) (forks : Forks P (s.keeping e.path).bounds st forking ts) (n : ℕ) → Grows st.shapes s.shapes →
      st.entries ≡ entries_now P Q l s a room → AtFork P Q R e.path (s.keeping e.path) (branches_of P Q s.keeping e.path) st forking ts forks n → (i : ℕ) → e.act ≡ Begin i →
      GoesOn d (forked st forking ts forks (suc n)) → Step P Q N R e a.task s
  begin_step d en st forking ts forks n grown entered af i act goes =
      still_there s.keeping (agrees_self P Q R s.keeping) (λ m h. h) (λ m h. h) (ap made_by act) (λ c w z env ty r q cell. absurd (let k : Begin i ≡ Do _ = sym act ∙ w.act in cc))
      (subst (λ c. EventOk P Q (s.keeping e.path) (branches_of P Q s.keeping e.path) s.shapes R e.path c) (sym act) tt)
      (subst (λ c. ActOk P (s.keeping e.path) s.shapes R e.path c e.ans) (sym act) tt)
      (own_stands P Q l s a room d en (forked st forking ts forks (suc n)) goes s.shapes grown (entered ∙ sym (ap (λ c. entries_then (made_now P Q l s a room) c (entries_now P Q l s a room)) act)) (branches_of P Q s.keeping e.path) (record {
        before = af.before;
        event = af.event;
        stands = later af.stands;
        path = af.path;
        act = af.act;
        number = (let m = af.number in let k = ap length (mine_same e R e.path refl) in omega (arith, m, k));
        kept = af.kept;
      }))
      new_task

  end_step : (d : ℕ) → suc N ≤ d + length (e ∷ R) → (st : State) → Grows st.shapes s.shapes → (x : Ending) → e.act ≡ End x →
      EndFits P (s.keeping e.path).bounds (s.keeping e.path).scope a.task.work.copies st.shapes x → GoesOn d (at (having_left st)) → Step P Q N R e a.task s
  end_step d en st grown x act fits goes =
      still_there s.keeping (agrees_self P Q R s.keeping) (λ m h. h) (λ m h. h) (ap made_by act) (λ c w z env ty r q cell. absurd (let k : End x ≡ Do _ = sym act ∙ w.act in cc))
      (subst (λ c. EventOk P Q (s.keeping e.path) (branches_of P Q s.keeping e.path) s.shapes R e.path c) (sym act)
      (a.task, a.begun, end_grows P bounds scope a.task.work.copies st.shapes s.shapes grown x fits))
      (subst (λ c. ActOk P (s.keeping e.path) s.shapes R e.path c e.ans) (sym act) tt)
      (own_stands P Q l s a room d en (at (having_left st)) goes s.shapes grown (sym (ap (λ c. entries_then (made_now P Q l s a room) c (entries_now P Q l s a room)) act)) (branches_of P Q s.keeping e.path) tt)
      (λ q z n. absurd (let k : End x ≡ Begin _ = sym act ∙ n.act in cc))

  join_step : (d : ℕ) → suc N ≤ d + length (e ∷ R) → (st : State) (forking : Forking) (ts : List Task) (forks : Forks P (s.keeping e.path).bounds st forking ts) (n : ℕ) → Grows st.shapes s.shapes →
      st.entries ≡ entries_now P Q l s a room → AtFork P Q R e.path (s.keeping e.path) (branches_of P Q s.keeping e.path) st forking ts forks n → e.act ≡ Join → n ≡ length ts →
      ((u : State) → Since st u → u.made ≡ st.made → Brings P (s.keeping e.path).bounds st forking ts forks u (brought e.ans) → GoesOn d (at u)) → Joins R e.path e.ans → Step P Q N R e a.task s
  join_step d en st forking ts forks n grown entered af act all goes j =
      still_there s.keeping (agrees_self P Q R s.keeping) (λ m h. h) (λ m h. h) (ap made_by act) (λ c w z env ty r q cell. absurd (let k : Join ≡ Do _ = sym act ∙ w.act in cc))
      (subst (λ c. EventOk P Q (s.keeping e.path) (branches_of P Q s.keeping e.path) s.shapes R e.path c) (sym act) tt)
      (subst (λ c. ActOk P (s.keeping e.path) s.shapes R e.path c e.ans) (sym act) tt)
      (own_stands P Q l s a room d en (at u) (goes u (record { grows = grown; made = omega arith; entries = refl }) refl (subst (λ x. Brings P bounds st forking ts forks u (brought x)) (sym j.answer) (brings (first_trap j.ends))))
      s.shapes (λ x y w. w) (entered ∙ sym (ap (λ c. entries_then (made_now P Q l s a room) c (entries_now P Q l s a room)) act)) (branches_of P Q s.keeping e.path) tt)
      (λ q z m. absurd (let k : Join ≡ Begin _ = sym act ∙ m.act in cc))
    where
      u : State
      u = record { shapes = s.shapes; made = st.made; entries = st.entries }

      one : (j.fork ≡ af.event) × (j.before ≡ af.before)
      one = one_fork (stepped P arg) (stepped_disciplined P arg) e.path (record { kind = forking; tasks = ts }) lenient af.stands af.path af.act now (af.number ∙ ap (λ m. suc (count af.before e.path + m)) all) j

      number : count j.before e.path ≡ count af.before e.path
      number = ap (λ Y. count Y e.path) one.1

      ended_there : (v : ℕ × ℕ) (x : Ending) → v.0 ≡ count af.before e.path → slice_get j.ends v.1 ≡ Some x → Ended R (v ∷ e.path) x
      ended_there v x q there = j.ended v x (q ∙ sym number) there

      brings : (o : Option (Trap × Place)) → Brings P bounds st forking ts forks u (brought {N = Name} {M = LocalRegion} (joined_or o (all_locals j.ends)))
      brings None = all_returned P Q s e.path af.before af.event af.stands af.path (record { kind = forking; tasks = ts }) af.act st forks (λ i. ap (λ (k : Kept). k.bounds) (af.kept i)) (λ i. ap (λ (k : Kept). k.scope) (af.kept i)) j.ends ended_there
      brings (Some fell) = tt

  meant : replied a.task.work (run (reported (named_by e.path)) (strict_does wrong (named_by e.path) P a.task) (reported_on 0 0 (reverse (answers (mine R e.path))))) ≡ Next e.ticks e.act
  unfolding strict_ask
  meant = a.asks

  pub next_step : Step P Q N R e a.task s
  next_step = by w.moment w.grown w.entered w.is_at e.act refl w.may w.tells w.then a.right
    where
      counted : (m : ℕ) × (asks_counting (s.keeping e.path) (answers (mine R e.path)) ≡ Next m e.act)
      counted = counts_as (s.keeping e.path) e.path a.task (λ q t. strict_does wrong (named_by q) P t) (stand P Q l s a room).path (stand P Q l s a room).task (works e.path) (answers (mine R e.path)) e.ticks e.act meant

      w : Now P Q l s a room
      w = now_asked P Q l s a room counted.0 counted.1

      by : (m : Moment P (s.keeping e.path).bounds) → Grows (state_of m).shapes s.shapes → (state_of m).entries ≡ entries_now P Q l s a room →
          IsAt P Q R e.path (s.keeping e.path) (branches_of P Q s.keeping e.path) m → (c : Action) → e.act ≡ c →
          (may : MayDo P (s.keeping e.path).bounds (s.keeping e.path).scope a.task.work.copies m c) →
          Tells P (s.keeping e.path).bounds (s.keeping e.path).scope a.task.work.copies m c (made_now P Q l s a room) →
          ((x : Answer) (h : Moment P (s.keeping e.path).bounds) → Comes P (s.keeping e.path).bounds (s.keeping e.path).scope a.task.work.copies m c may x h →
          Goes P (s.keeping e.path).bounds (s.keeping e.path).scope a.task.work.copies w.depth h (λ xs. replies P Q l s a room (x ∷ xs))) → Right Q R e.path c e.ans → Step P Q N R e a.task s
      by (at st) g h i (Do o) q m t then r = own_step P Q l s a room w.depth w.enough st g h o t q m.0 m.1 then r
      by (at st) g h i (Fork ts) q m t then r = fork_step w.depth w.enough st g h ts q m.0 m.1 (then e.ans (forked st ts.kind ts.tasks m.0 0) refl)
      by (at st) g h i (Begin n) q m t then r = absurd m
      by (at st) g h i Join q m t then r = absurd m
      by (at st) g h i (End x) q m t then r = end_step w.depth w.enough st g x q m (then e.ans (at (having_left st)) refl)
      by (forked st forking ts forks n) g h i (Begin b) q m t then r = begin_step w.depth w.enough st forking ts forks n g h i b q (then e.ans (forked st forking ts forks (suc n)) refl)
      by (forked st forking ts forks n) g h i Join q m t then r =
          join_step w.depth w.enough st forking ts forks n g h i q m (λ u since same brings. then e.ans (at u) (u, refl, since, same, brings)) r
      by (forked st forking ts forks n) g h i (Do o) q m t then r = absurd m
      by (forked st forking ts forks n) g h i (Fork us) q m t then r = absurd m
      by (forked st forking ts forks n) g h i (End x) q m t then r = absurd m
