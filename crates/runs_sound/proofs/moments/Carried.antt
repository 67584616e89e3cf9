-- What is carried over one more event: what has been made grows, and what tasks keep to stays.
use Rattle.std.proofs.Common.{◌≡◌, ◌<◌, ◌+◌, ◌⊎◌, ⊎_elim, inl, inr, ℕ, suc, ℤ, pos, List, [], ◌∷◌, ◌++◌, length, reverse, refl, sym, ap, ◌∙◌, subst, arith, Some, slice_get}
use Rattle.lang_base.specs.declared.region.Rpl.{Rpl}
use Rattle.lang_base.specs.Matching.{Env}
use Rattle.lang_base.specs.Types.{PlainType}
use Rattle.lang_typed.specs.Plain.{PlainProgram}
use Rattle.lang_typed.specs.Scope.{Scope}
use Rattle.runs_theory.specs.Actions.{Answer, Program, Task, Branches, Own, Rest, Read, Write, Look, New, Print, Enter, Exit, Action, Do, Fork, Begin, Join, End, Ending, Returned, Assigned, Trapped}
use Rattle.runs_theory.specs.Objects.{Path, Name, Thing}
use Rattle.runs_theory.specs.Runs.{Event, Run, Upto, later, mine, answers, count, Begun, root, branch, Faithful, thing_of, value_in}
use Rattle.runs_theory.proofs.runs.Faithful.{begun_upto, follows_at, same_task, agree_self}
use Rattle.runs_theory.proofs.events.Mine.{path_cases, mine_other, number_of}
use Rattle.runs_theory.proofs.events.Upto.{upto_split, upto_tail}
use Rattle.runs_sound.specs.Settings.{env_of}
use Rattle.runs_sound.specs.Shapes.{Shape, Shapes, Grows, FitsIn, CellAt, Describes}
use Rattle.runs_sound.specs.Accesses.{Bounds}
use Rattle.std.specs.Prelude.{Bool}
use Rattle.runs_sound.specs.Runs.{own_entries}
use Rattle.runs_sound.specs.Soundness.{EndFits}
use Rattle.runs_sound.specs.Work.{Prog}
use Rattle.runs_sound.proofs.moments.Moments.{Moment, at, forked, state_of, Goes}
use Rattle.runs_sound.proofs.moments.Sound.{Kept, asks_counting, made_of, Accessed, OwnOk, EventOk, ActOk, IsAt, Stands, branches_of, Sound}
use Rattle.runs_sound.proofs.classes.Types.{fits_grows}

pub grows_grows : {S T U : Shapes} → Grows S T → Grows T U → Grows S U
grows_grows a b = λ n s e. b n s (a n s e)

pub end_grows : (P : PlainProgram) (b : Bounds) (L : Scope) (copies : List ℕ) (S T : Shapes) → Grows S T → (x : Ending) → EndFits P b L copies S x → EndFits P b L copies T x
end_grows P b L copies S T g (Assigned ls) h = (h.0, h.1, λ x v c. (let z = h.2 x v c in (z.0, z.1, fits_grows P S T g (env_of b.setting) z.0 v z.2)))
end_grows P b L copies S T g (Returned v) h = h
end_grows P b L copies S T g (Trapped trap place) h = h

accessed_grows : {P : PlainProgram} {k : Kept} {S T : Shapes} {es : Run} {n : Name} {i : ℤ} {write : Bool} → Grows S T → Accessed P k S es n i write → Accessed P k T es n i write
accessed_grows g a = record { state = a.state; reaches = a.reaches; grown = grows_grows a.grown g; held = a.held; entered = a.entered }

-- a branch that begins at a begin: of a fork that stands there
pub record NewTask (R : Run) (e : Event) (q : Path) (t : Task) : Type 0 where
  pub u : ℕ × ℕ
  pub is : q ≡ u ∷ e.path
  pub act : e.act ≡ Begin u.1
  pub number : count R e.path ≡ suc (u.0 + u.1)
  pub before : Run
  pub fork : Event
  pub stands : Upto (fork ∷ before) R
  pub path : fork.path ≡ e.path
  pub fork_number : count before e.path ≡ u.0
  pub tasks : Branches
  pub fork_act : fork.act ≡ Fork tasks
  pub there : slice_get tasks.tasks u.1 ≡ Some t

module _ (P : PlainProgram) (Q : Program) where
  -- what tasks keep to that have begun, and branches of forks that stand
  pub record Agrees (R : Run) (K L : Path → Kept) : Type 0 where
    pub root : L [] ≡ K []
    pub branch : (q : Path) (n i : ℕ) → n < count R q → L ((n, i) ∷ q) ≡ K ((n, i) ∷ q)

  pub agrees_self : (R : Run) (K : Path → Kept) → Agrees R K K
  agrees_self R K = record { root = refl; branch = λ q n i l. refl }

  pub agrees_task : {R : Run} {K L : Path → Kept} → Agrees R K L → (q : Path) (t : Task) → Begun Q R q t → L q ≡ K q
  agrees_task {R} {K} {L} a q t (root e k) = subst (λ z. L z ≡ K z) (sym e) a.root
  agrees_task {R} {K} {L} a q t (branch r u F f ts B g e fs fp fn fa there gs gp ga gn) =
      subst (λ z. L z ≡ K z) (sym e) (a.branch r u.0 u.1 (subst (λ n. n < count R r) fn (number_of r fs fp)))

  own_grows : (k : Kept) (S T : Shapes) (es : Run) → Grows S T → (o : Own) → OwnOk P Q k S es o → OwnOk P Q k T es o
  own_grows k S T es g (Read n i) h = accessed_grows g h
  own_grows k S T es g (Write n i v) h = accessed_grows g h
  own_grows k S T es g Rest h = tt
  own_grows k S T es g (Look n) h = tt
  own_grows k S T es g (New t c) h = tt
  own_grows k S T es g (Print bytes) h = tt
  own_grows k S T es g (Enter E) h = record { state = h.state; may = h.may; grown = grows_grows h.grown g; held = h.held }
  own_grows k S T es g Exit h = h

  pub event_later : (k : Kept) (B C : ℕ → ℕ → Kept) (S T : Shapes) (Y : Run) (p : Path) → Grows S T → ((i : ℕ) → C (count Y p) i ≡ B (count Y p) i) → (a : Action) →
      EventOk P Q k B S Y p a → EventOk P Q k C T Y p a
  event_later k B C S T Y p g c (Do o) h = own_grows k S T (mine Y p) g o h
  event_later k B C S T Y p g c (Fork ts) h = record {
    state = h.state;
    forks = h.forks;
    nd_free = h.nd_free;
    grown = grows_grows h.grown g;
    held = h.held;
    entered = h.entered;
    kept = λ i. c i ∙ h.kept i;
  }
  event_later k B C S T Y p g c (Begin i) h = tt
  event_later k B C S T Y p g c Join h = tt
  event_later k B C S T Y p g c (End x) h = (h.0, h.1, end_grows P k.bounds k.scope h.0.work.copies S T g x h.2)

  pub act_later : (k : Kept) (S T : Shapes) (Y : Run) (p : Path) → Grows S T → (a : Action) (x : Answer) → ActOk P k S Y p a x → ActOk P k T Y p a x
  act_later k S T Y p g (Do o) x h = record {
    state = h.state;
    entries = h.entries;
    moves = h.moves;
    after = h.after;
    comes = h.comes;
    answered = h.answered;
    grown = grows_grows h.grown g;
  }
  act_later k S T Y p g (Fork ts) x h = tt
  act_later k S T Y p g (Begin i) x h = tt
  act_later k S T Y p g Join x h = tt
  act_later k S T Y p g (End y) x h = tt

  is_at_later : (R : Run) (e : Event) (q : Path) (k : Kept) (B C : ℕ → ℕ → Kept) → (e.path ≡ q → ⊥) → ((n i : ℕ) → n < count R q → C n i ≡ B n i) → (m : Moment P k.bounds) →
      IsAt P Q R q k B m → IsAt P Q (e ∷ R) q k C m
  is_at_later R e q k B C ne c (at st) h = tt
  is_at_later R e q k B C ne c (forked st forking ts forks n) h = record {
    before = h.before;
    event = h.event;
    stands = later h.stands;
    path = h.path;
    act = h.act;
    number = ap length (mine_other e R q ne) ∙ h.number;
    kept = λ i. c (count h.before q) i (number_of q h.stands h.path) ∙ h.kept i;
  }

  -- a task that doesn't act
  pub stands_later : (N : ℕ) (R : Run) (e : Event) (k : Kept) (B C : ℕ → ℕ → Kept) (S T : Shapes) (q : Path) (t : Task) → (e.path ≡ q → ⊥) → Grows S T → ((n i : ℕ) → n < count R q → C n i ≡ B n i) →
      Stands P Q N R k B S q t → Stands P Q N (e ∷ R) k C T q t
  stands_later N R e k B C S T q t ne g c s = record {
    path = s.path;
    task = s.task;
    moment = s.moment;
    grown = grows_grows s.grown g;
    entered = subst (λ es. (state_of s.moment).entries ≡ own_entries (made_of k) es) (sym (mine_other e R q ne)) s.entered;
    is_at = is_at_later R e q k B C ne c s.moment s.is_at;
    depth = s.depth;
    enough = let l = s.enough in omega (arith, l);
    goes = subst (λ es. Goes P k.bounds k.scope t.work.copies s.depth s.moment (λ xs. asks_counting k (reverse xs ++ answers es))) (sym (mine_other e R q ne)) s.goes;
  }

  -- who has begun then
  pub begun_cases : (R : Run) (e : Event) (q : Path) (t : Task) → Begun Q (e ∷ R) q t → Begun Q R q t ⊎ NewTask R e q t
  begun_cases R e q t (root h k) = inl (root h k)
  begun_cases R e q t (branch r u F f ts B g h fs fp fn fa there gs gp ga gn) = ⊎_elim (λ z. inr (new z (upto_split fs))) (λ b. inl (old b (upto_split fs))) (upto_split gs)
    where
      clash : (y : Event) → y.act ≡ Fork ts → y.act ≡ Begin u.1 → ⊥
      clash y a b = let z : Fork ts ≡ Begin u.1 = sym a ∙ b in cc

      new : (g ≡ e) × (B ≡ R) → ((f ≡ e) × (F ≡ R)) ⊎ Upto (f ∷ F) R → NewTask R e q t
      new z (inl y) = absurd (clash e (subst (λ (x : Event). x.act ≡ Fork ts) y.0 fa) (subst (λ (x : Event). x.act ≡ Begin u.1) z.0 ga))
      new z (inr y) =
          let p : e.path ≡ r = ap (λ (x : Event). x.path) (sym z.0) ∙ gp in
          record {
            u = u;
            is = h ∙ ap (λ x. u ∷ x) (sym p);
            act = subst (λ (x : Event). x.act ≡ Begin u.1) z.0 ga;
            number = subst (λ x. count R x ≡ suc (u.0 + u.1)) (sym p) (subst (λ Y. count Y r ≡ suc (u.0 + u.1)) z.1 gn);
            before = F;
            fork = f;
            stands = y;
            path = fp ∙ sym p;
            fork_number = subst (λ x. count F x ≡ u.0) (sym p) fn;
            tasks = ts;
            fork_act = fa;
            there = there;
          }

      old : Upto (g ∷ B) R → ((f ≡ e) × (F ≡ R)) ⊎ Upto (f ∷ F) R → Begun Q R q t
      old b (inr y) = branch r u F f ts B g h y fp fn fa there b gp ga gn
      old b (inl y) =
          let l : count B r < count R r = number_of r b gp in
          let m : count F r ≡ count R r = ap (λ Y. count Y r) y.1 in
          absurd (omega (arith, l, m, fn, gn))

  -- what one event leads to
  pub record Step (N : ℕ) (R : Run) (e : Event) (t : Task) (s : Sound P Q N R) : Type 0 where
    pub shapes : Shapes
    pub grows : Grows s.shapes shapes
    pub keeping : Path → Kept
    pub agrees : Agrees R s.keeping keeping
    pub never : (m : ℕ → Bool) → ((p : Path) → (s.keeping p).bounds.member_nd_free ≡ m) → (p : Path) → (keeping p).bounds.member_nd_free ≡ m
    pub work : (m : Path → Task → Prog) → ((p : Path) → (s.keeping p).work ≡ m) → (p : Path) → (keeping p).work ≡ m
    pub things : (n : Name) (z : Shape) → shapes n ≡ Some z → (u : Thing) × (thing_of Q (e ∷ R) n ≡ Some u) × Describes P z u
    pub shaped : (n : Name) (u : Thing) → thing_of Q (e ∷ R) n ≡ Some u → (z : Shape) × (shapes n ≡ Some z)
    pub cells : (n : Name) (z : Shape) (u : Thing) (k : ℕ) (env : Env) (ty : PlainType) (a : Rpl) → shapes n ≡ Some z → thing_of Q (e ∷ R) n ≡ Some u → CellAt P z (pos k) env ty a →
        FitsIn P shapes env ty (value_in (e ∷ R) u (record { object = n; slot = k }))
    pub event : EventOk P Q (keeping e.path) (branches_of P Q keeping e.path) shapes R e.path e.act
    pub acted : ActOk P (keeping e.path) shapes R e.path e.act e.ans
    pub own : Stands P Q N (e ∷ R) (keeping e.path) (branches_of P Q keeping e.path) shapes e.path t
    pub new : (q : Path) (z : Task) → NewTask R e q z → Stands P Q N (e ∷ R) (keeping q) (branches_of P Q keeping q) shapes q z

  unfoldable pub stepped_on : {N : ℕ} {R : Run} {e : Event} (l : Faithful Q R) (t : Task) → Begun Q R e.path t → (s : Sound P Q N R) → Step N R e t s → Sound P Q N (e ∷ R)
  stepped_on {N} {R} {e} l t b s z = record {
    shapes = z.shapes;
    keeping = z.keeping;
    root = ap (λ (k : Kept). k.bounds.inside) z.agrees.root ∙ s.root;
    things = z.things;
    shaped = z.shaped;
    cells = z.cells;
    events = λ y Y u. ⊎_elim (λ q. here y Y q) (λ v. old y Y v) (upto_split u);
    acted = λ y Y u. ⊎_elim (λ q. acted_here y Y q) (λ v. acted_old y Y v) (upto_split u);
    tasks = λ q u h. ⊎_elim (λ g. stood q u g (path_cases e.path q)) (λ n. z.new q u n) (begun_cases R e q u h);
  }
    where
      here : (y : Event) (Y : Run) → (y ≡ e) × (Y ≡ R) → EventOk P Q (z.keeping y.path) (branches_of P Q z.keeping y.path) z.shapes Y y.path y.act
      here y Y q = subst (λ (x : Event). EventOk P Q (z.keeping x.path) (branches_of P Q z.keeping x.path) z.shapes Y x.path x.act) (sym q.0)
          (subst (λ X. EventOk P Q (z.keeping e.path) (branches_of P Q z.keeping e.path) z.shapes X e.path e.act) (sym q.1) z.event)

      old : (y : Event) (Y : Run) → Upto (y ∷ Y) R → EventOk P Q (z.keeping y.path) (branches_of P Q z.keeping y.path) z.shapes Y y.path y.act
      old y Y u =
          let a = follows_at Q u l in
          subst (λ k. EventOk P Q k (branches_of P Q z.keeping y.path) z.shapes Y y.path y.act) (sym (agrees_task z.agrees y.path a.task (begun_upto (upto_tail u) a.begun)))
          (event_later (s.keeping y.path) (branches_of P Q s.keeping y.path) (branches_of P Q z.keeping y.path) s.shapes z.shapes Y y.path z.grows
          (λ i. z.agrees.branch y.path (count Y y.path) i (number_of y.path u refl)) y.act (s.events y Y u))

      acted_here : (y : Event) (Y : Run) → (y ≡ e) × (Y ≡ R) → ActOk P (z.keeping y.path) z.shapes Y y.path y.act y.ans
      acted_here y Y q = subst (λ (x : Event). ActOk P (z.keeping x.path) z.shapes Y x.path x.act x.ans) (sym q.0)
          (subst (λ X. ActOk P (z.keeping e.path) z.shapes X e.path e.act e.ans) (sym q.1) z.acted)

      acted_old : (y : Event) (Y : Run) → Upto (y ∷ Y) R → ActOk P (z.keeping y.path) z.shapes Y y.path y.act y.ans
      acted_old y Y u =
          let a = follows_at Q u l in
          subst (λ k. ActOk P k z.shapes Y y.path y.act y.ans) (sym (agrees_task z.agrees y.path a.task (begun_upto (upto_tail u) a.begun)))
          (act_later (s.keeping y.path) s.shapes z.shapes Y y.path z.grows y.act y.ans (s.acted y Y u))

      stood : (q : Path) (u : Task) → Begun Q R q u → (e.path ≡ q) ⊎ (e.path ≡ q → ⊥) → Stands P Q N (e ∷ R) (z.keeping q) (branches_of P Q z.keeping q) z.shapes q u
      stood q u g (inl h) =
          subst (λ x. Stands P Q N (e ∷ R) (z.keeping x) (branches_of P Q z.keeping x) z.shapes x u) h
          (subst (λ x. Stands P Q N (e ∷ R) (z.keeping e.path) (branches_of P Q z.keeping e.path) z.shapes e.path x)
          (same_task (agree_self R) b (subst (λ x. Begun Q R x u) (sym h) g)) z.own)
      stood q u g (inr h) =
          subst (λ k. Stands P Q N (e ∷ R) k (branches_of P Q z.keeping q) z.shapes q u) (sym (agrees_task z.agrees q u g))
          (stands_later N R e (s.keeping q) (branches_of P Q s.keeping q) (branches_of P Q z.keeping q) s.shapes z.shapes q u h z.grows (λ n i c. z.agrees.branch q n i c) (s.tasks q u g))
