-- Conflicts of unordered events: their accesses meet in two branches of one fork, which lets no two meet where it is deterministic.
use Rattle.std.proofs.Common.{◌≡◌, ◌⊎◌, ⊎_elim, inl, inr, ℕ, ℤ, pos, Bool, true, false, ◌||◌, [], ◌∷◌, ◌++◌, length, refl, sym, ap, ◌∙◌, subst, arith, append_assoc, Some, slice_get}
use Rattle.std.proofs.lemmas.Bool.{or_left}
use Rattle.std.proofs.lemmas.Option.{slice_get_within}
use Rattle.lang_base.specs.Matching.{put_in}
use Rattle.lang_typed.specs.declared.stmt.Forking.TheVariants.{Deterministic}
use Rattle.lang_typed.specs.Plain.{PlainProgram}
use Rattle.runs_theory.specs.Actions.{Program, Branches, Action, Fork}
use Rattle.runs_theory.specs.Objects.{Path, Name, Made, Cell}
use Rattle.runs_theory.specs.Order.{Unordered, Conflict, read_write, write_read, write_write, Reads, Writes}
use Rattle.runs_theory.specs.Runs.{Event, Run, Upto, mine, count, Begun, Faithful}
use Rattle.runs_theory.proofs.runs.Faithful.{ForkAt, fork_upto, fork_above, follows_at, begun_upto}
use Rattle.runs_theory.proofs.events.Mine.{same_of}
use Rattle.runs_theory.proofs.events.Things.{same_some}
use Rattle.runs_theory.proofs.events.Upto.{upto_trans, upto_tail}
use Rattle.runs_theory.proofs.runs.Written.{legal_faithful}
use Rattle.runs_program.specs.Steps.{stepped}
use Rattle.lang_base.specs.declared.elems.Elem.TheVariants.{Local}
use Rattle.runs_sound.specs.Settings.{local_code}
use Rattle.runs_sound.specs.Accesses.{Access, Allowed, LiesIn, InOwnRegion, Bounds, is_guarded}
use Rattle.runs_sound.specs.Branches.{Meet, MayMeet}
use Rattle.runs_sound.specs.RunLaws.{RunsAreFree}
use Rattle.runs_sound.specs.Shapes.{Shapes, CellAt}
use Rattle.runs_sound.specs.Soundness.{cell_of}
use Rattle.runs_sound.specs.Work.{access_of}
use Rattle.runs_sound.proofs.moments.Branching.{stepped_disciplined}
use Rattle.runs_sound.proofs.moments.Cells.{one_cell}
use Rattle.runs_sound.proofs.accesses.Meeting.{own_differ, own_not_spoken}
use Rattle.runs_sound.proofs.moments.Sound.{Kept, branch_kept, Accessed, ForkedAt, EventOk, branches_of, Sound}
use Rattle.runs_sound.proofs.moments.Whole.{sound}

-- an access lies in what a task may do, or in a local region of its own; and it is guarded if the task began inside a block
pub record Lies (b : Bounds) (a : Access) : Type 0 where
  pub effects : LiesIn b.setting b.effects a ⊎ InOwnRegion b.path a.region
  pub inside : b.inside ≡ true → a.guarded ≡ true

abbrev pub access : {P : PlainProgram} {k : Kept} {S : Shapes} {es : Run} {n : Name} {i : ℤ} {write : Bool} → Accessed P k S es n i write → Access
access {k = k} {n = n} {i = i} {write = write} h = access_of k.bounds h.state n i write (put_in h.reaches.cell.env h.reaches.cell.rpl).elems

pub access_lies : {P : PlainProgram} {k : Kept} {S : Shapes} {es : Run} {n : Name} {i : ℤ} {write : Bool} (h : Accessed P k S es n i write) → Lies k.bounds (access h)
access_lies {k = k} h = record { effects = h.reaches.allowed.effects; inside = λ e. or_left k.bounds.inside _ e }

-- accesses of one cell
pub one_place : {P : PlainProgram} {b c : Kept} {S : Shapes} {es fs : Run} {n : Name} {i : ℤ} {w v : Bool} (h : Accessed P b S es n i w) (k : Accessed P c S fs n i v) → (w || v) ≡ true →
    Meet (access h) (access k)
one_place {P = P} {n = n} {i = i} h k e =
    let s = same_some (h.grown n h.reaches.cell.shape h.reaches.cell.is) (k.grown n k.reaches.cell.shape k.reaches.cell.is) in
    record {
      cells = (refl, refl);
      object = refl;
      index = refl;
      region = one_cell (subst (λ z. CellAt P z i h.reaches.cell.env h.reaches.cell.ty h.reaches.cell.rpl) s h.reaches.cell.cell) k.reaches.cell.cell
          (λ env ty rpl. (put_in h.reaches.cell.env h.reaches.cell.rpl).elems ≡ (put_in env rpl).elems) refl;
      write = e;
    }

module _ (P : PlainProgram) (arg : ℤ) {N : ℕ} {R : Run} (l : Faithful (stepped P arg) R) (s : Sound P (stepped P arg) N R) where
  abbrev Q : Program
  Q = stepped P arg

  -- what is said of a fork
  pub fork_sound : (q : Path) (u : ℕ × ℕ) (f : ForkAt R q u) → ForkedAt P (s.keeping q) (branches_of P Q s.keeping q (count f.before q)) s.shapes (mine f.before q) f.tasks
  fork_sound q u f = subst (λ c. EventOk P Q (s.keeping q) (branches_of P Q s.keeping q) s.shapes f.before q c) f.act
      (subst (λ x. EventOk P Q (s.keeping x) (branches_of P Q s.keeping x) s.shapes f.before x f.event.act) f.path (s.events f.event f.before f.stands))

  -- what a branch does is allowed where it was forked
  one_up : (q : Path) (u : ℕ × ℕ) (f : ForkAt R q u) (a : Access) → Lies (s.keeping (u ∷ q)).bounds a → Lies (s.keeping q).bounds a
  one_up q u f a h = record { effects = ⊎_elim (λ k. (within k).effects) (λ k. inr (further k)) up.effects; inside = λ e. guarded (or_left b.inside _ e) }
    where
      ok : ForkedAt P (s.keeping q) (branches_of P Q s.keeping q (count f.before q)) s.shapes (mine f.before q) f.tasks
      ok = fork_sound q u f

      b : Bounds
      b = (s.keeping q).bounds

      branch : Bounds
      branch = (branch_kept (s.keeping q) ok.state ok.forks (count f.before q) u.1).bounds

      up : Lies branch a
      up = subst (λ (k : Kept). Lies k.bounds a) (ap (λ n. s.keeping ((n, u.1) ∷ q)) (sym f.number) ∙ ok.kept u.1) h

      guarded : is_guarded b ok.state.entries ≡ true → a.guarded ≡ true
      guarded = up.inside

      within : LiesIn (ok.forks.setting u.1) (ok.forks.effects u.1) a → Allowed b ok.state.entries a
      within k = (ok.forks.branch u.1 f.task f.is_there).within a guarded k

      further : InOwnRegion ((count f.before q, u.1) ∷ b.path) a.region → InOwnRegion b.path a.region
      further o = record {
        below = o.below ++ (count f.before q, u.1) ∷ [];
        count = o.count;
        rest = o.rest;
        is = o.is ∙ ap (λ (p : Path). Local (local_code (Made p o.count)).0 (local_code (Made p o.count)).1 ∷ o.rest) (sym (append_assoc o.below ((count f.before q, u.1) ∷ []) b.path));
      }

  pub fork_of_event : (xs q : Path) (u : ℕ × ℕ) {Y : Run} {y : Event} → Upto (y ∷ Y) R → y.path ≡ xs ++ u ∷ q → ForkAt R q u
  fork_of_event xs q u h e = fork_upto (upto_tail h) (fork_above Q (stepped_disciplined P arg) xs q u l h e)

  -- so it lies in what each task above may do
  pub lies_up : (xs p : Path) {Y : Run} {y : Event} → Upto (y ∷ Y) R → y.path ≡ xs ++ p → (a : Access) → Lies (s.keeping (xs ++ p)).bounds a → Lies (s.keeping p).bounds a
  lies_up [] p h e a k = k
  lies_up (v ∷ xs) p h e a k =
      let f = fork_of_event [] (xs ++ p) v h e in
      lies_up xs p f.stands f.path a (one_up (xs ++ p) v f a k)

  -- a task that has made an event has its name
  pub path_of : (q : Path) {Y : Run} {y : Event} → Upto (y ∷ Y) R → y.path ≡ q → (s.keeping q).bounds.path ≡ q
  path_of q h e = (let a = follows_at Q h l in (s.tasks q a.task (subst (λ p. Begun Q R p a.task) e (begun_upto (upto_tail h) a.begun))).path)

  -- and so has each above
  pub path_up : (xs p : Path) {Y : Run} {y : Event} → Upto (y ∷ Y) R → y.path ≡ xs ++ p → (s.keeping p).bounds.path ≡ p
  path_up [] p h e = path_of p h e
  path_up (v ∷ xs) p h e = let f = fork_of_event [] (xs ++ p) v h e in path_up xs p f.stands f.path

  -- two accesses that meet do so as the fork of their branches lets them, and in no region that a task of these branches has made
  pub record Met (tasks : Branches) (p q : Path) (a c : Access) : Type 0 where
    pub nd_free : P.uses_nd ≡ false → tasks.kind ≡ Deterministic
    pub may : MayMeet P tasks.kind a c
    pub first_own : InOwnRegion p a.region → ⊥
    pub second_own : InOwnRegion q c.region → ⊥

  -- what a task may do, or a local region of its own
  abbrev pub LiesAt : Path → Access → Type 0
  LiesAt p a = LiesIn (s.keeping p).bounds.setting (s.keeping p).bounds.effects a ⊎ InOwnRegion (s.keeping p).bounds.path a.region

  pub met_at : {X Y : Run} {x y : Event} → (hx : Upto (x ∷ X) R) → Upto (y ∷ Y) R → (n : Unordered x.path y.path) → (a c : Access) → LiesAt (n.u ∷ n.above) a → LiesAt (n.v ∷ n.above) c → Meet a c →
      Met (fork_of_event n.below_p n.above n.u hx n.p_is).tasks (n.u ∷ n.above) (n.v ∷ n.above) a c
  met_at {x = x} {y = y} hx hy n a c la lc m = both up_a up_c
    where
      f : ForkAt R n.above n.u
      f = fork_of_event n.below_p n.above n.u hx n.p_is

      g : ForkAt R n.above n.v
      g = fork_of_event n.below_q n.above n.v hy n.q_is

      same : (f.event ≡ g.event) × (f.before ≡ g.before)
      same = same_of n.above f.stands g.stands f.path g.path (f.number ∙ n.one_fork ∙ sym g.number)

      tasks_same : ◌≡◌ {A = Action} (Fork g.tasks) (Fork f.tasks)
      tasks_same = sym g.act ∙ ap (λ (e : Event). e.act) (sym same.0) ∙ f.act

      there : slice_get f.tasks.tasks n.v.1 ≡ Some g.task
      there = let t : ◌≡◌ {A = Action} (Fork g.tasks) (Fork f.tasks) = tasks_same in let q : g.tasks ≡ f.tasks = cc in ap (λ (b : Branches). slice_get b.tasks n.v.1) (sym q) ∙ g.is_there

      ok : ForkedAt P (s.keeping n.above) (branches_of P Q s.keeping n.above (count f.before n.above)) s.shapes (mine f.before n.above) f.tasks
      ok = fork_sound n.above n.u f

      b : Bounds
      b = (s.keeping n.above).bounds

      own_path : b.path ≡ n.above
      own_path = path_of n.above f.stands f.path

      path_at : (w : ℕ × ℕ) → w.0 ≡ count f.before n.above → w ∷ n.above ≡ (count f.before n.above, w.1) ∷ b.path
      path_at w e = (let p = sym own_path in λ i. (e i, w.1) ∷ p i)

      up_a : LiesIn (ok.forks.setting n.u.1) (ok.forks.effects n.u.1) a ⊎ InOwnRegion ((count f.before n.above, n.u.1) ∷ b.path) a.region
      up_a = subst (λ (k : Kept). LiesIn k.bounds.setting k.bounds.effects a ⊎ InOwnRegion k.bounds.path a.region)
          (ap (λ z. s.keeping ((z, n.u.1) ∷ n.above)) (sym f.number) ∙ ok.kept n.u.1) la

      up_c : LiesIn (ok.forks.setting n.v.1) (ok.forks.effects n.v.1) c ⊎ InOwnRegion ((count f.before n.above, n.v.1) ∷ b.path) c.region
      up_c = subst (λ (k : Kept). LiesIn k.bounds.setting k.bounds.effects c ⊎ InOwnRegion k.bounds.path c.region)
          (ap (λ z. s.keeping ((z, n.v.1) ∷ n.above)) (sym (f.number ∙ n.one_fork)) ∙ ok.kept n.v.1) lc

      both : LiesIn (ok.forks.setting n.u.1) (ok.forks.effects n.u.1) a ⊎ InOwnRegion ((count f.before n.above, n.u.1) ∷ b.path) a.region →
          LiesIn (ok.forks.setting n.v.1) (ok.forks.effects n.v.1) c ⊎ InOwnRegion ((count f.before n.above, n.v.1) ∷ b.path) c.region → Met (fork_of_event n.below_p n.above n.u hx n.p_is).tasks (n.u ∷ n.above) (n.v ∷ n.above) a c
      both (inl i) (inl j) = record {
        nd_free = λ none. ok.nd_free.0 (inl none);
        may = ok.forks.quiet n.u.1 n.v.1 n.apart (slice_get_within f.tasks.tasks n.u.1 f.task f.is_there) (slice_get_within f.tasks.tasks n.v.1 g.task there) a c m i j;
        first_own = λ o. (let ff = (ok.forks.branch n.v.1 g.task there).fits 0 in
            own_not_spoken b.path (count f.before n.above, n.u.1) 0 n.v.1 (ok.forks.setting n.v.1) ff.plain ff.old (ok.forks.effects n.v.1) c
            (subst (InOwnRegion ((count f.before n.above, n.u.1) ∷ b.path)) m.region (subst (λ p. InOwnRegion p a.region) (path_at n.u (sym f.number)) o)) j);
        second_own = λ o. (let ff = (ok.forks.branch n.u.1 f.task f.is_there).fits 0 in
            own_not_spoken b.path (count f.before n.above, n.v.1) 0 n.u.1 (ok.forks.setting n.u.1) ff.plain ff.old (ok.forks.effects n.u.1) a
            (subst (InOwnRegion ((count f.before n.above, n.v.1) ∷ b.path)) (sym m.region) (subst (λ p. InOwnRegion p c.region) (path_at n.v (sym (f.number ∙ n.one_fork))) o)) i);
      }
      both (inl i) (inr j) =
          let ff = (ok.forks.branch n.u.1 f.task f.is_there).fits 0 in
          absurd (own_not_spoken b.path (count f.before n.above, n.v.1) 0 n.u.1 (ok.forks.setting n.u.1) ff.plain ff.old (ok.forks.effects n.u.1) a
          (subst (InOwnRegion ((count f.before n.above, n.v.1) ∷ b.path)) (sym m.region) j) i)
      both (inr i) (inl j) =
          let ff = (ok.forks.branch n.v.1 g.task there).fits 0 in
          absurd (own_not_spoken b.path (count f.before n.above, n.u.1) 0 n.v.1 (ok.forks.setting n.v.1) ff.plain ff.old (ok.forks.effects n.v.1) c
          (subst (InOwnRegion ((count f.before n.above, n.u.1) ∷ b.path)) m.region i) j)
      both (inr i) (inr j) = absurd (own_differ b.path (count f.before n.above, n.u.1) (count f.before n.above, n.v.1) c.region n.apart
          (subst (InOwnRegion ((count f.before n.above, n.u.1) ∷ b.path)) m.region i) j)

  pub met : {X Y : Run} {x y : Event} → (hx : Upto (x ∷ X) R) → Upto (y ∷ Y) R → (n : Unordered x.path y.path) → (a c : Access) → Lies (s.keeping x.path).bounds a → Lies (s.keeping y.path).bounds c → Meet a c →
      Met (fork_of_event n.below_p n.above n.u hx n.p_is).tasks (n.u ∷ n.above) (n.v ∷ n.above) a c
  met {x = x} {y = y} hx hy n a c la lc m = met_at hx hy n a c
      (lies_up n.below_p (n.u ∷ n.above) hx n.p_is a (subst (λ p. Lies (s.keeping p).bounds a) n.p_is la)).effects
      (lies_up n.below_q (n.v ∷ n.above) hy n.q_is c (subst (λ p. Lies (s.keeping p).bounds c) n.q_is lc)).effects m

  read_ok : {X : Run} {x : Event} → Upto (x ∷ X) R → (c : Cell) → Reads c x → Accessed P (s.keeping x.path) s.shapes (mine X x.path) c.object (pos c.slot) false
  read_ok {X} {x} h c r = subst (λ z. EventOk P Q (s.keeping x.path) (branches_of P Q s.keeping x.path) s.shapes X x.path z) r.act (s.events x X h)

  write_ok : {X : Run} {x : Event} → Upto (x ∷ X) R → (c : Cell) → Writes c x → Accessed P (s.keeping x.path) s.shapes (mine X x.path) c.object (pos c.slot) true
  write_ok {X} {x} h c w = subst (λ z. EventOk P Q (s.keeping x.path) (branches_of P Q s.keeping x.path) s.shapes X x.path z) w.act (s.events x X h)

  -- the accesses of a conflict
  pub record Clash (X : Run) (x : Event) (Y : Run) (y : Event) : Type 0 where
    pub cell : Cell
    pub left : Bool
    pub right : Bool
    pub first : Accessed P (s.keeping x.path) s.shapes (mine X x.path) cell.object (pos cell.slot) left
    pub second : Accessed P (s.keeping y.path) s.shapes (mine Y y.path) cell.object (pos cell.slot) right
    pub write : (left || right) ≡ true

  pub clash_of : {X Y : Run} {x y : Event} → Upto (x ∷ X) R → Upto (y ∷ Y) R → Conflict x y → Clash X x Y y
  clash_of hx hy (read_write c r w) = record { cell = c; left = false; right = true; first = read_ok hx c r; second = write_ok hy c w; write = refl }
  clash_of hx hy (write_read c w r) = record { cell = c; left = true; right = false; first = write_ok hx c w; second = read_ok hy c r; write = refl }
  clash_of hx hy (write_write c v w) = record { cell = c; left = true; right = true; first = write_ok hx c v; second = write_ok hy c w; write = refl }

  pub clash_on : {X Y : Run} {x y : Event} (hx : Upto (x ∷ X) R) (hy : Upto (y ∷ Y) R) (c : Conflict x y) → (clash_of hx hy c).cell ≡ cell_of c
  unfolding clash_of
  clash_on hx hy (read_write c r w) = refl
  clash_on hx hy (write_read c w r) = refl
  clash_on hx hy (write_write c v w) = refl

  pub clash_met : {X Y : Run} {x y : Event} → (hx : Upto (x ∷ X) R) → Upto (y ∷ Y) R → (n : Unordered x.path y.path) → (k : Clash X x Y y) →
      Met (fork_of_event n.below_p n.above n.u hx n.p_is).tasks (n.u ∷ n.above) (n.v ∷ n.above) (access k.first) (access k.second)
  clash_met hx hy n k = met hx hy n (access k.first) (access k.second) (access_lies k.first) (access_lies k.second) (one_place k.first k.second k.write)

-- so no legal run of a program without nd constructs has unordered conflicts
pub runs_are_free : RunsAreFree
runs_are_free P wt none arg small R l = record { no = λ Y X y x hy hx n c. never Y X y x hy hx n c }
  where
    s : Sound P (stepped P arg) (length R) R
    s = sound P wt arg small (length R) R (legal_faithful (stepped P arg) R l) (omega arith)

    never : (Y X : Run) (y x : Event) → Upto (y ∷ Y) R → Upto (x ∷ X) Y → Unordered x.path y.path → Conflict x y → ⊥
    never Y X y x hy hx n c =
        let f = legal_faithful (stepped P arg) R l in
        let up = upto_trans hx (upto_tail hy) in
        let k = clash_of P arg f s up hy c in
        let m = clash_met P arg f s up hy n k in
        subst (λ z. MayMeet P z (access k.first) (access k.second)) (m.nd_free none) m.may
