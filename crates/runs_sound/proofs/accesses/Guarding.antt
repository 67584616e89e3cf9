-- Where an access is guarded its task stands inside a block, of whose entry some effect speaks of the access, or in a local region
-- that was made inside; so unordered conflicts are guarded.
use Rattle.std.proofs.Common.{◌≡◌, ◌<◌, ◌≤◌, ◌⊎◌, ⊎_elim, inl, inr, ℕ, suc, ℤ, Bool, true, false, ◌||◌, List, [], ◌∷◌, ◌++◌, length, refl, sym, ap, ◌∙◌, subst, arith, append_assoc}
use Rattle.std.proofs.lemmas.Bool.{false≢true, or_left, or_right, or_parts, cases_Bool}
use Rattle.lang_base.specs.Branches.{ends_atomic}
use Rattle.lang_typed.specs.declared.stmt.Forking.{Forking}
use Rattle.lang_typed.specs.declared.stmt.Forking.TheVariants.{Deterministic, Nondeterministic}
use Rattle.lang_typed.specs.Plain.{PlainProgram}
use Rattle.runs_reduction.specs.Guarded.{InBlock, Barred, Guarded}
use Rattle.runs_theory.specs.Actions.{Action, Answer, Begin, Branches, Do, End, Enter, Exit, Fork, Join, Look, New, Print, Program, Read, Rest, Task, Write}
use Rattle.runs_theory.specs.Blocks.{Hold, Out_of, In_block, own_hold, hold, hold_after}
use Rattle.runs_theory.specs.Objects.{Path, Name, Made, Effect}
use Rattle.runs_theory.specs.Order.{Unordered, Conflict}
use Rattle.runs_theory.specs.Runs.{Event, Run, Upto, now, later, answers, mine, count, Begun, Faithful}
use Rattle.runs_theory.specs.Standing.{Standing, Outside, Inside, first_of, joined_by, above, standing}
use Rattle.runs_theory.proofs.runs.Faithful.{ForkAt, fork_above, own_fork, faithful_upto, follows_at, begun_upto}
use Rattle.runs_theory.proofs.events.Mine.{mine_at, mine_upto}
use Rattle.runs_theory.proofs.runs.Standing.{first_is, hold_since, only_begins, above_nil, above_step, above_same, Joined_by, from_above, own, joined_cases}
use Rattle.runs_theory.proofs.events.Upto.{upto_trans, upto_tail}
use Rattle.runs_theory.proofs.runs.Written.{legal_faithful}
use Rattle.runs_program.specs.Interfering.{lets}
use Rattle.runs_program.specs.Steps.{stepped}
use Rattle.lang_base.specs.declared.elems.Elem.TheVariants.{Local}
use Rattle.runs_sound.specs.Settings.{local_code}
use Rattle.runs_sound.specs.Accesses.{Bounds, Access, Entry, LiesIn, InLaterRegion, InOwnRegion, LiesInEntry, is_entered, is_guarded, InEachEntry, Allowed}
use Rattle.runs_sound.specs.Branches.{MayMeet}
use Rattle.runs_sound.specs.RunLaws.{ConflictsAreGuarded, NdForksAreOutside}
use Rattle.runs_sound.specs.Runs.{entries_then, own_entries}
use Rattle.runs_sound.specs.Soundness.{before_block, before_entry, cell_of, ConflictIsAtomic, InBlockRegion, MadeInside}
use Rattle.runs_sound.proofs.paths.Barred.{entries_barred}
use Rattle.runs_sound.proofs.moments.Acting.{held_by}
use Rattle.runs_sound.proofs.moments.Branching.{stepped_disciplined}
use Rattle.runs_sound.proofs.accesses.Free.{access, Met, fork_sound, Clash, clash_of, clash_on, clash_met, one_place}
use Rattle.runs_sound.proofs.moments.Sound.{Kept, branch_kept, made_of, hold_of, Accessed, Sound, ForkedAt, EventOk, branches_of}
use Rattle.runs_sound.proofs.moments.Whole.{sound}

-- the outermost of entries
abbrev outermost : Entry → List Entry → Entry
outermost E [] = E
outermost E (F ∷ Es) = outermost F Es

outermost_held : (E : Entry) (Es : List Entry) → (inner : ℕ) × (hold_of (E ∷ Es) ≡ In_block inner (outermost E Es).effects)
outermost_held E [] = (0, refl)
outermost_held E (F ∷ Es) = let r = outermost_held F Es in (suc r.0, ap (own_hold (Enter E.effects)) r.1)

-- it speaks of an access of which each does
outermost_lies : (p : Path) (E : Entry) (Es : List Entry) (a : Access) → InEachEntry p (E ∷ Es) a →
    LiesInEntry (outermost E Es).effects a ⊎ InLaterRegion p (outermost E Es).made a.region
outermost_lies p E [] a h = h.0
outermost_lies p E (F ∷ Es) a h = outermost_lies p F Es a h.1

-- after more of a task's own events it is the same, as long as the task stands inside it
outermost_stays : (n : ℕ) (a : Action) (F : Entry) (Fs : List Entry) (E : Entry) (Es : List Entry) → entries_then n a (F ∷ Fs) ≡ E ∷ Es → outermost E Es ≡ outermost F Fs
outermost_stays n (Do (Enter G)) F Fs E Es e = sym (ap (λ (l : List Entry). outermost E l) e)
outermost_stays n (Do Exit) F Fs E Es e = sym (ap (λ (l : List Entry). outermost F l) e)
outermost_stays n (Do Rest) F Fs E Es e = sym (ap (λ (l : List Entry). outermost E l) e)
outermost_stays n (Do (Read c i)) F Fs E Es e = sym (ap (λ (l : List Entry). outermost E l) e)
outermost_stays n (Do (Write c i v)) F Fs E Es e = sym (ap (λ (l : List Entry). outermost E l) e)
outermost_stays n (Do (Look c)) F Fs E Es e = sym (ap (λ (l : List Entry). outermost E l) e)
outermost_stays n (Do (New t c)) F Fs E Es e = sym (ap (λ (l : List Entry). outermost E l) e)
outermost_stays n (Do (Print bytes)) F Fs E Es e = sym (ap (λ (l : List Entry). outermost E l) e)
outermost_stays n (Fork ts) F Fs E Es e = sym (ap (λ (l : List Entry). outermost E l) e)
outermost_stays n (Begin i) F Fs E Es e = sym (ap (λ (l : List Entry). outermost E l) e)
outermost_stays n Join F Fs E Es e = sym (ap (λ (l : List Entry). outermost E l) e)
outermost_stays n (End x) F Fs E Es e = absurd (let k : [] ≡ E ∷ Es = e in cc)

-- and it is made where the task stands in no other
outermost_new : (n : ℕ) (a : Action) (E : Entry) (Es : List Entry) → entries_then n a [] ≡ E ∷ Es → (outermost E Es).made ≡ n
outermost_new n (Do (Enter G)) E Es e = sym (ap (λ (l : List Entry). (outermost E l).made) e)
outermost_new n (Do Exit) E Es e = absurd (let k : [] ≡ E ∷ Es = e in cc)
outermost_new n (Do Rest) E Es e = absurd (let k : [] ≡ E ∷ Es = e in cc)
outermost_new n (Do (Read c i)) E Es e = absurd (let k : [] ≡ E ∷ Es = e in cc)
outermost_new n (Do (Write c i v)) E Es e = absurd (let k : [] ≡ E ∷ Es = e in cc)
outermost_new n (Do (Look c)) E Es e = absurd (let k : [] ≡ E ∷ Es = e in cc)
outermost_new n (Do (New t c)) E Es e = absurd (let k : [] ≡ E ∷ Es = e in cc)
outermost_new n (Do (Print bytes)) E Es e = absurd (let k : [] ≡ E ∷ Es = e in cc)
outermost_new n (Fork ts) E Es e = absurd (let k : [] ≡ E ∷ Es = e in cc)
outermost_new n (Begin i) E Es e = absurd (let k : [] ≡ E ∷ Es = e in cc)
outermost_new n Join E Es e = absurd (let k : [] ≡ E ∷ Es = e in cc)
outermost_new n (End x) E Es e = absurd (let k : [] ≡ E ∷ Es = e in cc)

-- where a task stands inside entries of its own, the outermost says how many local regions it had made, and its events before that are fewer
outermost_made : (made : List Answer → ℕ) (es : Run) (E : Entry) (Es : List Entry) → own_entries made es ≡ E ∷ Es →
    ((outermost E Es).made ≡ made (answers (before_block es))) × (length (before_block es) < length es)
outermost_made made [] E Es e = absurd (let k : [] ≡ E ∷ Es = e in cc)
outermost_made made (y ∷ es) E Es e = by (λ F Fs. outermost_made made es F Fs) (own_entries made es) refl
  where
    block_is : (Fs : List Entry) → own_entries made es ≡ Fs → before_block (y ∷ es) ≡ before_entry (hold_of Fs) es (before_block es)
    block_is Fs q = ap (λ h. before_entry h es (before_block es)) (held_by made es (sym q))

    by : ((F : Entry) (Fs : List Entry) → own_entries made es ≡ F ∷ Fs → ((outermost F Fs).made ≡ made (answers (before_block es))) × (length (before_block es) < length es)) →
        (Fs : List Entry) → own_entries made es ≡ Fs → ((outermost E Es).made ≡ made (answers (before_block (y ∷ es)))) × (length (before_block (y ∷ es)) < suc (length es))
    by rec [] q = (
      outermost_new (made (answers es)) y.act E Es (ap (entries_then (made (answers es)) y.act) (sym q) ∙ e) ∙ ap (λ ys. made (answers ys)) (sym (block_is [] q)),
      (let n = ap length (block_is [] q) in omega (arith, n)),
    )
    by rec (F ∷ Fs) q =
        let r = rec F Fs q in
        let inner = outermost_held F Fs in
        let same : before_block (y ∷ es) ≡ before_block es = block_is (F ∷ Fs) q ∙ ap (λ h. before_entry h es (before_block es)) inner.1 in (
          ap (λ (G : Entry). G.made) (outermost_stays (made (answers es)) y.act F Fs E Es (ap (entries_then (made (answers es)) y.act) (sym q) ∙ e)) ∙ r.0 ∙ ap (λ ys. made (answers ys)) (sym same),
          (let n = ap length same in let l = r.1 in omega (arith, n, l)),
        )

-- a task that has only begun branches since stands inside the same block
block_since : {es L : Run} (n : ℕ) (E : List Effect) → hold es ≡ In_block n E → Upto es L → ((X : Run) (x : Event) → Upto (x ∷ X) L → length es ≤ length X → (b : ℕ) × (x.act ≡ Begin b)) →
    before_block L ≡ before_block es
block_since n E h now f = refl
block_since {es} n E h (later {y = y} {ys = ys} u) f =
    ap (λ k. before_entry k ys (before_block ys)) (hold_since u (λ X x v l. f X x (later v) l) ∙ h) ∙ block_since n E h u (λ X x v l. f X x (later v) l)

-- a region of a task is one of each task above
pub own_further : (below p : Path) (a : Access) → InOwnRegion (below ++ p) a.region → InOwnRegion p a.region
own_further below p a o = record {
  below = o.below ++ below;
  count = o.count;
  rest = o.rest;
  is = o.is ∙ ap (λ (q : Path). Local (local_code (Made q o.count)).0 (local_code (Made q o.count)).1 ∷ o.rest) (sym (append_assoc o.below below p));
}

-- and a local region made inside a block is one of its opener
made_inside : (made : List Answer → ℕ) (es : Run) (p : Path) (a : Access) → InBlockRegion made es p a.region → InOwnRegion p a.region
made_inside made es p a o = elim o.inside [
  | inl k ↦ record { below = []; count = o.count; rest = o.rest; is = o.is ∙ ap (λ (q : Path). Local (local_code (Made q o.count)).0 (local_code (Made q o.count)).1 ∷ o.rest) k.0 }
  | inr k ↦ record {
    below = k.0 ++ k.1 ∷ [];
    count = o.count;
    rest = o.rest;
    is = o.is ∙ ap (λ (q : Path). Local (local_code (Made q o.count)).0 (local_code (Made q o.count)).1 ∷ o.rest) (k.2 ∙ sym (append_assoc k.0 (k.1 ∷ []) p));
  }
]

module _ (P : PlainProgram) (arg : ℤ) {N : ℕ} {R : Run} (l : Faithful (stepped P arg) R) (s : Sound P (stepped P arg) N R) where
  abbrev Q : Program
  Q = stepped P arg

  -- what a task was begun in, by its fork
  forked_first : (q : Path) (u : ℕ × ℕ) (f : ForkAt R q u) → first_of u.0 (mine R q) ≡ mine f.before q
  forked_first q u f = subst (λ n. first_of n (mine R q) ≡ mine f.before q) f.number (first_is (upto_tail (mine_at q f.stands f.path)))

  pub above_fork : (q : Path) (u : ℕ × ℕ) (f : ForkAt R q u) → above R (u ∷ q) ≡ joined_by (above R q) q (hold_of (fork_sound P arg l s q u f).state.entries)
  above_fork q u f =
      above_step R u q ∙ ap (λ es. joined_by (above R q) q (hold es)) (forked_first q u f) ∙ ap (joined_by (above R q) q) (fork_sound P arg l s q u f).held

  pub record Parent (q : Path) (u : ℕ × ℕ) : Type 0 where
    pub fork : ForkAt R q u
    pub task : Task
    pub begun : Begun Q R q task

  pub parent : (q : Path) (u : ℕ × ℕ) (t : Task) → Begun Q R (u ∷ q) t → Parent q u
  parent q u t b =
      let f = own_fork Q (stepped_disciplined P arg) (u ∷ q) q u b refl in
      let a = follows_at Q f.stands l in
      record { fork = f; task = a.task; begun = subst (λ p. Begun Q R p a.task) f.path (begun_upto (upto_tail f.stands) a.begun) }

  -- what a branch keeps to
  pub kept_is : (q : Path) (u : ℕ × ℕ) (f : ForkAt R q u) →
      s.keeping (u ∷ q) ≡ branch_kept (s.keeping q) (fork_sound P arg l s q u f).state (fork_sound P arg l s q u f).forks (count f.before q) u.1
  kept_is q u f = ap (λ n. s.keeping ((n, u.1) ∷ q)) (sym f.number) ∙ (fork_sound P arg l s q u f).kept u.1

  pub none_entered : (Es : List Entry) → is_entered Es ≡ false → hold_of Es ≡ Out_of
  none_entered [] h = refl
  none_entered (E ∷ Es) h = absurd (false≢true (sym h))

  -- a task that began inside no block
  pub outside_at : (p : Path) (t : Task) → Begun Q R p t → (s.keeping p).bounds.inside ≡ false → above R p ≡ Outside
  outside_at [] t b h = above_nil R
  outside_at (u ∷ q) t b h =
      let k = parent q u t b in
      let ok = fork_sound P arg l s q u k.fork in
      let z = or_parts (s.keeping q).bounds.inside (is_entered ok.state.entries) (sym (ap (λ (k : Kept). k.bounds.inside) (kept_is q u k.fork)) ∙ h) in
      above_fork q u k.fork ∙ ap (λ w. joined_by w q (hold_of ok.state.entries)) (outside_at q k.task k.begun z.0) ∙ ap (joined_by Outside q) (none_entered ok.state.entries z.1)

  -- the own events of an opener at which its block was begun in, where a task with these events of its own stands inside it
  abbrev Opened : Path → Run → Path → Run → Type 0
  Opened p es opener events = ((opener ≡ p) × (events ≡ es)) ⊎ ((xs : Path) × (u : ℕ × ℕ) × (p ≡ xs ++ u ∷ opener) × (events ≡ first_of u.0 (mine R opener)))

  -- the block that a task stands in that stands inside these entries of its own, after these events of its own
  record BlockAt (p : Path) (es : Run) (Es : List Entry) (a : Access) : Type 0 where
    pub opener : Path
    pub effects : List Effect
    pub is : joined_by (above R p) p (hold_of Es) ≡ Inside opener effects
    pub events : Run
    pub opened : Opened p es opener events
    pub inner : ℕ
    pub held : hold events ≡ In_block inner effects
    pub lies : LiesInEntry effects a ⊎ InBlockRegion (made_of (s.keeping opener)) events opener a.region

  name : (p : Path) (t : Task) → Begun Q R p t → (s.keeping p).bounds.path ≡ p
  name p t b = (s.tasks p t b).path

  -- it is allowed, or in a local region that was made below, in a branch of what comes next
  abbrev AllowedAt : Path → Run → List Entry → Access → Type 0
  AllowedAt p es Es a = Allowed (s.keeping p).bounds Es a ⊎ ((i : ℕ) × InOwnRegion ((length es, i) ∷ p) a.region)

  abbrev Entered : Path → Run → List Entry → Type 0
  Entered p es Es = Es ≡ own_entries (made_of (s.keeping p)) es

  -- a block of its own
  own_entry : (p : Path) (t : Task) → Begun Q R p t → (es : Run) (Es : List Entry) → Entered p es Es → (a : Access) → AllowedAt p es Es a → above R p ≡ Outside → is_entered Es ≡ true →
      BlockAt p es Es a
  own_entry p t b es [] en a h o n = absurd (false≢true n)
  own_entry p t b es (E ∷ Es) en a h o n = record {
    opener = p;
    effects = (outermost E Es).effects;
    is = ap (λ w. joined_by w p (hold_of (E ∷ Es))) o ∙ ap (joined_by Outside p) inner.1;
    events = es;
    opened = inl (refl, refl);
    inner = inner.0;
    held = held_by (made_of (s.keeping p)) es en ∙ inner.1;
    lies = ⊎_elim allowed below h;
  }
    where
      inner : (inner : ℕ) × (hold_of (E ∷ Es) ≡ In_block inner (outermost E Es).effects)
      inner = outermost_held E Es

      at : ((outermost E Es).made ≡ made_of (s.keeping p) (answers (before_block es))) × (length (before_block es) < length es)
      at = outermost_made (made_of (s.keeping p)) es E Es (sym en)

      allowed : Allowed (s.keeping p).bounds (E ∷ Es) a → LiesInEntry (outermost E Es).effects a ⊎ InBlockRegion (made_of (s.keeping p)) es p a.region
      allowed k = ⊎_elim (λ i. inl i)
          (λ o. inr (record { maker = (s.keeping p).bounds.path; count = o.count; inside = inl (name p t b, subst (λ m. m ≤ o.count) at.0 o.later); rest = o.rest; is = o.is }))
          (outermost_lies (s.keeping p).bounds.path E Es a k.blocks)

      below : (i : ℕ) × InOwnRegion ((length es, i) ∷ p) a.region → LiesInEntry (outermost E Es).effects a ⊎ InBlockRegion (made_of (s.keeping p)) es p a.region
      below k = inr (record { maker = k.1.below ++ (length es, k.0) ∷ p; count = k.1.count; inside = inr (k.1.below, (length es, k.0), refl, at.1); rest = k.1.rest; is = k.1.is })

  -- what a branch does is allowed at its fork
  at_fork : (q : Path) (t : Task) → Begun Q R q t → (u : ℕ × ℕ) (f : ForkAt R q u) (es : Run) (Es : List Entry) (a : Access) → AllowedAt (u ∷ q) es Es a →
      (is_guarded (s.keeping q).bounds (fork_sound P arg l s q u f).state.entries ≡ true → a.guarded ≡ true) →
      AllowedAt q (mine f.before q) (fork_sound P arg l s q u f).state.entries a
  at_fork q t b u f es Es a h g = ⊎_elim (λ k. spoken (subst (λ (k : Kept). LiesIn k.bounds.setting k.bounds.effects a ⊎ InOwnRegion k.bounds.path a.region) (kept_is q u f) k.effects))
      (λ o. inr (u.1, subst (λ n. InOwnRegion ((n, u.1) ∷ q) a.region) (sym f.number) (own_further ((length es, o.0) ∷ []) (u ∷ q) a o.1))) h
    where
      spoken : LiesIn ((fork_sound P arg l s q u f).forks.setting u.1) ((fork_sound P arg l s q u f).forks.effects u.1) a ⊎ InOwnRegion ((count f.before q, u.1) ∷ (s.keeping q).bounds.path) a.region →
          AllowedAt q (mine f.before q) (fork_sound P arg l s q u f).state.entries a
      spoken (inl k) = inl (((fork_sound P arg l s q u f).forks.branch u.1 f.task f.is_there).within a g k)
      spoken (inr o) = inr (u.1, subst (λ p. InOwnRegion ((count f.before q, u.1) ∷ p) a.region) (name q t b) o)

  block_step : (q : Path) (u : ℕ × ℕ) (t : Task) → Begun Q R (u ∷ q) t → (k : Parent q u) (es : Run) (Es : List Entry) → Entered (u ∷ q) es Es → (a : Access) → AllowedAt (u ∷ q) es Es a →
      (is_guarded (s.keeping (u ∷ q)).bounds Es ≡ true → a.guarded ≡ true) → is_guarded (s.keeping (u ∷ q)).bounds Es ≡ true →
      (AllowedAt q (mine k.fork.before q) (fork_sound P arg l s q u k.fork).state.entries a →
      (is_guarded (s.keeping q).bounds (fork_sound P arg l s q u k.fork).state.entries ≡ true → a.guarded ≡ true) →
      is_guarded (s.keeping q).bounds (fork_sound P arg l s q u k.fork).state.entries ≡ true → BlockAt q (mine k.fork.before q) (fork_sound P arg l s q u k.fork).state.entries a) → BlockAt (u ∷ q) es Es a
  block_step q u t b k es Es en a h g e rec = ⊎_elim inner
      (λ i. own_entry (u ∷ q) t b es Es en a h (outside_at (u ∷ q) t b i) (sym (ap (λ c. c || is_entered Es) i) ∙ e)) (cases_Bool (s.keeping (u ∷ q)).bounds.inside)
    where
      inside_is : (s.keeping (u ∷ q)).bounds.inside ≡ is_guarded (s.keeping q).bounds (fork_sound P arg l s q u k.fork).state.entries
      inside_is = ap (λ (k : Kept). k.bounds.inside) (kept_is q u k.fork)

      guard : is_guarded (s.keeping q).bounds (fork_sound P arg l s q u k.fork).state.entries ≡ true → a.guarded ≡ true
      guard x = g (or_left (s.keeping (u ∷ q)).bounds.inside (is_entered Es) (inside_is ∙ x))

      above_it : (o : Path) (events : Run) → Opened q (mine k.fork.before q) o events → Opened (u ∷ q) es o events
      above_it o events (inl z) = inr ([], u, ap (λ r. u ∷ r) (sym z.0), subst (λ r. events ≡ first_of u.0 (mine R r)) (sym z.0) (z.1 ∙ sym (forked_first q u k.fork)))
      above_it o events (inr z) = inr (u ∷ z.0, z.1, ap (λ r. u ∷ r) z.2, z.3)

      inner : (s.keeping (u ∷ q)).bounds.inside ≡ true → BlockAt (u ∷ q) es Es a
      inner i =
          let z = rec (at_fork q k.task k.begun u k.fork es Es a h guard) guard (sym inside_is ∙ i) in
          record {
            opener = z.opener;
            effects = z.effects;
            is = ap (λ w. joined_by w (u ∷ q) (hold_of Es)) (above_fork q u k.fork ∙ z.is);
            events = z.events;
            opened = above_it z.opener z.events z.opened;
            inner = z.inner;
            held = z.held;
            lies = z.lies;
          }

  -- where an access is guarded
  block_at : (p : Path) (t : Task) → Begun Q R p t → (es : Run) (Es : List Entry) → Entered p es Es → (a : Access) → AllowedAt p es Es a →
      (is_guarded (s.keeping p).bounds Es ≡ true → a.guarded ≡ true) → is_guarded (s.keeping p).bounds Es ≡ true → BlockAt p es Es a
  block_at [] t b es Es en a h g e = own_entry [] t b es Es en a h (above_nil R) (sym (ap (λ c. c || is_entered Es) s.root) ∙ e)
  block_at (u ∷ q) t b es Es en a h g e =
      let k = parent q u t b in
      let ok = fork_sound P arg l s q u k.fork in
      block_step q u t b k es Es en a h g e (λ h' g' e'. block_at q k.task k.begun (mine k.fork.before q) ok.state.entries ok.entered a h' g' e')

  -- an opener above a task that goes on has begun branches alone since
  block_now : {X : Run} {x : Event} → Upto (x ∷ X) R → (o : Path) (events : Run) → Opened x.path (mine X x.path) o events → (n : ℕ) (E : List Effect) → hold events ≡ In_block n E →
      before_block (mine X o) ≡ before_block events
  block_now {X} {x} hx o events (inl z) n E held = ap before_block (ap (mine X) z.0 ∙ sym z.1)
  block_now {X} {x} hx o events (inr (xs, u, p_is, first)) n E held =
      block_since n E (ap (λ c. hold_after c (hold (mine f.before o))) f.act ∙ block) since (λ Z z v m. only_begins Q (stepped_disciplined P arg) xs o u lx p_is Z z v (let k = f.number in omega (arith, m, k)))
      ∙ ap (λ k. before_entry k (mine f.before o) (before_block (mine f.before o))) block ∙ ap before_block (sym same)
    where
      lx : Faithful Q (x ∷ X)
      lx = faithful_upto Q hx l

      f : ForkAt X o u
      f = fork_above Q (stepped_disciplined P arg) xs o u lx now p_is

      since : Upto (f.event ∷ mine f.before o) (mine X o)
      since = mine_at o f.stands f.path

      same : events ≡ mine f.before o
      same = first ∙ subst (λ k. first_of k (mine R o) ≡ mine f.before o) f.number (first_is (upto_trans (upto_tail since) (mine_upto o (upto_tail hx))))

      block : hold (mine f.before o) ≡ In_block n E
      block = ap hold (sym same) ∙ held

  -- the block in which an event with a guarded access stands
  pub record StandsAt (X : Run) (x : Event) (a : Access) : Type 0 where
    pub block : InBlock X x.path
    pub above_is : joined_by (above R x.path) x.path (hold (mine X x.path)) ≡ Inside block.opener block.effects
    pub lies : LiesInEntry block.effects a ⊎ InBlockRegion (made_of (s.keeping block.opener)) (mine X block.opener) block.opener a.region

  pub stands_at : {X : Run} {x : Event} → Upto (x ∷ X) R → {n : Name} {i : ℤ} {write : Bool} (h : Accessed P (s.keeping x.path) s.shapes (mine X x.path) n i write) → (access h).guarded ≡ true →
      StandsAt X x (access h)
  stands_at {X} {x} hx h g =
      let f = follows_at Q hx l in
      let b = begun_upto (upto_tail hx) f.begun in
      let z = block_at x.path f.task b (mine X x.path) h.state.entries h.entered (access h) (inl h.reaches.allowed) (λ e. e) g in
      let is : joined_by (above R x.path) x.path (hold (mine X x.path)) ≡ Inside z.opener z.effects = ap (joined_by (above R x.path) x.path) h.held ∙ z.is in
      let same : above X x.path ≡ above R x.path =
      above_same Q (faithful_upto Q (upto_tail hx) l) (record { each = λ p. mine_upto p (upto_tail hx) }) x.path f.begun in
      record { block = record { opener = z.opener; effects = z.effects; stands = ap (λ w. joined_by w x.path (hold (mine X x.path))) same ∙ is }; above_is = is; lies = still z.opener z.events (block_now hx z.opener z.events z.opened z.inner z.effects z.held) z.effects z.lies }
    where
      still : (o : Path) (events : Run) → before_block (mine X o) ≡ before_block events → (E : List Effect) → LiesInEntry E (access h) ⊎ InBlockRegion (made_of (s.keeping o)) events o (access h).region →
          LiesInEntry E (access h) ⊎ InBlockRegion (made_of (s.keeping o)) (mine X o) o (access h).region
      still o events same E (inl k) = inl k
      still o events same E (inr k) = inr (record {
        maker = k.maker;
        count = k.count;
        inside = subst (λ ys. MadeInside (made_of (s.keeping o) (answers ys)) (length ys) o k.maker k.count) (sym same) k.inside;
        rest = k.rest;
        is = k.is;
      })

  -- where a task has entered none and was begun in none, it stands outside
  pub stands_outside : {X : Run} {x : Event} → Upto (x ∷ X) R → (Es : List Entry) → hold (mine X x.path) ≡ hold_of Es → is_guarded (s.keeping x.path).bounds Es ≡ false → standing X x.path ≡ Outside
  stands_outside {X} {x} hx Es held out =
      let z = or_parts (s.keeping x.path).bounds.inside (is_entered Es) out in
      let f = follows_at Q hx l in
      let same : above X x.path ≡ above R x.path =
      above_same Q (faithful_upto Q (upto_tail hx) l) (record { each = λ p. mine_upto p (upto_tail hx) }) x.path f.begun in
      ap (λ w. joined_by w x.path (hold (mine X x.path))) (same ∙ outside_at x.path f.task (begun_upto (upto_tail hx) f.begun) z.0) ∙ ap (joined_by Outside x.path) (held ∙ none_entered Es z.1)

  -- all tasks below a branch that was begun in a block stand in it
  inside_below : (xs q o : Path) (E : List Effect) → above R q ≡ Inside o E → above R (xs ++ q) ≡ Inside o E
  inside_below [] q o E h = h
  inside_below (w ∷ xs) q o E h = above_step R w (xs ++ q) ∙ ap (λ z. joined_by z (xs ++ q) (hold (first_of w.0 (mine R (xs ++ q))))) (inside_below xs q o E h)

  -- and below one that wasn't, their blocks are opened there
  pub opened_below : (xs q : Path) (h : Hold) (o : Path) (E : List Effect) → above R q ≡ Outside → joined_by (above R (xs ++ q)) (xs ++ q) h ≡ Inside o E → (ys : Path) × (o ≡ ys ++ q)
  opened_below [] q h o E out e = by (joined_cases (above R q) q h o E e)
    where
      by : Joined_by (above R q) q h o E → (ys : Path) × (o ≡ ys ++ q)
      by (own n k p z) = ([], sym p)
      by (from_above k) = absurd (let z : Outside ≡ Inside o E = sym out ∙ k in cc)
  opened_below (w ∷ xs) q h o E out e =
      by (λ k. opened_below xs q (hold (first_of w.0 (mine R (xs ++ q)))) o E out (sym (above_step R w (xs ++ q)) ∙ k)) (joined_cases (above R (w ∷ (xs ++ q))) (w ∷ (xs ++ q)) h o E e)
    where
      by : (above R (w ∷ (xs ++ q)) ≡ Inside o E → (zs : Path) × (o ≡ zs ++ q)) → Joined_by (above R (w ∷ (xs ++ q))) (w ∷ (xs ++ q)) h o E → (ys : Path) × (o ≡ ys ++ q)
      by rec (own n k p z) = (w ∷ xs, sym p)
      by rec (from_above k) = rec k

  -- the branches of a fork began in one block, or in none
  one_level : (q : Path) (u v : ℕ × ℕ) → u.0 ≡ v.0 → above R (u ∷ q) ≡ above R (v ∷ q)
  one_level q u v e = above_step R u q ∙ ap (λ n. joined_by (above R q) q (hold (first_of n (mine R q)))) e ∙ sym (above_step R v q)

  guarded_pair : {X Y : Run} {x y : Event} → Upto (x ∷ X) R → Upto (y ∷ Y) R → (n : Unordered x.path y.path) → {ts : Branches} (k : Clash P arg l s X x Y y) → Met P arg l s ts (n.u ∷ n.above) (n.v ∷ n.above) (access k.first) (access k.second) →
      (access k.first).guarded ≡ true → (access k.second).guarded ≡ true → Guarded lets X x Y y
  guarded_pair {X} {Y} {x} {y} hx hy n {ts} k m ga gc = record {
    former = a.block;
    latter = c.block;
    barred = λ differ. level (above R (n.u ∷ n.above)) refl differ;
  }
    where
      a : StandsAt X x (access k.first)
      a = stands_at hx k.first ga

      c : StandsAt Y y (access k.second)
      c = stands_at hy k.second gc

      same_region : (access k.first).region ≡ (access k.second).region
      same_region = (one_place k.first k.second k.write).region

      inside_one : (p q xs : Path) (h : Hold) (o : Path) (E : List Effect) (o' : Path) (E' : List Effect) → p ≡ xs ++ q → above R q ≡ Inside o E → joined_by (above R p) p h ≡ Inside o' E' → o ≡ o'
      inside_one p q xs h o E o' E' e i j =
          let z : Inside o E ≡ Inside o' E' = sym (ap (λ w. joined_by w p h) (ap (above R) e ∙ inside_below xs q o E i)) ∙ j in cc

      entry_of : (p q xs : Path) (h : Hold) (o : Path) (E : List Effect) (b : Access) → p ≡ xs ++ q → above R q ≡ Outside → joined_by (above R p) p h ≡ Inside o E → (InOwnRegion q b.region → ⊥) →
          LiesInEntry E b ⊎ InOwnRegion o b.region → LiesInEntry E b
      entry_of p q xs h o E b e out j none lies =
          let z = opened_below xs q h o E out (subst (λ r. joined_by (above R r) r h ≡ Inside o E) e j) in
          ⊎_elim (λ i. i) (λ r. absurd (none (own_further z.0 q b (subst (λ r. InOwnRegion r b.region) z.1 r)))) lies

      level : (w : Standing) → above R (n.u ∷ n.above) ≡ w → (a.block.opener ≡ c.block.opener → ⊥) → Barred lets a.block.effects c.block.effects
      level (Inside o E) e differ = absurd (differ (
          sym (inside_one x.path (n.u ∷ n.above) n.below_p (hold (mine X x.path)) o E a.block.opener a.block.effects n.p_is e a.above_is)
          ∙ inside_one y.path (n.v ∷ n.above) n.below_q (hold (mine Y y.path)) o E c.block.opener c.block.effects n.q_is (sym (one_level n.above n.u n.v n.one_fork) ∙ e) c.above_is))
      level Outside e differ =
          let i = entry_of x.path (n.u ∷ n.above) n.below_p (hold (mine X x.path)) a.block.opener a.block.effects (access k.first) n.p_is e a.above_is m.first_own (⊎_elim (λ i. inl i) (λ o. inr (made_inside _ _ a.block.opener (access k.first) o)) a.lies) in
          let j = entry_of y.path (n.v ∷ n.above) n.below_q (hold (mine Y y.path)) c.block.opener c.block.effects (access k.second) n.q_is (sym (one_level n.above n.u n.v n.one_fork) ∙ e) c.above_is m.second_own (⊎_elim (λ i. inl i) (λ o. inr (made_inside _ _ c.block.opener (access k.second) o)) c.lies) in (
            entries_barred a.block.effects c.block.effects (access k.first) (access k.second) same_region k.write i j,
            entries_barred c.block.effects a.block.effects (access k.second) (access k.first) (sym same_region) (either k.left k.right k.write) j i,
          )
        where
          either : (b d : Bool) → (b || d) ≡ true → (d || b) ≡ true
          either true d h = or_right d true refl
          either false d h = or_left d false h

  by_kind : {X Y : Run} {x y : Event} → Upto (x ∷ X) R → Upto (y ∷ Y) R → (n : Unordered x.path y.path) → {ts : Branches} (k : Clash P arg l s X x Y y) → Met P arg l s ts (n.u ∷ n.above) (n.v ∷ n.above) (access k.first) (access k.second) →
      Guarded lets X x Y y
  by_kind {X} {Y} {x} {y} hx hy n {ts} k m = go ts.kind m.may
    where
      go : (f : Forking) → MayMeet P f (access k.first) (access k.second) → Guarded lets X x Y y
      go Deterministic h = absurd h
      go Nondeterministic h = guarded_pair hx hy n k m h.0 h.1

  -- what conflicts is guarded, and lies in a region that ends by an atomic name
  atomic_region : {X Y : Run} {x y : Event} → {ts : Branches} (k : Clash P arg l s X x Y y) → {p q : Path} → Met P arg l s ts p q (access k.first) (access k.second) →
      ends_atomic P.region_names (access k.first).region ≡ true
  atomic_region {ts = ts} k m = go ts.kind m.may
    where
      go : (f : Forking) → MayMeet P f (access k.first) (access k.second) → ends_atomic P.region_names (access k.first).region ≡ true
      go Deterministic h = absurd h
      go Nondeterministic h = h.2

  pub conflict_is_atomic : (Y X : Run) (y x : Event) → Upto (y ∷ Y) R → Upto (x ∷ X) Y → Unordered x.path y.path → (c : Conflict x y) → ConflictIsAtomic P lets s.shapes X x Y y (cell_of c)
  conflict_is_atomic Y X y x hx hy n c =
      let up = upto_trans hy (upto_tail hx) in
      let k = clash_of P arg l s up hx c in
      let m = clash_met P arg l s up hx n k in
      let there = k.first.reaches.cell in
      subst (λ z. ConflictIsAtomic P lets s.shapes X x Y y z) (clash_on P arg l s up hx c) (record {
        blocks = by_kind up hx n k m;
        cell = record {
          shape = there.shape;
          is = k.first.grown k.cell.object there.shape there.is;
          env = there.env;
          ty = there.ty;
          rpl = there.rpl;
          cell = there.cell;
        };
        atomic = atomic_region k m;
      })

pub nd_forks_are_outside : NdForksAreOutside
nd_forks_are_outside P wt arg small R l F f ts u act kind = go (cases_Bool (is_guarded b ok.state.entries))
  where
    faithful : Faithful (stepped P arg) R
    faithful = legal_faithful (stepped P arg) R l

    s : Sound P (stepped P arg) (length R) R
    s = sound P wt arg small (length R) R faithful (omega arith)

    b : Bounds
    b = (s.keeping f.path).bounds

    ok : ForkedAt P (s.keeping f.path) (branches_of P (stepped P arg) s.keeping f.path (count F f.path)) s.shapes (mine F f.path) ts
    ok = subst (λ c. EventOk P (stepped P arg) (s.keeping f.path) (branches_of P (stepped P arg) s.keeping f.path) s.shapes F f.path c) act (s.events f F u)

    go : (is_guarded b ok.state.entries ≡ true) ⊎ (is_guarded b ok.state.entries ≡ false) → standing F f.path ≡ Outside
    go (inl t) = absurd (let z : ◌≡◌ {A = Forking} Deterministic Nondeterministic = sym (ok.nd_free.0 (inr t)) ∙ kind in cc)
    go (inr n) = stands_outside P arg faithful s u ok.state.entries ok.held n

pub conflicts_are_guarded : ConflictsAreGuarded
conflicts_are_guarded P wt arg small R l = record { each = λ Y X y x hy hx n c. (conflict_is_atomic P arg f s Y X y x hy hx n c).blocks }
  where
    f : Faithful (stepped P arg) R
    f = legal_faithful (stepped P arg) R l

    s : Sound P (stepped P arg) (length R) R
    s = sound P wt arg small (length R) R f (omega arith)
