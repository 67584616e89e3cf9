-- One more event of what a task does by itself: it is in order where the task stands, it is answered as its shapes say, and what
-- stands in cells still fits.
use Rattle.std.proofs.Common.{◌≡◌, ◌≤◌, ◌+◌, ◌⊎◌, ⊎_elim, inl, inr, ℕ, zero, suc, ℤ, pos, Bool, true, cond, List, [], ◌∷◌, ◌++◌, length, reverse, refl, sym, ap, ◌∙◌, subst, arith, append_assoc, append-nil, Option, Some, None, slice_get}
use Rattle.std.proofs.lemmas.Bool.{cond-true, cond-false, cases_Bool, and_from, eq-eqb}
use Rattle.std.proofs.lemmas.List.{reverse-append, reverse-reverse}
use Rattle.std.proofs.lemmas.Option.{slice_get_past}
use Rattle.lang_base.specs.declared.region.Rpl.{Rpl}
use Rattle.lang_base.specs.Matching.{Env}
use Rattle.lang_base.specs.Types.{PlainType}
use Rattle.lang_typed.specs.Plain.{PlainProgram}
use Rattle.lang_meaning.specs.Asking.{replied, reported}
use Rattle.lang_meaning.specs.Core.{run}
use Rattle.runs_program.specs.Steps.{named_by}
use Rattle.runs_theory.specs.Actions.{Program, Task, Own, Rest, Read, Write, Look, New, Print, Enter, Exit, Action, Do, Fork, Begin, Join, End, Answer, Went, Named, Next, Reply}
use Rattle.runs_theory.specs.Blocks.{Hold, Out_of, In_block, own_hold, hold_after, hold}
use Rattle.runs_theory.specs.Objects.{Path, Name, same_name, Thing, Effect, Cell, Value, or_else, size, first_value, slot_of}
use Rattle.runs_theory.specs.Order.{Writes}
use Rattle.runs_theory.specs.Runs.{Event, Run, now, later, mine, answers, Follows, Faithful, at_start, made, made_by, own_made, things, thing_of, value_in, last_written, first_some, read_at, wrote_at, seen, reply}
use Rattle.runs_theory.proofs.events.Cells.{Written, it_does, it_does_not, writes, last_step, LastWrite, last_write, none, some, slot_is, same_name_eq}
use Rattle.runs_theory.proofs.events.Mine.{mine_same, mine_other, path_cases, test_same}
use Rattle.runs_theory.proofs.events.Things.{thing_later, same_some, answering}
use Rattle.runs_sound.specs.Shapes.{Shape, Shapes, Grows, FitsIn, CellAt, Describes}
use Rattle.runs_sound.specs.Accesses.{Entry}
use Rattle.runs_sound.specs.Counting.{counting, number_of}
use Rattle.runs_sound.specs.Frames.{State}
use Rattle.runs_sound.specs.Runs.{entries_then, own_entries}
use Rattle.runs_sound.specs.Work.{Prog, Touches, Moves, ReadFits, WriteFits, LookFits, Answers, entries_after, After}
use Rattle.runs_sound.proofs.work.Counting.{asks_the_same, twin_run}
use Rattle.runs_sound.proofs.work.NdFree.{MayLeave}
use Rattle.runs_sound.proofs.moments.Carried.{grows_grows, agrees_self, NewTask, Step}
use Rattle.runs_sound.proofs.moments.Cells.{one_cell, out_is_array, first_value_fits, look_fits}
use Rattle.runs_sound.proofs.moments.Moments.{Moment, at, state_of, MayDo, Comes, Told, Tells, Quietly, still, making, Here, Goes, goes_same, reported_on}
use Rattle.runs_sound.proofs.moments.Sound.{Kept, asks_counting, made_of, hold_of, OwnOk, EventOk, ActOk, IsAt, Stands, branches_of, Sound}
use Rattle.runs_sound.proofs.classes.Types.{fits_grows}

things_step : (e : Event) (es : Run) → things (e ∷ es) ≡ things es ++ made_by e.act
unfolding things
things_step e es = refl

last_there : {A : Type 0} (xs : List A) (x : A) → slice_get (xs ++ x ∷ []) (length xs) ≡ Some x
last_there [] x = refl
last_there (y ∷ xs) x = last_there xs x

snoc_cases : {A : Type 0} (xs : List A) (x y : A) (n : ℕ) → slice_get (xs ++ x ∷ []) n ≡ Some y → (slice_get xs n ≡ Some y) ⊎ (n ≡ length xs)
snoc_cases [] x y zero h = inr refl
snoc_cases [] x y (suc n) h = absurd (let k : None ≡ Some y = h in cc)
snoc_cases (z ∷ xs) x y zero h = inl h
snoc_cases (z ∷ xs) x y (suc n) h = ⊎_elim (λ k. inl k) (λ k. inr (ap (λ m. suc m) k)) (snoc_cases xs x y n h)

same_name_self : (n : Name) → same_name n n ≡ true
same_name_self n = and_from _ _ (test_same n.maker n.maker refl) (eq-eqb n.count n.count refl)

leaves_entry : (E : List Effect) (h : Hold) → own_hold Exit (own_hold (Enter E) h) ≡ h
leaves_entry E Out_of = refl
leaves_entry E (In_block n F) = refl

-- who leaves a block stands inside one
leaves_open : (Es : List Entry) → MayLeave Exit Es → hold_of Es ≡ Out_of → ⊥
leaves_open [] leaves e = leaves
leaves_open (E ∷ Es) leaves e = entered_there (hold_of Es) e
  where
    entered_there : (h : Hold) → own_hold (Enter E.effects) h ≡ Out_of → ⊥
    entered_there Out_of e = cc
    entered_there (In_block n F) e = cc

-- entries, as the theory of runs counts them
hold_own : (made : ℕ) (o : Own) (Es : List Entry) → own_hold o (hold_of Es) ≡ hold_of (entries_after made o Es)
hold_own made (Enter E) Es = refl
hold_own made Exit [] = refl
hold_own made Exit (E ∷ Es) = leaves_entry E.effects (hold_of Es)
hold_own made Rest Es = refl
hold_own made (Read n i) Es = refl
hold_own made (Write n i v) Es = refl
hold_own made (Look n) Es = refl
hold_own made (New t c) Es = refl
hold_own made (Print bytes) Es = refl

-- so a task holds what its entries say
pub held_by : (made : List Answer → ℕ) {Es : List Entry} (es : Run) → Es ≡ own_entries made es → hold es ≡ hold_of Es
held_by made es e = each es ∙ ap hold_of (sym e)
  where
    after : (n : ℕ) (a : Action) (Es : List Entry) → hold_after a (hold_of Es) ≡ hold_of (entries_then n a Es)
    after n (Do o) Es = hold_own n o Es
    after n (Fork ts) Es = refl
    after n (Begin i) Es = refl
    after n Join Es = refl
    after n (End x) Es = refl

    each : (es : Run) → hold es ≡ hold_of (own_entries made es)
    each [] = refl
    each (y ∷ es) = ap (hold_after y.act) (each es) ∙ after (made (answers es)) y.act (own_entries made es)

pub answers_on : (x : Answer) (xs as' : List Answer) → reverse (x ∷ xs) ++ as' ≡ reverse xs ++ x ∷ as'
answers_on x xs as' = ap (λ (l : List Answer). l ++ as') (reverse-append (x ∷ []) xs) ∙ append_assoc (reverse xs) (x ∷ []) as'

-- what a task asks, it asks where it counts its local regions
pub counts_as : (k : Kept) (p : Path) (t : Task) (work : Path → Task → Prog) → k.bounds.path ≡ p → k.task ≡ t → k.work ≡ work → (got : List Answer) (n : ℕ) (a : Action) →
    replied t.work (run (reported (named_by p)) (work p t) (reported_on 0 0 (reverse got))) ≡ Next n a → (m : ℕ) × (asks_counting k got ≡ Next m a)
counts_as k p t work path task same got n a asks =
    asks_the_same k.task.work (run (reported (named_by k.bounds.path)) (k.work k.bounds.path k.task) (reported_on 0 0 (reverse got))) _
    (twin_run (named_by k.bounds.path) (k.work k.bounds.path k.task) (reported_on 0 0 (reverse got))) n a
    (subst (λ q. replied k.task.work (run (reported (named_by q)) (k.work q k.task) (reported_on 0 0 (reverse got))) ≡ Next n a) (sym path)
    (subst (λ (u : Task). replied u.work (run (reported (named_by p)) (k.work p u) (reported_on 0 0 (reverse got))) ≡ Next n a) (sym task)
    (subst (λ (w : Path → Task → Prog). replied t.work (run (reported (named_by p)) (w p t) (reported_on 0 0 (reverse got))) ≡ Next n a) (sym same) asks)))

-- a task that has made nothing yet, by its work
pub counts_at_first : (P : PlainProgram) (k : Kept) (t : Task) (work : Path → Task → Prog) → k.task ≡ t → k.work ≡ work → (copies : List ℕ) (st : State) (d : ℕ) →
    Goes P k.bounds k.scope copies d (at st) (λ xs. replied t.work (run (counting (named_by k.bounds.path)) (work k.bounds.path t) (reported_on 0 0 xs))) →
    Goes P k.bounds k.scope copies d (at st) (λ xs. asks_counting k (reverse xs ++ []))
counts_at_first P k t work task same copies st d g =
    goes_same P k.bounds k.scope copies d (at st) _ _
    (λ xs. ap (λ ys. replied k.task.work (run (counting (named_by k.bounds.path)) (k.work k.bounds.path k.task) (reported_on 0 0 ys))) (sym (ap (λ ys. reverse ys) (append-nil (reverse xs)) ∙ reverse-reverse xs)))
    (subst (λ (u : Task). Goes P k.bounds k.scope copies d (at st) (λ xs. replied u.work (run (counting (named_by k.bounds.path)) (k.work k.bounds.path u) (reported_on 0 0 xs)))) (sym task)
    (subst (λ (w : Path → Task → Prog). Goes P k.bounds k.scope copies d (at st) (λ xs. replied t.work (run (counting (named_by k.bounds.path)) (w k.bounds.path t) (reported_on 0 0 xs)))) (sym same) g))

module _ (P : PlainProgram) (Q : Program) {N : ℕ} {R : Run} {e : Event} (l : Faithful Q R) (s : Sound P Q N R) (a : Follows Q R e) (room : length (e ∷ R) ≤ N) where
  abbrev pub kept : Kept
  kept = s.keeping e.path

  abbrev pub stand : Stands P Q N R (s.keeping e.path) (branches_of P Q s.keeping e.path) s.shapes e.path a.task
  stand = s.tasks e.path a.task a.begun

  abbrev pub copies : List ℕ
  copies = a.task.work.copies

  abbrev pub replies : List Answer → Reply
  replies xs = asks_counting kept (reverse xs ++ answers (mine R e.path))

  abbrev pub entries_now : List Entry
  entries_now = own_entries (made_of kept) (mine R e.path)

  -- how many local regions it has made
  abbrev pub made_now : ℕ
  made_now = made_of kept (answers (mine R e.path))

  -- its next event, where it stands
  pub record Now : Type 0 where
    pub depth : ℕ
    pub enough : suc N ≤ depth + length (e ∷ R)
    pub moment : Moment P kept.bounds
    pub grown : Grows (state_of moment).shapes s.shapes
    pub entered : (state_of moment).entries ≡ entries_now
    pub is_at : IsAt P Q R e.path kept (branches_of P Q s.keeping e.path) moment
    pub may : MayDo P kept.bounds kept.scope copies moment e.act
    pub tells : Tells P kept.bounds kept.scope copies moment e.act made_now
    pub then : (x : Answer) (h : Moment P kept.bounds) → Comes P kept.bounds kept.scope copies moment e.act may x h → Goes P kept.bounds kept.scope copies depth h (λ xs. replies (x ∷ xs))

  -- where counting doesn't change what it asks
  pub now_asked : (m : ℕ) → asks_counting kept (answers (mine R e.path)) ≡ Next m e.act → Now
  now_asked m asks = deep stand.depth refl stand.goes
    where
      at_moment : (d : ℕ) → stand.depth ≡ suc d → (h : Moment P kept.bounds) → Quietly P kept.bounds kept.scope copies stand.moment h → (may : MayDo P kept.bounds kept.scope copies h e.act) →
          Tells P kept.bounds kept.scope copies h e.act m →
          ((x : Answer) (g : Moment P kept.bounds) → Comes P kept.bounds kept.scope copies h e.act may x g → Goes P kept.bounds kept.scope copies d g (λ xs. replies (x ∷ xs))) → Now
      at_moment d q h w may tells then = record {
        depth = d;
        enough = let n = stand.enough in omega (arith, n, q);
        moment = h;
        grown = grown stand.moment h w stand.grown;
        entered = entered stand.moment h w stand.entered;
        is_at = is_at stand.moment h w stand.is_at;
        may = may;
        tells = subst (Tells P kept.bounds kept.scope copies h e.act) (sym (ap number_of asks)) tells;
        then = then;
      }
        where
          grown : (g h : Moment P kept.bounds) → Quietly P kept.bounds kept.scope copies g h → Grows (state_of g).shapes s.shapes → Grows (state_of h).shapes s.shapes
          grown g _ still z = z
          grown _ _ (making n) z = z

          entered : (g h : Moment P kept.bounds) → Quietly P kept.bounds kept.scope copies g h → (state_of g).entries ≡ entries_now → (state_of h).entries ≡ entries_now
          entered g _ still z = z
          entered _ _ (making n) z = z

          is_at : (g h : Moment P kept.bounds) → Quietly P kept.bounds kept.scope copies g h → IsAt P Q R e.path kept (branches_of P Q s.keeping e.path) g →
              IsAt P Q R e.path kept (branches_of P Q s.keeping e.path) h
          is_at g _ still z = z
          is_at _ _ (making n) z = tt

      deep : (n : ℕ) → stand.depth ≡ n → Goes P kept.bounds kept.scope copies n stand.moment replies → Now
      deep zero q z = let n = stand.enough in absurd (omega (arith, n, q, room))
      deep (suc d) q z =
          let w = subst (λ r. Here P kept.bounds kept.scope copies (λ h k. Goes P kept.bounds kept.scope copies d h k) stand.moment replies r) asks z in
          at_moment d q w.moment w.quietly w.may w.tells w.then

  -- where it stands after its event
  pub own_stands : (d : ℕ) → suc N ≤ d + length (e ∷ R) → (h : Moment P kept.bounds) → Goes P kept.bounds kept.scope copies d h (λ xs. replies (e.ans ∷ xs)) → (S : Shapes) → Grows (state_of h).shapes S →
      (state_of h).entries ≡ entries_then made_now e.act entries_now → (branch : ℕ → ℕ → Kept) → IsAt P Q (e ∷ R) e.path kept branch h → Stands P Q N (e ∷ R) kept branch S e.path a.task
  own_stands d en h goes S grown entered branch is_at = record {
    path = stand.path;
    task = stand.task;
    moment = h;
    grown = grown;
    entered = entered ∙ sym (ap (own_entries (made_of kept)) (mine_same e R e.path refl));
    is_at = is_at;
    depth = d;
    enough = en;
    goes = goes_same P kept.bounds kept.scope copies d h _ _
        (λ xs. ap (λ g. asks_counting kept g) (answers_on e.ans xs (answers (mine R e.path)) ∙ ap (λ es. reverse xs ++ answers es) (sym (mine_same e R e.path refl)))) goes;
  }

  -- things stay, and what stands in cells, but for what is written
  pub same_things : (n : Name) (z : Shape) → s.shapes n ≡ Some z → (u : Thing) × (thing_of Q (e ∷ R) n ≡ Some u) × Describes P z u
  same_things n z q = (let t = s.things n z q in (t.0, thing_later Q n t.0 (later now) t.1, t.2))

  -- and nothing else is made
  pub same_shaped : made_by e.act ≡ [] → (n : Name) (u : Thing) → thing_of Q (e ∷ R) n ≡ Some u → (z : Shape) × (s.shapes n ≡ Some z)
  same_shaped nothing n u there = s.shaped n u (sym (ap (λ g. slice_get (at_start Q n.maker ++ g) n.count) (kept_things (path_cases e.path n.maker))) ∙ there)
    where
      kept_things : (e.path ≡ n.maker) ⊎ (e.path ≡ n.maker → ⊥) → things (mine (e ∷ R) n.maker) ≡ things (mine R n.maker)
      kept_things (inl h) = ap things (mine_same e R n.maker h) ∙ things_step e (mine R n.maker) ∙ ap (λ g. things (mine R n.maker) ++ g) nothing ∙ append-nil (things (mine R n.maker))
      kept_things (inr h) = ap things (mine_other e R n.maker h)

  abbrev pub WroteFits : Type 0
  WroteFits = (c : Cell) (w : Writes c e) (z : Shape) (env : Env) (ty : PlainType) (r : Rpl) → s.shapes c.object ≡ Some z → CellAt P z (pos c.slot) env ty r → FitsIn P s.shapes env ty w.value

  value_unwritten : (c : Cell) (u : Thing) → (Writes c e → ⊥) → value_in (e ∷ R) u c ≡ value_in R u c
  value_unwritten c u ne = go (writes c e)
    where
      go : Written c e → value_in (e ∷ R) u c ≡ value_in R u c
      go (it_does w i) = absurd (ne w)
      go (it_does_not n i) = ap (λ o. or_else o (first_value u c.slot)) (last_step e R c ∙ ap (λ o. first_some o (last_written R c)) i)

  pub old_cells : WroteFits → (n : Name) (z : Shape) (u : Thing) (k : ℕ) (env : Env) (ty : PlainType) (r : Rpl) → s.shapes n ≡ Some z → thing_of Q (e ∷ R) n ≡ Some u → CellAt P z (pos k) env ty r →
      FitsIn P s.shapes env ty (value_in (e ∷ R) u (record { object = n; slot = k }))
  unfolding same_things
  old_cells wrote n z u k env ty r q there cell = go (writes c e)
    where
      c : Cell
      c = record { object = n; slot = k }

      same : (s.things n z q).0 ≡ u
      same = same_some (same_things n z q).1 there

      go : Written c e → FitsIn P s.shapes env ty (value_in (e ∷ R) u c)
      go (it_does w i) = subst (λ o. FitsIn P s.shapes env ty (or_else o (first_value u k))) (sym (last_step e R c ∙ ap (λ o. first_some o (last_written R c)) i)) (wrote c w z env ty r q cell)
      go (it_does_not ne i) = subst (λ v. FitsIn P s.shapes env ty v) (sym (value_unwritten c u ne))
          (s.cells n z u k env ty r q (subst (λ x. thing_of Q R n ≡ Some x) same (s.things n z q).1) cell)

  -- the answer to an access
  thing_is : (n : Name) (z : Shape) (u : Thing) → s.shapes n ≡ Some z → thing_of Q R n ≡ Some u → Describes P z u
  thing_is n z u q there = (let t = s.things n z q in subst (λ x. Describes P z x) (same_some t.1 there) t.2)

  read_fits : (S : Shapes) {n : Name} {i : ℤ} (c : Touches P S n i) → Grows S s.shapes → (u : Thing) → thing_of Q R n ≡ Some u → ReadFits c s.shapes (read_at R u n (slot_of i (size u)))
  read_fits S {n} {i} c g u there = go (slot_of i (size u)) refl
    where
      go : (o : Option ℕ) → slot_of i (size u) ≡ o → ReadFits c s.shapes (read_at R u n o)
      go None q = out_is_array c.cell u (thing_is n c.shape u (g n c.shape c.is) there) q
      go (Some k) q = s.cells n c.shape u k c.env c.ty c.rpl (g n c.shape c.is) there (subst (λ j. CellAt P c.shape j c.env c.ty c.rpl) (slot_is i (size u) k q) c.cell)

  write_fits : (S : Shapes) {n : Name} {i : ℤ} (c : Touches P S n i) → Grows S s.shapes → (u : Thing) → thing_of Q R n ≡ Some u → WriteFits c (wrote_at (slot_of i (size u)))
  write_fits S {n} {i} c g u there = go (slot_of i (size u)) refl
    where
      go : (o : Option ℕ) → slot_of i (size u) ≡ o → WriteFits c (wrote_at o)
      go None q = out_is_array c.cell u (thing_is n c.shape u (g n c.shape c.is) there) q
      go (Some k) q = tt

  no_task : (o : Own) → e.act ≡ Do o → (q : Path) (z : Task) → NewTask R e q z → ⊥
  no_task o act q z n = let c : Do o ≡ _ = sym act ∙ n.act in cc

  -- the state after the event
  abbrev state_after : State → Own → Shapes → State
  state_after st o S = record { shapes = S; made = st.made; entries = entries_after st.made o st.entries }

  -- it has made as many local regions as its answers tell, at an entry
  same_after : (st : State) (o : Own) → Told P kept.bounds kept.scope copies st o made_now → (Es : List Entry) → entries_after st.made o Es ≡ entries_after made_now o Es
  same_after st (Enter E) told Es = ap (λ n. record { effects = E; made = n } ∷ Es) (sym told)
  same_after st Exit told Es = refl
  same_after st Rest told Es = refl
  same_after st (Read n i) told Es = refl
  same_after st (Write n i v) told Es = refl
  same_after st (Look n) told Es = refl
  same_after st (New t c) told Es = refl
  same_after st (Print bytes) told Es = refl

  module _ (d : ℕ) (en : suc N ≤ d + length (e ∷ R)) (st : State) (grown : Grows st.shapes s.shapes) (entered : st.entries ≡ entries_now) (o : Own)
      (told : Told P kept.bounds kept.scope copies st o made_now) (act : e.act ≡ Do o) (m : Moves P kept.bounds st o)
      (then : (x : Answer) (h : Moment P kept.bounds) → (u : State) × (h ≡ at u) × After o st u × Answers P kept.bounds st o m x u → Goes P kept.bounds kept.scope copies d h (λ xs. replies (x ∷ xs))) where
    comes : (S : Shapes) → Grows s.shapes S → Answers P kept.bounds st o m e.ans (state_after st o S) → Stands P Q N (e ∷ R) kept (branches_of P Q s.keeping e.path) S e.path a.task
    comes S g fits =
        own_stands d en (at (state_after st o S))
        (then e.ans (at (state_after st o S)) (state_after st o S, refl, record { grows = grows_grows grown g; made = refl; entries = refl }, fits))
        S (λ n z q. q) (same_after st o told st.entries ∙ ap (entries_after made_now o) entered ∙ sym (ap (λ c. entries_then made_now c entries_now) act)) (branches_of P Q s.keeping e.path) tt

    -- it was in order, and answered by what fits
    acted_on : (S : Shapes) → Grows s.shapes S → Answers P kept.bounds st o m e.ans (state_after st o S) → ActOk P kept S R e.path e.act e.ans
    acted_on S g fits = subst (λ c. ActOk P kept S R e.path c e.ans) (sym act) (record {
      state = st;
      entries = entered;
      moves = m;
      after = state_after st o S;
      comes = record { grows = grows_grows grown g; made = refl; entries = refl };
      answered = fits;
      grown = λ n z q. q;
    })

    -- where nothing is made
    same_step : own_made o ≡ [] → Answers P kept.bounds st o m e.ans (state_after st o s.shapes) → OwnOk P Q kept s.shapes (mine R e.path) o → WroteFits → Step P Q N R e a.task s
    same_step nothing fits ok wrote = record {
      shapes = s.shapes;
      grows = λ n z q. q;
      keeping = s.keeping;
      agrees = agrees_self P Q R s.keeping;
      never = λ m h. h;
      work = λ m h. h;
      things = same_things;
      shaped = same_shaped (ap made_by act ∙ nothing);
      cells = old_cells wrote;
      event = subst (λ c. EventOk P Q kept (branches_of P Q s.keeping e.path) s.shapes R e.path c) (sym act) ok;
      acted = acted_on s.shapes (λ n z q. q) fits;
      own = comes s.shapes (λ n z q. q) fits;
      new = λ q z n. absurd (no_task o act q z n);
    }

  no_write : (o : Own) → e.act ≡ Do o → ((n : Name) (i : ℤ) (v : Value) → o ≡ Write n i v → ⊥) → WroteFits
  no_write o act ne c w z env ty r q cell = absurd (ne c.object (pos c.slot) w.value (let k : Do o ≡ Do (Write c.object (pos c.slot) w.value) = sym act ∙ w.act in cc))

  -- what is made is new
  abbrev new_name : Name
  new_name = record { maker = e.path; count = length (made Q R e.path) }

  nothing_yet : thing_of Q R new_name ≡ None
  nothing_yet = slice_get_past (made Q R e.path) (length (made Q R e.path)) (omega arith)

  no_shape : (z : Shape) → s.shapes new_name ≡ Some z → ⊥
  no_shape z q = let t = s.things new_name z q in let k : None ≡ Some t.0 = sym nothing_yet ∙ t.1 in cc

  -- so nothing was written there
  unwritten : (k : ℕ) → last_written R (record { object = new_name; slot = k }) ≡ None
  unwritten k = go (last_write R (record { object = new_name; slot = k }))
    where
      go : LastWrite R (record { object = new_name; slot = k }) → last_written R (record { object = new_name; slot = k }) ≡ None
      go (none f z) = z
      go (some w W u wr z f) =
          let ok = subst (λ c. EventOk P Q (s.keeping w.path) (branches_of P Q s.keeping w.path) s.shapes W w.path c) wr.act (s.events w W u) in
          absurd (no_shape ok.reaches.cell.shape (ok.grown new_name ok.reaches.cell.shape ok.reaches.cell.is))

  abbrev with_new : Shape → Shapes
  with_new z n = cond (same_name new_name n) (Some z) (s.shapes n)

  -- a shape is the new one or an old one
  new_or_old : (z : Shape) (n : Name) (y : Shape) → with_new z n ≡ Some y → ((new_name ≡ n) × (z ≡ y)) ⊎ (s.shapes n ≡ Some y)
  new_or_old z n y q = ⊎_elim
      (λ t. inl (same_name_eq new_name n t, (let k : Some z ≡ Some y = sym (cond-true (same_name new_name n) (Some z) (s.shapes n) t) ∙ q in cc)))
      (λ f. inr (sym (cond-false (same_name new_name n) (Some z) (s.shapes n) f) ∙ q)) (cases_Bool (same_name new_name n))

  old_shapes : (z : Shape) → Grows s.shapes (with_new z)
  old_shapes z n y q = ⊎_elim (λ t. absurd (no_shape y (subst (λ x. s.shapes x ≡ Some y) (sym (same_name_eq new_name n t)) q)))
      (λ f. cond-false (same_name new_name n) (Some z) (s.shapes n) f ∙ q) (cases_Bool (same_name new_name n))

  -- a new object or array, and what is written at its making
  made_step : (d : ℕ) → suc N ≤ d + length (e ∷ R) → (st : State) → Grows st.shapes s.shapes → st.entries ≡ entries_now → (t : Thing) (c : Bool) → e.act ≡ Do (New t c) →
      (m : Moves P kept.bounds st (New t c)) →
      ((x : Answer) (h : Moment P kept.bounds) → (u : State) × (h ≡ at u) × After (New t c) st u × Answers P kept.bounds st (New t c) m x u → Goes P kept.bounds kept.scope copies d h (λ xs. replies (x ∷ xs))) →
      e.ans ≡ Named new_name → Step P Q N R e a.task s
  unfolding same_things
  made_step d en st grown entered t c act m then ans = record {
    shapes = with_new m.0;
    grows = old_shapes m.0;
    keeping = s.keeping;
    agrees = agrees_self P Q R s.keeping;
    never = λ m h. h;
    work = λ m h. h;
    things = λ n z q. ⊎_elim (λ w. (t, subst (λ x. thing_of Q (e ∷ R) x ≡ Some t) w.0 has_one, subst (λ x. Describes P x t) w.1 m.1)) (λ w. same_things n z w) (new_or_old m.0 n z q);
    shaped = λ n u there. ⊎_elim (λ q. (m.0, subst (λ x. with_new m.0 x ≡ Some m.0) q (cond-true (same_name new_name new_name) (Some m.0) (s.shapes new_name) (same_name_self new_name))))
        (λ q. (let z = s.shaped n u q in (z.0, old_shapes m.0 n z.0 z.1))) (new_or_kept n u there (path_cases e.path n.maker));
    cells = λ n z u k env ty r q there cell. fits_grown n z u k env ty r (new_or_old m.0 n z q) there cell;
    event = subst (λ x. EventOk P Q kept (branches_of P Q s.keeping e.path) (with_new m.0) R e.path x) (sym act) tt;
    acted = acted_on d en st grown entered (New t c) tt act m then (with_new m.0) (old_shapes m.0)
        (new_name, ans, cond-true (same_name new_name new_name) (Some m.0) (s.shapes new_name) (same_name_self new_name));
    own = comes d en st grown entered (New t c) tt act m then (with_new m.0) (old_shapes m.0) (new_name, ans, cond-true (same_name new_name new_name) (Some m.0) (s.shapes new_name) (same_name_self new_name));
    new = λ q z n. absurd (no_task (New t c) act q z n);
  }
    where
      made_now : made Q (e ∷ R) e.path ≡ made Q R e.path ++ t ∷ []
      made_now = ap (λ g. at_start Q e.path ++ things g) (mine_same e R e.path refl) ∙ ap (λ g. at_start Q e.path ++ g) (things_step e (mine R e.path))
          ∙ ap (λ x. at_start Q e.path ++ (things (mine R e.path) ++ made_by x)) act
          ∙ sym (append_assoc (at_start Q e.path) (things (mine R e.path)) (t ∷ []))

      has_one : thing_of Q (e ∷ R) new_name ≡ Some t
      has_one = ap (λ g. slice_get g (length (made Q R e.path))) made_now ∙ last_there (made Q R e.path) t

      new_or_kept : (n : Name) (u : Thing) → thing_of Q (e ∷ R) n ≡ Some u → (e.path ≡ n.maker) ⊎ (e.path ≡ n.maker → ⊥) → (new_name ≡ n) ⊎ (thing_of Q R n ≡ Some u)
      new_or_kept n u there (inr h) = inr (sym (ap (λ g. slice_get (at_start Q n.maker ++ things g) n.count) (mine_other e R n.maker h)) ∙ there)
      new_or_kept n u there (inl h) =
          let now' : slice_get (made Q R e.path ++ t ∷ []) n.count ≡ Some u = ap (λ g. slice_get g n.count) (sym made_now ∙ ap (made Q (e ∷ R)) h) ∙ there in
          ⊎_elim (λ k. inr (ap (λ p. slice_get (made Q R p) n.count) (sym h) ∙ k)) (λ k. inl (let c = sym k in λ i. record { maker = h i; count = c i })) (snoc_cases (made Q R e.path) t u n.count now')

      none_written : (c : Cell) → Writes c e → ⊥
      none_written k w = let z : Do (New t c) ≡ Do (Write k.object (pos k.slot) w.value) = sym act ∙ w.act in cc

      fits_grown : (n : Name) (z : Shape) (u : Thing) (k : ℕ) (env : Env) (ty : PlainType) (r : Rpl) → ((new_name ≡ n) × (m.0 ≡ z)) ⊎ (s.shapes n ≡ Some z) → thing_of Q (e ∷ R) n ≡ Some u →
          CellAt P z (pos k) env ty r → FitsIn P (with_new m.0) env ty (value_in (e ∷ R) u (record { object = n; slot = k }))
      fits_grown n z u k env ty r (inr q) there cell =
          fits_grows P s.shapes (with_new m.0) (old_shapes m.0) env ty _ (old_cells (λ x w. absurd (none_written x w)) n z u k env ty r q there cell)
      fits_grown n z u k env ty r (inl q) there cell =
          let same : t ≡ u = same_some has_one (ap (λ x. thing_of Q (e ∷ R) x) q.0 ∙ there) in
          let first : FitsIn P (with_new m.0) env ty (first_value u k) = first_value_fits (with_new m.0) cell u (subst (λ x. Describes P x u) q.1 (subst (λ x. Describes P m.0 x) same m.1)) in
          let empty : last_written R (record { object = n; slot = k }) ≡ None = subst (λ x. last_written R (record { object = x; slot = k }) ≡ None) q.0 (unwritten k) in
          subst (λ v. FitsIn P (with_new m.0) env ty v)
          (sym (value_unwritten (record { object = n; slot = k }) u (none_written (record { object = n; slot = k })) ∙ ap (λ o. or_else o (first_value u k)) empty)) first

  -- each action of a task's own
  pub own_step : (d : ℕ) → suc N ≤ d + length (e ∷ R) → (st : State) → Grows st.shapes s.shapes → st.entries ≡ entries_now → (o : Own) → Told P kept.bounds kept.scope copies st o made_now → e.act ≡ Do o →
      (m : Moves P kept.bounds st o) → MayLeave o st.entries →
      ((x : Answer) (h : Moment P kept.bounds) → (u : State) × (h ≡ at u) × After o st u × Answers P kept.bounds st o m x u → Goes P kept.bounds kept.scope copies d h (λ xs. replies (x ∷ xs))) →
      reply Q R e.path o ≡ Some e.ans → Step P Q N R e a.task s
  own_step d en st grown entered (Read n i) told act m leaves then r =
      let z = answering (λ t. read_at R t n (slot_of i (size t))) (thing_of Q R n) e.ans r in
      same_step d en st grown entered (Read n i) told act m then refl (subst (λ x. ReadFits m.cell s.shapes x) (sym z.answer) (read_fits st.shapes m.cell grown z.thing z.is_there))
      (record { state = st; reaches = m; grown = grown; held = held_by (made_of kept) (mine R e.path) entered; entered = entered }) (no_write (Read n i) act (λ x j v q. cc))
  own_step d en st grown entered (Write n i v) told act m leaves then r =
      let z = answering (λ t. wrote_at (slot_of i (size t))) (thing_of Q R n) e.ans r in
      same_step d en st grown entered (Write n i v) told act m then refl (subst (λ x. WriteFits m.0.cell x) (sym z.answer) (write_fits st.shapes m.0.cell grown z.thing z.is_there))
      (record { state = st; reaches = m.0; grown = grown; held = held_by (made_of kept) (mine R e.path) entered; entered = entered }) wrote
    where
      wrote : WroteFits
      wrote c w z env ty x q cell =
          let k : Do (Write n i v) ≡ Do (Write c.object (pos c.slot) w.value) = sym act ∙ w.act in
          let n_is : n ≡ c.object = cc in
          let i_is : i ≡ pos c.slot = cc in
          let v_is : v ≡ w.value = cc in
          let shape : m.0.cell.shape ≡ z = same_some (grown n m.0.cell.shape m.0.cell.is) (ap s.shapes n_is ∙ q) in
          let there : CellAt P z (pos c.slot) m.0.cell.env m.0.cell.ty m.0.cell.rpl =
          subst (λ y. CellAt P y (pos c.slot) m.0.cell.env m.0.cell.ty m.0.cell.rpl) shape (subst (λ j. CellAt P m.0.cell.shape j m.0.cell.env m.0.cell.ty m.0.cell.rpl) i_is m.0.cell.cell) in
          subst (λ y. FitsIn P s.shapes env ty y) v_is
          (one_cell there cell (λ env ty rpl. FitsIn P s.shapes env ty v) (fits_grows P st.shapes s.shapes grown m.0.cell.env m.0.cell.ty v m.1))
  own_step d en st grown entered (Look n) told act m leaves then r =
      let z = answering seen (thing_of Q R n) e.ans r in
      same_step d en st grown entered (Look n) told act m then refl (subst (λ x. LookFits m.0 x) (sym z.answer) (look_fits P m.0 z.thing (thing_is n m.0 z.thing (grown n m.0 m.1) z.is_there))) tt
      (no_write (Look n) act (λ x j v q. cc))
  own_step d en st grown entered (New t c) told act m leaves then r = made_step d en st grown entered t c act m then (let k : Some (Named new_name) ≡ Some e.ans = r in cc)
  own_step d en st grown entered Rest told act m leaves then r = same_step d en st grown entered Rest told act m then refl (let k : Some Went ≡ Some e.ans = r in cc) tt (no_write Rest act (λ x j v q. cc))
  own_step d en st grown entered (Print bytes) told act m leaves then r =
      same_step d en st grown entered (Print bytes) told act m then refl (let k : Some Went ≡ Some e.ans = r in cc) tt (no_write (Print bytes) act (λ x j v q. cc))
  own_step d en st grown entered (Enter E) told act m leaves then r = same_step d en st grown entered (Enter E) told act m then refl (let k : Some Went ≡ Some e.ans = r in cc)
      (record { state = st; may = m; grown = grown; held = held_by (made_of kept) (mine R e.path) entered }) (no_write (Enter E) act (λ x j v q. cc))
  own_step d en st grown entered Exit told act m leaves then r =
      same_step d en st grown entered Exit told act m then refl (let k : Some Went ≡ Some e.ans = r in cc) (λ out. leaves_open st.entries leaves (sym (held_by (made_of kept) (mine R e.path) entered) ∙ out)) (no_write Exit act (λ x j v q. cc))
