-- Levels: marks are taken off after a deterministic construct, so what a task does in one of its branches is said above it without a mark.
use Rattle.std.proofs.Common.{◌≡◌, ◌<◌, ◌⊎◌, ⊎_elim, inl, inr, ℕ, suc, ℤ, Bool, true, false, ◌&&◌, ◌||◌, List, [], ◌∷◌, ◌++◌, length, refl, sym, ap, ◌∙◌, subst, arith, slice_get}
use Rattle.std.proofs.lemmas.Bool.{and_from, cond-false, cases_Bool, false≢true, or_left, or_right, or_parts}
use Rattle.std.proofs.lemmas.Option.{slice_get_within}
use Rattle.lang_base.specs.Apart as paths
use Rattle.lang_base.specs.Effects.{is_write}
use Rattle.region_paths.proofs.Envs.{apart_swap}
use Rattle.lang_typed.specs.declared.stmt.Forking.{Forking}
use Rattle.lang_typed.specs.declared.stmt.Forking.TheVariants.{Deterministic, Nondeterministic}
use Rattle.lang_typed.specs.Plain.{PlainProgram}
use Rattle.runs_reduction.specs.Guarded.{Guarded, InBlock, LetBy, Levelled, PartAtNd}
use Rattle.runs_reduction.specs.Insertion.{Branch_of}
use Rattle.runs_reduction.specs.Moved.{inner, is_det, kind_after}
use Rattle.runs_reduction.proofs.moved.Loose.{inner_same}
use Rattle.runs_reduction.proofs.shifts.Spots.{inner_step}
use Rattle.runs_theory.specs.Actions.{Action, Branches, Do, Enter, Fork, Program, Task, is_deterministic}
use Rattle.runs_theory.specs.Blocks.{Hold, In_block, Out_of, begins_local, hold, leaving_locals, is_local, own_hold}
use Rattle.runs_theory.specs.Objects.{Any_index, Any_parts, Effect, Local, Number, Own_index, Path, Region, Region_name}
use Rattle.runs_theory.specs.Order.{Conflict, Unordered}
use Rattle.runs_theory.specs.Runs.{Begun, Event, Faithful, Run, Upto, count, mine}
use Rattle.runs_theory.specs.Standing.{Inside, Outside, above, first_of, joined_by, standing}
use Rattle.runs_theory.proofs.events.Carry.{begun_held}
use Rattle.runs_theory.proofs.runs.Faithful.{ForkAt, begun_upto, faithful_upto, follows_at}
use Rattle.runs_theory.proofs.events.Mine.{mine_at, mine_upto, same_of}
use Rattle.runs_theory.proofs.runs.Standing.{Grows, Stands, above_same, first_is, outside_above, outside_held, stands}
use Rattle.runs_theory.proofs.events.Upto.{upto_tail, upto_trans}
use Rattle.runs_theory.proofs.runs.Written.{legal_faithful}
use Rattle.runs_program.specs.Interfering.{interferes, lets}
use Rattle.runs_program.specs.Steps.{stepped}
use Rattle.runs_sound.specs.Accesses.{Access, Entry, InOwnRegion, LiesIn, MayEnterWith, as_path, entered, is_entered, is_guarded, unguarded}
use Rattle.runs_sound.specs.Branches.{MayMeet, Meet}
use Rattle.runs_sound.specs.RunLaws.{ConflictsAreLevelled, EntriesAreLet}
use Rattle.runs_sound.specs.Settings.{elems_of}
use Rattle.runs_sound.proofs.paths.Barred.{EachKept, apart_free, lets_kept}
use Rattle.runs_sound.proofs.moments.Branching.{stepped_disciplined}
use Rattle.runs_sound.proofs.accesses.Free.{Clash, Lies, LiesAt, access, access_lies, clash_met, clash_of, fork_of_event, fork_sound, lies_up, met_at, one_place}
use Rattle.runs_sound.proofs.accesses.Guarding.{Parent, above_fork, conflicts_are_guarded, kept_is, none_entered, opened_below, outside_at, own_further, parent}
use Rattle.runs_sound.proofs.accesses.Meeting.{tails_differ}
use Rattle.runs_sound.proofs.moments.Sound.{EnteredAt, EventOk, ForkedAt, Kept, Sound, branch_kept, branches_of, hold_of}
use Rattle.runs_sound.proofs.moments.Whole.{sound}

-- where a task stands inside no entry it has none
none_held : (Es : List Entry) → hold_of Es ≡ Out_of → is_entered Es ≡ false
none_held [] h = refl
none_held (E ∷ Es) h = absurd (entered_once (hold_of Es) h)
  where
    entered_once : (k : Hold) → own_hold (Enter E.effects) k ≡ Out_of → ⊥
    entered_once Out_of e = cc
    entered_once (In_block n F) e = cc

-- an access, with its mark or without
abbrev seen : Bool → Access → Access
seen true a = a
seen false a = unguarded a

seen_unguarded : (m : Bool) (a : Access) → seen m (unguarded a) ≡ unguarded a
seen_unguarded true a = refl
seen_unguarded false a = refl

-- a region of a task's own is a local one
own_is_local : (p : Path) (r : Region) → InOwnRegion p (elems_of r) → begins_local r ≡ true
own_is_local p [] o = absurd (let z = o.is in cc)
own_is_local p (Local k ∷ r) o = refl
own_is_local p (Region_name n ∷ r) o = absurd (let z = o.is in cc)
own_is_local p (Number k ∷ r) o = absurd (let z = o.is in cc)
own_is_local p (Own_index ∷ r) o = absurd (let z = o.is in cc)
own_is_local p (Any_index ∷ r) o = absurd (let z = o.is in cc)
own_is_local p (Any_parts ∷ r) o = absurd (let z = o.is in cc)

module _ (P : PlainProgram) (arg : ℤ) {N : ℕ} {R : Run} (l : Faithful (stepped P arg) R) (s : Sound P (stepped P arg) N R) where
  abbrev Q : Program
  Q = stepped P arg

  abbrev Lie : Path → Access → Type 0
  Lie p a = LiesAt P arg l s p a

  -- a task that was begun in no block
  not_inside : (p : Path) (t : Task) → Begun Q R p t → above R p ≡ Outside → (s.keeping p).bounds.inside ≡ false
  not_inside [] t b h = s.root
  not_inside (u ∷ q) t b h =
      let k = parent P arg l s q u t b in
      let ok = fork_sound P arg l s q u k.fork in
      let e = sym (above_fork P arg l s q u k.fork) ∙ h in
      let o = outside_above (above R q) q (hold_of ok.state.entries) e in
      let n = none_held ok.state.entries (outside_held q (hold_of ok.state.entries) (ap (λ w. joined_by w q (hold_of ok.state.entries)) (sym o) ∙ e)) in
      ap (λ (k : Kept). k.bounds.inside) (kept_is P arg l s q u k.fork) ∙ (let i = not_inside q k.task k.begun o in λ j. i j || n j)

  -- so it was forked inside no block
  fork_free : (q : Path) (u : ℕ × ℕ) (t : Task) → Begun Q R (u ∷ q) t → (f : ForkAt R q u) → above R (u ∷ q) ≡ Outside →
      is_guarded (s.keeping q).bounds (fork_sound P arg l s q u f).state.entries ≡ false
  fork_free q u t b f h = sym (ap (λ (k : Kept). k.bounds.inside) (kept_is P arg l s q u f)) ∙ not_inside (u ∷ q) t b h

  at_fork : (q : Path) (u : ℕ × ℕ) (f : ForkAt R q u) (a : Access) → Lie (u ∷ q) a →
      LiesIn ((fork_sound P arg l s q u f).forks.setting u.1) ((fork_sound P arg l s q u f).forks.effects u.1) a
      ⊎ InOwnRegion ((count f.before q, u.1) ∷ (s.keeping q).bounds.path) a.region
  at_fork q u f a h = subst (λ (k : Kept). LiesIn k.bounds.setting k.bounds.effects a ⊎ InOwnRegion k.bounds.path a.region) (kept_is P arg l s q u f) h

  own_up : (q : Path) (n i : ℕ) (a : Access) → InOwnRegion ((n, i) ∷ (s.keeping q).bounds.path) a.region → InOwnRegion (s.keeping q).bounds.path a.region
  own_up q n i a o = own_further ((n, i) ∷ []) (s.keeping q).bounds.path a o

  -- what a branch does that was forked outside all blocks lies in what its task may do; in a deterministic construct without a mark
  step_up : (q : Path) (u : ℕ × ℕ) (f : ForkAt R q u) (a : Access) → is_guarded (s.keeping q).bounds (fork_sound P arg l s q u f).state.entries ≡ false → Lie (u ∷ q) a → Lie q a
  step_up q u f a out h = ⊎_elim
      (λ k. (((fork_sound P arg l s q u f).forks.branch u.1 f.task f.is_there).within a (λ e. absurd (false≢true (sym out ∙ e))) k).effects)
      (λ o. inr (own_up q (count f.before q) u.1 a o)) (at_fork q u f a h)

  step_bare : (q : Path) (u : ℕ × ℕ) (f : ForkAt R q u) (a : Access) → is_guarded (s.keeping q).bounds (fork_sound P arg l s q u f).state.entries ≡ false → f.tasks.kind ≡ Deterministic →
      Lie (u ∷ q) a → Lie q (unguarded a)
  step_bare q u f a out kind h = ⊎_elim
      (λ k. ((fork_sound P arg l s q u f).forks.unmarked kind out u.1 f.task f.is_there a k).effects)
      (λ o. inr (own_up q (count f.before q) u.1 a o)) (at_fork q u f a h)

  -- whether a fork is of a deterministic construct
  kind_at : (q : Path) (u : ℕ × ℕ) (f : ForkAt R q u) → is_det (first_of (suc u.0) (mine R q)) ≡ is_deterministic f.tasks.kind
  kind_at q u f =
      let i : suc (length (mine f.before q)) ≡ suc u.0 = ap suc f.number in
      let m : first_of (suc u.0) (mine R q) ≡ f.event ∷ mine f.before q =
      subst (λ k. first_of k (mine R q) ≡ f.event ∷ mine f.before q) i (first_is (mine_at q f.stands f.path)) in
      ap is_det m ∙ ap (λ c. kind_after c (is_det (mine f.before q))) f.act

  inner_nd : (q : Path) (u : ℕ × ℕ) (f : ForkAt R q u) → f.tasks.kind ≡ Nondeterministic → inner R (u ∷ q) ≡ inner R q
  inner_nd q u f kind = inner_step R u q ∙ cond-false _ (Branch_of u q) (inner R q) (kind_at q u f ∙ ap is_deterministic kind)

  -- from a task that was begun outside all blocks up to one above it: either all constructs on the way are nd ones, or marks were taken off
  record Climbed (xs q : Path) : Type 0 where
    marks : Bool
    straight : marks ≡ true → inner R (xs ++ q) ≡ inner R q
    lies : (a : Access) → Lie (xs ++ q) a → Lie q (seen marks a)

  climb : (xs q : Path) (t : Task) → Begun Q R (xs ++ q) t → above R (xs ++ q) ≡ Outside → Climbed xs q
  climb [] q t b h = record { marks = true; straight = λ e. refl; lies = λ a k. k }
  climb (v ∷ xs) q t b h = by_kind (parent P arg l s (xs ++ q) v t b) (λ k b' h'. climb xs q k b' h')
    where
      by_kind : (k : Parent P arg l s (xs ++ q) v) → ((z : Task) → Begun Q R (xs ++ q) z → above R (xs ++ q) ≡ Outside → Climbed xs q) → Climbed (v ∷ xs) q
      by_kind k rec = go k.fork.tasks.kind refl
        where
          out : is_guarded (s.keeping (xs ++ q)).bounds (fork_sound P arg l s (xs ++ q) v k.fork).state.entries ≡ false
          out = fork_free (xs ++ q) v t b k.fork h

          up : Climbed xs q
          up = rec k.task k.begun (outside_above (above R (xs ++ q)) (xs ++ q) (hold_of (fork_sound P arg l s (xs ++ q) v k.fork).state.entries)
              (sym (above_fork P arg l s (xs ++ q) v k.fork) ∙ h))

          go : (c : Forking) → k.fork.tasks.kind ≡ c → Climbed (v ∷ xs) q
          go Deterministic e = record {
            marks = false;
            straight = λ z. absurd (false≢true z);
            lies = λ a h. subst (Lie q) (seen_unguarded up.marks a) (up.lies (unguarded a) (step_bare (xs ++ q) v k.fork a out e h));
          }
          go Nondeterministic e = record {
            marks = up.marks;
            straight = λ z. inner_nd (xs ++ q) v k.fork e ∙ up.straight z;
            lies = λ a h. up.lies a (step_up (xs ++ q) v k.fork a out h);
          }

  -- a branch of an nd construct was begun in no block
  nd_outside : (q : Path) (u : ℕ × ℕ) (t : Task) → Begun Q R q t → (f : ForkAt R q u) → f.tasks.kind ≡ Nondeterministic → above R (u ∷ q) ≡ Outside
  nd_outside q u t b f kind = go (cases_Bool (is_guarded (s.keeping q).bounds ok.state.entries))
    where
      ok : ForkedAt P (s.keeping q) (branches_of P Q s.keeping q (count f.before q)) s.shapes (mine f.before q) f.tasks
      ok = fork_sound P arg l s q u f

      go : (is_guarded (s.keeping q).bounds ok.state.entries ≡ true) ⊎ (is_guarded (s.keeping q).bounds ok.state.entries ≡ false) → above R (u ∷ q) ≡ Outside
      go (inl e) = absurd (let z : ◌≡◌ {A = Forking} Deterministic Nondeterministic = sym (ok.nd_free.0 (inr e)) ∙ kind in cc)
      go (inr e) =
          let z = or_parts (s.keeping q).bounds.inside (is_entered ok.state.entries) e in
          above_fork P arg l s q u f ∙ ap (λ w. joined_by w q (hold_of ok.state.entries)) (outside_at P arg l s q t b z.0)
          ∙ ap (joined_by Outside q) (none_entered P arg l s ok.state.entries z.1)

  -- where a task has made an event
  grows_to : {X : Run} {x : Event} → Upto (x ∷ X) R → Grows X R
  grows_to hx = record { each = λ p. mine_upto p (upto_tail hx) }

  same_inner : {X : Run} {x : Event} → Upto (x ∷ X) R → inner X x.path ≡ inner R x.path
  same_inner {X} {x} hx = (let a = follows_at Q hx l in inner_same Q (faithful_upto Q (upto_tail hx) l) (grows_to hx) x.path a.begun)

  begun_outside : {X : Run} {x : Event} → Upto (x ∷ X) R → standing X x.path ≡ Outside → above R x.path ≡ Outside
  begun_outside {X} {x} hx o = (let a = follows_at Q hx l in
      sym (above_same Q (faithful_upto Q (upto_tail hx) l) (grows_to hx) x.path a.begun) ∙ outside_above (above X x.path) x.path (hold (mine X x.path)) o)

  -- a block in which a task stands that was begun below a branch of an nd construct
  record BlockIn (X : Run) (p o : Path) (w : ℕ × ℕ) (q : Path) : Type 0 where
    below : Path
    path : o ≡ below ++ w ∷ q
    climbed : Climbed below (w ∷ q)
    level : climbed.marks ≡ true → inner X o ≡ inner R q
    inside : Path
    stands : p ≡ inside ++ o

  block_in : {X : Run} {x : Event} → Upto (x ∷ X) R → (xs q : Path) (w : ℕ × ℕ) → x.path ≡ xs ++ w ∷ q → above R (w ∷ q) ≡ Outside → (f : ForkAt R q w) → f.tasks.kind ≡ Nondeterministic →
      (i : InBlock X x.path) → BlockIn X x.path i.opener w q
  block_in {X} {x} hx xs q w e out f kind i = record {
    below = under.0;
    path = under.1;
    climbed = up;
    level = λ z. inner_same Q lx grows i.opener begun.1 ∙ ap (inner R) under.1 ∙ up.straight z ∙ inner_nd q w f kind;
    inside = st.below;
    stands = st.path;
  }
    where
      lx : Faithful Q X
      lx = faithful_upto Q (upto_tail hx) l

      grows : Grows X R
      grows = grows_to hx

      st : Stands Q (stepped_disciplined P arg) X x.path i.opener i.effects
      st = stands Q (stepped_disciplined P arg) i.opener i.effects (faithful_upto Q hx l) i.stands

      begun : (t : Task) × Begun Q X i.opener t
      begun = begun_held Q X i.opener st.depth i.effects lx st.held

      stands_there : joined_by (above R (xs ++ w ∷ q)) (xs ++ w ∷ q) (hold (mine X x.path)) ≡ Inside i.opener i.effects
      stands_there =
          let a = follows_at Q hx l in
          subst (λ p. joined_by (above R p) p (hold (mine X x.path)) ≡ Inside i.opener i.effects) e
          (ap (λ z. joined_by z x.path (hold (mine X x.path))) (sym (above_same Q lx grows x.path a.begun)) ∙ i.stands)

      under : (ys : Path) × (i.opener ≡ ys ++ w ∷ q)
      under = opened_below P arg l s xs (w ∷ q) (hold (mine X x.path)) i.opener i.effects out stands_there

      up : Climbed under.0 (w ∷ q)
      up = climb under.0 (w ∷ q) begun.0 (subst (λ p. Begun Q R p begun.0) under.1 (begun_upto (upto_tail hx) begun.1))
          (subst (λ p. above R p ≡ Outside) under.1 (sym (above_same Q lx grows i.opener begun.1) ∙ st.outside))

  -- what the task does lies in what the branch may do, without a mark where marks were taken off
  block_lies : {X : Run} {x : Event} {o q : Path} {w : ℕ × ℕ} → Upto (x ∷ X) R → (k : BlockIn X x.path o w q) → (a : Access) → Lies (s.keeping x.path).bounds a →
      Lie (w ∷ q) (seen k.climbed.marks a)
  block_lies {o = o} hx k a h = k.climbed.lies a (subst (λ p. Lie p a) k.path
      (lies_up P arg l s k.inside o hx k.stands a (subst (λ p. Lies (s.keeping p).bounds a) k.stands h)).effects)

  -- tasks of two branches of an nd construct
  module _ {X Y : Run} {x y : Event} (hx : Upto (x ∷ X) R) (hy : Upto (y ∷ Y) R) (n : Unordered x.path y.path) where
    up_x : Upto X R
    up_x = upto_tail hx

    up_y : Upto Y R
    up_y = upto_tail hy

    abbrev fork_x : ForkAt R n.above n.u
    fork_x = fork_of_event P arg l s n.below_p n.above n.u hx n.p_is

    abbrev fork_y : ForkAt R n.above n.v
    fork_y = fork_of_event P arg l s n.below_q n.above n.v hy n.q_is

    above_task : (t : Task) × Begun Q R n.above t
    above_task = (let a = follows_at Q fork_x.stands l in (a.task, subst (λ p. Begun Q R p a.task) fork_x.path (begun_upto (upto_tail fork_x.stands) a.begun)))

    same_fork : (fork_x.event ≡ fork_y.event) × (fork_x.before ≡ fork_y.before)
    same_fork = same_of n.above fork_x.stands fork_y.stands fork_x.path fork_y.path (fork_x.number ∙ n.one_fork ∙ sym fork_y.number)

    same_tasks : fork_y.tasks ≡ fork_x.tasks
    same_tasks = let k : ◌≡◌ {A = Action} (Fork fork_y.tasks) (Fork fork_x.tasks) = sym fork_y.act ∙ ap (λ (e : Event). e.act) (sym same_fork.0) ∙ fork_x.act in cc

    abbrev ok : ForkedAt P (s.keeping n.above) (branches_of P Q s.keeping n.above (count fork_x.before n.above)) s.shapes (mine fork_x.before n.above) fork_x.tasks
    ok = fork_sound P arg l s n.above n.u fork_x

    -- what an entry says of effects that aren't on local regions lies in what the branch may do
    each_says : (w : ℕ × ℕ) (m : Bool) (p : Path) → s.keeping (w ∷ n.above) ≡ branch_kept (s.keeping n.above) ok.state ok.forks (count fork_x.before n.above) w.1 →
        ((e : Effect) → Lie p (entered e) → Lie (w ∷ n.above) (seen m (entered e))) → (entries : List Entry) (E : List Effect) → MayEnterWith (s.keeping p).bounds entries E →
        EachKept (λ e. LiesIn (ok.forks.setting w.1) (ok.forks.effects w.1) (seen m (entered e))) E
    each_says w m p kept lies entries [] h = tt
    each_says w m p kept lies entries (e ∷ E) h = (λ k. one k (lies e h.0.effects), each_says w m p kept lies entries E h.1)
      where
        region_same : (m : Bool) → (seen m (entered e)).region ≡ elems_of e.region
        region_same true = refl
        region_same false = refl

        one : is_local e ≡ false → Lie (w ∷ n.above) (seen m (entered e)) → LiesIn (ok.forks.setting w.1) (ok.forks.effects w.1) (seen m (entered e))
        one k z = ⊎_elim (λ i. i) (λ o. absurd (false≢true (sym k ∙ own_is_local _ e.region (subst (InOwnRegion _) (region_same m) o))))
            (subst (λ (k : Kept). LiesIn k.bounds.setting k.bounds.effects (seen m (entered e)) ⊎ InOwnRegion k.bounds.path (seen m (entered e)).region) kept z)

    module _ (kind : fork_x.tasks.kind ≡ Nondeterministic) where
      kind_y : fork_y.tasks.kind ≡ Nondeterministic
      kind_y = ap (λ (b : Branches). b.kind) same_tasks ∙ kind

      out_x : above R (n.u ∷ n.above) ≡ Outside
      out_x = nd_outside n.above n.u above_task.0 above_task.1 fork_x kind

      out_y : above R (n.v ∷ n.above) ≡ Outside
      out_y = nd_outside n.above n.v above_task.0 above_task.1 fork_y kind_y

      -- accesses that conflict stand in blocks of one level
      module _ (k : Clash P arg l s X x Y y) (gs : Guarded lets X x Y y) where
        block_x : BlockIn X x.path gs.former.opener n.u n.above
        block_x = block_in hx n.below_p n.above n.u n.p_is out_x fork_x kind gs.former

        block_y : BlockIn Y y.path gs.latter.opener n.v n.above
        block_y = block_in hy n.below_q n.above n.v n.q_is out_y fork_y kind_y gs.latter

        differ : gs.former.opener ≡ gs.latter.opener → ⊥
        differ e = n.apart (ap (λ z. z.1) (tails_differ block_x.below block_y.below n.above n.u n.v (sym block_x.path ∙ e ∙ block_y.path)))

        meets : Meet (access k.first) (access k.second)
        meets = one_place k.first k.second k.write

        same_level : inner X gs.former.opener ≡ inner Y gs.latter.opener
        same_level = go block_x.climbed.marks block_y.climbed.marks refl refl
          where
            lies_x : Lie (n.u ∷ n.above) (seen block_x.climbed.marks (access k.first))
            lies_x = block_lies hx block_x (access k.first) (access_lies k.first)

            lies_y : Lie (n.v ∷ n.above) (seen block_y.climbed.marks (access k.second))
            lies_y = block_lies hy block_y (access k.second) (access_lies k.second)

            none : (a c : Access) → Meet a c → Lie (n.u ∷ n.above) a → Lie (n.v ∷ n.above) c → (a.guarded && c.guarded) ≡ false → ⊥
            none a c m la lc e =
                let z = met_at P arg l s hx hy n a c la lc m in
                let may = subst (λ f. MayMeet P f a c) kind z.may in
                false≢true (sym e ∙ and_from _ _ may.0 may.1)

            bare_meets : (b d : Bool) → Meet (seen b (access k.first)) (seen d (access k.second))
            bare_meets true true = meets
            bare_meets true false = record { cells = meets.cells; object = meets.object; index = meets.index; region = meets.region; write = meets.write }
            bare_meets false true = record { cells = meets.cells; object = meets.object; index = meets.index; region = meets.region; write = meets.write }
            bare_meets false false = record { cells = meets.cells; object = meets.object; index = meets.index; region = meets.region; write = meets.write }

            and_false : (c : Bool) → (c && false) ≡ false
            and_false true = refl
            and_false false = refl

            go : (b d : Bool) → block_x.climbed.marks ≡ b → block_y.climbed.marks ≡ d → inner X gs.former.opener ≡ inner Y gs.latter.opener
            go true true e f = block_x.level e ∙ sym (block_y.level f)
            go false d e f = absurd (none (unguarded (access k.first)) (seen d (access k.second)) (bare_meets false d)
                (subst (λ b. Lie (n.u ∷ n.above) (seen b (access k.first))) e lies_x) (subst (λ d. Lie (n.v ∷ n.above) (seen d (access k.second))) f lies_y) refl)
            go true false e f = absurd (none (access k.first) (unguarded (access k.second)) (bare_meets true false)
                (subst (λ b. Lie (n.u ∷ n.above) (seen b (access k.first))) e lies_x) (subst (λ d. Lie (n.v ∷ n.above) (seen d (access k.second))) f lies_y)
                (and_false (access k.first).guarded))

        levelled : Levelled lets X x Y y
        levelled = record { former = gs.former; latter = gs.latter; differ = differ; level = same_level; barred = gs.barred differ }

      -- blocks on two levels
      module _ (E F : List Effect) (xe : x.act ≡ Do (Enter E)) (ye : y.act ≡ Do (Enter F)) (sx : standing X x.path ≡ Outside) (sy : standing Y y.path ≡ Outside)
          (levels : inner X x.path ≡ inner Y y.path → ⊥) where
        entry_x : EnteredAt (s.keeping x.path).bounds s.shapes (mine X x.path) E
        entry_x = subst (λ c. EventOk P Q (s.keeping x.path) (branches_of P Q s.keeping x.path) s.shapes X x.path c) xe (s.events x X hx)

        entry_y : EnteredAt (s.keeping y.path).bounds s.shapes (mine Y y.path) F
        entry_y = subst (λ c. EventOk P Q (s.keeping y.path) (branches_of P Q s.keeping y.path) s.shapes Y y.path c) ye (s.events y Y hy)

        abbrev climb_x : Climbed n.below_p (n.u ∷ n.above)
        climb_x = (let a = follows_at Q hx l in
            climb n.below_p (n.u ∷ n.above) a.task (subst (λ p. Begun Q R p a.task) n.p_is (begun_upto up_x a.begun))
            (subst (λ p. above R p ≡ Outside) n.p_is (begun_outside hx sx)))

        abbrev climb_y : Climbed n.below_q (n.v ∷ n.above)
        climb_y = (let a = follows_at Q hy l in
            climb n.below_q (n.v ∷ n.above) a.task (subst (λ p. Begun Q R p a.task) n.q_is (begun_upto up_y a.begun))
            (subst (λ p. above R p ≡ Outside) n.q_is (begun_outside hy sy)))

        not_both : climb_x.marks ≡ true → climb_y.marks ≡ true → ⊥
        not_both a c = levels (same_inner hx ∙ ap (inner R) n.p_is ∙ climb_x.straight a ∙ inner_nd n.above n.u fork_x kind
            ∙ sym (same_inner hy ∙ ap (inner R) n.q_is ∙ climb_y.straight c ∙ inner_nd n.above n.v fork_y kind_y))

        abbrev Says : Effect → Type 0
        Says e = LiesIn (ok.forks.setting n.u.1) (ok.forks.effects n.u.1) (seen climb_x.marks (entered e))

        abbrev Speaks_too : Effect → Type 0
        Speaks_too f = LiesIn (ok.forks.setting n.v.1) (ok.forks.effects n.v.1) (seen climb_y.marks (entered f))

        few_u : n.u.1 < length fork_x.tasks.tasks
        few_u = slice_get_within fork_x.tasks.tasks n.u.1 fork_x.task fork_x.is_there

        few_v : n.v.1 < length fork_x.tasks.tasks
        few_v = slice_get_within fork_x.tasks.tasks n.v.1 fork_y.task (ap (λ (b : Branches). slice_get b.tasks n.v.1) (sym same_tasks) ∙ fork_y.is_there)

        says_x : EachKept Says E
        says_x = each_says n.u climb_x.marks x.path (kept_is P arg l s n.above n.u fork_x)
            (λ e h. climb_x.lies (entered e) (subst (λ p. Lie p (entered e)) n.p_is h)) entry_x.state.entries E entry_x.may

        says_y : EachKept Speaks_too F
        says_y = each_says n.v climb_y.marks y.path (ap (λ z. s.keeping ((z, n.v.1) ∷ n.above)) (sym (fork_x.number ∙ n.one_fork)) ∙ ok.kept n.v.1)
            (λ f h. climb_y.lies (entered f) (subst (λ p. Lie p (entered f)) n.q_is h)) entry_y.state.entries F entry_y.may

        apart_at : (e f : Effect) (b d : Bool) (never : b ≡ true → d ≡ true → ⊥) → LiesIn (ok.forks.setting n.u.1) (ok.forks.effects n.u.1) (seen b (entered e)) →
            LiesIn (ok.forks.setting n.v.1) (ok.forks.effects n.v.1) (seen d (entered f)) → (is_write e.access || is_write f.access) ≡ true →
            paths.apart [] (as_path e.region) (as_path f.region) ≡ true
        apart_at e f true true never a c w = absurd (never refl refl)
        apart_at e f true false never a c w = ok.forks.separate kind n.u.1 n.v.1 n.apart few_u few_v (entered e) (unguarded (entered f)) w refl a c
        apart_at e f false true never a c w = ok.forks.separate kind n.u.1 n.v.1 n.apart few_u few_v (unguarded (entered e)) (entered f) w refl a c
        apart_at e f false false never a c w = ok.forks.separate kind n.u.1 n.v.1 n.apart few_u few_v (unguarded (entered e)) (unguarded (entered f)) w refl a c

        or_back : (b d : Bool) → (b || d) ≡ true → (d || b) ≡ true
        or_back true d h = or_right d true refl
        or_back false d h = or_left d false h

        free : (e f : Effect) → Says e → Speaks_too f → interferes e f ≡ false
        free e f a c = apart_free e f (apart_at e f climb_x.marks climb_y.marks not_both a c)

        free_back : (f e : Effect) → Speaks_too f → Says e → interferes f e ≡ false
        free_back f e c a = apart_free f e (λ w. apart_swap [] (as_path e.region) (as_path f.region)
            (apart_at e f climb_x.marks climb_y.marks not_both a c (or_back (is_write f.access) (is_write e.access) w)))

        let_by : LetBy (leaving_locals lets) E F
        let_by = (lets_kept Says Speaks_too free E F says_x says_y, lets_kept Speaks_too Says free_back F E says_y says_x)

pub conflicts_are_levelled : ConflictsAreLevelled
conflicts_are_levelled P wt arg small R l = record { each = each }
  where
    f : Faithful (stepped P arg) R
    f = legal_faithful (stepped P arg) R l

    s : Sound P (stepped P arg) (length R) R
    s = sound P wt arg small (length R) R f (omega arith)

    each : (Y X : Run) (y x : Event) → Upto (y ∷ Y) R → Upto (x ∷ X) Y → Unordered x.path y.path → Conflict x y → Levelled lets X x Y y
    each Y X y x hy hx n c =
        let up = upto_trans hx (upto_tail hy) in
        let g = (conflicts_are_guarded P wt arg small R l).each Y X y x hy hx n c in
        let k = clash_of P arg f s up hy c in
        let m = clash_met P arg f s up hy n k in
        by_kind (fork_of_event P arg f s n.below_p n.above n.u up n.p_is).tasks.kind refl (access k.first) (access k.second) m.may k g
      where
        up : Upto (x ∷ X) R
        up = upto_trans hx (upto_tail hy)

        by_kind : (z : Forking) → (fork_of_event P arg f s n.below_p n.above n.u up n.p_is).tasks.kind ≡ z →
            (a d : Access) → MayMeet P (fork_of_event P arg f s n.below_p n.above n.u up n.p_is).tasks.kind a d → Clash P arg f s X x Y y → Guarded lets X x Y y → Levelled lets X x Y y
        by_kind Deterministic e a d may k g = absurd (subst (λ z. MayMeet P z a d) e may)
        by_kind Nondeterministic e a d may k g = levelled P arg f s up hy n e k g

pub entries_are_let : EntriesAreLet
entries_are_let P wt arg small R l = record { each = each }
  where
    f : Faithful (stepped P arg) R
    f = legal_faithful (stepped P arg) R l

    s : Sound P (stepped P arg) (length R) R
    s = sound P wt arg small (length R) R f (omega arith)

    kind_of : (z : Forking) → is_deterministic z ≡ false → z ≡ Nondeterministic
    kind_of Nondeterministic h = refl
    kind_of Deterministic h = absurd (false≢true (sym h))

    each : (Y X : Run) (y x : Event) (E F : List Effect) → Upto (y ∷ Y) R → Upto (x ∷ X) Y → (n : Unordered x.path y.path) → PartAtNd R x.path y.path n → x.act ≡ Do (Enter E) →
        y.act ≡ Do (Enter F) → standing X x.path ≡ Outside → standing Y y.path ≡ Outside → (inner X x.path ≡ inner Y y.path → ⊥) → LetBy (leaving_locals lets) E F
    each Y X y x E F hy hx n nd xe ye sx sy levels =
        let up = upto_trans hx (upto_tail hy) in
        let fork = fork_of_event P arg f s n.below_p n.above n.u up n.p_is in
        let_by P arg f s up hy n (kind_of fork.tasks.kind (sym (kind_at P arg f s n.above n.u fork) ∙ nd)) E F xe ye sx sy levels
