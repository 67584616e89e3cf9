-- Within one faithful run: what comes after a fork, after its begins and after an end; forks stand above, joins close.
use Rattle.std.proofs.Common.{◌≡◌, ℕ, zero, suc, ◌<◌, ◌≤◌, ◌⊎◌, inl, inr, ⊎_elim, List, [], ◌∷◌, ◌++◌, length, refl, sym, ap, ◌∙◌, subst, arith, Some, None}
use Rattle.std.proofs.Common.{slice_get}
use Rattle.std.proofs.lemmas.Bool.{cases_order, cases_lt}
use Rattle.std.proofs.lemmas.Option.{slice_get_past}
use Rattle.std.proofs.Common.{◌+◌, ◌-◌, length-append, append_assoc}
use Rattle.std.proofs.lemmas.List.{map-append, length-map}
use Rattle.runs_theory.specs.Actions.{Action, Answer, Asks, Begin, Branches, End, Ending, Fork, Join, Next, Over, Program, Task}
use Rattle.runs_theory.specs.Meaning.{Disciplined}
use Rattle.runs_theory.specs.Objects.{Path}
use Rattle.runs_theory.specs.Order.{Agree, IsPlain, Passes}
use Rattle.runs_theory.specs.Runs.{Begun, Ended, Event, Faithful, Follows, Joins, Right, Run, Upto, answers, branch, count, later, mine, now, root}
use Rattle.runs_theory.proofs.events.Upto.{upto_rest, upto_trans, upto_length, upto_same, upto_tail, upto_two}
use Rattle.runs_theory.proofs.events.Mine.{mine_at, Found, found, earlier_of, same_of, number_of, numbered}

pub plain_no_fork : (a : Action) (ts : Branches) → IsPlain a → a ≡ Fork ts → ⊥
plain_no_fork a ts h e = subst IsPlain e h

pub plain_no_join : (a : Action) → IsPlain a → a ≡ Join → ⊥
plain_no_join a h e = subst IsPlain e h

pub next_same : (n m : ℕ) (a b : Action) → Next n a ≡ Next m b → (n ≡ m) × (a ≡ b)
next_same n m a b e = (cc, cc)

pub some_same : {A : Type 0} (x y : A) → Some x ≡ Some y → x ≡ y
some_same x y e = cc

pub agree_self : (R : Run) → Agree R R
agree_self R = record { both = λ p. inl now }

both_there : {A B : Type 0} (xs : List A) (ys : List B) (n : ℕ) (x : A) → length xs ≡ length ys → slice_get xs n ≡ Some x → (y : B) × (slice_get ys n ≡ Some y)
both_there [] ys n x e g = absurd (let z : None ≡ Some x = sym (slice_get_past [] n (omega arith)) ∙ g in cc)
both_there (w ∷ xs) [] n x e g = absurd (omega arith)
both_there (w ∷ xs) (y ∷ ys) zero x e g = (y, refl)
both_there (w ∷ xs) (y ∷ ys) (suc n) x e g = both_there xs ys n x (omega arith) g

-- a fork of this task, and the branch that it is to do
pub record ForkAt (R : Run) (q : Path) (u : ℕ × ℕ) : Type 0 where
  pub before : Run
  pub event : Event
  pub stands : Upto (event ∷ before) R
  pub path : event.path ≡ q
  pub number : count before q ≡ u.0
  pub tasks : Branches
  pub act : event.act ≡ Fork tasks
  pub task : Task
  pub is_there : slice_get tasks.tasks u.1 ≡ Some task
  pub began : Run
  pub begin : Event
  pub begin_stands : Upto (begin ∷ began) R
  pub begin_path : begin.path ≡ q
  pub begin_act : begin.act ≡ Begin u.1
  pub begin_number : count began q ≡ suc (u.0 + u.1)

pub fork_upto : {B R : Run} {q : Path} {u : ℕ × ℕ} → Upto B R → ForkAt B q u → ForkAt R q u
fork_upto h f = record {
  before = f.before;
  event = f.event;
  stands = upto_trans f.stands h;
  path = f.path;
  number = f.number;
  tasks = f.tasks;
  act = f.act;
  task = f.task;
  is_there = f.is_there;
  began = f.began;
  begin = f.begin;
  begin_stands = upto_trans f.begin_stands h;
  begin_path =
      f.begin_path;
  begin_act = f.begin_act;
  begin_number = f.begin_number;
}

pub ended_upto : {B R : Run} {p : Path} {x : Ending} → Upto B R → Ended B p x → Ended R p x
ended_upto h e = record { before = e.before; event = e.event; stands = upto_trans e.stands h; path = e.path; act = e.act }

pub begun_upto : {P : Program} {B R : Run} {p : Path} {t : Task} → Upto B R → Begun P B p t → Begun P R p t
begun_upto h (root a b) = root a b
begun_upto h (branch q u F f ts B k a b c d e g b1 c1 e1 d1) = branch q u F f ts B k a (upto_trans b h) c d e g (upto_trans b1 h) c1 e1 d1

-- what stands in the one run stands in the other, if the other has as many events of the task
pub carry : {R S : Run} {w : Event} {W : Run} (q : Path) → Agree R S → Upto (w ∷ W) R → w.path ≡ q → count W q < count S q → Found S q w (mine W q)
carry {R} {S} {w} {W} q ag h e l = ⊎_elim (λ u. found S q (upto_trans (mine_at q h e) u)) (λ u. back (upto_two (mine_at q h e) u)) (ag.both q)
  where
    back : Upto (w ∷ mine W q) (mine S q) ⊎ Upto (mine S q) (w ∷ mine W q) → Found S q w (mine W q)
    back (inl k) = found S q k
    back (inr k) = let n = upto_length k in let s = upto_same k (omega arith) in found S q (subst (λ l. Upto l (mine S q)) s now)

-- events of one task with the same number are one in runs that agree
pub same_event_of : {R S F G : Run} {f g : Event} (q : Path) → Agree R S → Upto (f ∷ F) R → f.path ≡ q → Upto (g ∷ G) S → g.path ≡ q → count F q ≡ count G q
    → f ≡ g
same_event_of {R} {S} {F} {G} q ag hf fq hg gq n =
    let l : count F q < count S q = subst (λ m. m < count S q) (sym n) (number_of q hg gq) in
    let w = carry q ag hf fq l in
    (same_of q w.stands hg fq gq (ap length w.mine_is ∙ n)).0

-- the task of a name is one
pub same_task : {P : Program} {R S : Run} {p : Path} {t s : Task} → Agree R S → Begun P R p t → Begun P S p s → t ≡ s
same_task ag (root a b) (root c d) = b ∙ sym d
same_task ag (root a b) (branch q u F f ts B1 k1 c d e g h i b1 c1 e1 d1) = absurd (let k = sym a ∙ c in cc)
same_task ag (branch q u F f ts B1 k1 c d e g h i b1 c1 e1 d1) (root a b) = absurd (let k = sym a ∙ c in cc)
same_task {R = R} {S = S} {t = t} {s = s} ag (branch q u F f ts B1 k1 a b c d e g b1 c1 e1 d1) (branch q' u' F' f' ts' B2 k2 a' b' c' d' e' g' b2 c2 e2 d2) =
    let k : u ∷ q ≡ u' ∷ q' = sym a ∙ a' in
    let uu : u ≡ u' = cc in
    let qq : q' ≡ q = cc in
    let c'' : f'.path ≡ q = c' ∙ qq in
    let n : count F q ≡ count F' q = d ∙ ap (λ w. w.0) uu ∙ sym (subst (λ r. count F' r ≡ u'.0) qq d') in
    let ff : f ≡ f' = same_event_of q ag b c b' c'' n in
    let tt' : Fork ts ≡ Fork ts' = sym e ∙ ap (λ v. v.act) ff ∙ e' in
    let ts_is : ts ≡ ts' = cc in
    let same : slice_get ts.tasks u.1 ≡ slice_get ts'.tasks u'.1 = (λ i. slice_get (ts_is i).tasks (uu i).1) in
    some_same t s (sym g ∙ same ∙ g')

module _ (P : Program) where
  pub faithful_upto : {B R : Run} → Upto B R → Faithful P R → Faithful P B
  faithful_upto now l = l
  faithful_upto (later h) l = faithful_upto h l.1

  pub follows_at : {e : Event} {B R : Run} → Upto (e ∷ B) R → Faithful P R → Follows P B e
  follows_at h l = (faithful_upto h l).0

  -- the next action is one, after the same events
  pub same_act : {R S B C : Run} {e f : Event} (p : Path) → Agree R S → Upto B R → Upto C S → Follows P B e → Follows P C f
      → e.path ≡ p → f.path ≡ p → mine B p ≡ mine C p → (e.ticks ≡ f.ticks) × (e.act ≡ f.act)
  same_act {B = B} {C = C} {e = e} {f = f} p ag hb hc a b ep fp m =
      let t : a.task ≡ b.task = same_task ag (begun_upto hb a.begun) (begun_upto hc (subst (λ r. Begun P C r b.task) (fp ∙ sym ep) b.begun)) in
      let a1 = subst (λ r. P.meaning r a.task (answers (mine B r)) ≡ Next e.ticks e.act) ep a.asks in
      let b1 = subst (λ r. P.meaning r b.task (answers (mine C r)) ≡ Next f.ticks f.act) fp b.asks in
      let c1 : P.meaning p a.task (answers (mine B p)) ≡ P.meaning p b.task (answers (mine C p)) =
      ap (λ t. P.meaning p t (answers (mine B p))) t ∙ ap (λ l. P.meaning p b.task (answers l)) m in
      next_same e.ticks f.ticks e.act f.act (sym a1 ∙ c1 ∙ b1)

  -- the task of an event, and that it makes this action
  record Asked (R : Run) (q : Path) (y : Event) (Y : Run) : Type 0 where
    task : Task
    begun : Begun P R q task
    asks : P.meaning q task (answers (mine Y q)) ≡ Next y.ticks y.act

  asked_of : {R Y : Run} {y : Event} (q : Path) → Faithful P R → Upto (y ∷ Y) R → y.path ≡ q → Asked R q y Y
  asked_of {R} {Y} {y} q l hy yq =
      let a = follows_at hy l in
      record {
        task = a.task;
        begun = begun_upto (upto_tail hy) (subst (λ r. Begun P Y r a.task) yq a.begun);
        asks = subst (λ r. P.meaning r a.task (answers (mine Y r)) ≡ Next y.ticks y.act) yq a.asks;
      }

  -- the events of a task before one of them, from the one in front of it
  pub one_more : {R F Y : Run} {f y : Event} (q : Path) → Upto (f ∷ F) R → f.path ≡ q → Upto (y ∷ Y) R → y.path ≡ q → count Y q ≡ suc (count F q)
      → mine Y q ≡ f ∷ mine F q
  one_more {F = F} {Y = Y} {f = f} q hf fq hy yq n =
      let e = earlier_of q hf hy fq yq (omega arith) in
      sym (upto_same (mine_at q e fq) (sym n))

  module _ (D : Disciplined P) where
    -- the events after a fork
    since_fork : {R F Y : Run} {f y : Event} (q : Path) (ts : Branches) → Faithful P R → Upto (f ∷ F) R → f.path ≡ q → f.act ≡ Fork ts → Upto (y ∷ Y) R
        → y.path ≡ q → count F q < count Y q → (t : Task) × (zs : Run) × (mine Y q ≡ zs ++ f ∷ mine F q) × Asks P q t (answers (mine F q)) (Fork ts)
        × (P.meaning q t ((answers zs ++ f.ans ∷ []) ++ answers (mine F q)) ≡ Next y.ticks y.act)
    since_fork {R} {F} {Y} {f} {y} q ts l hf fq fa hy yq n =
        let h = earlier_of q hf hy fq yq n in
        let z = upto_rest (mine_at q h fq) in
        let a = asked_of q l hf fq in
        let b = asked_of q l hy yq in
        let t : b.task ≡ a.task = same_task (agree_self R) b.begun a.begun in
        let e1 : answers (z.0 ++ f ∷ mine F q) ≡ (answers z.0 ++ f.ans ∷ []) ++ answers (mine F q) =
        map-append (λ e. e.ans) z.0 (f ∷ mine F q) ∙ sym (append_assoc (answers z.0) (f.ans ∷ []) (answers (mine F q))) in
        let k : P.meaning q b.task (answers (mine Y q)) ≡ P.meaning q a.task ((answers z.0 ++ f.ans ∷ []) ++ answers (mine F q)) =
        ap (λ t. P.meaning q t (answers (mine Y q))) t ∙ ap (λ l. P.meaning q a.task (answers l)) z.1 ∙ ap (λ l. P.meaning q a.task l) e1 in
        (a.task, z.0, z.1, (f.ticks, a.asks ∙ ap (λ z. Next f.ticks z) fa), sym k ∙ b.asks)

    since_length : (f : Event) (zs es ys : Run) → ys ≡ zs ++ f ∷ es → length (answers zs ++ f.ans ∷ []) ≡ suc (length zs)
        × (length ys ≡ suc (length zs + length es))
    since_length f zs es ys e = (
      omega (arith, length-append (answers zs) (f.ans ∷ []), length-map zs (λ e. e.ans)),
      omega (arith, ap length e, length-append zs (f ∷ es)),
    )

    pub begin_after : {R F Y : Run} {f y : Event} (q : Path) (ts : Branches) (k : ℕ) → Faithful P R → Upto (f ∷ F) R → f.path ≡ q → f.act ≡ Fork ts
        → Upto (y ∷ Y) R → y.path ≡ q → count Y q ≡ suc (count F q + k) → k < length ts.tasks → y.act ≡ Begin k
    begin_after {R} {F} {Y} {f} {y} q ts k l hf fq fa hy yq n lt =
        let z = since_fork q ts l hf fq fa hy yq (omega arith) in
        let m = since_length f z.1 (mine F q) (mine Y q) z.2 in
        let m0 = m.0 in
        let m1 = m.1 in
        let d = D.begins q z.0 (answers (mine F q)) (answers z.1 ++ f.ans ∷ []) ts k z.3 (omega arith) lt in
        (next_same y.ticks d.0 y.act (Begin k) (sym z.4 ∙ d.1)).1

    -- after a fork and its begins stands the join
    pub join_after : {R F Y : Run} {f y : Event} (q : Path) (ts : Branches) → Faithful P R → Upto (f ∷ F) R → f.path ≡ q → f.act ≡ Fork ts → Upto (y ∷ Y) R
        → y.path ≡ q → count Y q ≡ suc (count F q + length ts.tasks) → y.act ≡ Join
    join_after {R} {F} {Y} {f} {y} q ts l hf fq fa hy yq n =
        let z = since_fork q ts l hf fq fa hy yq (omega arith) in
        let m = since_length f z.1 (mine F q) (mine Y q) z.2 in
        let m0 = m.0 in
        let m1 = m.1 in
        let d = D.joins q z.0 (answers (mine F q)) (answers z.1 ++ f.ans ∷ []) ts z.3 (omega arith) in
        (next_same y.ticks d.0 y.act Join (sym z.4 ∙ d.1)).1

    -- nothing stands after an end
    next_after_end : {R G Y : Run} {g y : Event} {x : Ending} (q : Path) → Faithful P R → Upto (g ∷ G) R → g.path ≡ q → g.act ≡ End x → Upto (y ∷ Y) R
        → y.path ≡ q → count Y q ≡ suc (count G q) → ⊥
    next_after_end {R} {G} {Y} {g} {y} {x} q l hg gq ga hy yq n =
        let m = one_more q hg gq hy yq n in
        let a = asked_of q l hg gq in
        let b = asked_of q l hy yq in
        let t : b.task ≡ a.task = same_task (agree_self R) b.begun a.begun in
        let d = D.over q a.task (answers (mine G q)) x g.ans (g.ticks, a.asks ∙ ap (λ z. Next g.ticks z) ga) in
        let k : P.meaning q b.task (answers (mine Y q)) ≡ P.meaning q a.task (g.ans ∷ answers (mine G q)) =
        ap (λ t. P.meaning q t (answers (mine Y q))) t ∙ ap (λ l. P.meaning q a.task (answers l)) m in
        let z : Next y.ticks y.act ≡ Over = sym b.asks ∙ k ∙ d in
        cc

    pub none_after_end : {R G Y : Run} {g y : Event} {x : Ending} (q : Path) → Faithful P R → Upto (g ∷ G) R → g.path ≡ q → g.act ≡ End x → Upto (y ∷ Y) R
        → y.path ≡ q → count Y q ≤ count G q
    none_after_end {R} {G} {Y} {g} {y} q l hg gq ga hy yq = ⊎_elim (λ h. absurd (far h)) (λ h. h) (cases_lt (count G q) (count Y q))
      where
        far : count G q < count Y q → ⊥
        far h =
            let s = number_of q hy yq in
            let z = numbered R q (suc (count G q)) (omega arith) in
            next_after_end q l hg gq ga z.2 z.3 z.4

    -- the fork of a task that has begun
    pub own_fork : {S : Run} {t : Task} (p q : Path) (u : ℕ × ℕ) → Begun P S p t → p ≡ u ∷ q → ForkAt S q u
    own_fork p q u (root a b) e = absurd (let k : u ∷ q ≡ [] = sym e ∙ a in cc)
    own_fork {S} {t} p q u (branch q' u' F f ts B k1 a b c d g h b1 c1 e1 d1) e =
        let k : u ∷ q ≡ u' ∷ q' = sym e ∙ a in
        let uu : u' ≡ u = cc in
        let qq : q' ≡ q = cc in
        record {
          before = F;
          event = f;
          stands = b;
          path = c ∙ qq;
          number = ap (λ r. count F r) (sym qq) ∙ d ∙ ap (λ w. w.0) uu;
          tasks = ts;
          act = g;
          task = t;
          is_there = ap (λ w. slice_get ts.tasks w.1) (sym uu) ∙ h;
          began = B;
          begin = k1;
          begin_stands = b1;
          begin_path = c1 ∙ qq;
          begin_act = e1 ∙ ap (λ w. Begin w.1) uu;
          begin_number = ap (λ r. count B r) (sym qq) ∙ d1 ∙ ap (λ w. suc (w.0 + w.1)) uu;
        }

    -- the fork above a task that has made an event
    pub fork_above : {R Y : Run} {y : Event} (xs q : Path) (u : ℕ × ℕ) → Faithful P R → Upto (y ∷ Y) R → y.path ≡ xs ++ u ∷ q → ForkAt Y q u
    fork_above {R} {Y} {y} [] q u l hy e = own_fork y.path q u (follows_at hy l).begun e
    fork_above {R} {Y} {y} (x ∷ xs) q u l hy e = go (follows_at hy l).begun (λ F f h k. fork_above xs q u (faithful_upto (upto_tail hy) l) h k)
      where
        go : {t : Task} → Begun P Y y.path t → ((F : Run) (f : Event) → Upto (f ∷ F) Y → f.path ≡ xs ++ u ∷ q → ForkAt F q u) → ForkAt Y q u
        go (root a b) rec = absurd (let k : x ∷ (xs ++ u ∷ q) ≡ [] = sym e ∙ a in cc)
        go {t} (branch q' u' F f ts B k1 a b c d g h b1 c1 e1 d1) rec =
            let k : x ∷ (xs ++ u ∷ q) ≡ u' ∷ q' = sym e ∙ a in
            let qq : q' ≡ xs ++ u ∷ q = cc in
            fork_upto (upto_tail b) (rec F f b (c ∙ qq))

    -- the join of a fork numbered i, of m branches
    pub record JoinAt (R : Run) (q : Path) (i m : ℕ) : Type 0 where
      pub before : Run
      pub event : Event
      pub stands : Upto (event ∷ before) R
      pub path : event.path ≡ q
      pub number : count before q ≡ suc (i + m)
      pub act : event.act ≡ Join

    abbrev pub join_upto : {B R : Run} {q : Path} {i m : ℕ} → Upto B R → JoinAt B q i m → JoinAt R q i m
    join_upto h j = record { before = j.before; event = j.event; stands = upto_trans j.stands h; path = j.path; number = j.number; act = j.act }

    pub joined_before : {R F Y : Run} {f y : Event} (q : Path) (ts : Branches) → Faithful P R → Upto (f ∷ F) R → f.path ≡ q → f.act ≡ Fork ts
        → Upto (y ∷ Y) R → y.path ≡ q → count F q < count Y q → Passes y.act → JoinAt Y q (count F q) (length ts.tasks)
    joined_before {R} {F} {Y} {f} {y} q ts l hf fq fa hy yq n never = go (cases_order (count Y q) (suc (count F q + length ts.tasks)))
      where
        less : (k : ℕ) → count Y q ≡ suc (count F q + k) → k < length ts.tasks → ⊥
        less k e lt = never.not_begin k (begin_after q ts k l hf fq fa hy yq e lt)

        go : (count Y q ≡ suc (count F q + length ts.tasks))
            ⊎ ((count Y q < suc (count F q + length ts.tasks)) ⊎ (suc (count F q + length ts.tasks) < count Y q)) → JoinAt Y q (count F q) (length ts.tasks)
        go (inl e) = absurd (never.not_join (join_after q ts l hf fq fa hy yq e))
        go (inr (inl lt)) = absurd (less (count Y q - suc (count F q)) (omega arith) (omega arith))
        go (inr (inr gt)) =
            let z = numbered Y q (suc (count F q + length ts.tasks)) gt in
            let h = upto_trans z.2 (upto_tail hy) in
            record { before = z.1; event = z.0; stands = z.2; path = z.3; number = z.4; act = join_after q ts l hf fq fa h z.3 z.4 }

    -- a join has one fork
    pub one_fork : {R F J : Run} {f : Event} {a : Answer} (q : Path) (ts : Branches) → Faithful P R → Upto (f ∷ F) R → f.path ≡ q → f.act ≡ Fork ts
        → Upto J R → count J q ≡ suc (count F q + length ts.tasks) → (r : Joins J q a) → (r.fork ≡ f) × (r.before ≡ F)
    one_fork {R} {F} {J} {f} q ts l hf fq fa hj n r = go (cases_order (count r.before q) (count F q))
      where
        rs : Upto (r.fork ∷ r.before) R
        rs = upto_trans r.stands hj

        size : count J q ≡ suc (count r.before q + length r.tasks.tasks)
        size = let a = ap length r.last in let b = length-append r.since (r.fork ∷ mine r.before q) in let c = r.all_begun in omega arith

        no_fork : (e : Event) (k : ℕ) (us : Branches) → e.act ≡ Begin k → e.act ≡ Fork us → ⊥
        no_fork e k us p s = let z : Begin k ≡ Fork us = sym p ∙ s in absurd (cc)

        go : (count r.before q ≡ count F q) ⊎ ((count r.before q < count F q) ⊎ (count F q < count r.before q)) → (r.fork ≡ f) × (r.before ≡ F)
        go (inl e) = same_of q rs hf r.path fq e
        go (inr (inl lt)) = let sz = size in absurd (no_fork f (count F q - suc (count r.before q)) ts
            (begin_after q r.tasks (count F q - suc (count r.before q)) l rs r.path r.act hf fq (omega arith) (omega arith)) fa)
        go (inr (inr gt)) = let sz = size in absurd (no_fork r.fork (count r.before q - suc (count F q)) r.tasks
            (begin_after q ts (count r.before q - suc (count F q)) l hf fq fa rs r.path (omega arith) (omega arith)) r.act)

    -- a join stands after the end of each branch
    pub branch_ended : {R F : Run} {f : Event} (q : Path) (ts : Branches) (u : ℕ × ℕ) (t : Task) → Faithful P R → Upto (f ∷ F) R → f.path ≡ q
        → f.act ≡ Fork ts → u.0 ≡ count F q → slice_get ts.tasks u.1 ≡ Some t → (j : JoinAt R q (count F q) (length ts.tasks)) → (x : Ending)
        × Ended j.before (u ∷ q) x
    branch_ended {R} {F} {f} q ts u t l hf fq fa un g j =
        let a = follows_at j.stands l in
        let r1 : Joins j.before j.event.path j.event.ans = subst (λ c. Right P j.before j.event.path c j.event.ans) j.act a.right in
        let r : Joins j.before q j.event.ans = subst (λ p. Joins j.before p j.event.ans) j.path r1 in
        let o = one_fork q ts l hf fq fa (upto_tail j.stands) j.number r in
        let ft : Fork r.tasks ≡ Fork ts = sym r.act ∙ ap (λ e. e.act) o.0 ∙ fa in
        let tasks_are : ts ≡ r.tasks = cc in
        let x = both_there ts.tasks r.ends u.1 t (ap (λ b. length b.tasks) tasks_are ∙ sym r.each) g in
        (x.0, r.ended u x.0 (un ∙ ap (λ B. count B q) (sym o.1)) x.1)
