-- The fork after which a task has made so many events.
use Rattle.std.proofs.Common.{◌≡◌, ℕ, suc, ◌+◌, List, [], ◌∷◌, ◌++◌, length, refl, sym, ap, ◌∙◌, subst, arith, length-append}
use Rattle.runs_theory.specs.Actions.{Answer, Asks, Branches, Fork, Next, Program, Task}
use Rattle.runs_theory.specs.Meaning.{AfterFork}
use Rattle.runs_theory.specs.Objects.{Path}
use Rattle.runs_theory.specs.Runs.{Begun, Event, Faithful, Run, Upto, answers, count, mine}
use Rattle.runs_theory.proofs.events.Upto.{upto_since, upto_tail}
use Rattle.runs_theory.proofs.events.Mine.{found}
use Rattle.runs_theory.proofs.runs.Faithful.{agree_self, next_same, same_task, begun_upto, follows_at}

-- a list of answers is split as its events are
record Parted (L : Run) (xs : List Answer) (a : Answer) (ys : List Answer) : Type 0 where
  since : Run
  event : Event
  before : Run
  is : L ≡ since ++ event ∷ before
  many : length since ≡ length xs
  rest : answers before ≡ ys

parted : (L : Run) (xs : List Answer) (a : Answer) (ys : List Answer) → answers L ≡ xs ++ a ∷ ys → Parted L xs a ys
parted [] [] a ys e = absurd (cc)
parted [] (x ∷ xs) a ys e = absurd (cc)
parted (e ∷ L) [] a ys h = let k : answers L ≡ ys = cc in record { since = []; event = e; before = L; is = refl; many = refl; rest = k }
parted (e ∷ L) (x ∷ xs) a ys h =
    let k : answers L ≡ xs ++ a ∷ ys = cc in
    let r = parted L xs a ys k in
    record { since = e ∷ r.since; event = r.event; before = r.before; is = ap (λ l. e ∷ l) r.is; many = ap (λ n. suc n) r.many; rest = r.rest }

module _ (P : Program) (R : Run) (l : Faithful P R) where
  -- what a task that has begun was to do when it made an event
  pub asked : (p : Path) (t : Task) → Begun P R p t → {w : Event} {W : Run} → Upto (w ∷ W) R → w.path ≡ p → Asks P p t (answers (mine W p)) w.act
  asked p t b {w} {W} h e =
      let a = follows_at P h l in
      let same : a.task ≡ t = same_task (agree_self R) (begun_upto (upto_tail h) (subst (λ q. Begun P W q a.task) e a.begun)) b in
      let k : P.meaning p a.task (answers (mine W p)) ≡ Next w.ticks w.act =
      subst (λ q. P.meaning q a.task (answers (mine W q)) ≡ Next w.ticks w.act) e a.asks in
      (w.ticks, subst (λ s. P.meaning p s (answers (mine W p)) ≡ Next w.ticks w.act) same k)

  -- the fork after which a task has made so many events
  pub record ForkSince (p : Path) (ts : Branches) (n : ℕ) : Type 0 where
    pub since : Run
    pub fork : Event
    pub before : Run
    pub stands : Upto (fork ∷ before) R
    pub path : fork.path ≡ p
    pub last : mine R p ≡ since ++ fork ∷ mine before p
    pub act : fork.act ≡ Fork ts
    pub many : length since ≡ n

  pub fork_since : (p : Path) (t : Task) (ts : Branches) (n : ℕ) → Begun P R p t → AfterFork P p t (answers (mine R p)) ts n → ForkSince p ts n
  fork_since p t ts n b j =
      let d = parted (mine R p) j.since j.answer j.earlier j.is in
      let f = found R p (subst (λ m. Upto (d.event ∷ d.before) m) (sym d.is) (upto_since d.since d.event d.before)) in
      let k1 = subst (λ got. Asks P p t got d.event.act) (ap (λ m. answers m) f.mine_is ∙ d.rest) (asked p t b f.stands f.path) in
      let k2 = j.forks in
      let same = next_same k1.0 k2.0 d.event.act (Fork ts) (sym k1.1 ∙ k2.1) in
      record {
        since = d.since;
        fork = d.event;
        before = f.before;
        stands = f.stands;
        path = f.path;
        last = d.is ∙ ap (λ m. d.since ++ d.event ∷ m) (sym f.mine_is);
        act = same.1;
        many = d.many ∙ j.number;
      }

  -- the number of a task's events after a fork
  pub count_since : (p : Path) (ts : Branches) (n : ℕ) (j : ForkSince p ts n) → count R p ≡ suc (count j.before p + n)
  count_since p ts n j = let a = ap length j.last in let b = length-append j.since (j.fork ∷ mine j.before p) in let c = j.many in omega arith
