-- The branches of the elision, one after the other.
use Rattle.std.proofs.Common.{◌≡◌, ℕ, zero, suc, ◌+◌, ◌≤◌, Bool, true, false, List, [], ◌∷◌, ◌++◌, length, reverse, refl, sym, ap, ◌∙◌}
use Rattle.std.proofs.Common.{subst, arith, Option, Some, None, slice_get, append_assoc, length-append}
use Rattle.std.specs.Prelude.{if◌then◌else◌, ℤ}
use Rattle.lang_base.specs.declared.place.Place.{Place}
use Rattle.lang_base.specs.declared.value.Trap.{Trap}
use Rattle.lang_typed.specs.Plain.{PlainProgram}
use Rattle.lang_meaning.specs.Actions.{Task as TaskOver, Ending as EndingOver, Work}
use Rattle.lang_meaning.specs.Asking.{begins_then, reported_join, reported, ended, replied, does}
use Rattle.lang_meaning.specs.Core.{Goes_on, Returns, Done, Stopped, Lost, bind, run}
use Rattle.lang_meaning.specs.Core.{Out as out}
use Rattle.lang_meaning.specs.Counts.{Brought, Back, Trap_of_branch, assigned}
use Rattle.lang_meaning.specs.Expressions.{none}
use Rattle.lang_meaning.specs.Elision.{LocalRegion as Counted, Store, one_step, first_of, at_end, one_by_one}
use Rattle.runs_theory.specs.Actions.{Begin, Branches, End, Ending, Fork, Next, Program, Task, Trapped, Returned, Assigned, Went}
use Rattle.runs_theory.specs.Blocks.{Legal}
use Rattle.runs_theory.specs.Objects.{Name, Path}
use Rattle.runs_theory.specs.Order.{InOrder, printed_by, trap_in}
use Rattle.runs_theory.specs.Runs.{Begun, Ended, Event, Run, Upto, answers, branch, count, later, mine, now, trap_of}
use Rattle.runs_theory.specs.Schedules.{Greedy}
use Rattle.runs_theory.proofs.runs.Faithful.{begun_upto, ended_upto}
use Rattle.runs_theory.proofs.events.Mine.{mine_same, mine_other}
use Rattle.runs_theory.proofs.events.Upto.{upto_trans}
use Rattle.runs_theory.proofs.runs.Written.{legal_faithful}
use Rattle.runs_program.specs.Steps.{named_by, stepped}
use Rattle.runs_elision.proofs.Worlds.{Names, Later, later_none, later_then, TaskLike, task_later, TasksLike, no_tasks, more_tasks}
use Rattle.runs_elision.proofs.Worlds.{EndingLike, trapped_like, ending_later, EndingsLike, no_endings}
use Rattle.runs_elision.proofs.Worlds.{more_endings, ResultLike}
use Rattle.runs_elision.proofs.Counts.{ended_alike}
use Rattle.runs_elision.proofs.Memory.{Holds}
use Rattle.runs_elision.proofs.Doing.{structure_step}
use Rattle.lang_meaning.proofs.Ticks.{most_pos, bind_done}
use Rattle.runs_theory.proofs.order.Working.{Working, greatest_now, not_begun, goes_up, goes_into, in_order_after}
use Rattle.runs_elision.proofs.Simulation.{ReportedOf, ResultOf, ResultIn, OutOf, OutIn, reported_on, Ghost, D}
use Rattle.runs_elision.proofs.Simulation.{Ready, RanOut, After, Post, Sim, allowed_next, resid_next}

-- the first trap, after a task that ended so, after some of them, and after their join
abbrev pub fallen : EndingOver ℕ → Option (Trap × Place) → Option (Trap × Place)
fallen (Trapped trap p) f = first_of f (trap, p)
fallen (Returned v) f = f
fallen (Assigned ls) f = f

abbrev pub all_fallen : List (EndingOver ℕ) → Option (Trap × Place) → Option (Trap × Place)
all_fallen [] f = f
all_fallen (x ∷ xs) f = all_fallen xs (fallen x f)

abbrev pub brought_down : Brought ℕ → Option (Trap × Place) → Option (Trap × Place)
brought_down (Back ls) f = f
brought_down (Trap_of_branch trap p) f = first_of f (trap, p)

pub stays_fallen : (xs : List (EndingOver ℕ)) (e : Trap × Place) → all_fallen xs (Some e) ≡ Some e
stays_fallen [] e = refl
stays_fallen (Trapped trap p ∷ xs) e = stays_fallen xs e
stays_fallen (Returned v ∷ xs) e = stays_fallen xs e
stays_fallen (Assigned ls ∷ xs) e = stays_fallen xs e

abbrev pub down_or : Option (Trap × Place) → Option (Trap × Place) → Option (Trap × Place)
down_or None f = f
down_or (Some e) f = first_of f e

abbrev pub begun_at : Path → Run → Names → Ghost
begun_at q R ns = record { path = q; log = R; since = 0; made = 0; names = ns }

abbrev pub forked_at : Path → ℕ → Run → Names → Ghost
forked_at p made R ns = record { path = p; log = R; since = 0; made = made; names = ns }

module _ (P : PlainProgram) (arg : ℤ) where
  abbrev Q : Program
  Q = stepped P arg

  -- one branch: what a task of the elision does is simulated in each run in which its like begins
  abbrev pub BranchSim : TaskOver ℕ Counted → (Store → OutIn ResultIn) → Type 0
  BranchSim t m = (ns : Names) (s : Task) (q : Path) (h : TaskLike ns t s) (b : ℕ)
      → Sim P arg (ResultLike h.left) b ns (λ u. run (reported (named_by q)) (does (named_by q) P s) u) m

  -- it has run to its end
  pub record One (q : Path) (R : Run) (ns : Names) (w v : Store) (x : EndingOver ℕ) : Type 0 where
    pub before : Run
    pub event : Event
    pub names : Names
    pub ending : Ending
    pub like : EndingLike names x ending
    pub legal : Legal Q (event ∷ before)
    pub order : InOrder (event ∷ before)
    pub greedy : Greedy Q (event ∷ before)
    pub working : Working Q before q
    pub path : event.path ≡ q
    pub act : event.act ≡ End ending
    pub grown : Upto R before
    pub kept : (r : Path) → (r ≡ q → ⊥) → length r ≤ length q → mine (event ∷ before) r ≡ mine R r
    pub later : Later ns names
    pub holds : Holds Q (event ∷ before) names 0 v
    pub ticks : v.ticks ≤ w.ticks
    pub spent : w.steps + w.ticks ≤ v.steps + v.ticks
    pub trap : v.trap ≡ fallen x w.trap

  abbrev pub PostOne : Path → Run → Names → Store → OutIn (EndingOver ℕ) → Type 0
  PostOne q R ns w (Done x v) = One q R ns w v x
  PostOne q R ns w (out.Trapped trap p v) = ⊥
  PostOne q R ns w (Stopped n a) = ⊥
  PostOne q R ns w (Lost v) = RanOut P arg R w v

  end_one : (q : Path) (R : Run) (ns : Names) (w v v' : Store) (s : Task) (h : Ghost) (m : ReportedOf → OutOf ResultOf) (x : EndingOver ℕ) (y : Ending)
      → After P arg (begun_at q R ns) h w v → Ready P arg h v s m → replied s.work (m (reported_on h.since h.made [])) ≡ Next h.since (End y)
      → EndingLike h.names x y
      → v'.heap ≡ v.heap → v'.output ≡ v.output → v'.trap ≡ trap_in (End y) v.trap → v'.cells ≡ v.cells → v'.steps ≡ v.steps → v'.ticks ≡ v.ticks
      → v'.trap ≡ fallen x w.trap → One q R ns w v' x
  end_one q R ns w v v' s h m x y a r e like h1 h2 h3 h4 h5 h6 h7 = record {
    before = h.log;
    event = ev;
    names = h.names;
    ending = y;
    like = like;
    legal = (allowed_next P arg h.since (End y) Went r e refl, r.legal);
    order = in_order_after Q (D P arg) (allowed_next P arg h.since (End y) Went r e refl, r.legal) r.working refl r.order;
    greedy = (greatest_now Q (D P arg) r.legal r.working ev refl, r.greedy);
    working = subst (λ p. Working Q h.log p) a.path r.working;
    path = a.path;
    act = refl;
    grown = a.grown;
    kept = λ p n l. mine_other ev h.log p (λ k. n (sym k ∙ a.path)) ∙ a.kept p n l;
    later = a.names;
    holds = structure_step Q r.holds h.path ev refl (λ c. refl) (λ f. end_prints f) refl v' h1 h2 h3 h4 (omega (arith, h5));
    ticks = (let z = a.ticks in omega arith);
    spent = (let z = a.spent in omega arith);
    trap = h7;
  }
    where
      ev : Event
      ev = record { path = h.path; ticks = h.since; act = End y; ans = Went }

      end_prints : (f : Option (Trap × Place)) → printed_by (End y) f ≡ []
      end_prints f = refl

  -- the trap of an end is that of its task
  goes_on_end : (s : Task) (y : ResultOf) (f : Option (Trap × Place)) → trap_in (End (ended s.work y)) f ≡ f
  goes_on_end s (Returns v) None = refl
  goes_on_end s (Returns v) (Some f) = refl
  goes_on_end s (Goes_on v g) (Some f) = refl
  goes_on_end s (Goes_on v g) None = at s.work.is_root
    where
      at : (b : Bool) → trap_of (if b then Returned none else Assigned (assigned s.work.copies g.values)) None ≡ None
      at true = refl
      at false = refl

  end_falls : (k : Work) (r : ResultIn) (f : Option (Trap × Place)) → fallen (ended k r) f ≡ f
  end_falls k (Returns v) f = refl
  end_falls k (Goes_on v g) f = at k.is_root
    where
      at : (b : Bool) → fallen (if b then Returned none else Assigned (assigned k.copies g.values)) f ≡ f
      at true = refl
      at false = refl

  trap_end : (trap : Trap) (p : Place) (f : Option (Trap × Place)) → first_of f (trap, p) ≡ trap_in (End (Trapped trap p)) f
  trap_end trap p None = refl
  trap_end trap p (Some f) = refl

  pub one_branch : (q : Path) (R : Run) (ns : Names) (w : Store) (t : TaskOver ℕ Counted) (s : Task) (m : Store → OutIn ResultIn) → TaskLike ns t s
      → BranchSim t m
      → Legal Q R → InOrder R → Greedy Q R → Working Q R q → Begun Q R q s → mine R q ≡ [] → Holds Q R ns 0 w → PostOne q R ns w (at_end t.work (m w))
  one_branch q R ns w t s m tl sim legal order greedy working begun none_yet holds =
      go (m w) ((sim ns s q tl (suc w.ticks)).from (begun_at q R ns) w s (λ v u. Done v u) (later_none holds.distinct) (omega arith) start)
    where
      start : Ready P arg (begun_at q R ns) w s (λ u. bind (run (reported (named_by q)) (does (named_by q) P s) u) (λ v u. Done v u))
      start = record {
        legal = legal;
        order = order;
        greedy = greedy;
        working = working;
        begun = begun;
        low = most_pos;
        resid = λ xs. ap (λ es. replied s.work (run (reported (named_by q)) (does (named_by q) P s) (reported_on 0 0 (reverse (answers es) ++ xs)))) none_yet
            ∙ ap (replied s.work) (sym (bind_done (run (reported (named_by q)) (does (named_by q) P s) (reported_on 0 0 xs))));
        holds = holds;
      }

      go : (o : OutIn ResultIn) → Post P arg (ResultLike tl.left) (begun_at q R ns) w s (λ v u. Done v u) o → PostOne q R ns w (at_end t.work o)
      go (Done r v) p =
          end_one q R ns w v v s p.0 (λ u. Done p.1 u) (ended t.work r) (ended s.work p.1) p.3 p.4 refl (ended_alike tl.work p.2)
          refl refl (sym (goes_on_end s p.1 v.trap)) refl refl refl (p.5 ∙ sym (end_falls t.work r w.trap))
      go (out.Trapped trap x v) p =
          end_one q R ns w v (record v { trap = first_of v.trap (trap, x) }) s p.0 (λ u. out.Trapped trap x u) (Trapped trap x) (Trapped trap x) p.1 p.2 refl
          (trapped_like trap x)
          refl refl (trap_end trap x v.trap) refl refl refl p.3
      go (Stopped n a) p = p
      go (Lost v) p = p

  -- after some branches of one fork: each has ended, and the task above has made its begins alone
  pub record Branched (t : Task) (K : Brought Name → ReportedOf
      → OutOf ResultOf) (p : Path) (i b made : ℕ) (R : Run) (ns : Names) (w v : Store) (n : ℕ) (xs : List (EndingOver ℕ)) :
      Type 0 where
    pub log : Run
    pub names : Names
    pub ends : List Ending
    pub like : EndingsLike names xs ends
    pub ready : Ready P arg (forked_at p made log names) v t (λ u. bind (reported_join u) K)
    pub grown : Upto R log
    pub kept : (q : Path) → (q ≡ p → ⊥) → length q ≤ length p → mine log q ≡ mine R q
    pub begins : Run
    pub since : mine log p ≡ begins ++ mine R p
    pub number : length begins ≡ n
    pub each : length ends ≡ n
    pub ended : (k : ℕ) (x : Ending) → slice_get ends k ≡ Some x → Ended log ((i, b + k) ∷ p) x
    pub later : Later ns names
    pub ticks : v.ticks ≤ w.ticks
    pub spent : w.steps + w.ticks ≤ v.steps + v.ticks
    pub trap : v.trap ≡ all_fallen xs w.trap

  abbrev pub PostBranches : Task → (Brought Name → ReportedOf → OutOf ResultOf) → Path → ℕ → ℕ → ℕ → Run → Names → Store → ℕ → OutIn (List (EndingOver ℕ)) → Type 0
  PostBranches t K p i b made R ns w n (Done xs v) = Branched t K p i b made R ns w v n xs
  PostBranches t K p i b made R ns w n (out.Trapped trap q v) = ⊥
  PostBranches t K p i b made R ns w n (Stopped k a) = ⊥
  PostBranches t K p i b made R ns w n (Lost v) = RanOut P arg R w v

  -- each branch is simulated
  abbrev pub AllSim : List (TaskOver ℕ Counted) → List (Store → OutIn ResultIn) → Type 0
  AllSim [] [] = Unit {0}
  AllSim [] (m ∷ ms) = ⊥
  AllSim (t ∷ ts) [] = ⊥
  AllSim (t ∷ ts) (m ∷ ms) = BranchSim t m × AllSim ts ms

  begin_prints : (b : ℕ) (f : Option (Trap × Place)) → printed_by (Begin b) f ≡ []
  begin_prints b f = refl

  -- the branches of one fork, from the one numbered b on
  module _ (t : Task) (K : Brought Name → ReportedOf
      → OutOf ResultOf) (p : Path) (i made : ℕ) (all : Branches) (F : Run) (f : Event) (fp : f.path ≡ p) (fa : f.act ≡ Fork all)
      (fn : count F p ≡ i) where
    -- the begin of one
    module _ (b n : ℕ) (R : Run) (ns : Names) (w : Store) (r : Ready P arg (forked_at p made R ns) w t (λ u. bind (begins_then b (suc n) reported_join u) K))
        (st : Upto (f ∷ F) R)
        (s : Task) (there : slice_get all.tasks b ≡ Some s) (num : count R p ≡ suc (i + b)) where
      abbrev begin : Event
      begin = record { path = p; ticks = 0; act = Begin b; ans = Went }

      abbrev child : Path
      child = (i, b) ∷ p

      begin_legal : Legal Q (begin ∷ R)
      begin_legal = (allowed_next P arg 0 (Begin b) Went r refl refl, r.legal)

      begin_working : Working Q (begin ∷ R) child
      begin_working = goes_into Q (D P arg) begin_legal r.working refl b refl F f all s st fp fa there i fn num

      begin_begun : Begun Q (begin ∷ R) child s
      begin_begun = branch p (i, b) F f all R begin refl (later st) fp fn fa there now refl refl num

      begin_order : InOrder (begin ∷ R)
      begin_order = in_order_after Q (D P arg) begin_legal r.working refl r.order

      begin_greedy : Greedy Q (begin ∷ R)
      begin_greedy = (greatest_now Q (D P arg) r.legal r.working begin refl, r.greedy)

      longer : (k : ℕ) → p ≡ (i, k) ∷ p → ⊥
      longer k e = let n = ap length e in absurd (omega arith)

      begin_none : mine (begin ∷ R) child ≡ []
      begin_none = mine_other begin R child (longer b) ∙ not_begun Q (D P arg) R p i b (legal_faithful Q R r.legal) num

      begin_holds : Holds Q (begin ∷ R) ns 0 (one_step w)
      begin_holds = structure_step Q r.holds p begin refl (λ c. refl) (begin_prints b) refl (one_step w) refl refl refl refl (omega arith)

      -- and what the task above does after its end
      next_ready : {v : Store} {x : EndingOver ℕ} (o : One child (begin ∷ R) ns (one_step w) v x)
          → Ready P arg (forked_at p made (o.event ∷ o.before) o.names) v t (λ u. bind (begins_then (suc b) n reported_join u) K)
      next_ready o = record {
        legal = o.legal;
        order = o.order;
        greedy = o.greedy;
        working = goes_up Q (D P arg) o.legal o.working o.path o.ending o.act p (i, b) refl t (begun_upto (upto_trans (later now) o.grown) r.begun);
        begun = begun_upto (upto_trans (later now) (upto_trans o.grown (later now))) r.begun;
        low = most_pos;
        resid = λ ys. ap (λ es. replied t.work (run (reported (named_by p)) (does (named_by p) P t) (reported_on 0 0 (reverse (answers es) ++ ys)))) (o.kept p
            (longer b) (omega arith))
            ∙ resid_next P arg p t R (λ u. bind (begins_then b (suc n) reported_join u) K) (λ u. bind (begins_then (suc b) n reported_join u) K) 0 made made 0
            (Begin b) Went r.resid (λ xs. refl) ys;
        holds = o.holds;
      }

      mine_now : {v : Store} {x : EndingOver ℕ} (o : One child (begin ∷ R) ns (one_step w) v x) → mine (o.event ∷ o.before) p ≡ begin ∷ mine R p
      mine_now o = o.kept p (longer b) (omega arith) ∙ mine_same begin R p refl

      one_more : {v u : Store} {x : EndingOver ℕ} {xs : List (EndingOver ℕ)} (o : One child (begin ∷ R) ns (one_step w) v x)
          → Branched t K p i (suc b) made (o.event ∷ o.before) o.names v u n xs → Branched t K p i b made R ns w u (suc n) (x ∷ xs)
      one_more {v} {u} {x} {xs} o h = record {
        log = h.log;
        names = h.names;
        ends = o.ending ∷ h.ends;
        like = more_endings (ending_later h.later o.like) h.like;
        ready = h.ready;
        grown = upto_trans (later now) (upto_trans o.grown (upto_trans (later now) h.grown));
        kept = λ q ne l. h.kept q ne l ∙ o.kept q (λ e. (let k = ap length e in absurd (omega arith))) (omega arith) ∙ mine_other begin R q (λ e. ne (sym e));
        begins = h.begins ++ begin ∷ [];
        since = h.since ∙ ap (λ l. h.begins ++ l) (mine_now o) ∙ sym (append_assoc h.begins (begin ∷ []) (mine R p));
        number = omega (arith, length-append h.begins (begin ∷ []), h.number);
        each = ap (λ k. suc k) h.each;
        ended = all_ended;
        later = later_then o.later h.later;
        ticks = (let a = o.ticks in let c = h.ticks in omega arith);
        spent = (let a = o.spent in let c = h.spent in omega arith);
        trap = h.trap ∙ ap (λ f. all_fallen xs f) o.trap;
      }
        where
          here : Ended h.log ((i, b) ∷ p) o.ending
          here = ended_upto h.grown (record { before = o.before; event = o.event; stands = now; path = o.path; act = o.act })

          all_ended : (k : ℕ) (y : Ending) → slice_get (o.ending ∷ h.ends) k ≡ Some y → Ended h.log ((i, b + k) ∷ p) y
          all_ended zero y e =
              let m : b ≡ b + 0 = omega arith in
              let xy : o.ending ≡ y = cc in
              subst (λ k. Ended h.log ((i, k) ∷ p) y) m (subst (λ z. Ended h.log ((i, b) ∷ p) z) xy here)
          all_ended (suc k) y e = let m : suc b + k ≡ b + suc k = omega arith in subst (λ z. Ended h.log ((i, z) ∷ p) y) m (h.ended k y e)

      out_more : {u : Store} → RanOut P arg (begin ∷ R) (one_step w) u → RanOut P arg R w u
      out_more o = record {
        log = o.log;
        names = o.names;
        since = o.since;
        legal = o.legal;
        order = o.order;
        greedy = o.greedy;
        low = o.low;
        empty = o.empty;
        grown = upto_trans (later now) o.grown;
        holds = o.holds;
        spent = (let x = o.spent in omega arith);
      }

      out_later : {v u : Store} {x : EndingOver ℕ} (o : One child (begin ∷ R) ns (one_step w) v x) → RanOut P arg (o.event ∷ o.before) v u → RanOut P arg R w u
      out_later o h = record {
        log = h.log;
        names = h.names;
        since = h.since;
        legal = h.legal;
        order = h.order;
        greedy = h.greedy;
        low = h.low;
        empty = h.empty;
        grown = upto_trans (later now) (upto_trans o.grown (upto_trans (later now) h.grown));
        holds = h.holds;
        spent = (let a = o.spent in let c = h.spent in omega arith);
      }

    -- the branch of this number has been begun and has ended
    abbrev First : ℕ → Run → Names → Store → Store → EndingOver ℕ → Type 0
    First b R ns w v x = One ((i, b) ∷ p) (record { path = p; ticks = 0; act = Begin b; ans = Went } ∷ R) ns (one_step w) v x

    pub sim_branches : {ks : Names} {ts : List (TaskOver ℕ Counted)} {ss : List Task} → TasksLike ks ts ss → (ms : List (Store → OutIn ResultIn))
        → AllSim ts ms → (b : ℕ) (R : Run)
        (ns : Names) (w : Store) → Later ks ns → Ready P arg (forked_at p made R ns) w t (λ u. bind (begins_then b (length ss) reported_join u) K) → Upto (f ∷ F) R
        → ((k : ℕ) (s : Task) → slice_get ss k ≡ Some s → slice_get all.tasks (b + k) ≡ Some s) → count R p ≡ suc (i + b)
        → PostBranches t K p i b made R ns w (length ss) (one_by_one ts ms w)
    sim_branches no_tasks [] sims b R ns w l r st at num = record {
      log = R;
      names = ns;
      ends = [];
      like = no_endings;
      ready = r;
      grown = now;
      kept = λ q n l. refl;
      begins = [];
      since = refl;
      number = refl;
      each = refl;
      ended = λ k x e. absurd (let z : None ≡ Some x = e in cc);
      later = later_none r.holds.distinct;
      ticks = omega arith;
      spent = omega arith;
      trap = refl;
    }
    sim_branches no_tasks (m ∷ ms) sims b R ns w l r st at num = absurd sims
    sim_branches (more_tasks h hs) [] sims b R ns w l r st at num = absurd sims
    sim_branches (more_tasks {t = t'} {s = s} {ts = ts} {ss = ss} h hs) (m ∷ ms) sims b R ns w l r st at num =
        go (at_end t'.work (m (one_step w)))
        (one_branch ((i, b) ∷ p) (record { path = p; ticks = 0; act = Begin b; ans = Went } ∷ R) ns (one_step w) t' s m (task_later l h) sims.0
        (begin_legal b (length ss) R ns w r st s there num) (begin_order b (length ss) R ns w r st s there num) (begin_greedy b
        (length ss) R ns w r st s there num) (begin_working b (length ss) R ns w r st s there num)
        (begin_begun b (length ss) R ns w r st s there num) (begin_none b (length ss) R ns w r st s there num) (begin_holds b
        (length ss) R ns w r st s there num))
        (λ v x o. sim_branches hs ms sims.1 (suc b) (o.event ∷ o.before) o.names v (later_then l o.later) (next_ready b (length ss) R ns w r st s there num o)
        (upto_trans (later st) (upto_trans o.grown (later now))) next_at (next_num v x o))
      where
        there : slice_get all.tasks b ≡ Some s
        there = let e : b + 0 ≡ b = omega arith in subst (λ n. slice_get all.tasks n ≡ Some s) e (at 0 s refl)

        next_at : (k : ℕ) (y : Task) → slice_get ss k ≡ Some y → slice_get all.tasks (suc b + k) ≡ Some y
        next_at k y e = let n : b + suc k ≡ suc b + k = omega arith in subst (λ n. slice_get all.tasks n ≡ Some y) n (at (suc k) y e)

        next_num : (v : Store) (x : EndingOver ℕ) (o : First b R ns w v x) → count (o.event ∷ o.before) p ≡ suc (i + suc b)
        next_num v x o = let e = ap length (mine_now b (length ss) R ns w r st s there num o) in omega arith

        rest : (v : Store) (x : EndingOver ℕ) (o : First b R ns w v x) (u : OutIn (List (EndingOver ℕ)))
            → PostBranches t K p i (suc b) made (o.event ∷ o.before) o.names v (length ss) u
            → PostBranches t K p i b made R ns w (suc (length ss)) (bind u (λ xs u. Done (x ∷ xs) u))
        rest v x o (Done xs u) g = one_more b (length ss) R ns w r st s there num o g
        rest v x o (out.Trapped trap q u) g = g
        rest v x o (Stopped k a) g = g
        rest v x o (Lost u) g = out_later b (length ss) R ns w r st s there num o g

        go : (o : OutIn (EndingOver ℕ)) → PostOne ((i, b) ∷ p) (record { path = p; ticks = 0; act = Begin b; ans = Went } ∷ R) ns (one_step w) o
            → ((v : Store) (x : EndingOver ℕ) (o : First b R ns w v x)
            → PostBranches t K p i (suc b) made (o.event ∷ o.before) o.names v (length ss) (one_by_one ts ms v))
            → PostBranches t K p i b made R ns w (suc (length ss)) (bind o (λ x v. bind (one_by_one ts ms v) (λ xs u. Done (x ∷ xs) u)))
        go (Done x v) g rec = rest v x g (one_by_one ts ms v) (rec v x g)
        go (out.Trapped trap q v) g rec = g
        go (Stopped k a) g rec = g
        go (Lost v) g rec = out_more b (length ss) R ns w r st s there num g
