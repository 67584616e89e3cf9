-- What each task of the elision does is done in a legal run.
use Rattle.std.proofs.Common.{◌≡◌, ℕ, suc, ◌+◌, ◌<◌, List, [], ◌∷◌, ◌++◌, length, refl, sym, ap, ◌∙◌}
use Rattle.std.proofs.Common.{subst, arith, Option, Some, None, slice_get, zero-add}
use Rattle.std.specs.Prelude.{ℤ}
use Rattle.lang_base.specs.declared.place.Place.{Place}
use Rattle.lang_base.specs.declared.value.Trap.{Trap}
use Rattle.lang_typed.specs.declared.stmt.Forking.{Forking}
use Rattle.lang_typed.specs.Plain.{PlainProgram}
use Rattle.lang_meaning.specs.Actions.{Task as TaskOver, Ending as EndingOver}
use Rattle.lang_meaning.specs.Asking.{begins_then, reported_join, reported_fork, reported, replied, does}
use Rattle.lang_meaning.specs.Core.{Prog, Ret, Traps, Act, Makes, Again, Split, Done, Stopped, Lost, bind, each_from, run}
use Rattle.lang_meaning.specs.Core.{Out as out}
use Rattle.lang_meaning.specs.Counts.{Brought, Back, Trap_of_branch, brought}
use Rattle.lang_meaning.specs.Elision.{LocalRegion as Counted, in_order, Store, one_step, first_of, one_by_one, sequential}
use Rattle.lang_meaning.specs.Outcomes.{joined as joined_in, joined_or, first_trap, all_locals}
use Rattle.runs_theory.specs.Actions.{Branches, Fork, Join, Program, Task, Trapped, Returned, Assigned, Went}
use Rattle.runs_theory.specs.Objects.{LocalRegion, Name, Path}
use Rattle.runs_theory.specs.Order.{printed_by}
use Rattle.runs_theory.specs.Runs.{Ended, Event, Joins, count, joined, now}
use Rattle.runs_theory.proofs.events.Mine.{mine_same}
use Rattle.runs_program.specs.Steps.{named_by, stepped}
use Rattle.runs_elision.proofs.Worlds.{Names, Distinct, Later, later_none, later_then, TasksLike}
use Rattle.runs_elision.proofs.Worlds.{BroughtLike}
use Rattle.runs_elision.proofs.Worlds.{ResultLike, result_later, Alike, alike_ret, alike_traps, alike_act, alike_makes}
use Rattle.runs_elision.proofs.Worlds.{alike_again, alike_split}
use Rattle.runs_elision.proofs.Counts.{joined_alike}
use Rattle.runs_elision.proofs.Meaning.{does_alike}
use Rattle.runs_elision.proofs.Doing.{structure_step}
use Rattle.lang_meaning.proofs.Ticks.{bind_done}
use Rattle.runs_elision.proofs.Simulation.{ReportedOf, ResultOf, ResultIn, OutOf, OutIn, reported_on, Ghost, noted, bind_assoc, fork_stays, join_stays}
use Rattle.runs_elision.proofs.Simulation.{Ready, After, after_then, Post, Sim, ready_same, ready_next, after_noted, out_after, post_after, sim_done, sim_trapped}
use Rattle.runs_elision.proofs.Simulation.{sim_later, sim_same, sim_bind, sim_act, sim_make}
use Rattle.runs_elision.proofs.Loops.{sim_again}
use Rattle.runs_elision.proofs.Branches.{all_fallen, brought_down, stays_fallen, down_or, forked_at, BranchSim, Branched, PostBranches, AllSim, sim_branches}

module _ (P : PlainProgram) (arg : ℤ) where
  abbrev Q : Program
  Q = stepped P arg

  module _ (path : Path) {c b : ℕ} {ns : Names} (forking : Forking) {ts : List (TaskOver ℕ Counted)} {ss : List Task} (tl : TasksLike ns ts ss)
      (ms : List (Store → OutIn ResultIn)) (sims : AllSim P arg ts ms) (k : Brought ℕ → Prog ℕ Counted) (j : Brought Name → Prog Name LocalRegion)
      (falls : (trap : Trap) (p : Place) → k (Trap_of_branch trap p) ≡ Traps trap p)
      (hk : (ls : Names) (x : Brought ℕ) (y : Brought Name) → Later ns ls → BroughtLike ls x y
      → Sim P arg (ResultLike c) b ls (λ u. run (reported (named_by path)) (j y) u) (λ w. run sequential (k x) w)) where
    abbrev all_forked : Branches
    all_forked = record { kind = forking; tasks = ss }

    abbrev then_reported : Brought Name → ReportedOf → OutOf ResultOf
    then_reported y u = run (reported (named_by path)) (j y) u

    -- after the join, where the branches brought this
    following : (g h : Ghost) (w v : Store) (t : Task) (K : ResultOf → ReportedOf → OutOf ResultOf) (x : Brought ℕ) (y : Brought Name) → Later ns h.names
        → BroughtLike h.names x y
        → v.ticks < b → After P arg g h w v → v.trap ≡ brought_down x w.trap → Ready P arg h v t (λ u. bind (then_reported y u) K)
        → Post P arg (ResultLike c) g w t K (run sequential (k x) v)
    following g h w v t K (Back ls) y l like lt a e r =
        post_after P arg (ResultLike c) t K (run sequential (k (Back ls)) v) a e ((hk h.names (Back ls) y l like).from h v t K
        (later_none r.holds.distinct) lt r)
    following g h w v t K (Trap_of_branch trap p) y l like lt a e r = done (subst (λ (q : Prog ℕ Counted). Post P arg (ResultLike c) h v t K
        (run sequential q v)) (falls trap p)
        ((hk h.names (Trap_of_branch trap p) y l like).from h v t K (later_none r.holds.distinct) lt r))
      where
        twice : (f : Option (Trap × Place)) → first_of (first_of f (trap, p)) (trap, p) ≡ first_of f (trap, p)
        twice None = refl
        twice (Some f) = refl

        done : Post P arg (ResultLike c) h v t K (out.Trapped trap p v) → Post P arg (ResultLike c) g w t K (run sequential (k (Trap_of_branch trap p)) v)
        done z = subst (λ (q : Prog ℕ Counted). Post P arg (ResultLike c) g w t K (run sequential q v)) (sym (falls trap p))
            (z.0, after_then P arg a z.1, z.2, z.3 ∙ ap (λ f. first_of f (trap, p)) e ∙ twice w.trap)

    -- the first trap in the order of the branches
    falls_joined : (xs : List (EndingOver ℕ)) (f : Option (Trap × Place)) → all_fallen xs f ≡ brought_down (brought {M = Counted} (joined_in xs)) f
    falls_joined xs f = all_down xs f ∙ sym (down_brought (first_trap xs))
      where
        all_down : (xs : List (EndingOver ℕ)) (f : Option (Trap × Place)) → all_fallen xs f ≡ down_or (first_trap xs) f
        all_down [] f = refl
        all_down (Returned v ∷ xs) f = all_down xs f
        all_down (Assigned ls ∷ xs) f = all_down xs f
        all_down (Trapped trap p ∷ xs) None = stays_fallen xs (trap, p)
        all_down (Trapped trap p ∷ xs) (Some e) = stays_fallen xs e

        down_brought : (o : Option (Trap × Place)) → brought_down (brought {M = Counted} (joined_or o (all_locals xs))) f ≡ down_or o f
        down_brought None = refl
        down_brought (Some e) = refl

    sim_split : Sim P arg (ResultLike c) b ns (λ u. bind (reported_fork forking ss u) then_reported)
        (λ w. bind (bind (one_by_one ts ms (one_step w)) (λ xs v. Done (brought {M = Counted} (joined_in xs)) (one_step v))) (λ x v. run sequential (k x) v))
    sim_split = record {
      from = λ g w t K l lt r. at g w t K l lt (ready_same P arg r (λ xs. ap (replied t.work) (bind_assoc (reported_fork forking ss
          (reported_on g.since g.made xs)) then_reported K)));
    }
      where
        at : (g : Ghost) (w : Store) (t : Task) (K : ResultOf → ReportedOf → OutOf ResultOf) → Later ns g.names → w.ticks < b
            → Ready P arg g w t (λ u. bind (reported_fork forking ss u) (λ y v. bind (then_reported y v) K))
            → Post P arg (ResultLike c) g w t K (bind (bind (one_by_one ts ms (one_step w)) (λ xs v. Done (brought {M = Counted} (joined_in xs)) (one_step v)))
            (λ x v. run sequential (k x) v))
        at g w t K l lt r =
            go (one_by_one ts ms (one_step w))
            (sim_branches P arg t next g.path (count g.log g.path) g.made all_forked g.log fork refl refl refl tl ms sims 0 (fork ∷ g.log) g.names
            (one_step w) l r1 now
            (λ k s e. subst (λ n. slice_get ss n ≡ Some s) (sym (zero-add k)) e) (let e = ap length (mine_same fork g.log g.path refl) in omega arith))
          where
            next : Brought Name → ReportedOf → OutOf ResultOf
            next y v = bind (then_reported y v) K

            fork : Event
            fork = record { path = g.path; ticks = g.since; act = Fork (record { kind = forking; tasks = ss }); ans = Went }

            fork_prints : (f : Option (Trap × Place)) → printed_by (Fork all_forked) f ≡ []
            fork_prints f = refl

            r1 : Ready P arg (forked_at g.path g.made (record { path = g.path; ticks = g.since; act = Fork all_forked; ans = Went } ∷ g.log) g.names)
                (one_step w) t
                (λ u. bind (begins_then 0 (length ss) reported_join u) (λ y v. bind (then_reported y v) K))
            r1 = ready_next P arg (λ u. bind (begins_then 0 (length ss) reported_join u) (λ y v. bind (then_reported y v) K)) g.since (Fork all_forked) Went g.made
                (one_step w) g.names (fork_stays _) r refl refl
                (structure_step Q r.holds g.path fork refl (λ c. refl) fork_prints refl (one_step w) refl refl refl refl (omega arith)) (λ xs. refl)

            join_prints : (f : Option (Trap × Place)) → printed_by Join f ≡ []
            join_prints f = refl

            a1 : After P arg g (forked_at g.path g.made (record { path = g.path; ticks = g.since; act = Fork all_forked; ans = Went } ∷ g.log) g.names) w
                (one_step w)
            a1 = after_noted P arg g w (one_step w) g.made g.since (Fork all_forked) Went g.names (later_none r.holds.distinct) (omega arith) (omega arith)

            joins : {v : Store} {xs : List (EndingOver ℕ)}
                (h : Branched P arg t (λ y v. bind (then_reported y v) K) g.path (count g.log g.path) 0 g.made (fork ∷ g.log) g.names (one_step w) v (length ss) xs)
                → Joins h.log g.path (joined h.ends)
            joins h = record {
              before = g.log;
              fork = fork;
              stands = h.grown;
              path = refl;
              since = h.begins;
              last = h.since ∙ ap (λ l. h.begins ++ l) (mine_same fork g.log g.path refl);
              tasks = all_forked;
              act = refl;
              all_begun = h.number;
              ends = h.ends;
              each = h.each;
              ended = λ u x e k. (let n : 0 + u.1 ≡ u.1 = omega arith in subst (λ m. Ended h.log ((m, u.1) ∷ g.path) x) (sym e)
                  (subst (λ m. Ended h.log ((count g.log g.path, m) ∷ g.path) x) n (h.ended u.1 x k)));
              answer = refl;
            }

            go : (o : OutIn (List (EndingOver ℕ)))
                → PostBranches P arg t (λ y v. bind (then_reported y v) K) g.path (count g.log g.path) 0 g.made (fork ∷ g.log) g.names (one_step w) (length ss) o
                → Post P arg (ResultLike c) g w t K (bind (bind o (λ xs v. Done (brought {M = Counted} (joined_in xs)) (one_step v))) (λ x v. run sequential
                (k x) v))
            go (out.Trapped trap q v) h = absurd h
            go (Stopped n a) h = h
            go (Lost v) h = out_after P arg a1 h
            go (Done xs v) h =
                following g (noted (forked_at g.path g.made h.log h.names) g.made 0 Join (joined h.ends) h.names) w (one_step v) t K
                (brought {M = Counted} (joined_in xs)) (brought {M = LocalRegion} (joined h.ends)) (later_then l h.later) (joined_alike h.like)
                (let z = h.ticks in omega arith)
                (after_then P arg a1 (after_then P arg a2 a3)) (h.trap ∙ falls_joined xs w.trap)
                (ready_next P arg (λ v. bind (then_reported (brought {M = LocalRegion} (joined h.ends)) v) K) 0 Join (joined h.ends) g.made
                (one_step v) h.names join_stays h.ready refl (joins h)
                (structure_step Q h.ready.holds g.path (record { path = g.path; ticks = 0; act = Join; ans = joined h.ends }) refl
                (λ c. refl) join_prints refl (one_step v) refl refl refl refl (omega arith))
                (λ ys. refl))
              where
                a2 : After P arg (forked_at g.path g.made (fork ∷ g.log) g.names) (forked_at g.path g.made h.log h.names) (one_step w) v
                a2 = record { path = refl; grown = h.grown; kept = h.kept; names = h.later; ticks = h.ticks; spent = h.spent }

                a3 : After P arg (forked_at g.path g.made h.log h.names) (noted (forked_at g.path g.made h.log h.names) g.made 0 Join
                    (joined h.ends) h.names) v (one_step v)
                a3 = after_noted P arg (forked_at g.path g.made h.log h.names) v (one_step v) g.made 0 Join (joined h.ends) h.names
                    (later_none h.ready.holds.distinct) (omega arith) (omega arith)

  -- what a task of the elision does, and what its like does in a run
  abbrev AllAlike : Prog ℕ Counted → Type 0
  AllAlike p = (c : ℕ) (ns : Names) (q : Prog Name LocalRegion) (path : Path) → Distinct ns → Alike P c ns p q → (b : ℕ)
      → Sim P arg (ResultLike c) b ns (λ u. run (reported (named_by path)) q u) (λ w. run sequential p w)

  all_sim : (bs : ℕ → Prog ℕ Counted) → ((i : ℕ) → AllAlike (bs i)) → (ts : List (TaskOver ℕ Counted)) (j : ℕ)
      → ((k : ℕ) (t : TaskOver ℕ Counted) → slice_get ts k ≡ Some t → bs (j + k) ≡ does in_order P t)
      → AllSim P arg ts (each_from (λ i v. run sequential (bs i) v) j ts)
  all_sim bs h [] j e = tt
  all_sim bs h (t ∷ ts) j e = (here, all_sim bs h ts (suc j) (λ k t q. (let n : suc j + k ≡ j + suc k = omega arith in ap bs n ∙ e (suc k) t q)))
    where
      here : BranchSim P arg t (λ v. run sequential (bs j) v)
      here ns s q tl b =
          let n : j ≡ j + 0 = omega arith in
          let same : bs j ≡ does in_order P t = ap bs n ∙ e 0 t refl in
          h j tl.left ns (does (named_by q) P s) q tl.frame.distinct
          (subst (λ (x : Prog ℕ Counted). Alike P tl.left ns x (does (named_by q) P s)) (sym same) (does_alike q P tl)) b

  pub prog_sim : (p : Prog ℕ Counted) → AllAlike p
  prog_sim (Ret r) c ns _ path d (alike_ret {s = s} h) b = sim_done P arg r s (λ ms l. result_later l h)
  prog_sim (Traps trap x) c ns _ path d (alike_traps trap' x') b = sim_trapped P arg trap x
  prog_sim (Act o k) c ns _ path d (alike_act {j = j} like h) b = sim_bind P arg (sim_act P arg like) (λ ms x y l a. prog_sim (k x) c ms (j y) path l.distinct
      (h ms x y l a) b)
  prog_sim (Makes k) c ns _ path d (alike_makes {j = j} h) b =
      sim_bind P arg (sim_make P arg path) (λ ms m l l' a. sim_later P arg l' (prog_sim (k m) c ns (j l) path d (h m l) b))
  prog_sim (Again t a f k) c ns _ path d (alike_again e {s = s} {a = z} {g = g} {j = j} ht hb hf h) b =
      sim_same P arg (λ u lw. ap (λ o. bind o (λ r v. run (reported (named_by path)) (j r) v)) (sym (bind_done _)))
      (sim_bind P arg (sim_again P arg path e t a s z ns
      (λ c' ms x y l m. prog_sim (t x) e ms (s y) path l.distinct (ht ms x y l m) c')
      (λ c' ms x y l m. prog_sim (a x) e ms (z y) path l.distinct (hb ms x y l m) c') b f g d hf)
      (λ ms x y l m. prog_sim (k x) c ms (j y) path l.distinct (h ms x y l m) b))
  prog_sim (Split forking ts bs k) c ns _ path d (alike_split forking' {j = j} tl coh falls h) b =
      sim_split path forking tl _ (all_sim bs (λ i. prog_sim (bs i)) ts 0 (λ i t e. (let n : 0 + i ≡ i = omega arith in ap bs n ∙ coh i t e))) k j falls
      (λ ms x y l m. prog_sim (k x) c ms (j y) path l.distinct (h ms x y l m) b)
