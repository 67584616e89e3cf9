-- What the elision does step by step, and its like in a legal run: after each step there is such a run, in which what is left to do of
-- the task at work is like what is left to do of the elision.
use Rattle.std.proofs.Common.{◌≡◌, ℕ, zero, suc, ◌+◌, ◌<◌, ◌≤◌, Bool, true, false, List, [], ◌∷◌, ◌++◌, length, reverse, refl, sym, ap, ◌∙◌}
use Rattle.std.proofs.Common.{subst, arith, Option, Some, None, append-nil, append_assoc, ◌==◌}
use Rattle.std.specs.Prelude.{ℤ}
use Rattle.std.proofs.lemmas.Bool.{eqb-false}
use Rattle.std.proofs.lemmas.List.{reverse-append}
use Rattle.lang_base.specs.declared.place.Place.{Place}
use Rattle.lang_base.specs.declared.value.Trap.{Trap}
use Rattle.lang_typed.specs.Plain.{PlainProgram}
use Rattle.lang_meaning.specs.Actions.{Own as OwnOver}
use Rattle.lang_meaning.specs.Asking.{most_ticks, Reported, asked, ticked, made_region, reported, replied, does, ask}
use Rattle.lang_meaning.specs.Core.{Result, Done, Stopped, Lost, bind, run}
use Rattle.lang_meaning.specs.Core.{Out as out}
use Rattle.lang_meaning.specs.Elision.{LocalRegion as Counted, Store, answer, after, one_tick, new_region, first_of}
use Rattle.lang_meaning.proofs.Tasks.{asks_disciplined}
use Rattle.runs_theory.specs.Actions.{Action, Answer, Begin, Branches, Do, End, Ending, Fork, Join, Next, Own, Program, Rest, Task, Went}
use Rattle.runs_theory.specs.Blocks.{Allowed, Legal}
use Rattle.runs_theory.specs.Meaning.{Disciplined}
use Rattle.runs_theory.specs.Objects.{LocalRegion, Name, Path}
use Rattle.runs_theory.specs.Order.{InOrder, printed_by}
use Rattle.runs_theory.specs.Runs.{Begun, Event, Right, Run, Upto, answers, later, mine, now}
use Rattle.runs_theory.specs.Schedules.{Greedy}
use Rattle.runs_theory.proofs.runs.Faithful.{begun_upto}
use Rattle.runs_theory.proofs.events.Mine.{mine_same, mine_other}
use Rattle.runs_theory.proofs.events.Upto.{upto_trans}
use Rattle.runs_theory.proofs.runs.Written.{allowed_from, legal_faithful}
use Rattle.runs_program.specs.Steps.{named_by, stepped}
use Rattle.runs_elision.proofs.Worlds.{Names, Distinct, Later, later_none, later_then}
use Rattle.runs_elision.proofs.Worlds.{OwnLike, own_later, AnswerLike}
use Rattle.runs_elision.proofs.Memory.{Holds}
use Rattle.runs_elision.proofs.Doing.{own_step, structure_step, tick_step}
use Rattle.lang_meaning.proofs.Ticks.{most_pos, ticked_if}
use Rattle.runs_theory.proofs.order.Working.{Working, greatest_now, may, stays, in_order_after}

abbrev pub ReportedOf : Type 0
ReportedOf = Reported Name LocalRegion

abbrev pub ResultOf : Type 0
ResultOf = Result Name LocalRegion

abbrev pub ResultIn : Type 0
ResultIn = Result ℕ Counted

abbrev pub OutOf : Type 0 → Type 0
OutOf V = out Name LocalRegion V ReportedOf

abbrev pub OutIn : Type 0 → Type 0
OutIn V = out ℕ Counted V Store

abbrev pub reported_on : ℕ → ℕ → List Answer → ReportedOf
reported_on since made xs = record { since = since; made = made; to_come = xs }

-- the run so far: the task at work, the events, its ticks since the last of them, how many local regions it has made, and the names
-- of all objects in order
pub record Ghost : Type 0 where
  pub path : Path
  pub log : Run
  pub since : ℕ
  pub made : ℕ
  pub names : Names

pub bind_assoc : {N M V U T W : Type 0} (o : out N M V W) (k : V → W → out N M U W) (j : U → W → out N M T W)
    → bind (bind o k) j ≡ bind o (λ v u. bind (k v u) j)
bind_assoc (Done v w) k j = refl
bind_assoc (out.Trapped trap p w) k j = refl
bind_assoc (Stopped n a) k j = refl
bind_assoc (Lost w) k j = refl

ask_is : (p : Path) (P : PlainProgram) (t : Task) (got : List Answer)
    → ask (named_by p) P t got ≡ replied t.work (run (reported (named_by p)) (does (named_by p) P t) (reported_on 0 0 (reverse got)))
unfolding ask
ask_is p P t got = refl

-- with other local regions
holds_regions : {P : Program} {R : Run} {ns : Names} {since : ℕ} {w : Store} (k : ℕ) → Holds P R ns since w → Holds P R ns since (record w { regions = k })
holds_regions k h = record {
  many = h.many;
  distinct = h.distinct;
  there = h.there;
  unwritten = h.unwritten;
  output = h.output;
  trap = h.trap;
  steps = h.steps;
  cells = h.cells;
}

-- neither an end nor a begin
pub record Stays (a : Action) : Type 0 where
  pub no_end : (x : Ending) → a ≡ End x → ⊥
  pub no_begin : (b : ℕ) → a ≡ Begin b → ⊥

pub do_stays : (o : Own) → Stays (Do o)
do_stays o = record { no_end = λ x e. cc; no_begin = λ b e. cc }

pub fork_stays : (ts : Branches) → Stays (Fork ts)
fork_stays ts = record { no_end = λ x e. cc; no_begin = λ b e. cc }

pub join_stays : Stays Join
join_stays = record { no_end = λ x e. cc; no_begin = λ b e. cc }

abbrev pub noted : Ghost → ℕ → ℕ → Action → Answer → Names → Ghost
noted g made n a x ns = record { path = g.path; log = record { path = g.path; ticks = n; act = a; ans = x } ∷ g.log; since = 0; made = made; names = ns }

abbrev pub tick_now : Store → ℕ → Store
tick_now w n = record w { steps = suc w.steps; ticks = n }

abbrev pub AnyRegion : Names → Counted → LocalRegion → Type 0
AnyRegion ns m l = Unit {0}

module _ (P : PlainProgram) (arg : ℤ) where
  abbrev Q : Program
  Q = stepped P arg

  pub D : Disciplined Q
  D = record {
    over = λ p t got x a e. (asks_disciplined (named_by p) P t).over got x a e;
    begins = λ p t got since ts k a l h. (0, (asks_disciplined (named_by p) P t).begins got since ts k a l h);
    joins = λ p t got since ts a l. (0, (asks_disciplined (named_by p) P t).joins got since ts a l);
  }

  -- what is left to do after the answers so far
  abbrev Residual : Path → Task → List Answer → (ReportedOf → OutOf ResultOf) → ℕ → ℕ → Type 0
  Residual p t got m n k = (xs : List Answer)
      → replied t.work (run (reported (named_by p)) (does (named_by p) P t) (reported_on 0 0 (reverse got ++ xs))) ≡ replied t.work (m (reported_on n k xs))

  -- a legal run, in which m is what is left to do of the task at work
  pub record Ready (g : Ghost) (w : Store) (t : Task) (m : ReportedOf → OutOf ResultOf) : Type 0 where
    pub legal : Legal Q g.log
    pub order : InOrder g.log
    pub greedy : Greedy Q g.log
    pub working : Working Q g.log g.path
    pub begun : Begun Q g.log g.path t
    pub low : g.since < most_ticks
    pub resid : Residual g.path t (answers (mine g.log g.path)) m g.since g.made
    pub holds : Holds Q g.log g.names g.since w

  -- a legal run in which the ticks ran out
  pub record RanOut (R : Run) (w v : Store) : Type 0 where
    pub log : Run
    pub names : Names
    pub since : ℕ
    pub legal : Legal Q log
    pub order : InOrder log
    pub greedy : Greedy Q log
    pub low : since < most_ticks
    pub empty : v.ticks ≡ 0
    pub grown : Upto R log
    pub holds : Holds Q log names since v
    pub spent : w.steps + w.ticks ≤ v.steps + v.ticks

  -- the run has grown, by events of this task and those below alone
  pub record After (g h : Ghost) (w v : Store) : Type 0 where
    pub path : h.path ≡ g.path
    pub grown : Upto g.log h.log
    pub kept : (q : Path) → (q ≡ g.path → ⊥) → length q ≤ length g.path → mine h.log q ≡ mine g.log q
    pub names : Later g.names h.names
    pub ticks : v.ticks ≤ w.ticks
    pub spent : w.steps + w.ticks ≤ v.steps + v.ticks

  pub after_then : {g h k : Ghost} {w v u : Store} → After g h w v → After h k v u → After g k w u
  after_then {g} {h} {k} a b = record {
    path = b.path ∙ a.path;
    grown = upto_trans a.grown b.grown;
    kept = λ q n l. b.kept q (λ e. n (e ∙ a.path)) (subst (λ p. length q ≤ length p) (sym a.path) l) ∙ a.kept q n l;
    names = later_then a.names b.names;
    ticks = (let x = a.ticks in let y = b.ticks in omega arith);
    spent = (let x = a.spent in let y = b.spent in omega arith);
  }

  abbrev pub Post : {V X : Type 0} → (Names → V → X → Type 0) → Ghost → Store → Task → (X → ReportedOf → OutOf ResultOf) → OutIn V → Type 0
  Post {V} {X} VR g w t K (Done v u) = (h : Ghost) × (x : X) × VR h.names v x × After g h w u × Ready h u t (K x) × (u.trap ≡ w.trap)
  Post VR g w t K (out.Trapped trap p u) = (h : Ghost) × After g h w u × Ready h u t (λ y. out.Trapped trap p y)
      × (first_of u.trap (trap, p) ≡ first_of w.trap (trap, p))
  Post VR g w t K (Stopped n a) = ⊥
  Post VR g w t K (Lost u) = RanOut g.log w u

  -- the one is what a task does on its answers, the other what the elision does with less than b ticks left
  pub record Sim {V X : Type 0} (VR : Names → V → X → Type 0) (b : ℕ) (ns : Names) (m : ReportedOf → OutOf X) (n : Store → OutIn V) : Type 0 where
    pub from : (g : Ghost) (w : Store) (t : Task) (K : X → ReportedOf → OutOf ResultOf) → Later ns g.names → w.ticks < b → Ready g w t (λ u. bind (m u) K)
        → Post VR g w t K (n w)

  pub ready_same : {g : Ghost} {w : Store} {t : Task} {m m' : ReportedOf → OutOf ResultOf} → Ready g w t m
      → ((xs : List Answer) → replied t.work (m (reported_on g.since g.made xs)) ≡ replied t.work (m' (reported_on g.since g.made xs))) → Ready g w t m'
  ready_same r h = record {
    legal = r.legal;
    order = r.order;
    greedy = r.greedy;
    working = r.working;
    begun = r.begun;
    low = r.low;
    resid = λ xs. r.resid xs ∙ h xs;
    holds = r.holds;
  }

  -- the next event is legal
  pub allowed_next : {g : Ghost} {w : Store} {t : Task} {m : ReportedOf → OutOf ResultOf} (n : ℕ) (a : Action) (x : Answer) → Ready g w t m
      → replied t.work (m (reported_on g.since g.made [])) ≡ Next n a → Right Q g.log g.path a x
      → Allowed Q g.log (record { path = g.path; ticks = n; act = a; ans = x })
  allowed_next {g} {w} {t} {m} n a x r e h =
      allowed_from Q D g.log (record { path = g.path; ticks = n; act = a; ans = x }) (legal_faithful Q g.log r.legal) (record {
        follows = record {
          task = t;
          begun = r.begun;
          asks = ask_is g.path P t (answers (mine g.log g.path))
              ∙ ap (λ l. replied t.work (run (reported (named_by g.path)) (does (named_by g.path) P t) (reported_on 0 0 l))) (sym (append-nil (reverse (answers
              (mine g.log g.path)))))
              ∙ r.resid [] ∙ e;
          right = h;
        };
        enters = λ E i. may Q D r.legal r.working E;
      })

  -- what is left to do after it
  pub resid_next : (p : Path) (t : Task) (R : Run) (m m' : ReportedOf → OutOf ResultOf) (n k k' i : ℕ) (a : Action) (x : Answer)
      → Residual p t (answers (mine R p)) m n k
      → ((xs : List Answer) → replied t.work (m (reported_on n k (x ∷ xs))) ≡ replied t.work (m' (reported_on 0 k' xs)))
      → Residual p t (answers (mine (record { path = p; ticks = i; act = a; ans = x } ∷ R) p)) m' 0 k'
  resid_next p t R m m' n k k' i a x r h xs =
      ap (λ l. replied t.work (run (reported (named_by p)) (does (named_by p) P t) (reported_on 0 0 l))) list ∙ r (x ∷ xs) ∙ h xs
    where
      got : List Answer
      got = answers (mine R p)

      list : reverse (answers (mine (record { path = p; ticks = i; act = a; ans = x } ∷ R) p)) ++ xs ≡ reverse (answers (mine R p)) ++ x ∷ xs
      list = ap (λ l. reverse (answers l) ++ xs) (mine_same (record { path = p; ticks = i; act = a; ans = x }) R p refl)
          ∙ ap (λ l. l ++ xs) (reverse-append (x ∷ []) got) ∙ append_assoc (reverse got) (x ∷ []) xs

  pub ready_next : {g : Ghost} {w : Store} {t : Task} {m : ReportedOf → OutOf ResultOf} (m' : ReportedOf
      → OutOf ResultOf) (n : ℕ) (a : Action) (x : Answer) (made : ℕ) (v : Store)
      (ns : Names) → Stays a → Ready g w t m → replied t.work (m (reported_on g.since g.made [])) ≡ Next n a → Right Q g.log g.path a x
      → Holds Q (record { path = g.path; ticks = n; act = a; ans = x } ∷ g.log) ns 0 v
      → ((xs : List Answer) → replied t.work (m (reported_on g.since g.made (x ∷ xs))) ≡ replied t.work (m' (reported_on 0 made xs)))
      → Ready (noted g made n a x ns) v t m'
  ready_next {g} {w} {t} {m} m' n a x made v ns st r e h hd nx = record {
    legal = legal;
    order = in_order_after Q D legal r.working refl r.order;
    greedy = (greatest_now Q D r.legal r.working (record { path = g.path; ticks = n; act = a; ans = x }) refl, r.greedy);
    working = stays Q D legal r.working refl st.no_end st.no_begin;
    begun = begun_upto (later now) r.begun;
    low = most_pos;
    resid = resid_next g.path t g.log m m' g.since g.made made n a x r.resid nx;
    holds = hd;
  }
    where
      legal : Legal Q (record { path = g.path; ticks = n; act = a; ans = x } ∷ g.log)
      legal = (allowed_next n a x r e h, r.legal)

  pub after_noted : (g : Ghost) (w v : Store) (made n : ℕ) (a : Action) (x : Answer) (ns : Names) → Later g.names ns → v.ticks ≤ w.ticks
      → w.steps + w.ticks ≤ v.steps + v.ticks → After g (noted g made n a x ns) w v
  after_noted g w v made n a x ns l t s = record {
    path = refl;
    grown = later now;
    kept = λ q n' l. mine_other (record { path = g.path; ticks = n; act = a; ans = x }) g.log q (λ e. n' (sym e));
    names = l;
    ticks = t;
    spent = s;
  }

  pub after_none : (g : Ghost) (w : Store) → Distinct g.names → After g g w w
  after_none g w d = record { path = refl; grown = now; kept = λ q n l. refl; names = later_none d; ticks = omega arith; spent = omega arith }

  pub out_after : {g h : Ghost} {w v u : Store} → After g h w v → RanOut h.log v u → RanOut g.log w u
  out_after a o = record {
    log = o.log;
    names = o.names;
    since = o.since;
    legal = o.legal;
    order = o.order;
    greedy = o.greedy;
    low = o.low;
    empty = o.empty;
    grown = upto_trans a.grown o.grown;
    holds = o.holds;
    spent = (let x = a.spent in let y = o.spent in omega arith);
  }

  pub post_after : {V X : Type 0} (VR : Names → V → X → Type 0) {g h : Ghost} {w v : Store} (t : Task) (K : X → ReportedOf → OutOf ResultOf) (o : OutIn V)
      → After g h w v
      → v.trap ≡ w.trap → Post VR h v t K o → Post VR g w t K o
  post_after VR t K (Done x u) a e p = (p.0, p.1, p.2, after_then a p.3, p.4, p.5 ∙ e)
  post_after VR t K (out.Trapped trap q u) a e p = (p.0, after_then a p.1, p.2, p.3 ∙ ap (λ d. first_of d (trap, q)) e)
  post_after VR t K (Stopped n b) a e p = p
  post_after VR t K (Lost u) a e p = out_after a p

  pub sim_done : {V X : Type 0} {VR : Names → V → X → Type 0} {b : ℕ} {ns : Names} (v : V) (x : X) → ((ms : Names) → Later ns ms → VR ms v x)
      → Sim VR b ns (λ u. Done x u) (λ w. Done v w)
  sim_done v x h = record { from = λ g w t K l lt r. (g, x, h g.names l, after_none g w r.holds.distinct, r, refl) }

  pub sim_trapped : {V X : Type 0} {VR : Names → V → X → Type 0} {b : ℕ} {ns : Names} (trap : Trap) (p : Place)
      → Sim VR b ns (λ u. out.Trapped trap p u) (λ w. out.Trapped trap p w)
  sim_trapped trap p = record { from = λ g w t K l lt r. (g, after_none g w r.holds.distinct, r, refl) }

  pub sim_later : {V X : Type 0} {VR : Names → V → X → Type 0} {b : ℕ} {ns ms : Names} {m : ReportedOf → OutOf X} {n : Store → OutIn V} → Later ns ms
      → Sim VR b ns m n → Sim VR b ms m n
  sim_later l s = record { from = λ g w t K h lt r. s.from g w t K (later_then l h) lt r }

  pub sim_same : {V X : Type 0} {VR : Names → V → X → Type 0} {b : ℕ} {ns : Names} {m m' : ReportedOf → OutOf X} {n : Store → OutIn V}
      → ((u : ReportedOf) → u.since < most_ticks → m' u ≡ m u) → Sim VR b ns m n → Sim VR b ns m' n
  sim_same h s = record {
    from = λ g w t K l lt r. s.from g w t K l lt
        (ready_same r (λ xs. ap (λ o. replied t.work (bind o K)) (h (reported_on g.since g.made xs) r.low)));
  }

  pub sim_bind : {V X U Y : Type 0} {VR : Names → V → X → Type 0} {UR : Names → U → Y → Type 0} {b : ℕ} {ns : Names} {m : ReportedOf → OutOf X} {n : Store
      → OutIn V}
      {j : X → ReportedOf → OutOf Y} {k : V → Store → OutIn U} → Sim VR b ns m n
      → ((ms : Names) (v : V) (x : X) → Later ns ms → VR ms v x → Sim UR b ms (j x) (k v)) → Sim UR b ns (λ u. bind (m u) j) (λ w. bind (n w) k)
  sim_bind {V} {X} {U} {Y} {VR} {UR} {b} {ns} {m} {n} {j} {k} s h = record {
    from = λ g w t K l lt r. go g w t K l lt (n w)
        (s.from g w t (λ x u. bind (j x u) K) l lt (ready_same r (λ xs. ap (replied t.work) (bind_assoc (m (reported_on g.since g.made xs)) j K))));
  }
    where
      go : (g : Ghost) (w : Store) (t : Task) (K : Y → ReportedOf → OutOf ResultOf) → Later ns g.names → w.ticks < b → (o : OutIn V)
          → Post VR g w t (λ x u. bind (j x u) K) o → Post UR g w t K (bind o k)
      go g w t K l lt (Done v u) p =
          let a = p.3.ticks in
          post_after UR t K (k v u) p.3 p.5 ((h p.0.names v p.1 (later_then l p.3.names) p.2).from p.0 u t K (later_none p.4.holds.distinct) (omega arith) p.4)
      go g w t K l lt (out.Trapped trap q u) p = p
      go g w t K l lt (Stopped i a) p = p
      go g w t K l lt (Lost u) p = p

  pub sim_act : {b : ℕ} {ns : Names} {o : OwnOver ℕ Counted} {q : Own} → OwnLike ns o q
      → Sim AnswerLike b ns (λ u. asked (Do q) u) (λ w. Done (answer w.heap o) (after o w))
  sim_act {b} {ns} {o} {q} like = record { from = from }
    where
      from : (g : Ghost) (w : Store) (t : Task) (K : Answer → ReportedOf → OutOf ResultOf) → Later ns g.names → w.ticks < b
          → Ready g w t (λ u. bind (asked (Do q) u) K)
          → Post AnswerLike g w t K (Done (answer w.heap o) (after o w))
      from g w t K l lt r =
          let a = own_step Q r.holds g.path (own_later l like) in (
            noted g g.made g.since (Do q) a.answer a.names,
            a.answer,
            a.like,
            after_noted g w (after o w) g.made g.since (Do q) a.answer a.names a.later (omega arith) (omega arith),
            ready_next (K a.answer) g.since (Do q) a.answer g.made (after o w) a.names (do_stays q) r refl a.replies a.holds (λ xs. refl),
            refl,
          )

  pub tick_from : (g : Ghost) (w : Store) (t : Task) (made : ℕ) (m next : ReportedOf → OutOf ResultOf) → Ready g w t m
      → ((xs : List Answer) → replied t.work (m (reported_on g.since g.made xs)) ≡ replied t.work (bind (ticked (reported_on g.since made xs)) (λ a v. next v)))
      → (n : ℕ) → w.ticks ≡ suc n → (h : Ghost) × (h.made ≡ made) × After g h w (tick_now w n) × Ready h (tick_now w n) t next
  tick_from g w t made m next r h n e = go (suc g.since == most_ticks) refl (λ xs. r.resid xs ∙ h xs)
    where
      go : (d : Bool) → (suc g.since == most_ticks) ≡ d → ((xs : List Answer)
          → replied t.work (run (reported (named_by g.path)) (does (named_by g.path) P t) (reported_on 0 0 (reverse (answers (mine g.log g.path)) ++ xs)))
          ≡ replied t.work (bind (ticked_if d (reported_on g.since made xs)) (λ a v. next v)))
          → (h : Ghost) × (h.made ≡ made) × After g h w (tick_now w n) × Ready h (tick_now w n) t next
      go true q k =
          let ev : Event = record { path = g.path; ticks = suc g.since; act = Do Rest; ans = Went } in
          let k0 : Holds Q g.log g.names (suc g.since) (tick_now w n) = tick_step Q r.holds g.path (tick_now w n) refl refl refl refl refl in
          let k1 : Holds Q (ev ∷ g.log) g.names 0 (tick_now w n) =
          structure_step Q k0 g.path ev refl (λ c. refl) (λ f. rest_prints f) refl (tick_now w n) refl refl refl refl (omega arith) in
          let mm : ReportedOf → OutOf ResultOf = (λ u. bind (ticked_if true (reported_on g.since made u.to_come)) (λ a v. next v)) in
          let r1 : Ready g w t mm = record {
            legal = r.legal;
            order = r.order;
            greedy = r.greedy;
            working = r.working;
            begun = r.begun;
            low = r.low;
            resid = k;
            holds = r.holds;
          } in (
            noted g made (suc g.since) (Do Rest) Went g.names,
            refl,
            after_noted g w (tick_now w n) made (suc g.since) (Do Rest) Went g.names (later_none r.holds.distinct) (omega arith) (omega arith),
            ready_next next (suc g.since) (Do Rest) Went made (tick_now w n) g.names (do_stays Rest) r1 refl refl k1 (λ xs. refl),
          )
        where
          rest_prints : (f : Option (Trap × Place)) → printed_by (Do Rest) f ≡ []
          rest_prints None = refl
          rest_prints (Some f) = refl
      go false q k =
          let ne = eqb-false (suc g.since) most_ticks q in
          let lw = r.low in
          let lt : suc g.since < most_ticks = grind arith in
          let g1 : Ghost = record { path = g.path; log = g.log; since = suc g.since; made = made; names = g.names } in (
            g1,
            refl,
            record { path = refl; grown = now; kept = λ q n l. refl; names = later_none r.holds.distinct; ticks = omega arith; spent = omega arith },
            record {
              legal = r.legal;
              order = r.order;
              greedy = r.greedy;
              working = r.working;
              begun = r.begun;
              low = lt;
              resid = k;
              holds = tick_step Q r.holds g.path (tick_now w n) refl refl refl refl refl;
            },
          )

  pub ran_out : (g : Ghost) (w : Store) (t : Task) (m : ReportedOf → OutOf ResultOf) → Ready g w t m → w.ticks ≡ 0 → RanOut g.log w w
  ran_out g w t m r e = record {
    log = g.log;
    names = g.names;
    since = g.since;
    legal = r.legal;
    order = r.order;
    greedy = r.greedy;
    low = r.low;
    empty = e;
    grown = now;
    holds = r.holds;
    spent = omega arith;
  }

  pub sim_tick : {V X : Type 0} {VR : Names → V → X → Type 0} {b : ℕ} {ns : Names} {j : ReportedOf → OutOf X} {k : Store → OutIn V} → Sim VR b ns j k
      → Sim VR (suc b) ns (λ u. bind (ticked u) (λ a v. j v)) (λ w. bind (one_tick w.ticks w) (λ a v. k v))
  sim_tick {V} {X} {VR} {b} {ns} {j} {k} s = record { from = λ g w t K l lt r. go g w t K l lt r w.ticks refl }
    where
      go : (g : Ghost) (w : Store) (t : Task) (K : X → ReportedOf → OutOf ResultOf) → Later ns g.names → w.ticks < suc b
          → Ready g w t (λ u. bind (bind (ticked u) (λ a v. j v)) K) → (n : ℕ) → w.ticks ≡ n → Post VR g w t K (bind (one_tick n w) (λ a v. k v))
      go g w t K l lt r zero e = ran_out g w t (λ u. bind (bind (ticked u) (λ a v. j v)) K) r e
      go g w t K l lt r (suc n) e =
          let z = tick_from g w t g.made (λ u. bind (bind (ticked u) (λ a v. j v)) K) (λ v. bind (j v) K) r
          (λ xs. ap (replied t.work) (bind_assoc (ticked (reported_on g.since g.made xs)) (λ a v. j v) K)) n e in
          post_after VR t K (k (tick_now w n)) z.2 refl (s.from z.0 (tick_now w n) t K (later_then l z.2.names) (omega arith) z.3)

  pub sim_make : (path : Path) {b : ℕ} {ns : Names} → Sim AnyRegion b ns (λ u. made_region (named_by path) u) new_region
  sim_make path {b} {ns} = record { from = λ g w t K l lt r. go g w t K r w.ticks refl }
    where
      go : (g : Ghost) (w : Store) (t : Task) (K : LocalRegion → ReportedOf → OutOf ResultOf) → Ready g w t (λ u. bind (made_region (named_by path) u) K) → (n : ℕ)
          → w.ticks ≡ n → Post AnyRegion g w t K (bind (one_tick n w) (λ u v. Done (Counted.Made v.regions) (record v { regions = suc v.regions })))
      go g w t K r zero e = ran_out g w t (λ u. bind (made_region (named_by path) u) K) r e
      go g w t K r (suc n) e =
          let x : LocalRegion = (named_by path).made g.made in
          let z = tick_from g w t (suc g.made) (λ u. bind (made_region (named_by path) u) K) (K x) r
          (λ xs. ap (replied t.work) (bind_assoc (ticked (reported_on g.since (suc g.made) xs)) (λ u v. Done x v) K)) n e in
          (z.0, x, tt, other_regions z.2, ready_regions z.3, refl)
        where
          other_regions : {h : Ghost} → After g h w (tick_now w n) → After g h w (record (tick_now w n) { regions = suc w.regions })
          other_regions a = record { path = a.path; grown = a.grown; kept = a.kept; names = a.names; ticks = a.ticks; spent = a.spent }

          ready_regions : {h : Ghost} {m : ReportedOf → OutOf ResultOf} → Ready h (tick_now w n) t m
              → Ready h (record (tick_now w n) { regions = suc w.regions }) t m
          ready_regions r = record {
            legal = r.legal;
            order = r.order;
            greedy = r.greedy;
            working = r.working;
            begun = r.begun;
            low = r.low;
            resid = r.resid;
            holds = holds_regions (suc w.regions) r.holds;
          }
