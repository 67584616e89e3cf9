-- The live tasks of a machine are those of the run that haven't ended, over each event.
use Rattle.std.proofs.Common.{◌≡◌, ◌≢◌, ◌≤◌, ◌<◌, ◌⊎◌, inl, inr, ⊎_elim, ℕ, ◌==◌, if◌then◌else◌, ℤ, Bool, true, false, List, [], ◌∷◌, refl, sym, ap, ◌∙◌, subst, Option, Some, None, slice_get, arith, length}
use Rattle.std.proofs.lemmas.Bool.Decides.{eqb_tells}
use Rattle.std.proofs.lemmas.Option.{slice_get_within}
use Rattle.std.specs.Prelude.{is_some}
use Rattle.std.specs.FinMap.{get}
use Rattle.lang_base.specs.declared.effect.Effect.{Effect as PathEffect}
use Rattle.lang_base.specs.declared.outcome.Limits.{Limits}
use Rattle.lang_typed.specs.Plain.{PlainProgram}
use Rattle.code_instrs.specs.Plain.{PlainCode, plain_code}
use Rattle.code_instrs.specs.declared.code.Code.{Code}
use Rattle.runs_theory.specs.Actions.{Action, Begin, Do, End, Ending, Enter, Exit, Rule}
use Rattle.runs_theory.specs.Blocks.{In_block, Out_of}
use Rattle.runs_theory.specs.Objects.{Path}
use Rattle.runs_theory.specs.Runs.{mine, now, Ended, Event, Run, Upto}
use Rattle.runs_theory.specs.Schedules.{Numbered}
use Rattle.runs_theory.proofs.runs.Faithful.{begun_upto, follows_at}
use Rattle.runs_theory.proofs.events.Mine.{found, mine_other, mine_same}
use Rattle.runs_theory.proofs.events.Numbers.{number_of_begun, number_same}
use Rattle.runs_theory.proofs.events.Upto.{upto_split, upto_tail}
use Rattle.exec_task.specs.declared.action.Action.{Action as DeclaredAction}
use Rattle.exec_task.specs.declared.action.Action.TheVariants as action
use Rattle.exec_task.specs.declared.action.Own.TheVariants as alone
use Rattle.exec_tasks.specs.Scope.{no_branch_yet, with_branch}
use Rattle.exec_tasks.specs.Tree.{Tasks, CanBegin, OfScope, OfTask, with_scope, forked_task, joined_task, printed_task}
use Rattle.exec_tasks.specs.declared.task.State.TheVariants.{Running, Forked}
use Rattle.exec_tasks.specs.declared.task.Task.{Task as Live}
use Rattle.exec_world.specs.World.{slots_in, trap_in}
use Rattle.exec_world.specs.declared.event.Event.{Event as DeclaredEvent}
use Rattle.exec_machine.specs.Replay.{CanBeMade, Moment, NextOf, after}
use Rattle.runs_simulation.proofs.alike.Sights.{Sight}
use Rattle.runs_simulation.proofs.events.Acting.{RightFor, Stepped, event_of}
use Rattle.runs_simulation.proofs.events.Blocks.{KeysKept, NoFork, event_passes, k_now, others_begun, Quiet, absent, changed_keys, ended_gone, ended_keys, event_like, keys, live_path, none_there, numbered_low, own, some_there}
use Rattle.runs_simulation.proofs.tied.Branching.{AllBranch, ended_runs, no_scope_in, branches_begun_too, branches_ended, branches_forked, branches_joined, branches_printed}
use Rattle.runs_simulation.proofs.tied.Inside.{BlocksTied}
use Rattle.runs_simulation.proofs.tied.Ties.{Q, Tied}
use Rattle.runs_simulation.proofs.tied.Trees.{changed_other, changed_own, apart_paths, numbered_later, path_one}
use Rattle.runs_simulation.proofs.tied.Waiting.{AllNoted}

abbrev pub NoForkLast : Run → Type 0
NoForkLast [] = Unit {0}
NoForkLast (e ∷ es) = NoFork e.act

pub record LivesTied (w : Sight) (R : Run) (m : Moment) : Type 0 where
  -- a live task hasn't ended
  pub unended : (k : ℕ) (x : Live) (p : Path) → get m.world.tree.tasks k ≡ Some x → slice_get w.paths k ≡ Some p → (z : Ending) → Ended R p z → ⊥
  -- a branch that a scope says to run is live
  pub branches : AllBranch m.world.tree.tasks
  -- who has no open scope has made no fork last, nor a begin
  pub rests : (k : ℕ) (x : Live) (p : Path) → get m.world.tree.tasks k ≡ Some x → slice_get w.paths k ≡ Some p → x.state ≡ Running → NoForkLast (mine R p)
  -- and the root is live until the run has come out
  pub root : m.outcome ≡ None → is_some (get m.world.tree.tasks 0) ≡ true

end_cases : {e : Event} {R : Run} {p : Path} {z : Ending} → Ended (e ∷ R) p z → ((e.path ≡ p) × (e.act ≡ End z)) ⊎ Ended R p z
end_cases {e} {R} {p} {z} g = ⊎_elim
    (λ y. inl (ap (λ (z : Event). z.path) (sym y.0) ∙ g.path, ap (λ (z : Event). z.act) (sym y.0) ∙ g.act))
    (λ y. inr (record { before = g.before; event = g.event; stands = y; path = g.path; act = g.act })) (upto_split g.stands)

forked_running : (many : ℕ) (x y : Live) → forked_task many x ≡ y → y.state ≡ Running → ⊥
forked_running many x y e s = (let both : Forked (no_branch_yet many) ≡ Running = ap (λ (l : Live). l.state) e ∙ s in cc)

-- who can begin a branch has an open scope
can_begin : (tasks : Tasks) (k : ℕ) {y : Live} → get tasks k ≡ Some y → CanBegin tasks k → y.state ≡ Running → ⊥
can_begin tasks k {y} is can run =
    subst (λ s. OfScope s (λ scope. length scope.ends < scope.count)) run (subst (λ o. OfTask o (λ task. OfScope task.state (λ scope. length scope.ends < scope.count))) is can)

no_begin_here : (y z : Live) → (y.state ≡ Running → ⊥) → with_scope with_branch y ≡ z → z.state ≡ Running → ⊥
no_begin_here y z forks e run = forks (no_scope_in with_branch y.state (ap (λ (l : Live). l.state) e ∙ run))

not_end : (a : Action) → Quiet a → (z : Ending) → a ≡ End z → ⊥
not_end a q z e = (let both : Out_of ≡ In_block 0 [] = subst Quiet e q (In_block 0 []) in cc)

module _ (code : Code) (P : PlainProgram) (arg : ℤ) (rule : Rule) (L : Limits) (right : RightFor (plain_code code) P) where
  abbrev C : PlainCode
  C = plain_code code

  module _ {m : Moment} {w : Sight} {R : Run} (T : Tied P arg rule C L m w R) (short : m.world.steps ≤ 20000001) (B : BlocksTied w R m.world) (wanted : AllNoted C m)
      (lives : LivesTied w R m) (k ticks : ℕ) (wants : Option (List PathEffect)) where
    abbrev Then : DeclaredAction → Type 0
    Then a = (x : NextOf C m k (event_of k ticks wants a)) → CanBeMade C m.world (event_of k ticks wants a) x.stands.state → (S : Stepped code P arg rule L right w R k (after code m (event_of k ticks wants a) x.stands.state x.stands.made))
        → LivesTied S.sight (S.event ∷ R) (after code m (event_of k ticks wants a) x.stands.state x.stands.made)

    module _ (a : DeclaredAction) (x : NextOf C m k (event_of k ticks wants a))
        (S : Stepped code P arg rule L right w R k (after code m (event_of k ticks wants a) x.stands.state x.stands.made)) where
      abbrev n : Moment
      n = after code m (event_of k ticks wants a) x.stands.state x.stands.made

      old_path : (j : ℕ) (y : Live) → get m.world.tree.tasks j ≡ Some y → (p : Path) → slice_get S.sight.paths j ≡ Some p → slice_get w.paths j ≡ Some p
      old_path j y is p h = live_path code P arg rule L right T short B wanted k ticks wants a x S j y is p h

      -- of a task that had begun
      unended_old : (j : ℕ) (y : Live) (p : Path) → get m.world.tree.tasks j ≡ Some y → slice_get S.sight.paths j ≡ Some p
          → ((z : Ending) → S.event.path ≡ p → S.event.act ≡ End z → ⊥) → (z : Ending) → Ended (S.event ∷ R) p z → ⊥
      unended_old j y p is h apart z g = ⊎_elim (λ e. apart z e.0 e.1) (λ g. lives.unended j y p is (old_path j y is p h) z g) (end_cases g)

      -- of a task that stands as it stood
      rests_old : (j : ℕ) (y : Live) (p : Path) → j ≢ k → get m.world.tree.tasks j ≡ Some y → slice_get S.sight.paths j ≡ Some p → y.state ≡ Running
          → NoForkLast (mine (S.event ∷ R) p)
      rests_old j y p apart is h run =
          let old = old_path j y is p h in
          subst NoForkLast (sym (mine_other S.event R p (λ e. apart_paths T.numbers j k p S.event.path old S.there apart (sym e)))) (lives.rests j y p is old run)

      rests_own : (j : ℕ) (y : Live) (p : Path) → j ≡ k → get m.world.tree.tasks j ≡ Some y → slice_get S.sight.paths j ≡ Some p → NoFork S.event.act
          → NoForkLast (mine (S.event ∷ R) p)
      rests_own j y p same is h passing =
          let old = old_path j y is p h in
          subst NoForkLast (sym (mine_same S.event R p (path_one w k S.there (subst (λ i. slice_get w.paths i ≡ Some p) same old)))) passing

      kept_lives : KeysKept m.world.tree.tasks n.world.tree.tasks → AllBranch n.world.tree.tasks → ((z : Ending) → S.event.act ≡ End z → ⊥)
          → ((j : ℕ) → j ≢ k → get n.world.tree.tasks j ≡ get m.world.tree.tasks j)
          → ((y : Live) → get n.world.tree.tasks k ≡ Some y → y.state ≡ Running → NoFork S.event.act) → LivesTied S.sight (S.event ∷ R) n
      kept_lives same branches going others passing = record {
        rests = λ j y p is h run. elim (eqb_tells j k) [
          | inl s ↦ (let old = some_there (get m.world.tree.tasks j) (sym (same j) ∙ ap (λ o. is_some o) is) in
              rests_own j old.0 p s.1 old.1 h (passing y (ap (λ i. get n.world.tree.tasks i) (sym s.1) ∙ is) run))
          | inr s ↦ rests_old j y p s.1 (sym (others j s.1) ∙ is) h run
        ];
        unended = λ j y p is h z g.
            (let old = some_there (get m.world.tree.tasks j) (sym (same j) ∙ ap (λ o. is_some o) is) in unended_old j old.0 p old.1 h (λ z e f. going z f) z g);
        branches = branches;
        root = λ none. same 0 ∙ lives.root x.unfinished;
      }

      ended_lives : ((j : ℕ) → j ≢ k → is_some (get n.world.tree.tasks j) ≡ is_some (get m.world.tree.tasks j)) → get n.world.tree.tasks k ≡ None
          → AllBranch n.world.tree.tasks → (n.outcome ≡ None → 0 ≢ k)
          → ((j : ℕ) (y : Live) → get n.world.tree.tasks j ≡ Some y → y.state ≡ Running → (u : Live) × (get m.world.tree.tasks j ≡ Some u) × (u.state ≡ Running))
          → LivesTied S.sight (S.event ∷ R) n
      ended_lives keys gone branches no_root runs = record {
        rests = λ j y p is h run. elim (eqb_tells j k) [
          | inl s ↦ absurd (let both : None ≡ Some y = sym gone ∙ ap (λ i. get n.world.tree.tasks i) (sym s.1) ∙ is in cc)
          | inr s ↦ (let u = runs j y is run in rests_old j u.0 p s.1 u.1 h u.2)
        ];
        unended = λ j y p is h z g. elim (eqb_tells j k) [
          | inl s ↦ (let both : None ≡ Some y = sym gone ∙ ap (λ i. get n.world.tree.tasks i) (sym s.1) ∙ is in cc)
          | inr s ↦ (let old = some_there (get m.world.tree.tasks j) (sym (keys j s.1) ∙ ap (λ o. is_some o) is) in
              unended_old j old.0 p old.1 h (λ z e f. apart_paths T.numbers j k p S.event.path (old_path j old.0 old.1 p h) S.there s.1 (sym e)) z g)
        ];
        branches = branches;
        root = λ none. keys 0 (no_root none) ∙ lives.root x.unfinished;
      }

      begun_lives : (c : ℕ) → c ≡ m.world.tree.begun → ((j : ℕ) → j ≢ c → is_some (get n.world.tree.tasks j) ≡ is_some (get m.world.tree.tasks j))
          → AllBranch n.world.tree.tasks → (b : ℕ) → S.event.act ≡ Begin b
          → ((j : ℕ) → j ≢ c → j ≢ k → get n.world.tree.tasks j ≡ get m.world.tree.tasks j)
          → ((y : Live) → get n.world.tree.tasks k ≡ Some y → y.state ≡ Running → ⊥) → LivesTied S.sight (S.event ∷ R) n
      begun_lives c c_is keys branches b act others forks = record {
        rests = λ j y p is h run. elim (eqb_tells j c) [
          | inl s ↦ subst NoForkLast (sym (nothing_yet p (subst (λ i. slice_get S.sight.paths i ≡ Some p) s.1 h))) tt
          | inr s ↦ elim (eqb_tells j k) [
            | inl z ↦ absurd (forks y (ap (λ i. get n.world.tree.tasks i) (sym z.1) ∙ is) run)
            | inr z ↦ rests_old j y p z.1 (sym (others j s.1 z.1) ∙ is) h run
          ]
        ];
        unended = λ j y p is h z g. elim (eqb_tells j c) [
          | inl s ↦ ⊎_elim (λ e. no_end z e.1) (λ old. none_yet p (subst (λ i. slice_get S.sight.paths i ≡ Some p) s.1 h) z old) (end_cases g)
          | inr s ↦ (let old = some_there (get m.world.tree.tasks j) (sym (keys j s.1) ∙ ap (λ o. is_some o) is) in unended_old j old.0 p old.1 h (λ z e f. no_end z f) z g)
        ];
        branches = branches;
        root = λ none. keys 0 (λ s. (let n = T.numbers.count in omega (arith, s, n, c_is))) ∙ lives.root x.unfinished;
      }
        where
          no_end : (z : Ending) → S.event.act ≡ End z → ⊥
          no_end z e = (let both : Begin b ≡ End z = sym act ∙ e in cc)

          -- a task of the next number has made nothing
          none_made : (p : Path) → slice_get S.sight.paths c ≡ Some p → (y : Event) (Y : Run) → Upto (y ∷ Y) R → y.path ≡ p → ⊥
          none_made p h y Y u is =
              let F = follows_at (Q P arg rule C) u T.faithful in
              let old = number_of_begun (begun_upto (upto_tail u) F.begun) in
              let low = numbered_low old.1 in
              let now = S.tied.numbers.numbered c p h in
              let same = number_same (numbered_later S.event (subst (λ q. Numbered R old.0 q) is old.1)) now in
              let counted = T.numbers.count in
              omega (arith, low, same, counted, c_is)

          none_yet : (p : Path) → slice_get S.sight.paths c ≡ Some p → (z : Ending) → Ended R p z → ⊥
          none_yet p h z g = none_made p h g.event g.before g.stands g.path

          own_apart : (p : Path) → slice_get S.sight.paths c ≡ Some p → S.event.path ≡ p → ⊥
          own_apart p h e =
              let same = number_same (subst (λ q. Numbered (S.event ∷ R) k q) e (numbered_later S.event (T.numbers.numbered k S.event.path S.there))) (S.tied.numbers.numbered c p h) in
              let within = slice_get_within w.paths k S.event.path S.there in
              let many = T.numbers.many in omega (arith, same, within, many, c_is)

          nothing_yet : (p : Path) → slice_get S.sight.paths c ≡ Some p → mine (S.event ∷ R) p ≡ []
          nothing_yet p h = mine_other S.event R p (own_apart p h) ∙ none (mine R p) refl
            where
              none : (es : Run) → mine R p ≡ es → es ≡ []
              none [] i = refl
              none (y ∷ ys) i = absurd (let f = found R p (subst (λ l. Upto (y ∷ ys) l) (sym i) now) in none_made p h y f.before f.stands f.path)

    lives_any : (a : DeclaredAction) → Then a
    lives_any (action.Do (alone.Print bytes)) x can S =
        kept_lives (action.Do (alone.Print bytes)) x S (changed_keys m.world.tree.tasks k (printed_task bytes)) (branches_printed m.world.tree.tasks k bytes lives.branches)
        (not_end S.event.act (event_like code P arg rule L right T k ticks wants (action.Do (alone.Print bytes)) x S))
        (λ j apart. changed_other m.world.tree.tasks k (printed_task bytes) j (own code P arg rule L right T short B wanted k ticks wants (action.Do (alone.Print bytes)) x S).1 apart)
        (λ y is run. event_passes code P arg rule L right T k ticks wants (action.Do (alone.Print bytes)) x S tt)
    lives_any (action.Do (alone.Enter effects)) x can S =
        kept_lives (action.Do (alone.Enter effects)) x S (λ j. refl) lives.branches
        (λ z e. (let f = event_like code P arg rule L right T k ticks wants (action.Do (alone.Enter effects)) x S in let both : Do (Enter f.0) ≡ End z = sym f.1 ∙ e in cc))
        (λ j apart. refl) (λ y is run. event_passes code P arg rule L right T k ticks wants (action.Do (alone.Enter effects)) x S tt)
    lives_any (action.Do alone.Exit) x can S =
        kept_lives (action.Do alone.Exit) x S (λ j. refl) lives.branches
        (λ z e. (let both : Do Exit ≡ End z = sym (event_like code P arg rule L right T k ticks wants (action.Do alone.Exit) x S) ∙ e in cc))
        (λ j apart. refl) (λ y is run. event_passes code P arg rule L right T k ticks wants (action.Do alone.Exit) x S tt)
    lives_any (action.Do o) x can S =
        kept_lives (action.Do o) x S (λ j. refl) lives.branches (not_end S.event.act (event_like code P arg rule L right T k ticks wants (action.Do o) x S))
        (λ j apart. refl) (λ y is run. event_passes code P arg rule L right T k ticks wants (action.Do o) x S tt)
    lives_any (action.Fork forking many) x can S =
        kept_lives (action.Fork forking many) x S (changed_keys m.world.tree.tasks k (forked_task many)) (branches_forked m.world.tree.tasks k many lives.branches)
        (not_end S.event.act (event_like code P arg rule L right T k ticks wants (action.Fork forking many) x S))
        (λ j apart. changed_other m.world.tree.tasks k (forked_task many) j (own code P arg rule L right T short B wanted k ticks wants (action.Fork forking many) x S).1 apart)
        (λ y is run. absurd (let both : Some (forked_task many (own code P arg rule L right T short B wanted k ticks wants (action.Fork forking many) x S).0) ≡ Some y =
        sym (changed_own m.world.tree.tasks k (forked_task many) (own code P arg rule L right T short B wanted k ticks wants (action.Fork forking many) x S).1) ∙ is in
        forked_running many (own code P arg rule L right T short B wanted k ticks wants (action.Fork forking many) x S).0 y (cc) run))
    lives_any action.Join x can S =
        kept_lives action.Join x S (changed_keys m.world.tree.tasks k joined_task) (branches_joined m.world.tree.tasks k lives.branches)
        (not_end S.event.act (event_like code P arg rule L right T k ticks wants action.Join x S))
        (λ j apart. changed_other m.world.tree.tasks k joined_task j (own code P arg rule L right T short B wanted k ticks wants action.Join x S).1 apart)
        (λ y is run. event_passes code P arg rule L right T k ticks wants action.Join x S tt)
    lives_any (action.Begin b) x can S =
        let act = event_like code P arg rule L right T k ticks wants (action.Begin b) x S in
        let y = own code P arg rule L right T short B wanted k ticks wants (action.Begin b) x S in
        let free = absent code P arg rule L right T short B wanted k ticks wants (action.Begin b) x S b act refl refl refl in
        begun_lives (action.Begin b) x S m.world.tree.begun refl
        (λ j apart. keys code P arg rule L right T short B wanted k ticks wants (action.Begin b) x S b act refl refl refl j apart)
        (branches_begun_too m.world.tree.tasks k m.world.tree.begun y.0 y.1 free
        (λ s. (let both : None ≡ Some y.0 = sym free ∙ ap (λ i. get m.world.tree.tasks i) (sym s) ∙ y.1 in cc)) lives.branches) b act
        (λ j apart other. others_begun code P arg rule L right T short B wanted k ticks wants (action.Begin b) x S b act refl refl refl j apart other)
        (λ z is run. no_begin_here y.0 z (can_begin m.world.tree.tasks k y.1 can.fits.0)
        (let both : Some (with_scope with_branch y.0) ≡ Some z = sym (k_now code P arg rule L right T short B wanted k ticks wants (action.Begin b) x S b act refl refl refl) ∙ is in cc) run)
    lives_any (action.End c) x can S =
        let y = own code P arg rule L right T short B wanted k ticks wants (action.End c) x S in
        ended_lives (action.End c) x S (λ j apart. ended_keys m.world k (trap_in c) (slots_in c) j apart)
        (none_there _ (ended_gone m.world k (trap_in c) (slots_in c))) (branches_ended m.world.tree k y.0 _ y.1 lives.branches) not_root
        (λ j z is run. ended_runs m.world.tree k _ _ j z is run)
      where
        not_root : (after code m (event_of k ticks wants (action.End c)) x.stands.state x.stands.made).outcome ≡ None → 0 ≢ k
        not_root none s = go _ (k == 0) refl none
          where
            go : {A : Type 0} (o : A) (b : Bool) → (k == 0) ≡ b → (if b then Some o else None) ≡ None → ⊥
            go o true i e = cc
            go o false i e = elim (eqb_tells k 0) [
              | inl t ↦ (let both : false ≡ true = sym i ∙ t.0 in cc)
              | inr t ↦ t.1 (sym s)
            ]

  module _ {m : Moment} {w : Sight} {R : Run} (T : Tied P arg rule C L m w R) (short : m.world.steps ≤ 20000001) (B : BlocksTied w R m.world) (wanted : AllNoted C m)
      (lives : LivesTied w R m) (k : ℕ) (e : DeclaredEvent) where
    pub lives_next : (x : NextOf C m k e) → CanBeMade C m.world e x.stands.state → (S : Stepped code P arg rule L right w R k (after code m e x.stands.state x.stands.made))
        → LivesTied S.sight (S.event ∷ R) (after code m e x.stands.state x.stands.made)
    lives_next x can S =
        subst (λ j. (x : NextOf C m j e) → CanBeMade C m.world e x.stands.state → (S : Stepped code P arg rule L right w R j (after code m e x.stands.state x.stands.made))
        → LivesTied S.sight (S.event ∷ R) (after code m e x.stands.state x.stands.made)) x.stands.number
        (λ x can S. lives_any T short B wanted lives e.task e.ticks e.wants e.action x can S) x can S
