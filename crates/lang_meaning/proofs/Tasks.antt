-- What each task keeps to, from what may come next after what came before.
use Rattle.std.proofs.Common.{◌≡◌, ℕ, zero, suc, ◌+◌, ◌*◌, ◌<◌, ◌≤◌, ◌⊎◌, inl, inr, List, [], ◌∷◌, ◌++◌, length, reverse, refl, sym, ap, ◌∙◌, subst, arith}
use Rattle.std.proofs.lemmas.List.{reverse-append}
use Rattle.lang_typed.specs.Plain.{PlainProgram}
use Rattle.lang_meaning.specs.Values.{Naming}
use Rattle.lang_meaning.specs.Actions.{Work, Task, Branches, Own, Rest, Read, Write, Look, New, Print, Enter, Exit, Action, Do, Fork, Begin, Join, End, Ending}
use Rattle.lang_meaning.specs.Actions.{Answer}
use Rattle.lang_meaning.specs.Actions.{Reply, Next, Over, Unknown}
use Rattle.lang_meaning.specs.Core.{Result, Out, Done, Trapped, Stopped, Lost, run}
use Rattle.lang_meaning.specs.Asking.{most_ticks, Reported, reported, ended, ending, replied, meaning, ask}
use Rattle.lang_meaning.specs.Statements.{begun}
use Rattle.lang_meaning.specs.Tasks.{Replies, Asks, Disciplined, AfterFork, Lively, InTurn, Paced, IsDisciplined, IsLively, IsInTurn, IsPaced}
use Rattle.lang_meaning.proofs.Ticks.{most_pos}
use Rattle.lang_meaning.proofs.Entries.{steady_meaning}
use Rattle.lang_meaning.proofs.Modes.{Mode, Free, Forked, Rested, Ended, following, May, Goes, Good, good_end, good_same, finish, all_fine}

module _ {N M : Type 0} where
  -- where a task stands after some answers, the latest first; and the earliest first
  abbrev pub mode : Replies N M → List (Answer N M) → Mode N M
  mode m [] = Free
  mode m (x ∷ got) = following (mode m got) (m got)

  abbrev along : Mode N M → Replies N M → List (Answer N M) → Mode N M
  along g h [] = g
  along g h (x ∷ xs) = along (following g (h [])) (λ ys. h (x ∷ ys)) xs

  goes_along : (xs : List (Answer N M)) (g : Mode N M) (h : Replies N M) (d : ℕ) → length xs < d → Goes d g h → May (along g h xs) (h xs)
  goes_along [] g h zero l s = absurd (omega arith)
  goes_along [] g h (suc d) l s = s.0
  goes_along (x ∷ xs) g h zero l s = absurd (omega arith)
  goes_along (x ∷ xs) g h (suc d) l s = goes_along xs _ _ d (omega arith) (s.1 x)

  along_last : (xs : List (Answer N M)) (g : Mode N M) (h : Replies N M) (x : Answer N M) → along g h (xs ++ x ∷ []) ≡ following (along g h xs) (h xs)
  along_last [] g h x = refl
  along_last (y ∷ xs) g h x = along_last xs (following g (h [])) (λ ys. h (y ∷ ys)) x

  mode_along : (h : Replies N M) (got : List (Answer N M)) → along Free h (reverse got) ≡ mode (λ xs. h (reverse xs)) got
  mode_along h [] = refl
  mode_along h (x ∷ got) =
      ap (λ l. along Free h l) (reverse-append (x ∷ []) got) ∙ along_last (reverse got) Free h x ∙ ap (λ g. following g (h (reverse got))) (mode_along h got)

  abbrev pub Keeps : Replies N M → Type 0
  Keeps m = (got : List (Answer N M)) → May (mode m got) (m got)

  keeps : (h : Replies N M) → ((d : ℕ) → Goes d Free h) → Keeps (λ xs. h (reverse xs))
  keeps h s got =
      subst (λ g. May g (h (reverse got))) (mode_along h got)
      (goes_along (reverse got) Free h (suc (length (reverse got))) (omega arith) (s (suc (length (reverse got)))))

  -- the reply where an action comes next
  no_unknown : (g : Mode N M) → May g Unknown → ⊥
  no_unknown Free h = h
  no_unknown (Forked ts b) (inl h) = let e = h.1 in cc
  no_unknown (Forked ts b) (inr h) = let e = h.1 in cc
  no_unknown Rested h = let e = h.1 in cc
  no_unknown Ended h = cc

  over_ended : (g : Mode N M) → May g Over → g ≡ Ended
  over_ended Free h = absurd h
  over_ended (Forked ts b) (inl h) = let e = h.1 in absurd (cc)
  over_ended (Forked ts b) (inr h) = let e = h.1 in absurd (cc)
  over_ended Rested h = let e = h.1 in absurd (cc)
  over_ended Ended h = refl

  -- an end alone is after an end
  own_goes_on : (g : Mode N M) (n : ℕ) (o : Own N M) → following g (Next n (Do o)) ≡ Ended → ⊥
  own_goes_on g zero Rest e = cc
  own_goes_on g (suc n) Rest e = cc
  own_goes_on g n (Enter E) e = cc
  own_goes_on g n (Read o i) e = cc
  own_goes_on g n (Write o i v) e = cc
  own_goes_on g n (Look o) e = cc
  own_goes_on g n (New t c) e = cc
  own_goes_on g n (Print bytes) e = cc
  own_goes_on g n Exit e = cc

  begin_goes_on : (g : Mode N M) (n b : ℕ) → following g (Next n (Begin b)) ≡ Ended → ⊥
  begin_goes_on Free n b e = cc
  begin_goes_on (Forked ts k) n b e = cc
  begin_goes_on Rested n b e = cc
  begin_goes_on Ended n b e = cc

  ended_by : (g : Mode N M) (n : ℕ) (c : Action N M (Task N M)) → following g (Next n c) ≡ Ended → (x : Ending N) × (c ≡ End x)
  ended_by g n (Do o) e = absurd (own_goes_on g n o e)
  ended_by g n (Fork ts) e = absurd (cc)
  ended_by g n (Begin b) e = absurd (begin_goes_on g n b e)
  ended_by g n Join e = absurd (cc)
  ended_by g n (End x) e = (x, refl)

  -- and a fork alone is in front of its branches
  own_forks : (g : Mode N M) (n : ℕ) (o : Own N M) (ts : Branches (Task N M)) (b : ℕ) → following g (Next n (Do o)) ≡ Forked ts b → ⊥
  own_forks g zero Rest ts b e = cc
  own_forks g (suc n) Rest ts b e = cc
  own_forks g n (Enter E) ts b e = cc
  own_forks g n (Read o i) ts b e = cc
  own_forks g n (Write o i v) ts b e = cc
  own_forks g n (Look o) ts b e = cc
  own_forks g n (New t c) ts b e = cc
  own_forks g n (Print bytes) ts b e = cc
  own_forks g n Exit ts b e = cc

  begins_after : (g : Mode N M) (n k : ℕ) (ts : Branches (Task N M)) (b : ℕ) → following g (Next n (Begin k)) ≡ Forked ts b
      → (c : ℕ) × (b ≡ suc c) × (g ≡ Forked ts c)
  begins_after Free n k ts b e = absurd (cc)
  begins_after (Forked us c) n k ts b e = let i : us ≡ ts = cc in (c, cc, ap (λ vs. Forked vs c) i)
  begins_after Rested n k ts b e = absurd (cc)
  begins_after Ended n k ts b e = absurd (cc)

  join_mode : (g : Mode N M) (n : ℕ) → May g (Next n Join) → (ts : Branches (Task N M)) × (g ≡ Forked ts (length ts.tasks))
  join_mode Free n h = absurd h
  join_mode (Forked ts b) n (inl h) = let e = h.1 in absurd (cc)
  join_mode (Forked ts b) n (inr h) = (ts, ap (λ c. Forked ts c) h.0)
  join_mode Rested n h = let e = h.1 in absurd (cc)
  join_mode Ended n h = absurd (cc)

  begin_mode : (g : Mode N M) (n b : ℕ) → May g (Next n (Begin b)) → (ts : Branches (Task N M)) × (b < length ts.tasks) × (g ≡ Forked ts b)
  begin_mode Free n b h = absurd h
  begin_mode (Forked ts c) n b (inl h) = let e = h.1 in let i : c ≡ b = cc in (ts, subst (λ k. k < length ts.tasks) i h.0, ap (λ k. Forked ts k) i)
  begin_mode (Forked ts c) n b (inr h) = let e = h.1 in absurd (cc)
  begin_mode Rested n b h = let e = h.1 in absurd (cc)
  begin_mode Ended n b h = absurd (cc)

  few_of : (g : Mode N M) (n : ℕ) (a : Action N M (Task N M)) → May g (Next n a) → n ≤ most_ticks
  few_of Free n (Do o) (inl l) = omega arith
  few_of Free n (Do o) (inr h) = omega (arith, h.0)
  few_of Free n (Fork ts) l = omega arith
  few_of Free n (Begin b) h = absurd h
  few_of Free n Join h = absurd h
  few_of Free n (End x) l = omega arith
  few_of (Forked ts b) n a (inl h) = let e = h.1 in let i : n ≡ 0 = cc in omega arith
  few_of (Forked ts b) n a (inr h) = let e = h.1 in let i : n ≡ 0 = cc in omega arith
  few_of Rested n a h = let e = h.1 in let i : n ≡ 0 = cc in omega arith
  few_of Ended n a h = absurd (cc)

  rest_of : (g : Mode N M) (a : Action N M (Task N M)) → May g (Next most_ticks a) → a ≡ Do Rest
  rest_of Free (Do o) (inl l) = absurd (omega arith)
  rest_of Free (Do o) (inr h) = h.1
  rest_of Free (Fork ts) l = absurd (omega arith)
  rest_of Free (Begin b) h = absurd h
  rest_of Free Join h = absurd h
  rest_of Free (End x) l = absurd (omega arith)
  rest_of (Forked ts b) a (inl h) = let e = h.1 in let i : most_ticks ≡ 0 = cc in let p = most_pos in absurd (omega arith)
  rest_of (Forked ts b) a (inr h) = let e = h.1 in let i : most_ticks ≡ 0 = cc in let p = most_pos in absurd (omega arith)
  rest_of Rested a h = let e = h.1 in let i : most_ticks ≡ 0 = cc in let p = most_pos in absurd (omega arith)
  rest_of Ended a h = absurd (cc)

  module _ (m : Replies N M) (may : Keeps m) where
    -- after one more answer
    then_may : (got : List (Answer N M)) (a : Answer N M) (r : Reply N M (Task N M)) → m got ≡ r → May (following (mode m got) r) (m (a ∷ got))
    then_may got a r e = subst (λ s. May (following (mode m got) s) (m (a ∷ got))) e (may (a ∷ got))

    begins_or_joins : (got : List (Answer N M)) (ts : Branches (Task N M)) (k : ℕ) → mode m got ≡ Forked ts k
        → ((k < length ts.tasks) × (m got ≡ Next 0 (Begin k))) ⊎ ((k ≡ length ts.tasks) × (m got ≡ Next 0 Join))
    begins_or_joins got ts k e = subst (λ g. May g (m got)) e (may got)

    forked_since : (since got : List (Answer N M)) (ts : Branches (Task N M)) (k : ℕ) → Asks m got (Fork ts) → length since ≡ suc k
        → k ≤ length ts.tasks
        → mode m (since ++ got) ≡ Forked ts k
    forked_since [] got ts k a l h = absurd (omega arith)
    forked_since (x ∷ []) got ts zero a l h = ap (λ r. following (mode m got) r) a.1
    forked_since (x ∷ []) got ts (suc k) a l h = absurd (omega arith)
    forked_since (x ∷ (y ∷ ys)) got ts zero a l h = absurd (omega arith)
    forked_since (x ∷ (y ∷ ys)) got ts (suc k) a l h =
        (let e = forked_since (y ∷ ys) got ts k a (omega arith) (omega arith) in at e (begins_or_joins ((y ∷ ys) ++ got) ts k e))
      where
        at : mode m ((y ∷ ys) ++ got) ≡ Forked ts k
            → ((k < length ts.tasks) × (m ((y ∷ ys) ++ got) ≡ Next 0 (Begin k))) ⊎ ((k ≡ length ts.tasks) × (m ((y ∷ ys) ++ got) ≡ Next 0 Join))
            → following (mode m ((y ∷ ys) ++ got)) (m ((y ∷ ys) ++ got)) ≡ Forked ts (suc k)
        at e (inl b) = ap (λ g. following g (m ((y ∷ ys) ++ got))) e ∙ ap (λ r. following (Forked ts k) r) b.1
        at e (inr j) = let i = j.0 in absurd (omega arith)

    pub disciplined : Disciplined m
    disciplined = record {
      over = λ got x a e. then_may got a (Next e.0 (End x)) e.1;
      begins = λ got since ts k a l h. at_begin _ _ h (begins_or_joins _ ts k (forked_since since got ts k a l (omega arith)));
      joins = λ got since ts a l. at_join _ (begins_or_joins _ ts (length ts.tasks) (forked_since since got ts (length ts.tasks) a l (omega arith)));
    }
      where
        at_begin : (k n : ℕ) {X Y : Type 0} → k < n → ((k < n) × X) ⊎ ((k ≡ n) × Y) → X
        at_begin k n h (inl b) = b.1
        at_begin k n h (inr j) = let i = j.0 in absurd (omega arith)

        at_join : (n : ℕ) {X Y : Type 0} → ((n < n) × X) ⊎ ((n ≡ n) × Y) → Y
        at_join n (inl b) = let i = b.0 in absurd (omega arith)
        at_join n (inr j) = j.1

    -- a task that stands after a fork has come by it
    after_fork : (got : List (Answer N M)) (ts : Branches (Task N M)) (b : ℕ) → mode m got ≡ Forked ts b → AfterFork m got ts b
    after_fork [] ts b e = absurd (cc)
    after_fork (x ∷ got) ts b e = at (λ c i. after_fork got ts c i) (m got) refl e
      where
        -- one begin later
        later : (c : ℕ) → b ≡ suc c → AfterFork m got ts c → AfterFork m (x ∷ got) ts b
        later c i a = record {
          since = x ∷ a.since;
          answer = a.answer;
          earlier = a.earlier;
          is = ap (λ l. x ∷ l) a.is;
          number = ap suc a.number ∙ sym i;
          forks = a.forks;
        }

        at : ((c : ℕ) → mode m got ≡ Forked ts c → AfterFork m got ts c) → (r : Reply N M (Task N M)) → m got ≡ r → following (mode m got) r ≡ Forked ts b
            → AfterFork m (x ∷ got) ts b
        at more (Next n (Do o)) i h = absurd (own_forks (mode m got) n o ts b h)
        at more (Next n (Fork us)) i h =
            let j : us ≡ ts = cc in
            let k : 0 ≡ b = cc in
            record { since = []; answer = x; earlier = got; is = refl; number = k; forks = (n, i ∙ ap (λ vs. Next n (Fork vs)) j) }
        at more (Next n (Begin k)) i h = let c = begins_after (mode m got) n k ts b h in later c.0 c.1 (more c.0 c.2)
        at more (Next n Join) i h = absurd (cc)
        at more (Next n (End y)) i h = absurd (cc)
        at more Over i h = let o = over_ended (mode m got) (subst (λ r. May (mode m got) r) i (may got)) in absurd (cc)
        at more Unknown i h = absurd (no_unknown (mode m got) (subst (λ r. May (mode m got) r) i (may got)))

    asked_at : (got : List (Answer N M)) (r : Reply N M (Task N M)) → m got ≡ r → May (mode m got) r
    asked_at got r e = subst (λ s. May (mode m got) s) e (may got)

    pub lively : Lively m
    lively = record {
      known = λ got e. no_unknown (mode m got) (asked_at got Unknown e);
      starts = λ e. asked_at [] Over e;
      goes_on = λ got a c e o.
          ended_by (mode m got) e.0 c (over_ended _ (subst (λ r. May (following (mode m got) (Next e.0 c)) r) o (then_may got a (Next e.0 c) e.1)));
      joins_forked = λ got e. (let j = join_mode (mode m got) e.0 (asked_at got (Next e.0 Join) e.1) in (j.0, after_fork got j.0 (length j.0.tasks) j.1));
    }

    pub in_turn : InTurn m
    in_turn = record {
      begins_forked = λ got b e. (let j = begin_mode (mode m got) e.0 b (asked_at got (Next e.0 (Begin b)) e.1) in (j.0, j.1, after_fork got j.0 b j.2));
    }

    pub paced : Paced m
    paced = record {
      enters = λ got a e. then_may got a (Next 0 (Do Rest)) e;
      few = λ got n a e. few_of (mode m got) n a (asked_at got (Next n a) e);
      rests = λ got a e. rest_of (mode m got) a (asked_at got (Next most_ticks a) e);
    }

  replied_is : (k : Work) (o : Out N M (Result N M) (Reported N M)) → finish o (λ r w. ending (ended k r) w.since w.to_come) ≡ replied k o
  replied_is k (Done r w) = refl
  replied_is k (Trapped trap p w) = refl
  replied_is k (Stopped n a) = refl
  replied_is k (Lost w) = refl

  module _ (names : Naming N M) (P : PlainProgram) (t : Task N M) where
    abbrev heard : Replies N M
    heard xs =
        replied t.work (run (reported names) (meaning names P t.frame.left t.work.stmts (begun t.work.takes t.frame)) (record {
          since =
              0;
          made = 0;
          to_come = xs;
        }))

    heard_goes : (d : ℕ) → Goes d Free heard
    heard_goes d =
        (let p = most_pos in
        let fine =
        all_fine names (meaning names P t.frame.left t.work.stmts (begun t.work.takes t.frame))
        (steady_meaning names P t.frame.left t.work.stmts (begun t.work.takes t.frame)) in
        let good : Good (suc (most_ticks * d + most_ticks)) Free
        (λ w. replied t.work (run (reported names) (meaning names P t.frame.left t.work.stmts (begun t.work.takes t.frame)) w)) =
        good_same (λ w l. replied_is t.work _) (fine.good _ (λ r w. ending (ended t.work r) w.since w.to_come) (λ r. good_end (ended t.work r))) in
        good.from d 0 0 p tt (omega arith))

    pub ask_keeps : Keeps (ask names P t)
    unfolding ask
    ask_keeps = keeps heard heard_goes

  pub asks_disciplined : IsDisciplined N M
  asks_disciplined names P t = disciplined (ask names P t) (ask_keeps names P t)

  pub asks_lively : IsLively N M
  asks_lively names P t = lively (ask names P t) (ask_keeps names P t)

  pub asks_in_turn : IsInTurn N M
  asks_in_turn names P t = in_turn (ask names P t) (ask_keeps names P t)

  pub asks_paced : IsPaced N M
  asks_paced names P t = paced (ask names P t) (ask_keeps names P t)
