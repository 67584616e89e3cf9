-- Work that is in order is in order answer by answer, and tells at each entry how many local regions it has made: by recursion on it.
use Rattle.std.proofs.Common.{◌≡◌, ◌≤◌, ℕ, zero, suc, ◌+◌, ◌*◌, Bool, true, false, List, [], ◌∷◌, length, refl, sym, ap, ◌∙◌, subst, arith, le_trans}
use Rattle.lang_typed.specs.Plain.{PlainProgram}
use Rattle.lang_typed.specs.Scope.{Scope}
use Rattle.lang_meaning.specs.Actions.{Work}
use Rattle.lang_meaning.specs.Asking.{most_ticks, asked, ticked, begins_then, reported_join, ending, ended, replied}
use Rattle.lang_meaning.specs.Core.{Goes_on, Returns, Ret, Traps, Act, Makes, Again, Split, Done, Trapped as Fallen, Stopped, Lost, bind, tested, rounded, run}
use Rattle.lang_meaning.specs.Counts.{truth}
use Rattle.lang_meaning.proofs.Ticks.{most_pos, past_test, bind_done}
use Rattle.runs_theory.specs.Actions.{Task, Fork, Reply, Trapped, Own, Rest, Read, Write, Look, New, Print, Enter, Exit}
use Rattle.runs_theory.specs.Objects.{Made}
use Rattle.runs_program.specs.Steps.{named_by}
use Rattle.runs_sound.specs.Settings.{Setting}
use Rattle.runs_sound.specs.Accesses.{Bounds, Entry}
use Rattle.runs_sound.specs.Counting.{counting}
use Rattle.runs_sound.specs.Frames.{Frame, State, Since, FrameFits}
use Rattle.runs_sound.specs.Soundness.{EndFits}
use Rattle.runs_sound.specs.Work.{Result, Prog, EnteredBefore, After as AfterOwn, AfterMaking, Rounds, InOrder, entries_after, without_latest}
use Rattle.runs_sound.proofs.work.NdFree.{Entries, Back, IsNdFree}
use Rattle.runs_sound.proofs.scopes.Frames.{frame_since}
use Rattle.runs_sound.proofs.moments.Moments.{Reported, Out, finish, at, having_made, Goes, goes_same, goes_making, reported_on, Good, good_same, good_less, good_end, bind_bind, finish_bind, good_own, good_tick, good_fork}
use Rattle.runs_sound.proofs.numbers.Small.{AreSmall, small_answers, small_brings}
use Rattle.runs_sound.proofs.work.Counting.{again_counting, loops_counting}
use Rattle.runs_sound.proofs.work.Work.{since_now, since_since}

before_more : (m n : ℕ) → m ≤ n → (Es : List Entry) → EnteredBefore m Es → EnteredBefore n Es
before_more m n l [] h = tt
before_more m n l (E ∷ Es) h = (le_trans h.0 l, before_more m n l Es h.1)

-- later, entries were made as early
before_same : (s t : State) → s.made ≤ t.made → t.entries ≡ s.entries → EnteredBefore s.made s.entries → EnteredBefore t.made t.entries
before_same s t l e h = subst (EnteredBefore t.made) (sym e) (before_more s.made t.made l s.entries h)

before_since : {s t : State} → Since s t → EnteredBefore s.made s.entries → EnteredBefore t.made t.entries
before_since {s} {t} h b = before_same s t h.made h.entries b

before_after : {s t : State} (o : Own) → AfterOwn o s t → EnteredBefore s.made s.entries → EnteredBefore t.made t.entries
before_after {s} {t} o a b = subst (λ n. EnteredBefore n t.entries) (sym a.made) (subst (EnteredBefore s.made) (sym a.entries) (by o s.entries b))
  where
    left : (Es : List Entry) → EnteredBefore s.made Es → EnteredBefore s.made (without_latest Es)
    left [] h = tt
    left (E ∷ Es) h = h.1

    by : (o : Own) (Es : List Entry) → EnteredBefore s.made Es → EnteredBefore s.made (entries_after s.made o Es)
    by (Enter E) Es h = (omega arith, h)
    by Exit Es h = left Es h
    by Rest Es h = h
    by (Read n i) Es h = h
    by (Write n i v) Es h = h
    by (Look n) Es h = h
    by (New thing constructor) Es h = h
    by (Print bytes) Es h = h

module _ (P : PlainProgram) (b : Bounds) (L : Scope) (copies : List ℕ) where
  -- it is in order from this state, whatever follows where this holds
  record Fine (Q : State → Result → Type 0) (st : State) (p : Prog) : Type 0 where
    pub good : (n : ℕ) (K : Result → Reported → Reply) → ((h : State) (r : Result) → Q h r → Good P b L copies n (at h) (K r)) →
        Good P b L copies n (at st) (λ w. finish (run (counting (named_by b.path)) p w) K)

  -- a loop from a state, and a test and a body that are in order from each later one in which the locals fit
  module _ (M : Scope) (g : Setting) (st : State) (c : Bool) (t s : Frame → Prog)
      (ht : (h : State) (e : Frame) → Since st h → FrameFits P b.path h g M e → AreSmall e.values → Fine (λ u r. Rounds P b.path h g M u r × Back st.entries c u.entries r) h (t e))
      (hs : (h : State) (e : Frame) → Since st h → FrameFits P b.path h g M e → AreSmall e.values → Fine (λ u r. Rounds P b.path h g M u r × Back st.entries c u.entries r) h (s e)) where
    abbrev Round : State → State → Result → Type 0
    Round h u r = Rounds P b.path h g M u r × Back st.entries c u.entries r

    abbrev After : ℕ → (Result → Reported → Reply) → Type 0
    After n K = (h : State) (r : Result) → Round st h r → Good P b L copies n (at h) (K r)

    less : {n : ℕ} {K : Result → Reported → Reply} → After (suc n) K → After n K
    less k = λ h r z. good_less P b L copies (omega arith) (k h r z)

    good_past : (n : ℕ) (K : Result → Reported → Reply) → After (suc n) K →
        ((h : State) (e : Frame) → Since st h → FrameFits P b.path h g M e → AreSmall e.values → Good P b L copies n (at h) (λ w. finish (again_counting (named_by b.path) t s e w) K)) →
        (h u : State) → Since st h → (r : Result) → Round h u r →
        Good P b L copies (suc n) (at u) (λ w. finish (tested ticked (λ e v. run (counting (named_by b.path)) (s e) v) (λ e v. again_counting (named_by b.path) t s e v) r w) K)
    good_past n K k more h u since (Returns v) y = k u (Returns v) ((since_since since y.0.0, y.0.1), y.1)
    good_past n K k more h u since (Goes_on v e) y = go (truth v)
      where
        on_round : (z w : State) → Since st z → (r : Result) → Round z w r → Good P b L copies n (at w) (λ x. finish (rounded (λ e v. again_counting (named_by b.path) t s e v) r x) K)
        on_round z w zs (Returns x) q = good_less P b L copies (omega arith) (k w (Returns x) ((since_since zs q.0.0, q.0.1), q.1))
        on_round z w zs (Goes_on x f) q = more w f (since_since zs q.0.0) q.0.1 q.1.2.1

        go : (c : Bool) → Good P b L copies (suc n) (at u) (λ w. finish (past_test (λ e v. run (counting (named_by b.path)) (s e) v) (λ e v. again_counting (named_by b.path) t s e v) v e w c) K)
        go false = k u (Goes_on v e) ((since_since since y.0.0, y.0.1), y.1)
        go true =
            good_tick P b L copies u (λ x. bind (run (counting (named_by b.path)) (s e) x) (λ r q. rounded (λ e v. again_counting (named_by b.path) t s e v) r q)) K
            (λ z zs m. (let from : Since st z = since_since (since_since since y.0.0) zs in
            good_same P b L copies (λ w l. sym (finish_bind (run (counting (named_by b.path)) (s e) w) _ K))
            ((hs z e from (frame_since zs y.0.1) y.1.2.1).good n _ (λ w r q. on_round z w from r q))))

    good_loop : (n : ℕ) (K : Result → Reported → Reply) → After n K → (h : State) (e : Frame) → Since st h → FrameFits P b.path h g M e → AreSmall e.values →
        Good P b L copies n (at h) (λ w. finish (again_counting (named_by b.path) t s e w) K)
    good_loop zero K k h e since ff small = record { from = λ d x l r. absurd (omega arith) }
    good_loop (suc n) K k h e since ff small =
        good_same P b L copies (λ w l. sym (ap (λ o. finish o K) (loops_counting (named_by b.path) t s e w l) ∙ finish_bind (run (counting (named_by b.path)) (t e) w) _ K))
        ((ht h e since ff small).good (suc n) _ (λ u r y. good_past n K k (good_loop n K (less k)) h u since r y))

  walk : (Q : State → Result → Type 0) (R : Entries → Result → Type 0) (p : Prog) (st : State) → EnteredBefore st.made st.entries → InOrder P b Q st p → IsNdFree P b st.entries R p →
      Fine (λ h r. Q h r × R h.entries r) st p
  unfolding InOrder
  walk Q R (Ret r) st early o c = record { good = λ n K k. k st r (o, c) }
  walk Q R (Traps trap place) st early o c = record { good = λ n K k. good_end P b L copies (Trapped trap place) tt }
  walk Q R (Act a j) st early o c = record {
    good = λ n K k. good_own P b L copies st a _ K o.0 c.0
        (λ x u after fits. (walk Q R (j x) u (before_after a after early) (o.1 x u after fits) (subst (λ E. IsNdFree P b E R (j x)) (sym after.entries) (c.1 st.made x (small_answers P b st a o.0 x u fits)))).good n K k);
  }
  walk Q R (Makes j) st early o c = record {
    good = λ n K k. made n K
        (λ u after. (walk Q R (j (Made b.path st.made)) u (before_same st u (let m = after.made in omega (arith, m)) after.entries early) (o u after) (subst (λ E. IsNdFree P b E R (j (Made b.path st.made))) (sym after.entries) (c (Made b.path st.made)))).good n K k);
  }
    where
      made : (n : ℕ) (K : Result → Reported → Reply) → ((u : State) → AfterMaking st u → Good P b L copies n (at u) (λ w. finish (run (counting (named_by b.path)) (j (Made b.path st.made)) w) K)) →
          Good P b L copies n (at st) (λ w. finish (run (counting (named_by b.path)) (Makes j) w) K)
      made n K k = record {
        from = λ d t l r. goes_making P b L copies d st (suc st.made) _
            (goes_same P b L copies d (at (having_made (suc st.made) st)) _ _ (λ xs. ap (λ o. finish o K) (sym (bind_bind (ticked (reported_on t (suc st.made) xs)) _ _)))
            ((good_tick P b L copies (having_made (suc st.made) st) (λ v. run (counting (named_by b.path)) (j (Made b.path st.made)) v) K
            (λ u s m. k u (record { grows = s.grows; made = m; entries = s.entries; before = early }))).from d t l (omega arith)));
      }
  walk Q R (Again t s f j) st early o c = record {
    good = λ n K k.
        good_same P b L copies (λ w l. ap (λ z. finish z K) (ap (λ z. bind z (λ r v. run (counting (named_by b.path)) (j r) v)) (bind_done _)))
        (good_same P b L copies (λ w l. sym (finish_bind (again_counting (named_by b.path) t s f w) _ K))
        (good_loop o.0 o.1 st c.0 t s
        (λ h e since ff small. walk (Rounds P b.path h o.1 o.0) (Back st.entries c.0) (t e) h (before_since since early) (o.3 h e since ff) (subst (λ E. IsNdFree P b E (Back st.entries c.0) (t e)) (sym since.entries) (c.1 e small)))
        (λ h e since ff small. walk (Rounds P b.path h o.1 o.0) (Back st.entries c.0) (s e) h (before_since since early) (o.4 h e since ff) (subst (λ E. IsNdFree P b E (Back st.entries c.0) (s e)) (sym since.entries) (c.2 e small)))
        n _ (λ h r y. (walk Q R (j r) h (before_since y.0.0 early) (o.5 h r y.0) (subst (λ E. IsNdFree P b E R (j r)) (sym y.1.0) (c.3 r y.1.1 y.1.2))).good n K k) st f (since_now st) o.2 c.4));
  }
  walk Q R (Split forking ts bs j) st early o c = record {
    good = λ n K k.
        good_same P b L copies (λ w l. ap (λ z. finish z K)
        (sym (bind_bind (asked (Fork (record { kind = forking; tasks = ts })) w) (λ a v. begins_then 0 (length ts) reported_join v) (λ x v. run (counting (named_by b.path)) (j x) v))))
        (good_fork P b L copies st forking ts o.0 c.0 (λ x v. run (counting (named_by b.path)) (j x) v) K
        (λ x u since brings. (walk Q R (j x) u (before_since since early) (o.1 x u since brings) (subst (λ E. IsNdFree P b E R (j x)) (sym since.entries) (c.1 x (small_brings P b st forking ts o.0 u x brings)))).good n K k));
  }

  replied_is : (k : Work) (o : Out Result) → finish o (λ r w. ending (ended k r) w.since w.to_come) ≡ replied k o
  replied_is k (Done r w) = refl
  replied_is k (Fallen trap p w) = refl
  replied_is k (Stopped n a) = refl
  replied_is k (Lost w) = refl

  -- work that begins where it is in order
  pub work_goes : (Q : State → Result → Type 0) (R : Entries → Result → Type 0) (t : Task) (p : Prog) (st : State) → InOrder P b Q st p → IsNdFree P b st.entries R p → st.made ≡ 0 → st.entries ≡ [] →
      ((h : State) (r : Result) → Q h r → EndFits P b L copies h.shapes (ended t.work r)) → (d : ℕ) →
      Goes P b L copies d (at st) (λ xs. replied t.work (run (counting (named_by b.path)) p (reported_on 0 0 xs)))
  work_goes Q R t p st o c m none ends d =
      let z = most_pos in
      let fine = walk Q R p st (subst (EnteredBefore st.made) (sym none) tt) o c in
      let good = good_same P b L copies (λ w l. replied_is t.work (run (counting (named_by b.path)) p w))
      (fine.good (suc (most_ticks * d + most_ticks)) (λ r w. ending (ended t.work r) w.since w.to_come) (λ h r q. good_end P b L copies (ended t.work r) (ends h r q.0))) in
      subst (λ y. Goes P b L copies d (at st) (λ xs. replied t.work (run (counting (named_by b.path)) p (reported_on 0 y xs)))) m (good.from d 0 z (omega arith))
