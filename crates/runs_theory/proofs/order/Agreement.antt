-- Two legal runs without conflicts agree.
use Rattle.std.proofs.Common.{append-nil, ◌≡◌, ℕ, ℤ, pos, Option, Some, None, suc, ◌<◌, ◌≤◌, ◌⊎◌, inl, inr, ⊎_elim, [], ◌∷◌, ◌++◌, length, refl, sym, ap}
use Rattle.std.proofs.Common.{◌∙◌, subst, arith}
use Rattle.std.proofs.lemmas.Bool.{cases_lt}
use Rattle.std.proofs.Common.{◌+◌, length-append}
use Rattle.runs_theory.specs.Actions.{Action, Answer, Begin, Do, End, Ending, Enter, Exit, Fork, Got, Join, Look, Named, New, Own, Print, Program, Read, Rest}
use Rattle.runs_theory.specs.Actions.{Write}
use Rattle.runs_theory.specs.Meaning.{Disciplined}
use Rattle.runs_theory.specs.Objects.{Cell, Name, Path, Thing, first_value, or_else, size, slot_of}
use Rattle.runs_theory.specs.Order.{Agree, Free, Reads}
use Rattle.runs_theory.specs.Runs.{Ended, Event, Faithful, Joins, Right, Run, Upto, answered_by, at_start, count, joined, later, mine, now, read_at, reply, seen}
use Rattle.runs_theory.specs.Runs.{thing_of, things, value_in, wrote_at}
use Rattle.runs_theory.proofs.events.Upto.{upto_all, upto_trans, upto_length, upto_next, upto_same, upto_tail}
use Rattle.runs_theory.proofs.events.Mine.{path_cases, mine_nil, mine_step, mine_same, mine_other, mine_at, Found, found, same_of, number_of, numbered}
use Rattle.runs_theory.proofs.runs.Faithful.{one_fork, agree_self, carry, same_act, faithful_upto, none_after_end}
use Rattle.runs_theory.proofs.order.Between.{agree_back, ended_longer, complete}
use Rattle.runs_theory.proofs.events.Things.{answering, same_some, same_thing}
use Rattle.runs_theory.proofs.events.Cells.{got_in, slot_is}
use Rattle.runs_theory.proofs.order.Compare.{free_upto, agree_upto, same_last, same_list}

pub same_event : (e f : Event) → e.path ≡ f.path → e.ticks ≡ f.ticks → e.act ≡ f.act → e.ans ≡ f.ans → e ≡ f
same_event e f a n b c = λ i. record { path = a i; ticks = n i; act = b i; ans = c i }

module _ (P : Program) (D : Disciplined P) where
  -- a task ends in one way
  pub same_end : {R S : Run} {x y : Ending} (p : Path) → Faithful P R → Faithful P S → Agree R S → Ended R p x → Ended S p y → x ≡ y
  same_end {R} {S} {x} {y} p l m ag g h =
      let a = ended_longer P D p l ag h g.stands g.path in
      let c = carry p ag g.stands g.path a in
      let k1 = none_after_end P D p m c.stands c.path g.act h.stands h.path in
      let k2 = none_after_end P D p m h.stands h.path h.act c.stands c.path in
      let o = same_of p c.stands h.stands c.path h.path (omega arith) in
      let e : End x ≡ End y = sym g.act ∙ ap (λ z. z.act) o.0 ∙ h.act in
      cc

  pub same_joins : {R S : Run} {a b : Answer} (p : Path) → Faithful P R → Faithful P S → Agree R S → mine R p ≡ mine S p → Joins R p a → Joins S p b → a ≡ b
  same_joins {R} {S} {a} {b} p l m ag ms j k = j.answer ∙ ap joined ends ∙ sym k.answer
    where
      own_count : {T : Run} {c : Answer} (r : Joins T p c) → count T p ≡ suc (count r.before p + length r.tasks.tasks)
      own_count r = let u = ap length r.last in let v = length-append r.since (r.fork ∷ mine r.before p) in let w = r.all_begun in omega arith

      sizes : count R p ≡ count S p
      sizes = ap length ms

      c : Found S p j.fork (mine j.before p)
      c = let u = own_count j in let s = sizes in carry p ag j.stands j.path (omega arith)

      one : (k.fork ≡ j.fork) × (k.before ≡ c.before)
      one = one_fork P D p j.tasks m c.stands c.path j.act now (let u = own_count j in let s = sizes in let v = ap length c.mine_is in omega arith) k

      tasks : length j.tasks.tasks ≡ length k.tasks.tasks
      tasks = let t : Fork j.tasks ≡ Fork k.tasks = sym j.act ∙ ap (λ e. e.act) (sym one.0) ∙ k.act in let u : j.tasks ≡ k.tasks =
          cc in ap (λ b. length b.tasks) u

      number : count j.before p ≡ count k.before p
      number = sym (ap length c.mine_is) ∙ ap (λ B. count B p) (sym one.1)

      ends : j.ends ≡ k.ends
      ends = same_list j.ends k.ends (j.each ∙ tasks ∙ sym k.each)
          (λ n x y u v. same_end ((count j.before p, n) ∷ p) l m ag (j.ended (count j.before p, n) x refl u) (k.ended (count j.before p, n) y number v))

  -- the next event of a task is one
  pub next_event : {R T : Run} {e f : Event} → Faithful P (e ∷ R) → Faithful P (f ∷ T) → Free (e ∷ R) → Free (f ∷ T) → Agree R T → e.path ≡ f.path
      → mine R f.path ≡ mine T f.path → e ≡ f
  next_event {R} {T} {e} {f} l m fr ft ag pe ms = same_event e f pe both.0 act (answer e.act refl)
    where
      both : (e.ticks ≡ f.ticks) × (e.act ≡ f.act)
      both = same_act P f.path ag now now l.0 m.0 pe refl ms

      act : e.act ≡ f.act
      act = both.1

      right_e : (a : Action) → e.act ≡ a → Right P R f.path a e.ans
      right_e a k = subst (λ c. Right P R f.path c e.ans) k (subst (λ p. Right P R p e.act e.ans) pe l.0.right)

      right_f : (a : Action) → e.act ≡ a → Right P T f.path a f.ans
      right_f a k = subst (λ c. Right P T f.path c f.ans) (sym act ∙ k) m.0.right

      same_own : (o : Own) → e.act ≡ Do o → reply P R f.path o ≡ reply P T f.path o → e.ans ≡ f.ans
      same_own o k h = same_some (right_e (Do o) k) (h ∙ right_f (Do o) k)

      -- of what has a name in both
      by_thing : (n : Name) (g h : Thing → Answer) → answered_by (thing_of P R n) g ≡ Some e.ans → answered_by (thing_of P T n) h ≡ Some f.ans
          → ((t : Thing) → thing_of P R n ≡ Some t → thing_of P T n ≡ Some t → e.ans ≡ g t → f.ans ≡ h t → e.ans ≡ f.ans) → e.ans ≡ f.ans
      by_thing n g h a b each =
          let x = answering g (thing_of P R n) e.ans a in
          let y = answering h (thing_of P T n) f.ans b in
          let s : y.thing ≡ x.thing = sym (same_thing P n x.thing y.thing ag x.is_there y.is_there) in
          each x.thing x.is_there (subst (λ t. thing_of P T n ≡ Some t) s y.is_there) x.answer (y.answer ∙ ap h s)

      read_same : (n : Name) (i : ℤ) → e.act ≡ Do (Read n i) → (t : Thing) → thing_of P R n ≡ Some t → thing_of P T n ≡ Some t
          → (o : Option ℕ) → slot_of i (size t) ≡ o → e.ans ≡ read_at R t n o → f.ans ≡ read_at T t n o → e.ans ≡ f.ans
      read_same n i k t tr ts None h a b = a ∙ sym b
      read_same n i k t tr ts (Some slot) h a b =
          a ∙ ap (λ v. Got (or_else v (first_value t slot))) (same_last P D l m fr ft ag pe ms act c reads_e reads_f) ∙ sym b
        where
          c : Cell
          c = record { object = n; slot = slot }

          index : i ≡ pos slot
          index = slot_is i (size t) slot h

          reads_e : Reads c e
          reads_e = record { act = k ∙ ap (λ j. Do (Read n j)) index; in_bounds = λ out. got_in (value_in R t c) (sym a ∙ out) }

          reads_f : Reads c f
          reads_f = record { act = sym act ∙ k ∙ ap (λ j. Do (Read n j)) index; in_bounds = λ out. got_in (value_in T t c) (sym b ∙ out) }

      answer : (a : Action) → e.act ≡ a → e.ans ≡ f.ans
      answer (Do Rest) k = same_own Rest k refl
      answer (Do (Read n i)) k = by_thing n (λ t. read_at R t n (slot_of i (size t))) (λ t. read_at T t n (slot_of i (size t))) (right_e (Do (Read n i)) k)
          (right_f (Do (Read n i)) k)
          (λ t tr ts a b. read_same n i k t tr ts (slot_of i (size t)) refl a b)
      answer (Do (Write n i v)) k = by_thing n (λ t. wrote_at (slot_of i (size t))) (λ t. wrote_at (slot_of i (size t))) (right_e (Do (Write n i v)) k)
          (right_f (Do (Write n i v)) k) (λ t tr ts a b. a ∙ sym b)
      answer (Do (Look n)) k = by_thing n seen seen (right_e (Do (Look n)) k) (right_f (Do (Look n)) k) (λ t tr ts a b. a ∙ sym b)
      answer (Do (New t c)) k = same_own (New t c) k (ap (λ es. Some (Named (record { maker = f.path; count = length (at_start P f.path ++ things es) }))) ms)
      answer (Do (Print l)) k = same_own (Print l) k refl
      answer (Do (Enter E)) k = same_own (Enter E) k refl
      answer (Do Exit) k = same_own Exit k refl
      answer (Fork ts) k = right_e (Fork ts) k ∙ sym (right_f (Fork ts) k)
      answer (Begin b) k = right_e (Begin b) k ∙ sym (right_f (Begin b) k)
      answer Join k = same_joins f.path l.1 m.1 ag ms (right_e Join k) (right_f Join k)
      answer (End x) k = right_e (End x) k ∙ sym (right_f (End x) k)

  -- the comparison lemma
  pub agree : (R S : Run) → Faithful P R → Faithful P S → Free R → Free S → Agree R S
  agree [] S l m fr fs = record { both = λ p. inl (subst (λ r. Upto r (mine S p)) (sym (mine_nil p)) (upto_all (mine S p))) }
  agree (e ∷ R) S l m fr fs = go (agree R S l.1 m (free_upto (later now) fr) fs)
    where
      go : Agree R S → Agree (e ∷ R) S
      go ag = record { both = λ p. ⊎_elim (here p) (other p) (path_cases e.path p) }
        where
          other : (p : Path) → (e.path ≡ p → ⊥) → Upto (mine (e ∷ R) p) (mine S p) ⊎ Upto (mine S p) (mine (e ∷ R) p)
          other p ne = subst (λ r. Upto r (mine S p) ⊎ Upto (mine S p) r) (sym (mine_other e R p ne)) (ag.both p)

          one_more : (p : Path) (f : Event) → e.path ≡ p → Found S p f (mine R p) → Upto (mine (e ∷ R) p) (mine S p)
          one_more p f k h =
              let fe : e ≡ f = next_event l (faithful_upto P h.stands m) fr (free_upto h.stands fs) (agree_upto (upto_tail h.stands) ag) (k ∙ sym h.path)
              (subst (λ q. mine R q ≡ mine h.before q) (sym h.path) (sym h.mine_is)) in
              let u = mine_at p h.stands h.path in
              let v : f ∷ mine h.before p ≡ mine (e ∷ R) p = ap (λ g. g ∷ mine h.before p) (sym fe) ∙ ap (λ r. e ∷ r) h.mine_is ∙ sym (mine_same e R p k) in
              subst (λ r. Upto r (mine S p)) v u

          longer : (p : Path) → e.path ≡ p → Upto (mine R p) (mine S p) → (count R p < count S p) ⊎ (count S p ≤ count R p)
              → Upto (mine (e ∷ R) p) (mine S p) ⊎ Upto (mine S p) (mine (e ∷ R) p)
          longer p k u (inl n) = let f = upto_next u n in inl (one_more p f.0 k (found S p f.1))
          longer p k u (inr n) = let g = upto_length u in let s = upto_same u (omega arith) in inr (subst (λ r. Upto r (mine (e ∷ R) p)) s (mine_step e R p))

          here : (p : Path) → e.path ≡ p → Upto (mine (e ∷ R) p) (mine S p) ⊎ Upto (mine S p) (mine (e ∷ R) p)
          here p k = ⊎_elim (λ u. longer p k u (cases_lt (count R p) (count S p))) (λ u. inr (upto_trans u (mine_step e R p))) (ag.both p)

  -- an end is the last event of its task
  end_count : {R : Run} {x : Ending} (p : Path) → Faithful P R → (g : Ended R p x) → count R p ≡ suc (count g.before p)
  end_count {R} p l g = ⊎_elim far (λ h. (let n = number_of p g.stands g.path in omega arith)) (cases_lt (suc (count g.before p)) (count R p))
    where
      far : suc (count g.before p) < count R p → count R p ≡ suc (count g.before p)
      far h = let z = numbered R p (suc (count g.before p)) h in let k = none_after_end P D p l g.stands g.path g.act z.2 z.3 in let n =
          z.4 in absurd (omega arith)

  both_ended : {R S : Run} {x y : Ending} (p : Path) → Faithful P R → Faithful P S → Agree R S → Ended R p x → Ended S p y → mine R p ≡ mine S p
  both_ended {R} {S} p l m ag g h =
      let a = end_count p l g in
      let b = end_count p m h in
      let c = carry p ag g.stands g.path (ended_longer P D p l ag h g.stands g.path) in
      let d = carry p (agree_back ag) h.stands h.path (ended_longer P D p m (agree_back ag) g h.stands h.path) in
      let k1 = none_after_end P D p m h.stands h.path h.act c.stands c.path in
      let k2 = none_after_end P D p l g.stands g.path g.act d.stands d.path in
      let n1 = ap length c.mine_is in
      let n2 = ap length d.mine_is in
      let e : count R p ≡ count S p = omega arith in
      ⊎_elim (λ u. upto_same u e) (λ u. sym (upto_same u (sym e))) (ag.both p)

  -- of two runs whose root has ended each task has made the same events in both
  pub same_all : {R S : Run} {x y : Ending} → Faithful P R → Faithful P S → Agree R S → Ended R [] x → Ended S [] y → (p : Path) → mine R p ≡ mine S p
  same_all {R} {S} l m ag g h p = go (cases_lt 0 (count R p)) (cases_lt 0 (count S p))
    where
      at_root : (w : Event) → w.path ≡ p → w.path ≡ p ++ []
      at_root w e = e ∙ sym (append-nil p)

      here : {T : Run} → ((q : Path) → (y : Ending) × Ended T q y) → (y : Ending) × Ended T p y
      here f = f p

      from_R : (0 < count R p) → mine R p ≡ mine S p
      from_R n =
          let z = numbered R p 0 n in
          let a = complete P D [] l l (agree_self R) g p z.1 z.0 z.2 (at_root z.0 z.3) in
          let b = complete P D [] l m ag h p z.1 z.0 z.2 (at_root z.0 z.3) in
          let q = append-nil p in
          both_ended p l m ag (subst (λ r. Ended R r a.0) q a.1) (subst (λ r. Ended S r b.0) q b.1)

      from_S : (0 < count S p) → mine R p ≡ mine S p
      from_S n =
          let z = numbered S p 0 n in
          let a = complete P D [] m m (agree_self S) h p z.1 z.0 z.2 (at_root z.0 z.3) in
          let b = complete P D [] m l (agree_back ag) g p z.1 z.0 z.2 (at_root z.0 z.3) in
          let q = append-nil p in
          both_ended p l m ag (subst (λ r. Ended R r b.0) q b.1) (subst (λ r. Ended S r a.0) q a.1)

      nothing : (xs ys : Run) → length xs ≤ 0 → length ys ≤ 0 → xs ≡ ys
      nothing [] [] a b = refl
      nothing [] (y ∷ ys) a b = absurd (omega arith)
      nothing (x ∷ xs) ys a b = absurd (omega arith)

      go : (0 < count R p) ⊎ (count R p ≤ 0) → (0 < count S p) ⊎ (count S p ≤ 0) → mine R p ≡ mine S p
      go (inl n) k = from_R n
      go (inr n) (inl k) = from_S k
      go (inr n) (inr k) = nothing (mine R p) (mine S p) n k
