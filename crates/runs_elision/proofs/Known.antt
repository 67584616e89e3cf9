-- In a legal run every name that occurs is that of something, so what a task acts on is there.
use Rattle.std.proofs.Common.{◌≡◌, ℕ, zero, suc, ◌⊎◌, inl, inr, ⊎_elim, ℤ, List, [], ◌∷◌, ◌++◌, length, refl, sym, ap, ◌∙◌, subst, arith, Option, Some, None}
use Rattle.std.proofs.Common.{Bool, slice_get, append_assoc}
use Rattle.std.proofs.lemmas.Option.{slice_get_past}
use Rattle.lang_typed.specs.Plain.{PlainProgram}
use Rattle.lang_meaning.specs.Actions.{Answer as AnswerOver, Ending as EndingOver, Own as OwnOver, Task as TaskOver}
use Rattle.lang_meaning.specs.Elision.{LocalRegion as Counted, in_order, root_task}
use Rattle.lang_meaning.specs.Values.{Value as ValueOver, Thing as ThingOver}
use Rattle.runs_theory.specs.Actions.{Action, Answer, Begin, Do, End, Ending, Fork, Join, Named, New, Next, Own, Program, Task, Went, Write}
use Rattle.runs_theory.specs.Objects.{Cell, Name, Path, Thing, Value, Null, first_value, or_else, size, slot_of}
use Rattle.runs_theory.specs.Runs.{Begun, Event, Faithful, Follows, Joins, Right, Run, Upto, answered_by, answers, at_start, branch, count, later, made, made_by}
use Rattle.runs_theory.specs.Runs.{mine, now}
use Rattle.runs_theory.specs.Runs.{read_at, reply, root, seen, thing_of, things, value_in, wrote_at}
use Rattle.runs_theory.proofs.events.Cells.{LastWrite, last_write, none, some}
use Rattle.runs_theory.proofs.events.Mine.{found, mine_same}
use Rattle.runs_theory.proofs.events.Things.{thing_later}
use Rattle.runs_theory.proofs.events.Upto.{upto_none, upto_split}
use Rattle.runs_theory.proofs.runs.Written.{legal_faithful}
use Rattle.runs_program.specs.Steps.{first_name, stepped}
use Rattle.runs_elision.proofs.Worlds.{Names, Distinct, Later, later_none, later_then, ValueLike, value_later, null_like, ValuesLike, no_values, more_values}
use Rattle.runs_elision.proofs.Worlds.{locals_later}
use Rattle.runs_elision.proofs.Worlds.{TaskLike, task_later, TasksLike, no_tasks, more_tasks, tasks_later, ThingLike, thing_later as like_later, an_object_like}
use Rattle.runs_elision.proofs.Worlds.{an_array_like, OwnLike, rest_like, read_like, write_like, look_like, new_like, print_like, enter_like, exit_like}
use Rattle.runs_elision.proofs.Worlds.{own_later, AnswerLike}
use Rattle.runs_elision.proofs.Worlds.{went_like, got_like, out_like, class_like, length_like, named_like, joined_like, fell_like, name_later, EndingLike}
use Rattle.runs_elision.proofs.Worlds.{ending_later}
use Rattle.runs_elision.proofs.Worlds.{EndingsLike, no_endings, more_endings}
use Rattle.runs_elision.proofs.Counts.{answer_alike}
use Rattle.runs_elision.proofs.Heard.{ActionHas, AnswerHas, AnswersHave, ReplyHas, asks_heard}
use Rattle.runs_elision.proofs.NewThings.{things_step}
use Rattle.runs_elision.proofs.Theorems.{main_like, one_name, root_like}
use Rattle.runs_elision.proofs.Writes.{last_there, snoc_cases}
use Rattle.runs_elision.specs.Laws.{NamesAreKnown}

abbrev ValueHas : Names → Value → Type 0
ValueHas ns u = (v : ValueOver ℕ) × ValueLike ns v u

abbrev ThingHas : Names → Thing → Type 0
ThingHas ns t = (s : ThingOver ℕ Counted) × ThingLike ns s t

answer_like_later : {ns ms : Names} {b : AnswerOver ℕ Counted} {a : Answer} → Later ns ms → AnswerLike ns b a → AnswerLike ms b a
answer_like_later l went_like = went_like
answer_like_later l (got_like h) = got_like (value_later l h)
answer_like_later l out_like = out_like
answer_like_later l (class_like c h) = class_like c h
answer_like_later l (length_like len) = length_like len
answer_like_later l (named_like n x h) = named_like n x (name_later n x l h)
answer_like_later l (joined_like h) = joined_like (locals_later l h)
answer_like_later l (fell_like trap p) = fell_like trap p

answer_later : {ns ms : Names} (a : Answer) → Later ns ms → AnswerHas ns a → AnswerHas ms a
answer_later a l h = (h.0, answer_like_later l h.1)

values_at : {ns : Names} {vs : List (ValueOver ℕ)} {us : List Value} → ValuesLike ns vs us → (k : ℕ) → ValueHas ns (or_else (slice_get us k) Null)
values_at no_values k = (ValueOver.Null, null_like)
values_at (more_values {v = v} h i) zero = (v, h)
values_at (more_values h i) (suc k) = values_at i k

first_has : {ns : Names} {s : ThingOver ℕ Counted} {t : Thing} → ThingLike ns s t → (slot : ℕ) → ValueHas ns (first_value t slot)
first_has (an_object_like c r h) slot = values_at h slot
first_has (an_array_like len {v = v} h) slot = (v, h)

written_has : {ns : Names} {q : OwnOver ℕ Counted} {x : Name} {i : ℤ} {u : Value} → OwnLike ns q (Write x i u) → ValueHas ns u
written_has (write_like n x i {v = v} h k) = (v, k)

task_at : {ns : Names} {us : List (TaskOver ℕ Counted)} {ts : List Task} → TasksLike ns us ts → (i : ℕ) (t : Task) → slice_get ts i ≡ Some t
    → (s : TaskOver ℕ Counted) × TaskLike ns s t
task_at no_tasks i t e = absurd (let k : None ≡ Some t = e in cc)
task_at {ns} (more_tasks {t = u} {s = v} h k) zero t e = let z : v ≡ t = cc in (u, subst (λ (y : Task). TaskLike ns u y) z h)
task_at (more_tasks h k) (suc i) t e = task_at k i t e

endings_have : {ns : Names} (ends : List Ending) → ((k : ℕ) (x : Ending) → slice_get ends k ≡ Some x → (y : EndingOver ℕ) × EndingLike ns y x)
    → (xs : List (EndingOver ℕ)) × EndingsLike ns xs ends
endings_have [] f = ([], no_endings)
endings_have (x ∷ ends) f = (let h = f 0 x refl in let r = endings_have ends (λ k y e. f (suc k) y e) in (h.0 ∷ r.0, more_endings h.1 r.1))

action_later : {ns ms : Names} → Later ns ms → (a : Action) → ActionHas ns a → ActionHas ms a
action_later l (Do o) h = (h.0, own_later l h.1)
action_later l (Fork ts) h = (h.0, tasks_later l h.1)
action_later l (Begin b) h = tt
action_later l Join h = tt
action_later l (End x) h = (h.0, ending_later l h.1)

some_is : {A : Type 0} {x y : A} → Some x ≡ Some y → x ≡ y
some_is {A} {x} {y} e = cc

module _ (P : PlainProgram) (arg : ℤ) where
  abbrev Q : Program
  Q = stepped P arg

  -- all names in a run are those of things
  record Sane (R : Run) (ns : Names) : Type 0 where
    start : Later (first_name ∷ []) ns
    each : (e : Event) (B : Run) → Upto (e ∷ B) R → ActionHas ns e.act × AnswerHas ns e.ans
    known : (n : ℕ) (x : Name) → slice_get ns n ≡ Some x → (t : Thing) × (thing_of Q R x ≡ Some t) × ThingHas ns t

  module _ {R : Run} {ns : Names} (s : Sane R ns) where
    task_has : (p : Path) (t : Task) → Begun Q R p t → (u : TaskOver ℕ Counted) × TaskLike ns u t
    task_has p t (root h k) =
        (root_task in_order P 0 arg, subst (λ (y : Task). TaskLike ns (root_task in_order P 0 arg) y) (sym k) (task_later s.start (root_like P arg)))
    task_has p t (branch q u F f ts B g a fs fp fn fa there gs gp ga gn) =
        (let h = subst (λ (c : Action). ActionHas ns c) fa (s.each f F fs).0 in task_at h.1 u.1 t there)

    answers_have : (p : Path) → AnswersHave ns (answers (mine R p))
    answers_have p = go (mine R p) (λ x es u. (let f = found R p u in (s.each x f.before f.stands).1))
      where
        go : (es : Run) → ((x : Event) (xs : Run) → Upto (x ∷ xs) es → AnswerHas ns x.ans) → AnswersHave ns (answers es)
        go [] h = tt
        go (x ∷ es) h = (h x es now, go es (λ y xs u. h y xs (later u)))

    asked_has : (p : Path) (t : Task) → Begun Q R p t → (n : ℕ) (a : Action) → Q.meaning p t (answers (mine R p)) ≡ Next n a → ActionHas ns a
    asked_has p t b n a e =
        let h = task_has p t b in
        subst (λ r. ReplyHas ns r) e (asks_heard P ns s.start.distinct p t h.1 (answers (mine R p)) (answers_have p))

    value_has : (t : Thing) → ThingHas ns t → (c : Cell) → ValueHas ns (value_in R t c)
    value_has t h c = go (last_write R c)
      where
        go : LastWrite R c → ValueHas ns (value_in R t c)
        go (none f z) = subst (λ o. ValueHas ns (or_else o (first_value t c.slot))) (sym z) (first_has h.1 c.slot)
        go (some w W u wr z f) =
            let k = subst (λ (a : Action). ActionHas ns a) wr.act (s.each w W u).0 in
            subst (λ o. ValueHas ns (or_else o (first_value t c.slot))) (sym z) (written_has k.1)

    read_has : (t : Thing) → ThingHas ns t → (x : Name) (o : Option ℕ) → AnswerHas ns (read_at R t x o)
    read_has t h x None = (_, out_like)
    read_has t h x (Some slot) = (let v = value_has t h (record { object = x; slot = slot }) in (_, got_like v.1))

    wrote_has : (o : Option ℕ) → AnswerHas ns (wrote_at o)
    wrote_has None = (_, out_like)
    wrote_has (Some slot) = (_, went_like)

    seen_has : {u : ThingOver ℕ Counted} {t : Thing} → ThingLike ns u t → AnswerHas ns (seen t)
    seen_has (an_object_like c r v) = (_, class_like c r)
    seen_has (an_array_like len v) = (_, length_like len)

    -- what a task acts on is there, and the answer names nothing else; but what is new is new
    data Replied (p : Path) (o : Own) : Type 0 where
      by_names : (a : Answer) → reply Q R p o ≡ Some a → AnswerHas ns a → Replied p o
      by_new : (u : ThingOver ℕ Counted) (t : Thing) (c : Bool) → o ≡ New t c → ThingLike ns u t → Replied p o

    replied : (p : Path) {q : OwnOver ℕ Counted} {o : Own} → OwnLike ns q o → Replied p o
    replied p rest_like = by_names Went refl (_, went_like)
    replied p (print_like bytes) = by_names Went refl (_, went_like)
    replied p (enter_like E F) = by_names Went refl (_, went_like)
    replied p exit_like = by_names Went refl (_, went_like)
    replied p (read_like n x i h) = (let k = s.known n x h in
        by_names (read_at R k.0 x (slot_of i (size k.0))) (ap (λ o. answered_by o (λ t. read_at R t x (slot_of i (size t)))) k.1)
        (read_has k.0 k.2 x (slot_of i (size k.0))))
    replied p (write_like n x i h v) = (let k = s.known n x h in
        by_names (wrote_at (slot_of i (size k.0))) (ap (λ o. answered_by o (λ t. wrote_at (slot_of i (size t)))) k.1) (wrote_has (slot_of i (size k.0))))
    replied p (look_like n x h) = (let k = s.known n x h in by_names (seen k.0) (ap (λ o. answered_by o seen) k.1) (seen_has k.2.1))
    replied p (new_like {t = u} {s = t} c h) = by_new u t c refl h

    replies : (p : Path) (o : Own) → Replied p o → (a : Answer) × (reply Q R p o ≡ Some a)
    replies p o (by_names a e h) = (a, e)
    replies p o (by_new u t c e h) =
        (Named (record { maker = p; count = length (made Q R p) }), ap (λ z. reply Q R p z) e)

    -- one more event
    sane_same : (e : Event) → ActionHas ns e.act → AnswerHas ns e.ans → Sane (e ∷ R) ns
    sane_same e h k = record {
      start = s.start;
      each = each;
      known = λ n x i. (let z = s.known n x i in (z.0, thing_later Q x z.0 (later now) z.1, z.2));
    }
      where
        each : (f : Event) (B : Run) → Upto (f ∷ B) (e ∷ R) → ActionHas ns f.act × AnswerHas ns f.ans
        each f B u = ⊎_elim (λ q. (subst (λ (y : Event). ActionHas ns y.act) (sym q.0) h, subst (λ (y : Event). AnswerHas ns y.ans) (sym q.0) k))
            (λ v. s.each f B v) (upto_split u)

    sane_new : (e : Event) (u : ThingOver ℕ Counted) (t : Thing) (c : Bool) → e.act ≡ Do (New t c) → ThingLike ns u t
        → e.ans ≡ Named (record { maker = e.path; count = length (made Q R e.path) })
        → Sane (e ∷ R) (ns ++ record { maker = e.path; count = length (made Q R e.path) } ∷ [])
    sane_new e u t c act h ans = record { start = later_then s.start now_later; each = each; known = known }
      where
        name : Name
        name = record { maker = e.path; count = length (made Q R e.path) }

        has_none : thing_of Q R name ≡ None
        has_none = slice_get_past (made Q R e.path) (length (made Q R e.path)) (omega arith)

        made_now : made Q (e ∷ R) e.path ≡ made Q R e.path ++ t ∷ []
        made_now = ap (λ l. at_start Q e.path ++ things l) (mine_same e R e.path refl) ∙ ap (λ l. at_start Q e.path ++ l) (things_step e (mine R e.path))
            ∙ ap (λ a. at_start Q e.path ++ (things (mine R e.path) ++ made_by a)) act
            ∙ sym (append_assoc (at_start Q e.path) (things (mine R e.path)) (t ∷ []))

        has_one : thing_of Q (e ∷ R) name ≡ Some t
        has_one = ap (λ l. slice_get l (length (made Q R e.path))) made_now ∙ last_there (made Q R e.path) t

        mixed : (n : ℕ) (x : Name) → slice_get ns n ≡ Some x → name ≡ x → ⊥
        mixed n x a i = let g = s.known n x a in let z : None ≡ Some g.0 = sym has_none ∙ ap (λ y. thing_of Q R y) i ∙ g.1 in cc

        distinct : Distinct (ns ++ name ∷ [])
        distinct = record { one = λ n m x a b. go n m x (snoc_cases ns name x n a) (snoc_cases ns name x m b) }
          where
            go : (n m : ℕ) (x : Name) → (slice_get ns n ≡ Some x) ⊎ ((n ≡ length ns) × (name ≡ x))
                → (slice_get ns m ≡ Some x) ⊎ ((m ≡ length ns) × (name ≡ x)) → n ≡ m
            go n m x (inl a) (inl b) = s.start.distinct.one n m x a b
            go n m x (inl a) (inr b) = absurd (mixed n x a b.1)
            go n m x (inr a) (inl b) = absurd (mixed m x b a.1)
            go n m x (inr a) (inr b) = a.0 ∙ sym b.0

        now_later : Later ns (ns ++ name ∷ [])
        now_later = record { more = name ∷ []; is = refl; distinct = distinct }

        each : (f : Event) (B : Run) → Upto (f ∷ B) (e ∷ R) → ActionHas (ns ++ name ∷ []) f.act × AnswerHas (ns ++ name ∷ []) f.ans
        each f B v = ⊎_elim (λ q. (
          subst (λ (y : Event). ActionHas (ns ++ name ∷ []) y.act) (sym q.0) (subst (λ (a : Action). ActionHas (ns ++ name ∷ []) a) (sym act) (
            _,
            new_like c
                (like_later now_later h),
          )),
          subst (λ (y : Event). AnswerHas (ns ++ name ∷ []) y.ans) (sym q.0)
              (subst (λ (a : Answer). AnswerHas (ns ++ name ∷ []) a) (sym ans) (_, named_like (length ns) name (last_there ns name))),
        ))
            (λ w. (let z = s.each f B w in (action_later now_later f.act z.0, answer_later f.ans now_later z.1))) (upto_split v)

        known : (n : ℕ) (x : Name) → slice_get (ns ++ name ∷ []) n ≡ Some x → (y : Thing) × (thing_of Q (e ∷ R) x ≡ Some y) × ThingHas (ns ++ name ∷ []) y
        known n x i = ⊎_elim
            (λ a. (let z = s.known n x a in (z.0, thing_later Q x z.0 (later now) z.1, (z.2.0, like_later now_later z.2.1))))
            (λ b. (t, subst (λ (y : Name). thing_of Q (e ∷ R) y ≡ Some t) b.1 has_one, (u, like_later now_later h))) (snoc_cases ns name x n i)

    sane_next : (e : Event) → Follows Q R e → (ms : Names) × Sane (e ∷ R) ms
    sane_next e a = go e.act refl (asked_has e.path a.task a.begun e.ticks e.act a.asks) a.right
      where
        went : ActionHas ns e.act → e.ans ≡ Went → (ms : Names) × Sane (e ∷ R) ms
        went h k = (ns, sane_same e h (subst (λ (x : Answer). AnswerHas ns x) (sym k) (_, went_like)))

        own : (o : Own) → e.act ≡ Do o → ActionHas ns e.act → reply Q R e.path o ≡ Some e.ans → Replied e.path o → (ms : Names) × Sane (e ∷ R) ms
        own o i h r (by_names x k l) = (ns, sane_same e h (subst (λ (y : Answer). AnswerHas ns y) (some_is (sym k ∙ r)) l))
        own o i h r (by_new u t c k l) = (_, sane_new e u t c (i ∙ ap Do k) l (some_is (sym r ∙ ap (λ z. reply Q R e.path z) k)))

        join : ActionHas ns e.act → Joins R e.path e.ans → (ms : Names) × Sane (e ∷ R) ms
        join h j =
            let r = endings_have {ns = ns} j.ends (λ k x i. (let g = j.ended (count j.before e.path, k) x refl i in
            subst (λ (c : Action). ActionHas ns c) g.act (s.each g.event g.before g.stands).0)) in
            (ns, sane_same e h (subst (λ (x : Answer). AnswerHas ns x) (sym j.answer) (_, answer_alike r.1)))

        go : (c : Action) → e.act ≡ c → ActionHas ns e.act → Right Q R e.path e.act e.ans → (ms : Names) × Sane (e ∷ R) ms
        go (Do o) i h r = (let k = subst (λ (c : Action). ActionHas ns c) i h in own o i h (subst (λ (c : Action). Right Q R e.path c e.ans) i r)
            (replied e.path k.1))
        go (Fork ts) i h r = went h (subst (λ (c : Action). Right Q R e.path c e.ans) i r)
        go (Begin b) i h r = went h (subst (λ (c : Action). Right Q R e.path c e.ans) i r)
        go Join i h r = join h (subst (λ (c : Action). Right Q R e.path c e.ans) i r)
        go (End x) i h r = went h (subst (λ (c : Action). Right Q R e.path c e.ans) i r)

  sane : (R : Run) → Faithful Q R → (ns : Names) × Sane R ns
  sane [] l = (first_name ∷ [], record { start = later_none (one_name P arg); each = λ e B u. absurd (upto_none u); known = known })
    where
      known : (n : ℕ) (x : Name) → slice_get (first_name ∷ []) n ≡ Some x → (t : Thing) × (thing_of Q [] x ≡ Some t) × ThingHas (first_name ∷ []) t
      known zero x h = (Q.object, subst (λ (y : Name). thing_of Q [] y ≡ Some Q.object) (some_is h) refl, (_, main_like P arg))
      known (suc n) x h = absurd (let k : None ≡ Some x = h in cc)
  sane (e ∷ R) l = (let r = sane R l.1 in sane_next r.1 e l.0)

pub names_are_known : NamesAreKnown
names_are_known P arg = record {
  replies = λ R l p t b o h. (let s = sane P arg R (legal_faithful (stepped P arg) R l) in
      let k = asked_has P arg s.1 p t b h.0 (Do o) h.1 in replies P arg s.1 p o (replied P arg s.1 p k.1));
}
