-- Values, frames and actions of the elision and of a run, which name objects otherwise: by numbers in the order in which they are
-- made, and by their makers. What is one in both: like. Of local regions nothing is compared, since no task looks into a region.
use Rattle.std.proofs.Common.{◌≡◌, ℕ, zero, suc, ℤ, Bool, List, [], ◌∷◌, ◌++◌, map, length, refl, sym, ap, ◌∙◌, subst, Some, None, slice_get}
use Rattle.std.proofs.Common.{append-nil, append_assoc}
use Rattle.lang_base.specs.declared.place.Place.{Place}
use Rattle.lang_base.specs.declared.value.Trap.{Trap}
use Rattle.lang_typed.specs.declared.stmt.Forking.{Forking}
use Rattle.lang_typed.specs.Plain.{PlainProgram}
use Rattle.lang_meaning.specs.Values.{Value, Int, Boolean, Null, Object, Region, Thing, An_object, An_array}
use Rattle.lang_meaning.specs.Actions.{Frame, Task, Ending, Returned, Assigned, Trapped, Own, Rest, Read, Write, Look, New, Print, Enter, Exit, Effect}
use Rattle.lang_meaning.specs.Actions.{Answer, Went, Got, Out, Class, Length, Named, Joined, Fell}
use Rattle.lang_meaning.specs.Core.{Result, Goes_on, Returns, Prog, Ret, Traps, Act, Makes, Again, Split}
use Rattle.lang_meaning.specs.Counts.{Brought, Back, Trap_of_branch}
use Rattle.lang_meaning.specs.Asking.{does}
use Rattle.lang_meaning.specs.Elision.{LocalRegion as Counted, in_order}
use Rattle.runs_theory.specs.Objects.{Name, LocalRegion}
pub use Rattle.runs_elision.specs.Renamed.{Distinct}

-- the names of the objects that were made, in order
abbrev pub Names : Type 0
Names = List Name

-- after more objects were made
pub record Later (ns ms : Names) : Type 0 where
  pub more : Names
  pub is : ms ≡ ns ++ more
  pub distinct : Distinct ms

pub later_none : {ns : Names} → Distinct ns → Later ns ns
later_none {ns} d = record { more = []; is = sym (append-nil ns); distinct = d }

pub later_then : {ns ms ls : Names} → Later ns ms → Later ms ls → Later ns ls
later_then {ns} h k = record {
  more = h.more ++ k.more;
  is = k.is ∙ ap (λ l. l ++ k.more) h.is ∙ append_assoc ns h.more k.more;
  distinct = k.distinct;
}

pub still_there : {A : Type 0} (xs ys : List A) (n : ℕ) (x : A) → slice_get xs n ≡ Some x → slice_get (xs ++ ys) n ≡ Some x
still_there [] ys n x h = absurd (let k : None ≡ Some x = h in cc)
still_there (w ∷ xs) ys zero x h = h
still_there (w ∷ xs) ys (suc n) x h = still_there xs ys n x h

pub name_later : {ns ms : Names} (n : ℕ) (x : Name) → Later ns ms → slice_get ns n ≡ Some x → slice_get ms n ≡ Some x
name_later {ns} {ms} n x l h = subst (λ z. slice_get z n ≡ Some x) (sym l.is) (still_there ns l.more n x h)

pub data ValueLike (ns : Names) : Value ℕ → Value Name → Type 0 where
  int_like : (k : ℤ) → ValueLike ns (Int k) (Int k)
  boolean_like : (b : Bool) → ValueLike ns (Boolean b) (Boolean b)
  null_like : ValueLike ns Null Null
  object_like : (n : ℕ) (x : Name) → slice_get ns n ≡ Some x → ValueLike ns (Object n) (Object x)

pub value_later : {ns ms : Names} {v : Value ℕ} {u : Value Name} → Later ns ms → ValueLike ns v u → ValueLike ms v u
value_later l (int_like k) = int_like k
value_later l (boolean_like b) = boolean_like b
value_later l null_like = null_like
value_later l (object_like n x h) = object_like n x (name_later n x l h)

pub data ValuesLike (ns : Names) : List (Value ℕ) → List (Value Name) → Type 0 where
  no_values : ValuesLike ns [] []
  more_values : {v : Value ℕ} {u : Value Name} {vs : List (Value ℕ)} {us : List (Value Name)} → ValueLike ns v u → ValuesLike ns vs us
      → ValuesLike ns (v ∷ vs) (u ∷ us)

pub values_later : {ns ms : Names} {vs : List (Value ℕ)} {us : List (Value Name)} → Later ns ms → ValuesLike ns vs us → ValuesLike ms vs us
values_later l no_values = no_values
values_later l (more_values h k) = more_values (value_later l h) (values_later l k)

-- the locals that branches give back
pub data LocalsLike (ns : Names) : List (ℕ × Value ℕ) → List (ℕ × Value Name) → Type 0 where
  no_locals : LocalsLike ns [] []
  more_locals : (x : ℕ) {v : Value ℕ} {u : Value Name} {vs : List (ℕ × Value ℕ)} {us : List (ℕ × Value Name)} → ValueLike ns v u → LocalsLike ns vs us
      → LocalsLike ns ((x, v) ∷ vs) ((x, u) ∷ us)

pub locals_later : {ns ms : Names} {vs : List (ℕ × Value ℕ)} {us : List (ℕ × Value Name)} → Later ns ms → LocalsLike ns vs us → LocalsLike ms vs us
locals_later l no_locals = no_locals
locals_later l (more_locals x h k) = more_locals x (value_later l h) (locals_later l k)

-- regions have the same lengths
pub record RegionsLike (rs : List (Region Counted)) (qs : List (Region LocalRegion)) : Type 0 where
  pub lengths : map length rs ≡ map length qs

pub no_regions : RegionsLike [] []
no_regions = record { lengths = refl }

-- frames that may go so many calls deeper
pub record FrameLike (c : ℕ) (ns : Names) (f : Frame ℕ Counted) (g : Frame Name LocalRegion) : Type 0 where
  pub values : ValuesLike ns f.values g.values
  pub regions : RegionsLike f.regions g.regions
  pub left : f.left ≡ c
  pub left_too : g.left ≡ c
  pub distinct : Distinct ns

pub frame_later : {c : ℕ} {ns ms : Names} {f : Frame ℕ Counted} {g : Frame Name LocalRegion} → Later ns ms → FrameLike c ns f g → FrameLike c ms f g
frame_later l h = record { values = values_later l h.values; regions = h.regions; left = h.left; left_too = h.left_too; distinct = l.distinct }

pub record TaskLike (ns : Names) (t : Task ℕ Counted) (s : Task Name LocalRegion) : Type 0 where
  pub left : ℕ
  pub work : t.work ≡ s.work
  pub frame : FrameLike left ns t.frame s.frame

pub task_later : {ns ms : Names} {t : Task ℕ Counted} {s : Task Name LocalRegion} → Later ns ms → TaskLike ns t s → TaskLike ms t s
task_later l h = record { left = h.left; work = h.work; frame = frame_later l h.frame }

pub data TasksLike (ns : Names) : List (Task ℕ Counted) → List (Task Name LocalRegion) → Type 0 where
  no_tasks : TasksLike ns [] []
  more_tasks : {t : Task ℕ Counted} {s : Task Name LocalRegion} {ts : List (Task ℕ Counted)} {ss : List (Task Name LocalRegion)} → TaskLike ns t s
      → TasksLike ns ts ss → TasksLike ns (t ∷ ts) (s ∷ ss)

pub tasks_later : {ns ms : Names} {ts : List (Task ℕ Counted)} {ss : List (Task Name LocalRegion)} → Later ns ms → TasksLike ns ts ss → TasksLike ms ts ss
tasks_later l no_tasks = no_tasks
tasks_later l (more_tasks h k) = more_tasks (task_later l h) (tasks_later l k)

pub data ThingLike (ns : Names) : Thing ℕ Counted → Thing Name LocalRegion → Type 0 where
  an_object_like : (c : ℕ) {rs : List (Region Counted)} {qs : List (Region LocalRegion)} {vs : List (Value ℕ)} {us : List (Value Name)} → RegionsLike rs qs
      → ValuesLike ns vs us → ThingLike ns (An_object c rs vs) (An_object c qs us)
  an_array_like : {r : Region Counted} {q : Region LocalRegion} (len : ℕ) {v : Value ℕ} {u : Value Name} → ValueLike ns v u
      → ThingLike ns (An_array r len v) (An_array q len u)

pub data OwnLike (ns : Names) : Own ℕ Counted → Own Name LocalRegion → Type 0 where
  rest_like : OwnLike ns Rest Rest
  read_like : (n : ℕ) (x : Name) (i : ℤ) → slice_get ns n ≡ Some x → OwnLike ns (Read n i) (Read x i)
  write_like : (n : ℕ) (x : Name) (i : ℤ) {v : Value ℕ} {u : Value Name} → slice_get ns n ≡ Some x → ValueLike ns v u
      → OwnLike ns (Write n i v) (Write x i u)
  look_like : (n : ℕ) (x : Name) → slice_get ns n ≡ Some x → OwnLike ns (Look n) (Look x)
  new_like : {t : Thing ℕ Counted} {s : Thing Name LocalRegion} (c : Bool) → ThingLike ns t s → OwnLike ns (New t c) (New s c)
  print_like : (bytes : List ℕ) → OwnLike ns (Print bytes) (Print bytes)
  enter_like : (E : List (Effect Counted)) (F : List (Effect LocalRegion)) → OwnLike ns (Enter E) (Enter F)
  exit_like : OwnLike ns Exit Exit

pub thing_later : {ns ms : Names} {t : Thing ℕ Counted} {s : Thing Name LocalRegion} → Later ns ms → ThingLike ns t s → ThingLike ms t s
thing_later l (an_object_like c r v) = an_object_like c r (values_later l v)
thing_later l (an_array_like len v) = an_array_like len (value_later l v)

pub own_later : {ns ms : Names} {o : Own ℕ Counted} {q : Own Name LocalRegion} → Later ns ms → OwnLike ns o q → OwnLike ms o q
own_later l rest_like = rest_like
own_later l (read_like n x i h) = read_like n x i (name_later n x l h)
own_later l (write_like n x i h v) = write_like n x i (name_later n x l h) (value_later l v)
own_later l (look_like n x h) = look_like n x (name_later n x l h)
own_later l (new_like c t) = new_like c (thing_later l t)
own_later l (print_like bytes) = print_like bytes
own_later l (enter_like E F) = enter_like E F
own_later l exit_like = exit_like

pub data AnswerLike (ns : Names) : Answer ℕ Counted → Answer Name LocalRegion → Type 0 where
  went_like : AnswerLike ns Went Went
  got_like : {v : Value ℕ} {u : Value Name} → ValueLike ns v u → AnswerLike ns (Got v) (Got u)
  out_like : AnswerLike ns Out Out
  class_like : (c : ℕ) {rs : List (Region Counted)} {qs : List (Region LocalRegion)} → RegionsLike rs qs → AnswerLike ns (Class c rs) (Class c qs)
  length_like : (len : ℕ) → AnswerLike ns (Length len) (Length len)
  named_like : (n : ℕ) (x : Name) → slice_get ns n ≡ Some x → AnswerLike ns (Named n) (Named x)
  joined_like : {vs : List (ℕ × Value ℕ)} {us : List (ℕ × Value Name)} → LocalsLike ns vs us → AnswerLike ns (Joined vs) (Joined us)
  fell_like : (trap : Trap) (p : Place) → AnswerLike ns (Fell trap p) (Fell trap p)

pub data BroughtLike (ns : Names) : Brought ℕ → Brought Name → Type 0 where
  back_like : {vs : List (ℕ × Value ℕ)} {us : List (ℕ × Value Name)} → LocalsLike ns vs us → BroughtLike ns (Back vs) (Back us)
  trap_like : (trap : Trap) (p : Place) → BroughtLike ns (Trap_of_branch trap p) (Trap_of_branch trap p)

pub data EndingLike (ns : Names) : Ending ℕ → Ending Name → Type 0 where
  returned_like : {v : Value ℕ} {u : Value Name} → ValueLike ns v u → EndingLike ns (Returned v) (Returned u)
  assigned_like : {vs : List (ℕ × Value ℕ)} {us : List (ℕ × Value Name)} → LocalsLike ns vs us → EndingLike ns (Assigned vs) (Assigned us)
  trapped_like : (trap : Trap) (p : Place) → EndingLike ns (Trapped trap p) (Trapped trap p)

pub ending_later : {ns ms : Names} {x : Ending ℕ} {y : Ending Name} → Later ns ms → EndingLike ns x y → EndingLike ms x y
ending_later l (returned_like h) = returned_like (value_later l h)
ending_later l (assigned_like h) = assigned_like (locals_later l h)
ending_later l (trapped_like trap p) = trapped_like trap p

pub data EndingsLike (ns : Names) : List (Ending ℕ) → List (Ending Name) → Type 0 where
  no_endings : EndingsLike ns [] []
  more_endings : {x : Ending ℕ} {y : Ending Name} {xs : List (Ending ℕ)} {ys : List (Ending Name)} → EndingLike ns x y → EndingsLike ns xs ys
      → EndingsLike ns (x ∷ xs) (y ∷ ys)

pub data ResultLike (c : ℕ) (ns : Names) : Result ℕ Counted → Result Name LocalRegion → Type 0 where
  goes_on_like : {v : Value ℕ} {u : Value Name} {f : Frame ℕ Counted} {g : Frame Name LocalRegion} → ValueLike ns v u → FrameLike c ns f g
      → ResultLike c ns (Goes_on v f) (Goes_on u g)
  returns_like : {v : Value ℕ} {u : Value Name} → Distinct ns → ValueLike ns v u → ResultLike c ns (Returns v) (Returns u)

pub result_later : {c : ℕ} {ns ms : Names} {r : Result ℕ Counted} {s : Result Name LocalRegion} → Later ns ms → ResultLike c ns r s → ResultLike c ms r s
result_later l (goes_on_like v f) = goes_on_like (value_later l v) (frame_later l f)
result_later l (returns_like d v) = returns_like l.distinct (value_later l v)

pub result_distinct : {c : ℕ} {ns : Names} {r : Result ℕ Counted} {s : Result Name LocalRegion} → ResultLike c ns r s → Distinct ns
result_distinct (goes_on_like v f) = f.distinct
result_distinct (returns_like d v) = d

-- what two tasks do is like: the same actions, and then the same whatever more objects there are; and each branch of the elision
-- does what its task is to do, and the first branch's trap goes on after the join
pub data Alike (P : PlainProgram) : ℕ → Names → Prog ℕ Counted → Prog Name LocalRegion → Type 0 where
  alike_ret : {c : ℕ} {ns : Names} {r : Result ℕ Counted} {s : Result Name LocalRegion} → ResultLike c ns r s → Alike P c ns (Ret r) (Ret s)
  alike_traps : {c : ℕ} {ns : Names} (trap : Trap) (p : Place) → Alike P c ns (Traps trap p) (Traps trap p)
  alike_act : {c : ℕ} {ns : Names} {o : Own ℕ Counted} {q : Own Name LocalRegion} {k : Answer ℕ Counted → Prog ℕ Counted}
      {j : Answer Name LocalRegion → Prog Name LocalRegion} → OwnLike ns o q
      → ((ms : Names) (x : Answer ℕ Counted) (y : Answer Name LocalRegion) → Later ns ms → AnswerLike ms x y → Alike P c ms (k x) (j y))
      → Alike P c ns (Act o k) (Act q j)
  alike_makes : {c : ℕ} {ns : Names} {k : Counted → Prog ℕ Counted} {j : LocalRegion → Prog Name LocalRegion}
      → ((m : Counted) (l : LocalRegion) → Alike P c ns (k m) (j l)) → Alike P c ns (Makes k) (Makes j)
  alike_again : {c : ℕ} {ns : Names} (d : ℕ) {t b : Frame ℕ Counted → Prog ℕ Counted} {s a : Frame Name LocalRegion → Prog Name LocalRegion}
      {f : Frame ℕ Counted} {g : Frame Name LocalRegion} {k : Result ℕ Counted → Prog ℕ Counted} {j : Result Name LocalRegion → Prog Name LocalRegion}
      → ((ms : Names) (x : Frame ℕ Counted) (y : Frame Name LocalRegion) → Later ns ms → FrameLike d ms x y → Alike P d ms (t x) (s y))
      → ((ms : Names) (x : Frame ℕ Counted) (y : Frame Name LocalRegion) → Later ns ms → FrameLike d ms x y → Alike P d ms (b x) (a y))
      → FrameLike d ns f g
      → ((ms : Names) (x : Result ℕ Counted) (y : Result Name LocalRegion) → Later ns ms → ResultLike d ms x y → Alike P c ms (k x) (j y))
      → Alike P c ns (Again t b f k) (Again s a g j)
  alike_split : {c : ℕ} {ns : Names} (forking : Forking) {ts : List (Task ℕ Counted)} {ss : List (Task Name LocalRegion)} {bs : ℕ → Prog ℕ Counted}
      {as' : ℕ → Prog Name LocalRegion} {k : Brought ℕ → Prog ℕ Counted} {j : Brought Name → Prog Name LocalRegion} → TasksLike ns ts ss
      → ((i : ℕ) (t : Task ℕ Counted) → slice_get ts i ≡ Some t → bs i ≡ does in_order P t)
      → ((trap : Trap) (p : Place) → k (Trap_of_branch trap p) ≡ Traps trap p) → ((ms : Names) (x : Brought ℕ) (y : Brought Name) → Later ns ms
      → BroughtLike ms x y → Alike P c ms (k x) (j y))
      → Alike P c ns (Split forking ts bs k) (Split forking ss as' j)
