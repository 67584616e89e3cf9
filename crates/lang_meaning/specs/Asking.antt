-- The next action of a task after a list of answers: its meaning in the world of a task that knows its answers alone.
use Rattle.std.specs.Prelude.{ℕ, zero, suc, ◌+◌, ◌-◌, ◌*◌, ◌==◌, if◌then◌else◌, List, [], ◌∷◌, length, reverse, Some, None}
use Rattle.lang_typed.specs.declared.stmt.Forking.{Forking}
use Rattle.lang_typed.specs.Plain.{PlainProgram, TypedStmts}
use Rattle.lang_meaning.specs.Values.{Naming}
use Rattle.lang_meaning.specs.Actions.{Frame, Work, Task, Ending, Returned, Assigned, Trapped, Rest, Action, Do, Fork, Begin, Join, End, Answer, Reply, Next}
use Rattle.lang_meaning.specs.Actions.{Over, Unknown}
use Rattle.lang_meaning.specs.Core.{Result, Goes_on, Returns, Prog, Out, Done, Stopped, Lost, bind, World, run}
use Rattle.lang_meaning.specs.Core.{Out as out}
use Rattle.lang_meaning.specs.Counts.{Brought, brought, assigned}
use Rattle.lang_meaning.specs.Expressions.{none}
use Rattle.lang_meaning.specs.Statements.{of_stmts, begun}

-- what statements do where so many calls may still be made
unfoldable pub meaning : {N M : Type 0} → Naming N M → PlainProgram → ℕ → TypedStmts → Frame N M → Prog N M
meaning names P zero ss f = of_stmts names P None ss f
meaning names P (suc d) ss f = of_stmts names P (Some (meaning names P d)) ss f

-- the most while ticks and made local regions without an event
unfoldable pub most_ticks : ℕ
most_ticks = 4096

-- a task that knows its answers alone: the ticks since the last one, how many local regions it has made, and the answers to
-- come
pub record Reported (N M : Type 0) : Type 0 where
  pub since : ℕ
  pub made : ℕ
  pub to_come : List (Answer N M)

abbrev pub take_answer : {N M : Type 0} → Action N M (Task N M) → Reported N M → List (Answer N M) → Out N M (Answer N M) (Reported N M)
take_answer a w [] = Stopped w.since a
take_answer a w (x ∷ xs) = Done x (record { since = 0; made = w.made; to_come = xs })

abbrev pub asked : {N M : Type 0} → Action N M (Task N M) → Reported N M → Out N M (Answer N M) (Reported N M)
asked a w = take_answer a w w.to_come

-- a tick; the last that may be made without an event is followed by a rest
abbrev pub ticked : {N M : Type 0} → Reported N M → Out N M (Unit {0}) (Reported N M)
ticked w =
    if suc w.since == most_ticks then bind (asked (Do Rest) (record w { since = suc w.since })) (λ a v. Done tt v)
    else Done tt (record w { since = suc w.since })

-- a new local region counts as a tick
abbrev pub made_region : {N M : Type 0} → Naming N M → Reported N M → Out N M M (Reported N M)
made_region names w = bind (ticked (record w { made = suc w.made })) (λ u v. Done (names.made w.made) v)

-- one begin for each branch, and what is done then
abbrev pub begins_then : {N M V : Type 0} → ℕ → ℕ → (Reported N M → Out N M V (Reported N M)) → Reported N M → Out N M V (Reported N M)
begins_then b zero k w = k w
begins_then b (suc n) k w = bind (asked (Begin b) w) (λ a v. begins_then (suc b) n k v)

abbrev pub reported_join : {N M : Type 0} → Reported N M → Out N M (Brought N) (Reported N M)
reported_join w = bind (asked Join w) (λ a v. Done (brought a) v)

abbrev pub reported_fork : {N M : Type 0} → Forking → List (Task N M) → Reported N M → Out N M (Brought N) (Reported N M)
reported_fork forking ts w = bind (asked (Fork (record { kind = forking; tasks = ts })) w) (λ a v. begins_then 0 (length ts) reported_join v)

abbrev pub reported : {N M : Type 0} → Naming N M → World N M (Reported N M)
reported names = record {
  ticks = λ w. suc (most_ticks * length w.to_come + (most_ticks - w.since));
  act = λ o w. asked (Do o) w;
  tick = ticked;
  make = made_region names;
  fork = λ forking ts bodies w. reported_fork forking ts w;
}

-- how a task ends that doesn't trap
abbrev pub ended : {N M : Type 0} → Work → Result N M → Ending N
ended w (Returns v) = Returned v
ended w (Goes_on v f) = if w.is_root then Returned none else Assigned (assigned w.copies f.values)

-- an end comes where no answer is left over
abbrev pub ending : {N M : Type 0} → Ending N → ℕ → List (Answer N M) → Reply N M (Task N M)
ending x n [] = Next n (End x)
ending x n (a ∷ more) = Over

abbrev pub replied : {N M : Type 0} → Work → Out N M (Result N M) (Reported N M) → Reply N M (Task N M)
replied k (Done r w) = ending (ended k r) w.since w.to_come
replied k (out.Trapped trap p w) = ending (Trapped trap p) w.since w.to_come
replied k (Stopped n a) = Next n a
replied k (Lost w) = Unknown

-- what a task is to do
abbrev pub does : {N M : Type 0} → Naming N M → PlainProgram → Task N M → Prog N M
does names P t = meaning names P t.frame.left t.work.stmts (begun t.work.takes t.frame)

-- what a task does next after these answers, of which the latest stands first
unfoldable pub ask : {N M : Type 0} → Naming N M → PlainProgram → Task N M → List (Answer N M) → Reply N M (Task N M)
ask names P t got =
    replied t.work (run (reported names) (does names P t) (record { since = 0; made = 0; to_come = reverse got }))
