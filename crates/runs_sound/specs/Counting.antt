-- How many local regions a task has made when it comes to an action. Making one is no event, so the meaning tells it, by the answers that the task
-- has got.
use Rattle.std.specs.Prelude.{ℕ, List, [], ◌∷◌, reverse}
use Rattle.lang_typed.specs.Plain.{PlainProgram}
use Rattle.lang_meaning.specs.Actions.{Task, Own, Do, Answer, Reply, Next, Over, Unknown}
use Rattle.lang_meaning.specs.Asking.{Reported, take_answer, reported, replied, does}
use Rattle.lang_meaning.specs.Core.{Out, Stopped, World, run}
use Rattle.lang_meaning.specs.Values.{Naming}

-- an action of its own that has no answer yet stops a task with how many local regions it has made, and not with its ticks
abbrev pub acts_counting : {N M : Type 0} → Own N M → Reported N M → List (Answer N M) → Out N M (Answer N M) (Reported N M)
acts_counting o w [] = Stopped w.made (Do o)
acts_counting o w (x ∷ xs) = take_answer (Do o) w (x ∷ xs)

-- a task that knows its answers alone, and counts its local regions
abbrev pub counting : {N M : Type 0} → Naming N M → World N M (Reported N M)
counting names = record {
  ticks = (reported names).ticks;
  act = λ o w. acts_counting o w w.to_come;
  tick = (reported names).tick;
  make = (reported names).make;
  fork = (reported names).fork;
}

abbrev pub number_of : {N M : Type 0} → Reply N M (Task N M) → ℕ
number_of (Next n a) = n
number_of Over = 0
number_of Unknown = 0

-- how many local regions a task has made after these answers, of which the latest stands first, where an action of its own comes next: a read, a
-- write, a look, a creation, a print, an entry or an exit
unfoldable pub regions_made : {N M : Type 0} → Naming N M → PlainProgram → Task N M → List (Answer N M) → ℕ
regions_made names P t got =
    number_of (replied t.work (run (counting names) (does names P t) (record { since = 0; made = 0; to_come = reverse got })))
