-- A path put together from a task upwards.
use Rattle.std.proofs.Common.{◌≡◌, ℕ, ◌<◌, List, [], ◌∷◌, ◌++◌, sym, ap, subst, ◌∙◌, Some, None, append_assoc, append-nil, reverse}
use Rattle.std.proofs.lemmas.List.{reverse-append}
use Rattle.std.specs.FinMap.{get}
use Rattle.lang_base.specs.declared.path.PathStep.{PathStep}
use Rattle.exec_tasks.specs.declared.task.Origin.{Origin}
use Rattle.exec_tasks.specs.Tree.{Tasks, origin_of, IsPath, root, step}

-- whatever path leads to a task, with these steps after it leads to another
abbrev pub LeadsTo : Tasks → ℕ → ℕ → List PathStep → Type 0
LeadsTo tasks at task upwards = (steps : List PathStep) → IsPath tasks at steps → IsPath tasks task (steps ++ reverse upwards)

pub leads_nowhere : (tasks : Tasks) (task : ℕ) → LeadsTo tasks task task []
leads_nowhere tasks task steps is = subst (IsPath tasks task) (sym (append-nil steps)) is

pub leads_up : (tasks : Tasks) (at task : ℕ) (upwards new : List PathStep) (origin : Origin) → new ≡ upwards ++ origin.step ∷ []
    → Some origin ≡ origin_of (get tasks at)
    → LeadsTo tasks at task upwards → LeadsTo tasks origin.parent task new
leads_up tasks at task upwards new origin pushed from leads steps is =
    subst (λ rest. IsPath tasks task (steps ++ rest)) (sym (ap reverse pushed ∙ reverse-append upwards (origin.step ∷ [])))
    (subst (IsPath tasks task) (append_assoc steps (origin.step ∷ []) (reverse upwards)) (leads (steps ++ origin.step ∷ [])
    (step at origin steps (sym from) is)))

pub path_made : (tasks : Tasks) (at task : ℕ) (upwards made : List PathStep) → made ≡ reverse upwards → None ≡ origin_of (get tasks at)
    → LeadsTo tasks at task upwards → IsPath tasks task made
path_made tasks at task upwards made is none leads = subst (IsPath tasks task) (sym is) (leads [] (root at (sym none)))
