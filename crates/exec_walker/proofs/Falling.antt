-- A branch that ends by a trap, and what its construct does then.
use Rattle.std.proofs.Common.{◌≡◌, ◌∙◌, ℕ, List, [], ◌∷◌, refl, ap, Option, Some, None}
use Rattle.std.proofs.lemmas.List.{append-nil}
use Rattle.std.specs.Option.{unwrap_or}
use Rattle.lang_base.specs.declared.place.Place.{Place}
use Rattle.lang_base.specs.declared.value.Trap.{Trap}
use Rattle.lang_meaning.specs.Actions.{Task, Work, Trapped}
use Rattle.lang_meaning.specs.Elision.{LocalRegion, Store, one_step}
use Rattle.exec_walker.specs.Walk.{Construct, Level, Waiting, At, branch_level, shortened, for_branch, falls, fallen, earlier, first_or, noted, begins}

pub earlier_is : (fell : Option (Trap × Place)) (x : Trap × Place) → unwrap_or fell x ≡ earlier fell x
earlier_is None x = refl
earlier_is (Some y) x = refl

pub first_is : (fell : Option (Trap × Place)) (x : Trap × Place) → first_or fell (Some x) ≡ Some (earlier fell x)
first_is None x = refl
first_is (Some y) x = refl

pub noted_is : (c : Construct) (t : Trap) (p : Place) → noted c (Trapped t p) ≡ record c { fell = Some (earlier c.fell (t, p)) }
noted_is c t p = ap (λ ls. record c { back = ls; fell = first_or c.fell (Some (t, p)) }) (append-nil c.back) ∙ ap (λ x. record c { fell = x }) (first_is c.fell (t, p))

pub falls_last : (c : Construct) (k : Work) (rest : List (Task ℕ LocalRegion)) (ws : List Waiting) (t : Trap) (p : Place) (w : Store) → rest ≡ []
    → falls (for_branch c k rest ∷ ws) t p w ≡ falls ws (earlier c.fell (t, p)).0 (earlier c.fell (t, p)).1 (one_step (fallen t p w))
falls_last c k rest ws t p w e = ap (λ ts. falls (for_branch c k ts ∷ ws) t p w) e

pub falls_next : (c : Construct) (k : Work) (b : Task ℕ LocalRegion) (rest more : List (Task ℕ LocalRegion)) (ws : List Waiting) (t : Trap) (p : Place) (w : Store)
    → rest ≡ b ∷ more → falls (for_branch c k rest ∷ ws) t p w ≡ begins (record c { fell = Some (earlier c.fell (t, p)) }) b more ws (fallen t p w)
falls_next c k b rest more ws t p w e = ap (λ ts. falls (for_branch c k ts ∷ ws) t p w) e ∙ ap (λ d. begins d b more ws (fallen t p w)) (noted_is c t p)

-- a branch at work, with its construct waiting
pub begun_is : (c d : Construct) (g : Level) (k : Work) (b : Task ℕ LocalRegion) (more : List (Task ℕ LocalRegion)) (ws : List Waiting) (w : Store)
    → g ≡ branch_level c b → k ≡ shortened b.work → d ≡ c → At g (for_branch d k more ∷ ws) (one_step w) ≡ begins c b more ws w
begun_is c d g k b more ws w level work same =
    ap (λ x. At x (for_branch d k more ∷ ws) (one_step w)) level ∙ ap (λ x. At (branch_level c b) (for_branch d x more ∷ ws) (one_step w)) work
    ∙ ap (λ x. At (branch_level c b) (for_branch x (shortened b.work) more ∷ ws) (one_step w)) same

pub ruleset fallings = (earlier_is, noted_is)
