-- The rule of open blocks that leaves effects on local regions aside lets by what the rule itself does.
use Rattle.std.proofs.Common.{◌≡◌, Bool, true, false, not, ◌||◌, List, [], ◌∷◌, refl, ap}
use Rattle.std.proofs.lemmas.Bool.{not-true, or_parts}
use Rattle.runs_reduction.specs.Laws.{Weaker}
use Rattle.runs_theory.specs.Blocks.{is_local, kept_if, leaving_locals, without_locals}
use Rattle.runs_theory.specs.Objects.{Effect}
use Rattle.runs_program.specs.Interfering.{interferes, lets, lists_interfere, some_interferes}

some_less : (e : Effect) (F : List Effect) → some_interferes e F ≡ false → some_interferes e (without_locals F) ≡ false
some_less e [] h = refl
some_less e (f ∷ F) h = let p = or_parts (interferes e f) _ h in kept (is_local f) p.0 (some_less e F p.1)
  where
    kept : (c : Bool) → interferes e f ≡ false → some_interferes e (without_locals F) ≡ false → some_interferes e (kept_if c f (without_locals F)) ≡ false
    kept true a rest = rest
    kept false a rest = λ i. a i || rest i

lists_less : (E F : List Effect) → lists_interfere E F ≡ false → lists_interfere (without_locals E) (without_locals F) ≡ false
lists_less [] F h = refl
lists_less (e ∷ E) F h = let p = or_parts (some_interferes e F) _ h in kept (is_local e) (some_less e F p.0) (lists_less E F p.1)
  where
    kept : (c : Bool) → some_interferes e (without_locals F) ≡ false → lists_interfere (without_locals E) (without_locals F) ≡ false →
        lists_interfere (kept_if c e (without_locals E)) (without_locals F) ≡ false
    kept true a rest = rest
    kept false a rest = λ i. a i || rest i

pub leaving_is_weaker : Weaker (leaving_locals lets) lets
leaving_is_weaker F E h = ap not (lists_less F E (not-true (lists_interfere F E) h))
