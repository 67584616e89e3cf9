-- Locals that come into scope and leave it again.
use Rattle.std.proofs.Common.{◌≡◌, ℕ, ◌≤◌, [], ◌∷◌, length, append_assoc, arith}
use Rattle.std.proofs.lemmas.List.{length-append}
use Rattle.decl_resolve.specs.Names.{Names}
use Rattle.decl_resolve.specs.Scoped.{with_name, names_left, values_in}
use Rattle.decl_reach.specs.declared.shape.Shape.{Shape}
use Rattle.decl_reach.specs.Calls.{IsPaired}

-- the first of the locals are these
pub record IsAbove (outer : ℕ) (old locals : Names Shape) : Type 0 where
  pub paired : IsPaired locals
  pub long : outer ≤ length (values_in locals)
  pub front : names_left locals outer ≡ old

pub paired_more : (locals : Names Shape) (name : ℕ) (shape : Shape) → IsPaired locals → IsPaired (with_name locals name shape)
paired_more locals name shape paired = omega (arith, length-append locals.names (name ∷ []), length-append locals.values (shape ∷ []), paired)

pub ruleset locals = (append_assoc, paired_more)
