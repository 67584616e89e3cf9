-- How far the walk through a body has come, and what becomes of a piece of it.
use Rattle.std.specs.Prelude.{Bool, false, List, [], Option, Some, None}
use Rattle.std.specs.Option.{option_map_or}
use Rattle.lang_base.specs.declared.refusal.Refusal.{Refusal}
use Rattle.syntax_tree.specs.Plain.{PlainExpr}
use Rattle.lang_typed.specs.Plain.{TypedExpr}
use Rattle.body_exprs.specs.declared.env.Env.{Env}
use Rattle.body_exprs.specs.declared.found.Found.{Found}
use Rattle.body_exprs.specs.Answer.{Answer}
use Rattle.body_exprs.specs.Answer.{Answer as answer}
use Rattle.body_exprs.specs.Env.{left_to, mark_of}
use Rattle.body_exprs.specs.Typing.{type_expr}

-- what is in scope, and what was found of the block or the branch at hand
pub record Walk : Type 0 where
  pub env : Env
  pub found : Found

abbrev pub walk_of : Env → Found → Walk
walk_of env found = record { env = env; found = found }

-- a piece of a body passes, of which this was made, and the walk has come so far after it; or it is refused
pub data Verdict (T : Type 0) : Type 0 where
  passes : T → Walk → Verdict T
  refused : Refusal → Verdict T

-- after expressions, which add to what was found
abbrev pub found_so : Walk → Found → Walk
found_so w found = record w { found = found }

-- after a declaration, which changed what is in scope
abbrev pub scope_so : Walk → Env → Walk
scope_so w env = record w { env = env }

-- nothing is found yet
abbrev pub nothing_found : Found
nothing_found = record { effects = []; uses = []; reaches_nd = false }

-- at the begin of a branch or a block, of which what is found is gathered by itself
abbrev pub apart_from : Walk → Walk
apart_from w = record w { found = nothing_found }

-- after a scope that began at the first walk: what it declared is out of scope
abbrev pub scope_left : Walk → Walk → Walk
scope_left before inside = record inside { env = left_to inside.env (mark_of before.env) }

-- the fault that is reported of a node, after its parts
abbrev pub judged : {T : Type 0} → Option Refusal → T → Walk → Verdict T
judged None made w = passes made w
judged (Some refusal) made w = refused refusal

-- goes on with what a piece gives, and from where it ends; the fault of a part is that of the whole
infixl 10 ◌>>=◌
abbrev pub ◌>>=◌ : {T U : Type 0} → Verdict T → (T × Walk → Verdict U) → Verdict U
passes made w >>= next = next (made, w)
refused refusal >>= next = refused refusal

-- goes on unless a fault is reported
infixl 10 ◌>>◌
abbrev pub ◌>>◌ : {T : Type 0} → Option Refusal → Verdict T → Verdict T
reported_one >> rest = option_map_or refused reported_one rest

-- an expression where the walk has come
abbrev pub given_at : Walk → Answer → Verdict (Option TypedExpr)
given_at w (answer.gives t found) = passes t (found_so w found)
given_at w (answer.refused refusal) = refused refusal

abbrev pub expr_at : PlainExpr → Walk → Verdict (Option TypedExpr)
expr_at e w = given_at w (type_expr w.env e w.found)
