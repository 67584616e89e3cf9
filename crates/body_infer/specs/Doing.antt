-- The effects that a body has by the rules of the language, with the summaries that a program has.
use Rattle.std.specs.Prelude.{ℕ, zero, suc, ◌+◌, ◌==◌, if◌then◌else◌, List, [], ◌∷◌, ◌++◌, map, length, Option, Some, None}
use Rattle.lang_base.specs.declared.region.Rpl.{Rpl}
use Rattle.lang_base.specs.Regions.{substituted}
use Rattle.lang_base.specs.Types.{PlainType, int, class, array, path_at}
use Rattle.lang_typed.specs.declared.stmt.Forking.TheVariants.{Deterministic}
use Rattle.lang_typed.specs.Plain.{PlainProgram, PlainField, PlainMember, PlainParent, TypedExpr, typed, type_of, TypedExprs, no_exprs, more_exprs, Source, of_array, of_part, TypedStmt, statement, TypedStmts, no_stmts, more_stmts, TypedBranches, no_branches, more_branches}
use Rattle.lang_typed.specs.Plain.{ExprForm as expr}
use Rattle.lang_typed.specs.Plain.{StmtForm as form}
use Rattle.lang_typed.specs.Scope.{Scope, Local, constant, part, reserved, member_at, field_at, row_at, constructor_of, parent_of, with_local}
use Rattle.lang_typed.specs.Effects.{Own, does, uses, reads, writes, summary_with, after_block, after_branches, outside_variable, outside_regions, after_parts}
use Rattle.lang_typed.specs.Statements.{declared_as}
use Rattle.lang_typed.specs.Typing.{index_elem}

-- the arguments of a class, where one with these arguments is seen as that class at or above it, so many superclasses up at most
abbrev pub seen_by : (ℕ → List Rpl → List Rpl) → List Rpl → Option PlainParent → List Rpl
seen_by above args None = args
seen_by above args (Some p) = above p.class (map (substituted args) p.args)

abbrev pub seen_within : ℕ → PlainProgram → ℕ → List Rpl → ℕ → List Rpl
seen_within zero P c args d = args
seen_within (suc n) P c args d = if c == d then args else seen_by (λ q owned. seen_within n P q owned d) args (parent_of P c)

abbrev pub seen_as : PlainProgram → ℕ → List Rpl → ℕ → List Rpl
seen_as P c args d = seen_within (length P.classes) P c args d

-- what a field and an element are read or written by
abbrev pub of_field : PlainProgram → PlainType → Option PlainField → (Rpl → Own) → List Own
of_field P (class c args) (Some f) access = access (substituted args f.region) ∷ []
of_field P t f access = []

abbrev pub of_element : Scope → PlainType → TypedExpr → (Rpl → Own) → List Own
of_element L (array t a named) i access = access (path_at 0 (index_elem L i) a) ∷ []
of_element L t i access = []

abbrev pub of_local : Option Local → (Rpl → Own) → List Own
of_local (Some (part t a)) access = access a ∷ []
of_local l access = []

-- what the member does that a call names, and a constructor
abbrev pub of_callee : PlainProgram → PlainType → Option PlainMember → List Rpl → List Own
of_callee P (class c args) (Some m) regions = summary_with (seen_as P c args m.class ++ regions) m.summary
of_callee P t m regions = []

abbrev pub of_constructor : PlainType → Option PlainMember → List Own
of_constructor (class c args) (Some m) = summary_with args m.summary
of_constructor t m = []

abbrev pub member_in : PlainProgram → Option ℕ → Option PlainMember
member_in P None = None
member_in P (Some n) = member_at P n

abbrev pub constructed : PlainProgram → PlainType → Option PlainMember
constructed P (class c args) = member_in P (constructor_of P c)
constructed P t = None

abbrev mutual
  -- an expression: what its parts do, and then what it does itself
  pub done_by : PlainProgram → Scope → TypedExpr → List Own
  done_by P L (typed place t (expr.field of c k)) = done_by P L of ++ of_field P (type_of of) (field_at P c k) (λ a. does (reads a))
  done_by P L (typed place t (expr.element a i)) = done_by P L a ++ (done_by P L i ++ of_element L (type_of a) i (λ b. does (reads b)))
  done_by P L (typed place t (expr.array_length a)) = done_by P L a
  done_by P L (typed place t (expr.call of c r regions es)) =
      done_by P L of ++ (done_by_all P L es ++ of_callee P (type_of of) (member_in P (row_at P c r)) regions)
  done_by P L (typed place t (expr.create es)) = done_by_all P L es ++ of_constructor t (constructed P t)
  done_by P L (typed place t (expr.create_array n)) = done_by P L n
  done_by P L (typed place t (expr.unary op e)) = done_by P L e
  done_by P L (typed place t (expr.binary op a b)) = done_by P L a ++ done_by P L b
  done_by P L (typed place t (expr.both a b)) = done_by P L a ++ done_by P L b
  done_by P L (typed place t (expr.either a b)) = done_by P L a ++ done_by P L b
  done_by P L (typed place t (expr.part_element k i)) = done_by P L i ++ of_local (L.local k) (λ a. uses k (reads a))
  done_by P L e = []

  pub done_by_all : PlainProgram → Scope → TypedExprs → List Own
  done_by_all P L no_exprs = []
  done_by_all P L (more_exprs e es) = done_by P L e ++ done_by_all P L es

-- what is cut into parts, with what that does; of each part, its elements and their region
abbrev pub done_by_source : PlainProgram → Scope → Source → List Own
done_by_source P L (of_array e) = done_by P L e
done_by_source P L (of_part k) = []

abbrev pub part_of_type : PlainType → Local
part_of_type (array t a named) = part t a
part_of_type t = reserved

abbrev pub part_of_local : Option Local → Local
part_of_local (Some l) = l
part_of_local None = reserved

abbrev pub part_of : Scope → Source → Local
part_of L (of_array e) = part_of_type (type_of e)
part_of L (of_part k) = part_of_local (L.local k)

-- a part, and the number of the part, are in scope
abbrev pub with_parts : ℕ → Local → Scope → Scope
with_parts k l L = with_local (k + 4) (constant int) (with_local k l L)

abbrev mutual
  -- a statement by itself; a part without braces that declares a local is one too
  pub effects_of : PlainProgram → Scope → TypedStmt → List Own
  effects_of P L (statement at (form.declare x t is_final e)) = done_by P L e
  effects_of P L (statement at (form.store x e)) = done_by P L e
  effects_of P L (statement at (form.store_field o c k e)) =
      done_by P L o ++ (done_by P L e ++ of_field P (type_of o) (field_at P c k) (λ a. does (writes a)))
  effects_of P L (statement at (form.store_element a i e)) =
      done_by P L a ++ (done_by P L i ++ (done_by P L e ++ of_element L (type_of a) i (λ b. does (writes b))))
  effects_of P L (statement at (form.store_part k i e)) = done_by P L i ++ (done_by P L e ++ of_local (L.local k) (λ a. uses k (writes a)))
  effects_of P L (statement at (form.perform e)) = done_by P L e
  effects_of P L (statement at (form.block ss)) = effects_of_all P L ss
  effects_of P L (statement at (form.choice e s)) = done_by P L e ++ effects_of P L s
  effects_of P L (statement at (form.choice_else e s t)) = done_by P L e ++ (effects_of P L s ++ effects_of P L t)
  effects_of P L (statement at (form.while_loop e s)) = done_by P L e ++ effects_of P L s
  effects_of P L (statement at (form.return_value e)) = done_by P L e
  effects_of P L (statement at (form.print_int e)) = done_by P L e
  effects_of P L (statement at (form.print_boolean e)) = done_by P L e
  effects_of P L (statement at (form.atomic entry ss)) = after_block (effects_of_all P L ss)
  effects_of P L (statement at (form.cobegin forking bs)) = after_branches forking (effects_of_branches P L bs)
  effects_of P L (statement at (form.foreach forking x start count s)) =
      done_by P L start ++ (done_by P L count ++ outside_variable x (after_branches forking (effects_of P (with_local x (constant int) L) s)))
  effects_of P L (statement at (form.foreach_parts k source count s)) =
      done_by_source P L source ++ (done_by P L count
      ++ outside_variable (k + 4) (after_branches Deterministic (after_parts k source (effects_of P (with_parts k (part_of L source) L) s))))
  effects_of P L s = []

  -- the statements of a block; a local and local regions are in scope up to its end
  pub effects_of_all : PlainProgram → Scope → TypedStmts → List Own
  effects_of_all P L no_stmts = []
  effects_of_all P L (more_stmts (statement at (form.declare x t is_final e)) ss) =
      done_by P L e ++ outside_variable x (effects_of_all P (with_local x (declared_as is_final t) L) ss)
  effects_of_all P L (more_stmts (statement at (form.local_regions rs)) ss) = outside_regions rs (effects_of_all P L ss)
  effects_of_all P L (more_stmts s ss) = effects_of P L s ++ effects_of_all P L ss

  pub effects_of_branches : PlainProgram → Scope → TypedBranches → List Own
  effects_of_branches P L no_branches = []
  effects_of_branches P L (more_branches copies s bs) = effects_of P L s ++ effects_of_branches P L bs
