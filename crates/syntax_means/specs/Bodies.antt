-- What expressions and statements mean: one rule a construct. What type an expression that makes nothing has, what a branch copies
-- back and by which effects an atomic block is entered is left to the judgement of typed programs.
use Rattle.std.specs.Prelude.{◌≡◌, ℕ, ℤ, ◌+◌, Bool, cond, List, [], ◌∷◌, length, codes, is_some, Option, Some}
use Rattle.lang_base.specs.declared.effect.Effect.{Effect}
use Rattle.lang_base.specs.declared.op.BinaryOp.{BinaryOp}
use Rattle.lang_base.specs.declared.op.LogicOp.TheVariants.{And, Or}
use Rattle.lang_base.specs.declared.op.UnaryOp.{UnaryOp}
use Rattle.lang_base.specs.declared.place.Place.{Place}
use Rattle.lang_base.specs.declared.region.Rpl.{Rpl}
use Rattle.lang_base.specs.Types.{PlainType}
use Rattle.lang_base.specs.Types.{PlainType as ty}
use Rattle.syntax_tree.specs.declared.expr.InfixOp.TheVariants.{Binary, Logic}
use Rattle.syntax_tree.specs.declared.region.BaseTree.{BaseTree}
use Rattle.syntax_tree.specs.declared.region.Named.{Named}
use Rattle.syntax_tree.specs.declared.region.RplTree.{RplTree}
use Rattle.syntax_tree.specs.declared.region.Suffix.{Suffix}
use Rattle.syntax_tree.specs.declared.region.TypeTree.{TypeTree}
use Rattle.syntax_tree.specs.Plain.{PlainExpr, expression, PlainExprs, PlainStmt, statement, PlainStmts}
use Rattle.syntax_tree.specs.Plain as tree
use Rattle.lang_typed.specs.declared.stmt.Forking.{Forking}
use Rattle.lang_typed.specs.declared.stmt.Forking.TheVariants.{Deterministic, Nondeterministic}
use Rattle.lang_typed.specs.Plain.{PlainMember, TypedExpr, typed, TypedExprs, Source, of_array, of_part, TypedStmt, TypedStmts, TypedBranches}
use Rattle.lang_typed.specs.Plain as made
use Rattle.lang_typed.specs.Scope.{row_at, member_at}
use Rattle.syntax_means.specs.Declares.{DeclaresField, MeansIn, method_name, spelled}
use Rattle.syntax_means.specs.Paths.{Around, ArgsMean, NamesClass, FormMeans, PathOrRoot, TypeMeans, beside}

abbrev pub with_local : ℕ → ℕ → Around → Around
with_local name x A = record A { locals = (name, x) ∷ A.locals }

abbrev pub with_regions : List Named → List ℕ → Around → Around
with_regions (named ∷ names) (r ∷ rs) A = with_regions names rs (record A { regions = (named.name, r) ∷ A.regions })
with_regions names rs A = A

-- the field in a slot of a class has the name; the name is that of the length of arrays
abbrev pub FieldIn : Around → ℕ → ℕ → ℕ → Type 0
FieldIn A name c slot = MeansIn A.typed (DeclaresField A.tree A.typed name) c slot

abbrev pub IsLength : Around → ℕ → Type 0
IsLength A name = spelled A.tree name ≡ codes "length"

mutual
  pub data ExprMeans (A : Around) : PlainExpr → TypedExpr → Type 0 where
    an_int : {at : Place} {t : PlainType} {k : ℤ} → ExprMeans A (expression at (tree.int k)) (typed at t (made.int k))
    a_boolean : {at : Place} {t : PlainType} {b : Bool} → ExprMeans A (expression at (tree.boolean b)) (typed at t (made.boolean b))
    a_null : {at : Place} {t : PlainType} → ExprMeans A (expression at tree.null) (typed at t made.null)
    -- `this` has the first slot
    itself : {at : Place} {t : PlainType} → ExprMeans A (expression at tree.this) (typed at t (made.local 0))
    a_local : {at : Place} {t : PlainType} {name x : ℕ} →
        beside A.locals name ≡ Some x → ExprMeans A (expression at (tree.local name)) (typed at t (made.local x))
    a_field : {at : Place} {t : PlainType} {e : PlainExpr} {o : TypedExpr} {name c slot : ℕ} →
        ExprMeans A e o → FieldIn A name c slot → ExprMeans A (expression at (tree.field e name)) (typed at t (made.field o c slot))
    array_length : {at : Place} {t : PlainType} {e : PlainExpr} {a : TypedExpr} {name : ℕ} →
        ExprMeans A e a → IsLength A name → ExprMeans A (expression at (tree.field e name)) (typed at t (made.array_length a))
    an_element : {at : Place} {t : PlainType} {e d : PlainExpr} {a i : TypedExpr} →
        ExprMeans A e a → ExprMeans A d i → ExprMeans A (expression at (tree.element e d)) (typed at t (made.element a i))
    -- the same of a part of an array, which a local is
    part_length : {at place : Place} {t : PlainType} {v k name : ℕ} →
        beside A.locals v ≡ Some k → IsLength A name → ExprMeans A (expression at (tree.field (expression place (tree.local v)) name)) (typed at t (made.part_length k))
    part_element : {at place : Place} {t : PlainType} {d : PlainExpr} {i : TypedExpr} {v k : ℕ} →
        beside A.locals v ≡ Some k → ExprMeans A d i → ExprMeans A (expression at (tree.element (expression place (tree.local v)) d)) (typed at t (made.part_element k i))
    -- the method of that name, by its row in a class
    a_call : {at : Place} {t : PlainType} {e : PlainExpr} {o : TypedExpr} {paths : List RplTree} {regions : List Rpl} {name c r n : ℕ} {m : PlainMember}
        {ds : PlainExprs} {es : TypedExprs} →
        ExprMeans A e o → row_at A.typed c r ≡ Some n → method_name A.tree n ≡ Some name → member_at A.typed n ≡ Some m →
        ArgsMean A [] m.params paths regions → ExprsMean A ds es →
        ExprMeans A (expression at (tree.call e paths name ds)) (typed at t (made.call o c r regions es))
    a_creation : {at : Place} {name : Named} {paths : List RplTree} {c : ℕ} {args : List Rpl} {ds : PlainExprs} {es : TypedExprs} →
        NamesClass A [] name paths c args → ExprsMean A ds es → ExprMeans A (expression at (tree.create name paths ds)) (typed at (ty.class c args) (made.create es))
    an_array : {at : Place} {base : BaseTree} {suffixes : List Suffix} {size : PlainExpr} {path : Option RplTree} {index : Option Named} {t : PlainType} {a : Rpl}
        {named : Bool} {n : TypedExpr} →
        FormMeans A (index ∷ []) base suffixes t → PathOrRoot A (index ∷ []) path a → named ≡ is_some index → ExprMeans A size n →
        ExprMeans A (expression at (tree.create_array base suffixes size path index)) (typed at (ty.array t a named) (made.create_array n))
    one_operand : {at : Place} {t : PlainType} {o : UnaryOp} {e : PlainExpr} {a : TypedExpr} →
        ExprMeans A e a → ExprMeans A (expression at (tree.unary o e)) (typed at t (made.unary o a))
    two_operands : {at : Place} {t : PlainType} {o : BinaryOp} {e d : PlainExpr} {a b : TypedExpr} →
        ExprMeans A e a → ExprMeans A d b → ExprMeans A (expression at (tree.binary (Binary o) e d)) (typed at t (made.binary o a b))
    conjunction : {at : Place} {t : PlainType} {e d : PlainExpr} {a b : TypedExpr} →
        ExprMeans A e a → ExprMeans A d b → ExprMeans A (expression at (tree.binary (Logic And) e d)) (typed at t (made.both a b))
    disjunction : {at : Place} {t : PlainType} {e d : PlainExpr} {a b : TypedExpr} →
        ExprMeans A e a → ExprMeans A d b → ExprMeans A (expression at (tree.binary (Logic Or) e d)) (typed at t (made.either a b))

  pub data ExprsMean (A : Around) : PlainExprs → TypedExprs → Type 0 where
    no_exprs : ExprsMean A tree.no_exprs made.no_exprs
    more_exprs : {d : PlainExpr} {e : TypedExpr} {ds : PlainExprs} {es : TypedExprs} →
        ExprMeans A d e → ExprsMean A ds es → ExprsMean A (tree.more_exprs d ds) (made.more_exprs e es)

abbrev pub forking_of : Bool → Forking
forking_of nd = cond nd Nondeterministic Deterministic

-- what a `foreach_parts` cuts: an array, or a part, which a local is
pub data SourceMeans (A : Around) : PlainExpr → Source → Type 0 where
  an_array : {e : PlainExpr} {a : TypedExpr} → ExprMeans A e a → SourceMeans A e (of_array a)
  a_part : {place : Place} {v k : ℕ} → beside A.locals v ≡ Some k → SourceMeans A (expression place (tree.local v)) (of_part k)

mutual
  pub data StmtMeans : Around → PlainStmt → TypedStmt → Type 0 where
    a_block : {A : Around} {at : Place} {ds : PlainStmts} {ss : TypedStmts} → AllMean A ds ss → StmtMeans A (statement at (tree.block ds)) (made.statement at (made.block ss))
    -- an assignment stands where its target does
    to_local : {A : Around} {at : Place} {to : Named} {x : ℕ} {e : PlainExpr} {v : TypedExpr} →
        beside A.locals to.name ≡ Some x → ExprMeans A e v → StmtMeans A (statement at (tree.assign_local to e)) (made.statement to.place (made.store x v))
    to_field : {A : Around} {at place : Place} {d e : PlainExpr} {o v : TypedExpr} {name c slot : ℕ} →
        ExprMeans A d o → FieldIn A name c slot → ExprMeans A e v →
        StmtMeans A (statement at (tree.assign_field (expression place (tree.field d name)) e)) (made.statement place (made.store_field o c slot v))
    to_element : {A : Around} {at place : Place} {b d e : PlainExpr} {a i v : TypedExpr} →
        ExprMeans A b a → ExprMeans A d i → ExprMeans A e v →
        StmtMeans A (statement at (tree.assign_element (expression place (tree.element b d)) e)) (made.statement place (made.store_element a i v))
    to_part : {A : Around} {at place there : Place} {d e : PlainExpr} {i v : TypedExpr} {name k : ℕ} →
        beside A.locals name ≡ Some k → ExprMeans A d i → ExprMeans A e v →
        StmtMeans A (statement at (tree.assign_element (expression place (tree.element (expression there (tree.local name)) d)) e))
        (made.statement place (made.store_part k i v))
    performed : {A : Around} {at : Place} {e : PlainExpr} {v : TypedExpr} → ExprMeans A e v → StmtMeans A (statement at (tree.perform e)) (made.statement at (made.perform v))
    a_choice : {A : Around} {at : Place} {e : PlainExpr} {v : TypedExpr} {d : PlainStmt} {s : TypedStmt} →
        ExprMeans A e v → PartMeans A d s → StmtMeans A (statement at (tree.choice e d)) (made.statement at (made.choice v s))
    a_choice_else : {A : Around} {at : Place} {e : PlainExpr} {v : TypedExpr} {c d : PlainStmt} {s t : TypedStmt} →
        ExprMeans A e v → PartMeans A c s → PartMeans A d t → StmtMeans A (statement at (tree.choice_else e c d)) (made.statement at (made.choice_else v s t))
    a_while : {A : Around} {at : Place} {e : PlainExpr} {v : TypedExpr} {d : PlainStmt} {s : TypedStmt} →
        ExprMeans A e v → PartMeans A d s → StmtMeans A (statement at (tree.while_loop e d)) (made.statement at (made.while_loop v s))
    a_return : {A : Around} {at : Place} → StmtMeans A (statement at tree.return_nothing) (made.statement at made.return_nothing)
    a_return_value : {A : Around} {at : Place} {e : PlainExpr} {v : TypedExpr} →
        ExprMeans A e v → StmtMeans A (statement at (tree.return_value e)) (made.statement at (made.return_value v))
    print_int : {A : Around} {at : Place} {e : PlainExpr} {v : TypedExpr} → ExprMeans A e v → StmtMeans A (statement at (tree.print e)) (made.statement at (made.print_int v))
    print_boolean : {A : Around} {at : Place} {e : PlainExpr} {v : TypedExpr} →
        ExprMeans A e v → StmtMeans A (statement at (tree.print e)) (made.statement at (made.print_boolean v))
    print_text : {A : Around} {at : Place} {text : List ℕ} → StmtMeans A (statement at (tree.print_text text)) (made.statement at (made.print_text text))
    an_atomic : {A : Around} {at : Place} {entry : List Effect} {ds : PlainStmts} {ss : TypedStmts} →
        AllMean A ds ss → StmtMeans A (statement at (tree.atomic ds)) (made.statement at (made.atomic entry ss))
    a_cobegin : {A : Around} {at : Place} {nd : Bool} {forking : Forking} {ds : PlainStmts} {bs : TypedBranches} →
        forking ≡ forking_of nd → BranchesMean A ds bs → StmtMeans A (statement at (tree.cobegin nd ds)) (made.statement at (made.cobegin forking bs))
    a_foreach : {A : Around} {at : Place} {nd : Bool} {forking : Forking} {var : Named} {x : ℕ} {d e : PlainExpr} {start count : TypedExpr} {b : PlainStmt} {s : TypedStmt} →
        forking ≡ forking_of nd → ExprMeans A d start → ExprMeans A e count → PartMeans (with_local var.name x A) b s →
        StmtMeans A (statement at (tree.foreach nd var d e b)) (made.statement at (made.foreach forking x start count s))
    -- the variable has the slot after the four of the part
    a_foreach_parts : {A : Around} {at : Place} {view var : Named} {k : ℕ} {d e : PlainExpr} {source : Source} {count : TypedExpr} {b : PlainStmt} {s : TypedStmt} →
        SourceMeans A d source → ExprMeans A e count → PartMeans (with_local var.name (k + 4) (with_local view.name k A)) b s →
        StmtMeans A (statement at (tree.foreach_parts view var d e b)) (made.statement at (made.foreach_parts k source count s))

  -- a part or a branch, which has a scope of its own
  pub data PartMeans : Around → PlainStmt → TypedStmt → Type 0 where
    a_part : {A : Around} {d : PlainStmt} {s : TypedStmt} → AllMean A (tree.more_stmts d tree.no_stmts) (made.more_stmts s made.no_stmts) → PartMeans A d s

  -- the statements of a block, one after the other: what one declares is in scope after it, up to the end
  pub data AllMean : Around → PlainStmts → TypedStmts → Type 0 where
    no_stmts : {A : Around} → AllMean A tree.no_stmts made.no_stmts
    more_stmts : {A : Around} {d : PlainStmt} {s : TypedStmt} {ds : PlainStmts} {ss : TypedStmts} →
        StmtMeans A d s → AllMean A ds ss → AllMean A (tree.more_stmts d ds) (made.more_stmts s ss)
    a_declaration : {A : Around} {at : Place} {is_final : Bool} {kind : TypeTree} {t : PlainType} {name x : ℕ} {e : PlainExpr} {v : TypedExpr} {ds : PlainStmts} {ss : TypedStmts} →
        TypeMeans A kind t → ExprMeans A e v → AllMean (with_local name x A) ds ss →
        AllMean A (tree.more_stmts (statement at (tree.declare is_final kind name e)) ds) (made.more_stmts (made.statement at (made.declare x t is_final v)) ss)
    new_regions : {A : Around} {at : Place} {names : List Named} {rs : List ℕ} {ds : PlainStmts} {ss : TypedStmts} →
        length rs ≡ length names → AllMean (with_regions names rs A) ds ss →
        AllMean A (tree.more_stmts (statement at (tree.local_regions names)) ds) (made.more_stmts (made.statement at (made.local_regions rs)) ss)

  pub data BranchesMean : Around → PlainStmts → TypedBranches → Type 0 where
    no_branches : {A : Around} → BranchesMean A tree.no_stmts made.no_branches
    more_branches : {A : Around} {copies : List ℕ} {d : PlainStmt} {s : TypedStmt} {ds : PlainStmts} {bs : TypedBranches} →
        PartMeans A d s → BranchesMean A ds bs → BranchesMean A (tree.more_stmts d ds) (made.more_branches copies s bs)
