-- The scheme of code: one equation a construct. `k` says which numbers are next, and `p` where the code begins.
use Rattle.std.specs.Prelude.{◌&&◌, ℕ, suc, ◌+◌, Bool, true, false, cond, pos, List, [], ◌∷◌, map, Option, Some, None, option_map}
use Rattle.lang_base.specs.declared.place.Place.{Place}
use Rattle.lang_base.specs.declared.region.Head.TheVariants.{Root}
use Rattle.lang_base.specs.declared.value.FirstValue.TheVariants as held
use Rattle.lang_base.specs.FirstValues.{first_value}
use Rattle.lang_base.specs.Types.{PlainType}
use Rattle.lang_base.specs.Types.{PlainType as ty}
use Rattle.lang_typed.specs.declared.stmt.Forking.{Forking}
use Rattle.lang_typed.specs.declared.stmt.Forking.TheVariants.{Deterministic}
use Rattle.lang_typed.specs.Plain.{TypedExpr, typed, type_of, TypedExprs, no_exprs, more_exprs, of_array, of_part, TypedStmt, statement, TypedStmts, no_stmts, more_stmts, TypedBranches, no_branches, more_branches, PlainClass, PlainMember, PlainProgram}
use Rattle.lang_typed.specs.Plain.{ExprForm as expr}
use Rattle.lang_typed.specs.Plain.{StmtForm as form}
use Rattle.lang_typed.specs.Resolved.{is_void}
use Rattle.lang_typed.specs.Scope.{member_at}
use Rattle.lang_typed.specs.Statements.{all_complete}
use Rattle.lang_meaning.specs.Expressions.{class_in}
use Rattle.code_instrs.specs.declared.instr.Instr.TheVariants as i
use Rattle.code_instrs.specs.Plain.{of_branch, Method, ClassCode, Site, fork_site, spread_site, block_site, call_site, new_site, array_site}
use Rattle.code_scheme.specs.Pieces.{Branch, Piece, Next, nothing, line, with_site, with_text, with_branches, then_next}

-- a body that gives no value leaves where it completes
abbrev pub closes : PlainMember → Bool
closes m = is_void m.result && all_complete m.body

abbrev pub many : TypedExprs → ℕ
many no_exprs = 0
many (more_exprs e es) = suc (many es)

-- the place after the code of an expression that begins at p
abbrev mutual
  pub after_expr : ℕ → TypedExpr → ℕ
  after_expr p (typed at t (expr.int n)) = suc p
  after_expr p (typed at t (expr.boolean b)) = suc p
  after_expr p (typed at t expr.null) = suc p
  after_expr p (typed at t (expr.local x)) = suc p
  after_expr p (typed at t (expr.field e c f)) = suc (after_expr p e)
  after_expr p (typed at t (expr.element a j)) = suc (after_expr (after_expr p a) j)
  after_expr p (typed at t (expr.array_length a)) = suc (after_expr p a)
  after_expr p (typed at t (expr.call e c r regions es)) = suc (after_exprs (after_expr p e) es)
  after_expr p (typed at t (expr.create es)) = suc (after_exprs p es)
  after_expr p (typed at t (expr.create_array n)) = suc (after_expr p n)
  after_expr p (typed at t (expr.unary o e)) = suc (after_expr p e)
  after_expr p (typed at t (expr.binary o a b)) = suc (after_expr (after_expr p a) b)
  after_expr p (typed at t (expr.both a b)) = suc (suc (after_expr (suc (after_expr p a)) b))
  after_expr p (typed at t (expr.either a b)) = after_expr (suc (suc (suc (after_expr p a)))) b
  after_expr p (typed at t (expr.part_length x)) = suc p
  after_expr p (typed at t (expr.part_element x j)) = suc (suc (after_expr p j))

  pub after_exprs : ℕ → TypedExprs → ℕ
  after_exprs p no_exprs = p
  after_exprs p (more_exprs e es) = after_exprs (after_expr p e) es

-- a value that isn't used is taken off, where there is one
abbrev pub after_value : PlainType → ℕ → ℕ
after_value t p = cond (is_void t) p (suc p)

abbrev pub after_regions : ℕ → List ℕ → ℕ
after_regions p [] = p
after_regions p (r ∷ rs) = after_regions (suc p) rs

abbrev mutual
  pub after_stmt : ℕ → TypedStmt → ℕ
  after_stmt p (statement at (form.declare x t is_final e)) = suc (after_expr p e)
  after_stmt p (statement at (form.store x e)) = suc (after_expr p e)
  after_stmt p (statement at (form.store_field o c f e)) = suc (after_expr (after_expr p o) e)
  after_stmt p (statement at (form.store_element a j e)) = suc (after_expr (after_expr (after_expr p a) j) e)
  after_stmt p (statement at (form.store_part x j e)) = suc (suc (after_expr (after_expr p j) e))
  after_stmt p (statement at (form.perform e)) = after_value (type_of e) (after_expr p e)
  after_stmt p (statement at (form.block ss)) = after_stmts p ss
  after_stmt p (statement at (form.choice e s)) = after_stmt (suc (after_expr p e)) s
  after_stmt p (statement at (form.choice_else e s t)) = after_stmt (suc (after_stmt (suc (after_expr p e)) s)) t
  after_stmt p (statement at (form.while_loop e s)) = suc (after_stmt (suc (suc (after_expr p e))) s)
  after_stmt p (statement at form.return_nothing) = suc p
  after_stmt p (statement at (form.return_value e)) = suc (after_expr p e)
  after_stmt p (statement at (form.print_int e)) = suc (after_expr p e)
  after_stmt p (statement at (form.print_boolean e)) = suc (after_expr p e)
  after_stmt p (statement at (form.print_text text)) = suc p
  after_stmt p (statement at (form.local_regions rs)) = after_regions p rs
  after_stmt p (statement at (form.atomic effects ss)) = suc (after_stmts (suc p) ss)
  after_stmt p (statement at (form.cobegin forking bs)) = suc (suc p)
  after_stmt p (statement at (form.foreach forking x start count s)) = suc (suc (after_expr (after_expr p start) count))
  after_stmt p (statement at (form.foreach_parts x (of_array a) count s)) =
      suc (suc (suc (suc (suc (suc (suc (suc (after_expr (suc (suc (suc (after_expr p a)))) count))))))))
  after_stmt p (statement at (form.foreach_parts x (of_part y) count s)) =
      suc (suc (suc (suc (suc (suc (suc (after_expr (suc (suc (suc (suc p)))) count)))))))

  pub after_stmts : ℕ → TypedStmts → ℕ
  after_stmts p no_stmts = p
  after_stmts p (more_stmts s ss) = after_stmts (after_stmt p s) ss

-- the site of an array's creation
abbrev pub site_of_array : PlainType → Site
site_of_array (ty.array t a named) = array_site a (first_value t)
site_of_array t = array_site (record { head = Root; elems = [] }) held.Null

abbrev mutual
  pub expr_piece : Next → ℕ → TypedExpr → Piece
  expr_piece k p (typed at t (expr.int n)) = line (i.Int n) at nothing
  expr_piece k p (typed at t (expr.boolean b)) = line (i.Bool b) at nothing
  expr_piece k p (typed at t expr.null) = line i.Null at nothing
  expr_piece k p (typed at t (expr.local x)) = line (i.Load x) at nothing
  expr_piece k p (typed at t (expr.field e c f)) = then_next k (expr_piece k p e) (λ k. line (i.Get f) at nothing)
  expr_piece k p (typed at t (expr.element a j)) =
      then_next k (expr_piece k p a) (λ k. then_next k (expr_piece k (after_expr p a) j) (λ k. line i.Elem at nothing))
  expr_piece k p (typed at t (expr.array_length a)) = then_next k (expr_piece k p a) (λ k. line i.Length at nothing)
  expr_piece k p (typed at t (expr.call e c r regions es)) =
      then_next k (expr_piece k p e) (λ k. then_next k (exprs_piece k (after_expr p e) es) (λ k.
      with_site (call_site c r (many es) regions) (line (i.Call k.site) at nothing)))
  expr_piece k p (typed at t (expr.create es)) =
      then_next k (exprs_piece k p es) (λ k. with_site (new_site (class_in t).0 (many es) (class_in t).1) (line (i.New k.site) at nothing))
  expr_piece k p (typed at t (expr.create_array n)) = then_next k (expr_piece k p n) (λ k. with_site (site_of_array t) (line (i.Array k.site) at nothing))
  expr_piece k p (typed at t (expr.unary o e)) = then_next k (expr_piece k p e) (λ k. line (i.Unary o) at nothing)
  expr_piece k p (typed at t (expr.binary o a b)) =
      then_next k (expr_piece k p a) (λ k. then_next k (expr_piece k (after_expr p a) b) (λ k. line (i.Binary o) at nothing))
  -- [a] unless L1 [b] jump L2; L1: bool false; L2:
  expr_piece k p (typed at t (expr.both a b)) =
      then_next k (expr_piece k p a) (λ k. line (i.Unless (suc (after_expr (suc (after_expr p a)) b))) at
      (then_next k (expr_piece k (suc (after_expr p a)) b) (λ k.
      line (i.Jump (after_expr p (typed at t (expr.both a b)))) at (line (i.Bool false) at nothing))))
  -- [a] unless L1 bool true jump L2; L1: [b]; L2:
  expr_piece k p (typed at t (expr.either a b)) =
      then_next k (expr_piece k p a) (λ k. line (i.Unless (suc (suc (suc (after_expr p a))))) at (line (i.Bool true) at
      (line (i.Jump (after_expr p (typed at t (expr.either a b)))) at (expr_piece k (suc (suc (suc (after_expr p a)))) b))))
  expr_piece k p (typed at t (expr.part_length x)) = line (i.Load (x + 2)) at nothing
  expr_piece k p (typed at t (expr.part_element x j)) = then_next k (expr_piece k p j) (λ k. line (i.InPart x) at (line i.Elem at nothing))

  pub exprs_piece : Next → ℕ → TypedExprs → Piece
  exprs_piece k p no_exprs = nothing
  exprs_piece k p (more_exprs e es) = then_next k (expr_piece k p e) (λ k. exprs_piece k (after_expr p e) es)

-- a value that isn't used is taken off; a void call leaves none
abbrev pub popped : PlainType → Place → Piece
popped t at = cond (is_void t) nothing (line i.Pop at nothing)

abbrev pub numbers : ℕ → TypedBranches → List ℕ
numbers j no_branches = []
numbers j (more_branches copies s bs) = j ∷ numbers (suc j) bs

abbrev pub copy_lists : TypedBranches → List (List ℕ)
copy_lists no_branches = []
copy_lists (more_branches copies s bs) = copies ∷ copy_lists bs

abbrev pub branches_of : ℕ → ℕ → TypedBranches → List Branch
branches_of site b no_branches = []
branches_of site b (more_branches copies s bs) = record { title = of_branch site b; takes = None; stmt = s } ∷ branches_of site (suc b) bs

-- `spread S join`: the body of all branches is generated once
abbrev pub spread_piece : Next → Place → Forking → ℕ → Option ℕ → TypedStmt → Piece
spread_piece k at forking x takes s =
    with_branches (record { title = of_branch k.site 0; takes = takes; stmt = s } ∷ [])
    (with_site (spread_site forking k.body x) (line (i.Spread k.site) at (line i.Join at nothing)))

abbrev pub regions_piece : Place → List ℕ → Piece
regions_piece at [] = nothing
regions_piece at (r ∷ rs) = line (i.Region r) at (regions_piece at rs)

abbrev mutual
  pub stmt_piece : Next → ℕ → TypedStmt → Piece
  stmt_piece k p (statement at (form.declare x t is_final e)) = then_next k (expr_piece k p e) (λ k. line (i.Store x) at nothing)
  stmt_piece k p (statement at (form.store x e)) = then_next k (expr_piece k p e) (λ k. line (i.Store x) at nothing)
  stmt_piece k p (statement at (form.store_field o c f e)) =
      then_next k (expr_piece k p o) (λ k. then_next k (expr_piece k (after_expr p o) e) (λ k. line (i.Put f) at nothing))
  stmt_piece k p (statement at (form.store_element a j e)) =
      then_next k (expr_piece k p a) (λ k. then_next k (expr_piece k (after_expr p a) j) (λ k.
      then_next k (expr_piece k (after_expr (after_expr p a) j) e) (λ k. line i.PutElem at nothing)))
  stmt_piece k p (statement at (form.store_part x j e)) =
      then_next k (expr_piece k p j) (λ k. then_next k (expr_piece k (after_expr p j) e) (λ k. line (i.InParts x) at (line i.PutElem at nothing)))
  stmt_piece k p (statement at (form.perform e)) = then_next k (expr_piece k p e) (λ k. popped (type_of e) at)
  stmt_piece k p (statement at (form.block ss)) = stmts_piece k p ss
  -- [c] unless L1 [s]; L1:
  stmt_piece k p (statement at (form.choice e s)) =
      then_next k (expr_piece k p e) (λ k. line (i.Unless (after_stmt p (statement at (form.choice e s)))) at (stmt_piece k (suc (after_expr p e)) s))
  -- [c] unless L1 [s] jump L2; L1: [t]; L2:
  stmt_piece k p (statement at (form.choice_else e s t)) =
      then_next k (expr_piece k p e) (λ k. line (i.Unless (suc (after_stmt (suc (after_expr p e)) s))) at
      (then_next k (stmt_piece k (suc (after_expr p e)) s) (λ k. line (i.Jump (after_stmt p (statement at (form.choice_else e s t)))) at
      (stmt_piece k (suc (after_stmt (suc (after_expr p e)) s)) t))))
  -- L0: [c] unless L1 turn [s] jump L0; L1:
  stmt_piece k p (statement at (form.while_loop e s)) =
      then_next k (expr_piece k p e) (λ k. line (i.Unless (after_stmt p (statement at (form.while_loop e s)))) at (line i.Turn at
      (then_next k (stmt_piece k (suc (suc (after_expr p e))) s) (λ k. line (i.Jump p) at nothing))))
  stmt_piece k p (statement at form.return_nothing) = line i.Leave at nothing
  stmt_piece k p (statement at (form.return_value e)) = then_next k (expr_piece k p e) (λ k. line i.Return at nothing)
  stmt_piece k p (statement at (form.print_int e)) = then_next k (expr_piece k p e) (λ k. line i.Print at nothing)
  stmt_piece k p (statement at (form.print_boolean e)) = then_next k (expr_piece k p e) (λ k. line i.Print at nothing)
  stmt_piece k p (statement at (form.print_text text)) = with_text text (line (i.Text k.text) at nothing)
  stmt_piece k p (statement at (form.local_regions rs)) = regions_piece at rs
  stmt_piece k p (statement at (form.atomic effects ss)) =
      then_next k (with_site (block_site effects) (line (i.Enter k.site) at nothing)) (λ k.
      then_next k (stmts_piece k (suc p) ss) (λ k. line i.Exit at nothing))
  stmt_piece k p (statement at (form.cobegin forking bs)) =
      with_branches (branches_of k.site 0 bs)
      (with_site (fork_site forking (numbers k.body bs) (copy_lists bs)) (line (i.Fork k.site) at (line i.Join at nothing)))
  stmt_piece k p (statement at (form.foreach forking x start count s)) =
      then_next k (expr_piece k p start) (λ k. then_next k (expr_piece k (after_expr p start) count) (λ k. spread_piece k at forking x None s))
  -- [a] store K, int 0, store K+1, [n] store K+3, load K, length, store K+2, int 0, load K+3, spread S, join
  stmt_piece k p (statement at (form.foreach_parts x (of_array a) count s)) =
      then_next k (expr_piece k p a) (λ k. line (i.Store x) at (line (i.Int (pos 0)) at (line (i.Store (x + 1)) at
      (then_next k (expr_piece k (suc (suc (suc (after_expr p a)))) count) (λ k.
      line (i.Store (x + 3)) at (line (i.Load x) at (line i.Length at (line (i.Store (x + 2)) at
      (line (i.Int (pos 0)) at (line (i.Load (x + 3)) at (spread_piece k at Deterministic (x + 4) (Some x) s)))))))))))
  -- load V, store K, load V+1, store K+1, [n] store K+3, load V+2, store K+2, int 0, load K+3, spread S, join
  stmt_piece k p (statement at (form.foreach_parts x (of_part y) count s)) =
      line (i.Load y) at (line (i.Store x) at (line (i.Load (y + 1)) at (line (i.Store (x + 1)) at
      (then_next k (expr_piece k (suc (suc (suc (suc p)))) count) (λ k.
      line (i.Store (x + 3)) at (line (i.Load (y + 2)) at (line (i.Store (x + 2)) at
      (line (i.Int (pos 0)) at (line (i.Load (x + 3)) at (spread_piece k at Deterministic (x + 4) (Some x) s))))))))))

  pub stmts_piece : Next → ℕ → TypedStmts → Piece
  stmts_piece k p no_stmts = nothing
  stmts_piece k p (more_stmts s ss) = then_next k (stmt_piece k p s) (λ k. stmts_piece k (after_stmt p s) ss)

-- classes, where the body of each member has a number
abbrev pub owner_of : Option PlainMember → ℕ
owner_of None = 0
owner_of (Some m) = m.class

abbrev pub method_code : PlainProgram → (ℕ → ℕ) → ℕ → Method
method_code P number n = record { owner = owner_of (member_at P n); body = number n }

abbrev pub class_code : PlainProgram → (ℕ → ℕ) → PlainClass → ClassCode
class_code P number k = record {
  parent = k.parent;
  fields = map (λ f. first_value f.ty) k.fields;
  constructor = option_map number k.constructor;
  methods = map (method_code P number) k.rows;
}
