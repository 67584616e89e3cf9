-- What stands where in a code: one clause a construct, in the order of the lines.
use Rattle.std.specs.Prelude.{◌≡◌, ◌⊎◌, ℕ, suc, ◌+◌, Bool, true, false, pos, List, [], ◌∷◌, map, Option, Some, None, slice_get, slice_index_or}
use Rattle.lang_base.specs.declared.place.Place.{Place}
use Rattle.lang_typed.specs.declared.stmt.Forking.TheVariants.{Deterministic}
use Rattle.lang_typed.specs.Plain.{TypedExpr, typed, type_of, TypedExprs, no_exprs, more_exprs, of_array, of_part, TypedStmt, statement, TypedStmts, no_stmts, more_stmts, TypedBranches, no_branches, more_branches, PlainMember, PlainProgram}
use Rattle.lang_typed.specs.Plain.{ExprForm as expr}
use Rattle.lang_typed.specs.Plain.{StmtForm as form}
use Rattle.lang_typed.specs.Resolved.{is_void}
use Rattle.lang_typed.specs.Scope.{member_at}
use Rattle.lang_typed.specs.Statements.{all_complete}
use Rattle.lang_meaning.specs.Actions.{Work}
use Rattle.lang_meaning.specs.Expressions.{class_in}
use Rattle.code_instrs.specs.declared.instr.Instr.{Instr}
use Rattle.code_instrs.specs.declared.instr.Instr.TheVariants as i
use Rattle.code_instrs.specs.Plain.{Line, PlainBody, Site, fork_site, spread_site, block_site, call_site, new_site, PlainCode, body_at}
use Rattle.code_instrs.specs.Machine.{copies_of}
use Rattle.code_scheme.specs.Scheme.{closes, many, after_expr, after_exprs, after_stmt, after_stmts, site_of_array, copy_lists, class_code}

-- at p stands this instruction
abbrev pub LineAt : List Line → ℕ → Instr → Place → Type 0
LineAt c p x at = slice_get c p ≡ Some (record { instr = x; place = at })

-- the body of a branch takes its part first, where it has one
abbrev pub first_place : Option ℕ → ℕ
first_place None = 0
first_place (Some x) = 1

module _ (C : PlainCode) where
  -- at p stands an instruction with this site
  pub record SitedAt (c : List Line) (p : ℕ) (x : ℕ → Instr) (at : Place) (site : Site) : Type 0 where
    pub number : ℕ
    pub stands : LineAt c p (x number) at
    pub site_is : slice_get C.sites number ≡ Some site

  abbrev mutual
    pub ExprAt : List Line → ℕ → TypedExpr → Type 0
    ExprAt c p (typed at t (expr.int n)) = LineAt c p (i.Int n) at
    ExprAt c p (typed at t (expr.boolean b)) = LineAt c p (i.Bool b) at
    ExprAt c p (typed at t expr.null) = LineAt c p i.Null at
    ExprAt c p (typed at t (expr.local x)) = LineAt c p (i.Load x) at
    ExprAt c p (typed at t (expr.field e d f)) = ExprAt c p e × LineAt c (after_expr p e) (i.Get f) at
    ExprAt c p (typed at t (expr.element a j)) = ExprAt c p a × ExprAt c (after_expr p a) j × LineAt c (after_expr (after_expr p a) j) i.Elem at
    ExprAt c p (typed at t (expr.array_length a)) = ExprAt c p a × LineAt c (after_expr p a) i.Length at
    ExprAt c p (typed at t (expr.call e d r regions es)) =
        ExprAt c p e × ExprsAt c (after_expr p e) es × SitedAt c (after_exprs (after_expr p e) es) i.Call at (call_site d r (many es) regions)
    ExprAt c p (typed at t (expr.create es)) = ExprsAt c p es × SitedAt c (after_exprs p es) i.New at (new_site (class_in t).0 (many es) (class_in t).1)
    ExprAt c p (typed at t (expr.create_array n)) = ExprAt c p n × SitedAt c (after_expr p n) i.Array at (site_of_array t)
    ExprAt c p (typed at t (expr.unary o e)) = ExprAt c p e × LineAt c (after_expr p e) (i.Unary o) at
    ExprAt c p (typed at t (expr.binary o a b)) = ExprAt c p a × ExprAt c (after_expr p a) b × LineAt c (after_expr (after_expr p a) b) (i.Binary o) at
    ExprAt c p (typed at t (expr.both a b)) =
        ExprAt c p a × LineAt c (after_expr p a) (i.Unless (suc (after_expr (suc (after_expr p a)) b))) at × ExprAt c (suc (after_expr p a)) b ×
        LineAt c (after_expr (suc (after_expr p a)) b) (i.Jump (after_expr p (typed at t (expr.both a b)))) at ×
        LineAt c (suc (after_expr (suc (after_expr p a)) b)) (i.Bool false) at
    ExprAt c p (typed at t (expr.either a b)) =
        ExprAt c p a × LineAt c (after_expr p a) (i.Unless (suc (suc (suc (after_expr p a))))) at × LineAt c (suc (after_expr p a)) (i.Bool true) at ×
        LineAt c (suc (suc (after_expr p a))) (i.Jump (after_expr p (typed at t (expr.either a b)))) at ×
        ExprAt c (suc (suc (suc (after_expr p a)))) b
    ExprAt c p (typed at t (expr.part_length x)) = LineAt c p (i.Load (x + 2)) at
    ExprAt c p (typed at t (expr.part_element x j)) = ExprAt c p j × LineAt c (after_expr p j) (i.InPart x) at × LineAt c (suc (after_expr p j)) i.Elem at

    pub ExprsAt : List Line → ℕ → TypedExprs → Type 0
    ExprsAt c p no_exprs = Unit {0}
    ExprsAt c p (more_exprs e es) = ExprAt c p e × ExprsAt c (after_expr p e) es

  -- a value that isn't used is taken off
  abbrev pub PoppedAt : List Line → ℕ → Bool → Place → Type 0
  PoppedAt c p true at = Unit {0}
  PoppedAt c p false at = LineAt c p i.Pop at

  abbrev pub RegionsAt : List Line → ℕ → Place → List ℕ → Type 0
  RegionsAt c p at [] = Unit {0}
  RegionsAt c p at (r ∷ rs) = LineAt c p (i.Region r) at × RegionsAt c (suc p) at rs

  pub record TakesAt (c : List Line) (x : ℕ) : Type 0 where
    pub place : Place
    pub stands : LineAt c 0 (i.Part x) place

  abbrev pub BeginsAt : List Line → Option ℕ → Type 0
  BeginsAt c None = Unit {0}
  BeginsAt c (Some x) = TakesAt c x

  -- after a branch stands its end, which gives these slots
  pub record BranchEnds (b : PlainBody) (p : ℕ) (copies : List ℕ) : Type 0 where
    pub place : Place
    pub stands : LineAt b.lines p i.End place
    pub gives : copies_of C b.title ≡ copies

  pub record SpreadAt (c : List Line) (p : ℕ) (at : Place) (site : Site) : Type 0 where
    pub spreads : SitedAt c p i.Spread at site
    pub joins : LineAt c (suc p) i.Join at

  pub record ForkAt (c : List Line) (p : ℕ) (at : Place) (site : Site) : Type 0 where
    pub forks : SitedAt c p i.Fork at site
    pub joins : LineAt c (suc p) i.Join at

  -- the count is kept, and the array's length
  abbrev pub ArrayAt : List Line → ℕ → Place → ℕ → Type 0
  ArrayAt c p at x = LineAt c p (i.Store (x + 3)) at × LineAt c (suc p) (i.Load x) at × LineAt c (suc (suc p)) i.Length at × LineAt c (suc (suc (suc p)))
      (i.Store (x + 2)) at

  -- a branch for each part
  abbrev pub PartsAt : List Line → ℕ → Place → ℕ → ℕ → Type 0
  PartsAt c p at x j = LineAt c p (i.Int (pos 0)) at × LineAt c (suc p) (i.Load (x + 3)) at × SpreadAt c (suc (suc p)) at (spread_site Deterministic j (x + 4))

  abbrev mutual
    pub StmtAt : List Line → ℕ → TypedStmt → Type 0
    StmtAt c p (statement at (form.declare x t is_final e)) = ExprAt c p e × LineAt c (after_expr p e) (i.Store x) at
    StmtAt c p (statement at (form.store x e)) = ExprAt c p e × LineAt c (after_expr p e) (i.Store x) at
    StmtAt c p (statement at (form.store_field o d f e)) = ExprAt c p o × ExprAt c (after_expr p o) e × LineAt c (after_expr (after_expr p o) e) (i.Put f) at
    StmtAt c p (statement at (form.store_element a j e)) =
        ExprAt c p a × ExprAt c (after_expr p a) j × ExprAt c (after_expr (after_expr p a) j) e × LineAt c
        (after_expr (after_expr (after_expr p a) j) e) i.PutElem at
    StmtAt c p (statement at (form.store_part x j e)) =
        ExprAt c p j × ExprAt c (after_expr p j) e × LineAt c (after_expr (after_expr p j) e) (i.InParts x) at × LineAt c
        (suc (after_expr (after_expr p j) e)) i.PutElem at
    StmtAt c p (statement at (form.perform e)) = ExprAt c p e × PoppedAt c (after_expr p e) (is_void (type_of e)) at
    StmtAt c p (statement at (form.block ss)) = StmtsAt c p ss
    StmtAt c p (statement at (form.choice e s)) =
        ExprAt c p e × LineAt c (after_expr p e) (i.Unless (after_stmt p (statement at (form.choice e s)))) at × StmtAt c (suc (after_expr p e)) s
    StmtAt c p (statement at (form.choice_else e s t)) =
        ExprAt c p e × LineAt c (after_expr p e) (i.Unless (suc (after_stmt (suc (after_expr p e)) s))) at × StmtAt c (suc (after_expr p e)) s ×
        LineAt c (after_stmt (suc (after_expr p e)) s) (i.Jump (after_stmt p (statement at (form.choice_else e s t)))) at ×
        StmtAt c (suc (after_stmt (suc (after_expr p e)) s)) t
    StmtAt c p (statement at (form.while_loop e s)) =
        ExprAt c p e × LineAt c (after_expr p e) (i.Unless (after_stmt p (statement at (form.while_loop e s)))) at ×
        LineAt c (suc (after_expr p e)) i.Turn at × StmtAt c (suc (suc (after_expr p e))) s ×
        LineAt c (after_stmt (suc (suc (after_expr p e))) s) (i.Jump p) at
    StmtAt c p (statement at form.return_nothing) = LineAt c p i.Leave at
    StmtAt c p (statement at (form.return_value e)) = ExprAt c p e × LineAt c (after_expr p e) i.Return at
    StmtAt c p (statement at (form.print_int e)) = ExprAt c p e × LineAt c (after_expr p e) i.Print at
    StmtAt c p (statement at (form.print_boolean e)) = ExprAt c p e × LineAt c (after_expr p e) i.Print at
    StmtAt c p (statement at (form.print_text text)) = (n : ℕ) × LineAt c p (i.Text n) at × (slice_index_or C.texts n [] ≡ text)
    StmtAt c p (statement at (form.local_regions rs)) = RegionsAt c p at rs
    StmtAt c p (statement at (form.atomic effects ss)) =
        SitedAt c p i.Enter at (block_site effects) × StmtsAt c (suc p) ss × LineAt c (after_stmts (suc p) ss) i.Exit at
    StmtAt c p (statement at (form.cobegin forking bs)) = (js : List ℕ) × ForkAt c p at (fork_site forking js (copy_lists bs)) × BranchesAt bs js
    StmtAt c p (statement at (form.foreach forking x start count s)) =
        (j : ℕ) × ExprAt c p start × ExprAt c (after_expr p start) count ×
        SpreadAt c (after_expr (after_expr p start) count) at (spread_site forking j x) ×
        (StmtAt (body_at C j).lines 0 s × BranchEnds (body_at C j) (after_stmt 0 s) [])
    StmtAt c p (statement at (form.foreach_parts x (of_array a) count s)) =
        (j : ℕ) × ExprAt c p a × LineAt c (after_expr p a) (i.Store x) at × LineAt c (suc (after_expr p a)) (i.Int (pos 0)) at ×
        LineAt c (suc (suc (after_expr p a))) (i.Store (x + 1)) at × ExprAt c (suc (suc (suc (after_expr p a)))) count ×
        ArrayAt c (after_expr (suc (suc (suc (after_expr p a)))) count) at x ×
        PartsAt c (suc (suc (suc (suc (after_expr (suc (suc (suc (after_expr p a)))) count))))) at x j ×
        (TakesAt (body_at C j).lines x × StmtAt (body_at C j).lines 1 s × BranchEnds (body_at C j) (after_stmt 1 s) [])
    StmtAt c p (statement at (form.foreach_parts x (of_part y) count s)) =
        (j : ℕ) × LineAt c p (i.Load y) at × LineAt c (suc p) (i.Store x) at × LineAt c (suc (suc p)) (i.Load (y + 1)) at ×
        LineAt c (suc (suc (suc p))) (i.Store (x + 1)) at × ExprAt c (suc (suc (suc (suc p)))) count ×
        LineAt c (after_expr (suc (suc (suc (suc p)))) count) (i.Store (x + 3)) at ×
        LineAt c (suc (after_expr (suc (suc (suc (suc p)))) count)) (i.Load (y + 2)) at ×
        LineAt c (suc (suc (after_expr (suc (suc (suc (suc p)))) count))) (i.Store (x + 2)) at ×
        PartsAt c (suc (suc (suc (after_expr (suc (suc (suc (suc p)))) count)))) at x j ×
        (TakesAt (body_at C j).lines x × StmtAt (body_at C j).lines 1 s × BranchEnds (body_at C j) (after_stmt 1 s) [])

    pub StmtsAt : List Line → ℕ → TypedStmts → Type 0
    StmtsAt c p no_stmts = Unit {0}
    StmtsAt c p (more_stmts s ss) = StmtAt c p s × StmtsAt c (after_stmt p s) ss

    -- the bodies of the branches have these numbers
    pub BranchesAt : TypedBranches → List ℕ → Type 0
    BranchesAt no_branches js = js ≡ []
    BranchesAt (more_branches copies s bs) js =
        (j : ℕ) × (rest : List ℕ) × (js ≡ j ∷ rest) × (StmtAt (body_at C j).lines 0 s × BranchEnds (body_at C j) (after_stmt 0 s) copies) × BranchesAt bs rest

  -- the end of the body of a member, where it leaves
  abbrev pub MemberEnds : List Line → ℕ → Bool → Type 0
  MemberEnds c p true = (at : Place) × LineAt c p i.Leave at
  MemberEnds c p false = Unit {0}

  pub record MemberIs (b : PlainBody) (m : PlainMember) : Type 0 where
    pub slots : b.slots ≡ m.slots
    pub local_regions : b.local_regions ≡ m.local_regions
    pub stmts : StmtsAt b.lines 0 m.body
    pub ends : MemberEnds b.lines (after_stmts 0 m.body) (closes m)

  -- how the body of a task ends where it comes to its end
  abbrev pub EndsAt : PlainBody → ℕ → Work → Bool → Type 0
  EndsAt b p w true = ((at : Place) × LineAt b.lines p i.Leave at) ⊎ (all_complete w.stmts ≡ false)
  EndsAt b p w false = BranchEnds b p w.copies

  -- a body is that of a task
  pub record BodyIs (b : PlainBody) (w : Work) : Type 0 where
    pub begins : BeginsAt b.lines w.takes
    pub stmts : StmtsAt b.lines (first_place w.takes) w.stmts
    pub ends : EndsAt b (after_stmts (first_place w.takes) w.stmts) w w.is_root

-- the code is laid out by the scheme, where the body of each member has this number
pub record LaidOut (C : PlainCode) (P : PlainProgram) (number : ℕ → ℕ) : Type 0 where
  pub classes : C.classes ≡ map (class_code P number) P.classes
  pub members : (n : ℕ) (m : PlainMember) → member_at P n ≡ Some m → MemberIs C (body_at C (number n)) m
