-- The parts of a `foreach_parts`: what is said of each way through the code that checks one.
use Rattle.std.proofs.Common.{◌≡◌, ◌∙◌, ◌+◌, ℕ, Bool, false, not, Option, None, Some, option_map, refl, sym, ap}
use Rattle.lang_base.specs.declared.refusal.Kind.{Kind}
use Rattle.lang_base.specs.declared.refusal.Kind.TheVariants as kind
use Rattle.lang_base.specs.declared.refusal.Refusal.{Refusal}
use Rattle.lang_base.specs.declared.ty.Ty.{Ty, fold-roll-Ty}
use Rattle.lang_base.specs.declared.ty.Ty.TheVariants as ty
use Rattle.lang_base.specs.declared.ty.Ty.TheVariants.{rolls-Void}
use Rattle.lang_base.specs.Types.{PlainType, plain_type, type_step}
use Rattle.lang_base.specs.Types.{PlainType as plain}
use Rattle.region_interfere.specs.Uses.{parts_interfere}
use Rattle.syntax_tree.specs.declared.region.Named.{Named}
use Rattle.syntax_tree.specs.declared.expr.Expr.{Expr}
use Rattle.syntax_tree.specs.Plain.{PlainExpr, PlainStmt, plain_expr}
use Rattle.syntax_tree.specs.Plain.{StmtForm as form}
use Rattle.lang_typed.specs.declared.expr.Expr.{Expr as Made}
use Rattle.lang_typed.specs.declared.stmt.PartSource.TheVariants as source
use Rattle.lang_typed.specs.Plain.{TypedExpr, TypedStmt, Source, plain_source}
use Rattle.lang_typed.specs.Plain as typed
use Rattle.body_exprs.specs.declared.env.Env.{Env}
use Rattle.body_exprs.specs.declared.env.LocalRow.{LocalRow}
use Rattle.body_exprs.specs.declared.typed.Typed.{Typed}
use Rattle.body_exprs.specs.declared.typed.Typed.TheVariants as given
use Rattle.body_exprs.specs.declared.found.Found.{Found}
use Rattle.body_exprs.specs.Answer.{gives}
use Rattle.body_exprs.specs.Env.{bare, given_in, part_of, slots_in, part_declared}
use Rattle.body_exprs.specs.Typed.{may_be, is_int, node_at, plain_node, plain_typed, type_in}
use Rattle.body_exprs.specs.Typing.{Typing}
use Rattle.body_check.specs.Methods.{atomic_params}
use Rattle.body_check.specs.declared.node.Around.{Around}
use Rattle.body_check.specs.declared.node.Node.{Node}
use Rattle.body_check.specs.declared.parts.Whole.{Whole as Cut}
use Rattle.body_check.specs.Checking.{check_form, check_scope, cut, cut_array, meeting, part_slot, parts_declared, parts_left, parts_noted, plain_whole, variable_declared, Whole}
use Rattle.body_check.specs.Deciding.{whole_fault, interference}
use Rattle.body_check.specs.Around.{inside}
use Rattle.body_check.specs.Noting.{with_fault_if, with_found}
use Rattle.body_check.specs.Simple.{declaration_noted, node_of}
use Rattle.body_check.specs.Touching.{assigns_outer}
use Rattle.body_check.specs.Walks.{Verdict, Walk, passes, refused, apart_from, scope_so, walk_of}
use Rattle.body_check.proofs.Homes.{parts_at_home}
use Rattle.body_check.proofs.Nodes.{node_is, node_made}
use Rattle.body_check.proofs.Types.{came_back}

-- the array and the count, and the faults that are noted up to the body
pub record Opened (b : Env) (node seen number first : Node) (view var : Named) (array count : PlainExpr) (f g h : Found) (whole : Cut)
    (t : Option TypedExpr) : Type 0 where
  pub cuts : cut array (walk_of b f) ≡ passes (plain_whole whole) (walk_of b g)
  pub seen_is : seen ≡ with_found node whole.fault
  pub counts : Typing b count g (gives t h)
  pub number_is : number ≡ with_fault_if seen kind.Type (not (may_be is_int (type_in t)))
  pub first_is : first ≡ parts_noted b view var whole.ty number

-- the body of a part
abbrev body_in : Env → Around → Named → Named → PlainStmt → Found → Cut → Env → Found → TypedStmt → Type 0
body_in b around view var body h whole s inner piece =
    check_scope (atomic_params b) (inside around) body (apart_from (scope_so (walk_of b h) (parts_declared b view var whole.ty))) ≡ passes piece (walk_of s inner)

pub body_refused : {b : Env} (around : Around) {node seen number first : Node} {view var : Named} {array count : PlainExpr} (body : PlainStmt)
    {f g h : Found} {whole : Cut} {t : Option TypedExpr} (q : Refusal) → Opened b node seen number first view var array count f g h whole t →
    check_scope (atomic_params b) (inside around) body (apart_from (scope_so (walk_of b h) (parts_declared b view var whole.ty))) ≡ refused q →
    check_form (atomic_params b) around node (form.foreach_parts view var array count body) (walk_of b f) ≡ refused q
body_refused around body {whole = whole} q k d = rw (k.cuts, k.counts, came_back whole.ty, d)

-- the body of a part that passed, as it was found
pub record Part (b s : Env) (around : Around) (node seen number first : Node) (view var : Named) (array count : PlainExpr) (body : PlainStmt)
    (f g h inner : Found) (whole : Cut) (t : Option TypedExpr) (piece : TypedStmt) : Type 0 where
  pub opened : Opened b node seen number first view var array count f g h whole t
  pub in_scope : body_in b around view var body h whole s inner piece

-- what becomes of the construct, by whether its branches interfere
abbrev pub parts_met : Env → Node → ℕ → PlainStmt → Found → TypedStmt → Walk → Verdict TypedStmt
parts_met env first part body found made w =
    meeting first (assigns_outer body) (interference false) (parts_interfere (given_in env) part (part + 4) found.effects found.uses) made w

abbrev pub parts_made : Env → Node → PlainExpr → Cut → Option TypedExpr → TypedStmt → TypedStmt
parts_made b node count whole t piece =
    typed.statement node.place (typed.foreach_parts (part_slot b) (plain_source whole.source) (node_of count t) piece)

abbrev pub parts_closed : Env → Env → Found → Cut → Found → Found → Walk
parts_closed b s f whole h inner = parts_left (part_slot b) (walk_of b f) (plain_source whole.source) h (walk_of s inner)

parted : {b s : Env} {around : Around} {node seen number first : Node} {view var : Named} {array count : PlainExpr} {body : PlainStmt}
    {f g h inner : Found} {whole : Cut} {t : Option TypedExpr} {piece : TypedStmt} →
    Part b s around node seen number first view var array count body f g h inner whole t piece →
    check_form (atomic_params b) around node (form.foreach_parts view var array count body) (walk_of b f)
    ≡ parts_met b first (part_slot b) body inner (parts_made b node count whole t piece) (parts_closed b s f whole h inner)
parted {whole = whole} k =
    rw (k.opened.cuts, k.opened.counts, came_back whole.ty, k.in_scope, ← k.opened.seen_is, ← k.opened.number_is, ← k.opened.first_is)

pub parts_are : {b s : Env} {around : Around} {node seen number first : Node} {view var : Named} {array count : PlainExpr} {body : PlainStmt}
    {f g h inner : Found} {whole : Cut} {t : Option TypedExpr} {piece : TypedStmt} (part : ℕ) (env : Env) (v : Verdict TypedStmt) →
    Part b s around node seen number first view var array count body f g h inner whole t piece → bare s ≡ bare b → bare env ≡ bare s →
    part ≡ slots_in b →
    parts_met env first part body inner (parts_made b node count whole t piece) (parts_closed b s f whole h inner) ≡ v →
    check_form (atomic_params b) around node (form.foreach_parts view var array count body) (walk_of b f) ≡ v
parts_are {b} {s} {node = node} {first = first} {count = count} {body} {f} {h = h} {inner} {whole} {t} {piece} part env v k home env_is part_is d =
    parted k
    ∙ ap (λ (z : Bool). meeting first (assigns_outer body) (interference false) z (parts_made b node count whole t piece) (parts_closed b s f whole h inner))
    (sym (parts_at_home b env part (part + 4) inner.effects inner.uses (env_is ∙ home)
    ∙ ap (λ (z : ℕ). parts_interfere (given_in b) z (z + 4) inner.effects inner.uses) part_is))
    ∙ d

-- the part and the variable, one after the other
pub opens_noted : (view var : Named) (t : Ty) (b p : Env) (node first second : Node) → p ≡ part_declared b view.name t →
    first ≡ declaration_noted b view.name view.place node → second ≡ declaration_noted p var.name var.place first →
    second ≡ parts_noted b view var t node
opens_noted view var t b p node first second part_is first_is second_is =
    second_is ∙ ap (λ (z : Env). declaration_noted z var.name var.place first) part_is
    ∙ ap (declaration_noted (part_declared b view.name t) var.name var.place) first_is

pub opens_declared : (view var : Named) (t : Ty) (b p v : Env) → p ≡ part_declared b view.name t →
    v ≡ variable_declared p var → v ≡ parts_declared b view var t
opens_declared view var t b p v part_is is = is ∙ ap (λ (z : Env). variable_declared z var) part_is

-- what is cut: the part of a row, or what an array expression gives
abbrev pub row_whole : LocalRow → Cut
row_whole row = record { ty = row.ty; source = source.Part (record { number = row.slot }); fault = None }

part_is : (o : Option LocalRow) (whole : Cut) → option_map row_whole o ≡ Some whole → (row : LocalRow) × (o ≡ Some row) × (whole ≡ row_whole row)
part_is None whole is = absurd (cc)
part_is (Some row) whole is = (row, refl, some_same (row_whole row) whole is)
  where
    some_same : (a b : Cut) → Some a ≡ Some b → b ≡ a
    some_same a b e = cc

pub no_part : (o : Option LocalRow) → option_map row_whole o ≡ None → o ≡ None
no_part None is = refl
no_part (Some row) is = absurd (cc)

pub part_cut : (array : PlainExpr) (w : Walk) (found : Option Cut) (whole : Cut) → found ≡ option_map row_whole (part_of w.env array) → found ≡ Some whole →
    cut array w ≡ passes (plain_whole whole) w
part_cut array w found whole was is =
    let p = part_is (part_of w.env array) whole (sym was ∙ is) in
    rw p.1 (ap (λ (z : Cut). passes (plain_whole z) w) (sym p.2))

abbrev whole_with : PlainType → Source → Option Kind → Whole
whole_with t source fault = record { ty = t; source = source; fault = fault }

pub known_whole : (array : Expr) (t : Typed) (e : Made) (copied : Ty) (fault : Option Kind) → t ≡ given.Known e → copied ≡ e.ty →
    fault ≡ whole_fault (plain_type e.ty) →
    plain_whole (record { ty = copied; source = source.Array e; fault = fault }) ≡ cut_array (plain_expr array) (plain_typed t)
known_whole array t e copied fault is same reported =
    ap (λ (z : Ty). whole_with (plain_type z) (plain_source (source.Array e)) fault) same
    ∙ ap (λ (z : TypedExpr). whole_with (plain_type e.ty) (typed.of_array z) fault) (node_is e)
    ∙ ap (whole_with (plain_type e.ty) (typed.of_array (plain_node e))) reported ∙ ap (λ (z : Typed). cut_array (plain_expr array) (plain_typed z)) (sym is)

plain_void : plain_type ty.Void ≡ plain.void
plain_void = ap plain_type (sym rolls-Void) ∙ fold-roll-Ty PlainType type_step _

pub any_whole : (array : Expr) (t : Typed) (e : Made) → t ≡ given.Any → plain_node e ≡ node_at array.place (plain_typed given.Any) →
    plain_whole (record { ty = ty.Void; source = source.Array e; fault = None }) ≡ cut_array (plain_expr array) (plain_typed t)
any_whole array t e is made_is =
    ap (λ (z : PlainType). whole_with z (plain_source (source.Array e)) None) plain_void
    ∙ ap (λ (z : TypedExpr). whole_with plain.void (typed.of_array z) None) (node_is e ∙ node_made array e None made_is)
    ∙ ap (λ (z : Typed). cut_array (plain_expr array) (plain_typed z)) (sym is)
